-- The layout section by section, as the code cuts it. The public contract does not rest on it.
use Rattle.std.specs.Prelude.{◌≡◌, ℕ, ◌+◌, List, [], ◌∷◌, length, drop, Ok, Err, Result, ◌==◌}
use Rattle.std.specs.Simd.{first_chunks}
use Rattle.sheet.specs.declared.refusal.Refusal.{Refusal}
use Rattle.sheet.specs.declared.refusal.Reason.TheVariants.{LeftOver}
use Rattle.sheet.specs.Sections.{Row, Sheet, Shape}
use Rattle.sheet.specs.Tries.{must, first_fault}
use Rattle.sheet.specs.Accept.{refusal, count_in, span, section_tries, judged}

-- section s at the front of the bytes: its rows and the bytes behind it, or its first fault
unfoldable pub section : ℕ → Shape → List ℕ → Result (List Row × List ℕ) Refusal
section s h bs = judged (first_chunks h.width (count_in bs) (drop 1 bs), drop (span h bs) bs) (first_fault (section_tries s h bs))

abbrev pub put : List Row → Result Sheet Refusal → Result Sheet Refusal
put rs (Ok t) = Ok (rs ∷ t)
put rs (Err f) = Err f

abbrev pub after : Result (List Row × List ℕ) Refusal → (List ℕ → Result Sheet Refusal) → Result Sheet Refusal
after (Ok p) more = put p.0 (more p.1)
after (Err f) more = Err f

-- the sections from number s on, with nothing behind them
abbrev pub sections : ℕ → List Shape → List ℕ → Result Sheet Refusal
sections s [] bs = judged [] (must (length bs == 0) (refusal LeftOver s 0))
sections s (h ∷ hs) bs = after (section s h bs) (sections (s + 1) hs)

-- the answer r holds by `means` what is given
abbrev pub Tells : {X Y : Type 0} → (X → Y) → Result Y Refusal → Result X Refusal → Type 0
Tells means v (Ok x) = v ≡ Ok (means x)
Tells means v (Err f) = v ≡ Err f
