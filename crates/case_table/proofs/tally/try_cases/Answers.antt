use Rattle.std.proofs.Common.{◌≡◌, ℕ, ◌+◌, ◌-◌, ◌^◌, min, Bool, true, false, if◌then◌else◌, Ok, sym, ap, ◌∙◌}
use Rattle.case_table.proofs.tally.try_cases.Goals as goal

-- one more answer, where none is wrong
still_none : (P : Bool → Type 0) (b : Bool) (w w' : ℕ) → P b → w' ≡ (if b then w else min (w + 1) (2 ^ 64 - 1)) → (P false → ⊥) → w ≡ 0 → w' ≡ 0
still_none P true w w' p e never z = e ∙ z
still_none P false w w' p e never z = absurd (never p)

-- one more answer, where none is right
still_all : (P : Bool → Type 0) (b : Bool) (t t' w w' : ℕ) → P b → t' ≡ min (t + 1) (2 ^ 64 - 1) → w' ≡ (if b then w else min (w + 1) (2 ^ 64 - 1)) → (P true → ⊥) → w ≡ t → w' ≡ t'
still_all P true t t' w w' p f e never z = absurd (never p)
still_all P false t t' w w' p f e never z = e ∙ ap (λ k. min (k + 1) (2 ^ 64 - 1)) z ∙ sym f

pub loop-line-preserved : goal.loop-line-preserved
loop-line-preserved g c =
    let before = c.loop-line.invariant in
    let text = c.part-text.result in
    let b = c.in_ok-is_right.field-0 in
    let given = c.in_ok-is_right.ensures in (
      before.0,
      λ never. still_none (λ b. goal.F-post g c.args.is_right text (Ok b)) b _ _ given c.count.ensures.wrong (never text) (before.1 never),
      λ never. still_all (λ b. goal.F-post g c.args.is_right text (Ok b)) b _ _ _ _ given c.count.ensures.tried c.count.ensures.wrong (never text) (before.2 never),
    )
