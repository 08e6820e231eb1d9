-- A row tried by its reasons, and by the tries of the definitions.
use Rattle.std.proofs.Common.{◌≡◌, ℕ, Bool, true, false, Some, None, Ok, Err, refl}
use Rattle.sheet.specs.Entry.{Entry}
use Rattle.sheet.specs.declared.refusal.Reason.{Reason}
use Rattle.sheet.specs.declared.refusal.Refusal.{Refusal}
use Rattle.sheet.specs.Tries.{Try, must, or_else, first_fault}
use Rattle.sheet.specs.Rules.{Checks}
use Rattle.sheet.specs.Accept.{refusal, entry_tries}
use Rattle.rules.specs.Walk.{by_reason, row_reason}

module _ (s i : ℕ) where
  -- a reason, at row i of section s
  abbrev pub placed : Try Reason → Try Refusal
  placed None = None
  placed (Some y) = Some (refusal y s i)

  must_placed : (b : Bool) (y : Reason) → placed (must b y) ≡ must b (refusal y s i)
  must_placed true y = refl
  must_placed false y = refl

  or_else_placed : (t u : Try Reason) → placed (or_else t u) ≡ or_else (placed t) (placed u)
  or_else_placed None u = refl
  or_else_placed (Some y) u = refl

  module _ {X : Type 0} (checks : X → Checks) where
    pub tries_placed : (e : Entry X) → first_fault (entry_tries s i checks e) ≡ placed (row_reason checks e)
    tries_placed (Ok None) = refl
    tries_placed (Err f) = refl
    tries_placed (Ok (Some x)) =
        simp (or_else_placed, must_placed)

  pub kept_none : (t : Try Reason) → by_reason t ≡ Ok tt → placed t ≡ None
  kept_none None e = refl
  kept_none (Some y) e = cc

  pub refused_some : (t : Try Reason) (y : Reason) → by_reason t ≡ Err y → placed t ≡ Some (refusal y s i)
  refused_some None y e = cc
  refused_some (Some z) y e = cc
