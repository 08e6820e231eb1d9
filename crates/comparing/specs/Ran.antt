-- What a call and a list of calls leave of a rig.
use Rattle.std.specs.Prelude.{◌≡◌, List}
use Rattle.rig.specs.Meaning.{Meaning, with_state}
use Rattle.sheet.specs.Sections.{Sheet}
use Rattle.cutting.specs.declared.kinds.RunCall.{RunCall}
use Rattle.cutting.specs.Agreement.{after_call, after_run}

-- After a call the rig fits, its rows are as before, and what it means is as before but for its state, which is the one
-- after the call.
pub record Called (fits : Type 0) (rows_before rows_after : Sheet) (before after : Meaning) (x : RunCall) : Type 0 where
  pub still_fits : fits
  pub rows_kept : rows_after ≡ rows_before
  pub moved : after ≡ with_state before (after_call rows_before before.state x)

-- The same after a list of calls.
pub record Ran (fits : Type 0) (rows_before rows_after : Sheet) (before after : Meaning) (xs : List RunCall) : Type 0 where
  pub still_fits : fits
  pub rows_kept : rows_after ≡ rows_before
  pub moved : after ≡ with_state before (after_run rows_before before.state xs)
