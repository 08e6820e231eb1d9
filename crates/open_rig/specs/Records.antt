-- The state that the records of an open rig stand for.
use Rattle.std.specs.Prelude.{ℕ, List, map, ℤ}
use Rattle.running.specs.States.{State}
use Rattle.open_rig.specs.declared.record.ComponentRecord.{ComponentRecord}
use Rattle.open_rig.specs.declared.record.ElementRecord.{ElementRecord}

abbrev pub modes_of : List ComponentRecord → List ℕ
modes_of rs = map (λ r. r.mode) rs

abbrev pub values_of : List ElementRecord → List ℤ
values_of rs = map (λ r. r.value) rs

abbrev pub state_of_records : List ComponentRecord → List ElementRecord → State
state_of_records cs es = record { modes = modes_of cs; held = values_of es }
