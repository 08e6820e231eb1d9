-- What is said of a line that gives no case.
use Rattle.std.specs.Prelude.{ℕ, List, codes}
use Rattle.case_table.specs.declared.fault.LineFault.{LineFault}
use Rattle.case_table.specs.declared.fault.LineFault.TheVariants.{NoCase, OutOfMemory}

abbrev pub fault_text : LineFault → List ℕ
fault_text NoCase = codes "no case"
fault_text OutOfMemory = codes "out of memory"
