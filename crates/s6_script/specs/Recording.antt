-- Which inputs can be written into a script.
use Rattle.std.specs.Prelude.{◌≤◌, length}
use Rattle.tree_core.specs.declared.input.Input.{Input}
use Rattle.s6_script.specs.Spelling.{IsSpelt}
use Rattle.s6_script.specs.Script.{input_line}
use Rattle.s6_script.specs.declared.writing.WriteFault.{WriteFault}
use Rattle.s6_script.specs.declared.writing.WriteFault.TheVariants as writes
use Rattle.s6_script.specs.declared.recording.SpellFault.{SpellFault}
use Rattle.s6_script.specs.declared.recording.SpellFault.TheVariants.{Write, NoMemory}

-- the input has a spelling, and its line is within the limit
pub record FitsLine {A : Type 0} (i : Input A) : Type 0 where
  pub spelt : IsSpelt i
  pub within : length (input_line i) ≤ 65536

-- the fault of a record for a failed write
abbrev pub spell_fault_of : WriteFault → SpellFault
spell_fault_of writes.Write = Write
spell_fault_of writes.NoMemory = NoMemory
