-- What is wrong with a program, and with its interpreter, by what stands at their paths.
use Rattle.std.specs.Prelude.{Bool, true, false, Option, Some, None}
use Rattle.program_files.specs.declared.program_fault.ProgramFault.{ProgramFault}
use Rattle.program_files.specs.declared.program_fault.ProgramFault.TheVariants as fault
use Rattle.program_files.specs.declared.programs.FileState.{FileState}
use Rattle.program_files.specs.declared.programs.FileState.TheVariants as state

-- what is wrong with the file of a program; one that isn't there is no program
abbrev pub fault_of_program : FileState → Option ProgramFault
fault_of_program state.Executable = None
fault_of_program state.NotExecutable = Some fault.NotExecutable
fault_of_program state.NotRegular = Some fault.NotRegular
fault_of_program state.Absent = None
fault_of_program state.Unknown = None

-- what is wrong with an interpreter whose path is absolute, or not
abbrev pub fault_of_interpreter : Bool → FileState → Option ProgramFault
fault_of_interpreter is_absolute state.Executable = None
fault_of_interpreter is_absolute state.NotExecutable = Some fault.InterpreterUnusable
fault_of_interpreter is_absolute state.NotRegular = Some fault.InterpreterUnusable
fault_of_interpreter true state.Absent = Some fault.InterpreterAbsent
fault_of_interpreter false state.Absent = Some fault.InterpreterRelative
fault_of_interpreter is_absolute state.Unknown = None
