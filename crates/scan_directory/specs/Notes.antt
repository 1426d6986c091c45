-- What is noted of a service directory, and in which words.
use Rattle.std.specs.Prelude.{ℕ, List, codes}
use Rattle.scan_directory.specs.declared.dir_note.DirNote.{DirNote}
use Rattle.scan_directory.specs.declared.dir_note.DirNote.TheVariants as note
use Rattle.program_files.specs.declared.program_fault.ProgramFault.{ProgramFault}
use Rattle.program_files.specs.declared.program_fault.ProgramFault.TheVariants as fault

-- the word of what is wrong with `run`
abbrev pub run_word : ProgramFault → List ℕ
run_word fault.NotExecutable = codes "RunMode"
run_word fault.NotRegular = codes "RunFile"
run_word fault.Empty = codes "RunFile"
run_word fault.NoInterpreter = codes "RunInterpreter"
run_word fault.CarriageReturn = codes "RunInterpreter"
run_word fault.InterpreterAbsent = codes "RunInterpreter"
run_word fault.InterpreterRelative = codes "RunInterpreter"
run_word fault.InterpreterUnusable = codes "RunInterpreter"

-- the word of what is wrong with `finish`
abbrev pub finish_word : ProgramFault → List ℕ
finish_word fault.NotExecutable = codes "FinishMode"
finish_word fault.NotRegular = codes "FinishFile"
finish_word fault.Empty = codes "FinishFile"
finish_word fault.NoInterpreter = codes "FinishInterpreter"
finish_word fault.CarriageReturn = codes "FinishInterpreter"
finish_word fault.InterpreterAbsent = codes "FinishInterpreter"
finish_word fault.InterpreterRelative = codes "FinishInterpreter"
finish_word fault.InterpreterUnusable = codes "FinishInterpreter"

-- the word of a note
abbrev pub note_word : DirNote → List ℕ
note_word note.NotifyFd = codes "NotifyFd"
note_word note.TimeoutKill = codes "TimeoutKill"
note_word note.TimeoutFinish = codes "TimeoutFinish"
note_word note.MaxDeathTally = codes "MaxDeathTally"
note_word note.MaxDeathTallyOver = codes "MaxDeathTally"
note_word note.DownSignal = codes "DownSignal"
note_word (note.Run f) = run_word f
note_word (note.Finish f) = finish_word f
note_word note.Log = codes "Log"
note_word note.LockFd = codes "LockFd"
note_word note.NewPidns = codes "NewPidns"
note_word note.Instances = codes "Instances"
