-- The sentences about what is noted of a service.
use Rattle.std.specs.Prelude.{ℕ, List, [], ◌++◌, Bool, true, false, Option, Some, None, codes, nat_le}
use Rattle.scan_directory.specs.declared.dir_note.DirNote.{DirNote}
use Rattle.scan_directory.specs.declared.dir_note.DirNote.TheVariants as note
use Rattle.program_files.specs.declared.program_fault.ProgramFault.{ProgramFault}
use Rattle.program_files.specs.declared.program_fault.ProgramFault.TheVariants as fault

-- /bin/sh starts a `run` whose readiness is told on 3 to 9
abbrev pub is_by_shell : Option ℕ → Bool
is_by_shell (Some descriptor) = nat_le 3 descriptor
is_by_shell None = false

-- what comes of a program with this fault, where /bin/sh starts it, or not
abbrev pub outcome_words : ProgramFault → Bool → List ℕ
outcome_words fault.CarriageReturn by_shell = codes " can't run as it is written: "
outcome_words fault.Empty true = codes " is read by /bin/sh as a script of its own: "
outcome_words fault.NoInterpreter true = codes " is read by /bin/sh as a script of its own: "
outcome_words other by_shell = codes " can't be started: "

-- why that comes of it
abbrev pub cause_words : ProgramFault → List ℕ
cause_words fault.NotExecutable = codes "nobody may execute it"
cause_words fault.NotRegular = codes "it is no regular file"
cause_words fault.Empty = codes "it is empty"
cause_words fault.NoInterpreter = codes "its first line names no interpreter, as #!/bin/sh does"
cause_words fault.CarriageReturn = codes "its first line ends with a carriage return"
cause_words fault.InterpreterAbsent = codes "the interpreter of its first line isn't there"
cause_words fault.InterpreterRelative = codes "the interpreter of its first line has no slash in front, and isn't in its directory"
cause_words fault.InterpreterUnusable = codes "the interpreter of its first line is no file that may be executed"

abbrev pub program_sentence : List ℕ → ProgramFault → Bool → List ℕ
program_sentence program f by_shell = codes "its " ++ (program ++ (outcome_words f by_shell ++ cause_words f))

-- the sentence for a note about another file than a program
abbrev pub file_sentence : DirNote → List ℕ
file_sentence note.NotifyFd = codes "its notification-fd names none of 1 and 3 to 9: it never tells that it is ready"
file_sentence note.TimeoutKill = codes "its timeout-kill is no number of milliseconds: it is never killed"
file_sentence note.TimeoutFinish = codes "its timeout-finish is no number of milliseconds: its finish has 5000"
file_sentence note.MaxDeathTally = codes "its max-death-tally is no number: 100 deaths are kept"
file_sentence note.MaxDeathTallyOver = codes "its max-death-tally is over 4096: 4096 deaths are kept"
file_sentence note.DownSignal = codes "its down-signal is no name in capitals and none of 1 to 64: SIGTERM takes it down"
file_sentence note.Log = codes "its log is not run: let the logger be a service of its own"
file_sentence note.LockFd = codes "its lock-fd is not read: let its run take the lock, as by flock"
file_sentence note.NewPidns = codes "its flag-newpidns is not read: let its run begin with exec unshare --pid --fork"
file_sentence note.Instances = codes "its instances are not run: let each be a service of its own"
file_sentence (note.Run f) = []
file_sentence (note.Finish f) = []

-- the sentence for a note of a service that tells its readiness on this descriptor
abbrev pub note_sentence : DirNote → Option ℕ → List ℕ
note_sentence (note.Run f) descriptor = program_sentence (codes "run") f (is_by_shell descriptor)
note_sentence (note.Finish f) descriptor = program_sentence (codes "finish") f false
note_sentence other descriptor = file_sentence other
