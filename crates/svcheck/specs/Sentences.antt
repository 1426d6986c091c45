-- The sentences about a service.
use Rattle.std.specs.Prelude.{ℕ, List, Bool, true, false, codes}
use Rattle.servicedir.specs.declared.dir_fault.DirFault.{DirFault}
use Rattle.servicedir.specs.declared.dir_fault.DirFault.TheVariants as fault

abbrev pub fault_sentence : DirFault → List ℕ
fault_sentence fault.NoRun = codes "there is no file run in its directory"
fault_sentence fault.NotLongrun = codes "its file type says something else than longrun"
fault_sentence fault.NotifyFd = codes "its notification-fd names none of 1 and 3 to 9"
fault_sentence fault.Io = codes "it is no directory, or a file in it can't be read"
fault_sentence fault.BadName = codes "a name has 1 to 64 of A-Z a-z 0-9 . _ - @, and no dot in front"
fault_sentence fault.NoMemory = codes "the system refused memory"

abbrev pub start_words : Bool → List ℕ
start_words true = codes ", down until it is told to start"
start_words false = codes ", starts at once"

abbrev pub finish_words : Bool → List ℕ
finish_words true = codes ", has a finish"
finish_words false = codes ", has no finish"
