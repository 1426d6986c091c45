-- What a service directory gives, how many readings failed, and how many were refused memory.
use Rattle.std.specs.Prelude.{◌≡◌, ℕ, ◌+◌, ◌%◌, ◌^◌, List, Option, Some, Result, Ok, Err, codes}
use Rattle.servicedir.specs.declared.files.ServiceFile.{ServiceFile}
use Rattle.servicedir.specs.declared.files.ServiceFile.TheVariants.{Run, Kind, Finish, Down, NotificationFd}
use Rattle.servicedir.specs.declared.files.ServiceFile.TheVariants.{TimeoutKill, TimeoutFinish, MaxDeathTally}
use Rattle.servicedir.specs.declared.files.ServiceFile.TheVariants.{DownSignal}
use Rattle.servicedir.specs.declared.files.ReadFault.{ReadFault}
use Rattle.servicedir.specs.declared.files.ReadFault.TheVariants as fault

-- the most bytes of a file that one reading gives
abbrev pub reading_limit : ℕ
reading_limit = 4097

-- for each file that is there the bytes that a reading of it gives
abbrev pub Directory : Type 0
Directory = ServiceFile → Option (List ℕ)

-- what a file is called in the directory
abbrev pub file_name : ServiceFile → List ℕ
file_name Run = codes "run"
file_name Kind = codes "type"
file_name Finish = codes "finish"
file_name Down = codes "down"
file_name NotificationFd = codes "notification-fd"
file_name TimeoutKill = codes "timeout-kill"
file_name TimeoutFinish = codes "timeout-finish"
file_name MaxDeathTally = codes "max-death-tally"
file_name DownSignal = codes "down-signal"

-- a reading that failed is counted once, and no other is; where a reading gave nothing, its file is the last one that gave nothing
abbrev pub Counts : {V : Type 0} → Result V ReadFault → ServiceFile → ℕ → ℕ → Option ServiceFile → Type 0
Counts (Ok v) file old new last = new ≡ old
Counts (Err fault.Io) file old new last = (new ≡ old + 1) × (last ≡ Some file)
Counts (Err fault.NoMemory) file old new last = (new ≡ old) × (last ≡ Some file)

-- one more, modulo 2 ^ 64
abbrev pub one_more : ℕ → ℕ
one_more count = (count + 1) % 2 ^ 64

-- a reading that was refused memory is counted once, and no other is
abbrev pub CountsRefusal : {V : Type 0} → Result V ReadFault → ℕ → ℕ → Type 0
CountsRefusal (Ok v) old new = new ≡ old
CountsRefusal (Err fault.Io) old new = new ≡ old
CountsRefusal (Err fault.NoMemory) old new = new ≡ one_more old
