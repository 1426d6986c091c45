-- In which order the files are looked at, and which fault is answered.
use Rattle.std.specs.Prelude.{◌≡◌, ℕ, ◌+◌, List, Bool, Option, Some, None, codes, IsSomeAnd, if◌then◌else◌}
use Rattle.std.specs.Str.{bytes_eq}
use Rattle.servicedir.specs.Number.{line_of}
use Rattle.servicedir.specs.Files.{Directory, one_more}
use Rattle.servicedir.specs.declared.files.ServiceFile.{ServiceFile}
use Rattle.servicedir.specs.declared.files.ServiceFile.TheVariants.{Run, Kind}
use Rattle.servicedir.specs.declared.files.ReadFault.{ReadFault}
use Rattle.servicedir.specs.declared.files.ReadFault.TheVariants as fault
use Rattle.servicedir.specs.declared.dir_fault.DirFault.{DirFault}
use Rattle.servicedir.specs.declared.dir_fault.DirFault.TheVariants.{NoRun, NotLongrun, Io, NoMemory}

-- the fault that is answered where a reading gave nothing
abbrev pub fault_of_reading : ReadFault → DirFault
fault_of_reading fault.Io = Io
fault_of_reading fault.NoMemory = NoMemory

-- without `run` it is no service
abbrev pub fault_of_run : Option (List ℕ) → Option DirFault
fault_of_run None = Some NoRun
fault_of_run (Some text) = None

-- the text longrun, and at most one newline
abbrev pub is_longrun : List ℕ → Bool
is_longrun text = bytes_eq (line_of text) (codes "longrun")

-- without `type`, or with the text `longrun` in it, it is a service that is supervised
abbrev pub fault_of_type : Option (List ℕ) → Option DirFault
fault_of_type None = None
fault_of_type (Some text) = if is_longrun text then None else Some NotLongrun

-- the first fault if there is one, else the second
abbrev pub or_fault : Option DirFault → Option DirFault → Option DirFault
or_fault (Some fault) next = Some fault
or_fault None next = next

-- what is wrong with the directory, where `run` comes before `type`
abbrev pub first_fault : Directory → Option DirFault
first_fault directory = or_fault (fault_of_run (directory Run)) (fault_of_type (directory Kind))

-- what was found wrong before this file is looked at
abbrev pub fault_before : ServiceFile → Directory → Option DirFault
fault_before Run directory = None
fault_before Kind directory = fault_of_run (directory Run)
fault_before other directory = first_fault directory

-- a fault is answered where it is the directory's first, or where the reading of a file gave nothing before any fault was found
abbrev pub Answers : Directory → ℕ → ℕ → Option ServiceFile → DirFault → Type 0
Answers directory old new last NoRun = (first_fault directory ≡ Some NoRun) × (new ≡ old)
Answers directory old new last NotLongrun = (first_fault directory ≡ Some NotLongrun) × (new ≡ old)
Answers directory old new last Io = IsSomeAnd last (λ file. fault_before file directory ≡ None) × (new ≡ old + 1)
Answers directory old new last NoMemory = IsSomeAnd last (λ file. fault_before file directory ≡ None) × (new ≡ old)
Answers directory old new last other = ⊥

-- how many readings were refused memory once this fault is answered, where `old` were before
abbrev pub refused_by : DirFault → ℕ → ℕ
refused_by NoMemory old = one_more old
refused_by other old = old
