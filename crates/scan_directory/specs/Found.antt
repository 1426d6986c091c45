-- What is wrong in a scan directory, and what is noted.
use Rattle.std.specs.Prelude.{ℕ, List, [], ◌∷◌, ◌++◌, Option, Some, None, codes}
use Rattle.servicedir.specs.declared.dir_fault.DirFault.{DirFault}
use Rattle.servicedir.specs.declared.dir_fault.DirFault.TheVariants as fault
use Rattle.scan_directory.specs.declared.dir_note.DirNote.{DirNote}
use Rattle.scan_directory.specs.declared.found.Noted.{Noted}
use Rattle.scan_directory.specs.declared.found.Remark.{Remark}
use Rattle.scan_directory.specs.Notes.{note_word}

-- the word of a fault
abbrev pub fault_word : DirFault → List ℕ
fault_word fault.NoRun = codes "NoRun"
fault_word fault.NotLongrun = codes "NotLongrun"
fault_word fault.NotifyFd = codes "NotifyFd"
fault_word fault.Io = codes "Io"
fault_word fault.BadName = codes "BadName"
fault_word fault.NoMemory = codes "NoMemory"

-- the line of a service whose directory can't be used
abbrev pub unread_line : Remark → List ℕ
unread_line remark = codes "unread " ++ (remark.name ++ (32 ∷ (fault_word remark.fault ++ 10 ∷ [])))

-- a note, if there is one, as that of the service of this name
abbrev pub noted_as : List ℕ → Option DirNote → List Noted
noted_as name (Some note) = record { name = name; note = note } ∷ []
noted_as name None = []

-- the line of a note on standard error
abbrev pub note_line : Noted → List ℕ
note_line noted = codes "svscan: " ++ (noted.name ++ (32 ∷ (note_word noted.note ++ 10 ∷ [])))
