-- The lines of each entry of a scan directory.
use Rattle.std.specs.Prelude.{ℕ, List, [], ◌∷◌, ◌++◌, ◌||◌, Bool, Option, Some, None, codes, count_by, decimal, is_none, is_some, length}
use Rattle.std.specs.Prelude.{nat_eq, nat_lt, option_map, unwrap_or, if◌then◌else◌}
use Rattle.std.specs.List.{find, flat_map, list_any}
use Rattle.std.specs.Cmp.Lexicographic.{pointwise}
use Rattle.servicedir.specs.declared.config.Config.{Config}
use Rattle.servicedir.specs.declared.dir_fault.DirFault.{DirFault}
use Rattle.servicedir.specs.declared.dir_fault.DirFault.TheVariants as fault
use Rattle.svscan_core.specs.declared.entry.Entry.{Entry}
use Rattle.scan_directory.specs.declared.dir_note.DirNote.{DirNote}
use Rattle.scan_directory.specs.declared.found.Noted.{Noted}
use Rattle.scan_directory.specs.declared.found.Remark.{Remark}
use Rattle.scan_directory.specs.Found.{fault_word}
use Rattle.scan_directory.specs.Notes.{note_word}
use Rattle.svcheck.specs.NoteSentences.{note_sentence}
use Rattle.svcheck.specs.Sentences.{fault_sentence, finish_words, start_words}

-- why the directory of this name can't be used
abbrev pub fault_of : List Remark → List ℕ → Option DirFault
fault_of remarks name = option_map (λ r. r.fault) (find (λ r. pointwise nat_eq r.name name) remarks)

abbrev pub readiness_words : Option ℕ → List ℕ
readiness_words (Some descriptor) = codes ", tells its readiness on descriptor " ++ decimal descriptor
readiness_words None = codes ", tells no readiness"

-- what the directory of a service that is supervised says, to the end of its line
abbrev pub settings_words : Config → List ℕ
settings_words config = start_words config.down ++ (readiness_words config.notification_fd ++ (finish_words config.finish ++ 10 ∷ []))

-- the line of a service that is supervised
abbrev pub supervised_line : List ℕ → Config → List ℕ
supervised_line name config = name ++ (codes ": supervised" ++ settings_words config)

-- the line of a note of a service that tells its readiness on this descriptor
abbrev pub note_line : List ℕ → Option ℕ → DirNote → List ℕ
note_line name descriptor note =
    name ++ (codes ": noted " ++ (note_word note ++ (codes ": " ++ (note_sentence note descriptor ++ 10 ∷ []))))

-- the line of a note, if it is one of the service of this name
abbrev pub line_for : List ℕ → Option ℕ → Noted → List ℕ
line_for name descriptor noted = if pointwise nat_eq noted.name name then note_line name descriptor noted.note else []

-- a service that is supervised has its line, and one for each of its notes
abbrev pub usable_lines : List ℕ → Config → List Noted → List ℕ
usable_lines name config notes = supervised_line name config ++ flat_map (line_for name config.notification_fd) notes

abbrev pub refused_line : List ℕ → DirFault → List ℕ
refused_line name f = name ++ (codes ": refused " ++ (fault_word f ++ (codes ": " ++ (fault_sentence f ++ 10 ∷ []))))

-- the lines of an entry, which has a configuration where its directory can be used
abbrev pub lines_by : List ℕ → Option DirFault → List Noted → Option Config → List ℕ
lines_by name remarked notes (Some config) = usable_lines name config notes
lines_by name remarked notes None = refused_line name (unwrap_or remarked fault.Io)

abbrev pub entry_lines : List Remark → List Noted → Entry → List ℕ
entry_lines remarks notes entry = lines_by entry.name (fault_of remarks entry.name) notes entry.config

abbrev pub is_usable : Entry → Bool
is_usable entry = is_some entry.config

-- a line where there are more services than a tree supervises
abbrev pub full_line : ℕ → List ℕ
full_line count =
    if nat_lt 256 count then codes "refused full: a tree has at most 256 services: the last by name are left out\n" else []

abbrev pub checked_text : List Remark → List Noted → List Entry → List ℕ
checked_text remarks notes entries =
    flat_map (entry_lines remarks notes) entries ++ full_line (count_by is_usable entries)

-- at least one of them would not be supervised
abbrev pub is_refused : List Entry → Bool
is_refused entries = list_any (λ e. is_none e.config) entries || nat_lt 256 (count_by is_usable entries)

-- one would not be supervised, or something is noted
abbrev pub is_wrong : List Noted → List Entry → Bool
is_wrong notes entries = is_refused entries || nat_lt 0 (length notes)
