-- What is noted of the files whose texts are read: of one that is there, and says nothing that can be taken.
use Rattle.std.specs.Prelude.{ℕ, List, [], ◌∷◌, Option, Some, None, nat_lt, if◌then◌else◌}
use Rattle.servicedir.specs.Config.{number_in, signal_in}
use Rattle.scan_directory.specs.declared.dir_note.DirNote.{DirNote}
use Rattle.scan_directory.specs.declared.dir_note.DirNote.TheVariants as note
use Rattle.scan_directory.specs.declared.service_files.ServiceFiles.{ServiceFiles}
use Rattle.scan_directory.specs.Files.{text_in}

-- this note, unless a file says a value
abbrev pub note_unless : Option ℕ → DirNote → Option DirNote
note_unless (Some value) noted = None
note_unless None noted = Some noted

-- timeout-kill is noted where it is there, and says no number
abbrev pub note_of_timeout_kill : Option (List ℕ) → Option DirNote
note_of_timeout_kill None = None
note_of_timeout_kill (Some text) = note_unless (number_in (Some text)) note.TimeoutKill

-- timeout-finish likewise
abbrev pub note_of_timeout_finish : Option (List ℕ) → Option DirNote
note_of_timeout_finish None = None
note_of_timeout_finish (Some text) = note_unless (number_in (Some text)) note.TimeoutFinish

-- a number of deaths, where it is none, or more than are kept
abbrev pub note_of_deaths : Option ℕ → Option DirNote
note_of_deaths None = Some note.MaxDeathTally
note_of_deaths (Some deaths) = if nat_lt 4096 deaths then Some note.MaxDeathTallyOver else None

-- max-death-tally is noted where it is there, and says no number, or one over 4096
abbrev pub note_of_max_death_tally : Option (List ℕ) → Option DirNote
note_of_max_death_tally None = None
note_of_max_death_tally (Some text) = note_of_deaths (number_in (Some text))

-- down-signal is noted where it is there, and says no signal
abbrev pub note_of_down_signal : Option (List ℕ) → Option DirNote
note_of_down_signal None = None
note_of_down_signal (Some text) = note_unless (signal_in (Some text)) note.DownSignal

-- what is noted of a service's files
abbrev pub text_notes : ServiceFiles → List (Option DirNote)
text_notes files =
    note_of_timeout_kill (text_in files.timeout_kill)
    ∷ note_of_timeout_finish (text_in files.timeout_finish)
    ∷ note_of_max_death_tally (text_in files.max_death_tally)
    ∷ note_of_down_signal (text_in files.down_signal)
    ∷ []
