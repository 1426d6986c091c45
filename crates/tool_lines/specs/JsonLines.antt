-- A service as a line of JSON.
use Rattle.std.specs.Prelude.{ℕ, List, [], ◌∷◌, ◌++◌, Bool, true, false, Option, Some, None, codes, decimal}
use Rattle.s6_events.specs.declared.exit.Exit.{Exit}
use Rattle.s6_events.specs.declared.exit.Exit.TheVariants.{Code, Killed}
use Rattle.supervise_core.specs.declared.row.Row.{Row}
use Rattle.tool_lines.specs.declared.list_entry.ListEntry.{ListEntry}
use Rattle.tool_lines.specs.declared.list_entry.ListEntry.TheVariants.{Service, Unread}
use Rattle.tool_lines.specs.declared.list_entry.ListedService.{ListedService}

-- the exit code, where there is one
abbrev pub exit_code : Option Exit → Option ℕ
exit_code (Some (Code n)) = Some n
exit_code (Some (Killed n)) = None
exit_code None = None

-- the number of the signal that killed it, where there is one
abbrev pub signal_number : Option Exit → Option ℕ
signal_number (Some (Killed n)) = Some n
signal_number (Some (Code n)) = None
signal_number None = None

abbrev pub truth_text : Bool → List ℕ
truth_text true = codes "true"
truth_text false = codes "false"

abbrev pub number_text : Option ℕ → List ℕ
number_text None = codes "null"
number_text (Some n) = decimal n

-- a text in quotes; a name has no byte that JSON escapes
abbrev pub quoted : List ℕ → List ℕ
quoted word = 34 ∷ (word ++ 34 ∷ [])

abbrev pub key_text : List ℕ → List ℕ
key_text key = quoted key ++ 58 ∷ []

-- a member behind a comma
abbrev pub member : List ℕ → List ℕ → List ℕ
member key value = 44 ∷ (key_text key ++ value)

abbrev pub truth_member : List ℕ → Bool → List ℕ
truth_member key truth = member key (truth_text truth)

abbrev pub number_member : List ℕ → Option ℕ → List ℕ
number_member key number = member key (number_text number)

-- a text, or null where there is none
abbrev pub word_text : Option (List ℕ) → List ℕ
word_text None = codes "null"
word_text (Some word) = quoted word

abbrev pub head_text : ListedService → List ℕ
head_text s =
    key_text (codes "name") ++ quoted s.row.name
    ++ number_member (codes "serial") (Some s.row.sid)
    ++ member (codes "state") (quoted s.state)

abbrev pub truths_text : Row → List ℕ
truths_text r =
    truth_member (codes "up") r.up ++ truth_member (codes "wantedup") r.wanted_up
    ++ truth_member (codes "normallyup") r.normally_up ++ truth_member (codes "ready") r.ready
    ++ truth_member (codes "paused") r.paused

abbrev pub run_text : Row → List ℕ
run_text r =
    number_member (codes "pid") r.pid ++ number_member (codes "exitcode") (exit_code r.exit)
    ++ number_member (codes "signal") (signal_number r.exit)

abbrev pub ages_text : Row → List ℕ
ages_text r = number_member (codes "updownfor") r.up_down_for ++ number_member (codes "readyfor") r.ready_for

abbrev pub times_text : ListedService → List ℕ
times_text s = ages_text s.row ++ member (codes "since") (word_text s.since)

-- the fault of a directory that could not be read, and the end of the object
abbrev pub end_text : Option (List ℕ) → List ℕ
end_text fault = member (codes "fault") (word_text fault) ++ codes "}\n"

-- one object, and a newline
unfoldable pub service_line : ListedService → List ℕ
service_line s = (123 ∷ head_text s) ++ truths_text s.row ++ run_text s.row ++ times_text s ++ end_text None

-- for a directory that could not be read, the members about a service are null
abbrev pub null_member : List ℕ → List ℕ
null_member key = number_member key None

abbrev pub unread_head : List ℕ → List ℕ
unread_head name =
    key_text (codes "name") ++ quoted name ++ null_member (codes "serial") ++ member (codes "state") (quoted (codes "unread"))

abbrev pub null_truths_text : List ℕ
null_truths_text =
    null_member (codes "up") ++ null_member (codes "wantedup") ++ null_member (codes "normallyup")
    ++ null_member (codes "ready") ++ null_member (codes "paused")

abbrev pub null_run_text : List ℕ
null_run_text = null_member (codes "pid") ++ null_member (codes "exitcode") ++ null_member (codes "signal")

abbrev pub null_ages_text : List ℕ
null_ages_text = null_member (codes "updownfor") ++ null_member (codes "readyfor")

abbrev pub null_times_text : List ℕ
null_times_text = null_ages_text ++ null_member (codes "since")

unfoldable pub unread_line : List ℕ → List ℕ → List ℕ
unread_line name fault = (123 ∷ unread_head name) ++ null_truths_text ++ null_run_text ++ null_times_text ++ end_text (Some fault)

abbrev pub json_line : ListEntry → List ℕ
json_line (Service s) = service_line s
json_line (Unread name fault) = unread_line name fault
