-- What a `row` line of the server says of a service.
use Rattle.std.specs.Prelude.{ℕ, List, Bool, true, false, Option, Some, None, codes, option_map, if◌then◌else◌}
use Rattle.std.specs.Str.{bytes_eq}
use Rattle.servicedir.specs.Number.{number_up_to}
use Rattle.s6_events.specs.Name.{is_name}
use Rattle.s6_events.specs.declared.exit.Exit.{Exit}
use Rattle.s6_events.specs.declared.exit.Exit.TheVariants.{Code, Killed}
use Rattle.supervise_core.specs.declared.row.Row.{Row}
use Rattle.tool_lines.specs.declared.service_row.Truths.{Truths}
use Rattle.tool_lines.specs.declared.service_row.Numbers.{Numbers}
use Rattle.tool_lines.specs.Words.{word_in}

abbrev pub truth_of : List ℕ → Option Bool
truth_of word =
    if bytes_eq word (codes "true") then Some true else
    if bytes_eq word (codes "false") then Some false else None

abbrev pub truth_in : List ℕ → ℕ → Option Bool
truth_in line place = truth_of (word_in line place)

-- a number up to this one; -1 says that there is no number
abbrev pub number_of : ℕ → List ℕ → Option (Option ℕ)
number_of most word = if bytes_eq word (codes "-1") then Some None else option_map (λ n. Some n) (number_up_to most word)

abbrev pub number_in : List ℕ → ℕ → Option (Option ℕ)
number_in line place = number_of 4294967295 (word_in line place)

-- how a run ended: its code or its signal, or neither; None where both are there
abbrev pub exit_with : Option ℕ → Option ℕ → Option (Option Exit)
exit_with None None = Some None
exit_with None (Some signal) = Some (Some (Killed signal))
exit_with (Some code) None = Some (Some (Code code))
exit_with (Some code) (Some signal) = None

abbrev pub exit_by : Option (Option ℕ) → Option (Option ℕ) → Option (Option Exit)
exit_by None signal = None
exit_by (Some code) None = None
exit_by (Some code) (Some signal) = exit_with code signal

abbrev pub exit_in : List ℕ → Option (Option Exit)
exit_in line = exit_by (number_of 255 (word_in line 9)) (number_of 255 (word_in line 10))

-- the fields that are true or false; None where one of the words is neither
abbrev pub truths_by : Option Bool → Option Bool → Option Bool → Option Bool → Option Bool → Option Truths
truths_by None wanted_up normally_up ready paused = None
truths_by (Some up) None normally_up ready paused = None
truths_by (Some up) (Some wanted_up) None ready paused = None
truths_by (Some up) (Some wanted_up) (Some normally_up) None paused = None
truths_by (Some up) (Some wanted_up) (Some normally_up) (Some ready) None = None
truths_by (Some a) (Some b) (Some c) (Some d) (Some e) = Some (record { up = a; wanted_up = b; normally_up = c; ready = d; paused = e })

abbrev pub truths_in : List ℕ → Option Truths
truths_in line = truths_by (truth_in line 3) (truth_in line 4) (truth_in line 5) (truth_in line 6) (truth_in line 7)

-- the fields that are numbers
abbrev pub numbers_by : Option (Option ℕ) → Option (Option Exit) → Option (Option ℕ) → Option (Option ℕ) → Option Numbers
numbers_by None exit up_down_for ready_for = None
numbers_by (Some pid) None up_down_for ready_for = None
numbers_by (Some pid) (Some exit) None ready_for = None
numbers_by (Some pid) (Some exit) (Some up_down_for) None = None
numbers_by (Some a) (Some b) (Some c) (Some d) = Some (record { pid = a; exit = b; up_down_for = c; ready_for = d })

abbrev pub numbers_in : List ℕ → Option Numbers
numbers_in line = numbers_by (number_in line 8) (exit_in line) (number_in line 11) (number_in line 12)

abbrev pub sid_in : List ℕ → Option ℕ
sid_in line = number_up_to 4294967295 (word_in line 1)

abbrev pub name_of_word : List ℕ → Option (List ℕ)
name_of_word word = if is_name word then Some word else None

abbrev pub name_in : List ℕ → Option (List ℕ)
name_in line = name_of_word (word_in line 2)

abbrev pub row_with : ℕ → List ℕ → Truths → Numbers → Row
row_with n text t m = record {
  sid = n;
  name = text;
  up = t.up;
  wanted_up = t.wanted_up;
  normally_up = t.normally_up;
  ready = t.ready;
  paused = t.paused;
  pid = m.pid;
  exit = m.exit;
  up_down_for = m.up_down_for;
  ready_for = m.ready_for;
}

abbrev pub row_by : Option ℕ → Option (List ℕ) → Option Truths → Option Numbers → Option Row
row_by None name truths numbers = None
row_by (Some sid) None truths numbers = None
row_by (Some sid) (Some name) None numbers = None
row_by (Some sid) (Some name) (Some truths) None = None
row_by (Some sid) (Some name) (Some truths) (Some numbers) = Some (row_with sid name truths numbers)

-- what a line says of a service behind its first word, `row`
abbrev pub row_of : List ℕ → Option Row
row_of line = row_by (sid_in line) (name_in line) (truths_in line) (numbers_in line)
