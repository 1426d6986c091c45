-- What svwait, svlisten, svstat and permafailon read from the rows that clap gives.
use Rattle.std.specs.Prelude.{ℕ, List, [], ◌+◌, ◌==◌, Bool, false, Option, Some, None, codes, length}
use Rattle.std.specs.Prelude.{filter_map, nat_lt, is_none, option_and_then, unwrap_or, if◌then◌else◌}
use Rattle.std.specs.List.{list_any, slice_split}
use Rattle.clap.specs.Words.{Row, Text, count_of, first_of, all_of}
use Rattle.s6_events.specs.declared.condition.Condition.{Condition}
use Rattle.s6_events.specs.declared.condition.Condition.TheVariants as condition
use Rattle.s6_events.specs.declared.condition.Mode.{Mode}
use Rattle.s6_events.specs.declared.condition.Mode.TheVariants as mode
use Rattle.s6_events.specs.declared.field.Field.{Field}
use Rattle.servicedir.specs.Number.{number_of}
use Rattle.death_tally.specs.DeathList.{death_list}
use Rattle.svc_commands.specs.Fields.{field_named}

-- a list has nothing in it
abbrev pub is_empty : {A : Type 0} → List A → Bool
is_empty xs = length xs == 0

-- the letter was given
abbrev pub is_given : Text → List Row → Bool
is_given id rows = nat_lt 0 (count_of id rows)

-- how many conditions were given, and how many modes
abbrev pub condition_count : List Row → ℕ
condition_count rows =
    count_of (codes "u") rows + count_of (codes "U") rows + count_of (codes "d") rows + count_of (codes "D") rows
    + count_of (codes "r") rows + count_of (codes "R") rows

abbrev pub mode_count : List Row → ℕ
mode_count rows = count_of (codes "a") rows + count_of (codes "o") rows

-- the condition of the letter that was given, and up without one
abbrev pub condition_of : List Row → Condition
condition_of rows =
    if is_given (codes "U") rows then condition.Ready
    else if is_given (codes "d") rows then condition.Down
    else if is_given (codes "D") rows then condition.Finished
    else if is_given (codes "r") rows then condition.Restarted
    else if is_given (codes "R") rows then condition.RestartedReady
    else condition.Up

-- one where o was given, else all
abbrev pub mode_of : List Row → Mode
mode_of rows = if is_given (codes "o") rows then mode.One else mode.All

-- the text of the timeout, where it was given
abbrev pub timeout_given : List Row → Option Text
timeout_given rows = first_of (codes "t") rows

-- what was given as a number is none
abbrev pub is_bad_number : Option Text → Bool
is_bad_number None = false
is_bad_number (Some text) = is_none (number_of text)

-- the timeout in milliseconds, and 0 without one
abbrev pub timeout_of : List Row → ℕ
timeout_of rows = unwrap_or (option_and_then number_of (timeout_given rows)) 0

-- the names that were given
abbrev pub names_of : List Row → List Text
names_of rows = unwrap_or (all_of (codes "names") rows) []

-- the text of the fields, and the name, where they were given
abbrev pub list_given : List Row → Option Text
list_given rows = first_of (codes "o") rows

abbrev pub name_given : List Row → Option Text
name_given rows = first_of (codes "name") rows

-- the items of a list, between its commas
abbrev pub items_in : Text → List Text
items_in text = slice_split (λ b. b == 44) text

-- an item of a list that was given is no field
abbrev pub is_bad_list : Option Text → Bool
is_bad_list None = false
is_bad_list (Some text) = list_any (λ item. is_none (field_named item)) (items_in text)

-- the fields of a list, in the order written
abbrev pub fields_in : Text → List Field
fields_in text = filter_map field_named (items_in text)

-- the texts of the seconds, the count and the list of exits, where they were given
abbrev pub secs_given : List Row → Option Text
secs_given rows = first_of (codes "secs") rows

abbrev pub count_given : List Row → Option Text
count_given rows = first_of (codes "count") rows

abbrev pub exits_given : List Row → Option Text
exits_given rows = first_of (codes "list") rows

-- what was given as a list of exits is none
abbrev pub are_bad_exits : Option Text → Bool
are_bad_exits None = false
are_bad_exits (Some text) = is_none (death_list text)
