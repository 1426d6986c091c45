-- Which fault is told where there are several.
use Rattle.std.specs.Prelude.{◌≡◌, ◌≢◌, ◌⊎◌, ℕ, List, [], ◌∷◌, ◌||◌, Bool, not, Option, Some, None, length, nat_lt}
use Rattle.std.specs.Prelude.{if◌then◌else◌, is_none, option_to_list}
use Rattle.std.specs.List.{list_all}
use Rattle.clap.specs.Words.{Kinds, Row}
use Rattle.s6_events.specs.Name.{is_name}
use Rattle.svc_commands.specs.RowsGiven.{condition_count, mode_count, is_empty, is_bad_list, is_bad_number}
use Rattle.svc_commands.specs.RowsGiven.{are_bad_exits, list_given, name_given, names_of, timeout_given, secs_given}
use Rattle.svc_commands.specs.RowsGiven.{count_given, exits_given}
use Rattle.svc_commands.specs.declared.usage_fault.UsageFault.{UsageFault}
use Rattle.svc_commands.specs.declared.usage_fault.UsageFault.TheVariants.{Unknown, Missing, TooMany, BadNumber}
use Rattle.svc_commands.specs.declared.usage_fault.UsageFault.TheVariants.{BadList, BadName, NoMemory}

-- the first fault of the table whose test holds
abbrev pub first_that_holds : List (Bool × UsageFault) → Option UsageFault
first_that_holds [] = None
first_that_holds (row ∷ rows) = if row.0 then Some row.1 else first_that_holds rows

-- the fault of some names
abbrev pub names_fault : List (List ℕ) → Option UsageFault
names_fault names = first_that_holds
    ((not (list_all is_name names), BadName) ∷ (nat_lt 16 (length names), TooMany) ∷ [])

-- the fault of the words of svwait or svlisten, where clap takes them; `lacks_program`: svlisten was given no program
abbrev pub wait_fault : Bool → List Row → Option UsageFault
wait_fault lacks_program rows = first_that_holds (
    (nat_lt 1 (condition_count rows) || nat_lt 1 (mode_count rows), TooMany)
    ∷ (is_bad_number (timeout_given rows), BadNumber)
    ∷ (lacks_program || is_empty (names_of rows), Missing)
    ∷ (not (list_all is_name (names_of rows)), BadName)
    ∷ (nat_lt 16 (length (names_of rows)), TooMany)
    ∷ [])

-- the fault of the words of svstat, where clap takes them
abbrev pub stat_fault : List Row → Option UsageFault
stat_fault rows = first_that_holds (
    (is_bad_list (list_given rows), BadList)
    ∷ (is_none (list_given rows) || is_none (name_given rows), Missing)
    ∷ (not (list_all is_name (option_to_list (name_given rows))), BadName)
    ∷ [])

-- the fault of the words of permafailon, where clap takes them
abbrev pub permafail_fault : List Row → Option UsageFault
permafail_fault rows = first_that_holds (
    (is_bad_number (secs_given rows) || is_bad_number (count_given rows), BadNumber)
    ∷ (are_bad_exits (exits_given rows), BadList)
    ∷ (
      is_none (name_given rows) || is_none (secs_given rows) || is_none (count_given rows)
          || is_none (exits_given rows),
      Missing,
    )
    ∷ (not (list_all is_name (option_to_list (name_given rows))), BadName)
    ∷ [])

-- clap takes the words, and nothing else is wrong with them
abbrev pub IsTaken : Kinds → Option UsageFault → Type 0
IsTaken kinds told = (kinds ≡ []) × (told ≡ None)

-- memory was refused; or clap refuses the words; or it takes them, and their fault is this one
abbrev pub IsRefusal : Kinds → Option UsageFault → UsageFault → Type 0
IsRefusal kinds told fault =
    (fault ≡ NoMemory) ⊎ ((fault ≡ Unknown) × (kinds ≢ [])) ⊎ ((kinds ≡ []) × (told ≡ Some fault))
