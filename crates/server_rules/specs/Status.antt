-- The status of services, as it is told to a client.
use Rattle.std.specs.Prelude.{ℕ, Bool, true, List, [], ◌∷◌, ◌++◌, Option, Some, None, codes, decimal}
use Rattle.std.specs.List.{find, flat_map}
use Rattle.std.specs.Str.{bytes_eq}
use Rattle.s6_script.specs.ReplyText.{row_text}
use Rattle.supervise_core.specs.declared.row.Row.{Row}
use Rattle.server_rules.specs.declared.status_lines.Subject.{Subject}
use Rattle.server_rules.specs.declared.status_lines.Subject.TheVariants.{One, All, States}
use Rattle.scan_directory.specs.declared.found.Remark.{Remark}
use Rattle.server_rules.specs.declared.roster.Ending.{Ending}
use Rattle.server_rules.specs.declared.roster.Member.{Member}
use Rattle.scan_directory.specs.Found.{unread_line}
use Rattle.server_rules.specs.Roster.{ending_in, since_in, start_failed_in}
use Rattle.server_rules.specs.States.{state_of, state_word}

-- the row, or `refused NoService` where there is none
abbrev pub status_line : Option Row → List ℕ
status_line (Some row) = row_text row
status_line None = codes "refused NoService"

-- the row of this name, and an empty line behind it
abbrev pub status_text : List Row → List ℕ → List ℕ
status_text rows name = status_line (find (λ row. bytes_eq row.name name) rows) ++ (10 ∷ 10 ∷ [])

-- a row and the end of its line
abbrev pub row_line : Row → List ℕ
row_line row = row_text row ++ 10 ∷ []

-- what is shown of the services at one moment: their rows, what their letters say of them, and what the last scan could not read
pub record Shown : Type 0 where
  pub rows : List Row
  pub roster : List Member
  pub unread : List Remark

-- a moment; -1 where there is none
abbrev pub moment_text : Option ℕ → List ℕ
moment_text (Some at) = decimal at
moment_text None = codes "-1"

-- the word of a service's state, since when it is up or down, and its row
abbrev pub state_head : Option Ending → Bool → Row → List ℕ
state_head ending start_failed row = codes "state " ++ (state_word (state_of ending start_failed row) ++ 32 ∷ [])

abbrev pub state_tail : Option ℕ → Row → List ℕ
state_tail since row = moment_text since ++ (32 ∷ row_line row)

abbrev pub state_line : List Member → Row → List ℕ
state_line roster row =
    state_head (ending_in row.sid roster) (start_failed_in row.sid roster) row ++ state_tail (since_in row.sid roster) row

-- the status of one service, the rows of all, or their states and what could not be read; and an empty line behind them
abbrev pub told_text : Subject → Shown → List ℕ
told_text (One name) shown = status_text shown.rows name
told_text All shown = flat_map row_line shown.rows ++ 10 ∷ []
told_text States shown = flat_map (state_line shown.roster) shown.rows ++ (flat_map unread_line shown.unread ++ 10 ∷ [])

-- all is there from which a status is told: only states need the roster
abbrev pub is_had : Bool → Subject → Bool
is_had has_roster States = has_roster
is_had has_roster subject = true
