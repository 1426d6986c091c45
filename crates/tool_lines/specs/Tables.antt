-- The services as a table.
use Rattle.std.specs.Prelude.{ℕ, ◌-◌, max, List, [], ◌∷◌, ◌++◌, Bool, true, false, Option, Some, None, codes, decimal, fold, length, map, replicate}
use Rattle.std.specs.Prelude.{if◌then◌else◌}
use Rattle.std.specs.List.{flat_map}
use Rattle.s6_events.specs.declared.exit.Exit.{Exit}
use Rattle.s6_events.specs.declared.exit.Exit.TheVariants.{Code, Killed}
use Rattle.tool_lines.specs.declared.list_entry.ListEntry.{ListEntry}
use Rattle.tool_lines.specs.declared.list_entry.ListEntry.TheVariants.{Service, Unread}
use Rattle.tool_lines.specs.declared.list_entry.ListedService.{ListedService}
use Rattle.tool_lines.specs.declared.table.Column.{Column}
use Rattle.tool_lines.specs.declared.table.Column.TheVariants as column
use Rattle.tool_lines.specs.declared.table.SizedColumn.{SizedColumn}
use Rattle.tool_lines.specs.Ages.{age_text}

abbrev pub heading : Column → List ℕ
heading column.Name = codes "NAME"
heading column.State = codes "STATE"
heading column.Pid = codes "PID"
heading column.Since = codes "SINCE"
heading column.For = codes "FOR"
heading column.Ready = codes "READY"
heading column.LastExit = codes "LAST-EXIT"
heading column.Wanted = codes "WANTED"

-- a number; `-` where there is none
abbrev pub number_cell : Option ℕ → List ℕ
number_cell None = codes "-"
number_cell (Some n) = decimal n

abbrev pub age_cell : Option ℕ → List ℕ
age_cell None = codes "-"
age_cell (Some n) = age_text n

abbrev pub exit_cell : Option Exit → List ℕ
exit_cell None = codes "-"
exit_cell (Some (Code n)) = codes "code " ++ decimal n
exit_cell (Some (Killed n)) = codes "signal " ++ decimal n

abbrev pub wanted_cell : Bool → List ℕ
wanted_cell true = codes "up"
wanted_cell false = codes "down"

abbrev pub word_cell : Option (List ℕ) → List ℕ
word_cell None = codes "-"
word_cell (Some word) = word

-- the cell of a service in a column
abbrev pub service_cell : ListedService → Column → List ℕ
service_cell s column.Name = s.row.name
service_cell s column.State = s.state
service_cell s column.Pid = number_cell s.row.pid
service_cell s column.Since = word_cell s.since
service_cell s column.For = age_cell s.row.up_down_for
service_cell s column.Ready = age_cell (if s.row.up then s.row.ready_for else None)
service_cell s column.LastExit = exit_cell s.row.exit
service_cell s column.Wanted = wanted_cell s.row.wanted_up

-- the cell of a directory that could not be read; its fault is in the column of the last exit
abbrev pub unread_cell : List ℕ → List ℕ → Column → List ℕ
unread_cell name fault column.Name = name
unread_cell name fault column.State = codes "unread"
unread_cell name fault column.LastExit = fault
unread_cell name fault column = codes "-"

abbrev pub cell : ListEntry → Column → List ℕ
cell (Service s) c = service_cell s c
cell (Unread name fault) c = unread_cell name fault c

-- how many bytes the widest cell of a column has; its head counts too
abbrev pub wider : Column → ℕ → ListEntry → ℕ
wider c width e = max width (length (cell e c))

abbrev pub width_of : List ListEntry → Column → ℕ
width_of rows c = fold (wider c) (length (heading c)) rows

-- the columns whose cells have spaces behind them: all but the last
abbrev pub padded_columns : List Column
padded_columns = column.Name ∷ column.State ∷ column.Pid ∷ column.Since ∷ column.For ∷ column.Ready ∷ column.LastExit ∷ []

abbrev pub sized_column : List ListEntry → Column → SizedColumn
sized_column rows c = record { column = c; width = width_of rows c }

-- a cell, spaces up to the width of its column, and two more
abbrev pub padded : ℕ → List ℕ → List ℕ
padded width text = text ++ replicate (width - length text) 32 ++ codes "  "

abbrev pub heading_line : List SizedColumn → List ℕ
heading_line columns = flat_map (λ s. padded s.width (heading s.column)) columns ++ codes "WANTED\n"

abbrev pub row_line : List SizedColumn → ListEntry → List ℕ
row_line columns e = flat_map (λ s. padded s.width (cell e s.column)) columns ++ cell e column.Wanted ++ 10 ∷ []

-- the heads, and a line for each entry
abbrev pub table_of : List SizedColumn → List ListEntry → List ℕ
table_of columns rows = heading_line columns ++ flat_map (row_line columns) rows

abbrev pub table_text : List ListEntry → List ℕ
table_text rows = table_of (map (sized_column rows) padded_columns) rows
