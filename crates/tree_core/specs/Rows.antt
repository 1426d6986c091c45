-- The status rows of the services, read from the history.
use Rattle.std.specs.Prelude.{ℕ, List, map, find, bytes_eq, Option, option_map}
use Rattle.supervise_core.specs.declared.row.Row.{Row}
use Rattle.supervise_core.specs.StatusRow.{status_row}
use Rattle.tree_core.specs.Machine.{Machine}

-- the row of the service of this name
abbrev pub row_named : List ℕ → Machine → Option Row
row_named name m = option_map (status_row m.history m.clock) (find (λ c. bytes_eq name c.name) m.services)

-- the rows of all, in rising serial
abbrev pub all_rows : Machine → List Row
all_rows m = map (status_row m.history m.clock) m.services
