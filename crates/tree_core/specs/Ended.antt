-- When a tree has ended.
use Rattle.std.specs.Prelude.{Bool, ◌&&◌}
use Rattle.std.specs.List.{list_all}
use Rattle.supervise_core.specs.ChartState.{is_gone}
use Rattle.tree_core.specs.Machine.{Machine}

-- the machine is closing, and the supervisor of each standing service has ended
abbrev pub has_ended : Machine → Bool
has_ended m = m.closing && list_all (λ c. is_gone c.phase) m.services
