-- How much the letters of one call can still do.
use Rattle.std.specs.Prelude.{ℕ}
use Rattle.supervise_core.specs.declared.phase.Phase.{Phase}
use Rattle.supervise_core.specs.declared.phase.Phase.TheVariants.{Down, Gone}

-- one mark, until the supervisor has ended
abbrev pub marks_left : Phase → ℕ
marks_left Gone = 0
marks_left _ = 1

-- one run, where it is down
abbrev pub runs_left : Phase → ℕ
runs_left Down = 1
runs_left _ = 0
