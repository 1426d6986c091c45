-- What finish is told of the run that ended.
use Rattle.std.specs.Prelude.{ℕ}
use Rattle.s6_events.specs.declared.exit.Exit.{Exit}
use Rattle.s6_events.specs.declared.exit.Exit.TheVariants.{Code, Killed}

-- the exit code and no signal, or 256 and the signal
abbrev pub finish_arguments : Exit → ℕ × ℕ
finish_arguments (Code code) = (code, 0)
finish_arguments (Killed signal) = (256, signal)
