-- What the end of finish says of its service.
use Rattle.std.specs.Prelude.{◌==◌, if◌then◌else◌}
use Rattle.s6_events.specs.declared.exit.Exit.{Exit}
use Rattle.s6_events.specs.declared.exit.Exit.TheVariants.{Code, Killed}
use Rattle.finish_core.specs.declared.exit_verdict.Verdict125.{Verdict125}
use Rattle.finish_core.specs.declared.exit_verdict.Verdict125.TheVariants.{Permanent, Ordinary}

-- the exit code 125 is a permanent failure, and every other end is an ordinary one
abbrev pub verdict_of : Exit → Verdict125
verdict_of (Code code) = if code == 125 then Permanent else Ordinary
verdict_of (Killed signal) = Ordinary
