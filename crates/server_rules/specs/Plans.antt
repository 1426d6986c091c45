-- What actor 0 is to hand in at a moment.
use Rattle.std.specs.Prelude.{ℕ, Bool, not, length, ◌==◌, Option, Some, None, nat_le, ◌&&◌, if◌then◌else◌}
use Rattle.server_rules.specs.declared.plans.Plans.{Plans}
use Rattle.server_rules.specs.declared.plans.Wanted.{Wanted}
use Rattle.server_rules.specs.declared.plans.Wanted.TheVariants as wanted

-- a client asks for a scan, and none is under way
abbrev pub is_called : Plans → Bool
is_called plans = not (length plans.askers.items == 0) && not plans.is_scanning

-- a tick is wanted once the moment has come at which something is due
abbrev pub wanted_by : Option ℕ → ℕ → Wanted
wanted_by None now = wanted.Nothing
wanted_by (Some due) now = if nat_le due now then wanted.Tick else wanted.At due

-- scans go before ticks
abbrev pub wanted_at : Plans → ℕ → Wanted
wanted_at plans now = if is_called plans then wanted.Scan else wanted_by plans.due now
