-- What a step is asked to do.
use Rattle.std.specs.Prelude.{◌≡◌, ℕ, ◌+◌, ◌<◌, ◌^◌, false}
use Rattle.svscan_core.specs.declared.work.ServiceWork.{ServiceWork}
use Rattle.svscan_core.specs.declared.work.ServiceWork.TheVariants.{Nothing, Change, Listing, Command}
use Rattle.svscan_core.specs.Limits.{service_limit}
use Rattle.svscan_core.specs.Listing.{names_in}
use Rattle.svscan_core.specs.Names.{repeats_name}
use Rattle.svscan_core.specs.Work.{Work}
use Rattle.svscan_core.specs.Work.Work.{do_nothing, change_one, apply_listing, command}

-- the work that a caller hands in
abbrev pub work_asked : ServiceWork → Work
work_asked Nothing = do_nothing
work_asked (Change sid change) = change_one sid change.now
work_asked (Listing listing) = apply_listing listing.now
work_asked (Command order) = command order

-- a listing has no name twice, and there are serials left for all services that may be new
abbrev pub IsOrderly : ℕ → Work → Type 0
IsOrderly next_sid (apply_listing listing) = (repeats_name (names_in listing) ≡ false) × (next_sid + (service_limit + 1) < 2 ^ 64)
IsOrderly next_sid work = Unit {0}
