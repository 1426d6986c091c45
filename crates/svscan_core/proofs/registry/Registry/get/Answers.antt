use Rattle.svscan_core.specs.Table.{charts_of, serials_of}
use Rattle.svscan_core.proofs.SerialsRise.{rising_before}
use Rattle.svscan_core.proofs.registry.Registry.get.Goals as goal

pub get-requires : goal.get-requires
get-requires g c = rising_before (serials_of (charts_of c.self.inside.slots.services)) c.self.inside.next_sid c.self.invariant.order
