use Rattle.std.proofs.Common.{sym, subst, List}
use Rattle.supervise_core.specs.declared.chart_state.ChartState.{ChartState}
use Rattle.svscan_core.specs.Sound.{IsSound}
use Rattle.svscan_core.specs.Table.{charts_of, serials_of}
use Rattle.svscan_core.proofs.Ready.{sound_change}
use Rattle.svscan_core.proofs.SerialsRise.{rising_before}
use Rattle.svscan_core.proofs.registry.Registry.change.Goals as goal

pub change-requires-clause-order : goal.change-requires-clause-order
change-requires-clause-order g c = rising_before
    (serials_of (charts_of c.self.inside.slots.services)) c.self.inside.next_sid c.self.invariant.order

pub change-requires-clause-generations : goal.change-requires-clause-generations
change-requires-clause-generations g c = rw (← c.self.view_is) at c.requires

pub invariant_of-self : goal.invariant_of-self
invariant_of-self g c =
    subst (λ (cs : List ChartState). IsSound c.self.inside.next_sid cs) (sym c.change.ensures.takes.services)
    (sound_change c.args.sid c.args.change.now c.args.now c.self.inside.next_sid (charts_of c.self.inside.slots.services) c.self.invariant)

pub returns-clause-takes : goal.returns-clause-takes
returns-clause-takes g c = rw (← c.self.view_is) c.change.ensures.takes

pub returns-clause-gives : goal.returns-clause-gives
returns-clause-gives g c = rw (← c.self.view_is) c.change.ensures.gives

pub returns-clause-known : goal.returns-clause-known
returns-clause-known g c = rw (← c.self.view_is) c.change.ensures.known
