use Rattle.std.proofs.Common.{rules, ◌≡◌, ◌≤◌, ℕ, length, sym, subst, List}
use Rattle.supervise_core.specs.Service.{Supervised}
use Rattle.svscan_core.specs.Asked.{work_asked}
use Rattle.svscan_core.specs.Pending.{planned_of}
use Rattle.svscan_core.specs.Registry.{registry_prepared}
use Rattle.svscan_core.specs.Sound.{IsSound}
use Rattle.svscan_core.specs.Table.{Table, charts_of}
use Rattle.svscan_core.specs.Worked.{IsWorkOf}
use Rattle.svscan_core.proofs.Ready.{fits_as, sound_work}
use Rattle.svscan_core.proofs.registry.Registry.prepare_alone.Goals as goal

pub work_alone-requires-clause-sound : goal.work_alone-requires-clause-sound
work_alone-requires-clause-sound g c = c.self.invariant

pub work_alone-requires-clause-generations : goal.work_alone-requires-clause-generations
work_alone-requires-clause-generations g c = rw (← c.self.view_is) at c.requires.generations

pub invariant_of-self-2 : goal.invariant_of-self-2
invariant_of-self-2 g c =
    subst (λ (ss : List Supervised). IsSound c.self.inside.next_sid (charts_of ss)) (sym c.reserve.ensures.services) c.self.invariant

pub returns-clause-fits : goal.returns-clause-fits
returns-clause-fits g c =
    let services = c.self.inside.slots.services in
    let count : c.len.result ≡ length c.work_alone.new.self.scan.added.items = search rules in
    let room = subst (λ (n : ℕ). n ≤ c.reserve.new.self.room) count c.in_ok-reserve.ensures.room in
    record {
      number = search rules;
      fits = fits_as _ _ services c.reserve.ensures.services c.in_ok-work_alone.ensures.touched room
          (sound_work (registry_prepared services (planned_of c.work_alone.new.self)) (work_asked c.args.work.now) c.args.now c.self.inside.next_sid
          services c.self.invariant c.in_ok-work_alone.ensures.prepared.worked);
    }

pub returns-clause-prepared : goal.returns-clause-prepared
returns-clause-prepared g c =
    let old : Table = record { services = c.self.inside.slots.services; next_sid = c.self.inside.next_sid } in
    rw (← c.self.view_is)
    (subst (λ (ss : List Supervised). IsWorkOf (work_asked c.args.work.now) c.args.now old (registry_prepared ss (planned_of c.work_alone.new.self)))
    (sym c.reserve.ensures.services) c.in_ok-work_alone.ensures.prepared)
