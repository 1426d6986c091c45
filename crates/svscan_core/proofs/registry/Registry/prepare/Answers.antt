use Rattle.std.proofs.Common.{rules, ◌≡◌, ◌≤◌, ℕ, length, sym, subst, List}
use Rattle.supervise_core.specs.Service.{Supervised}
use Rattle.svscan_core.specs.Asked.{work_asked}
use Rattle.svscan_core.specs.Pending.{planned_of}
use Rattle.svscan_core.specs.Registry.{registry_prepared}
use Rattle.svscan_core.specs.Sound.{IsSound}
use Rattle.svscan_core.specs.Table.{Table, charts_of}
use Rattle.svscan_core.specs.Worked.{IsStepOf}
use Rattle.svscan_core.proofs.Ready.{fits_as, sound_step, blank_idle}
use Rattle.svscan_core.proofs.registry.Registry.prepare.Goals as goal

pub work_out-requires-clause-sound : goal.work_out-requires-clause-sound
work_out-requires-clause-sound g c = c.self.invariant

pub work_out-requires-clause-generations : goal.work_out-requires-clause-generations
work_out-requires-clause-generations g c = rw (← c.self.view_is) at c.requires.generations

pub work_out-requires-clause-due : goal.work_out-requires-clause-due
work_out-requires-clause-due g c = rw (← c.self.view_is) at c.requires.due

pub invariant_of-self-2 : goal.invariant_of-self-2
invariant_of-self-2 g c =
    subst (λ (ss : List Supervised). IsSound c.self.inside.next_sid (charts_of ss)) (sym c.reserve.ensures.services) c.self.invariant

pub returns-clause-fits : goal.returns-clause-fits
returns-clause-fits g c =
    let services = c.self.inside.slots.services in
    let count : c.len.result ≡ length c.work_out.new.self.scan.added.items = search rules in
    let room = subst (λ (n : ℕ). n ≤ c.reserve.new.self.room) count c.in_ok-reserve.ensures.room in
    record {
      number = search rules;
      fits = fits_as _ _ services c.reserve.ensures.services c.in_ok-work_out.ensures.touched room
          (sound_step (registry_prepared services (planned_of c.work_out.new.self)) (work_asked c.args.work.now) c.args.now c.self.inside.next_sid
          services c.self.invariant c.in_ok-work_out.ensures.prepared.worked);
    }

pub returns-clause-prepared : goal.returns-clause-prepared
returns-clause-prepared g c =
    let old : Table = record { services = c.self.inside.slots.services; next_sid = c.self.inside.next_sid } in
    rw (← c.self.view_is)
    (subst (λ (ss : List Supervised). IsStepOf (work_asked c.args.work.now) c.args.now old (registry_prepared ss (planned_of c.work_out.new.self)))
    (sym c.reserve.ensures.services) c.in_ok-work_out.ensures.prepared)

pub returns-clause-few : goal.returns-clause-few
returns-clause-few g c = c.in_ok-work_out.ensures.limits.most

pub returns-clause-still : goal.returns-clause-still
returns-clause-still g c = λ none nothing.
    blank_idle c.reserve.new.self.services c.self.inside.next_sid c.work_out.new.self (c.in_ok-work_out.ensures.blank none nothing)
