use Rattle.std.proofs.Common.{◌∙◌, sym, subst, map, arith}
use Rattle.event_directory.specs.Parts.{AreDistinct, IsAbsent, followed_of, room_of}
use Rattle.event_directory.proofs.Places.{sources_of}
use Rattle.event_directory.proofs.Changed.{still_by_followed, items_by, sources_roomed}
use Rattle.event_directory.proofs.register.Register.reserve_subscription.Goals as goal

pub invariant_of-self-in_err-reserve_at : goal.invariant_of-self-in_err-reserve_at
invariant_of-self-in_err-reserve_at g c =
    still_by_followed c.self.inside.listened c.reserve_at.new.listened (rw c.deref_mut.ensures.value at c.reserve_at.ensures.same) c.self.invariant

pub invariant_of-self-then-branch : goal.invariant_of-self-then-branch
invariant_of-self-then-branch g c =
    still_by_followed c.self.inside.listened c.reserve_at.new.listened (rw c.deref_mut.ensures.value at c.reserve_at.ensures.same) c.self.invariant

pub invariant_of-self-in_err-reserve-2 : goal.invariant_of-self-in_err-reserve-2
invariant_of-self-in_err-reserve-2 g c =
    subst (λ ls. AreDistinct (sources_of ls)) (sym c.reserve-2.ensures.items)
    (still_by_followed c.self.inside.listened c.reserve_at.new.listened
    (rw c.deref_mut.ensures.value at c.reserve_at.ensures.same) c.self.invariant)

pub invariant_of-self-in_err-directory : goal.invariant_of-self-in_err-directory
invariant_of-self-in_err-directory g c =
    subst (λ ls. AreDistinct (sources_of ls)) (sym c.reserve-2.ensures.items)
    (still_by_followed c.self.inside.listened c.reserve_at.new.listened
    (rw c.deref_mut.ensures.value at c.reserve_at.ensures.same) c.self.invariant)

pub invariant_of-self-2 : goal.invariant_of-self-2
invariant_of-self-2 g c =
    subst (λ ls. AreDistinct (sources_of ls)) (sym c.reserve-2.ensures.items)
    (still_by_followed c.self.inside.listened c.reserve_at.new.listened
    (rw c.deref_mut.ensures.value at c.reserve_at.ensures.same) c.self.invariant)

pub returns-clause-room : goal.returns-clause-room
returns-clause-room g c = record {
  subscriber = omega (arith, c.in_ok-reserve.ensures.ok);
  directory = omega (arith, c.in_ok-reserve-2.ensures.ok);
  place = c.in_ok-directory.ensures.room;
  empty = c.in_ok-directory.ensures.none;
  absent =
      subst (λ s. IsAbsent s (map (λ r. r.0) (map room_of c.reserve-2.new.self.items))) (sym c.in_ok-directory.ensures.source)
      (subst (IsAbsent c.args.source.now) (sym (sources_roomed c.reserve-2.new.self.items))
      (subst (λ ls. IsAbsent c.args.source.now (sources_of ls))
      (sym (c.reserve-2.ensures.items ∙ items_by followed_of c.self.inside.listened c.reserve_at.new.listened
      (rw c.deref_mut.ensures.value at c.reserve_at.ensures.same)))
      (c.in_ok-reserve_at.ensures.absent c.if-branch.false)));
  next = rw (← c.self.view_is) at c.requires;
}
