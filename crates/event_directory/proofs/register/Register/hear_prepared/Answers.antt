use Rattle.event_directory.proofs.Changed.{still_by_room}
use Rattle.event_directory.proofs.register.Register.hear_prepared.Goals as goal

pub invariant_of-self : goal.invariant_of-self
invariant_of-self g c =
    still_by_room c.self.inside.listened c.commit_each.new.listened (rw c.deref_mut.ensures.value at c.commit_each.ensures.rooms) c.self.invariant
