use Rattle.event_directory.proofs.Changed.{still_by_room}
use Rattle.event_directory.proofs.register.Register.hear_message.Goals as goal

pub invariant_of-self : goal.invariant_of-self
invariant_of-self g c =
    still_by_room c.self.inside.listened c.hear_letters.new.listened (rw c.deref_mut.ensures.value at c.hear_letters.ensures.rooms) c.self.invariant
