use Rattle.std.proofs.Common.{refl, subst}
use Rattle.tree_core.specs.Machine.{Machine}
use Rattle.tree_core.specs.StandsFor.{StandsFor, StoredTree}
use Rattle.locked_services.proofs.Lasting.{sound_begin}
use Rattle.locked_services.proofs.running.RunningTree.begin.Goals as goal

pub invariant_of-result : goal.invariant_of-result
invariant_of-result g c =
    let there = subst (λ (t : StoredTree). (m : Machine) × StandsFor t m) c.deref.ensures c.now-clock.ensures.there in
    sound_begin _ there c.requires.opening c.requires.steps refl c.requires.numbered c.requires.untaken c.requires.lanes c.requires.unsent
