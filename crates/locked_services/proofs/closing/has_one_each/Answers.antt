use Rattle.std.proofs.Common.{rules, ◌≡◌, ◌==◌, ℕ, refl}
use Rattle.locked_services.specs.Closing.{finishes_of}
use Rattle.locked_services.proofs.Finished.{and_of_next}
use Rattle.locked_services.proofs.closing.has_one_each.Goals as goal

pub loop-actor-preserved : goal.loop-actor-preserved
loop-actor-preserved g c j below =
    let one : finishes_of c.loop-actor.actor c.args.finishes.now.items ≡ 1 = search rules in
    and_of_next (λ (n : ℕ). finishes_of n c.args.finishes.now.items ≡ 1) c.loop-actor.actor j (j == c.loop-actor.actor) refl
    c.loop-actor.invariant one below
