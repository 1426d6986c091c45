use Rattle.std.proofs.Common.{refl}
use Rattle.run_records.proofs.writing.read_step.Goals as goal

pub returns : goal.returns
returns c s rest fits is =
    let head = c.take_head-actor.ensures s.input.actor s.input.at _ fits.actor fits.at is in
    let gave = c.in_ok-take_outcome.ensures s.outcome _ fits.outcome head.2 in
    let done = c.in_ok-act.ensures s.input.act rest fits.act gave.1 in
    (rw (head.0, head.1, done.0) refl, gave.0)
