use Rattle.std.proofs.Common.{arith, refl}
use Rattle.run_stories.proofs.Runs.{starts, goes_on, next_stops, end_stops}
use Rattle.run_stories.proofs.story.tell_all.Goals as goal

pub loop-done-init : goal.loop-done-init
loop-done-init g c = starts _ c.in-Ok.version _ _ _ _ _ c.in-Ok.ensures.ok c.requires.fresh c.requires.unnamed

pub loop-done-preserved : goal.loop-done-preserved
loop-done-preserved g c =
    goes_on _ _ _ _ _ _ _ _ _ _ c.loop-done.done c.loop-done.invariant.0 c.loop-done.invariant.1 _ _
    (rw c.in-Ok-true.field-0-test at c.in-Ok-true.ensures.ok)

pub returns-in-Err-tell_next-clause-fault : goal.returns-in-Err-tell_next-clause-fault
returns-in-Err-tell_next-clause-fault g c =
    next_stops _ _ _ _ _ _ _ _ _ c.loop-done.tree c.loop-done.done c.loop-done.invariant.0 c.loop-done.invariant.1
    c.in-Err-tell_next.fault (omega arith) c.in-Err-tell_next.ensures.fault

pub returns-in-Err-read_end-clause-fault : goal.returns-in-Err-read_end-clause-fault
returns-in-Err-read_end-clause-fault g c =
    end_stops _ _ _ _ _ _ _ _ _ c.loop-done.tree c.loop-done.done c.loop-done.invariant.0 c.loop-done.invariant.1
    c.in-Err-read_end.fault (omega arith) c.in-Err-read_end.ensures.fault refl
