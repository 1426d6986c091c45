use Rattle.std.proofs.Common.{arith}
use Rattle.s6_replay.proofs.Checks.{goes_on, differs, stops, end_stops, head_stops}
use Rattle.s6_replay.proofs.checking.check_all.Goals as goal

pub returns-in-Err-clause-fault : goal.returns-in-Err-clause-fault
returns-in-Err-clause-fault g c = head_stops _ c.in-Err.fault _ _ c.in-Err.ensures.fault

pub returns-in-Err-compare_step-clause-fault : goal.returns-in-Err-compare_step-clause-fault
returns-in-Err-compare_step-clause-fault g c =
    stops _ _ _ _ _ c.loop-done.tree c.loop-done.done c.loop-done.invariant.0 c.loop-done.invariant.1
    c.in-Err-compare_step.fault (omega arith) c.in-Err-compare_step.ensures.fault

pub returns-in-Ok-Other-clause-ok : goal.returns-in-Ok-Other-clause-ok
returns-in-Ok-Other-clause-ok g c =
    differs _ _ _ _ _ c.compare_step.new.tree c.loop-done.done c.loop-done.invariant.0 c.loop-done.invariant.1 (omega arith)
    (rw c.in-Ok-Other.field-0-is at c.in-Ok-Other.ensures.ok)

pub loop-done-preserved : goal.loop-done-preserved
loop-done-preserved g c =
    goes_on _ _ _ _ _ c.compare_step.new.tree c.loop-done.done c.loop-done.invariant.0 c.loop-done.invariant.1
    (rw c.in-Ok-Same.field-0-is at c.in-Ok-Same.ensures.ok)

pub returns-in-Err-read_end-clause-fault : goal.returns-in-Err-read_end-clause-fault
returns-in-Err-read_end-clause-fault g c =
    end_stops _ _ _ _ _ c.loop-done.tree c.loop-done.done c.loop-done.invariant.0 c.loop-done.invariant.1
    c.in-Err-read_end.fault (omega arith) c.in-Err-read_end.ensures.fault
