use Rattle.std.proofs.Common.{arith, refl}
use Rattle.s6_replay.proofs.Runs.{starts, goes_on, turn_stops, end_stops}
use Rattle.s6_replay.proofs.replay.replay_all.Goals as goal

pub loop-done-init : goal.loop-done-init
loop-done-init g c = starts _ c.in-Ok.version _ _ _ _ _ c.in-Ok.ensures.ok c.requires c.none-counts.ensures.inputs
    c.none-counts.ensures.events c.none-counts.ensures.orders

pub loop-done-preserved : goal.loop-done-preserved
loop-done-preserved g c =
    goes_on _ _ _ _ _ _ _ _ _ _ c.loop-done.done c.loop-done.counts c.loop-done.invariant.0 c.loop-done.invariant.1
    c.in-Ok-Done.events c.in-Ok-Done.orders c.with_input-counts.result (rw c.in-Ok-Done.field-0-is at c.in-Ok-Done.ensures.ok)
    c.with_input-counts.ensures.inputs c.with_input-counts.ensures.events c.with_input-counts.ensures.orders

pub returns-in-Err-take_turn-clause-fault : goal.returns-in-Err-take_turn-clause-fault
returns-in-Err-take_turn-clause-fault g c =
    turn_stops _ _ _ _ _ _ _ _ _ c.loop-done.tree c.loop-done.done c.loop-done.counts c.loop-done.invariant.0 c.loop-done.invariant.1
    c.in-Err-take_turn.fault (omega arith) c.in-Err-take_turn.ensures.fault

pub returns-in-Err-read_end-clause-fault : goal.returns-in-Err-read_end-clause-fault
returns-in-Err-read_end-clause-fault g c =
    end_stops _ _ _ _ _ _ _ _ _ c.loop-done.tree c.loop-done.done c.loop-done.counts c.loop-done.invariant.0 c.loop-done.invariant.1
    c.in-Err-read_end.fault (omega arith) c.in-Err-read_end.ensures.fault refl
