use Rattle.std.proofs.Common.{arith, refl}
use Rattle.s6_replay.proofs.Migrations.{starts, goes_on, step_stops, end_stops, head_stops, head_unwritten}
use Rattle.s6_replay.proofs.migration.migrate_all.Goals as goal

pub returns-in-Err-clause-fault : goal.returns-in-Err-clause-fault
returns-in-Err-clause-fault g c = head_stops _ c.in-Err.fault _ _ _ c.in-Err.ensures.fault

pub returns-in-Err-write_head-clause-fault : goal.returns-in-Err-write_head-clause-fault
returns-in-Err-write_head-clause-fault g c =
    rw c.in-Err-write_head.ensures.fault.0 (head_unwritten _ _ _ _ _ (rw c.in-Ok-One.field-0-is at c.in-Ok-One.ensures.ok)
    c.in-Err-write_head.ensures.fault.1)

pub loop-done-init : goal.loop-done-init
loop-done-init g c = starts _ _ _ _ _ _ _
    (rw c.in-Ok-One.field-0-is at c.in-Ok-One.ensures.ok) c.in_default.ensures.ok c.requires c.none-counts.ensures.inputs
    c.none-counts.ensures.events c.none-counts.ensures.orders

pub loop-done-preserved : goal.loop-done-preserved
loop-done-preserved g c =
    goes_on _ _ _ _ _ _ _ _ _ c.loop-done.done c.loop-done.counts c.loop-done.invariant.0 c.loop-done.invariant.1
    c.in-Ok-Done.events c.in-Ok-Done.orders c.with_input-counts.result (rw c.in-Ok-Done.field-0-is at c.in-Ok-Done.ensures.ok)
    c.with_input-counts.ensures.inputs c.with_input-counts.ensures.events c.with_input-counts.ensures.orders

pub returns-in-Err-record_step-clause-fault : goal.returns-in-Err-record_step-clause-fault
returns-in-Err-record_step-clause-fault g c =
    step_stops _ _ _ _ _ _ _ _ c.loop-done.tree c.loop-done.done c.loop-done.counts c.loop-done.invariant.0 c.loop-done.invariant.1
    c.in-Err-record_step.fault (omega arith) c.in-Err-record_step.ensures.fault

pub returns-in-Err-read_end-clause-fault : goal.returns-in-Err-read_end-clause-fault
returns-in-Err-read_end-clause-fault g c =
    end_stops _ _ _ _ _ _ _ _ c.loop-done.tree c.loop-done.done c.loop-done.counts c.loop-done.invariant.0 c.loop-done.invariant.1
    c.in-Err-read_end.fault (omega arith) c.in-Err-read_end.ensures.fault refl
