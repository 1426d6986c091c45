use Rattle.std.proofs.Common.{ap, inr, length, refl}
use Rattle.s6_replay.specs.Turn.{text_in}
use Rattle.s6_replay.proofs.LineRead.{answers_by, stops_by}
use Rattle.s6_replay.proofs.turn.take_turn.Goals as goal

pub returns-in-Ok-write_block-clause-ok : goal.returns-in-Ok-write_block-clause-ok
returns-in-Ok-write_block-clause-ok g c =
    let read = rw c.if-not-found.false at c.in_ok-found.ensures.ok in (
      record { input = c.read_step.new.scratch.input; reply = text_in c.read_step.new.scratch.reply.items },
      read.0,
      read.2,
      (
        c.as_slice-events.type_inv.0,
        c.as_slice-orders.type_inv.0,
        answers_by _ _ _ _ _ _ _ c.read_step.new.scratch.input _ c.in-Ok.ensures.step c.in-Ok-write_block.ensures.ok
            (ap length c.as_slice-events.ensures.value) (ap length c.as_slice-orders.ensures.value),
      ),
    )

pub returns-in-Err-Write-clause-fault : goal.returns-in-Err-Write-clause-fault
returns-in-Err-Write-clause-fault g c =
    let read = rw c.if-not-found.false at c.in_ok-found.ensures.ok in
    inr (
      record { input = c.read_step.new.scratch.input; reply = text_in c.read_step.new.scratch.reply.items },
      read.0,
      read.1,
      read.2,
      stops_by _ _ _ _ _ c.read_step.new.scratch.input _ c.in-Ok.ensures.step ((rw c.in-Err-Write.field-0-is at c.in-Err-Write.ensures.write) refl),
    )
