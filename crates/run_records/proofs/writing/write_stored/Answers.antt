use Rattle.std.proofs.Common.{ap, subst}
use Rattle.std.specs.declared.alloc.Global.{Global}
use Rattle.tree_core.specs.declared.input.Input.{Input}
use Rattle.tree_core.specs.Machine.{Outcome}
use Rattle.s6_script.specs.Recording.{FitsLine}
use Rattle.run_records.specs.declared.step_log.Stored.{Stored}
use Rattle.run_records.specs.Stored.{IsStored}
use Rattle.run_records.proofs.RunText.{same_lines, same_stop}
use Rattle.run_records.proofs.writing.write_stored.Goals as goal

pub returns-in-Ok-write_step-clause-fits : goal.returns-in-Ok-write_step-clause-fits
returns-in-Ok-write_step-clause-fits g c s stored =
    let known = subst (λ (st : Stored). IsStored s st) c.in-Coded.is stored in
    let read = c.in-Ok.ensures s known.0 known.2 known.1 in
    subst (λ (i : Input Global). FitsLine i) read.0 c.in-Ok-write_step.ensures.fits

pub returns-in-Ok-write_step-clause-ok : goal.returns-in-Ok-write_step-clause-ok
returns-in-Ok-write_step-clause-ok g c s stored =
    let known = subst (λ (st : Stored). IsStored s st) c.in-Coded.is stored in
    let read = c.in-Ok.ensures s known.0 known.2 known.1 in
    let reply = ap (λ (o : Outcome Global). o.reply) read.1 in
    same_lines (g.W.Write.contents c.args.writer.now) (g.W.Write.contents c.write_step-in-Coded.new.writer) _ s.input _ s.outcome.reply read.0 reply
    c.in-Ok-write_step.ensures.ok

pub returns-clause-fault : goal.returns-clause-fault
returns-clause-fault g c s stored =
    let known = subst (λ (st : Stored). IsStored s st) c.in-Coded.is stored in
    let read = c.in-Ok.ensures s known.0 known.2 known.1 in
    let reply = ap (λ (o : Outcome Global). o.reply) read.1 in
    same_stop c.in-Err.fault c.args.number _ s.input _ s.outcome.reply (g.W.Write.contents c.args.writer.now)
    (g.W.Write.contents c.write_step-in-Coded.new.writer) read.0 reply c.in-Err.ensures.fault
