use Rattle.run_records.proofs.step_log.StepLog.reply.Goals as goal

pub returns-in-Coded : goal.returns-in-Coded
returns-in-Coded c s there =
    let stored = c.in-Coded.ensures s there in
    let head = c.take_head-head.ensures s.input.actor s.input.at _ stored.2.actor stored.2.at stored.1 in
    (c.take_reply.ensures s.outcome.reply _ stored.2.outcome.reply head.2).0
