use Rattle.run_records.proofs.step_log.StepLog.moment.Goals as goal

pub returns-in-Coded : goal.returns-in-Coded
returns-in-Coded c s there =
    let stored = c.in-Coded.ensures s there in
    (c.take_head.ensures s.input.actor s.input.at _ stored.2.actor stored.2.at stored.1).1
