use Rattle.scan_tests.proofs.tables.prepare_orderly.Goals as goal

pub prepare-requires-clause-due : goal.prepare-requires-clause-due
prepare-requires-clause-due g c = c.is_ready.ensures.due c.if-not-is_ready.false

pub prepare-requires-clause-generations : goal.prepare-requires-clause-generations
prepare-requires-clause-generations g c = c.is_ready.ensures.few c.if-not-is_ready.false
