use Rattle.tree_core.specs.Machine.{new_machine}
use Rattle.locked_services.proofs.Chained.{one_run}
use Rattle.locked_services.proofs.laws.chain.Goals as goal

pub returns-clause-one : goal.returns-clause-one
returns-clause-one c = one_run

pub returns-clause-start : goal.returns-clause-start
returns-clause-start c tree runs stands chained = (one_run tree runs chained new_machine stands).0
