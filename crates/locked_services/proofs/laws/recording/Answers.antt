use Rattle.tree_core.specs.Machine.{new_machine}
use Rattle.locked_services.specs.Chain.{chain_steps}
use Rattle.locked_services.proofs.Chained.{one_run}
use Rattle.locked_services.proofs.Recording.{are_legal, chain_script}
use Rattle.locked_services.proofs.laws.recording.Goals as goal

pub returns-clause-script : goal.returns-clause-script
returns-clause-script c = chain_script

pub returns-clause-legal : goal.returns-clause-legal
returns-clause-legal c tree runs stands chained = are_legal (chain_steps runs) (one_run tree runs chained new_machine stands).0
