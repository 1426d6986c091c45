use Rattle.event_directory.proofs.Heard.{heard-again}
use Rattle.event_directory.proofs.laws.begins_again.Goals as goal

pub returns : goal.returns
returns g find repeats text = heard-again find repeats text
