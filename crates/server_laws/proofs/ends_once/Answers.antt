use Rattle.server_laws.proofs.Ending as ending
use Rattle.server_laws.proofs.ends_once.Goals as goal

pub returns : goal.returns
returns c = λ h events is. ending.ends_once h events is
