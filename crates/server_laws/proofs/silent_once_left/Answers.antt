use Rattle.server_laws.proofs.Silence as silence
use Rattle.server_laws.proofs.silent_once_left.Goals as goal

pub returns : goal.returns
returns c = λ before after. silence.silent_once_left before after
