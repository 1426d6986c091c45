use Rattle.server_laws.proofs.Telling.{its_own}
use Rattle.server_laws.proofs.told_its_own.Goals as goal

pub returns : goal.returns
returns c = λ events. its_own events
