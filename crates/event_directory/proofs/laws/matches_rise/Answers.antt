use Rattle.event_directory.specs.Directories.{subscriptions_to}
use Rattle.event_directory.proofs.Sends.{rising_hits}
use Rattle.event_directory.proofs.laws.matches_rise.Goals as goal

pub returns : goal.returns
returns g test s d h source x = rising_hits test x (subscriptions_to source d) (h.hears source).rising
