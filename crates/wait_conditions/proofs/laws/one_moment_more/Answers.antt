use Rattle.wait_conditions.proofs.Standings.{standing-push}
use Rattle.wait_conditions.proofs.laws.one_moment_more.Goals as goal

pub returns : goal.returns
returns c a past since m = standing-push a past since m
