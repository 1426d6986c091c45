use Rattle.event_directory.proofs.Heard.{least_match_is, no_match}
use Rattle.event_directory.proofs.laws.least_match_is_least.Goals as goal

pub returns-clause-some : goal.returns-clause-some
returns-clause-some g find text k e = least_match_is find text k e

pub returns-clause-none : goal.returns-clause-none
returns-clause-none g find text e k low in_text in_limit = no_match find text e k low in_text in_limit
