use Rattle.event_directory.proofs.Heard.{heard-next, heard-nothing}
use Rattle.event_directory.proofs.laws.one_letter_more.Goals as goal

pub returns-clause-start : goal.returns-clause-start
returns-clause-start g find repeats = heard-nothing find repeats

pub returns-clause-next : goal.returns-clause-next
returns-clause-next g find repeats x text = heard-next find repeats x text
