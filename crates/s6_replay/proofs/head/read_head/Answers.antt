use Rattle.s6_replay.proofs.Heads.{stops_in_front, stops_at_digit, stops_at_newline}
use Rattle.s6_replay.proofs.head.read_head.Goals as goal

pub returns-in-Err-clause-fault : goal.returns-in-Err-clause-fault
returns-in-Err-clause-fault g c = stops_in_front c.in-Err.fault _ _ c.in-Err.ensures.fault

pub returns-in-Err-read_version-clause-fault : goal.returns-in-Err-read_version-clause-fault
returns-in-Err-read_version-clause-fault g c =
    stops_at_digit c.in-Err-read_version.fault _ _ _ c.in_default.ensures.ok c.in-Err-read_version.ensures.fault

pub returns-in-Err-read_literal-clause-fault : goal.returns-in-Err-read_literal-clause-fault
returns-in-Err-read_literal-clause-fault g c =
    stops_at_newline c.in-Err-read_literal.fault c.in-Ok.version _ _ _ _ c.in_default.ensures.ok c.in-Ok.ensures.ok
    c.in-Err-read_literal.ensures.fault
