use Rattle.svc_commands.proofs.Parses.{rows_are, no_kind, fault_is}
use Rattle.svc_commands.proofs.matches.matches_in.Goals as goal

pub returns-in-Ok-clause-rows : goal.returns-in-Ok-clause-rows
returns-in-Ok-clause-rows c = rows_are _ _ c.in-Ok.matches c.requires c.in-Ok.ensures.matches

pub returns-in-Ok-clause-kinds : goal.returns-in-Ok-clause-kinds
returns-in-Ok-clause-kinds c = no_kind _ _ c.requires c.in-Ok.ensures.kinds

pub returns-in-Err-clause-kinds : goal.returns-in-Err-clause-kinds
returns-in-Err-clause-kinds c = rw (c.usage.ensures, c.kind.ensures) (fault_is _ _ c.in-Err.error c.requires c.in-Err.ensures.kinds)
