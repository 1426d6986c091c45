use Rattle.child_runner.proofs.Names.{name_is_text}
use Rattle.child_runner.proofs.order_commands.text_of.Goals as goal

-- a name is a text, so this is never come to
pub returns-in-Err : goal.returns-in-Err
returns-in-Err c = absurd (c.in-Err.ensures.cases.0 (name_is_text _ c.as_bytes.ensures.name))
