use Rattle.std.proofs.Common.{◌∙◌}
use Rattle.replay_tool.proofs.LineFront.{line_front}
use Rattle.replay_tool.proofs.fault_lines.tell.Goals as goal

pub returns-in-Ok : goal.returns-in-Ok
returns-in-Ok g c =
    line_front c.write_whole.result _ _ _ _ (c.as_slice.ensures.value ∙ c.in-Ok.ensures) c.write_whole.ensures.ok c.write_whole.ensures.write
