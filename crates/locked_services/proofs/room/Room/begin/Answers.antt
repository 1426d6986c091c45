use Rattle.std.proofs.Common.{sym, ap, ◌∙◌}
use Rattle.run_records.specs.Runs.{inputs_of}
use Rattle.locked_services.proofs.Shown.{shows_begin}
use Rattle.locked_services.proofs.room.Room.begin.Goals as goal

pub invariant_of-result : goal.invariant_of-result
invariant_of-result g c = (
  shows_begin g.C.Lanes.opening _ c.requires.opening c.steps-steps.ensures.sound.begins c.requires.steps c.requires.first,
  c.requires.history ∙ sym (ap inputs_of c.requires.steps),
)
