use Rattle.std.proofs.Common.{[], ◌∷◌, sym, ap, subst, ◌∙◌}
use Rattle.tree_core.specs.StandsFor.{StandsFor}
use Rattle.run_records.specs.Runs.{end_of}
use Rattle.locked_services.specs.Running.{RunningView}
use Rattle.locked_services.specs.Shots.{shot_of}
use Rattle.office.proofs.opening.new_room.Goals as goal

pub begin-requires-clause-first : goal.begin-requires-clause-first
begin-requires-clause-first g c m stands =
    let same = c.begin-running.ensures in
    c.requires.first m (subst (λ (v : RunningView). StandsFor v.opening m) same stands)
    ∙ ap (λ (v : RunningView). shot_of (end_of m v.steps) ∷ []) (sym same)
