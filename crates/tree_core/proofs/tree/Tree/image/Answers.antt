use Rattle.std.proofs.Common.{◌≡◌, ◌∙◌, sym}
use Rattle.tree_core.specs.StandsFor.{IsCut}
use Rattle.tree_core.specs.TreeFields.{tree_view}
use Rattle.tree_core.proofs.tree.Tree.image.Goals as goal

pub returns : goal.returns
returns g c =
    let cut : IsCut (tree_view c.self.inside) = c.self.invariant.4 in
    let registry = c.in_ok-registry.ensures in
    let forgotten = c.needed_from-forgotten.ensures.value ∙ sym cut.cut in
    let kept = c.in_ok-kept.ensures.items ∙ c.kept_of.ensures in
    let waits = c.in_ok-waits.ensures in
    let directories = c.in_ok-directories.ensures in
    let parts : _ ≡ tree_view c.self.inside = λ i. record {
      clock = c.self.inside.clock;
      steps = c.self.inside.steps;
      closing = c.self.inside.closing;
      services = (registry i).services;
      next_sid = (registry i).next_sid;
      forgotten = forgotten i;
      kept = kept i;
      waits = waits i;
      directories = directories i;
    } in
    parts ∙ c.self.view_is
