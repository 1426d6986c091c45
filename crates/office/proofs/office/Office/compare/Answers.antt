use Rattle.std.proofs.Common.{◌≡◌, List, sym, ap, subst, ◌∙◌}
use mathlib.Core.List.{IsPrefix}
use Rattle.std.specs.declared.alloc.Global.{Global}
use Rattle.tree_core.specs.declared.input.Input.{Input}
use Rattle.run_records.specs.Runs.{inputs_of}
use Rattle.locked_services.specs.Shots.{RoomView}
use Rattle.office.proofs.Runs.{either_begins}
use Rattle.office.proofs.office.Office.compare.Goals as goal

pub returns : goal.returns
returns g c =
    let room = c.deref_mut-2.ensures.value ∙ c.show.ensures.same in
    let same : c.show.new.known ≡ c.show-2.new.known =
    c.show.ensures.all ∙ (ap (λ (v : RoomView). inputs_of v.running.steps) (sym room) ∙ sym c.show-2.ensures.all) in
    let one = subst (λ (all : List (Input Global)). IsPrefix c.args.one.now all) same c.show.ensures.longer in
    record {
      longer = (c.show.ensures.longer, c.show-2.ensures.longer);
      same = same;
      agree = either_begins c.args.one.now c.args.other.now c.show-2.new.known one c.show-2.ensures.longer;
    }
