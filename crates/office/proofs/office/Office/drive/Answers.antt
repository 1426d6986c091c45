use Rattle.std.proofs.Common.{◌≡◌, List, sym, ap, subst, ◌∙◌}
use mathlib.Core.List.{IsPrefix}
use Rattle.std.specs.declared.alloc.Global.{Global}
use Rattle.tree_core.specs.declared.input.Input.{Input}
use Rattle.run_records.specs.Runs.{inputs_of}
use Rattle.status_board.proofs.Beginnings.{prefix_trans}
use Rattle.locked_services.specs.Shots.{RoomView}
use Rattle.office.specs.Told.{AddsInputs, Stops}
use Rattle.office.proofs.Runs.{adds_inputs}
use Rattle.office.proofs.office.Office.drive.Goals as goal

pub returns : goal.returns
returns g c =
    let driven = c.drive-driven in
    let all = λ (v : RoomView). inputs_of v.running.steps in
    let steps = c.deref_mut-2.result.now.running.steps in
    let before : c.deref_mut-2.result.now ≡ c.deref_mut.result.now = c.deref_mut-2.ensures.value ∙ c.show.ensures.same in
    let after : c.deref_mut-3.result.now ≡ driven.new.self = c.deref_mut-3.ensures.value in
    let last : c.deref.result.now ≡ driven.new.self = c.deref.ensures ∙ (c.show-2.ensures.same ∙ after) in
    let knew : c.show.new.known ≡ inputs_of steps = c.show.ensures.all ∙ sym (ap all before) in
    let knows : c.show-2.new.known ≡ inputs_of driven.new.self.running.steps = c.show-2.ensures.all ∙ ap all after in
    let added = adds_inputs driven.result.steps steps driven.new.self.running.steps driven.ensures.steps in
    record {
      longer = prefix_trans c.args.known.now c.show.new.known c.show-2.new.known c.show.ensures.longer c.show-2.ensures.longer;
      most = driven.ensures.most;
      count = driven.ensures.count;
      made = (
        inputs_of steps,
        subst (λ (l : List (Input Global)). IsPrefix c.args.known.now l) knew c.show.ensures.longer,
        subst (λ (l : List (Input Global)). AddsInputs driven.result.steps (inputs_of steps) l) (sym knows) added,
      );
      told = (
        c.deref.result.now,
        c.steps-steps.ensures.sound,
        ap all last ∙ sym knows,
        subst (λ (v : RoomView). Stops driven.result.stop v.running) (sym last)
            (driven.ensures.blocked, driven.ensures.full, driven.ensures.idle),
      );
    }
