use Rattle.std.proofs.Common.{◌≤◌, ℕ, vec_capacity, sym, subst, ◌∙◌}
use Rattle.tree_core.specs.StandsFor.{StandsFor, StoredTree}
use Rattle.run_records.specs.Runs.{end_of}
use Rattle.locked_services.specs.Closing.{desk_unseen}
use Rattle.locked_services.proofs.EndOfRun.{same_length}
use Rattle.locked_services.proofs.Served.{backend_each, carried_out, same_asked}
use Rattle.locked_services.proofs.room.Room.close.Goals as goal

pub returns-in-None-clause-closed : goal.returns-in-None-clause-closed
returns-in-None-clause-closed g c =
    let asked = g.B.Backend.asked in
    let v = c.args.self.running in
    let desks = c.args.desks.items in
    let fault = c.in-None.ensures in
    let sound = c.steps-steps.ensures.sound.running in
    let backends = c.backends_of.result.items in
    let same = c.backends_of.ensures ∙ same_asked desks c.close_fault.new.desks.items c.close_fault.ensures.desks in
    let tree = c.into_parts-tree.ensures.tree ∙ c.close_fault.ensures.same.running.tree in
    record {
      complete = fault.complete;
      done = fault.done;
      lanes = backend_each asked backends desks same ∙ fault.each;
      carried_out = carried_out asked g.C.Lanes.asked_before v.lanes desks v.steps backends same fault.each fault.served sound.sent;
      tree = tree;
      steps = c.steps-steps.ensures.count;
      run = c.into_parts-tree.ensures.run ∙ c.close_fault.ensures.same.running.steps;
      legal = λ m stands. (
        sound.legal m stands,
        subst (λ (t : StoredTree). StandsFor t (end_of m v.steps)) (sym tree) (sound.stands m stands),
      );
    }

pub backends_of-requires-clause-fits : goal.backends_of-requires-clause-fits
backends_of-requires-clause-fits g c =
    let each = same_length desk_unseen c.args.desks.items c.close_fault.new.desks.items c.close_fault.ensures.desks in
    subst (λ (n : ℕ). n ≤ vec_capacity c.args.backends) (sym each) c.requires.fits
