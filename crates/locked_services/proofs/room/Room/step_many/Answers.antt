use Rattle.std.proofs.Common.{false, ◌≡◌, List, refl, ap, sym, subst, ◌∙◌, arith}
use Rattle.std.proofs.lemmas.Bool.Decides.{nat_tests}
use Rattle.std.proofs.lemmas.List.{map-append}
use Rattle.std.specs.declared.alloc.Global.{Global}
use mathlib.Core.List.{IsPrefix}
use Rattle.tree_core.specs.declared.input.Input.{Input}
use Rattle.run_records.specs.Runs.{RunStep, inputs_of}
use Rattle.locked_services.specs.Shots.{RoomView}
use Rattle.locked_services.proofs.Rings.{grows_none}
use Rattle.locked_services.proofs.Shown.{shows_steps, shows_same}
use Rattle.locked_services.proofs.room.Room.step_many.Goals as goal

pub invariant_of-self : goal.invariant_of-self
invariant_of-self g c =
    let v : RoomView = record { running = c.self.inside.running; shots = g.D.Board.shots c.self.inside.board; is_shown = c.self.inside.is_shown } in
    let more = c.step_many-driven.ensures.steps in (
      shows_steps g.C.Lanes.opening v
          (record { running = c.step_many-driven.new.self; shots = g.D.Board.shots c.self.inside.board; is_shown = false }) more.0 c.self.invariant.0
          c.step_many-driven.ensures.opening refl more.2 refl,
      c.keep.ensures,
    )

pub invariant_of-self-else-driven-gt0 : goal.invariant_of-self-else-driven-gt0
invariant_of-self-else-driven-gt0 g c =
    let v : RoomView = record { running = c.self.inside.running; shots = g.D.Board.shots c.self.inside.board; is_shown = c.self.inside.is_shown } in
    let more = c.step_many-driven.ensures.steps in
    let none : c.step_many-driven.result.steps ≡ 0 = let high = c.if-driven-gt0.false in grind (arith, nat_tests) in
    let same = grows_none c.step_many-driven.result.steps v.running.steps c.step_many-driven.new.self.steps more none in (
      shows_same g.C.Lanes.opening v (record {
        running = c.step_many-driven.new.self;
        shots = g.D.Board.shots c.self.inside.board;
        is_shown = c.self.inside.is_shown;
      }) c.self.invariant.0 c.step_many-driven.ensures.opening refl same refl,
      c.self.invariant.1 ∙ sym (ap inputs_of same),
    )

pub keep-requires-clause-longer : goal.keep-requires-clause-longer
keep-requires-clause-longer g c =
    let more = c.step_many-driven.ensures.steps in
    let old = c.self.inside.running.steps in
    subst (λ (l : List (Input Global)). IsPrefix l (inputs_of c.step_many-driven.new.self.steps)) (sym c.self.invariant.1)
    (inputs_of more.0, sym (map-append (λ (s : RunStep). s.input) old more.0) ∙ sym (ap inputs_of more.2))
