use Rattle.std.proofs.Common.{◌≡◌, ◌≤◌, ℕ, List, [], ◌∷◌, ◌++◌, length, Some, slice_get, slice_set, sym, ap, subst, ◌∙◌}
use Rattle.std.proofs.lemmas.List.{length-set}
use Rattle.tree_core.specs.Effect.{outcome_of}
use Rattle.run_records.specs.Runs.{RunStep, RunView, ArePlaced}
use Rattle.run_records.proofs.Placing.{actor_there, placed_snoc, room_at}
use Rattle.run_records.proofs.run.Run.add.Goals as goal

pub push-requires : goal.push-requires
push-requires g c =
    let all = c.self.inside.places.items in
    let one = c.index_mut.result.now in
    let mine : c.number.result ≡ (g.I.KeptInput.input c.args.input).actor = c.number.ensures.value ∙ c.actor.ensures in
    let low : (g.I.KeptInput.input c.args.input).actor ≤ 15 = subst (λ (n : ℕ). n ≤ 15) mine c.number.ensures.bound in
    let here = actor_there all c.from.result (g.I.KeptInput.input c.args.input).actor one c.self.invariant.actors low
    (c.from.ensures ∙ mine) c.index_mut.ensures.value in
    c.requires.room.place_fits one.room
    (subst (λ (v : RunView). slice_get v.place_room (g.I.KeptInput.input c.args.input).actor ≡ Some one.room) c.self.view_is
    (room_at all (g.I.KeptInput.input c.args.input).actor one here))

pub invariant_of-self : goal.invariant_of-self
invariant_of-self g c =
    let all = c.self.inside.places.items in
    let before = c.self.inside.log.steps in
    let step : RunStep = record { input = g.I.KeptInput.input c.args.input; outcome = outcome_of c.args.effect.now } in
    let one = c.index_mut.result.now in
    let mine : c.number.result ≡ (g.I.KeptInput.input c.args.input).actor = c.number.ensures.value ∙ c.actor.ensures in
    let low : (g.I.KeptInput.input c.args.input).actor ≤ 15 = subst (λ (n : ℕ). n ≤ 15) mine c.number.ensures.bound in
    let k : c.from.result ≡ (g.I.KeptInput.input c.args.input).actor = c.from.ensures ∙ mine in
    let here = actor_there all c.from.result (g.I.KeptInput.input c.args.input).actor one c.self.invariant.actors low k c.index_mut.ensures.value in
    let joined : c.push.new.self.places ≡ one.places ++ length before ∷ [] =
    c.push.ensures ∙ ap (λ (n : ℕ). one.places ++ n ∷ []) c.len.ensures in
    let steps : c.push-2.new.self.steps ≡ before ++ step ∷ [] = c.push-2.ensures in
    record {
      actors = length-set all c.from.result c.push.new.self ∙ c.self.invariant.actors;
      placed = subst (λ (ss : List RunStep). ArePlaced (slice_set all c.from.result c.push.new.self) ss) (sym steps)
          (subst (λ (j : ℕ). ArePlaced (slice_set all j c.push.new.self) (before ++ step ∷ [])) (sym k)
          (placed_snoc all before step one c.push.new.self c.self.invariant.placed here joined));
    }
