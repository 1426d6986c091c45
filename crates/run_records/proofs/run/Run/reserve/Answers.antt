use Rattle.std.proofs.Common.{rules, ◌≡◌, ◌≤◌, ℕ, map, Some, slice_get, slice_set, subst, ◌∙◌}
use Rattle.run_records.specs.Runs.{PlaceList}
use Rattle.run_records.proofs.Placing.{actor_there, room_set}
use Rattle.run_records.proofs.run.Run.reserve.Goals as goal

pub returns-clause-room : goal.returns-clause-room
returns-clause-room c =
    let all = c.self.inside.places.items in
    let one = c.index_mut.result.now in
    let new = c.reserve-2.new.self in
    let low : c.args.actor ≤ 15 = subst (λ (n : ℕ). n ≤ 15) c.number.ensures.value c.number.ensures.bound in
    let k : c.from.result ≡ c.args.actor = c.from.ensures ∙ c.number.ensures.value in
    let here = actor_there all c.from.result c.args.actor one c.self.invariant.actors low k c.index_mut.ensures.value in
    let room : 1 ≤ new.room = search rules in
    record {
      log_fits = c.in_ok-reserve.ensures.room;
      place_fits = λ free at.
          let there : slice_get (map (λ (p : PlaceList). p.room) (slice_set all c.args.actor new)) c.args.actor ≡ Some free =
          subst (λ (j : ℕ). slice_get (map (λ (p : PlaceList). p.room) (slice_set all j new)) c.args.actor ≡ Some free) k at in
          subst (λ (n : ℕ). 1 ≤ n) (room_set all c.args.actor free one new here there) room;
    }
