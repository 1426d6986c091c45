use Rattle.std.proofs.Common.{◌∙◌, sym, subst, ◌<◌}
use Rattle.std.proofs.Math.Seq.{map-set_same}
use Rattle.event_directory.specs.Parts.{followed_of, followed_after}
use Rattle.event_directory.proofs.Places.{first_at, absent_at, same_followed}
use Rattle.event_directory.proofs.Changed.{room_set}
use Rattle.event_directory.proofs.listened.reserve_at.Goals as goal

pub returns-in_err-reserve-in-Some-clause-same : goal.returns-in_err-reserve-in-Some-clause-same
returns-in_err-reserve-in-Some-clause-same g c =
    map-set_same followed_of c.args.listened.now c.in-Some.place c.reserve.new.self c.index-listened-place.result
    (same_followed _ _ c.reserve.ensures.source c.reserve.ensures.same)

pub returns-in_err-reserve-in-Some-clause-prepared : goal.returns-in_err-reserve-in-Some-clause-prepared
returns-in_err-reserve-in-Some-clause-prepared g c =
    map-set_same followed_after c.args.listened.now c.in-Some.place c.reserve.new.self c.index-listened-place.result
    (same_followed _ _ c.reserve.ensures.source c.reserve.ensures.prepared)

pub returns-in_ok-reserve-in-Some-clause-same : goal.returns-in_ok-reserve-in-Some-clause-same
returns-in_ok-reserve-in-Some-clause-same g c =
    map-set_same followed_of c.args.listened.now c.in-Some.place c.reserve.new.self c.index-listened-place.result
    (same_followed _ _ c.reserve.ensures.source c.reserve.ensures.same)

pub returns-in_ok-reserve-in-Some-clause-prepared : goal.returns-in_ok-reserve-in-Some-clause-prepared
returns-in_ok-reserve-in-Some-clause-prepared g c =
    map-set_same followed_after c.args.listened.now c.in-Some.place c.reserve.new.self c.index-listened-place.result
    (same_followed _ _ c.reserve.ensures.source c.reserve.ensures.prepared)

pub returns-in_ok-reserve-in-Some-clause-place : goal.returns-in_ok-reserve-in-Some-clause-place
returns-in_ok-reserve-in-Some-clause-place g c = λ e.
    subst (λ n. 0 < n) (sym (room_set c.args.source c.args.listened.now c.in-Some.place c.reserve.new.self c.index-listened-place.result
    (first_at c.args.source c.args.listened.now c.in-Some.place c.index-listened-place.result (sym c.place_in.ensures ∙ c.in-Some.is))
    c.reserve.ensures.source)) c.in_ok-reserve-in-Some.ensures.room

pub returns-in-None-clause-absent : goal.returns-in-None-clause-absent
returns-in-None-clause-absent g c = λ e. absent_at c.args.source c.args.listened.now (sym c.place_in.ensures ∙ c.in-None.is)
