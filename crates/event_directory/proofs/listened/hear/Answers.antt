use Rattle.std.proofs.Common.{◌++◌, sym, ap, ◌∙◌}
use Rattle.std.proofs.Math.Seq.{map-set_same}
use Rattle.event_directory.specs.Parts.{followed_of, room_of}
use Rattle.event_directory.proofs.Places.{same_followed, same_pair, first_at, absent_at}
use Rattle.event_directory.proofs.Hears.{hear_here, hear_nowhere, hits_here, hits_nowhere}
use Rattle.event_directory.proofs.listened.hear.Goals as goal

pub returns-in_err-hits-in-Some-clause-same : goal.returns-in_err-hits-in-Some-clause-same
returns-in_err-hits-in-Some-clause-same g c =
    map-set_same followed_of c.args.listened.now c.in-Some.place c.prepare_more.new.self c.index-listened-place.result
    (same_followed _ _ c.prepare_more.ensures.source c.prepare_more.ensures.same)

pub returns-in_err-hits-in-Some-clause-rooms : goal.returns-in_err-hits-in-Some-clause-rooms
returns-in_err-hits-in-Some-clause-rooms g c =
    map-set_same room_of c.args.listened.now c.in-Some.place c.prepare_more.new.self c.index-listened-place.result
    (same_pair _ _ _ _ c.prepare_more.ensures.source c.prepare_more.ensures.room)

pub returns-in_err-extend_from_slice-in-Some-clause-same : goal.returns-in_err-extend_from_slice-in-Some-clause-same
returns-in_err-extend_from_slice-in-Some-clause-same g c =
    map-set_same followed_of c.args.listened.now c.in-Some.place c.prepare_more.new.self c.index-listened-place.result
    (same_followed _ _ c.prepare_more.ensures.source c.prepare_more.ensures.same)

pub returns-in_err-extend_from_slice-in-Some-clause-rooms : goal.returns-in_err-extend_from_slice-in-Some-clause-rooms
returns-in_err-extend_from_slice-in-Some-clause-rooms g c =
    map-set_same room_of c.args.listened.now c.in-Some.place c.prepare_more.new.self c.index-listened-place.result
    (same_pair _ _ _ _ c.prepare_more.ensures.source c.prepare_more.ensures.room)

pub returns-in_ok-extend_from_slice-in-Some-clause-same : goal.returns-in_ok-extend_from_slice-in-Some-clause-same
returns-in_ok-extend_from_slice-in-Some-clause-same g c =
    map-set_same followed_of c.args.listened.now c.in-Some.place c.prepare_more.new.self c.index-listened-place.result
    (same_followed _ _ c.prepare_more.ensures.source c.prepare_more.ensures.same)

pub returns-in_ok-extend_from_slice-in-Some-clause-rooms : goal.returns-in_ok-extend_from_slice-in-Some-clause-rooms
returns-in_ok-extend_from_slice-in-Some-clause-rooms g c =
    map-set_same room_of c.args.listened.now c.in-Some.place c.prepare_more.new.self c.index-listened-place.result
    (same_pair _ _ _ _ c.prepare_more.ensures.source c.prepare_more.ensures.room)

pub returns-in_ok-extend_from_slice-in-Some-clause-prepared :
    goal.returns-in_ok-extend_from_slice-in-Some-clause-prepared
returns-in_ok-extend_from_slice-in-Some-clause-prepared g c =
    hear_here g.F.Finds.test c.args.source c.args.letter c.args.listened.now c.in-Some.place c.prepare_more.new.self c.index-listened-place.result
    (first_at c.args.source c.args.listened.now c.in-Some.place c.index-listened-place.result (sym c.place_in.ensures ∙ c.in-Some.is))
    c.prepare_more.ensures.source c.in_ok-hits-in-Some.ensures.prepared

pub returns-in_ok-extend_from_slice-in-Some-clause-matches :
    goal.returns-in_ok-extend_from_slice-in-Some-clause-matches
returns-in_ok-extend_from_slice-in-Some-clause-matches g c =
    rw (c.in_ok-extend_from_slice-in-Some.ensures.items, c.deref.ensures.value)
    (ap (λ l. c.args.matches.now.items ++ l)
    (hits_here g.F.Finds.test c.args.source c.args.letter c.args.listened.now c.in-Some.place c.index-listened-place.result
    (first_at c.args.source c.args.listened.now c.in-Some.place c.index-listened-place.result (sym c.place_in.ensures ∙ c.in-Some.is)) _
    c.in_ok-hits-in-Some.ensures.hits))

pub returns-in-None-clause-prepared : goal.returns-in-None-clause-prepared
returns-in-None-clause-prepared g c = hear_nowhere g.F.Finds.test c.args.source c.args.letter c.args.listened.now
    (absent_at c.args.source c.args.listened.now (sym c.place_in.ensures ∙ c.in-None.is))

pub returns-in-None-clause-matches : goal.returns-in-None-clause-matches
returns-in-None-clause-matches g c = hits_nowhere g.F.Finds.test c.args.source c.args.letter c.args.listened.now c.args.matches.now.items
    (absent_at c.args.source c.args.listened.now (sym c.place_in.ensures ∙ c.in-None.is))
