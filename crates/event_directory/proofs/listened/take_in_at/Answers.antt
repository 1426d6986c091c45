use Rattle.std.proofs.Common.{◌∙◌, sym, subst, ◌<◌, arith}
use Rattle.std.proofs.Math.Seq.{map-set_same}
use Rattle.event_directory.specs.Sending.{new_kept_subscription}
use Rattle.event_directory.proofs.Places.{first_at, absent_at}
use Rattle.event_directory.proofs.Changed.{joined_here, room_here, room_nowhere}
use Rattle.event_directory.proofs.listened.take_in_at.Goals as goal

pub take_in-requires : goal.take_in-requires
take_in-requires g c =
    subst (λ n. 0 < n) (room_here c.args.source c.args.listened.now c.in-Some.place c.index-listened-place.result
    (first_at c.args.source c.args.listened.now c.in-Some.place c.index-listened-place.result (sym c.place_in.ensures ∙ c.in-Some.is))) c.requires

pub unreachable-requires : goal.unreachable-requires
unreachable-requires g c =
    omega (
      arith,
      subst (λ n. 0 < n) (room_nowhere c.args.source c.args.listened.now
          (absent_at c.args.source c.args.listened.now (sym c.place_in.ensures ∙ c.in-None.is))) c.requires,
    )

pub returns-clause-after : goal.returns-clause-after
returns-clause-after g c =
    joined_here c.args.source (new_kept_subscription c.args.id (g.F.Finds.source c.args.pattern) c.args.repeats) c.args.listened.now c.in-Some.place
    c.take_in.new.self c.index-listened-place.result
    (first_at c.args.source c.args.listened.now c.in-Some.place c.index-listened-place.result (sym c.place_in.ensures ∙ c.in-Some.is))
    c.take_in.ensures.source c.take_in.ensures.after

pub returns-clause-sources : goal.returns-clause-sources
returns-clause-sources g c = map-set_same (λ l. l.source) c.args.listened.now c.in-Some.place c.take_in.new.self c.index-listened-place.result
    c.take_in.ensures.source
