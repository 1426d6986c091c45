use Rattle.std.proofs.Common.{List, [], ◌∷◌, Vec, Global, length, slice_get, sym, ap, subst, ◌∙◌}
use Rattle.inbox.specs.Ends.{SeatView}
use Rattle.status_board.specs.declared.shot.Shot.{Shot}
use Rattle.tree_core.specs.StandsFor.{StandsFor, StoredTree}
use Rattle.locked_services.specs.Opening.{AreUnused}
use Rattle.locked_services.specs.Shots.{shot_of}
use Rattle.office.proofs.Named.{named_rings, named_lanes, named_before}
use Rattle.office.specs.Names.{ring_of, lane_ring_of, asked_of}
use Rattle.office.specs.NewOffice.{NewOfficeView}
use Rattle.office.specs.Opening.{AreReaders}
use Rattle.office.proofs.new_office.NewOffice.open.Goals as goal

pub into_open-requires-clause-rings : goal.into_open-requires-clause-rings
into_open-requires-clause-rings g c =
    named_lanes g.C.Lanes.lane_ring c.self.inside.lane_rings.items c.self.invariant.numbered
    (λ k. c.requires.lanes k ∙ ap (λ (v : NewOfficeView g.row.B.Denot). lane_ring_of (slice_get v.lane_rings k)) (sym c.self.view_is))

pub into_open-requires-clause-before : goal.into_open-requires-clause-before
into_open-requires-clause-before g c =
    named_before g.B.Backend.asked g.C.Lanes.asked_before c.self.inside.backends.items
    (λ k. c.requires.before k
    ∙ ap (λ (v : NewOfficeView g.row.B.Denot). asked_of g.B.Backend.asked (slice_get v.backends k)) (sym c.self.view_is))

pub into_open-requires-clause-first : goal.into_open-requires-clause-first
into_open-requires-clause-first g c m stands = c.in-Ok.ensures.first m (subst (λ (t : StoredTree). StandsFor t m) (sym c.deref.ensures) stands)

pub returns-in-Ok-clause-seats : goal.returns-in-Ok-clause-seats
returns-in-Ok-clause-seats g c = (
  subst (λ (seats : Vec SeatView Global). AreUnused seats.items) (sym c.into_open.ensures.ends.0) c.in-Ok.ensures.seats.0,
  ap (λ (seats : Vec SeatView Global). length seats.items) c.into_open.ensures.ends.0
      ∙ (c.in-Ok.ensures.seats.1 ∙ ap (λ (v : NewOfficeView g.row.B.Denot). length v.rings) c.self.view_is),
)

pub returns-in-Ok-clause-first : goal.returns-in-Ok-clause-first
returns-in-Ok-clause-first g c m stands =
    let own = subst (λ (v : NewOfficeView g.row.B.Denot). StandsFor v.tree m) (sym c.self.view_is) stands in
    let here = subst (λ (t : StoredTree). StandsFor t m) (sym c.deref.ensures) own in
    subst (λ (readers : Vec (List Shot) Global). AreReaders (shot_of m ∷ []) readers.items) (sym c.into_open.ensures.ends.1)
    (subst (λ (published : List Shot). AreReaders published c.in-Ok.parts.readers.items) (c.in-Ok.ensures.first m here) c.in-Ok.ensures.known)

pub make_parts-requires-clause-rings : goal.make_parts-requires-clause-rings
make_parts-requires-clause-rings g c =
    named_rings g.C.Channels.seat_ring c.self.inside.rings.items c.self.invariant.ordered
    (λ k. c.requires.seats k ∙ ap (λ (v : NewOfficeView g.row.B.Denot). ring_of (slice_get v.rings k)) (sym c.self.view_is))
