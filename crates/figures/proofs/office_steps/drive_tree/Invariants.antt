use Rattle.std.proofs.Common.{slice_get}
use Rattle.office.specs.Names.{ring_of, lane_ring_of, asked_of}
use Rattle.figures.proofs.office_steps.drive_tree.Given as goal

-- the names of the new office's rings and of its board
abbrev pub ghosts-drive_named-C-Channels : goal.ghosts-drive_named-C-Channels
ghosts-drive_named-C-Channels g a = record { seat_ring = λ k. ring_of (slice_get a.office.rings k); board = a.office.board }

-- its tree and its history, the names of its lanes' rings, and what their backends were asked
abbrev pub ghosts-drive_named-C-Lanes : goal.ghosts-drive_named-C-Lanes
ghosts-drive_named-C-Lanes g a = record {
  opening = a.office.tree;
  history = a.office.history;
  lane_ring = λ k. lane_ring_of (slice_get a.office.lane_rings k);
  asked_before = λ k. asked_of g.B.Backend.asked (slice_get a.office.backends k);
}
