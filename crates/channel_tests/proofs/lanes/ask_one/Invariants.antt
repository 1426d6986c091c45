use Rattle.std.proofs.Common.{[]}
use Rattle.order_lanes.specs.Opening.{no_inputs, no_tree}
use Rattle.channel_tests.proofs.lanes.ask_one.Given as goal

-- the ring that was just opened is the only one
abbrev pub ghosts-ask_twice : goal.ghosts-ask_twice
ghosts-ask_twice g a = record { opening = no_tree; history = no_inputs; lane_ring = λ lane. a.ring.ring; asked_before = λ lane. [] }
