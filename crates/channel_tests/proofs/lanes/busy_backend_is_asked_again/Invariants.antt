use Rattle.std.proofs.Common.{[]}
use Rattle.order_lanes.specs.Opening.{no_inputs, no_tree}
use Rattle.channel_tests.proofs.lanes.busy_backend_is_asked_again.Given as goal

-- the ring that was just opened is the only one
abbrev pub ghosts-ask_until_idle : goal.ghosts-ask_until_idle
ghosts-ask_until_idle g a = record { opening = no_tree; history = no_inputs; lane_ring = λ lane. a.ring.ring; asked_before = λ lane. [] }
