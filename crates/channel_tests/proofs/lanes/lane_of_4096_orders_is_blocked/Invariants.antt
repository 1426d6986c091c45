use Rattle.std.proofs.Common.{[], if◌then◌else◌, nat_eq}
use Rattle.order_lanes.specs.Opening.{no_inputs, no_tree}
use Rattle.channel_tests.proofs.lanes.lane_of_4096_orders_is_blocked.Given as goal

-- the rings that were just opened
abbrev pub ghosts-fill_one_lane : goal.ghosts-fill_one_lane
ghosts-fill_one_lane g a = record {
  opening = no_tree;
  history = no_inputs;
  lane_ring = λ lane. if nat_eq lane 0 then a.first.ring else a.second.ring;
  asked_before = λ lane. [];
}
