use Rattle.std.proofs.Common.{[], if◌then◌else◌, nat_eq}
use Rattle.order_lanes.specs.Opening.{no_inputs, no_tree}
use Rattle.channel_tests.proofs.lanes.each_order_goes_by_its_own_lane.Given as goal

-- the rings that were just opened
abbrev pub ghosts-send_and_carry : goal.ghosts-send_and_carry
ghosts-send_and_carry g a = record {
  opening = no_tree;
  history = no_inputs;
  lane_ring = λ lane. if nat_eq lane 0 then a.first.ring else a.second.ring;
  asked_before = λ lane. [];
}
