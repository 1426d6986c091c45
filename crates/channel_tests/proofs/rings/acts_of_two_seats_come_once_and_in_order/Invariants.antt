use Rattle.std.proofs.Common.{if◌then◌else◌, nat_eq}
use Rattle.channel_names.specs.Unnamed.{no_history}
use Rattle.channel_tests.proofs.rings.acts_of_two_seats_come_once_and_in_order.Given as goal

-- the rings that were just opened
abbrev pub ghosts-hand_in_and_take : goal.ghosts-hand_in_and_take
ghosts-hand_in_and_take g a = record { seat_ring = λ actor. if nat_eq actor 0 then a.first.ring else a.second.ring; board = no_history }
