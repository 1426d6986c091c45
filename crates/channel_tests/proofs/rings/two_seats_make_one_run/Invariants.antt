use Rattle.std.proofs.Common.{if◌then◌else◌, nat_eq}
use Rattle.channel_names.specs.Unnamed.{no_history}
use Rattle.channel_tests.proofs.rings.two_seats_make_one_run.Given as goal

-- the rings that were just opened
abbrev pub ghosts-hand_in_ticks : goal.ghosts-hand_in_ticks
ghosts-hand_in_ticks g a = record { seat_ring = λ actor. if nat_eq actor 0 then a.first.ring else a.second.ring; board = no_history }
