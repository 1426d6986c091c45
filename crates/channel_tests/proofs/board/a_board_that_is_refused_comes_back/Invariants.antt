use Rattle.channel_names.specs.Unnamed.{no_ring}
use Rattle.channel_tests.proofs.board.a_board_that_is_refused_comes_back.Given as goal

-- the history that was just made
abbrev pub ghosts-open_without_room : goal.ghosts-open_without_room
ghosts-open_without_room g a = record { seat_ring = λ actor. no_ring; board = a.board }
