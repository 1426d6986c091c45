use Rattle.channel_names.specs.Unnamed.{no_ring}
use Rattle.channel_tests.proofs.board.a_refused_publish_leaves_the_board_as_it_was.Given as goal

-- the history that was just made
abbrev pub ghosts-publish_without_room : goal.ghosts-publish_without_room
ghosts-publish_without_room g a = record { seat_ring = λ actor. no_ring; board = a.board }
