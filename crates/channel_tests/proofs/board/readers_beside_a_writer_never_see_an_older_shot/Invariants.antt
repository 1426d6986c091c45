use Rattle.channel_names.specs.Unnamed.{no_ring}
use Rattle.channel_tests.proofs.board.readers_beside_a_writer_never_see_an_older_shot.Given as goal

-- the history that was just made
abbrev pub ghosts-publish_and_read : goal.ghosts-publish_and_read
ghosts-publish_and_read g a = record { seat_ring = λ actor. no_ring; board = a.board }
