use Rattle.channel_names.specs.Unnamed.{no_ring}
use Rattle.channel_tests.proofs.board.a_reader_sees_what_it_was_told_of.Given as goal

-- the history that was just made
abbrev pub ghosts-tell_and_read : goal.ghosts-tell_and_read
ghosts-tell_and_read g a = record { seat_ring = λ actor. no_ring; board = a.board }
