use Rattle.channel_names.specs.Unnamed.{no_history}
use Rattle.channel_tests.proofs.rings.sixty_fifth_submission_is_full.Given as goal

-- the ring that was just opened is the only one
abbrev pub ghosts-fill_and_take : goal.ghosts-fill_and_take
ghosts-fill_and_take g a = record { seat_ring = λ actor. a.ring.ring; board = no_history }
