use Rattle.std.proofs.lemmas.List.{take_rest, drop-map}
use Rattle.s6_script.proofs.words.words_from.Goals as goal

pub returns-then-place-words : goal.returns-then-place-words
returns-then-place-words c = rw (take_rest, drop-map)
