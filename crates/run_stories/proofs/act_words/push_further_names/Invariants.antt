use Rattle.std.proofs.Common.{◌≡◌, ◌++◌, ◌∷◌, take}
use Rattle.std.specs.List.{flat_map}
use Rattle.run_stories.proofs.act_words.push_further_names.Given as goal

abbrev pub invariant-loop-name : goal.invariant-loop-name
invariant-loop-name g l = l.text.items ≡ l.fn.text.items ++ flat_map (λ name. 44 ∷ 32 ∷ name) (take l.name-index l.names)
