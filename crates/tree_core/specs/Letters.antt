-- The letters of a service follow the event grammar.
use Rattle.std.specs.Prelude.{ℕ, List}
use Rattle.supervise_core.specs.EventGrammar.{BeginsWord}
use Rattle.tree_core.specs.declared.input.Input.{Input}
use Rattle.tree_core.specs.Taken.{steps_taken, marks_given}

-- in a run from the start the marks of the service of this serial are the beginning of a word of the grammar
abbrev pub FollowsGrammar : {A : Type 0} → List (Input A) → ℕ → Type 0
FollowsGrammar inputs sid = BeginsWord (marks_given sid (steps_taken inputs))
