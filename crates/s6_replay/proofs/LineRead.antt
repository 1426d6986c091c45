-- What reading a line says of an input, and an effect of its answer.
use Rattle.std.proofs.Common.{◌≡◌, ℕ, ◌≤◌, List, [], ◌∷◌, ◌++◌, length, ap, ◌∙◌, subst, arith}
use Rattle.std.specs.Prelude.{Option}
use Rattle.std.specs.Io.KnownBytes.{Consumes, Appends}
use Rattle.std.proofs.lemmas.List.{length-append}
use Rattle.tree_core.specs.declared.input.Input.{Input}
use Rattle.tree_core.specs.Machine.{Machine, Outcome}
use Rattle.tree_core.specs.Run.{after, outcome}
use Rattle.tree_core.specs.StandsFor.{StoredTree, StandsFor}
use Rattle.s6_script.specs.Writing.{AppendsFront}
use Rattle.s6_replay.specs.Lines.{HasNoNewline}
use Rattle.s6_script.specs.Spelling.{HasExpression, Spells, spelling}
use Rattle.s6_script.specs.Script.{HasLine, input_line}
use Rattle.s6_replay.specs.Transcript.{block}
use Rattle.s6_replay.specs.Turn.{Answers}

pub has_line : {A : Type 0} (line : List ℕ) (i : Input A) → Spells line i → HasExpression i.act → length line ≤ 65535 → HasLine i
has_line line i s expression within = record
    { spelt = s.spelt; expression = expression; within = omega (arith, length-append (spelling i) (10 ∷ []), ap length s.text_is) }

pub plain_spelling : {A : Type 0} (line : List ℕ) (i : Input A) → Spells line i → HasNoNewline line → HasNoNewline (spelling i)
plain_spelling line i s plain = subst HasNoNewline s.text_is plain

pub line_read : {A : Type 0} (a b : Option (List ℕ)) (line : List ℕ) (i : Input A) → Spells line i → Consumes a b (line ++ 10 ∷ [])
    → Consumes a b (input_line i)
line_read a b line i s read = subst (λ (text : List ℕ). Consumes a b (text ++ 10 ∷ [])) s.text_is read

pub answers_by : {A : Type 0} (events orders number : ℕ) (old new : StoredTree) (held held' : Option (List ℕ)) (input : Input A) (given : Outcome A)
    → ((m : Machine) → StandsFor old m → (given ≡ outcome m input) × StandsFor new (after m input))
    → Appends held held' (block number given) → events ≡ length given.events → orders ≡ length given.orders
    → (m : Machine) → StandsFor old m → Answers events orders number new held held' (outcome m input) (after m input)
answers_by {A} events orders number old new held held' input given step written e o m stands =
    let here : (given ≡ outcome m input) × StandsFor new (after m input) = step m stands in record {
      written = subst (λ (g : Outcome A). Appends held held' (block number g)) here.0 written;
      stands = here.1;
      event_count = e ∙ ap (λ g. length g.events) here.0;
      order_count = o ∙ ap (λ g. length g.orders) here.0;
    }

pub stops_by : {A : Type 0} (number : ℕ) (old new : StoredTree) (held held' : Option (List ℕ)) (input : Input A) (given : Outcome A)
    → ((m : Machine) → StandsFor old m → (given ≡ outcome m input) × StandsFor new (after m input))
    → AppendsFront held held' (block number given)
    → (m : Machine) → StandsFor old m → AppendsFront held held' (block number (outcome m input))
stops_by {A} number old new held held' input given step written m stands =
    subst (λ (g : Outcome A). AppendsFront held held' (block number g)) (step m stands).0 written
