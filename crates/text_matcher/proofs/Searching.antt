-- What the engines find is what the text of the expression has.
use Rattle.std.proofs.Common.{◌≡◌, refl, sym, ap, subst, ◌∙◌, ℕ, zero, suc, ◌+◌, ◌-◌, ◌<◌, ◌≤◌, List, length, All, true, Option, None, Some, IsSomeAnd, is_some, option_map, arith, Fits, w8, get_or}
use Rattle.std.proofs.lemmas.List.Elements.{All-from_get_or}
use Rattle.std.proofs.Math.Bool.{Bool-set}
use Rattle.std.proofs.Math.Logic.{∥∥₁_elim}
use Rattle.std.specs.Option.{option_or}
use Rattle.std.specs.Prelude.{chars}
use Rattle.regex_hir.specs.Re.{Re, Trace, Rest, accept}
use Rattle.regex_hir.specs.Find.{first_from, find}
use Rattle.regex_hir.specs.Meaning.{meaning}
use Rattle.regex_hir.specs.declared.hir.Hir.{Hir}
use Rattle.regex_compile.specs.Implements.{Implements}
use Rattle.regex_nfa.specs.Run.{run, find_in}
use Rattle.regex_nfa.specs.declared.nfa.Nfa.{Nfa}
use Rattle.regex_nfa.proofs.SearchLemmas.{run_unanchored}
use Rattle.regex_syntax.specs.Brackets.{Nested}
use Rattle.regex_syntax.specs.Captures.{SameCaptures, outcome}
use Rattle.regex_syntax.specs.Grammar.{Names, group_count, read}
use Rattle.regex_syntax.specs.Verdict.{Reads, default_config}
use Rattle.regex_syntax.specs.declared.Config.{Config}
use Rattle.regex_vm.specs.Found.{first_match}
use Rattle.text_matcher.specs.Expression.{is_expression, tree_of, expression_of, has_match}
use Rattle.text_matcher.specs.Matching.{Matches}

some_of_map : {A B : Type 0} (f : A → B) (o : Option A) → is_some (option_map f o) ≡ is_some o
some_of_map f None = refl
some_of_map f (Some x) = refl

some_of_or : {A : Type 0} (a a' b b' : Option A) → is_some a ≡ is_some a' → is_some b ≡ is_some b'
    → is_some (option_or a b) ≡ is_some (option_or a' b')
some_of_or None None b b' e f = f
some_of_or None (Some x) b b' e f = absurd (cc e)
some_of_or (Some x) None b b' e f = absurd (cc e)
some_of_or (Some x) (Some y) b b' e f = refl

-- two searches that find a match at the same positions both find one, or neither does
same_searches : (one other : Rest) (n i : ℕ) → ((j : ℕ) → is_some (one j) ≡ is_some (other j))
    → is_some (first_from one n i) ≡ is_some (first_from other n i)
unfolding first_from
same_searches one other zero i h = refl
same_searches one other (suc n) i h =
    some_of_or _ _ _ _ (some_of_map _ (one i) ∙ (h i ∙ sym (some_of_map _ (other i)))) (same_searches one other n (i + 1) h)

same_outcomes : (o o' : Option Trace) → outcome o ≡ outcome o' → is_some o ≡ is_some o'
unfolding outcome
same_outcomes o o' e = sym (some_of_map _ o) ∙ (ap is_some e ∙ some_of_map _ o')

same_as_read : (P : Re → Nested Re × Names → Type 0) (re : Re) (o : Option (Nested Re × Names))
    → ((p : Nested Re × Names) → P re p → SameCaptures re p.0.value)
    → IsSomeAnd o (P re) → SameCaptures re (tree_of o)
same_as_read P re None f h = absurd h
same_as_read P re (Some p) f h = f p h

some_read : (P : Nested Re × Names → Type 0) (o : Option (Nested Re × Names)) → IsSomeAnd o P → is_some o ≡ true
some_read P None h = absurd h
some_read P (Some p) h = refl

read_expression : (hir : Hir) (text : List ℕ) (names : Names) → Reads default_config text hir names → SameCaptures (meaning hir) (expression_of text)
unfolding Reads expression_of
read_expression hir text names is =
    same_as_read (λ re p. (p.0.depth ≤ default_config.nest_limit) × SameCaptures re p.0.value × (names ≡ p.1) × (group_count re ≤ length names))
    (meaning hir)
    (read default_config (chars text)) (λ p h. h.1) is

pub is_read : (hir : Hir) (text : List ℕ) (names : Names) (config : Config) → config ≡ default_config → Reads config text hir names
    → is_expression text ≡ true
unfolding Reads
is_read hir text names config default is = some_read _ (read default_config (chars text)) (subst (λ c. Reads c text hir names) default is)

-- an automaton that implements what was read finds what the text has
pub compiled : (nfa : Nfa) (hir : Hir) (text : List ℕ) (names : Names) (config : Config) → config ≡ default_config → Reads config text hir names
    → Implements nfa (meaning hir)
    → Matches nfa text
compiled nfa hir text names config default is made bytes fit i =
    same_outcomes _ _ (ap outcome (made bytes i)
    ∙ (read_expression hir text names (subst (λ c. Reads c text hir names) default is)).at bytes fit accept i)

pub are_bytes : (bytes : List ℕ) → ((i : ℕ) → Fits w8 (get_or bytes i 0)) → All (λ b. b < 256) bytes
are_bytes bytes h = All-from_get_or (λ b. b < 256) bytes 0 (λ i _. omega (arith, h i))

module _ (nfa : Nfa) (text bytes : List ℕ) (built : ∥ Matches nfa text ∥₁) (fit : All (λ b. b < 256) bytes) where
  found_by_states : is_some (first_match nfa bytes (length bytes) 0 (length bytes)) ≡ has_match text bytes
  unfolding has_match find
  found_by_states =
      same_searches _ _ (length bytes + 1 - 0) 0 (λ j. ∥∥₁_elim built (Bool-set _ _) (λ h. h bytes fit j))

  pub found_by_walk : is_some (run nfa bytes (length bytes) nfa.unanchored 0) ≡ has_match text bytes
  unfolding find_in
  found_by_walk =
      ap is_some (run_unanchored nfa bytes (length bytes) 0 fit (omega arith) (omega arith)) ∙ (some_of_map _ _ ∙ found_by_states)
