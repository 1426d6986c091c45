-- What a `TextMatcher` holds.
use Rattle.std.specs.Prelude.{◌≡◌, ℕ, ◌<◌, true, false, List, All, length, vec_len, string_bytes}
use Rattle.text_matcher.specs.Matching.{Matches}
use Rattle.text_matcher.specs.Walks.{HasWalked, HasStood, HasNoAssertion}
use Rattle.text_matcher.specs.declared.text_matcher.TextMatcher.TheInside.{Inside}

-- the text of the expression, and the letters that it heard
pub record MatcherView : Type 0 where
  pub source : List ℕ
  pub heard : List ℕ

abbrev pub matcher_view : Inside → MatcherView
matcher_view m = record { source = string_bytes m.source; heard = m.heard.items }

-- its automaton is that of its text, and it has walked over the letters that it heard
pub record IsBuilt (m : Inside) : Type 0 where
  pub matches : ∥ Matches m.nfa (string_bytes m.source) ∥₁
  pub ascii : All (λ b. b < 128) m.heard.items
  pub behind : m.behind.count ≡ vec_len m.nfa.states
  pub spare : m.spare.count ≡ vec_len m.nfa.states
  pub plain : m.has_assertions ≡ false → HasNoAssertion m.nfa
  pub walked : m.is_standing ≡ false
      → HasWalked m.nfa m.heard.items (length m.heard.items) m.behind.items m.has_matched
  pub stood : m.is_standing ≡ true → (m.has_assertions ≡ false)
      × HasStood m.nfa m.heard.items (length m.heard.items) m.behind.items m.has_matched
