-- Where a search stands that may begin at any byte, letter by letter.
use Rattle.std.specs.Prelude.{◌≡◌, ◌⊎◌, ℕ, ◌+◌, ◌<◌, Bool, true, false, List, Contains, length}
use Rattle.regex_nfa.specs.Paths.{EmptyEdge, ByteEdge}
use Rattle.regex_nfa.specs.Run.{state_of}
use Rattle.regex_nfa.specs.declared.nfa.Nfa.{Nfa}
use Rattle.regex_hir.specs.declared.look.Look as look
use Rattle.regex_nfa.specs.declared.state.State.TheVariants.{Look, Match}

-- the search stands in the state q at place i: it begins there, or an edge led there from where it stands
pub data Stands (nfa : Nfa) (hay : List ℕ) : ℕ → ℕ → Type 0 where
  begun : (i q : ℕ) → i ≡ 0 → q ≡ nfa.unanchored → Stands nfa hay i q
  skipped : (i q r : ℕ) → Stands nfa hay i q → EmptyEdge nfa hay i q r → Stands nfa hay i r
  consumed : (i k q r : ℕ) → i ≡ k + 1 → Stands nfa hay k q → ByteEdge nfa hay (length hay) k q r → Stands nfa hay i r

-- it stands in each of these states at place i
abbrev pub AllStand : Nfa → List ℕ → ℕ → List ℕ → Type 0
AllStand nfa hay i states = (q : ℕ) → Contains states q → Stands nfa hay i q

-- one of these states says that there is a match
abbrev pub HasMatchState : Nfa → List ℕ → Type 0
HasMatchState nfa states = (q : ℕ) × Contains states q × (state_of nfa q ≡ Match)

-- no state is an assertion, so that where it stands doesn't depend on what comes
abbrev pub HasNoAssertion : Nfa → Type 0
HasNoAssertion nfa = (q : ℕ) (l : look.Look) (r : ℕ) → state_of nfa q ≡ Look l r → ⊥

-- it comes to place i in the state r: it begins there, or a byte led there
abbrev pub ComesTo : Nfa → List ℕ → ℕ → ℕ → Type 0
ComesTo nfa hay i r = ((i ≡ 0) × (r ≡ nfa.unanchored))
    ⊎ ((k : ℕ) × (q : ℕ) × (i ≡ k + 1) × Stands nfa hay k q × ByteEdge nfa hay (length hay) k q r)

-- a match ends before place n
abbrev pub EndsBefore : Nfa → List ℕ → ℕ → Type 0
EndsBefore nfa hay n = (i : ℕ) × (q : ℕ) × (i < n) × Stands nfa hay i q × (state_of nfa q ≡ Match)

-- these are the states in which it comes to place n, and this tells whether a match ended before that
pub record HasWalked (nfa : Nfa) (hay : List ℕ) (n : ℕ) (behind : List ℕ) (has_matched : Bool) : Type 0 where
  pub comes : (q : ℕ) → Contains behind q → ComesTo nfa hay n q
  pub all : (q : ℕ) → ComesTo nfa hay n q → Contains behind q
  pub found : has_matched ≡ true → EndsBefore nfa hay n
  pub none : has_matched ≡ false → EndsBefore nfa hay n → ⊥

-- these are the states in which it stands at place n, and this tells whether a match ended there or before
pub record HasStood (nfa : Nfa) (hay : List ℕ) (n : ℕ) (states : List ℕ) (has_matched : Bool) : Type 0 where
  pub only : AllStand nfa hay n states
  pub all : (q : ℕ) → Stands nfa hay n q → Contains states q
  pub found : has_matched ≡ true → EndsBefore nfa hay (n + 1)
  pub none : has_matched ≡ false → EndsBefore nfa hay (n + 1) → ⊥
