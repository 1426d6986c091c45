-- Lists of states, each once.
use Rattle.std.specs.Prelude.{◌≡◌, ◌++◌, ℕ, ◌<◌, ◌≤◌, true, false, List, All, Contains, length, vec_capacity, slice_index_or}
use Rattle.regex_vm.specs.Bits.{members}
use Rattle.text_matcher.specs.declared.state_list.StateList.TheInside.{Inside}

-- the states that are listed, and how many there may be
pub record StatesListed : Type 0 where
  pub items : List ℕ
  pub count : ℕ

abbrev pub states_listed : Inside → StatesListed
states_listed l = record { items = l.states.items; count = length l.marks }

-- just the marked states are listed, and there is room for all
pub record IsStateList (l : Inside) : Type 0 where
  pub counted : members l.marks ≡ length l.states.items
  pub room : length l.marks ≤ vec_capacity l.states
  pub marked : (q : ℕ) → slice_index_or l.marks q false ≡ true → Contains l.states.items q
  pub within : All (λ q. q < length l.marks) l.states.items

-- a list that begins as another one
abbrev pub Grows : List ℕ → List ℕ → Type 0
Grows old new = (rest : List ℕ) × (new ≡ old ++ rest)
