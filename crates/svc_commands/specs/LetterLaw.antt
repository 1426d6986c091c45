-- Which words svc and svscanctl take, whatever the order in which faults are looked for.
use Rattle.std.specs.Prelude.{◌≡◌, ◌≤◌, ◌↔◌, ◌&&◌, ℕ, List, [], ◌∷◌, Bool, true, false, None, length, drop, filter}
use Rattle.std.specs.List.{list_all}
use Rattle.s6_events.specs.Name.{is_name}
use Rattle.svc_commands.specs.LetterWords.{is_run, letters_in, names_in, svc_letters, svc_fault, scan_letters}
use Rattle.svc_commands.specs.LetterWords.{scan_fault}

-- there is something in the list
abbrev pub has_some : {A : Type 0} → List A → Bool
has_some [] = false
has_some (x ∷ xs) = true

-- a run has a byte behind its dash, and each of these bytes has a meaning
abbrev pub is_known : {L : Type 0} → (ℕ → List L) → List ℕ → Bool
is_known meaning run = has_some (drop 1 run) && list_all (λ byte. has_some (meaning byte)) (drop 1 run)

-- all runs among the words are known, and they have 1 to 63 letters
pub record HasLetters {L : Type 0} (meaning : ℕ → List L) (words : List (List ℕ)) : Type 0 where
  pub known : list_all (is_known meaning) (filter is_run words) ≡ true
  pub some : 1 ≤ length (letters_in meaning words)
  pub few : length (letters_in meaning words) ≤ 63

-- just one of the words is no run, and it is a name
pub record HasOneName (words : List (List ℕ)) : Type 0 where
  pub one : length (names_in words) ≡ 1
  pub name : list_all is_name (names_in words) ≡ true

-- svc takes words that have letters and one name, and no others
abbrev pub IsTakenBySvc : List (List ℕ) → Type 0
IsTakenBySvc words = (svc_fault words ≡ None) ↔ (HasLetters svc_letters words × HasOneName words)

-- svscanctl takes words that have letters and nothing else, and no others
abbrev pub IsTakenBySvscanctl : List (List ℕ) → Type 0
IsTakenBySvscanctl words = (scan_fault words ≡ None) ↔ (HasLetters scan_letters words × (names_in words ≡ []))
