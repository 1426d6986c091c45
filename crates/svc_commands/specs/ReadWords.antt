-- What one more word adds to what svc or svscanctl has read.
use Rattle.std.specs.Prelude.{◌≡◌, ℕ, List, [], ◌∷◌, ◌++◌, Bool, Option, Some, length, option_to_list}
use Rattle.svc_commands.specs.LetterWords.{letters_in, names_in, words_fault}
use Rattle.svc_commands.specs.declared.usage_fault.UsageFault.{UsageFault}

-- a word without a fault adds its letters, and any fault is one of the words after it
pub record IsRead {L : Type 0} (meaning : ℕ → List L) (other : Bool → List ℕ → Option UsageFault) (word : List ℕ)
    (letters : List L) (named : Bool) (more : List L) (later : Bool) : Type 0 where
  pub adds : more ≡ letters ++ letters_in meaning (word ∷ [])
  pub goes : (rest : List (List ℕ)) → words_fault meaning other (length letters) named (word ∷ rest)
      ≡ words_fault meaning other (length more) later rest

-- a word with a fault is refused for it, whatever words come after it
pub record IsRefused {L : Type 0} (meaning : ℕ → List L) (other : Bool → List ℕ → Option UsageFault) (word : List ℕ)
    (letters : List L) (named : Bool) (fault : UsageFault) : Type 0 where
  pub stops : (rest : List (List ℕ)) → words_fault meaning other (length letters) named (word ∷ rest) ≡ Some fault

-- a word that is no run is one more name
abbrev pub AddsName : List ℕ → Option (List ℕ) → Option (List ℕ) → Type 0
AddsName word name later = option_to_list later ≡ option_to_list name ++ names_in (word ∷ [])
