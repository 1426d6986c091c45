-- The words of svc and svscanctl: runs of letters, and names.
use Rattle.std.specs.Prelude.{ℕ, List, [], ◌∷◌, ◌+◌, ◌==◌, ◌&&◌, ◌||◌, Bool, true, false, not, Option, Some, None}
use Rattle.std.specs.Prelude.{length, drop, filter, flat_map, option_to_list, slice_index, nat_le, nat_lt}
use Rattle.std.specs.Prelude.{if◌then◌else◌}
use Rattle.s6_events.specs.Name.{is_name}
use Rattle.control_letters.specs.ControlLetter.{letter_of_byte}
use Rattle.control_letters.specs.declared.control_letter.ControlLetter.{ControlLetter}
use Rattle.control_letters.specs.declared.control_letter.ControlLetter.TheVariants.{Up, Once}
use Rattle.svc_commands.specs.declared.svscanctl.ScanLetter.{ScanLetter}
use Rattle.svc_commands.specs.declared.svscanctl.ScanLetter.TheVariants.{Scan, Nuke, Terminate}
use Rattle.svc_commands.specs.declared.usage_fault.UsageFault.{UsageFault}
use Rattle.svc_commands.specs.declared.usage_fault.UsageFault.TheVariants.{Unknown, Missing, TooMany, BadName}

-- a run of letters begins with a dash
abbrev pub is_run : List ℕ → Bool
is_run word = nat_le 1 (length word) && (slice_index word 0 == 45)

-- the letters of the runs among the words, in the order written; `meaning` gives the letters that a byte means
abbrev pub letters_in : {L : Type 0} → (ℕ → List L) → List (List ℕ) → List L
letters_in meaning words = flat_map (λ word. flat_map meaning (drop 1 word)) (filter is_run words)

-- the words that are no runs
abbrev pub names_in : List (List ℕ) → List (List ℕ)
names_in words = filter (λ word. not (is_run word)) words

-- the first fault where there is one, else the later one
abbrev pub first_told : Option UsageFault → Option UsageFault → Option UsageFault
first_told (Some fault) later = Some fault
first_told None later = later

-- the fault of a byte that means these letters, after n letters: Unknown where it means none, TooMany where there is a 64th letter
abbrev pub letter_fault : {L : Type 0} → ℕ → List L → Option UsageFault
letter_fault n [] = Some Unknown
letter_fault n (l ∷ ls) = if nat_lt 63 (n + length (l ∷ ls)) then Some TooMany else None

-- the first fault of some bytes, after n letters
abbrev pub letters_fault : {L : Type 0} → (ℕ → List L) → ℕ → List ℕ → Option UsageFault
letters_fault meaning n [] = None
letters_fault meaning n (b ∷ bs) =
    first_told (letter_fault n (meaning b)) (letters_fault meaning (n + length (meaning b)) bs)

-- the first fault of the letters behind a dash, of which there has to be one
abbrev pub run_fault : {L : Type 0} → (ℕ → List L) → ℕ → List ℕ → Option UsageFault
run_fault meaning n [] = Some Unknown
run_fault meaning n (b ∷ bs) = letters_fault meaning n (b ∷ bs)

-- the first fault of the words, where n letters and perhaps a name stand before them
abbrev pub words_fault : {L : Type 0} → (ℕ → List L) → (Bool → List ℕ → Option UsageFault) → ℕ → Bool → List (List ℕ)
    → Option UsageFault
words_fault meaning other n named [] = if (n == 0) || not named then Some Missing else None
words_fault meaning other n named (w ∷ ws) =
    if is_run w then first_told (run_fault meaning n (drop 1 w))
    (words_fault meaning other (n + length (flat_map meaning (drop 1 w))) named ws)
    else first_told (other named w) (words_fault meaning other n true ws)

-- what a byte means to svc: o is u and O, and each other byte its own letter
unfoldable pub svc_letters : ℕ → List ControlLetter
svc_letters b = if b == 111 then Up ∷ Once ∷ [] else option_to_list (letter_of_byte b)

-- the fault of a word that is no run, for svc: BadName where it is no name, TooMany where a name came before
abbrev pub name_fault : Bool → List ℕ → Option UsageFault
name_fault named word = if not (is_name word) then Some BadName else if named then Some TooMany else None

-- the first fault of the words of svc
abbrev pub svc_fault : List (List ℕ) → Option UsageFault
svc_fault words = words_fault svc_letters name_fault 0 false words

-- what a byte means to svscanctl: h is a and n, and q is t
abbrev pub scan_letters : ℕ → List ScanLetter
scan_letters b =
    if b == 97 then Scan ∷ [] else if b == 110 then Nuke ∷ [] else if b == 104 then Scan ∷ Nuke ∷ []
    else if b == 116 then Terminate ∷ [] else if b == 113 then Terminate ∷ [] else []

-- svscanctl takes no name
abbrev pub no_name : Bool → List ℕ → Option UsageFault
no_name named word = Some TooMany

-- the first fault of the words of svscanctl, of which no name is missing
abbrev pub scan_fault : List (List ℕ) → Option UsageFault
scan_fault words = words_fault scan_letters no_name 0 true words
