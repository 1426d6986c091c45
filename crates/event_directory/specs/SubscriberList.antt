-- The list of a subscription, by its text alone: the letters that were sent since it was made.
use Rattle.std.specs.Prelude.{ℕ, zero, suc, ◌-◌, List, [], ◌∷◌, ◌++◌, Bool, true, false, ◌&&◌, length, take, drop, min}
use Rattle.std.specs.Prelude.{nat_le, nat_lt, Option, None, Some, if◌then◌else◌, slice_index}
use Rattle.std.specs.List.{filter}
use Rattle.event_directory.specs.declared.sub_view.State.{State}
use Rattle.event_directory.specs.declared.sub_view.State.TheVariants as state
use Rattle.event_directory.specs.declared.hit.Hit.{Hit}
use Rattle.event_directory.specs.declared.hit.Hit.TheVariants as hit

-- the most letters of one text that are searched
abbrev pub text_limit : ℕ
text_limit = 1024

-- the numbers from 1 to n
unfoldable pub one_to : ℕ → List ℕ
one_to zero = []
one_to (suc n) = one_to n ++ suc n ∷ []

-- the first of a list, if it has one
abbrev pub first_of_list : List ℕ → Option ℕ
first_of_list [] = None
first_of_list (k ∷ ks) = Some k

-- the least of the numbers from 1 to n that passes the test
unfoldable pub least_to : (ℕ → Bool) → ℕ → Option ℕ
least_to test n = first_of_list (filter test (one_to n))

-- the least k from 1 to 1,024 such that the pattern finds a match in the first k letters of the text
unfoldable pub least_match : (List ℕ → Bool) → List ℕ → Option ℕ
least_match find text = least_to (λ k. find (take k text)) (min text_limit (length text))

-- what a subscription has heard: its letters, its state, and while it is live the letters since its last match
pub record Heard : Type 0 where
  pub letters : List ℕ
  pub state : State
  pub text : List ℕ

-- live, with an empty list, and these letters, without a match
abbrev pub live_with : List ℕ → Heard
live_with text = record { letters = []; state = state.Live; text = text }

-- ended in this state, with an empty list
abbrev pub over_in : State → Heard
over_in s = record { letters = []; state = s; text = [] }

-- with these letters in front of its list
abbrev pub after_hearing : List ℕ → Heard → Heard
after_hearing letters h = record { letters = letters ++ h.letters; state = h.state; text = h.text }

-- by the least match of the text: its last letter, and then Done, or the list of the rest; without one, Overlong or Live
abbrev pub list_by : Option ℕ → (List ℕ → Heard) → Bool → List ℕ → Heard
list_by None follow repeats text = if nat_le 1025 (length text) then over_in state.Overlong else live_with text
list_by (Some k) follow repeats text =
    after_hearing (slice_index text (k - 1) ∷ []) (if repeats then follow (drop k text) else over_in state.Done)

-- the list of a text that has at most n letters
unfoldable pub list_within : ℕ → (List ℕ → Bool) → Bool → List ℕ → Heard
list_within zero find repeats text = live_with text
list_within (suc n) find repeats text =
    list_by (least_match find text) (λ rest. list_within n find repeats rest) repeats text

-- the list of a subscription whose pattern finds a match in the texts that pass `find`
unfoldable pub subscriber_list : (List ℕ → Bool) → Bool → List ℕ → Heard
subscriber_list find repeats text = list_within (length text) find repeats text

-- whether it looks at the next letter
abbrev pub is_live : State → Bool
is_live state.Live = true
is_live _ = false

-- whether its text grew too long
abbrev pub is_overlong : State → Bool
is_overlong state.Overlong = true
is_overlong _ = false

-- what the letter x gave, by the list before it and with it: the list grew, or the text became overlong
abbrev pub hit_between : ℕ → Heard → Heard → Option Hit
hit_between x before with_it =
    if nat_lt (length before.letters) (length with_it.letters) then Some (hit.Matched x)
    else if is_live before.state && is_overlong with_it.state then Some hit.Overlong
    else None

-- the list with one more letter, by the list before it
abbrev pub list_with_letter : (List ℕ → Bool) → Bool → ℕ → Heard → Heard
list_with_letter find repeats x h =
    if is_live h.state then
    (if nat_le text_limit (length h.text) then record { letters = h.letters; state = state.Overlong; text = [] }
    else if find (h.text ++ x ∷ []) then record
    { letters = h.letters ++ x ∷ []; state = (if repeats then state.Live else state.Done); text = [] }
    else record { letters = h.letters; state = state.Live; text = h.text ++ x ∷ [] })
    else h
