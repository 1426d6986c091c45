-- The front of a text up to the first byte that passes a test, and what is left of the text there.
use Rattle.std.proofs.Common.{◌≡◌, ℕ, ◌≤◌, List, [], Bool, true, false, cond, length, take, drop, nat_lt, Option, Some, None, refl, sym, ap, ◌∙◌, arith}
use Rattle.std.proofs.lemmas.Bool.{ltb-false}
use Rattle.std.proofs.lemmas.List.{take_all, drop_all}
use Rattle.std.specs.List.{before_first, position, position_or_len}

some_is : (b : Bool) (n place : ℕ) → cond b (Some n) None ≡ Some place → n ≡ place
some_is true n place is = cc
some_is false n place is = cc

none_is : (b : Bool) (n : ℕ) → cond b (Some n) None ≡ None → b ≡ false
none_is true n is = cc
none_is false n is = refl

-- the first byte that passes is at this place
at_place : (p : ℕ → Bool) (text : List ℕ) (place : ℕ) → position p text ≡ Some place → position_or_len p text ≡ place
at_place p text place is = some_is (nat_lt (position_or_len p text) (length text)) (position_or_len p text) place is

-- none passes
at_end : (p : ℕ → Bool) (text : List ℕ) → position p text ≡ None → length text ≤ position_or_len p text
at_end p text none =
    ltb-false (position_or_len p text) (length text)
    (none_is (nat_lt (position_or_len p text) (length text)) (position_or_len p text) none)

pub front_to_place : (p : ℕ → Bool) (text : List ℕ) (place : ℕ) → position p text ≡ Some place → take place text ≡ before_first p text
front_to_place p text place is = ap (λ (k : ℕ). take k text) (sym (at_place p text place is))

pub front_whole : (p : ℕ → Bool) (text : List ℕ) → position p text ≡ None → text ≡ before_first p text
front_whole p text none = sym (take_all (position_or_len p text) text (at_end p text none))

pub rest_from_place : (p : ℕ → Bool) (text : List ℕ) (place : ℕ) → position p text ≡ Some place
    → drop place text ≡ drop (position_or_len p text) text
rest_from_place p text place is = ap (λ (k : ℕ). drop k text) (sym (at_place p text place is))

pub rest_none : (p : ℕ → Bool) (text : List ℕ) → position p text ≡ None
    → drop (length text) text ≡ drop (position_or_len p text) text
rest_none p text none =
    drop_all (length text) text (omega arith) ∙ sym (drop_all (position_or_len p text) text (at_end p text none))
