-- The words of a line that are left to read.
use Rattle.std.specs.Prelude.{ℕ, Bool, List, [], ◌&&◌, ◌||◌, not, nat_eq, nat_le, length, slice_index_or, if◌then◌else◌}
use Rattle.s6_script.specs.Verb.{text_words}
use Rattle.s6_script.specs.declared.words.Words.TheInside.{Inside}

-- the words of the rest of the line; none once its last word was read
abbrev pub words_left : Inside → List (List ℕ)
words_left w = if w.more then text_words w.rest.now else []

abbrev pub begins_with_zero : List ℕ → Bool
begins_with_zero word = nat_eq (slice_index_or word 0 0) 48

-- these digits spell a number below 10^19: one digit, or more of which the first is no zero
abbrev pub is_number_text : List ℕ → Bool
is_number_text digits = nat_le 1 (length digits) && nat_le (length digits) 19 && (nat_eq (length digits) 1 || not (begins_with_zero digits))
