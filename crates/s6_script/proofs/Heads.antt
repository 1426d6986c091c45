-- A line is a moment, an actor, and the words of an act.
use Rattle.std.proofs.Common.{◌≡◌, ◌∙◌, ℕ, ◌<◌, ◌≤◌, ◌^◌, List, [], ◌∷◌, ◌++◌, ap, sym, subst, refl, arith, drop, length, rules}
use Rattle.std.specs.Prelude.{decimal, slice_index_or}
use Rattle.std.specs.List.{join_with_byte}
use Rattle.std.proofs.lemmas.Fmt.{decimal_nonempty}
use Rattle.std.proofs.lemmas.List.Splits.{join_with_byte-slice_split}
use Rattle.s6_events.specs.At.{last_moment}
use Rattle.tree_core.specs.declared.input.Act.{Act}
use Rattle.tree_core.specs.declared.input.Input.{Input}
use Rattle.s6_script.specs.declared.parse.Verb.{Verb}
use Rattle.s6_script.specs.Spelling.{Spells, SpellsAct, act_words, input_words}
use Rattle.s6_script.specs.Verb.{text_words, verb_word, verb_of_act}
use Rattle.s6_script.proofs.Joined.{join_more}
use Rattle.s6_script.proofs.Reading.{act_words_back, words_back}
use Rattle.s6_script.proofs.WordsTaken.{next_word, one_taken}

-- the first two words of a line, and what stands behind them
pub record IsCut (line first second behind : List ℕ) : Type 0 where
  pub first_is : first ≡ slice_index_or (text_words line) 0 []
  pub second_is : second ≡ slice_index_or (text_words line) 1 []
  pub behind_is : behind ≡ join_with_byte 32 (drop 2 (text_words line))

is_cut : (line first second behind : List ℕ) (texts left rest : List (List ℕ)) → texts ≡ text_words line
    → first ≡ slice_index_or texts 0 [] → left ≡ drop 1 texts → second ≡ slice_index_or left 0 [] → rest ≡ drop 1 left
    → behind ≡ join_with_byte 32 rest → IsCut line first second behind
is_cut line first second behind texts left rest cut first_is left_is second_is rest_is behind_is =
    let one = left_is ∙ ap (drop 1) cut in
    record {
      first_is = first_is ∙ ap (λ ws. slice_index_or ws 0 []) cut;
      second_is = next_word 1 (text_words line) left second one second_is;
      behind_is = behind_is ∙ ap (join_with_byte 32) (one_taken 1 (text_words line) left rest one rest_is);
    }

-- a moment and an actor were taken
pub cut_behind : (line behind : List ℕ) (at actor : ℕ) (texts left rest : List (List ℕ)) → texts ≡ text_words line → texts ≡ decimal at ∷ left
    → left ≡ decimal actor ∷ rest → behind ≡ join_with_byte 32 rest → IsCut line (decimal at) (decimal actor) behind
cut_behind line behind at actor texts left rest cut first next behind_is =
    is_cut line (decimal at) (decimal actor) behind texts left rest cut (sym (ap (λ ws. slice_index_or ws 0 []) first)) (sym (ap (drop 1) first))
    (sym (ap (λ ws. slice_index_or ws 0 []) next)) (sym (ap (drop 1) next)) behind_is

-- the first two words, where both have a byte, and the rest
two_words : (texts : List (List ℕ)) → 0 < length (slice_index_or texts 0 []) → 0 < length (slice_index_or texts 1 [])
    → texts ≡ slice_index_or texts 0 [] ∷ slice_index_or texts 1 [] ∷ drop 2 texts
two_words [] first second = absurd (omega (arith, first))
two_words (word ∷ []) first second = absurd (omega (arith, second))
two_words (word ∷ next ∷ rest) first second = refl

verb_nonempty : (v : Verb) → verb_word v ≡ [] → ⊥
verb_nonempty v = search rules

-- no words, joined, spell no act
some_rest : {A : Type 0} (rest : List (List ℕ)) (act : Act A) → SpellsAct (join_with_byte 32 rest) act → 0 < length rest
some_rest [] act s =
    let words : [] ∷ [] ≡ act_words act = ap text_words s.text_is ∙ act_words_back act s.fits in
    absurd (verb_nonempty (verb_of_act act) (sym (ap (λ ws. slice_index_or ws 0 []) words)))
some_rest (word ∷ rest) act s = omega arith

-- a line whose first two words are a moment and an actor, and that goes on with an act, spells the input of these
pub spells_line : {A : Type 0} (line first second behind : List ℕ) (at actor : ℕ) (act : Act A) → IsCut line first second behind
    → (at ≤ last_moment) × (first ≡ decimal at) → (actor ≤ 15) × (second ≡ decimal actor) → SpellsAct behind act
    → Spells line (record { actor = actor; at = at; act = act })
spells_line line first second behind at actor act cut moment seat spelled =
    let rest = drop 2 (text_words line) in
    let first_is : slice_index_or (text_words line) 0 [] ≡ decimal at = sym cut.first_is ∙ moment.1 in
    let second_is : slice_index_or (text_words line) 1 [] ≡ decimal actor = sym cut.second_is ∙ seat.1 in
    let small : at < 2 ^ 64 = omega (arith, moment.0) in
    let few : actor < 2 ^ 64 = omega (arith, seat.0) in
    let parts = two_words (text_words line) (subst (λ w. 0 < length w) (sym first_is) (decimal_nonempty at small))
    (subst (λ w. 0 < length w) (sym second_is) (decimal_nonempty actor few)) in
    let words : text_words line ≡ decimal at ∷ decimal actor ∷ rest = parts ∙ (λ i. first_is i ∷ second_is i ∷ rest) in
    let some : 0 < length rest = some_rest rest act (subst (λ t. SpellsAct t act) cut.behind_is spelled) in
    let tail = join_more (decimal actor) rest some ∙ ap (λ t. decimal actor ++ (32 ∷ t)) (sym cut.behind_is ∙ spelled.text_is) in
    record {
      spelt = record { at = moment.0; actor = seat.0; act = spelled.fits };
      text_is = sym (join_with_byte-slice_split 32 line) ∙ (ap (join_with_byte 32) words ∙ ap (λ t. decimal at ++ (32 ∷ t)) tail);
    }

-- the words of a line that spells an input, and its parts
pub line_words : {A : Type 0} (line : List ℕ) (i : Input A) → Spells line i → text_words line ≡ input_words i
line_words line i s = ap text_words s.text_is ∙ words_back i s.spelt

pub line_spelled : {A : Type 0} (line first second behind : List ℕ) (i : Input A) → IsCut line first second behind → Spells line i
    → (first ≡ decimal i.at) × (second ≡ decimal i.actor) × SpellsAct behind i.act
line_spelled line first second behind i cut s =
    let words = line_words line i s in (
      cut.first_is ∙ ap (λ ws. slice_index_or ws 0 []) words,
      cut.second_is ∙ ap (λ ws. slice_index_or ws 1 []) words,
      record { fits = s.spelt.act; text_is = cut.behind_is ∙ ap (λ ws. join_with_byte 32 (drop 2 ws)) words },
    )
