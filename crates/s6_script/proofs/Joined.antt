-- Words, joined by spaces and cut again.
use Rattle.std.proofs.Common.{◌≡◌, ℕ, ◌<◌, List, [], ◌∷◌, ◌++◌, length, map, refl, ap, sym, ◌∙◌, append-nil, append_assoc, arith}
use Rattle.std.specs.Prelude.{All, Bool, ◌==◌, true, false, not}
use Rattle.std.proofs.lemmas.List.Elements.{All-nil, All-cons}
use Rattle.std.proofs.lemmas.List.Splits.{slice_split_none, slice_split_at, slice_split-cons_yes, slice_split-cons_no, length-slice_split}
use Rattle.std.proofs.lemmas.List.Splits.{join_with_byte-slice_split}
use Rattle.std.specs.List.{join_with_byte, flat_map, slice_split, onto_first, list_all}
use Rattle.std.proofs.lemmas.Bool.{and_parts}
use Rattle.death_tally.specs.declared.exit_list.DeathItem.{DeathItem}
use Rattle.tree_core.specs.declared.input.Act.{Act}
use Rattle.svscan_core.specs.declared.entry.Entry.{Entry}
use Rattle.s6_script.specs.DeathList.{item_text, list_text}
use Rattle.s6_script.specs.Options.{entry_text}
use Rattle.s6_script.specs.Spelling.{act_words}
use Rattle.s6_script.specs.Verb.{text_words}

-- a text that grew by two parts, one after the other
pub grew : (old part rest text new : List ℕ) → text ≡ old ++ part → new ≡ text ++ rest → new ≡ old ++ (part ++ rest)
grew old part rest text new first then = then ∙ (ap (λ t. t ++ rest) first ∙ append_assoc old part rest)

pub join_words : (word : List ℕ) (words : List (List ℕ)) → join_with_byte 32 (word ∷ words) ≡ word ++ flat_map (λ w. 32 ∷ w) words
join_words word [] = sym (append-nil word)
join_words word (next ∷ words) = ap (λ rest. word ++ (32 ∷ rest)) (join_words next words)

pub join_entries : (word : List ℕ) (entries : List Entry)
    → join_with_byte 32 (word ∷ map entry_text entries) ≡ word ++ flat_map (λ e. 32 ∷ entry_text e) entries
join_entries word [] = sym (append-nil word)
join_entries word (e ∷ entries) = ap (λ rest. word ++ (32 ∷ rest)) (join_entries (entry_text e) entries)

pub join_items : (item : DeathItem) (items : List DeathItem) → list_text (item ∷ items) ≡ item_text item ++ flat_map (λ i. 44 ∷ item_text i) items
join_items item [] = sym (append-nil (item_text item))
join_items item (next ∷ items) = ap (λ rest. item_text item ++ (44 ∷ rest)) (join_items next items)

pub join_act : {A : Type 0} (word : List ℕ) (act : Act A)
    → join_with_byte 32 (word ∷ act_words act) ≡ word ++ (32 ∷ join_with_byte 32 (act_words act))
join_act word act = refl

-- a word before the words of a text
pub join_more : (word : List ℕ) (words : List (List ℕ)) → 0 < length words → join_with_byte 32 (word ∷ words) ≡ word ++ (32 ∷ join_with_byte 32 words)
join_more word [] some = absurd (omega (arith, some))
join_more word (next ∷ words) some = refl

pub join_text : (word text : List ℕ) → join_with_byte 32 (word ∷ text_words text) ≡ word ++ (32 ∷ text)
join_text word text =
    join_more word (text_words text) (omega (arith, length-slice_split (λ b. b == 32) text))
    ∙ ap (λ rest. word ++ (32 ∷ rest)) (join_with_byte-slice_split 32 text)

-- the byte is no space
abbrev pub is_no_space : ℕ → Bool
is_no_space b = not (b == 32)

-- a word has no space
abbrev pub has_no_space : List ℕ → Bool
has_no_space word = list_all is_no_space word

-- a word has no byte that passes
abbrev pub lacks : (ℕ → Bool) → List ℕ → Bool
lacks p word = list_all (λ b. not (p b)) word

pub lacking : (p : ℕ → Bool) (word : List ℕ) → lacks p word ≡ true → All (λ b. p b ≡ false) word
lacking p [] e = All-nil (λ b. p b ≡ false)
lacking p (b ∷ word) e =
    let both = and_parts (not (p b)) (lacks p word) e in
    All-cons (λ b. p b ≡ false) b word (by (p b) both.0) (lacking p word both.1)
  where
    by : (v : Bool) → not v ≡ true → v ≡ false
    by true h = cc
    by false h = refl

-- words that were joined by a byte are cut at it again
pub split_joined : (p : ℕ → Bool) (mark : ℕ) → p mark ≡ true → (word : List ℕ) (words : List (List ℕ)) → list_all (lacks p) (word ∷ words) ≡ true
    → slice_split p (join_with_byte mark (word ∷ words)) ≡ word ∷ words
split_joined p mark e word [] h = slice_split_none p word (lacking p word (and_parts _ _ h).0)
split_joined p mark e word (next ∷ words) h =
    slice_split_at p word mark (join_with_byte mark (next ∷ words)) (lacking p word (and_parts _ _ h).0) e
    ∙ ap (λ rest. word ∷ rest) (split_joined p mark e next words (and_parts _ _ h).1)

onto_lacks : (p : ℕ → Bool) (b : ℕ) (words : List (List ℕ)) → p b ≡ false → list_all (lacks p) words ≡ true
    → list_all (lacks p) (onto_first b words) ≡ true
onto_lacks p b [] e h = rw e refl
onto_lacks p b (word ∷ words) e h =
    let both = and_parts (lacks p word) (list_all (lacks p) words) h in
    rw (e, both.0) both.1

-- where a text is cut at a byte, no part has it
pub split_lacks : (p : ℕ → Bool) (text : List ℕ) → list_all (lacks p) (slice_split p text) ≡ true
split_lacks p [] = refl
split_lacks p (b ∷ text) = by (p b) refl (split_lacks p text)
  where
    by : (v : Bool) → p b ≡ v → list_all (lacks p) (slice_split p text) ≡ true → list_all (lacks p) (slice_split p (b ∷ text)) ≡ true
    by true e h = rw (slice_split-cons_yes p b text e) h
    by false e h = rw (slice_split-cons_no p b text e) (onto_lacks p b (slice_split p text) e h)
