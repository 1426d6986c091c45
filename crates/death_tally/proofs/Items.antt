-- The items of words, one word after the other.
use Rattle.std.proofs.Common.{◌≡◌, ℕ, ◌+◌, ◌<◌, List, [], ◌∷◌, ◌++◌, Bor, Bool, true, false, cond, refl, sym, ◌∙◌, ap, map, take, drop, length}
use Rattle.std.proofs.Common.{get_or}
use Rattle.std.specs.Prelude.{fold, Option, None, Some}
use Rattle.std.proofs.Math.ListN.{get_or-map}
use Rattle.std.proofs.lemmas.List.{length-map, take_more, take-append-drop}
use Rattle.std.proofs.lemmas.List.Sums.{fold-append}
use Rattle.death_tally.specs.declared.exit_list.DeathItem.{DeathItem}
use Rattle.death_tally.specs.DeathList.{spelled_item, and_item, with_word, items_of, list_of}

-- the words, as texts, and the text at a place
abbrev pub texts_of : List (Bor (List ℕ)) → List (List ℕ)
texts_of words = map (λ w. w.now) words

abbrev pub text_at : List (Bor (List ℕ)) → ℕ → List ℕ
text_at words i = (get_or words i (record { ref_ptr = (0, 0); now = [] })).now

to_word : (words : List (Bor (List ℕ))) (i : ℕ) → i < length words → take (i + 1) (texts_of words) ≡ take i (texts_of words) ++ text_at words i ∷ []
to_word words i lt =
    take_more (texts_of words) i [] (rw length-map lt)
    ∙ ap (λ w. take i (texts_of words) ++ w ∷ []) (get_or-map (λ (w : Bor (List ℕ)). w.now) words i (record { ref_ptr = (0, 0); now = [] }))

-- one more word
more_words : (words : List (Bor (List ℕ))) (i : ℕ) (items : List DeathItem) → i < length words → items_of (take i (texts_of words)) ≡ Some items
    → items_of (take (i + 1) (texts_of words)) ≡ and_item items (spelled_item (text_at words i))
more_words words i items lt before =
    ap items_of (to_word words i lt)
    ∙ (fold-append with_word (Some []) (take i (texts_of words)) (text_at words i ∷ [])
    ∙ ap (λ found. with_word found (text_at words i)) before)

-- a word that spells an item
pub next_item : (words : List (Bor (List ℕ))) (i : ℕ) (items : List DeathItem) (item : DeathItem) → i < length words
    → items_of (take i (texts_of words)) ≡ Some items
    → spelled_item (text_at words i) ≡ Some item → items_of (take (i + 1) (texts_of words)) ≡ Some (items ++ item ∷ [])
next_item words i items item lt before is = more_words words i items lt before ∙ ap (and_item items) is

pub none_stays : (words : List (List ℕ)) → fold with_word None words ≡ None
none_stays [] = refl
none_stays (word ∷ words) = none_stays words

none_anyway : {A : Type 0} (b : Bool) (x : Option A) → x ≡ None → cond b x None ≡ None
none_anyway true x h = h
none_anyway false x h = refl

-- a word that spells none
pub no_list : (words : List (Bor (List ℕ))) (i : ℕ) (items : List DeathItem) → i < length words → items_of (take i (texts_of words)) ≡ Some items
    → spelled_item (text_at words i) ≡ None → list_of (texts_of words) ≡ None
no_list words i items lt before is =
    none_anyway _ (items_of (texts_of words))
    (ap items_of (sym (take-append-drop (i + 1) (texts_of words)))
    ∙ (fold-append with_word (Some []) (take (i + 1) (texts_of words)) (drop (i + 1) (texts_of words))
    ∙ (ap (λ found. fold with_word found (drop (i + 1) (texts_of words))) (more_words words i items lt before ∙ ap (and_item items) is)
    ∙ none_stays (drop (i + 1) (texts_of words)))))
