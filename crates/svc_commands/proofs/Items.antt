-- One more item of a list of fields.
use Rattle.std.proofs.Common.{◌≡◌, ◌+◌, ◌++◌, ◌∷◌, [], ◌||◌, ◌∙◌, ℕ, List, Option, Some, None, Bool, true, false, Bor, take, filter_map, is_none}
use Rattle.std.proofs.Common.{ap, ap₂, sym, refl}
use Rattle.std.proofs.lemmas.List.Elements.{filter_map-append}
use Rattle.std.proofs.lemmas.List.Folds.{list_any_at, list_any-append}
use Rattle.std.specs.List.{list_any}
use Rattle.svc_commands.proofs.Words.{IsWordAt, texts_of, to_word, is_text, within_texts}

-- what a name says of each item, and whether it says nothing of one
abbrev pub has_strange : {F : Type 0} → (List ℕ → Option F) → List (List ℕ) → Bool
has_strange named items = list_any (λ item. is_none (named item)) items

pub more_fields : {F : Type 0} (named : List ℕ → Option F) (items : List (Bor (List ℕ))) (i : ℕ) (item : List ℕ) (field : F) (old new : List F)
    → IsWordAt items i item → named item ≡ Some field → old ≡ filter_map named (take i (texts_of items)) → new ≡ old ++ field ∷ []
    → new ≡ filter_map named (take (i + 1) (texts_of items))
more_fields named items i item field old new at e before is =
    let one : field ∷ [] ≡ filter_map named (item ∷ []) = rw e refl in
    is ∙ ap₂ (λ a b. a ++ b) before one ∙ sym (filter_map-append named (take i (texts_of items)) (item ∷ []))
    ∙ ap (filter_map named) (sym (to_word items i item at))

pub still_good : {F : Type 0} (named : List ℕ → Option F) (items : List (Bor (List ℕ))) (i : ℕ) (item : List ℕ) (field : F)
    → IsWordAt items i item → named item ≡ Some field → has_strange named (take i (texts_of items)) ≡ false
    → has_strange named (take (i + 1) (texts_of items)) ≡ false
still_good named items i item field at e before =
    let one : has_strange named (item ∷ []) ≡ false = rw e refl in
    ap (has_strange named) (to_word items i item at)
    ∙ list_any-append (λ x. is_none (named x)) (take i (texts_of items)) (item ∷ [])
    ∙ ap₂ (λ a b. a || b) before one

pub is_strange : {F : Type 0} (named : List ℕ → Option F) (items : List (Bor (List ℕ))) (i : ℕ) (item : List ℕ)
    → IsWordAt items i item → named item ≡ None → has_strange named (texts_of items) ≡ true
is_strange named items i item at e =
    list_any_at (λ x. is_none (named x)) (texts_of items) i [] (within_texts items i at.within)
    (ap (λ x. is_none (named x)) (is_text items i item at) ∙ ap is_none e)
