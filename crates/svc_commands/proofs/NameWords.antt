-- Words that are names, and the fault of some names.
use Rattle.std.proofs.Common.{rules, ◌≡◌, ◌<◌, ◌≤◌, ◌&&◌, ℕ, List, [], ◌∷◌, true, false, Some, None, Bor, length, nat_lt, ap, refl, sym, ◌∙◌}
use Rattle.std.proofs.lemmas.List.Folds.{list_all_at}
use Rattle.std.specs.List.{list_all}
use Rattle.s6_events.specs.Name.{is_name}
use Rattle.svc_commands.specs.FirstFault.{names_fault}
use Rattle.svc_commands.specs.declared.usage_fault.UsageFault.TheVariants.{TooMany, BadName}
use Rattle.svc_commands.proofs.Words.{IsWordAt, texts_of}

-- all words are names, as texts too
pub all_texts : (words : List (Bor (List ℕ))) → list_all (λ w. is_name w.now) words ≡ list_all is_name (texts_of words)
all_texts [] = refl
all_texts (w ∷ ws) = ap (λ rest. is_name w.now && rest) (all_texts ws)

-- a word that is no name is one of them
pub bad_word : (words : List (Bor (List ℕ))) (i : ℕ) (word : List ℕ) → IsWordAt words i word → is_name word ≡ false
    → list_all (λ w. is_name w.now) words ≡ false
bad_word words i word at e =
    list_all_at (λ (w : Bor (List ℕ)). is_name w.now) words i (record { ref_ptr = (0, 0); now = [] }) at.within (ap is_name (sym at.is) ∙ e)

pub bad_names : (names : List (List ℕ)) → list_all is_name names ≡ false → names_fault names ≡ Some BadName
bad_names names e = rw e refl

pub many_names : (names : List (List ℕ)) → list_all is_name names ≡ true → 16 < length names → names_fault names ≡ Some TooMany
many_names names e h = let t : nat_lt 16 (length names) ≡ true = search rules in rw (e, t) refl

pub good_names : (names : List (List ℕ)) → list_all is_name names ≡ true → length names ≤ 16 → names_fault names ≡ None
good_names names e h = let t : nat_lt 16 (length names) ≡ false = search rules in rw (e, t) refl
