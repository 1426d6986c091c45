-- A wait is read back from its spelling.
use Rattle.std.proofs.Common.{◌≡◌, ◌∙◌, ℕ, ◌≤◌, List, [], ◌∷◌, ◌++◌, ap, sym, subst, refl, arith, append_assoc, append-nil, drop, length, rules}
use Rattle.std.specs.Prelude.{All, IsTrue, true, false, nat_lt, decimal, slice_index_or, codes}
use Rattle.std.specs.List.{list_all}
use Rattle.std.proofs.lemmas.Bool.{false≢true}
use Rattle.std.proofs.lemmas.Bool.Decides.{nat_tests}
use Rattle.std.proofs.lemmas.List.Elements.{All-head, All-tail}
use Rattle.s6_events.specs.Name.{is_name}
use Rattle.s6_events.specs.declared.condition.Condition.{Condition}
use Rattle.s6_events.specs.declared.condition.Mode.{Mode}
use Rattle.tree_core.specs.declared.input.Act.{Act}
use Rattle.tree_core.specs.declared.input.Act.TheVariants.{Scan, Scanctl, Svc, Started, StartFailed, Notify, Death, FinishEnded, Status, Tally}
use Rattle.tree_core.specs.declared.input.Act.TheVariants.{Permafailon, Wait, Cancel, Subscribe, Unsubscribe, Send, MakeDir, Tick}
use Rattle.s6_script.specs.declared.parse.Verb.TheVariants as verb
use Rattle.s6_script.specs.Spelling.{IsAct}
use Rattle.s6_script.specs.Verb.{condition_word, mode_word, verb_of_act, details}
use Rattle.s6_script.proofs.Joined.{has_no_space}
use Rattle.s6_script.proofs.Plain.{name_plain, no_space_in}

-- so many names are read, and these are left
pub record NamesSoFar (names got left : List (List ℕ)) : Type 0 where
  pub whole : got ++ left ≡ names
  pub fits : All (λ name. IsTrue (is_name name)) left

-- one name more
pub one_name_more : (names got new left left' : List (List ℕ)) (word read : List ℕ) → NamesSoFar names got left → nat_lt 0 (length left) ≡ true
    → word ≡ slice_index_or left 0 [] → left' ≡ drop 1 left → (is_name word ≡ true → read ≡ word) → new ≡ got ++ read ∷ []
    → NamesSoFar names new left'
one_name_more names got new [] left' word read so_far some first rest reads adds = absurd (false≢true some)
one_name_more names got new (name ∷ left) left' word read so_far some first rest reads adds =
    let same : read ≡ name = reads (ap is_name first ∙ All-head (λ n. IsTrue (is_name n)) name left so_far.fits) ∙ first in
    record {
      whole = ap (λ l. l ++ left') adds ∙ (append_assoc got (read ∷ []) left' ∙ ((λ k. got ++ same k ∷ rest k) ∙ so_far.whole));
      fits = subst (All (λ n. IsTrue (is_name n))) (sym rest) (All-tail (λ n. IsTrue (is_name n)) name left so_far.fits);
    }

-- all names are read
pub all_names_read : (names got left : List (List ℕ)) → NamesSoFar names got left → nat_lt 0 (length left) ≡ false → got ≡ names
all_names_read names got [] so_far none = sym (append-nil got) ∙ so_far.whole
all_names_read names got (name ∷ left) so_far none = absurd (grind (arith, nat_tests))

-- a wait, where what is found is the one of these words
wait_read : {A : Type 0} (texts : List (List ℕ)) (found : Act A)
    → ((condition : Condition) (mode : Mode) (timeout : ℕ) (names : List (List ℕ)) → IsAct {A = A} (Wait condition mode timeout names)
    → texts ≡ details {A = A} (Wait condition mode timeout names) → found ≡ Wait condition mode timeout names)
    → (act : Act A) → IsAct act → verb.Wait ≡ verb_of_act act → texts ≡ details act → found ≡ act
wait_read texts found reads (Scan entries) h v d = cc
wait_read texts found reads (Scanctl order) h v d = cc
wait_read texts found reads (Svc name letters) h v d = cc
wait_read texts found reads (Started sid generation pid) h v d = cc
wait_read texts found reads (StartFailed sid generation) h v d = cc
wait_read texts found reads (Notify sid generation bytes) h v d = cc
wait_read texts found reads (FinishEnded sid generation exit) h v d = cc
wait_read texts found reads (Death sid generation exit) h v d = cc
wait_read texts found reads (Status name) h v d = cc
wait_read texts found reads (Tally name) h v d = cc
wait_read texts found reads (Permafailon name seconds count items) h v d = cc
wait_read texts found reads (Wait condition mode timeout names) h v d = reads condition mode timeout names h d
wait_read texts found reads (Cancel id) h v d = cc
wait_read texts found reads (Subscribe target pattern repeats) h v d = cc
wait_read texts found reads (Unsubscribe id) h v d = cc
wait_read texts found reads (Send target message) h v d = cc
wait_read texts found reads (MakeDir name) h v d = cc
wait_read texts found reads Tick h v d = cc

-- its parts are read, each from its word
pub wait_found : {A : Type 0} (texts : List (List ℕ)) (condition : Condition) (mode : Mode) (timeout : ℕ) (names : List (List ℕ))
    (w0 w1 w2 : List ℕ) (rest : List (List ℕ))
    → w0 ≡ slice_index_or texts 0 [] → w1 ≡ slice_index_or texts 1 [] → w2 ≡ slice_index_or texts 2 [] → rest ≡ drop 3 texts
    → ((c : Condition) → w0 ≡ condition_word c → condition ≡ c)
    → ((m : Mode) → w1 ≡ mode_word m → mode ≡ m)
    → ((n : ℕ) → n ≤ 4294967295 → w2 ≡ decimal n → timeout ≡ n)
    → ((ns : List (List ℕ)) → All (λ name. IsTrue (is_name name)) ns → rest ≡ ns → names ≡ ns)
    → (act : Act A) → IsAct act → verb.Wait ≡ verb_of_act act → texts ≡ details act → Wait condition mode timeout names ≡ act
wait_found {A} texts condition mode timeout names w0 w1 w2 rest e0 e1 e2 er reads_condition reads_mode reads_timeout reads_names =
    wait_read texts (Wait condition mode timeout names) (λ c m t ns fits spelled.
    let same_condition : condition ≡ c = reads_condition c (e0 ∙ ap (λ ws. slice_index_or ws 0 []) spelled) in
    let same_mode : mode ≡ m = reads_mode m (e1 ∙ ap (λ ws. slice_index_or ws 1 []) spelled) in
    let same_timeout : timeout ≡ t = reads_timeout t fits.0 (e2 ∙ ap (λ ws. slice_index_or ws 2 []) spelled) in
    let same_names : names ≡ ns = reads_names ns fits.1 (er ∙ ap (drop 3) spelled) in
    λ i. Wait (same_condition i) (same_mode i) (same_timeout i) (same_names i))

-- none of its words has a space
condition_plain : (c : Condition) → has_no_space (condition_word c) ≡ true
condition_plain c = search rules

mode_plain : (m : Mode) → has_no_space (mode_word m) ≡ true
mode_plain m = search rules

names_no_space : (names : List (List ℕ)) → All (λ name. IsTrue (is_name name)) names → list_all has_no_space names ≡ true
names_no_space [] h = refl
names_no_space (name ∷ names) h =
    rw (no_space_in name (name_plain name (All-head (λ n. IsTrue (is_name n)) name names h)))
    (names_no_space names (All-tail (λ n. IsTrue (is_name n)) name names h))

pub wait_no_space : (condition : Condition) (mode : Mode) (timeout : ℕ) (names : List (List ℕ)) → has_no_space (decimal timeout) ≡ true
    → All (λ name. IsTrue (is_name name)) names
    → list_all has_no_space (codes "wait" ∷ condition_word condition ∷ mode_word mode ∷ decimal timeout ∷ names) ≡ true
wait_no_space condition mode timeout names digits h = rw (condition_plain condition, mode_plain mode, digits) (names_no_space names h)
