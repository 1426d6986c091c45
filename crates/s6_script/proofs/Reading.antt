-- What is spelled is read.
use Rattle.std.proofs.Common.{◌≡◌, ℕ, ◌^◌, ◌<◌, ◌≤◌, List, [], ◌∷◌, refl, ap, ◌∙◌, arith, drop, map, rules}
use Rattle.std.specs.Prelude.{Some, None, true, codes, ◌==◌, decimal, slice_index_or, Result, Ok, Err, IfOk}
use Rattle.std.specs.List.{slice_split, list_all}
use Rattle.std.proofs.lemmas.Option.{same_Some, none-some}
use Rattle.death_tally.specs.declared.exit_list.DeathItem.{DeathItem}
use Rattle.death_tally.specs.DeathList.{death_list}
use Rattle.s6_events.specs.Name.{is_name}
use Rattle.s6_events.specs.declared.exit.Exit.{Exit}
use Rattle.s6_events.specs.declared.exit.Exit.TheVariants.{Code, Killed}
use Rattle.tree_core.specs.declared.input.Act.{Act}
use Rattle.tree_core.specs.declared.input.Act.TheVariants.{Scan, Scanctl, Svc, Started, StartFailed, Notify, Death, FinishEnded, Status, Tally}
use Rattle.tree_core.specs.declared.input.Act.TheVariants.{Permafailon, Wait, Cancel, Subscribe, Unsubscribe, Send, MakeDir, Tick}
use Rattle.tree_core.specs.declared.input.Input.{Input}
use Rattle.s6_script.specs.declared.parse.Verb.{Verb}
use Rattle.s6_script.specs.declared.parse.Verb.TheVariants as verbs
use Rattle.svscan_core.specs.declared.entry.ScanOrder.{ScanOrder}
use Rattle.s6_script.specs.Spelling.{IsSpelt, IsExit, IsAct, act_words, act_spelling, input_words, spelling}
use Rattle.s6_script.specs.declared.unbuilt.UnbuiltAct.{UnbuiltAct}
use Rattle.s6_script.specs.Unbuilt.{act_read}
use Rattle.s6_script.specs.Verb.{exit_words, order_word, verb_word, verb_of_act, details}
use Rattle.control_letters.specs.ControlLetter.{byte_of}
use Rattle.control_letters.specs.declared.control_letter.ControlLetter.{ControlLetter}
use Rattle.s6_script.proofs.Hexadecimal.{hex_plain}
use Rattle.s6_script.proofs.Joined.{is_no_space, has_no_space, split_joined}
use Rattle.s6_script.proofs.Plain.{digits_plain, name_plain, no_space_in}
use Rattle.s6_script.proofs.DeathLists.{list_back, list_no_space}
use Rattle.s6_script.proofs.Entries.{entries_no_space}
use Rattle.s6_script.proofs.Subscribes.{subscribe_no_space, send_no_space}
use Rattle.s6_script.proofs.Waits.{wait_no_space}

-- a permafailon, where what is found is the one of these words
pub permafailon_read : {A : Type 0} (texts : List (List ℕ)) (found : Act A)
    → ((name : List ℕ) (seconds count : ℕ) (items : List DeathItem) → IsAct {A = A} (Permafailon name seconds count items)
    → texts ≡ details {A = A} (Permafailon name seconds count items)
    → found ≡ Permafailon name seconds count items)
    → (act : Act A) → IsAct act → verbs.Permafailon ≡ verb_of_act act → texts ≡ details act → found ≡ act
permafailon_read texts found reads (Scan entries) h v d = cc
permafailon_read texts found reads (Scanctl order) h v d = cc
permafailon_read texts found reads (Svc name letters) h v d = cc
permafailon_read texts found reads (Started sid generation pid) h v d = cc
permafailon_read texts found reads (StartFailed sid generation) h v d = cc
permafailon_read texts found reads (Notify sid generation bytes) h v d = cc
permafailon_read texts found reads (FinishEnded sid generation exit) h v d = cc
permafailon_read texts found reads (Death sid generation exit) h v d = cc
permafailon_read texts found reads (Status name) h v d = cc
permafailon_read texts found reads (Tally name) h v d = cc
permafailon_read texts found reads (Permafailon name seconds count items) h v d = reads name seconds count items h d
permafailon_read texts found reads (Wait condition mode timeout names) h v d = cc
permafailon_read texts found reads (Cancel id) h v d = cc
permafailon_read texts found reads (Subscribe target pattern repeats) h v d = cc
permafailon_read texts found reads (Unsubscribe id) h v d = cc
permafailon_read texts found reads (Send target message) h v d = cc
permafailon_read texts found reads (MakeDir name) h v d = cc
permafailon_read texts found reads Tick h v d = cc

-- the parts of a permafailon are read, each from its word
pub permafailon_found : {A : Type 0} (texts : List (List ℕ)) (name : List ℕ) (seconds count : ℕ) (items : List DeathItem) (w0 w1 w2 w3 : List ℕ)
    → w0 ≡ slice_index_or texts 0 [] → w1 ≡ slice_index_or texts 1 [] → w2 ≡ slice_index_or texts 2 [] → w3 ≡ slice_index_or texts 3 []
    → (is_name w0 ≡ true → name ≡ w0)
    → ((n : ℕ) → n ≤ 4294967295 → w1 ≡ decimal n → seconds ≡ n)
    → ((n : ℕ) → n ≤ 4294967295 → w2 ≡ decimal n → count ≡ n)
    → Some items ≡ death_list w3
    → (act : Act A) → IsAct act → verbs.Permafailon ≡ verb_of_act act → texts ≡ details act → Permafailon name seconds count items ≡ act
permafailon_found {A} texts name seconds count items w0 w1 w2 w3 e0 e1 e2 e3 reads_name reads_seconds reads_count reads_list =
    permafailon_read texts (Permafailon name seconds count items) (λ n s k ds fits spelled.
    let first : w0 ≡ n = e0 ∙ ap (λ ws. slice_index_or ws 0 []) spelled in
    let same_name : name ≡ n = reads_name (ap is_name first ∙ fits.0) ∙ first in
    let same_seconds : seconds ≡ s = reads_seconds s fits.1 (e1 ∙ ap (λ ws. slice_index_or ws 1 []) spelled) in
    let same_count : count ≡ k = reads_count k fits.2 (e2 ∙ ap (λ ws. slice_index_or ws 2 []) spelled) in
    let same_list : items ≡ ds = same_Some items ds
    (reads_list ∙ (ap death_list (e3 ∙ ap (λ ws. slice_index_or ws 3 []) spelled) ∙ list_back ds fits.3)) in
    λ i. Permafailon (same_name i) (same_seconds i) (same_count i) (same_list i))

-- where the fourth word is no list, the words are those of no permafailon
pub permafailon_lost : {A : Type 0} (texts : List (List ℕ)) (found : Act A) (w3 : List ℕ) → w3 ≡ slice_index_or texts 3 [] → None ≡ death_list w3
    → (act : Act A) → IsAct act → verbs.Permafailon ≡ verb_of_act act → texts ≡ details act → found ≡ act
permafailon_lost texts found w3 e3 none =
    permafailon_read texts found (λ n s k ds fits spelled.
    absurd (none-some ds (none ∙ (ap death_list (e3 ∙ ap (λ ws. slice_index_or ws 3 []) spelled) ∙ list_back ds fits.3))))

-- decimal digits are no spaces
digits_no_space : (n : ℕ) → n < 2 ^ 64 → has_no_space (decimal n) ≡ true
digits_no_space n small = no_space_in (decimal n) (digits_plain n small)

exit_plain : (e : Exit) → IsExit e → list_all has_no_space (exit_words e) ≡ true
exit_plain (Code n) h = rw (digits_no_space n (omega arith)) refl
exit_plain (Killed n) h = rw (digits_no_space n (omega arith)) refl

letter_plain : (l : ControlLetter) → is_no_space (byte_of l) ≡ true
letter_plain l = search rules

letters_plain : (ls : List ControlLetter) → has_no_space (map byte_of ls) ≡ true
letters_plain [] = refl
letters_plain (l ∷ ls) = rw (letter_plain l) (letters_plain ls)

order_plain : (order : ScanOrder) → list_all has_no_space (codes "scanctl" ∷ order_word order ∷ []) ≡ true
order_plain order = search rules

act_plain : {A : Type 0} (act : Act A) → IsAct act → list_all has_no_space (act_words act) ≡ true
act_plain (Scan listing) h = entries_no_space listing h
act_plain (Scanctl order) h = order_plain order
act_plain (Svc name letters) h = rw (no_space_in name (name_plain name h.0), letters_plain letters.items) refl
act_plain (Started sid generation pid) h =
    rw (digits_no_space sid h.0, digits_no_space generation h.1, digits_no_space pid (omega arith)) refl
act_plain (StartFailed sid generation) h = rw (digits_no_space sid h.0, digits_no_space generation h.1) refl
act_plain (Notify sid generation bytes) h = rw (digits_no_space sid h.0, digits_no_space generation h.1, hex_plain bytes.items) refl
act_plain (FinishEnded sid generation exit) h = rw (digits_no_space sid h.0, digits_no_space generation h.1) (exit_plain exit h.2)
act_plain (Death sid generation exit) h = rw (digits_no_space sid h.0, digits_no_space generation h.1) (exit_plain exit h.2)
act_plain (Status name) h = rw (no_space_in name (name_plain name h)) refl
act_plain (Tally name) h = rw (no_space_in name (name_plain name h)) refl
act_plain (Permafailon name seconds count items) h =
    rw (
      no_space_in name (name_plain name h.0),
      digits_no_space seconds (omega arith),
      digits_no_space count
          (omega arith),
      list_no_space items h.3.fit,
    ) refl
act_plain (Wait condition mode timeout names) h = wait_no_space condition mode timeout names (digits_no_space timeout (omega (arith, h.0))) h.1
act_plain (Cancel id) h = rw (digits_no_space id h) refl
act_plain (Subscribe target pattern repeats) h = subscribe_no_space target pattern repeats h.0
act_plain (Unsubscribe id) h = rw (digits_no_space id h) refl
act_plain (Send target message) h = send_no_space target message h.0 h.1
act_plain (MakeDir name) h = rw (no_space_in name (name_plain name h)) refl
act_plain Tick h = refl

-- a spelling has the words of its act, and of its input
pub act_words_back : {A : Type 0} (act : Act A) → IsAct act → slice_split (λ b. b == 32) (act_spelling act) ≡ act_words act
act_words_back act fits = split_joined (λ b. b == 32) 32 refl (verb_word (verb_of_act act)) (details act) (act_plain act fits)

pub words_back : {A : Type 0} (i : Input A) → IsSpelt i → slice_split (λ b. b == 32) (spelling i) ≡ input_words i
words_back i s =
    let at : i.at < 2 ^ 64 = omega (arith, s.at) in
    let actor : i.actor < 2 ^ 64 = omega (arith, s.actor) in
    split_joined (λ b. b == 32) 32 refl (decimal i.at) (decimal i.actor ∷ act_words i.act)
    (rw (digits_no_space i.at at, digits_no_space i.actor actor) (act_plain i.act s.act))

-- an act is read, its verb from the first word
pub verb_read : {A E : Type 0} (verb : Verb) (r : Result (UnbuiltAct A) E) (word : List ℕ) (rest texts : List (List ℕ))
    → word ≡ slice_index_or texts 0 [] → rest ≡ drop 1 texts
    → ((v : Verb) → word ≡ verb_word v → verb ≡ v)
    → IfOk r (λ found. (act : Act A) → IsAct act → verb ≡ verb_of_act act → rest ≡ details act → act_read found ≡ act)
    → IfOk r (λ found. (act : Act A) → IsAct act → texts ≡ act_words act → act_read found ≡ act)
verb_read verb (Ok found) word rest texts first behind reads_verb reads = λ act fits words.
    let same : verb ≡ verb_of_act act = reads_verb (verb_of_act act) (first ∙ ap (λ ws. slice_index_or ws 0 []) words) in
    reads act fits same (behind ∙ ap (drop 1) words)
verb_read verb (Err fault) word rest texts first behind reads_verb reads = tt
