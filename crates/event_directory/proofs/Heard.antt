-- One letter more of a text changes a list as `next` says, and a list begins again after its least match.
use Rattle.std.proofs.Common.{◌≡◌, ◌⊎◌, inl, inr, ℕ, zero, suc, ◌-◌, ◌≤◌, ◌<◌, List, [], ◌∷◌, ◌++◌, Bool, true, false, length, take, drop, min}
use Rattle.std.proofs.Common.{nat_le, Option, None, Some, refl, sym, ap, ◌∙◌, arith, get_or, length-append, cond}
use Rattle.std.proofs.lemmas.Bool.{cases_lt, leb-true, leb-false, le-leb, lt-leb}
use Rattle.std.proofs.lemmas.List.{length-drop, drop_all, take-append-le, drop-append-le, get_or_append_left, get_or_at, take_all, nil_from_length}
use Rattle.std.proofs.lemmas.List.{append_assoc}
use Rattle.std.proofs.lemmas.List.Elements.{filter-append}
use Rattle.event_directory.specs.Laws.{IsLeastMatch}
use Rattle.event_directory.specs.SubscriberList.{Heard, text_limit, one_to, first_of_list, least_to, least_match, live_with, over_in}
use Rattle.event_directory.specs.SubscriberList.{after_hearing, list_by, list_within, subscriber_list, is_live, list_with_letter}
use Rattle.event_directory.specs.declared.sub_view.State.TheVariants as state

abbrev or_else : Option ℕ → Option ℕ → Option ℕ
or_else None b = b
or_else (Some k) b = Some k

first-append : (xs ys : List ℕ) → first_of_list (xs ++ ys) ≡ or_else (first_of_list xs) (first_of_list ys)
first-append [] ys = refl
first-append (x ∷ xs) ys = refl

first-one : (b : Bool) (k : ℕ) → first_of_list (cond b (k ∷ []) []) ≡ cond b (Some k) None
first-one true k = refl
first-one false k = refl

least-more : (test : ℕ → Bool) (n : ℕ) → least_to test (suc n) ≡ or_else (least_to test n) (cond (test (suc n)) (Some (suc n)) None)
unfolding least_to one_to
least-more test n = rw (filter-append, first-append, first-one) refl

-- two tests that agree up to n have the same least number
least-none : (p q : ℕ → Bool) → least_to p 0 ≡ least_to q 0
unfolding least_to one_to
least-none p q = refl

least-same : (p q : ℕ → Bool) (n : ℕ) → ((k : ℕ) → k ≤ n → p k ≡ q k) → least_to p n ≡ least_to q n
least-same p q zero same = least-none p q
least-same p q (suc n) same =
    let below : least_to p n ≡ least_to q n = least-same p q n (λ k h. same k (omega arith)) in
    let here : p (suc n) ≡ q (suc n) = same (suc n) (omega arith) in
    least-more p n ∙ rw (below, here) (sym (least-more q n))

-- the least number is one of those
in_bounds : (test : ℕ → Bool) (n k : ℕ) (o : Option ℕ) (b : Bool) → (o ≡ Some k → (1 ≤ k) × (k ≤ n))
    → or_else o (cond b (Some (suc n)) None) ≡ Some k → (1 ≤ k) × (k ≤ suc n)
in_bounds test n k None true h e = let same : suc n ≡ k = cc in (omega arith, omega arith)
in_bounds test n k None false h e = absurd (cc)
in_bounds test n k (Some j) b h e = let r = h e in (r.0, omega arith)

least-bounds : (test : ℕ → Bool) (n k : ℕ) → least_to test n ≡ Some k → (1 ≤ k) × (k ≤ n)
unfolding least_to one_to
least-bounds test zero k e = absurd (cc)
least-bounds test (suc n) k e = in_bounds test n k (least_to test n) (test (suc n)) (least-bounds test n k) (sym (least-more test n) ∙ e)

-- the least match of a text with one letter more
match-full : (find : List ℕ → Bool) (text : List ℕ) (x : ℕ) → 1024 ≤ length text → least_match find (text ++ x ∷ []) ≡ least_match find text
unfolding least_match
match-full find text x long =
    let more : min 1024 (length (text ++ x ∷ [])) ≡ 1024 = omega (arith, length-append text (x ∷ [])) in
    let here : min 1024 (length text) ≡ 1024 = omega arith in
    rw (more, here) (least-same _ _ 1024 (λ k h. ap find (take-append-le k text (x ∷ []) (omega arith))))

match-more : (find : List ℕ → Bool) (text : List ℕ) (x : ℕ) → length text < 1024 →
    least_match find (text ++ x ∷ []) ≡ or_else (least_match find text) (cond (find (text ++ x ∷ [])) (Some (suc (length text))) None)
unfolding least_match
match-more find text x short =
    let more : min 1024 (length (text ++ x ∷ [])) ≡ suc (length text) = omega (arith, length-append text (x ∷ [])) in
    let here : min 1024 (length text) ≡ length text = omega arith in
    let whole : take (suc (length text)) (text ++ x ∷ []) ≡ text ++ x ∷ [] =
    take_all (suc (length text)) (text ++ x ∷ []) (omega (arith, length-append text (x ∷ []))) in
    rw (more, here) (least-more (λ k. find (take k (text ++ x ∷ []))) (length text)
    ∙ rw (
      least-same (λ k. find (take k (text ++ x ∷ []))) (λ k. find (take k text)) (length text)
          (λ k h. ap find (take-append-le k text (x ∷ []) h)),
      whole,
    ) refl)

-- letters that were heard before stay before what comes
next-after : (find : List ℕ → Bool) (repeats : Bool) (x : ℕ) (letters : List ℕ) (h : Heard) (a b c : Bool) →
    is_live h.state ≡ a → nat_le text_limit (length h.text) ≡ b → find (h.text ++ x ∷ []) ≡ c →
    list_with_letter find repeats x (after_hearing letters h) ≡ after_hearing letters (list_with_letter find repeats x h)
next-after find repeats x letters h false b c ea eb ec = rw ea refl
next-after find repeats x letters h true true c ea eb ec = rw (ea, eb) refl
next-after find repeats x letters h true false true ea eb ec =
    rw (ea, eb, ec) (ap (λ l. record { letters = l; state = cond repeats state.Live state.Done; text = [] })
    (append_assoc letters h.letters (x ∷ [])))
next-after find repeats x letters h true false false ea eb ec = rw (ea, eb, ec) refl

pub next-after_hearing : (find : List ℕ → Bool) (repeats : Bool) (x : ℕ) (letters : List ℕ) (h : Heard) →
    list_with_letter find repeats x (after_hearing letters h) ≡ after_hearing letters (list_with_letter find repeats x h)
next-after_hearing find repeats x letters h = next-after find repeats x letters h _ _ _ refl refl refl

-- a text in which there is no match yet
step-open : (find : List ℕ → Bool) (repeats : Bool) (x : ℕ) (text : List ℕ) (follow : List ℕ → Heard) (full found : Bool) →
    least_match find text ≡ None → length text ≤ 1024 → follow [] ≡ live_with [] →
    nat_le text_limit (length text) ≡ full → find (text ++ x ∷ []) ≡ found →
    list_by (least_match find (text ++ x ∷ [])) follow repeats (text ++ x ∷ []) ≡ list_with_letter find repeats x (live_with text)
step-open find repeats x text follow true found none within start ef eb =
    let long : 1024 ≤ length text = leb-true 1024 (length text) ef in
    let same : least_match find (text ++ x ∷ []) ≡ None = match-full find text x long ∙ none in
    let over : nat_le 1025 (length (text ++ x ∷ [])) ≡ true = le-leb 1025 _ (omega (arith, length-append text (x ∷ []))) in
    rw (same, over, ef) refl
step-open find repeats x text follow false true none within start ef eb =
    let short : length text < 1024 = leb-false 1024 (length text) ef in
    let here : least_match find (text ++ x ∷ []) ≡ Some (suc (length text)) = match-more find text x short ∙ rw (none, eb) refl in
    let same : suc (length text) - 1 ≡ length text = omega arith in
    let letter : get_or (text ++ x ∷ []) (length text) 0 ≡ x = get_or_at text x [] 0 (length text) refl in
    let rest : drop (suc (length text)) (text ++ x ∷ []) ≡ [] =
    drop_all (suc (length text)) (text ++ x ∷ []) (omega (arith, length-append text (x ∷ []))) in
    rw (here, same, letter, rest, start, ef, eb) (by_repeats repeats x)
  where
    by_repeats : (b : Bool) (x : ℕ) → after_hearing (x ∷ []) (cond b (live_with []) (over_in state.Done))
        ≡ record { letters = x ∷ []; state = cond b state.Live state.Done; text = [] }
    by_repeats true x = refl
    by_repeats false x = refl
step-open find repeats x text follow false false none within start ef eb =
    let short : length text < 1024 = leb-false 1024 (length text) ef in
    let here : least_match find (text ++ x ∷ []) ≡ None = match-more find text x short ∙ rw (none, eb) refl in
    let over : nat_le 1025 (length (text ++ x ∷ [])) ≡ false = lt-leb 1025 _ (omega (arith, length-append text (x ∷ []))) in
    rw (here, over, ef, eb) refl

-- a text without a match, of any length
step-none : (n : ℕ) (find : List ℕ → Bool) (repeats : Bool) (x : ℕ) (text : List ℕ) (follow : List ℕ → Heard) (over : Bool) →
    least_match find text ≡ None → nat_le 1025 (length text) ≡ over → follow [] ≡ live_with [] →
    list_by (least_match find (text ++ x ∷ [])) follow repeats (text ++ x ∷ [])
    ≡ list_with_letter find repeats x (cond over (over_in state.Overlong) (live_with text))
step-none n find repeats x text follow true none e start =
    let long : 1025 ≤ length text = leb-true 1025 (length text) e in
    let same : least_match find (text ++ x ∷ []) ≡ None = match-full find text x (omega arith) ∙ none in
    let over : nat_le 1025 (length (text ++ x ∷ [])) ≡ true = le-leb 1025 _ (omega (arith, length-append text (x ∷ []))) in
    rw (same, over) refl
step-none n find repeats x text follow false none e start =
    let short : length text < 1025 = leb-false 1025 (length text) e in
    step-open find repeats x text follow _ _ none (omega arith) start refl refl

match-bounds : (find : List ℕ → Bool) (text : List ℕ) (k : ℕ) → least_match find text ≡ Some k → (1 ≤ k) × (k ≤ length text) × (k ≤ 1024)
unfolding least_match
match-bounds find text k e = let b = least-bounds (λ k. find (take k text)) (min text_limit (length text)) k e in (b.0, omega arith, omega arith)

-- a match stays the least one when letters follow
match-stays : (find : List ℕ → Bool) (text : List ℕ) (x k : ℕ) (full : Bool) → nat_le 1024 (length text) ≡ full →
    least_match find text ≡ Some k → least_match find (text ++ x ∷ []) ≡ Some k
match-stays find text x k true ef e = match-full find text x (leb-true 1024 _ ef) ∙ e
match-stays find text x k false ef e = match-more find text x (leb-false 1024 _ ef) ∙ rw e refl

step-some : (find : List ℕ → Bool) (repeats : Bool) (x : ℕ) (text : List ℕ) (k : ℕ) (follow before : List ℕ → Heard) →
    least_match find text ≡ Some k →
    follow (drop k text ++ x ∷ []) ≡ list_with_letter find repeats x (before (drop k text)) →
    list_by (least_match find (text ++ x ∷ [])) follow repeats (text ++ x ∷ [])
    ≡ list_with_letter find repeats x (list_by (Some k) before repeats text)
step-some find true x text k follow before e more =
    let stays : least_match find (text ++ x ∷ []) ≡ Some k = match-stays find text x k _ refl e in
    let b = match-bounds find text k e in
    let letter : get_or (text ++ x ∷ []) (k - 1) 0 ≡ get_or text (k - 1) 0 = get_or_append_left text (x ∷ []) 0 (k - 1) (omega arith) in
    let rest : drop k (text ++ x ∷ []) ≡ drop k text ++ x ∷ [] = drop-append-le k text (x ∷ []) b.1 in
    rw (stays, letter, rest, more) (sym (next-after_hearing find true x (get_or text (k - 1) 0 ∷ []) (before (drop k text))))
step-some find false x text k follow before e more =
    let stays : least_match find (text ++ x ∷ []) ≡ Some k = match-stays find text x k _ refl e in
    let b = match-bounds find text k e in
    let letter : get_or (text ++ x ∷ []) (k - 1) 0 ≡ get_or text (k - 1) 0 = get_or_append_left text (x ∷ []) 0 (k - 1) (omega arith) in
    rw (stays, letter) refl

step-by : (n : ℕ) (find : List ℕ → Bool) (repeats : Bool) (x : ℕ) (text : List ℕ) (k : Option ℕ) (follow before : List ℕ → Heard) →
    least_match find text ≡ k → follow [] ≡ live_with [] →
    ((j : ℕ) → k ≡ Some j → follow (drop j text ++ x ∷ []) ≡ list_with_letter find repeats x (before (drop j text))) →
    list_by (least_match find (text ++ x ∷ [])) follow repeats (text ++ x ∷ []) ≡ list_with_letter find repeats x (list_by k before repeats text)
step-by n find repeats x text None follow before e start more = step-none n find repeats x text follow _ e refl start
step-by n find repeats x text (Some k) follow before e start more = step-some find repeats x text k follow before e (more k refl)

match-of-nothing : (find : List ℕ → Bool) → least_match find [] ≡ None
unfolding least_match least_to one_to
match-of-nothing find = refl

within-nothing : (n : ℕ) (find : List ℕ → Bool) (repeats : Bool) → list_within n find repeats [] ≡ live_with []
unfolding list_within
within-nothing zero find repeats = refl
within-nothing (suc n) find repeats = rw (match-of-nothing find) refl

step-within : (n : ℕ) (find : List ℕ → Bool) (repeats : Bool) (x : ℕ) (text : List ℕ) → length text ≤ n →
    list_within (suc n) find repeats (text ++ x ∷ []) ≡ list_with_letter find repeats x (list_within n find repeats text)
unfolding list_within
step-within zero find repeats x text within =
    let e : text ≡ [] = nil_from_length text (omega arith) in
    step-open find repeats x text (λ rest. list_within 0 find repeats rest) _ _ (ap (least_match find) e ∙ match-of-nothing find)
    (omega arith) refl refl refl
step-within (suc n) find repeats x text within =
    step-by n find repeats x text (least_match find text) (λ rest. list_within (suc n) find repeats rest)
    (λ rest. list_within n find repeats rest) refl
    (within-nothing (suc n) find repeats)
    (λ j p. let b = match-bounds find text j p in step-within n find repeats x (drop j text) (omega (arith, length-drop j text)))

-- the list with one letter more
pub heard-next : (find : List ℕ → Bool) (repeats : Bool) (x : ℕ) (text : List ℕ)
    → subscriber_list find repeats (text ++ x ∷ []) ≡ list_with_letter find repeats x (subscriber_list find repeats text)
unfolding subscriber_list
heard-next find repeats x text =
    let more : length (text ++ x ∷ []) ≡ suc (length text) = omega (arith, length-append text (x ∷ [])) in
    rw more (step-within (length text) find repeats x text (omega arith))

pub heard-nothing : (find : List ℕ → Bool) (repeats : Bool) → subscriber_list find repeats [] ≡ live_with []
unfolding subscriber_list
heard-nothing find repeats = within-nothing 0 find repeats

-- the definition, with no bound: by the least match, and the list of what follows
by-same : (repeats : Bool) (text : List ℕ) (k : Option ℕ) (f g : List ℕ → Heard) → ((j : ℕ) → k ≡ Some j → f (drop j text) ≡ g (drop j text))
    → list_by k f repeats text ≡ list_by k g repeats text
by-same repeats text None f g same = refl
by-same true text (Some k) f g same = ap (after_hearing (get_or text (k - 1) 0 ∷ [])) (same k refl)
by-same false text (Some k) f g same = refl

within-same : (n m : ℕ) (find : List ℕ → Bool) (repeats : Bool) (text : List ℕ) → length text ≤ n → length text ≤ m
    → list_within n find repeats text ≡ list_within m find repeats text
unfolding list_within
within-same zero m find repeats text le le' =
    let none : text ≡ [] = nil_from_length text (omega arith) in ap live_with none
    ∙ sym (ap (list_within m find repeats) none ∙ within-nothing m find repeats)
within-same (suc n) zero find repeats text le le' =
    let none : text ≡ [] = nil_from_length text (omega arith) in ap (list_within (suc n) find repeats) none ∙ within-nothing (suc n) find repeats
    ∙ sym (ap live_with none)
within-same (suc n) (suc m) find repeats text le le' =
    by-same repeats text (least_match find text) (λ rest. list_within n find repeats rest) (λ rest. list_within m find repeats rest)
    (λ j e. let b = match-bounds find text j e in within-same n m find repeats (drop j text) (omega (arith, length-drop j text))
    (omega (arith, length-drop j text)))

pub heard-again : (find : List ℕ → Bool) (repeats : Bool) (text : List ℕ)
    → subscriber_list find repeats text ≡ list_by (least_match find text) (λ rest. subscriber_list find repeats rest) repeats text
unfolding subscriber_list list_within
heard-again find repeats text =
    within-same (length text) (suc (length text)) find repeats text (omega arith) (omega arith)
    ∙ by-same repeats text (least_match find text) (λ rest. list_within (length text) find repeats rest)
    (λ rest. list_within (length rest) find repeats rest)
    (λ j e. let b = match-bounds find text j e in within-same (length text) (length (drop j text)) find repeats (drop j text)
    (omega (arith, length-drop j text)) (omega arith))

-- the least number is a match, and there is none before it
pub record IsLeast (test : ℕ → Bool) (k : ℕ) : Type 0 where
  pub passes : test k ≡ true
  pub first : (j : ℕ) → 1 ≤ j → j < k → test j ≡ false

none_split : (test : ℕ → Bool) (n j : ℕ) → test (suc n) ≡ false → ((k : ℕ) → 1 ≤ k → k ≤ n → test k ≡ false) → 1 ≤ j → (j < suc n) ⊎ (suc n ≤ j)
    → j ≤ suc n → test j ≡ false
none_split test n j here below low (inl lt) high = below j low (omega arith)
none_split test n j here below low (inr ge) high = let same : j ≡ suc n = omega arith in ap test same ∙ here

none_by : (test : ℕ → Bool) (n : ℕ) (o : Option ℕ) (b : Bool) → test (suc n) ≡ b → or_else o (cond b (Some (suc n)) None) ≡ None
    → (o ≡ None → (k : ℕ) → 1 ≤ k → k ≤ n → test k ≡ false) →
    (j : ℕ) → 1 ≤ j → j ≤ suc n → test j ≡ false
none_by test n (Some k) b eb e below j low high = absurd cc
none_by test n None true eb e below j low high = absurd cc
none_by test n None false eb e below j low high = none_split test n j eb (below refl) low (cases_lt j (suc n)) high

pub none_passes : (test : ℕ → Bool) (n : ℕ) → least_to test n ≡ None → (j : ℕ) → 1 ≤ j → j ≤ n → test j ≡ false
none_passes test zero e j low high = absurd (omega arith)
none_passes test (suc n) e j low high = none_by test n (least_to test n) _ refl (sym (least-more test n) ∙ e)
    (λ none. none_passes test n none) j low high

least_by : (test : ℕ → Bool) (n k : ℕ) (o : Option ℕ) (b : Bool) → least_to test n ≡ o → test (suc n) ≡ b → (o ≡ Some k → IsLeast test k)
    → or_else o (cond b (Some (suc n)) None) ≡ Some k → IsLeast test k
least_by test n k (Some j) b eo eb is e = is e
least_by test n k None true eo eb is e =
    let same : suc n ≡ k = cc in
    record { passes = ap test (sym same) ∙ eb; first = λ j low lt. none_passes test n eo j low (omega arith) }
least_by test n k None false eo eb is e = absurd cc

least_of_none : (test : ℕ → Bool) → least_to test 0 ≡ None
unfolding least_to one_to
least_of_none test = refl

pub least_is : (test : ℕ → Bool) (n k : ℕ) → least_to test n ≡ Some k → IsLeast test k
least_is test zero k e = let none : None ≡ Some k = sym (least_of_none test) ∙ e in absurd cc
least_is test (suc n) k e = least_by test n k _ _ refl refl (least_is test n k) (sym (least-more test n) ∙ e)

-- the least match, as the laws say it
pub least_match_is : (find : List ℕ → Bool) (text : List ℕ) (k : ℕ) → least_match find text ≡ Some k → IsLeastMatch find text k
unfolding least_match
least_match_is find text k e =
    let b = match-bounds find text k e in
    let is = least_is (λ j. find (take j text)) (min text_limit (length text)) k e in
    record { some_letters = b.0; within_text = b.1; within_limit = b.2; matches = is.passes; least = is.first }

pub no_match : (find : List ℕ → Bool) (text : List ℕ) → least_match find text ≡ None → (k : ℕ) → 1 ≤ k → k ≤ length text → k ≤ 1024
    → find (take k text) ≡ false
unfolding least_match
no_match find text e k low in_text in_limit = none_passes (λ j. find (take j text)) (min text_limit (length text)) e k low (omega arith)
