-- What is stored is what the subscriptions have heard, and is so again after a letter.
use Rattle.event_directory.specs.declared.hit.Hit.{Hit}
use Rattle.std.proofs.Common.{true, false, cond, subst, ◌==◌, get_or, take, ◌<◌, ◌≡◌, ℕ, ◌+◌, List, [], ◌∷◌, ◌++◌, Bool, length}
use Rattle.std.proofs.Common.{map, All, refl, sym, ap, ◌∙◌, arith}
use Rattle.std.specs.List.{filter_map}
use Rattle.std.proofs.lemmas.List.{append-nil, append_assoc, map-append, take_more}
use Rattle.std.proofs.lemmas.List.Elements.{All-cons, All-head, All-tail}
use Rattle.s6_events.specs.Rising.{AreAbove, AreRising}
use Rattle.s6_events.proofs.Rising.{rising_push, rising_told}
use Rattle.event_directory.specs.SubscriberList.{list_with_letter, hit_between}
use Rattle.event_directory.specs.Sending.{TextSubscription, KeptSubscription, heard_of, kept_subscription, with_more_text, HaveHeard}
use Rattle.event_directory.specs.Sending.{subscription_serials, hit_ids, left_without, kept_without, Sends, Prepares, hit_of_letter}
use Rattle.event_directory.specs.Sending.{hits_of_letter, kept_with_letter, hit_from, after_letter, hits_from, new_kept_subscription}
use Rattle.event_directory.specs.Sending.{new_text_subscription, after_letters, hits_from_letters}
use Rattle.event_directory.proofs.Heard.{heard-next, heard-nothing}

heard_of-next : (test : List ℕ → List ℕ → Bool) (x : ℕ) (s : TextSubscription)
    → heard_of test (with_more_text (x ∷ []) s) ≡ list_with_letter (test s.pattern) s.repeats x (heard_of test s)
heard_of-next test x s = heard-next (test s.pattern) s.repeats x s.text

same_stored : (test : List ℕ → List ℕ → Bool) (x : ℕ) (ss : List TextSubscription)
    → map (kept_with_letter test x) (map (kept_subscription test) ss) ≡ map (kept_subscription test) (map (with_more_text (x ∷ [])) ss)
same_stored test x [] = refl
same_stored test x (s ∷ ss) = rw (heard_of-next test x s, same_stored test x ss) refl

same_hits : (test : List ℕ → List ℕ → Bool) (x : ℕ) (ss : List TextSubscription)
    → filter_map (hit_from test x) (map (kept_subscription test) ss) ≡ filter_map (hit_of_letter test x) ss
same_hits test x [] = refl
same_hits test x (s ∷ ss) = rw (heard_of-next test x s, same_hits test x ss) refl

-- letters change no serial
ids-grown : (letters : List ℕ) (ss : List TextSubscription) → subscription_serials (map (with_more_text letters) ss) ≡ subscription_serials ss
ids-grown letters [] = refl
ids-grown letters (s ∷ ss) = ap (λ l. s.id ∷ l) (ids-grown letters ss)

pub grown-nothing : (ss : List TextSubscription) → map (with_more_text []) ss ≡ ss
grown-nothing [] = refl
grown-nothing (s ∷ ss) = rw (append-nil s.text, grown-nothing ss) refl

grown-more : (x : ℕ) (xs : List ℕ) (ss : List TextSubscription)
    → map (with_more_text xs) (map (with_more_text (x ∷ [])) ss) ≡ map (with_more_text (x ∷ xs)) ss
grown-more x xs [] = refl
grown-more x xs (s ∷ ss) = rw (append_assoc s.text (x ∷ []) xs, grown-more x xs ss) refl

-- a letter more
pub hears_after : (test : List ℕ → List ℕ → Bool) (old new : List KeptSubscription) (x : ℕ) → new ≡ after_letter test x old →
    (subscribed : List TextSubscription) → HaveHeard test old subscribed → HaveHeard test new (map (with_more_text (x ∷ [])) subscribed)
hears_after test old new x e subscribed h = record {
  rising = subst AreRising (sym (ids-grown (x ∷ []) subscribed)) h.rising;
  stored_is = e ∙ ap (after_letter test x) h.stored_is ∙ same_stored test x subscribed;
}

pub hits_as_defined : (test : List ℕ → List ℕ → Bool) (old : List KeptSubscription) (x : ℕ) (hits : List (ℕ × Hit)) → hits ≡ hits_from test x old →
    (subscribed : List TextSubscription) → HaveHeard test old subscribed → hits ≡ hits_of_letter test x subscribed
hits_as_defined test old x hits e subscribed h = e ∙ ap (hits_from test x) h.stored_is ∙ same_hits test x subscribed

-- the hits are in rising serial, as the subscriptions are
pub rising_hits : (test : List ℕ → List ℕ → Bool) (x : ℕ) (ss : List TextSubscription) → AreRising (subscription_serials ss)
    → AreRising (hit_ids (hits_of_letter test x ss))
rising_hits test x ss rising = rising_told (λ s. s.id) (λ s. hit_between x (heard_of test s) (heard_of test (with_more_text (x ∷ []) s))) ss rising

-- all at once, as `send` says
pub sends : (test : List ℕ → List ℕ → Bool) (old new : List KeptSubscription) (x : ℕ) (hits : List (ℕ × Hit)) → hits ≡ hits_from test x old
    → new ≡ after_letter test x old →
    (subscribed : List TextSubscription) → HaveHeard test old subscribed → Sends test new x subscribed hits
sends test old new x hits eh en subscribed h =
    let same : hits ≡ hits_of_letter test x subscribed = hits_as_defined test old x hits eh subscribed h in
    record {
      hits_are = same;
      rising = subst (λ l. AreRising (hit_ids l)) (sym same) (rising_hits test x subscribed h.rising);
      hears =
          hears_after test old new x en subscribed h;
    }

-- all at once, as `prepare` says
pub prepares : (test : List ℕ → List ℕ → Bool) (xs : List ℕ) (old new : List KeptSubscription) (plan : List (List (ℕ × Hit)))
    → plan ≡ hits_from_letters test xs old → new ≡ after_letters test xs old →
    (subscribed : List TextSubscription) → HaveHeard test old subscribed → Prepares test new xs subscribed plan
prepares test [] old new plan ep en subscribed h = record {
  hits_are = ep;
  rising = subst (All (λ hits. AreRising (hit_ids hits))) (sym ep) (λ k d lt. absurd (omega arith));
  hears = record {
    rising = subst AreRising (sym (ids-grown [] subscribed)) h.rising;
    stored_is = en ∙ h.stored_is ∙ ap (map (kept_subscription test)) (sym (grown-nothing subscribed));
  };
}
prepares test (x ∷ xs) old new plan ep en subscribed h =
    let one : Sends test (after_letter test x old) x subscribed (hits_from test x old) =
    sends test old (after_letter test x old) x (hits_from test x old) refl refl subscribed h in
    let more : Prepares test new xs (map (with_more_text (x ∷ [])) subscribed) (hits_from_letters test xs (after_letter test x old)) =
    prepares test xs (after_letter test x old) new (hits_from_letters test xs (after_letter test x old)) refl en
    (map (with_more_text (x ∷ [])) subscribed) one.hears in
    record {
      hits_are = ep ∙ ap (λ l. l ∷ hits_from_letters test xs (after_letter test x old)) one.hits_are
          ∙ ap (λ l. hits_of_letter test x subscribed ∷ l) more.hits_are;
      rising = subst (All (λ hits. AreRising (hit_ids hits))) (sym ep)
          (All-cons (λ hits. AreRising (hit_ids hits)) (hits_from test x old)
          (hits_from_letters test xs (after_letter test x old)) one.rising more.rising);
      hears = subst (HaveHeard test new) (grown-more x xs subscribed) more.hears;
    }

-- serials that are below those of all that is stored
ids_below : (test : List ℕ → List ℕ → Bool) (id : ℕ) (ss : List TextSubscription) → All (λ s. s.id < id) (map (kept_subscription test) ss)
    → All (λ s. s.id < id) ss
ids_below test id [] below = λ k d lt. absurd (omega arith)
ids_below test id (s ∷ ss) below = All-cons (λ (s : TextSubscription). s.id < id) s ss
    (All-head (λ (s : KeptSubscription). s.id < id) (kept_subscription test s) (map (kept_subscription test) ss) below)
    (ids_below test id ss (All-tail (λ (s : KeptSubscription). s.id < id) (kept_subscription test s) (map (kept_subscription test) ss) below))

-- one is unsubscribed
left_above_by : (n id : ℕ) (s : TextSubscription) (ss : List TextSubscription) (b : Bool) → n < s.id → AreAbove n (subscription_serials ss)
    → AreAbove n (subscription_serials (left_without id ss)) → AreAbove n (subscription_serials (cond b ss (s ∷ left_without id ss)))
left_above_by n id s ss true lt above rest = above
left_above_by n id s ss false lt above rest = (lt, rest)

left_above : (n id : ℕ) (ss : List TextSubscription) → AreAbove n (subscription_serials ss) → AreAbove n (subscription_serials (left_without id ss))
left_above n id [] above = tt
left_above n id (s ∷ ss) above = left_above_by n id s ss (s.id == id) above.0 above.1 (left_above n id ss above.1)

left_rising_by : (id : ℕ) (s : TextSubscription) (ss : List TextSubscription) (b : Bool) → AreAbove s.id (subscription_serials ss)
    → AreRising (subscription_serials ss) → AreRising (subscription_serials (left_without id ss))
    → AreRising (subscription_serials (cond b ss (s ∷ left_without id ss)))
left_rising_by id s ss true above rising rest = rising
left_rising_by id s ss false above rising rest = (left_above s.id id ss above, rest)

left_rising : (id : ℕ) (ss : List TextSubscription) → AreRising (subscription_serials ss) → AreRising (subscription_serials (left_without id ss))
left_rising id [] rising = tt
left_rising id (s ∷ ss) rising = left_rising_by id s ss (s.id == id) rising.0 rising.1 (left_rising id ss rising.1)

left_stored_by : (test : List ℕ → List ℕ → Bool) (id : ℕ) (s : TextSubscription) (ss : List TextSubscription) (b : Bool)
    → kept_without id (map (kept_subscription test) ss) ≡ map (kept_subscription test) (left_without id ss) →
    cond b (map (kept_subscription test) ss) (kept_subscription test s ∷ kept_without id (map (kept_subscription test) ss))
    ≡ map (kept_subscription test) (cond b ss (s ∷ left_without id ss))
left_stored_by test id s ss true rest = refl
left_stored_by test id s ss false rest = ap (λ l. kept_subscription test s ∷ l) rest

left_stored : (test : List ℕ → List ℕ → Bool) (id : ℕ) (ss : List TextSubscription)
    → kept_without id (map (kept_subscription test) ss) ≡ map (kept_subscription test) (left_without id ss)
left_stored test id [] = refl
left_stored test id (s ∷ ss) = left_stored_by test id s ss (s.id == id) (left_stored test id ss)

pub hears_left : (test : List ℕ → List ℕ → Bool) (old new : List KeptSubscription) (id : ℕ) → new ≡ kept_without id old →
    (subscribed : List TextSubscription) → HaveHeard test old subscribed → HaveHeard test new (left_without id subscribed)
hears_left test old new id e subscribed h = record {
  rising = left_rising id subscribed h.rising;
  stored_is = e ∙ ap (kept_without id) h.stored_is ∙ left_stored test id subscribed;
}

-- a subscription that is made now
pub hears_joined : (test : List ℕ → List ℕ → Bool) (old new : List KeptSubscription) (id : ℕ) (pattern : List ℕ) (repeats : Bool)
    → All (λ s. s.id < id) old → new ≡ old ++ new_kept_subscription id pattern repeats ∷ [] →
    (subscribed : List TextSubscription) → HaveHeard test old subscribed
    → HaveHeard test new (subscribed ++ new_text_subscription id pattern repeats ∷ [])
hears_joined test old new id pattern repeats below e subscribed h = record {
  rising = subst AreRising (sym (map-append (λ s. s.id) subscribed (new_text_subscription id pattern repeats ∷ [])))
      (rising_push (λ s. s.id) id subscribed h.rising (ids_below test id subscribed (subst (λ l. All (λ s. s.id < id) l) h.stored_is below)));
  stored_is = e ∙ ap (λ l. l ++ new_kept_subscription id pattern repeats ∷ []) h.stored_is
      ∙ ap (λ z. map (kept_subscription test) subscribed ++ record { id = id; pattern = pattern; repeats = repeats; heard = z } ∷ [])
      (sym (heard-nothing (test pattern) repeats))
      ∙ sym (map-append (kept_subscription test) subscribed (new_text_subscription id pattern repeats ∷ []));
}

-- one letter more in a step
pub after_letters-more : (test : List ℕ → List ℕ → Bool) (xs : List ℕ) (x : ℕ) (stored : List KeptSubscription)
    → after_letters test (xs ++ x ∷ []) stored ≡ after_letter test x (after_letters test xs stored)
after_letters-more test [] x stored = refl
after_letters-more test (y ∷ ys) x stored = after_letters-more test ys x (after_letter test y stored)

pub hits_from_letters-more : (test : List ℕ → List ℕ → Bool) (xs : List ℕ) (x : ℕ) (stored : List KeptSubscription) →
    hits_from_letters test (xs ++ x ∷ []) stored ≡ hits_from_letters test xs stored ++ hits_from test x (after_letters test xs stored) ∷ []
hits_from_letters-more test [] x stored = refl
hits_from_letters-more test (y ∷ ys) x stored =
    ap (λ l. hits_from test y stored ∷ l) (hits_from_letters-more test ys x (after_letter test y stored))

next_taken : (xs : List ℕ) (i x : ℕ) → i < length xs → x ≡ get_or xs i x → take (i + 1) xs ≡ take i xs ++ x ∷ []
next_taken xs i x lt is = take_more xs i x lt ∙ ap (λ y. take i xs ++ y ∷ []) (sym is)

pub more_letters : (test : List ℕ → List ℕ → Bool) (xs : List ℕ) (i x : ℕ) → i < length xs → x ≡ get_or xs i x
    → (start now then : List KeptSubscription) → now ≡ after_letters test (take i xs) start →
    then ≡ after_letter test x now → then ≡ after_letters test (take (i + 1) xs) start
more_letters test xs i x lt is start now then en et =
    et ∙ ap (after_letter test x) en ∙ sym (after_letters-more test (take i xs) x start)
    ∙ ap (λ l. after_letters test l start) (sym (next_taken xs i x lt is))

pub more_hits : (test : List ℕ → List ℕ → Bool) (xs : List ℕ) (i x : ℕ) → i < length xs → x ≡ get_or xs i x
    → (start now : List KeptSubscription) (hits : List (List (ℕ × Hit))) (one : List (ℕ × Hit)) →
    now ≡ after_letters test (take i xs) start → hits ≡ hits_from_letters test (take i xs) start → one ≡ hits_from test x now →
    hits ++ one ∷ [] ≡ hits_from_letters test (take (i + 1) xs) start
more_hits test xs i x lt is start now hits one en eh eo =
    ap (λ h. h ++ one ∷ []) eh ∙ ap (λ o. hits_from_letters test (take i xs) start ++ o ∷ []) (eo ∙ ap (hits_from test x) en)
    ∙ sym (hits_from_letters-more test (take i xs) x start) ∙ ap (λ l. hits_from_letters test l start) (sym (next_taken xs i x lt is))
