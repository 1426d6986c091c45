-- What is remembered is so again once somebody subscribes, or a directory is made.
use Rattle.std.proofs.Common.{◌≡◌, ℕ, suc, ◌+◌, ◌<◌, ◌≤◌, List, [], ◌∷◌, ◌++◌, Bool, true, false, cond, length, drop, map, filter, get_or, All}
use Rattle.std.proofs.Common.{Some, refl, sym, ap, subst, ◌∙◌, arith}
use Rattle.std.proofs.lemmas.List.{append-nil, map-append, drop_all}
use Rattle.std.proofs.lemmas.List.Elements.{All-append, All-cons, All-nil, filter-append}
use Rattle.event_directory.specs.Changes.{subscribed_to}
use Rattle.event_directory.specs.Directories.{WrittenDirectories, WrittenSubscription, is_same_source, letters_of, sent_to, text_from, place_now}
use Rattle.event_directory.specs.Directories.{new_subscription, with_text, subscriptions_to}
use Rattle.event_directory.specs.Register.{with_free_name}
use Rattle.event_directory.specs.Remembered.{Followed, DirectoriesShown, kept_at, with_subscription_at, with_subscription_to, AreHeard}
use Rattle.event_directory.specs.Sending.{TextSubscription, KeptSubscription, HaveHeard, kept_subscription, new_kept_subscription}
use Rattle.event_directory.specs.Sending.{new_text_subscription}
use Rattle.event_directory.specs.declared.source.Source.{Source}
use Rattle.event_directory.specs.declared.source.Source.TheVariants.{Service, Directory}
use Rattle.event_directory.proofs.Firsts.{first_here, first_there}
use Rattle.event_directory.proofs.Letters.{nothing_heard}
use Rattle.event_directory.proofs.Sends.{hears_joined}
use Rattle.event_directory.proofs.Sources.{is_same_true}
use Rattle.event_directory.proofs.Texts.{Grow, sent_new}

joined_by : (one : KeptSubscription) (s source : Source) (f : Followed) (fs : List Followed) (b : Bool) → is_same_source source f.source ≡ b →
    kept_at s (with_subscription_at source one fs) ≡ cond (is_same_source s source) (kept_at s fs ++ one ∷ []) (kept_at s fs) →
    kept_at s (cond b (record { source = f.source; standing = f.standing ++ one ∷ [] } ∷ fs) (f ∷ with_subscription_at source one fs))
    ≡ cond (is_same_source s source) (kept_at s (f ∷ fs) ++ one ∷ []) (kept_at s (f ∷ fs))
joined_by one s source f fs true e ih =
    first_here (λ l. l ++ one ∷ []) f.standing (kept_at s fs) (is_same_source s f.source)
    ∙ ap (λ t. cond (is_same_source s t) (kept_at s (f ∷ fs) ++ one ∷ []) (kept_at s (f ∷ fs))) (sym (is_same_true source f.source e))
joined_by one s source f fs false e ih = first_there (λ l. l ++ one ∷ []) s source f.source f.standing _ (kept_at s fs)
    (is_same_source s f.source) refl e ih

standing_joined : (one : KeptSubscription) (s source : Source) (fs : List Followed)
    → kept_at s (with_subscription_at source one fs) ≡ cond (is_same_source s source) (kept_at s fs ++ one ∷ []) (kept_at s fs)
standing_joined one s source [] = refl
standing_joined one s source (f ∷ fs) = joined_by one s source f fs (is_same_source source f.source) refl (standing_joined one s source fs)

-- texts and places are of the moments and the free directories alone
abbrev pub with_subscriptions : WrittenDirectories → List WrittenSubscription → ℕ → WrittenDirectories
with_subscriptions d ps n = record d { subscriptions = ps; next = n }

text_alone : (s : Source) (place : ℕ) (d : WrittenDirectories) (ps : List WrittenSubscription) (n : ℕ)
    → text_from s place (with_subscriptions d ps n) ≡ text_from s place d
text_alone (Service sid) place d ps n = refl
text_alone (Directory name) place d ps n = refl

pub place_alone : (s : Source) (d : WrittenDirectories) (ps : List WrittenSubscription) (n : ℕ)
    → place_now s (with_subscriptions d ps n) ≡ place_now s d
place_alone (Service sid) d ps n = refl
place_alone (Directory name) d ps n = refl

pub hearing_alone : (d : WrittenDirectories) (ps : List WrittenSubscription) (n : ℕ) (qs : List WrittenSubscription)
    → map (with_text (with_subscriptions d ps n)) qs ≡ map (with_text d) qs
hearing_alone d ps n [] = refl
hearing_alone d ps n (q ∷ qs) = λ i. record { id = q.id; pattern = q.pattern; repeats = q.repeats; text = text_alone q.source q.place d ps n i }
    ∷ hearing_alone d ps n qs i

-- one that subscribes now has heard nothing
text_now : (source : Source) (d : WrittenDirectories) → text_from source (place_now source d) d ≡ []
text_now (Service sid) d = ap (letters_of sid) (drop_all (length d.history) d.history (omega arith))
text_now (Directory name) d = drop_all (length (sent_to name d.free)) (sent_to name d.free) (omega arith)

new_one : (source : Source) (pattern : List ℕ) (repeats : Bool) (d : WrittenDirectories) (n : ℕ) → d.next ≡ n
    → with_text d (new_subscription source pattern repeats d) ≡ new_text_subscription n pattern repeats
new_one source pattern repeats d n e = λ i. record { id = e i; pattern = pattern; repeats = repeats; text = text_now source d i }

below_by : (test : List ℕ → List ℕ → Bool) (d : WrittenDirectories) (n : ℕ) (p : WrittenSubscription) (ps : List WrittenSubscription) (b : Bool)
    → p.id < n → All (λ (s : KeptSubscription). s.id < n) (map (kept_subscription test) (map (with_text d) ps)) →
    All (λ (s : KeptSubscription). s.id < n) (map (kept_subscription test) (map (with_text d) (cond b (p ∷ ps) ps)))
below_by test d n p ps true lt rest = All-cons (λ (s : KeptSubscription). s.id < n) (kept_subscription test (with_text d p))
    (map (kept_subscription test) (map (with_text d) ps)) lt rest
below_by test d n p ps false lt rest = rest

below_heard : (test : List ℕ → List ℕ → Bool) (d : WrittenDirectories) (n : ℕ) (s : Source) (ps : List WrittenSubscription)
    → All (λ (p : WrittenSubscription). p.id < n) ps →
    All (λ (s : KeptSubscription). s.id < n) (map (kept_subscription test) (map (with_text d) (filter (λ p. is_same_source s p.source) ps)))
below_heard test d n s [] all = All-nil (λ (s : KeptSubscription). s.id < n)
below_heard test d n s (p ∷ ps) all =
    below_by test d n p (filter (λ p. is_same_source s p.source) ps) (is_same_source s p.source) (all 0 p (omega arith))
    (below_heard test d n s ps (λ k q lt. all (suc k) q (omega arith)))

hears_by : (test : List ℕ → List ℕ → Bool) (d : WrittenDirectories) (n : ℕ) (source : Source) (pattern : List ℕ) (repeats : Bool)
    (standing : List KeptSubscription) (heard : List TextSubscription) (b : Bool) → d.next ≡ n →
    All (λ (s : KeptSubscription). s.id < n) standing → HaveHeard test standing heard →
    HaveHeard test (cond b (standing ++ new_kept_subscription n pattern repeats ∷ []) standing)
    (heard ++ map (with_text d) (cond b (new_subscription source pattern repeats d ∷ []) []))
hears_by test d n source pattern repeats standing heard true e below h =
    subst (λ z. HaveHeard test (standing ++ new_kept_subscription n pattern repeats ∷ []) (heard ++ z ∷ []))
    (sym (new_one source pattern repeats d n e))
    (hears_joined test standing _ n pattern repeats below refl heard h)
hears_by test d n source pattern repeats standing heard false e below h = subst (HaveHeard test standing) (sym (append-nil heard)) h

module _ (test : List ℕ → List ℕ → Bool) (s : DirectoriesShown) (d : WrittenDirectories) (h : AreHeard test s d) where
  module _ (source : Source) (offer : List ℕ × Bool) where
    hearing_joined : (t : Source) → subscriptions_to t (subscribed_to source (Some offer) d)
        ≡ subscriptions_to t d ++ map (with_text d) (cond (is_same_source t source) (new_subscription source offer.0 offer.1 d ∷ []) [])
    hearing_joined t =
        hearing_alone d (d.subscriptions ++ new_subscription source offer.0 offer.1 d ∷ []) (d.next + 1)
        (filter (λ p. is_same_source t p.source) (d.subscriptions ++ new_subscription source offer.0 offer.1 d ∷ []))
        ∙ ap (map (with_text d)) (filter-append (λ p. is_same_source t p.source) d.subscriptions (new_subscription source offer.0 offer.1 d ∷ []))
        ∙ map-append (with_text d) (filter (λ p. is_same_source t p.source) d.subscriptions)
        (cond (is_same_source t source) (new_subscription source offer.0 offer.1 d ∷ []) [])

    pub joined_heard : AreHeard test (with_subscription_to source offer s) (subscribed_to source (Some offer) d)
    joined_heard = record {
      names = h.names;
      subscribers = ap (λ l. l ++ (s.next, source) ∷ []) h.subscribers
          ∙ ap (λ n. map (λ p. (p.id, p.source)) d.subscriptions ++ (n, source) ∷ []) (sym h.next)
          ∙ sym (map-append (λ p. (p.id, p.source)) d.subscriptions (new_subscription source offer.0 offer.1 d ∷ []));
      hears = λ t. subst (HaveHeard test (kept_at t (with_subscription_at source (new_kept_subscription s.next offer.0 offer.1) s.followed)))
          (sym (hearing_joined t))
          (subst (λ z. HaveHeard test z (subscriptions_to t d
          ++ map (with_text d) (cond (is_same_source t source) (new_subscription source offer.0 offer.1 d ∷ []) [])))
          (sym (standing_joined (new_kept_subscription s.next offer.0 offer.1) t source s.followed))
          (hears_by test d s.next source offer.0 offer.1 (kept_at t s.followed) (subscriptions_to t d) (is_same_source t source) h.next
          (subst (All (λ (x : KeptSubscription). x.id < s.next)) (sym (h.hears t).stored_is)
          (below_heard test d s.next t d.subscriptions (subst (λ n. All (λ (p : WrittenSubscription). p.id < n) d.subscriptions) h.next h.below)))
          (h.hears t)));
      placed = All-append (λ (p : WrittenSubscription). p.place ≤ place_now p.source (subscribed_to source (Some offer) d)) d.subscriptions
          (new_subscription source offer.0 offer.1 d ∷ [])
          (λ k q lt. omega (
            arith,
            h.placed k q lt,
            place_alone (get_or d.subscriptions k q).source d
                (d.subscriptions ++ new_subscription source offer.0 offer.1 d ∷ []) (d.next + 1),
          ))
          (All-cons (λ (p : WrittenSubscription). p.place ≤ place_now p.source (subscribed_to source (Some offer) d))
          (new_subscription source offer.0 offer.1 d) []
          (omega (arith, place_alone source d (d.subscriptions ++ new_subscription source offer.0 offer.1 d ∷ []) (d.next + 1)))
          (All-nil (λ (p : WrittenSubscription). p.place ≤ place_now p.source (subscribed_to source (Some offer) d))));
      below = All-append (λ (p : WrittenSubscription). p.id < d.next + 1) d.subscriptions (new_subscription source offer.0 offer.1 d ∷ [])
          (λ k q lt. omega (arith, h.below k q lt))
          (All-cons (λ (p : WrittenSubscription). p.id < d.next + 1) (new_subscription source offer.0 offer.1 d) [] (omega arith)
          (All-nil (λ (p : WrittenSubscription). p.id < d.next + 1)));
      next = ap (λ n. n + 1) h.next;
    }

  -- a new free directory has no letter, and nobody hears it
  new_grows : (name : List ℕ) → Grow d (record d { free = d.free ++ record { name = name; letters = [] } ∷ [] }) (λ t. [])
  new_grows name (Service sid) place le = sym (append-nil _)
  new_grows name (Directory n) place le = ap (drop place) (sent_new n name d.free) ∙ sym (append-nil _)

  new_places : (name : List ℕ) (t : Source) → place_now t d ≤ place_now t (record d { free = d.free ++ record { name = name; letters = [] } ∷ [] })
  new_places name (Service sid) = omega arith
  new_places name (Directory n) = omega (arith, ap length (sent_new n name d.free))

  pub made_heard : (name : List ℕ) → AreHeard test (with_free_name name s) (record d { free = d.free ++ record { name = name; letters = [] } ∷ [] })
  made_heard name =
      nothing_heard test s d d.history (d.free ++ record { name = name; letters = [] } ∷ []) h (s.names ++ name ∷ [])
      (ap (λ l. l ++ name ∷ []) h.names ∙ sym (map-append (λ f. f.name) d.free (record { name = name; letters = [] } ∷ [])))
      (new_grows name) (new_places name)
