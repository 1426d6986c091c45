-- A directory's subscriptions, and what letters give them.
use Rattle.std.specs.Prelude.{◌≡◌, ℕ, ◌==◌, List, [], ◌∷◌, ◌++◌, Bool, map, All, Option, None, Some, if◌then◌else◌}
use Rattle.std.specs.Prelude.{option_map}
use Rattle.std.specs.List.{filter_map}
use Rattle.s6_events.specs.Rising.{AreRising}
use Rattle.event_directory.specs.SubscriberList.{Heard, subscriber_list, list_with_letter, hit_between, live_with}
use Rattle.event_directory.specs.declared.hit.Hit.{Hit}
use Rattle.event_directory.specs.declared.sub_view.State.{State}

-- a subscription: its serial, the text of its pattern, whether it repeats, and the letters that were sent since it was made
pub record TextSubscription : Type 0 where
  pub id : ℕ
  pub pattern : List ℕ
  pub repeats : Bool
  pub text : List ℕ

-- a subscription as a directory stores it: its text is forgotten, but for what it may still match
pub record KeptSubscription : Type 0 where
  pub id : ℕ
  pub pattern : List ℕ
  pub repeats : Bool
  pub heard : Heard

-- what a subscription has heard; `test` says in which letters a pattern of some text finds a match
abbrev pub heard_of : (List ℕ → List ℕ → Bool) → TextSubscription → Heard
heard_of test s = subscriber_list (test s.pattern) s.repeats s.text

-- what is stored of a subscription
abbrev pub kept_subscription : (List ℕ → List ℕ → Bool) → TextSubscription → KeptSubscription
kept_subscription test s = record { id = s.id; pattern = s.pattern; repeats = s.repeats; heard = heard_of test s }

-- a subscription after these letters, behind its text
abbrev pub with_more_text : List ℕ → TextSubscription → TextSubscription
with_more_text letters s = record { id = s.id; pattern = s.pattern; repeats = s.repeats; text = s.text ++ letters }

-- the serials of subscriptions
abbrev pub subscription_serials : List TextSubscription → List ℕ
subscription_serials subscribed = map (λ s. s.id) subscribed

-- the serials of hits
abbrev pub hit_ids : List (ℕ × Hit) → List ℕ
hit_ids hits = map (λ h. h.0) hits

-- what is stored is what these subscriptions have heard
pub record HaveHeard (test : List ℕ → List ℕ → Bool) (stored : List KeptSubscription)
    (subscribed : List TextSubscription) : Type 0 where
  pub rising : AreRising (subscription_serials subscribed)
  pub stored_is : stored ≡ map (kept_subscription test) subscribed

-- the hit of a subscription by the letter x, which is sent after its text
abbrev pub hit_of_letter : (List ℕ → List ℕ → Bool) → ℕ → TextSubscription → Option (ℕ × Hit)
hit_of_letter test x s = option_map (λ h. (s.id, h))
    (hit_between x (heard_of test s) (heard_of test (with_more_text (x ∷ []) s)))

-- the hits of the letter x
abbrev pub hits_of_letter : (List ℕ → List ℕ → Bool) → ℕ → List TextSubscription → List (ℕ × Hit)
hits_of_letter test x subscribed = filter_map (hit_of_letter test x) subscribed

-- the hits of each of these letters
abbrev pub hits_of_letters : (List ℕ → List ℕ → Bool) → List ℕ → List TextSubscription → List (List (ℕ × Hit))
hits_of_letters test [] subscribed = []
hits_of_letters test (x ∷ xs) subscribed =
    hits_of_letter test x subscribed ∷ hits_of_letters test xs (map (with_more_text (x ∷ [])) subscribed)

-- a subscription that is made now
abbrev pub new_text_subscription : ℕ → List ℕ → Bool → TextSubscription
new_text_subscription id pattern repeats = record { id = id; pattern = pattern; repeats = repeats; text = [] }

-- the subscriptions that are left when the one of this serial is unsubscribed
abbrev pub left_without : ℕ → List TextSubscription → List TextSubscription
left_without id [] = []
left_without id (s ∷ ss) = if s.id == id then ss else (s ∷ left_without id ss)

-- what is stored of a subscription after one more letter
abbrev pub kept_with_letter : (List ℕ → List ℕ → Bool) → ℕ → KeptSubscription → KeptSubscription
kept_with_letter test x s = record {
  id = s.id;
  pattern = s.pattern;
  repeats = s.repeats;
  heard =
      list_with_letter (test s.pattern) s.repeats x s.heard;
}

-- its hit, by what is stored alone
abbrev pub hit_from : (List ℕ → List ℕ → Bool) → ℕ → KeptSubscription → Option (ℕ × Hit)
hit_from test x s = option_map (λ h. (s.id, h))
    (hit_between x s.heard (list_with_letter (test s.pattern) s.repeats x s.heard))

-- what is stored after one more letter
abbrev pub after_letter : (List ℕ → List ℕ → Bool) → ℕ → List KeptSubscription → List KeptSubscription
after_letter test x stored = map (kept_with_letter test x) stored

-- the hits of that letter, by what is stored alone
abbrev pub hits_from : (List ℕ → List ℕ → Bool) → ℕ → List KeptSubscription → List (ℕ × Hit)
hits_from test x stored = filter_map (hit_from test x) stored

-- what is stored after several letters
abbrev pub after_letters : (List ℕ → List ℕ → Bool) → List ℕ → List KeptSubscription → List KeptSubscription
after_letters test [] stored = stored
after_letters test (x ∷ xs) stored = after_letters test xs (after_letter test x stored)

-- the hits of each of them, by what is stored alone
abbrev pub hits_from_letters : (List ℕ → List ℕ → Bool) → List ℕ → List KeptSubscription → List (List (ℕ × Hit))
hits_from_letters test [] stored = []
hits_from_letters test (x ∷ xs) stored =
    hits_from test x stored ∷ hits_from_letters test xs (after_letter test x stored)

-- what is stored of a subscription that is made now
abbrev pub new_kept_subscription : ℕ → List ℕ → Bool → KeptSubscription
new_kept_subscription id pattern repeats =
    record { id = id; pattern = pattern; repeats = repeats; heard = live_with [] }

-- all but the first subscription of this serial
abbrev pub kept_without : ℕ → List KeptSubscription → List KeptSubscription
kept_without id [] = []
kept_without id (s ∷ ss) = if s.id == id then ss else (s ∷ kept_without id ss)

-- the list and the state of the subscription of this serial
abbrev pub view_of : ℕ → List KeptSubscription → Option (List ℕ × State)
view_of id [] = None
view_of id (s ∷ ss) = if s.id == id then Some (s.heard.letters, s.heard.state) else view_of id ss

-- what `send` gives and leaves, for the subscriptions that the directory had
pub record Sends (test : List ℕ → List ℕ → Bool) (new : List KeptSubscription) (x : ℕ)
    (subscribed : List TextSubscription) (hits : List (ℕ × Hit)) : Type 0 where
  pub hits_are : hits ≡ hits_of_letter test x subscribed
  pub rising : AreRising (hit_ids hits)
  pub hears : HaveHeard test new (map (with_more_text (x ∷ [])) subscribed)

-- what `prepare` gives and prepares, for the subscriptions that the directory has
pub record Prepares (test : List ℕ → List ℕ → Bool) (prepared : List KeptSubscription) (letters : List ℕ)
    (subscribed : List TextSubscription) (plan : List (List (ℕ × Hit))) : Type 0 where
  pub hits_are : plan ≡ hits_of_letters test letters subscribed
  pub rising : All (λ hits. AreRising (hit_ids hits)) plan
  pub hears : HaveHeard test prepared (map (with_more_text letters) subscribed)
