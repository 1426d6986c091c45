-- What is shown of a subscription is what it has heard.
use Rattle.std.proofs.Common.{◌≡◌, ℕ, List, [], ◌∷◌, Bool, Option, map, refl, ap, ◌∙◌}
use Rattle.event_directory.specs.Sending.{TextSubscription, KeptSubscription, kept_subscription, HaveHeard, view_of}
use Rattle.event_directory.specs.Views.{list_of_subscription}
use Rattle.event_directory.specs.declared.sub_view.State.{State}

pub list_stored : (test : List ℕ → List ℕ → Bool) (id : ℕ) (ss : List TextSubscription)
    → view_of id (map (kept_subscription test) ss) ≡ list_of_subscription test id ss
list_stored test id [] = refl
list_stored test id (s ∷ ss) = rw (list_stored test id ss) refl

pub lists_as_defined : (test : List ℕ → List ℕ → Bool) (old : List KeptSubscription) (id : ℕ) (o : Option (List ℕ × State)) → o ≡ view_of id old →
    (subscribed : List TextSubscription) → HaveHeard test old subscribed → o ≡ list_of_subscription test id subscribed
lists_as_defined test old id o e subscribed h = e ∙ ap (view_of id) h.stored_is ∙ list_stored test id subscribed
