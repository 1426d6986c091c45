-- What a directory shows of a subscription.
use Rattle.std.specs.Prelude.{ℕ, ◌==◌, List, [], ◌∷◌, Bool, Option, None, Some, if◌then◌else◌}
use Rattle.event_directory.specs.Sending.{TextSubscription, heard_of}
use Rattle.event_directory.specs.declared.sub_view.State.{State}

-- what the subscription of this serial has heard, and its state
abbrev pub list_of_subscription : (List ℕ → List ℕ → Bool) → ℕ → List TextSubscription → Option (List ℕ × State)
list_of_subscription test id [] = None
list_of_subscription test id (s ∷ ss) =
    if s.id == id then Some ((heard_of test s).letters, (heard_of test s).state) else list_of_subscription test id ss
