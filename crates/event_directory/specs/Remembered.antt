-- What is remembered of all event directories, and what it stands for.
use Rattle.std.specs.Prelude.{◌≡◌, ℕ, ◌+◌, ◌<◌, ◌≤◌, List, [], ◌∷◌, ◌++◌, Bool, Option, None, Some, All, map}
use Rattle.std.specs.Prelude.{if◌then◌else◌}
use Rattle.event_directory.specs.Changes.{Offer}
use Rattle.event_directory.specs.Directories.{WrittenDirectories, subscriptions_to, is_same_source, place_now}
use Rattle.event_directory.specs.Sending.{HaveHeard, KeptSubscription, new_kept_subscription}
use Rattle.event_directory.specs.declared.directory_plan.DirectoriesPlan.{DirectoriesPlan}
use Rattle.event_directory.specs.declared.source.Source.{Source}

-- what the subscriptions of a source have heard
pub record Followed : Type 0 where
  pub source : Source
  pub standing : List KeptSubscription

-- the names of the free directories, the serial and the source of each subscription, what the subscriptions of each source that
-- has any have heard, and the next serial
pub record DirectoriesShown : Type 0 where
  pub names : List (List ℕ)
  pub subscribers : List (ℕ × Source)
  pub followed : List Followed
  pub next : ℕ

-- what is there once the prepared step is made, without a subscription that it makes; and the source of that, if it makes one
pub record DirectoriesPrepared : Type 0 where
  pub shown : DirectoriesShown
  pub joins : Option Source

-- nothing is prepared: what is there stays
abbrev pub nothing_prepared : DirectoriesShown → DirectoriesPrepared
nothing_prepared s = record { shown = s; joins = None }

-- what is there now, what is prepared, and the number of the plan of it
pub record Remembered : Type 0 where
  pub shown : DirectoriesShown
  pub prepared : DirectoriesPrepared
  pub number : ℕ

-- the number of a plan
abbrev pub plan_number : {A : Type 0} → DirectoriesPlan A → ℕ
plan_number plan = plan.number

-- what the subscriptions of this source have heard
abbrev pub kept_at : Source → List Followed → List KeptSubscription
kept_at source [] = []
kept_at source (f ∷ fs) = if is_same_source source f.source then f.standing else kept_at source fs

-- with one more subscription to this source
abbrev pub with_subscription_at : Source → KeptSubscription → List Followed → List Followed
with_subscription_at source one [] = record { source = source; standing = one ∷ [] } ∷ []
with_subscription_at source one (f ∷ fs) =
    if is_same_source source f.source then (record { source = f.source; standing = f.standing ++ one ∷ [] } ∷ fs)
    else (f ∷ with_subscription_at source one fs)

-- with a new subscription to this source
abbrev pub with_subscription_to : Source → List ℕ × Bool → DirectoriesShown → DirectoriesShown
with_subscription_to source offer s = record {
  names = s.names;
  subscribers = s.subscribers ++ (s.next, source) ∷ [];
  followed = with_subscription_at source (new_kept_subscription s.next offer.0 offer.1) s.followed;
  next = s.next + 1;
}

-- with a new subscription to this source, if there is one and a pattern is offered
abbrev pub with_subscription_by : Option Source → Offer → DirectoriesShown → DirectoriesShown
with_subscription_by None offer s = s
with_subscription_by (Some source) None s = s
with_subscription_by (Some source) (Some offer) s = with_subscription_to source offer s

-- what is there once the prepared step is made, with the pattern that is offered
abbrev pub directories_after_commit : DirectoriesPrepared → Offer → DirectoriesShown
directories_after_commit p offer = with_subscription_by p.joins offer p.shown

-- what is shown remembers these directories: the subscriptions to each source have heard what their texts say
pub record AreHeard (test : List ℕ → List ℕ → Bool) (s : DirectoriesShown) (d : WrittenDirectories) : Type 0 where
  pub names : s.names ≡ map (λ f. f.name) d.free
  pub subscribers : s.subscribers ≡ map (λ p. (p.id, p.source)) d.subscriptions
  pub hears : (source : Source) → HaveHeard test (kept_at source s.followed) (subscriptions_to source d)
  pub placed : All (λ p. p.place ≤ place_now p.source d) d.subscriptions
  pub below : All (λ p. p.id < d.next) d.subscriptions
  pub next : d.next ≡ s.next
