-- What is stored of all event directories.
use Rattle.std.specs.Prelude.{◌≡◌, ℕ, ◌<◌, ◌^◌, ◌==◌, List, [], ◌∷◌, ◌++◌, not, Option, None, Some}
use Rattle.std.specs.Prelude.{filter, map, if◌then◌else◌}
use Rattle.event_directory.specs.Directories.{is_same_source}
use Rattle.event_directory.specs.Parts.{room_at, IsAbsent}
use Rattle.event_directory.specs.Remembered.{Followed, DirectoriesShown, DirectoriesPrepared}
use Rattle.event_directory.specs.Sending.{KeptSubscription, kept_without}
use Rattle.event_directory.specs.declared.pending_step.PendingStep.{PendingStep}
use Rattle.event_directory.specs.declared.pending_step.PendingStep.TheVariants as pending
use Rattle.event_directory.specs.declared.source.Source.{Source}

-- the names of the free directories, the subscribers, what those of each source have heard and what they are prepared to hear,
-- the next serial, and how many more there is room for: subscriptions to each source, names, subscribers and sources
pub record Registered : Type 0 where
  pub names : List (List ℕ)
  pub subscribers : List (ℕ × Source)
  pub followed : List Followed
  pub prepared : List Followed
  pub next : ℕ
  pub rooms : List (Source × ℕ)
  pub name_room : ℕ
  pub subscriber_room : ℕ
  pub source_room : ℕ

-- what is there now
abbrev pub shown_in : Registered → DirectoriesShown
shown_in r = record { names = r.names; subscribers = r.subscribers; followed = r.followed; next = r.next }

-- what will be there once what is prepared is heard
abbrev pub prepared_in : Registered → DirectoriesShown
prepared_in r = record { names = r.names; subscribers = r.subscribers; followed = r.prepared; next = r.next }

-- all but what is prepared
abbrev pub without_prepared : Registered → Registered
without_prepared r = record r { prepared = [] }

-- all but what is heard and prepared
abbrev pub without_followed : Registered → Registered
without_followed r = record r { followed = []; prepared = [] }

-- the source of the subscription of this serial
abbrev pub source_of : ℕ → List (ℕ × Source) → Option Source
source_of id [] = None
source_of id (s ∷ ss) = if s.0 == id then Some s.1 else source_of id ss

-- all but the first subscriber of this serial
abbrev pub subscribers_without : ℕ → List (ℕ × Source) → List (ℕ × Source)
subscribers_without id [] = []
subscribers_without id (s ∷ ss) = if s.0 == id then ss else (s ∷ subscribers_without id ss)

-- those of all other sources
abbrev pub followed_others : Source → List Followed → List Followed
followed_others source fs = filter (λ f. not (is_same_source source f.source)) fs

-- a source that has no subscription left is not followed any more
abbrev pub followed_if : Source → List KeptSubscription → List Followed → List Followed
followed_if source [] fs = followed_others source fs
followed_if source (s ∷ ss) fs = record { source = source; standing = s ∷ ss } ∷ fs

-- the subscription of this serial and this source is ended
abbrev pub without_subscription_at : ℕ → Source → List Followed → List Followed
without_subscription_at id source [] = []
without_subscription_at id source (f ∷ fs) =
    if is_same_source source f.source then followed_if f.source (kept_without id f.standing) fs
    else (f ∷ without_subscription_at id source fs)

-- the same in all that is shown
abbrev pub without_subscription_by : ℕ → Source → DirectoriesShown → DirectoriesShown
without_subscription_by id source s = record {
  names = s.names;
  subscribers = subscribers_without id s.subscribers;
  followed = without_subscription_at id source s.followed;
  next = s.next;
}

-- with one more free directory, of this name
abbrev pub with_free_name : List ℕ → DirectoriesShown → DirectoriesShown
with_free_name name s = record {
  names = s.names ++ name ∷ [];
  subscribers = s.subscribers;
  followed =
      s.followed;
  next = s.next;
}

-- with this as what was heard
abbrev pub with_followed : List Followed → DirectoriesShown → DirectoriesShown
with_followed fs s = record { names = s.names; subscribers = s.subscribers; followed = fs; next = s.next }

-- what is prepared, where this change is left to be made
abbrev pub prepared_by_pending : {F A : Type 0} → PendingStep F A → DirectoriesShown → DirectoriesPrepared
prepared_by_pending pending.Nothing s = record { shown = s; joins = None }
prepared_by_pending (pending.Make name) s = record { shown = with_free_name name s; joins = None }
prepared_by_pending (pending.Join source) s = record { shown = s; joins = Some source }
prepared_by_pending (pending.Start directory) s = record { shown = s; joins = Some directory.source }
prepared_by_pending (pending.Unsubscribe id source) s =
    record { shown = without_subscription_by id source s; joins = None }

-- there is room for a subscription to a source that has a directory
pub record CanJoin (source : Source) (r : Registered) : Type 0 where
  pub subscriber : 0 < r.subscriber_room
  pub place : 0 < room_at source r.rooms
  pub next : r.next < 2 ^ 63

-- there is room for a subscription to a source that has no directory yet, in the new one that it gets
pub record CanStart (source : Source) (standing : List KeptSubscription) (room : ℕ) (r : Registered) : Type 0 where
  pub subscriber : 0 < r.subscriber_room
  pub directory : 0 < r.source_room
  pub place : 0 < room
  pub empty : standing ≡ []
  pub absent : IsAbsent source (map (λ x. x.0) r.rooms)
  pub next : r.next < 2 ^ 63

-- there is room for the change that is left to be made
abbrev pub HasRoom : {F A : Type 0} → PendingStep F A → Registered → Type 0
HasRoom pending.Nothing r = Unit {0}
HasRoom (pending.Make name) r = 0 < r.name_room
HasRoom (pending.Join source) r = CanJoin source r
HasRoom (pending.Start directory) r = CanStart directory.source directory.kept.standing directory.kept.room r
HasRoom (pending.Unsubscribe id source) r = Unit {0}
