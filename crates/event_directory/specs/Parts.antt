-- What is stored of the event directories that are listened to.
use Rattle.std.specs.Prelude.{◌≡◌, ℕ, List, [], ◌∷◌, false, if◌then◌else◌}
use Rattle.std.specs.List.{list_any}
use Rattle.event_directory.specs.Directories.{is_same_source}
use Rattle.event_directory.specs.Remembered.{Followed}
use Rattle.event_directory.specs.Stored.{StoredDirectory}
use Rattle.event_directory.specs.declared.source.Source.{Source}

-- the event directory of a source: what is kept of its subscriptions
pub record Listened : Type 0 where
  pub source : Source
  pub kept : StoredDirectory

-- a source with its subscriptions, as they stand
abbrev pub followed_of : Listened → Followed
followed_of l = record { source = l.source; standing = l.kept.standing }

-- a source with its subscriptions, as they will stand once what is prepared is heard
abbrev pub followed_after : Listened → Followed
followed_after l = record { source = l.source; standing = l.kept.prepared }

-- a source, and for how many more subscriptions to it there is room
abbrev pub room_of : Listened → Source × ℕ
room_of l = (l.source, l.kept.room)

-- for how many more subscriptions to this source there is room
abbrev pub room_at : Source → List (Source × ℕ) → ℕ
room_at source [] = 0
room_at source (r ∷ rs) = if is_same_source source r.0 then r.1 else room_at source rs

-- this source is none of these
abbrev pub IsAbsent : Source → List Source → Type 0
IsAbsent source sources = list_any (is_same_source source) sources ≡ false

-- no source stands twice
abbrev pub AreDistinct : List Source → Type 0
AreDistinct [] = Unit {0}
AreDistinct (s ∷ ss) = IsAbsent s ss × AreDistinct ss
