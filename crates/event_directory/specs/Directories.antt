-- All event directories as they are written down: who hears which letters.
use Rattle.std.specs.Prelude.{ℕ, List, [], ◌∷◌, ◌++◌, ◌==◌, Bool, false, Option, option_map, bytes_eq, drop, filter}
use Rattle.std.specs.Prelude.{length, map, if◌then◌else◌}
use Rattle.std.specs.List.{filter_map, list_any}
use Rattle.s6_events.specs.Mark.{letter_of}
use Rattle.s6_events.specs.Newest.{mark_of}
use Rattle.s6_events.specs.declared.moment.Moment.{Moment}
use Rattle.s6_events.specs.declared.moment.Moment.TheVariants.{Clock, Event}
use Rattle.event_directory.specs.Sending.{TextSubscription, hits_of_letter}
use Rattle.event_directory.specs.Views.{list_of_subscription}
use Rattle.event_directory.specs.declared.hit.Hit.{Hit}
use Rattle.event_directory.specs.declared.source.Source.{Source}
use Rattle.event_directory.specs.declared.source.Source.TheVariants.{Service, Directory}
use Rattle.event_directory.specs.declared.sub_view.State.{State}

-- a free directory: its name, and all letters ever sent to it
pub record FreeDirectory : Type 0 where
  pub name : List ℕ
  pub letters : List ℕ

-- a subscription: its serial, whose letters it hears, the text of its pattern, whether it repeats, and its place: how many moments
-- of the history, or letters of its free directory, stood when it was made
pub record WrittenSubscription : Type 0 where
  pub id : ℕ
  pub source : Source
  pub pattern : List ℕ
  pub repeats : Bool
  pub place : ℕ

-- all moments, from which the letters of a service are read; the free directories in the order in which they were made; the
-- subscriptions in rising serial, and the next serial
pub record WrittenDirectories : Type 0 where
  pub history : List Moment
  pub free : List FreeDirectory
  pub subscriptions : List WrittenSubscription
  pub next : ℕ

-- no moment, no free directory and no subscription yet
abbrev pub new_directories : WrittenDirectories
new_directories = record { history = []; free = []; subscriptions = []; next = 1 }

-- the same service, or the same free directory
abbrev pub is_same_source : Source → Source → Bool
is_same_source (Service a) (Service b) = a == b
is_same_source (Directory a) (Directory b) = bytes_eq a b
is_same_source a b = false

-- the letters that a service's supervisors told in these moments
abbrev pub letters_of : ℕ → List Moment → List ℕ
letters_of sid moments = filter_map (λ m. option_map letter_of (mark_of sid m)) moments

-- the letters that were sent to the free directory of a name
abbrev pub sent_to : List ℕ → List FreeDirectory → List ℕ
sent_to name [] = []
sent_to name (f ∷ free) = if bytes_eq name f.name then f.letters else sent_to name free

-- the text of a subscription: the letters of its source since its place
abbrev pub text_from : Source → ℕ → WrittenDirectories → List ℕ
text_from (Service sid) place d = letters_of sid (drop place d.history)
text_from (Directory name) place d = drop place (sent_to name d.free)

abbrev pub with_text : WrittenDirectories → WrittenSubscription → TextSubscription
with_text d p = record { id = p.id; pattern = p.pattern; repeats = p.repeats; text = text_from p.source p.place d }

-- the subscriptions that hear a source, in rising serial
abbrev pub subscriptions_to : Source → WrittenDirectories → List TextSubscription
subscriptions_to source d = map (with_text d) (filter (λ p. is_same_source source p.source) d.subscriptions)

-- the list and the state of the subscription of this serial; `test` says in which letters a pattern of some text finds a match
abbrev pub list_named : (List ℕ → List ℕ → Bool) → ℕ → WrittenDirectories → Option (List ℕ × State)
list_named test id d = list_of_subscription test id (map (with_text d) d.subscriptions)

-- what one more moment gives: each subscription of that service sees the letter, in rising serial
abbrev pub matches_at : (List ℕ → List ℕ → Bool) → WrittenDirectories → Moment → List (ℕ × Hit)
matches_at test d (Clock at) = []
matches_at test d (Event sid mark) = hits_of_letter test (letter_of mark) (subscriptions_to (Service sid) d)

abbrev pub directories_after_moment : WrittenDirectories → Moment → WrittenDirectories
directories_after_moment d m = record d { history = d.history ++ m ∷ [] }

-- what moments give, one after the other
unfoldable pub matches_by : (List ℕ → List ℕ → Bool) → WrittenDirectories → List Moment → List (ℕ × Hit)
matches_by test d [] = []
matches_by test d (m ∷ ms) = matches_at test d m ++ matches_by test (directories_after_moment d m) ms

unfoldable pub directories_after_moments : WrittenDirectories → List Moment → WrittenDirectories
directories_after_moments d [] = d
directories_after_moments d (m ∷ ms) = directories_after_moments (directories_after_moment d m) ms

-- one more letter is sent to the free directory of a name
abbrev pub free_with_letter : List ℕ → ℕ → FreeDirectory → FreeDirectory
free_with_letter name x f = if bytes_eq name f.name then record f { letters = f.letters ++ x ∷ [] } else f

abbrev pub after_sent : List ℕ → WrittenDirectories → ℕ → WrittenDirectories
after_sent name d x = record d { free = map (free_with_letter name x) d.free }

-- what a message gives, letter by letter: each subscription of that directory sees the letter, in rising serial
unfoldable pub matches_sent : (List ℕ → List ℕ → Bool) → List ℕ → WrittenDirectories → List ℕ → List (ℕ × Hit)
matches_sent test name d [] = []
matches_sent test name d (x ∷ xs) =
    hits_of_letter test x (subscriptions_to (Directory name) d) ++ matches_sent test name (after_sent name d x) xs

unfoldable pub after_message : List ℕ → WrittenDirectories → List ℕ → WrittenDirectories
after_message name d [] = d
after_message name d (x ∷ xs) = after_message name (after_sent name d x) xs

-- whether a free directory has this name, and whether a subscription has this serial
abbrev pub has_directory : List ℕ → WrittenDirectories → Bool
has_directory name d = list_any (λ f. bytes_eq name f.name) d.free

abbrev pub has_subscription : ℕ → WrittenDirectories → Bool
has_subscription id d = list_any (λ p. p.id == id) d.subscriptions

-- how many moments, or letters of its free directory, a source has had
abbrev pub place_now : Source → WrittenDirectories → ℕ
place_now (Service sid) d = length d.history
place_now (Directory name) d = length (sent_to name d.free)

-- a subscription that is made now
abbrev pub new_subscription : Source → List ℕ → Bool → WrittenDirectories → WrittenSubscription
new_subscription source pattern repeats d =
    record { id = d.next; source = source; pattern = pattern; repeats = repeats; place = place_now source d }

-- the subscriptions that are left when the one of this serial is unsubscribed
abbrev pub subscriptions_without : ℕ → List WrittenSubscription → List WrittenSubscription
subscriptions_without id [] = []
subscriptions_without id (p ∷ ps) = if p.id == id then ps else (p ∷ subscriptions_without id ps)
