-- What one change, or the moments of a step, make of what is stored of all event directories.
use Rattle.std.specs.Prelude.{ℕ, ◌==◌, List, [], Bool, true, not, Option, None, Some}
use Rattle.std.specs.Prelude.{bytes_eq, length, nat_le, if◌then◌else◌}
use Rattle.std.specs.List.{list_any}
use Rattle.s6_events.specs.declared.moment.Moment.{Moment}
use Rattle.event_directory.specs.Changes.{DirectoryRequest, directory_limit, subscription_limit, unless, refused_or}
use Rattle.event_directory.specs.Changes.DirectoryRequest.{no_directory_request, make_directory, send, subscribe}
use Rattle.event_directory.specs.Changes.DirectoryRequest.{unsubscribe}
use Rattle.event_directory.specs.Hearing.{heard_message, hits_of_message, heard_moments}
use Rattle.event_directory.specs.Remembered.{DirectoriesShown, DirectoriesPrepared, kept_at}
use Rattle.event_directory.specs.Sending.{view_of}
use Rattle.event_directory.specs.declared.directory_change.DirectoryAnswer.{DirectoryAnswer}
use Rattle.event_directory.specs.declared.directory_change.DirectoryAnswer.TheVariants as answer
use Rattle.event_directory.specs.declared.directory_change.DirectoryFault.{DirectoryFault}
use Rattle.event_directory.specs.declared.directory_change.DirectoryFault.TheVariants.{Exists, NoSuch, TooMany}
use Rattle.event_directory.specs.declared.hit.Hit.{Hit}
use Rattle.event_directory.specs.declared.source.Source.{Source}
use Rattle.event_directory.specs.declared.source.Source.TheVariants.{Service, Directory}
use Rattle.event_directory.specs.declared.sub_view.State.{State}
use Rattle.event_directory.specs.Register.{source_of, without_subscription_by, with_free_name, with_followed}

-- whether a source is there
abbrev pub is_source_named : Source → List (List ℕ) → Bool
is_source_named (Service sid) names = true
is_source_named (Directory name) names = list_any (bytes_eq name) names

-- why a change is refused, by the names and the subscribers
abbrev pub stored_refusal : DirectoryRequest → List (List ℕ) → List (ℕ × Source) → Option DirectoryFault
stored_refusal no_directory_request names subscribers = None
stored_refusal (make_directory name) names subscribers =
    if list_any (bytes_eq name) names then Some Exists else if nat_le directory_limit (length names) then Some TooMany
    else None
stored_refusal (send name letters) names subscribers = if list_any (bytes_eq name) names then None else Some NoSuch
stored_refusal (subscribe source) names subscribers =
    if not (is_source_named source names) then Some NoSuch else if nat_le subscription_limit (length subscribers)
    then Some TooMany else None
stored_refusal (unsubscribe id) names subscribers = if list_any (λ s. s.0 == id) subscribers then None else Some NoSuch

-- the subscription of this serial ends, if there is one
abbrev pub without_subscription_of : Option Source → ℕ → DirectoriesShown → DirectoriesShown
without_subscription_of None id s = s
without_subscription_of (Some source) id s = without_subscription_by id source s

-- what a change that is not refused prepares
abbrev pub stored_change : (List ℕ → List ℕ → Bool) → DirectoryRequest → DirectoriesShown → DirectoriesPrepared
stored_change test no_directory_request s = record { shown = s; joins = None }
stored_change test (make_directory name) s = record { shown = with_free_name name s; joins = None }
stored_change test (send name letters) s =
    record { shown = with_followed (heard_message test name letters s.followed) s; joins = None }
stored_change test (subscribe source) s = record { shown = s; joins = Some source }
stored_change test (unsubscribe id) s =
    record { shown = without_subscription_of (source_of id s.subscribers) id s; joins = None }

-- the hits that it gives
abbrev pub stored_given : (List ℕ → List ℕ → Bool) → DirectoryRequest → DirectoriesShown → List (ℕ × Hit)
stored_given test (send name letters) s = hits_of_message test name letters s.followed
stored_given test change s = []

-- how it is answered
abbrev pub stored_told : DirectoryRequest → DirectoriesShown → DirectoryAnswer
stored_told (subscribe source) s = answer.Subscribed s.next
stored_told change s = answer.Done

-- the same of any change, which may be refused
abbrev pub refusal_in : DirectoryRequest → DirectoriesShown → Option DirectoryFault
refusal_in change s = stored_refusal change s.names s.subscribers

abbrev pub prepared_change : (List ℕ → List ℕ → Bool) → DirectoryRequest → DirectoriesShown → DirectoriesPrepared
prepared_change test change s = unless (refusal_in change s) (stored_change test change s)
    (record { shown = s; joins = None })

abbrev pub given_change : (List ℕ → List ℕ → Bool) → DirectoryRequest → DirectoriesShown → List (ℕ × Hit)
given_change test change s = unless (refusal_in change s) (stored_given test change s) []

abbrev pub told_change : DirectoryRequest → DirectoriesShown → DirectoryAnswer
told_change change s = refused_or (refusal_in change s) (stored_told change s)

-- what is there after the moments of a step
abbrev pub after_step : (List ℕ → List ℕ → Bool) → List Moment → DirectoriesShown → DirectoriesShown
after_step test moments s = with_followed (heard_moments test moments s.followed) s

-- what is prepared by these moments and then this request
abbrev pub prepared_step : (List ℕ → List ℕ → Bool) → List Moment → DirectoryRequest → DirectoriesShown → DirectoriesPrepared
prepared_step test moments request s = prepared_change test request (after_step test moments s)

-- the list and the state of the subscription of this serial and this source
abbrev pub view_at : Option Source → ℕ → DirectoriesShown → Option (List ℕ × State)
view_at None id s = None
view_at (Some source) id s = view_of id (kept_at source s.followed)

abbrev pub view_in : ℕ → DirectoriesShown → Option (List ℕ × State)
view_in id s = view_at (source_of id s.subscribers) id s
