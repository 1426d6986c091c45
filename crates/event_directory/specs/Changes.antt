-- One change of the event directories, after the moments of its step.
use Rattle.std.specs.Prelude.{ℕ, List, [], ◌∷◌, ◌++◌, ◌+◌, Bool, true, not, nat_le, Option, None, Some, length}
use Rattle.std.specs.Prelude.{if◌then◌else◌}
use Rattle.event_directory.specs.Directories.{WrittenDirectories, has_directory, has_subscription, after_message}
use Rattle.event_directory.specs.Directories.{matches_sent, new_subscription, subscriptions_without}
use Rattle.event_directory.specs.declared.directory_change.DirectoryAnswer.{DirectoryAnswer}
use Rattle.event_directory.specs.declared.directory_change.DirectoryAnswer.TheVariants as answer
use Rattle.event_directory.specs.declared.directory_change.DirectoryChange.{DirectoryChange}
use Rattle.event_directory.specs.declared.directory_change.DirectoryChange.TheVariants as wanted
use Rattle.event_directory.specs.declared.directory_change.DirectoryFault.{DirectoryFault}
use Rattle.event_directory.specs.declared.directory_change.DirectoryFault.TheVariants.{Exists, NoSuch, TooMany}
use Rattle.event_directory.specs.declared.hit.Hit.{Hit}
use Rattle.event_directory.specs.declared.source.Source.{Source}
use Rattle.event_directory.specs.declared.source.Source.TheVariants.{Service, Directory}

-- what is asked of the directories; a pattern is offered beside it
pub data DirectoryRequest : Type 0 where
  no_directory_request : DirectoryRequest
  make_directory : List ℕ → DirectoryRequest
  send : List ℕ → List ℕ → DirectoryRequest
  subscribe : Source → DirectoryRequest
  unsubscribe : ℕ → DirectoryRequest

-- the change that a caller hands in
abbrev pub directory_request_of : DirectoryChange → DirectoryRequest
directory_request_of wanted.Nothing = no_directory_request
directory_request_of (wanted.Make name) = make_directory name
directory_request_of (wanted.Send name message) = send name message.now
directory_request_of (wanted.Subscribe source) = subscribe source
directory_request_of (wanted.Unsubscribe id) = unsubscribe id

-- a pattern's text, and whether the subscription repeats
abbrev pub Offer : Type 0
Offer = Option (List ℕ × Bool)

-- whether a source is there: a free directory is there once it was made, and a service counts as there, since the caller looks for it
abbrev pub is_there : Source → WrittenDirectories → Bool
is_there (Service sid) d = true
is_there (Directory name) d = has_directory name d

-- the most free directories that stand, and the most subscriptions
abbrev pub directory_limit : ℕ
directory_limit = 256

abbrev pub subscription_limit : ℕ
subscription_limit = 256

-- why a request is refused, if it is
abbrev pub directory_refusal : DirectoryRequest → WrittenDirectories → Option DirectoryFault
directory_refusal no_directory_request d = None
directory_refusal (make_directory name) d =
    if has_directory name d then Some Exists else if nat_le directory_limit (length d.free) then Some TooMany else None
directory_refusal (send name letters) d = if has_directory name d then None else Some NoSuch
directory_refusal (subscribe source) d =
    if not (is_there source d) then Some NoSuch else if nat_le subscription_limit (length d.subscriptions)
    then Some TooMany else None
directory_refusal (unsubscribe id) d = if has_subscription id d then None else Some NoSuch

-- with one more subscription, where a pattern is offered
abbrev pub subscribed_to : Source → Offer → WrittenDirectories → WrittenDirectories
subscribed_to source None d = d
subscribed_to source (Some offer) d =
    record d { subscriptions = d.subscriptions ++ new_subscription source offer.0 offer.1 d ∷ []; next = d.next + 1 }

-- what is there once a request is done
abbrev pub with_request_done : DirectoryRequest → Offer → WrittenDirectories → WrittenDirectories
with_request_done no_directory_request offer d = d
with_request_done (make_directory name) offer d =
    record d { free = d.free ++ record { name = name; letters = [] } ∷ [] }
with_request_done (send name letters) offer d = after_message name d letters
with_request_done (subscribe source) offer d = subscribed_to source offer d
with_request_done (unsubscribe id) offer d = record d { subscriptions = subscriptions_without id d.subscriptions }

-- the hits that a request gives: a message is seen by the subscriptions of its directory
abbrev pub hits_of_request : (List ℕ → List ℕ → Bool) → DirectoryRequest → WrittenDirectories → List (ℕ × Hit)
hits_of_request test (send name letters) d = matches_sent test name d letters
hits_of_request test change d = []

-- how a request is answered
abbrev pub answer_of_request : DirectoryRequest → WrittenDirectories → DirectoryAnswer
answer_of_request (subscribe source) d = answer.Subscribed d.next
answer_of_request change d = answer.Done

-- the same three where the request may be refused
abbrev pub unless : {A : Type 0} → Option DirectoryFault → A → A → A
unless None one other = one
unless (Some fault) one other = other

abbrev pub directories_after_change : DirectoryRequest → Offer → WrittenDirectories → WrittenDirectories
directories_after_change change offer d = unless (directory_refusal change d) (with_request_done change offer d) d

abbrev pub matches_of : (List ℕ → List ℕ → Bool) → DirectoryRequest → WrittenDirectories → List (ℕ × Hit)
matches_of test change d = unless (directory_refusal change d) (hits_of_request test change d) []

abbrev pub refused_or : Option DirectoryFault → DirectoryAnswer → DirectoryAnswer
refused_or None answer_of_request = answer_of_request
refused_or (Some fault) answer_of_request = answer.Refused fault

abbrev pub directory_answer : DirectoryRequest → WrittenDirectories → DirectoryAnswer
directory_answer change d = refused_or (directory_refusal change d) (answer_of_request change d)
