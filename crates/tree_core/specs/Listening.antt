-- What an act asks of those who listen, the waiters and the event directories, and what a step tells of them.
use Rattle.std.specs.Prelude.{ℕ, List, [], Option, None, Some, option_map, option_to_list}
use Rattle.event_directory.specs.Changes.{DirectoryRequest}
use Rattle.event_directory.specs.Changes.DirectoryRequest.{no_directory_request, send, subscribe}
use Rattle.event_directory.specs.declared.directory_change.DirectoryFault.{DirectoryFault}
use Rattle.event_directory.specs.declared.directory_change.DirectoryFault.TheVariants as fault
use Rattle.event_directory.specs.declared.hit.Hit.{Hit}
use Rattle.event_directory.specs.declared.source.Source.{Source}
use Rattle.wait_conditions.specs.declared.verdict.WaitState.TheVariants.{Waiting}
use Rattle.wait_conditions.specs.declared.verdict.Verdict.{Verdict}
use Rattle.wait_conditions.specs.Verdict.{WaitTerms}
use Rattle.wait_conditions.specs.Watch.{Watch, after_add, after_cancel, new_waiter, new_release, waiter_state}
use Rattle.tree_core.specs.declared.effect.Match.{Match}
use Rattle.tree_core.specs.declared.effect.Release.{Release}
use Rattle.tree_core.specs.declared.input.Target.{Target}
use Rattle.tree_core.specs.declared.input.Target.TheVariants as target
use Rattle.tree_core.specs.declared.reply.Refusal.{Refusal}
use Rattle.tree_core.specs.declared.reply.Refusal.TheVariants.{TooMany, NoSuch, Exists}

-- what is asked of the waiters
pub data Ask : Type 0 where
  same : Ask
  add_waiter : WaitTerms → Ask
  cancel_waiter : ℕ → Ask

-- nothing where the act is refused, and else this
abbrev pub ask_unless : Option Refusal → Ask → Ask
ask_unless None ask = ask
ask_unless (Some why) ask = same

-- the waiters once that is done
abbrev pub watch_after : Ask → Watch → Watch
watch_after same w = w
watch_after (add_waiter asked) w = after_add w asked
watch_after (cancel_waiter id) w = after_cancel w id

-- a waiter with its verdict, where it has one
abbrev pub release_of_new : ℕ → Option Verdict → List (ℕ × Verdict)
release_of_new id verdict = option_to_list (option_map (λ v. (id, v)) verdict)

-- the release of the waiter that is made, where its verdict over no moment is no longer waiting
abbrev pub released_at_once : Ask → Watch → List (ℕ × Verdict)
released_at_once (add_waiter asked) w =
    release_of_new w.next (new_release Waiting (waiter_state w.history (new_waiter w asked)))
released_at_once ask w = []

-- a release, as an effect has it
abbrev pub as_release : ℕ × Verdict → Release
as_release r = record { waiter = r.0; verdict = r.1 }

-- a subscription to the source that was found, if one was found
abbrev pub subscribe_found : Option Source → DirectoryRequest
subscribe_found None = no_directory_request
subscribe_found (Some source) = subscribe source

-- a message to a free directory; a service's directory takes none
abbrev pub send_to : Target → List ℕ → DirectoryRequest
send_to (target.Service name) letters = no_directory_request
send_to (target.Directory name) letters = send name letters

-- why the directories refuse, as a reply has it
abbrev pub as_refusal : DirectoryFault → Refusal
as_refusal fault.NoSuch = NoSuch
as_refusal fault.TooMany = TooMany
as_refusal fault.Exists = Exists

-- a hit of a subscription, as an effect has it
abbrev pub as_match : ℕ × Hit → Match
as_match h = record { subscription = h.0; hit = h.1 }
