-- How an act is answered, by what was chosen and done for it.
use Rattle.std.specs.Prelude.{ℕ, List, [], Bool, true, false, if◌then◌else◌, find, bytes_eq, option_map, Option}
use Rattle.event_directory.specs.declared.directory_change.DirectoryAnswer.{DirectoryAnswer}
use Rattle.event_directory.specs.declared.directory_change.DirectoryAnswer.TheVariants as directories
use Rattle.s6_events.specs.declared.exit.Exit.{Exit}
use Rattle.supervise_core.specs.Service.{Supervised}
use Rattle.svscan_core.specs.Work.{WorkResult}
use Rattle.tree_core.specs.declared.reply.Reply.{Reply}
use Rattle.tree_core.specs.declared.reply.Reply.TheVariants as answers
use Rattle.tree_core.specs.declared.reply.Refusal.TheVariants.{TooMany, NoSuch}
use Rattle.wait_conditions.specs.declared.verdict.Verdict.{Verdict}
use Rattle.wait_conditions.specs.declared.wait_change.WaitAnswer.{WaitAnswer}
use Rattle.wait_conditions.specs.declared.wait_change.WaitAnswer.TheVariants as waiter
use Rattle.tree_core.specs.Acts.{report_reply, tally_reply}
use Rattle.tree_core.specs.Listening.{as_refusal, release_of_new}
use Rattle.tree_core.specs.Choices.{Chosen}
use Rattle.tree_core.specs.Choices.Chosen.{refuse, report, listing, show, tally, failure, wait, cancel, ask_directories}

-- what the waiters and the event directories answered
pub record ListenersAnswer : Type 0 where
  pub waiters : WaitAnswer
  pub directories : DirectoryAnswer

-- the deaths that the service of a name has in its tally
abbrev pub tally_in : List ℕ → List Supervised → Option (List (ℕ × Exit))
tally_in name services = option_map (λ s. s.tally.kept) (find (λ s. bytes_eq name s.chart.name) services)

-- the reply about a waiter that is to be made or to end; a refusal is TooMany here, since the others were looked for before
abbrev pub waiter_reply : {A : Type 0} → WaitAnswer → Reply A
waiter_reply (waiter.Added id verdict) = answers.Waiter id
waiter_reply (waiter.Refused fault) = answers.Refused TooMany
waiter_reply (waiter.Cancelled stood) = if stood then answers.Done else answers.Refused NoSuch
waiter_reply waiter.Nothing = answers.Done

-- the reply about what was asked of the event directories
abbrev pub directory_reply : {A : Type 0} → DirectoryAnswer → Reply A
directory_reply directories.Done = answers.Done
directory_reply (directories.Subscribed id) = answers.Subscription id
directory_reply (directories.Refused fault) = answers.Refused (as_refusal fault)

-- a subscription was made
abbrev pub is_subscribed : DirectoryAnswer → Bool
is_subscribed (directories.Subscribed id) = true
is_subscribed told = false

-- the release of a waiter that is released as it is made
abbrev pub released_by_answer : WaitAnswer → List (ℕ × Verdict)
released_by_answer (waiter.Added id verdict) = release_of_new id verdict
released_by_answer told = []

-- the reply to what was chosen, once it was done; the tallies are those of the services before the step
abbrev pub chosen_reply : {A : Type 0} → Chosen → List Supervised → WorkResult → ListenersAnswer → Reply A
chosen_reply (refuse why) services w told = answers.Refused why
chosen_reply (report sid change) services w told = report_reply w
chosen_reply (listing entries) services w told = answers.Scanned (record { dropped = w.dropped; listed = w.listed })
chosen_reply (show row) services w told = answers.Row row
chosen_reply (tally name) services w told = tally_reply (tally_in name services)
chosen_reply (failure fails) services w told = answers.PermanentFailure fails
chosen_reply (wait condition mode timeout sids) services w told = waiter_reply told.waiters
chosen_reply (cancel id) services w told = waiter_reply told.waiters
chosen_reply (ask_directories ask) services w told = directory_reply told.directories
chosen_reply chosen services w told = answers.Done
