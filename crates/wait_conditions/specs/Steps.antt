-- One step of the waiters: its moments in order, and then one change.
use Rattle.std.specs.Prelude.{ℕ, List, [], ◌∷◌, ◌++◌, Option, Some, None, length, is_some}
use Rattle.s6_events.specs.declared.moment.Moment.{Moment}
use Rattle.wait_conditions.specs.declared.add_fault.AddFault.{AddFault}
use Rattle.wait_conditions.specs.declared.verdict.Verdict.{Verdict}
use Rattle.wait_conditions.specs.declared.verdict.WaitState.TheVariants.{Waiting}
use Rattle.wait_conditions.specs.declared.wait_change.WaitChange.{WaitChange}
use Rattle.wait_conditions.specs.declared.wait_change.WaitChange.TheVariants as wanted
use Rattle.wait_conditions.specs.declared.wait_change.WaitAnswer.{WaitAnswer}
use Rattle.wait_conditions.specs.declared.wait_change.WaitAnswer.TheVariants as answer
use Rattle.wait_conditions.specs.Verdict.{WaitTerms}
use Rattle.wait_conditions.specs.Watch.{Watch, releases, waits_after_moment, wait_terms, new_waiter, after_add}
use Rattle.wait_conditions.specs.Watch.{after_cancel, new_release, waiter_state, state_named}
use Rattle.wait_conditions.specs.Refusal.{add_refusal, deadline_of}

-- all releases of these moments, by moment and then in rising serial
abbrev pub releases_by : Watch → List Moment → List (ℕ × Verdict)
releases_by w [] = []
releases_by w (m ∷ ms) = releases w m ++ releases_by (waits_after_moment w m) ms

-- after these moments, one after the other
abbrev pub waits_after_moments : Watch → List Moment → Watch
waits_after_moments w [] = w
waits_after_moments w (m ∷ ms) = waits_after_moments (waits_after_moment w m) ms

-- what is asked of the waiters
pub data WaitRequest : Type 0 where
  no_wait_request : WaitRequest
  add_one : WaitTerms → WaitRequest
  cancel_one : ℕ → WaitRequest

-- the change that a caller hands in
abbrev pub wait_request_of : WaitChange → WaitRequest
wait_request_of wanted.Nothing = WaitRequest.no_wait_request
wait_request_of (wanted.Add condition mode sids timeout start) =
    WaitRequest.add_one (wait_terms condition mode sids.now (deadline_of timeout start))
wait_request_of (wanted.Cancel id) = WaitRequest.cancel_one id

-- with the waiter that is asked for, where nothing refuses it
abbrev pub with_waiter_unless : Option AddFault → Watch → WaitTerms → Watch
with_waiter_unless None w asked = after_add w asked
with_waiter_unless (Some fault) w asked = w

-- after the change
abbrev pub waits_after_change : Watch → WaitRequest → Watch
waits_after_change w WaitRequest.no_wait_request = w
waits_after_change w (WaitRequest.add_one asked) =
    with_waiter_unless (add_refusal (length w.waiters) asked.sids) w asked
waits_after_change w (WaitRequest.cancel_one id) = after_cancel w id

-- the answer to a wait: the serial of the waiter, and its verdict where it is released at once; or why it is not made
abbrev pub answer_to_add : Option AddFault → Watch → WaitTerms → WaitAnswer
answer_to_add None w asked = answer.Added w.next (new_release Waiting (waiter_state w.history (new_waiter w asked)))
answer_to_add (Some fault) w asked = answer.Refused fault

-- the answer to the change
abbrev pub wait_answer : Watch → WaitRequest → WaitAnswer
wait_answer w WaitRequest.no_wait_request = answer.Nothing
wait_answer w (WaitRequest.add_one asked) = answer_to_add (add_refusal (length w.waiters) asked.sids) w asked
wait_answer w (WaitRequest.cancel_one id) = answer.Cancelled (is_some (state_named w id))
