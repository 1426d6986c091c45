-- The words of what a step gives: each event, order, match and release is one line, with the moment before its words.
use Rattle.std.specs.Prelude.{ℕ, List, [], ◌∷◌, ◌++◌, ◌==◌, codes, decimal, find, Option, Some, None}
use Rattle.servicedir.specs.SignalName.{name_of_signal}
use Rattle.event_directory.specs.declared.hit.Hit.{Hit}
use Rattle.event_directory.specs.declared.hit.Hit.TheVariants.{Matched, Overlong}
use Rattle.s6_events.specs.declared.exit.Exit.{Exit}
use Rattle.s6_events.specs.declared.exit.Exit.TheVariants.{Code, Killed}
use Rattle.s6_events.specs.declared.mark.Mark.{Mark}
use Rattle.s6_events.specs.declared.mark.Mark.TheVariants as mark
use Rattle.s6_events.specs.declared.order.Order.{Order}
use Rattle.s6_events.specs.declared.order.Order.TheVariants.{Run, Finish, Signal, KillFinish}
use Rattle.supervise_core.specs.declared.row.Row.{Row}
use Rattle.svscan_core.specs.declared.event.Event.{Event}
use Rattle.tree_core.specs.declared.effect.Match.{Match}
use Rattle.tree_core.specs.declared.effect.Release.{Release}
use Rattle.wait_conditions.specs.declared.verdict.Verdict.{Verdict}
use Rattle.wait_conditions.specs.declared.verdict.Verdict.TheVariants.{Held, Failed, Gone, TimedOut}
use Rattle.run_stories.specs.Moments.{moment_text, serial_front}
use Rattle.run_stories.specs.declared.cause.Cause.{Cause}
use Rattle.run_stories.specs.declared.cause.Cause.TheVariants as cause

-- a signal by its name, or by its number where it has none
abbrev pub name_or_number : Option (List ℕ) → ℕ → List ℕ
name_or_number (Some name) number = name
name_or_number None number = decimal number

abbrev pub signal_text : ℕ → List ℕ
signal_text number = name_or_number (name_of_signal number) number

-- how a program ended
abbrev pub end_text : Exit → List ℕ
end_text (Code n) = codes "code " ++ decimal n
end_text (Killed n) = codes "signal " ++ signal_text n

-- a service by its name, as the rows have it, or by its serial
abbrev pub name_or_serial : Option Row → ℕ → List ℕ
name_or_serial (Some row) sid = row.name
name_or_serial None sid = codes "service " ++ decimal sid

abbrev pub service_text : List Row → ℕ → List ℕ
service_text rows sid = name_or_serial (find (λ row. row.sid == sid) rows) sid

-- the words of three marks, by what the act told
abbrev pub spawned_words : Cause → List ℕ
spawned_words (cause.Started pid) = codes "up, process " ++ decimal pid
spawned_words c = codes "up"

abbrev pub died_words : Cause → List ℕ
died_words (cause.Died exit) = codes "died, " ++ end_text exit
died_words c = codes "died"

abbrev pub done_words : Cause → List ℕ
done_words (cause.Finished exit) = codes "finish ended, " ++ end_text exit
done_words c = codes "down"

-- the words of an event
abbrev pub event_words : Cause → Mark → List ℕ
event_words c mark.SupervisorStarted = codes "supervised"
event_words c mark.Spawned = spawned_words c
event_words c mark.Ready = codes "ready"
event_words c mark.Died = died_words c
event_words c mark.FinishDone = done_words c
event_words c mark.PermanentFailure = codes "FAILED FOR GOOD"
event_words c mark.SupervisorEnded = codes "supervised no more"

-- the beginning of a line about a service: the moment, its name, and a space
abbrev pub service_front : ℕ → List Row → ℕ → List ℕ
service_front now rows sid = moment_text now ++ (service_text rows sid ++ 32 ∷ [])

-- a line about a service
abbrev pub service_line : ℕ → List Row → ℕ → List ℕ → List ℕ
service_line now rows sid words = service_front now rows sid ++ (words ++ 10 ∷ [])

abbrev pub event_line : ℕ → List Row → Cause → Event → List ℕ
event_line now rows c e = service_line now rows e.sid (event_words c e.mark)

-- a signal that is sent to a program of a service
abbrev pub signal_line : ℕ → List Row → ℕ → List ℕ → List ℕ
signal_line now rows sid words = moment_text now ++ (words ++ (service_text rows sid ++ 10 ∷ []))

-- the words of the signal to a `finish` that takes too long
unfoldable pub kill_words : List ℕ
kill_words = codes "signal KILL to finish of "

abbrev pub order_line : ℕ → List Row → Order → List ℕ
order_line now rows (Run sid generation name fd) = service_line now rows sid (codes "to be started")
order_line now rows (Finish sid generation name code signal) = service_line now rows sid (codes "finish to be started")
order_line now rows (Signal sid generation n) = signal_line now rows sid (codes "signal " ++ (signal_text n ++ codes " to "))
order_line now rows (KillFinish sid generation) = signal_line now rows sid kill_words

-- the word of a subscription
unfoldable pub subscription_word : List ℕ
subscription_word = codes "subscription "

-- the words of a hit
abbrev pub hit_words : Hit → List ℕ
hit_words (Matched letter) = codes " matched " ++ (letter ∷ 10 ∷ [])
hit_words Overlong = codes " gave up\n"

abbrev pub match_line : ℕ → Match → List ℕ
match_line now m = serial_front now subscription_word m.subscription ++ hit_words m.hit

-- the words of a verdict
abbrev pub verdict_words : Verdict → List ℕ
verdict_words Held = codes " released: as wanted\n"
verdict_words Failed = codes " released: failed\n"
verdict_words Gone = codes " released: gone\n"
verdict_words TimedOut = codes " released: timed out\n"

abbrev pub release_line : ℕ → Release → List ℕ
release_line now r = serial_front now (codes "wait ") r.waiter ++ verdict_words r.verdict
