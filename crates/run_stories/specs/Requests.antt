-- Which acts have a line of their own, and the lines of a reply.
use Rattle.std.specs.Prelude.{ℕ, List, [], ◌∷◌, ◌++◌, Bool, true, false, codes, if◌then◌else◌}
use Rattle.std.specs.List.{flat_map}
use Rattle.supervise_core.specs.declared.row.Row.{Row}
use Rattle.svscan_core.specs.declared.entry.Listed.{Listed}
use Rattle.svscan_core.specs.declared.entry.Listed.TheVariants.{Added, Full, Unread}
use Rattle.tree_core.specs.declared.input.Act.{Act}
use Rattle.tree_core.specs.declared.input.Act.TheVariants.{Scanctl, Svc, Started, StartFailed, Death}
use Rattle.tree_core.specs.declared.input.Act.TheVariants.{FinishEnded, Cancel}
use Rattle.tree_core.specs.declared.input.Act.TheVariants.{Unsubscribe, Send, MakeDir}
use Rattle.tree_core.specs.declared.reply.Refusal.{Refusal}
use Rattle.tree_core.specs.declared.reply.Refusal.TheVariants as refusal
use Rattle.tree_core.specs.declared.reply.Reply.{Reply}
use Rattle.tree_core.specs.declared.reply.Reply.TheVariants as answers
use Rattle.run_stories.specs.Moments.{moment_text, serial_front}
use Rattle.run_stories.specs.Words.{service_line, subscription_word}
use Rattle.run_stories.specs.declared.cause.Cause.{Cause}
use Rattle.run_stories.specs.declared.cause.Cause.TheVariants as cause

-- what an act tells of a program of a service
abbrev pub cause_of : {A : Type 0} → Act A → Cause
cause_of (Started sid generation pid) = cause.Started pid
cause_of (Death sid generation exit) = cause.Died exit
cause_of (FinishEnded sid generation exit) = cause.Finished exit
cause_of act = cause.Other

-- whether an act has a line of its own once it is done. What a user does to the tree has one, and so has a failed start. A question or a
-- tick has none; a scan, a wait and a subscription are told by their replies, and the other reports by their events
abbrev pub is_told : {A : Type 0} → Act A → Bool
is_told (Scanctl order) = true
is_told (Svc name letters) = true
is_told (StartFailed sid generation) = true
is_told (Cancel id) = true
is_told (Unsubscribe id) = true
is_told (Send target message) = true
is_told (MakeDir name) = true
is_told act = false

-- why an act was refused, in a word
abbrev pub reason_word : Refusal → List ℕ
reason_word refusal.NoService = codes "unknown"
reason_word refusal.Stale = codes "late"
reason_word refusal.Reserved = codes "reserved"
reason_word refusal.TooMany = codes "full"
reason_word refusal.NoSuch = codes "missing"
reason_word refusal.Closing = codes "closing"
reason_word refusal.Repeated = codes "twice"
reason_word refusal.Empty = codes "empty"
reason_word refusal.Exists = codes "exists"
reason_word refusal.Ended = codes "ended"
reason_word refusal.Spent = codes "spent"

-- the line of an act: what it is, what it is about, and what became of it
abbrev pub act_line : ℕ → List ℕ → List ℕ → List ℕ → List ℕ
act_line now head body ending = (moment_text now ++ head) ++ (body ++ (ending ++ 10 ∷ []))

-- the line of a new waiter, or a new subscription
abbrev pub serial_line : ℕ → List ℕ → ℕ → List ℕ → List ℕ
serial_line now word id body = serial_front now word id ++ (codes ": " ++ (body ++ 10 ∷ []))

-- a service that was dropped
abbrev pub dropped_line : ℕ → List Row → ℕ → List ℕ
dropped_line now rows sid = service_line now rows sid (codes "dropped")

-- what became of a listed name
abbrev pub name_line : ℕ → List ℕ → List ℕ → List ℕ
name_line now name words = moment_text now ++ (name ++ words)

abbrev pub listed_line : ℕ → Listed → List ℕ
listed_line now (Added sid name) = name_line now name (codes " added\n")
listed_line now (Full name) = name_line now name (codes " has no place\n")
listed_line now (Unread name) = name_line now name (codes " not read\n")

-- the lines of a reply to an act with these words; `told` is whether the act has a line of its own once it is done
abbrev pub reply_lines : {A : Type 0} → ℕ → List Row → Bool → List ℕ → List ℕ → Reply A → List ℕ
reply_lines now rows told head body answers.Done = if told then act_line now head body [] else []
reply_lines now rows told head body (answers.Refused why) = act_line now head body (codes " refused: " ++ reason_word why)
reply_lines now rows told head body (answers.Scanned s) =
    flat_map (dropped_line now rows) s.dropped ++ flat_map (listed_line now) s.listed
reply_lines now rows told head body (answers.Row row) = []
reply_lines now rows told head body (answers.Tally deaths) = []
reply_lines now rows told head body (answers.PermanentFailure fails) = []
reply_lines now rows told head body (answers.Waiter id) = serial_line now (codes "wait ") id body
reply_lines now rows told head body (answers.Subscription id) = serial_line now subscription_word id body
