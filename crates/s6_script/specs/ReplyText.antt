-- How a reply is printed.
use Rattle.std.specs.Prelude.{ℕ, ◌+◌, List, [], ◌∷◌, ◌++◌, codes, decimal, Bool, true, false, Option, None, Some}
use Rattle.std.specs.List.{flat_map}
use Rattle.s6_events.specs.declared.exit.Exit.{Exit}
use Rattle.s6_events.specs.declared.exit.Exit.TheVariants.{Code, Killed}
use Rattle.supervise_core.specs.declared.row.Row.{Row}
use Rattle.svscan_core.specs.declared.entry.Listed.{Listed}
use Rattle.svscan_core.specs.declared.entry.Listed.TheVariants.{Added, Full, Unread}
use Rattle.tree_core.specs.declared.reply.Refusal.{Refusal}
use Rattle.tree_core.specs.declared.reply.Refusal.TheVariants.{NoService, Stale, Reserved, TooMany, NoSuch, Closing}
use Rattle.tree_core.specs.declared.reply.Refusal.TheVariants.{Repeated, Empty, Exists, Ended, Spent}
use Rattle.tree_core.specs.declared.reply.Reply.{Reply}
use Rattle.tree_core.specs.declared.reply.Reply.TheVariants as answers

-- a reason is printed by its name
abbrev pub reason : Refusal → List ℕ
reason NoService = codes "NoService"
reason Stale = codes "Stale"
reason Reserved = codes "Reserved"
reason TooMany = codes "TooMany"
reason NoSuch = codes "NoSuch"
reason Closing = codes "Closing"
reason Repeated = codes "Repeated"
reason Empty = codes "Empty"
reason Exists = codes "Exists"
reason Ended = codes "Ended"
reason Spent = codes "Spent"

-- a service that was dropped
abbrev pub dropped_text : ℕ → List ℕ
dropped_text sid = codes " -" ++ decimal sid

-- a listed name: added under a serial, without a place, or not read
abbrev pub listed_text : Listed → List ℕ
listed_text (Added sid name) = (codes " +" ++ (decimal sid ++ (58 ∷ []))) ++ name
listed_text (Full name) = codes " full:" ++ name
listed_text (Unread name) = codes " unread:" ++ name

-- a truth value
abbrev pub truth_text : Bool → List ℕ
truth_text true = codes "true"
truth_text false = codes "false"

-- a number, or -1 where it is absent
abbrev pub number_text : Option ℕ → List ℕ
number_text None = codes "-1"
number_text (Some n) = decimal n

-- the exit code, where there is one
abbrev pub exit_code : Option Exit → Option ℕ
exit_code (Some (Code n)) = Some n
exit_code _ = None

-- the number of the signal that killed it, where there is one
abbrev pub signal_number : Option Exit → Option ℕ
signal_number (Some (Killed n)) = Some n
signal_number _ = None

-- a field behind a space
abbrev pub truth_field : Bool → List ℕ
truth_field truth = 32 ∷ truth_text truth

abbrev pub number_field : Option ℕ → List ℕ
number_field number = 32 ∷ number_text number

-- a row: its serial, its name, and its ten fields
abbrev pub row_text : Row → List ℕ
row_text r =
    (codes "row " ++ (decimal r.sid ++ (32 ∷ []))) ++ r.name
    ++ (truth_field r.up ++ truth_field r.wanted_up ++ truth_field r.normally_up ++ truth_field r.ready
    ++ truth_field r.paused)
    ++ (number_field r.pid ++ number_field (exit_code r.exit) ++ number_field (signal_number r.exit)
    ++ number_field r.up_down_for ++ number_field r.ready_for)

-- how a run ended, by its code or its signal, and a death with its moment
abbrev pub end_text : Exit → List ℕ
end_text (Code n) = 99 ∷ decimal n
end_text (Killed n) = 115 ∷ decimal n

abbrev pub death_text : ℕ × Exit → List ℕ
death_text death = codes " " ++ (decimal death.0 ++ (58 ∷ end_text death.1))

-- 125 for a permanent failure, as the command ends
abbrev pub failure_text : Bool → List ℕ
failure_text true = codes "permafail 125"
failure_text false = codes "permafail 0"

-- a reply
abbrev pub reply_text : {A : Type 0} → Reply A → List ℕ
reply_text answers.Done = codes "done"
reply_text (answers.Refused why) = codes "refused " ++ reason why
reply_text (answers.Row row) = row_text row
reply_text (answers.Scanned s) = codes "scanned" ++ flat_map dropped_text s.dropped ++ flat_map listed_text s.listed
reply_text (answers.Tally deaths) = codes "tally" ++ flat_map death_text deaths
reply_text (answers.PermanentFailure fails) = failure_text fails
reply_text (answers.Waiter id) = codes "wait " ++ decimal id
reply_text (answers.Subscription id) = codes "sub " ++ decimal id
