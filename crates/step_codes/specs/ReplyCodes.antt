-- How replies are coded.
use Rattle.std.specs.Prelude.{ℕ, ◌<◌, ◌^◌, IsTrue, Bool, true, false, List, ◌∷◌, ⊤}
use Rattle.s6_events.specs.Name.{is_name}
use Rattle.supervise_core.specs.declared.row.Row.{Row}
use Rattle.tree_core.specs.declared.reply.Refusal.{Refusal}
use Rattle.tree_core.specs.declared.reply.Refusal.TheVariants as refusal
use Rattle.tree_core.specs.declared.reply.Reply.{Reply}
use Rattle.tree_core.specs.declared.reply.Reply.TheVariants.{Done, Refused, Scanned, Row as RowOf, Tally, PermanentFailure, Waiter, Subscription}
use Rattle.step_codes.specs.NumberCodes.{number_onto, bool_byte, option_onto, FitsOption}
use Rattle.step_codes.specs.NameCodes.{bytes_onto}
use Rattle.step_codes.specs.MarkCodes.{exit_onto, FitsExit}

abbrev pub refusal_byte : Refusal → ℕ
refusal_byte refusal.NoService = 1
refusal_byte refusal.Stale = 2
refusal_byte refusal.Reserved = 3
refusal_byte refusal.TooMany = 4
refusal_byte refusal.NoSuch = 5
refusal_byte refusal.Closing = 6
refusal_byte refusal.Repeated = 7
refusal_byte refusal.Empty = 8
refusal_byte refusal.Exists = 9
refusal_byte refusal.Ended = 10
refusal_byte refusal.Spent = 11

-- the fields of a row in their order
abbrev pub row_onto : Row → List ℕ → List ℕ
row_onto r rest =
    number_onto r.sid (bytes_onto r.name (bool_byte r.up ∷ bool_byte r.wanted_up ∷ bool_byte r.normally_up ∷ bool_byte r.ready
    ∷ bool_byte r.paused ∷ option_onto number_onto r.pid (option_onto exit_onto r.exit (option_onto number_onto r.up_down_for
    (option_onto number_onto r.ready_for rest)))))

pub record FitsRow (r : Row) : Type 0 where
  pub sid : r.sid < 2 ^ 64
  pub name : IsTrue (is_name r.name)
  pub pid : FitsOption (λ n. n < 2 ^ 32) r.pid
  pub exit : FitsOption FitsExit r.exit
  pub up_down_for : FitsOption (λ n. n < 2 ^ 64) r.up_down_for
  pub ready_for : FitsOption (λ n. n < 2 ^ 64) r.ready_for

abbrev pub has_reply_code : {A : Type 0} → Reply A → Bool
has_reply_code (Scanned report) = false
has_reply_code (Tally report) = false
has_reply_code other = true

-- a byte that tells the kind, and the rest
abbrev pub reply_onto : {A : Type 0} → Reply A → List ℕ → List ℕ
reply_onto Done rest = 0 ∷ rest
reply_onto (Refused why) rest = 1 ∷ refusal_byte why ∷ rest
reply_onto (RowOf row) rest = 2 ∷ row_onto row rest
reply_onto (PermanentFailure fails) rest = 3 ∷ bool_byte fails ∷ rest
reply_onto (Waiter id) rest = 4 ∷ number_onto id rest
reply_onto (Subscription id) rest = 5 ∷ number_onto id rest
reply_onto (Scanned report) rest = rest
reply_onto (Tally report) rest = rest

abbrev pub FitsReply : {A : Type 0} → Reply A → Type 0
FitsReply Done = ⊤
FitsReply (Refused why) = ⊤
FitsReply (RowOf row) = FitsRow row
FitsReply (PermanentFailure fails) = ⊤
FitsReply (Waiter id) = id < 2 ^ 64
FitsReply (Subscription id) = id < 2 ^ 64
FitsReply (Scanned report) = ⊥
FitsReply (Tally report) = ⊥
