-- A step that is read of its code is the step that was coded.
use Rattle.std.proofs.Common.{◌≡◌, ℕ, ◌<◌, ◌^◌, Bool, Option, List, [], ◌∷◌, length, refl, ap, ◌∙◌, arith}
use Rattle.std.specs.Prelude.{IsTrue, ⊤}
use Rattle.std.specs.declared.alloc.Global.{Global}
use Rattle.s6_events.specs.Name.{is_name}
use Rattle.s6_events.specs.declared.condition.Condition.{Condition}
use Rattle.s6_events.specs.declared.condition.Condition.TheVariants as condition
use Rattle.s6_events.specs.declared.condition.Mode.{Mode}
use Rattle.s6_events.specs.declared.condition.Mode.TheVariants as mode
use Rattle.control_letters.specs.declared.control_letter.ControlLetter.{ControlLetter}
use Rattle.svscan_core.specs.declared.entry.ScanOrder.{ScanOrder}
use Rattle.svscan_core.specs.declared.entry.ScanOrder.TheVariants.{Nuke, Terminate}
use Rattle.s6_events.specs.declared.mark.Mark.{Mark}
use Rattle.s6_events.specs.declared.mark.Mark.TheVariants.{SupervisorStarted, Spawned, Ready, Died, FinishDone, PermanentFailure, SupervisorEnded}
use Rattle.s6_events.specs.declared.exit.Exit.{Exit}
use Rattle.s6_events.specs.declared.exit.Exit.TheVariants as exit
use Rattle.s6_events.specs.declared.order.Order.{Order}
use Rattle.s6_events.specs.declared.order.Order.TheVariants as order
use Rattle.supervise_core.specs.declared.row.Row.{Row}
use Rattle.svscan_core.specs.declared.event.Event.{Event}
use Rattle.wait_conditions.specs.declared.verdict.Verdict.{Verdict}
use Rattle.wait_conditions.specs.declared.verdict.Verdict.TheVariants.{Held, Failed, Gone, TimedOut}
use Rattle.tree_core.specs.declared.effect.Release.{Release}
use Rattle.step_codes.specs.MarkCodes.{mark_byte, exit_onto, FitsExit}
use Rattle.step_codes.specs.NumberCodes.{number_onto, bool_byte, option_onto}
use Rattle.step_codes.specs.NameCodes.{bytes_onto}
use Rattle.step_codes.specs.ToldCodes.{event_onto, release_onto, verdict_byte, FitsEvent, FitsRelease}
use Rattle.step_codes.specs.OrderCodes.{order_onto, FitsOrder}
use Rattle.step_codes.specs.Reading.{Reads, gives, then_in, byte_in, number_in, bool_in, option_in, text_in, list_in}
use Rattle.tree_core.specs.declared.input.Act.{Act}
use Rattle.tree_core.specs.declared.input.Act.TheVariants as act
use Rattle.tree_core.specs.declared.input.Input.{Input}
use Rattle.tree_core.specs.declared.input.Target.{Target}
use Rattle.tree_core.specs.declared.input.Target.TheVariants as target
use Rattle.tree_core.specs.declared.reply.Refusal.{Refusal}
use Rattle.tree_core.specs.declared.reply.Refusal.TheVariants as refusal
use Rattle.tree_core.specs.declared.reply.Reply.{Reply}
use Rattle.tree_core.specs.declared.reply.Reply.TheVariants as reply
use Rattle.tree_core.specs.Machine.{Outcome}
use Rattle.step_codes.specs.ListCodes.{list_onto, AllFit}
use Rattle.step_codes.specs.ReplyCodes.{refusal_byte, row_onto, reply_onto, FitsRow, FitsReply}
use Rattle.step_codes.specs.RequestCodes.{condition_byte, letter_onto, mode_byte, order_byte, target_onto, FitsTarget}
use Rattle.step_codes.specs.ActCodes.{letters_onto, act_onto, FitsAct}
use Rattle.step_codes.specs.StepCodes.{outcome_onto, step_onto, FitsOutcome, FitsStep}
use Rattle.step_codes.specs.ReadingSteps.{mark_of, event_in, verdict_of, release_in, order_behind, order_in}
use Rattle.step_codes.specs.ReadingActs.{exit_in}
use Rattle.step_codes.specs.ReadingSteps.{refusal_of, row_in, reply_in, outcome_in, step_in}
use Rattle.step_codes.specs.ReadingActs.{target_in, letter_in, order_of, condition_of, mode_of, act_in}
use Rattle.step_codes.proofs.LetterBack.{letter_back}
use Rattle.step_codes.proofs.ReadBack.{then_back, number_back, bool_back, text_back, past_number, past_text, past_option, past_list}

mark_back : (m : Mark) → mark_of (mark_byte m) ≡ m
mark_back SupervisorStarted = refl
mark_back Spawned = refl
mark_back Ready = refl
mark_back Died = refl
mark_back FinishDone = refl
mark_back PermanentFailure = refl
mark_back SupervisorEnded = refl

pub event_back : (e : Event) (rest : List ℕ) → FitsEvent e → event_in (event_onto e rest) ≡ (e, rest)
event_back e rest fits =
    past_number (λ sid. then_in byte_in (λ mark. gives (record { sid = sid; mark = mark_of mark }))) e.sid (mark_byte e.mark ∷ rest) fits
    ∙ ap (λ (m : Mark). (record { sid = e.sid; mark = m }, rest)) (mark_back e.mark)

verdict_back : (v : Verdict) → verdict_of (verdict_byte v) ≡ v
verdict_back Held = refl
verdict_back Failed = refl
verdict_back Gone = refl
verdict_back TimedOut = refl

pub release_back : (r : Release) (rest : List ℕ) → FitsRelease r → release_in (release_onto r rest) ≡ (r, rest)
release_back r rest fits =
    past_number (λ waiter. then_in byte_in (λ verdict. gives (record { waiter = waiter; verdict = verdict_of verdict }))) r.waiter
    (verdict_byte r.verdict ∷ rest) fits
    ∙ ap (λ (v : Verdict). (record { waiter = r.waiter; verdict = v }, rest)) (verdict_back r.verdict)

pub exit_back : (e : Exit) (rest : List ℕ) → FitsExit e → exit_in (exit_onto e rest) ≡ (e, rest)
exit_back (exit.Code n) rest fits = refl
exit_back (exit.Killed n) rest fits = refl

byte_back : (n : ℕ) (rest : List ℕ) → n < 2 ^ 8 → byte_in (n ∷ rest) ≡ (n, rest)
byte_back n rest fits = refl

-- of a life
past_life : {Y : Type 0} (next : ℕ → ℕ → Reads Y) (sid generation : ℕ) (rest : List ℕ) → sid < 2 ^ 64 → generation < 2 ^ 64
    → then_in number_in (λ s. then_in number_in (λ g. next s g)) (number_onto sid (number_onto generation rest)) ≡ next sid generation rest
past_life next sid generation rest s g =
    past_number (λ k. then_in number_in (λ j. next k j)) sid (number_onto generation rest) s ∙ past_number (λ j. next sid j) generation rest g

pub order_back : (o : Order) (rest : List ℕ) → FitsOrder o → order_in (order_onto o rest) ≡ (o, rest)
order_back (order.Run sid generation name descriptor) rest fits =
    past_life (λ s g. order_behind 0 s g) sid generation _ fits.0 fits.1
    ∙ (past_text (λ n. then_in (option_in byte_in) (λ d. gives (order.Run sid generation n d))) name _
    ∙ past_option byte_in (λ n more. n ∷ more) (λ n. n < 2 ^ 8) byte_back (λ d. gives (order.Run sid generation name d)) descriptor rest fits.3)
order_back (order.Finish sid generation name code signal) rest fits =
    past_life (λ s g. order_behind 1 s g) sid generation _ fits.0 fits.1
    ∙ (past_text (λ n. then_in number_in (λ c. then_in byte_in (λ s. gives (order.Finish sid generation n c s)))) name _
    ∙ past_number (λ c. then_in byte_in (λ s. gives (order.Finish sid generation name c s))) code (signal ∷ rest) (omega (arith, fits.3)))
order_back (order.Signal sid generation signal) rest fits = past_life (λ s g. order_behind 2 s g) sid generation (signal ∷ rest) fits.0 fits.1
order_back (order.KillFinish sid generation) rest fits = past_life (λ s g. order_behind 3 s g) sid generation rest fits.0 fits.1

refusal_back : (r : Refusal) → refusal_of (refusal_byte r) ≡ r
refusal_back refusal.NoService = refl
refusal_back refusal.Stale = refl
refusal_back refusal.Reserved = refl
refusal_back refusal.TooMany = refl
refusal_back refusal.NoSuch = refl
refusal_back refusal.Closing = refl
refusal_back refusal.Repeated = refl
refusal_back refusal.Empty = refl
refusal_back refusal.Exists = refl
refusal_back refusal.Ended = refl
refusal_back refusal.Spent = refl

wide_back : (n : ℕ) (rest : List ℕ) → n < 2 ^ 32 → number_in (number_onto n rest) ≡ (n, rest)
wide_back n rest fits = number_back n rest (omega (arith, fits))

past_bool : {Y : Type 0} (next : Bool → Reads Y) (b : Bool) (rest : List ℕ) → then_in bool_in next (bool_byte b ∷ rest) ≡ next b rest
past_bool next b rest = then_back bool_in next (bool_byte b ∷ rest) b rest (bool_back b rest)

-- a row, of which the first fields are read
abbrev row_from_10 : ℕ → List ℕ → Bool → Bool → Bool → Bool → Bool → Option ℕ → Option Exit → Option ℕ → Reads Row
row_from_10 sid name up wanted_up normally_up ready paused pid ended up_down_for =
    then_in (option_in number_in) (λ ready_for. gives
    (record {
      sid = sid;
      name = name;
      up = up;
      wanted_up = wanted_up;
      normally_up = normally_up;
      ready = ready;
      paused = paused;
      pid = pid;
      exit = ended;
      up_down_for = up_down_for;
      ready_for = ready_for;
    }))

abbrev row_from_9 : ℕ → List ℕ → Bool → Bool → Bool → Bool → Bool → Option ℕ → Option Exit → Reads Row
row_from_9 sid name up wanted_up normally_up ready paused pid ended =
    then_in (option_in number_in) (λ up_down_for. row_from_10 sid name up wanted_up normally_up ready paused pid ended up_down_for)

abbrev row_from_8 : ℕ → List ℕ → Bool → Bool → Bool → Bool → Bool → Option ℕ → Reads Row
row_from_8 sid name up wanted_up normally_up ready paused pid =
    then_in (option_in exit_in) (λ ended. row_from_9 sid name up wanted_up normally_up ready paused pid ended)

abbrev row_from_7 : ℕ → List ℕ → Bool → Bool → Bool → Bool → Bool → Reads Row
row_from_7 sid name up wanted_up normally_up ready paused =
    then_in (option_in number_in) (λ pid. row_from_8 sid name up wanted_up normally_up ready paused pid)

abbrev row_from_6 : ℕ → List ℕ → Bool → Bool → Bool → Bool → Reads Row
row_from_6 sid name up wanted_up normally_up ready =
    then_in bool_in (λ paused. row_from_7 sid name up wanted_up normally_up ready paused)

abbrev row_from_5 : ℕ → List ℕ → Bool → Bool → Bool → Reads Row
row_from_5 sid name up wanted_up normally_up =
    then_in bool_in (λ ready. row_from_6 sid name up wanted_up normally_up ready)

abbrev row_from_4 : ℕ → List ℕ → Bool → Bool → Reads Row
row_from_4 sid name up wanted_up =
    then_in bool_in (λ normally_up. row_from_5 sid name up wanted_up normally_up)

abbrev row_from_3 : ℕ → List ℕ → Bool → Reads Row
row_from_3 sid name up =
    then_in bool_in (λ wanted_up. row_from_4 sid name up wanted_up)

abbrev row_from_2 : ℕ → List ℕ → Reads Row
row_from_2 sid name =
    then_in bool_in (λ up. row_from_3 sid name up)

abbrev row_from_1 : ℕ → Reads Row
row_from_1 sid =
    then_in text_in (λ name. row_from_2 sid name)

pub row_back : (r : Row) (rest : List ℕ) → FitsRow r → row_in (row_onto r rest) ≡ (r, rest)
row_back r rest fits =
    let from_10 : List ℕ = option_onto number_onto r.ready_for rest in
    let from_9 : List ℕ = option_onto number_onto r.up_down_for from_10 in
    let from_8 : List ℕ = option_onto exit_onto r.exit from_9 in
    let from_7 : List ℕ = option_onto number_onto r.pid from_8 in
    let from_6 : List ℕ = bool_byte r.paused ∷ from_7 in
    let from_5 : List ℕ = bool_byte r.ready ∷ from_6 in
    let from_4 : List ℕ = bool_byte r.normally_up ∷ from_5 in
    let from_3 : List ℕ = bool_byte r.wanted_up ∷ from_4 in
    let from_2 : List ℕ = bool_byte r.up ∷ from_3 in
    let from_1 : List ℕ = bytes_onto r.name from_2 in
    past_number (λ sid. row_from_1 sid) r.sid from_1 fits.sid
    ∙ (past_text (λ name. row_from_2 r.sid name) r.name from_2
    ∙ (past_bool (λ up. row_from_3 r.sid r.name up) r.up from_3
    ∙ (past_bool (λ wanted_up. row_from_4 r.sid r.name r.up wanted_up) r.wanted_up from_4
    ∙ (past_bool (λ normally_up. row_from_5 r.sid r.name r.up r.wanted_up normally_up) r.normally_up from_5
    ∙ (past_bool (λ ready. row_from_6 r.sid r.name r.up r.wanted_up r.normally_up ready) r.ready from_6
    ∙ (past_bool (λ paused. row_from_7 r.sid r.name r.up r.wanted_up r.normally_up r.ready paused) r.paused from_7
    ∙ (past_option number_in number_onto (λ n. n < 2 ^ 32) wide_back
    (λ pid. row_from_8 r.sid r.name r.up r.wanted_up r.normally_up r.ready r.paused pid) r.pid from_8 fits.pid
    ∙ (past_option exit_in exit_onto FitsExit exit_back
    (λ ended. row_from_9 r.sid r.name r.up r.wanted_up r.normally_up r.ready r.paused r.pid ended) r.exit from_9 fits.exit
    ∙ (past_option number_in number_onto (λ n. n < 2 ^ 64) number_back
    (λ up_down_for. row_from_10 r.sid r.name r.up r.wanted_up r.normally_up r.ready r.paused r.pid r.exit up_down_for) r.up_down_for from_10
    fits.up_down_for
    ∙ (past_option number_in number_onto (λ n. n < 2 ^ 64) number_back
    (λ ready_for. gives (record {
      sid = r.sid;
      name = r.name;
      up = r.up;
      wanted_up = r.wanted_up;
      normally_up = r.normally_up;
      ready = r.ready;
      paused = r.paused;
      pid = r.pid;
      exit = r.exit;
      up_down_for = r.up_down_for;
      ready_for = ready_for;
    })) r.ready_for rest
    fits.ready_for))))))))))

pub reply_back : (r : Reply Global) (rest : List ℕ) → FitsReply r → reply_in (reply_onto r rest) ≡ (r, rest)
reply_back reply.Done rest fits = refl
reply_back (reply.Refused why) rest fits = ap (λ (w : Refusal). (reply.Refused w, rest)) (refusal_back why)
reply_back (reply.Row row) rest fits = then_back row_in (λ r. gives (reply.Row r)) (row_onto row rest) row rest (row_back row rest fits)
reply_back (reply.PermanentFailure fails) rest fits = past_bool (λ b. gives (reply.PermanentFailure b)) fails rest
reply_back (reply.Waiter id) rest fits = past_number (λ n. gives (reply.Waiter n)) id rest fits
reply_back (reply.Subscription id) rest fits = past_number (λ n. gives (reply.Subscription n)) id rest fits
reply_back (reply.Scanned report) rest fits = absurd fits
reply_back (reply.Tally report) rest fits = absurd fits

pub target_back : (t : Target) (rest : List ℕ) → FitsTarget t → target_in (target_onto t rest) ≡ (t, rest)
target_back (target.Service name) rest fits = past_text (λ n. gives (target.Service n)) name rest
target_back (target.Directory name) rest fits = past_text (λ n. gives (target.Directory n)) name rest

past_letters : {Y : Type 0} (next : List ℕ → Reads Y) (bytes rest : List ℕ) → AllFit (λ n. n < 2 ^ 8) bytes → length bytes < 2 ^ 64
    → then_in (list_in byte_in) next (letters_onto bytes rest) ≡ next bytes rest
past_letters next bytes rest all few = past_list byte_in (λ n more. n ∷ more) (λ n. n < 2 ^ 8) byte_back next bytes rest all few

one_letter_back : (l : ControlLetter) (rest : List ℕ) → ⊤ → letter_in (letter_onto l rest) ≡ (l, rest)
one_letter_back l rest fits = rw (letter_back l) refl

order_of_back : (o : ScanOrder) → order_of (order_byte o) ≡ o
order_of_back Nuke = refl
order_of_back Terminate = refl

condition_back : (c : Condition) → condition_of (condition_byte c) ≡ c
condition_back condition.Up = refl
condition_back condition.Ready = refl
condition_back condition.Down = refl
condition_back condition.Finished = refl
condition_back condition.Restarted = refl
condition_back condition.RestartedReady = refl

mode_back : (m : Mode) → mode_of (mode_byte m) ≡ m
mode_back mode.All = refl
mode_back mode.One = refl

pub act_back : (a : Act Global) (rest : List ℕ) → FitsAct a → act_in (act_onto a rest) ≡ (a, rest)
act_back act.Tick rest fits = refl
act_back (act.Started sid generation pid) rest fits =
    past_life (λ s g. then_in number_in (λ p. gives (act.Started s g p))) sid generation _ fits.0 fits.1
    ∙ then_back number_in (λ p. gives (act.Started sid generation p)) (number_onto pid rest) pid rest (wide_back pid rest fits.2)
act_back (act.StartFailed sid generation) rest fits = past_life (λ s g. gives (act.StartFailed s g)) sid generation rest fits.0 fits.1
act_back (act.Notify sid generation bytes) rest fits =
    past_life (λ s g. then_in (list_in byte_in) (λ bs. gives (act.Notify s g (record { items = bs })))) sid generation _ fits.0 fits.1
    ∙ past_letters (λ bs. gives (act.Notify sid generation (record { items = bs }))) bytes.items rest fits.2 fits.3
act_back (act.Death sid generation ended) rest fits =
    past_life (λ s g. then_in exit_in (λ e. gives (act.Death s g e))) sid generation _ fits.0 fits.1
    ∙ then_back exit_in (λ e. gives (act.Death sid generation e)) (exit_onto ended rest) ended rest (exit_back ended rest fits.2)
act_back (act.FinishEnded sid generation ended) rest fits =
    past_life (λ s g. then_in exit_in (λ e. gives (act.FinishEnded s g e))) sid generation _ fits.0 fits.1
    ∙ then_back exit_in (λ e. gives (act.FinishEnded sid generation e)) (exit_onto ended rest) ended rest (exit_back ended rest fits.2)
act_back (act.Status name) rest fits = past_text (λ n. gives (act.Status n)) name rest
act_back (act.Tally name) rest fits = past_text (λ n. gives (act.Tally n)) name rest
act_back (act.Cancel id) rest fits = past_number (λ n. gives (act.Cancel n)) id rest fits
act_back (act.Unsubscribe id) rest fits = past_number (λ n. gives (act.Unsubscribe n)) id rest fits
act_back (act.Send whose message) rest fits =
    then_back target_in (λ t. then_in (list_in byte_in) (λ m. gives (act.Send t m))) (target_onto whose (letters_onto message rest)) whose
    (letters_onto message rest) (target_back whose (letters_onto message rest) fits.0)
    ∙ past_letters (λ m. gives (act.Send whose m)) message rest fits.1 fits.2
act_back (act.MakeDir name) rest fits = past_text (λ n. gives (act.MakeDir n)) name rest
act_back (act.Svc name letters) rest fits =
    past_text (λ n. then_in (list_in letter_in) (λ ls. gives (act.Svc n (record { items = ls })))) name _
    ∙ past_list letter_in letter_onto (λ letter. ⊤) one_letter_back
    (λ ls. gives (act.Svc name (record { items = ls }))) letters.items rest fits.1 fits.2
act_back (act.Scanctl command) rest fits = ap (λ (o : ScanOrder). (act.Scanctl o, rest)) (order_of_back command)
act_back (act.Wait wanted how timeout names) rest fits =
    then_back number_in (λ t. then_in (list_in text_in)
    (λ ns. gives (act.Wait (condition_of (condition_byte wanted)) (mode_of (mode_byte how)) t ns)))
    (number_onto timeout (list_onto bytes_onto names rest)) timeout (list_onto bytes_onto names rest) (wide_back timeout _ fits.0)
    ∙ (past_list text_in bytes_onto (λ name. IsTrue (is_name name)) (λ name more is. text_back name more)
    (λ ns. gives (act.Wait (condition_of (condition_byte wanted)) (mode_of (mode_byte how)) timeout ns)) names rest fits.1 fits.2
    ∙ rw (condition_back wanted, mode_back how) refl)
act_back (act.Scan listing) rest fits = absurd fits
act_back (act.Permafailon name seconds count items) rest fits = absurd fits
act_back (act.Subscribe whose pattern repeats) rest fits = absurd fits

pub outcome_back : (o : Outcome Global) (rest : List ℕ) → FitsOutcome o → outcome_in (outcome_onto o rest) ≡ (o, rest)
outcome_back o rest fits =
    let orders_fit : length o.orders < 2 ^ 64 = omega (arith, fits.few_orders) in
    let last = list_onto release_onto o.released rest in
    let after_events = list_onto order_onto o.orders last in
    let after_reply = list_onto event_onto o.events after_events in
    then_back reply_in
    (λ answer. then_in (list_in event_in) (λ events. then_in (list_in order_in) (λ orders. then_in (list_in release_in) (λ released.
    gives (record { reply = answer; events = events; orders = orders; matched = []; released = released })))))
    (reply_onto o.reply after_reply) o.reply after_reply (reply_back o.reply after_reply fits.reply)
    ∙ (past_list event_in event_onto FitsEvent event_back
    (λ events. then_in (list_in order_in) (λ orders. then_in (list_in release_in) (λ released.
    gives (record { reply = o.reply; events = events; orders = orders; matched = []; released = released }))))
    o.events after_events fits.events fits.few_events
    ∙ (past_list order_in order_onto FitsOrder order_back
    (λ orders. then_in (list_in release_in) (λ released.
    gives (record { reply = o.reply; events = o.events; orders = orders; matched = []; released = released })))
    o.orders last fits.orders orders_fit
    ∙ (past_list release_in release_onto FitsRelease release_back
    (λ released. gives (record { reply = o.reply; events = o.events; orders = o.orders; matched = []; released = released }))
    o.released rest fits.released fits.few_released
    ∙ rw fits.none_matched refl)))

pub step_back : (i : Input Global) (o : Outcome Global) (rest : List ℕ) → FitsStep i o → step_in (step_onto i o rest) ≡ ((i, o), rest)
step_back i o rest fits =
    let last = act_onto i.act rest in
    past_number (λ at. then_in outcome_in (λ gave. then_in act_in (λ done. gives (record { actor = i.actor; at = at; act = done }, gave))))
    i.at (outcome_onto o last) (omega (arith, fits.at))
    ∙ (then_back outcome_in (λ gave. then_in act_in (λ done. gives (record { actor = i.actor; at = i.at; act = done }, gave)))
    (outcome_onto o last) o last (outcome_back o last fits.outcome)
    ∙ then_back act_in (λ done. gives (record { actor = i.actor; at = i.at; act = done }, o)) last i.act rest (act_back i.act rest fits.act))
