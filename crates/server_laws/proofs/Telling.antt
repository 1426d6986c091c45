-- What is told to a client was made by it.
use Rattle.std.proofs.Common.{rules, arith, refl, ap, subst, ◌≡◌, ◌<◌, ◌++◌, ◌||◌, ◌&&◌, [], ◌∷◌, ℕ, zero, suc, List, Bool, true, false, Option, Some, None, cond, not, nat_lt, slice_index_or, ◌==◌, ⊎_elim, if◌then◌else◌}
use Rattle.std.proofs.lemmas.List.Elements.{Contains-append_cases}
use Rattle.std.specs.List.{Contains}
use Rattle.std.specs.declared.alloc.Global.{Global}
use Rattle.tree_core.specs.declared.input.Act.{Act}
use Rattle.tree_core.specs.declared.reply.Reply.{Reply}
use Rattle.tree_core.specs.declared.reply.Reply.TheVariants as reply
use Rattle.server_rules.specs.declared.own_answer.OwnAnswer.{OwnAnswer}
use Rattle.server_rules.specs.declared.phase.Errand.{Errand}
use Rattle.server_rules.specs.declared.phase.Errand.TheVariants as errand
use Rattle.server_rules.specs.declared.phase.ClientPhase.{ClientPhase}
use Rattle.server_rules.specs.declared.phase.ClientPhase.TheVariants.{Idle, Stepping, UnderWay, PutOff, LeftStepping, Left, Leaving, Cancelling, Gone}
use Rattle.server_rules.specs.declared.requests.Request.{Request}
use Rattle.server_rules.specs.declared.requests.Request.TheVariants.{Step, Status, Scan, Record, Follow, Clock, Refused}
use Rattle.server_rules.specs.declared.made_things.Admission.{Admission}
use Rattle.server_rules.specs.declared.made_things.Admission.TheVariants as admission
use Rattle.server_rules.specs.declared.made_things.MadeChange.{MadeChange}
use Rattle.server_rules.specs.declared.made_things.MadeChange.TheVariants as change
use Rattle.server_rules.specs.declared.todo.News.{News}
use Rattle.server_rules.specs.declared.todo.News.TheVariants as news
use Rattle.server_rules.specs.declared.todo.Todo.{Todo}
use Rattle.server_rules.specs.declared.todo.Todo.TheVariants as todo
use Rattle.server_rules.specs.Connection.{View, Moved, is_here, stays, takes_requests}
use Rattle.server_rules.specs.NewsTold.{after_news, has_made, is_for}
use Rattle.server_rules.specs.Begin.{begin_admitted, begin_next, begin_put_off, ends_by, joins, replaces, step_limit, steps_in}
use Rattle.server_rules.specs.Made.{Made, admission_of, after_reply, change_of, is_among, next_ended, without}
use Rattle.server_rules.specs.StatusAge.{is_recent}
use Rattle.server_laws.specs.History.{Done, Event, Ask, Begin, Answered, Recorded, RefuseErrand, RefuseNext, Told, Leave, History, happens, made_by_reply, made_in, moved_by, opened, run}
use Rattle.server_laws.specs.Laws.{ToldItsOwn, asks_for, was_made}
use Rattle.server_laws.proofs.Following.{IsAskedFor, any_before, asked_for_none, asked_for_one, or_cases, or_left, or_more, or_right}

-- all of these are among those
abbrev AreAmong : List ℕ → List ℕ → Type 0
AreAmong xs ys = (id : ℕ) → is_among id xs ≡ true → is_among id ys ≡ true

-- those that were before are among those with some more
before : (xs ys : List ℕ) → AreAmong xs (xs ++ ys)
before [] ys = λ id is. search rules
before (x ∷ xs) ys = λ id is. or_more (x == id) (is_among id xs) (is_among id (xs ++ ys)) (before xs ys id) is

one_left : (out : Bool) (x : ℕ) (rest xs : List ℕ) → AreAmong rest xs → AreAmong (cond (not out) (x ∷ rest) rest) (x ∷ xs)
one_left true x rest xs among = λ id is. or_right (x == id) (is_among id xs) (among id is)
one_left false x rest xs among = λ id is. or_more (x == id) (is_among id rest) (is_among id xs) (among id) is

-- those that are left were there
fewer_left : (ended : ℕ) (xs : List ℕ) → AreAmong (without ended xs) xs
fewer_left ended [] = λ id is. is
fewer_left ended (x ∷ xs) = one_left (x == ended) x (without ended xs) xs (fewer_left ended xs)

after : (xs ys zs : List ℕ) → AreAmong xs ys → AreAmong xs (ys ++ zs)
after xs ys zs among = λ id is. before ys zs id (among id is)

-- what stands after a move stood before, or was made by it
record Grows (stood new stands : Made) : Type 0 where
  waiters : AreAmong stands.waiters (stood.waiters ++ new.waiters)
  subscriptions : AreAmong stands.subscriptions (stood.subscriptions ++ new.subscriptions)

same : (made new : Made) → Grows made new made
same made new = record { waiters = before made.waiters new.waiters; subscriptions = before made.subscriptions new.subscriptions }

fewer_released : (made new : Made) (released : List ℕ) (act : Option (Act Global))
    → Grows made new (record made { released = released; put_off = act })
fewer_released made new released act = record {
  waiters = before made.waiters new.waiters;
  subscriptions = before made.subscriptions new.subscriptions;
}

equal : (xs ys : List ℕ) → xs ≡ ys → AreAmong xs ys
equal xs ys are = λ id is. subst (λ (zs : List ℕ). is_among id zs ≡ true) are is

replied : (ch : MadeChange) (r : Reply Global) (made : Made) → Grows made (made_by_reply ch r) (after_reply ch r made)
replied change.Other r made = same made _
replied change.MakesWaiter reply.Done made = same made _
replied change.MakesWaiter (reply.Refused refusal) made = same made _
replied change.MakesWaiter (reply.Scanned report) made = same made _
replied change.MakesWaiter (reply.Row row) made = same made _
replied change.MakesWaiter (reply.Tally tally) made = same made _
replied change.MakesWaiter (reply.PermanentFailure fails) made = same made _
replied change.MakesWaiter (reply.Waiter id) made = record { waiters = λ k is. is; subscriptions = before made.subscriptions [] }
replied change.MakesWaiter (reply.Subscription id) made = same made _
replied change.MakesSubscription reply.Done made = same made _
replied change.MakesSubscription (reply.Refused refusal) made = same made _
replied change.MakesSubscription (reply.Scanned report) made = same made _
replied change.MakesSubscription (reply.Row row) made = same made _
replied change.MakesSubscription (reply.Tally tally) made = same made _
replied change.MakesSubscription (reply.PermanentFailure fails) made = same made _
replied change.MakesSubscription (reply.Waiter id) made = same made _
replied change.MakesSubscription (reply.Subscription id) made = record { waiters = before made.waiters []; subscriptions = λ k is. is }
replied (change.EndsWaiter ended) reply.Done made = record {
  waiters = after _ made.waiters [] (fewer_left ended made.waiters);
  subscriptions = before made.subscriptions [];
}
replied (change.EndsWaiter ended) (reply.Refused refusal) made = same made _
replied (change.EndsWaiter ended) (reply.Scanned report) made = same made _
replied (change.EndsWaiter ended) (reply.Row row) made = same made _
replied (change.EndsWaiter ended) (reply.Tally tally) made = same made _
replied (change.EndsWaiter ended) (reply.PermanentFailure fails) made = same made _
replied (change.EndsWaiter ended) (reply.Waiter id) made = same made _
replied (change.EndsWaiter ended) (reply.Subscription id) made = same made _
replied (change.EndsSubscription ended) reply.Done made = record {
  waiters = before made.waiters [];
  subscriptions = after _ made.subscriptions [] (fewer_left ended made.subscriptions);
}
replied (change.EndsSubscription ended) (reply.Refused refusal) made = same made _
replied (change.EndsSubscription ended) (reply.Scanned report) made = same made _
replied (change.EndsSubscription ended) (reply.Row row) made = same made _
replied (change.EndsSubscription ended) (reply.Tally tally) made = same made _
replied (change.EndsSubscription ended) (reply.PermanentFailure fails) made = same made _
replied (change.EndsSubscription ended) (reply.Waiter id) made = same made _
replied (change.EndsSubscription ended) (reply.Subscription id) made = same made _

asked : (takes : Bool) (coming : List Request) (c : View) (new : Made) → Grows c.made new (if takes then record c { asked = coming } else c).made
asked true coming c new = same c.made new
asked false coming c new = same c.made new

steps : (ch : MadeChange) (n : ℕ) (act : Act Global) (c : View) (new : Made) → Grows c.made new (steps_in ch n act c).next.made
steps change.Other n act c new = same c.made new
steps change.MakesWaiter n act c new = same c.made new
steps change.MakesSubscription n act c new = same c.made new
steps (change.EndsWaiter id) n act c new = same c.made new
steps (change.EndsSubscription id) n act c new = same c.made new

replaced : (released : List ℕ) (act : Act Global) (c : View) (new : Made) → Grows c.made new (replaces released act c).next.made
replaced [] act c new = same c.made new
replaced (id ∷ released) act c new = fewer_released c.made new released (Some act)

admitted : (a : Admission) (act : Act Global) (c : View) (new : Made) → Grows c.made new (begin_admitted a act c).next.made
admitted admission.Admitted act c new = steps (change_of act) 0 act c new
admitted admission.AfterReleased act c new = replaced c.made.released act c new
admitted admission.Refused act c new = same c.made new

chosen : (is : Bool) (one other : Moved) (made new : Made) → Grows made new one.next.made → Grows made new other.next.made
    → Grows made new (cond is one other).next.made
chosen true one other made new first second = first
chosen false one other made new first second = second

first : (asked : List Request) (made : Made) (last_step now : ℕ) (new : Made)
    → Grows made new (moved_by (Begin last_step now) (record { phase = Idle; asked = asked; made = made })).next.made
first [] made last_step now new = same made new
first (Step act ∷ rest) made last_step now new = admitted (admission_of act made) act (record { phase = Idle; asked = rest; made = made }) new
first (Status subject ∷ rest) made last_step now new = chosen (is_recent last_step now) _ _ made new (same made new) (same made new)
first (Scan ∷ rest) made last_step now new = same made new
first (Record ∷ rest) made last_step now new = same made new
first (Follow services ∷ rest) made last_step now new = record {
  waiters = before made.waiters new.waiters;
  subscriptions = before made.subscriptions new.subscriptions;
}
first (Clock ∷ rest) made last_step now new = same made new
first (Refused o ∷ rest) made last_step now new = same made new

begun_off : (act : Option (Act Global)) (c : View) (new : Made) → Grows c.made new (begin_put_off act c).next.made
begun_off (Some act) c new = record { waiters = before c.made.waiters new.waiters; subscriptions = before c.made.subscriptions new.subscriptions }
begun_off None c new = same c.made new

joined : (ch : MadeChange) (n : ℕ) (act : Act Global) (rest : List Request) (c : View) (new : Made)
    → Grows c.made new (joins ch n act rest c).next.made
joined change.Other n act rest c new = same c.made new
joined change.MakesWaiter n act rest c new = same c.made new
joined change.MakesSubscription n act rest c new = same c.made new
joined (change.EndsWaiter id) n act rest c new = same c.made new
joined (change.EndsSubscription id) n act rest c new = same c.made new

beside : (few : Bool) (n : ℕ) (asked : List Request) (c : View) (new : Made)
    → Grows c.made new (if few then begin_next asked n c else stays c).next.made
beside false n asked c new = same c.made new
beside true n [] c new = same c.made new
beside true n (Step act ∷ rest) c new = joined (change_of act) n act rest c new
beside true n (Status subject ∷ rest) c new = same c.made new
beside true n (Scan ∷ rest) c new = same c.made new
beside true n (Record ∷ rest) c new = same c.made new
beside true n (Follow services ∷ rest) c new = same c.made new
beside true n (Clock ∷ rest) c new = same c.made new
beside true n (Refused o ∷ rest) c new = same c.made new

tail : (x : ℕ) (xs ys : List ℕ) → AreAmong xs ((x ∷ xs) ++ ys)
tail x xs ys = λ id is. or_right (x == id) (is_among id (xs ++ ys)) (before xs ys id is)

-- those that are left of these, where the first one is ended
left_of : (x : ℕ) (xs ys new : List ℕ) → ys ≡ x ∷ xs → AreAmong xs (ys ++ new)
left_of x xs ys new are = rw are (tail x xs new)

ended : (released waiters subscriptions : List ℕ) (made : Made) (c : View) (new : Made) → made.waiters ≡ waiters → made.subscriptions ≡ subscriptions
    → c.made ≡ made
    → Grows made new (ends_by (next_ended released waiters subscriptions made) c).next.made
ended (id ∷ released) waiters subscriptions made c new one two is = record {
  waiters = before made.waiters new.waiters;
  subscriptions = before made.subscriptions new.subscriptions;
}
ended [] (id ∷ waiters) subscriptions made c new one two is = record {
  waiters = left_of id waiters made.waiters new.waiters one;
  subscriptions = before made.subscriptions new.subscriptions;
}
ended [] [] (id ∷ subscriptions) made c new one two is = record {
  waiters = before made.waiters new.waiters;
  subscriptions = left_of id subscriptions made.subscriptions new.subscriptions two;
}
ended [] [] [] made c new one two is = rw is
    (record { waiters = before made.waiters new.waiters; subscriptions = before made.subscriptions new.subscriptions })

newsed : (for : Bool) (n : News) (c : View) (new : Made)
    → Grows c.made new (if for then record { next = record c { made = after_news n c.made }; todo = todo.Tell } else stays c).next.made
newsed false n c new = same c.made new
newsed true (news.Match m) c new = same c.made new
newsed true (news.Letter l) c new = same c.made new
newsed true (news.Release r) c new = record {
  waiters = after _ c.made.waiters new.waiters (fewer_left r.waiter c.made.waiters);
  subscriptions = before c.made.subscriptions new.subscriptions;
}

unscanned : (phase : ClientPhase) (o : OwnAnswer) (asked : List Request) (made : Made)
    → Grows made (made_in phase (RefuseErrand o)) (moved_by (RefuseErrand o) (record { phase = phase; asked = asked; made = made })).next.made
unscanned Idle o asked made = same made _
unscanned (Stepping n) o asked made = same made _
unscanned (UnderWay (errand.Step ch)) o asked made = same made _
unscanned (UnderWay (errand.Status subject)) o asked made = same made _
unscanned (UnderWay errand.Scan) o asked made = same made _
unscanned (UnderWay errand.Record) o asked made = same made _
unscanned (UnderWay errand.Replacement) o asked made = same made _
unscanned PutOff o asked made = same made _
unscanned (LeftStepping n) o asked made = same made _
unscanned (Left (errand.Step ch)) o asked made = same made _
unscanned (Left (errand.Status subject)) o asked made = same made _
unscanned (Left errand.Scan) o asked made = same made _
unscanned (Left errand.Record) o asked made = same made _
unscanned (Left errand.Replacement) o asked made = same made _
unscanned Leaving o asked made = same made _
unscanned Cancelling o asked made = same made _
unscanned Gone o asked made = same made _

recorded : (phase : ClientPhase) (count : ℕ) (asked : List Request) (made : Made)
    → Grows made (made_in phase (Recorded count)) (moved_by (Recorded count) (record { phase = phase; asked = asked; made = made })).next.made
recorded Idle count asked made = same made _
recorded (Stepping n) count asked made = same made _
recorded (UnderWay (errand.Step ch)) count asked made = same made _
recorded (UnderWay (errand.Status subject)) count asked made = same made _
recorded (UnderWay errand.Scan) count asked made = same made _
recorded (UnderWay errand.Record) count asked made = same made _
recorded (UnderWay errand.Replacement) count asked made = same made _
recorded PutOff count asked made = same made _
recorded (LeftStepping n) count asked made = same made _
recorded (Left (errand.Step ch)) count asked made = same made _
recorded (Left (errand.Status subject)) count asked made = same made _
recorded (Left errand.Scan) count asked made = same made _
recorded (Left errand.Record) count asked made = same made _
recorded (Left errand.Replacement) count asked made = same made _
recorded Leaving count asked made = same made _
recorded Cancelling count asked made = same made _
recorded Gone count asked made = same made _

unasked : (asked : List Request) (made : Made) (o : OwnAnswer)
    → Grows made (made_in Idle (RefuseNext o)) (moved_by (RefuseNext o) (record { phase = Idle; asked = asked; made = made })).next.made
unasked [] made o = same made _
unasked (r ∷ rest) made o = same made _

answered : (e : Errand) (r : Reply Global) (asked : List Request) (made : Made)
    → Grows made (made_in (UnderWay e) (Answered r)) (moved_by (Answered r) (record { phase = UnderWay e; asked = asked; made = made })).next.made
answered (errand.Step ch) r asked made = replied ch r made
answered (errand.Status subject) r asked made = same made _
answered errand.Scan r asked made = same made _
answered errand.Record r asked made = same made _
answered errand.Replacement r asked made = same made _

left : (e : Errand) (r : Reply Global) (asked : List Request) (made : Made)
    → Grows made (made_in (Left e) (Answered r)) (moved_by (Answered r) (record { phase = Left e; asked = asked; made = made })).next.made
left (errand.Step ch) r asked made = replied ch r made
left (errand.Status subject) r asked made = same made _
left errand.Scan r asked made = same made _
left errand.Record r asked made = same made _
left errand.Replacement r asked made = same made _

grows_in : (phase : ClientPhase) (asked : List Request) (made : Made) (event : Event)
    → Grows made (made_in phase event) (moved_by event (record { phase = phase; asked = asked; made = made })).next.made
grows_in Idle waits made (Ask coming) = asked (takes_requests (record { phase = Idle; asked = waits; made = made })) coming
    (record { phase = Idle; asked = waits; made = made }) _
grows_in Idle waits made (Begin last_step now) = first waits made last_step now _
grows_in Idle waits made (Answered r) = same made _
grows_in Idle waits made (Recorded count) = recorded Idle count waits made
grows_in Idle waits made (RefuseErrand o) = unscanned Idle o waits made
grows_in Idle waits made (RefuseNext o) = unasked waits made o
grows_in Idle waits made (Told told) = newsed (is_for told (record { phase = Idle; asked = waits; made = made })) told
    (record { phase = Idle; asked = waits; made = made }) _
grows_in Idle waits made Leave = same made _
grows_in (Stepping n) waits made (Ask coming) = asked (takes_requests (record { phase = Stepping n; asked = waits; made = made })) coming
    (record { phase = Stepping n; asked = waits; made = made }) _
grows_in (Stepping n) waits made (Begin last_step now) = beside (nat_lt n step_limit) n waits
    (record { phase = Stepping n; asked = waits; made = made }) _
grows_in (Stepping n) waits made (Answered r) = same made _
grows_in (Stepping n) waits made (Recorded count) = recorded (Stepping n) count waits made
grows_in (Stepping n) waits made (RefuseErrand o) = unscanned (Stepping n) o waits made
grows_in (Stepping n) waits made (RefuseNext o) = same made _
grows_in (Stepping n) waits made (Told told) = newsed (is_for told (record { phase = Stepping n; asked = waits; made = made })) told
    (record { phase = Stepping n; asked = waits; made = made }) _
grows_in (Stepping n) waits made Leave = same made _
grows_in (UnderWay e) waits made (Ask coming) = asked (takes_requests (record { phase = UnderWay e; asked = waits; made = made })) coming
    (record { phase = UnderWay e; asked = waits; made = made }) _
grows_in (UnderWay e) waits made (Begin last_step now) = same made _
grows_in (UnderWay e) waits made (Answered r) = answered e r waits made
grows_in (UnderWay e) waits made (Recorded count) = recorded (UnderWay e) count waits made
grows_in (UnderWay e) waits made (RefuseErrand o) = unscanned (UnderWay e) o waits made
grows_in (UnderWay e) waits made (RefuseNext o) = same made _
grows_in (UnderWay e) waits made (Told told) = newsed (is_for told (record { phase = UnderWay e; asked = waits; made = made })) told
    (record { phase = UnderWay e; asked = waits; made = made }) _
grows_in (UnderWay e) waits made Leave = same made _
grows_in PutOff waits made (Ask coming) = asked (takes_requests (record { phase = PutOff; asked = waits; made = made })) coming
    (record { phase = PutOff; asked = waits; made = made }) _
grows_in PutOff waits made (Begin last_step now) = begun_off made.put_off _ _
grows_in PutOff waits made (Answered r) = same made _
grows_in PutOff waits made (Recorded count) = recorded PutOff count waits made
grows_in PutOff waits made (RefuseErrand o) = unscanned PutOff o waits made
grows_in PutOff waits made (RefuseNext o) = same made _
grows_in PutOff waits made (Told told) = newsed (is_for told (record { phase = PutOff; asked = waits; made = made })) told
    (record { phase = PutOff; asked = waits; made = made }) _
grows_in PutOff waits made Leave = same made _
grows_in (LeftStepping n) waits made (Ask coming) = asked (takes_requests (record { phase = LeftStepping n; asked = waits; made = made })) coming
    (record { phase = LeftStepping n; asked = waits; made = made }) _
grows_in (LeftStepping n) waits made (Begin last_step now) = same made _
grows_in (LeftStepping n) waits made (Answered r) = same made _
grows_in (LeftStepping n) waits made (Recorded count) = recorded (LeftStepping n) count waits made
grows_in (LeftStepping n) waits made (RefuseErrand o) = unscanned (LeftStepping n) o waits made
grows_in (LeftStepping n) waits made (RefuseNext o) = same made _
grows_in (LeftStepping n) waits made (Told told) = newsed (is_for told (record { phase = LeftStepping n; asked = waits; made = made })) told
    (record { phase = LeftStepping n; asked = waits; made = made }) _
grows_in (LeftStepping n) waits made Leave = same made _
grows_in (Left e) waits made (Ask coming) = asked (takes_requests (record { phase = Left e; asked = waits; made = made })) coming
    (record { phase = Left e; asked = waits; made = made }) _
grows_in (Left e) waits made (Begin last_step now) = same made _
grows_in (Left e) waits made (Answered r) = left e r waits made
grows_in (Left e) waits made (Recorded count) = recorded (Left e) count waits made
grows_in (Left e) waits made (RefuseErrand o) = unscanned (Left e) o waits made
grows_in (Left e) waits made (RefuseNext o) = same made _
grows_in (Left e) waits made (Told told) = newsed (is_for told (record { phase = Left e; asked = waits; made = made })) told
    (record { phase = Left e; asked = waits; made = made }) _
grows_in (Left e) waits made Leave = same made _
grows_in Leaving waits made (Ask coming) = asked (takes_requests (record { phase = Leaving; asked = waits; made = made })) coming
    (record { phase = Leaving; asked = waits; made = made }) _
grows_in Leaving waits made (Begin last_step now) = ended made.released made.waiters made.subscriptions made
    (record { phase = Leaving; asked = waits; made = made }) _ refl refl refl
grows_in Leaving waits made (Answered r) = same made _
grows_in Leaving waits made (Recorded count) = recorded Leaving count waits made
grows_in Leaving waits made (RefuseErrand o) = unscanned Leaving o waits made
grows_in Leaving waits made (RefuseNext o) = same made _
grows_in Leaving waits made (Told told) = newsed (is_for told (record { phase = Leaving; asked = waits; made = made })) told
    (record { phase = Leaving; asked = waits; made = made }) _
grows_in Leaving waits made Leave = same made _
grows_in Cancelling waits made (Ask coming) = asked (takes_requests (record { phase = Cancelling; asked = waits; made = made })) coming
    (record { phase = Cancelling; asked = waits; made = made }) _
grows_in Cancelling waits made (Begin last_step now) = same made _
grows_in Cancelling waits made (Answered r) = same made _
grows_in Cancelling waits made (Recorded count) = recorded Cancelling count waits made
grows_in Cancelling waits made (RefuseErrand o) = unscanned Cancelling o waits made
grows_in Cancelling waits made (RefuseNext o) = same made _
grows_in Cancelling waits made (Told told) = newsed (is_for told (record { phase = Cancelling; asked = waits; made = made })) told
    (record { phase = Cancelling; asked = waits; made = made }) _
grows_in Cancelling waits made Leave = same made _
grows_in Gone waits made (Ask coming) = asked (takes_requests (record { phase = Gone; asked = waits; made = made })) coming
    (record { phase = Gone; asked = waits; made = made }) _
grows_in Gone waits made (Begin last_step now) = same made _
grows_in Gone waits made (Answered r) = same made _
grows_in Gone waits made (Recorded count) = recorded Gone count waits made
grows_in Gone waits made (RefuseErrand o) = unscanned Gone o waits made
grows_in Gone waits made (RefuseNext o) = same made _
grows_in Gone waits made (Told told) = newsed (is_for told (record { phase = Gone; asked = waits; made = made })) told
    (record { phase = Gone; asked = waits; made = made }) _
grows_in Gone waits made Leave = same made _

grows : (c : View) (event : Event) → Grows c.made (made_in c.phase event) (moved_by event c).next.made
grows c event = grows_in c.phase c.asked c.made event

-- what stands was made by it, and what is followed was asked for
record IsKept (h : History) : Type 0 where
  waiters : AreAmong h.now.made.waiters h.waiters
  subscriptions : AreAmong h.now.made.subscriptions h.subscriptions
  followed : IsAskedFor h

-- among two lists is among one of them
parts : (id : ℕ) (xs ys : List ℕ) (P : Type 0) → (is_among id xs ≡ true → P) → (is_among id ys ≡ true → P) → is_among id (xs ++ ys) ≡ true → P
parts id [] ys P one two is = two is
parts id (x ∷ xs) ys P one two is =
    or_cases (x == id) (is_among id (xs ++ ys)) P (λ here. one (or_left (x == id) (is_among id xs) here))
    (λ there. parts id xs ys P (λ mine. one (or_right (x == id) (is_among id xs) mine)) two there) is

end : (xs ys : List ℕ) → AreAmong ys (xs ++ ys)
end [] ys = λ id is. is
end (x ∷ xs) ys = λ id is. or_right (x == id) (is_among id (xs ++ ys)) (end xs ys id is)

with_new : (stood new made : List ℕ) (stands : List ℕ) → AreAmong stood made → AreAmong stands (stood ++ new) → AreAmong stands (made ++ new)
with_new stood new made stands kept grows = λ id is.
    parts id stood new _ (λ before_it. before made new id (kept id before_it)) (λ at_once. end made new id at_once) (grows id is)

kept_one : (h : History) (event : Event) → IsKept h → IsKept (happens h event)
kept_one h event kept =
    let g = grows h.now event in record {
      waiters = with_new h.now.made.waiters _ h.waiters _ kept.waiters g.waiters;
      subscriptions = with_new h.now.made.subscriptions _ h.subscriptions _ kept.subscriptions g.subscriptions;
      followed = asked_for_one h event kept.followed;
    }

right : (a b : Bool) → (a && b) ≡ true → b ≡ true
right true b both = both
right false b both = search rules

stands_now : (n : News) (h : History) → IsKept h → has_made n h.now.made ≡ true → was_made n h ≡ true
stands_now (news.Match m) h kept has = kept.subscriptions m.subscription has
stands_now (news.Release r) h kept has = kept.waiters r.waiter has
stands_now (news.Letter l) h kept has = kept.followed.follows l.name has

told_todo : (for : Bool) (n : News) (c : View)
    → (if for then record { next = record c { made = after_news n c.made }; todo = todo.Tell } else stays c).todo ≡ todo.Tell → for ≡ true
told_todo true n c is = refl
told_todo false n c is = search rules

later : (n : News) (h : History) (event : Event) → was_made n h ≡ true → was_made n (happens h event) ≡ true
later (news.Match m) h event made = before h.subscriptions _ m.subscription made
later (news.Release r) h event made = before h.waiters _ r.waiter made
later (news.Letter l) h event made = any_before (asks_for l.name) h.taken _ made

only_at : (t x : Done) (k : ℕ) → k < 1 → slice_index_or (t ∷ []) k x ≡ x → t ≡ x
only_at t x zero low is = is
only_at t x (suc k) low is = absurd (omega (arith, low))

-- a list of one has that one
only : (t x : Done) → Contains (t ∷ []) x → t ≡ x
only t x has = only_at t x has.0 has.1 has.2

abbrev done_of : Event → Todo → Done
done_of event t = record { event = event; todo = t }

told_now : (n : News) (h : History) (event : Event) → IsKept h
    → done_of event (moved_by event h.now).todo ≡ done_of (Told n) todo.Tell → was_made n h ≡ true
told_now n h event kept is =
    let told : event ≡ Told n = ap (λ (d : Done). d.event) is in
    let tells : (moved_by event h.now).todo ≡ todo.Tell = ap (λ (d : Done). d.todo) is in
    stands_now n h kept
    (right (is_here h.now.phase) (has_made n h.now.made)
    (told_todo (is_for n h.now) n h.now (subst (λ (e : Event). (moved_by e h.now).todo ≡ todo.Tell) told tells)))

told_one : (h : History) (event : Event) → IsKept h → ToldItsOwn h → ToldItsOwn (happens h event)
told_one h event kept law = λ n has.
    later n h event
    (⊎_elim (λ earlier. law n earlier) (λ at_once. told_now n h event kept (only _ _ at_once))
    (Contains-append_cases h.done (done_of event (moved_by event h.now).todo ∷ []) (done_of (Told n) todo.Tell) has))

told_all : (events : List Event) (h : History) → IsKept h → ToldItsOwn h → ToldItsOwn (run events h)
told_all [] h kept law = law
told_all (event ∷ events) h kept law = told_all events (happens h event) (kept_one h event kept) (told_one h event kept law)

pub its_own : (events : List Event) → ToldItsOwn (run events opened)
its_own events = told_all events opened (record { waiters = λ id is. is; subscriptions = λ id is. is; followed = asked_for_none })
    (λ n has. absurd (omega (arith, has.1)))
