-- Of one that is gone nothing stands.
use Rattle.std.proofs.Common.{rules, refl, ◌≡◌, ◌-◌, [], ◌∷◌, ℕ, List, Bool, true, false, Option, Some, None, cond, nat_lt, if◌then◌else◌}
use Rattle.std.specs.declared.alloc.Global.{Global}
use Rattle.tree_core.specs.declared.input.Act.{Act}
use Rattle.tree_core.specs.declared.reply.Reply.{Reply}
use Rattle.server_rules.specs.declared.own_answer.OwnAnswer.{OwnAnswer}
use Rattle.server_rules.specs.declared.phase.Errand.{Errand}
use Rattle.server_rules.specs.declared.phase.Errand.TheVariants as errand
use Rattle.server_rules.specs.declared.phase.ClientPhase.{ClientPhase}
use Rattle.server_rules.specs.declared.phase.ClientPhase.TheVariants.{Idle, Stepping, UnderWay, PutOff, LeftStepping, Left, Leaving, Cancelling, Gone}
use Rattle.server_rules.specs.declared.requests.Request.{Request}
use Rattle.server_rules.specs.declared.requests.Request.TheVariants.{Step, Status, Scan, Record, Follow, Clock, Refused}
use Rattle.server_rules.specs.declared.made_things.Admission.{Admission}
use Rattle.server_rules.specs.declared.made_things.Admission.TheVariants as admission
use Rattle.server_rules.specs.declared.made_things.MadeChange.{MadeChange}
use Rattle.server_rules.specs.declared.made_things.MadeChange.TheVariants as change
use Rattle.server_rules.specs.declared.todo.News.{News}
use Rattle.server_rules.specs.declared.todo.Todo.TheVariants as todo
use Rattle.server_rules.specs.Connection.{View, Moved, stays, takes_requests}
use Rattle.server_rules.specs.NewsTold.{after_news, is_for}
use Rattle.server_rules.specs.Begin.{begin_admitted, begin_next, begin_put_off, ends_by, joins, replaces, step_limit, steps_in}
use Rattle.server_rules.specs.Made.{Made, admission_of, change_of, next_ended, nothing_made}
use Rattle.server_rules.specs.StatusAge.{is_recent}
use Rattle.server_laws.specs.History.{Event, Ask, Begin, Answered, Recorded, RefuseErrand, RefuseNext, Told, Leave, History, happens, moved_by, opened, run}
use Rattle.server_laws.specs.Laws.{NothingIsLeft}

-- whether it is gone
abbrev is_gone : ClientPhase → Bool
is_gone Gone = true
is_gone phase = false

abbrev IsThere : Moved → Type 0
IsThere m = is_gone m.next.phase ≡ false

asked : (takes : Bool) (coming : List Request) (c : View) → is_gone c.phase ≡ false
    → is_gone (if takes then record c { asked = coming } else c).phase ≡ false
asked true coming c there = there
asked false coming c there = there

steps : (ch : MadeChange) (n : ℕ) (act : Act Global) (c : View) → IsThere (steps_in ch n act c)
steps change.Other n act c = refl
steps change.MakesWaiter n act c = refl
steps change.MakesSubscription n act c = refl
steps (change.EndsWaiter id) n act c = refl
steps (change.EndsSubscription id) n act c = refl

replaced : (released : List ℕ) (act : Act Global) (c : View) → is_gone c.phase ≡ false → IsThere (replaces released act c)
replaced [] act c there = there
replaced (id ∷ released) act c there = refl

admitted : (a : Admission) (act : Act Global) (c : View) → is_gone c.phase ≡ false → IsThere (begin_admitted a act c)
admitted admission.Admitted act c there = steps (change_of act) 0 act c
admitted admission.AfterReleased act c there = replaced c.made.released act c there
admitted admission.Refused act c there = there

chosen : (is : Bool) (one other : Moved) → IsThere one → IsThere other → is_gone (cond is one other).next.phase ≡ false
chosen true one other first second = first
chosen false one other first second = second

first : (waits : List Request) (made : Made) (last_step now : ℕ)
    → IsThere (moved_by (Begin last_step now) (record { phase = Idle; asked = waits; made = made }))
first [] made last_step now = refl
first (Step act ∷ rest) made last_step now = admitted (admission_of act made) act (record { phase = Idle; asked = rest; made = made }) refl
first (Status subject ∷ rest) made last_step now = chosen (is_recent last_step now) _ _ refl refl
first (Scan ∷ rest) made last_step now = refl
first (Record ∷ rest) made last_step now = refl
first (Follow services ∷ rest) made last_step now = refl
first (Clock ∷ rest) made last_step now = refl
first (Refused o ∷ rest) made last_step now = refl

begun_off : (act : Option (Act Global)) (c : View) → IsThere (begin_put_off act c)
begun_off (Some act) c = refl
begun_off None c = refl

joined : (ch : MadeChange) (n : ℕ) (act : Act Global) (rest : List Request) (c : View) → is_gone c.phase ≡ false → IsThere (joins ch n act rest c)
joined change.Other n act rest c there = refl
joined change.MakesWaiter n act rest c there = there
joined change.MakesSubscription n act rest c there = there
joined (change.EndsWaiter id) n act rest c there = there
joined (change.EndsSubscription id) n act rest c there = there

beside : (few : Bool) (n : ℕ) (waits : List Request) (c : View) → is_gone c.phase ≡ false
    → is_gone (if few then begin_next waits n c else stays c).next.phase ≡ false
beside false n waits c there = there
beside true n [] c there = there
beside true n (Step act ∷ rest) c there = joined (change_of act) n act rest c there
beside true n (Status subject ∷ rest) c there = there
beside true n (Scan ∷ rest) c there = there
beside true n (Record ∷ rest) c there = there
beside true n (Follow services ∷ rest) c there = there
beside true n (Clock ∷ rest) c there = there
beside true n (Refused o ∷ rest) c there = there

one_less : (few : Bool) (more less : ClientPhase) → is_gone more ≡ false → is_gone less ≡ false → is_gone (if few then less else more) ≡ false
one_less true more less here there = there
one_less false more less here there = here

told_there : (for : Bool) (n : News) (c : View) → is_gone c.phase ≡ false
    → is_gone (if for then record { next = record c { made = after_news n c.made }; todo = todo.Tell } else stays c).next.phase ≡ false
told_there true n c there = there
told_there false n c there = there

finished : (e : Errand) (r : Reply Global) (waits : List Request) (made : Made)
    → IsThere (moved_by (Answered r) (record { phase = UnderWay e; asked = waits; made = made }))
finished (errand.Step ch) r waits made = refl
finished (errand.Status subject) r waits made = refl
finished errand.Scan r waits made = refl
finished errand.Record r waits made = refl
finished errand.Replacement r waits made = refl

finished_left : (e : Errand) (r : Reply Global) (waits : List Request) (made : Made)
    → IsThere (moved_by (Answered r) (record { phase = Left e; asked = waits; made = made }))
finished_left (errand.Step ch) r waits made = refl
finished_left (errand.Status subject) r waits made = refl
finished_left errand.Scan r waits made = refl
finished_left errand.Record r waits made = refl
finished_left errand.Replacement r waits made = refl

recorded_underway : (e : Errand) (count : ℕ) (waits : List Request) (made : Made)
    → IsThere (moved_by (Recorded count) (record { phase = UnderWay e; asked = waits; made = made }))
recorded_underway (errand.Step ch) count waits made = refl
recorded_underway (errand.Status subject) count waits made = refl
recorded_underway errand.Scan count waits made = refl
recorded_underway errand.Record count waits made = refl
recorded_underway errand.Replacement count waits made = refl

recorded_left : (e : Errand) (count : ℕ) (waits : List Request) (made : Made)
    → IsThere (moved_by (Recorded count) (record { phase = Left e; asked = waits; made = made }))
recorded_left (errand.Step ch) count waits made = refl
recorded_left (errand.Status subject) count waits made = refl
recorded_left errand.Scan count waits made = refl
recorded_left errand.Record count waits made = refl
recorded_left errand.Replacement count waits made = refl

unscanned_underway : (e : Errand) (o : OwnAnswer) (waits : List Request) (made : Made)
    → IsThere (moved_by (RefuseErrand o) (record { phase = UnderWay e; asked = waits; made = made }))
unscanned_underway (errand.Step ch) o waits made = refl
unscanned_underway (errand.Status subject) o waits made = refl
unscanned_underway errand.Scan o waits made = refl
unscanned_underway errand.Record o waits made = refl
unscanned_underway errand.Replacement o waits made = refl

unscanned_left : (e : Errand) (o : OwnAnswer) (waits : List Request) (made : Made)
    → IsThere (moved_by (RefuseErrand o) (record { phase = Left e; asked = waits; made = made }))
unscanned_left (errand.Step ch) o waits made = refl
unscanned_left (errand.Status subject) o waits made = refl
unscanned_left errand.Scan o waits made = refl
unscanned_left errand.Record o waits made = refl
unscanned_left errand.Replacement o waits made = refl

unasked : (waits : List Request) (made : Made) (o : OwnAnswer)
    → IsThere (moved_by (RefuseNext o) (record { phase = Idle; asked = waits; made = made }))
unasked [] made o = refl
unasked (r ∷ rest) made o = refl

-- while it isn't leaving it doesn't go
there_in : (phase : ClientPhase) (waits : List Request) (made : Made) (event : Event) → is_gone phase ≡ false → (phase ≡ Leaving → ⊥)
    → IsThere (moved_by event (record { phase = phase; asked = waits; made = made }))
there_in Idle waits made (Ask coming) here stays_here = asked (takes_requests (record { phase = Idle; asked = waits; made = made })) coming
    (record { phase = Idle; asked = waits; made = made }) refl
there_in Idle waits made (Begin last_step now) here stays_here = first waits made last_step now
there_in Idle waits made (Answered r) here stays_here = refl
there_in Idle waits made (Recorded count) here stays_here = refl
there_in Idle waits made (RefuseErrand o) here stays_here = refl
there_in Idle waits made (RefuseNext o) here stays_here = unasked waits made o
there_in Idle waits made (Told told) here stays_here = told_there (is_for told (record { phase = Idle; asked = waits; made = made })) told
    (record { phase = Idle; asked = waits; made = made }) refl
there_in Idle waits made Leave here stays_here = refl
there_in (Stepping n) waits made (Ask coming) here stays_here = asked
    (takes_requests (record { phase = Stepping n; asked = waits; made = made })) coming
    (record { phase = Stepping n; asked = waits; made = made }) refl
there_in (Stepping n) waits made (Begin last_step now) here stays_here = beside (nat_lt n step_limit) n waits
    (record { phase = Stepping n; asked = waits; made = made }) refl
there_in (Stepping n) waits made (Answered r) here stays_here = one_less (nat_lt n 2) (Stepping (n - 1)) Idle refl refl
there_in (Stepping n) waits made (Recorded count) here stays_here = refl
there_in (Stepping n) waits made (RefuseErrand o) here stays_here = refl
there_in (Stepping n) waits made (RefuseNext o) here stays_here = refl
there_in (Stepping n) waits made (Told told) here stays_here = told_there
    (is_for told (record { phase = Stepping n; asked = waits; made = made })) told (record { phase = Stepping n; asked = waits; made = made }) refl
there_in (Stepping n) waits made Leave here stays_here = refl
there_in (UnderWay e) waits made (Ask coming) here stays_here = asked
    (takes_requests (record { phase = UnderWay e; asked = waits; made = made })) coming
    (record { phase = UnderWay e; asked = waits; made = made }) refl
there_in (UnderWay e) waits made (Begin last_step now) here stays_here = refl
there_in (UnderWay e) waits made (Answered r) here stays_here = finished e r waits made
there_in (UnderWay e) waits made (Recorded count) here stays_here = recorded_underway e count waits made
there_in (UnderWay e) waits made (RefuseErrand o) here stays_here = unscanned_underway e o waits made
there_in (UnderWay e) waits made (RefuseNext o) here stays_here = refl
there_in (UnderWay e) waits made (Told told) here stays_here = told_there
    (is_for told (record { phase = UnderWay e; asked = waits; made = made })) told (record { phase = UnderWay e; asked = waits; made = made }) refl
there_in (UnderWay e) waits made Leave here stays_here = refl
there_in PutOff waits made (Ask coming) here stays_here = asked (takes_requests (record { phase = PutOff; asked = waits; made = made })) coming
    (record { phase = PutOff; asked = waits; made = made }) refl
there_in PutOff waits made (Begin last_step now) here stays_here = begun_off made.put_off _
there_in PutOff waits made (Answered r) here stays_here = refl
there_in PutOff waits made (Recorded count) here stays_here = refl
there_in PutOff waits made (RefuseErrand o) here stays_here = refl
there_in PutOff waits made (RefuseNext o) here stays_here = refl
there_in PutOff waits made (Told told) here stays_here = told_there (is_for told (record { phase = PutOff; asked = waits; made = made })) told
    (record { phase = PutOff; asked = waits; made = made }) refl
there_in PutOff waits made Leave here stays_here = refl
there_in (LeftStepping n) waits made (Ask coming) here stays_here = asked
    (takes_requests (record { phase = LeftStepping n; asked = waits; made = made })) coming
    (record { phase = LeftStepping n; asked = waits; made = made }) refl
there_in (LeftStepping n) waits made (Begin last_step now) here stays_here = refl
there_in (LeftStepping n) waits made (Answered r) here stays_here = one_less (nat_lt n 2) (LeftStepping (n - 1)) Leaving refl refl
there_in (LeftStepping n) waits made (Recorded count) here stays_here = refl
there_in (LeftStepping n) waits made (RefuseErrand o) here stays_here = refl
there_in (LeftStepping n) waits made (RefuseNext o) here stays_here = refl
there_in (LeftStepping n) waits made (Told told) here stays_here = told_there
    (is_for told (record { phase = LeftStepping n; asked = waits; made = made })) told
    (record { phase = LeftStepping n; asked = waits; made = made }) refl
there_in (LeftStepping n) waits made Leave here stays_here = refl
there_in (Left e) waits made (Ask coming) here stays_here = asked (takes_requests (record { phase = Left e; asked = waits; made = made })) coming
    (record { phase = Left e; asked = waits; made = made }) refl
there_in (Left e) waits made (Begin last_step now) here stays_here = refl
there_in (Left e) waits made (Answered r) here stays_here = finished_left e r waits made
there_in (Left e) waits made (Recorded count) here stays_here = recorded_left e count waits made
there_in (Left e) waits made (RefuseErrand o) here stays_here = unscanned_left e o waits made
there_in (Left e) waits made (RefuseNext o) here stays_here = refl
there_in (Left e) waits made (Told told) here stays_here = told_there (is_for told (record { phase = Left e; asked = waits; made = made })) told
    (record { phase = Left e; asked = waits; made = made }) refl
there_in (Left e) waits made Leave here stays_here = refl
there_in Leaving waits made event here stays_here = absurd (stays_here refl)
there_in Cancelling waits made (Ask coming) here stays_here = asked
    (takes_requests (record { phase = Cancelling; asked = waits; made = made })) coming
    (record { phase = Cancelling; asked = waits; made = made }) refl
there_in Cancelling waits made (Begin last_step now) here stays_here = refl
there_in Cancelling waits made (Answered r) here stays_here = refl
there_in Cancelling waits made (Recorded count) here stays_here = refl
there_in Cancelling waits made (RefuseErrand o) here stays_here = refl
there_in Cancelling waits made (RefuseNext o) here stays_here = refl
there_in Cancelling waits made (Told told) here stays_here = told_there (is_for told (record { phase = Cancelling; asked = waits; made = made })) told
    (record { phase = Cancelling; asked = waits; made = made }) refl
there_in Cancelling waits made Leave here stays_here = refl
there_in Gone waits made event here stays_here = search rules

-- where it goes, nothing stands
ends_bare : (released waiters subscriptions : List ℕ) (made : Made) (c : View) → made.released ≡ released → made.waiters ≡ waiters
    → made.subscriptions ≡ subscriptions → c.made ≡ made
    → (ends_by (next_ended released waiters subscriptions made) c).next.phase ≡ Gone
    → (ends_by (next_ended released waiters subscriptions made) c).next.made ≡ nothing_made
ends_bare (id ∷ released) waiters subscriptions made c one two three is gone = search rules
ends_bare [] (id ∷ waiters) subscriptions made c one two three is gone = search rules
ends_bare [] [] (id ∷ subscriptions) made c one two three is gone = search rules
ends_bare [] [] [] made c one two three is gone = rw (is, one, two, three) refl

leaving_bare : (waits : List Request) (made : Made) (event : Event)
    → (moved_by event (record { phase = Leaving; asked = waits; made = made })).next.phase ≡ Gone
    → (moved_by event (record { phase = Leaving; asked = waits; made = made })).next.made ≡ nothing_made
leaving_bare waits made (Begin last_step now) gone = ends_bare made.released made.waiters made.subscriptions made _ refl refl refl refl gone
leaving_bare waits made (Ask coming) gone = search rules
leaving_bare waits made (Answered r) gone = search rules
leaving_bare waits made (Recorded count) gone = search rules
leaving_bare waits made (RefuseErrand o) gone = search rules
leaving_bare waits made (RefuseNext o) gone = search rules
leaving_bare waits made (Told told) gone = search rules
leaving_bare waits made Leave gone = search rules

gone_bare : (waits : List Request) (made : Made) (event : Event) → made ≡ nothing_made
    → (moved_by event (record { phase = Gone; asked = waits; made = made })).next.made ≡ nothing_made
gone_bare waits made (Begin last_step now) is = is
gone_bare waits made (Ask coming) is = is
gone_bare waits made (Answered r) is = is
gone_bare waits made (Recorded count) is = is
gone_bare waits made (RefuseErrand o) is = is
gone_bare waits made (RefuseNext o) is = is
gone_bare waits made (Told told) is = is
gone_bare waits made Leave is = is

is_gone_of : (phase : ClientPhase) → phase ≡ Gone → is_gone phase ≡ true
is_gone_of phase is = rw is refl

away : (phase : ClientPhase) (waits : List Request) (made : Made) (event : Event) → is_gone phase ≡ false → (phase ≡ Leaving → ⊥)
    → (moved_by event (record { phase = phase; asked = waits; made = made })).next.phase ≡ Gone
    → (moved_by event (record { phase = phase; asked = waits; made = made })).next.made ≡ nothing_made
away phase waits made event here stays_here gone =
    let there = there_in phase waits made event here stays_here in
    let went = is_gone_of _ gone in search rules

bare_in : (phase : ClientPhase) (waits : List Request) (made : Made) (event : Event) → (phase ≡ Gone → made ≡ nothing_made)
    → (moved_by event (record { phase = phase; asked = waits; made = made })).next.phase ≡ Gone
    → (moved_by event (record { phase = phase; asked = waits; made = made })).next.made ≡ nothing_made
bare_in Idle waits made event bare gone = away Idle waits made event refl (λ is. search rules) gone
bare_in (Stepping n) waits made event bare gone = away (Stepping n) waits made event refl (λ is. search rules) gone
bare_in (UnderWay e) waits made event bare gone = away (UnderWay e) waits made event refl (λ is. search rules) gone
bare_in PutOff waits made event bare gone = away PutOff waits made event refl (λ is. search rules) gone
bare_in (LeftStepping n) waits made event bare gone = away (LeftStepping n) waits made event refl (λ is. search rules) gone
bare_in (Left e) waits made event bare gone = away (Left e) waits made event refl (λ is. search rules) gone
bare_in Leaving waits made event bare gone = leaving_bare waits made event gone
bare_in Cancelling waits made event bare gone = away Cancelling waits made event refl (λ is. search rules) gone
bare_in Gone waits made event bare gone = gone_bare waits made event (bare refl)

kept : (events : List Event) (h : History) → NothingIsLeft h → NothingIsLeft (run events h)
kept [] h law = law
kept (event ∷ events) h law = kept events (happens h event) (bare_in h.now.phase h.now.asked h.now.made event law)

pub nothing_left : (events : List Event) → NothingIsLeft (run events opened)
nothing_left events = kept events opened (λ gone. search rules)
