-- Each event keeps that requests are answered in order.
use Rattle.std.proofs.Common.{rules, arith, refl, sym, ap, subst, ◌∙◌, ◌≡◌, ◌≤◌, ◌-◌, ◌++◌, [], ◌∷◌, ℕ, suc, List, Bool, true, false, All, Option, Some, None, append_assoc, length, nat_lt, if◌then◌else◌}
use Rattle.std.proofs.lemmas.Bool.{ltb-true, ltb-false}
use Rattle.std.proofs.lemmas.Grind.{flat_map-append}
use Rattle.std.proofs.lemmas.List.{append-nil, length-append}
use Rattle.std.proofs.lemmas.List.Elements.{All-append, All-cons, All-head, All-tail}
use Rattle.std.specs.declared.alloc.Global.{Global}
use Rattle.tree_core.specs.declared.input.Act.{Act}
use Rattle.tree_core.specs.declared.input.Act.TheVariants.{Tick}
use Rattle.tree_core.specs.declared.reply.Reply.{Reply}
use Rattle.server_rules.specs.declared.own_answer.OwnAnswer.{OwnAnswer}
use Rattle.server_rules.specs.declared.own_answer.OwnAnswer.TheVariants as own
use Rattle.server_rules.specs.declared.phase.Errand.{Errand}
use Rattle.server_rules.specs.declared.phase.Errand.TheVariants as errand
use Rattle.server_rules.specs.declared.phase.ClientPhase.{ClientPhase}
use Rattle.server_rules.specs.declared.phase.ClientPhase.TheVariants.{Idle, Stepping, UnderWay, PutOff, LeftStepping, Left, Leaving, Cancelling, Gone}
use Rattle.server_rules.specs.declared.requests.Request.{Request}
use Rattle.server_rules.specs.declared.requests.Request.TheVariants.{Step, Status, Scan, Record, Follow, Clock, Refused}
use Rattle.server_rules.specs.declared.made_things.Admission.{Admission}
use Rattle.server_rules.specs.declared.made_things.Admission.TheVariants as admission
use Rattle.server_rules.specs.declared.made_things.MadeChange.{MadeChange}
use Rattle.server_rules.specs.declared.made_things.MadeChange.TheVariants as change
use Rattle.server_rules.specs.declared.status_lines.Subject.{Subject}
use Rattle.server_rules.specs.declared.todo.Answer.{Answer}
use Rattle.server_rules.specs.declared.todo.Answer.TheVariants as answer
use Rattle.server_rules.specs.declared.todo.News.{News}
use Rattle.server_rules.specs.declared.todo.Todo.{Todo}
use Rattle.server_rules.specs.declared.todo.Todo.TheVariants as todo
use Rattle.server_rules.specs.Connection.{View, Moved, answers_by, hands_in, is_here, stays}
use Rattle.server_rules.specs.NewsTold.{is_for}
use Rattle.server_rules.specs.ErrandEnds.{fewer}
use Rattle.server_rules.specs.Begin.{begin_admitted, begin_next, begin_put_off, joins, replaces, step_limit, steps_in}
use Rattle.server_rules.specs.Made.{Made, admission_of, change_of}
use Rattle.server_rules.specs.StatusAge.{is_recent}
use Rattle.server_laws.specs.History.{Done, Event, Ask, Begin, Answered, Recorded, RefuseErrand, RefuseNext, Told, Leave, History, happens, moved_by, opened, run, taken_by}
use Rattle.server_laws.specs.Laws.{AnsweredInOrder, Answers, AreAnswered, IsBegun, IsBegunOn, IsStep, Pending, answered_by, answers, posted_of}
use Rattle.server_laws.proofs.Away.{away, takes_nothing}

-- requests that come later are answered after those before
more_left : (requests : List Request) (given : List Answer) (left more : List Request)
    → AreAnswered requests given left → AreAnswered (requests ++ more) given (left ++ more)
more_left requests [] left more are = ap (λ (rs : List Request). rs ++ more) are
more_left [] (a ∷ given) left more are = absurd are
more_left (r ∷ requests) (a ∷ given) left more are = (are.0, more_left requests given left more are.1)

-- what is left is answered later
go_on : (requests : List Request) (given : List Answer) (mid : List Request) (later : List Answer) (left : List Request)
    → AreAnswered requests given mid → AreAnswered mid later left → AreAnswered requests (given ++ later) left
go_on requests [] mid later left are rest = subst (λ rs. AreAnswered rs later left) (sym are) rest
go_on [] (a ∷ given) mid later left are rest = absurd are
go_on (r ∷ requests) (a ∷ given) mid later left are rest = (are.0, go_on requests given mid later left are.1 rest)

-- what a move does to what is begun: that, with what waits and what is taken, is answered as far as something is, and what is left is begun
-- afterwards, or waits
record Turns (c : View) (taken : List Request) (m : Moved) (begun : List Request) : Type 0 where
  later : List Request
  answered : AreAnswered ((begun ++ c.asked) ++ taken) (answered_by m.todo) (later ++ m.next.asked)
  is_begun : IsBegun m.next.phase later

-- or the client isn't there afterwards, and nothing is taken or answered
data Turn (c : View) (taken : List Request) (m : Moved) : Type 0 where
  Here : is_here c.phase ≡ true → ((begun : List Request) → IsBegun c.phase begun → Turns c taken m begun) → Turn c taken m
  Away : is_here m.next.phase ≡ false → taken ≡ [] → answered_by m.todo ≡ [] → Turn c taken m

-- nothing happens
stays_turn : (c : View) → is_here c.phase ≡ true → Turn c [] (stays c)
stays_turn c here = Here here (λ begun is. record { later = begun; answered = append-nil (begun ++ c.asked); is_begun = is })

asks_turn : (phase : ClientPhase) (asked coming : List Request) (made : Made) → is_here phase ≡ true
    → Turn (record { phase = phase; asked = asked; made = made }) (taken_by (Ask coming) (record { phase = phase; asked = asked; made = made }))
    (moved_by (Ask coming) (record { phase = phase; asked = asked; made = made }))
asks_turn phase [] coming made here = rw here (Here here (λ begun is. record {
  later = begun;
  answered = ap (λ (rs : List Request). rs ++ coming) (append-nil begun);
  is_begun = is;
}))
asks_turn phase (r ∷ asked) coming made here = rw here (stays_turn (record { phase = phase; asked = r ∷ asked; made = made }) here)

-- the server's own answer may answer any
own_answers : (r : Request) (o : OwnAnswer) → Answers r (answer.Own o)
own_answers (Step act) o = tt
own_answers (Status subject) o = tt
own_answers Scan o = tt
own_answers Record o = tt
own_answers (Follow services) o = tt
own_answers Clock o = tt
own_answers (Refused why) o = tt

-- what posts nothing answers nothing
no_answer : (t : Todo) → posted_of t ≡ [] → answered_by t ≡ []
no_answer todo.Nothing silent = refl
no_answer (todo.Submit act) silent = refl
no_answer todo.Scan silent = refl
no_answer todo.Record silent = refl
no_answer (todo.Give a) silent = search rules
no_answer todo.Tell silent = refl
no_answer todo.Free silent = refl

-- a request that is answered at once
at_once : (r : Request) (a : Answer) (rest : List Request) (made made' : Made) → AreAnswered (r ∷ []) (a ∷ []) []
    → Turn (record { phase = Idle; asked = r ∷ rest; made = made }) [] (answers_by a (record { phase = Idle; asked = rest; made = made' }))
at_once r a rest made made' is = Here refl (λ begun none. record {
  later = [];
  answered = rw none (is.0, append-nil rest);
  is_begun = refl;
})

-- a request that is begun
begins : (r : Request) (p : ClientPhase) (t : Todo) (rest : List Request) (made made' : Made) → answered_by t ≡ [] → IsBegun p (r ∷ [])
    → Turn (record { phase = Idle; asked = r ∷ rest; made = made }) [] (record { next = record { phase = p; asked = rest; made = made' }; todo = t })
begins r p t rest made made' silent is = Here refl (λ begun none. record {
  later = r ∷ [];
  answered = rw (none, silent) (append-nil (r ∷ rest));
  is_begun = is;
})

one_step : (act : Act Global) → All IsStep (Step act ∷ [])
one_step act = All-cons IsStep (Step act) [] tt (search rules)

steps_turn : (ch : MadeChange) (act : Act Global) (rest : List Request) (made : Made)
    → Turn (record { phase = Idle; asked = Step act ∷ rest; made = made }) [] (steps_in ch 0 act (record { phase = Idle; asked = rest; made = made }))
steps_turn change.Other act rest made = begins (Step act) (Stepping 1) (todo.Submit act) rest made made refl (omega arith, refl, one_step act)
steps_turn change.MakesWaiter act rest made = begins (Step act) _ (todo.Submit act) rest made made refl (act, refl)
steps_turn change.MakesSubscription act rest made = begins (Step act) _ (todo.Submit act) rest made made refl (act, refl)
steps_turn (change.EndsWaiter id) act rest made = begins (Step act) _ (todo.Submit act) rest made made refl (act, refl)
steps_turn (change.EndsSubscription id) act rest made = begins (Step act) _ (todo.Submit act) rest made made refl (act, refl)

replaces_turn : (released : List ℕ) (act : Act Global) (rest : List Request) (made : Made)
    → Turn (record { phase = Idle; asked = Step act ∷ rest; made = made }) []
    (replaces released act (record { phase = Idle; asked = rest; made = made }))
replaces_turn [] act rest made = at_once (Step act) (answer.Own own.Busy) rest made made (tt, refl)
replaces_turn (id ∷ released) act rest made = begins (Step act) _ _ rest made _ refl (act, refl)

admitted_turn : (a : Admission) (act : Act Global) (rest : List Request) (made : Made)
    → Turn (record { phase = Idle; asked = Step act ∷ rest; made = made }) []
    (begin_admitted a act (record { phase = Idle; asked = rest; made = made }))
admitted_turn admission.Admitted act rest made = steps_turn (change_of act) act rest made
admitted_turn admission.AfterReleased act rest made = replaces_turn made.released act rest made
admitted_turn admission.Refused act rest made = at_once (Step act) (answer.Own own.Busy) rest made made (tt, refl)

status_turn : (recent : Bool) (subject : Subject) (rest : List Request) (made : Made)
    → Turn (record { phase = Idle; asked = Status subject ∷ rest; made = made }) []
    (if recent then answers_by (answer.Status subject) (record { phase = Idle; asked = rest; made = made })
    else hands_in (errand.Status subject) Tick (record { phase = Idle; asked = rest; made = made }))
status_turn true subject rest made = at_once (Status subject) (answer.Status subject) rest made made (refl, refl)
status_turn false subject rest made = begins (Status subject) _ _ rest made made refl refl

idle_turn : (asked : List Request) (made : Made) (last_step now : ℕ)
    → Turn (record { phase = Idle; asked = asked; made = made }) []
    (moved_by (Begin last_step now) (record { phase = Idle; asked = asked; made = made }))
idle_turn [] made last_step now = stays_turn _ refl
idle_turn (Step act ∷ rest) made last_step now = admitted_turn (admission_of act made) act rest made
idle_turn (Status subject ∷ rest) made last_step now = status_turn (is_recent last_step now) subject rest made
idle_turn (Scan ∷ rest) made last_step now = begins Scan (UnderWay errand.Scan) todo.Scan rest made made refl refl
idle_turn (Record ∷ rest) made last_step now = begins Record (UnderWay errand.Record) todo.Record rest made made refl refl
idle_turn (Follow services ∷ rest) made last_step now = at_once (Follow services) answer.Following rest made _ (tt, refl)
idle_turn (Clock ∷ rest) made last_step now = at_once Clock answer.Clock rest made made (tt, refl)
idle_turn (Refused o ∷ rest) made last_step now = at_once (Refused o) (answer.Own o) rest made made (tt, refl)

-- beside steps that are under way, one more
grown : (begun : List Request) (act : Act Global) (rest : List Request)
    → (begun ++ Step act ∷ rest) ++ [] ≡ (begun ++ Step act ∷ []) ++ rest
grown begun act rest = append-nil (begun ++ Step act ∷ rest) ∙ sym (append_assoc begun (Step act ∷ []) rest)

all_steps : (begun : List Request) (act : Act Global) → All IsStep begun → All IsStep (begun ++ Step act ∷ [])
all_steps begun act all = All-append IsStep begun (Step act ∷ []) all (one_step act)

joins_turn : (ch : MadeChange) (n : ℕ) (act : Act Global) (rest : List Request) (made : Made)
    → Turn (record { phase = Stepping n; asked = Step act ∷ rest; made = made }) []
    (joins ch n act rest (record { phase = Stepping n; asked = Step act ∷ rest; made = made }))
joins_turn change.Other n act rest made = Here refl (λ begun is. record {
  later = begun ++ Step act ∷ [];
  answered = grown begun act rest;
  is_begun = (omega arith, rw (length-append begun (Step act ∷ []), is.1) refl, all_steps begun act is.2);
})
joins_turn change.MakesWaiter n act rest made = stays_turn _ refl
joins_turn change.MakesSubscription n act rest made = stays_turn _ refl
joins_turn (change.EndsWaiter id) n act rest made = stays_turn _ refl
joins_turn (change.EndsSubscription id) n act rest made = stays_turn _ refl

beside_turn : (few : Bool) (n : ℕ) (asked : List Request) (made : Made)
    → Turn (record { phase = Stepping n; asked = asked; made = made }) []
    (if few then begin_next asked n (record { phase = Stepping n; asked = asked; made = made })
    else stays (record { phase = Stepping n; asked = asked; made = made }))
beside_turn false n asked made = stays_turn _ refl
beside_turn true n [] made = stays_turn _ refl
beside_turn true n (Step act ∷ rest) made = joins_turn (change_of act) n act rest made
beside_turn true n (Status subject ∷ rest) made = stays_turn _ refl
beside_turn true n (Scan ∷ rest) made = stays_turn _ refl
beside_turn true n (Record ∷ rest) made = stays_turn _ refl
beside_turn true n (Follow services ∷ rest) made = stays_turn _ refl
beside_turn true n (Clock ∷ rest) made = stays_turn _ refl
beside_turn true n (Refused o ∷ rest) made = stays_turn _ refl

-- where not fewer than two are under way, one is left over
more_left_over : (n count : ℕ) → nat_lt n 2 ≡ false → suc count ≡ n → 1 ≤ n - 1
more_left_over n count large is = omega (arith, ltb-false n 2 large, is)

-- the first of the steps that are under way is answered
one_less : (few : Bool) (n : ℕ) (first : Request) (begun asked : List Request) (made : Made) → nat_lt n 2 ≡ few → suc (length begun) ≡ n
    → All IsStep (first ∷ begun)
    → Turns (record { phase = Stepping n; asked = asked; made = made }) []
    (answers_by answer.TheReply (record { phase = if few then Idle else Stepping (n - 1); asked = asked; made = made })) (first ∷ begun)
one_less true n (Step act) [] asked made small count all = record { later = []; answered = (tt, append-nil asked); is_begun = refl }
one_less true n (Step act) (r ∷ begun) asked made small count all = absurd (omega (arith, ltb-true n 2 small, count))
one_less false n (Step act) begun asked made small count all = record {
  later = begun;
  answered = (tt, append-nil (begun ++ asked));
  is_begun = (more_left_over n (length begun) small count, omega (arith, count), All-tail IsStep (Step act) begun all);
}
one_less few n (Status subject) begun asked made small count all = absurd (All-head IsStep (Status subject) begun all)
one_less few n Scan begun asked made small count all = absurd (All-head IsStep Scan begun all)
one_less few n Record begun asked made small count all = absurd (All-head IsStep Record begun all)
one_less few n (Follow services) begun asked made small count all = absurd (All-head IsStep (Follow services) begun all)
one_less few n Clock begun asked made small count all = absurd (All-head IsStep Clock begun all)
one_less few n (Refused o) begun asked made small count all = absurd (All-head IsStep (Refused o) begun all)

stepped : (n : ℕ) (begun asked : List Request) (made : Made) → IsBegun (Stepping n) begun
    → Turns (record { phase = Stepping n; asked = asked; made = made }) []
    (answers_by answer.TheReply (record { phase = fewer Stepping Idle n; asked = asked; made = made })) begun
stepped n [] asked made is = absurd (omega (arith, is.0, is.1))
stepped n (first ∷ begun) asked made is = one_less (nat_lt n 2) n first begun asked made refl is.1 is.2

-- what was under way by itself is answered
alone : (r : Request) (a : Answer) (begun asked : List Request) (c : View) (made : Made) → begun ≡ r ∷ [] → c.asked ≡ asked
    → AreAnswered (r ∷ []) (a ∷ []) []
    → Turns c [] (answers_by a (record { phase = Idle; asked = asked; made = made })) begun
alone r a begun asked c made one waits is = record { later = []; answered = rw (one, waits) (is.0, append-nil asked); is_begun = refl }

finished : (e : Errand) (r : Reply Global) (begun asked : List Request) (made : Made) → IsBegunOn e begun
    → Turns (record { phase = UnderWay e; asked = asked; made = made }) []
    (moved_by (Answered r) (record { phase = UnderWay e; asked = asked; made = made })) begun
finished (errand.Step ch) r begun asked made is = alone (Step is.0) answer.TheReply begun asked _ _ is.1 refl (tt, refl)
finished (errand.Status subject) r begun asked made is = alone (Status subject) (answer.Status subject) begun asked _ _ is refl (refl, refl)
finished errand.Scan r begun asked made is = alone Scan answer.TheReply begun asked _ _ is refl (tt, refl)
finished errand.Record r begun asked made is = record { later = begun; answered = append-nil (begun ++ asked); is_begun = is }
finished errand.Replacement r begun asked made is = record { later = begun; answered = append-nil (begun ++ asked); is_begun = is }

unscanned : (e : Errand) (o : OwnAnswer) (asked : List Request) (made : Made)
    → Turn (record { phase = UnderWay e; asked = asked; made = made }) []
    (moved_by (RefuseErrand o) (record { phase = UnderWay e; asked = asked; made = made }))
unscanned (errand.Step ch) o asked made = stays_turn _ refl
unscanned (errand.Status subject) o asked made = stays_turn _ refl
unscanned errand.Scan o asked made = Here refl (λ begun is. alone Scan (answer.Own o) begun asked _ _ is refl (tt, refl))
unscanned errand.Record o asked made = Here refl (λ begun is. alone Record (answer.Own o) begun asked _ _ is refl (tt, refl))
unscanned errand.Replacement o asked made = stays_turn _ refl

recorded : (e : Errand) (steps : ℕ) (asked : List Request) (made : Made)
    → Turn (record { phase = UnderWay e; asked = asked; made = made }) []
    (moved_by (Recorded steps) (record { phase = UnderWay e; asked = asked; made = made }))
recorded (errand.Step ch) steps asked made = stays_turn _ refl
recorded (errand.Status subject) steps asked made = stays_turn _ refl
recorded errand.Scan steps asked made = stays_turn _ refl
recorded errand.Record steps asked made = Here refl (λ begun is. alone Record (answer.Recorded steps) begun asked _ _ is refl (tt, refl))
recorded errand.Replacement steps asked made = stays_turn _ refl

-- a wait that was put off is handed in
put_off : (act : Option (Act Global)) (asked : List Request) (made : Made)
    → Turn (record { phase = PutOff; asked = asked; made = made }) [] (begin_put_off act (record { phase = PutOff; asked = asked; made = made }))
put_off (Some act) asked made = Here refl (λ begun is. record { later = begun; answered = append-nil (begun ++ asked); is_begun = is })
put_off None asked made = Here refl (λ begun is. alone (Step is.0) (answer.Own own.Busy) begun asked _ _ is.1 refl (tt, refl))

refused_turn : (asked : List Request) (made : Made) (o : OwnAnswer)
    → Turn (record { phase = Idle; asked = asked; made = made }) [] (moved_by (RefuseNext o) (record { phase = Idle; asked = asked; made = made }))
refused_turn [] made o = stays_turn _ refl
refused_turn (r ∷ rest) made o = at_once r (answer.Own o) rest made made (own_answers r o, refl)

told_turn : (for : Bool) (n : News) (c : View) (made : Made) → is_here c.phase ≡ true
    → Turn c [] (if for then record { next = record c { made = made }; todo = todo.Tell } else stays c)
told_turn true n c made here = Here here (λ begun is. record { later = begun; answered = append-nil (begun ++ c.asked); is_begun = is })
told_turn false n c made here = stays_turn c here

away_turn : (c : View) (event : Event) → is_here c.phase ≡ false → Turn c (taken_by event c) (moved_by event c)
away_turn c event here =
    let gone = away c event here in
    Away gone.gone (takes_nothing c event here) (no_answer (moved_by event c).todo gone.silent)

turn_in : (phase : ClientPhase) (asked : List Request) (made : Made) (event : Event)
    → Turn (record { phase = phase; asked = asked; made = made }) (taken_by event (record { phase = phase; asked = asked; made = made }))
    (moved_by event (record { phase = phase; asked = asked; made = made }))
turn_in Idle asked made (Ask coming) = asks_turn Idle asked coming made refl
turn_in Idle asked made (Begin last_step now) = idle_turn asked made last_step now
turn_in Idle asked made (Answered r) = stays_turn _ refl
turn_in Idle asked made (Recorded steps) = stays_turn _ refl
turn_in Idle asked made (RefuseErrand o) = stays_turn _ refl
turn_in Idle asked made (RefuseNext o) = refused_turn asked made o
turn_in Idle asked made (Told n) = told_turn (is_for n (record { phase = Idle; asked = asked; made = made })) n _ _ refl
turn_in Idle asked made Leave = Away refl refl refl
turn_in (Stepping k) asked made (Ask coming) = asks_turn (Stepping k) asked coming made refl
turn_in (Stepping k) asked made (Begin last_step now) = beside_turn (nat_lt k step_limit) k asked made
turn_in (Stepping k) asked made (Answered r) = Here refl (λ begun is. stepped k begun asked made is)
turn_in (Stepping k) asked made (Recorded steps) = stays_turn _ refl
turn_in (Stepping k) asked made (RefuseErrand o) = stays_turn _ refl
turn_in (Stepping k) asked made (RefuseNext o) = stays_turn _ refl
turn_in (Stepping k) asked made (Told n) = told_turn (is_for n (record { phase = Stepping k; asked = asked; made = made })) n _ _ refl
turn_in (Stepping k) asked made Leave = Away refl refl refl
turn_in (UnderWay e) asked made (Ask coming) = asks_turn (UnderWay e) asked coming made refl
turn_in (UnderWay e) asked made (Begin last_step now) = stays_turn _ refl
turn_in (UnderWay e) asked made (Answered r) = Here refl (λ begun is. finished e r begun asked made is)
turn_in (UnderWay e) asked made (Recorded steps) = recorded e steps asked made
turn_in (UnderWay e) asked made (RefuseErrand o) = unscanned e o asked made
turn_in (UnderWay e) asked made (RefuseNext o) = stays_turn _ refl
turn_in (UnderWay e) asked made (Told n) = told_turn (is_for n (record { phase = UnderWay e; asked = asked; made = made })) n _ _ refl
turn_in (UnderWay e) asked made Leave = Away refl refl refl
turn_in PutOff asked made (Ask coming) = asks_turn PutOff asked coming made refl
turn_in PutOff asked made (Begin last_step now) = put_off made.put_off asked made
turn_in PutOff asked made (Answered r) = stays_turn _ refl
turn_in PutOff asked made (Recorded steps) = stays_turn _ refl
turn_in PutOff asked made (RefuseErrand o) = stays_turn _ refl
turn_in PutOff asked made (RefuseNext o) = stays_turn _ refl
turn_in PutOff asked made (Told n) = told_turn (is_for n (record { phase = PutOff; asked = asked; made = made })) n _ _ refl
turn_in PutOff asked made Leave = Away refl refl refl
turn_in (LeftStepping k) asked made event = away_turn _ event refl
turn_in (Left e) asked made event = away_turn _ event refl
turn_in Leaving asked made event = away_turn _ event refl
turn_in Cancelling asked made event = away_turn _ event refl
turn_in Gone asked made event = away_turn _ event refl

turn : (c : View) (event : Event) → Turn c (taken_by event c) (moved_by event c)
turn c event = turn_in c.phase c.asked c.made event

-- the answers with those of one move more
answers_more : (done : List Done) (d : Done) → answers (done ++ d ∷ []) ≡ answers done ++ answered_by d.todo
answers_more done d = flat_map-append (λ (one : Done). answered_by one.todo) done (d ∷ [])
    ∙ ap (λ (a : List Answer). answers done ++ a) (append-nil (answered_by d.todo))

here_kept : (h : History) (event : Event) (law : AnsweredInOrder h) → (p : Pending h law.left)
    → Turns h.now (taken_by event h.now) (moved_by event h.now) p.begun → AnsweredInOrder (happens h event)
here_kept h event law p turns = record {
  left = turns.later ++ (moved_by event h.now).next.asked;
  answered =
      rw answers_more
      (go_on _ (answers h.done) _ _ _ (more_left h.taken (answers h.done) law.left (taken_by event h.now) law.answered)
      (rw p.are turns.answered));
  pending = λ here. record { begun = turns.later; are = refl; is_begun = turns.is_begun };
}

kept_by : (h : History) (event : Event) → AnsweredInOrder h → Turn h.now (taken_by event h.now) (moved_by event h.now)
    → AnsweredInOrder (happens h event)
kept_by h event law (Here here turns) = let p = law.pending here in here_kept h event law p (turns p.begun p.is_begun)
kept_by h event law (Away gone none silent) = record {
  left = law.left;
  answered = rw (answers_more, silent, none, append-nil, append-nil) law.answered;
  pending = λ here. search rules;
}

kept : (events : List Event) (h : History) → AnsweredInOrder h → AnsweredInOrder (run events h)
kept [] h law = law
kept (event ∷ events) h law = kept events (happens h event) (kept_by h event law (turn h.now event))

pub in_order : (events : List Event) → AnsweredInOrder (run events opened)
in_order events = kept events opened (record { left = []; answered = refl; pending = λ here. record { begun = []; are = refl; is_begun = refl } })
