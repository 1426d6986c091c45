-- The letters that a client is told are of services that it asked for.
use Rattle.std.proofs.Common.{rules, refl, ap, sym, subst, ◌≡◌, ◌++◌, ◌||◌, [], ◌∷◌, ℕ, List, Bool, true, false, Option, Some, None, nat_lt, cond, if◌then◌else◌}
use Rattle.std.specs.List.{list_any}
use Rattle.std.specs.declared.alloc.Global.{Global}
use Rattle.tree_core.specs.declared.input.Act.{Act}
use Rattle.tree_core.specs.declared.reply.Reply.{Reply}
use Rattle.server_rules.specs.declared.following.Following.{Following}
use Rattle.server_rules.specs.declared.own_answer.OwnAnswer.{OwnAnswer}
use Rattle.server_rules.specs.declared.phase.Errand.TheVariants as errand
use Rattle.server_rules.specs.declared.phase.ClientPhase.{ClientPhase}
use Rattle.server_rules.specs.declared.phase.ClientPhase.TheVariants.{Idle, Stepping, UnderWay, PutOff, LeftStepping, Left, Leaving, Cancelling, Gone}
use Rattle.server_rules.specs.declared.requests.Request.{Request}
use Rattle.server_rules.specs.declared.requests.Request.TheVariants.{Step, Status, Scan, Record, Follow, Clock, Refused}
use Rattle.server_rules.specs.declared.made_things.Admission.{Admission}
use Rattle.server_rules.specs.declared.made_things.Admission.TheVariants as admission
use Rattle.server_rules.specs.declared.made_things.MadeChange.{MadeChange}
use Rattle.server_rules.specs.declared.made_things.MadeChange.TheVariants as change
use Rattle.server_rules.specs.declared.todo.News.{News}
use Rattle.server_rules.specs.declared.todo.News.TheVariants as news
use Rattle.server_rules.specs.declared.todo.Todo.TheVariants as todo
use Rattle.server_rules.specs.Connection.{View, Moved, stays, takes_requests}
use Rattle.server_rules.specs.NewsTold.{after_news, is_for}
use Rattle.server_rules.specs.Begin.{begin_admitted, begin_next, begin_put_off, ends_by, joins, replaces, step_limit, steps_in}
use Rattle.server_rules.specs.Made.{Made, admission_of, after_reply, change_of, is_followed, next_ended}
use Rattle.server_rules.specs.StatusAge.{is_recent}
use Rattle.server_laws.specs.History.{Event, Ask, Begin, Answered, Recorded, RefuseErrand, RefuseNext, Told, Leave, History, happens, moved_by, opened, taken_by}
use Rattle.server_laws.specs.Laws.{asks_for}

-- each request that waits was taken, and what is followed was asked for
pub record IsAskedFor (h : History) : Type 0 where
  pub asked : (p : Request → Bool) → list_any p h.now.asked ≡ true → list_any p h.taken ≡ true
  pub follows : (name : List ℕ) → is_followed name h.now.made.follows ≡ true → list_any (asks_for name) h.taken ≡ true

pub asked_for_none : IsAskedFor opened
asked_for_none = record { asked = λ p is. is; follows = λ name is. search rules }

pub or_left : (a b : Bool) → a ≡ true → (a || b) ≡ true
or_left true b is = refl
or_left false b is = search rules

pub or_right : (a b : Bool) → b ≡ true → (a || b) ≡ true
or_right true b is = refl
or_right false b is = is

pub or_more : (a b c : Bool) → (b ≡ true → c ≡ true) → (a || b) ≡ true → (a || c) ≡ true
or_more true b c more is = refl
or_more false b c more is = more is

pub or_cases : (a b : Bool) (P : Type 0) → (a ≡ true → P) → (b ≡ true → P) → (a || b) ≡ true → P
or_cases true b P left right is = left refl
or_cases false b P left right is = right is

-- one among the first of two lists is among both
pub any_before : (p : Request → Bool) (xs ys : List Request) → list_any p xs ≡ true → list_any p (xs ++ ys) ≡ true
any_before p [] ys is = search rules
any_before p (x ∷ xs) ys is = or_more (p x) (list_any p xs) (list_any p (xs ++ ys)) (any_before p xs ys) is

any_after : (p : Request → Bool) (xs ys : List Request) → list_any p ys ≡ true → list_any p (xs ++ ys) ≡ true
any_after p [] ys is = is
any_after p (x ∷ xs) ys is = or_right (p x) (list_any p (xs ++ ys)) (any_after p xs ys is)

-- what waits after a move waited before, or was taken now; what is followed after it was followed before, or asked for by what waited
record Keeps (c : View) (taken : List Request) (next : View) : Type 0 where
  asked : (p : Request → Bool) → list_any p next.asked ≡ true → (list_any p c.asked || list_any p taken) ≡ true
  follows : (name : List ℕ) → is_followed name next.made.follows ≡ true → (is_followed name c.made.follows || list_any (asks_for name) c.asked) ≡ true

-- nothing more is followed
followed : (c next : View) → next.made.follows ≡ c.made.follows → (name : List ℕ) → is_followed name next.made.follows ≡ true
    → (is_followed name c.made.follows || list_any (asks_for name) c.asked) ≡ true
followed c next same name is = or_left (is_followed name c.made.follows) (list_any (asks_for name) c.asked)
    (subst (λ (f : Following). is_followed name f ≡ true) same is)

-- the same requests wait, and the same is followed
stays_so : (c next : View) (taken : List Request) → next.asked ≡ c.asked → next.made.follows ≡ c.made.follows → Keeps c taken next
stays_so c next taken waits same = record {
  asked = λ p is. or_left (list_any p c.asked) (list_any p taken) (subst (λ (rs : List Request). list_any p rs ≡ true) waits is);
  follows = followed c next same;
}

-- the first request is begun
first_begun : (c next : View) (r : Request) → c.asked ≡ r ∷ next.asked → next.made.follows ≡ c.made.follows → Keeps c [] next
first_begun c next r waits same = record {
  asked = λ p is. or_left (list_any p c.asked) false (rw waits (or_right (p r) (list_any p next.asked) is));
  follows = followed c next same;
}

absurd_any : (p : Request → Bool) (xs : List Request) (P : Type 0) → xs ≡ [] → list_any p xs ≡ true → P
absurd_any p xs P none is = search rules

-- nothing waits
none_waits : (c next : View) (taken : List Request) → next.asked ≡ [] → next.made.follows ≡ c.made.follows → Keeps c taken next
none_waits c next taken none same = record {
  asked = λ p is. absurd_any p next.asked _ none is;
  follows = followed c next same;
}

-- the same waits, and the same is followed
abbrev IsSame : View → View → Type 0
IsSame c next = (next.asked ≡ c.asked) × (next.made.follows ≡ c.made.follows)

same_keeps : (c next : View) (taken : List Request) → IsSame c next → Keeps c taken next
same_keeps c next taken is = stays_so c next taken is.0 is.1

asked_keeps : (takes : Bool) (coming : List Request) (c : View)
    → Keeps c (if takes then coming else []) (if takes then record c { asked = coming } else c)
asked_keeps true coming c = record {
  asked = λ p is. or_right (list_any p c.asked) (list_any p coming) is;
  follows = followed c c refl;
}
asked_keeps false coming c = stays_so c c [] refl refl

steps_same : (ch : MadeChange) (n : ℕ) (act : Act Global) (c : View) → IsSame c (steps_in ch n act c).next
steps_same change.Other n act c = (refl, refl)
steps_same change.MakesWaiter n act c = (refl, refl)
steps_same change.MakesSubscription n act c = (refl, refl)
steps_same (change.EndsWaiter id) n act c = (refl, refl)
steps_same (change.EndsSubscription id) n act c = (refl, refl)

replaced_same : (released : List ℕ) (act : Act Global) (c : View) → IsSame c (replaces released act c).next
replaced_same [] act c = (refl, refl)
replaced_same (id ∷ released) act c = (refl, refl)

admitted_same : (a : Admission) (act : Act Global) (c : View) → IsSame c (begin_admitted a act c).next
admitted_same admission.Admitted act c = steps_same (change_of act) 0 act c
admitted_same admission.AfterReleased act c = replaced_same c.made.released act c
admitted_same admission.Refused act c = (refl, refl)

chosen_same : (is : Bool) (one other : Moved) (c : View) → IsSame c one.next → IsSame c other.next → IsSame c (cond is one other).next
chosen_same true one other c first second = first
chosen_same false one other c first second = second

-- a request that is begun, and what is left
begun_keeps : (r : Request) (rest : List Request) (made : Made) (next : View) → IsSame (record { phase = Idle; asked = rest; made = made }) next
    → Keeps (record { phase = Idle; asked = r ∷ rest; made = made }) [] next
begun_keeps r rest made next is = first_begun (record { phase = Idle; asked = r ∷ rest; made = made }) next r
    (ap (λ (rs : List Request). r ∷ rs) (sym is.0)) is.1

follows_keeps : (services : Following) (rest : List Request) (made : Made)
    → Keeps (record { phase = Idle; asked = Follow services ∷ rest; made = made }) []
    (record { phase = Idle; asked = rest; made = record made { follows = services } })
follows_keeps services rest made = record {
  asked = λ p is. or_left (p (Follow services) || list_any p rest) false (or_right (p (Follow services)) (list_any p rest) is);
  follows = λ name is. or_right (is_followed name made.follows) (is_followed name services || list_any (asks_for name) rest)
      (or_left (is_followed name services) (list_any (asks_for name) rest) is);
}

first_keeps : (waits : List Request) (made : Made) (last_step now : ℕ)
    → Keeps (record { phase = Idle; asked = waits; made = made }) []
    (moved_by (Begin last_step now) (record { phase = Idle; asked = waits; made = made })).next
first_keeps [] made last_step now = stays_so _ _ [] refl refl
first_keeps (Step act ∷ rest) made last_step now = begun_keeps (Step act) rest made _
    (admitted_same (admission_of act made) act (record { phase = Idle; asked = rest; made = made }))
first_keeps (Status subject ∷ rest) made last_step now = begun_keeps (Status subject) rest made _
    (chosen_same (is_recent last_step now) _ _ (record { phase = Idle; asked = rest; made = made }) (refl, refl) (refl, refl))
first_keeps (Scan ∷ rest) made last_step now = begun_keeps Scan rest made _ (refl, refl)
first_keeps (Record ∷ rest) made last_step now = begun_keeps Record rest made _ (refl, refl)
first_keeps (Follow services ∷ rest) made last_step now = follows_keeps services rest made
first_keeps (Clock ∷ rest) made last_step now = begun_keeps Clock rest made _ (refl, refl)
first_keeps (Refused o ∷ rest) made last_step now = begun_keeps (Refused o) rest made _ (refl, refl)

joined_keeps : (ch : MadeChange) (n : ℕ) (act : Act Global) (rest : List Request) (c : View) → c.asked ≡ Step act ∷ rest
    → Keeps c [] (joins ch n act rest c).next
joined_keeps change.Other n act rest c waits = first_begun c _ (Step act) waits refl
joined_keeps change.MakesWaiter n act rest c waits = stays_so c c [] refl refl
joined_keeps change.MakesSubscription n act rest c waits = stays_so c c [] refl refl
joined_keeps (change.EndsWaiter id) n act rest c waits = stays_so c c [] refl refl
joined_keeps (change.EndsSubscription id) n act rest c waits = stays_so c c [] refl refl

beside_keeps : (few : Bool) (n : ℕ) (waits : List Request) (c : View) → c.asked ≡ waits
    → Keeps c [] (if few then begin_next waits n c else stays c).next
beside_keeps false n waits c are = stays_so c c [] refl refl
beside_keeps true n [] c are = stays_so c c [] refl refl
beside_keeps true n (Step act ∷ rest) c are = joined_keeps (change_of act) n act rest c are
beside_keeps true n (Status subject ∷ rest) c are = stays_so c c [] refl refl
beside_keeps true n (Scan ∷ rest) c are = stays_so c c [] refl refl
beside_keeps true n (Record ∷ rest) c are = stays_so c c [] refl refl
beside_keeps true n (Follow services ∷ rest) c are = stays_so c c [] refl refl
beside_keeps true n (Clock ∷ rest) c are = stays_so c c [] refl refl
beside_keeps true n (Refused o ∷ rest) c are = stays_so c c [] refl refl

put_off_same : (act : Option (Act Global)) (c : View) → IsSame c (begin_put_off act c).next
put_off_same (Some act) c = (refl, refl)
put_off_same None c = (refl, refl)

ends_keeps : (released waiters subscriptions : List ℕ) (c : View) → Keeps c [] (ends_by (next_ended released waiters subscriptions c.made) c).next
ends_keeps (id ∷ released) waiters subscriptions c = stays_so c _ [] refl refl
ends_keeps [] (id ∷ waiters) subscriptions c = stays_so c _ [] refl refl
ends_keeps [] [] (id ∷ subscriptions) c = stays_so c _ [] refl refl
ends_keeps [] [] [] c = record { asked = λ p is. or_left (list_any p c.asked) false is; follows = λ name is. search rules }

begins_keeps : (phase : ClientPhase) (waits : List Request) (made : Made) (last_step now : ℕ)
    → Keeps (record { phase = phase; asked = waits; made = made }) []
    (moved_by (Begin last_step now) (record { phase = phase; asked = waits; made = made })).next
begins_keeps Idle waits made last_step now = first_keeps waits made last_step now
begins_keeps (Stepping n) waits made last_step now = beside_keeps (nat_lt n step_limit) n waits
    (record { phase = Stepping n; asked = waits; made = made }) refl
begins_keeps (UnderWay e) waits made last_step now = stays_so _ _ [] refl refl
begins_keeps PutOff waits made last_step now = same_keeps _ _ [] (put_off_same made.put_off (record { phase = PutOff; asked = waits; made = made }))
begins_keeps (LeftStepping n) waits made last_step now = stays_so _ _ [] refl refl
begins_keeps (Left e) waits made last_step now = stays_so _ _ [] refl refl
begins_keeps Leaving waits made last_step now = ends_keeps made.released made.waiters made.subscriptions
    (record { phase = Leaving; asked = waits; made = made })
begins_keeps Cancelling waits made last_step now = stays_so _ _ [] refl refl
begins_keeps Gone waits made last_step now = stays_so _ _ [] refl refl

-- a reply changes nothing of what is followed
replied_same : (ch : MadeChange) (r : Reply Global) (made : Made) → (after_reply ch r made).follows ≡ made.follows
replied_same ch r made = search rules

answered_same : (phase : ClientPhase) (r : Reply Global) (waits : List Request) (made : Made)
    → IsSame (record { phase = phase; asked = waits; made = made })
    (moved_by (Answered r) (record { phase = phase; asked = waits; made = made })).next
answered_same Idle r waits made = (refl, refl)
answered_same (Stepping n) r waits made = (refl, refl)
answered_same (UnderWay (errand.Step ch)) r waits made = (refl, replied_same ch r made)
answered_same (UnderWay (errand.Status subject)) r waits made = (refl, refl)
answered_same (UnderWay errand.Scan) r waits made = (refl, refl)
answered_same (UnderWay errand.Record) r waits made = (refl, refl)
answered_same (UnderWay errand.Replacement) r waits made = (refl, refl)
answered_same PutOff r waits made = (refl, refl)
answered_same (LeftStepping n) r waits made = (refl, refl)
answered_same (Left (errand.Step ch)) r waits made = (refl, replied_same ch r made)
answered_same (Left (errand.Status subject)) r waits made = (refl, refl)
answered_same (Left errand.Scan) r waits made = (refl, refl)
answered_same (Left errand.Record) r waits made = (refl, refl)
answered_same (Left errand.Replacement) r waits made = (refl, refl)
answered_same Leaving r waits made = (refl, refl)
answered_same Cancelling r waits made = (refl, refl)
answered_same Gone r waits made = (refl, refl)

recorded_same : (phase : ClientPhase) (steps : ℕ) (waits : List Request) (made : Made)
    → IsSame (record { phase = phase; asked = waits; made = made })
    (moved_by (Recorded steps) (record { phase = phase; asked = waits; made = made })).next
recorded_same phase steps waits made = search rules

refused_same : (phase : ClientPhase) (o : OwnAnswer) (waits : List Request) (made : Made)
    → IsSame (record { phase = phase; asked = waits; made = made })
    (moved_by (RefuseErrand o) (record { phase = phase; asked = waits; made = made })).next
refused_same phase o waits made = search rules

unasked_keeps : (phase : ClientPhase) (waits : List Request) (made : Made) (o : OwnAnswer)
    → Keeps (record { phase = phase; asked = waits; made = made }) []
    (moved_by (RefuseNext o) (record { phase = phase; asked = waits; made = made })).next
unasked_keeps Idle [] made o = stays_so _ _ [] refl refl
unasked_keeps Idle (r ∷ rest) made o = begun_keeps r rest made _ (refl, refl)
unasked_keeps (Stepping n) waits made o = stays_so _ _ [] refl refl
unasked_keeps (UnderWay e) waits made o = stays_so _ _ [] refl refl
unasked_keeps PutOff waits made o = stays_so _ _ [] refl refl
unasked_keeps (LeftStepping n) waits made o = stays_so _ _ [] refl refl
unasked_keeps (Left e) waits made o = stays_so _ _ [] refl refl
unasked_keeps Leaving waits made o = stays_so _ _ [] refl refl
unasked_keeps Cancelling waits made o = stays_so _ _ [] refl refl
unasked_keeps Gone waits made o = stays_so _ _ [] refl refl

told_same : (for : Bool) (n : News) (c : View)
    → IsSame c (if for then record { next = record c { made = after_news n c.made }; todo = todo.Tell } else stays c).next
told_same false n c = (refl, refl)
told_same true (news.Match m) c = (refl, refl)
told_same true (news.Release r) c = (refl, refl)
told_same true (news.Letter l) c = (refl, refl)

leaves_keeps : (phase : ClientPhase) (waits : List Request) (made : Made)
    → Keeps (record { phase = phase; asked = waits; made = made }) [] (moved_by Leave (record { phase = phase; asked = waits; made = made })).next
leaves_keeps Idle waits made = none_waits _ _ [] refl refl
leaves_keeps (Stepping n) waits made = none_waits _ _ [] refl refl
leaves_keeps (UnderWay e) waits made = none_waits _ _ [] refl refl
leaves_keeps PutOff waits made = none_waits _ _ [] refl refl
leaves_keeps (LeftStepping n) waits made = stays_so _ _ [] refl refl
leaves_keeps (Left e) waits made = stays_so _ _ [] refl refl
leaves_keeps Leaving waits made = stays_so _ _ [] refl refl
leaves_keeps Cancelling waits made = stays_so _ _ [] refl refl
leaves_keeps Gone waits made = stays_so _ _ [] refl refl

keeps : (c : View) (event : Event) → Keeps c (taken_by event c) (moved_by event c).next
keeps c (Ask coming) = asked_keeps (takes_requests c) coming c
keeps c (Begin last_step now) = begins_keeps c.phase c.asked c.made last_step now
keeps c (Answered r) = same_keeps _ _ [] (answered_same c.phase r c.asked c.made)
keeps c (Recorded steps) = same_keeps _ _ [] (recorded_same c.phase steps c.asked c.made)
keeps c (RefuseErrand o) = same_keeps _ _ [] (refused_same c.phase o c.asked c.made)
keeps c (RefuseNext o) = unasked_keeps c.phase c.asked c.made o
keeps c (Told n) = same_keeps _ _ [] (told_same (is_for n c) n c)
keeps c Leave = leaves_keeps c.phase c.asked c.made

pub asked_for_one : (h : History) (event : Event) → IsAskedFor h → IsAskedFor (happens h event)
asked_for_one h event kept =
    let taken = taken_by event h.now in
    let k = keeps h.now event in record {
      asked = λ p is.
          or_cases (list_any p h.now.asked) (list_any p taken) _ (λ waited. any_before p h.taken taken (kept.asked p waited))
          (λ came. any_after p h.taken taken came) (k.asked p is);
      follows = λ name is.
          or_cases (is_followed name h.now.made.follows) (list_any (asks_for name) h.now.asked) _
          (λ before. any_before (asks_for name) h.taken taken (kept.follows name before))
          (λ waited. any_before (asks_for name) h.taken taken (kept.asked (asks_for name) waited)) (k.follows name is);
    }
