-- A client that is no more there asks nothing, and nothing is posted to it.
use Rattle.std.proofs.Common.{rules, refl, ◌≡◌, [], ◌∷◌, ℕ, List, Bool, true, false, nat_lt, if◌then◌else◌}
use Rattle.server_rules.specs.declared.phase.Errand.{Errand}
use Rattle.server_rules.specs.declared.phase.Errand.TheVariants as errand
use Rattle.server_rules.specs.declared.phase.ClientPhase.{ClientPhase}
use Rattle.server_rules.specs.declared.phase.ClientPhase.TheVariants.{Idle, Stepping, UnderWay, PutOff, LeftStepping, Left, Leaving, Cancelling, Gone}
use Rattle.server_rules.specs.declared.requests.Request.{Request}
use Rattle.server_rules.specs.Connection.{View, Moved, is_here}
use Rattle.server_rules.specs.Begin.{ends_by}
use Rattle.server_rules.specs.Made.{Made, next_ended}
use Rattle.server_laws.specs.History.{Event, Ask, Begin, Answered, Recorded, RefuseErrand, RefuseNext, Told, Leave, moved_by, taken_by}
use Rattle.server_laws.specs.Laws.{posted_of}

-- at a move, it isn't there afterwards, and nothing is posted
pub record IsAway (m : Moved) : Type 0 where
  pub gone : is_here m.next.phase ≡ false
  pub silent : posted_of m.todo ≡ []

pub ends_away : (released waiters subscriptions : List ℕ) (made : Made) (c : View)
    → IsAway (ends_by (next_ended released waiters subscriptions made) c)
ends_away (id ∷ released) waiters subscriptions made c = record { gone = refl; silent = refl }
ends_away [] (id ∷ waiters) subscriptions made c = record { gone = refl; silent = refl }
ends_away [] [] (id ∷ subscriptions) made c = record { gone = refl; silent = refl }
ends_away [] [] [] made c = record { gone = refl; silent = refl }

fewer_away : (few : Bool) (n : ℕ) → is_here (if few then Leaving else LeftStepping n) ≡ false
fewer_away true n = refl
fewer_away false n = refl

stepping_away : (n : ℕ) (asked : List Request) (made : Made) (event : Event)
    → IsAway (moved_by event (record { phase = LeftStepping n; asked = asked; made = made }))
stepping_away n asked made (Answered r) = record { gone = fewer_away (nat_lt n 2) _; silent = refl }
stepping_away n asked made (Ask coming) = record { gone = refl; silent = refl }
stepping_away n asked made (Begin last_step now) = record { gone = refl; silent = refl }
stepping_away n asked made (Recorded steps) = record { gone = refl; silent = refl }
stepping_away n asked made (RefuseErrand o) = record { gone = refl; silent = refl }
stepping_away n asked made (RefuseNext o) = record { gone = refl; silent = refl }
stepping_away n asked made (Told news) = record { gone = refl; silent = refl }
stepping_away n asked made Leave = record { gone = refl; silent = refl }

left_away : (e : Errand) (asked : List Request) (made : Made) (event : Event)
    → IsAway (moved_by event (record { phase = Left e; asked = asked; made = made }))
left_away (errand.Step ch) asked made (Answered r) = record { gone = refl; silent = refl }
left_away (errand.Status subject) asked made (Answered r) = record { gone = refl; silent = refl }
left_away errand.Scan asked made (Answered r) = record { gone = refl; silent = refl }
left_away errand.Record asked made (Answered r) = record { gone = refl; silent = refl }
left_away errand.Replacement asked made (Answered r) = record { gone = refl; silent = refl }
left_away e asked made (Ask coming) = record { gone = refl; silent = refl }
left_away e asked made (Begin last_step now) = record { gone = refl; silent = refl }
left_away (errand.Step ch) asked made (Recorded steps) = record { gone = refl; silent = refl }
left_away (errand.Status subject) asked made (Recorded steps) = record { gone = refl; silent = refl }
left_away errand.Scan asked made (Recorded steps) = record { gone = refl; silent = refl }
left_away errand.Record asked made (Recorded steps) = record { gone = refl; silent = refl }
left_away errand.Replacement asked made (Recorded steps) = record { gone = refl; silent = refl }
left_away (errand.Step ch) asked made (RefuseErrand o) = record { gone = refl; silent = refl }
left_away (errand.Status subject) asked made (RefuseErrand o) = record { gone = refl; silent = refl }
left_away errand.Scan asked made (RefuseErrand o) = record { gone = refl; silent = refl }
left_away errand.Record asked made (RefuseErrand o) = record { gone = refl; silent = refl }
left_away errand.Replacement asked made (RefuseErrand o) = record { gone = refl; silent = refl }
left_away e asked made (RefuseNext o) = record { gone = refl; silent = refl }
left_away e asked made (Told news) = record { gone = refl; silent = refl }
left_away e asked made Leave = record { gone = refl; silent = refl }

leaving_away : (asked : List Request) (made : Made) (event : Event)
    → IsAway (moved_by event (record { phase = Leaving; asked = asked; made = made }))
leaving_away asked made (Begin last_step now) = ends_away made.released made.waiters made.subscriptions made _
leaving_away asked made (Answered r) = record { gone = refl; silent = refl }
leaving_away asked made (Ask coming) = record { gone = refl; silent = refl }
leaving_away asked made (Recorded steps) = record { gone = refl; silent = refl }
leaving_away asked made (RefuseErrand o) = record { gone = refl; silent = refl }
leaving_away asked made (RefuseNext o) = record { gone = refl; silent = refl }
leaving_away asked made (Told news) = record { gone = refl; silent = refl }
leaving_away asked made Leave = record { gone = refl; silent = refl }

cancelling_away : (asked : List Request) (made : Made) (event : Event)
    → IsAway (moved_by event (record { phase = Cancelling; asked = asked; made = made }))
cancelling_away asked made (Answered r) = record { gone = refl; silent = refl }
cancelling_away asked made (Ask coming) = record { gone = refl; silent = refl }
cancelling_away asked made (Begin last_step now) = record { gone = refl; silent = refl }
cancelling_away asked made (Recorded steps) = record { gone = refl; silent = refl }
cancelling_away asked made (RefuseErrand o) = record { gone = refl; silent = refl }
cancelling_away asked made (RefuseNext o) = record { gone = refl; silent = refl }
cancelling_away asked made (Told news) = record { gone = refl; silent = refl }
cancelling_away asked made Leave = record { gone = refl; silent = refl }

gone_away : (asked : List Request) (made : Made) (event : Event)
    → IsAway (moved_by event (record { phase = Gone; asked = asked; made = made }))
gone_away asked made (Answered r) = record { gone = refl; silent = refl }
gone_away asked made (Ask coming) = record { gone = refl; silent = refl }
gone_away asked made (Begin last_step now) = record { gone = refl; silent = refl }
gone_away asked made (Recorded steps) = record { gone = refl; silent = refl }
gone_away asked made (RefuseErrand o) = record { gone = refl; silent = refl }
gone_away asked made (RefuseNext o) = record { gone = refl; silent = refl }
gone_away asked made (Told news) = record { gone = refl; silent = refl }
gone_away asked made Leave = record { gone = refl; silent = refl }

away_in : (phase : ClientPhase) (asked : List Request) (made : Made) (event : Event) → is_here phase ≡ false
    → IsAway (moved_by event (record { phase = phase; asked = asked; made = made }))
away_in Idle asked made event here = search rules
away_in (Stepping n) asked made event here = search rules
away_in (UnderWay e) asked made event here = search rules
away_in PutOff asked made event here = search rules
away_in (LeftStepping n) asked made event here = stepping_away n asked made event
away_in (Left e) asked made event here = left_away e asked made event
away_in Leaving asked made event here = leaving_away asked made event
away_in Cancelling asked made event here = cancelling_away asked made event
away_in Gone asked made event here = gone_away asked made event

-- whatever comes, a client that isn't there stays so, and nothing is posted
pub away : (c : View) (event : Event) → is_here c.phase ≡ false → IsAway (moved_by event c)
away c event here = away_in c.phase c.asked c.made event here

takes_in : (event : Event) (phase : ClientPhase) (asked : List Request) (made : Made) → is_here phase ≡ false
    → taken_by event (record { phase = phase; asked = asked; made = made }) ≡ []
takes_in (Ask coming) phase asked made here = rw here refl
takes_in (Begin last_step now) phase asked made here = refl
takes_in (Answered r) phase asked made here = refl
takes_in (Recorded steps) phase asked made here = refl
takes_in (RefuseErrand o) phase asked made here = refl
takes_in (RefuseNext o) phase asked made here = refl
takes_in (Told news) phase asked made here = refl
takes_in Leave phase asked made here = refl

-- and nothing is taken
pub takes_nothing : (c : View) (event : Event) → is_here c.phase ≡ false → taken_by event c ≡ []
takes_nothing c event here = takes_in event c.phase c.asked c.made here
