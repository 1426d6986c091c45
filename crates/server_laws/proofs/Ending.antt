-- Each thing that stands when a client has left is ended once.
use Rattle.std.proofs.Common.{refl, ap, ◌∙◌, ◌≡◌, ◌++◌, [], ◌∷◌, ℕ, List, true}
use Rattle.std.proofs.lemmas.List.{append-nil, append_assoc}
use Rattle.std.proofs.lemmas.Grind.{flat_map-append}
use Rattle.std.specs.declared.alloc.Global.{Global}
use Rattle.tree_core.specs.declared.input.Act.{Act}
use Rattle.server_rules.specs.declared.phase.ClientPhase.{ClientPhase}
use Rattle.server_rules.specs.declared.phase.ClientPhase.TheVariants.{Idle, Stepping, UnderWay, PutOff, LeftStepping, Left, Leaving, Cancelling, Gone}
use Rattle.server_rules.specs.declared.requests.Request.{Request}
use Rattle.server_rules.specs.Connection.{View, Moved}
use Rattle.server_rules.specs.Begin.{ends_by}
use Rattle.server_rules.specs.declared.following.Following.{Following}
use Rattle.std.specs.Prelude.{Option}
use Rattle.server_rules.specs.Made.{Made, next_ended}
use Rattle.server_laws.specs.History.{Done, Event, Ask, Begin, Answered, Recorded, RefuseErrand, RefuseNext, Told, Leave, History, happens, moved_by}
use Rattle.server_laws.specs.Laws.{EndsOnce, ends_of, is_ending, submitted, submitted_by}

-- at a move, what is handed in and what still stands is what stood, and the client is gone as before
pub record IsEnd (made : Made) (m : Moved) : Type 0 where
  pub ending : is_ending m.next.phase ≡ true
  pub once : submitted_by m.todo ++ ends_of m.next.made ≡ ends_of made

abbrev with_made : (released waiters subscriptions : List ℕ) → Following → Option (Act Global) → Made
with_made released waiters subscriptions follows put_off = record {
  waiters = waiters;
  released = released;
  subscriptions = subscriptions;
  follows = follows;
  put_off = put_off;
}

ends_next : (released waiters subscriptions : List ℕ) (follows : Following) (put_off : Option (Act Global)) (asked : List Request)
    → IsEnd (with_made released waiters subscriptions follows put_off)
    (ends_by (next_ended released waiters subscriptions (with_made released waiters subscriptions follows put_off))
    (record { phase = Leaving; asked = asked; made = with_made released waiters subscriptions follows put_off }))
ends_next (id ∷ released) waiters subscriptions follows put_off asked = record { ending = refl; once = refl }
ends_next [] (id ∷ waiters) subscriptions follows put_off asked = record { ending = refl; once = refl }
ends_next [] [] (id ∷ subscriptions) follows put_off asked = record { ending = refl; once = refl }
ends_next [] [] [] follows put_off asked = record { ending = refl; once = refl }

leaving_ends : (asked : List Request) (made : Made) (event : Event)
    → IsEnd made (moved_by event (record { phase = Leaving; asked = asked; made = made }))
leaving_ends asked made (Begin last_step now) = ends_next made.released made.waiters made.subscriptions made.follows made.put_off asked
leaving_ends asked made (Answered r) = record { ending = refl; once = refl }
leaving_ends asked made (Ask coming) = record { ending = refl; once = refl }
leaving_ends asked made (Recorded steps) = record { ending = refl; once = refl }
leaving_ends asked made (RefuseErrand o) = record { ending = refl; once = refl }
leaving_ends asked made (RefuseNext o) = record { ending = refl; once = refl }
leaving_ends asked made (Told news) = record { ending = refl; once = refl }
leaving_ends asked made Leave = record { ending = refl; once = refl }

cancelling_ends : (asked : List Request) (made : Made) (event : Event)
    → IsEnd made (moved_by event (record { phase = Cancelling; asked = asked; made = made }))
cancelling_ends asked made (Begin last_step now) = record { ending = refl; once = refl }
cancelling_ends asked made (Answered r) = record { ending = refl; once = refl }
cancelling_ends asked made (Ask coming) = record { ending = refl; once = refl }
cancelling_ends asked made (Recorded steps) = record { ending = refl; once = refl }
cancelling_ends asked made (RefuseErrand o) = record { ending = refl; once = refl }
cancelling_ends asked made (RefuseNext o) = record { ending = refl; once = refl }
cancelling_ends asked made (Told news) = record { ending = refl; once = refl }
cancelling_ends asked made Leave = record { ending = refl; once = refl }

gone_ends : (asked : List Request) (made : Made) (event : Event)
    → IsEnd made (moved_by event (record { phase = Gone; asked = asked; made = made }))
gone_ends asked made (Begin last_step now) = record { ending = refl; once = refl }
gone_ends asked made (Answered r) = record { ending = refl; once = refl }
gone_ends asked made (Ask coming) = record { ending = refl; once = refl }
gone_ends asked made (Recorded steps) = record { ending = refl; once = refl }
gone_ends asked made (RefuseErrand o) = record { ending = refl; once = refl }
gone_ends asked made (RefuseNext o) = record { ending = refl; once = refl }
gone_ends asked made (Told news) = record { ending = refl; once = refl }
gone_ends asked made Leave = record { ending = refl; once = refl }

ends_in : (phase : ClientPhase) (asked : List Request) (made : Made) (event : Event) → is_ending phase ≡ true
    → IsEnd made (moved_by event (record { phase = phase; asked = asked; made = made }))
ends_in Leaving asked made event is = leaving_ends asked made event
ends_in Cancelling asked made event is = cancelling_ends asked made event
ends_in Gone asked made event is = gone_ends asked made event
ends_in Idle asked made event is = absurd (cc (is))
ends_in (Stepping n) asked made event is = absurd (cc (is))
ends_in (UnderWay e) asked made event is = absurd (cc (is))
ends_in PutOff asked made event is = absurd (cc (is))
ends_in (LeftStepping n) asked made event is = absurd (cc (is))
ends_in (Left e) asked made event is = absurd (cc (is))

ends : (event : Event) (c : View) → is_ending c.phase ≡ true → IsEnd c.made (moved_by event c)
ends event c is = ends_in c.phase c.asked c.made event is

one_more : (done : List Done) (d : Done) → submitted (done ++ d ∷ []) ≡ submitted done ++ submitted_by d.todo
one_more done d =
    flat_map-append (λ (one : Done). submitted_by one.todo) done (d ∷ [])
    ∙ ap (λ (acts : List (Act Global)). submitted done ++ acts) (append-nil (submitted_by d.todo))

pub ends_once : (h : History) (events : List Event) → is_ending h.now.phase ≡ true → EndsOnce h events
ends_once h [] is = refl
ends_once h (event ∷ events) is =
    let end = ends event h.now is in
    let d : Done = record { event = event; todo = (moved_by event h.now).todo } in
    let rest = ends_of (moved_by event h.now).next.made in
    ends_once (happens h event) events end.ending
    ∙ (ap (λ (acts : List (Act Global)). acts ++ rest) (one_more h.done d)
    ∙ (append_assoc (submitted h.done) (submitted_by d.todo) rest
    ∙ ap (λ (acts : List (Act Global)). submitted h.done ++ acts) end.once))
