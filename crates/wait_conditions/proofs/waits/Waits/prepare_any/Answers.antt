use Rattle.std.proofs.Common.{◌≡◌, ◌∙◌, ◌+◌, ap, sym, map, subst, filter, [], length, arith, false, true}
use Rattle.std.specs.Prelude.{IsOk}
use Rattle.wait_conditions.specs.Kept.{StoredWaiter, releases_seen}
use Rattle.wait_conditions.specs.PlanFields.{list_change_of}
use Rattle.wait_conditions.specs.Stands.{StoredWaits, WaitsShown, waits_shown}
use Rattle.wait_conditions.specs.WaitsPlans.{FitsWaits, PlannedWaits, JoinsAt}
use Rattle.wait_conditions.specs.WaitsFields.{waiters_view}
use Rattle.wait_conditions.specs.Watchers.{serials_where, touched_by}
use Rattle.wait_conditions.proofs.Leaving.{alike_touched, none_by_nothing}
use Rattle.wait_conditions.proofs.Stepping.{released_alike}
use Rattle.wait_conditions.proofs.waits.Waits.prepare_any.Goals as goal

pub returns-clause-released : goal.returns-clause-released
returns-clause-released g c =
    let ms = c.args.moments.now in
    c.in_ok-released.ensures.released
    ∙ (ap (λ ws. releases_seen ms (waiters_view ws)) c.deref_mut.ensures.value
    ∙ (ap (releases_seen ms) c.in_ok-copies.ensures.copies
    ∙ (sym (released_alike ms c.self-2.inside.list.waiters (filter (touched_by ms) c.self-2.inside.list.waiters)
    (alike_touched ms c.self-2.inside.list.waiters))
    ∙ ap (λ (s : WaitsShown). releases_seen ms s.waiters)
    (ap waits_shown c.self-2.view_is ∙ c.in_ok-make_room.ensures.shown))))

pub returns-clause-fits : goal.returns-clause-fits
returns-clause-fits g c =
    let ms = c.args.moments.now in
    let own : c.in_ok-own.own.items ≡ ms = c.in_ok-own.ensures.moments in
    let planned : PlannedWaits = record {
      released = c.in_ok-released.released.items;
      answer = c.in_ok-planned.planned.answer;
      moments = c.in_ok-own.own.items;
      touched = c.in_ok-touched.touched.items;
      change = list_change_of c.in_ok-planned.planned.change;
      next = c.in_ok-planned.planned.next;
    } in
    subst (λ (s : StoredWaits). FitsWaits planned s) (sym c.self-2.view_is)
    (record {
      count = omega (arith, c.in_ok-make_room.ensures.count, ap length own);
      runs = omega (arith, c.in_ok-make_room.ensures.runs, ap length own);
      waiters = omega (arith, c.in_ok-planned.ensures.room, c.in_ok-make_room.ensures.waiters);
      place = subst (λ xs. JoinsAt (c.make_room.new.self.count + length xs) (list_change_of c.in_ok-planned.planned.change))
          (sym own) c.in_ok-planned.ensures.place;
      serial = c.in_ok-planned.ensures.serial;
      touched =
          c.in_ok-touched.ensures.serials
          ∙ (ap (λ ws. map (λ (k : StoredWaiter). k.id) (waiters_view ws)) c.deref.ensures.value
          ∙ (ap (map (λ (k : StoredWaiter). k.id)) c.in_ok-copies.ensures.copies
          ∙ (ap (λ (s : StoredWaits). serials_where (touched_by ms) s.waiters) c.self-2.view_is
          ∙ ap (λ xs. serials_where (touched_by xs) c.make_room.new.self.waiters) (sym own))));
    })

pub returns-in_err-touched-clause-quiet : goal.returns-in_err-touched-clause-quiet
returns-in_err-touched-clause-quiet g c = λ none still.
    let empty : waiters_view c.deref.result.now ≡ [] =
    ap waiters_view c.deref.ensures.value
    ∙ (c.in_ok-copies.ensures.copies
    ∙ (ap (λ ms. filter (touched_by ms) c.self-2.inside.list.waiters) none ∙ none_by_nothing c.self-2.inside.list.waiters)) in
    let bad : false ≡ true = subst IsOk c.in_err-touched.was (c.list_serials.ensures.quiet empty) in cc
