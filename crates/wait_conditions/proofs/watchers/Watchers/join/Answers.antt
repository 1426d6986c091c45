use Rattle.std.proofs.Common.{◌≡◌, ◌≤◌, ◌++◌, ◌∙◌, ◌+◌, ◌∷◌, [], List, ap, sym, subst, rules, arith, length, drop, map, false, append_assoc, append-nil}
use Rattle.std.specs.Prelude.{if◌then◌else◌, ◌==◌}
use Rattle.std.proofs.lemmas.List.{drop_more, drop_all}
use Rattle.wait_conditions.specs.declared.watched_service.WatchedService.{WatchedService}
use Rattle.wait_conditions.specs.Kept.{waiter_view}
use Rattle.wait_conditions.specs.Refusal.{repeats_serial}
use Rattle.wait_conditions.specs.Watchers.{serials_of}
use Rattle.wait_conditions.proofs.Indexed.{named, named_is, none_named, named_more, apart_after}
use Rattle.wait_conditions.proofs.watchers.Watchers.join.Goals as goal

pub loop-service-init : goal.loop-service-init
loop-service-init g c = record {
  room = subst (λ (ws : List WatchedService). length ws ≤ c.args.self.now.spare_capacity)
      (sym c.as_slice-service-items.ensures.value) c.requires.room;
  apart = subst (λ (ws : List WatchedService). repeats_serial (map (λ (w : WatchedService). w.sid) ws) ≡ false)
      (sym c.as_slice-service-items.ensures.value) c.requires.apart;
  same = λ sid. search rules;
}

pub loop-service-preserved : goal.loop-service-preserved
loop-service-preserved g c =
    let ws = c.as_slice-service-items.result.now in
    let n = c.loop-service.service-index in
    let v = c.service-item.result in
    let id = c.args.waiter.now.id in
    let rest = drop (n + 1) ws in
    let more : drop n ws ≡ v ∷ rest = drop_more ws n v c.loop-service-test.true ∙ ap (λ x. x ∷ rest) (sym c.service-item.is) in
    let apart : repeats_serial (map (λ (w : WatchedService). w.sid) (v ∷ rest)) ≡ false =
    subst (λ (xs : List WatchedService). repeats_serial (map (λ (w : WatchedService). w.sid) xs) ≡ false) more c.loop-service.invariant.apart in
    record {
      room = omega (arith, ap length more, c.loop-service.invariant.room, c.put.ensures.room);
      apart = apart_after v rest apart;
      same = λ sid.
          ap (λ xs. xs ++ named id sid rest) (c.put.ensures.serials sid)
          ∙ (append_assoc (serials_of sid c.loop-service.self.watchers) (if v.sid == sid then id ∷ [] else []) (named id sid rest)
          ∙ (ap (λ xs. serials_of sid c.loop-service.self.watchers ++ xs) (named_more id sid v rest apart)
          ∙ (ap (λ ys. serials_of sid c.loop-service.self.watchers ++ named id sid ys) (sym more) ∙ c.loop-service.invariant.same sid)));
    }

pub returns-after-loop-service : goal.returns-after-loop-service
returns-after-loop-service g c = λ sid.
    let ws = c.as_slice-service-items.result.now in
    let id = c.args.waiter.now.id in
    let none : drop c.loop-service.service-index ws ≡ [] = drop_all c.loop-service.service-index ws c.loop-service-test.false in
    sym (append-nil (serials_of sid c.loop-service.self.watchers))
    ∙ (ap (λ ys. serials_of sid c.loop-service.self.watchers ++ named id sid ys) (sym none)
    ∙ (c.loop-service.invariant.same sid
    ∙ ap (λ ys. serials_of sid c.args.self.now.watchers ++ ys)
    (ap (named id sid) c.as_slice-service-items.ensures.value
    ∙ named_is sid (waiter_view c.args.waiter.now) (sym c.waits_still.ensures ∙ c.if-waits_still.true))))

pub returns-else-waits_still : goal.returns-else-waits_still
returns-else-waits_still g c = λ sid.
    sym (append-nil (serials_of sid c.args.self.now.watchers))
    ∙ ap (λ ys. serials_of sid c.args.self.now.watchers ++ ys)
    (sym (none_named sid (waiter_view c.args.waiter.now) (sym c.waits_still.ensures ∙ c.if-waits_still.false)))
