use Rattle.std.proofs.Common.{◌∙◌, ◌+◌, ◌<◌, ◌++◌, ◌∷◌, [], ap, sym, subst, arith, length, drop, map}
use Rattle.std.proofs.lemmas.List.{drop_more, drop_all, length-map, length-drop, get_or-map}
use Rattle.std.proofs.lemmas.List.Elements.{All-get_or, All-nil, All-same}
use Rattle.wait_conditions.specs.declared.watchers.Watcher.{Watcher}
use Rattle.wait_conditions.specs.Kept.{waiter_view}
use Rattle.wait_conditions.specs.WaitsFields.{IsCounted, waiters_view}
use Rattle.wait_conditions.specs.Watchers.{serials_where, watches}
use Rattle.wait_conditions.proofs.Searching.{drop_on, kept_more, kept_all}
use Rattle.wait_conditions.proofs.planning.copy_watching.Goals as goal

pub loop-watcher-init : goal.loop-watcher-init
loop-watcher-init g c = record {
  within = omega arith;
  left = c.requires.watchers;
  copies = ap waiters_view c.new-copies.ensures.items;
  counted = All-same IsCounted c.new-copies.result.items [] c.new-copies.ensures.items (All-nil IsCounted);
}

pub bounds-waiters-place : goal.bounds-waiters-place
bounds-waiters-place g c =
    let ws = c.args.watchers.now in
    let n = c.loop-watcher.watcher-index in
    let rest = map (λ (w : Watcher). w.waiter) (drop (n + 1) ws) in
    let first = c.place_from-place.ensures.first (watches c.args.sid) rest
    (sym c.loop-watcher.invariant.left
    ∙ ap (map (λ (w : Watcher). w.waiter))
    (drop_more ws n c.watcher-item.result c.loop-watcher-test.true ∙ ap (λ x. x ∷ drop (n + 1) ws) (sym c.watcher-item.is))) in
    omega (
      arith,
      first.within,
      c.place_from-place.ensures.from,
      length-map c.args.waiters.now waiter_view,
      length-drop c.loop-watcher.start (waiters_view c.args.waiters.now),
    )

pub push_copy-requires-clause-waiter : goal.push_copy-requires-clause-waiter
push_copy-requires-clause-waiter g c =
    let ws = c.args.watchers.now in
    let n = c.loop-watcher.watcher-index in
    let rest = map (λ (w : Watcher). w.waiter) (drop (n + 1) ws) in
    let first = c.place_from-place.ensures.first (watches c.args.sid) rest
    (sym c.loop-watcher.invariant.left
    ∙ ap (map (λ (w : Watcher). w.waiter))
    (drop_more ws n c.watcher-item.result c.loop-watcher-test.true ∙ ap (λ x. x ∷ drop (n + 1) ws) (sym c.watcher-item.is))) in
    subst IsCounted (sym c.index-waiters-place.is)
    (All-get_or IsCounted c.args.waiters.now c.place_from-place.result c.index-waiters-place.result
    (omega (
      arith,
      first.within,
      c.place_from-place.ensures.from,
      length-map c.args.waiters.now waiter_view,
      length-drop c.loop-watcher.start (waiters_view c.args.waiters.now),
    )) c.requires.counted)

pub loop-watcher-preserved : goal.loop-watcher-preserved
loop-watcher-preserved g c =
    let ws = c.args.watchers.now in
    let n = c.loop-watcher.watcher-index in
    let W = waiters_view c.args.waiters.now in
    let start = c.loop-watcher.start in
    let place = c.place_from-place.result in
    let w = c.index-waiters-place.result in
    let rest = map (λ (w : Watcher). w.waiter) (drop (n + 1) ws) in
    let first = c.place_from-place.ensures.first (watches c.args.sid) rest
    (sym c.loop-watcher.invariant.left
    ∙ ap (map (λ (w : Watcher). w.waiter))
    (drop_more ws n c.watcher-item.result c.loop-watcher-test.true ∙ ap (λ x. x ∷ drop (n + 1) ws) (sym c.watcher-item.is))) in
    let here : place < length c.args.waiters.now = omega
    (arith, first.within, c.place_from-place.ensures.from, length-map c.args.waiters.now waiter_view, length-drop start W) in
    let seen = ap waiter_view c.index-waiters-place.is ∙ sym (get_or-map waiter_view c.args.waiters.now place w (waiter_view w) here) in
    record {
      within = omega (arith, here);
      left = sym first.left ∙ ap (serials_where (watches c.args.sid)) (drop_on start place W c.place_from-place.ensures.from);
      copies =
          c.in_ok-push_copy.ensures.copies
          ∙ (ap (λ ks. ks ++ waiter_view w ∷ []) c.loop-watcher.invariant.copies
          ∙ kept_more (watches c.args.sid) start place W rest (waiter_view w) c.place_from-place.ensures.from first seen);
      counted = c.push_copy.ensures.counted;
    }

pub returns-clause-copies : goal.returns-clause-copies
returns-clause-copies g c =
    c.loop-watcher.invariant.copies
    ∙ kept_all (watches c.args.sid) c.loop-watcher.start (waiters_view c.args.waiters.now)
    (sym c.loop-watcher.invariant.left
    ∙ ap (map (λ (w : Watcher). w.waiter)) (drop_all c.loop-watcher.watcher-index c.args.watchers.now c.loop-watcher-test.false))
