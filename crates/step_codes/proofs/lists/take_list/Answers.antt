use Rattle.std.proofs.Common.{rules, ◌≡◌, ◌<◌, ℕ, suc, ◌+◌, List, [], ◌∷◌, ◌++◌, take, drop, length, sym, ap, ◌∙◌, arith}
use Rattle.std.proofs.lemmas.List.{append_assoc}
use Rattle.step_codes.specs.ListCodes.{items_onto}
use Rattle.step_codes.proofs.ItemCodes.{item_at}
use Rattle.step_codes.proofs.lists.take_list.Goals as goal

pub loop-preserved : goal.loop-preserved
loop-preserved g c items rest few all is =
    let before = c.loop.invariant items rest few all is in
    let low : c.loop.counter < length items = let n = before.0 in let b = c.loop-test.true in omega arith in
    let one = item_at g.T.Coded.fits c.loop.counter items low in
    let taken = c.take.ensures one.item (items_onto g.T.Coded.onto (drop (suc c.loop.counter) items) rest) (one.fit all)
    (before.2 ∙ ap (λ (xs : List g.row.T.Denot). items_onto g.T.Coded.onto xs rest) one.left) in
    let next : c.loop.counter + 1 ≡ suc c.loop.counter = omega arith in
    let kept : c.push.new.self.items ≡ c.loop.into.items ++ c.take.result ∷ [] = search rules in
    let into = c.args.into.now.items in
    let k = c.loop.counter in (
      before.0,
      kept
          ∙ (ap (λ (xs : List g.row.T.Denot). xs ++ c.take.result ∷ []) before.1
          ∙ (ap (λ (x : g.row.T.Denot). (into ++ take k items) ++ x ∷ []) taken.0
          ∙ (append_assoc into (take k items) (one.item ∷ [])
          ∙ ap (λ (xs : List g.row.T.Denot). into ++ xs) (sym one.before ∙ ap (λ (n : ℕ). take n items) (sym next))))),
      rw next taken.1,
    )
