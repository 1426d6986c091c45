use Rattle.std.proofs.Common.{◌≡◌, ◌+◌, ◌<◌, [], ◌∷◌, ◌++◌, length, refl, sym, ap, subst, ◌∙◌, arith}
use Rattle.std.proofs.lemmas.List.{append-nil, append_assoc, length-append}
use Rattle.office.specs.Changed.{ComeOf}
use Rattle.office.proofs.Changed.{come_length, come_snoc, first_removed, nothing_left}
use Rattle.office.proofs.closing.change_each.Goals as goal

pub loop-init : goal.loop-init
loop-init g c =
    let none : c.args.room.items ≡ [] = c.requires.empty in (
      omega arith,
      ap length none,
      refl,
      refl,
      ([], refl, subst (λ ys. ComeOf (λ x y. g.F.Fn.post c.args.change (x, tt) y) [] ys) (sym none) tt),
    )

pub loop-preserved : goal.loop-preserved
loop-preserved g c =
    let inv = c.loop.invariant in
    let done = inv.4.0 in
    let is_all : c.args.items.len ≡ length c.args.items.items = c.args.items.ok.0 in
    let all : c.len-end.result ≡ c.args.items.len = c.len-end.ensures in
    let more = c.loop-test.true in
    let count = inv.0 in
    let some : 0 < length c.loop.items.items = omega arith in
    let first = first_removed c.loop.items.items c.remove-item.new.self.items c.remove-item.result c.remove-item.ensures.value
    c.remove-item.ensures.items some in
    let fewer = ap length first in
    let longer = ap length c.push_reserved.ensures.items in
    let counted = inv.1 in (
      omega arith,
      longer ∙ (length-append c.loop.changed.items (c.change.result ∷ []) ∙ ap (λ n. n + 1) counted),
      c.remove-item.ensures.capacity ∙ inv.2,
      c.push_reserved.ensures.capacity ∙ inv.3,
      (
        done ++ c.remove-item.result ∷ [],
        inv.4.1 ∙ (ap (λ xs. done ++ xs) first ∙ sym (append_assoc done (c.remove-item.result ∷ []) c.remove-item.new.self.items)),
        subst (λ ys. ComeOf (λ x y. g.F.Fn.post c.args.change (x, tt) y) (done ++ c.remove-item.result ∷ []) ys) (sym c.push_reserved.ensures.items)
            (come_snoc (λ x y. g.F.Fn.post c.args.change
            (x, tt) y) done c.loop.changed.items c.remove-item.result c.change.result inv.4.2 c.change.ensures),
      ),
    )

pub returns-clause-order : goal.returns-clause-order
returns-clause-order g c =
    let inv = c.loop.invariant in
    let done = inv.4.0 in
    let is_all : c.args.items.len ≡ length c.args.items.items = c.args.items.ok.0 in
    let all : c.len-end.result ≡ c.args.items.len = c.len-end.ensures in
    let past = c.loop-test.false in
    let count = inv.0 in
    let none : c.loop.items.items ≡ [] = nothing_left c.loop.items.items (omega arith) in
    let same : c.args.items.items ≡ done = inv.4.1 ∙ (ap (λ xs. done ++ xs) none ∙ append-nil done) in
    subst (λ xs. ComeOf (λ x y. g.F.Fn.post c.args.change (x, tt) y) xs c.loop.changed.items) (sym same) inv.4.2

pub returns-clause-each : goal.returns-clause-each
returns-clause-each g c =
    come_length (λ x y. g.F.Fn.post c.args.change (x, tt) y) c.args.items.items c.loop.changed.items (returns-clause-order g c)
