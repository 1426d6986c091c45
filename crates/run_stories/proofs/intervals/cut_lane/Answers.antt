use Rattle.std.proofs.Common.{ℕ, List, ◌≤◌, subst, sym, arith}
use Rattle.std.proofs.Math.Nat.{max-eq_left}
use Rattle.std.proofs.lemmas.Result.{on_ok_weaker}
use Rattle.run_stories.specs.Intervals.{Fill, shown_at, with_interval}
use Rattle.run_stories.specs.declared.intervals.Interval.{Interval}
use Rattle.run_stories.specs.declared.shade.Shade.TheVariants.{Absent}
use Rattle.run_stories.proofs.Fills.{fill_on, stays, stays_on, goes_on}
use Rattle.run_stories.proofs.intervals.cut_lane.Goals as goal

pub loop-change-preserved : goal.loop-change-preserved
loop-change-preserved g c =
    let shown = shown_at c.args.scale.now Absent c.args.changes.now in
    let from = c.loop-change.from in
    let to = c.place-place.result in
    let before = c.loop-change.intervals.items in
    let shade = c.loop-change.shade in
    let rest = c.loop-change.invariant.rest in
    let changes = c.args.changes.now in
    let change = c.change-item.result in
    record {
      fill = subst (λ (all : List Interval). Fill shown 0 all c.max-from.result) (sym c.in_ok-cut.ensures)
          (subst (λ (reached : ℕ). Fill shown 0 (with_interval before from to shade) reached) (sym c.max-from.ensures)
          (fill_on shown 0 before from to shade c.loop-change.invariant.fill
          (stays c.args.scale.now shown from c.loop-change.change-index shade changes change rest c.loop-change-test.true c.change-item.is to
          c.place-place.ensures)));
      within = omega (arith, c.max-from.ensures, c.place-place.ensures, c.loop-change.invariant.within);
      rest = λ place le. goes_on c.args.scale.now shown from c.loop-change.change-index shade changes change rest c.loop-change-test.true
          c.change-item.is to c.place-place.ensures place (subst (λ (reached : ℕ). reached ≤ place) c.max-from.ensures le);
    }

pub returns : goal.returns
returns g c =
    let shown = shown_at c.args.scale.now Absent c.args.changes.now in
    let from = c.loop-change.from in
    let before = c.loop-change.intervals.items in
    on_ok_weaker c.cut-2.result
    (λ e. subst (λ (all : List Interval). Fill shown 0 all 10000) (sym e)
    (subst (λ (reached : ℕ). Fill shown 0 (with_interval before from 10000 c.loop-change.shade) reached)
    (max-eq_left c.loop-change.invariant.within)
    (fill_on shown 0 before from 10000 c.loop-change.shade c.loop-change.invariant.fill
    (stays_on c.args.scale.now shown from c.loop-change.change-index c.loop-change.shade c.args.changes.now c.loop-change.invariant.rest
    c.loop-change-test.false 10000)))) c.cut-2.ensures
