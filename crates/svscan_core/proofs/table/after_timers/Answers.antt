use Rattle.std.proofs.Common.{◌∙◌, ◌+◌, ◌<◌, sym, ap}
use Rattle.std.specs.Prelude.{Some, option_map}
use Rattle.supervise_core.specs.declared.chart_state.ChartState.{ChartState}
use Rattle.supervise_core.specs.Chart.{fire_move}
use Rattle.supervise_core.specs.Service.{Supervised}
use Rattle.supervise_core.proofs.Identity.{keeps_fire}
use Rattle.svscan_core.proofs.Fired.{named_agrees, named_moves, found_has}
use Rattle.svscan_core.proofs.table.after_timers.Goals as goal

pub returns-in_err-find-clause-chart : goal.returns-in_err-find-clause-chart
returns-in_err-find-clause-chart g c =
    rw c.from_residual.ensures
    (sym (named_moves (fire_move c.args.now) c.args.name.now c.args.slots.now.services (λ k. (keeps_fire c.args.now k).name)
    ∙ ap (λ o. option_map (λ s. (fire_move c.args.now s.chart).chart) o) (sym c.in_err-find.ensures)))

pub after_timer-requires : goal.after_timer-requires
after_timer-requires g c =
    rw c.standing-standing.ensures
    (found_has (λ k. k.generation + 1 < 18446744073709551616) c.args.name.now c.args.slots.now.services c.in_ok-find.field-0.now
    c.requires.generations (sym c.in_ok-find.ensures))

pub returns-clause-chart : goal.returns-clause-chart
returns-clause-chart g c =
    let there = sym c.in_ok-find.ensures in
    ap Some (rw c.standing-standing.ensures at c.after_timer.ensures.chart)
    ∙ sym (named_moves (fire_move c.args.now) c.args.name.now c.args.slots.now.services (λ k. (keeps_fire c.args.now k).name)
    ∙ ap (λ o. option_map (λ (s : Supervised). (fire_move c.args.now s.chart).chart) o) there)

pub returns-clause-agrees : goal.returns-clause-agrees
returns-clause-agrees g c = λ h at all.
    let s = c.in_ok-find.field-0.now in
    let there = sym c.in_ok-find.ensures in
    let is = c.standing-standing.ensures in
    named_agrees c.args.now (fire_move c.args.now) c.args.name.now s c.after_timer.result c.args.slots.now.services h there
    (ap (λ (k : ChartState). k.sid) (rw is at c.after_timer.ensures.chart) ∙ (keeps_fire c.args.now s.chart).sid)
    (rw is at c.after_timer.ensures.agrees) c.requires.order at all
