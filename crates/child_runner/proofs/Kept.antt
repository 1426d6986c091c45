-- What a longer list of orders keeps, and what a report that answers one of them is.
use Rattle.std.proofs.Common.{◌≡◌, ℕ, zero, suc, List, [], ◌∷◌, ◌++◌, slice_get, Option, Some, None, IfSome, IsTrue, ap}
use Rattle.std.proofs.Common.{◌∙◌, rules}
use Rattle.std.specs.List.{All, Contains}
use Rattle.std.proofs.lemmas.List.Elements.{All-weaker, All-push, All-contains, Contains-append_left, Contains-push}
use Rattle.std.proofs.lemmas.List.Folds.{list_any_at}
use Rattle.s6_events.specs.declared.order.Order.{Order}
use Rattle.order_lanes.specs.Backend.{answers, IsOfAsked}
use Rattle.child_runner.specs.Roll.{WasAsked}
use Rattle.s6_events.specs.declared.report.Report.{Report}

pub more_asked : (asked : List Order) (order : Order) (living : List Order) → All (WasAsked asked) living
    → All (WasAsked (asked ++ order ∷ [])) living
unfolding WasAsked
more_asked asked order living each = All-weaker (WasAsked asked) (WasAsked (asked ++ order ∷ []))
    (λ o c. Contains-append_left asked (order ∷ []) o c) living each

pub one_more_lives : (asked : List Order) (order : Order) (living : List Order) → All (WasAsked asked) living
    → All (WasAsked (asked ++ order ∷ [])) (living ++ order ∷ [])
unfolding WasAsked
one_more_lives asked order living each = All-push (WasAsked (asked ++ order ∷ [])) living order (more_asked asked order living each)
    (Contains-push asked order)

there : (orders : List Order) (k : ℕ) (order : Order) → slice_get orders k ≡ Some order → Contains orders order
there [] zero order at = absurd (cc at)
there [] (suc k) order at = absurd (cc at)
there (x ∷ orders) zero order at = (0, search rules, cc at)
there (x ∷ orders) (suc k) order at = let c = there orders k order at in (suc c.0, search (rules, c.1), c.2)

of_asked : (asked : List Order) (report : Report) (order : Order) → Contains asked order → IsTrue (answers order report) → IsOfAsked asked report
unfolding IsOfAsked
of_asked asked report order c is = list_any_at (λ o. answers o report) asked c.0 order c.1 (ap (λ o. answers o report) c.2 ∙ is)

pub answered : (living : List Order) (report : Report) (place : Option ℕ)
    → IfSome place (λ k. (order : Order) × (slice_get living k ≡ Some order) × IsTrue (answers order report))
    → IfSome place (λ k. (asked : List Order) → All (WasAsked asked) living → IsOfAsked asked report)
unfolding WasAsked
answered living report None h = search rules
answered living report (Some k) h = λ asked each.
    of_asked asked report h.0 (All-contains (WasAsked asked) living h.0 each (there living k h.0 h.1)) h.2
