-- The orders of all records grow, and each record's part stays.
use Rattle.std.proofs.Common.{◌≡◌, ℕ, suc, ◌+◌, ◌≤◌, List, [], ◌∷◌, ◌++◌, All, map, take, drop, length, refl, ap, ◌∙◌, arith}
use Rattle.std.proofs.lemmas.List.{drop-append-le, take-append-le, length-drop, length-append, map-append}
use Rattle.std.proofs.Math.Seq.{drop-append_seam}
use Rattle.s6_events.specs.declared.order.Order.{Order}
use Rattle.tree_core.specs.Limits.{order_limit}
use Rattle.run_records.specs.declared.record.Record.{Record}
use Rattle.run_records.specs.Runs.{RunStep}
use Rattle.run_records.specs.WholeSteps.{step_of, IsWithin}
use Rattle.run_records.proofs.Snoc.{all_snoc}

part_grown : (orders more : List Order) (first count : ℕ) → first + count ≤ length orders
    → take count (drop first (orders ++ more)) ≡ take count (drop first orders)
part_grown orders more first count within =
    ap (take count) (drop-append-le first orders more (omega arith))
    ∙ take-append-le count (drop first orders) more (let e = length-drop first orders in omega arith)

step_grown : (orders more : List Order) (r : Record) → IsWithin orders r → step_of (orders ++ more) r ≡ step_of orders r
step_grown orders more r within = rw (part_grown orders more r.first r.count within.0) refl

all_grown : (orders more : List Order) (rs : List Record) → All (IsWithin orders) rs → map (step_of (orders ++ more)) rs ≡ map (step_of orders) rs
all_grown orders more [] within = refl
all_grown orders more (r ∷ rs) within =
    rw (step_grown orders more r (within 0 r (omega arith)))
    (ap (λ (ts : List RunStep). step_of orders r ∷ ts) (all_grown orders more rs (λ k d below. within (suc k) d (omega arith))))

take_all : (xs : List Order) → take (length xs) xs ≡ xs
take_all [] = refl
take_all (x ∷ xs) = ap (λ (ys : List Order). x ∷ ys) (take_all xs)

-- the part that was added
pub part_last : (orders more : List Order) (first count : ℕ) → first ≡ length orders → count ≡ length more
    → take count (drop first (orders ++ more)) ≡ more
part_last orders more first count e f = rw e (rw f (ap (take (length more)) (drop-append_seam orders more) ∙ take_all more))

-- one record more, with its orders after all others
pub steps_snoc : (orders more after : List Order) (rs rs_after : List Record) (r : Record) (t : RunStep) → All (IsWithin orders) rs
    → after ≡ orders ++ more → rs_after ≡ rs ++ r ∷ [] → step_of (orders ++ more) r ≡ t
    → map (step_of after) rs_after ≡ map (step_of orders) rs ++ t ∷ []
steps_snoc orders more after rs rs_after r t within e f last =
    rw e (rw f (map-append (step_of (orders ++ more)) rs (r ∷ [])
    ∙ (ap (λ (ts : List RunStep). ts ++ step_of (orders ++ more) r ∷ []) (all_grown orders more rs within)
    ∙ ap (λ (x : RunStep). map (step_of orders) rs ++ x ∷ []) last)))

-- each record's part lies within the orders still
pub within_snoc : (orders more after : List Order) (rs rs_after : List Record) (r : Record) → All (IsWithin orders) rs
    → after ≡ orders ++ more → rs_after ≡ rs ++ r ∷ [] → r.first ≡ length orders → r.count ≡ length more → length more ≤ order_limit
    → All (IsWithin after) rs_after
within_snoc orders more after rs rs_after r within e f first count few =
    let n = length-append orders more in
    rw e (rw f (all_snoc (IsWithin (orders ++ more)) rs r
    (λ k d below. let w = within k d below in let low = w.0 in (omega arith, w.1))
    (omega arith, omega arith)))
