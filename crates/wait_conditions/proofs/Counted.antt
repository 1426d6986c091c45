-- Counters give the verdict of the bits that they count.
use Rattle.std.proofs.Common.{◌≡◌, ◌≤◌, ◌<◌, ◌+◌, ℕ, List, [], ◌∷◌, Bool, true, false, cond, ◌&&◌, ◌||◌, is_some, suc, set, get_or, length, map, count_by, refl, sym, ap, ◌∙◌, arith}
use Rattle.std.specs.Prelude.{◌==◌, nat_lt}
use Rattle.std.specs.List.{list_all, list_any}
use Rattle.std.proofs.lemmas.List.Sums.{count_by-le-length, sum_by-cons, sum_by-set}
use Rattle.s6_events.specs.declared.condition.Mode.{Mode}
use Rattle.s6_events.specs.declared.condition.Mode.TheVariants as mode
use Rattle.s6_events.specs.declared.moment.Moment.{Moment}
use Rattle.wait_conditions.specs.Holds.{holds}
use Rattle.wait_conditions.specs.Fails.{failure}
use Rattle.wait_conditions.specs.Verdict.{WaitTerms, is_enough, is_hopeless, is_late, is_failure_for_good, verdict}
use Rattle.wait_conditions.specs.declared.watched_service.WatchedService.{WatchedService}
use Rattle.wait_conditions.specs.Watched.{watched_over}
use Rattle.wait_conditions.specs.Counts.{recounted, counts_after, counts_of, count_is_enough, count_is_hopeless, verdict_by}
use Rattle.std.proofs.lemmas.Bool.Decides.{nat_tests}

count_by-cons : {X : Type 0} (p : X → Bool) (x : X) (xs : List X) → count_by p (x ∷ xs) ≡ cond (p x) 1 0 + count_by p xs
count_by-cons p x xs = sum_by-cons (λ y. cond (p y) 1 0) x xs

pub count_by-map : {X Y : Type 0} (p : Y → Bool) (f : X → Y) (xs : List X) → count_by p (map f xs) ≡ count_by (λ x. p (f x)) xs
count_by-map p f [] = refl
count_by-map {X} {Y} p f (x ∷ xs) =
    count_by-cons p (f x) (map f xs)
    ∙ (ap (λ n. cond (p (f x)) 1 0 + n) (count_by-map p f xs)
    ∙ sym (count_by-cons (λ (y : X). p (f y)) x xs))

one_counts : (b : Bool) (n : ℕ) (any : Bool) → any ≡ nat_lt 0 n → (b || any) ≡ nat_lt 0 (cond b 1 0 + n)
one_counts true n any h = grind (arith, nat_tests)
one_counts false n any h = h ∙ ap (nat_lt 0) (omega arith)

-- one passes where the count isn't 0
pub list_any-counts : {X : Type 0} (p : X → Bool) (xs : List X) → list_any p xs ≡ nat_lt 0 (count_by p xs)
list_any-counts p [] = refl
list_any-counts p (x ∷ xs) = one_counts (p x) (count_by p xs) (list_any p xs) (list_any-counts p xs) ∙ ap (nat_lt 0) (sym (count_by-cons p x xs))

each_counts : (b : Bool) (n m : ℕ) (all : Bool) → n ≤ m → all ≡ (n == m) → (b && all) ≡ ((cond b 1 0 + n) == suc m)
each_counts true n m all le h = grind (arith, nat_tests)
each_counts false n m all le h = grind (arith, nat_tests)

-- each passes where all are counted
pub list_all-counts : {X : Type 0} (p : X → Bool) (xs : List X) → list_all p xs ≡ (count_by p xs == length xs)
list_all-counts p [] = refl
list_all-counts p (x ∷ xs) =
    each_counts (p x) (count_by p xs) (length xs) (list_all p xs) (count_by-le-length p xs) (list_all-counts p xs)
    ∙ ap (λ n. n == suc (length xs)) (sym (count_by-cons p x xs))

enough_by : (mode : Mode) (p : ℕ → Bool) (sids : List ℕ) → is_enough mode p sids ≡ count_is_enough mode (length sids) (count_by p sids)
enough_by mode.All p sids = list_all-counts p sids
enough_by mode.One p sids = list_any-counts p sids

hopeless_by : (mode : Mode) (p : ℕ → Bool) (sids : List ℕ) → is_hopeless mode p sids ≡ count_is_hopeless mode (length sids) (count_by p sids)
hopeless_by mode.All p sids = list_any-counts p sids
hopeless_by mode.One p sids = list_all-counts p sids

-- the verdict over a stretch is the one that the counters of its bits give
pub verdict-counts : (a : WaitTerms) (past since : List Moment)
    → verdict a past since ≡ verdict_by a.mode (length a.sids) (counts_of (map (watched_over a.condition past since) a.sids))
    (is_late a.deadline since)
verdict-counts a past since =
    let bits = watched_over a.condition past since in
    let holding = enough_by a.mode (λ sid. holds a.condition sid past since) a.sids
    ∙ ap (count_is_enough a.mode (length a.sids)) (sym (count_by-map (λ (w : WatchedService). w.holds) bits a.sids)) in
    let failing = hopeless_by a.mode (λ sid. is_some (failure a.condition sid past since)) a.sids
    ∙ ap (count_is_hopeless a.mode (length a.sids)) (sym (count_by-map (λ (w : WatchedService). is_some w.failure) bits a.sids)) in
    let permanent = list_any-counts (λ sid. is_failure_for_good (failure a.condition sid past since)) a.sids
    ∙ ap (nat_lt 0) (sym (count_by-map (λ (w : WatchedService). is_failure_for_good w.failure) bits a.sids)) in
    rw (holding, failing, permanent) refl

count_by-set : {X : Type 0} (p : X → Bool) (xs : List X) (i : ℕ) (y d : X) → i < length xs
    → count_by p (set xs i y) ≡ recounted (count_by p xs) (p (get_or xs i d)) (p y)
count_by-set p xs i y d h = omega (arith, sum_by-set (λ x. cond (p x) 1 0) xs i y d h)

-- the counters count
pub counts_of-set : (ws : List WatchedService) (i : ℕ) (w d : WatchedService) → i < length ws
    → counts_of (set ws i w) ≡ counts_after (counts_of ws) (get_or ws i d) w
counts_of-set ws i w d h =
    let holding = count_by-set (λ (x : WatchedService). x.holds) ws i w d h in
    let failing = count_by-set (λ (x : WatchedService). is_some x.failure) ws i w d h in
    let permanent = count_by-set (λ (x : WatchedService). is_failure_for_good x.failure) ws i w d h in
    (cc)
