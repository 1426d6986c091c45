-- What makes the step of an input stands for the machine after it.
use Rattle.std.proofs.Common.{◌≡◌, ◌+◌, ◌-◌, ◌*◌, ◌<◌, ◌≤◌, ◌++◌, ◌∷◌, List, [], true, drop, map, max, min, ℕ, arith, length, sym, ap, ◌∙◌, subst}
use Rattle.std.proofs.lemmas.List.{length-append, length-drop, drop-append-le, drop-drop}
use Rattle.event_directory.specs.Changes.{Offer}
use Rattle.event_directory.specs.Pattern.{finds}
use Rattle.event_directory.specs.Remembered.{AreHeard, DirectoriesPrepared, DirectoriesShown, directories_after_commit}
use Rattle.s6_events.specs.declared.moment.Moment.{Moment}
use Rattle.supervise_core.specs.Service.{Supervised}
use Rattle.tree_core.specs.declared.input.Input.{Input}
use Rattle.tree_core.specs.declared.step.StepPlan.{StepPlan}
use Rattle.tree_core.specs.Effect.{outcome_of}
use Rattle.wait_conditions.specs.Kept.{StoredWaiter, NoneBegan}
use Rattle.wait_conditions.specs.Stands.{WaitsShown, WaitsStandFor, stored_waiter, needed_from}
use Rattle.wait_conditions.proofs.Oldest.{least_needed, within_end}
use Rattle.wait_conditions.specs.Watch.{WrittenWaiter}
use Rattle.std.proofs.lemmas.List.Elements.{All-cons, All-head, All-tail}
use Rattle.tree_core.specs.Acts.{offer_of}
use Rattle.tree_core.specs.Machine.{Machine, directories_of, watch_of}
use Rattle.tree_core.specs.Replies.{is_subscribed}
use Rattle.tree_core.specs.Plan.{PresentState, present_state, IsNow, Plans}
use Rattle.tree_core.specs.Run.{after, outcome}
use Rattle.std.specs.Prelude.{All, get_or}
use Rattle.supervise_core.specs.declared.chart_state.ChartState.{ChartState}
use Rattle.tree_core.specs.Limits.{service_limit, moment_limit}
use Rattle.tree_core.specs.Sound.{IsCounted, IsRecorded}
use Rattle.tree_core.specs.Step.{step_limit}
use Rattle.tree_core.specs.StandsFor.{StoredTree, StandsFor, IsCut}
use Rattle.svscan_core.specs.Registry.{RegistryPrepared}
use Rattle.svscan_core.specs.Deaths.{AllTallied, AllBefore}
use Rattle.svscan_core.specs.Sound.{AllAgree}
use Rattle.svscan_core.specs.Table.{charts_of}
use Rattle.tree_core.specs.declared.effect.Effect.{Effect}
use Rattle.tree_core.proofs.Reading.{step-reads}

-- what is there now in a tree, and in each machine for which it stands
abbrev pub present_of : StoredTree → PresentState
present_of t = present_state t.clock t.steps t.closing t.services t.next_sid t.waits t.directories

pub is_now : (t : StoredTree) (m : Machine) → StandsFor t m → IsNow (present_of t) m
is_now t m s = record {
  clock = s.clock;
  steps = s.steps;
  closing = s.closing;
  services = s.services;
  next_sid = s.next_sid;
  agrees = s.agrees;
  tallies = s.tallies;
  numbered = subst (λ (k : ℕ). AllBefore k m.deaths) s.next_sid s.numbered;
  reading = s.reading;
  waiting = s.waiting;
  hearing = s.hearing;
}

-- a plan for every machine that has now what a tree has
abbrev PlansAll : {A : Type 0} → StoredTree → Input A → StepPlan A → RegistryPrepared → WaitsShown → DirectoriesPrepared → Effect A → Type 0
PlansAll t input plan prepared later directories effect =
    (m : Machine) → IsNow (present_of t) m → Plans m input plan prepared later directories effect

-- what a step leaves in a tree, by its plan
pub record Installs {A : Type 0} (t new : StoredTree) (plan : StepPlan A) (prepared : RegistryPrepared) (later : WaitsShown)
    (heard : DirectoriesShown) : Type 0 where
  pub clock : new.clock ≡ plan.now
  pub steps : new.steps ≡ t.steps + 1
  pub closing : new.closing ≡ plan.closing
  pub services : new.services ≡ prepared.services
  pub next_sid : new.next_sid ≡ prepared.next_sid
  pub forgotten : t.forgotten ≤ new.forgotten
  pub within : new.forgotten ≤ t.forgotten + length (t.kept ++ plan.history)
  pub kept : new.kept ≡ drop (new.forgotten - t.forgotten) (t.kept ++ plan.history)
  pub waits : new.waits ≡ later
  pub directories : new.directories ≡ heard

-- the kept moments and those of the step are what the history after it has behind the forgotten ones
behind : {A : Type 0} (t : StoredTree) (m n : Machine) (plan : StepPlan A) → m.history ++ plan.history ≡ n.history → StandsFor t m
    → drop t.forgotten n.history ≡ t.kept ++ plan.history
behind t m n plan e s =
    subst (λ (h : List Moment). drop t.forgotten h ≡ t.kept ++ plan.history) e
    (drop-append-le t.forgotten m.history plan.history s.forgotten ∙ ap (λ h. h ++ plan.history) s.kept)

-- more of them may be forgotten
pub dropped_more : (old new : ℕ) (kept whole : List Moment) → drop old whole ≡ kept → old ≤ new → drop new whole ≡ drop (new - old) kept
dropped_more old new kept whole e le =
    let total : old + (new - old) ≡ new = omega (arith, le) in
    ap (λ n. drop n whole) (sym total) ∙ (sym (drop-drop (new - old) old whole) ∙ ap (drop (new - old)) e)

kept_within : (old new : ℕ) (kept whole : List Moment) → drop old whole ≡ kept → (n : ℕ) → n ≡ length whole → old ≤ n
    → new ≤ old + length kept → new ≤ length whole
kept_within old new kept whole e n size le within =
    let rest : length kept ≡ length whole - old = ap length (sym e) ∙ length-drop old whole in
    omega (arith, rest, size, le, within)

pub stands_after : {A : Type 0} (t new : StoredTree) (input : Input A) (plan : StepPlan A) (prepared : RegistryPrepared) (later : WaitsShown)
    (directories : DirectoriesPrepared) (effect : Effect A) (offer : Offer) → (is_subscribed plan.letters.answer ≡ true → offer ≡ offer_of input.act)
    → PlansAll t input plan prepared later directories effect → Installs t new plan prepared later (directories_after_commit directories offer)
    → (m : Machine) → StandsFor t m → (outcome_of effect ≡ outcome m input) × StandsFor new (after m input)
stands_after {A} t new input plan prepared later directories effect offer same plans n m s =
    let p : Plans m input plan prepared later directories effect = plans m (is_now t m s) in (
      p.outcome,
      record {
        clock = sym (n.clock ∙ p.clock);
        steps = sym p.steps ∙ (ap (λ k. k + 1) s.steps ∙ sym n.steps);
        closing = sym (n.closing ∙ p.closing);
        services = sym p.services ∙ ap charts_of (sym n.services);
        next_sid = sym (n.next_sid ∙ p.next_sid);
        forgotten = kept_within t.forgotten new.forgotten (t.kept ++ plan.history) (after m input).history
            (behind t m (after m input) plan p.history s) (length (m.history ++ plan.history)) (ap length p.history)
            (omega (arith, length-append m.history plan.history, s.forgotten)) n.within;
        kept = dropped_more t.forgotten new.forgotten (t.kept ++ plan.history) (after m input).history (behind t m (after m input) plan p.history s)
            n.forgotten ∙ sym n.kept;
        agrees = subst (λ (ss : List Supervised). AllAgree ss (after m input).history) (sym n.services)
            (subst (AllAgree prepared.services) p.history p.agrees);
        tallies = subst (λ (ss : List Supervised). AllTallied ss (after m input).deaths) (sym n.services) p.tallies;
        numbered = subst (λ (k : ℕ). AllBefore k (after m input).deaths) p.next_sid p.numbered;
        reading = step-reads m input s.reading;
        waiting = subst (λ (x : WaitsShown). WaitsStandFor x (watch_of (after m input))) (sym n.waits) p.waiting;
        hearing = subst (λ (x : DirectoriesShown). AreHeard finds x (directories_of (after m input))) (sym n.directories)
            (p.hearing offer same);
      },
    )

-- the history with the moments of a planned step
pub recorded_after : {A : Type 0} (t : StoredTree) (plan : StepPlan A) (forgotten : ℕ) (kept : List Moment) → IsRecorded t.steps t.forgotten t.kept
    → length plan.history ≤ moment_limit → forgotten + length kept ≡ t.forgotten + length (t.kept ++ plan.history)
    → IsRecorded (t.steps + 1) forgotten kept
recorded_after t plan forgotten kept r few same = record {
  few = omega (arith, same, length-append t.kept plan.history, r.few, few);
}

-- its numbers after a step
pub counted_after : (taken next new_next waiter new_waiter subscription new_subscription : ℕ) (old new : List ChartState)
    → IsCounted taken next waiter subscription old → taken < step_limit
    → new_next ≤ next + service_limit → new_waiter ≤ waiter + 1 → new_subscription ≤ subscription + 1
    → ((n : ℕ) → All (λ c. c.generation ≤ n) old → All (λ c. c.generation ≤ n + 2) new)
    → IsCounted (taken + 1) new_next new_waiter new_subscription new
counted_after taken next new_next waiter new_waiter subscription new_subscription old new c left few one another grows = record {
  steps = omega (arith, left);
  serials = let was = c.serials in omega (arith, was, few);
  waiters = let was = c.waiters in omega (arith, was, one);
  subscriptions = let was = c.subscriptions in omega (arith, was, another);
  generations = λ k d lt. let here : (get_or new k d).generation ≤ 2 * taken + 2 = grows (2 * taken) c.generations k d lt in omega arith;
}

-- how many moments a machine has for which a tree stands
pub counts_all : (t : StoredTree) (m : Machine) → StandsFor t m → t.waits.count ≡ t.forgotten + length t.kept
counts_all t m s =
    let count : length m.history ≡ t.waits.count = s.waiting.count in
    let rest : length t.kept ≡ length m.history - t.forgotten = ap length (sym s.kept) ∙ length-drop t.forgotten m.history in
    omega (arith, count, rest, s.forgotten)

all_begun : (h : List Moment) (ps : List WrittenWaiter) → All (λ p. p.place ≤ length h) ps
    → All (λ (k : StoredWaiter). k.place ≤ length h) (map (stored_waiter h) ps)
all_begun h [] a = λ k d lt. absurd (omega (arith, lt))
all_begun h (p ∷ ps) a =
    All-cons (λ (k : StoredWaiter). k.place ≤ length h) (stored_waiter h p) (map (stored_waiter h) ps)
    (All-head (λ (q : WrittenWaiter). q.place ≤ length h) p ps a)
    (all_begun h ps (All-tail (λ (q : WrittenWaiter). q.place ≤ length h) p ps a))

-- each waiter began within them
pub began_within : (t : StoredTree) (m : Machine) → StandsFor t m → All (λ k. k.place ≤ t.waits.count) t.waits.waiters
began_within t m s =
    rw (s.waiting.waiters, ← s.waiting.count) (all_begun m.history m.waiters s.waiting.placed)

-- what is forgotten where moments are needed from a place on
pub cut_at : (forgotten place end : ℕ) → forgotten ≤ place → place ≤ end → max forgotten (min place end) ≡ place
cut_at forgotten place end le within = omega (arith, le, within)

-- what is left where the history takes the moments of a step and is cut at a place
pub record CutParts (t : StoredTree) (moments : List Moment) (forgotten : ℕ) (kept : List Moment) : Type 0 where
  pub since : t.forgotten ≤ forgotten
  pub within : forgotten ≤ t.forgotten + length (t.kept ++ moments)
  pub left : kept ≡ drop (forgotten - t.forgotten) (t.kept ++ moments)
  pub size : forgotten + length kept ≡ t.forgotten + length (t.kept ++ moments)

cut_whole : (t : StoredTree) (moments : List Moment) (forgotten place : ℕ) (kept : List Moment)
    → forgotten ≡ max t.forgotten (min place (t.forgotten + length (t.kept ++ moments)))
    → kept ≡ drop (forgotten - t.forgotten) (t.kept ++ moments) → CutParts t moments forgotten kept
cut_whole t moments forgotten place kept e f =
    let rest : length kept ≡ length (t.kept ++ moments) - (forgotten - t.forgotten) =
    ap length f ∙ length-drop (forgotten - t.forgotten) (t.kept ++ moments) in
    record { since = omega (arith, e); within = omega (arith, e); left = f; size = omega (arith, e, rest) }

pub cut_parts : (t : StoredTree) (moments : List Moment) (before forgotten place : ℕ) (all kept : List Moment) → before ≡ t.forgotten
    → all ≡ t.kept ++ moments → forgotten ≡ max before (min place (before + length all))
    → kept ≡ drop (max before (min place (before + length all)) - before) all → CutParts t moments forgotten kept
cut_parts t moments before forgotten place all kept b a e f =
    cut_whole t moments forgotten place kept
    (e ∙ λ i. max (b i) (min place (b i + length (a i))))
    (f ∙ (ap (λ n. drop (n - before) all) (sym e) ∙ λ i. drop (forgotten - b i) (a i)))

-- it is cut where moments are needed
pub is_cut : (t n : StoredTree) (moments : List Moment) (before place : ℕ) (all : List Moment) (m : Machine) → StandsFor n m
    → before ≡ t.forgotten → all ≡ t.kept ++ moments → n.forgotten ≡ max before (min place (before + length all))
    → n.kept ≡ drop (max before (min place (before + length all)) - before) all → place ≡ needed_from n.waits
    → NoneBegan t.forgotten n.waits.waiters → IsCut n
is_cut t n moments before place all m s b a e f is none =
    let parts = cut_parts t moments before n.forgotten place all n.kept b a e f in
    let count = counts_all n m s in
    let size = ap length a in
    let end : n.waits.count ≡ before + length all = omega (arith, count, parts.size, size, b) in
    let least : t.forgotten ≤ needed_from n.waits =
    least_needed n.waits.waiters n.waits.count t.forgotten none (omega (arith, end, b)) in
    let within : needed_from n.waits ≤ n.waits.count =
    within_end n.waits.waiters n.waits.count n.waits.count (began_within n m s) (omega arith) in
    record {
      cut = e ∙ (cut_at before place (before + length all) (omega (arith, least, is, b)) (omega (arith, within, is, end)) ∙ is);
      count = count;
    }
