-- What is true of a running tree stays true.
use Rattle.std.proofs.Common.{◌≡◌, ℕ, ◌≤◌, ◌<◌, ◌==◌, length, List, [], ◌∷◌, ◌++◌, Option, Some, None, option_to_list, refl, ap, sym, subst, ◌∙◌, arith}
use Rattle.std.proofs.lemmas.Grind.{flat_map-append}
use Rattle.std.proofs.lemmas.List.{append-nil, length-append, map-append}
use Rattle.std.proofs.lemmas.List.Elements.{filter-append}
use Rattle.std.specs.declared.alloc.Global.{Global}
use Rattle.s6_events.specs.declared.order.Order.{Order}
use Rattle.inbox.specs.declared.submission.Submission.{Submission}
use Rattle.inbox.specs.Ends.{DrainView}
use Rattle.order_lanes.specs.Lane.{sent_in}
use Rattle.order_lanes.specs.LaneOrders.{orders_of_lane, lane_of}
use Rattle.tree_core.specs.declared.input.Input.{Input}
use Rattle.tree_core.specs.Machine.{Machine, Outcome}
use Rattle.tree_core.specs.Run.{after, outcome, after_all, outcomes}
use Rattle.tree_core.specs.StandsFor.{StoredTree, StandsFor}
use Rattle.tree_core.proofs.OneMoreInput.{after_all_more, outcomes_more}
use Rattle.run_records.specs.Runs.{RunStep, IsLegal, end_of, inputs_of}
use Rattle.locked_services.specs.Running.{RunningView, IsSoundRunning, orders_of, run_limit}
use Rattle.locked_services.specs.Submissions.{AreNumbered, Give, held_by, submissions_in, submissions_of, taken_from}
use Rattle.locked_services.proofs.Submitted.{submissions_snoc}

lane_snoc : (n k : ℕ) (steps : List RunStep) (s : RunStep)
    → orders_of_lane n k (orders_of (steps ++ s ∷ [])) ≡ orders_of_lane n k (orders_of steps) ++ orders_of_lane n k s.outcome.orders
lane_snoc n k steps s =
    ap (orders_of_lane n k) (flat_map-append (λ (x : RunStep). x.outcome.orders) steps (s ∷ [])
    ∙ ap (λ (os : List Order). orders_of steps ++ os) (append-nil s.outcome.orders))
    ∙ filter-append (λ o. lane_of n o == k) (orders_of steps) s.outcome.orders

-- the step of the machine at the end of a run
pub record GoesTo (old new : StoredTree) (s : RunStep) : Type 0 where
  pub goes : (m : Machine) → StandsFor old m → (s.outcome ≡ outcome m s.input) × StandsFor new (after m s.input)

end_snoc : (m : Machine) (steps : List RunStep) (s : RunStep) → end_of m (steps ++ s ∷ []) ≡ after (end_of m steps) s.input
end_snoc m steps s =
    ap (λ (is : List (Input Global)). after_all m is) (map-append (λ (x : RunStep). x.input) steps (s ∷ []))
    ∙ after_all_more m (inputs_of steps) s.input

legal_snoc : (m : Machine) (steps : List RunStep) (s : RunStep) → IsLegal m steps → s.outcome ≡ outcome (end_of m steps) s.input
    → IsLegal m (steps ++ s ∷ [])
legal_snoc m steps s legal is =
    map-append (λ (x : RunStep). x.outcome) steps (s ∷ [])
    ∙ (ap (λ (os : List (Outcome Global)). os ++ s.outcome ∷ []) legal
    ∙ (ap (λ (o : Outcome Global). outcomes m (inputs_of steps) ++ o ∷ []) is
    ∙ (sym (outcomes_more m (inputs_of steps) s.input)
    ∙ ap (λ (is : List (Input Global)). outcomes m is) (sym (map-append (λ (x : RunStep). x.input) steps (s ∷ []))))))

still_begins : (v w : RunningView) → IsSoundRunning v → w.opening ≡ v.opening → (m : Machine) × StandsFor w.opening m
still_begins v w sound opening =
    (sound.begins.0, subst (λ (o : StoredTree). StandsFor o sound.begins.0) (sym opening) sound.begins.1)

as_many : (ss ts : List RunStep) → length ss ≤ run_limit → ts ≡ ss → length ts ≤ run_limit
as_many ss ts few same = subst (λ (xs : List RunStep). length xs ≤ run_limit) (sym same) few

one_more : (ss ts : List RunStep) (s : RunStep) → length ss < run_limit → ts ≡ ss ++ s ∷ [] → length ts ≤ run_limit
one_more ss ts s few same =
    let more = length-append ss (s ∷ []) in
    let within : length (ss ++ s ∷ []) ≤ run_limit = omega (arith, more, few) in
    subst (λ (xs : List RunStep). length xs ≤ run_limit) (sym same) within

-- the step of the held input was made
pub sound_step : (v w : RunningView) (s : RunStep) → IsSoundRunning v → v.held ≡ Some s.input → GoesTo v.tree w.tree s
    → w.opening ≡ v.opening → w.steps ≡ v.steps ++ s ∷ [] → w.drains ≡ v.drains → w.held ≡ None → length w.lanes ≡ length v.lanes
    → ((k : ℕ) → k < length v.lanes → sent_in k w.lanes ≡ sent_in k v.lanes ++ orders_of_lane (length v.lanes) k s.outcome.orders)
    → length v.steps < run_limit → IsSoundRunning w
sound_step v w s sound held goes opening steps drains none lanes sent few = record {
  begins = still_begins v w sound opening;
  within = one_more v.steps w.steps s few steps;
  legal = λ m stands.
      let old : StandsFor v.opening m = subst (λ (o : StoredTree). StandsFor o m) opening stands in
      subst (λ (ss : List RunStep). IsLegal m ss) (sym steps)
      (legal_snoc m v.steps s (sound.legal m old) (goes.goes (end_of m v.steps) (sound.stands m old)).0);
  stands = λ m stands.
      let old : StandsFor v.opening m = subst (λ (o : StoredTree). StandsFor o m) opening stands in
      subst (λ (ss : List RunStep). StandsFor w.tree (end_of m ss)) (sym steps)
      (subst (λ (x : Machine). StandsFor w.tree x) (sym (end_snoc m v.steps s))
      (goes.goes (end_of m v.steps) (sound.stands m old)).1);
  numbered = subst (λ (ds : List DrainView). AreNumbered ds) (sym drains) sound.numbered;
  submitted = λ a.
      ap (λ (ss : List RunStep). submissions_of a ss ++ held_by a w.held) steps
      ∙ (ap (λ (h : Option (Input Global)). submissions_of a (v.steps ++ s ∷ []) ++ held_by a h) none
      ∙ (append-nil (submissions_of a (v.steps ++ s ∷ []))
      ∙ (submissions_snoc a v.steps s
      ∙ (ap (λ (h : Option (Input Global)). submissions_of a v.steps ++ held_by a h) (sym held)
      ∙ (sound.submitted a ∙ ap (λ (ds : List DrainView). taken_from a ds) (sym drains))))));
  has_lanes = subst (λ (n : ℕ). 0 < n) (sym lanes) sound.has_lanes;
  sent = λ k below.
      let b : k < length v.lanes = subst (λ (n : ℕ). k < n) lanes below in
      subst (λ (n : ℕ). sent_in k w.lanes ≡ orders_of_lane n k (orders_of w.steps)) (sym lanes)
      (sent k b ∙ (ap (λ (os : List Order). os ++ orders_of_lane (length v.lanes) k s.outcome.orders) (sound.sent k b)
      ∙ (sym (lane_snoc (length v.lanes) k v.steps s)
      ∙ ap (λ (ss : List RunStep). orders_of_lane (length v.lanes) k (orders_of ss)) (sym steps))));
}

submitted_in : (a : ℕ) (o : Option (Input Global)) → submissions_in a (option_to_list o) ≡ held_by a o
submitted_in a None = refl
submitted_in a (Some input) = append-nil (held_by a (Some input))

-- an input was taken, or the rings gave none
pub sound_fetch : (v w : RunningView) → IsSoundRunning v → v.held ≡ None → AreNumbered w.drains
    → Give (option_to_list w.held) v.drains w.drains
    → w.opening ≡ v.opening → w.tree ≡ v.tree → w.steps ≡ v.steps → length w.lanes ≡ length v.lanes
    → ((k : ℕ) → sent_in k w.lanes ≡ sent_in k v.lanes) → IsSoundRunning w
sound_fetch v w sound none numbered gives opening tree steps lanes sent = record {
  begins = still_begins v w sound opening;
  within = as_many v.steps w.steps sound.within steps;
  legal = λ m stands. subst (λ (ss : List RunStep). IsLegal m ss) (sym steps)
      (sound.legal m (subst (λ (o : StoredTree). StandsFor o m) opening stands));
  stands = λ m stands. subst (λ (ss : List RunStep). StandsFor w.tree (end_of m ss)) (sym steps)
      (subst (λ (o : StoredTree). StandsFor o (end_of m v.steps)) (sym tree)
      (sound.stands m (subst (λ (o : StoredTree). StandsFor o m) opening stands)));
  numbered = numbered;
  submitted = λ a.
      let was : submissions_of a v.steps ≡ taken_from a v.drains =
      sym (append-nil (submissions_of a v.steps))
      ∙ (ap (λ (h : Option (Input Global)). submissions_of a v.steps ++ held_by a h) (sym none) ∙ sound.submitted a) in
      ap (λ (ss : List RunStep). submissions_of a ss ++ held_by a w.held) steps
      ∙ (ap (λ (xs : List Submission). xs ++ held_by a w.held) was
      ∙ (ap (λ (xs : List Submission). taken_from a v.drains ++ xs) (sym (submitted_in a w.held)) ∙ sym (gives.taken a)));
  has_lanes = subst (λ (n : ℕ). 0 < n) (sym lanes) sound.has_lanes;
  sent = λ k below.
      let b : k < length v.lanes = subst (λ (n : ℕ). k < n) lanes below in
      subst (λ (n : ℕ). sent_in k w.lanes ≡ orders_of_lane n k (orders_of w.steps)) (sym lanes)
      (sent k ∙ (sound.sent k b ∙ ap (λ (ss : List RunStep). orders_of_lane (length v.lanes) k (orders_of ss)) (sym steps)));
}

-- no step was made yet
pub sound_begin : (v : RunningView) → ((m : Machine) × StandsFor v.tree m) → v.opening ≡ v.tree → v.steps ≡ [] → v.held ≡ None → AreNumbered v.drains
    → ((a : ℕ) → taken_from a v.drains ≡ []) → 0 < length v.lanes → ((k : ℕ) → sent_in k v.lanes ≡ []) → IsSoundRunning v
sound_begin v there tree steps held numbered untaken lanes unsent = record {
  begins = (there.0, subst (λ (o : StoredTree). StandsFor o there.0) (sym tree) there.1);
  within = as_many [] v.steps (omega arith) steps;
  legal = λ m stands. subst (λ (ss : List RunStep). IsLegal m ss) (sym steps) refl;
  stands = λ m stands. subst (λ (ss : List RunStep). StandsFor v.tree (end_of m ss)) (sym steps)
      (subst (λ (o : StoredTree). StandsFor o m) tree stands);
  numbered = numbered;
  submitted = λ a.
      ap (λ (ss : List RunStep). submissions_of a ss ++ held_by a v.held) steps
      ∙ (ap (λ (h : Option (Input Global)). held_by a h) held ∙ sym (untaken a));
  has_lanes = lanes;
  sent = λ k below. unsent k ∙ ap (λ (ss : List RunStep). orders_of_lane (length v.lanes) k (orders_of ss)) (sym steps);
}

-- the rings were looked into, and nothing was taken
pub sound_looked : (v w : RunningView) → IsSoundRunning v → AreNumbered w.drains → ((a : ℕ) → taken_from a w.drains ≡ taken_from a v.drains)
    → w.opening ≡ v.opening → w.tree ≡ v.tree → w.steps ≡ v.steps → w.held ≡ v.held → length w.lanes ≡ length v.lanes
    → ((k : ℕ) → sent_in k w.lanes ≡ sent_in k v.lanes) → IsSoundRunning w
sound_looked v w sound numbered same opening tree steps held lanes sent = record {
  begins = still_begins v w sound opening;
  within = as_many v.steps w.steps sound.within steps;
  legal = λ m stands. subst (λ (ss : List RunStep). IsLegal m ss) (sym steps)
      (sound.legal m (subst (λ (o : StoredTree). StandsFor o m) opening stands));
  stands = λ m stands. subst (λ (ss : List RunStep). StandsFor w.tree (end_of m ss)) (sym steps)
      (subst (λ (o : StoredTree). StandsFor o (end_of m v.steps)) (sym tree)
      (sound.stands m (subst (λ (o : StoredTree). StandsFor o m) opening stands)));
  numbered = numbered;
  submitted = λ a.
      ap (λ (ss : List RunStep). submissions_of a ss ++ held_by a w.held) steps
      ∙ (ap (λ (h : Option (Input Global)). submissions_of a v.steps ++ held_by a h) held ∙ (sound.submitted a ∙ sym (same a)));
  has_lanes = subst (λ (n : ℕ). 0 < n) (sym lanes) sound.has_lanes;
  sent = λ k below.
      let b : k < length v.lanes = subst (λ (n : ℕ). k < n) lanes below in
      subst (λ (n : ℕ). sent_in k w.lanes ≡ orders_of_lane n k (orders_of w.steps)) (sym lanes)
      (sent k ∙ (sound.sent k b ∙ ap (λ (ss : List RunStep). orders_of_lane (length v.lanes) k (orders_of ss)) (sym steps)));
}
