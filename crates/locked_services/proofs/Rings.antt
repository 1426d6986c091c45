-- What one step takes after others.
use Rattle.std.proofs.Common.{◌≡◌, ℕ, ◌≤◌, ◌+◌, List, [], ◌∷◌, ◌++◌, Option, None, Some, length, option_to_list, refl, ap, sym, subst, ◌∙◌, arith}
use Rattle.std.proofs.lemmas.Grind.{flat_map-append}
use Rattle.std.proofs.lemmas.List.{append-nil, append_assoc, length-append, nil_from_length}
use Rattle.std.specs.declared.alloc.Global.{Global}
use Rattle.inbox.specs.declared.submission.Submission.{Submission}
use Rattle.inbox.specs.Ends.{DrainView}
use Rattle.tree_core.specs.declared.input.Input.{Input}
use Rattle.run_records.specs.Runs.{RunStep}
use Rattle.locked_services.specs.Running.{RunningView}
use Rattle.locked_services.specs.Shots.{Grows}
use Rattle.locked_services.specs.Rings.{GiveOne, TakeMost, TakesBy}
use Rattle.locked_services.specs.Submissions.{Give, submission_by, submissions_in, taken_from}
use Rattle.locked_services.specs.declared.stop.Stop.{Stop}

-- nothing was given
pub give_none : (old new : List DrainView) → new ≡ old → Give [] old new
give_none old new same = record {
  each = ap length same;
  taken = λ a. ap (taken_from a) same ∙ sym (append-nil (taken_from a old));
}

-- first these were given, and then those
pub give_more : (one other : List (Input Global)) (u v w : List DrainView) → Give one u v → Give other v w → Give (one ++ other) u w
give_more one other u v w first then = record {
  each = then.each ∙ first.each;
  taken = λ a.
      then.taken a
      ∙ (ap (λ (xs : List Submission). xs ++ submissions_in a other) (first.taken a)
      ∙ (append_assoc (taken_from a u) (submissions_in a one) (submissions_in a other)
      ∙ ap (λ (xs : List Submission). taken_from a u ++ xs) (sym (flat_map-append (submission_by a) one other))));
}

few_at_once : (o : Option (Input Global)) → length (option_to_list o) ≤ 1
few_at_once None = omega arith
few_at_once (Some input) = omega arith

-- nothing was taken yet
pub take_none : (u : RunningView) → TakeMost 0 u u
take_none u = record { given = []; gives = give_none u.drains u.drains refl; few = omega arith }

-- so many inputs were taken, and then nothing more
pub take_same : (n : ℕ) (u v w : RunningView) → TakeMost n u v → Give [] v.drains w.drains → TakeMost n u w
take_same n u v w taken none = record {
  given = taken.given;
  gives = subst (λ (inputs : List (Input Global)). Give inputs u.drains w.drains) (append-nil taken.given)
      (give_more taken.given [] u.drains v.drains w.drains taken.gives none);
  few = taken.few;
}

-- so many inputs were taken, and then one more, or none
pub take_one : (n : ℕ) (u v w : RunningView) → TakeMost n u v → GiveOne v w → TakeMost (n + 1) u w
take_one n u v w taken one = record {
  given = taken.given ++ option_to_list one.given;
  gives = give_more taken.given (option_to_list one.given) u.drains v.drains w.drains taken.gives one.gives;
  few =
      let both = length-append taken.given (option_to_list one.given) in
      let few = taken.few in
      let last = few_at_once one.given in
      omega (arith, both, few, last);
}

-- what a step takes that ends so
pub takes_as : (s t : Stop) (v w : RunningView) → s ≡ t → TakesBy s v w → TakesBy t v w
takes_as s t v w same takes = subst (λ (x : Stop). TakesBy x v w) same takes

-- of rings that are the same
pub same_drains : (n : ℕ) (u v w : RunningView) → TakeMost n u v → w.drains ≡ v.drains → TakeMost n u w
same_drains n u v w taken same = take_same n u v w taken (give_none v.drains w.drains same)

-- a step more was made
pub grows_more : (n : ℕ) (old mid new : List RunStep) (s : RunStep) → Grows n old mid → new ≡ mid ++ s ∷ [] → Grows (n + 1) old new
grows_more n old mid new s grows more = (
  grows.0 ++ s ∷ [],
  length-append grows.0 (s ∷ []) ∙ ap (λ (k : ℕ). k + 1) grows.1,
  more ∙ (ap (λ (steps : List RunStep). steps ++ s ∷ []) grows.2 ∙ append_assoc old grows.0 (s ∷ [])),
)

-- no step was unmade
pub grows_least : (n most : ℕ) (old new : List RunStep) → Grows n old new → most ≤ length old → most ≤ length new
grows_least n most old new grows full =
    let both = length-append old grows.0 in
    subst (λ (steps : List RunStep). most ≤ length steps) (sym grows.2) (omega (arith, both, full))

-- where no step was made, the steps are as they were
pub grows_none : (n : ℕ) (old new : List RunStep) → Grows n old new → n ≡ 0 → new ≡ old
grows_none n old new grows none =
    grows.2 ∙ (ap (λ (more : List RunStep). old ++ more) (nil_from_length grows.0 (grows.1 ∙ none)) ∙ append-nil old)
