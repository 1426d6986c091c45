-- Drains of which one took an input.
use Rattle.std.proofs.Common.{◌≡◌, ◌≢◌, ◌==◌, ℕ, ⊎_elim, Bool, true, false, List, [], ◌∷◌, ◌++◌, if◌then◌else◌, Option, Some, slice_get, slice_set, refl, ap, sym, subst, ◌∙◌, arith}
use Rattle.std.proofs.lemmas.Bool.Decides.{nat_tests}
use Rattle.std.proofs.lemmas.List.{append-nil, append_assoc}
use Rattle.std.specs.declared.alloc.Global.{Global}
use Rattle.inbox.specs.declared.submission.Submission.{Submission}
use Rattle.inbox.specs.Ends.{DrainView}
use Rattle.channel_names.proofs.Places.{read_set, set_here, set_there}
use Rattle.tree_core.specs.declared.input.Input.{Input}
use Rattle.run_records.specs.Runs.{RunStep}
use Rattle.locked_services.specs.Submissions.{AreNumbered, submission_by, submissions_of, taken_by, taken_from}

pub numbered_set : (drains : List DrainView) (k : ℕ) (p q : DrainView) → AreNumbered drains → slice_get drains k ≡ Some p
    → q.actor ≡ p.actor → AreNumbered (slice_set drains k q)
numbered_set drains k p q numbered here same j d at =
    ⊎_elim (λ t. subst (λ (x : DrainView). x.actor ≡ j) t.1 (same ∙ (numbered k p here ∙ sym t.0)))
    (λ t. numbered j d t.1)
    (read_set drains k j q d at)

taken_more_at : (drains : List DrainView) (at : ℕ) (s : Submission) (p q : DrainView) → slice_get drains at ≡ Some p
    → q.taken ≡ p.taken ++ s ∷ [] → (k : ℕ) (b : Bool) → (at == k) ≡ b
    → taken_from k (slice_set drains at q) ≡ taken_from k drains ++ (if b then s ∷ [] else [])
taken_more_at drains at s p q here more k true is =
    let e : at ≡ k = grind (arith, nat_tests) in
    subst (λ (n : ℕ). taken_from n (slice_set drains at q) ≡ taken_from n drains ++ s ∷ []) e
    (ap taken_by (set_here drains at p q here) ∙ (more ∙ ap (λ (d : Option DrainView). taken_by d ++ s ∷ []) (sym here)))
taken_more_at drains at s p q here more k false is =
    let ne : k ≢ at = λ e. grind (arith, nat_tests) in
    ap taken_by (set_there drains at k q ne) ∙ sym (append-nil (taken_from k drains))

-- one drain took an input of its actor
pub taken_more : (drains : List DrainView) (k : ℕ) (i : Input Global) (p q : DrainView) → i.actor ≡ k → slice_get drains k ≡ Some p
    → q.taken ≡ p.taken ++ record { at = i.at; act = i.act } ∷ []
    → (a : ℕ) → taken_from a (slice_set drains k q) ≡ taken_from a drains ++ submission_by a i
taken_more drains k i p q mine here more a =
    let s : Submission = record { at = i.at; act = i.act } in
    subst (λ (n : ℕ). taken_from a (slice_set drains k q) ≡ taken_from a drains ++ (if n == a then s ∷ [] else [])) (sym mine)
    (taken_more_at drains k s p q here more a (k == a) refl)

pub submissions_snoc : (a : ℕ) (steps : List RunStep) (s : RunStep)
    → submissions_of a (steps ++ s ∷ []) ≡ submissions_of a steps ++ submission_by a s.input
submissions_snoc a [] s = append-nil (submission_by a s.input)
submissions_snoc a (x ∷ xs) s =
    ap (λ (ys : List Submission). submission_by a x.input ++ ys) (submissions_snoc a xs s)
    ∙ sym (append_assoc (submission_by a x.input) (submissions_of a xs) (submission_by a s.input))
