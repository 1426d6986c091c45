-- Seats that finished, one after the other.
use Rattle.std.proofs.Common.{◌≡◌, ◌≢◌, ◌==◌, ◌<◌, ◌+◌, ℕ, zero, suc, Bool, true, false, List, [], ◌∷◌, ◌++◌, Option, None, Some, IsSome, IfNone, is_some, slice_get, slice_set, refl, ap, sym, subst, ◌∙◌, arith}
use Rattle.std.proofs.lemmas.Bool.Decides.{nat_tests}
use Rattle.std.proofs.lemmas.List.{append-nil}
use Rattle.std.specs.declared.alloc.Global.{Global}
use Rattle.inbox.specs.declared.submission.Submission.{Submission}
use Rattle.inbox.specs.Ends.{DrainView, FinishedView}
use Rattle.tree_core.specs.declared.input.Input.{Input}
use Rattle.run_records.specs.Runs.{RunStep}
use Rattle.locked_services.specs.Closing.{AreComplete, AreKnown, AreTold, AreTaken, AreDone, finishes_of}
use Rattle.locked_services.specs.Submissions.{held_by, submissions_of, taken_from}
use Rattle.locked_services.specs.Running.{RunningView, IsSoundRunning}

pub set_same : {A : Type 0} (l : List A) (k : ℕ) (p q : A) → slice_get l k ≡ Some p → q ≡ p → slice_set l k q ≡ l
set_same [] k p q here same = refl
set_same (x ∷ xs) zero p q here same = let e : x ≡ p = cc (here) in rw same (rw e refl)
set_same (x ∷ xs) (suc k) p q here same = ap (λ ys. x ∷ ys) (set_same xs k p q here same)

-- what was taken was done
pub done_all : (steps : List RunStep) (drains : List DrainView) (finishes : List FinishedView) → AreTaken drains finishes
    → ((a : ℕ) → submissions_of a steps ≡ taken_from a drains) → AreDone steps finishes
done_all steps drains finishes whole each k f at = whole k f at ∙ ap (λ (xs : List Submission). Some xs) (sym (each f.actor))

-- what holds of each number below n, and of n
pub and_of_next : (P : ℕ → Type 0) (n j : ℕ) (b : Bool) → (j == n) ≡ b → ((i : ℕ) → i < n → P i) → P n → j < n + 1 → P j
and_of_next P n j true is each last below = let e : n ≡ j = grind (arith, nat_tests) in subst P e last
and_of_next P n j false is each last below = let ne : j ≢ n = λ e. grind (arith, nat_tests) in each j (omega arith)

-- what holds of each element before a place, and of the one there
pub and_of_next_element : {A : Type 0} (P : A → Type 0) (xs : List A) (k : ℕ) (p : A) → ((i : ℕ) (x : A) → i < k → slice_get xs i ≡ Some x → P x)
    → slice_get xs k ≡ Some p → P p → (j : ℕ) (f : A) → j < k + 1 → slice_get xs j ≡ Some f → P f
and_of_next_element {A} P xs k p each here last j f below =
    and_of_next (λ (n : ℕ). slice_get xs n ≡ Some f → P f) k j (j == k) refl (λ i b at. each i f b at)
    (λ at. let e : p ≡ f = cc (here, at) in subst P e last) below

pub none_is_some : {A : Type 0} (o : Option A) → o ≡ None → IsSome o → ⊥
none_is_some None none some = absurd (cc (some))
none_is_some (Some x) none some = absurd (cc (none))

-- the parts of a complete list of finishes
pub complete_of : (n seats : ℕ) (finishes : List FinishedView) → n ≡ seats → AreKnown n finishes
    → ((actor : ℕ) → actor < n → finishes_of actor finishes ≡ 1) → AreTold finishes → AreComplete seats finishes
complete_of n seats finishes same known one told =
    subst (λ (m : ℕ). AreComplete m finishes) same (record { known = known; one = one; told = told })

-- what follows of two facts of an answer None
pub if_none_both : {A : Type 0} {P Q R : Type 0} (o : Option A) → (P → Q → R) → IfNone o P → IfNone o Q → IfNone o R
if_none_both None f p q = f p q
if_none_both (Some x) f p q = tt

pub no_some : {A : Type 0} (o : Option A) → is_some o ≡ false → o ≡ None
no_some None none = refl
no_some (Some x) none = absurd (cc (none))

-- where nothing is held, all that was taken was done
pub done_unheld : (v : RunningView) (finishes : List FinishedView) (b : Bool) → IsSoundRunning v → b ≡ is_some v.held
    → AreTaken v.drains finishes → b ≡ false → AreDone v.steps finishes
done_unheld v finishes b sound held taken free =
    let none : v.held ≡ None = no_some v.held (sym held ∙ free) in
    done_all v.steps v.drains finishes taken
    (λ a. sym (append-nil (submissions_of a v.steps))
    ∙ (ap (λ (h : Option (Input Global)). submissions_of a v.steps ++ held_by a h) (sym none) ∙ sound.submitted a))
