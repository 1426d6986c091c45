-- The text of a run, step by step.
use Rattle.std.proofs.Common.{◌≡◌, ℕ, zero, suc, ◌+◌, ◌<◌, List, [], ◌∷◌, ◌++◌, length, take, drop, slice_get, Option, Some, Bool, true, false, refl, sym, ap, subst, ◌∙◌, arith, append-nil, append_assoc}
use Rattle.std.specs.Io.KnownBytes.{Appends}
use Rattle.std.proofs.KnownBytes.{Appends-nil, Appends-trans}
use Rattle.std.proofs.lemmas.List.{length-append, take-append-le}
use Rattle.s6_script.specs.Writing.{AppendsFront}
use Rattle.s6_script.specs.Recording.{FitsLine}
use Rattle.s6_script.specs.Script.{head_line, step_lines}
use Rattle.s6_script.specs.declared.version.Version.TheVariants.{Two}
use Rattle.s6_script.proofs.Fronts.{front_more}
use Rattle.run_records.specs.Runs.{RunStep}
use Rattle.std.specs.declared.alloc.Global.{Global}
use Rattle.tree_core.specs.declared.input.Input.{Input}
use Rattle.tree_core.specs.declared.reply.Reply.{Reply}
use Rattle.run_records.specs.RunText.{recorded_of, recorded_reply, lines_of, run_text, AllFit, StopsHead, StopsStep, StopsWriting}
use Rattle.run_records.specs.declared.writing.RunFault.{RunFault}
use Rattle.run_records.specs.declared.writing.RunFault.TheVariants.{Write, NoMemory, Unspelt}
use Rattle.run_records.proofs.Snoc.{all_snoc}

pub lines_join : (xs ys : List RunStep) → lines_of (xs ++ ys) ≡ lines_of xs ++ lines_of ys
lines_join [] ys = refl
lines_join (x ∷ xs) ys =
    ap (λ (t : List ℕ). step_lines Two (recorded_of x) ++ t) (lines_join xs ys)
    ∙ sym (append_assoc (step_lines Two (recorded_of x)) (lines_of xs) (lines_of ys))

-- a run that is gone on with
pub text_join : (head : Bool) (xs ys : List RunStep) → run_text head (xs ++ ys) ≡ run_text head xs ++ lines_of ys
text_join true xs ys =
    ap (λ (t : List ℕ). head_line Two ++ t) (lines_join xs ys) ∙ sym (append_assoc (head_line Two) (lines_of xs) (lines_of ys))
text_join false xs ys = lines_join xs ys

take_next : (k : ℕ) (steps : List RunStep) (s : RunStep) → slice_get steps k ≡ Some s → take (suc k) steps ≡ take k steps ++ s ∷ []
take_next k [] s e = cc (e)
take_next zero (x ∷ xs) s e = ap (λ (y : RunStep). y ∷ []) (cc (e))
take_next (suc k) (x ∷ xs) s e = ap (λ (ts : List RunStep). x ∷ ts) (take_next k xs s e)

split_at : (k : ℕ) (steps : List RunStep) (s : RunStep) → slice_get steps k ≡ Some s → steps ≡ take k steps ++ s ∷ drop (suc k) steps
split_at k [] s e = cc (e)
split_at zero (x ∷ xs) s e = ap (λ (y : RunStep). y ∷ xs) (cc (e))
split_at (suc k) (x ∷ xs) s e = ap (λ (ts : List RunStep). x ∷ ts) (split_at k xs s e)

-- the front of a text is one of what begins with it
front_of_more : (a c : Option (List ℕ)) (xs ys : List ℕ) → AppendsFront a c xs → AppendsFront a c (xs ++ ys)
front_of_more a c xs ys p = (
  p.0,
  omega (arith, p.1, length-append xs ys),
  subst (Appends a c) (sym (take-append-le p.0 xs ys (omega (arith, p.1)))) p.2,
)

module _ (head : Bool) (k : ℕ) (steps : List RunStep) (s : RunStep) (here : slice_get steps k ≡ Some s) where
  taken_next : take (k + 1) steps ≡ take k steps ++ s ∷ []
  taken_next =
      let one : k + 1 ≡ suc k = omega arith in
      ap (λ (n : ℕ). take n steps) one ∙ take_next k steps s here

  step_text : run_text head (take (k + 1) steps) ≡ run_text head (take k steps) ++ step_lines Two (recorded_of s)
  step_text =
      ap (run_text head) taken_next
      ∙ text_join head (take k steps) (s ∷ [])
      ∙ ap (λ (t : List ℕ). run_text head (take k steps) ++ t) (append-nil (step_lines Two (recorded_of s)))

  whole_text : run_text head steps ≡ (run_text head (take k steps) ++ step_lines Two (recorded_of s)) ++ lines_of (drop (suc k) steps)
  whole_text =
      ap (run_text head) (split_at k steps s here)
      ∙ text_join head (take k steps) (s ∷ drop (suc k) steps)
      ∙ sym (append_assoc (run_text head (take k steps)) (step_lines Two (recorded_of s)) (lines_of (drop (suc k) steps)))

  pub fits_more : AllFit (take k steps) → FitsLine s.input → AllFit (take (k + 1) steps)
  fits_more all fits =
      subst AllFit (sym taken_next) (all_snoc (λ (t : RunStep). FitsLine t.input) (take k steps) s all fits)

  module _ (a b c : Option (List ℕ)) (before : Appends a b (run_text head (take k steps))) where
    -- one step more was written
    pub writes_on : Appends b c (step_lines Two (recorded_of s)) → Appends a c (run_text head (take (k + 1) steps))
    writes_on step = subst (Appends a c) (sym step_text) (Appends-trans a b c _ _ before step)

    -- it was not
    pub step_stops : (fault : RunFault) → k < length steps → StopsStep fault (k + 1) s.input s.outcome.reply b c
        → StopsWriting fault head steps a c
    step_stops Write low t =
        subst (AppendsFront a c) (sym whole_text)
        (front_of_more a c _ (lines_of (drop (suc k) steps)) (front_more a b c (run_text head (take k steps)) _ before t))
    step_stops NoMemory low t = (k, (low, subst (λ (h : Option (List ℕ)). Appends a h (run_text head (take k steps))) (sym t) before))
    step_stops (Unspelt n) low t =
        (k, s, t.0, here, t.1, (low, subst (λ (h : Option (List ℕ)). Appends a h (run_text head (take k steps))) (sym t.2) before))

-- the head line was not written
pub head_stops : (fault : RunFault) (head : Bool) (steps : List RunStep) (a b : Option (List ℕ)) → StopsHead fault head a b
    → StopsWriting fault head steps a b
head_stops fault head steps a b t =
    subst (λ (f : RunFault). StopsWriting f head steps a b) (sym t.0)
    (subst (λ (h : Bool). AppendsFront a b (run_text h steps)) (sym t.1) (front_of_more a b (head_line Two) (lines_of steps) t.2))

-- no head line is wanted, and none was written; or it was
pub head_none : (a : Option (List ℕ)) → Appends a a (run_text false [])
head_none a = Appends-nil a

pub head_alone : (a b : Option (List ℕ)) → Appends a b (head_line Two) → Appends a b (run_text true [])
head_alone a b p = subst (Appends a b) (sym (append-nil (head_line Two))) p

-- the same step by other names
pub same_lines : (a b : Option (List ℕ)) (i j : Input Global) (r t : Reply Global) → i ≡ j → r ≡ t
    → Appends a b (step_lines Two (recorded_reply i r)) → Appends a b (step_lines Two (recorded_reply j t))
same_lines a b i j r t p q e =
    subst (λ (u : Reply Global). Appends a b (step_lines Two (recorded_reply j u))) q
    (subst (λ (k : Input Global). Appends a b (step_lines Two (recorded_reply k r))) p e)

pub same_stop : (fault : RunFault) (n : ℕ) (i j : Input Global) (r t : Reply Global) (a b : Option (List ℕ)) → i ≡ j → r ≡ t
    → StopsStep fault n i r a b → StopsStep fault n j t a b
same_stop fault n i j r t a b p q e =
    subst (λ (u : Reply Global). StopsStep fault n j u a b) q (subst (λ (k : Input Global). StopsStep fault n k r a b) p e)
