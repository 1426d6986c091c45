-- The steps of a log are read back, and stay as it grows.
use Rattle.std.proofs.Common.{◌≡◌, ℕ, zero, suc, ◌<◌, List, [], ◌∷◌, ◌++◌, All, map, drop, length, get_or, slice_get, option_map, Some, refl, ap, sym, subst, ◌∙◌, arith}
use Rattle.std.proofs.lemmas.List.{append-nil, append_assoc, drop-append-le, length-append, map-append}
use Rattle.std.proofs.lemmas.Option.{slice_get-map}
use Rattle.std.proofs.Math.Seq.{drop-append_seam}
use Rattle.std.specs.declared.alloc.Global.{Global}
use Rattle.tree_core.specs.declared.input.Input.{Input}
use Rattle.tree_core.specs.Machine.{Outcome}
use Rattle.step_codes.specs.Adding.{Adds}
use Rattle.step_codes.specs.StepCodes.{step_onto, FitsStep}
use Rattle.step_codes.proofs.StepBack.{step_back}
use Rattle.run_records.specs.declared.step_log.StepStart.{StepStart}
use Rattle.run_records.specs.declared.step_log.StepStart.TheVariants.{Coded, Whole}
use Rattle.run_records.specs.Runs.{RunStep}
use Rattle.run_records.specs.Log.{IsCode, IsThere, step_at, step_coded, step_or}
use Rattle.run_records.proofs.Snoc.{all_snoc, get_grown, last_there, there_at}

pub all_at : {A : Type 0} (P : A → Type 0) (xs : List A) (k : ℕ) (x : A) → All P xs → slice_get xs k ≡ Some x → P x
all_at P [] k x all e = absurd (cc (e))
all_at P (y ∷ ys) zero x all e = let same : y ≡ x = cc (e) in subst P same (all zero x (omega arith))
all_at P (y ∷ ys) (suc k) x all e = all_at P ys k x (λ j d b. all (suc j) d (omega arith)) e

-- the step of a code
pub coded : (codes : List ℕ) (start : ℕ) (c : IsCode codes start) → step_coded (drop start codes) ≡ c.step
coded codes start c =
    ap step_coded (c.cut ∙ c.onto c.rest)
    ∙ ap (λ (p : (Input Global × Outcome Global) × List ℕ). record { input = p.0.0; outcome = p.0.1 })
    (step_back c.step.input c.step.outcome c.rest c.fits)

-- the step of a start that stands at a place
pub step_there : (codes : List ℕ) (whole : List RunStep) (starts : List StepStart) (place : ℕ) (st : StepStart) (s : RunStep)
    → slice_get (map (step_at codes whole) starts) place ≡ Some s → slice_get starts place ≡ Some st → step_at codes whole st ≡ s
step_there codes whole starts place st s there here =
    cc (sym (slice_get-map (step_at codes whole) starts place ∙ ap (option_map (step_at codes whole)) here) ∙ there)

-- what is read from a start on is the code of its step
pub is_stored : (codes : List ℕ) (start : ℕ) (read : List ℕ) (s : RunStep) → IsCode codes start → read ≡ drop start codes
    → step_coded (drop start codes) ≡ s → (rest : List ℕ) × (read ≡ step_onto s.input s.outcome rest) × FitsStep s.input s.outcome
is_stored codes start read s c from is =
    let same : c.step ≡ s = sym (coded codes start c) ∙ is in
    subst (λ (t : RunStep). (rest : List ℕ) × (read ≡ step_onto t.input t.outcome rest) × FitsStep t.input t.outcome) same
    (c.rest, from ∙ (c.cut ∙ c.onto c.rest), c.fits)

-- a code stays where it is
code_grown : (codes more : List ℕ) (start : ℕ) → IsCode codes start → IsCode (codes ++ more) start
code_grown codes more start c = record {
  step = c.step;
  code = c.code;
  rest = c.rest ++ more;
  low = let n = length-append codes more in let l = c.low in omega arith;
  cut = drop-append-le start codes more c.low ∙ (ap (λ (t : List ℕ). t ++ more) c.cut ∙ append_assoc c.code c.rest more);
  onto = c.onto;
  fits = c.fits;
}

there_grown : (codes more : List ℕ) (whole new : List RunStep) (st : StepStart) → IsThere codes whole st → IsThere (codes ++ more) (whole ++ new) st
there_grown codes more whole new (Coded start) c = code_grown codes more start c
there_grown codes more whole new (Whole place) low = let n = length-append whole new in omega (arith, low)

at_grown : (codes more : List ℕ) (whole new : List RunStep) (st : StepStart) → IsThere codes whole st
    → step_at (codes ++ more) (whole ++ new) st ≡ step_at codes whole st
unfolding code_grown
at_grown codes more whole new (Coded start) c = coded (codes ++ more) start (code_grown codes more start c) ∙ sym (coded codes start c)
at_grown codes more whole new (Whole place) low =
    let here = there_at whole place low in
    ap step_or (get_grown whole new place here.one here.there) ∙ sym (ap step_or here.there)

all_grown : (codes more : List ℕ) (whole new : List RunStep) (starts : List StepStart) → All (IsThere codes whole) starts
    → map (step_at (codes ++ more) (whole ++ new)) starts ≡ map (step_at codes whole) starts
all_grown codes more whole new [] all = refl
all_grown codes more whole new (st ∷ starts) all =
    rw (at_grown codes more whole new st (all zero st (omega arith)))
    (ap (λ (ss : List RunStep). step_at codes whole st ∷ ss) (all_grown codes more whole new starts (λ k d b. all (suc k) d (omega arith))))

-- a log with one step more
pub record IsLonger (codes : List ℕ) (whole : List RunStep) (starts : List StepStart) (codes_after : List ℕ) (whole_after : List RunStep)
    (starts_after : List StepStart) (s : RunStep) : Type 0 where
  pub sound : All (IsThere codes_after whole_after) starts_after
  pub steps : map (step_at codes_after whole_after) starts_after ≡ map (step_at codes whole) starts ++ s ∷ []

longer : (codes more : List ℕ) (whole new : List RunStep) (starts : List StepStart) (st : StepStart) (s : RunStep) → All (IsThere codes whole) starts
    → IsThere (codes ++ more) (whole ++ new) st → step_at (codes ++ more) (whole ++ new) st ≡ s
    → IsLonger codes whole starts (codes ++ more) (whole ++ new) (starts ++ st ∷ []) s
longer codes more whole new starts st s all there is = record {
  sound =
      all_snoc (IsThere (codes ++ more) (whole ++ new)) starts st
      (λ k d b. there_grown codes more whole new (get_or starts k d) (all k d b)) there;
  steps =
      map-append (step_at (codes ++ more) (whole ++ new)) starts (st ∷ [])
      ∙ (ap (λ (ss : List RunStep). ss ++ step_at (codes ++ more) (whole ++ new) st ∷ []) (all_grown codes more whole new starts all)
      ∙ ap (λ (t : RunStep). map (step_at codes whole) starts ++ t ∷ []) is);
}

-- by a code
pub coded_longer : (codes code codes_after : List ℕ) (whole : List RunStep) (starts starts_after : List StepStart) (start : ℕ) (s : RunStep)
    → All (IsThere codes whole) starts → start ≡ length codes → Adds [] code (step_onto s.input s.outcome) → FitsStep s.input s.outcome
    → codes_after ≡ codes ++ code → starts_after ≡ starts ++ Coded start ∷ []
    → IsLonger codes whole starts codes_after whole starts_after s
coded_longer codes code codes_after whole starts starts_after start s all at onto fits is longer_by =
    let c : IsCode (codes ++ code) start = record {
      step = s;
      code = code;
      rest = [];
      low = let n = length-append codes code in omega arith;
      cut = rw at (drop-append_seam codes code ∙ sym (append-nil code));
      onto = onto;
      fits = fits;
    } in
    let same : whole ++ [] ≡ whole = append-nil whole in
    let there : IsThere (codes ++ code) (whole ++ []) (Coded start) = c in
    let made = longer codes code whole [] starts (Coded start) s all there (coded (codes ++ code) start c) in
    rw (is, longer_by) (subst (λ (w : List RunStep). IsLonger codes whole starts (codes ++ code) w (starts ++ Coded start ∷ []) s) same made)

-- by a whole step
pub whole_longer : (codes : List ℕ) (whole whole_after : List RunStep) (starts starts_after : List StepStart) (place : ℕ) (s : RunStep)
    → All (IsThere codes whole) starts → place ≡ length whole → whole_after ≡ whole ++ s ∷ [] → starts_after ≡ starts ++ Whole place ∷ []
    → IsLonger codes whole starts codes whole_after starts_after s
whole_longer codes whole whole_after starts starts_after place s all at is longer_by =
    let same : codes ++ [] ≡ codes = append-nil codes in
    let low : place < length (whole ++ s ∷ []) = let n = length-append whole (s ∷ []) in omega arith in
    let here : step_or (slice_get (whole ++ s ∷ []) place) ≡ s = rw at (ap step_or (last_there whole s)) in
    let made = longer codes [] whole (s ∷ []) starts (Whole place) s all low here in
    rw (is, longer_by) (subst (λ (c : List ℕ). IsLonger codes whole starts c (whole ++ s ∷ []) (starts ++ Whole place ∷ []) s) same made)
