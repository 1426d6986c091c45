-- Lists of states, each once.
use Rattle.std.proofs.Common.{◌≡◌, ◌++◌, refl, sym, ap, ◌∙◌, ℕ, zero, suc, List, [], ◌∷◌, Bool, false, replicate, get_or, append-nil, append_assoc, ⊎_elim, inl, subst, arith}
use Rattle.std.specs.Prelude.{Contains, ◌⊎◌, ◌<◌, ◌≤◌, length}
use Rattle.std.proofs.lemmas.List.Sums.{count_by-le-length}
use Rattle.std.proofs.lemmas.List.Elements.{Contains-append_left, Contains-push_cases}
use Rattle.std.proofs.lemmas.List.{get_or_append_left, get_or_default}
use Rattle.regex_vm.specs.Bits.{members}
use Rattle.text_matcher.specs.StateLists.{Grows}

pub none_marked : (n : ℕ) → members (replicate n false) ≡ 0
unfolding members
none_marked zero = refl
none_marked (suc n) = none_marked n

pub few_marked : (marks : List Bool) → members marks ≤ length marks
unfolding members
few_marked marks = count_by-le-length (λ b. b) marks

pub unmarked : (n q : ℕ) → get_or (replicate n false) q false ≡ false
unmarked zero q = refl
unmarked (suc n) zero = refl
unmarked (suc n) (suc q) = unmarked n q

pub grown : (old new : List ℕ) (state : ℕ) → (new ≡ old) ⊎ (new ≡ old ++ state ∷ []) → Grows old new
grown old new state = ⊎_elim (λ same. ([], same ∙ sym (append-nil old))) (λ more. (state ∷ [], more))

pub grows_on : (xs ys zs : List ℕ) → Grows xs ys → Grows ys zs → Grows xs zs
grows_on xs ys zs g h = (g.0 ++ h.0, h.1 ∙ (ap (λ l. l ++ h.0) g.1 ∙ append_assoc xs g.0 h.0))

pub still : (old new : List ℕ) (q : ℕ) → Grows old new → Contains old q → Contains new q
still old new q g h = subst (λ l. Contains l q) (sym g.1) (Contains-append_left old g.0 q h)

-- what is listed once a state was added
pub added : (old new : List ℕ) (state q : ℕ) → (new ≡ old) ⊎ (new ≡ old ++ state ∷ []) → Contains new q → Contains old q ⊎ (state ≡ q)
added old new state q is h =
    ⊎_elim (λ same. inl (subst (λ l. Contains l q) same h)) (λ more. Contains-push_cases old state q (subst (λ l. Contains l q) more h)) is

pub kept_at : (old new : List ℕ) (k : ℕ) → Grows old new → k < length old → get_or new k 0 ≡ get_or old k 0
kept_at old new k g lt = ap (λ l. get_or l k 0) g.1 ∙ get_or_append_left old g.0 0 k lt

-- what is read where a state is listed
pub read_at : (xs : List ℕ) (q : ℕ) (has : Contains xs q) → get_or xs has.0 0 ≡ q
read_at xs q has = sym (get_or_default xs has.0 q 0 has.1) ∙ has.2

-- what is listed once the first state was added
pub first_added : (old new : List ℕ) (state q : ℕ) → old ≡ [] → (new ≡ old) ⊎ (new ≡ old ++ state ∷ []) → Contains new q → state ≡ q
first_added old new state q none is has =
    ⊎_elim (λ before. absurd (omega (arith, before.1, ap length none))) (λ same. same) (added old new state q is has)
