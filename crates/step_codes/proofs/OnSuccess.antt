-- What follows where a call succeeded.
use Rattle.std.proofs.Common.{◌≡◌, ℕ, List, [], ◌∷◌, ◌++◌, Result, Ok, Err, ap, ◌∙◌}
use Rattle.std.proofs.lemmas.List.{append_assoc}
use Rattle.std.specs.Result.{IsOk, OnOk}
use Rattle.step_codes.specs.Adding.{Adds}

pub adds_as : {E : Type 0} (r : Result (Unit {0}) E) (before after : List ℕ) (f g : List ℕ → List ℕ) → OnOk r (Adds before after f)
    → ((rest : List ℕ) → f rest ≡ g rest) → OnOk r (Adds before after g)
adds_as (Ok x) before after f g p same = λ rest. p rest ∙ ap (λ (t : List ℕ). before ++ t) (same rest)
adds_as (Err e) before after f g p same = p

pub of_ok : {T E P : Type 0} (r : Result T E) → IsOk r → OnOk r P → P
of_ok (Ok x) is p = p
of_ok (Err e) is p = absurd (cc (is))

pub adds_all : (before after : List ℕ) (f g : List ℕ → List ℕ) → Adds before after f → ((rest : List ℕ) → f rest ≡ g rest) → Adds before after g
adds_all before after f g p same = λ rest. p rest ∙ ap (λ (t : List ℕ). before ++ t) (same rest)

pub adds_one : (before after : List ℕ) (x : ℕ) → after ≡ before ++ x ∷ [] → Adds before after (λ rest. x ∷ rest)
adds_one before after x is = λ rest. ap (λ (t : List ℕ). t ++ rest) is ∙ append_assoc before (x ∷ []) rest
