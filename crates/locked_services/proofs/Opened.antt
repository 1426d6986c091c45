-- Ends of new rings, one after the other.
use Rattle.std.proofs.Common.{◌≡◌, ℕ, zero, suc, ◌+◌, ⊎_elim, List, [], ◌∷◌, ◌++◌, length, refl, sym, ap, ◌∙◌, arith}
use Rattle.channel_names.specs.RingName.{RingName}
use Rattle.inbox.specs.Ends.{DrainView, RingView, SeatView}
use Rattle.locked_services.specs.Opening.{AreNamedFrom, AreUnused}
use Rattle.locked_services.specs.Submissions.{AreNumbered, taken_from}
use Rattle.channel_names.proofs.Places.{get_last}

pub numbered_snoc : (drains : List DrainView) (d : DrainView) → AreNumbered drains → d.actor ≡ length drains → AreNumbered (drains ++ d ∷ [])
numbered_snoc drains d each here k r at =
    ⊎_elim (λ e. each k r e) (λ t. ap (λ (x : DrainView). x.actor) (sym t.1) ∙ (here ∙ t.0)) (get_last drains d k r at)

pub untaken_snoc : (drains : List DrainView) (d : DrainView) → d.taken ≡ [] → (a : ℕ) → taken_from a drains ≡ []
    → taken_from a (drains ++ d ∷ []) ≡ []
untaken_snoc [] d none zero untaken = none
untaken_snoc [] d none (suc a) untaken = refl
untaken_snoc (x ∷ xs) d none zero untaken = untaken
untaken_snoc (x ∷ xs) d none (suc a) untaken = untaken_snoc xs d none a untaken

pub unused_snoc : (seats : List SeatView) (s : SeatView) → AreUnused seats → s.actor ≡ length seats → s.submitted ≡ []
    → AreUnused (seats ++ s ∷ [])
unused_snoc seats s each here none k r at =
    ⊎_elim (λ e. each k r e)
    (λ t. (ap (λ (x : SeatView). x.actor) (sym t.1) ∙ (here ∙ t.0), ap (λ (x : SeatView). x.submitted) (sym t.1) ∙ none))
    (get_last seats s k r at)

-- the rings after the first
pub named_rest : (n : ℕ) (names : ℕ → RingName) (r : RingView) (rest : List RingView) → AreNamedFrom n names (r ∷ rest)
    → AreNamedFrom (n + 1) names rest
named_rest n names r rest each k x at =
    let t = each (suc k) x at in
    let e : x.actor ≡ n + suc k = t.0 in
    (omega arith, t.1)
