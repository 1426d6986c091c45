-- Where nobody subscribes, moments give nothing and change nothing.
use Rattle.std.proofs.Common.{◌≡◌, ℕ, List, [], ◌∷◌, Bool, refl}
use Rattle.s6_events.specs.declared.moment.Moment.{Moment}
use Rattle.s6_events.specs.declared.moment.Moment.TheVariants.{Clock, Event}
use Rattle.event_directory.specs.Hearing.{heard_moments, hits_of_moments}

pub none_heard : (test : List ℕ → List ℕ → Bool) (ms : List Moment) → heard_moments test ms [] ≡ []
none_heard test [] = refl
none_heard test (Clock at ∷ ms) = none_heard test ms
none_heard test (Event sid mark ∷ ms) = none_heard test ms

pub none_hit : (test : List ℕ → List ℕ → Bool) (ms : List Moment) → hits_of_moments test ms [] ≡ []
none_hit test [] = refl
none_hit test (Clock at ∷ ms) = none_hit test ms
none_hit test (Event sid mark ∷ ms) = none_hit test ms
