-- The first of a source is changed, in a list of what is followed.
use Rattle.std.proofs.Common.{◌≡◌, List, [], Bool, true, false, cond, refl, sym, ap}
use Rattle.event_directory.specs.Directories.{is_same_source}
use Rattle.event_directory.specs.Sending.{KeptSubscription}
use Rattle.event_directory.specs.declared.source.Source.{Source}
use Rattle.event_directory.proofs.Sources.{other_than}

pub first_here : (g : List KeptSubscription → List KeptSubscription) (standing rest : List KeptSubscription) (b : Bool)
    → cond b (g standing) rest ≡ cond b (g (cond b standing rest)) (cond b standing rest)
first_here g standing rest true = refl
first_here g standing rest false = refl

pub first_there : (g : List KeptSubscription → List KeptSubscription) (s source other : Source) (standing new rest : List KeptSubscription)
    (b : Bool) → is_same_source s other ≡ b → is_same_source source other ≡ false →
    new ≡ cond (is_same_source s source) (g rest) rest
    → cond b standing new ≡ cond (is_same_source s source) (g (cond b standing rest)) (cond b standing rest)
first_there g s source other standing new rest true e not ih = ap (λ b. cond b (g standing) standing) (sym (other_than s source other e not))
first_there g s source other standing new rest false e not ih = ih

pub first_nowhere : (g : List KeptSubscription → List KeptSubscription) → g [] ≡ [] → (b : Bool)
    → ◌≡◌ {A = List KeptSubscription} [] (cond b (g []) [])
first_nowhere g e true = sym e
first_nowhere g e false = refl

pub first_gone : (standing rest : List KeptSubscription) (b : Bool)
    → ◌≡◌ {A = List KeptSubscription} (cond b [] rest) (cond b [] (cond b standing rest))
first_gone standing rest true = refl
first_gone standing rest false = refl
