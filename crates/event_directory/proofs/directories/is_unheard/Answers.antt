use Rattle.std.proofs.Common.{◌≡◌, [], sym, subst}
use Rattle.event_directory.specs.Hearing.{heard_moments, hits_of_moments}
use Rattle.event_directory.proofs.Unheard.{none_heard, none_hit}
use Rattle.event_directory.proofs.directories.is_unheard.Goals as goal

pub returns-clause-hits : goal.returns-clause-hits
returns-clause-hits g c = λ yes.
    let none = c.is_silent.ensures yes in
    subst (λ fs. hits_of_moments g.F.Finds.test c.args.moments.now fs ≡ []) (sym none) (none_hit g.F.Finds.test c.args.moments.now)

pub returns-clause-after : goal.returns-clause-after
returns-clause-after g c = λ yes.
    let none = c.is_silent.ensures yes in
    subst (λ fs. heard_moments g.F.Finds.test c.args.moments.now fs ≡ fs) (sym none) (none_heard g.F.Finds.test c.args.moments.now)
