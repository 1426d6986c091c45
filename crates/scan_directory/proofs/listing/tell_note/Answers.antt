use Rattle.std.proofs.Common.{ℕ, List, subst, ◌∙◌}
use Rattle.scan_directory.specs.Names.{IsTold}
use Rattle.scan_directory.proofs.listing.tell_note.Goals as goal

pub returns : goal.returns
returns g c =
    subst (λ (lines : List ℕ). IsTold (g.E.Write.contents c.args.errors.now) (g.E.Write.contents c.tell_whole.new.errors) lines)
    (c.as_slice.ensures.value ∙ c.in_ok-line.ensures) c.tell_whole.ensures
