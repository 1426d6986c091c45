use Rattle.std.proofs.Common.{◌∙◌, ◌++◌, ap, sym}
use Rattle.std.specs.Prelude.{codes}
use Rattle.s6_script.proofs.Joined.{grew, join_entries}
use Rattle.s6_script.proofs.spelling.push_scan.Goals as goal

pub returns : goal.returns
returns g c =
    grew c.args.text.now.items (codes "scan") _ _ _ c.in_ok-extend_from_slice.ensures.items c.in_ok-push_entries.ensures
    ∙ ap (λ t. c.args.text.now.items ++ t) (sym (join_entries (codes "scan") c.args.entries.now))
