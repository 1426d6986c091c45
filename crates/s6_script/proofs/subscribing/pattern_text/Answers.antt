use Rattle.std.proofs.Common.{sym, subst}
use Rattle.std.specs.Prelude.{IsUtf8}
use Rattle.s6_script.proofs.Subscribes.{pattern_is_text}
use Rattle.s6_script.proofs.subscribing.pattern_text.Goals as goal

pub returns : goal.returns
returns g c = λ fits.
    let no = c.in-Err.ensures.succeeds (subst IsUtf8 (sym (c.in_ok-to_vec.ensures.items_if_clones_equal (λ x y e. e)))
    (pattern_is_text c.args.bytes.now fits)) in
    cc no
