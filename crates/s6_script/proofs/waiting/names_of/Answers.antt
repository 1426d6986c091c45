use Rattle.std.proofs.lemmas.List.Elements.{All-push}
use Rattle.std.proofs.Common.{◌∙◌, sym}
use Rattle.std.specs.Prelude.{IsTrue}
use Rattle.s6_events.specs.Name.{is_name}
use Rattle.s6_script.proofs.Waits.{one_name_more, all_names_read}
use Rattle.s6_script.proofs.waiting.names_of.Goals as goal

pub loop-names-preserved : goal.loop-names-preserved
loop-names-preserved g c = record {
  fits = rw c.in_ok-push.ensures.items (All-push (λ name. IsTrue (is_name name)) _ _ c.loop-names.invariant.fits c.name_of.ensures.fits);
  spelled = λ names fits spelled.
      one_name_more names _ _ _ _ _ _ (c.loop-names.invariant.spelled names fits spelled) (sym c.has_more.ensures ∙ c.loop-names-test.true)
      c.take_next.ensures.word c.take_next.ensures.rest c.name_of.ensures.spelled c.in_ok-push.ensures.items;
}

pub returns-clause-spelled : goal.returns-clause-spelled
returns-clause-spelled g c = λ names fits spelled.
    all_names_read names _ _ (c.loop-names.invariant.spelled names fits spelled) (sym c.has_more.ensures ∙ c.loop-names-test.false)
