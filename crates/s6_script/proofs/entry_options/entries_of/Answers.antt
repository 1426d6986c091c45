use Rattle.std.proofs.lemmas.List.Elements.{All-push}
use Rattle.std.proofs.Common.{◌∙◌, sym}
use Rattle.s6_script.specs.Options.{IsEntry}
use Rattle.s6_script.proofs.Entries.{one_entry_more, all_entries_read}
use Rattle.s6_script.proofs.entry_options.entries_of.Goals as goal

pub loop-alloc-preserved : goal.loop-alloc-preserved
loop-alloc-preserved g c = record {
  fits = rw c.in_ok-push.ensures.items (All-push IsEntry _ _ c.loop-alloc.invariant.fits c.in_ok-entry_of.ensures.fits);
  spelled = λ entries fits spelled.
      one_entry_more entries _ _ _ _ _ _ (c.loop-alloc.invariant.spelled entries fits spelled) (sym c.has_more.ensures ∙ c.loop-alloc-test.true)
      c.take_next.ensures.word c.take_next.ensures.rest c.in_ok-entry_of.ensures.spelled c.in_ok-push.ensures.items;
}

pub returns-clause-spelled : goal.returns-clause-spelled
returns-clause-spelled g c = λ entries fits spelled.
    all_entries_read entries _ _ (c.loop-alloc.invariant.spelled entries fits spelled) (sym c.has_more.ensures ∙ c.loop-alloc-test.false)
