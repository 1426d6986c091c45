use Rattle.s6_script.proofs.Entries.{one_option_more, all_options_read, setting_kept}
use Rattle.s6_script.proofs.entry_options.config_of.Goals as goal

pub loop-option-preserved : goal.loop-option-preserved
loop-option-preserved c = record {
  fits = rw c.set.ensures (setting_kept _ _ c.loop-option.invariant.fits c.setting_of.ensures.fits);
  spelled = λ config fits spelled.
      one_option_more (λ w. w.now) c.args.options.now _ config c.loop-option.config c.set.new.config c.setting_of.result c.loop-option.option-index
      c.loop-option-test.true spelled fits (c.loop-option.invariant.spelled config fits spelled) c.setting_of.ensures.spelled c.set.ensures;
}

pub returns-clause-spelled : goal.returns-clause-spelled
returns-clause-spelled c = λ config fits spelled.
    all_options_read (λ w. w.now) c.args.options.now config c.loop-option.config c.loop-option.option-index
    c.loop-option-test.false spelled (c.loop-option.invariant.spelled config fits spelled)
