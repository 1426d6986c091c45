use Rattle.std.proofs.Common.{refl}
use Rattle.s6_script.proofs.Entries.{one_option_written}
use Rattle.s6_script.proofs.entry_options.push_options.Goals as goal

pub loop-setting-preserved : goal.loop-setting-preserved
loop-setting-preserved g c =
    let both = one_option_written c.args.text.now.items c.loop-setting.text.items c.push.new.self.items c.push_option.new.text.items
    c.args.settings.now _
    c.loop-setting.mark _ c.loop-setting.setting-index c.loop-setting-test.true c.loop-setting.invariant.text c.loop-setting.invariant.mark
    refl c.in_ok-push.ensures.items c.in_ok-push_option.ensures in
    record { text = both.0; mark = both.1 }
