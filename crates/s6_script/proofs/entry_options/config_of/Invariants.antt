use Rattle.std.proofs.Common.{◌≡◌, map, take, fold}
use Rattle.servicedir.specs.Config.{plain_config}
use Rattle.servicedir.specs.declared.config.Config.{Config}
use Rattle.s6_script.specs.Options.{option_words, settings, with_setting, IsConfig}
use Rattle.s6_script.proofs.entry_options.config_of.Given as goal

abbrev pub invariant-loop-option : goal.invariant-loop-option
invariant-loop-option l = record {
  fits : IsConfig l.config;
  spelled : (c : Config) → IsConfig c → map (λ w. w.now) l.options ≡ option_words c
      → l.config ≡ fold with_setting plain_config (take l.option-index (settings c));
}
