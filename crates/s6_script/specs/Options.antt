-- How an entry of a listing is spelled: its name, and then the options of its configuration, or a mark that its directory couldn't be read.
use Rattle.std.specs.Prelude.{ℕ, ◌≤◌, List, [], ◌∷◌, ◌++◌, map, codes, decimal, Bool, true, not, ◌==◌, ◌||◌}
use Rattle.std.specs.Prelude.{if◌then◌else◌, IsTrue, Option, Some, None, IfSome}
use Rattle.std.specs.List.{join_with_byte}
use Rattle.s6_events.specs.Name.{is_name}
use Rattle.servicedir.specs.Config.{plain_config, is_served}
use Rattle.servicedir.specs.declared.config.Config.{Config}
use Rattle.svscan_core.specs.declared.entry.Entry.{Entry}
use Rattle.s6_script.specs.declared.entry_options.Setting.{Setting}
use Rattle.s6_script.specs.declared.entry_options.Setting.TheVariants.{Down, Finish, Notify, Kill, FinishTime, Tally}
use Rattle.s6_script.specs.declared.entry_options.Setting.TheVariants.{Signal}

-- the setting, if `so`
abbrev pub where_so : Bool → Setting → List Setting
where_so so setting = if so then setting ∷ [] else []

-- the setting for a descriptor, where there is one
abbrev pub descriptor_setting : Option ℕ → List Setting
descriptor_setting None = []
descriptor_setting (Some descriptor) = Notify descriptor ∷ []

-- the setting for a number, where it isn't at its default
abbrev pub number_setting : (ℕ → Setting) → ℕ → ℕ → List Setting
number_setting setting default number = where_so (not (number == default)) (setting number)

-- the settings of a configuration that aren't at their defaults, in this order
abbrev pub settings : Config → List Setting
settings c =
    where_so c.down Down ++ where_so c.finish Finish ++ descriptor_setting c.notification_fd
    ++ number_setting Kill plain_config.timeout_kill c.timeout_kill
    ++ number_setting FinishTime plain_config.timeout_finish c.timeout_finish
    ++ number_setting Tally plain_config.max_death_tally c.max_death_tally
    ++ number_setting Signal plain_config.down_signal c.down_signal

-- the option that spells a setting
abbrev pub option_word : Setting → List ℕ
option_word Down = codes "down"
option_word Finish = codes "finish"
option_word (Notify descriptor) = codes "notify=" ++ decimal descriptor
option_word (Kill millis) = codes "kill=" ++ decimal millis
option_word (FinishTime millis) = codes "fintime=" ++ decimal millis
option_word (Tally deaths) = codes "tally=" ++ decimal deaths
option_word (Signal signal) = codes "signal=" ++ decimal signal

-- the options of a configuration
abbrev pub option_words : Config → List (List ℕ)
option_words c = map option_word (settings c)

-- what follows a name: nothing, or a colon and the options with commas between them
abbrev pub behind_name : List (List ℕ) → List ℕ
behind_name [] = []
behind_name (option ∷ options) = 58 ∷ join_with_byte 44 (option ∷ options)

-- what follows the name of an entry: its options, or `!` where its directory couldn't be read
abbrev pub config_text : Option Config → List ℕ
config_text None = codes "!"
config_text (Some c) = behind_name (option_words c)

-- the spelling of an entry
abbrev pub entry_text : Entry → List ℕ
entry_text e = e.name ++ config_text e.config

-- the configuration with this setting
abbrev pub with_setting : Config → Setting → Config
with_setting c Down = record c { down = true }
with_setting c Finish = record c { finish = true }
with_setting c (Notify descriptor) = record c { notification_fd = Some descriptor }
with_setting c (Kill millis) = record c { timeout_kill = millis }
with_setting c (FinishTime millis) = record c { timeout_finish = millis }
with_setting c (Tally deaths) = record c { max_death_tally = deaths }
with_setting c (Signal signal) = record c { down_signal = signal }

-- a descriptor is 1 or 3 to 9, milliseconds have 32 bits, deaths are at most 4096, a signal is 1 to 64
abbrev pub IsSetting : Setting → Type 0
IsSetting Down = Unit {0}
IsSetting Finish = Unit {0}
IsSetting (Notify descriptor) = IsTrue (is_served descriptor)
IsSetting (Kill millis) = millis ≤ 4294967295
IsSetting (FinishTime millis) = millis ≤ 4294967295
IsSetting (Tally deaths) = deaths ≤ 4096
IsSetting (Signal signal) = (1 ≤ signal) × (signal ≤ 64)

-- a configuration that a script can spell, within the same limits
pub record IsConfig (c : Config) : Type 0 where
  pub descriptor : IfSome c.notification_fd (λ fd. IsTrue (is_served fd))
  pub kill : c.timeout_kill ≤ 4294967295
  pub finish_time : c.timeout_finish ≤ 4294967295
  pub tally : c.max_death_tally ≤ 4096
  pub signal : (1 ≤ c.down_signal) × (c.down_signal ≤ 64)

-- an entry that a script can spell
abbrev pub IsEntry : Entry → Type 0
IsEntry e = IsTrue (is_name e.name) × IfSome e.config IsConfig

-- a part of an entry ends at a colon or a comma
abbrev pub ends_part : ℕ → Bool
ends_part b = (b == 58) || (b == 44)
