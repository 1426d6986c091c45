-- How a list of exits is spelled.
use Rattle.std.specs.Prelude.{ℕ, ◌≤◌, List, [], ◌∷◌, ◌++◌, All, codes, decimal, length, map, unwrap_or}
use Rattle.std.specs.List.{join_with_byte}
use Rattle.death_tally.specs.declared.exit_list.DeathItem.{DeathItem}
use Rattle.death_tally.specs.declared.exit_list.DeathItem.TheVariants.{Code, Range, Signal}
use Rattle.servicedir.specs.SignalName.{name_of_signal}

-- an exit code, a range of them with a dash, or the name of a signal with SIG
abbrev pub item_text : DeathItem → List ℕ
item_text (Code code) = decimal code
item_text (Range low high) = decimal low ++ 45 ∷ decimal high
item_text (Signal number) = codes "SIG" ++ unwrap_or (name_of_signal number) []

-- the items, one comma between two
abbrev pub list_text : List DeathItem → List ℕ
list_text items = join_with_byte 44 (map item_text items)

-- a code is at most 255, a range rises or has one code, and a signal has a name
abbrev pub IsItem : DeathItem → Type 0
IsItem (Code code) = code ≤ 255
IsItem (Range low high) = (low ≤ high) × (high ≤ 255)
IsItem (Signal number) = (1 ≤ number) × (number ≤ 31)

-- a list has 1 to 32 items
pub record IsDeathList (items : List DeathItem) : Type 0 where
  pub some : 1 ≤ length items
  pub few : length items ≤ 32
  pub fit : All IsItem items
