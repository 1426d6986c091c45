-- Which lists of exits there are, and which exits they name.
use Rattle.std.specs.Prelude.{ℕ, ◌+◌, List, [], ◌∷◌, ◌++◌, fold, take, drop, position, Bool, false, ◌==◌, ◌&&◌, nat_le}
use Rattle.std.specs.Prelude.{length, Option, Some, None, option_map, if◌then◌else◌}
use Rattle.std.specs.List.{list_any, slice_split}
use Rattle.s6_events.specs.declared.exit.Exit.{Exit}
use Rattle.s6_events.specs.declared.exit.Exit.TheVariants as exit_kind
use Rattle.servicedir.specs.Number.{number_up_to}
use Rattle.servicedir.specs.SignalName.{signal_of_word}
use Rattle.death_tally.specs.declared.exit_list.DeathItem.{DeathItem}
use Rattle.death_tally.specs.declared.exit_list.DeathItem.TheVariants.{Code, Range, Signal}

-- an item names an exit
abbrev pub item_names : DeathItem → Exit → Bool
item_names (Code code) (exit_kind.Code c) = code == c
item_names (Range low high) (exit_kind.Code c) = nat_le low c && nat_le c high
item_names (Signal number) (exit_kind.Killed k) = number == k
item_names item exit = false

-- a list names an exit
abbrev pub list_names : List DeathItem → Exit → Bool
list_names items exit = list_any (λ item. item_names item exit) items

-- a word by itself: a number up to 255, or else the name of a signal
abbrev pub spelled_exit : Option ℕ → Option ℕ → Option DeathItem
spelled_exit (Some code) signal = Some (Code code)
spelled_exit None signal = option_map Signal signal

-- two numbers with a dash between them: a range that rises or has one number
abbrev pub spelled_range : Option ℕ → Option ℕ → Option DeathItem
spelled_range (Some low) (Some high) = if nat_le low high then Some (Range low high) else None
spelled_range low high = None

-- the item that a word spells, where its first dash is at this place, or it has none
abbrev pub item_with_dash : Option ℕ → List ℕ → Option DeathItem
item_with_dash None word = spelled_exit (number_up_to 255 word) (signal_of_word word)
item_with_dash (Some place) word = spelled_range (number_up_to 255 (take place word))
    (number_up_to 255 (drop (place + 1) word))

-- the item that a word spells
abbrev pub spelled_item : List ℕ → Option DeathItem
spelled_item word = item_with_dash (position (λ b. b == 45) word) word

-- one more item, where there is one
abbrev pub and_item : List DeathItem → Option DeathItem → Option (List DeathItem)
and_item items None = None
and_item items (Some item) = Some (items ++ item ∷ [])

abbrev pub with_word : Option (List DeathItem) → List ℕ → Option (List DeathItem)
with_word None word = None
with_word (Some items) word = and_item items (spelled_item word)

-- the items that words spell, or none where one of them spells none
abbrev pub items_of : List (List ℕ) → Option (List DeathItem)
items_of words = fold with_word (Some []) words

-- the list that words spell, at most 32; and the list that a text spells, with one comma between two words
abbrev pub list_of : List (List ℕ) → Option (List DeathItem)
list_of words = if nat_le (length words) 32 then items_of words else None

abbrev pub death_list : List ℕ → Option (List DeathItem)
death_list text = list_of (slice_split (λ b. b == 44) text)
