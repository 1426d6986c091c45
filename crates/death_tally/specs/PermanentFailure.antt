-- Whether enough deaths make a permanent failure.
use Rattle.std.specs.Prelude.{ℕ, ◌+◌, ◌*◌, List, Bool, ◌&&◌, nat_le, length, filter}
use Rattle.s6_events.specs.declared.exit.Exit.{Exit}
use Rattle.death_tally.specs.declared.exit_list.DeathItem.{DeathItem}
use Rattle.death_tally.specs.DeathList.{list_names}

-- a death counts where it is at most `seconds` seconds ago and the list names its exit
abbrev pub is_counted : ℕ → ℕ → List DeathItem → ℕ × Exit → Bool
is_counted now seconds items death = nat_le now (death.0 + 1000 * seconds) && list_names items death.1

-- at least `count` deaths count
abbrev pub are_permanent_failure : ℕ → ℕ → ℕ → List DeathItem → List (ℕ × Exit) → Bool
are_permanent_failure now seconds count items deaths =
    nat_le count (length (filter (is_counted now seconds items) deaths))
