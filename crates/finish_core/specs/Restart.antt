-- When a service whose finish is done is started again.
use Rattle.std.specs.Prelude.{ℕ, ◌+◌, ◌-◌, Bool, false, nat_lt, max, Option, None, Some, if◌then◌else◌}

-- the service had been ready for more than a second when it died
abbrev pub was_ready_long : Option ℕ → ℕ → Bool
was_ready_long None death = false
was_ready_long (Some since) death = nat_lt 1000 (death - since)

-- at once where it had been ready that long, else no sooner than a second after its death
abbrev pub restart_moment : Option ℕ → ℕ → ℕ → ℕ
restart_moment since death now = if was_ready_long since death then now else max now (death + 1000)
