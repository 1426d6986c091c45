-- What a contract sees of a history.
use Rattle.std.specs.Prelude.{◌+◌, ◌-◌, ◌<◌, ◌≤◌, ◌^◌, drop, length, vec_len, vec_capacity}
use Rattle.s6_events.specs.History.{Recorded}
use Rattle.s6_events.specs.declared.history.History.TheInside.{Inside}

-- what it forgot and keeps, and the room that is left
abbrev pub history_view : {A : Type 0} → Inside A → Recorded
history_view h = record {
  forgotten = h.dropped + h.skipped;
  kept = drop h.skipped h.moments.items;
  spare_capacity = vec_capacity h.moments - vec_len h.moments;
}

-- places stay below 2 ^ 63, and what is skipped lies in the vector
pub record IsCounted {A : Type 0} (h : Inside A) : Type 0 where
  pub few : h.dropped + vec_len h.moments < 2 ^ 63
  pub within : h.skipped ≤ length h.moments.items
