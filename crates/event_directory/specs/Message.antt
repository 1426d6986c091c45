-- Which bytes are a message.
use Rattle.std.specs.Prelude.{ℕ, List, Bool, ◌&&◌, nat_le, length}
use Rattle.std.specs.List.{list_all}
use Rattle.s6_events.specs.Letter.{is_letter}

-- 1 to 64 letters
abbrev pub is_message : List ℕ → Bool
is_message bytes = nat_le 1 (length bytes) && nat_le (length bytes) 64 && list_all is_letter bytes
