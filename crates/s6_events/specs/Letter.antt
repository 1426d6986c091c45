-- Which bytes are letters of an event directory.
use Rattle.std.specs.Prelude.{ℕ, Bool, ◌&&◌, nat_le}

-- a byte from 0x21 to 0x7e
abbrev pub is_letter : ℕ → Bool
is_letter byte = nat_le 0x21 byte && nat_le byte 0x7e
