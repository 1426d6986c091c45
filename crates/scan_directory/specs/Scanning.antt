-- Which listings are taken: those that a line of a script can spell.
use Rattle.std.specs.Prelude.{ℕ, List}
use Rattle.std.specs.declared.alloc.Global.{Global}
use Rattle.svscan_core.specs.declared.entry.Entry.{Entry}
use Rattle.tree_core.specs.declared.input.Act.TheVariants.{Scan}
use Rattle.tree_core.specs.declared.input.Input.{Input}

-- the last moment that an input can have; none takes more bytes
abbrev pub last_moment : ℕ
last_moment = 1000000000000000

-- a scan of this listing, which actor 0 hands in at a moment
abbrev pub scan_at : ℕ → List Entry → Input Global
scan_at at listing = record { actor = 0; at = at; act = Scan listing }
