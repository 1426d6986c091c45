-- The acts that are read word for word.
use Rattle.std.specs.Prelude.{Bool, true, false, ◌<◌, ◌^◌, ⊤}
use Rattle.tree_core.specs.declared.input.Act.{Act}
use Rattle.tree_core.specs.declared.input.Act.TheVariants.{Started, Death, Tick}

-- a start, a death or a tick
abbrev pub is_read : {A : Type 0} → Act A → Bool
is_read (Started sid generation pid) = true
is_read (Death sid generation exit) = true
is_read Tick = true
is_read act = false

-- where it tells of a life, the serial and the generation are below 10^19
abbrev pub HasShortNumbers : {A : Type 0} → Act A → Type 0
HasShortNumbers (Started sid generation pid) = (sid < 10 ^ 19) × (generation < 10 ^ 19)
HasShortNumbers (Death sid generation exit) = (sid < 10 ^ 19) × (generation < 10 ^ 19)
HasShortNumbers act = ⊤
