-- What the fields of the slots stand for.
use Rattle.std.specs.Prelude.{◌≡◌, ℕ, ◌-◌, List, [], ◌∷◌, ◌++◌, min, IsSomeAnd}
use Rattle.std.specs.Option.{option_to_list}
use Rattle.slab.specs.Slab.{Slab, get, slab_len}
use Rattle.indexmap.specs.IndexMap.{spare}
use Rattle.supervise_core.specs.Service.{Supervised}
use Rattle.svscan_core.specs.Held.{SlotsView}
use Rattle.svscan_core.specs.declared.slots.Slots.TheInside.{Inside}

-- the services in the slots of the index, in its order
abbrev pub services_in : Slab Supervised → List (List ℕ × ℕ) → List Supervised
services_in slots [] = []
services_in slots (p ∷ ps) = option_to_list (get slots p.1) ++ services_in slots ps

-- each slot of the index holds a service of its name
abbrev pub AreHeld : Slab Supervised → List (List ℕ × ℕ) → Type 0
AreHeld slots [] = Unit {0}
AreHeld slots (p ∷ ps) = IsSomeAnd (get slots p.1) (λ s. s.chart.name ≡ p.0) × AreHeld slots ps

-- the services, and the room that both the slots and the index have
abbrev pub slots_view : {A : Type 0} → Inside A → SlotsView
slots_view s = record {
  services = services_in s.slots s.index.entries;
  room = min (s.slots.capacity - slab_len s.slots) (spare s.index);
}

-- each service stands in the slot of its name
abbrev pub IsHeld : {A : Type 0} → Inside A → Type 0
IsHeld s = AreHeld s.slots s.index.entries
