-- What the fields of a registry stand for, and what is true of every registry.
use Rattle.svscan_core.specs.declared.registry.Registry.TheInside.{Inside}
use Rattle.svscan_core.specs.Pending.{planned_of}
use Rattle.svscan_core.specs.Registry.{RegistryView}
use Rattle.svscan_core.specs.Sound.{IsSound}
use Rattle.svscan_core.specs.Table.{charts_of}

abbrev pub registry_view : {A : Type 0} → Inside A → RegistryView
registry_view r = record {
  shown = record { services = r.slots.services; next_sid = r.next_sid };
  room = r.slots.room;
  planned = planned_of r.pending;
  number = r.number;
}

-- what it shows is sound
abbrev pub IsSoundRegistry : {A : Type 0} → Inside A → Type 0
IsSoundRegistry r = IsSound r.next_sid (charts_of r.slots.services)
