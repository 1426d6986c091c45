-- A change of one service.
use Rattle.std.specs.Prelude.{◌≡◌, ℕ, List, ◌++◌, map}
use Rattle.std.specs.List.{list_any}
use Rattle.supervise_core.specs.declared.change.Change.{Change}
use Rattle.supervise_core.specs.declared.out.Out.{Out}
use Rattle.supervise_core.specs.Service.{Supervised}
use Rattle.svscan_core.specs.Deaths.{DeathOf, deaths_after, AllTallied}
use Rattle.svscan_core.specs.Moves.{service_mark, services_after, events_after, orders_after}
use Rattle.svscan_core.specs.Table.{charts_of}
use Rattle.svscan_core.specs.Work.{change_move_at}
use Rattle.svscan_core.specs.Worked.{KeepAgreeing}

-- the service of the serial took the change and no other one did, and each has the last of its deaths
pub record TakesChange (sid : ℕ) (change : Change) (now : ℕ) (old new : List Supervised) : Type 0 where
  pub services : charts_of new ≡ services_after (change_move_at sid change now) (charts_of old)
  pub tallies : (deaths : List DeathOf) → AllTallied old deaths
      → AllTallied new (deaths ++ deaths_after (change_move_at sid change now) (charts_of old))

-- what the change gave: its marks, its orders, and whether it was a stale report; a history agrees again, once the marks have joined it
pub record GivesChange (sid : ℕ) (change : Change) (now : ℕ) (old new : List Supervised) (out : Out) : Type 0 where
  pub events : map (service_mark sid) out.events.items ≡ events_after (change_move_at sid change now) (charts_of old)
  pub orders : out.orders.items ≡ orders_after (change_move_at sid change now) (charts_of old)
  pub stale : out.stale ≡ list_any (λ c. (change_move_at sid change now c).stale) (charts_of old)
  pub agrees : KeepAgreeing now old new (map (service_mark sid) out.events.items)
