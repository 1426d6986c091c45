-- What a listing drops and adds, before anything is changed.
use Rattle.std.specs.Prelude.{ℕ, List, ◌++◌, fold}
use Rattle.supervise_core.specs.Service.{Supervised}
use Rattle.svscan_core.specs.declared.moves.ChangedService.{ChangedService}
use Rattle.svscan_core.specs.Moving.{with_changes}
use Rattle.svscan_core.specs.Table.{without_name}

-- without the first service of each of these names
abbrev pub without_names : List Supervised → List (List ℕ) → List Supervised
without_names services names = fold without_name services names

-- the services after the changes, without those that are dropped, and with those that are added behind them
abbrev pub prepared_services : List Supervised → List ChangedService → List (List ℕ) → List Supervised → List Supervised
prepared_services services touched dropped added = without_names (with_changes services touched) dropped ++ added
