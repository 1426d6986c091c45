-- How orders are coded.
use Rattle.std.specs.Prelude.{ℕ, ◌<◌, ◌^◌, IsTrue, List, ◌∷◌}
use Rattle.s6_events.specs.Name.{is_name}
use Rattle.s6_events.specs.declared.order.Order.{Order}
use Rattle.s6_events.specs.declared.order.Order.TheVariants.{Run, Finish, Signal, KillFinish}
use Rattle.step_codes.specs.NumberCodes.{number_onto, option_onto, FitsOption}
use Rattle.step_codes.specs.NameCodes.{bytes_onto}

-- a byte that tells the kind, the serial, the generation, and the rest
abbrev pub order_onto : Order → List ℕ → List ℕ
order_onto (Run sid generation name descriptor) rest =
    0 ∷ number_onto sid (number_onto generation (bytes_onto name (option_onto (λ n more. n ∷ more) descriptor rest)))
order_onto (Finish sid generation name exit_code signal) rest =
    1 ∷ number_onto sid (number_onto generation (bytes_onto name (number_onto exit_code (signal ∷ rest))))
order_onto (Signal sid generation signal) rest = 2 ∷ number_onto sid (number_onto generation (signal ∷ rest))
order_onto (KillFinish sid generation) rest = 3 ∷ number_onto sid (number_onto generation rest)

abbrev pub FitsOrder : Order → Type 0
FitsOrder (Run sid generation name descriptor) =
    (sid < 2 ^ 64) × (generation < 2 ^ 64) × IsTrue (is_name name) × FitsOption (λ n. n < 2 ^ 8) descriptor
FitsOrder (Finish sid generation name exit_code signal) =
    (sid < 2 ^ 64) × (generation < 2 ^ 64) × IsTrue (is_name name) × (exit_code < 2 ^ 16) × (signal < 2 ^ 8)
FitsOrder (Signal sid generation signal) = (sid < 2 ^ 64) × (generation < 2 ^ 64) × (signal < 2 ^ 8)
FitsOrder (KillFinish sid generation) = (sid < 2 ^ 64) × (generation < 2 ^ 64)
