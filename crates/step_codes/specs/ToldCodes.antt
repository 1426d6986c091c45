-- How events and releases are coded.
use Rattle.std.specs.Prelude.{ℕ, ◌<◌, ◌^◌, List, ◌∷◌}
use Rattle.svscan_core.specs.declared.event.Event.{Event}
use Rattle.wait_conditions.specs.declared.verdict.Verdict.{Verdict}
use Rattle.wait_conditions.specs.declared.verdict.Verdict.TheVariants.{Held, Failed, Gone, TimedOut}
use Rattle.tree_core.specs.declared.effect.Release.{Release}
use Rattle.step_codes.specs.NumberCodes.{number_onto}
use Rattle.step_codes.specs.MarkCodes.{mark_byte}

abbrev pub event_onto : Event → List ℕ → List ℕ
event_onto e rest = number_onto e.sid (mark_byte e.mark ∷ rest)

abbrev pub FitsEvent : Event → Type 0
FitsEvent e = e.sid < 2 ^ 64

abbrev pub verdict_byte : Verdict → ℕ
verdict_byte Held = 0
verdict_byte Failed = 1
verdict_byte Gone = 2
verdict_byte TimedOut = 3

abbrev pub release_onto : Release → List ℕ → List ℕ
release_onto r rest = number_onto r.waiter (verdict_byte r.verdict ∷ rest)

abbrev pub FitsRelease : Release → Type 0
FitsRelease r = r.waiter < 2 ^ 64
