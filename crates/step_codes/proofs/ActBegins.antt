-- The code of an act begins with a byte.
use Rattle.std.proofs.Common.{◌≡◌, ℕ, List, ◌∷◌, refl}
use Rattle.std.specs.declared.alloc.Global.{Global}
use Rattle.tree_core.specs.declared.input.Act.{Act}
use Rattle.tree_core.specs.declared.input.Act.TheVariants as act
use Rattle.step_codes.specs.ActCodes.{act_onto, FitsAct}

pub record Begins (code : List ℕ) : Type 0 where
  pub kind : ℕ
  pub more : List ℕ
  pub is : code ≡ kind ∷ more

pub act_begins : (a : Act Global) (rest : List ℕ) → FitsAct a → Begins (act_onto a rest)
act_begins act.Tick rest fits = record { kind = 0; more = _; is = refl }
act_begins (act.Started sid generation pid) rest fits = record { kind = 1; more = _; is = refl }
act_begins (act.StartFailed sid generation) rest fits = record { kind = 2; more = _; is = refl }
act_begins (act.Notify sid generation bytes) rest fits = record { kind = 3; more = _; is = refl }
act_begins (act.Death sid generation ended) rest fits = record { kind = 4; more = _; is = refl }
act_begins (act.FinishEnded sid generation ended) rest fits = record { kind = 5; more = _; is = refl }
act_begins (act.Status name) rest fits = record { kind = 6; more = _; is = refl }
act_begins (act.Tally name) rest fits = record { kind = 7; more = _; is = refl }
act_begins (act.Cancel id) rest fits = record { kind = 8; more = _; is = refl }
act_begins (act.Unsubscribe id) rest fits = record { kind = 9; more = _; is = refl }
act_begins (act.Send whose message) rest fits = record { kind = 10; more = _; is = refl }
act_begins (act.MakeDir name) rest fits = record { kind = 11; more = _; is = refl }
act_begins (act.Svc name letters) rest fits = record { kind = 12; more = _; is = refl }
act_begins (act.Scanctl command) rest fits = record { kind = 13; more = _; is = refl }
act_begins (act.Wait wanted how timeout names) rest fits = record { kind = 14; more = _; is = refl }
act_begins (act.Scan listing) rest fits = absurd fits
act_begins (act.Permafailon name seconds count items) rest fits = absurd fits
act_begins (act.Subscribe whose pattern repeats) rest fits = absurd fits
