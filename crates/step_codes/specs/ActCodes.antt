-- How acts are coded.
use Rattle.std.specs.Prelude.{ℕ, ◌<◌, ◌^◌, IsTrue, Bool, true, false, List, ◌∷◌, length, ⊤}
use Rattle.s6_events.specs.Name.{is_name}
use Rattle.tree_core.specs.declared.input.Act.{Act}
use Rattle.tree_core.specs.declared.input.Act.TheVariants.{Scan, Scanctl, Svc, Started, StartFailed, Notify, Death}
use Rattle.tree_core.specs.declared.input.Act.TheVariants.{FinishEnded, Status, Tally, Permafailon, Wait, Cancel}
use Rattle.tree_core.specs.declared.input.Act.TheVariants.{Subscribe, Unsubscribe, Send, MakeDir, Tick}
use Rattle.step_codes.specs.NumberCodes.{number_onto}
use Rattle.step_codes.specs.NameCodes.{bytes_onto}
use Rattle.step_codes.specs.ListCodes.{list_onto, AllFit}
use Rattle.step_codes.specs.MarkCodes.{exit_onto, FitsExit}
use Rattle.step_codes.specs.RequestCodes.{condition_byte, letter_onto, mode_byte, order_byte, target_onto, FitsTarget}

abbrev pub has_act_code : {A : Type 0} → Act A → Bool
has_act_code (Scan listing) = false
has_act_code (Permafailon name seconds count items) = false
has_act_code (Subscribe target pattern repeats) = false
has_act_code other = true

-- bytes of any number
abbrev pub letters_onto : List ℕ → List ℕ → List ℕ
letters_onto = list_onto (λ n rest. n ∷ rest)

abbrev pub AreBytes : List ℕ → Type 0
AreBytes = AllFit (λ n. n < 2 ^ 8)

-- a byte that tells the kind, and the rest
abbrev pub act_onto : {A : Type 0} → Act A → List ℕ → List ℕ
act_onto Tick rest = 0 ∷ rest
act_onto (Started sid generation pid) rest = 1 ∷ number_onto sid (number_onto generation (number_onto pid rest))
act_onto (StartFailed sid generation) rest = 2 ∷ number_onto sid (number_onto generation rest)
act_onto (Notify sid generation bytes) rest = 3 ∷ number_onto sid (number_onto generation (letters_onto bytes.items rest))
act_onto (Death sid generation exit) rest = 4 ∷ number_onto sid (number_onto generation (exit_onto exit rest))
act_onto (FinishEnded sid generation exit) rest = 5 ∷ number_onto sid (number_onto generation (exit_onto exit rest))
act_onto (Status name) rest = 6 ∷ bytes_onto name rest
act_onto (Tally name) rest = 7 ∷ bytes_onto name rest
act_onto (Cancel id) rest = 8 ∷ number_onto id rest
act_onto (Unsubscribe id) rest = 9 ∷ number_onto id rest
act_onto (Send target message) rest = 10 ∷ target_onto target (letters_onto message rest)
act_onto (MakeDir name) rest = 11 ∷ bytes_onto name rest
act_onto (Svc name letters) rest = 12 ∷ bytes_onto name (list_onto letter_onto letters.items rest)
act_onto (Scanctl order) rest = 13 ∷ order_byte order ∷ rest
act_onto (Wait condition mode timeout names) rest =
    14 ∷ condition_byte condition ∷ mode_byte mode ∷ number_onto timeout (list_onto bytes_onto names rest)
act_onto other rest = rest

abbrev pub FitsAct : {A : Type 0} → Act A → Type 0
FitsAct Tick = ⊤
FitsAct (Started sid generation pid) = (sid < 2 ^ 64) × (generation < 2 ^ 64) × (pid < 2 ^ 32)
FitsAct (StartFailed sid generation) = (sid < 2 ^ 64) × (generation < 2 ^ 64)
FitsAct (Notify sid generation bytes) =
    (sid < 2 ^ 64) × (generation < 2 ^ 64) × AreBytes bytes.items × (length bytes.items < 2 ^ 64)
FitsAct (Death sid generation exit) = (sid < 2 ^ 64) × (generation < 2 ^ 64) × FitsExit exit
FitsAct (FinishEnded sid generation exit) = (sid < 2 ^ 64) × (generation < 2 ^ 64) × FitsExit exit
FitsAct (Status name) = IsTrue (is_name name)
FitsAct (Tally name) = IsTrue (is_name name)
FitsAct (Cancel id) = id < 2 ^ 64
FitsAct (Unsubscribe id) = id < 2 ^ 64
FitsAct (Send target message) = FitsTarget target × AreBytes message × (length message < 2 ^ 64)
FitsAct (MakeDir name) = IsTrue (is_name name)
FitsAct (Svc name letters) = IsTrue (is_name name) × AllFit (λ letter. ⊤) letters.items × (length letters.items < 2 ^ 64)
FitsAct (Scanctl order) = ⊤
FitsAct (Wait condition mode timeout names) =
    (timeout < 2 ^ 32) × AllFit (λ name. IsTrue (is_name name)) names × (length names < 2 ^ 64)
FitsAct other = ⊥
