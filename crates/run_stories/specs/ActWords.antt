-- The words of an act.
use Rattle.std.specs.Prelude.{ℕ, List, [], ◌∷◌, ◌++◌, ◌==◌, codes, decimal, map, if◌then◌else◌}
use Rattle.std.specs.List.{flat_map}
use Rattle.control_letters.specs.ControlLetter.{byte_of}
use Rattle.s6_events.specs.declared.condition.Condition.{Condition}
use Rattle.s6_events.specs.declared.condition.Condition.TheVariants as condition
use Rattle.s6_events.specs.declared.condition.Mode.{Mode}
use Rattle.s6_events.specs.declared.condition.Mode.TheVariants as mode
use Rattle.supervise_core.specs.declared.row.Row.{Row}
use Rattle.svscan_core.specs.declared.entry.ScanOrder.TheVariants.{Nuke, Terminate}
use Rattle.tree_core.specs.declared.input.Act.{Act}
use Rattle.tree_core.specs.declared.input.Act.TheVariants.{Scan, Scanctl, Svc, Started, StartFailed, Notify, Death}
use Rattle.tree_core.specs.declared.input.Act.TheVariants.{FinishEnded, Status, Tally, Permafailon, Wait, Cancel}
use Rattle.tree_core.specs.declared.input.Act.TheVariants.{Subscribe, Unsubscribe, Send, MakeDir, Tick}
use Rattle.tree_core.specs.declared.input.Target.{Target}
use Rattle.tree_core.specs.declared.input.Target.TheVariants as target
use Rattle.run_stories.specs.Moments.{seconds_text}
use Rattle.run_stories.specs.Words.{service_text}

-- what an act is
abbrev pub head_words : {A : Type 0} → Act A → List ℕ
head_words (Scan listing) = codes "scan"
head_words (Scanctl Nuke) = codes "end of all that is not listed"
head_words (Scanctl Terminate) = codes "end of all"
head_words (Svc name letters) = codes "letters "
head_words (Started sid generation pid) = codes "report of "
head_words (StartFailed sid generation) = codes "failed start of "
head_words (Notify sid generation bytes) = codes "report of "
head_words (Death sid generation exit) = codes "report of "
head_words (FinishEnded sid generation exit) = codes "report of "
head_words (Status name) = codes "status of "
head_words (Tally name) = codes "deaths of "
head_words (Permafailon name seconds count items) = codes "failures of "
head_words (Wait condition mode timeout names) = codes "wait for "
head_words (Cancel id) = codes "end of wait "
head_words (Subscribe target pattern repeats) = codes "subscription to "
head_words (Unsubscribe id) = codes "end of subscription "
head_words (Send target message) = codes "message "
head_words (MakeDir name) = codes "directory "
head_words Tick = codes "tick"

-- which event directory is meant
abbrev pub target_text : Target → List ℕ
target_text (target.Service name) = name
target_text (target.Directory name) = codes "directory " ++ name

-- what a waiter waits for: all or one of the services, their names, the condition, and how long at most
abbrev pub mode_words : Mode → List ℕ
mode_words mode.All = codes "all of "
mode_words mode.One = codes "one of "

abbrev pub names_text : List (List ℕ) → List ℕ
names_text [] = []
names_text (name ∷ names) = name ++ flat_map (λ other. 44 ∷ 32 ∷ other) names

abbrev pub condition_words : Condition → List ℕ
condition_words condition.Up = codes " up"
condition_words condition.Ready = codes " ready"
condition_words condition.Down = codes " down"
condition_words condition.Finished = codes " down, finish done"
condition_words condition.Restarted = codes " started again"
condition_words condition.RestartedReady = codes " started again, ready"

abbrev pub patience_text : ℕ → List ℕ
patience_text timeout = if timeout == 0 then [] else codes ", for " ++ seconds_text timeout

abbrev pub wait_text : Condition → Mode → ℕ → List (List ℕ) → List ℕ
wait_text condition mode timeout names =
    (mode_words mode ++ names_text names) ++ (condition_words condition ++ patience_text timeout)

-- what an act is about
abbrev pub body_words : {A : Type 0} → List Row → Act A → List ℕ
body_words rows (Scan listing) = []
body_words rows (Scanctl order) = []
body_words rows (Svc name letters) = map byte_of letters.items ++ (codes " to " ++ name)
body_words rows (Started sid generation pid) = service_text rows sid
body_words rows (StartFailed sid generation) = service_text rows sid
body_words rows (Notify sid generation bytes) = service_text rows sid
body_words rows (Death sid generation exit) = service_text rows sid
body_words rows (FinishEnded sid generation exit) = service_text rows sid
body_words rows (Status name) = name
body_words rows (Tally name) = name
body_words rows (Permafailon name seconds count items) = name
body_words rows (Wait condition mode timeout names) = wait_text condition mode timeout names
body_words rows (Cancel id) = decimal id
body_words rows (Subscribe target pattern repeats) = target_text target ++ (codes ", " ++ pattern)
body_words rows (Unsubscribe id) = decimal id
body_words rows (Send target message) = message ++ (codes " to " ++ target_text target)
body_words rows (MakeDir name) = name
body_words rows Tick = []
