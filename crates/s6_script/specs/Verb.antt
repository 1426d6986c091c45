-- The words of an act: its verb, and the words behind it.
use Rattle.std.specs.Prelude.{ℕ, Bool, true, false, List, [], ◌∷◌, ◌==◌, ◌-◌, ◌&&◌, codes, decimal, length, map, slice_index_or}
use Rattle.std.specs.List.{slice_split}
use Rattle.hex.specs.Hex.{encode_lower}
use Rattle.s6_events.specs.declared.condition.Condition.{Condition}
use Rattle.s6_events.specs.declared.condition.Condition.TheVariants as condition
use Rattle.s6_events.specs.declared.condition.Mode.{Mode}
use Rattle.s6_events.specs.declared.condition.Mode.TheVariants as mode
use Rattle.s6_events.specs.declared.exit.Exit.{Exit}
use Rattle.s6_events.specs.declared.exit.Exit.TheVariants.{Code, Killed}
use Rattle.control_letters.specs.ControlLetter.{byte_of}
use Rattle.tree_core.specs.declared.input.Act.{Act}
use Rattle.svscan_core.specs.declared.entry.ScanOrder.{ScanOrder}
use Rattle.svscan_core.specs.declared.entry.ScanOrder.TheVariants.{Nuke, Terminate}
use Rattle.tree_core.specs.declared.input.Act.TheVariants.{Scan, Scanctl, Svc, Started, StartFailed, Notify, Death}
use Rattle.tree_core.specs.declared.input.Act.TheVariants.{FinishEnded, Status, Tally, Permafailon, Wait, Cancel}
use Rattle.tree_core.specs.declared.input.Act.TheVariants.{Subscribe, Unsubscribe, Send, MakeDir, Tick}
use Rattle.tree_core.specs.declared.input.Target.{Target}
use Rattle.tree_core.specs.declared.input.Target.TheVariants as target
use Rattle.s6_script.specs.declared.parse.Verb.{Verb}
use Rattle.s6_script.specs.declared.parse.Verb.TheVariants as verbs
use Rattle.s6_script.specs.DeathList.{list_text}
use Rattle.s6_script.specs.Options.{entry_text}

-- the word of a verb
abbrev pub verb_word : Verb → List ℕ
verb_word verbs.Scan = codes "scan"
verb_word verbs.Scanctl = codes "scanctl"
verb_word verbs.Svc = codes "svc"
verb_word verbs.Started = codes "started"
verb_word verbs.StartFailed = codes "startfailed"
verb_word verbs.Notify = codes "notify"
verb_word verbs.Death = codes "death"
verb_word verbs.Finished = codes "finished"
verb_word verbs.Status = codes "status"
verb_word verbs.Tally = codes "tally"
verb_word verbs.Permafailon = codes "permafailon"
verb_word verbs.Wait = codes "wait"
verb_word verbs.Cancel = codes "cancel"
verb_word verbs.Subscribe = codes "subscribe"
verb_word verbs.Unsubscribe = codes "unsubscribe"
verb_word verbs.Send = codes "send"
verb_word verbs.Mkdir = codes "mkdir"
verb_word verbs.Tick = codes "tick"

-- the word is as long as the other one, and has the same last byte
abbrev pub has_form_of : List ℕ → List ℕ → Bool
has_form_of word other = (length word == length other)
    && (slice_index_or word (length word - 1) 0 == slice_index_or other (length other - 1) 0)

-- the verb of an act
abbrev pub verb_of_act : {A : Type 0} → Act A → Verb
verb_of_act (Scan listing) = verbs.Scan
verb_of_act (Scanctl order) = verbs.Scanctl
verb_of_act (Svc name letters) = verbs.Svc
verb_of_act (Started sid generation pid) = verbs.Started
verb_of_act (StartFailed sid generation) = verbs.StartFailed
verb_of_act (Notify sid generation bytes) = verbs.Notify
verb_of_act (Death sid generation exit) = verbs.Death
verb_of_act (FinishEnded sid generation exit) = verbs.Finished
verb_of_act (Status name) = verbs.Status
verb_of_act (Tally name) = verbs.Tally
verb_of_act (Permafailon name seconds count items) = verbs.Permafailon
verb_of_act (Wait condition mode timeout names) = verbs.Wait
verb_of_act (Cancel id) = verbs.Cancel
verb_of_act (Subscribe target pattern repeats) = verbs.Subscribe
verb_of_act (Unsubscribe id) = verbs.Unsubscribe
verb_of_act (Send target message) = verbs.Send
verb_of_act (MakeDir name) = verbs.Mkdir
verb_of_act Tick = verbs.Tick

-- the verb is that of an act that is asked for: of no report, and not `tick`
abbrev pub is_asked : Verb → Bool
is_asked verbs.Started = false
is_asked verbs.StartFailed = false
is_asked verbs.Notify = false
is_asked verbs.Death = false
is_asked verbs.Finished = false
is_asked verbs.Tick = false
is_asked verb = true

-- the words of an exit
abbrev pub exit_words : Exit → List (List ℕ)
exit_words (Code n) = codes "code" ∷ decimal n ∷ []
exit_words (Killed n) = codes "signal" ∷ decimal n ∷ []

-- the letter of an order to all services, as on the command line
abbrev pub order_word : ScanOrder → List ℕ
order_word Nuke = codes "n"
order_word Terminate = codes "t"

-- the letter of a condition, and that of a mode, as on the command line
abbrev pub condition_word : Condition → List ℕ
condition_word condition.Up = codes "u"
condition_word condition.Ready = codes "U"
condition_word condition.Down = codes "d"
condition_word condition.Finished = codes "D"
condition_word condition.Restarted = codes "r"
condition_word condition.RestartedReady = codes "R"

abbrev pub mode_word : Mode → List ℕ
mode_word mode.All = codes "a"
mode_word mode.One = codes "o"

-- which event directory is meant: that of a service or a free one, and its name
abbrev pub target_word : Target → List ℕ
target_word (target.Service name) = codes "svc"
target_word (target.Directory name) = codes "dir"

abbrev pub target_name : Target → List ℕ
target_name (target.Service name) = name
target_name (target.Directory name) = name

-- whether a subscription goes on after a match
abbrev pub how_word : Bool → List ℕ
how_word false = codes "once"
how_word true = codes "repeat"

-- the words of a text, between its spaces
abbrev pub text_words : List ℕ → List (List ℕ)
text_words text = slice_split (λ b. b == 32) text

-- the words of an act behind its verb; a pattern is the rest of the line, with its spaces
abbrev pub details : {A : Type 0} → Act A → List (List ℕ)
details (Scan listing) = map entry_text listing
details (Scanctl order) = order_word order ∷ []
details (Svc name letters) = name ∷ map byte_of letters.items ∷ []
details (Started sid generation pid) = decimal sid ∷ decimal generation ∷ decimal pid ∷ []
details (StartFailed sid generation) = decimal sid ∷ decimal generation ∷ []
details (Notify sid generation bytes) = decimal sid ∷ decimal generation ∷ encode_lower bytes.items ∷ []
details (Death sid generation exit) = decimal sid ∷ decimal generation ∷ exit_words exit
details (FinishEnded sid generation exit) = decimal sid ∷ decimal generation ∷ exit_words exit
details (Status name) = name ∷ []
details (Tally name) = name ∷ []
details (Permafailon name seconds count items) = name ∷ decimal seconds ∷ decimal count ∷ list_text items ∷ []
details (Wait condition mode timeout names) = condition_word condition ∷ mode_word mode ∷ decimal timeout ∷ names
details (Cancel id) = decimal id ∷ []
details (Subscribe target pattern repeats) =
    target_word target ∷ target_name target ∷ how_word repeats ∷ text_words pattern
details (Unsubscribe id) = decimal id ∷ []
details (Send target message) = target_word target ∷ target_name target ∷ message ∷ []
details (MakeDir name) = name ∷ []
details Tick = []
