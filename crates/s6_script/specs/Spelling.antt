-- How an act is spelled, and an input, which is an act with its moment and its actor.
use Rattle.std.specs.Prelude.{◌≡◌, ℕ, ◌^◌, ◌<◌, ◌≤◌, List, ◌∷◌, decimal, IsTrue, All, length}
use Rattle.std.specs.List.{join_with_byte}
use Rattle.hex.specs.Hex.{IsBytes}
use Rattle.event_directory.specs.Message.{is_message}
use Rattle.event_directory.specs.Pattern.{is_expression, is_pattern_text}
use Rattle.s6_events.specs.declared.exit.Exit.{Exit}
use Rattle.s6_events.specs.declared.exit.Exit.TheVariants.{Code, Killed}
use Rattle.s6_events.specs.At.{last_moment}
use Rattle.s6_events.specs.Name.{is_name}
use Rattle.tree_core.specs.declared.input.Act.{Act}
use Rattle.tree_core.specs.declared.input.Act.TheVariants.{Scan, Scanctl, Svc, Started, StartFailed, Notify, Death}
use Rattle.tree_core.specs.declared.input.Act.TheVariants.{FinishEnded, Status, Tally, Permafailon, Wait, Cancel}
use Rattle.tree_core.specs.declared.input.Act.TheVariants.{Subscribe, Unsubscribe, Send, MakeDir, Tick}
use Rattle.tree_core.specs.declared.input.Input.{Input}
use Rattle.s6_script.specs.DeathList.{IsDeathList}
use Rattle.s6_script.specs.Options.{IsEntry}
use Rattle.s6_script.specs.Verb.{verb_word, verb_of_act, details, target_name}

-- the words of an act: its verb, and the words behind it
abbrev pub act_words : {A : Type 0} → Act A → List (List ℕ)
act_words act = verb_word (verb_of_act act) ∷ details act

-- the one spelling of an act: its words, with one space between each two
abbrev pub act_spelling : {A : Type 0} → Act A → List ℕ
act_spelling act = join_with_byte 32 (act_words act)

-- the words of an input: its moment, its actor, its act
abbrev pub input_words : {A : Type 0} → Input A → List (List ℕ)
input_words i = decimal i.at ∷ decimal i.actor ∷ act_words i.act

-- the one spelling of an input: its words, with one space between each two
abbrev pub spelling : {A : Type 0} → Input A → List ℕ
spelling i = join_with_byte 32 (input_words i)

-- an exit code is at most 255, a signal at most 64
abbrev pub IsExit : Exit → Type 0
IsExit (Code n) = n ≤ 255
IsExit (Killed n) = n ≤ 64

-- the act is within the limits of a script: entries, names, lists of exits and messages are valid; letters are 1 to 63, bytes 1 to 64;
-- serials and generations have 64 bits; a process number is positive and has 31 bits; seconds, counts and timeouts have 32 bits; a pattern
-- has a text that one may have, though `regex` may refuse it
abbrev pub IsAct : {A : Type 0} → Act A → Type 0
IsAct (Scan listing) = All IsEntry listing
IsAct (Scanctl order) = Unit {0}
IsAct (Svc name letters) = IsTrue (is_name name) × (1 ≤ length letters.items) × (length letters.items ≤ 63)
IsAct (Started sid generation pid) = (sid < 2 ^ 64) × (generation < 2 ^ 64) × (1 ≤ pid) × (pid ≤ 2147483647)
IsAct (StartFailed sid generation) = (sid < 2 ^ 64) × (generation < 2 ^ 64)
IsAct (Notify sid generation bytes) =
    (sid < 2 ^ 64) × (generation < 2 ^ 64) × (1 ≤ length bytes.items) × (length bytes.items ≤ 64) × IsBytes bytes.items
IsAct (Death sid generation exit) = (sid < 2 ^ 64) × (generation < 2 ^ 64) × IsExit exit
IsAct (FinishEnded sid generation exit) = (sid < 2 ^ 64) × (generation < 2 ^ 64) × IsExit exit
IsAct (Status name) = IsTrue (is_name name)
IsAct (Tally name) = IsTrue (is_name name)
IsAct (Permafailon name seconds count items) =
    IsTrue (is_name name) × (seconds ≤ 4294967295) × (count ≤ 4294967295) × IsDeathList items
IsAct (Wait condition mode timeout names) = (timeout ≤ 4294967295) × All (λ name. IsTrue (is_name name)) names
IsAct (Cancel id) = id < 2 ^ 64
IsAct (Subscribe target pattern repeats) = IsTrue (is_name (target_name target)) × IsTrue (is_pattern_text pattern)
IsAct (Unsubscribe id) = id < 2 ^ 64
IsAct (Send target message) = IsTrue (is_name (target_name target)) × IsTrue (is_message message)
IsAct (MakeDir name) = IsTrue (is_name name)
IsAct Tick = Unit {0}

-- the text spells the act
pub record SpellsAct {A : Type 0} (text : List ℕ) (act : Act A) : Type 0 where
  pub fits : IsAct act
  pub text_is : text ≡ act_spelling act

-- the input has a spelling
pub record IsSpelt {A : Type 0} (i : Input A) : Type 0 where
  pub at : i.at ≤ last_moment
  pub actor : i.actor ≤ 15
  pub act : IsAct i.act

-- the text spells the input
pub record Spells {A : Type 0} (text : List ℕ) (i : Input A) : Type 0 where
  pub spelt : IsSpelt i
  pub text_is : text ≡ spelling i

-- the pattern of a subscription is one that the grammar of `regex` reads
abbrev pub HasExpression : {A : Type 0} → Act A → Type 0
HasExpression (Subscribe target pattern repeats) = IsTrue (is_expression pattern)
HasExpression act = Unit {0}

-- the act is a subscription
abbrev pub IsSubscription : {A : Type 0} → Act A → Type 0
IsSubscription (Subscribe target pattern repeats) = Unit {0}
IsSubscription act = ⊥

-- the text spells a subscription; `regex` may refuse its pattern
abbrev pub SpellsActButForPattern : (A : Type 0) → List ℕ → Type 0
SpellsActButForPattern A text = (act : Act A) × SpellsAct text act × IsSubscription act

-- the text spells an input that is a subscription; `regex` may refuse its pattern
abbrev pub SpellsButForPattern : (A : Type 0) → List ℕ → Type 0
SpellsButForPattern A text = (i : Input A) × Spells text i × IsSubscription i.act
