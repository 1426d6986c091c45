-- The story of a step, and of a run.
use Rattle.std.specs.Prelude.{◌≡◌, ℕ, List, [], ◌∷◌, ◌++◌}
use Rattle.std.specs.List.{flat_map}
use Rattle.supervise_core.specs.declared.row.Row.{Row}
use Rattle.tree_core.specs.declared.input.Act.{Act}
use Rattle.tree_core.specs.declared.input.Input.{Input}
use Rattle.tree_core.specs.declared.reply.Reply.{Reply}
use Rattle.tree_core.specs.declared.reply.Reply.TheVariants as answers
use Rattle.tree_core.specs.Machine.{Machine, Outcome}
use Rattle.tree_core.specs.Rows.{all_rows}
use Rattle.tree_core.specs.Run.{after, outcome}
use Rattle.tree_core.specs.StandsFor.{StoredTree, StandsFor}
use Rattle.run_stories.specs.Words.{event_line, order_line, match_line, release_line}
use Rattle.run_stories.specs.Requests.{cause_of, is_told, reply_lines}
use Rattle.run_stories.specs.ActWords.{head_words, body_words}
use Rattle.run_stories.specs.declared.cause.Cause.{Cause}

-- the rows by which services are named after a step: those of the last scan that was done
abbrev pub rows_after : {A : Type 0} → List Row → Reply A → List Row → List Row
rows_after rows (answers.Scanned s) standing = standing
rows_after rows reply standing = rows

-- what a step gave beside its reply: a line for each event, order, match and release, each kind in the order made
abbrev pub effect_lines : {A : Type 0} → ℕ → List Row → Cause → Outcome A → List ℕ
effect_lines now rows c o =
    flat_map (event_line now rows c) o.events ++ flat_map (order_line now rows) o.orders
    ++ flat_map (match_line now) o.matched ++ flat_map (release_line now) o.released

-- the story of a step: the lines of its reply, and then what else it gave. A service that a scan dropped is named by the rows before the
-- scan, any other by those after it
abbrev pub step_story : {A : Type 0} → ℕ → (rows standing : List Row) → Act A → Outcome A → List ℕ
step_story now rows standing act o =
    reply_lines now rows (is_told act) (head_words act) (body_words rows act) o.reply
    ++ effect_lines now (rows_after rows o.reply standing) (cause_of act) o

-- the story of the step of an input, and the rows by which services are named after it
abbrev pub story_of : {A : Type 0} → List Row → Machine → Input A → List ℕ
story_of rows m input = step_story (after m input).clock rows (all_rows (after m input)) input.act (outcome m input)

abbrev pub named_after : {A : Type 0} → List Row → Machine → Input A → List Row
named_after rows m input = rows_after rows (outcome m input).reply (all_rows (after m input))

-- a step was told: the text is its story, the rows are those of the last scan, and the tree goes on as the machine does
pub record Tells {A : Type 0} (rows rows' : List Row) (text : List ℕ) (tree' : StoredTree) (input : Input A) (m : Machine) : Type 0 where
  pub stands : StandsFor tree' (after m input)
  pub story : text ≡ story_of rows m input
  pub named : rows' ≡ named_after rows m input

-- the same for each machine that the tree stood for
abbrev pub IsTold : {A : Type 0} → (rows rows' : List Row) → List ℕ → (tree tree' : StoredTree) → Input A → Type 0
IsTold rows rows' text tree tree' input = (m : Machine) → StandsFor tree m → Tells rows rows' text tree' input m

-- the rows by which services are named after some inputs
abbrev pub named_after_all : {A : Type 0} → List Row → Machine → List (Input A) → List Row
named_after_all rows m [] = rows
named_after_all rows m (input ∷ inputs) = named_after_all (named_after rows m input) (after m input) inputs

-- the story of some inputs: the stories of their steps, one after the other
abbrev pub run_story : {A : Type 0} → List Row → Machine → List (Input A) → List ℕ
run_story rows m [] = []
run_story rows m (input ∷ inputs) = story_of rows m input ++ run_story (named_after rows m input) (after m input) inputs
