-- The story of a step, from its parts.
use Rattle.std.proofs.Common.{◌≡◌, ℕ, List, [], ◌++◌, ap, ◌∙◌}
use Rattle.std.specs.Prelude.{Bool}
use Rattle.supervise_core.specs.declared.row.Row.{Row}
use Rattle.tree_core.specs.declared.input.Input.{Input}
use Rattle.tree_core.specs.Machine.{Machine, Outcome}
use Rattle.tree_core.specs.Rows.{all_rows}
use Rattle.tree_core.specs.Run.{after, outcome}
use Rattle.tree_core.specs.StandsFor.{StoredTree, StandsFor}
use Rattle.run_stories.specs.Requests.{cause_of, is_told, reply_lines}
use Rattle.run_stories.specs.ActWords.{head_words, body_words}
use Rattle.run_stories.specs.Stories.{rows_after, effect_lines, story_of, Tells}
use Rattle.run_stories.specs.declared.cause.Cause.{Cause}

-- the lines of the reply, and then those of the rest
pub made : {A : Type 0} (now clock : ℕ) (rows shown rows' shown' known : List Row) (told : Bool) (head body bytes : List ℕ) (c : Cause)
    (o : Outcome A) (empty first text : List ℕ) → now ≡ clock → shown ≡ rows → bytes ≡ body → rows' ≡ known → shown' ≡ rows' → empty ≡ []
    → first ≡ empty ++ reply_lines now shown told head bytes o.reply → text ≡ first ++ effect_lines now shown' c o
    → text ≡ reply_lines clock rows told head body o.reply ++ effect_lines clock known c o
made {A} now clock rows shown rows' shown' known told head body bytes c o empty first text e0 e1 e2 e3 e4 e5 e6 e7 =
    let reply : first ≡ reply_lines clock rows told head body o.reply =
    e6 ∙ (ap (λ (t : List ℕ). t ++ reply_lines now shown told head bytes o.reply) e5
    ∙ (ap (λ (s : List Row). reply_lines now s told head bytes o.reply) e1
    ∙ (ap (λ (b : List ℕ). reply_lines now rows told head b o.reply) e2 ∙ ap (λ (n : ℕ). reply_lines n rows told head body o.reply) e0))) in
    let rest : effect_lines now shown' c o ≡ effect_lines clock known c o =
    ap (λ (s : List Row). effect_lines now s c o) (e4 ∙ e3) ∙ ap (λ (n : ℕ). effect_lines n known c o) e0 in
    e7 ∙ (ap (λ (t : List ℕ). t ++ effect_lines now shown' c o) reply
    ∙ ap (λ (t : List ℕ). reply_lines clock rows told head body o.reply ++ t) rest)

-- a step that was applied was told, by the words of its act
pub tells : {A : Type 0} (rows rows' : List Row) (text : List ℕ) (tree' : StoredTree) (input : Input A) (m : Machine) (o : Outcome A) (told : Bool)
    (head body : List ℕ) (c : Cause) → (o ≡ outcome m input) × StandsFor tree' (after m input) → told ≡ is_told input.act
    → head ≡ head_words input.act → body ≡ body_words rows input.act → c ≡ cause_of input.act
    → ((m' : Machine) → StandsFor tree' m' → text ≡ reply_lines m'.clock rows told head body o.reply
    ++ effect_lines m'.clock (rows_after rows o.reply (all_rows m')) c o)
    → ((m' : Machine) → StandsFor tree' m' → rows' ≡ rows_after rows o.reply (all_rows m')) → Tells rows rows' text tree' input m
tells {A} rows rows' text tree' input m o told head body c step e0 e1 e2 e3 story named =
    let m' = after m input in
    let whole : Bool → List ℕ → List ℕ → Cause → Outcome A → List ℕ =
    λ t h b k p. reply_lines m'.clock rows t h b p.reply ++ effect_lines m'.clock (rows_after rows p.reply (all_rows m')) k p in
    let parts : whole told head body c o ≡ story_of rows m input =
    ap (λ (t : Bool). whole t head body c o) e0
    ∙ (ap (λ (h : List ℕ). whole (is_told input.act) h body c o) e1
    ∙ (ap (λ (b : List ℕ). whole (is_told input.act) (head_words input.act) b c o) e2
    ∙ (ap (λ (k : Cause). whole (is_told input.act) (head_words input.act) (body_words rows input.act) k o) e3
    ∙ ap (λ (p : Outcome A). whole (is_told input.act) (head_words input.act) (body_words rows input.act) (cause_of input.act) p) step.0))) in
    record {
      stands = step.1;
      story = story m' step.1 ∙ parts;
      named = named m' step.1 ∙ ap (λ (p : Outcome A). rows_after rows p.reply (all_rows m')) step.0;
    }
