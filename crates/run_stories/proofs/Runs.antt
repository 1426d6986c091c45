-- The story of a script that goes on by one step, stops or ends.
use Rattle.std.proofs.Common.{◌≡◌, ℕ, ◌+◌, ◌<◌, ◌≤◌, List, [], ◌∷◌, ◌++◌, refl, sym, ap, ◌∙◌, subst, append_assoc, append-nil}
use Rattle.std.proofs.Common.{arith, inl, inr}
use Rattle.std.specs.Prelude.{Option, true, false}
use Rattle.std.specs.Io.KnownBytes.{Consumes, Appends}
use Rattle.std.proofs.KnownBytes.{Consumes-trans, Appends-trans, Appends-nil}
use Rattle.std.proofs.lemmas.List.{length-append}
use Rattle.supervise_core.specs.declared.row.Row.{Row}
use Rattle.tree_core.specs.declared.input.Input.{Input}
use Rattle.tree_core.specs.Machine.{Machine, new_machine}
use Rattle.tree_core.specs.Run.{after, after_all}
use Rattle.tree_core.specs.StandsFor.{StoredTree, StandsFor}
use Rattle.s6_script.specs.Spelling.{spelling}
use Rattle.s6_script.specs.Writing.{AppendsFront}
use Rattle.s6_replay.specs.Lines.{HasNoNewline}
use Rattle.s6_script.specs.Script.{Recorded, HasLines, head_line, step_lines, inputs_of, input_limit}
use Rattle.s6_replay.specs.ReadingStops.{StopsBehind}
use Rattle.s6_replay.specs.Turn.{HeadStops, EndStops}
use Rattle.s6_script.specs.declared.version.Version.{Version}
use Rattle.s6_replay.specs.declared.fault.ReplayFault.{ReplayFault}
use Rattle.s6_replay.specs.declared.fault.ReplayFault.TheVariants.{Head, Line, Pattern, Truncated, Read, Write, NoMemory}
use Rattle.s6_script.proofs.Fronts.{front_more}
use Rattle.s6_replay.proofs.Places.{whole_step}
use Rattle.s6_replay.proofs.Steps.{ReadsTo, all_more, reads_more, reads_none, make_script, are_read, stops_after, inputs_more, script_more, stops_at_end}
use Rattle.run_stories.specs.Stories.{Tells, story_of, named_after, named_after_all, run_story}
use Rattle.run_stories.specs.Scripts.{script_story, TellsNext, NextStops, IsStory, StopsTelling, StoryStops}

-- the story has come so far: these steps were read and told
pub record RunsTo {A : Type 0} (version : Version) (left left' held held' : Option (List ℕ)) (rows : List Row) (tree : StoredTree)
    (done : ℕ) (steps : List (Recorded A)) : Type 0 where
  pub reads : ReadsTo version left left' tree done steps
  pub written : Appends held held' (script_story steps)
  pub named : rows ≡ named_after_all [] new_machine (inputs_of steps)

named_more : {A : Type 0} (rows : List Row) (m : Machine) (inputs : List (Input A)) (i : Input A)
    → named_after_all rows m (inputs ++ i ∷ []) ≡ named_after (named_after_all rows m inputs) (after_all m inputs) i
named_more rows m [] i = refl
named_more rows m (x ∷ xs) i = named_more (named_after rows m x) (after m x) xs i

story_more : {A : Type 0} (rows : List Row) (m : Machine) (inputs : List (Input A)) (i : Input A)
    → run_story rows m (inputs ++ i ∷ []) ≡ run_story rows m inputs ++ story_of (named_after_all rows m inputs) (after_all m inputs) i
story_more rows m [] i = append-nil (story_of rows m i)
story_more rows m (x ∷ xs) i =
    ap (λ rest. story_of rows m x ++ rest) (story_more (named_after rows m x) (after m x) xs i)
    ∙ sym (append_assoc (story_of rows m x) (run_story (named_after rows m x) (after m x) xs) _)

-- the story of a step behind some others
abbrev last_story : {A : Type 0} → List (Recorded A) → Recorded A → List ℕ
last_story steps s = story_of (named_after_all [] new_machine (inputs_of steps)) (after_all new_machine (inputs_of steps)) s.input

text_more : {A : Type 0} (steps : List (Recorded A)) (s : Recorded A) → script_story (steps ++ s ∷ []) ≡ script_story steps ++ last_story steps s
text_more {A} steps s =
    ap (λ (inputs : List (Input A)). run_story [] new_machine inputs) (inputs_more steps s)
    ∙ story_more [] new_machine (inputs_of steps) s.input

pub starts : (A : Type 0) (version : Version) (a b x : Option (List ℕ)) (rows : List Row) (tree : StoredTree)
    → Consumes a b (head_line version) → StandsFor tree new_machine → rows ≡ []
    → (steps : List (Recorded A)) × RunsTo version a b x x rows tree 0 steps
starts A version a b x rows tree read stands none =
    ([], record { reads = reads_none version a b tree read stands; written = Appends-nil x; named = none })

-- a step was read and not told, for want of memory
pub untold : (A : Type 0) (fault : ReplayFault) (version : Version) (before : ℕ) (rows : List Row) (tree : StoredTree) (s : Recorded A)
    (b c y : Option (List ℕ)) → before < input_limit → HasLines version s → HasNoNewline (spelling s.input)
    → Consumes b c (step_lines version s) → fault ≡ NoMemory → NextStops A fault version before rows tree b c y y
untold A fault version before rows tree s b c y few h plain read is =
    subst (λ (f : ReplayFault). NextStops A f version before rows tree b c y y) (sym is)
    (inl (whole_step version before s b c few h plain read, refl))

module _ (A : Type 0) (version : Version) (a b c x y z : Option (List ℕ)) (rows : List Row) (tree : StoredTree) (done : ℕ)
    (steps : List (Recorded A)) (r : RunsTo version a b x y rows tree done steps) where
  pub goes_on : (rows' : List Row) (new : StoredTree) → TellsNext A true version rows rows' tree new b c y z
      → (all : List (Recorded A)) × RunsTo version a c x z rows' new (done + 1) all
  goes_on rows' new t =
      let s = t.0 in
      let m = after_all new_machine (inputs_of steps) in
      let text = t.3.0 in
      let told : Tells rows rows' text new s.input m = t.3.1 m r.reads.stands in
      let story : text ≡ last_story steps s = told.story ∙ ap (λ (known : List Row). story_of known m s.input) r.named in
      let named : rows' ≡ named_after (named_after_all [] new_machine (inputs_of steps)) m s.input =
      told.named ∙ ap (λ (known : List Row). named_after known m s.input) r.named in (
        steps ++ s ∷ [],
        record {
          reads = reads_more version a b c tree new done steps s r.reads t.1 t.2 told.stands;
          written = subst (Appends x z) (sym (text_more steps s))
              (Appends-trans x y z _ _ r.written (subst (Appends y z) story t.3.2));
          named = named
              ∙ sym (ap (λ (inputs : List (Input A)). named_after_all [] new_machine inputs) (inputs_more steps s)
              ∙ named_more [] new_machine (inputs_of steps) s.input);
        },
      )

  -- nothing more was written
  kept : z ≡ y → Appends x z (script_story steps)
  kept same = subst (λ (h : Option (List ℕ)). Appends x h (script_story steps)) (sym same) r.written

  stops_telling : (fault : ReplayFault) → done ≤ input_limit → StopsBehind A version done fault [] b c → z ≡ y → StopsTelling A fault a c x z
  stops_telling fault few t same = (
    version,
    (
      steps,
      make_script version a b c tree done steps r.reads few,
      kept same,
      stops_after version a b c tree done steps r.reads fault t,
    ),
  )

  unread : (fault : ReplayFault) → done ≤ input_limit → StopsBehind A version done fault [] b c → z ≡ y → StoryStops A fault a c x z
  unread (Line n) few t same = stops_telling (Line n) few t same
  unread (Pattern n) few t same = stops_telling (Pattern n) few t same
  unread Truncated few t same = stops_telling Truncated few t same
  unread Read few t same = inl (stops_telling Read few t same)
  unread NoMemory few t same = stops_telling NoMemory few t same
  unread Head few t same = absurd t
  unread Write few t same = absurd t

  -- the step was read, and some of its story was written
  unwritten : done < input_limit → (s : Recorded A) → HasLines version s → Consumes b c (step_lines version s)
      → ((m : Machine) → StandsFor tree m → AppendsFront y z (story_of rows m s.input)) → StoryStops A Write a c x z
  unwritten few s h read t =
      let m = after_all new_machine (inputs_of steps) in
      let some : AppendsFront y z (last_story steps s) =
      subst (λ (known : List Row). AppendsFront y z (story_of known m s.input)) r.named (t m r.reads.stands) in (
        version,
        (
          steps ++ s ∷ [],
          record {
            lines = all_more version steps s r.reads.lines h;
            few = omega (arith, few, length-append steps (s ∷ []), r.reads.many);
          },
          subst (Consumes a c) (sym (script_more version steps s)) (Consumes-trans a b c _ _ r.reads.read read),
          subst (AppendsFront x z) (sym (text_more steps s)) (front_more x y z (script_story steps) (last_story steps s) r.written some),
        ),
      )

  -- a step that was not told
  pub next_stops : (fault : ReplayFault) → done < input_limit → NextStops A fault version done rows tree b c y z → StoryStops A fault a c x z
  next_stops fault few (inl t) = unread fault (omega arith) t.0 t.1
  next_stops fault few (inr t) =
      subst (λ (f : ReplayFault). StoryStops A f a c x z) (sym t.3) (unwritten few t.0 t.1 t.2 t.4)

  -- the script has ended
  pub ends_whole : (rows' : List Row) (new : StoredTree) → done ≤ input_limit → TellsNext A false version rows rows' tree new b c y z
      → IsStory A a c x z
  ends_whole rows' new few t = (
    version,
    (
      steps,
      make_script version a b c tree done steps r.reads few,
      are_read version a b c tree done steps r.reads t.0 t.1,
      kept t.2,
    ),
  )

  -- what stopped behind the last line that a script may have
  pub end_stops : (fault : ReplayFault) → done ≡ input_limit → EndStops fault version b c → z ≡ y → StoryStops A fault a c x z
  end_stops fault last t same =
      unread fault (omega (arith, last))
      (subst (λ (n : ℕ). StopsBehind A version n fault [] b c) (sym last) (stops_at_end A version fault b c t)) same

-- the head line was not read
pub head_stops : (A : Type 0) (fault : ReplayFault) (a b x : Option (List ℕ)) → HeadStops fault a b → StoryStops A fault a b x x
head_stops A Head a b x t = (t, refl)
head_stops A Read a b x t = inr (t, refl)
head_stops A (Line n) a b x t = absurd t
head_stops A (Pattern n) a b x t = absurd t
head_stops A Truncated a b x t = absurd t
head_stops A NoMemory a b x t = absurd t
head_stops A Write a b x t = absurd t
