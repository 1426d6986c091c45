-- A migration that goes on by one step, stops or ends.
use Rattle.std.proofs.Common.{◌≡◌, ℕ, ◌+◌, ◌<◌, ◌≤◌, List, [], ◌∷◌, ◌++◌, length, refl, sym, ap, ◌∙◌, subst, append-nil}
use Rattle.std.proofs.Common.{arith, inl, inr}
use Rattle.std.specs.Prelude.{Option}
use Rattle.std.specs.Io.KnownBytes.{Consumes, Appends}
use Rattle.std.proofs.KnownBytes.{Consumes-trans, Appends-trans}
use Rattle.std.proofs.lemmas.List.{length-append}
use Rattle.tree_core.specs.declared.input.Input.{Input}
use Rattle.tree_core.specs.Machine.{Machine, new_machine}
use Rattle.tree_core.specs.Run.{after, after_all}
use Rattle.tree_core.specs.StandsFor.{StoredTree, StandsFor}
use Rattle.s6_script.specs.Spelling.{spelling}
use Rattle.s6_script.specs.Writing.{AppendsFront}
use Rattle.s6_replay.specs.Lines.{HasNoNewline}
use Rattle.s6_script.specs.Script.{Recorded, HasLines, head_line, step_lines, script, inputs_of, input_limit}
use Rattle.s6_replay.specs.ReadingStops.{StopsBehind}
use Rattle.s6_replay.specs.Turn.{HeadStops, EndStops}
use Rattle.s6_replay.specs.Migration.{recorded, recorded_step, recorded_script, RecordingStops, Records, RecordStops, Migrates, MigrateStops, StopsMigrating}
use Rattle.s6_replay.specs.declared.counts.Counts.{Counts}
use Rattle.s6_script.specs.declared.version.Version.TheVariants.{One, Two}
use Rattle.s6_replay.specs.declared.turn.Turn.TheVariants.{Done, End}
use Rattle.s6_replay.specs.declared.fault.ReplayFault.{ReplayFault}
use Rattle.s6_replay.specs.declared.fault.ReplayFault.TheVariants.{Head, Line, Pattern, Truncated, Read, Write, NoMemory}
use Rattle.s6_script.proofs.Fronts.{front_more}
use Rattle.s6_replay.proofs.Places.{whole_step}
use Rattle.s6_replay.proofs.Steps.{ReadsTo, Counted, reads_more, reads_none, counts_more, counts_none, make_script, are_read, stops_after}
use Rattle.s6_replay.proofs.Steps.{all_more, inputs_more, script_more, stops_at_end}

-- the migration has come so far: these steps were read, done, written and counted
pub record MigratesTo {A : Type 0} (left left' held held' : Option (List ℕ)) (tree : StoredTree) (done : ℕ)
    (counts : Counts) (steps : List (Recorded A)) : Type 0 where
  pub reads : ReadsTo One left left' tree done steps
  pub written : Appends held held' (recorded_script (inputs_of steps))
  pub counts_fit : Counted counts done (inputs_of steps)

recorded_more : {A : Type 0} (m : Machine) (inputs : List (Input A)) (i : Input A)
    → recorded m (inputs ++ i ∷ []) ≡ recorded m inputs ++ recorded_step (after_all m inputs) i ∷ []
unfolding recorded
recorded_more m [] i = refl
recorded_more m (x ∷ xs) i = ap (λ rest. recorded_step m x ∷ rest) (recorded_more (after m x) xs i)

text_more : {A : Type 0} (steps : List (Recorded A)) (s : Recorded A)
    → recorded_script (inputs_of (steps ++ s ∷ []))
    ≡ recorded_script (inputs_of steps) ++ step_lines Two (recorded_step (after_all new_machine (inputs_of steps)) s.input)
text_more steps s =
    ap recorded_script (inputs_more steps s)
    ∙ ap (script Two) (recorded_more new_machine (inputs_of steps) s.input)
    ∙ script_more Two (recorded new_machine (inputs_of steps)) (recorded_step (after_all new_machine (inputs_of steps)) s.input)

pub starts : (A : Type 0) (a b x y : Option (List ℕ)) (tree : StoredTree) (counts : Counts) → Consumes a b (head_line One)
    → Appends x y (head_line Two) → StandsFor tree new_machine → counts.inputs ≡ 0 → counts.events ≡ 0 → counts.orders ≡ 0
    → (steps : List (Recorded A)) × MigratesTo a b x y tree 0 counts steps
unfolding recorded
starts A a b x y tree counts read written stands e0 e1 e2 = (
  [],
  record {
    reads = reads_none One a b tree read stands;
    written = subst (Appends x y) (sym (append-nil (head_line Two))) written;
    counts_fit = counts_none counts e0 e1 e2;
  },
)

-- an input was read and not recorded
pub record_stops : (A : Type 0) (fault : ReplayFault) (before : ℕ) (tree : StoredTree) (s : Recorded A) (b c y z : Option (List ℕ))
    → before < input_limit → HasLines One s → HasNoNewline (spelling s.input) → Consumes b c (step_lines One s)
    → RecordingStops fault tree s.input y z → RecordStops A fault before tree b c y z
record_stops A NoMemory before tree s b c y z few h plain read t = inl (whole_step One before s b c few h plain read, t)
record_stops A Write before tree s b c y z few h plain read t = inr (s, h, read, refl, t)
record_stops A Head before tree s b c y z few h plain read t = absurd t
record_stops A (Line n) before tree s b c y z few h plain read t = absurd t
record_stops A (Pattern n) before tree s b c y z few h plain read t = absurd t
record_stops A Truncated before tree s b c y z few h plain read t = absurd t
record_stops A Read before tree s b c y z few h plain read t = absurd t

module _ (A : Type 0) (a b c x y z : Option (List ℕ)) (tree new : StoredTree) (done : ℕ) (counts : Counts)
    (steps : List (Recorded A)) (r : MigratesTo a b x y tree done counts steps) where
  pub goes_on : (events orders : ℕ) (more : Counts) → Records A (Done events orders) tree new b c y z
      → more.inputs ≡ counts.inputs + 1 → more.events ≡ counts.events + events → more.orders ≡ counts.orders + orders
      → (all : List (Recorded A)) × MigratesTo a c x z new (done + 1) more all
  goes_on events orders more t e0 e1 e2 =
      let s = t.0 in
      let step = t.3.2 (after_all new_machine (inputs_of steps)) r.reads.stands in (
        steps ++ s ∷ [],
        record {
          reads = reads_more One a b c tree new done steps s r.reads t.1 t.2 step.stands;
          written = subst (Appends x z) (sym (text_more steps s)) (Appends-trans x y z _ _ r.written step.written);
          counts_fit = counts_more counts more done events orders steps s r.counts_fit t.3.0 t.3.1 step.event_count step.order_count e0 e1 e2;
        },
      )

  stops_migrating : (fault : ReplayFault) → done ≤ input_limit → StopsBehind A One done fault [] b c → z ≡ y → StopsMigrating A fault a c x z
  stops_migrating fault few t same = (
    steps,
    make_script One a b c tree done steps r.reads few,
    subst (λ (h : Option (List ℕ)). Appends x h (recorded_script (inputs_of steps))) (sym same) r.written,
    stops_after One a b c tree done steps r.reads fault t,
  )

  unread : (fault : ReplayFault) → done ≤ input_limit → StopsBehind A One done fault [] b c → z ≡ y → MigrateStops A fault a c x z
  unread (Line n) few t same = stops_migrating (Line n) few t same
  unread (Pattern n) few t same = stops_migrating (Pattern n) few t same
  unread Truncated few t same = stops_migrating Truncated few t same
  unread Read few t same = inl (stops_migrating Read few t same)
  unread NoMemory few t same = stops_migrating NoMemory few t same
  unread Head few t same = absurd t
  unread Write few t same = absurd t

  -- the input was read, and some of its lines were written
  unwritten : done < input_limit → (s : Recorded A) → HasLines One s → Consumes b c (step_lines One s)
      → RecordingStops Write tree s.input y z → MigrateStops A Write a c x z
  unwritten few s h read t = (
    steps ++ s ∷ [],
    record {
      lines = all_more One steps s r.reads.lines h;
      few = omega (arith, few, length-append steps (s ∷ []), r.reads.many);
    },
    subst (Consumes a c) (sym (script_more One steps s)) (Consumes-trans a b c _ _ r.reads.read read),
    subst (AppendsFront x z) (sym (text_more steps s))
        (front_more x y z (recorded_script (inputs_of steps)) _ r.written (t (after_all new_machine (inputs_of steps)) r.reads.stands)),
  )

  -- a step that was not recorded
  pub step_stops : (fault : ReplayFault) → done < input_limit → RecordStops A fault done tree b c y z → MigrateStops A fault a c x z
  step_stops fault few (inl t) = unread fault (omega arith) t.0 t.1
  step_stops fault few (inr t) =
      subst (λ (f : ReplayFault). MigrateStops A f a c x z) (sym t.3) (unwritten few t.0 t.1 t.2 t.4)

  pub ends_whole : done ≤ input_limit → Records A End tree new b c y z → Migrates A counts a c x z
  ends_whole few t = (
    steps,
    make_script One a b c tree done steps r.reads few,
    are_read One a b c tree done steps r.reads t.0 t.1,
    subst (λ (h : Option (List ℕ)). Appends x h (recorded_script (inputs_of steps))) (sym t.2) r.written,
    r.counts_fit.counted,
  )

  pub end_stops : (fault : ReplayFault) → done ≡ input_limit → EndStops fault One b c → z ≡ y → MigrateStops A fault a c x z
  end_stops fault last t same =
      unread fault (omega (arith, last))
      (subst (λ (n : ℕ). StopsBehind A One n fault [] b c) (sym last) (stops_at_end A One fault b c t)) same

-- the head line was not read
pub head_stops : (A : Type 0) (fault : ReplayFault) (a b x : Option (List ℕ)) → HeadStops fault a b → MigrateStops A fault a b x x
head_stops A Head a b x t = (t One, refl)
head_stops A Read a b x t = inr (t, refl)
head_stops A (Line n) a b x t = absurd t
head_stops A (Pattern n) a b x t = absurd t
head_stops A Truncated a b x t = absurd t
head_stops A NoMemory a b x t = absurd t
head_stops A Write a b x t = absurd t

-- the head line was read, and none was written
pub head_unwritten : (A : Type 0) (a b x y : Option (List ℕ)) → Consumes a b (head_line One) → AppendsFront x y (head_line Two)
    → MigrateStops A Write a b x y
unfolding recorded
head_unwritten A a b x y read some = (
  [],
  record { lines = tt; few = omega arith },
  subst (Consumes a b) (sym (append-nil (head_line One))) read,
  subst (AppendsFront x y) (sym (append-nil (head_line Two))) some,
)
