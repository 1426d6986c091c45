-- A replay that goes on by one step, stops or ends.
use Rattle.std.proofs.Common.{◌≡◌, ℕ, ◌+◌, ◌<◌, ◌≤◌, List, [], ◌∷◌, ◌++◌, length, refl, sym, ap, ◌∙◌, subst, append_assoc, append-nil}
use Rattle.std.proofs.Common.{arith, inl, inr}
use Rattle.std.specs.Prelude.{Option}
use Rattle.std.specs.Io.KnownBytes.{Consumes, Appends}
use Rattle.std.proofs.KnownBytes.{Consumes-trans, Appends-trans, Appends-nil}
use Rattle.tree_core.specs.declared.input.Input.{Input}
use Rattle.tree_core.specs.Machine.{Machine, new_machine}
use Rattle.tree_core.specs.Run.{after, outcome, outcomes, after_all}
use Rattle.tree_core.specs.StandsFor.{StoredTree, StandsFor}
use Rattle.s6_script.specs.Spelling.{spelling}
use Rattle.s6_script.specs.Writing.{AppendsFront}
use Rattle.s6_replay.specs.Lines.{HasNoNewline}
use Rattle.s6_script.specs.Script.{Recorded, HasLines, head_line, step_lines, inputs_of, input_limit}
use Rattle.s6_replay.specs.ReadingStops.{StopsBehind}
use Rattle.s6_replay.specs.Replay.{IsWhole, Stops, StopsReading, Written, transcript}
use Rattle.s6_replay.specs.Transcript.{block, blocks}
use Rattle.s6_replay.specs.Turn.{Answers, AnswerStops, HeadStops, Turns, TurnStops, EndStops}
use Rattle.s6_replay.specs.declared.counts.Counts.{Counts}
use Rattle.s6_script.specs.declared.version.Version.{Version}
use Rattle.s6_replay.specs.declared.fault.ReplayFault.{ReplayFault}
use Rattle.s6_replay.specs.declared.fault.ReplayFault.TheVariants.{Head, Line, Pattern, Truncated, Read, Write, NoMemory}
use Rattle.s6_replay.specs.declared.turn.Turn.TheVariants.{Done, End}
use Rattle.s6_replay.proofs.Places.{whole_step}
use Rattle.s6_replay.proofs.Steps.{ReadsTo, Counted, reads_more, reads_none, counts_more, counts_none, make_script, are_read, stops_after}
use Rattle.s6_replay.proofs.Steps.{inputs_many, inputs_more, script_more, stops_at_end}

-- the replay has come so far: these steps were read, done, printed and counted
pub record RunsTo {A : Type 0} (version : Version) (left left' held held' : Option (List ℕ)) (tree : StoredTree) (done : ℕ)
    (counts : Counts) (steps : List (Recorded A)) : Type 0 where
  pub reads : ReadsTo version left left' tree done steps
  pub written : Appends held held' (transcript (inputs_of steps))
  pub counts_fit : Counted counts done (inputs_of steps)

blocks_more : {A : Type 0} (n : ℕ) (m : Machine) (inputs : List (Input A)) (i : Input A) (k : ℕ) → k ≡ n + length inputs
    → blocks n (outcomes m (inputs ++ i ∷ [])) ≡ blocks n (outcomes m inputs) ++ block k (outcome (after_all m inputs) i)
blocks_more n m [] i k e =
    let same : n ≡ k = omega (arith, e) in
    append-nil (block n (outcome m i)) ∙ ap (λ j. block j (outcome m i)) same
blocks_more n m (x ∷ xs) i k e =
    let next : k ≡ (n + 1) + length xs = omega (arith, e) in
    ap (λ rest. block n (outcome m x) ++ rest) (blocks_more (n + 1) (after m x) xs i k next)
    ∙ sym (append_assoc (block n (outcome m x)) (blocks (n + 1) (outcomes (after m x) xs)) (block k (outcome (after_all (after m x) xs) i)))

pub starts : (A : Type 0) (version : Version) (a b x : Option (List ℕ)) (tree : StoredTree) (counts : Counts)
    → Consumes a b (head_line version) → StandsFor tree new_machine → counts.inputs ≡ 0 → counts.events ≡ 0 → counts.orders ≡ 0
    → (steps : List (Recorded A)) × RunsTo version a b x x tree 0 counts steps
starts A version a b x tree counts read stands e0 e1 e2 = (
  [],
  record {
    reads = reads_none version a b tree read stands;
    written = Appends-nil x;
    counts_fit = counts_none counts e0 e1 e2;
  },
)

module _ (A : Type 0) (version : Version) (a b c x y z : Option (List ℕ)) (tree new : StoredTree) (done : ℕ) (counts : Counts)
    (steps : List (Recorded A)) (r : RunsTo version a b x y tree done counts steps) where
  pub goes_on : (events orders : ℕ) (more : Counts) → Turns A (Done events orders) version done tree new b c y z
      → more.inputs ≡ counts.inputs + 1 → more.events ≡ counts.events + events → more.orders ≡ counts.orders + orders
      → (all : List (Recorded A)) × RunsTo version a c x z new (done + 1) more all
  goes_on events orders more t e0 e1 e2 =
      let s = t.0 in
      let inputs = inputs_of steps in
      let m = after_all new_machine inputs in
      let step : Answers events orders (done + 1) new y z (outcome m s.input) (after m s.input) = t.3.2 m r.reads.stands in
      let place : done + 1 ≡ 1 + length inputs = omega (arith, r.reads.many, inputs_many steps) in
      let text : transcript (inputs_of (steps ++ s ∷ [])) ≡ transcript inputs ++ block (done + 1) (outcome m s.input) =
      ap transcript (inputs_more steps s) ∙ blocks_more 1 new_machine inputs s.input (done + 1) place in (
        steps ++ s ∷ [],
        record {
          reads = reads_more version a b c tree new done steps s r.reads t.1 t.2 step.stands;
          written = subst (Appends x z) (sym text) (Appends-trans x y z _ _ r.written step.written);
          counts_fit = counts_more counts more done events orders steps s r.counts_fit t.3.0 t.3.1 step.event_count step.order_count e0 e1 e2;
        },
      )

  -- what stands written where nothing more was written
  kept : done ≤ input_limit → z ≡ y → Written version steps x z
  kept few same = (
    make_script version a b c tree done steps r.reads few,
    subst (λ (h : Option (List ℕ)). Appends x h (transcript (inputs_of steps))) (sym same) r.written,
  )

  -- reading stopped in the next step
  reading_stops : (fault : ReplayFault) → done ≤ input_limit → StopsBehind A version done fault [] b c → z ≡ y → StopsReading A fault a c x z
  reading_stops fault few t same = (version, (steps, kept few same, stops_after version a b c tree done steps r.reads fault t))

  pub unread : (fault : ReplayFault) → done ≤ input_limit → StopsBehind A version done fault [] b c → z ≡ y → Stops A fault a c x z
  unread (Line n) few t same = reading_stops (Line n) few t same
  unread (Pattern n) few t same = reading_stops (Pattern n) few t same
  unread Truncated few t same = reading_stops Truncated few t same
  unread Read few t same = inl (reading_stops Read few t same)
  unread NoMemory few t same = reading_stops NoMemory few t same
  unread Head few t same = absurd t
  unread Write few t same = absurd t

  unanswered : (fault : ReplayFault) → done < input_limit → (s : Recorded A) → HasLines version s → HasNoNewline (spelling s.input)
      → Consumes b c (step_lines version s) → AnswerStops fault (done + 1) tree s.input y z → Stops A fault a c x z
  unanswered NoMemory few s h plain read t =
      reading_stops NoMemory (omega arith) (whole_step version done s b c few h plain read) t
  unanswered Write few s h plain read t =
      let place : done + 1 ≡ length steps + 1 = omega (arith, r.reads.many) in (
        version,
        (
          steps,
          (
            s,
            (
              y,
              record {
                whole = (make_script version a b c tree done steps r.reads (omega arith), r.written);
                room = omega (arith, r.reads.many);
                line = h;
                read = subst (Consumes a c) (sym (script_more version steps s)) (Consumes-trans a b c _ _ r.reads.read read);
                some = subst (λ (k : ℕ). AppendsFront y z (block k (outcome (after_all new_machine (inputs_of steps)) s.input))) place
                    (t (after_all new_machine (inputs_of steps)) r.reads.stands);
              },
            ),
          ),
        ),
      )
  unanswered Head few s h plain read t = absurd t
  unanswered (Line n) few s h plain read t = absurd t
  unanswered (Pattern n) few s h plain read t = absurd t
  unanswered Truncated few s h plain read t = absurd t
  unanswered Read few s h plain read t = absurd t

  -- a turn that stopped
  pub turn_stops : (fault : ReplayFault) → done < input_limit → TurnStops A fault version done tree b c y z → Stops A fault a c x z
  turn_stops fault few (inl t) = unread fault (omega arith) t.0 t.1
  turn_stops fault few (inr t) = unanswered fault few t.0 t.1 t.2 t.3 t.4

  -- the script has ended
  pub ends_whole : done ≤ input_limit → Turns A End version done tree new b c y z → IsWhole A counts a c x z
  ends_whole few t = (version, (steps, kept few t.2, are_read version a b c tree done steps r.reads t.0 t.1, r.counts_fit.counted))

  -- what stopped behind the last line that a script may have
  pub end_stops : (fault : ReplayFault) → done ≡ input_limit → EndStops fault version b c → z ≡ y → Stops A fault a c x z
  end_stops fault last t same =
      unread fault (omega (arith, last))
      (subst (λ (n : ℕ). StopsBehind A version n fault [] b c) (sym last) (stops_at_end A version fault b c t)) same

-- the head line was not read
pub head_stops : (A : Type 0) (fault : ReplayFault) (a b x : Option (List ℕ)) → HeadStops fault a b → Stops A fault a b x x
head_stops A Head a b x t = (t, refl)
head_stops A Read a b x t = inr (t, refl)
head_stops A (Line n) a b x t = absurd t
head_stops A (Pattern n) a b x t = absurd t
head_stops A Truncated a b x t = absurd t
head_stops A NoMemory a b x t = absurd t
head_stops A Write a b x t = absurd t
