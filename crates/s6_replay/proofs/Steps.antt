-- One step more of a script: what was read, where the machine is, and what was counted.
use Rattle.std.proofs.Common.{◌≡◌, ℕ, ◌+◌, ◌*◌, ◌^◌, ◌<◌, ◌≤◌, List, [], ◌∷◌, ◌++◌, length, refl, sym, ap, ◌∙◌, subst, append_assoc, append-nil}
use Rattle.std.proofs.Common.{arith, rules}
use Rattle.std.specs.Prelude.{Option}
use Rattle.std.specs.List.{flat_map, AllByRecursion}
use Rattle.std.specs.Io.KnownBytes.{Consumes, IsAtEnd}
use Rattle.std.proofs.KnownBytes.{Consumes-trans}
use Rattle.std.proofs.lemmas.List.{length-append, length-map, map-append}
use Rattle.tree_core.specs.declared.input.Input.{Input}
use Rattle.tree_core.specs.Machine.{Machine, Outcome, new_machine}
use Rattle.tree_core.specs.Run.{after, outcome, outcomes, after_all}
use Rattle.tree_core.specs.StandsFor.{StoredTree, StandsFor}
use Rattle.s6_script.specs.Script.{Recorded, HasLines, step_lines, script, head_line, inputs_of, input_limit}
use Rattle.s6_replay.specs.ReadingStops.{StopsBehind}
use Rattle.s6_replay.specs.ReadingStops.IsNoLine.{too_many}
use Rattle.s6_replay.specs.ReadingStops.Place.{at_input}
use Rattle.s6_replay.specs.Replay.{CountsOf, IsRead, MakeScript}
use Rattle.s6_replay.specs.Turn.{EndStops}
use Rattle.s6_replay.proofs.Places.{stops_behind}
use Rattle.s6_replay.specs.declared.counts.Counts.{Counts}
use Rattle.s6_script.specs.declared.version.Version.{Version}
use Rattle.s6_replay.specs.declared.fault.ReplayFault.{ReplayFault}
use Rattle.s6_replay.specs.declared.fault.ReplayFault.TheVariants.{Head, Line, Pattern, Truncated, Read, Write, NoMemory}

-- these steps were read, and their inputs done
pub record ReadsTo {A : Type 0} (version : Version) (left left' : Option (List ℕ)) (tree : StoredTree) (done : ℕ)
    (steps : List (Recorded A)) : Type 0 where
  pub lines : AllByRecursion (HasLines version) steps
  pub many : length steps ≡ done
  pub read : Consumes left left' (script version steps)
  pub stands : StandsFor tree (after_all new_machine (inputs_of steps))

-- what these inputs gave was counted, and the counts fit
pub record Counted {A : Type 0} (counts : Counts) (done : ℕ) (inputs : List (Input A)) : Type 0 where
  pub counted : CountsOf inputs counts
  pub events_fit : counts.events ≤ done * 2 ^ 64
  pub orders_fit : counts.orders ≤ done * 2 ^ 64

pub all_more : {A : Type 0} (version : Version) (steps : List (Recorded A)) (s : Recorded A) → AllByRecursion (HasLines version) steps
    → HasLines version s → AllByRecursion (HasLines version) (steps ++ s ∷ [])
all_more version [] s h one = (one, tt)
all_more version (x ∷ xs) s h one = (h.0, all_more version xs s h.1 one)

lines_more : {A : Type 0} (version : Version) (steps : List (Recorded A)) (s : Recorded A)
    → flat_map (step_lines version) (steps ++ s ∷ []) ≡ flat_map (step_lines version) steps ++ step_lines version s
lines_more version [] s = append-nil (step_lines version s)
lines_more version (x ∷ xs) s =
    ap (λ rest. step_lines version x ++ rest) (lines_more version xs s)
    ∙ sym (append_assoc (step_lines version x) (flat_map (step_lines version) xs) (step_lines version s))

pub script_more : {A : Type 0} (version : Version) (steps : List (Recorded A)) (s : Recorded A)
    → script version (steps ++ s ∷ []) ≡ script version steps ++ step_lines version s
script_more version steps s =
    ap (λ rest. head_line version ++ rest) (lines_more version steps s)
    ∙ sym (append_assoc (head_line version) (flat_map (step_lines version) steps) (step_lines version s))

pub inputs_more : {A : Type 0} (steps : List (Recorded A)) (s : Recorded A) → inputs_of (steps ++ s ∷ []) ≡ inputs_of steps ++ s.input ∷ []
inputs_more {A} steps s = map-append (λ (r : Recorded A). r.input) steps (s ∷ [])

pub inputs_many : {A : Type 0} (steps : List (Recorded A)) → length (inputs_of steps) ≡ length steps
inputs_many {A} steps = length-map steps (λ (r : Recorded A). r.input)

after_more : {A : Type 0} (m : Machine) (inputs : List (Input A)) (i : Input A) → after_all m (inputs ++ i ∷ []) ≡ after (after_all m inputs) i
after_more m [] i = refl
after_more m (x ∷ xs) i = after_more (after m x) xs i

pub outcomes_more : {A : Type 0} (m : Machine) (inputs : List (Input A)) (i : Input A)
    → outcomes m (inputs ++ i ∷ []) ≡ outcomes m inputs ++ outcome (after_all m inputs) i ∷ []
outcomes_more m [] i = refl
outcomes_more m (x ∷ xs) i = ap (λ rest. outcome m x ∷ rest) (outcomes_more (after m x) xs i)

-- one step more was read and done
pub reads_more : {A : Type 0} (version : Version) (a b c : Option (List ℕ)) (tree new : StoredTree) (done : ℕ) (steps : List (Recorded A))
    (s : Recorded A) → ReadsTo version a b tree done steps → HasLines version s → Consumes b c (step_lines version s)
    → StandsFor new (after (after_all new_machine (inputs_of steps)) s.input) → ReadsTo version a c new (done + 1) (steps ++ s ∷ [])
reads_more version a b c tree new done steps s r h read stands = record {
  lines = all_more version steps s r.lines h;
  many = omega (arith, length-append steps (s ∷ []), r.many);
  read = subst (Consumes a c) (sym (script_more version steps s)) (Consumes-trans a b c _ _ r.read read);
  stands = subst (StandsFor new) (sym (ap (after_all new_machine) (inputs_more steps s) ∙ after_more new_machine (inputs_of steps) s.input)) stands;
}

count_more : {X Y : Type 0} (f : X → List Y) (xs : List X) (x : X) → length (flat_map f (xs ++ x ∷ [])) ≡ length (flat_map f xs) + length (f x)
count_more f [] x = ap length (append-nil (f x)) ∙ omega arith
count_more f (y ∷ ys) x =
    omega (arith, length-append (f y) (flat_map f (ys ++ x ∷ [])), length-append (f y) (flat_map f ys), count_more f ys x)

-- what one input more gave was counted
pub counts_more : {A : Type 0} (counts more : Counts) (done events orders : ℕ) (steps : List (Recorded A)) (s : Recorded A)
    → Counted counts done (inputs_of steps) → events < 2 ^ 64 → orders < 2 ^ 64
    → events ≡ length (outcome (after_all new_machine (inputs_of steps)) s.input).events
    → orders ≡ length (outcome (after_all new_machine (inputs_of steps)) s.input).orders
    → more.inputs ≡ counts.inputs + 1 → more.events ≡ counts.events + events → more.orders ≡ counts.orders + orders
    → Counted more (done + 1) (inputs_of (steps ++ s ∷ []))
counts_more {A} counts more done events orders steps s c few_events few_orders is_events is_orders e0 e1 e2 =
    let inputs = inputs_of steps in
    let i = s.input in
    let given = outcomes_more new_machine inputs i in
    let more_events = count_more (λ (o : Outcome A). o.events) (outcomes new_machine inputs) (outcome (after_all new_machine inputs) i) in
    let more_orders = count_more (λ (o : Outcome A). o.orders) (outcomes new_machine inputs) (outcome (after_all new_machine inputs) i) in
    let counted : CountsOf (inputs ++ i ∷ []) more = record {
      input_count = omega (arith, e0, c.counted.input_count, length-append inputs (i ∷ []));
      event_count = rw given (omega (arith, e1, c.counted.event_count, is_events, more_events));
      order_count = rw given (omega (arith, e2, c.counted.order_count, is_orders, more_orders));
    } in
    record {
      counted = subst (λ (all : List (Input A)). CountsOf all more) (sym (inputs_more steps s)) counted;
      events_fit = omega (arith, e1, few_events, c.events_fit);
      orders_fit = omega (arith, e2, few_orders, c.orders_fit);
    }

-- before the first step
pub reads_none : {A : Type 0} (version : Version) (a b : Option (List ℕ)) (tree : StoredTree) → Consumes a b (head_line version)
    → StandsFor tree new_machine → ReadsTo {A = A} version a b tree 0 []
reads_none version a b tree read stands =
    record { lines = tt; many = refl; read = subst (Consumes a b) (sym (append-nil (head_line version))) read; stands = stands }

pub counts_none : {A : Type 0} (counts : Counts) → counts.inputs ≡ 0 → counts.events ≡ 0 → counts.orders ≡ 0 → Counted {A = A} counts 0 []
counts_none counts e0 e1 e2 = record {
  counted = record { input_count = e0; event_count = e1; order_count = e2 };
  events_fit = omega (arith, e1);
  orders_fit = omega (arith, e2);
}

module _ {A : Type 0} (version : Version) (a b c : Option (List ℕ)) (tree : StoredTree) (done : ℕ) (steps : List (Recorded A))
    (r : ReadsTo version a b tree done steps) where
  -- they make a script
  pub make_script : done ≤ input_limit → MakeScript version steps
  make_script few = record { lines = r.lines; few = omega (arith, few, r.many) }

  -- nothing is behind them
  pub are_read : Consumes b c [] → IsAtEnd c → IsRead version steps a c
  are_read none ended = record {
    read = subst (Consumes a c) (append-nil (script version steps)) (Consumes-trans a b c (script version steps) [] r.read none);
    ended = ended;
  }

  -- reading stopped in the next one
  pub stops_after : (fault : ReplayFault) → StopsBehind A version done fault [] b c
      → StopsBehind A version (length steps) fault (script version steps) a c
  stops_after fault t =
      subst (λ (n : ℕ). StopsBehind A version n fault (script version steps) a c) (sym r.many)
      (stops_behind A version done (script version steps) a b c r.read fault t)

-- there was something behind the last line, or the reader failed there
pub stops_at_end : (A : Type 0) (version : Version) (fault : ReplayFault) (b c : Option (List ℕ)) → EndStops fault version b c
    → StopsBehind A version input_limit fault [] b c
stops_at_end A version (Line n) b c t = (at_input, tt, t.0, (t.1.0, too_many refl refl t.1.1, t.1.2))
stops_at_end A version Read b c t =
    (at_input, tt, omega arith, ([], record { plain = search rules; within = omega arith }, λ _. refl, t))
stops_at_end A version Head b c t = absurd t
stops_at_end A version (Pattern n) b c t = absurd t
stops_at_end A version Truncated b c t = absurd t
stops_at_end A version NoMemory b c t = absurd t
stops_at_end A version Write b c t = absurd t
