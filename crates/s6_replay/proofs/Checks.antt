-- A check that goes on by one step, stops or ends.
use Rattle.std.proofs.Common.{◌≡◌, ℕ, ◌+◌, ◌*◌, ◌<◌, ◌≤◌, List, [], ◌∷◌, ◌++◌, map, refl, sym, ap, ◌∙◌, subst}
use Rattle.std.proofs.Common.{arith, inl, inr}
use Rattle.std.specs.Prelude.{Option}
use Rattle.std.specs.Io.KnownBytes.{IsAtEnd, Consumes}
use Rattle.std.proofs.KnownBytes.{Consumes-trans}
use Rattle.std.proofs.lemmas.List.{map-append, length-append}
use Rattle.tree_core.specs.Machine.{Outcome, new_machine}
use Rattle.tree_core.specs.Run.{outcome, outcomes, after_all}
use Rattle.tree_core.specs.StandsFor.{StoredTree, StandsFor}
use Rattle.s6_script.specs.Script.{Recorded, head_line, inputs_of, input_limit}
use Rattle.s6_replay.specs.ReadingStops.{StopsBehind}
use Rattle.s6_script.specs.ReplyText.{reply_text}
use Rattle.s6_replay.specs.Turn.{HeadStops, EndStops}
use Rattle.s6_replay.specs.Checking.{AreLegal, Checks, CheckStops, StopsLegal, ComparesStep, reply_of}
use Rattle.s6_script.specs.declared.version.Version.TheVariants.{Two}
use Rattle.s6_replay.specs.declared.checking.Compared.TheVariants.{Same, Other}
use Rattle.s6_replay.specs.declared.checked.Checked.TheVariants.{Legal, Differs}
use Rattle.s6_replay.specs.declared.fault.ReplayFault.{ReplayFault}
use Rattle.s6_replay.specs.declared.fault.ReplayFault.TheVariants.{Head, Line, Pattern, Truncated, Read, Write, NoMemory}
use Rattle.s6_replay.proofs.Steps.{ReadsTo, reads_more, reads_none, make_script, are_read, stops_after}
use Rattle.s6_replay.proofs.Steps.{all_more, inputs_more, outcomes_more, script_more, stops_at_end}

-- the check has come so far: the replies of these steps are the machine's
pub record ChecksTo {A : Type 0} (left left' : Option (List ℕ)) (tree : StoredTree) (done : ℕ) (steps : List (Recorded A)) : Type 0 where
  pub reads : ReadsTo Two left left' tree done steps
  pub legal : AreLegal steps

pub starts : (A : Type 0) (a b : Option (List ℕ)) (tree : StoredTree) → Consumes a b (head_line Two) → StandsFor tree new_machine
    → (steps : List (Recorded A)) × ChecksTo a b tree 0 steps
starts A a b tree read stands = ([], record { reads = reads_none Two a b tree read stands; legal = refl })

-- one legal step more
legal_more : {A : Type 0} (steps : List (Recorded A)) (s : Recorded A) → AreLegal steps
    → s.reply ≡ reply_of (after_all new_machine (inputs_of steps)) s.input → AreLegal (steps ++ s ∷ [])
legal_more {A} steps s legal same =
    let m = after_all new_machine (inputs_of steps) in
    map-append (λ (r : Recorded A). r.reply) steps (s ∷ [])
    ∙ ap (λ replies. replies ++ s.reply ∷ []) legal
    ∙ ap (λ reply. map (λ (o : Outcome A). reply_text o.reply) (outcomes new_machine (inputs_of steps)) ++ reply ∷ []) same
    ∙ sym (map-append (λ (o : Outcome A). reply_text o.reply) (outcomes new_machine (inputs_of steps)) (outcome m s.input ∷ []))
    ∙ ap (map (λ (o : Outcome A). reply_text o.reply)) (sym (outcomes_more new_machine (inputs_of steps) s.input))
    ∙ ap (λ inputs. map (λ (o : Outcome A). reply_text o.reply) (outcomes new_machine inputs)) (sym (inputs_more steps s))

module _ (A : Type 0) (a b c : Option (List ℕ)) (tree new : StoredTree) (done : ℕ) (steps : List (Recorded A))
    (r : ChecksTo a b tree done steps) where
  pub goes_on : ComparesStep A Same tree new b c → (all : List (Recorded A)) × ChecksTo a c new (done + 1) all
  goes_on t =
      let given = t.3 (after_all new_machine (inputs_of steps)) r.reads.stands in (
        steps ++ t.0 ∷ [],
        record {
          reads = reads_more Two a b c tree new done steps t.0 r.reads t.1 t.2 given.0;
          legal = legal_more steps t.0 r.legal given.1;
        },
      )

  pub differs : done < input_limit → ComparesStep A Other tree new b c → Checks A (Differs (done * 2 + 3)) a c
  differs few t = (
    steps,
    (
      t.0,
      record {
        lines = all_more Two steps t.0 r.reads.lines t.1;
        few = omega (arith, few, r.reads.many, length-append steps (t.0 ∷ []));
      },
      subst (Consumes a c) (sym (script_more Two steps t.0)) (Consumes-trans a b c _ _ r.reads.read t.2),
      r.legal,
      t.3 (after_all new_machine (inputs_of steps)) r.reads.stands,
      omega (arith, r.reads.many),
    ),
  )

  pub ends_legal : done ≤ input_limit → Consumes b c [] × IsAtEnd c → Checks A (Legal done) a c
  ends_legal few t =
      (steps, make_script Two a b c tree done steps r.reads few, are_read Two a b c tree done steps r.reads t.0 t.1, r.legal, sym r.reads.many)

  stops_legal : (fault : ReplayFault) → done ≤ input_limit → StopsBehind A Two done fault [] b c → StopsLegal A fault a c
  stops_legal fault few t =
      (steps, make_script Two a b c tree done steps r.reads few, r.legal, stops_after Two a b c tree done steps r.reads fault t)

  pub stops : (fault : ReplayFault) → done ≤ input_limit → StopsBehind A Two done fault [] b c → CheckStops A fault a c
  stops (Line n) few t = stops_legal (Line n) few t
  stops (Pattern n) few t = stops_legal (Pattern n) few t
  stops Truncated few t = stops_legal Truncated few t
  stops Read few t = inl (stops_legal Read few t)
  stops NoMemory few t = stops_legal NoMemory few t
  stops Head few t = absurd t
  stops Write few t = absurd t

  pub end_stops : (fault : ReplayFault) → done ≡ input_limit → EndStops fault Two b c → CheckStops A fault a c
  end_stops fault last t =
      stops fault (omega (arith, last))
      (subst (λ (n : ℕ). StopsBehind A Two n fault [] b c) (sym last) (stops_at_end A Two fault b c t))

-- the head line was not read
pub head_stops : (A : Type 0) (fault : ReplayFault) (a b : Option (List ℕ)) → HeadStops fault a b → CheckStops A fault a b
head_stops A Head a b t = t Two
head_stops A Read a b t = inr t
head_stops A (Line n) a b t = absurd t
head_stops A (Pattern n) a b t = absurd t
head_stops A Truncated a b t = absurd t
head_stops A NoMemory a b t = absurd t
head_stops A Write a b t = absurd t
