-- The marks of each service form a word of the event grammar.
use Rattle.std.proofs.Common.{◌≡◌, refl, sym, ap, subst, ◌∙◌, ℕ, List, [], ◌∷◌, ◌++◌, Bool, true, false, cond, fold, append-nil, rules}
use Rattle.std.specs.Prelude.{Option, Some, None}
use Rattle.std.proofs.lemmas.Grind.{flat_map-append}
use Rattle.std.proofs.lemmas.List.Sums.{fold-append}
use Rattle.s6_events.specs.declared.mark.Mark.{Mark}
use Rattle.s6_events.specs.declared.mark.Mark.TheVariants.{SupervisorEnded}
use Rattle.servicedir.specs.declared.config.Config.{Config}
use Rattle.supervise_core.specs.declared.change.Change.TheVariants.{Control, Fire}
use Rattle.supervise_core.specs.declared.chart_state.ChartState.{ChartState}
use Rattle.supervise_core.specs.ChartState.{no_move}
use Rattle.supervise_core.specs.Chart.{control_move, fire_move, with_activity}
use Rattle.supervise_core.specs.EventGrammar.{BeginsWord, step_on, walk, place_of}
use Rattle.supervise_core.proofs.Grammar.{Walks, walks_changed}
use Rattle.supervise_core.proofs.GrammarWords.{begins_word}
use Rattle.svscan_core.specs.declared.entry.Entry.{Entry}
use Rattle.svscan_core.specs.declared.entry.ScanOrder.{ScanOrder}
use Rattle.svscan_core.specs.declared.entry.ScanOrder.TheVariants.{Nuke, Terminate}
use Rattle.svscan_core.specs.Listing.{has_entry, listed_config}
use Rattle.svscan_core.specs.Scan.{with_read_config, after_look}
use Rattle.svscan_core.specs.Work.{command_move, leave_letters}
use Rattle.tree_core.specs.declared.input.Input.{Input}
use Rattle.tree_core.specs.Machine.{new_machine}
use Rattle.tree_core.specs.Run.{after_all}
use Rattle.tree_core.specs.Taken.{StepTaken, steps_taken, marks_in, marks_given}
use Rattle.tree_core.proofs.OwnScan.{begins}
use Rattle.tree_core.proofs.OwnWork.{Did, move_of}
use Rattle.tree_core.proofs.OwnWork.Did.{takes, obeys, looks}
use Rattle.tree_core.proofs.OwnSteps.{Law, Steps, Keeps, marks_by, kept}
use Rattle.tree_core.proofs.OwnSteps.Keeps.{unborn, living, dropped}

-- after a step its marks stand behind those before
pub marks_more : {A : Type 0} (sid : ℕ) (ts : List (StepTaken A)) (t : StepTaken A) (marks : List Mark) → marks_in sid t ≡ marks
    → marks_given sid (ts ++ t ∷ []) ≡ marks_given sid ts ++ marks
marks_more sid ts t marks e = flat_map-append (marks_in sid) ts (t ∷ [])
    ∙ ((λ i. marks_given sid ts ++ append-nil (marks_in sid t) i) ∙ ap (λ ms. marks_given sid ts ++ ms) e)

walks_commanded : (order : ScanOrder) (now : ℕ) (c : ChartState) → Walks c (command_move order now c)
walks_commanded Nuke now c = by c.active
  where
    by : (b : Bool) → Walks c (cond b (no_move c) (control_move leave_letters now c))
    by true = refl
    by false = walks_changed (Control (record { items = leave_letters })) now c
walks_commanded Terminate now c =
    ap (λ p. walk p (command_move Terminate now c).marks) (same_place now c)
    ∙ walks_changed (Control (record { items = leave_letters })) now (with_activity false now c)
  where
    same_place : (now : ℕ) (c : ChartState) → place_of c ≡ place_of (with_activity false now c)
    same_place now c = search rules

walks_look : (listing : List Entry) (now : ℕ) (c : ChartState) → place_of c ≡ place_of (after_look listing now c)
walks_look listing now c = same_active (has_entry listing c.name) now c
    ∙ same_config (listed_config listing c.name) (with_activity (has_entry listing c.name) now c)
  where
    same_active : (active : Bool) (now : ℕ) (c : ChartState) → place_of c ≡ place_of (with_activity active now c)
    same_active active now c = search rules

    same_config : (found : Option Config) (c : ChartState) → place_of c ≡ place_of (with_read_config found c)
    same_config None c = refl
    same_config (Some config) c = refl

walks_did : (did : Did) (now : ℕ) (c : ChartState) → Walks c (move_of did now c)
walks_did (takes None) now c = refl
walks_did (takes (Some change)) now c = walks_changed change now c
walks_did (obeys order) now c = walks_commanded order now c
walks_did (looks listing) now c = ap Some (walks_look listing now c)

walks_both : (did : Did) (now : ℕ) (c : ChartState)
    → walk (place_of c) (marks_by did now c) ≡ Some (place_of (move_of did now (fire_move now c).chart).chart)
walks_both did now c =
    fold-append step_on (Some (place_of c)) (fire_move now c).marks (move_of did now (fire_move now c).chart).marks
    ∙ (ap (λ p. fold step_on p (move_of did now (fire_move now c).chart).marks) (walks_changed Fire now c)
    ∙ walks_did did now (fire_move now c).chart)

walks_begins : (sid : ℕ) (name : List ℕ) (config : Config)
    → walk SupervisorEnded (begins sid name config).marks ≡ Some (place_of (begins sid name config).chart)
walks_begins sid name config = search rules

-- the marks so far lead to where the service stands
abbrev spelling_law : (A : Type 0) → ℕ → Law A
spelling_law A sid = record {
  Unborn = λ ts. marks_given sid ts ≡ [];
  Living = λ ts clock c. walk SupervisorEnded (marks_given sid ts) ≡ Some (place_of c);
  Dropped = λ ts. BeginsWord (marks_given sid ts);
  Check = λ ts t. Unit;
}

no_marks_more : {A : Type 0} (sid : ℕ) (ts : List (StepTaken A)) (t : StepTaken A) → marks_in sid t ≡ []
    → marks_given sid (ts ++ t ∷ []) ≡ marks_given sid ts
no_marks_more sid ts t e = marks_more sid ts t [] e ∙ append-nil (marks_given sid ts)

spelling_steps : (A : Type 0) (sid : ℕ) → Steps A sid (spelling_law A sid)
spelling_steps A sid = record {
  none_yet = λ ts t h shows. (tt, no_marks_more sid ts t shows.marks_shown ∙ h);
  born = λ ts t now name config at h shows. (
    tt,
    ap (walk SupervisorEnded) (marks_more sid ts t (begins sid name config).marks shows.marks_shown
        ∙ ap (λ ms. ms ++ (begins sid name config).marks) h) ∙ walks_begins sid name config,
  );
  still = λ ts t clock c h shows. (tt, ap (walk SupervisorEnded) (no_marks_more sid ts t shows.marks_shown) ∙ h);
  moves = λ ts t clock now c did at later same h fresh shows. (
    tt,
    ap (walk SupervisorEnded) (marks_more sid ts t (marks_by did now c) shows.marks_shown)
        ∙ (fold-append step_on (Some SupervisorEnded) (marks_given sid ts) (marks_by did now c)
        ∙ (ap (λ p. fold step_on p (marks_by did now c)) h ∙ walks_both did now c)),
  );
  ends = λ ts clock c h. begins_word (marks_given sid ts) (place_of c) h;
  none_more = λ ts t h shows. (tt, subst BeginsWord (sym (no_marks_more sid ts t shows.marks_shown)) h);
}

no_word : BeginsWord []
no_word = begins_word [] SupervisorEnded refl

pub spells : {A : Type 0} (inputs : List (Input A)) (sid : ℕ) → BeginsWord (marks_given sid (steps_taken inputs))
spells {A} inputs sid = by (kept sid (spelling_law A sid) (spelling_steps A sid) refl no_word inputs)
  where
    by : Keeps A sid (spelling_law A sid) (steps_taken inputs) (after_all new_machine inputs) → BeginsWord (marks_given sid (steps_taken inputs))
    by (unborn below none h) = subst BeginsWord (sym h) no_word
    by (living c lower one same h) = begins_word (marks_given sid (steps_taken inputs)) (place_of c) h
    by (dropped lower none h) = h
