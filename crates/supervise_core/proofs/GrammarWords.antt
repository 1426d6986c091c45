-- Marks that each may come after the ones before them are the beginning of a word.
use Rattle.std.proofs.Common.{subst, ◌≡◌, refl, sym, ap, ◌∙◌, List, [], ◌∷◌, ◌++◌, Bool, true, false, Option, None, Some, fold, rules, ℕ}
use Rattle.std.proofs.lemmas.List.Sums.{fold-append}
use Rattle.s6_events.specs.declared.mark.Mark.{Mark}
use Rattle.s6_events.specs.declared.mark.Mark.TheVariants.{SupervisorStarted, Spawned, Ready, Died, FinishDone, PermanentFailure, SupervisorEnded}
use Rattle.supervise_core.specs.EventGrammar.{Ran, perhaps, spell_runs, spell, BeginsWord, LeadsTo, next_place, step_on, walk, place_of}
use Rattle.supervise_core.specs.declared.change.Change.{Change}
use Rattle.supervise_core.specs.declared.chart_state.ChartState.{ChartState}
use Rattle.supervise_core.specs.declared.out.Out.{Out}
use Rattle.supervise_core.specs.Chart.{changed_by}
use Rattle.supervise_core.specs.Moves.{begin_move}
use Rattle.supervise_core.specs.MatchesMove.{MatchesMove}
use Rattle.supervise_core.proofs.Grammar.{walks_changed}

-- how the rest of a word goes on: whether the present run becomes ready and fails for good, and the runs and supervisors after it
record GoesOn : Type 0 where
  became_ready : Bool
  failed_for_good : Bool
  runs : List Ran
  supervisors : List (List Ran)

-- the rest of a word from a place on
abbrev rest_from : Mark → GoesOn → List Mark
rest_from SupervisorStarted g = []
rest_from Spawned g = perhaps g.became_ready Ready
    (Died ∷ perhaps g.failed_for_good PermanentFailure (FinishDone ∷ spell_runs g.runs (SupervisorEnded ∷ spell g.supervisors)))
rest_from Ready g = Died ∷ perhaps g.failed_for_good PermanentFailure (FinishDone ∷ spell_runs g.runs (SupervisorEnded ∷ spell g.supervisors))
rest_from Died g = perhaps g.failed_for_good PermanentFailure (FinishDone ∷ spell_runs g.runs (SupervisorEnded ∷ spell g.supervisors))
rest_from PermanentFailure g = FinishDone ∷ spell_runs g.runs (SupervisorEnded ∷ spell g.supervisors)
rest_from FinishDone g = spell_runs g.runs (SupervisorEnded ∷ spell g.supervisors)
rest_from SupervisorEnded g = spell g.supervisors

-- how it goes on from the place before a mark
abbrev before : Mark → Mark → GoesOn → GoesOn
before SupervisorEnded SupervisorStarted g = record g { supervisors = g.runs ∷ g.supervisors }
before FinishDone Spawned g = record g { runs = record { became_ready = g.became_ready; failed_for_good = g.failed_for_good } ∷ g.runs }
before FinishDone SupervisorEnded g = record g { runs = [] }
before Spawned Ready g = record g { became_ready = true }
before Spawned Died g = record g { became_ready = false }
before Died PermanentFailure g = record g { failed_for_good = true }
before Died FinishDone g = record g { failed_for_good = false }
before _ _ g = g

one_more : (place mark after : Mark) (g : GoesOn) → next_place place mark ≡ Some after
    → mark ∷ rest_from after g ≡ rest_from place (before place mark g)
one_more place mark after g h = search rules

-- marks from a place on, with something after them, are the rest of a word from there
record GoesOnBy (place : Mark) (marks : List Mark) : Type 0 where
  rest : List Mark
  goes_on : GoesOn
  spelled : marks ++ rest ≡ rest_from place goes_on

-- nothing more, of no run
abbrev nothing_more : GoesOn
nothing_more = record { became_ready = false; failed_for_good = false; runs = []; supervisors = [] }

-- a walk that fell off goes nowhere
fallen : (marks : List Mark) (q : Mark) → fold step_on None marks ≡ Some q → ⊥
fallen [] q h = search rules
fallen (mark ∷ marks) q h = fallen marks q h

-- one mark more, where the marks after it go on from each place that they lead from
goes_on_next : (mark : Mark) (marks : List Mark) (place q : Mark) (next : Option Mark) → next_place place mark ≡ next
    → fold step_on next marks ≡ Some q → ((after : Mark) → walk after marks ≡ Some q → GoesOnBy after marks) → GoesOnBy place (mark ∷ marks)
goes_on_next mark marks place q None at h later = absurd (fallen marks q h)
goes_on_next mark marks place q (Some after) at h later = record {
  rest = (later after h).rest;
  goes_on = before place mark (later after h).goes_on;
  spelled = ap (λ ms. mark ∷ ms) (later after h).spelled ∙ one_more place mark after (later after h).goes_on at;
}

goes_on_from : (marks : List Mark) (place q : Mark) → walk place marks ≡ Some q → GoesOnBy place marks
goes_on_from [] place q h = record { rest = rest_from place nothing_more; goes_on = nothing_more; spelled = refl }
goes_on_from (mark ∷ marks) place q h =
    goes_on_next mark marks place q (next_place place mark) refl h (λ after lead. goes_on_from marks after q lead)

-- marks that lead from before the first s to some place are the beginning of a word
pub begins_word : (marks : List Mark) (q : Mark) → walk SupervisorEnded marks ≡ Some q → BeginsWord marks
begins_word marks q h =
    let word : GoesOnBy SupervisorEnded marks = goes_on_from marks SupervisorEnded q h in
    record { rest = word.rest; supervisors = word.goes_on.supervisors; spelled = word.spelled }

-- the marks of a change lead on from where the service stood
pub leads_on : (change : Change) (now : ℕ) (c after : ChartState) (marks : List Mark)
    → after ≡ (changed_by change now c).chart → LeadsTo marks c → LeadsTo (marks ++ (changed_by change now c).marks) after
leads_on change now c after marks chart leads =
    let place : walk SupervisorEnded (marks ++ (changed_by change now c).marks) ≡ Some (place_of after) =
    fold-append step_on (Some SupervisorEnded) marks (changed_by change now c).marks
    ∙ (ap (λ p. fold step_on p (changed_by change now c).marks) leads.place
    ∙ (walks_changed change now c ∙ ap (λ (x : ChartState). Some (place_of x)) (sym chart))) in
    record { word = begins_word (marks ++ (changed_by change now c).marks) (place_of after) place; place = place }

-- so do those that its answer has
pub leads_after : (change : Change) (now : ℕ) (c after : ChartState) (out : Out) (marks : List Mark)
    → MatchesMove (changed_by change now c) after out → LeadsTo marks c → LeadsTo (marks ++ out.events.items) after
leads_after change now c after out marks gives leads =
    subst (λ ms. LeadsTo (marks ++ ms) after) (sym gives.marks) (leads_on change now c after marks gives.chart leads)

walks_begin : (c : ChartState) → walk SupervisorEnded (begin_move c).marks ≡ Some (place_of (begin_move c).chart)
walks_begin c = search rules

-- the marks of a supervisor that begins lead to where its service stands
pub leads_begun : (c after : ChartState) (out : Out) → MatchesMove (begin_move c) after out → LeadsTo out.events.items after
leads_begun c after out gives =
    let place : walk SupervisorEnded out.events.items ≡ Some (place_of after) =
    ap (λ ms. walk SupervisorEnded ms) gives.marks ∙ (walks_begin c ∙ ap (λ (x : ChartState). Some (place_of x)) (sym gives.chart)) in
    record { word = begins_word out.events.items (place_of after) place; place = place }
