-- A run comes only after the pause, but for a letter u.
use Rattle.std.proofs.Common.{◌≡◌, refl, sym, ap, subst, ◌∙◌, ℕ, ◌+◌, ◌≤◌, List, [], ◌∷◌, ◌++◌, ◌||◌, Bool, true, false, cond, fold, arith, rules}
use Rattle.std.specs.Prelude.{Some, None}
use Rattle.std.specs.List.{list_any}
use Rattle.std.proofs.lemmas.List.Folds.{list_any-append}
use Rattle.std.proofs.lemmas.List.Sums.{fold-append}
use Rattle.s6_events.specs.declared.exit.Exit.{Exit}
use Rattle.s6_events.specs.declared.mark.Mark.{Mark}
use Rattle.servicedir.specs.declared.config.Config.{Config}
use Rattle.control_letters.specs.declared.control_letter.ControlLetter.{ControlLetter}
use Rattle.supervise_core.specs.declared.change.Change.{Change}
use Rattle.s6_events.specs.declared.report.Report.TheVariants.{Started, StartFailed, Notify, Death, FinishEnded}
use Rattle.supervise_core.specs.declared.change.Change.TheVariants.{Report, Control, Fire, SetConfig, SetActive}
use Rattle.supervise_core.specs.declared.chart_state.ChartState.{ChartState}
use Rattle.supervise_core.specs.ChartState.{Moved, no_move, is_starting}
use Rattle.supervise_core.specs.ControlLetters.{then_move}
use Rattle.supervise_core.specs.Chart.{started_move, start_failed_move, notify_move, death_move, finish_ended_move, control_move, letter_move}
use Rattle.supervise_core.specs.Chart.{fire_move, changed_by, with_activity}
use Rattle.svscan_core.specs.declared.entry.ScanOrder.{ScanOrder}
use Rattle.svscan_core.specs.declared.entry.ScanOrder.TheVariants.{Nuke, Terminate}
use Rattle.svscan_core.specs.Work.{command_move, leave_letters}
use Rattle.svscan_core.proofs.Truth.{second}
use Rattle.tree_core.specs.declared.input.Input.{Input}
use Rattle.tree_core.specs.Closing.{is_run}
use Rattle.tree_core.specs.Pause.{Past, no_past, past_with, past_with_step, past_of, has_paused, PausesAfterDeath}
use Rattle.tree_core.specs.Permanent.{wants_up}
use Rattle.tree_core.specs.Taken.{StepTaken, clock_in, marks_in, orders_in, change_in_step}
use Rattle.tree_core.proofs.OwnScan.{begins}
use Rattle.tree_core.proofs.OwnWork.{Did, move_of, told_of}
use Rattle.tree_core.proofs.OwnWork.Did.{takes, obeys, looks}
use Rattle.tree_core.proofs.OwnSteps.{Law, Steps, Shows, marks_by, orders_by, checked}
use Rattle.tree_core.proofs.Pacing.{Paced, RunsLate, paused_later, fire_paces, did_paces, did_runs}

-- a service that waits for its start is not told to have died
abbrev SameDeath : Past → ℕ → Moved → Type 0
SameDeath past now m = (fold (past_with now) past m.marks).last_death ≡ past.last_death

same_started : (past : Past) (generation pid now : ℕ) (c : ChartState) → SameDeath past now (started_move generation pid now c)
same_started past generation pid now c = search rules

same_start_failed : (past : Past) (generation now : ℕ) (c : ChartState) → SameDeath past now (start_failed_move generation now c)
same_start_failed past generation now c = search rules

same_notified : (past : Past) (generation : ℕ) (bytes : List ℕ) (now : ℕ) (c : ChartState) → SameDeath past now (notify_move generation bytes now c)
same_notified past generation bytes now c = search rules

same_death : (past : Past) (generation : ℕ) (exit : Exit) (now : ℕ) (c : ChartState) → is_starting c.phase ≡ true
    → SameDeath past now (death_move generation exit now c)
same_death past generation exit now c h = search (h, rules)

same_finish_ended : (past : Past) (generation : ℕ) (exit : Exit) (now : ℕ) (c : ChartState)
    → SameDeath past now (finish_ended_move generation exit now c)
same_finish_ended past generation exit now c = search rules

same_fire : (past : Past) (now : ℕ) (c : ChartState) → SameDeath past now (fire_move now c)
same_fire past now c = search rules

same_letter : (past : Past) (now : ℕ) (letter : ControlLetter) (c : ChartState) → SameDeath past now (letter_move now letter c)
same_letter past now letter c = search rules

same_letters : (past : Past) (now : ℕ) (letters : List ControlLetter) (m : Moved) → SameDeath past now m
    → SameDeath past now (fold (λ so_far letter. then_move (letter_move now letter) so_far) m letters)
same_letters past now [] m h = h
same_letters past now (letter ∷ letters) m h =
    same_letters past now letters (then_move (letter_move now letter) m)
    (ap (λ (p : Past). p.last_death) (fold-append (past_with now) past m.marks (letter_move now letter m.chart).marks)
    ∙ (same_letter (fold (past_with now) past m.marks) now letter m.chart ∙ h))

same_changed : (past : Past) (change : Change) (now : ℕ) (c : ChartState) → is_starting c.phase ≡ true
    → SameDeath past now (changed_by change now c)
same_changed past (Report (Started _ generation pid)) now c h = same_started past generation pid now c
same_changed past (Report (StartFailed _ generation)) now c h = same_start_failed past generation now c
same_changed past (Report (Notify _ generation bytes)) now c h = same_notified past generation bytes.items now c
same_changed past (Report (Death _ generation exit)) now c h = same_death past generation exit now c h
same_changed past (Report (FinishEnded _ generation exit)) now c h = same_finish_ended past generation exit now c
same_changed past (Control letters) now c h = same_letters past now letters.items (no_move c) refl
same_changed past Fire now c h = same_fire past now c
same_changed past (SetConfig config) now c h = refl
same_changed past (SetActive active) now c h = refl

same_commanded : (past : Past) (order : ScanOrder) (now : ℕ) (c : ChartState) → SameDeath past now (command_move order now c)
same_commanded past Nuke now c = by c.active
  where
    by : (b : Bool) → SameDeath past now (cond b (no_move c) (control_move leave_letters now c))
    by true = refl
    by false = same_letters past now leave_letters (no_move c) refl
same_commanded past Terminate now c = same_letters past now leave_letters (no_move (with_activity false now c)) refl

same_did : (past : Past) (did : Did) (now : ℕ) (c : ChartState) → is_starting c.phase ≡ true → SameDeath past now (move_of did now c)
same_did past (takes None) now c h = refl
same_did past (takes (Some change)) now c h = same_changed past change now c h
same_did past (obeys order) now c h = same_commanded past order now c
same_did past (looks listing) now c h = refl

-- a timer that starts a run leaves the service waiting for its start
fire_starting : (now : ℕ) (c : ChartState) → list_any is_run (fire_move now c).orders ≡ true → is_starting (fire_move now c).chart.phase ≡ true
fire_starting now c h = search (h, rules)

-- a timer and then an act
record PacesBoth (past : Past) (now : ℕ) (did : Did) (c : ChartState) : Type 0 where
  paced : Paced (fold (past_with now) past (marks_by did now c)) (move_of did now (fire_move now c).chart).chart
  bound : has_paused (now + 1000) (fold (past_with now) past (marks_by did now c)).last_death ≡ true
  runs : wants_up (told_of did) ≡ false → list_any is_run (orders_by did now c) ≡ true
      → has_paused now (fold (past_with now) past (marks_by did now c)).last_death ≡ true

both_pace : (past : Past) (now : ℕ) (did : Did) (c : ChartState) → Paced past c → has_paused (now + 1000) past.last_death ≡ true
    → PacesBoth past now did c
both_pace past now did c h bound =
    let first = fire_paces past now c h bound in
    let mid : Past = fold (past_with now) past (fire_move now c).marks in
    let after = did_paces (fold (past_with now) past (fire_move now c).marks) did now (fire_move now c).chart first.paces.paced first.paces.bound in
    let told : fold (past_with now) past (marks_by did now c)
    ≡ fold (past_with now) (fold (past_with now) past (fire_move now c).marks) (move_of did now (fire_move now c).chart).marks =
    fold-append (past_with now) past (fire_move now c).marks (move_of did now (fire_move now c).chart).marks in
    record {
      paced = subst (λ (p : Past). Paced p (move_of did now (fire_move now c).chart).chart) (sym told) after.paced;
      bound = subst (λ (p : Past). has_paused (now + 1000) p.last_death ≡ true) (sym told) after.bound;
      runs = λ k starts. subst (λ (p : Past). has_paused now p.last_death ≡ true) (sym told)
          (by (list_any is_run (fire_move now c).orders) refl k first.runs
          (did_runs (fold (past_with now) past (fire_move now c).marks) did now (fire_move now c).chart k first.paces.paced first.paces.bound)
          (sym (list_any-append is_run (fire_move now c).orders (move_of did now (fire_move now c).chart).orders) ∙ starts));
    }
  where
    by : (b : Bool) → list_any is_run (fire_move now c).orders ≡ b → wants_up (told_of did) ≡ false → RunsLate past now (fire_move now c)
        → RunsLate (fold (past_with now) past (fire_move now c).marks) now (move_of did now (fire_move now c).chart)
        → (list_any is_run (fire_move now c).orders || list_any is_run (move_of did now (fire_move now c).chart).orders) ≡ true
        → has_paused now (fold (past_with now) (fold (past_with now) past (fire_move now c).marks)
        (move_of did now (fire_move now c).chart).marks).last_death ≡ true
    by true e k first act starts =
        ap (has_paused now) (same_did (fold (past_with now) past (fire_move now c).marks) did now (fire_move now c).chart (fire_starting now c e))
        ∙ first e
    by false e k first act starts = act (second (list_any is_run (fire_move now c).orders) _ starts e)

-- a service keeps pace with what was told of it
record KeepsPace (A : Type 0) (sid : ℕ) (ts : List (StepTaken A)) (clock : ℕ) (c : ChartState) : Type 0 where
  paced : Paced (past_of sid ts) c
  bound : has_paused (clock + 1000) (past_of sid ts).last_death ≡ true

abbrev pause_law : (A : Type 0) → ℕ → Law A
pause_law A sid = record {
  Unborn = λ ts. (past_of sid ts).last_death ≡ None;
  Living = λ ts clock c. KeepsPace A sid ts clock c;
  Dropped = λ ts. Unit;
  Check = λ ts t. wants_up (change_in_step sid t) ≡ false → list_any is_run (orders_in sid t) ≡ true
      → has_paused (clock_in t) (past_of sid (ts ++ t ∷ [])).last_death ≡ true;
}

past_more : {A : Type 0} (sid : ℕ) (ts : List (StepTaken A)) (t : StepTaken A) (marks : List Mark) → marks_in sid t ≡ marks
    → past_of sid (ts ++ t ∷ []) ≡ fold (past_with (clock_in t)) (past_of sid ts) marks
past_more sid ts t marks e = fold-append (past_with_step sid) no_past ts (t ∷ []) ∙ ap (fold (past_with (clock_in t)) (past_of sid ts)) e

no_run_now : {X : Type 0} (b : Bool) → b ≡ false → b ≡ true → X
no_run_now b e h = cc

moves_pace : (A : Type 0) (sid : ℕ) (ts : List (StepTaken A)) (t : StepTaken A) (clock now : ℕ) (c : ChartState) (did : Did) → clock_in t ≡ now
    → clock ≤ now → KeepsPace A sid ts clock c
    → Shows A sid t (marks_by did now c) (orders_by did now c) (told_of did)
    → (wants_up (change_in_step sid t) ≡ false → list_any is_run (orders_in sid t) ≡ true
    → has_paused (clock_in t) (past_of sid (ts ++ t ∷ [])).last_death ≡ true)
    × KeepsPace A sid (ts ++ t ∷ []) now (move_of did now (fire_move now c).chart).chart
moves_pace A sid ts t clock now c did at later h shows =
    let both = both_pace (past_of sid ts) now did c h.paced
    (paused_later (clock + 1000) (now + 1000) (past_of sid ts).last_death (omega (arith, later)) h.bound) in
    let past : past_of sid (ts ++ t ∷ []) ≡ fold (past_with now) (past_of sid ts) (marks_by did now c) =
    past_more sid ts t (marks_by did now c) shows.marks_shown ∙ ap (λ n. fold (past_with n) (past_of sid ts) (marks_by did now c)) at in (
      (λ k starts. (λ i. has_paused (at i) (past i).last_death)
          ∙ both.runs (ap wants_up (sym shows.told_so) ∙ k) (ap (list_any is_run) (sym shows.orders_shown) ∙ starts)),
      record {
        paced = subst (λ (p : Past). Paced p (move_of did now (fire_move now c).chart).chart) (sym past) both.paced;
        bound = ap (λ (p : Past). has_paused (now + 1000) p.last_death) past ∙ both.bound;
      },
    )

begins_pace : (past : Past) (sid : ℕ) (now : ℕ) (name : List ℕ) (config : Config) → Paced past (begins sid name config).chart
begins_pace past sid now name config = search rules

begins_same : (past : Past) (sid now : ℕ) (name : List ℕ) (config : Config)
    → (fold (past_with now) past (begins sid name config).marks).last_death ≡ past.last_death
begins_same past sid now name config = search rules

pause_steps : (A : Type 0) (sid : ℕ) → Steps A sid (pause_law A sid)
pause_steps A sid = record {
  none_yet = λ ts t h shows. (
    (λ k starts. no_run_now (list_any is_run (orders_in sid t)) (ap (list_any is_run) shows.orders_shown) starts),
    ap (λ (p : Past). p.last_death) (past_more sid ts t [] shows.marks_shown) ∙ h,
  );
  born = λ ts t now name config at h shows.
      let none : (past_of sid (ts ++ t ∷ [])).last_death ≡ None =
      ap (λ (p : Past). p.last_death) (past_more sid ts t (begins sid name config).marks shows.marks_shown)
      ∙ (begins_same (past_of sid ts) sid (clock_in t) name config ∙ h) in (
        (λ k starts. ap (has_paused (clock_in t)) none),
        record { paced = begins_pace (past_of sid (ts ++ t ∷ [])) sid now name config; bound = ap (has_paused (now + 1000)) none },
      );
  still = λ ts t clock c h shows.
      let past : past_of sid (ts ++ t ∷ []) ≡ past_of sid ts = past_more sid ts t [] shows.marks_shown in (
        (λ k starts. no_run_now (list_any is_run (orders_in sid t)) (ap (list_any is_run) shows.orders_shown) starts),
        record {
          paced = subst (λ (p : Past). Paced p c) (sym past) h.paced;
          bound = ap (λ (p : Past). has_paused (clock + 1000) p.last_death) past ∙ h.bound;
        },
      );
  moves = λ ts t clock now c did at later same h fresh shows. moves_pace A sid ts t clock now c did at later h shows;
  ends = λ ts clock c h. tt;
  none_more = λ ts t h shows. ((λ k starts. no_run_now (list_any is_run (orders_in sid t)) (ap (list_any is_run) shows.orders_shown) starts), tt);
}

pub pauses_after_death : {A : Type 0} (inputs : List (Input A)) (input : Input A) (sid : ℕ) → PausesAfterDeath inputs input sid
pauses_after_death {A} inputs input sid = checked sid (pause_law A sid) (pause_steps A sid) refl tt inputs input
