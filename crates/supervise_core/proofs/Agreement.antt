-- A history goes on agreeing with what a service stores, as its marks join.
use Rattle.std.proofs.Common.{◌≡◌, refl, sym, ap, ◌∙◌, ℕ, List, [], ◌∷◌, ◌++◌, false, cond, Option, Some, None, rules, subst}
use Rattle.std.specs.Prelude.{◌==◌}
use Rattle.std.proofs.lemmas.List.{append_assoc, append-nil}
use Rattle.std.proofs.lemmas.List.Sums.{fold-append}
use Rattle.s6_events.specs.declared.mark.Mark.{Mark}
use Rattle.s6_events.specs.declared.mark.Mark.TheVariants.{SupervisorStarted}
use Rattle.s6_events.specs.declared.moment.Moment.{Moment}
use Rattle.s6_events.specs.declared.moment.Moment.TheVariants.{Clock, Event}
use Rattle.s6_events.specs.Clock.{clock_after, clock_of}
use Rattle.s6_events.specs.Newest.{Dated, newest, mark_of, newer}
use Rattle.s6_events.specs.CurrentLetter.{start_or, tells_state, is_up_or_down, is_ready_or_done, mark_or_done, moment_unless_start}
use Rattle.s6_events.proofs.Newest.{newest-push}
use Rattle.supervise_core.specs.declared.row.Status.{Status}
use Rattle.supervise_core.specs.declared.chart_state.ChartState.{ChartState}
use Rattle.supervise_core.specs.Moves.{begin_move}
use Rattle.supervise_core.specs.Status.{Agrees, mark_moments, no_marks, status_with, status_with_all}

-- what the newest marks of the three kinds tell
abbrev read_newest : Option Dated → Option Dated → Option Dated → Status
read_newest letter up_or_down ready_or_done = record {
  letter = mark_or_done letter;
  up_or_down_since = moment_unless_start up_or_down;
  ready_or_done_since = moment_unless_start ready_or_done;
}

-- what is read of a service from a history
abbrev read_from : ℕ → List Moment → Status
read_from sid h = read_newest (newest (start_or tells_state) sid h) (newest (start_or is_up_or_down) sid h)
    (newest (start_or is_ready_or_done) sid h)

-- a mark is told at a moment, if there is one
abbrev told_some : ℕ → Status → Option Mark → Status
told_some now s None = s
told_some now s (Some mark) = status_with now s mark

-- one more mark is read as it is told
read_newer : (now : ℕ) (mark : Option Mark) (l u r : Option Dated)
    → read_newest (newer (start_or tells_state) now mark l) (newer (start_or is_up_or_down) now mark u)
    (newer (start_or is_ready_or_done) now mark r)
    ≡ told_some now (read_newest l u r) mark
read_newer now mark l u r = search rules

read_more : (sid : ℕ) (h : List Moment) (m : Moment) → read_from sid (h ++ m ∷ []) ≡ told_some (clock_of h) (read_from sid h) (mark_of sid m)
read_more sid h m =
    (λ i. read_newest (newest-push (start_or tells_state) sid h m i) (newest-push (start_or is_up_or_down) sid h m i)
    (newest-push (start_or is_ready_or_done) sid h m i))
    ∙ read_newer (clock_of h) (mark_of sid m) (newest (start_or tells_state) sid h) (newest (start_or is_up_or_down) sid h)
    (newest (start_or is_ready_or_done) sid h)

-- a history agrees where what is stored is what is read from it
from_agrees : (sid : ℕ) (s : Status) (h : List Moment) → Agrees sid s h → s ≡ read_from sid h
from_agrees sid s h a = λ i. record { letter = a.letter i; up_or_down_since = a.up_or_down i; ready_or_done_since = a.ready_or_done i }

to_agrees : (sid : ℕ) (s : Status) (h : List Moment) → s ≡ read_from sid h → Agrees sid s h
to_agrees sid s h r = record {
  letter = ap (λ (t : Status). t.letter) r;
  up_or_down = ap (λ (t : Status). t.up_or_down_since) r;
  ready_or_done = ap (λ (t : Status). t.ready_or_done_since) r;
}

-- one moment joins, which is this mark of the service or none
agrees_more : (sid : ℕ) (s : Status) (h : List Moment) (m : Moment) (mark : Option Mark) → mark_of sid m ≡ mark → Agrees sid s h
    → Agrees sid (told_some (clock_of h) s mark) (h ++ m ∷ [])
agrees_more sid s h m mark is a =
    to_agrees sid (told_some (clock_of h) s mark) (h ++ m ∷ [])
    (ap (λ (t : Status). told_some (clock_of h) t mark) (from_agrees sid s h a)
    ∙ sym (read_more sid h m ∙ ap (told_some (clock_of h) (read_from sid h)) is))

-- a mark of the service is one of it
own_mark : (sid : ℕ) (mark : Mark) → mark_of sid (Event sid mark) ≡ Some mark
own_mark sid mark = search rules

clock_stays : (sid : ℕ) (mark : Mark) (h : List Moment) → clock_of (h ++ Event sid mark ∷ []) ≡ clock_of h
clock_stays sid mark h = fold-append clock_after 0 h (Event sid mark ∷ [])

-- a history that agrees at this moment agrees once the marks have joined
pub agrees_after : (sid now : ℕ) (marks : List Mark) (s : Status) (h : List Moment) → Agrees sid s h → clock_of h ≡ now
    → Agrees sid (status_with_all now marks s) (h ++ mark_moments sid marks)
agrees_after sid now [] s h a at = subst (λ x. Agrees sid s x) (sym (append-nil h)) a
agrees_after sid now (mark ∷ rest) s h a at =
    subst (λ x. Agrees sid (status_with_all now rest (status_with now s mark)) x) (append_assoc h (Event sid mark ∷ []) (mark_moments sid rest))
    (agrees_after sid now rest (status_with now s mark) (h ++ Event sid mark ∷ [])
    (subst (λ n. Agrees sid (status_with n s mark) (h ++ Event sid mark ∷ [])) at
    (agrees_more sid s h (Event sid mark) (Some mark) (own_mark sid mark) a))
    (clock_stays sid mark h ∙ at))

-- a mark of another service, and a clock reading, leave what agrees
pub agrees_other : (sid of : ℕ) (s : Status) (h : List Moment) (mark : Mark) → (of == sid) ≡ false → Agrees sid s h
    → Agrees sid s (h ++ Event of mark ∷ [])
agrees_other sid of s h mark other a = agrees_more sid s h (Event of mark) None (ap (λ b. cond b (Some mark) None) other) a

pub agrees_clock : (sid at : ℕ) (s : Status) (h : List Moment) → Agrees sid s h → Agrees sid s (h ++ Clock at ∷ [])
agrees_clock sid at s h a = agrees_more sid s h (Clock at) None refl a

-- with s every history agrees that nothing was told since
pub agrees_begun : (sid : ℕ) (h : List Moment) → Agrees sid no_marks (h ++ Event sid SupervisorStarted ∷ [])
agrees_begun sid h =
    agrees_more sid (read_from sid h) h (Event sid SupervisorStarted) (Some SupervisorStarted) (own_mark sid SupervisorStarted)
    (to_agrees sid (read_from sid h) h refl)

-- a supervisor that begins tells s and nothing more
pub begins_with_start : (c : ChartState) → (begin_move c).marks ≡ SupervisorStarted ∷ []
begins_with_start c = search rules

pub begins_same_service : (c : ChartState) → (begin_move c).chart.sid ≡ c.sid
begins_same_service c = search rules

-- every history agrees with a service that has just begun
pub agrees_beginning : (c after : ChartState) (status : Status) (marks : List Mark) (h : List Moment)
    → after ≡ (begin_move c).chart → status ≡ no_marks → marks ≡ (begin_move c).marks
    → Agrees after.sid status (h ++ mark_moments c.sid marks)
agrees_beginning c after status marks h same none told =
    subst (λ n. Agrees n status (h ++ mark_moments c.sid marks)) (sym (ap (λ (x : ChartState). x.sid) same ∙ begins_same_service c))
    (subst (λ (s : Status). Agrees c.sid s (h ++ mark_moments c.sid marks)) (sym none)
    (subst (λ ms. Agrees c.sid no_marks (h ++ mark_moments c.sid ms)) (sym (told ∙ begins_with_start c)) (agrees_begun c.sid h)))
