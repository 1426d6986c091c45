-- One more moment, and what is newest after it.
use Rattle.std.proofs.Common.{◌≡◌, refl, ap, ◌∙◌, ℕ, List, [], ◌∷◌, ◌++◌, reverse, Bool, true, false, cond, ◌==◌, fold, Some, None, find}
use Rattle.std.proofs.lemmas.List.{reverse-append}
use Rattle.s6_events.specs.declared.mark.Mark.{Mark}
use Rattle.s6_events.specs.declared.moment.Moment.{Moment}
use Rattle.s6_events.specs.declared.moment.Moment.TheVariants.{Clock, Event}
use Rattle.s6_events.specs.Clock.{clock_after, clock_of}
use Rattle.s6_events.specs.Newest.{Dated, dated_from, dated_marks, newest, mark_of, newer}

-- a test goes into the list that it picks
either_joined : (b : Bool) (d : Dated) (xs ys : List Dated)
    → cond b (d ∷ (xs ++ ys)) (xs ++ ys) ≡ cond b (d ∷ xs) xs ++ ys
either_joined true d xs ys = refl
either_joined false d xs ys = refl

-- the marks of two stretches of a history
dated_from-append : (sid clock : ℕ) (h t : List Moment)
    → dated_from sid clock (h ++ t) ≡ dated_from sid clock h ++ dated_from sid (fold clock_after clock h) t
dated_from-append sid clock [] t = refl
dated_from-append sid clock (Clock at ∷ h) t = dated_from-append sid at h t
dated_from-append sid clock (Event of mark ∷ h) t =
    ap (λ xs. cond (of == sid) ((clock, mark) ∷ xs) xs) (dated_from-append sid clock h t)
    ∙ either_joined (of == sid) (clock, mark) (dated_from sid clock h) (dated_from sid (fold clock_after clock h) t)

-- the newest of older marks and at most one more
newest_first : (wanted : Mark → Bool) (at : ℕ) (b : Bool) (mark : Mark) (older : List Dated)
    → find (λ (d : Dated). wanted d.1) (reverse (cond b ((at, mark) ∷ []) []) ++ older)
    ≡ newer wanted at (cond b (Some mark) None) (find (λ (d : Dated). wanted d.1) older)
newest_first wanted at true mark older = refl
newest_first wanted at false mark older = refl

first_of_all : (wanted : Mark → Bool) (sid at : ℕ) (m : Moment) (older : List Dated)
    → find (λ (d : Dated). wanted d.1) (reverse (dated_from sid at (m ∷ [])) ++ older)
    ≡ newer wanted at (mark_of sid m) (find (λ (d : Dated). wanted d.1) older)
first_of_all wanted sid at (Clock reading) older = refl
first_of_all wanted sid at (Event of mark) older = newest_first wanted at (of == sid) mark older

-- what is newest after one more moment
pub newest-push : (wanted : Mark → Bool) (sid : ℕ) (h : List Moment) (m : Moment)
    → newest wanted sid (h ++ m ∷ []) ≡ newer wanted (clock_of h) (mark_of sid m) (newest wanted sid h)
newest-push wanted sid h m =
    ap (λ xs. find (λ (d : Dated). wanted d.1) (reverse xs)) (dated_from-append sid 0 h (m ∷ []))
    ∙ (ap (find (λ (d : Dated). wanted d.1)) (reverse-append (dated_marks sid h) (dated_from sid (clock_of h) (m ∷ [])))
    ∙ first_of_all wanted sid (clock_of h) m (reverse (dated_marks sid h)))
