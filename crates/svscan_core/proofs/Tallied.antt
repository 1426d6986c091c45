-- Tallies go on having the last deaths.
use Rattle.std.proofs.Common.{◌≡◌, ℕ, zero, suc, ◌+◌, ◌-◌, ◌<◌, ◌≤◌, drop, length, List, [], ◌∷◌, ◌++◌, Bool, true, false, ◌==◌, cond, fold, map}
use Rattle.std.proofs.Common.{filter, refl, sym, ap, subst, ◌∙◌, append-nil, rules, arith}
use Rattle.std.specs.Prelude.{Option, None, Some, slice_get, slice_set, nat_lt}
use Rattle.std.specs.Option.{option_to_list}
use Rattle.std.proofs.Math.ListN.{drop_of_length-le}
use Rattle.std.proofs.lemmas.Option.{same_Some}
use Rattle.std.proofs.lemmas.List.{length-append, length-drop, drop-append-le, drop-drop}
use Rattle.death_tally.specs.LastDeaths.{Deaths, Tallies, new_tally, with_death}
use Rattle.deadlines.specs.Timers.{is_rising}
use Rattle.s6_events.specs.declared.exit.Exit.{Exit}
use Rattle.servicedir.specs.declared.config.Config.{Config}
use Rattle.supervise_core.specs.declared.change.Change.{Change}
use Rattle.supervise_core.specs.declared.chart_state.ChartState.{ChartState}
use Rattle.s6_events.specs.declared.report.Report.TheVariants as reports
use Rattle.supervise_core.specs.declared.change.Change.TheVariants as changes
use Rattle.supervise_core.specs.ChartState.{Moved, no_move}
use Rattle.supervise_core.specs.ControlLetters.{then_move}
use Rattle.supervise_core.specs.Chart.{changed_by, control_move, fire_move, with_activity, letter_move}
use Rattle.supervise_core.specs.Service.{Supervised, ServiceView, with_view, tally_with, death_by}
use Rattle.supervise_core.proofs.Identity.{KeepsIdentity, keeps_fire, keeps_changed}
use Rattle.control_letters.specs.declared.control_letter.ControlLetter.{ControlLetter}
use Rattle.svscan_core.specs.declared.entry.Entry.{Entry}
use Rattle.svscan_core.specs.declared.entry.ScanOrder.{ScanOrder}
use Rattle.svscan_core.specs.declared.entry.ScanOrder.TheVariants.{Nuke, Terminate}
use Rattle.svscan_core.specs.declared.visit.Visit.{Visit}
use Rattle.svscan_core.specs.declared.visit.Visit.TheVariants.{Fire, Command, Look}
use Rattle.svscan_core.specs.Visit.{visit_move}
use Rattle.svscan_core.specs.Deaths.{DeathOf, death_of, deaths_of, deaths_after, deaths_given, IsTallied, AllTallied, AllBefore}
use Rattle.svscan_core.specs.Scan.{after_look, service_limit}
use Rattle.svscan_core.specs.Table.{charts_of, serials_of}
use Rattle.svscan_core.specs.Sound.{IsNumbered}
use Rattle.svscan_core.specs.Work.{Work, leave_letters, change_move_at, command_move, work_result}
use Rattle.svscan_core.specs.Work.Work.{do_nothing, change_one, apply_listing, command}
use Rattle.svscan_core.proofs.Agreeing.{all_later, all_of, above_at, Lack, lacks_lower}
use Rattle.svscan_core.proofs.Few.{work_later}
use Rattle.svscan_core.proofs.Names.{keeps_commanded, keeps_look}
use Rattle.svscan_core.proofs.Serials.{itself, later_other, earlier_other}
use Rattle.svscan_core.proofs.SerialsRise.{last_above}
use Rattle.svscan_core.proofs.Truth.{both_left, both_right}

-- a tally of the last of these deaths, with one death more, is one of the last of these and that one
tallies_more : (t : Deaths) (all : List (ℕ × Exit)) (d : ℕ × Exit) → Tallies t all → Tallies (with_death t d) (all ++ d ∷ [])
tallies_more t all d h =
    let k : ℕ = length all - t.most in
    let front : t.kept ++ d ∷ [] ≡ drop k (all ++ d ∷ []) = ap (λ xs. xs ++ d ∷ []) h ∙ sym (drop-append-le k all (d ∷ []) (omega arith)) in
    let long : length (t.kept ++ d ∷ []) ≡ length (all ++ d ∷ []) - k = ap length front ∙ length-drop k (all ++ d ∷ []) in
    let whole : length (all ++ d ∷ []) ≡ length all + 1 = length-append all (d ∷ []) in
    let count : k + (length (t.kept ++ d ∷ []) - t.most) ≡ length (all ++ d ∷ []) - t.most = omega (arith, long, whole) in
    ap (drop (length (t.kept ++ d ∷ []) - t.most)) front
    ∙ (drop-drop (length (t.kept ++ d ∷ []) - t.most) k (all ++ d ∷ []) ∙ ap (λ n. drop n (all ++ d ∷ [])) count)

-- deaths, one list behind another
pub deaths_behind : (sid : ℕ) (a b : List DeathOf) → deaths_of sid (a ++ b) ≡ deaths_of sid a ++ deaths_of sid b
deaths_behind sid [] b = refl
deaths_behind sid (d ∷ a) b = by (d.sid == sid) (deaths_behind sid a b)
  where
    by : (t : Bool) → deaths_of sid (a ++ b) ≡ deaths_of sid a ++ deaths_of sid b
        → map (λ (x : DeathOf). (x.at, x.exit)) (cond t (d ∷ filter (λ x. x.sid == sid) (a ++ b)) (filter (λ x. x.sid == sid) (a ++ b)))
        ≡ map (λ (x : DeathOf). (x.at, x.exit)) (cond t (d ∷ filter (λ x. x.sid == sid) a) (filter (λ x. x.sid == sid) a)) ++ deaths_of sid b
    by true e = ap (λ ds. (d.at, d.exit) ∷ ds) e
    by false e = e

-- the deaths of a service itself, and those of another one
own_deaths : (sid : ℕ) (ds : List (ℕ × Exit)) → deaths_of sid (map (death_of sid) ds) ≡ ds
own_deaths sid [] = refl
own_deaths sid (d ∷ ds) =
    ap (λ b. map (λ (x : DeathOf). (x.at, x.exit))
    (cond b (death_of sid d ∷ filter (λ x. x.sid == sid) (map (death_of sid) ds)) (filter (λ x. x.sid == sid) (map (death_of sid) ds))))
    (itself sid)
    ∙ ap (λ xs. d ∷ xs) (own_deaths sid ds)

other_deaths : (sid of : ℕ) (ds : List (ℕ × Exit)) → (of == sid) ≡ false → deaths_of sid (map (death_of of) ds) ≡ []
other_deaths sid of [] h = refl
other_deaths sid of (d ∷ ds) h =
    ap (λ b. map (λ (x : DeathOf). (x.at, x.exit))
    (cond b (death_of of d ∷ filter (λ x. x.sid == sid) (map (death_of of) ds)) (filter (λ x. x.sid == sid) (map (death_of of) ds)))) h
    ∙ other_deaths sid of ds h

-- the deaths of another service leave what one is tallied with
others_tallied : (s : Supervised) (of : ℕ) (deaths : List DeathOf) (ds : List (ℕ × Exit)) → (of == s.chart.sid) ≡ false → IsTallied s deaths
    → IsTallied s (deaths ++ map (death_of of) ds)
others_tallied s of deaths ds h t = record {
  most = t.most;
  kept = subst (λ (xs : List (ℕ × Exit)). Tallies s.tally xs)
      (sym (deaths_behind s.chart.sid deaths (map (death_of of) ds)
      ∙ (ap (λ xs. deaths_of s.chart.sid deaths ++ xs) (other_deaths s.chart.sid of ds h) ∙ append-nil (deaths_of s.chart.sid deaths)))) t.kept;
}

-- its own death joins its tally
own_joins : (t : Deaths) (all : List (ℕ × Exit)) (death : Option (ℕ × Exit)) → Tallies t all
    → Tallies (tally_with t death) (all ++ option_to_list death)
own_joins t all None h = subst (λ (xs : List (ℕ × Exit)). Tallies t xs) (sym (append-nil all)) h
own_joins t all (Some d) h = tallies_more t all d h

same_most : (t : Deaths) (death : Option (ℕ × Exit)) → (tally_with t death).most ≡ t.most
same_most t None = refl
same_most t (Some d) = refl

-- what a move does to a tally: it joins this death, or none, and keeps as many as before
pub record Joins (c : ChartState) (moved : Moved) (death : Option (ℕ × Exit)) : Type 0 where
  pub deaths : moved.deaths ≡ option_to_list death
  pub most : moved.chart.config.max_death_tally ≡ c.config.max_death_tally

own_tallied : (s : Supervised) (after : ServiceView) (moved : Moved) (death : Option (ℕ × Exit)) (deaths : List DeathOf) → after.chart ≡ moved.chart
    → after.chart.sid ≡ s.chart.sid → Joins s.chart moved death
    → IsTallied s deaths → IsTallied (with_view after death s) (deaths ++ map (death_of s.chart.sid) moved.deaths)
own_tallied s after moved death deaths is same j t = record {
  most = same_most s.tally death ∙ (t.most ∙ (sym j.most ∙ sym (ap (λ (c : ChartState). c.config.max_death_tally) is)));
  kept = subst (λ (xs : List (ℕ × Exit)). Tallies (tally_with s.tally death) xs)
      (sym (ap (λ n. deaths_of n (deaths ++ map (death_of s.chart.sid) moved.deaths)) same
      ∙ (deaths_behind s.chart.sid deaths (map (death_of s.chart.sid) moved.deaths)
      ∙ ap (λ xs. deaths_of s.chart.sid deaths ++ xs) (own_deaths s.chart.sid moved.deaths ∙ j.deaths))))
      (own_joins s.tally (deaths_of s.chart.sid deaths) death t.kept);
}

all_others_tallied : (of : ℕ) (services : List Supervised) (deaths : List DeathOf) (ds : List (ℕ × Exit)) → Lack of services
    → AllTallied services deaths
    → AllTallied services (deaths ++ map (death_of of) ds)
all_others_tallied of [] deaths ds lack all = λ k d lt. absurd (omega (arith, lt))
all_others_tallied of (s ∷ services) deaths ds lack all =
    all_of (λ (x : Supervised). IsTallied x (deaths ++ map (death_of of) ds)) s services
    (others_tallied s of deaths ds lack.0 (all 0 s (omega arith)))
    (all_others_tallied of services deaths ds lack.1 (all_later (λ (x : Supervised). IsTallied x deaths) s services all))

-- the service at a place is touched, and its death joins its tally
pub place_tallied : (p : ℕ) (services : List Supervised) (s : Supervised) (after : ServiceView) (moved : Moved) (death : Option (ℕ × Exit))
    (deaths : List DeathOf)
    → slice_get services p ≡ Some s → after.chart ≡ moved.chart → after.chart.sid ≡ s.chart.sid → Joins s.chart moved death
    → is_rising (serials_of (charts_of services)) ≡ true
    → AllTallied services deaths → AllTallied (slice_set services p (with_view after death s)) (deaths ++ map (death_of s.chart.sid) moved.deaths)
place_tallied p [] s after moved death deaths there is same j rising all = search rules
place_tallied zero (y ∷ services) s after moved death deaths there is same j rising all =
    let own : y ≡ s = same_Some y s there in
    all_of (λ (z : Supervised). IsTallied z (deaths ++ map (death_of s.chart.sid) moved.deaths)) (with_view after death s) services
    (own_tallied s after moved death deaths is same j (subst (λ (z : Supervised). IsTallied z deaths) own (all 0 y (omega arith))))
    (all_others_tallied s.chart.sid services deaths moved.deaths
    (subst (λ (z : Supervised). Lack z.chart.sid services) own
    (lacks_lower y.chart.sid services (both_left _ (is_rising (serials_of (charts_of services))) rising)))
    (all_later (λ (z : Supervised). IsTallied z deaths) y services all))
place_tallied (suc p) (y ∷ services) s after moved death deaths there is same j rising all =
    let other : (s.chart.sid == y.chart.sid) ≡ false =
    later_other y.chart.sid s.chart.sid (above_at y.chart.sid services p s (both_left _ (is_rising (serials_of (charts_of services))) rising) there)
    in
    all_of (λ (z : Supervised). IsTallied z (deaths ++ map (death_of s.chart.sid) moved.deaths)) y (slice_set services p (with_view after death s))
    (others_tallied y s.chart.sid deaths moved.deaths other (all 0 y (omega arith)))
    (place_tallied p services s after moved death deaths there is same j (both_right _ (is_rising (serials_of (charts_of services))) rising)
    (all_later (λ (z : Supervised). IsTallied z deaths) y services all))

-- letters report no death
letter_gives_none : (now : ℕ) (letter : ControlLetter) (c : ChartState) → (letter_move now letter c).deaths ≡ []
letter_gives_none now letter c = search rules

letters_give_none : (now : ℕ) (letters : List ControlLetter) (m : Moved) → m.deaths ≡ []
    → (fold (λ x letter. then_move (letter_move now letter) x) m letters).deaths ≡ []
letters_give_none now [] m h = h
letters_give_none now (letter ∷ letters) m h =
    letters_give_none now letters (then_move (letter_move now letter) m)
    (ap (λ ds. ds ++ (letter_move now letter m.chart).deaths) h ∙ letter_gives_none now letter m.chart)

-- a timer, an order of all services and a look at a directory report no death
no_fire_deaths : (now : ℕ) (c : ChartState) → (fire_move now c).deaths ≡ []
no_fire_deaths now c = search rules

no_letters_deaths : (now : ℕ) (c : ChartState) → (control_move leave_letters now c).deaths ≡ []
no_letters_deaths now c = letters_give_none now leave_letters (no_move c) refl

either_none : (b : Bool) (x y : Moved) → x.deaths ≡ [] → y.deaths ≡ [] → (cond b x y).deaths ≡ []
either_none true x y hx hy = hx
either_none false x y hx hy = hy

no_deaths : {A : Type 0} (visit : Visit A) (now : ℕ) (c : ChartState) → (visit_move visit now c).deaths ≡ []
no_deaths Fire now c = no_fire_deaths now c
no_deaths (Command Nuke) now c = either_none c.active (no_move c) (control_move leave_letters now c) refl (no_letters_deaths now c)
no_deaths (Command Terminate) now c = no_letters_deaths now (with_activity false now c)
no_deaths (Look listing) now c = refl

keeps_visited : {A : Type 0} (visit : Visit A) (now : ℕ) (c : ChartState) → KeepsIdentity c (visit_move visit now c)
keeps_visited Fire now c = keeps_fire now c
keeps_visited (Command order) now c = keeps_commanded order now c
keeps_visited (Look listing) now c = keeps_look listing.now now c

pub visit_joins : {A : Type 0} (visit : Visit A) (now : ℕ) (c : ChartState) → Joins c (visit_move visit now c) None
visit_joins visit now c = record { deaths = no_deaths visit now c; most = (keeps_visited visit now c).most }

-- the death of a change is the one that its move reports
gives_death : (change : Change) (now : ℕ) (c : ChartState)
    → (changed_by change now c).deaths ≡ option_to_list (death_by change (changed_by change now c).stale now)
gives_death (changes.Report (reports.Started _ generation pid)) now c = search rules
gives_death (changes.Report (reports.StartFailed _ generation)) now c = search rules
gives_death (changes.Report (reports.Notify _ generation bytes)) now c = search rules
gives_death (changes.Report (reports.Death _ generation exit)) now c = search rules
gives_death (changes.Report (reports.FinishEnded _ generation exit)) now c = search rules
gives_death (changes.Control letters) now c = letters_give_none now letters.items (no_move c) refl
gives_death changes.Fire now c = no_fire_deaths now c
gives_death (changes.SetConfig config) now c = refl
gives_death (changes.SetActive active) now c = refl

pub change_joins : (change : Change) (now : ℕ) (c : ChartState) (stale : Bool) (death : Option (ℕ × Exit)) → stale ≡ (changed_by change now c).stale
    → death ≡ death_by change stale now
    → Joins c (changed_by change now c) death
change_joins change now c stale death told gives = record {
  deaths = gives_death change now c ∙ sym (ap option_to_list (gives ∙ ap (λ b. death_by change b now) told));
  most = (keeps_changed change now c).most;
}

-- where no service reports a death, none is reported
pub none_of_all : (move : ChartState → Moved) → ((c : ChartState) → (move c).deaths ≡ []) → (cs : List ChartState) → deaths_after move cs ≡ []
none_of_all move none [] = refl
none_of_all move none (c ∷ cs) = ap (λ ds. map (death_of c.sid) ds ++ deaths_after move cs) (none c) ∙ none_of_all move none cs

pub no_timer_deaths : (now : ℕ) (cs : List ChartState) → deaths_after (fire_move now) cs ≡ []
no_timer_deaths now cs = none_of_all (fire_move now) (no_fire_deaths now) cs

no_order_death : (order : ScanOrder) (now : ℕ) (c : ChartState) → (command_move order now c).deaths ≡ []
no_order_death Nuke now c = either_none c.active (no_move c) (control_move leave_letters now c) refl (no_letters_deaths now c)
no_order_death Terminate now c = no_letters_deaths now (with_activity false now c)

pub no_order_deaths : (order : ScanOrder) (now : ℕ) (cs : List ChartState) → deaths_after (command_move order now) cs ≡ []
no_order_deaths order now cs = none_of_all (command_move order now) (no_order_death order now) cs

pub no_look_deaths : (listing : List Entry) (now : ℕ) (cs : List ChartState) → deaths_after (λ c. no_move (after_look listing now c)) cs ≡ []
no_look_deaths listing now cs = none_of_all (λ c. no_move (after_look listing now c)) (λ c. refl) cs

-- a service of the next serial has had no death, and its tally none
pub none_before : (next : ℕ) (deaths : List DeathOf) → AllBefore next deaths → deaths_of next deaths ≡ []
none_before next [] h = refl
none_before next (d ∷ deaths) h =
    let below : d.sid < next = h 0 d (omega arith) in
    let other : (d.sid == next) ≡ false = earlier_other d.sid next (is_below d.sid next below) in
    ap (λ b. map (λ (x : DeathOf). (x.at, x.exit)) (cond b (d ∷ filter (λ x. x.sid == next) deaths) (filter (λ x. x.sid == next) deaths))) other
    ∙ none_before next deaths (all_later (λ (x : DeathOf). x.sid < next) d deaths h)
  where
    is_below : (m n : ℕ) → m < n → nat_lt m n ≡ true
    is_below m n lt = search rules

new_tallied : (m : ℕ) → Tallies (new_tally m) []
new_tallied m = sym (drop_of_length-le [] {i = 0 - m} (omega arith))

pub begins_tallied : (s : Supervised) (next : ℕ) (config : Config) (deaths : List DeathOf) → AllBefore next deaths → s.chart.sid ≡ next
    → s.chart.config.max_death_tally ≡ config.max_death_tally
    → s.tally ≡ new_tally config.max_death_tally → IsTallied s deaths
begins_tallied s next config deaths before sid most begun = record {
  most = ap (λ (t : Deaths). t.most) begun ∙ sym most;
  kept =
      subst (λ (t : Deaths). Tallies t (deaths_of s.chart.sid deaths)) (sym begun)
      (subst (λ (xs : List (ℕ × Exit)). Tallies (new_tally config.max_death_tally) xs)
      (sym (ap (λ n. deaths_of n deaths) sid ∙ none_before next deaths before))
      (new_tallied config.max_death_tally));
}

-- whatever work reports are deaths of services that stand, whose serials are below the next one
all_before : (next : ℕ) (a b : List DeathOf) → AllBefore next a → AllBefore next b → AllBefore next (a ++ b)
all_before next [] b ha hb = hb
all_before next (d ∷ a) b ha hb =
    all_of (λ (x : DeathOf). x.sid < next) d (a ++ b) (ha 0 d (omega arith))
    (all_before next a b (all_later (λ (x : DeathOf). x.sid < next) d a ha) hb)

own_before : (next sid : ℕ) (ds : List (ℕ × Exit)) → sid < next → AllBefore next (map (death_of sid) ds)
own_before next sid [] lt = λ k d h. absurd (omega (arith, h))
own_before next sid (d ∷ ds) lt = all_of (λ (x : DeathOf). x.sid < next) (death_of sid d) (map (death_of sid) ds) lt (own_before next sid ds lt)

moves_before : (move : ChartState → Moved) (next : ℕ) (cs : List ChartState) → IsNumbered next cs → AllBefore next (deaths_after move cs)
moves_before move next [] h = λ k d lt. absurd (omega (arith, lt))
moves_before move next (c ∷ cs) h =
    let above : nat_lt c.sid next ≡ true = last_above c.sid next (serials_of cs) (both_left _ (is_rising (serials_of cs ++ next ∷ [])) h) in
    all_before next (map (death_of c.sid) (move c).deaths) (deaths_after move cs)
    (own_before next c.sid (move c).deaths (below c.sid next above))
    (moves_before move next cs (both_right _ (is_rising (serials_of cs ++ next ∷ [])) h))
  where
    below : (m n : ℕ) → nat_lt m n ≡ true → m < n
    below m n h = search rules

work_before : (work : Work) (now next : ℕ) (cs : List ChartState) → IsNumbered next cs → AllBefore next (deaths_given work now cs)
work_before do_nothing now next cs h = λ k d lt. absurd (omega (arith, lt))
work_before (change_one sid change) now next cs h = moves_before (change_move_at sid change now) next cs h
work_before (command order) now next cs h = λ k d lt. absurd (omega (arith, lt))
work_before (apply_listing listing) now next cs h = λ k d lt. absurd (omega (arith, lt))

pub joined_before : (work : Work) (now next : ℕ) (cs : List ChartState) (deaths : List DeathOf) → length cs ≤ service_limit → IsNumbered next cs
    → AllBefore next deaths
    → AllBefore (work_result work now cs next).next_sid (deaths ++ deaths_given work now cs)
joined_before work now next cs deaths few numbered before =
    let all = all_before next deaths (deaths_given work now cs) before (work_before work now next cs numbered) in
    let later = work_later work now cs next few in
    λ k d lt. let below = all k d lt in omega (arith, below, later)
