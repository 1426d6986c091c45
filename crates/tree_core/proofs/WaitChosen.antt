-- What a wait and a cancel do, found among the services and the waiters.
use Rattle.std.proofs.Common.{◌≡◌, ◌∙◌, ℕ, suc, true≢false, List, [], ◌∷◌, Bool, true, false, ◌&&◌, ◌==◌, not, cond, refl, sym, ap, find, filter}
use Rattle.std.proofs.Common.{length, subst}
use Rattle.std.specs.Prelude.{Option, Some, None, is_some, option_map, bytes_eq, nat_le, nat_lt}
use Rattle.std.proofs.lemmas.Option.{same_Some}
use Rattle.std.specs.List.{list_all, filter_map, cons_option}
use Rattle.std.specs.Cmp.Lexicographic.{nat_list_eq_equiv, same_text}
use Rattle.deadlines.specs.Timers.{is_rising}
use Rattle.s6_events.specs.declared.condition.Condition.{Condition}
use Rattle.s6_events.specs.declared.condition.Mode.{Mode}
use Rattle.s6_events.specs.declared.moment.Moment.{Moment}
use Rattle.supervise_core.specs.declared.chart_state.ChartState.{ChartState}
use Rattle.supervise_core.specs.Chart.{fire_move}
use Rattle.supervise_core.specs.Service.{Supervised}
use Rattle.supervise_core.proofs.Identity.{keeps_fire}
use Rattle.svscan_core.specs.Moves.{services_after}
use Rattle.svscan_core.specs.Names.{lists, repeats_name}
use Rattle.svscan_core.specs.Table.{charts_of, serials_of}
use Rattle.svscan_core.proofs.Serials.{later_other, earlier_other}
use Rattle.svscan_core.proofs.SerialsRise.{fired_serials, rising_before}
use Rattle.svscan_core.proofs.Truth.{both_left, both_right, neither_left, neither_right, neither_of}
use Rattle.wait_conditions.specs.declared.add_fault.AddFault.TheVariants as fault
use Rattle.wait_conditions.specs.Refusal.{add_refusal, is_named_in, repeats_serial, waiter_limit}
use Rattle.wait_conditions.specs.Watch.{WrittenWaiter, is_waiter_of}
use Rattle.tree_core.specs.declared.input.Act.TheVariants.{Wait, Cancel}
use Rattle.tree_core.specs.declared.reply.Refusal.{Refusal}
use Rattle.tree_core.specs.declared.reply.Refusal.TheVariants.{NoService, TooMany, Repeated, Empty}
use Rattle.tree_core.specs.ActRefusals.{all_named, service_named, wait_refusal, serial_of, serials_named}
use Rattle.tree_core.specs.Machine.{Machine}
use Rattle.tree_core.specs.Choices.{Chosen, wait_choice}
use Rattle.tree_core.specs.Plan.{Chooses, HasFired}
use Rattle.tree_core.specs.Choices.Chosen.{refuse, wait, cancel}
use Rattle.tree_core.proofs.Choosing.{chooses_this}

-- the timers leave each name with its serial
pub still_named : (name : List ℕ) (now : ℕ) (cs : List ChartState) → serial_of name (services_after (fire_move now) cs) ≡ serial_of name cs
still_named name now [] = refl
still_named name now (c ∷ cs) =
    ap (λ n. option_map (λ (d : ChartState). d.sid)
    (cond (bytes_eq name n) (Some (fire_move now c).chart) (service_named name (services_after (fire_move now) cs)))) (keeps_fire now c).name
    ∙ by (bytes_eq name c.name) (still_named name now cs)
  where
    by : (b : Bool) → serial_of name (services_after (fire_move now) cs) ≡ serial_of name cs
        → option_map (λ (d : ChartState). d.sid) (cond b (Some (fire_move now c).chart) (service_named name (services_after (fire_move now) cs)))
        ≡ option_map (λ (d : ChartState). d.sid) (cond b (Some c) (service_named name cs))
    by true e = ap Some (keeps_fire now c).sid
    by false e = e

-- a service that is found behind another has a later serial
found_later : (name : List ℕ) (s : ℕ) (cs : List ChartState) (t : ℕ) → list_all (λ m. nat_lt s m) (serials_of cs) ≡ true
    → serial_of name cs ≡ Some t → nat_lt s t ≡ true
found_later name s [] t above found = cc
found_later name s (c ∷ cs) t above found = by (bytes_eq name c.name) (λ e. found_later name s cs t (both_right (nat_lt s c.sid) _ above) e) found
  where
    by : (b : Bool) → (serial_of name cs ≡ Some t → nat_lt s t ≡ true)
        → option_map (λ (d : ChartState). d.sid) (cond b (Some c) (service_named name cs)) ≡ Some t → nat_lt s t ≡ true
    by true later e = subst (λ (n : ℕ). nat_lt s n ≡ true) (same_Some c.sid t e) (both_left (nat_lt s c.sid) _ above)
    by false later e = later e

-- the services of two names have two serials
two_serials : (a b : List ℕ) (cs : List ChartState) (s t : ℕ) → is_rising (serials_of cs) ≡ true → bytes_eq a b ≡ false → serial_of a cs ≡ Some s
    → serial_of b cs ≡ Some t → (t == s) ≡ false
two_serials a b [] s t rising differ found_a found_b = cc
two_serials a b (c ∷ cs) s t rising differ found_a found_b =
    by (bytes_eq a c.name) (bytes_eq b c.name) refl refl
    (two_serials a b cs s t (both_right _ (is_rising (serials_of cs)) rising) differ) found_a found_b
  where
    by : (x y : Bool) → bytes_eq a c.name ≡ x → bytes_eq b c.name ≡ y → (serial_of a cs ≡ Some s → serial_of b cs ≡ Some t → (t == s) ≡ false)
        → option_map (λ (d : ChartState). d.sid) (cond x (Some c) (service_named a cs)) ≡ Some s
        → option_map (λ (d : ChartState). d.sid) (cond y (Some c) (service_named b cs)) ≡ Some t → (t == s) ≡ false
    by true true ea eb later ha hb = absurd (true≢false
        (sym (nat_list_eq_equiv.refl a) ∙ ap (bytes_eq a) (same_text a c.name (sym ea) ∙ sym (same_text b c.name (sym eb))) ∙ differ))
    by true false ea eb later ha hb =
        subst (λ (n : ℕ). (t == n) ≡ false) (same_Some c.sid s ha)
        (later_other c.sid t (found_later b c.sid cs t (both_left _ (is_rising (serials_of cs)) rising) hb))
    by false true ea eb later ha hb =
        subst (λ (n : ℕ). (n == s) ≡ false) (same_Some c.sid t hb)
        (earlier_other c.sid s (found_later a c.sid cs s (both_left _ (is_rising (serials_of cs)) rising) ha))
    by false false ea eb later ha hb = later ha hb

-- so names that differ have serials that differ
other_serial : (name : List ℕ) (names : List (List ℕ)) (cs : List ChartState) (s : ℕ) → is_rising (serials_of cs) ≡ true → lists names name ≡ false
    → serial_of name cs ≡ Some s
    → is_named_in (serials_named names cs) s ≡ false
other_serial name [] cs s rising absent found = refl
other_serial name (n ∷ names) cs s rising absent found =
    by (serial_of n cs) refl (other_serial name names cs s rising (neither_right (bytes_eq name n) _ absent) found)
  where
    by : (o : Option ℕ) → serial_of n cs ≡ o → is_named_in (serials_named names cs) s ≡ false
        → is_named_in (cons_option o (serials_named names cs)) s ≡ false
    by None e rest = rest
    by (Some t) e rest = neither_of (t == s) _ (two_serials name n cs s t rising (neither_left (bytes_eq name n) _ absent) found e) rest

serials_once : (names : List (List ℕ)) (cs : List ChartState) → is_rising (serials_of cs) ≡ true → repeats_name names ≡ false
    → repeats_serial (serials_named names cs) ≡ false
serials_once [] cs rising once = refl
serials_once (n ∷ names) cs rising once =
    by (serial_of n cs) refl (serials_once names cs rising (neither_right (lists names n) _ once))
  where
    by : (o : Option ℕ) → serial_of n cs ≡ o → repeats_serial (serials_named names cs) ≡ false
        → repeats_serial (cons_option o (serials_named names cs)) ≡ false
    by None e rest = rest
    by (Some s) e rest = neither_of (is_named_in (serials_named names cs) s) _
        (other_serial n names cs s rising (neither_left (lists names n) _ once) e) rest

-- each name gives one serial
as_many : (names : List (List ℕ)) (cs : List ChartState) → all_named names cs ≡ true → length (serials_named names cs) ≡ length names
as_many [] cs all = refl
as_many (n ∷ names) cs all = by (serial_of n cs) (as_many names cs) all
  where
    by : (o : Option ℕ) → (all_named names cs ≡ true → length (serials_named names cs) ≡ length names) → (is_some o && all_named names cs) ≡ true
        → length (cons_option o (serials_named names cs)) ≡ suc (length names)
    by None later h = cc
    by (Some s) later h = ap suc (later h)

-- a waiter for them is refused only where too many stand
only_limit : (names : List (List ℕ)) (cs : List ChartState) (standing : ℕ) → is_rising (serials_of cs) ≡ true → (length names == 0) ≡ false
    → repeats_name names ≡ false → nat_lt 16 (length names) ≡ false
    → all_named names cs ≡ true → add_refusal standing (serials_named names cs) ≡ cond (nat_le waiter_limit standing) (Some fault.TooMany) None
only_limit names cs standing rising some once few all =
    let many = as_many names cs all in
    rw (many, some, serials_once names cs rising once, few) refl

-- a wait
pub chooses_wait : {A : Type 0} (condition : Condition) (mode : Mode) (timeout : ℕ) (names : List (List ℕ)) (m : Machine) (closing : Bool) (now : ℕ)
    (services : List Supervised) (history : List Moment) (chosen : Chosen)
    → chosen ≡ wait_choice condition mode timeout names (charts_of services) → HasFired closing now services history m
    → Chooses {A = A} (Wait condition mode timeout names) m services chosen
chooses_wait {A} condition mode timeout names m closing now services history chosen is fired =
    chooses_this (Wait condition mode timeout names) m services chosen (wait_choice condition mode timeout names m.services)
    (is ∙ sym (ap (λ (f : List ℕ → Option ℕ). chosen_by f) same_serials))
    (by (length names == 0) (repeats_name names) (nat_lt 16 (length names)) (all_named names m.services)
    (nat_le waiter_limit (length m.waiters)) refl refl refl refl refl)
  where
    -- the choice, by the serials of names
    chosen_by : (List ℕ → Option ℕ) → Chosen
    chosen_by f =
        cond (length names == 0) (refuse Empty)
        (cond (repeats_name names) (refuse Repeated)
        (cond (nat_lt 16 (length names)) (refuse TooMany)
        (cond (list_all (λ name. is_some (f name)) names) (wait condition mode timeout (filter_map f names)) (refuse NoService))))

    same_serials : ◌≡◌ {A = List ℕ → Option ℕ} (λ name. serial_of name m.services) (λ name. serial_of name (charts_of services))
    same_serials = λ i name. (ap (serial_of name) fired.services_are ∙ still_named name now (charts_of services)) i

    rising : is_rising (serials_of m.services) ≡ true
    rising = ap (λ cs. is_rising (serials_of cs)) fired.services_are
        ∙ (ap is_rising (fired_serials now (charts_of services)) ∙ rising_before (serials_of (charts_of services)) m.next_sid fired.order)

    refuses : (why : Refusal) → wait_refusal names m ≡ Some why → wait_choice condition mode timeout names m.services ≡ refuse why
        → Chooses {A = A} (Wait condition mode timeout names) m services (wait_choice condition mode timeout names m.services)
    refuses why e c = chooses_this (Wait condition mode timeout names) m services _ (refuse why) c (record {
      work = rw e refl;
      hears = rw e (record { after = λ h. refl; at_once = λ h. refl });
      asks = refl;
      reply = λ h. rw e refl;
    })

    by : (a b c d e : Bool) → (length names == 0) ≡ a → repeats_name names ≡ b → nat_lt 16 (length names) ≡ c → all_named names m.services ≡ d
        → nat_le waiter_limit (length m.waiters) ≡ e
        → Chooses {A = A} (Wait condition mode timeout names) m services (wait_choice condition mode timeout names m.services)
    by true b c d e ea eb ec ed ee = refuses Empty (rw ea refl) (rw ea refl)
    by false true c d e ea eb ec ed ee = refuses Repeated (rw (ea, eb) refl) (rw (ea, eb) refl)
    by false false true d e ea eb ec ed ee = refuses TooMany (rw (ea, eb, ec) refl) (rw (ea, eb, ec) refl)
    by false false false false e ea eb ec ed ee = refuses NoService (rw (ea, eb, ec, ed) refl) (rw (ea, eb, ec, ed) refl)
    by false false false true true ea eb ec ed ee =
        let limit = only_limit names m.services (length m.waiters) rising ea eb ec ed ∙ ap (λ x. cond x (Some fault.TooMany) None) ee in
        let why : wait_refusal names m ≡ Some TooMany = rw (ea, eb, ec, ed, ee) refl in
        chooses_this (Wait condition mode timeout names) m services _ (wait condition mode timeout (serials_named names m.services))
        (rw (ea, eb, ec, ed) refl) (record {
          work = rw why refl;
          hears = rw why (record { after = λ h. rw limit refl; at_once = λ h. rw limit refl });
          asks = refl;
          reply = λ h. rw (why, limit) refl;
        })
    by false false false true false ea eb ec ed ee =
        let limit = only_limit names m.services (length m.waiters) rising ea eb ec ed ∙ ap (λ x. cond x (Some fault.TooMany) None) ee in
        let why : wait_refusal names m ≡ None = rw (ea, eb, ec, ed, ee) refl in
        chooses_this (Wait condition mode timeout names) m services _ (wait condition mode timeout (serials_named names m.services))
        (rw (ea, eb, ec, ed) refl) (record {
          work = rw why refl;
          hears = rw why (record { after = λ h. rw limit refl; at_once = λ h. rw limit refl });
          asks = refl;
          reply = λ h. rw (why, limit) refl;
        })

-- a serial that no waiter has ends none
none_ended : (id : ℕ) (ps : List WrittenWaiter) → find (is_waiter_of id) ps ≡ None → filter (λ p. not (is_waiter_of id p)) ps ≡ ps
none_ended id [] h = refl
none_ended id (p ∷ ps) h = by (is_waiter_of id p) (none_ended id ps) h
  where
    by : (b : Bool) → (find (is_waiter_of id) ps ≡ None → filter (λ q. not (is_waiter_of id q)) ps ≡ ps)
        → cond b (Some p) (find (is_waiter_of id) ps) ≡ None
        → cond (not b) (p ∷ filter (λ q. not (is_waiter_of id q)) ps) (filter (λ q. not (is_waiter_of id q)) ps) ≡ p ∷ ps
    by true rest e = cc
    by false rest e = ap (λ qs. p ∷ qs) (rest e)

-- a cancel
pub chooses_cancel : {A : Type 0} (id : ℕ) (m : Machine) (services : List Supervised) → Chooses {A = A} (Cancel id) m services (cancel id)
chooses_cancel {A} id m services = by (find (is_waiter_of id) m.waiters) refl
  where
    by : (o : Option WrittenWaiter) → find (is_waiter_of id) m.waiters ≡ o → Chooses {A = A} (Cancel id) m services (cancel id)
    by None e =
        let none = none_ended id m.waiters e in
        record {
          work = rw e refl;
          hears = rw e (record { after = λ h i. record { history = h; waiters = none i; next = m.next_waiter }; at_once = λ h. refl });
          asks = refl;
          reply = λ h. rw e refl;
        }
    by (Some p) e = record {
      work = rw e refl;
      hears = rw e (record { after = λ h. refl; at_once = λ h. refl });
      asks = refl;
      reply =
          λ h. rw e refl;
    }
