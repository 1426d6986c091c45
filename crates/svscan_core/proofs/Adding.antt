-- New services behind those that stay.
use Rattle.std.proofs.Common.{◌≡◌, ℕ, ◌+◌, arith, List, [], ◌∷◌, ◌++◌, sym, ◌∙◌, ap, subst, map, append_assoc}
use Rattle.std.specs.Prelude.{All, nat_lt}
use Rattle.std.specs.List.{list_all}
use Rattle.std.proofs.lemmas.List.{map-append}
use Rattle.std.proofs.lemmas.List.Elements.{All-push}
use Rattle.death_tally.specs.LastDeaths.{new_tally}
use Rattle.deadlines.specs.Timers.{is_rising}
use Rattle.s6_events.specs.declared.moment.Moment.{Moment}
use Rattle.s6_events.specs.declared.moment.Moment.TheVariants as moment
use Rattle.servicedir.specs.declared.config.Config.{Config}
use Rattle.supervise_core.specs.declared.chart_state.ChartState.{ChartState}
use Rattle.supervise_core.specs.declared.out.Out.{Out}
use Rattle.supervise_core.specs.ChartState.{new_service}
use Rattle.supervise_core.specs.MatchesMove.{MatchesMove}
use Rattle.supervise_core.specs.Moves.{begin_move}
use Rattle.supervise_core.specs.Service.{Supervised, AgreesWith}
use Rattle.supervise_core.proofs.Identity.{keeps_begin}
use Rattle.svscan_core.specs.Moves.{service_mark, moment_of}
use Rattle.svscan_core.specs.Adding.{Adding, GoesOn}
use Rattle.svscan_core.specs.Deaths.{IsTallied}
use Rattle.svscan_core.specs.Sound.{AllAgree, IsNumbered}
use Rattle.svscan_core.specs.Table.{charts_of, serials_of}
use Rattle.svscan_core.proofs.Agreeing.{Lack, all_others_agree}
use Rattle.svscan_core.proofs.Serials.{later_other}
use Rattle.svscan_core.proofs.SerialsRise.{last_above, rising_next}
use Rattle.svscan_core.proofs.Taking.{joined}
use Rattle.svscan_core.proofs.Tallied.{begins_tallied}
use Rattle.svscan_core.proofs.Truth.{both_left, both_right}

-- the serial of the next service is that of none
pub lacks_next : (next : ℕ) (services : List Supervised) → IsNumbered next (charts_of services) → Lack next services
lacks_next next [] h = tt
lacks_next next (s ∷ services) h =
    let ns = serials_of (charts_of services) ++ next ∷ [] in (
      later_other s.chart.sid next (last_above s.chart.sid next (serials_of (charts_of services)) (both_left _ (is_rising ns) h)),
      lacks_next next services (both_right (list_all (λ m. nat_lt s.chart.sid m) ns) _ h),
    )

-- one more service goes last
pub one_goes_on : (services : List Supervised) (old new : Adding) (s : Supervised) (name : List ℕ) (config : Config) (out : Out)
    → MatchesMove (begin_move (new_service old.next_sid name config)) s.chart out
    → ((history : List Moment) → AgreesWith s (history ++ map (λ mark. moment.Event old.next_sid mark) out.events.items))
    → s.tally ≡ new_tally config.max_death_tally
    → new.added ≡ old.added ++ s ∷ [] → new.next_sid ≡ old.next_sid + 1
    → new.events ≡ old.events ++ map (service_mark old.next_sid) out.events.items
    → IsNumbered old.next_sid (charts_of (services ++ old.added)) → GoesOn services old new
one_goes_on services old new s name config out gives begins begun more next told numbered =
    let all : services ++ new.added ≡ (services ++ old.added) ++ s ∷ [] =
    ap (λ ss. services ++ ss) more ∙ sym (append_assoc services old.added (s ∷ [])) in
    let sid : s.chart.sid ≡ old.next_sid = ap (λ (c : ChartState). c.sid) gives.chart ∙ (keeps_begin old.next_sid name config).sid in
    let most : s.chart.config.max_death_tally ≡ config.max_death_tally =
    ap (λ (c : ChartState). c.config.max_death_tally) gives.chart ∙ (keeps_begin old.next_sid name config).most in
    let numbers : serials_of (charts_of (services ++ new.added)) ≡ serials_of (charts_of (services ++ old.added)) ++ old.next_sid ∷ [] =
    ap (λ ss. serials_of (charts_of ss)) all
    ∙ (ap serials_of (map-append (λ (x : Supervised). x.chart) (services ++ old.added) (s ∷ []))
    ∙ (map-append (λ (c : ChartState). c.sid) (charts_of (services ++ old.added)) (s.chart ∷ [])
    ∙ ap (λ n. serials_of (charts_of (services ++ old.added)) ++ n ∷ []) sid)) in
    record {
      order =
          ap (λ ns. is_rising (ns ++ new.next_sid ∷ [])) numbers
          ∙ (ap (λ n. is_rising ((serials_of (charts_of (services ++ old.added)) ++ old.next_sid ∷ []) ++ n ∷ [])) next
          ∙ rising_next (serials_of (charts_of (services ++ old.added))) old.next_sid numbered);
      agrees = λ h agreed.
          let here = h ++ map moment_of old.events in
          let marks = map (λ mark. moment.Event old.next_sid mark) out.events.items in
          let others : AllAgree (services ++ old.added) (here ++ marks) =
          all_others_agree old.next_sid (services ++ old.added) here out.events.items
          (lacks_next old.next_sid (services ++ old.added) numbered) agreed in
          subst (λ (ss : List Supervised). AllAgree ss (h ++ map moment_of new.events)) (sym all)
          (subst (λ (ms : List Moment). AllAgree ((services ++ old.added) ++ s ∷ []) ms)
          (sym (ap (λ es. h ++ map moment_of es) told ∙ joined h old.events old.next_sid out.events.items))
          (All-push (λ (x : Supervised). AgreesWith x (here ++ marks)) (services ++ old.added) s others (begins here)));
      later = omega (arith, next);
      tallies = λ deaths before tallied.
          subst (λ (ss : List Supervised). All (λ x. IsTallied x deaths) ss) (sym all)
          (All-push (λ (x : Supervised). IsTallied x deaths) (services ++ old.added) s tallied
          (begins_tallied s old.next_sid config deaths before sid most begun));
    }
