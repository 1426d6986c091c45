use Rattle.std.proofs.Common.{◌≡◌, ◌≤◌, ◌∙◌, ap, subst, sym}
use Rattle.wait_conditions.specs.Kept.{NoneBegan}
use Rattle.wait_conditions.specs.Stands.{StoredWaits, needed_from, place_or_end, waits_shown}
use Rattle.wait_conditions.proofs.Oldest.{least_needed, all_needed, within_end}
use Rattle.wait_conditions.proofs.waits.Waits.needed_from.Goals as goal

pub returns : goal.returns
returns g c =
    let s = c.args.self.now in
    let value : c.place_or_end.result ≡ needed_from (waits_shown s) =
    c.place_or_end.ensures
    ∙ (ap (λ o. place_or_end o c.self.inside.count) c.oldest.ensures
    ∙ ap (λ (x : StoredWaits). needed_from (waits_shown x)) c.self.view_is) in
    record {
      value = value;
      least = λ place h le. subst (λ n. place ≤ n) (sym value) (least_needed s.waiters s.count place h le);
      needed = subst (λ n. NoneBegan n s.waiters) (sym value) (all_needed s.waiters s.count);
      within = λ end h le. subst (λ n. n ≤ end) (sym value) (within_end s.waiters s.count end h le);
    }
