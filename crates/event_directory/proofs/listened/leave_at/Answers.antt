use Rattle.std.proofs.Common.{◌∙◌, sym, ap, subst}
use Rattle.std.proofs.Math.Seq.{map-set_same}
use Rattle.std.specs.List.{position}
use Rattle.event_directory.specs.Directories.{is_same_source}
use Rattle.event_directory.specs.Parts.{AreDistinct}
use Rattle.event_directory.specs.Sending.{kept_without}
use Rattle.event_directory.proofs.Places.{first_at, absent_at, distinct_gone}
use Rattle.event_directory.proofs.Changed.{left_kept, left_gone, left_nowhere}
use Rattle.event_directory.proofs.listened.leave_at.Goals as goal

pub returns-then-none_left-clause-after : goal.returns-then-none_left-clause-after
returns-then-none_left-clause-after g c =
    rw c.remove-gone.ensures.items (left_gone c.args.id c.args.source c.args.listened.now.items c.in-Some.place c.unsubscribe-none_left.new.self
    c.index_mut.result.now
    (first_at c.args.source c.args.listened.now.items c.in-Some.place c.index_mut.result.now
    (sym (c.place_in.ensures ∙ ap (position (λ l. is_same_source c.args.source l.source)) c.deref.ensures.value) ∙ c.in-Some.is))
    (c.unsubscribe-none_left.ensures.after ∙ ap (λ l. kept_without c.args.id l.kept.standing) c.index_mut.ensures.value)
    (sym c.unsubscribe-none_left.ensures.none_left ∙ c.if-none_left.true) c.requires)

pub returns-then-none_left-clause-distinct : goal.returns-then-none_left-clause-distinct
returns-then-none_left-clause-distinct g c =
    rw c.remove-gone.ensures.items (distinct_gone c.args.listened.now.items c.in-Some.place c.unsubscribe-none_left.new.self
    (first_at c.args.source c.args.listened.now.items c.in-Some.place c.index_mut.result.now
    (sym (c.place_in.ensures ∙ ap (position (λ l. is_same_source c.args.source l.source)) c.deref.ensures.value) ∙ c.in-Some.is)).lt c.requires)

pub returns-else-none_left-clause-after : goal.returns-else-none_left-clause-after
returns-else-none_left-clause-after g c =
    left_kept c.args.id c.args.source c.args.listened.now.items c.in-Some.place c.unsubscribe-none_left.new.self c.index_mut.result.now
    (first_at c.args.source c.args.listened.now.items c.in-Some.place c.index_mut.result.now
    (sym (c.place_in.ensures ∙ ap (position (λ l. is_same_source c.args.source l.source)) c.deref.ensures.value) ∙ c.in-Some.is))
    (c.unsubscribe-none_left.ensures.source ∙ ap (λ l. l.source) c.index_mut.ensures.value)
    (c.unsubscribe-none_left.ensures.after ∙ ap (λ l. kept_without c.args.id l.kept.standing) c.index_mut.ensures.value)
    (sym c.unsubscribe-none_left.ensures.none_left ∙ c.if-none_left.false)

pub returns-else-none_left-clause-distinct : goal.returns-else-none_left-clause-distinct
returns-else-none_left-clause-distinct g c =
    subst AreDistinct (sym (map-set_same (λ l. l.source) c.args.listened.now.items c.in-Some.place c.unsubscribe-none_left.new.self
    c.index_mut.result.now
    (c.unsubscribe-none_left.ensures.source ∙ ap (λ l. l.source) c.index_mut.ensures.value))) c.requires

pub returns-in-None-clause-after : goal.returns-in-None-clause-after
returns-in-None-clause-after g c =
    left_nowhere c.args.id c.args.source c.args.listened.now.items
    (absent_at c.args.source c.args.listened.now.items
    (sym (c.place_in.ensures ∙ ap (position (λ l. is_same_source c.args.source l.source)) c.deref.ensures.value) ∙ c.in-None.is))
