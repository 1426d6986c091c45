use Rattle.std.proofs.Common.{rules, refl, sym, ap, ◌∙◌, ◌++◌, Some}
use Rattle.std.proofs.lemmas.List.{append-nil}
use Rattle.std.proofs.lemmas.Option.{slice_get_past, slice_get_read}
use Rattle.server_rules.specs.Recipients.{posts_of}
use Rattle.server_rules.proofs.recipients.tell_slot.Goals as goal

pub returns-in_default-clause-posts : goal.returns-in_default-clause-posts
returns-in_default-clause-posts c =
    rw (slice_get_past c.args.connections.now.items c.args.slot (search (rules, c.in_default.ensures.variant)))
    (sym (append-nil c.args.posts.now.items))

pub returns-clause-connections : goal.returns-clause-connections
returns-clause-connections c =
    rw (
      slice_get_read c.args.connections.now.items _ c.args.slot c.in-Some.connection.now refl
          (search (rules, c.in-Some.ensures.variant)) c.in-Some.ensures.value,
      c.told.ensures.next,
    ) refl

pub returns-clause-posts : goal.returns-clause-posts
returns-clause-posts c =
    rw (slice_get_read c.args.connections.now.items _ c.args.slot c.in-Some.connection.now refl
    (search (rules, c.in-Some.ensures.variant)) c.in-Some.ensures.value)
    (c.add_post.ensures.posts ∙ ap (λ t. c.args.posts.now.items ++ posts_of c.args.slot (Some c.args.news.now) t) c.told.ensures.todo)
