-- What a connection is told of its subscriptions, its waiters and the services that it follows.
use Rattle.std.specs.Prelude.{◌&&◌, Bool, if◌then◌else◌}
use Rattle.server_rules.specs.declared.todo.News.{News}
use Rattle.server_rules.specs.declared.todo.News.TheVariants as news
use Rattle.server_rules.specs.declared.todo.Todo.TheVariants as todo
use Rattle.server_rules.specs.Made.{Made, after_release, is_among, is_followed}
use Rattle.server_rules.specs.Connection.{View, Moved, stays, is_here}

-- TOLD: unless it has left, the connection is told news of its subscriptions and waiters, and letters of the services that it follows
abbrev pub has_made : News → Made → Bool
has_made (news.Match m) made = is_among m.subscription made.subscriptions
has_made (news.Release r) made = is_among r.waiter made.waiters
has_made (news.Letter l) made = is_followed l.name made.follows

abbrev pub is_for : News → View → Bool
is_for n c = is_here c.phase && has_made n c.made

abbrev pub after_news : News → Made → Made
after_news (news.Match m) made = made
after_news (news.Release r) made = after_release r.waiter made
after_news (news.Letter l) made = made

abbrev pub told_move : News → View → Moved
told_move n c = if is_for n c then record { next = record c { made = after_news n c.made }; todo = todo.Tell } else stays c
