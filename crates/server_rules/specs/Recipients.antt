-- What a step posts to whom, and in which order.
use Rattle.std.specs.Prelude.{ℕ, Bool, true, false, List, [], ◌∷◌, ◌++◌, slice_get, slice_set, Option, Some, None}
use Rattle.std.specs.List.{position}
use Rattle.std.specs.declared.alloc.Global.{Global}
use Rattle.s6_script.specs.EffectLines.{match_line, release_line}
use Rattle.s6_script.specs.ReplyText.{reply_text}
use Rattle.svscan_core.specs.declared.event.Event.{Event}
use Rattle.tree_core.specs.Machine.{Outcome}
use Rattle.tree_core.specs.declared.effect.Match.{Match}
use Rattle.tree_core.specs.declared.effect.Release.{Release}
use Rattle.tree_core.specs.declared.reply.Reply.{Reply}
use Rattle.server_rules.specs.declared.places.Place.{Place}
use Rattle.server_rules.specs.declared.places.Place.TheVariants.{Scanner, Client}
use Rattle.server_rules.specs.declared.recipients.Line.{Line}
use Rattle.server_rules.specs.declared.recipients.Line.TheVariants as line
use Rattle.server_rules.specs.declared.recipients.Post.{Post}
use Rattle.server_rules.specs.declared.roster.Member.{Member}
use Rattle.server_rules.specs.declared.status_lines.Subject.TheVariants as subject
use Rattle.server_rules.specs.declared.todo.Answer.TheVariants as answer
use Rattle.server_rules.specs.declared.todo.News.{News}
use Rattle.server_rules.specs.declared.todo.News.TheVariants as news
use Rattle.server_rules.specs.declared.todo.Todo.{Todo}
use Rattle.server_rules.specs.declared.todo.Todo.TheVariants as todo
use Rattle.server_rules.specs.Letters.{letter_line, told_letter}
use Rattle.server_rules.specs.Connection.{View, Moved}
use Rattle.server_rules.specs.NewsTold.{is_for, told_move}
use Rattle.server_rules.specs.ErrandEnds.{answered_move}

-- the slots of the connections that the reply to a step answers: for a scan those that asked for it, for a request the one that asked
abbrev pub askers_of : Place → Bool → List ℕ → List ℕ
askers_of Scanner true served = served
askers_of (Client slot) is_scan served = slot ∷ []
askers_of place is_scan served = []

-- the connections, by their slots, and what was posted, in order
pub record Handed : Type 0 where
  pub connections : List View
  pub posts : List Post

abbrev pub untouched : List View → Handed
untouched cs = record { connections = cs; posts = [] }

-- what is posted to a connection: an answer, or the news
abbrev pub posts_of : ℕ → Option News → Todo → List Post
posts_of slot n (todo.Give answer) = record { slot = slot; line = line.Answer answer } ∷ []
posts_of slot (Some n) todo.Tell = record { slot = slot; line = line.News n } ∷ []
posts_of slot n t = []

abbrev pub moved_at : ℕ → Option News → Moved → List View → Handed
moved_at slot n m cs = record { connections = slice_set cs slot m.next; posts = posts_of slot n m.todo }

-- the reply goes to the connection on this slot
abbrev pub answer_in : Option View → Reply Global → ℕ → List View → Handed
answer_in (Some c) reply slot cs = moved_at slot None (answered_move reply c) cs
answer_in None reply slot cs = untouched cs

abbrev pub answer_at : Reply Global → ℕ → List View → Handed
answer_at reply slot cs = answer_in (slice_get cs slot) reply slot cs

-- the news go to this connection, if they concern it
abbrev pub tell_in : Option View → News → ℕ → List View → Handed
tell_in (Some c) n slot cs = moved_at slot (Some n) (told_move n c) cs
tell_in None n slot cs = untouched cs

-- the news go to the connection on this slot, if they concern it
abbrev pub tell_slot : News → ℕ → List View → Handed
tell_slot n slot cs = tell_in (slice_get cs slot) n slot cs

abbrev pub tell_at : Option ℕ → News → List View → Handed
tell_at (Some slot) n cs = tell_slot n slot cs
tell_at None n cs = untouched cs

abbrev pub tell : News → List View → Handed
tell n cs = tell_at (position (is_for n) cs) n cs

abbrev pub tell_match : Match → List View → Handed
tell_match found cs = tell (news.Match found) cs

abbrev pub tell_release : Release → List View → Handed
tell_release release cs = tell (news.Release release) cs

-- the states of services are told
abbrev pub tells_states : Line → Bool
tells_states (line.Answer (answer.Status subject.States)) = true
tells_states l = false

-- one after the other
abbrev pub followed_by : Handed → Handed → Handed
followed_by a b = record { connections = b.connections; posts = a.posts ++ b.posts }

abbrev pub hand_all : {X : Type 0} → (X → List View → Handed) → List X → List View → Handed
hand_all hand [] cs = untouched cs
hand_all hand (x ∷ xs) cs = followed_by (hand x cs) (hand_all hand xs (hand x cs).connections)

-- the slots of connections, in rising order
abbrev pub all_slots : List ℕ
all_slots = 0 ∷ 1 ∷ 2 ∷ 3 ∷ 4 ∷ 5 ∷ 6 ∷ 7 ∷ 8 ∷ 9 ∷ 10 ∷ []

-- a letter goes to all that follow its service
abbrev pub tell_letter : ℕ → List Member → Event → List View → Handed
tell_letter at roster e cs = hand_all (tell_slot (news.Letter (told_letter at roster e))) all_slots cs

-- what a step at this moment hands out: first the reply, to those who asked for it, then its letters, then its matches, then its releases
abbrev pub with_answers : List ℕ → Outcome Global → List View → Handed
with_answers slots o cs = hand_all (answer_at o.reply) slots cs

abbrev pub with_letters : ℕ → List Member → Outcome Global → Handed → Handed
with_letters at roster o h = followed_by h (hand_all (tell_letter at roster) o.events h.connections)

abbrev pub with_matches : Outcome Global → Handed → Handed
with_matches o h = followed_by h (hand_all tell_match o.matched h.connections)

abbrev pub with_releases : Outcome Global → Handed → Handed
with_releases o h = followed_by h (hand_all tell_release o.released h.connections)

abbrev pub handed_out : List ℕ → ℕ → List Member → Outcome Global → List View → Handed
handed_out slots at roster o cs = with_releases o (with_matches o (with_letters at roster o (with_answers slots o cs)))

-- the texts that are posted, each with an empty line behind it
abbrev pub reply_lines : Reply Global → List ℕ
reply_lines reply = reply_text reply ++ (10 ∷ 10 ∷ [])

abbrev pub news_lines : News → List ℕ
news_lines (news.Match found) = match_line found ++ 10 ∷ []
news_lines (news.Release release) = release_line release ++ 10 ∷ []
news_lines (news.Letter letter) = letter_line letter ++ 10 ∷ []
