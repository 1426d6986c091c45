-- After a client left nothing is posted.
use Rattle.std.proofs.Common.{refl, ap, ◌∙◌, ◌≡◌, ◌++◌, [], ◌∷◌, List, false}
use Rattle.std.proofs.lemmas.List.{append-nil}
use Rattle.std.proofs.lemmas.Grind.{flat_map-append}
use Rattle.server_rules.specs.declared.phase.ClientPhase.{ClientPhase}
use Rattle.server_rules.specs.declared.phase.ClientPhase.TheVariants.{Idle, Stepping, UnderWay, PutOff, LeftStepping, Left, Leaving, Cancelling, Gone}
use Rattle.server_rules.specs.declared.requests.Request.{Request}
use Rattle.server_rules.specs.declared.todo.Todo.{Todo}
use Rattle.server_rules.specs.Connection.{View, is_here}
use Rattle.server_rules.specs.Made.{Made}
use Rattle.server_laws.specs.History.{Done, Event, Leave, History, happens, moved_by, opened, run}
use Rattle.server_laws.specs.Laws.{SilentOnceLeft, posted_of, posts}
use Rattle.server_laws.proofs.Away.{IsAway, away}

no_post : (d : Done) → posted_of d.todo ≡ [] → posts (d ∷ []) ≡ []
no_post d silent = rw silent refl

-- what is posted at a move by which nothing is
same_posts : (done : List Done) (d : Done) → posted_of d.todo ≡ [] → posts (done ++ d ∷ []) ≡ posts done
same_posts done d silent =
    flat_map-append (λ (one : Done). posted_of one.todo) done (d ∷ [])
    ∙ (ap (λ (p : List Todo). posts done ++ p) (no_post d silent) ∙ append-nil (posts done))

-- whatever comes, nothing is posted to a client that isn't there
silent : (events : List Event) (h : History) → is_here h.now.phase ≡ false → posts (run events h).done ≡ posts h.done
silent [] h gone = refl
silent (event ∷ events) h gone =
    let stays = away h.now event gone in
    silent events (happens h event) stays.gone ∙ same_posts h.done _ stays.silent

leaves_in : (phase : ClientPhase) (asked : List Request) (made : Made)
    → IsAway (moved_by Leave (record { phase = phase; asked = asked; made = made }))
leaves_in Idle asked made = record { gone = refl; silent = refl }
leaves_in (Stepping n) asked made = record { gone = refl; silent = refl }
leaves_in (UnderWay e) asked made = record { gone = refl; silent = refl }
leaves_in PutOff asked made = record { gone = refl; silent = refl }
leaves_in (LeftStepping n) asked made = record { gone = refl; silent = refl }
leaves_in (Left e) asked made = record { gone = refl; silent = refl }
leaves_in Leaving asked made = record { gone = refl; silent = refl }
leaves_in Cancelling asked made = record { gone = refl; silent = refl }
leaves_in Gone asked made = record { gone = refl; silent = refl }

leaves : (c : View) → IsAway (moved_by Leave c)
leaves c = leaves_in c.phase c.asked c.made

-- a list of events, and another one after it
run_append : (before after : List Event) (h : History) → run (before ++ after) h ≡ run after (run before h)
run_append [] after h = refl
run_append (event ∷ before) after h = run_append before after (happens h event)

pub silent_once_left : (before after : List Event) → SilentOnceLeft before after
silent_once_left before after =
    let h = run before opened in
    let left = leaves h.now in
    ap (λ (r : History). posts r.done) (run_append before (Leave ∷ after) opened)
    ∙ (silent after (happens h Leave) left.gone ∙ same_posts h.done _ left.silent)
