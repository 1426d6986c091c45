-- What the matches of the words before the cut say, of the words themselves.
use Rattle.std.proofs.Common.{◌≡◌, ◌∙◌, List, [], None, ap, ap₂, sym, subst}
use Rattle.clap.specs.Words.{Row, rows_of, found_of}
use Rattle.svc_commands.specs.FirstFault.{wait_fault}
use Rattle.svc_commands.specs.LineCommands.{IsWaitCommand}
use Rattle.svc_commands.specs.Matches.{kinds_for, listen_app, own_words, program_words, rows_for}
use Rattle.svc_commands.specs.RowsGiven.{is_empty}
use Rattle.svc_commands.proofs.Words.{texts_of}
use Rattle.svc_commands.proofs.svlisten.compile_svlisten.Goals as goal

pub returns : goal.returns
returns c =
    let rows : rows_of (found_of c.in_ok-matches.matches) ≡ rows_for listen_app (own_words (texts_of c.args.words.now)) =
    c.in_ok-matches.ensures.rows ∙ ap₂ rows_for c.in-Ok.ensures c.before_dashes-own.ensures in
    let kinds : kinds_for listen_app (own_words (texts_of c.args.words.now)) ≡ [] =
    sym (ap₂ kinds_for c.in-Ok.ensures c.before_dashes-own.ensures) ∙ c.in_ok-matches.ensures.kinds in
    let lacks : c.has_no_word.result ≡ is_empty (program_words (texts_of c.args.words.now)) =
    c.has_no_word.ensures ∙ ap is_empty c.after_dashes-program.ensures in
    let told : wait_fault (is_empty (program_words (texts_of c.args.words.now))) (rows_for listen_app (own_words (texts_of c.args.words.now)))
    ≡ None =
    ap₂ wait_fault (sym lacks) (sym rows) ∙ c.in_ok-wait.ensures.0 in
    let P : List Row → Type 0 = λ rs. IsWaitCommand rs c.in_ok-wait.wait in
    ((kinds, told), subst P rows c.in_ok-wait.ensures.1, c.after_dashes-program.ensures)
