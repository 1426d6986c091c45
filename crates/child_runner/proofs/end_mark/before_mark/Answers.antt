use Rattle.std.proofs.Common.{sym, subst, ◌∙◌}
use Rattle.std.proofs.lemmas.Bool.{false≢true}
use Rattle.memchr.specs.Find.{IsLastByte, is_byte}
use Rattle.child_runner.proofs.Marks.{first_none, first_some, first_end, rest_begins}
use Rattle.child_runner.proofs.end_mark.before_mark.Goals as goal

pub returns-in_default-clause-first : goal.returns-in_default-clause-first
returns-in_default-clause-first c =
    first_none c.args.bytes.now (subst (λ r. IsLastByte (is_byte 0) c.args.bytes.now r) c.in_default.is c.memrchr.ensures)

pub returns-then-begins_mark-clause-first : goal.returns-then-begins_mark-clause-first
returns-then-begins_mark-clause-first c =
    first_some c.args.bytes.now c.in-Some.place (subst (λ r. IsLastByte (is_byte 0) c.args.bytes.now r) c.in-Some.is c.memrchr.ensures)

pub returns-clause-first : goal.returns-clause-first
returns-clause-first c =
    let bytes = c.args.bytes.now in
    let place = c.in-Some.place in
    first_end bytes place (subst (λ r. IsLastByte (is_byte 0) bytes r) c.in-Some.is c.memrchr.ensures)
    (λ b. false≢true (sym c.if-begins_mark.false ∙ c.begins_mark.ensures.1 (rest_begins bytes place b)))
