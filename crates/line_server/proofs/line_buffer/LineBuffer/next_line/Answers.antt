use Rattle.std.proofs.Common.{subst, refl, ◌∙◌}
use Rattle.line_server.specs.Line.{IsPart, IsTooLong}
use Rattle.line_server.proofs.Lines.{is_part, is_too_long}
use Rattle.line_server.proofs.line_buffer.LineBuffer.next_line.Goals as goal

pub returns-then-end-ge-LINE_LIMIT-clause-too_long : goal.returns-then-end-ge-LINE_LIMIT-clause-too_long
returns-then-end-ge-LINE_LIMIT-clause-too_long g c = λ _.
    let bytes = c.as_slice-bytes.result.now in
    let now = c.as_slice-bytes.ensures.value ∙ c.self.view_is in (
      subst IsTooLong now (is_too_long bytes c.first_newline-end.result c.first_newline-end.ensures.bound c.first_newline-end.ensures.plain
          c.if-end-ge-LINE_LIMIT.true),
      refl,
    )

pub returns-then-end-bytes-clause-part : goal.returns-then-end-bytes-clause-part
returns-then-end-bytes-clause-part g c = λ _.
    let bytes = c.as_slice-bytes.result.now in
    let now = c.as_slice-bytes.ensures.value ∙ c.self.view_is in (
      subst IsPart now (is_part bytes c.first_newline-end.result c.first_newline-end.ensures.plain c.if-end-bytes.true c.if-end-ge-LINE_LIMIT.false),
      refl,
    )
