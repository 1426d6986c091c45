use Rattle.std.proofs.Common.{◌≡◌, ◌+◌, ◌<◌, ◌≤◌, ◌≢◌, ◌++◌, length, take, rules, sym, ap, subst, ◌∙◌, arith, take-take, length-append}
use Rattle.std.proofs.Common.{length-take-le, true, is_some}
use Rattle.std.proofs.lemmas.List.Elements.{All-append}
use Rattle.std.specs.Io.KnownBytes.{Consumes}
use Rattle.std.specs.Io.BufRead.{FillKeeps}
use Rattle.std.proofs.BufReadLemmas.{Consumes_shown}
use Rattle.s6_replay.specs.Lines.{HasNoNewline}
use Rattle.s6_replay.proofs.Buffered.{end_within, plain_before, end_before, with_newline, reads_on, reads_newline}
use Rattle.s6_replay.proofs.line.read_buffered.Goals as goal

pub returns-then-is_none-clause-ok : goal.returns-then-is_none-clause-ok
returns-then-is_none-clause-ok g c start before =
    let shown = c.in-Ok.buffered.now in
    let within = take c.min.result shown in
    let end = c.unwrap_or-end.result in
    let found = c.memchr-newline.ensures in
    let long : length within ≡ c.min.result = length-take-le c.min.result shown (omega arith) in
    let ends : end ≤ length within = end_within within c.memchr-newline.result end found c.unwrap_or-end.ensures in
    let rested = c.fill_buf.follows.lender-at-none in
    let filled = subst (FillKeeps _ (g.R.Read.remaining rested) (g.R.BufRead.consumable_len rested)) c.in-Ok.is c.fill_buf.follows.holds-at-none in
    let moved = Consumes_shown _ _ _ _ shown end
    (omega arith) c.in-Ok.ensures.front c.in-Ok.ensures.end filled.0 filled.1 c.consume.ensures.bytes in
    let part = take end within in
    let items : c.extend_from_slice.new.self.items ≡ c.args.line.now.items ++ part = search rules in (
      record {
        plain = subst HasNoNewline (sym items) (All-append (λ b. b ≢ 10) _ _ c.requires.part.plain
            (plain_before within c.memchr-newline.result end found c.unwrap_or-end.ensures));
        within = omega (arith, ap length items, length-append c.args.line.now.items part, length-take-le end within ends);
      },
      reads_on start _ _ _ part _ before (subst (Consumes _ _) (sym (take-take end c.min.result shown (omega arith))) moved.0) items,
    )

pub returns-clause-ok : goal.returns-clause-ok
returns-clause-ok g c start before =
    let shown = c.in-Ok.buffered.now in
    let within = take c.min.result shown in
    let end = c.unwrap_or-end.result in
    let found = c.memchr-newline.ensures in
    let some : is_some c.memchr-newline.result ≡ true = c.if-is_none.ensures in
    let long : length within ≡ c.min.result = length-take-le c.min.result shown (omega arith) in
    let ends : end < length within = end_before within c.memchr-newline.result end found some c.unwrap_or-end.ensures in
    let rested = c.fill_buf.follows.lender-at-none in
    let filled = subst (FillKeeps _ (g.R.Read.remaining rested) (g.R.BufRead.consumable_len rested)) c.in-Ok.is c.fill_buf.follows.holds-at-none in
    let moved = Consumes_shown _ _ _ _ shown (end + 1)
    (omega arith) c.in-Ok.ensures.front c.in-Ok.ensures.end filled.0 filled.1 c.consume-2.ensures.bytes in
    let part = take end within in
    let items : c.extend_from_slice.new.self.items ≡ c.args.line.now.items ++ part = search rules in
    let read = sym (take-take (end + 1) c.min.result shown (omega arith))
    ∙ with_newline within c.memchr-newline.result end found some c.unwrap_or-end.ensures in (
      subst HasNoNewline (sym items) (All-append (λ b. b ≢ 10) _ _ c.requires.part.plain
          (plain_before within c.memchr-newline.result end found c.unwrap_or-end.ensures)),
      omega (arith, ap length items, length-append c.args.line.now.items part, length-take-le end within (omega arith)),
      reads_newline start _ _ _ part _ before (subst (Consumes _ _) read moved.0) items,
    )
