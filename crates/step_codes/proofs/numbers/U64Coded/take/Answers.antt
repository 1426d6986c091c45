use Rattle.std.proofs.Common.{rules, ◌≡◌, ℕ, List, [], length, ap, ◌∙◌, arith}
use Rattle.byteorder.specs.Endian.{little_bytes, little_number}
use Rattle.byteorder.specs.Numbers.{little_number-reads_back}
use Rattle.std.proofs.lemmas.Bool.Decides.{nat_tests}
use Rattle.step_codes.proofs.NumberCodes.{at_small, at_middle, at_large}
use Rattle.step_codes.proofs.numbers.U64Coded.take.Goals as goal

pub returns-then-bytes-lt4 : goal.returns-then-bytes-lt4
returns-then-bytes-lt4 c one rest fits is =
    let cut = at_middle one c.args.code.now rest _ _ c.take_byte-first.ensures is _ _
    (let e = c.if-first.true in grind (arith, nat_tests)) c.take_bytes-bytes.ensures in
    let four : length c.take_bytes-bytes.result.now ≡ 4 = ap (λ (bytes : List ℕ). length bytes) cut.1 in
    absurd (let less = c.if-bytes-lt4.true in omega arith)

pub returns-then-bytes-lt8 : goal.returns-then-bytes-lt8
returns-then-bytes-lt8 c one rest fits is =
    let cut = at_large one c.args.code.now rest _ _ c.take_byte-first.ensures is _ _
    (let e = c.if-first-2.true in grind (arith, nat_tests)) c.take_bytes-bytes-then-first-2.ensures in
    let eight : length c.take_bytes-bytes-then-first-2.result.now ≡ 8 = ap (λ (bytes : List ℕ). length bytes) cut.0 in
    absurd (let less = c.if-bytes-lt8.true in omega arith)

pub returns-else-bytes-lt4 : goal.returns-else-bytes-lt4
returns-else-bytes-lt4 c one rest fits is =
    let cut = at_middle one c.args.code.now rest _ _ c.take_byte-first.ensures is _ _
    (let e = c.if-first.true in grind (arith, nat_tests)) c.take_bytes-bytes.ensures in
    let read : little_number 4 (little_bytes 4 one) ≡ one = little_number-reads_back 4 one [] cut.0 in
    (c.from.ensures ∙ (c.read_u32.ensures ∙ (ap (λ (bytes : List ℕ). little_number 4 bytes) cut.1 ∙ read)), cut.2)

pub returns-else-bytes-lt8 : goal.returns-else-bytes-lt8
returns-else-bytes-lt8 c one rest fits is =
    let cut = at_large one c.args.code.now rest _ _ c.take_byte-first.ensures is _ _
    (let e = c.if-first-2.true in grind (arith, nat_tests)) c.take_bytes-bytes-then-first-2.ensures in
    let read : little_number 8 (little_bytes 8 one) ≡ one = little_number-reads_back 8 one [] fits in
    (c.read_u64.ensures ∙ (ap (λ (bytes : List ℕ). little_number 8 bytes) cut.0 ∙ read), cut.1)

pub returns-else-first-2 : goal.returns-else-first-2
returns-else-first-2 c one rest fits is =
    let small = at_small one c.args.code.now rest _ _ c.take_byte-first.ensures is
    (λ e. absurd (let no = c.if-first.false in grind (arith, nat_tests))) (λ e. absurd (let no = c.if-first-2.false in grind (arith, nat_tests))) in
    (search rules, small.1)
