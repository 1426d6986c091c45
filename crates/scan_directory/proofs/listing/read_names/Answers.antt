use Rattle.std.proofs.Common.{◌≡◌, ◌<◌, length, ℕ, IfOk, IfSome, subst, ◌∙◌}
use Rattle.std.specs.Io.BufRead.{first_piece, DropsThrough}
use Rattle.std.specs.Io.Iter.{split_known_bytes}
use Rattle.scan_directory.proofs.Names.{one_more, all_listed}
use Rattle.scan_directory.proofs.listing.read_names.Goals as goal

pub loop-name-preserved : goal.loop-name-preserved
loop-name-preserved g c =
    let inv = c.loop-name.invariant in
    let old = split_known_bytes g.N.Read.remaining c.loop-name.name-iterator in
    let new = split_known_bytes g.N.Read.remaining c.next.new.self in
    let step = c.in-Some.ensures.steps.2 in
    let known = subst (λ (byte : ℕ). IfOk c.in-Some.name (λ x.
    IfSome old (λ xs. (0 < length xs) × (x.items ≡ first_piece byte xs)) × DropsThrough old new byte)) inv.0 step in
    let given = subst (λ r. IfOk r (λ x.
    IfSome old (λ xs. (0 < length xs) × (x.items ≡ first_piece 0 xs)) × DropsThrough old new 0)) c.in_ok-name.was known in (
      c.in-Some.ensures.steps.1 ∙ inv.0,
      λ names are gives. one_more names old new c.in_ok-name.name.items _ _ are given.0 given.1
          (search (c.in_ok-read_entry.ensures.listed, c.as_slice.ensures.value)) (inv.1 names are gives),
    )

pub returns : goal.returns
returns g c = record {
  listed = λ names are gives. all_listed names (split_known_bytes g.N.Read.remaining c.loop-name.name-iterator) _
      c.in-None.ensures.steps.2 (c.loop-name.invariant.1 names are gives);
}
