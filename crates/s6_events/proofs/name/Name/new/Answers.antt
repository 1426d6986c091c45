-- What was copied is the text, and behind it lie the zeros that are left.
use Rattle.std.proofs.Common.{rules, ◌≡◌, ◌≤◌, length, ℕ, List, ◌++◌, ◌-◌, replicate, refl, arith, IsTrue, ◌∙◌}
use Rattle.std.proofs.lemmas.List.{take_at, drop_at, length-append, length-replicate, drop-replicate}
use Rattle.s6_events.specs.Name.{is_name}
use Rattle.s6_events.specs.NameInverse.{IsPadded}
use Rattle.s6_events.proofs.name.Name.new.Goals as goal

made_is_padded : (text front back : List ℕ) → front ≡ text → back ≡ replicate (64 - length text) 0 → length text ≤ 64 → IsTrue (is_name text)
    → IsPadded (record { bytes = front ++ back; len = length text })
made_is_padded text front back f b le is = (
  le,
  rw (f, b) (omega (arith, length-append text (replicate (64 - length text) 0), length-replicate {A = ℕ} (64 - length text) 0)),
  rw f (drop_at text back (length text) refl ∙ b),
  rw (f, take_at text back (length text) refl) is,
)

pub invariant_of-result : goal.invariant_of-result
invariant_of-result c = made_is_padded c.args.text.now c.copy_from_slice.new.self _ c.copy_from_slice.ensures.after
    (drop-replicate (length c.args.text.now) 64 0) (search rules) (search rules)
