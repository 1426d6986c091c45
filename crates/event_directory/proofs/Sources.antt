-- Two sources are the same, or they are not.
use Rattle.std.proofs.Common.{◌≡◌, Bool, true, false, refl, sym, ap, subst, ◌∙◌}
use Rattle.std.proofs.lemmas.Bool.{eqb-true, eq-eqb, false≢true}
use Rattle.std.proofs.lemmas.Slice.Eq.{bytes_eq-Decides}
use Rattle.event_directory.specs.Directories.{is_same_source}
use Rattle.event_directory.specs.declared.source.Source.{Source}
use Rattle.event_directory.specs.declared.source.Source.TheVariants.{Service, Directory}

pub is_same_true : (a b : Source) → is_same_source a b ≡ true → a ≡ b
is_same_true (Service a) (Service b) e = ap Service (eqb-true a b e)
is_same_true (Service a) (Directory b) e = absurd (false≢true e)
is_same_true (Directory a) (Service b) e = absurd (false≢true e)
is_same_true (Directory a) (Directory b) e = ap Directory ((bytes_eq-Decides a b).0 e)

pub is_same_refl : (a : Source) → is_same_source a a ≡ true
is_same_refl (Service a) = eq-eqb a a refl
is_same_refl (Directory a) = (bytes_eq-Decides a a).1 refl

is_same_flip : (a b : Source) → is_same_source a b ≡ true → is_same_source b a ≡ true
is_same_flip a b e = subst (λ (x : Source). is_same_source x a ≡ true) (is_same_true a b e) (is_same_refl a)

same_bool : (x y : Bool) → (x ≡ true → y ≡ true) → (y ≡ true → x ≡ true) → x ≡ y
same_bool true y f g = sym (f refl)
same_bool false true f g = g refl
same_bool false false f g = refl

pub is_same-sym : (a b : Source) → is_same_source a b ≡ is_same_source b a
is_same-sym a b = same_bool (is_same_source a b) (is_same_source b a) (is_same_flip a b) (is_same_flip b a)

-- a source that is the same as one is another than whatever that one is another than
pub other_than : (s source other : Source) → is_same_source s other ≡ true → is_same_source source other ≡ false → is_same_source s source ≡ false
other_than s source other same not =
    ap (λ x. is_same_source x source) (is_same_true s other same) ∙ is_same-sym other source ∙ not
