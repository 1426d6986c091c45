-- An entry of a listing has its name at its place among the names.
use Rattle.std.proofs.Common.{◌≡◌, ℕ, List, ◌<◌, length, get_or, sym, ◌∙◌, ap, subst}
use Rattle.std.proofs.lemmas.List.{length-map, get_or-map}
use Rattle.svscan_core.specs.declared.entry.Entry.{Entry}
use Rattle.svscan_core.specs.Listing.{names_in}

pub name_within : (listing : List Entry) (i : ℕ) → i < length listing → i < length (names_in listing)
name_within listing i within = subst (λ n. i < n) (sym (length-map listing (λ (e : Entry). e.name))) within

pub name_at : (listing : List Entry) (i : ℕ) (entry : Entry) → i < length listing → entry ≡ get_or listing i entry
    → entry.name ≡ get_or (names_in listing) i entry.name
name_at listing i entry within at = ap (λ e. e.name) at ∙ sym (get_or-map (λ (e : Entry). e.name) listing i entry entry.name within)
