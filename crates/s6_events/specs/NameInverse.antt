-- How a name is stored: its text, and zeros behind it.
use Rattle.std.specs.Prelude.{ℕ, List, ◌++◌, ◌-◌, ◌≤◌, ◌≡◌, take, drop, length, replicate, IsTrue}
use Rattle.std.proofs.Common.{sym, ap, ◌∙◌, arith}
use Rattle.std.proofs.lemmas.List.{take-append-drop, length-take-le}
use Rattle.s6_events.specs.Name.{is_name}
use Rattle.s6_events.specs.declared.name.Name.TheInside.{Inside}

-- a text with zeros behind it, 64 bytes in all
abbrev pub with_padding : List ℕ → List ℕ
with_padding text = text ++ replicate (64 - length text) 0

-- the fields of the name with this text
abbrev pub from_text : List ℕ → Inside
from_text text = record { bytes = with_padding text; len = length text }

-- there are 64 bytes: the first `len` of them are a name, and the others are zeros
abbrev pub IsPadded : Inside → Type 0
IsPadded n = (n.len ≤ 64) × (length n.bytes ≡ 64) × (drop n.len n.bytes ≡ replicate (64 - n.len) 0)
    × IsTrue (is_name (take n.len n.bytes))

-- the text of a name gives its fields back
pub inverse_proof : (n : Inside) → IsPadded n → from_text (take n.len n.bytes) ≡ n
inverse_proof n h =
    let len : length (take n.len n.bytes) ≡ n.len = length-take-le n.len n.bytes (omega (arith, h.0, h.1)) in
    let bytes : with_padding (take n.len n.bytes) ≡ n.bytes =
    ap (λ k. take n.len n.bytes ++ replicate (64 - k) 0) len
    ∙ ap (λ r. take n.len n.bytes ++ r) (sym h.2)
    ∙ take-append-drop n.len n.bytes in
    λ i. record { bytes = bytes i; len = len i }
