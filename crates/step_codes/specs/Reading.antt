-- What some bytes tell: the value whose code they begin with, and the bytes behind it. Of bytes that begin with no code they tell any value.
use Rattle.std.specs.Prelude.{ℕ, zero, suc, ◌==◌, Bool, Option, Some, None, List, [], ◌∷◌, take, drop, if◌then◌else◌}
use Rattle.byteorder.specs.Endian.{little_number}

abbrev pub Reads : Type 0 → Type 0
Reads X = List ℕ → X × List ℕ

-- this value, and no byte is read
abbrev pub gives : {X : Type 0} → X → Reads X
gives x bytes = (x, bytes)

-- what is read next, by what was read first
abbrev pub then_in : {X Y : Type 0} → Reads X → (X → Reads Y) → Reads Y
then_in read next bytes = next (read bytes).0 (read bytes).1

abbrev pub byte_in : Reads ℕ
byte_in [] = (0, [])
byte_in (b ∷ rest) = (b, rest)

-- so many bytes
abbrev pub bytes_in : ℕ → Reads (List ℕ)
bytes_in n bytes = (take n bytes, drop n bytes)

abbrev pub number_behind : ℕ → Reads ℕ
number_behind first rest =
    if first == 251 then (little_number 4 rest, drop 4 rest) else (if first == 252 then (little_number 8 rest, drop 8 rest) else (first, rest))

unfoldable pub number_in : Reads ℕ
number_in = then_in byte_in number_behind

abbrev pub bool_in : Reads Bool
bool_in = then_in byte_in (λ b. gives (b == 1))

abbrev pub option_in : {X : Type 0} → Reads X → Reads (Option X)
option_in read = then_in byte_in (λ b. if b == 1 then then_in read (λ x. gives (Some x)) else gives None)

-- a text behind its length
abbrev pub text_in : Reads (List ℕ)
text_in = then_in byte_in bytes_in

-- so many items
abbrev pub items_in : {X : Type 0} → Reads X → ℕ → Reads (List X)
items_in read zero bytes = ([], bytes)
items_in read (suc n) bytes = then_in read (λ x. then_in (items_in read n) (λ xs. gives (x ∷ xs))) bytes

-- items behind their number
abbrev pub list_in : {X : Type 0} → Reads X → Reads (List X)
list_in read = then_in number_in (items_in read)
