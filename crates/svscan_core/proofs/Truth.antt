-- What one test says, and two together.
use Rattle.std.proofs.Common.{◌≡◌, refl, Bool, true, false, ◌||◌, ◌&&◌, rules}

-- one or the other is true
pub either_left : (a b : Bool) → a ≡ true → (a || b) ≡ true
either_left true b h = refl
either_left false b h = search rules

pub either_right : (a b : Bool) → b ≡ true → (a || b) ≡ true
either_right true b h = refl
either_right false b h = h

-- both are false where one or the other is
pub neither_left : (a b : Bool) → (a || b) ≡ false → a ≡ false
neither_left true b h = h
neither_left false b h = refl

pub neither_right : (a b : Bool) → (a || b) ≡ false → b ≡ false
neither_right true b h = search rules
neither_right false b h = h

pub neither_of : (a b : Bool) → a ≡ false → b ≡ false → (a || b) ≡ false
neither_of true b h k = h
neither_of false b h k = k

-- one of them is true, and it is not the first one
pub second : (a b : Bool) → (a || b) ≡ true → a ≡ false → b ≡ true
second true b h k = search rules
second false b h k = h

-- both are true
pub both_left : (a b : Bool) → (a && b) ≡ true → a ≡ true
both_left true b h = refl
both_left false b h = h

pub both_right : (a b : Bool) → (a && b) ≡ true → b ≡ true
both_right true b h = h
both_right false b h = search rules

pub both_of : (a b : Bool) → a ≡ true → b ≡ true → (a && b) ≡ true
both_of true b h k = k
both_of false b h k = h
