-- What was handed out after one more.
use Rattle.std.proofs.Common.{rules, sym, ap, ◌∙◌, ◌≡◌, ◌<◌, ◌+◌, ◌++◌, [], ◌∷◌, ℕ, zero, suc, List, append_assoc, arith, length, take, slice_index_or}
use Rattle.std.proofs.lemmas.List.{append-nil}
use Rattle.server_rules.specs.declared.recipients.Post.{Post}
use Rattle.server_rules.specs.Connection.{View}
use Rattle.server_rules.specs.Recipients.{Handed, followed_by, hand_all, untouched}

-- nothing handed out after it changes nothing
nothing_after : (h : Handed) → followed_by h (untouched h.connections) ≡ h
nothing_after h = ap (λ (posts : List Post). record { connections = h.connections; posts = posts }) (append-nil h.posts)

in_turn : (a b c : Handed) → followed_by a (followed_by b c) ≡ followed_by (followed_by a b) c
in_turn a b c = ap (λ (posts : List Post). record { connections = c.connections; posts = posts }) (sym (append_assoc a.posts b.posts c.posts))

one_more : {X : Type 0} (hand : X → List View → Handed) (xs : List X) (cs : List View) (i : ℕ) (d : X) → i < length xs
    → hand_all hand (take (suc i) xs) cs
    ≡ followed_by (hand_all hand (take i xs) cs) (hand (slice_index_or xs i d) (hand_all hand (take i xs) cs).connections)
one_more hand [] cs i d low = search (rules, arith)
one_more hand (x ∷ xs) cs zero d low = nothing_after (hand x cs)
one_more hand (x ∷ xs) cs (suc i) d low =
    ap (λ h. followed_by (hand x cs) h) (one_more hand xs (hand x cs).connections i d (omega (arith, low)))
    ∙ in_turn (hand x cs) (hand_all hand (take i xs) (hand x cs).connections)
    (hand (slice_index_or xs i d) (hand_all hand (take i xs) (hand x cs).connections).connections)

suc_of : (i : ℕ) → i + 1 ≡ suc i
suc_of i = omega arith

-- the same, of what a loop has
pub record More {X : Type 0} (hand : X → List View → Handed) (xs : List X) (cs : List View) (i : ℕ) (start : List Post) (after : List View)
    (posted : List Post) : Type 0 where
  pub connections : after ≡ (hand_all hand (take (i + 1) xs) cs).connections
  pub posts : posted ≡ start ++ (hand_all hand (take (i + 1) xs) cs).posts

pub more : {X : Type 0} (hand : X → List View → Handed) (xs : List X) (cs : List View) (i : ℕ) (d : X) (start : List Post)
    (before after : List View) (posted posts : List Post) → i < length xs
    → before ≡ (hand_all hand (take i xs) cs).connections
    → posted ≡ start ++ (hand_all hand (take i xs) cs).posts
    → after ≡ (hand (slice_index_or xs i d) before).connections
    → posts ≡ posted ++ (hand (slice_index_or xs i d) before).posts
    → More hand xs cs i start after posts
more hand xs cs i d start before after posted posts low was had goes gets = record {
  connections = rw (suc_of i, one_more hand xs cs i d low, sym was) goes;
  posts = rw (suc_of i, one_more hand xs cs i d low, sym was)
      (gets ∙ (ap (λ (p : List Post). p ++ (hand (slice_index_or xs i d) before).posts) had ∙ append_assoc start _ _));
}
