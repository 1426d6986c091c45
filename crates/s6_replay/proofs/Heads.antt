-- The head line, read in parts.
use Rattle.std.proofs.Common.{◌≡◌, ℕ, List, [], ◌∷◌, ◌++◌, codes, take, refl, sym, ap, ◌∙◌, subst, arith}
use Rattle.std.specs.Prelude.{Option, Some, None}
use Rattle.std.specs.Io.KnownBytes.{Consumes}
use Rattle.std.proofs.KnownBytes.{Consumes-trans}
use Rattle.std.proofs.lemmas.List.{append_cancel_left, take-append-le}
use Rattle.s6_script.specs.Script.{head_line}
use Rattle.s6_replay.specs.Turn.{HeadStops, LiteralStops, VersionStops, version_digit}
use Rattle.s6_script.specs.declared.version.Version.{Version}
use Rattle.s6_script.specs.declared.version.Version.TheVariants.{One, Two}
use Rattle.s6_replay.specs.declared.fault.ReplayFault.{ReplayFault}
use Rattle.s6_replay.specs.declared.fault.ReplayFault.TheVariants.{Head, Line, Pattern, Truncated, Read, Write, NoMemory}

-- what both head lines begin with
abbrev front : List ℕ
front = codes "s6-script "

head_is : (version : Version) (rest : List ℕ) → head_line version ++ rest ≡ front ++ (version_digit version ∷ 10 ∷ rest)
head_is One rest = refl
head_is Two rest = refl

-- what is left behind some bytes that were read
left_behind : (a b : Option (List ℕ)) (xs ys : List ℕ) → Consumes a b xs → a ≡ Some (xs ++ ys) → b ≡ Some ys
left_behind None b xs ys p e = absurd cc
left_behind (Some x) None xs ys p e = absurd p
left_behind (Some x) (Some y) xs ys p e =
    let same : x ≡ xs ++ ys = cc in
    ap Some (append_cancel_left xs y ys (sym p ∙ same))

begins_front : (a : Option (List ℕ)) (version : Version) (rest : List ℕ) → a ≡ Some (head_line version ++ rest)
    → a ≡ Some (front ++ (version_digit version ∷ 10 ∷ rest))
begins_front a version rest e = e ∙ ap Some (head_is version rest)

pub stops_in_front : (fault : ReplayFault) (a b : Option (List ℕ)) → LiteralStops fault (codes "s6-script ") a b → HeadStops fault a b
stops_in_front Head a b t = λ version rest e. t (version_digit version ∷ 10 ∷ rest) (begins_front a version rest e)
stops_in_front Read a b t =
    let same : take t.0 (head_line One) ≡ take t.0 front = take-append-le t.0 front (49 ∷ 10 ∷ []) (omega (arith, t.1)) in
    (One, (t.0, subst (Consumes a b) (sym same) t.2))
stops_in_front (Line n) a b t = absurd t
stops_in_front (Pattern n) a b t = absurd t
stops_in_front Truncated a b t = absurd t
stops_in_front Write a b t = absurd t
stops_in_front NoMemory a b t = absurd t

pub stops_at_digit : (fault : ReplayFault) (a b c : Option (List ℕ)) → Consumes a b (codes "s6-script ") → VersionStops fault b c
    → HeadStops fault a c
stops_at_digit Head a b c p t = λ version rest e.
    t version (10 ∷ rest) (left_behind a b front (version_digit version ∷ 10 ∷ rest) p (begins_front a version rest e))
stops_at_digit Read a b c p t = (One, (10, Consumes-trans a b c front [] p t))
stops_at_digit (Line n) a b c p t = absurd t
stops_at_digit (Pattern n) a b c p t = absurd t
stops_at_digit Truncated a b c p t = absurd t
stops_at_digit Write a b c p t = absurd t
stops_at_digit NoMemory a b c p t = absurd t

-- a byte was read, and another is left behind it than a head line has
behind_digit : (b c : Option (List ℕ)) (x y : ℕ) (rest : List ℕ) → Consumes b c (x ∷ []) → b ≡ Some (y ∷ rest) → c ≡ Some rest
behind_digit None c x y rest p e = absurd cc
behind_digit (Some bs) None x y rest p e = absurd p
behind_digit (Some bs) (Some cs) x y rest p e =
    let same : x ∷ cs ≡ y ∷ rest = cc in
    let tail : cs ≡ rest = cc in
    ap Some tail

pub stops_at_newline : (fault : ReplayFault) (version : Version) (a b c d : Option (List ℕ)) → Consumes a b (codes "s6-script ")
    → Consumes b c (version_digit version ∷ []) → LiteralStops fault (10 ∷ []) c d → HeadStops fault a d
stops_at_newline Head version a b c d p q t = λ wanted rest e.
    t rest (behind_digit b c (version_digit version) (version_digit wanted) (10 ∷ rest) q
    (left_behind a b front (version_digit wanted ∷ 10 ∷ rest) p (begins_front a wanted rest e)))
stops_at_newline Read version a b c d p q t =
    let none : t.0 ≡ 0 = omega (arith, t.1) in
    let here : Consumes c d [] = subst (λ (n : ℕ). Consumes c d (take n (10 ∷ []))) none t.2 in
    let upto = Consumes-trans a c d _ [] (Consumes-trans a b c front (version_digit version ∷ []) p q) here in
    (version, (11, subst (Consumes a d) (nothing_more version) upto))
  where
    nothing_more : (version : Version) → (front ++ (version_digit version ∷ [])) ++ [] ≡ take 11 (head_line version)
    nothing_more One = refl
    nothing_more Two = refl
stops_at_newline (Line n) version a b c d p q t = absurd t
stops_at_newline (Pattern n) version a b c d p q t = absurd t
stops_at_newline Truncated version a b c d p q t = absurd t
stops_at_newline Write version a b c d p q t = absurd t
stops_at_newline NoMemory version a b c d p q t = absurd t
