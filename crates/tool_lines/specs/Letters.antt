-- A letter that is told to a follower, and what is printed for it.
use Rattle.std.specs.Prelude.{ℕ, List, [], ◌∷◌, ◌++◌, Bool, true, false, codes, if◌then◌else◌, ◌==◌}
use Rattle.tool_lines.specs.declared.followed_letter.FollowedLetter.{FollowedLetter}
use Rattle.tool_lines.specs.JsonLines.{key_text, member, number_member, quoted}
use Rattle.std.specs.Prelude.{Some}

-- what a letter says, in a word
abbrev pub letter_word : ℕ → List ℕ
letter_word letter =
    if letter == 115 then codes "supervised" else
    if letter == 117 then codes "up" else
    if letter == 85 then codes "ready" else
    if letter == 100 then codes "died" else
    if letter == 68 then codes "down" else
    if letter == 79 then codes "failed" else
    if letter == 120 then codes "gone" else codes "strange"

-- a line for people: the time of day, the name, the letter, and its word
abbrev pub plain_letter : List ℕ → FollowedLetter → List ℕ
plain_letter day l =
    day ++ (32 ∷ (l.name ++ (32 ∷ l.letter ∷ 32 ∷ (letter_word l.letter ++ 10 ∷ []))))

-- a line of JSON
abbrev pub json_head : List ℕ → FollowedLetter → List ℕ
json_head day l =
    key_text (codes "time") ++ quoted day ++ number_member (codes "at") (Some l.at) ++ number_member (codes "serial") (Some l.serial)

abbrev pub json_tail : FollowedLetter → List ℕ
json_tail l =
    member (codes "name") (quoted l.name) ++ member (codes "letter") (quoted (l.letter ∷ []))
    ++ member (codes "event") (quoted (letter_word l.letter))

unfoldable pub json_letter : List ℕ → FollowedLetter → List ℕ
json_letter day l = (123 ∷ json_head day l) ++ json_tail l ++ codes "}\n"

abbrev pub letter_text : Bool → List ℕ → FollowedLetter → List ℕ
letter_text true day l = json_letter day l
letter_text false day l = plain_letter day l
