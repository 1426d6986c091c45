-- Letters are read back from their bytes.
use Rattle.std.proofs.Common.{◌≡◌, ◌∙◌, ap, sym, ℕ, List, [], ◌∷◌, ◌++◌, ◌<◌, ◌≤◌, ◌+◌, length, map, take, get_or, Some, rules, arith}
use Rattle.std.proofs.lemmas.List.{take_more, get_or-map, length-map, length-take-le}
use Rattle.control_letters.specs.declared.control_letter.ControlLetter.{ControlLetter}
use Rattle.control_letters.specs.declared.control_letter.ControlLetter.TheVariants.{Up}
use Rattle.control_letters.specs.ControlLetter.{byte_of, letter_of_byte}

pub letter_back : (l : ControlLetter) → letter_of_byte (byte_of l) ≡ Some l
unfolding letter_of_byte
letter_back l = search rules

-- one letter more is read
pub one_letter_more : (word : List ℕ) (letters got new : List ControlLetter) (i : ℕ) → i < length word → word ≡ map byte_of letters
    → length letters ≤ 63
    → got ≡ take i letters → ((l : ControlLetter) → length got < 63 → get_or word i 0 ≡ byte_of l → new ≡ got ++ l ∷ [])
    → new ≡ take (i + 1) letters
one_letter_more word letters got new i here spelled few so_far adds =
    let long : length word ≡ length letters = ap length spelled ∙ length-map letters byte_of in
    let within : i < length letters = omega (arith, here, long) in
    let count : length got ≡ i = ap length so_far ∙ length-take-le i letters (omega (arith, within)) in
    adds (get_or letters i Up) (omega (arith, count, within, few)) (ap (λ w. get_or w i 0) spelled ∙ get_or-map byte_of letters i Up 0 within)
    ∙ (ap (λ g. g ++ get_or letters i Up ∷ []) so_far ∙ sym (take_more letters i Up within))
