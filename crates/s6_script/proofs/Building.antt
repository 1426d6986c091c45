-- From what was read to what a text spells.
use Rattle.std.proofs.Common.{◌≡◌, ◌∙◌, ℕ, List, ap, sym, subst}
use Rattle.std.specs.Prelude.{◌≢◌, ◌==◌, Result, Ok, Err, IfOk}
use Rattle.std.specs.List.{slice_split}
use Rattle.tree_core.specs.declared.input.Act.{Act}
use Rattle.s6_script.specs.declared.parse.LineFault.{LineFault}
use Rattle.s6_script.specs.declared.parse.LineFault.TheVariants.{Line, Pattern}
use Rattle.s6_script.specs.declared.unbuilt.UnbuiltAct.{UnbuiltAct}
use Rattle.s6_script.specs.Spelling.{IsAct, SpellsAct, SpellsActButForPattern, IsSubscription, act_words, act_spelling}
use Rattle.s6_script.specs.Unbuilt.{act_read, FitsButText}
use Rattle.s6_script.proofs.Reading.{act_words_back}

-- what is read from the words of a text is the act that it spells
pub act_reads : {A : Type 0} (text : List ℕ) (words : List (List ℕ)) (u : UnbuiltAct A) → words ≡ slice_split (λ b. b == 32) text
    → ((a : Act A) → IsAct a → words ≡ act_words a → act_read u ≡ a) → (a : Act A) → SpellsAct text a → act_read u ≡ a
act_reads text words u cut reads a s =
    reads a s.fits (cut ∙ (ap (λ t. slice_split (λ b. b == 32) t) s.text_is ∙ act_words_back a s.fits))

spells_it : {A : Type 0} (text : List ℕ) (u : UnbuiltAct A) → IsAct (act_read u) → text ≡ act_spelling (act_read u) → SpellsAct text (act_read u)
spells_it text u fits same = record { fits = fits; text_is = same }

-- what is built is the act that the text spells
pub built_found : {A : Type 0} (text : List ℕ) (u : UnbuiltAct A) (r : Result (Act A) LineFault) → FitsButText u
    → IfOk r (λ built. built ≡ act_read u) → (r ≢ Err Line → FitsButText u → IsAct (act_read u)) → text ≡ act_spelling (act_read u)
    → IfOk r (SpellsAct text)
built_found {A} text u (Ok built) readable same fits text_is =
    let act : IsAct (act_read u) = fits (λ e. cc e) readable in
    subst (λ (a : Act A). SpellsAct text a) (sym same) (spells_it text u act text_is)
built_found text u (Err fault) readable same fits text_is = tt

pub built_only : {A : Type 0} (text : List ℕ) (u : UnbuiltAct A) (r : Result (Act A) LineFault) → IfOk r (λ built. built ≡ act_read u)
    → ((a : Act A) → SpellsAct text a → act_read u ≡ a) → IfOk r (λ built. (a : Act A) → SpellsAct text a → built ≡ a)
built_only text u (Ok built) same reads = λ a s. same ∙ reads a s
built_only text u (Err fault) same reads = tt

-- where the text of a pattern is that of none, the words spell no act
pub unbuilt_line : {A : Type 0} (text : List ℕ) (u : UnbuiltAct A) (r : Result (Act A) LineFault) → (r ≡ Err Line → IsAct (act_read u) → ⊥)
    → ((a : Act A) → SpellsAct text a → act_read u ≡ a) → r ≡ Err Line → (a : Act A) → SpellsAct text a → ⊥
unbuilt_line {A} text u r strange reads e a s = strange e (subst (λ (b : Act A). IsAct b) (sym (reads a s)) s.fits)

pub unbuilt_pattern : {A : Type 0} (text : List ℕ) (u : UnbuiltAct A) (r : Result (Act A) LineFault) → FitsButText u
    → (r ≢ Err Line → FitsButText u → IsAct (act_read u)) → (r ≡ Err Pattern → IsSubscription (act_read u))
    → text ≡ act_spelling (act_read u)
    → r ≡ Err Pattern → SpellsActButForPattern A text
unbuilt_pattern {A} text u r readable fits refused text_is e =
    let act : IsAct (act_read u) = fits (λ l. cc (e, l)) readable in
    (act_read u, spells_it text u act text_is, refused e)
