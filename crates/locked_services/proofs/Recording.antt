-- The texts of runs of which each goes on from the one before are one script, with the machine's replies.
use Rattle.std.proofs.Common.{◌≡◌, ℕ, List, [], ◌∷◌, ◌++◌, map, false, refl, ap, sym, ◌∙◌, append_assoc}
use Rattle.std.specs.List.{flat_map}
use Rattle.std.specs.declared.alloc.Global.{Global}
use Rattle.tree_core.specs.declared.input.Input.{Input}
use Rattle.tree_core.specs.Machine.{Outcome, new_machine}
use Rattle.tree_core.specs.Run.{outcomes}
use Rattle.s6_replay.specs.Checking.{AreLegal}
use Rattle.s6_script.specs.Script.{Recorded, head_line, script, step_lines}
use Rattle.s6_script.specs.ReplyText.{reply_text}
use Rattle.s6_script.specs.declared.version.Version.TheVariants.{Two}
use Rattle.run_records.specs.Runs.{RunStep, IsLegal, inputs_of, outcomes_of}
use Rattle.run_records.specs.RunText.{lines_of, recorded_of, run_text}
use Rattle.run_records.proofs.RunText.{lines_join}
use Rattle.locked_services.specs.Chain.{ClosedRun, chain_steps}
use Rattle.locked_services.specs.Recording.{chain_recorded, chain_text}

lines_map : (steps : List RunStep) → lines_of steps ≡ flat_map (step_lines Two) (map recorded_of steps)
lines_map [] = refl
lines_map (s ∷ ss) = ap (λ (t : List ℕ). step_lines Two (recorded_of s) ++ t) (lines_map ss)

later_lines : (runs : List ClosedRun) → flat_map (λ (r : ClosedRun). run_text false r.steps) runs ≡ lines_of (chain_steps runs)
later_lines [] = refl
later_lines (r ∷ rs) = ap (λ (t : List ℕ). lines_of r.steps ++ t) (later_lines rs) ∙ sym (lines_join r.steps (chain_steps rs))

-- one script
pub chain_script : (run : ClosedRun) (runs : List ClosedRun) → chain_text (run ∷ runs) ≡ script Two (chain_recorded (run ∷ runs))
chain_script run runs =
    ap (λ (t : List ℕ). (head_line Two ++ lines_of run.steps) ++ t) (later_lines runs)
    ∙ (append_assoc (head_line Two) (lines_of run.steps) (lines_of (chain_steps runs))
    ∙ ap (λ (t : List ℕ). head_line Two ++ t) (sym (lines_join run.steps (chain_steps runs)) ∙ lines_map (chain_steps (run ∷ runs))))

replies : (steps : List RunStep)
    → map (λ (s : Recorded Global). s.reply) (map recorded_of steps) ≡ map (λ (o : Outcome Global). reply_text o.reply) (outcomes_of steps)
replies [] = refl
replies (s ∷ ss) = ap (λ (ts : List (List ℕ)). reply_text s.outcome.reply ∷ ts) (replies ss)

inputs : (steps : List RunStep) → map (λ (s : Recorded Global). s.input) (map recorded_of steps) ≡ inputs_of steps
inputs [] = refl
inputs (s ∷ ss) = ap (λ (is : List (Input Global)). s.input ∷ is) (inputs ss)

-- the replies of a legal history are the machine's
pub are_legal : (steps : List RunStep) → IsLegal new_machine steps → AreLegal (map recorded_of steps)
are_legal steps legal =
    replies steps
    ∙ (ap (map (λ (o : Outcome Global). reply_text o.reply)) legal
    ∙ ap (λ (is : List (Input Global)). map (λ (o : Outcome Global). reply_text o.reply) (outcomes new_machine is)) (sym (inputs steps)))
