-- A run that goes on from another.
use Rattle.std.proofs.Common.{◌≡◌, List, [], ◌∷◌, ◌++◌, refl, ap, sym, subst, ◌∙◌}
use Rattle.std.proofs.lemmas.List.{map-append}
use Rattle.std.specs.declared.alloc.Global.{Global}
use Rattle.tree_core.specs.declared.input.Input.{Input}
use Rattle.tree_core.specs.Machine.{Machine, Outcome}
use Rattle.tree_core.specs.Run.{after, outcome, after_all, outcomes}
use Rattle.tree_core.specs.StandsFor.{StoredTree, StandsFor}
use Rattle.run_records.specs.Runs.{RunStep, IsLegal, end_of, inputs_of, outcomes_of}
use Rattle.locked_services.specs.Chain.{ClosedRun, AreChained, AreOneRun, chain_steps, chain_end}

after_both : (m : Machine) (one two : List (Input Global)) → after_all m (one ++ two) ≡ after_all (after_all m one) two
after_both m [] two = refl
after_both m (i ∷ one) two = after_both (after m i) one two

outcomes_both : (m : Machine) (one two : List (Input Global)) → outcomes m (one ++ two) ≡ outcomes m one ++ outcomes (after_all m one) two
outcomes_both m [] two = refl
outcomes_both m (i ∷ one) two = ap (λ (given : List (Outcome Global)). outcome m i ∷ given) (outcomes_both (after m i) one two)

end_both : (m : Machine) (one two : List RunStep) → end_of m (one ++ two) ≡ end_of (end_of m one) two
end_both m one two =
    ap (λ (is : List (Input Global)). after_all m is) (map-append (λ (s : RunStep). s.input) one two)
    ∙ after_both m (inputs_of one) (inputs_of two)

legal_both : (m : Machine) (one two : List RunStep) → IsLegal m one → IsLegal (end_of m one) two → IsLegal m (one ++ two)
legal_both m one two first second =
    map-append (λ (s : RunStep). s.outcome) one two
    ∙ (ap (λ (os : List (Outcome Global)). os ++ outcomes_of two) first
    ∙ (ap (λ (os : List (Outcome Global)). outcomes m (inputs_of one) ++ os) second
    ∙ (sym (outcomes_both m (inputs_of one) (inputs_of two))
    ∙ ap (λ (is : List (Input Global)). outcomes m is) (sym (map-append (λ (s : RunStep). s.input) one two)))))

-- a chain is one run
pub one_run : (tree : StoredTree) (runs : List ClosedRun) → AreChained tree runs → AreOneRun tree runs
one_run tree [] chained m stands = (refl, stands)
one_run tree (run ∷ runs) chained m stands =
    let here : StandsFor run.opening m = subst (λ (t : StoredTree). StandsFor t m) (sym chained.0) stands in
    let one = chained.1 m here in
    let rest = one_run run.tree runs chained.2 (end_of m run.steps) one.1 in (
      legal_both m run.steps (chain_steps runs) one.0 rest.0,
      subst (λ (e : Machine). StandsFor (chain_end run.tree runs) e) (sym (end_both m run.steps (chain_steps runs))) rest.1,
    )
