use Rattle.std.proofs.Common.{◌≡◌, ℕ, List, [], ◌++◌, refl, ap, ◌∙◌}
use Rattle.step_codes.proofs.acts.take_wait.Goals as goal

pub returns : goal.returns
returns c wanted how timeout names rest few all count is =
    let condition = c.take-condition.ensures wanted _ tt is in
    let mode = c.take-mode.ensures how _ tt condition.1 in
    let time = c.take-timeout.ensures timeout _ few mode.1 in
    let taken = c.in_ok-take_list.ensures names rest count all time.1 in
    let all_names : c.take_list.new.into.items ≡ names = taken.0 ∙ ap (λ (xs : List (List ℕ)). xs ++ names) c.new-names.ensures.items in
    (rw (condition.0, mode.0, time.0, all_names) refl, taken.1)
