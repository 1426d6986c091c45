use Rattle.std.proofs.Common.{◌≡◌, ◌∷◌, ◌++◌, take}
use Rattle.std.specs.List.{flat_map}
use Rattle.tool_lines.specs.StatusLine.{field_in}
use Rattle.tool_lines.proofs.status_line.push_fields.Given as goal

abbrev pub invariant-loop-field : goal.invariant-loop-field
invariant-loop-field l =
    (l.line.items ≡ l.fn.line.items ++ flat_map (λ f. 32 ∷ field_in l.row f) (take l.field-index l.fields))
