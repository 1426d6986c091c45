-- The items before are the fields so far.
use Rattle.std.proofs.Common.{◌≡◌, false, filter_map, map, take, is_none}
use Rattle.std.specs.List.{list_any}
use Rattle.svc_commands.specs.Fields.{field_named}
use Rattle.svc_commands.proofs.svstat.fields_of.Given as goal

abbrev pub invariant-loop-item : goal.invariant-loop-item
invariant-loop-item l = record {
  fields : l.fields.items ≡ filter_map field_named (take l.item-index (map (λ i. i.now) l.item-items));
  good : list_any (λ item. is_none (field_named item)) (take l.item-index (map (λ i. i.now) l.item-items)) ≡ false;
}
