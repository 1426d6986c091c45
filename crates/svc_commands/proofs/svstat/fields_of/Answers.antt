-- An item that is a field goes on; one that is none is told.
use Rattle.std.proofs.Common.{rules, ◌≡◌, ◌∙◌, [], true, ap, sym, get_or, refl}
use Rattle.svc_commands.specs.Fields.{field_named}
use Rattle.svc_commands.specs.RowsGiven.{items_in}
use Rattle.svc_commands.proofs.Items.{has_strange, more_fields, still_good, is_strange}
use Rattle.svc_commands.proofs.Words.{IsWordAt, texts_of}
use Rattle.svc_commands.proofs.svstat.fields_of.Goals as goal

pub returns-in_err-field : goal.returns-in_err-field
returns-in_err-field c =
    let at : IsWordAt c.deref-item-items.result.now c.loop-item.item-index
    (get_or c.deref-item-items.result.now c.loop-item.item-index (record { ref_ptr = (0, 0); now = [] })).now =
    record { within = c.loop-item-test.true; is = refl } in
    let strange : has_strange field_named (items_in c.args.list.now) ≡ true =
    ap (has_strange field_named) (sym (ap texts_of c.deref-item-items.ensures.value ∙ c.in-Ok.ensures))
    ∙ is_strange field_named _ _ _ at c.in_err-field.ensures.0 in
    search rules

pub loop-item-preserved : goal.loop-item-preserved
loop-item-preserved c =
    let at : IsWordAt c.deref-item-items.result.now c.loop-item.item-index
    (get_or c.deref-item-items.result.now c.loop-item.item-index (record { ref_ptr = (0, 0); now = [] })).now =
    record { within = c.loop-item-test.true; is = refl } in
    record {
      fields = more_fields field_named _ _ _ _ _ _ at c.in_ok-field.ensures c.loop-item.invariant.fields c.in_ok-add_field.ensures;
      good = still_good field_named _ _ _ _ at c.in_ok-field.ensures c.loop-item.invariant.good;
    }
