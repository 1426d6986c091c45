use Rattle.std.proofs.Common.{[], ◌∷◌, ◌∙◌, ◌+◌, ap, length, length-append, map}
use Rattle.supervise_core.specs.StatusRow.{status_row}
use Rattle.svscan_core.specs.Table.{charts_of}
use Rattle.tree_core.proofs.RowFound.{rows_more}
use Rattle.tree_core.proofs.rows.fill_rows.Goals as goal

pub loop-place-preserved : goal.loop-place-preserved
loop-place-preserved g c = record {
  rows = λ history agrees.
      c.in_ok-push.ensures.items
      ∙ rows_more c.loop-place.rows.items (map (status_row history c.args.now) (charts_of c.args.registry.now.shown.services)) c.loop-place.place
      c.row_at.result (c.row_at.ensures history agrees) (c.loop-place.invariant.rows history agrees);
  count = ap length c.in_ok-push.ensures.items
      ∙ (length-append c.loop-place.rows.items (c.row_at.result ∷ []) ∙ ap (λ n. n + 1) c.loop-place.invariant.count);
}
