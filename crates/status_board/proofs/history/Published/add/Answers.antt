use Rattle.std.proofs.Common.{length, sym, ◌∙◌, ap}
use Rattle.status_board.proofs.Adding.{adds_moves}
use Rattle.status_board.proofs.history.Published.add.Goals as goal

pub compare_exchange-found-requires : goal.compare_exchange-found-requires
compare_exchange-found-requires g c =
    let h = c.requires.word in
    let s = c.again-log.ensures in
    let offer = c.plain-offer.ensures in
    let pen = c.no_pen-pen.ensures in
    let book = ap (λ s. s.book) s ∙ (c.self.invariant.1 ∙ sym (ap (λ w. w.book) h)) in (
      ap (λ w. w.tracked) h,
      book,
      pen.0 ∙ book,
      offer.0,
      rw (ap (λ w. w.key) h, pen.1, offer.1, offer.3)
          (adds_moves c.again-log.result.log c.args.rows.now c.self.inside.count (ap (λ s. length s.log) s ∙ sym c.self.invariant.0)),
    )
