-- A reader more.
use Rattle.std.proofs.Common.{◌≡◌, ⊎_elim, List, [], ◌∷◌, ◌++◌, sym, ◌∙◌}
use Rattle.channel_names.proofs.Places.{get_last}
use Rattle.status_board.specs.declared.shot.Shot.{Shot}
use Rattle.office.specs.Opening.{AreReaders}

pub readers_more : (published : List Shot) (readers : List (List Shot)) (known : List Shot) → AreReaders published readers
    → known ≡ published → AreReaders published (readers ++ known ∷ [])
readers_more published readers known each same k r at =
    ⊎_elim (λ e. each k r e) (λ t. sym t.1 ∙ same) (get_last readers known k r at)
