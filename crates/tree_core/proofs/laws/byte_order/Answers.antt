use Rattle.std.proofs.Common.{[]}
use Rattle.svscan_core.proofs.ByteOrder.{order_rises}
use Rattle.svscan_core.proofs.ListingOrder.{all_found}
use Rattle.tree_core.proofs.laws.byte_order.Goals as goal

pub returns : goal.returns
returns g listing = record { rise = order_rises listing; same = λ name. all_found name [] listing }
