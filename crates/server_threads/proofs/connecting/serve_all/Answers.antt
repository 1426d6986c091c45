use denote.Exit.{no}
use denote.Param.Send.{param_sync, arg_sync}
use Rattle.server_threads.proofs.Crosses.{shared_sync}
use Rattle.server_threads.proofs.connecting.serve_all.Goals as goal

-- what the threads share may be shared
pub serve-requires-sync-W : goal.serve-requires-sync-W
serve-requires-sync-W c κs within lasts = param_sync 0 _ (arg_sync _ no _ shared_sync)
