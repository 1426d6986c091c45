-- When two files are one, and the line that says where clients can connect.
use Rattle.std.specs.Prelude.{ℕ, List, [], ◌∷◌, ◌++◌, Bool, codes, ◌==◌, ◌&&◌}
use Rattle.server_rules.specs.declared.abandoned_socket.FileIdentity.{FileIdentity}

-- two files are one where device and inode are the same
abbrev pub is_one_file : FileIdentity → FileIdentity → Bool
is_one_file a b = (a.device == b.device) && (a.inode == b.inode)

-- what is told on standard error once clients can come
abbrev pub serving_text : (socket day : List ℕ) → List ℕ
serving_text socket day = codes "svscan: serving " ++ (socket ++ (codes " since " ++ (day ++ 10 ∷ [])))
