-- What is told where the system refused memory.
use Rattle.std.specs.Prelude.{ℕ, List, ◌++◌, codes}

-- both lines of a program
abbrev pub no_memory_text : List ℕ → List ℕ
no_memory_text program =
    (program ++ codes ": no memory\n") ++ (program ++ codes ": the system refused memory; try again later\n")
