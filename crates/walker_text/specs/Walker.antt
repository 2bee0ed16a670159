-- The walker, a program of any size whose traces are known.
use Rattle.std.specs.Prelude.{ℕ, List, [], ◌∷◌, ◌++◌, codes, decimal, flat_map}

-- its lines: it stands at cell 1 first, goes one cell on in each state, and is to stand at the last cell in the last state
unfoldable pub walker_lines : ℕ → List (List ℕ)
walker_lines cells =
    codes "#program always."
    ∷ (codes "cell(1.." ++ decimal cells ++ codes ").")
    ∷ codes "#program initial."
    ∷ codes "at(1)."
    ∷ codes "{mark(X)} :- cell(X)."
    ∷ codes "{x}. {y}."
    ∷ (codes ":- x, y, not &tel { >> at(" ++ decimal cells ++ codes ") }.")
    ∷ (codes ":- x, not y, not &tel { >> at(" ++ decimal cells ++ codes ") }.")
    ∷ (codes ":- not x, y, not &tel { >> at(" ++ decimal cells ++ codes ") }.")
    ∷ (codes ":- not x, not y, not &tel { >> at(" ++ decimal cells ++ codes ") }.")
    ∷ codes "#program dynamic."
    ∷ (codes "at(X+1) :- 'at(X), cell(X), X < " ++ decimal cells ++ codes ".")
    ∷ codes "#show at/1."
    ∷ []

-- these lines, each ended by a line feed
unfoldable pub ended : List (List ℕ) → List ℕ
ended lines = flat_map (λ line. line ++ codes "\n") lines

-- the text of the walker with this many cells
unfoldable pub walker_text : ℕ → List ℕ
walker_text cells = ended (walker_lines cells)
