-- Lines one behind another.
use Rattle.std.proofs.Common.{◌≡◌, ℕ, List, [], ◌∷◌, ◌++◌, codes, refl, sym, ◌∙◌, ap, append_assoc, append-nil}
use Rattle.std.specs.Prelude.{flat_map}
use Rattle.walker_text.specs.Walker.{ended}

-- a line more, in front of the lines that follow
pub line-then : (old line : List ℕ) (rest : List (List ℕ)) {mid new : List ℕ}
    → mid ≡ old ++ line ++ codes "\n" → new ≡ mid ++ ended rest → new ≡ old ++ ended (line ∷ rest)
unfolding ended
line-then old line rest first then =
    then ∙ ap (λ x. x ++ ended rest) (first ∙ append_assoc old line (codes "\n")) ∙ append_assoc old (line ++ codes "\n") (ended rest)

-- no line more
pub no-line : (old : List ℕ) → old ≡ old ++ ended []
unfolding ended
no-line old = sym (append-nil old)
