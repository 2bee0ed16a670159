-- What is left of a list from a place on begins with the item there.
use Rattle.std.specs.Prelude.{◌≡◌, ℕ, ◌+◌, ◌<◌, suc, List, ◌∷◌, ◌++◌, length, drop}
use Rattle.std.specs.List.{flat_map}
use Rattle.std.proofs.Common.{sym, ◌∙◌, ap, get_or, add-one, drop-cons, refl}
use Rattle.tel_rule.specs.Ground.{Ground}
use Rattle.tel_semantics.specs.Print.{state_line, state_lines}

pub pieces-rest : {X : Type 0} (f : X → List ℕ) (xs : List X) (i : ℕ) (d : X) → i < length xs
    → flat_map f (drop i xs) ≡ f (get_or xs i d) ++ flat_map f (drop (i + 1) xs)
pieces-rest f xs i d within = rw add-one (ap (flat_map f) (drop-cons xs i d within))

pub states-rest : (program : Ground) (states : List (List ℕ)) (i : ℕ) (state item : List ℕ) → i < length states
    → state ≡ item → item ≡ get_or states i item
    → state_lines program i (drop i states) ≡ state_line program i state ++ state_lines program (i + 1) (drop (i + 1) states)
states-rest program states i state item within same there =
    let from : drop i states ≡ state ∷ drop (suc i) states = drop-cons states i item within ∙ ap (λ x. x ∷ drop (suc i) states) (sym there ∙ sym same) in
    ap (state_lines program i) from ∙ rw add-one refl
