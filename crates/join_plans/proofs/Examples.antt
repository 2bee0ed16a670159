-- A join worked out by hand.
use Rattle.std.proofs.Common.{◌≡◌, ℕ, pos, List, [], ◌∷◌, refl}
use Rattle.tel_term.specs.declared.terms.Value.{Value}
use Rattle.tel_term.specs.declared.terms.Value.TheVariants as values
use Rattle.join_plans.specs.declared.columns.Column.TheVariants.{New, Old}
use Rattle.tel_rule.specs.Atoms.{value_eq}
use Rattle.join_plans.specs.Join.{at, Comparison, Step, Row, Compare, answers}

abbrev number : ℕ → Value
number n = values.Num (pos n)

-- p(X, Y), q(Y, Z) where p has the rows (1, 2), (1, 3) and q the rows (2, 5), (4, 6), (2, 7)
abbrev plan : List Step
plan =
    Row (New 0 ∷ New 1 ∷ []) ((number 1 ∷ number 2 ∷ []) ∷ (number 1 ∷ number 3 ∷ []) ∷ [])
    ∷ Row (Old 1 ∷ New 2 ∷ []) ((number 2 ∷ number 5 ∷ []) ∷ (number 4 ∷ number 6 ∷ []) ∷ (number 2 ∷ number 7 ∷ []) ∷ [])
    ∷ []

-- X = 1, Y = 2, and Z = 5 or Z = 7
two_found : answers plan (number 0 ∷ number 0 ∷ number 0 ∷ []) ≡ (number 1 ∷ number 2 ∷ number 5 ∷ []) ∷ (number 1 ∷ number 2 ∷ number 7 ∷ []) ∷ []
two_found = refl

-- p(X, X) has none of them
none_found : answers (Row (New 0 ∷ Old 0 ∷ []) ((number 1 ∷ number 2 ∷ []) ∷ (number 1 ∷ number 3 ∷ []) ∷ []) ∷ []) (number 0 ∷ []) ≡ []
none_found = refl

-- a comparison that only rows with 2 behind X pass, before the rows of q are looked at
abbrev second_is_2 : Comparison
second_is_2 = record { reads = 1 ∷ []; holds = λ (b : List Value). value_eq (at b 1) (number 2) }

one_plan : answers (Row (New 0 ∷ New 1 ∷ []) ((number 1 ∷ number 2 ∷ []) ∷ (number 1 ∷ number 3 ∷ []) ∷ []) ∷ Compare second_is_2 ∷ []) (number 0 ∷ number 0 ∷ []) ≡ (number 1 ∷ number 2 ∷ []) ∷ []
one_plan = refl
