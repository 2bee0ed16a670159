-- Literals: a variable, or its negation.
use Rattle.std.specs.Prelude.{ℕ, true, not, List, map}
use Rattle.tel_base.specs.declared.literals.Lit.{Lit}

-- the variable itself
abbrev pub lit_of : ℕ → Lit
lit_of var = record { var = var; positive = true }

-- the opposite literal
abbrev pub negate : Lit → Lit
negate lit = record { var = lit.var; positive = not lit.positive }

abbrev pub negations : List Lit → List Lit
negations lits = map negate lits
