-- Clauses that are one, but for the order of their literals.
use Rattle.std.specs.Prelude.{List, [], ◌∷◌}
use Rattle.tel_base.specs.declared.literals.Lit.{Lit}
use Rattle.tel_base.specs.Members.{In}
use Rattle.clause_store.specs.Closure.{Clause}

-- they have the same literals
pub record IsAlike (one other : Clause) : Type 0 where
  pub into : (lit : Lit) → In lit one → In lit other
  pub from : (lit : Lit) → In lit other → In lit one

-- each of these clauses and its fellow of the other list have
abbrev pub AreAlike : List Clause → List Clause → Type 0
AreAlike [] [] = Unit {0}
AreAlike [] (other ∷ others) = ⊥
AreAlike (one ∷ more) [] = ⊥
AreAlike (one ∷ more) (other ∷ others) = IsAlike one other × AreAlike more others
