-- Worked rows.
use Rattle.std.proofs.Common.{◌≡◌, List, [], ◌∷◌, map, refl}
use Rattle.std.specs.Prelude.{pos, negsuc, nat_eq}
use Rattle.tel_term.specs.declared.terms.Value.{Value}
use Rattle.tel_term.specs.declared.terms.Value.TheVariants as values
use Rattle.tel_semantics.specs.Tables.{choices}
use Rattle.fact_rows.specs.declared.values.Values.{Values}
use Rattle.fact_rows.specs.declared.values.Values.TheVariants as kinds
use Rattle.fact_rows.specs.Walking.{all_of, first_of, rows_behind}
use Rattle.fact_rows.specs.Once.{each_once}

abbrev one : Value
one = values.Num (pos 1)

abbrev two : Value
two = values.Num (pos 2)

-- p(1..2,a,1..2)
abbrev columns : List Values
columns = kinds.Range (pos 1) (pos 2) ∷ kinds.One (values.Sym 0) ∷ kinds.Range (pos 1) (pos 2) ∷ []

-- the first argument is the slowest
all_rows : choices (map all_of columns) ≡ (one ∷ values.Sym 0 ∷ one ∷ []) ∷ (one ∷ values.Sym 0 ∷ two ∷ []) ∷ (two ∷ values.Sym 0 ∷ one ∷ []) ∷ (two ∷ values.Sym 0 ∷ two ∷ []) ∷ []
all_rows = refl

first_one : map first_of columns ≡ one ∷ values.Sym 0 ∷ one ∷ []
first_one = refl

behind_second : rows_behind columns (one ∷ values.Sym 0 ∷ two ∷ []) ≡ (two ∷ values.Sym 0 ∷ one ∷ []) ∷ (two ∷ values.Sym 0 ∷ two ∷ []) ∷ []
behind_second = refl

behind_last : rows_behind columns (two ∷ values.Sym 0 ∷ two ∷ []) ≡ []
behind_last = refl

-- a fact without brackets has one row, and a range that falls has no numbers
no_arguments : choices [] ≡ [] ∷ []
no_arguments = refl

falling : choices (map all_of (kinds.Range (negsuc 0) (pos 1) ∷ kinds.Range (pos 2) (pos 1) ∷ [])) ≡ []
falling = refl

-- the first occurrences stay
firsts : each_once nat_eq (3 ∷ 1 ∷ 3 ∷ 2 ∷ 1 ∷ []) ≡ 3 ∷ 1 ∷ 2 ∷ []
firsts = refl
