-- Names and strings numbered in the order in which they are first seen, from 0.
use Rattle.std.specs.Prelude.{ℕ, suc, ◌^◌, ◌<◌, Bool, true, false, ◌&&◌, ◌||◌, not, if◌then◌else◌, List, [], ◌∷◌, ◌++◌, length, nat_lt, slice_get, Option, Some, IsTrue}
use Rattle.std.specs.List.{list_all, list_any}
use Rattle.std.specs.Ordering.{int_eq}
use Rattle.std.specs.Str.{bytes_eq}
use Rattle.tel_term.specs.declared.terms.Term.{Term}
use Rattle.tel_term.specs.declared.terms.Term.TheVariants as terms
use Rattle.tel_term.specs.declared.terms.Value.{Value}
use Rattle.tel_term.specs.declared.terms.Value.TheVariants as values

-- whether two terms are the same: both numbers, both names or both strings, and alike
abbrev pub term_eq : Term → Term → Bool
term_eq (terms.Num m) (terms.Num n) = int_eq m n
term_eq (terms.Name a) (terms.Name b) = bytes_eq a b
term_eq (terms.Str a) (terms.Str b) = bytes_eq a b
term_eq _ _ = false

-- whether a term has a place in tables: a name or a string has, a number stands for itself
abbrev pub is_symbol : Term → Bool
is_symbol (terms.Num n) = false
is_symbol (terms.Name bytes) = true
is_symbol (terms.Str bytes) = true

-- whether a term is among these
abbrev pub has_term : List Term → Term → Bool
has_term table term = list_any (term_eq term) table

-- the place of the first such term, from 0; the length, where there is none
abbrev pub place_of : List Term → Term → ℕ
place_of [] term = 0
place_of (first ∷ more) term = if term_eq term first then 0 else suc (place_of more term)

-- whether a term has its value in a table already: it is a number, or it is there
abbrev pub is_known : List Term → Term → Bool
is_known table term = not (is_symbol term) || has_term table term

-- the table after this term was asked for: a new name or string is put at its end
unfoldable pub with_term : List Term → Term → List Term
with_term table term = if is_known table term then table else table ++ term ∷ []

-- the value of a term in the table after it was asked for: a number for itself, a name or a string by its place
unfoldable pub value_of : List Term → Term → Value
value_of table (terms.Num n) = values.Num n
value_of table (terms.Name bytes) = values.Sym (place_of table (terms.Name bytes))
value_of table (terms.Str bytes) = values.Sym (place_of table (terms.Str bytes))

-- the term that a value stands for: a number is itself, a symbol is the term at its place
abbrev pub term_of : List Term → Value → Option Term
term_of table (values.Num n) = Some (terms.Num n)
term_of table (values.Sym place) = slice_get table place

-- whether a value is a symbol of this table
abbrev pub is_symbol_of : List Term → Value → Bool
is_symbol_of table (values.Num n) = false
is_symbol_of table (values.Sym place) = nat_lt place (length table)

-- whether each term stands once
abbrev pub is_distinct : List Term → Bool
is_distinct [] = true
is_distinct (first ∷ more) = not (has_term more first) && is_distinct more

-- a table: each term once, none of them a number, and few enough to be numbered
pub record IsTable (table : List Term) : Type 0 where
  pub distinct : IsTrue (is_distinct table)
  pub symbols : IsTrue (list_all is_symbol table)
  pub bounded : length table < 2 ^ 32
