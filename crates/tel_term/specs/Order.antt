-- The order of terms.
use Rattle.std.specs.Prelude.{◌≡◌, ◌↔◌, ℕ, Bool, true, nat_lt, List, [], length, slice_index_or, IsTrue}
use Rattle.std.specs.Cmp.{IsTotalOrder}
use Rattle.std.specs.Cmp.Lexicographic.{slice_cmp}
use Rattle.std.specs.Ordering.{nat_cmp, int_cmp}
use Rattle.std.specs.declared.cmp.Ordering.{Ordering}
use Rattle.std.specs.declared.cmp.Ordering.TheVariants.{Less, Equal, Greater}
use Rattle.tel_term.specs.declared.terms.Term.{Term}
use Rattle.tel_term.specs.declared.terms.Term.TheVariants as terms
use Rattle.tel_term.specs.declared.terms.Value.{Value}
use Rattle.tel_term.specs.declared.terms.Value.TheVariants as values
use Rattle.tel_term.specs.Symbols.{IsTable}

-- the order of names, by their bytes, a prefix first
abbrev pub name_cmp : List ℕ → List ℕ → Ordering
name_cmp a b = slice_cmp nat_cmp a b

-- the order of terms: numbers before names before strings, numbers by value, names and strings by their bytes
abbrev pub term_cmp : Term → Term → Ordering
term_cmp (terms.Num m) (terms.Num n) = int_cmp m n
term_cmp (terms.Num m) other = Less
term_cmp (terms.Name a) (terms.Num n) = Greater
term_cmp (terms.Name a) (terms.Name b) = name_cmp a b
term_cmp (terms.Name a) (terms.Str b) = Less
term_cmp (terms.Str a) (terms.Str b) = name_cmp a b
term_cmp (terms.Str a) other = Greater

-- whether a value is a number or a symbol of this table
abbrev pub value_in_range : List Term → Value → Bool
value_in_range symbols (values.Num n) = true
value_in_range symbols (values.Sym number) = nat_lt number (length symbols)

-- the term with a number; a number past the end has the empty name
abbrev pub symbol_of : List Term → ℕ → Term
symbol_of symbols number = slice_index_or symbols number (terms.Name [])

-- the term of a value in range
abbrev pub term_at : List Term → Value → Term
term_at symbols (values.Num n) = terms.Num n
term_at symbols (values.Sym number) = symbol_of symbols number

-- values stand as their terms
abbrev pub value_cmp : List Term → Value → Value → Ordering
value_cmp symbols a b = term_cmp (term_at symbols a) (term_at symbols b)

-- ---- laws

abbrev pub TermsAreOrdered : Type 0
TermsAreOrdered = IsTotalOrder term_cmp

-- terms are level only where they are one
abbrev pub LevelTermsAreOne : Type 0
LevelTermsAreOne = (a b : Term) → (term_cmp a b ≡ Equal) ↔ (a ≡ b)

abbrev pub ValuesAreOrdered : Type 0
ValuesAreOrdered = (symbols : List Term) → IsTotalOrder (value_cmp symbols)

-- values of a table are level only where they are one
abbrev pub LevelValuesAreOne : Type 0
LevelValuesAreOne =
    (symbols : List Term) (a b : Value) → IsTable symbols → IsTrue (value_in_range symbols a) → IsTrue (value_in_range symbols b)
    → (value_cmp symbols a b ≡ Equal) ↔ (a ≡ b)
