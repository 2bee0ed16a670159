-- Laws of tables of symbols.
use Rattle.std.specs.Prelude.{◌≡◌, ◌↔◌, ◌+◌, ◌≤◌, List, ◌++◌, length, Some, IsTrue}
use Rattle.std.specs.List.{list_all}
use Rattle.tel_term.specs.declared.terms.Term.{Term}
use Rattle.tel_term.specs.declared.terms.Value.{Value}
use Rattle.tel_term.specs.Symbols.{term_eq, is_symbol, is_known, with_term, value_of, term_of, is_distinct}

-- the test tells whether two terms are one
abbrev pub TermEqDecides : Type 0
TermEqDecides = (a b : Term) → IsTrue (term_eq a b) ↔ (a ≡ b)

-- terms that have their values in a table have one value only where they are one term
abbrev pub ValuesAreDistinct : Type 0
ValuesAreDistinct =
    (table : List Term) (a b : Term) → IsTrue (is_known table a) → IsTrue (is_known table b) → value_of table a ≡ value_of table b → a ≡ b

-- the value of a term stands for it, once it was asked for
abbrev pub ValuesStandForTerms : Type 0
ValuesStandForTerms = (table : List Term) (term : Term) → term_of (with_term table term) (value_of table term) ≡ Some term

-- a value that stands for a term is its value, in a table of names and strings without doubles
abbrev pub TermsHaveOneValue : Type 0
TermsHaveOneValue =
    (table : List Term) (term : Term) (value : Value) → IsTrue (is_distinct table) → IsTrue (list_all is_symbol table)
    → term_of table value ≡ Some term → value_of table term ≡ value

-- a table grows at its end alone
abbrev pub TableGrows : Type 0
TableGrows = (table : List Term) (term : Term) → (more : List Term) × (with_term table term ≡ table ++ more)

-- by one term at the most
abbrev pub TableGrowsByOne : Type 0
TableGrowsByOne = (table : List Term) (term : Term) → length (with_term table term) ≤ length table + 1

-- a term that was asked for has its value in the table
abbrev pub AskedIsKnown : Type 0
AskedIsKnown = (table : List Term) (term : Term) → IsTrue (is_known (with_term table term) term)

-- a term that has its value in a table changes nothing
abbrev pub KnownChangesNothing : Type 0
KnownChangesNothing = (table : List Term) (term : Term) → IsTrue (is_known table term) → with_term table term ≡ table

-- the value of a term stays what it was, however the table has grown since it was asked for
abbrev pub ValueStays : Type 0
ValueStays =
    (table : List Term) (term : Term) (more : List Term) → value_of (with_term table term ++ more) term ≡ value_of table term

-- a table stays without doubles
abbrev pub StaysDistinct : Type 0
StaysDistinct = (table : List Term) (term : Term) → IsTrue (is_distinct table) → IsTrue (is_distinct (with_term table term))

-- and without numbers
abbrev pub StaysSymbols : Type 0
StaysSymbols =
    (table : List Term) (term : Term) → IsTrue (list_all is_symbol table) → IsTrue (list_all is_symbol (with_term table term))
