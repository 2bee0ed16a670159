-- Reading expressions, atoms and formulas, by the level. The methods of `Reading` give what these functions give, and a layer
-- above goes on from there; the contracts of `expr` and `formula` speak of the grammar.
use Rattle.std.specs.Prelude.{ℕ, zero, suc, Bool, false, List}
use Rattle.tel_term.specs.declared.exprs.Expr.{Expr}
use Rattle.tel_rule.specs.declared.formulas.Atom.{Atom}
use Rattle.tel_rule.specs.declared.formulas.Formula.{Formula}
use Rattle.grammar_laws.specs.Steps.{one, either, too_deep, passes}
use Rattle.grammar_laws.specs.Productions.{begun_by, reader}
use Rattle.formula_syntax.specs.Points.{Word, Reader}
use Rattle.formula_syntax.specs.Grammar.{leaf, SignRead, word, Over, it, bracketed, product, sum, negative, deep_value, args, signed, atom, flat_formula, pair, conjunction, disjunction, arrow, behind_prefix, deep_formula}

-- the reader of a production, for the one of the given things; and the words that it begins with, where the first is its own
abbrev pub read_by : {R A : Type 0} → Reader R → Over R A → Reader A
read_by read p = reader word (λ i w. false) (λ i. read) p

abbrev pub begun : {R A : Type 0} → Over R A → Word → Bool
begun p = begun_by word (λ i w. false) p

-- ---- expressions

abbrev pub read_bracketed : {A : Type 0} → Reader A → Reader A
read_bracketed read = read_by read (bracketed it)

abbrev pub read_product : Reader Expr → Reader Expr
read_product read = read_by read (product it)

abbrev pub read_sum : Reader Expr → Reader Expr
read_sum read = read_by read (sum it)

abbrev pub read_negative : Reader Expr → Reader Expr
read_negative read = read_by read (negative it)

-- the words that open a level of a value
abbrev pub opens_value : Word → Bool
opens_value = begun deep_value

unfoldable pub read_value : ℕ → Reader Expr
read_value zero = either (passes leaf) (one leaf) (too_deep opens_value)
read_value (suc levels) = either (passes leaf) (one leaf) (read_by (read_value levels) deep_value)

abbrev pub read_expr : ℕ → Reader Expr
read_expr levels = read_sum (read_product (read_value levels))

-- ---- atoms

abbrev pub read_args : Reader Expr → Reader (List Expr)
read_args read = read_by read (args it)

abbrev pub read_sign : Reader SignRead
read_sign = read_by (one leaf) signed

abbrev pub read_atom : ℕ → Reader Atom
read_atom levels = read_by (read_expr levels) (atom it)

-- ---- formulas

abbrev pub read_prefixed : Reader Formula → Reader Formula
read_prefixed read = read_by read (behind_prefix it)

abbrev pub read_pair : Reader Formula → Reader Formula
read_pair read = read_by read (pair it)

abbrev pub read_and : Reader Formula → Reader Formula
read_and read = read_by read (conjunction it)

abbrev pub read_or : Reader Formula → Reader Formula
read_or read = read_by read (disjunction it)

abbrev pub read_arrow : Reader Formula → Reader Formula
read_arrow read = read_by read (arrow it)

abbrev pub read_formula_of : Reader Formula → Reader Formula
read_formula_of read = read_arrow (read_or (read_and (read_pair read)))

-- the words that an atom begins with, those of a unary formula that opens no level, and those that open one
abbrev pub starts_atom : Word → Bool
starts_atom = begun {R = Expr} (atom it)

abbrev pub starts_flat : Word → Bool
starts_flat = begun flat_formula

abbrev pub opens_unary : Word → Bool
opens_unary = begun deep_formula

-- a constant or an atom
abbrev pub read_flat : ℕ → Reader Formula
read_flat levels = read_by (read_expr levels) flat_formula

unfoldable pub read_unary : ℕ → Reader Formula
read_unary zero = either starts_flat (read_flat zero) (too_deep opens_unary)
read_unary (suc levels) = either starts_flat (read_flat (suc levels)) (read_by (read_unary levels) deep_formula)

abbrev pub read_formula : ℕ → Reader Formula
read_formula levels = read_formula_of (read_unary levels)
