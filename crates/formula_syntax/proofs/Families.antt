-- The readers of expressions, atoms and formulas read their grammars, at each number of levels. Of a production is shown what
-- its words and its given things are; the rest is one induction over all productions.
use Rattle.std.proofs.Common.{◌≡◌, ℕ, zero, suc, Bool, true, false, List, [], ◌++◌, refl, ◌||◌}
use Rattle.tel_term.specs.declared.exprs.Expr.{Expr}
use Rattle.tel_rule.specs.declared.formulas.Formula.{Formula}
use Rattle.formula_syntax.specs.declared.marks.Mark.TheVariants as marks
use Rattle.grammar_laws.specs.Points.{at, begins}
use Rattle.grammar_laws.specs.Shapes.{One, Then, Each, Maybe}
use Rattle.grammar_laws.specs.Productions.{terminal, and, many, perhaps}
use Rattle.grammar_laws.specs.Steps.{Unexpected, Stuck, one, both, each, maybe, passes, or_also}
use Rattle.grammar_laws.proofs.Readers.{nothing}
use Rattle.grammar_laws.proofs.Steady.{Steady, one-steady, one-takes}
use Rattle.grammar_laws.proofs.Outcomes.{Family}
use Rattle.grammar_laws.proofs.Lifting.{Lifts, Apart, one-lifts, either-lifts}
use Rattle.grammar_laws.proofs.ReadBy.{Read_by, Opened_by, one-read, maybe-opened}
use Rattle.grammar_laws.proofs.Sets.{LiesIn, nothing-lies, or-lies, apart-by}
use Rattle.grammar_laws.proofs.Described.{Words, gone_on_by, begun_set, more_set, begun-lies, more-lies, reads-it, lifts-it}
use Rattle.grammar_laws.proofs.Steadies.{Keeps, keeps-it}
use Rattle.grammar_laws.proofs.Absent.{absent-it, alone-it}
use Rattle.grammar_laws.proofs.Nests.{shut-read, shut-keeps, shut-absent, nest-read, nest-keeps, nest-absent, nest-lifts}
use Rattle.formula_syntax.specs.Points.{Word, Known, Grammar}
use Rattle.formula_syntax.specs.Grammar.{leaf, name, sign, product_op, sum_op, word, Terminal, ALeaf, AProductOp, ASumOp, WordOf, meant, it, product, expr, deep_value, IsValue, IsExpr, primed, signed, args, atom, IsSign, IsAtom, flat_formula, formula, deep_formula, IsUnary, IsFormula}
use Rattle.formula_syntax.specs.Reading.{read_by, read_product, read_args, opens_value, read_value, read_expr, read_sign, read_atom, starts_atom, starts_flat, opens_unary, read_flat, read_unary, read_formula}
use Rattle.formula_syntax.proofs.Terminals.{word_code, word_set, word_in, some_word, passing-sign, over}

abbrev bare : Words Word Known Terminal WordOf (Unit {0})
bare = over nothing nothing [] [] (nothing-lies word_code) (nothing-lies word_code)

-- ---- values

-- the words that a value begins with
abbrev pub starts_value : Word → Bool
starts_value = or_also (passes leaf) opens_value

abbrev pub value_set : List ℕ
value_set = word_set ALeaf ++ begun_set bare deep_value

pub value-lies : LiesIn word_code starts_value value_set
value-lies = or-lies word_code (passes leaf) opens_value (word_set ALeaf) (begun_set bare deep_value) (word_in ALeaf) (begun-lies bare deep_value)

abbrev pub value_words : Words Word Known Terminal WordOf (Unit {0})
value_words = over starts_value nothing value_set [] value-lies (nothing-lies word_code)

leaf-read : Read_by (One leaf) (one leaf) (passes leaf) nothing
leaf-read = one-read leaf (some_word ALeaf)

leaf-keeps : Keeps false (one leaf) (passes leaf)
leaf-keeps = (one-steady leaf, one-takes leaf)

apart-value : Apart opens_value (passes leaf)
apart-value = apart-by word_code opens_value (passes leaf) (begun_set bare deep_value) (word_set ALeaf) (begun-lies bare deep_value) (word_in ALeaf) refl

pub value-read : (n : ℕ) → Read_by (IsValue n) (read_value n) starts_value nothing
unfolding IsValue read_value
value-read zero = shut-read (One leaf) (one leaf) (passes leaf) nothing opens_value nothing leaf-read (λ w is. is)
value-read (suc n) =
    nest-read (One leaf) (one leaf) (passes leaf) nothing opens_value nothing leaf-read (meant (IsValue n) deep_value) (read_by (read_value n) deep_value) (gone_on_by value_words deep_value)
    (reads-it value_words (λ i. IsValue n) (λ i. read_value n) (λ i. value-read n) deep_value refl) apart-value (λ w is. is)

value-keeps : (n : ℕ) → Keeps false (read_value n) starts_value
unfolding IsValue read_value
value-keeps zero = shut-keeps (One leaf) (one leaf) (passes leaf) nothing opens_value nothing leaf-read leaf-keeps
value-keeps (suc n) =
    nest-keeps (One leaf) (one leaf) (passes leaf) nothing opens_value nothing leaf-read (meant (IsValue n) deep_value) (read_by (read_value n) deep_value) (gone_on_by value_words deep_value)
    (reads-it value_words (λ i. IsValue n) (λ i. read_value n) (λ i. value-read n) deep_value refl) leaf-keeps
    (keeps-it value_words (λ i. IsValue n) (λ i. read_value n) (λ i. value-read n) (λ i. value-keeps n) deep_value refl)

-- where no value begins none is read
pub value-absent : (n : ℕ) (known : Known) (words : List Word) → begins starts_value words ≡ false → read_value n (at known words) ≡ Stuck Unexpected words
unfolding read_value
value-absent zero known words is = shut-absent (one leaf) (passes leaf) opens_value known words is
value-absent (suc n) known words is =
    nest-absent (one leaf) (read_by (read_value n) deep_value) (passes leaf) opens_value known words (λ none. absent-it word (λ i. starts_value) (λ i. read_value n) known words (λ i absent. value-absent n known words absent) deep_value none) is

value-lifts : (n : ℕ) → Lifts (IsValue n) (IsValue (suc n)) (read_value n) (read_value (suc n))
unfolding IsValue read_value
value-lifts zero =
    nest-lifts (One leaf) (One leaf) (meant (IsValue zero) deep_value) (one leaf) (one leaf) (read_by (read_value zero) deep_value) (passes leaf) opens_value (one-lifts leaf)
    (λ known words is. absent-it word (λ i. starts_value) (λ i. read_value zero) known words (λ i none. value-absent zero known words none) deep_value is)
    (λ known w is. alone-it word (λ i. starts_value) (λ i. read_value zero) (λ i later. value-absent zero later [] refl) known w deep_value refl is)
value-lifts (suc n) =
    either-lifts (One leaf) (One leaf) (meant (IsValue n) deep_value) (meant (IsValue (suc n)) deep_value) (passes leaf) (one leaf) (one leaf) (read_by (read_value n) deep_value) (read_by (read_value (suc n)) deep_value) (one-lifts leaf)
    (lifts-it value_words (λ i. IsValue n) (λ i. IsValue (suc n)) (λ i. read_value n) (λ i. read_value (suc n)) (λ i. value-lifts n) (λ i. value-read (suc n)) deep_value refl)

-- ---- expressions

-- parts of an expression, by themselves
pub products-read : (n : ℕ) → Opened_by (Each (Then (One product_op) (IsValue n))) (each (passes product_op) (both (one product_op) (read_value n))) (passes product_op) (or_also (passes product_op) nothing)
products-read n = reads-it value_words (λ i. IsValue n) (λ i. read_value n) (λ i. value-read n) (many (and (terminal AProductOp) it)) refl

pub sums-read : (n : ℕ) → Opened_by (Each (Then (One sum_op) (meant (IsValue n) (product it)))) (each (passes sum_op) (both (one sum_op) (read_product (read_value n)))) (passes sum_op) (or_also (passes sum_op) (gone_on_by value_words (product it)))
sums-read n = reads-it value_words (λ i. IsValue n) (λ i. read_value n) (λ i. value-read n) (many (and (terminal ASumOp) (product it))) refl

abbrev pub more_expr : Word → Bool
more_expr = gone_on_by value_words (expr it)

pub expr-read : (n : ℕ) → Read_by (IsExpr n) (read_expr n) starts_value more_expr
expr-read n = reads-it value_words (λ i. IsValue n) (λ i. read_value n) (λ i. value-read n) (expr it) refl

expr-keeps : (n : ℕ) → Keeps false (read_expr n) starts_value
expr-keeps n = keeps-it value_words (λ i. IsValue n) (λ i. read_value n) (λ i. value-read n) (λ i. value-keeps n) (expr it) refl

pub expr-steady : (n : ℕ) → Steady (read_expr n)
expr-steady n = (expr-keeps n).0

pub expr-lifts : (n : ℕ) → Lifts (IsExpr n) (IsExpr (suc n)) (read_expr n) (read_expr (suc n))
expr-lifts n = lifts-it value_words (λ i. IsValue n) (λ i. IsValue (suc n)) (λ i. read_value n) (λ i. read_value (suc n)) (λ i. value-lifts n) (λ i. value-read (suc n)) (expr it) refl

pub expr-absent : (n : ℕ) (known : Known) (words : List Word) → begins starts_value words ≡ false → read_expr n (at known words) ≡ Stuck Unexpected words
expr-absent n known words is = absent-it word (λ i. starts_value) (λ i. read_value n) known words (λ i none. value-absent n known words none) (expr it) is

pub expr-family : Family IsExpr read_expr more_expr
expr-family = record {
  reads = λ n. (expr-read n).reads;
  raises = λ n. (expr-lifts n).raises;
  wider = λ n. (expr-lifts n).wider;
}

-- ---- atoms

-- productions of signs, of which no expression is given
abbrev pub leaf_words : Words Word Known Terminal WordOf (Unit {0})
leaf_words = over (passes leaf) nothing (word_set ALeaf) [] (word_in ALeaf) (nothing-lies word_code)

pub prime-read : Opened_by (Maybe (One (sign marks.Prime))) (maybe (passes (sign marks.Prime)) (one (sign marks.Prime))) (passes (sign marks.Prime)) (or_also (passes (sign marks.Prime)) nothing)
prime-read = maybe-opened (One (sign marks.Prime)) (one (sign marks.Prime)) (passes (sign marks.Prime)) nothing (one-read (sign marks.Prime) (passing-sign marks.Prime))

pub primed-read : Read_by (meant (One leaf) primed) (read_by (one leaf) primed) (or_also (passes (sign marks.Prime)) (passes name)) (gone_on_by leaf_words (primed {R = Expr}))
primed-read = reads-it leaf_words (λ i. One leaf) (λ i. one leaf) (λ i. leaf-read) primed refl

abbrev pub more_sign : Word → Bool
more_sign = gone_on_by leaf_words (signed {R = Expr})

pub sign-read : Read_by IsSign read_sign starts_atom more_sign
sign-read = reads-it leaf_words (λ i. One leaf) (λ i. one leaf) (λ i. leaf-read) signed refl

pub sign-lifts : Lifts IsSign IsSign read_sign read_sign
sign-lifts = lifts-it leaf_words (λ i. One leaf) (λ i. One leaf) (λ i. one leaf) (λ i. one leaf) (λ i. one-lifts leaf) (λ i. leaf-read) signed refl

abbrev pub expr_words : Words Word Known Terminal WordOf (Unit {0})
expr_words = over starts_value more_expr value_set (more_set value_words (expr it)) value-lies (more-lies value_words (expr it))

pub args-read : (n : ℕ) → Opened_by (Maybe (meant (IsExpr n) (args it))) (maybe (passes (sign marks.Open)) (read_args (read_expr n))) (passes (sign marks.Open)) (or_also (passes (sign marks.Open)) nothing)
args-read n = reads-it expr_words (λ i. IsExpr n) (λ i. read_expr n) (λ i. expr-read n) (perhaps (args it)) refl

abbrev pub more_atom : Word → Bool
more_atom = gone_on_by expr_words (atom it)

pub atom-read : (n : ℕ) → Read_by (IsAtom n) (read_atom n) starts_atom more_atom
atom-read n = reads-it expr_words (λ i. IsExpr n) (λ i. read_expr n) (λ i. expr-read n) (atom it) refl

pub atom-lifts : (n : ℕ) → Lifts (IsAtom n) (IsAtom (suc n)) (read_atom n) (read_atom (suc n))
atom-lifts n = lifts-it expr_words (λ i. IsExpr n) (λ i. IsExpr (suc n)) (λ i. read_expr n) (λ i. read_expr (suc n)) (λ i. expr-lifts n) (λ i. expr-read (suc n)) (atom it) refl

-- ---- unary formulas

abbrev IsFlat : ℕ → Grammar Formula
IsFlat n = meant (IsExpr n) flat_formula

abbrev pub more_flat : Word → Bool
more_flat = gone_on_by expr_words flat_formula

flat-read : (n : ℕ) → Read_by (IsFlat n) (read_flat n) starts_flat more_flat
flat-read n = reads-it expr_words (λ i. IsExpr n) (λ i. read_expr n) (λ i. expr-read n) flat_formula refl

flat-keeps : (n : ℕ) → Keeps false (read_flat n) starts_flat
flat-keeps n = keeps-it expr_words (λ i. IsExpr n) (λ i. read_expr n) (λ i. expr-read n) (λ i. expr-keeps n) flat_formula refl

flat-lifts : (n : ℕ) → Lifts (IsFlat n) (IsFlat (suc n)) (read_flat n) (read_flat (suc n))
flat-lifts n = lifts-it expr_words (λ i. IsExpr n) (λ i. IsExpr (suc n)) (λ i. read_expr n) (λ i. read_expr (suc n)) (λ i. expr-lifts n) (λ i. expr-read (suc n)) flat_formula refl

abbrev pub starts_unary : Word → Bool
starts_unary = or_also starts_flat opens_unary

abbrev pub unary_set : List ℕ
unary_set = begun_set bare flat_formula ++ begun_set bare deep_formula

pub unary-lies : LiesIn word_code starts_unary unary_set
unary-lies = or-lies word_code starts_flat opens_unary (begun_set bare flat_formula) (begun_set bare deep_formula) (begun-lies bare flat_formula) (begun-lies bare deep_formula)

abbrev pub unary_words : Words Word Known Terminal WordOf (Unit {0})
unary_words = over starts_unary more_flat unary_set (more_set expr_words flat_formula) unary-lies (more-lies expr_words flat_formula)

apart-unary : Apart opens_unary starts_flat
apart-unary = apart-by word_code opens_unary starts_flat (begun_set bare deep_formula) (begun_set bare flat_formula) (begun-lies bare deep_formula) (begun-lies bare flat_formula) refl

-- what goes on with what opens a level goes on with what opens none
once : (a : Bool) → (a || (a || false)) ≡ true → a ≡ true
once true is = refl
once false is = is

pub unary-read : (n : ℕ) → Read_by (IsUnary n) (read_unary n) starts_unary more_flat
unfolding IsUnary read_unary
unary-read zero = shut-read (IsFlat zero) (read_flat zero) starts_flat more_flat opens_unary more_flat (flat-read zero) (λ w is. is)
unary-read (suc n) =
    nest-read (IsFlat (suc n)) (read_flat (suc n)) starts_flat more_flat opens_unary more_flat (flat-read (suc n)) (meant (IsUnary n) deep_formula) (read_by (read_unary n) deep_formula) (gone_on_by unary_words deep_formula)
    (reads-it unary_words (λ i. IsUnary n) (λ i. read_unary n) (λ i. unary-read n) deep_formula refl) apart-unary (λ w is. once (more_flat w) is)

unary-keeps : (n : ℕ) → Keeps false (read_unary n) starts_unary
unfolding IsUnary read_unary
unary-keeps zero = shut-keeps (IsFlat zero) (read_flat zero) starts_flat more_flat opens_unary more_flat (flat-read zero) (flat-keeps zero)
unary-keeps (suc n) =
    nest-keeps (IsFlat (suc n)) (read_flat (suc n)) starts_flat more_flat opens_unary more_flat (flat-read (suc n)) (meant (IsUnary n) deep_formula) (read_by (read_unary n) deep_formula) (gone_on_by unary_words deep_formula)
    (reads-it unary_words (λ i. IsUnary n) (λ i. read_unary n) (λ i. unary-read n) deep_formula refl) (flat-keeps (suc n))
    (keeps-it unary_words (λ i. IsUnary n) (λ i. read_unary n) (λ i. unary-read n) (λ i. unary-keeps n) deep_formula refl)

unary-absent : (n : ℕ) (known : Known) (words : List Word) → begins starts_unary words ≡ false → read_unary n (at known words) ≡ Stuck Unexpected words
unfolding read_unary
unary-absent zero known words is = shut-absent (read_flat zero) starts_flat opens_unary known words is
unary-absent (suc n) known words is =
    nest-absent (read_flat (suc n)) (read_by (read_unary n) deep_formula) starts_flat opens_unary known words (λ none. absent-it word (λ i. starts_unary) (λ i. read_unary n) known words (λ i absent. unary-absent n known words absent) deep_formula none) is

unary-lifts : (n : ℕ) → Lifts (IsUnary n) (IsUnary (suc n)) (read_unary n) (read_unary (suc n))
unfolding IsUnary read_unary
unary-lifts zero =
    nest-lifts (IsFlat zero) (IsFlat (suc zero)) (meant (IsUnary zero) deep_formula) (read_flat zero) (read_flat (suc zero)) (read_by (read_unary zero) deep_formula) starts_flat opens_unary (flat-lifts zero)
    (λ known words is. absent-it word (λ i. starts_unary) (λ i. read_unary zero) known words (λ i none. unary-absent zero known words none) deep_formula is)
    (λ known w is. alone-it word (λ i. starts_unary) (λ i. read_unary zero) (λ i later. unary-absent zero later [] refl) known w deep_formula refl is)
unary-lifts (suc n) =
    either-lifts (IsFlat (suc n)) (IsFlat (suc (suc n))) (meant (IsUnary n) deep_formula) (meant (IsUnary (suc n)) deep_formula) starts_flat (read_flat (suc n)) (read_flat (suc (suc n))) (read_by (read_unary n) deep_formula) (read_by (read_unary (suc n)) deep_formula) (flat-lifts (suc n))
    (lifts-it unary_words (λ i. IsUnary n) (λ i. IsUnary (suc n)) (λ i. read_unary n) (λ i. read_unary (suc n)) (λ i. unary-lifts n) (λ i. unary-read (suc n)) deep_formula refl)

-- ---- formulas

abbrev pub more_formula : Word → Bool
more_formula = gone_on_by unary_words (formula it)

abbrev pub more_formula_set : List ℕ
more_formula_set = more_set unary_words (formula it)

pub more_formula-lies : LiesIn word_code more_formula more_formula_set
more_formula-lies = more-lies unary_words (formula it)

pub formula-read : (n : ℕ) → Read_by (IsFormula n) (read_formula n) starts_unary more_formula
formula-read n = reads-it unary_words (λ i. IsUnary n) (λ i. read_unary n) (λ i. unary-read n) (formula it) refl

pub formula-steady : (n : ℕ) → Steady (read_formula n)
formula-steady n = (keeps-it unary_words (λ i. IsUnary n) (λ i. read_unary n) (λ i. unary-read n) (λ i. unary-keeps n) (formula it) refl).0

pub formula-lifts : (n : ℕ) → Lifts (IsFormula n) (IsFormula (suc n)) (read_formula n) (read_formula (suc n))
formula-lifts n = lifts-it unary_words (λ i. IsUnary n) (λ i. IsUnary (suc n)) (λ i. read_unary n) (λ i. read_unary (suc n)) (λ i. unary-lifts n) (λ i. unary-read (suc n)) (formula it) refl

pub formula-family : Family IsFormula read_formula more_formula
formula-family = record {
  reads = λ n. (formula-read n).reads;
  raises = λ n. (formula-lifts n).raises;
  wider = λ n. (formula-lifts n).wider;
}
