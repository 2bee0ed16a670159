-- The grammar of expressions, atoms and temporal formulas.
use Rattle.std.specs.Prelude.{ℕ, zero, suc, Bool, true, false, List, [], ◌∷◌, ◌++◌, ◌==◌, length, Option, Some, None, pos, if◌then◌else◌, codes}
use Rattle.std.specs.Option.{option_map}
use Rattle.std.specs.Str.{bytes_eq}
use Rattle.tel_term.specs.declared.terms.Term.{Term}
use Rattle.tel_term.specs.declared.terms.Term.TheVariants as terms
use Rattle.tel_term.specs.declared.terms.Value.TheVariants as values
use Rattle.tel_term.specs.declared.exprs.Expr.{Expr}
use Rattle.tel_term.specs.declared.exprs.Expr.TheVariants as exprs
use Rattle.tel_term.specs.declared.exprs.SumOp.{SumOp}
use Rattle.tel_term.specs.declared.exprs.SumOp.TheVariants as sums
use Rattle.tel_term.specs.declared.exprs.ProductOp.{ProductOp}
use Rattle.tel_term.specs.declared.exprs.ProductOp.TheVariants as products
use Rattle.tel_term.specs.Symbols.{with_term, value_of}
use Rattle.tel_rule.specs.declared.formulas.Atom.{Atom}
use Rattle.tel_rule.specs.declared.formulas.ConstOp.{ConstOp}
use Rattle.tel_rule.specs.declared.formulas.ConstOp.TheVariants as consts
use Rattle.tel_rule.specs.declared.formulas.UnaryOp.{UnaryOp}
use Rattle.tel_rule.specs.declared.formulas.UnaryOp.TheVariants as unaries
use Rattle.tel_rule.specs.declared.formulas.BinaryOp.{BinaryOp}
use Rattle.tel_rule.specs.declared.formulas.BinaryOp.TheVariants as binaries
use Rattle.tel_rule.specs.declared.formulas.ManyOp.{ManyOp}
use Rattle.tel_rule.specs.declared.formulas.ManyOp.TheVariants as manies
use Rattle.tel_rule.specs.declared.formulas.Formula.{Formula}
use Rattle.tel_rule.specs.declared.formulas.Formula.TheVariants as formulas
use Rattle.formula_syntax.specs.declared.marks.Mark.{Mark}
use Rattle.formula_syntax.specs.declared.marks.Mark.TheVariants as marks
use Rattle.formula_syntax.specs.Points.{Word, Known, Grammar}
use Rattle.formula_syntax.specs.Senses.{Sense, Name, Variable, Blank, Number, Str, Sign, sense, number_of, string_of}
use Rattle.grammar_laws.specs.Shapes.{One, Either}
use Rattle.grammar_laws.specs.Productions.{Production, terminal, given, led, ended, made_of, and, and_on, and_from, or, many, few, perhaps, means}

-- ---- words

-- what a word says by itself, whatever is known
abbrev pub by_itself : {A : Type 0} → Option A → Option (Known → A × Known)
by_itself said = option_map (λ thing known. (thing, known)) said

-- a sign that stands for nothing but itself
abbrev pub plain : Bool → Option (Known → Unit {0} × Known)
plain true = Some (λ known. (tt, known))
plain false = None

-- signs are told apart by a number for each
abbrev pub mark_number : Mark → ℕ
mark_number marks.If = 0
mark_number marks.Dots = 1
mark_number marks.Stop = 2
mark_number marks.Comma = 3
mark_number marks.Semicolon = 4
mark_number marks.Open = 5
mark_number marks.Close = 6
mark_number marks.OpenBrace = 7
mark_number marks.CloseBrace = 8
mark_number marks.Prime = 9
mark_number marks.Tilde = 10
mark_number marks.Ampersand = 11
mark_number marks.Bar = 12
mark_number marks.RightArrow = 13
mark_number marks.LeftArrow = 14
mark_number marks.BothArrow = 15
mark_number marks.LessStar = 16
mark_number marks.LessQuery = 17
mark_number marks.LessColon = 18
mark_number marks.LessLess = 19
mark_number marks.LessEqual = 20
mark_number marks.Less = 21
mark_number marks.GreaterStar = 22
mark_number marks.GreaterQuery = 23
mark_number marks.GreaterColon = 24
mark_number marks.GreaterGreater = 25
mark_number marks.GreaterEqual = 26
mark_number marks.Greater = 27
mark_number marks.Equal = 28
mark_number marks.Unequal = 29
mark_number marks.Plus = 30
mark_number marks.Minus = 31
mark_number marks.Star = 32
mark_number marks.Slash = 33
mark_number marks.Backslash = 34
mark_number marks.Not = 35
mark_number marks.Program = 36
mark_number marks.Const = 37
mark_number marks.Show = 38

abbrev pub is_sign : Mark → Sense → Bool
is_sign mark (Sign found) = mark_number found == mark_number mark
is_sign mark said = false

-- this sign
abbrev pub sign : Mark → Word → Option (Known → Unit {0} × Known)
sign mark word = plain (is_sign mark (sense word))

-- ---- words of expressions

-- a name or a string, which is numbered where it is seen first
abbrev pub known_term : Term → Known → Expr × Known
known_term term known = (exprs.Value (value_of known.symbols term), record known { symbols = with_term known.symbols term })

-- the place of a variable among those of the statement, or behind them
abbrev pub place_in : List ℕ → List (List ℕ) → ℕ
place_in name [] = 0
place_in name (first ∷ more) = if bytes_eq name first then 0 else suc (place_in name more)

abbrev pub with_var : List ℕ → List (List ℕ) → List (List ℕ)
with_var name [] = name ∷ []
with_var name (first ∷ more) = if bytes_eq name first then first ∷ more else first ∷ with_var name more

abbrev pub known_var : List ℕ → Known → Expr × Known
known_var name known = (exprs.Var (place_in name known.vars), record known { vars = with_var name known.vars })

-- each `_` is a variable of its own
abbrev pub new_var : Known → Expr × Known
new_var known = (exprs.Var (length known.vars), record known { vars = known.vars ++ codes "_" ∷ [] })

-- an expression of one word: a number, a name, a string, a variable or `_`
abbrev pub leaf_of : Sense → Option (Known → Expr × Known)
leaf_of (Number text) = option_map (λ value known. (exprs.Value (values.Num (pos value)), known)) (number_of text)
leaf_of (Name text) = Some (known_term (terms.Name text))
leaf_of (Str text) = option_map (λ bytes. known_term (terms.Str bytes)) (string_of text)
leaf_of (Variable name) = Some (known_var name)
leaf_of Blank = Some new_var
leaf_of said = None

abbrev pub leaf : Word → Option (Known → Expr × Known)
leaf word = leaf_of (sense word)

abbrev pub product_op_of : Sense → Option ProductOp
product_op_of (Sign marks.Star) = Some products.Times
product_op_of (Sign marks.Slash) = Some products.Divide
product_op_of (Sign marks.Backslash) = Some products.Remainder
product_op_of said = None

abbrev pub product_op : Word → Option (Known → ProductOp × Known)
product_op word = by_itself (product_op_of (sense word))

abbrev pub sum_op_of : Sense → Option SumOp
sum_op_of (Sign marks.Plus) = Some sums.Plus
sum_op_of (Sign marks.Minus) = Some sums.Minus
sum_op_of said = None

abbrev pub sum_op : Word → Option (Known → SumOp × Known)
sum_op word = by_itself (sum_op_of (sense word))

-- ---- words of atoms and formulas

abbrev pub name_of : Sense → Option (List ℕ)
name_of (Name text) = Some text
name_of said = None

abbrev pub name : Word → Option (Known → List ℕ × Known)
name word = by_itself (name_of (sense word))

abbrev pub const_named : List ℕ → Option ConstOp
const_named name =
    if bytes_eq name (codes "true") then Some consts.True
    else (if bytes_eq name (codes "false") then Some consts.False
    else (if bytes_eq name (codes "initial") then Some consts.Initial
    else (if bytes_eq name (codes "final") then Some consts.Final else None)))

abbrev pub const_of : Sense → Option ConstOp
const_of (Name text) = const_named text
const_of said = None

abbrev pub const_op : Word → Option (Known → ConstOp × Known)
const_op word = by_itself (const_of (sense word))

abbrev pub prefix_of : Sense → Option UnaryOp
prefix_of (Sign marks.Tilde) = Some unaries.Not
prefix_of (Sign marks.Less) = Some unaries.Previous
prefix_of (Sign marks.LessColon) = Some unaries.WeakPrevious
prefix_of (Sign marks.LessStar) = Some unaries.AlwaysBefore
prefix_of (Sign marks.LessQuery) = Some unaries.OnceBefore
prefix_of (Sign marks.LessLess) = Some unaries.Initially
prefix_of (Sign marks.Greater) = Some unaries.Next
prefix_of (Sign marks.GreaterColon) = Some unaries.WeakNext
prefix_of (Sign marks.GreaterStar) = Some unaries.AlwaysAfter
prefix_of (Sign marks.GreaterQuery) = Some unaries.OnceAfter
prefix_of (Sign marks.GreaterGreater) = Some unaries.Finally
prefix_of said = None

abbrev pub prefix_op : Word → Option (Known → UnaryOp × Known)
prefix_op word = by_itself (prefix_of (sense word))

abbrev pub pair_op_of : Sense → Option BinaryOp
pair_op_of (Sign marks.LessQuery) = Some binaries.Since
pair_op_of (Sign marks.LessStar) = Some binaries.Trigger
pair_op_of (Sign marks.GreaterQuery) = Some binaries.Until
pair_op_of (Sign marks.GreaterStar) = Some binaries.Release
pair_op_of said = None

abbrev pub pair_op : Word → Option (Known → BinaryOp × Known)
pair_op word = by_itself (pair_op_of (sense word))

abbrev pub arrow_op_of : Sense → Option BinaryOp
arrow_op_of (Sign marks.RightArrow) = Some binaries.Implies
arrow_op_of (Sign marks.LeftArrow) = Some binaries.ImpliedBy
arrow_op_of (Sign marks.BothArrow) = Some binaries.Same
arrow_op_of said = None

abbrev pub arrow_op : Word → Option (Known → BinaryOp × Known)
arrow_op word = by_itself (arrow_op_of (sense word))

-- ---- productions

-- The words of which expressions, atoms and formulas are made.
pub data Terminal : Type 0 where
  AMark : Mark → Terminal
  ALeaf : Terminal
  AProductOp : Terminal
  ASumOp : Terminal
  AName : Terminal
  AConst : Terminal
  APrefix : Terminal
  APairOp : Terminal
  AnArrow : Terminal

abbrev pub WordOf : Terminal → Type 0
WordOf (AMark mark) = Unit {0}
WordOf ALeaf = Expr
WordOf AProductOp = ProductOp
WordOf ASumOp = SumOp
WordOf AName = List ℕ
WordOf AConst = ConstOp
WordOf APrefix = UnaryOp
WordOf APairOp = BinaryOp
WordOf AnArrow = BinaryOp

abbrev pub word : (t : Terminal) → Word → Option (Known → WordOf t × Known)
word (AMark mark) = sign mark
word ALeaf = leaf
word AProductOp = product_op
word ASumOp = sum_op
word AName = name
word AConst = const_op
word APrefix = prefix_op
word APairOp = pair_op
word AnArrow = arrow_op

-- a production of things, of words and of given things of one type
abbrev pub Over : Type 0 → Type 0 → Type 1
Over R A = Production Terminal WordOf (Unit {0}) (λ i. R) false A

-- its grammar, for the one of the given things
abbrev pub meant : {R A : Type 0} → Grammar R → Over R A → Grammar A
meant F p = means word (λ i. F) p

abbrev pub it : {R : Type 0} → Over R R
it = given tt

abbrev pub alone : {R : Type 0} → Mark → Over R (Unit {0})
alone mark = terminal (AMark mark)

-- ---- expressions

-- a chain of one operand is this operand
abbrev pub product_of : Expr × List (ProductOp × Expr) → Expr
product_of (first, []) = first
product_of (first, next ∷ more) = exprs.Product first (next ∷ more)

abbrev pub sum_of : Expr × List (SumOp × Expr) → Expr
sum_of (first, []) = first
sum_of (first, next ∷ more) = exprs.Sum first (next ∷ more)

-- "(" .. ")"
abbrev pub bracketed : {R A : Type 0} → Over R A → Over R A
bracketed p = led (AMark marks.Open) (ended p (AMark marks.Close))

-- product = value { ("*" | "/" | "\\") value }
abbrev pub product : {R : Type 0} → Over R Expr → Over R Expr
product value = made_of product_of (and_on value (many (and (terminal AProductOp) value)))

-- expr = product { ("+" | "-") product }
abbrev pub sum : {R : Type 0} → Over R Expr → Over R Expr
sum product = made_of sum_of (and_on product (many (and (terminal ASumOp) product)))

abbrev pub expr : {R : Type 0} → Over R Expr → Over R Expr
expr value = sum (product value)

abbrev pub negative : {R : Type 0} → Over R Expr → Over R Expr
negative value = made_of exprs.Minus (led (AMark marks.Minus) value)

-- "-" value | "(" expr ")"
abbrev pub deep_value : Over Expr Expr
deep_value = or (negative it) (bracketed (expr it))

-- value = number | name | string | variable | "_" | "-" value | "(" expr ")", where the last two open a level
unfoldable pub IsValue : ℕ → Grammar Expr
IsValue zero = One leaf
IsValue (suc levels) = Either (One leaf) (meant (IsValue levels) deep_value)

-- expressions, where at most so many levels are open at once
abbrev pub IsExpr : ℕ → Grammar Expr
IsExpr levels = meant (IsValue levels) (expr it)

-- ---- atoms

-- the most arguments behind the first one
abbrev pub further_arguments : ℕ
further_arguments = 7

abbrev pub behind_all : {A B : Type 0} → List (A × B) → List B
behind_all [] = []
behind_all (pair ∷ pairs) = pair.1 ∷ behind_all pairs

abbrev pub args_of : {W A B C : Type 0} → W × (A × (List (B × A) × C)) → List A
args_of read = read.1.0 ∷ behind_all read.1.1.0

-- "(" expr { "," expr } ")", with at most eight expressions
abbrev pub args : {R : Type 0} → Over R Expr → Over R (List Expr)
args expr = made_of args_of (and (alone marks.Open) (and expr (and_from (few further_arguments (and (alone marks.Comma) expr)) (alone marks.Close))))

abbrev pub is_there : {A : Type 0} → Option A → Bool
is_there None = false
is_there (Some thing) = true

abbrev pub count : {A : Type 0} → Option A → ℕ
count None = 0
count (Some thing) = 1

abbrev pub args_or_none : Option (List Expr) → List Expr
args_or_none None = []
args_or_none (Some args) = args

-- a sign as it is read: a `-`, a prime, a name and a prime
abbrev pub SignRead : Type 0
SignRead = Option (Unit {0}) × (Option (Unit {0}) × (List ℕ × Option (Unit {0})))

abbrev pub primed : {R : Type 0} → Over R (Option (Unit {0}) × (List ℕ × Option (Unit {0})))
primed = and_from (perhaps (alone marks.Prime)) (and_on (terminal AName) (perhaps (alone marks.Prime)))

-- sign = [ "-" ] [ "'" ] name [ "'" ]
abbrev pub signed : {R : Type 0} → Over R SignRead
signed = and_from (perhaps (alone marks.Minus)) primed

-- no expression is given
abbrev pub IsSign : Grammar SignRead
IsSign = meant (One leaf) signed

abbrev pub atom_of : SignRead × Option (List Expr) → Atom
atom_of ((minus, (before, (name, after))), args) = record {
  negative = is_there minus;
  before = count before;
  name = name;
  after = count after;
  args = args_or_none args;
}

-- atom = sign [ "(" expr { "," expr } ")" ]
abbrev pub atom : {R : Type 0} → Over R Expr → Over R Atom
atom expr = made_of atom_of (and_on signed (perhaps (args expr)))

abbrev pub IsAtom : ℕ → Grammar Atom
IsAtom levels = meant (IsExpr levels) (atom it)

-- ---- formulas

-- constant = "&" ("true" | "false" | "initial" | "final")
abbrev pub constant : {R : Type 0} → Over R Formula
constant = made_of formulas.Const (led (AMark marks.Ampersand) (terminal AConst))

-- constant | atom
abbrev pub flat_formula : Over Expr Formula
flat_formula = or constant (made_of formulas.Atom (atom it))

abbrev pub prefixed : UnaryOp × Formula → Formula
prefixed (op, formula) = formulas.Unary op formula

abbrev pub paired : Formula × Option (BinaryOp × Formula) → Formula
paired (first, None) = first
paired (first, Some (op, second)) = formulas.Binary op first second

-- pair = unary [ ("<?" | "<*" | ">?" | ">*") unary ]
abbrev pub pair : {R : Type 0} → Over R Formula → Over R Formula
pair unary = made_of paired (and_on unary (perhaps (and (terminal APairOp) unary)))

-- a chain of one formula is this formula
abbrev pub many_of : {A : Type 0} → ManyOp → Formula × List (A × Formula) → Formula
many_of op (first, []) = first
many_of op (first, next ∷ more) = formulas.Many op (first ∷ behind_all (next ∷ more))

-- conjunction = pair { "&" pair }
abbrev pub conjunction : {R : Type 0} → Over R Formula → Over R Formula
conjunction pair = made_of (many_of manies.And) (and_on pair (many (and (alone marks.Ampersand) pair)))

-- disjunction = conjunction { "|" conjunction }
abbrev pub disjunction : {R : Type 0} → Over R Formula → Over R Formula
disjunction conjunction = made_of (many_of manies.Or) (and_on conjunction (many (and (alone marks.Bar) conjunction)))

-- formula = disjunction [ ("->" | "<-" | "<>") disjunction ]
abbrev pub arrow : {R : Type 0} → Over R Formula → Over R Formula
arrow disjunction = made_of paired (and_on disjunction (perhaps (and (terminal AnArrow) disjunction)))

abbrev pub formula : {R : Type 0} → Over R Formula → Over R Formula
formula unary = arrow (disjunction (conjunction (pair unary)))

abbrev pub behind_prefix : {R : Type 0} → Over R Formula → Over R Formula
behind_prefix unary = made_of prefixed (and (terminal APrefix) unary)

-- prefix unary | "(" formula ")"
abbrev pub deep_formula : Over Formula Formula
deep_formula = or (behind_prefix it) (bracketed (formula it))

-- unary = constant | atom | prefix unary | "(" formula ")", where the last two open a level
unfoldable pub IsUnary : ℕ → Grammar Formula
IsUnary zero = meant (IsExpr zero) flat_formula
IsUnary (suc levels) = Either (meant (IsExpr (suc levels)) flat_formula) (meant (IsUnary levels) deep_formula)

-- formulas, where at most so many levels are open at once
abbrev pub IsFormula : ℕ → Grammar Formula
IsFormula levels = meant (IsUnary levels) (formula it)
