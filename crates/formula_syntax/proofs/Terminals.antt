-- The words of the grammar: one of each kind, and the set of each kind, by numbers.
use Rattle.std.proofs.Common.{◌≡◌, ℕ, ◌+◌, Bool, true, false, List, [], ◌∷◌, Some, refl, ap, ◌||◌}
use Rattle.std.specs.Prelude.{◌==◌, codes, is_some}
use Rattle.std.proofs.lemmas.Bool.{false≢true, eqb-true, eq-eqb}
use Rattle.tel_lex.specs.declared.token.TokenKind.TheVariants as kinds
use Rattle.tel_rule.specs.declared.formulas.ConstOp.TheVariants as consts
use Rattle.tel_rule.specs.declared.formulas.UnaryOp.TheVariants as unaries
use Rattle.tel_rule.specs.declared.formulas.BinaryOp.TheVariants as binaries
use Rattle.tel_term.specs.declared.exprs.SumOp.TheVariants as sums
use Rattle.tel_term.specs.declared.exprs.ProductOp.TheVariants as products
use Rattle.grammar_laws.specs.Steps.{passes}
use Rattle.grammar_laws.proofs.Lifting.{Apart, Passing}
use Rattle.grammar_laws.proofs.Sets.{member, none_of, LiesIn, apart-by}
use Rattle.grammar_laws.proofs.Described.{Words}
use Rattle.formula_syntax.specs.declared.marks.Mark.{Mark}
use Rattle.formula_syntax.specs.declared.marks.Mark.TheVariants as marks
use Rattle.formula_syntax.specs.Points.{Word, Known}
use Rattle.formula_syntax.specs.Senses.{Sense, Name, Variable, Blank, Number, Str, Sign, Other, sense}
use Rattle.formula_syntax.specs.Grammar.{plain, by_itself, mark_number, is_sign, sign, leaf, leaf_of, new_var, name, name_of, product_op, product_op_of, sum_op, sum_op_of, const_op, const_of, prefix_op, prefix_of, pair_op, pair_op_of, arrow_op, arrow_op_of, Terminal, AMark, ALeaf, AProductOp, ASumOp, AName, AConst, APrefix, APairOp, AnArrow, WordOf, word}

-- ---- a word of each kind

abbrev pub sign_word : List ℕ → Word
sign_word text = record { kind = kinds.Sign; text = text; place = record { file = 1; line = 1; at = 1 } }

abbrev pub name_word : List ℕ → Word
name_word text = record { kind = kinds.Name; text = text; place = record { file = 1; line = 1; at = 1 } }

abbrev hash_word : List ℕ → Word
hash_word text = record { kind = kinds.Hash; text = text; place = record { file = 1; line = 1; at = 1 } }

abbrev spelled : Mark → Word
spelled marks.If = sign_word (codes ":-")
spelled marks.Dots = sign_word (codes "..")
spelled marks.Stop = sign_word (codes ".")
spelled marks.Comma = sign_word (codes ",")
spelled marks.Semicolon = sign_word (codes ";")
spelled marks.Open = sign_word (codes "(")
spelled marks.Close = sign_word (codes ")")
spelled marks.OpenBrace = sign_word (codes "{")
spelled marks.CloseBrace = sign_word (codes "}")
spelled marks.Prime = sign_word (codes "'")
spelled marks.Tilde = sign_word (codes "~")
spelled marks.Ampersand = sign_word (codes "&")
spelled marks.Bar = sign_word (codes "|")
spelled marks.RightArrow = sign_word (codes "->")
spelled marks.LeftArrow = sign_word (codes "<-")
spelled marks.BothArrow = sign_word (codes "<>")
spelled marks.LessStar = sign_word (codes "<*")
spelled marks.LessQuery = sign_word (codes "<?")
spelled marks.LessColon = sign_word (codes "<:")
spelled marks.LessLess = sign_word (codes "<<")
spelled marks.LessEqual = sign_word (codes "<=")
spelled marks.Less = sign_word (codes "<")
spelled marks.GreaterStar = sign_word (codes ">*")
spelled marks.GreaterQuery = sign_word (codes ">?")
spelled marks.GreaterColon = sign_word (codes ">:")
spelled marks.GreaterGreater = sign_word (codes ">>")
spelled marks.GreaterEqual = sign_word (codes ">=")
spelled marks.Greater = sign_word (codes ">")
spelled marks.Equal = sign_word (codes "=")
spelled marks.Unequal = sign_word (codes "!=")
spelled marks.Plus = sign_word (codes "+")
spelled marks.Minus = sign_word (codes "-")
spelled marks.Star = sign_word (codes "*")
spelled marks.Slash = sign_word (codes "/")
spelled marks.Backslash = sign_word (codes "\\")
spelled marks.Not = name_word (codes "not")
spelled marks.Program = hash_word (codes "#program")
spelled marks.Const = hash_word (codes "#const")
spelled marks.Show = hash_word (codes "#show")

spells : (mark : Mark) → sign mark (spelled mark) ≡ Some (λ known. (tt, known))
spells marks.If = refl
spells marks.Dots = refl
spells marks.Stop = refl
spells marks.Comma = refl
spells marks.Semicolon = refl
spells marks.Open = refl
spells marks.Close = refl
spells marks.OpenBrace = refl
spells marks.CloseBrace = refl
spells marks.Prime = refl
spells marks.Tilde = refl
spells marks.Ampersand = refl
spells marks.Bar = refl
spells marks.RightArrow = refl
spells marks.LeftArrow = refl
spells marks.BothArrow = refl
spells marks.LessStar = refl
spells marks.LessQuery = refl
spells marks.LessColon = refl
spells marks.LessLess = refl
spells marks.LessEqual = refl
spells marks.Less = refl
spells marks.GreaterStar = refl
spells marks.GreaterQuery = refl
spells marks.GreaterColon = refl
spells marks.GreaterGreater = refl
spells marks.GreaterEqual = refl
spells marks.Greater = refl
spells marks.Equal = refl
spells marks.Unequal = refl
spells marks.Plus = refl
spells marks.Minus = refl
spells marks.Star = refl
spells marks.Slash = refl
spells marks.Backslash = refl
spells marks.Not = refl
spells marks.Program = refl
spells marks.Const = refl
spells marks.Show = refl

-- a word that is this sign
pub passing-sign : (mark : Mark) → Passing (sign mark)
passing-sign mark = record { word = spelled mark; make = λ known. (tt, known); gives = spells mark }

pub passing-product_op : Passing product_op
passing-product_op = record { word = sign_word (codes "*"); make = λ known. (products.Times, known); gives = refl }

pub passing-sum_op : Passing sum_op
passing-sum_op = record { word = sign_word (codes "+"); make = λ known. (sums.Plus, known); gives = refl }

pub passing-pair_op : Passing pair_op
passing-pair_op = record { word = sign_word (codes ">?"); make = λ known. (binaries.Until, known); gives = refl }

pub passing-arrow_op : Passing arrow_op
passing-arrow_op = record { word = sign_word (codes "->"); make = λ known. (binaries.Implies, known); gives = refl }

pub passing-prefix_op : Passing prefix_op
passing-prefix_op = record { word = sign_word (codes "~"); make = λ known. (unaries.Not, known); gives = refl }

pub passing-name : Passing name
passing-name = record { word = name_word (codes "a"); make = λ known. (codes "a", known); gives = refl }

pub passing-const_op : Passing const_op
passing-const_op = record { word = name_word (codes "true"); make = λ known. (consts.True, known); gives = refl }

passing-leaf : Passing leaf
passing-leaf = record { word = record { kind = kinds.Blank; text = codes "_"; place = record { file = 1; line = 1; at = 1 } }; make = new_var; gives = refl }

pub some_word : (t : Terminal) → Passing (word t)
some_word (AMark mark) = passing-sign mark
some_word ALeaf = passing-leaf
some_word AProductOp = passing-product_op
some_word ASumOp = passing-sum_op
some_word AName = passing-name
some_word AConst = passing-const_op
some_word APrefix = passing-prefix_op
some_word APairOp = passing-pair_op
some_word AnArrow = passing-arrow_op

-- ---- sets of words

-- the number of what a word says
abbrev pub sign_code : Mark → ℕ
sign_code mark = mark_number mark + 6

abbrev pub code : Sense → ℕ
code (Name text) = 0
code (Variable name) = 1
code Blank = 2
code (Number text) = 3
code (Str text) = 4
code Other = 5
code (Sign mark) = sign_code mark

abbrev pub word_code : Word → ℕ
word_code word = code (sense word)

or-first : (a b : Bool) → a ≡ true → (a || b) ≡ true
or-first true b e = refl
or-first false b e = absurd (false≢true e)

-- a sign
plain-true : (b : Bool) → is_some (plain b) ≡ true → b ≡ true
plain-true true is = refl
plain-true false is = absurd (false≢true is)

sign-coded : (mark : Mark) (s : Sense) → is_some (plain (is_sign mark s)) ≡ true → member (code s) (sign_code mark ∷ []) ≡ true
sign-coded mark (Sign found) is =
    let e : mark_number found ≡ mark_number mark = eqb-true (mark_number found) (mark_number mark) (plain-true (mark_number found == mark_number mark) is) in
    or-first (sign_code found == sign_code mark) false (eq-eqb (sign_code found) (sign_code mark) (ap (λ (n : ℕ). n + 6) e))
sign-coded mark _ is = absurd (false≢true is)

pub sign-lies : (mark : Mark) → LiesIn word_code (passes (sign mark)) (sign_code mark ∷ [])
sign-lies mark w is = sign-coded mark (sense w) is

abbrev pub name_set : List ℕ
name_set = 0 ∷ []

abbrev leaf_set : List ℕ
leaf_set = 0 ∷ 1 ∷ 2 ∷ 3 ∷ 4 ∷ []

abbrev product_set : List ℕ
product_set = sign_code marks.Star ∷ sign_code marks.Slash ∷ sign_code marks.Backslash ∷ []

abbrev sum_set : List ℕ
sum_set = sign_code marks.Plus ∷ sign_code marks.Minus ∷ []

abbrev prefix_set : List ℕ
prefix_set = sign_code marks.Tilde ∷ sign_code marks.Less ∷ sign_code marks.LessColon ∷ sign_code marks.LessStar ∷ sign_code marks.LessQuery ∷ sign_code marks.LessLess ∷ sign_code marks.Greater ∷ sign_code marks.GreaterColon ∷ sign_code marks.GreaterStar ∷ sign_code marks.GreaterQuery ∷ sign_code marks.GreaterGreater ∷ []

abbrev pair_set : List ℕ
pair_set = sign_code marks.LessStar ∷ sign_code marks.LessQuery ∷ sign_code marks.GreaterStar ∷ sign_code marks.GreaterQuery ∷ []

abbrev arrow_set : List ℕ
arrow_set = sign_code marks.RightArrow ∷ sign_code marks.LeftArrow ∷ sign_code marks.BothArrow ∷ []

name-in : (s : Sense) → is_some (by_itself (name_of s)) ≡ true → member (code s) name_set ≡ true
name-in (Name text) is = refl
name-in _ is = absurd (false≢true is)

leaf-in : (s : Sense) → is_some (leaf_of s) ≡ true → member (code s) leaf_set ≡ true
leaf-in (Name text) is = refl
leaf-in (Variable name) is = refl
leaf-in Blank is = refl
leaf-in (Number text) is = refl
leaf-in (Str text) is = refl
leaf-in _ is = absurd (false≢true is)

product-in : (s : Sense) → is_some (by_itself (product_op_of s)) ≡ true → member (code s) product_set ≡ true
product-in (Sign marks.Star) is = refl
product-in (Sign marks.Slash) is = refl
product-in (Sign marks.Backslash) is = refl
product-in _ is = absurd (false≢true is)

sum-in : (s : Sense) → is_some (by_itself (sum_op_of s)) ≡ true → member (code s) sum_set ≡ true
sum-in (Sign marks.Plus) is = refl
sum-in (Sign marks.Minus) is = refl
sum-in _ is = absurd (false≢true is)

prefix-in : (s : Sense) → is_some (by_itself (prefix_of s)) ≡ true → member (code s) prefix_set ≡ true
prefix-in (Sign marks.Tilde) is = refl
prefix-in (Sign marks.Less) is = refl
prefix-in (Sign marks.LessColon) is = refl
prefix-in (Sign marks.LessStar) is = refl
prefix-in (Sign marks.LessQuery) is = refl
prefix-in (Sign marks.LessLess) is = refl
prefix-in (Sign marks.Greater) is = refl
prefix-in (Sign marks.GreaterColon) is = refl
prefix-in (Sign marks.GreaterStar) is = refl
prefix-in (Sign marks.GreaterQuery) is = refl
prefix-in (Sign marks.GreaterGreater) is = refl
prefix-in _ is = absurd (false≢true is)

pair-in : (s : Sense) → is_some (by_itself (pair_op_of s)) ≡ true → member (code s) pair_set ≡ true
pair-in (Sign marks.LessStar) is = refl
pair-in (Sign marks.LessQuery) is = refl
pair-in (Sign marks.GreaterStar) is = refl
pair-in (Sign marks.GreaterQuery) is = refl
pair-in _ is = absurd (false≢true is)

arrow-in : (s : Sense) → is_some (by_itself (arrow_op_of s)) ≡ true → member (code s) arrow_set ≡ true
arrow-in (Sign marks.RightArrow) is = refl
arrow-in (Sign marks.LeftArrow) is = refl
arrow-in (Sign marks.BothArrow) is = refl
arrow-in _ is = absurd (false≢true is)

const-in : (s : Sense) → is_some (by_itself (const_of s)) ≡ true → member (code s) name_set ≡ true
const-in (Name text) is = refl
const-in _ is = absurd (false≢true is)

abbrev pub word_set : Terminal → List ℕ
word_set (AMark mark) = sign_code mark ∷ []
word_set ALeaf = leaf_set
word_set AProductOp = product_set
word_set ASumOp = sum_set
word_set AName = name_set
word_set AConst = name_set
word_set APrefix = prefix_set
word_set APairOp = pair_set
word_set AnArrow = arrow_set

pub word_in : (t : Terminal) → LiesIn word_code (passes (word t)) (word_set t)
word_in (AMark mark) = sign-lies mark
word_in ALeaf = λ w is. leaf-in (sense w) is
word_in AProductOp = λ w is. product-in (sense w) is
word_in ASumOp = λ w is. sum-in (sense w) is
word_in AName = λ w is. name-in (sense w) is
word_in AConst = λ w is. const-in (sense w) is
word_in APrefix = λ w is. prefix-in (sense w) is
word_in APairOp = λ w is. pair-in (sense w) is
word_in AnArrow = λ w is. arrow-in (sense w) is

-- words of one kind are none of another
pub words-apart : (t u : Terminal) → none_of (word_set t) (word_set u) ≡ true → Apart (passes (word t)) (passes (word u))
words-apart t u ok = apart-by word_code (passes (word t)) (passes (word u)) (word_set t) (word_set u) (word_in t) (word_in u) ok

-- the words, and given things that begin and go on so
abbrev pub over : (starts more : Word → Bool) (start_set more_set : List ℕ) → LiesIn word_code starts start_set → LiesIn word_code more more_set → Words Word Known Terminal WordOf (Unit {0})
over starts more start_set more_set starts_in more_in = record {
  code = word_code;
  value = word;
  some = some_word;
  word_set = word_set;
  word_in = word_in;
  starts = λ i. starts;
  more = λ i. more;
  start_set = λ i. start_set;
  more_set = λ i. more_set;
  starts_in = λ i. starts_in;
  more_in = λ i. more_in;
}
