-- The words of statements: one of each kind, and the set of each kind.
use Rattle.std.proofs.Common.{◌≡◌, ℕ, Bool, true, List, [], ◌∷◌, refl}
use Rattle.std.specs.Prelude.{codes, is_some}
use Rattle.std.proofs.lemmas.Bool.{false≢true}
use Rattle.tel_lex.specs.declared.token.TokenKind.TheVariants as token_kinds
use Rattle.tel_rule.specs.declared.parts.Part.TheVariants as parts
use Rattle.tel_rule.specs.declared.statements.Relation.TheVariants as relations
use Rattle.grammar_laws.specs.Steps.{passes}
use Rattle.grammar_laws.proofs.Lifting.{Passing}
use Rattle.grammar_laws.proofs.Sets.{member, LiesIn}
use Rattle.grammar_laws.proofs.Described.{Words, more_set, more-lies}
use Rattle.formula_syntax.specs.declared.marks.Mark.TheVariants as marks
use Rattle.formula_syntax.specs.Points.{Word, Known}
use Rattle.formula_syntax.specs.Senses.{Sense, Name, Number, Sign, sense, number_of}
use Rattle.formula_syntax.specs.Grammar.{plain, by_itself, expr, it}
use Rattle.formula_syntax.specs.Grammar as formulas
use Rattle.formula_syntax.proofs.Terminals.{sign_word, name_word, passing-name, passing-sign, sign_code, code, word_code, sign-lies, name_set}
use Rattle.formula_syntax.proofs.Terminals as formula_words
use Rattle.formula_syntax.proofs.Families.{starts_value, value_set, value-lies, value_words, more_expr}
use Rattle.part_syntax.specs.Grammar.{separator, is_separator, tel_word, is_tel, part, part_of, arity, arity_of, relation, relation_of, Terminal, AMark, ATel, AName, APart, AnArity, ASeparator, ARelation, WordOf, word}

passing-separator : Passing separator
passing-separator = record { word = sign_word (codes ","); make = λ known. (tt, known); gives = refl }

passing-tel_word : Passing tel_word
passing-tel_word = record { word = name_word (codes "tel"); make = λ known. (tt, known); gives = refl }

passing-part : Passing part
passing-part = record { word = name_word (codes "always"); make = λ known. (parts.Always, known); gives = refl }

passing-arity : Passing arity
unfolding number_of
passing-arity = record { word = record { kind = token_kinds.Number; text = codes "1"; place = record { file = 1; line = 1; at = 1 } }; make = λ known. (1, known); gives = refl }

passing-relation : Passing relation
passing-relation = record { word = sign_word (codes "="); make = λ known. (relations.Equal, known); gives = refl }

pub some_word : (t : Terminal) → Passing (word t)
some_word (AMark mark) = passing-sign mark
some_word ATel = passing-tel_word
some_word AName = passing-name
some_word APart = passing-part
some_word AnArity = passing-arity
some_word ASeparator = passing-separator
some_word ARelation = passing-relation

abbrev arity_set : List ℕ
arity_set = 3 ∷ []

abbrev separator_set : List ℕ
separator_set = sign_code marks.Comma ∷ sign_code marks.Semicolon ∷ []

abbrev relation_set : List ℕ
relation_set = sign_code marks.Equal ∷ sign_code marks.Unequal ∷ sign_code marks.Less ∷ sign_code marks.LessEqual ∷ sign_code marks.Greater ∷ sign_code marks.GreaterEqual ∷ []

tel-in : (s : Sense) → is_some (plain (is_tel s)) ≡ true → member (code s) name_set ≡ true
tel-in (Name text) is = refl
tel-in _ is = absurd (false≢true is)

part-in : (s : Sense) → is_some (by_itself (part_of s)) ≡ true → member (code s) name_set ≡ true
part-in (Name text) is = refl
part-in _ is = absurd (false≢true is)

arity-in : (s : Sense) → is_some (by_itself (arity_of s)) ≡ true → member (code s) arity_set ≡ true
arity-in (Number text) is = refl
arity-in _ is = absurd (false≢true is)

separator-in : (s : Sense) → is_some (plain (is_separator s)) ≡ true → member (code s) separator_set ≡ true
separator-in (Sign marks.Comma) is = refl
separator-in (Sign marks.Semicolon) is = refl
separator-in _ is = absurd (false≢true is)

relation-in : (s : Sense) → is_some (by_itself (relation_of s)) ≡ true → member (code s) relation_set ≡ true
relation-in (Sign marks.Equal) is = refl
relation-in (Sign marks.Unequal) is = refl
relation-in (Sign marks.Less) is = refl
relation-in (Sign marks.LessEqual) is = refl
relation-in (Sign marks.Greater) is = refl
relation-in (Sign marks.GreaterEqual) is = refl
relation-in _ is = absurd (false≢true is)

abbrev pub word_set : Terminal → List ℕ
word_set (AMark mark) = sign_code mark ∷ []
word_set ATel = name_set
word_set AName = name_set
word_set APart = name_set
word_set AnArity = arity_set
word_set ASeparator = separator_set
word_set ARelation = relation_set

pub word_in : (t : Terminal) → LiesIn word_code (passes (word t)) (word_set t)
word_in (AMark mark) = sign-lies mark
word_in ATel = λ w is. tel-in (sense w) is
word_in AName = formula_words.word_in formulas.AName
word_in APart = λ w is. part-in (sense w) is
word_in AnArity = λ w is. arity-in (sense w) is
word_in ASeparator = λ w is. separator-in (sense w) is
word_in ARelation = λ w is. relation-in (sense w) is

-- the words, and given things that begin and go on so
abbrev pub with_things : {I : Type 0} → (starts more : I → Word → Bool) (start_set more_set : I → List ℕ) → ((i : I) → LiesIn word_code (starts i) (start_set i)) → ((i : I) → LiesIn word_code (more i) (more_set i)) → Words Word Known Terminal WordOf I
with_things starts more start_set more_set starts_in more_in = record {
  code = word_code;
  value = word;
  some = some_word;
  word_set = word_set;
  word_in = word_in;
  starts = starts;
  more = more;
  start_set = start_set;
  more_set = more_set;
  starts_in = starts_in;
  more_in = more_in;
}

abbrev pub more_expr_set : List ℕ
more_expr_set = more_set value_words (expr it)

pub more_expr-lies : LiesIn word_code more_expr more_expr_set
more_expr-lies = more-lies value_words (expr it)

-- expressions are given
abbrev pub compared_words : Words Word Known Terminal WordOf (Unit {0})
compared_words = with_things (λ i. starts_value) (λ i. more_expr) (λ i. value_set) (λ i. more_expr_set) (λ i. value-lies) (λ i. more_expr-lies)
