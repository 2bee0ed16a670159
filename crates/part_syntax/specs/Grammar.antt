-- The grammar of statements, of the tokens of a text, and of the program of several texts. Everything is read with a number of
-- levels that may be open at once, which is one more than the number that stands here.
use Rattle.std.specs.Prelude.{◌≡◌, ℕ, suc, ◌+◌, Bool, true, false, List, [], ◌∷◌, ◌++◌, Option, Some, None, if◌then◌else◌, codes}
use Rattle.std.specs.Option.{option_map}
use Rattle.std.specs.Str.{bytes_eq}
use Rattle.tel_base.specs.declared.places.Place.{Place}
use Rattle.tel_term.specs.declared.exprs.Expr.{Expr}
use Rattle.tel_rule.specs.declared.parts.Part.{Part}
use Rattle.tel_rule.specs.declared.parts.Part.TheVariants as parts
use Rattle.tel_rule.specs.declared.formulas.Atom.{Atom}
use Rattle.tel_rule.specs.declared.formulas.Formula.{Formula}
use Rattle.tel_rule.specs.declared.statements.Head.{Head}
use Rattle.tel_rule.specs.declared.statements.Head.TheVariants as heads
use Rattle.tel_rule.specs.declared.statements.Relation.{Relation}
use Rattle.tel_rule.specs.declared.statements.Relation.TheVariants as relations
use Rattle.tel_rule.specs.declared.statements.LitItem.{LitItem}
use Rattle.tel_rule.specs.declared.statements.LitItem.TheVariants as items
use Rattle.tel_rule.specs.declared.statements.Literal.{Literal}
use Rattle.tel_rule.specs.declared.statements.Arg.{Arg}
use Rattle.tel_rule.specs.declared.statements.Arg.TheVariants as args
use Rattle.tel_rule.specs.declared.statements.Fact.{Fact}
use Rattle.tel_rule.specs.declared.statements.Signature.{Signature}
use Rattle.tel_rule.specs.declared.statements.Kind.{Kind}
use Rattle.tel_rule.specs.declared.statements.Kind.TheVariants as kinds
use Rattle.tel_rule.specs.declared.statements.Statement.{Statement}
use Rattle.formula_syntax.specs.declared.marks.Mark.{Mark}
use Rattle.formula_syntax.specs.declared.marks.Mark.TheVariants as marks
use Rattle.formula_syntax.specs.Points.{Word, Known, Point, Grammar}
use Rattle.grammar_laws.specs.Points.{at}
use Rattle.formula_syntax.specs.Senses.{Sense, Name, Number, Sign, sense, number_of}
use Rattle.grammar_laws.specs.Shapes.{Made, Either, Each, After}
use Rattle.formula_syntax.specs.Grammar.{by_itself, plain, sign, name, further_arguments, behind_all, is_there, count, SignRead, IsSign, IsExpr, IsAtom, IsFormula}
use Rattle.grammar_laws.specs.Productions.{Production, terminal, given, led as led_by, ended as ended_by, ended_from as ended_from_by, made_of, and, and_on, and_from, or, many, few, perhaps, means, behind}

-- ---- words

-- a comma or a semicolon
abbrev pub is_separator : Sense → Bool
is_separator (Sign marks.Comma) = true
is_separator (Sign marks.Semicolon) = true
is_separator said = false

abbrev pub separator : Word → Option (Known → Unit {0} × Known)
separator word = plain (is_separator (sense word))

abbrev pub is_tel : Sense → Bool
is_tel (Name text) = bytes_eq text (codes "tel")
is_tel said = false

-- the name `tel`
abbrev pub tel_word : Word → Option (Known → Unit {0} × Known)
tel_word word = plain (is_tel (sense word))

abbrev pub part_named : List ℕ → Option Part
part_named text =
    if bytes_eq text (codes "initial") then Some parts.Initial
    else (if bytes_eq text (codes "dynamic") then Some parts.Dynamic
    else (if bytes_eq text (codes "always") then Some parts.Always
    else (if bytes_eq text (codes "final") then Some parts.Final else None)))

abbrev pub part_of : Sense → Option Part
part_of (Name text) = part_named text
part_of said = None

abbrev pub part : Word → Option (Known → Part × Known)
part word = by_itself (part_of (sense word))

abbrev pub arity_of : Sense → Option ℕ
arity_of (Number text) = number_of text
arity_of said = None

abbrev pub arity : Word → Option (Known → ℕ × Known)
arity word = by_itself (arity_of (sense word))

abbrev pub relation_of : Sense → Option Relation
relation_of (Sign marks.Equal) = Some relations.Equal
relation_of (Sign marks.Unequal) = Some relations.Unequal
relation_of (Sign marks.Less) = Some relations.Less
relation_of (Sign marks.LessEqual) = Some relations.LessEqual
relation_of (Sign marks.Greater) = Some relations.Greater
relation_of (Sign marks.GreaterEqual) = Some relations.GreaterEqual
relation_of said = None

abbrev pub relation : Word → Option (Known → Relation × Known)
relation word = by_itself (relation_of (sense word))

-- ---- literals

-- what stands behind so many `not`
abbrev pub behind_nots : ℕ → LitItem → Literal
behind_nots nots item = record { nots = nots; item = item }

abbrev pub compare_of : Expr × (Relation × Expr) → LitItem
compare_of read = items.Compare read.1.0 read.0 read.1.1

-- The words of which statements are made.
pub data Terminal : Type 0 where
  AMark : Mark → Terminal
  ATel : Terminal
  AName : Terminal
  APart : Terminal
  AnArity : Terminal
  ASeparator : Terminal
  ARelation : Terminal

abbrev pub WordOf : Terminal → Type 0
WordOf (AMark mark) = Unit {0}
WordOf ATel = Unit {0}
WordOf AName = List ℕ
WordOf APart = Part
WordOf AnArity = ℕ
WordOf ASeparator = Unit {0}
WordOf ARelation = Relation

abbrev pub word : (t : Terminal) → Word → Option (Known → WordOf t × Known)
word (AMark mark) = sign mark
word ATel = tel_word
word AName = name
word APart = part
word AnArity = arity
word ASeparator = separator
word ARelation = relation

-- comparison = expr ("=" | "!=" | "<" | "<=" | ">" | ">=") expr
abbrev pub comparison : Production Terminal WordOf (Unit {0}) (λ i. Expr) false LitItem
comparison = made_of compare_of (and (given tt) (and (terminal ARelation) (given tt)))

abbrev pub IsComparison : ℕ → Grammar LitItem
IsComparison n = means word (λ i. IsExpr (suc n)) comparison

abbrev pub IsAtomItem : ℕ → Grammar LitItem
IsAtomItem n = Made items.Atom (IsAtom (suc n))

-- An atom or a comparison, for which more than one word is looked at.
abbrev pub IsPlain : ℕ → Grammar LitItem
IsPlain n = Either (IsAtomItem n) (IsComparison n)

-- What the productions of statements are made of, beside words.
pub data Thing : Type 0 where
  ASign : Thing
  AnExpr : Thing
  AnAtomItem : Thing
  AnAtom : Thing
  AFormula : Thing
  APlain : Thing

abbrev pub Of : Thing → Type 0
Of ASign = SignRead
Of AnExpr = Expr
Of AnAtomItem = LitItem
Of AnAtom = Atom
Of AFormula = Formula
Of APlain = LitItem

abbrev pub IsThing : ℕ → (thing : Thing) → Grammar (Of thing)
IsThing n ASign = IsSign
IsThing n AnExpr = IsExpr (suc n)
IsThing n AnAtomItem = IsAtomItem n
IsThing n AnAtom = IsAtom (suc n)
IsThing n AFormula = IsFormula (suc n)
IsThing n APlain = IsPlain n

abbrev pub Produces : Type 0 → Type 1
Produces A = Production Terminal WordOf Thing Of false A

-- a sign alone, before a thing, and behind a thing; it gives no value
abbrev pub alone : Mark → Produces (Unit {0})
alone mark = terminal (AMark mark)

abbrev pub led : {A : Type 0} → Mark → Produces A → Produces A
led mark p = led_by (AMark mark) p

abbrev pub ended : {A : Type 0} → Produces A → Mark → Produces A
ended p mark = ended_by p (AMark mark)

abbrev pub ended_from : {A : Type 0} → Production Terminal WordOf Thing Of true A → Mark → Produces A
ended_from p mark = ended_from_by p (AMark mark)

-- tel = "&" "tel" "{" formula "}"
abbrev pub tel : Produces LitItem
tel = made_of items.Tel (led marks.Ampersand (made_of behind (and (terminal ATel) (led marks.OpenBrace (ended (given AFormula) marks.CloseBrace)))))

abbrev pub negated_of : Unit {0} × (Option (Unit {0}) × LitItem) → Literal
negated_of (first, (second, item)) = behind_nots (1 + count second) item

abbrev pub negatable : Produces LitItem
negatable = or tel (given AnAtomItem)

abbrev pub negated : Produces Literal
negated = made_of negated_of (and (alone marks.Not) (and_from (perhaps (alone marks.Not)) negatable))

abbrev pub bare : Produces LitItem
bare = or tel (given APlain)

-- literal = [ "not" [ "not" ] ] ( tel | atom ) | comparison
abbrev pub literal : Produces Literal
literal = or negated (made_of (behind_nots 0) bare)

abbrev pub chain_of : {A B : Type 0} → B × List (A × B) → List B
chain_of read = read.0 ∷ behind_all read.1

-- body = literal { ("," | ";") literal }
abbrev pub body : Produces (List Literal)
body = made_of chain_of (and_on literal (many (and (terminal ASeparator) literal)))

abbrev pub body_of : Unit {0} × (Option (List Literal) × Unit {0}) → List Literal
body_of (sign, (Some body, end)) = body
body_of (sign, (None, end)) = []

-- tail = ":-" [ body ] "."
abbrev pub tail : Produces (List Literal)
tail = made_of body_of (and (alone marks.If) (and_from (perhaps body) (alone marks.Stop)))

-- ---- facts

abbrev pub arg_of : Expr × Option Expr → Arg
arg_of (first, None) = args.One first
arg_of (first, Some last) = args.Range first last

-- arg = expr [ ".." expr ]
abbrev pub arg : Produces Arg
arg = made_of arg_of (and_on (given AnExpr) (perhaps (led marks.Dots (given AnExpr))))

-- tuple = arg { "," arg }, with at most eight arguments
abbrev pub tuple : Produces (List Arg)
tuple = made_of chain_of (and_on arg (few further_arguments (and (alone marks.Comma) arg)))

abbrev pub tuples_of : Unit {0} × (List Arg × (List (Unit {0} × List Arg) × Unit {0})) → List (List Arg)
tuples_of (first_sign, (first, (more, last_sign))) = first ∷ behind_all more

-- "(" tuple { ";" tuple } ")"
abbrev pub tuples : Produces (List (List Arg))
tuples = made_of tuples_of (and (alone marks.Open) (and tuple (and_from (many (and (alone marks.Semicolon) tuple)) (alone marks.Close))))

abbrev pub tuples_or_one : Option (List (List Arg)) → List (List Arg)
tuples_or_one None = [] ∷ []
tuples_or_one (Some tuples) = tuples

abbrev pub fact_of : SignRead × Option (List (List Arg)) → Fact
fact_of (sign, tuples) = record {
  negative = is_there sign.0;
  before = count sign.1.0;
  name = sign.1.1.0;
  after = count sign.1.1.1;
  tuples = tuples_or_one tuples;
}

-- facts = sign [ "(" tuple { ";" tuple } ")" ], which without brackets have one empty tuple
abbrev pub facts : Produces Fact
facts = made_of fact_of (and_on (given ASign) (perhaps tuples))

-- ---- statements

-- the expressions of a tuple without ranges
abbrev pub plain_args : List Arg → Option (List Expr)
plain_args [] = Some []
plain_args (args.One first ∷ more) = option_map (λ rest. first ∷ rest) (plain_args more)
plain_args (args.Range first last ∷ more) = None

abbrev pub head_with : Fact → Option (List Expr) → Option Head
head_with fact None = None
head_with fact (Some read) = Some (heads.Normal (record { negative = fact.negative; before = fact.before; name = fact.name; after = fact.after; args = read }))

abbrev pub head_at : Fact → List (List Arg) → Option Head
head_at fact [] = None
head_at fact (only ∷ []) = head_with fact (plain_args only)
head_at fact (first ∷ second ∷ more) = None

-- the head that facts are, if they are one atom: one tuple without ranges
abbrev pub head_of : Fact → Option Head
head_of fact = head_at fact fact.tuples

-- What an item of a text is: the part of the statements behind it, or a statement.
pub data Item : Type 0 where
  InPart : Part → Item
  Says : Kind → Item

abbrev pub fact_item : Fact → Unit {0} → Item
fact_item fact end = Says (kinds.Facts fact)

abbrev pub rule_item : Head → List Literal → Item
rule_item head body = Says (kinds.Rule head body)

-- what stands behind facts: a stop, or the tail of a rule, where they are its head
abbrev pub behind_facts : Fact → Option Head → Produces Item
behind_facts fact None = made_of (fact_item fact) (alone marks.Stop)
behind_facts fact (Some head) = or (made_of (fact_item fact) (alone marks.Stop)) (made_of (rule_item head) tail)

-- facts "." | atom tail
abbrev pub IsFactOrRule : ℕ → Grammar Item
IsFactOrRule n = After (means word (IsThing n) facts) (λ fact. means word (IsThing n) (behind_facts fact (head_of fact)))

-- choice = "{" atom "}"
abbrev pub choice : Produces Head
choice = made_of heads.Choice (led marks.OpenBrace (ended (given AnAtom) marks.CloseBrace))

abbrev pub no_body : Unit {0} → List Literal
no_body end = []

abbrev pub choice_item : Head × List Literal → Item
choice_item (head, body) = rule_item head body

-- choice "." | choice tail
abbrev pub choice_rule : Produces Item
choice_rule = made_of choice_item (and choice (or (made_of no_body (alone marks.Stop)) tail))

-- a constraint: the tail of a rule without a head
abbrev pub constraint : Produces Item
constraint = made_of (rule_item heads.None) tail

-- "#program" ("initial" | "dynamic" | "always" | "final") "."
abbrev pub part_item : Produces Item
part_item = made_of InPart (led marks.Program (ended (terminal APart) marks.Stop))

abbrev pub const_of : List ℕ × Expr → Item
const_of (name, value) = Says (kinds.Const name value)

-- "#const" name "=" expr "."
abbrev pub const_item : Produces Item
const_item = made_of const_of (led marks.Const (and (terminal AName) (led marks.Equal (ended (given AnExpr) marks.Stop))))

abbrev pub signature_of : Option (Unit {0}) × (List ℕ × ℕ) → Signature
signature_of (minus, (name, arity)) = record { negative = is_there minus; name = name; arity = arity }

-- signature = [ "-" ] name "/" number
abbrev pub signature : Produces Signature
signature = made_of signature_of (and_from (perhaps (alone marks.Minus)) (and (terminal AName) (led marks.Slash (terminal AnArity))))

abbrev pub show_of : Option Signature → Item
show_of shown = Says (kinds.Show shown)

-- "#show" [ signature ] "."
abbrev pub show_item : Produces Item
show_item = made_of show_of (led marks.Show (ended_from (perhaps signature) marks.Stop))

abbrev pub directive : Produces Item
directive = or part_item (or const_item show_item)

-- what begins with no name
abbrev pub other_item : Produces Item
other_item = or choice_rule (or constraint directive)

-- an item of a text
abbrev pub IsItem : ℕ → Grammar Item
IsItem n = Either (IsFactOrRule n) (means word (IsThing n) other_item)

-- ---- texts

-- an item with the place of its first token and its variables
pub record Stated : Type 0 where
  pub place : Place
  pub vars : List (List ℕ)
  pub item : Item

-- what is known where a statement begins: the names and strings of the program so far, and no variable
abbrev pub afresh : Known → Known
afresh known = record known { vars = [] }

-- An item read from a first word on, with variables of its own.
pub record IsStated (n : ℕ) (from : Point) (stated : Stated) (to : Point) : Type 0 where
  pub word : Word
  pub behind : List Word
  pub first : from.words ≡ word ∷ behind
  pub reads : IsItem n (at (afresh from.known) from.words) stated.item to
  pub place_is : stated.place ≡ word.place
  pub vars_are : stated.vars ≡ to.known.vars

-- text = { item }
abbrev pub IsText : ℕ → Grammar (List Stated)
IsText n = Each (IsStated n)

-- the part of the statements behind an item
abbrev pub part_behind : Part → Item → Part
part_behind named (InPart next) = next
part_behind named (Says kind) = named

-- the statement that an item is, if it is one
abbrev pub said_in : Part → Stated → Item → List Statement
said_in named stated (InPart next) = []
said_in named stated (Says kind) = record { place = stated.place; part = named; vars = stated.vars; kind = kind } ∷ []

-- the statements of items: each is of the part that was named last before it
abbrev pub statements_in : Part → List Stated → List Statement
statements_in named [] = []
statements_in named (stated ∷ more) = said_in named stated stated.item ++ statements_in (part_behind named stated.item) more
