-- The symbols of a program are a table: they grow by one with a word at most, and each stands once.
use Rattle.std.proofs.Common.{◌≡◌, inl, inr, ℕ, zero, suc, ◌+◌, ◌≤◌, Bool, true, false, List, [], ◌∷◌, length, Option, Some, None, refl, sym, ap, subst, arith}
use Rattle.std.specs.Prelude.{IsTrue, pos}
use Rattle.std.specs.List.{list_all}
use Rattle.std.specs.Option.{option_map}
use Rattle.std.proofs.lemmas.List.{length-append, length-map}
use Rattle.std.proofs.lemmas.List.Sums.{sum_by-cons}
use Rattle.tel_term.specs.declared.terms.Term.{Term}
use Rattle.tel_term.specs.declared.terms.Term.TheVariants as terms
use Rattle.tel_term.specs.declared.terms.Value.TheVariants as values
use Rattle.tel_term.specs.declared.exprs.Expr.{Expr}
use Rattle.tel_term.specs.declared.exprs.Expr.TheVariants as exprs
use Rattle.tel_term.specs.Symbols.{is_symbol, is_distinct, with_term, IsTable}
use Rattle.tel_term.proofs.Growth.{length-with_term, stays-distinct, stays-symbols}
use Rattle.tel_rule.specs.declared.parts.Part.{Part}
use Rattle.tel_rule.specs.declared.parts.Part.TheVariants as parts
use Rattle.tel_rule.specs.declared.statements.Statement.{Statement}
use Rattle.tel_rule.specs.declared.statements.Program.{Program}
use Rattle.formula_syntax.specs.Points.{Word, Known, Point, Grammar}
use Rattle.formula_syntax.specs.Senses.{Sense, Name, Variable, Blank, Number, Str, Sign, Other, sense, number_of, string_of}
use Rattle.formula_syntax.specs.Grammar as formulas
use Rattle.formula_syntax.specs.Grammar.{by_itself, plain, is_sign, known_term, known_var, new_var, leaf, leaf_of, product_op_of, sum_op_of, name_of, const_of, prefix_of, pair_op_of, arrow_op_of, Over, meant, it, expr, deep_value, IsValue, IsExpr, signed, atom, IsAtom, flat_formula, formula, deep_formula, IsUnary, IsFormula}
use Rattle.grammar_laws.specs.Points.{at}
use Rattle.grammar_laws.specs.Shapes.{One, Each}
use Rattle.grammar_laws.specs.Productions.{means}
use Rattle.part_syntax.specs.Grammar as grammar
use Rattle.part_syntax.specs.Grammar.{is_tel, part_of, arity_of, is_separator, relation_of, Thing, ASign, AnExpr, AnAtomItem, AnAtom, AFormula, APlain, IsThing, IsAtomItem, IsComparison, Item, InPart, Says, IsItem, Stated, IsStated, IsText, afresh, statements_in, said_in, part_behind}
use Rattle.part_syntax.specs.Programs.{ReadTexts, IsProgram, levels, unknown, total_bytes}
use Rattle.part_syntax.proofs.Lengths.{lexed_few}
use Rattle.part_syntax.proofs.StatementReads.{item-read}
use Rattle.rule_constants.specs.Constants.{links_of, replacement}
use Rattle.rule_constants.specs.Replaced.{statement_replaced}
use Rattle.checked_programs.specs.Laws.{ProgramsHaveTables, ReplacedHaveTables, ProgramsHaveFewStatements, ReplacedHaveFewStatements}
use Rattle.checked_programs.proofs.Passing.{Passes, each-passes, either-passes, passes-it}

-- ---- symbols

-- names and strings, each once
pub record AreSymbols (symbols : List Term) : Type 0 where
  pub distinct : IsTrue (is_distinct symbols)
  pub all : IsTrue (list_all is_symbol symbols)

-- symbols stay symbols, and no more of them come than words go
pub record Grows (from to : Point) : Type 0 where
  pub symbols : AreSymbols from.known.symbols → AreSymbols to.known.symbols
  pub few : length to.known.symbols + length to.words ≤ length from.known.symbols + length from.words

grows-now : (point : Point) → Grows point point
grows-now point = record { symbols = λ are. are; few = omega arith }

grows-then : (a b c : Point) → Grows a b → Grows b c → Grows a c
grows-then a b c first second = record { symbols = λ are. second.symbols (first.symbols are); few = omega (arith, first.few, second.few) }

-- ---- words

-- symbols after one word
record OneMore (old new : List Term) : Type 0 where
  symbols : AreSymbols old → AreSymbols new
  few : length new ≤ length old + 1

same-more : (symbols : List Term) → OneMore symbols symbols
same-more symbols = record { symbols = λ are. are; few = omega arith }

term-more : (symbols : List Term) (term : Term) → OneMore symbols (with_term symbols term)
term-more symbols term = record {
  symbols = λ are. record { distinct = stays-distinct symbols term are.distinct; all = stays-symbols symbols term are.all };
  few = length-with_term symbols term;
}

abbrev Makes : {A : Type 0} → (Known → A × Known) → Type 0
Makes make = (known : Known) → OneMore known.symbols (make known).1.symbols

one-grows : {A : Type 0} (value : Word → Option (Known → A × Known)) → ((word : Word) (make : Known → A × Known) → value word ≡ Some make → Makes make) → Passes Grows (One value)
one-grows value makes from thing to r =
    let more = makes r.word r.make r.gives from.known in
    let grown : OneMore from.known.symbols to.known.symbols = subst (λ (known : Known). OneMore from.known.symbols known.symbols) (sym r.known_is) more in
    let words = ap length r.first in
    record { symbols = grown.symbols; few = omega (arith, grown.few, words) }

some-makes : {A : Type 0} (here make : Known → A × Known) → Makes here → Some here ≡ Some make → Makes make
some-makes {A} here make h e = let same : here ≡ make = cc in subst (λ (f : Known → A × Known). Makes f) same h

itself-makes : {A : Type 0} (said : Option A) (make : Known → A × Known) → by_itself said ≡ Some make → Makes make
itself-makes None make e = absurd cc
itself-makes (Some thing) make e = some-makes (λ known. (thing, known)) make (λ known. same-more known.symbols) e

plain-makes : (is : Bool) (make : Known → Unit {0} × Known) → plain is ≡ Some make → Makes make
plain-makes false make e = absurd cc
plain-makes true make e = some-makes (λ known. (tt, known)) make (λ known. same-more known.symbols) e

itself-grows : {A : Type 0} (said : Word → Option A) → Passes Grows (One (λ word. by_itself (said word)))
itself-grows said = one-grows (λ word. by_itself (said word)) (λ word make e. itself-makes (said word) make e)

plain-grows : (is : Word → Bool) → Passes Grows (One (λ word. plain (is word)))
plain-grows is = one-grows (λ word. plain (is word)) (λ word make e. plain-makes (is word) make e)

number-makes : (read : Option ℕ) (make : Known → Expr × Known) → option_map (λ value known. (exprs.Value (values.Num (pos value)), known)) read ≡ Some make → Makes make
number-makes None make e = absurd cc
number-makes (Some n) make e = some-makes (λ known. (exprs.Value (values.Num (pos n)), known)) make (λ known. same-more known.symbols) e

string-makes : (read : Option (List ℕ)) (make : Known → Expr × Known) → option_map (λ bytes. known_term (terms.Str bytes)) read ≡ Some make → Makes make
string-makes None make e = absurd cc
string-makes (Some bytes) make e = some-makes (known_term (terms.Str bytes)) make (λ known. term-more known.symbols (terms.Str bytes)) e

leaf-makes : (said : Sense) (make : Known → Expr × Known) → leaf_of said ≡ Some make → Makes make
leaf-makes (Number text) make e = number-makes (number_of text) make e
leaf-makes (Name text) make e = some-makes (known_term (terms.Name text)) make (λ known. term-more known.symbols (terms.Name text)) e
leaf-makes (Str text) make e = string-makes (string_of text) make e
leaf-makes (Variable name) make e = some-makes (known_var name) make (λ known. same-more known.symbols) e
leaf-makes Blank make e = some-makes new_var make (λ known. same-more known.symbols) e
leaf-makes (Sign mark) make e = absurd cc
leaf-makes Other make e = absurd cc

leaf-grows : Passes Grows (One leaf)
leaf-grows = one-grows leaf (λ word make e. leaf-makes (sense word) make e)

-- ---- expressions, atoms and formulas

word-grows : (t : formulas.Terminal) → Passes Grows (One (formulas.word t))
word-grows formulas.ALeaf = leaf-grows
word-grows (formulas.AMark mark) = plain-grows (λ word. is_sign mark (sense word))
word-grows formulas.AProductOp = itself-grows (λ word. product_op_of (sense word))
word-grows formulas.ASumOp = itself-grows (λ word. sum_op_of (sense word))
word-grows formulas.AName = itself-grows (λ word. name_of (sense word))
word-grows formulas.AConst = itself-grows (λ word. const_of (sense word))
word-grows formulas.APrefix = itself-grows (λ word. prefix_of (sense word))
word-grows formulas.APairOp = itself-grows (λ word. pair_op_of (sense word))
word-grows formulas.AnArrow = itself-grows (λ word. arrow_op_of (sense word))

over-grows : {R A : Type 0} (G : Grammar R) → Passes Grows G → (p : Over R A) → Passes Grows (meant G p)
over-grows G g p = passes-it Grows grows-now grows-then formulas.word (λ i. G) word-grows (λ i. g) p

value-grows : (n : ℕ) → Passes Grows (IsValue n)
unfolding IsValue
value-grows zero = leaf-grows
value-grows (suc n) = either-passes Grows grows-now grows-then (One leaf) (meant (IsValue n) deep_value) leaf-grows (over-grows (IsValue n) (value-grows n) deep_value)

expr-grows : (n : ℕ) → Passes Grows (IsExpr n)
expr-grows n = over-grows (IsValue n) (value-grows n) (expr it)

atom-grows : (n : ℕ) → Passes Grows (IsAtom n)
atom-grows n = over-grows (IsExpr n) (expr-grows n) (atom it)

unary-grows : (n : ℕ) → Passes Grows (IsUnary n)
unfolding IsUnary
unary-grows zero = over-grows (IsExpr zero) (expr-grows zero) flat_formula
unary-grows (suc n) =
    either-passes Grows grows-now grows-then (meant (IsExpr (suc n)) flat_formula) (meant (IsUnary n) deep_formula) (over-grows (IsExpr (suc n)) (expr-grows (suc n)) flat_formula)
    (over-grows (IsUnary n) (unary-grows n) deep_formula)

formula-grows : (n : ℕ) → Passes Grows (IsFormula n)
formula-grows n = over-grows (IsUnary n) (unary-grows n) (formula it)

-- ---- statements

statement_word-grows : (t : grammar.Terminal) → Passes Grows (One (grammar.word t))
statement_word-grows (grammar.AMark mark) = plain-grows (λ word. is_sign mark (sense word))
statement_word-grows grammar.ATel = plain-grows (λ word. is_tel (sense word))
statement_word-grows grammar.AName = itself-grows (λ word. name_of (sense word))
statement_word-grows grammar.APart = itself-grows (λ word. part_of (sense word))
statement_word-grows grammar.AnArity = itself-grows (λ word. arity_of (sense word))
statement_word-grows grammar.ASeparator = plain-grows (λ word. is_separator (sense word))
statement_word-grows grammar.ARelation = itself-grows (λ word. relation_of (sense word))

atom_item-grows : (n : ℕ) → Passes Grows (IsAtomItem n)
atom_item-grows n from thing to r = atom-grows (suc n) from r.of to r.reads

comparison-grows : (n : ℕ) → Passes Grows (IsComparison n)
comparison-grows n = passes-it Grows grows-now grows-then grammar.word (λ i. IsExpr (suc n)) statement_word-grows (λ i. expr-grows (suc n)) grammar.comparison

thing-grows : (n : ℕ) (thing : Thing) → Passes Grows (IsThing n thing)
thing-grows n ASign = over-grows (One leaf) leaf-grows signed
thing-grows n AnExpr = expr-grows (suc n)
thing-grows n AnAtomItem = atom_item-grows n
thing-grows n AnAtom = atom-grows (suc n)
thing-grows n AFormula = formula-grows (suc n)
thing-grows n APlain = either-passes Grows grows-now grows-then (IsAtomItem n) (IsComparison n) (atom_item-grows n) (comparison-grows n)

production-grows : {A : Type 0} (n : ℕ) (p : grammar.Produces A) → Passes Grows (means grammar.word (IsThing n) p)
production-grows n p = passes-it Grows grows-now grows-then grammar.word (IsThing n) statement_word-grows (thing-grows n) p

item-grows : (n : ℕ) → Passes Grows (IsItem n)
item-grows n from item to (inl r) =
    grows-then from r.middle to (production-grows n grammar.facts from r.of r.middle r.first)
    (production-grows n (grammar.behind_facts r.of (grammar.head_of r.of)) r.middle item to r.second)
item-grows n from item to (inr r) = production-grows n grammar.other_item from item to r

-- variables of its own change no symbols
stated-grows : (n : ℕ) → Passes Grows (IsStated n)
stated-grows n from stated to r =
    let grows = item-grows n (at (afresh from.known) from.words) stated.item to r.reads in record { symbols = grows.symbols; few = grows.few }

-- ---- texts

text-grows : (n : ℕ) → Passes Grows (IsText n)
text-grows n = each-passes Grows grows-now grows-then (IsStated n) (stated-grows n)

-- an item takes a word at least
text-few : (n : ℕ) (from : Point) (list : List Stated) (to : Point) → Each (IsStated n) from list to → length list + length to.words ≤ length from.words
text-few n from [] to r = let same = ap (λ (point : Point). length point.words) r in omega (arith, same)
text-few n from (stated ∷ more) to r =
    let less = (item-read n).begun.less (at (afresh from.known) from.words) stated.item r.0 r.1.reads in
    let rest = text-few n r.0 more to r.2 in
    omega (arith, less, rest)

said-few : (named : Part) (stated : Stated) (item : Item) → length (said_in named stated item) ≤ 1
said-few named stated (InPart next) = omega arith
said-few named stated (Says kind) = omega arith

statements-few : (named : Part) (list : List Stated) → length (statements_in named list) ≤ length list
statements-few named [] = omega arith
statements-few named (stated ∷ more) =
    let here = said-few named stated stated.item in
    let rest = statements-few (part_behind named stated.item) more in
    let long = length-append (said_in named stated stated.item) (statements_in (part_behind named stated.item) more) in
    omega (arith, here, rest, long)

-- what texts add to what is known, and how many statements they are
record TextsGrow (texts : List (List ℕ)) (known : Known) (statements : List Statement) (later : Known) : Type 0 where
  symbols : AreSymbols known.symbols → AreSymbols later.symbols
  few : length later.symbols ≤ length known.symbols + total_bytes texts
  short : length statements ≤ total_bytes texts

texts-grow : (n file : ℕ) (texts : List (List ℕ)) (known : Known) (statements : List Statement) (later : Known) → ReadTexts n file texts known statements later → TextsGrow texts known statements later
texts-grow n file [] known statements later r =
    let same = ap (λ (k : Known). length k.symbols) r.1 in
    let none = ap length r.0 in
    record { symbols = λ are. subst (λ (k : Known). AreSymbols k.symbols) r.1 are; few = omega (arith, same); short = omega (arith, none) }
texts-grow n file (text ∷ texts) known statements later (stated, middle, more, reads, whole, rest) =
    let here = text-grows n (at known reads.words) stated (at middle []) reads.items in
    let items = text-few n (at known reads.words) stated (at middle []) reads.items in
    let words = lexed_few file text reads.words None reads.end reads.lexed in
    let behind = texts-grow n (file + 1) texts middle more later rest in
    let bytes = sum_by-cons (λ (one : List ℕ). length one) text texts in
    let few = statements-few parts.Initial stated in
    let long = length-append (statements_in parts.Initial stated) more in
    let all = ap length whole in
    record {
      symbols = λ are. behind.symbols (here.symbols are);
      few = omega (arith, here.few, words, behind.few, bytes);
      short = omega (arith, items, words, behind.short, bytes, few, long, all);
    }

program-grows : (texts : List (List ℕ)) (program : Program) → IsProgram texts program → (later : Known) × TextsGrow texts unknown program.statements later × (program.symbols ≡ later.symbols)
program-grows texts program is = (is.later, texts-grow levels 1 texts unknown program.statements is.later is.reads, is.symbols_are)

pub programs_tables : ProgramsHaveTables
programs_tables texts program is small =
    let grows = program-grows texts program is in
    let are = grows.1.symbols (record { distinct = refl; all = refl }) in
    let few = grows.1.few in
    subst IsTable (sym grows.2) (record { distinct = are.distinct; symbols = are.all; bounded = omega (arith, few, small) })

pub programs_short : ProgramsHaveFewStatements
programs_short texts program is small = let short = (program-grows texts program is).1.short in omega (arith, short, small)

-- ---- replaced

pub replaced_tables : ReplacedHaveTables
replaced_tables program replaced is table = subst IsTable (sym is.symbols) table

pub replaced_short : ReplacedHaveFewStatements
replaced_short program replaced is few =
    let same = ap length is.statements in
    let long = length-map program.statements (statement_replaced (replacement (links_of program.statements program.symbols) is.known)) in
    omega (arith, same, long, few)
