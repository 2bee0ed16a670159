-- No literal of a program stands behind more than two `not`.
use Rattle.std.proofs.Common.{◌≡◌, ◌⊎◌, inl, inr, ℕ, ◌+◌, Bool, true, ◌&&◌, List, [], ◌∷◌, ◌++◌, map, Option, Some, None, refl, sym, ap, ap₂, subst, ◌∙◌}
use Rattle.std.specs.Prelude.{nat_le}
use Rattle.std.specs.List.{list_all}
use Rattle.std.proofs.lemmas.Bool.{and_parts, and_from}
use Rattle.tel_base.specs.Members.{In}
use Rattle.tel_rule.specs.declared.parts.Part.{Part}
use Rattle.tel_rule.specs.declared.parts.Part.TheVariants as parts
use Rattle.tel_rule.specs.declared.statements.Fact.{Fact}
use Rattle.tel_rule.specs.declared.statements.Head.{Head}
use Rattle.tel_rule.specs.declared.statements.LitItem.{LitItem}
use Rattle.tel_rule.specs.declared.statements.Literal.{Literal}
use Rattle.tel_rule.specs.declared.statements.Kind.{Kind}
use Rattle.tel_rule.specs.declared.statements.Kind.TheVariants as kinds
use Rattle.tel_rule.specs.declared.statements.Statement.{Statement}
use Rattle.tel_term.specs.declared.terms.Value.{Value}
use Rattle.formula_syntax.specs.Points.{Known, Point}
use Rattle.formula_syntax.specs.Grammar.{behind_all}
use Rattle.grammar_laws.specs.Points.{at}
use Rattle.grammar_laws.specs.Shapes.{Each}
use Rattle.grammar_laws.specs.Productions.{Production, means}
use Rattle.part_syntax.specs.Grammar as grammar
use Rattle.part_syntax.specs.Grammar.{Terminal, WordOf, word, Thing, IsThing, Item, InPart, Says, Stated, IsStated, IsItem, statements_in, said_in, part_behind, afresh}
use Rattle.part_syntax.specs.Programs.{ReadTexts, levels, unknown}
use Rattle.instance_build.specs.Laws.{have_few_nots}
use Rattle.rule_constants.specs.Constants.{links_of, replacement}
use Rattle.rule_constants.specs.Replaced.{literal_replaced, kind_replaced, statement_replaced}
use Rattle.program_theory.specs.Templates.{has_few_nots}
use Rattle.checked_programs.specs.Laws.{ProgramsHaveFewNots, ReplacedHaveFewNots}
use Rattle.checked_programs.proofs.Holding.{OfMade, OfEach, OfMaybe, Holds, Gives, gives-it}

-- ---- productions, of whose words and parts nothing is asked

abbrev Later : Known → Known → Type 0
Later known later = Unit {0}

abbrev OfWord : (t : Terminal) → WordOf t → Known → Type 0
OfWord t thing known = Unit {0}

abbrev OfThing : (thing : Thing) → grammar.Of thing → Known → Type 0
OfThing t thing known = Unit {0}

abbrev Of : {b : Bool} {A : Type 0} → Production Terminal WordOf Thing grammar.Of b A → A → Known → Type 0
Of p = Holds OfWord OfThing p

production-gives : {A : Type 0} (n : ℕ) (p : grammar.Produces A) → Gives Later (means word (IsThing n) p) (Of p)
production-gives n p =
    gives-it Later (λ known. tt) (λ a b c l m. tt) word (IsThing n) OfWord OfThing (λ t thing known later more h. tt) (λ t thing known later more h. tt)
    (λ t. record { later = λ from thing to r. tt; holds = λ from thing to r. tt }) (λ t. record { later = λ from thing to r. tt; holds = λ from thing to r. tt }) p

-- ---- bodies

negated-few : (read : Unit {0} × (Option (Unit {0}) × LitItem)) → nat_le (grammar.negated_of read).nots 2 ≡ true
negated-few (first, (None, item)) = refl
negated-few (first, (Some second, item)) = refl

literal-few : (literal : Literal) (known : Known) → Of grammar.literal literal known → nat_le literal.nots 2 ≡ true
literal-few literal known h = elim h [
  | inl m ↦ subst (λ (x : Literal). nat_le x.nots 2 ≡ true) (sym m.is) (negated-few m.of)
  | inr m ↦ subst (λ (x : Literal). nat_le x.nots 2 ≡ true) (sym m.is) refl
]

more-few : {A : Type 0} (pairs : List (A × Literal)) (known : Known) → OfEach (λ (both : A × Literal) (k : Known). Unit {0} × Of grammar.literal both.1 k) pairs known → have_few_nots (behind_all pairs) ≡ true
more-few [] known h = refl
more-few (pair ∷ pairs) known h = and_from (nat_le pair.1.nots 2) (have_few_nots (behind_all pairs)) (literal-few pair.1 known h.0.1) (more-few pairs known h.1)

body-few : (body : List Literal) (known : Known) → Of grammar.body body known → have_few_nots body ≡ true
body-few body known h =
    subst (λ (x : List Literal). have_few_nots x ≡ true) (sym h.is)
    (and_from (nat_le h.of.0.nots 2) (have_few_nots (behind_all h.of.1)) (literal-few h.of.0 known h.holds.0) (more-few h.of.1 known h.holds.1))

tail-made : (read : Unit {0} × (Option (List Literal) × Unit {0})) (known : Known) → OfMaybe (Of grammar.body) read.1.0 known → have_few_nots (grammar.body_of read) ≡ true
tail-made (first, (Some body, end)) known h = body-few body known h
tail-made (first, (None, end)) known h = refl

tail-few : (body : List Literal) (known : Known) → Of grammar.tail body known → have_few_nots body ≡ true
tail-few body known h = subst (λ (x : List Literal). have_few_nots x ≡ true) (sym h.is) (tail-made h.of known h.holds.1.0)

-- ---- items

abbrev is_few : Item → Bool
is_few (InPart named) = true
is_few (Says kind) = has_few_nots kind

behind-few : (fact : Fact) (head : Option Head) (item : Item) (known : Known) → Of (grammar.behind_facts fact head) item known → is_few item ≡ true
behind-few fact None item known m = subst (λ (x : Item). is_few x ≡ true) (sym m.is) refl
behind-few fact (Some head) item known r = elim r [
  | inl m ↦ subst (λ (x : Item). is_few x ≡ true) (sym m.is) refl
  | inr m ↦ subst (λ (x : Item). is_few x ≡ true) (sym m.is) (tail-few m.of known m.holds)
]

choice-made : (read : Head × List Literal) → have_few_nots read.1 ≡ true → is_few (grammar.choice_item read) ≡ true
choice-made (head, body) h = h

choice-body : (body : List Literal) (known : Known) → OfMade grammar.no_body (λ (thing : Unit {0}) (k : Known). Unit {0}) body known ⊎ Of grammar.tail body known → have_few_nots body ≡ true
choice-body body known h = elim h [
  | inl m ↦ subst (λ (x : List Literal). have_few_nots x ≡ true) (sym m.is) refl
  | inr t ↦ tail-few body known t
]

const-few : (read : List ℕ × _) → is_few (grammar.const_of read) ≡ true
const-few (name, value) = refl

directive-few : (item : Item) (known : Known) → Of grammar.directive item known → is_few item ≡ true
directive-few item known h = elim h [
  | inl m ↦ subst (λ (x : Item). is_few x ≡ true) (sym m.is) refl
  | inr r ↦ elim r [
    | inl m ↦ subst (λ (x : Item). is_few x ≡ true) (sym m.is) (const-few m.of)
    | inr m ↦ subst (λ (x : Item). is_few x ≡ true) (sym m.is) refl
  ]
]

other-few : (item : Item) (known : Known) → Of grammar.other_item item known → is_few item ≡ true
other-few item known h = elim h [
  | inl m ↦ subst (λ (x : Item). is_few x ≡ true) (sym m.is) (choice-made m.of (choice-body m.of.1 known m.holds.1))
  | inr r ↦ elim r [
    | inl m ↦ subst (λ (x : Item). is_few x ≡ true) (sym m.is) (tail-few m.of known m.holds)
    | inr d ↦ directive-few item known d
  ]
]

item-few : (n : ℕ) (from : Point) (item : Item) (to : Point) → IsItem n from item to → is_few item ≡ true
item-few n from item to r = elim r [
  | inl f ↦ behind-few f.of (grammar.head_of f.of) item to.known ((production-gives n (grammar.behind_facts f.of (grammar.head_of f.of))).holds f.middle item to f.second)
  | inr o ↦ other-few item to.known ((production-gives n grammar.other_item).holds from item to o)
]

-- ---- texts

abbrev AllFew : List Stated → Type 0
AllFew list = (stated : Stated) → In stated list → is_few stated.item ≡ true

all-few : (n : ℕ) (from : Point) (list : List Stated) (to : Point) → Each (IsStated n) from list to → AllFew list
all-few n from [] to r stated there = absurd there
all-few n from (first ∷ more) to r stated there = elim there [
  | inl same ↦ subst (λ (x : Stated). is_few x.item ≡ true) same (item-few n (at (afresh from.known) from.words) first.item r.0 r.1.reads)
  | inr later ↦ all-few n r.0 more to r.2 stated later
]

abbrev few_all : List Statement → Bool
few_all statements = list_all (λ (statement : Statement). has_few_nots statement.kind) statements

append-few : (xs ys : List Statement) → few_all xs ≡ true → few_all ys ≡ true → few_all (xs ++ ys) ≡ true
append-few [] ys h k = k
append-few (x ∷ xs) ys h k =
    let parts = and_parts (has_few_nots x.kind) (few_all xs) h in
    and_from (has_few_nots x.kind) (few_all (xs ++ ys)) parts.0 (append-few xs ys parts.1 k)

said-few : (named : Part) (stated : Stated) (item : Item) → is_few item ≡ true → few_all (said_in named stated item) ≡ true
said-few named stated (InPart next) h = refl
said-few named stated (Says kind) h = and_from (has_few_nots kind) true h refl

statements-few : (named : Part) (list : List Stated) → AllFew list → few_all (statements_in named list) ≡ true
statements-few named [] h = refl
statements-few named (stated ∷ more) h =
    append-few (said_in named stated stated.item) (statements_in (part_behind named stated.item) more) (said-few named stated stated.item (h stated (inl refl)))
    (statements-few (part_behind named stated.item) more (λ other there. h other (inr there)))

texts-few : (n file : ℕ) (texts : List (List ℕ)) (known : Known) (statements : List Statement) (later : Known) → ReadTexts n file texts known statements later → few_all statements ≡ true
texts-few n file [] known statements later r = subst (λ (list : List Statement). few_all list ≡ true) (sym r.0) refl
texts-few n file (text ∷ texts) known statements later (stated, middle, more, reads, whole, rest) =
    subst (λ (list : List Statement). few_all list ≡ true) (sym whole)
    (append-few (statements_in parts.Initial stated) more (statements-few parts.Initial stated (all-few n (at known reads.words) stated (at middle []) reads.items)) (texts-few n (file + 1) texts middle more later rest))

pub programs_few : ProgramsHaveFewNots
programs_few texts program is = texts-few levels 1 texts unknown program.statements is.later is.reads

-- ---- replaced

body-same : (new : Value → Value) (body : List Literal) → have_few_nots (map (literal_replaced new) body) ≡ have_few_nots body
body-same new [] = refl
body-same new (literal ∷ body) = ap (λ (b : Bool). nat_le literal.nots 2 && b) (body-same new body)

kind-same : (new : Value → Value) (kind : Kind) → has_few_nots (kind_replaced new kind) ≡ has_few_nots kind
kind-same new (kinds.Rule head body) = body-same new body
kind-same new (kinds.Facts fact) = refl
kind-same new (kinds.Const name value) = refl
kind-same new (kinds.Show shown) = refl

all-same : (new : Value → Value) (statements : List Statement) → few_all (map (statement_replaced new) statements) ≡ few_all statements
all-same new [] = refl
all-same new (statement ∷ more) = ap₂ (λ (a b : Bool). a && b) (kind-same new statement.kind) (all-same new more)

pub replaced_few : ReplacedHaveFewNots
replaced_few program replaced is few =
    ap few_all is.statements
    ∙ all-same (replacement (links_of program.statements program.symbols) is.known) program.statements ∙ few
