-- Statements as they are read speak of what is known then.
use Rattle.std.proofs.Common.{◌≡◌, ◌⊎◌, inl, inr, ℕ, suc, Bool, List, [], ◌∷◌, ◌++◌, Option, Some, None, refl, sym, subst}
use Rattle.std.specs.List.{flat_map}
use Rattle.std.specs.Option.{option_map}
use Rattle.tel_base.specs.Members.{In}
use Rattle.tel_base.proofs.Members.{In-append_left}
use Rattle.tel_term.specs.declared.exprs.Expr.{Expr}
use Rattle.tel_rule.specs.declared.statements.Arg.{Arg}
use Rattle.tel_rule.specs.declared.statements.Arg.TheVariants as args
use Rattle.tel_rule.specs.declared.statements.Fact.{Fact}
use Rattle.tel_rule.specs.declared.statements.Head.{Head}
use Rattle.tel_rule.specs.declared.statements.Head.TheVariants as heads
use Rattle.tel_rule.specs.declared.statements.LitItem.{LitItem}
use Rattle.tel_rule.specs.declared.statements.Literal.{Literal}
use Rattle.formula_syntax.specs.Points.{Known}
use Rattle.formula_syntax.specs.Senses.{sense}
use Rattle.formula_syntax.specs.Grammar.{is_sign, name_of, SignRead, IsSign, IsExpr, signed, behind_all}
use Rattle.grammar_laws.specs.Shapes.{One}
use Rattle.grammar_laws.specs.Productions.{Production, means}
use Rattle.part_syntax.specs.Grammar as grammar
use Rattle.part_syntax.specs.Grammar.{Terminal, AMark, ATel, AName, APart, AnArity, ASeparator, ARelation, WordOf, word, is_tel, part_of, arity_of, is_separator, relation_of, Thing, ASign, AnExpr, AnAtomItem, AnAtom, AFormula, APlain, IsThing, Item, InPart, Says, IsComparison, IsAtomItem, IsItem, IsFactOrRule}
use Rattle.live_instances.specs.Instances.{item_exprs, head_exprs}
use Rattle.rule_plans.specs.Within.{arg_exprs, tuple_exprs, kind_exprs}
use Rattle.checked_programs.proofs.Holding.{OfMade, OfEach, OfMaybe, Holds, Gives, Stays, either-gives, gives-it}
use Rattle.checked_programs.proofs.Nearness.{Near, Later, later-now, later-then, near-stays, leaf-gives}
use Rattle.checked_programs.proofs.Expressions.{Of as OfOver, over-gives, so-gives, expr-gives, atom-gives, EachNear, each-near-stays, no-near, more-near, both-near, AtomNear, plain-gives, itself-gives}
use Rattle.checked_programs.proofs.FormulasNear.{FormulaNear, formula-stays, formula-gives}

-- ---- what speaks of what is known

abbrev pub ItemNear : LitItem → Known → Type 0
ItemNear item known = EachNear (item_exprs item) known

abbrev pub BodyNear : List Literal → Known → Type 0
BodyNear body known = EachNear (flat_map (λ (literal : Literal). item_exprs literal.item) body) known

abbrev pub FactNear : Fact → Known → Type 0
FactNear fact known = EachNear (flat_map tuple_exprs fact.tuples) known

abbrev pub kind_of : Item → List Expr
kind_of (InPart named) = []
kind_of (Says kind) = kind_exprs kind

-- the statement that an item is
abbrev pub StatementNear : Item → Known → Type 0
StatementNear item known = EachNear (kind_of item) known

nothing-stays : {A : Type 0} → Stays Later (λ (thing : A) (known : Known). Unit {0})
nothing-stays thing known later more h = tt

-- ---- words

abbrev OfWord : (t : Terminal) → WordOf t → Known → Type 0
OfWord t thing known = Unit {0}

word-gives : (t : Terminal) → Gives Later (One (word t)) (OfWord t)
word-gives (AMark mark) = plain-gives (λ w. is_sign mark (sense w))
word-gives ATel = plain-gives (λ w. is_tel (sense w))
word-gives AName = itself-gives (λ w. name_of (sense w))
word-gives APart = itself-gives (λ w. part_of (sense w))
word-gives AnArity = itself-gives (λ w. arity_of (sense w))
word-gives ASeparator = plain-gives (λ w. is_separator (sense w))
word-gives ARelation = itself-gives (λ w. relation_of (sense w))

-- ---- given things

abbrev OfThing : (thing : Thing) → grammar.Of thing → Known → Type 0
OfThing ASign = λ thing known. Unit {0}
OfThing AnExpr = Near
OfThing AnAtomItem = ItemNear
OfThing AnAtom = AtomNear
OfThing AFormula = FormulaNear
OfThing APlain = ItemNear

thing-stays : (thing : Thing) → Stays Later (OfThing thing)
thing-stays ASign = nothing-stays
thing-stays AnExpr = near-stays
thing-stays AnAtomItem = λ item known later more h. each-near-stays (item_exprs item) known later more h
thing-stays AnAtom = λ a known later more h. each-near-stays a.args known later more h
thing-stays AFormula = formula-stays
thing-stays APlain = λ item known later more h. each-near-stays (item_exprs item) known later more h

sign-gives : Gives Later IsSign (λ thing known. Unit {0})
sign-gives = so-gives IsSign (OfOver Near signed) (λ thing known. Unit {0}) (λ thing known h. tt) (over-gives (One _) Near near-stays leaf-gives signed)

atom-item-gives : (n : ℕ) → Gives Later (IsAtomItem n) ItemNear
atom-item-gives n = record {
  later = λ from thing to r. (atom-gives (suc n)).later from r.of to r.reads;
  holds = λ from thing to r. subst (λ (x : LitItem). ItemNear x to.known) (sym r.made) ((atom-gives (suc n)).holds from r.of to r.reads);
}

compare-near : (item : LitItem) (known : Known) → Holds OfWord (λ (i : Unit {0}). Near) grammar.comparison item known → ItemNear item known
compare-near item known h =
    subst (λ (x : LitItem). ItemNear x known) (sym h.is)
    (more-near h.of.0 (h.of.1.1 ∷ []) known h.holds.0 (more-near h.of.1.1 [] known h.holds.1.1 (no-near known)))

comparison-gives : (n : ℕ) → Gives Later (IsComparison n) ItemNear
comparison-gives n =
    so-gives (IsComparison n) (Holds OfWord (λ (i : Unit {0}). Near) grammar.comparison) ItemNear compare-near
    (gives-it Later later-now later-then word (λ (i : Unit {0}). IsExpr (suc n)) OfWord (λ (i : Unit {0}). Near) (λ t. nothing-stays) (λ i. near-stays) word-gives (λ i. expr-gives (suc n)) grammar.comparison)

thing-gives : (n : ℕ) (thing : Thing) → Gives Later (IsThing n thing) (OfThing thing)
thing-gives n ASign = sign-gives
thing-gives n AnExpr = expr-gives (suc n)
thing-gives n AnAtomItem = atom-item-gives n
thing-gives n AnAtom = atom-gives (suc n)
thing-gives n AFormula = formula-gives (suc n)
thing-gives n APlain = either-gives Later later-now later-then (IsAtomItem n) (IsComparison n) ItemNear (atom-item-gives n) (comparison-gives n)

-- ---- productions

abbrev Of : {b : Bool} {A : Type 0} → Production Terminal WordOf Thing grammar.Of b A → A → Known → Type 0
Of p = Holds OfWord OfThing p

production-gives : {A : Type 0} (n : ℕ) (p : grammar.Produces A) → Gives Later (means word (IsThing n) p) (Of p)
production-gives n p = gives-it Later later-now later-then word (IsThing n) OfWord OfThing (λ t. nothing-stays) thing-stays word-gives (thing-gives n) p

tel-near : (item : LitItem) (known : Known) → Of grammar.tel item known → ItemNear item known
tel-near item known h =
    subst (λ (x : LitItem). ItemNear x known) (sym h.is) (subst (λ (f : _). FormulaNear f known) (sym h.holds.is) h.holds.holds.1)

-- a literal, by its item
abbrev LiteralNear : Literal → Known → Type 0
LiteralNear literal known = ItemNear literal.item known

negatable-near : (item : LitItem) (known : Known) → Of grammar.negatable item known → ItemNear item known
negatable-near item known h = elim h [ inl t ↦ tel-near item known t | inr a ↦ a ]

bare-near : (item : LitItem) (known : Known) → Of grammar.bare item known → ItemNear item known
bare-near item known h = elim h [ inl t ↦ tel-near item known t | inr a ↦ a ]

negated-made : (read : Unit {0} × (Option (Unit {0}) × LitItem)) (known : Known) → ItemNear read.1.1 known → LiteralNear (grammar.negated_of read) known
negated-made (first, (second, item)) known h = h

literal-near : (literal : Literal) (known : Known) → Of grammar.literal literal known → LiteralNear literal known
literal-near literal known h = elim h [
  | inl m ↦ subst (λ (x : Literal). LiteralNear x known) (sym m.is) (negated-made m.of known (negatable-near m.of.1.1 known m.holds.1.1))
  | inr m ↦ subst (λ (x : Literal). LiteralNear x known) (sym m.is) (bare-near m.of known m.holds)
]

more-literals : {A : Type 0} (pairs : List (A × Literal)) (known : Known) → OfEach (λ (both : A × Literal) (k : Known). Unit {0} × Of grammar.literal both.1 k) pairs known → BodyNear (behind_all pairs) known
more-literals [] known h = no-near known
more-literals (pair ∷ pairs) known h =
    both-near (item_exprs pair.1.item) (flat_map (λ (literal : Literal). item_exprs literal.item) (behind_all pairs)) known (literal-near pair.1 known h.0.1) (more-literals pairs known h.1)

body-near : (body : List Literal) (known : Known) → Of grammar.body body known → BodyNear body known
body-near body known h =
    subst (λ (x : List Literal). BodyNear x known) (sym h.is)
    (both-near (item_exprs h.of.0.item) (flat_map (λ (literal : Literal). item_exprs literal.item) (behind_all h.of.1)) known (literal-near h.of.0 known h.holds.0) (more-literals h.of.1 known h.holds.1))

tail-made : (read : Unit {0} × (Option (List Literal) × Unit {0})) (known : Known) → OfMaybe (Of grammar.body) read.1.0 known → BodyNear (grammar.body_of read) known
tail-made (first, (Some body, end)) known h = body-near body known h
tail-made (first, (None, end)) known h = no-near known

tail-near : (body : List Literal) (known : Known) → Of grammar.tail body known → BodyNear body known
tail-near body known h = subst (λ (x : List Literal). BodyNear x known) (sym h.is) (tail-made h.of known h.holds.1.0)

-- ---- facts

arg-made : (read : Expr × Option Expr) (known : Known) → Near read.0 known → OfMaybe Near read.1 known → EachNear (arg_exprs (grammar.arg_of read)) known
arg-made (first, None) known h k = more-near first [] known h (no-near known)
arg-made (first, Some last) known h k = more-near first (last ∷ []) known h (more-near last [] known k (no-near known))

arg-near : (arg : Arg) (known : Known) → Of grammar.arg arg known → EachNear (arg_exprs arg) known
arg-near arg known h = subst (λ (x : Arg). EachNear (arg_exprs x) known) (sym h.is) (arg-made h.of known h.holds.0 h.holds.1)

more-args : {A : Type 0} (pairs : List (A × Arg)) (known : Known) → OfEach (λ (both : A × Arg) (k : Known). Unit {0} × Of grammar.arg both.1 k) pairs known → EachNear (tuple_exprs (behind_all pairs)) known
more-args [] known h = no-near known
more-args (pair ∷ pairs) known h = both-near (arg_exprs pair.1) (tuple_exprs (behind_all pairs)) known (arg-near pair.1 known h.0.1) (more-args pairs known h.1)

tuple-near : (tuple : List Arg) (known : Known) → Of grammar.tuple tuple known → EachNear (tuple_exprs tuple) known
tuple-near tuple known h =
    subst (λ (x : List Arg). EachNear (tuple_exprs x) known) (sym h.is) (both-near (arg_exprs h.of.0) (tuple_exprs (behind_all h.of.1)) known (arg-near h.of.0 known h.holds.0) (more-args h.of.1 known h.holds.1))

abbrev TuplesNear : List (List Arg) → Known → Type 0
TuplesNear tuples known = EachNear (flat_map tuple_exprs tuples) known

more-tuples : {A : Type 0} (pairs : List (A × List Arg)) (known : Known) → OfEach (λ (both : A × List Arg) (k : Known). Unit {0} × Of grammar.tuple both.1 k) pairs known → TuplesNear (behind_all pairs) known
more-tuples [] known h = no-near known
more-tuples (pair ∷ pairs) known h = both-near (tuple_exprs pair.1) (flat_map tuple_exprs (behind_all pairs)) known (tuple-near pair.1 known h.0.1) (more-tuples pairs known h.1)

tuples-made : (read : Unit {0} × (List Arg × (List (Unit {0} × List Arg) × Unit {0}))) (known : Known) → EachNear (tuple_exprs read.1.0) known → TuplesNear (behind_all read.1.1.0) known → TuplesNear (grammar.tuples_of read) known
tuples-made (first_sign, (first, (more, last_sign))) known h k = both-near (tuple_exprs first) (flat_map tuple_exprs (behind_all more)) known h k

tuples-near : (tuples : List (List Arg)) (known : Known) → Of grammar.tuples tuples known → TuplesNear tuples known
tuples-near tuples known h =
    subst (λ (x : List (List Arg)). TuplesNear x known) (sym h.is) (tuples-made h.of known (tuple-near h.of.1.0 known h.holds.1.0) (more-tuples h.of.1.1.0 known h.holds.1.1.0))

tuples-or-one : (read : Option (List (List Arg))) (known : Known) → OfMaybe (Of grammar.tuples) read known → TuplesNear (grammar.tuples_or_one read) known
tuples-or-one None known h = no-near known
tuples-or-one (Some tuples) known h = tuples-near tuples known h

fact-near : (fact : Fact) (known : Known) → Of grammar.facts fact known → FactNear fact known
fact-near fact known h = subst (λ (x : Fact). FactNear x known) (sym h.is) (fact-made h.of known (tuples-or-one h.of.1 known h.holds.1))
  where
    fact-made : (read : SignRead × Option (List (List Arg))) (known : Known) → TuplesNear (grammar.tuples_or_one read.1) known → FactNear (grammar.fact_of read) known
    fact-made (sign, tuples) known h = h

-- ---- heads that are facts

plain-step : (first : Expr) (rest : Option (List Expr)) (known : Known) → Near first known → ((read : List Expr) → rest ≡ Some read → EachNear read known) → (read : List Expr) → option_map (λ (rest : List Expr). first ∷ rest) rest ≡ Some read → EachNear read known
plain-step first None known h k read is = absurd cc
plain-step first (Some rest) known h k read is =
    let same : (first ∷ rest) ≡ read = cc in subst (λ (x : List Expr). EachNear x known) same (more-near first rest known h (k rest refl))

plain-near : (tuple : List Arg) (read : List Expr) (known : Known) → grammar.plain_args tuple ≡ Some read → EachNear (tuple_exprs tuple) known → EachNear read known
plain-near [] read known is h = let same : [] ≡ read = cc in subst (λ (x : List Expr). EachNear x known) same h
plain-near (args.One first ∷ more) read known is h =
    plain-step first (grammar.plain_args more) known (h first (inl refl)) (λ rest e. plain-near more rest known e (λ x there. h x (inr there))) read is
plain-near (args.Range first last ∷ more) read known is h = absurd cc

with-near : (fact : Fact) (read : Option (List Expr)) (head : Head) (known : Known) → grammar.head_with fact read ≡ Some head → ((list : List Expr) → read ≡ Some list → EachNear list known) → EachNear (head_exprs head) known
with-near fact None head known is h = absurd cc
with-near fact (Some list) head known is h =
    let same : heads.Normal (record { negative = fact.negative; before = fact.before; name = fact.name; after = fact.after; args = list }) ≡ head = cc in
    subst (λ (x : Head). EachNear (head_exprs x) known) same (h list refl)

at-near : (fact : Fact) (tuples : List (List Arg)) (head : Head) (known : Known) → grammar.head_at fact tuples ≡ Some head → TuplesNear tuples known → EachNear (head_exprs head) known
at-near fact [] head known is h = absurd cc
at-near fact (only ∷ []) head known is h =
    with-near fact (grammar.plain_args only) head known is (λ list e. plain-near only list known e (λ x there. h x (left-there x there)))
  where
    left-there : (x : Expr) → In x (tuple_exprs only) → In x (tuple_exprs only ++ [])
    left-there x there = In-append_left x (tuple_exprs only) [] there
at-near fact (first ∷ second ∷ more) head known is h = absurd cc

-- ---- items

rule-near : (head : Head) (body : List Literal) (known : Known) → EachNear (head_exprs head) known → BodyNear body known → StatementNear (grammar.rule_item head body) known
rule-near head body known h k = both-near (head_exprs head) (flat_map (λ (literal : Literal). item_exprs literal.item) body) known h k

behind-near : (fact : Fact) (head : Option Head) (item : Item) (known : Known) → FactNear fact known → ((found : Head) → head ≡ Some found → EachNear (head_exprs found) known) → Of (grammar.behind_facts fact head) item known → StatementNear item known
behind-near fact None item known h k m = subst (λ (x : Item). StatementNear x known) (sym m.is) h
behind-near fact (Some head) item known h k r = elim r [
  | inl m ↦ subst (λ (x : Item). StatementNear x known) (sym m.is) h
  | inr m ↦ subst (λ (x : Item). StatementNear x known) (sym m.is) (rule-near head m.of known (k head refl) (tail-near m.of known m.holds))
]

fact-or-rule-gives : (n : ℕ) → Gives Later (IsFactOrRule n) StatementNear
fact-or-rule-gives n = record {
  later = λ from item to r.
      let first = production-gives n grammar.facts in
      let second = production-gives n (grammar.behind_facts r.of (grammar.head_of r.of)) in
      later-then from.known r.middle.known to.known (first.later from r.of r.middle r.first) (second.later r.middle item to r.second);
  holds = λ from item to r.
      let first = production-gives n grammar.facts in
      let second = production-gives n (grammar.behind_facts r.of (grammar.head_of r.of)) in
      let fact = each-near-stays (flat_map tuple_exprs r.of.tuples) r.middle.known to.known (second.later r.middle item to r.second) (fact-near r.of r.middle.known (first.holds from r.of r.middle r.first)) in
      behind-near r.of (grammar.head_of r.of) item to.known fact (λ head is. at-near r.of r.of.tuples head to.known is fact) (second.holds r.middle item to r.second);
}

choice-near : (head : Head) (known : Known) → Of grammar.choice head known → EachNear (head_exprs head) known
choice-near head known h = subst (λ (x : Head). EachNear (head_exprs x) known) (sym h.is) h.holds

choice-made : (read : Head × List Literal) (known : Known) → EachNear (head_exprs read.0) known → BodyNear read.1 known → StatementNear (grammar.choice_item read) known
choice-made (head, body) known h k = rule-near head body known h k

choice-body : (body : List Literal) (known : Known) → OfMade grammar.no_body (λ (thing : Unit {0}) (k : Known). Unit {0}) body known ⊎ Of grammar.tail body known → BodyNear body known
choice-body body known h = elim h [
  | inl m ↦ subst (λ (x : List Literal). BodyNear x known) (sym m.is) (no-near known)
  | inr t ↦ tail-near body known t
]

const-made : (read : List ℕ × Expr) (known : Known) → Near read.1 known → StatementNear (grammar.const_of read) known
const-made (name, value) known h = more-near value [] known h (no-near known)

other-near : (item : Item) (known : Known) → Of grammar.other_item item known → StatementNear item known
other-near item known h = elim h [
  | inl m ↦ subst (λ (x : Item). StatementNear x known) (sym m.is) (choice-made m.of known (choice-near m.of.0 known m.holds.0) (choice-body m.of.1 known m.holds.1))
  | inr r ↦ elim r [
    | inl m ↦ subst (λ (x : Item). StatementNear x known) (sym m.is) (rule-near heads.None m.of known (no-near known) (tail-near m.of known m.holds))
    | inr d ↦ directive-near item known d
  ]
] where
  directive-near : (item : Item) (known : Known) → Of grammar.directive item known → StatementNear item known
  directive-near item known h = elim h [
    | inl m ↦ subst (λ (x : Item). StatementNear x known) (sym m.is) (no-near known)
    | inr r ↦ elim r [
      | inl m ↦ subst (λ (x : Item). StatementNear x known) (sym m.is) (const-made m.of known m.holds.1)
      | inr m ↦ subst (λ (x : Item). StatementNear x known) (sym m.is) (no-near known)
    ]
  ]

pub item-gives : (n : ℕ) → Gives Later (IsItem n) StatementNear
item-gives n =
    either-gives Later later-now later-then (IsFactOrRule n) (means word (IsThing n) grammar.other_item) StatementNear (fact-or-rule-gives n)
    (so-gives (means word (IsThing n) grammar.other_item) (Of grammar.other_item) StatementNear other-near (production-gives n grammar.other_item))
