-- Expressions, atoms and formulas as they are read speak of what is known then.
use Rattle.std.proofs.Common.{◌≡◌, ◌⊎◌, inl, inr, ℕ, zero, suc, Bool, true, false, List, [], ◌∷◌, ◌++◌, Option, Some, None, refl, sym, subst, ◌∙◌, ⊎_elim}
use Rattle.tel_base.specs.Members.{In}
use Rattle.tel_base.proofs.Members.{In-append_cases}
use Rattle.tel_term.specs.declared.exprs.Expr.{Expr}
use Rattle.tel_term.specs.declared.exprs.SumOp.{SumOp}
use Rattle.tel_term.specs.declared.exprs.ProductOp.{ProductOp}
use Rattle.tel_rule.specs.declared.formulas.Atom.{Atom}
use Rattle.formula_syntax.specs.Points.{Word, Known, Grammar}
use Rattle.formula_syntax.specs.Senses.{sense}
use Rattle.formula_syntax.specs.Grammar.{by_itself, plain, is_sign, product_op_of, sum_op_of, name_of, const_of, prefix_of, pair_op_of, arrow_op_of, Terminal, AMark, ALeaf, AProductOp, ASumOp, AName, AConst, APrefix, APairOp, AnArrow, WordOf, word, leaf, Over, meant, it, product_of, sum_of, product, expr, deep_value, IsValue, IsExpr, args, args_or_none, atom_of, atom, IsAtom, SignRead, behind_all}
use Rattle.grammar_laws.specs.Shapes.{One}
use Rattle.checked_programs.proofs.Holding.{OfEach, OfMaybe, Holds, Stays, Gives, either-gives, gives-it}
use Rattle.checked_programs.proofs.Nearness.{Near, Later, later-now, later-then, near-stays, leaf-gives, near-minus, near-sum, near-product, AllNear}

-- ---- words

itself-same : {A : Type 0} (said : Option A) (make : Known → A × Known) → by_itself said ≡ Some make → (known : Known) → (make known).1 ≡ known
itself-same None make e known = absurd cc
itself-same {A} (Some thing) make e known =
    let same : (λ (k : Known). (thing, k)) ≡ make = cc in subst (λ (f : Known → A × Known). (f known).1 ≡ known) same refl

plain-same : (is : Bool) (make : Known → Unit {0} × Known) → plain is ≡ Some make → (known : Known) → (make known).1 ≡ known
plain-same false make e known = absurd cc
plain-same true make e known =
    let same : (λ (k : Known). (tt, k)) ≡ make = cc in subst (λ (f : Known → Unit {0} × Known). (f known).1 ≡ known) same refl

-- a word that tells of nothing that is known
pub same-gives : {A : Type 0} (value : Word → Option (Known → A × Known)) → ((w : Word) (make : Known → A × Known) → value w ≡ Some make → (known : Known) → (make known).1 ≡ known) → Gives Later (One value) (λ thing known. Unit {0})
same-gives value same = record {
  later = λ from thing to r. subst (λ (k : Known). Later from.known k) (sym (r.known_is ∙ same r.word r.make r.gives from.known)) (later-now from.known);
  holds = λ from thing to r. tt;
}

pub itself-gives : {A : Type 0} (said : Word → Option A) → Gives Later (One (λ w. by_itself (said w))) (λ thing known. Unit {0})
itself-gives said = same-gives (λ w. by_itself (said w)) (λ w make e known. itself-same (said w) make e known)

pub plain-gives : (is : Word → Bool) → Gives Later (One (λ w. plain (is w))) (λ thing known. Unit {0})
plain-gives is = same-gives (λ w. plain (is w)) (λ w make e known. plain-same (is w) make e known)

-- an expression of one word speaks of what is known, of other words nothing is asked
abbrev pub OfWord : (t : Terminal) → WordOf t → Known → Type 0
OfWord ALeaf = Near
OfWord (AMark mark) = λ thing known. Unit {0}
OfWord AProductOp = λ thing known. Unit {0}
OfWord ASumOp = λ thing known. Unit {0}
OfWord AName = λ thing known. Unit {0}
OfWord AConst = λ thing known. Unit {0}
OfWord APrefix = λ thing known. Unit {0}
OfWord APairOp = λ thing known. Unit {0}
OfWord AnArrow = λ thing known. Unit {0}

word-stays : (t : Terminal) → Stays Later (OfWord t)
word-stays ALeaf = near-stays
word-stays (AMark mark) = λ thing known later more h. tt
word-stays AProductOp = λ thing known later more h. tt
word-stays ASumOp = λ thing known later more h. tt
word-stays AName = λ thing known later more h. tt
word-stays AConst = λ thing known later more h. tt
word-stays APrefix = λ thing known later more h. tt
word-stays APairOp = λ thing known later more h. tt
word-stays AnArrow = λ thing known later more h. tt

word-gives : (t : Terminal) → Gives Later (One (word t)) (OfWord t)
word-gives ALeaf = leaf-gives
word-gives (AMark mark) = plain-gives (λ w. is_sign mark (sense w))
word-gives AProductOp = itself-gives (λ w. product_op_of (sense w))
word-gives ASumOp = itself-gives (λ w. sum_op_of (sense w))
word-gives AName = itself-gives (λ w. name_of (sense w))
word-gives AConst = itself-gives (λ w. const_of (sense w))
word-gives APrefix = itself-gives (λ w. prefix_of (sense w))
word-gives APairOp = itself-gives (λ w. pair_op_of (sense w))
word-gives AnArrow = itself-gives (λ w. arrow_op_of (sense w))

-- what holds of a production's things, where F holds of the given ones
abbrev pub Of : {R A : Type 0} → (R → Known → Type 0) → Over R A → A → Known → Type 0
Of F p = Holds OfWord (λ i. F) p

pub over-gives : {R A : Type 0} (G : Grammar R) (F : R → Known → Type 0) → Stays Later F → Gives Later G F → (p : Over R A) → Gives Later (meant G p) (Of F p)
over-gives G F stays g p = gives-it Later later-now later-then word (λ i. G) OfWord (λ i. F) word-stays (λ i. stays) word-gives (λ i. g) p

-- what follows of it
pub so-gives : {A : Type 0} (G : Grammar A) (F E : A → Known → Type 0) → ((thing : A) (known : Known) → F thing known → E thing known) → Gives Later G F → Gives Later G E
so-gives G F E so g = record {
  later = g.later;
  holds = λ from thing to r. so thing to.known (g.holds from thing to r);
}

-- ---- expressions

-- operands, each of which is read behind an operator
operands-near : {Op : Type 0} (F : Expr → Known → Type 0) → ((e : Expr) (known : Known) → F e known → Near e known) → (operands : List (Op × Expr)) (known : Known) → OfEach (λ (both : Op × Expr) (k : Known). Unit {0} × F both.1 k) operands known → AllNear operands known
operands-near F so [] known h = tt
operands-near F so (operand ∷ more) known h = (so operand.1 known h.0.1, operands-near F so more known h.1)

product-made : (read : Expr × List (ProductOp × Expr)) (known : Known) → Near read.0 known → AllNear read.1 known → Near (product_of read) known
product-made (first, []) known h all = h
product-made (first, next ∷ more) known h all = near-product first (next ∷ more) known h all

sum-made : (read : Expr × List (SumOp × Expr)) (known : Known) → Near read.0 known → AllNear read.1 known → Near (sum_of read) known
sum-made (first, []) known h all = h
sum-made (first, next ∷ more) known h all = near-sum first (next ∷ more) known h all

product-near : (e : Expr) (known : Known) → Of Near (product it) e known → Near e known
product-near e known h =
    subst (λ (x : Expr). Near x known) (sym h.is) (product-made h.of known h.holds.0 (operands-near Near (λ x k n. n) h.of.1 known h.holds.1))

expr-near : (e : Expr) (known : Known) → Of Near (expr it) e known → Near e known
expr-near e known h =
    subst (λ (x : Expr). Near x known) (sym h.is) (sum-made h.of known (product-near h.of.0 known h.holds.0) (operands-near (Of Near (product it)) product-near h.of.1 known h.holds.1))

deep-near : (e : Expr) (known : Known) → Of Near deep_value e known → Near e known
deep-near e known h = elim h [
  | inl m ↦ subst (λ (x : Expr). Near x known) (sym m.is) (near-minus m.of known m.holds)
  | inr b ↦ expr-near e known b
]

value-gives : (levels : ℕ) → Gives Later (IsValue levels) Near
unfolding IsValue
value-gives zero = leaf-gives
value-gives (suc levels) =
    either-gives Later later-now later-then (One leaf) (meant (IsValue levels) deep_value) Near leaf-gives
    (so-gives (meant (IsValue levels) deep_value) (Of Near deep_value) Near deep-near (over-gives (IsValue levels) Near near-stays (value-gives levels) deep_value))

pub expr-gives : (levels : ℕ) → Gives Later (IsExpr levels) Near
expr-gives levels = so-gives (IsExpr levels) (Of Near (expr it)) Near expr-near (over-gives (IsValue levels) Near near-stays (value-gives levels) (expr it))

-- ---- atoms

-- expressions, each of which speaks of what is known
abbrev pub EachNear : List Expr → Known → Type 0
EachNear exprs known = (e : Expr) → In e exprs → Near e known

pub no-near : (known : Known) → EachNear [] known
no-near known e there = absurd there

pub more-near : (first : Expr) (more : List Expr) (known : Known) → Near first known → EachNear more known → EachNear (first ∷ more) known
more-near first more known h all e there = ⊎_elim (λ here. subst (λ (x : Expr). Near x known) here h) (λ later. all e later) there

pub both-near : (xs ys : List Expr) (known : Known) → EachNear xs known → EachNear ys known → EachNear (xs ++ ys) known
both-near xs ys known h k e there = ⊎_elim (λ l. h e l) (λ r. k e r) (In-append_cases e xs ys there)

pub each-near-stays : Stays Later EachNear
each-near-stays exprs known later more h e there = near-stays e known later more (h e there)

behind-near : {A : Type 0} (pairs : List (A × Expr)) (known : Known) → OfEach (λ (both : A × Expr) (k : Known). Unit {0} × Near both.1 k) pairs known → EachNear (behind_all pairs) known
behind-near [] known h = no-near known
behind-near (pair ∷ pairs) known h = more-near pair.1 (behind_all pairs) known h.0.1 (behind-near pairs known h.1)

args-near : (list : List Expr) (known : Known) → Of Near (args it) list known → EachNear list known
args-near list known h =
    subst (λ (xs : List Expr). EachNear xs known) (sym h.is) (more-near h.of.1.0 (behind_all h.of.1.1.0) known h.holds.1.0 (behind-near h.of.1.1.0 known h.holds.1.1.0))

args-or-none : (read : Option (List Expr)) (known : Known) → OfMaybe (Of Near (args it)) read known → EachNear (args_or_none read) known
args-or-none None known h = no-near known
args-or-none (Some list) known h = args-near list known h

-- an atom whose arguments do
abbrev pub AtomNear : Atom → Known → Type 0
AtomNear atom known = EachNear atom.args known

atom-made : (read : SignRead × Option (List Expr)) (known : Known) → EachNear (args_or_none read.1) known → AtomNear (atom_of read) known
atom-made ((minus, (before, (name, after))), args) known h = h

pub atom-near : (read : Atom) (known : Known) → Of Near (atom it) read known → AtomNear read known
atom-near read known h = subst (λ (x : Atom). AtomNear x known) (sym h.is) (atom-made h.of known (args-or-none h.of.1 known h.holds.1))

pub atom-gives : (levels : ℕ) → Gives Later (IsAtom levels) AtomNear
atom-gives levels = so-gives (IsAtom levels) (Of Near (atom it)) AtomNear atom-near (over-gives (IsExpr levels) Near near-stays (expr-gives levels) (atom it))
