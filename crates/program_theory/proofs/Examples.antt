-- Small programs with their theories and templates, worked out by hand.
use Rattle.std.proofs.Common.{◌≡◌, ◌∙◌, ℕ, ◌+◌, pos, Bool, true, false, Option, List, [], ◌∷◌, length, refl, sym, ap, subst, inl, arith, ⊎_elim}
use Rattle.std.specs.Prelude.{◌==◌, codes, Ok, Some, None, IsTrue}
use Rattle.std.specs.List.{list_all, sum}
use Rattle.std.proofs.lemmas.Bool.{and_parts, eqb-true}
use Rattle.tel_base.specs.Members.{In}
use Rattle.tel_term.specs.declared.terms.Term.{Term}
use Rattle.tel_term.specs.declared.terms.Term.TheVariants as terms
use Rattle.tel_term.specs.declared.terms.Value.{Value}
use Rattle.tel_term.specs.declared.terms.Value.TheVariants as values
use Rattle.tel_term.specs.declared.exprs.Expr.TheVariants as exprs
use Rattle.tel_term.specs.declared.exprs.Expr.TheVariants.{rolls-Var}
use Rattle.tel_term.specs.declared.exprs.Expr.TheOpen as layers
use Rattle.tel_term.specs.declared.exprs.Expr.TheFolds.{fold-roll-Expr}
use Rattle.tel_term.specs.Arithmetic.{Valued, layer_value, expr_value}
use Rattle.tel_rule.specs.declared.parts.Part.{Part}
use Rattle.tel_rule.specs.declared.parts.Part.TheVariants as parts
use Rattle.tel_rule.specs.declared.formulas.Atom.{Atom}
use Rattle.tel_rule.specs.declared.formulas.UnaryOp.TheVariants as unary
use Rattle.tel_rule.specs.declared.formulas.ManyOp.TheVariants as many
use Rattle.tel_rule.specs.declared.formulas.Formula.{Formula}
use Rattle.tel_rule.specs.declared.formulas.Formula.TheVariants as read
use Rattle.tel_rule.specs.declared.statements.Head.{Head}
use Rattle.tel_rule.specs.declared.statements.Head.TheVariants as heads
use Rattle.tel_rule.specs.declared.statements.LitItem.TheVariants as items
use Rattle.tel_rule.specs.declared.statements.Literal.{Literal}
use Rattle.tel_rule.specs.declared.statements.Kind.{Kind}
use Rattle.tel_rule.specs.declared.statements.Kind.TheVariants as kinds
use Rattle.tel_rule.specs.declared.statements.Statement.{Statement}
use Rattle.tel_rule.specs.declared.statements.Program.{Program}
use Rattle.tel_rule.specs.declared.nodes.NodeOp.TheVariants as ops
use Rattle.tel_rule.specs.declared.nodes.Kid.TheVariants as kids
use Rattle.tel_rule.specs.declared.ground.GroundHead.TheVariants as derived
use Rattle.tel_rule.specs.declared.ground.BodyItem.TheVariants as looks
use Rattle.tel_rule.specs.declared.ground.Show.TheVariants as showing
use Rattle.tel_rule.specs.declared.statements.Signature.{Signature}
use Rattle.tel_rule.specs.Ground.{Ground, IsGround}
use Rattle.tel_semantics.specs.Formula as formulas
use Rattle.tel_semantics.specs.Formula.{negation}
use Rattle.instance_build.proofs.FormulaLayers.{value-atom, value-unary, value-many}
use Rattle.live_instances.specs.Bindings.{is_value, is_binding}
use Rattle.live_instances.specs.Instances.{AreLive, is_live}
use Rattle.theory_lists.specs.Atoms.{TermAtom}
use Rattle.theory_lists.specs.Theories.{ProgramTheory}
use Rattle.theory_lists.specs.Lists.{equilibria}
use Rattle.program_theory.specs.Instances.{AreInstances, operator_count}
use Rattle.program_theory.specs.Theory.{IsTheoryOf, atom_under, instance_demands, demanded_atoms, width_of, is_shown_by}
use Rattle.program_theory.specs.Templates.{HasFewNots, IsTemplateOf}
use Rattle.program_theory.proofs.Counted.{below_sum}
use Rattle.program_theory.proofs.SomeTheory.{rising_atoms}

-- ---- `#program initial. p'. #program always. q :- not not 'p. -q :- p.`

abbrev of_part : Part → Kind → Statement
of_part part kind = record { place = record { file = 1; line = 1; at = 1 }; part = part; vars = []; kind = kind }

abbrev plain : List ℕ → Atom
plain name = record { negative = false; before = 0; name = name; after = 0; args = [] }

abbrev before : List ℕ → Atom
before name = record { negative = false; before = 1; name = name; after = 0; args = [] }

abbrev negative : List ℕ → Atom
negative name = record { negative = true; before = 0; name = name; after = 0; args = [] }

abbrev p : List ℕ
p = codes "p"

abbrev q : List ℕ
q = codes "q"

-- p'.
abbrev next_p : Statement
next_p = of_part parts.Initial (kinds.Facts (record { negative = false; before = 0; name = p; after = 1; tuples = [] ∷ [] }))

-- not not 'p
abbrev p_before : List Literal
p_before = record { nots = 2; item = items.Atom (before p) } ∷ []

-- p
abbrev p_now : List Literal
p_now = record { nots = 0; item = items.Atom (plain p) } ∷ []

abbrev program : Program
program = record {
  statements = next_p ∷ of_part parts.Always (kinds.Rule (heads.Normal (plain q)) p_before) ∷ of_part parts.Always (kinds.Rule (heads.Normal (negative q)) p_now) ∷ [];
  symbols = [];
}

-- each statement has one instance, without variables or arguments
abbrev live : List (List (List Value))
live = ([] ∷ []) ∷ ([] ∷ []) ∷ ([] ∷ []) ∷ []

only_empty : (binding : List Value) → is_binding [] 0 binding ≡ true → In binding ([] ∷ [])
only_empty [] is = inl refl
only_empty (value ∷ more) is =
    let none = eqb-true (length (value ∷ more)) 0 (and_parts (length (value ∷ more) == 0) (list_all (is_value []) (value ∷ more)) is).0 in
    absurd (omega (arith, none))

one_live : (head : Head) (body : List Literal) → is_live program.statements [] head body [] ≡ true → AreLive program.statements [] 0 head body ([] ∷ [])
one_live head body is = record {
  rise = refl;
  members = λ binding. (
    λ found. ⊎_elim (λ (same : [] ≡ binding). subst (λ (b : List Value). IsTrue (is_binding [] 0 b) × IsTrue (is_live program.statements [] head body b)) same (refl, is)) (λ (none : ⊥). absurd none) found,
    λ both. only_empty binding both.0,
  );
}

instances : AreInstances program live
instances = (refl, (one_live (heads.Normal (plain q)) p_before refl, (one_live (heads.Normal (negative q)) p_now refl, tt {0})))

-- its atoms in their order: p, q and -q
abbrev atom_p : TermAtom
atom_p = record { negative = false; name = p; args = [] }

abbrev atom_q : TermAtom
atom_q = record { negative = false; name = q; args = [] }

abbrev not_q : TermAtom
not_q = record { negative = true; name = q; args = [] }

-- at the first instant next p; always q where p was before, -q where p is, and not both q and -q
abbrev theory : ProgramTheory
theory = record {
  atoms = atom_p ∷ atom_q ∷ not_q ∷ [];
  demands =
      record { part = parts.Initial; formula = formulas.Arrow formulas.True (formulas.Next (formulas.Atom atom_p)) }
      ∷ record { part = parts.Always; formula = formulas.Arrow (formulas.And (negation (negation (formulas.Previous (formulas.Atom atom_p)))) formulas.True) (formulas.Atom atom_q) }
      ∷ record { part = parts.Always; formula = formulas.Arrow (formulas.And (formulas.Atom atom_p) formulas.True) (formulas.Atom not_q) }
      ∷ record { part = parts.Always; formula = negation (formulas.And (formulas.Atom atom_q) (formulas.Atom not_q)) }
      ∷ [];
  shown = λ atom. true;
}

its_theory : IsTheoryOf program live theory
its_theory = record {
  instances = instances;
  rise = refl;
  atoms = (rising_atoms (demanded_atoms (instance_demands program live))).members;
  demands = refl;
  shown = refl;
}

-- p, and with it -q, come at the second of two instants; of one instant there is no model
none_of_one : equilibria theory 1 ≡ []
none_of_one = refl

one_of_two : equilibria theory 2 ≡ ([] ∷ (0 ∷ 2 ∷ []) ∷ []) ∷ []
one_of_two = refl

-- three atoms, the nodes of `not not 'p`, three instances, and one place more
counted : width_of program live theory ≡ 9
counted = refl

-- ---- its template

-- `not` of node 0, which is ~ over node 1, which looks one instant before
abbrev template : Ground
template = record {
  symbols = terms.Name p ∷ terms.Name q ∷ [];
  atoms = record { negative = false; name = 0; args = [] } ∷ record { negative = false; name = 1; args = [] } ∷ record { negative = true; name = 1; args = [] } ∷ [];
  pairs = (1, 2) ∷ [];
  nodes = record { op = ops.Unary unary.Not; kids = kids.Node 1 ∷ [] } ∷ record { op = ops.Unary unary.Previous; kids = kids.Atom 0 ∷ [] } ∷ [];
  instances =
      record { statement = 0; part = parts.Initial; head = derived.Normal 0 true; body = [] }
      ∷ record { statement = 1; part = parts.Always; head = derived.Normal 1 false; body = record { positive = false; item = looks.Node 0 } ∷ [] }
      ∷ record { statement = 2; part = parts.Always; head = derived.Normal 2 false; body = record { positive = true; item = looks.Atom 0 } ∷ [] }
      ∷ [];
  show = showing.All;
}

few_nots : HasFewNots program
few_nots = refl

is_ground : IsGround template
is_ground = record { named = refl; rise = refl; paired = refl; nodes = refl; in_range = refl; guarded = refl; shown = refl }

its_template : IsTemplateOf program live template
its_template = record {
  instances_are = instances;
  symbols = (template.symbols, refl);
  table = record { distinct = refl; symbols = refl; bounded = omega arith };
  atoms = (rising_atoms (demanded_atoms (instance_demands program live))).members;
  instances = refl;
  nodes = refl;
  shown = λ number below. refl;
}

-- ---- what is shown

-- {a}. {b}. and a `#show`, or none
abbrev shows : Option Signature → List Statement
shows shown = of_part parts.Always (kinds.Rule (heads.Choice (plain (codes "a"))) []) ∷ of_part parts.Always (kinds.Rule (heads.Choice (plain (codes "b"))) []) ∷ of_part parts.Always (kinds.Show shown) ∷ []

abbrev without_arguments : Bool → List ℕ → Signature
without_arguments negative name = record { negative = negative; name = name; arity = 0 }

-- #show a/0. shows a alone, neither b nor -a
a_shown : is_shown_by (shows (Some (without_arguments false (codes "a")))) (without_arguments false (codes "a")) ≡ true
a_shown = refl

b_hidden : is_shown_by (shows (Some (without_arguments false (codes "a")))) (without_arguments false (codes "b")) ≡ false
b_hidden = refl

other_sign : is_shown_by (shows (Some (without_arguments false (codes "a")))) (without_arguments true (codes "a")) ≡ false
other_sign = refl

-- `#show.` shows none, and without a `#show` all are shown
none_shown : is_shown_by (shows None) (without_arguments false (codes "a")) ≡ false
none_shown = refl

all_shown : is_shown_by program.statements (without_arguments true q) ≡ true
all_shown = refl

-- ---- the operators of a formula

-- ~ over a conjunction of two atoms
abbrev not_both : Formula
not_both = read.Unary unary.Not (read.Many many.And (read.Atom (plain p) ∷ read.Atom (plain q) ∷ []))

two_operators : operator_count not_both ≡ 2
two_operators =
    value-unary (λ atom. 0) below_sum unary.Not (read.Many many.And (read.Atom (plain p) ∷ read.Atom (plain q) ∷ []))
    ∙ ap (λ (n : ℕ). 1 + sum (n ∷ []))
    (value-many (λ atom. 0) below_sum many.And (read.Atom (plain p) ∷ read.Atom (plain q) ∷ [])
    ∙ (λ i. 1 + sum (value-atom (λ atom. 0) below_sum (plain p) i ∷ value-atom (λ atom. 0) below_sum (plain q) i ∷ [])))

-- ---- atoms under bindings

value-X : (value : Value) → expr_value (value ∷ []) (exprs.Var 0) ≡ Ok value
value-X value = ap (expr_value (value ∷ [])) (sym (rolls-Var 0)) ∙ fold-roll-Expr Valued (layer_value (value ∷ [])) (layers.Var 0)

-- the name a, and -r(X) where X is a or 1
abbrev symbols : List Term
symbols = terms.Name (codes "a") ∷ []

abbrev r_of_X : Atom
r_of_X = record { negative = true; before = 0; name = codes "r"; after = 0; args = exprs.Var 0 ∷ [] }

r_of_a : atom_under symbols (values.Sym 0 ∷ []) r_of_X ≡ record { negative = true; name = codes "r"; args = terms.Name (codes "a") ∷ [] }
r_of_a = rw (value-X (values.Sym 0)) refl

r_of_one : atom_under symbols (values.Num (pos 1) ∷ []) r_of_X ≡ record { negative = true; name = codes "r"; args = terms.Num (pos 1) ∷ [] }
r_of_one = rw (value-X (values.Num (pos 1))) refl
