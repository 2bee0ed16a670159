-- The atoms of live instances by name, and the atoms of the theory that they stand for: these are the same ones, and different ones stand for different ones.
use Rattle.std.proofs.Common.{◌≡◌, ◌↔◌, ◌⊎◌, ℕ, zero, suc, pos, Bool, true, false, List, [], ◌∷◌, ◌++◌, map, refl, sym, ap, ap₂, ◌∙◌, subst, ⊎_elim}
use Rattle.std.specs.Prelude.{Ok, Err, nat_lt, if◌then◌else◌}
use Rattle.std.specs.List.{flat_map, list_all}
use Rattle.std.specs.Result.{result_unwrap_or}
use Rattle.std.specs.declared.cmp.Ordering.TheVariants.{Equal}
use Rattle.std.proofs.lemmas.Bool.{and_parts}
use Rattle.std.proofs.lemmas.Cmp.{tied_itself}
use Rattle.std.proofs.lemmas.List.{append-nil, map-append}
use Rattle.std.proofs.lemmas.Grind.{flat_map-append}
use Rattle.tel_base.specs.Members.{In}
use Rattle.tel_base.proofs.Members.{In-append_left, In-append_right, In-append_cases}
use Rattle.tel_term.specs.declared.terms.Term.{Term}
use Rattle.tel_term.specs.declared.terms.Value.{Value}
use Rattle.tel_term.specs.declared.terms.Value.TheVariants as values
use Rattle.tel_term.specs.declared.exprs.Expr.{Expr}
use Rattle.tel_term.specs.Arithmetic.{Valued, expr_value}
use Rattle.tel_term.specs.Symbols.{IsTable}
use Rattle.tel_term.specs.Order.{term_at, term_cmp, value_in_range}
use Rattle.tel_term.proofs.Ordered.{terms-total, values-level}
use Rattle.tel_rule.specs.declared.parts.Part.{Part}
use Rattle.tel_rule.specs.declared.formulas.Atom.{Atom}
use Rattle.tel_rule.specs.declared.formulas.ConstOp.{ConstOp}
use Rattle.tel_rule.specs.declared.formulas.ConstOp.TheVariants as constants
use Rattle.tel_rule.specs.declared.formulas.UnaryOp.{UnaryOp}
use Rattle.tel_rule.specs.declared.formulas.UnaryOp.TheVariants as unary
use Rattle.tel_rule.specs.declared.formulas.BinaryOp.{BinaryOp}
use Rattle.tel_rule.specs.declared.formulas.BinaryOp.TheVariants as binary
use Rattle.tel_rule.specs.declared.formulas.ManyOp.{ManyOp}
use Rattle.tel_rule.specs.declared.formulas.ManyOp.TheVariants as many
use Rattle.tel_rule.specs.declared.formulas.Formula as read
use Rattle.tel_rule.specs.declared.formulas.Formula.TheVariants as shapes
use Rattle.tel_rule.specs.declared.formulas.Formula.TheVariants.{rolls-Const, rolls-Atom, rolls-Unary, rolls-Binary, rolls-Many}
use Rattle.tel_rule.specs.declared.formulas.Formula.TheOpen.{Formula-F}
use Rattle.tel_rule.specs.declared.formulas.Formula.TheOpen as layers
use Rattle.tel_rule.specs.declared.formulas.Formula.TheFolds.{fold-Formula, fold-roll-Formula}
use Rattle.tel_rule.specs.declared.nodes.NodeOp.TheVariants as ops
use Rattle.tel_rule.specs.declared.statements.LitItem.{LitItem}
use Rattle.tel_rule.specs.declared.statements.LitItem.TheVariants as items
use Rattle.tel_rule.specs.declared.statements.Literal.{Literal}
use Rattle.tel_rule.specs.declared.statements.Head.{Head}
use Rattle.tel_rule.specs.declared.statements.Head.TheVariants as heads
use Rattle.tel_rule.specs.declared.statements.Fact.{Fact}
use Rattle.tel_rule.specs.declared.statements.Kind.{Kind}
use Rattle.tel_rule.specs.declared.statements.Kind.TheVariants as kinds
use Rattle.tel_rule.specs.declared.statements.Statement.{Statement}
use Rattle.tel_rule.specs.declared.statements.Program.{Program}
use Rattle.tel_semantics.specs.Formula as semantic
use Rattle.tel_semantics.specs.Formula.{FormulaOver, True, And, Or, Previous, Next}
use Rattle.tel_semantics.specs.NodeFormula.{const_formula, unary_formula, binary_formula, many_formula, op_formula}
use Rattle.tel_semantics.specs.Theory.{DemandOver}
use Rattle.instance_build.specs.FormulaValues as below
use Rattle.instance_build.specs.RuleAtoms as built
use Rattle.instance_build.specs.Meaning.{formula_meaning, item_meaning, behind_nots, is_comparison, body_meaning, derived_meaning, head_meaning, rule_meaning}
use Rattle.instance_build.proofs.FormulaLayers.{by_operands, value-const, value-atom, value-unary, value-binary, value-many}
use Rattle.theory_lists.specs.Atoms.{TermAtom}
use Rattle.program_theory.specs.Theory as theories
use Rattle.program_theory.specs.Theory.{value_term, rule_demand, fact_demand, derived, kind_demands, statement_demands, instance_demands, formula_atoms, demanded_atoms}
use Rattle.atom_table.specs.Named.{NamedAtom, args_in_range}
use Rattle.atom_table.specs.Collected as collected
use Rattle.atom_table.specs.Collected.{args_under, layer_atoms, joined, item_atoms, literal_atoms, head_atoms, rule_atoms}
use Rattle.program_instances.specs.Gathered.{kind_named, named_atoms}

-- the atom over terms that a named atom stands for
abbrev pub stood_for : List Term → NamedAtom → TermAtom
stood_for symbols atom = record { negative = atom.negative; name = atom.name; args = map (term_at symbols) atom.args }

-- ---- an atom of a rule or of a fact stands for its atom in the theory

value-stands : (symbols : List Term) (v : Valued) → term_at symbols (result_unwrap_or v (values.Num (pos 0))) ≡ value_term symbols v
value-stands symbols (Ok value) = refl
value-stands symbols (Err fault) = refl

args-stand : (symbols : List Term) (binding : List Value) (args : List Expr) → map (term_at symbols) (args_under binding args) ≡ map (λ (arg : Expr). value_term symbols (expr_value binding arg)) args
args-stand symbols binding [] = refl
args-stand symbols binding (arg ∷ more) =
    ap₂ (λ (term : Term) (terms : List Term). term ∷ terms) (value-stands symbols (expr_value binding arg)) (args-stand symbols binding more)

pub under-stands : (symbols : List Term) (binding : List Value) (atom : Atom) → stood_for symbols (collected.atom_under binding atom) ≡ theories.atom_under symbols binding atom
under-stands symbols binding atom =
    ap (λ (terms : List Term). record { negative = atom.negative; name = atom.name; args = terms }) (args-stand symbols binding atom.args)

pub fact-stands : (symbols : List Term) (fact : Fact) (row : List Value) → stood_for symbols (collected.fact_atom fact row) ≡ theories.fact_atom symbols fact row
fact-stands symbols fact row = refl

-- ---- different atoms in range stand for different ones

module _ (symbols : List Term) (table : IsTable symbols) where
  one-value : (a b : Value) → value_in_range symbols a ≡ true → value_in_range symbols b ≡ true → term_at symbols a ≡ term_at symbols b → a ≡ b
  one-value a b in_a in_b same =
      (values-level symbols a b table in_a in_b).0 (subst (λ (t : Term). term_cmp (term_at symbols a) t ≡ Equal) same (tied_itself terms-total (term_at symbols a)))

  one-row : (xs ys : List Value) → list_all (value_in_range symbols) xs ≡ true → list_all (value_in_range symbols) ys ≡ true → map (term_at symbols) xs ≡ map (term_at symbols) ys → xs ≡ ys
  one-row [] [] in_x in_y same = refl
  one-row [] (y ∷ ys) in_x in_y same = absurd (cc)
  one-row (x ∷ xs) [] in_x in_y same = absurd (cc)
  one-row (x ∷ xs) (y ∷ ys) in_x in_y same =
      let here_x = and_parts (value_in_range symbols x) (list_all (value_in_range symbols) xs) in_x in
      let here_y = and_parts (value_in_range symbols y) (list_all (value_in_range symbols) ys) in_y in
      let first : term_at symbols x ≡ term_at symbols y = cc in
      let rest : map (term_at symbols) xs ≡ map (term_at symbols) ys = cc in
      ap₂ (λ (v : Value) (vs : List Value). v ∷ vs) (one-value x y here_x.0 here_y.0 first) (one-row xs ys here_x.1 here_y.1 rest)

  pub one-named : (a b : NamedAtom) → args_in_range symbols a ≡ true → args_in_range symbols b ≡ true → stood_for symbols a ≡ stood_for symbols b → a ≡ b
  one-named a b in_a in_b same =
      let signs : a.negative ≡ b.negative = ap (λ (atom : TermAtom). atom.negative) same in
      let names : a.name ≡ b.name = ap (λ (atom : TermAtom). atom.name) same in
      let args = one-row a.args b.args in_a in_b (ap (λ (atom : TermAtom). atom.args) same) in
      λ i. record { negative = signs i; name = names i; args = args i }

-- ---- lists with the same members

pub record Alike {X : Type 0} (xs ys : List X) : Type 0 where
  pub same : (x : X) → In x xs ↔ In x ys

pub alike-itself : {X : Type 0} (xs : List X) → Alike xs xs
alike-itself xs = record { same = λ x. (λ there. there, λ there. there) }

pub alike-then : {X : Type 0} {xs ys zs : List X} → Alike xs ys → Alike ys zs → Alike xs zs
alike-then first second = record { same = λ x. (λ there. (second.same x).0 ((first.same x).0 there), λ there. (first.same x).1 ((second.same x).1 there)) }

pub alike-is : {X : Type 0} {xs ys : List X} → xs ≡ ys → Alike xs ys
alike-is {X} {xs} {ys} is = subst (λ (l : List X). Alike xs l) is (alike-itself xs)

pub alike-both : {X : Type 0} {xs ys us vs : List X} → Alike xs ys → Alike us vs → Alike (xs ++ us) (ys ++ vs)
alike-both {X} {xs} {ys} {us} {vs} first second = record {
  same = λ x. (
    λ there. ⊎_elim (λ (l : In x xs). In-append_left x ys vs ((first.same x).0 l)) (λ (r : In x us). In-append_right x ys vs ((second.same x).0 r)) (In-append_cases x xs us there),
    λ there. ⊎_elim (λ (l : In x ys). In-append_left x xs us ((first.same x).1 l)) (λ (r : In x vs). In-append_right x xs us ((second.same x).1 r)) (In-append_cases x ys vs there),
  );
}

turned : {X : Type 0} (x : X) (xs ys : List X) → In x (xs ++ ys) → In x (ys ++ xs)
turned x xs ys there = ⊎_elim (λ (l : In x xs). In-append_right x ys xs l) (λ (r : In x ys). In-append_left x ys xs r) (In-append_cases x xs ys there)

pub alike-turned : {X : Type 0} (xs ys : List X) → Alike (xs ++ ys) (ys ++ xs)
alike-turned xs ys = record { same = λ x. (turned x xs ys, turned x ys xs) }

pub alike-twice : {X : Type 0} (xs : List X) → Alike (xs ++ xs) xs
alike-twice xs = record { same = λ x. (λ there. ⊎_elim (λ (l : In x xs). l) (λ (r : In x xs). r) (In-append_cases x xs xs there), λ there. In-append_left x xs xs there) }

alike-none : {X : Type 0} (xs : List X) → Alike (xs ++ []) xs
alike-none xs = alike-is (append-nil xs)

-- ---- the atoms of what operators make

const-alike : {X : Type 0} (op : ConstOp) → Alike (formula_atoms {X = X} (const_formula op)) []
const-alike constants.True = alike-itself []
const-alike constants.False = alike-itself []
const-alike constants.Initial = alike-itself []
const-alike constants.Final = alike-itself []

unary-alike : {X : Type 0} (op : UnaryOp) (f : FormulaOver X) → Alike (formula_atoms (unary_formula op f)) (formula_atoms f)
unary-alike unary.Not f = alike-none (formula_atoms f)
unary-alike unary.Previous f = alike-itself (formula_atoms f)
unary-alike unary.WeakPrevious f = alike-none (formula_atoms f)
unary-alike unary.AlwaysBefore f = alike-itself (formula_atoms f)
unary-alike unary.OnceBefore f = alike-itself (formula_atoms f)
unary-alike unary.Initially f = alike-itself (formula_atoms f)
unary-alike unary.Next f = alike-itself (formula_atoms f)
unary-alike unary.WeakNext f = alike-none (formula_atoms f)
unary-alike unary.AlwaysAfter f = alike-itself (formula_atoms f)
unary-alike unary.OnceAfter f = alike-itself (formula_atoms f)
unary-alike unary.Finally f = alike-itself (formula_atoms f)

binary-alike : {X : Type 0} (op : BinaryOp) (f g : FormulaOver X) → Alike (formula_atoms (binary_formula op f g)) (formula_atoms f ++ formula_atoms g)
binary-alike binary.Since f g = alike-itself (formula_atoms f ++ formula_atoms g)
binary-alike binary.Trigger f g = alike-itself (formula_atoms f ++ formula_atoms g)
binary-alike binary.Until f g = alike-itself (formula_atoms f ++ formula_atoms g)
binary-alike binary.Release f g = alike-itself (formula_atoms f ++ formula_atoms g)
binary-alike binary.Implies f g = alike-itself (formula_atoms f ++ formula_atoms g)
binary-alike binary.ImpliedBy f g = alike-turned (formula_atoms g) (formula_atoms f)
binary-alike binary.Same f g =
    alike-then (alike-both (alike-itself (formula_atoms f ++ formula_atoms g)) (alike-turned (formula_atoms g) (formula_atoms f))) (alike-twice (formula_atoms f ++ formula_atoms g))

many-alike : {X : Type 0} (op : ManyOp) (fs : List (FormulaOver X)) → Alike (formula_atoms (many_formula op fs)) (flat_map formula_atoms fs)
many-alike many.And [] = alike-itself []
many-alike many.And (f ∷ fs) = alike-both (alike-itself (formula_atoms f)) (many-alike many.And fs)
many-alike many.Or [] = alike-itself []
many-alike many.Or (f ∷ fs) = alike-both (alike-itself (formula_atoms f)) (many-alike many.Or fs)

-- ---- the atoms of formulas as they are read

pub atoms-const : (op : ConstOp) → collected.formula_atoms (shapes.Const op) ≡ []
atoms-const op = ap collected.formula_atoms (sym (rolls-Const op)) ∙ fold-roll-Formula (List Atom) layer_atoms (layers.Const op)

pub atoms-atom : (atom : Atom) → collected.formula_atoms (shapes.Atom atom) ≡ atom ∷ []
atoms-atom atom = ap collected.formula_atoms (sym (rolls-Atom atom)) ∙ fold-roll-Formula (List Atom) layer_atoms (layers.Atom atom)

pub atoms-unary : (op : UnaryOp) (f : read.Formula) → collected.formula_atoms (shapes.Unary op f) ≡ collected.formula_atoms f
atoms-unary op f = ap collected.formula_atoms (sym (rolls-Unary op f)) ∙ fold-roll-Formula (List Atom) layer_atoms (layers.Unary op f)

pub atoms-binary : (op : BinaryOp) (f g : read.Formula) → collected.formula_atoms (shapes.Binary op f g) ≡ collected.formula_atoms f ++ collected.formula_atoms g
atoms-binary op f g = ap collected.formula_atoms (sym (rolls-Binary op f g)) ∙ fold-roll-Formula (List Atom) layer_atoms (layers.Binary op f g)

pub atoms-many : (op : ManyOp) (fs : List read.Formula) → collected.formula_atoms (shapes.Many op fs) ≡ joined (map collected.formula_atoms fs)
atoms-many op fs = ap collected.formula_atoms (sym (rolls-Many op fs)) ∙ fold-roll-Formula (List Atom) layer_atoms (layers.Many op fs)

-- ---- the atoms of what a rule means are those that stand in it

module _ {X : Type 0} (g : Atom → X) where
  abbrev Speaks : read.Formula → Type 0
  Speaks formula = Alike (formula_atoms (formula_meaning g formula)) (map g (collected.formula_atoms formula))

  abbrev Meets : FormulaOver X → List Atom → Type 0
  Meets f atoms = Alike (formula_atoms f) (map g atoms)

  -- by what the formula means, and what its atoms are
  met : (f h : FormulaOver X) (atoms others : List Atom) → f ≡ h → atoms ≡ others → Meets h others → Meets f atoms
  met f h atoms others is are meets =
      alike-then (alike-is (ap formula_atoms is)) (alike-then meets (alike-is (ap (map g) (sym are))))

  met-each : (es : List ((formula : read.Formula) × Speaks formula)) → Alike (flat_map formula_atoms (map (formula_meaning g) (map (λ e. e.0) es))) (map g (joined (map collected.formula_atoms (map (λ e. e.0) es))))
  met-each [] = alike-itself []
  met-each (e ∷ es) =
      alike-then (alike-both e.1 (met-each es)) (alike-is (sym (map-append g (collected.formula_atoms e.0) (joined (map collected.formula_atoms (map (λ d. d.0) es))))))

  met-formula : (formula : read.Formula) → Speaks formula
  met-formula = by_operands Speaks (record {
    const = λ op. met (formula_meaning g (shapes.Const op)) (op_formula (ops.Const op) []) (collected.formula_atoms (shapes.Const op)) []
        (value-const (λ atom. semantic.Atom (g atom)) op_formula op) (atoms-const op) (const-alike op);
    atom = λ atom. met (formula_meaning g (shapes.Atom atom)) (semantic.Atom (g atom)) (collected.formula_atoms (shapes.Atom atom)) (atom ∷ [])
        (value-atom (λ other. semantic.Atom (g other)) op_formula atom) (atoms-atom atom) (alike-itself (g atom ∷ []));
    unary = λ op f is. met (formula_meaning g (shapes.Unary op f)) (op_formula (ops.Unary op) (formula_meaning g f ∷ [])) (collected.formula_atoms (shapes.Unary op f)) (collected.formula_atoms f)
        (value-unary (λ atom. semantic.Atom (g atom)) op_formula op f) (atoms-unary op f) (alike-then (unary-alike op (formula_meaning g f)) is);
    binary = λ op f h left right. met (formula_meaning g (shapes.Binary op f h)) (op_formula (ops.Binary op) (formula_meaning g f ∷ formula_meaning g h ∷ [])) (collected.formula_atoms (shapes.Binary op f h)) (collected.formula_atoms f ++ collected.formula_atoms h)
        (value-binary (λ atom. semantic.Atom (g atom)) op_formula op f h) (atoms-binary op f h)
        (alike-then (binary-alike op (formula_meaning g f) (formula_meaning g h)) (alike-then (alike-both left right) (alike-is (sym (map-append g (collected.formula_atoms f) (collected.formula_atoms h))))));
    many = λ op es. met (formula_meaning g (shapes.Many op (map (λ e. e.0) es))) (op_formula (ops.Many op) (map (formula_meaning g) (map (λ e. e.0) es))) (collected.formula_atoms (shapes.Many op (map (λ e. e.0) es))) (joined (map collected.formula_atoms (map (λ e. e.0) es)))
        (value-many (λ atom. semantic.Atom (g atom)) op_formula op (map (λ e. e.0) es)) (atoms-many op (map (λ e. e.0) es))
        (alike-then (many-alike op (map (formula_meaning g) (map (λ e. e.0) es))) (met-each es));
  })

  before-alike : (late : Bool) (x : X) → Alike (formula_atoms (if late then Previous (semantic.Atom x) else semantic.Atom x)) (x ∷ [])
  before-alike true x = alike-itself (x ∷ [])
  before-alike false x = alike-itself (x ∷ [])

  after-alike : (late : Bool) (x : X) → Alike (formula_atoms (if late then Next (semantic.Atom x) else semantic.Atom x)) (x ∷ [])
  after-alike true x = alike-itself (x ∷ [])
  after-alike false x = alike-itself (x ∷ [])

  met-item : (item : LitItem) → Meets (item_meaning g item) (item_atoms item)
  met-item (items.Atom atom) = before-alike (nat_lt 0 atom.before) (g atom)
  met-item (items.Tel formula) = met-formula formula
  met-item (items.Compare relation left right) = alike-itself []

  met-nots : (nots : ℕ) (f : FormulaOver X) (atoms : List Atom) → Meets f atoms → Meets (behind_nots nots f) atoms
  met-nots zero f atoms meets = meets
  met-nots (suc nots) f atoms meets = alike-then (alike-none (formula_atoms (behind_nots nots f))) (met-nots nots f atoms meets)

  -- a literal in front of others
  met-conjunct : (nots : ℕ) (item : LitItem) (rest : FormulaOver X) (atoms : List Atom) → Meets rest atoms
      → Meets (if is_comparison item then rest else And (behind_nots nots (item_meaning g item)) rest) (item_atoms item ++ atoms)
  met-conjunct nots (items.Atom atom) rest atoms meets =
      alike-both (met-nots nots (item_meaning g (items.Atom atom)) (atom ∷ []) (met-item (items.Atom atom))) meets
  met-conjunct nots (items.Tel formula) rest atoms meets =
      alike-then (alike-both (met-nots nots (formula_meaning g formula) (collected.formula_atoms formula) (met-formula formula)) meets)
      (alike-is (sym (map-append g (collected.formula_atoms formula) atoms)))
  met-conjunct nots (items.Compare relation left right) rest atoms meets = meets

  met-body : (body : List Literal) → Meets (body_meaning g body) (flat_map literal_atoms body)
  met-body [] = alike-itself []
  met-body (literal ∷ more) = met-conjunct literal.nots literal.item (body_meaning g more) (flat_map literal_atoms more) (met-body more)

  met-head : (head : Head) → Meets (head_meaning g head) (head_atoms head)
  met-head (heads.Normal atom) = after-alike (nat_lt 0 atom.after) (g atom)
  met-head (heads.Choice atom) =
      let one = after-alike (nat_lt 0 atom.after) (g atom) in
      alike-then (alike-both one (alike-then (alike-none (formula_atoms (derived_meaning g atom))) one)) (alike-twice (g atom ∷ []))
  met-head heads.None = alike-itself []

  pub rule-alike : (head : Head) (body : List Literal) → Alike (formula_atoms (rule_meaning g head body)) (map g (rule_atoms head body))
  rule-alike head body =
      alike-then (alike-both (met-body body) (met-head head))
      (alike-then (alike-turned (map g (flat_map literal_atoms body)) (map g (head_atoms head))) (alike-is (sym (map-append g (head_atoms head) (flat_map literal_atoms body)))))

-- ---- the atoms of live instances are those of the theory

module _ (symbols : List Term) where
  rule-stands : (binding : List Value) (atoms : List Atom) → map (stood_for symbols) (map (collected.atom_under binding) atoms) ≡ map (theories.atom_under symbols binding) atoms
  rule-stands binding [] = refl
  rule-stands binding (atom ∷ more) = ap₂ (λ (one : TermAtom) (rest : List TermAtom). one ∷ rest) (under-stands symbols binding atom) (rule-stands binding more)

  rule-demanded : (part : Part) (head : Head) (body : List Literal) (live : List (List Value))
      → Alike (map (stood_for symbols) (kind_named (kinds.Rule head body) live)) (demanded_atoms (map (rule_demand symbols part head body) live))
  rule-demanded part head body [] = alike-itself []
  rule-demanded part head body (binding ∷ more) =
      let here = map (collected.atom_under binding) (rule_atoms head body) in
      let means = rule-alike (theories.atom_under symbols binding) head body in
      alike-then (alike-is (map-append (stood_for symbols) here (kind_named (kinds.Rule head body) more)))
      (alike-both
      (alike-then (alike-is (rule-stands binding (rule_atoms head body))) (record { same = λ x. ((means.same x).1, (means.same x).0) }))
      (rule-demanded part head body more))

  derived-alike : (atom : TermAtom) (late : Bool) → Alike (atom ∷ []) (formula_atoms (derived atom late))
  derived-alike atom true = alike-itself (atom ∷ [])
  derived-alike atom false = alike-itself (atom ∷ [])

  facts-demanded : (part : Part) (fact : Fact) (live : List (List Value)) → Alike (map (stood_for symbols) (kind_named (kinds.Facts fact) live)) (demanded_atoms (map (fact_demand symbols part fact) live))
  facts-demanded part fact [] = alike-itself []
  facts-demanded part fact (row ∷ more) = alike-both (derived-alike (theories.fact_atom symbols fact row) (nat_lt 0 fact.after)) (facts-demanded part fact more)

  pub kind-demanded : (part : Part) (kind : Kind) (live : List (List Value)) → Alike (map (stood_for symbols) (kind_named kind live)) (demanded_atoms (kind_demands symbols part kind live))
  kind-demanded part (kinds.Rule head body) live = rule-demanded part head body live
  kind-demanded part (kinds.Facts fact) live = facts-demanded part fact live
  kind-demanded part (kinds.Const name value) live = alike-itself []
  kind-demanded part (kinds.Show shown) live = alike-itself []

  pub statements-demanded : (statements : List Statement) (live : List (List (List Value))) → Alike (map (stood_for symbols) (named_atoms statements live)) (demanded_atoms (statement_demands symbols statements live))
  statements-demanded [] live = alike-itself []
  statements-demanded (statement ∷ more) [] = alike-itself []
  statements-demanded (statement ∷ more) (live ∷ later) =
      alike-then (alike-is (map-append (stood_for symbols) (kind_named statement.kind live) (named_atoms more later)))
      (alike-then (alike-both (kind-demanded statement.part statement.kind live) (statements-demanded more later))
      (alike-is (sym (flat_map-append (λ (demand : DemandOver TermAtom). formula_atoms demand.formula) (kind_demands symbols statement.part statement.kind live) (statement_demands symbols more later)))))

pub named-demanded : (program : Program) (live : List (List (List Value))) (atom : TermAtom)
    → In atom (map (stood_for program.symbols) (named_atoms program.statements live)) ↔ In atom (demanded_atoms (instance_demands program live))
named-demanded program live atom = (statements-demanded program.symbols program.statements live).same atom

-- ---- the atoms of a rule as templates take them

layer-same : (layer : Formula-F (List Atom)) → layer_atoms layer ≡ below.layer_value (λ (atom : Atom). atom ∷ []) (λ op (lists : List (List Atom)). built.joined_atoms lists) layer
layer-same (layers.Const op) = refl
layer-same (layers.Atom atom) = refl
layer-same (layers.Unary op inner) = sym (append-nil inner)
layer-same (layers.Binary op left right) = ap (λ (atoms : List Atom). left ++ atoms) (sym (append-nil right))
layer-same (layers.Many op operands) = refl

formula-same : (formula : read.Formula) → collected.formula_atoms formula ≡ built.formula_atoms formula
formula-same formula = ap (λ (f : Formula-F (List Atom) → List Atom). fold-Formula (List Atom) f formula) (λ i layer. layer-same layer i)

item-same : (item : LitItem) → item_atoms item ≡ built.item_atoms item
item-same (items.Atom atom) = refl
item-same (items.Tel formula) = formula-same formula
item-same (items.Compare relation left right) = refl

body-same : (body : List Literal) → flat_map literal_atoms body ≡ flat_map built.literal_atoms body
body-same [] = refl
body-same (literal ∷ more) = ap₂ (λ (xs ys : List Atom). xs ++ ys) (item-same literal.item) (body-same more)

head-same : (head : Head) → head_atoms head ≡ built.head_atoms head
head-same (heads.Normal atom) = refl
head-same (heads.Choice atom) = refl
head-same heads.None = refl

pub rule_atoms-same : (head : Head) (body : List Literal) → rule_atoms head body ≡ built.rule_atoms head body
rule_atoms-same head body = ap₂ (λ (xs ys : List Atom). xs ++ ys) (head-same head) (body-same body)
