-- How many instances and nodes the template of a program has.
use Rattle.std.proofs.Common.{◌≡◌, ℕ, suc, ◌+◌, ◌*◌, Bool, true, false, cond, List, [], ◌∷◌, ◌++◌, length, map, refl, sym, ap, ap₂, ◌∙◌, arith}
use Rattle.std.specs.Prelude.{nat_lt, nat_le, ◌==◌}
use Rattle.std.specs.List.{sum, sum_by}
use Rattle.std.proofs.lemmas.List.{length-append, length-map}
use Rattle.std.proofs.lemmas.List.Sums.{sum_by-cons}
use Rattle.tel_term.specs.declared.terms.Term.{Term}
use Rattle.tel_term.specs.declared.terms.Value.{Value}
use Rattle.tel_rule.specs.declared.parts.Part.{Part}
use Rattle.tel_rule.specs.declared.formulas.Atom.{Atom}
use Rattle.tel_rule.specs.declared.formulas.Formula.{Formula}
use Rattle.tel_rule.specs.declared.formulas.UnaryOp.TheVariants as unary
use Rattle.tel_rule.specs.declared.statements.LitItem.{LitItem}
use Rattle.tel_rule.specs.declared.statements.LitItem.TheVariants as items
use Rattle.tel_rule.specs.declared.statements.Literal.{Literal}
use Rattle.tel_rule.specs.declared.statements.Kind.{Kind}
use Rattle.tel_rule.specs.declared.statements.Kind.TheVariants as kinds
use Rattle.tel_rule.specs.declared.statements.Statement.{Statement}
use Rattle.tel_rule.specs.declared.nodes.NodeOp.{NodeOp}
use Rattle.tel_rule.specs.declared.nodes.NodeOp.TheVariants as ops
use Rattle.tel_rule.specs.declared.nodes.Kid.{Kid}
use Rattle.instance_build.specs.Instances.{Numbered, in_row, atom_kid, node_over, grown, once, atom_grown, not_node, twice, ground_literal, ground_body, ground_rule}
use Rattle.instance_build.proofs.FormulaLayers.{by_operands, value-const, value-atom, value-unary, value-binary, value-many}
use Rattle.theory_lists.specs.Atoms.{TermAtom}
use Rattle.theory_lists.specs.Theories.{atoms_over}
use Rattle.program_theory.specs.Instances.{KindHasInstances, HaveInstances, instance_count, operator_count, item_operators, nots_operators, literal_nodes, kind_nodes, node_count}
use Rattle.program_theory.specs.Theory.{atom_under}
use Rattle.program_theory.specs.Templates.{number_among, ground_fact, ground_kind, ground_statements}
use Rattle.program_theory.specs.Laws.{TemplatesAreCounted}

-- ---- rows

-- so many nodes, wherever they are numbered from
abbrev HasNodes : {X : Type 0} → Numbered X → ℕ → Type 0
HasNodes made count = (first : ℕ) → length (made first).1 ≡ count

row_length : {X : Type 0} (some : List (Numbered X)) (first : ℕ) → length (in_row some first).0 ≡ length some
row_length [] first = refl
row_length (made ∷ more) first = ap suc (row_length more (first + length (made first).1))

row_more : {X : Type 0} (some more : List (Numbered X)) (count : ℕ) → HasNodes (in_row more) count → (first : ℕ) → length (in_row (some ++ more) first).1 ≡ length (in_row some first).1 + count
row_more [] more count has first = has first ∙ omega arith
row_more (made ∷ some) more count has first =
    let here = (made first).1 in
    let next = first + length here in
    let rest = row_more some more count has next in
    length-append here (in_row (some ++ more) next).1
    ∙ omega (arith, rest, length-append here (in_row some next).1)

row_alike : {X Y : Type 0} (made : Y → Numbered X) (count : ℕ) (ys : List Y) → ((y : Y) → HasNodes (made y) count) → HasNodes (in_row (map made ys)) (length ys * count)
row_alike made count [] has first = omega arith
row_alike made count (y ∷ ys) has first =
    let next = first + length (made y first).1 in
    length-append (made y first).1 (in_row (map made ys) next).1
    ∙ ap₂ (λ (m n : ℕ). m + n) (has y first) (row_alike made count ys has next)
    ∙ count_more count (length ys)
  where
    count_more : (m n : ℕ) → m + n * m ≡ suc n * m
    count_more m n = omega arith

-- ---- formulas

abbrev IsCounted : (Atom → ℕ) → Formula → Type 0
IsCounted number formula = HasNodes (grown number formula) (operator_count formula)

each_counted : (number : Atom → ℕ) (es : List ((formula : Formula) × IsCounted number formula)) → HasNodes (in_row (map (grown number) (map (λ e. e.0) es))) (sum (map operator_count (map (λ e. e.0) es)))
each_counted number [] first = refl
each_counted number (e ∷ es) first =
    let next = first + length (grown number e.0 first).1 in
    length-append (grown number e.0 first).1 (in_row (map (grown number) (map (λ d. d.0) es)) next).1
    ∙ ap₂ (λ (m n : ℕ). m + n) (e.1 first) (each_counted number es next)
    ∙ sym (sum_by-cons (λ (n : ℕ). n) (operator_count e.0) (map operator_count (map (λ d. d.0) es)))

over_kids : (op : NodeOp) (kids : List (Numbered Kid)) (count : ℕ) → HasNodes (in_row kids) count → HasNodes (node_over op kids) (1 + count)
over_kids op kids count has first = ap suc (has (first + 1)) ∙ omega arith

counted_as : (g h : Numbered Kid) (m n : ℕ) → g ≡ h → m ≡ n → HasNodes h n → HasNodes g m
counted_as g h m n same too has first = ap (λ (made : Numbered Kid). length (made first).1) same ∙ has first ∙ sym too

abbrev pub below_sum : NodeOp → List ℕ → ℕ
below_sum op below = 1 + sum below

formula_counted : (number : Atom → ℕ) (formula : Formula) → IsCounted number formula
formula_counted number = by_operands (IsCounted number) (record {
  const = λ op. counted_as _ _ _ _ (value-const (λ atom. atom_kid (number atom)) node_over op) (value-const (λ atom. 0) below_sum op) (over_kids (ops.Const op) [] 0 (λ first. refl));
  atom = λ atom. counted_as _ _ _ _ (value-atom (λ other. atom_kid (number other)) node_over atom) (value-atom (λ other. 0) below_sum atom) (λ first. refl);
  unary = λ op f is. counted_as _ _ _ _ (value-unary (λ atom. atom_kid (number atom)) node_over op f) (value-unary (λ atom. 0) below_sum op f)
      (over_kids (ops.Unary op) (grown number f ∷ []) (sum (operator_count f ∷ [])) (each_counted number ((f, is) ∷ [])));
  binary = λ op f g left right. counted_as _ _ _ _ (value-binary (λ atom. atom_kid (number atom)) node_over op f g) (value-binary (λ atom. 0) below_sum op f g)
      (over_kids (ops.Binary op) (grown number f ∷ grown number g ∷ []) (sum (operator_count f ∷ operator_count g ∷ [])) (each_counted number ((f, left) ∷ (g, right) ∷ [])));
  many = λ op es. counted_as _ _ _ _ (value-many (λ atom. atom_kid (number atom)) node_over op (map (λ e. e.0) es)) (value-many (λ atom. 0) below_sum op (map (λ e. e.0) es))
      (over_kids (ops.Many op) (map (grown number) (map (λ e. e.0) es)) (sum (map operator_count (map (λ e. e.0) es))) (each_counted number es));
})

-- ---- literals

once_counted : (number : Atom → ℕ) (positive : Bool) (item : LitItem) → HasNodes (once number positive item) (item_operators item + 0)
once_counted number positive (items.Atom atom) first = refl
once_counted number positive (items.Tel formula) first = formula_counted number formula first ∙ omega arith
once_counted number positive (items.Compare relation left right) first = refl

not_counted : (child : Numbered Kid) (count : ℕ) → HasNodes child count → HasNodes (not_node child) (suc count)
not_counted child count has first = ap suc (length-append (child (first + 1)).1 [] ∙ has_none (length (child (first + 1)).1) count (has (first + 1)))
  where
    has_none : (m n : ℕ) → m ≡ n → m + 0 ≡ n
    has_none m n same = omega (arith, same)

atom_counted : (number : Atom → ℕ) (atom : Atom) → HasNodes (atom_grown number atom) (cond (nat_lt 0 atom.before) 1 0)
atom_counted number atom first =
    elim (nat_lt 0 atom.before) as (λ b. length (cond b (node_over (ops.Unary unary.Previous) (atom_kid (number atom) ∷ [])) (atom_kid (number atom)) first).1 ≡ cond b 1 0) [
      | true ↦ refl
      | false ↦ refl
    ]

nots_more : (late : Bool) → suc (cond late 1 0) ≡ 0 + cond late 2 1
nots_more true = refl
nots_more false = refl

twice_counted : (number : Atom → ℕ) (item : LitItem) → HasNodes (twice number item) (item_operators item + nots_operators item)
twice_counted number (items.Atom atom) first = not_counted (atom_grown number atom) (cond (nat_lt 0 atom.before) 1 0) (atom_counted number atom) first ∙ nots_more (nat_lt 0 atom.before)
twice_counted number (items.Tel formula) first = not_counted (grown number formula) (operator_count formula) (formula_counted number formula) first ∙ omega arith
twice_counted number (items.Compare relation left right) first = refl

literal_counted : (number : Atom → ℕ) (literal : Literal) → HasNodes (ground_literal number literal) (literal_nodes literal)
literal_counted number literal first =
    elim (nat_le literal.nots 1) as (λ b. length (cond b (once number (literal.nots == 0) literal.item first) (twice number literal.item first)).1 ≡ item_operators literal.item + cond b 0 (nots_operators literal.item)) [
      | true ↦ once_counted number (literal.nots == 0) literal.item first
      | false ↦ twice_counted number literal.item first
    ]

body_counted : (number : Atom → ℕ) (body : List Literal) → HasNodes (ground_body number body) (sum_by literal_nodes body)
body_counted number [] first = refl
body_counted number (literal ∷ more) first =
    let here = (ground_literal number literal first).1 in
    let next = first + length here in
    length-append here (ground_body number more next).1
    ∙ ap₂ (λ (m n : ℕ). m + n) (literal_counted number literal first) (body_counted number more next)
    ∙ sym (sum_by-cons literal_nodes literal more)

-- ---- statements

module _ (symbols : List Term) (atoms : List TermAtom) where
  kind_counted : (number : ℕ) (part : Part) (kind : Kind) (live : List (List Value)) → HasNodes (in_row (ground_kind symbols atoms number part kind live)) (length live * kind_nodes kind)
  kind_counted number part (kinds.Rule head body) live first =
      row_alike (λ binding. ground_rule (λ (atom : Atom). number_among atoms (atom_under symbols binding atom)) number part head body) (sum_by literal_nodes body) live
      (λ binding. body_counted (λ (atom : Atom). number_among atoms (atom_under symbols binding atom)) body) first
  kind_counted number part (kinds.Facts fact) live first = row_alike (ground_fact symbols atoms number part fact) 0 live (λ row next. refl) first
  kind_counted number part (kinds.Const name value) live first = omega arith
  kind_counted number part (kinds.Show shown) live first = omega arith

  statements_counted : (number : ℕ) (statements : List Statement) (live : List (List (List Value))) → HasNodes (in_row (ground_statements symbols atoms number statements live)) (node_count statements live)
  statements_counted number [] live first = refl
  statements_counted number (statement ∷ more) [] first = refl
  statements_counted number (statement ∷ more) (live ∷ later) first =
      let here = ground_kind symbols atoms number statement.part statement.kind live in
      row_more here (ground_statements symbols atoms (number + 1) more later) (node_count more later) (statements_counted (number + 1) more later) first
      ∙ ap (λ (m : ℕ). m + node_count more later) (kind_counted number statement.part statement.kind live first)

  kind_length : (statements : List Statement) (count number : ℕ) (part : Part) (kind : Kind) (live : List (List Value)) → KindHasInstances statements symbols count kind live → length (ground_kind symbols atoms number part kind live) ≡ length live
  kind_length statements count number part (kinds.Rule head body) live are =
      length-map live (λ binding. ground_rule (λ (atom : Atom). number_among atoms (atom_under symbols binding atom)) number part head body)
  kind_length statements count number part (kinds.Facts fact) live are = length-map live (ground_fact symbols atoms number part fact)
  kind_length statements count number part (kinds.Const name value) live are = ap length (sym are)
  kind_length statements count number part (kinds.Show shown) live are = ap length (sym are)

  statements_length : (all : List Statement) (number : ℕ) (statements : List Statement) (live : List (List (List Value))) → HaveInstances all symbols statements live → length (ground_statements symbols atoms number statements live) ≡ instance_count live
  statements_length all number [] [] are = refl
  statements_length all number [] (live ∷ later) are = absurd are
  statements_length all number (statement ∷ more) [] are = absurd are
  statements_length all number (statement ∷ more) (live ∷ later) are =
      length-append (ground_kind symbols atoms number statement.part statement.kind live) (ground_statements symbols atoms (number + 1) more later)
      ∙ ap₂ (λ (m n : ℕ). m + n) (kind_length all (length statement.vars) number statement.part statement.kind live are.0) (statements_length all (number + 1) more later are.1)
      ∙ sym (sum_by-cons length live later)

pub templates-counted : TemplatesAreCounted
templates-counted program live template is =
    let atoms = atoms_over template in
    let row = ground_statements program.symbols atoms 0 program.statements live in (
      ap length is.instances ∙ row_length row 0 ∙ statements_length program.symbols atoms program.statements 0 program.statements live is.instances_are,
      ap length is.nodes ∙ statements_counted program.symbols atoms 0 program.statements live 0,
    )
