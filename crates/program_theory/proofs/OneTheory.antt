-- A program has one list of live instances, and one theory.
use Rattle.std.proofs.Common.{◌≡◌, ℕ, List, [], ◌∷◌, ◌++◌, refl, sym, ap, ap₂, ◌∙◌, subst, length}
use Rattle.std.specs.List.{flat_map}
use Rattle.tel_term.specs.declared.terms.Term.{Term}
use Rattle.tel_term.specs.declared.terms.Value.{Value}
use Rattle.tel_rule.specs.declared.statements.Kind.{Kind}
use Rattle.tel_rule.specs.declared.statements.Kind.TheVariants as kinds
use Rattle.tel_rule.specs.declared.statements.Statement.{Statement}
use Rattle.tel_rule.specs.declared.statements.Program.{Program}
use Rattle.live_instances.proofs.OneList.{rising_one, live-one}
use Rattle.theory_lists.specs.Atoms.{TermAtom, term_atom_cmp}
use Rattle.theory_lists.specs.Theories.{ProgramTheory}
use Rattle.theory_lists.proofs.AtomOrder.{atoms-total}
use Rattle.program_theory.specs.Instances.{KindHasInstances, HaveInstances}
use Rattle.program_theory.specs.Theory.{IsTheoryOf, statement_demands, pair_demands}
use Rattle.program_theory.specs.Laws.{TheoriesAreOne}

one_kind : (statements : List Statement) (symbols : List Term) (count : ℕ) (kind : Kind) (a b : List (List Value)) → KindHasInstances statements symbols count kind a → KindHasInstances statements symbols count kind b → a ≡ b
one_kind statements symbols count (kinds.Rule head body) a b is_a is_b = live-one statements symbols count head body a b is_a is_b
one_kind statements symbols count (kinds.Facts fact) a b is_a is_b = is_a ∙ sym is_b
one_kind statements symbols count (kinds.Const name value) a b is_a is_b = is_a ∙ sym is_b
one_kind statements symbols count (kinds.Show shown) a b is_a is_b = is_a ∙ sym is_b

one_each : (statements : List Statement) (symbols : List Term) (some : List Statement) (a b : List (List (List Value))) → HaveInstances statements symbols some a → HaveInstances statements symbols some b → a ≡ b
one_each statements symbols [] [] [] are_a are_b = refl
one_each statements symbols [] [] (live ∷ later) are_a are_b = absurd are_b
one_each statements symbols [] (live ∷ later) b are_a are_b = absurd are_a
one_each statements symbols (statement ∷ more) [] b are_a are_b = absurd are_a
one_each statements symbols (statement ∷ more) (live ∷ later) [] are_a are_b = absurd are_b
one_each statements symbols (statement ∷ more) (live ∷ later) (other ∷ others) are_a are_b =
    ap₂ (λ (first : List (List Value)) (rest : List (List (List Value))). first ∷ rest)
    (one_kind statements symbols (length statement.vars) statement.kind live other are_a.0 are_b.0) (one_each statements symbols more later others are_a.1 are_b.1)

same_theory : (program : Program) (live : List (List (List Value))) (here there : ProgramTheory) → IsTheoryOf program live here → IsTheoryOf program live there → here ≡ there
same_theory program live here there is_here is_there =
    let atoms : here.atoms ≡ there.atoms = rising_one term_atom_cmp atoms-total here.atoms there.atoms is_here.rise is_there.rise
    (λ atom. (λ found. (is_there.atoms atom).1 ((is_here.atoms atom).0 found), λ found. (is_here.atoms atom).1 ((is_there.atoms atom).0 found))) in
    let demands : here.demands ≡ there.demands = is_here.demands
    ∙ ap (λ (list : List TermAtom). statement_demands program.symbols program.statements live ++ flat_map (pair_demands list) list) atoms
    ∙ sym is_there.demands in
    let shown : here.shown ≡ there.shown = is_here.shown ∙ sym is_there.shown in
    λ i. record { atoms = atoms i; demands = demands i; shown = shown i }

pub theories-one : TheoriesAreOne
theories-one program a b here there is_here is_there =
    let same = one_each program.statements program.symbols program.statements a b is_here.instances is_there.instances in
    (same, same_theory program a here there is_here (subst (λ (live : List (List (List Value))). IsTheoryOf program live there) (sym same) is_there))
