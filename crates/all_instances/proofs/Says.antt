-- What the theory of a program demands: what its live instances say, and the pairs of its atoms.
use Rattle.std.proofs.Common.{◌≡◌, ◌⊎◌, inl, inr, ℕ, Bool, true, false, not, ◌&&◌, List, [], ◌∷◌, map, length, refl, sym, ap, subst, ⊎_elim}
use Rattle.std.specs.Prelude.{if◌then◌else◌, IsTrue, IsFalse}
use Rattle.std.specs.List.{flat_map, list_all, list_any}
use Rattle.std.proofs.lemmas.Bool.{and_parts, and_from}
use Rattle.tel_base.specs.Members.{In}
use Rattle.tel_base.proofs.Members.{In-append_left, In-append_right, In-append_cases, In-map, In-map_from, In-flat_map, In-flat_map_from, any_found, any_from}
use Rattle.tel_term.specs.declared.terms.Term.{Term}
use Rattle.tel_term.specs.declared.terms.Value.{Value}
use Rattle.tel_rule.specs.declared.parts.Part.{Part}
use Rattle.tel_rule.specs.declared.statements.Kind.{Kind}
use Rattle.tel_rule.specs.declared.statements.Kind.TheVariants as kinds
use Rattle.tel_rule.specs.declared.statements.Statement.{Statement}
use Rattle.tel_rule.specs.declared.statements.Program.{Program}
use Rattle.tel_semantics.specs.Tables.{tuple_rows}
use Rattle.tel_semantics.specs.Theory.{DemandOver}
use Rattle.live_instances.specs.Bindings.{is_binding}
use Rattle.live_instances.specs.Instances.{makes_instance, table_atoms, atom_is_row, is_live}
use Rattle.theory_lists.specs.Atoms.{TermAtom, same_atom, negative_of}
use Rattle.theory_lists.specs.Theories.{ProgramTheory}
use Rattle.theory_lists.proofs.AtomOrder.{atoms-one}
use Rattle.program_theory.specs.Instances.{KindHasInstances, HaveInstances}
use Rattle.program_theory.specs.Theory.{rule_demand, fact_demand, kind_demands, statement_demands, formula_atoms, pair_demands, IsTheoryOf}
use Rattle.all_instances.specs.AllInstances.{KindSays, InstanceSays, IsSpokenOf, apart, PairSays}

abbrev pub Demand : Type 0
Demand = DemandOver TermAtom

-- ---- what live instances say

-- one live instance of a statement demands this
abbrev pub LiveKindSays : List Statement → List Term → ℕ → Part → Kind → Demand → Type 0
LiveKindSays statements symbols count part (kinds.Rule head body) demand =
    (binding : List Value) × IsTrue (is_binding symbols count binding) × IsTrue (is_live statements symbols head body binding) × (demand ≡ rule_demand symbols part head body binding)
LiveKindSays statements symbols count part (kinds.Facts fact) demand = (row : List Value) × In row (flat_map tuple_rows fact.tuples) × (demand ≡ fact_demand symbols part fact row)
LiveKindSays statements symbols count part (kinds.Const name value) demand = ⊥
LiveKindSays statements symbols count part (kinds.Show shown) demand = ⊥

-- a live instance of one of these statements of a program
abbrev pub LiveSays : List Statement → List Term → List Statement → Demand → Type 0
LiveSays statements symbols some demand = (statement : Statement) × In statement some × LiveKindSays statements symbols (length statement.vars) statement.part statement.kind demand

live_makes : (statements : List Statement) (symbols : List Term) (count : ℕ) (part : Part) (kind : Kind) (demand : Demand) → LiveKindSays statements symbols count part kind demand → KindSays symbols count part kind demand
live_makes statements symbols count part (kinds.Rule head body) demand says =
    (says.0, says.1, (and_parts (makes_instance symbols head body says.0) (list_all (atom_is_row statements says.0) (table_atoms statements body)) says.2).0, says.3)
live_makes statements symbols count part (kinds.Facts fact) demand says = says
live_makes statements symbols count part (kinds.Const name value) demand says = absurd says
live_makes statements symbols count part (kinds.Show shown) demand says = absurd says

-- ---- the list of what they demand

kind_from : (statements : List Statement) (symbols : List Term) (count : ℕ) (part : Part) (kind : Kind) (live : List (List Value)) (demand : Demand) → KindHasInstances statements symbols count kind live
    → In demand (kind_demands symbols part kind live) → LiveKindSays statements symbols count part kind demand
kind_from statements symbols count part (kinds.Rule head body) live demand are there =
    let from = In-map_from (rule_demand symbols part head body) demand live there in
    let both = (are.members from.0).0 from.1 in
    (from.0, both.0, both.1, sym from.2)
kind_from statements symbols count part (kinds.Facts fact) live demand are there =
    let from = In-map_from (fact_demand symbols part fact) demand live there in
    (from.0, subst (λ (rows : List (List Value)). In from.0 rows) are from.1, sym from.2)
kind_from statements symbols count part (kinds.Const name value) live demand are there = absurd there
kind_from statements symbols count part (kinds.Show shown) live demand are there = absurd there

kind_to : (statements : List Statement) (symbols : List Term) (count : ℕ) (part : Part) (kind : Kind) (live : List (List Value)) (demand : Demand) → KindHasInstances statements symbols count kind live
    → LiveKindSays statements symbols count part kind demand → In demand (kind_demands symbols part kind live)
kind_to statements symbols count part (kinds.Rule head body) live demand are says =
    subst (λ (d : Demand). In d (map (rule_demand symbols part head body) live)) (sym says.3)
    (In-map (rule_demand symbols part head body) says.0 live ((are.members says.0).1 (says.1, says.2)))
kind_to statements symbols count part (kinds.Facts fact) live demand are says =
    subst (λ (d : Demand). In d (map (fact_demand symbols part fact) live)) (sym says.2)
    (In-map (fact_demand symbols part fact) says.0 live (subst (λ (rows : List (List Value)). In says.0 rows) (sym are) says.1))
kind_to statements symbols count part (kinds.Const name value) live demand are says = absurd says
kind_to statements symbols count part (kinds.Show shown) live demand are says = absurd says

says_from : (statements : List Statement) (symbols : List Term) (some : List Statement) (live : List (List (List Value))) (demand : Demand) → HaveInstances statements symbols some live
    → In demand (statement_demands symbols some live) → LiveSays statements symbols some demand
says_from statements symbols [] live demand are there = absurd there
says_from statements symbols (statement ∷ more) [] demand are there = absurd there
says_from statements symbols (statement ∷ more) (live ∷ later) demand are there =
    ⊎_elim (λ (here : In demand (kind_demands symbols statement.part statement.kind live)).
    (statement, inl refl, kind_from statements symbols (length statement.vars) statement.part statement.kind live demand are.0 here))
    (λ (rest : In demand (statement_demands symbols more later)). let from = says_from statements symbols more later demand are.1 rest in (from.0, inr from.1, from.2))
    (In-append_cases demand (kind_demands symbols statement.part statement.kind live) (statement_demands symbols more later) there)

says_to : (statements : List Statement) (symbols : List Term) (some : List Statement) (live : List (List (List Value))) (demand : Demand) → HaveInstances statements symbols some live
    → LiveSays statements symbols some demand → In demand (statement_demands symbols some live)
says_to statements symbols [] live demand are says = absurd says.1
says_to statements symbols (statement ∷ more) [] demand are says = absurd are
says_to statements symbols (statement ∷ more) (live ∷ later) demand are says =
    ⊎_elim (λ (same : statement ≡ says.0). In-append_left demand (kind_demands symbols statement.part statement.kind live) (statement_demands symbols more later)
    (kind_to statements symbols (length statement.vars) statement.part statement.kind live demand are.0
    (subst (λ (s : Statement). LiveKindSays statements symbols (length s.vars) s.part s.kind demand) (sym same) says.2)))
    (λ (found : In says.0 more). In-append_right demand (kind_demands symbols statement.part statement.kind live) (statement_demands symbols more later)
    (says_to statements symbols more later demand are.1 (says.0, found, says.2)))
    says.1

-- ---- pairs

-- a plain atom that is among these with its negative
pub record IsPairOf (atoms : List TermAtom) (demand : Demand) : Type 0 where
  pub atom : TermAtom
  pub plain : IsFalse atom.negative
  pub here : In atom atoms
  pub there : In (negative_of atom) atoms
  pub is : demand ≡ apart atom

pub atom_found : (atoms : List TermAtom) (atom : TermAtom) → list_any (same_atom atom) atoms ≡ true → In atom atoms
atom_found atoms atom some =
    let found = any_found (same_atom atom) atoms some in
    subst (λ (a : TermAtom). In a atoms) (sym ((atoms-one atom found.0).0 found.2)) found.1

pub atom_there : (atoms : List TermAtom) (atom : TermAtom) → In atom atoms → list_any (same_atom atom) atoms ≡ true
atom_there atoms atom there = any_from (same_atom atom) atoms atom there ((atoms-one atom atom).1 refl)

not_negative : (b : Bool) → not b ≡ true → b ≡ false
not_negative true is = sym is
not_negative false is = refl

in_if : (test : Bool) (one demand : Demand) → In demand (if test then one ∷ [] else []) → (test ≡ true) × (one ≡ demand)
in_if true one demand there = (refl, ⊎_elim (λ (same : one ≡ demand). same) (λ none. absurd none) there)
in_if false one demand there = absurd there

pairs_from : (atoms : List TermAtom) (demand : Demand) → In demand (flat_map (pair_demands atoms) atoms) → IsPairOf atoms demand
pairs_from atoms demand there =
    let from = In-flat_map_from (pair_demands atoms) demand atoms there in
    let atom = from.0 in
    let is = in_if (not atom.negative && list_any (same_atom (negative_of atom)) atoms) (apart atom) demand from.2 in
    let both = and_parts (not atom.negative) (list_any (same_atom (negative_of atom)) atoms) is.0 in
    record { atom = atom; plain = not_negative atom.negative both.0; here = from.1; there = atom_found atoms (negative_of atom) both.1; is = sym is.1 }

pairs_to : (atoms : List TermAtom) (demand : Demand) → IsPairOf atoms demand → In demand (flat_map (pair_demands atoms) atoms)
pairs_to atoms demand pair =
    let atom = pair.atom in
    let both : (not atom.negative && list_any (same_atom (negative_of atom)) atoms) ≡ true =
    and_from (not atom.negative) (list_any (same_atom (negative_of atom)) atoms) (ap not pair.plain) (atom_there atoms (negative_of atom) pair.there) in
    subst (λ (d : Demand). In d (flat_map (pair_demands atoms) atoms)) (sym pair.is)
    (In-flat_map (pair_demands atoms) atom (apart atom) atoms pair.here
    (subst (λ (test : Bool). In (apart atom) (if test then apart atom ∷ [] else [])) (sym both) (inl refl)))

-- ---- the theory

module _ (program : Program) (live : List (List (List Value))) (theory : ProgramTheory) (is : IsTheoryOf program live theory) where
  pub demand_from : (demand : Demand) → In demand theory.demands → LiveSays program.statements program.symbols program.statements demand ⊎ IsPairOf theory.atoms demand
  demand_from demand there =
      let said = statement_demands program.symbols program.statements live in
      let pairs = flat_map (pair_demands theory.atoms) theory.atoms in
      ⊎_elim (λ (one : In demand said). inl (says_from program.statements program.symbols program.statements live demand is.instances one))
      (λ (pair : In demand pairs). inr (pairs_from theory.atoms demand pair))
      (In-append_cases demand said pairs (subst (λ (demands : List Demand). In demand demands) is.demands there))

  pub demand_live : (demand : Demand) → LiveSays program.statements program.symbols program.statements demand → In demand theory.demands
  demand_live demand says =
      let said = statement_demands program.symbols program.statements live in
      let pairs = flat_map (pair_demands theory.atoms) theory.atoms in
      subst (λ (demands : List Demand). In demand demands) (sym is.demands)
      (In-append_left demand said pairs (says_to program.statements program.symbols program.statements live demand is.instances says))

  pub demand_pair : (demand : Demand) → IsPairOf theory.atoms demand → In demand theory.demands
  demand_pair demand pair =
      let said = statement_demands program.symbols program.statements live in
      let pairs = flat_map (pair_demands theory.atoms) theory.atoms in
      subst (λ (demands : List Demand). In demand demands) (sym is.demands) (In-append_right demand said pairs (pairs_to theory.atoms demand pair))

  -- the atoms of what a live instance demands are those of the theory
  pub atom_of_live : (demand : Demand) (atom : TermAtom) → LiveSays program.statements program.symbols program.statements demand → In atom (formula_atoms demand.formula) → In atom theory.atoms
  atom_of_live demand atom says there =
      let said = statement_demands program.symbols program.statements live in
      (is.atoms atom).1 (In-flat_map (λ (d : Demand). formula_atoms d.formula) demand atom said (says_to program.statements program.symbols program.statements live demand is.instances says) there)

  pub live_is_instance : (demand : Demand) → LiveSays program.statements program.symbols program.statements demand → InstanceSays program demand
  live_is_instance demand says =
      (says.0, says.1, live_makes program.statements program.symbols (length says.0.vars) says.0.part says.0.kind demand says.2)

  spoken : (atom : TermAtom) → In atom theory.atoms → IsSpokenOf program atom
  spoken atom there =
      let said = statement_demands program.symbols program.statements live in
      let from = In-flat_map_from (λ (d : Demand). formula_atoms d.formula) atom said ((is.atoms atom).0 there) in
      (from.0, live_is_instance from.0 (says_from program.statements program.symbols program.statements live from.0 is.instances from.1), from.2)

  pub pair_of_all : (demand : Demand) → IsPairOf theory.atoms demand → PairSays program demand
  pair_of_all demand pair = (pair.atom, pair.plain, spoken pair.atom pair.here, spoken (negative_of pair.atom) pair.there, pair.is)
