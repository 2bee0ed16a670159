-- What the instances of a program demand over the numbers of its atoms, one by one and in a row.
use Rattle.std.proofs.Common.{◌≡◌, ℕ, ◌+◌, Bool, true, false, List, [], ◌∷◌, ◌++◌, map, refl, sym, ap, ◌∙◌, subst, ⊎_elim}
use Rattle.std.specs.Prelude.{nat_lt}
use Rattle.std.specs.List.{list_all}
use Rattle.std.proofs.lemmas.Bool.{and_parts}
use Rattle.std.proofs.lemmas.List.{map-append}
use Rattle.tel_base.specs.Members.{In}
use Rattle.tel_term.specs.declared.terms.Term.{Term}
use Rattle.tel_term.specs.declared.terms.Value.{Value}
use Rattle.tel_rule.specs.declared.parts.Part.{Part}
use Rattle.tel_rule.specs.declared.formulas.Atom.{Atom}
use Rattle.tel_rule.specs.declared.statements.Fact.{Fact}
use Rattle.tel_rule.specs.declared.statements.Head.{Head}
use Rattle.tel_rule.specs.declared.statements.Literal.{Literal}
use Rattle.tel_rule.specs.declared.statements.Kind.{Kind}
use Rattle.tel_rule.specs.declared.statements.Kind.TheVariants as kinds
use Rattle.tel_rule.specs.declared.statements.Statement.{Statement}
use Rattle.tel_rule.specs.declared.ground.Instance.{Instance}
use Rattle.tel_semantics.specs.Formula as formulas
use Rattle.tel_semantics.specs.Formula.{FormulaOver, Formula}
use Rattle.tel_semantics.specs.Theory.{DemandOver, Demand, demand_of, derived_formula}
use Rattle.instance_build.specs.Instances.{Numbered, in_row, ground_rule}
use Rattle.instance_build.specs.Laws.{Demands, have_few_nots, InstancesMeanRules, RowsMeanInstances}
use Rattle.theory_lists.specs.Atoms.{TermAtom}
use Rattle.theory_lists.specs.Renaming.{renamed, renamed_demand}
use Rattle.program_theory.specs.Theory.{atom_under, fact_atom, derived, rule_demand, fact_demand, kind_demands, statement_demands}
use Rattle.program_theory.specs.Templates.{number_among, ground_fact, ground_kind, ground_statements, has_few_nots}
use Rattle.program_theory.proofs.Renamed.{renamed-rule}

-- ---- a row of instances, and what they demand

abbrev pub Each : List (Numbered Instance) → List Demand → Type 0
Each [] [] = Unit {0}
Each (made ∷ more) (demand ∷ later) = Demands made demand × Each more later
Each some demands = ⊥

each_more : (some more : List (Numbered Instance)) (demands later : List Demand) → Each some demands → Each more later → Each (some ++ more) (demands ++ later)
each_more [] more [] later each rest = rest
each_more [] more (demand ∷ demands) later each rest = absurd each
each_more (made ∷ some) more [] later each rest = absurd each
each_more (made ∷ some) more (demand ∷ demands) later each rest = (each.0, each_more some more demands later each.1 rest)

each_map : {X Y : Type 0} (made : X → Numbered Instance) (demand : X → Y) (say : Y → Demand) (xs : List X) → ((x : X) → Demands (made x) (say (demand x))) → Each (map made xs) (map say (map demand xs))
each_map made demand say [] all = tt {0}
each_map made demand say (x ∷ xs) all = (all x, each_map made demand say xs all)

-- the row with what each of it demands beside it
record Beside (some : List (Numbered Instance)) (demands : List Demand) : Type 0 where
  row : List (Numbered Instance × Demand)
  made : map (λ one. one.0) row ≡ some
  said : map (λ one. one.1) row ≡ demands
  each : (one : Numbered Instance × Demand) → In one row → Demands one.0 one.1

beside : (some : List (Numbered Instance)) (demands : List Demand) → Each some demands → Beside some demands
beside [] [] each = record { row = []; made = refl; said = refl; each = λ one found. absurd found }
beside [] (demand ∷ later) each = absurd each
beside (made ∷ more) [] each = absurd each
beside (made ∷ more) (demand ∷ later) each =
    let rest = beside more later each.1 in
    record {
      row = (made, demand) ∷ rest.row;
      made = ap (λ (all : List (Numbered Instance)). made ∷ all) rest.made;
      said = ap (λ (all : List Demand). demand ∷ all) rest.said;
      each = λ one found. ⊎_elim (λ (same : (made, demand) ≡ one). subst (λ (other : Numbered Instance × Demand). Demands other.0 other.1) same each.0) (λ (there : In one rest.row). rest.each one there) found;
    }

pub row_demands : RowsMeanInstances → (some : List (Numbered Instance)) (demands : List Demand) → Each some demands → map (demand_of (in_row some 0).1) (in_row some 0).0 ≡ demands
row_demands rows some demands each =
    let all = beside some demands each in
    subst (λ (list : List (Numbered Instance)). map (demand_of (in_row list 0).1) (in_row list 0).0 ≡ demands) all.made (rows all.row all.each ∙ all.said)

-- ---- the instances of a program

module _ (mean : InstancesMeanRules) (symbols : List Term) (atoms : List TermAtom) where
  abbrev said : DemandOver TermAtom → Demand
  said demand = renamed_demand (number_among atoms) demand

  rule_demands : (number : ℕ) (part : Part) (head : Head) (body : List Literal) (binding : List Value) → have_few_nots body ≡ true
      → Demands (ground_rule (λ (atom : Atom). number_among atoms (atom_under symbols binding atom)) number part head body) (said (rule_demand symbols part head body binding))
  rule_demands number part head body binding few nodes first placed =
      mean (λ (atom : Atom). number_among atoms (atom_under symbols binding atom)) number part head body few nodes first placed
      ∙ ap (λ (formula : Formula). record { part = part; formula = formula }) (sym (renamed-rule (number_among atoms) (atom_under symbols binding) head body))

  timed : (late : Bool) (atom : TermAtom) → derived_formula (number_among atoms atom) late ≡ renamed (number_among atoms) (derived atom late)
  timed true atom = refl
  timed false atom = refl

  fact_demands : (number : ℕ) (part : Part) (fact : Fact) (row : List Value) → Demands (ground_fact symbols atoms number part fact row) (said (fact_demand symbols part fact row))
  fact_demands number part fact row nodes first placed =
      ap (λ (formula : Formula). record { part = part; formula = formulas.Arrow formulas.True formula }) (timed (nat_lt 0 fact.after) (fact_atom symbols fact row))

  kind_says : (number : ℕ) (part : Part) (kind : Kind) (live : List (List Value)) → has_few_nots kind ≡ true → Each (ground_kind symbols atoms number part kind live) (map said (kind_demands symbols part kind live))
  kind_says number part (kinds.Rule head body) live few =
      each_map (λ binding. ground_rule (λ (atom : Atom). number_among atoms (atom_under symbols binding atom)) number part head body) (rule_demand symbols part head body) said live (λ binding. rule_demands number part head body binding few)
  kind_says number part (kinds.Facts fact) live few = each_map (ground_fact symbols atoms number part fact) (fact_demand symbols part fact) said live (fact_demands number part fact)
  kind_says number part (kinds.Const name value) live few = tt {0}
  kind_says number part (kinds.Show shown) live few = tt {0}

  pub statements_say : (number : ℕ) (statements : List Statement) (live : List (List (List Value))) → list_all (λ (statement : Statement). has_few_nots statement.kind) statements ≡ true
      → Each (ground_statements symbols atoms number statements live) (map said (statement_demands symbols statements live))
  statements_say number [] live few = tt {0}
  statements_say number (statement ∷ more) [] few = tt {0}
  statements_say number (statement ∷ more) (live ∷ later) few =
      let both = and_parts (has_few_nots statement.kind) (list_all (λ (other : Statement). has_few_nots other.kind) more) few in
      let here = kind_demands symbols statement.part statement.kind live in
      let rest = statement_demands symbols more later in
      subst (Each (ground_kind symbols atoms number statement.part statement.kind live ++ ground_statements symbols atoms (number + 1) more later)) (sym (map-append said here rest))
      (each_more (ground_kind symbols atoms number statement.part statement.kind live) (ground_statements symbols atoms (number + 1) more later) (map said here) (map said rest)
      (kind_says number statement.part statement.kind live both.0) (statements_say (number + 1) more later both.1))
