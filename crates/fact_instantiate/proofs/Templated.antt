-- The instances over the numbers of named atoms are those of the template of a program.
use Rattle.std.proofs.Common.{◌≡◌, ℕ, ◌+◌, ◌<◌, Bool, true, false, cond, ◌&&◌, List, [], ◌∷◌, ◌++◌, length, map, nat_lt, Some, None, refl, sym, ap, ap₂, ◌∙◌, subst, ⊎_elim, inl, inr, arith}
use Rattle.std.specs.Prelude.{unwrap_or}
use Rattle.std.specs.List.{list_all}
use Rattle.std.proofs.lemmas.Bool.{and_parts, ltb-true, lt-ltb}
use Rattle.tel_base.proofs.Members.{In, In-append_left, In-append_right, In-append_cases, In-map, In-map_from, In-flat_map}
use Rattle.tel_term.specs.declared.terms.Term.{Term}
use Rattle.tel_term.specs.declared.terms.Value.{Value}
use Rattle.tel_rule.specs.declared.parts.Part.{Part}
use Rattle.tel_rule.specs.declared.formulas.Atom.{Atom}
use Rattle.tel_rule.specs.declared.statements.Fact.{Fact}
use Rattle.tel_rule.specs.declared.statements.Head.{Head}
use Rattle.tel_rule.specs.declared.statements.Literal.{Literal}
use Rattle.tel_rule.specs.declared.statements.Kind.{Kind}
use Rattle.tel_rule.specs.declared.statements.Kind.TheVariants as kinds
use Rattle.tel_rule.specs.declared.statements.Statement.{Statement}
use Rattle.tel_rule.specs.declared.ground.Instance.{Instance}
use Rattle.tel_rule.specs.declared.ground.GroundHead.TheVariants as heads
use Rattle.instance_build.specs.RuleAtoms as built
use Rattle.instance_build.specs.Instances.{Numbered, ground_rule}
use Rattle.instance_build.specs.Laws.{IsInRange, IsGuarded}
use Rattle.instance_build.proofs.ListsInRange.{instances_are_in_range}
use Rattle.instance_build.proofs.Said.{instances_are_guarded}
use Rattle.theory_lists.specs.Atoms.{TermAtom}
use Rattle.program_theory.specs.Templates.{number_among, ground_fact, ground_kind, ground_statements, is_guarded_kind}
use Rattle.program_theory.specs.Theory as theories
use Rattle.atom_table.specs.Named.{NamedAtom}
use Rattle.atom_table.specs.Collected.{rule_atoms, atom_under, fact_atom}
use Rattle.program_instances.specs.Gathered.{kind_named, named_atoms}
use Rattle.program_instances.proofs.Named.{stood_for, under-stands, rule_atoms-same}
use Rattle.fact_instantiate.specs.Building.{number_in, bound_number, built_rule, built_fact, built_kind, built_statements}
use Rattle.fact_instantiate.proofs.SameInstances.{rule_same}

-- ---- the atoms of one binding among those of all

under_there : (head : Head) (body : List Literal) (live : List (List Value)) (binding : List Value) (atom : Atom) → In binding live → In atom (built.rule_atoms head body) → In (atom_under binding atom) (kind_named (kinds.Rule head body) live)
under_there head body live binding atom here there =
    let stands : In atom (rule_atoms head body) = subst (In atom) (sym (rule_atoms-same head body)) there in
    In-flat_map (λ (one : List Value). map (atom_under one) (rule_atoms head body)) binding (atom_under binding atom) live here (In-map (atom_under binding) atom (rule_atoms head body) stands)

-- ---- over the numbers of the theory's atoms

module _ (symbols : List Term) (over : List TermAtom) (atoms : List NamedAtom) where
  abbrev pub AreNumbered : List NamedAtom → Type 0
  AreNumbered some = (atom : NamedAtom) → In atom some → number_among over (stood_for symbols atom) ≡ number_in atoms atom

  one_rule : (number : ℕ) (part : Part) (head : Head) (body : List Literal) (live : List (List Value)) (binding : List Value) → In binding live → AreNumbered (kind_named (kinds.Rule head body) live)
      → ground_rule (λ (atom : Atom). number_among over (theories.atom_under symbols binding atom)) number part head body ≡ built_rule atoms number part head body binding
  one_rule number part head body live binding here are =
      rule_same (λ (atom : Atom). number_among over (theories.atom_under symbols binding atom)) (bound_number atoms binding) number part head body
      (λ atom there. ap (number_among over) (sym (under-stands symbols binding atom)) ∙ are (atom_under binding atom) (under_there head body live binding atom here there))

  some_rules : (number : ℕ) (part : Part) (head : Head) (body : List Literal) (all live : List (List Value)) → ((binding : List Value) → In binding live → In binding all) → AreNumbered (kind_named (kinds.Rule head body) all)
      → map (λ binding. ground_rule (λ (atom : Atom). number_among over (theories.atom_under symbols binding atom)) number part head body) live ≡ map (built_rule atoms number part head body) live
  some_rules number part head body all [] among are = refl
  some_rules number part head body all (binding ∷ more) among are =
      ap₂ (λ (made : Numbered Instance) (rest : List (Numbered Instance)). made ∷ rest) (one_rule number part head body all binding (among binding (inl refl)) are)
      (some_rules number part head body all more (λ other there. among other (inr there)) are)

  some_facts : (number : ℕ) (part : Part) (fact : Fact) (live : List (List Value)) → AreNumbered (kind_named (kinds.Facts fact) live) → map (ground_fact symbols over number part fact) live ≡ map (built_fact atoms number part fact) live
  some_facts number part fact [] are = refl
  some_facts number part fact (row ∷ more) are =
      let same = are (fact_atom fact row) (inl refl) in
      let rest = some_facts number part fact more (λ atom there. are atom (inr there)) in
      λ i. (λ (first : ℕ). (record { statement = number; part = part; head = heads.Normal (same i) (nat_lt 0 fact.after); body = [] }, [])) ∷ rest i

  kind_built : (number : ℕ) (part : Part) (kind : Kind) (live : List (List Value)) → AreNumbered (kind_named kind live) → ground_kind symbols over number part kind live ≡ built_kind atoms number part kind live
  kind_built number part (kinds.Rule head body) live are = some_rules number part head body live live (λ binding there. there) are
  kind_built number part (kinds.Facts fact) live are = some_facts number part fact live are
  kind_built number part (kinds.Const name value) live are = refl
  kind_built number part (kinds.Show shown) live are = refl

  pub statements_built : (number : ℕ) (statements : List Statement) (live : List (List (List Value))) → AreNumbered (named_atoms statements live) → ground_statements symbols over number statements live ≡ built_statements atoms number statements live
  statements_built number [] live are = refl
  statements_built number (statement ∷ more) [] are = refl
  statements_built number (statement ∷ more) (live ∷ later) are =
      let here = kind_named statement.kind live in
      let rest = named_atoms more later in
      ap₂ (λ (these those : List (Numbered Instance)). these ++ those)
      (kind_built number statement.part statement.kind live (λ atom there. are atom (In-append_left atom here rest there)))
      (statements_built (number + 1) more later (λ atom there. are atom (In-append_right atom here rest there)))

-- ---- in range and guarded

chosen_below : (b : Bool) (place count : ℕ) → nat_lt place count ≡ b → 0 < count → unwrap_or (cond b (Some place) None) 0 < count
chosen_below true place count e some = ltb-true place count e
chosen_below false place count e some = some

some_in : (atom : NamedAtom) (atoms : List NamedAtom) → In atom atoms → 0 < length atoms
some_in atom [] there = elim there [ ]
some_in atom (other ∷ more) there = omega arith

module _ (atoms : List NamedAtom) where
  number_below : (atom : NamedAtom) → In atom atoms → number_in atoms atom < length atoms
  number_below atom there = chosen_below _ _ (length atoms) refl (some_in atom atoms there)

  abbrev pub AreAmong : List NamedAtom → Type 0
  AreAmong some = (atom : NamedAtom) → In atom some → In atom atoms

  kind_fits : (number : ℕ) (part : Part) (kind : Kind) (live : List (List Value)) → AreAmong (kind_named kind live) → (made : Numbered Instance) → In made (built_kind atoms number part kind live) → IsInRange (length atoms) made
  kind_fits number part (kinds.Rule head body) live among made there =
      let from = In-map_from (built_rule atoms number part head body) made live there in
      subst (IsInRange (length atoms)) from.2
      (instances_are_in_range (bound_number atoms from.0) (length atoms) number part head body (λ atom stands. number_below (atom_under from.0 atom) (among (atom_under from.0 atom) (under_there head body live from.0 atom from.1 stands))))
  kind_fits number part (kinds.Facts fact) live among made there =
      let from = In-map_from (built_fact atoms number part fact) made live there in
      let below = lt-ltb (number_in atoms (fact_atom fact from.0)) (length atoms) (number_below (fact_atom fact from.0) (among (fact_atom fact from.0) (In-map (fact_atom fact) from.0 live from.1))) in
      subst (IsInRange (length atoms)) from.2 (record {
        nodes = λ first total within. refl;
        instance = λ first total within. (λ i. below i && true);
      })
  kind_fits number part (kinds.Const name value) live among made there = absurd there
  kind_fits number part (kinds.Show shown) live among made there = absurd there

  pub statements_fit : (number : ℕ) (statements : List Statement) (live : List (List (List Value))) → AreAmong (named_atoms statements live) → (made : Numbered Instance) → In made (built_statements atoms number statements live) → IsInRange (length atoms) made
  statements_fit number [] live among made there = absurd there
  statements_fit number (statement ∷ more) [] among made there = absurd there
  statements_fit number (statement ∷ more) (live ∷ later) among made there =
      let here = kind_named statement.kind live in
      let rest = named_atoms more later in
      ⊎_elim (λ (first : In made (built_kind atoms number statement.part statement.kind live)).
      kind_fits number statement.part statement.kind live (λ atom stands. among atom (In-append_left atom here rest stands)) made first)
      (λ (after : In made (built_statements atoms (number + 1) more later)).
      statements_fit (number + 1) more later (λ atom stands. among atom (In-append_right atom here rest stands)) made after)
      (In-append_cases made (built_kind atoms number statement.part statement.kind live) (built_statements atoms (number + 1) more later) there)

  kind_guarded : (number : ℕ) (part : Part) (kind : Kind) (live : List (List Value)) → is_guarded_kind kind ≡ true → (made : Numbered Instance) → In made (built_kind atoms number part kind live) → IsGuarded made
  kind_guarded number part (kinds.Rule head body) live guarded made there =
      let from = In-map_from (built_rule atoms number part head body) made live there in
      subst IsGuarded from.2 (instances_are_guarded (bound_number atoms from.0) number part head body guarded)
  kind_guarded number part (kinds.Facts fact) live guarded made there =
      let from = In-map_from (built_fact atoms number part fact) made live there in
      subst IsGuarded from.2 (λ nodes first placed. refl)
  kind_guarded number part (kinds.Const name value) live guarded made there = absurd there
  kind_guarded number part (kinds.Show shown) live guarded made there = absurd there

  pub statements_guarded : (number : ℕ) (statements : List Statement) (live : List (List (List Value))) → list_all (λ (statement : Statement). is_guarded_kind statement.kind) statements ≡ true
      → (made : Numbered Instance) → In made (built_statements atoms number statements live) → IsGuarded made
  statements_guarded number [] live guarded made there = absurd there
  statements_guarded number (statement ∷ more) [] guarded made there = absurd there
  statements_guarded number (statement ∷ more) (live ∷ later) guarded made there =
      let both = and_parts (is_guarded_kind statement.kind) (list_all (λ (other : Statement). is_guarded_kind other.kind) more) guarded in
      ⊎_elim (λ (first : In made (built_kind atoms number statement.part statement.kind live)). kind_guarded number statement.part statement.kind live both.0 made first)
      (λ (after : In made (built_statements atoms (number + 1) more later)). statements_guarded (number + 1) more later both.1 made after)
      (In-append_cases made (built_kind atoms number statement.part statement.kind live) (built_statements atoms (number + 1) more later) there)
