-- The template of a program means its theory.
use Rattle.std.proofs.Common.{◌≡◌, ℕ, List, [], ◌∷◌, ◌++◌, map, refl, sym, ap, ap₂, ◌∙◌, subst, false}
use Rattle.std.specs.List.{flat_map}
use Rattle.std.proofs.lemmas.List.{map-append}
use Rattle.tel_base.proofs.Members.{any_from, In-append_left, In-append_right}
use Rattle.tel_term.specs.declared.terms.Value.{Value}
use Rattle.tel_rule.specs.declared.statements.Program.{Program}
use Rattle.tel_rule.specs.declared.nodes.Node.{Node}
use Rattle.tel_rule.specs.declared.ground.Instance.{Instance}
use Rattle.tel_rule.specs.Ground.{Ground, IsGround}
use Rattle.tel_semantics.specs.Theory.{DemandOver, demand_of, pair_demand, theory}
use Rattle.instance_build.specs.Instances.{in_row}
use Rattle.instance_build.specs.Laws.{InstancesMeanRules, RowsMeanInstances}
use Rattle.theory_lists.specs.Atoms.{TermAtom, same_atom, atom_at}
use Rattle.theory_lists.specs.Renaming.{renamed_demand}
use Rattle.theory_lists.specs.Theories.{ProgramTheory, Means, atoms_over, numbered_atom}
use Rattle.theory_lists.proofs.AtomOrder.{atoms-one, atoms-rise}
use Rattle.program_theory.specs.Theory.{IsTheoryOf, statement_demands, formula_atoms, demanded_atoms, pair_demands, atom_predicate, is_shown_by}
use Rattle.program_theory.specs.Templates.{HasFewNots, IsTemplateOf, number_among, ground_statements}
use Rattle.program_theory.specs.Laws.{TemplatesMeanTheories}
use Rattle.program_theory.proofs.OneTheory.{theories-one}
use Rattle.program_theory.proofs.Places.{position_found}
use Rattle.program_theory.proofs.Renamed.{Keeps, renamed-twice, kept}
use Rattle.program_theory.proofs.Rows.{row_demands, statements_say}
use Rattle.program_theory.proofs.Pairs.{pairs_mean}

-- the atom with the number of an atom is it, where it is there
numbered_back : (atoms : List TermAtom) → Keeps (λ atom. atom_at atoms (number_among atoms atom)) atoms
numbered_back atoms atom found =
    let itself = (atoms-one atom atom).1 refl in
    sym ((atoms-one atom (atom_at atoms (number_among atoms atom))).0 (position_found (same_atom atom) atoms (record { negative = false; name = []; args = [] }) (any_from (same_atom atom) atoms atom found itself)))

-- demands whose atoms are kept
all_kept : (f : ℕ → TermAtom) (g : TermAtom → ℕ) (demands : List (DemandOver TermAtom)) → Keeps (λ atom. f (g atom)) (demanded_atoms demands) → map (renamed_demand f) (map (renamed_demand g) demands) ≡ demands
all_kept f g [] keeps = refl
all_kept f g (demand ∷ more) keeps =
    let here = renamed-twice f g demand.formula ∙ kept (λ atom. f (g atom)) demand.formula (λ atom found. keeps atom (In-append_left atom (formula_atoms demand.formula) (demanded_atoms more) found)) in
    let rest = all_kept f g more (λ atom found. keeps atom (In-append_right atom (formula_atoms demand.formula) (demanded_atoms more) found)) in
    λ i. record { part = demand.part; formula = here i } ∷ rest i

module _ (mean : InstancesMeanRules) (rows : RowsMeanInstances) (program : Program) (live : List (List (List Value))) (template : Ground) (few : HasFewNots program) (ground : IsGround template) (is : IsTemplateOf program live template) where
  abbrev atoms : List TermAtom
  atoms = atoms_over template

  abbrev said : List (DemandOver TermAtom)
  said = statement_demands program.symbols program.statements live

  abbrev made : List Instance × List Node
  made = in_row (ground_statements program.symbols atoms 0 program.statements live) 0

  over_numbers : map (demand_of template.nodes) template.instances ≡ map (renamed_demand (number_among atoms)) said
  over_numbers =
      ap₂ (λ (nodes : List Node) (instances : List Instance). map (demand_of nodes) instances) is.nodes is.instances
      ∙ row_demands rows (ground_statements program.symbols atoms 0 program.statements live) (map (renamed_demand (number_among atoms)) said) (statements_say mean program.symbols atoms 0 program.statements live few)

  over_atoms : map (renamed_demand (numbered_atom template)) (map (demand_of template.nodes) template.instances) ≡ said
  over_atoms =
      ap (map (renamed_demand (numbered_atom template))) over_numbers
      ∙ all_kept (numbered_atom template) (number_among atoms) said (λ atom found. numbered_back atoms atom ((is.atoms atom).1 found))

  all_demands : said ++ flat_map (pair_demands atoms) atoms ≡ map (renamed_demand (numbered_atom template)) (theory template)
  all_demands =
      ap₂ (λ (xs ys : List (DemandOver TermAtom)). xs ++ ys) (sym over_atoms) (sym (pairs_mean template ground is.table))
      ∙ sym (map-append (renamed_demand (numbered_atom template)) (map (demand_of template.nodes) template.instances) (map pair_demand template.pairs))

  pub meant : (theory : ProgramTheory) × IsTheoryOf program live theory × Means template theory
  meant = (
    record { atoms = atoms; demands = said ++ flat_map (pair_demands atoms) atoms; shown = λ atom. is_shown_by program.statements (atom_predicate atom) },
    record { instances = is.instances_are; rise = atoms-rise template ground; atoms = is.atoms; demands = refl; shown = refl },
    record { atoms = refl; demands = all_demands; shown = is.shown },
  )

pub templates-mean : InstancesMeanRules → RowsMeanInstances → TemplatesMeanTheories
templates-mean mean rows program live template few ground is = meant mean rows program live template few ground is

-- which is any that is its theory
pub means-theory : TemplatesMeanTheories → (program : Program) (live other : List (List (List Value))) (template : Ground) (theory : ProgramTheory) → HasFewNots program → IsGround template → IsTemplateOf program live template
    → IsTheoryOf program other theory → Means template theory
means-theory mean program live other template theory few ground is its =
    let said = mean program live template few ground is in
    subst (Means template) (theories-one program live other said.0 theory said.1 its).1 said.2
