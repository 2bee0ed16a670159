-- The template over the atoms of a program in their order is that of the program.
use Rattle.std.proofs.Common.{◌≡◌, ◌↔◌, ℕ, ◌+◌, ◌≤◌, true, List, [], ◌∷◌, length, map, IsTrue, refl, sym, ap, ◌∙◌, subst, arith}
use Rattle.std.specs.List.{list_all}
use Rattle.std.proofs.lemmas.List.{length-map}
use Rattle.tel_base.proofs.Members.{In, In-map, In-map_from, In-list_all, list_all-from_In}
use Rattle.tel_term.specs.declared.terms.Term.{Term}
use Rattle.tel_term.specs.declared.terms.Value.{Value}
use Rattle.tel_term.specs.Symbols.{IsTable}
use Rattle.tel_rule.specs.declared.statements.Statement.{Statement}
use Rattle.tel_rule.specs.declared.statements.Program.{Program}
use Rattle.tel_rule.specs.declared.nodes.Node.{Node}
use Rattle.tel_rule.specs.declared.ground.GroundAtom.{GroundAtom}
use Rattle.tel_rule.specs.declared.ground.Instance.{Instance}
use Rattle.tel_rule.specs.declared.ground.Show.{Show}
use Rattle.tel_rule.specs.Rising.{rises}
use Rattle.tel_rule.specs.Nodes.{are_nodes}
use Rattle.tel_rule.specs.Atoms.{pairs_of}
use Rattle.tel_rule.specs.Ground.{Ground, IsGround, ground_of, instance_in_range, is_guarded, show_in_range}
use Rattle.instance_build.specs.Instances.{Numbered, in_row}
use Rattle.instance_build.proofs.Rows.{rows_are_in_range, rows_are_guarded}
use Rattle.theory_lists.specs.Atoms.{TermAtom, atom_over, term_atom_lt, term_atom_cmp}
use Rattle.theory_lists.proofs.AtomOrder.{atoms-total, rises-over}
use Rattle.join_plans.specs.Once.{IsOnce}
use Rattle.join_plans.proofs.Counting.{fewer}
use Rattle.program_theory.specs.Instances.{AreInstances, HaveInstances}
use Rattle.program_theory.specs.Theory.{demanded_atoms, instance_demands}
use Rattle.program_theory.specs.Templates.{IsTemplateOf, number_among, ground_program, is_guarded_kind}
use Rattle.program_theory.proofs.Counted.{templates-counted}
use Rattle.program_theory.proofs.RisingLists.{rises_tail, not_later}
use Rattle.atom_table.specs.Named.{NamedAtom, args_in_range, named_as}
use Rattle.atom_table.specs.Sorted.{Grows, AreSorted}
use Rattle.program_instances.specs.Gathered.{named_atoms, place_count, IsGathered}
use Rattle.program_theory.specs.Ready.{IsReady}
use Rattle.program_instances.proofs.Named.{stood_for, named-demanded}
use Rattle.tel_semantics.specs.Print.{is_shown}
use Rattle.fact_instantiate.specs.Building.{built_statements}
use Rattle.fact_instantiate.specs.Shown.{show_by}
use Rattle.fact_instantiate.specs.Instantiated.{template_width}
use Rattle.fact_instantiate.proofs.Stood.{over_named, all_stay, numbers_same}
use Rattle.fact_instantiate.proofs.Templated.{AreNumbered, statements_built, statements_fit, statements_guarded}
use Rattle.fact_instantiate.proofs.ShownNumbers.{show_fits, shown_same}

-- these are the live instances of a program, and their atoms in order over a table of symbols to which that of the program has grown
record AreArranged (program : Program) (live : List (List (List Value))) (symbols : List Term) (atoms : List GroundAtom) (numbered : List NamedAtom) : Type 0 where
  pub table : IsTable program.symbols
  pub guarded : IsTrue (list_all (λ (statement : Statement). is_guarded_kind statement.kind) program.statements)
  pub instances : AreInstances program live
  pub grows : Grows program.symbols symbols
  pub sorted : AreSorted symbols atoms numbered
  pub same : (atom : NamedAtom) → In atom numbered ↔ In atom (named_atoms program.statements live)
  pub in_range : IsTrue (list_all (args_in_range program.symbols) numbered)

arranged : (program : Program) (live : List (List (List Value))) (known : List NamedAtom) (symbols : List Term) (atoms : List GroundAtom) (numbered : List NamedAtom) → IsReady program → IsGathered program live known → Grows program.symbols symbols → AreSorted symbols atoms numbered → ((atom : NamedAtom) → In atom numbered ↔ In atom known) → AreArranged program live symbols atoms numbered
arranged program live known symbols atoms numbered ready gathered grows sorted members = record {
  table = ready.table;
  guarded = ready.guarded;
  instances = gathered.instances;
  grows = grows;
  sorted = sorted;
  same = λ atom. (λ there. (gathered.same atom).0 ((members atom).0 there), λ there. (members atom).1 ((gathered.same atom).1 there));
  in_range = list_all-from_In (args_in_range program.symbols) numbered (λ atom there. In-list_all (args_in_range program.symbols) atom known gathered.in_range ((members atom).0 there));
}

-- each statement has a list of instances
lists_long : (statements : List Statement) (symbols : List Term) (some : List Statement) (live : List (List (List Value))) → HaveInstances statements symbols some live → length live ≡ length some
lists_long statements symbols [] [] are = refl
lists_long statements symbols [] (rows ∷ later) are = absurd are
lists_long statements symbols (statement ∷ more) [] are = absurd are
lists_long statements symbols (statement ∷ more) (rows ∷ later) are = let rest = lists_long statements symbols more later are.1 in omega (arith, rest)

pub instances_long : (program : Program) (live : List (List (List Value))) → AreInstances program live → length live ≡ length program.statements
instances_long program live are = lists_long program.statements program.symbols program.statements live are

-- a rising list has each atom once
rising_once : (atoms : List TermAtom) → rises term_atom_lt atoms ≡ true → IsOnce atoms
rising_once [] up = tt {0}
rising_once (atom ∷ more) up = (not_later term_atom_cmp atoms-total atom more up, rising_once more (rises_tail term_atom_cmp atoms-total atom more up))

module _ (program : Program) (live : List (List (List Value))) (symbols : List Term) (atoms : List GroundAtom) (numbered : List NamedAtom) (are : AreArranged program live symbols atoms numbered) where
  abbrev over : List TermAtom
  over = map (atom_over symbols) atoms

  abbrev stood : NamedAtom → TermAtom
  stood atom = stood_for program.symbols atom

  abbrev row : List (Numbered Instance)
  row = built_statements numbered 0 program.statements live

  over_stood : over ≡ map stood numbered
  over_stood =
      over_named symbols atoms
      ∙ ap (map (stood_for symbols)) are.sorted.stand
      ∙ all_stay program.symbols symbols numbered are.grows are.in_range

  atoms_demanded : (atom : TermAtom) → In atom over ↔ In atom (demanded_atoms (instance_demands program live))
  atoms_demanded atom =
      let all = named_atoms program.statements live in
      let demanded = named-demanded program live atom in (
        λ there.
            let from = In-map_from stood atom numbered (subst (λ (list : List TermAtom). In atom list) over_stood there) in
            demanded.0 (subst (λ (one : TermAtom). In one (map stood all)) from.2 (In-map stood from.0 all ((are.same from.0).0 from.1))),
        λ there.
            let from = In-map_from stood atom all (demanded.1 there) in
            subst (λ (list : List TermAtom). In atom list) (sym over_stood)
            (subst (λ (one : TermAtom). In one (map stood numbered)) from.2 (In-map stood from.0 numbered ((are.same from.0).1 from.1))),
      )

  numbers_are : AreNumbered program.symbols over numbered (named_atoms program.statements live)
  numbers_are atom there =
      (λ i. number_among (over_stood i) (stood atom))
      ∙ numbers_same program.symbols numbered atom are.table are.in_range ((are.same atom).1 there)

  made_built : ground_program program over live ≡ in_row row 0
  made_built = ap (λ (some : List (Numbered Instance)). in_row some 0) (statements_built program.symbols over numbered 0 program.statements live numbers_are)

  module _ (pairs : List (ℕ × ℕ)) (nodes : List Node) (instances : List Instance) (show : Show) (show_is : show ≡ show_by program.statements symbols atoms) (nodes_are : nodes ≡ (in_row row 0).1) (instances_are : instances ≡ (in_row row 0).0) where
    abbrev template : Ground
    template = ground_of symbols atoms pairs nodes instances show

    is_template : IsTemplateOf program live template
    is_template = record {
      instances_are = are.instances;
      symbols = are.grows;
      table = are.sorted.table;
      atoms = atoms_demanded;
      instances = instances_are ∙ (λ i. (sym made_built i).0);
      nodes = nodes_are ∙ (λ i. (sym made_built i).1);
      shown = λ number below. ap (λ (s : Show). is_shown s number) show_is ∙ shown_same program.statements symbols atoms number below;
    }

    is_ground : pairs ≡ pairs_of atoms → IsGround template
    is_ground paired =
        let count : length atoms ≡ length numbered = sym (length-map atoms (named_as symbols)) ∙ ap length are.sorted.stand in
        let fit = rows_are_in_range (length numbered) row (statements_fit numbered 0 program.statements live (λ atom there. (are.same atom).1 there)) in
        let guarded = rows_are_guarded row (statements_guarded numbered 0 program.statements live are.guarded) in
        record {
          named = are.sorted.in_range;
          rise = are.sorted.rise;
          paired = paired;
          nodes = (λ i. are_nodes (count i) (length (nodes_are i)) 0 (nodes_are i)) ∙ fit.0;
          in_range = (λ i. list_all (instance_in_range (count i) (length (nodes_are i))) (instances_are i)) ∙ fit.1;
          guarded = (λ i. list_all (is_guarded (nodes_are i)) (instances_are i)) ∙ guarded;
          shown = ap (show_in_range (length atoms)) show_is ∙ show_fits program.statements symbols atoms;
        }

    -- it has no more places than are counted, over any list of its atoms
    is_small : (known : List NamedAtom) → ((atom : NamedAtom) → In atom numbered → In atom known) → length atoms + length nodes + length instances + 1 ≤ place_count program.statements live (length known)
    is_small known among =
        let counted = templates-counted program live template is_template in
        let once = rising_once over (rises-over symbols atoms ∙ are.sorted.rise) in
        let few = fewer over (map stood known) once (λ atom there.
        let from = In-map_from stood atom numbered (subst (λ (list : List TermAtom). In atom list) over_stood there) in
        subst (λ (one : TermAtom). In one (map stood known)) from.2 (In-map stood from.0 known (among from.0 from.1))) in
        omega (arith, few, length-map atoms (atom_over symbols), length-map known stood, counted.0, counted.1)

-- the template over what was gathered, sorted and built
pub record IsTemplated (program : Program) (live : List (List (List Value))) (known : List NamedAtom) (template : Ground) : Type 0 where
  pub is : IsTemplateOf program live template
  pub ground : IsGround template
  pub few : template_width template ≤ place_count program.statements live (length known)

pub templated : (program : Program) (live : List (List (List Value))) (known : List NamedAtom) (symbols : List Term) (atoms : List GroundAtom) (numbered : List NamedAtom) (pairs : List (ℕ × ℕ)) (nodes : List Node) (instances : List Instance) (show : Show) (statements shown : List Statement) (lists : List (List (List Value)))
    → IsReady program → IsGathered program live known → Grows program.symbols symbols → AreSorted symbols atoms numbered → ((atom : NamedAtom) → In atom numbered ↔ In atom known) → pairs ≡ pairs_of atoms
    → statements ≡ program.statements → lists ≡ live → instances ≡ (in_row (built_statements numbered 0 statements lists) 0).0 → nodes ≡ (in_row (built_statements numbered 0 statements lists) 0).1
    → shown ≡ program.statements → show ≡ show_by shown symbols atoms → IsTemplated program live known (ground_of symbols atoms pairs nodes instances show)
templated program live known symbols atoms numbered pairs nodes instances show statements shown lists ready gathered grows sorted members paired statements_are lists_are instances_are nodes_are shown_are show_is =
    let showing : show ≡ show_by program.statements symbols atoms = show_is ∙ ap (λ (some : List Statement). show_by some symbols atoms) shown_are in
    let are = arranged program live known symbols atoms numbered ready gathered grows sorted members in
    let derived : instances ≡ (in_row (built_statements numbered 0 program.statements live) 0).0 = instances_are ∙ (λ i. (in_row (built_statements numbered 0 (statements_are i) (lists_are i)) 0).0) in
    let placed : nodes ≡ (in_row (built_statements numbered 0 program.statements live) 0).1 = nodes_are ∙ (λ i. (in_row (built_statements numbered 0 (statements_are i) (lists_are i)) 0).1) in
    record {
      is = is_template program live symbols atoms numbered are pairs nodes instances show showing placed derived;
      ground = is_ground program live symbols atoms numbered are pairs nodes instances show showing placed derived paired;
      few = is_small program live symbols atoms numbered are pairs nodes instances show showing placed derived known (λ atom there. (members atom).0 there);
    }
