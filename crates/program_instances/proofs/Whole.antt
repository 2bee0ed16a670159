-- What was gathered of all statements of a program.
use Rattle.std.proofs.Common.{◌≡◌, ◌↔◌, ◌⊎◌, inr, ℕ, ◌-◌, ◌<◌, true, List, [], length, sym, subst, ⊎_elim, arith}
use Rattle.std.specs.List.{list_all}
use Rattle.tel_base.specs.Members.{In}
use Rattle.tel_base.proofs.Members.{list_all-from_In}
use Rattle.tel_term.specs.declared.terms.Value.{Value}
use Rattle.tel_rule.specs.declared.statements.Statement.{Statement}
use Rattle.tel_rule.specs.declared.statements.Program.{Program}
use Rattle.atom_table.specs.Named.{NamedAtom, args_in_range}
use Rattle.program_theory.specs.Instances.{AreInstances}
use Rattle.program_theory.specs.Theory.{width_of}
use Rattle.program_theory.specs.Ready.{IsReady}
use Rattle.program_instances.specs.Gathered.{named_atoms, place_count, IsGathered, HasMorePlaces}
use Rattle.program_instances.specs.Adding.{with_all, GathersAll, OverflowsAll}
use Rattle.program_instances.proofs.Added.{all-in, all-once}
use Rattle.program_instances.proofs.Ranged.{named-range}
use Rattle.program_instances.proofs.SameCount.{width-is}

module _ (program : Program) (ready : IsReady program) where
  from-none : (live : List (List (List Value))) (atom : NamedAtom) → In atom (with_all [] (named_atoms program.statements live)) ↔ In atom (named_atoms program.statements live)
  from-none live atom =
      let added = all-in [] (named_atoms program.statements live) atom in (
        λ there. ⊎_elim (λ none. absurd none) (λ (here : In atom (named_atoms program.statements live)). here) (added.0 there),
        λ there. added.1 (inr there),
      )

  ranged : (live : List (List (List Value))) → AreInstances program live → list_all (args_in_range program.symbols) (with_all [] (named_atoms program.statements live)) ≡ true
  ranged live are =
      list_all-from_In (args_in_range program.symbols) (with_all [] (named_atoms program.statements live)) (λ atom there. named-range program live ready.within are atom ((from-none live atom).0 there))

  pub gathered-is : (statements : List Statement) (live : List (List (List Value))) (atoms : List NamedAtom) (room left : ℕ) → statements ≡ program.statements → GathersAll program.statements program.symbols statements live atoms room left → IsGathered program live atoms
  gathered-is statements live atoms room left all said = by (subst (λ (some : List Statement). GathersAll program.statements program.symbols some live atoms room left) all said)
    where
      by : GathersAll program.statements program.symbols program.statements live atoms room left → IsGathered program live atoms
      by whole =
          subst (IsGathered program live) (sym whole.atoms_are) (record { instances = whole.instances; same = from-none live; in_range = ranged live whole.instances })

  pub more-places : (statements : List Statement) (room : ℕ) → statements ≡ program.statements → 0 < room → OverflowsAll program.statements program.symbols statements (room - 1) → HasMorePlaces program room
  more-places statements room all some said live theory is =
      let over = subst (λ (l : List Statement). OverflowsAll program.statements program.symbols l (room - 1)) all said live is.instances in
      let atoms = with_all [] (named_atoms program.statements live) in
      let width : width_of program live theory ≡ place_count program.statements live (length atoms) =
      width-is program live theory atoms ready.table is (all-once [] (named_atoms program.statements live) tt) (from-none live) (ranged live is.instances) in
      omega (arith, over, width, some)
