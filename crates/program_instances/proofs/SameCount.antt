-- The atoms of the theory of a program are as many as the named atoms that stand for them.
use Rattle.std.proofs.Common.{◌≡◌, ◌↔◌, ℕ, ◌+◌, true, List, length, map, ap, subst, arith}
use Rattle.std.specs.List.{list_all}
use Rattle.std.proofs.lemmas.List.{length-map}
use Rattle.tel_base.specs.Members.{In}
use Rattle.tel_base.proofs.Members.{In-map, In-map_from, In-list_all}
use Rattle.tel_term.specs.declared.terms.Value.{Value}
use Rattle.tel_term.specs.Symbols.{IsTable}
use Rattle.tel_rule.specs.declared.statements.Program.{Program}
use Rattle.join_plans.specs.Once.{IsOnce}
use Rattle.join_plans.proofs.Counting.{fewer}
use Rattle.live_bindings.proofs.Found.{once_map}
use Rattle.live_bindings.proofs.RisingOnce.{rising_once}
use Rattle.theory_lists.specs.Atoms.{TermAtom, term_atom_cmp}
use Rattle.theory_lists.specs.Theories.{ProgramTheory}
use Rattle.theory_lists.proofs.AtomOrder.{atoms-total}
use Rattle.program_theory.specs.Instances.{instance_count, node_count}
use Rattle.program_theory.specs.Theory.{IsTheoryOf, width_of}
use Rattle.atom_table.specs.Named.{NamedAtom, args_in_range}
use Rattle.program_instances.specs.Gathered.{named_atoms, place_count}
use Rattle.program_instances.proofs.Named.{stood_for, one-named, named-demanded}

module _ (program : Program) (live : List (List (List Value))) (theory : ProgramTheory) (atoms : List NamedAtom) (table : IsTable program.symbols) (is : IsTheoryOf program live theory) (once : IsOnce atoms)
    (same : (atom : NamedAtom) → In atom atoms ↔ In atom (named_atoms program.statements live)) (ranged : list_all (args_in_range program.symbols) atoms ≡ true) where
  abbrev stand : NamedAtom → TermAtom
  stand atom = stood_for program.symbols atom

  ranges : (atom : NamedAtom) → In atom atoms → args_in_range program.symbols atom ≡ true
  ranges atom there = In-list_all (args_in_range program.symbols) atom atoms ranged there

  apart : IsOnce (map stand atoms)
  apart = once_map stand atoms once (λ a b in_a in_b level. one-named program.symbols table a b (ranges a in_a) (ranges b in_b) level)

  to_theory : (atom : TermAtom) → In atom (map stand atoms) → In atom theory.atoms
  to_theory atom there =
      let from = In-map_from stand atom atoms there in
      (is.atoms atom).1 ((named-demanded program live atom).0 (subst (λ (a : TermAtom). In a (map stand (named_atoms program.statements live))) from.2 (In-map stand from.0 (named_atoms program.statements live) ((same from.0).0 from.1))))

  from_theory : (atom : TermAtom) → In atom theory.atoms → In atom (map stand atoms)
  from_theory atom there =
      let from = In-map_from stand atom (named_atoms program.statements live) ((named-demanded program live atom).1 ((is.atoms atom).0 there)) in
      subst (λ (a : TermAtom). In a (map stand atoms)) from.2 (In-map stand from.0 atoms ((same from.0).1 from.1))

  pub same-count : length theory.atoms ≡ length atoms
  same-count =
      let long = length-map atoms stand in
      let less = fewer (map stand atoms) theory.atoms apart to_theory in
      let more = fewer theory.atoms (map stand atoms) (rising_once term_atom_cmp atoms-total theory.atoms is.rise) from_theory in
      omega (arith, long, less, more)

  pub width-is : width_of program live theory ≡ place_count program.statements live (length atoms)
  width-is = ap (λ (n : ℕ). n + node_count program.statements live + instance_count live + 1) same-count
