use Rattle.std.proofs.Common.{◌≡◌, ◌↔◌, ◌∙◌, ap, subst, List, ℕ}
use Rattle.std.specs.List.{list_all}
use Rattle.tel_base.specs.Members.{In}
use Rattle.atom_table.specs.Named.{NamedAtom, args_in_range}
use Rattle.atom_table.specs.Keys.{atoms_by}
use Rattle.atom_table.proofs.Arranged.{keys_ranged}
use Rattle.atom_table.proofs.seen.AtomSet.arrange.Goals as goal

pub arrange_keys-requires-clause-ranged : goal.arrange_keys-requires-clause-ranged
arrange_keys-requires-clause-ranged c =
    keys_ranged c.args.symbols.now c.self.inside.names.keys c.self.inside.keys.keys (ap (list_all (args_in_range c.args.symbols.now)) c.self.view_is ∙ c.requires)

pub returns-clause-members : goal.returns-clause-members
returns-clause-members c = λ atom.
    let new = c.arrange_keys.new.keys.keys in
    let old = c.self.inside.keys.keys in
    let names : c.as_slice.result.now ≡ c.self.inside.names.keys = c.as_slice.ensures.keys in
    let seen : In atom (atoms_by c.self.inside.names.keys new) ↔ In atom (atoms_by c.self.inside.names.keys old) =
    subst (λ (ns : List (List ℕ)). In atom (atoms_by ns new) ↔ In atom (atoms_by ns old)) names (c.in_ok-atoms.ensures.members atom)
    in
    subst (λ (known : List NamedAtom). In atom (atoms_by c.self.inside.names.keys new) ↔ In atom known) c.self.view_is seen
