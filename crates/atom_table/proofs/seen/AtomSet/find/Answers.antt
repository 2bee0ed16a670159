use Rattle.std.proofs.Common.{◌≡◌, ◌∙◌, ap, subst, Bool, List, Some, None, position}
use Rattle.atom_table.specs.declared.keys.Key.{Key}
use Rattle.atom_table.specs.Named.{NamedAtom, number_of}
use Rattle.atom_table.proofs.HeldKeys.{derived, found_key, lost_name}
use Rattle.atom_table.proofs.seen.AtomSet.find.Goals as goal

pub returns-in-None : goal.returns-in-None
returns-in-None c =
    let atom : NamedAtom = record { negative = c.args.negative; name = c.args.name.now; args = c.args.row } in
    lost_name c.self.inside.names.keys c.self.inside.keys.keys atom c.self.invariant.held c.in-None.ensures.index ∙ ap (λ (atoms : List NamedAtom). number_of atoms atom) c.self.view_is

pub returns-in-Some-get_index_of : goal.returns-in-Some-get_index_of
returns-in-Some-get_index_of c =
    let atom : NamedAtom = record { negative = c.args.negative; name = c.args.name.now; args = c.args.row } in
    let key : Key = record { negative = c.args.negative; name = c.in-Some.number; row = c.args.row } in
    let keys = c.self.inside.keys.keys in
    subst (λ (eq : Key → Key → Bool). Some c.in-Some-get_index_of.number ≡ position (eq key) keys) derived c.in-Some-get_index_of.ensures.index
    ∙ found_key c.self.inside.names.keys keys c.args.negative c.args.name.now c.in-Some.number c.args.row c.self.invariant.distinct c.self.invariant.held c.in-Some.ensures.index
    ∙ ap (λ (atoms : List NamedAtom). number_of atoms atom) c.self.view_is

pub returns : goal.returns
returns c =
    let atom : NamedAtom = record { negative = c.args.negative; name = c.args.name.now; args = c.args.row } in
    let key : Key = record { negative = c.args.negative; name = c.in-Some.number; row = c.args.row } in
    let keys = c.self.inside.keys.keys in
    subst (λ (eq : Key → Key → Bool). None ≡ position (eq key) keys) derived c.in-None-get_index_of.ensures.index
    ∙ found_key c.self.inside.names.keys keys c.args.negative c.args.name.now c.in-Some.number c.args.row c.self.invariant.distinct c.self.invariant.held c.in-Some.ensures.index
    ∙ ap (λ (atoms : List NamedAtom). number_of atoms atom) c.self.view_is
