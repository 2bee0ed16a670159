use Rattle.std.proofs.Common.{◌≡◌, ◌∙◌, ap, subst, Bool, List, length, arith, Result, Ok, Err, OnErr}
use Rattle.std.specs.List.{list_all}
use Rattle.indexmap.specs.IndexSet.{insert_key}
use Rattle.atom_table.specs.declared.keys.Key.{Key}
use Rattle.atom_table.specs.Named.{NamedAtom, with_atom}
use Rattle.atom_table.specs.Keys.{is_held, atoms_by}
use Rattle.atom_table.proofs.HeldKeys.{derived, inserted, named_more, held_more}
use Rattle.atom_table.proofs.seen.AtomSet.insert.Goals as goal

on_err : {T E P : Type 0} (result : Result T E) → P → OnErr result P
on_err (Ok value) h = tt
on_err (Err fault) h = h

-- no key was put
pub invariant_of-self-in_err-insert : goal.invariant_of-self-in_err-insert
invariant_of-self-in_err-insert c =
    let old = c.self.inside in
    let was = c.self.invariant in
    let keys : c.insert.new.self.keys ≡ old.keys.keys = c.in_err-insert.ensures.err in
    let more = held_more old.names.keys c.add_name.new.names.keys old.keys.keys c.args.name.now was.distinct was.held c.in_ok-name.ensures.names in
    let grown = more.2 in
    let long = ap length keys in
    let few = was.few_keys in
    record {
      distinct = more.0;
      held = ap (list_all (is_held c.add_name.new.names.keys)) keys ∙ more.1;
      few_names = omega (arith, grown, c.if-len-most.false, c.len.ensures.len);
      few_keys = omega (arith, long, few);
    }

pub returns-in_err-insert-clause-err : goal.returns-in_err-insert-clause-err
returns-in_err-insert-clause-err c =
    let old = c.self.inside in
    let was = c.self.invariant in
    let keys : c.insert.new.self.keys ≡ old.keys.keys = c.in_err-insert.ensures.err in
    on_err c.from_residual-in_err-insert.result
    (ap (atoms_by c.add_name.new.names.keys) keys ∙ named_more old.names.keys c.add_name.new.names.keys old.keys.keys c.args.name.now was.held c.in_ok-name.ensures.names ∙ c.self.view_is)

pub invariant_of-self-2 : goal.invariant_of-self-2
invariant_of-self-2 c =
    let old = c.self.inside in
    let was = c.self.invariant in
    let keys = subst (λ (eq : Key → Key → Bool). c.insert.new.self.keys ≡ insert_key eq old.keys.keys (record { negative = c.args.negative; name = c.in_ok-name.name; row = c.args.row })) derived c.in_ok-insert.ensures.keys in
    let done = inserted old.names.keys c.add_name.new.names.keys old.keys.keys c.insert.new.self.keys c.args.negative c.args.name.now c.in_ok-name.name c.args.row was.distinct was.held c.in_ok-name.ensures.names c.in_ok-name.ensures.number keys in
    let names_few = done.names_few in
    let keys_few = done.keys_few in
    record {
      distinct = done.held.0;
      held = done.held.1;
      few_names = omega (arith, names_few, c.if-len-most.false, c.len.ensures.len);
      few_keys = omega (arith, keys_few, c.if-len-most-2.false, c.len-else-len-most.ensures.len);
    }

pub returns-clause-added : goal.returns-clause-added
returns-clause-added c =
    let old = c.self.inside in
    let was = c.self.invariant in
    let keys = subst (λ (eq : Key → Key → Bool). c.insert.new.self.keys ≡ insert_key eq old.keys.keys (record { negative = c.args.negative; name = c.in_ok-name.name; row = c.args.row })) derived c.in_ok-insert.ensures.keys in
    let done = inserted old.names.keys c.add_name.new.names.keys old.keys.keys c.insert.new.self.keys c.args.negative c.args.name.now c.in_ok-name.name c.args.row was.distinct was.held c.in_ok-name.ensures.names c.in_ok-name.ensures.number keys in
    let atom : NamedAtom = record { negative = c.args.negative; name = c.args.name.now; args = c.args.row } in
    done.atoms ∙ ap (λ (known : List NamedAtom). with_atom known atom) c.self.view_is
