use Rattle.std.proofs.Common.{◌≡◌, ◌∙◌, ◌+◌, ◌<◌, List, length, map, drop, ap, subst, arith}
use Rattle.tel_term.specs.declared.terms.Value.{Value}
use Rattle.tel_rule.specs.declared.statements.Kind.TheVariants as kinds
use Rattle.atom_table.specs.Named.{NamedAtom, with_atom}
use Rattle.atom_table.specs.Collected.{fact_atom}
use Rattle.program_instances.specs.Gathered.{kind_named}
use Rattle.program_instances.proofs.Added.{all-over, next-one}
use Rattle.program_instances.proofs.adding.add_rows.Goals as goal

pub returns-then-most-len-clause-large : goal.returns-then-most-len-clause-large
returns-then-most-len-clause-large c = λ large.
    all-over c.args.atoms.now (kind_named (kinds.Facts c.args.fact.now) c.args.live.now) c.args.most (omega (arith, c.len.ensures.count, c.if-most-len.true))

pub returns-then-most-len-2-clause-large : goal.returns-then-most-len-2-clause-large
returns-then-most-len-2-clause-large c = λ large.
    let named = fact_atom c.args.fact.now in
    let live = c.args.live.now in
    let i = c.loop-values.values-index in
    let old = c.loop-values.atoms in
    let new = c.add_fact.new.self in
    let put : new ≡ with_atom old (named c.values-item.result) = c.in_ok-add_fact.ensures.added ∙ ap (λ (row : List Value). with_atom old (named row)) (c.in_ok-row.ensures ∙ c.as_slice.ensures) in
    let told = next-one live i c.values-item.result c.loop-values-test.true c.values-item.is named old new put ∙ c.loop-values.invariant.told in
    subst (λ (l : List NamedAtom). c.args.most < length l) told
    (all-over new (map named (drop (i + 1) live)) c.args.most (omega (arith, c.len-in-loop-values.ensures.count, c.if-most-len-2.true)))
