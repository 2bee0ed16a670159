use Rattle.std.proofs.Common.{◌≡◌, ◌∙◌, ◌+◌, ◌<◌, List, length, map, drop, ap, subst, arith}
use Rattle.std.specs.List.{flat_map}
use Rattle.tel_term.specs.declared.terms.Value.{Value}
use Rattle.tel_rule.specs.declared.statements.Kind.TheVariants as kinds
use Rattle.atom_table.specs.Named.{NamedAtom}
use Rattle.atom_table.specs.Collected.{atom_under, rule_atoms}
use Rattle.program_instances.specs.Gathered.{kind_named}
use Rattle.program_instances.specs.Adding.{with_all}
use Rattle.program_instances.proofs.Added.{all-over, with_atoms-all, next-many}
use Rattle.program_instances.proofs.adding.add_bindings.Goals as goal

pub returns-then-most-len-clause-large : goal.returns-then-most-len-clause-large
returns-then-most-len-clause-large c = λ large.
    all-over c.args.atoms.now (kind_named (kinds.Rule c.args.head.now c.args.body.now) c.args.live.now) c.args.most (omega (arith, c.len.ensures.count, c.if-most-len.true))

pub returns-then-most-len-2-clause-large : goal.returns-then-most-len-2-clause-large
returns-then-most-len-2-clause-large c = λ large.
    let atoms = rule_atoms c.args.head.now c.args.body.now in
    let named = λ (binding : List Value). map (atom_under binding) atoms in
    let live = c.args.live.now in
    let i = c.loop-binding.binding-index in
    let old = c.loop-binding.atoms in
    let new = c.add_rule.new.self in
    let put : new ≡ with_all old (named c.binding-item.result) = c.in_ok-add_rule.ensures ∙ with_atoms-all c.as_slice.result.now atoms old ∙ ap (λ (binding : List Value). with_all old (named binding)) c.as_slice.ensures in
    let told = next-many live i c.binding-item.result c.loop-binding-test.true c.binding-item.is named old new put ∙ c.loop-binding.invariant.told in
    subst (λ (l : List NamedAtom). c.args.most < length l) told
    (all-over new (flat_map named (drop (i + 1) live)) c.args.most (omega (arith, c.len-in-loop-binding.ensures.count, c.if-most-len-2.true)))

pub loop-binding-preserved : goal.loop-binding-preserved
loop-binding-preserved c =
    let atoms = rule_atoms c.args.head.now c.args.body.now in
    let named = λ (binding : List Value). map (atom_under binding) atoms in
    let old = c.loop-binding.atoms in
    let new = c.add_rule.new.self in
    let put : new ≡ with_all old (named c.binding-item.result) = c.in_ok-add_rule.ensures ∙ with_atoms-all c.as_slice.result.now atoms old ∙ ap (λ (binding : List Value). with_all old (named binding)) c.as_slice.ensures in
    record {
      told = next-many c.args.live.now c.loop-binding.binding-index c.binding-item.result c.loop-binding-test.true c.binding-item.is named old new put ∙ c.loop-binding.invariant.told;
      few = omega (arith, c.len-in-loop-binding.ensures.count, c.if-most-len-2.false);
    }
