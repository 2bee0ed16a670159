use Rattle.std.proofs.Common.{◌≡◌, length, subst, arith, true}
use Rattle.std.proofs.lemmas.Bool.{eqb-true}
use Rattle.tel_rule.specs.declared.nodes.NodeOp.{NodeOp}
use Rattle.tel_rule.specs.declared.nodes.Kid.TheVariants as kids
use Rattle.tel_rule.specs.Nodes.{takes_kids}
use Rattle.tel_semantics.proofs.Ranks.{in_range-at}
use Rattle.formula_unfold.proofs.nodes.shape_of.Goals as goal

pub bounds-kids-0 : goal.bounds-kids-0
bounds-kids-0 c =
    let count = eqb-true (length c.args.kids.now) 1 (subst (λ (op : NodeOp). takes_kids op (length c.args.kids.now) ≡ true) c.in-Unary.is c.requires.count) in
    omega (arith, count)

pub unary-requires-clause-in_range : goal.unary-requires-clause-in_range
unary-requires-clause-in_range c =
    let count = eqb-true (length c.args.kids.now) 1 (subst (λ (op : NodeOp). takes_kids op (length c.args.kids.now) ≡ true) c.in-Unary.is c.requires.count) in
    in_range-at c.args.space.now.counts.atoms c.args.space.now.counts.nodes c.args.kids.now 0 (kids.Atom 0) c.requires.in_range (omega (arith, count))

pub bounds-kids-0-in-Binary : goal.bounds-kids-0-in-Binary
bounds-kids-0-in-Binary c =
    let count = eqb-true (length c.args.kids.now) 2 (subst (λ (op : NodeOp). takes_kids op (length c.args.kids.now) ≡ true) c.in-Binary.is c.requires.count) in
    omega (arith, count)

pub bounds-kids-1 : goal.bounds-kids-1
bounds-kids-1 c =
    let count = eqb-true (length c.args.kids.now) 2 (subst (λ (op : NodeOp). takes_kids op (length c.args.kids.now) ≡ true) c.in-Binary.is c.requires.count) in
    omega (arith, count)

pub binary-requires-clause-left : goal.binary-requires-clause-left
binary-requires-clause-left c =
    let count = eqb-true (length c.args.kids.now) 2 (subst (λ (op : NodeOp). takes_kids op (length c.args.kids.now) ≡ true) c.in-Binary.is c.requires.count) in
    in_range-at c.args.space.now.counts.atoms c.args.space.now.counts.nodes c.args.kids.now 0 (kids.Atom 0) c.requires.in_range (omega (arith, count))

pub binary-requires-clause-right : goal.binary-requires-clause-right
binary-requires-clause-right c =
    let count = eqb-true (length c.args.kids.now) 2 (subst (λ (op : NodeOp). takes_kids op (length c.args.kids.now) ≡ true) c.in-Binary.is c.requires.count) in
    in_range-at c.args.space.now.counts.atoms c.args.space.now.counts.nodes c.args.kids.now 1 (kids.Atom 0) c.requires.in_range (omega (arith, count))
