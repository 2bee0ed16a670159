use Rattle.std.proofs.Common.{◌≡◌, length, sym, ap, subst, ◌∙◌, refl, true, List, get_or}
use Rattle.std.specs.List.{list_all}
use Rattle.tel_rule.specs.declared.nodes.Kid.{Kid}
use Rattle.tel_rule.specs.declared.nodes.Node.{Node}
use Rattle.formula_unfold.specs.Nodes.{node_of}
use Rattle.formula_unfold.proofs.NodeReads.{get_same}
use Rattle.tel_rule.specs.Nodes.{kid_in_range}
use Rattle.tel_rule.specs.Ground.{Ground, IsGround}
use Rattle.tel_semantics.proofs.NodeLaws.{node_read}
use Rattle.tel_semantics.proofs.Ranks.{kids-in_range}
use Rattle.atom_space.specs.Numbers.{Counts, part}
use Rattle.formula_unfold.specs.Nodes.{counts_of}
use Rattle.formula_unfold.specs.Unfold.{op_shape}
use Rattle.formula_unfold.proofs.nodes.unfold.Goals as goal

pub shape_of-requires-clause-count : goal.shape_of-requires-clause-count
shape_of-requires-clause-count c =
    let ground = subst (λ (p : Ground). IsGround p) c.template.view_is c.template.invariant in
    let nodes = c.as_slice.ensures ∙ ap (λ (p : Ground). p.nodes) c.template.view_is in
    let found = c.index-as_slice-node.result in
    let node = node_read c.args.template.now c.args.node found c.as_slice.result.now found.op c.as_slice-2.result.now ground c.requires.node nodes c.index-as_slice-node.is refl c.as_slice-2.ensures in
    node.counted

pub shape_of-requires-clause-in_range : goal.shape_of-requires-clause-in_range
shape_of-requires-clause-in_range c =
    let ground = subst (λ (p : Ground). IsGround p) c.template.view_is c.template.invariant in
    let nodes = c.as_slice.ensures ∙ ap (λ (p : Ground). p.nodes) c.template.view_is in
    let found = c.index-as_slice-node.result in
    let node = node_read c.args.template.now c.args.node found c.as_slice.result.now found.op c.as_slice-2.result.now ground c.requires.node nodes c.index-as_slice-node.is refl c.as_slice-2.ensures in
    let right = kids-in_range (length c.args.template.now.atoms) (length c.args.template.now.nodes) c.args.node c.as_slice-2.result.now node.right in
    subst (λ (k : Counts). list_all (kid_in_range k.atoms k.nodes) c.as_slice-2.result.now ≡ true) (sym c.requires.counts) right

pub returns : goal.returns
returns c =
    let program = c.args.template.now in
    let nodes = c.as_slice.ensures ∙ ap (λ (p : Ground). p.nodes) c.template.view_is in
    let found = c.index-as_slice-node.result in
    let there : found ≡ get_or program.nodes c.args.node found = c.index-as_slice-node.is ∙ ap (λ (all : List Node). get_or all c.args.node found) nodes in
    let same : found ≡ node_of program.nodes c.args.node = there ∙ get_same program.nodes c.args.node found _ c.requires.node in
    let shape = c.in_ok-shape.ensures ∙ ap (λ (k : Counts). op_shape k found.op c.as_slice-2.result.now c.args.node c.args.t) c.requires.counts
    ∙ ap (λ (list : List Kid). op_shape (counts_of program) found.op list c.args.node c.args.t) c.as_slice-2.ensures
    ∙ ap (λ (n : Node). op_shape (counts_of program) n.op n.kids c.args.node c.args.t) same in
    let var = c.part.ensures ∙ ap (λ (k : Counts). part k c.args.node c.args.t) c.requires.counts in
    λ i. record { var = var i; shape = shape i }
