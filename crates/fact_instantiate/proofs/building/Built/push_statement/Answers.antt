use Rattle.std.proofs.Common.{◌++◌, length, sym, ◌∙◌}
use Rattle.std.proofs.lemmas.List.{append-nil}
use Rattle.instance_build.specs.Instances.{in_row}
use Rattle.fact_instantiate.specs.Building.{built_kind}
use Rattle.fact_instantiate.proofs.RowSteps.{facts_in_row}
use Rattle.fact_instantiate.proofs.building.Built.push_statement.Goals as goal

pub returns-in_ok-push_fact-in-Facts-clause-instances : goal.returns-in_ok-push_fact-in-Facts-clause-instances
returns-in_ok-push_fact-in-Facts-clause-instances c =
    let first = length c.args.self.now.nodes in
    let row = facts_in_row c.args.numbers.now c.args.number c.args.statement.now.part c.in-Facts.fact c.args.live.now first in
    c.in_ok-push_fact-in-Facts.ensures.instances
    ∙ (λ i. c.args.self.now.instances ++ (sym row i).0)
    ∙ (λ i. c.args.self.now.instances ++ (in_row (built_kind c.args.numbers.now c.args.number c.args.statement.now.part (sym c.in-Facts.is i) c.args.live.now) first).0)

pub returns-in_ok-push_fact-in-Facts-clause-nodes : goal.returns-in_ok-push_fact-in-Facts-clause-nodes
returns-in_ok-push_fact-in-Facts-clause-nodes c =
    let first = length c.args.self.now.nodes in
    let row = facts_in_row c.args.numbers.now c.args.number c.args.statement.now.part c.in-Facts.fact c.args.live.now first in
    c.in_ok-push_fact-in-Facts.ensures.nodes
    ∙ sym (append-nil c.args.self.now.nodes)
    ∙ (λ i. c.args.self.now.nodes ++ (sym row i).1)
    ∙ (λ i. c.args.self.now.nodes ++ (in_row (built_kind c.args.numbers.now c.args.number c.args.statement.now.part (sym c.in-Facts.is i) c.args.live.now) first).1)
