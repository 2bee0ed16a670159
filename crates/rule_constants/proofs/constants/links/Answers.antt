use Rattle.rule_constants.specs.Constants.{term_definition}
use Rattle.rule_constants.proofs.Definitions.{take-map_more}
use Rattle.rule_constants.proofs.constants.links.Goals as goal

pub loop-number-preserved : goal.loop-number-preserved
loop-number-preserved c =
    let S = c.args.statements.now in
    let f = term_definition S in
    let more = take-map_more f c.args.symbols.now c.loop-number.number c.term.result.now c.term.ensures in
    cc (more, c.loop-number.invariant, c.in_ok-push.ensures.items, c.link_of-link.ensures)
