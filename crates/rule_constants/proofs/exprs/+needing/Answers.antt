use Rattle.std.proofs.lemmas.List.{append_assoc}
use Rattle.rule_constants.specs.Constants.{needs_of, operand_lists}
use Rattle.rule_constants.specs.Operands.{each_needs}
use Rattle.rule_constants.proofs.ExprLayers.{needs-sum, needs-product}
use Rattle.rule_constants.proofs.exprs.+needing.Goals as goal

pub push_needs-returns-in_ok-push_sum_needs-in-Sum : goal.push_needs-returns-in_ok-push_sum_needs-in-Sum
push_needs-returns-in_ok-push_sum_needs-in-Sum t c =
    let links = c.args.links.now in
    let is = needs-sum links c.in-Sum.first c.in-Sum.more in
    let assoc = append_assoc c.args.needs.now.items (needs_of links c.in-Sum.first) (operand_lists (each_needs links c.in-Sum.more)) in
    cc (is, assoc, c.in-Sum.is, c.get-in-Sum.ensures, c.as_slice.ensures, c.in_ok-push_needs-in-Sum.ensures, c.in_ok-push_sum_needs-in-Sum.ensures)

pub push_needs-returns-in_ok-push_product_needs-in-Product : goal.push_needs-returns-in_ok-push_product_needs-in-Product
push_needs-returns-in_ok-push_product_needs-in-Product t c =
    let links = c.args.links.now in
    let is = needs-product links c.in-Product.first c.in-Product.more in
    let assoc = append_assoc c.args.needs.now.items (needs_of links c.in-Product.first) (operand_lists (each_needs links c.in-Product.more)) in
    cc (is, assoc, c.in-Product.is, c.get-in-Product.ensures, c.as_slice-in-Product.ensures, c.in_ok-push_needs-in-Product.ensures, c.in_ok-push_product_needs-in-Product.ensures)
