use Rattle.std.proofs.Common.{◌≡◌, ◌+◌, ◌-◌, ◌*◌, ◌≤◌, not, map, length, max, drop, nat_lt, if◌then◌else◌, List}
use Rattle.tel_rule.specs.declared.nodes.Kid.{Kid}
use Rattle.tel_rule.specs.declared.formulas.ManyOp.TheVariants as many
use Rattle.tel_semantics.specs.NodeFormula.{many_formula, kid_formula}
use Rattle.tel_semantics.specs.Walking.{holds_in, operand_formula, kid_rank, operand_rank, most_rank, back_formula, on_formula}
use Rattle.tel_semantics.proofs.walking.HtTrace.+walk.Given as goal

abbrev pub decreases-holds : goal.decreases-holds
decreases-holds l = 4 * operand_rank (length l.template.now.nodes) l.operand

abbrev pub decreases-node_holds : goal.decreases-node_holds
decreases-node_holds l = 4 * (length l.template.now.nodes - l.node) - 1

abbrev pub decreases-unary_holds : goal.decreases-unary_holds
decreases-unary_holds l = 4 * kid_rank (length l.template.now.nodes) l.kid + 2

abbrev pub decreases-binary_holds : goal.decreases-binary_holds
decreases-binary_holds l = 4 * max (kid_rank (length l.template.now.nodes) l.first) (kid_rank (length l.template.now.nodes) l.second) + 2

abbrev pub decreases-all_hold : goal.decreases-all_hold
decreases-all_hold l = 4 * most_rank (length l.template.now.nodes) l.kids.now + 1

abbrev pub decreases-some_holds : goal.decreases-some_holds
decreases-some_holds l = 4 * most_rank (length l.template.now.nodes) l.kids.now + 1

abbrev pub decreases-arrow_holds : goal.decreases-arrow_holds
decreases-arrow_holds l = 4 * max (operand_rank (length l.template.now.nodes) l.left) (operand_rank (length l.template.now.nodes) l.right) + 1

abbrev pub decreases-same_holds : goal.decreases-same_holds
decreases-same_holds l = 4 * max (operand_rank (length l.template.now.nodes) l.left) (operand_rank (length l.template.now.nodes) l.right) + 1

abbrev pub decreases-back_holds : goal.decreases-back_holds
decreases-back_holds l = 4 * max (operand_rank (length l.template.now.nodes) l.left) (operand_rank (length l.template.now.nodes) l.right) + 1

abbrev pub decreases-on_holds : goal.decreases-on_holds
decreases-on_holds l = 4 * max (operand_rank (length l.template.now.nodes) l.left) (operand_rank (length l.template.now.nodes) l.right) + 1

abbrev pub invariant-all_hold-loop-kid : goal.invariant-all_hold-loop-kid
invariant-all_hold-loop-kid l =
    let formula = λ (list : List Kid). many_formula many.And (map (kid_formula l.template.nodes) list) in
    holds_in l.self (formula l.kids) l.k ≡ holds_in l.self (formula (drop l.kid-index l.kids)) l.k

abbrev pub invariant-some_holds-loop-kid : goal.invariant-some_holds-loop-kid
invariant-some_holds-loop-kid l =
    let formula = λ (list : List Kid). many_formula many.Or (map (kid_formula l.template.nodes) list) in
    holds_in l.self (formula l.kids) l.k ≡ holds_in l.self (formula (drop l.kid-index l.kids)) l.k

abbrev pub invariant-back_holds-back : goal.invariant-back_holds-back
invariant-back_holds-back l =
    let formula = back_formula l.some (operand_formula l.template.nodes l.left) (operand_formula l.template.nodes l.right) in
    (l.at ≤ l.k) × (holds_in l.self formula l.k ≡ holds_in l.self formula l.at)

abbrev pub decreases-back_holds-back : goal.decreases-back_holds-back
decreases-back_holds-back l = l.at

abbrev pub invariant-on_holds-loop-j : goal.invariant-on_holds-loop-j
invariant-on_holds-loop-j l =
    let formula = on_formula l.some (operand_formula l.template.nodes l.left) (operand_formula l.template.nodes l.right) in
    holds_in l.self formula l.k ≡ (if nat_lt l.j l.self.length then holds_in l.self formula l.j else not l.some)
