use Rattle.std.proofs.Common.{◌≡◌, Bool, true, false, not, ◌-◌, ◌+◌, length, sym, ap, subst, ◌∙◌, arith}
use Rattle.std.specs.Prelude.{nat_lt, if◌then◌else◌}
use Rattle.std.proofs.Math.Bool.{beq}
use Rattle.tel_rule.specs.declared.formulas.UnaryOp.{UnaryOp}
use Rattle.tel_rule.specs.declared.nodes.Kid.TheVariants as kids
use Rattle.tel_semantics.specs.NodeFormula.{unary_formula, kid_formula}
use Rattle.tel_semantics.specs.Satisfaction.{sat}
use Rattle.tel_semantics.specs.Traces.{test_of}
use Rattle.tel_semantics.specs.Walking.{seen, holds_in, operand_formula, back_formula, on_formula}
use Rattle.tel_semantics.proofs.Expansions.{back-step, on-step, reach-right, reach-left, reach-on, no_more, goes_on, initially-is, finally-is}
use Rattle.tel_semantics.proofs.Ranks.{kid_rank-most, in_range-at}
use Rattle.tel_semantics.proofs.walking.HtTrace.+walk.Goals as goal

pub all_hold-holds-requires : goal.all_hold-holds-requires
all_hold-holds-requires t c =
    let atoms = length c.args.template.now.atoms in
    let total = length c.args.template.now.nodes in
    let below = kid_rank-most total c.args.kids.now c.loop-kid.kid-index (kids.Atom 0) c.loop-kid-test.true in
    (omega (arith, below), (c.requires.within, in_range-at atoms total c.args.kids.now c.loop-kid.kid-index (kids.Atom 0) c.requires.in_range c.loop-kid-test.true))

pub some_holds-holds-requires : goal.some_holds-holds-requires
some_holds-holds-requires t c =
    let atoms = length c.args.template.now.atoms in
    let total = length c.args.template.now.nodes in
    let below = kid_rank-most total c.args.kids.now c.loop-kid.kid-index (kids.Atom 0) c.loop-kid-test.true in
    (omega (arith, below), (c.requires.within, in_range-at atoms total c.args.kids.now c.loop-kid.kid-index (kids.Atom 0) c.requires.in_range c.loop-kid-test.true))

pub unary_holds-returns-in-Initially : goal.unary_holds-returns-in-Initially
unary_holds-returns-in-Initially t c =
    let f = kid_formula c.args.template.now.nodes c.args.kid in
    let n = c.args.self.now.length in
    let H = test_of (seen c.args.self.now.world c.args.self.now.here.now c.args.self.now.there.now) in
    let T = test_of c.args.self.now.there.now in
    c.holds-in-Initially.ensures ∙ sym (ap (λ (op : UnaryOp). sat (unary_formula op f) n H T c.args.k) c.in-Initially.is ∙ initially-is f n H T c.args.k c.requires.within)

pub unary_holds-returns-in-Finally : goal.unary_holds-returns-in-Finally
unary_holds-returns-in-Finally t c =
    let f = kid_formula c.args.template.now.nodes c.args.kid in
    let n = c.args.self.now.length in
    let H = test_of (seen c.args.self.now.world c.args.self.now.here.now c.args.self.now.there.now) in
    let T = test_of c.args.self.now.there.now in
    c.holds-in-Finally.ensures ∙ sym (ap (λ (op : UnaryOp). sat (unary_formula op f) n H T c.args.k) c.in-Finally.is ∙ finally-is f n H T c.args.k c.requires.within)

pub back_holds-returns-then-holds-some : goal.back_holds-returns-then-holds-some
back_holds-returns-then-holds-some t c =
    let pair = c.args.self.now in
    let left = operand_formula c.args.template.now.nodes c.args.left in
    let right = operand_formula c.args.template.now.nodes c.args.right in
    let step = back-step c.args.some left right pair.length (test_of (seen pair.world pair.here.now pair.there.now)) (test_of pair.there.now) c.back.at in
    sym (c.back.invariant.1 ∙ step ∙ reach-right c.args.some (holds_in pair right c.back.at) (holds_in pair left c.back.at) (if nat_lt 0 c.back.at then holds_in pair (back_formula c.args.some left right) (c.back.at - 1) else not c.args.some) (subst (λ (b : Bool). beq b c.args.some ≡ true) c.holds.ensures c.if-holds-some.true))

pub back_holds-returns-then-holds-some-2 : goal.back_holds-returns-then-holds-some-2
back_holds-returns-then-holds-some-2 t c =
    let pair = c.args.self.now in
    let left = operand_formula c.args.template.now.nodes c.args.left in
    let right = operand_formula c.args.template.now.nodes c.args.right in
    let step = back-step c.args.some left right pair.length (test_of (seen pair.world pair.here.now pair.there.now)) (test_of pair.there.now) c.back.at in
    sym (c.back.invariant.1 ∙ step ∙ reach-left c.args.some (holds_in pair right c.back.at) (holds_in pair left c.back.at) (if nat_lt 0 c.back.at then holds_in pair (back_formula c.args.some left right) (c.back.at - 1) else not c.args.some) (subst (λ (b : Bool). beq b c.args.some ≡ false) c.holds.ensures c.if-holds-some.false) (subst (λ (b : Bool). not (beq b c.args.some) ≡ true) c.holds-in-back.ensures c.if-holds-some-2.true))

pub back_holds-returns-then-at-eq0 : goal.back_holds-returns-then-at-eq0
back_holds-returns-then-at-eq0 t c =
    let pair = c.args.self.now in
    let left = operand_formula c.args.template.now.nodes c.args.left in
    let right = operand_formula c.args.template.now.nodes c.args.right in
    let step = back-step c.args.some left right pair.length (test_of (seen pair.world pair.here.now pair.there.now)) (test_of pair.there.now) c.back.at in
    sym (c.back.invariant.1 ∙ step ∙ reach-on c.args.some (holds_in pair right c.back.at) (holds_in pair left c.back.at) (if nat_lt 0 c.back.at then holds_in pair (back_formula c.args.some left right) (c.back.at - 1) else not c.args.some) (subst (λ (b : Bool). beq b c.args.some ≡ false) c.holds.ensures c.if-holds-some.false) (subst (λ (b : Bool). not (beq b c.args.some) ≡ false) c.holds-in-back.ensures c.if-holds-some-2.false) ∙ no_more c.back.at (holds_in pair (back_formula c.args.some left right) (c.back.at - 1)) (not c.args.some) c.if-at-eq0.true)

pub back_holds-back-preserved : goal.back_holds-back-preserved
back_holds-back-preserved t c =
    let pair = c.args.self.now in
    let left = operand_formula c.args.template.now.nodes c.args.left in
    let right = operand_formula c.args.template.now.nodes c.args.right in
    let step = back-step c.args.some left right pair.length (test_of (seen pair.world pair.here.now pair.there.now)) (test_of pair.there.now) c.back.at in
    (omega (arith, c.back.invariant.0), c.back.invariant.1 ∙ step ∙ reach-on c.args.some (holds_in pair right c.back.at) (holds_in pair left c.back.at) (if nat_lt 0 c.back.at then holds_in pair (back_formula c.args.some left right) (c.back.at - 1) else not c.args.some) (subst (λ (b : Bool). beq b c.args.some ≡ false) c.holds.ensures c.if-holds-some.false) (subst (λ (b : Bool). not (beq b c.args.some) ≡ false) c.holds-in-back.ensures c.if-holds-some-2.false) ∙ goes_on 0 c.back.at (holds_in pair (back_formula c.args.some left right) (c.back.at - 1)) (not c.args.some) (omega (arith, c.if-at-eq0.false)))

pub on_holds-returns-then-holds-some : goal.on_holds-returns-then-holds-some
on_holds-returns-then-holds-some t c =
    let pair = c.args.self.now in
    let left = operand_formula c.args.template.now.nodes c.args.left in
    let right = operand_formula c.args.template.now.nodes c.args.right in
    let step = on-step c.args.some left right pair.length (test_of (seen pair.world pair.here.now pair.there.now)) (test_of pair.there.now) c.loop-j.j in
    sym ((c.loop-j.invariant ∙ goes_on c.loop-j.j pair.length (holds_in pair (on_formula c.args.some left right) c.loop-j.j) (not c.args.some) c.loop-j-test.true) ∙ step c.loop-j-test.true ∙ reach-right c.args.some (holds_in pair right c.loop-j.j) (holds_in pair left c.loop-j.j) (if nat_lt (c.loop-j.j + 1) pair.length then holds_in pair (on_formula c.args.some left right) (c.loop-j.j + 1) else not c.args.some) (subst (λ (b : Bool). beq b c.args.some ≡ true) c.holds.ensures c.if-holds-some.true))

pub on_holds-returns-then-holds-some-2 : goal.on_holds-returns-then-holds-some-2
on_holds-returns-then-holds-some-2 t c =
    let pair = c.args.self.now in
    let left = operand_formula c.args.template.now.nodes c.args.left in
    let right = operand_formula c.args.template.now.nodes c.args.right in
    let step = on-step c.args.some left right pair.length (test_of (seen pair.world pair.here.now pair.there.now)) (test_of pair.there.now) c.loop-j.j in
    sym ((c.loop-j.invariant ∙ goes_on c.loop-j.j pair.length (holds_in pair (on_formula c.args.some left right) c.loop-j.j) (not c.args.some) c.loop-j-test.true) ∙ step c.loop-j-test.true ∙ reach-left c.args.some (holds_in pair right c.loop-j.j) (holds_in pair left c.loop-j.j) (if nat_lt (c.loop-j.j + 1) pair.length then holds_in pair (on_formula c.args.some left right) (c.loop-j.j + 1) else not c.args.some) (subst (λ (b : Bool). beq b c.args.some ≡ false) c.holds.ensures c.if-holds-some.false) (subst (λ (b : Bool). not (beq b c.args.some) ≡ true) c.holds-in-loop-j.ensures c.if-holds-some-2.true))

pub on_holds-loop-j-preserved : goal.on_holds-loop-j-preserved
on_holds-loop-j-preserved t c =
    let pair = c.args.self.now in
    let left = operand_formula c.args.template.now.nodes c.args.left in
    let right = operand_formula c.args.template.now.nodes c.args.right in
    let step = on-step c.args.some left right pair.length (test_of (seen pair.world pair.here.now pair.there.now)) (test_of pair.there.now) c.loop-j.j in
    (c.loop-j.invariant ∙ goes_on c.loop-j.j pair.length (holds_in pair (on_formula c.args.some left right) c.loop-j.j) (not c.args.some) c.loop-j-test.true) ∙ step c.loop-j-test.true ∙ reach-on c.args.some (holds_in pair right c.loop-j.j) (holds_in pair left c.loop-j.j) (if nat_lt (c.loop-j.j + 1) pair.length then holds_in pair (on_formula c.args.some left right) (c.loop-j.j + 1) else not c.args.some) (subst (λ (b : Bool). beq b c.args.some ≡ false) c.holds.ensures c.if-holds-some.false) (subst (λ (b : Bool). not (beq b c.args.some) ≡ false) c.holds-in-loop-j.ensures c.if-holds-some-2.false)
