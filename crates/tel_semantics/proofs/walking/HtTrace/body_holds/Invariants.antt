use Rattle.std.proofs.Common.{◌≡◌, drop}
use Rattle.tel_semantics.specs.Theory.{body_formula}
use Rattle.tel_semantics.specs.Walking.{holds_in}
use Rattle.tel_semantics.proofs.walking.HtTrace.body_holds.Given as goal

abbrev pub invariant-loop-literal : goal.invariant-loop-literal
invariant-loop-literal l =
    holds_in l.self (body_formula l.template.nodes l.body) l.k ≡ holds_in l.self (body_formula l.template.nodes (drop l.literal-index l.body)) l.k
