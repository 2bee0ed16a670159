use Rattle.std.proofs.Common.{◌≡◌, ℕ, ◌<◌, ◌≤◌, List, length, sym, subst, rules, arith}
use Rattle.walker_text.specs.Walker.{walker_text}
use Rattle.walker_text.proofs.Sizes.{walker-small}
use Rattle.walker_text.proofs.walker.generate.Goals as goal

pub returns-clause-small : goal.returns-clause-small
returns-clause-small c =
    let same : c.from_vec.result ≡ walker_text c.args.cells = search rules in
    subst (λ (bytes : List ℕ). length bytes ≤ 349) (sym same) (walker-small c.args.cells (omega (arith, c.ranges.cells)))
