use Rattle.std.proofs.Common.{sym, arith, rules}
use Rattle.tel_semantics.specs.Traces.{test_of}
use Rattle.tel_semantics.proofs.Quantifiers.{each_below-all, each_below-false, unless-false}
use Rattle.tel_semantics.proofs.listing.has_all_at.Goals as goal

pub returns-then-not-is_true_at : goal.returns-then-not-is_true_at
returns-then-not-is_true_at c =
    let at = c.loop-atom.atom in
    sym (each_below-false c.args.count _ at (omega arith) (unless-false (test_of c.args.large.now c.args.k at) (test_of c.args.small.now c.args.k at) (search rules) (search rules)))

pub returns : goal.returns
returns c = sym (each_below-all c.args.count _ (λ atom below. c.loop-atom.invariant atom (omega arith)))
