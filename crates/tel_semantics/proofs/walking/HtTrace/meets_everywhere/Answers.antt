use Rattle.std.proofs.Common.{sym, arith, rules}
use Rattle.tel_semantics.proofs.Quantifiers.{each_below-all, each_below-false}
use Rattle.tel_semantics.proofs.walking.HtTrace.meets_everywhere.Goals as goal

pub returns-then-not-meets_at : goal.returns-then-not-meets_at
returns-then-not-meets_at c =
    sym (each_below-false c.args.self.now.length _ c.loop-k.k (omega arith) (search rules))

pub returns : goal.returns
returns c = sym (each_below-all c.args.self.now.length _ (λ k below. c.loop-k.invariant k (omega arith)))
