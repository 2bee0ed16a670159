use Rattle.std.proofs.Common.{sym, arith, rules, below_more}
use Rattle.tel_semantics.proofs.Quantifiers.{each_below-all, each_below-false}
use Rattle.tel_semantics.proofs.listing.has_all.Goals as goal

pub returns-then-not-has_all_at : goal.returns-then-not-has_all_at
returns-then-not-has_all_at c =
    sym (each_below-false c.args.length _ c.loop-k.k (omega arith) (search rules))

pub loop-k-preserved : goal.loop-k-preserved
loop-k-preserved c = below_more _ _ c.loop-k.invariant (search rules)

pub returns : goal.returns
returns c = sym (each_below-all c.args.length _ (λ k below. c.loop-k.invariant k (omega arith)))
