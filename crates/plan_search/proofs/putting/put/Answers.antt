use Rattle.std.proofs.Common.{ap, ◌∙◌}
use Rattle.std.specs.List.{list_all}
use Rattle.plan_search.proofs.Terms.{all_set}
use Rattle.plan_search.proofs.putting.put.Goals as goal

pub returns-in-New-clause-pass : goal.returns-in-New-clause-pass
returns-in-New-clause-pass c = λ test one all. ap (list_all test) c.set.ensures ∙ all_set test c.args.env.now c.in-New.place c.args.value one all
