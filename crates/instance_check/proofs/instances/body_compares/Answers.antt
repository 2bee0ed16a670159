use Rattle.std.proofs.Common.{sym}
use Rattle.tel_base.proofs.Members.{In-get_or}
use Rattle.instance_check.proofs.instances.body_compares.Goals as goal

pub item_compares-requires-clause-terms : goal.item_compares-requires-clause-terms
item_compares-requires-clause-terms c = c.requires.terms c.literal-item.result (In-get_or c.args.body.now c.loop-literal.literal-index c.literal-item.result c.loop-literal-test.true (sym c.literal-item.is))
