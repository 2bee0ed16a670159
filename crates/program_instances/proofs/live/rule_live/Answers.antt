use Rattle.program_instances.proofs.Bounds.{bound-terms}
use Rattle.program_instances.proofs.live.rule_live.Goals as goal

pub rule_bindings-requires-clause-rows : goal.rule_bindings-requires-clause-rows
rule_bindings-requires-clause-rows c =
    bound-terms c.args.program.now c.args.tables.now c.requires.ready c.requires.tables c.numbers.result.now c.tables.result.now c.numbers.ensures c.tables.ensures
