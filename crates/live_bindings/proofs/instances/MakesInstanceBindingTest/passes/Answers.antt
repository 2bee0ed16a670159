use Rattle.live_bindings.proofs.Found.{front_terms}
use Rattle.live_bindings.proofs.instances.MakesInstanceBindingTest.passes.Goals as goal

pub makes_instance-requires-clause-binding : goal.makes_instance-requires-clause-binding
makes_instance-requires-clause-binding c = front_terms c.args.symbols.now c.args.self.now.vars c.args.env.now c.requires.env
