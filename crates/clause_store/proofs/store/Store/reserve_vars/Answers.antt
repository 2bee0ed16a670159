use Rattle.std.proofs.Common.{arith}
use Rattle.clause_store.proofs.FlatSteps.{flat_wider}
use Rattle.clause_store.proofs.store.Store.reserve_vars.Goals as goal

pub invariant_of-self : goal.invariant_of-self
invariant_of-self c =
    let m = c.max-self-inside.ensures in
    flat_wider c.self.inside.vars c.max-self-inside.result c.self.inside.lits.items c.self.inside.heads.items (omega (arith, m)) c.self.invariant
