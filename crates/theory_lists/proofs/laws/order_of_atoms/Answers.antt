use Rattle.theory_lists.proofs.AtomOrder.{atoms-total, atoms-one, atoms-rise}
use Rattle.theory_lists.proofs.laws.order_of_atoms.Goals as goal

pub returns : goal.returns
returns c = record { total = atoms-total; same = atoms-one; rise = atoms-rise }
