use Rattle.live_instances.proofs.BindingOrder.{bindings-total, bindings-level}
use Rattle.live_instances.proofs.laws.order_of_bindings.Goals as goal

pub returns : goal.returns
returns c = record { total = bindings-total; level = bindings-level }
