use Rattle.std.proofs.Common.{◌≡◌, take}
use Rattle.std.specs.List.{filter}
use Rattle.tel_semantics.specs.Equilibrium.{tem}
use Rattle.tel_semantics.proofs.listing.plain_list.Given as goal

abbrev pub invariant-loop-states : goal.invariant-loop-states
invariant-loop-states l = l.kept.items ≡ filter (tem l.template l.n) (take l.states-index l.states-items)
