use Rattle.std.proofs.Common.{◌≡◌, ◌≤◌, length, drop}
use Rattle.tel_rule.specs.declared.statements.Kind.TheVariants as kinds
use Rattle.program_instances.specs.Gathered.{kind_named}
use Rattle.program_instances.specs.Adding.{with_all}
use Rattle.program_instances.proofs.adding.add_bindings.Given as goal

abbrev pub invariant-loop-binding : goal.invariant-loop-binding
invariant-loop-binding l = record {
  told : with_all l.atoms (kind_named (kinds.Rule l.head l.body) (drop l.binding-index l.live)) ≡ with_all l.initial.atoms (kind_named (kinds.Rule l.head l.body) l.live);
  few : length l.atoms ≤ l.most;
}
