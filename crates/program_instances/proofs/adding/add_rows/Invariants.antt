use Rattle.std.proofs.Common.{◌≡◌, ◌≤◌, length, drop}
use Rattle.tel_rule.specs.declared.statements.Kind.TheVariants as kinds
use Rattle.program_instances.specs.Gathered.{kind_named}
use Rattle.program_instances.specs.Adding.{with_all}
use Rattle.program_instances.proofs.adding.add_rows.Given as goal

abbrev pub invariant-loop-values : goal.invariant-loop-values
invariant-loop-values l = record {
  told : with_all l.atoms (kind_named (kinds.Facts l.fact) (drop l.values-index l.live)) ≡ with_all l.initial.atoms (kind_named (kinds.Facts l.fact) l.live);
  few : length l.atoms ≤ l.most;
}
