-- The open variables of a module.
use Rattle.std.specs.Prelude.{ℕ, ◌+◌, ◌*◌, List}
use Rattle.std.specs.List.{filter, range_with_len}
use Rattle.normal_program.specs.declared.modules.StepModule.{StepModule}
use Rattle.atom_space.specs.Numbers.{Counts, width}
use Rattle.horizon_external.specs.Occurring.{module_vars, occurs}

-- the variables of the state after it that it speaks of, rising
abbrev pub open_vars_of : Counts → StepModule → List ℕ
open_vars_of counts step = filter (λ (var : ℕ). occurs var (module_vars step)) (range_with_len ((step.t + 1) * width counts) (width counts))
