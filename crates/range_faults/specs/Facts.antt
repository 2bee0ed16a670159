-- The first fault of expressions one after another.
use Rattle.std.specs.Prelude.{Bool, List, Option, Some, None}
use Rattle.std.specs.List.{list_any}
use Rattle.tel_term.specs.declared.arithmetic.EvalFault.{EvalFault}
use Rattle.tel_rule.specs.declared.statements.Arg.{Arg}
use Rattle.live_instances.specs.Reached.{tuple_fault}
use Rattle.range_faults.specs.Stops.{is_range}

-- the first fault, or else the later one
abbrev pub first_of : Option EvalFault → Option EvalFault → Option EvalFault
first_of None later = later
first_of (Some fault) later = Some fault

-- whether some tuple has a first fault that leaves the range
abbrev pub some_leaves : List (List Arg) → Bool
some_leaves tuples = list_any (λ (tuple : List Arg). is_range (tuple_fault tuple)) tuples
