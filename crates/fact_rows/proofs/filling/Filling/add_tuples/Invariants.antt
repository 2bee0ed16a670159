use Rattle.std.proofs.Common.{drop}
use Rattle.std.specs.List.{flat_map}
use Rattle.fact_rows.specs.Forms.{number_in}
use Rattle.fact_rows.specs.Filling.{tuple_stated, fact_stated}
use Rattle.fact_rows.proofs.Held.{Leads}
use Rattle.fact_rows.proofs.filling.Filling.add_tuples.Given as goal

abbrev pub invariant-loop-tuple : goal.invariant-loop-tuple
invariant-loop-tuple l =
    Leads (number_in l.numbers) (flat_map (tuple_stated (number_in l.numbers) l.fact) (drop l.tuple-index l.fact.tuples)) (fact_stated (number_in l.numbers) l.fact) l.initial.self l.self
