use Rattle.std.proofs.Common.{◌∙◌, sym}
use Rattle.fact_rows.proofs.Heads.{no_place}
use Rattle.fact_rows.proofs.numbers.PredicateNumbers.name_number.Goals as goal

pub returns-in-None : goal.returns-in-None
returns-in-None c = c.len.ensures.len ∙ sym (no_place c.args.self.now.names.keys c.args.name.now (sym c.in-None.ensures.index))
