use Rattle.instance_laws.proofs.Rows.{rows-decided}
use Rattle.instance_laws.proofs.laws.few_rows_or_more.Goals as goal

pub returns : goal.returns
returns c = rows-decided
