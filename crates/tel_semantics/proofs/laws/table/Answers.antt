use Rattle.tel_semantics.proofs.TableRows.{follows_table}
use Rattle.tel_semantics.proofs.laws.table.Goals as goal

pub returns : goal.returns
returns c = follows_table
