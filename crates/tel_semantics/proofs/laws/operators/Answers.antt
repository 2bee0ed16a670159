use Rattle.tel_semantics.proofs.TableRows.{means_its_name}
use Rattle.tel_semantics.proofs.laws.operators.Goals as goal

pub returns : goal.returns
returns c = means_its_name
