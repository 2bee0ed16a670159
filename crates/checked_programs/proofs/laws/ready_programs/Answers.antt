use Rattle.checked_programs.proofs.Ready.{is_readable, is_ready}
use Rattle.checked_programs.proofs.laws.ready_programs.Goals as goal

pub returns : goal.returns
returns c = record { read = is_readable; checked = is_ready }
