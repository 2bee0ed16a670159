use Rattle.checked_programs.proofs.FewNots.{programs_few, replaced_few}
use Rattle.checked_programs.proofs.laws.nots_of_programs.Goals as goal

pub returns : goal.returns
returns c = record { read = programs_few; replaced = replaced_few }
