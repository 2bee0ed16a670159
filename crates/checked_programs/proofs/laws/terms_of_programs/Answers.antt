use Rattle.checked_programs.proofs.Texts.{programs_within}
use Rattle.checked_programs.proofs.Replacing.{replaced_within}
use Rattle.checked_programs.proofs.laws.terms_of_programs.Goals as goal

pub returns : goal.returns
returns c = record { read = programs_within; replaced = replaced_within }
