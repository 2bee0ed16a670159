use Rattle.checked_programs.proofs.Sound.{sound_bound, replaced_sound}
use Rattle.checked_programs.proofs.laws.sound_programs.Goals as goal

pub returns : goal.returns
returns c = record { bound = sound_bound; replaced = replaced_sound }
