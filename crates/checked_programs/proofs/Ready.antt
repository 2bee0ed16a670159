-- What is known in all of programs as they are read and checked.
use Rattle.tel_base.proofs.Members.{list_all-from_In}
use Rattle.tel_rule.specs.declared.statements.Statement.{Statement}
use Rattle.program_theory.specs.Templates.{is_guarded_kind}
use Rattle.checked_programs.specs.Laws.{ProgramsAreReadable, CheckedProgramsAreReady}
use Rattle.checked_programs.proofs.FewNots.{programs_few, replaced_few}
use Rattle.checked_programs.proofs.Growing.{programs_tables, replaced_tables, programs_short, replaced_short}
use Rattle.checked_programs.proofs.Replacing.{replaced_within}
use Rattle.checked_programs.proofs.Sound.{sound_bound, replaced_sound}
use Rattle.checked_programs.proofs.Texts.{programs_within}

pub is_readable : ProgramsAreReadable
is_readable texts program reads small = record {
  table = programs_tables texts program reads small;
  within = programs_within texts program reads;
  nots = programs_few texts program reads;
  few = programs_short texts program reads small;
}

pub is_ready : CheckedProgramsAreReady
is_ready program replaced read sound is =
    let kept = replaced_sound program replaced is sound in
    record {
      table = replaced_tables program replaced is read.table;
      within = replaced_within program replaced is read.within;
      bound = λ statement there. (sound_bound replaced kept statement there).bound;
      guarded = list_all-from_In (λ (statement : Statement). is_guarded_kind statement.kind) replaced.statements (λ statement there. (sound_bound replaced kept statement there).guarded);
      nots = replaced_few program replaced is read.nots;
      few = replaced_short program replaced is read.few;
    }
