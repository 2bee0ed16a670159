use Rattle.tel_settings.proofs.Lengths.{runs_so, status_tells}
use Rattle.tel_settings.proofs.running.printed_lengths.Goals as goal

pub returns-clause-run : goal.returns-clause-run
returns-clause-run c = runs_so

pub returns-clause-status : goal.returns-clause-status
returns-clause-status c = status_tells
