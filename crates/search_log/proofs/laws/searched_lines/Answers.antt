use Rattle.search_log.proofs.WrittenLines.{order_written}
use Rattle.search_log.proofs.HeldLines.{lines_alike, came_searched}
use Rattle.search_log.proofs.laws.searched_lines.Goals as goal

pub returns-clause-written : goal.returns-clause-written
returns-clause-written c = order_written

pub returns-clause-searched : goal.returns-clause-searched
returns-clause-searched c = λ length bound start held sets count log fits heads came are. came_searched length bound start fits heads held sets count log came are

pub returns-clause-alike : goal.returns-clause-alike
returns-clause-alike c = λ length bound start held log are. lines_alike bound length.ground start held log are
