use Rattle.tel_base.proofs.Told.{appends-then-ok, front-then-err}
use Rattle.text_answer.proofs.refusing.write_two.Goals as goal

pub returns-clause-ok : goal.returns-clause-ok
returns-clause-ok g c = appends-then-ok c.write_whole-2.result _ _ _ c.args.first.now c.args.second.now c.in_ok-write_whole.ensures.ok c.write_whole-2.ensures.ok

pub returns-clause-err : goal.returns-clause-err
returns-clause-err g c = front-then-err c.write_whole-2.result _ _ _ c.args.first.now c.args.second.now c.in_ok-write_whole.ensures.ok c.write_whole-2.ensures.err
