use Rattle.std.proofs.Common.{refl}
use Rattle.text_answer.proofs.Verdicts.{memory-delivers}
use Rattle.telingo_cli.proofs.top.answer_walker.Goals as goal

pub returns-in-Err-clause-delivers : goal.returns-in-Err-clause-delivers
returns-in-Err-clause-delivers g c = λ verdict is. memory-delivers c.args.settings.now verdict 71 (g.O.Sink.bytes c.args.out.now) (g.O.Sink.bytes c.args.out.now) refl refl
