use Rattle.std.proofs.Common.{refl}
use Rattle.text_answer.proofs.Verdicts.{memory-delivers}
use Rattle.telingo_cli.proofs.top.answer_words.Goals as goal

pub returns-in-Err-Memory-clause-delivers : goal.returns-in-Err-Memory-clause-delivers
returns-in-Err-Memory-clause-delivers g c = λ settings whole verdict texts reads is. memory-delivers settings verdict 71 (g.O.Sink.bytes c.args.out.now) (g.O.Sink.bytes c.args.out.now) refl refl
