use Rattle.std.proofs.Common.{◌≡◌, sym, ap, ◌∙◌}
use Rattle.formula_syntax.specs.Points.{Point, words_of}
use Rattle.part_syntax.proofs.Whole.{no_vars, words_whole, words_left, words_stuck}
use Rattle.part_syntax.proofs.files.read_tokens.Goals as goal

pub returns-in-Some-clause-err : goal.returns-in-Some-clause-err
returns-in-Some-clause-err c = λ some.
    let left : words_of c.reading.inside.tokens.now ≡ c.text.new.reading.words = ap (λ (p : Point). p.words) c.reading.view_is in
    words_left c.args.levels _ (words_of c.args.tokens.now) c.args.before.symbols c.args.before.statements c.in-Ok.statements c.text.new.reading c.args.fault c.args.end c.in-Some.fault (words_of c.reading.inside.tokens.now) (no_vars c.args.before.symbols c.keyed-vars.result (words_of c.args.tokens.now) c.keyed-vars.ensures) c.in-Ok.ensures.reads left (sym c.in-Some.is ∙ c.left_over.ensures)

pub returns-in-None-clause-ok : goal.returns-in-None-clause-ok
returns-in-None-clause-ok c =
    let left : words_of c.reading.inside.tokens.now ≡ c.text.new.reading.words = ap (λ (p : Point). p.words) c.reading.view_is in
    let later : c.reading.inside.names.symbols ≡ c.text.new.reading.known.symbols = ap (λ (p : Point). p.known.symbols) c.reading.view_is in
    words_whole c.args.levels _ (words_of c.args.tokens.now) c.args.before.symbols c.args.before.statements c.in-Ok.statements c.text.new.reading c.args.fault (words_of c.reading.inside.tokens.now) c.reading.inside.names.symbols (no_vars c.args.before.symbols c.keyed-vars.result (words_of c.args.tokens.now) c.keyed-vars.ensures) c.in-Ok.ensures.reads left later (sym c.in-None.is ∙ c.left_over.ensures)

pub returns-in-Err-clause-err : goal.returns-in-Err-clause-err
returns-in-Err-clause-err c = λ some.
    let left : words_of c.reading.inside.tokens.now ≡ c.text.new.reading.words = ap (λ (p : Point). p.words) c.reading.view_is in
    words_stuck c.args.levels _ (words_of c.args.tokens.now) c.args.before.symbols c.args.before.statements c.text.new.reading c.args.fault c.args.end c.in-Err.stop c.stuck_at.result (words_of c.reading.inside.tokens.now) (no_vars c.args.before.symbols c.keyed-vars.result (words_of c.args.tokens.now) c.keyed-vars.ensures) c.in-Err.ensures.reads left c.stuck_at.ensures.other c.stuck_at.ensures.memory some
