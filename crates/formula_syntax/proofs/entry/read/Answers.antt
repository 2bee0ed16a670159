use Rattle.formula_syntax.proofs.Places.{read_up_to, syntax_at, too_deep_at}
use Rattle.formula_syntax.proofs.entry.read.Goals as goal

pub returns-in-Ok-clause-ok : goal.returns-in-Ok-clause-ok
returns-in-Ok-clause-ok g c =
    let onward = rw c.new-reading.ensures at c.go_on-outcome.ensures.onward in
    let reads = rw c.new-reading.ensures at c.in-Ok.ensures.reads in
    read_up_to (g.T.Tree.reader c.args.levels) c.args.names.now c.finish-end.new.names c.args.tokens.now c.args.place c.finish-end.result c.go_on-outcome.new.reading c.in-Ok.tree c.requires.within onward c.finish-end.ensures.place c.finish-end.ensures.names reads

pub returns-in-Err-clause-syntax : goal.returns-in-Err-clause-syntax
returns-in-Err-clause-syntax g c =
    let onward = rw c.new-reading.ensures at c.go_on-outcome.ensures.onward in
    let reads = rw c.new-reading.ensures at c.in-Err.ensures.reads in
    syntax_at (g.T.Tree.reader c.args.levels) c.args.names.now c.args.tokens.now c.args.place c.finish-end.result c.go_on-outcome.new.reading c.in-Err.stop c.fault.result c.requires.within onward c.finish-end.ensures.place c.fault.ensures reads

pub returns-in-Err-clause-too_deep : goal.returns-in-Err-clause-too_deep
returns-in-Err-clause-too_deep g c =
    let onward = rw c.new-reading.ensures at c.go_on-outcome.ensures.onward in
    let reads = rw c.new-reading.ensures at c.in-Err.ensures.reads in
    too_deep_at (g.T.Tree.reader c.args.levels) c.args.names.now c.args.tokens.now c.args.place c.finish-end.result c.go_on-outcome.new.reading c.in-Err.stop c.fault.result c.requires.within onward c.finish-end.ensures.place c.fault.ensures reads
