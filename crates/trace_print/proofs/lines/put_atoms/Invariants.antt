use Rattle.std.proofs.Common.{drop}
use Rattle.std.specs.List.{flat_map}
use Rattle.tel_semantics.specs.Print.{atom_text}
use Rattle.trace_print.proofs.Steps.{PutSoFar}
use Rattle.trace_print.proofs.lines.put_atoms.Given as goal

abbrev pub invariant-loop-atom : goal.invariant-loop-atom
invariant-loop-atom g l =
    let text = flat_map (atom_text l.template) in
    PutSoFar (text l.state) (text (drop l.atom-index l.state)) (g.O.Sink.bytes l.initial.out) (g.O.Sink.bytes l.out) l.initial.waiting.items l.waiting.items (g.O.Sink.faults l.initial.out) (g.O.Sink.faults l.out)
