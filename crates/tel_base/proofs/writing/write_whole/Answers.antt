use Rattle.std.proofs.Common.{◌∙◌, take, drop, arith}
use Rattle.std.proofs.Math.Seq.{take-add}
use Rattle.std.proofs.lemmas.List.{take_rest, length-drop}
use Rattle.tel_base.proofs.Told.{appends-parts}
use Rattle.tel_base.proofs.writing.write_whole.Goals as goal

pub writing-preserved : goal.writing-preserved
writing-preserved g c =
    let piece = c.args.piece.now in
    let done = c.writing.done in
    record {
      within = omega (arith, rw (take_rest piece done, length-drop done piece) at c.in-Ok.ensures.room);
      taken = appends-parts _ _ _ (take done piece) (take c.in-Ok.count (drop done piece)) _
          (take-add done c.in-Ok.count piece) c.writing.invariant.taken (rw (take_rest piece done) at c.in-Ok.ensures.taken);
      stands = c.in-Ok.ensures.cause.stands ∙ c.writing.invariant.stands;
    }
