use Rattle.std.proofs.Common.{◌≡◌, ◌+◌, ℕ, List, ◌∷◌, length, drop, suc, ap, sym, ◌∙◌, arith, add-one}
use Rattle.std.proofs.Math.Seq.{drop-cons}
use Rattle.std.proofs.lemmas.List.{drop_all}
use Rattle.std.proofs.lemmas.List.Sums.{sum_by-cons}
use Rattle.part_syntax.specs.Programs.{total_bytes}
use Rattle.part_syntax.proofs.Ranks.{so_more, so_last}
use Rattle.part_syntax.proofs.files.read_texts.Goals as goal

pub loop-bytes-preserved : goal.loop-bytes-preserved
loop-bytes-preserved c =
    let place = c.loop-bytes.bytes-index in
    let all = c.args.texts.now in
    let cell : drop place all ≡ c.bytes-item.result ∷ drop (place + 1) all =
    rw add-one (drop-cons all place c.bytes-item.result c.loop-bytes-test.true ∙ ap (λ (x : List ℕ). x ∷ drop (suc place) all) (sym c.bytes-item.is)) in
    let bytes : total_bytes (drop place all) ≡ length c.bytes-item.result + total_bytes (drop (place + 1) all) = ap total_bytes cell ∙ sum_by-cons (λ (text : List ℕ). length text) c.bytes-item.result (drop (place + 1) all) in
    let ok = c.in-Ok.ensures.ok in
    record {
      so = so_more c.args.levels all c.loop-bytes.file c.bytes-item.result (drop (place + 1) all) (drop place all) _ _ _ _ ok.0 cell c.loop-bytes.invariant.so ok.1 ok.2;
      file = omega (arith, c.loop-bytes.invariant.file);
      symbols = omega (arith, bytes, c.in-Ok.ensures.room, c.loop-bytes.invariant.symbols);
      statements = omega (arith, bytes, c.in-Ok.ensures.few, c.loop-bytes.invariant.statements);
    }

pub returns-clause-ok : goal.returns-clause-ok
returns-clause-ok c =
    so_last c.args.levels c.args.texts.now c.loop-bytes.file (drop c.loop-bytes.bytes-index c.args.texts.now) _ _ (drop_all c.loop-bytes.bytes-index c.args.texts.now (omega arith)) c.loop-bytes.invariant.so
