use Rattle.std.proofs.Common.{◌≡◌, ℕ, ◌+◌, ◌-◌, Bool, cond, List, ◌∷◌, [], ◌++◌, Err, Option, sym, ap, ◌∙◌, subst, take, IfSome, arith}
use Rattle.tel_base.specs.Counts.{Rose}
use Rattle.part_syntax.specs.Programs.{total_bytes}
use Rattle.telingo_cli.specs.Reading.{IsTold, HasMore}
use Rattle.telingo_cli.specs.Texts.{AreTold, first_place}
use Rattle.telingo_cli.proofs.TextSteps.{told-more, total-more, large_files, fails-at}
use Rattle.telingo_cli.proofs.files.read_files.Goals as goal

pub returns-in-Err-Large-clause-large : goal.returns-in-Err-Large-clause-large
returns-in-Err-Large-clause-large g c = λ _.
    let inv = c.loop-word.invariant in
    let told = g.S.Source.text c.args.texts.now in
    let name = c.word-item.result in
    let here = ap (g.S.Source.text c.loop-word.texts) c.as_str.ensures ∙ inv.texts name in
    let most = 1048576 - c.loop-word.total in
    let more = subst (λ (o : Option (List ℕ)). HasMore o most) here (c.in-Err-Large.ensures.large (ap Err c.in-Err-Large.field-0-is)) in
    large_files told c.args.words.now c.loop-word.read.items c.loop-word.word-index most name c.loop-word-test.true c.word-item.is inv.told (omega (arith, inv.total, inv.small)) more

pub returns-in-Err-Read-clause-read_only : goal.returns-in-Err-Read-clause-read_only
returns-in-Err-Read-clause-read_only g c = λ place is.
    let inv = c.loop-word.invariant in
    let told = g.S.Source.text c.args.texts.now in
    let name = c.word-item.result in
    let same : c.first_place.result ≡ place = cc in
    let rose = c.in-Err-Read.ensures.read_only (ap Err c.in-Err-Read.field-0-is) in
    let named = c.in-Err-Read.ensures.read_named (ap Err c.in-Err-Read.field-0-is) in
    let faults = g.S.Source.faults in (
      name,
      fails-at c.args.words.now c.loop-word.read.items told (g.S.Source.failed c.read_text.new.texts) (faults c.args.texts.now) (faults c.read_text.new.texts) c.loop-word.word-index name c.loop-word-test.true c.word-item.is inv.told
          (omega (arith, inv.total, inv.small)) (subst (λ (n : ℕ). Rose n (faults c.read_text.new.texts)) inv.stands rose)
          (subst (λ (w : List ℕ). IfSome (g.S.Source.failed c.read_text.new.texts) (λ word. word ≡ w)) c.as_str.ensures named),
      sym same ∙ c.first_place.ensures.place ∙ ap (first_place c.args.words.now) c.as_str-in-Err-Read.ensures,
    )

pub loop-word-preserved : goal.loop-word-preserved
loop-word-preserved g c =
    let inv = c.loop-word.invariant in
    let told = g.S.Source.text c.args.texts.now in
    let name = c.word-item.result in
    let read = c.loop-word.read.items in
    let text = c.in-Ok-read_text.text in
    let here = ap (g.S.Source.text c.loop-word.texts) c.as_str.ensures ∙ inv.texts name in
    let whole = subst (λ (o : Option (List ℕ)). IsTold o text) here c.in-Ok-read_text.ensures.whole in
    let items : c.push.new.self.items ≡ read ++ text ∷ [] = c.push.ensures.items ∙ ap (λ (b : Bool). cond b (read ++ text ∷ []) read) c.if-is_err.ensures.negation in
    let total : total_bytes (read ++ text ∷ []) ≡ total_bytes read + c.len-total.result = total-more read text ∙ ap (λ n. total_bytes read + n) (sym c.len-total.ensures) in
    record {
      told = subst (λ (xs : List (List ℕ)). AreTold told (take (c.loop-word.word-index + 1) c.args.words.now) xs) (sym items) (told-more told c.args.words.now read c.loop-word.word-index name text c.loop-word-test.true c.word-item.is inv.told whole);
      total = ap (λ n. n + c.len-total.result) inv.total ∙ sym total ∙ ap total_bytes (sym items);
      small = omega (arith, c.in-Ok-read_text.ensures.small, c.len-total.ensures, inv.small);
      stands = c.in-Ok-read_text.ensures.stands (λ e. absurd cc) ∙ inv.stands;
      texts = λ word. c.in-Ok-read_text.ensures.texts word ∙ inv.texts word;
      room = omega (arith, inv.room);
    }
