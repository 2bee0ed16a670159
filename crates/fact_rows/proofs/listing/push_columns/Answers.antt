use Rattle.std.proofs.Common.{◌≡◌, ◌∙◌, sym, ap, subst, length, map, List, ◌∷◌, [], ◌++◌, take, drop, arith}
use Rattle.std.proofs.lemmas.List.{length-append}
use Rattle.tel_term.specs.declared.terms.Value.{Value}
use Rattle.tel_semantics.specs.Tables.{choices}
use Rattle.fact_rows.specs.Walking.{all_of, first_of, Turns}
use Rattle.fact_rows.proofs.Steps.{whole-slice, map-long}
use Rattle.fact_rows.proofs.Pushed.{pushed-start, pushed-more}
use Rattle.fact_rows.proofs.listing.push_columns.Goals as goal

pub listing-init : goal.listing-init
listing-init c = record {
  long = ap length c.in_ok-row.ensures ∙ map-long first_of c.args.columns.now;
  told = pushed-start c.args.columns.now c.args.rows.now.items c.in_ok-row.row.items c.requires.full c.in_ok-row.ensures;
  few = c.requires.most;
}

pub listing-preserved : goal.listing-preserved
listing-preserved c =
    let columns = c.args.columns.now in
    let row = c.listing.row.items in
    let new = c.turn-more.new.row in
    let whole : take c.listing.row.len (new ++ drop (length new) row) ≡ new = whole-slice c.listing.row.len new row (omega arith) (omega arith) in
    let longer = ap length c.in_ok-push_row.ensures in
    let one_more = length-append c.listing.rows.items (c.as_slice.result.now ∷ []) in
    record {
      long = ap length whole ∙ omega arith;
      told =
          pushed-more columns c.listing.rows.items c.push_row.new.rows.items (c.args.rows.now.items ++ choices (map all_of columns)) row (take c.listing.row.len (new ++ drop (length new) row)) c.listing.more c.turn-more.result c.listing-test.true
          c.listing.invariant.told
          (c.in_ok-push_row.ensures ∙ ap (λ (r : List Value). c.listing.rows.items ++ r ∷ []) c.as_slice.ensures.value)
          (subst (λ (r : List Value). Turns columns row r c.turn-more.result) (sym whole)
          (subst (λ (r : List Value). Turns columns r new c.turn-more.result) c.as_mut_slice.ensures.value c.turn-more.ensures));
      few = omega (arith, longer, one_more);
    }
