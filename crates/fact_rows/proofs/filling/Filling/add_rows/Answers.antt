use Rattle.std.proofs.Common.{◌≡◌, ◌∙◌, sym, ap, subst, length, map, List, ◌∷◌, [], ◌++◌, take, drop, arith}
use Rattle.tel_term.specs.declared.terms.Value.{Value}
use Rattle.tel_semantics.specs.Tables.{choices}
use Rattle.fact_rows.specs.Walking.{all_of, first_of, Turns}
use Rattle.fact_rows.specs.Filling.{Adds, Overflows}
use Rattle.fact_rows.proofs.Steps.{rows-start, rows-more, rows-over, rows-end, whole-slice, map-long}
use Rattle.fact_rows.proofs.filling.Filling.add_rows.Goals as goal

pub rows-init : goal.rows-init
rows-init c = record {
  long = ap length c.in_ok-row.ensures ∙ map-long first_of c.args.columns.now;
  leads = λ number predicate its. rows-start number predicate c.args.columns.now c.in_ok-row.row.items c.args.self.now c.requires c.in_ok-row.ensures;
}

pub returns-in-Err-clause-large : goal.returns-in-Err-clause-large
returns-in-Err-clause-large c =
    let row = c.rows.row.items in
    let copy = c.in_ok-copy.ensures ∙ c.as_slice.ensures.value in
    λ large number predicate its.
    rows-over number predicate c.args.columns.now row (map (λ (r : List Value). (predicate, r)) (choices (map all_of c.args.columns.now))) c.args.self.now c.rows.self c.rows.more c.rows-test.true
    (c.rows.invariant.leads number predicate its)
    (subst (λ (r : List Value). Overflows number ((predicate, r) ∷ []) c.rows.self) copy (c.in-Err.ensures.large large number predicate its))

pub rows-preserved : goal.rows-preserved
rows-preserved c =
    let columns = c.args.columns.now in
    let row = c.rows.row.items in
    let new = c.turn-more.new.row in
    let copy = c.in_ok-copy.ensures ∙ c.as_slice.ensures.value in
    let whole : take c.rows.row.len (new ++ drop (length new) row) ≡ new = whole-slice c.rows.row.len new row (omega arith) (omega arith) in
    record {
      long = ap length whole ∙ omega arith;
      leads = λ number predicate its.
          rows-more number predicate columns row (take c.rows.row.len (new ++ drop (length new) row)) (map (λ (r : List Value). (predicate, r)) (choices (map all_of columns))) c.args.self.now c.rows.self c.add_row.new.self c.rows.more c.turn-more.result c.rows-test.true
          (c.rows.invariant.leads number predicate its)
          (subst (λ (r : List Value). Adds number ((predicate, r) ∷ []) c.rows.self c.add_row.new.self) copy (c.in-Ok.ensures.added number predicate its))
          (subst (λ (r : List Value). Turns columns row r c.turn-more.result) (sym whole)
          (subst (λ (r : List Value). Turns columns r new c.turn-more.result) c.as_mut_slice.ensures.value c.turn-more.ensures));
    }

pub returns-clause-added : goal.returns-clause-added
returns-clause-added c =
    λ number predicate its.
    rows-end number predicate c.args.columns.now c.rows.row.items (map (λ (r : List Value). (predicate, r)) (choices (map all_of c.args.columns.now))) c.args.self.now c.rows.self c.rows.more c.rows-test.false
    (c.rows.invariant.leads number predicate its)
