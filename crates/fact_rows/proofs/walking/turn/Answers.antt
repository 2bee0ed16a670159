use Rattle.std.proofs.Common.{◌≡◌, ◌-◌, suc, sym, ap, ◌∙◌, arith}
use Rattle.std.specs.Prelude.{pos, slice_set}
use Rattle.tel_term.specs.declared.terms.Value.TheVariants as values
use Rattle.fact_rows.specs.declared.values.Values.TheVariants as kinds
use Rattle.fact_rows.proofs.Turned.{restarted-end, last-end}
use Rattle.fact_rows.proofs.Steps.{turned-there, turned-past}
use Rattle.fact_rows.proofs.walking.turn.Goals as goal

pub turning-init : goal.turning-init
turning-init c = record {
  inside = omega arith;
  row_is = sym (restarted-end c.args.columns.now c.args.row.now c.requires.long);
  last = last-end c.args.columns.now c.args.row.now c.requires.long;
}

pub returns-in-Some : goal.returns-in-Some
returns-in-Some c =
    let place = c.turning.place in
    let some : place ≡ suc (place - 1) = omega arith in
    turned-there (kinds.One (values.Num (pos 0))) (place - 1) place c.args.columns.now c.args.row.now c.turning.row c.in-Some.value some c.turning.invariant.inside c.requires.full c.requires.long
    c.turning.invariant.row_is c.turning.invariant.last c.in-Some.ensures

pub turning-preserved : goal.turning-preserved
turning-preserved c =
    let place = c.turning.place in
    let some : place ≡ suc (place - 1) = omega arith in
    let default = kinds.One (values.Num (pos 0)) in
    let past = turned-past default (place - 1) place c.args.columns.now c.args.row.now c.turning.row some c.turning.invariant.inside c.requires.long c.turning.invariant.row_is c.turning.invariant.last c.in-None.ensures in
    record { inside = omega arith; row_is = ap (slice_set c.turning.row (place - 1)) c.first.ensures ∙ past.0; last = past.1 }
