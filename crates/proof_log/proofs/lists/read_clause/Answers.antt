use Rattle.std.proofs.Common.{◌+◌, Option, true, sym, subst}
use Rattle.tel_base.specs.declared.literals.Lit.{Lit}
use Rattle.proof_log.specs.Parts.{IsEntry}
use Rattle.proof_log.specs.Texts.{StandsAt}
use Rattle.proof_log.proofs.Listings.{IsListing, listing-more, listing-done, listing-stuck}
use Rattle.proof_log.proofs.lists.read_clause.Goals as goal

pub entries-preserved : goal.entries-preserved
entries-preserved c =
    let there = subst (λ (entry : Option Lit). StandsAt (IsEntry true c.entries.low 10 entry) c.args.bytes.now c.entries.place c.in-Ok-Some-default.after) c.in-Ok-Some-default.field-0-0-is c.in-Ok-Some-default.ensures.ok in
    subst (λ all. IsListing true 10 c.args.bytes.now c.args.at c.in-Ok-Some-default.after (c.in-Ok-Some-default.lit.var + 1) all) (sym c.in-Ok.ensures.items)
    (listing-more true 10 c.args.bytes.now c.args.at c.entries.place c.in-Ok-Some-default.after c.entries.low c.entries.lits.items c.in-Ok-Some-default.lit c.entries.invariant there)

pub returns-in-Ok-None-default-clause-ok : goal.returns-in-Ok-None-default-clause-ok
returns-in-Ok-None-default-clause-ok c =
    let there = subst (λ (entry : Option Lit). StandsAt (IsEntry true c.entries.low 10 entry) c.args.bytes.now c.entries.place c.in-Ok-None-default.after) c.in-Ok-None-default.field-0-0-is c.in-Ok-None-default.ensures.ok in
    listing-done true 10 c.args.bytes.now c.args.at c.entries.place c.in-Ok-None-default.after c.entries.low c.entries.lits.items c.entries.invariant there

pub returns-in-Err-clause-err : goal.returns-in-Err-clause-err
returns-in-Err-clause-err c =
    listing-stuck true 10 c.args.bytes.now c.args.at c.entries.place c.in-Err.place c.entries.low c.entries.lits.items c.entries.invariant c.in-Err.ensures.err
