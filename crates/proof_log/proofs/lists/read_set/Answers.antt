use Rattle.std.proofs.Common.{◌+◌, Option, false, map, sym, subst}
use Rattle.tel_base.specs.declared.literals.Lit.{Lit}
use Rattle.tel_base.specs.Literals.{lit_of}
use Rattle.proof_log.specs.Parts.{IsEntry}
use Rattle.proof_log.specs.Texts.{StandsAt}
use Rattle.proof_log.proofs.Listings.{IsListing, listing-done, listing-stuck, setting-more}
use Rattle.proof_log.proofs.lists.read_set.Goals as goal

pub entries-preserved : goal.entries-preserved
entries-preserved c =
    let there = subst (λ (entry : Option Lit). StandsAt (IsEntry false c.entries.low 32 entry) c.args.bytes.now c.entries.place c.in-Ok-Some-default.after) c.in-Ok-Some-default.field-0-0-is c.in-Ok-Some-default.ensures.ok in
    subst (λ all. IsListing false 32 c.args.bytes.now c.args.at c.in-Ok-Some-default.after (c.in-Ok-Some-default.lit.var + 1) (map lit_of all)) (sym c.in-Ok.ensures.ok)
    (setting-more 32 c.args.bytes.now c.args.at c.entries.place c.in-Ok-Some-default.after c.entries.low c.entries.set c.in-Ok-Some-default.lit c.entries.invariant there)

pub returns-in-Ok-None-default-clause-ok : goal.returns-in-Ok-None-default-clause-ok
returns-in-Ok-None-default-clause-ok c =
    let there = subst (λ (entry : Option Lit). StandsAt (IsEntry false c.entries.low 32 entry) c.args.bytes.now c.entries.place c.in-Ok-None-default.after) c.in-Ok-None-default.field-0-0-is c.in-Ok-None-default.ensures.ok in
    listing-done false 32 c.args.bytes.now c.args.at c.entries.place c.in-Ok-None-default.after c.entries.low (map lit_of c.entries.set) c.entries.invariant there

pub returns-in-Err-clause-err : goal.returns-in-Err-clause-err
returns-in-Err-clause-err c =
    listing-stuck false 32 c.args.bytes.now c.args.at c.entries.place c.in-Err.place c.entries.low (map lit_of c.entries.set) c.entries.invariant c.in-Err.ensures.err
