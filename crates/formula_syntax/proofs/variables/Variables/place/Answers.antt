use Rattle.std.proofs.Common.{◌≡◌, Some, None, arith}
use Rattle.formula_syntax.specs.Variables.{found}
use Rattle.formula_syntax.proofs.Indexed.{there, new}
use Rattle.formula_syntax.proofs.variables.Variables.place.Goals as goal

pub returns-in-Some-clause-place : goal.returns-in-Some-clause-place
returns-in-Some-clause-place c =
    let at : found c.args.name.now c.args.self.now ≡ Some c.in-Some.place = cc (c.in-Some.ensures, c.in_ok-name.ensures) in
    (there c.args.name.now c.args.self.now c.in-Some.place at).place_is

pub returns-in-Some-clause-vars : goal.returns-in-Some-clause-vars
returns-in-Some-clause-vars c =
    let at : found c.args.name.now c.args.self.now ≡ Some c.in-Some.place = cc (c.in-Some.ensures, c.in_ok-name.ensures) in
    (there c.args.name.now c.args.self.now c.in-Some.place at).same

pub returns-in-Some-clause-within : goal.returns-in-Some-clause-within
returns-in-Some-clause-within c =
    let at : found c.args.name.now c.args.self.now ≡ Some c.in-Some.place = cc (c.in-Some.ensures, c.in_ok-name.ensures) in
    omega (arith, (there c.args.name.now c.args.self.now c.in-Some.place at).within)

pub returns-in_ok-add-in-None-clause-place : goal.returns-in_ok-add-in-None-clause-place
returns-in_ok-add-in-None-clause-place c =
    let absent : found c.args.name.now c.args.self.now ≡ None = cc (c.in-None.ensures, c.in_ok-name.ensures) in
    let n = new c.args.name.now c.args.self.now absent in
    let place = n.place_is in
    cc (c.len-place.ensures, c.self.view_is)

pub returns-in_ok-add-in-None-clause-vars : goal.returns-in_ok-add-in-None-clause-vars
returns-in_ok-add-in-None-clause-vars c =
    let absent : found c.args.name.now c.args.self.now ≡ None = cc (c.in-None.ensures, c.in_ok-name.ensures) in
    let n = new c.args.name.now c.args.self.now absent in
    let grown = n.grown in
    cc (c.in_ok-add-in-None.ensures.ok, c.in_ok-name.ensures)
