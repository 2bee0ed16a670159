use Rattle.std.proofs.Common.{arith, ap, string_bytes}
use Rattle.tel_base.proofs.Lookup.{text_of-place}
use Rattle.tel_base.proofs.sources.MemSourceSource.read.Goals as goal

pub returns-in-Some-clause-bytes : goal.returns-in-Some-clause-bytes
returns-in-Some-clause-bytes c =
    let told = text_of-place (λ e. string_bytes e.0) (λ e. e.1.items) c.self.inside.texts.items c.as_slice.result.now
    c.args.self.now.texts c.args.name.now c.as_slice-in-Some.result.now c.in-Some.at c.index.result.now
    (ap (λ given. given.texts) c.self.view_is) c.as_slice.ensures.value c.in-Some.ensures.0 c.index.ensures
    c.as_slice-in-Some.ensures.value c.in-Some.ensures.2 in
    rw told c.copy_rest.ensures.front

pub returns-in-Some-clause-end : goal.returns-in-Some-clause-end
returns-in-Some-clause-end c =
    let told = text_of-place (λ e. string_bytes e.0) (λ e. e.1.items) c.self.inside.texts.items c.as_slice.result.now
    c.args.self.now.texts c.args.name.now c.as_slice-in-Some.result.now c.in-Some.at c.index.result.now
    (ap (λ given. given.texts) c.self.view_is) c.as_slice.ensures.value c.in-Some.ensures.0 c.index.ensures
    c.as_slice-in-Some.ensures.value c.in-Some.ensures.2 in
    let within = rw told at c.requires in
    rw told (λ none room. omega (arith, within, c.copy_rest.ensures.count, c.copy_rest.auto.into))

pub returns-in-Some-clause-count : goal.returns-in-Some-clause-count
returns-in-Some-clause-count c =
    let told = text_of-place (λ e. string_bytes e.0) (λ e. e.1.items) c.self.inside.texts.items c.as_slice.result.now
    c.args.self.now.texts c.args.name.now c.as_slice-in-Some.result.now c.in-Some.at c.index.result.now
    (ap (λ given. given.texts) c.self.view_is) c.as_slice.ensures.value c.in-Some.ensures.0 c.index.ensures
    c.as_slice-in-Some.ensures.value c.in-Some.ensures.2 in
    rw told c.copy_rest.ensures.count
