use Rattle.std.proofs.Common.{◌≡◌, true, refl, sym, ◌∙◌, ap, string_bytes, bytes_eq}
use Rattle.std.proofs.lemmas.Option.{slice_get_read}
use Rattle.std.proofs.lemmas.Slice.Eq.{bytes_eq-Decides}
use Rattle.std.specs.Option.{option_map}
use Rattle.std.specs.Prelude.{Some}
use Rattle.tel_base.proofs.Lookup.{text_of-found}
use Rattle.tel_base.proofs.sources.place_of.Goals as goal

pub returns-then-eq : goal.returns-then-eq
returns-then-eq c =
    let entry = c.index-texts-place.result in
    let name = c.args.name.now in
    let same : bytes_eq (string_bytes entry.0) name ≡ true = sym (rw c.as_str.ensures.value at c.if-eq.ensures) in
    let found = slice_get_read c.args.texts.now _ c.loop-place.place entry refl c.loop-place-test.true c.index-texts-place.is in (
      c.loop-place-test.true,
      ap (option_map (λ e. string_bytes e.0)) found ∙ ap Some ((bytes_eq-Decides (string_bytes entry.0) name).0 same),
      ap (option_map (λ e. e.1.items)) found
          ∙ sym (sym c.loop-place.invariant
          ∙ text_of-found (λ e. string_bytes e.0) (λ e. e.1.items) c.args.texts.now c.loop-place.place entry name
          c.loop-place-test.true c.index-texts-place.is same),
    )
