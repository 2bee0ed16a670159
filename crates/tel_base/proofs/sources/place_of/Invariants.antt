use Rattle.std.proofs.Common.{◌≡◌, drop, map, string_bytes}
use Rattle.tel_base.specs.Given.{text_of}
use Rattle.tel_base.proofs.sources.place_of.Given as goal

abbrev pub invariant-loop-place : goal.invariant-loop-place
invariant-loop-place l =
    text_of (map (λ entry. (string_bytes entry.0, entry.1.items)) (drop l.place l.texts)) l.name
    ≡ text_of (map (λ entry. (string_bytes entry.0, entry.1.items)) l.texts) l.name
