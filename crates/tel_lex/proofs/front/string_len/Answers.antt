use Rattle.std.proofs.Common.{◌≡◌, ◌+◌, ◌<◌, ◌≤◌, ◌∙◌, true, false, Some, length, drop, ap, sym, arith}
use Rattle.std.proofs.lemmas.List.{take_rest, length-drop}
use Rattle.memchr.specs.Find.{IsFirstByte, is_byte3}
use Rattle.tel_lex.specs.Reading.{behind, begins_escape, string_len}
use Rattle.tel_lex.proofs.Offsets.{behind-behind, string_reached, string_missing, string_quote, string_escape, string_stop, hit_within, hit_byte}
use Rattle.tel_lex.proofs.front.string_len.Goals as goal

pub returns-then-bytes-at-eq34-clause-len : goal.returns-then-bytes-at-eq34-clause-len
returns-then-bytes-at-eq34-clause-len c =
    let bytes = c.args.bytes.now in
    let at = c.reading.at in
    let n = c.in-Some.plain in
    let first : IsFirstByte (is_byte3 34 92 10) (drop at bytes) (Some n) = rw take_rest at c.in-Some.ensures in
    let within : at + n < length bytes = hit_within (is_byte3 34 92 10) bytes at n first in
    sym (string_reached bytes at n c.reading.invariant.len first ∙ ap (behind (at + n)) (string_quote bytes (at + n) within c.if-bytes-at-eq34.true))

pub returns-then-not-begins_escape-clause-len : goal.returns-then-not-begins_escape-clause-len
returns-then-not-begins_escape-clause-len c =
    let bytes = c.args.bytes.now in
    let at = c.reading.at in
    let n = c.in-Some.plain in
    let first : IsFirstByte (is_byte3 34 92 10) (drop at bytes) (Some n) = rw take_rest at c.in-Some.ensures in
    let within : at + n < length bytes = hit_within (is_byte3 34 92 10) bytes at n first in
    let stop : begins_escape (drop (at + n) bytes) ≡ false = rw take_rest at (sym c.begins_escape.ensures.value ∙ c.if-not-begins_escape.true) in
    sym (string_reached bytes at n c.reading.invariant.len first ∙ ap (behind (at + n)) (string_stop bytes (at + n) within (hit_byte (is_byte3 34 92 10) bytes at n first) c.if-bytes-at-eq34.false stop))

pub reading-preserved : goal.reading-preserved
reading-preserved c =
    let bytes = c.args.bytes.now in
    let at = c.reading.at in
    let n = c.in-Some.plain in
    let first : IsFirstByte (is_byte3 34 92 10) (drop at bytes) (Some n) = rw take_rest at c.in-Some.ensures in
    let begun : begins_escape (drop (at + n) bytes) ≡ true = rw take_rest at (sym c.begins_escape.ensures.value ∙ c.if-not-begins_escape.false) in
    let room : 2 ≤ length (drop (at + n) bytes) = rw take_rest at (c.begins_escape.ensures.within c.if-not-begins_escape.false) in
    record {
      within = omega (arith, length-drop (at + n) bytes);
      len = string_reached bytes at n c.reading.invariant.len first ∙ ap (behind (at + n)) (string_escape bytes (at + n) begun)
          ∙ behind-behind (at + n) 2 (string_len (drop (at + n + 2) bytes));
    }

pub returns-clause-len : goal.returns-clause-len
returns-clause-len c =
    sym (string_missing c.args.bytes.now c.reading.at c.reading.invariant.len (rw take_rest at c.in_default.ensures))
