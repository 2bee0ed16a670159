use Rattle.std.proofs.Common.{◌≡◌, ◌+◌, ◌<◌, ◌∙◌, true, false, Some, length, drop, ap, sym, arith}
use Rattle.std.proofs.lemmas.List.{take_rest}
use Rattle.memchr.specs.Find.{IsFirstByte, is_byte}
use Rattle.tel_lex.specs.Tokens.{begins, is_percent}
use Rattle.tel_lex.specs.Reading.{behind, close_len}
use Rattle.tel_lex.proofs.Offsets.{behind-behind, close_reached, close_missing, close_hit, close_on, hit_within, hit_byte}
use Rattle.tel_lex.proofs.front.close_len.Goals as goal

pub returns-then-begins_percent-clause-len : goal.returns-then-begins_percent-clause-len
returns-then-begins_percent-clause-len c =
    let bytes = c.args.bytes.now in
    let at = c.reading.at in
    let n = c.in-Some.other in
    let first : IsFirstByte (is_byte 42) (drop at bytes) (Some n) = rw take_rest at c.in-Some.ensures in
    let within : at + n < length bytes = hit_within (is_byte 42) bytes at n first in
    let next : at + (n + 1) ≡ at + n + 1 = omega arith in
    let percent : begins is_percent (drop (at + n + 1) bytes) ≡ true = rw (take_rest, next) at (sym c.begins_percent.ensures.value ∙ c.if-begins_percent.true) in
    sym (close_reached bytes at n c.reading.invariant.len first ∙ ap (behind (at + n)) (close_hit bytes (at + n) within (hit_byte (is_byte 42) bytes at n first) percent) ∙ ap Some (omega arith))

pub reading-preserved : goal.reading-preserved
reading-preserved c =
    let bytes = c.args.bytes.now in
    let at = c.reading.at in
    let n = c.in-Some.other in
    let first : IsFirstByte (is_byte 42) (drop at bytes) (Some n) = rw take_rest at c.in-Some.ensures in
    let within : at + n < length bytes = hit_within (is_byte 42) bytes at n first in
    let next : at + (n + 1) ≡ at + n + 1 = omega arith in
    let other : begins is_percent (drop (at + n + 1) bytes) ≡ false = rw (take_rest, next) at (sym c.begins_percent.ensures.value ∙ c.if-begins_percent.false) in
    record {
      within = omega arith;
      len = rw next (close_reached bytes at n c.reading.invariant.len first ∙ ap (behind (at + n)) (close_on bytes (at + n) within (hit_byte (is_byte 42) bytes at n first) other)
          ∙ behind-behind (at + n) 1 (close_len (drop (at + n + 1) bytes)));
    }

pub returns-clause-len : goal.returns-clause-len
returns-clause-len c =
    sym (close_missing c.args.bytes.now c.reading.at c.reading.invariant.len (rw take_rest at c.in_default.ensures))
