use Rattle.std.proofs.Common.{ℕ, ◌<◌, ◌^◌, List, subst, sym, arith}
use Rattle.part_syntax.specs.Programs.{IsProgram, total_bytes}
use Rattle.checked_programs.proofs.Ready.{is_readable}
use Rattle.small_templates.proofs.templates.read_text.Goals as goal

pub returns : goal.returns
returns c =
    is_readable c.as_slice.result.now c.in_ok-program.program c.in_ok-program.ensures.ok
    (subst (λ (texts : List (List ℕ)). total_bytes texts < 2 ^ 32) (sym c.as_slice.ensures.value) (omega (arith, c.in_ok-texts.ensures.bytes)))
