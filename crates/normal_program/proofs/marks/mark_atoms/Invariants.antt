use Rattle.std.proofs.Common.{◌≡◌, ℕ, false, ◌||◌, get_or, drop}
use Rattle.std.specs.Prelude.{◌==◌, vec_len}
use Rattle.std.specs.List.{list_any}
use Rattle.normal_program.proofs.marks.mark_atoms.Given as goal

abbrev pub invariant-loop-atom : goal.invariant-loop-atom
invariant-loop-atom l = record {
  len : vec_len l.marks ≡ vec_len l.initial.marks;
  marks : (var : ℕ) → (get_or l.marks.items var false || list_any (λ (atom : ℕ). atom == var) (drop l.atom-index l.atoms)) ≡ (get_or l.initial.marks.items var false || list_any (λ (atom : ℕ). atom == var) l.atoms);
}
