use Rattle.std.proofs.Common.{◌≡◌, ◌<◌, ◌||◌, ℕ, length, drop}
use Rattle.rule_binding.specs.Binding.{has, row_vars}
use Rattle.rule_binding.specs.Closure.{marked}
use Rattle.rule_settings.proofs.rows.mark_body.Given as goal

abbrev pub invariant-loop-literal : goal.invariant-loop-literal
invariant-loop-literal g l = (v : ℕ) → v < length l.marks → (marked l.marks v || has (row_vars (g.T.TableTest.tables l.tables) (drop l.literal-index l.body)) v) ≡ (marked l.initial.marks v || has (row_vars (g.T.TableTest.tables l.tables) l.body) v)
