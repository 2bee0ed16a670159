-- The demands of instances: where the atom of the head passes a test they stay when others are taken out, and where a positive atom of the body fails one they come to nothing.
use Rattle.std.proofs.Common.{◌≡◌, ◌⊎◌, inl, inr, ℕ, ◌<◌, Bool, true, false, ◌&&◌, List, [], ◌∷◌, refl, sym, ap, ap₂, ◌∙◌, ⊎_elim}
use Rattle.std.specs.Prelude.{nat_lt, if◌then◌else◌}
use Rattle.std.proofs.lemmas.Bool.{and_from, and_left, and_right, true≢false}
use Rattle.tel_base.specs.Members.{In}
use Rattle.tel_rule.specs.declared.formulas.Atom.{Atom}
use Rattle.tel_rule.specs.declared.statements.Head.{Head}
use Rattle.tel_rule.specs.declared.statements.Head.TheVariants as heads
use Rattle.tel_rule.specs.declared.statements.LitItem.{LitItem}
use Rattle.tel_rule.specs.declared.statements.LitItem.TheVariants as items
use Rattle.tel_rule.specs.declared.statements.Literal.{Literal}
use Rattle.tel_semantics.specs.Formula as formulas
use Rattle.tel_semantics.specs.Formula.{negation}
use Rattle.tel_semantics.specs.Satisfaction.{sat}
use Rattle.instance_build.specs.Meaning.{item_meaning, behind_nots, literal_meaning, is_comparison, body_meaning, derived_meaning, head_meaning, rule_meaning}
use Rattle.theory_lists.specs.Atoms.{TermAtom}
use Rattle.program_theory.specs.Theory.{derived}
use Rattle.all_instances.specs.Traces.{Trace}
use Rattle.all_instances.proofs.Split.{Test, Form, IsOff, IsIdle, IsKept, negation_kept, next_kept, atom_kept, or_kept, arrow_kept}

-- ---- heads

-- the atom of a head passes
abbrev pub HeadPasses : Test → (Atom → TermAtom) → Head → Type 0
HeadPasses test of_atom (heads.Normal atom) = test (of_atom atom) ≡ true
HeadPasses test of_atom (heads.Choice atom) = test (of_atom atom) ≡ true
HeadPasses test of_atom heads.None = Unit {0}

pub both_pass : (p q : Test) (of_atom : Atom → TermAtom) (head : Head) → HeadPasses p of_atom head → HeadPasses q of_atom head → HeadPasses (λ a. p a && q a) of_atom head
both_pass p q of_atom (heads.Normal atom) a b = and_from (p (of_atom atom)) (q (of_atom atom)) a b
both_pass p q of_atom (heads.Choice atom) a b = and_from (p (of_atom atom)) (q (of_atom atom)) a b
both_pass p q of_atom heads.None a b = tt

derived_kept : (test : Test) (atom : TermAtom) (after : Bool) → test atom ≡ true → IsKept test (derived atom after)
derived_kept test atom true passes = next_kept test atom passes
derived_kept test atom false passes = atom_kept test atom passes

false_kept : (test : Test) → IsKept test formulas.False
false_kept test n T k l holds = holds

head_kept : (test : Test) (of_atom : Atom → TermAtom) (head : Head) → HeadPasses test of_atom head → IsKept test (head_meaning of_atom head)
head_kept test of_atom (heads.Normal atom) passes = derived_kept test (of_atom atom) (nat_lt 0 atom.after) passes
head_kept test of_atom (heads.Choice atom) passes =
    or_kept test (derived_meaning of_atom atom) (negation (derived_meaning of_atom atom)) (derived_kept test (of_atom atom) (nat_lt 0 atom.after) passes)
    (negation_kept test (derived_meaning of_atom atom))
head_kept test of_atom heads.None passes = false_kept test

pub rule_kept : (test : Test) (of_atom : Atom → TermAtom) (head : Head) (body : List Literal) → HeadPasses test of_atom head → IsKept test (rule_meaning of_atom head body)
rule_kept test of_atom head body passes = arrow_kept test (body_meaning of_atom body) (head_meaning of_atom head) (head_kept test of_atom head passes)

pub fact_kept : (test : Test) (atom : TermAtom) (after : Bool) → test atom ≡ true → IsKept test (formulas.Arrow formulas.True (derived atom after))
fact_kept test atom after passes = arrow_kept test formulas.True (derived atom after) (derived_kept test atom after passes)

-- ---- bodies

-- a positive atom at the same instant
pub record IsPositive (literal : Literal) (atom : Atom) : Type 0 where
  pub item : literal.item ≡ items.Atom atom
  pub nots : literal.nots ≡ 0
  pub before : atom.before ≡ 0

-- a formula that never holds where no atom that fails the test is true
abbrev NeverHolds : Test → Form → Type 0
NeverHolds test f = (n : ℕ) (H T : Trace) (k : ℕ) → k < n → IsOff test n H → sat f n H T k ≡ false

positive_says : (of_atom : Atom → TermAtom) (literal : Literal) (atom : Atom) → IsPositive literal atom → literal_meaning of_atom literal ≡ formulas.Atom (of_atom atom)
positive_says of_atom literal atom is =
    ap₂ (λ (nots : ℕ) (item : LitItem). behind_nots nots (item_meaning of_atom item)) is.nots is.item
    ∙ ap (λ (before : ℕ). if nat_lt 0 before then formulas.Previous (formulas.Atom (of_atom atom)) else formulas.Atom (of_atom atom)) is.before

with_off : (test : Test) (skips : Bool) (first rest : Form) → (skips ≡ true → NeverHolds test rest) → (skips ≡ false → NeverHolds test first ⊎ NeverHolds test rest)
    → NeverHolds test (if skips then rest else formulas.And first rest)
with_off test true first rest off either n H T k l none = off refl n H T k l none
with_off test false first rest off either n H T k l none =
    ⊎_elim (λ (here : NeverHolds test first). and_left (sat first n H T k) (sat rest n H T k) (here n H T k l none))
    (λ (later : NeverHolds test rest). and_right (sat first n H T k) (sat rest n H T k) (later n H T k l none)) (either refl)

body_off : (test : Test) (of_atom : Atom → TermAtom) (body : List Literal) (literal : Literal) (atom : Atom) → In literal body → IsPositive literal atom → test (of_atom atom) ≡ false → NeverHolds test (body_meaning of_atom body)
body_off test of_atom [] literal atom there is fails = absurd there
body_off test of_atom (first ∷ more) literal atom there is fails =
    let later = λ (found : In literal more). body_off test of_atom more literal atom found is fails in
    with_off test (is_comparison first.item) (literal_meaning of_atom first) (body_meaning of_atom more)
    (λ skips. ⊎_elim (λ (same : first ≡ literal). absurd (true≢false (sym skips ∙ ap (λ (lit : Literal). is_comparison lit.item) same ∙ ap is_comparison is.item))) later there)
    (λ asked. ⊎_elim (λ (same : first ≡ literal). inl (λ n H T k l off. ap (λ (lit : Literal). sat (literal_meaning of_atom lit) n H T k) same
    ∙ ap (λ (f : Form). sat f n H T k) (positive_says of_atom literal atom is)
    ∙ off k (of_atom atom) l fails)) (λ (found : In literal more). inr (later found)) there)

pub rule_idle : (test : Test) (of_atom : Atom → TermAtom) (head : Head) (body : List Literal) (literal : Literal) (atom : Atom) → In literal body → IsPositive literal atom → test (of_atom atom) ≡ false → IsIdle test (rule_meaning of_atom head body)
rule_idle test of_atom head body literal atom there is fails = record {
  body = body_meaning of_atom body;
  head = head_meaning of_atom head;
  is = refl;
  off = body_off test of_atom body literal atom there is fails;
}
