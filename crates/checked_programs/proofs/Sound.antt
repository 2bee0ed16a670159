-- What a program in which no cause stands keeps.
use Rattle.std.proofs.Common.{◌≡◌, ◌⊎◌, ℕ, zero, suc, ◌<◌, ◌≤◌, Bool, true, false, not, ◌&&◌, ◌||◌, List, [], ◌∷◌, map, length, Option, Some, None, refl, sym, ap, ap₂, subst, ◌∙◌, ⊎_elim, arith}
use Rattle.std.specs.Prelude.{slice_get, ◌==◌, if◌then◌else◌}
use Rattle.std.specs.List.{list_any, list_all}
use Rattle.std.proofs.lemmas.Bool.{cases_Bool, cases_lt}
use Rattle.tel_base.specs.Members.{In}
use Rattle.tel_rule.specs.declared.formulas.Atom.{Atom}
use Rattle.tel_rule.specs.declared.formulas.UnaryOp.{UnaryOp}
use Rattle.tel_rule.specs.declared.formulas.UnaryOp.TheVariants as unary
use Rattle.tel_rule.specs.declared.formulas.BinaryOp.{BinaryOp}
use Rattle.tel_rule.specs.declared.formulas.BinaryOp.TheVariants as binary
use Rattle.tel_rule.specs.declared.formulas.Formula.{Formula, map-Formula}
use Rattle.tel_rule.specs.declared.formulas.Formula.TheOpen.{Formula-F}
use Rattle.tel_rule.specs.declared.formulas.Formula.TheOpen as layers
use Rattle.tel_rule.specs.declared.formulas.Formula.TheViews.{roll-Formula}
use Rattle.tel_rule.specs.declared.formulas.Formula.TheFolds.{fold-roll-Formula, ind-Formula}
use Rattle.tel_rule.specs.declared.statements.Head.{Head}
use Rattle.tel_rule.specs.declared.statements.Head.TheVariants as heads
use Rattle.tel_rule.specs.declared.statements.LitItem.{LitItem}
use Rattle.tel_rule.specs.declared.statements.LitItem.TheVariants as items
use Rattle.tel_rule.specs.declared.statements.Literal.{Literal}
use Rattle.tel_rule.specs.declared.statements.Kind.{Kind}
use Rattle.tel_rule.specs.declared.statements.Kind.TheVariants as kinds
use Rattle.tel_rule.specs.declared.statements.Signature.{Signature}
use Rattle.tel_rule.specs.declared.statements.Statement.{Statement}
use Rattle.tel_rule.specs.declared.statements.Program.{Program}
use Rattle.tel_rule.specs.Nodes.{guard}
use Rattle.tel_semantics.specs.Tables.{is_table}
use Rattle.instance_build.specs.FormulaValues.{layer_value}
use Rattle.instance_build.specs.Guarded.{is_guarded_formula, is_guarded_item, is_guarded_literal, is_guarded_body}
use Rattle.rule_binding.specs.Binding.{Vars, has, equations_of, row_vars, body_of, bound_by, IsFirstMissing, IsFirstUnbound}
use Rattle.rule_binding.proofs.Settings.{exist}
use Rattle.rule_check.specs.declared.faults.CheckFault.TheVariants as causes
use Rattle.rule_check.specs.Causes.{has_arrow, layer_has_arrow, any_holds, item_has_arrow, literal_has_arrow, rule_has_arrow, has_bare_arrow, HasNoCause}
use Rattle.rule_check.proofs.Kept.{sound-kept}
use Rattle.program_theory.specs.Templates.{is_guarded_kind}
use Rattle.checked_programs.specs.Laws.{IsBoundAndGuarded, SoundProgramsAreBound, ReplacedAreSound}

-- ---- arrows

-- a formula is guarded where it has no bare arrow
abbrev Opposite : Formula → Type 0
Opposite f = is_guarded_formula f ≡ not (has_arrow f)

or-not : (a b : Bool) → not (a || b) ≡ (not a && not b)
or-not true b = refl
or-not false b = refl

all-opposite : (es : List ((f : Formula) × Opposite f)) → list_all (λ b. b) (map is_guarded_formula (map (λ e. e.0) es)) ≡ not (any_holds (map has_arrow (map (λ e. e.0) es)))
all-opposite [] = refl
all-opposite (e ∷ es) =
    ap₂ (λ a b. a && b) e.1 (all-opposite es) ∙ sym (or-not (has_arrow e.0) (any_holds (map has_arrow (map (λ (x : (f : Formula) × Opposite f). x.0) es))))

and-true : (a : Bool) → (a && true) ≡ a
and-true true = refl
and-true false = refl

guarded-rolled : (z : Formula-F Formula) → is_guarded_formula (roll-Formula z) ≡ layer_value (λ (atom : Atom). true) guard (map-Formula Formula Bool is_guarded_formula z)
guarded-rolled z = fold-roll-Formula Bool (layer_value (λ (atom : Atom). true) guard) z

arrow-rolled : (z : Formula-F Formula) → has_arrow (roll-Formula z) ≡ layer_has_arrow (map-Formula Formula Bool has_arrow z)
arrow-rolled z = fold-roll-Formula Bool layer_has_arrow z

unary-opposite : (op : UnaryOp) (guarded arrow : Bool) → guarded ≡ not arrow → layer_value (λ (atom : Atom). true) guard (layers.Unary op guarded) ≡ not (layer_has_arrow (layers.Unary op arrow))
unary-opposite unary.Not guarded arrow same = refl
unary-opposite unary.Previous guarded arrow same = and-true guarded ∙ same
unary-opposite unary.WeakPrevious guarded arrow same = and-true guarded ∙ same
unary-opposite unary.AlwaysBefore guarded arrow same = and-true guarded ∙ same
unary-opposite unary.OnceBefore guarded arrow same = and-true guarded ∙ same
unary-opposite unary.Initially guarded arrow same = and-true guarded ∙ same
unary-opposite unary.Next guarded arrow same = and-true guarded ∙ same
unary-opposite unary.WeakNext guarded arrow same = and-true guarded ∙ same
unary-opposite unary.AlwaysAfter guarded arrow same = and-true guarded ∙ same
unary-opposite unary.OnceAfter guarded arrow same = and-true guarded ∙ same
unary-opposite unary.Finally guarded arrow same = and-true guarded ∙ same

both-opposite : (a b c d : Bool) → a ≡ not c → b ≡ not d → (a && (b && true)) ≡ not (c || d)
both-opposite a b c d left right = ap₂ (λ x y. x && (y && true)) left right ∙ ap (λ x. not c && x) (and-true (not d)) ∙ sym (or-not c d)

binary-opposite : (op : BinaryOp) (a b c d : Bool) → a ≡ not c → b ≡ not d → layer_value (λ (atom : Atom). true) guard (layers.Binary op a b) ≡ not (layer_has_arrow (layers.Binary op c d))
binary-opposite binary.Implies a b c d left right = refl
binary-opposite binary.ImpliedBy a b c d left right = refl
binary-opposite binary.Same a b c d left right = refl
binary-opposite binary.Since a b c d left right = both-opposite a b c d left right
binary-opposite binary.Trigger a b c d left right = both-opposite a b c d left right
binary-opposite binary.Until a b c d left right = both-opposite a b c d left right
binary-opposite binary.Release a b c d left right = both-opposite a b c d left right

layer-opposite : (y : Formula-F ((f : Formula) × Opposite f)) → Opposite (roll-Formula (map-Formula ((f : Formula) × Opposite f) Formula (λ e. e.0) y))
layer-opposite (layers.Const op) = guarded-rolled (layers.Const op) ∙ ap not (sym (arrow-rolled (layers.Const op)))
layer-opposite (layers.Atom atom) = guarded-rolled (layers.Atom atom) ∙ ap not (sym (arrow-rolled (layers.Atom atom)))
layer-opposite (layers.Unary op e) =
    guarded-rolled (layers.Unary op e.0) ∙ unary-opposite op (is_guarded_formula e.0) (has_arrow e.0) e.1 ∙ ap not (sym (arrow-rolled (layers.Unary op e.0)))
layer-opposite (layers.Binary op d e) =
    guarded-rolled (layers.Binary op d.0 e.0) ∙ binary-opposite op (is_guarded_formula d.0) (is_guarded_formula e.0) (has_arrow d.0) (has_arrow e.0) d.1 e.1
    ∙ ap not (sym (arrow-rolled (layers.Binary op d.0 e.0)))
layer-opposite (layers.Many op es) =
    let fs = map (λ (e : (f : Formula) × Opposite f). e.0) es in
    guarded-rolled (layers.Many op fs) ∙ all-opposite es ∙ ap not (sym (arrow-rolled (layers.Many op fs)))

opposite : (f : Formula) → Opposite f
opposite = ind-Formula Opposite (λ x y is. subst (λ (z : Formula-F Formula). Opposite (roll-Formula z)) is (layer-opposite y))

item-opposite : (item : LitItem) → is_guarded_item item ≡ not (item_has_arrow item)
item-opposite (items.Atom atom) = refl
item-opposite (items.Tel formula) = opposite formula
item-opposite (items.Compare relation left right) = refl

asked : (test a b : Bool) → a ≡ not b → (if test then a else true) ≡ not (test && b)
asked true a b same = same
asked false a b same = refl

literal-opposite : (literal : Literal) → is_guarded_literal literal ≡ not (literal_has_arrow literal)
literal-opposite literal = asked (literal.nots == 0) (is_guarded_item literal.item) (item_has_arrow literal.item) (item-opposite literal.item)

body-opposite : (body : List Literal) → list_all is_guarded_literal body ≡ not (list_any literal_has_arrow body)
body-opposite [] = refl
body-opposite (literal ∷ body) =
    ap₂ (λ a b. a && b) (literal-opposite literal) (body-opposite body) ∙ sym (or-not (literal_has_arrow literal) (list_any literal_has_arrow body))

rule-opposite : (head : Head) (body : List Literal) → is_guarded_body head body ≡ not (rule_has_arrow head body)
rule-opposite (heads.Normal atom) body = body-opposite body
rule-opposite (heads.Choice atom) body = body-opposite body
rule-opposite heads.None body = refl

kind-opposite : (kind : Kind) → is_guarded_kind kind ≡ not (has_bare_arrow kind)
kind-opposite (kinds.Rule head body) = rule-opposite head body
kind-opposite (kinds.Facts fact) = refl
kind-opposite (kinds.Const name value) = refl
kind-opposite (kinds.Show shown) = refl

-- ---- variables

some_missing : (X : Vars) (count : ℕ) → (first : Option ℕ) × IsFirstMissing X count first
some_missing X zero = (None, λ v low. absurd (omega (arith, low)))
some_missing X (suc count) = of (some_missing X count).0 (some_missing X count).1
  where
    of : (first : Option ℕ) → IsFirstMissing X count first → (first : Option ℕ) × IsFirstMissing X (suc count) first
    of (Some v) is = (Some v, (let low = is.0 in omega (arith, low), is.1, is.2))
    of None all = ⊎_elim
        (λ (there : X count ≡ true). (None, λ v low. ⊎_elim (λ (l : v < count). all v l) (λ (h : count ≤ v). let e : count ≡ v = omega (arith, low, h) in subst (λ (k : ℕ). X k ≡ true) e there) (cases_lt v count)))
        (λ (missing : X count ≡ false). (Some count, (omega arith, missing, all)))
        (cases_Bool (X count))

some_unbound : (tables : Signature → Bool) (s : Statement) → (first : Option ℕ) × IsFirstUnbound tables s first
some_unbound tables s =
    let body = body_of s.kind in
    let settings = exist (equations_of body) (row_vars tables body) in
    let first = some_missing (has (bound_by (row_vars tables body) settings.0)) (length s.vars) in
    (first.0, record { settings = settings.0; are = settings.1; is = first.1 })

got : {X : Type 0} (xs : List X) (n : ℕ) → n < length xs → (x : X) × (slice_get xs n ≡ Some x)
got [] n within = absurd (omega (arith, within))
got (x ∷ xs) zero within = (x, refl)
got (x ∷ xs) (suc n) within = got xs n (omega (arith, within))

bound-none : (program : Program) (number : ℕ) (s : Statement) → HasNoCause program number s → (first : Option ℕ) → IsFirstUnbound (is_table program.statements) s first → IsFirstUnbound (is_table program.statements) s None
bound-none program number s none None is = is
bound-none program number s none (Some v) is =
    let name = got s.vars v is.is.0 in
    absurd (none (causes.Unbound s.place name.0) (refl, (v, is, name.1)))

statement-bound : (program : Program) (number : ℕ) (s : Statement) → HasNoCause program number s → IsBoundAndGuarded program s
statement-bound program number s none = record {
  bound = bound-none program number s none (some_unbound (is_table program.statements) s).0 (some_unbound (is_table program.statements) s).1;
  guarded = kind-opposite s.kind ∙ ⊎_elim (λ (bare : has_bare_arrow s.kind ≡ true). absurd (none (causes.Arrow s.place) (refl, bare))) (λ (no_arrow : has_bare_arrow s.kind ≡ false). ap not no_arrow) (cases_Bool (has_bare_arrow s.kind));
}

-- ---- programs

in-got : {X : Type 0} (xs : List X) (x : X) → In x xs → (n : ℕ) × (n < length xs) × (slice_get xs n ≡ Some x)
in-got [] x there = absurd there
in-got (y ∷ xs) x there =
    ⊎_elim (λ (same : y ≡ x). (0, omega arith, ap (λ z. Some z) same)) (λ later. let found = in-got xs x later in (suc found.0, omega (arith, found.1), found.2)) there

pub sound_bound : SoundProgramsAreBound
sound_bound program sound statement there =
    let found = in-got program.statements statement there in
    statement-bound program found.0 statement (sound found.0 statement found.1 found.2)

pub replaced_sound : ReplacedAreSound
replaced_sound program replaced is sound = sound-kept program replaced sound is
