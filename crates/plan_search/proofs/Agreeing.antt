-- What is found from a list of values on rests on the known places alone.
use Rattle.std.proofs.Common.{◌≡◌, inl, inr, ◌<◌, Bool, true, false, List, [], ◌∷◌, ◌++◌, length, refl, sym, ap, ap₂, ◌∙◌, subst, arith, length-set, get_or-set_same, get_or-set_other}
use Rattle.std.specs.Prelude.{Option, Some, None, slice_set, pos, if◌then◌else◌}
use Rattle.std.specs.List.{flat_map}
use Rattle.std.proofs.lemmas.Bool.{cases_eq}
use Rattle.tel_term.specs.declared.terms.Value.{Value}
use Rattle.tel_term.specs.declared.terms.Value.TheVariants as values
use Rattle.tel_rule.specs.Atoms.{value_eq}
use Rattle.join_plans.specs.declared.columns.Column.{Column}
use Rattle.join_plans.specs.declared.columns.Column.TheVariants.{New, Old}
use Rattle.join_plans.specs.Join.{at, Step, Row, Equal, Compare, put, then_found, and_then, put_row, answers, IsRight, learn, AreRight, learn_all, IsPlan}
use Rattle.join_plans.proofs.Exact.{same_lists}
use Rattle.plan_search.specs.Searching.{AgreeOn}
use Rattle.plan_search.specs.Trying.{Try, behind, all_behind}

-- both came to nothing, or to lists that agree
abbrev pub Both : List Bool → Option (List Value) → Option (List Value) → Type 0
Both known None None = Unit {0}
Both known (Some a) (Some b) = AgreeOn known a b
Both known a b = ⊥

both_if : (known : List Bool) (t : Bool) (a b : List Value) → AgreeOn known a b → Both known (if t then Some a else None) (if t then Some b else None)
both_if known true a b agree = agree
both_if known false a b agree = tt

put_agree : (c : Column) (x : Value) (known : List Bool) (a b : List Value) → IsRight known c → AgreeOn known a b → Both (learn known c) (put c x a) (put c x b)
put_agree (New v) x known a b right agree =
    let in_a : v < length a = omega (arith, right.0, agree.marks) in
    let in_b : v < length b = omega (arith, in_a, agree.long) in
    record {
      same = λ w is. elim (cases_eq w v) [
        | inl e ↦
            ap (at (slice_set a v x)) e ∙ get_or-set_same a v x (values.Num (pos 0)) in_a ∙ sym (get_or-set_same b v x (values.Num (pos 0)) in_b) ∙ ap (at (slice_set b v x)) (sym e)
        | inr n ↦
            get_or-set_other a v w x (values.Num (pos 0)) n ∙ agree.same w (sym (get_or-set_other known v w true false n) ∙ is) ∙ sym (get_or-set_other b v w x (values.Num (pos 0)) n)
      ];
      marks = length-set known v true ∙ agree.marks ∙ sym (length-set a v x);
      long = length-set a v x ∙ agree.long ∙ sym (length-set b v x);
    }
put_agree (Old v) x known a b right agree =
    subst (λ (y : Value). Both known (if value_eq (at a v) x then Some a else None) (if value_eq y x then Some b else None)) (agree.same v right)
    (both_if known (value_eq (at a v) x) a b agree)

row_then :
    (cs : List Column) (xs : List Value) (known : List Bool) (a b : Option (List Value)) → ((c d : List Value) → AgreeOn known c d → Both (learn_all known cs) (put_row cs xs c) (put_row cs xs d)) → Both known a b → Both (learn_all known cs) (and_then (put_row cs xs) a) (and_then (put_row cs xs) b)
row_then cs xs known None None rest both = tt
row_then cs xs known None (Some b) rest both = absurd both
row_then cs xs known (Some a) None rest both = absurd both
row_then cs xs known (Some a) (Some b) rest both = rest a b both

pub row_agree : (cs : List Column) (row : List Value) (known : List Bool) (a b : List Value) → AreRight known cs → AgreeOn known a b → Both (learn_all known cs) (put_row cs row a) (put_row cs row b)
row_agree [] [] known a b right agree = agree
row_agree [] (x ∷ row) known a b right agree = tt
row_agree (c ∷ cs) [] known a b right agree = tt
row_agree (c ∷ cs) (x ∷ row) known a b right agree =
    row_then cs row (learn known c) (put c x a) (put c x b) (λ d e later. row_agree cs row (learn known c) d e right.1 later) (put_agree c x known a b right.0 agree)

found_agree : (known : List Bool) (f : List Value → List (List Value)) (a b : Option (List Value)) → ((c d : List Value) → AgreeOn known c d → f c ≡ f d) → Both known a b → then_found f a ≡ then_found f b
found_agree known f None None same both = refl
found_agree known f None (Some b) same both = absurd both
found_agree known f (Some a) None same both = absurd both
found_agree known f (Some a) (Some b) same both = same a b both

flat_same : {X Y : Type 0} (f g : X → List Y) (xs : List X) → ((x : X) → f x ≡ g x) → flat_map f xs ≡ flat_map g xs
flat_same f g [] same = refl
flat_same {X} {Y} f g (x ∷ xs) same = ap₂ (λ (a b : List Y). a ++ b) (same x) (flat_same f g xs same)

value_then : (f g : Value → List (List Value)) (o : Option Value) → ((x : Value) → f x ≡ g x) → then_found f o ≡ then_found g o
value_then f g None same = refl
value_then f g (Some x) same = same x

pub answers_agree : (steps : List Step) (known : List Bool) (a b : List Value) → IsPlan known steps → AgreeOn known a b → answers steps a ≡ answers steps b
answers_agree [] known a b plan agree =
    ap (λ (l : List Value). l ∷ []) (same_lists a b agree.long (λ v less. agree.same v (plan v (omega (arith, less, agree.marks, agree.long)))))
answers_agree (Row cs rows ∷ more) known a b plan agree =
    flat_same (λ row. then_found (answers more) (put_row cs row a)) (λ row. then_found (answers more) (put_row cs row b)) rows
    (λ row. found_agree (learn_all known cs) (answers more) (put_row cs row a) (put_row cs row b) (λ c d later. answers_agree more (learn_all known cs) c d plan.1 later) (row_agree cs row known a b plan.0 agree))
answers_agree (Equal c e ∷ more) known a b plan agree =
    ap (then_found (λ x. then_found (answers more) (put c x a))) (plan.0.reads a b (λ w reads. agree.same w (plan.0.there w reads)))
    ∙ value_then (λ x. then_found (answers more) (put c x a)) (λ x. then_found (answers more) (put c x b)) (e.value b)
    (λ x. found_agree (learn known c) (answers more) (put c x a) (put c x b) (λ d f later. answers_agree more (learn known c) d f plan.2 later) (put_agree c x known a b plan.1 agree))
answers_agree (Compare c ∷ more) known a b plan agree =
    ap (λ (t : Bool). if t then answers more a else []) (plan.0.reads a b (λ w reads. agree.same w (plan.0.there w reads)))
    ∙ ap (λ (l : List (List Value)). if c.holds b then l else []) (answers_agree more known a b plan.1 agree)

try_agree : (cs : List Column) (known : List Bool) (a b : List Value) (try : Try) → AreRight known cs → AgreeOn known a b → Both (learn_all known cs) (and_then (λ row. put_row cs row a) try) (and_then (λ row. put_row cs row b) try)
try_agree cs known a b None right agree = tt
try_agree cs known a b (Some row) right agree = row_agree cs row known a b right agree

pub behind_agree : (cs : List Column) (more : List Step) (known : List Bool) (a b : List Value) (list : List Try) → AreRight known cs → IsPlan (learn_all known cs) more → AgreeOn known a b → all_behind cs more a list ≡ all_behind cs more b list
behind_agree cs more known a b list right plan agree =
    flat_same (behind cs more a) (behind cs more b) list
    (λ try. found_agree (learn_all known cs) (answers more) (and_then (λ row. put_row cs row a) try) (and_then (λ row. put_row cs row b) try) (λ c d later. answers_agree more (learn_all known cs) c d plan later) (try_agree cs known a b try right agree))
