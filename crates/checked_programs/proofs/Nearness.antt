-- What is read of an expression speaks of what is known then.
use Rattle.std.proofs.Common.{◌≡◌, ℕ, suc, ◌<◌, ◌≤◌, ◌+◌, ◌^◌, Bool, true, false, List, [], ◌∷◌, ◌++◌, map, length, Option, Some, None, refl, sym, subst, ⊎_elim, arith}
use Rattle.std.specs.Prelude.{pos, IsTrue, bytes_eq, codes, ◌&&◌, if◌then◌else◌}
use Rattle.std.specs.List.{list_all}
use Rattle.std.specs.Option.{option_map}
use Rattle.std.proofs.lemmas.Bool.{lt-ltb, ltb-true, le-leb}
use Rattle.std.proofs.lemmas.List.{length-append}
use Rattle.std.proofs.lemmas.Option.{slice_get_within}
use Rattle.tel_base.specs.Members.{In}
use Rattle.tel_base.proofs.Members.{In-append_cases}
use Rattle.tel_term.specs.declared.terms.Term.{Term}
use Rattle.tel_term.specs.declared.terms.Term.TheVariants as terms
use Rattle.tel_term.specs.declared.terms.Value.{Value}
use Rattle.tel_term.specs.declared.terms.Value.TheVariants as values
use Rattle.tel_term.specs.declared.exprs.Expr.{Expr}
use Rattle.tel_term.specs.declared.exprs.Expr.TheVariants as exprs
use Rattle.tel_term.specs.declared.exprs.Expr.TheOpen.{Expr-F}
use Rattle.tel_term.specs.declared.exprs.Expr.TheFolds.{fold-Expr}
use Rattle.tel_term.specs.declared.exprs.SumOp.{SumOp}
use Rattle.tel_term.specs.declared.exprs.ProductOp.{ProductOp}
use Rattle.tel_term.specs.Arithmetic.{is_held}
use Rattle.tel_term.specs.Symbols.{with_term, value_of, term_of, place_of}
use Rattle.tel_term.proofs.Growth.{with_term-grows, value-stands}
use Rattle.formula_syntax.specs.Points.{Known}
use Rattle.formula_syntax.specs.Senses.{Sense, Name, Variable, Blank, Number, Str, Sign, Other, sense, number_of, string_of, is_number, is_digit, decimal_from}
use Rattle.formula_syntax.specs.Grammar.{known_term, known_var, new_var, place_in, with_var, leaf, leaf_of}
use Rattle.grammar_laws.specs.Shapes.{One}
use Rattle.rule_binding.specs.Binding.{vars_of, layer_vars, operand_vars}
use Rattle.rule_constants.proofs.Kept.{fold-value, fold-var, fold-minus, fold-sum, fold-product}
use Rattle.live_instances.specs.Bindings.{is_value}
use Rattle.rule_plans.specs.Within.{IsWithin, values_in, layer_values, operand_values}
use Rattle.checked_programs.proofs.Holding.{Stays, Gives}

-- an expression speaks of what is known
abbrev pub Near : Expr → Known → Type 0
Near expr known = IsWithin known.symbols (length known.vars) expr

-- no fewer names, strings and variables are known
pub record Later (known later : Known) : Type 0 where
  pub symbols : length known.symbols ≤ length later.symbols
  pub vars : length known.vars ≤ length later.vars

pub later-now : (known : Known) → Later known known
later-now known = record { symbols = omega arith; vars = omega arith }

pub later-then : (a b c : Known) → Later a b → Later b c → Later a c
later-then a b c l m = record { symbols = omega (arith, l.symbols, m.symbols); vars = omega (arith, l.vars, m.vars) }

-- ---- it stays

value-stays : (value : Value) (known later : Known) → Later known later → IsTrue (is_value known.symbols value) → IsTrue (is_value later.symbols value)
value-stays (values.Num n) known later more h = h
value-stays (values.Sym s) known later more h = lt-ltb s (length later.symbols) (omega (arith, more.symbols, ltb-true s (length known.symbols) h))

pub near-stays : Stays Later Near
near-stays expr known later more h = record {
  vars = λ v there. omega (arith, h.vars v there, more.vars);
  values = λ value there. value-stays value known later more (h.values value there);
}

-- ---- expressions of one word

one-in : {X : Type 0} (x y : X) (xs : List X) → xs ≡ y ∷ [] → In x xs → y ≡ x
one-in x y xs same there = ⊎_elim (λ e. e) (λ none. absurd none) (subst (λ (list : List _). In x list) same there)

none-in : {X : Type 0} (x : X) (xs : List X) → xs ≡ [] → In x xs → ⊥
none-in x xs same there = subst (λ (list : List _). In x list) same there

near-value : (value : Value) (known : Known) → IsTrue (is_value known.symbols value) → Near (exprs.Value value) known
near-value value known h = record {
  vars = λ v there. absurd (none-in v (vars_of (exprs.Value value)) (fold-value (List ℕ) layer_vars value) there);
  values = λ other there. subst (λ (x : Value). IsTrue (is_value known.symbols x)) (one-in other value (values_in (exprs.Value value)) (fold-value (List Value) layer_values value) there) h;
}

near-var : (var : ℕ) (known : Known) → var < length known.vars → Near (exprs.Var var) known
near-var var known h = record {
  vars = λ v there. subst (λ (x : ℕ). x < length known.vars) (one-in v var (vars_of (exprs.Var var)) (fold-var (List ℕ) layer_vars var) there) h;
  values = λ value there. absurd (none-in value (values_in (exprs.Var var)) (fold-var (List Value) layer_values var) there);
}

grown : (xs ys more : List Term) → ys ≡ xs ++ more → length xs ≤ length ys
grown xs ys more e = rw e (omega (arith, length-append xs more))

term-later : (term : Term) (known : Known) → Later known (known_term term known).1
term-later term known =
    let g = with_term-grows known.symbols term in
    record { symbols = grown known.symbols (with_term known.symbols term) g.0 g.1; vars = omega arith }

value-known : (symbols : List Term) (value : Value) (term : Term) → term_of symbols value ≡ Some term → (s : ℕ) → value ≡ values.Sym s → IsTrue (is_value symbols value)
value-known symbols (values.Num n) term e s is = absurd cc
value-known symbols (values.Sym place) term e s is = lt-ltb place (length symbols) (slice_get_within symbols place term e)

name-near : (text : List ℕ) (known : Known) → Near (known_term (terms.Name text) known).0 (known_term (terms.Name text) known).1
unfolding value_of
name-near text known =
    near-value (value_of known.symbols (terms.Name text)) (known_term (terms.Name text) known).1
    (value-known (with_term known.symbols (terms.Name text)) (value_of known.symbols (terms.Name text)) (terms.Name text) (value-stands known.symbols (terms.Name text)) (place_of known.symbols (terms.Name text)) refl)

string-near : (text : List ℕ) (known : Known) → Near (known_term (terms.Str text) known).0 (known_term (terms.Str text) known).1
unfolding value_of
string-near text known =
    near-value (value_of known.symbols (terms.Str text)) (known_term (terms.Str text) known).1
    (value-known (with_term known.symbols (terms.Str text)) (value_of known.symbols (terms.Str text)) (terms.Str text) (value-stands known.symbols (terms.Str text)) (place_of known.symbols (terms.Str text)) refl)

abbrev IsThere : ℕ → List (List ℕ) → List (List ℕ) → Type 0
IsThere place vars later = (place < length later) × (length vars ≤ length later)

there-step : (same : Bool) (name first : List ℕ) (more : List (List ℕ)) → IsThere (place_in name more) more (with_var name more) → IsThere (if same then 0 else suc (place_in name more)) (first ∷ more) (if same then first ∷ more else first ∷ with_var name more)
there-step true name first more h = (omega arith, omega arith)
there-step false name first more h = (omega (arith, h.0), omega (arith, h.1))

var-there : (name : List ℕ) (vars : List (List ℕ)) → IsThere (place_in name vars) vars (with_var name vars)
var-there name [] = (omega arith, omega arith)
var-there name (first ∷ more) = there-step (bytes_eq name first) name first more (var-there name more)

blank-later : (known : Known) → Later known (new_var known).1
blank-later known = record { symbols = omega arith; vars = omega (arith, length-append known.vars (codes "_" ∷ [])) }

blank-there : (known : Known) → length known.vars < length (new_var known).1.vars
blank-there known = omega (arith, length-append known.vars (codes "_" ∷ []))

-- ---- the word that is an expression

held-pos : (n : ℕ) → is_number n ≡ true → is_held (pos n) ≡ true
held-pos n h = le-leb n 2147483647 (omega (arith, ltb-true n (2 ^ 31) h))

number-small : (text : List ℕ) (n : ℕ) → number_of text ≡ Some n → is_number n ≡ true
unfolding number_of
number-small text n e = of (list_all is_digit text) (is_number (decimal_from 0 text)) refl e where
  of : (digits small : Bool) → is_number (decimal_from 0 text) ≡ small → (if digits && small then Some (decimal_from 0 text) else None) ≡ Some n → is_number n ≡ true
  of true true s is = let same : decimal_from 0 text ≡ n = cc in subst (λ (m : ℕ). is_number m ≡ true) same s
  of true false s is = absurd cc
  of false true s is = absurd cc
  of false false s is = absurd cc

abbrev Leaves : (Known → Expr × Known) → Type 0
Leaves make = (known : Known) → Later known (make known).1 × Near (make known).0 (make known).1

some-leaves : (here make : Known → Expr × Known) → Leaves here → Some here ≡ Some make → Leaves make
some-leaves here make h e = let same : here ≡ make = cc in subst (λ (f : Known → Expr × Known). Leaves f) same h

number-leaves : (read : Option ℕ) (make : Known → Expr × Known) → ((n : ℕ) → read ≡ Some n → is_number n ≡ true) → option_map (λ value known. (exprs.Value (values.Num (pos value)), known)) read ≡ Some make → Leaves make
number-leaves None make small e = absurd cc
number-leaves (Some n) make small e =
    some-leaves (λ known. (exprs.Value (values.Num (pos n)), known)) make (λ known. (later-now known, near-value (values.Num (pos n)) known (held-pos n (small n refl)))) e

string-leaves : (read : Option (List ℕ)) (make : Known → Expr × Known) → option_map (λ bytes. known_term (terms.Str bytes)) read ≡ Some make → Leaves make
string-leaves None make e = absurd cc
string-leaves (Some bytes) make e = some-leaves (known_term (terms.Str bytes)) make (λ known. (term-later (terms.Str bytes) known, string-near bytes known)) e

leaf-leaves : (said : Sense) (make : Known → Expr × Known) → leaf_of said ≡ Some make → Leaves make
leaf-leaves (Number text) make e = number-leaves (number_of text) make (number-small text) e
leaf-leaves (Name text) make e = some-leaves (known_term (terms.Name text)) make (λ known. (term-later (terms.Name text) known, name-near text known)) e
leaf-leaves (Str text) make e = string-leaves (string_of text) make e
leaf-leaves (Variable name) make e = some-leaves (known_var name) make (λ known. let h = var-there name known.vars in (record { symbols = omega arith; vars = h.1 }, near-var (place_in name known.vars) (known_var name known).1 h.0)) e
leaf-leaves Blank make e = some-leaves new_var make (λ known. (blank-later known, near-var (length known.vars) (new_var known).1 (blank-there known))) e
leaf-leaves (Sign mark) make e = absurd cc
leaf-leaves Other make e = absurd cc

pub leaf-gives : Gives Later (One leaf) Near
leaf-gives = record {
  later = λ from thing to r. subst (λ (k : Known). Later from.known k) (sym r.known_is) (leaf-leaves (sense r.word) r.make r.gives from.known).0;
  holds = λ from thing to r.
      let h = (leaf-leaves (sense r.word) r.make r.gives from.known).1 in
      subst (λ (k : Known). Near thing k) (sym r.known_is) (subst (λ (x : Expr). Near x (r.make from.known).1) (sym r.thing_is) h);
}

-- ---- operators

pub near-minus : (inner : Expr) (known : Known) → Near inner known → Near (exprs.Minus inner) known
near-minus inner known h = record {
  vars = λ v there. h.vars v (subst (λ (xs : List ℕ). In v xs) (fold-minus (List ℕ) layer_vars inner) there);
  values = λ value there. h.values value (subst (λ (xs : List Value). In value xs) (fold-minus (List Value) layer_values inner) there);
}

-- operands with what a fold gives of each
abbrev pub of_operands : (X : Type 0) → (Expr-F X → X) → (Op : Type 0) → List (Op × Expr) → List (Op × X)
of_operands X layer Op operands = map (λ (operand : Op × Expr). (operand.0, fold-Expr X layer operand.1)) operands

-- each operand
abbrev pub AllNear : {Op : Type 0} → List (Op × Expr) → Known → Type 0
AllNear [] known = Unit {0}
AllNear (operand ∷ more) known = Near operand.1 known × AllNear more known

operands-vars : (Op : Type 0) (operands : List (Op × Expr)) (known : Known) → AllNear operands known → (v : ℕ) → In v (operand_vars (of_operands (List ℕ) layer_vars Op operands)) → v < length known.vars
operands-vars Op [] known h v there = absurd there
operands-vars Op (operand ∷ more) known h v there =
    ⊎_elim (λ here. h.0.vars v here) (λ later. operands-vars Op more known h.1 v later) (In-append_cases v (vars_of operand.1) (operand_vars (of_operands (List ℕ) layer_vars Op more)) there)

operands-values : (Op : Type 0) (operands : List (Op × Expr)) (known : Known) → AllNear operands known → (value : Value) → In value (operand_values (of_operands (List Value) layer_values Op operands)) → IsTrue (is_value known.symbols value)
operands-values Op [] known h value there = absurd there
operands-values Op (operand ∷ more) known h value there =
    ⊎_elim (λ here. h.0.values value here) (λ later. operands-values Op more known h.1 value later) (In-append_cases value (values_in operand.1) (operand_values (of_operands (List Value) layer_values Op more)) there)

pub near-sum : (first : Expr) (more : List (SumOp × Expr)) (known : Known) → Near first known → AllNear more known → Near (exprs.Sum first more) known
near-sum first more known h all = record {
  vars = λ v there. ⊎_elim (λ here. h.vars v here) (λ later. operands-vars SumOp more known all v later) (In-append_cases v (vars_of first) (operand_vars (of_operands (List ℕ) layer_vars SumOp more)) (subst (λ (xs : List ℕ). In v xs) (fold-sum (List ℕ) layer_vars first more) there));
  values = λ value there. ⊎_elim (λ here. h.values value here) (λ later. operands-values SumOp more known all value later) (In-append_cases value (values_in first) (operand_values (of_operands (List Value) layer_values SumOp more)) (subst (λ (xs : List Value). In value xs) (fold-sum (List Value) layer_values first more) there));
}

pub near-product : (first : Expr) (more : List (ProductOp × Expr)) (known : Known) → Near first known → AllNear more known → Near (exprs.Product first more) known
near-product first more known h all = record {
  vars = λ v there. ⊎_elim (λ here. h.vars v here) (λ later. operands-vars ProductOp more known all v later) (In-append_cases v (vars_of first) (operand_vars (of_operands (List ℕ) layer_vars ProductOp more)) (subst (λ (xs : List ℕ). In v xs) (fold-product (List ℕ) layer_vars first more) there));
  values = λ value there. ⊎_elim (λ here. h.values value here) (λ later. operands-values ProductOp more known all value later) (In-append_cases value (values_in first) (operand_values (of_operands (List Value) layer_values ProductOp more)) (subst (λ (xs : List Value). In value xs) (fold-product (List Value) layer_values first more) there));
}
