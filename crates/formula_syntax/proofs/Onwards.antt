-- A later point is later than the points before the one that it is later than.
use Rattle.std.proofs.Common.{◌≡◌, ℕ, true, List, [], ◌∷◌, ◌++◌, refl, sym, ap, subst, ◌∙◌, append_assoc, arith}
use Rattle.std.proofs.lemmas.List.{append-nil}
use Rattle.tel_term.specs.declared.terms.Term.{Term}
use Rattle.formula_syntax.specs.Points.{Word, Known, Point}
use Rattle.grammar_laws.specs.Points.{at}
use Rattle.formula_syntax.specs.Given.{Onward, skipped, behind_first}

pub onward_none : (p : Point) → Onward p p
onward_none p = record { words = ([], refl); symbols = ([], sym (append-nil p.known.symbols)); vars = ([], sym (append-nil p.known.vars)); symbols_room = omega arith; vars_room = omega arith }

pub onward_then : {a b c : Point} → Onward a b → Onward b c → Onward a c
onward_then {a} {b} {c} f g = record {
  words = (f.words.0 ++ g.words.0, f.words.1 ∙ ap (λ (ws : List Word). f.words.0 ++ ws) g.words.1 ∙ sym (append_assoc f.words.0 g.words.0 c.words));
  symbols = (f.symbols.0 ++ g.symbols.0, g.symbols.1 ∙ ap (λ (ts : List Term). ts ++ g.symbols.0) f.symbols.1 ∙ append_assoc a.known.symbols f.symbols.0 g.symbols.0);
  vars = (f.vars.0 ++ g.vars.0, g.vars.1 ∙ ap (λ (vs : List (List ℕ)). vs ++ g.vars.0) f.vars.1 ∙ append_assoc a.known.vars f.vars.0 g.vars.0);
  symbols_room = omega arith;
  vars_room = omega arith;
}

onward_behind : (known : Known) (words : List Word) → Onward (at known words) (at known (behind_first words))
onward_behind known [] = onward_none (at known [])
onward_behind known (word ∷ words) = record { words = (word ∷ [], refl); symbols = ([], sym (append-nil known.symbols)); vars = ([], sym (append-nil known.vars)); symbols_room = omega arith; vars_room = omega arith }

pub onward_skip : (p : Point) → Onward p (skipped true p)
onward_skip p = onward_behind p.known p.words

pub onward_is : (p q : Point) → q ≡ skipped true p → Onward p q
onward_is p q is = let P : Point → Type 0 = λ r. Onward p r in subst P (sym is) (onward_skip p)
