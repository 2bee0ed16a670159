-- Theories of few atoms, worked out by hand: their temporal equilibrium models, and what is printed.
use Rattle.std.proofs.Common.{◌≡◌, pos, true, false, [], ◌∷◌, refl}
use Rattle.std.specs.Prelude.{codes}
use Rattle.std.specs.Fmt.{digits}
use Rattle.tel_term.specs.declared.terms.Term.TheVariants as terms
use Rattle.tel_rule.specs.declared.parts.Part.TheVariants as parts
use Rattle.tel_semantics.specs.Formula.{True, Atom, Or, Arrow, Next, negation}
use Rattle.tel_semantics.specs.declared.ends.How.TheVariants.{Complete}
use Rattle.theory_lists.specs.Atoms.{TermAtom, term_atom_lt, same_atom, negative_of}
use Rattle.theory_lists.specs.Theories.{ProgramTheory}
use Rattle.theory_lists.specs.Lists.{equilibria}
use Rattle.theory_lists.specs.Print.{term_atom_text, print_theory}

-- p(1), and -p(a,"b")
abbrev p_one : TermAtom
p_one = record { negative = false; name = codes "p"; args = terms.Num (pos 1) ∷ [] }

abbrev not_p_of_two : TermAtom
not_p_of_two = record { negative = true; name = codes "p"; args = terms.Name (codes "a") ∷ terms.Str (codes "b") ∷ [] }

-- p(1) or not p(1), always
abbrev choice : ProgramTheory
choice = record { atoms = p_one ∷ []; demands = record { part = parts.Always; formula = Or (Atom p_one) (negation (Atom p_one)) } ∷ []; shown = λ atom. true }

choice_one : equilibria choice 1 ≡ ([] ∷ []) ∷ ((0 ∷ []) ∷ []) ∷ []
choice_one = refl

choice_two : equilibria choice 2 ≡ ([] ∷ [] ∷ []) ∷ ([] ∷ (0 ∷ []) ∷ []) ∷ ((0 ∷ []) ∷ [] ∷ []) ∷ ((0 ∷ []) ∷ (0 ∷ []) ∷ []) ∷ []
choice_two = refl

choice_none : equilibria choice 0 ≡ []
choice_none = refl

-- p(1) at the first instant, and -p(a,"b") at the next
abbrev then_next : ProgramTheory
then_next = record {
  atoms = p_one ∷ not_p_of_two ∷ [];
  demands = record { part = parts.Initial; formula = Arrow True (Atom p_one) } ∷ record { part = parts.Initial; formula = Arrow (Atom p_one) (Next (Atom not_p_of_two)) } ∷ [];
  shown = λ atom. true;
}

next_one : equilibria then_next 1 ≡ []
next_one = refl

next_two : equilibria then_next 2 ≡ ((0 ∷ []) ∷ (1 ∷ []) ∷ []) ∷ []
next_two = refl

next_printed : print_theory then_next 2 (((0 ∷ []) ∷ (1 ∷ []) ∷ []) ∷ []) Complete ≡ codes "length 2\ntrace\nstate 0: p(1)\nstate 1: -p(a,\"b\")\nend complete 1\n"
unfolding digits
next_printed = refl

-- {a}. {b}. #show a/0.
abbrev a : TermAtom
a = record { negative = false; name = codes "a"; args = [] }

abbrev b : TermAtom
b = record { negative = false; name = codes "b"; args = [] }

abbrev one_shown : ProgramTheory
one_shown = record {
  atoms = a ∷ b ∷ [];
  demands = record { part = parts.Initial; formula = Or (Atom a) (negation (Atom a)) } ∷ record { part = parts.Initial; formula = Or (Atom b) (negation (Atom b)) } ∷ [];
  shown = same_atom a;
}

-- all four are printed, with a alone
one_printed : print_theory one_shown 1 (equilibria one_shown 1) Complete
    ≡ codes "length 1\ntrace\nstate 0:\ntrace\nstate 0:\ntrace\nstate 0: a\ntrace\nstate 0: a\nend complete 4\n"
unfolding digits
one_printed = refl

text_one : term_atom_text p_one ≡ codes "p(1)"
unfolding digits
text_one = refl

text_two : term_atom_text not_p_of_two ≡ codes "-p(a,\"b\")"
text_two = refl

-- plain comes before negative, and p(1) isn't its negative
plain_first : term_atom_lt p_one (negative_of p_one) ≡ true
plain_first = refl

other_sign : same_atom p_one (negative_of p_one) ≡ false
other_sign = refl
