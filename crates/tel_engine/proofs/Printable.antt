-- The traces of a list are over the atoms of its program, so that they can be printed.
use Rattle.std.proofs.Common.{◌≡◌, ℕ, zero, suc, true, List, [], ◌∷◌, ◌++◌, length, refl, inl, subst, sym}
use Rattle.std.specs.List.{list_all}
use Rattle.std.proofs.lemmas.Bool.{and_parts, and_from}
use Rattle.tel_rule.specs.Rising.{numbers_rise}
use Rattle.tel_rule.specs.Ground.{Ground}
use Rattle.tel_semantics.specs.Traces.{is_state}
use Rattle.tel_semantics.specs.Lists.{full_trace, all_traces}
use Rattle.tel_semantics.specs.Equilibrium.{tem, list_of}
use Rattle.tel_base.proofs.Members.{In, In-filter_from, In-list_all, In-append_left, In-append_right, list_all-from_In}
use Rattle.tel_semantics.proofs.Below.{Under-full, Under-traces_below, list_of-suc}
use Rattle.trace_print.specs.States.{are_below}
use Rattle.trace_list.specs.Listing.{IsFront}

states_below : (count : ℕ) (trace : List (List ℕ)) → list_all (is_state count) trace ≡ true → list_all (are_below count) trace ≡ true
states_below count [] h = refl
states_below count (state ∷ trace) h =
    let both = and_parts (is_state count state) (list_all (is_state count) trace) h in
    let here = and_parts (numbers_rise state) (are_below count state) both.0 in
    and_from (are_below count state) (list_all (are_below count) trace) here.1 (states_below count trace both.1)

-- each atom in a listed trace is one of the program's
pub listed-below : (program : Ground) (n : ℕ) → list_all (list_all (are_below (length program.atoms))) (list_of program n) ≡ true
listed-below program zero = refl
listed-below program (suc n) =
    let count = length program.atoms in
    let traces = all_traces count (suc n) in
    subst (λ (listed : List (List (List ℕ))). list_all (list_all (are_below count)) listed ≡ true) (sym (list_of-suc program n))
    (list_all-from_In (list_all (are_below count)) _ (λ trace listed.
    let kept = In-filter_from (tem program (suc n)) trace traces listed in
    states_below count trace (Under-full count (suc n) trace (Under-traces_below trace (full_trace count (suc n)) kept.0)).1))

-- so in the last trace of a front of the list
pub last-below : (program : Ground) (n : ℕ) (traces : List (List (List ℕ))) (trace : List (List ℕ)) → IsFront (traces ++ trace ∷ []) (list_of program n) → list_all (are_below (length program.atoms)) trace ≡ true
last-below program n traces trace front =
    let member : In trace (list_of program n) = subst (λ (all : List (List (List ℕ))). In trace all) (sym front.1) (In-append_left trace (traces ++ trace ∷ []) front.0 (In-append_right trace traces (trace ∷ []) (refl_in trace))) in
    In-list_all (list_all (are_below (length program.atoms))) trace (list_of program n) (listed-below program n) member
  where
    refl_in : (trace : List (List ℕ)) → In trace (trace ∷ [])
    refl_in trace = inl refl
