-- The states of a trail's trace rise.
use Rattle.std.proofs.Common.{◌≡◌, ℕ, true, List, subst}
use Rattle.std.specs.Prelude.{nat_lt}
use Rattle.std.specs.List.{list_all, range_with_len}
use Rattle.std.proofs.lemmas.Bool.{and_parts}
use Rattle.tel_base.specs.Literals.{lit_of}
use Rattle.tel_base.proofs.Members.{In-list_all, list_all-from_In}
use Rattle.tel_rule.specs.Rising.{numbers_rise}
use Rattle.tel_semantics.specs.Traces.{Test, is_state}
use Rattle.tel_semantics.specs.Lists.{full_trace}
use Rattle.tel_semantics.proofs.Below.{Under-full}
use Rattle.tel_semantics.proofs.Minimal.{part_of, Under-part_of}
use Rattle.atom_space.specs.Numbers.{Counts, visible}
use Rattle.lit_trail.specs.declared.assignment.Entry.{Entry}
use Rattle.lit_trail.specs.Sound.{holds}
use Rattle.stable_models.proofs.LawProofs.{part_rows}
use Rattle.trace_list.specs.Reading.{trace_of}

pub states_rise : (entries : List Entry) (counts : Counts) (n : ℕ) → list_all numbers_rise (trace_of entries counts n) ≡ true
states_rise entries counts n =
    let seen : Test = λ k a. holds entries (lit_of (visible counts a k)) in
    let part = part_of seen 0 (full_trace counts.atoms n) in
    let whole = Under-full counts.atoms n part (Under-part_of seen 0 (full_trace counts.atoms n)) in
    let rises = list_all-from_In numbers_rise part (λ state i. (and_parts (numbers_rise state) (list_all (λ (a : ℕ). nat_lt a counts.atoms) state) (In-list_all (is_state counts.atoms) state part whole.1 i)).0) in
    subst (λ (states : List (List ℕ)). list_all numbers_rise states ≡ true) (part_rows seen (range_with_len 0 counts.atoms) n 0) rises
