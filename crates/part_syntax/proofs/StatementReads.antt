-- Productions of statements are read, at each number of levels; and items, where facts come first.
use Rattle.std.proofs.Common.{◌≡◌, ℕ, suc, Bool, true, Option, Some, None, refl, ◌||◌}
use Rattle.tel_rule.specs.declared.statements.Fact.{Fact}
use Rattle.tel_rule.specs.declared.statements.Head.{Head}
use Rattle.formula_syntax.specs.declared.marks.Mark.TheVariants as marks
use Rattle.formula_syntax.specs.Points.{Word}
use Rattle.grammar_laws.specs.Steps.{passes, or_also}
use Rattle.formula_syntax.specs.Grammar.{sign}
use Rattle.formula_syntax.specs.Reading.{starts_atom}
use Rattle.grammar_laws.proofs.Readers.{nothing, wider-starts}
use Rattle.grammar_laws.proofs.Lifting.{Lifts, Apart, either-lifts}
use Rattle.part_syntax.specs.Grammar.{word, alone, Produces, AnAtom, IsThing, facts, head_of, behind_facts, other_item, IsFactOrRule, IsItem}
use Rattle.grammar_laws.specs.Productions.{given, or, means, begun_by}
use Rattle.part_syntax.specs.Reading.{read_thing, read_as, read_facts, read_behind, read_fact_or_rule, read_item, starts, starts_item}
use Rattle.grammar_laws.proofs.Described.{gone_on_by, fine, reads-it, lifts-it, apart-next, apart-begun}
use Rattle.grammar_laws.proofs.ReadBy.{Read_by, either-read, after-read, after-lifts}
use Rattle.part_syntax.proofs.Things.{words, thing-read, thing-lifts}

produced-read : {A : Type 0} (p : Produces A) → fine words p ≡ true → (n : ℕ) → Read_by (means word (IsThing n) p) (read_as p n) (begun_by word starts p) (gone_on_by words p)
produced-read p ok n = reads-it words (IsThing n) (read_thing n) (thing-read n) p ok

produced-lifts : {A : Type 0} (p : Produces A) → fine words p ≡ true → (n : ℕ) → Lifts (means word (IsThing n) p) (means word (IsThing (suc n)) p) (read_as p n) (read_as p (suc n))
produced-lifts p ok n = lifts-it words (IsThing n) (IsThing (suc n)) (read_thing n) (read_thing (suc n)) (thing-lifts n) (thing-read (suc n)) p ok

-- ---- facts, and the rules that begin like facts

-- a stop, or the tail of a rule
abbrev starts_end : Word → Bool
starts_end = or_also (passes (sign marks.Stop)) (passes (sign marks.If))

or-left_of : (a b : Bool) → a ≡ true → (a || b) ≡ true
or-left_of a b is = rw is refl

behind_facts-fine : (fact : Fact) (head : Option Head) → fine words (behind_facts fact head) ≡ true
behind_facts-fine fact None = refl
behind_facts-fine fact (Some head) = refl

behind-read : (n : ℕ) (fact : Fact) (head : Option Head) → Read_by (means word (IsThing n) (behind_facts fact head)) (read_behind n fact head) starts_end nothing
behind-read n fact None =
    let r = produced-read (behind_facts fact None) refl n in
    record {
      reads = r.reads;
      begun = wider-starts (means word (IsThing n) (behind_facts fact None)) (passes (sign marks.Stop)) starts_end r.begun (λ word is. or-left_of (passes (sign marks.Stop) word) (passes (sign marks.If) word) is);
    }
behind-read n fact (Some head) = produced-read (behind_facts fact (Some head)) refl n

-- a stop and a tail go on with no facts
abbrev end_of : Produces (Unit {0})
end_of = or (alone marks.Stop) (alone marks.If)

apart-end : Apart starts_end (gone_on_by words facts)
apart-end = apart-next words facts end_of refl

fact_or_rule-read : (n : ℕ) → Read_by (IsFactOrRule n) (read_fact_or_rule n) starts_atom nothing
fact_or_rule-read n =
    after-read (means word (IsThing n) facts) (λ fact. means word (IsThing n) (behind_facts fact (head_of fact))) (read_facts n) (λ fact. read_behind n fact (head_of fact)) starts_atom (gone_on_by words facts) starts_end nothing
    (produced-read facts refl n) (λ fact. behind-read n fact (head_of fact)) apart-end

fact_or_rule-lifts : (n : ℕ) → Lifts (IsFactOrRule n) (IsFactOrRule (suc n)) (read_fact_or_rule n) (read_fact_or_rule (suc n))
fact_or_rule-lifts n =
    after-lifts (means word (IsThing n) facts) (means word (IsThing (suc n)) facts) (λ fact. means word (IsThing n) (behind_facts fact (head_of fact))) (λ fact. means word (IsThing (suc n)) (behind_facts fact (head_of fact)))
    (read_facts n) (read_facts (suc n)) (λ fact. read_behind n fact (head_of fact)) (λ fact. read_behind (suc n) fact (head_of fact))
    (produced-lifts facts refl n) (λ fact. produced-lifts (behind_facts fact (head_of fact)) (behind_facts-fine fact (head_of fact)) n) (produced-read facts refl (suc n)).reads.near

-- ---- items

apart-others : Apart (begun_by word starts other_item) starts_atom
apart-others = apart-begun words (given AnAtom) other_item refl

pub item-read : (n : ℕ) → Read_by (IsItem n) (read_item n) starts_item nothing
item-read n = either-read (IsFactOrRule n) (means word (IsThing n) other_item) (read_fact_or_rule n) (read_as other_item n) starts_atom nothing (begun_by word starts other_item) (gone_on_by words other_item) (fact_or_rule-read n) (produced-read other_item refl n) apart-others

pub item-lifts : (n : ℕ) → Lifts (IsItem n) (IsItem (suc n)) (read_item n) (read_item (suc n))
item-lifts n = either-lifts (IsFactOrRule n) (IsFactOrRule (suc n)) (means word (IsThing n) other_item) (means word (IsThing (suc n)) other_item) starts_atom (read_fact_or_rule n) (read_fact_or_rule (suc n)) (read_as other_item n) (read_as other_item (suc n)) (fact_or_rule-lifts n) (produced-lifts other_item refl n)
