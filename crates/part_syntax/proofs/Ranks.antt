-- Texts in a row: those that were read, and the outcome of the rest.
use Rattle.std.proofs.Common.{◌≡◌, ℕ, ◌+◌, List, [], ◌∷◌, ◌++◌, refl, sym, ap, ◌∙◌, append_assoc, subst, inr}
use Rattle.std.proofs.lemmas.List.{append-nil}
use Rattle.tel_term.specs.declared.terms.Term.{Term}
use Rattle.tel_rule.specs.declared.statements.Statement.{Statement}
use Rattle.part_syntax.specs.declared.fault.ReadFault.{ReadFault}
use Rattle.part_syntax.specs.Outcomes.{TextReads, TextsRead, TextsFail}

-- whatever the rest of the texts gives, all of them give
pub record SoRead (n : ℕ) (all : List (List ℕ)) (file : ℕ) (rest : List (List ℕ)) (symbols : List Term) (statements : List Statement) : Type 0 where
  pub reads : (more : List Statement) (later : List Term) → TextsRead n file rest symbols more later → TextsRead n 1 all [] (statements ++ more) later
  pub fails : (fault : ReadFault) → TextsFail n file rest symbols fault → TextsFail n 1 all [] fault

pub so_more : (n : ℕ) (all : List (List ℕ)) (file : ℕ) (text : List ℕ) (rest whole : List (List ℕ)) (symbols later : List Term) (before after first : List Statement) →
    whole ≡ text ∷ rest → SoRead n all file whole symbols before → after ≡ before ++ first → TextReads n file text symbols first later → SoRead n all (file + 1) rest later after
so_more n all file text rest whole symbols later before after first is so kept read =
    let Reads : List (List ℕ) → Type 0 = λ texts. SoRead n all file texts symbols before in
    let s = subst Reads is so in
    record {
      reads = λ (more : List Statement) (last : List Term) (others : TextsRead n (file + 1) rest later more last).
          let Whole : List Statement → Type 0 = λ statements. TextsRead n 1 all [] statements last in
          subst Whole (sym (ap (λ (xs : List Statement). xs ++ more) kept ∙ append_assoc before first more)) (s.reads (first ++ more) last (first, later, more, read, refl, others));
      fails = λ (fault : ReadFault) (others : TextsFail n (file + 1) rest later fault). s.fails fault (inr (first, later, read, others));
    }

pub so_last : (n : ℕ) (all : List (List ℕ)) (file : ℕ) (rest : List (List ℕ)) (symbols : List Term) (statements : List Statement) → rest ≡ [] → SoRead n all file rest symbols statements → TextsRead n 1 all [] statements symbols
so_last n all file rest symbols statements is so =
    let Reads : List (List ℕ) → Type 0 = λ texts. SoRead n all file texts symbols statements in
    let s = subst Reads is so in
    let Whole : List Statement → Type 0 = λ xs. TextsRead n 1 all [] xs symbols in
    subst Whole (append-nil statements) (s.reads [] symbols (refl, refl))
