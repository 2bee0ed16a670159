-- The statements of texts speak of the terms of the program.
use Rattle.std.proofs.Common.{◌≡◌, ◌⊎◌, inl, inr, ℕ, ◌+◌, ◌≤◌, List, [], ◌∷◌, length, refl, sym, subst, ⊎_elim, arith}
use Rattle.tel_base.specs.Members.{In}
use Rattle.tel_base.proofs.Members.{In-append_cases}
use Rattle.tel_term.specs.declared.terms.Term.{Term}
use Rattle.tel_term.specs.declared.exprs.Expr.{Expr}
use Rattle.tel_rule.specs.declared.parts.Part.{Part}
use Rattle.tel_rule.specs.declared.parts.Part.TheVariants as parts
use Rattle.tel_rule.specs.declared.statements.Statement.{Statement}
use Rattle.formula_syntax.specs.Points.{Known, Point}
use Rattle.grammar_laws.specs.Points.{at}
use Rattle.grammar_laws.specs.Shapes.{Each}
use Rattle.part_syntax.specs.Grammar.{Stated, IsStated, Item, InPart, Says, statements_in, said_in, part_behind, afresh}
use Rattle.part_syntax.specs.Programs.{ReadTexts, levels, unknown}
use Rattle.rule_plans.specs.Within.{IsWithin, kind_exprs}
use Rattle.checked_programs.specs.Laws.{ProgramsAreWithin}
use Rattle.checked_programs.proofs.Expressions.{EachNear, each-near-stays}
use Rattle.checked_programs.proofs.StatementsNear.{StatementNear, kind_of, item-gives}

-- what is known, with these variables
abbrev with : List Term → List (List ℕ) → Known
with symbols vars = record { symbols = symbols; vars = vars }

-- an item speaks of these terms, and of its variables
abbrev StatedNear : List Term → Stated → Type 0
StatedNear symbols stated = StatementNear stated.item (with symbols stated.vars)

stated-stays : (stated : Stated) (symbols more : List Term) → length symbols ≤ length more → StatedNear symbols stated → StatedNear more stated
stated-stays stated symbols more l h =
    each-near-stays (kind_of stated.item) (with symbols stated.vars) (with more stated.vars) (record { symbols = l; vars = omega arith }) h

abbrev AllStated : List Term → List Stated → Type 0
AllStated symbols list = (stated : Stated) → In stated list → StatedNear symbols stated

one-stated : (n : ℕ) (from : Point) (stated : Stated) (to : Point) → IsStated n from stated to → (length from.known.symbols ≤ length to.known.symbols) × StatedNear to.known.symbols stated
one-stated n from stated to r =
    let gives = item-gives n in (
      (gives.later (at (afresh from.known) from.words) stated.item to r.reads).symbols,
      subst (λ (vars : List (List ℕ)). StatementNear stated.item (with to.known.symbols vars)) (sym r.vars_are) (gives.holds (at (afresh from.known) from.words) stated.item to r.reads),
    )

all-stated : (n : ℕ) (from : Point) (list : List Stated) (to : Point) → Each (IsStated n) from list to → (length from.known.symbols ≤ length to.known.symbols) × AllStated to.known.symbols list
all-stated n from [] to r = (subst (λ (p : Point). length from.known.symbols ≤ length p.known.symbols) r (omega arith), λ stated there. absurd there)
all-stated n from (stated ∷ more) to r =
    let here = one-stated n from stated r.0 r.1 in
    let later = all-stated n r.0 more to r.2 in
    (omega (arith, here.0, later.0), λ other there. ⊎_elim (λ same. subst (λ (x : Stated). StatedNear to.known.symbols x) same (stated-stays stated r.0.known.symbols to.known.symbols later.0 here.1)) (λ in_more. later.1 other in_more) there)

-- a statement that is near, as the statements of a program are
abbrev IsNear : List Term → Statement → Type 0
IsNear symbols statement = EachNear (kind_exprs statement.kind) (with symbols statement.vars)

said-near : (symbols : List Term) (named : Part) (stated : Stated) (item : Item) → stated.item ≡ item → StatedNear symbols stated → (statement : Statement) → In statement (said_in named stated item) → IsNear symbols statement
said-near symbols named stated (InPart next) is h statement there = absurd there
said-near symbols named stated (Says kind) is h statement there =
    ⊎_elim (λ same. subst (λ (x : Statement). IsNear symbols x) same (subst (λ (x : Item). StatementNear x (with symbols stated.vars)) is h)) (λ none. absurd none) there

statements-near : (symbols : List Term) (named : Part) (list : List Stated) → AllStated symbols list → (statement : Statement) → In statement (statements_in named list) → IsNear symbols statement
statements-near symbols named [] h statement there = absurd there
statements-near symbols named (stated ∷ more) h statement there =
    ⊎_elim (λ here. said-near symbols named stated stated.item refl (h stated (inl refl)) statement here)
    (λ later. statements-near symbols (part_behind named stated.item) more (λ other in_more. h other (inr in_more)) statement later)
    (In-append_cases statement (said_in named stated stated.item) (statements_in (part_behind named stated.item) more) there)

abbrev AllNear : List Term → List Statement → Type 0
AllNear symbols statements = (statement : Statement) → In statement statements → IsNear symbols statement

near-longer : (symbols more : List Term) → length symbols ≤ length more → (statement : Statement) → IsNear symbols statement → IsNear more statement
near-longer symbols more l statement h =
    each-near-stays (kind_exprs statement.kind) (with symbols statement.vars) (with more statement.vars) (record { symbols = l; vars = omega arith }) h

texts-near : (n file : ℕ) (texts : List (List ℕ)) (known : Known) (statements : List Statement) (later : Known) → ReadTexts n file texts known statements later → (length known.symbols ≤ length later.symbols) × AllNear later.symbols statements
texts-near n file [] known statements later r =
    (subst (λ (k : Known). length known.symbols ≤ length k.symbols) r.1 (omega arith), λ statement there. absurd (subst (λ (list : List Statement). In statement list) r.0 there))
texts-near n file (text ∷ texts) known statements later (stated, middle, more, reads, whole, rest) =
    let here = all-stated n (at known reads.words) stated (at middle []) reads.items in
    let behind = texts-near n (file + 1) texts middle more later rest in (
      omega (arith, here.0, behind.0),
      λ statement there.
          ⊎_elim (λ first. near-longer middle.symbols later.symbols behind.0 statement (statements-near middle.symbols parts.Initial stated here.1 statement first))
          (λ second. behind.1 statement second)
          (In-append_cases statement (statements_in parts.Initial stated) more (subst (λ (list : List Statement). In statement list) whole there)),
    )

pub programs_within : ProgramsAreWithin
programs_within texts program is statement there =
    let all = (texts-near levels 1 texts unknown program.statements is.later is.reads).1 in
    subst (λ (symbols : List Term). (expr : Expr) → In expr (kind_exprs statement.kind) → IsWithin symbols (length statement.vars) expr) (sym is.symbols_are) (all statement there)
