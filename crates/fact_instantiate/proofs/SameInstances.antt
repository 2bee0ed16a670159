-- Two numberings that agree on the atoms of a rule give it the same instance.
use Rattle.std.proofs.Common.{◌≡◌, ℕ, ◌+◌, Bool, List, [], ◌∷◌, ◌++◌, length, map, nat_lt, refl, sym, ap, ap₂, ◌∙◌, subst, inl}
use Rattle.std.specs.Prelude.{◌==◌, nat_le, if◌then◌else◌}
use Rattle.std.specs.List.{flat_map}
use Rattle.tel_base.proofs.Members.{In, In-append_left, In-append_right}
use Rattle.tel_rule.specs.declared.parts.Part.{Part}
use Rattle.tel_rule.specs.declared.formulas.Atom.{Atom}
use Rattle.tel_rule.specs.declared.formulas.UnaryOp.{UnaryOp}
use Rattle.tel_rule.specs.declared.formulas.UnaryOp.TheVariants as unary
use Rattle.tel_rule.specs.declared.formulas.BinaryOp.{BinaryOp}
use Rattle.tel_rule.specs.declared.formulas.ManyOp.{ManyOp}
use Rattle.tel_rule.specs.declared.formulas.Formula.{Formula}
use Rattle.tel_rule.specs.declared.formulas.Formula.TheVariants as formulas
use Rattle.tel_rule.specs.declared.nodes.NodeOp.{NodeOp}
use Rattle.tel_rule.specs.declared.nodes.NodeOp.TheVariants as ops
use Rattle.tel_rule.specs.declared.nodes.Kid.{Kid}
use Rattle.tel_rule.specs.declared.statements.LitItem.{LitItem}
use Rattle.tel_rule.specs.declared.statements.LitItem.TheVariants as lits
use Rattle.tel_rule.specs.declared.statements.Literal.{Literal}
use Rattle.tel_rule.specs.declared.statements.Head.{Head}
use Rattle.tel_rule.specs.declared.statements.Head.TheVariants as heads
use Rattle.tel_rule.specs.declared.ground.BodyItem.TheVariants as items
use Rattle.tel_rule.specs.declared.ground.GroundHead.TheVariants as derived
use Rattle.instance_build.specs.RuleAtoms.{joined_atoms, formula_atoms, item_atoms, literal_atoms, head_atoms, rule_atoms}
use Rattle.instance_build.specs.Instances.{Numbered, atom_kid, node_over, grown, kid_item, atom_item, once, atom_grown, not_node, twice, ground_literal, ground_body, ground_head, ground_rule}
use Rattle.instance_build.proofs.FormulaLayers.{by_operands, value-atom, value-unary, value-binary, value-many}
use Rattle.instance_build.proofs.NodesAdded.{grown-const, grown-atom, grown-unary, grown-binary, grown-many}

module _ (f g : Atom → ℕ) where
  abbrev Agree : List Atom → Type 0
  Agree atoms = (atom : Atom) → In atom atoms → f atom ≡ g atom

  agree_left : (xs ys : List Atom) → Agree (xs ++ ys) → Agree xs
  agree_left xs ys agree = λ atom there. agree atom (In-append_left atom xs ys there)

  agree_right : (xs ys : List Atom) → Agree (xs ++ ys) → Agree ys
  agree_right xs ys agree = λ atom there. agree atom (In-append_right atom xs ys there)

  agree_as : (xs ys : List Atom) → xs ≡ ys → Agree xs → Agree ys
  agree_as xs ys same agree = subst Agree same agree

  -- ---- formulas

  atoms-atom : (atom : Atom) → formula_atoms (formulas.Atom atom) ≡ atom ∷ []
  atoms-atom atom = value-atom (λ (other : Atom). other ∷ []) (λ (op : NodeOp) (below : List (List Atom)). joined_atoms below) atom

  atoms-unary : (op : UnaryOp) (h : Formula) → formula_atoms (formulas.Unary op h) ≡ formula_atoms h ++ []
  atoms-unary op h = value-unary (λ (other : Atom). other ∷ []) (λ (op : NodeOp) (below : List (List Atom)). joined_atoms below) op h

  atoms-binary : (op : BinaryOp) (h k : Formula) → formula_atoms (formulas.Binary op h k) ≡ formula_atoms h ++ (formula_atoms k ++ [])
  atoms-binary op h k = value-binary (λ (other : Atom). other ∷ []) (λ (op : NodeOp) (below : List (List Atom)). joined_atoms below) op h k

  atoms-many : (op : ManyOp) (hs : List Formula) → formula_atoms (formulas.Many op hs) ≡ joined_atoms (map formula_atoms hs)
  atoms-many op hs = value-many (λ (other : Atom). other ∷ []) (λ (op : NodeOp) (below : List (List Atom)). joined_atoms below) op hs

  abbrev IsSame : Formula → Type 0
  IsSame formula = Agree (formula_atoms formula) → grown f formula ≡ grown g formula

  each_same : (es : List ((h : Formula) × IsSame h)) → Agree (joined_atoms (map formula_atoms (map (λ e. e.0) es))) → map (grown f) (map (λ e. e.0) es) ≡ map (grown g) (map (λ e. e.0) es)
  each_same [] agree = refl
  each_same (e ∷ es) agree =
      let here = formula_atoms e.0 in
      let later = joined_atoms (map formula_atoms (map (λ e. e.0) es)) in
      ap₂ (λ (kid : Numbered Kid) (kids : List (Numbered Kid)). kid ∷ kids) (e.1 (agree_left here later agree)) (each_same es (agree_right here later agree))

  formula_same : (formula : Formula) → IsSame formula
  formula_same = by_operands IsSame (record {
    const = λ op agree. grown-const f op ∙ sym (grown-const g op);
    atom = λ atom agree. grown-atom f atom ∙ ap atom_kid (agree_as _ _ (atoms-atom atom) agree atom (inl refl)) ∙ sym (grown-atom g atom);
    unary = λ op h same agree.
        let all = agree_as _ _ (atoms-unary op h) agree in
        grown-unary f op h
        ∙ ap (λ (kid : Numbered Kid). node_over (ops.Unary op) (kid ∷ [])) (same (agree_left (formula_atoms h) [] all))
        ∙ sym (grown-unary g op h);
    binary = λ op h k left right agree.
        let all = agree_as _ _ (atoms-binary op h k) agree in
        let second = agree_left (formula_atoms k) [] (agree_right (formula_atoms h) (formula_atoms k ++ []) all) in
        grown-binary f op h k
        ∙ ap₂ (λ (one two : Numbered Kid). node_over (ops.Binary op) (one ∷ two ∷ [])) (left (agree_left (formula_atoms h) (formula_atoms k ++ []) all)) (right second)
        ∙ sym (grown-binary g op h k);
    many = λ op es agree.
        let hs = map (λ (e : (h : Formula) × IsSame h). e.0) es in
        grown-many f op hs
        ∙ ap (node_over (ops.Many op)) (each_same es (agree_as _ _ (atoms-many op hs) agree))
        ∙ sym (grown-many g op hs);
  })

  -- ---- literals

  item_same : (atom : Atom) → f atom ≡ g atom → atom_item f atom ≡ atom_item g atom
  item_same atom same i = if nat_lt 0 atom.before then items.Before (same i) else items.Atom (same i)

  once_same : (positive : Bool) (item : LitItem) → Agree (item_atoms item) → once f positive item ≡ once g positive item
  once_same positive (lits.Atom atom) agree = λ i first. (record { positive = positive; item = item_same atom (agree atom (inl refl)) i } ∷ [], [])
  once_same positive (lits.Tel formula) agree = λ i first. (record { positive = positive; item = kid_item (formula_same formula agree i first).0 } ∷ [], (formula_same formula agree i first).1)
  once_same positive (lits.Compare relation left right) agree = refl

  child_same : (atom : Atom) → f atom ≡ g atom → atom_grown f atom ≡ atom_grown g atom
  child_same atom same i = if nat_lt 0 atom.before then node_over (ops.Unary unary.Previous) (atom_kid (same i) ∷ []) else atom_kid (same i)

  twice_same : (item : LitItem) → Agree (item_atoms item) → twice f item ≡ twice g item
  twice_same (lits.Atom atom) agree = λ i first. not_node (child_same atom (agree atom (inl refl)) i) first
  twice_same (lits.Tel formula) agree = λ i first. not_node (formula_same formula agree i) first
  twice_same (lits.Compare relation left right) agree = refl

  literal_same : (literal : Literal) → Agree (literal_atoms literal) → ground_literal f literal ≡ ground_literal g literal
  literal_same literal agree i first =
      if nat_le literal.nots 1 then once_same (literal.nots == 0) literal.item agree i first else twice_same literal.item agree i first

  body_same : (body : List Literal) → Agree (flat_map literal_atoms body) → ground_body f body ≡ ground_body g body
  body_same [] agree = refl
  body_same (literal ∷ more) agree =
      let these = literal_same literal (agree_left (literal_atoms literal) (flat_map literal_atoms more) agree) in
      let those = body_same more (agree_right (literal_atoms literal) (flat_map literal_atoms more) agree) in
      λ i first. ((these i first).0 ++ (those i (first + length (these i first).1)).0, (these i first).1 ++ (those i (first + length (these i first).1)).1)

  -- ---- rules

  head_same : (head : Head) → Agree (head_atoms head) → ground_head f head ≡ ground_head g head
  head_same (heads.Normal atom) agree = λ i. derived.Normal (agree atom (inl refl) i) (nat_lt 0 atom.after)
  head_same (heads.Choice atom) agree = λ i. derived.Choice (agree atom (inl refl) i) (nat_lt 0 atom.after)
  head_same heads.None agree = refl

  pub rule_same : (number : ℕ) (part : Part) (head : Head) (body : List Literal) → ((atom : Atom) → In atom (rule_atoms head body) → f atom ≡ g atom) → ground_rule f number part head body ≡ ground_rule g number part head body
  rule_same number part head body agree =
      let over = head_same head (agree_left (head_atoms head) (flat_map literal_atoms body) agree) in
      let inside = body_same body (agree_right (head_atoms head) (flat_map literal_atoms body) agree) in
      λ i first. (record { statement = number; part = part; head = over i; body = (inside i first).0 }, (inside i first).1)
