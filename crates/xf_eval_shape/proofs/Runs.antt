-- Attributes stand right behind their element (XPath 1.0, section 5.3), so that the text of an element comes behind them in the shape.
use Rattle.std.proofs.Common.{◌≡◌, ℕ, suc, ◌==◌, Bool, true, false, not, cond, ◌&&◌, ◌||◌, List, [], ◌∷◌, map, nat_lt, refl, sym, ap, ◌∙◌, arith, subst, inl, inr}
use Rattle.std.specs.Prelude.{⊤, ◌⊎◌}
use Rattle.std.proofs.lemmas.Bool.{eqb-true}
use Rattle.std.proofs.lemmas.Bool.Decides.{nat_tests}
use Rattle.xf_def_forest.specs.declared.content.Node.{Node}
use Rattle.xf_def_forest.specs.declared.content.Content.{Content}
use Rattle.xf_def_forest.specs.declared.content.Content.TheVariants as content
use Rattle.xf_def_forest.specs.Forest.{is_element, is_attribute}
use Rattle.xf_def_forest.specs.Visit.{Visit, visit, visits, visits_from, still_above, numbers, has_parent, is_first}
use Rattle.xf_def_forest.specs.WellFormed.{stands_first, are_first}
use Rattle.xf_def_forest.specs.Shape.{is_borne, erased}
use Rattle.xf_def_forest.proofs.BackLaws.{and-true}
use Rattle.xf_def_xpath.proofs.VisitFacts.{no, self-same}

-- each attribute that is borne is one of the last node that was none
abbrev pub AreRuns : ℕ → List Visit → Type 0
AreRuns owner [] = ⊤
AreRuns owner (y ∷ ys) = (is_borne y ≡ true → is_first owner y.above ≡ true) × AreRuns (cond (is_borne y) owner y.number) ys

-- the owner of the run behind a node: the node, or where this is a borne attribute its parent
abbrev owner_of : ℕ → List Node → Node → ℕ
owner_of owner above x = cond (is_borne (visit above x)) owner x.number

less-zero : (d : ℕ) → nat_lt d 0 ≡ false
less-zero d = grind (arith, nat_tests)

empty-above : (above : List Node) → numbers (still_above 0 above) ≡ []
empty-above [] = refl
empty-above (z ∷ zs) = ap (λ b. numbers (cond b (z ∷ zs) (still_above 0 zs))) (less-zero z.depth) ∙ empty-above zs

less-not : (d : ℕ) → nat_lt d d ≡ false
less-not d = grind (arith, nat_tests)

less-next : (d : ℕ) → nat_lt d (suc d) ≡ true
less-next d = grind (arith, nat_tests)

still-twice : (d : ℕ) (zs : List Node) → still_above d (still_above d zs) ≡ still_above d zs
still-twice d [] = refl
still-twice d (z ∷ zs) = by (nat_lt z.depth d) refl (still-twice d zs)
  where
    by : (b : Bool) → nat_lt z.depth d ≡ b → still_above d (still_above d zs) ≡ still_above d zs → still_above d (cond b (z ∷ zs) (still_above d zs)) ≡ cond b (z ∷ zs) (still_above d zs)
    by true e h = ap (λ b. cond b (z ∷ zs) (still_above d zs)) e
    by false e h = h

element-alone : (c : Content) → is_element c ≡ true → is_attribute c ≡ false
element-alone content.Root h = refl
element-alone (content.Element name) h = refl
element-alone (content.Attribute name text) h = no h
element-alone (content.Text text) h = no h

pick : (a b c d : Bool) → (not a || b || c || d) ≡ true → a ≡ true → b ≡ false → (c ≡ true) ⊎ (d ≡ true)
pick false b c d h i j = no i
pick true true c d h i j = no (sym j)
pick true false true d h i j = inl refl
pick true false false true h i j = inr refl
pick true false false false h i j = no h

-- the next node, where it is a borne attribute
module _ (x y : Node) (above : List Node) where
  abbrev next : List Node
  next = x ∷ still_above x.depth above

  deep : is_borne (visit next y) ≡ true → (y.depth == 0) ≡ false
  deep borne = by (y.depth == 0) refl
    where
      by : (b : Bool) → (y.depth == 0) ≡ b → b ≡ false
      by true e = no (sym (ap (λ d. has_parent (numbers (still_above d next))) (eqb-true y.depth 0 e) ∙ ap has_parent (empty-above next)) ∙ (and-true _ _ borne).1)
      by false e = refl

  at-element : (owner : ℕ) → is_element x.content ≡ true → (suc x.depth == y.depth) ≡ true → is_first (owner_of owner above x) (visit next y).above ≡ true
  at-element owner e d =
      ap (λ b. is_first (cond (b && has_parent (numbers (still_above x.depth above))) owner x.number) (visit next y).above) (element-alone x.content e)
      ∙ ap (λ k. is_first x.number (numbers (still_above k next))) (sym (eqb-true (suc x.depth) y.depth d))
      ∙ ap (λ b. is_first x.number (numbers (cond b next (still_above (suc x.depth) (still_above x.depth above))))) (less-next x.depth)
      ∙ self-same x.number

  same-above : (x.depth == y.depth) ≡ true → (visit next y).above ≡ (visit above x).above
  same-above d =
      ap (λ k. numbers (still_above k next)) (sym (eqb-true x.depth y.depth d))
      ∙ ap (λ b. numbers (cond b next (still_above x.depth (still_above x.depth above)))) (less-not x.depth)
      ∙ ap numbers (still-twice x.depth above)

  at-attribute : (owner : ℕ) → (is_borne (visit above x) ≡ true → is_first owner (visit above x).above ≡ true) → is_attribute x.content ≡ true → (x.depth == y.depth) ≡ true → is_borne (visit next y) ≡ true →
      is_first (owner_of owner above x) (visit next y).above ≡ true
  at-attribute owner h a d borne =
      let parent : has_parent (visit above x).above ≡ true = sym (ap has_parent (same-above d)) ∙ (and-true _ _ borne).1 in
      let own : is_borne (visit above x) ≡ true = ap (λ b. b && has_parent (visit above x).above) a ∙ parent in
      ap (λ b. is_first (cond b owner x.number) (visit next y).above) own
      ∙ ap (is_first owner) (same-above d)
      ∙ h own

  borne-next : (owner : ℕ) → (is_borne (visit above x) ≡ true → is_first owner (visit above x).above ≡ true) → stands_first x y ≡ true → is_borne (visit next y) ≡ true →
      is_first (owner_of owner above x) (visit next y).above ≡ true
  borne-next owner h first borne =
      elim (pick (is_attribute y.content) (y.depth == 0) (is_element x.content && (suc x.depth == y.depth)) (is_attribute x.content && (x.depth == y.depth)) first (and-true _ _ borne).0 (deep borne)) [
        | inl a ↦ let p = and-true (is_element x.content) (suc x.depth == y.depth) a in at-element owner p.0 p.1
        | inr b ↦ let p = and-true (is_attribute x.content) (x.depth == y.depth) b in at-attribute owner h p.0 p.1 borne
      ]

runs-from : (x : Node) (xs : List Node) (owner : ℕ) (above : List Node) → are_first (x ∷ xs) ≡ true → (is_borne (visit above x) ≡ true → is_first owner (visit above x).above ≡ true) → AreRuns owner (visits_from above (x ∷ xs))
runs-from x [] owner above f h = (h, tt)
runs-from x (y ∷ ys) owner above f h =
    let p = and-true (stands_first x y) (are_first (y ∷ ys)) f in
    (h, runs-from y ys (owner_of owner above x) (x ∷ still_above x.depth above) p.1 (borne-next x y above owner h p.0))

of-nodes : (nodes : List Node) → are_first nodes ≡ true → AreRuns 0 (visits nodes)
of-nodes [] f = tt
of-nodes (x ∷ xs) f = runs-from x xs 0 [] f (λ borne. no (and-true _ _ borne).1)

borne-erased : (y : Visit) → is_borne (erased y) ≡ is_borne y
borne-erased y = by y.content
  where
    by : (c : Content) → is_borne (erased (record { number = y.number; above = y.above; content = c })) ≡ is_borne (record { number = y.number; above = y.above; content = c })
    by content.Root = refl
    by (content.Element name) = refl
    by (content.Attribute name text) = refl
    by (content.Text text) = refl

erased-runs : (owner : ℕ) (ys : List Visit) → AreRuns owner ys → AreRuns owner (map erased ys)
erased-runs owner [] h = tt
erased-runs owner (y ∷ ys) h = (
  λ borne. h.0 (sym (borne-erased y) ∙ borne),
  subst (λ b. AreRuns (cond b owner y.number) (map erased ys)) (sym (borne-erased y)) (erased-runs (cond (is_borne y) owner y.number) ys h.1),
)

-- of a forest, whatever its texts
pub runs : (nodes : List Node) → are_first nodes ≡ true → AreRuns 0 (map erased (visits nodes))
runs nodes f = erased-runs 0 (visits nodes) (of-nodes nodes f)
