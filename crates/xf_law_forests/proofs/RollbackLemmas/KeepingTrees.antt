-- The trees of a forest with kept texts: what they have of its lists.
use Rattle.std.proofs.Common.{◌≡◌, ℕ, suc, ◌+◌, ◌==◌, Bool, true, false, not, cond, ◌&&◌, ◌||◌, List, [], ◌∷◌, nat_lt, Option, Some, None, refl, sym, ap, ◌∙◌, subst, inl, inr, arith}
use Rattle.std.specs.Prelude.{◌≤◌, filter, if◌then◌else◌}
use Rattle.std.specs.List.{list_any}
use Rattle.std.proofs.lemmas.Bool.{cases_Bool}
use Rattle.std.proofs.lemmas.Bool.Decides.{nat_tests}
use Rattle.xf_def_forest.specs.declared.content.Node.{Node}
use Rattle.xf_def_forest.specs.declared.content.Content.{Content}
use Rattle.xf_def_forest.specs.declared.content.Content.TheVariants.{Root, Element, Attribute, Text}
use Rattle.xf_def_forest.specs.declared.content.Kind.{Kind}
use Rattle.xf_def_forest.specs.declared.content.Kind.TheVariants as kind
use Rattle.xf_def_forest.specs.Forest.{is_element, is_attribute, kind_of, kind_at, has_number}
use Rattle.xf_def_forest.specs.Texts.{Keeping, KeptText, is_of, back, without}
use Rattle.xf_def_forest.specs.WellFormed.{AreTrees, are_apart, are_below, are_depths, are_tops, are_kept_apart}
use Rattle.xf_def_forest.proofs.BackLaws.{and-true, or-false, not-true, false-true, one_number}
use Rattle.xf_law_forests.proofs.RollbackLemmas.Trees.{Trees, none, tree, onto, times, reading}
use Rattle.xf_law_forests.proofs.RollbackLemmas.TreeTexts.{lone}
use Rattle.xf_law_forests.proofs.RollbackLemmas.TreeShape.{Sound, sound-trees, node_times, times-onto}
use Rattle.xf_law_forests.proofs.RollbackLemmas.TreeMoved.{some}
use Rattle.xf_law_forests.proofs.RollbackLemmas.TreeBlank.{AreTexts}
use Rattle.xf_law_forests.proofs.RollbackLemmas.TreeFacts.{is_at}

-- ---- kinds

pub any-onto : (p : ℕ → Content → Bool) (d : ℕ) (t : Trees) (ys : List Node) → list_any (λ (x : Node). p x.number x.content) (onto d t ys) ≡ (some p t || list_any (λ (x : Node). p x.number x.content) ys)
any-onto p d none ys = refl
any-onto p d (tree n c k r) ys =
    ap (λ b. p n c || b) (any-onto p (suc d) k (onto d r ys) ∙ ap (λ b. some p k || b) (any-onto p d r ys)) ∙ assoc (p n c) (some p k) (some p r) (list_any (λ (x : Node). p x.number x.content) ys)
  where
    assoc : (a b c d : Bool) → (a || (b || (c || d))) ≡ ((a || (b || c)) || d)
    assoc true b c d = refl
    assoc false true c d = refl
    assoc false false c d = refl

or-none : (a : Bool) → (a || false) ≡ a
or-none true = refl
or-none false = refl

pub any-is : (q : Content → Bool) (n : ℕ) (t : Trees) → list_any (λ (x : Node). (x.number == n) && q x.content) (onto 0 t []) ≡ is_at q n t
any-is q n t = any-onto (λ m c. (m == n) && q c) 0 t [] ∙ or-none (is_at q n t)

-- the kind, and the test that finds it
pub record KindTest (k : Kind) (q : Content → Bool) : Type 0 where
  pub found : (c : Content) → kind_of c ≡ k → q c ≡ true
  pub only : (c : Content) → q c ≡ true → kind_of c ≡ k

pub element-test : KindTest kind.Element is_element
element-test = record { found = found; only = only }
  where
    found : (c : Content) → kind_of c ≡ kind.Element → is_element c ≡ true
    found Root e = cc e
    found (Element name) e = refl
    found (Attribute name text) e = cc e
    found (Text text) e = cc e

    only : (c : Content) → is_element c ≡ true → kind_of c ≡ kind.Element
    only Root e = cc e
    only (Element name) e = refl
    only (Attribute name text) e = cc e
    only (Text text) e = cc e

pub attribute-test : KindTest kind.Attribute is_attribute
attribute-test = record { found = found; only = only }
  where
    found : (c : Content) → kind_of c ≡ kind.Attribute → is_attribute c ≡ true
    found Root e = cc e
    found (Element name) e = cc e
    found (Attribute name text) e = refl
    found (Text text) e = cc e

    only : (c : Content) → is_attribute c ≡ true → kind_of c ≡ kind.Attribute
    only Root e = cc e
    only (Element name) e = cc e
    only (Attribute name text) e = refl
    only (Text text) e = cc e

some_kind : {a b : Kind} → ◌≡◌ {A = Option Kind} (Some a) (Some b) → a ≡ b
some_kind e = cc e

no_kind : {a : Kind} → ◌≡◌ {A = Option Kind} None (Some a) → ⊥
no_kind e = cc e

pub kind-any : (k : Kind) (q : Content → Bool) → KindTest k q → (n : ℕ) (nodes : List Node) → kind_at n nodes ≡ Some k → list_any (λ (x : Node). (x.number == n) && q x.content) nodes ≡ true
kind-any k q test n [] h = absurd (no_kind h)
kind-any k q test n (x ∷ xs) h =
    elim (cases_Bool (x.number == n)) [
      | inl e ↦ rw (e, test.found x.content (some_kind (rw e at h))) refl
      | inr e ↦ rw e (kind-any k q test n xs (rw e at h))
    ]

any-times : (q : Content → Bool) (n : ℕ) (nodes : List Node) → list_any (λ (x : Node). (x.number == n) && q x.content) nodes ≡ true → 1 ≤ node_times n nodes
any-times q n [] h = absurd (false-true h)
any-times q n (x ∷ xs) h =
    elim (cases_Bool (x.number == n)) [
      | inl e ↦ rw e (omega arith)
      | inr e ↦ let more : 1 ≤ node_times n xs = any-times q n xs (rw e at h) in rw e (omega (arith, more))
    ]

pub any-kind : (k : Kind) (q : Content → Bool) → KindTest k q → (n : ℕ) (nodes : List Node) → node_times n nodes ≤ 1 → list_any (λ (x : Node). (x.number == n) && q x.content) nodes ≡ true → kind_at n nodes ≡ Some k
any-kind k q test n [] once h = absurd (false-true h)
any-kind k q test n (x ∷ xs) once h =
    elim (cases_Bool (x.number == n)) [
      | inl e ↦
          let left : node_times n xs ≡ 0 = omega (arith, (rw e at once)) in
          rw e (ap Some (test.only x.content (first (rw e at h) left)))
      | inr e ↦ rw e (any-kind k q test n xs (omega (arith, (rw e at once))) (rw e at h))
    ]
  where
    first : (q x.content || list_any (λ (x : Node). (x.number == n) && q x.content) xs) ≡ true → node_times n xs ≡ 0 → q x.content ≡ true
    first g left =
        elim (cases_Bool (q x.content)) [
          | inl e ↦ e
          | inr e ↦ let more : 1 ≤ node_times n xs = any-times q n xs (rw e at g) in let no : ⊥ = omega (arith, more, left) in absurd no
        ]

-- ---- numbers

abbrev pub kept_times : ℕ → List KeptText → ℕ
kept_times n [] = 0
kept_times n (t ∷ ts) = (if t.number == n then 1 else 0) + kept_times n ts

pub absent-times : (n : ℕ) (xs : List Node) → has_number n xs ≡ false → node_times n xs ≡ 0
absent-times n [] h = refl
absent-times n (x ∷ xs) h = let parts = or-false (x.number == n) (has_number n xs) h in let rest = absent-times n xs parts.1 in rw parts.0 (omega (arith, rest))

apart-once : (n : ℕ) (xs : List Node) → are_apart xs ≡ true → node_times n xs ≤ 1
apart-once n [] h = omega arith
apart-once n (x ∷ xs) h =
    let parts = and-true (not (has_number x.number xs)) (are_apart xs) h in
    elim (cases_Bool (x.number == n)) [
      | inl e ↦
          let gone : node_times n xs ≡ 0 = absent-times n xs (subst (λ m. has_number m xs ≡ false) (one_number x.number n e) (not-true (has_number x.number xs) parts.0)) in
          rw e (omega (arith, gone))
      | inr e ↦ let rest = apart-once n xs parts.1 in rw e (omega (arith, rest))
    ]

kept-absent : (n : ℕ) (ts : List KeptText) → list_any (λ (u : KeptText). u.number == n) ts ≡ false → kept_times n ts ≡ 0
kept-absent n [] h = refl
kept-absent n (t ∷ ts) h =
    let parts = or-false (t.number == n) (list_any (λ (u : KeptText). u.number == n) ts) h in
    let rest = kept-absent n ts parts.1 in rw parts.0 (omega (arith, rest))

kept-once : (n : ℕ) (ts : List KeptText) → are_kept_apart ts ≡ true → kept_times n ts ≤ 1
kept-once n [] h = omega arith
kept-once n (t ∷ ts) h =
    let parts = and-true (not (list_any (λ (u : KeptText). u.number == t.number) ts)) (are_kept_apart ts) h in
    elim (cases_Bool (t.number == n)) [
      | inl e ↦
          let gone : kept_times n ts ≡ 0 = kept-absent n ts (subst (λ m. list_any (λ (u : KeptText). u.number == m) ts ≡ false) (one_number t.number n e) (not-true (list_any (λ (u : KeptText). u.number == t.number) ts) parts.0)) in
          rw e (omega (arith, gone))
      | inr e ↦ let rest = kept-once n ts parts.1 in rw e (omega (arith, rest))
    ]

kept-outside : (n : ℕ) (nodes : List Node) (ts : List KeptText) → has_number n nodes ≡ true → list_any (λ (t : KeptText). has_number t.number nodes) ts ≡ false → kept_times n ts ≡ 0
kept-outside n nodes [] live h = refl
kept-outside n nodes (t ∷ ts) live h =
    let parts = or-false (has_number t.number nodes) (list_any (λ (t : KeptText). has_number t.number nodes) ts) h in
    let rest = kept-outside n nodes ts live parts.1 in
    elim (cases_Bool (t.number == n)) [
      | inl e ↦ absurd (false-true (sym (subst (λ m. has_number m nodes ≡ false) (one_number t.number n e) parts.0) ∙ live))
      | inr e ↦ rw e (omega (arith, rest))
    ]

keeping-once : (n : ℕ) (k : Keeping) → AreTrees k → node_times n k.forest.nodes + kept_times n k.kept ≤ 1
keeping-once n k sound =
    let a = apart-once n k.forest.nodes sound.apart in
    let b = kept-once n k.kept sound.kept_apart in
    elim (cases_Bool (has_number n k.forest.nodes)) [
      | inl e ↦ let c = kept-outside n k.forest.nodes k.kept e sound.kept_outside in omega (arith, a, c)
      | inr e ↦ let c = absent-times n k.forest.nodes e in omega (arith, b, c)
    ]

below-old : (n next : ℕ) (xs : List Node) → next ≤ n → are_below next xs ≡ true → node_times n xs ≡ 0
below-old n next [] h b = refl
below-old n next (x ∷ xs) h b =
    let parts = and-true (nat_lt x.number next) (are_below next xs) b in
    let rest = below-old n next xs h parts.1 in
    let less = parts.0 in
    let other : (x.number == n) ≡ false = grind (arith, nat_tests, less, h) in
    rw other (omega (arith, rest))

-- ---- a forest in hand

pub record Stands (k : Keeping) : Type 0 where
  pub trees : Trees
  pub nodes : k.forest.nodes ≡ onto 0 trees []
  pub sound : Sound false trees
  pub once : (n : ℕ) → times n trees + kept_times n k.kept ≤ 1
  pub old : (n : ℕ) → k.forest.next ≤ n → times n trees ≡ 0

pub stands : (k : Keeping) → AreTrees k → Stands k
stands k sound =
    let r = reading k.forest.nodes sound.depths in
    let count : (n : ℕ) → node_times n k.forest.nodes ≡ times n r.trees = λ n. ap (node_times n) r.whole ∙ times-onto n 0 r.trees [] ∙ plain (times n r.trees) in
    record {
      trees = r.trees;
      nodes = r.whole;
      sound = sound-trees r.trees (subst (λ l. are_depths l ≡ true) r.whole sound.depths) (subst (λ l. are_tops l ≡ true) r.whole sound.tops);
      once = λ n. subst (λ i. i + kept_times n k.kept ≤ 1) (count n) (keeping-once n k sound);
      old = λ n h. sym (count n) ∙ below-old n k.forest.next k.forest.nodes h sound.below;
    }
  where
    plain : (a : ℕ) → a + 0 ≡ a
    plain a = omega arith

-- ---- texts that come back

pub back-texts : (ts : List KeptText) → AreTexts (lone (back ts))
back-texts [] = tt
back-texts (t ∷ ts) = (refl, refl, back-texts ts)

pub back-times : (p : ℕ) (ns : List ℕ) (ts : List KeptText) → times p (lone (back (filter (is_of ns) ts))) + kept_times p (without ns ts) ≡ kept_times p ts
back-times p ns [] = omega arith
back-times p ns (t ∷ ts) = by (is_of ns t) (back-times p ns ts)
  where
    by : (b : Bool) → times p (lone (back (filter (is_of ns) ts))) + kept_times p (without ns ts) ≡ kept_times p ts
        → times p (lone (back (cond b (t ∷ filter (is_of ns) ts) (filter (is_of ns) ts)))) + kept_times p (cond (not b) (t ∷ without ns ts) (without ns ts)) ≡ (if t.number == p then 1 else 0) + kept_times p ts
    by true h = omega (arith, h)
    by false h = omega (arith, h)
