-- One text settled in trees is the same text held by them, but for its number: two numbers change places.
use Rattle.std.proofs.Common.{◌≡◌, ℕ, ◌==◌, true, false, if◌then◌else◌, List, [], ◌∷◌, map, Some, None, refl, sym, ap, ◌∙◌, inl, inr, arith}
use Rattle.std.proofs.lemmas.Bool.{cases_Bool}
use Rattle.std.proofs.lemmas.Bool.Decides.{nat_tests}
use Rattle.xf_def_forest.specs.declared.content.Content.{Content}
use Rattle.xf_def_forest.specs.declared.content.Content.TheVariants.{Root, Element, Attribute, Text}
use Rattle.xf_def_forest.specs.Forest.{is_attribute, is_text, own_text}
use Rattle.xf_def_forest.specs.Visit.{Visit}
use Rattle.xf_def_forest.specs.Same.{IsRenumbering, renumbered_visit}
use Rattle.xf_def_forest.specs.Shape.{value_given}
use Rattle.xf_def_forest.specs.Texts.{with_value}
use Rattle.xf_law_forests.proofs.RollbackLemmas.Trees.{Trees, none, tree, followed, times}
use Rattle.xf_law_forests.proofs.RollbackLemmas.TreeTexts.{attributes, times-split}
use Rattle.xf_law_forests.proofs.RollbackLemmas.TreeVisits.{seen}
use Rattle.xf_law_forests.proofs.RollbackLemmas.TreeBlank.{AreLeaves}
use Rattle.xf_law_forests.proofs.RollbackLemmas.TreeOrder.{NoAttributes, AttributesFirst}
use Rattle.xf_law_forests.proofs.SettleLemmas.KindLemmas.{attribute-no_text, leaf-text}
use Rattle.xf_law_forests.proofs.SettleLemmas.Put.{texts_top}
use Rattle.xf_law_forests.proofs.SettleLemmas.Held.{Given, hold}

-- ---- two numbers change places

abbrev pub swap : ℕ → ℕ → ℕ → ℕ
swap a b m = if m == a then b else if m == b then a else m

pub swap-renumbers : (a b : ℕ) → IsRenumbering (swap a b)
swap-renumbers a b x y =
    elim (cases_Bool (x == a)) [
      | inl p ↦ elim (cases_Bool (y == a)) [
        | inl q ↦ rw (p, q) (grind (arith, nat_tests, p, q))
        | inr q ↦ elim (cases_Bool (y == b)) [ inl r ↦ rw (p, q, r) (grind (arith, nat_tests, p, q, r)) | inr r ↦ rw (p, q, r) (grind (arith, nat_tests, p, q, r)) ]
      ]
      | inr p ↦ elim (cases_Bool (x == b)) [
        | inl s ↦ elim (cases_Bool (y == a)) [
          | inl q ↦ rw (p, s, q) (grind (arith, nat_tests, p, s, q))
          | inr q ↦ elim (cases_Bool (y == b)) [ inl r ↦ rw (p, s, q, r) (grind (arith, nat_tests, p, s, q, r)) | inr r ↦ rw (p, s, q, r) (grind (arith, nat_tests, p, s, q, r)) ]
        ]
        | inr s ↦ elim (cases_Bool (y == a)) [
          | inl q ↦ rw (p, s, q) (grind (arith, nat_tests, p, s, q))
          | inr q ↦ elim (cases_Bool (y == b)) [ inl r ↦ rw (p, s, q, r) (grind (arith, nat_tests, p, s, q, r)) | inr r ↦ rw (p, s, q, r) refl ]
        ]
      ]
    ]

pub swap-other : (a b m : ℕ) → (m == a) ≡ false → (m == b) ≡ false → swap a b m ≡ m
swap-other a b m p q = rw (p, q) refl

-- a number changes places with itself
pub swap-itself : (a m : ℕ) → swap a a m ≡ m
swap-itself a m = elim (cases_Bool (m == a)) [ inl p ↦ let e : a ≡ m = grind (arith, nat_tests, p) in rw p e | inr p ↦ rw p refl ]

-- ---- in trees

abbrev pub renamed : (ℕ → ℕ) → Trees → Trees
renamed f none = none
renamed f (tree m c k r) = tree (f m) c (renamed f k) (renamed f r)

pub renamed-seen : (f : ℕ → ℕ) (up : List ℕ) (t : Trees) (vs : List Visit) → seen (map f up) (renamed f t) (map (renumbered_visit f) vs) ≡ map (renumbered_visit f) (seen up t vs)
renamed-seen f up none vs = refl
renamed-seen f up (tree m c k r) vs =
    ap (λ l. record { number = f m; above = map f up; content = c } ∷ seen (f m ∷ map f up) (renamed f k) l) (renamed-seen f up r vs)
    ∙ ap (λ l. record { number = f m; above = map f up; content = c } ∷ l) (renamed-seen f (m ∷ up) k (seen up r vs))

pub renamed-followed : (f : ℕ → ℕ) (t s : Trees) → renamed f (followed t s) ≡ followed (renamed f t) (renamed f s)
renamed-followed f none s = refl
renamed-followed f (tree m c k r) s = ap (tree (f m) c (renamed f k)) (renamed-followed f r s)

pub renamed-attributes : (f : ℕ → ℕ) (t : Trees) → attributes (renamed f t) ≡ renamed f (attributes t)
renamed-attributes f none = refl
renamed-attributes f (tree m c k r) =
    let i = renamed-attributes f r in
    elim (cases_Bool (is_attribute c)) [ inl e ↦ rw e (ap (tree (f m) c (renamed f k)) i) | inr e ↦ rw e i ]

pub renamed-by : (f g : ℕ → ℕ) (t : Trees) → renamed g (renamed f t) ≡ renamed (λ m. g (f m)) t
renamed-by f g none = refl
renamed-by f g (tree m c k r) = ap (λ x. tree (g (f m)) c x (renamed g (renamed f r))) (renamed-by f g k) ∙ ap (tree (g (f m)) c (renamed (λ m. g (f m)) k)) (renamed-by f g r)

-- neither number is there
pub renamed-absent : (a b : ℕ) (t : Trees) → times a t ≡ 0 → times b t ≡ 0 → renamed (swap a b) t ≡ t
renamed-absent a b none h g = refl
renamed-absent a b (tree m c k r) h g =
    let p = times-split a m c k r h in
    let q = times-split b m c k r g in
    ap (λ x. tree x c (renamed (swap a b) k) (renamed (swap a b) r)) (swap-other a b m p.0 q.0)
    ∙ ap (λ x. tree m c x (renamed (swap a b) r)) (renamed-absent a b k p.1 q.1) ∙ ap (tree m c k) (renamed-absent a b r p.2 q.2)

pub renamed-itself : (a : ℕ) (t : Trees) → renamed (swap a a) t ≡ t
renamed-itself a none = refl
renamed-itself a (tree m c k r) =
    ap (λ x. tree x c (renamed (swap a a) k) (renamed (swap a a) r)) (swap-itself a m) ∙ ap (λ x. tree m c x (renamed (swap a a) r)) (renamed-itself a k) ∙ ap (tree m c k) (renamed-itself a r)

-- ---- one content

abbrev pub only : ℕ → List ℕ → Given
only n text m = if n == m then Some text else None

pub value-none : (c : Content) → value_given None c ≡ c
value-none Root = refl
value-none (Element name) = refl
value-none (Attribute name old) = refl
value-none (Text old) = refl

pub value-some : (text : List ℕ) (c : Content) → value_given (Some text) c ≡ with_value text c
value-some text Root = refl
value-some text (Element name) = refl
value-some text (Attribute name old) = refl
value-some text (Text old) = refl

pub turned : (m n : ℕ) → (m == n) ≡ (n == m)
turned m n = grind (arith, nat_tests)

pub hold-absent : (n : ℕ) (text : List ℕ) (t : Trees) → times n t ≡ 0 → hold (only n text) t ≡ t
hold-absent n text none h = refl
hold-absent n text (tree m c k r) h =
    let parts = times-split n m c k r h in
    let other = sym (turned m n) ∙ parts.0 in
    rw other (ap (λ x. tree m x (hold (only n text) k) (hold (only n text) r)) (value-none c) ∙ ap (λ x. tree m c x (hold (only n text) r)) (hold-absent n text k parts.1)
    ∙ ap (tree m c k) (hold-absent n text r parts.2))

-- ---- the texts of a leaf

pub attributes-all : (k : Trees) → AreLeaves k → texts_top k ≡ [] → attributes k ≡ k
attributes-all none h e = refl
attributes-all (tree m c k r) h e =
    elim (cases_Bool (is_attribute c)) [
      | inl is ↦
          let plain = attribute-no_text c is in
          let rest : texts_top r ≡ [] = rw plain at e in
          rw is (ap (tree m c k) (attributes-all r h.2 rest))
      | inr is ↦
          let text : is_text c ≡ true = leaf-text c h.0 is in
          let some : own_text c ∷ texts_top r ≡ [] = rw text at e in
          absurd (nothing (own_text c) (texts_top r) some)
    ]
  where
    nothing : (x : List ℕ) (xs : List (List ℕ)) → x ∷ xs ≡ [] → ⊥
    nothing x xs e = cc e

-- there is one text, behind the attributes
pub record OneText (k : Trees) (text : List ℕ) : Type 0 where
  pub held_by : ℕ
  pub whole : k ≡ followed (attributes k) (tree held_by (Text text) none none)

no-attributes : (k : Trees) → NoAttributes k → attributes k ≡ none
no-attributes none h = refl
no-attributes (tree m c k r) h = let e = h.0 in rw e (no-attributes r h.1)

no-more : (k : Trees) → AreLeaves k → NoAttributes k → texts_top k ≡ [] → k ≡ none
no-more k h plain e = sym (attributes-all k h e) ∙ no-attributes k plain

pub one-text : (k : Trees) (text : List ℕ) → AreLeaves k → AttributesFirst k → texts_top k ≡ text ∷ [] → OneText k text
one-text none text h first e = absurd (let no : ⊥ = cc e in no)
one-text (tree m Root k r) text h first e = absurd (let no : false ≡ true = h.0 in let z : ⊥ = cc no in z)
one-text (tree m (Element name) k r) text h first e = absurd (let no : false ≡ true = h.0 in let z : ⊥ = cc no in z)
one-text (tree m (Attribute name old) k r) text h first e =
    let o = one-text r text h.2 first.1 e in
    record { held_by = o.held_by; whole = ap (tree m (Attribute name old) k) o.whole }
one-text (tree m (Text old) k r) text h first e =
    let plain = first.0 refl in
    let head : old ≡ text = cc e in
    let tail : texts_top r ≡ [] = cc e in
    let empty = no-more r h.2 plain tail in
    let kept : attributes (tree m (Text old) k r) ≡ none = no-attributes r plain in
    record {
      held_by = m;
      whole =
          ap (λ x. tree m (Text old) x r) h.1 ∙ ap (tree m (Text old) none) empty ∙ ap (λ t. tree m (Text t) none none) head
          ∙ sym (ap (λ a. followed a (tree m (Text text) none none)) kept);
    }
