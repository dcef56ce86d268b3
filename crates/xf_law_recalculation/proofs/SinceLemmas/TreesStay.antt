-- A forest in which a text is settled is one of trees still.
use Rattle.std.proofs.Common.{◌≡◌, ℕ, suc, ◌+◌, ◌==◌, Bool, true, false, not, cond, ◌&&◌, ◌||◌, List, [], ◌∷◌, nat_lt, refl, sym, ap, ◌∙◌, subst, inl, inr, arith}
use Rattle.std.specs.Prelude.{◌⊎◌, ◌≤◌, ◌<◌, nat_le}
use Rattle.std.specs.List.{list_all}
use Rattle.std.proofs.lemmas.Bool.{cases_Bool}
use Rattle.std.proofs.lemmas.Bool.Decides.{nat_tests}
use Rattle.xf_def_forest.specs.declared.content.Node.{Node}
use Rattle.xf_def_forest.specs.declared.content.Content.{Content}
use Rattle.xf_def_forest.specs.declared.content.Content.TheVariants.{Root, Element, Attribute, Text}
use Rattle.xf_def_forest.specs.Forest.{is_root, is_element, is_attribute, is_text, has_number}
use Rattle.xf_def_forest.specs.Shape.{as_texts}
use Rattle.xf_def_forest.specs.Texts.{one_text, with_value}
use Rattle.xf_def_forest.specs.WellFormed.{are_apart, are_below, reach, are_depths_from, are_depths, stands_first, are_first, HasTrees}
use Rattle.xf_def_forest.proofs.VisitLemmas.{BeginsWithin}
use Rattle.xf_law_forests.proofs.RollbackLemmas.Trees.{Trees, onto, times}
use Rattle.xf_law_forests.proofs.RollbackLemmas.TreeShape.{node_times, times-onto}
use Rattle.xf_law_forests.proofs.RollbackLemmas.TreeTexts.{lone}
use Rattle.xf_law_forests.proofs.RollbackLemmas.TreeLeaves.{retexted-times, revalued-times}
use Rattle.xf_law_forests.proofs.SettleLemmas.KindLemmas.{attribute-no_element, element-no_attribute, element-no_text, text-no_attribute, text-no_element, few, and-parts}
use Rattle.xf_law_forests.proofs.SettleLemmas.Put.{put, same_texts, texts_top, valued, valued-attribute, valued-element}
use Rattle.xf_law_forests.proofs.SettleLemmas.Spots.{Fits, spot, put-absent}
use Rattle.xf_law_forests.proofs.SettleLemmas.Bridge.{times-put}
use Rattle.xf_law_recalculation.proofs.SinceLemmas.Passes.{both, at, passes, Looks, put-passes}

-- ---- kinds

pub valued-kinds : (n : ℕ) (text : List ℕ) (m : ℕ) (c : Content) → (is_text (valued n text m c) ≡ is_text c) × (is_root (valued n text m c) ≡ is_root c)
valued-kinds n text m c = by (m == n) c
  where
    by : (b : Bool) (c : Content) → (is_text (cond b (with_value text c) c) ≡ is_text c) × (is_root (cond b (with_value text c) c) ≡ is_root c)
    by true Root = (refl, refl)
    by true (Element name) = (refl, refl)
    by true (Attribute name old) = (refl, refl)
    by true (Text old) = (refl, refl)
    by false c = (refl, refl)

text-no_root : (c : Content) → is_text c ≡ true → is_root c ≡ false
text-no_root Root e = cc e
text-no_root (Element name) e = refl
text-no_root (Attribute name text) e = refl
text-no_root (Text text) e = refl

-- ---- looks without a state

abbrev stateless : Bool → Node → Bool
stateless s x = s

all-pass : (p : Node → Bool) (xs : List Node) → passes (λ (s : Bool) x. p x) stateless true xs ≡ list_all p xs
all-pass p [] = refl
all-pass p (x ∷ xs) = ap (λ b. p x && b) (all-pass p xs)

all-looks : (p : Node → Bool) (a n : ℕ) (text : List ℕ) → ((m d : ℕ) (c : Content) → p (at m d (valued n text m c)) ≡ p (at m d c)) → ((d : ℕ) (u : List ℕ) → p (at a d (Text u)) ≡ true) →
    Looks (λ (s : Bool) x. p x) stateless (λ d s. Unit {0}) a n text
all-looks p a n text same free = record {
  checks = λ s m d c h. same m d c ∙ h;
  goes = λ s m d c. refl;
  enters = λ s m d c h. tt;
  stays = λ s m d c h i. tt;
  skips = λ s m d c ys h i e. e;
  adds = λ s d c cs ys i b e. both _ _ (free (suc d) (c ∷ cs)) e;
}

-- ---- depths

depths-pass : (most : ℕ) (xs : List Node) → passes (λ (s : ℕ) x. nat_le x.depth s) (λ s x. reach x) most xs ≡ are_depths_from most xs
depths-pass most [] = refl
depths-pass most (x ∷ xs) = ap (λ b. nat_le x.depth most && b) (depths-pass (reach x) xs)

depths-look : (a n : ℕ) (text : List ℕ) → Looks (λ (s : ℕ) x. nat_le x.depth s) (λ s x. reach x) (λ d s. s ≡ suc d) a n text
depths-look a n text = record {
  checks = λ s m d c h. h;
  goes = λ s m d c. ap (λ b. cond (b || is_text (valued n text m c)) d (suc d)) (valued-attribute n text m c) ∙ ap (λ b. cond (is_attribute c || b) d (suc d)) (valued-kinds n text m c).0;
  enters = λ s m d c h. ap (λ b. cond (b || is_text c) d (suc d)) (element-no_attribute c h) ∙ ap (λ b. cond b d (suc d)) (element-no_text c h);
  stays = λ s m d c h i. ap (λ b. cond (b || is_text c) (suc d) (suc (suc d))) h;
  skips = λ s m d c ys h i e. ap (λ q. passes (λ (s : ℕ) x. nat_le x.depth s) (λ s x. reach x) q ys) (i ∙ sym (leaf c d h)) ∙ e;
  adds = λ s d c cs ys i b e. both _ _ (fits s d i) (ap (λ q. passes (λ (s : ℕ) x. nat_le x.depth s) (λ s x. reach x) q ys) (sym i) ∙ e);
}
  where
    leaf : (c : Content) (d : ℕ) → is_text c ≡ true → cond (is_attribute c || is_text c) (suc d) (suc (suc d)) ≡ suc d
    leaf c d h = ap (λ b. cond (b || is_text c) (suc d) (suc (suc d))) (text-no_attribute c h) ∙ ap (λ b. cond b (suc d) (suc (suc d))) h

    fits : (s d : ℕ) → s ≡ suc d → nat_le (suc d) s ≡ true
    fits s d i = grind (arith, nat_tests, i)

-- ---- attributes

record Prev : Type 0 where
  elem : Bool
  attr : Bool
  deep : ℕ

abbrev prev : Node → Prev
prev x = record { elem = is_element x.content; attr = is_attribute x.content; deep = x.depth }

abbrev first_after : Prev → Node → Bool
first_after s y = not (is_attribute y.content) || (y.depth == 0) || (s.elem && (suc s.deep == y.depth)) || (s.attr && (s.deep == y.depth))

abbrev firsts : Prev → List Node → Bool
firsts s xs = passes first_after (λ s x. prev x) s xs

first-pass : (x : Node) (xs : List Node) → firsts (prev x) xs ≡ are_first (x ∷ xs)
first-pass x [] = refl
first-pass x (y ∷ ys) = ap (λ b. stands_first x y && b) (first-pass y ys)

abbrev PrevAt : ℕ → Prev → Type 0
PrevAt d s = (s.elem ≡ true → s.deep ≡ d) × (s.attr ≡ true → s.deep ≡ suc d)

no_bool : {A : Type 0} → false ≡ true → A
no_bool e = cc e

-- after a text stands no attribute but at the top
free-first : (s : Prev) (q : ℕ) (y : Node) → first_after (record { elem = false; attr = false; deep = q }) y ≡ true → first_after s y ≡ true
free-first s q y h = by (is_attribute y.content) (y.depth == 0) h
  where
    by : (x z : Bool) → (not x || z || (false && (suc q == y.depth)) || (false && (q == y.depth))) ≡ true → (not x || z || (s.elem && (suc s.deep == y.depth)) || (s.attr && (s.deep == y.depth))) ≡ true
    by false z h = refl
    by true true h = refl
    by true false h = no_bool h

shallow-free : (d q : ℕ) (s : Prev) (y : Node) → PrevAt d s → nat_lt d y.depth ≡ false → first_after s y ≡ true → first_after (record { elem = false; attr = false; deep = q }) y ≡ true
shallow-free d q s y i low h = by (is_attribute y.content) (y.depth == 0) (s.elem) refl (s.attr) refl h
  where
    not_elem : s.elem ≡ true → (suc s.deep == y.depth) ≡ false
    not_elem e = let f = i.0 e in grind (arith, nat_tests, f, low)

    not_attr : s.attr ≡ true → (s.deep == y.depth) ≡ false
    not_attr e = let f = i.1 e in grind (arith, nat_tests, f, low)

    by : (x z e : Bool) → s.elem ≡ e → (b : Bool) → s.attr ≡ b → (not x || z || (e && (suc s.deep == y.depth)) || (b && (s.deep == y.depth))) ≡ true →
        (not x || z || (false && (suc q == y.depth)) || (false && (q == y.depth))) ≡ true
    by false z e j b k h = refl
    by true true e j b k h = refl
    by true false true j true k h = no_bool (sym (ap (λ u. u || (s.deep == y.depth)) (not_elem j) ∙ not_attr k) ∙ h)
    by true false true j false k h = no_bool (sym (ap (λ u. u || false) (not_elem j)) ∙ h)
    by true false false j true k h = no_bool (sym (not_attr k) ∙ h)
    by true false false j false k h = h

first-look : (a n : ℕ) (text : List ℕ) → Looks first_after (λ s x. prev x) PrevAt a n text
first-look a n text = record {
  checks = λ s m d c h. ap (λ b. not b || (d == 0) || (s.elem && (suc s.deep == d)) || (s.attr && (s.deep == d))) (valued-attribute n text m c) ∙ h;
  goes = λ s m d c. ap (λ b. record { elem = b; attr = is_attribute (valued n text m c); deep = d }) (valued-element n text m c) ∙ ap (λ b. record { elem = is_element c; attr = b; deep = d }) (valued-attribute n text m c);
  enters = λ s m d c h. (λ e. refl, λ e. no_bool (sym (element-no_attribute c h) ∙ e));
  stays = λ s m d c h i. (λ e. no_bool (sym (attribute-no_element c h) ∙ e), λ e. refl);
  skips = λ s m d c ys h i e. gone s d c ys h (ap (λ q. firsts q ys) (sym (text-prev d c m h)) ∙ e);
  adds = λ s d c cs ys i b e. comes s d ys i b e;
}
  where
    text-prev : (d : ℕ) (c : Content) (m : ℕ) → is_text c ≡ true → prev (at m (suc d) c) ≡ record { elem = false; attr = false; deep = suc d }
    text-prev d c m h = ap (λ b. record { elem = b; attr = is_attribute c; deep = suc d }) (text-no_element c h) ∙ ap (λ b. record { elem = false; attr = b; deep = suc d }) (text-no_attribute c h)

    gone : (s : Prev) (d : ℕ) (c : Content) (ys : List Node) → is_text c ≡ true → firsts (record { elem = false; attr = false; deep = suc d }) ys ≡ true → firsts s ys ≡ true
    gone s d c [] h e = refl
    gone s d c (y ∷ ys) h e =
        let parts = and-parts (first_after (record { elem = false; attr = false; deep = suc d }) y) (firsts (prev y) ys) e in
        both _ _ (free-first s (suc d) y parts.0) parts.1

    comes : (s : Prev) (d : ℕ) (ys : List Node) → PrevAt d s → BeginsWithin d ys → firsts s ys ≡ true → firsts (record { elem = false; attr = false; deep = suc d }) ys ≡ true
    comes s d [] i b e = refl
    comes s d (y ∷ ys) i b e =
        let parts = and-parts (first_after s y) (firsts (prev y) ys) e in
        both _ _ (shallow-free d (suc d) s y i b parts.0) parts.1

-- before the first node
abbrev start : Prev
start = record { elem = false; attr = false; deep = 0 }

from-first : (xs : List Node) → are_depths xs ≡ true → are_first xs ≡ true → firsts start xs ≡ true
from-first [] d h = refl
from-first (x ∷ xs) d h = both _ _ (by (is_attribute x.content) (let low = (and-parts (nat_le x.depth 0) (are_depths_from (reach x) xs) d).0 in grind (arith, nat_tests, low))) (first-pass x xs ∙ h)
  where
    by : (b : Bool) → (x.depth == 0) ≡ true → (not b || (x.depth == 0) || (false && (suc 0 == x.depth)) || (false && (0 == x.depth))) ≡ true
    by true e = ap (λ z. z || (false && (suc 0 == x.depth)) || (false && (0 == x.depth))) e
    by false e = refl

to-first : (xs : List Node) → firsts start xs ≡ true → are_first xs ≡ true
to-first [] h = refl
to-first (x ∷ xs) h = sym (first-pass x xs) ∙ (and-parts (first_after start x) (firsts (prev x) xs) h).1

-- ---- numbers

lone-most : (p a : ℕ) (u : List ℕ) → times p (lone (one_text a u)) ≤ 1
lone-most p a [] = omega arith
lone-most p a (c ∷ cs) = elim (cases_Bool (a == p)) [ inl e ↦ rw e (omega arith) | inr e ↦ rw e (omega arith) ]

new-once : (a n : ℕ) (text : List ℕ) (t : Trees) → Fits n t → times n t ≤ 1 → times a t ≡ 0 → times a (put a n text t) ≤ 1
new-once a n text t fits once fresh = by (few (times n t) once)
  where
    same : put a n text t ≡ t → times a (put a n text t) ≤ 1
    same e = let q = ap (times a) e in omega (arith, q, fresh)

    by : (times n t ≡ 0) ⊎ (times n t ≡ 1) → times a (put a n text t) ≤ 1
    by (inl e) = same (put-absent a n text t e)
    by (inr e) =
        let s = spot n 0 t [] e fits tt in
        elim s.fits [
          | inl is ↦ let q = ap (times a) (s.value a text is) in let r = revalued-times a n text t in omega (arith, q, r, fresh)
          | inr is ↦
              elim (cases_Bool (same_texts (as_texts text) (texts_top s.below_it))) [
                | inl f ↦ same (s.same a text is.0 f)
                | inr f ↦
                    let q = ap (times a) (s.texts a text is.0 f) in
                    let r = retexted-times a n (lone (one_text a text)) t once in
                    let z = lone-most a a text in
                    omega (arith, q, r, z, fresh)
              ]
        ]

-- each number comes once
put-once : (a n : ℕ) (text : List ℕ) (t : Trees) → Fits n t → ((m : ℕ) → times m t ≤ 1) → times a t ≡ 0 → (m : ℕ) → times m (put a n text t) ≤ 1
put-once a n text t fits once fresh m =
    elim (cases_Bool (a == m)) [
      | inl e ↦ let same : a ≡ m = grind (arith, nat_tests, e) in subst (λ k. times k (put a n text t) ≤ 1) same (new-once a n text t fits (once n) fresh)
      | inr e ↦ let r = times-put m a n text t e fits (once n) in let o = once m in omega (arith, r, o)
    ]

counted : (k : ℕ) (xs : List Node) → has_number k xs ≡ true → 1 ≤ node_times k xs
counted k [] h = no_bool h
counted k (x ∷ xs) h =
    elim (cases_Bool (x.number == k)) [
      | inl e ↦ rw e (omega arith)
      | inr e ↦ let rest = counted k xs (rw e at h) in rw e (omega (arith, rest))
    ]

apart-of : (xs : List Node) → ((k : ℕ) → node_times k xs ≤ 1) → are_apart xs ≡ true
apart-of [] h = refl
apart-of (x ∷ xs) h = both _ _ (ap not (gone (has_number x.number xs) refl)) (apart-of xs (λ k. let o = h k in fewer k o))
  where
    self : (x.number == x.number) ≡ true
    self = grind (arith, nat_tests)

    gone : (b : Bool) → has_number x.number xs ≡ b → b ≡ false
    gone true e = let o = h x.number in let one = counted x.number xs e in absurd (let no : ⊥ = omega (arith, (rw self at o), one) in no)
    gone false e = refl

    fewer : (k : ℕ) → (cond (x.number == k) 1 0) + node_times k xs ≤ 1 → node_times k xs ≤ 1
    fewer k o = omega (arith, o)

-- ---- the law

module _ (a n : ℕ) (text : List ℕ) (t : Trees) (fits : Fits n t) (once : (m : ℕ) → times m t ≤ 1) (fresh : times a t ≡ 0) where
  abbrev before : List Node
  before = onto 0 t []

  abbrev after : List Node
  after = onto 0 (put a n text t) []

  pub all-stays : (p : Node → Bool) → ((m d : ℕ) (c : Content) → p (at m d (valued n text m c)) ≡ p (at m d c)) → ((d : ℕ) (u : List ℕ) → p (at a d (Text u)) ≡ true) →
      list_all p before ≡ true → list_all p after ≡ true
  all-stays p same free h =
      sym (all-pass p after)
      ∙ put-passes (λ (s : Bool) x. p x) stateless (λ d s. Unit {0}) a n text (all-looks p a n text same free) 0 t [] [] fits tt (λ s e. e) true (all-pass p before ∙ h)

  depths-stay : are_depths before ≡ true → are_depths after ≡ true
  depths-stay h =
      sym (depths-pass 0 after)
      ∙ put-passes (λ (s : ℕ) x. nat_le x.depth s) (λ s x. reach x) (λ d s. s ≡ suc d) a n text (depths-look a n text) 0 t [] [] fits tt (λ s e. e) 0 (depths-pass 0 before ∙ h)

  first-stays : are_depths before ≡ true → are_first before ≡ true → are_first after ≡ true
  first-stays d h = to-first after (put-passes first_after (λ s x. prev x) PrevAt a n text (first-look a n text) 0 t [] [] fits tt (λ s e. e) start (from-first before d h))

  apart-stays : are_apart after ≡ true
  apart-stays = apart-of after (λ k. let e = times-onto k 0 (put a n text t) [] in let o = put-once a n text t fits once fresh k in omega (arith, e, o))

  -- with this number next, and the one of the text before it
  pub put-trees : (next more : ℕ) → HasTrees (record { nodes = before; next = next }) → next ≤ more → a < more → HasTrees (record { nodes = after; next = more })
  put-trees next more h le less = record {
    apart = apart-stays;
    below = all-stays (λ x. nat_lt x.number more) (λ m d c. refl) (λ d u. grind (arith, nat_tests, less)) (wider before h.below);
    depths = depths-stay h.depths;
    tops = all-stays (λ x. not (is_root x.content) || (x.depth == 0)) (λ m d c. ap (λ b. not b || (d == 0)) (valued-kinds n text m c).1) (λ d u. refl) h.tops;
    first = first-stays h.depths h.first;
  }
    where
      wider : (xs : List Node) → are_below next xs ≡ true → are_below more xs ≡ true
      wider [] i = refl
      wider (x ∷ xs) i =
          let parts = and-parts (nat_lt x.number next) (are_below next xs) i in
          let first = parts.0 in
          both _ _ (grind (arith, nat_tests, first, le)) (wider xs parts.1)
