-- What can have children, and the numbers of trees that were cut off.
use Rattle.std.proofs.Common.{◌≡◌, ℕ, ◌==◌, Bool, true, false, ◌&&◌, ◌||◌, [], refl, ap, ◌∙◌, inl, inr, arith}
use Rattle.std.specs.Prelude.{◌≤◌, if◌then◌else◌}
use Rattle.std.proofs.lemmas.Bool.{cases_Bool}
use Rattle.std.proofs.lemmas.Bool.Decides.{nat_tests}
use Rattle.xf_def_forest.specs.declared.content.Content.{Content}
use Rattle.xf_def_forest.specs.declared.content.Content.TheVariants.{Root, Element, Attribute, Text}
use Rattle.xf_def_forest.specs.declared.content.Kind.{Kind}
use Rattle.xf_def_forest.specs.declared.content.Kind.TheVariants as kind
use Rattle.xf_def_forest.specs.Forest.{is_root, is_element, is_text, kind_of, has_number}
use Rattle.xf_law_forests.proofs.RollbackLemmas.Trees.{Trees, none, tree, onto, times}
use Rattle.xf_law_forests.proofs.RollbackLemmas.TreeTexts.{times-split}
use Rattle.xf_law_forests.proofs.RollbackLemmas.TreeShape.{is_leaf}
use Rattle.xf_law_forests.proofs.RollbackLemmas.TreeMoved.{some, value-root}
use Rattle.xf_law_forests.proofs.RollbackLemmas.TreeFacts.{Blind, blind-element}
use Rattle.xf_law_forests.proofs.RollbackLemmas.KeepingTrees.{KindTest, element-test, any-onto}
use Rattle.xf_law_forests.proofs.RollbackLemmas.TreeMoves.{found}
use Rattle.xf_law_forests.proofs.RollbackLemmas.TreeTops.{tops, tops-followed}

-- ---- what can have children

pub record Bears (k : Kind) (q : Content → Bool) : Type 0 where
  pub test : KindTest k q
  pub blind : (n : ℕ) → Blind (λ m c. (m == n) && q c)
  pub no_leaf : (c : Content) → q c ≡ true → is_leaf c ≡ false

pub element-bears : Bears kind.Element is_element
element-bears = record { test = element-test; blind = blind-element; no_leaf = no_leaf }
  where
    no_leaf : (c : Content) → is_element c ≡ true → is_leaf c ≡ false
    no_leaf Root e = refl
    no_leaf (Element name) e = refl
    no_leaf (Attribute name text) e = cc e
    no_leaf (Text text) e = cc e

pub root-bears : Bears kind.Root is_root
root-bears = record { test = record { found = found_; only = only }; blind = blind; no_leaf = no_leaf }
  where
    found_ : (c : Content) → kind_of c ≡ kind.Root → is_root c ≡ true
    found_ Root e = refl
    found_ (Element name) e = cc e
    found_ (Attribute name text) e = cc e
    found_ (Text text) e = cc e

    only : (c : Content) → is_root c ≡ true → kind_of c ≡ kind.Root
    only Root e = refl
    only (Element name) e = cc e
    only (Attribute name text) e = cc e
    only (Text text) e = cc e

    and-false : (b : Bool) → (b && false) ≡ false
    and-false true = refl
    and-false false = refl

    text-no_root : (c : Content) → is_text c ≡ true → is_root c ≡ false
    text-no_root Root e = cc e
    text-no_root (Element name) e = refl
    text-no_root (Attribute name text) e = refl
    text-no_root (Text text) e = refl

    blind : (n : ℕ) → Blind (λ m c. (m == n) && is_root c)
    blind n = record {
      text = λ m c e. ap (λ b. (m == n) && b) (text-no_root c e) ∙ and-false (m == n);
      value = λ m text c. ap (λ b. (m == n) && b) (value-root text c);
    }

    no_leaf : (c : Content) → is_root c ≡ true → is_leaf c ≡ false
    no_leaf Root e = refl
    no_leaf (Element name) e = cc e
    no_leaf (Attribute name text) e = cc e
    no_leaf (Text text) e = cc e

-- ---- numbers

some-number : (p : ℕ) (t : Trees) → times p t ≡ 0 → some (λ m c. m == p) t ≡ false
some-number p none h = refl
some-number p (tree m c k r) h = let parts = times-split p m c k r h in rw (parts.0, some-number p k parts.1, some-number p r parts.2) refl

pub number-none : (p d : ℕ) (t : Trees) → times p t ≡ 0 → has_number p (onto d t []) ≡ false
number-none p d t h = any-onto (λ m c. m == p) d t [] ∙ ap (λ b. b || false) (some-number p t h)

pub found-top : (n : ℕ) (t : Trees) → 1 ≤ times n t → tops n (found n t) ≡ true
found-top n none h = absurd (omega (arith, h))
found-top n (tree m c k r) h =
    tops-followed n (if m == n then tree m c k none else found n k) (found n r)
    ∙ elim (cases_Bool (m == n)) [
      | inl e ↦ rw e (rw e refl)
      | inr e ↦ rw e (elim (cases_Bool (times n k == 0)) [
        | inl z ↦ let y : times n k ≡ 0 = grind (arith, nat_tests, z) in
            let g : 1 ≤ times n r = omega (arith, y, (rw e at h)) in
            ap (λ b. tops n (found n k) || b) (found-top n r g) ∙ or-true (tops n (found n k))
        | inr z ↦ let g : 1 ≤ times n k = grind (arith, nat_tests, z) in ap (λ b. b || tops n (found n r)) (found-top n k g)
      ])
    ]
  where
    or-true : (b : Bool) → (b || true) ≡ true
    or-true true = refl
    or-true false = refl
