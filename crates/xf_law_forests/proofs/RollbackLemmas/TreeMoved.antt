-- Trees in another order: detached trees that stand side by side change places.
use Rattle.std.proofs.Common.{◌≡◌, ℕ, ◌+◌, ◌==◌, Bool, true, false, cond, ◌&&◌, ◌||◌, List, refl, ap, ◌∙◌, arith}
use Rattle.std.specs.Prelude.{if◌then◌else◌}
use Rattle.xf_def_forest.specs.declared.content.Content.{Content}
use Rattle.xf_def_forest.specs.declared.content.Content.TheVariants.{Root, Element, Attribute, Text}
use Rattle.xf_def_forest.specs.Forest.{is_root, is_element, is_attribute, is_text}
use Rattle.xf_def_forest.specs.Texts.{with_value}
use Rattle.xf_law_forests.proofs.RollbackLemmas.Trees.{Trees, none, tree, followed, times}
use Rattle.xf_law_forests.proofs.RollbackLemmas.TreeTexts.{attributes, retexted, revalued}
use Rattle.xf_law_forests.proofs.RollbackLemmas.TreeVisits.{elements}

pub data Moved : Trees → Trees → Type 0 where
  same : (t : Trees) → Moved t t
  swap : {n m : ℕ} {c d : Content} {k j r : Trees} → is_root c ≡ false → is_root d ≡ false → Moved (tree n c k (tree m d j r)) (tree m d j (tree n c k r))
  under : (n : ℕ) (c : Content) (k : Trees) {r s : Trees} → Moved r s → Moved (tree n c k r) (tree n c k s)
  through : {a b c : Trees} → Moved a b → Moved b c → Moved a c

-- ---- a test of some node

abbrev pub some : (ℕ → Content → Bool) → Trees → Bool
some p none = false
some p (tree n c k r) = p n c || (some p k || some p r)

or-turned : (a b c d e : Bool) → (a || (b || (c || (d || e)))) ≡ (c || (d || (a || (b || e))))
or-turned true b true d e = refl
or-turned true b false true e = refl
or-turned true b false false e = refl
or-turned false true true d e = refl
or-turned false true false true e = refl
or-turned false true false false e = refl
or-turned false false c d e = refl

pub moved-some : (p : ℕ → Content → Bool) {a b : Trees} → Moved a b → some p a ≡ some p b
moved-some p (same t) = refl
moved-some p (swap {n = n} {m = m} {c = c} {d = d} {k = k} {j = j} {r = r} e f) = or-turned (p n c) (some p k) (p m d) (some p j) (some p r)
moved-some p (under n c k h) = ap (λ b. p n c || (some p k || b)) (moved-some p h)
moved-some p (through g h) = moved-some p g ∙ moved-some p h

pub moved-times : (n : ℕ) {a b : Trees} → Moved a b → times n a ≡ times n b
moved-times n (same t) = refl
moved-times n (swap {n = x} {m = y} {k = k} {j = j} {r = r} e f) = turned (cond (x == n) 1 0) (times n k) (cond (y == n) 1 0) (times n j) (times n r)
  where
    turned : (a b c d e : ℕ) → a + (b + (c + (d + e))) ≡ c + (d + (a + (b + e)))
    turned a b c d e = omega arith
moved-times n (under m c k h) = ap (λ i. (if m == n then 1 else 0) + (times n k + i)) (moved-times n h)
moved-times n (through g h) = moved-times n g ∙ moved-times n h

pub moved-elements : (under_ : Bool) (n : ℕ) {a b : Trees} → Moved a b → elements under_ n a ≡ elements under_ n b
moved-elements u n (same t) = refl
moved-elements u n (swap {n = x} {m = y} {c = c} {d = d} {k = k} {j = j} {r = r} e f) = or-turned (is_element c && u) (elements (n == x) n k) (is_element d && u) (elements (n == y) n j) (elements u n r)
moved-elements u n (under m c k h) = ap (λ b. (is_element c && u) || (elements (n == m) n k || b)) (moved-elements u n h)
moved-elements u n (through g h) = moved-elements u n g ∙ moved-elements u n h

pub moved-followed : (s : Trees) {a b : Trees} → Moved a b → Moved (followed a s) (followed b s)
moved-followed s (same t) = same (followed t s)
moved-followed s (swap e f) = swap e f
moved-followed s (under n c k h) = under n c k (moved-followed s h)
moved-followed s (through g h) = through (moved-followed s g) (moved-followed s h)

-- ---- contents that keep their kind

pub value-root : (text : List ℕ) (c : Content) → is_root (with_value text c) ≡ is_root c
value-root text Root = refl
value-root text (Element name) = refl
value-root text (Attribute name old) = refl
value-root text (Text old) = refl

pub value-element : (text : List ℕ) (c : Content) → is_element (with_value text c) ≡ is_element c
value-element text Root = refl
value-element text (Element name) = refl
value-element text (Attribute name old) = refl
value-element text (Text old) = refl

pub value-attribute : (text : List ℕ) (c : Content) → is_attribute (with_value text c) ≡ is_attribute c
value-attribute text Root = refl
value-attribute text (Element name) = refl
value-attribute text (Attribute name old) = refl
value-attribute text (Text old) = refl

pub value-text : (text : List ℕ) (c : Content) → is_text (with_value text c) ≡ is_text c
value-text text Root = refl
value-text text (Element name) = refl
value-text text (Attribute name old) = refl
value-text text (Text old) = refl

pub value-over : (first second : List ℕ) (c : Content) → with_value second (with_value first c) ≡ with_value second c
value-over first second Root = refl
value-over first second (Element name) = refl
value-over first second (Attribute name old) = refl
value-over first second (Text old) = refl

pub value-other : (text : List ℕ) (c : Content) → is_attribute c ≡ false → with_value text c ≡ c
value-other text Root e = refl
value-other text (Element name) e = refl
value-other text (Attribute name old) e = cc e
value-other text (Text old) e = refl

pub element-no_attribute : (c : Content) → is_element c ≡ true → is_attribute c ≡ false
element-no_attribute Root e = cc e
element-no_attribute (Element name) e = refl
element-no_attribute (Attribute name text) e = cc e
element-no_attribute (Text text) e = cc e

pub value-if-root : (b : Bool) (text : List ℕ) (c : Content) → is_root c ≡ false → is_root (cond b (with_value text c) c) ≡ false
value-if-root true text c e = value-root text c ∙ e
value-if-root false text c e = e

-- ---- texts

pub moved-retexted : (n : ℕ) (s : Trees) {a b : Trees} → Moved a b → Moved (retexted n s a) (retexted n s b)
moved-retexted n s (same t) = same (retexted n s t)
moved-retexted n s (swap e f) = swap e f
moved-retexted n s (under m c k h) = under m c (if m == n then followed (attributes k) s else retexted n s k) (moved-retexted n s h)
moved-retexted n s (through g h) = through (moved-retexted n s g) (moved-retexted n s h)

pub moved-revalued : (n : ℕ) (text : List ℕ) {a b : Trees} → Moved a b → Moved (revalued n text a) (revalued n text b)
moved-revalued n text (same t) = same (revalued n text t)
moved-revalued n text (swap {n = x} {m = y} {c = c} {d = d} e f) = swap (value-if-root (x == n) text c e) (value-if-root (y == n) text d f)
moved-revalued n text (under m c k h) = under m (if m == n then with_value text c else c) (revalued n text k) (moved-revalued n text h)
moved-revalued n text (through g h) = through (moved-revalued n text g) (moved-revalued n text h)
