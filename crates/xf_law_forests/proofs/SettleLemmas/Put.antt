-- A text settled in trees. Two settlings at different nodes may change places.
use Rattle.std.proofs.Common.{◌≡◌, ℕ, suc, ◌+◌, ◌==◌, Bool, true, false, cond, not, ◌&&◌, ◌||◌, if◌then◌else◌, List, [], ◌∷◌, ◌++◌, length, refl, sym, ap, ◌∙◌, inl, inr, arith}
use Rattle.std.specs.Str.{bytes_eq}
use Rattle.std.proofs.lemmas.Bool.{cases_Bool}
use Rattle.std.proofs.lemmas.Bool.Decides.{nat_tests}
use Rattle.xf_def_forest.specs.declared.content.Content.{Content}
use Rattle.xf_def_forest.specs.declared.content.Content.TheVariants.{Root, Element, Attribute, Text}
use Rattle.xf_def_forest.specs.Forest.{is_element, is_attribute, is_text, own_text}
use Rattle.xf_def_forest.specs.Visit.{has}
use Rattle.xf_def_forest.specs.Shape.{as_texts}
use Rattle.xf_def_forest.specs.Texts.{with_value, one_text}
use Rattle.xf_law_forests.proofs.RollbackLemmas.Trees.{Trees, none, tree, followed}
use Rattle.xf_law_forests.proofs.RollbackLemmas.TreeTexts.{lone, attributes}
use Rattle.xf_law_forests.proofs.RollbackLemmas.TreeMoved.{value-attribute, value-element}
use Rattle.xf_law_forests.specs.Settle.Written.{Contents, and_one, nodes_of, are_different}
use Rattle.xf_law_forests.proofs.SettleLemmas.KindLemmas.{or-parts, and-parts, not-true, and-none}

-- ---- what it is

-- the texts at the top
abbrev pub texts_top : Trees → List (List ℕ)
texts_top none = []
texts_top (tree m c k r) = if is_text c then own_text c ∷ texts_top r else texts_top r

abbrev pub same_texts : List (List ℕ) → List (List ℕ) → Bool
same_texts [] [] = true
same_texts [] (u ∷ us) = false
same_texts (t ∷ ts) [] = false
same_texts (t ∷ ts) (u ∷ us) = bytes_eq u t && same_texts ts us

-- below an element
abbrev pub content : ℕ → List ℕ → Trees → Trees
content a text k = if same_texts (as_texts text) (texts_top k) then k else followed (attributes k) (lone (one_text a text))

abbrev pub valued : ℕ → List ℕ → ℕ → Content → Content
valued n text m c = if m == n then with_value text c else c

abbrev pub put : ℕ → ℕ → List ℕ → Trees → Trees
put a n text none = none
put a n text (tree m c k r) = tree m (valued n text m c) (if (m == n) && is_element c then content a text k else put a n text k) (put a n text r)

-- ---- what it leaves

valued-text : (n : ℕ) (text : List ℕ) (m : ℕ) (c : Content) → is_text (valued n text m c) ≡ is_text c
valued-text n text m c = by (m == n) c
  where
    by : (b : Bool) (c : Content) → is_text (cond b (with_value text c) c) ≡ is_text c
    by true Root = refl
    by true (Element name) = refl
    by true (Attribute name old) = refl
    by true (Text old) = refl
    by false c = refl

pub valued-attribute : (n : ℕ) (text : List ℕ) (m : ℕ) (c : Content) → is_attribute (valued n text m c) ≡ is_attribute c
valued-attribute n text m c = by (m == n)
  where
    by : (b : Bool) → is_attribute (cond b (with_value text c) c) ≡ is_attribute c
    by true = value-attribute text c
    by false = refl

pub valued-element : (n : ℕ) (text : List ℕ) (m : ℕ) (c : Content) → is_element (valued n text m c) ≡ is_element c
valued-element n text m c = by (m == n)
  where
    by : (b : Bool) → is_element (cond b (with_value text c) c) ≡ is_element c
    by true = value-element text c
    by false = refl

-- a text stays what it is
pub text-stays : (n : ℕ) (text : List ℕ) (m : ℕ) (old : List ℕ) → valued n text m (Text old) ≡ Text old
text-stays n text m old = by (m == n)
  where
    by : (b : Bool) → cond b (with_value text (Text old)) (Text old) ≡ Text old
    by true = refl
    by false = refl

pub lone-stays : (b m : ℕ) (u : List ℕ) (a : ℕ) (text : List ℕ) → put b m u (lone (one_text a text)) ≡ lone (one_text a text)
lone-stays b m u a [] = refl
lone-stays b m u a (c ∷ cs) = rw (and-none (a == m)) (ap (λ x. tree a x none none) (text-stays m u a (c ∷ cs)))

pub put-followed : (b m : ℕ) (u : List ℕ) (t s : Trees) → put b m u (followed t s) ≡ followed (put b m u t) (put b m u s)
put-followed b m u none s = refl
put-followed b m u (tree p c k r) s = ap (tree p (valued m u p c) (if (p == m) && is_element c then content b u k else put b m u k)) (put-followed b m u r s)

pub put-attributes : (b m : ℕ) (u : List ℕ) (t : Trees) → attributes (put b m u t) ≡ put b m u (attributes t)
put-attributes b m u none = refl
put-attributes b m u (tree p c k r) =
    let same = valued-attribute m u p c in
    let i = put-attributes b m u r in
    elim (cases_Bool (is_attribute c)) [
      | inl e ↦ rw (same, e) (ap (tree p (valued m u p c) (if (p == m) && is_element c then content b u k else put b m u k)) i)
      | inr e ↦ rw (same, e) i
    ]

own-stays : (n : ℕ) (text : List ℕ) (m : ℕ) (c : Content) → is_text c ≡ true → own_text (valued n text m c) ≡ own_text c
own-stays n text m Root e = let no : false ≡ true = e in cc
own-stays n text m (Element name) e = let no : false ≡ true = e in cc
own-stays n text m (Attribute name old) e = let no : false ≡ true = e in cc
own-stays n text m (Text old) e = ap own_text (text-stays n text m old)

pub put-texts : (b m : ℕ) (u : List ℕ) (t : Trees) → texts_top (put b m u t) ≡ texts_top t
put-texts b m u none = refl
put-texts b m u (tree p c k r) =
    let same = valued-text m u p c in
    let i = put-texts b m u r in
    elim (cases_Bool (is_text c)) [
      | inl e ↦ rw (same, e) (ap (λ l. l ∷ texts_top (put b m u r)) (own-stays m u p c e) ∙ ap (λ l. own_text c ∷ l) i)
      | inr e ↦ rw (same, e) i
    ]

-- ---- two of them

put-content : (b m : ℕ) (u : List ℕ) (a : ℕ) (text : List ℕ) (k : Trees) → put b m u (content a text k) ≡ content a text (put b m u k)
put-content b m u a text k =
    let texts = put-texts b m u k in
    elim (cases_Bool (same_texts (as_texts text) (texts_top k))) [
      | inl e ↦ rw (texts, e) refl
      | inr e ↦ rw (texts, e) (put-followed b m u (attributes k) (lone (one_text a text)) ∙ ap (λ s. followed (put b m u (attributes k)) s) (lone-stays b m u a text)
          ∙ ap (λ s. followed s (lone (one_text a text))) (sym (put-attributes b m u k)))
    ]

pub put-put : (a n : ℕ) (text : List ℕ) (b m : ℕ) (u : List ℕ) (t : Trees) → (n == m) ≡ false → put a n text (put b m u t) ≡ put b m u (put a n text t)
put-put a n text b m u none other = refl
put-put a n text b m u (tree p c k r) other =
    let below = put-put a n text b m u k other in
    let next = put-put a n text b m u r other in
    elim (cases_Bool (p == n)) [
      | inl e ↦
          let f : (p == m) ≡ false = grind (arith, nat_tests, e, other) in
          elim (cases_Bool (is_element c)) [
            | inl is ↦ rw (e, f, is) (ap (λ x. tree p (with_value text c) x (put a n text (put b m u r))) (sym (put-content b m u a text k)) ∙ ap (tree p (with_value text c) (put b m u (content a text k))) next)
            | inr is ↦ rw (e, f, is) (ap (λ x. tree p (with_value text c) x (put a n text (put b m u r))) below ∙ ap (tree p (with_value text c) (put b m u (put a n text k))) next)
          ]
      | inr e ↦
          elim (cases_Bool (p == m)) [
            | inl f ↦
                elim (cases_Bool (is_element c)) [
                  | inl is ↦ rw (e, f, is) (ap (λ x. tree p (with_value u c) x (put a n text (put b m u r))) (put-content a n text b u k) ∙ ap (tree p (with_value u c) (content b u (put a n text k))) next)
                  | inr is ↦ rw (e, f, is) (ap (λ x. tree p (with_value u c) x (put a n text (put b m u r))) below ∙ ap (tree p (with_value u c) (put b m u (put a n text k))) next)
                ]
            | inr f ↦ rw (e, f) (ap (λ x. tree p c x (put a n text (put b m u r))) below ∙ ap (tree p c (put b m u (put a n text k))) next)
          ]
    ]

-- ---- many

abbrev pub put_all : (ℕ → Bool) → ℕ → Contents → Trees → Trees
put_all done number [] t = t
put_all done number ((n, text) ∷ contents) t = put_all done (suc number) contents (if done n then put number n text t else t)

-- one comes before those of other nodes as well as behind them
put-past : (a n : ℕ) (text : List ℕ) (done : ℕ → Bool) (number : ℕ) (contents : Contents) (t : Trees) → has n (nodes_of contents) ≡ false
    → put a n text (put_all done number contents t) ≡ put_all done number contents (put a n text t)
put-past a n text done number [] t out = refl
put-past a n text done number ((m, u) ∷ rest) t out =
    let other : (n == m) ≡ false = by (n == m) out in
    let gone : has n (nodes_of rest) ≡ false = after (n == m) out in
    elim (cases_Bool (done m)) [
      | inl e ↦ rw e (put-past a n text done (suc number) rest (put number m u t) gone ∙ ap (put_all done (suc number) rest) (put-put a n text number m u t other))
      | inr e ↦ rw e (put-past a n text done (suc number) rest t gone)
    ]
  where
    by : (b : Bool) → (b || has n (nodes_of rest)) ≡ false → b ≡ false
    by true h = let no : true ≡ false = h in cc
    by false h = refl

    after : (b : Bool) → (b || has n (nodes_of rest)) ≡ false → has n (nodes_of rest) ≡ false
    after true h = let no : true ≡ false = h in cc
    after false h = h

-- of other nodes the same are done
same-done : (n : ℕ) (done : ℕ → Bool) (number : ℕ) (contents : Contents) (t : Trees) → has n (nodes_of contents) ≡ false → put_all (and_one n done) number contents t ≡ put_all done number contents t
same-done n done number [] t out = refl
same-done n done number ((m, u) ∷ rest) t out =
    let parts = or-parts (n == m) (has n (nodes_of rest)) out in
    let first = parts.0 in
    let other : (m == n) ≡ false = grind (arith, nat_tests, first) in
    rw other (same-done n done (suc number) rest (if done m then put number m u t else t) parts.1)

abbrev pub with_one : Contents → ℕ → List ℕ → Contents → Contents
with_one front n text back = front ++ (n, text) ∷ back

has-in : (n : ℕ) (front : Contents) (text : List ℕ) (back : Contents) → has n (nodes_of (with_one front n text back)) ≡ true
has-in n [] text back = let same : (n == n) ≡ true = grind (arith, nat_tests) in rw same refl
has-in n ((m, u) ∷ front) text back = rw (has-in n front text back) (or-true (n == m))
  where
    or-true : (b : Bool) → (b || true) ≡ true
    or-true true = refl
    or-true false = refl

pub put-more : (done : ℕ → Bool) (number n : ℕ) (text : List ℕ) (front back : Contents) (t : Trees) → done n ≡ false → are_different (nodes_of (with_one front n text back)) ≡ true
    → put (number + length front) n text (put_all done number (with_one front n text back) t) ≡ put_all (and_one n done) number (with_one front n text back) t
put-more done number n text [] back t undone different =
    let parts = and-parts (not (has n (nodes_of back))) (are_different (nodes_of back)) different in
    let out = not-true (has n (nodes_of back)) parts.0 in
    let plus : number + 0 ≡ number = omega arith in
    let same : (n == n) ≡ true = grind (arith, nat_tests) in
    let skipped : put_all done number ((n, text) ∷ back) t ≡ put_all done (suc number) back t = ap (λ b. put_all done (suc number) back (if b then put number n text t else t)) undone in
    let taken : put_all (and_one n done) number ((n, text) ∷ back) t ≡ put_all (and_one n done) (suc number) back (put number n text t) =
    ap (λ b. put_all (and_one n done) (suc number) back (if b || done n then put number n text t else t)) same in
    ap (λ a. put a n text (put_all done number ((n, text) ∷ back) t)) plus ∙ ap (put number n text) skipped ∙ put-past number n text done (suc number) back t out
    ∙ sym (same-done n done (suc number) back (put number n text t) out) ∙ sym taken
put-more done number n text ((m, u) ∷ front) back t undone different =
    let rest = with_one front n text back in
    let parts = and-parts (not (has m (nodes_of rest))) (are_different (nodes_of rest)) different in
    let out = not-true (has m (nodes_of rest)) parts.0 in
    let other : (m == n) ≡ false = by (m == n) refl out in
    let plus : number + suc (length front) ≡ suc number + length front = omega arith in
    let then_ = if done m then put number m u t else t in
    let step : put_all (and_one n done) number ((m, u) ∷ rest) t ≡ put_all (and_one n done) (suc number) rest then_ =
    ap (λ b. put_all (and_one n done) (suc number) rest (if b || done m then put number m u t else t)) other in
    ap (λ a. put a n text (put_all done (suc number) rest then_)) plus ∙ put-more done (suc number) n text front back then_ undone parts.1 ∙ sym step
  where
    by : (b : Bool) → (m == n) ≡ b → has m (nodes_of (with_one front n text back)) ≡ false → b ≡ false
    by false e h = refl
    by true e h =
        let same : m ≡ n = grind (arith, nat_tests, e) in
        let there : has m (nodes_of (with_one front n text back)) ≡ true = ap (λ k. has k (nodes_of (with_one front n text back))) same ∙ has-in n front text back in
        let no : true ≡ false = sym there ∙ h in cc
