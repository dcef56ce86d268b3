-- Many settlings, and the trees that hold all of their texts: they are the same but for the numbers of texts.
use Rattle.std.proofs.Common.{◌≡◌, ℕ, suc, ◌+◌, ◌^◌, ◌==◌, Bool, true, false, cond, not, ◌&&◌, ◌||◌, List, [], ◌∷◌, length, Option, Some, None, refl, sym, ap, ◌∙◌, subst, inl, inr, arith}
use Rattle.std.specs.Prelude.{◌⊎◌, ◌≤◌, ◌<◌}
use Rattle.std.proofs.Math.Path.{fun_ext}
use Rattle.std.proofs.lemmas.Bool.{cases_Bool, cases_lt}
use Rattle.std.proofs.lemmas.Bool.Decides.{nat_tests}
use Rattle.xf_def_forest.specs.declared.content.Content.{Content}
use Rattle.xf_def_forest.specs.declared.content.Content.TheVariants.{Root, Element, Attribute, Text}
use Rattle.xf_def_forest.specs.Forest.{is_element, is_attribute, is_text}
use Rattle.xf_def_forest.specs.Visit.{has}
use Rattle.xf_def_forest.specs.Same.{IsRenumbering}
use Rattle.xf_def_forest.specs.Shape.{text_number, as_texts}
use Rattle.xf_def_forest.specs.Texts.{with_value, one_text}
use Rattle.xf_law_forests.proofs.RollbackLemmas.Trees.{Trees, none, tree, followed, times}
use Rattle.xf_law_forests.proofs.RollbackLemmas.TreeTexts.{lone, attributes, retexted, revalued}
use Rattle.xf_law_forests.proofs.RollbackLemmas.TreeOrder.{Ordered}
use Rattle.xf_law_forests.proofs.RollbackLemmas.TreeFacts.{is_at, at-times, some-followed}
use Rattle.xf_law_forests.proofs.RollbackLemmas.TreeLeaves.{retexted-times, revalued-times}
use Rattle.xf_law_forests.proofs.RollbackLemmas.FirstLemmas.{ordered-retexted, ordered-revalued}
use Rattle.xf_law_forests.proofs.RollbackLemmas.TextSteps.{one_text-texts}
use Rattle.xf_law_forests.specs.Settle.Written.{Contents, nodes_of, are_different}
use Rattle.xf_law_forests.specs.Settle.Alike.{content_of, done_of}
use Rattle.xf_law_forests.proofs.SettleLemmas.KindLemmas.{attribute-no_text, element-no_text, few, or-parts, and-parts, not-true}
use Rattle.xf_law_forests.proofs.SettleLemmas.Put.{texts_top, same_texts, content, valued, put, put_all}
use Rattle.xf_law_forests.proofs.SettleLemmas.Spots.{FitsHere, Fits, spot, put-absent}
use Rattle.xf_law_forests.proofs.SettleLemmas.Bridge.{AreReady, ready-later, ready-put, lone-other}
use Rattle.xf_law_forests.proofs.SettleLemmas.Held.{Given, hold}
use Rattle.xf_law_forests.proofs.SettleLemmas.HoldLemmas.{hold-nothing, with_only, hold-both, hold-renamed}
use Rattle.xf_law_forests.proofs.SettleLemmas.Renamed.{swap, swap-other, swap-renumbers, renamed, renamed-by, only}
use Rattle.xf_law_forests.proofs.SettleLemmas.Single.{Single, Facts, held-single}

-- ---- contents

content-none : (done : ℕ → Bool) (contents : Contents) (m : ℕ) → has m (nodes_of contents) ≡ false → content_of (done_of done contents) m ≡ None
content-none done [] m h = refl
content-none done ((n, text) ∷ rest) m h =
    let parts = or-parts (m == n) (has m (nodes_of rest)) h in
    let first = parts.0 in
    let other : (n == m) ≡ false = grind (arith, nat_tests, first) in
    let i = content-none done rest m parts.1 in
    elim (cases_Bool (done n)) [ inl e ↦ rw (e, other) i | inr e ↦ rw e i ]

content-first : (n : ℕ) (text : List ℕ) (cs : Contents) (m : ℕ) → content_of ((n, text) ∷ cs) m ≡ with_only n text (content_of cs) m
content-first n text cs m = elim (cases_Bool (n == m)) [ inl e ↦ rw e refl | inr e ↦ rw e refl ]

-- ---- what stays true of the trees

-- what fits is no text
no-text : (n : ℕ) (t : Trees) → Fits n t → is_at is_text n t ≡ false
no-text n none h = refl
no-text n (tree m c k r) h =
    let below = no-text n k h.1 in
    let next = no-text n r h.2 in
    elim (cases_Bool (m == n)) [ inl e ↦ let plain = kind (h.0 e) in rw (e, plain, below, next) refl | inr e ↦ rw (e, below, next) refl ]
  where
    kind : FitsHere c k → is_text c ≡ false
    kind (inl e) = attribute-no_text c e
    kind (inr e) = element-no_text c e.0

text-attributes : (m : ℕ) (t : Trees) → is_at is_text m t ≡ false → is_at is_text m (attributes t) ≡ false
text-attributes m none h = refl
text-attributes m (tree p c k r) h =
    let a = or-parts ((p == m) && is_text c) (is_at is_text m k || is_at is_text m r) h in
    let b = or-parts (is_at is_text m k) (is_at is_text m r) a.1 in
    let i = text-attributes m r b.1 in
    elim (cases_Bool (is_attribute c)) [ inl e ↦ rw e (all ((p == m) && is_text c) (is_at is_text m k) (is_at is_text m (attributes r)) a.0 b.0 i) | inr e ↦ rw e i ]
  where
    all : (x y z : Bool) → x ≡ false → y ≡ false → z ≡ false → (x || (y || z)) ≡ false
    all x y z e f g = rw (e, f, g) refl

-- no other text comes in
text-put : (m a n : ℕ) (text : List ℕ) (t : Trees) → (a == m) ≡ false → is_at is_text m t ≡ false → is_at is_text m (put a n text t) ≡ false
text-put m a n text none other h = refl
text-put m a n text (tree p c k r) other h =
    let x = or-parts ((p == m) && is_text c) (is_at is_text m k || is_at is_text m r) h in
    let y = or-parts (is_at is_text m k) (is_at is_text m r) x.1 in
    all ((p == m) && is_text (valued n text p c)) (is_at is_text m (cond ((p == n) && is_element c) (content a text k) (put a n text k))) (is_at is_text m (put a n text r))
    (ap (λ b. (p == m) && b) (kind (p == n) c) ∙ x.0) (inner ((p == n) && is_element c) y.0 (text-put m a n text k other y.0)) (text-put m a n text r other y.1)
  where
    all : (x y z : Bool) → x ≡ false → y ≡ false → z ≡ false → (x || (y || z)) ≡ false
    all x y z e f g = rw (e, f, g) refl

    kind : (b : Bool) (c : Content) → is_text (cond b (with_value text c) c) ≡ is_text c
    kind true Root = refl
    kind true (Element name) = refl
    kind true (Attribute name old) = refl
    kind true (Text old) = refl
    kind false c = refl

    lone-text : (text : List ℕ) → is_at is_text m (lone (one_text a text)) ≡ false
    lone-text [] = refl
    lone-text (c ∷ cs) = rw other refl

    inside_ : (b : Bool) → is_at is_text m k ≡ false → is_at is_text m (cond b k (followed (attributes k) (lone (one_text a text)))) ≡ false
    inside_ true e = e
    inside_ false e =
        let one = text-attributes m k e in
        let two = lone-text text in
        some-followed (λ p c. (p == m) && is_text c) (attributes k) (lone (one_text a text)) ∙ rw (one, two) refl

    inner : (b : Bool) → is_at is_text m k ≡ false → is_at is_text m (put a n text k) ≡ false → is_at is_text m (cond b (content a text k) (put a n text k)) ≡ false
    inner true e f = inside_ (same_texts (as_texts text) (texts_top k)) e
    inner false e f = f

lone-most : (p a : ℕ) (text : List ℕ) → times p (lone (one_text a text)) ≤ 1
lone-most p a [] = omega arith
lone-most p a (c ∷ cs) = elim (cases_Bool (a == p)) [ inl e ↦ rw e (omega arith) | inr e ↦ rw e (omega arith) ]

-- the numbers and the order stay as they must be
facts-put : (a n : ℕ) (text : List ℕ) (t : Trees) → Fits n t → Facts a t → Facts (suc a) (put a n text t)
facts-put a n text t fits f = by (few (times n t) (f.once n))
  where
    same : put a n text t ≡ t → Facts (suc a) (put a n text t)
    same e = subst (Facts (suc a)) (sym e) (record { once = f.once; old = λ m le. f.old m (omega (arith, le)); first = f.first })

    at_value : (u : List ℕ) → put a n text t ≡ revalued n u t → Facts (suc a) (put a n text t)
    at_value u e = record {
      once = λ m. let q = ap (times m) e in let r = revalued-times m n u t in let o = f.once m in omega (arith, q, r, o);
      old = λ m le. let q = ap (times m) e in let r = revalued-times m n u t in let o = f.old m (omega (arith, le)) in omega (arith, q, r, o);
      first = subst Ordered (sym e) (ordered-revalued n u t f.first);
    }

    at_text : put a n text t ≡ retexted n (lone (one_text a text)) t → Facts (suc a) (put a n text t)
    at_text e = record {
      once = λ m.
          let q = ap (times m) e in
          let r = retexted-times m n (lone (one_text a text)) t (f.once n) in
          let o = f.once m in
          elim (cases_Bool (a == m)) [
            | inl s ↦ let old = f.old m (let h : a ≡ m = grind (arith, nat_tests, s) in omega (arith, h)) in let l = lone-most m a text in omega (arith, q, r, old, l)
            | inr s ↦ let l = lone-other m a text s in omega (arith, q, r, o, l)
          ];
      old = λ m le.
          let q = ap (times m) e in
          let r = retexted-times m n (lone (one_text a text)) t (f.once n) in
          let o = f.old m (omega (arith, le)) in
          let s : (a == m) ≡ false = grind (arith, nat_tests, le) in
          let l = lone-other m a text s in
          omega (arith, q, r, o, l);
      first = subst Ordered (sym e) (ordered-retexted n (lone (one_text a text)) t (one_text-texts a text) f.first);
    }

    by : (times n t ≡ 0) ⊎ (times n t ≡ 1) → Facts (suc a) (put a n text t)
    by (inl e) = same (put-absent a n text t e)
    by (inr e) =
        let s = spot n 0 t [] e fits tt in
        elim s.fits [
          | inl is ↦ at_value text (s.value a text is)
          | inr is ↦
              elim (cases_Bool (same_texts (as_texts text) (texts_top s.below_it))) [
                | inl q ↦ same (s.same a text is.0 q)
                | inr q ↦ at_text (s.texts a text is.0 q)
              ]
        ]

-- ---- one after the other

-- a number past all, or that of a text, is none of the nodes
other-outside : (number : ℕ) (contents : Contents) (t : Trees) (m : ℕ) → AreReady number contents t → (number ≤ m) ⊎ (is_at is_text m t ≡ true) → has m (nodes_of contents) ≡ false
other-outside number [] t m h old = refl
other-outside number (p ∷ ps) t m h old = rw (first (m == p.0) refl old) (other-outside number ps t m h.3 old)
  where
    first : (b : Bool) → (m == p.0) ≡ b → (number ≤ m) ⊎ (is_at is_text m t ≡ true) → b ≡ false
    first false e o = refl
    first true e (inl le) = let less = h.2 in absurd (let q : m ≡ p.0 = grind (arith, nat_tests, e) in let no : ⊥ = omega (arith, q, less, le) in no)
    first true e (inr text) = let q : m ≡ p.0 = grind (arith, nat_tests, e) in let no : false ≡ true = sym (no-text p.0 t h.0) ∙ ap (λ k. is_at is_text k t) (sym q) ∙ text in cc

-- the trees where all were settled are those that hold all contents, but for the numbers of texts
pub record Same (number : ℕ) (t one other : Trees) : Type 0 where
  pub by : ℕ → ℕ
  pub renumbers : IsRenumbering by
  pub stays : (m : ℕ) → m < number → is_at is_text m t ≡ false → by m ≡ m
  pub is : renamed by one ≡ other

renamed-plain : (t : Trees) → renamed (λ m. m) t ≡ t
renamed-plain none = refl
renamed-plain (tree m c k r) = ap (λ x. tree m c x (renamed (λ m. m) r)) (renamed-plain k) ∙ ap (tree m c k) (renamed-plain r)

small-first : (number : ℕ) (p : ℕ × List ℕ) (rest : Contents) → number + length (p ∷ rest) ≤ 2 ^ 128 → suc number + length rest ≤ 2 ^ 128
small-first number p rest h = let e : number + suc (length rest) ≡ suc number + length rest = omega arith in omega (arith, h, e)

module _ (done : ℕ → Bool) where
  abbrev given : Contents → Given
  given contents = content_of (done_of done contents)

  -- the first content, and those behind it
  module _ (number n : ℕ) (text : List ℕ) (rest : Contents) (t : Trees) (ready : AreReady number ((n, text) ∷ rest) t) (out : has n (nodes_of rest) ≡ false)
      (f : Facts number t) (small : suc number + length rest ≤ 2 ^ 128) where
    s : Single number n text t
    s = held-single number n (omega (arith, small)) text t ready.0 f

    abbrev T : ℕ
    T = text_number n

    old-other : (s.other ≡ T) ⊎ ((number ≤ s.other) ⊎ (is_at is_text s.other t ≡ true))
    old-other = elim s.old [ inl x ↦ inl x | inr x ↦ elim x [ inl y ↦ inr (inl (omega (arith, y))) | inr y ↦ inr (inr y) ] ]

    -- it is no number of a held text but the first one's
    other-small : (s.other ≡ T) ⊎ (s.other < 2 ^ 128)
    other-small = elim s.old [
      | inl x ↦ inl x
      | inr x ↦ elim x [ inl y ↦ inr (omega (arith, y, small)) | inr y ↦ inr (let h = at-times is_text s.other t y in less h) ]
    ]
      where
        less : 1 ≤ times s.other t → s.other < 2 ^ 128
        less h = elim (cases_lt s.other number) [ inl l ↦ omega (arith, l, small) | inr l ↦ let z = f.old s.other l in absurd (let no : ⊥ = omega (arith, z, h) in no) ]

    none-held : given rest T ≡ None
    none-held = content-none done rest T (other-outside number rest t T ready.3 (inl (omega (arith, small))))

    none-other : given rest s.other ≡ None
    none-other = content-none done rest s.other (by old-other)
      where
        by : (s.other ≡ T) ⊎ ((number ≤ s.other) ⊎ (is_at is_text s.other t ≡ true)) → has s.other (nodes_of rest) ≡ false
        by (inl e) = other-outside number rest t s.other ready.3 (inl (omega (arith, e, small)))
        by (inr e) = other-outside number rest t s.other ready.3 e

    apart-held : (m : ℕ) (u : List ℕ) → given rest m ≡ Some u → ((text_number m == T) ≡ false) × ((text_number m == s.other) ≡ false)
    apart-held m u e = (no-held (m == n) refl, no-other other-small)
      where
        differs : (m == n) ≡ true → ⊥
        differs q = let same : m ≡ n = grind (arith, nat_tests, q) in never (sym e ∙ ap (given rest) same ∙ content-none done rest n out)
          where
            never : ◌≡◌ {A = Option (List ℕ)} (Some u) None → ⊥
            never x = cc x

        no-held : (b : Bool) → (m == n) ≡ b → (text_number m == T) ≡ false
        no-held true q = absurd (differs q)
        no-held false q = grind (arith, nat_tests, q)

        no-other : (s.other ≡ T) ⊎ (s.other < 2 ^ 128) → (text_number m == s.other) ≡ false
        no-other (inl x) = ap (λ o. text_number m == o) x ∙ no-held (m == n) refl
        no-other (inr x) = grind (arith, nat_tests, x)

    held-then : hold (given rest) (put number n text t) ≡ renamed (swap T s.other) (hold (content_of ((n, text) ∷ done_of done rest)) t)
    held-then =
        ap (hold (given rest)) (sym s.is) ∙ hold-renamed (given rest) T s.other none-held none-other apart-held (hold (only n text) t)
        ∙ ap (renamed (swap T s.other)) (hold-both n text (given rest) t (content-none done rest n out) none-held
        ∙ ap (λ g. hold g t) (sym (fun_ext (content-first n text (done_of done rest)))))

    stays-first : (m : ℕ) → m < number → is_at is_text m t ≡ false → swap T s.other m ≡ m
    stays-first m less plain = swap-other T s.other m (grind (arith, nat_tests, less, below_T)) (by (m == s.other) refl old-other)
      where
        below_T : number ≤ 2 ^ 128
        below_T = omega (arith, small)

        by : (b : Bool) → (m == s.other) ≡ b → (s.other ≡ T) ⊎ ((number ≤ s.other) ⊎ (is_at is_text s.other t ≡ true)) → b ≡ false
        by false e o = refl
        by true e (inl x) = let q : m ≡ s.other = grind (arith, nat_tests, e) in absurd (let no : ⊥ = omega (arith, q, x, less, below_T) in no)
        by true e (inr (inl x)) = let q : m ≡ s.other = grind (arith, nat_tests, e) in absurd (let no : ⊥ = omega (arith, q, x, less) in no)
        by true e (inr (inr x)) = let q : m ≡ s.other = grind (arith, nat_tests, e) in let no : false ≡ true = sym plain ∙ ap (λ k. is_at is_text k t) q ∙ x in cc

    same-first : Same (suc number) (put number n text t) (hold (given rest) (put number n text t)) (put_all done (suc number) rest (put number n text t))
        → Same number t (hold (content_of ((n, text) ∷ done_of done rest)) t) (put_all done (suc number) rest (put number n text t))
    same-first i = record {
      by = λ m. i.by (swap T s.other m);
      renumbers = λ a b. i.renumbers (swap T s.other a) (swap T s.other b) ∙ swap-renumbers T s.other a b;
      stays = λ m less plain.
          ap i.by (stays-first m less plain) ∙ i.stays m (omega (arith, less)) (text-put m number n text t (grind (arith, nat_tests, less)) plain);
      is = sym (renamed-by (swap T s.other) i.by (hold (content_of ((n, text) ∷ done_of done rest)) t)) ∙ ap (renamed i.by) (sym held-then) ∙ i.is;
    }

  pub held-all : (number : ℕ) (contents : Contents) (t : Trees) → AreReady number contents t → are_different (nodes_of contents) ≡ true → Facts number t → number + length contents ≤ 2 ^ 128
      → Same number t (hold (given contents) t) (put_all done number contents t)
  held-all number [] t ready different f small = record {
    by = λ m. m;
    renumbers = λ a b. refl;
    stays = λ m less plain. refl;
    is = renamed-plain (hold (given []) t) ∙ hold-nothing (given []) t (λ m. refl);
  }
  held-all number ((n, text) ∷ rest) t ready different f small =
      let parts = and-parts (not (has n (nodes_of rest))) (are_different (nodes_of rest)) different in
      let less = small-first number (n, text) rest small in
      let later_f : Facts (suc number) t = record { once = f.once; old = λ m le. f.old m (omega (arith, le)); first = f.first } in
      elim (cases_Bool (done n)) [
        | inl e ↦ rw e (same-first number n text rest t ready (not-true (has n (nodes_of rest)) parts.0) f less
            (held-all (suc number) rest (put number n text t) (ready-later number rest (put number n text t) (ready-put number n text rest t ready.0 ready.1 ready.3)) parts.1 (facts-put number n text t ready.0 f) less))
        | inr e ↦ rw e (weaker (held-all (suc number) rest t (ready-later number rest t ready.3) parts.1 later_f less))
      ]
    where
      weaker : {one other : Trees} → Same (suc number) t one other → Same number t one other
      weaker i = record { by = i.by; renumbers = i.renumbers; stays = λ m less plain. i.stays m (omega (arith, less)) plain; is = i.is }
