-- One settling, and the trees that hold its text.
use Rattle.std.proofs.Common.{◌≡◌, ℕ, ◌+◌, ◌^◌, ◌==◌, Bool, true, false, ◌&&◌, ◌||◌, List, [], ◌∷◌, Option, Some, None, refl, sym, ap, ◌∙◌, subst, inl, inr, arith}
use Rattle.std.specs.Prelude.{◌⊎◌, ◌≤◌}
use Rattle.std.specs.Str.{bytes_eq}
use Rattle.std.proofs.lemmas.Bool.{cases_Bool}
use Rattle.std.proofs.lemmas.Bool.Decides.{nat_tests}
use Rattle.xf_def_forest.specs.declared.content.Content.{Content}
use Rattle.xf_def_forest.specs.declared.content.Content.TheVariants.{Text}
use Rattle.xf_def_forest.specs.Forest.{is_element, is_attribute, is_text}
use Rattle.xf_def_forest.specs.Shape.{text_number, value_given}
use Rattle.xf_def_forest.specs.Texts.{with_value, one_text}
use Rattle.xf_law_forests.proofs.RollbackLemmas.Trees.{Trees, none, tree, followed, times, times-followed}
use Rattle.xf_law_forests.proofs.RollbackLemmas.TreeTexts.{lone, attributes, Where, here, inside, later, where_is}
use Rattle.xf_law_forests.proofs.RollbackLemmas.TreeBlank.{AreLeaves}
use Rattle.xf_law_forests.proofs.RollbackLemmas.TreeOrder.{AttributesFirst, Ordered}
use Rattle.xf_law_forests.proofs.RollbackLemmas.TreeFacts.{is_at, at-times}
use Rattle.xf_law_forests.proofs.SettleLemmas.KindLemmas.{attribute-no_element, same-bytes, few}
use Rattle.xf_law_forests.proofs.SettleLemmas.Put.{texts_top, same_texts, content, put}
use Rattle.xf_law_forests.proofs.SettleLemmas.Spots.{FitsHere, Fits, put-absent}
use Rattle.xf_law_forests.proofs.SettleLemmas.Held.{hold}
use Rattle.xf_law_forests.proofs.SettleLemmas.Renamed.{swap, swap-other, renamed, renamed-followed, renamed-absent, renamed-itself, only, hold-absent, value-none, value-some, attributes-all, one-text, turned}

-- the text's number in the trees that hold it changes places with this one: with itself, the new one, or that of the text which stands
pub record Single (a n : ℕ) (text : List ℕ) (t : Trees) : Type 0 where
  pub other : ℕ
  pub old : (other ≡ text_number n) ⊎ ((other ≡ a) ⊎ (is_at is_text other t ≡ true))
  pub is : renamed (swap (text_number n) other) (hold (only n text) t) ≡ put a n text t

-- no number comes twice, and none from this one on is there
pub record Facts (number : ℕ) (t : Trees) : Type 0 where
  pub once : (m : ℕ) → times m t ≤ 1
  pub old : (m : ℕ) → number ≤ m → times m t ≡ 0
  pub first : Ordered t

less-followed : (m : ℕ) (k : Trees) → times m (attributes k) ≤ times m k
less-followed m none = omega arith
less-followed m (tree p c k r) =
    let i = less-followed m r in
    elim (cases_Bool (is_attribute c)) [ inl e ↦ rw e (omega (arith, i)) | inr e ↦ rw e (omega (arith, i)) ]

split-once : (m p : ℕ) (c : Content) (k r : Trees) → times m (tree p c k r) ≤ 1 → times m k + times m r ≤ 1
split-once m p c k r h = omega (arith, h)

one-same : (text : List ℕ) (us : List (List ℕ)) → same_texts (text ∷ []) us ≡ true → us ≡ text ∷ []
one-same text [] e = let no : false ≡ true = e in cc
one-same text (u ∷ []) e = by (bytes_eq u text) refl e
  where
    by : (b : Bool) → bytes_eq u text ≡ b → (b && true) ≡ true → u ∷ [] ≡ text ∷ []
    by true q h = ap (λ x. x ∷ []) (same-bytes u text q)
    by false q h = let no : false ≡ true = h in cc
one-same text (u ∷ v ∷ us) e = by (bytes_eq u text) e
  where
    by : (b : Bool) → (b && false) ≡ true → u ∷ v ∷ us ≡ text ∷ []
    by true h = let no : false ≡ true = h in cc
    by false h = let no : false ≡ true = h in cc

none-same : (us : List (List ℕ)) → same_texts [] us ≡ true → us ≡ []
none-same [] e = refl
none-same (u ∷ us) e = let no : false ≡ true = e in cc

nothing-after : (t : Trees) → followed t none ≡ t
nothing-after none = refl
nothing-after (tree m c k r) = ap (tree m c k) (nothing-after r)

module _ (a n : ℕ) (small : a ≤ 2 ^ 128) where
  abbrev T : ℕ
  T = text_number n

  -- the number that a held text has is not there
  no-held : (t : Trees) → Facts a t → times T t ≡ 0
  no-held t f = f.old T (omega (arith, small))

  -- below the element
  record Inner (text : List ℕ) (k : Trees) : Type 0 where
    other : ℕ
    old : (other ≡ T) ⊎ ((other ≡ a) ⊎ (is_at is_text other k ≡ true))
    is : renamed (swap T other) (followed (attributes k) (lone (one_text T text))) ≡ content a text k

  at-text : (m : ℕ) (text : List ℕ) (k : Trees) → is_at is_text m (followed k (tree m (Text text) none none)) ≡ true
  at-text m text none = let same : (m == m) ≡ true = grind (arith, nat_tests) in rw same refl
  at-text m text (tree p c j r) = rw (at-text m text r) (by ((p == m) && is_text c) (is_at is_text m j))
    where
      or-true : (b : Bool) → (b || true) ≡ true
      or-true true = refl
      or-true false = refl

      by : (x y : Bool) → (x || (y || true)) ≡ true
      by true y = refl
      by false y = or-true y

  inner : (text : List ℕ) (k : Trees) → AreLeaves k → AttributesFirst k → ((m : ℕ) → times m k ≤ 1) → ((m : ℕ) → a ≤ m → times m k ≡ 0) → Inner text k
  inner [] k leaves first once fresh =
      elim (cases_Bool (same_texts [] (texts_top k))) [
        | inl e ↦ record {
          other = T;
          old = inl refl;
          is = renamed-itself T (followed (attributes k) none) ∙ nothing-after (attributes k) ∙ attributes-all k leaves (none-same (texts_top k) e) ∙ rw e refl;
        }
        | inr e ↦ record { other = T; old = inl refl; is = renamed-itself T (followed (attributes k) none) ∙ rw e refl }
      ]
  inner (c ∷ cs) k leaves first once fresh =
      let text = c ∷ cs in
      let held = less-followed T k in
      let gone = fresh T (omega (arith, small)) in
      elim (cases_Bool (same_texts (text ∷ []) (texts_top k))) [
        | inl e ↦
            let o = one-text k text leaves first (one-same text (texts_top k) e) in
            let m = o.held_by in
            let one : times m (followed (attributes k) (tree m (Text text) none none)) ≤ 1 = subst (λ x. times m x ≤ 1) o.whole (once m) in
            let parts = times-followed m (attributes k) (tree m (Text text) none none) in
            let same : (m == m) ≡ true = grind (arith, nat_tests) in
            let here_ : times m (tree m (Text text) none none) ≡ 1 = rw same (omega arith) in
            let there : is_at is_text m k ≡ true = ap (is_at is_text m) o.whole ∙ at-text m text (attributes k) in
            let held_same : (T == T) ≡ true = grind (arith, nat_tests) in
            let to : swap T m T ≡ m = rw held_same refl in
            record {
              other = m;
              old = inr (inr there);
              is =
                  renamed-followed (swap T m) (attributes k) (tree T (Text text) none none)
                  ∙ ap (λ x. followed x (tree (swap T m T) (Text text) none none)) (renamed-absent T m (attributes k) (omega (arith, held, gone)) (omega (arith, one, parts, here_)))
                  ∙ ap (λ x. followed (attributes k) (tree x (Text text) none none)) to ∙ sym o.whole ∙ rw e refl;
            }
        | inr e ↦
            let fresh_a = fresh a (omega arith) in
            let less_a = less-followed a k in
            let held_same : (T == T) ≡ true = grind (arith, nat_tests) in
            let to : swap T a T ≡ a = rw held_same refl in
            record {
              other = a;
              old = inr (inl refl);
              is =
                  renamed-followed (swap T a) (attributes k) (tree T (Text text) none none)
                  ∙ ap (λ x. followed x (tree (swap T a T) (Text text) none none)) (renamed-absent T a (attributes k) (omega (arith, held, gone)) (omega (arith, less_a, fresh_a)))
                  ∙ ap (λ x. followed (attributes k) (tree x (Text text) none none)) to ∙ rw e refl;
            }
      ]

  -- the other number is not in what stands beside
  gone-beside : (m : ℕ) (k r : Trees) → (m ≡ T) ⊎ ((m ≡ a) ⊎ (is_at is_text m k ≡ true)) → times m k + times m r ≤ 1 → ((p : ℕ) → a ≤ p → times p r ≡ 0) → times m r ≡ 0
  gone-beside m k r (inl e) sum fresh = fresh m (omega (arith, e, small))
  gone-beside m k r (inr (inl e)) sum fresh = fresh m (omega (arith, e))
  gone-beside m k r (inr (inr e)) sum fresh = let h = at-times is_text m k e in omega (arith, h, sum)

  -- nor is it this one
  not-here : (m p : ℕ) (c : Content) (k r : Trees) → (m ≡ T) ⊎ ((m ≡ a) ⊎ (1 ≤ times m k + times m r)) → times m (tree p c k r) ≤ 1 → ((q : ℕ) → a ≤ q → times q (tree p c k r) ≡ 0) → (p == m) ≡ false
  not-here m p c k r old once fresh = by (p == m) refl old
    where
      by : (b : Bool) → (p == m) ≡ b → (m ≡ T) ⊎ ((m ≡ a) ⊎ (1 ≤ times m k + times m r)) → b ≡ false
      by false e o = refl
      by true e (inl h) = let z : 1 + (times m k + times m r) ≡ 0 = rw e at (fresh m (omega (arith, h, small))) in absurd (let no : ⊥ = omega (arith, z) in no)
      by true e (inr (inl h)) = let z : 1 + (times m k + times m r) ≡ 0 = rw e at (fresh m (omega (arith, h))) in absurd (let no : ⊥ = omega (arith, z) in no)
      by true e (inr (inr h)) = let z : 1 + (times m k + times m r) ≤ 1 = rw e at once in absurd (let no : ⊥ = omega (arith, z, h) in no)

  -- the facts of parts
  facts-below : (p : ℕ) (c : Content) (k r : Trees) → Facts a (tree p c k r) → Facts a k
  facts-below p c k r f = record {
    once = λ m. let h = f.once m in omega (arith, h);
    old = λ m le. let h = f.old m le in omega (arith, h);
    first = f.first.1;
  }

  facts-after : (p : ℕ) (c : Content) (k r : Trees) → Facts a (tree p c k r) → Facts a r
  facts-after p c k r f = record {
    once = λ m. let h = f.once m in omega (arith, h);
    old = λ m le. let h = f.old m le in omega (arith, h);
    first = f.first.2;
  }

  -- a text held by trees, or settled in them
  single : (text : List ℕ) (t : Trees) → Fits n t → Facts a t → times n t ≡ 1 → Single a n text t
  single text none fits f one = absurd (let no : ⊥ = omega (arith, one) in no)
  single text (tree m c k r) fits f one =
      by (where_is n m c k r one) (λ p. single text k fits.1 (facts-below m c k r f) p) (λ q. single text r fits.2 (facts-after m c k r f) q)
    where
      g : ℕ → Option (List ℕ)
      g = only n text

      or-mid : (x y z : Bool) → y ≡ true → (x || (y || z)) ≡ true
      or-mid true y z e = refl
      or-mid false y z e = rw e refl

      or-last : (x y z : Bool) → z ≡ true → (x || (y || z)) ≡ true
      or-last true y z e = refl
      or-last false true z e = refl
      or-last false false z e = e

      fresh-k : (p : ℕ) → a ≤ p → times p k ≡ 0
      fresh-k p le = let h = f.old p le in omega (arith, h)

      fresh-r : (p : ℕ) → a ≤ p → times p r ≡ 0
      fresh-r p le = let h = f.old p le in omega (arith, h)

      both-once : (p : ℕ) → times p k + times p r ≤ 1
      both-once p = let h = f.once p in omega (arith, h)

      other-here : (m == n) ≡ false → (n == m) ≡ false
      other-here e = sym (turned m n) ∙ e

      held-here : (m == n) ≡ true → (n == m) ≡ true
      held-here e = sym (turned m n) ∙ e

      T-not : (m == T) ≡ false
      T-not = not-here T m c k r (inl refl) (f.once T) f.old

      as_leaf : (m == n) ≡ true → is_attribute c ≡ true → times n k ≡ 0 → times n r ≡ 0 → Single a n text (tree m c k r)
      as_leaf e is p q =
          let plain = attribute-no_element c is in
          let held = held-here e in
          record {
            other = T;
            old = inl refl;
            is =
                renamed-itself T (hold g (tree m c k r))
                ∙ rw (held, e, plain) (ap (λ x. tree m x (hold g k) (hold g r)) (value-some text c) ∙ ap (λ x. tree m (with_value text c) x (hold g r)) (hold-absent n text k p ∙ sym (put-absent a n text k p))
                ∙ ap (tree m (with_value text c) (put a n text k)) (hold-absent n text r q ∙ sym (put-absent a n text r q)));
          }

      as_element : (m == n) ≡ true → is_element c ≡ true → AreLeaves k → times n k ≡ 0 → times n r ≡ 0 → Single a n text (tree m c k r)
      as_element e is leaves p q =
          let held = held-here e in
          let number : m ≡ n = grind (arith, nat_tests, e) in
          let i = inner text k leaves f.first.0 (λ x. let h = both-once x in omega (arith, h)) fresh-k in
          let beside = gone-beside i.other k r i.old (both-once i.other) fresh-r in
          let beside_T = fresh-r T (omega (arith, small)) in
          let inside_ : (is_at is_text i.other k ≡ true) → 1 ≤ times i.other k + times i.other r = λ h. let l = at-times is_text i.other k h in omega (arith, l) in
          let apart = not-here i.other m c k r (elim i.old [ inl x ↦ inl x | inr x ↦ elim x [ inl y ↦ inr (inl y) | inr y ↦ inr (inr (inside_ y)) ] ]) (f.once i.other) f.old in
          record {
            other = i.other;
            old = elim i.old [
              | inl x ↦ inl x
              | inr x ↦ elim x [ inl y ↦ inr (inl y) | inr y ↦ inr (inr (or-mid ((m == i.other) && is_text c) (is_at is_text i.other k) (is_at is_text i.other r) y)) ]
            ];
            is =
                rw (held, e, is) (
                ap (λ x. tree x (value_given (Some text) c) (renamed (swap T i.other) (followed (attributes (hold g k)) (lone (one_text (text_number m) text)))) (renamed (swap T i.other) (hold g r))) (swap-other T i.other m T-not apart)
                ∙ ap (λ x. tree m x (renamed (swap T i.other) (followed (attributes (hold g k)) (lone (one_text (text_number m) text)))) (renamed (swap T i.other) (hold g r))) (value-some text c)
                ∙ ap (λ x. tree m (with_value text c) (renamed (swap T i.other) (followed (attributes x) (lone (one_text (text_number m) text)))) (renamed (swap T i.other) (hold g r))) (hold-absent n text k p)
                ∙ ap (λ x. tree m (with_value text c) (renamed (swap T i.other) (followed (attributes k) (lone (one_text (text_number x) text)))) (renamed (swap T i.other) (hold g r))) number
                ∙ ap (λ x. tree m (with_value text c) x (renamed (swap T i.other) (hold g r))) i.is
                ∙ ap (λ x. tree m (with_value text c) (content a text k) (renamed (swap T i.other) x)) (hold-absent n text r q)
                ∙ ap (tree m (with_value text c) (content a text k)) (renamed-absent T i.other r beside_T beside ∙ sym (put-absent a n text r q)));
          }

      fitting : (m == n) ≡ true → FitsHere c k → times n k ≡ 0 → times n r ≡ 0 → Single a n text (tree m c k r)
      fitting e (inl is) p q = as_leaf e is p q
      fitting e (inr is) p q = as_element e is.0 is.1 p q

      in_k : (m == n) ≡ false → Single a n text k → times n r ≡ 0 → Single a n text (tree m c k r)
      in_k e s q =
          let other = other-here e in
          let beside = gone-beside s.other k r s.old (both-once s.other) fresh-r in
          let beside_T = fresh-r T (omega (arith, small)) in
          let inside_ : (is_at is_text s.other k ≡ true) → 1 ≤ times s.other k + times s.other r = λ h. let l = at-times is_text s.other k h in omega (arith, l) in
          let apart = not-here s.other m c k r (elim s.old [ inl x ↦ inl x | inr x ↦ elim x [ inl y ↦ inr (inl y) | inr y ↦ inr (inr (inside_ y)) ] ]) (f.once s.other) f.old in
          record {
            other = s.other;
            old = elim s.old [
              | inl x ↦ inl x
              | inr x ↦ elim x [ inl y ↦ inr (inl y) | inr y ↦ inr (inr (or-mid ((m == s.other) && is_text c) (is_at is_text s.other k) (is_at is_text s.other r) y)) ]
            ];
            is =
                rw (other, e) (
                ap (λ x. tree x (value_given None c) (renamed (swap T s.other) (hold g k)) (renamed (swap T s.other) (hold g r))) (swap-other T s.other m T-not apart)
                ∙ ap (λ x. tree m x (renamed (swap T s.other) (hold g k)) (renamed (swap T s.other) (hold g r))) (value-none c)
                ∙ ap (λ x. tree m c x (renamed (swap T s.other) (hold g r))) s.is
                ∙ ap (λ x. tree m c (put a n text k) (renamed (swap T s.other) x)) (hold-absent n text r q)
                ∙ ap (tree m c (put a n text k)) (renamed-absent T s.other r beside_T beside ∙ sym (put-absent a n text r q)));
          }

      in_r : (m == n) ≡ false → times n k ≡ 0 → Single a n text r → Single a n text (tree m c k r)
      in_r e p s =
          let other = other-here e in
          let turned_sum = both-once s.other in
          let beside = gone-beside s.other r k s.old (omega (arith, turned_sum)) fresh-k in
          let beside_T = fresh-k T (omega (arith, small)) in
          let inside_ : (is_at is_text s.other r ≡ true) → 1 ≤ times s.other k + times s.other r = λ h. let l = at-times is_text s.other r h in omega (arith, l) in
          let apart = not-here s.other m c k r (elim s.old [ inl x ↦ inl x | inr x ↦ elim x [ inl y ↦ inr (inl y) | inr y ↦ inr (inr (inside_ y)) ] ]) (f.once s.other) f.old in
          record {
            other = s.other;
            old = elim s.old [
              | inl x ↦ inl x
              | inr x ↦ elim x [ inl y ↦ inr (inl y) | inr y ↦ inr (inr (or-last ((m == s.other) && is_text c) (is_at is_text s.other k) (is_at is_text s.other r) y)) ]
            ];
            is =
                rw (other, e) (
                ap (λ x. tree x (value_given None c) (renamed (swap T s.other) (hold g k)) (renamed (swap T s.other) (hold g r))) (swap-other T s.other m T-not apart)
                ∙ ap (λ x. tree m x (renamed (swap T s.other) (hold g k)) (renamed (swap T s.other) (hold g r))) (value-none c)
                ∙ ap (λ x. tree m c (renamed (swap T s.other) x) (renamed (swap T s.other) (hold g r))) (hold-absent n text k p)
                ∙ ap (λ x. tree m c x (renamed (swap T s.other) (hold g r))) (renamed-absent T s.other k beside_T beside ∙ sym (put-absent a n text k p))
                ∙ ap (tree m c (put a n text k)) s.is);
          }

      by : Where n m k r → (times n k ≡ 1 → Single a n text k) → (times n r ≡ 1 → Single a n text r) → Single a n text (tree m c k r)
      by (here e p q) _ _ = fitting e (fits.0 e) p q
      by (inside e p q) first _ = in_k e (first p) q
      by (later e p q) _ second = in_r e p (second q)

  -- also where the node is not there
  pub held-single : (text : List ℕ) (t : Trees) → Fits n t → Facts a t → Single a n text t
  held-single text t fits f =
      elim (few (times n t) (f.once n)) [
        | inl e ↦ record { other = T; old = inl refl; is = renamed-itself T (hold (only n text) t) ∙ hold-absent n text t e ∙ sym (put-absent a n text t e) }
        | inr e ↦ single text t fits f e
      ]
