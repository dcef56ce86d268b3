-- Trees that hold contents: one content after others, and two numbers that change places.
use Rattle.std.proofs.Common.{◌≡◌, ℕ, ◌==◌, false, if◌then◌else◌, List, [], ◌∷◌, Option, Some, None, refl, sym, ap, ◌∙◌, inl, inr, arith}
use Rattle.std.proofs.lemmas.Bool.{cases_Bool}
use Rattle.std.proofs.lemmas.Bool.Decides.{nat_tests}
use Rattle.xf_def_forest.specs.declared.content.Content.{Content}
use Rattle.xf_def_forest.specs.Forest.{is_element, is_attribute}
use Rattle.xf_def_forest.specs.Shape.{text_number, value_given}
use Rattle.xf_def_forest.specs.Texts.{one_text}
use Rattle.xf_law_forests.proofs.RollbackLemmas.Trees.{Trees, none, tree, followed}
use Rattle.xf_law_forests.proofs.RollbackLemmas.TreeTexts.{lone, attributes}
use Rattle.xf_law_forests.proofs.SettleLemmas.Held.{Given, held_below, hold, given-attribute}
use Rattle.xf_law_forests.proofs.SettleLemmas.Renamed.{swap, swap-other, renamed, renamed-followed, renamed-attributes, only, value-none}

pub hold-followed : (g : Given) (t s : Trees) → hold g (followed t s) ≡ followed (hold g t) (hold g s)
hold-followed g none s = refl
hold-followed g (tree m c k r) s = ap (tree m (value_given (g m) c) (held_below m c (g m) (hold g k))) (hold-followed g r s)

hold-attributes : (g : Given) (t : Trees) → attributes (hold g t) ≡ hold g (attributes t)
hold-attributes g none = refl
hold-attributes g (tree m c k r) =
    let same = given-attribute (g m) c in
    let i = hold-attributes g r in
    elim (cases_Bool (is_attribute c)) [ inl e ↦ rw (same, e) (ap (tree m (value_given (g m) c) (held_below m c (g m) (hold g k))) i) | inr e ↦ rw (same, e) i ]

hold-lone : (g : Given) (b : ℕ) (text : List ℕ) → g b ≡ None → hold g (lone (one_text b text)) ≡ lone (one_text b text)
hold-lone g b [] e = refl
hold-lone g b (c ∷ cs) e = rw e refl

pub hold-nothing : (g : Given) (t : Trees) → ((m : ℕ) → g m ≡ None) → hold g t ≡ t
hold-nothing g none h = refl
hold-nothing g (tree m c k r) h =
    let here_ = h m in
    rw here_ (ap (λ x. tree m x (hold g k) (hold g r)) (value-none c) ∙ ap (λ x. tree m c x (hold g r)) (hold-nothing g k h) ∙ ap (tree m c k) (hold-nothing g r h))

-- one more content
abbrev pub with_only : ℕ → List ℕ → Given → Given
with_only n text g m = if n == m then Some text else g m

below-both : (g : Given) (m : ℕ) (c : Content) (text : List ℕ) (x : Trees) → g (text_number m) ≡ None → hold g (held_below m c (Some text) x) ≡ held_below m c (Some text) (hold g x)
below-both g m c text x e =
    elim (cases_Bool (is_element c)) [
      | inl is ↦ rw is (hold-followed g (attributes x) (lone (one_text (text_number m) text)) ∙ ap (followed (hold g (attributes x))) (hold-lone g (text_number m) text e)
          ∙ ap (λ a. followed a (lone (one_text (text_number m) text))) (sym (hold-attributes g x)))
      | inr is ↦ rw is refl
    ]

pub hold-both : (n : ℕ) (text : List ℕ) (g : Given) (t : Trees) → g n ≡ None → g (text_number n) ≡ None → hold g (hold (only n text) t) ≡ hold (with_only n text g) t
hold-both n text g none h e = refl
hold-both n text g (tree m c k r) h e =
    let below = hold-both n text g k h e in
    let next = hold-both n text g r h e in
    elim (cases_Bool (n == m)) [
      | inl q ↦
          let number : n ≡ m = grind (arith, nat_tests, q) in
          let gone : g m ≡ None = ap g (sym number) ∙ h in
          let held : g (text_number m) ≡ None = ap (λ x. g (text_number x)) (sym number) ∙ e in
          rw (q, gone) (ap (λ x. tree m x (hold g (held_below m c (Some text) (hold (only n text) k))) (hold g (hold (only n text) r))) (value-none (value_given (Some text) c))
          ∙ ap (λ x. tree m (value_given (Some text) c) x (hold g (hold (only n text) r))) (below-both g m c text (hold (only n text) k) held ∙ ap (held_below m c (Some text)) below)
          ∙ ap (tree m (value_given (Some text) c) (held_below m c (Some text) (hold (with_only n text g) k))) next)
      | inr q ↦
          rw q (ap (λ x. tree m (value_given (g m) x) (held_below m x (g m) (hold g (hold (only n text) k))) (hold g (hold (only n text) r))) (value-none c)
          ∙ ap (λ x. tree m (value_given (g m) c) (held_below m c (g m) x) (hold g (hold (only n text) r))) below
          ∙ ap (tree m (value_given (g m) c) (held_below m c (g m) (hold (with_only n text g) k))) next)
    ]

renamed-lone : (f : ℕ → ℕ) (b : ℕ) (text : List ℕ) → renamed f (lone (one_text b text)) ≡ lone (one_text (f b) text)
renamed-lone f b [] = refl
renamed-lone f b (c ∷ cs) = refl

-- where the two numbers are given nothing, and are no numbers of held texts
module _ (g : Given) (a b : ℕ) (none_a : g a ≡ None) (none_b : g b ≡ None)
    (apart : (m : ℕ) (text : List ℕ) → g m ≡ Some text → ((text_number m == a) ≡ false) × ((text_number m == b) ≡ false)) where
  abbrev f : ℕ → ℕ
  f = swap a b

  given-same : (m : ℕ) → g (f m) ≡ g m
  given-same m =
      elim (cases_Bool (m == a)) [
        | inl p ↦ let e : a ≡ m = grind (arith, nat_tests, p) in rw p (none_b ∙ sym none_a ∙ ap g e)
        | inr p ↦ elim (cases_Bool (m == b)) [ inl q ↦ let e : b ≡ m = grind (arith, nat_tests, q) in rw (p, q) (none_a ∙ sym none_b ∙ ap g e) | inr q ↦ rw (p, q) refl ]
      ]

  stays-given : (m : ℕ) (text : List ℕ) → g m ≡ Some text → f m ≡ m
  stays-given m text e =
      elim (cases_Bool (m == a)) [
        | inl p ↦ let q : m ≡ a = grind (arith, nat_tests, p) in absurd (never text (sym e ∙ ap g q ∙ none_a))
        | inr p ↦ elim (cases_Bool (m == b)) [ inl s ↦ let q : m ≡ b = grind (arith, nat_tests, s) in absurd (never text (sym e ∙ ap g q ∙ none_b)) | inr s ↦ rw (p, s) refl ]
      ]
    where
      never : (text : List ℕ) → ◌≡◌ {A = Option (List ℕ)} (Some text) None → ⊥
      never text e = cc e

  below-renamed : (m : ℕ) (c : Content) (x : Trees) (o : Option (List ℕ)) → g m ≡ o → held_below (f m) c o (renamed f x) ≡ renamed f (held_below m c o x)
  below-renamed m c x None e = refl
  below-renamed m c x (Some text) e =
      let p = apart m text e in
      let same = stays-given m text e in
      let held = swap-other a b (text_number m) p.0 p.1 in
      elim (cases_Bool (is_element c)) [
        | inl is ↦ rw is (ap (λ y. followed y (lone (one_text (text_number (f m)) text))) (renamed-attributes f x)
            ∙ ap (λ y. followed (renamed f (attributes x)) (lone (one_text (text_number y) text))) same
            ∙ ap (λ y. followed (renamed f (attributes x)) (lone (one_text y text))) (sym held)
            ∙ ap (followed (renamed f (attributes x))) (sym (renamed-lone f (text_number m) text))
            ∙ sym (renamed-followed f (attributes x) (lone (one_text (text_number m) text))))
        | inr is ↦ rw is refl
      ]

  pub hold-renamed : (t : Trees) → hold g (renamed f t) ≡ renamed f (hold g t)
  hold-renamed none = refl
  hold-renamed (tree m c k r) =
      ap (λ o. tree (f m) (value_given o c) (held_below (f m) c o (hold g (renamed f k))) (hold g (renamed f r))) (given-same m)
      ∙ ap (λ x. tree (f m) (value_given (g m) c) (held_below (f m) c (g m) x) (hold g (renamed f r))) (hold-renamed k)
      ∙ ap (λ x. tree (f m) (value_given (g m) c) x (hold g (renamed f r))) (below-renamed m c (hold g k) (g m) refl)
      ∙ ap (tree (f m) (value_given (g m) c) (renamed f (held_below m c (g m) (hold g k)))) (hold-renamed r)
