-- A step that meets no texts, with predicates by position, gives the same over both forests, as it is asked over the shape.
use Rattle.std.proofs.Common.{◌≡◌, ℕ, ◌==◌, suc, Bool, true, false, not, cond, ◌&&◌, List, [], ◌∷◌, ◌++◌, map, length, Option, Some, None, option_map, unwrap_or, refl, sym, ap, ◌∙◌, inl, inr}
use Rattle.std.specs.Prelude.{filter}
use Rattle.std.specs.List.{flat_map}
use Rattle.std.proofs.lemmas.Bool.{eqb-true}
use Rattle.xf_name.specs.declared.axis.Axis.{Axis}
use Rattle.xf_def_syntax.specs.declared.expr.Test.{Test}
use Rattle.xf_def_forest.specs.Visit.{has}
use Rattle.xf_def_xpath.specs.Setting.{Setting, Meaning, ◌>>=◌, each, in_order, joined}
use Rattle.xf_def_xpath.specs.AskedSteps.{lists_of, is_kind, meets_texts}
use Rattle.xf_def_xpath.specs.Steps.{reached, is_true_at, with_first, kept_from, kept_by_all, from_one}
use Rattle.xf_def_xpath.proofs.VisitFacts.{self-same, or-cases, or-left, or-right, no}
use Rattle.xf_def_xpath.proofs.SameKept.{has-left, has-right, has-append}
use Rattle.xf_def_xpath.proofs.Comparison.{Comparison, other, over_shape, Solid, AllSolid, Agree, agree-less, Reached, reaches, first-order, second-order, order-solid}
use Rattle.xf_def_xpath.proofs.Gives.{Gives, nothing, both, gives-then, gives-weaker, gives-at}
use Rattle.xf_def_xpath.proofs.PlacedLaws.{Placed}

-- ---- predicates

-- what is kept is no more than there was
with_first-has : (k n : ℕ) (b : Bool) (ns ms : List ℕ) → (has k ns ≡ true → has k ms ≡ true) → has k (with_first n b ns) ≡ true → has k (n ∷ ms) ≡ true
with_first-has k n true ns ms h i = elim (or-cases (k == n) (has k ns) i) [ inl a ↦ or-left (k == n) (has k ms) a | inr b ↦ or-right (k == n) (has k ms) (h b) ]
with_first-has k n false ns ms h i = or-right (k == n) (has k ms) (h i)

module _ (w : Comparison) where
  abbrev s : Setting
  s = w.setting

  abbrev t : Setting
  t = other w

  abbrev u : Setting
  u = over_shape w

  abbrev Predicate : Type 0
  Predicate = (m : Meaning) × Placed w m

  abbrev meanings : List Predicate → List Meaning
  meanings ps = map (λ (p : Predicate). p.0) ps

  -- kept over the shape, and a part of what there was
  abbrev Keeps : List ℕ → Option (List ℕ) → List ℕ → Type 0
  Keeps ns m ks = (m ≡ Some ks) × ((k : ℕ) → has k ks ≡ true → has k ns ≡ true)

  kept-agree : (p : Predicate) (size position : ℕ) (ns : List ℕ) → Gives (Keeps ns (kept_from u p.0 size position ns)) (kept_from s p.0 size position ns) (kept_from t p.0 size position ns)
  kept-agree p size position [] = both (refl, λ k h. h)
  kept-agree p size position (n ∷ ns) =
      gives-then
      (λ v. kept_from s p.0 size (suc position) ns >>= λ rest. Some (with_first n (is_true_at s.given.decimals position v) rest))
      (λ v. kept_from t p.0 size (suc position) ns >>= λ rest. Some (with_first n (is_true_at s.given.decimals position v) rest))
      (p.1 n n n position size) (λ v i.
      gives-then (λ rest. Some (with_first n (is_true_at s.given.decimals position v) rest)) (λ rest. Some (with_first n (is_true_at s.given.decimals position v) rest)) (kept-agree p size (suc position) ns) (λ rest j.
      both (
        ap (λ r. r >>= λ x. kept_from u p.0 size (suc position) ns >>= λ ks. Some (with_first n (is_true_at s.given.decimals position x) ks)) i.0
            ∙ ap (λ r. r >>= λ ks. Some (with_first n (is_true_at s.given.decimals position v) ks)) j.0,
        λ k. with_first-has k n (is_true_at s.given.decimals position v) rest ns (j.1 k),
      )))

  pub kept_all-agree : (ps : List Predicate) (ns : List ℕ) → Gives (Keeps ns (kept_by_all u (meanings ps) ns)) (kept_by_all s (meanings ps) ns) (kept_by_all t (meanings ps) ns)
  kept_all-agree [] ns = both (refl, λ k h. h)
  kept_all-agree (p ∷ ps) ns =
      gives-then (kept_by_all s (meanings ps)) (kept_by_all t (meanings ps)) (kept-agree p (length ns) 1 ns) (λ ms i.
      gives-weaker (kept_all-agree ps ms) (λ ks j. (ap (λ r. r >>= kept_by_all u (meanings ps)) i.0 ∙ j.0, λ k h. i.1 k (j.1 k h))))

  -- ---- from one node

  abbrev From : Option (List ℕ) → List ℕ → Type 0
  From m ks = (m ≡ Some ks) × AllSolid w ks

  pub from-agree : (axis : Axis) (test : Test) (ps : List Predicate) (n : ℕ) → not (is_kind test && meets_texts axis) ≡ true → Solid w n → Agree w (lists_of axis w.shape n) →
      Gives (From (from_one axis test (meanings ps) u n)) (from_one axis test (meanings ps) s n) (from_one axis test (meanings ps) t n)
  from-agree axis test ps n exact solid agree =
      let r : Reached w axis test n = reaches w axis test n exact solid agree in
      gives-at (ap (kept_by_all s (meanings ps)) r.first) (ap (kept_by_all t (meanings ps)) r.second)
      (gives-weaker (kept_all-agree ps (reached axis test w.shape n)) (λ ks k. (k.0, λ m h. r.solid m (k.1 m h))))

-- ---- all together

-- what is given from each, joined
abbrev pub gathered : (ℕ → Option (List ℕ)) → List ℕ → Option (List ℕ)
gathered f [] = Some []
gathered f (n ∷ ns) = f n >>= λ ks. gathered f ns >>= λ rest. Some (ks ++ rest)

pub each-gathered : (f : ℕ → Option (List ℕ)) (ns : List ℕ) → option_map joined (each f ns) ≡ gathered f ns
each-gathered f [] = refl
each-gathered f (n ∷ ns) = by (f n) (each f ns) (gathered f ns) (each-gathered f ns)
  where
    by : (m : Option (List ℕ)) (e : Option (List (List ℕ))) (g : Option (List ℕ)) → option_map joined e ≡ g → option_map joined (m >>= λ ks. e >>= λ sets. Some (ks ∷ sets)) ≡ (m >>= λ ks. g >>= λ rest. Some (ks ++ rest))
    by None e g h = refl
    by (Some ks) None g h = ap (λ x. x >>= λ rest. Some (ks ++ rest)) h
    by (Some ks) (Some sets) g h = ap (λ x. x >>= λ rest. Some (ks ++ rest)) h

pub map-through_each : (f : ℕ → Option (List ℕ)) (h : List ℕ → List ℕ) (ns : List ℕ) → option_map (λ sets. h (joined sets)) (each f ns) ≡ option_map h (gathered f ns)
map-through_each f h ns = by (each f ns) ∙ ap (option_map h) (each-gathered f ns)
  where
    by : (e : Option (List (List ℕ))) → option_map (λ sets. h (joined sets)) e ≡ option_map h (option_map joined e)
    by None = refl
    by (Some sets) = refl

-- a node from which nothing is given may be left out
pub gathered-without : (f : ℕ → Option (List ℕ)) (m : ℕ → Bool) (ns : List ℕ) → ((n : ℕ) → has n ns ≡ true → m n ≡ false → f n ≡ Some []) → gathered f ns ≡ gathered f (filter m ns)
gathered-without f m [] h = refl
gathered-without f m (n ∷ ns) h = by (m n) refl (gathered-without f m ns (λ k i. h k (or-right (k == n) (has k ns) i)))
  where
    none : (g : Option (List ℕ)) → (g >>= λ rest. Some ([] ++ rest)) ≡ g
    none None = refl
    none (Some ks) = refl

    by : (b : Bool) → m n ≡ b → gathered f ns ≡ gathered f (filter m ns) → (f n >>= λ ks. gathered f ns >>= λ rest. Some (ks ++ rest)) ≡ gathered f (cond b (n ∷ filter m ns) (filter m ns))
    by true i e = ap (λ g. f n >>= λ ks. g >>= λ rest. Some (ks ++ rest)) e
    by false i e = ap (λ x. x >>= λ ks. gathered f ns >>= λ rest. Some (ks ++ rest)) (h n (or-left (n == n) (has n ns) (self-same n)) i) ∙ none (gathered f ns) ∙ e

pub flat-without : (f : ℕ → List ℕ) (m : ℕ → Bool) (ns : List ℕ) → ((n : ℕ) → has n ns ≡ true → m n ≡ false → f n ≡ []) → flat_map f ns ≡ flat_map f (filter m ns)
flat-without f m [] h = refl
flat-without f m (n ∷ ns) h = by (m n) refl (flat-without f m ns (λ k i. h k (or-right (k == n) (has k ns) i)))
  where
    by : (b : Bool) → m n ≡ b → flat_map f ns ≡ flat_map f (filter m ns) → f n ++ flat_map f ns ≡ flat_map f (cond b (n ∷ filter m ns) (filter m ns))
    by true i e = ap (λ l. f n ++ l) e
    by false i e = ap (λ l. l ++ flat_map f ns) (h n (or-left (n == n) (has n ns) (self-same n)) i) ∙ e

module _ (w : Comparison) (f f' g : ℕ → Option (List ℕ)) where
  pub gathered-agree : (ns : List ℕ) → ((n : ℕ) → has n ns ≡ true → Gives (λ ks. (g n ≡ Some ks) × AllSolid w ks) (f n) (f' n)) →
      Gives (λ ks. (ks ≡ flat_map (λ n. unwrap_or (g n) []) ns) × AllSolid w ks) (gathered f ns) (gathered f' ns)
  gathered-agree [] h = both (refl, λ k i. no i)
  gathered-agree (n ∷ ns) h =
      gives-then (λ ks. gathered f ns >>= λ rest. Some (ks ++ rest)) (λ ks. gathered f' ns >>= λ rest. Some (ks ++ rest)) (h n (or-left (n == n) (has n ns) (self-same n))) (λ ks p.
      gives-then (λ rest. Some (ks ++ rest)) (λ rest. Some (ks ++ rest)) (gathered-agree ns (λ k i. h k (or-right (k == n) (has k ns) i))) (λ rest q.
      both (
        ap (λ l. ks ++ l) q.0 ∙ ap (λ m. unwrap_or m [] ++ flat_map (λ k. unwrap_or (g k) []) ns) (sym p.0),
        λ k i. elim (has-append k ks rest i) [ inl a ↦ p.1 k a | inr b ↦ q.1 k b ],
      )))

-- ---- a whole step

module _ (w : Comparison) (axis : Axis) (test : Test) (ps : List ((m : Meaning) × Placed w m)) (exact : not (is_kind test && meets_texts axis) ≡ true) where
  abbrev pub plain : List Meaning
  plain = map (λ (p : (m : Meaning) × Placed w m). p.0) ps

  -- what a step gives from these nodes over the shape
  abbrev pub taken : List ℕ → List ℕ
  taken ns = in_order w.shape (flat_map (λ n. unwrap_or (from_one axis test plain (over_shape w) n) []) ns)

  abbrev pub Taken : List ℕ → List ℕ → Type 0
  Taken ns ks = (ks ≡ taken ns) × AllSolid w ks

  within-all : (n : ℕ) (ms : List ℕ) → has n ms ≡ true → (m : ℕ) → has m (lists_of axis w.shape n) ≡ true → has m (flat_map (lists_of axis w.shape) ms) ≡ true
  within-all n [] i m j = no i
  within-all n (k ∷ ms) i m j = elim (or-cases (n == k) (has n ms) i) [
    | inl a ↦ has-left m (lists_of axis w.shape k) _ (ap (λ x. has m (lists_of axis w.shape x)) (sym (eqb-true n k a)) ∙ j)
    | inr b ↦ has-right m (lists_of axis w.shape k) _ (within-all n ms b m j)
  ]

  looked : (ns : List ℕ) → Agree w (flat_map (lists_of axis w.shape) ns) → (n : ℕ) → has n ns ≡ true → Agree w (lists_of axis w.shape n)
  looked ns a n h = agree-less w (within-all n ns h) a

  pub step-agree : (ns : List ℕ) → AllSolid w ns → Agree w (flat_map (lists_of axis w.shape) ns) →
      Gives (Taken ns) (option_map (in_order w.setting.all) (gathered (from_one axis test plain w.setting) ns)) (option_map (in_order w.others) (gathered (from_one axis test plain (other w)) ns))
  step-agree ns solid a =
      let all = gathered-agree w (from_one axis test plain w.setting) (from_one axis test plain (other w)) (from_one axis test plain (over_shape w)) ns
      (λ n h. from-agree w axis test ps n exact (solid n h) (looked ns a n h)) in
      by all
    where
      by : {m m' : Option (List ℕ)} → Gives (λ ks. (ks ≡ flat_map (λ n. unwrap_or (from_one axis test plain (over_shape w) n) []) ns) × AllSolid w ks) m m' →
          Gives (Taken ns) (option_map (in_order w.setting.all) m) (option_map (in_order w.others) m')
      by nothing = nothing
      by (both {a = ks} p) = gives-at (ap Some (first-order w ks p.1)) (ap Some (second-order w ks p.1)) (both (ap (in_order w.shape) p.0, order-solid w ks p.1))
