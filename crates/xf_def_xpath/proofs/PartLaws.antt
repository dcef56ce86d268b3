-- A part of a forest that is made of whole trees, as that of the instances: an expression has one value and one text over the part and over the
-- whole. So trees that are detached make no difference.
use Rattle.std.proofs.Common.{◌≡◌, ℕ, ◌==◌, Bool, true, false, not, cond, List, [], ◌∷◌, ◌++◌, map, Option, Some, None, option_map, refl, sym, ap, ◌∙◌, subst, inl, inr}
use Rattle.std.specs.Prelude.{filter}
use Rattle.std.specs.List.{flat_map}
use Rattle.std.proofs.lemmas.Bool.{eqb-true}
use Rattle.xf_def_forest.specs.Forest.{Forest, is_text, own_text}
use Rattle.xf_def_forest.specs.Visit.{Visit, visits, has, is_first, last_of}
use Rattle.xf_def_forest.specs.StringValue.{string_value, value_in, text_below, characters}
use Rattle.xf_def_forest.specs.Shape.{erased}
use Rattle.xf_def_forest.specs.WellFormed.{HasTrees}
use Rattle.xf_def_forest.proofs.RenumberLaws.{map-map}
use Rattle.xf_def_xpath.specs.Asked.{found}
use Rattle.xf_def_xpath.specs.Agree.{numbers_of, are_apart, untexted, list_of, AreVisits, HaveOneFrame}
use Rattle.xf_def_xpath.proofs.VisitFacts.{no, or-cases, or-left, some-same, none-some, found-number, found-in, present}
use Rattle.xf_def_xpath.proofs.SameKept.{kept-found}
use Rattle.xf_def_xpath.proofs.UntextedLaws.{bare-apart, solid-found, part-order}
use Rattle.xf_def_xpath.proofs.ForestVisits.{Each, each-map, self-found, found-erased, forest-visits}
use Rattle.xf_def_xpath.proofs.ForestsAgree.{bare}

-- in a tree with one of these tops
abbrev pub is_under : List ℕ → Visit → Bool
is_under tops y = has (last_of y.number y.above) tops

-- ---- filters

filter-kept : (q f : Visit → Bool) (ys : List Visit) → Each (λ y. f y ≡ true → q y ≡ true) ys → filter f (filter q ys) ≡ filter f ys
filter-kept q f [] e = refl
filter-kept q f (y ∷ ys) e = by (q y) (f y) refl refl (filter-kept q f ys e.1)
  where
    by : (b c : Bool) → q y ≡ b → f y ≡ c → filter f (filter q ys) ≡ filter f ys → filter f (cond b (y ∷ filter q ys) (filter q ys)) ≡ cond (f y) (y ∷ filter f ys) (filter f ys)
    by true c i j rest = ap (λ l. cond (f y) (y ∷ l) l) rest
    by false false i j rest = rest ∙ sym (ap (λ b. cond b (y ∷ filter f ys) (filter f ys)) j)
    by false true i j rest = no (sym i ∙ e.0 j)

filter-swap : (q f : Visit → Bool) (ys : List Visit) → filter f (filter q ys) ≡ filter q (filter f ys)
filter-swap q f [] = refl
filter-swap q f (y ∷ ys) = by (q y) (f y) refl refl (filter-swap q f ys)
  where
    by : (b c : Bool) → q y ≡ b → f y ≡ c → filter f (filter q ys) ≡ filter q (filter f ys) →
        filter f (cond b (y ∷ filter q ys) (filter q ys)) ≡ filter q (cond c (y ∷ filter f ys) (filter f ys))
    by true true i j rest =
        ap (λ c. cond c (y ∷ filter f (filter q ys)) (filter f (filter q ys))) j ∙ ap (λ l. y ∷ l) rest ∙ sym (ap (λ b. cond b (y ∷ filter q (filter f ys)) (filter q (filter f ys))) i)
    by true false i j rest = ap (λ c. cond c (y ∷ filter f (filter q ys)) (filter f (filter q ys))) j ∙ rest
    by false true i j rest = rest ∙ sym (ap (λ b. cond b (y ∷ filter q (filter f ys)) (filter q (filter f ys))) i)
    by false false i j rest = rest

under-erased : (tops : List ℕ) (ys : List Visit) → map erased (filter (is_under tops) ys) ≡ filter (is_under tops) (map erased ys)
under-erased tops [] = refl
under-erased tops (y ∷ ys) = by (is_under tops y) (under-erased tops ys)
  where
    by : (b : Bool) → map erased (filter (is_under tops) ys) ≡ filter (is_under tops) (map erased ys) →
        map erased (cond b (y ∷ filter (is_under tops) ys) (filter (is_under tops) ys)) ≡ cond b (erased y ∷ filter (is_under tops) (map erased ys)) (filter (is_under tops) (map erased ys))
    by true rest = ap (λ l. erased y ∷ l) rest
    by false rest = rest

texts-kept : (n : ℕ) (q : Visit → Bool) (ys : List Visit) → Each (λ y. has n y.above ≡ true → q y ≡ true) ys → flat_map (text_below n) (filter q ys) ≡ flat_map (text_below n) ys
texts-kept n q [] e = refl
texts-kept n q (y ∷ ys) e = by (q y) (has n y.above) refl refl (texts-kept n q ys e.1)
  where
    by : (b c : Bool) → q y ≡ b → has n y.above ≡ c → flat_map (text_below n) (filter q ys) ≡ flat_map (text_below n) ys →
        flat_map (text_below n) (cond b (y ∷ filter q ys) (filter q ys)) ≡ text_below n y ++ flat_map (text_below n) ys
    by true c i j rest = ap (λ l. text_below n y ++ l) rest
    by false false i j rest = rest ∙ sym (ap (λ b. cond b (characters y.content) [] ++ flat_map (text_below n) ys) j)
    by false true i j rest = no (sym i ∙ e.0 j)

-- ---- whole trees

above-of : (m : Option Visit) (ns : List ℕ) → option_map (λ (z : Visit). z.above) m ≡ Some ns → (z : Visit) × (m ≡ Some z) × (z.above ≡ ns)
above-of None ns h = none-some h
above-of (Some z) ns h = (z, refl, some-same h)

module _ (all : List Visit) (v : AreVisits all) where
  -- a node has the top of each node above it
  one-top : (m : ℕ) (x : Visit) → found m all ≡ Some x → (ns : List ℕ) (k : ℕ) (y : Visit) → found k all ≡ Some y → y.above ≡ ns → has m ns ≡ true → last_of k ns ≡ last_of m x.above
  one-top m x e [] k y i j l = no l
  one-top m x e (n ∷ ns) k y i j l =
      let z = above-of (found n (untexted all)) ns (v.closed k n ns y i j) in
      let at : found n all ≡ Some z.0 = (solid-found all v n z.0 z.1).0 in
      elim (or-cases (m == n) (has m ns) l) [
        | inl a ↦
            let same : m ≡ n = eqb-true m n a in
            let one : x ≡ z.0 = some-same (sym e ∙ ap (λ q. found q all) same ∙ at) in
            sym (ap (last_of n) z.2) ∙ sym (ap (λ (q : Visit). last_of n q.above) one) ∙ ap (λ q. last_of q x.above) (sym same)
        | inr b ↦ one-top m x e ns n z.0 at z.2 b
      ]

  pub under-below : (tops : List ℕ) (m : ℕ) (x : Visit) → found m all ≡ Some x → is_under tops x ≡ true → (k : ℕ) (y : Visit) → found k all ≡ Some y → has m y.above ≡ true → is_under tops y ≡ true
  under-below tops m x e u k y i h =
      let top : last_of y.number y.above ≡ last_of x.number x.above =
      ap (λ q. last_of q y.above) (found-number k all y i) ∙ one-top m x e y.above k y i refl h ∙ ap (λ q. last_of q x.above) (sym (found-number m all x e)) in
      ap (λ t. has t tops) top ∙ u

first-has : (n : ℕ) (ns : List ℕ) → is_first n ns ≡ true → has n ns ≡ true
first-has n [] h = no h
first-has n (m ∷ ms) h = or-left (n == m) (has n ms) h

-- ---- a part of a forest

module _ (tops : List ℕ) (part whole : Forest) (is_part : HasTrees part) (is_whole : HasTrees whole) (same : visits part.nodes ≡ filter (is_under tops) (visits whole.nodes)) where
  part_visits : AreVisits (bare part)
  part_visits = forest-visits part is_part

  whole_visits : AreVisits (bare whole)
  whole_visits = forest-visits whole is_whole

  bare-part : bare part ≡ filter (is_under tops) (bare whole)
  bare-part = ap (map erased) same ∙ under-erased tops (visits whole.nodes)

  untexted-part : untexted (bare part) ≡ filter (is_under tops) (untexted (bare whole))
  untexted-part = ap untexted bare-part ∙ filter-swap (is_under tops) (λ y. not (is_text y.content)) (bare whole)

  in-whole : (n : ℕ) (x : Visit) → found n (bare part) ≡ Some x → (found n (bare whole) ≡ Some x) × (is_under tops x ≡ true)
  in-whole n x e =
      let k = kept-found (is_under tops) n (bare whole) whole_visits.apart (ap (λ l. has n (numbers_of l)) (sym bare-part) ∙ present n (bare part) x e) in
      let one : x ≡ k.0 = some-same (sym e ∙ ap (found n) bare-part ∙ found-in (is_under tops) n (bare whole) k.0 whole_visits.apart k.1 k.2) in
      (k.1 ∙ ap Some (sym one), ap (is_under tops) one ∙ k.2)

  pub solid-in_whole : (n : ℕ) (x : Visit) → found n (untexted (bare part)) ≡ Some x → found n (untexted (bare whole)) ≡ Some x
  solid-in_whole n x e =
      let f = solid-found (bare part) part_visits n x e in
      found-in (λ y. not (is_text y.content)) n (bare whole) x whole_visits.apart (in-whole n x f.0).0 f.1

  pub frame : HaveOneFrame (bare part) (bare whole)
  frame = record {
    order = subst (λ l. filter (λ n. has n (numbers_of (untexted (bare whole)))) (numbers_of l) ≡ filter (λ n. has n (numbers_of l)) (numbers_of (untexted (bare whole)))) (sym untexted-part)
        (sym (part-order (is_under tops) (untexted (bare whole)) (bare-apart (bare whole) whole_visits)));
    contents = λ n x y a b. ap (λ (z : Visit). z.content) (some-same (sym (in-whole n x a).0 ∙ b));
  }

  -- a list in the part is that in the whole
  pub lists : (n : ℕ) (x : Visit) → found n (bare part) ≡ Some x → list_of (bare part) n ≡ list_of (bare whole) n
  lists n x e =
      ap (filter (λ (y : Visit). is_first n y.above)) untexted-part
      ∙ filter-kept (is_under tops) (λ y. is_first n y.above) (untexted (bare whole))
      (each-map (λ y. found y.number (untexted (bare whole)) ≡ Some y) (λ y. is_first n y.above ≡ true → is_under tops y ≡ true) (untexted (bare whole))
      (λ y f i. under-below (bare whole) whole_visits tops n x (in-whole n x e).0 (in-whole n x e).1 y.number y (solid-found (bare whole) whole_visits y.number y f).0 (first-has n y.above i))
      (self-found (untexted (bare whole)) (bare-apart (bare whole) whole_visits)))

  pub apart : are_apart (numbers_of (visits whole.nodes)) ≡ true
  apart = ap are_apart (sym (map-map (λ (q : Visit). q.number) erased (visits whole.nodes))) ∙ whole_visits.apart

  -- so is a string value
  pub strings : (n : ℕ) (x : Visit) → found n (bare part) ≡ Some x → string_value n (visits part.nodes) ≡ string_value n (visits whole.nodes)
  strings n x e = by (found n (visits whole.nodes)) refl
    where
      by : (m : Option Visit) → found n (visits whole.nodes) ≡ m → string_value n (visits part.nodes) ≡ string_value n (visits whole.nodes)
      by None k = none-some (sym (found-erased n (visits whole.nodes) ∙ ap (option_map erased) k) ∙ (in-whole n x e).0)
      by (Some z) k =
          let one : erased z ≡ x = some-same (sym (found-erased n (visits whole.nodes) ∙ ap (option_map erased) k) ∙ (in-whole n x e).0) in
          let under : is_under tops z ≡ true = ap (is_under tops) one ∙ (in-whole n x e).1 in
          ap (string_value n) same
          ∙ ap (value_in (filter (is_under tops) (visits whole.nodes))) (found-in (is_under tops) n (visits whole.nodes) z apart k under)
          ∙ ap (λ t. own_text z.content ++ t) (texts-kept z.number (is_under tops) (visits whole.nodes)
          (each-map (λ y. found y.number (visits whole.nodes) ≡ Some y) (λ y. has z.number y.above ≡ true → is_under tops y ≡ true) (visits whole.nodes)
          (λ y f i. under-below (bare whole) whole_visits tops n x (in-whole n x e).0 (in-whole n x e).1 y.number (erased y)
          (found-erased y.number (visits whole.nodes) ∙ ap (option_map erased) f) (ap (λ m. has m y.above) (sym (found-number n (visits whole.nodes) z k)) ∙ i))
          (self-found (visits whole.nodes) apart)))
          ∙ sym (ap (value_in (visits whole.nodes)) k)
