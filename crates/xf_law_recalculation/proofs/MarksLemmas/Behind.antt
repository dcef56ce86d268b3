-- Two lists of visits, with others behind them: where what stands behind has nothing in common with the other list, what holds of the nodes in
-- front holds of all.
use Rattle.std.proofs.Common.{◌≡◌, ℕ, ◌==◌, Bool, true, false, not, cond, ◌&&◌, ◌||◌, List, [], ◌∷◌, ◌++◌, map, Option, Some, None, option_map, refl, sym, ap, ◌∙◌, inl, inr}
use Rattle.std.specs.Prelude.{filter, is_some, ◌⊎◌}
use Rattle.std.proofs.lemmas.Bool.{eqb-true}
use Rattle.std.proofs.lemmas.List.{map-append}
use Rattle.xf_def_forest.specs.Forest.{is_text}
use Rattle.xf_def_forest.specs.Visit.{Visit, has, is_first}
use Rattle.xf_def_forest.specs.Shape.{erased}
use Rattle.xf_def_forest.specs.Same.{renumbered_visit}
use Rattle.xf_def_forest.proofs.BackLaws.{and-true, or-false, not-true}
use Rattle.xf_def_forest.proofs.RenumberLaws.{map-map}
use Rattle.xf_def_xpath.specs.Asked.{found}
use Rattle.xf_def_xpath.specs.Agree.{numbers_of, are_apart}
use Rattle.xf_def_xpath.proofs.VisitFacts.{self-same, or-cases, or-left, or-right, no, none-some, has-found, present, found-in, found-out}
use Rattle.xf_def_xpath.proofs.ForestVisits.{Each, each-map, each-found, self-found, found-erased}
use Rattle.xf_law_recalculation.specs.Marks.Marks.{is_unmarked, IsInBoth, without_marked, SameNodes}
use Rattle.xf_law_recalculation.proofs.MarksLemmas.TextLists.{standing-at}

-- ---- lists

pub append-none : {X : Type 0} (xs : List X) → xs ++ [] ≡ xs
append-none [] = refl
append-none (x ∷ xs) = ap (λ l. x ∷ l) (append-none xs)

pub each-unmap : (h : Visit → Visit) (Q : Visit → Type 0) (xs : List Visit) → Each Q (map h xs) → Each (λ x. Q (h x)) xs
each-unmap h Q [] e = tt
each-unmap h Q (x ∷ xs) e = (e.0, each-unmap h Q xs e.1)

pub each-both : (Q R T : Visit → Type 0) (xs : List Visit) → ((x : Visit) → Q x → R x → T x) → Each Q xs → Each R xs → Each T xs
each-both Q R T [] h e i = tt
each-both Q R T (x ∷ xs) h e i = (h x e.0 i.0, each-both Q R T xs h e.1 i.1)

pub each-has : (xs : List Visit) → Each (λ y. has y.number (numbers_of xs) ≡ true) xs
each-has [] = tt
each-has (x ∷ xs) = (
  or-left (x.number == x.number) (has x.number (numbers_of xs)) (self-same x.number),
  each-map (λ y. has y.number (numbers_of xs) ≡ true) (λ y. has y.number (numbers_of (x ∷ xs)) ≡ true) xs (λ y h. or-right (y.number == x.number) (has y.number (numbers_of xs)) h) (each-has xs),
)

pub numbers-append : (xs ys : List Visit) → numbers_of (xs ++ ys) ≡ numbers_of xs ++ numbers_of ys
numbers-append xs ys = map-append (λ (y : Visit). y.number) xs ys

pub has-append : (n : ℕ) (ns ms : List ℕ) → has n (ns ++ ms) ≡ (has n ns || has n ms)
has-append n [] ms = refl
has-append n (m ∷ ns) ms = ap (λ b. (n == m) || b) (has-append n ns ms) ∙ by (n == m)
  where
    by : (b : Bool) → (b || (has n ns || has n ms)) ≡ ((b || has n ns) || has n ms)
    by true = refl
    by false = refl

pub has-both : (n : ℕ) (xs ys : List Visit) → has n (numbers_of (xs ++ ys)) ≡ (has n (numbers_of xs) || has n (numbers_of ys))
has-both n xs ys = ap (has n) (numbers-append xs ys) ∙ has-append n (numbers_of xs) (numbers_of ys)

pub front-apart : (xs ys : List Visit) → are_apart (numbers_of (xs ++ ys)) ≡ true → (n : ℕ) → has n (numbers_of xs) ≡ true → has n (numbers_of ys) ≡ false
front-apart [] ys h n i = no i
front-apart (x ∷ xs) ys h n i =
    let parts = and-true (not (has x.number (numbers_of (xs ++ ys)))) (are_apart (numbers_of (xs ++ ys))) h in
    elim (or-cases (n == x.number) (has n (numbers_of xs)) i) [
      | inl a ↦ ap (λ m. has m (numbers_of ys)) (eqb-true n x.number a) ∙ (or-false (has x.number (numbers_of xs)) (has x.number (numbers_of ys)) (sym (has-both x.number xs ys) ∙ not-true _ parts.0)).1
      | inr b ↦ front-apart xs ys parts.1 n b
    ]

and-both : (a b : Bool) → a ≡ true → b ≡ true → (a && b) ≡ true
and-both true b h i = i
and-both false b h i = h

pub front-numbers : (xs ys : List Visit) → are_apart (numbers_of (xs ++ ys)) ≡ true → are_apart (numbers_of xs) ≡ true
front-numbers [] ys h = refl
front-numbers (x ∷ xs) ys h =
    let parts = and-true (not (has x.number (numbers_of (xs ++ ys)))) (are_apart (numbers_of (xs ++ ys))) h in
    and-both (not (has x.number (numbers_of xs))) (are_apart (numbers_of xs))
    (ap not (or-false (has x.number (numbers_of xs)) (has x.number (numbers_of ys)) (sym (has-both x.number xs ys) ∙ not-true _ parts.0)).0) (front-numbers xs ys parts.1)

pub differ : (m n : ℕ) (ns : List ℕ) → has m ns ≡ false → has n ns ≡ true → (m == n) ≡ false
differ m n ns h i = by (m == n) refl
  where
    by : (b : Bool) → (m == n) ≡ b → b ≡ false
    by true e = sym i ∙ ap (λ k. has k ns) (sym (eqb-true m n e)) ∙ h
    by false e = refl

pub filter-no : {X : Type 0} (p : X → Bool) (q : X → Type 0) (xs : List X) → ((x : X) → q x → p x ≡ false) → Each q xs → filter p xs ≡ []
filter-no p q [] h e = refl
filter-no p q (x ∷ xs) h e = ap (λ b. cond b (x ∷ filter p xs) (filter p xs)) (h x e.0) ∙ filter-no p q xs h e.1

pub none-of : (p : ℕ → Bool) (ns : List ℕ) → ((k : ℕ) → has k ns ≡ true → p k ≡ false) → filter p ns ≡ []
none-of p [] h = refl
none-of p (n ∷ ns) h = ap (λ b. cond b (n ∷ filter p ns) (filter p ns)) (h n (or-left (n == n) (has n ns) (self-same n))) ∙ none-of p ns (λ k i. h k (or-right (k == n) (has k ns) i))

pub same-of : (p q : ℕ → Bool) (ns : List ℕ) → ((k : ℕ) → has k ns ≡ true → p k ≡ q k) → filter p ns ≡ filter q ns
same-of p q [] h = refl
same-of p q (n ∷ ns) h =
    ap (λ b. cond b (n ∷ filter p ns) (filter p ns)) (h n (or-left (n == n) (has n ns) (self-same n)))
    ∙ ap (λ l. cond (q n) (n ∷ l) l) (same-of p q ns (λ k i. h k (or-right (k == n) (has k ns) i)))

map-in : (f g : ℕ → ℕ) (ns : List ℕ) → ((k : ℕ) → has k ns ≡ true → g k ≡ f k) → map g ns ≡ map f ns
map-in f g [] h = refl
map-in f g (n ∷ ns) h = ap (λ m. m ∷ map g ns) (h n (or-left (n == n) (has n ns) (self-same n))) ∙ ap (λ l. f n ∷ l) (map-in f g ns (λ k i. h k (or-right (k == n) (has k ns) i)))

has-map : (f : ℕ → ℕ) (k : ℕ) (ns : List ℕ) → has k ns ≡ true → has (f k) (map f ns) ≡ true
has-map f k [] h = no h
has-map f k (n ∷ ns) h = elim (or-cases (k == n) (has k ns) h) [
  | inl a ↦ or-left (f k == f n) (has (f k) (map f ns)) (ap (λ m. f k == f m) (sym (eqb-true k n a)) ∙ self-same (f k))
  | inr b ↦ or-right (f k == f n) (has (f k) (map f ns)) (has-map f k ns b)
]

-- the one of which the number comes first in a list that was made so
pub first-made : (g : ℕ → ℕ) (n : ℕ) (ns : List ℕ) → is_first n (map g ns) ≡ true → (p : ℕ) × (ps : List ℕ) × (ns ≡ p ∷ ps) × (n ≡ g p)
first-made g n [] h = no h
first-made g n (p ∷ ps) h = (p, ps, refl, eqb-true n (g p) h)

abbrev pub or_later : Option Visit → Option Visit → Option Visit
or_later None later = later
or_later (Some x) later = Some x

pub found-append : (n : ℕ) (xs ys : List Visit) → found n (xs ++ ys) ≡ or_later (found n xs) (found n ys)
found-append n [] ys = refl
found-append n (x ∷ xs) ys = by (x.number == n) (found-append n xs ys)
  where
    by : (b : Bool) → found n (xs ++ ys) ≡ or_later (found n xs) (found n ys) → cond b (Some x) (found n (xs ++ ys)) ≡ or_later (cond b (Some x) (found n xs)) (found n ys)
    by true h = refl
    by false h = h

or-none : (m : Option Visit) → or_later m None ≡ m
or-none None = refl
or-none (Some x) = refl

pub numbers-erased : (xs : List Visit) → numbers_of (map erased xs) ≡ numbers_of xs
numbers-erased xs = map-map (λ (y : Visit). y.number) erased xs

pub erased-apart : (xs : List Visit) → are_apart (numbers_of xs) ≡ true → are_apart (numbers_of (map erased xs)) ≡ true
erased-apart xs h = ap are_apart (numbers-erased xs) ∙ h

-- ---- the lists of now and of before, with what stands behind

pub record Behind : Type 0 where
  pub f : ℕ → ℕ
  pub g : ℕ → ℕ
  pub texts : List ℕ
  pub lists : List ℕ
  pub now : List Visit
  pub past_now : List Visit
  pub before : List Visit
  pub past_before : List Visit
  pub apart : are_apart (numbers_of (now ++ past_now)) ≡ true
  pub apart_too : are_apart (numbers_of (map (renumbered_visit g) (before ++ past_before))) ≡ true
  pub apart_front : are_apart (numbers_of (map (renumbered_visit f) before)) ≡ true
  pub within : Each (λ y. (p : ℕ) → has p y.above ≡ true → has p (numbers_of now) ≡ true) now
  pub beside : Each (λ y. (p : ℕ) → has p y.above ≡ true → has p (numbers_of now) ≡ false) past_now
  pub within_too : Each (λ y. (p : ℕ) → has p y.above ≡ true → has p (numbers_of before) ≡ true) before
  pub beside_too : Each (λ y. (p : ℕ) → has p y.above ≡ true → has p (numbers_of past_before) ≡ true) past_before
  -- the numbers of before that are those of nodes in front are kept, and no others come to stand now
  pub kept : (n : ℕ) → has n (numbers_of before) ≡ true → has (f n) (numbers_of now) ≡ true → g n ≡ f n
  pub gone : (n : ℕ) → has n (numbers_of before) ≡ true → has (f n) (numbers_of now) ≡ false → has (g n) (numbers_of (now ++ past_now)) ≡ false
  pub away : (n : ℕ) → has n (numbers_of past_before) ≡ true → has (g n) (numbers_of (now ++ past_now)) ≡ false
  pub nodes : SameNodes texts lists now (map (renumbered_visit f) before)

module _ (b : Behind) where
  abbrev known : ℕ → Bool
  known = is_unmarked b.texts

  abbrev rf : Visit → Visit
  rf = renumbered_visit b.f

  abbrev rg : Visit → Visit
  rg = renumbered_visit b.g

  abbrev F : List Visit
  F = map rf b.before

  abbrev all_now : List Visit
  all_now = b.now ++ b.past_now

  abbrev all_before : List Visit
  all_before = map rg (b.before ++ b.past_before)

  abbrev wm : List Visit → List Visit
  wm xs = without_marked b.texts xs

  pub in-all : (n : ℕ) → has n (numbers_of b.now) ≡ true → has n (numbers_of all_now) ≡ true
  in-all n h = has-both n b.now b.past_now ∙ or-left (has n (numbers_of b.now)) (has n (numbers_of b.past_now)) h

  pub past-all : (n : ℕ) → has n (numbers_of b.past_now) ≡ true → has n (numbers_of all_now) ≡ true
  past-all n h = has-both n b.now b.past_now ∙ or-right (has n (numbers_of b.now)) (has n (numbers_of b.past_now)) h

  -- a node of before is in front of now, and the same with either number, or stands nowhere now
  abbrev pub Good : Visit → Type 0
  Good y = ((has (b.f y.number) (numbers_of b.now) ≡ true) × (rg y ≡ rf y)) ⊎ ((has (b.f y.number) (numbers_of b.now) ≡ false) × (has (b.g y.number) (numbers_of all_now) ≡ false))

  pub found-front : Each (λ y. found (b.f y.number) F ≡ Some (rf y)) b.before
  found-front = each-unmap rf (λ v. found v.number F ≡ Some v) b.before (self-found F b.apart_front)

  good-at : (y : Visit) → found (b.f y.number) F ≡ Some (rf y) → ((p : ℕ) → has p y.above ≡ true → has p (numbers_of b.before) ≡ true) → has y.number (numbers_of b.before) ≡ true → Good y
  good-at y e w h = by (has (b.f y.number) (numbers_of b.now)) refl
    where
      same : has (b.f y.number) (numbers_of b.now) ≡ true → rg y ≡ rf y
      same i =
          let x = standing-at (b.f y.number) b.now i in
          let one : erased x.0 ≡ erased (rf y) =
          b.nodes.stay (b.f y.number) (erased x.0) (erased (rf y)) (found-erased (b.f y.number) b.now ∙ ap (option_map erased) x.1) (found-erased (b.f y.number) F ∙ ap (option_map erased) e) in
          let up : (p : ℕ) → has p y.above ≡ true → b.g p ≡ b.f p =
          λ p j. b.kept p (w p j) (each-found (λ v. (q : ℕ) → has q v.above ≡ true → has q (numbers_of b.now) ≡ true) (b.f y.number) b.now x.0 b.within x.1 (b.f p)
          (ap (λ (v : Visit). has (b.f p) v.above) one ∙ has-map b.f p y.above j)) in
          ap (λ n. record { number = n; above = map b.g y.above; content = y.content }) (b.kept y.number h i)
          ∙ ap (λ l. record { number = b.f y.number; above = l; content = y.content }) (map-in b.f b.g y.above up)

      by : (c : Bool) → has (b.f y.number) (numbers_of b.now) ≡ c → Good y
      by true i = inl (i, same i)
      by false i = inr (i, b.gone y.number h i)

  pub good : Each Good b.before
  good = each-both (λ y. found (b.f y.number) F ≡ Some (rf y)) (λ y. ((p : ℕ) → has p y.above ≡ true → has p (numbers_of b.before) ≡ true) × (has y.number (numbers_of b.before) ≡ true)) Good b.before
      (λ y e i. good-at y e i.0 i.1) found-front
      (each-both (λ y. (p : ℕ) → has p y.above ≡ true → has p (numbers_of b.before) ≡ true) (λ y. has y.number (numbers_of b.before) ≡ true)
      (λ y. ((p : ℕ) → has p y.above ≡ true → has p (numbers_of b.before) ≡ true) × (has y.number (numbers_of b.before) ≡ true)) b.before (λ y i j. (i, j)) b.within_too (each-has b.before))

  pub away-each : Each (λ y. has (b.g y.number) (numbers_of all_now) ≡ false) b.past_before
  away-each = each-map (λ y. has y.number (numbers_of b.past_before) ≡ true) (λ y. has (b.g y.number) (numbers_of all_now) ≡ false) b.past_before (λ y h. b.away y.number h) (each-has b.past_before)

  -- ---- what is found

  found-none : (n : ℕ) → (ys : List Visit) → Each (λ y. (b.g y.number == n) ≡ false) ys → found n (map rg ys) ≡ None
  found-none n [] e = refl
  found-none n (y ∷ ys) e = ap (λ c. cond c (Some (rg y)) (found n (map rg ys))) e.0 ∙ found-none n ys e.1

  found-same : (n : ℕ) → has n (numbers_of b.now) ≡ true → (ys : List Visit) → Each Good ys → found n (map rg ys) ≡ found n (map rf ys)
  found-same n h [] e = refl
  found-same n h (y ∷ ys) e = elim e.0 [
    | inl i ↦ ap (λ (v : Visit). cond (v.number == n) (Some v) (found n (map rg ys))) i.1 ∙ ap (λ m. cond (b.f y.number == n) (Some (rf y)) m) (found-same n h ys e.1)
    | inr j ↦
        ap (λ c. cond c (Some (rg y)) (found n (map rg ys))) (differ (b.g y.number) n (numbers_of all_now) j.1 (in-all n h))
        ∙ found-same n h ys e.1
        ∙ sym (ap (λ c. cond c (Some (rf y)) (found n (map rf ys))) (differ (b.f y.number) n (numbers_of b.now) j.0 h))
  ]

  found-split : (n : ℕ) → found n all_before ≡ or_later (found n (map rg b.before)) (found n (map rg b.past_before))
  found-split n = ap (found n) (map-append rg b.before b.past_before) ∙ found-append n (map rg b.before) (map rg b.past_before)

  past-none : (n : ℕ) → has n (numbers_of all_now) ≡ true → found n (map rg b.past_before) ≡ None
  past-none n h = found-none n b.past_before (each-map (λ y. has (b.g y.number) (numbers_of all_now) ≡ false) (λ y. (b.g y.number == n) ≡ false) b.past_before (λ y i. differ (b.g y.number) n (numbers_of all_now) i h) away-each)

  pub found-before : (n : ℕ) → has n (numbers_of b.now) ≡ true → found n all_before ≡ found n F
  found-before n h = found-split n ∙ ap (or_later (found n (map rg b.before))) (past-none n (in-all n h)) ∙ or-none (found n (map rg b.before)) ∙ found-same n h b.before good

  -- what stands behind now stands nowhere before
  pub found-nowhere : (n : ℕ) → has n (numbers_of b.past_now) ≡ true → found n all_before ≡ None
  found-nowhere n h = found-split n ∙ ap (or_later (found n (map rg b.before))) (past-none n (past-all n h)) ∙ or-none (found n (map rg b.before)) ∙ found-none n b.before (each-map Good (λ y. (b.g y.number == n) ≡ false) b.before other good)
    where
      not-front : (m : ℕ) → has m (numbers_of b.now) ≡ true → (m == n) ≡ false
      not-front m i = by (m == n) refl
        where
          by : (c : Bool) → (m == n) ≡ c → c ≡ false
          by true e = sym h ∙ ap (λ k. has k (numbers_of b.past_now)) (sym (eqb-true m n e)) ∙ front-apart b.now b.past_now b.apart m i
          by false e = refl

      other : (y : Visit) → Good y → (b.g y.number == n) ≡ false
      other y (inl i) = ap (λ (v : Visit). v.number == n) i.1 ∙ not-front (b.f y.number) i.0
      other y (inr j) = differ (b.g y.number) n (numbers_of all_now) j.1 (past-all n h)

  pub found-now : (n : ℕ) → has n (numbers_of b.now) ≡ true → found n all_now ≡ found n b.now
  found-now n h = found-append n b.now b.past_now ∙ by (found n b.now) (sym (has-found n b.now) ∙ h)
    where
      by : (m : Option Visit) → is_some m ≡ true → or_later m (found n b.past_now) ≡ m
      by None i = no i
      by (Some x) i = refl

  -- a number of both stands in front
  in-front : (n : ℕ) (y : Visit) → has n (numbers_of all_now) ≡ true → found n all_before ≡ Some y → has n (numbers_of b.now) ≡ true
  in-front n y h e = elim (or-cases (has n (numbers_of b.now)) (has n (numbers_of b.past_now)) (sym (has-both n b.now b.past_now) ∙ h)) [
    | inl i ↦ i
    | inr j ↦ none-some (sym (found-nowhere n j) ∙ e)
  ]

  pub erased-now : (n : ℕ) → has n (numbers_of b.now) ≡ true → found n (map erased all_now) ≡ found n (map erased b.now)
  erased-now n h = found-erased n all_now ∙ ap (option_map erased) (found-now n h) ∙ sym (found-erased n b.now)

  pub erased-before : (n : ℕ) → has n (numbers_of b.now) ≡ true → found n (map erased all_before) ≡ found n (map erased F)
  erased-before n h = found-erased n all_before ∙ ap (option_map erased) (found-before n h) ∙ sym (found-erased n F)

  both-front : (n : ℕ) (x y : Visit) → found n (map erased all_now) ≡ Some x → found n (map erased all_before) ≡ Some y → has n (numbers_of b.now) ≡ true
  both-front n x y e i = by (found n all_before) refl (sym (found-erased n all_before) ∙ i)
    where
      by : (m : Option Visit) → found n all_before ≡ m → option_map erased m ≡ Some y → has n (numbers_of b.now) ≡ true
      by None j k = none-some k
      by (Some z) j k = in-front n z (ap (has n) (sym (numbers-erased all_now)) ∙ present n (map erased all_now) x e) j

  pub stay : (n : ℕ) (x y : Visit) → found n (map erased all_now) ≡ Some x → found n (map erased all_before) ≡ Some y → x ≡ y
  stay n x y e i = let h = both-front n x y e i in b.nodes.stay n x y (sym (erased-now n h) ∙ e) (sym (erased-before n h) ∙ i)

  pub in_both : (n : ℕ) → IsInBoth all_now all_before n → (has n (numbers_of b.now) ≡ true) × IsInBoth b.now F n
  in_both n h =
      let one = found-out (λ y. not (is_text y.content)) n (map erased all_now) h.0 (erased-apart all_now b.apart) h.1 in
      let two = found-out (λ y. not (is_text y.content)) n (map erased all_before) h.0 (erased-apart all_before b.apart_too) h.2 in
      let i = both-front n h.0 h.0 one.0 two.0 in (
        i,
        (
          h.0,
          found-in (λ y. not (is_text y.content)) n (map erased b.now) h.0 front-now (sym (erased-now n i) ∙ one.0) one.1,
          found-in (λ y. not (is_text y.content)) n (map erased F) h.0 (erased-apart F b.apart_front) (sym (erased-before n i) ∙ two.0) two.1,
        ),
      )
    where
      front-now : are_apart (numbers_of (map erased b.now)) ≡ true
      front-now = erased-apart b.now (front-numbers b.now b.past_now b.apart)
