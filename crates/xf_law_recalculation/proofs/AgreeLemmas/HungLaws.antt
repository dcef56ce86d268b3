-- Where no text is a top, and none stands in a root, each stands in an element: the parent of a deeper one is no root.
use Rattle.std.proofs.Common.{◌≡◌, ℕ, suc, ◌<◌, ◌≤◌, ◌==◌, Bool, true, false, not, cond, ◌&&◌, ◌||◌, List, [], ◌∷◌, map, find, length, Option, Some, None, option_map, nat_lt, refl, sym, ap, ◌∙◌, subst, inl, inr, arith}
use Rattle.std.specs.Prelude.{◌⊎◌, nat_le}
use Rattle.std.proofs.lemmas.Bool.{eqb-true}
use Rattle.std.proofs.lemmas.Bool.Decides.{nat_tests}
use Rattle.xf_def_forest.specs.declared.content.Node.{Node}
use Rattle.xf_def_forest.specs.declared.content.Content.{Content}
use Rattle.xf_def_forest.specs.declared.content.Content.TheVariants as content
use Rattle.xf_def_forest.specs.Forest.{is_root, is_element, is_attribute, is_text, content_at, has_number}
use Rattle.xf_def_forest.specs.Visit.{Visit, numbers, still_above, visit, visits_from, visits}
use Rattle.xf_def_forest.specs.Shape.{erased, without_text}
use Rattle.xf_def_forest.specs.WellFormed.{are_apart, are_depths_from, reach}
use Rattle.xf_def_forest.proofs.BackLaws.{and-true, not-true}
use Rattle.xf_def_xpath.specs.Asked.{found, has_list}
use Rattle.xf_def_xpath.specs.Agree.{untexted}
use Rattle.xf_def_xpath.proofs.VisitFacts.{no, some-same, none-some}
use Rattle.xf_def_xpath.proofs.UntextedLaws.{solid-found}
use Rattle.xf_def_xpath.proofs.ForestVisits.{each-found, found-erased, forest-visits}
use Rattle.xf_def_model.specs.Pertinent.{AllOf}
use Rattle.xf_law_recalculation.specs.Agree.Hung.{hangs, rooted_by, are_hung_from, HungForest}
use Rattle.xf_law_recalculation.proofs.AgreeLemmas.HeldShape.{IsTop, tops-from}

-- ---- contents by number

content-from : (n : ℕ) (above nodes : List Node) (y : Visit) → found n (visits_from above nodes) ≡ Some y → content_at n nodes ≡ Some y.content
content-from n above [] y h = none-some h
content-from n above (z ∷ zs) y h = by (z.number == n) h (λ e. content-from n (z ∷ still_above z.depth above) zs y e)
  where
    by : (b : Bool) → cond b (Some (visit above z)) (found n (visits_from (z ∷ still_above z.depth above) zs)) ≡ Some y →
        (found n (visits_from (z ∷ still_above z.depth above) zs) ≡ Some y → content_at n zs ≡ Some y.content) →
        option_map (λ (x : Node). x.content) (cond b (Some z) (find (λ x. x.number == n) zs)) ≡ Some y.content
    by true i later = ap (λ (q : Visit). Some q.content) (some-same i)
    by false i later = later i

each-later : (z : Node) (zs : List Node) → has_number z.number zs ≡ false → (ys : List Node) → AllOf (λ (y : Node). content_at y.number zs ≡ Some y.content) ys →
    AllOf (λ (y : Node). content_at y.number (z ∷ zs) ≡ Some y.content) ys
each-later z zs off [] h = tt
each-later z zs off (y ∷ ys) h = (by (z.number == y.number) refl, each-later z zs off ys h.1)
  where
    there : (n : ℕ) (xs : List Node) (c : Content) → content_at n xs ≡ Some c → has_number n xs ≡ true
    there n [] c i = none-some i
    there n (x ∷ xs) c i = of (x.number == n) i (there n xs c)
      where
        of : (b : Bool) → option_map (λ (q : Node). q.content) (cond b (Some x) (find (λ q. q.number == n) xs)) ≡ Some c → (content_at n xs ≡ Some c → has_number n xs ≡ true) → (b || has_number n xs) ≡ true
        of true j rest = refl
        of false j rest = rest j

    by : (b : Bool) → (z.number == y.number) ≡ b → content_at y.number (z ∷ zs) ≡ Some y.content
    by true e = no (sym off ∙ ap (λ m. has_number m zs) (eqb-true z.number y.number e) ∙ there y.number zs y.content h.0)
    by false e = ap (λ b. option_map (λ (q : Node). q.content) (cond b (Some z) (find (λ q. q.number == y.number) zs))) e ∙ h.0

self-content : (nodes : List Node) → are_apart nodes ≡ true → AllOf (λ (y : Node). content_at y.number nodes ≡ Some y.content) nodes
self-content [] a = tt
self-content (z ∷ zs) a =
    let parts = and-true (not (has_number z.number zs)) (are_apart zs) a in (
      ap (λ b. option_map (λ (q : Node). q.content) (cond b (Some z) (find (λ q. q.number == z.number) zs))) (same z.number),
      each-later z zs (not-true (has_number z.number zs) parts.0) zs (self-content zs parts.1),
    )
  where
    same : (n : ℕ) → (n == n) ≡ true
    same n = grind (arith, nat_tests)

-- ---- open nodes

module _ (nodes : List Node) where
  abbrev Has : Node → Type 0
  Has z = content_at z.number nodes ≡ Some z.content

  -- one for each depth below that of the first; whether the last one is a root
  abbrev Stacked : Bool → List Node → Type 0
  Stacked r [] = Unit {0}
  Stacked r (z ∷ []) = (z.depth ≡ 0) × (is_root z.content ≡ r) × Has z
  Stacked r (z ∷ y ∷ ys) = (z.depth ≡ suc (length ys)) × Stacked r (y ∷ ys)

  -- how deep the next one may be
  abbrev Reaches : List Node → ℕ → Type 0
  Reaches [] most = most ≡ 0
  Reaches (z ∷ zs) most = most ≤ suc z.depth

  abbrev Still : Bool → ℕ → List Node → Type 0
  Still r d stay = ((d ≡ 0) × (stay ≡ [])) ⊎ ((w : Node) × (ws : List Node) × (stay ≡ w ∷ ws) × Stacked r (w ∷ ws) × (d ≡ suc (length ws)))

  depth-of : (r : Bool) (z : Node) (zs : List Node) → Stacked r (z ∷ zs) → z.depth ≡ length zs
  depth-of r z [] h = h.0
  depth-of r z (y ∷ ys) h = h.0

  still : (r : Bool) (d : ℕ) (above : List Node) → Stacked r above → Reaches above d → Still r d (still_above d above)
  still r d [] h m = inl (m, refl)
  still r d (z ∷ zs) h m = by (nat_lt z.depth d) refl (λ g i. still r d zs g i)
    where
      rest : (ws : List Node) → Stacked r (z ∷ ws) → nat_lt z.depth d ≡ false → (Stacked r ws → Reaches ws d → Still r d (still_above d ws)) → Still r d (still_above d ws)
      rest [] g e later = let at = g.0 in later tt (grind (arith, nat_tests, e, at))
      rest (y ∷ ys) g e later = let at = g.0 in let below = depth-of r y ys g.1 in later g.1 (grind (arith, nat_tests, e, at, below))

      by : (b : Bool) → nat_lt z.depth d ≡ b → (Stacked r zs → Reaches zs d → Still r d (still_above d zs)) → Still r d (cond b (z ∷ zs) (still_above d zs))
      by true e later = let at = depth-of r z zs h in let most = m in inr (z, zs, refl, h, grind (arith, nat_tests, e, at, most))
      by false e later = rest zs h e later

  -- a text has a parent, and where that has none it is no root
  abbrev Hangs : Visit → Type 0
  Hangs v = is_text v.content ≡ true → (q : ℕ) × (ns : List ℕ) × (v.above ≡ q ∷ ns) × (ns ≡ [] → (c : Content) × (content_at q nodes ≡ Some c) × (is_root c ≡ false))

  or-parts : (t : Bool) (d : ℕ) (r : Bool) → (not t || nat_lt 1 d || ((d == 1) && not r)) ≡ true → t ≡ true → (1 < d) ⊎ ((d ≡ 1) × (r ≡ false))
  or-parts true d r h t = by (nat_lt 1 d) refl (d == 1) refl r h
    where
      by : (a : Bool) → nat_lt 1 d ≡ a → (b : Bool) → (d == 1) ≡ b → (c : Bool) → (a || (b && not c)) ≡ true → (1 < d) ⊎ ((d ≡ 1) × (c ≡ false))
      by true e b i c k = inl (grind (arith, nat_tests, e))
      by false e true i false k = inr (eqb-true d 1 i, refl)
      by false e true i true k = no k
      by false e false i c k = no k
  or-parts false d r h t = no t

  hung-at : (r : Bool) (x : Node) (stay : List Node) → Still r x.depth stay → hangs r x ≡ true → is_text x.content ≡ true →
      (q : ℕ) × (ns : List ℕ) × (numbers stay ≡ q ∷ ns) × (ns ≡ [] → (c : Content) × (content_at q nodes ≡ Some c) × (is_root c ≡ false))
  hung-at r x stay (inl s) h t = absurd (off (or-parts (is_text x.content) x.depth r h t))
    where
      off : (1 < x.depth) ⊎ ((x.depth ≡ 1) × (r ≡ false)) → ⊥
      off (inl a) = let none = s.0 in omega (arith, a, none)
      off (inr b) = let one = b.0 in let none = s.0 in omega (arith, one, none)
  hung-at r x stay (inr s) h t = (s.0.number, numbers s.1, ap numbers s.2, λ e. alone s.1 e s.3 s.4 (or-parts (is_text x.content) x.depth r h t))
    where
      alone : (ws : List Node) → numbers ws ≡ [] → Stacked r (s.0 ∷ ws) → x.depth ≡ suc (length ws) → (1 < x.depth) ⊎ ((x.depth ≡ 1) × (r ≡ false)) → (c : Content) × (content_at s.0.number nodes ≡ Some c) × (is_root c ≡ false)
      alone [] e g d (inl a) = absurd (omega (arith, a, d))
      alone [] e g d (inr b) = (s.0.content, g.2, g.1 ∙ b.1)
      alone (w ∷ ws) e g d o = cc e

  reach-below : (x : Node) → reach x ≤ suc x.depth
  reach-below x = by (is_attribute x.content || is_text x.content)
    where
      by : (b : Bool) → cond b x.depth (suc x.depth) ≤ suc x.depth
      by true = omega arith
      by false = omega arith

  pushed : (r : Bool) (x : Node) (stay : List Node) → Still r x.depth stay → Has x → Stacked (rooted_by r x) (x ∷ stay)
  pushed r x stay (inl s) h =
      let top : (x.depth == 0) ≡ true = is-zero s.0 in
      subst (λ ys. Stacked (rooted_by r x) (x ∷ ys)) (sym s.1) (s.0, sym (ap (λ b. cond b (is_root x.content) r) top), h)
    where
      is-zero : x.depth ≡ 0 → (x.depth == 0) ≡ true
      is-zero e = grind (arith, nat_tests, e)
  pushed r x stay (inr s) h =
      let deep : (x.depth == 0) ≡ false = is-more (length s.1) s.4 in
      subst (λ ys. Stacked (rooted_by r x) (x ∷ ys)) (sym s.2) (s.4, subst (λ b. Stacked b (s.0 ∷ s.1)) (sym (ap (λ b. cond b (is_root x.content) r) deep)) s.3)
    where
      is-more : (n : ℕ) → x.depth ≡ suc n → (x.depth == 0) ≡ false
      is-more n e = grind (arith, nat_tests, e)

  each-hangs : (r : Bool) (above : List Node) (most : ℕ) (xs : List Node) → Stacked r above → Reaches above most → are_depths_from most xs ≡ true → are_hung_from r xs ≡ true → AllOf Has xs →
      AllOf Hangs (visits_from above xs)
  each-hangs r above most [] s m d h i = tt
  each-hangs r above most (x ∷ xs) s m d h i =
      let depths = and-true (nat_le x.depth most) (are_depths_from (reach x) xs) d in
      let hung = and-true (hangs r x) (are_hung_from (rooted_by r x) xs) h in
      let stay = still r x.depth above s (less above m depths.0) in (
        (λ t. hung-at r x (still_above x.depth above) stay hung.0 t),
        each-hangs (rooted_by r x) (x ∷ still_above x.depth above) (reach x) xs (pushed r x (still_above x.depth above) stay i.0) (reach-below x) depths.1 hung.1 i.1,
      )
    where
      less : (ys : List Node) → Reaches ys most → nat_le x.depth most ≡ true → Reaches ys x.depth
      less [] e k = grind (arith, nat_tests, e, k)
      less (y ∷ ys) e k = grind (arith, nat_tests, e, k)

pub hung_forest : HungForest
hung_forest forest trees hung k x e t =
    let all = visits forest.nodes in
    let v = forest-visits forest trees in
    let each = each-hangs forest.nodes true [] 0 forest.nodes tt refl trees.depths hung (self-content forest.nodes trees.apart) in
    let h = at-found (Hangs forest.nodes) k all x each e t in
    let z = opened (found h.0 (untexted (map erased all))) h.1 (v.closed k h.0 h.1 (erased x) (found-erased k all ∙ ap (option_map erased) e) h.2) in
    let out = solid-found (map erased all) v h.0 z.0 z.1 in
    let y = given-back (found h.0 all) z.0 (sym (found-erased h.0 all) ∙ out.0) in
    let same : y.0.above ≡ h.1 = ap (λ (q : Visit). q.above) y.2 ∙ z.2 in
    let parent : has_list (without_text y.0.content) ≡ true =
    v.parents k h.0 h.1 (erased x) (erased y.0) (found-erased k all ∙ ap (option_map erased) e) h.2 (found-erased h.0 all ∙ ap (option_map erased) y.1) in (
      h.0,
      y.0,
      y.1,
      element y.0.content parent (λ r.
          let top : y.0.above ≡ [] = each-found IsTop h.0 all y.0 (tops-from [] forest.nodes trees.tops) y.1 r in
          let c = h.3 (sym same ∙ top) in
          sym c.2 ∙ ap is_root (some-same (sym c.1 ∙ content-from h.0 [] forest.nodes y.0 y.1)) ∙ r),
      h.2 ∙ ap (λ ns. h.0 ∷ ns) (sym same),
    )
  where
    at-found : (P : Visit → Type 0) (n : ℕ) (ys : List Visit) (y : Visit) → AllOf P ys → found n ys ≡ Some y → P y
    at-found P n [] y i j = none-some j
    at-found P n (z ∷ zs) y i j = of (z.number == n) j (at-found P n zs y i.1)
      where
        of : (b : Bool) → cond b (Some z) (found n zs) ≡ Some y → (found n zs ≡ Some y → P y) → P y
        of true l rest = subst P (some-same l) i.0
        of false l rest = rest l

    opened : (o : Option Visit) (ns : List ℕ) → option_map (λ (z : Visit). z.above) o ≡ Some ns → (z : Visit) × (o ≡ Some z) × (z.above ≡ ns)
    opened None ns i = none-some i
    opened (Some z) ns i = (z, refl, some-same i)

    given-back : (o : Option Visit) (y : Visit) → option_map erased o ≡ Some y → (z : Visit) × (o ≡ Some z) × (erased z ≡ y)
    given-back None y i = none-some i
    given-back (Some z) y i = (z, refl, some-same i)

    element : (c : Content) → has_list (without_text c) ≡ true → (is_root c ≡ true → false ≡ true) → is_element c ≡ true
    element content.Root i r = r refl
    element (content.Element name) i r = refl
    element (content.Attribute name text) i r = no i
    element (content.Text text) i r = no i
