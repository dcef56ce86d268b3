-- The visits of a forest: their numbers differ, and above each node stands its parent, which is no text.
use Rattle.std.proofs.Common.{◌≡◌, ℕ, suc, ◌==◌, Bool, true, false, not, cond, ◌||◌, List, [], ◌∷◌, map, nat_lt, Option, Some, None, option_map, refl, sym, ap, ◌∙◌, arith, subst}
use Rattle.std.specs.Prelude.{filter, ⊤, nat_le}
use Rattle.std.proofs.lemmas.Bool.Decides.{nat_tests}
use Rattle.xf_def_forest.specs.declared.content.Node.{Node}
use Rattle.xf_def_forest.specs.declared.content.Content.{Content}
use Rattle.xf_def_forest.specs.declared.content.Content.TheVariants as content
use Rattle.xf_def_forest.specs.Forest.{Forest, is_text, is_attribute}
use Rattle.xf_def_forest.specs.Visit.{Visit, still_above, numbers, visits_from, visits, has}
use Rattle.xf_def_forest.specs.WellFormed.{HasTrees, reach, are_depths_from}
use Rattle.xf_def_forest.specs.Shape.{erased, without_text}
use Rattle.xf_def_forest.proofs.BackLaws.{and-true, not-true}
use Rattle.xf_def_forest.proofs.OrderLaws.{visits-different}
use Rattle.xf_def_forest.proofs.RenumberLaws.{find-through, filter-through, map-map}
use Rattle.xf_def_xpath.specs.Asked.{has_list, found}
use Rattle.xf_def_xpath.specs.Agree.{numbers_of, are_apart, untexted, AreVisits}
use Rattle.xf_def_xpath.proofs.VisitFacts.{no, some-same, none-some, self-same, found-in, present}
use Rattle.xf_def_xpath.proofs.SameKept.{behind}

-- a fact of each item
abbrev pub Each : {X : Type 0} → (X → Type 0) → List X → Type 0
Each P [] = ⊤
Each P (x ∷ xs) = P x × Each P xs

pub each-map : {X : Type 0} (P Q : X → Type 0) (xs : List X) → ((x : X) → P x → Q x) → Each P xs → Each Q xs
each-map P Q [] h e = tt
each-map P Q (x ∷ xs) h e = (h x e.0, each-map P Q xs h e.1)

pub each-filter : {X : Type 0} (P : X → Type 0) (q : X → Bool) (xs : List X) → Each P xs → Each P (filter q xs)
each-filter P q [] e = tt
each-filter P q (x ∷ xs) e = by (q x) (each-filter P q xs e.1)
  where
    by : (b : Bool) → Each P (filter q xs) → Each P (cond b (x ∷ filter q xs) (filter q xs))
    by true i = (e.0, i)
    by false i = i

-- what holds of each holds of what is found
pub each-found : (P : Visit → Type 0) (k : ℕ) (all : List Visit) (x : Visit) → Each P all → found k all ≡ Some x → P x
each-found P k [] x e h = none-some h
each-found P k (y ∷ ys) x e h = by (y.number == k) h (each-found P k ys x e.1)
  where
    by : (b : Bool) → cond b (Some y) (found k ys) ≡ Some x → (found k ys ≡ Some x → P x) → P x
    by true i below = subst P (some-same i) e.0
    by false i below = below i

-- each is found by its number
pub self-found : (all : List Visit) → are_apart (numbers_of all) ≡ true → Each (λ v. found v.number all ≡ Some v) all
self-found [] h = tt
self-found (y ∷ ys) h =
    let parts = and-true (not (has y.number (numbers_of ys))) (are_apart (numbers_of ys)) h in (
      ap (λ b. cond b (Some y) (found y.number ys)) (self-same y.number),
      each-map (λ v. found v.number ys ≡ Some v) (λ v. found v.number (y ∷ ys) ≡ Some v) ys (λ v e. behind y ys v.number (not-true (has y.number (numbers_of ys)) parts.0) (present v.number ys v e) ∙ e) (self-found ys parts.1),
    )

-- ---- parents

abbrev pub ParentIn : List Visit → Visit → Type 0
ParentIn all v = (n : ℕ) (ns : List ℕ) (z : Visit) → v.above ≡ n ∷ ns → found n all ≡ Some z → has_list z.content ≡ true

pub list-solid : (c : Content) → has_list c ≡ true → not (is_text c) ≡ true
list-solid content.Root h = refl
list-solid (content.Element name) h = refl
list-solid (content.Attribute name text) h = no h
list-solid (content.Text text) h = no h

abbrev pub ClosedIn : List Visit → Visit → Type 0
ClosedIn all v = (n : ℕ) (ns : List ℕ) → v.above ≡ n ∷ ns → option_map (λ z. z.above) (found n all) ≡ Some ns

module _ (all : List Visit) (apart : are_apart (numbers_of all) ≡ true) where
  abbrev entry : Node → List Node → Visit
  entry z zs = record { number = z.number; above = numbers zs; content = z.content }

  -- open nodes, each of which was visited below the rest and has a list
  abbrev AreParents : List Node → Type 0
  AreParents [] = ⊤
  AreParents (z ∷ zs) = (found z.number all ≡ Some (entry z zs)) × (has_list z.content ≡ true) × AreParents zs

  parents-still : (d : ℕ) (zs : List Node) → AreParents zs → AreParents (still_above d zs)
  parents-still d [] h = tt
  parents-still d (z ∷ zs) h = by (nat_lt z.depth d) (parents-still d zs h.2)
    where
      by : (b : Bool) → AreParents (still_above d zs) → AreParents (cond b (z ∷ zs) (still_above d zs))
      by true i = h
      by false i = i

  -- the nodes that stay open before a node of a depth that may follow
  abbrev Ready : List Node → ℕ → Type 0
  Ready stack most = (d : ℕ) → nat_le d most ≡ true → AreParents (still_above d stack)

  too-deep : (d e : ℕ) → nat_le d e ≡ true → nat_lt e d ≡ true → false ≡ true
  too-deep d e h k = grind (arith, nat_tests, h, k)

  -- below attributes and texts nothing stands
  reach-none : (z : Node) → has_list z.content ≡ false → reach z ≡ z.depth
  reach-none z h = by z.content h
    where
      by : (c : Content) → has_list c ≡ false → cond (is_attribute c || is_text c) z.depth (suc z.depth) ≡ z.depth
      by content.Root i = no (sym i)
      by (content.Element name) i = no (sym i)
      by (content.Attribute name text) i = refl
      by (content.Text text) i = refl

  ready-next : (z : Node) (zs : List Node) → found z.number all ≡ Some (entry z zs) → AreParents zs → Ready (z ∷ zs) (reach z)
  ready-next z zs e h d k = by (nat_lt z.depth d) refl (parents-still d zs h)
    where
      solid : (b : Bool) → has_list z.content ≡ b → nat_lt z.depth d ≡ true → b ≡ true
      solid false i j = too-deep d z.depth (sym (ap (nat_le d) (reach-none z i)) ∙ k) j
      solid true i j = refl

      by : (b : Bool) → nat_lt z.depth d ≡ b → AreParents (still_above d zs) → AreParents (cond b (z ∷ zs) (still_above d zs))
      by true j i = (e, solid (has_list z.content) refl j, h)
      by false j i = i

  closed-by : (stay : List Node) → AreParents stay → (n : ℕ) (ns : List ℕ) → numbers stay ≡ n ∷ ns → option_map (λ (z : Visit). z.above) (found n (untexted all)) ≡ Some ns
  closed-by [] h n ns e = cc e
  closed-by (z ∷ zs) h n ns e =
      let first : z.number ≡ n = cc e in
      let rest : numbers zs ≡ ns = cc e in
      ap (λ m. option_map (λ (z : Visit). z.above) (found m (untexted all))) (sym first)
      ∙ ap (option_map (λ (z : Visit). z.above)) (found-in (λ (y : Visit). not (is_text y.content)) z.number all (entry z zs) apart h.0 (list-solid z.content h.1))
      ∙ ap Some rest

  parent-by : (stay : List Node) → AreParents stay → (n : ℕ) (ns : List ℕ) (z : Visit) → numbers stay ≡ n ∷ ns → found n all ≡ Some z → has_list z.content ≡ true
  parent-by [] h n ns z e i = cc e
  parent-by (y ∷ ys) h n ns z e i =
      let first : y.number ≡ n = cc e in
      let same : entry y ys ≡ z = some-same (sym h.0 ∙ ap (λ m. found m all) first ∙ i) in
      ap (λ (v : Visit). has_list v.content) (sym same) ∙ h.1

  parents-from : (stack xs : List Node) (most : ℕ) → Ready stack most → are_depths_from most xs ≡ true → Each (λ v. found v.number all ≡ Some v) (visits_from stack xs) → Each (ParentIn all) (visits_from stack xs)
  parents-from stack [] most r h e = tt
  parents-from stack (x ∷ xs) most r h e =
      let parts = and-true (nat_le x.depth most) (are_depths_from (reach x) xs) h in
      let stay : AreParents (still_above x.depth stack) = r x.depth parts.0 in (
        parent-by (still_above x.depth stack) stay,
        parents-from (x ∷ still_above x.depth stack) xs (reach x) (ready-next x (still_above x.depth stack) e.0 stay) parts.1 e.1,
      )

  closed-from : (stack xs : List Node) (most : ℕ) → Ready stack most → are_depths_from most xs ≡ true → Each (λ v. found v.number all ≡ Some v) (visits_from stack xs) → Each (ClosedIn (untexted all)) (visits_from stack xs)
  closed-from stack [] most r h e = tt
  closed-from stack (x ∷ xs) most r h e =
      let parts = and-true (nat_le x.depth most) (are_depths_from (reach x) xs) h in
      let stay : AreParents (still_above x.depth stack) = r x.depth parts.0 in (
        closed-by (still_above x.depth stack) stay,
        closed-from (x ∷ still_above x.depth stack) xs (reach x) (ready-next x (still_above x.depth stack) e.0 stay) parts.1 e.1,
      )

-- ---- without texts

solid-erased : (y : Visit) → not (is_text (erased y).content) ≡ not (is_text y.content)
solid-erased y = by y.content
  where
    by : (c : Content) → not (is_text (without_text c)) ≡ not (is_text c)
    by content.Root = refl
    by (content.Element name) = refl
    by (content.Attribute name text) = refl
    by (content.Text text) = refl

pub untexted-erased : (all : List Visit) → untexted (map erased all) ≡ map erased (untexted all)
untexted-erased all = filter-through erased (λ y. not (is_text y.content)) (λ y. not (is_text y.content)) solid-erased all

pub found-erased : (n : ℕ) (all : List Visit) → found n (map erased all) ≡ option_map erased (found n all)
found-erased n all = find-through erased (λ x. x.number == n) (λ x. x.number == n) (λ x. refl) all

above-erased : (m : Option Visit) → option_map (λ (z : Visit). z.above) (option_map erased m) ≡ option_map (λ (z : Visit). z.above) m
above-erased None = refl
above-erased (Some z) = refl

pub closed-erased : (all : List Visit) → Each (ClosedIn (untexted all)) all → (k n : ℕ) (ns : List ℕ) (x : Visit) → found k (map erased all) ≡ Some x → x.above ≡ n ∷ ns → option_map (λ (z : Visit). z.above) (found n (untexted (map erased all))) ≡ Some ns
closed-erased all e k n ns x h i = by (found k all) refl (sym (found-erased k all) ∙ h)
  where
    by : (m : Option Visit) → found k all ≡ m → option_map erased m ≡ Some x → option_map (λ (z : Visit). z.above) (found n (untexted (map erased all))) ≡ Some ns
    by None j l = none-some l
    by (Some y) j l =
        ap (λ part. option_map (λ (z : Visit). z.above) (found n part)) (untexted-erased all)
        ∙ ap (option_map (λ (z : Visit). z.above)) (found-erased n (untexted all))
        ∙ above-erased (found n (untexted all))
        ∙ each-found (ClosedIn (untexted all)) k all y e j n ns (ap (λ (z : Visit). z.above) (some-same l) ∙ i)

list-erased : (c : Content) → has_list (without_text c) ≡ has_list c
list-erased content.Root = refl
list-erased (content.Element name) = refl
list-erased (content.Attribute name text) = refl
list-erased (content.Text text) = refl

pub parents-erased : (all : List Visit) → Each (ParentIn all) all → (k n : ℕ) (ns : List ℕ) (x z : Visit) → found k (map erased all) ≡ Some x → x.above ≡ n ∷ ns → found n (map erased all) ≡ Some z → has_list z.content ≡ true
parents-erased all e k n ns x z h i j = by (found k all) (found n all) refl refl (sym (found-erased k all) ∙ h) (sym (found-erased n all) ∙ j)
  where
    by : (m m' : Option Visit) → found k all ≡ m → found n all ≡ m' → option_map erased m ≡ Some x → option_map erased m' ≡ Some z → has_list z.content ≡ true
    by None m' a b l r = none-some l
    by (Some y) None a b l r = none-some r
    by (Some y) (Some v) a b l r =
        ap (λ (q : Visit). has_list q.content) (sym (some-same r)) ∙ list-erased v.content
        ∙ each-found (ParentIn all) k all y e a n ns v (ap (λ (q : Visit). q.above) (some-same l) ∙ i) b

pub forest-visits : (forest : Forest) → HasTrees forest → AreVisits (map erased (visits forest.nodes))
forest-visits forest sound =
    let apart : are_apart (numbers_of (visits forest.nodes)) ≡ true = visits-different forest sound in
    record {
      apart = ap are_apart (map-map (λ (x : Visit). x.number) erased (visits forest.nodes)) ∙ apart;
      closed = closed-erased (visits forest.nodes) (closed-from (visits forest.nodes) apart [] forest.nodes 0 (λ d h. tt) sound.depths (self-found (visits forest.nodes) apart));
      parents = parents-erased (visits forest.nodes) (parents-from (visits forest.nodes) apart [] forest.nodes 0 (λ d h. tt) sound.depths (self-found (visits forest.nodes) apart));
    }
