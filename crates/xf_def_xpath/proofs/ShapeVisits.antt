-- The visits of a shape: without texts they are those of the forest, and their numbers differ where the forest's are below those of texts.
use Rattle.std.proofs.Common.{◌≡◌, ℕ, ◌==◌, ◌^◌, Bool, true, false, not, cond, ◌&&◌, List, [], ◌∷◌, ◌++◌, map, nat_lt, Option, Some, None, option_map, refl, sym, ap, ◌∙◌, arith, subst, inl, inr}
use Rattle.std.specs.Prelude.{filter, ⊤, ◌⊎◌}
use Rattle.std.proofs.lemmas.Bool.{eqb-true}
use Rattle.std.proofs.lemmas.Bool.Decides.{nat_tests}
use Rattle.xf_def_forest.specs.declared.content.Content.{Content}
use Rattle.xf_def_forest.specs.declared.content.Content.TheVariants as content
use Rattle.xf_def_forest.specs.Forest.{Forest, is_text, is_element}
use Rattle.xf_def_forest.specs.Visit.{Visit, visits, has}
use Rattle.xf_def_forest.specs.WellFormed.{HasTrees}
use Rattle.xf_def_forest.specs.Shape.{Texts, text_number, text_visit, given_visits, visits_in, is_borne, is_replaced, is_gone, filled, retexted, has_elements, only_text, erased, without_text, shape, shape_of}
use Rattle.xf_def_forest.proofs.BackLaws.{and-true, or-false, not-true}
use Rattle.xf_def_forest.proofs.OrderLaws.{Sub, filter-sub, map-sub, sub-different}
use Rattle.xf_def_forest.proofs.RenumberLaws.{map-map}
use Rattle.xf_def_xpath.specs.Asked.{has_list, found}
use Rattle.xf_def_xpath.specs.Agree.{numbers_of, are_apart, untexted, AreVisits}
use Rattle.xf_def_xpath.proofs.VisitFacts.{no, some-same, none-some, self-same, or-cases, or-left, or-right, filter-append, filter-within, found-in, found-out}
use Rattle.xf_def_xpath.proofs.SameKept.{has-append}
use Rattle.xf_def_xpath.proofs.AxisAgree.{has-sub}
use Rattle.xf_def_xpath.proofs.ForestVisits.{Each, each-map, each-filter, each-found, self-found, ClosedIn, untexted-erased, found-erased, forest-visits}

-- ---- without texts

-- texts that wait are put in, and no other node is changed
filled-untexted : (g : Visit → List Visit) → ((x : Visit) → untexted (g x) ≡ []) → (ws ys : List Visit) → untexted ws ≡ [] → untexted (filled g ws ys) ≡ untexted ys
filled-untexted g h ws [] e = e
filled-untexted g h ws (y ∷ ys) e = by (is_borne y) (filled-untexted g h ws ys e) (filled-untexted g h (g y) ys (h y))
  where
    by : (b : Bool) → untexted (filled g ws ys) ≡ untexted ys → untexted (filled g (g y) ys) ≡ untexted ys → untexted (cond b (y ∷ filled g ws ys) (ws ++ y ∷ filled g (g y) ys)) ≡ untexted (y ∷ ys)
    by true i j = ap (λ l. cond (not (is_text y.content)) (y ∷ l) l) i
    by false i j =
        filter-append (λ z. not (is_text z.content)) ws (y ∷ filled g (g y) ys)
        ∙ ap (λ l. l ++ untexted (y ∷ filled g (g y) ys)) e
        ∙ ap (λ l. cond (not (is_text y.content)) (y ∷ l) l) j

given-untexted : (x : Visit) (m : Option (List (List ℕ))) → untexted (given_visits x m) ≡ []
given-untexted x None = refl
given-untexted x (Some []) = refl
given-untexted x (Some (text ∷ texts)) = given-untexted x (Some texts)

in-untexted : (texts : Texts) (x : Visit) → untexted (visits_in texts x) ≡ []
in-untexted texts x = by (is_element x.content)
  where
    by : (b : Bool) → untexted (cond b (given_visits x (texts x.number)) []) ≡ []
    by true = given-untexted x (texts x.number)
    by false = refl

stays-solid : (texts : Texts) (x : Visit) → not (is_text x.content) ≡ true → not (is_gone texts x) ≡ true
stays-solid texts x h = by (is_text x.content) h
  where
    by : (b : Bool) → not b ≡ true → not (b && is_replaced texts x.above) ≡ true
    by true i = no i
    by false i = refl

swap : {X : Type 0} (p q : X → Bool) (xs : List X) → filter p (filter q xs) ≡ filter q (filter p xs)
swap p q [] = refl
swap p q (x ∷ xs) = by (p x) (q x) refl refl (swap p q xs)
  where
    by : (a b : Bool) → p x ≡ a → q x ≡ b → filter p (filter q xs) ≡ filter q (filter p xs) → filter p (cond b (x ∷ filter q xs) (filter q xs)) ≡ filter q (cond a (x ∷ filter p xs) (filter p xs))
    by true true e i h = ap (λ b. cond b (x ∷ filter p (filter q xs)) (filter p (filter q xs))) e ∙ ap (λ l. x ∷ l) h ∙ sym (ap (λ b. cond b (x ∷ filter q (filter p xs)) (filter q (filter p xs))) i)
    by true false e i h = h ∙ sym (ap (λ b. cond b (x ∷ filter q (filter p xs)) (filter q (filter p xs))) i)
    by false true e i h = ap (λ b. cond b (x ∷ filter p (filter q xs)) (filter p (filter q xs))) e ∙ h
    by false false e i h = h

pub retexted-untexted : (texts : Texts) (all : List Visit) → untexted (retexted texts all) ≡ untexted all
retexted-untexted texts all =
    filled-untexted (visits_in texts) (in-untexted texts) [] (filter (λ x. not (is_gone texts x)) all) refl
    ∙ swap (λ z. not (is_text z.content)) (λ x. not (is_gone texts x)) all
    ∙ within
  where
    within : filter (λ x. not (is_gone texts x)) (untexted all) ≡ untexted all
    within = sym (swap (λ z. not (is_text z.content)) (λ x. not (is_gone texts x)) all) ∙ filter-within (λ z. not (is_text z.content)) (λ x. not (is_gone texts x)) (stays-solid texts) all

erased-twice : (x : Visit) → erased (erased x) ≡ erased x
erased-twice x = ap (λ c. record { number = x.number; above = x.above; content = c }) (by x.content)
  where
    by : (c : Content) → without_text (without_text c) ≡ without_text c
    by content.Root = refl
    by (content.Element name) = refl
    by (content.Attribute name text) = refl
    by (content.Text text) = refl

map-same : {X Y : Type 0} (f g : X → Y) → ((x : X) → f x ≡ g x) → (xs : List X) → map f xs ≡ map g xs
map-same f g h [] = refl
map-same f g h (x ∷ xs) = ap (λ y. y ∷ map f xs) (h x) ∙ ap (λ l. g x ∷ l) (map-same f g h xs)

-- the shape has the nodes of the forest, texts apart
pub shape-untexted : (all : List Visit) → untexted (map erased (shape all)) ≡ untexted (map erased all)
shape-untexted all =
    untexted-erased (shape all)
    ∙ ap (map erased) (retexted-untexted (only_text all) (map erased all))
    ∙ sym (untexted-erased (map erased all))
    ∙ ap untexted (map-map erased erased all ∙ map-same (λ x. erased (erased x)) erased erased-twice all)

-- ---- numbers

-- below the numbers of texts
abbrev pub AreBelow : List ℕ → Type 0
AreBelow ns = (k : ℕ) → has k ns ≡ true → nat_lt k (2 ^ 128) ≡ true

is-above : (n : ℕ) → nat_lt (text_number n) (2 ^ 128) ≡ false
is-above n = grind (arith, nat_tests)

text-same : (n m : ℕ) → text_number n ≡ text_number m → n ≡ m
text-same n m h = omega (arith, h)

pub not-has : (b : Bool) → (b ≡ true → false ≡ true) → b ≡ false
not-has true h = sym (h refl)
not-has false h = refl

both-hold : (a b : Bool) → a ≡ true → b ≡ true → (a && b) ≡ true
both-hold true b h i = i
both-hold false b h i = h

-- what waits: nothing, or one text of this node
abbrev pub Waits : ℕ → List Visit → Type 0
Waits m [] = ⊤
Waits m (v ∷ vs) = (v.number ≡ text_number m) × (vs ≡ [])

waits-has : (m k : ℕ) (ws : List Visit) → Waits m ws → has k (numbers_of ws) ≡ true → k ≡ text_number m
waits-has m k [] h i = no i
waits-has m k (v ∷ vs) h i = elim (or-cases (k == v.number) (has k (numbers_of vs)) i)
    [ inl a ↦ eqb-true k v.number a ∙ h.0 | inr b ↦ no (ap (λ l. has k (numbers_of l)) (sym h.1) ∙ b) ]

module _ (g : Visit → List Visit) (given : (x : Visit) → Waits x.number (g x)) where
  -- where a number of the filled list comes from
  abbrev pub Comes : ℕ → List Visit → ℕ → Type 0
  Comes k ys m = (has k (numbers_of ys) ≡ true) ⊎ ((k ≡ text_number m) ⊎ ((n : ℕ) × (k ≡ text_number n) × (has n (numbers_of ys) ≡ true)))

  later : (k : ℕ) (y : Visit) (ys : List Visit) (m : ℕ) → Comes k ys m → Comes k (y ∷ ys) m
  later k y ys m (inl a) = inl (or-right (k == y.number) (has k (numbers_of ys)) a)
  later k y ys m (inr (inl b)) = inr (inl b)
  later k y ys m (inr (inr c)) = inr (inr (c.0, c.1, or-right (c.0 == y.number) (has c.0 (numbers_of ys)) c.2))

  own : (k : ℕ) (y : Visit) (ys : List Visit) (m : ℕ) → Comes k ys y.number → Comes k (y ∷ ys) m
  own k y ys m (inl a) = inl (or-right (k == y.number) (has k (numbers_of ys)) a)
  own k y ys m (inr (inl b)) = inr (inr (y.number, b, or-left (y.number == y.number) (has y.number (numbers_of ys)) (self-same y.number)))
  own k y ys m (inr (inr c)) = inr (inr (c.0, c.1, or-right (c.0 == y.number) (has c.0 (numbers_of ys)) c.2))

  numbers-append : (ws vs : List Visit) → numbers_of (ws ++ vs) ≡ numbers_of ws ++ numbers_of vs
  numbers-append [] vs = refl
  numbers-append (v ∷ ws) vs = ap (λ l. v.number ∷ l) (numbers-append ws vs)

  pub comes : (k m : ℕ) (ws ys : List Visit) → Waits m ws → has k (numbers_of (filled g ws ys)) ≡ true → Comes k ys m
  comes k m ws [] h i = inr (inl (waits-has m k ws h i))
  comes k m ws (y ∷ ys) h i = by (is_borne y) i (comes k m ws ys h) (comes k y.number (g y) ys (given y))
    where
      here : (rest : List Visit) → ((has k (numbers_of rest) ≡ true) → Comes k (y ∷ ys) m) → has k (numbers_of (y ∷ rest)) ≡ true → Comes k (y ∷ ys) m
      here rest j l = elim (or-cases (k == y.number) (has k (numbers_of rest)) l) [ inl a ↦ inl (or-left (k == y.number) (has k (numbers_of ys)) a) | inr b ↦ j b ]

      by : (b : Bool) → has k (numbers_of (cond b (y ∷ filled g ws ys) (ws ++ y ∷ filled g (g y) ys))) ≡ true → (has k (numbers_of (filled g ws ys)) ≡ true → Comes k ys m) → (has k (numbers_of (filled g (g y) ys)) ≡ true → Comes k ys y.number) → Comes k (y ∷ ys) m
      by true j p q = here (filled g ws ys) (λ l. later k y ys m (p l)) j
      by false j p q = elim (has-append k (numbers_of ws) (numbers_of (y ∷ filled g (g y) ys)) (ap (has k) (sym (numbers-append ws (y ∷ filled g (g y) ys))) ∙ j))
          [ inl a ↦ inr (inl (waits-has m k ws h a)) | inr b ↦ here (filled g (g y) ys) (λ l. own k y ys m (q l)) b ]

  -- numbers of nodes are not those of texts
  pub not-text : (k n : ℕ) → nat_lt k (2 ^ 128) ≡ true → k ≡ text_number n → false ≡ true
  not-text k n h e = sym (is-above n) ∙ ap (λ m. nat_lt m (2 ^ 128)) (sym e) ∙ h

  pub filled-apart : (m : ℕ) (ws ys : List Visit) → Waits m ws → has m (numbers_of ys) ≡ false → are_apart (numbers_of ys) ≡ true → AreBelow (numbers_of ys) → are_apart (numbers_of (filled g ws ys)) ≡ true
  filled-apart m [] [] h a d b = refl
  filled-apart m (v ∷ vs) [] h a d b = subst (λ l. are_apart (numbers_of (v ∷ l)) ≡ true) (sym h.1) refl
  filled-apart m ws (y ∷ ys) h a d b =
      by (is_borne y) (filled-apart m ws ys h (out m).1 tail.1 below) (filled-apart y.number (g y) ys (given y) (not-true (has y.number (numbers_of ys)) tail.0) tail.1 below)
    where
      tail : (not (has y.number (numbers_of ys)) ≡ true) × (are_apart (numbers_of ys) ≡ true)
      tail = and-true (not (has y.number (numbers_of ys))) (are_apart (numbers_of ys)) d

      out : (k : ℕ) → ((m == y.number) ≡ false) × (has m (numbers_of ys) ≡ false)
      out k = or-false (m == y.number) (has m (numbers_of ys)) a

      below : AreBelow (numbers_of ys)
      below k i = b k (or-right (k == y.number) (has k (numbers_of ys)) i)

      y-below : nat_lt y.number (2 ^ 128) ≡ true
      y-below = b y.number (or-left (y.number == y.number) (has y.number (numbers_of ys)) (self-same y.number))

      -- the node itself does not come again
      once : (j : ℕ) → Comes y.number ys j → false ≡ true
      once j (inl i) = sym (not-true (has y.number (numbers_of ys)) tail.0) ∙ i
      once j (inr (inl i)) = not-text y.number j y-below i
      once j (inr (inr i)) = not-text y.number i.0 y-below i.1

      head-apart : (rest : List Visit) → ((has y.number (numbers_of rest) ≡ true) → false ≡ true) → are_apart (numbers_of rest) ≡ true → are_apart (numbers_of (y ∷ rest)) ≡ true
      head-apart rest i j = both-hold (not (has y.number (numbers_of rest))) (are_apart (numbers_of rest)) (ap not (not-has (has y.number (numbers_of rest)) i)) j

      -- the text that waits comes but once
      waiting-apart : (us : List Visit) → Waits m us → (rest : List Visit) → ((has (text_number m) (numbers_of rest) ≡ true) → false ≡ true) → are_apart (numbers_of rest) ≡ true → are_apart (numbers_of (us ++ rest)) ≡ true
      waiting-apart [] i rest j l = l
      waiting-apart (v ∷ []) i rest j l = both-hold (not (has v.number (numbers_of rest))) (are_apart (numbers_of rest)) (ap not (ap (λ k. has k (numbers_of rest)) i.0 ∙ not-has (has (text_number m) (numbers_of rest)) j)) l
      waiting-apart (v ∷ u ∷ us) i rest j l = cc (i.1)

      waited : Comes (text_number m) ys y.number → false ≡ true
      waited (inl i) = not-text (text_number m) m (below (text_number m) i) refl
      waited (inr (inl i)) = sym (out 0).0 ∙ ap (λ k. m == k) (sym (text-same m y.number i)) ∙ self-same m
      waited (inr (inr i)) = sym (out 0).1 ∙ ap (λ k. has k (numbers_of ys)) (text-same m i.0 i.1) ∙ i.2

      by : (c : Bool) → are_apart (numbers_of (filled g ws ys)) ≡ true → are_apart (numbers_of (filled g (g y) ys)) ≡ true → are_apart (numbers_of (cond c (y ∷ filled g ws ys) (ws ++ y ∷ filled g (g y) ys))) ≡ true
      by true p q = head-apart (filled g ws ys) (λ i. once m (comes y.number m ws ys h i)) p
      by false p q = waiting-apart ws h (y ∷ filled g (g y) ys)
          (λ i. elim (or-cases (text_number m == y.number) (has (text_number m) (numbers_of (filled g (g y) ys))) i)
          [ inl k ↦ not-text y.number m y-below (sym (eqb-true (text_number m) y.number k)) | inr k ↦ waited (comes (text_number m) y.number (g y) ys (given y) k) ])
          (head-apart (filled g (g y) ys) (λ i. once y.number (comes y.number y.number (g y) ys (given y) i)) q)

-- ---- the shape of a forest

waits-texts : (x : Visit) (m : Option (List (List ℕ))) → ((texts : List (List ℕ)) → m ≡ Some texts → texts ≡ [] ∷ []) → Waits x.number (given_visits x m)
waits-texts x None h = tt
waits-texts x (Some texts) h = subst (λ ts. Waits x.number (map (text_visit x) ts)) (sym (h texts refl)) (refl, refl)

one-empty : (all : List Visit) (n : ℕ) (texts : List (List ℕ)) → only_text all n ≡ Some texts → texts ≡ [] ∷ []
one-empty all n texts h = by (has_elements all n) h
  where
    by : (b : Bool) → cond b None (Some ([] ∷ [])) ≡ Some texts → texts ≡ [] ∷ []
    by true i = none-some i
    by false i = sym (some-same i)

pub shape-waits : (all : List Visit) (x : Visit) → Waits x.number (visits_in (only_text all) x)
shape-waits all x = by (is_element x.content)
  where
    by : (b : Bool) → Waits x.number (cond b (given_visits x (only_text all x.number)) [])
    by true = waits-texts x (only_text all x.number) (one-empty all x.number)
    by false = tt

-- ---- parents in the shape

each-append : (P : Visit → Type 0) (xs ys : List Visit) → Each P xs → Each P ys → Each P (xs ++ ys)
each-append P [] ys h k = k
each-append P (x ∷ xs) ys h k = (h.0, each-append P xs ys h.1 k)

filled-each : (P : Visit → Type 0) (g : Visit → List Visit) (ws ys : List Visit) → Each P ws → Each (λ y. P y × Each P (g y)) ys → Each P (filled g ws ys)
filled-each P g ws [] h k = h
filled-each P g ws (y ∷ ys) h k = by (is_borne y) (filled-each P g ws ys h k.1) (filled-each P g (g y) ys k.0.1 k.1)
  where
    by : (b : Bool) → Each P (filled g ws ys) → Each P (filled g (g y) ys) → Each P (cond b (y ∷ filled g ws ys) (ws ++ y ∷ filled g (g y) ys))
    by true i j = (k.0.0, i)
    by false i j = each-append P ws (y ∷ filled g (g y) ys) h (k.0.0, j)

element-solid : (c : Content) → is_element c ≡ true → not (is_text c) ≡ true
element-solid content.Root h = refl
element-solid (content.Element name) h = refl
element-solid (content.Attribute name text) h = refl
element-solid (content.Text text) h = no h

module _ (all : List Visit) (v : AreVisits all) where
  -- a text that is put into an element stands below it
  texts-closed : (y : Visit) → found y.number all ≡ Some y → is_element y.content ≡ true → (texts : List (List ℕ)) → Each (ClosedIn (untexted all)) (map (text_visit y) texts)
  texts-closed y e h [] = tt
  texts-closed y e h (text ∷ texts) = (here, texts-closed y e h texts)
    where
      here : ClosedIn (untexted all) (text_visit y text)
      here n ns i =
          let first : y.number ≡ n = cc i in
          let rest : y.above ≡ ns = cc i in
          ap (λ m. option_map (λ (z : Visit). z.above) (found m (untexted all))) (sym first)
          ∙ ap (option_map (λ (z : Visit). z.above)) (found-in (λ (z : Visit). not (is_text z.content)) y.number all y v.apart e (element-solid y.content h))
          ∙ ap Some rest

  given-closed : (texts : Texts) (y : Visit) → found y.number all ≡ Some y → Each (ClosedIn (untexted all)) (visits_in texts y)
  given-closed texts y e = by (is_element y.content) refl
    where
      of : is_element y.content ≡ true → (m : Option (List (List ℕ))) → Each (ClosedIn (untexted all)) (given_visits y m)
      of h None = tt
      of h (Some ts) = texts-closed y e h ts

      by : (b : Bool) → is_element y.content ≡ b → Each (ClosedIn (untexted all)) (cond b (given_visits y (texts y.number)) [])
      by true h = of h (texts y.number)
      by false h = tt

  pub retexted-closed : (texts : Texts) → Each (ClosedIn (untexted all)) (retexted texts all)
  retexted-closed texts =
      filled-each (ClosedIn (untexted all)) (visits_in texts) [] (filter (λ x. not (is_gone texts x)) all) tt
      (each-filter (λ y. ClosedIn (untexted all) y × Each (ClosedIn (untexted all)) (visits_in texts y)) (λ x. not (is_gone texts x)) all
      (each-map (λ y. found y.number all ≡ Some y) (λ y. ClosedIn (untexted all) y × Each (ClosedIn (untexted all)) (visits_in texts y)) all
      (λ y e. (λ n ns i. v.closed y.number n ns y e i, given-closed texts y e)) (self-found all v.apart)))

-- ---- parents have lists in the shape, too

element-list : (c : Content) → is_element c ≡ true → has_list c ≡ true
element-list content.Root h = refl
element-list (content.Element name) h = refl
element-list (content.Attribute name text) h = no h
element-list (content.Text text) h = no h

-- the parent of each node stands in the forest and has a list there
abbrev pub Hangs : List Visit → Visit → Type 0
Hangs all v = (n : ℕ) (ns : List ℕ) → v.above ≡ n ∷ ns → (z : Visit) × (found n (untexted all) ≡ Some z) × (has_list z.content ≡ true)

opened : (m : Option Visit) (ns : List ℕ) → option_map (λ (z : Visit). z.above) m ≡ Some ns → (z : Visit) × (m ≡ Some z)
opened None ns h = none-some h
opened (Some z) ns h = (z, refl)

module _ (all : List Visit) (v : AreVisits all) where
  own-hangs : (y : Visit) → found y.number all ≡ Some y → Hangs all y
  own-hangs y e n ns i =
      let z = opened (found n (untexted all)) ns (v.closed y.number n ns y e i) in
      (z.0, z.1, v.parents y.number n ns y z.0 e i (found-out (λ (q : Visit). not (is_text q.content)) n all z.0 v.apart z.1).0)

  texts-hang : (y : Visit) → found y.number all ≡ Some y → is_element y.content ≡ true → (texts : List (List ℕ)) → Each (Hangs all) (map (text_visit y) texts)
  texts-hang y e h [] = tt
  texts-hang y e h (text ∷ texts) = (here, texts-hang y e h texts)
    where
      here : Hangs all (text_visit y text)
      here n ns i =
          let first : y.number ≡ n = cc i in
          (y, ap (λ m. found m (untexted all)) (sym first) ∙ found-in (λ (z : Visit). not (is_text z.content)) y.number all y v.apart e (element-solid y.content h), element-list y.content h)

  given-hang : (texts : Texts) (y : Visit) → found y.number all ≡ Some y → Each (Hangs all) (visits_in texts y)
  given-hang texts y e = by (is_element y.content) refl
    where
      of : is_element y.content ≡ true → (m : Option (List (List ℕ))) → Each (Hangs all) (given_visits y m)
      of h None = tt
      of h (Some ts) = texts-hang y e h ts

      by : (b : Bool) → is_element y.content ≡ b → Each (Hangs all) (cond b (given_visits y (texts y.number)) [])
      by true h = of h (texts y.number)
      by false h = tt

  pub retexted-hang : (texts : Texts) → Each (Hangs all) (retexted texts all)
  retexted-hang texts =
      filled-each (Hangs all) (visits_in texts) [] (filter (λ x. not (is_gone texts x)) all) tt
      (each-filter (λ y. Hangs all y × Each (Hangs all) (visits_in texts y)) (λ x. not (is_gone texts x)) all
      (each-map (λ y. found y.number all ≡ Some y) (λ y. Hangs all y × Each (Hangs all) (visits_in texts y)) all
      (λ y e. (own-hangs y e, given-hang texts y e)) (self-found all v.apart)))

-- of a shape whose nodes without texts are those of the forest
hanging-parents : (xs all : List Visit) → are_apart (numbers_of (map erased xs)) ≡ true → untexted (map erased xs) ≡ untexted all → Each (Hangs all) xs → (k n : ℕ) (ns : List ℕ) (x z : Visit) → found k (map erased xs) ≡ Some x → x.above ≡ n ∷ ns → found n (map erased xs) ≡ Some z → has_list z.content ≡ true
hanging-parents xs all apart same e k n ns x z h i j = by (found k xs) refl (sym (found-erased k xs) ∙ h)
  where
    by : (m : Option Visit) → found k xs ≡ m → option_map erased m ≡ Some x → has_list z.content ≡ true
    by None a l = none-some l
    by (Some y) a l =
        let p = each-found (Hangs all) k xs y e a n ns (ap (λ (q : Visit). q.above) (some-same l) ∙ i) in
        let here : found n (map erased xs) ≡ Some p.0 = (found-out (λ (q : Visit). not (is_text q.content)) n (map erased xs) p.0 apart (ap (found n) same ∙ p.1)).0 in
        ap (λ (q : Visit). has_list q.content) (some-same (sym j ∙ here)) ∙ p.2

pub limit : nat_lt (2 ^ 128) (2 ^ 128) ≡ true → false ≡ true
limit h = grind (arith, nat_tests, h)

closed-erased-in : (xs part : List Visit) → untexted (map erased xs) ≡ part → Each (ClosedIn part) xs → (k n : ℕ) (ns : List ℕ) (x : Visit) → found k (map erased xs) ≡ Some x → x.above ≡ n ∷ ns → option_map (λ (z : Visit). z.above) (found n (untexted (map erased xs))) ≡ Some ns
closed-erased-in xs part same e k n ns x h i = by (found k xs) refl (sym (found-erased k xs) ∙ h)
  where
    by : (m : Option Visit) → found k xs ≡ m → option_map erased m ≡ Some x → option_map (λ (z : Visit). z.above) (found n (untexted (map erased xs))) ≡ Some ns
    by None j l = none-some l
    by (Some y) j l = ap (λ ys. option_map (λ (z : Visit). z.above) (found n ys)) same ∙ each-found (ClosedIn part) k xs y e j n ns (ap (λ (z : Visit). z.above) (some-same l) ∙ i)

-- closed in the forest without texts is closed in the shape without them
pub shape-visits : (forest : Forest) → HasTrees forest → AreBelow (numbers_of (visits forest.nodes)) → AreVisits (map erased (shape_of forest.nodes))
shape-visits forest sound below =
    let real : List Visit = map erased (visits forest.nodes) in
    let v : AreVisits real = forest-visits forest sound in
    let texts : Texts = only_text (visits forest.nodes) in
    let kept : List Visit = filter (λ x. not (is_gone texts x)) real in
    let same : numbers_of real ≡ numbers_of (visits forest.nodes) = map-map (λ (x : Visit). x.number) erased (visits forest.nodes) in
    let part : Sub (numbers_of kept) (numbers_of real) = map-sub (λ (x : Visit). x.number) (filter-sub (λ x. not (is_gone texts x)) real) in
    let apart : are_apart (numbers_of (shape_of forest.nodes)) ≡ true =
    filled-apart (visits_in texts) (shape-waits (visits forest.nodes)) (2 ^ 128) [] kept tt
    (not-has (has (2 ^ 128) (numbers_of kept)) (λ h. limit (below (2 ^ 128) (ap (has (2 ^ 128)) (sym same) ∙ has-sub (2 ^ 128) part h))))
    (sub-different part v.apart) (λ k h. below k (ap (has k) (sym same) ∙ has-sub k part h)) in
    let apart_too : are_apart (numbers_of (map erased (shape_of forest.nodes))) ≡ true = ap are_apart (map-map (λ (x : Visit). x.number) erased (shape_of forest.nodes)) ∙ apart in
    record {
      apart = apart_too;
      parents = hanging-parents (shape_of forest.nodes) real apart_too (shape-untexted (visits forest.nodes)) (retexted-hang real v texts);
      closed = closed-erased-in (shape_of forest.nodes) (untexted real) (shape-untexted (visits forest.nodes)) (retexted-closed real v texts);
    }
