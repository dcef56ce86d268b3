-- Data that hold contents at static calculates, beside the shape of the data.
use Rattle.std.proofs.Common.{◌≡◌, ℕ, ◌==◌, Bool, true, false, not, cond, ◌&&◌, ◌||◌, List, [], ◌∷◌, ◌++◌, map, Option, Some, None, option_map, refl, sym, ap, ◌∙◌, arith, subst, inl, inr}
use Rattle.std.specs.Prelude.{filter, is_some, nat_lt}
use Rattle.std.specs.List.{list_any, list_all}
use Rattle.std.proofs.lemmas.Bool.{cases_Bool, eqb-true}
use Rattle.std.proofs.lemmas.Bool.Decides.{nat_tests}
use Rattle.xf_def_forest.specs.declared.content.Content.{Content}
use Rattle.xf_def_forest.specs.declared.content.Content.TheVariants as content
use Rattle.xf_def_forest.specs.declared.content.Node.{Node}
use Rattle.xf_def_forest.specs.Forest.{Forest, is_root, is_text, is_element, is_attribute}
use Rattle.xf_def_forest.specs.Visit.{Visit, visits, visits_from, still_above, numbers, has, has_parent, is_first}
use Rattle.xf_def_forest.specs.Shape.{Texts, text_number, text_visit, given_visits, visits_in, is_borne, is_replaced, filled, retexted, has_elements, only_text, erased, without_text, shape, texts_given}
use Rattle.xf_def_forest.proofs.BackLaws.{and-true}
use Rattle.xf_def_forest.proofs.RenumberLaws.{map-map, filter-through}
use Rattle.xf_def_xpath.specs.Asked.{found}
use Rattle.xf_def_xpath.specs.Agree.{numbers_of, untexted, AreVisits}
use Rattle.xf_def_xpath.proofs.VisitFacts.{no, some-same, none-some, or-left, or-right, found-number, found-in}
use Rattle.xf_def_xpath.proofs.UntextedLaws.{solid-found}
use Rattle.xf_def_xpath.proofs.ForestVisits.{Each, each-map, each-filter, each-found, self-found, found-erased, forest-visits}
use Rattle.xf_def_xpath.proofs.ShapeVisits.{AreBelow, shape-untexted, shape-visits}
use Rattle.xf_def_model.specs.Rules.{Scope}
use Rattle.xf_def_model.specs.Applied.{Entry}
use Rattle.xf_def_model.specs.Settled.{Bounds, Contents, content_of, holding, calculates}
use Rattle.xf_def_model.specs.Pertinent.{AllOf}
use Rattle.xf_def_model.specs.Stands.{AreCalculated}
use Rattle.xf_def_model.proofs.EachLemmas.{each_one}
use Rattle.xf_def_model.proofs.ReadSolid as model
use Rattle.xf_def_model.proofs.HoldingLaws.{structure-kept}
use Rattle.xf_def_model.proofs.HoldingVisits.{blanks_by, held-erased, held-visits}
use Rattle.xf_law_recalculation.specs.Agree.Settles.{AreHung, Surrounds, IsStatic}
use Rattle.xf_law_recalculation.proofs.AgreeLemmas.Covers.{stays, IsShaped}
use Rattle.xf_law_recalculation.proofs.AgreeLemmas.Retexted.{stays-retexted}

-- ---- members of a list of visits

data In (v : Visit) : List Visit → Type 0 where
  here : {xs : List Visit} → In v (v ∷ xs)
  there : {x : Visit} {xs : List Visit} → In v xs → In v (x ∷ xs)

found-member : (k : ℕ) (xs : List Visit) (y : Visit) → found k xs ≡ Some y → In y xs
found-member k [] y e = none-some e
found-member k (x ∷ xs) y e = by (x.number == k) e (found-member k xs y)
  where
    by : (b : Bool) → cond b (Some x) (found k xs) ≡ Some y → (found k xs ≡ Some y → In y xs) → In y (x ∷ xs)
    by true i later = subst (λ z. In z (x ∷ xs)) (some-same i) here
    by false i later = there (later i)

each-in : (P : Visit → Type 0) {v : Visit} {xs : List Visit} → In v xs → Each P xs → P v
each-in P here e = e.0
each-in P (there i) e = each-in P i e.1

in-filter : (p : Visit → Bool) {v : Visit} {xs : List Visit} → In v xs → p v ≡ true → In v (filter p xs)
in-filter p {v = v} (here {xs = xs}) h = subst (λ b. In v (cond b (v ∷ filter p xs) (filter p xs))) (sym h) here
in-filter p {v = v} (there {x = x} {xs = xs} i) h = by (p x) (in-filter p i h)
  where
    by : (b : Bool) → In v (filter p xs) → In v (cond b (x ∷ filter p xs) (filter p xs))
    by true j = there j
    by false j = j

in-map : (f : Visit → Visit) {v : Visit} {xs : List Visit} → In v xs → In (f v) (map f xs)
in-map f here = here
in-map f (there i) = there (in-map f i)

in-left : {v : Visit} {xs : List Visit} → In v xs → (ys : List Visit) → In v (xs ++ ys)
in-left here ys = here
in-left (there i) ys = there (in-left i ys)

in-right : {v : Visit} (xs : List Visit) {ys : List Visit} → In v ys → In v (xs ++ ys)
in-right [] i = i
in-right (x ∷ xs) i = there (in-right xs i)

in-waiting : (g : Visit → List Visit) {v : Visit} {ws : List Visit} → In v ws → (ys : List Visit) → In v (filled g ws ys)
in-waiting g i [] = i
in-waiting g {v = v} {ws = ws} i (y ∷ ys) = by (is_borne y) (in-waiting g i ys)
  where
    by : (b : Bool) → In v (filled g ws ys) → In v (cond b (y ∷ filled g ws ys) (ws ++ y ∷ filled g (g y) ys))
    by true later = there later
    by false later = in-left i (y ∷ filled g (g y) ys)

in-filled : (g : Visit → List Visit) {v y : Visit} {ys : List Visit} → In y ys → is_borne y ≡ false → In v (g y) → (ws : List Visit) → In v (filled g ws ys)
in-filled g {v = v} {y = y} (here {xs = xs}) e i ws = subst (λ b. In v (cond b (y ∷ filled g ws xs) (ws ++ y ∷ filled g (g y) xs))) (sym e) (in-right ws (there (in-waiting g i xs)))
in-filled g {v = v} {y = y} (there {x = x} {xs = xs} j) e i ws = by (is_borne x) (in-filled g j e i ws) (in-filled g j e i (g x))
  where
    by : (b : Bool) → In v (filled g ws xs) → In v (filled g (g x) xs) → In v (cond b (x ∷ filled g ws xs) (ws ++ x ∷ filled g (g x) xs))
    by true one other = there one
    by false one other = in-right ws (there other)

-- ---- contents without texts

text-kept : (c : Content) → is_text (without_text c) ≡ is_text c
text-kept content.Root = refl
text-kept (content.Element name) = refl
text-kept (content.Attribute name text) = refl
text-kept (content.Text text) = refl

element-kept : (c : Content) → is_element (without_text c) ≡ is_element c
element-kept content.Root = refl
element-kept (content.Element name) = refl
element-kept (content.Attribute name text) = refl
element-kept (content.Text text) = refl

twice : (c : Content) → without_text (without_text c) ≡ without_text c
twice content.Root = refl
twice (content.Element name) = refl
twice (content.Attribute name text) = refl
twice (content.Text text) = refl

element-solid : (c : Content) → is_element c ≡ true → is_text c ≡ false
element-solid content.Root h = refl
element-solid (content.Element name) h = refl
element-solid (content.Attribute name text) h = refl
element-solid (content.Text text) h = no h

element-borne : (c : Content) → is_element c ≡ true → is_attribute c ≡ false
element-borne content.Root h = refl
element-borne (content.Element name) h = refl
element-borne (content.Attribute name text) h = no h
element-borne (content.Text text) h = refl

pub erased-again : (xs : List Visit) → map erased (map erased xs) ≡ map erased xs
erased-again [] = refl
erased-again (x ∷ xs) = ap (λ c. record { number = x.number; above = x.above; content = c } ∷ map erased (map erased xs)) (twice x.content) ∙ ap (λ l. erased x ∷ l) (erased-again xs)

pub original : (k : ℕ) (xs : List Visit) (y : Visit) → found k (map erased xs) ≡ Some y → (x : Visit) × (found k xs ≡ Some x) × (erased x ≡ y)
original k xs y e = by (found k xs) refl (sym (found-erased k xs) ∙ e)
  where
    by : (o : Option Visit) → found k xs ≡ o → option_map erased o ≡ Some y → (x : Visit) × (found k xs ≡ Some x) × (erased x ≡ y)
    by None i j = none-some j
    by (Some x) i j = (x, i, some-same j)

any-found : (p : Visit → Bool) (k : ℕ) (xs : List Visit) (x : Visit) → found k xs ≡ Some x → p x ≡ true → list_any p xs ≡ true
any-found p k [] x e h = none-some e
any-found p k (y ∷ ys) x e h = by (y.number == k) e (λ i. any-found p k ys x i h)
  where
    by : (b : Bool) → cond b (Some y) (found k ys) ≡ Some x → (found k ys ≡ Some x → list_any p ys ≡ true) → (p y || list_any p ys) ≡ true
    by true i later = or-left (p y) (list_any p ys) (ap p (some-same i) ∙ h)
    by false i later = or-right (p y) (list_any p ys) (later i)

-- as many empty texts
abbrev blanked : List (List ℕ) → List (List ℕ)
blanked ts = map (λ (t : List ℕ). []) ts

abbrev no_texts : List (List ℕ)
no_texts = [] ∷ []

-- ---- a shape has no other texts than empty ones

abbrev IsErased : Visit → Type 0
IsErased v = erased v ≡ v

map-itself : (xs : List Visit) → Each IsErased xs → map erased xs ≡ xs
map-itself [] h = refl
map-itself (x ∷ xs) h = ap (λ y. y ∷ map erased xs) h.0 ∙ ap (λ l. x ∷ l) (map-itself xs h.1)

-- ---- roots have nothing above them

abbrev pub IsTop : Visit → Type 0
IsTop v = is_root v.content ≡ true → v.above ≡ []

no-depth : (d : ℕ) → nat_lt d 0 ≡ false
no-depth d = grind (arith, nat_tests)

none-above : (stack : List Node) → still_above 0 stack ≡ []
none-above [] = refl
none-above (y ∷ ys) = ap (λ b. cond b (y ∷ ys) (still_above 0 ys)) (no-depth y.depth) ∙ none-above ys

pub tops-from : (stack xs : List Node) → list_all (λ (x : Node). not (is_root x.content) || (x.depth == 0)) xs ≡ true → Each IsTop (visits_from stack xs)
tops-from stack [] h = tt
tops-from stack (x ∷ xs) h =
    let parts = and-true (not (is_root x.content) || (x.depth == 0)) (list_all (λ (y : Node). not (is_root y.content) || (y.depth == 0)) xs) h in
    (one (is_root x.content) (x.depth == 0) refl refl parts.0, tops-from (x ∷ still_above x.depth stack) xs parts.1)
  where
    one : (a b : Bool) → is_root x.content ≡ a → (x.depth == 0) ≡ b → (not a || b) ≡ true → is_root x.content ≡ true → numbers (still_above x.depth stack) ≡ []
    one a true i j k r = ap (λ d. numbers (still_above d stack)) (eqb-true x.depth 0 j) ∙ ap numbers (none-above stack)
    one true false i j k r = no k
    one false false i j k r = no (sym i ∙ r)

filled-each : (P : Visit → Type 0) (g : Visit → List Visit) (ws ys : List Visit) → Each P ws → Each (λ y. P y × Each P (g y)) ys → Each P (filled g ws ys)
filled-each P g ws [] h k = h
filled-each P g ws (y ∷ ys) h k = by (is_borne y) (filled-each P g ws ys h k.1) (filled-each P g (g y) ys k.0.1 k.1)
  where
    each-append : (xs zs : List Visit) → Each P xs → Each P zs → Each P (xs ++ zs)
    each-append [] zs i j = j
    each-append (x ∷ xs) zs i j = (i.0, each-append xs zs i.1 j)

    by : (b : Bool) → Each P (filled g ws ys) → Each P (filled g (g y) ys) → Each P (cond b (y ∷ filled g ws ys) (ws ++ y ∷ filled g (g y) ys))
    by true i j = (k.0.0, i)
    by false i j = each-append ws (y ∷ filled g (g y) ys) h (k.0.0, j)

each-twice : (xs : List Visit) → Each IsErased (map erased xs)
each-twice [] = tt
each-twice (x ∷ xs) = (ap (λ c. record { number = x.number; above = x.above; content = c }) (twice x.content), each-twice xs)

pub shape-erased : (all : List Visit) → map erased (shape all) ≡ shape all
shape-erased all = map-itself (shape all) (filled-each IsErased (visits_in (only_text all)) [] (filter (stays (only_text all)) (map erased all)) tt (with-given (filter (stays (only_text all)) (map erased all)) (each-filter IsErased (stays (only_text all)) (map erased all) (each-twice all))))
  where
    given : (y : Visit) → Each IsErased (visits_in (only_text all) y)
    given y = by (is_element y.content) (has_elements all y.number)
      where
        by : (b c : Bool) → Each IsErased (cond b (given_visits y (cond c None (Some no_texts))) [])
        by false c = tt
        by true true = tt
        by true false = (refl, tt)

    with-given : (ys : List Visit) → Each IsErased ys → Each (λ y. IsErased y × Each IsErased (visits_in (only_text all) y)) ys
    with-given [] h = tt
    with-given (y ∷ ys) h = ((h.0, given y), with-given ys h.1)

not-of : (b : Bool) → not b ≡ true → b ≡ false
not-of true h = sym h
not-of false h = refl

module _ (scope : Scope) (b : Bounds) (forest : Forest) (entries : List Entry) (around : Surrounds scope b.string forest) (static : AllOf (IsStatic scope forest) (calculates entries)) where
  abbrev pub all : List Visit
  all = visits forest.nodes

  abbrev pub bare : List Visit
  bare = map erased all

  abbrev pub shaped : List Visit
  shaped = map erased (shape all)

  pub bare_visits : AreVisits bare
  bare_visits = forest-visits forest around.trees

  pub bare_below : AreBelow (numbers_of bare)
  bare_below k h = around.below k (ap (has k) (sym (map-map (λ (x : Visit). x.number) erased all)) ∙ h)

  pub shape_visits : AreVisits shaped
  shape_visits = shape-visits forest around.trees around.below

  -- an element in it, so that no calculate stands there
  pub leaf-text : (p : ℕ) → has_elements all p ≡ false → only_text all p ≡ Some ([] ∷ [])
  leaf-text p h = ap (λ c. cond c None (Some no_texts)) h

  pub calculated-leaf : (p : ℕ) → list_any (λ e. e.node == p) (calculates entries) ≡ true → only_text all p ≡ Some ([] ∷ [])
  calculated-leaf p h =
      let f = each_one (IsStatic scope forest) (λ (e : Entry). e.node == p) (calculates entries) static h in
      leaf-text p (ap (has_elements all) (sym (eqb-true f.0.node p f.1)) ∙ f.2.leaf)

  -- texts of the forest stand in elements
  bare-hung : (k : ℕ) (y : Visit) → found k bare ≡ Some y → is_text y.content ≡ true → (q : ℕ) × (z : Visit) × (found q bare ≡ Some z) × (is_element z.content ≡ true) × (y.above ≡ q ∷ z.above)
  bare-hung k y e t =
      let x = original k all y e in
      let p = around.hung k x.0 x.1 (sym (text-kept x.0.content) ∙ ap (λ (v : Visit). is_text v.content) x.2 ∙ t) in
      (p.0, erased p.1, found-erased p.0 all ∙ ap (option_map erased) p.2, element-kept p.1.content ∙ p.3, ap (λ (v : Visit). v.above) (sym x.2) ∙ p.4)

  abbrev Hung : Visit → Type 0
  Hung v = is_text v.content ≡ true → (q : ℕ) × (z : Visit) × (found q bare ≡ Some z) × (is_element z.content ≡ true) × (v.above ≡ q ∷ z.above)

  given-hung : (y : Visit) → found y.number bare ≡ Some y → is_element y.content ≡ true → (ts : List (List ℕ)) → Each Hung (map (text_visit y) ts)
  given-hung y i el [] = tt
  given-hung y i el (u ∷ us) = ((λ l. (y.number, y, i, el, refl)), given-hung y i el us)

  visits-hung : (t : Texts) (y : Visit) → found y.number bare ≡ Some y → Each Hung (visits_in t y)
  visits-hung t y i = of (is_element y.content) refl
    where
      at : is_element y.content ≡ true → (o : Option (List (List ℕ))) → Each Hung (given_visits y o)
      at el None = tt
      at el (Some ts) = given-hung y i el ts

      of : (c : Bool) → is_element y.content ≡ c → Each Hung (cond c (given_visits y (t y.number)) [])
      of true el = at el (t y.number)
      of false el = tt

  each-hung : (t : Texts) → Each Hung (retexted t bare)
  each-hung t = filled-each Hung (visits_in t) [] (filter (stays t) bare) tt
      (each-filter (λ y. Hung y × Each Hung (visits_in t y)) (stays t) bare
      (each-map (λ y. found y.number bare ≡ Some y) (λ y. Hung y × Each Hung (visits_in t y)) bare (λ y i. (bare-hung y.number y i, visits-hung t y i)) (self-found bare bare_visits.apart)))

  -- in the shape, too
  pub shape-hung : model.AreHung shaped
  shape-hung = record {
    visits = shape_visits;
    texts = λ k x e t none.
        let y = original k (shape all) x e in
        let p = each-found Hung k (shape all) y.0 (each-hung (only_text all)) y.1 (sym (text-kept y.0.content) ∙ ap (λ (v : Visit). is_text v.content) y.2 ∙ t) in
        absurd (nil-cons (sym none ∙ ap (λ (v : Visit). v.above) (sym y.2) ∙ p.4));
  }
    where
      nil-cons : {n : ℕ} {ns : List ℕ} → [] ≡ n ∷ ns → ⊥
      nil-cons h = cc h

  -- its texts stand in elements
  pub shape-in_elements : AreHung shaped
  shape-in_elements k x e t =
      let y = original k (shape all) x e in
      let p = each-found Hung k (shape all) y.0 (each-hung (only_text all)) y.1 (sym (text-kept y.0.content) ∙ ap (λ (v : Visit). is_text v.content) y.2 ∙ t) in
      let solid = element-solid p.1.content p.3 in
      let same : untexted shaped ≡ untexted bare = shape-untexted all in
      (p.0, p.1, (solid-found shaped shape_visits p.0 p.1 (ap (found p.0) same ∙ found-in (λ v. not (is_text v.content)) p.0 bare p.1 bare_visits.apart p.2 (ap not solid))).0, p.3, ap (λ (v : Visit). v.above) (sym y.2) ∙ p.4)

  stays-erased : (T : Texts) (xs : List Visit) → filter (stays T) (map erased xs) ≡ map erased (filter (stays T) xs)
  stays-erased T xs = filter-through erased (stays T) (stays T) (λ x. ap (λ c. not (c && is_replaced T x.above)) (text-kept x.content)) xs

  module _ (contents : Contents) (only_calculated : AreCalculated entries contents) where
    abbrev pub data_held : List Visit
    data_held = map erased (holding all contents)

    pub held_visits : AreVisits data_held
    held_visits = held-visits all bare_visits bare_below contents

    pub held_same : untexted data_held ≡ untexted bare
    held_same = structure-kept all contents

    pub none-held : (p : ℕ) → list_any (λ e. e.node == p) (calculates entries) ≡ false → content_of contents p ≡ None
    none-held p h = only_calculated p h

    held-leaf : (p : ℕ) → is_some (blanks_by contents p) ≡ true → is_some (only_text all p) ≡ true
    held-leaf p h = elim (cases_Bool (list_any (λ e. e.node == p) (calculates entries))) [
      | inl c ↦ ap is_some (calculated-leaf p c)
      | inr c ↦ no (sym (ap (λ o. is_some (option_map blanked (texts_given o))) (none-held p c)) ∙ h)
    ]

    solid-bare : (k : ℕ) (y : Visit) → found k data_held ≡ Some y → is_text y.content ≡ false → found k bare ≡ Some y
    solid-bare k y e t = (solid-found bare bare_visits k y (ap (found k) (sym held_same) ∙ found-in (λ v. not (is_text v.content)) k data_held y held_visits.apart e (ap not t))).0

    solid-held : (k : ℕ) (y : Visit) → found k bare ≡ Some y → is_text y.content ≡ false → found k data_held ≡ Some y
    solid-held k y e t = (solid-found data_held held_visits k y (ap (found k) held_same ∙ found-in (λ v. not (is_text v.content)) k bare y bare_visits.apart e (ap not t))).0

    rest-same : filter (stays (only_text all)) shaped ≡ filter (stays (only_text all)) data_held
    rest-same =
        stays-erased (only_text all) (shape all)
        ∙ ap (map erased) (stays-retexted (only_text all) (only_text all) (λ p h. h) bare)
        ∙ sym (stays-erased (only_text all) bare)
        ∙ ap (filter (stays (only_text all))) (erased-again all)
        ∙ sym (stays-retexted (only_text all) (blanks_by contents) held-leaf bare)
        ∙ ap (filter (stays (only_text all))) (sym (held-erased contents all))

    one-text : (q : ℕ) (z : Visit) → found q data_held ≡ Some z → is_element z.content ≡ true → is_some (only_text all q) ≡ true → (t : Visit) × (found (text_number q) shaped ≡ Some t) × (is_text t.content ≡ true) × (t.above ≡ q ∷ z.above)
    one-text q z e el some =
        let solid = element-solid z.content el in
        let in_bare = solid-bare q z e solid in
        let named = found-number q bare z in_bare in
        let member : In z (filter (stays (only_text all)) bare) = in-filter (stays (only_text all)) (found-member q bare z in_bare) (ap (λ c. not (c && is_replaced (only_text all) z.above)) solid) in
        let given : visits_in (only_text all) z ≡ text_visit z [] ∷ [] =
        ap (λ c. cond c (given_visits z (only_text all z.number)) []) el ∙ ap (λ k. given_visits z (only_text all k)) named ∙ ap (given_visits z) (text-of (has_elements all q) some) in
        let waiting : In (text_visit z []) (visits_in (only_text all) z) = subst (In (text_visit z [])) (sym given) here in
        let in_shape : In (erased (text_visit z [])) shaped = in-map erased (in-filled (visits_in (only_text all)) member (ap (λ c. c && has_parent z.above) (element-borne z.content el)) waiting []) in
        let at : found (text_number z.number) shaped ≡ Some (erased (text_visit z [])) = each-in (λ v. found v.number shaped ≡ Some v) in_shape (self-found shaped shape_visits.apart) in
        (erased (text_visit z []), ap (λ k. found (text_number k) shaped) (sym named) ∙ at, refl, ap (λ k. k ∷ z.above) named)
      where
        text-of : (c : Bool) → is_some (cond c None (Some no_texts)) ≡ true → cond c None (Some no_texts) ≡ Some no_texts
        text-of true h = no h
        text-of false h = refl

    only-texts : (k q : ℕ) (y : Visit) → found k data_held ≡ Some y → is_first q y.above ≡ true → is_some (only_text all q) ≡ true → (is_text y.content || is_attribute y.content) ≡ true
    only-texts k q y e first some = by (is_text y.content) refl
      where
        of : (x : Visit) → found k all ≡ Some x → erased x ≡ y → (c : Content) → x.content ≡ c → is_text y.content ≡ false → is_attribute y.content ≡ true
        of x i j content.Root l t =
            let top : x.above ≡ [] = each-found IsTop k all x (tops-from [] forest.nodes around.trees.tops) i (ap is_root l) in
            no (sym (ap (is_first q) (ap (λ (v : Visit). v.above) (sym j) ∙ top)) ∙ first)
        of x i j (content.Element name) l t =
            let elements : has_elements all q ≡ true = any-found (λ v. is_element v.content && is_first q v.above) k all x i (ap (λ c. is_element c && is_first q x.above) l ∙ ap (λ (v : Visit). is_first q v.above) j ∙ first) in
            no (sym (ap (λ c. is_some (cond c None (Some no_texts))) elements) ∙ some)
        of x i j (content.Attribute name text) l t = ap (λ (v : Visit). is_attribute v.content) (sym j) ∙ ap (λ c. is_attribute (without_text c)) l
        of x i j (content.Text text) l t = no (sym t ∙ ap (λ (v : Visit). is_text v.content) (sym j) ∙ ap (λ c. is_text (without_text c)) l)

        by : (c : Bool) → is_text y.content ≡ c → (c || is_attribute y.content) ≡ true
        by true t = refl
        by false t = let x = original k all y (solid-bare k y e t) in of x.0 x.1 x.2 x.0.content refl t

    -- texts that are given stand in elements, too
    pub held-hung : AreHung data_held
    held-hung k x e t =
        let p = each-found Hung k data_held x (subst (Each Hung) (sym (held-erased contents all)) (each-hung (blanks_by contents))) e t in
        (p.0, p.1, solid-held p.0 p.1 p.2 (element-solid p.1.content p.3), p.3, p.4)

    pub held-shaped : IsShaped (only_text all) data_held shaped
    held-shaped = record {
      visits = held_visits;
      shape_visits = shape_visits;
      rest = rest-same;
      one = one-text;
      only = only-texts;
      hung = held-hung;
    }
