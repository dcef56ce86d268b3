-- The entries that the binds of a form apply: each has its expression, and stands at a node of the data that is no text.
use Rattle.std.proofs.Common.{◌≡◌, ℕ, suc, ◌+◌, ◌==◌, Bool, true, false, not, cond, ◌&&◌, ◌||◌, List, [], ◌∷◌, ◌++◌, map, length, Option, Some, None, option_map, unwrap_or, refl, sym, ap, ◌∙◌, arith, subst, inl, inr}
use Rattle.std.specs.Prelude.{filter, slice_get, if◌then◌else◌}
use Rattle.std.specs.List.{list_any, flat_map}
use Rattle.std.proofs.lemmas.Bool.{eqb-true}
use Rattle.xf_def_forest.specs.declared.content.Content.{Content}
use Rattle.xf_def_forest.specs.declared.content.Content.TheVariants as content
use Rattle.xf_def_forest.specs.Forest.{is_root, is_text, is_element, is_attribute}
use Rattle.xf_def_forest.specs.Visit.{Visit, has, has_parent, is_first, first_of}
use Rattle.xf_def_forest.specs.Shape.{erased, without_text, shape, has_elements}
use Rattle.xf_def_xpath.specs.declared.value.Value.{Value}
use Rattle.xf_def_xpath.specs.Setting.{◌>>=◌, each, in_order, joined}
use Rattle.xf_def_xpath.specs.Binding.{as_list, stand_in, stand_ins, bound_nodes}
use Rattle.xf_def_xpath.specs.Conversions.{nodes_of}
use Rattle.xf_def_xpath.specs.Asked.{found}
use Rattle.xf_def_xpath.specs.Agree.{numbers_of, are_apart, untexted, AreVisits}
use Rattle.xf_def_xpath.proofs.VisitFacts.{self-same, or-cases, or-left, or-right, no, some-same, none-some, found-number, found-in}
use Rattle.xf_def_xpath.proofs.SameKept.{kept-found, has-append}
use Rattle.xf_def_xpath.proofs.BelowAgree.{flat-has}
use Rattle.xf_def_xpath.proofs.ShapeVisits.{shape-untexted}
use Rattle.xf_def_forest.proofs.BackLaws.{and-true, not-true}
use Rattle.xf_def_model.specs.declared.property.Property.TheVariants.{Kind, Calculate, Relevant, Readonly, Required, Constraint}
use Rattle.xf_def_model.specs.Rules.{Rule, Scope, chains, chain_around}
use Rattle.xf_def_model.specs.Nested.{alone, setting_for, set_from, reached_through, begun, sets_of}
use Rattle.xf_def_model.specs.Applied.{Entry, Exception, twice, on_parent, sets, properties_of, standing_in, entry_of, entries_at, entries_on, entries_by, entries_from, all_entries, is_calculate, sets_same, exception_at, or_later, exception_from}
use Rattle.xf_def_model.specs.Pertinent.{AllOf}
use Rattle.xf_def_model.proofs.EachLemmas.{each_then}
use Rattle.xf_law_recalculation.proofs.AgreeLemmas.Known.{first-same}

-- ---- facts of each

all-append : {X : Type 0} (P : X → Type 0) (xs ys : List X) → AllOf P xs → AllOf P ys → AllOf P (xs ++ ys)
all-append P [] ys h k = k
all-append P (x ∷ xs) ys h k = (h.0, all-append P xs ys h.1 k)

all-flat : {X Y : Type 0} (P : Y → Type 0) (f : X → List Y) (xs : List X) → AllOf (λ x. AllOf P (f x)) xs → AllOf P (flat_map f xs)
all-flat P f [] h = tt
all-flat P f (x ∷ xs) h = all-append P (f x) (flat_map f xs) h.0 (all-flat P f xs h.1)

all-map : {X Y : Type 0} (P : Y → Type 0) (f : X → Y) (xs : List X) → ((x : X) → P (f x)) → AllOf P (map f xs)
all-map P f [] h = tt
all-map P f (x ∷ xs) h = (h x, all-map P f xs h)

pub all-filter : {X : Type 0} (P : X → Type 0) (p : X → Bool) (xs : List X) → AllOf P xs → AllOf (λ x. P x × (p x ≡ true)) (filter p xs)
all-filter P p [] h = tt
all-filter P p (x ∷ xs) h = by (p x) refl (all-filter P p xs h.1)
  where
    by : (b : Bool) → p x ≡ b → AllOf (λ y. P y × (p y ≡ true)) (filter p xs) → AllOf (λ y. P y × (p y ≡ true)) (cond b (x ∷ filter p xs) (filter p xs))
    by true e rest = ((h.0, e), rest)
    by false e rest = rest

kept-each : {X : Type 0} (p : X → Bool) (xs : List X) → AllOf (λ x. p x ≡ true) (filter p xs)
kept-each p [] = tt
kept-each p (x ∷ xs) = by (p x) refl (kept-each p xs)
  where
    by : (b : Bool) → p x ≡ b → AllOf (λ y. p y ≡ true) (filter p xs) → AllOf (λ y. p y ≡ true) (cond b (x ∷ filter p xs) (filter p xs))
    by true e rest = (e, rest)
    by false e rest = rest

all-in : (P : ℕ → Type 0) (ns : List ℕ) → ((n : ℕ) → has n ns ≡ true → P n) → AllOf P ns
all-in P [] h = tt
all-in P (n ∷ ns) h = (h n (or-left (n == n) (has n ns) (self-same n)), all-in P ns (λ k i. h k (or-right (k == n) (has k ns) i)))

-- what is made of each item
each-made : {X Y : Type 0} (made : X → Option Y) (xs : List X) (ys : List Y) → each made xs ≡ Some ys → AllOf (λ y. (x : X) × (made x ≡ Some y)) ys
each-made {X = X} made [] ys e = subst (λ zs. AllOf (λ y. (x : X) × (made x ≡ Some y)) zs) (some-same e) tt
each-made {X = X} {Y = Y} made (x ∷ xs) ys e = by (made x) refl (each made xs) refl e (each-made made xs)
  where
    by : (o : Option Y) → made x ≡ o → (p : Option (List Y)) → each made xs ≡ p → (o >>= λ y. p >>= λ zs. Some (y ∷ zs)) ≡ Some ys →
        ((zs : List Y) → each made xs ≡ Some zs → AllOf (λ y. (z : X) × (made z ≡ Some y)) zs) → AllOf (λ y. (z : X) × (made z ≡ Some y)) ys
    by None i p j l later = none-some l
    by (Some y) i None j l later = none-some l
    by (Some y) i (Some zs) j l later = subst (λ vs. AllOf (λ y. (z : X) × (made z ≡ Some y)) vs) (some-same l) ((x, i), later zs j)

-- ---- nodes of binds

module _ (all : List Visit) (v : AreVisits all) (hung : (k : ℕ) (x : Visit) → found k all ≡ Some x → is_text x.content ≡ true → (q : ℕ) × (z : Visit) × (found q all ≡ Some z) × (is_element z.content ≡ true) × (x.above ≡ q ∷ z.above)) where
  -- no text, and no root with nothing above it
  abbrev pub IsSolid : ℕ → Type 0
  IsSolid k = (x : Visit) × (found k (untexted all) ≡ Some x) × (is_root x.content ≡ true → has_parent x.above ≡ true)

  element-solid : (c : Content) → is_element c ≡ true → is_text c ≡ false
  element-solid content.Root h = refl
  element-solid (content.Element name) h = refl
  element-solid (content.Attribute name text) h = refl
  element-solid (content.Text text) h = no h

  element-root : (c : Content) → is_element c ≡ true → is_root c ≡ false
  element-root content.Root h = no h
  element-root (content.Element name) h = refl
  element-root (content.Attribute name text) h = no h
  element-root (content.Text text) h = no h

  parent-first : (n : ℕ) (ns : List ℕ) → is_first n ns ≡ true → has_parent ns ≡ true
  parent-first n [] h = h
  parent-first n (m ∷ ms) h = refl

  solid-at : (k : ℕ) (x : Visit) → found k all ≡ Some x → is_text x.content ≡ false → (is_root x.content ≡ true → has_parent x.above ≡ true) → IsSolid k
  solid-at k x e t r = (x, found-in (λ y. not (is_text y.content)) k all x v.apart e (ap not t), r)

  -- no root
  plain-at : (k : ℕ) (x : Visit) → found k all ≡ Some x → is_text x.content ≡ false → is_root x.content ≡ false → IsSolid k
  plain-at k x e t r = solid-at k x e t (λ h. no (sym r ∙ h))

  one-solid : (k n : ℕ) → IsSolid n → has k (n ∷ []) ≡ true → IsSolid k
  one-solid k n s h = elim (or-cases (k == n) false h) [ inl a ↦ subst IsSolid (sym (eqb-true k n a)) s | inr b ↦ no b ]

  -- what stands in for a node is no text, since texts stand in elements
  stand-solid : (n : ℕ) (x : Visit) → found n all ≡ Some x → (c : Content) → x.content ≡ c → (k : ℕ) → has k (stand_in all x c) ≡ true → IsSolid k
  stand-solid n x e content.Root i k h =
      let y = kept-found (λ y. is_first x.number y.above && not (is_attribute y.content)) k all v.apart h in
      by y.0 y.1 (and-true (is_first x.number y.0.above) (not (is_attribute y.0.content)) y.2).0 (is_text y.0.content) refl
    where
      by : (y : Visit) → found k all ≡ Some y → is_first x.number y.above ≡ true → (b : Bool) → is_text y.content ≡ b → IsSolid k
      by y j f false t = solid-at k y j t (λ r. parent-first x.number y.above f)
      by y j f true t =
          let p = hung k y j t in
          let same : x.number ≡ p.0 = first-same x.number p.0 y.above p.1.above p.4 f in
          let z : p.1 ≡ x = some-same (sym p.2 ∙ ap (λ q. found q all) (sym same ∙ found-number n all x e) ∙ e) in
          no (sym (ap is_element i) ∙ ap (λ (q : Visit). is_element q.content) (sym z) ∙ p.3)
  stand-solid n x e (content.Element name) i k h = one-solid k x.number (subst IsSolid (sym (found-number n all x e)) (plain-at n x e (ap is_text i) (ap is_root i))) h
  stand-solid n x e (content.Attribute name text) i k h = one-solid k x.number (subst IsSolid (sym (found-number n all x e)) (plain-at n x e (ap is_text i) (ap is_root i))) h
  stand-solid n x e (content.Text text) i k h =
      let p = hung n x e (ap is_text i) in
      one-solid k p.0 (plain-at p.0 p.1 p.2 (element-solid p.1.content p.3) (element-root p.1.content p.3)) (ap (λ ns. has k (as_list (first_of ns))) (sym p.4) ∙ h)

  bound-solid : (ns : List ℕ) (k : ℕ) → has k (bound_nodes all ns) ≡ true → IsSolid k
  bound-solid ns k h =
      let y = kept-found (λ x. has x.number (flat_map (λ n. stand_ins all (found n all)) ns)) k all v.apart h in
      let from = flat-has (λ n. stand_ins all (found n all)) k ns (ap (λ j. has j (flat_map (λ n. stand_ins all (found n all)) ns)) (sym (found-number k all y.0 y.1)) ∙ y.2) in
      by from.0 (found from.0 all) refl from.2
    where
      by : (n : ℕ) (o : Option Visit) → found n all ≡ o → has k (stand_ins all o) ≡ true → IsSolid k
      by n None e i = no i
      by n (Some x) e i = stand-solid n x e x.content refl k i

  joined-solid : (sets : List (List ℕ)) → AllOf (λ ns. (k : ℕ) → has k ns ≡ true → IsSolid k) sets → (k : ℕ) → has k (joined sets) ≡ true → IsSolid k
  joined-solid [] h k i = no i
  joined-solid (ns ∷ sets) h k i = elim (has-append k ns (joined sets) i) [ inl a ↦ h.0 k a | inr b ↦ joined-solid sets h.1 k b ]

  -- the sets of a bind
  sets-solid : (scope : Scope) (r : Rule) → AllOf (λ ns. (k : ℕ) → has k ns ≡ true → IsSolid k) (unwrap_or (sets_of None scope all r) [])
  sets-solid scope r = by (reached_through None scope all (chain_around (chains scope) r.around) (begun scope))
    where
      made : (t : List ℕ) → (x : ℕ) × (set_from None scope all r.node_set x ≡ Some t) → (k : ℕ) → has k t ≡ true → IsSolid k
      made t x k h = of (r.node_set.meaning (setting_for None scope all x.0) (alone x.0)) x.1
        where
          of : (o : Option Value) → option_map (λ w. bound_nodes all (nodes_of w)) o ≡ Some t → IsSolid k
          of None e = none-some e
          of (Some w) e = bound-solid (nodes_of w) k (ap (has k) (some-same e) ∙ h)

      at : (o : Option (List (List ℕ))) → ((sets : List (List ℕ)) → o ≡ Some sets → AllOf (λ ns. (k : ℕ) → has k ns ≡ true → IsSolid k) sets) → AllOf (λ ns. (k : ℕ) → has k ns ≡ true → IsSolid k) (unwrap_or o [])
      at None h = tt
      at (Some sets) h = h sets refl

      by : (o : Option (List ℕ)) → AllOf (λ ns. (k : ℕ) → has k ns ≡ true → IsSolid k) (unwrap_or (o >>= λ ns. each (set_from None scope all r.node_set) ns) [])
      by None = tt
      by (Some ns) = at (each (set_from None scope all r.node_set) ns) (λ sets e. each_then _ _ made sets (each-made (set_from None scope all r.node_set) ns sets e))

  -- ---- entries

  -- an entry of one of these rules, which are counted from here
  pub record Stands (rules : List Rule) (at : ℕ) (e : Entry) : Type 0 where
    pub place : ℕ
    pub rule : Rule
    pub is_rule : slice_get rules place ≡ Some rule
    pub bind : e.bind ≡ at + place
    pub property : sets rule e.property ≡ true
    pub node : IsSolid e.node

  later : (r : Rule) (rs : List Rule) (k : ℕ) (e : Entry) → Stands rs (suc k) e → Stands (r ∷ rs) k e
  later r rs k e s = record { place = suc s.place; rule = s.rule; is_rule = s.is_rule; bind = s.bind ∙ moved k s.place; property = s.property; node = s.node }
    where
      moved : (i j : ℕ) → suc i + j ≡ i + suc j
      moved i j = omega arith

  entries-stand : (r : Rule) (rs : List Rule) (k : ℕ) (made : List (List ℕ)) (ns : List ℕ) → ((n : ℕ) → has n ns ≡ true → IsSolid n) → AllOf (Stands (r ∷ rs) k) (entries_on k made (properties_of r) ns)
  entries-stand r rs k made ns solid =
      all-flat (Stands (r ∷ rs) k) (λ n. flat_map (entries_at k made n) (properties_of r)) ns
      (all-in (λ n. AllOf (Stands (r ∷ rs) k) (flat_map (entries_at k made n) (properties_of r))) ns (λ n h.
      all-flat (Stands (r ∷ rs) k) (entries_at k made n) (properties_of r)
      (each_then _ _ (λ p set. all-map (Stands (r ∷ rs) k) (entry_of k p n) (flat_map (standing_in n) made) (λ standing.
      record { place = 0; rule = r; is_rule = refl; bind = same k; property = set; node = solid n h })) (properties_of r) (kept-each (sets r) (Kind ∷ Calculate ∷ Relevant ∷ Readonly ∷ Required ∷ Constraint ∷ [])))))
    where
      same : (i : ℕ) → i ≡ i + 0
      same i = omega arith

  -- those that one bind sets
  pub bind-stands : (scope : Scope) (k : ℕ) (r : Rule) (rs : List Rule) → AllOf (Stands (r ∷ rs) k) (entries_by scope all k r)
  bind-stands scope k r rs = entries-stand r rs k (unwrap_or (sets_of None scope all r) []) (in_order all (joined (unwrap_or (sets_of None scope all r) []))) (ordered (unwrap_or (sets_of None scope all r) []) (sets-solid scope r))
    where
      ordered : (made : List (List ℕ)) → AllOf (λ ns. (n : ℕ) → has n ns ≡ true → IsSolid n) made → (n : ℕ) → has n (in_order all (joined made)) ≡ true → IsSolid n
      ordered made solid n h =
          let y = kept-found (λ x. has x.number (joined made)) n all v.apart h in
          joined-solid made solid n (ap (λ j. has j (joined made)) (sym (found-number n all y.0 y.1)) ∙ y.2)

  from-stand : (scope : Scope) (k : ℕ) (rs : List Rule) → AllOf (Stands rs k) (entries_from scope all k rs)
  from-stand scope k [] = tt
  from-stand scope k (r ∷ rs) =
      all-append (Stands (r ∷ rs) k) (if r.model == scope.model then entries_by scope all k r else []) (entries_from scope all (suc k) rs)
      (by (r.model == scope.model)) (each_then _ _ (λ e s. later r rs k e s) (entries_from scope all (suc k) rs) (from-stand scope (suc k) rs))
    where
      by : (b : Bool) → AllOf (Stands (r ∷ rs) k) (if b then entries_by scope all k r else [])
      by true = bind-stands scope k r rs
      by false = tt

  pub entries-standing : (scope : Scope) → AllOf (Stands scope.rules 0) (all_entries scope all)
  entries-standing scope = from-stand scope 0 scope.rules

  -- ---- no exception

  leaf-at : (earlier : List Entry) (e : Entry) → exception_at all earlier e ≡ None → is_calculate e ≡ true → has_elements all e.node ≡ false
  leaf-at earlier e h c = by (list_any (sets_same e) earlier) (has_elements all e.node) (ap (λ b. if list_any (sets_same e) earlier then Some (twice e.node) else if b && has_elements all e.node then Some (on_parent e.node) else None) (sym c) ∙ h)
    where
      by : (a b : Bool) → (if a then Some (twice e.node) else if true && b then Some (on_parent e.node) else None) ≡ None → b ≡ false
      by true b i = none-some (sym i)
      by false true i = none-some (sym i)
      by false false i = refl

  first-none : (o p : Option Exception) → or_later o p ≡ None → (o ≡ None) × (p ≡ None)
  first-none None p h = (refl, h)
  first-none (Some x) p h = none-some (sym h)

  pub leaves : (earlier es : List Entry) → exception_from all earlier es ≡ None → AllOf (λ e. is_calculate e ≡ true → has_elements all e.node ≡ false) es
  leaves earlier [] h = tt
  leaves earlier (e ∷ es) h =
      let parts = first-none (exception_at all earlier e) (exception_from all (e ∷ earlier) es) h in
      (leaf-at earlier e parts.0, leaves (e ∷ earlier) es parts.1)

-- ---- a node stands once

none-there : (n : ℕ) (xs : List Visit) → has n (numbers_of xs) ≡ false → length (filter (λ x. n == x.number) xs) ≡ 0
none-there n [] h = refl
none-there n (x ∷ xs) h = by (n == x.number) h (none-there n xs)
  where
    by : (b : Bool) → (b || has n (numbers_of xs)) ≡ false → (has n (numbers_of xs) ≡ false → length (filter (λ y. n == y.number) xs) ≡ 0) → length (cond b (x ∷ filter (λ y. n == y.number) xs) (filter (λ y. n == y.number) xs)) ≡ 0
    by true i rest = no (sym i)
    by false i rest = rest i

pub stands-once : (n : ℕ) (xs : List Visit) → are_apart (numbers_of xs) ≡ true → has n (numbers_of xs) ≡ true → length (filter (λ x. n == x.number) xs) ≡ 1
stands-once n [] a h = no h
stands-once n (x ∷ xs) a h = by (n == x.number) refl h (stands-once n xs parts.1)
  where
    parts : (not (has x.number (numbers_of xs)) ≡ true) × (are_apart (numbers_of xs) ≡ true)
    parts = and-true (not (has x.number (numbers_of xs))) (are_apart (numbers_of xs)) a

    one : length (filter (λ y. n == y.number) xs) ≡ 0 → length (x ∷ filter (λ y. n == y.number) xs) ≡ 1
    one none = ap suc none

    by : (b : Bool) → (n == x.number) ≡ b → (b || has n (numbers_of xs)) ≡ true → (has n (numbers_of xs) ≡ true → length (filter (λ y. n == y.number) xs) ≡ 1) → length (cond b (x ∷ filter (λ y. n == y.number) xs) (filter (λ y. n == y.number) xs)) ≡ 1
    by true e i rest = one (none-there n xs (ap (λ k. has k (numbers_of xs)) (eqb-true n x.number e) ∙ not-true (has x.number (numbers_of xs)) parts.0))
    by false e i rest = rest i

-- ---- elements in a node, in the shape as in the data

any-map : (p : Visit → Bool) → ((x : Visit) → p (erased x) ≡ p x) → (xs : List Visit) → list_any p (map erased xs) ≡ list_any p xs
any-map p h [] = refl
any-map p h (x ∷ xs) = ap (λ b. b || list_any p (map erased xs)) (h x) ∙ ap (λ b. p x || b) (any-map p h xs)

any-solid : (p : Visit → Bool) → ((x : Visit) → p x ≡ true → not (is_text x.content) ≡ true) → (xs : List Visit) → list_any p (untexted xs) ≡ list_any p xs
any-solid p h [] = refl
any-solid p h (x ∷ xs) = by (not (is_text x.content)) refl (any-solid p h xs)
  where
    by : (b : Bool) → not (is_text x.content) ≡ b → list_any p (untexted xs) ≡ list_any p xs → list_any p (cond b (x ∷ untexted xs) (untexted xs)) ≡ (p x || list_any p xs)
    by true e i = ap (λ b. p x || b) i
    by false e i = i ∙ of (p x) refl
      where
        of : (c : Bool) → p x ≡ c → list_any p xs ≡ (c || list_any p xs)
        of true j = no (sym e ∙ h x j)
        of false j = refl

element-kept : (c : Content) → is_element (without_text c) ≡ is_element c
element-kept content.Root = refl
element-kept (content.Element name) = refl
element-kept (content.Attribute name text) = refl
element-kept (content.Text text) = refl

element-no_text : (c : Content) → is_element c ≡ true → not (is_text c) ≡ true
element-no_text content.Root h = refl
element-no_text (content.Element name) h = refl
element-no_text (content.Attribute name text) h = refl
element-no_text (content.Text text) h = no h

abbrev is_in : ℕ → Visit → Bool
is_in n y = is_element y.content && is_first n y.above

pub elements-same : (all : List Visit) (n : ℕ) → has_elements (map erased (shape all)) n ≡ has_elements all n
elements-same all n =
    sym (any-solid (is_in n) (λ x h. element-no_text x.content (and-true (is_element x.content) (is_first n x.above) h).0) (map erased (shape all)))
    ∙ ap (list_any (is_in n)) (shape-untexted all)
    ∙ any-solid (is_in n) (λ x h. element-no_text x.content (and-true (is_element x.content) (is_first n x.above) h).0) (map erased all)
    ∙ any-map (is_in n) (λ x. ap (λ b. b && is_first n x.above) (element-kept x.content)) all
