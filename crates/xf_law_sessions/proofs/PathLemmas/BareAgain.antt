-- The bare tree of a planted element plants the same contents.
use Rattle.std.proofs.Common.{◌≡◌, ℕ, suc, ◌==◌, true, false, not, cond, ◌||◌, List, [], ◌∷◌, ◌++◌, map, flat_map, nat_lt, Option, Some, None, refl, sym, ap, ◌∙◌, subst, arith, append_assoc}
use Rattle.std.specs.List.{list_any}
use Rattle.std.proofs.lemmas.Bool.Decides.{nat_tests}
use Rattle.xf_name.specs.Bindings.{Bindings}
use Rattle.xf_name.specs.Part.{is_part}
use Rattle.xf_name.specs.Faults.{has_double}
use Rattle.xf_name.specs.declared.qname.QName.{QName}
use Rattle.xf_def_forest.specs.declared.bare.Bare.{Bare}
use Rattle.xf_def_forest.specs.declared.bare.Bare.TheOpen.{Bare-F, BareElement-F}
use Rattle.xf_def_forest.specs.declared.bare.Bare.TheFolds.{fold-roll-Bare, fold-roll-BareElement, map-Bare, ind-Bare, ind-BareElement}
use Rattle.xf_def_forest.specs.declared.bare.Bare.TheViews.{roll-Bare, roll-BareElement}
use Rattle.xf_def_forest.specs.declared.bare.Bare.TheVariants as bare
use Rattle.xf_def_forest.specs.declared.bare.BareElement.{BareElement, fold-BareElement}
use Rattle.xf_def_forest.specs.declared.bare.BareAttribute.{BareAttribute}
use Rattle.xf_def_forest.specs.declared.content.Content.{Content}
use Rattle.xf_def_forest.specs.declared.content.Content.TheVariants.{Element, Text}
use Rattle.xf_def_forest.specs.declared.content.Node.{Node}
use Rattle.xf_def_forest.specs.declared.fault.TreeFault.{TreeFault}
use Rattle.xf_def_forest.specs.declared.fault.TreeFault.TheVariants.{BadName, Prefix}
use Rattle.xf_def_forest.specs.Forest.{Forest, tree_of}
use Rattle.xf_def_forest.specs.Limits.{Limits}
use Rattle.xf_def_forest.specs.Literal.{Part, attribute_part, tree_part, attributes_in, trees_in, inner, outer, gathered, first_tree_in, bare_part, bare_of}
use Rattle.xf_def_forest.specs.Plant.{Contents, at_depth, name_for, text_contents, in_order}
use Rattle.xf_def_forest.specs.Planted.{Elements, contents_of_bare, bare_contents, bare_element_contents, bare_attribute, elements_of_bare, bare_elements, bare_element_elements, bare_fault, has_bad_bare, is_bound_attribute, is_bound_element, would_declare, first_fault, or_later, with_tree, unless_fault, planted_bare}
use Rattle.xf_law_sessions.specs.Path.Again.{unnumbered, BareAgain}
use Rattle.xf_law_sessions.proofs.PathLemmas.Sorted.{order-again, sorted, sorted-is, sorted-any, sorted-double}

abbrev Parts : Type 0
Parts = List (ℕ × Part BareAttribute Bare)

abbrev parts : List Node → Parts
parts nodes = gathered bare_part nodes

-- ---- lists

heads : {A : Type 0} (p q : A) (ps qs : List A) → p ∷ ps ≡ q ∷ qs → (p ≡ q) × (ps ≡ qs)
heads p q ps qs h = (cc h, cc h)

-- nodes of which the contents come from two lists
split : (xs : List Node) (A B : List (ℕ × Content)) → unnumbered xs ≡ A ++ B → (ys : List Node) × (zs : List Node) × (xs ≡ ys ++ zs) × (unnumbered ys ≡ A) × (unnumbered zs ≡ B)
split xs [] B h = ([], xs, refl, refl, h)
split [] (a ∷ A) B h = cc h
split (x ∷ xs) (a ∷ A) B h =
    let one = heads (x.depth, x.content) a (unnumbered xs) (A ++ B) h in
    let rest = split xs A B one.1 in
    (x ∷ rest.0, rest.1, ap (λ l. x ∷ l) rest.2, ap (λ l. (x.depth, x.content) ∷ l) rest.3 ∙ ap (λ y. y ∷ A) one.0, rest.4)

empty : (xs : List Node) → unnumbered xs ≡ [] → xs ≡ []
empty [] h = refl
empty (x ∷ xs) h = cc h

-- ---- parts that are no deeper

abbrev Low : ℕ → Parts → Type 0
Low d [] = Unit {0}
Low d (p ∷ ps) = nat_lt d p.0 ≡ false

low-more : (d : ℕ) (ps : Parts) → Low d ps → Low (suc d) ps
low-more d [] h = tt
low-more d (p ∷ ps) h = grind (arith, nat_tests, h)

low-inner : (d : ℕ) (ps : Parts) → Low d ps → inner d ps ≡ []
low-inner d [] h = refl
low-inner d (p ∷ ps) h = ap (λ b. cond b (p.1 ∷ inner d ps) []) h

low-outer : (d : ℕ) (ps : Parts) → Low d ps → outer d ps ≡ ps
low-outer d [] h = refl
low-outer d (p ∷ ps) h = ap (λ b. cond b (outer d ps) (p ∷ ps)) h

abbrev at : {A : Type 0} → ℕ → (A → Part BareAttribute Bare) → List A → Parts
at d part xs = map (λ x. (d, part x)) xs

below : (d : ℕ) → nat_lt d (suc d) ≡ true
below d = grind (arith, nat_tests)

not-below : (d : ℕ) → nat_lt d d ≡ false
not-below d = grind (arith, nat_tests)

low-at : {A : Type 0} (d : ℕ) (part : A → Part BareAttribute Bare) (xs : List A) (ps : Parts) → Low d ps → Low d (at d part xs ++ ps)
low-at d part [] ps h = h
low-at d part (x ∷ xs) ps h = not-below d

-- what stands one deeper than a node is taken in
inner-at : {A : Type 0} (d : ℕ) (part : A → Part BareAttribute Bare) (xs : List A) (ps : Parts) → inner d (at (suc d) part xs ++ ps) ≡ map part xs ++ inner d ps
inner-at d part [] ps = refl
inner-at d part (x ∷ xs) ps = ap (λ b. cond b (part x ∷ inner d (at (suc d) part xs ++ ps)) []) (below d) ∙ ap (λ l. part x ∷ l) (inner-at d part xs ps)

outer-at : {A : Type 0} (d : ℕ) (part : A → Part BareAttribute Bare) (xs : List A) (ps : Parts) → outer d (at (suc d) part xs ++ ps) ≡ outer d ps
outer-at d part [] ps = refl
outer-at d part (x ∷ xs) ps = ap (λ b. cond b (outer d (at (suc d) part xs ++ ps)) ((suc d, part x) ∷ at (suc d) part xs ++ ps)) (below d) ∙ outer-at d part xs ps

attributes-of : (ys : List BareAttribute) (ts : List Bare) → attributes_in (map attribute_part ys ++ map tree_part ts) ≡ ys
attributes-of (y ∷ ys) ts = ap (λ l. y ∷ l) (attributes-of ys ts)
attributes-of [] [] = refl
attributes-of [] (t ∷ ts) = attributes-of [] ts

trees-of : (ys : List BareAttribute) (ts : List Bare) → trees_in (map attribute_part ys ++ map tree_part ts) ≡ ts
trees-of (y ∷ ys) ts = trees-of ys ts
trees-of [] [] = refl
trees-of [] (t ∷ ts) = ap (λ l. t ∷ l) (trees-of [] ts)

module _ (b : Bindings) where
  -- ---- contents, elements and faults of trees

  abbrev of_element : BareElement → Contents
  of_element = fold-BareElement Contents Contents bare_contents (bare_element_contents b)

  abbrev in_element : BareElement → Elements
  in_element = fold-BareElement Elements Elements bare_elements bare_element_elements

  abbrev fault : Elements → Option TreeFault
  fault = first_fault (bare_fault b)

  element-contents : (e : BareElement) → contents_of_bare b (bare.Element e) ≡ of_element e
  element-contents e = ap (contents_of_bare b) (sym (bare.rolls-Element e)) ∙ fold-roll-Bare Contents Contents bare_contents (bare_element_contents b) (Bare-F.Element e)

  element-elements : (e : BareElement) → elements_of_bare (bare.Element e) ≡ in_element e
  element-elements e = ap elements_of_bare (sym (bare.rolls-Element e)) ∙ fold-roll-Bare Elements Elements bare_elements bare_element_elements (Bare-F.Element e)

  text-contents : (text : List ℕ) → contents_of_bare b (bare.Text text) ≡ text_contents text
  text-contents text = ap (contents_of_bare b) (sym (bare.rolls-Text text)) ∙ fold-roll-Bare Contents Contents bare_contents (bare_element_contents b) (Bare-F.Text text)

  text-elements : (text : List ℕ) → elements_of_bare (bare.Text text) ≡ []
  text-elements text = ap elements_of_bare (sym (bare.rolls-Text text)) ∙ fold-roll-Bare Elements Elements bare_elements bare_element_elements (Bare-F.Text text)

  abbrev rolled : QName → List BareAttribute → List Bare → BareElement
  rolled name ys children = roll-BareElement (record { name = name; attributes = ys; children = children })

  abbrev children_at : ℕ → List Bare → List (ℕ × Content)
  children_at d children = flat_map (λ t. contents_of_bare b t 0 d) children

  flat-mapped : (d : ℕ) (children : List Bare) → flat_map (λ child. child 0 d) (map (contents_of_bare b) children) ≡ children_at d children
  flat-mapped d [] = refl
  flat-mapped d (t ∷ ts) = ap (λ l. contents_of_bare b t 0 d ++ l) (flat-mapped d ts)

  rolled-contents : (name : QName) (ys : List BareAttribute) (children : List Bare) (d : ℕ) →
      of_element (rolled name ys children) 0 d ≡ (d, Element (name_for b name)) ∷ at_depth (suc d) (in_order (map (bare_attribute b) ys)) ++ children_at (suc d) children
  rolled-contents name ys children d =
      ap (λ w. w 0 d) (fold-roll-BareElement Contents Contents bare_contents (bare_element_contents b) (record { name = name; attributes = ys; children = children }))
      ∙ ap (λ l. (d, Element (name_for b name)) ∷ at_depth (suc d) (in_order (map (bare_attribute b) ys)) ++ l) (flat-mapped (suc d) children)

  flat-elements : (children : List Bare) → flat_map (λ child. child) (map elements_of_bare children) ≡ flat_map elements_of_bare children
  flat-elements [] = refl
  flat-elements (t ∷ ts) = ap (λ l. elements_of_bare t ++ l) (flat-elements ts)

  rolled-elements : (name : QName) (ys : List BareAttribute) (children : List Bare) → in_element (rolled name ys children) ≡ (name, ys) ∷ flat_map elements_of_bare children
  rolled-elements name ys children =
      fold-roll-BareElement Elements Elements bare_elements bare_element_elements (record { name = name; attributes = ys; children = children })
      ∙ ap (λ l. (name, ys) ∷ l) (flat-elements children)

  -- the order of attributes makes no difference to their faults
  sorted-fault : (name : QName) (ys : List BareAttribute) → bare_fault b (name, sorted b ys) ≡ bare_fault b (name, ys)
  sorted-fault name ys =
      ap (λ c. cond c (Some BadName) (cond (not (is_bound_element b name) || list_any (λ a. not (is_bound_attribute b a.name)) (sorted b ys)) (Some Prefix) None))
      (ap (λ c. not (is_part name.local) || c || has_double (map (λ (a : BareAttribute). (a.name.space, a.name.local)) (sorted b ys))) (sorted-any b (λ a. not (is_part a.name.local) || would_declare b a) ys)
      ∙ ap (λ c. not (is_part name.local) || list_any (λ (a : BareAttribute). not (is_part a.name.local) || would_declare b a) ys || c) (sorted-double b ys))
      ∙ ap (λ c. cond (has_bad_bare b name ys) (Some BadName) (cond (not (is_bound_element b name) || c) (Some Prefix) None)) (sorted-any b (λ a. not (is_bound_attribute b a.name)) ys)

  -- ---- attributes

  attribute-parts : (ys : List BareAttribute) (d : ℕ) (xs rest : List Node) → unnumbered xs ≡ at_depth (suc d) (map (bare_attribute b) ys) → Low (suc d) (parts rest) →
      parts (xs ++ rest) ≡ at (suc d) attribute_part ys ++ parts rest
  attribute-parts [] d xs rest h low = ap (λ l. parts (l ++ rest)) (empty xs h)
  attribute-parts (y ∷ ys) d [] rest h low = cc h
  attribute-parts (y ∷ ys) d (x ∷ xs) rest h low =
      let one = heads (x.depth, x.content) (suc d, bare_attribute b y) (unnumbered xs) (at_depth (suc d) (map (bare_attribute b) ys)) h in
      let deep : x.depth ≡ suc d = ap (λ (p : ℕ × Content). p.0) one.0 in
      let is : x.content ≡ bare_attribute b y = ap (λ (p : ℕ × Content). p.1) one.0 in
      let after = at (suc d) attribute_part ys ++ parts rest in
      let low_after : Low (suc d) after = low-at (suc d) attribute_part ys (parts rest) low in
      ap (λ l. (x.depth, bare_part x.content (inner x.depth l)) ∷ outer x.depth l) (attribute-parts ys d xs rest one.1 low)
      ∙ ap (λ k. (k, bare_part x.content (inner k after)) ∷ outer k after) deep
      ∙ ap (λ c. (suc d, bare_part c (inner (suc d) after)) ∷ outer (suc d) after) is
      ∙ ap (λ l. (suc d, attribute_part y) ∷ l) (low-outer (suc d) after low_after)

  -- ---- what a tree comes to

  -- a child: one tree, or none for an empty text
  record Again (x : Bare) : Type 0 where
    ts : List Bare
    made : (d : ℕ) (xs rest : List Node) → unnumbered xs ≡ contents_of_bare b x 0 (suc d) → Low (suc d) (parts rest) → parts (xs ++ rest) ≡ at (suc d) tree_part ts ++ parts rest
    contents : (d : ℕ) → children_at (suc d) ts ≡ contents_of_bare b x 0 (suc d)
    faults : (more : Elements) → fault (flat_map elements_of_bare ts ++ more) ≡ fault (elements_of_bare x ++ more)

  record AgainElement (e : BareElement) : Type 0 where
    t : BareElement
    made : (d : ℕ) (xs rest : List Node) → unnumbered xs ≡ of_element e 0 d → Low d (parts rest) → parts (xs ++ rest) ≡ (d, tree_part (bare.Element t)) ∷ parts rest
    contents : (d : ℕ) → of_element t 0 d ≡ of_element e 0 d
    faults : (more : Elements) → fault (in_element t ++ more) ≡ fault (in_element e ++ more)

  abbrev Child : Type 0
  Child = (x : Bare) × Again x

  abbrev all_trees : List Child → List Bare
  all_trees [] = []
  all_trees (k ∷ ks) = k.1.ts ++ all_trees ks

  abbrev plain : List Child → List Bare
  plain ks = map (λ (k : Child). k.0) ks

  at-append : (d : ℕ) (ts us : List Bare) (ps : Parts) → at d tree_part ts ++ (at d tree_part us ++ ps) ≡ at d tree_part (ts ++ us) ++ ps
  at-append d [] us ps = refl
  at-append d (t ∷ ts) us ps = ap (λ l. (d, tree_part t) ∷ l) (at-append d ts us ps)

  child-parts : (ks : List Child) (d : ℕ) (xs rest : List Node) → unnumbered xs ≡ children_at (suc d) (plain ks) → Low (suc d) (parts rest) →
      parts (xs ++ rest) ≡ at (suc d) tree_part (all_trees ks) ++ parts rest
  child-parts [] d xs rest h low = ap (λ l. parts (l ++ rest)) (empty xs h)
  child-parts (k ∷ ks) d xs rest h low =
      let s = split xs (contents_of_bare b k.0 0 (suc d)) (children_at (suc d) (plain ks)) h in
      let later = child-parts ks d s.1 rest s.4 low in
      ap (λ l. parts (l ++ rest)) s.2 ∙ ap parts (append_assoc s.0 s.1 rest)
      ∙ k.1.made d s.0 (s.1 ++ rest) s.3 (subst (Low (suc d)) (sym later) (low-at (suc d) tree_part (all_trees ks) (parts rest) low))
      ∙ ap (λ l. at (suc d) tree_part k.1.ts ++ l) later
      ∙ at-append (suc d) k.1.ts (all_trees ks) (parts rest)

  children-append : (d : ℕ) (ts us : List Bare) → children_at d (ts ++ us) ≡ children_at d ts ++ children_at d us
  children-append d [] us = refl
  children-append d (t ∷ ts) us = ap (λ l. contents_of_bare b t 0 d ++ l) (children-append d ts us) ∙ sym (append_assoc (contents_of_bare b t 0 d) (children_at d ts) (children_at d us))

  child-contents : (ks : List Child) (d : ℕ) → children_at (suc d) (all_trees ks) ≡ children_at (suc d) (plain ks)
  child-contents [] d = refl
  child-contents (k ∷ ks) d = children-append (suc d) k.1.ts (all_trees ks) ∙ ap (λ l. l ++ children_at (suc d) (all_trees ks)) (k.1.contents d) ∙ ap (λ l. contents_of_bare b k.0 0 (suc d) ++ l) (child-contents ks d)

  elements-append : (ts us : List Bare) → flat_map elements_of_bare (ts ++ us) ≡ flat_map elements_of_bare ts ++ flat_map elements_of_bare us
  elements-append [] us = refl
  elements-append (t ∷ ts) us = ap (λ l. elements_of_bare t ++ l) (elements-append ts us) ∙ sym (append_assoc (elements_of_bare t) (flat_map elements_of_bare ts) (flat_map elements_of_bare us))

  -- of lists of elements of which the first part has no other fault
  fault-append : (xs ys more : Elements) → ((later : Elements) → fault (xs ++ later) ≡ fault (ys ++ later)) → fault (xs ++ more) ≡ fault (ys ++ more)
  fault-append xs ys more h = h more

  fault-behind : (xs ys zs : Elements) → fault ys ≡ fault zs → fault (xs ++ ys) ≡ fault (xs ++ zs)
  fault-behind [] ys zs h = h
  fault-behind (x ∷ xs) ys zs h = ap (or_later (bare_fault b x)) (fault-behind xs ys zs h)

  child-faults : (ks : List Child) (more : Elements) → fault (flat_map elements_of_bare (all_trees ks) ++ more) ≡ fault (flat_map elements_of_bare (plain ks) ++ more)
  child-faults [] more = refl
  child-faults (k ∷ ks) more =
      ap (λ l. fault (l ++ more)) (elements-append k.1.ts (all_trees ks))
      ∙ ap fault (append_assoc (flat_map elements_of_bare k.1.ts) (flat_map elements_of_bare (all_trees ks)) more)
      ∙ k.1.faults (flat_map elements_of_bare (all_trees ks) ++ more)
      ∙ fault-behind (elements_of_bare k.0) (flat_map elements_of_bare (all_trees ks) ++ more) (flat_map elements_of_bare (plain ks) ++ more) (child-faults ks more)
      ∙ sym (ap fault (append_assoc (elements_of_bare k.0) (flat_map elements_of_bare (plain ks)) more))

  -- ---- an element

  module _ (name : QName) (ys : List BareAttribute) (ks : List Child) where
    abbrev e : BareElement
    e = rolled name ys (plain ks)

    abbrev again : BareElement
    again = rolled name (sorted b ys) (all_trees ks)

    below-parts : (d : ℕ) (xs rest : List Node) → unnumbered xs ≡ at_depth (suc d) (in_order (map (bare_attribute b) ys)) ++ children_at (suc d) (plain ks) → Low d (parts rest) →
        parts (xs ++ rest) ≡ at (suc d) attribute_part (sorted b ys) ++ (at (suc d) tree_part (all_trees ks) ++ parts rest)
    below-parts d xs rest h low =
        let s = split xs (at_depth (suc d) (in_order (map (bare_attribute b) ys))) (children_at (suc d) (plain ks)) h in
        let kids = child-parts ks d s.1 rest s.4 (low-more d (parts rest) low) in
        ap (λ l. parts (l ++ rest)) s.2 ∙ ap parts (append_assoc s.0 s.1 rest)
        ∙ attribute-parts (sorted b ys) d s.0 (s.1 ++ rest) (s.3 ∙ ap (at_depth (suc d)) (sorted-is b ys)) (subst (Low (suc d)) (sym kids) (low-at (suc d) tree_part (all_trees ks) (parts rest) (low-more d (parts rest) low)))
        ∙ ap (λ l. at (suc d) attribute_part (sorted b ys) ++ l) kids

    taken-in : (d : ℕ) (ps : Parts) → Low d ps → inner d (at (suc d) attribute_part (sorted b ys) ++ (at (suc d) tree_part (all_trees ks) ++ ps)) ≡ map attribute_part (sorted b ys) ++ map tree_part (all_trees ks)
    taken-in d ps low =
        inner-at d attribute_part (sorted b ys) (at (suc d) tree_part (all_trees ks) ++ ps)
        ∙ ap (λ l. map attribute_part (sorted b ys) ++ l) (inner-at d tree_part (all_trees ks) ps ∙ ap (λ l. map tree_part (all_trees ks) ++ l) (low-inner d ps low) ∙ none (map tree_part (all_trees ks)))
      where
        none : (l : List (Part BareAttribute Bare)) → l ++ [] ≡ l
        none [] = refl
        none (x ∷ xs) = ap (λ m. x ∷ m) (none xs)

    left-out : (d : ℕ) (ps : Parts) → Low d ps → outer d (at (suc d) attribute_part (sorted b ys) ++ (at (suc d) tree_part (all_trees ks) ++ ps)) ≡ ps
    left-out d ps low = outer-at d attribute_part (sorted b ys) (at (suc d) tree_part (all_trees ks) ++ ps) ∙ outer-at d tree_part (all_trees ks) ps ∙ low-outer d ps low

    element-part : bare_part (Element (name_for b name)) (map attribute_part (sorted b ys) ++ map tree_part (all_trees ks)) ≡ tree_part (bare.Element again)
    element-part =
        ap (λ l. tree_part (bare.Element (rolled name l (trees_in (map attribute_part (sorted b ys) ++ map tree_part (all_trees ks)))))) (attributes-of (sorted b ys) (all_trees ks))
        ∙ ap (λ l. tree_part (bare.Element (rolled name (sorted b ys) l))) (trees-of (sorted b ys) (all_trees ks))

    element-made : (d : ℕ) (xs rest : List Node) → unnumbered xs ≡ of_element e 0 d → Low d (parts rest) → parts (xs ++ rest) ≡ (d, tree_part (bare.Element again)) ∷ parts rest
    element-made d [] rest h low = cc (h ∙ rolled-contents name ys (plain ks) d)
    element-made d (x ∷ xs) rest h low =
        let one = heads (x.depth, x.content) (d, Element (name_for b name)) (unnumbered xs) (at_depth (suc d) (in_order (map (bare_attribute b) ys)) ++ children_at (suc d) (plain ks)) (h ∙ rolled-contents name ys (plain ks) d) in
        let after = at (suc d) attribute_part (sorted b ys) ++ (at (suc d) tree_part (all_trees ks) ++ parts rest) in
        ap (λ l. (x.depth, bare_part x.content (inner x.depth l)) ∷ outer x.depth l) (below-parts d xs rest one.1 low)
        ∙ ap (λ k. (k, bare_part x.content (inner k after)) ∷ outer k after) (ap (λ (p : ℕ × Content). p.0) one.0)
        ∙ ap (λ c. (d, bare_part c (inner d after)) ∷ outer d after) (ap (λ (p : ℕ × Content). p.1) one.0)
        ∙ ap (λ l. (d, bare_part (Element (name_for b name)) l) ∷ outer d after) (taken-in d (parts rest) low)
        ∙ ap (λ p. (d, p) ∷ outer d after) element-part
        ∙ ap (λ l. (d, tree_part (bare.Element again)) ∷ l) (left-out d (parts rest) low)

    again-element : AgainElement e
    again-element = record {
      t = again;
      made = element-made;
      contents = λ d.
          rolled-contents name (sorted b ys) (all_trees ks) d
          ∙ ap (λ l. (d, Element (name_for b name)) ∷ at_depth (suc d) l ++ children_at (suc d) (all_trees ks)) (ap in_order (sym (sorted-is b ys)) ∙ order-again (map (bare_attribute b) ys))
          ∙ ap (λ l. (d, Element (name_for b name)) ∷ at_depth (suc d) (in_order (map (bare_attribute b) ys)) ++ l) (child-contents ks d)
          ∙ sym (rolled-contents name ys (plain ks) d);
      faults = λ more.
          ap (λ l. fault (l ++ more)) (rolled-elements name (sorted b ys) (all_trees ks))
          ∙ ap (λ f. or_later f (fault (flat_map elements_of_bare (all_trees ks) ++ more))) (sorted-fault name ys)
          ∙ ap (or_later (bare_fault b (name, ys))) (child-faults ks more)
          ∙ sym (ap (λ l. fault (l ++ more)) (rolled-elements name ys (plain ks)));
    }

  -- ---- a text

  -- an empty text is no child
  nothing : (d : ℕ) → text_contents [] 0 (suc d) ≡ []
  nothing d = ap (λ c. cond c ((0, Text []) ∷ []) []) (not-zero d)
    where
      not-zero : (k : ℕ) → (suc k == 0) ≡ false
      not-zero k = grind (arith, nat_tests)

  text-again : (text : List ℕ) → Again (bare.Text text)
  text-again [] = record {
    ts = [];
    made = λ d xs rest h low. ap (λ l. parts (l ++ rest)) (empty xs (h ∙ ap (λ w. w 0 (suc d)) (text-contents []) ∙ nothing d));
    contents = λ d. sym (nothing d) ∙ sym (ap (λ w. w 0 (suc d)) (text-contents []));
    faults = λ more. sym (ap (λ l. fault (l ++ more)) (text-elements []));
  }
  text-again (c ∷ cs) = record {
    ts = bare.Text (c ∷ cs) ∷ [];
    made = λ d xs rest h low. one d xs rest (h ∙ ap (λ w. w 0 (suc d)) (text-contents (c ∷ cs))) low;
    contents = λ d. none (contents_of_bare b (bare.Text (c ∷ cs)) 0 (suc d));
    faults = λ more. ap (λ l. fault (l ++ more)) (none (elements_of_bare (bare.Text (c ∷ cs))));
  }
    where
      none : {A : Type 0} (l : List A) → l ++ [] ≡ l
      none [] = refl
      none (x ∷ xs) = ap (λ m. x ∷ m) (none xs)

      one : (d : ℕ) (xs rest : List Node) → unnumbered xs ≡ (suc d, Text (c ∷ cs)) ∷ [] → Low (suc d) (parts rest) → parts (xs ++ rest) ≡ (suc d, tree_part (bare.Text (c ∷ cs))) ∷ parts rest
      one d [] rest h low = cc h
      one d (x ∷ xs) rest h low =
          let two = heads (x.depth, x.content) (suc d, Text (c ∷ cs)) (unnumbered xs) [] h in
          ap (λ l. parts (x ∷ l ++ rest)) (empty xs two.1)
          ∙ ap (λ k. (k, bare_part x.content (inner k (parts rest))) ∷ outer k (parts rest)) (ap (λ (p : ℕ × Content). p.0) two.0)
          ∙ ap (λ q. (suc d, bare_part q (inner (suc d) (parts rest))) ∷ outer (suc d) (parts rest)) (ap (λ (p : ℕ × Content). p.1) two.0)
          ∙ ap (λ l. (suc d, tree_part (bare.Text (c ∷ cs))) ∷ l) (low-outer (suc d) (parts rest) low)

  -- ---- every tree

  abbrev Inner : Type 0
  Inner = (e : BareElement) × AgainElement e

  element-child : (e : BareElement) → AgainElement e → Again (bare.Element e)
  element-child e h = record {
    ts = bare.Element h.t ∷ [];
    made = λ d xs rest i low. h.made (suc d) xs rest (i ∙ ap (λ w. w 0 (suc d)) (element-contents e)) low;
    contents = λ d. none (contents_of_bare b (bare.Element h.t) 0 (suc d)) ∙ ap (λ w. w 0 (suc d)) (element-contents h.t) ∙ h.contents (suc d) ∙ sym (ap (λ w. w 0 (suc d)) (element-contents e));
    faults = λ more.
        ap (λ l. fault (l ++ more)) (none (elements_of_bare (bare.Element h.t)) ∙ element-elements h.t)
        ∙ h.faults more ∙ sym (ap (λ l. fault (l ++ more)) (element-elements e));
  }
    where
      none : {A : Type 0} (l : List A) → l ++ [] ≡ l
      none [] = refl
      none (x ∷ xs) = ap (λ m. x ∷ m) (none xs)

  level : (y : Bare-F Child Inner) → Again (roll-Bare (map-Bare Child Inner Bare BareElement (λ c. c.0) (λ c. c.0) y))
  level (Bare-F.Text text) = subst Again (sym (bare.rolls-Text text)) (text-again text)
  level (Bare-F.Element e) = subst Again (sym (bare.rolls-Element e.0)) (element-child e.0 e.1)

  part-level : (y : BareElement-F Child Inner) → AgainElement (roll-BareElement (record { name = y.name; attributes = y.attributes; children = map (λ c. c.0) y.children }))
  part-level y = again-element y.name y.attributes y.children

  every : (x : Bare) → Again x
  every = ind-Bare Again AgainElement (λ x y is. subst (λ z. Again (roll-Bare z)) is (level y)) (λ x y is. subst (λ z. AgainElement (roll-BareElement z)) is (part-level y))

  every-element : (e : BareElement) → AgainElement e
  every-element = ind-BareElement Again AgainElement (λ x y is. subst (λ z. Again (roll-Bare z)) is (level y)) (λ x y is. subst (λ z. AgainElement (roll-BareElement z)) is (part-level y))

  module _ (e : BareElement) (depth n : ℕ) (nodes : List Node) (h : unnumbered (tree_of n nodes) ≡ contents_of_bare b (bare.Element e) 0 depth) where
    abbrev found_again : AgainElement e
    found_again = every-element e

    again-contents : (d : ℕ) → contents_of_bare b (bare.Element found_again.t) 0 d ≡ contents_of_bare b (bare.Element e) 0 d
    again-contents d = ap (λ w. w 0 d) (element-contents found_again.t) ∙ found_again.contents d ∙ sym (ap (λ w. w 0 d) (element-contents e))

    none : {A : Type 0} (l : List A) → l ++ [] ≡ l
    none [] = refl
    none (x ∷ xs) = ap (λ m. x ∷ m) (none xs)

    again-fault : fault (elements_of_bare (bare.Element found_again.t)) ≡ fault (elements_of_bare (bare.Element e))
    again-fault =
        ap fault (element-elements found_again.t ∙ sym (none (in_element found_again.t)))
        ∙ found_again.faults []
        ∙ sym (ap fault (element-elements e ∙ sym (none (in_element e))))

    again-bare : bare_of n nodes ≡ Some (bare.Element found_again.t)
    again-bare =
        ap (λ l. first_tree_in (parts l)) (sym (none (tree_of n nodes)))
        ∙ ap first_tree_in (found_again.made depth (tree_of n nodes) [] (h ∙ ap (λ w. w 0 depth) (element-contents e)) tt)

    again-planted : (l : Limits) (forest : Forest) → planted_bare l b (bare.Element found_again.t) forest ≡ planted_bare l b (bare.Element e) forest
    again-planted l forest =
        ap (λ f. unless_fault f (with_tree l (contents_of_bare b (bare.Element found_again.t) 0 0) forest)) again-fault
        ∙ ap (λ cs. unless_fault (fault (elements_of_bare (bare.Element e))) (with_tree l cs forest)) (again-contents 0)

pub bare_again : BareAgain
bare_again b e depth n nodes h = ((every-element b e).t, again-bare b e depth n nodes h, again-contents b e depth n nodes h, again-planted b e depth n nodes h)
