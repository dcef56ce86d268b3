-- A text that is set in an instance, and a tree that is detached from one, are so in the list of the instances alone.
use Rattle.std.proofs.Common.{◌≡◌, ℕ, suc, ◌==◌, Bool, true, false, not, cond, ◌&&◌, ◌||◌, List, [], ◌∷◌, ◌++◌, map, nat_lt, Some, refl, sym, ap, ◌∙◌, subst, inl, inr, arith}
use Rattle.std.specs.Prelude.{filter, option_map}
use Rattle.std.specs.List.{list_any, list_all}
use Rattle.std.proofs.lemmas.Bool.{cases_Bool}
use Rattle.std.proofs.lemmas.Bool.Decides.{nat_tests}
use Rattle.xf_def_forest.specs.declared.content.Node.{Node}
use Rattle.xf_def_forest.specs.declared.content.Content.{Content}
use Rattle.xf_def_forest.specs.declared.content.Content.TheVariants.{Root, Element, Attribute, Text}
use Rattle.xf_def_forest.specs.Forest.{Forest, is_root, is_element, is_attribute, has_number, kind_of, node_at, below, past, tree_of}
use Rattle.xf_def_forest.specs.Needs.{IsSettable}
use Rattle.xf_def_forest.specs.Settle.{with_numbered_text}
use Rattle.xf_def_forest.specs.Shape.{has_elements}
use Rattle.xf_def_forest.specs.Texts.{one_text, at_depth, with_content, with_texts, with_attribute_text, with_value, valued, is_attribute_at}
use Rattle.xf_def_forest.specs.Visit.{Visit, is_first, still_above, numbers, visit, visits_from, visits}
use Rattle.xf_def_forest.specs.Changes.{shifted, moved_to, without_tree, is_detached_top, in_instances, in_detached, detached}
use Rattle.xf_def_forest.specs.WellFormed.{HasTrees, are_apart as are_nodes_apart}
use Rattle.xf_def_forest.proofs.BackLaws.{and-true, or-false}
use Rattle.xf_def_forest.proofs.MoveLemmas.{gone-after}
use Rattle.xf_def_forest.proofs.OrderLaws.{seen-has}
use Rattle.xf_def_forest.proofs.RunLemmas.{AreDeeper, deeper-append, below-deeper, placed-deeper, tree-here, tree-other}
use Rattle.xf_def_xpath.specs.Asked.{found}
use Rattle.xf_def_xpath.proofs.VisitFacts.{or-cases, or-left, or-right, no, some-same, none-some, present}
use Rattle.xf_law_recalculation.specs.Marks.Marks.{SameNodes}
use Rattle.xf_law_recalculation.specs.Marks.Binds.{instances_of}
use Rattle.xf_law_recalculation.specs.Edit.Edits.{StandsIn}
use Rattle.xf_law_recalculation.specs.Edit.InstanceEdits.{TextSetInInstances, TreeDetached}
use Rattle.xf_law_recalculation.proofs.MarksLemmas.BindInstances.{front-number, front-trees}
use Rattle.xf_law_recalculation.proofs.MarksLemmas.Standing.{visits-parts}
use Rattle.xf_law_recalculation.proofs.EditLemmas.TextSetLaws.{text_set}
use Rattle.xf_law_recalculation.proofs.EditLemmas.CutLaws.{below-part, tree_cut}

-- ---- the front of a list

pub deep-no_top : (d : ℕ) (x : Node) → nat_lt d x.depth ≡ true → is_detached_top x ≡ false
deep-no_top d x h = let e : (x.depth == 0) ≡ false = grind (arith, nat_tests, h) in ap (λ b. b && not (is_root x.content)) e

pub front-deep : (d : ℕ) (zs ys : List Node) → AreDeeper d zs → in_instances (zs ++ ys) ≡ zs ++ in_instances ys
front-deep d [] ys h = refl
front-deep d (z ∷ zs) ys h = ap (λ b. cond b [] (z ∷ in_instances (zs ++ ys))) (deep-no_top d z h.0) ∙ ap (λ l. z ∷ l) (front-deep d zs ys h.1)

below-front : (d : ℕ) (xs : List Node) → below d (in_instances xs) ≡ below d xs
below-front d [] = refl
below-front d (x ∷ xs) =
    elim (cases_Bool (nat_lt d x.depth)) [
      | inl q ↦
          ap (λ b. below d (cond b [] (x ∷ in_instances xs))) (deep-no_top d x q) ∙ ap (λ b. cond b (x ∷ below d (in_instances xs)) []) q ∙ ap (λ l. x ∷ l) (below-front d xs)
          ∙ sym (ap (λ b. cond b (x ∷ below d xs) []) q)
      | inr q ↦ flat (is_detached_top x) q ∙ sym (ap (λ b. cond b (x ∷ below d xs) []) q)
    ]
  where
    flat : (b : Bool) → nat_lt d x.depth ≡ false → below d (cond b [] (x ∷ in_instances xs)) ≡ []
    flat true q = refl
    flat false q = ap (λ b. cond b (x ∷ below d (in_instances xs)) []) q

past-front : (d : ℕ) (xs : List Node) → past d (in_instances xs) ≡ in_instances (past d xs)
past-front d [] = refl
past-front d (x ∷ xs) =
    elim (cases_Bool (nat_lt d x.depth)) [
      | inl q ↦
          ap (λ b. past d (cond b [] (x ∷ in_instances xs))) (deep-no_top d x q) ∙ ap (λ b. cond b (past d (in_instances xs)) (x ∷ in_instances xs)) q ∙ past-front d xs
          ∙ sym (ap (λ b. in_instances (cond b (past d xs) (x ∷ xs))) q)
      | inr q ↦ flat (is_detached_top x) q ∙ sym (ap (λ b. in_instances (cond b (past d xs) (x ∷ xs))) q)
    ]
  where
    flat : (b : Bool) → nat_lt d x.depth ≡ false → past d (cond b [] (x ∷ in_instances xs)) ≡ cond b [] (x ∷ in_instances xs)
    flat true q = refl
    flat false q = ap (λ b. cond b (past d (in_instances xs)) (x ∷ in_instances xs)) q

-- a tree that begins in an instance stands in it
pub inside-tree : (n k : ℕ) (nodes : List Node) → has_number n (in_instances nodes) ≡ true → has_number k (tree_of n nodes) ≡ true → has_number k (in_instances nodes) ≡ true
inside-tree n k [] h i = h
inside-tree n k (x ∷ xs) h i = by (is_detached_top x) (x.number == n) refl h (inside-tree n k xs)
  where
    here : has_number k (x ∷ below x.depth (in_instances xs)) ≡ true → has_number k (x ∷ in_instances xs) ≡ true
    here m = elim (or-cases (x.number == k) (has_number k (below x.depth (in_instances xs))) m) [
      | inl a ↦ or-left (x.number == k) (has_number k (in_instances xs)) a
      | inr b ↦ or-right (x.number == k) (has_number k (in_instances xs)) (below-part k x.depth (in_instances xs) b)
    ]

    by : (b c : Bool) → (x.number == n) ≡ c → has_number n (cond b [] (x ∷ in_instances xs)) ≡ true →
        (has_number n (in_instances xs) ≡ true → has_number k (tree_of n xs) ≡ true → has_number k (in_instances xs) ≡ true) → has_number k (cond b [] (x ∷ in_instances xs)) ≡ true
    by true c e j later = no j
    by false true e j later = here (sym (ap (has_number k) (tree-here n x xs e ∙ ap (λ l. x ∷ l) (sym (below-front x.depth xs)))) ∙ i)
    by false false e j later =
        or-right (x.number == k) (has_number k (in_instances xs)) (later (ap (λ b. b || has_number n (in_instances xs)) (sym e) ∙ j) (sym (ap (has_number k) (tree-other n x xs e)) ∙ i))

front-found : (n : ℕ) (nodes : List Node) → has_number n (in_instances nodes) ≡ true → node_at n (in_instances nodes) ≡ node_at n nodes
front-found n [] h = refl
front-found n (x ∷ xs) h = by (is_detached_top x) (front-found n xs) h
  where
    by : (b : Bool) → (has_number n (in_instances xs) ≡ true → node_at n (in_instances xs) ≡ node_at n xs) → has_number n (cond b [] (x ∷ in_instances xs)) ≡ true → node_at n (cond b [] (x ∷ in_instances xs)) ≡ cond (x.number == n) (Some x) (node_at n xs)
    by true f i = no i
    by false f i = of (x.number == n) f i
      where
        of : (c : Bool) → (has_number n (in_instances xs) ≡ true → node_at n (in_instances xs) ≡ node_at n xs) → (c || has_number n (in_instances xs)) ≡ true → cond c (Some x) (node_at n (in_instances xs)) ≡ cond c (Some x) (node_at n xs)
        of true g j = refl
        of false g j = g j

no-attribute : (n : ℕ) (xs : List Node) → has_number n xs ≡ false → is_attribute_at n xs ≡ false
no-attribute n [] h = refl
no-attribute n (x ∷ xs) h =
    let parts = or-false (x.number == n) (has_number n xs) h in
    ap (λ b. (b && is_attribute x.content) || is_attribute_at n xs) parts.0 ∙ no-attribute n xs parts.1

front-attribute : (n : ℕ) (nodes : List Node) → are_nodes_apart nodes ≡ true → has_number n (in_instances nodes) ≡ true → is_attribute_at n (in_instances nodes) ≡ is_attribute_at n nodes
front-attribute n [] a h = refl
front-attribute n (x ∷ xs) a h = by (is_detached_top x) (front-attribute n xs (and-true (not (has_number x.number xs)) (are_nodes_apart xs) a).1) h
  where
    by : (b : Bool) → (has_number n (in_instances xs) ≡ true → is_attribute_at n (in_instances xs) ≡ is_attribute_at n xs) → has_number n (cond b [] (x ∷ in_instances xs)) ≡ true →
        is_attribute_at n (cond b [] (x ∷ in_instances xs)) ≡ (((x.number == n) && is_attribute x.content) || is_attribute_at n xs)
    by true f i = no i
    by false f i = ap (λ b. ((x.number == n) && is_attribute x.content) || b) (of (x.number == n) refl f i)
      where
        of : (c : Bool) → (x.number == n) ≡ c → (has_number n (in_instances xs) ≡ true → is_attribute_at n (in_instances xs) ≡ is_attribute_at n xs) → ((x.number == n) || has_number n (in_instances xs)) ≡ true →
            is_attribute_at n (in_instances xs) ≡ is_attribute_at n xs
        of true e g j = let absent = gone-after n x xs a e in no-attribute n (in_instances xs) (front-number n xs absent) ∙ sym (no-attribute n xs absent)
        of false e g j = g (ap (λ c. c || has_number n (in_instances xs)) (sym e) ∙ j)

-- ---- a text

top-valued : (n : ℕ) (text : List ℕ) (x : Node) → is_detached_top (valued n text x) ≡ is_detached_top x
top-valued n text x = by (x.number == n)
  where
    kept : (c : Content) → is_root (with_value text c) ≡ is_root c
    kept Root = refl
    kept (Element name) = refl
    kept (Attribute name old) = refl
    kept (Text old) = refl

    by : (b : Bool) → is_detached_top (cond b (record x { content = with_value text x.content }) x) ≡ is_detached_top x
    by true = ap (λ r. (x.depth == 0) && not r) (kept x.content)
    by false = refl

pub front-valued : (n : ℕ) (text : List ℕ) (nodes : List Node) → in_instances (with_attribute_text n text nodes) ≡ with_attribute_text n text (in_instances nodes)
front-valued n text [] = refl
front-valued n text (x ∷ xs) =
    ap (λ b. cond b [] (valued n text x ∷ in_instances (with_attribute_text n text xs))) (top-valued n text x)
    ∙ by (is_detached_top x) (front-valued n text xs)
  where
    by : (b : Bool) → in_instances (with_attribute_text n text xs) ≡ with_attribute_text n text (in_instances xs) → cond b [] (valued n text x ∷ in_instances (with_attribute_text n text xs)) ≡ with_attribute_text n text (cond b [] (x ∷ in_instances xs))
    by true e = refl
    by false e = ap (λ l. valued n text x ∷ l) e

front-content : (d : ℕ) (texts xs : List Node) → in_instances (with_content d texts xs) ≡ with_content d texts (in_instances xs)
front-content d texts xs =
    let kept = filter (λ (y : Node). is_attribute y.content) (below d xs) in
    let new = map (at_depth (suc d)) texts in
    front-deep d (kept ++ new) (past d xs) (deeper-append d kept new (below-deeper (λ y. is_attribute y.content) d xs) (placed-deeper d texts))
    ∙ ap (λ l. (kept ++ new) ++ l) (sym (past-front d xs))
    ∙ ap (λ l. (filter (λ (y : Node). is_attribute y.content) l ++ new) ++ past d (in_instances xs)) (sym (below-front d xs))

front-texts : (n : ℕ) (texts nodes : List Node) → has_number n (in_instances nodes) ≡ true → in_instances (with_texts n texts nodes) ≡ with_texts n texts (in_instances nodes)
front-texts n texts [] h = refl
front-texts n texts (x ∷ xs) h = by (is_detached_top x) refl (x.number == n) refl (front-texts n texts xs) h
  where
    by : (b : Bool) → is_detached_top x ≡ b → (c : Bool) → (x.number == n) ≡ c → (has_number n (in_instances xs) ≡ true → in_instances (with_texts n texts xs) ≡ with_texts n texts (in_instances xs)) → has_number n (cond b [] (x ∷ in_instances xs)) ≡ true →
        in_instances (cond c (x ∷ with_content x.depth texts xs) (x ∷ with_texts n texts xs)) ≡ with_texts n texts (cond b [] (x ∷ in_instances xs))
    by true t c e f i = no i
    by false t true e f i =
        ap (λ b. cond b [] (x ∷ in_instances (with_content x.depth texts xs))) t ∙ ap (λ l. x ∷ l) (front-content x.depth texts xs)
        ∙ sym (ap (λ b. cond b (x ∷ with_content x.depth texts (in_instances xs)) (x ∷ with_texts n texts (in_instances xs))) e)
    by false t false e f i =
        ap (λ b. cond b [] (x ∷ in_instances (with_texts n texts xs))) t ∙ ap (λ l. x ∷ l) (f (ap (λ b. b || has_number n (in_instances xs)) (sym e) ∙ i))
        ∙ sym (ap (λ b. cond b (x ∷ with_content x.depth texts (in_instances xs)) (x ∷ with_texts n texts (in_instances xs))) e)

front-set : (number n : ℕ) (text : List ℕ) (nodes : List Node) → are_nodes_apart nodes ≡ true → has_number n (in_instances nodes) ≡ true → in_instances (with_numbered_text number n text nodes) ≡ with_numbered_text number n text (in_instances nodes)
front-set number n text nodes a h = by (is_attribute_at n nodes) refl
  where
    by : (b : Bool) → is_attribute_at n nodes ≡ b → in_instances (cond b (with_attribute_text n text nodes) (with_texts n (one_text number text) nodes)) ≡ with_numbered_text number n text (in_instances nodes)
    by true e = front-valued n text nodes ∙ sym (ap (λ b. cond b (with_attribute_text n text (in_instances nodes)) (with_texts n (one_text number text) (in_instances nodes))) (front-attribute n nodes a h ∙ e))
    by false e = front-texts n (one_text number text) nodes h ∙ sym (ap (λ b. cond b (with_attribute_text n text (in_instances nodes)) (with_texts n (one_text number text) (in_instances nodes))) (front-attribute n nodes a h ∙ e))

any-front : (p : Visit → Bool) (xs ys : List Visit) → list_any p (xs ++ ys) ≡ false → list_any p xs ≡ false
any-front p [] ys h = refl
any-front p (x ∷ xs) ys h =
    let parts = or-false (p x) (list_any p (xs ++ ys)) h in
    ap (λ b. b || list_any p xs) parts.0 ∙ any-front p xs ys parts.1

front-settable : (n : ℕ) (forest : Forest) → has_number n (in_instances forest.nodes) ≡ true → IsSettable n forest → IsSettable n (instances_of forest)
front-settable n forest h able = record {
  kind = elim able.kind [ inl e ↦ inl (one ∙ e) | inr e ↦ inr (one ∙ e) ];
  childless = any-front (λ y. is_element y.content && is_first n y.above) (visits (in_instances forest.nodes)) (visits (in_detached forest.nodes)) (ap (λ l. has_elements l n) (sym (visits-parts forest.nodes)) ∙ able.childless);
}
  where
    one : option_map kind_of (option_map (λ (x : Node). x.content) (node_at n (in_instances forest.nodes))) ≡ option_map kind_of (option_map (λ (x : Node). x.content) (node_at n forest.nodes))
    one = ap (λ o. option_map kind_of (option_map (λ (x : Node). x.content) o)) (front-found n forest.nodes h)

pub text_set_in_instances : TextSetInInstances
text_set_in_instances texts lists more number n next text forest before marks trees trees_after able stands apart unused same =
    subst (λ l. SameNodes more lists (visits l) before) (sym is)
    (text_set texts lists more number n next text (instances_of forest) before marks (front-trees forest trees) (subst (λ l. HasTrees (record { nodes = l; next = next })) is after) (front-settable n forest stands able) apart unused same)
  where
    is : in_instances (with_numbered_text number n text forest.nodes) ≡ with_numbered_text number n text (in_instances forest.nodes)
    is = front-set number n text forest.nodes trees.apart stands

    after : HasTrees (record { nodes = in_instances (with_numbered_text number n text forest.nodes); next = next })
    after = front-trees (record { nodes = with_numbered_text number n text forest.nodes; next = next }) trees_after

-- ---- a tree

front-without : (n : ℕ) (nodes : List Node) → has_number n (in_instances nodes) ≡ true → in_instances (without_tree n nodes) ≡ without_tree n (in_instances nodes)
front-without n [] h = refl
front-without n (x ∷ xs) h = by (is_detached_top x) refl (x.number == n) refl (front-without n xs) h
  where
    by : (b : Bool) → is_detached_top x ≡ b → (c : Bool) → (x.number == n) ≡ c → (has_number n (in_instances xs) ≡ true → in_instances (without_tree n xs) ≡ without_tree n (in_instances xs)) → has_number n (cond b [] (x ∷ in_instances xs)) ≡ true →
        in_instances (cond c (past x.depth xs) (x ∷ without_tree n xs)) ≡ without_tree n (cond b [] (x ∷ in_instances xs))
    by true t c e f i = no i
    by false t true e f i = sym (past-front x.depth xs) ∙ sym (ap (λ b. cond b (past x.depth (in_instances xs)) (x ∷ without_tree n (in_instances xs))) e)
    by false t false e f i =
        ap (λ b. cond b [] (x ∷ in_instances (without_tree n xs))) t ∙ ap (λ l. x ∷ l) (f (ap (λ b. b || has_number n (in_instances xs)) (sym e) ∙ i))
        ∙ sym (ap (λ b. cond b (past x.depth (in_instances xs)) (x ∷ without_tree n (in_instances xs))) e)

pub front-ends : (xs ys : List Node) (t : Node) → is_detached_top t ≡ true → in_instances (xs ++ t ∷ ys) ≡ in_instances xs
front-ends [] ys t h = ap (λ b. cond b [] (t ∷ in_instances ys)) h
front-ends (x ∷ xs) ys t h = ap (λ l. cond (is_detached_top x) [] (x ∷ l)) (front-ends xs ys t h)

none-above : (stack : List Node) → still_above 0 stack ≡ []
none-above [] = refl
none-above (y ∷ ys) = let e : nat_lt y.depth 0 ≡ false = grind (arith, nat_tests) in ap (λ b. cond b (y ∷ ys) (still_above 0 ys)) e ∙ none-above ys

-- the tree of what stands in a node begins with no root
begins : (n p : ℕ) (above nodes : List Node) (v : Visit) → list_all (λ x. not (is_root x.content) || (x.depth == 0)) nodes ≡ true → found n (visits_from above nodes) ≡ Some v → is_first p v.above ≡ true →
    (t : Node) × (ts : List Node) × (tree_of n nodes ≡ t ∷ ts) × (is_root t.content ≡ false)
begins n p above [] v h e f = none-some e
begins n p above (x ∷ xs) v h e f =
    elim (cases_Bool (x.number == n)) [
      | inl q ↦ (x, below x.depth xs, tree-here n x xs q, own q)
      | inr q ↦ later q (begins n p (x ∷ still_above x.depth above) xs v (and-true (not (is_root x.content) || (x.depth == 0)) (list_all (λ y. not (is_root y.content) || (y.depth == 0)) xs) h).1
          (sym (ap (λ b. cond b (Some (visit above x)) (found n (visits_from (x ∷ still_above x.depth above) xs))) q) ∙ e) f)
    ]
  where
    later : (x.number == n) ≡ false → (t : Node) × (ts : List Node) × (tree_of n xs ≡ t ∷ ts) × (is_root t.content ≡ false) → (t : Node) × (ts : List Node) × (tree_of n (x ∷ xs) ≡ t ∷ ts) × (is_root t.content ≡ false)
    later q r = (r.0, r.1, tree-other n x xs q ∙ r.2, r.3)

    own : (x.number == n) ≡ true → is_root x.content ≡ false
    own q = by (is_root x.content) (x.depth == 0) refl (and-true (not (is_root x.content) || (x.depth == 0)) (list_all (λ y. not (is_root y.content) || (y.depth == 0)) xs) h).0
      where
        parent : is_first p (numbers (still_above x.depth above)) ≡ true
        parent = ap (λ (w : Visit). is_first p w.above) (some-same (sym (ap (λ b. cond b (Some (visit above x)) (found n (visits_from (x ∷ still_above x.depth above) xs))) q) ∙ e)) ∙ f

        by : (r z : Bool) → (x.depth == 0) ≡ z → (not r || z) ≡ true → r ≡ false
        by false z i j = refl
        by true false i j = sym j
        by true true i j =
            let at : x.depth ≡ 0 = grind (arith, nat_tests, i) in
            no (sym (ap (λ l. is_first p (numbers l)) (ap (λ d. still_above d above) at ∙ none-above above)) ∙ parent)

front-detached : (n p : ℕ) (forest : Forest) → HasTrees forest → StandsIn n p (in_instances forest.nodes) → in_instances (detached n forest).nodes ≡ without_tree n (in_instances forest.nodes)
front-detached n p forest trees in_it =
    ap (λ l. in_instances (without_tree n forest.nodes ++ moved_to 0 l)) tree.2
    ∙ front-ends (without_tree n forest.nodes) (map (shifted tree.0.depth 0) tree.1) (shifted tree.0.depth 0 tree.0) is_top
    ∙ front-without n forest.nodes stands
  where
    stands : has_number n (in_instances forest.nodes) ≡ true
    stands = sym (seen-has n [] (in_instances forest.nodes)) ∙ present n (visits (in_instances forest.nodes)) in_it.0 in_it.1

    seen : found n (visits forest.nodes) ≡ Some in_it.0
    seen = ap (found n) (visits-parts forest.nodes) ∙ ahead (visits (in_instances forest.nodes)) in_it.1
      where
        ahead : (xs : List Visit) → found n xs ≡ Some in_it.0 → found n (xs ++ visits (in_detached forest.nodes)) ≡ Some in_it.0
        ahead [] e = none-some e
        ahead (x ∷ xs) e = by (x.number == n) (ahead xs) e
          where
            by : (b : Bool) → (found n xs ≡ Some in_it.0 → found n (xs ++ visits (in_detached forest.nodes)) ≡ Some in_it.0) → cond b (Some x) (found n xs) ≡ Some in_it.0 → cond b (Some x) (found n (xs ++ visits (in_detached forest.nodes))) ≡ Some in_it.0
            by true f i = i
            by false f i = f i

    tree : (t : Node) × (ts : List Node) × (tree_of n forest.nodes ≡ t ∷ ts) × (is_root t.content ≡ false)
    tree = begins n p [] forest.nodes in_it.0 trees.tops seen in_it.2

    is_top : is_detached_top (shifted tree.0.depth 0 tree.0) ≡ true
    is_top = let e : (shifted tree.0.depth 0 tree.0).depth ≡ 0 = grind (arith) in ap (λ d. (d == 0) && not (is_root tree.0.content)) e ∙ ap not tree.3

pub tree_detached : TreeDetached
tree_detached texts lists more n p forest before marks trees in_it apart same =
    subst (λ l. SameNodes texts more (visits l) before) (sym (front-detached n p forest trees in_it))
    (tree_cut texts lists more n p (instances_of forest) before marks (front-trees forest trees) in_it apart same)
