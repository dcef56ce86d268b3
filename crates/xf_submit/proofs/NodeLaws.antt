-- What nodes are, told of the list of nodes and of the visits.
use Rattle.std.proofs.Common.{◌≡◌, ◌<◌, ◌≤◌, ℕ, zero, suc, ◌+◌, ◌==◌, Bool, true, false, not, cond, ◌&&◌, ◌||◌, List, [], ◌∷◌, ◌++◌, map, drop, get_or, length, append_assoc, Option, Some, None, option_map, refl, sym, ap, ◌∙◌, arith}
use Rattle.std.specs.Prelude.{filter, option_and_then}
use Rattle.std.specs.List.{list_any}
use Rattle.std.proofs.lemmas.Bool.Decides.{nat_tests}
use Rattle.std.proofs.lemmas.List.{at_drop_more, at_drop_all}
use Rattle.xf_def_forest.specs.declared.content.Content.{Content}
use Rattle.xf_def_forest.specs.declared.content.Content.TheVariants as content
use Rattle.xf_def_forest.specs.declared.content.Kind.{Kind}
use Rattle.xf_def_forest.specs.declared.content.Kind.TheVariants as kind
use Rattle.xf_def_forest.specs.declared.content.Node.{Node}
use Rattle.xf_def_forest.specs.declared.node.NodeId.{NodeId}
use Rattle.xf_def_forest.specs.Changes.{root_of}
use Rattle.xf_def_forest.specs.Forest.{Forest, content_at, has_number, is_element, is_root, kind_at, kind_of, node_at}
use Rattle.xf_def_forest.specs.Order.{instance_of}
use Rattle.xf_def_forest.specs.Shape.{has_elements}
use Rattle.xf_def_forest.specs.Visit.{Visit, above_in, children_of, first_of, is_first, last_of, still_above, top_of, visit, visits, visits_from}
use Rattle.xf_def_forest.specs.WellFormed.{are_apart}
use Rattle.xf_def_forest.proofs.BackLaws.{and-true, not-true, or-false}
use Rattle.xf_def_forest.proofs.LiveLaws.{parent-live}
use Rattle.xf_def_xpath.specs.Asked.{found}
use Rattle.xf_def_xpath.proofs.ForestVisits.{Each, self-found}
use Rattle.xf_def_xpath.proofs.VisitFacts.{found-number, no, none-some, some-same}
use Rattle.xf_tree_paths.proofs.VisitLemmas.{apart, content-seen}
use Rattle.xf_eval.proofs.Lists.{append-none}
use Rattle.xf_def_model.specs.Submitted.{element_in, element_of}
use Rattle.xf_eval_shape.specs.Sound.{Sound}
use Rattle.xf_eval_shape.specs.Spots.{is_element_in}
use Rattle.xf_eval_context.specs.Around.{document_below}
use Rattle.xf_submit.specs.Targets.{document_at, document_of}

-- ---- elements

module _ (n : ℕ) (nodes : List Node) where
  pub element-kind : is_element_in (content_at n nodes) ≡ true → kind_at n nodes ≡ Some kind.Element
  element-kind h = by (content_at n nodes) h
    where
      by : (o : Option Content) → is_element_in o ≡ true → option_map kind_of o ≡ Some kind.Element
      by None i = no i
      by (Some content.Root) i = no i
      by (Some (content.Element name)) i = refl
      by (Some (content.Attribute name text)) i = no i
      by (Some (content.Text text)) i = no i

  pub element-live : kind_at n nodes ≡ Some kind.Element → has_number n nodes ≡ true
  element-live h = by (has_number n nodes) refl
    where
      by : (b : Bool) → has_number n nodes ≡ b → has_number n nodes ≡ true
      by true e = e
      by false e = none-some (sym (ap (option_map kind_of) (no-content n nodes e)) ∙ h)
        where
          no-content : (m : ℕ) (xs : List Node) → has_number m xs ≡ false → content_at m xs ≡ None
          no-content m [] i = refl
          no-content m (x ∷ xs) i =
              let ps = or-false (x.number == m) (has_number m xs) i in
              ap (λ b. option_map (λ (y : Node). y.content) (cond b (Some x) (node_at m xs))) ps.0 ∙ no-content m xs ps.1

  seen-element : (o : Option Visit) (b : Bool) → found n (visits nodes) ≡ o → is_element_in (option_map (λ (v : Visit). v.content) o) ≡ b → element_in o ≡ cond b (Some n) None
  seen-element None true e h = no h
  seen-element None false e h = refl
  seen-element (Some x) b e h = ap (λ t. cond t (Some x.number) None) h ∙ ap (λ m. cond b (Some m) None) (found-number n (visits nodes) x e)

  -- what an attribute or a text is, as a selection
  pub element-of : (b : Bool) → is_element_in (content_at n nodes) ≡ b → element_of (visits nodes) (Some n) ≡ cond b (Some n) None
  element-of b h = seen-element (found n (visits nodes)) b refl (ap is_element_in (content-seen n [] nodes) ∙ h)

-- ---- an element among the visits

visited-any : (n : ℕ) (above xs : List Node)
    → list_any (λ (x : Visit). (x.number == n) && is_element x.content) (visits_from above xs) ≡ list_any (λ (x : Node). (x.number == n) && is_element x.content) xs
visited-any n above [] = refl
visited-any n above (x ∷ xs) = ap (λ b. ((x.number == n) && is_element x.content) || b) (visited-any n (x ∷ still_above x.depth above) xs)

none-any : (n : ℕ) (xs : List Node) → has_number n xs ≡ false → list_any (λ (x : Node). (x.number == n) && is_element x.content) xs ≡ false
none-any n [] h = refl
none-any n (x ∷ xs) h =
    let ps = or-false (x.number == n) (has_number n xs) h in
    ap (λ b. (b && is_element x.content) || list_any (λ (y : Node). (y.number == n) && is_element y.content) xs) ps.0 ∙ none-any n xs ps.1

or-none : (b : Bool) → (b || false) ≡ b
or-none true = refl
or-none false = refl

any-content : (n : ℕ) (xs : List Node) → are_apart xs ≡ true → list_any (λ (x : Node). (x.number == n) && is_element x.content) xs ≡ is_element_in (content_at n xs)
any-content n [] h = refl
any-content n (x ∷ xs) h = by (x.number == n) refl (any-content n xs parts.1)
  where
    parts : (not (has_number x.number xs) ≡ true) × (are_apart xs ≡ true)
    parts = and-true (not (has_number x.number xs)) (are_apart xs) h

    by : (b : Bool) → (x.number == n) ≡ b → list_any (λ (y : Node). (y.number == n) && is_element y.content) xs ≡ is_element_in (content_at n xs)
        → ((b && is_element x.content) || list_any (λ (y : Node). (y.number == n) && is_element y.content) xs) ≡ is_element_in (option_map (λ (y : Node). y.content) (cond b (Some x) (node_at n xs)))
    by true e later =
        let same : x.number ≡ n = grind (arith, nat_tests, e) in
        ap (λ b. is_element x.content || b) (none-any n xs (ap (λ k. has_number k xs) (sym same) ∙ not-true (has_number x.number xs) parts.0)) ∙ or-none (is_element x.content)
    by false e later = later

pub element-among : (n : ℕ) (nodes : List Node) → are_apart nodes ≡ true → list_any (λ (x : Visit). (x.number == n) && is_element x.content) (visits nodes) ≡ is_element_in (content_at n nodes)
element-among n nodes h = visited-any n [] nodes ∙ any-content n nodes h

-- ---- a node that does not stand has no elements in it

pub no-elements : (forest : Forest) → Sound forest → (n : ℕ) → has_number n forest.nodes ≡ false → has_elements (visits forest.nodes) n ≡ false
no-elements forest sound n h = none (visits forest.nodes) (self-found (visits forest.nodes) (apart forest sound.trees))
  where
    all : List Visit
    all = visits forest.nodes

    both-false : (a : Bool) → (a && false) ≡ false
    both-false true = refl
    both-false false = refl

    first : (v : Visit) (above : List ℕ) → found v.number all ≡ Some v → v.above ≡ above → is_first n above ≡ false
    first v [] e i = refl
    first v (p ∷ ps) e i = of (n == p) refl
      where
        of : (b : Bool) → (n == p) ≡ b → (n == p) ≡ false
        of false j = j
        of true j =
            let same : n ≡ p = grind (arith, nat_tests, j) in
            no (sym h ∙ ap (λ k. has_number k forest.nodes) same ∙ parent-live v.number p forest.nodes (ap (λ o. first_of (above_in o)) e ∙ ap first_of i))

    none : (vs : List Visit) → Each (λ v. found v.number all ≡ Some v) vs → has_elements vs n ≡ false
    none [] e = refl
    none (v ∷ vs) e = ap (λ b. (is_element v.content && b) || has_elements vs n) (first v v.above e.0 refl) ∙ ap (λ b. b || has_elements vs n) (both-false (is_element v.content)) ∙ none vs e.1

-- ---- the nodes that are left

pub filter-numbers : (p : Visit → Bool) (q : ℕ → Bool) (vs : List Visit) → filter q (map (λ (v : Visit). v.number) (filter p vs)) ≡ map (λ (v : Visit). v.number) (filter (λ v. p v && q v.number) vs)
filter-numbers p q [] = refl
filter-numbers p q (v ∷ vs) = by (p v) (q v.number) (filter-numbers p q vs) refl
  where
    by : (a b : Bool) → filter q (map (λ (w : Visit). w.number) (filter p vs)) ≡ map (λ (w : Visit). w.number) (filter (λ w. p w && q w.number) vs) → q v.number ≡ b
        → filter q (map (λ (w : Visit). w.number) (cond a (v ∷ filter p vs) (filter p vs))) ≡ map (λ (w : Visit). w.number) (cond (a && b) (v ∷ filter (λ w. p w && q w.number) vs) (filter (λ w. p w && q w.number) vs))
    by true true later e = ap (λ t. cond t (v.number ∷ filter q (map (λ (w : Visit). w.number) (filter p vs))) (filter q (map (λ (w : Visit). w.number) (filter p vs)))) e ∙ ap (λ l. v.number ∷ l) later
    by true false later e = ap (λ t. cond t (v.number ∷ filter q (map (λ (w : Visit). w.number) (filter p vs))) (filter q (map (λ (w : Visit). w.number) (filter p vs)))) e ∙ later
    by false b later e = later

-- ---- the document element of the instance of a node

instance-absent : (m : ℕ) (xs : List Node) → has_number m xs ≡ false → instance_of m xs ≡ None
instance-absent m [] h = refl
instance-absent m (x ∷ xs) h =
    let ps = or-false (x.number == m) (has_number m xs) h in
    ap (λ b. cond (is_root x.content) (cond b (Some 0) (option_map suc (instance_of m xs))) (instance_of m xs)) ps.0
    ∙ ap (λ o. cond (is_root x.content) (option_map suc o) o) (instance-absent m xs ps.1) ∙ either (is_root x.content)
  where
    nowhere : Option ℕ
    nowhere = None

    either : (b : Bool) → cond b (option_map suc nowhere) nowhere ≡ nowhere
    either true = refl
    either false = refl

-- the place of a root
record Seat (m : ℕ) (xs : List Node) : Type 0 where
  place : ℕ
  is : instance_of m xs ≡ Some place
  back : root_of place xs ≡ Some m

past-other : (k : ℕ) (x : Node) (xs : List Node) → is_root x.content ≡ false → root_of k (x ∷ xs) ≡ root_of k xs
past-other zero x xs h = ap (λ b. cond b (Some x.number) (root_of zero xs)) h
past-other (suc k) x xs h = ap (λ b. cond b (root_of k xs) (root_of (suc k) xs)) h

seat : (m : ℕ) (xs : List Node) → content_at m xs ≡ Some content.Root → Seat m xs
seat m [] h = none-some h
seat m (x ∷ xs) h = by (seat m xs) (x.number == m) refl h
  where
    behind : Seat m xs → (r : Bool) → is_root x.content ≡ r → (x.number == m) ≡ false → Seat m (x ∷ xs)
    behind s true i e = record {
      place = suc s.place;
      is = ap (λ b. cond b (cond (x.number == m) (Some 0) (option_map suc (instance_of m xs))) (instance_of m xs)) i
          ∙ ap (λ b. cond b (Some 0) (option_map suc (instance_of m xs))) e ∙ ap (option_map suc) s.is;
      back = ap (λ b. cond b (root_of s.place xs) (root_of (suc s.place) xs)) i ∙ s.back;
    }
    behind s false i e = record {
      place = s.place;
      is = ap (λ b. cond b (cond (x.number == m) (Some 0) (option_map suc (instance_of m xs))) (instance_of m xs)) i ∙ s.is;
      back = past-other s.place x xs i ∙ s.back;
    }

    by : (content_at m xs ≡ Some content.Root → Seat m xs) → (b : Bool) → (x.number == m) ≡ b → option_map (λ (y : Node). y.content) (cond b (Some x) (node_at m xs)) ≡ Some content.Root → Seat m (x ∷ xs)
    by later true e i =
        let same : x.number ≡ m = grind (arith, nat_tests, e) in
        let root : is_root x.content ≡ true = ap is_root (some-same i) in
        record {
          place = zero;
          is = ap (λ b. cond b (cond (x.number == m) (Some 0) (option_map suc (instance_of m xs))) (instance_of m xs)) root
              ∙ ap (λ b. cond b (Some 0) (option_map suc (instance_of m xs))) e;
          back = ap (λ b. cond b (Some x.number) (root_of zero xs)) root ∙ ap Some same;
        }
    by later false e i = behind (later i) (is_root x.content) refl e

instance-none : (m : ℕ) (c : Content) (xs : List Node) → are_apart xs ≡ true → content_at m xs ≡ Some c → is_root c ≡ false → instance_of m xs ≡ None
instance-none m c [] a h r = none-some h
instance-none m c (x ∷ xs) a h r = by (λ i. instance-none m c xs (and-true (not (has_number x.number xs)) (are_apart xs) a).1 i r) (x.number == m) refl h
  where
    parts : (not (has_number x.number xs) ≡ true) × (are_apart xs ≡ true)
    parts = and-true (not (has_number x.number xs)) (are_apart xs) a

    behind : (b : Bool) → instance_of m xs ≡ None → cond b (option_map suc (instance_of m xs)) (instance_of m xs) ≡ None
    behind true i = ap (option_map suc) i
    behind false i = i

    by : (content_at m xs ≡ Some c → instance_of m xs ≡ None) → (b : Bool) → (x.number == m) ≡ b → option_map (λ (y : Node). y.content) (cond b (Some x) (node_at m xs)) ≡ Some c → instance_of m (x ∷ xs) ≡ None
    by later true e i =
        let same : x.number ≡ m = grind (arith, nat_tests, e) in
        ap (λ b. cond b (cond (x.number == m) (Some 0) (option_map suc (instance_of m xs))) (instance_of m xs)) (ap is_root (some-same i) ∙ r)
        ∙ instance-absent m xs (ap (λ k. has_number k xs) (sym same) ∙ not-true (has_number x.number xs) parts.0)
    by later false e i =
        ap (λ b. cond (is_root x.content) (cond b (Some 0) (option_map suc (instance_of m xs))) (instance_of m xs)) e
        ∙ behind (is_root x.content) (later i)

-- of the content, where its kind is told
content-of : (m : ℕ) (k : Kind) (nodes : List Node) → Some k ≡ kind_at m nodes → (c : Content) × (content_at m nodes ≡ Some c) × (kind_of c ≡ k)
content-of m k nodes h = by (content_at m nodes) refl h
  where
    by : (o : Option Content) → content_at m nodes ≡ o → Some k ≡ option_map kind_of o → (c : Content) × (content_at m nodes ≡ Some c) × (kind_of c ≡ k)
    by None e i = none-some (sym i)
    by (Some c) e i = (c, e, some-same (sym i))

root-content : (c : Content) → kind_of c ≡ kind.Root → c ≡ content.Root
root-content content.Root h = refl
root-content (content.Element name) h = cc h
root-content (content.Attribute name text) h = cc h
root-content (content.Text text) h = cc h

abbrev pub is_root_kind : Kind → Bool
is_root_kind kind.Root = true
is_root_kind k = false

root-kind : (c : Content) → is_root c ≡ is_root_kind (kind_of c)
root-kind content.Root = refl
root-kind (content.Element name) = refl
root-kind (content.Attribute name text) = refl
root-kind (content.Text text) = refl

module _ (n : ℕ) (nodes : List Node) where
  abbrev top : ℕ
  top = top_of n (visits nodes)

  pub document-under : Some kind.Root ≡ kind_at top nodes → document_of nodes n ≡ first_of (children_of top (visits nodes))
  document-under h =
      let c = content-of top kind.Root nodes h in
      let s = seat top nodes (c.1 ∙ ap Some (root-content c.0 c.2)) in
      ap (option_and_then (document_at nodes)) s.is ∙ by (root_of s.place nodes) s.back
    where
      by : (o : Option ℕ) → o ≡ Some top → document_below nodes o ≡ first_of (children_of top (visits nodes))
      by o e = ap (document_below nodes) e

  pub document-none : (k : Kind) → are_apart nodes ≡ true → Some k ≡ kind_at top nodes → is_root_kind k ≡ false → document_of nodes n ≡ None
  document-none k a h r =
      let c = content-of top k nodes h in
      ap (option_and_then (document_at nodes)) (instance-none top c.0 nodes a c.1 (root-kind c.0 ∙ ap is_root_kind c.2 ∙ r))

  pub document-absent : has_number n nodes ≡ false → document_of nodes n ≡ None
  document-absent h = ap (option_and_then (document_at nodes)) (ap (λ m. instance_of m nodes) alone ∙ instance-absent n nodes h)
    where
      unseen : (above xs : List Node) → has_number n xs ≡ false → found n (visits_from above xs) ≡ None
      unseen above [] i = refl
      unseen above (x ∷ xs) i =
          let ps = or-false (x.number == n) (has_number n xs) i in
          ap (λ b. cond b (Some (visit above x)) (found n (visits_from (x ∷ still_above x.depth above) xs))) ps.0 ∙ unseen (x ∷ still_above x.depth above) xs ps.1

      alone : top_of n (visits nodes) ≡ n
      alone = ap (λ o. last_of n (above_in o)) (unseen [] nodes h)

-- ---- one of the nodes that are left after the other

pub left-next : (q : ℕ → Bool) (ids : List NodeId) (i : ℕ) (d : NodeId) (before after all : List ℕ) → i < length ids → after ≡ before ++ cond (q (get_or ids i d).number) ((get_or ids i d).number ∷ []) []
    → before ++ filter q (map (λ (n : NodeId). n.number) (drop i ids)) ≡ all
    → after ++ filter q (map (λ (n : NodeId). n.number) (drop (i + 1) ids)) ≡ all
left-next q ids i d before after all l e h =
    let n = (get_or ids i d).number in
    let rest = filter q (map (λ (n : NodeId). n.number) (drop (i + 1) ids)) in
    ap (λ b. b ++ rest) e ∙ append_assoc before (cond (q n) (n ∷ []) []) rest ∙ ap (λ l. before ++ l) (by (q n))
    ∙ sym (at_drop_more (λ ns. before ++ filter q (map (λ (n : NodeId). n.number) ns)) ids i d l) ∙ h
  where
    by : (b : Bool) → cond b ((get_or ids i d).number ∷ []) [] ++ filter q (map (λ (n : NodeId). n.number) (drop (i + 1) ids))
        ≡ cond b ((get_or ids i d).number ∷ filter q (map (λ (n : NodeId). n.number) (drop (i + 1) ids))) (filter q (map (λ (n : NodeId). n.number) (drop (i + 1) ids)))
    by true = refl
    by false = refl

pub left-end : (q : ℕ → Bool) (ids : List NodeId) (i : ℕ) (before all : List ℕ) → length ids ≤ i → before ++ filter q (map (λ (n : NodeId). n.number) (drop i ids)) ≡ all → before ≡ all
left-end q ids i before all l h = sym (append-none before) ∙ sym (at_drop_all (λ ns. before ++ filter q (map (λ (n : NodeId). n.number) ns)) ids i l) ∙ h
