-- The nodes of an instance are its root, what is below it, and the attributes of these.
use Rattle.std.proofs.Common.{◌≡◌, ℕ, zero, suc, ◌==◌, Bool, true, false, not, cond, ◌&&◌, ◌||◌, List, [], ◌∷◌, ◌++◌, map, Option, Some, None, option_map, refl, sym, ap, ◌∙◌, arith, append_assoc}
use Rattle.std.specs.Prelude.{filter, is_some}
use Rattle.std.specs.List.{flat_map, list_any}
use Rattle.std.proofs.lemmas.Bool.{eqb-true}
use Rattle.std.proofs.lemmas.Bool.Decides.{nat_tests}
use Rattle.xf_name.specs.declared.axis.Axis.TheVariants.{Attribute, DescendantOrSelf}
use Rattle.xf_def_forest.specs.declared.content.Node.{Node}
use Rattle.xf_def_forest.specs.declared.content.Content.{Content}
use Rattle.xf_def_forest.specs.declared.content.Content.TheVariants as content
use Rattle.xf_def_forest.specs.Forest.{Forest, is_root, is_attribute, is_text, has_number, node_at, content_at}
use Rattle.xf_def_forest.specs.Visit.{Visit, visits, has, is_first, above_in, ancestors_of, last_of, top_of}
use Rattle.xf_def_forest.specs.Axis.{is_on, axis_from, axis_of}
use Rattle.xf_def_forest.specs.Order.{instance_of, in_order}
use Rattle.xf_def_forest.specs.Changes.{root_of}
use Rattle.xf_def_forest.specs.Shape.{erased, without_text}
use Rattle.xf_def_forest.specs.WellFormed.{HasTrees, are_apart}
use Rattle.xf_def_forest.proofs.BackLaws.{and-true, not-true}
use Rattle.xf_def_forest.proofs.LiveLaws.{root-live}
use Rattle.xf_def_xpath.specs.Asked.{found, has_list}
use Rattle.xf_def_xpath.specs.Agree.{numbers_of, AreVisits}
use Rattle.xf_def_xpath.proofs.VisitFacts.{self-same, turned, no, some-same, none-some, found-number, has-found, found-filter, filter-none, kept_if}
use Rattle.xf_def_xpath.proofs.ForestVisits.{Each, each-filter, each-map, self-found, found-erased, forest-visits}
use Rattle.xf_tree_paths.proofs.RootLaws.{is-root, no-root}
use Rattle.xf_tree_paths.proofs.VisitLemmas.{apart, seen}
use Rattle.xf_tree_paths.proofs.StemLemmas.{above-parent, root-none_above}
use Rattle.xf_def_machine.specs.StateText.{is_place}
use Rattle.xf_report.specs.Lines.{nodes_at, with_attributes}

-- ---- one node more

pub taken-more : (f : ℕ → List ℕ) (nodes one two attributes walk rest total : List ℕ) (n : ℕ) → one ≡ nodes ++ n ∷ [] → two ≡ one ++ attributes → walk ≡ n ∷ rest → f n ≡ n ∷ attributes → nodes ++ flat_map f walk ≡ total → two ++ flat_map f rest ≡ total
taken-more f nodes one two attributes walk rest total n a b c d e =
    ap (λ l. l ++ flat_map f rest) (b ∙ ap (λ l. l ++ attributes) a)
    ∙ append_assoc (nodes ++ n ∷ []) attributes (flat_map f rest)
    ∙ append_assoc nodes (n ∷ []) (attributes ++ flat_map f rest)
    ∙ ap (λ l. nodes ++ (l ++ flat_map f rest)) (sym d) ∙ ap (λ l. nodes ++ flat_map f l) (sym c) ∙ e

-- ---- roots

root-kind : (place root : ℕ) (nodes : List Node) → are_apart nodes ≡ true → root_of place nodes ≡ Some root → option_map is_root (content_at root nodes) ≡ Some true
root-kind zero root [] h e = none-some e
root-kind (suc place) root [] h e = none-some e
root-kind zero root (x ∷ xs) h e = by (root-kind zero root xs parts.1) (is_root x.content) refl e
  where
    parts : (not (has_number x.number xs) ≡ true) × (are_apart xs ≡ true)
    parts = and-true (not (has_number x.number xs)) (are_apart xs) h

    by : (root_of zero xs ≡ Some root → option_map is_root (content_at root xs) ≡ Some true) → (b : Bool) → is_root x.content ≡ b → cond b (Some x.number) (root_of zero xs) ≡ Some root → option_map is_root (content_at root (x ∷ xs)) ≡ Some true
    by later true k i = ap (λ c. option_map is_root (option_map (λ (y : Node). y.content) (cond c (Some x) (node_at root xs)))) (ap (λ n. n == root) (some-same i) ∙ self-same root) ∙ ap Some k
    by later false k i =
        ap (λ c. option_map is_root (option_map (λ (y : Node). y.content) (cond c (Some x) (node_at root xs)))) (behind x.number root (root-live zero root xs i) (not-true (has_number x.number xs) parts.0))
        ∙ later i
      where
        behind : (k n : ℕ) → has_number n xs ≡ true → has_number k xs ≡ false → (k == n) ≡ false
        behind k n i j = of (k == n) refl
          where
            of : (b : Bool) → (k == n) ≡ b → (k == n) ≡ false
            of true t = no (sym j ∙ ap (λ q. has_number q xs) (eqb-true k n t) ∙ i)
            of false t = t
root-kind (suc place) root (x ∷ xs) h e = by (root-kind place root xs parts.1) (root-kind (suc place) root xs parts.1) (is_root x.content) e
  where
    parts : (not (has_number x.number xs) ≡ true) × (are_apart xs ≡ true)
    parts = and-true (not (has_number x.number xs)) (are_apart xs) h

    behind : has_number root xs ≡ true → (x.number == root) ≡ false
    behind i = of (x.number == root) refl
      where
        of : (b : Bool) → (x.number == root) ≡ b → (x.number == root) ≡ false
        of true t = no (sym (not-true (has_number x.number xs) parts.0) ∙ ap (λ q. has_number q xs) (eqb-true x.number root t) ∙ i)
        of false t = t

    past : has_number root xs ≡ true → option_map is_root (content_at root xs) ≡ Some true → option_map is_root (content_at root (x ∷ xs)) ≡ Some true
    past i j = ap (λ c. option_map is_root (option_map (λ (y : Node). y.content) (cond c (Some x) (node_at root xs)))) (behind i) ∙ j

    by : (root_of place xs ≡ Some root → option_map is_root (content_at root xs) ≡ Some true) → (root_of (suc place) xs ≡ Some root → option_map is_root (content_at root xs) ≡ Some true)
        → (b : Bool) → cond b (root_of place xs) (root_of (suc place) xs) ≡ Some root → option_map is_root (content_at root (x ∷ xs)) ≡ Some true
    by one two true i = past (root-live place root xs i) (one i)
    by one two false i = past (root-live (suc place) root xs i) (two i)

root-content : (o : Option Content) → option_map is_root o ≡ Some true → o ≡ Some content.Root
root-content None e = none-some e
root-content (Some content.Root) e = refl
root-content (Some (content.Element name)) e = no (some-same e)
root-content (Some (content.Attribute name text)) e = no (some-same e)
root-content (Some (content.Text text)) e = no (some-same e)

-- ---- one node

module _ (forest : Forest) (sound : HasTrees forest) (place root : ℕ) (is : root_of place forest.nodes ≡ Some root) where
  abbrev all : List Visit
  all = visits forest.nodes

  top : ancestors_of root all ≡ []
  top = root-none_above forest root sound (root-content (content_at root forest.nodes) (root-kind place root forest.nodes sound.apart is))

  or-none : (b : Bool) → (b || false) ≡ b
  or-none true = refl
  or-none false = refl

  -- the top of a node's tree is the root where the root is the node or above it
  under : (n : ℕ) (ns : List ℕ) → ancestors_of n all ≡ ns → (last_of n ns == root) ≡ ((n == root) || has root ns)
  under n [] e = sym (or-none (n == root))
  under n (p ∷ ps) e =
      under p ps (above-parent forest n p ps sound e) ∙ ap (λ b. b || has root ps) (turned p root)
      ∙ sym (ap (λ b. b || has root (p ∷ ps)) (other (n == root) refl))
    where
      other : (b : Bool) → (n == root) ≡ b → (n == root) ≡ false
      other false i = i
      other true i = cc (sym top ∙ ap (λ k. ancestors_of k all) (sym (eqb-true n root i)) ∙ e)

  placed : (x : Visit) → found x.number all ≡ Some x → is_place place (instance_of (top_of x.number all) forest.nodes) ≡ ((x.number == root) || has root x.above)
  placed x e =
      is-root place (top_of x.number all) root forest.nodes sound.apart is
      ∙ under x.number (ancestors_of x.number all) refl
      ∙ ap (λ o. (x.number == root) || has root (above_in o)) e

  -- what is kept of the visits
  has-kept : (q : Visit → Bool) (x : Visit) → found x.number all ≡ Some x → has x.number (numbers_of (filter q all)) ≡ q x
  has-kept q x e = has-found x.number (filter q all) ∙ ap is_some (found-filter q x.number all (apart forest sound) ∙ ap (kept_if q) e) ∙ by (q x)
    where
      by : (b : Bool) → is_some (cond b (Some x) None) ≡ b
      by true = refl
      by false = refl

  has-both : (n : ℕ) (xs ys : List ℕ) → has n (xs ++ ys) ≡ (has n xs || has n ys)
  has-both n [] ys = refl
  has-both n (x ∷ xs) ys = ap (λ b. (n == x) || b) (has-both n xs ys) ∙ moved (n == x) (has n xs) (has n ys)
    where
      moved : (a b c : Bool) → (a || (b || c)) ≡ ((a || b) || c)
      moved true b c = refl
      moved false b c = refl

  -- the attributes of a visited node
  has-attribute : (x v : Visit) → found x.number all ≡ Some x → found v.number all ≡ Some v → has x.number (axis_of Attribute v.number all) ≡ (is_first v.number x.above && is_attribute x.content)
  has-attribute x v e f = ap (λ o. has x.number (map (λ (y : Visit). y.number) (axis_from Attribute all o))) f ∙ has-kept (is_on Attribute v) x e

  four : (a b c d : Bool) → ((a || b) || (c || d)) ≡ ((a || c) || (b || d))
  four true b c d = refl
  four false true true d = refl
  four false true false d = refl
  four false false c d = refl

  -- among nodes that are taken with their attributes
  has-taken : (x : Visit) (vs : List Visit) → found x.number all ≡ Some x → Each (λ v. found v.number all ≡ Some v) vs
      → has x.number (flat_map (with_attributes forest.nodes) (numbers_of vs)) ≡ (has x.number (numbers_of vs) || list_any (λ w. is_first w x.above && is_attribute x.content) (numbers_of vs))
  has-taken x [] e h = refl
  has-taken x (v ∷ vs) e h =
      has-both x.number (v.number ∷ axis_of Attribute v.number all) (flat_map (with_attributes forest.nodes) (numbers_of vs))
      ∙ ap (λ b. ((x.number == v.number) || b) || has x.number (flat_map (with_attributes forest.nodes) (numbers_of vs))) (has-attribute x v e h.0)
      ∙ ap (λ b. ((x.number == v.number) || (is_first v.number x.above && is_attribute x.content)) || b) (has-taken x vs e h.1)
      ∙ four (x.number == v.number) (is_first v.number x.above && is_attribute x.content) (has x.number (numbers_of vs)) (list_any (λ w. is_first w x.above && is_attribute x.content) (numbers_of vs))

  any-first : (p : ℕ) (ps ns : List ℕ) (b : Bool) → list_any (λ w. is_first w (p ∷ ps) && b) ns ≡ (has p ns && b)
  any-first p ps [] b = refl
  any-first p ps (n ∷ ns) b = ap (λ c. ((n == p) && b) || c) (any-first p ps ns b) ∙ ap (λ c. (c && b) || (has p ns && b)) (turned n p) ∙ spread (p == n) (has p ns) b
    where
      spread : (a c b : Bool) → ((a && b) || (c && b)) ≡ ((a || c) && b)
      spread true true true = refl
      spread true false true = refl
      spread true true false = refl
      spread true false false = refl
      spread false c b = refl

  any-none : (ns : List ℕ) (b : Bool) → list_any (λ w. is_first w [] && b) ns ≡ false
  any-none [] b = refl
  any-none (n ∷ ns) b = any-none ns b

  -- a parent is visited, and no attribute
  record Above (p : ℕ) (ps : List ℕ) : Type 0 where
    parent : Visit
    found : found p all ≡ Some parent
    above : parent.above ≡ ps
    plain : is_attribute parent.content ≡ false

  facts : AreVisits (map erased all)
  facts = forest-visits forest sound

  listed : (c : Content) → has_list (without_text c) ≡ true → is_attribute c ≡ false
  listed content.Root h = refl
  listed (content.Element name) h = refl
  listed (content.Attribute name text) h = no h
  listed (content.Text text) h = refl

  parent-of : (x : Visit) (p : ℕ) (ps : List ℕ) → found x.number all ≡ Some x → x.above ≡ p ∷ ps → Above p ps
  parent-of x p ps e h = by (found p all) refl
    where
      up : ancestors_of p all ≡ ps
      up = above-parent forest x.number p ps sound (ap above_in e ∙ h)

      stands : option_map (λ (z : Visit). z.above) (found p (filter (λ y. not (is_text y.content)) (map erased all))) ≡ Some ps
      stands = facts.closed x.number p ps (erased x) (found-erased x.number all ∙ ap (option_map erased) e) h

      by : (o : Option Visit) → found p all ≡ o → Above p ps
      by None i = lost (found p (filter (λ y. not (is_text y.content)) (map erased all))) (found-filter (λ y. not (is_text y.content)) p (map erased all) facts.apart ∙ ap (kept_if (λ y. not (is_text y.content))) (found-erased p all ∙ ap (option_map erased) i)) stands
        where
          lost : (o : Option Visit) → o ≡ None → option_map (λ (z : Visit). z.above) o ≡ Some ps → Above p ps
          lost o j k = none-some (sym (ap (option_map (λ (z : Visit). z.above)) j) ∙ k)
      by (Some z) i = record {
        parent = z;
        found = i;
        above = sym (ap above_in i) ∙ up;
        plain = listed z.content (facts.parents x.number p ps (erased x) (erased z) (found-erased x.number all ∙ ap (option_map erased) e) h (found-erased p all ∙ ap (option_map erased) i));
      }

  -- the root and what is below it
  abbrev below : Visit → Visit → Bool
  below px x = (has px.number x.above && not (is_attribute x.content)) || (px.number == x.number)

  whole : (s t a r : Bool) → ((((s || t) && not a) || r) || ((((t && true) || s)) && a)) ≡ (r || (s || t))
  whole true true true true = refl
  whole true true true false = refl
  whole true true false true = refl
  whole true true false false = refl
  whole true false true true = refl
  whole true false true false = refl
  whole true false false true = refl
  whole true false false false = refl
  whole false true true true = refl
  whole false true true false = refl
  whole false true false true = refl
  whole false true false false = refl
  whole false false true true = refl
  whole false false true false = refl
  whole false false false true = refl
  whole false false false false = refl

  -- what is taken of an instance
  taken : (x px : Visit) → found x.number all ≡ Some x → found root all ≡ Some px
      → has x.number (flat_map (with_attributes forest.nodes) (axis_of DescendantOrSelf root all)) ≡ ((x.number == root) || has root x.above)
  taken x px e f =
      ap (λ o. has x.number (flat_map (with_attributes forest.nodes) (map (λ (v : Visit). v.number) (axis_from DescendantOrSelf all o)))) f
      ∙ has-taken x (filter (below px) all) e (each-filter (λ v. found v.number all ≡ Some v) (below px) all (self-found all (apart forest sound)))
      ∙ ap (λ b. b || list_any (λ w. is_first w x.above && is_attribute x.content) tops) (has-kept (below px) x e)
      ∙ by x.above refl
    where
      tops : List ℕ
      tops = numbers_of (filter (below px) all)

      at_root : px.number ≡ root
      at_root = found-number root all px f

      by : (ns : List ℕ) → x.above ≡ ns → (((has px.number ns && not (is_attribute x.content)) || (px.number == x.number)) || list_any (λ w. is_first w ns && is_attribute x.content) tops) ≡ ((x.number == root) || has root ns)
      by [] h = ap (λ b. (px.number == x.number) || b) (any-none tops (is_attribute x.content)) ∙ ap (λ b. b || false) (ap (λ k. k == x.number) at_root ∙ turned root x.number)
      by (p ∷ ps) h =
          let a = parent-of x p ps e h in
          let number : a.parent.number ≡ p = found-number p all a.parent a.found in
          let in_list : has p tops ≡ ((has root ps && true) || (root == p)) =
          ap (λ k. has k tops) (sym number) ∙ has-kept (below px) a.parent (ap (λ k. found k all) number ∙ a.found)
          ∙ ap (λ l. (has px.number l && not (is_attribute a.parent.content)) || (px.number == a.parent.number)) a.above
          ∙ ap (λ b. (has px.number ps && not b) || (px.number == a.parent.number)) a.plain
          ∙ ap (λ k. (has px.number ps && true) || (px.number == k)) number
          ∙ ap (λ k. (has k ps && true) || (k == p)) at_root in
          ap (λ b. ((has px.number (p ∷ ps) && not (is_attribute x.content)) || (px.number == x.number)) || b) (any-first p ps tops (is_attribute x.content) ∙ ap (λ b. b && is_attribute x.content) in_list)
          ∙ ap (λ k. ((has k (p ∷ ps) && not (is_attribute x.content)) || (k == x.number)) || (((has root ps && true) || (root == p)) && is_attribute x.content)) at_root
          ∙ whole (root == p) (has root ps) (is_attribute x.content) (root == x.number)
          ∙ ap (λ b. b || has root (p ∷ ps)) (turned root x.number)

  filter-each : (p q : Visit → Bool) (vs : List Visit) → Each (λ v. p v ≡ q v) vs → filter p vs ≡ filter q vs
  filter-each p q [] e = refl
  filter-each p q (v ∷ vs) e = ap (λ b. cond b (v ∷ filter p vs) (filter p vs)) e.0 ∙ ap (λ l. cond (q v) (v ∷ l) l) (filter-each p q vs e.1)

  pub nodes-are : nodes_at forest.nodes place ≡ in_order all (flat_map (with_attributes forest.nodes) (axis_of DescendantOrSelf root all))
  nodes-are =
      let s = seen root content.Root forest.nodes (root-content (content_at root forest.nodes) (root-kind place root forest.nodes sound.apart is)) in
      let p : Visit → Bool = λ x. is_place place (instance_of (top_of x.number all) forest.nodes) in
      let q : Visit → Bool = λ x. has x.number (flat_map (with_attributes forest.nodes) (axis_of DescendantOrSelf root all)) in
      ap numbers_of (filter-each p q all (each-map (λ v. found v.number all ≡ Some v) (λ v. p v ≡ q v) all (λ v e. placed v e ∙ sym (taken v s.visit e s.at)) (self-found all (apart forest sound))))

pub nodes-none : (forest : Forest) (place : ℕ) → root_of place forest.nodes ≡ None → nodes_at forest.nodes place ≡ []
nodes-none forest place e =
    let all = visits forest.nodes in
    ap numbers_of (filter-none (λ x. is_place place (instance_of (top_of x.number all) forest.nodes)) (λ x. no-root place (top_of x.number all) forest.nodes e) all)
