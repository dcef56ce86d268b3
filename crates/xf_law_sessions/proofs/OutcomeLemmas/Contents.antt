-- The tree of each document element, and what it gives, stand one behind the other in the nodes of a forest.
use Rattle.std.proofs.Common.{◌≡◌, ℕ, zero, suc, ◌+◌, ◌≤◌, ◌==◌, Bool, true, false, not, cond, ◌&&◌, ◌||◌, List, [], ◌∷◌, ◌++◌, map, filter, length, nat_lt, Option, Some, refl, sym, ap, ◌∙◌, subst, arith, append_assoc}
use Rattle.std.specs.Prelude.{option_and_then}
use Rattle.std.specs.List.{cons_option, filter_map, flat_map}
use Rattle.std.proofs.lemmas.Bool.Decides.{nat_tests}
use Rattle.std.proofs.lemmas.List.{map-append}
use Rattle.xf_name.specs.Bindings.{Bindings}
use Rattle.xf_def_forest.specs.declared.bare.Bare.{Bare}
use Rattle.xf_def_forest.specs.declared.bare.Bare.TheVariants as bare
use Rattle.xf_def_forest.specs.declared.bare.BareElement.{BareElement}
use Rattle.xf_def_forest.specs.declared.content.Content.{Content}
use Rattle.xf_def_forest.specs.declared.content.Content.TheVariants.{Root, Element, Attribute, Text}
use Rattle.xf_def_forest.specs.declared.content.Node.{Node}
use Rattle.xf_def_forest.specs.Changes.{root_of}
use Rattle.xf_def_forest.specs.Forest.{below, first_tree, from_node, has_number, is_attribute, is_element, is_root, tree_of}
use Rattle.xf_def_forest.specs.Literal.{bare_of}
use Rattle.xf_def_forest.specs.Planted.{contents_of_bare}
use Rattle.xf_def_forest.specs.Visit.{Visit, first_of, is_first, numbers, still_above, visit, visits, visits_from}
use Rattle.xf_def_forest.specs.WellFormed.{are_apart}
use Rattle.xf_def_machine.specs.AtRest.{rooted_contents}
use Rattle.xf_def_machine.specs.Cycles.{counted_from}
use Rattle.xf_def_machine.specs.State.{State}
use Rattle.xf_def_machine.specs.Surround.{document_under}
use Rattle.xf_law_sessions.proofs.PathLemmas.BareAgain.{bare_again}
use Rattle.xf_law_sessions.specs.Step.Fixed.{without_number}
use Rattle.xf_law_sessions.specs.Outcome.Contents.{under_root, tree_at, TreesTellContents}
use Rattle.xf_law_sessions.proofs.OutcomeLemmas.Deep.{AllDeep, Top, bare-top}

abbrev contents : List Node → List (ℕ × Content)
contents xs = map without_number xs

and-true : (a b : Bool) → (a && b) ≡ true → (a ≡ true) × (b ≡ true)
and-true true b h = (refl, h)
and-true false b h = cc

or-false : (a b : Bool) → (a || b) ≡ false → (a ≡ false) × (b ≡ false)
or-false true b h = cc
or-false false b h = (refl, h)

not-true : (b : Bool) → not b ≡ true → b ≡ false
not-true true h = cc
not-true false h = refl

other-way : (m n : ℕ) → (m == n) ≡ (n == m)
other-way m n = grind (arith, nat_tests)

self : (n : ℕ) → (n == n) ≡ true
self n = grind (arith, nat_tests)

-- ---- numbers

behind : (n : ℕ) (xs : List Node) (y : Node) (ys : List Node) → has_number n (xs ++ y ∷ ys) ≡ false → (y.number == n) ≡ false
behind n [] y ys h = (or-false (y.number == n) (has_number n ys) h).0
behind n (x ∷ xs) y ys h = behind n xs y ys (or-false (x.number == n) (has_number n (xs ++ y ∷ ys)) h).1

-- no node before another has its number
apart-before : (xs : List Node) (y : Node) (ys : List Node) → are_apart (xs ++ y ∷ ys) ≡ true → has_number y.number xs ≡ false
apart-before [] y ys h = refl
apart-before (x ∷ xs) y ys h =
    let parts = and-true (not (has_number x.number (xs ++ y ∷ ys))) (are_apart (xs ++ y ∷ ys)) h in
    let differ : (x.number == y.number) ≡ false = other-way x.number y.number ∙ behind x.number xs y ys (not-true (has_number x.number (xs ++ y ∷ ys)) parts.0) in
    ap (λ c. c || has_number y.number xs) differ ∙ apart-before xs y ys parts.1

from-behind : (n : ℕ) (xs ys : List Node) → has_number n xs ≡ false → from_node n (xs ++ ys) ≡ from_node n ys
from-behind n [] ys h = refl
from-behind n (x ∷ xs) ys h =
    let ps = or-false (x.number == n) (has_number n xs) h in
    ap (λ c. cond c (x ∷ xs ++ ys) (from_node n (xs ++ ys))) ps.0 ∙ from-behind n xs ys ps.1

-- ---- the first child of a root

still-without : (m d : ℕ) (stack : List Node) → has_number m stack ≡ false → is_first m (numbers (still_above d stack)) ≡ false
still-without m d [] h = refl
still-without m d (y ∷ stack) h = by (nat_lt y.depth d) (still-without m d stack parts.1)
  where
    parts : ((y.number == m) ≡ false) × (has_number m stack ≡ false)
    parts = or-false (y.number == m) (has_number m stack) h

    by : (c : Bool) → is_first m (numbers (still_above d stack)) ≡ false → is_first m (numbers (cond c (y ∷ stack) (still_above d stack))) ≡ false
    by true rest = other-way m y.number ∙ parts.0
    by false rest = rest

none-still : (m d : ℕ) (stack : List Node) → has_number m stack ≡ false → has_number m (still_above d stack) ≡ false
none-still m d [] h = refl
none-still m d (y ∷ stack) h = by (nat_lt y.depth d) (none-still m d stack (or-false (y.number == m) (has_number m stack) h).1)
  where
    by : (c : Bool) → has_number m (still_above d stack) ≡ false → has_number m (cond c (y ∷ stack) (still_above d stack)) ≡ false
    by true rest = h
    by false rest = rest

abbrev is_child : ℕ → Visit → Bool
is_child m v = is_first m v.above && not (is_attribute v.content)

abbrev first_child : ℕ → List Visit → Option ℕ
first_child m vs = first_of (map (λ (v : Visit). v.number) (filter (is_child m) vs))

-- what is no child is passed over
pass-over : (m : ℕ) (v : Visit) (vs : List Visit) → is_first m v.above ≡ false → first_child m (v ∷ vs) ≡ first_child m vs
pass-over m v vs h = ap (λ c. first_of (map (λ (w : Visit). w.number) (cond (c && not (is_attribute v.content)) (v ∷ filter (is_child m) vs) (filter (is_child m) vs)))) h

child-first : (stack before : List Node) (root top : Node) (rest : List Node) → has_number root.number stack ≡ false → has_number root.number before ≡ false → root.depth ≡ 0 → top.depth ≡ 1
    → is_attribute top.content ≡ false → first_child root.number (visits_from stack (before ++ root ∷ top ∷ rest)) ≡ Some top.number
child-first stack [] root top rest h k zero-deep deep plain =
    let m = root.number in
    let open_ = root ∷ still_above root.depth stack in
    let later = visits_from (top ∷ still_above top.depth open_) rest in
    let under : nat_lt root.depth top.depth ≡ true = less root.depth top.depth zero-deep deep in
    let above : numbers (still_above top.depth open_) ≡ m ∷ numbers (still_above root.depth stack) =
    ap (λ c. numbers (cond c open_ (still_above top.depth (still_above root.depth stack)))) under in
    let is : is_child m (visit open_ top) ≡ true = ap (λ l. is_first m l && not (is_attribute top.content)) above ∙ ap (λ c. c && not (is_attribute top.content)) (self m) ∙ ap not plain in
    pass-over m (visit stack root) (visit open_ top ∷ later) (still-without m root.depth stack h)
    ∙ ap (λ c. first_of (map (λ (w : Visit). w.number) (cond c (visit open_ top ∷ filter (is_child m) later) (filter (is_child m) later)))) is
  where
    less : (a c : ℕ) → a ≡ 0 → c ≡ 1 → nat_lt a c ≡ true
    less a c p q = grind (arith, nat_tests, p, q)
child-first stack (y ∷ before) root top rest h k zero-deep deep plain =
    let m = root.number in
    let ps = or-false (y.number == m) (has_number m before) k in
    let stack_ = y ∷ still_above y.depth stack in
    let none : has_number m stack_ ≡ false = ap (λ c. c || has_number m (still_above y.depth stack)) ps.0 ∙ none-still m y.depth stack h in
    pass-over m (visit stack y) (visits_from stack_ (before ++ root ∷ top ∷ rest)) (still-without m y.depth stack h)
    ∙ child-first stack_ before root top rest none ps.1 zero-deep deep plain

-- ---- the tree of a node

abbrev Ends : ℕ → List Node → Type 0
Ends d [] = Unit {0}
Ends d (y ∷ ys) = nat_lt d y.depth ≡ false

below-all : (d : ℕ) (xs rest : List Node) → AllDeep (suc d) (contents xs) → Ends d rest → below d (xs ++ rest) ≡ xs
below-all d [] [] h e = refl
below-all d [] (y ∷ ys) h e = ap (λ c. cond c (y ∷ below d ys) []) e
below-all d (x ∷ xs) rest h e =
    ap (λ c. cond c (x ∷ below d (xs ++ rest)) []) (deeper x.depth h.0) ∙ ap (λ l. x ∷ l) (below-all d xs rest h.2 e)
  where
    deeper : (k : ℕ) → suc d ≤ k → nat_lt d k ≡ true
    deeper k l = grind (arith, nat_tests, l)

-- a tree has no root in it
roots-past : (place d : ℕ) (xs rest : List Node) → AllDeep d (contents xs) → root_of place (xs ++ rest) ≡ root_of place rest
roots-past place d [] rest h = refl
roots-past zero d (x ∷ xs) rest h = ap (λ c. cond c (Some x.number) (root_of zero (xs ++ rest))) h.1 ∙ roots-past zero d xs rest h.2
roots-past (suc place) d (x ∷ xs) rest h = ap (λ c. cond c (root_of place (xs ++ rest)) (root_of (suc place) (xs ++ rest))) h.1 ∙ roots-past (suc place) d xs rest h.2

-- ---- one document

-- nodes of which the contents come from two lists
record Split (xs : List Node) (front back : List (ℕ × Content)) : Type 0 where
  ys : List Node
  zs : List Node
  is : xs ≡ ys ++ zs
  first : contents ys ≡ front
  second : contents zs ≡ back

split : (xs : List Node) (front back : List (ℕ × Content)) → contents xs ≡ front ++ back → Split xs front back
split xs [] back h = record { ys = []; zs = xs; is = refl; first = refl; second = h }
split [] (c ∷ front) back h = cc h
split (x ∷ xs) (c ∷ front) back h =
    let head : without_number x ≡ c = cc h in
    let tail : contents xs ≡ front ++ back = cc h in
    let rest = split xs front back tail in
    record { ys = x ∷ rest.ys; zs = rest.zs; is = ap (λ l. x ∷ l) rest.is; first = ap (λ l. without_number x ∷ l) rest.first ∙ ap (λ y. y ∷ front) head; second = rest.second }

-- a root, an element and what is in it
record Document (b : Bindings) (d : BareElement) (xs : List Node) : Type 0 where
  root : Node
  top : Node
  inside : List Node
  is : xs ≡ root ∷ top ∷ inside
  root_depth : root.depth ≡ 0
  root_content : root.content ≡ Root
  top_depth : top.depth ≡ 1
  top_element : is_element top.content ≡ true
  deep : AllDeep 2 (contents inside)
  tree : contents (top ∷ inside) ≡ contents_of_bare b (bare.Element d) 0 1

document : (b : Bindings) (d : BareElement) (xs : List Node) → contents xs ≡ rooted_contents b d → Document b d xs
document b d [] h = cc h
document b d (r ∷ []) h =
    let tail : ◌≡◌ {A = List (ℕ × Content)} [] (contents_of_bare b (bare.Element d) 0 1) = cc h in
    absurd (subst (Top 1) (sym tail) (bare-top b d 1))
document b d (r ∷ x ∷ xs) h =
    let head : without_number r ≡ (0, Root) = cc h in
    let tail : contents (x ∷ xs) ≡ contents_of_bare b (bare.Element d) 0 1 = cc h in
    let top : Top 1 (contents (x ∷ xs)) = subst (Top 1) (sym tail) (bare-top b d 1) in
    record {
      root = r;
      top = x;
      inside = xs;
      is = refl;
      root_depth = ap (λ (q : ℕ × Content). q.0) head;
      root_content = ap (λ (q : ℕ × Content). q.1) head;
      top_depth = top.0;
      top_element = top.1;
      deep = top.2;
      tree = tail;
    }

no-attribute : (c : Content) → is_element c ≡ true → is_attribute c ≡ false
no-attribute Root h = refl
no-attribute (Element name) h = refl
no-attribute (Attribute name text) h = cc h
no-attribute (Text text) h = refl

-- documents that follow begin with a root
ends : (b : Bindings) (ds : List BareElement) (xs : List Node) → contents xs ≡ flat_map (rooted_contents b) ds → Ends 1 xs
ends b ds [] h = tt
ends b [] (x ∷ xs) h = cc h
ends b (d ∷ ds) (x ∷ xs) h =
    let head : without_number x ≡ (0, Root) = cc h in
    let zero-deep : x.depth ≡ 0 = ap (λ (q : ℕ × Content). q.0) head in
    no-deeper x.depth zero-deep
  where
    no-deeper : (k : ℕ) → k ≡ 0 → nat_lt 1 k ≡ false
    no-deeper k q = grind (arith, nat_tests, q)

module _ (s : State) (apart : are_apart s.forest.nodes ≡ true) where
  abbrev b : Bindings
  b = s.form.bindings

  abbrev nodes : List Node
  nodes = s.forest.nodes

  -- the tree of a document element plants what stands there
  record Found (place : ℕ) (d : BareElement) : Type 0 where
    tree : BareElement
    is : tree_at s place ≡ Some (bare.Element tree)
    gives : contents_of_bare b (bare.Element tree) 0 1 ≡ contents_of_bare b (bare.Element d) 0 1

  module _ (place : ℕ) (d : BareElement) (before xs rest : List Node) (x : Document b d xs) (is : nodes ≡ before ++ (x.root ∷ x.top ∷ (x.inside ++ rest))) (end : Ends 1 rest)
      (root-is : root_of place nodes ≡ Some x.root.number) where
    child : document_under s (Some x.root.number) ≡ Some x.top.number
    child =
        ap (λ l. first_child x.root.number (visits l)) is
        ∙ child-first [] before x.root x.top (x.inside ++ rest) refl (apart-before before x.root (x.top ∷ (x.inside ++ rest)) (subst (λ l. are_apart l ≡ true) is apart))
        x.root_depth x.top_depth (no-attribute x.top.content x.top_element)

    behind-root : nodes ≡ (before ++ x.root ∷ []) ++ (x.top ∷ (x.inside ++ rest))
    behind-root = is ∙ sym (append_assoc before (x.root ∷ []) (x.top ∷ (x.inside ++ rest)))

    tree-is : tree_of x.top.number nodes ≡ x.top ∷ x.inside
    tree-is =
        let earlier = before ++ x.root ∷ [] in
        let none : has_number x.top.number earlier ≡ false = apart-before earlier x.top (x.inside ++ rest) (subst (λ l. are_apart l ≡ true) behind-root apart) in
        ap (λ l. first_tree (from_node x.top.number l)) behind-root
        ∙ ap first_tree (from-behind x.top.number earlier (x.top ∷ (x.inside ++ rest)) none)
        ∙ ap (λ c. first_tree (cond c (x.top ∷ (x.inside ++ rest)) (from_node x.top.number (x.inside ++ rest)))) (self x.top.number)
        ∙ ap (λ k. x.top ∷ below k (x.inside ++ rest)) x.top_depth
        ∙ ap (λ l. x.top ∷ l) (below-all 1 x.inside rest x.deep end)

    found-here : Found place d
    found-here =
        let again = bare_again b d 1 x.top.number nodes (ap contents tree-is ∙ x.tree) in
        record {
          tree = again.0;
          is = ap (λ o. option_and_then (λ n. bare_of n nodes) (document_under s o)) root-is ∙ ap (option_and_then (λ n. bare_of n nodes)) child ∙ again.1;
          gives = again.2 1;
        }

  -- from a place on
  record Told (place : ℕ) (ds : List BareElement) (zs : List Node) : Type 0 where
    trees : List Bare
    is : filter_map (tree_at s) (counted_from place (length ds)) ≡ trees
    gives : contents zs ≡ flat_map (under_root b) trees

  told : (ds : List BareElement) (place : ℕ) (before zs : List Node) → nodes ≡ before ++ zs → ((i : ℕ) → root_of (place + i) nodes ≡ root_of i zs) → contents zs ≡ flat_map (rooted_contents b) ds
      → Told place ds zs
  told [] place before zs is roots h = record { trees = []; is = refl; gives = h }
  told (d ∷ ds) place before zs is roots h =
      let parts = split zs (rooted_contents b d) (flat_map (rooted_contents b) ds) h in
      let x = document b d parts.ys parts.first in
      let whole : zs ≡ x.root ∷ x.top ∷ (x.inside ++ parts.zs) = parts.is ∙ ap (λ l. l ++ parts.zs) x.is in
      let nodes-are : nodes ≡ before ++ (x.root ∷ x.top ∷ (x.inside ++ parts.zs)) = is ∙ ap (λ l. before ++ l) whole in
      let plain : place ≡ place + 0 = omega arith in
      let root-true : is_root x.root.content ≡ true = ap is_root x.root_content in
      let root-is : root_of place nodes ≡ Some x.root.number =
      ap (λ k. root_of k nodes) plain ∙ roots 0 ∙ ap (root_of 0) whole ∙ ap (λ c. cond c (Some x.root.number) (root_of zero (x.top ∷ (x.inside ++ parts.zs)))) root-true in
      let f = found-here place d before parts.ys parts.zs x nodes-are (ends b ds parts.zs parts.second) root-is in
      let low : AllDeep 1 (contents (x.top ∷ x.inside)) = deep-all x.top x.inside x.top_depth x.top_element x.deep in
      let later : (i : ℕ) → root_of (suc place + i) nodes ≡ root_of i parts.zs = λ i.
      let w : suc place + i ≡ place + suc i = omega arith in
      ap (λ k. root_of k nodes) w ∙ roots (suc i) ∙ ap (root_of (suc i)) whole
      ∙ ap (λ c. cond c (root_of i (x.top ∷ (x.inside ++ parts.zs))) (root_of (suc i) (x.top ∷ (x.inside ++ parts.zs)))) root-true ∙ roots-past i 1 (x.top ∷ x.inside) parts.zs low in
      let rest = told ds (suc place) (before ++ (x.root ∷ x.top ∷ x.inside)) parts.zs (nodes-are ∙ sym (append_assoc before (x.root ∷ x.top ∷ x.inside) parts.zs)) later parts.second in
      record {
        trees = bare.Element f.tree ∷ rest.trees;
        is = ap (λ o. cons_option o (filter_map (tree_at s) (counted_from (suc place) (length ds)))) f.is ∙ ap (λ l. bare.Element f.tree ∷ l) rest.is;
        gives = ap contents parts.is ∙ map-append without_number parts.ys parts.zs ∙ ap (λ l. l ++ contents parts.zs) parts.first
            ∙ ap (λ l. ((0, Root) ∷ l) ++ contents parts.zs) (sym f.gives) ∙ ap (λ l. under_root b (bare.Element f.tree) ++ l) rest.gives;
      }
    where
      deep-less : (xs : List Node) → AllDeep 2 (contents xs) → AllDeep 1 (contents xs)
      deep-less [] q = tt
      deep-less (y ∷ ys) q = let k : 2 ≤ y.depth = q.0 in (omega (arith, k), q.1, deep-less ys q.2)

      rootless : (c : Content) → is_element c ≡ true → is_root c ≡ false
      rootless Root q = cc q
      rootless (Element name) q = refl
      rootless (Attribute name text) q = refl
      rootless (Text text) q = refl

      deep-all : (y : Node) (ys : List Node) → y.depth ≡ 1 → is_element y.content ≡ true → AllDeep 2 (contents ys) → AllDeep 1 (contents (y ∷ ys))
      deep-all y ys p q r = (omega (arith, p), rootless y.content q, deep-less ys r)

pub trees_tell : TreesTellContents
trees_tell s trees (ds, count, named, nodes-are) =
    let plain : (i : ℕ) → root_of (0 + i) s.forest.nodes ≡ root_of i s.forest.nodes = λ i. let w : 0 + i ≡ i = omega arith in ap (λ k. root_of k s.forest.nodes) w in
    let all = told s trees.apart ds 0 [] s.forest.nodes refl plain nodes-are in
    all.gives ∙ ap (flat_map (under_root s.form.bindings)) (sym all.is ∙ ap (λ n. filter_map (tree_at s) (counted_from 0 n)) count)
