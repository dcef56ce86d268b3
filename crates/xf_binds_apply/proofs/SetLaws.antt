-- The sets of a bind over the shape: each stands in the forest and in the shape, and has one order in both.
use Rattle.std.proofs.Common.{◌≡◌, ℕ, suc, ◌+◌, ◌<◌, ◌==◌, Bool, true, false, cond, not, ◌&&◌, ◌||◌, List, [], ◌∷◌, ◌++◌, map, take, length, get_or, Option, Some, None, option_map, refl, sym, ap, ◌∙◌, subst, arith, take-suc}
use Rattle.std.specs.Prelude.{filter, find, unwrap_or, Result, Ok, Err, IfOk}
use Rattle.std.specs.List.{flat_map, list_all, list_any}
use Rattle.std.proofs.lemmas.Bool.Decides.{nat_tests}
use Rattle.std.proofs.lemmas.List.{map-append}
use Rattle.indexmap.specs.IndexMap.{IndexMap}
use Rattle.xf_def_syntax.specs.declared.expr.Expr.{Expr}
use Rattle.xf_def_forest.specs.declared.content.Node.{Node}
use Rattle.xf_def_forest.specs.declared.content.Content.{Content}
use Rattle.xf_def_forest.specs.declared.content.Content.TheVariants as content
use Rattle.xf_def_forest.specs.declared.node.NodeId.{NodeId}
use Rattle.xf_def_forest.specs.Forest.{Forest, has_number, is_element, is_text}
use Rattle.xf_def_forest.specs.Visit.{Visit, has, is_first, visits}
use Rattle.xf_def_forest.specs.Order as order
use Rattle.xf_def_forest.specs.Shape.{erased, has_elements, shape_of, without_text}
use Rattle.xf_def_xpath.specs.declared.context.Context.{Context}
use Rattle.xf_def_xpath.specs.declared.value.Value.{Value}
use Rattle.xf_def_xpath.specs.Agree.{are_apart, numbers_of, untexted}
use Rattle.xf_def_xpath.specs.Binding.{bound_nodes, stand_ins}
use Rattle.xf_def_xpath.specs.Conversions.{nodes_of}
use Rattle.xf_def_xpath.specs.Given.{Given}
use Rattle.xf_def_xpath.specs.Meaning.{focus_of, meaning}
use Rattle.xf_def_xpath.specs.Reads.{shape_setting, trace}
use Rattle.xf_def_xpath.specs.Setting.{◌>>=◌, each, in_order, joined}
use Rattle.xf_def_xpath.proofs.ShapeVisits.{shape-untexted}
use Rattle.xf_def_xpath.proofs.TraceKeeps.{meaning-of_trace}
use Rattle.xf_funcs.specs.Called.{called}
use Rattle.xf_def_model.specs.Nested.{alone, set_from, setting_for}
use Rattle.xf_eval.specs.Live.{AllLive}
use Rattle.xf_eval_shape.specs.Over.{set_over}
use Rattle.xf_eval_shape.specs.Sound.{Sound}
use Rattle.xf_eval_shape.specs.Spots.{shaped, stands}
use Rattle.xf_eval_shape.specs.Woven.{is_shown}
use Rattle.xf_eval_shape.proofs.Bounds.{all-shown, shown-order}
use Rattle.xf_eval_shape.proofs.Shapes.{shaped-is, whole-visits}
use Rattle.xf_binds_apply.specs.declared.standings.Standing.{Standing}
use Rattle.xf_binds_apply.specs.Standing.{AreSets, AreStandings}
use Rattle.xf_binds_apply.specs.Reached.{scope_in}
use Rattle.xf_binds_apply.proofs.StandingLaws.{numbers}

no : {A : Type 0} → false ≡ true → A
no h = cc h

and-true : (a b : Bool) → (a && b) ≡ true → (a ≡ true) × (b ≡ true)
and-true true b h = (refl, h)
and-true false b h = no h

both : (a b : Bool) → a ≡ true → b ≡ true → (a && b) ≡ true
both true b h k = k
both false b h k = h

not-true : (a : Bool) → not a ≡ true → a ≡ false
not-true true h = no h
not-true false h = refl

-- ---- one order

pub one-order : (forest : Forest) → Sound forest → (ns : List ℕ) → list_all (is_shown forest.nodes) ns ≡ true → order.in_order (visits forest.nodes) ns ≡ in_order (shape_of forest.nodes) ns
one-order forest sound ns h = shown-order forest sound ns h ∙ ap (λ all. in_order all ns) (shaped-is forest.nodes)

-- ---- a set

or-false : (a b : Bool) → (a || b) ≡ false → (a ≡ false) × (b ≡ false)
or-false true b h = no (sym h)
or-false false b h = (refl, h)

or-left : (a b : Bool) → a ≡ true → (a || b) ≡ true
or-left true b h = refl
or-left false b h = no h

or-right : (a b : Bool) → b ≡ true → (a || b) ≡ true
or-right true b h = refl
or-right false b h = h

equal : (n : ℕ) → (n == n) ≡ true
equal n = grind (arith, nat_tests)

-- what a filter keeps is apart as all is
filtered-none : (p : Visit → Bool) (n : ℕ) (all : List Visit) → has n (numbers_of all) ≡ false → has n (numbers_of (filter p all)) ≡ false
filtered-none p n [] h = refl
filtered-none p n (x ∷ xs) h = let q = or-false (n == x.number) (has n (numbers_of xs)) h in by (p x) q.0 (filtered-none p n xs q.1)
  where
    by : (b : Bool) → (n == x.number) ≡ false → has n (numbers_of (filter p xs)) ≡ false → has n (numbers_of (cond b (x ∷ filter p xs) (filter p xs))) ≡ false
    by true e i = ap (λ c. c || has n (numbers_of (filter p xs))) e ∙ i
    by false e i = i

filtered-apart : (p : Visit → Bool) (all : List Visit) → are_apart (numbers_of all) ≡ true → are_apart (numbers_of (filter p all)) ≡ true
filtered-apart p [] h = refl
filtered-apart p (x ∷ xs) h = let q = and-true (not (has x.number (numbers_of xs))) (are_apart (numbers_of xs)) h in by (p x) q.0 (filtered-apart p xs q.1)
  where
    by : (b : Bool) → not (has x.number (numbers_of xs)) ≡ true → are_apart (numbers_of (filter p xs)) ≡ true → are_apart (numbers_of (cond b (x ∷ filter p xs) (filter p xs))) ≡ true
    by true e i = both (not (has x.number (numbers_of (filter p xs)))) (are_apart (numbers_of (filter p xs))) (ap not (filtered-none p x.number xs (not-true (has x.number (numbers_of xs)) e))) i
    by false e i = i

order-apart : (forest : Forest) → Sound forest → (ns : List ℕ) → are_apart (in_order (shape_of forest.nodes) ns) ≡ true
order-apart forest sound ns =
    filtered-apart (λ x. has x.number ns) (shape_of forest.nodes) (ap (λ all. are_apart (numbers_of all)) (sym (shaped-is forest.nodes)) ∙ (whole-visits forest sound).apart)

-- and within it
filtered-within : (big : ℕ → Bool) (p : Visit → Bool) (xs : List Visit) → ((k : ℕ) → has k (numbers_of xs) ≡ true → big k ≡ true) → list_all big (numbers_of (filter p xs)) ≡ true
filtered-within big p [] h = refl
filtered-within big p (x ∷ xs) h =
    by (p x) (h x.number (or-left (x.number == x.number) (has x.number (numbers_of xs)) (equal x.number))) (filtered-within big p xs (λ k i. h k (or-right (k == x.number) (has k (numbers_of xs)) i)))
  where
    by : (b : Bool) → big x.number ≡ true → list_all big (numbers_of (filter p xs)) ≡ true → list_all big (numbers_of (cond b (x ∷ filter p xs) (filter p xs))) ≡ true
    by true e i = both (big x.number) (list_all big (numbers_of (filter p xs))) e i
    by false e i = i

order-stands : (nodes : List Node) (ns : List ℕ) → list_all (stands nodes) (in_order (shape_of nodes) ns) ≡ true
order-stands nodes ns =
    filtered-within (stands nodes) (λ x. has x.number ns) (shape_of nodes) (λ k i. ap (λ all. has k (numbers_of all)) (shaped-is nodes) ∙ i)

abbrev IsOrder : List Node → List ℕ → Type 0
IsOrder nodes set = (ns : List ℕ) × (set ≡ in_order (shape_of nodes) ns)

set-order : (given : Given) (nodes : List Node) (e : Expr) (context : Context) (set : List ℕ) → set_over given nodes e context ≡ Some set → IsOrder nodes set
set-order given nodes e context set h = by (meaning e (shape_setting called given nodes context.model context.current.number) (focus_of context)) h
  where
    by : (m : Option Value) → option_map (λ v. bound_nodes (shape_of nodes) (nodes_of v)) m ≡ Some set → IsOrder nodes set
    by None i = cc i
    by (Some v) i = (flat_map (λ n. stand_ins (shape_of nodes) (find (λ x. x.number == n) (shape_of nodes))) (nodes_of v), cc i)

module _ (forest : Forest) (sound : Sound forest) (given : Given) (e : Expr) (context : Context) (set : List ℕ) (h : set_over given forest.nodes e context ≡ Some set) where
  pub set-apart : are_apart set ≡ true
  set-apart = let o = set-order given forest.nodes e context set h in subst (λ l. are_apart l ≡ true) (sym o.1) (order-apart forest sound o.0)

  pub set-shown : AllLive set forest.nodes → list_all (is_shown forest.nodes) set ≡ true
  set-shown live =
      let o = set-order given forest.nodes e context set h in all-shown forest.nodes set live (subst (λ l. list_all (stands forest.nodes) l ≡ true) (sym o.1) (order-stands forest.nodes o.0))

-- with the context node alone
pub set-value : (given : Given) (nodes : List Node) (e : Expr) (model : ℕ) (node : NodeId) (set : List ℕ) →
    set_over given nodes e (record { model = model; node = node; position = 1; size = 1; current = node }) ≡ Some set → set_from None (scope_in given [] model) (shape_of nodes) (trace e) node.number ≡ Some set
set-value given nodes e model node set h =
    ap (λ m. option_map (λ v. bound_nodes (shape_of nodes) (nodes_of v)) (m (setting_for None (scope_in given [] model) (shape_of nodes) node.number) (alone node.number))) (meaning-of_trace e) ∙ h

-- what is shown stands in the forest
pub shown-live : (nodes : List Node) (ns : List ℕ) → list_all (is_shown nodes) ns ≡ true → AllLive ns nodes
shown-live nodes [] h = refl
shown-live nodes (n ∷ ns) h =
    let p = and-true (is_shown nodes n) (list_all (is_shown nodes) ns) h in
    both (has_number n nodes) (list_all (λ n. has_number n nodes) ns) (and-true (has_number n nodes) (stands nodes n) p.0).0 (shown-live nodes ns p.1)

-- ---- all sets of a bind

each-append : (f : ℕ → Option (List ℕ)) (ns : List ℕ) (n : ℕ) → each f (ns ++ n ∷ []) ≡ (each f ns >>= λ ys. f n >>= λ y. Some (ys ++ y ∷ []))
each-append f [] n = refl
each-append f (m ∷ ns) n = ap (λ o. f m >>= λ z. o >>= λ zs. Some (z ∷ zs)) (each-append f ns n) ∙ by (f m) (each f ns) (f n)
  where
    by : (a : Option (List ℕ)) (b : Option (List (List ℕ))) (c : Option (List ℕ)) →
        (a >>= λ z. (b >>= λ ys. c >>= λ y. Some (ys ++ y ∷ [])) >>= λ zs. Some (z ∷ zs)) ≡ ((a >>= λ z. b >>= λ zs. Some (z ∷ zs)) >>= λ ys. c >>= λ y. Some (ys ++ y ∷ []))
    by None b c = refl
    by (Some z) None c = refl
    by (Some z) (Some ys) None = refl
    by (Some z) (Some ys) (Some y) = refl

pub sets-next : {S T : Type 0} (f : ℕ → Option (List ℕ)) (ids : List NodeId) (i : ℕ) (d : NodeId) (old : IndexMap ℕ Standing S) (now : IndexMap ℕ Standing T) (old_nodes now_nodes set : List ℕ) →
    i < length ids → f (get_or ids i d).number ≡ Some set → AreSets old_nodes old (each f (numbers (take i ids)))
    → ((sets : List (List ℕ)) → AreStandings old_nodes old sets → AreStandings now_nodes now (sets ++ set ∷ []))
    → AreSets now_nodes now (each f (numbers (take (i + 1) ids)))
sets-next f ids i d old now old_nodes now_nodes set l s inv more = subst (AreSets now_nodes now) (sym whole) (by (each f (numbers (take i ids))) inv)
  where
    whole : each f (numbers (take (i + 1) ids)) ≡ (each f (numbers (take i ids)) >>= λ ys. Some (ys ++ set ∷ []))
    whole =
        ap (λ j. each f (numbers (take j ids))) (let e : i + 1 ≡ suc i = omega arith in e)
        ∙ ap (λ l. each f (numbers l)) (take-suc ids i d l)
        ∙ ap (each f) (map-append (λ (x : NodeId). x.number) (take i ids) (get_or ids i d ∷ []))
        ∙ each-append f (numbers (take i ids)) (get_or ids i d).number
        ∙ ap (λ o. each f (numbers (take i ids)) >>= λ ys. o >>= λ y. Some (ys ++ y ∷ [])) s

    by : (m : Option (List (List ℕ))) → AreSets old_nodes old m → AreSets now_nodes now (m >>= λ ys. Some (ys ++ set ∷ []))
    by None h = h
    by (Some sets) h = more sets h

-- the nodes of the sets, where these are known
pub sets-ordered : {S : Type 0} (nodes : List Node) (all : List ℕ) (places : IndexMap ℕ Standing S) (m : Option (List (List ℕ))) → AreSets all places m
    → option_map (λ s. in_order (shape_of nodes) (joined s)) m ≡ Some (in_order (shape_of nodes) all)
sets-ordered nodes all places None h = absurd h
sets-ordered nodes all places (Some sets) h = ap (λ l. Some (in_order (shape_of nodes) l)) (sym h.all)

pub sets-are : {S : Type 0} (all : List ℕ) (places : IndexMap ℕ Standing S) (m : Option (List (List ℕ))) → AreSets all places m → AreStandings all places (unwrap_or m [])
sets-are all places None h = absurd h
sets-are all places (Some sets) h = h

-- ---- elements in a node, in the shape as in the forest

any-map : (p : Visit → Bool) → ((x : Visit) → p (erased x) ≡ p x) → (xs : List Visit) → list_any p (map erased xs) ≡ list_any p xs
any-map p h [] = refl
any-map p h (x ∷ xs) = ap (λ b. b || list_any p (map erased xs)) (h x) ∙ ap (λ b. p x || b) (any-map p h xs)

any-solid : (p : Visit → Bool) → ((x : Visit) → p x ≡ true → not (is_text x.content) ≡ true) → (xs : List Visit) → list_any p (untexted xs) ≡ list_any p xs
any-solid p h [] = refl
any-solid p h (x ∷ xs) = by (not (is_text x.content)) refl (any-solid p h xs)
  where
    by : (b : Bool) → not (is_text x.content) ≡ b → list_any p (untexted xs) ≡ list_any p xs → list_any p (cond b (x ∷ untexted xs) (untexted xs)) ≡ (p x || list_any p xs)
    by true e i = ap (λ b. p x || b) i
    by false e i = i ∙ of (p x) refl
      where
        of : (c : Bool) → p x ≡ c → list_any p xs ≡ (c || list_any p xs)
        of true j = no (sym e ∙ h x j)
        of false j = refl

element-kept : (c : Content) → is_element (without_text c) ≡ is_element c
element-kept content.Root = refl
element-kept (content.Element name) = refl
element-kept (content.Attribute name text) = refl
element-kept (content.Text text) = refl

element-no_text : (c : Content) → is_element c ≡ true → not (is_text c) ≡ true
element-no_text content.Root h = refl
element-no_text (content.Element name) h = refl
element-no_text (content.Attribute name text) h = refl
element-no_text (content.Text text) h = no h

abbrev is_in : ℕ → Visit → Bool
is_in n y = is_element y.content && is_first n y.above

pub elements-same : (nodes : List Node) (n : ℕ) → has_elements (shape_of nodes) n ≡ has_elements (visits nodes) n
elements-same nodes n =
    ap (λ all. has_elements all n) (sym (shaped-is nodes))
    ∙ sym (any-solid (is_in n) (λ x h. element-no_text x.content (and-true (is_element x.content) (is_first n x.above) h).0) (shaped nodes))
    ∙ ap (list_any (is_in n)) (shape-untexted (visits nodes))
    ∙ any-solid (is_in n) (λ x h. element-no_text x.content (and-true (is_element x.content) (is_first n x.above) h).0) (map erased (visits nodes))
    ∙ any-map (is_in n) (λ x. ap (λ b. b && is_first n x.above) (element-kept x.content)) (visits nodes)

-- ---- results

pub ok-both : {T E : Type 0} (r : Result T E) (P Q R : T → Type 0) → ((x : T) → P x → Q x → R x) → IfOk r P → IfOk r Q → IfOk r R
ok-both (Ok x) P Q R f p q = f x p q
ok-both (Err e) P Q R f p q = tt
