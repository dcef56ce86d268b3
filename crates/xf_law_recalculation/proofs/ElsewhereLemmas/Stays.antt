-- Changes elsewhere leave the part of a model.
use Rattle.std.proofs.Common.{◌≡◌, ℕ, suc, ◌≤◌, ◌==◌, Bool, true, false, not, cond, ◌||◌, List, [], ◌∷◌, ◌++◌, map, nat_lt, Option, Some, None, option_map, refl, sym, ap, ◌∙◌, subst, arith, append-nil, inl, inr}
use Rattle.std.specs.Prelude.{◌⊎◌, filter}
use Rattle.std.specs.List.{list_any, list_all}
use Rattle.std.proofs.lemmas.Bool.{eqb-true}
use Rattle.xf_def_syntax.specs.declared.form.Instance.{Instance}
use Rattle.xf_def_forest.specs.declared.content.Content.{Content}
use Rattle.xf_def_forest.specs.declared.content.Content.TheVariants as content
use Rattle.xf_def_forest.specs.declared.content.Kind.{Kind}
use Rattle.xf_def_forest.specs.declared.content.Kind.TheVariants as kind
use Rattle.xf_def_forest.specs.declared.content.Node.{Node}
use Rattle.xf_def_forest.specs.Forest.{Forest, is_root, is_attribute, kind_of, kind_at, content_at, node_at, has_number, below, past, tree_of}
use Rattle.xf_def_forest.specs.Visit.{visits, has}
use Rattle.xf_def_forest.specs.Needs.{is_top, MayStand, in_element, in_root, as_attribute, goes_below}
use Rattle.xf_def_forest.specs.Plant.{numbered_from}
use Rattle.xf_def_forest.specs.Changes.{is_detached_top, in_instances, in_detached, moved_to, without_tree, place_of, with_root, detached, placed}
use Rattle.xf_def_forest.specs.Texts.{Before, Keeping, one_text, at_depth, with_content, with_texts, with_value, valued, with_attribute_text, is_attribute_at, with_text}
use Rattle.xf_def_forest.specs.Settle.{has_text, with_numbered_text}
use Rattle.xf_def_forest.specs.WellFormed.{are_apart, are_tops, HasTrees}
use Rattle.xf_def_forest.proofs.BackLaws.{and-true, or-false, not-true}
use Rattle.xf_def_xpath.proofs.VisitFacts.{self-same, or-right}
use Rattle.xf_law_forests.specs.Rollback.Made.{begins_at_top}
use Rattle.xf_law_forests.proofs.RollbackLemmas.Laws.{rolls_back}
use Rattle.xf_law_forests.proofs.RollbackLemmas.Outcomes.{unless-ok, attached-placed}
use Rattle.xf_law_forests.specs.Settle.Written.{Contents, written}
use Rattle.xf_law_forests.specs.Root.Roots.{IsNoRoot, roots_in}
use Rattle.xf_law_forests.proofs.RootLemmas.Shown.{parts, roots-by}
use Rattle.xf_law_forests.proofs.RootLemmas.Parts.{texts-shown, stay-valued}
use Rattle.xf_law_forests.proofs.RootLemmas.Stays.{roots_stay_text, roots_stay_detached, roots_stay_placed, roots_stay_grown, roots_stay_dropped, root_added}
use Rattle.xf_law_recalculation.specs.Elsewhere.Parts.{own_roots, trees_from, IsPart}
use Rattle.xf_law_recalculation.specs.Elsewhere.Stays.{IsElsewhere, PartStaysNumbered, PartStaysText, PartStaysWritten, PartStaysReserved, PartStaysGrown, PartStaysDetached, PartStaysPlaced, PartStaysAttached, PartStaysDropped, PartStaysRooted, PartRolledBack}
use Rattle.xf_law_recalculation.proofs.ElsewhereLemmas.Own.{own-root, no-root_there, fresh-root, other-root, own-more}
use Rattle.xf_law_recalculation.proofs.ElsewhereLemmas.Trees.{both, or_true, low, moved-low, text-stays, without-stays, other, others-out, begins, split, moved-begins, moved-out, put-stays, skip, top-out}

-- the tops of the part
abbrev tops_of : List Instance → ℕ → List Node → List ℕ
tops_of instances model nodes = own_roots model instances (roots_in nodes)

-- where the roots stay, and the trees with their tops
by-roots : (instances : List Instance) (model : ℕ) (part forest after : Forest) → IsPart instances model part forest → roots_in after.nodes ≡ roots_in forest.nodes →
    trees_from (tops_of instances model forest.nodes) false after.nodes ≡ trees_from (tops_of instances model forest.nodes) false forest.nodes → IsPart instances model part after
by-roots instances model part forest after h roots trees = record {
  nodes = h.nodes ∙ sym trees ∙ ap (λ rs. trees_from (own_roots model instances rs) false after.nodes) (sym roots);
}

-- elsewhere no node of the trees has its number
out : (instances : List Instance) (model n : ℕ) (part forest : Forest) → IsPart instances model part forest → IsElsewhere n part → has_number n (trees_from (tops_of instances model forest.nodes) false forest.nodes) ≡ false
out instances model n part forest h e = ap (has_number n) (sym h.nodes) ∙ e

-- ---- texts

pub part_stays_numbered : PartStaysNumbered
part_stays_numbered instances model number n next text part forest h trees e =
    by-roots instances model part forest (record { nodes = with_numbered_text number n text forest.nodes; next = next }) h (roots_stay_text number n text forest trees).same
    (text-stays (tops_of instances model forest.nodes) n number text forest.nodes (out instances model n part forest h e))

pub part_stays_text : PartStaysText
part_stays_text instances model l n text part before k after h trees e set =
    subst (λ (f : Forest). IsPart instances model part f) (ap (λ (p : Before × Keeping). p.1.forest) (unless-ok _ _ (before, after) set))
    (subst (λ nodes. IsPart instances model part (record { nodes = nodes; next = (with_text n text k.forest).next })) (by (is_attribute_at n k.forest.nodes))
    (part_stays_numbered instances model k.forest.next n (with_text n text k.forest).next text part k.forest h trees e))
  where
    by : (b : Bool) → cond b (with_attribute_text n text k.forest.nodes) (with_texts n (one_text k.forest.next text) k.forest.nodes)
        ≡ cond b (with_attribute_text n text k.forest.nodes) (with_texts n (cond b [] (one_text k.forest.next text)) k.forest.nodes)
    by true = refl
    by false = refl

-- a text is no root: what stood above nothing still does
abbrev topped : Node → Bool
topped x = not (is_root x.content) || (x.depth == 0)

all-append : (p : Node → Bool) (xs ys : List Node) → list_all p xs ≡ true → list_all p ys ≡ true → list_all p (xs ++ ys) ≡ true
all-append p [] ys h i = i
all-append p (x ∷ xs) ys h i = let ps = and-true (p x) (list_all p xs) h in both (p x) (list_all p (xs ++ ys)) ps.0 (all-append p xs ys ps.1 i)

all-filter : (p q : Node → Bool) (xs : List Node) → list_all p xs ≡ true → list_all p (filter q xs) ≡ true
all-filter p q [] h = refl
all-filter p q (x ∷ xs) h = by (q x) (all-filter p q xs ps.1)
  where
    ps : (p x ≡ true) × (list_all p xs ≡ true)
    ps = and-true (p x) (list_all p xs) h

    by : (b : Bool) → list_all p (filter q xs) ≡ true → list_all p (cond b (x ∷ filter q xs) (filter q xs)) ≡ true
    by true f = both (p x) (list_all p (filter q xs)) ps.0 f
    by false f = f

all-below : (p : Node → Bool) (d : ℕ) (xs : List Node) → list_all p xs ≡ true → (list_all p (below d xs) ≡ true) × (list_all p (past d xs) ≡ true)
all-below p d [] h = (refl, refl)
all-below p d (x ∷ xs) h = by (nat_lt d x.depth) (all-below p d xs ps.1)
  where
    ps : (p x ≡ true) × (list_all p xs ≡ true)
    ps = and-true (p x) (list_all p xs) h

    by : (b : Bool) → (list_all p (below d xs) ≡ true) × (list_all p (past d xs) ≡ true) → (list_all p (cond b (x ∷ below d xs) []) ≡ true) × (list_all p (cond b (past d xs) (x ∷ xs)) ≡ true)
    by true f = (both (p x) (list_all p (below d xs)) ps.0 f.0, f.1)
    by false f = (refl, h)

tops-texts : (number n : ℕ) (text : List ℕ) (xs : List Node) → are_tops xs ≡ true → are_tops (with_texts n (one_text number text) xs) ≡ true
tops-texts number n text [] h = refl
tops-texts number n text (x ∷ xs) h = by (x.number == n) (tops-texts number n text xs ps.1)
  where
    ps : (topped x ≡ true) × (are_tops xs ≡ true)
    ps = and-true (topped x) (are_tops xs) h

    new : (ts : List ℕ) → list_all topped (map (at_depth (suc x.depth)) (one_text number ts)) ≡ true
    new [] = refl
    new (c ∷ cs) = refl

    by : (b : Bool) → are_tops (with_texts n (one_text number text) xs) ≡ true → are_tops (cond b (x ∷ with_content x.depth (one_text number text) xs) (x ∷ with_texts n (one_text number text) xs)) ≡ true
    by true f =
        let us = all-below topped x.depth xs ps.1 in
        both (topped x) (are_tops (with_content x.depth (one_text number text) xs)) ps.0
        (all-append topped (filter (λ y. is_attribute y.content) (below x.depth xs) ++ map (at_depth (suc x.depth)) (one_text number text)) (past x.depth xs)
        (all-append topped (filter (λ y. is_attribute y.content) (below x.depth xs)) (map (at_depth (suc x.depth)) (one_text number text)) (all-filter topped (λ y. is_attribute y.content) (below x.depth xs) us.0) (new text)) us.1)
    by false f = both (topped x) (are_tops (with_texts n (one_text number text) xs)) ps.0 f

tops-valued : (n : ℕ) (text : List ℕ) (xs : List Node) → are_tops xs ≡ true → are_tops (with_attribute_text n text xs) ≡ true
tops-valued n text [] h = refl
tops-valued n text (x ∷ xs) h = both (topped (valued n text x)) (are_tops (with_attribute_text n text xs)) (by (x.number == n)) (tops-valued n text xs ps.1)
  where
    ps : (topped x ≡ true) × (are_tops xs ≡ true)
    ps = and-true (topped x) (are_tops xs) h

    value-root : (c : Content) → is_root (with_value text c) ≡ is_root c
    value-root content.Root = refl
    value-root (content.Element name) = refl
    value-root (content.Attribute name old) = refl
    value-root (content.Text old) = refl

    by : (b : Bool) → topped (cond b (record x { content = with_value text x.content }) x) ≡ true
    by true = ap (λ r. not r || (x.depth == 0)) (value-root x.content) ∙ ps.0
    by false = ps.0

tops-text : (number n : ℕ) (text : List ℕ) (nodes : List Node) → are_tops nodes ≡ true → are_tops (with_numbered_text number n text nodes) ≡ true
tops-text number n text nodes h = by (is_attribute_at n nodes)
  where
    by : (b : Bool) → are_tops (cond b (with_attribute_text n text nodes) (with_texts n (one_text number text) nodes)) ≡ true
    by true = tops-valued n text nodes h
    by false = tops-texts number n text nodes h

roots-text : (number n : ℕ) (text : List ℕ) (nodes : List Node) → are_tops nodes ≡ true → roots_in (with_numbered_text number n text nodes) ≡ roots_in nodes
roots-text number n text nodes h = by (is_attribute_at n nodes)
  where
    by : (b : Bool) → roots_in (cond b (with_attribute_text n text nodes) (with_texts n (one_text number text) nodes)) ≡ roots_in nodes
    by true = (stay-valued n text nodes).same
    by false = roots-by nodes (with_texts n (one_text number text) nodes) (texts-shown n number text nodes h)

-- what one content leaves, written or not
pub record Left (tops : List ℕ) (nodes after : List Node) : Type 0 where
  pub tops_too : are_tops after ≡ true
  pub roots : roots_in after ≡ roots_in nodes
  pub trees : trees_from tops false after ≡ trees_from tops false nodes

written-left : (tops : List ℕ) (done : ℕ → Bool) (number : ℕ) (contents : Contents) (nodes : List Node) → are_tops nodes ≡ true →
    list_any (λ p. has_number p.0 (trees_from tops false nodes)) contents ≡ false → Left tops nodes (written done number contents nodes)
written-left tops done number [] nodes t h = record { tops_too = t; roots = refl; trees = refl }
written-left tops done number ((n, text) ∷ contents) nodes t h = later (by (done n) (has_text n text nodes)) (λ after l. written-left tops done (suc number) contents after l.tops_too
    (ap (λ ys. list_any (λ (p : ℕ × List ℕ). has_number p.0 ys) contents) l.trees ∙ ps.1))
  where
    ps : (has_number n (trees_from tops false nodes) ≡ false) × (list_any (λ (p : ℕ × List ℕ). has_number p.0 (trees_from tops false nodes)) contents ≡ false)
    ps = or-false (has_number n (trees_from tops false nodes)) (list_any (λ (p : ℕ × List ℕ). has_number p.0 (trees_from tops false nodes)) contents) h

    by : (a b : Bool) → Left tops nodes (cond a (cond b nodes (with_numbered_text number n text nodes)) nodes)
    by false b = record { tops_too = t; roots = refl; trees = refl }
    by true true = record { tops_too = t; roots = refl; trees = refl }
    by true false = record { tops_too = tops-text number n text nodes t; roots = roots-text number n text nodes t; trees = text-stays tops n number text nodes ps.0 }

    later : {after : List Node} → Left tops nodes after → ((ys : List Node) → Left tops nodes ys → Left tops ys (written done (suc number) contents ys)) → Left tops nodes (written done (suc number) contents after)
    later {after = after} l f = let m = f after l in record { tops_too = m.tops_too; roots = m.roots ∙ l.roots; trees = m.trees ∙ l.trees }

pub part_stays_written : PartStaysWritten
part_stays_written instances model number next done contents part forest h trees e =
    let l = written-left (tops_of instances model forest.nodes) done number contents forest.nodes trees.tops (ap (λ ys. list_any (λ (p : ℕ × List ℕ). has_number p.0 ys) contents) (sym h.nodes) ∙ e) in
    by-roots instances model part forest (record { nodes = written done number contents forest.nodes; next = next }) h l.roots l.trees

pub part_stays_reserved : PartStaysReserved
part_stays_reserved instances model count part forest h = record { nodes = h.nodes }

-- ---- trees

-- the number of a node that is no root is none of the tops
no-root : (n : ℕ) (forest : Forest) → IsNoRoot n forest → (z : Node) → node_at n forest.nodes ≡ Some z → is_root z.content ≡ false
no-root n forest h z e = elim h [ inl i ↦ of (inl (some (told i))) | inr i ↦ of (inr (some (told i))) ]
  where
    some : {X : Type 0} {a b : X} → Some a ≡ Some b → a ≡ b
    some i = cc i

    told : {k : Option Kind} → kind_at n forest.nodes ≡ k → Some (kind_of z.content) ≡ k
    told i = sym (ap (λ o. option_map kind_of (option_map (λ (y : Node). y.content) o)) e) ∙ i

    of : (kind_of z.content ≡ kind.Element) ⊎ (kind_of z.content ≡ kind.Attribute) → is_root z.content ≡ false
    of i = by z.content i
      where
        by : (c : Content) → (kind_of c ≡ kind.Element) ⊎ (kind_of c ≡ kind.Attribute) → is_root c ≡ false
        by content.Root (inl j) = cc j
        by content.Root (inr j) = cc j
        by (content.Element name) j = refl
        by (content.Attribute name text) j = refl
        by (content.Text text) j = refl

none-of : (instances : List Instance) (model n : ℕ) (forest : Forest) → HasTrees forest → IsNoRoot n forest → has n (tops_of instances model forest.nodes) ≡ false
none-of instances model n forest trees kinds = own-root model n instances (roots_in forest.nodes) (other-root n forest.nodes trees.apart (no-root n forest kinds))

pub part_stays_detached : PartStaysDetached
part_stays_detached instances model n part forest h trees may e =
    let tops = tops_of instances model forest.nodes in
    by-roots instances model part forest (detached n forest) h (roots_stay_detached n forest trees may.kind).same
    (split tops false (without_tree n forest.nodes) (moved_to 0 (tree_of n forest.nodes)) (moved-begins tops (tree_of n forest.nodes))
    ∙ ap (λ l. trees_from tops false (without_tree n forest.nodes) ++ l) (moved-out tops n forest.nodes (none-of instances model n forest trees may.kind))
    ∙ append-nil (trees_from tops false (without_tree n forest.nodes))
    ∙ without-stays tops n false forest.nodes (out instances model n part forest h e))

-- a top that is no root is elsewhere
top-elsewhere : (instances : List Instance) (model n : ℕ) (forest : Forest) → HasTrees forest → is_top n forest.nodes ≡ true → IsNoRoot n forest → has_number n (trees_from (tops_of instances model forest.nodes) false forest.nodes) ≡ false
top-elsewhere instances model n forest trees top kinds =
    top-out (tops_of instances model forest.nodes) n false forest.nodes trees.apart top (none-of instances model n forest trees kinds)

placed-stays : (instances : List Instance) (model n parent place : ℕ) (part forest : Forest) → IsPart instances model part forest → HasTrees forest → is_top n forest.nodes ≡ true → IsNoRoot n forest → IsElsewhere parent part →
    IsPart instances model part (placed n parent place forest)
placed-stays instances model n parent place part forest h trees top kinds e =
    let tops = tops_of instances model forest.nodes in
    let cut : trees_from tops false (without_tree n forest.nodes) ≡ trees_from tops false forest.nodes = without-stays tops n false forest.nodes (top-elsewhere instances model n forest trees top kinds) in
    by-roots instances model part forest (placed n parent place forest) h (roots_stay_placed n parent place forest trees kinds).same
    (put-stays tops parent place (tree_of n forest.nodes) false (without_tree n forest.nodes) (ap (has_number parent) cut ∙ out instances model parent part forest h e) ∙ cut)

below-kinds : (n parent : ℕ) (forest : Forest) → goes_below (kind_at n forest.nodes) (kind_at parent forest.nodes) ≡ true → IsNoRoot n forest
below-kinds n parent forest h = by (kind_at n forest.nodes) (kind_at parent forest.nodes) refl h
  where
    by : (a b : Option Kind) → kind_at n forest.nodes ≡ a → goes_below a b ≡ true → IsNoRoot n forest
    by None b e i = cc i
    by (Some kind.Root) b e i = cc i
    by (Some kind.Element) b e i = inl e
    by (Some kind.Attribute) b e i = inr e
    by (Some kind.Text) b e i = cc i

pub part_stays_placed : PartStaysPlaced
part_stays_placed instances model n parent place part forest h trees may e =
    placed-stays instances model n parent place part forest h trees may.detached (below-kinds n parent forest may.kinds) e

stand-kinds : (n parent place : ℕ) (forest : Forest) → MayStand n parent place forest → IsNoRoot n forest
stand-kinds n parent place forest (in_element e i j) = inl e
stand-kinds n parent place forest (in_root e i j k) = inl e
stand-kinds n parent place forest (as_attribute e i j) = inr e

pub part_stays_attached : PartStaysAttached
part_stays_attached instances model l n parent place part forest after h trees may e attach =
    subst (λ f. IsPart instances model part f) (attached-placed l n parent place forest after attach)
    (placed-stays instances model n parent (place_of parent place (visits forest.nodes) (content_at n forest.nodes)) part forest h trees may.detached (stand-kinds n parent place forest may.stands) e)

-- ---- new trees

grown-others : (tops : List ℕ) (next : ℕ) (contents : List (ℕ × Content)) → ((k : ℕ) → next ≤ k → has k tops ≡ false) → list_all (other tops) (numbered_from next contents) ≡ true
grown-others tops next [] h = refl
grown-others tops next (c ∷ cs) h =
    both (not (c.0 == 0) || not (has next tops)) (list_all (other tops) (numbered_from (suc next) cs))
    (ap (λ b. not (c.0 == 0) || not b) (h next (omega arith)) ∙ or_true (not (c.0 == 0))) (grown-others tops (suc next) cs (λ k i. h k (omega (arith, i))))

grown-begins : (tops : List ℕ) (next : ℕ) (contents : List (ℕ × Content)) → begins_at_top contents ≡ true → begins tops (numbered_from next contents) ≡ true
grown-begins tops next [] h = refl
grown-begins tops next (c ∷ cs) h = h

pub part_stays_grown : PartStaysGrown
part_stays_grown instances model next contents part forest h trees growth =
    let tops = tops_of instances model forest.nodes in
    let new = numbered_from forest.next contents in
    by-roots instances model part forest (record { nodes = forest.nodes ++ new; next = next }) h (roots_stay_grown forest.next contents forest.nodes growth).same
    (split tops false forest.nodes new (grown-begins tops forest.next contents growth.top)
    ∙ ap (λ l. trees_from tops false forest.nodes ++ l) (others-out tops new (grown-others tops forest.next contents (λ k i. own-root model k instances (roots_in forest.nodes) (fresh-root k forest.next forest.nodes i trees.below))))
    ∙ append-nil (trees_from tops false forest.nodes))

-- ---- detached trees that are dropped

detached-begins : (tops : List ℕ) (nodes : List Node) → begins tops (in_detached nodes) ≡ true
detached-begins tops [] = refl
detached-begins tops (x ∷ xs) = by (is_detached_top x) refl (detached-begins tops xs)
  where
    by : (b : Bool) → is_detached_top x ≡ b → begins tops (in_detached xs) ≡ true → begins tops (cond b (x ∷ xs) (in_detached xs)) ≡ true
    by true e f = (and-true (x.depth == 0) (not (is_root x.content)) e).0
    by false e f = f

-- nodes whose numbers are none of the tops
absent-others : (tops : List ℕ) (zs : List Node) → ((k : ℕ) → has_number k zs ≡ true → has k tops ≡ false) → list_all (other tops) zs ≡ true
absent-others tops [] h = refl
absent-others tops (z ∷ zs) h =
    both (low z || not (has z.number tops)) (list_all (other tops) zs) (ap (λ b. low z || not b) (h z.number (ap (λ b. b || has_number z.number zs) (self-same z.number))) ∙ or_true (low z))
    (absent-others tops zs (λ k i. h k (or-right (z.number == k) (has_number k zs) i)))

number-parts : (k : ℕ) (xs ys : List Node) → are_apart (xs ++ ys) ≡ true → has_number k ys ≡ true → has_number k xs ≡ false
number-parts k [] ys a h = refl
number-parts k (x ∷ xs) ys a h = by (x.number == k) refl (number-parts k xs ys ps.1 h)
  where
    ps : (not (has_number x.number (xs ++ ys)) ≡ true) × (are_apart (xs ++ ys) ≡ true)
    ps = and-true (not (has_number x.number (xs ++ ys))) (are_apart (xs ++ ys)) a

    later : (m : ℕ) (zs : List Node) → has_number m ys ≡ true → has_number m (zs ++ ys) ≡ true
    later m [] i = i
    later m (z ∷ zs) i = or-right (z.number == m) (has_number m (zs ++ ys)) (later m zs i)

    by : (b : Bool) → (x.number == k) ≡ b → has_number k xs ≡ false → (b || has_number k xs) ≡ false
    by true e f = cc (sym (not-true (has_number x.number (xs ++ ys)) ps.0) ∙ later x.number xs (ap (λ m. has_number m ys) (eqb-true x.number k e) ∙ h))
    by false e f = f

pub part_stays_dropped : PartStaysDropped
part_stays_dropped instances model next part forest h trees ahead =
    let tops = tops_of instances model forest.nodes in
    let front = in_instances forest.nodes in
    let behind = in_detached forest.nodes in
    let same : roots_in front ≡ roots_in forest.nodes = (roots_stay_dropped forest.nodes ahead).same in
    let away : list_all (other tops) behind ≡ true =
    absent-others tops behind (λ k i. own-root model k instances (roots_in forest.nodes) (ap (has k) (sym same) ∙ no-root_there k front (number-parts k front behind (ap are_apart (sym (parts forest.nodes)) ∙ trees.apart) i))) in
    by-roots instances model part forest (record { nodes = front; next = next }) h same
    (sym (ap (trees_from tops false) (parts forest.nodes) ∙ split tops false front behind (detached-begins tops forest.nodes) ∙ ap (λ l. trees_from tops false front ++ l) (others-out tops behind away) ∙ append-nil (trees_from tops false front)))

-- ---- a new root

append-grouped : (xs ys zs : List Node) → (xs ++ ys) ++ zs ≡ xs ++ (ys ++ zs)
append-grouped [] ys zs = refl
append-grouped (x ∷ xs) ys zs = ap (λ l. x ∷ l) (append-grouped xs ys zs)

pub part_stays_rooted : PartStaysRooted
part_stays_rooted instances model top part forest h trees may roots other_model = record {
  nodes = h.nodes ∙ sym (ap (λ ts. trees_from ts false (with_root top forest).1.nodes) (ap (own_roots model instances) (root_added top forest trees may roots).1 ∙ own-more model forest.next instances (roots_in forest.nodes) other_model)
      ∙ same);
}
  where
    tops : List ℕ
    tops = tops_of instances model forest.nodes

    rest : List Node
    rest = without_tree top forest.nodes

    moved : List Node
    moved = moved_to 1 (tree_of top forest.nodes)

    root : Node
    root = record { number = forest.next; depth = 0; content = content.Root }

    new : has forest.next tops ≡ false
    new = own-root model forest.next instances (roots_in forest.nodes) (fresh-root forest.next forest.next forest.nodes (omega arith) trees.below)

    same : trees_from tops false (with_root top forest).1.nodes ≡ trees_from tops false forest.nodes
    same =
        ap (trees_from tops false) (append-grouped (in_instances rest) (root ∷ moved) (in_detached rest))
        ∙ split tops false (in_instances rest) (root ∷ moved ++ in_detached rest) refl
        ∙ ap (λ l. trees_from tops false (in_instances rest) ++ l)
        (ap (λ b. cond b (root ∷ trees_from tops b (moved ++ in_detached rest)) (trees_from tops b (moved ++ in_detached rest))) new ∙ skip tops moved (in_detached rest) (moved-low 0 (tree_of top forest.nodes)))
        ∙ sym (split tops false (in_instances rest) (in_detached rest) (detached-begins tops rest))
        ∙ ap (trees_from tops false) (sym (parts rest))
        ∙ without-stays tops top false forest.nodes (top-elsewhere instances model top forest trees may.detached (inl may.kind))

-- ---- all is undone

pub part_rolled_back : PartRolledBack
part_rolled_back instances model part start k l made sound h = subst (λ (s : Keeping). IsPart instances model part s.forest) (sym (rolls_back made sound)) h
