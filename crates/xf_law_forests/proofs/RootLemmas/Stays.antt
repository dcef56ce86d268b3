-- Each change leaves the roots, and so does what was made of a forest since it was kept.
use Rattle.std.proofs.Common.{◌≡◌, ℕ, zero, suc, Bool, true, false, not, cond, List, [], ◌∷◌, ◌++◌, map, nat_lt, Option, Some, option_map, refl, sym, ap, ◌∙◌, subst, append-nil, inl, inr}
use Rattle.std.specs.Prelude.{◌⊎◌, filter, slice_get}
use Rattle.std.specs.List.{list_any, list_all}
use Rattle.xf_def_forest.specs.declared.content.Content.{Content}
use Rattle.xf_def_forest.specs.declared.content.Content.TheVariants as content
use Rattle.xf_def_forest.specs.declared.content.Kind.TheVariants as kind
use Rattle.xf_def_forest.specs.declared.content.Node.{Node}
use Rattle.xf_def_forest.specs.Forest.{Forest, is_root, kind_of, kind_at, content_at, node_at, tree_of}
use Rattle.xf_def_forest.specs.Visit.{visits}
use Rattle.xf_def_forest.specs.Plant.{numbered_from}
use Rattle.xf_def_forest.specs.Changes.{moved_to, without_tree, in_instances, in_detached, root_of, with_root, place_of, with_below, detached, placed}
use Rattle.xf_def_forest.specs.Texts.{Keeping, one_text, with_texts, with_attribute_text, is_attribute_at, before_of}
use Rattle.xf_def_forest.specs.Settle.{with_numbered_text}
use Rattle.xf_def_forest.specs.Needs.{MayStand, in_element, in_root, as_attribute}
use Rattle.xf_def_forest.specs.WellFormed.{are_below, are_tops}
use Rattle.xf_def_forest.specs.Undo.{Ledger}
use Rattle.xf_def_forest.proofs.BackLaws.{and-true, or-false}
use Rattle.xf_law_forests.specs.Rollback.Made.{Made, begun, noted, texts, passed, joined, cut, grown, with_new_text}
use Rattle.xf_law_forests.proofs.RollbackLemmas.Laws.{rolls_back}
use Rattle.xf_law_forests.proofs.RollbackLemmas.MadeLemmas.{begun-with, none-detached}
use Rattle.xf_law_forests.proofs.RollbackLemmas.Outcomes.{attached-placed, set-forest}
use Rattle.xf_law_forests.specs.Root.Roots.{AreAhead, roots_in, are_rising, RootsStay, IsNoRoot, EmptyHasRoots, StayHasRoots, RootAtPlace, RootsStayText, RootsStayDetached, RootsStayPlaced, RootsStayGrown, RootsStayDropped, RootAdded, RootsMade, RootsRolledBack}
use Rattle.xf_law_forests.proofs.RootLemmas.Shown.{rootless, shown, both, roots-append, none-rooted, stay-by, ahead-by, roots-by, shown-skip, rootless-ahead, ahead-append, front-ahead, parts}
use Rattle.xf_law_forests.proofs.RootLemmas.Parts.{texts-shown, stay-valued, ahead-without, roots-without, tree-rootless, moved-rootless, moved-deep, put-shown}

-- ---- what it is for

pub empty_has_roots : EmptyHasRoots
empty_has_roots = record { ahead = refl; rising = refl }

pub stay_has_roots : StayHasRoots
stay_has_roots nodes after stay h = record { ahead = stay.ahead h.ahead; rising = ap are_rising stay.same ∙ h.rising }

pub root_at_place : RootAtPlace
root_at_place place [] = refl
root_at_place zero (x ∷ xs) = by (is_root x.content) (root_at_place zero xs)
  where
    by : (b : Bool) → root_of zero xs ≡ slice_get (roots_in xs) zero →
        cond b (Some x.number) (root_of zero xs) ≡ slice_get (map (λ (y : Node). y.number) (cond b (x ∷ filter (λ y. is_root y.content) xs) (filter (λ y. is_root y.content) xs))) zero
    by true h = refl
    by false h = h
root_at_place (suc place) (x ∷ xs) = by (is_root x.content) (root_at_place place xs) (root_at_place (suc place) xs)
  where
    by : (b : Bool) → root_of place xs ≡ slice_get (roots_in xs) place → root_of (suc place) xs ≡ slice_get (roots_in xs) (suc place) →
        cond b (root_of place xs) (root_of (suc place) xs) ≡ slice_get (map (λ (y : Node). y.number) (cond b (x ∷ filter (λ y. is_root y.content) xs) (filter (λ y. is_root y.content) xs))) (suc place)
    by true h i = h
    by false h i = i

-- ---- each change

no-root : (n : ℕ) (forest : Forest) → IsNoRoot n forest → (z : Node) → node_at n forest.nodes ≡ Some z → is_root z.content ≡ false
no-root n forest h z e = elim h [ inl i ↦ of (inl (some (told i))) | inr i ↦ of (inr (some (told i))) ]
  where
    some : {X : Type 0} {a b : X} → Some a ≡ Some b → a ≡ b
    some i = cc i

    told : {k : Option _} → kind_at n forest.nodes ≡ k → Some (kind_of z.content) ≡ k
    told i = sym (ap (λ o. option_map kind_of (option_map (λ (y : Node). y.content) o)) e) ∙ i

    of : (kind_of z.content ≡ kind.Element) ⊎ (kind_of z.content ≡ kind.Attribute) → is_root z.content ≡ false
    of i = by z.content i
      where
        by : (c : Content) → (kind_of c ≡ kind.Element) ⊎ (kind_of c ≡ kind.Attribute) → is_root c ≡ false
        by content.Root (inl j) = cc j
        by content.Root (inr j) = cc j
        by (content.Element name) j = refl
        by (content.Attribute name text) j = refl
        by (content.Text text) j = refl

stay-text : (number n : ℕ) (text : List ℕ) (nodes : List Node) → are_tops nodes ≡ true → RootsStay nodes (with_numbered_text number n text nodes)
stay-text number n text nodes tops = by (is_attribute_at n nodes)
  where
    by : (b : Bool) → RootsStay nodes (cond b (with_attribute_text n text nodes) (with_texts n (one_text number text) nodes))
    by true = stay-valued n text nodes
    by false = stay-by nodes (with_texts n (one_text number text) nodes) (texts-shown n number text nodes tops)

pub roots_stay_text : RootsStayText
roots_stay_text number n text forest trees = stay-text number n text forest.nodes trees.tops

stay-detached : (n : ℕ) (forest : Forest) → are_tops forest.nodes ≡ true → IsNoRoot n forest → RootsStay forest.nodes (detached n forest).nodes
stay-detached n forest tops kinds = record {
  ahead = λ h. ahead-append (without_tree n forest.nodes) moved (ahead-without n forest.nodes tops h) away;
  same = roots-append (without_tree n forest.nodes) moved ∙ ap (λ l. roots_in (without_tree n forest.nodes) ++ l) (none-rooted moved away)
      ∙ append-nil (roots_in (without_tree n forest.nodes)) ∙ roots-without n forest.nodes tops (no-root n forest kinds);
}
  where
    moved : List Node
    moved = moved_to 0 (tree_of n forest.nodes)

    away : rootless moved ≡ true
    away = moved-rootless 0 (tree_of n forest.nodes) (tree-rootless n forest.nodes tops (no-root n forest kinds))

pub roots_stay_detached : RootsStayDetached
roots_stay_detached n forest trees kinds = stay-detached n forest trees.tops kinds

stay-placed : (n p place : ℕ) (forest : Forest) → are_tops forest.nodes ≡ true → IsNoRoot n forest → RootsStay forest.nodes (placed n p place forest).nodes
stay-placed n p place forest tops kinds = record {
  ahead = λ h. ahead-by rest (placed n p place forest).nodes put (ahead-without n forest.nodes tops h);
  same = roots-by rest (placed n p place forest).nodes put ∙ roots-without n forest.nodes tops (no-root n forest kinds);
}
  where
    rest : List Node
    rest = without_tree n forest.nodes

    put : shown (with_below p place (tree_of n forest.nodes) rest) ≡ shown rest
    put = put-shown p place (tree_of n forest.nodes) rest (tree-rootless n forest.nodes tops (no-root n forest kinds))

pub roots_stay_placed : RootsStayPlaced
roots_stay_placed n p place forest trees kinds = stay-placed n p place forest trees.tops kinds

numbered-rootless : (next : ℕ) (contents : List (ℕ × Content)) → list_any (λ p. is_root p.1) contents ≡ false → rootless (numbered_from next contents) ≡ true
numbered-rootless next [] h = refl
numbered-rootless next (c ∷ cs) h =
    let ps = or-false (is_root c.1) (list_any (λ p. is_root p.1) cs) h in both (not (is_root c.1)) (rootless (numbered_from (suc next) cs)) (ap not ps.0) (numbered-rootless (suc next) cs ps.1)

pub roots_stay_grown : RootsStayGrown
roots_stay_grown next contents nodes growth = record {
  ahead = λ h. ahead-append nodes (numbered_from next contents) h away;
  same = roots-append nodes (numbered_from next contents) ∙ ap (λ l. roots_in nodes ++ l) (none-rooted (numbered_from next contents) away) ∙ append-nil (roots_in nodes);
}
  where
    away : rootless (numbered_from next contents) ≡ true
    away = numbered-rootless next contents growth.rootless

pub roots_stay_dropped : RootsStayDropped
roots_stay_dropped nodes h = record {
  ahead = λ i. ap rootless (none-detached nodes);
  same = sym (ap roots_in (parts nodes) ∙ roots-append (in_instances nodes) (in_detached nodes) ∙ ap (λ l. roots_in (in_instances nodes) ++ l) (none-rooted (in_detached nodes) h) ∙ append-nil (roots_in (in_instances nodes)));
}

-- ---- a new instance

rising-more : (ns : List ℕ) (next : ℕ) → are_rising ns ≡ true → list_all (λ n. nat_lt n next) ns ≡ true → are_rising (ns ++ next ∷ []) ≡ true
rising-more [] next h i = refl
rising-more (n ∷ ns) next h i =
    let ps = and-true (list_all (nat_lt n) ns) (are_rising ns) h in
    let qs = and-true (nat_lt n next) (list_all (λ m. nat_lt m next) ns) i in
    both (list_all (nat_lt n) (ns ++ next ∷ [])) (are_rising (ns ++ next ∷ [])) (more ns ps.0 qs.0) (rising-more ns next ps.1 qs.1)
  where
    more : (ms : List ℕ) → list_all (nat_lt n) ms ≡ true → nat_lt n next ≡ true → list_all (nat_lt n) (ms ++ next ∷ []) ≡ true
    more [] j k = both (nat_lt n next) true k refl
    more (m ∷ ms) j k = let rs = and-true (nat_lt n m) (list_all (nat_lt n) ms) j in both (nat_lt n m) (list_all (nat_lt n) (ms ++ next ∷ [])) rs.0 (more ms rs.1 k)

roots-below : (next : ℕ) (nodes : List Node) → are_below next nodes ≡ true → list_all (λ n. nat_lt n next) (roots_in nodes) ≡ true
roots-below next [] h = refl
roots-below next (x ∷ xs) h = by (is_root x.content) (roots-below next xs ps.1)
  where
    ps : (nat_lt x.number next ≡ true) × (are_below next xs ≡ true)
    ps = and-true (nat_lt x.number next) (are_below next xs) h

    by : (b : Bool) → list_all (λ n. nat_lt n next) (roots_in xs) ≡ true →
        list_all (λ n. nat_lt n next) (map (λ (y : Node). y.number) (cond b (x ∷ filter (λ y. is_root y.content) xs) (filter (λ y. is_root y.content) xs))) ≡ true
    by true f = both (nat_lt x.number next) (list_all (λ n. nat_lt n next) (roots_in xs)) ps.0 f
    by false f = f

append-grouped : (xs ys zs : List Node) → (xs ++ ys) ++ zs ≡ xs ++ (ys ++ zs)
append-grouped [] ys zs = refl
append-grouped (x ∷ xs) ys zs = ap (λ l. x ∷ l) (append-grouped xs ys zs)

pub root_added : RootAdded
root_added top forest trees may h = (
  record {
    ahead = subst AreAhead (sym grouped) (front-ahead rest (root ∷ moved ++ in_detached rest) (ahead-by (in_detached rest) (moved ++ in_detached rest) (shown-skip moved (in_detached rest) (moved-deep 0 tree away)) (rootless-ahead (in_detached rest) behind)));
    rising = ap are_rising numbers ∙ rising-more (roots_in forest.nodes) forest.next h.rising (roots-below forest.next forest.nodes trees.below);
  },
  numbers,
)
  where
    rest : List Node
    rest = without_tree top forest.nodes

    tree : List Node
    tree = tree_of top forest.nodes

    moved : List Node
    moved = moved_to 1 tree

    root : Node
    root = record { number = forest.next; depth = 0; content = content.Root }

    grouped : (with_root top forest).1.nodes ≡ in_instances rest ++ (root ∷ moved ++ in_detached rest)
    grouped = append-grouped (in_instances rest) (root ∷ moved) (in_detached rest)

    away : rootless tree ≡ true
    away = tree-rootless top forest.nodes trees.tops (no-root top forest (inl may.kind))

    behind : rootless (in_detached rest) ≡ true
    behind = ahead-without top forest.nodes trees.tops h.ahead

    after : roots_in (moved ++ in_detached rest) ≡ []
    after = roots-append moved (in_detached rest) ∙ ap (λ l. l ++ roots_in (in_detached rest)) (none-rooted moved (moved-rootless 1 tree away)) ∙ none-rooted (in_detached rest) behind

    front : roots_in (in_instances rest) ≡ roots_in forest.nodes
    front = sym (ap roots_in (parts rest) ∙ roots-append (in_instances rest) (in_detached rest) ∙ ap (λ l. roots_in (in_instances rest) ++ l) (none-rooted (in_detached rest) behind) ∙ append-nil (roots_in (in_instances rest)))
        ∙ roots-without top forest.nodes trees.tops (no-root top forest (inl may.kind))

    numbers : roots_in (with_root top forest).1.nodes ≡ roots_in forest.nodes ++ forest.next ∷ []
    numbers =
        ap roots_in grouped
        ∙ roots-append (in_instances rest) (root ∷ moved ++ in_detached rest)
        ∙ ap (λ l. roots_in (in_instances rest) ++ forest.next ∷ l) after
        ∙ ap (λ l. l ++ forest.next ∷ []) front

-- ---- since a forest was kept

stand-kind : (n p place : ℕ) (forest : Forest) → MayStand n p place forest → IsNoRoot n forest
stand-kind n p place forest (in_element e i j) = inl e
stand-kind n p place forest (in_root e i j k) = inl e
stand-kind n p place forest (as_attribute e i j) = inr e

abbrev Rooted : Keeping → Keeping → Type 0
Rooted start k = AreAhead k.forest.nodes × (roots_in k.forest.nodes ≡ roots_in start.forest.nodes)

one-more : (start : Keeping) {nodes after : List Node} → RootsStay nodes after → AreAhead nodes × (roots_in nodes ≡ roots_in start.forest.nodes) → AreAhead after × (roots_in after ≡ roots_in start.forest.nodes)
one-more start stay h = (stay.ahead h.0, stay.same ∙ h.1)

made-rooted : {start : Keeping} {l : Ledger} {k : Keeping} → Made start l k → Rooted start k
made-rooted (begun sound empty alone) = (ap rootless alone, refl)
made-rooted (noted change m) = made-rooted m
made-rooted {start = start} (texts {l = l} {k = k} number more n text m sound able) =
    subst (λ (f : Forest). AreAhead f.nodes × (roots_in f.nodes ≡ roots_in start.forest.nodes)) (sym (set-forest n (before_of n k.forest.nodes) l.entries l.next (with_new_text number more n text k)))
    (one-more start (stay-text number n text k.forest.nodes sound.tops) (made-rooted m))
made-rooted (passed count m) = made-rooted m
made-rooted {start = start} (joined {k = k} limits n parent place after m sound may e) =
    let at = place_of parent place (visits k.forest.nodes) (content_at n k.forest.nodes) in
    subst (λ (f : Forest). AreAhead f.nodes × (roots_in f.nodes ≡ roots_in start.forest.nodes)) (attached-placed limits n parent place k.forest after e)
    (one-more start (stay-placed n parent at k.forest sound.tops (stand-kind n parent place k.forest may.stands)) (made-rooted m))
made-rooted {start = start} (cut {k = k} n parent place m sound may stood) = one-more start (stay-detached n k.forest sound.tops may.kind) (made-rooted m)
made-rooted {start = start} (grown {k = k} contents m sound growth after) = one-more start (roots_stay_grown k.forest.next contents k.forest.nodes growth) (made-rooted m)

pub roots_made : RootsMade
roots_made start k l m = made-rooted m

pub roots_rolled_back : RootsRolledBack
roots_rolled_back start k l m sound =
    let back = rolls_back m sound in (
      ap (λ (s : Keeping). rootless (in_detached s.forest.nodes)) back ∙ ap rootless (begun-with m).alone,
      ap (λ (s : Keeping). roots_in s.forest.nodes) back ∙ sym (made-rooted m).1,
    )
