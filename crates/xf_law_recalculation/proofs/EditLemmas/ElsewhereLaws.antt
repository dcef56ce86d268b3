-- Changes of detached trees leave the list of the instances.
use Rattle.std.proofs.Common.{◌≡◌, ℕ, suc, ◌==◌, Bool, true, false, not, cond, ◌&&◌, ◌||◌, List, [], ◌∷◌, ◌++◌, map, refl, sym, ap, ◌∙◌, arith}
use Rattle.std.specs.List.{list_all}
use Rattle.xf_def_forest.specs.declared.content.Node.{Node}
use Rattle.xf_def_forest.specs.Forest.{is_root, has_number, below, tree_of}
use Rattle.xf_def_forest.specs.Changes.{shifted, moved_to, without_tree, is_detached_top, in_instances, in_detached, with_part, with_below}
use Rattle.xf_def_forest.specs.Texts.{one_text, with_content, with_texts, with_attribute_text, is_attribute_at}
use Rattle.xf_def_forest.proofs.BackLaws.{and-true, or-false}
use Rattle.xf_def_forest.proofs.RunLemmas.{tree-here, tree-other}
use Rattle.xf_def_xpath.proofs.VisitFacts.{no}
use Rattle.xf_law_recalculation.specs.Edit.InstanceEdits.{TextElsewhere, TreeBehind, DetachedElsewhere, AttachedElsewhere}
use Rattle.xf_law_recalculation.proofs.EditLemmas.Attached.{front-gone}
use Rattle.xf_law_recalculation.proofs.EditLemmas.FrontEdits.{front-valued, front-ends}
use Rattle.xf_law_recalculation.proofs.EditLemmas.TextAgain.{untouched}

texts-elsewhere : (n : ℕ) (texts nodes : List Node) → has_number n (in_instances nodes) ≡ false → in_instances (with_texts n texts nodes) ≡ in_instances nodes
texts-elsewhere n texts [] h = refl
texts-elsewhere n texts (x ∷ xs) h = by (is_detached_top x) refl (x.number == n) refl h (texts-elsewhere n texts xs)
  where
    by : (b : Bool) → is_detached_top x ≡ b → (c : Bool) → (x.number == n) ≡ c → has_number n (cond b [] (x ∷ in_instances xs)) ≡ false → (has_number n (in_instances xs) ≡ false → in_instances (with_texts n texts xs) ≡ in_instances xs) →
        in_instances (cond c (x ∷ with_content x.depth texts xs) (x ∷ with_texts n texts xs)) ≡ cond b [] (x ∷ in_instances xs)
    by true t true e i f = ap (λ b. cond b [] (x ∷ in_instances (with_content x.depth texts xs))) t
    by true t false e i f = ap (λ b. cond b [] (x ∷ in_instances (with_texts n texts xs))) t
    by false t true e i f = no (sym i ∙ ap (λ c. c || has_number n (in_instances xs)) e)
    by false t false e i f = ap (λ b. cond b [] (x ∷ in_instances (with_texts n texts xs))) t ∙ ap (λ l. x ∷ l) (f (or-false (x.number == n) (has_number n (in_instances xs)) i).1)

pub text_elsewhere : TextElsewhere
text_elsewhere number n text nodes h = by (is_attribute_at n nodes)
  where
    by : (b : Bool) → in_instances (cond b (with_attribute_text n text nodes) (with_texts n (one_text number text) nodes)) ≡ in_instances nodes
    by true = front-valued n text nodes ∙ untouched n text (in_instances nodes) h
    by false = texts-elsewhere n (one_text number text) nodes h

pub tree_behind : TreeBehind
tree_behind top below nodes h = front-ends nodes below top h

-- the tree of a node that stands in no instance begins with no root, where none is behind
begins-elsewhere : (n : ℕ) (nodes : List Node) → has_number n nodes ≡ true → has_number n (in_instances nodes) ≡ false → list_all (λ y. not (is_root y.content)) (in_detached nodes) ≡ true →
    (t : Node) × (ts : List Node) × (tree_of n nodes ≡ t ∷ ts) × (not (is_root t.content) ≡ true)
begins-elsewhere n [] h i a = no h
begins-elsewhere n (x ∷ xs) h i a = by (is_detached_top x) (x.number == n) refl h i a (begins-elsewhere n xs)
  where
    Begins : List Node → Type 0
    Begins ys = (t : Node) × (ts : List Node) × (tree_of n ys ≡ t ∷ ts) × (not (is_root t.content) ≡ true)

    later : (x.number == n) ≡ false → Begins xs → Begins (x ∷ xs)
    later e r = (r.0, r.1, tree-other n x xs e ∙ r.2, r.3)

    all-in : (ys : List Node) → has_number n ys ≡ true → list_all (λ y. not (is_root y.content)) ys ≡ true → (t : Node) × (ts : List Node) × (tree_of n ys ≡ t ∷ ts) × (not (is_root t.content) ≡ true)
    all-in [] j k = no j
    all-in (y ∷ ys) j k = of (y.number == n) refl j (all-in ys)
      where
        parts : (not (is_root y.content) ≡ true) × (list_all (λ z. not (is_root z.content)) ys ≡ true)
        parts = and-true (not (is_root y.content)) (list_all (λ z. not (is_root z.content)) ys) k

        of : (c : Bool) → (y.number == n) ≡ c → (c || has_number n ys) ≡ true → (has_number n ys ≡ true → list_all (λ z. not (is_root z.content)) ys ≡ true → (t : Node) × (ts : List Node) × (tree_of n ys ≡ t ∷ ts) × (not (is_root t.content) ≡ true)) →
            (t : Node) × (ts : List Node) × (tree_of n (y ∷ ys) ≡ t ∷ ts) × (not (is_root t.content) ≡ true)
        of true e l f = (y, below y.depth ys, tree-here n y ys e, parts.0)
        of false e l f = let r = f l parts.1 in (r.0, r.1, tree-other n y ys e ∙ r.2, r.3)

    by : (b c : Bool) → (x.number == n) ≡ c → (c || has_number n xs) ≡ true → has_number n (cond b [] (x ∷ in_instances xs)) ≡ false → list_all (λ y. not (is_root y.content)) (cond b (x ∷ xs) (in_detached xs)) ≡ true →
        (has_number n xs ≡ true → has_number n (in_instances xs) ≡ false → list_all (λ y. not (is_root y.content)) (in_detached xs) ≡ true → Begins xs) → Begins (x ∷ xs)
    by true c e j k l f = all-in (x ∷ xs) (ap (λ b. b || has_number n xs) e ∙ j) l
    by false true e j k l f = no (sym k ∙ ap (λ b. b || has_number n (in_instances xs)) e)
    by false false e j k l f = later e (f j (or-false (x.number == n) (has_number n (in_instances xs)) k).1 l)

pub detached_elsewhere : DetachedElsewhere
detached_elsewhere n forest trees live outside ahead =
    ap (λ l. in_instances (without_tree n forest.nodes ++ moved_to 0 l)) tree.2
    ∙ front-ends (without_tree n forest.nodes) (map (shifted tree.0.depth 0) tree.1) (shifted tree.0.depth 0 tree.0) is_top
    ∙ front-gone n forest.nodes outside ahead
  where
    tree : (t : Node) × (ts : List Node) × (tree_of n forest.nodes ≡ t ∷ ts) × (not (is_root t.content) ≡ true)
    tree = begins-elsewhere n forest.nodes live outside ahead

    is_top : is_detached_top (shifted tree.0.depth 0 tree.0) ≡ true
    is_top = let e : (shifted tree.0.depth 0 tree.0).depth ≡ 0 = grind (arith) in ap (λ d. (d == 0) && not (is_root tree.0.content)) e ∙ tree.3

below-elsewhere : (p place : ℕ) (tree nodes : List Node) → has_number p (in_instances nodes) ≡ false → in_instances (with_below p place tree nodes) ≡ in_instances nodes
below-elsewhere p place tree [] h = refl
below-elsewhere p place tree (x ∷ xs) h = by (is_detached_top x) refl (x.number == p) refl h (below-elsewhere p place tree xs)
  where
    by : (b : Bool) → is_detached_top x ≡ b → (c : Bool) → (x.number == p) ≡ c → has_number p (cond b [] (x ∷ in_instances xs)) ≡ false → (has_number p (in_instances xs) ≡ false → in_instances (with_below p place tree xs) ≡ in_instances xs) →
        in_instances (cond c (x ∷ with_part (suc x.depth) place tree xs) (x ∷ with_below p place tree xs)) ≡ cond b [] (x ∷ in_instances xs)
    by true t true e i f = ap (λ b. cond b [] (x ∷ in_instances (with_part (suc x.depth) place tree xs))) t
    by true t false e i f = ap (λ b. cond b [] (x ∷ in_instances (with_below p place tree xs))) t
    by false t true e i f = no (sym i ∙ ap (λ c. c || has_number p (in_instances xs)) e)
    by false t false e i f = ap (λ b. cond b [] (x ∷ in_instances (with_below p place tree xs))) t ∙ ap (λ l. x ∷ l) (f (or-false (x.number == p) (has_number p (in_instances xs)) i).1)

pub attached_elsewhere : AttachedElsewhere
attached_elsewhere n p place forest outside elsewhere ahead =
    let gone = front-gone n forest.nodes outside ahead in
    below-elsewhere p place (tree_of n forest.nodes) (without_tree n forest.nodes) (ap (has_number p) gone ∙ elsewhere) ∙ gone
