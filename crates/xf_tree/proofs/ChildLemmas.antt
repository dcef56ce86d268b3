-- Walks over what stands right below a row, and what they count.
use Rattle.std.proofs.Common.{◌≡◌, ℕ, suc, ◌+◌, ◌<◌, ◌&&◌, ◌||◌, not, Bool, true, false, cond, List, [], ◌∷◌, map, length, take, drop, get_or, nat_lt, refl, sym, ap, ◌∙◌, subst, inl, inr, arith}
use Rattle.std.specs.Prelude.{filter, count_by, Option, Some, None, option_and_then}
use Rattle.std.specs.List.{list_any}
use Rattle.std.proofs.lemmas.Bool.{cases_Bool}
use Rattle.std.proofs.lemmas.List.{length-map}
use Rattle.std.proofs.lemmas.List.Sums.{length-filter}
use Rattle.slab.specs.Slab.{Slab}
use Rattle.xf_def_forest.specs.declared.content.Content.{Content}
use Rattle.xf_def_forest.specs.declared.content.Name.{Name}
use Rattle.xf_def_forest.specs.Forest.{Forest, has_number, content_at, is_attribute, is_element, name_in}
use Rattle.xf_def_forest.specs.Changes.{is_lesser}
use Rattle.xf_def_forest.specs.Needs.{lacks_name}
use Rattle.xf_def_forest.specs.Plant.{is_less, written_of}
use Rattle.xf_def_forest.specs.Shape.{has_elements}
use Rattle.xf_def_forest.specs.Visit.{Visit, visits, is_first, numbers}
use Rattle.xf_def_forest.specs.WellFormed.{have_same_name}
use Rattle.xf_tree_rows.specs.declared.rows.Row.{Row}
use Rattle.xf_tree_rows.specs.Rows.{deeper, no_row, AreSteps}
use Rattle.xf_tree_rows.proofs.SizedLemmas.{lt-true}
use Rattle.xf_tree_contents.specs.Slot.{Slot}
use Rattle.xf_tree_walks.specs.Nodes.{node_of, StandsAt}
use Rattle.xf_tree_walks.specs.Kids.{is_kid, is_attribute_like, is_lesser_attribute, kids_at}
use Rattle.xf_tree_walks.proofs.CountLemmas.{count-cons}
use Rattle.xf_tree_walks.proofs.PlaceLemmas.{stands, below-is}
use Rattle.xf_tree_walks.proofs.KidLemmas.{kids, kids-none, parted-kids, node_depths, filtered-length}
use Rattle.xf_tree.specs.State.{IsSound}
use Rattle.xf_tree.proofs.MeansLemmas.{one_of}
use Rattle.xf_tree.proofs.AboveLemmas.{depths-of}

-- ---- what is counted

-- the visits right below a node whose contents meet a test are as many as the rows
pub kids-mean : (q : Content → Bool) (s : Slab Slot) (n above : ℕ) (rows : List Row) (kept : List ℕ) (next : ℕ) → IsSound s rows kept next → StandsAt s rows n above
    → length (kids q n (visits (map (node_of s) rows))) ≡ kids_at q s rows above
kids-mean q s n above rows kept next sound here =
    let x = get_or rows above no_row in
    let xs = drop (above + 1) rows in
    let steps : AreSteps 0 (node_depths (map (node_of s) rows)) = subst (AreSteps 0) (sym (depths-of s rows)) sound.steps in
    let p = stands s n above rows here (one_of s rows kept next n sound) in
    ap length (parted-kids q n 0 _ _ _ _ p steps) ∙ ap (λ l. length (numbers (filter (is_kid q (suc x.depth)) l))) (below-is s x.depth xs)
    ∙ filtered-length (is_kid q (suc x.depth)) (map (node_of s) (take (deeper x.depth xs) xs))

-- a test holds of some visit where some are left when the others are taken out
pub any-left : (p : Visit → Bool) (all : List Visit) → list_any p all ≡ nat_lt 0 (length (map (λ (v : Visit). v.number) (filter p all)))
any-left p [] = refl
any-left p (v ∷ vs) = elim (cases_Bool (p v)) [
  | inl e ↦ rw e (let more : 0 < suc (length (map (λ (v : Visit). v.number) (filter p vs))) = omega arith in sym (lt-true 0 (suc (length (map (λ (v : Visit). v.number) (filter p vs)))) more))
  | inr e ↦ rw e (any-left p vs)
]

pub any-alike : (p r : Visit → Bool) → ((v : Visit) → p v ≡ r v) → (all : List Visit) → list_any p all ≡ list_any r all
any-alike p r same [] = refl
any-alike p r same (v ∷ vs) = ap (λ b. b || list_any p vs) (same v) ∙ ap (λ b. r v || b) (any-alike p r same vs)

pub and-turned : (a b : Bool) → (a && b) ≡ (b && a)
and-turned true true = refl
and-turned true false = refl
and-turned false true = refl
and-turned false false = refl

and-joined : (a b c : Bool) → (a && b && c) ≡ (a && (b && c))
and-joined true b c = refl
and-joined false b c = refl

-- element children, and attributes with a name
pub elements-are : (n : ℕ) (all : List Visit) → has_elements all n ≡ nat_lt 0 (length (kids is_element n all))
elements-are n all =
    any-alike (λ (v : Visit). is_element v.content && is_first n v.above) (λ (v : Visit). is_first n v.above && is_element v.content) (λ v. and-turned (is_element v.content) (is_first n v.above)) all
    ∙ any-left (λ (v : Visit). is_first n v.above && is_element v.content) all

pub lacks-are : (n m : ℕ) (forest : Forest) (like : Content) → content_at n forest.nodes ≡ Some like
    → lacks_name n m forest ≡ not (nat_lt 0 (length (kids (is_attribute_like like) m (visits forest.nodes))))
lacks-are n m forest like e =
    ap (λ o. not (list_any (λ (v : Visit). is_first m v.above && is_attribute v.content && have_same_name (name_in v.content) (option_and_then name_in o)) (visits forest.nodes))) e
    ∙ ap not (any-alike (λ (v : Visit). is_first m v.above && is_attribute v.content && have_same_name (name_in v.content) (name_in like)) (λ (v : Visit). is_first m v.above && is_attribute_like like v.content)
    (λ v. and-joined (is_first m v.above) (is_attribute v.content) (have_same_name (name_in v.content) (name_in like))) (visits forest.nodes))
    ∙ ap not (any-left (λ (v : Visit). is_first m v.above && is_attribute_like like v.content) (visits forest.nodes))

-- attributes with a name that is less
pub lesser-are : (m : ℕ) (content : Content) (all : List Visit) → count_by (is_lesser m content) all ≡ length (kids (is_lesser_attribute content) m all)
lesser-are m content all =
    count-same (is_lesser m content) (λ (v : Visit). is_first m v.above && is_lesser_attribute content v.content)
    (λ v. and-joined (is_first m v.above) (is_attribute v.content) (is_less (written_of v.content) (written_of content))) all
    ∙ sym (length-filter (λ (v : Visit). is_first m v.above && is_lesser_attribute content v.content) all)
    ∙ sym (length-map (filter (λ (v : Visit). is_first m v.above && is_lesser_attribute content v.content) all) (λ (v : Visit). v.number))
  where
    count-same : (p r : Visit → Bool) → ((v : Visit) → p v ≡ r v) → (all : List Visit) → count_by p all ≡ count_by r all
    count-same p r same [] = refl
    count-same p r same (v ∷ vs) = count-cons p v vs ∙ ap (λ b. cond b 1 0 + count_by p vs) (same v) ∙ ap (λ n. cond (r v) 1 0 + n) (count-same p r same vs) ∙ sym (count-cons r v vs)

-- what has no name is named like nothing
pub lacks-nameless : (n m : ℕ) (forest : Forest) → content_at n forest.nodes ≡ None → lacks_name n m forest ≡ true
lacks-nameless n m forest e =
    ap (λ o. not (list_any (λ (v : Visit). is_first m v.above && is_attribute v.content && have_same_name (name_in v.content) (option_and_then name_in o)) (visits forest.nodes))) e
    ∙ ap not (nobody (visits forest.nodes))
  where
    unlike : (o : Option Name) → have_same_name o None ≡ false
    unlike None = refl
    unlike (Some a) = refl

    both : (a b c : Bool) → c ≡ false → (a && b && c) ≡ false
    both true true c e = e
    both true false c e = refl
    both false b c e = refl

    nobody : (vs : List Visit) → list_any (λ (v : Visit). is_first m v.above && is_attribute v.content && have_same_name (name_in v.content) None) vs ≡ false
    nobody [] = refl
    nobody (v ∷ vs) = rw (both (is_first m v.above) (is_attribute v.content) (have_same_name (name_in v.content) None) (unlike (name_in v.content))) (nobody vs)

pub lacks-nobody : (n m : ℕ) (forest : Forest) (like : Content) → content_at n forest.nodes ≡ Some like → has_number m forest.nodes ≡ false → lacks_name n m forest ≡ true
lacks-nobody n m forest like e none =
    lacks-are n m forest like e ∙ ap (λ l. not (nat_lt 0 (length l))) (kids-none (is_attribute_like like) m [] forest.nodes refl none)
