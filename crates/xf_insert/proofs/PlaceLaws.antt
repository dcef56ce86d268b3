-- The attribute of a parent with a name, found on the axis of its attributes.
use Rattle.std.proofs.Common.{◌≡◌, ℕ, ◌==◌, Bool, true, false, cond, ◌&&◌, List, [], ◌∷◌, map, Option, Some, None, option_map, refl, sym, ap, ◌∙◌, arith}
use Rattle.std.specs.Prelude.{filter, find, is_some, option_and_then}
use Rattle.xf_name.specs.declared.axis.Axis.TheVariants.{Attribute}
use Rattle.std.proofs.lemmas.Bool.Decides.{nat_tests}
use Rattle.xf_def_forest.specs.declared.content.Name.{Name}
use Rattle.xf_def_forest.specs.declared.content.Node.{Node}
use Rattle.xf_def_forest.specs.Axis.{axis_from, axis_of}
use Rattle.xf_def_forest.specs.Forest.{Forest, has_number, is_attribute, name_in}
use Rattle.xf_def_forest.specs.Visit.{Visit, is_first, numbers, still_above, visit, visits, visits_from}
use Rattle.xf_def_forest.specs.WellFormed.{HasTrees, have_same_name}
use Rattle.xf_def_forest.proofs.OrderLaws.{seen-has, visits-different}
use Rattle.xf_tree_walks.proofs.StackLemmas.{absent-above, absent-cons, absent-parts}
use Rattle.xf_def_xpath.specs.Asked.{found}
use Rattle.xf_def_xpath.proofs.ForestVisits.{Each, self-found}
use Rattle.xf_def_xpath.proofs.VisitFacts.{found-number, has-found, no}
use Rattle.xf_def_model.specs.Places as model
use Rattle.xf_def_model.specs.Places.{name_of}
use Rattle.xf_insert.specs.Placing.{first_named}

named-by : (all : List Visit) (own : Option Name) (q : Visit → Bool) (ys : List Visit) → Each (λ v. found v.number all ≡ Some v) ys
    → option_map (λ (x : Visit). x.number) (find (λ (x : Visit). q x && have_same_name own (name_in x.content)) ys)
    ≡ find (λ m. have_same_name own (name_of all m)) (map (λ (x : Visit). x.number) (filter q ys))
named-by all own q [] h = refl
named-by all own q (y ∷ ys) h = by (q y) (named-by all own q ys h.1)
  where
    name : name_of all y.number ≡ name_in y.content
    name = ap (λ o. option_and_then name_in (option_map (λ (x : Visit). x.content) o)) h.0

    by : (b : Bool)
        → option_map (λ (x : Visit). x.number) (find (λ (x : Visit). q x && have_same_name own (name_in x.content)) ys) ≡ find (λ m. have_same_name own (name_of all m)) (map (λ (x : Visit). x.number) (filter q ys))
        → option_map (λ (x : Visit). x.number) (cond (b && have_same_name own (name_in y.content)) (Some y) (find (λ (x : Visit). q x && have_same_name own (name_in x.content)) ys))
        ≡ find (λ m. have_same_name own (name_of all m)) (map (λ (x : Visit). x.number) (cond b (y ∷ filter q ys) (filter q ys)))
    by false later = later
    by true later =
        of (have_same_name own (name_in y.content)) later
        ∙ ap (λ o. cond (have_same_name own o) (Some y.number) (find (λ m. have_same_name own (name_of all m)) (map (λ (x : Visit). x.number) (filter q ys)))) (sym name)
      where
        of : (c : Bool)
            → option_map (λ (x : Visit). x.number) (find (λ (x : Visit). q x && have_same_name own (name_in x.content)) ys) ≡ find (λ m. have_same_name own (name_of all m)) (map (λ (x : Visit). x.number) (filter q ys))
            → option_map (λ (x : Visit). x.number) (cond c (Some y) (find (λ (x : Visit). q x && have_same_name own (name_in x.content)) ys))
            ≡ cond c (Some y.number) (find (λ m. have_same_name own (name_of all m)) (map (λ (x : Visit). x.number) (filter q ys)))
        of true i = refl
        of false i = i

pub namesake-listed : (forest : Forest) (parent n : ℕ) (y : Visit) → HasTrees forest → found parent (visits forest.nodes) ≡ Some y
    → model.namesake (visits forest.nodes) parent n ≡ first_named (visits forest.nodes) n (axis_of Attribute parent (visits forest.nodes))
namesake-listed forest parent n y trees here =
    let all = visits forest.nodes in
    let own = name_of all n in
    let q : Visit → Bool = λ x. is_first parent x.above && is_attribute x.content in
    named-by all own q all (self-found all (visits-different forest trees))
    ∙ ap (λ k. find (λ m. have_same_name own (name_of all m)) (map (λ (x : Visit). x.number) (filter (λ (x : Visit). is_first k x.above && is_attribute x.content) all))) (sym (found-number parent all y here))
    ∙ ap (λ o. find (λ m. have_same_name own (name_of all m)) (map (λ (x : Visit). x.number) (axis_from Attribute all o))) (sym here)

-- what does not stand has no attributes
no-first : (p : ℕ) (ys : List Node) → has_number p ys ≡ false → is_first p (numbers ys) ≡ false
no-first p [] h = refl
no-first p (y ∷ ys) h = let e : (y.number == p) ≡ false = (absent-parts p y ys h).0 in grind (arith, nat_tests, e)

none-below : (p : ℕ) (own : Option Name) (above xs : List Node) → has_number p above ≡ false → has_number p xs ≡ false
    → find (λ (x : Visit). is_first p x.above && is_attribute x.content && have_same_name own (name_in x.content)) (visits_from above xs) ≡ None
none-below p own above [] h k = refl
none-below p own above (x ∷ xs) h k =
    let ps = absent-parts p x xs k in
    let a = absent-above p x.depth above h in
    ap (λ b. cond (b && is_attribute x.content && have_same_name own (name_in x.content)) (Some (visit above x)) (find (λ (y : Visit). is_first p y.above && is_attribute y.content && have_same_name own (name_in y.content)) (visits_from (x ∷ still_above x.depth above) xs)))
    (no-first p (still_above x.depth above) a)
    ∙ none-below p own (x ∷ still_above x.depth above) xs (absent-cons p x (still_above x.depth above) ps.0 a) ps.1

pub namesake-none : (parent n : ℕ) (nodes : List Node) → has_number parent nodes ≡ false → model.namesake (visits nodes) parent n ≡ None
namesake-none parent n nodes h = ap (option_map (λ (x : Visit). x.number)) (none-below parent (name_of (visits nodes) n) [] nodes refl h)

-- what stands is visited
pub visited : (n : ℕ) (forest : Forest) → has_number n forest.nodes ≡ true → (y : Visit) × (found n (visits forest.nodes) ≡ Some y)
visited n forest h = by (found n (visits forest.nodes)) refl (sym (has-found n (visits forest.nodes)) ∙ seen-has n [] forest.nodes ∙ h)
  where
    by : (o : Option Visit) → found n (visits forest.nodes) ≡ o → is_some o ≡ true → (y : Visit) × (found n (visits forest.nodes) ≡ Some y)
    by None e i = no i
    by (Some y) e i = (y, e)
