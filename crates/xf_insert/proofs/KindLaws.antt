-- What a node is, told of its visit, is told of the node.
use Rattle.std.proofs.Common.{◌≡◌, ℕ, ◌==◌, Bool, true, false, not, cond, ◌&&◌, ◌||◌, List, [], ◌∷◌, Option, Some, None, option_map, refl, sym, ap, ◌∙◌, arith}
use Rattle.std.specs.Prelude.{find, option_and_then}
use Rattle.std.specs.List.{list_any}
use Rattle.std.proofs.lemmas.Bool.Decides.{nat_tests}
use Rattle.xf_name.specs.declared.qname.QName.{QName}
use Rattle.xf_def_forest.specs.declared.content.Content.{Content}
use Rattle.xf_def_forest.specs.declared.content.Content.TheVariants as content
use Rattle.xf_def_forest.specs.declared.content.Kind.{Kind}
use Rattle.xf_def_forest.specs.declared.content.Kind.TheVariants as kind
use Rattle.xf_def_forest.specs.declared.content.Name.{Name}
use Rattle.xf_def_forest.specs.declared.content.Node.{Node}
use Rattle.xf_def_forest.specs.Forest.{content_at, has_number, is_attribute, is_element, is_root, kind_at, kind_of, name_at, name_in, node_at}
use Rattle.xf_def_forest.specs.Visit.{Visit, still_above, visit, visits, visits_from}
use Rattle.xf_def_forest.specs.WellFormed.{are_apart, have_same_name}
use Rattle.xf_def_forest.proofs.BackLaws.{and-true, not-true, or-false}
use Rattle.xf_def_model.specs.Places.{content_in, is_in, name_of}
use Rattle.xf_insert.specs.Names.{are_same}

visited-any : (test : Content → Bool) (n : ℕ) (above xs : List Node)
    → list_any (λ (x : Visit). (x.number == n) && test x.content) (visits_from above xs) ≡ list_any (λ (x : Node). (x.number == n) && test x.content) xs
visited-any test n above [] = refl
visited-any test n above (x ∷ xs) = ap (λ b. ((x.number == n) && test x.content) || b) (visited-any test n (x ∷ still_above x.depth above) xs)

visited-content : (n : ℕ) (above xs : List Node)
    → option_map (λ (x : Visit). x.content) (find (λ (x : Visit). x.number == n) (visits_from above xs)) ≡ option_map (λ (x : Node). x.content) (find (λ (x : Node). x.number == n) xs)
visited-content n above [] = refl
visited-content n above (x ∷ xs) = by (x.number == n) (visited-content n (x ∷ still_above x.depth above) xs)
  where
    by : (b : Bool)
        → option_map (λ (y : Visit). y.content) (find (λ (y : Visit). y.number == n) (visits_from (x ∷ still_above x.depth above) xs)) ≡ option_map (λ (y : Node). y.content) (find (λ (y : Node). y.number == n) xs)
        → option_map (λ (y : Visit). y.content) (cond b (Some (visit above x)) (find (λ (y : Visit). y.number == n) (visits_from (x ∷ still_above x.depth above) xs))) ≡ option_map (λ (y : Node). y.content) (cond b (Some x) (find (λ (y : Node). y.number == n) xs))
    by true h = refl
    by false h = h

pub content-is : (n : ℕ) (nodes : List Node) → content_in (visits nodes) n ≡ content_at n nodes
content-is n nodes = visited-content n [] nodes

abbrev pub by_test : (Content → Bool) → Option Content → Bool
by_test test None = false
by_test test (Some c) = test c

none-any : (test : Content → Bool) (n : ℕ) (xs : List Node) → has_number n xs ≡ false → list_any (λ (x : Node). (x.number == n) && test x.content) xs ≡ false
none-any test n [] h = refl
none-any test n (x ∷ xs) h =
    let ps = or-false (x.number == n) (has_number n xs) h in
    ap (λ b. (b && test x.content) || list_any (λ (y : Node). (y.number == n) && test y.content) xs) ps.0 ∙ none-any test n xs ps.1

or-none : (b : Bool) → (b || false) ≡ b
or-none true = refl
or-none false = refl

pub any-content : (test : Content → Bool) (n : ℕ) (xs : List Node) → are_apart xs ≡ true → list_any (λ (x : Node). (x.number == n) && test x.content) xs ≡ by_test test (content_at n xs)
any-content test n [] h = refl
any-content test n (x ∷ xs) h = by (x.number == n) refl (any-content test n xs parts.1)
  where
    parts : (not (has_number x.number xs) ≡ true) × (are_apart xs ≡ true)
    parts = and-true (not (has_number x.number xs)) (are_apart xs) h

    by : (b : Bool) → (x.number == n) ≡ b → list_any (λ (y : Node). (y.number == n) && test y.content) xs ≡ by_test test (content_at n xs)
        → ((b && test x.content) || list_any (λ (y : Node). (y.number == n) && test y.content) xs) ≡ by_test test (option_map (λ (y : Node). y.content) (cond b (Some x) (node_at n xs)))
    by true e later =
        let same : x.number ≡ n = grind (arith, nat_tests, e) in
        ap (λ b. test x.content || b) (none-any test n xs (ap (λ k. has_number k xs) (sym same) ∙ not-true (has_number x.number xs) parts.0)) ∙ or-none (test x.content)
    by false e later = later

pub is-in : (test : Content → Bool) (n : ℕ) (nodes : List Node) → are_apart nodes ≡ true → is_in test (visits nodes) n ≡ by_test test (content_at n nodes)
is-in test n nodes h = visited-any test n [] nodes ∙ any-content test n nodes h

pub not-in : (test : Content → Bool) (n : ℕ) (nodes : List Node) → has_number n nodes ≡ false → is_in test (visits nodes) n ≡ false
not-in test n nodes h = visited-any test n [] nodes ∙ none-any test n nodes h

-- ---- by kinds

abbrev pub element_kind : Kind → Bool
element_kind kind.Element = true
element_kind k = false

abbrev pub attribute_kind : Kind → Bool
attribute_kind kind.Attribute = true
attribute_kind k = false

abbrev pub root_kind : Kind → Bool
root_kind kind.Root = true
root_kind k = false

element-kind : (c : Content) → is_element c ≡ element_kind (kind_of c)
element-kind content.Root = refl
element-kind (content.Element name) = refl
element-kind (content.Attribute name text) = refl
element-kind (content.Text text) = refl

attribute-kind : (c : Content) → is_attribute c ≡ attribute_kind (kind_of c)
attribute-kind content.Root = refl
attribute-kind (content.Element name) = refl
attribute-kind (content.Attribute name text) = refl
attribute-kind (content.Text text) = refl

root-kind : (c : Content) → is_root c ≡ root_kind (kind_of c)
root-kind content.Root = refl
root-kind (content.Element name) = refl
root-kind (content.Attribute name text) = refl
root-kind (content.Text text) = refl

told : (test : Content → Bool) (q : Kind → Bool) → ((c : Content) → test c ≡ q (kind_of c)) → (k : Kind) (o : Option Content) → Some k ≡ option_map kind_of o → by_test test o ≡ q k
told test q h k None e = cc e
told test q h k (Some c) e = let same : k ≡ kind_of c = cc e in h c ∙ ap q (sym same)

module _ (k : Kind) (n : ℕ) (nodes : List Node) (apart : are_apart nodes ≡ true) (is : Some k ≡ kind_at n nodes) where
  pub in-element : is_in is_element (visits nodes) n ≡ element_kind k
  in-element = is-in is_element n nodes apart ∙ told is_element element_kind element-kind k (content_at n nodes) is

  pub in-attribute : is_in is_attribute (visits nodes) n ≡ attribute_kind k
  in-attribute = is-in is_attribute n nodes apart ∙ told is_attribute attribute_kind attribute-kind k (content_at n nodes) is

  pub in-root : is_in is_root (visits nodes) n ≡ root_kind k
  in-root = is-in is_root n nodes apart ∙ told is_root root_kind root-kind k (content_at n nodes) is

-- ---- names

pub name-is : (n : ℕ) (nodes : List Node) → name_of (visits nodes) n ≡ option_and_then name_in (content_at n nodes)
name-is n nodes = ap (option_and_then name_in) (content-is n nodes)

abbrev pub meaning_in : Option Name → Option QName
meaning_in o = option_map (λ (name : Name). name.meaning) o

same-by : (a b : Option Name) → have_same_name a b ≡ are_same (meaning_in a) (meaning_in b)
same-by None b = refl
same-by (Some a) None = refl
same-by (Some a) (Some b) = refl

pub same-names : (n m : ℕ) (nodes : List Node) → have_same_name (name_of (visits nodes) n) (name_of (visits nodes) m) ≡ are_same (name_at n nodes) (name_at m nodes)
same-names n m nodes = ap (λ o. have_same_name o (name_of (visits nodes) m)) (name-is n nodes) ∙ ap (have_same_name (option_and_then name_in (content_at n nodes))) (name-is m nodes) ∙ same-by (option_and_then name_in (content_at n nodes)) (option_and_then name_in (content_at m nodes))

-- what does not stand has no content
pub no-content : (n : ℕ) (xs : List Node) → has_number n xs ≡ false → content_at n xs ≡ None
no-content n [] h = refl
no-content n (x ∷ xs) h =
    let ps = or-false (x.number == n) (has_number n xs) h in
    ap (λ b. option_map (λ (y : Node). y.content) (cond b (Some x) (node_at n xs))) ps.0 ∙ no-content n xs ps.1

pub no-name : (n : ℕ) (nodes : List Node) → has_number n nodes ≡ false → name_at n nodes ≡ None
no-name n nodes h = ap (λ o. meaning_in (option_and_then name_in o)) (no-content n nodes h)
