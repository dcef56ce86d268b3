-- The document elements of a model are told by its part: each is the first child of a root of it.
use Rattle.std.proofs.Common.{◌≡◌, ℕ, suc, ◌+◌, ◌==◌, Bool, true, false, not, cond, ◌&&◌, ◌||◌, List, [], ◌∷◌, ◌++◌, map, find, Option, Some, None, option_map, refl, sym, ap, ◌∙◌, subst, arith}
use Rattle.std.specs.Prelude.{filter, slice_get, bytes_eq}
use Rattle.std.proofs.lemmas.Bool.{eqb-true}
use Rattle.xf_def_syntax.specs.declared.form.Instance.{Instance}
use Rattle.xf_def_forest.specs.declared.content.Node.{Node}
use Rattle.xf_def_forest.specs.Forest.{is_attribute}
use Rattle.xf_def_forest.specs.Visit.{Visit, visits, has, is_first, first_of, children_of}
use Rattle.xf_def_forest.specs.Changes.{root_of}
use Rattle.xf_def_forest.proofs.BackLaws.{and-true, not-true}
use Rattle.xf_def_xpath.specs.Given.{Document, document_of}
use Rattle.xf_def_xpath.specs.Agree.{are_apart}
use Rattle.xf_def_xpath.proofs.VisitFacts.{no, some-same, none-some, self-same, or-left, or-right}
use Rattle.xf_def_xpath.proofs.ForestVisits.{Each, each-map}
use Rattle.xf_law_forests.specs.Root.Roots.{roots_in}
use Rattle.xf_law_forests.proofs.RootLemmas.Stays.{root_at_place}
use Rattle.xf_law_recalculation.specs.Document.Documents.{element_under, document_of_instance, documents_from, documents_at}
use Rattle.xf_law_recalculation.specs.Elsewhere.Parts.{own_roots}
use Rattle.xf_law_recalculation.proofs.ElsewhereLemmas.Own.{own-root}
use Rattle.xf_law_recalculation.specs.Within.Within.{Whole, kept}
use Rattle.xf_law_recalculation.proofs.WithinLemmas.Within.{filter-kept}

-- ---- each instance with its root

abbrev pub by_roots : List Instance → List ℕ → List Visit → List Document
by_roots [] roots all = []
by_roots (i ∷ is) [] all = []
by_roots (i ∷ is) (root ∷ roots) all = document_of_instance i (first_of (children_of root all)) ++ by_roots is roots all

by-roots-none : (is : List Instance) (all : List Visit) → by_roots is [] all ≡ []
by-roots-none [] all = refl
by-roots-none (i ∷ is) all = refl

-- the instances from a place on, whose roots these are
from-roots : (place : ℕ) (is : List Instance) (roots : List ℕ) (nodes : List Node) → ((k j : ℕ) → j ≡ place + k → root_of j nodes ≡ slice_get roots k) → documents_from place is nodes ≡ by_roots is roots (visits nodes)
from-roots place [] roots nodes h = refl
from-roots place (i ∷ is) [] nodes h =
    ap (λ m. document_of_instance i (element_under nodes m) ++ documents_from (suc place) is nodes) (h 0 place (omega arith))
    ∙ from-roots (suc place) is [] nodes (λ k j e. h (suc k) j (omega (arith, e)))
    ∙ by-roots-none is (visits nodes)
from-roots place (i ∷ is) (root ∷ roots) nodes h =
    ap (λ m. document_of_instance i (element_under nodes m) ++ documents_from (suc place) is nodes) (h 0 place (omega arith))
    ∙ ap (λ l. document_of_instance i (first_of (children_of root (visits nodes))) ++ l) (from-roots (suc place) is roots nodes (λ k j e. h (suc k) j (omega (arith, e))))

pub at-roots : (is : List Instance) (nodes : List Node) → documents_at is nodes ≡ by_roots is (roots_in nodes) (visits nodes)
at-roots is nodes = from-roots 0 is (roots_in nodes) nodes (λ k j e. root_at_place j nodes ∙ ap (slice_get (roots_in nodes)) (same k j e))
  where
    same : (k j : ℕ) → j ≡ 0 + k → j ≡ k
    same k j e = omega (arith, e)

-- ---- those of one model

abbrev pub own_instances : ℕ → List Instance → List Instance
own_instances model is = filter (λ i. i.model == model) is

-- a test of documents that only those of the model meet
abbrev Names : ℕ → (Document → Bool) → Type 0
Names model test = (d : Document) → (d.model == model) ≡ false → test d ≡ false

module _ (model : ℕ) (test : Document → Bool) (names : Names model test) where
  own-found : (is : List Instance) (roots : List ℕ) (all : List Visit) → find test (by_roots is roots all) ≡ find test (by_roots (own_instances model is) (own_roots model is roots) all)
  own-found [] roots all = refl
  own-found (i ∷ is) [] all = sym (ap (find test) (by-roots-none (own_instances model (i ∷ is)) all))
  own-found (i ∷ is) (root ∷ roots) all = by (i.model == model) refl (first_of (children_of root all)) (own-found is roots all)
    where
      Rest : Type 0
      Rest = find test (by_roots is roots all) ≡ find test (by_roots (own_instances model is) (own_roots model is roots) all)

      element : Option ℕ → List Document
      element m = document_of_instance i m

      by : (b : Bool) → (i.model == model) ≡ b → (m : Option ℕ) → Rest → find test (element (first_of (children_of root all)) ++ by_roots is roots all)
          ≡ find test (by_roots (cond b (i ∷ own_instances model is) (own_instances model is)) (cond b (root ∷ own_roots model is roots) (own_roots model is roots)) all)
      by true e m f = of (first_of (children_of root all))
        where
          of : (o : Option ℕ) → find test (element o ++ by_roots is roots all) ≡ find test (element o ++ by_roots (own_instances model is) (own_roots model is roots) all)
          of None = f
          of (Some n) = ap (λ d. cond (test (record { model = i.model; id = i.id; element = n })) (Some (record { model = i.model; id = i.id; element = n })) d) f
      by false e m f = of (first_of (children_of root all)) ∙ f
        where
          of : (o : Option ℕ) → find test (element o ++ by_roots is roots all) ≡ find test (by_roots is roots all)
          of None = refl
          of (Some n) = ap (λ b. cond b (Some (record { model = i.model; id = i.id; element = n })) (find test (by_roots is roots all))) (names (record { model = i.model; id = i.id; element = n }) e)

first-names : (model : ℕ) → Names model (λ d. d.model == model)
first-names model d h = h

id-names : (model : ℕ) (id : List ℕ) → Names model (λ d. (d.model == model) && bytes_eq d.id id)
id-names model id d h = ap (λ b. b && bytes_eq d.id id) h

pub own-documents : (model : ℕ) (is : List Instance) (roots : List ℕ) (all : List Visit) (id : List ℕ) → document_of model id (by_roots is roots all) ≡ document_of model id (by_roots (own_instances model is) (own_roots model is roots) all)
own-documents model is roots all [] = ap (option_map (λ (d : Document). d.element)) (own-found model (λ d. d.model == model) (first-names model) is roots all)
own-documents model is roots all (c ∷ cs) = ap (option_map (λ (d : Document). d.element)) (own-found model (λ d. (d.model == model) && bytes_eq d.id (c ∷ cs)) (id-names model (c ∷ cs)) is roots all)

-- ---- over the part

first-has : (n : ℕ) (ns : List ℕ) → is_first n ns ≡ true → has n ns ≡ true
first-has n [] h = no h
first-has n (m ∷ ms) h = or-left (n == m) (has n ms) h

pub roots-kept : (p : ℕ → Bool) (all : List Visit) → Each (Whole p) all → (is : List Instance) (roots : List ℕ) → ((n : ℕ) → has n roots ≡ true → p n ≡ true) → by_roots is roots (kept p all) ≡ by_roots is roots all
roots-kept p all whole [] roots h = refl
roots-kept p all whole (i ∷ is) [] h = refl
roots-kept p all whole (i ∷ is) (root ∷ roots) h =
    ap (λ ys. document_of_instance i (first_of (map (λ (y : Visit). y.number) ys)) ++ by_roots is roots (kept p all))
    (filter-kept p (λ y. is_first root y.above && not (is_attribute y.content)) all
    (each-map (Whole p) (λ y. (is_first root y.above && not (is_attribute y.content)) ≡ true → p y.number ≡ true) all
    (λ y w j. sym (w root (first-has root y.above (and-true _ _ j).0)) ∙ h root (or-left (root == root) (has root roots) (self-same root))) whole))
    ∙ ap (λ l. document_of_instance i (first_of (children_of root all)) ++ l) (roots-kept p all whole is roots (λ n j. h n (or-right (n == root) (has n roots) j)))

-- what is named is the first child of one of the roots
pub record IsChild (all : List Visit) (roots : List ℕ) (n : ℕ) : Type 0 where
  pub root : ℕ
  pub is_root : has root roots ≡ true
  pub child : first_of (children_of root all) ≡ Some n

found-child : (test : Document → Bool) (is : List Instance) (roots : List ℕ) (all : List Visit) (d : Document) → find test (by_roots is roots all) ≡ Some d → IsChild all roots d.element
found-child test [] roots all d e = none-some e
found-child test (i ∷ is) [] all d e = none-some e
found-child test (i ∷ is) (root ∷ roots) all d e = by (first_of (children_of root all)) refl e (found-child test is roots all d)
  where
    Later : Type 0
    Later = find test (by_roots is roots all) ≡ Some d → IsChild all roots d.element

    more : IsChild all roots d.element → IsChild all (root ∷ roots) d.element
    more c = record { root = c.root; is_root = or-right (c.root == root) (has c.root roots) c.is_root; child = c.child }

    by : (m : Option ℕ) → first_of (children_of root all) ≡ m → find test (document_of_instance i m ++ by_roots is roots all) ≡ Some d → Later → IsChild all (root ∷ roots) d.element
    by None i j f = more (f j)
    by (Some n) j k f = of (test (record { model = i.model; id = i.id; element = n })) k
      where
        of : (b : Bool) → cond b (Some (record { model = i.model; id = i.id; element = n })) (find test (by_roots is roots all)) ≡ Some d → IsChild all (root ∷ roots) d.element
        of true l = record { root = root; is_root = or-left (root == root) (has root roots) (self-same root); child = j ∙ ap (λ (x : Document). Some x.element) (some-same l) }
        of false l = more (f l)

element-child : (test : Document → Bool) (is : List Instance) (roots : List ℕ) (all : List Visit) (n : ℕ) → option_map (λ (d : Document). d.element) (find test (by_roots is roots all)) ≡ Some n → IsChild all roots n
element-child test is roots all n e = by (find test (by_roots is roots all)) refl e
  where
    by : (m : Option Document) → find test (by_roots is roots all) ≡ m → option_map (λ (d : Document). d.element) m ≡ Some n → IsChild all roots n
    by None i j = none-some j
    by (Some d) i j = subst (IsChild all roots) (some-same j) (found-child test is roots all d i)

pub named-child : (model : ℕ) (is : List Instance) (roots : List ℕ) (all : List Visit) (id : List ℕ) (n : ℕ) → document_of model id (by_roots is roots all) ≡ Some n → IsChild all roots n
named-child model is roots all [] n e = element-child (λ d. d.model == model) is roots all n e
named-child model is roots all (c ∷ cs) n e = element-child (λ d. (d.model == model) && bytes_eq d.id (c ∷ cs)) is roots all n e

-- ---- the roots of the part are those of the model's instances

filter-has : (f g : ℕ → Bool) (ns : List ℕ) → ((n : ℕ) → has n ns ≡ true → f n ≡ g n) → filter f ns ≡ filter g ns
filter-has f g [] h = refl
filter-has f g (n ∷ ns) h =
    ap (λ b. cond b (n ∷ filter f ns) (filter f ns)) (h n (or-left (n == n) (has n ns) (self-same n)))
    ∙ ap (λ l. cond (g n) (n ∷ l) l) (filter-has f g ns (λ k i. h k (or-right (k == n) (has k ns) i)))

filter-none : (ns : List ℕ) → filter (λ n. has n []) ns ≡ []
filter-none [] = refl
filter-none (n ∷ ns) = filter-none ns

pub own-filter : (model : ℕ) (is : List Instance) (roots : List ℕ) → are_apart roots ≡ true → filter (λ n. has n (own_roots model is roots)) roots ≡ own_roots model is roots
own-filter model [] roots a = filter-none roots
own-filter model (i ∷ is) [] a = refl
own-filter model (i ∷ is) (root ∷ roots) a = by (i.model == model) (own-filter model is roots ps.1)
  where
    ps : (not (has root roots) ≡ true) × (are_apart roots ≡ true)
    ps = and-true (not (has root roots)) (are_apart roots) a

    alone : has root roots ≡ false
    alone = not-true (has root roots) ps.0

    own : List ℕ
    own = own_roots model is roots

    by : (b : Bool) → filter (λ n. has n own) roots ≡ own → filter (λ n. has n (cond b (root ∷ own) own)) (root ∷ roots) ≡ cond b (root ∷ own) own
    by true f =
        ap (λ c. cond (c || has root own) (root ∷ filter (λ n. (n == root) || has n own) roots) (filter (λ n. (n == root) || has n own) roots)) (self-same root)
        ∙ ap (λ l. root ∷ l) (filter-has (λ n. (n == root) || has n own) (λ n. has n own) roots (λ n i. ap (λ c. c || has n own) (other n i)) ∙ f)
      where
        other : (n : ℕ) → has n roots ≡ true → (n == root) ≡ false
        other n i = of (n == root) refl
          where
            of : (c : Bool) → (n == root) ≡ c → c ≡ false
            of true e = no (sym alone ∙ ap (λ k. has k roots) (sym (eqb-true n root e)) ∙ i)
            of false e = refl
    by false f = ap (λ c. cond c (root ∷ filter (λ n. has n own) roots) (filter (λ n. has n own) roots)) (own-root model root is roots alone) ∙ f
