-- The laws of texts: one that is set by an action, with a new number, and one that is settled, with a number that was reserved.
use Rattle.std.proofs.Common.{◌≡◌, ℕ, suc, ◌+◌, ◌<◌, ◌==◌, Bool, true, false, not, cond, ◌&&◌, ◌||◌, List, [], ◌∷◌, map, length, nat_lt, find, Some, option_map, refl, sym, ap, ◌∙◌, subst, inl, inr, arith}
use Rattle.std.specs.Prelude.{◌≤◌, ◌⊎◌}
use Rattle.std.specs.List.{list_all}
use Rattle.std.proofs.lemmas.Bool.{cases_Bool}
use Rattle.std.proofs.lemmas.Bool.Decides.{nat_tests}
use Rattle.xf_def_forest.specs.declared.content.Content.{Content}
use Rattle.xf_def_forest.specs.declared.content.Content.TheVariants.{Root, Element, Attribute, Text}
use Rattle.xf_def_forest.specs.declared.content.Kind.TheVariants as kind
use Rattle.xf_def_forest.specs.declared.content.Node.{Node}
use Rattle.xf_def_forest.specs.Forest.{Forest, has_number, is_attribute, is_root, kind_at, kind_of}
use Rattle.xf_def_forest.specs.Needs.{IsSettable}
use Rattle.xf_def_forest.specs.Settle.{has_text, with_numbered_text}
use Rattle.xf_def_forest.specs.Texts.{at_depth, is_attribute_at, one_text, valued, with_attribute_text, with_texts}
use Rattle.xf_def_forest.specs.WellFormed.{are_below, HasTrees}
use Rattle.xf_def_forest.proofs.LeafLaws.{leaf-in_forest}
use Rattle.xf_def_forest.proofs.RunLemmas.{IsLeafAt}
use Rattle.xf_law_invariants.specs.Tree.Trees.{TextTrees, SettledTrees, TextLaws}
use Rattle.xf_law_invariants.proofs.TreeLemmas.Links.{and-true, both-true, Well, to-well, well-depths, well-first}
use Rattle.xf_law_invariants.proofs.TreeLemmas.Counted.{times, times-none, apart-times, times-apart}
use Rattle.xf_law_invariants.proofs.TreeLemmas.Texts.{valued-well, times-valued, below-valued, tops-valued, texts-well, times-texts, times-one, times-other, all-texts}

below-more : (m k : ℕ) (xs : List Node) → m ≤ k → are_below m xs ≡ true → are_below k xs ≡ true
below-more m k [] h i = refl
below-more m k (x ∷ xs) h i =
    let parts = and-true (nat_lt x.number m) (are_below m xs) i in
    both-true (nat_lt x.number k) (are_below k xs) (more x.number parts.0) (below-more m k xs h parts.1)
  where
    more : (n : ℕ) → nat_lt n m ≡ true → nat_lt n k ≡ true
    more n j = grind (arith, nat_tests, h, j)

-- the attribute with a number has another text
attribute-trees : (n next : ℕ) (text : List ℕ) (forest : Forest) → HasTrees forest → forest.next ≤ next → HasTrees (record { nodes = with_attribute_text n text forest.nodes; next = next })
attribute-trees n next text forest h l =
    let xs = map (valued n text) forest.nodes in
    let all : Well xs = valued-well n text forest.nodes (to-well forest.nodes h.depths h.first) in
    record {
      apart = times-apart xs (λ k. let same = times-valued n text k forest.nodes in let most = apart-times forest.nodes h.apart k in omega (arith, same, most));
      below = below-valued n text next forest.nodes ∙ below-more forest.next next forest.nodes l h.below;
      depths = well-depths xs all;
      tops = tops-valued n text forest.nodes ∙ h.tops;
      first = well-first xs all;
    }

same : (a c : ℕ) → (a == c) ≡ true → a ≡ c
same a c e = grind (arith, nat_tests, e)

one-below : (next number : ℕ) (text : List ℕ) → number < next → (d : ℕ) → list_all (λ x. nat_lt x.number next) (map (at_depth (suc d)) (one_text number text)) ≡ true
one-below next number [] l d = refl
one-below next number (c ∷ cs) l d = let one : nat_lt number next ≡ true = grind (arith, nat_tests, l) in both-true (nat_lt number next) true one refl

one-top : (number : ℕ) (text : List ℕ) (d : ℕ) → list_all (λ x. not (is_root x.content) || (x.depth == 0)) (map (at_depth (suc d)) (one_text number text)) ≡ true
one-top number [] d = refl
one-top number (c ∷ cs) d = refl

-- an element without element children has another text, with a number that is new
element-trees : (number n next : ℕ) (text : List ℕ) (forest : Forest) → HasTrees forest → IsLeafAt n forest.nodes → has_number number forest.nodes ≡ false → number < next → forest.next ≤ next
    → HasTrees (record { nodes = with_texts n (one_text number text) forest.nodes; next = next })
element-trees number n next text forest h leaf new less l =
    let texts = one_text number text in
    let xs = with_texts n texts forest.nodes in
    let all : Well xs = texts-well number n text forest.nodes leaf (to-well forest.nodes h.depths h.first) in
    record {
      apart = times-apart xs (λ k.
          let most = times-texts k n texts forest.nodes in
          elim (cases_Bool (number == k)) [
            | inl p ↦
                let none : times k forest.nodes ≡ 0 = subst (λ j. times j forest.nodes ≡ 0) (same number k p) (times-none number forest.nodes new) in
                let one = times-one k number text in omega (arith, most, none, one)
            | inr p ↦
                let none = times-other k number text p in
                let one = apart-times forest.nodes h.apart k in omega (arith, most, none, one)
          ]);
      below = all-texts (λ x. nat_lt x.number next) n texts forest.nodes (one-below next number text less) (below-more forest.next next forest.nodes l h.below);
      depths = well-depths xs all;
      tops = all-texts (λ x. not (is_root x.content) || (x.depth == 0)) n texts forest.nodes (one-top number text) h.tops;
      first = well-first xs all;
    }

-- ---- which of the two

attribute-there : (n : ℕ) (nodes : List Node) → kind_at n nodes ≡ Some kind.Attribute → is_attribute_at n nodes ≡ true
attribute-there n [] h = cc h
attribute-there n (x ∷ xs) h = by (x.number == n) refl (attribute-there n xs)
  where
    is : (c : Content) → kind_of c ≡ kind.Attribute → is_attribute c ≡ true
    is Root e = cc e
    is (Element name) e = cc e
    is (Attribute name text) e = refl
    is (Text text) e = cc e

    by : (b : Bool) → (x.number == n) ≡ b → (kind_at n xs ≡ Some kind.Attribute → is_attribute_at n xs ≡ true) → ((x.number == n) && is_attribute x.content || is_attribute_at n xs) ≡ true
    by true e later =
        let own : Some (kind_of x.content) ≡ Some kind.Attribute = sym (ap (λ c. option_map kind_of (option_map (λ (y : Node). y.content) (cond c (Some x) (find (λ y. y.number == n) xs)))) e) ∙ h in
        ap (λ c. c && is_attribute x.content || is_attribute_at n xs) e ∙ ap (λ c. c || is_attribute_at n xs) (is x.content (cc own))
    by false e later =
        let other : kind_at n xs ≡ Some kind.Attribute = sym (ap (λ c. option_map kind_of (option_map (λ (y : Node). y.content) (cond c (Some x) (find (λ y. y.number == n) xs)))) e) ∙ h in
        ap (λ c. c && is_attribute x.content || is_attribute_at n xs) e ∙ later other

leaf : (n : ℕ) (forest : Forest) → HasTrees forest → IsSettable n forest → is_attribute_at n forest.nodes ≡ false → IsLeafAt n forest.nodes
leaf n forest h s e = by s.kind
  where
    by : (kind_at n forest.nodes ≡ Some kind.Attribute) ⊎ (kind_at n forest.nodes ≡ Some kind.Element) → IsLeafAt n forest.nodes
    by (inl a) = let no : true ≡ false = sym (attribute-there n forest.nodes a) ∙ e in cc no
    by (inr a) = leaf-in_forest n forest h a s.childless

numbered-trees : (number n next : ℕ) (text : List ℕ) (forest : Forest) → HasTrees forest → IsSettable n forest → has_number number forest.nodes ≡ false → number < next → forest.next ≤ next
    → HasTrees (record { nodes = with_numbered_text number n text forest.nodes; next = next })
numbered-trees number n next text forest h s new less l = by (is_attribute_at n forest.nodes) refl
  where
    by : (b : Bool) → is_attribute_at n forest.nodes ≡ b
        → HasTrees (record { nodes = cond b (with_attribute_text n text forest.nodes) (with_texts n (one_text number text) forest.nodes); next = next })
    by true e = attribute-trees n next text forest h l
    by false e = element-trees number n next text forest h (leaf n forest h s e) new less l

next-new : (next : ℕ) (xs : List Node) → are_below next xs ≡ true → has_number next xs ≡ false
next-new next [] h = refl
next-new next (x ∷ xs) h =
    let parts = and-true (nat_lt x.number next) (are_below next xs) h in
    ap (λ b. b || has_number next xs) (differ x.number parts.0) ∙ next-new next xs parts.1
  where
    differ : (n : ℕ) → nat_lt n next ≡ true → (n == next) ≡ false
    differ n q = grind (arith, nat_tests, q)

same-next : (forest : Forest) (text : List ℕ) (n : ℕ) → IsLeafAt n forest.nodes → HasTrees forest
    → HasTrees (record { nodes = with_texts n (one_text forest.next text) forest.nodes; next = forest.next + length (one_text forest.next text) })
same-next forest [] n l h = none-trees
  where
    plain : forest.next ≡ forest.next + 0
    plain = omega arith

    -- no text comes in, so that no number is taken
    none-trees : HasTrees (record { nodes = with_texts n [] forest.nodes; next = forest.next + 0 })
    none-trees =
        let more : HasTrees (record { nodes = with_texts n [] forest.nodes; next = suc forest.next }) =
        element-trees forest.next n (suc forest.next) [] forest h l (next-new forest.next forest.nodes h.below) (omega arith) (omega arith) in
        record {
          apart = more.apart;
          below = subst (λ k. are_below k (with_texts n [] forest.nodes) ≡ true) plain (all-texts (λ x. nat_lt x.number forest.next) n [] forest.nodes (λ d. refl) h.below);
          depths = more.depths;
          tops = more.tops;
          first = more.first;
        }
same-next forest (c ∷ cs) n l h = element-trees forest.next n (forest.next + 1) (c ∷ cs) forest h l (next-new forest.next forest.nodes h.below) (omega arith) (omega arith)

text-trees : TextTrees
text-trees n text forest h s = by (is_attribute_at n forest.nodes) refl
  where
    by : (b : Bool) → is_attribute_at n forest.nodes ≡ b
        → HasTrees (record {
          nodes = cond b (with_attribute_text n text forest.nodes) (with_texts n (cond b [] (one_text forest.next text)) forest.nodes);
          next = forest.next + length (cond b [] (one_text forest.next text));
        })
    by true e = attribute-trees n (forest.next + 0) text forest h (omega arith)
    by false e = same-next forest text n (leaf n forest h s e) h

settled-trees : SettledTrees
settled-trees number n text forest h s new less = by (has_text n text forest.nodes)
  where
    by : (b : Bool) → HasTrees (record forest { nodes = cond b forest.nodes (with_numbered_text number n text forest.nodes) })
    by true = h
    by false = numbered-trees number n forest.next text forest h s new less (omega arith)

pub text_laws : TextLaws
text_laws = record { text = text-trees; settled = settled-trees }
