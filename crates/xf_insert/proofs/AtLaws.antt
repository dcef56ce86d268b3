-- What an insert does at a node, by what the node is.
use Rattle.std.proofs.Common.{◌≡◌, ℕ, suc, ◌+◌, ◌≤◌, length, nat_lt, Bool, true, false, cond, List, [], ◌∷◌, not, ◌&&◌, map, Option, Some, None, refl, sym, ap, ◌∙◌, subst, arith}
use Rattle.std.specs.Prelude.{filter}
use Rattle.std.specs.List.{position, position_or_len}
use Rattle.std.proofs.lemmas.List.Recursion.{is_position_or_len}
use Rattle.xf_name.specs.declared.axis.Axis.TheVariants.{Child}
use Rattle.xf_def_forest.specs.declared.content.Content.{Content}
use Rattle.xf_def_forest.specs.declared.content.Content.TheVariants as content
use Rattle.xf_def_forest.specs.declared.content.Node.{Node}
use Rattle.xf_def_forest.specs.Axis.{axis_from, axis_of}
use Rattle.xf_def_forest.specs.Forest.{Forest, content_at, has_number, is_attribute, is_element, is_root}
use Rattle.xf_def_forest.specs.Visit.{Visit, children_of, is_first, parent_of, visits}
use Rattle.xf_def_forest.specs.WellFormed.{are_apart}
use Rattle.xf_tree_walks.proofs.StackLemmas.{le-from}
use Rattle.xf_def_xpath.specs.Asked.{found}
use Rattle.xf_def_xpath.proofs.VisitFacts.{found-number}
use Rattle.xf_def_model.specs.Places as model
use Rattle.xf_def_model.specs.Places.{Place, elements_among, instead, is_in, within}
use Rattle.xf_insert.specs.Placing.{at_node}
use Rattle.xf_insert.proofs.KindLaws.{by_test, content-is, is-in, no-content}
use Rattle.xf_insert.proofs.PlaceLaws.{visited}

-- the axis of the children gives them
children-listed : (n : ℕ) (all : List Visit) (y : Visit) → found n all ≡ Some y → axis_of Child n all ≡ children_of n all
children-listed n all y here =
    ap (λ o. map (λ (x : Visit). x.number) (axis_from Child all o)) here
    ∙ ap (λ k. map (λ (x : Visit). x.number) (filter (λ (x : Visit). is_first k x.above && not (is_attribute x.content)) all)) (found-number n all y here)

pub children-axis : (n : ℕ) (forest : Forest) → has_number n forest.nodes ≡ true → axis_of Child n (visits forest.nodes) ≡ children_of n (visits forest.nodes)
children-axis n forest h = let (y, here) = visited n forest h in children-listed n (visits forest.nodes) y here

-- ---- a place among them

abbrev first_at : (ℕ → Bool) → List ℕ → ℕ
first_at p [] = 0
first_at p (n ∷ ns) = cond (p n) 0 (1 + first_at p ns)

first-within : (p : ℕ → Bool) (ns : List ℕ) → first_at p ns ≤ length ns
first-within p [] = omega arith
first-within p (n ∷ ns) = by (p n) (first-within p ns)
  where
    by : (b : Bool) → first_at p ns ≤ length ns → cond b 0 (1 + first_at p ns) ≤ suc (length ns)
    by true h = omega arith
    by false h = omega (arith, h)

pub position-some : (p : ℕ → Bool) (ns : List ℕ) (k : ℕ) → Some k ≡ position p ns → k ≡ position_or_len p ns
position-some p ns k e = by (nat_lt (position_or_len p ns) (length ns)) e
  where
    by : (b : Bool) → Some k ≡ cond b (Some (position_or_len p ns)) None → k ≡ position_or_len p ns
    by true i = cc i
    by false i = cc i

pub position-none : (p : ℕ → Bool) (ns : List ℕ) → None ≡ position p ns → length ns ≡ position_or_len p ns
position-none p ns e = by (nat_lt (position_or_len p ns) (length ns)) refl e
  where
    within : position_or_len p ns ≤ length ns
    within = subst (λ k. k ≤ length ns) (is_position_or_len (first_at p) p refl (λ x xs. refl) ns) (first-within p ns)

    by : (b : Bool) → nat_lt (position_or_len p ns) (length ns) ≡ b → None ≡ cond b (Some (position_or_len p ns)) None → length ns ≡ position_or_len p ns
    by true t i = cc i
    by false t i = let l = le-from (position_or_len p ns) (length ns) t in omega (arith, within, l)

-- ---- at a node

abbrev by_root : List Visit → Bool → List ℕ → ℕ → ℕ → Bool → List Place
by_root all after origin n p is_below_root = cond is_below_root (instead p n (elements_among all origin)) (model.beside all after p n origin)

module _ (after : Bool) (origin : List ℕ) (n : ℕ) (nodes : List Node) where
  by-content : (o : Option Content) → content_at n nodes ≡ o → at_node (visits nodes) after origin n ≡ model.at_node (visits nodes) after origin n o (parent_of n (visits nodes))
  by-content o e = ap (λ c. model.at_node (visits nodes) after origin n c (parent_of n (visits nodes))) (content-is n nodes ∙ e)

  pub at-nothing : has_number n nodes ≡ false → at_node (visits nodes) after origin n ≡ []
  at-nothing h = by-content None (no-content n nodes h)

  pub at-top : None ≡ parent_of n (visits nodes) → at_node (visits nodes) after origin n ≡ []
  at-top e = ap (model.at_node (visits nodes) after origin n (model.content_in (visits nodes) n)) (sym e) ∙ by (model.content_in (visits nodes) n)
    where
      by : (o : Option Content) → model.at_node (visits nodes) after origin n o None ≡ []
      by None = refl
      by (Some content.Root) = refl
      by (Some (content.Element name)) = refl
      by (Some (content.Attribute name text)) = refl
      by (Some (content.Text text)) = refl

  module _ (apart : are_apart nodes ≡ true) where
    element-places : (p : ℕ) → true ≡ is_in is_element (visits nodes) n → Some p ≡ parent_of n (visits nodes) → at_node (visits nodes) after origin n ≡ by_root (visits nodes) after origin n p (is_in is_root (visits nodes) p)
    element-places p h e = of (content_at n nodes) refl (sym (h ∙ is-in is_element n nodes apart))
      where
        of : (o : Option Content) → content_at n nodes ≡ o → by_test is_element o ≡ true → at_node (visits nodes) after origin n ≡ by_root (visits nodes) after origin n p (is_in is_root (visits nodes) p)
        of None c t = cc t
        of (Some content.Root) c t = cc t
        of (Some (content.Element name)) c t = by-content (Some (content.Element name)) c ∙ ap (model.at_node (visits nodes) after origin n (Some (content.Element name))) (sym e)
        of (Some (content.Attribute name text)) c t = cc t
        of (Some (content.Text text)) c t = cc t

    pub at-document_element : (p : ℕ) → true ≡ is_in is_element (visits nodes) n → Some p ≡ parent_of n (visits nodes) → true ≡ is_in is_root (visits nodes) p
        → at_node (visits nodes) after origin n ≡ instead p n (elements_among (visits nodes) origin)
    at-document_element p h e r = element-places p h e ∙ ap (by_root (visits nodes) after origin n p) (sym r)

    pub at-element : (p : ℕ) → true ≡ is_in is_element (visits nodes) n → Some p ≡ parent_of n (visits nodes) → false ≡ is_in is_root (visits nodes) p
        → at_node (visits nodes) after origin n ≡ model.beside (visits nodes) after p n origin
    at-element p h e r = element-places p h e ∙ ap (by_root (visits nodes) after origin n p) (sym r)

    pub at-attribute : (p : ℕ) → true ≡ is_in is_attribute (visits nodes) n → Some p ≡ parent_of n (visits nodes)
        → at_node (visits nodes) after origin n ≡ within (visits nodes) p 0 [] (filter (is_in is_attribute (visits nodes)) origin)
    at-attribute p h e = of (content_at n nodes) refl (sym (h ∙ is-in is_attribute n nodes apart))
      where
        of : (o : Option Content) → content_at n nodes ≡ o → by_test is_attribute o ≡ true → at_node (visits nodes) after origin n ≡ within (visits nodes) p 0 [] (filter (is_in is_attribute (visits nodes)) origin)
        of None c t = cc t
        of (Some content.Root) c t = cc t
        of (Some (content.Element name)) c t = cc t
        of (Some (content.Attribute name text)) c t = by-content (Some (content.Attribute name text)) c ∙ ap (model.at_node (visits nodes) after origin n (Some (content.Attribute name text))) (sym e)
        of (Some (content.Text text)) c t = cc t

    pub at-other : false ≡ is_in is_element (visits nodes) n → false ≡ is_in is_attribute (visits nodes) n → at_node (visits nodes) after origin n ≡ []
    at-other h k = of (content_at n nodes) refl (sym (h ∙ is-in is_element n nodes apart)) (sym (k ∙ is-in is_attribute n nodes apart))
      where
        of : (o : Option Content) → content_at n nodes ≡ o → by_test is_element o ≡ false → by_test is_attribute o ≡ false → at_node (visits nodes) after origin n ≡ []
        of None c t u = by-content None c
        of (Some content.Root) c t u = by-content (Some content.Root) c
        of (Some (content.Element name)) c t u = cc t
        of (Some (content.Attribute name text)) c t u = cc u
        of (Some (content.Text text)) c t u = by-content (Some (content.Text text)) c
