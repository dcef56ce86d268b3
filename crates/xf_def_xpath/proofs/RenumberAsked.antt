-- What an expression reads and looks at goes with a renumbering of the nodes.
use Rattle.std.proofs.Common.{◌≡◌, ℕ, Bool, true, false, cond, List, [], ◌∷◌, ◌++◌, map, Option, Some, None, option_map, unwrap_or, refl, sym, ap, ◌∙◌}
use Rattle.std.specs.Prelude.{filter}
use Rattle.std.specs.List.{flat_map}
use Rattle.std.proofs.lemmas.List.{map-append}
use Rattle.xf_name.specs.declared.axis.Axis.{Axis}
use Rattle.xf_name.specs.declared.axis.Axis.TheVariants.{Child, Attribute, Self_, Parent, Ancestor, AncestorOrSelf, Descendant, DescendantOrSelf, FollowingSibling, PrecedingSibling}
use Rattle.xf_def_forest.specs.Forest.{is_text}
use Rattle.xf_def_forest.specs.Visit.{Visit, has, first_of}
use Rattle.xf_def_forest.specs.Same.{IsRenumbering, renumbered_visit}
use Rattle.xf_def_forest.proofs.RenumberLaws.{map-cond, map-map, filter-through, has-renumbered}
use Rattle.xf_def_xpath.specs.Setting.{Setting}
use Rattle.xf_def_xpath.specs.Asked.{Asked, found, as_list, parent_in, list_around, lists_below, reader_of, read_for, plainly, both, with_read, first_node, asked_first, converted}
use Rattle.xf_def_xpath.specs.AskedSteps.{lists_of, kind_read, read_if, if_text, text_beside}
use Rattle.xf_def_xpath.specs.Same.{renumbered_asked}
use Rattle.xf_def_xpath.proofs.RenumberLaws.{found-renumbered, flat-renumbered}

-- ---- where a node stands

first-renumbered : (f : ℕ → ℕ) (ns : List ℕ) → first_of (map f ns) ≡ option_map f (first_of ns)
first-renumbered f [] = refl
first-renumbered f (n ∷ ns) = refl

list-renumbered : (f : ℕ → ℕ) (m : Option ℕ) → as_list (option_map f m) ≡ map f (as_list m)
list-renumbered f None = refl
list-renumbered f (Some n) = refl

parent-renumbered : (f : ℕ → ℕ) (x : Option Visit) → parent_in (option_map (renumbered_visit f) x) ≡ map f (parent_in x)
parent-renumbered f None = refl
parent-renumbered f (Some x) = ap as_list (first-renumbered f x.above) ∙ list-renumbered f (first_of x.above)

or-renumbered : (f : ℕ → ℕ) (m : Option ℕ) (n : ℕ) → unwrap_or (option_map f m) (f n) ≡ f (unwrap_or m n)
or-renumbered f None n = refl
or-renumbered f (Some m) n = refl

reader-renumbered : (f : ℕ → ℕ) (x : Option Visit) → reader_of (option_map (renumbered_visit f) x) ≡ map f (reader_of x)
reader-renumbered f None = refl
reader-renumbered f (Some x) =
    ap (λ m. cond (is_text x.content) (unwrap_or m (f x.number)) (f x.number) ∷ []) (first-renumbered f x.above)
    ∙ ap (λ m. cond (is_text x.content) m (f x.number) ∷ []) (or-renumbered f (first_of x.above) x.number)
    ∙ ap (λ m. m ∷ []) (sym (map-cond f (is_text x.content) (unwrap_or (first_of x.above) x.number) x.number))

text-cond : (f : ℕ → ℕ) (b : Bool) (n : ℕ) → cond b (f n ∷ []) [] ≡ map f (cond b (n ∷ []) [])
text-cond f true n = refl
text-cond f false n = refl

text-renumbered : (f : ℕ → ℕ) (x : Option Visit) → if_text (option_map (renumbered_visit f) x) ≡ map f (if_text x)
text-renumbered f None = refl
text-renumbered f (Some x) = text-cond f (is_text x.content) x.number

module _ (f : ℕ → ℕ) (same : IsRenumbering f) (all : List Visit) where
  abbrev others : List Visit
  others = map (renumbered_visit f) all

  pub around-renumbered : (n : ℕ) → list_around others (f n) ≡ map f (list_around all n)
  around-renumbered n = ap parent_in (found-renumbered f same n all) ∙ parent-renumbered f (found n all)

  pub read_for-renumbered : (n : ℕ) → read_for others (f n) ≡ map f (read_for all n)
  read_for-renumbered n = ap reader_of (found-renumbered f same n all) ∙ reader-renumbered f (found n all)

  pub below-renumbered : (n : ℕ) → lists_below others (f n) ≡ map f (lists_below all n)
  below-renumbered n =
      ap (λ ys. f n ∷ map (λ (y : Visit). y.number) ys) (filter-through (renumbered_visit f) (λ y. has (f n) y.above) (λ y. has n y.above) (λ y. has-renumbered f same n y.above) all)
      ∙ ap (λ l. f n ∷ l) (map-map (λ (y : Visit). y.number) (renumbered_visit f) (filter (λ y. has n y.above) all) ∙ sym (map-map f (λ (y : Visit). y.number) (filter (λ y. has n y.above) all)))

  pub lists-renumbered : (axis : Axis) (n : ℕ) → lists_of axis others (f n) ≡ map f (lists_of axis all n)
  lists-renumbered Child n = refl
  lists-renumbered Attribute n = refl
  lists-renumbered Self_ n = refl
  lists-renumbered Parent n = refl
  lists-renumbered Ancestor n = refl
  lists-renumbered AncestorOrSelf n = refl
  lists-renumbered Descendant n = below-renumbered n
  lists-renumbered DescendantOrSelf n = below-renumbered n
  lists-renumbered FollowingSibling n = around-renumbered n
  lists-renumbered PrecedingSibling n = around-renumbered n

  pub kinds-renumbered : (axis : Axis) (n : ℕ) → kind_read axis others (f n) ≡ map f (kind_read axis all n)
  kinds-renumbered Child n = read_for-renumbered n
  kinds-renumbered Attribute n = refl
  kinds-renumbered Self_ n = refl
  kinds-renumbered Parent n = refl
  kinds-renumbered Ancestor n = refl
  kinds-renumbered AncestorOrSelf n = refl
  kinds-renumbered Descendant n = read_for-renumbered n
  kinds-renumbered DescendantOrSelf n = read_for-renumbered n
  kinds-renumbered FollowingSibling n = around-renumbered n
  kinds-renumbered PrecedingSibling n = around-renumbered n

  own-renumbered : (n : ℕ) → if_text (found (f n) others) ≡ map f (if_text (found n all))
  own-renumbered n = ap if_text (found-renumbered f same n all) ∙ text-renumbered f (found n all)

  pub text_beside-renumbered : (axis : Axis) (n : ℕ) → text_beside axis others (f n) ≡ map f (text_beside axis all n)
  text_beside-renumbered Child n = refl
  text_beside-renumbered Attribute n = refl
  text_beside-renumbered Self_ n = refl
  text_beside-renumbered Parent n = refl
  text_beside-renumbered Ancestor n = refl
  text_beside-renumbered AncestorOrSelf n = refl
  text_beside-renumbered Descendant n = refl
  text_beside-renumbered DescendantOrSelf n = refl
  text_beside-renumbered FollowingSibling n = own-renumbered n
  text_beside-renumbered PrecedingSibling n = own-renumbered n

-- ---- what is asked

pub plainly-renumbered : (f : ℕ → ℕ) (reads reads' looks looks' : List ℕ) → reads' ≡ map f reads → looks' ≡ map f looks → plainly reads' looks' ≡ renumbered_asked f (plainly reads looks)
plainly-renumbered f reads reads' looks looks' r l = ap (λ ns. plainly ns looks') r ∙ ap (plainly (map f reads)) l

pub joined-both : (f : ℕ → ℕ) (ns ns' ms ms' : List ℕ) → ns' ≡ map f ns → ms' ≡ map f ms → ns' ++ ms' ≡ map f (ns ++ ms)
joined-both f ns ns' ms ms' n m = ap (λ l. l ++ ms') n ∙ ap (λ l. map f ns ++ l) m ∙ sym (map-append f ns ms)

pub both-renumbered : (f : ℕ → ℕ) (a b : Asked) → both (renumbered_asked f a) (renumbered_asked f b) ≡ renumbered_asked f (both a b)
both-renumbered f a b = plainly-renumbered f (a.reads ++ b.reads) _ (a.looks ++ b.looks) _ (sym (map-append f a.reads b.reads)) (sym (map-append f a.looks b.looks))

first_node-renumbered : (f : ℕ → ℕ) (ns : List ℕ) → first_node (map f ns) ≡ map f (first_node ns)
first_node-renumbered f [] = refl
first_node-renumbered f (n ∷ ns) = refl

asked_first-renumbered : (f : ℕ → ℕ) (b : Bool) (ns : List ℕ) → asked_first b (map f ns) ≡ map f (asked_first b ns)
asked_first-renumbered f true ns = refl
asked_first-renumbered f false ns = first_node-renumbered f ns

pub read_if-renumbered : (f : ℕ → ℕ) (b : Bool) (ns ns' : List ℕ) → ns' ≡ map f ns → read_if b ns' ≡ map f (read_if b ns)
read_if-renumbered f true ns ns' e = e
read_if-renumbered f false ns ns' e = refl

module _ (f : ℕ → ℕ) (same : IsRenumbering f) (all : List Visit) where
  pub with_read-renumbered : (ns : List ℕ) (a : Asked) → with_read (map (renumbered_visit f) all) (map f ns) (renumbered_asked f a) ≡ renumbered_asked f (with_read all ns a)
  with_read-renumbered ns a =
      plainly-renumbered f (a.reads ++ flat_map (read_for all) ns) _ (a.looks ++ flat_map (lists_below all) ns) _
      (joined-both f a.reads _ (flat_map (read_for all) ns) _ refl (flat-renumbered f (read_for all) (read_for (map (renumbered_visit f) all)) (read_for-renumbered f same all) ns))
      (joined-both f a.looks _ (flat_map (lists_below all) ns) _ refl (flat-renumbered f (lists_below all) (lists_below (map (renumbered_visit f) all)) (below-renumbered f same all) ns))

  pub converted-renumbered : (a : Asked) (s t : Setting) → s.all ≡ all → t.all ≡ map (renumbered_visit f) all → converted t (renumbered_asked f a) ≡ renumbered_asked f (converted s a)
  converted-renumbered a s t e k =
      ap (λ visits. with_read visits (asked_first a.is_loose (map f a.set)) (renumbered_asked f a)) k
      ∙ ap (λ ns. with_read (map (renumbered_visit f) all) ns (renumbered_asked f a)) (asked_first-renumbered f a.is_loose a.set)
      ∙ with_read-renumbered (asked_first a.is_loose a.set) a
      ∙ ap (λ visits. renumbered_asked f (with_read visits (asked_first a.is_loose a.set) a)) (sym e)
