-- Where the copies of an insert go goes with a renumbering of the nodes.
use Rattle.std.proofs.Common.{◌≡◌, ℕ, suc, ◌==◌, Bool, true, false, not, ◌&&◌, List, [], ◌∷◌, ◌++◌, map, find, Option, Some, None, option_map, if◌then◌else◌, refl, sym, ap, ◌∙◌}
use Rattle.std.specs.Prelude.{filter, option_and_then}
use Rattle.std.proofs.lemmas.List.{map-append}
use Rattle.xf_def_forest.specs.declared.content.Node.{Node}
use Rattle.xf_def_forest.specs.declared.content.Content.{Content}
use Rattle.xf_def_forest.specs.declared.content.Content.TheVariants.{Root, Element, Attribute, Text}
use Rattle.xf_def_forest.specs.Forest.{is_root, is_element, is_attribute, name_in}
use Rattle.xf_def_forest.specs.Visit.{Visit, visits, has, is_first, parent_of, children_of}
use Rattle.xf_def_forest.specs.Changes.{place_among}
use Rattle.xf_def_forest.specs.WellFormed.{have_same_name}
use Rattle.xf_def_forest.specs.Same.{IsRenumbering, renumbered, renumbered_visit}
use Rattle.xf_def_forest.proofs.RenumberLaws.{filter-through, find-through, has-renumbered, first-renumbered, visits-renumbered, parent_of-renumbered, children_of-renumbered}
use Rattle.xf_def_model.specs.declared.asked.InsertAsked.{InsertAsked}
use Rattle.xf_def_model.specs.Places.{Place, named_by, is_in, content_in, name_of, row_place, elements_among, instead, namesake, last_alike, unless_again, named_place, within, beside, at_node, at_place, places_at, planned_insert}
use Rattle.xf_def_model.specs.Same.{renumbered_place, renumbered_insert}
use Rattle.xf_def_model.proofs.RenumberPlaces.{named-renumbered, is_in-renumbered}

module _ (f : ℕ → ℕ) (same : IsRenumbering f) where
  place_among-renumbered : (n : ℕ) (ns : List ℕ) → place_among (f n) (map f ns) ≡ place_among n ns
  place_among-renumbered n [] = refl
  place_among-renumbered n (m ∷ ms) = rw (same m n, place_among-renumbered n ms) refl

  module _ (all : List Visit) where
    abbrev others : List Visit
    others = map (renumbered_visit f) all

    content-renumbered : (n : ℕ) → content_in others (f n) ≡ content_in all n
    content-renumbered n =
        ap (option_map (λ (x : Visit). x.content)) (find-through (renumbered_visit f) (λ x. x.number == f n) (λ x. x.number == n) (λ x. same x.number n) all)
        ∙ by (find (λ x. x.number == n) all)
      where
        by : (m : Option Visit) → option_map (λ (x : Visit). x.content) (option_map (renumbered_visit f) m) ≡ option_map (λ (x : Visit). x.content) m
        by None = refl
        by (Some x) = refl

    name-renumbered : (n : ℕ) → name_of others (f n) ≡ name_of all n
    name-renumbered n = ap (option_and_then name_in) (content-renumbered n)

    elements-renumbered : (ns : List ℕ) → elements_among others (map f ns) ≡ map f (elements_among all ns)
    elements-renumbered ns = filter-through f (is_in is_element others) (is_in is_element all) (is_in-renumbered f same is_element all) ns

    instead-renumbered : (root n : ℕ) (ns : List ℕ) → instead (f root) (f n) (map f ns) ≡ map (renumbered_place f) (instead root n ns)
    instead-renumbered root n [] = refl
    instead-renumbered root n (m ∷ ms) = refl

    -- ---- attributes

    namesake-renumbered : (parent n : ℕ) → namesake others (f parent) (f n) ≡ option_map f (namesake all parent n)
    namesake-renumbered parent n =
        ap (option_map (λ (x : Visit). x.number))
        (find-through (renumbered_visit f)
        (λ x. is_first (f parent) x.above && is_attribute x.content && have_same_name (name_of others (f n)) (name_in x.content))
        (λ x. is_first parent x.above && is_attribute x.content && have_same_name (name_of all n) (name_in x.content))
        (λ x. rw (first-renumbered f same parent x.above, name-renumbered n) refl) all)
        ∙ by (find (λ x. is_first parent x.above && is_attribute x.content && have_same_name (name_of all n) (name_in x.content)) all)
      where
        by : (m : Option Visit) → option_map (λ (x : Visit). x.number) (option_map (renumbered_visit f) m) ≡ option_map f (option_map (λ (x : Visit). x.number) m)
        by None = refl
        by (Some x) = refl

    alike-renumbered : (n at : ℕ) (ps : List Place) → last_alike others (f n) at (map (renumbered_place f) ps) ≡ last_alike all n at ps
    alike-renumbered n at [] = refl
    alike-renumbered n at (p ∷ ps) =
        rw (alike-renumbered n (suc at) ps, is_in-renumbered f same is_attribute all p.origin, name-renumbered n, name-renumbered p.origin) refl

    again-renumbered : (k : Option ℕ) (n : Option ℕ) → unless_again k (option_map f n) ≡ option_map f (unless_again k n)
    again-renumbered None n = refl
    again-renumbered (Some k) n = refl

    named-place_renumbered : (parent : ℕ) (earlier : List Place) (n : ℕ) → named_place others (f parent) (map (renumbered_place f) earlier) (f n) ≡ renumbered_place f (named_place all parent earlier n)
    named-place_renumbered parent earlier n =
        ap (λ k. record { origin = f n; parent = f parent; place = 0; replaces = unless_again k (namesake others (f parent) (f n)); again = k }) (alike-renumbered n 0 earlier)
        ∙ ap (λ r. record { origin = f n; parent = f parent; place = 0; replaces = r; again = last_alike all n 0 earlier })
        (ap (unless_again (last_alike all n 0 earlier)) (namesake-renumbered parent n) ∙ again-renumbered (last_alike all n 0 earlier) (namesake all parent n))

    -- ---- copies within a parent

    one-of_three : (b c : Bool) (xs ys zs xs' ys' zs' : List Place) → xs' ≡ map (renumbered_place f) xs → ys' ≡ map (renumbered_place f) ys → zs' ≡ map (renumbered_place f) zs
        → (if b then xs' else if c then ys' else zs') ≡ map (renumbered_place f) (if b then xs else if c then ys else zs)
    one-of_three true c xs ys zs xs' ys' zs' p q r = p
    one-of_three false true xs ys zs xs' ys' zs' p q r = q
    one-of_three false false xs ys zs xs' ys' zs' p q r = r

    one-behind : (earlier : List Place) (p : Place) → map (renumbered_place f) earlier ++ renumbered_place f p ∷ [] ≡ map (renumbered_place f) (earlier ++ p ∷ [])
    one-behind earlier p = sym (map-append (renumbered_place f) earlier (p ∷ []))

    within-renumbered : (parent before : ℕ) (earlier : List Place) (ns : List ℕ)
        → within others (f parent) before (map (renumbered_place f) earlier) (map f ns) ≡ map (renumbered_place f) (within all parent before earlier ns)
    within-renumbered parent before earlier [] = refl
    within-renumbered parent before earlier (n ∷ ns) =
        let row = row_place parent before n in
        let named = named_place all parent earlier n in
        let named' = named_place others (f parent) (map (renumbered_place f) earlier) (f n) in
        ap (λ b. if b then renumbered_place f row ∷ within others (f parent) (suc before) (map (renumbered_place f) earlier ++ renumbered_place f row ∷ []) (map f ns)
        else if is_in is_attribute others (f n) then named' ∷ within others (f parent) before (map (renumbered_place f) earlier ++ named' ∷ []) (map f ns)
        else within others (f parent) before (map (renumbered_place f) earlier) (map f ns)) (is_in-renumbered f same is_element all n)
        ∙ ap (λ b. if is_in is_element all n then renumbered_place f row ∷ within others (f parent) (suc before) (map (renumbered_place f) earlier ++ renumbered_place f row ∷ []) (map f ns)
        else if b then named' ∷ within others (f parent) before (map (renumbered_place f) earlier ++ named' ∷ []) (map f ns)
        else within others (f parent) before (map (renumbered_place f) earlier) (map f ns)) (is_in-renumbered f same is_attribute all n)
        ∙ one-of_three (is_in is_element all n) (is_in is_attribute all n) _ _ _ _ _ _
        (ap (λ l. renumbered_place f row ∷ within others (f parent) (suc before) l (map f ns)) (one-behind earlier row)
        ∙ ap (λ l. renumbered_place f row ∷ l) (within-renumbered parent (suc before) (earlier ++ row ∷ []) ns))
        (ap (λ p. p ∷ within others (f parent) before (map (renumbered_place f) earlier ++ p ∷ []) (map f ns)) (named-place_renumbered parent earlier n)
        ∙ ap (λ l. renumbered_place f named ∷ within others (f parent) before l (map f ns)) (one-behind earlier named)
        ∙ ap (λ l. renumbered_place f named ∷ l) (within-renumbered parent before (earlier ++ named ∷ []) ns))
        (within-renumbered parent before earlier ns)

    beside-renumbered : (after : Bool) (parent n : ℕ) (ns : List ℕ) → beside others after (f parent) (f n) (map f ns) ≡ map (renumbered_place f) (beside all after parent n ns)
    beside-renumbered after parent n ns =
        rw (children_of-renumbered f same parent all, place_among-renumbered n (children_of parent all), elements-renumbered ns)
        (within-renumbered parent (if after then suc (place_among n (children_of parent all)) else place_among n (children_of parent all)) [] (elements_among all ns))

    -- ---- the insert

    in_place : (b : Bool) (xs ys xs' ys' : List Place) → xs' ≡ map (renumbered_place f) xs → ys' ≡ map (renumbered_place f) ys → (if b then xs' else ys') ≡ map (renumbered_place f) (if b then xs else ys)
    in_place true xs ys xs' ys' p q = p
    in_place false xs ys xs' ys' p q = q

    at_node-renumbered : (after : Bool) (origin : List ℕ) (n : ℕ) (content : Option Content) (parent : Option ℕ)
        → at_node others after (map f origin) (f n) content (option_map f parent) ≡ map (renumbered_place f) (at_node all after origin n content parent)
    at_node-renumbered after origin n (Some (Element name)) (Some parent) =
        rw (is_in-renumbered f same is_root all parent)
        (in_place (is_in is_root all parent) _ _ _ _
        (ap (instead (f parent) (f n)) (elements-renumbered origin) ∙ instead-renumbered parent n (elements_among all origin))
        (beside-renumbered after parent n origin))
    at_node-renumbered after origin n (Some (Attribute name text)) (Some parent) =
        rw (filter-through f (is_in is_attribute others) (is_in is_attribute all) (is_in-renumbered f same is_attribute all) origin)
        (within-renumbered parent 0 [] (filter (is_in is_attribute all) origin))
    at_node-renumbered after origin n (Some (Element name)) None = refl
    at_node-renumbered after origin n (Some (Attribute name text)) None = refl
    at_node-renumbered after origin n (Some Root) parent = refl
    at_node-renumbered after origin n (Some (Text text)) parent = refl
    at_node-renumbered after origin n None parent = refl

    at_place-renumbered : (asked : InsertAsked) (n : Option ℕ) → at_place others (renumbered_insert f asked) (option_map f n) ≡ map (renumbered_place f) (at_place all asked n)
    at_place-renumbered asked None = refl
    at_place-renumbered asked (Some n) =
        rw (content-renumbered n, parent_of-renumbered f same n all) (at_node-renumbered asked.after asked.origin n (content_in all n) (parent_of n all))

    places-renumbered : (asked : InsertAsked) (ns : List ℕ) → places_at others (renumbered_insert f asked) (map f ns) ≡ map (renumbered_place f) (places_at all asked ns)
    places-renumbered asked [] =
        rw (is_in-renumbered f same is_element all asked.context.number)
        (in_place (asked.given && is_in is_element all asked.context.number) _ _ _ _ (within-renumbered asked.context.number 0 [] asked.origin) refl)
    places-renumbered asked (n ∷ ns) =
        ap (at_place others (renumbered_insert f asked)) (named-renumbered f asked.at (n ∷ ns)) ∙ at_place-renumbered asked (named_by asked.at (n ∷ ns))

  pub planned_insert-renumbered : (nodes : List Node) (asked : InsertAsked) → planned_insert (map (renumbered f) nodes) (renumbered_insert f asked) ≡ map (renumbered_place f) (planned_insert nodes asked)
  planned_insert-renumbered nodes asked =
      ap (λ all. filter (λ p. not (has p.parent (map f asked.closed))) (places_at all (renumbered_insert f asked) (map f asked.set))) (visits-renumbered f same nodes)
      ∙ ap (filter (λ p. not (has p.parent (map f asked.closed)))) (places-renumbered (visits nodes) asked asked.set)
      ∙ filter-through (renumbered_place f) (λ p. not (has p.parent (map f asked.closed))) (λ p. not (has p.parent asked.closed)) (λ p. ap not (has-renumbered f same p.parent asked.closed)) (places_at (visits nodes) asked asked.set)
