-- A node of the data is in the part of a model where the root above it is that of an instance of the model.
use Rattle.std.proofs.Common.{◌≡◌, ℕ, suc, ◌==◌, Bool, true, false, not, cond, ◌&&◌, ◌||◌, List, [], ◌∷◌, map, Option, Some, None, option_map, refl, sym, ap, ◌∙◌}
use Rattle.std.specs.Prelude.{filter, option_and_then, slice_get}
use Rattle.std.proofs.lemmas.Bool.{eqb-true}
use Rattle.xf_def_syntax.specs.declared.form.Instance.{Instance}
use Rattle.xf_def_forest.specs.declared.content.Node.{Node}
use Rattle.xf_def_forest.specs.Forest.{Forest, is_root, has_number}
use Rattle.xf_def_forest.specs.Order.{instance_of}
use Rattle.xf_def_forest.specs.Visit.{visits, has, above_in, last_of, top_of}
use Rattle.xf_def_forest.specs.WellFormed.{are_apart as nodes_apart, HasTrees}
use Rattle.xf_def_forest.proofs.BackLaws.{and-true, not-true}
use Rattle.xf_def_forest.proofs.OrderLaws.{seen-has}
use Rattle.xf_def_xpath.specs.Agree.{are_apart}
use Rattle.xf_def_xpath.proofs.VisitFacts.{turned, absent, found-number}
use Rattle.xf_law_recalculation.proofs.MarksLemmas.TextLists.{standing-at}
use Rattle.xf_law_forests.specs.Root.Roots.{roots_in}
use Rattle.xf_law_recalculation.specs.Elsewhere.Parts.{own_roots, trees_from}
use Rattle.xf_law_recalculation.specs.Held.Held.{holder, is_held, HeldInPart}
use Rattle.xf_law_recalculation.proofs.ElsewhereLemmas.Own.{own-root, no-root_there}
use Rattle.xf_law_recalculation.proofs.ElsewhereLemmas.Trees.{in-all}
use Rattle.xf_law_recalculation.proofs.HeldLemmas.Seats.{one-in}

-- the roots differ
pub roots-apart : (nodes : List Node) → nodes_apart nodes ≡ true → are_apart (roots_in nodes) ≡ true
roots-apart [] h = refl
roots-apart (x ∷ xs) h = by (is_root x.content) (roots-apart xs ps.1)
  where
    ps : (not (has_number x.number xs) ≡ true) × (nodes_apart xs ≡ true)
    ps = and-true (not (has_number x.number xs)) (nodes_apart xs) h

    by : (b : Bool) → are_apart (roots_in xs) ≡ true → are_apart (map (λ (y : Node). y.number) (cond b (x ∷ filter (λ y. is_root y.content) xs) (filter (λ y. is_root y.content) xs))) ≡ true
    by true f = ap (λ b. not b && are_apart (roots_in xs)) (no-root_there x.number xs (not-true (has_number x.number xs) ps.0)) ∙ f
    by false f = f

-- the place of a root
abbrev place_in : ℕ → List ℕ → Option ℕ
place_in n [] = None
place_in n (root ∷ roots) = cond (root == n) (Some 0) (option_map suc (place_in n roots))

instance-place : (n : ℕ) (nodes : List Node) → instance_of n nodes ≡ place_in n (roots_in nodes)
instance-place n [] = refl
instance-place n (x ∷ xs) = by (is_root x.content) (instance-place n xs)
  where
    by : (b : Bool) → instance_of n xs ≡ place_in n (roots_in xs) →
        cond b (cond (x.number == n) (Some 0) (option_map suc (instance_of n xs))) (instance_of n xs) ≡ place_in n (map (λ (y : Node). y.number) (cond b (x ∷ filter (λ y. is_root y.content) xs) (filter (λ y. is_root y.content) xs)))
    by true f = ap (λ m. cond (x.number == n) (Some 0) (option_map suc m)) f
    by false f = f

-- the model of the instance at a place
abbrev model_at : List Instance → Option ℕ → Option ℕ
model_at is m = option_and_then (λ place. option_map (λ (i : Instance). i.model) (slice_get is place)) m

own-held : (model n : ℕ) (is : List Instance) (roots : List ℕ) → are_apart roots ≡ true → has n (own_roots model is roots) ≡ is_held model (model_at is (place_in n roots))
own-held model n [] roots a = by (place_in n roots)
  where
    by : (m : Option ℕ) → false ≡ is_held model (model_at [] m)
    by None = refl
    by (Some k) = refl
own-held model n (i ∷ is) [] a = refl
own-held model n (i ∷ is) (root ∷ roots) a = by (root == n) refl (own-held model n is roots ps.1)
  where
    ps : (not (has root roots) ≡ true) × (are_apart roots ≡ true)
    ps = and-true (not (has root roots)) (are_apart roots) a

    own : List ℕ
    own = own_roots model is roots

    -- the root of this instance
    here : (b : Bool) → (i.model == model) ≡ b → (root == n) ≡ true → has n (cond b (root ∷ own) own) ≡ (model == i.model)
    here true e j = ap (λ c. c || has n own) (turned n root ∙ j) ∙ sym (turned model i.model ∙ e)
    here false e j = own-root model n is roots (ap (λ k. has k roots) (sym (eqb-true root n j)) ∙ not-true (has root roots) ps.0) ∙ sym (turned model i.model ∙ e)

    there : (b : Bool) → (root == n) ≡ false → has n (cond b (root ∷ own) own) ≡ has n own
    there true j = ap (λ c. c || has n own) (turned n root ∙ j)
    there false j = refl

    later : (m : Option ℕ) → model_at (i ∷ is) (option_map suc m) ≡ model_at is m
    later None = refl
    later (Some k) = refl

    by : (c : Bool) → (root == n) ≡ c → has n own ≡ is_held model (model_at is (place_in n roots)) → has n (cond (i.model == model) (root ∷ own) own) ≡ is_held model (model_at (i ∷ is) (cond c (Some 0) (option_map suc (place_in n roots))))
    by true j f = here (i.model == model) refl j
    by false j f = there (i.model == model) j ∙ f ∙ ap (is_held model) (sym (later (place_in n roots)))

-- what holds the top of a node holds it
top-held : (instances : List Instance) (model n : ℕ) (whole : Forest) → HasTrees whole → has (top_of n (visits whole.nodes)) (own_roots model instances (roots_in whole.nodes)) ≡ is_held model (holder instances n whole.nodes)
top-held instances model n whole trees =
    own-held model (top_of n (visits whole.nodes)) instances (roots_in whole.nodes) (roots-apart whole.nodes trees.apart)
    ∙ ap (λ m. is_held model (model_at instances m)) (sym (instance-place (top_of n (visits whole.nodes)) whole.nodes))

pub held_in_part : HeldInPart
held_in_part instances model n part whole h trees = ap (has_number n) h.nodes ∙ by (has_number n whole.nodes) refl ∙ top-held instances model n whole trees
  where
    tops : List ℕ
    tops = own_roots model instances (roots_in whole.nodes)

    by : (b : Bool) → has_number n whole.nodes ≡ b → has_number n (trees_from tops false whole.nodes) ≡ has (top_of n (visits whole.nodes)) tops
    by true live =
        let z = standing-at n (visits whole.nodes) (seen-has n [] whole.nodes ∙ live) in
        sym (seen-has n [] (trees_from tops false whole.nodes))
        ∙ one-in whole trees tops n z.0 z.1
        ∙ ap (λ k. has (last_of k z.0.above) tops) (found-number n (visits whole.nodes) z.0 z.1)
        ∙ ap (λ o. has (last_of n (above_in o)) tops) (sym z.1)
    -- a number that no node has
    by false gone =
        in-all tops n false whole.nodes gone
        ∙ sym (ap (λ o. has (last_of n (above_in o)) tops) (absent n (visits whole.nodes) (seen-has n [] whole.nodes ∙ gone))
        ∙ own-root model n instances (roots_in whole.nodes) (no-root_there n whole.nodes gone))
