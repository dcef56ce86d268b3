-- One round of the loop that puts nodes and texts together.
use Rattle.std.proofs.Common.{◌≡◌, ℕ, zero, suc, ◌+◌, ◌<◌, ◌≤◌, Bool, true, false, cond, ◌&&◌, List, [], ◌∷◌, ◌++◌, map, drop, length, get_or, Option, Some, None, option_map, refl, sym, ap, ◌∙◌, arith, append_assoc, subst}
use Rattle.std.specs.List.{list_all}
use Rattle.std.proofs.lemmas.Bool.{eqb-true}
use Rattle.std.proofs.lemmas.List.{at_drop_more, at_drop_all}
use Rattle.xf_def_forest.specs.declared.node.NodeId.{NodeId}
use Rattle.xf_def_forest.specs.declared.content.Node.{Node}
use Rattle.xf_def_forest.proofs.BackLaws.{and-true}
use Rattle.xf_def_xpath.specs.Binding.{as_list}
use Rattle.xf_def_xpath.proofs.VisitFacts.{no}
use Rattle.xf_eval_shape.specs.declared.spot.Spot.{Spot}
use Rattle.xf_eval_shape.specs.declared.spot.Spot.TheVariants.{TextOf}
use Rattle.xf_eval_shape.specs.Spots.{AreSpots, numbers_at}
use Rattle.xf_eval_shape.specs.Steps.{if_so}
use Rattle.xf_eval_shape.specs.Woven.{begins_with, flushed, flushed_spots, is_owner, is_shown, now_waiting, own_if, past, still_owner, still_waiting, waiting_text, woven}
use Rattle.xf_eval_shape.proofs.Rounds.{numbers-append, spots-append}

abbrev numbers : List NodeId → List ℕ
numbers ids = map (λ (n : NodeId). n.number) ids

abbrev number_in : Option NodeId → Option ℕ
number_in waiting = option_map (λ (n : NodeId). n.number) waiting

module _ (own : ℕ → ℕ → Bool) where
  flushed-numbers : (w : Option NodeId) (n : ℕ) → numbers_at (flushed_spots own w n) ≡ flushed own (number_in w) n
  flushed-numbers None n = refl
  flushed-numbers (Some owner) n = by (own owner.number n)
    where
      by : (b : Bool) → numbers_at (cond b [] (TextOf owner ∷ [])) ≡ cond b [] (numbers_at (TextOf owner ∷ []))
      by true = refl
      by false = refl

  still-number : (w : Option NodeId) (n : ℕ) → number_in (still_owner own w n) ≡ still_waiting own (number_in w) n
  still-number None n = refl
  still-number (Some owner) n = by (own owner.number n)
    where
      by : (b : Bool) → number_in (cond b (Some owner) None) ≡ cond b (Some owner.number) None
      by true = refl
      by false = refl

  own-numbers : (b : Bool) (node : NodeId) → numbers_at (own_if b node) ≡ if_so b node.number
  own-numbers true node = refl
  own-numbers false node = refl

  now-number : (b : Bool) (node : NodeId) (w : Option NodeId) → number_in (cond b (Some node) w) ≡ now_waiting b node.number (number_in w)
  now-number true node w = refl
  now-number false node w = refl

  -- the node at hand is taken, and what is left goes on
  pub weave-round : (all : List NodeId) (i : ℕ) (d : NodeId) (w : Option NodeId) (nodes owners : List ℕ) (done : List Spot) (whole : List ℕ) → numbers_at done ++ woven own (number_in w) (numbers (drop i all)) nodes owners ≡ whole → i < length all →
      numbers_at ((done ++ flushed_spots own w (get_or all i d).number) ++ own_if (begins_with (get_or all i d).number nodes) (get_or all i d))
      ++ woven own (number_in (cond (begins_with (get_or all i d).number owners) (Some (get_or all i d)) (still_owner own w (get_or all i d).number))) (numbers (drop (i + 1) all)) (past (get_or all i d).number nodes) (past (get_or all i d).number owners)
      ≡ whole
  weave-round all i d w nodes owners done whole inv l =
      let node : NodeId = get_or all i d in
      let n : ℕ = node.number in
      let rest : Option ℕ → List ℕ = λ v. woven own v (numbers (drop (i + 1) all)) (past n nodes) (past n owners) in
      ap (λ x. x ++ rest (number_in (cond (begins_with n owners) (Some node) (still_owner own w n))))
      (numbers-append (done ++ flushed_spots own w n) (own_if (begins_with n nodes) node)
      ∙ ap (λ x. x ++ numbers_at (own_if (begins_with n nodes) node)) (numbers-append done (flushed_spots own w n) ∙ ap (λ x. numbers_at done ++ x) (flushed-numbers w n))
      ∙ ap (λ x. (numbers_at done ++ flushed own (number_in w) n) ++ x) (own-numbers (begins_with n nodes) node))
      ∙ ap (λ v. ((numbers_at done ++ flushed own (number_in w) n) ++ if_so (begins_with n nodes) n) ++ rest v) (now-number (begins_with n owners) node (still_owner own w n) ∙ ap (now_waiting (begins_with n owners) n) (still-number w n))
      ∙ append_assoc (numbers_at done ++ flushed own (number_in w) n) (if_so (begins_with n nodes) n) (rest (now_waiting (begins_with n owners) n (still_waiting own (number_in w) n)))
      ∙ append_assoc (numbers_at done) (flushed own (number_in w) n) (if_so (begins_with n nodes) n ++ rest (now_waiting (begins_with n owners) n (still_waiting own (number_in w) n)))
      ∙ sym (at_drop_more (λ xs. numbers_at done ++ woven own (number_in w) (numbers xs) nodes owners) all i d l)
      ∙ inv

  pub weave-end : (all : List NodeId) (i : ℕ) (w : Option NodeId) (nodes owners : List ℕ) (done : List Spot) (whole : List ℕ) → numbers_at done ++ woven own (number_in w) (numbers (drop i all)) nodes owners ≡ whole → length all ≤ i →
      numbers_at done ++ waiting_text (number_in w) ≡ whole
  weave-end all i w nodes owners done whole inv l = sym (at_drop_all (λ xs. numbers_at done ++ woven own (number_in w) (numbers xs) nodes owners) all i l) ∙ inv

  -- ---- they are nodes of the shape

  module _ (forest_nodes : List Node) where
    pub flushed-are : (w : Option NodeId) (n : ℕ) → list_all (is_owner forest_nodes) (as_list (number_in w)) ≡ true → AreSpots forest_nodes (flushed_spots own w n)
    flushed-are None n h = refl
    flushed-are (Some owner) n h = by (own owner.number n)
      where
        by : (b : Bool) → AreSpots forest_nodes (cond b [] (TextOf owner ∷ []))
        by true = refl
        by false = h

    pub still-are : (w : Option NodeId) (n : ℕ) → list_all (is_owner forest_nodes) (as_list (number_in w)) ≡ true → list_all (is_owner forest_nodes) (as_list (number_in (still_owner own w n))) ≡ true
    still-are None n h = refl
    still-are (Some owner) n h = by (own owner.number n)
      where
        by : (b : Bool) → list_all (is_owner forest_nodes) (as_list (number_in (cond b (Some owner) None))) ≡ true
        by true = h
        by false = refl

  both-hold : (a : Bool) → a ≡ true → (a && true) ≡ true
  both-hold true h = refl
  both-hold false h = no h

  -- what comes next is one of them
  pub next-has : (p : ℕ → Bool) (n : ℕ) (ids : List NodeId) (at : ℕ) → list_all (λ (i : NodeId). p i.number) ids ≡ true → begins_with n (numbers (drop at ids)) ≡ true → p n ≡ true
  next-has p n [] zero h e = no e
  next-has p n [] (suc at) h e = no e
  next-has p n (i ∷ ids) zero h e = ap p (sym (eqb-true i.number n e)) ∙ (and-true _ _ h).0
  next-has p n (i ∷ ids) (suc at) h e = next-has p n ids at (and-true _ _ h).1 e

  pub own-are : (forest_nodes : List Node) (node : NodeId) (ids : List NodeId) (at : ℕ) → list_all (λ (i : NodeId). is_shown forest_nodes i.number) ids ≡ true → AreSpots forest_nodes (own_if (begins_with node.number (numbers (drop at ids))) node)
  own-are forest_nodes node ids at h = by (begins_with node.number (numbers (drop at ids))) refl
    where
      by : (b : Bool) → begins_with node.number (numbers (drop at ids)) ≡ b → AreSpots forest_nodes (own_if b node)
      by true e = both-hold (is_shown forest_nodes node.number) (next-has (is_shown forest_nodes) node.number ids at h e)
      by false e = refl

  pub now-are : (forest_nodes : List Node) (node : NodeId) (ids : List NodeId) (at : ℕ) (w : Option NodeId) → list_all (λ (i : NodeId). is_owner forest_nodes i.number) ids ≡ true → list_all (is_owner forest_nodes) (as_list (number_in w)) ≡ true →
      list_all (is_owner forest_nodes) (as_list (number_in (cond (begins_with node.number (numbers (drop at ids))) (Some node) w))) ≡ true
  now-are forest_nodes node ids at w h k = by (begins_with node.number (numbers (drop at ids))) refl
    where
      by : (b : Bool) → begins_with node.number (numbers (drop at ids)) ≡ b → list_all (is_owner forest_nodes) (as_list (number_in (cond b (Some node) w))) ≡ true
      by true e = both-hold (is_owner forest_nodes node.number) (next-has (is_owner forest_nodes) node.number ids at h e)
      by false e = k

-- what comes next is taken off
pub past-next : (n : ℕ) (ids : List NodeId) (at : ℕ) → begins_with n (numbers (drop at ids)) ≡ true → numbers (drop (at + 1) ids) ≡ past n (numbers (drop at ids))
past-next n [] zero e = no e
past-next n [] (suc at) e = no e
past-next n (i ∷ ids) zero e = sym (ap (λ b. cond b (numbers ids) (i.number ∷ numbers ids)) e)
past-next n (i ∷ ids) (suc at) e = let more : suc at + 1 ≡ suc (at + 1) = omega arith in ap (λ k. numbers (drop k (i ∷ ids))) more ∙ past-next n ids at e

-- ---- one round, by what its calls give

module _ (own : ℕ → ℕ → Bool) (forest_nodes : List Node) (all : List NodeId) (i : ℕ) (d : NodeId) (nodes owners : List NodeId) where
  abbrev node : NodeId
  node = get_or all i d

  module _ (w w1 w2 : Option NodeId) (at at' ot ot' : ℕ) (found found1 found2 : List Spot)
      (h1 : found1 ≡ found ++ flushed_spots own w node.number) (h2 : w1 ≡ still_owner own w node.number)
      (h3 : found2 ≡ found1 ++ own_if (begins_with node.number (numbers (drop at nodes))) node) (h4 : numbers (drop at' nodes) ≡ past node.number (numbers (drop at nodes)))
      (h5 : w2 ≡ cond (begins_with node.number (numbers (drop ot owners))) (Some node) w1) (h6 : numbers (drop ot' owners) ≡ past node.number (numbers (drop ot owners))) where
    all-found : found2 ≡ (found ++ flushed_spots own w node.number) ++ own_if (begins_with node.number (numbers (drop at nodes))) node
    all-found = h3 ∙ ap (λ x. x ++ own_if (begins_with node.number (numbers (drop at nodes))) node) h1

    now-waits : w2 ≡ cond (begins_with node.number (numbers (drop ot owners))) (Some node) (still_owner own w node.number)
    now-waits = h5 ∙ ap (cond (begins_with node.number (numbers (drop ot owners))) (Some node)) h2

    pub weave-left : (whole : List ℕ) → numbers_at found ++ woven own (number_in w) (numbers (drop i all)) (numbers (drop at nodes)) (numbers (drop ot owners)) ≡ whole → i < length all →
        numbers_at found2 ++ woven own (number_in w2) (numbers (drop (i + 1) all)) (numbers (drop at' nodes)) (numbers (drop ot' owners)) ≡ whole
    weave-left whole inv l =
        ap (λ x. numbers_at x ++ woven own (number_in w2) (numbers (drop (i + 1) all)) (numbers (drop at' nodes)) (numbers (drop ot' owners))) all-found
        ∙ ap (λ x. numbers_at ((found ++ flushed_spots own w node.number) ++ own_if (begins_with node.number (numbers (drop at nodes))) node) ++ woven own (number_in x) (numbers (drop (i + 1) all)) (numbers (drop at' nodes)) (numbers (drop ot' owners))) now-waits
        ∙ ap (λ x. numbers_at ((found ++ flushed_spots own w node.number) ++ own_if (begins_with node.number (numbers (drop at nodes))) node) ++ woven own (number_in (cond (begins_with node.number (numbers (drop ot owners))) (Some node) (still_owner own w node.number))) (numbers (drop (i + 1) all)) x (numbers (drop ot' owners))) h4
        ∙ ap (λ x. numbers_at ((found ++ flushed_spots own w node.number) ++ own_if (begins_with node.number (numbers (drop at nodes))) node) ++ woven own (number_in (cond (begins_with node.number (numbers (drop ot owners))) (Some node) (still_owner own w node.number))) (numbers (drop (i + 1) all)) (past node.number (numbers (drop at nodes))) x) h6
        ∙ weave-round own all i d w (numbers (drop at nodes)) (numbers (drop ot owners)) found whole inv l

    pub weave-spots : AreSpots forest_nodes found → list_all (is_owner forest_nodes) (as_list (number_in w)) ≡ true → list_all (λ (n : NodeId). is_shown forest_nodes n.number) nodes ≡ true → AreSpots forest_nodes found2
    weave-spots a b c =
        subst (AreSpots forest_nodes) (sym all-found)
        (spots-append forest_nodes (found ++ flushed_spots own w node.number) _ (spots-append forest_nodes found _ a (flushed-are own forest_nodes w node.number b)) (own-are own forest_nodes node nodes at c))

    pub weave-waits : list_all (is_owner forest_nodes) (as_list (number_in w)) ≡ true → list_all (λ (n : NodeId). is_owner forest_nodes n.number) owners ≡ true → list_all (is_owner forest_nodes) (as_list (number_in w2)) ≡ true
    weave-waits b c = subst (λ x. list_all (is_owner forest_nodes) (as_list (number_in x)) ≡ true) (sym now-waits) (now-are own forest_nodes node owners ot (still_owner own w node.number) c (still-are own forest_nodes w node.number b))
