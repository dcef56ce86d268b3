-- Where copies go, what a delete takes and what a submission sends go with a renumbering of the nodes.
use Rattle.std.proofs.Common.{◌≡◌, ℕ, ◌-◌, ◌==◌, Bool, not, cond, ◌&&◌, List, [], ◌∷◌, map, length, ℤ, Option, Some, None, option_map, refl, sym, ap, ◌∙◌}
use Rattle.std.specs.Prelude.{slice_get}
use Rattle.std.specs.List.{list_any}
use Rattle.std.proofs.lemmas.List.{length-map}
use Rattle.std.proofs.lemmas.Option.{slice_get-map}
use Rattle.xf_def_forest.specs.declared.content.Node.{Node}
use Rattle.xf_def_forest.specs.declared.content.Content.{Content}
use Rattle.xf_def_forest.specs.Forest.{is_root}
use Rattle.xf_def_forest.specs.Visit.{Visit, visits, has, parent_of, ancestors_of}
use Rattle.xf_def_forest.specs.Same.{IsRenumbering, renumbered, renumbered_visit}
use Rattle.xf_def_forest.proofs.RenumberLaws.{map-cond, any-through, has-renumbered, visits-renumbered, ancestors-renumbered, parent_of-renumbered}
use Rattle.xf_def_xpath.specs.Binding.{as_list}
use Rattle.xf_def_model.specs.declared.asked.DeleteAsked.{DeleteAsked}
use Rattle.xf_def_model.specs.Places.{held, named_by, is_in}
use Rattle.xf_def_model.specs.Taken.{asked_of, is_open, is_apart, taken_from, planned_delete}
use Rattle.xf_def_model.specs.Same.{renumbered_delete}

-- ---- the place that `at` names

pub named-renumbered : (f : ℕ → ℕ) (at : Option ℤ) (ns : List ℕ) → named_by at (map f ns) ≡ option_map f (named_by at ns)
named-renumbered f at ns =
    ap (λ size. slice_get (map f ns) (held size at - 1)) (length-map ns f) ∙ slice_get-map f ns (held (length ns) at - 1)

-- ---- what is known of a node

module _ (f : ℕ → ℕ) (same : IsRenumbering f) where
  pub is_in-renumbered : (test : Content → Bool) (all : List Visit) (n : ℕ) → is_in test (map (renumbered_visit f) all) (f n) ≡ is_in test all n
  is_in-renumbered test all n =
      any-through (renumbered_visit f) (λ x. (x.number == f n) && test x.content) (λ x. (x.number == n) && test x.content) (λ x. ap (λ b. b && test x.content) (same x.number n)) all

  pub any_in-renumbered : (ns ms : List ℕ) → list_any (λ m. has m (map f ns)) (map f ms) ≡ list_any (λ m. has m ns) ms
  any_in-renumbered ns ms = any-through f (λ m. has m (map f ns)) (λ m. has m ns) (λ m. has-renumbered f same m ns) ms

  -- ---- delete

  open-renumbered : (all : List Visit) (closed : List ℕ) (parent : Option ℕ) → is_open (map (renumbered_visit f) all) (map f closed) (option_map f parent) ≡ is_open all closed parent
  open-renumbered all closed None = refl
  open-renumbered all closed (Some parent) = rw (is_in-renumbered is_root all parent, has-renumbered f same parent closed) refl

  apart-renumbered : (all : List Visit) (taken : List ℕ) (n : ℕ) → is_apart (map (renumbered_visit f) all) (map f taken) (f n) ≡ is_apart all taken n
  apart-renumbered all taken n =
      ap (λ ms. not (list_any (λ m. has m (map f taken)) ms)) (ancestors-renumbered f same n all) ∙ ap not (any_in-renumbered taken (ancestors_of n all))

  pub taken-renumbered : (all : List Visit) (closed taken ns : List ℕ) → taken_from (map (renumbered_visit f) all) (map f closed) (map f taken) (map f ns) ≡ map f (taken_from all closed taken ns)
  taken-renumbered all closed taken [] = refl
  taken-renumbered all closed taken (n ∷ ns) =
      ap (λ p. cond (is_open (map (renumbered_visit f) all) (map f closed) p && is_apart (map (renumbered_visit f) all) (map f taken) (f n))
      (f n ∷ taken_from (map (renumbered_visit f) all) (map f closed) (map f (n ∷ taken)) (map f ns))
      (taken_from (map (renumbered_visit f) all) (map f closed) (map f taken) (map f ns))) (parent_of-renumbered f same n all)
      ∙ rw (open-renumbered all closed (parent_of n all), apart-renumbered all taken n, taken-renumbered all closed (n ∷ taken) ns, taken-renumbered all closed taken ns)
      (sym (map-cond (map f) (is_open all closed (parent_of n all) && is_apart all taken n) (n ∷ taken_from all closed (n ∷ taken) ns) (taken_from all closed taken ns)))

  asked-renumbered : (at : Option ℤ) (ns : List ℕ) → asked_of at (map f ns) ≡ map f (asked_of at ns)
  asked-renumbered None ns = refl
  asked-renumbered (Some k) ns = ap as_list (named-renumbered f (Some k) ns) ∙ as_list-renumbered (named_by (Some k) ns)
    where
      as_list-renumbered : (n : Option ℕ) → as_list (option_map f n) ≡ map f (as_list n)
      as_list-renumbered None = refl
      as_list-renumbered (Some n) = refl

  pub planned_delete-renumbered : (nodes : List Node) (asked : DeleteAsked) → planned_delete (map (renumbered f) nodes) (renumbered_delete f asked) ≡ map f (planned_delete nodes asked)
  planned_delete-renumbered nodes asked =
      ap (λ all. taken_from all (map f asked.closed) [] (asked_of asked.at (map f asked.set))) (visits-renumbered f same nodes)
      ∙ ap (taken_from (map (renumbered_visit f) (visits nodes)) (map f asked.closed) []) (asked-renumbered asked.at asked.set)
      ∙ taken-renumbered (visits nodes) asked.closed [] (asked_of asked.at asked.set)
