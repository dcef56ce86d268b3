-- The lists in which nodes of the shape stand are those of nodes with a list.
use Rattle.std.proofs.Common.{◌≡◌, ℕ, ◌++◌, List, [], ◌∷◌, refl, sym, ap, ◌∙◌}
use Rattle.std.specs.Prelude.{filter}
use Rattle.std.specs.List.{flat_map}
use Rattle.xf_def_forest.specs.Forest.{Forest}
use Rattle.xf_def_forest.specs.Visit.{Visit}
use Rattle.xf_def_xpath.specs.Asked.{list_around}
use Rattle.xf_def_xpath.proofs.VisitFacts.{filter-append}
use Rattle.xf_eval_shape.specs.Sound.{Sound}
use Rattle.xf_eval_shape.specs.Spots.{shaped}
use Rattle.xf_eval_dependencies.specs.Asked.Tells.{is_list}
use Rattle.xf_eval_dependencies.proofs.AskedLemmas.Listings.{siblings-lists}

module _ (forest : Forest) (sound : Sound forest) where
  abbrev around : List ℕ → List ℕ
  around ns = flat_map (list_around (shaped forest.nodes)) ns

  all-listed : (ns : List ℕ) → filter (is_list forest.nodes) (around ns) ≡ around ns
  all-listed [] = refl
  all-listed (n ∷ ns) =
      filter-append (is_list forest.nodes) (list_around (shaped forest.nodes) n) (around ns)
      ∙ ap (λ l. l ++ filter (is_list forest.nodes) (around ns)) (siblings-lists forest sound n)
      ∙ ap (λ l. list_around (shaped forest.nodes) n ++ l) (all-listed ns)

  -- behind others
  pub listed-with : (ks ns : List ℕ) (all : List Visit) → all ≡ shaped forest.nodes →
      filter (is_list forest.nodes) ks ++ flat_map (list_around (shaped forest.nodes)) ns ≡ filter (is_list forest.nodes) (ks ++ flat_map (list_around all) ns)
  listed-with ks ns all h =
      sym (ap (λ v. filter (is_list forest.nodes) (ks ++ flat_map (list_around v) ns)) h
      ∙ filter-append (is_list forest.nodes) ks (around ns)
      ∙ ap (λ l. filter (is_list forest.nodes) ks ++ l) (all-listed ns))
