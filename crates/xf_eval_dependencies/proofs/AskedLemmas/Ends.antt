-- What is told, once it is in document order, is what is asked.
use Rattle.std.proofs.Common.{◌≡◌, ℕ, ◌==◌, Bool, true, false, cond, ◌&&◌, ◌||◌, List, [], ◌∷◌, map, Some, refl, sym, ap, ◌∙◌}
use Rattle.std.specs.Prelude.{filter}
use Rattle.std.specs.List.{list_all}
use Rattle.std.proofs.lemmas.Bool.{eqb-true}
use Rattle.xf_def_forest.specs.Forest.{Forest}
use Rattle.xf_def_forest.specs.Visit.{Visit, visits, has}
use Rattle.xf_def_forest.specs.Order.{in_order}
use Rattle.xf_def_xpath.specs.Asked.{found, has_list}
use Rattle.xf_def_xpath.specs.Asked as lang
use Rattle.xf_def_xpath.specs.Reads.{listed}
use Rattle.xf_def_xpath.specs.Setting as setting
use Rattle.xf_def_xpath.proofs.VisitFacts.{filter-and}
use Rattle.xf_def_xpath.proofs.ForestVisits.{each-map, self-found}
use Rattle.xf_eval_shape.specs.Spots.{shaped}
use Rattle.xf_eval_shape.specs.Woven.{is_shown}
use Rattle.xf_eval_shape.proofs.Bounds.{shown-order}
use Rattle.xf_eval_shape.proofs.Frames.{each-same}
use Rattle.xf_eval_shape.proofs.Shapes.{Sound, whole, whole-visits}
use Rattle.xf_eval_dependencies.specs.declared.asked.asked.Asked.{Asked}
use Rattle.xf_eval_dependencies.specs.Asked.Tells.{Stands, Tells, has_list_at, is_list}
use Rattle.xf_eval_dependencies.proofs.AskedLemmas.Listings.{list-shown}

both-hold : (a b : Bool) → a ≡ true → b ≡ true → (a && b) ≡ true
both-hold true b h i = i
both-hold false b h i = h

filter-shown : (p q : ℕ → Bool) → ((n : ℕ) → p n ≡ true → q n ≡ true) → (ns : List ℕ) → list_all q (filter p ns) ≡ true
filter-shown p q h [] = refl
filter-shown p q h (n ∷ ns) = by (p n) refl (filter-shown p q h ns)
  where
    by : (b : Bool) → p n ≡ b → list_all q (filter p ns) ≡ true → list_all q (cond b (n ∷ filter p ns) (filter p ns)) ≡ true
    by true e rest = both-hold (q n) (list_all q (filter p ns)) (h n e) rest
    by false e rest = rest

pub has-filter : (p : ℕ → Bool) (k : ℕ) (ns : List ℕ) → has k (filter p ns) ≡ (p k && has k ns)
has-filter p k [] = and-none (p k)
  where
    and-none : (b : Bool) → false ≡ (b && false)
    and-none true = refl
    and-none false = refl
has-filter p k (n ∷ ns) = by (p n) refl (k == n) refl (has-filter p k ns)
  where
    by : (b : Bool) → p n ≡ b → (c : Bool) → (k == n) ≡ c → has k (filter p ns) ≡ (p k && has k ns) → has k (cond b (n ∷ filter p ns) (filter p ns)) ≡ (p k && ((k == n) || has k ns))
    by true e true i rest = ap (λ c. c || has k (filter p ns)) i ∙ sym (ap (λ b. b && ((k == n) || has k ns)) (ap p (eqb-true k n i) ∙ e) ∙ ap (λ c. c || has k ns) i)
    by true e false i rest = ap (λ c. c || has k (filter p ns)) i ∙ rest ∙ sym (ap (λ c. p k && (c || has k ns)) i)
    by false e true i rest = rest ∙ ap (λ b. b && has k ns) (ap p (eqb-true k n i) ∙ e) ∙ sym (ap (λ b. b && ((k == n) || has k ns)) (ap p (eqb-true k n i) ∙ e))
    by false e false i rest = rest ∙ sym (ap (λ c. p k && (c || has k ns)) i)

module _ (forest : Forest) (sound : Sound forest) (told : Asked) (asked : lang.Asked) where
  pub told-reads : Stands forest.nodes told → Tells forest.nodes told asked → in_order (visits forest.nodes) told.reads ≡ setting.in_order (shaped forest.nodes) asked.reads
  told-reads s t = shown-order forest sound told.reads s.reads ∙ ap (setting.in_order (shaped forest.nodes)) t.reads

  pub told-looks : Tells forest.nodes told asked → in_order (visits forest.nodes) told.looks ≡ listed (shaped forest.nodes) asked.looks
  told-looks t =
      let W : List Visit = whole forest sound in
      ap (in_order (visits forest.nodes)) t.looks
      ∙ shown-order forest sound (filter (is_list forest.nodes) asked.looks) (filter-shown (is_list forest.nodes) (is_shown forest.nodes) (list-shown forest sound) asked.looks)
      ∙ ap (map (λ (x : Visit). x.number)) (
      each-same (λ x. has x.number (filter (is_list forest.nodes) asked.looks)) (λ x. has_list x.content && has x.number asked.looks) W
      (each-map (λ x. found x.number W ≡ Some x) _ W
      (λ x e. has-filter (is_list forest.nodes) x.number asked.looks ∙ ap (λ b. b && has x.number asked.looks) (ap has_list_at e))
      (self-found W (whole-visits forest sound).apart))
      ∙ filter-and (λ x. has x.number asked.looks) (λ x. has_list x.content) W)
