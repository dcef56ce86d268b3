-- What is told stands to what is asked as before, once both are put together with others.
use Rattle.std.proofs.Common.{◌≡◌, ℕ, ◌+◌, ◌<◌, Bool, true, false, ◌&&◌, ◌||◌, List, [], ◌∷◌, ◌++◌, take, get_or, length, refl, sym, ap, ◌∙◌, append_assoc}
use Rattle.std.specs.Prelude.{filter}
use Rattle.std.specs.List.{flat_map, list_all}
use Rattle.xf_def_forest.specs.declared.content.Node.{Node}
use Rattle.xf_def_forest.proofs.BackLaws.{and-true}
use Rattle.xf_def_xpath.specs.Asked.{as_plain, as_set, as_truth, asked_first, both, converted, first_node, lists_below, read_for, with_read}
use Rattle.xf_def_xpath.specs.Asked as lang
use Rattle.xf_def_xpath.specs.AskedSteps.{read_if}
use Rattle.xf_def_xpath.specs.Setting.{Setting}
use Rattle.xf_def_xpath.specs.Setting as setting
use Rattle.xf_def_xpath.proofs.VisitFacts.{filter-append}
use Rattle.xf_eval_shape.specs.declared.spot.Spot.{Spot}
use Rattle.xf_eval_shape.specs.Spots.{AreSpots, is_spot, number_at, numbers_at, shaped}
use Rattle.xf_eval_shape.specs.Woven.{is_shown}
use Rattle.xf_eval_shape.proofs.Lists.{filter-flat}
use Rattle.xf_eval_shape.proofs.Rounds.{flat-round, numbers-append}
use Rattle.xf_eval_dependencies.specs.declared.asked.asked.Asked.{Asked}
use Rattle.xf_eval_dependencies.specs.Asked.Tells.{Tells, first_spots, is_list}
use Rattle.xf_eval_dependencies.proofs.AskedLemmas.Spotted.{all-append}

-- ---- two together

module _ (nodes : List Node) (one other : Asked) (a b : lang.Asked) (t : Tells nodes one a) (u : Tells nodes other b) where
  pub reads-both : (reads : List ℕ) → reads ≡ one.reads ++ other.reads → reads ≡ a.reads ++ b.reads
  reads-both reads e = e ∙ ap (λ l. l ++ other.reads) t.reads ∙ ap (λ l. a.reads ++ l) u.reads

  pub looks-both : (looks : List ℕ) → looks ≡ one.looks ++ other.looks → looks ≡ filter (is_list nodes) (a.looks ++ b.looks)
  looks-both looks e = e ∙ ap (λ l. l ++ other.looks) t.looks ∙ ap (λ l. filter (is_list nodes) a.looks ++ l) u.looks ∙ sym (filter-append (is_list nodes) a.looks b.looks)

  pub loose-both : (is_loose : Bool) → is_loose ≡ (one.is_loose || other.is_loose) → is_loose ≡ (a.is_loose || b.is_loose)
  loose-both is_loose e = e ∙ ap (λ l. l || other.is_loose) t.is_loose ∙ ap (λ l. a.is_loose || l) u.is_loose

  pub set-both : (set spots : List Spot) → spots ≡ one.set.items ++ other.set.items → numbers_at set ≡ setting.in_order (shaped nodes) (numbers_at spots) → numbers_at set ≡ setting.in_order (shaped nodes) (a.set ++ b.set)
  set-both set spots e h =
      h ∙ ap (setting.in_order (shaped nodes)) (ap numbers_at e ∙ numbers-append one.set.items other.set.items ∙ ap (λ l. l ++ numbers_at other.set.items) t.set ∙ ap (λ l. a.set ++ l) u.set)

pub reads-stand : (nodes : List Node) (one other reads : List ℕ) → reads ≡ one ++ other → list_all (is_shown nodes) one ≡ true → list_all (is_shown nodes) other ≡ true → list_all (is_shown nodes) reads ≡ true
reads-stand nodes one other reads e h i = ap (list_all (is_shown nodes)) e ∙ all-append (is_shown nodes) one other h i

-- ---- string values

-- the nodes of which the string value is asked
pub first-numbers : (is_loose : Bool) (spots : List Spot) → numbers_at (first_spots is_loose spots) ≡ asked_first is_loose (numbers_at spots)
first-numbers true spots = refl
first-numbers false [] = refl
first-numbers false (spot ∷ spots) = refl

pub first-are : (nodes : List Node) (is_loose : Bool) (spots : List Spot) → AreSpots nodes spots → AreSpots nodes (first_spots is_loose spots)
first-are nodes true spots h = h
first-are nodes false [] h = refl
first-are nodes false (spot ∷ spots) h = ap (λ b. b && true) (and-true (is_spot nodes spot) _ h).0

-- one more node behind those that were there before
pub onward : (f : ℕ → List ℕ) (spots : List Spot) (i : ℕ) (d : Spot) (before done more after : List ℕ) → done ≡ before ++ flat_map f (numbers_at (take i spots)) → i < length spots →
    after ≡ done ++ more → more ≡ f (number_at (get_or spots i d)) → after ≡ before ++ flat_map f (numbers_at (take (i + 1) spots))
onward f spots i d before done more after e l h k =
    h ∙ ap (λ x. x ++ more) e ∙ append_assoc before _ more ∙ ap (λ x. before ++ x) (flat-round f spots i d _ more refl l k)

pub read-if_flat : (b : Bool) (f : ℕ → List ℕ) (ns : List ℕ) → flat_map (λ n. read_if b (f n)) ns ≡ read_if b (flat_map f ns)
read-if_flat true f ns = refl
read-if_flat false f [] = refl
read-if_flat false f (n ∷ ns) = read-if_flat false f ns

-- what is read and looked at for these nodes comes behind
pub read-tells : (nodes : List Node) (spots : List Spot) (told : Asked) (reads looks : List ℕ) (a : lang.Asked) → told.set.items ≡ [] → told.is_loose ≡ false → told.is_truth ≡ false →
    told.reads ≡ reads ++ flat_map (read_for (shaped nodes)) (numbers_at spots) → told.looks ≡ looks ++ flat_map (λ n. filter (is_list nodes) (lists_below (shaped nodes) n)) (numbers_at spots) →
    reads ≡ a.reads → looks ≡ filter (is_list nodes) a.looks → Tells nodes told (with_read (shaped nodes) (numbers_at spots) a)
read-tells nodes spots told reads looks a s l t r k e f = record {
  set = ap numbers_at s;
  is_loose = l;
  is_truth = t;
  reads = r ∙ ap (λ x. x ++ flat_map (read_for (shaped nodes)) (numbers_at spots)) e;
  looks = k
      ∙ ap (λ x. x ++ flat_map (λ n. filter (is_list nodes) (lists_below (shaped nodes) n)) (numbers_at spots)) f
      ∙ ap (λ x. filter (is_list nodes) a.looks ++ x) (sym (filter-flat (is_list nodes) (lists_below (shaped nodes)) (numbers_at spots)))
      ∙ sym (filter-append (is_list nodes) a.looks (flat_map (lists_below (shaped nodes)) (numbers_at spots)));
}
