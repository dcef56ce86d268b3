-- The laws over forests: what is read and looked at depends on the shape alone and stands in document order; the same forest but for its
-- numbers gives the same.
use Rattle.std.proofs.Common.{◌≡◌, ℕ, List, map, Option, None, option_map, sym, ap, ◌∙◌}
use Rattle.std.specs.Prelude.{filter}
use Rattle.xf_def_syntax.specs.declared.expr.Expr.{Expr}
use Rattle.xf_def_forest.specs.declared.content.Node.{Node}
use Rattle.xf_def_forest.specs.Visit.{Visit, visits}
use Rattle.xf_def_forest.specs.StringValue.{string_value}
use Rattle.xf_def_forest.specs.Shape.{erased, shape_of}
use Rattle.xf_def_forest.specs.Same.{IsRenumbering, KeepsTexts, renumbered, renumbered_visit}
use Rattle.xf_def_forest.proofs.OrderLaws.{Sub, filter-sub, map-sub, sub-through}
use Rattle.xf_def_forest.proofs.RenumberLaws.{map-map, visits-renumbered, string_value-renumbered}
use Rattle.xf_def_forest.proofs.RenumberTexts.{shape_of-renumbered}
use Rattle.xf_def_xpath.specs.declared.context.Context.{Context}
use Rattle.xf_def_xpath.specs.Given.{Given}
use Rattle.xf_def_values.specs.Functions.{Functions}
use Rattle.xf_def_xpath.specs.Setting.{Setting, Focus, setting_over}
use Rattle.xf_def_xpath.specs.Meaning.{meaning}
use Rattle.xf_def_xpath.specs.Asked.{Trace, has_list, converted}
use Rattle.xf_def_xpath.specs.Reads.{trace, listed, reads_in, looks_in, set_looks_in, shape_setting, reads_of, looks_of}
use Rattle.xf_def_xpath.specs.Same.{renumbered_value, renumbered_given, renumbered_focus, renumbered_setting}
use Rattle.xf_def_xpath.proofs.OrderLaws.{numbers_in, in_order-sub}
use Rattle.xf_def_xpath.proofs.RenumberValues.{meaning-renumbered}
use Rattle.xf_def_xpath.proofs.RenumberReads.{reads-renumbered, looks-renumbered, set_looks-renumbered}

-- ---- the shape alone

pub reads-by_shape : (functions : Functions) (given : Given) (x y : List Node) (e : Expr) (c : Context) → shape_of x ≡ shape_of y → reads_of functions given x e c ≡ reads_of functions given y e c
reads-by_shape functions given x y e c h =
    ap (λ all. reads_in (trace e) (setting_over functions None given all c.model c.current.number) (record { node = c.node.number; position = c.position; size = c.size })) h

pub looks-by_shape : (functions : Functions) (given : Given) (x y : List Node) (e : Expr) (c : Context) → shape_of x ≡ shape_of y → looks_of functions given x e c ≡ looks_of functions given y e c
looks-by_shape functions given x y e c h =
    ap (λ all. looks_in (trace e) (setting_over functions None given all c.model c.current.number) (record { node = c.node.number; position = c.position; size = c.size })) h

-- ---- document order

pub reads-in_order : (t : Trace) (s : Setting) (c : Focus) → Sub (reads_in t s c) (numbers_in s.all)
reads-in_order t s c = in_order-sub s.all (converted s (t.asked s c)).reads

listed-in_order : (all : List Visit) (ns : List ℕ) → Sub (listed all ns) (numbers_in all)
listed-in_order all ns = sub-through (in_order-sub (filter (λ x. has_list x.content) all) ns) (map-sub (λ (x : Visit). x.number) (filter-sub (λ x. has_list x.content) all))

pub looks-in_order : (t : Trace) (s : Setting) (c : Focus) → Sub (looks_in t s c) (numbers_in s.all)
looks-in_order t s c = listed-in_order s.all (converted s (t.asked s c)).looks

-- ---- a renumbering of the forest

erased-renumbered : (f : ℕ → ℕ) (all : List Visit) → map erased (map (renumbered_visit f) all) ≡ map (renumbered_visit f) (map erased all)
erased-renumbered f all = map-map erased (renumbered_visit f) all ∙ sym (map-map (renumbered_visit f) erased all)

abbrev with_visits : Setting → List Visit → Setting
with_visits s all = record s { all = all }

setting-renumbered : (f : ℕ → ℕ) (functions : Functions) (most : Option ℕ) (given : Given) (all : List Visit) (model current : ℕ) →
    setting_over functions most (renumbered_given f given) (map (renumbered_visit f) all) model (f current)
    ≡ renumbered_setting f (λ n. string_value n (map (renumbered_visit f) all)) (setting_over functions most given all model current)
setting-renumbered f functions most given all model current =
    ap (with_visits (setting_over functions most (renumbered_given f given) (map (renumbered_visit f) all) model (f current))) (erased-renumbered f all)

module _ (f : ℕ → ℕ) (same : IsRenumbering f) (functions : Functions) (most : Option ℕ) (given : Given) (model current : ℕ) where
  abbrev over : List Visit → Setting
  over all = setting_over functions most given all model current

  abbrev other : List Visit → Setting
  other all = setting_over functions most (renumbered_given f given) all model (f current)

  pub worth-renumbered : (e : Expr) (all : List Visit) (c : Focus) → meaning e (other (map (renumbered_visit f) all)) (renumbered_focus f c) ≡ option_map (renumbered_value f) (meaning e (over all) c)
  worth-renumbered e all c =
      ap (λ t. meaning e t (renumbered_focus f c)) (setting-renumbered f functions most given all model current)
      ∙ meaning-renumbered f same e (over all) (λ n. string_value n (map (renumbered_visit f) all)) (λ n. string_value-renumbered f same n all) c

  -- the value over the same forest but for the numbers of its nodes
  pub worth-of_renumbered : (e : Expr) (nodes : List Node) (c : Focus) →
      meaning e (other (visits (map (renumbered f) nodes))) (renumbered_focus f c) ≡ option_map (renumbered_value f) (meaning e (over (visits nodes)) c)
  worth-of_renumbered e nodes c =
      ap (λ all. meaning e (other all) (renumbered_focus f c)) (visits-renumbered f same nodes) ∙ worth-renumbered e (visits nodes) c

  pub reads-over_renumbered : (e : Expr) (all : List Visit) (c : Focus) → reads_in (trace e) (other (map (renumbered_visit f) all)) (renumbered_focus f c) ≡ map f (reads_in (trace e) (over all) c)
  reads-over_renumbered e all c =
      ap (λ t. reads_in (trace e) t (renumbered_focus f c)) (setting-renumbered f functions most given all model current)
      ∙ reads-renumbered f same e (over all) (λ n. string_value n (map (renumbered_visit f) all)) (λ n. string_value-renumbered f same n all) c

  pub looks-over_renumbered : (e : Expr) (all : List Visit) (c : Focus) → looks_in (trace e) (other (map (renumbered_visit f) all)) (renumbered_focus f c) ≡ map f (looks_in (trace e) (over all) c)
  looks-over_renumbered e all c =
      ap (λ t. looks_in (trace e) t (renumbered_focus f c)) (setting-renumbered f functions most given all model current)
      ∙ looks-renumbered f same e (over all) (λ n. string_value n (map (renumbered_visit f) all)) (λ n. string_value-renumbered f same n all) c

  pub set_looks-over_renumbered : (e : Expr) (all : List Visit) (c : Focus) → set_looks_in (trace e) (other (map (renumbered_visit f) all)) (renumbered_focus f c) ≡ map f (set_looks_in (trace e) (over all) c)
  set_looks-over_renumbered e all c =
      ap (λ t. set_looks_in (trace e) t (renumbered_focus f c)) (setting-renumbered f functions most given all model current)
      ∙ set_looks-renumbered f same e (over all) (λ n. string_value n (map (renumbered_visit f) all)) (λ n. string_value-renumbered f same n all) c

-- what is read and looked at over the same forest but for the numbers of its nodes
pub reads-of_renumbered : (f : ℕ → ℕ) → IsRenumbering f → KeepsTexts f → (functions : Functions) (given : Given) (model current : ℕ) (e : Expr) (nodes : List Node) (c : Focus) →
    reads_in (trace e) (shape_setting functions (renumbered_given f given) (map (renumbered f) nodes) model (f current)) (renumbered_focus f c)
    ≡ map f (reads_in (trace e) (shape_setting functions given nodes model current) c)
reads-of_renumbered f same texts functions given model current e nodes c =
    ap (λ all. reads_in (trace e) (setting_over functions None (renumbered_given f given) all model (f current)) (renumbered_focus f c)) (shape_of-renumbered f same texts nodes)
    ∙ reads-over_renumbered f same functions None given model current e (shape_of nodes) c

pub looks-of_renumbered : (f : ℕ → ℕ) → IsRenumbering f → KeepsTexts f → (functions : Functions) (given : Given) (model current : ℕ) (e : Expr) (nodes : List Node) (c : Focus) →
    looks_in (trace e) (shape_setting functions (renumbered_given f given) (map (renumbered f) nodes) model (f current)) (renumbered_focus f c)
    ≡ map f (looks_in (trace e) (shape_setting functions given nodes model current) c)
looks-of_renumbered f same texts functions given model current e nodes c =
    ap (λ all. looks_in (trace e) (setting_over functions None (renumbered_given f given) all model (f current)) (renumbered_focus f c)) (shape_of-renumbered f same texts nodes)
    ∙ looks-over_renumbered f same functions None given model current e (shape_of nodes) c
