-- Over data of one shape a node that is no text has the same nodes above it, and so the same properties.
use Rattle.std.proofs.Common.{◌≡◌, ℕ, true, ◌∷◌, List, map, Option, Some, None, option_map, sym, ap, ◌∙◌}
use Rattle.std.specs.List.{list_all, list_any}
use Rattle.xf_def_forest.specs.Forest.{Forest}
use Rattle.xf_def_forest.specs.Shape.{erased, shape, shape_of}
use Rattle.xf_def_forest.specs.Visit.{Visit, above_in, ancestors_of, visits}
use Rattle.xf_def_forest.specs.WellFormed.{HasTrees}
use Rattle.xf_def_xpath.specs.Agree.{untexted}
use Rattle.xf_def_xpath.specs.Asked.{found}
use Rattle.xf_def_xpath.proofs.ForestVisits.{forest-visits, found-erased}
use Rattle.xf_def_xpath.proofs.ShapeVisits.{shape-untexted}
use Rattle.xf_def_xpath.proofs.UntextedLaws.{solid-found}
use Rattle.xf_def_model.specs.declared.property.Property.TheVariants.{Relevant}
use Rattle.xf_def_model.specs.Properties.{own, own_readonly}
use Rattle.xf_binds.specs.Kept.{Kept, values_in}
use Rattle.xf_def_ui.specs.declared.marks.Marks.{Marks}
use Rattle.xf_valid.specs.Nodes.{marks_in, required_in, valid_in}

-- it stands there, and is no text
abbrev pub IsStanding : List Visit → ℕ → Type 0
IsStanding all n = (x : Visit) × (found n (untexted (map erased all)) ≡ Some x)

above-of : (m : Option Visit) (x : Visit) → option_map erased m ≡ Some x → above_in m ≡ x.above
above-of None x e = cc e
above-of (Some y) x e = let same : erased y ≡ x = cc e in ap (λ (z : Visit). z.above) same

-- what is above a node that is no text
standing-above : (forest : Forest) (n : ℕ) (x : Visit) → HasTrees forest → found n (untexted (map erased (visits forest.nodes))) ≡ Some x → ancestors_of n (visits forest.nodes) ≡ x.above
standing-above forest n x trees h =
    above-of (found n (visits forest.nodes)) x
    (sym (found-erased n (visits forest.nodes)) ∙ (solid-found (map erased (visits forest.nodes)) (forest-visits forest trees) n x h).0)

-- without texts and what they hold, the visits are those of the shape
untexted-same : (all others : List Visit) → shape others ≡ shape all → untexted (map erased others) ≡ untexted (map erased all)
untexted-same all others same = sym (shape-untexted others) ∙ ap (λ l. untexted (map erased l)) same ∙ shape-untexted all

found-same : (n : ℕ) (all others : List Visit) → shape others ≡ shape all → found n (untexted (map erased others)) ≡ found n (untexted (map erased all))
found-same n all others same = ap (found n) (untexted-same all others same)

-- it stands in both
pub standing-after : (first second : Forest) (n : ℕ) → shape_of second.nodes ≡ shape_of first.nodes → IsStanding (visits first.nodes) n → IsStanding (visits second.nodes) n
standing-after first second n same s = (s.0, found-same n (visits first.nodes) (visits second.nodes) same ∙ s.1)

pub ancestors-shaped : (first second : Forest) (n : ℕ) → HasTrees first → HasTrees second → shape_of second.nodes ≡ shape_of first.nodes → IsStanding (visits first.nodes) n
    → ancestors_of n (visits second.nodes) ≡ ancestors_of n (visits first.nodes)
ancestors-shaped first second n trees trees_too same s =
    standing-above second n s.0 trees_too (found-same n (visits first.nodes) (visits second.nodes) same ∙ s.1) ∙ sym (standing-above first n s.0 trees s.1)

pub marks-shaped : (table : List Kept) (first second : Forest) (n : ℕ) → HasTrees first → HasTrees second → shape_of second.nodes ≡ shape_of first.nodes → IsStanding (visits first.nodes) n
    → marks_in table second.nodes n ≡ marks_in table first.nodes n
marks-shaped table first second n trees trees_too same s = ap marks (ancestors-shaped first second n trees trees_too same s)
  where
    marks : List ℕ → Marks
    marks above = record {
      relevant = list_all (own (values_in table) Relevant true) (n ∷ above);
      readonly = list_any (own_readonly (values_in table)) (n ∷ above);
      required = required_in table n;
      valid = valid_in table n;
    }
