-- What a node stands for, by its kind.
use Rattle.std.proofs.Common.{◌≡◌, ◌==◌, ℕ, List, [], ◌∷◌, map, Option, Some, None, option_map, refl, sym, ap, ◌∙◌}
use Rattle.std.specs.Prelude.{find}
use Rattle.xf_name.specs.declared.axis.Axis.TheVariants.{Child}
use Rattle.xf_def_forest.specs.declared.content.Kind.TheVariants as kind
use Rattle.xf_def_forest.specs.declared.content.Node.{Node}
use Rattle.xf_def_forest.specs.declared.content.Content.{Content}
use Rattle.xf_def_forest.specs.declared.content.Content.TheVariants.{Root, Element, Attribute, Text}
use Rattle.xf_def_forest.specs.Forest.{kind_at, kind_of}
use Rattle.xf_def_forest.specs.Visit.{Visit, above_in, children_of, first_of, parent_of, visits}
use Rattle.xf_def_forest.specs.Axis.{axis_from, axis_of}
use Rattle.xf_def_xpath.specs.Binding.{as_list, stand_in, stand_ins}
use Rattle.xf_def_xpath.proofs.VisitFacts.{found-number}
use Rattle.xf_eval.proofs.Erased.{content-seen}
use Rattle.xf_eval_context.specs.Nested.StandIns.{stand_ins_of}

kind-seen : (n : ℕ) (nodes : List Node) → option_map kind_of (option_map (λ (v : Visit). v.content) (find (λ (v : Visit). v.number == n) (visits nodes))) ≡ kind_at n nodes
kind-seen n nodes = ap (option_map kind_of) (content-seen n [] nodes)

root-in : (all : List Visit) (x : Visit) (c : Content) → Some (kind_of c) ≡ Some kind.Root → stand_in all x c ≡ children_of x.number all
root-in all x Root e = refl
root-in all x (Element name) e = cc e
root-in all x (Attribute name text) e = cc e
root-in all x (Text text) e = cc e

text-in : (all : List Visit) (x : Visit) (c : Content) → Some (kind_of c) ≡ Some kind.Text → stand_in all x c ≡ as_list (first_of x.above)
text-in all x Root e = cc e
text-in all x (Element name) e = cc e
text-in all x (Attribute name text) e = cc e
text-in all x (Text text) e = refl

element-in : (all : List Visit) (x : Visit) (c : Content) → Some (kind_of c) ≡ Some kind.Element → stand_in all x c ≡ x.number ∷ []
element-in all x Root e = cc e
element-in all x (Element name) e = refl
element-in all x (Attribute name text) e = cc e
element-in all x (Text text) e = cc e

attribute-in : (all : List Visit) (x : Visit) (c : Content) → Some (kind_of c) ≡ Some kind.Attribute → stand_in all x c ≡ x.number ∷ []
attribute-in all x Root e = cc e
attribute-in all x (Element name) e = cc e
attribute-in all x (Attribute name text) e = refl
attribute-in all x (Text text) e = cc e

pub stand-root : (n : ℕ) (nodes : List Node) → Some kind.Root ≡ kind_at n nodes → stand_ins_of (visits nodes) n ≡ axis_of Child n (visits nodes)
stand-root n nodes h = by (find (λ (v : Visit). v.number == n) (visits nodes)) (kind-seen n nodes ∙ sym h)
  where
    by : (m : Option Visit) → option_map kind_of (option_map (λ (v : Visit). v.content) m) ≡ Some kind.Root → stand_ins (visits nodes) m ≡ map (λ (y : Visit). y.number) (axis_from Child (visits nodes) m)
    by None e = cc e
    by (Some x) e = root-in (visits nodes) x x.content e

pub stand-text : (n : ℕ) (nodes : List Node) → Some kind.Text ≡ kind_at n nodes → stand_ins_of (visits nodes) n ≡ as_list (parent_of n (visits nodes))
stand-text n nodes h = by (find (λ (v : Visit). v.number == n) (visits nodes)) (kind-seen n nodes ∙ sym h)
  where
    by : (m : Option Visit) → option_map kind_of (option_map (λ (v : Visit). v.content) m) ≡ Some kind.Text → stand_ins (visits nodes) m ≡ as_list (first_of (above_in m))
    by None e = cc e
    by (Some x) e = text-in (visits nodes) x x.content e

pub stand-element : (n : ℕ) (nodes : List Node) → Some kind.Element ≡ kind_at n nodes → stand_ins_of (visits nodes) n ≡ n ∷ []
stand-element n nodes h = by (find (λ (v : Visit). v.number == n) (visits nodes)) refl (kind-seen n nodes ∙ sym h)
  where
    by : (m : Option Visit) → find (λ (v : Visit). v.number == n) (visits nodes) ≡ m → option_map kind_of (option_map (λ (v : Visit). v.content) m) ≡ Some kind.Element → stand_ins (visits nodes) m ≡ n ∷ []
    by None f e = cc e
    by (Some x) f e = element-in (visits nodes) x x.content e ∙ ap (λ k. k ∷ []) (found-number n (visits nodes) x f)

pub stand-attribute : (n : ℕ) (nodes : List Node) → Some kind.Attribute ≡ kind_at n nodes → stand_ins_of (visits nodes) n ≡ n ∷ []
stand-attribute n nodes h = by (find (λ (v : Visit). v.number == n) (visits nodes)) refl (kind-seen n nodes ∙ sym h)
  where
    by : (m : Option Visit) → find (λ (v : Visit). v.number == n) (visits nodes) ≡ m → option_map kind_of (option_map (λ (v : Visit). v.content) m) ≡ Some kind.Attribute → stand_ins (visits nodes) m ≡ n ∷ []
    by None f e = cc e
    by (Some x) f e = attribute-in (visits nodes) x x.content e ∙ ap (λ k. k ∷ []) (found-number n (visits nodes) x f)
