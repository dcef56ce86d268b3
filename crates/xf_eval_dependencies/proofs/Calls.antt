-- What a call asks by the table of functions is what it asks as the walk tells functions apart.
use Rattle.std.proofs.Common.{rules, ◌≡◌, ◌<◌, ℕ, List, [], ◌∷◌, map, Option, Some, None, option_map, refl, sym, ap, ◌∙◌, true}
use Rattle.std.specs.List.{list_all}
use denote.Param.Weighed.{most}
use Rattle.xf_def_syntax.specs.declared.expr.Expr.{Expr, size-Expr, the_lemmas}
use Rattle.xf_def_syntax.specs.declared.expr.Expr.TheVariants as e
use Rattle.xf_def_forest.specs.declared.content.Node.{Node}
use Rattle.xf_def_forest.proofs.BackLaws.{and-true}
use Rattle.xf_def_xpath.specs.declared.context.Context.{Context}
use Rattle.xf_def_xpath.specs.declared.value.Value.{Value}
use Rattle.xf_def_xpath.specs.AskedCalls.{all_converted, call_asked, meanings, nodes_if}
use Rattle.xf_def_xpath.specs.Binding.{as_list}
use Rattle.xf_def_xpath.specs.Conversions.{nodes_of}
use Rattle.xf_def_xpath.specs.Functions.{called}
use Rattle.xf_def_xpath.specs.Given.{Given}
use Rattle.xf_def_xpath.specs.Meaning.{focus_of, meaning}
use Rattle.xf_def_xpath.specs.Reads.{trace}
use Rattle.xf_def_xpath.specs.Setting.{Setting, Focus, Meaning}
use Rattle.xf_def_xpath.specs.Table.{Function, function_at}
use Rattle.xf_def_xpath.specs.Table as of
use Rattle.xf_def_xpath.proofs.Equations.{meaning-Call}
use Rattle.xf_def_xpath.proofs.TraceKeeps.{meaning-of_trace}
use Rattle.xf_def_xpath.proofs.VisitFacts.{no, none-some, some-same}
use Rattle.xf_eval.specs.declared.kinds.Kind.{Kind}
use Rattle.xf_eval.specs.declared.kinds.Kind.TheVariants as kind
use Rattle.xf_eval.specs.Kinds.{function_in}
use Rattle.xf_eval_shape.specs.Bound.{document_by, literal_id}
use Rattle.xf_eval_shape.specs.Fixed.{Fixed, all_fixed, begins_literal, call_fixed, fixed_of, is_fixed}
use Rattle.xf_eval_shape.specs.Over.{shape_at}
use Rattle.xf_eval_shape.proofs.FixedEquations.{fixed-Call}
use Rattle.xf_eval_shape.proofs.Results.{all-mapped}
use Rattle.xf_eval_shape.proofs.Values.{call-are}
use Rattle.xf_eval_dependencies.specs.declared.ways.Way.{Way}
use Rattle.xf_eval_dependencies.specs.Ways.{asked_by, way_in, with_lists}
use Rattle.xf_eval_dependencies.proofs.Levels.{call-asks}

-- the meanings beside what is asked
traced-meanings : (es : List Expr) → meanings (map trace es) ≡ map meaning es
traced-meanings [] = refl
traced-meanings (x ∷ xs) = ap (λ m. m ∷ meanings (map trace xs)) (meaning-of_trace x) ∙ ap (λ ms. meaning x ∷ ms) (traced-meanings xs)

given-nodes : (m : Option Value) (ns : List ℕ) → option_map nodes_of m ≡ Some ns → nodes_if m ≡ ns
given-nodes None ns h = none-some h
given-nodes (Some v) ns h = some-same h

module _ (given : Given) (nodes : List Node) (context : Context) where
  abbrev s : Setting
  s = shape_at given nodes context

  abbrev c : Focus
  c = focus_of context

  -- the document element of the instance that is written
  document-nodes : (place code : ℕ) (arguments : List Expr) → of.instance ≡ function_at code → is_fixed (e.Call place code arguments) ≡ true →
      nodes_if (called of.instance code (meanings (map trace arguments)) s c) ≡ as_list (document_by given context.model (literal_id arguments))
  document-nodes place code arguments f h =
      ap (λ ms. nodes_if (called of.instance code ms s c)) (traced-meanings arguments)
      ∙ ap (λ g. nodes_if (called g code (map meaning arguments) s c)) f
      ∙ ap (λ (m : Meaning). nodes_if (m s c)) (sym (meaning-Call place code arguments))
      ∙ given-nodes (meaning (e.Call place code arguments) s c) _ (call-are given nodes context kind.Instance place code arguments f h (as_list (document_by given context.model (literal_id arguments))) refl)

  pub way-asks : (k : Kind) (place code : ℕ) (arguments : List Expr) → function_in k ≡ function_at code → is_fixed (e.Call place code arguments) ≡ true →
      call_asked (function_at code) code (map trace arguments) s c ≡ asked_by (way_in k) given context arguments s c
  way-asks k place code arguments f h = ap (λ g. call_asked g code (map trace arguments) s c) (sym f) ∙ by k f
    where
      fixed : call_fixed (function_at code) (map fixed_of arguments) ≡ true
      fixed = sym (ap (λ (x : Fixed). x.is_fixed) (fixed-Call place code arguments)) ∙ h

      by : (k : Kind) → function_in k ≡ function_at code → call_asked (function_in k) code (map trace arguments) s c ≡ asked_by (way_in k) given context arguments s c
      by kind.Asking i = refl
      by kind.Plainly i = refl
      by kind.Owning i = refl
      by kind.Boolean i = refl
      by kind.Not i = refl
      by (kind.Truth b) i = refl
      by kind.Choosing i = refl
      by kind.Branching i = refl
      by kind.Counting i = refl
      by kind.CountingFilled i = refl
      by kind.Adding i = refl
      by kind.Averaging i = refl
      by kind.Greatest i = refl
      by kind.Least i = refl
      by kind.LocalName i = refl
      by kind.Name i = refl
      by kind.Namespace i = refl
      by kind.Number i = refl
      by kind.Text i = refl
      by kind.Current i = refl
      by kind.Event i = no (ap (λ g. call_fixed g (map fixed_of arguments)) i ∙ fixed)
      by kind.Index i = refl
      by kind.Instance i = ap (λ ns. with_lists s ns (all_converted (map trace arguments) s c)) (document-nodes place code arguments i h)
      by kind.Last i = refl
      by kind.Position i = refl

  -- the whole, by what the calls give
  pub call-told : (k : Kind) (w : Way) (x : Expr) (place code : ℕ) (arguments es : List Expr) → w ≡ way_in k → function_in k ≡ function_at code → x ≡ e.Call place code arguments → is_fixed x ≡ true → es ≡ arguments →
      asked_by w given context es s c ≡ (trace x).asked s c
  call-told k w x place code arguments es h f i fixed same =
      ap (λ v. asked_by v given context es s c) h
      ∙ ap (λ l. asked_by (way_in k) given context l s c) same
      ∙ sym (call-asks s c x place code arguments i ∙ way-asks k place code arguments f (sym (ap is_fixed i) ∙ fixed))

-- the arguments of a fixed call are fixed
fixed-parts : (function : Function) (xs : List Fixed) → call_fixed function xs ≡ true → all_fixed xs ≡ true
fixed-parts of.asking xs h = h
fixed-parts of.owning xs h = h
fixed-parts of.plainly xs h = h
fixed-parts of.boolean xs h = h
fixed-parts of.not xs h = h
fixed-parts of.choosing xs h = (and-true (all_fixed xs) _ h).0
fixed-parts of.branching xs h = h
fixed-parts of.counting xs h = h
fixed-parts of.counting_filled xs h = h
fixed-parts of.adding xs h = h
fixed-parts of.averaging xs h = h
fixed-parts of.greatest xs h = h
fixed-parts of.least xs h = h
fixed-parts of.local_name xs h = h
fixed-parts of.name xs h = h
fixed-parts of.namespace xs h = h
fixed-parts of.number xs h = h
fixed-parts of.string xs h = h
fixed-parts of.current xs h = h
fixed-parts of.event xs h = no h
fixed-parts of.index xs h = h
fixed-parts of.instance xs h = (and-true (begins_literal xs) _ h).1
fixed-parts of.last xs h = h
fixed-parts of.position xs h = h
fixed-parts (of.truth b) xs h = h

pub call-fixed-parts : (x : Expr) (place code : ℕ) (arguments es : List Expr) → x ≡ e.Call place code arguments → is_fixed x ≡ true → es ≡ arguments → list_all is_fixed es ≡ true
call-fixed-parts x place code arguments es i h same =
    ap (list_all is_fixed) same
    ∙ all-mapped (λ (f : Fixed). f.is_fixed) fixed_of arguments
    ∙ fixed-parts (function_at code) (map fixed_of arguments) (sym (ap is_fixed i ∙ ap (λ (f : Fixed). f.is_fixed) (fixed-Call place code arguments)) ∙ h)

-- and less deep than the call
pub call-falls : (x : Expr) (place code : ℕ) (arguments es : List Expr) → x ≡ e.Call place code arguments → es ≡ arguments → most size-Expr es < size-Expr x
call-falls x place code arguments es h i = search (rules, the_lemmas)
