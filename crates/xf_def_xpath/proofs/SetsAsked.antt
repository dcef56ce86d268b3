-- Over one forest: the nodes that an expression gives are those that its reads and looks are told by, over the shape; so it gives the same
-- nodes over the forest and over its shape.
use Rattle.std.proofs.Common.{◌≡◌, ℕ, true, List, Bool, Option, Some, None, refl, sym, ap, ◌∙◌}
use Rattle.xf_def_syntax.specs.declared.expr.Expr.{Expr}
use Rattle.xf_def_forest.specs.Forest.{Forest}
use Rattle.xf_def_forest.specs.Visit.{Visit, visits}
use Rattle.xf_def_forest.specs.WellFormed.{HasTrees}
use Rattle.xf_def_xpath.specs.declared.value.Value.{Value}
use Rattle.xf_def_xpath.specs.Given.{Given, document_of}
use Rattle.xf_def_values.specs.declared.plain.Plain.{Plain}
use Rattle.xf_def_values.specs.Functions.{Functions}
use Rattle.xf_def_values.specs.declared.plain.Plain.TheVariants as plain
use Rattle.xf_def_xpath.specs.Setting.{Setting, Focus, setting_over}
use Rattle.xf_def_xpath.specs.Conversions.{nodes_of}
use Rattle.xf_def_xpath.specs.Table.{function_at}
use Rattle.xf_def_xpath.specs.Table as of
use Rattle.xf_def_xpath.specs.Meaning.{meaning}
use Rattle.xf_def_xpath.specs.Asked.{Asked, found}
use Rattle.xf_def_xpath.specs.Reads.{trace, shape_setting}
use Rattle.xf_def_xpath.specs.Agree.{numbers_of, untexted}
use Rattle.xf_def_xpath.specs.Exact.{facts_of}
use Rattle.xf_def_xpath.proofs.VisitFacts.{some-same}
use Rattle.xf_def_xpath.proofs.Agreement.{set-asked}
use Rattle.xf_def_xpath.proofs.ShapeVisits.{AreBelow}
use Rattle.xf_def_xpath.proofs.ForestsAgree.{bare, InBoth, AreForests}
use Rattle.xf_def_xpath.proofs.ForestsAgree as forests
use Rattle.xf_def_xpath.proofs.ShapesAgree as shapes

-- a node that is no text
abbrev pub IsIn : Forest → ℕ → Type 0
IsIn forest k = (x : Visit) × (found k (untexted (bare forest)) ≡ Some x)

-- a forest with what surrounds an expression
pub record IsSurrounded (functions : Functions) (most : Option ℕ) (given : Given) (forest : Forest) (model current : ℕ) : Type 0 where
  pub is_forest : HasTrees forest
  pub below : AreBelow (numbers_of (visits forest.nodes))
  pub current_stands : IsIn forest current
  pub documents_stand : (id : List ℕ) (n : ℕ) → document_of model id given.documents ≡ Some n → IsIn forest n
  pub extend : (code : ℕ) (ps : List Plain) (p : Plain) → functions most given.decimals code ps ≡ Some p → functions None given.decimals code ps ≡ Some p
  pub truths : (code : ℕ) (ps : List Plain) (p : Plain) → function_at code ≡ of.asking → functions most given.decimals code ps ≡ Some p → (b : Bool) × (p ≡ plain.Truth b)
  pub truths_without : (code : ℕ) (ps : List Plain) (p : Plain) → function_at code ≡ of.asking → functions None given.decimals code ps ≡ Some p → (b : Bool) × (p ≡ plain.Truth b)

module _ (functions : Functions) (most : Option ℕ) (given : Given) (forest : Forest) (model current : ℕ) (h : IsSurrounded functions most given forest model current) where
  in-both : (k : ℕ) → IsIn forest k → InBoth forest forest k
  in-both k x = record { visit = x.0; in_first = x.1; in_second = x.1 }

  with-itself : AreForests functions most given given.documents forest forest model current
  with-itself = record {
    is_first = h.is_forest;
    is_second = h.is_forest;
    below = h.below;
    frame = record { order = refl; contents = λ n x y a b. ap (λ (z : Visit). z.content) (some-same (sym a ∙ b)) };
    current_too = in-both current h.current_stands;
    documents_stand = h.documents_stand;
    absent = λ id e. e;
    extend = h.extend;
    truths = h.truths;
  }

  without-limit : AreForests functions None given given.documents forest forest model current
  without-limit = record {
    is_first = h.is_forest;
    is_second = h.is_forest;
    below = h.below;
    frame = record { order = refl; contents = λ n x y a b. ap (λ (z : Visit). z.content) (some-same (sym a ∙ b)) };
    current_too = in-both current h.current_stands;
    documents_stand = h.documents_stand;
    absent = λ id e. e;
    extend = λ code ps p e. e;
    truths = h.truths_without;
  }

  abbrev over : Setting
  over = setting_over functions most given (visits forest.nodes) model current

  abbrev at_shape : Setting
  at_shape = shape_setting functions given forest.nodes model current

  abbrev asked_of : Expr → Focus → Asked
  asked_of e c = (trace e).asked at_shape c

  pub forest-set : (e : Expr) → (facts_of e).is_exact ≡ true → (c : Focus) → IsIn forest c.node → (v : Value) → meaning e over c ≡ Some v → nodes_of v ≡ (asked_of e c).set
  forest-set e exact c node v i =
      set-asked (forests.comparison functions most given given.documents given.indexes given.event forest forest model current with-itself)
      (forests.standing functions most given given.documents given.indexes given.event forest forest model current with-itself) e exact c
      (forests.solid functions most given given.documents given.indexes given.event forest forest model current with-itself c.node (in-both c.node node))
      (forests.premise functions most given given.documents given.indexes given.event forest forest model current with-itself (asked_of e c)
      (λ n k. refl) (λ id n k l. (k, in-both n (h.documents_stand id n k))) (λ n k l. refl)) v i

  pub shape-set : (e : Expr) → (facts_of e).is_exact ≡ true → (c : Focus) → IsIn forest c.node → (v : Value) → meaning e at_shape c ≡ Some v → nodes_of v ≡ (asked_of e c).set
  shape-set e exact c node v i =
      set-asked (shapes.comparison functions given given.documents given.indexes given.event forest forest model current without-limit h.below)
      (shapes.standing functions given given.documents given.indexes given.event forest forest model current without-limit h.below) e exact c
      (shapes.solid functions given given.documents given.indexes given.event forest forest model current without-limit h.below c.node (in-both c.node node))
      (record {
        lists = record {
          first = λ n k. refl;
          second = λ n k. refl;
          same = λ id n k l. record {
            first = k;
            second = k;
            solid = shapes.solid functions given given.documents given.indexes given.event forest forest model current without-limit h.below n (in-both n (h.documents_stand id n k));
          };
        };
        strings = λ n k l. refl;
      }) v i

  -- over the forest and over its shape
  pub same-set : (e : Expr) → (facts_of e).is_exact ≡ true → (c : Focus) → IsIn forest c.node → (v v' : Value) → meaning e over c ≡ Some v → meaning e at_shape c ≡ Some v' → nodes_of v ≡ nodes_of v'
  same-set e exact c node v v' i j = forest-set e exact c node v i ∙ sym (shape-set e exact c node v' j)
