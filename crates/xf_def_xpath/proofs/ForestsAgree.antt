-- Two forests that agree on what an expression reads and looks at, as it is told over the shape of the first, give it one value and one
-- text. This is what recalculating only what a change can reach rests on.
use Rattle.std.proofs.Common.{◌≡◌, ℕ, ◌==◌, Bool, true, false, List, map, Option, Some, None, sym, ap, ◌∙◌, subst}
use Rattle.std.specs.Prelude.{filter}
use Rattle.xf_def_syntax.specs.declared.expr.Expr.{Expr}
use Rattle.xf_def_forest.specs.Forest.{Forest}
use Rattle.xf_def_syntax.specs.declared.expr.Start.TheVariants.{Root}
use Rattle.xf_def_forest.specs.Visit.{Visit, visits, has, is_first, top_of}
use Rattle.xf_def_forest.specs.StringValue.{string_value}
use Rattle.xf_def_forest.specs.Shape.{erased, shape_of}
use Rattle.xf_def_forest.specs.WellFormed.{HasTrees}
use Rattle.xf_def_xpath.specs.declared.value.Value.{Value}
use Rattle.xf_def_xpath.specs.Given.{Document, Given, document_of}
use Rattle.xf_def_values.specs.declared.plain.Plain.{Plain}
use Rattle.xf_def_values.specs.Functions.{Functions}
use Rattle.xf_def_values.specs.declared.plain.Plain.TheVariants as plain
use Rattle.xf_def_xpath.specs.Setting.{Setting, Focus, setting_over, ◌>>=◌}
use Rattle.xf_def_xpath.specs.Conversions.{string_of}
use Rattle.xf_def_xpath.specs.Table.{function_at}
use Rattle.xf_def_xpath.specs.Table as of
use Rattle.xf_def_xpath.specs.Meaning.{meaning}
use Rattle.xf_def_xpath.specs.Asked.{Asked, found, list_around, converted}
use Rattle.xf_def_xpath.specs.Reads.{trace, shape_setting}
use Rattle.xf_def_xpath.specs.Agree.{numbers_of, untexted, AreVisits, HaveOneFrame, AgreeOnLists, AgreeOnStrings}
use Rattle.xf_def_xpath.specs.Exact.{facts_of}
use Rattle.xf_def_xpath.proofs.VisitFacts.{or-left, self-same, present}
use Rattle.xf_def_xpath.proofs.AgreeLaw.{begun-agrees}
use Rattle.xf_def_xpath.proofs.AxisAgree.{Frame}
use Rattle.xf_def_xpath.proofs.UntextedLaws.{bare-apart, bare-closed, itself, solid-found}
use Rattle.xf_def_xpath.proofs.Comparison.{Comparison, Solid, Within}
use Rattle.xf_def_xpath.proofs.ValueAgree.{Premise}
use Rattle.xf_def_xpath.proofs.AgreeCalls.{Standing}
use Rattle.xf_def_xpath.proofs.Agreement.{value-agrees, text-agrees}
use Rattle.xf_def_xpath.proofs.ForestVisits.{forest-visits}
use Rattle.xf_def_xpath.proofs.ShapeVisits.{AreBelow, shape-untexted, shape-visits}

-- the visits of a forest, texts empty
abbrev pub bare : Forest → List Visit
bare forest = map erased (visits forest.nodes)

-- a node that is no text stands in both forests, and is the same
pub record InBoth (first second : Forest) (k : ℕ) : Type 0 where
  pub visit : Visit
  pub in_first : found k (untexted (bare first)) ≡ Some visit
  pub in_second : found k (untexted (bare second)) ≡ Some visit

-- what two forests have in common, whatever is asked of them
pub record AreForests (functions : Functions) (most : Option ℕ) (given : Given) (documents : List Document) (first second : Forest) (model current : ℕ) : Type 0 where
  pub is_first : HasTrees first
  pub is_second : HasTrees second
  -- no node has the number of a text in a shape
  pub below : AreBelow (numbers_of (visits first.nodes))
  pub frame : HaveOneFrame (bare first) (bare second)
  pub current_too : InBoth first second current
  -- the documents of the first stand in it, and an instance is in both or in neither
  pub documents_stand : (id : List ℕ) (n : ℕ) → document_of model id given.documents ≡ Some n → (x : Visit) × (found n (untexted (bare first)) ≡ Some x)
  pub absent : (id : List ℕ) → document_of model id given.documents ≡ None → document_of model id documents ≡ None
  -- functions give the same without a limit on strings, and truths where they give truths
  pub extend : (code : ℕ) (ps : List Plain) (p : Plain) → functions most given.decimals code ps ≡ Some p → functions None given.decimals code ps ≡ Some p
  pub truths : (code : ℕ) (ps : List Plain) (p : Plain) → function_at code ≡ of.asking → functions most given.decimals code ps ≡ Some p → (b : Bool) × (p ≡ plain.Truth b)

-- an instance has the same document element in both where the list around it is looked at
abbrev pub AgreeOnDocuments : List ℕ → Given → List Document → Forest → Forest → ℕ → Type 0
AgreeOnDocuments looks given documents first second model =
    (id : List ℕ) (n : ℕ) → document_of model id given.documents ≡ Some n → Within (list_around (map erased (shape_of first.nodes)) n) looks →
    (document_of model id documents ≡ Some n) × InBoth first second n

module _ (functions : Functions) (most : Option ℕ) (given : Given) (documents : List Document) (indexes : List (List ℕ × ℕ)) (event : Option (List (List ℕ × Value)))
    (first second : Forest) (model current : ℕ) (h : AreForests functions most given documents first second model current) where
  abbrev shaped : List Visit
  shaped = map erased (shape_of first.nodes)

  -- without texts the shape is the first forest
  pub same : untexted shaped ≡ untexted (bare first)
  same = shape-untexted (visits first.nodes)

  pub first_visits : AreVisits (bare first)
  first_visits = forest-visits first h.is_first

  pub second_visits : AreVisits (bare second)
  second_visits = forest-visits second h.is_second

  pub own-frame : Frame (untexted shaped) (untexted (bare first))
  own-frame = subst (λ part. Frame part (untexted (bare first))) (sym same) (itself (bare first) first_visits)

  pub both-frame : Frame (untexted (bare first)) (untexted (bare second))
  both-frame = record {
    apart = bare-apart (bare first) first_visits;
    apart_too = bare-apart (bare second) second_visits;
    closed = bare-closed (bare first) first_visits;
    closed_too = bare-closed (bare second) second_visits;
    order = h.frame.order;
    contents = λ n x y a b. h.frame.contents n x y (solid-found (bare first) first_visits n x a).0 (solid-found (bare second) second_visits n y b).0;
  }

  abbrev pub comparison : Comparison
  comparison = record {
    setting = setting_over functions most given (visits first.nodes) model current;
    others = bare second;
    strings = λ n. string_value n (visits second.nodes);
    documents = documents;
    indexes = indexes;
    event = event;
    shape_documents = given.documents;
    shape_indexes = given.indexes;
    shape_event = given.event;
    shape = shaped;
    shape_strings = λ n. string_value n (shape_of first.nodes);
    functions = functions None given.decimals;
    extend = h.extend;
    visits = first_visits;
    other_visits = second_visits;
    shape_visits = shape-visits first h.is_first h.below;
    frame = own-frame;
    other_frame = subst (λ part. Frame part (untexted (bare second))) (sym same) both-frame;
  }

  pub solid : (k : ℕ) → InBoth first second k → Solid comparison k
  solid k x = record { visit = x.visit; in_shape = ap (found k) same ∙ x.in_first; in_first = x.in_first; in_second = x.in_second }

  pub standing : Standing comparison
  standing = record { current = solid current h.current_too; absent = λ id e. (e, h.absent id e); truths = h.truths }

  pub premise : (a : Asked) → AgreeOnLists a.looks (bare first) (bare second) → AgreeOnDocuments a.looks given documents first second model → AgreeOnStrings a.reads shaped (λ n. string_value n (visits first.nodes)) (λ n. string_value n (visits second.nodes)) → Premise comparison a
  premise a l d r = record {
    lists = record {
      first = λ n i. ap (filter (λ (y : Visit). is_first n y.above)) same;
      second = λ n i. ap (filter (λ (y : Visit). is_first n y.above)) same ∙ l n i;
      same = λ id n e k. let x = d id n e k in record { first = e; second = x.0; solid = solid n x.1 };
    };
    strings = r;
  }

  -- the top of the tree of a node that is in both stands in the shape
  pub top-stands : (n : ℕ) → InBoth first second n → has (top_of n shaped) (numbers_of shaped) ≡ true
  top-stands n x =
      let top = (begun-agrees comparison Root (record { node = n; position = 1; size = 1 }) (solid n x)).solid (top_of n shaped) (or-left (top_of n shaped == top_of n shaped) false (self-same (top_of n shaped))) in
      present (top_of n shaped) shaped top.visit (solid-found shaped (shape-visits first h.is_first h.below) (top_of n shaped) top.visit top.in_shape).0

  abbrev over : Setting
  over = setting_over functions most given (visits first.nodes) model current

  -- the other forest, with what surrounds it
  abbrev over_other : Setting
  over_other = setting_over functions most (record given { documents = documents; indexes = indexes; event = event }) (visits second.nodes) model current

  -- what is asked of an expression over the shape of the first forest
  abbrev asked_of : Expr → Focus → Asked
  asked_of e c = (trace e).asked (shape_setting functions given first.nodes model current) c

  pub one-value : (e : Expr) → (facts_of e).is_exact ≡ true → (c : Focus) → InBoth first second c.node →
      AgreeOnLists (asked_of e c).looks (bare first) (bare second) → AgreeOnDocuments (asked_of e c).looks given documents first second model →
      AgreeOnStrings (asked_of e c).reads shaped (λ n. string_value n (visits first.nodes)) (λ n. string_value n (visits second.nodes)) →
      meaning e over c ≡ meaning e over_other c
  one-value e exact c node l d r = value-agrees comparison standing e exact c (solid c.node node) (premise (asked_of e c) l d r)

  -- the whole expression asked, as that of an entry is
  abbrev whole_of : Expr → Focus → Asked
  whole_of e c = converted (shape_setting functions given first.nodes model current) (asked_of e c)

  pub one-text : (e : Expr) → (facts_of e).is_exact ≡ true → (c : Focus) → InBoth first second c.node →
      AgreeOnLists (whole_of e c).looks (bare first) (bare second) → AgreeOnDocuments (whole_of e c).looks given documents first second model →
      AgreeOnStrings (whole_of e c).reads shaped (λ n. string_value n (visits first.nodes)) (λ n. string_value n (visits second.nodes)) →
      (meaning e over c >>= string_of over) ≡ (meaning e over_other c >>= string_of over_other)
  one-text e exact c node l d r = text-agrees comparison standing e exact c (solid c.node node) (premise (whole_of e c) l d r)
