-- The agreement law for calculates: where data hold the same contents at the nodes that a calculate reads and below them, it gives one text.
-- So where no cycle stands, the settled contents are the only ones that stand: for calculates whose expressions the law of xf_def_xpath covers.
use Rattle.std.proofs.Common.{◌≡◌, ℕ, ◌==◌, Bool, true, false, List, [], ◌∷◌, map, Some, None, refl, sym, ap, ◌∙◌, subst}
use Rattle.std.specs.Prelude.{filter}
use Rattle.std.proofs.lemmas.Bool.{eq-eqb, or_left}
use Rattle.xf_def_syntax.specs.declared.expr.Expr.{Expr}
use Rattle.xf_def_forest.specs.Forest.{Forest}
use Rattle.xf_def_forest.specs.Visit.{Visit, visits, has, is_first}
use Rattle.xf_def_forest.specs.StringValue.{string_value}
use Rattle.xf_def_forest.specs.Shape.{erased, shape, shape_of}
use Rattle.xf_def_forest.specs.WellFormed.{HasTrees}
use Rattle.xf_def_xpath.specs.Given.{document_of}
use Rattle.xf_def_values.specs.declared.plain.Plain.{Plain}
use Rattle.xf_def_values.specs.Functions.{Functions}
use Rattle.xf_def_values.specs.declared.plain.Plain.TheVariants as plain
use Rattle.xf_def_xpath.specs.Setting.{◌>>=◌}
use Rattle.xf_def_xpath.specs.Conversions.{nodes_of, string_of}
use Rattle.xf_def_xpath.specs.Functions.{set_of}
use Rattle.xf_def_xpath.specs.Table.{function_at}
use Rattle.xf_def_xpath.specs.Table as of
use Rattle.xf_def_xpath.specs.Asked.{Asked, found, converted}
use Rattle.xf_def_xpath.specs.Reads.{trace}
use Rattle.xf_def_xpath.specs.Agree.{numbers_of, untexted, AreVisits}
use Rattle.xf_def_xpath.specs.Exact.{facts_of}
use Rattle.xf_def_xpath.proofs.AxisAgree.{Frame}
use Rattle.xf_def_xpath.proofs.UntextedLaws.{itself}
use Rattle.xf_def_xpath.proofs.Comparison.{Comparison, Solid, over_shape}
use Rattle.xf_def_xpath.proofs.AgreeCalls.{Standing}
use Rattle.xf_def_xpath.proofs.Agreement.{text-agrees}
use Rattle.xf_def_xpath.proofs.TraceKeeps.{meaning-of_trace}
use Rattle.xf_def_xpath.proofs.ForestVisits.{forest-visits}
use Rattle.xf_def_xpath.proofs.ShapeVisits.{AreBelow, shape-untexted, shape-visits}
use Rattle.xf_def_model.specs.Rules.{Scope, computed_of}
use Rattle.xf_def_model.specs.Applied.{Entry}
use Rattle.xf_def_model.specs.Entries.{expression_of, focus_of, value_by, text_of}
use Rattle.xf_def_model.specs.Nested.{setting_for}
use Rattle.xf_def_model.specs.Settled.{Bounds, Contents, holding}
use Rattle.xf_def_model.proofs.HoldingLaws.{structure-kept}
use Rattle.xf_def_model.proofs.HoldingVisits.{held-visits}
use Rattle.xf_def_model.proofs.ReadSolid.{IsSolid, AreSolid, AreHung}

-- what surrounds the calculates of a model, over the nodes of a forest
pub record AreData (scope : Scope) (most : ℕ) (forest : Forest) : Type 0 where
  pub forest_is : HasTrees forest
  -- no node has the number of a text in a shape
  pub below : AreBelow (numbers_of (visits forest.nodes))
  -- texts stand in nodes
  pub hung : AreHung (map erased (shape_of forest.nodes))
  pub documents : (id : List ℕ) → AreSolid (map erased (visits forest.nodes)) (nodes_of (set_of (document_of scope.model id scope.given.documents)))
  -- functions give the same without a limit on strings, and truths where they give truths
  pub extend : (code : ℕ) (ps : List Plain) (p : Plain) → scope.functions (Some most) scope.given.decimals code ps ≡ Some p → scope.functions None scope.given.decimals code ps ≡ Some p
  pub truths : (code : ℕ) (ps : List Plain) (p : Plain) → function_at code ≡ of.asking → scope.functions (Some most) scope.given.decimals code ps ≡ Some p → (b : Bool) × (p ≡ plain.Truth b)

-- the entry stands at a node that is no text, and the law covers its expression
pub record IsCovered (scope : Scope) (forest : Forest) (e : Entry) : Type 0 where
  pub expr : Expr
  pub expression : expression_of scope e ≡ Some (computed_of expr)
  pub exact : (facts_of expr).is_exact ≡ true
  pub node : IsSolid (map erased (visits forest.nodes)) e.node

module _ (scope : Scope) (b : Bounds) (forest : Forest) (entries : List Entry) (data_are : AreData scope b.string forest) where
  abbrev all : List Visit
  all = visits forest.nodes

  abbrev bare : List Visit
  bare = map erased all

  abbrev shaped : List Visit
  shaped = map erased (shape all)

  pub bare_visits : AreVisits bare
  bare_visits = forest-visits forest data_are.forest_is

  -- without texts the shape, and all data that hold other contents, are the forest
  pub shape_same : untexted shaped ≡ untexted bare
  shape_same = shape-untexted all

  held_same : (contents : Contents) → untexted (map erased (holding all contents)) ≡ untexted bare
  held_same contents = structure-kept all contents

  pub bare_below : AreBelow (numbers_of bare)
  bare_below k h = data_are.below k (ap (has k) (sym (numbers all)) ∙ h)
    where
      numbers : (xs : List Visit) → numbers_of (map erased xs) ≡ numbers_of xs
      numbers [] = refl
      numbers (x ∷ xs) = ap (λ l. x.number ∷ l) (numbers xs)

  pub held_are : (contents : Contents) → AreVisits (map erased (holding all contents))
  held_are contents = held-visits all bare_visits bare_below contents

  pub held_frame : (contents : Contents) → Frame (untexted shaped) (untexted (map erased (holding all contents)))
  held_frame contents =
      subst (λ part. Frame part (untexted (map erased (holding all contents)))) (sym shape_same)
      (subst (λ part. Frame (untexted bare) part) (sym (held_same contents)) (itself bare bare_visits))

  module _ (e : Entry) (covered : IsCovered scope forest e) (one other : Contents) where
    abbrev pub comparison : Comparison
    comparison = record {
      setting = setting_for (Some b.string) scope (holding all one) e.node;
      others = map erased (holding all other);
      strings = λ n. string_value n (holding all other);
      documents = scope.given.documents;
      indexes = scope.given.indexes;
      event = scope.given.event;
      shape = shaped;
      shape_strings = λ n. string_value n (shape all);
      shape_documents = scope.given.documents;
      shape_indexes = scope.given.indexes;
      shape_event = scope.given.event;
      functions = scope.functions None scope.given.decimals;
      extend = data_are.extend;
      visits = held_are one;
      other_visits = held_are other;
      shape_visits = shape-visits forest data_are.forest_is data_are.below;
      frame = held_frame one;
      other_frame = held_frame other;
    }

    solid : (k : ℕ) → IsSolid bare k → Solid comparison k
    solid k x = record { visit = x.0; in_shape = ap (found k) shape_same ∙ x.1; in_first = ap (found k) (held_same one) ∙ x.1; in_second = ap (found k) (held_same other) ∙ x.1 }

    standing : Standing comparison
    standing = record { current = solid e.node covered.node; absent = λ id none. (none, none); truths = data_are.truths }

    document : (id : List ℕ) (n : ℕ) → document_of scope.model id scope.given.documents ≡ Some n → Solid comparison n
    document id n stands = solid n (data_are.documents id n (ap (λ m. has n (nodes_of (set_of m))) stands ∙ or_left (n == n) false (eq-eqb n n refl)))

    abbrev pub whole : Asked
    whole = converted (over_shape comparison) ((trace covered.expr).asked (over_shape comparison) (focus_of e))

    -- the string values that are read
    abbrev pub StringsAgree : Type 0
    StringsAgree = (n : ℕ) → has n (numbers_of shaped) ≡ true → has n whole.reads ≡ true → string_value n (holding all one) ≡ string_value n (holding all other)

    pub text-same : StringsAgree → text_of (Some b.string) scope (holding all one) e ≡ text_of (Some b.string) scope (holding all other) e
    text-same strings =
        let c = focus_of e in
        ap (λ x. value_by (Some b.string) scope (holding all one) e x >>= string_of (setting_for (Some b.string) scope (holding all one) e.node)) covered.expression
        ∙ ap (λ m. m (setting_for (Some b.string) scope (holding all one) e.node) c >>= string_of (setting_for (Some b.string) scope (holding all one) e.node)) (meaning-of_trace covered.expr)
        ∙ text-agrees comparison standing covered.expr covered.exact c (solid e.node covered.node)
        (record {
          lists = record {
            first = λ n h. ap (filter (λ (y : Visit). is_first n y.above)) (shape_same ∙ sym (held_same one));
            second = λ n h. ap (filter (λ (y : Visit). is_first n y.above)) (shape_same ∙ sym (held_same other));
            same = λ id n stands looked. record { first = stands; second = stands; solid = document id n stands };
          };
          strings = strings;
        })
        ∙ sym (ap (λ m. m (setting_for (Some b.string) scope (holding all other) e.node) c >>= string_of (setting_for (Some b.string) scope (holding all other) e.node)) (meaning-of_trace covered.expr))
        ∙ sym (ap (λ x. value_by (Some b.string) scope (holding all other) e x >>= string_of (setting_for (Some b.string) scope (holding all other) e.node)) covered.expression)
