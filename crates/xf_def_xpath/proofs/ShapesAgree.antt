-- What an expression that reads nothing selects over the shapes of two forests, as binds do, is the same where the lists that it looks at are:
-- what rebuilding only what a change can reach rests on.
use Rattle.std.proofs.Common.{◌≡◌, ℕ, true, List, [], map, Option, None, refl, sym, ap, ◌∙◌, subst}
use Rattle.std.specs.Prelude.{filter}
use Rattle.xf_def_syntax.specs.declared.expr.Expr.{Expr}
use Rattle.xf_def_forest.specs.Forest.{Forest}
use Rattle.xf_def_forest.specs.Visit.{Visit, visits, has, is_first}
use Rattle.xf_def_forest.specs.StringValue.{string_value}
use Rattle.xf_def_forest.specs.Shape.{erased, shape_of}
use Rattle.xf_def_xpath.specs.declared.value.Value.{Value}
use Rattle.xf_def_xpath.specs.Given.{Document, Given}
use Rattle.xf_def_values.specs.Functions.{Functions}
use Rattle.xf_def_xpath.specs.Setting.{Setting, Focus}
use Rattle.xf_def_xpath.specs.Meaning.{meaning}
use Rattle.xf_def_xpath.specs.Asked.{Asked, found}
use Rattle.xf_def_xpath.specs.Reads.{trace, set_looks_in, shape_setting}
use Rattle.xf_def_xpath.specs.Agree.{numbers_of, untexted, AreVisits, AgreeOnLists}
use Rattle.xf_def_xpath.specs.Exact.{facts_of}
use Rattle.xf_def_xpath.specs.Quiet.{quiet_of}
use Rattle.xf_def_xpath.proofs.VisitFacts.{no}
use Rattle.xf_def_xpath.proofs.AxisAgree.{Frame}
use Rattle.xf_def_xpath.proofs.UntextedLaws.{itself}
use Rattle.xf_def_xpath.proofs.Comparison.{Comparison, Solid}
use Rattle.xf_def_xpath.proofs.ValueAgree.{Premise}
use Rattle.xf_def_xpath.proofs.AgreeCalls.{Standing}
use Rattle.xf_def_xpath.proofs.Agreement.{value-agrees}
use Rattle.xf_def_xpath.proofs.LooksStand.{HasParents, AskedStands, asked-stands}
use Rattle.xf_def_xpath.proofs.ShapeVisits.{AreBelow, shape-untexted, shape-visits}
use Rattle.xf_def_xpath.proofs.ForestsAgree.{bare, InBoth, AreForests, AgreeOnDocuments, both-frame}
use Rattle.xf_def_xpath.proofs.ReadsAgree.{parents-stand, shape-stands, lists-told, documents-told}
use Rattle.xf_def_xpath.proofs.QuietLaws.{reads-none}

module _ (functions : Functions) (given : Given) (documents : List Document) (indexes : List (List ℕ × ℕ)) (event : Option (List (List ℕ × Value)))
    (first second : Forest) (model current : ℕ) (h : AreForests functions None given documents first second model current)
    (below_too : AreBelow (numbers_of (visits second.nodes))) where
  abbrev shaped : List Visit
  shaped = map erased (shape_of first.nodes)

  abbrev shaped_too : List Visit
  shaped_too = map erased (shape_of second.nodes)

  same : untexted shaped ≡ untexted (bare first)
  same = shape-untexted (visits first.nodes)

  pub same-too : untexted shaped_too ≡ untexted (bare second)
  same-too = shape-untexted (visits second.nodes)

  pub shaped_visits : AreVisits shaped
  shaped_visits = shape-visits first h.is_first h.below

  pub frame : Frame (untexted shaped) (untexted shaped_too)
  frame = subst (λ part. Frame part (untexted shaped_too)) (sym same) (subst (λ part. Frame (untexted (bare first)) part) (sym same-too)
      (both-frame functions None given documents indexes event first second model current h))

  abbrev at_shape : Setting
  at_shape = shape_setting functions given first.nodes model current

  -- over the shape of the other forest, with what surrounds it
  abbrev at_shape_too : Setting
  at_shape_too = shape_setting functions (record given { documents = documents; indexes = indexes; event = event }) second.nodes model current

  abbrev pub comparison : Comparison
  comparison = record {
    setting = at_shape;
    others = shaped_too;
    strings = λ n. string_value n (shape_of second.nodes);
    documents = documents;
    indexes = indexes;
    event = event;
    shape_documents = given.documents;
    shape_indexes = given.indexes;
    shape_event = given.event;
    shape = shaped;
    shape_strings = λ n. string_value n (shape_of first.nodes);
    functions = functions None given.decimals;
    extend = λ code ps p e. e;
    visits = shaped_visits;
    other_visits = shape-visits second h.is_second below_too;
    shape_visits = shaped_visits;
    frame = itself shaped shaped_visits;
    other_frame = frame;
  }

  pub solid : (k : ℕ) → InBoth first second k → Solid comparison k
  solid k x = record { visit = x.visit; in_shape = ap (found k) same ∙ x.in_first; in_first = ap (found k) same ∙ x.in_first; in_second = ap (found k) same-too ∙ x.in_second }

  pub standing : Standing comparison
  standing = record { current = solid current h.current_too; absent = λ id e. (e, h.absent id e); truths = h.truths }

  -- nothing is read: the lists are enough
  premise : (a : Asked) → a.reads ≡ [] → AgreeOnLists a.looks (bare first) (bare second) → AgreeOnDocuments a.looks given documents first second model → Premise comparison a
  premise a quiet l d = record {
    lists = record {
      first = λ n i. refl;
      second = λ n i. ap (filter (λ (y : Visit). is_first n y.above)) same ∙ l n i ∙ sym (ap (filter (λ (y : Visit). is_first n y.above)) same-too);
      same = λ id n e k. let x = d id n e k in record { first = e; second = x.0; solid = solid n x.1 };
    };
    strings = λ n i j. no (ap (has n) (sym quiet) ∙ j);
  }

  pub one-selection : (e : Expr) → (facts_of e).is_exact ≡ true → (quiet_of e).is_quiet ≡ true → (c : Focus) → InBoth first second c.node →
      AgreeOnLists (set_looks_in (trace e) at_shape c) (bare first) (bare second) →
      AgreeOnDocuments (set_looks_in (trace e) at_shape c) given documents first second model →
      meaning e at_shape c ≡ meaning e at_shape_too c
  one-selection e exact quiet c node l d =
      let a : Asked = (trace e).asked at_shape c in
      let parents : HasParents at_shape = λ n k i. parents-stand shaped shaped_visits n k i in
      let stands : AskedStands at_shape a = asked-stands e exact at_shape parents c (shape-stands functions None given documents indexes event first second model current h below_too c node) in
      value-agrees comparison standing e exact c (solid c.node node) (premise a (reads-none e quiet at_shape c)
      (lists-told functions None given documents indexes event first second model current h below_too a.looks stands.looks l)
      (documents-told functions None given documents indexes event first second model current h below_too a.looks d))
