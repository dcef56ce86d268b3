-- An expression has one text over a forest and over a part of it that is made of whole trees, as that of the instances: trees that are detached
-- make no difference.
use Rattle.std.proofs.Common.{◌≡◌, ℕ, ◌^◌, true, not, List, [], map, nat_lt, Option, Some, None, refl, sym, ap, ◌∙◌, inl, inr}
use Rattle.std.specs.Prelude.{filter, is_some}
use Rattle.xf_def_syntax.specs.declared.expr.Expr.{Expr}
use Rattle.xf_def_forest.specs.Forest.{Forest, is_text}
use Rattle.xf_def_forest.specs.Visit.{Visit, visits, has}
use Rattle.xf_def_forest.specs.StringValue.{string_value, value_in}
use Rattle.xf_def_forest.specs.Shape.{erased, shape_of, only_text, visits_in, is_gone}
use Rattle.xf_def_forest.specs.WellFormed.{HasTrees}
use Rattle.xf_def_forest.proofs.OrderLaws.{filter-sub, map-sub, sub-different}
use Rattle.xf_def_forest.proofs.RenumberLaws.{map-map}
use Rattle.xf_def_xpath.specs.Given.{Given}
use Rattle.xf_def_values.specs.Functions.{Functions}
use Rattle.xf_def_xpath.specs.Setting.{Setting, Focus, setting_over, ◌>>=◌}
use Rattle.xf_def_xpath.specs.Conversions.{string_of}
use Rattle.xf_def_xpath.specs.Meaning.{meaning}
use Rattle.xf_def_xpath.specs.Asked.{has_list, found, converted}
use Rattle.xf_def_xpath.specs.Reads.{trace, listed, shape_setting}
use Rattle.xf_def_xpath.specs.Agree.{numbers_of, untexted, list_of, AreVisits}
use Rattle.xf_def_xpath.specs.Exact.{facts_of}
use Rattle.xf_def_xpath.proofs.VisitFacts.{no, present, has-found, kept_if, found-in, found-filter}
use Rattle.xf_def_xpath.proofs.SameKept.{kept-found}
use Rattle.xf_def_xpath.proofs.AxisAgree.{has-sub}
use Rattle.xf_def_xpath.proofs.UntextedLaws.{solid-found}
use Rattle.xf_def_xpath.proofs.ForestVisits.{list-solid, forest-visits}
use Rattle.xf_def_xpath.proofs.ShapeVisits.{AreBelow, comes, not-text, shape-waits, shape-untexted, shape-visits}
use Rattle.xf_def_xpath.proofs.ForestsAgree.{bare, InBoth, AreForests}
use Rattle.xf_def_xpath.proofs.ReadsAgree.{one-text_told}
use Rattle.xf_def_xpath.proofs.SetsAsked.{IsIn, IsSurrounded}
use Rattle.xf_def_xpath.proofs.PartLaws.{is_under, solid-in_whole, frame, lists, strings, apart}

there : (n : ℕ) (all : List Visit) → has n (numbers_of all) ≡ true → (z : Visit) × (found n all ≡ Some z)
there n all h = by (found n all) refl (sym (has-found n all) ∙ h)
  where
    by : (m : Option Visit) → found n all ≡ m → is_some m ≡ true → (z : Visit) × (found n all ≡ Some z)
    by None e i = no i
    by (Some z) e i = (z, e)

module _ (tops : List ℕ) (part whole : Forest) (is_part : HasTrees part) (is_whole : HasTrees whole) (same : visits part.nodes ≡ filter (is_under tops) (visits whole.nodes))
    (functions : Functions) (most : Option ℕ) (given : Given) (model current : ℕ) (h : IsSurrounded functions most given part model current)
    (below : AreBelow (numbers_of (visits whole.nodes))) where
  in-both : (k : ℕ) → IsIn part k → InBoth part whole k
  in-both k x = record { visit = x.0; in_first = x.1; in_second = solid-in_whole tops part whole is_part is_whole same k x.0 x.1 }

  are-forests : AreForests functions most given given.documents part whole model current
  are-forests = record {
    is_first = is_part;
    is_second = is_whole;
    below = h.below;
    frame = frame tops part whole is_part is_whole same;
    current_too = in-both current h.current_stands;
    documents_stand = h.documents_stand;
    absent = λ id e. e;
    extend = h.extend;
    truths = h.truths;
  }

  abbrev shaped : List Visit
  shaped = map erased (shape_of part.nodes)

  shaped_visits : AreVisits shaped
  shaped_visits = shape-visits part is_part h.below

  -- the lists told are those of nodes of the part
  lists-told : (looks : List ℕ) (n : ℕ) → has n (listed shaped looks) ≡ true → list_of (bare part) n ≡ list_of (bare whole) n
  lists-told looks n i =
      let y = kept-found (λ y. has y.number looks) n (filter (λ y. has_list y.content) shaped)
      (sub-different (map-sub (λ (y : Visit). y.number) (filter-sub (λ y. has_list y.content) shaped)) shaped_visits.apart) i in
      let z = kept-found (λ y. has_list y.content) n shaped shaped_visits.apart (present n (filter (λ y. has_list y.content) shaped) y.0 y.1) in
      let bare_one : found n (untexted (bare part)) ≡ Some z.0 =
      ap (found n) (sym (shape-untexted (visits part.nodes))) ∙ found-in (λ (y : Visit). not (is_text y.content)) n shaped z.0 shaped_visits.apart z.1 (list-solid z.0.content z.2) in
      lists tops part whole is_part is_whole same n z.0 (solid-found (bare part) (forest-visits part is_part) n z.0 bare_one).0

  -- a node of the shape is one of the part, or no node of the whole
  strings-told : (n : ℕ) → has n (numbers_of shaped) ≡ true → string_value n (visits part.nodes) ≡ string_value n (visits whole.nodes)
  strings-told n i = by (found n (visits whole.nodes)) refl
    where
      kept : List Visit
      kept = filter (λ q. not (is_gone (only_text (visits part.nodes)) q)) (bare part)

      by : (m : Option Visit) → found n (visits whole.nodes) ≡ m → string_value n (visits part.nodes) ≡ string_value n (visits whole.nodes)
      by None k =
          ap (string_value n) same
          ∙ ap (value_in (filter (is_under tops) (visits whole.nodes))) (found-filter (is_under tops) n (visits whole.nodes) (apart tops part whole is_part is_whole same) ∙ ap (kept_if (is_under tops)) k)
          ∙ sym (ap (value_in (visits whole.nodes)) k)
      by (Some z) k =
          let small : nat_lt n (2 ^ 128) ≡ true = below n (present n (visits whole.nodes) z k) in
          elim (comes (visits_in (only_text (visits part.nodes))) (shape-waits (visits part.nodes)) n (2 ^ 128) [] kept tt (ap (has n) (sym (map-map (λ (q : Visit). q.number) erased (shape_of part.nodes))) ∙ i)) [
            | inl a ↦ let x = there n (bare part) (has-sub n (map-sub (λ (q : Visit). q.number) (filter-sub (λ q. not (is_gone (only_text (visits part.nodes)) q)) (bare part))) a) in
                strings tops part whole is_part is_whole same n x.0 x.1
            | inr b ↦ elim b [
              | inl c ↦ no (not-text (visits_in (only_text (visits part.nodes))) (shape-waits (visits part.nodes)) n (2 ^ 128) small c)
              | inr d ↦ no (not-text (visits_in (only_text (visits part.nodes))) (shape-waits (visits part.nodes)) n d.0 small d.1)
            ]
          ]

  abbrev over : Forest → Setting
  over forest = setting_over functions most given (visits forest.nodes) model current

  abbrev at_shape : Setting
  at_shape = shape_setting functions given part.nodes model current

  pub part-text : (e : Expr) → (facts_of e).is_exact ≡ true → (c : Focus) → IsIn part c.node → (meaning e (over part) c >>= string_of (over part)) ≡ (meaning e (over whole) c >>= string_of (over whole))
  part-text e exact c node =
      one-text_told functions most given given.documents given.indexes given.event part whole model current are-forests below e exact c (in-both c.node node)
      (λ n i. lists-told (converted at_shape ((trace e).asked at_shape c)).looks n i)
      (λ id n i w. (i, in-both n (h.documents_stand id n i)))
      (λ n i. let y = kept-found (λ y. has y.number (converted at_shape ((trace e).asked at_shape c)).reads) n shaped shaped_visits.apart i in strings-told n (present n shaped y.0 y.1))
