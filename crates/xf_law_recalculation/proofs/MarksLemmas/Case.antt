-- An entry that no mark concerns, over the data of now and those of before: what stands in both, and what is read.
use Rattle.std.proofs.Common.{◌≡◌, ℕ, Bool, true, false, not, List, [], ◌∷◌, map, Some, None, refl, sym, ap, ◌∙◌}
use Rattle.std.specs.List.{list_any}
use Rattle.xf_def_syntax.specs.declared.expr.Expr.{Expr}
use Rattle.xf_def_forest.specs.Forest.{Forest, is_text}
use Rattle.xf_def_forest.specs.Visit.{Visit, visits, has, ancestors_of}
use Rattle.xf_def_forest.specs.Shape.{erased, shape}
use Rattle.xf_def_forest.proofs.RenumberLaws.{map-map}
use Rattle.xf_def_xpath.specs.Given.{Document}
use Rattle.xf_def_xpath.specs.Setting.{Setting}
use Rattle.xf_def_xpath.specs.Asked.{Asked, found}
use Rattle.xf_def_xpath.specs.Reads.{trace}
use Rattle.xf_def_xpath.specs.Agree.{numbers_of, are_apart, untexted, AreVisits, HaveOneFrame}
use Rattle.xf_def_xpath.proofs.VisitFacts.{present, found-in}
use Rattle.xf_def_xpath.proofs.UntextedLaws.{solid-found}
use Rattle.xf_def_xpath.proofs.ForestVisits.{forest-visits, found-erased}
use Rattle.xf_def_xpath.proofs.ShapeVisits.{shape-untexted, shape-visits}
use Rattle.xf_def_xpath.proofs.ReadsAgree.{in-order_has}
use Rattle.xf_def_model.specs.Rules.{Scope}
use Rattle.xf_def_model.specs.Applied.{Entry}
use Rattle.xf_def_model.specs.Entries.{focus_of, reads_by, reads_of, touches}
use Rattle.xf_def_model.specs.Nested.{setting_for}
use Rattle.xf_def_model.specs.Settled.{bounds}
use Rattle.xf_def_model.proofs.ReadSolid.{AreHung as AllHung, converted-solid, trace-solid}
use Rattle.xf_law_recalculation.specs.Agree.Settles.{Surrounds}
use Rattle.xf_law_recalculation.specs.Agree.Kept.{kept}
use Rattle.xf_law_recalculation.specs.Agree.Forests.{bare, InBoth, asked_whole}
use Rattle.xf_law_recalculation.proofs.AgreeLemmas.HeldShape.{shape-hung}
use Rattle.xf_law_recalculation.specs.Marks.Marks.{is_unmarked, SameBut, IsUnmarked, IsOf}
use Rattle.xf_law_recalculation.proofs.MarksLemmas.OneFrame.{one_frame}
use Rattle.xf_law_recalculation.proofs.MarksLemmas.TextLists.{any-of, none-does, above-of}

pub record Case : Type 0 where
  pub most : ℕ
  pub scope : Scope
  pub documents : List Document
  pub first : Forest
  pub second : Forest
  pub texts : List ℕ
  pub lists : List ℕ
  pub entry : Entry
  pub expr : Expr
  pub around : Surrounds scope most first
  pub but : SameBut texts lists scope documents first second
  pub of : IsOf scope entry expr
  pub here : InBoth first second entry.node
  pub unmarked : IsUnmarked texts lists scope first entry

module _ (c : Case) where
  abbrev first : Forest
  first = c.first

  abbrev second : Forest
  second = record c.second { next = c.but.trees.0 }

  abbrev known : ℕ → Bool
  known = is_unmarked c.texts

  abbrev V : List Visit
  V = visits first.nodes

  abbrev W : List Visit
  W = visits second.nodes

  abbrev A : List Visit
  A = bare first

  abbrev B : List Visit
  B = bare second

  abbrev S : List Visit
  S = shape V

  abbrev U : List Visit
  U = map erased S

  abbrev KA : List Visit
  KA = kept known A

  abbrev KB : List Visit
  KB = kept known B

  abbrev at_shape : Setting
  at_shape = setting_for None c.scope S c.entry.node

  abbrev whole : Asked
  whole = asked_whole c.scope first c.entry.node c.expr (focus_of c.entry)

  pub va : AreVisits A
  va = forest-visits first c.around.trees

  pub vb : AreVisits B
  vb = forest-visits second c.but.trees.1

  pub u : AreVisits U
  u = shape-visits first c.around.trees c.around.below

  pub same : untexted U ≡ untexted A
  same = shape-untexted V

  pub frame : HaveOneFrame A B
  frame = one_frame known A B va vb c.but.nodes.stay c.but.nodes.order

  pub apart-first : are_apart (numbers_of V) ≡ true
  apart-first = ap are_apart (sym (map-map (λ (y : Visit). y.number) erased V)) ∙ va.apart

  pub apart-second : are_apart (numbers_of W) ≡ true
  apart-second = ap are_apart (sym (map-map (λ (y : Visit). y.number) erased W)) ∙ vb.apart

  pub in-shape : (p : ℕ) (z : Visit) → found p (untexted A) ≡ Some z → found p U ≡ Some z
  in-shape p z h = (solid-found U u p z (ap (found p) same ∙ h)).0

  pub out-of_shape : (p : ℕ) (z : Visit) → found p U ≡ Some z → is_text z.content ≡ false → found p (untexted A) ≡ Some z
  out-of_shape p z h t = ap (found p) (sym same) ∙ found-in (λ y. not (is_text y.content)) p U z u.apart h (ap not t)

  pub solid-first : (p : ℕ) (z : Visit) → found p A ≡ Some z → is_text z.content ≡ false → found p (untexted A) ≡ Some z
  solid-first p z h t = found-in (λ y. not (is_text y.content)) p A z va.apart h (ap not t)

  -- ---- reads

  pub hung : AllHung U
  hung = shape-hung c.scope (record bounds { string = c.most }) first [] c.around tt

  pub read-solid : (n : ℕ) → has n whole.reads ≡ true → (x : Visit) × (found n (untexted A) ≡ Some x)
  read-solid n h =
      let x = converted-solid at_shape hung ((trace c.expr).asked at_shape (focus_of c.entry)) (trace-solid c.expr at_shape hung (focus_of c.entry)) n h in
      (x.0, ap (found n) (sym same) ∙ x.1)

  pub told : (n : ℕ) → has n whole.reads ≡ true → has n (reads_of c.scope S c.entry) ≡ true
  told n h =
      let x = read-solid n h in
      ap (λ y. has n (reads_by c.scope S c.entry y)) c.of.0
      ∙ in-order_has U u.apart whole.reads n (present n U x.0 (in-shape n x.0 x.1)) h

  pub above-in_shape : (p : ℕ) (z : Visit) → found p (untexted A) ≡ Some z → ancestors_of p S ≡ z.above
  above-in_shape p z h = above-of (found p S) z (sym (found-erased p S) ∙ in-shape p z h)

  -- a node at or below one that is read is not marked
  pub untouched : (n p : ℕ) (z : Visit) → has n whole.reads ≡ true → found p (untexted A) ≡ Some z → has n (p ∷ z.above) ≡ true → has p c.texts ≡ false
  untouched n p z h i j = by (has p c.texts) refl
    where
      touched : touches S (reads_of c.scope S c.entry) p ≡ true
      touched = ap (λ above. list_any (λ m. has m (reads_of c.scope S c.entry)) (p ∷ above)) (above-in_shape p z i) ∙ any-of n (p ∷ z.above) (reads_of c.scope S c.entry) j (told n h)

      by : (b : Bool) → has p c.texts ≡ b → b ≡ false
      by true k = sym touched ∙ none-does (touches S (reads_of c.scope S c.entry)) p c.texts c.unmarked.reads k
      by false k = refl
