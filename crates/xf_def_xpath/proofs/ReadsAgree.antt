-- The law of two forests by the lists that are told: an expression has one text over two forests in which the nodes that it reads have the
-- same string values and the lists that it looks at are the same.
use Rattle.std.proofs.Common.{◌≡◌, ℕ, ◌==◌, ◌^◌, Bool, true, false, not, cond, List, [], ◌∷◌, map, nat_lt, Option, Some, None, option_map, refl, sym, ap, ◌∙◌, inl, inr}
use Rattle.std.specs.Prelude.{filter, is_some}
use Rattle.std.proofs.lemmas.Bool.{cases_Bool, eqb-true}
use Rattle.xf_def_syntax.specs.declared.expr.Expr.{Expr}
use Rattle.xf_def_forest.specs.Forest.{Forest, is_text}
use Rattle.xf_def_forest.specs.Visit.{Visit, visits, has, is_first, first_of}
use Rattle.xf_def_forest.specs.StringValue.{string_value}
use Rattle.xf_def_forest.specs.Shape.{erased, shape_of, only_text, visits_in, is_gone}
use Rattle.xf_def_forest.proofs.OrderLaws.{filter-sub, map-sub, sub-different}
use Rattle.xf_def_forest.proofs.RenumberLaws.{map-map}
use Rattle.xf_def_xpath.specs.declared.value.Value.{Value}
use Rattle.xf_def_xpath.specs.Given.{Document, Given, document_of}
use Rattle.xf_def_xpath.specs.Conversions.{nodes_of}
use Rattle.xf_def_xpath.specs.Functions.{set_of}
use Rattle.xf_def_values.specs.Functions.{Functions}
use Rattle.xf_def_xpath.specs.Setting.{Setting, Focus, setting_over, in_order, ◌>>=◌}
use Rattle.xf_def_xpath.specs.Conversions.{string_of}
use Rattle.xf_def_xpath.specs.Meaning.{meaning}
use Rattle.xf_def_xpath.specs.Asked.{Asked, has_list, found, as_list, parent_in, list_around, converted}
use Rattle.xf_def_xpath.specs.Reads.{trace, listed, reads_in, looks_in, set_looks_in, shape_setting}
use Rattle.xf_def_xpath.specs.Agree.{numbers_of, are_apart, untexted, list_of, AreVisits, AgreeOnLists, AgreeOnStrings}
use Rattle.xf_def_xpath.specs.Exact.{facts_of}
use Rattle.xf_def_xpath.specs.Quiet.{quiet_of}
use Rattle.xf_def_xpath.proofs.VisitFacts.{no, some-same, none-some, or-cases, found-number, has-found, present, found-in}
use Rattle.xf_def_xpath.proofs.AxisAgree.{has-sub}
use Rattle.xf_def_xpath.proofs.UntextedLaws.{bare-apart, solid-found}
use Rattle.xf_def_xpath.proofs.LooksStand.{Stands, HasParents, AskedStands, converted-stands, asked-stands}
use Rattle.xf_def_xpath.proofs.ForestVisits.{Each, self-found, list-solid, forest-visits}
use Rattle.xf_def_xpath.proofs.ShapeVisits.{AreBelow, comes, not-text, shape-waits, shape-untexted, shape-visits}
use Rattle.xf_def_xpath.proofs.ForestsAgree.{bare, InBoth, AreForests, AgreeOnDocuments, top-stands, one-value, one-text}
use Rattle.xf_def_xpath.proofs.QuietLaws.{reads-none}

opened : (m : Option Visit) (ns : List ℕ) → option_map (λ (z : Visit). z.above) m ≡ Some ns → (z : Visit) × (m ≡ Some z)
opened None ns h = none-some h
opened (Some z) ns h = (z, refl)

there : (m : Option Visit) → is_some m ≡ true → (z : Visit) × (m ≡ Some z)
there None h = no h
there (Some z) h = (z, refl)

standing-at : (k : ℕ) (all : List Visit) → has k (numbers_of all) ≡ true → (z : Visit) × (found k all ≡ Some z)
standing-at k all h = there (found k all) (sym (has-found k all) ∙ h)

pub in-order_has : (all : List Visit) → are_apart (numbers_of all) ≡ true → (ns : List ℕ) (k : ℕ) → has k (numbers_of all) ≡ true → has k ns ≡ true → has k (in_order all ns) ≡ true
in-order_has all apart ns k h i =
    let z = standing-at k all h in
    present k (filter (λ x. has x.number ns) all) z.0 (found-in (λ x. has x.number ns) k all z.0 apart z.1 (ap (λ m. has m ns) (found-number k all z.0 z.1) ∙ i))

-- ---- what holds of the visits of a forest

module _ (all : List Visit) (v : AreVisits all) where
  parent-there : (k n : ℕ) (ns : List ℕ) (x : Visit) → found k all ≡ Some x → x.above ≡ n ∷ ns → (z : Visit) × (found n (untexted all) ≡ Some z) × (has_list z.content ≡ true)
  parent-there k n ns x e i =
      let z = opened (found n (untexted all)) ns (v.closed k n ns x e i) in
      (z.0, z.1, v.parents k n ns x z.0 e i (solid-found all v n z.0 z.1).0)

  -- the node around whose list another stands
  parent-of : (n m : ℕ) → has m (list_around all n) ≡ true → (z : Visit) × (found m all ≡ Some z) × (has_list z.content ≡ true)
  parent-of n m h = by (found n all) refl h
    where
      by : (o : Option Visit) → found n all ≡ o → has m (parent_in o) ≡ true → (z : Visit) × (found m all ≡ Some z) × (has_list z.content ≡ true)
      by None e i = no i
      by (Some x) e i = of x.above refl i
        where
          of : (ns : List ℕ) → x.above ≡ ns → has m (as_list (first_of ns)) ≡ true → (z : Visit) × (found m all ≡ Some z) × (has_list z.content ≡ true)
          of [] j l = no l
          of (p ∷ ps) j l = elim (or-cases (m == p) false l)
              [ inl a ↦ let z = parent-there n p ps x e j in (z.0, ap (λ q. found q all) (eqb-true m p a) ∙ (solid-found all v p z.0 z.1).0, z.2) | inr b ↦ no b ]

  pub parents-stand : (n : ℕ) (k : ℕ) → has k (list_around all n) ≡ true → has k (numbers_of all) ≡ true
  parents-stand n k h = by (found n all) refl h
    where
      by : (m : Option Visit) → found n all ≡ m → has k (parent_in m) ≡ true → has k (numbers_of all) ≡ true
      by None e i = no i
      by (Some x) e i = of x.above refl i
        where
          of : (ns : List ℕ) → x.above ≡ ns → has k (as_list (first_of ns)) ≡ true → has k (numbers_of all) ≡ true
          of [] j l = no l
          of (p ∷ ps) j l = elim (or-cases (k == p) false l)
              [ inl a ↦ let z = parent-there n p ps x e j in ap (λ m. has m (numbers_of all)) (eqb-true k p a) ∙ present p all z.0 (solid-found all v p z.0 z.1).0 | inr b ↦ no b ]

  -- nothing stands below a node that has no list
  childless : (n : ℕ) → ((z : Visit) → found n (untexted all) ≡ Some z → has_list z.content ≡ true → false ≡ true) → list_of all n ≡ []
  childless n h = none (untexted all) (self-found (untexted all) (bare-apart all v)) (λ k y e. e)
    where
      off : (y : Visit) → found y.number (untexted all) ≡ Some y → is_first n y.above ≡ true → false ≡ true
      off y e i = by y.above refl i
        where
          by : (ns : List ℕ) → y.above ≡ ns → is_first n ns ≡ true → false ≡ true
          by [] j l = l
          by (p ∷ ps) j l =
              let z = parent-there y.number p ps y (solid-found all v y.number y e).0 j in
              h z.0 (ap (λ m. found m (untexted all)) (eqb-true n p l) ∙ z.1) z.2

      none : (ys : List Visit) → Each (λ y. found y.number (untexted all) ≡ Some y) ys → ((k : ℕ) (y : Visit) → found k (untexted all) ≡ Some y → found k (untexted all) ≡ Some y) → filter (λ y. is_first n y.above) ys ≡ []
      none [] e i = refl
      none (y ∷ ys) e i = by (is_first n y.above) refl (none ys e.1 i)
        where
          by : (b : Bool) → is_first n y.above ≡ b → filter (λ q. is_first n q.above) ys ≡ [] → cond b (y ∷ filter (λ q. is_first n q.above) ys) (filter (λ q. is_first n q.above) ys) ≡ []
          by true j l = no (off y e.0 j)
          by false j l = l

module _ (functions : Functions) (most : Option ℕ) (given : Given) (documents : List Document) (indexes : List (List ℕ × ℕ)) (event : Option (List (List ℕ × Value)))
    (first second : Forest) (model current : ℕ) (h : AreForests functions most given documents first second model current)
    (below_too : AreBelow (numbers_of (visits second.nodes))) where
  abbrev shaped : List Visit
  shaped = map erased (shape_of first.nodes)

  shaped_visits : AreVisits shaped
  shaped_visits = shape-visits first h.is_first h.below

  -- a text of the shape is no other node of the second forest
  text-stays : (n : ℕ) (x : Visit) → found n shaped ≡ Some x → has_list x.content ≡ false → (z : Visit) → found n (untexted (bare second)) ≡ Some z → has_list z.content ≡ true → false ≡ true
  text-stays n x e i z j l = by (found n (bare first)) refl
    where
      z-there : found n (bare second) ≡ Some z
      z-there = (solid-found (bare second) (forest-visits second h.is_second) n z j).0

      numbers-second : numbers_of (bare second) ≡ numbers_of (visits second.nodes)
      numbers-second = map-map (λ (q : Visit). q.number) erased (visits second.nodes)

      small : nat_lt n (2 ^ 128) ≡ true
      small = below_too n (ap (has n) (sym numbers-second) ∙ present n (bare second) z z-there)

      by : (m : Option Visit) → found n (bare first) ≡ m → false ≡ true
      by (Some y) k = of (has_list y.content) refl
        where
          same : y.content ≡ z.content
          same = h.frame.contents n y z k z-there

          of : (b : Bool) → has_list y.content ≡ b → false ≡ true
          of false a = sym a ∙ ap has_list same ∙ l
          of true a =
              let solid_too : found n (untexted (bare first)) ≡ Some y = found-in (λ (q : Visit). not (is_text q.content)) n (bare first) y (forest-visits first h.is_first).apart k (list-solid y.content a) in
              let in_shape : found n shaped ≡ Some y = (solid-found shaped shaped_visits n y (ap (found n) (shape-untexted (visits first.nodes)) ∙ solid_too)).0 in
              sym i ∙ ap (λ (q : Visit). has_list q.content) (some-same (sym e ∙ in_shape)) ∙ a
      by None k = elim (comes (visits_in (only_text (visits first.nodes))) (shape-waits (visits first.nodes)) n (2 ^ 128) [] kept tt (ap (has n) (sym (map-map (λ (q : Visit). q.number) erased (shape_of first.nodes))) ∙ present n shaped x e)) [
        | inl a ↦ none-some (sym k ∙ (standing-at n (bare first) (has-sub n (map-sub (λ (q : Visit). q.number) (filter-sub (λ q. not (is_gone (only_text (visits first.nodes)) q)) (bare first))) a)).1)
        | inr b ↦ elim b [
          | inl c ↦ not-text (visits_in (only_text (visits first.nodes))) (shape-waits (visits first.nodes)) n (2 ^ 128) small c
          | inr d ↦ not-text (visits_in (only_text (visits first.nodes))) (shape-waits (visits first.nodes)) n d.0 small d.1
        ]
      ]
        where
          kept : List Visit
          kept = filter (λ q. not (is_gone (only_text (visits first.nodes)) q)) (bare first)

  -- where the lists told are the same, all that are asked are
  pub lists-told : (looks : List ℕ) → ((k : ℕ) → has k looks ≡ true → has k (numbers_of shaped) ≡ true) → AgreeOnLists (listed shaped looks) (bare first) (bare second) → AgreeOnLists looks (bare first) (bare second)
  lists-told looks stand told n i =
      let x = standing-at n shaped (stand n i) in
      elim (cases_Bool (has_list x.0.content)) [
        | inl a ↦ told n (present n (filter (λ y. has y.number looks) (filter (λ y. has_list y.content) shaped)) x.0
            (found-in (λ y. has y.number looks) n (filter (λ y. has_list y.content) shaped) x.0 part (found-in (λ y. has_list y.content) n shaped x.0 shaped_visits.apart x.1 a) (ap (λ m. has m looks) (found-number n shaped x.0 x.1) ∙ i)))
        | inr b ↦
            childless (bare first) (forest-visits first h.is_first) n (λ z j l.
            let in_shape : found n shaped ≡ Some z = (solid-found shaped shaped_visits n z (ap (found n) (shape-untexted (visits first.nodes)) ∙ j)).0 in
            sym b ∙ ap (λ (q : Visit). has_list q.content) (some-same (sym x.1 ∙ in_shape)) ∙ l)
            ∙ sym (childless (bare second) (forest-visits second h.is_second) n (text-stays n x.0 x.1 b))
      ]
    where
      part : are_apart (numbers_of (filter (λ y. has_list y.content) shaped)) ≡ true
      part = sub-different (map-sub (λ (y : Visit). y.number) (filter-sub (λ y. has_list y.content) shaped)) shaped_visits.apart

  -- where the nodes told have the same strings, all that are asked have
  strings-told : (reads : List ℕ) (a b : ℕ → List ℕ) → ((n : ℕ) → has n (in_order shaped reads) ≡ true → a n ≡ b n) → AgreeOnStrings reads shaped a b
  strings-told reads a b told n i k = told n (in-order_has shaped shaped_visits.apart reads n i k)

  -- the list around a node is told where it is asked
  pub documents-told : (looks : List ℕ) → AgreeOnDocuments (listed shaped looks) given documents first second model → AgreeOnDocuments looks given documents first second model
  documents-told looks told id n e w = told id n e (λ m i. around m i (w m i))
    where
      part : are_apart (numbers_of (filter (λ y. has_list y.content) shaped)) ≡ true
      part = sub-different (map-sub (λ (y : Visit). y.number) (filter-sub (λ y. has_list y.content) shaped)) shaped_visits.apart

      around : (m : ℕ) → has m (list_around shaped n) ≡ true → has m looks ≡ true → has m (listed shaped looks) ≡ true
      around m i j = let z = parent-of shaped shaped_visits n m i in
          present m (filter (λ y. has y.number looks) (filter (λ y. has_list y.content) shaped)) z.0
          (found-in (λ y. has y.number looks) m (filter (λ y. has_list y.content) shaped) z.0 part (found-in (λ y. has_list y.content) m shaped z.0 shaped_visits.apart z.1 z.2) (ap (λ q. has q looks) (found-number m shaped z.0 z.1) ∙ j))

  abbrev over : Setting
  over = setting_over functions most given (visits first.nodes) model current

  abbrev over_other : Setting
  over_other = setting_over functions most (record given { documents = documents; indexes = indexes; event = event }) (visits second.nodes) model current

  abbrev at_shape : Setting
  at_shape = shape_setting functions given first.nodes model current

  in-shape : (k : ℕ) (x : Visit) → found k (untexted (bare first)) ≡ Some x → has k (numbers_of shaped) ≡ true
  in-shape k x e = present k shaped x (solid-found shaped shaped_visits k x (ap (found k) (shape-untexted (visits first.nodes)) ∙ e)).0

  of_document : (id : List ℕ) (k : ℕ) (m : Option ℕ) → document_of model id given.documents ≡ m → has k (nodes_of (set_of m)) ≡ true → has k (numbers_of shaped) ≡ true
  of_document id k None e i = no i
  of_document id k (Some n) e i = elim (or-cases (k == n) false i)
      [ inl a ↦ let x = h.documents_stand id n e in ap (λ m. has m (numbers_of shaped)) (eqb-true k n a) ∙ in-shape n x.0 x.1 | inr b ↦ no b ]

  pub shape-stands : (c : Focus) → InBoth first second c.node → Stands at_shape c
  shape-stands c node =
      let in_shape : (k : ℕ) → InBoth first second k → has k (numbers_of shaped) ≡ true = λ k x. in-shape k x.visit x.in_first in
      record {
        node = in_shape c.node node;
        top = top-stands functions most given documents indexes event first second model current h c.node node;
        current = in_shape current h.current_too;
        documents = λ id k i. of_document id k (document_of model id given.documents) refl i;
      }

  pub one-text_told : (e : Expr) → (facts_of e).is_exact ≡ true → (c : Focus) → InBoth first second c.node →
      AgreeOnLists (looks_in (trace e) at_shape c) (bare first) (bare second) →
      AgreeOnDocuments (looks_in (trace e) at_shape c) given documents first second model →
      ((n : ℕ) → has n (reads_in (trace e) at_shape c) ≡ true → string_value n (visits first.nodes) ≡ string_value n (visits second.nodes)) →
      (meaning e over c >>= string_of over) ≡ (meaning e over_other c >>= string_of over_other)
  one-text_told e exact c node l d r =
      let a : Asked = (trace e).asked at_shape c in
      let all : Asked = converted at_shape a in
      let parents : HasParents at_shape = λ n k i. parents-stand shaped shaped_visits n k i in
      let stands : AskedStands at_shape all = converted-stands at_shape parents a (asked-stands e exact at_shape parents c (shape-stands c node)) in
      one-text functions most given documents indexes event first second model current h e exact c node (lists-told all.looks stands.looks l) (documents-told all.looks d) (strings-told all.reads _ _ r)

  -- a set of nodes as that of a bind: what reads nothing depends on the lists alone
  pub one-set_told : (e : Expr) → (facts_of e).is_exact ≡ true → (quiet_of e).is_quiet ≡ true → (c : Focus) → InBoth first second c.node →
      AgreeOnLists (set_looks_in (trace e) at_shape c) (bare first) (bare second) →
      AgreeOnDocuments (set_looks_in (trace e) at_shape c) given documents first second model →
      meaning e over c ≡ meaning e over_other c
  one-set_told e exact quiet c node l d =
      let a : Asked = (trace e).asked at_shape c in
      let parents : HasParents at_shape = λ n k i. parents-stand shaped shaped_visits n k i in
      let stands : AskedStands at_shape a = asked-stands e exact at_shape parents c (shape-stands c node) in
      one-value functions most given documents indexes event first second model current h e exact c node (lists-told a.looks stands.looks l) (documents-told a.looks d)
      (λ n i j. no (ap (has n) (sym (reads-none e quiet at_shape c)) ∙ j))
