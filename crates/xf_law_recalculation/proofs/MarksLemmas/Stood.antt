-- What an entry looks at that no mark concerns stood before, and the lists of it are as they were.
use Rattle.std.proofs.Common.{◌≡◌, ℕ, ◌==◌, ◌+◌, Bool, true, false, not, cond, ◌&&◌, ◌||◌, List, [], ◌∷◌, map, Option, Some, None, refl, sym, ap, ◌∙◌, arith, inl, inr}
use Rattle.std.specs.Prelude.{filter}
use Rattle.std.proofs.lemmas.Bool.{cases_Bool}
use Rattle.xf_def_forest.specs.Forest.{Forest, is_text}
use Rattle.xf_def_forest.specs.Visit.{Visit, visits, has, is_first, first_of}
use Rattle.xf_def_forest.specs.Shape.{text_number, erased, shape, only_text, visits_in, is_gone}
use Rattle.xf_def_forest.proofs.OrderLaws.{filter-sub, map-sub, sub-different}
use Rattle.xf_def_forest.proofs.RenumberLaws.{map-map}
use Rattle.xf_def_xpath.specs.Given.{document_of}
use Rattle.xf_def_xpath.specs.Setting.{Setting}
use Rattle.xf_def_xpath.specs.Asked.{Asked, has_list, found, as_list, parent_in, list_around}
use Rattle.xf_def_xpath.specs.Agree.{numbers_of, are_apart, untexted, list_of, AreVisits, HaveOneFrame}
use Rattle.xf_def_xpath.proofs.VisitFacts.{filter-and, filter-same, filter-within, self-same, no, some-same, none-some, found-number, present, found-in, found-out}
use Rattle.xf_def_xpath.proofs.SameKept.{on}
use Rattle.xf_def_xpath.proofs.AxisAgree.{has-sub}
use Rattle.xf_def_xpath.proofs.UntextedLaws.{solid-found}
use Rattle.xf_def_xpath.proofs.ForestVisits.{Each, each-map, self-found, list-solid}
use Rattle.xf_def_xpath.proofs.ShapeVisits.{comes, shape-waits}
use Rattle.xf_def_model.specs.Entries.{focus_of, looks_by, looks_of}
use Rattle.xf_def_model.specs.Nested.{setting_for}
use Rattle.xf_def_model.proofs.ReadSolid.{AreHung as AllHung}
use Rattle.xf_law_recalculation.specs.Agree.Kept.{is_known, keeps, kept}
use Rattle.xf_law_recalculation.specs.Agree.Forests.{bare, InBoth, asked_whole}
use Rattle.xf_law_recalculation.proofs.AgreeLemmas.Parts.{part-apart}
use Rattle.xf_law_recalculation.specs.Marks.Marks.{is_unmarked}
use Rattle.xf_law_recalculation.proofs.MarksLemmas.Reached.{Among, Free, Surrounded}
use Rattle.xf_law_recalculation.proofs.MarksLemmas.Asked.{converted-asked}
use Rattle.xf_law_recalculation.proofs.MarksLemmas.TextLists.{none-does, standing-at, around-first}
use Rattle.xf_law_recalculation.proofs.MarksLemmas.Case.{Case}
use Rattle.xf_law_recalculation.proofs.MarksLemmas.Case as case
use Rattle.xf_law_recalculation.proofs.MarksLemmas.Solids.{Solids, Stood, marked, marked-list, in-both_stood, listed-both, above-listed, closed}

filter-nothing : (p : Visit → Bool) (ys : List Visit) → Each (λ y. p y ≡ true → false ≡ true) ys → filter p ys ≡ []
filter-nothing p [] e = refl
filter-nothing p (y ∷ ys) e = by (p y) refl (filter-nothing p ys e.1)
  where
    by : (b : Bool) → p y ≡ b → filter p ys ≡ [] → cond b (y ∷ filter p ys) (filter p ys) ≡ []
    by true h i = no (e.0 h)
    by false h i = i

not-next : (n : ℕ) → n ≡ text_number (n + 1) → false ≡ true
not-next n h = absurd (omega (arith, h))

or-left_of : (a b : Bool) → a ≡ true → (a || b) ≡ true
or-left_of true b h = refl
or-left_of false b h = no h

-- the list of a node without its texts, from the one with known texts
swap : {X : Type 0} (p q : X → Bool) (xs : List X) → filter p (filter q xs) ≡ filter q (filter p xs)
swap p q xs = sym (filter-and p q xs) ∙ filter-same (λ y. q y && p y) (λ y. p y && q y) (λ y. turn (q y) (p y)) xs ∙ filter-and q p xs
  where
    turn : (a b : Bool) → (a && b) ≡ (b && a)
    turn true true = refl
    turn true false = refl
    turn false true = refl
    turn false false = refl

pub without-texts : (known : ℕ → Bool) (all : List Visit) (n : ℕ) → list_of all n ≡ filter (λ y. not (is_text y.content)) (filter (λ y. is_first n y.above) (kept known all))
without-texts known all n =
    ap (filter (λ y. is_first n y.above)) (sym (filter-within (λ y. not (is_text y.content)) (keeps known) (λ y h. or-left_of (not (is_text y.content)) (is_known known y.above) h) all))
    ∙ swap (λ y. is_first n y.above) (λ y. not (is_text y.content)) (kept known all)

module _ (c : Case) where
  abbrev first : Forest
  first = c.first

  abbrev second : Forest
  second = record c.second { next = c.but.trees.0 }

  abbrev known : ℕ → Bool
  known = is_unmarked c.texts

  abbrev V : List Visit
  V = visits first.nodes

  abbrev W : List Visit
  W = visits second.nodes

  abbrev A : List Visit
  A = bare first

  abbrev B : List Visit
  B = bare second

  abbrev S : List Visit
  S = shape V

  abbrev U : List Visit
  U = map erased S

  abbrev KA : List Visit
  KA = kept known A

  abbrev KB : List Visit
  KB = kept known B

  abbrev at_shape : Setting
  at_shape = setting_for None c.scope S c.entry.node

  abbrev whole : Asked
  whole = asked_whole c.scope first c.entry.node c.expr (focus_of c.entry)

  abbrev solid_frame : HaveOneFrame A B
  solid_frame = case.frame c

  abbrev va : AreVisits A
  va = case.va c

  abbrev vb : AreVisits B
  vb = case.vb c

  abbrev u : AreVisits U
  u = case.u c

  abbrev same : untexted U ≡ untexted A
  same = case.same c

  abbrev in-shape : (p : ℕ) (z : Visit) → found p (untexted A) ≡ Some z → found p U ≡ Some z
  in-shape = case.in-shape c

  abbrev out-of_shape : (p : ℕ) (z : Visit) → found p U ≡ Some z → is_text z.content ≡ false → found p (untexted A) ≡ Some z
  out-of_shape = case.out-of_shape c

  abbrev hung : AllHung U
  hung = case.hung c

  abbrev pub solids : Solids
  solids = record {
    first = first;
    second = second;
    lists = c.lists;
    first_visits = va;
    second_visits = vb;
    shape_visits = u;
    hung = hung;
    frame = solid_frame;
    listed = λ n i free. without-texts known A n ∙ ap (filter (λ (y : Visit). not (is_text y.content))) (c.but.nodes.listed n i free) ∙ sym (without-texts known B n);
  }

  pub document-same : (id : List ℕ) (n : ℕ) → document_of c.scope.model id c.scope.given.documents ≡ Some n → Free (marked solids) (list_around U n) →
      (document_of c.scope.model id c.documents ≡ Some n) × InBoth first second n
  document-same id n i h = c.but.same id n i free
    where
      x : (z : Visit) × (found n (untexted A) ≡ Some z)
      x = c.around.documents id n i

      free : (m : ℕ) → has m (list_around A n) ≡ true → has m c.lists ≡ false
      free m j =
          let shaped = in-shape n x.0 x.1 in
          let bared = (solid-found A va n x.0 x.1).0 in
          let first_above : has m (as_list (first_of x.0.above)) ≡ true = sym (ap (λ o. has m (parent_in o)) bared) ∙ j in
          let z = above-listed solids U u n m x.0 shaped (around-first m x.0.above first_above) in
          marked-list solids m z.0 (solid-found U u m z.0 z.1).0 z.2 (h m (ap (λ o. has m (parent_in o)) shaped ∙ first_above))

  pub surrounded : Surrounded (Stood solids) (marked solids) at_shape (focus_of c.entry)
  surrounded = record { node = in-both_stood solids c.entry.node c.here; current = in-both_stood solids c.entry.node c.here; documents = λ id n i f. in-both_stood solids n (document-same id n i f).1 }

  pub part : are_apart (numbers_of (filter (λ y. has_list y.content) U)) ≡ true
  part = sub-different (map-sub (λ (y : Visit). y.number) (filter-sub (λ y. has_list y.content) U)) u.apart

  pub unmarked-look : (n : ℕ) (x : Visit) → has n whole.looks ≡ true → found n U ≡ Some x → has_list x.content ≡ true → has n c.lists ≡ false
  unmarked-look n x h i l = none-does (λ m. has m c.lists) n (looks_of c.scope S c.entry) c.unmarked.looks
      (ap (λ y. has n (looks_by c.scope S c.entry y)) c.of.0
      ∙ present n (filter (λ y. has y.number whole.looks) (filter (λ y. has_list y.content) U)) x
      (found-in (λ y. has y.number whole.looks) n (filter (λ y. has_list y.content) U) x part (found-in (λ y. has_list y.content) n U x u.apart i l) (ap (λ m. has m whole.looks) (found-number n U x i) ∙ h)))

  pub free-looks : Free (marked solids) whole.looks
  free-looks n h = by (found n U) refl
    where
      nowhere : (b : Bool) → (b && false) ≡ false
      nowhere true = refl
      nowhere false = refl

      of_list : (x : Visit) → found n U ≡ Some x → (l : Bool) → has_list x.content ≡ l → (has n c.lists && l) ≡ false
      of_list x i true l = ap (λ b. b && true) (unmarked-look n x h i l)
      of_list x i false l = nowhere (has n c.lists)

      by : (m : Option Visit) → found n U ≡ m → (has n c.lists && on (λ (y : Visit). has_list y.content) m) ≡ false
      by None i = nowhere (has n c.lists)
      by (Some x) i = of_list x i (has_list x.content) refl

  pub stood-looks : Among (Stood solids) whole.looks
  stood-looks = (converted-asked (Stood solids) (marked solids) c.expr c.of.1 at_shape (closed solids) (focus_of c.entry) surrounded).looks free-looks

  -- ---- the lists that are looked at are the same

  -- a text of the shape is no other node of the second forest
  pub text-stays : (n : ℕ) (x : Visit) → found n U ≡ Some x → has_list x.content ≡ false → (z : Visit) → found n (untexted B) ≡ Some z → has_list z.content ≡ true → false ≡ true
  text-stays n x i k z j l = by (found n A) refl
    where
      z-there : found n B ≡ Some z
      z-there = (solid-found B vb n z j).0

      by : (m : Option Visit) → found n A ≡ m → false ≡ true
      by (Some y) g = by_list (has_list y.content) refl
        where
          by_list : (b : Bool) → has_list y.content ≡ b → false ≡ true
          by_list false a = sym a ∙ ap has_list (solid_frame.contents n y z g z-there) ∙ l
          by_list true a =
              let solid : found n (untexted A) ≡ Some y = found-in (λ (q : Visit). not (is_text q.content)) n A y va.apart g (list-solid y.content a) in
              sym k ∙ ap (λ (q : Visit). has_list q.content) (some-same (sym i ∙ in-shape n y solid)) ∙ a
      by None g = elim (comes (visits_in (only_text V)) (shape-waits V) n (n + 1) [] rest tt (ap (has n) (sym (map-map (λ (q : Visit). q.number) erased S)) ∙ present n U x i)) [
        | inl a ↦ none-some (sym g ∙ (standing-at n A (in-first a)).1)
        | inr b ↦ elim b [
          | inl c ↦ not-next n c
          | inr d ↦ sym (c.but.numbers n d.0 (ap (has n) (sym (map-map (λ (q : Visit). q.number) erased W)) ∙ present n B z z-there)
              (ap (has d.0) (sym (map-map (λ (q : Visit). q.number) erased V)) ∙ has-sub d.0 (map-sub (λ (q : Visit). q.number) (filter-sub (λ q. not (is_gone (only_text V) q)) A)) d.2))
              ∙ ap (λ m. n == m) (sym d.1) ∙ self-same n
        ]
      ]
        where
          rest : List Visit
          rest = filter (λ q. not (is_gone (only_text V) q)) A

          in-first : has n (numbers_of rest) ≡ true → has n (numbers_of A) ≡ true
          in-first a = has-sub n (map-sub (λ (q : Visit). q.number) (filter-sub (λ q. not (is_gone (only_text V) q)) A)) a

  pub nothing : (all : List Visit) → AreVisits all → (n : ℕ) → ((z : Visit) → found n (untexted all) ≡ Some z → has_list z.content ≡ true → false ≡ true) → filter (λ y. is_first n y.above) (kept known all) ≡ []
  nothing all v n off =
      filter-nothing (λ y. is_first n y.above) (kept known all) (each-map (λ y. found y.number (kept known all) ≡ Some y) (λ y. is_first n y.above ≡ true → false ≡ true) (kept known all)
      (λ y i h. let z = above-listed solids all v y.number n y (found-out (keeps known) y.number all y v.apart i).0 h in off z.0 z.1 z.2) (self-found (kept known all) (part-apart (keeps known) all v.apart)))

  pub same-lists : (n : ℕ) → has n whole.looks ≡ true → filter (λ y. is_first n y.above) KA ≡ filter (λ y. is_first n y.above) KB
  same-lists n h =
      let x = stood-looks n h in
      elim (cases_Bool (has_list x.0.content)) [
        | inl a ↦ c.but.nodes.listed n (listed-both solids n x.0 x.1 a x) (unmarked-look n x.0 h x.1 a)
        | inr b ↦
            nothing A va n (λ z i l. sym b ∙ ap (λ (q : Visit). has_list q.content) (some-same (sym x.1 ∙ in-shape n z i)) ∙ l)
            ∙ sym (nothing B vb n (λ z i l. text-stays n x.0 x.1 b z i l))
      ]
