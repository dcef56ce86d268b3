-- From marks to agreement: where no mark concerns what an entry reads and looks at, the two forests agree on it.
use Rattle.std.proofs.Common.{◌≡◌, ℕ, ◌==◌, Bool, true, false, not, ◌&&◌, List, [], ◌∷◌, ◌++◌, map, Some, None, option_map, refl, sym, ap, ◌∙◌, inl, inr}
use Rattle.std.specs.Prelude.{filter}
use Rattle.std.specs.List.{flat_map}
use Rattle.std.proofs.lemmas.Bool.{eqb-true}
use Rattle.xf_def_forest.specs.Forest.{Forest, is_text, is_element, own_text}
use Rattle.xf_def_forest.specs.Visit.{Visit, visits, has, is_first}
use Rattle.xf_def_forest.specs.StringValue.{string_value, value_in, text_below}
use Rattle.xf_def_forest.specs.Shape.{erased, has_elements, shape}
use Rattle.xf_def_forest.proofs.BackLaws.{and-true}
use Rattle.xf_def_xpath.specs.Given.{document_of}
use Rattle.xf_def_xpath.specs.Setting.{Setting, ◌>>=◌}
use Rattle.xf_def_xpath.specs.Conversions.{string_of}
use Rattle.xf_def_xpath.specs.Asked.{Asked, found, list_around, lists_below}
use Rattle.xf_def_xpath.specs.Agree.{numbers_of, are_apart, untexted, AreVisits, HaveOneFrame}
use Rattle.xf_def_xpath.proofs.VisitFacts.{self-same, or-cases, or-left, or-right, no, found-number, present, found-in, found-out}
use Rattle.xf_def_xpath.proofs.SameKept.{region, kept-found, has-left}
use Rattle.xf_def_xpath.proofs.AxisAgree.{Frame, flipped, child-there}
use Rattle.xf_def_xpath.proofs.UntextedLaws.{solid-found}
use Rattle.xf_def_xpath.proofs.ForestVisits.{each-map, self-found}
use Rattle.xf_def_xpath.proofs.TraceKeeps.{meaning-of_trace}
use Rattle.xf_def_model.specs.Entries.{focus_of, value_by}
use Rattle.xf_def_model.specs.Nested.{setting_for}
use Rattle.xf_def_model.proofs.EachLemmas.{each_one}
use Rattle.xf_law_recalculation.specs.Agree.Kept.{is_known, keeps, kept}
use Rattle.xf_law_recalculation.specs.Agree.Forests.{bare, InBoth, AgreeOn, asked_alone, asked_whole, over_second}
use Rattle.xf_law_recalculation.proofs.AgreeLemmas.Parts.{part-apart}
use Rattle.xf_law_recalculation.proofs.AgreeLemmas.ForestsMeet.{two_forests, two_forests_value}
use Rattle.xf_law_recalculation.specs.Marks.Marks.{is_unmarked, texts_in, EntryKeepsValue, EntryKeepsText}
use Rattle.xf_law_recalculation.proofs.MarksLemmas.TextLists.{opened, text-kept, original, each-erased, filled-first, first-itself, flat-same, within-each, is_under, characters_of, all-below, text-value}
use Rattle.xf_law_recalculation.proofs.MarksLemmas.Case.{Case}
use Rattle.xf_law_recalculation.proofs.MarksLemmas.Case as case
use Rattle.xf_law_recalculation.proofs.MarksLemmas.Solids.{above-listed, listed-both}
use Rattle.xf_law_recalculation.proofs.MarksLemmas.Stood.{solids, document-same, unmarked-look, free-looks, stood-looks, same-lists}

module _ (c : Case) where
  abbrev first : Forest
  first = c.first

  abbrev second : Forest
  second = record c.second { next = c.but.trees.0 }

  abbrev known : ℕ → Bool
  known = is_unmarked c.texts

  abbrev V : List Visit
  V = visits first.nodes

  abbrev W : List Visit
  W = visits second.nodes

  abbrev A : List Visit
  A = bare first

  abbrev B : List Visit
  B = bare second

  abbrev S : List Visit
  S = shape V

  abbrev U : List Visit
  U = map erased S

  abbrev KA : List Visit
  KA = kept known A

  abbrev KB : List Visit
  KB = kept known B

  abbrev at_shape : Setting
  at_shape = setting_for None c.scope S c.entry.node

  abbrev whole : Asked
  whole = asked_whole c.scope first c.entry.node c.expr (focus_of c.entry)

  abbrev solid_frame : HaveOneFrame A B
  solid_frame = case.frame c

  abbrev va : AreVisits A
  va = case.va c

  abbrev vb : AreVisits B
  vb = case.vb c

  abbrev u : AreVisits U
  u = case.u c

  abbrev same : untexted U ≡ untexted A
  same = case.same c

  abbrev apart-first : are_apart (numbers_of V) ≡ true
  apart-first = case.apart-first c

  abbrev apart-second : are_apart (numbers_of W) ≡ true
  apart-second = case.apart-second c

  abbrev in-shape : (p : ℕ) (z : Visit) → found p (untexted A) ≡ Some z → found p U ≡ Some z
  in-shape = case.in-shape c

  abbrev out-of_shape : (p : ℕ) (z : Visit) → found p U ≡ Some z → is_text z.content ≡ false → found p (untexted A) ≡ Some z
  out-of_shape = case.out-of_shape c

  abbrev solid-first : (p : ℕ) (z : Visit) → found p A ≡ Some z → is_text z.content ≡ false → found p (untexted A) ≡ Some z
  solid-first = case.solid-first c

  abbrev read-solid : (n : ℕ) → has n whole.reads ≡ true → (x : Visit) × (found n (untexted A) ≡ Some x)
  read-solid = case.read-solid c

  abbrev untouched : (n p : ℕ) (z : Visit) → has n whole.reads ≡ true → found p (untexted A) ≡ Some z → has n (p ∷ z.above) ≡ true → has p c.texts ≡ false
  untouched = case.untouched c

  -- ---- the frame of the texts that are known

  closed-kept : (all : List Visit) → AreVisits all → (k n : ℕ) (ns : List ℕ) (x : Visit) → found k (kept known all) ≡ Some x → x.above ≡ n ∷ ns → option_map (λ (z : Visit). z.above) (found n (kept known all)) ≡ Some ns
  closed-kept all v k n ns x h i =
      let z = opened (found n (untexted all)) ns (v.closed k n ns x (found-out (keeps known) k all x v.apart h).0 i) in
      let out = solid-found all v n z.0 z.1 in
      ap (option_map (λ (q : Visit). q.above)) (found-in (keeps known) n all z.0 v.apart out.0 (or-left (not (is_text z.0.content)) (is_known known z.0.above) out.1)) ∙ ap Some z.2

  frame : Frame KA KB
  frame = record {
    apart = part-apart (keeps known) A va.apart;
    apart_too = part-apart (keeps known) B vb.apart;
    closed = closed-kept A va;
    closed_too = closed-kept B vb;
    order = c.but.nodes.order;
    contents = λ n x y h k. solid_frame.contents n x y (found-out (keeps known) n A x va.apart h).0 (found-out (keeps known) n B y vb.apart k).0;
  }

  -- ---- texts

  -- the texts in a node that is not marked stand in both with their characters
  held-text : (k q : ℕ) (x : Visit) (qs : List ℕ) → found k A ≡ Some x → found k B ≡ Some x → is_text x.content ≡ true → x.above ≡ q ∷ qs → has q c.texts ≡ false → found k V ≡ found k W
  held-text k q x qs i j t a free =
      let z = opened (found q (untexted A)) qs (va.closed k q qs x i a) in
      let w = opened (found q (untexted B)) qs (vb.closed k q qs x j a) in
      let z_at = (solid-found A va q z.0 z.1).0 in
      let w_at = (solid-found B vb q w.0 w.1).0 in
      let one : z.0 ≡ w.0 = c.but.nodes.stay q z.0 w.0 z_at w_at in
      let listed = c.but.nodes.held q (z.0, z.1, w.1 ∙ ap Some (sym one)) free in
      let v = original k V x i in
      let is_in : (is_text v.0.content && is_first q v.0.above) ≡ true =
      ap (λ b. b && is_first q v.0.above) (sym (text-kept v.0.content) ∙ ap (λ (y : Visit). is_text y.content) v.2 ∙ t) ∙ ap (λ (y : Visit). is_first q y.above) v.2 ∙ first-itself q qs x.above a in
      let in_first : found k (texts_in V q) ≡ Some v.0 = found-in (λ y. is_text y.content && is_first q y.above) k V v.0 apart-first v.1 is_in in
      v.1 ∙ sym (found-out (λ y. is_text y.content && is_first q y.above) k W v.0 apart-second (sym (ap (found k) listed) ∙ in_first)).0

  -- ---- string values

  module _ (n : ℕ) (is_read : has n whole.reads ≡ true) (looked : (m : ℕ) → has m (lists_below U n) ≡ true → has m whole.looks ≡ true) where
    -- the list of a node at or below the one that is read is looked at
    looked-at : (p : ℕ) (z : Visit) → found p (untexted A) ≡ Some z → has n (p ∷ z.above) ≡ true → has p whole.looks ≡ true
    looked-at p z i h = looked p (elim (or-cases (n == p) (has n z.above) h) [
      | inl a ↦ or-left (p == n) (has p (numbers_of (filter (λ y. has n y.above) U))) (ap (λ m. p == m) (eqb-true n p a) ∙ self-same p)
      | inr b ↦ or-right (p == n) (has p (numbers_of (filter (λ y. has n y.above) U))) (present p (filter (λ y. has n y.above) U) z (found-in (λ y. has n y.above) p U z u.apart (in-shape p z i) b))
    ])

    forth : (k : ℕ) (y : Visit) → found k KA ≡ Some y → has n y.above ≡ true → found k KB ≡ Some y
    forth k y i h =
        let s = filled-first n y.above h in
        let z = opened (found s.0 (untexted A)) s.1 (va.closed k s.0 s.1 y (found-out (keeps known) k A y va.apart i).0 s.2) in
        child-there frame s.0 k y (same-lists c s.0 (looked-at s.0 z.0 z.1 (ap (λ l. has n (s.0 ∷ l)) z.2 ∙ sym (ap (has n) s.2) ∙ h))) i (first-itself s.0 s.1 y.above s.2)

    solid-kept : (p : ℕ) (z : Visit) → found p (untexted B) ≡ Some z → found p KB ≡ Some z
    solid-kept p z i =
        let out = solid-found B vb p z i in
        found-in (keeps known) p B z vb.apart out.0 (or-left (not (is_text z.content)) (is_known known z.above) out.1)

    back-solid : (p : ℕ) (z : Visit) → found p KA ≡ Some z → not (is_text z.content) ≡ true → found p (untexted A) ≡ Some z
    back-solid p z i t = found-in (λ y. not (is_text y.content)) p A z va.apart (found-out (keeps known) p A z va.apart i).0 t

    node : (x : Visit) × (found n (untexted A) ≡ Some x)
    node = read-solid n is_read

    -- the parent of a node of the second forest below it stands in the first
    back-under : (ns : List ℕ) (k : ℕ) (y : Visit) → found k B ≡ Some y → y.above ≡ ns → has n ns ≡ true → (p : ℕ) × (ps : List ℕ) × (z : Visit) × (y.above ≡ p ∷ ps) × (found p (untexted A) ≡ Some z) × (has n (p ∷ z.above) ≡ true)
    back-under [] k y i a h = no h
    back-under (p ∷ ps) k y i a h = elim (or-cases (n == p) (has n ps) h) [
      | inl b ↦ (p, ps, node.0, a, ap (λ m. found m (untexted A)) (sym (eqb-true n p b)) ∙ node.1, or-left (n == p) (has n node.0.above) b)
      | inr d ↦
          let z = opened (found p (untexted B)) ps (vb.closed k p ps y i a) in
          let out = solid-found B vb p z.0 z.1 in
          let up = back-under ps p z.0 out.0 z.2 d in
          let in_first = child-there (flipped frame) up.0 p z.0 (sym (same-lists c up.0 (looked-at up.0 up.2 up.4 up.5))) (solid-kept p z.0 z.1) (first-itself up.0 up.1 z.0.above up.3) in
          (p, ps, z.0, a, back-solid p z.0 in_first out.1, or-right (n == p) (has n z.0.above) (ap (has n) z.2 ∙ d))
    ]

    back : (k : ℕ) (y : Visit) → found k KB ≡ Some y → has n y.above ≡ true → found k KA ≡ Some y
    back k y i h =
        let up = back-under y.above k y (found-out (keeps known) k B y vb.apart i).0 refl h in
        child-there (flipped frame) up.0 k y (sym (same-lists c up.0 (looked-at up.0 up.2 up.4 up.5))) i (first-itself up.0 up.1 y.above up.3)

    known-under : (y : Visit) (p : ℕ) (ps : List ℕ) → y.above ≡ p ∷ ps → has p c.texts ≡ false → keeps known y ≡ true
    known-under y p ps a h = or-right (not (is_text y.content)) (is_known known y.above) (ap (is_known known) a ∙ ap not h)

    first-keeps : (y : Visit) → found y.number A ≡ Some y → is_under n y ≡ true → keeps known y ≡ true
    first-keeps y i t =
        let h = (and-true (is_text y.content) (has n y.above) t).1 in
        let s = filled-first n y.above h in
        let z = opened (found s.0 (untexted A)) s.1 (va.closed y.number s.0 s.1 y i s.2) in
        known-under y s.0 s.1 s.2 (untouched n s.0 z.0 is_read z.1 (ap (λ l. has n (s.0 ∷ l)) z.2 ∙ sym (ap (has n) s.2) ∙ h))

    second-keeps : (y : Visit) → found y.number B ≡ Some y → is_under n y ≡ true → keeps known y ≡ true
    second-keeps y i t =
        let up = back-under y.above y.number y i refl (and-true (is_text y.content) (has n y.above) t).1 in
        known-under y up.0 up.1 up.3 (untouched n up.0 up.2 is_read up.4 up.5)

    under-numbers : numbers_of (filter (is_under n) A) ≡ numbers_of (filter (is_under n) B)
    under-numbers =
        ap numbers_of (sym (within-each (is_under n) (keeps known) A (each-map (λ y. found y.number A ≡ Some y) (λ y. is_under n y ≡ true → keeps known y ≡ true) A first-keeps (self-found A va.apart))))
        ∙ region KA KB frame.apart frame.apart_too frame.order (is_under n) (λ k y i t. forth k y i (and-true (is_text y.content) (has n y.above) t).1) (λ k y i t. back k y i (and-true (is_text y.content) (has n y.above) t).1)
        ∙ ap numbers_of (within-each (is_under n) (keeps known) B (each-map (λ y. found y.number B ≡ Some y) (λ y. is_under n y ≡ true → keeps known y ≡ true) B second-keeps (self-found B vb.apart)))

    one-text_under : (k : ℕ) → has k (numbers_of (filter (is_under n) A)) ≡ true → found k V ≡ found k W
    one-text_under k h =
        let y = kept-found (is_under n) k A va.apart h in
        let t = and-true (is_text y.0.content) (has n y.0.above) y.2 in
        let s = filled-first n y.0.above t.1 in
        let z = opened (found s.0 (untexted A)) s.1 (va.closed k s.0 s.1 y.0 y.1 s.2) in
        let free = untouched n s.0 z.0 is_read z.1 (ap (λ l. has n (s.0 ∷ l)) z.2 ∙ sym (ap (has n) s.2) ∙ t.1) in
        let kept_first = found-in (keeps known) k A y.0 va.apart y.1 (known-under y.0 s.0 s.1 s.2 free) in
        held-text k s.0 y.0 s.1 y.1 (found-out (keeps known) k B y.0 vb.apart (forth k y.0 kept_first t.1)).0 t.0 s.2 free

    texts-under : flat_map (text_below n) V ≡ flat_map (text_below n) W
    texts-under =
        all-below n V va
        ∙ flat-same (λ k. characters_of (found k V)) (λ k. characters_of (found k W)) (numbers_of (filter (is_under n) A)) (λ k h. ap characters_of (one-text_under k h))
        ∙ ap (flat_map (λ k. characters_of (found k W))) under-numbers
        ∙ sym (all-below n W vb)

    one-string : (z : Visit) → found n A ≡ Some z → found n B ≡ Some z → is_text z.content ≡ false → string_value n V ≡ string_value n W
    one-string z i j t =
        let v = original n V z i in
        let solid_second : found n (untexted B) ≡ Some z = found-in (λ y. not (is_text y.content)) n B z vb.apart j (ap not t) in
        let one : found n V ≡ found n W = c.but.nodes.own n (z, solid-first n z i t, solid_second) (untouched n n z is_read (solid-first n z i t) (or-left (n == n) (has n z.above) (self-same n))) in
        let named : v.0.number ≡ n = found-number n V v.0 v.1 in
        ap (value_in V) v.1
        ∙ ap (λ l. own_text v.0.content ++ l) (ap (λ m. flat_map (text_below m) V) named ∙ texts-under ∙ sym (ap (λ m. flat_map (text_below m) W) named))
        ∙ sym (ap (value_in W) (sym one ∙ v.1))

  -- a text in a node that is read
  one-text : (k q : ℕ) (x : Visit) (qs : List ℕ) → found k A ≡ Some x → found k B ≡ Some x → is_text x.content ≡ true → x.above ≡ q ∷ qs → has q whole.reads ≡ true → string_value k V ≡ string_value k W
  one-text k q x qs i j t a h =
      let z = opened (found q (untexted A)) qs (va.closed k q qs x i a) in
      let one : found k V ≡ found k W = held-text k q x qs i j t a (untouched q q z.0 h z.1 (or-left (q == q) (has q z.0.above) (self-same q))) in
      let v = original k V x i in
      let texted : is_text v.0.content ≡ true = sym (text-kept v.0.content) ∙ ap (λ (y : Visit). is_text y.content) v.2 ∙ t in
      text-value V va k v.0 v.1 texted ∙ sym (text-value W vb k v.0 (sym one ∙ v.1) texted)

  -- ---- they agree

  known-looked : (p : ℕ) → has p whole.looks ≡ true → has_elements V p ≡ true → known p ≡ true
  known-looked p h l =
      let y = each_one (λ (x : Visit). found x.number A ≡ Some (erased x)) (λ (x : Visit). is_element x.content && is_first p x.above) V (each-erased (λ x. found x.number A ≡ Some x) V (self-found A va.apart)) l in
      let z = above-listed (solids c) A va y.0.number p (erased y.0) y.2 (and-true (is_element y.0.content) (is_first p y.0.above) y.1).1 in
      let shaped = in-shape p z.0 z.1 in
      ap not (c.but.nodes.mixed p (listed-both (solids c) p z.0 shaped z.2 (stood-looks c p h)) l (unmarked-look c p z.0 h shaped z.2))

  document-looked : (id : List ℕ) (n : ℕ) → document_of c.scope.model id c.scope.given.documents ≡ Some n → ((m : ℕ) → has m (list_around U n) ≡ true → has m whole.looks ≡ true) →
      (document_of c.scope.model id c.documents ≡ Some n) × InBoth first second n
  document-looked id n i h = document-same c id n i (λ m j. free-looks c m (h m j))

  pub agree : AgreeOn known whole.reads whole.looks c.scope c.documents first second
  agree = record {
    trees = c.but.trees.1;
    hung = c.but.hung;
    frame = solid_frame;
    order = c.but.nodes.order;
    lists = same-lists c;
    looked = known-looked;
    read = λ n p z h i t j. ap not (untouched n p z h (solid-first p z i t) j);
    strings = λ n z i j t h looked. one-string n h looked z i j t;
    texts = one-text;
    same = document-looked;
    absent = c.but.absent;
  }

pub entry_keeps_value : EntryKeepsValue
entry_keeps_value most scope documents indexes event now before texts lists e expr around but of here unmarked =
    let c : Case = record { most = most; scope = scope; documents = documents; first = now; second = before; texts = texts; lists = lists; entry = e; expr = expr; around = around; but = but; of = of; here = here; unmarked = unmarked } in
    let f = focus_of e in
    let s = setting_for (Some most) scope (visits now.nodes) e.node in
    let t = setting_for (Some most) (over_second scope documents indexes event) (visits before.nodes) e.node in
    let a = asked_alone scope now e.node expr f in
    let all = asked_whole scope now e.node expr f in
    ap (λ x. value_by (Some most) scope (visits now.nodes) e x) of.0
    ∙ ap (λ m. m s f) (meaning-of_trace expr)
    ∙ two_forests_value most scope documents indexes event now (record before { next = but.trees.0 }) (is_unmarked texts) all.reads all.looks expr e.node f around
    (agree c) of.1 here here (λ n h. has-left n a.reads _ h) (λ n h. has-left n a.looks _ h)
    ∙ sym (ap (λ m. m t f) (meaning-of_trace expr))
    ∙ sym (ap (λ x. value_by (Some most) (over_second scope documents indexes event) (visits before.nodes) e x) of.0)

pub entry_keeps_text : EntryKeepsText
entry_keeps_text most scope documents indexes event now before texts lists e expr around but of here unmarked =
    let c : Case = record { most = most; scope = scope; documents = documents; first = now; second = before; texts = texts; lists = lists; entry = e; expr = expr; around = around; but = but; of = of; here = here; unmarked = unmarked } in
    let f = focus_of e in
    let s = setting_for (Some most) scope (visits now.nodes) e.node in
    let t = setting_for (Some most) (over_second scope documents indexes event) (visits before.nodes) e.node in
    let all = asked_whole scope now e.node expr f in
    ap (λ x. value_by (Some most) scope (visits now.nodes) e x >>= string_of s) of.0
    ∙ ap (λ m. m s f >>= string_of s) (meaning-of_trace expr)
    ∙ two_forests most scope documents indexes event now (record before { next = but.trees.0 }) (is_unmarked texts) all.reads all.looks expr e.node f around
    (agree c) of.1 here here (λ n h. h) (λ n h. h)
    ∙ sym (ap (λ m. m t f >>= string_of t) (meaning-of_trace expr))
    ∙ sym (ap (λ x. value_by (Some most) (over_second scope documents indexes event) (visits before.nodes) e x >>= string_of t) of.0)
