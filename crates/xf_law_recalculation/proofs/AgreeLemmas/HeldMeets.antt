-- Data that hold two contents at static calculates meet, where the contents are the same at what is read.
use Rattle.std.proofs.Common.{◌≡◌, ℕ, ◌==◌, ◌^◌, Bool, true, false, not, ◌&&◌, List, [], ◌∷◌, map, is_some, Option, Some, None, option_map, refl, sym, ap, ◌∙◌, subst, inl, inr, arith}
use Rattle.std.specs.Prelude.{filter}
use Rattle.std.specs.List.{list_any}
use Rattle.std.proofs.lemmas.Bool.{cases_Bool, eqb-true, eq-eqb, or_cases, or_left, or_right, false≢true, ltb-true}
use Rattle.xf_def_forest.specs.declared.content.Content.{Content}
use Rattle.xf_def_forest.specs.declared.content.Content.TheVariants as content
use Rattle.xf_def_forest.specs.Forest.{Forest, is_text}
use Rattle.xf_def_forest.specs.Visit.{Visit, visits, has, is_first, ancestors_of, above_in}
use Rattle.xf_def_forest.specs.StringValue.{string_value}
use Rattle.xf_def_forest.specs.Shape.{text_number, is_replaced, erased, without_text, shape, only_text, texts_given}
use Rattle.xf_def_xpath.specs.Given.{document_of}
use Rattle.xf_def_xpath.specs.Setting.{◌>>=◌}
use Rattle.xf_def_xpath.specs.Conversions.{string_of}
use Rattle.xf_def_xpath.specs.Meaning.{meaning}
use Rattle.xf_def_xpath.specs.Asked.{Asked, found, converted}
use Rattle.xf_def_xpath.specs.Agree.{untexted, AreVisits}
use Rattle.xf_def_xpath.specs.Reads.{trace}
use Rattle.xf_def_xpath.proofs.VisitFacts.{some-same, none-some, found-in, found-out, present}
use Rattle.xf_def_xpath.proofs.AxisAgree.{Frame}
use Rattle.xf_def_xpath.proofs.UntextedLaws.{itself, solid-found}
use Rattle.xf_def_xpath.proofs.Comparison.{Comparison, Solid, over_shape, other as over_other}
use Rattle.xf_def_xpath.proofs.AgreeCalls.{Standing}
use Rattle.xf_def_xpath.proofs.ReadsAgree.{in-order_has}
use Rattle.xf_def_xpath.proofs.ForestVisits.{Each, self-found, found-erased}
use Rattle.xf_def_xpath.proofs.ShapeVisits.{shape-untexted}
use Rattle.xf_def_model.specs.Rules.{Scope}
use Rattle.xf_def_model.specs.Applied.{Entry}
use Rattle.xf_def_model.specs.Entries.{focus_of, reads_by, reads_of}
use Rattle.xf_def_model.specs.Nested.{setting_for}
use Rattle.xf_def_model.specs.Settled.{Bounds, Contents, content_of, holding, calculates}
use Rattle.xf_def_model.specs.Pertinent.{AllOf}
use Rattle.xf_def_model.specs.Stands.{AreCalculated, AgreeFor}
use Rattle.xf_def_model.proofs.EachLemmas.{each_then, each_one}
use Rattle.xf_def_model.proofs.HoldingLaws.{SameAt}
use Rattle.xf_def_model.proofs.HoldingStrings.{string_value-kept}
use Rattle.xf_def_model.proofs.HoldingVisits.{blanks_by, held-erased}
use Rattle.xf_def_model.proofs.ReadSolid.{converted-solid, trace-solid}
use Rattle.xf_law_recalculation.specs.Agree.Settles.{IsSolid, Surrounds, IsStatic}
use Rattle.xf_law_recalculation.proofs.AgreeLemmas.Meeting.{Meeting, keeps, kept, is_known}
use Rattle.xf_law_recalculation.proofs.AgreeLemmas.Parts.{part-apart}
use Rattle.xf_law_recalculation.proofs.AgreeLemmas.Retexted.{retexted-same, forest-late}
use Rattle.xf_law_recalculation.proofs.AgreeLemmas.LooseValues.{in-converted}
use Rattle.xf_law_recalculation.proofs.AgreeLemmas.LooseAgreement as agreement
use Rattle.xf_law_recalculation.proofs.AgreeLemmas.HeldTexts.{kept-texts}
use Rattle.xf_law_recalculation.proofs.AgreeLemmas.HeldShape.{bare_visits, bare_below, shape_visits, shape-hung, calculated-leaf, held_visits, held_same, none-held, held-hung, held-shaped}

-- as many empty texts
abbrev blanked : List (List ℕ) → List (List ℕ)
blanked ts = map (λ (t : List ℕ). []) ts

-- ---- the same content

same_text : List ℕ → List ℕ → Bool
same_text [] [] = true
same_text [] (d ∷ ds) = false
same_text (c ∷ cs) [] = false
same_text (c ∷ cs) (d ∷ ds) = (c == d) && same_text cs ds

abbrev same_content : Option (List ℕ) → Option (List ℕ) → Bool
same_content None None = true
same_content None (Some text) = false
same_content (Some text) None = false
same_content (Some text) (Some other) = same_text text other

text-itself : (cs : List ℕ) → same_text cs cs ≡ true
unfolding same_text
text-itself [] = refl
text-itself (c ∷ cs) = ap (λ b. b && same_text cs cs) (eq-eqb c c refl) ∙ text-itself cs

same-text : (cs ds : List ℕ) → same_text cs ds ≡ true → cs ≡ ds
unfolding same_text
same-text [] [] h = refl
same-text [] (d ∷ ds) h = absurd (false≢true h)
same-text (c ∷ cs) [] h = absurd (false≢true h)
same-text (c ∷ cs) (d ∷ ds) h = by (c == d) refl h (same-text cs ds)
  where
    by : (b : Bool) → (c == d) ≡ b → (b && same_text cs ds) ≡ true → (same_text cs ds ≡ true → cs ≡ ds) → c ∷ cs ≡ d ∷ ds
    by true e i later = ap (λ n. n ∷ cs) (eqb-true c d e) ∙ ap (λ l. d ∷ l) (later i)
    by false e i later = absurd (false≢true i)

content-itself : (o : Option (List ℕ)) → same_content o o ≡ true
content-itself None = refl
content-itself (Some text) = text-itself text

same-content : (o p : Option (List ℕ)) → same_content o p ≡ true → o ≡ p
same-content None None h = refl
same-content None (Some text) h = absurd (false≢true h)
same-content (Some text) None h = absurd (false≢true h)
same-content (Some text) (Some other) h = ap Some (same-text text other h)

-- ---- lists

any-of : (n : ℕ) (ns reads : List ℕ) → has n ns ≡ true → has n reads ≡ true → list_any (λ m. has m reads) ns ≡ true
any-of n [] reads h k = absurd (false≢true h)
any-of n (m ∷ ms) reads h k = elim (or_cases (n == m) (has n ms) h) [
  | inl e ↦ or_left (has m reads) (list_any (λ j. has j reads) ms) (subst (λ j. has j reads ≡ true) (eqb-true n m e) k)
  | inr later ↦ or_right (has m reads) (list_any (λ j. has j reads) ms) (any-of n ms reads later k)
]

each-erased : (P : Visit → Type 0) (xs : List Visit) → Each P (map erased xs) → AllOf (λ x. P (erased x)) xs
each-erased P [] h = tt
each-erased P (x ∷ xs) h = (h.0, each-erased P xs h.1)

above-of : (m : Option Visit) (x : Visit) → option_map erased m ≡ Some x → above_in m ≡ x.above
above-of None x e = none-some e
above-of (Some y) x e = ap (λ (z : Visit). z.above) (some-same e)

opened : (m : Option Visit) (ns : List ℕ) → option_map (λ (z : Visit). z.above) m ≡ Some ns → (z : Visit) × (m ≡ Some z) × (z.above ≡ ns)
opened None ns h = none-some h
opened (Some z) ns h = (z, refl, some-same h)

text-kept : (c : Content) → is_text (without_text c) ≡ is_text c
text-kept content.Root = refl
text-kept (content.Element name) = refl
text-kept (content.Attribute name text) = refl
text-kept (content.Text text) = refl

module _ (scope : Scope) (b : Bounds) (forest : Forest) (entries : List Entry) (around : Surrounds scope b.string forest) (static : AllOf (IsStatic scope forest) (calculates entries)) where
  abbrev all : List Visit
  all = visits forest.nodes

  abbrev bare : List Visit
  bare = map erased all

  abbrev shaped : List Visit
  shaped = map erased (shape all)

  pub v : AreVisits bare
  v = bare_visits scope b forest entries around static

  pub u : AreVisits shaped
  u = shape_visits scope b forest entries around static

  pub shape_same : untexted shaped ≡ untexted bare
  shape_same = shape-untexted all

  above-in_shape : (p : ℕ) (z : Visit) → found p (untexted bare) ≡ Some z → ancestors_of p (shape all) ≡ z.above
  above-in_shape p z h =
      above-of (found p (shape all)) z (sym (found-erased p (shape all)) ∙ (solid-found shaped u p z (ap (found p) shape_same ∙ h)).0)

  module _ (e : Entry) (is_static : IsStatic scope forest e) (one other : Contents) (of_one : AreCalculated entries one) (of_other : AreCalculated entries other) (agree : AgreeFor scope all e one other) where
    abbrev A : List Visit
    A = map erased (holding all one)

    abbrev B : List Visit
    B = map erased (holding all other)

    pub va : AreVisits A
    va = held_visits scope b forest entries around static one of_one

    pub vb : AreVisits B
    vb = held_visits scope b forest entries around static other of_other

    pub same_a : untexted A ≡ untexted bare
    same_a = held_same scope b forest entries around static one of_one

    pub same_b : untexted B ≡ untexted bare
    same_b = held_same scope b forest entries around static other of_other

    pub frame_to : (X : List Visit) → untexted X ≡ untexted bare → Frame (untexted shaped) (untexted X)
    frame_to X same = subst (λ part. Frame part (untexted X)) (sym shape_same) (subst (λ part. Frame (untexted bare) part) (sym same) (itself bare v))

    abbrev pub comparison : Comparison
    comparison = record {
      setting = setting_for (Some b.string) scope (holding all one) e.node;
      others = B;
      strings = λ n. string_value n (holding all other);
      documents = scope.given.documents;
      indexes = scope.given.indexes;
      event = scope.given.event;
      shape = shaped;
      shape_strings = λ n. string_value n (shape all);
      shape_documents = scope.given.documents;
      shape_indexes = scope.given.indexes;
      shape_event = scope.given.event;
      functions = scope.functions None scope.given.decimals;
      extend = around.extend;
      visits = va;
      other_visits = vb;
      shape_visits = u;
      frame = frame_to A same_a;
      other_frame = frame_to B same_b;
    }

    pub solid : (k : ℕ) → IsSolid all k → Solid comparison k
    solid k x = record { visit = x.0; in_shape = ap (found k) shape_same ∙ x.1; in_first = ap (found k) same_a ∙ x.1; in_second = ap (found k) same_b ∙ x.1 }

    pub standing : Standing comparison
    standing = record { current = solid e.node is_static.node; absent = λ id none. (none, none); truths = around.truths }

    abbrev pub whole : Asked
    whole = converted (over_shape comparison) ((trace is_static.expr).asked (over_shape comparison) (focus_of e))

    -- ---- what is known

    abbrev known : ℕ → Bool
    known p = same_content (content_of one p) (content_of other p)

    agree-texts : (p : ℕ) → known p ≡ true → blanks_by one p ≡ blanks_by other p
    agree-texts p h = ap (λ c. option_map blanked (texts_given c)) (same-content (content_of one p) (content_of other p) h)

    kept_same : kept known A ≡ kept known B
    kept_same =
        ap (kept known) (held-erased one all)
        ∙ retexted-same known (blanks_by one) (blanks_by other) agree-texts bare (forest-late forest.nodes around.trees.first)
        ∙ ap (kept known) (sym (held-erased other all))

    kept-closed : (k n : ℕ) (ns : List ℕ) (x : Visit) → found k (kept known A) ≡ Some x → x.above ≡ n ∷ ns → option_map (λ (z : Visit). z.above) (found n (kept known A)) ≡ Some ns
    kept-closed k n ns x h i =
        let z = opened (found n (untexted A)) ns (va.closed k n ns x (found-out (keeps known) k A x va.apart h).0 i) in
        let out = solid-found A va n z.0 z.1 in
        ap (option_map (λ (q : Visit). q.above)) (found-in (keeps known) n A z.0 va.apart out.0 (or_left (not (is_text z.0.content)) (is_known known z.0.above) out.1)) ∙ ap Some z.2

    own_frame : Frame (kept known A) (kept known A)
    own_frame = record {
      apart = part-apart (keeps known) A va.apart;
      apart_too = part-apart (keeps known) A va.apart;
      closed = kept-closed;
      closed_too = kept-closed;
      order = refl;
      contents = λ n x y h k. ap (λ (z : Visit). z.content) (some-same (sym h ∙ k));
    }

    -- it is no text
    read-solid : (n : ℕ) → has n whole.reads ≡ true → (x : Visit) × (found n (untexted bare) ≡ Some x)
    read-solid n is_read =
        let s = over_shape comparison in
        let hung = shape-hung scope b forest entries around static in
        let x = converted-solid s hung ((trace is_static.expr).asked s (focus_of e)) (trace-solid is_static.expr s hung (focus_of e)) n is_read in
        (x.0, ap (found n) (sym shape_same) ∙ x.1)

    told : (n : ℕ) → has n whole.reads ≡ true → has n (reads_of scope (shape all) e) ≡ true
    told n is_read =
        let x = read-solid n is_read in
        ap (λ y. has n (reads_by scope (shape all) e y)) is_static.expression
        ∙ in-order_has shaped u.apart whole.reads n (present n shaped x.0 (solid-found shaped u n x.0 (ap (found n) shape_same ∙ x.1)).0) is_read

    content-at : (n : ℕ) → has n whole.reads ≡ true → (p : ℕ) (z : Visit) → found p (untexted bare) ≡ Some z → has n (p ∷ z.above) ≡ true → content_of one p ≡ content_of other p
    content-at n is_read p z h i =
        agree p (ap (λ above. list_any (λ m. has m (reads_of scope (shape all) e)) (p ∷ above)) (above-in_shape p z h)
        ∙ any-of n (p ∷ z.above) (reads_of scope (shape all) e) i (told n is_read))

    known-same : (p : ℕ) → content_of one p ≡ content_of other p → known p ≡ true
    known-same p h = ap (λ o. same_content (content_of one p) o) (sym h) ∙ content-itself (content_of one p)

    solid-first : (p : ℕ) (z : Visit) → found p A ≡ Some z → is_text z.content ≡ false → found p (untexted bare) ≡ Some z
    solid-first p z h t = ap (found p) (sym same_a) ∙ found-in (λ y. not (is_text y.content)) p A z va.apart h (ap not t)

    known-read : (n p : ℕ) (z : Visit) → has n whole.reads ≡ true → found p A ≡ Some z → is_text z.content ≡ false → has n (p ∷ z.above) ≡ true → known p ≡ true
    known-read n p z is_read h t i = known-same p (content-at n is_read p z (solid-first p z h t) i)

    known-looked : (p : ℕ) → is_some (only_text all p) ≡ false → known p ≡ true
    known-looked p h = elim (cases_Bool (list_any (λ f. f.node == p) (calculates entries))) [
      | inl c ↦ absurd (false≢true (sym h ∙ ap is_some (calculated-leaf scope b forest entries around static p c)))
      | inr c ↦ known-same p (none-held scope b forest entries around static one of_one p c ∙ sym (none-held scope b forest entries around static other of_other p c))
    ]

    -- ---- string values

    text-no_solid : (k : ℕ) (x : Visit) → found k bare ≡ Some (erased x) → is_text x.content ≡ true → (y : Visit) → found k (untexted bare) ≡ Some y → ⊥
    text-no_solid k x h t y i =
        let s = solid-found bare v k y i in
        let same : erased x ≡ y = some-same (sym h ∙ s.0) in
        false≢true (sym (ap not (text-kept x.content ∙ t)) ∙ ap (λ (z : Visit). not (is_text z.content)) same ∙ s.1)

    module _ (n : ℕ) (is_read : has n whole.reads ≡ true) where
      none-calculated : (x : Visit) → found x.number bare ≡ Some (erased x) → is_text x.content ≡ true → list_any (λ f. f.node == x.number) (calculates entries) ≡ false
      none-calculated x h t = elim (cases_Bool (list_any (λ f. f.node == x.number) (calculates entries))) [
        | inl some ↦
            let f = each_one (IsStatic scope forest) (λ (f : Entry). f.node == x.number) (calculates entries) static some in
            absurd (text-no_solid x.number x h t f.2.node.0 (subst (λ k. found k (untexted bare) ≡ Some f.2.node.0) (eqb-true f.0.node x.number f.1) f.2.node.1))
        | inr none ↦ none
      ]

      content-of : (x : Visit) (c : Bool) → is_text x.content ≡ c → found x.number bare ≡ Some (erased x) → has n (x.number ∷ x.above) ≡ true → content_of one x.number ≡ content_of other x.number
      content-of x true t h i = let none = none-calculated x h t in of_one x.number none ∙ sym (of_other x.number none)
      content-of x false t h i =
          content-at n is_read x.number (erased x) (found-in (λ y. not (is_text y.content)) x.number bare (erased x) v.apart h (ap not (text-kept x.content ∙ t))) i

      replaced-of : (x : Visit) (above : List ℕ) → x.above ≡ above → found x.number bare ≡ Some (erased x) → has n above ≡ true → is_replaced (λ k. texts_given (content_of one k)) above ≡ is_replaced (λ k. texts_given (content_of other k)) above
      replaced-of x [] a h i = refl
      replaced-of x (p ∷ ps) a h i =
          let z = opened (found p (untexted bare)) ps (v.closed x.number p ps (erased x) h a) in
          ap (λ c. is_some (texts_given c)) (content-at n is_read p z.0 z.1 (ap (λ ns. has n (p ∷ ns)) z.2 ∙ i))

      other-number : (k : ℕ) (c : Bool) → (k == n) ≡ c → (k ≡ n → ⊥) → c ≡ false
      other-number k true h never = absurd (never (eqb-true k n h))
      other-number k false h never = refl

      same-at : (x : Visit) → found x.number bare ≡ Some (erased x) → SameAt n one other x
      same-at x h =
          let y = read-solid n is_read in
          record {
            itself = content-of x (is_text x.content) refl h;
            parent = λ i. replaced-of x x.above refl h i;
            no_text = λ t. other-number x.number (x.number == n) refl (λ same. text-no_solid x.number x h t y.0 (ap (λ k. found k (untexted bare)) same ∙ y.1));
            no_given = other-number (text_number x.number) (text_number x.number == n) refl (λ same.
                let small = ltb-true n (2 ^ 128) (bare_below scope b forest entries around static n (present n bare y.0 (solid-found bare v n y.0 y.1).0)) in
                omega (arith, small, same));
          }

      pub strings : string_value n (holding all one) ≡ string_value n (holding all other)
      strings = string_value-kept n all one other (each_then _ (SameAt n one other) same-at all (each-erased (λ y. found y.number bare ≡ Some y) all (self-found bare v.apart)))

    -- ---- they meet

    document : (id : List ℕ) (n : ℕ) → document_of scope.model id scope.given.documents ≡ Some n → Solid comparison n
    document id n stands = solid n (around.documents id n stands)

    pub meeting_of : Meeting comparison
    meeting_of = record {
      texts = only_text all;
      shaped = held-shaped scope b forest entries around static one of_one;
      other_hung = held-hung scope b forest entries around static other of_other;
      known = known;
      frame = subst (λ part. Frame (kept known A) part) kept_same own_frame;
      reads = whole.reads;
      looks = whole.looks;
      agree = record {
        first = λ n h. ap (filter (λ (y : Visit). is_first n y.above)) (shape_same ∙ sym same_a);
        second = λ n h. ap (filter (λ (y : Visit). is_first n y.above)) (shape_same ∙ sym same_b);
        same = λ id n stands looked. record { first = stands; second = stands; solid = document id n stands };
      };
      lists = λ n h. ap (filter (λ (y : Visit). is_first n y.above)) kept_same;
      read = known-read;
      looked = λ p h none. known-looked p none;
      strings = λ n x h i t is_read l. strings n is_read;
      texts_same = λ k q x qs h there t i is_read.
          kept-texts known all one other (forest-late forest.nodes around.trees.first) (λ p j. same-content (content_of one p) (content_of other p) j) va vb k x q qs h t i
          (let z = opened (found q (untexted A)) qs (va.closed k q qs x h i) in known-read q q z.0 is_read (solid-found A va q z.0 z.1).0 (not-of (is_text z.0.content) (solid-found A va q z.0 z.1).1) (or_left (q == q) (has q z.0.above) (eq-eqb q q refl)));
    }
      where
        not-of : (c : Bool) → not c ≡ true → c ≡ false
        not-of true h = sym h
        not-of false h = refl

    -- one value of the calculate over both, and one text
    pub value_same : meaning is_static.expr comparison.setting (focus_of e) ≡ meaning is_static.expr (over_other comparison) (focus_of e)
    unfolding meeting_of
    value_same = agreement.value-same meeting_of standing is_static.expr is_static.covered (focus_of e) (solid e.node is_static.node)
        (in-converted meeting_of ((trace is_static.expr).asked (over_shape comparison) (focus_of e)) (record { reads = λ n h. h; looks = λ n h. h }))

    pub text_same : (meaning is_static.expr comparison.setting (focus_of e) >>= string_of comparison.setting) ≡ (meaning is_static.expr (over_other comparison) (focus_of e) >>= string_of (over_other comparison))
    unfolding meeting_of
    text_same = agreement.text-same meeting_of standing is_static.expr is_static.covered (focus_of e) (solid e.node is_static.node) (record { reads = λ n h. h; looks = λ n h. h })
