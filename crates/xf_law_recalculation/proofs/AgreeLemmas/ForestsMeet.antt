-- Two forests that agree on what an expression asks meet, so that they give it one text.
use Rattle.std.proofs.Common.{◌≡◌, ℕ, Bool, true, false, not, cond, ◌&&◌, ◌||◌, List, [], ◌∷◌, ◌++◌, map, Option, Some, None, option_map, refl, sym, ap, ◌∙◌, subst}
use Rattle.std.specs.Prelude.{filter, is_some}
use Rattle.xf_def_syntax.specs.declared.expr.Expr.{Expr}
use Rattle.xf_def_forest.specs.declared.content.Content.{Content}
use Rattle.xf_def_forest.specs.declared.content.Content.TheVariants as content
use Rattle.xf_def_forest.specs.Forest.{Forest, is_text, is_element}
use Rattle.xf_def_forest.specs.Visit.{Visit, visits, has, is_first}
use Rattle.xf_def_forest.specs.StringValue.{string_value}
use Rattle.xf_def_forest.specs.Shape.{Texts, is_replaced, is_gone, is_borne, given_visits, visits_in, filled, retexted, only_text, erased, without_text, has_elements, shape}
use Rattle.xf_def_xpath.specs.declared.value.Value.{Value}
use Rattle.xf_def_xpath.specs.Given.{Document}
use Rattle.xf_def_xpath.specs.Setting.{Focus}
use Rattle.xf_def_xpath.specs.Meaning.{meaning}
use Rattle.xf_def_xpath.specs.Asked.{found}
use Rattle.xf_def_xpath.specs.Agree.{untexted, list_of, AreVisits, AgreeOnLists}
use Rattle.xf_def_xpath.proofs.VisitFacts.{no, some-same, none-some, filter-within, filter-and, filter-same, found-in, found-out}
use Rattle.xf_def_xpath.proofs.AxisAgree.{Frame}
use Rattle.xf_def_xpath.proofs.UntextedLaws.{itself, bare-apart, bare-closed, solid-found}
use Rattle.xf_def_xpath.proofs.Comparison.{Comparison, Solid}
use Rattle.xf_def_xpath.proofs.AgreeCalls.{Standing}
use Rattle.xf_def_xpath.proofs.ForestVisits.{found-erased, forest-visits}
use Rattle.xf_def_xpath.proofs.ShapeVisits.{shape-untexted, shape-visits}
use Rattle.xf_def_model.specs.Rules.{Scope}
use Rattle.xf_def_model.specs.Nested.{setting_for}
use Rattle.xf_def_model.specs.Settled.{bounds, holding}
use Rattle.xf_def_model.proofs.HoldingVisits.{held-erased}
use Rattle.xf_law_recalculation.specs.Agree.Covered.{is_covered}
use Rattle.xf_law_recalculation.specs.Agree.Settles.{AreHung, Surrounds}
use Rattle.xf_law_recalculation.specs.Agree.Kept.{is_known, keeps, kept}
use Rattle.xf_law_recalculation.specs.Agree.Forests.{bare, InBoth, AgreeOn, asked_alone, asked_whole, text_over, over_second, TwoForestsValue, TwoForests}
use Rattle.xf_law_recalculation.proofs.AgreeLemmas.Parts.{part-apart}
use Rattle.xf_law_recalculation.proofs.AgreeLemmas.Covers.{stays, IsShaped}
use Rattle.xf_law_recalculation.proofs.AgreeLemmas.Meeting.{Meeting}
use Rattle.xf_law_recalculation.proofs.AgreeLemmas.HeldShape.{held-shaped}
use Rattle.xf_law_recalculation.proofs.AgreeLemmas.LooseAgreement.{value-same, text-same}

abbrev no_texts : List (List ℕ)
no_texts = [] ∷ []

-- ---- data that hold no contents are the forest

abbrev none : Texts
none n = None

none-gone : (x : Visit) → is_gone none x ≡ false
none-gone x = by (is_text x.content) x.above
  where
    by : (b : Bool) (ns : List ℕ) → (b && is_replaced none ns) ≡ false
    by false ns = refl
    by true [] = refl
    by true (n ∷ ns) = refl

none-in : (x : Visit) → visits_in none x ≡ []
none-in x = by (is_element x.content)
  where
    by : (b : Bool) → cond b (given_visits x None) [] ≡ []
    by true = refl
    by false = refl

filled-none : (ys : List Visit) → filled (visits_in none) [] ys ≡ ys
filled-none [] = refl
filled-none (y ∷ ys) = by (is_borne y) (filled-none ys)
  where
    by : (b : Bool) → filled (visits_in none) [] ys ≡ ys → cond b (y ∷ filled (visits_in none) [] ys) ([] ++ y ∷ filled (visits_in none) (visits_in none y) ys) ≡ y ∷ ys
    by true h = ap (λ l. y ∷ l) h
    by false h = ap (λ ws. y ∷ filled (visits_in none) ws ys) (none-in y) ∙ ap (λ l. y ∷ l) h

stays-none : (ys : List Visit) → filter (stays none) ys ≡ ys
stays-none [] = refl
stays-none (y ∷ ys) = ap (λ b. cond (not b) (y ∷ filter (stays none) ys) (filter (stays none) ys)) (none-gone y) ∙ ap (λ l. y ∷ l) (stays-none ys)

retexted-none : (ys : List Visit) → retexted none ys ≡ ys
retexted-none ys = ap (filled (visits_in none) []) (stays-none ys) ∙ filled-none ys

held-none : (all : List Visit) → map erased (holding all []) ≡ map erased all
held-none all = held-erased [] all ∙ retexted-none (map erased all)

-- ---- texts and elements without their characters

text-kept : (c : Content) → is_text (without_text c) ≡ is_text c
text-kept content.Root = refl
text-kept (content.Element name) = refl
text-kept (content.Attribute name text) = refl
text-kept (content.Text text) = refl

element-kept : (c : Content) → is_element (without_text c) ≡ is_element c
element-kept content.Root = refl
element-kept (content.Element name) = refl
element-kept (content.Attribute name text) = refl
element-kept (content.Text text) = refl

original : (k : ℕ) (xs : List Visit) (y : Visit) → found k (map erased xs) ≡ Some y → (x : Visit) × (found k xs ≡ Some x) × (erased x ≡ y)
original k xs y e = by (found k xs) refl (sym (found-erased k xs) ∙ e)
  where
    by : (o : Option Visit) → found k xs ≡ o → option_map erased o ≡ Some y → (x : Visit) × (found k xs ≡ Some x) × (erased x ≡ y)
    by None i j = none-some j
    by (Some x) i j = (x, i, some-same j)

erased-hung : (all : List Visit) → AreHung all → AreHung (map erased all)
erased-hung all hung k y e t =
    let x = original k all y e in
    let p = hung k x.0 x.1 (sym (text-kept x.0.content) ∙ ap (λ (v : Visit). is_text v.content) x.2 ∙ t) in
    (p.0, erased p.1, found-erased p.0 all ∙ ap (option_map erased) p.2, element-kept p.1.content ∙ p.3, ap (λ (v : Visit). v.above) (sym x.2) ∙ p.4)

opened : (m : Option Visit) (ns : List ℕ) → option_map (λ (z : Visit). z.above) m ≡ Some ns → (z : Visit) × (m ≡ Some z) × (z.above ≡ ns)
opened None ns h = none-some h
opened (Some z) ns h = (z, refl, some-same h)

or-left_of : (a b : Bool) → a ≡ true → (a || b) ≡ true
or-left_of true b h = refl
or-left_of false b h = no h

-- the list of a node without its texts, from the one with known texts
swap : {X : Type 0} (p q : X → Bool) (xs : List X) → filter p (filter q xs) ≡ filter q (filter p xs)
swap p q xs = sym (filter-and p q xs) ∙ filter-same (λ y. q y && p y) (λ y. p y && q y) (λ y. turn (q y) (p y)) xs ∙ filter-and q p xs
  where
    turn : (a b : Bool) → (a && b) ≡ (b && a)
    turn true true = refl
    turn true false = refl
    turn false true = refl
    turn false false = refl

listed : (known : ℕ → Bool) (all : List Visit) (n : ℕ) → list_of all n ≡ filter (λ y. not (is_text y.content)) (filter (λ y. is_first n y.above) (kept known all))
listed known all n =
    ap (filter (λ y. is_first n y.above)) (sym (filter-within (λ y. not (is_text y.content)) (keeps known) (λ y h. or-left_of (not (is_text y.content)) (is_known known y.above) h) all))
    ∙ swap (λ y. is_first n y.above) (λ y. not (is_text y.content)) (kept known all)

module _ (most : ℕ) (scope : Scope) (documents : List Document) (indexes : List (List ℕ × ℕ)) (event : Option (List (List ℕ × Value)))
    (first second : Forest) (known : ℕ → Bool) (reads looks : List ℕ) (current : ℕ)
    (around : Surrounds scope most first) (agree : AgreeOn known reads looks scope documents first second) (here : InBoth first second current) where
  abbrev A : List Visit
  A = bare first

  abbrev B : List Visit
  B = bare second

  abbrev U : List Visit
  U = map erased (shape (visits first.nodes))

  va : AreVisits A
  va = forest-visits first around.trees

  vb : AreVisits B
  vb = forest-visits second agree.trees

  u : AreVisits U
  u = shape-visits first around.trees around.below

  same : untexted U ≡ untexted A
  same = shape-untexted (visits first.nodes)

  both-frame : Frame (untexted A) (untexted B)
  both-frame = record {
    apart = bare-apart A va;
    apart_too = bare-apart B vb;
    closed = bare-closed A va;
    closed_too = bare-closed B vb;
    order = agree.frame.order;
    contents = λ n x y h k. agree.frame.contents n x y (solid-found A va n x h).0 (solid-found B vb n y k).0;
  }

  abbrev comparison : Comparison
  comparison = record {
    setting = setting_for (Some most) scope (visits first.nodes) current;
    others = B;
    strings = λ n. string_value n (visits second.nodes);
    documents = documents;
    indexes = indexes;
    event = event;
    shape = U;
    shape_strings = λ n. string_value n (shape (visits first.nodes));
    shape_documents = scope.given.documents;
    shape_indexes = scope.given.indexes;
    shape_event = scope.given.event;
    functions = scope.functions None scope.given.decimals;
    extend = around.extend;
    visits = va;
    other_visits = vb;
    shape_visits = u;
    frame = subst (λ part. Frame part (untexted A)) (sym same) (itself A va);
    other_frame = subst (λ part. Frame part (untexted B)) (sym same) both-frame;
  }

  solid : (k : ℕ) → InBoth first second k → Solid comparison k
  solid k x = record { visit = x.0; in_shape = ap (found k) same ∙ x.1; in_first = x.1; in_second = x.2 }

  standing : Standing comparison
  standing = record { current = solid current here; absent = λ id e. (e, agree.absent id e); truths = around.truths }

  nothing : map erased (holding (visits first.nodes) []) ≡ A
  nothing = held-none (visits first.nodes)

  shaped : IsShaped (only_text (visits first.nodes)) A U
  shaped = subst (λ xs. IsShaped (only_text (visits first.nodes)) xs U) nothing (held-shaped scope (record bounds { string = most }) first [] around tt [] (λ n h. refl))

  kept-closed : (X : List Visit) → AreVisits X → (k n : ℕ) (ns : List ℕ) (x : Visit) → found k (kept known X) ≡ Some x → x.above ≡ n ∷ ns → option_map (λ (z : Visit). z.above) (found n (kept known X)) ≡ Some ns
  kept-closed X v k n ns x h i =
      let z = opened (found n (untexted X)) ns (v.closed k n ns x (found-out (keeps known) k X x v.apart h).0 i) in
      let out = solid-found X v n z.0 z.1 in
      ap (option_map (λ (q : Visit). q.above)) (found-in (keeps known) n X z.0 v.apart out.0 (or-left_of (not (is_text z.0.content)) (is_known known z.0.above) out.1)) ∙ ap Some z.2

  kept-frame : Frame (kept known A) (kept known B)
  kept-frame = record {
    apart = part-apart (keeps known) A va.apart;
    apart_too = part-apart (keeps known) B vb.apart;
    closed = kept-closed A va;
    closed_too = kept-closed B vb;
    order = agree.order;
    contents = λ n x y h k. agree.frame.contents n x y (found-out (keeps known) n A x va.apart h).0 (found-out (keeps known) n B y vb.apart k).0;
  }

  second-lists : AgreeOnLists looks U B
  second-lists n h = ap (filter (λ (y : Visit). is_first n y.above)) same ∙ listed known A n ∙ ap (filter (λ (y : Visit). not (is_text y.content))) (agree.lists n h) ∙ sym (listed known B n)

  looked-known : (p : ℕ) → has p looks ≡ true → is_some (only_text (visits first.nodes) p) ≡ false → known p ≡ true
  looked-known p h e = agree.looked p h (by (has_elements (visits first.nodes) p) e)
    where
      by : (c : Bool) → is_some (cond c None (Some no_texts)) ≡ false → c ≡ true
      by true i = refl
      by false i = sym i

  meets : Meeting comparison
  meets = record {
    texts = only_text (visits first.nodes);
    shaped = shaped;
    other_hung = erased-hung (visits second.nodes) agree.hung;
    known = known;
    frame = kept-frame;
    reads = reads;
    looks = looks;
    agree = record {
      first = λ n h. ap (filter (λ (y : Visit). is_first n y.above)) same;
      second = second-lists;
      same = λ id n e k. let x = agree.same id n e k in record { first = e; second = x.0; solid = solid n x.1 };
    };
    lists = agree.lists;
    read = agree.read;
    looked = looked-known;
    strings = agree.strings;
    texts_same = agree.texts;
  }

  pub one-text : (expr : Expr) → is_covered expr ≡ true → (c : Focus) → InBoth first second c.node →
      ((n : ℕ) → has n (asked_whole scope first current expr c).reads ≡ true → has n reads ≡ true) → ((n : ℕ) → has n (asked_whole scope first current expr c).looks ≡ true → has n looks ≡ true) →
      text_over (setting_for (Some most) scope (visits first.nodes) current) expr c ≡ text_over (setting_for (Some most) (over_second scope documents indexes event) (visits second.nodes) current) expr c
  unfolding meets
  one-text expr covered c node r l = text-same meets standing expr covered c (solid c.node node) (record { reads = r; looks = l })

  pub one-value : (expr : Expr) → is_covered expr ≡ true → (c : Focus) → InBoth first second c.node →
      ((n : ℕ) → has n (asked_alone scope first current expr c).reads ≡ true → has n reads ≡ true) → ((n : ℕ) → has n (asked_alone scope first current expr c).looks ≡ true → has n looks ≡ true) →
      meaning expr (setting_for (Some most) scope (visits first.nodes) current) c ≡ meaning expr (setting_for (Some most) (over_second scope documents indexes event) (visits second.nodes) current) c
  unfolding meets
  one-value expr covered c node r l = value-same meets standing expr covered c (solid c.node node) (record { reads = r; looks = l })

pub two_forests_value : TwoForestsValue
two_forests_value most scope documents indexes event first second known reads looks expr current c around agree covered here node r l =
    one-value most scope documents indexes event first second known reads looks current around agree here expr covered c node r l

pub two_forests : TwoForests
two_forests most scope documents indexes event first second known reads looks expr current c around agree covered here node r l =
    one-text most scope documents indexes event first second known reads looks current around agree here expr covered c node r l
