-- What is passed over keeps its text and its truth, while pertinent calculates are written.
use Rattle.std.proofs.Common.{◌≡◌, ℕ, ◌+◌, ◌^◌, Bool, true, false, not, ◌||◌, List, [], ◌∷◌, ◌++◌, map, length, nat_lt, Option, Some, None, option_map, refl, sym, ap, ◌∙◌, subst, arith}
use Rattle.std.specs.Prelude.{nat_le}
use Rattle.std.specs.List.{list_any}
use Rattle.std.proofs.lemmas.Bool.Decides.{nat_tests}
use Rattle.xf_def_syntax.specs.declared.expr.Expr.{Expr}
use Rattle.xf_def_syntax.specs.declared.form.Tables.{Tables}
use Rattle.xf_def_forest.specs.declared.content.Node.{Node}
use Rattle.xf_def_forest.specs.Forest.{Forest, is_text}
use Rattle.xf_def_forest.specs.Needs.{IsSettable}
use Rattle.xf_def_forest.specs.Same.{renumbered_visit}
use Rattle.xf_def_forest.specs.Settle.{has_text}
use Rattle.xf_def_forest.specs.Shape.{erased}
use Rattle.xf_def_forest.specs.Visit.{Visit, visits, has}
use Rattle.xf_def_forest.proofs.OrderLaws.{seen-has}
use Rattle.xf_def_values.specs.Functions.{Functions}
use Rattle.xf_def_xpath.specs.declared.value.Value.{Value}
use Rattle.xf_def_xpath.specs.declared.value.Value.TheVariants.{Truth}
use Rattle.xf_def_xpath.specs.Asked.{found}
use Rattle.xf_def_xpath.specs.Agree.{untexted}
use Rattle.xf_def_xpath.specs.Conversions.{truth_of}
use Rattle.xf_def_xpath.specs.Given.{Given}
use Rattle.xf_def_xpath.proofs.VisitFacts.{or-right, found-out}
use Rattle.xf_def_model.specs.Rules.{Scope, scope_of}
use Rattle.xf_def_model.specs.Applied.{Entry, is_calculate}
use Rattle.xf_def_model.specs.Entries.{text_of, value_of}
use Rattle.xf_def_model.specs.Settled.{Bounds, Contents, Valued, calculates}
use Rattle.xf_def_model.specs.Pertinent.{Changes, AllOf, asking, askings, stands_as, calculated_in, pertinent_of, is_pertinent}
use Rattle.xf_def_model.proofs.EachLemmas.{each_then, each_both}
use Rattle.xf_law_recalculation.specs.Agree.Settles.{IsSolid, IsStatic, Surrounds}
use Rattle.xf_law_recalculation.proofs.AgreeLemmas.HungLaws.{hung_forest}
use Rattle.xf_law_forests.specs.Settle.Written.{MayWrite}
use Rattle.xf_law_forests.proofs.SettleLemmas.StillLaws.{settable-still}
use Rattle.xf_law_recalculation.specs.Marks.Marks.{IsInBoth, IsOf}
use Rattle.xf_law_recalculation.specs.Marks.Outside.{shape_now, evaluated, IsOutside}
use Rattle.xf_law_recalculation.specs.Marks.Instances.{standing, SameInstances, SinceInstances, OldInInstances}
use Rattle.xf_law_recalculation.proofs.MarksLemmas.Behind.{erased-apart, has-append}
use Rattle.xf_law_recalculation.proofs.MarksLemmas.InstanceLaws.{instances_truth, instances_text}
use Rattle.xf_law_recalculation.proofs.MarksLemmas.OutsideLaws.{outside_stood_law}
use Rattle.xf_law_recalculation.specs.Change.Carried.{under, Carried}
use Rattle.xf_law_recalculation.proofs.ChangeLemmas.Carry.{standing-apart, before-apart, less-number}
use Rattle.xf_law_recalculation.proofs.ChangeLemmas.Fixed.{untexted-through, found-kept}
use Rattle.xf_law_recalculation.proofs.ChangeLemmas.OthersCarry.{given_up_carried}
use Rattle.xf_law_recalculation.specs.Written.Turn.{contents_of}
use Rattle.xf_law_recalculation.specs.Since.Since.{Before, Since, Stood, HoldsText, scope_then, kept_of, changes_since}
use Rattle.xf_law_recalculation.specs.Since.Pertinent.{is_written, nodes_with, PertinentText}
use Rattle.xf_law_recalculation.proofs.SinceLemmas.Contents.{each-static, each-settable, may-write, last-small}
use Rattle.xf_law_recalculation.proofs.SinceLemmas.Passed.{written-able, outside-unwritten, all-has, each-calculate, each-calculated, same-node, same-calculate}
use Rattle.xf_law_recalculation.proofs.SinceLemmas.Steps.{with_next, StaysWritten, written-stays}
use Rattle.xf_law_recalculation.proofs.SinceLemmas.Told.{has-told, told-parts, told-renumbered, told-same}
use Rattle.xf_law_recalculation.proofs.SinceLemmas.WrittenCarried.{solid-by, written-carried, marked-carried}

-- ---- one of several

pub stood-one : (P : Valued → Type 0) (test : Entry → Bool) (stood : List Valued) → AllOf P stood → list_any test (map (λ v. v.entry) stood) ≡ true → (v : Valued) × P v × (test v.entry ≡ true)
stood-one P test [] h i = cc i
stood-one P test (v ∷ vs) h i = by (test v.entry) refl i (stood-one P test vs h.1)
  where
    by : (c : Bool) → test v.entry ≡ c → (c || list_any test (map (λ w. w.entry) vs)) ≡ true → (list_any test (map (λ w. w.entry) vs) ≡ true → (w : Valued) × P w × (test w.entry ≡ true)) → (w : Valued) × P w × (test w.entry ≡ true)
    by true e j later = (v, h.0, e)
    by false e j later = later j

module _ (f : ℕ → ℕ) (taken : ℕ → Bool) (texts lists : List ℕ) (b : Bounds) (functions : Functions) (given : Given) (tables : Tables) (model : ℕ) (was : Before) (now : Forest) (entries : List Entry)
    (since : Since f taken texts lists b functions given tables model was now entries)
    (done : ℕ → Bool) (few_done : (n : ℕ) → done n ≡ true → is_written functions given tables model now entries (changes_since texts lists was) n ≡ true) where
  abbrev scope : Scope
  scope = scope_of functions given tables model

  abbrev changes : Changes
  changes = changes_since texts lists was

  abbrev contents : Contents
  contents = contents_of b functions given tables model now entries

  abbrev pertinent_nodes : List ℕ
  pertinent_nodes = calculated_in (evaluated scope now changes entries)

  abbrev marks : List ℕ
  marks = texts ++ pertinent_nodes

  abbrev nodes : List Node
  nodes = nodes_with done b functions given tables model now entries

  abbrev last : ℕ
  last = now.next + length contents

  abbrev after : Forest
  after = with_next last nodes

  -- ---- the nodes that were written

  may : MayWrite now.next contents now
  may = may-write b functions given tables model now entries since.due

  pub stays : StaysWritten now.nodes nodes last
  stays = written-stays done contents now last may.trees since.due.hung may.settable (omega arith)

  small : nat_le last (2 ^ 127) ≡ true
  small = last-small b functions given tables model now entries since.due

  carried : Carried f (under last) marks lists scope was.documents after was.forest
  carried = written-carried f marks lists scope was.documents was.forest done contents now last may.trees since.due.hung may.settable (omega arith) small
      (λ n d. has-append n texts pertinent_nodes ∙ or-right (has n texts) (has n pertinent_nodes) (few_done n d))
      (marked-carried f (under now.next) lists scope was.documents now was.forest may.trees texts
      (given_up_carried f taken texts lists scope was.documents now was.forest may.trees since.carried) pertinent_nodes
      (all-has (λ n. IsSettable n now) pertinent_nodes (written-able b functions given tables model now entries since.due changes)))

  pub around-after : Surrounds scope b.string after
  around-after = record {
    trees = stays.trees;
    below = λ k h. less k (less-number last k nodes stays.trees.below (sym (seen-has k [] nodes) ∙ h)) small;
    hung = hung_forest after stays.trees stays.hung;
    documents = λ id n e. solid-by (visits nodes) (visits now.nodes) n stays.solid (since.due.around.documents id n e);
    extend = since.due.around.extend;
    truths = since.due.around.truths;
  }
    where
      less : (k : ℕ) → nat_lt k last ≡ true → nat_le last (2 ^ 127) ≡ true → nat_lt k (2 ^ 128) ≡ true
      less k h i = grind (arith, nat_tests, h, i)

  pub since-after : SinceInstances f b.string scope was.documents after was.forest changes entries
  since-after = record {
    around = around-after;
    same = subst (λ sh. SameInstances f (texts ++ calculated_in (pertinent_of sh changes (askings scope sh entries))) lists scope was.documents after was.forest) (sym stays.shaped) carried.same;
  }

  inside : (n : ℕ) → IsSolid (standing now) n → IsSolid (standing after) n
  inside n s = solid-by (standing after) (standing now) n stays.inside s

  -- ---- an entry that is passed over, and the one that it was

  module _ (e : Entry) (expr : Expr) (solid : IsSolid (standing now) e.node) (of : IsOf scope e expr) (out : IsOutside scope now changes entries e)
      (v : Valued) (st : Stood f b scope was now v) (is : stands_as (asking scope (shape_now now) e) v.entry ≡ true) where
    pub node-is : e.node ≡ v.entry.node
    node-is = same-node (asking scope (shape_now now) e) v.entry is

    pub number-is : f v.entry.node ≡ v.entry.node
    number-is = st.number (subst (IsSolid (standing now)) node-is solid)

    old-in : OldInInstances f scope after was.forest changes entries e v.entry expr
    old-in = record {
      of = of;
      outside = subst (λ sh. is_pertinent sh changes (askings scope sh entries) (asking scope sh e) ≡ false) (sym stays.shaped) out;
      stands = subst (λ sh. stands_as (asking scope sh e) v.entry ≡ true) (sym stays.shaped) is;
      node = inside e.node solid;
      had = st.node;
      number = number-is;
    }

    pub text-kept : text_of (Some b.string) scope (visits nodes) e ≡ text_of (Some b.string) (scope_then scope was) (visits was.forest.nodes) v.entry
    text-kept = instances_text b.string scope was.documents was.indexes was.event after was.forest f changes entries e v.entry expr since-after old-in

    pub truth-kept : kept_of (value_of (Some b.string) scope (visits nodes) e) ≡ v.value
    truth-kept =
        turn (value_of (Some b.string) scope (visits nodes) e)
        ∙ ap (option_map Truth) (instances_truth b.string scope was.documents was.indexes was.event after was.forest f changes entries e v.entry expr since-after old-in)
        ∙ sym (turn (value_of (Some b.string) (scope_then scope was) (visits was.forest.nodes) v.entry)) ∙ sym st.truth
      where
        turn : (o : Option Value) → kept_of o ≡ option_map Truth (option_map truth_of o)
        turn None = refl
        turn (Some x) = refl

  -- ---- the text that stands

  module _ (n : ℕ) (text : List ℕ) (solid : IsSolid (standing now) n) (able : IsSettable n now) (solid_then : IsSolid (standing was.forest) n) (able_then : IsSettable n was.forest)
      (number : f n ≡ n) (unmarked : has n marks ≡ false) where
    abbrev P : List Visit
    P = standing after

    abbrev P0 : List Visit
    P0 = standing was.forest

    abbrev F : List Visit
    F = map (renumbered_visit f) P0

    in-both : IsInBoth P F n
    in-both =
        let x = inside n solid in
        let moved : found n (untexted (map erased F)) ≡ Some (renumbered_visit f solid_then.0) =
        ap (found n) (untexted-through f P0) ∙ found-kept f carried.same.renumbers n solid_then.0 (untexted (map erased P0)) number solid_then.1 in
        let same : x.0 ≡ renumbered_visit f solid_then.0 =
        carried.same.nodes.stay n x.0 (renumbered_visit f solid_then.0)
        (found-out (λ y. not (is_text y.content)) n (map erased P) x.0 (erased-apart P (standing-apart after stays.trees)) x.1).0
        (found-out (λ y. not (is_text y.content)) n (map erased F) (renumbered_visit f solid_then.0) (erased-apart F (before-apart f marks lists scope was.documents after was.forest carried.same)) moved).0 in
        (x.0, x.1, moved ∙ ap Some (sym same))

    pub text-stands : has_text n text was.forest.nodes ≡ true → has_text n text nodes ≡ true
    text-stands h =
        has-told after n stays.trees (settable-still done now.next contents now n last may able) text
        ∙ told-parts after n text stays.trees (inside n solid)
        ∙ told-same n text P F (carried.same.nodes.own n in-both unmarked) (carried.same.nodes.held n in-both unmarked)
        ∙ told-renumbered f carried.same.renumbers n text P0 number
        ∙ sym (told-parts was.forest n text carried.same.trees solid_then)
        ∙ sym (has-told was.forest n carried.same.trees able_then text)
        ∙ h

  -- ---- the law

  of-static : (e : Entry) → IsStatic scope now e → (x : Expr) × IsOf scope e x
  of-static e s = (s.expr, (s.expression, s.covered))

  one-holds : (e : Entry) → IsStatic scope now e → IsSettable e.node now → is_calculate e ≡ true → IsSolid (standing now) e.node → (IsOutside scope now changes entries e → is_written functions given tables model now entries changes e.node ≡ false) →
      IsOutside scope now changes entries e → HoldsText b scope nodes e
  one-holds e static able calculate solid unwritten out =
      let x = of-static e static in
      let told = outside_stood_law scope now changes entries e out in
      let r = stood-one (Stood f b scope was now) (stands_as (asking scope (shape_now now) e)) was.stood since.stood told.0 in
      let v = r.0 in
      let st = r.1 in
      let is = r.2 in
      let same = node-is e x.0 solid x.1 out v st is in
      let once_calculate = same-calculate (asking scope (shape_now now) e) v.entry is calculate in
      let held = st.text once_calculate in
      let unmarked : has e.node marks ≡ false = has-append e.node texts pertinent_nodes ∙ ap (λ c. c || has e.node pertinent_nodes) (told.1 calculate) ∙ unwritten out in
      record {
        text = held.text;
        given = text-kept e x.0 solid x.1 out v st is ∙ held.given;
        fits = held.fits;
        stands = ap (λ n. has_text n held.text nodes) same
            ∙ text-stands v.entry.node held.text (subst (IsSolid (standing now)) same solid) (subst (λ n. IsSettable n now) same able) st.node (st.able once_calculate)
            (number-is e x.0 solid x.1 out v st is) (ap (λ n. has n marks) (sym same) ∙ unmarked) held.stands;
      }

  pub all-hold : AllOf (λ e. IsOutside scope now changes entries e → HoldsText b scope nodes e) (calculates entries)
  all-hold =
      each_then _ _ (λ e h. one-holds e h.0.0 h.0.1 h.1.0.0 h.1.0.1 h.1.1) (calculates entries)
      (each_both _ _ (calculates entries)
      (each_both (IsStatic scope now) (λ e. IsSettable e.node now) (calculates entries) (each-static b functions given tables model now entries since.due) (each-settable b functions given tables model now entries since.due))
      (each_both _ _ (calculates entries)
      (each_both (λ e. is_calculate e ≡ true) (λ e. IsSolid (standing now) e.node) (calculates entries) (each-calculate entries) (each-calculated (λ e. IsSolid (standing now) e.node) entries since.due.stand))
      (outside-unwritten b functions given tables model now entries since.due changes)))

pub pertinent_text : PertinentText
pertinent_text f taken texts lists b functions given tables model was now entries since done few = all-hold f taken texts lists b functions given tables model was now entries since done few
