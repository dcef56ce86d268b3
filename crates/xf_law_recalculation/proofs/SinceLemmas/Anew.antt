-- After a recalculation that passed no limit all is known again that the next one asks of it.
use Rattle.std.proofs.Common.{◌≡◌, ℕ, ◌+◌, ◌^◌, Bool, true, false, not, cond, ◌&&◌, List, [], ◌∷◌, ◌++◌, map, length, nat_lt, Option, Some, None, refl, sym, ap, ◌∙◌, subst, inl, arith}
use Rattle.std.specs.Prelude.{filter, is_none, nat_le, count_by, sum_by}
use Rattle.std.specs.List.{list_any}
use Rattle.std.proofs.lemmas.Bool.Decides.{nat_tests}
use Rattle.xf_def_syntax.specs.declared.form.Tables.{Tables}
use Rattle.xf_def_forest.specs.Forest.{Forest, is_root}
use Rattle.xf_def_forest.specs.Limits.{size_of}
use Rattle.xf_def_forest.specs.Needs.{IsSettable}
use Rattle.xf_def_forest.specs.Visit.{Visit, visits}
use Rattle.xf_def_forest.proofs.BackLaws.{or-false}
use Rattle.xf_def_forest.proofs.OrderLaws.{seen-has}
use Rattle.xf_def_values.specs.Functions.{Functions}
use Rattle.xf_def_xpath.specs.Given.{Document, Given}
use Rattle.xf_def_xpath.specs.Same.{renumbered_given}
use Rattle.xf_def_xpath.proofs.VisitFacts.{no}
use Rattle.xf_def_model.specs.Rules.{Scope, scope_of}
use Rattle.xf_def_model.specs.Applied.{Entry, is_calculate, applied_over}
use Rattle.xf_def_model.specs.Circular.{graph_over}
use Rattle.xf_def_model.specs.Entries.{is_computed, text_of, value_of}
use Rattle.xf_def_model.specs.Settled.{Bounds, Contents, Valued, Passed, calculates, content_by, fitting, holding, is_long, is_over, if_passed, settled, passed}
use Rattle.xf_def_model.specs.Settled as words
use Rattle.xf_def_model.specs.Pertinent.{AllOf}
use Rattle.xf_def_model.proofs.EachLemmas.{each_then, each_both}
use Rattle.xf_graph.specs.Cycle.{IsAcyclic}
use Rattle.xf_law_recalculation.specs.Agree.Settles.{IsSolid, Surrounds}
use Rattle.xf_law_recalculation.proofs.AgreeLemmas.EvaluatedLaws.{evaluated_text, surroundings_stay, solid_numbers}
use Rattle.xf_law_recalculation.proofs.AgreeLemmas.FormSettable.{entries_solid}
use Rattle.xf_law_recalculation.proofs.AgreeLemmas.HungLaws.{hung_forest}
use Rattle.xf_law_recalculation.proofs.AgreeLemmas.TurnLists.{each-none}
use Rattle.xf_law_forests.proofs.RollbackLemmas.Trees.{Trees, onto, onto-inj}
use Rattle.xf_law_forests.proofs.RollbackLemmas.KeepingTrees.{Stands, stands}
use Rattle.xf_law_forests.specs.Settle.Written.{MayWrite, written}
use Rattle.xf_law_forests.specs.Settle.Alike.{AreAlike}
use Rattle.xf_law_forests.proofs.SettleLemmas.AlikeLaws.{written-alike}
use Rattle.xf_law_forests.proofs.SettleLemmas.Bridge.{AreReady, written-onto}
use Rattle.xf_law_forests.proofs.SettleLemmas.Put.{put_all}
use Rattle.xf_law_forests.proofs.SettleLemmas.StillLaws.{settable-still}
use Rattle.xf_law_forests.proofs.SettleLemmas.WrittenLaws.{alone, alone-trees, ready}
use Rattle.xf_law_recalculation.specs.Marks.Instances.{standing}
use Rattle.xf_law_recalculation.proofs.MarksLemmas.Behind.{append-none}
use Rattle.xf_law_recalculation.proofs.MarksLemmas.Standing.{visits-parts}
use Rattle.xf_law_recalculation.specs.Change.Carried.{under, Carried, Follows}
use Rattle.xf_law_recalculation.proofs.ChangeLemmas.Carry.{less-number}
use Rattle.xf_law_recalculation.proofs.ChangeLemmas.OthersCarry.{first_carried}
use Rattle.xf_law_recalculation.specs.Written.Turn.{contents_of}
use Rattle.xf_law_recalculation.proofs.WrittenLemmas.TurnLaws.{all-kept}
use Rattle.xf_law_recalculation.specs.Since.Since.{Before, IsDue, Since, Stood, HoldsText, truly}
use Rattle.xf_law_recalculation.specs.Since.Pertinent.{settled_now, then_of, SinceAnew, AloneStands, EntriesStand}
use Rattle.xf_law_recalculation.proofs.SinceLemmas.Contents.{are-made, count-is, each-settable, may-write, last-small, room-left}
use Rattle.xf_law_recalculation.proofs.SinceLemmas.Passed.{each-calculate, each-calculated}
use Rattle.xf_law_recalculation.proofs.SinceLemmas.Says.{says, all-said}
use Rattle.xf_law_recalculation.proofs.SinceLemmas.Steps.{StaysWritten, written-stays}
use Rattle.xf_law_recalculation.proofs.SinceLemmas.Told.{stands-in, has-said}
use Rattle.xf_law_recalculation.proofs.SinceLemmas.WrittenCarried.{solid-by}

-- ---- where no tree is detached

pub alone_stands : AloneStands
alone_stands now n none_there s = subst (λ xs. IsSolid xs n) (visits-parts now.nodes ∙ ap (λ l. standing now ++ visits l) none_there ∙ append-none (standing now)) s

pub entries_stand : EntriesStand
entries_stand b functions given tables model now entries covered around applies none_there =
    each_then (λ e. IsSolid (visits now.nodes) e.node) (λ e. IsSolid (standing now) e.node) (λ e s. alone_stands now e.node none_there s) entries (entries_solid b functions given tables model now entries covered around applies)

-- ---- no limit is passed

append-parts : {X : Type 0} (xs ys : List X) → xs ++ ys ≡ [] → (xs ≡ []) × (ys ≡ [])
append-parts [] ys h = (refl, h)
append-parts (x ∷ xs) ys h = cc h

mapped-none : {X Y : Type 0} (g : X → Y) (xs : List X) → map g xs ≡ [] → xs ≡ []
mapped-none g [] h = refl
mapped-none g (x ∷ xs) h = cc h

filtered-none : {X : Type 0} (p : X → Bool) (xs : List X) → filter p xs ≡ [] → AllOf (λ x. p x ≡ false) xs
filtered-none p [] h = tt
filtered-none p (x ∷ xs) h = by (p x) refl h (filtered-none p xs)
  where
    by : (c : Bool) → p x ≡ c → cond c (x ∷ filter p xs) (filter p xs) ≡ [] → (filter p xs ≡ [] → AllOf (λ y. p y ≡ false) xs) → (p x ≡ false) × AllOf (λ y. p y ≡ false) xs
    by true e i later = cc i
    by false e i later = (e, later i)

unpassed : (c : Bool) (word : Passed) → if_passed c word ≡ [] → c ≡ false
unpassed true word h = cc h
unpassed false word h = refl

-- a calculate is computed
each-known : (P : Entry → Type 0) (es : List Entry) → AllOf P (filter is_computed es) → AllOf P (calculates es)
each-known P [] h = tt
each-known P (e ∷ es) h = by (is_computed e) refl (is_calculate e) refl h (each-known P es)
  where
    both-kinds : is_computed e ≡ false → is_calculate e ≡ true → false ≡ true
    both-kinds i j = grind (arith, nat_tests, i, j)

    by : (c : Bool) → is_computed e ≡ c → (k : Bool) → is_calculate e ≡ k → AllOf P (cond c (e ∷ filter is_computed es) (filter is_computed es)) →
        (AllOf P (filter is_computed es) → AllOf P (calculates es)) → AllOf P (cond k (e ∷ calculates es) (calculates es))
    by true i true j p later = (p.0, later p.1)
    by true i false j p later = later p.1
    by false i true j p later = no (both-kinds i j)
    by false i false j p later = later p

-- those of the entries that are calculates
each-if : (P : Entry → Type 0) (es : List Entry) → AllOf P (calculates es) → AllOf (λ e. is_calculate e ≡ true → P e) es
each-if P [] h = tt
each-if P (e ∷ es) h = by (is_calculate e) refl h (each-if P es)
  where
    by : (k : Bool) → is_calculate e ≡ k → AllOf P (cond k (e ∷ calculates es) (calculates es)) → (AllOf P (calculates es) → AllOf (λ g. is_calculate g ≡ true → P g) es) →
        (is_calculate e ≡ true → P e) × AllOf (λ g. is_calculate g ≡ true → P g) es
    by true i p later = (λ j. p.0, later p.1)
    by false i p later = (λ j. no (sym i ∙ j), later p)

each-mapped : {X Y : Type 0} (P : Y → Type 0) (g : X → Y) (xs : List X) → AllOf P (map g xs) → AllOf (λ x. P (g x)) xs
each-mapped P g [] h = tt
each-mapped P g (x ∷ xs) h = (h.0, each-mapped P g xs h.1)

some-of : (most : ℕ) (o : Option (List ℕ)) → is_none o ≡ false → is_over most o ≡ false → (text : List ℕ) × (o ≡ Some text) × (nat_lt most (length text) ≡ false)
some-of most None h i = cc h
some-of most (Some text) h i = (text, refl, i)

-- ---- the settled data

module _ (b : Bounds) (functions : Functions) (given : Given) (tables : Tables) (model : ℕ) (now : Forest) (entries : List Entry)
    (due : IsDue b functions given tables model now entries) (none_passed : passed b (scope_of functions given tables model) entries (visits now.nodes) ≡ [])
    (room : nat_le ((now.next + length (calculates entries)) + length (calculates entries)) (2 ^ 127) ≡ true) where
  abbrev scope : Scope
  scope = scope_of functions given tables model

  abbrev contents : Contents
  contents = contents_of b functions given tables model now entries

  abbrev after : Forest
  after = settled_now b functions given tables model now entries

  abbrev in_the_end : Entry → Option (List ℕ)
  in_the_end e = text_of (Some b.string) scope (settled b scope entries (visits now.nodes)) e

  may : MayWrite now.next contents now
  may = may-write b functions given tables model now entries due

  stays : StaysWritten now.nodes after.nodes after.next
  stays = written-stays (λ n. true) contents now after.next may.trees due.hung may.settable (omega arith)

  small : nat_le after.next (2 ^ 127) ≡ true
  small = last-small b functions given tables model now entries due

  around-after : Surrounds scope b.string after
  around-after = record {
    trees = stays.trees;
    below = λ k h. less k (less-number after.next k after.nodes stays.trees.below (sym (seen-has k [] after.nodes) ∙ h)) small;
    hung = hung_forest after stays.trees stays.hung;
    documents = λ id n e. solid-by (visits after.nodes) (visits now.nodes) n stays.solid (due.around.documents id n e);
    extend = due.around.extend;
    truths = due.around.truths;
  }
    where
      less : (k : ℕ) → nat_lt k after.next ≡ true → nat_le after.next (2 ^ 127) ≡ true → nat_lt k (2 ^ 128) ≡ true
      less k h i = grind (arith, nat_tests, h, i)

  inside : (n : ℕ) → IsSolid (standing now) n → IsSolid (standing after) n
  inside n s = solid-by (standing after) (standing now) n stays.inside s

  due-after : IsDue b functions given tables model after entries
  due-after = record {
    covered = due.covered;
    around = around-after;
    applies = ap (applied_over scope) stays.shaped ∙ due.applies;
    acyclic = subst (λ sh. IsAcyclic (graph_over scope sh entries)) (sym stays.shaped) due.acyclic;
    documents = each_then (λ (d : Document). IsSolid (visits now.nodes) d.element) (λ (d : Document). IsSolid (visits after.nodes) d.element)
        (λ d s. solid-by (visits after.nodes) (visits now.nodes) d.element stays.solid s) given.documents due.documents;
    no_event = due.no_event;
    hung = stays.hung;
    instances = λ id n e. inside n (due.instances id n e);
    stand = each_then (λ e. IsSolid (standing now) e.node) (λ e. IsSolid (standing after) e.node) (λ e s. inside e.node s) entries due.stand;
    room = ap (λ k. nat_le ((now.next + k) + length (calculates entries)) (2 ^ 127)) (count-is b functions given tables model now entries due) ∙ room;
  }

  follows : Follows [] scope scope after
  follows = record { model = refl; stand = due-after.instances; each = λ id n e. inl e; none = λ id e. e }

  carried : Carried (λ k. k) (under after.next) [] [] scope given.documents after after
  carried = first_carried scope after stays.trees around-after.hung small follows

  -- ---- texts

  able-after : (e : Entry) → IsSettable e.node now → IsSettable e.node after
  able-after e able = settable-still (λ n. true) now.next contents now e.node after.next may able

  alike : AreAlike now.next now.nodes (holding (visits now.nodes) (filter (λ (p : ℕ × List ℕ). true) contents)) (visits after.nodes)
  alike = written-alike (λ n. true) now.next contents now may (room-left b functions given tables model now entries due)

  same-text : (e : Entry) → IsSolid (visits now.nodes) e.node → in_the_end e ≡ text_of (Some b.string) scope (visits after.nodes) e
  same-text e s =
      ap (λ c. text_of (Some b.string) scope (holding (visits now.nodes) c) e) (sym (all-kept contents))
      ∙ evaluated_text (Some b.string) functions given tables model (holding (visits now.nodes) (filter (λ (p : ℕ × List ℕ). true) contents)) (visits after.nodes) e
      (record { by = alike.by; renumbers = alike.renumbers; visits = alike.visits; surroundings = surroundings; node = fixed e.node s })
    where
      fixed : (n : ℕ) → IsSolid (visits now.nodes) n → alike.by n ≡ n
      fixed n i = let k = solid_numbers now n due.around.trees i in alike.stays n k.0 k.1

      surroundings : renumbered_given alike.by given ≡ given
      surroundings = surroundings_stay alike.by given (each_then (λ (d : Document). IsSolid (visits now.nodes) d.element) (λ (d : Document). alike.by d.element ≡ d.element) (λ d i. fixed d.element i) given.documents due.documents) due.no_event

  first_trees : Stands (alone now)
  first_trees = stands (alone now) (alone-trees now may.trees)

  are-ready : AreReady now.next contents first_trees.trees
  are-ready = ready now first_trees now.next may.later contents may.settable

  abbrev last_trees : Trees
  last_trees = put_all (λ n. true) now.next contents first_trees.trees

  after-is : after.nodes ≡ onto 0 last_trees []
  after-is = ap (written (λ n. true) now.next contents) first_trees.nodes ∙ written-onto (λ n. true) now.next contents first_trees.trees are-ready

  written-said : AllOf (λ e. says e.node (fitting b.limits.text (in_the_end e)) last_trees ≡ true) (calculates entries)
  written-said = each-mapped (λ (p : ℕ × List ℕ). says p.0 p.1 last_trees ≡ true) (content_by b scope (settled b scope entries (visits now.nodes))) (calculates entries)
      (subst (AllOf (λ (p : ℕ × List ℕ). says p.0 p.1 last_trees ≡ true)) (are-made b functions given tables model now entries due) (all-said now.next contents first_trees.trees are-ready may.different))

  -- no limit is passed by any
  abbrev long_ones : List Entry
  long_ones = filter (is_long b scope (settled b scope entries (visits now.nodes))) (filter is_computed entries)

  abbrev text_words : List Passed
  text_words = if_passed (list_any (λ (e : Entry). is_over b.limits.text (in_the_end e)) (calculates entries)) words.text

  abbrev node_words : List Passed
  node_words = if_passed (nat_lt b.limits.nodes (count_by (λ (x : Visit). not (is_root x.content)) (settled b scope entries (visits now.nodes)))) words.nodes

  abbrev size_words : List Passed
  size_words = if_passed (nat_lt b.limits.all (sum_by (λ (x : Visit). size_of x.content) (settled b scope entries (visits now.nodes)))) words.all_texts

  parts : (long_ones ≡ []) × (list_any (λ (e : Entry). is_over b.limits.text (in_the_end e)) (calculates entries) ≡ false)
  parts =
      let long_words : List Passed = map (λ (e : Entry). words.long e.node) long_ones in
      let one = append-parts ((long_words ++ text_words) ++ node_words) size_words none_passed in
      let two = append-parts (long_words ++ text_words) node_words one.0 in
      let three = append-parts long_words text_words two.0 in
      (mapped-none (λ (e : Entry). words.long e.node) long_ones three.0, unpassed (list_any (λ (e : Entry). is_over b.limits.text (in_the_end e)) (calculates entries)) words.text three.1)

  holds-at : (e : Entry) → IsSettable e.node now → IsSolid (visits now.nodes) e.node → says e.node (fitting b.limits.text (in_the_end e)) last_trees ≡ true → is_none (in_the_end e) ≡ false → is_over b.limits.text (in_the_end e) ≡ false →
      HoldsText b scope after.nodes e
  holds-at e able solid said known short =
      let r = some-of b.limits.text (in_the_end e) known short in
      let is_text : fitting b.limits.text (in_the_end e) ≡ r.0 = ap (fitting b.limits.text) r.1 ∙ ap (λ q. cond q [] r.0) r.2 in
      let able_then = able-after e able in
      let same : (stands-in after e.node stays.trees able_then).trees ≡ last_trees =
      (onto-inj 0 (stands-in after e.node stays.trees able_then).trees last_trees [] [] tt tt (sym (stands-in after e.node stays.trees able_then).nodes ∙ after-is)).0 in
      record {
        text = r.0;
        given = sym (same-text e solid) ∙ r.1;
        fits = r.2;
        stands = has-said after e.node stays.trees able_then r.0 ∙ ap (says e.node r.0) same ∙ ap (λ u. says e.node u last_trees) (sym is_text) ∙ said;
      }

  unlong : (e : Entry) → is_calculate e ≡ true → is_long b scope (settled b scope entries (visits now.nodes)) e ≡ false → is_none (in_the_end e) ≡ false
  unlong e c h =
      ap (λ q. q && is_none (in_the_end e)) (sym c)
      ∙ (or-false (is_none (value_of (Some b.string) scope (settled b scope entries (visits now.nodes)) e)) (is_calculate e && is_none (in_the_end e)) h).1

  abbrev Fits : Entry → Type 0
  Fits e = ((is_none (in_the_end e) ≡ false) × (is_over b.limits.text (in_the_end e) ≡ false)) × (says e.node (fitting b.limits.text (in_the_end e)) last_trees ≡ true)

  each-fits : AllOf Fits (calculates entries)
  each-fits = each_both _ _ (calculates entries)
      (each_both (λ e. is_none (in_the_end e) ≡ false) (λ e. is_over b.limits.text (in_the_end e) ≡ false) (calculates entries)
      (each_then _ _ (λ e h. unlong e h.0 h.1) (calculates entries)
      (each_both (λ e. is_calculate e ≡ true) (λ e. is_long b scope (settled b scope entries (visits now.nodes)) e ≡ false) (calculates entries) (each-calculate entries)
      (each-known (λ e. is_long b scope (settled b scope entries (visits now.nodes)) e ≡ false) entries (filtered-none (is_long b scope (settled b scope entries (visits now.nodes))) (filter is_computed entries) parts.0))))
      (each-none (λ (e : Entry). is_over b.limits.text (in_the_end e)) (calculates entries) parts.1))
      written-said

  each-holds : AllOf (λ e. IsSettable e.node after × HoldsText b scope after.nodes e) (calculates entries)
  each-holds =
      each_then _ _ (λ e h. (able-after e h.0.0, holds-at e h.0.0 h.0.1 h.1.1 h.1.0.0 h.1.0.1)) (calculates entries)
      (each_both _ Fits (calculates entries)
      (each_both (λ e. IsSettable e.node now) (λ e. IsSolid (visits now.nodes) e.node) (calculates entries) (each-settable b functions given tables model now entries due)
      (each-calculated (λ e. IsSolid (visits now.nodes) e.node) entries (entries_solid b functions given tables model now entries due.covered due.around due.applies)))
      each-fits)

  -- ---- what stood

  abbrev was : Before
  was = then_of b functions given tables model after entries

  abbrev Ready : Entry → Type 0
  Ready e = IsSolid (standing after) e.node × (is_calculate e ≡ true → IsSettable e.node after × HoldsText b scope after.nodes e)

  stood-at : (e : Entry) → Ready e → Stood (λ k. k) b scope was after (truly (record { entry = e; value = value_of (Some b.string) scope (visits after.nodes) e }))
  stood-at e h = record {
    node = h.0;
    number = λ s. refl;
    truth = refl;
    able = λ c. (h.1 c).0;
    text = λ c. (h.1 c).1;
  }

  stood-all : (es : List Entry) → AllOf Ready es → AllOf (Stood (λ k. k) b scope was after) (map truly (words.values_over b scope es (visits after.nodes)))
  stood-all [] h = tt
  stood-all (e ∷ es) h = by (is_computed e) (stood-all es h.1)
    where
      by : (c : Bool) → AllOf (Stood (λ k. k) b scope was after) (map truly (words.values_over b scope es (visits after.nodes))) →
          AllOf (Stood (λ k. k) b scope was after) (map truly (map (λ g. record { entry = g; value = value_of (Some b.string) scope (visits after.nodes) g }) (cond c (e ∷ filter is_computed es) (filter is_computed es))))
      by true rest = (stood-at e h.0, rest)
      by false rest = rest

  pub anew : Since (λ k. k) (under after.next) [] [] b functions given tables model was after entries
  anew = record {
    due = due-after;
    carried = carried;
    stood = stood-all entries (each_both (λ e. IsSolid (standing after) e.node) (λ e. is_calculate e ≡ true → IsSettable e.node after × HoldsText b scope after.nodes e) entries due-after.stand
        (each-if (λ e. IsSettable e.node after × HoldsText b scope after.nodes e) entries each-holds));
  }

pub since_anew_law : SinceAnew
since_anew_law b functions given tables model now entries due none_passed room = anew b functions given tables model now entries due none_passed room
