-- The settled nodes are those where the contents of pertinent calculates alone were written, and an entry that is passed over has its truth there.
use Rattle.std.proofs.Common.{◌≡◌, ℕ, suc, ◌+◌, ◌==◌, Bool, true, false, cond, ◌&&◌, ◌||◌, List, [], ◌∷◌, ◌++◌, map, find, length, Option, Some, option_map, refl, sym, ap, ◌∙◌, subst, inl, inr, append_assoc, arith}
use Rattle.std.specs.List.{list_any}
use Rattle.std.proofs.lemmas.Bool.{eqb-true}
use Rattle.xf_def_syntax.specs.declared.form.Tables.{Tables}
use Rattle.xf_def_forest.specs.declared.content.Node.{Node}
use Rattle.xf_def_forest.specs.Forest.{Forest}
use Rattle.xf_def_forest.specs.Settle.{has_text, with_numbered_text, with_settled_text}
use Rattle.xf_def_forest.specs.Visit.{visits, has}
use Rattle.xf_def_forest.proofs.BackLaws.{and-true}
use Rattle.xf_def_values.specs.Functions.{Functions}
use Rattle.xf_def_xpath.specs.Given.{Given}
use Rattle.xf_def_xpath.proofs.VisitFacts.{no, self-same, turned, or-cases, or-left, or-right, some-same, none-some}
use Rattle.xf_def_model.specs.Rules.{Scope, scope_of}
use Rattle.xf_def_model.specs.Applied.{Entry}
use Rattle.xf_def_model.specs.Entries.{text_of, value_of}
use Rattle.xf_def_model.specs.Settled.{Bounds, Contents, content_of, content_by, calculates, fitting, settled}
use Rattle.xf_def_model.specs.Pertinent.{Changes, AllOf}
use Rattle.xf_def_model.proofs.CircularLemmas.{StandsAt}
use Rattle.xf_def_model.proofs.EachLemmas.{of_each, each_then, each_both}
use Rattle.xf_law_recalculation.specs.Agree.InTurn.{AreSingle, AreInTurn}
use Rattle.xf_law_recalculation.proofs.AgreeLemmas.TurnLists.{all-append, all-later, at-stands, each-none, each-stands}
use Rattle.xf_law_recalculation.proofs.AgreeLemmas.InTurnLaws.{each-in_turn, stands-in_turn}
use Rattle.xf_law_forests.specs.Settle.Written.{written, and_one, nodes_of, MayWrite}
use Rattle.xf_law_forests.proofs.SettleLemmas.KindLemmas.{and-none}
use Rattle.xf_law_forests.proofs.SettleLemmas.Put.{with_one}
use Rattle.xf_law_forests.proofs.SettleLemmas.WrittenLaws.{one-more}
use Rattle.xf_law_recalculation.specs.Marks.Outside.{IsOutside}
use Rattle.xf_law_recalculation.proofs.MarksLemmas.Behind.{append-none}
use Rattle.xf_law_recalculation.specs.Written.Turn.{AreTurned, contents_of}
use Rattle.xf_law_recalculation.proofs.WrittenLemmas.TurnLaws.{turn, turn_text, turn_content}
use Rattle.xf_law_recalculation.specs.Since.Since.{Before, Since, Stood, HoldsText, kept_of, changes_since}
use Rattle.xf_law_recalculation.specs.Since.Pertinent.{is_written, AreOrdered, PertinentWritten, PertinentTruth, PassedTurn}
use Rattle.xf_law_recalculation.proofs.SinceLemmas.Contents.{are-made, count-is, may-write, room-left}
use Rattle.xf_law_recalculation.proofs.SinceLemmas.Passed.{unwritten-outside}
use Rattle.xf_law_recalculation.proofs.SinceLemmas.PassedText.{all-hold, truth-kept}

-- ---- which are done

written-same : (one other : ℕ → Bool) (number : ℕ) (contents : Contents) (nodes : List Node) → ((n : ℕ) → has n (nodes_of contents) ≡ true → one n ≡ other n) →
    written one number contents nodes ≡ written other number contents nodes
written-same one other number [] nodes h = refl
written-same one other number ((n, text) ∷ rest) nodes h =
    ap (λ b. written one (suc number) rest (cond b (with_settled_text number n text nodes) nodes)) (h n (or-left (n == n) (has n (nodes_of rest)) (self-same n)))
    ∙ written-same one other (suc number) rest (cond (other n) (with_settled_text number n text nodes) nodes) (λ m i. h m (or-right (m == n) (has m (nodes_of rest)) i))

-- the content of a node, in its place
split-at : (contents : Contents) (n : ℕ) (text : List ℕ) → content_of contents n ≡ Some text → (front : Contents) × (back : Contents) × (contents ≡ with_one front n text back)
split-at [] n text h = none-some h
split-at ((m, u) ∷ rest) n text h = by (m == n) refl h (split-at rest n text)
  where
    by : (b : Bool) → (m == n) ≡ b → option_map (λ (p : ℕ × List ℕ). p.1) (cond b (Some (m, u)) (find (λ p. p.0 == n) rest)) ≡ Some text →
        (content_of rest n ≡ Some text → (front : Contents) × (back : Contents) × (rest ≡ with_one front n text back)) → (front : Contents) × (back : Contents) × ((m, u) ∷ rest ≡ with_one front n text back)
    by true e i later = ([], rest, ap (λ k. (k, u) ∷ rest) (eqb-true m n e) ∙ ap (λ v. (n, v) ∷ rest) (some-same i))
    by false e i later = let r = later i in ((m, u) ∷ r.0, r.1, ap (λ l. (m, u) ∷ l) r.2)

-- ---- entries that came before

abbrev comes_in : List Entry → ℕ → Bool
comes_in es n = list_any (λ (e : Entry). e.node == n) es

each-comes : (es : List Entry) → AllOf (λ e. comes_in es e.node ≡ true) es
each-comes [] = tt
each-comes (e ∷ es) = (
  or-left (e.node == e.node) (comes_in es e.node) (self-same e.node),
  each_then _ _ (λ g h. or-right (e.node == g.node) (comes_in es g.node) h) es (each-comes es),
)

none-comes : (xs ys : List Entry) → AreSingle (xs ++ ys) → AllOf (λ e. comes_in xs e.node ≡ false) ys
none-comes [] ys h = of_each _ (λ e. refl) ys
none-comes (x ∷ xs) ys h =
    each_then _ _ (λ g p. ap (λ b. b || comes_in xs g.node) (turned x.node g.node ∙ p.0) ∙ p.1) ys
    (each_both (λ (g : Entry). (g.node == x.node) ≡ false) (λ g. comes_in xs g.node ≡ false) ys
    (all-later (λ (g : Entry). (g.node == x.node) ≡ false) xs ys (each-none (λ (g : Entry). g.node == x.node) (xs ++ ys) h.0)) (none-comes xs ys h.1))

comes-more : (xs : List Entry) (e : Entry) (n : ℕ) → comes_in (xs ++ e ∷ []) n ≡ and_one e.node (comes_in xs) n
comes-more [] e n = ap (λ b. b || false) (turned e.node n)
comes-more (x ∷ xs) e n = ap (λ b. (x.node == n) || b) (comes-more xs e n) ∙ swap (x.node == n) (n == e.node) (comes_in xs n)
  where
    swap : (a b c : Bool) → (a || (b || c)) ≡ (b || (a || c))
    swap true true c = refl
    swap true false c = refl
    swap false b c = refl

at-nodes : (P : ℕ → Type 0) (made : Entry → ℕ × List ℕ) → ((e : Entry) → (made e).0 ≡ e.node) → (es : List Entry) → AllOf (λ e. P e.node) es → (n : ℕ) → has n (nodes_of (map made es)) ≡ true → P n
at-nodes P made of_made [] h n i = no i
at-nodes P made of_made (e ∷ es) h n i = elim (or-cases (n == (made e).0) (has n (nodes_of (map made es))) i) [
  | inl same ↦ subst P (sym (eqb-true n (made e).0 same ∙ of_made e)) h.0
  | inr rest ↦ at-nodes P made of_made es h.1 n rest
]

module _ (f : ℕ → ℕ) (taken : ℕ → Bool) (texts lists : List ℕ) (b : Bounds) (functions : Functions) (given : Given) (tables : Tables) (model : ℕ) (was : Before) (now : Forest) (entries es : List Entry)
    (since : Since f taken texts lists b functions given tables model was now entries) (order : AreOrdered functions given tables model now entries es) where
  abbrev scope : Scope
  scope = scope_of functions given tables model

  abbrev changes : Changes
  changes = changes_since texts lists was

  abbrev contents : Contents
  contents = contents_of b functions given tables model now entries

  abbrev writes : ℕ → Bool
  writes n = is_written functions given tables model now entries changes n

  abbrev first : ℕ
  first = now.next

  -- the nodes with those done that came before, all of them or the pertinent ones
  abbrev all_before : List Entry → List Node
  all_before before = written (comes_in before) first contents now.nodes

  abbrev some_before : List Entry → ℕ → Bool
  some_before before n = comes_in before n && writes n

  abbrev few_before : List Entry → List Node
  few_before before = written (some_before before) first contents now.nodes

  may : MayWrite first contents now
  may = may-write b functions given tables model now entries since.due

  turned-so : AreTurned b functions given tables model now entries es
  turned-so = record {
    covered = since.due.covered;
    around = since.due.around;
    applies = since.due.applies;
    ordered = order.ordered;
    documents = since.due.documents;
    no_event = since.due.no_event;
    room = let same = count-is b functions given tables model now entries since.due in let fits = room-left b functions given tables model now entries since.due in omega (arith, same, fits);
  }

  in-turn : AreInTurn b scope entries now es
  in-turn = turn b functions given tables model now entries es turned-so

  -- ---- one more

  module _ (before after : List Entry) (e : Entry) (split : es ≡ before ++ e ∷ after) (same : all_before before ≡ few_before before) where
    none_yet : AllOf (λ g. comes_in before g.node ≡ false) (e ∷ after)
    none_yet = none-comes before (e ∷ after) (subst AreSingle split order.single)

    -- its settled text
    abbrev given_text : Option (List ℕ)
    given_text = text_of (Some b.string) scope (settled b scope entries (visits now.nodes)) e

    here : content_of contents e.node ≡ Some (fitting b.limits.text given_text)
    here = (all-later (λ (g : Entry). content_of contents g.node ≡ Some (fitting b.limits.text (text_of (Some b.string) scope (settled b scope entries (visits now.nodes)) g))) before (e ∷ after)
        (subst (AllOf (λ (g : Entry). content_of contents g.node ≡ Some (fitting b.limits.text (text_of (Some b.string) scope (settled b scope entries (visits now.nodes)) g)))) split
        (turn_content b functions given tables model now entries es turned-so))).0

    in-its-turn : text_of (Some b.string) scope (visits (all_before before)) e ≡ given_text
    in-its-turn = turn_text b functions given tables model now entries es turned-so before after e split (comes_in before) (each-comes before) none_yet

    at-this : (P : Entry → Type 0) → AllOf P (calculates entries) → P e
    at-this P h = (all-later P before (e ∷ after) (subst (AllOf P) split (each-in_turn b scope entries now es in-turn P h))).0

    holds : IsOutside scope now changes entries e → HoldsText b scope (few_before before) e
    holds = at-this (λ g. IsOutside scope now changes entries g → HoldsText b scope (few_before before) g)
        (all-hold f taken texts lists b functions given tables model was now entries since (some_before before) (λ n d. (and-true (comes_in before n) (writes n) d).1))

    abbrev number_for : (text : List ℕ) → content_of contents e.node ≡ Some text → ℕ
    number_for text is = first + length (split-at contents e.node text is).0

    more : (done : ℕ → Bool) (text : List ℕ) (is : content_of contents e.node ≡ Some text) → done e.node ≡ false →
        with_settled_text (number_for text is) e.node text (written done first contents now.nodes) ≡ written (and_one e.node done) first contents now.nodes
    more done text is undone =
        let r = split-at contents e.node text is in
        ap (λ c. with_settled_text (first + length r.0) e.node text (written done first c now.nodes)) r.2
        ∙ one-more done first e.node text r.0 r.1 now (subst (λ c. MayWrite first c now) r.2 may) undone
        ∙ ap (λ c. written (and_one e.node done) first c now.nodes) (sym r.2)

    all-more : written (comes_in (before ++ e ∷ [])) first contents now.nodes ≡ written (and_one e.node (comes_in before)) first contents now.nodes
    all-more = written-same (comes_in (before ++ e ∷ [])) (and_one e.node (comes_in before)) first contents now.nodes (λ n i. comes-more before e n)

    step-written : writes e.node ≡ true → all_before (before ++ e ∷ []) ≡ few_before (before ++ e ∷ [])
    step-written w =
        all-more ∙ sym (more (comes_in before) (fitting b.limits.text given_text) here none_yet.0)
        ∙ ap (with_settled_text (number_for (fitting b.limits.text given_text) here) e.node (fitting b.limits.text given_text)) same
        ∙ more (some_before before) (fitting b.limits.text given_text) here (ap (λ d. d && writes e.node) none_yet.0)
        ∙ written-same (and_one e.node (some_before before)) (some_before (before ++ e ∷ [])) first contents now.nodes (λ n i. by n (n == e.node) refl ∙ ap (λ c. c && writes n) (sym (comes-more before e n)))
      where
        by : (n : ℕ) (c : Bool) → (n == e.node) ≡ c → (c || (comes_in before n && writes n)) ≡ ((c || comes_in before n) && writes n)
        by n true q = sym (ap writes (eqb-true n e.node q) ∙ w)
        by n false q = refl

    step-passed : writes e.node ≡ false → HoldsText b scope (few_before before) e → all_before (before ++ e ∷ []) ≡ few_before (before ++ e ∷ [])
    step-passed w h =
        let is_text : given_text ≡ Some h.text = sym in-its-turn ∙ ap (λ l. text_of (Some b.string) scope (visits l) e) same ∙ h.given in
        let is : content_of contents e.node ≡ Some h.text = here ∙ ap (λ o. Some (fitting b.limits.text o)) is_text ∙ ap (λ q. Some (cond q [] h.text)) h.fits in
        let there : has_text e.node h.text (all_before before) ≡ true = ap (has_text e.node h.text) same ∙ h.stands in
        all-more ∙ sym (more (comes_in before) h.text is none_yet.0)
        ∙ ap (λ q. cond q (all_before before) (with_numbered_text (number_for h.text is) e.node h.text (all_before before))) there
        ∙ same
        ∙ written-same (some_before before) (some_before (before ++ e ∷ [])) first contents now.nodes (λ n i. by n (n == e.node) refl ∙ ap (λ c. c && writes n) (sym (comes-more before e n)))
      where
        by : (n : ℕ) (c : Bool) → (n == e.node) ≡ c → (comes_in before n && writes n) ≡ ((c || comes_in before n) && writes n)
        by n true q = let off : writes n ≡ false = ap writes (eqb-true n e.node q) ∙ w in ap (λ d. comes_in before n && d) off ∙ and-none (comes_in before n) ∙ sym off
        by n false q = refl

    step : all_before (before ++ e ∷ []) ≡ few_before (before ++ e ∷ [])
    step = by (writes e.node) refl
      where
        by : (c : Bool) → writes e.node ≡ c → all_before (before ++ e ∷ []) ≡ few_before (before ++ e ∷ [])
        by true w = step-written w
        by false w = step-passed w (holds (at-this (λ g. writes g.node ≡ false → IsOutside scope now changes entries g) (unwritten-outside functions given tables model now entries changes) w))

  along : (before after : List Entry) → es ≡ before ++ after → all_before before ≡ few_before before → all_before es ≡ few_before es
  along before [] split same = subst (λ l. all_before l ≡ few_before l) (sym (split ∙ append-none before)) same
  along before (e ∷ after) split same = along (before ++ e ∷ []) after (split ∙ sym (append_assoc before (e ∷ []) after)) (step before after e split same)

  all-come : (n : ℕ) → has n (nodes_of contents) ≡ true → comes_in es n ≡ true
  all-come n h =
      at-nodes (λ k. comes_in es k ≡ true) (content_by b scope (settled b scope entries (visits now.nodes))) (λ e. refl) (calculates entries)
      (each_then (λ e. (k : ℕ) × StandsAt (calculates entries) k e) (λ e. comes_in es e.node ≡ true) (λ e s.
      let r = stands-in_turn b scope entries now es in-turn s.0 e s.1 in at-stands (λ g. comes_in es g.node ≡ true) es r.0 e (each-comes es) r.1) (calculates entries) (each-stands (calculates entries)))
      n (sym (ap (λ c. has n (nodes_of c)) (are-made b functions given tables model now entries since.due)) ∙ h)

  pub all-written : written (λ n. true) first contents now.nodes ≡ written writes first contents now.nodes
  all-written =
      written-same (λ n. true) (comes_in es) first contents now.nodes (λ n i. sym (all-come n i))
      ∙ along [] es refl (written-same (comes_in []) (some_before []) first contents now.nodes (λ n i. refl))
      ∙ written-same (some_before es) writes first contents now.nodes (λ n i. ap (λ c. c && writes n) (all-come n i))

  -- ---- one that is passed over in its turn

  grow : (front back after : List Entry) → es ≡ front ++ (back ++ after) → all_before front ≡ few_before front → all_before (front ++ back) ≡ few_before (front ++ back)
  grow front [] after split same = subst (λ l. all_before l ≡ few_before l) (sym (append-none front)) same
  grow front (e ∷ back) after split same =
      subst (λ l. all_before l ≡ few_before l) (append_assoc front (e ∷ []) back)
      (grow (front ++ e ∷ []) back after (split ∙ sym (append_assoc front (e ∷ []) (back ++ after))) (step front (back ++ after) e split same))

  few-first : (before after : List Entry) → es ≡ before ++ after → all_before before ≡ few_before before
  few-first before after split = grow [] before after split (written-same (comes_in []) (some_before []) first contents now.nodes (λ n i. refl))

  each-comes_as : (before after : List Entry) (e : Entry) → es ≡ before ++ e ∷ after → (done : ℕ → Bool) → AllOf (λ g. done g.node ≡ true) before → AllOf (λ g. done g.node ≡ false) (e ∷ after) →
      AllOf (λ g. comes_in before g.node ≡ done g.node) es
  each-comes_as before after e split done did left =
      subst (AllOf (λ g. comes_in before g.node ≡ done g.node)) (sym split)
      (all-append (λ g. comes_in before g.node ≡ done g.node) before (e ∷ after)
      (each_then (λ (g : Entry). (comes_in before g.node ≡ true) × (done g.node ≡ true)) _ (λ g h. h.0 ∙ sym h.1) before (each_both _ _ before (each-comes before) did))
      (each_then (λ (g : Entry). (comes_in before g.node ≡ false) × (done g.node ≡ false)) _ (λ g h. h.0 ∙ sym h.1) (e ∷ after)
      (each_both _ _ (e ∷ after) (none-comes before (e ∷ after) (subst AreSingle split order.single)) left)))

  comes-as : (before : List Entry) (done : ℕ → Bool) → AllOf (λ g. comes_in before g.node ≡ done g.node) es → (n : ℕ) → has n (nodes_of contents) ≡ true → comes_in before n ≡ done n
  comes-as before done each n h =
      at-nodes (λ k. comes_in before k ≡ done k) (content_by b scope (settled b scope entries (visits now.nodes))) (λ e. refl) (calculates entries)
      (each_then (λ e. (k : ℕ) × StandsAt (calculates entries) k e) (λ e. comes_in before e.node ≡ done e.node) (λ e s.
      let r = stands-in_turn b scope entries now es in-turn s.0 e s.1 in at-stands (λ g. comes_in before g.node ≡ done g.node) es r.0 e each r.1) (calculates entries) (each-stands (calculates entries)))
      n (sym (ap (λ c. has n (nodes_of c)) (are-made b functions given tables model now entries since.due)) ∙ h)

  pub turn-passed : (before after : List Entry) (e : Entry) → es ≡ before ++ e ∷ after → IsOutside scope now changes entries e →
      (done : ℕ → Bool) → AllOf (λ g. done g.node ≡ true) before → AllOf (λ g. done g.node ≡ false) (e ∷ after) → HoldsText b scope (written done first contents now.nodes) e
  turn-passed before after e split out done did left =
      let same = few-first before (e ∷ after) split in
      subst (λ nodes. HoldsText b scope nodes e)
      (sym same ∙ written-same (comes_in before) done first contents now.nodes (comes-as before done (each-comes_as before after e split done did left)))
      (holds before after e split same out)

pub passed_turn : PassedTurn
passed_turn f taken texts lists b functions given tables model was now entries es since order before after e split out done did left =
    turn-passed f taken texts lists b functions given tables model was now entries es since order before after e split out done did left

pub pertinent_written : PertinentWritten
pertinent_written f taken texts lists b functions given tables model was now entries es since order = all-written f taken texts lists b functions given tables model was now entries es since order

pub pertinent_truth : PertinentTruth
pertinent_truth f taken texts lists b functions given tables model was now entries es since order e expr solid of out =
    each_then (Stood f b (scope_of functions given tables model) was now) _ (λ v st is.
    ap (λ l. kept_of (value_of (Some b.string) (scope_of functions given tables model) (visits l) e)) (pertinent_written f taken texts lists b functions given tables model was now entries es since order)
    ∙ truth-kept f taken texts lists b functions given tables model was now entries since (λ n. is_written functions given tables model now entries (changes_since texts lists was) n) (λ n d. d) e expr solid of out v st is)
    was.stood since.stood
