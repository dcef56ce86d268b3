-- Calculates that are evaluated in an order of their graph have the settled texts: those that are still to come are read by none before.
use Rattle.std.proofs.Common.{◌≡◌, ℕ, ◌==◌, Bool, true, false, cond, List, [], ◌∷◌, ◌++◌, map, find, length, Some, None, option_map, refl, sym, ap, ◌∙◌, subst, arith}
use Rattle.std.specs.Prelude.{filter}
use Rattle.std.specs.List.{list_any}
use Rattle.std.proofs.Math.Path.{fun_ext}
use Rattle.std.proofs.lemmas.Bool.{eqb-true, lt-ltb}
use Rattle.xf_def_forest.specs.Forest.{Forest}
use Rattle.xf_def_forest.specs.Visit.{Visit, visits}
use Rattle.xf_def_forest.specs.Shape.{shape, with_contents}
use Rattle.xf_graph.specs.Edges.{has}
use Rattle.xf_graph.specs.Order.{ReadsBack}
use Rattle.xf_graph.proofs.Laws.{IsAcyclic-from_order}
use Rattle.xf_def_xpath.proofs.VisitFacts.{no}
use Rattle.xf_def_model.specs.Rules.{Scope}
use Rattle.xf_def_model.specs.Applied.{Entry}
use Rattle.xf_def_model.specs.Entries.{reads_of, touches, text_of}
use Rattle.xf_def_model.specs.Circular.{Reader, by_nodes, calculated, graph_over}
use Rattle.xf_def_model.specs.Settled.{Bounds, Contents, content_of, holding, calculates, content_by, round, settled_contents, settled, fitting}
use Rattle.xf_def_model.specs.Pertinent.{AllOf}
use Rattle.xf_def_model.specs.Stands.{IsSettled, AreCalculated, AgreeFor}
use Rattle.xf_def_model.proofs.EachLemmas.{each_then}
use Rattle.xf_def_model.proofs.CircularLemmas.{StandsAt, stands-within, stands-map, edge-found, size-of_graph, within-graph, stands-by_nodes}
use Rattle.xf_law_recalculation.specs.Agree.InTurn.{in_turn, AtPlaces, AreInTurn, InTurnContents, InTurnSettled, InTurnTexts}
use Rattle.xf_law_recalculation.proofs.AgreeLemmas.TurnLists.{all-later, at-stands, none-any, each-none, got-stands, each-at_place, stands-at_place, each-by_nodes, find-permuted}
use Rattle.xf_law_recalculation.proofs.AgreeLemmas.SettledStatic.{one-text, settles_once}

-- ---- contents with one more

push-else : (n : ℕ) (p : ℕ × List ℕ) (contents : Contents) → (p.0 == n) ≡ false → content_of (contents ++ p ∷ []) n ≡ content_of contents n
push-else n p contents h = ap (option_map (λ (q : ℕ × List ℕ). q.1)) (by contents)
  where
    by : (qs : Contents) → find (λ q. q.0 == n) (qs ++ p ∷ []) ≡ find (λ q. q.0 == n) qs
    by [] = ap (λ b. cond b (Some p) None) h
    by (q ∷ qs) = ap (λ rest. cond (q.0 == n) (Some q) rest) (by qs)

module _ (b : Bounds) (scope : Scope) (all : List Visit) where
  -- what is made in turn
  pub made_in : List Entry → Contents → Contents
  made_in [] contents = []
  made_in (e ∷ es) contents = content_by b scope (holding all contents) e ∷ made_in es (contents ++ content_by b scope (holding all contents) e ∷ [])

  append-one : (xs : Contents) (p : ℕ × List ℕ) (ys : Contents) → (xs ++ p ∷ []) ++ ys ≡ xs ++ p ∷ ys
  append-one [] p ys = refl
  append-one (x ∷ xs) p ys = ap (λ l. x ∷ l) (append-one xs p ys)

  turn-made : (es : List Entry) (contents : Contents) → in_turn b scope all es contents ≡ contents ++ made_in es contents
  unfolding made_in
  turn-made [] contents = sym (nil contents)
    where
      nil : (xs : Contents) → xs ++ [] ≡ xs
      nil [] = refl
      nil (x ∷ xs) = ap (λ l. x ∷ l) (nil xs)
  turn-made (e ∷ es) contents =
      let p = content_by b scope (holding all contents) e in
      turn-made es (contents ++ p ∷ []) ∙ append-one contents p (made_in es (contents ++ p ∷ []))

  -- a node without an entry to come keeps its content
  pub turn-else : (n : ℕ) (es : List Entry) (contents : Contents) → list_any (λ e. e.node == n) es ≡ false → content_of (in_turn b scope all es contents) n ≡ content_of contents n
  turn-else n [] contents h = refl
  turn-else n (e ∷ es) contents h =
      let none = each-none (λ (f : Entry). f.node == n) (e ∷ es) h in
      turn-else n es (contents ++ content_by b scope (holding all contents) e ∷ []) (none-any (λ (f : Entry). f.node == n) es none.1)
      ∙ push-else n (content_by b scope (holding all contents) e) contents none.0

  pub turn-append : (before after : List Entry) (contents : Contents) → in_turn b scope all (before ++ after) contents ≡ in_turn b scope all after (in_turn b scope all before contents)
  turn-append [] after contents = refl
  turn-append (e ∷ es) after contents = turn-append es after (contents ++ content_by b scope (holding all contents) e ∷ [])

  -- ---- none reads what is to come

  abbrev pub ReadsNone : List Entry → Entry → Type 0
  ReadsNone es e = AllOf (λ x. touches (shape all) (reads_of scope (shape all) e) x.node ≡ false) es

  abbrev pub AreReadBack : List Entry → Type 0
  AreReadBack [] = Unit {0}
  AreReadBack (e ∷ es) = ReadsNone (e ∷ es) e × AreReadBack es

  pub back-later : (before after : List Entry) → AreReadBack (before ++ after) → AreReadBack after
  back-later [] after h = h
  back-later (e ∷ es) after h = back-later es after h.1

  pub untouched : (e : Entry) (es : List Entry) → ReadsNone es e → (n : ℕ) → touches (shape all) (reads_of scope (shape all) e) n ≡ true → list_any (λ x. x.node == n) es ≡ false
  untouched e es h n touched = none-any (λ (x : Entry). x.node == n) es (each_then _ (λ (x : Entry). (x.node == n) ≡ false) (λ x off. of x off (x.node == n) refl) es h)
    where
      of : (x : Entry) → touches (shape all) (reads_of scope (shape all) e) x.node ≡ false → (c : Bool) → (x.node == n) ≡ c → c ≡ false
      of x off true i = no (sym off ∙ ap (touches (shape all) (reads_of scope (shape all) e)) (eqb-true x.node n i) ∙ touched)
      of x off false i = refl

  module _ (entries : List Entry) where
    -- one text over data that agree for the entry
    abbrev pub AgreesText : Entry → Type 0
    AgreesText e = (one other : Contents) → AreCalculated entries one → AreCalculated entries other → AgreeFor scope all e one other →
        text_of (Some b.string) scope (holding all one) e ≡ text_of (Some b.string) scope (holding all other) e

    abbrev AreWithin : List Entry → Type 0
    AreWithin es = (n : ℕ) → list_any (λ e. e.node == n) (calculates entries) ≡ false → list_any (λ e. e.node == n) es ≡ false

    pub turn-calculated : (es : List Entry) (contents : Contents) → AreWithin es → AreCalculated entries contents → AreCalculated entries (in_turn b scope all es contents)
    turn-calculated es contents h of_contents n none = turn-else n es contents (h n none) ∙ of_contents n none

    -- the text of the next one is the one in the end
    pub text-stays : (e : Entry) (es : List Entry) (contents : Contents) → AgreesText e → ReadsNone (e ∷ es) e → AreWithin (e ∷ es) → AreCalculated entries contents →
        text_of (Some b.string) scope (holding all contents) e ≡ text_of (Some b.string) scope (holding all (in_turn b scope all (e ∷ es) contents)) e
    text-stays e es contents agrees reads h of_contents =
        agrees contents (in_turn b scope all (e ∷ es) contents) of_contents (turn-calculated (e ∷ es) contents h of_contents)
        (λ n touched. sym (turn-else n (e ∷ es) contents (untouched e (e ∷ es) reads n touched)))

    one-less : (e : Entry) (es : List Entry) → AreWithin (e ∷ es) → AreWithin es
    one-less e es h n none = none-any (λ (f : Entry). f.node == n) es (each-none (λ (f : Entry). f.node == n) (e ∷ es) (h n none)).1

    pushed : (e : Entry) (es : List Entry) (contents : Contents) → AreWithin (e ∷ es) → AreCalculated entries contents → AreCalculated entries (contents ++ content_by b scope (holding all contents) e ∷ [])
    pushed e es contents h of_contents n none =
        push-else n (content_by b scope (holding all contents) e) contents (each-none (λ (f : Entry). f.node == n) (e ∷ es) (h n none)).0 ∙ of_contents n none

    -- so each has in the end what its expression gives in the end
    pub made-settled : (es : List Entry) (contents : Contents) → AllOf AgreesText es → AreReadBack es → AreWithin es → AreCalculated entries contents →
        made_in es contents ≡ map (content_by b scope (holding all (in_turn b scope all es contents))) es
    unfolding made_in
    made-settled [] contents agrees back h of_contents = refl
    made-settled (e ∷ es) contents agrees back h of_contents =
        ap (λ t. (e.node, fitting b.limits.text t) ∷ made_in es (contents ++ content_by b scope (holding all contents) e ∷ [])) (text-stays e es contents agrees.0 back.0 h of_contents)
        ∙ ap (λ l. content_by b scope (holding all (in_turn b scope all (e ∷ es) contents)) e ∷ l)
        (made-settled es (contents ++ content_by b scope (holding all contents) e ∷ []) agrees.1 back.1 (one-less e es h) (pushed e es contents h of_contents))

-- ---- the calculates in an order of their graph

module _ (b : Bounds) (scope : Scope) (entries : List Entry) (forest : Forest) (es : List Entry) (t : AreInTurn b scope entries forest es) where
  abbrev all : List Visit
  all = visits forest.nodes

  abbrev nodes_in : List Entry
  nodes_in = by_nodes (shape all) (calculates entries)

  reader : Entry → Reader
  reader e = record { node = e.node; reads = reads_of scope (shape all) e }

  abbrev readers : List Reader
  readers = calculated scope (shape all) entries

  -- facts of each calculate are facts of each
  pub each-in_turn : (P : Entry → Type 0) → AllOf P (calculates entries) → AllOf P es
  each-in_turn P h = each-at_place P nodes_in t.ordered.places es t.ordered.at_places (λ k x i s. at-stands P nodes_in k x (each-by_nodes P (shape all) (calculates entries) h) s)

  is_place : (k : ℕ) (e : Entry) → StandsAt nodes_in k e → has t.ordered.places k ≡ true
  unfolding reader
  is_place k e s =
      let less = stands-within readers k (reader e) (stands-map (λ (f : Entry). record { node = f.node; reads = reads_of scope (shape all) f }) nodes_in k e s) in
      let same = size-of_graph (shape all) readers in
      t.ordered.order.all k ∙ lt-ltb k (length (graph_over scope (shape all) entries)) (omega (arith, less, same))

  -- and each calculate is there
  pub stands-in_turn : (k : ℕ) (e : Entry) → StandsAt (calculates entries) k e → (j : ℕ) × StandsAt es j e
  stands-in_turn k e s =
      let at = stands-by_nodes (shape all) (calculates entries) e k s (at-stands (λ (f : Entry). length (filter (λ x. f.node == x.number) (shape all)) ≡ 1) (calculates entries) k e t.standing s) in
      stands-at_place nodes_in t.ordered.places es t.ordered.at_places at.0 e (is_place at.0 e at.1) at.1

  lacks : (c : Bool) → (c ≡ true → false ≡ true) → c ≡ false
  lacks true h = sym (h refl)
  lacks false h = refl

  back-from : (places : List ℕ) (xs : List Entry) → AtPlaces nodes_in places xs → ReadsBack (graph_over scope (shape all) entries) places → AreReadBack b scope all xs
  unfolding reader
  back-from [] [] a r = tt
  back-from [] (e ∷ xs) a r = absurd a
  back-from (p ∷ ps) [] a r = absurd a
  back-from (p ∷ ps) (e ∷ xs) a r = (
    each-at_place (λ x. touches (shape all) (reads_of scope (shape all) e) x.node ≡ false) nodes_in (p ∷ ps) (e ∷ xs) a
        (λ k x i s. lacks (touches (shape all) (reads_of scope (shape all) e) x.node) (λ touched.
        sym (r.0 k i) ∙ edge-found (shape all) readers k p (reader x) (reader e)
        (stands-map (λ (f : Entry). record { node = f.node; reads = reads_of scope (shape all) f }) nodes_in k x s)
        (stands-map (λ (f : Entry). record { node = f.node; reads = reads_of scope (shape all) f }) nodes_in p e (got-stands nodes_in p e a.0)) touched)),
    back-from ps xs a.1 r.1,
  )

  pub back : AreReadBack b scope all es
  back = back-from t.ordered.places es t.ordered.at_places t.ordered.order.reads_back

  abbrev pub Within : (n : ℕ) → Type 0
  Within n = list_any (λ e. e.node == n) (calculates entries) ≡ false

  none-of : (n : ℕ) → Within n → AllOf (λ e. (e.node == n) ≡ false) (calculates entries)
  none-of n h = each-none (λ (e : Entry). e.node == n) (calculates entries) h

  pub within : (n : ℕ) → Within n → list_any (λ e. e.node == n) es ≡ false
  within n h = none-any (λ (e : Entry). e.node == n) es (each-in_turn (λ e. (e.node == n) ≡ false) (none-of n h))

  abbrev pub Agreeing : Entry → Type 0
  Agreeing e = AgreesText b scope all entries e

  pub agreeing : AllOf Agreeing es
  agreeing = each-in_turn Agreeing (each_then _ Agreeing (λ e s one other of_one of_other agree. one-text b scope entries forest t.around t.static e s one other of_one of_other agree) (calculates entries) t.static)

  abbrev pub ended : Contents
  ended = in_turn b scope all es []

  nothing : AreCalculated entries []
  nothing n h = refl

  -- each has what its expression gives
  ended-settled : ended ≡ map (content_by b scope (holding all ended)) es
  ended-settled = turn-made b scope all es [] ∙ made-settled b scope all entries es [] agreeing back within nothing

  -- the same contents in the order of the entries
  abbrev next : Contents
  next = round b scope entries all ended

  same-content : (n : ℕ) → content_of next n ≡ content_of ended n
  same-content n =
      ap (option_map (λ (p : ℕ × List ℕ). p.1))
      (sym (find-permuted (content_by b scope (holding all ended)) (λ e. refl) (calculates entries) es t.single each-in_turn stands-in_turn n)
      ∙ ap (find (λ (p : ℕ × List ℕ). p.0 == n)) (sym ended-settled))

  same-held : holding all next ≡ holding all ended
  same-held = ap (λ g. with_contents g all) (fun_ext same-content)

  is-settled : IsSettled b scope entries all next
  is-settled = ap (λ xs. map (content_by b scope xs) (calculates entries)) (sym same-held)

  is-next : next ≡ settled_contents b scope entries all
  is-next = settles_once b scope entries forest t.around t.static t.standing
      (IsAcyclic-from_order (graph_over scope (shape all) entries) (within-graph (shape all) readers) t.ordered.places t.ordered.order) next is-settled

  pub contents-in_turn : (n : ℕ) → content_of ended n ≡ content_of (settled_contents b scope entries all) n
  contents-in_turn n = sym (same-content n) ∙ ap (λ c. content_of c n) is-next

  pub settled-in_turn : holding all ended ≡ settled b scope entries all
  settled-in_turn = sym same-held ∙ ap (holding all) is-next

  pub text-in_turn : (before after : List Entry) (e : Entry) → es ≡ before ++ e ∷ after →
      text_of (Some b.string) scope (holding all (in_turn b scope all before [])) e ≡ text_of (Some b.string) scope (settled b scope entries all) e
  text-in_turn before after e split =
      let rest = all-later Agreeing before (e ∷ after) (subst (AllOf Agreeing) split agreeing) in
      let reads = back-later b scope all before (e ∷ after) (subst (AreReadBack b scope all) split back) in
      let parts = λ (n : ℕ) (h : Within n). each-none (λ (f : Entry). f.node == n) (before ++ e ∷ after) (ap (list_any (λ (f : Entry). f.node == n)) (sym split) ∙ within n h) in
      let early : AreCalculated entries (in_turn b scope all before []) =
      turn-calculated b scope all entries before [] (λ n h. none-any (λ (f : Entry). f.node == n) before (first before (e ∷ after) n (parts n h))) nothing in
      text-stays b scope all entries e after (in_turn b scope all before []) rest.0 reads.0
      (λ n h. none-any (λ (f : Entry). f.node == n) (e ∷ after) (all-later (λ (f : Entry). (f.node == n) ≡ false) before (e ∷ after) (parts n h))) early
      ∙ ap (λ c. text_of (Some b.string) scope (holding all c) e) (sym (turn-append b scope all before (e ∷ after) []) ∙ ap (λ xs. in_turn b scope all xs []) (sym split))
      ∙ ap (λ xs. text_of (Some b.string) scope xs e) settled-in_turn
    where
      first : (xs ys : List Entry) (n : ℕ) → AllOf (λ f. (f.node == n) ≡ false) (xs ++ ys) → AllOf (λ f. (f.node == n) ≡ false) xs
      first [] ys n h = tt
      first (x ∷ xs) ys n h = (h.0, first xs ys n h.1)

pub in_turn_contents : InTurnContents
in_turn_contents b scope entries forest es t n = contents-in_turn b scope entries forest es t n

pub in_turn_settled : InTurnSettled
in_turn_settled b scope entries forest es t = settled-in_turn b scope entries forest es t

pub in_turn_texts : InTurnTexts
in_turn_texts b scope entries forest es t before after e split = text-in_turn b scope entries forest es t before after e split
