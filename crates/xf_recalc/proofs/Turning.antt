-- What stands after some of the turns, and after one more.
use Rattle.std.proofs.Common.{◌≡◌, ℕ, suc, ◌+◌, ◌^◌, ◌<◌, ◌==◌, Bool, true, false, cond, ◌||◌, ◌&&◌, List, [], ◌∷◌, ◌++◌, map, length, Option, Some, None, option_map, slice_get, slice_set, nat_lt, Ok, Err, refl, sym, ap, ◌∙◌, subst, arith}
use Rattle.std.specs.List.{list_any, list_all}
use Rattle.std.proofs.lemmas.Bool.{eqb-true}
use Rattle.std.proofs.lemmas.List.{length-map}
use Rattle.std.proofs.lemmas.Option.{slice_get_within}
use Rattle.xf_def_syntax.specs.declared.form.Tables.{Tables}
use Rattle.xf_def_forest.specs.declared.content.Node.{Node}
use Rattle.xf_def_forest.specs.Forest.{Forest}
use Rattle.xf_def_forest.specs.Limits.{limits}
use Rattle.xf_def_forest.specs.Needs.{IsSettable}
use Rattle.xf_def_forest.specs.Settle.{has_text, with_settled_text, with_numbered_text}
use Rattle.xf_def_forest.specs.Visit.{Visit, has, visits}
use Rattle.xf_funcs.specs.Called.{called}
use Rattle.xf_def_xpath.specs.Conversions.{truth_of}
use Rattle.xf_def_xpath.specs.Given.{Given}
use Rattle.xf_def_xpath.proofs.VisitFacts.{no, some-same}
use Rattle.xf_def_model.specs.declared.property.Property.TheVariants.{Kind}
use Rattle.xf_def_model.specs.Rules.{Scope}
use Rattle.xf_def_model.specs.Applied.{Entry}
use Rattle.xf_def_model.specs.Entries.{text_of, value_of}
use Rattle.xf_def_model.specs.Settled.{Contents, bounds, calculates, content_by, fitting, is_over, settled}
use Rattle.xf_def_model.specs.Pertinent.{AllOf}
use Rattle.xf_def_model.proofs.EachLemmas.{each_then, each_one, each_both}
use Rattle.xf_def_model.proofs.CircularLemmas.{StandsAt}
use Rattle.xf_law_recalculation.specs.Agree.InTurn.{AreInTurn, AreSingle, IsFitting}
use Rattle.xf_law_recalculation.proofs.AgreeLemmas.TurnLists.{all-later, all-append, at-stands, each-stands}
use Rattle.xf_law_recalculation.proofs.AgreeLemmas.FormSettable.{form_settable}
use Rattle.xf_law_recalculation.proofs.AgreeLemmas.InTurnLaws.{each-in_turn, stands-in_turn, in_turn_texts}
use Rattle.xf_law_recalculation.proofs.AgreeLemmas.InTurnLimits.{any-stands, in_turn_passed}
use Rattle.xf_law_recalculation.proofs.AgreeLemmas.InTurnDone.{stand}
use Rattle.xf_law_forests.specs.Settle.Written.{written, and_one, MayWrite}
use Rattle.xf_law_forests.proofs.SettleLemmas.Put.{with_one}
use Rattle.xf_law_forests.proofs.SettleLemmas.WrittenLaws.{one-more}
use Rattle.xf_law_forests.proofs.SettleLemmas.StillLaws.{settable-still}
use Rattle.xf_law_forests.proofs.SettleLemmas.MeasureLaws.{written-all, written-none}
use Rattle.xf_law_machine.proofs.BehavioursLemmas.WrittenContents.{all-written}
use Rattle.xf_law_recalculation.specs.Written.Turn.{AreTurned}
use Rattle.xf_law_recalculation.proofs.WrittenLemmas.TurnLaws.{turn, turn_writes, turn_text, turn_truth}
use Rattle.xf_law_recalculation.specs.Marks.Outside.{IsOutside}
use Rattle.xf_law_recalculation.specs.Since.Since.{Before, HoldsText, Since, changes_since}
use Rattle.xf_law_recalculation.proofs.SinceLemmas.PassedWritten.{passed_turn}
use Rattle.xf_def_machine.specs.Behave.{with_contents}
use Rattle.xf_undo.specs.Draft.{Draft, IsUnused, with_reserved, with_settled}
use Rattle.xf_binds.specs.declared.turns.Turn.{Turn}
use Rattle.xf_recalc.specs.declared.fault.SettleFault.{SettleFault}
use Rattle.xf_recalc.specs.declared.fault.SettleFault.TheVariants.{Long, Text}
use Rattle.xf_recalc.specs.Known.{AreKnown}
use Rattle.xf_recalc.specs.Settles.{MaySettle, IsTold, scope_in, contents_in, settled_forest, words_of}
use Rattle.xf_recalc.specs.Turns.{AreTurns, entry_in, turned, written_once}
use Rattle.xf_recalc.specs.Whole.{IsWritten}
use Rattle.xf_recalc.proofs.Known.{one-known}
use Rattle.xf_recalc.proofs.ListLemmas.{got-map, slice-split, map-append, all-first, any-append, any-left, any-right, same-self, done_by, done-each, done-none, done-more}

abbrev pub over_settled : Scope → List Entry → Forest → List Visit
over_settled scope entries forest = settled bounds scope entries (visits forest.nodes)

abbrev pub Fits : Scope → List Entry → Forest → Entry → Type 0
Fits scope entries forest e = IsFitting bounds.limits.text (text_of (Some bounds.string) scope (over_settled scope entries forest) e)

-- after these turns
pub record Going (scope : Scope) (entries : List Entry) (forest : Forest) (turns : List Turn) (d : Draft) : Type 0 where
  pub nodes : d.now.nodes ≡ written (done_by (map entry_in turns)) forest.next (contents_in scope entries forest) forest.nodes
  pub next : d.now.next ≡ forest.next + length (contents_in scope entries forest)
  pub first : d.first ≡ forest.next
  pub used : (m : ℕ) → has m d.used ≡ true → list_any (λ (t : Turn). m == (forest.next + t.place)) turns ≡ true
  pub fit : AllOf (Fits scope entries forest) (map entry_in turns)

abbrev pub no_turn : Turn
no_turn = record { entry = record { node = record { number = 0; place = 0 }; property = Kind; bind = 0; position = 0; size = 0 }; place = 0; seat = 0 }

-- a turn keeps what was kept
pub turned-kept : (number n : ℕ) (d new : Draft) (o : Option (List ℕ)) → turned number n d o ≡ Ok new → new.kept ≡ d.kept
turned-kept number n d new None h = cc h
turned-kept number n d new (Some text) h = by (nat_lt limits.text (length text)) (has_text n text d.now.nodes) h
  where
    by : (b c : Bool) → cond b (Err Text) (Ok (cond c d (with_settled number n text d))) ≡ Ok new → new.kept ≡ d.kept
    by true c i = cc i
    by false true i = let same : d ≡ new = cc i in ap (λ (x : Draft). x.kept) (sym same)
    by false false i = let same : with_settled number n text d ≡ new = cc i in ap (λ (x : Draft). x.kept) (sym same)

written-same : (one other : ℕ → Bool) → ((m : ℕ) → one m ≡ other m) → (number : ℕ) (contents : Contents) (nodes : List Node) → written one number contents nodes ≡ written other number contents nodes
written-same one other h number [] nodes = refl
written-same one other h number ((n, text) ∷ contents) nodes =
    ap (λ b. written one (suc number) contents (cond b (with_settled_text number n text nodes) nodes)) (h n)
    ∙ written-same one other h (suc number) contents (cond (other n) (with_settled_text number n text nodes) nodes)

append-one : {X : Type 0} (xs : List X) (x : X) (ys : List X) → (xs ++ x ∷ []) ++ ys ≡ xs ++ x ∷ ys
append-one [] x ys = refl
append-one (y ∷ xs) x ys = ap (λ l. y ∷ l) (append-one xs x ys)

module _ (given : Given) (tables : Tables) (model : ℕ) (forest : Forest) (entries : List Entry) (may : MaySettle given tables model forest entries)
    (turns : List Turn) (t : AreTurns (scope_in given tables model) entries (visits forest.nodes) turns) (few : length (calculates entries) < 2 ^ 32) where
  abbrev scope : Scope
  scope = scope_in given tables model

  abbrev es : List Entry
  es = map entry_in turns

  abbrev contents : Contents
  contents = contents_in scope entries forest

  abbrev over : List Visit
  over = over_settled scope entries forest

  pub turned-form : AreTurned bounds called given tables model forest entries es
  turned-form = record {
    covered = may.covered;
    around = may.around;
    applies = may.applies;
    ordered = t.ordered;
    documents = may.documents;
    no_event = may.no_event;
    room = let small = may.small in omega (arith, small, few);
  }

  pub in-turn : AreInTurn bounds scope entries forest es
  in-turn = turn bounds called given tables model forest entries es turned-form

  pub may-write : MayWrite forest.next contents forest
  may-write = turn_writes bounds called given tables model forest entries es turned-form

  abbrev made : Entry → ℕ × List ℕ
  made e = content_by bounds scope over e

  pub contents-are : contents ≡ map made (calculates entries)
  contents-are = stand bounds scope entries forest es in-turn

  pub count-is : length contents ≡ length (calculates entries)
  count-is = ap length contents-are ∙ length-map (calculates entries) made

  -- ---- before the first turn

  pub start : (d : Draft) (count : ℕ) → d.now ≡ forest → count ≡ length (calculates entries) → Going scope entries forest [] (with_reserved count d)
  start d count same is = record {
    nodes = ap (λ f. f.nodes) same ∙ sym (written-none forest.next contents forest.nodes);
    next = ap (λ f. f.next + count) same ∙ ap (λ n. forest.next + n) (is ∙ sym count-is);
    first = ap (λ f. f.next) same;
    used = λ m h. no h;
    fit = tt;
  }

  -- ---- one turn

  module _ (before after : List Turn) (x : Turn) (split : turns ≡ before ++ x ∷ after) where
    e : Entry
    e = entry_in x

    abbrev bs : List Entry
    bs = map entry_in before

    splits : es ≡ bs ++ entry_in x ∷ map entry_in after
    splits = ap (map entry_in) split ∙ map-append entry_in before (x ∷ after)

    apart : AreSingle (bs ++ entry_in x ∷ map entry_in after)
    apart = subst AreSingle splits t.single

    done-later : AllOf (λ f. done_by bs f.node ≡ false) (entry_in x ∷ map entry_in after)
    done-later = done-none bs (entry_in x ∷ map entry_in after) apart

    pub text-now : (d : Draft) → Going scope entries forest before d →
        text_of (Some bounds.string) scope (visits d.now.nodes) (entry_in x) ≡ text_of (Some bounds.string) scope over (entry_in x)
    text-now d g =
        ap (λ nodes. text_of (Some bounds.string) scope (visits nodes) (entry_in x)) g.nodes
        ∙ turn_text bounds called given tables model forest entries es turned-form bs (map entry_in after) (entry_in x) splits (done_by bs) (done-each bs) done-later

    -- and the truth of its value is the one in the end
    truth-now : (d : Draft) → Going scope entries forest before d →
        option_map truth_of (value_of (Some bounds.string) scope (visits d.now.nodes) (entry_in x))
        ≡ option_map truth_of (value_of (Some bounds.string) scope (visits (settled_forest scope entries forest).nodes) (entry_in x))
    truth-now d g =
        ap (λ nodes. option_map truth_of (value_of (Some bounds.string) scope (visits nodes) (entry_in x))) g.nodes
        ∙ turn_truth bounds called given tables model forest entries es turned-form bs (map entry_in after) (entry_in x) splits (done_by bs) (done-each bs) done-later
        ∙ ap (λ nodes. option_map truth_of (value_of (Some bounds.string) scope (visits nodes) (entry_in x))) (all-written forest.next contents forest.nodes)

    pub placed : slice_get (calculates entries) x.place ≡ Some (entry_in x)
    placed = (all-later (λ (u : Turn). slice_get (calculates entries) u.place ≡ Some (entry_in u)) before (x ∷ after) (subst (AllOf (λ (u : Turn). slice_get (calculates entries) u.place ≡ Some (entry_in u))) split t.placed)).0

    -- what was found in a turn is known of the settled data
    pub one-told : (d : Draft) (known : List (Option Bool)) (truth : Bool) → Going scope entries forest before d → AreKnown scope (visits (settled_forest scope entries forest).nodes) entries known →
        option_map truth_of (value_of (Some bounds.string) scope (visits d.now.nodes) (entry_in x)) ≡ Some truth →
        AreKnown scope (visits (settled_forest scope entries forest).nodes) entries (slice_set known x.place (Some truth))
    one-told d known truth g are found = one-known scope (visits (settled_forest scope entries forest).nodes) entries known x.place (entry_in x) truth are placed (sym (truth-now d g) ∙ found)

    pub settable : (d : Draft) → Going scope entries forest before d → IsSettable x.entry.node.number d.now
    settable d g =
        let able = at-stands (λ (f : Entry). IsSettable f.node forest) es (length bs) (entry_in x)
        (each-in_turn bounds scope entries forest es in-turn (λ f. IsSettable f.node forest) (form_settable bounds called given tables model forest entries may.covered may.around may.applies))
        (subst (λ l. StandsAt l (length bs) (entry_in x)) (sym splits) (stands-here bs (entry_in x) (map entry_in after))) in
        subst (λ nodes. IsSettable x.entry.node.number (record { nodes = nodes; next = d.now.next })) (sym g.nodes)
        (settable-still (done_by bs) forest.next contents forest x.entry.node.number d.now.next may-write able)
      where
        stands-here : (xs : List Entry) (y : Entry) (ys : List Entry) → StandsAt (xs ++ y ∷ ys) (length xs) y
        stands-here [] y ys = refl
        stands-here (z ∷ xs) y ys = stands-here xs y ys

    abbrev number : ℕ
    number = forest.next + x.place

    other-place : (u : Turn) → slice_get (calculates entries) u.place ≡ Some (entry_in u) → (u.entry.node.number == x.entry.node.number) ≡ false → (number == (forest.next + u.place)) ≡ false
    other-place u there off = by (number == (forest.next + u.place)) refl
      where
        by : (c : Bool) → (number == (forest.next + u.place)) ≡ c → c ≡ false
        by false i = refl
        by true i =
            let same : number ≡ forest.next + u.place = eqb-true number (forest.next + u.place) i in
            let place : u.place ≡ x.place = omega (arith, same) in
            let entry : entry_in u ≡ entry_in x = some-same (sym there ∙ ap (slice_get (calculates entries)) place ∙ placed) in
            no (sym off ∙ ap (λ (f : Entry). f.node == x.entry.node.number) entry ∙ same-self x.entry.node.number)

    earlier-apart : (xs : List Turn) (ys : List Entry) → AreSingle (map entry_in xs ++ entry_in x ∷ ys) → AllOf (λ (u : Turn). (u.entry.node.number == x.entry.node.number) ≡ false) xs
    earlier-apart [] ys h = tt
    earlier-apart (u ∷ xs) ys h = (turned-round (x.entry.node.number == u.entry.node.number) refl, earlier-apart xs ys h.1)
      where
        among : list_any (λ (f : Entry). f.node == u.entry.node.number) (map entry_in xs ++ entry_in x ∷ ys) ≡ false
        among = h.0

        turned-round : (c : Bool) → (x.entry.node.number == u.entry.node.number) ≡ c → (u.entry.node.number == x.entry.node.number) ≡ false
        turned-round true i =
            no (sym among ∙ any-right (λ (f : Entry). f.node == u.entry.node.number) (map entry_in xs) (entry_in x ∷ ys) (ap (λ b. b || list_any (λ (f : Entry). f.node == u.entry.node.number) ys) i))
        turned-round false i = swapped (u.entry.node.number == x.entry.node.number) refl
          where
            swapped : (c : Bool) → (u.entry.node.number == x.entry.node.number) ≡ c → c ≡ false
            swapped false j = refl
            swapped true j = let same = eqb-true u.entry.node.number x.entry.node.number j in no (sym i ∙ ap (λ m. m == u.entry.node.number) (sym same) ∙ same-self u.entry.node.number)

    pub unused : (d : Draft) → Going scope entries forest before d → IsUnused number d
    unused d g =
        let within = slice_get_within (calculates entries) x.place (entry_in x) placed in
        let next = g.next in let first = g.first in let count = count-is in
        record {
          least = omega (arith, first);
          less = omega (arith, within, next, count);
          unused = by (has number d.used) refl;
        }
      where
        others : AllOf (λ (u : Turn). (number == (forest.next + u.place)) ≡ false) before
        others = each_then (λ (u : Turn). (slice_get (calculates entries) u.place ≡ Some (entry_in u)) × ((u.entry.node.number == x.entry.node.number) ≡ false)) _ (λ u h. other-place u h.0 h.1) before
            (each_both _ _ before (all-first (λ (u : Turn). slice_get (calculates entries) u.place ≡ Some (entry_in u)) before (x ∷ after) (subst (AllOf (λ (u : Turn). slice_get (calculates entries) u.place ≡ Some (entry_in u))) split t.placed))
            (earlier-apart before (map entry_in after) apart))

        by : (c : Bool) → has number d.used ≡ c → c ≡ false
        by false i = refl
        by true i =
            let found = each_one (λ (u : Turn). (number == (forest.next + u.place)) ≡ false) (λ (u : Turn). number == (forest.next + u.place)) before others (g.used number i) in
            no (sym found.2 ∙ found.1)

    -- what is written in the turn
    nodes-once : (n : ℕ) (text : List ℕ) (d : Draft) → (written_once number n text d).now.nodes ≡ with_settled_text number n text d.now.nodes
    nodes-once n text d = by (has_text n text d.now.nodes)
      where
        by : (c : Bool) → (cond c d (with_settled number n text d)).now.nodes ≡ cond c d.now.nodes (with_numbered_text number n text d.now.nodes)
        by true = refl
        by false = refl

    one-written : (text : List ℕ) → made (entry_in x) ≡ (x.entry.node.number, text) →
        with_settled_text number x.entry.node.number text (written (done_by bs) forest.next contents forest.nodes) ≡ written (done_by (bs ++ entry_in x ∷ [])) forest.next contents forest.nodes
    one-written text is =
        let got : slice_get contents x.place ≡ Some (x.entry.node.number, text) = ap (λ c. slice_get c x.place) contents-are ∙ got-map made (calculates entries) x.place (entry_in x) placed ∙ ap Some is in
        let s = slice-split contents x.place (x.entry.node.number, text) got in
        let whole : contents ≡ with_one s.0 x.entry.node.number text s.1 = s.2 in
        ap (λ k. with_settled_text (forest.next + k) x.entry.node.number text (written (done_by bs) forest.next contents forest.nodes)) (sym s.3)
        ∙ ap (λ c. with_settled_text (forest.next + length s.0) x.entry.node.number text (written (done_by bs) forest.next c forest.nodes)) whole
        ∙ one-more (done_by bs) forest.next x.entry.node.number text s.0 s.1 forest (subst (λ c. MayWrite forest.next c forest) whole may-write) done-later.0
        ∙ ap (λ c. written (and_one x.entry.node.number (done_by bs)) forest.next c forest.nodes) (sym whole)
        ∙ written-same (and_one x.entry.node.number (done_by bs)) (done_by (bs ++ entry_in x ∷ [])) (done-more bs (entry_in x)) forest.next contents forest.nodes

    pub step : (d new : Draft) → Going scope entries forest before d →
        turned number x.entry.node.number d (text_of (Some bounds.string) scope (visits d.now.nodes) (entry_in x)) ≡ Ok new → Going scope entries forest (before ++ x ∷ []) new
    step d new g h = by (text_of (Some bounds.string) scope over (entry_in x)) refl (ap (turned number x.entry.node.number d) (sym (text-now d g)) ∙ h)
      where
        more : map entry_in (before ++ x ∷ []) ≡ bs ++ entry_in x ∷ []
        more = map-append entry_in before (x ∷ [])

        used-once : (text : List ℕ) (c : Bool) (m : ℕ) → has m (cond c d (with_settled number x.entry.node.number text d)).used ≡ true → list_any (λ (u : Turn). m == (forest.next + u.place)) (before ++ x ∷ []) ≡ true
        used-once text true m i = any-left (λ (u : Turn). m == (forest.next + u.place)) before (x ∷ []) (g.used m i)
        used-once text false m i = any-append (λ (u : Turn). m == (forest.next + u.place)) before (x ∷ []) ∙ of (has m d.used) (g.used m) (sym (any-append (λ k. m == k) d.used (number ∷ [])) ∙ i)
          where
            of : (a : Bool) → (a ≡ true → list_any (λ (u : Turn). m == (forest.next + u.place)) before ≡ true) → (a || ((m == number) || false)) ≡ true →
                (list_any (λ (u : Turn). m == (forest.next + u.place)) before || ((m == number) || false)) ≡ true
            of true k j = ap (λ b. b || ((m == number) || false)) (k refl)
            of false k j = right (list_any (λ (u : Turn). m == (forest.next + u.place)) before) j
              where
                right : (a : Bool) → ((m == number) || false) ≡ true → (a || ((m == number) || false)) ≡ true
                right true r = refl
                right false r = r

        next-once : (text : List ℕ) (c : Bool) → (cond c d (with_settled number x.entry.node.number text d)).now.next ≡ d.now.next
        next-once text true = refl
        next-once text false = refl

        first-once : (text : List ℕ) (c : Bool) → (cond c d (with_settled number x.entry.node.number text d)).first ≡ d.first
        first-once text true = refl
        first-once text false = refl

        going : (text : List ℕ) → text_of (Some bounds.string) scope over (entry_in x) ≡ Some text → nat_lt limits.text (length text) ≡ false → Going scope entries forest (before ++ x ∷ []) (written_once number x.entry.node.number text d)
        going text is fits =
            let own : made (entry_in x) ≡ (x.entry.node.number, text) =
            ap (λ o. (x.entry.node.number, fitting bounds.limits.text o)) is ∙ ap (λ b. (x.entry.node.number, cond b [] text)) fits in
            record {
              nodes = nodes-once x.entry.node.number text d ∙ ap (with_settled_text number x.entry.node.number text) g.nodes ∙ one-written text own
                  ∙ ap (λ l. written (done_by l) forest.next contents forest.nodes) (sym more);
              next = next-once text (has_text x.entry.node.number text d.now.nodes) ∙ g.next;
              first = first-once text (has_text x.entry.node.number text d.now.nodes) ∙ g.first;
              used = used-once text (has_text x.entry.node.number text d.now.nodes);
              fit = subst (AllOf (Fits scope entries forest)) (sym more) (all-append (Fits scope entries forest) bs (entry_in x ∷ []) g.fit (subst (IsFitting bounds.limits.text) (sym is) fits, tt));
            }

        by : (o : Option (List ℕ)) → text_of (Some bounds.string) scope over (entry_in x) ≡ o → turned number x.entry.node.number d o ≡ Ok new → Going scope entries forest (before ++ x ∷ []) new
        by None is i = cc i
        by (Some text) is i = of (nat_lt limits.text (length text)) refl i
          where
            of : (c : Bool) → nat_lt limits.text (length text) ≡ c → cond c (Err Text) (Ok (written_once number x.entry.node.number text d)) ≡ Ok new → Going scope entries forest (before ++ x ∷ []) new
            of true k j = cc j
            of false k j = let same : written_once number x.entry.node.number text d ≡ new = cc j in subst (Going scope entries forest (before ++ x ∷ [])) same (going text is k)

    -- why a turn is refused
    pub refused : (d : Draft) (fault : SettleFault) → Going scope entries forest before d →
        turned number x.entry.node.number d (text_of (Some bounds.string) scope (visits d.now.nodes) (entry_in x)) ≡ Err fault → IsTold fault (words_of scope entries forest)
    refused d fault g h = by (text_of (Some bounds.string) scope over (entry_in x)) refl (ap (turned number x.entry.node.number d) (sym (text-now d g)) ∙ h)
      where
        by : (o : Option (List ℕ)) → text_of (Some bounds.string) scope over (entry_in x) ≡ o → turned number x.entry.node.number d o ≡ Err fault → IsTold fault (words_of scope entries forest)
        by None is i =
            let long : Long ≡ fault = cc i in
            subst (λ f. IsTold f (words_of scope entries forest)) long
            ((in_turn_passed bounds scope entries forest es in-turn bs (map entry_in after) (entry_in x) splits _ (in_turn_texts bounds scope entries forest es in-turn bs (map entry_in after) (entry_in x) splits)).0 is)
        by (Some text) is i = of (nat_lt limits.text (length text)) refl i
          where
            of : (c : Bool) → nat_lt limits.text (length text) ≡ c → cond c (Err Text) (Ok (written_once number x.entry.node.number text d)) ≡ Err fault → IsTold fault (words_of scope entries forest)
            of true k j =
                let long : Text ≡ fault = cc j in
                subst (λ f. IsTold f (words_of scope entries forest)) long
                ((in_turn_passed bounds scope entries forest es in-turn bs (map entry_in after) (entry_in x) splits _ (in_turn_texts bounds scope entries forest es in-turn bs (map entry_in after) (entry_in x) splits)).1
                (ap (is_over bounds.limits.text) is ∙ k))
            of false k j = cc j

    -- one that is passed over has the text that stands, so that nothing is written in its turn
    pub pass : (f : ℕ → ℕ) (taken : ℕ → Bool) (texts lists : List ℕ) (was : Before) (d : Draft) → Since f taken texts lists bounds called given tables model was forest entries →
        IsOutside scope forest (changes_since texts lists was) entries (entry_in x) → Going scope entries forest before d → Going scope entries forest (before ++ x ∷ []) d
    pass f taken texts lists was d since outside g =
        step d d g (ap (turned number x.entry.node.number d) text
        ∙ ap (λ b. cond b (Err Text) (Ok (written_once number x.entry.node.number held.text d))) held.fits
        ∙ ap (λ b. Ok (cond b d (with_settled number x.entry.node.number held.text d))) (ap (has_text x.entry.node.number held.text) g.nodes ∙ held.stands))
      where
        held : HoldsText bounds scope (written (done_by bs) forest.next contents forest.nodes) (entry_in x)
        held = passed_turn f taken texts lists bounds called given tables model was forest entries es since (record { ordered = t.ordered; single = t.single }) bs (map entry_in after) (entry_in x) splits outside (done_by bs)
            (done-each bs) done-later

        text : text_of (Some bounds.string) scope (visits d.now.nodes) (entry_in x) ≡ Some held.text
        text = ap (λ nodes. text_of (Some bounds.string) scope (visits nodes) (entry_in x)) g.nodes ∙ held.given

  -- ---- after the last turn

  all-done : list_all (λ p. done_by es p.0) contents ≡ true
  all-done = ap (list_all (λ (p : ℕ × List ℕ). done_by es p.0)) contents-are ∙ each (calculates entries) (each_then _ _ (λ f s. there f s) (calculates entries) (each-stands (calculates entries)))
    where
      there : (f : Entry) → ((k : ℕ) × StandsAt (calculates entries) k f) → done_by es f.node ≡ true
      there f s = let j = stands-in_turn bounds scope entries forest es in-turn s.0 f s.1 in any-stands (λ (g : Entry). f.node == g.node) es j.0 f j.1 (same-self f.node)

      each : (xs : List Entry) → AllOf (λ f. done_by es f.node ≡ true) xs → list_all (λ (p : ℕ × List ℕ). done_by es p.0) (map made xs) ≡ true
      each [] h = refl
      each (f ∷ xs) h = ap (λ b. b && list_all (λ (p : ℕ × List ℕ). done_by es p.0) (map made xs)) h.0 ∙ each xs h.1

  pub ended : (d : Draft) → Going scope entries forest turns d → IsWritten scope entries forest d.now
  ended d g = record {
    written = ap (λ nodes. record { nodes = nodes; next = d.now.next }) (g.nodes ∙ written-all (done_by es) forest.next contents forest.nodes all-done ∙ all-written forest.next contents forest.nodes)
        ∙ ap (λ next. record { nodes = with_contents forest.next contents forest.nodes; next = next }) g.next;
    fitting = each_then (λ (f : Entry). (k : ℕ) × StandsAt (calculates entries) k f) (Fits scope entries forest)
        (λ f s. let j = stands-in_turn bounds scope entries forest es in-turn s.0 f s.1 in at-stands (Fits scope entries forest) es j.0 f g.fit j.1) (calculates entries) (each-stands (calculates entries));
  }
