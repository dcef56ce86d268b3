-- Cases: a switch is told to take a case of its own alone, so that each has one of its cases.
use Rattle.std.proofs.Common.{◌≡◌, ℕ, zero, suc, ◌+◌, ◌<◌, ◌==◌, Bool, true, false, not, cond, ◌&&◌, ◌||◌, List, [], ◌∷◌, map, length, zip, find, get_or, codes, nat_lt, Option, Some, None, Result, Ok, Err, refl, sym, ap, ◌∙◌, subst, arith}
use Rattle.std.specs.Prelude.{slice_set}
use Rattle.std.specs.List.{list_all, position_or_len}
use Rattle.std.proofs.lemmas.Bool.Decides.{nat_tests}
use Rattle.xf_def_forest.specs.declared.content.Content.{Content}
use Rattle.xf_def_forest.specs.declared.fault.TreeFault.{TreeFault}
use Rattle.xf_def_forest.specs.Changes.{attached, copied}
use Rattle.xf_def_forest.specs.Forest.{Forest}
use Rattle.xf_def_forest.specs.Planted.{with_tree}
use Rattle.xf_def_forest.specs.Visit.{has, parent_of}
use Rattle.xf_def_ui.specs.Cases.{cases_of, first_case, first_cases, is_written_selected, or_first, place_of_case}
use Rattle.xf_def_ui.specs.Elements.{element_at}
use Rattle.xf_def_ui.specs.Index.{Index, Stop, brought_up}
use Rattle.xf_def_ui.specs.Interface.{Interface}
use Rattle.xf_def_ui.specs.Started as ui
use Rattle.xf_def_machine.specs.declared.limit.LimitWord.{LimitWord}
use Rattle.xf_def_machine.specs.AtRest.{are_cases}
use Rattle.xf_def_machine.specs.Behave.{rebuild, recalculate, revalidate}
use Rattle.xf_def_machine.specs.Choose.{switch_number}
use Rattle.xf_def_machine.specs.Construct.{build_model, construct, first_contents, first_shown, plant_document, rooted, start_indexes, unbuilt}
use Rattle.xf_def_machine.specs.Cycles.{counted_from}
use Rattle.xf_def_machine.specs.Flow.{◌>>=◌, in_turn}
use Rattle.xf_def_machine.specs.Primitives.{detach, grown, grown_by, grown_to, if_other, in_some_model, is_other_text, list_changed, over_made, texts_due, with_indexes, with_text_mark}
use Rattle.xf_def_machine.specs.Profile.{Profile}
use Rattle.xf_def_machine.specs.Program.{Program}
use Rattle.xf_def_machine.specs.Refusal.{Refused, or_long, unless_passed}
use Rattle.xf_def_machine.specs.Start.{readied, started, tell_models}
use Rattle.xf_def_machine.specs.State.{Model, State}
use Rattle.xf_def_machine.specs.Step.{Posted, accepted, at_end, changed_by, fresh, one_more, outcome}
use Rattle.xf_def_machine.specs.Surround.{all_in, interface, model_holding, quiet}
use Rattle.xf_def_machine.specs.Update.{shown, with_brought}
use Rattle.xf_law_machine.specs.Rest.Rests.{are_filled, is_filled}
use Rattle.xf_law_machine.proofs.RestLemmas.FlagLaws.{rebuild-held, recalculate-held}
use Rattle.xf_law_machine.proofs.RestLemmas.Holds.{Held, held-any, held-more, held-then, held-turn}
use Rattle.xf_law_machine.proofs.RestLemmas.StartLaws.{first-filled}
use Rattle.xf_law_invariants.specs.Whole.Cases.{IsToggled, HasCases, StepsKeepCases, StartsHaveCases, CaseLaws}
use Rattle.xf_law_invariants.proofs.WholeLemmas.EachEvents.{changed-keeps, models-keep}
use Rattle.xf_law_invariants.proofs.WholeLemmas.EachKeeps.{KeepsEach}

and-true : (a b : Bool) → (a && b) ≡ true → (a ≡ true) × (b ≡ true)
and-true true b h = (refl, h)
and-true false b h = cc

both-true : (a b : Bool) → a ≡ true → b ≡ true → (a && b) ≡ true
both-true a b h k = rw (h, k) refl

-- ---- lists of cases

abbrev is_one : Interface → ℕ × ℕ → Bool
is_one f q = nat_lt q.1 (length (cases_of f q.0))

abbrev have_cases : Interface → List ℕ → Bool
have_cases f cases = (length cases == length f.switches) && list_all (is_one f) (zip f.switches cases)

length-set : (xs : List ℕ) (k n : ℕ) → length (slice_set xs k n) ≡ length xs
length-set [] k n = refl
length-set (x ∷ xs) zero n = refl
length-set (x ∷ xs) (suc k) n = ap suc (length-set xs k n)

-- another case of one switch
all-set : (test : ℕ × ℕ → Bool) (ns cases : List ℕ) (k place : ℕ) → test (get_or ns k 0, place) ≡ true → list_all test (zip ns cases) ≡ true → list_all test (zip ns (slice_set cases k place)) ≡ true
all-set test [] [] k place h q = q
all-set test [] (c ∷ cs) zero place h q = q
all-set test [] (c ∷ cs) (suc k) place h q = q
all-set test (n ∷ ns) [] k place h q = q
all-set test (n ∷ ns) (c ∷ cs) zero place h q = both-true (test (n, place)) (list_all test (zip ns cs)) h (and-true (test (n, c)) (list_all test (zip ns cs)) q).1
all-set test (n ∷ ns) (c ∷ cs) (suc k) place h q =
    let parts = and-true (test (n, c)) (list_all test (zip ns cs)) q in
    both-true (test (n, c)) (list_all test (zip ns (slice_set cs k place))) parts.0 (all-set test ns cs k place h parts.1)

set-has : (f : Interface) (cases : List ℕ) (k place : ℕ) → is_one f (get_or f.switches k 0, place) ≡ true → have_cases f cases ≡ true → have_cases f (slice_set cases k place) ≡ true
set-has f cases k place h q =
    let parts = and-true (length cases == length f.switches) (list_all (is_one f) (zip f.switches cases)) q in
    both-true (length (slice_set cases k place) == length f.switches) (list_all (is_one f) (zip f.switches (slice_set cases k place)))
    (ap (λ n. n == length f.switches) (length-set cases k place) ∙ parts.0) (all-set (is_one f) f.switches cases k place h parts.1)

-- ---- the first cases

-- what is found in a list has a place in it
there : (n : ℕ) (ns : List ℕ) → has n ns ≡ true → position_or_len (λ m. m == n) ns < length ns
there n [] h = cc h
there n (m ∷ ms) h = by (m == n) refl (there n ms)
  where
    other-way : (n == m) ≡ (m == n)
    other-way = grind (arith, nat_tests)

    by : (b : Bool) → (m == n) ≡ b → (has n ms ≡ true → position_or_len (λ k. k == n) ms < length ms) → cond (not (m == n)) (1 + position_or_len (λ k. k == n) ms) 0 < suc (length ms)
    by true e rest = subst (λ b. cond (not b) (1 + position_or_len (λ k. k == n) ms) 0 < suc (length ms)) (sym e) (omega arith)
    by false e rest =
        let less : position_or_len (λ k. k == n) ms < length ms = rest (subst (λ b. (b || has n ms) ≡ true) (other-way ∙ e) h) in
        subst (λ b. cond (not b) (1 + position_or_len (λ k. k == n) ms) 0 < suc (length ms)) (sym e) (omega (arith, less))

self : (n : ℕ) → (n == n) ≡ true
self n = grind (arith, nat_tests)

found-has : (test : ℕ → Bool) (ns : List ℕ) (n : ℕ) → find test ns ≡ Some n → has n ns ≡ true
found-has test [] n h = cc h
found-has test (m ∷ ms) n h = by (test m) h (found-has test ms n)
  where
    or-later : (a b : Bool) → b ≡ true → (a || b) ≡ true
    or-later true b q = refl
    or-later false b q = q

    by : (b : Bool) → cond b (Some m) (find test ms) ≡ Some n → (find test ms ≡ Some n → has n ms ≡ true) → ((n == m) || has n ms) ≡ true
    by true q rest = let same : m ≡ n = cc q in subst (λ k. ((n == k) || has n ms) ≡ true) (sym same) (ap (λ b. b || has n ms) (self n))
    by false q rest = or-later (n == m) (has n ms) (rest q)

first-has : (o : Option ℕ) (ns : List ℕ) → nat_lt 0 (length ns) ≡ true → ((n : ℕ) → o ≡ Some n → has n ns ≡ true) → has (or_first o ns) ns ≡ true
first-has None [] h f = none h
  where
    none : nat_lt 0 0 ≡ true → has 0 [] ≡ true
    none q = cc q
first-has None (n ∷ ns) h f = ap (λ b. b || has n ns) (self n)
first-has (Some n) ns h f = f n refl

first-is : (f : Interface) (n : ℕ) → nat_lt 0 (length (cases_of f n)) ≡ true → is_one f (n, place_of_case f n (first_case f n)) ≡ true
first-is f n h =
    let test : ℕ → Bool = λ m. is_written_selected (element_at f m).sort in
    less (position_or_len (λ m. m == first_case f n) (cases_of f n)) (length (cases_of f n))
    (there (first_case f n) (cases_of f n) (first-has (find test (cases_of f n)) (cases_of f n) h (found-has test (cases_of f n))))
  where
    less : (a b : ℕ) → a < b → nat_lt a b ≡ true
    less a b q = grind (arith, nat_tests, q)

first-all : (f : Interface) (ns : List ℕ) → list_all (λ n. nat_lt 0 (length (cases_of f n))) ns ≡ true → list_all (is_one f) (zip ns (map (λ n. place_of_case f n (first_case f n)) ns)) ≡ true
first-all f [] h = refl
first-all f (n ∷ ns) h =
    let parts = and-true (nat_lt 0 (length (cases_of f n))) (list_all (λ m. nat_lt 0 (length (cases_of f m))) ns) h in
    both-true (is_one f (n, place_of_case f n (first_case f n))) (list_all (is_one f) (zip ns (map (λ m. place_of_case f m (first_case f m)) ns))) (first-is f n parts.0) (first-all f ns parts.1)

length-first : (f : Interface) (ns : List ℕ) → length (map (λ n. place_of_case f n (first_case f n)) ns) ≡ length ns
length-first f [] = refl
length-first f (n ∷ ns) = ap suc (length-first f ns)

first-have : (f : Interface) → list_all (λ n. nat_lt 0 (length (cases_of f n))) f.switches ≡ true → have_cases f (first_cases f) ≡ true
first-have f h =
    both-true (length (first_cases f) == length f.switches) (list_all (is_one f) (zip f.switches (first_cases f)))
    (ap (λ n. n == length f.switches) (length-first f f.switches) ∙ self (length f.switches)) (first-all f f.switches h)

-- ---- each change

record Has (form : Program) (s : State) : Type 0 where
  form_stays : s.form ≡ form
  cases : have_cases form.interface s.cases ≡ true

module _ (p : Profile) (form : Program) (has_cases : HasCases form) where
  abbrev P : State → Type 0
  P s = Has form s

  grown-to-stays : (made : ℕ) (r : Result Forest TreeFault) (s : State) → P s → Held P (grown_to (grown p made r s))
  grown-to-stays made (Err fault) s h = tt
  grown-to-stays made (Ok forest) s h = by (over_made p (s.made + made))
    where
      by : (words : List LimitWord) → Held P (grown_to (unless_passed s words (forest, record s { made = s.made + made })))
      by [] = record { form_stays = h.form_stays; cases = h.cases }
      by (word ∷ words) = tt

  grown-by-stays : (made : ℕ) (r : Result (ℕ × Forest) TreeFault) (s : State) → P s → Held (λ q. P q.1) (grown_by (grown p made r s))
  grown-by-stays made (Err fault) s h = tt
  grown-by-stays made (Ok (top, forest)) s h = by (over_made p (s.made + made))
    where
      by : (words : List LimitWord) → Held (λ q. P q.1) (grown_by (unless_passed s words ((top, forest), record s { made = s.made + made })))
      by [] = record { form_stays = h.form_stays; cases = h.cases }
      by (word ∷ words) = tt

  some-stays : (change : Model → Model) (o : Option ℕ) (s : State) → P s → P (in_some_model change o s)
  some-stays change None s h = h
  some-stays change (Some model) s h = record { form_stays = h.form_stays; cases = h.cases }

  list-stays : (o : Option ℕ) (s : State) → P s → P (list_changed o s)
  list-stays None s h = h
  list-stays (Some parent) s h = some-stays _ (model_holding s parent) s h

  detach-stays : (n : ℕ) (s : State) → P s → P (detach n s)
  detach-stays n s h = let k = list-stays (parent_of n (all_in s)) s h in record { form_stays = k.form_stays; cases = k.cases }

  -- a case that is toggled is one of its switch
  taken-has : (one parent : ℕ) (s : State) → IsToggled form one → (element_at form.interface one).parent ≡ Some parent → P s
      → have_cases form.interface (slice_set s.cases (switch_number (element_at form.interface parent).sort) (place_of_case form.interface parent one)) ≡ true
  taken-has one parent s is above h =
      let f = form.interface in
      let c = has_cases.toggled one parent is above in
      let place = place_of_case f parent one in
      let less : nat_lt place (length (cases_of f parent)) ≡ true = lower place (length (cases_of f parent)) c.place in
      set-has f s.cases (switch_number (element_at f parent).sort) place (subst (λ n. is_one f (n, place) ≡ true) (sym c.switch) less) h.cases
    where
      lower : (a b : ℕ) → a < b → nat_lt a b ≡ true
      lower a b q = grind (arith, nat_tests, q)

  keeps-each : is_filled form ≡ true → KeepsEach p form P
  keeps-each full = record {
    same = λ s h. h.form_stays;
    turns = λ left s h. record { form_stays = h.form_stays; cases = h.cases };
    notes = λ notes s h. record { form_stays = h.form_stays; cases = h.cases };
    calls = λ name asked answer s h. record { form_stays = h.form_stays; cases = h.cases };
    controls = λ list s h. record { form_stays = h.form_stays; cases = h.cases };
    indexes = λ indexes s h. record { form_stays = h.form_stays; cases = h.cases };
    case_set = λ one parent s is above h. record { form_stays = h.form_stays; cases = taken-has one parent s is above h };
    refresh_due = λ model s h. record { form_stays = h.form_stays; cases = h.cases };
    text = λ n text s e h. grown-to-stays _ _ _ (some-stays (λ m. texts_due (if_other (is_other_text s n text) (with_text_mark n) m)) (model_holding s n) s h);
    copy = λ n s h. grown-by-stays _ (copied p.bounds.limits n s.forest) s h;
    plant = λ contents s filled h. grown-by-stays _ (with_tree p.bounds.limits contents s.forest) s h;
    attach = λ n parent place s h. grown-to-stays 0 (attached p.bounds.limits n parent place s.forest) (list_changed (Some parent) s) (list-stays (Some parent) s h);
    detach = detach-stays;
    rebuild = λ model s h. rebuild-held P p model s (λ entries asked q. record { form_stays = h.form_stays; cases = h.cases });
    recalculate = λ model s none h. recalculate-held P p model s (λ made evaluated. record { form_stays = h.form_stays; cases = h.cases });
    revalidate = λ model s none h. record { form_stays = h.form_stays; cases = h.cases };
    cleared = λ model s calm h. record { form_stays = h.form_stays; cases = h.cases };
    all_cleared = λ s calm h. record { form_stays = h.form_stays; cases = h.cases };
    first = λ place s h. subst (λ (x : Program). are_filled (first_contents (construct p x) place) ≡ true) (sym h.form_stays) (first-filled p form full place);
  }

of-form : (form : Program) (s : State) → Has form s → are_cases s ≡ true
of-form form s h = subst (λ (x : Program). have_cases x.interface s.cases ≡ true) (sym h.form_stays) h.cases

outcome-held : (P : State → Type 0) (end : State → State) (r : Result State Refused) (t : State) (q : Posted) → Held (λ u. P (end u)) r → outcome end r ≡ accepted t q → P t
outcome-held P end (Err refusal) t q h e = cc
outcome-held P end (Ok u) t q h e = let same : end u ≡ t = cc in subst P same h

steps-keep : StepsKeepCases
steps-keep p event answers s t posted full c h e =
    let P : State → Type 0 = Has s.form in
    let r = changed_by p answers event (fresh p s) in
    outcome-held (λ u. are_cases u ≡ true) (λ u. one_more (at_end p u)) r t posted
    (held-more P (λ u. are_cases u ≡ true) r (of-form s.form) (changed-keeps p answers s.form P (keeps-each p s.form c full) event (fresh p s) (record { form_stays = refl; cases = h }))) e

-- ---- a start

brought-has : (p : Profile) (form : Program) (r : Result (List Index) Stop) (s : State) → Has form s → Held (Has form) (with_brought s r)
brought-has p form (Err stop) s h = tt
brought-has p form (Ok indexes) s h = record { form_stays = h.form_stays; cases = h.cases }

indexes-have : (p : Profile) (form : Program) (s : State) → Has form s → Held (Has form) (start_indexes p s)
indexes-have p form s h =
    held-any (Has form) (or_long s (ui.started (interface s) (quiet p s))) _
    (λ indexes. let t = with_indexes indexes s in brought-has p form (brought_up p.passes (interface t) (quiet p t) [] t.indexes) t (record { form_stays = h.form_stays; cases = h.cases }))

shown-has : (p : Profile) (form : Program) (s : State) → Has form s → Held (Has form) (first_shown p s)
shown-has p form s h = held-any (Has form) (shown p s) _ (λ list. record { form_stays = h.form_stays; cases = h.cases })

-- what is planted and built has the form
abbrev OfForm : Program → State → Type 0
OfForm form s = s.form ≡ form

planted-of : (p : Profile) (form : Program) (contents : List (ℕ × Content)) (s : State) → OfForm form s → Held (OfForm form) (plant_document p contents s)
planted-of p form contents s h = by (with_tree p.bounds.limits contents s.forest)
  where
    made : (words : List LimitWord) (one : ℕ × Forest) → Held (OfForm form) (rooted (unless_passed s words (one, record s { made = s.made + length contents })))
    made [] one = h
    made (word ∷ words) one = tt

    by : (r : Result (ℕ × Forest) TreeFault) → Held (OfForm form) (rooted (grown p (length contents) r s))
    by (Err fault) = tt
    by (Ok one) = made (over_made p (s.made + length contents)) one

built-of : (p : Profile) (form : Program) (model : ℕ) (s : State) → OfForm form s → Held (OfForm form) (build_model p model s)
built-of p form model s h =
    held-then (OfForm form) (OfForm form) (rebuild p model s >>= recalculate p model) (λ t. Ok (revalidate p model t))
    (held-then (OfForm form) (OfForm form) (rebuild p model s) (recalculate p model) (rebuild-held (OfForm form) p model s (λ entries asked q. h))
    (λ t i. recalculate-held (OfForm form) p model t (λ made evaluated. i))) (λ t i. i)

-- the cases are the first ones
constructed-has : (p : Profile) (form : Program) → HasCases form → Held (Has form) (construct p form)
constructed-has p form c =
    let O = OfForm form in
    let last : State → Result State Refused = λ t. start_indexes p (record t { cases = first_cases (interface t) }) >>= first_shown p in
    held-then O (Has form) (in_turn (plant_document p) form.documents (unbuilt p form)) (λ s. in_turn (build_model p) (counted_from 0 (length s.models)) s >>= last)
    (held-turn O (plant_document p) form.documents (planted-of p form) (unbuilt p form) refl)
    (λ s h. held-then O (Has form) (in_turn (build_model p) (counted_from 0 (length s.models)) s) last
    (held-turn O (build_model p) (counted_from 0 (length s.models)) (built-of p form) s h)
    (λ t i. let u : State = record t { cases = first_cases (interface t) } in
    let first : have_cases form.interface (first_cases t.form.interface) ≡ true = subst (λ (x : Program). have_cases form.interface (first_cases x.interface) ≡ true) (sym i) (first-have form.interface c.some) in
    held-then (Has form) (Has form) (start_indexes p u) (first_shown p) (indexes-have p form u (record { form_stays = i; cases = first })) (shown-has p form)))

starts-have : StartsHaveCases
starts-have p form answers s posted full c e =
    let P : State → Type 0 = Has form in
    let k = keeps-each p form c full in
    let told : (name : List ℕ) (t : State) → P t → Held P (tell_models p answers name t) = λ name t h. models-keep p answers form P k name t h in
    let ready : (t : State) → P t → Held P (readied p answers t) = λ t h.
    held-then P P (tell_models p answers (codes "xforms-model-construct") (fresh p t) >>= tell_models p answers (codes "xforms-model-construct-done")) (tell_models p answers (codes "xforms-ready"))
    (held-then P P (tell_models p answers (codes "xforms-model-construct") (fresh p t)) (tell_models p answers (codes "xforms-model-construct-done"))
    (told (codes "xforms-model-construct") (fresh p t) (record { form_stays = h.form_stays; cases = h.cases })) (told (codes "xforms-model-construct-done"))) (told (codes "xforms-ready")) in
    outcome-held (λ u. are_cases u ≡ true) (at_end p) (started p form answers) s posted
    (held-more P (λ u. are_cases u ≡ true) (started p form answers) (of-form form) (held-then P P (construct p form) (readied p answers) (constructed-has p form c) ready)) e

pub case_laws : CaseLaws
case_laws = record { steps = steps-keep; starts = starts-have }
