-- What a start and an adoption give: a construction gives one number more for the root of each instance than it makes nodes.
use Rattle.std.proofs.Common.{ℕ, suc, ◌≡◌, ◌+◌, true, List, [], ◌∷◌, codes, length, get_or, Result, Ok, Err, refl, sym, ap, ◌∙◌, subst, arith}
use Rattle.std.specs.Prelude.{◌≤◌, ◌*◌, ◌^◌}
use Rattle.xf_def_syntax.specs.declared.form.Instance.{Instance}
use Rattle.xf_store.specs.declared.answers.Answer.{Answer}
use Rattle.xf_def_forest.specs.declared.content.Content.{Content}
use Rattle.xf_def_forest.specs.Forest.{Forest}
use Rattle.xf_def_forest.specs.Planted.{with_tree}
use Rattle.xf_def_ui.specs.Cases.{first_cases}
use Rattle.xf_def_ui.specs.Index.{Index, Stop, brought_up}
use Rattle.xf_def_ui.specs.Started as ui
use Rattle.xf_def_machine.specs.Behave.{rebuild, recalculate, revalidate}
use Rattle.xf_def_machine.specs.Carried.{Document, NoFit, before_all, with_rest, carried_one, carried_from, carried, construct_over, adopted_by, adopted_over, document_of, rank_of}
use Rattle.xf_def_machine.specs.Construct.{build_model, construct, first_shown, plant_document, rooted, start_indexes, unbuilt}
use Rattle.xf_def_machine.specs.Cycles.{counted_from}
use Rattle.xf_def_machine.specs.Flow.{◌>>=◌, in_turn}
use Rattle.xf_def_machine.specs.Primitives.{grown, grown_by, with_indexes}
use Rattle.xf_def_machine.specs.Profile.{Profile}
use Rattle.xf_def_machine.specs.Program.{Program}
use Rattle.xf_def_machine.specs.Refusal.{Refused, or_long}
use Rattle.xf_def_machine.specs.Start.{readied, started, tell_models}
use Rattle.xf_def_machine.specs.State.{State}
use Rattle.xf_def_machine.specs.Step.{Posted, accepted, at_end, fresh, outcome}
use Rattle.xf_def_machine.specs.Surround.{interface, quiet}
use Rattle.xf_def_machine.specs.Update.{reindex, shown, with_brought}
use Rattle.xf_law_machine.specs.Rest.Rests.{is_filled}
use Rattle.xf_law_machine.proofs.RestLemmas.Holds.{Held, held-any, held-then, held-turn}
use Rattle.xf_law_machine.proofs.RestLemmas.StepLaws.{step_rests}
use Rattle.xf_law_sessions.specs.Same.Behaving.{HasTables}
use Rattle.xf_law_sessions.specs.Step.Steps.{IsOfForm}
use Rattle.xf_law_invariants.proofs.WholeLemmas.EachEvents.{models-keep}
use Rattle.xf_law_sessions.specs.Room.Room.{StartGives, AdoptionGives, StartHasRoom, AdoptionHasRoom, RoomLaws}
use Rattle.xf_law_sessions.proofs.RoomLemmas.Counted.{Counted, plant-counts, rebuild-counts, recalculate-counts, counts-each}

with-tables : (form : Program) → IsOfForm form → HasTables form
with-tables form h = (h.form.tables, ap (λ (x : Program). x.rules) h.is)

-- ---- a construction

module _ (p : Profile) (form : Program) (tables : HasTables form) where
  abbrev P : ℕ → State → Type 0
  P first s = Counted p form first s

  -- a planted tree gets a root, which has a number of its own
  rooted-counts : (first : ℕ) (r : Result ((ℕ × Forest) × State) Refused) → Held (λ q. P first q.1) (grown_by r) → Held (P (suc first)) (rooted r)
  rooted-counts first (Err refusal) h = tt
  rooted-counts first (Ok ((top, forest), s)) h =
      let next : forest.next ≡ first + s.made = h.counts.next in
      record { form_stays = h.form_stays; counts = record { next = omega (arith, next); within = h.counts.within } }

  planted-counts : (documents : List (List (ℕ × Content))) (first : ℕ) (s : State) → P first s → Held (P (length documents + first)) (in_turn (plant_document p) documents s)
  planted-counts [] first s h = let plain : first ≡ 0 + first = omega arith in subst (λ n. P n s) plain h
  planted-counts (contents ∷ documents) first s h =
      let more : length documents + suc first ≡ suc (length documents) + first = omega arith in
      held-then (P (suc first)) (P (suc (length documents) + first)) (plant_document p contents s) (in_turn (plant_document p) documents)
      (rooted-counts first (grown p (length contents) (with_tree p.bounds.limits contents s.forest) s) (plant-counts p form tables first contents s h))
      (λ t i. subst (λ n. Held (P n) (in_turn (plant_document p) documents t)) more (planted-counts documents (suc first) t i))

  module _ (first : ℕ) where
    built-counts : (model : ℕ) (s : State) → P first s → Held (P first) (build_model p model s)
    built-counts model s h =
        held-then (P first) (P first) (rebuild p model s >>= recalculate p model) (λ t. Ok (revalidate p model t))
        (held-then (P first) (P first) (rebuild p model s) (recalculate p model) (rebuild-counts p form tables first model s h) (recalculate-counts p form tables first model))
        (λ t i. record { form_stays = i.form_stays; counts = record { next = i.counts.next; within = i.counts.within } })

    brought-counts : (r : Result (List Index) Stop) (s : State) → P first s → Held (P first) (with_brought s r)
    brought-counts (Err stop) s h = tt
    brought-counts (Ok indexes) s h = record { form_stays = h.form_stays; counts = record { next = h.counts.next; within = h.counts.within } }

    indexes-count : (s : State) → P first s → Held (P first) (start_indexes p s)
    indexes-count s h =
        held-any (P first) (or_long s (ui.started (interface s) (quiet p s))) (λ indexes. reindex p [] (with_indexes indexes s))
        (λ indexes. let t = with_indexes indexes s in
        brought-counts (brought_up p.passes (interface t) (quiet p t) [] t.indexes) t (record { form_stays = h.form_stays; counts = record { next = h.counts.next; within = h.counts.within } }))

    shown-counts : (s : State) → P first s → Held (P first) (first_shown p s)
    shown-counts s h =
        held-any (P first) (shown p s) (λ list. Ok (record s { controls = list }))
        (λ list. record { form_stays = h.form_stays; counts = record { next = h.counts.next; within = h.counts.within } })

  constructed-counts : Held (P (length form.documents + 0)) (construct p form)
  constructed-counts =
      let first = length form.documents + 0 in
      let last : State → Result State Refused = λ t. start_indexes p (record t { cases = first_cases (interface t) }) >>= first_shown p in
      held-then (P first) (P first) (in_turn (plant_document p) form.documents (unbuilt p form)) (λ s. in_turn (build_model p) (counted_from 0 (length s.models)) s >>= last)
      (planted-counts form.documents 0 (unbuilt p form) (record { form_stays = refl; counts = record { next = refl; within = omega arith } }))
      (λ s h. held-then (P first) (P first) (in_turn (build_model p) (counted_from 0 (length s.models)) s) last
      (held-turn (P first) (build_model p) (counted_from 0 (length s.models)) (built-counts first) s h)
      (λ t i. let u : State = record t { cases = first_cases (interface t) } in
      held-then (P first) (P first) (start_indexes p u) (first_shown p)
      (indexes-count first u (record { form_stays = i.form_stays; counts = record { next = i.counts.next; within = i.counts.within } })) (shown-counts first)))

  -- ---- a start

  abbrev Most : State → Type 0
  Most s = s.forest.next ≤ length form.documents + (p.made + p.made)

  readied-counts : is_filled form ≡ true → (answers : List Answer) (first : ℕ) (s : State) → P first s → Held (P s.forest.next) (readied p answers s)
  readied-counts full answers first s h =
      let n = s.forest.next in
      let k = counts-each p form tables n full in
      let told : (name : List ℕ) (t : State) → P n t → Held (P n) (tell_models p answers name t) = λ name t i. models-keep p answers form (P n) k name t i in
      let plain : n ≡ n + 0 = omega arith in
      held-then (P n) (P n) (tell_models p answers (codes "xforms-model-construct") (fresh p s) >>= tell_models p answers (codes "xforms-model-construct-done")) (tell_models p answers (codes "xforms-ready"))
      (held-then (P n) (P n) (tell_models p answers (codes "xforms-model-construct") (fresh p s)) (tell_models p answers (codes "xforms-model-construct-done"))
      (told (codes "xforms-model-construct") (fresh p s) (record { form_stays = h.form_stays; counts = record { next = plain; within = omega arith } })) (told (codes "xforms-model-construct-done"))) (told (codes "xforms-ready"))

  started-counts : is_filled form ≡ true → (answers : List Answer) → Held Most (started p form answers)
  started-counts full answers =
      held-then (P (length form.documents + 0)) Most (construct p form) (readied p answers) constructed-counts
      (λ s h. most s h (readied p answers s) (readied-counts full answers (length form.documents + 0) s h))
    where
      most : (s : State) → P (length form.documents + 0) s → (r : Result State Refused) → Held (P s.forest.next) r → Held Most r
      most s h (Err refusal) i = tt
      most s h (Ok t) i =
          let one : s.forest.next ≡ length form.documents + 0 + s.made = h.counts.next in
          let few : s.made ≤ p.made = h.counts.within in
          let two : t.forest.next ≡ s.forest.next + t.made = i.counts.next in
          let less : t.made ≤ p.made = i.counts.within in
          omega (arith, one, few, two, less)

outcome-held : (P : State → Type 0) (end : State → State) (r : Result State Refused) (t : State) (q : Posted) → Held (λ u. P (end u)) r → outcome end r ≡ accepted t q → P t
outcome-held P end (Err refusal) t q h e = cc
outcome-held P end (Ok u) t q h e = let same : end u ≡ t = cc in subst P same h

start-gives : StartGives
start-gives p form answers s posted of_form full e = outcome-held (Most p form (with-tables form of_form)) (at_end p) (started p form answers) s posted (started-counts p form (with-tables form of_form) full answers) e

-- ---- an adoption

-- as many documents as instances
all-length : (document : Document) (r : Result (List Document) NoFit) (n : ℕ) → ((ds : List Document) → r ≡ Ok ds → length ds ≡ n) → (ds : List Document) → before_all document r ≡ Ok ds → length ds ≡ suc n
all-length document (Err fault) n h ds e = cc e
all-length document (Ok rest) n h ds e = let same : document ∷ rest ≡ ds = cc e in ap (λ l. length l) (sym same) ∙ ap suc (h rest refl)

rest-length : (first : Result Document NoFit) (r : Result (List Document) NoFit) (n : ℕ) → ((ds : List Document) → r ≡ Ok ds → length ds ≡ n) → (ds : List Document) → with_rest first r ≡ Ok ds → length ds ≡ suc n
rest-length (Err fault) r n h ds e = cc e
rest-length (Ok document) r n h ds e = all-length document r n h ds e

carried-length : (s : State) (form : Program) (place : ℕ) (is : List Instance) (ds : List Document) → carried_from s form place is ≡ Ok ds → length ds ≡ length is
carried-length s form place [] ds e = let same : ◌≡◌ {A = List Document} [] ds = cc e in ap (λ l. length l) (sym same)
carried-length s form place (i ∷ is) ds e =
    let rank = rank_of form.instances i.model place in
    rest-length (carried_one s.form.bindings form.bindings i.model rank (document_of s i.model rank) (get_or form.documents place [])) (carried_from s form (suc place) is) (length is)
    (λ rest q. carried-length s form (suc place) is rest q) ds e

-- the form with other documents
over-form : (form : Program) (documents : List Document) → IsOfForm form → HasTables (record form { documents = documents })
over-form form documents h = (h.form.tables, ap (λ (x : Program). x.rules) h.is)

adoption-gives : AdoptionGives
adoption-gives p s form t of_form e = by (carried s form) refl e
  where
    made : (documents : List Document) → length documents ≡ length form.instances → (r : Result State Refused)
        → Held (Counted p (record form { documents = documents }) (length documents + 0)) r → adopted_by p s form r ≡ Ok t → t.forest.next ≤ length form.instances + p.made
    made documents l (Err refusal) h q = cc q
    made documents l (Ok u) h q =
        let next : u.forest.next ≡ length documents + 0 + u.made = h.counts.next in
        let within : u.made ≤ p.made = h.counts.within in
        let same : record (at_end p u) { form = form; accepted = suc s.accepted } ≡ t = cc q in
        subst (λ (x : State). x.forest.next ≤ length form.instances + p.made) same (omega (arith, next, within, l))

    by : (r : Result (List Document) NoFit) → carried s form ≡ r → adopted_over p s form r ≡ Ok t → t.forest.next ≤ length form.instances + p.made
    by (Err fault) c q = cc q
    by (Ok documents) c q =
        made documents (carried-length s form 0 form.instances documents c) (construct_over p form documents)
        (constructed-counts p (record form { documents = documents }) (over-form form documents of_form)) q

-- ---- room

start-room : StartHasRoom
start-room p form answers s posted of_form full made few e =
    let most : s.forest.next ≤ length form.documents + (p.made + p.made) = start-gives p form answers s posted of_form full e in
    let none : s.accepted ≡ 0 = ((step_rests p).started form answers s posted full e).accepted in
    let all : s.forest.next ≤ 2 ^ 34 * 1 = omega (arith, most, made, few) in
    subst (λ n. s.forest.next ≤ 2 ^ 34 * suc n) (sym none) all

adoption-room : AdoptionHasRoom
adoption-room p s form t of_form made few e =
    let most : t.forest.next ≤ length form.instances + p.made = adoption-gives p s form t of_form e in
    omega (arith, most, made, few)

pub room_laws : RoomLaws
room_laws = record { start = start-gives; adopted = adoption-gives; start_room = start-room; adopted_room = adoption-room }
