-- Each change of a state gives as many numbers as it makes nodes, and keeps the form; so does each change of the machine.
use Rattle.std.proofs.Common.{ℕ, ◌≡◌, ◌+◌, true, List, [], ◌∷◌, Option, Some, None, Result, Ok, Err, refl, sym, subst}
use Rattle.xf_def_forest.specs.declared.fault.TreeFault.{TreeFault}
use Rattle.xf_def_forest.specs.declared.content.Content.{Content}
use Rattle.xf_def_forest.specs.Changes.{attached, copied}
use Rattle.xf_def_forest.specs.Forest.{Forest}
use Rattle.xf_def_forest.specs.Planted.{with_tree}
use Rattle.xf_def_forest.specs.Visit.{parent_of}
use Rattle.xf_def_machine.specs.declared.limit.LimitWord.{LimitWord}
use Rattle.xf_def_machine.specs.Behave.{rebuild, recalculate}
use Rattle.xf_def_machine.specs.Construct.{construct, first_contents}
use Rattle.xf_def_machine.specs.Primitives.{set_text, copy, plant, attach, detach, grown, grown_by, grown_to, if_other, in_some_model, is_other_text, list_changed, over_made, texts_due, with_text_mark}
use Rattle.xf_def_machine.specs.Profile.{Profile}
use Rattle.xf_def_machine.specs.Program.{Program}
use Rattle.xf_def_machine.specs.Refusal.{Refused, unless_passed}
use Rattle.xf_def_machine.specs.State.{Model, State}
use Rattle.xf_def_machine.specs.Surround.{all_in, model_holding}
use Rattle.xf_law_machine.specs.Rest.Rests.{are_filled, is_filled}
use Rattle.xf_law_machine.proofs.RestLemmas.FlagLaws.{rebuild-held, recalculate-held}
use Rattle.xf_law_machine.proofs.RestLemmas.Holds.{Held, held-both, held-more}
use Rattle.xf_law_machine.proofs.RestLemmas.StartLaws.{first-filled}
use Rattle.xf_law_sessions.specs.Same.Behaving.{BehaviourLaws, HasTables}
use Rattle.xf_law_sessions.specs.Same.Going.{Counts, CountsAfter, CountsTop, GoingLaws, Runs}
use Rattle.xf_law_sessions.proofs.SameLemmas.BehavesGo.{behaviours_go}
use Rattle.xf_law_sessions.proofs.SameLemmas.GoingLaws.{changes_go}
use Rattle.xf_law_invariants.proofs.WholeLemmas.EachKeeps.{KeepsEach}

after-held : (p : Profile) (first : ℕ) (r : Result State Refused) → CountsAfter p first r → Held (Counts p first) r
after-held p first (Ok s) h = h
after-held p first (Err refusal) h = tt

top-held : (p : Profile) (first : ℕ) (r : Result (ℕ × State) Refused) → CountsTop p first r → Held (λ q. Counts p first q.1) r
top-held p first (Ok (top, s)) h = h
top-held p first (Err refusal) h = tt

-- each number stays itself
pub itself : (p : Profile) (first : ℕ) → Runs p (λ n. n) first first
itself p first = record { renumbers = λ m n. refl; keeps_texts = λ n. refl; continues = λ k l. refl }

abbrev pub changes : (p : Profile) (first : ℕ) → GoingLaws p (λ n. n) first first
changes p first = changes_go.goes p (λ n. n) first first (itself p first)

abbrev pub behaviours : (p : Profile) (first : ℕ) → BehaviourLaws p (λ n. n) first first
behaviours p first = behaviours_go p (λ n. n) first first (itself p first)

-- ---- the form

abbrev pub OfForm : Program → State → Type 0
OfForm form s = s.form ≡ form

module _ (p : Profile) (form : Program) where
  abbrev O : State → Type 0
  O s = OfForm form s

  grown-to-stays : (made : ℕ) (r : Result Forest TreeFault) (s : State) → O s → Held O (grown_to (grown p made r s))
  grown-to-stays made (Err fault) s h = tt
  grown-to-stays made (Ok forest) s h = by (over_made p (s.made + made))
    where
      by : (words : List LimitWord) → Held O (grown_to (unless_passed s words (forest, record s { made = s.made + made })))
      by [] = h
      by (word ∷ words) = tt

  grown-by-stays : (made : ℕ) (r : Result (ℕ × Forest) TreeFault) (s : State) → O s → Held (λ q. O q.1) (grown_by (grown p made r s))
  grown-by-stays made (Err fault) s h = tt
  grown-by-stays made (Ok (top, forest)) s h = by (over_made p (s.made + made))
    where
      by : (words : List LimitWord) → Held (λ q. O q.1) (grown_by (unless_passed s words ((top, forest), record s { made = s.made + made })))
      by [] = h
      by (word ∷ words) = tt

  some-stays : (change : Model → Model) (o : Option ℕ) (s : State) → O s → O (in_some_model change o s)
  some-stays change None s h = h
  some-stays change (Some model) s h = h

  list-stays : (o : Option ℕ) (s : State) → O s → O (list_changed o s)
  list-stays None s h = h
  list-stays (Some parent) s h = some-stays _ (model_holding s parent) s h

-- ---- both

pub record Counted (p : Profile) (form : Program) (first : ℕ) (s : State) : Type 0 where
  pub form_stays : s.form ≡ form
  pub counts : Counts p first s

module _ (p : Profile) (form : Program) (tables : HasTables form) (first : ℕ) where
  abbrev P : State → Type 0
  P s = Counted p form first s

  both : (r : Result State Refused) → Held (OfForm form) r → Held (Counts p first) r → Held P r
  both r h k = held-more (λ s. OfForm form s × Counts p first s) P r (λ s i. record { form_stays = i.0; counts = i.1 }) (held-both (OfForm form) (Counts p first) r h k)

  both-top : (r : Result (ℕ × State) Refused) → Held (λ q. OfForm form q.1) r → Held (λ q. Counts p first q.1) r → Held (λ q. P q.1) r
  both-top r h k =
      held-more (λ q. OfForm form q.1 × Counts p first q.1) (λ q. P q.1) r (λ q i. record { form_stays = i.0; counts = i.1 }) (held-both (λ q. OfForm form q.1) (λ q. Counts p first q.1) r h k)

  with-tables : (s : State) → P s → HasTables s.form
  with-tables s h = subst HasTables (sym h.form_stays) tables

  pub text-counts : (n : ℕ) (text : List ℕ) (s : State) → P s → Held P (set_text p n text s)
  text-counts n text s h =
      both (set_text p n text s) (grown-to-stays p form _ _ _ (some-stays p form (λ m. texts_due (if_other (is_other_text s n text) (with_text_mark n) m)) (model_holding s n) s h.form_stays))
      (after-held p first (set_text p n text s) ((changes p first).set_text n text s h.counts).counts)

  pub copy-counts : (n : ℕ) (s : State) → P s → Held (λ q. P q.1) (copy p n s)
  copy-counts n s h = both-top (copy p n s) (grown-by-stays p form _ (copied p.bounds.limits n s.forest) s h.form_stays) (top-held p first (copy p n s) ((changes p first).copy n s h.counts).counts)

  pub plant-counts : (contents : List (ℕ × Content)) (s : State) → P s → Held (λ q. P q.1) (plant p contents s)
  plant-counts contents s h =
      both-top (plant p contents s) (grown-by-stays p form _ (with_tree p.bounds.limits contents s.forest) s h.form_stays) (top-held p first (plant p contents s) ((changes p first).plant contents s h.counts).counts)

  pub attach-counts : (n parent place : ℕ) (s : State) → P s → Held P (attach p n parent place s)
  attach-counts n parent place s h =
      both (attach p n parent place s) (grown-to-stays p form 0 (attached p.bounds.limits n parent place s.forest) (list_changed (Some parent) s) (list-stays p form (Some parent) s h.form_stays))
      (after-held p first (attach p n parent place s) ((changes p first).attach n parent place s h.counts).counts)

  pub detach-counts : (n : ℕ) (s : State) → P s → P (detach n s)
  detach-counts n s h = record { form_stays = list-stays p form (parent_of n (all_in s)) s h.form_stays; counts = ((changes p first).detach n s h.counts).counts }

  pub rebuild-counts : (model : ℕ) (s : State) → P s → Held P (rebuild p model s)
  rebuild-counts model s h =
      both (rebuild p model s) (rebuild-held (OfForm form) p model s (λ entries asked q. h.form_stays))
      (after-held p first (rebuild p model s) ((behaviours p first).rebuild model s (with-tables s h) h.counts).counts)

  pub recalculate-counts : (model : ℕ) (s : State) → P s → Held P (recalculate p model s)
  recalculate-counts model s h =
      both (recalculate p model s) (recalculate-held (OfForm form) p model s (λ made count. h.form_stays))
      (after-held p first (recalculate p model s) ((behaviours p first).recalculate model s (with-tables s h) h.counts).counts)

  pub counts-each : is_filled form ≡ true → KeepsEach p form P
  counts-each full = record {
    same = λ s h. h.form_stays;
    turns = λ left s h. record { form_stays = h.form_stays; counts = record { next = h.counts.next; within = h.counts.within } };
    notes = λ notes s h. record { form_stays = h.form_stays; counts = record { next = h.counts.next; within = h.counts.within } };
    calls = λ name asked answer s h. record { form_stays = h.form_stays; counts = record { next = h.counts.next; within = h.counts.within } };
    controls = λ list s h. record { form_stays = h.form_stays; counts = record { next = h.counts.next; within = h.counts.within } };
    indexes = λ indexes s h. record { form_stays = h.form_stays; counts = record { next = h.counts.next; within = h.counts.within } };
    case_set = λ one parent s is above h. record { form_stays = h.form_stays; counts = record { next = h.counts.next; within = h.counts.within } };
    refresh_due = λ model s h. record { form_stays = h.form_stays; counts = record { next = h.counts.next; within = h.counts.within } };
    text = λ n text s e h. text-counts n text s h;
    copy = copy-counts;
    plant = λ contents s filled h. plant-counts contents s h;
    attach = attach-counts;
    detach = detach-counts;
    rebuild = rebuild-counts;
    recalculate = λ model s none h. recalculate-counts model s h;
    revalidate = λ model s none h. record { form_stays = h.form_stays; counts = record { next = h.counts.next; within = h.counts.within } };
    cleared = λ model s calm h. record { form_stays = h.form_stays; counts = record { next = h.counts.next; within = h.counts.within } };
    all_cleared = λ s calm h. record { form_stays = h.form_stays; counts = record { next = h.counts.next; within = h.counts.within } };
    first = λ place s h. subst (λ (x : Program). are_filled (first_contents (construct p x) place) ≡ true) (sym h.form_stays) (first-filled p form full place);
  }
