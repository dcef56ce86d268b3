-- An accepted event counts as one, whatever the form asks of it, and the form stays.
use Rattle.std.proofs.Common.{ℕ, suc, ◌+◌, ◌≡◌, Bool, true, false, if◌then◌else◌, List, [], ◌∷◌, Option, Some, None, Result, Ok, Err, refl, sym, ap, subst}
use Rattle.xf_line.specs.declared.event.Event.{Event}
use Rattle.xf_store.specs.declared.answers.Answer.{Answer}
use Rattle.xf_def_forest.specs.declared.fault.TreeFault.{TreeFault}
use Rattle.xf_def_forest.specs.Forest.{Forest}
use Rattle.xf_def_forest.specs.Changes.{copied, attached}
use Rattle.xf_def_forest.specs.Planted.{with_tree}
use Rattle.xf_def_forest.specs.Visit.{parent_of}
use Rattle.xf_def_machine.specs.declared.limit.LimitWord.{LimitWord}
use Rattle.xf_def_machine.specs.Profile.{Profile}
use Rattle.xf_def_machine.specs.Program.{Program}
use Rattle.xf_def_machine.specs.State.{Model, State}
use Rattle.xf_def_machine.specs.Refusal.{Refused, unless_passed}
use Rattle.xf_def_machine.specs.Surround.{all_in, model_holding}
use Rattle.xf_def_machine.specs.Primitives.{in_some_model, texts_due, if_other, with_text_mark, is_other_text, list_changed, over_made, grown, grown_to, grown_by, detach}
use Rattle.xf_def_machine.specs.Construct.{construct, first_contents}
use Rattle.xf_def_machine.specs.Step.{Posted, Outcome, accepted, refused, outcome, fresh, at_end, one_more, changed_by, step}
use Rattle.xf_def_machine.specs.Run.{are_those_of, if_exact}
use Rattle.xf_law_machine.specs.Rest.Rests.{is_filled, are_filled}
use Rattle.xf_law_machine.proofs.RestLemmas.Holds.{Held}
use Rattle.xf_law_machine.proofs.RestLemmas.FlagLaws.{rebuild-held, recalculate-held}
use Rattle.xf_law_machine.proofs.RestLemmas.EachKeeps.{KeepsEach}
use Rattle.xf_law_machine.proofs.RestLemmas.EachEvents.{changed-keeps}
use Rattle.xf_law_machine.proofs.RestLemmas.StartLaws.{first-filled}

-- of this form, with this number of accepted events
pub record Stays (form : Program) (count : ℕ) (s : State) : Type 0 where
  pub form_stays : s.form ≡ form
  pub count_stays : s.accepted ≡ count

module _ (p : Profile) (form : Program) (count : ℕ) where
  abbrev P : State → Type 0
  P s = Stays form count s

  -- ---- the changes that all others are made of

  grown-to-stays : (made : ℕ) (r : Result Forest TreeFault) (s : State) → P s → Held P (grown_to (grown p made r s))
  grown-to-stays made (Err fault) s h = tt
  grown-to-stays made (Ok forest) s h = by (over_made p (s.made + made))
    where
      by : (words : List LimitWord) → Held P (grown_to (unless_passed s words (forest, record s { made = s.made + made })))
      by [] = record { form_stays = h.form_stays; count_stays = h.count_stays }
      by (word ∷ words) = tt

  grown-by-stays : (made : ℕ) (r : Result (ℕ × Forest) TreeFault) (s : State) → P s → Held (λ q. P q.1) (grown_by (grown p made r s))
  grown-by-stays made (Err fault) s h = tt
  grown-by-stays made (Ok (top, forest)) s h = by (over_made p (s.made + made))
    where
      by : (words : List LimitWord) → Held (λ q. P q.1) (grown_by (unless_passed s words ((top, forest), record s { made = s.made + made })))
      by [] = record { form_stays = h.form_stays; count_stays = h.count_stays }
      by (word ∷ words) = tt

  some-stays : (change : Model → Model) (o : Option ℕ) (s : State) → P s → P (in_some_model change o s)
  some-stays change None s h = h
  some-stays change (Some model) s h = record { form_stays = h.form_stays; count_stays = h.count_stays }

  list-stays : (o : Option ℕ) (s : State) → P s → P (list_changed o s)
  list-stays None s h = h
  list-stays (Some parent) s h = some-stays _ (model_holding s parent) s h

  detach-stays : (n : ℕ) (s : State) → P s → P (detach n s)
  detach-stays n s h = let k = list-stays (parent_of n (all_in s)) s h in record { form_stays = k.form_stays; count_stays = k.count_stays }

  keeps-each : is_filled form ≡ true → KeepsEach p P
  keeps-each f = record {
    turns = λ left s h. record { form_stays = h.form_stays; count_stays = h.count_stays };
    notes = λ notes s h. record { form_stays = h.form_stays; count_stays = h.count_stays };
    calls = λ name asked answer s h. record { form_stays = h.form_stays; count_stays = h.count_stays };
    controls = λ list s h. record { form_stays = h.form_stays; count_stays = h.count_stays };
    indexes = λ indexes s h. record { form_stays = h.form_stays; count_stays = h.count_stays };
    case_set = λ k place s h. record { form_stays = h.form_stays; count_stays = h.count_stays };
    refresh_due = λ model s h. record { form_stays = h.form_stays; count_stays = h.count_stays };
    text = λ n text s h. grown-to-stays _ _ _ (some-stays (λ m. texts_due (if_other (is_other_text s n text) (with_text_mark n) m)) (model_holding s n) s h);
    copy = λ n s h. grown-by-stays _ (copied p.bounds.limits n s.forest) s h;
    plant = λ contents s full h. grown-by-stays _ (with_tree p.bounds.limits contents s.forest) s h;
    attach = λ n parent place s h. grown-to-stays 0 (attached p.bounds.limits n parent place s.forest) (list_changed (Some parent) s) (list-stays (Some parent) s h);
    detach = detach-stays;
    rebuild = λ model s h. rebuild-held P p model s (λ entries asked q. record { form_stays = h.form_stays; count_stays = h.count_stays });
    recalculate = λ model s none h. recalculate-held P p model s (λ made evaluated. record { form_stays = h.form_stays; count_stays = h.count_stays });
    revalidate = λ model s none h. record { form_stays = h.form_stays; count_stays = h.count_stays };
    cleared = λ model s calm h. record { form_stays = h.form_stays; count_stays = h.count_stays };
    all_cleared = λ s calm h. record { form_stays = h.form_stays; count_stays = h.count_stays };
    first = λ place s h. subst (λ (x : Program). are_filled (first_contents (construct p x) place) ≡ true) (sym h.form_stays) (first-filled p form f place);
  }

-- ---- a step

ended-by : (end : State → State) (r : Result State Refused) (P Q : State → Type 0) (t : State) (q : Posted) → ((u : State) → P u → Q (end u)) → Held P r → outcome end r ≡ accepted t q → Q t
ended-by end (Err refusal) P Q t q k h e = cc
ended-by end (Ok u) P Q t q k h e = let same : end u ≡ t = cc in subst Q same (k u h)

pub step-counts : (p : Profile) (event : Event) (answers : List Answer) (s t : State) (q : Posted) → is_filled s.form ≡ true → step p s event answers ≡ accepted t q
    → Stays s.form (suc s.accepted) t
step-counts p event answers s t q f e =
    ended-by (λ u. one_more (at_end p u)) (changed_by p answers event (fresh p s)) (Stays s.form s.accepted) (Stays s.form (suc s.accepted)) t q
    (λ u h. record { form_stays = h.form_stays; count_stays = ap suc h.count_stays })
    (changed-keeps p answers (Stays s.form s.accepted) (keeps-each p s.form s.accepted f) event (fresh p s) (record { form_stays = refl; count_stays = refl })) e

-- ---- exactly these answers

pub exact-is : (answers : List Answer) (o : Outcome) (s : State) → if_exact answers o ≡ Some s → (q : Posted) × (o ≡ accepted s q)
exact-is answers (refused why calls) s h = cc
exact-is answers (accepted t q) s h = by (are_those_of q.calls answers) h
  where
    by : (b : Bool) → (if b then Some t else None) ≡ Some s → (r : Posted) × (accepted t q ≡ accepted s r)
    by true e = let same : t ≡ s = cc in (q, ap (λ x. accepted x q) same)
    by false e = cc
