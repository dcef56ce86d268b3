-- The indexes and the list of the controls of a state go with a renumbering, and what is told of two lists.
use Rattle.std.proofs.Common.{◌≡◌, ℕ, ◌+◌, ◌==◌, ◌&&◌, List, [], ◌∷◌, ◌++◌, map, length, find, nat_lt, bytes_eq, Option, Some, None, option_map, Result, Ok, Err, refl, sym, ap, ◌∙◌}
use Rattle.std.specs.Prelude.{fold}
use Rattle.std.specs.List.{flat_map}
use Rattle.std.proofs.lemmas.List.{map-append}
use Rattle.xf_def_forest.specs.Same.{IsRenumbering}
use Rattle.xf_def_forest.proofs.RenumberLaws.{find-through}
use Rattle.xf_def_ui.specs.Copies.{Copy, copies, copy_count}
use Rattle.xf_def_ui.specs.Index.{Index, Stop, brought_up}
use Rattle.xf_def_ui.specs.Notifications.{names_of, is_same_copy, told, told_since, notifications}
use Rattle.xf_def_ui.specs.Started.{index_set}
use Rattle.xf_def_machine.specs.declared.limit.LimitWord.{LimitWord}
use Rattle.xf_def_machine.specs.declared.limit.LimitWord.TheVariants.{Controls}
use Rattle.xf_def_machine.specs.Profile.{Profile}
use Rattle.xf_def_machine.specs.State.{Model, State}
use Rattle.xf_def_machine.specs.Refusal.{Refused, or_long, unless_passed, if_over}
use Rattle.xf_def_machine.specs.Flow.{◌>>=◌}
use Rattle.xf_def_machine.specs.Surround.{interface, quiet}
use Rattle.xf_def_machine.specs.Primitives.{in_model, refresh_due, with_indexes}
use Rattle.xf_def_machine.specs.Properties.{marks_in}
use Rattle.xf_def_machine.specs.Update.{with_brought, reindex, within_controls, shown, no_refresh}
use Rattle.xf_def_machine.specs.Choose.{set_index}
use Rattle.xf_def_machine.specs.Same.{renumbered_model, renumbered_index, renumbered_copy}
use Rattle.xf_law_sessions.specs.Same.Going.{Runs, image, Counts, imaged, CountsAfter}
use Rattle.xf_law_sessions.specs.Same.Controls.{HasForm, renumbered_brought, renumbered_list, renumbered_notification, GoesWithForm, ControlLaws, ControlsGo}
use Rattle.xf_law_sessions.proofs.SameLemmas.ForestGoes.{map-length}
use Rattle.xf_law_sessions.proofs.SameLemmas.GoingLaws.{in-model-goes}
use Rattle.xf_law_sessions.proofs.SameLemmas.IndexGoes.{brought-goes, set-index-goes}
use Rattle.xf_law_sessions.proofs.SameLemmas.CopiesGo.{copies-go}
use Rattle.xf_law_sessions.proofs.SameLemmas.StateGoes.{elements-go, around-goes, marks-go}

-- ---- what is told

module _ (f : ℕ → ℕ) (same : IsRenumbering f) where
  pub bytes-go : (ms ns : List ℕ) → bytes_eq (map f ms) (map f ns) ≡ bytes_eq ms ns
  bytes-go [] [] = refl
  bytes-go [] (n ∷ ns) = refl
  bytes-go (m ∷ ms) [] = refl
  bytes-go (m ∷ ms) (n ∷ ns) = rw (same m n, bytes-go ms ns) refl

  same-copy : (c d : Copy) → is_same_copy (renumbered_copy f c) (renumbered_copy f d) ≡ is_same_copy c d
  same-copy c d = ap (λ b. (c.element == d.element) && b) (bytes-go c.rows d.rows)

  told-goes : (c : Copy) (names : List (List ℕ)) → told (renumbered_copy f c) names ≡ map (renumbered_notification f) (told c names)
  told-goes c [] = refl
  told-goes c (name ∷ names) = ap (λ l. record { name = name; target = c.element; rows = map f c.rows } ∷ l) (told-goes c names)

  since-goes : (o : Option Copy) (c : Copy) → told_since (option_map (renumbered_copy f) o) (renumbered_copy f c) ≡ map (renumbered_notification f) (told_since o c)
  since-goes None c = refl
  since-goes (Some old) c = told-goes c (names_of old c)

  notifications-go : (before now : List Copy) → notifications (map (renumbered_copy f) before) (map (renumbered_copy f) now) ≡ map (renumbered_notification f) (notifications before now)
  notifications-go before [] = refl
  notifications-go before (c ∷ cs) =
      let olds = map (renumbered_copy f) before in
      let rest = flat_map (λ d. told_since (find (is_same_copy d) olds) d) (map (renumbered_copy f) cs) in
      ap (λ o. told_since o (renumbered_copy f c) ++ rest) (find-through (renumbered_copy f) (is_same_copy (renumbered_copy f c)) (is_same_copy c) (λ d. same-copy c d) before)
      ∙ ap (λ l. l ++ rest) (since-goes (find (is_same_copy c) before) c)
      ∙ ap (λ l. map (renumbered_notification f) (told_since (find (is_same_copy c) before) c) ++ l) (notifications-go before cs)
      ∙ sym (map-append (renumbered_notification f) (told_since (find (is_same_copy c) before) c) (notifications before cs))

items-count : (f : ℕ → ℕ) (sum : ℕ) (cs : List Copy) → fold (λ (a : ℕ) (c : Copy). a + length c.items) sum (map (renumbered_copy f) cs) ≡ fold (λ (a : ℕ) (c : Copy). a + length c.items) sum cs
items-count f sum [] = refl
items-count f sum (c ∷ cs) = items-count f (sum + length c.items) cs

count-goes : (f : ℕ → ℕ) (cs : List Copy) → copy_count (map (renumbered_copy f) cs) ≡ copy_count cs
count-goes f cs =
    ap (λ n. n + fold (λ (a : ℕ) (c : Copy). a + length c.items) 0 (map (renumbered_copy f) cs)) (map-length (renumbered_copy f) cs)
    ∙ ap (λ n. length cs + n) (items-count f 0 cs)

cleared-map : (f : ℕ → ℕ) (ms : List Model) → map no_refresh (map (renumbered_model f) ms) ≡ map (renumbered_model f) (map no_refresh ms)
cleared-map f [] = refl
cleared-map f (m ∷ ms) = ap (λ l. no_refresh (renumbered_model f m) ∷ l) (cleared-map f ms)

-- ---- the list of the controls

module _ (p : Profile) (f : ℕ → ℕ) (same : IsRenumbering f) (second : ℕ) where
  passed-state : (s : State) (words : List LimitWord) (list : List Copy) → unless_passed (image f second s) words (map (renumbered_copy f) list) ≡ renumbered_list f (unless_passed s words list)
  passed-state s [] list = refl
  passed-state s (word ∷ words) list = refl

  shown-state : (s : State) (o : Option (List Copy))
      → (or_long (image f second s) (option_map (map (renumbered_copy f)) o) >>= λ list. within_controls p list (image f second s)) ≡ renumbered_list f (or_long s o >>= λ list. within_controls p list s)
  shown-state s None = refl
  shown-state s (Some list) =
      ap (λ n. unless_passed (image f second s) (if_over (nat_lt p.controls n) Controls) (map (renumbered_copy f) list)) (count-goes f list)
      ∙ passed-state s (if_over (nat_lt p.controls (copy_count list)) Controls) list

  pub shown-is : (s : State) → HasForm s.form → shown p (image f second s) ≡ renumbered_list f (shown p s)
  shown-is s h =
      let form = interface s in
      ap (λ o. or_long (image f second s) o >>= λ list. within_controls p list (image f second s))
      (copies-go f same form (elements-go f same s h) (quiet p s) (quiet p (image f second s)) (around-goes p f same second s h None)
      (marks_in s) (marks_in (image f second s)) (marks-go f same second s) s.cases s.indexes)
      ∙ shown-state s (copies form (quiet p s) (marks_in s) s.cases s.indexes)

-- ---- of a state

module _ (p : Profile) (f : ℕ → ℕ) (first second : ℕ) (r : Runs p f first second) where
  brought-state : (s : State) (x : Result (List Index) Stop) → with_brought (image f second s) (renumbered_brought f x) ≡ imaged f second (with_brought s x)
  brought-state s (Ok indexes) = refl
  brought-state s (Err stop) = refl

  brought-counts : (s : State) (x : Result (List Index) Stop) → Counts p first s → CountsAfter p first (with_brought s x)
  brought-counts s (Ok indexes) c = record { next = c.next; within = c.within }
  brought-counts s (Err stop) c = tt

  reindex-goes : (added : List ℕ) → GoesWithForm p f first second (reindex p added) (reindex p (map f added))
  reindex-goes added s h c =
      let form = interface s in
      let x = brought_up p.passes form (quiet p s) added s.indexes in
      record {
        is = ap (with_brought (image f second s))
            (brought-goes f r.renumbers form (λ n. (elements-go f r.renumbers s h n).binding) (quiet p s) (quiet p (image f second s)) (around-goes p f r.renumbers second s h None) p.passes added s.indexes)
            ∙ brought-state s x;
        counts = brought-counts s x c;
      }

  -- the index of a repeat

  set-state : (model : ℕ) (s : State) (o : Option (List Index))
      → (or_long (image f second s) (option_map (map (renumbered_index f)) o) >>= λ indexes. Ok (in_model refresh_due model (with_indexes indexes (image f second s))))
      ≡ imaged f second (or_long s o >>= λ indexes. Ok (in_model refresh_due model (with_indexes indexes s)))
  set-state model s None = refl
  set-state model s (Some indexes) = ap Ok (in-model-goes p f first second r refresh_due refresh_due model (λ m. refl) (with_indexes indexes s))

  set-counts : (model : ℕ) (s : State) (o : Option (List Index)) → Counts p first s → CountsAfter p first (or_long s o >>= λ indexes. Ok (in_model refresh_due model (with_indexes indexes s)))
  set-counts model s None c = tt
  set-counts model s (Some indexes) c = record { next = c.next; within = c.within }

  index-goes : (model k n : ℕ) → GoesWithForm p f first second (set_index p model k n) (set_index p model k n)
  index-goes model k n s h c =
      let form = interface s in
      let o = index_set form (quiet p s) k n s.indexes in
      record {
        is = ap (λ x. or_long (image f second s) x >>= λ indexes. Ok (in_model refresh_due model (with_indexes indexes (image f second s))))
            (set-index-goes f r.renumbers form (λ m. (elements-go f r.renumbers s h m).binding) (quiet p s) (quiet p (image f second s)) (around-goes p f r.renumbers second s h None) k n s.indexes)
            ∙ set-state model s o;
        counts = set-counts model s o c;
      }

  pub control_laws : ControlLaws p f first second
  control_laws = record {
    reindex = reindex-goes;
    set_index = index-goes;
    shown = shown-is p f r.renumbers second;
    told = notifications-go f r.renumbers;
    controls = λ list s c. record { is = refl; counts = record { next = c.next; within = c.within } };
    cleared = λ model s c. record {
      is = ap Ok (in-model-goes p f first second r no_refresh no_refresh model (λ m. refl) s);
      counts = record { next = c.next; within = c.within };
    };
    all_cleared = λ s c. record {
      is = ap {A = List Model} {B = Result State Refused} (λ ms. Ok (record (image f second s) { models = ms })) (cleared-map f s.models);
      counts = record { next = c.next; within = c.within };
    };
    called = λ name asked answer s c. record { is = refl; counts = record { next = c.next; within = c.within } };
  }

pub controls_go : ControlsGo
controls_go p f first second r = control_laws p f first second r
