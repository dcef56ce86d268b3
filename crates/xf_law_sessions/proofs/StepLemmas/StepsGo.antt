-- An event from outside goes with a renumbering.
use Rattle.std.proofs.Common.{◌≡◌, ℕ, ◌+◌, ◌==◌, Bool, true, false, not, ◌&&◌, List, [], ◌∷◌, ◌++◌, map, find, zip, codes, nat_le, Option, Some, None, option_map, Result, Ok, Err, refl, sym, ap, ◌∙◌, subst, arith}
use Rattle.std.proofs.lemmas.List.{map-append}
use Rattle.xf_line.specs.declared.event.Event.{Event}
use Rattle.xf_line.specs.declared.event.Event.TheVariants.{Set, Activate, Index, Send, Dispatch, Reset}
use Rattle.xf_def_forest.proofs.RenumberLaws.{find-through}
use Rattle.xf_def_forest.proofs.RenumberChanges.{in_instances-renumbered}
use Rattle.xf_def_xpath.proofs.Options.{then-through}
use Rattle.xf_def_ui.specs.Around.{Around}
use Rattle.xf_def_ui.specs.Copies.{Copy}
use Rattle.xf_def_ui.specs.Elements.{element_at, repeats_around}
use Rattle.xf_def_ui.specs.Index.{rows_now}
use Rattle.xf_def_ui.specs.Interface.{Interface, Sort, select}
use Rattle.xf_def_ui.specs.Named.{with_row, named_from, named_rows}
use Rattle.xf_def_ui.specs.Rows.{rows_of, row_at}
use Rattle.xf_def_machine.specs.State.{State}
use Rattle.xf_def_machine.specs.Refusal.{Refusal, Refused, disabled, readonly, not_an_item, bad_index, or_long}
use Rattle.xf_def_machine.specs.Flow.{Run, ◌>>=◌}
use Rattle.xf_def_machine.specs.Surround.{interface, quiet}
use Rattle.xf_def_machine.specs.SetValue.{set_node}
use Rattle.xf_def_machine.specs.Choose.{named_copy, set_index}
use Rattle.xf_def_machine.specs.Events.{Fired, fired, plainly}
use Rattle.xf_def_machine.specs.Targets.{element_named, is_entry, is_trigger, is_submission, by_role, is_repeat_in, or_no_target, is_copy_at, copy_named, unless, model_around, take_rows}
use Rattle.xf_def_machine.specs.Targets as targets
use Rattle.xf_def_machine.specs.Dispatch.{dispatch}
use Rattle.xf_def_machine.specs.Step.{settle, tell, set_bound, try_set, set, activate, is_row, index, to_element, model_named, changed_by, fresh, at_end, outcome, one_more}
use Rattle.xf_def_machine.specs.Same.{renumbered_copy, IsSame}
use Rattle.xf_law_sessions.specs.Same.Going.{imaged}
use Rattle.xf_law_sessions.specs.Same.Controls.{GoesAround}
use Rattle.xf_law_sessions.proofs.SameLemmas.ForestGoes.{map-length}
use Rattle.xf_law_sessions.proofs.SameLemmas.AroundGoes.{BoundGoes, rows-go}
use Rattle.xf_law_sessions.proofs.SameLemmas.IndexGoes.{row-at, now-goes}
use Rattle.xf_law_sessions.proofs.SameLemmas.ControlsGo.{bytes-go}
use Rattle.xf_law_sessions.proofs.SameLemmas.StateGoes.{elements-go, around-goes}
use Rattle.xf_law_sessions.proofs.SameLemmas.GoingLaws.{changes_go}
use Rattle.xf_law_sessions.specs.Step.Steps.{AreSameOutcomes, StepsGo}
use Rattle.xf_law_sessions.proofs.StepLemmas.OptionThen.{and_then}
use Rattle.xf_law_sessions.proofs.StepLemmas.Alike.{Two, other, Fits, Alike, Goes, mapped, long-mapped, same-alike, then-alike, eval-alike, kept-alike, some-alike, kept-turn}
use Rattle.xf_law_sessions.proofs.StepLemmas.ChangesAlike.{has-form, renumbered_fired, update-alike}
use Rattle.xf_law_sessions.proofs.StepLemmas.ActionsAlike.{set-node-alike}
use Rattle.xf_law_sessions.proofs.StepLemmas.ChoicesAlike.{named-goes, set-index-alike}
use Rattle.xf_law_sessions.proofs.StepLemmas.ActsAlike.{dispatch-goes}

module _ (e : Two) where
  settle-goes : Goes e (settle e.p e.answers) (settle e.p e.answers)
  settle-goes s h = update-alike e (dispatch e.p e.answers e.p.depth false) (dispatch-goes e e.p.depth false) s h

  tell-goes : (x : Fired) → Goes e (tell e.p e.answers x) (tell e.p e.answers (renumbered_fired e.f x))
  tell-goes x s h = dispatch-goes e e.p.depth true x s h

  -- ---- copies that are named

  bindings : (s : State) → Fits e s → (n : ℕ) → BoundGoes e.f (element_at (interface s) n).binding
  bindings s h n = (elements-go e.f e.runs.renumbers s (has-form s h.form) n).binding

  quiet-goes : (s : State) → Fits e s → GoesAround e.f (quiet e.p s) (quiet e.p (other e s))
  quiet-goes s h = around-goes e.p e.f e.runs.renumbers e.second s (has-form s h.form) None

  from-goes : (form : Interface) → ((n : ℕ) → BoundGoes e.f (element_at form n).binding) → (a b : Around) → GoesAround e.f a b → (chain rs ks : List ℕ)
      → named_from form b (map e.f chain) rs ks ≡ option_map (option_map (map e.f)) (named_from form a chain rs ks)
  from-goes form r a b g chain [] [] = refl
  from-goes form r a b g chain [] (k ∷ ks) = refl
  from-goes form r a b g chain (q ∷ rs) [] = refl
  from-goes form r a b g chain (q ∷ rs) (k ∷ ks) =
      let next : Around → List ℕ → List ℕ → Option (Option (List ℕ)) = λ x all rows. with_row (λ n. named_from form x (all ++ n ∷ []) rs ks) (row_at rows k) in
      ap (λ o. and_then o (next b (map e.f chain))) (rows-go e.f e.runs.renumbers a b g form r chain q)
      ∙ then-through (map e.f) (option_map (map e.f)) (rows_of form a chain q) (next a chain) (next b (map e.f chain))
      (λ rows. ap (with_row (λ n. named_from form b (map e.f chain ++ n ∷ []) rs ks)) (row-at e.f rows k)
      ∙ by (λ n. named_from form a (chain ++ n ∷ []) rs ks) (λ n. named_from form b (map e.f chain ++ n ∷ []) rs ks)
      (λ n. ap (λ l. named_from form b l rs ks) (sym (map-append e.f chain (n ∷ []))) ∙ from-goes form r a b g (chain ++ n ∷ []) rs ks) (row_at rows k))
    where
      by : (one two : ℕ → Option (Option (List ℕ))) → ((n : ℕ) → two (e.f n) ≡ option_map (option_map (map e.f)) (one n)) → (o : Option ℕ)
          → with_row two (option_map e.f o) ≡ option_map (option_map (map e.f)) (with_row one o)
      by one two w None = refl
      by one two w (Some n) = w n

  target-mapped : {X Y : Type 0} (g : X → Y) (s : State) (o : Option X) → or_no_target (other e s) (option_map g o) ≡ mapped e g (or_no_target s o)
  target-mapped g s None = refl
  target-mapped g s (Some x) = refl

  target-same : {X : Type 0} (s : State) (o : Option X) → or_no_target (other e s) o ≡ or_no_target s o
  target-same s None = refl
  target-same s (Some x) = refl

  found-goes : (n : ℕ) (rows : List ℕ) (s : State)
      → or_no_target (other e s) (find (is_copy_at n (map e.f rows)) (map (renumbered_copy e.f) s.controls)) ≡ mapped e (renumbered_copy e.f) (or_no_target s (find (is_copy_at n rows) s.controls))
  found-goes n rows s =
      ap (or_no_target (other e s)) (find-through (renumbered_copy e.f) (is_copy_at n (map e.f rows)) (is_copy_at n rows) (λ c. ap (λ b. (c.element == n) && b) (bytes-go e.f e.runs.renumbers c.rows rows)) s.controls)
      ∙ target-mapped (renumbered_copy e.f) s (find (is_copy_at n rows) s.controls)

  copy-goes : (n : ℕ) (numbers : List ℕ) (s : State) → Fits e s → copy_named e.p (other e s) n numbers ≡ mapped e (renumbered_copy e.f) (copy_named e.p s n numbers)
  copy-goes n numbers s h =
      let last : State → List ℕ → Result Copy Refused = λ u rows. or_no_target u (find (is_copy_at n rows) u.controls) in
      ap (λ o. or_long (other e s) o >>= or_no_target (other e s) >>= last (other e s))
      (from-goes (interface s) (bindings s h) (quiet e.p s) (quiet e.p (other e s)) (quiet-goes s h) [] (repeats_around (interface s) n) numbers)
      ∙ by (named_rows (interface s) (quiet e.p s) n numbers)
    where
      by : (o : Option (Option (List ℕ)))
          → (or_long (other e s) (option_map (option_map (map e.f)) o) >>= or_no_target (other e s) >>= λ rows. or_no_target (other e s) (find (is_copy_at n rows) (map (renumbered_copy e.f) s.controls)))
          ≡ mapped e (renumbered_copy e.f) (or_long s o >>= or_no_target s >>= λ rows. or_no_target s (find (is_copy_at n rows) s.controls))
      by None = refl
      by (Some None) = refl
      by (Some (Some rows)) = found-goes n rows s

  -- ---- each event

  unless-goes : (b : Bool) (why : Refusal) → Goes e (unless b why) (unless b why)
  unless-goes true why s h = record { is = refl; fits = tt }
  unless-goes false why s h = record { is = refl; fits = h }

  try-goes : (n : ℕ) (c : Copy) (text : List ℕ) → Goes e (try_set n c text) (try_set n (renumbered_copy e.f c) text)
  try-goes n c text s h =
      let one : Run = unless (not c.enabled) disabled in
      let two : Run = unless (not c.readwrite) readonly in
      let three : Run = unless (not (targets.takes_text (element_at (interface s) n).sort c text)) not_an_item in
      let three_too : Run = unless (not (targets.takes_text (element_at (interface s) n).sort (renumbered_copy e.f c) text)) not_an_item in
      then-alike e (one s >>= two) (one (other e s) >>= two) three three_too
      (then-alike e (one s) (one (other e s)) two two (unless-goes (not c.enabled) disabled s h) (unless-goes (not c.readwrite) readonly))
      (λ u k. same-alike e (three u) (three (other e u)) (three_too (other e u)) (ap (λ b. unless (not b) not_an_item (other e u)) (by (element_at (interface s) n).sort))
      (unless-goes (not (targets.takes_text (element_at (interface s) n).sort c text)) not_an_item u k))
    where
      by : (sort : Sort) → targets.takes_text sort (renumbered_copy e.f c) text ≡ targets.takes_text sort c text
      by (select many is_free) = refl
      by sort = refl

  rows-goes : (n : ℕ) (numbers : List ℕ) → Goes e (take_rows e.p n numbers) (take_rows e.p n numbers)
  rows-goes n numbers s h =
      let run : ℕ × ℕ → Run = λ q t. set_index e.p (model_around (interface t) q.0) q.0 q.1 t in
      kept-turn e run run (zip (repeats_around (interface s) n) numbers) (λ q t k. set-index-alike e (model_around (interface t) q.0) q.0 q.1 t k) s h

  bound-goes : (text : List ℕ) (o : Option ℕ) → Goes e (set_bound e.p text o) (set_bound e.p text (option_map e.f o))
  bound-goes text o s h =
      let run : ℕ → Run = λ n. set_node e.p n text in
      some-alike e e.f o (option_map e.f o) run run s refl h (λ n. set-node-alike e n text s h)

  set-goes : (n : ℕ) (rows text : List ℕ) → Goes e (set e.p e.answers n rows text) (set e.p e.answers n rows text)
  set-goes n rows text s h =
      let t = other e s in
      let last : State → Copy → Result State Refused = λ u c. try_set n c text u >>= take_rows e.p n rows >>= set_bound e.p text c.node >>= settle e.p e.answers in
      eval-alike e (renumbered_copy e.f) (copy_named e.p s n rows) (copy_named e.p t n rows) (last s) (last t) (copy-goes n rows s h)
      (λ c. let d = renumbered_copy e.f c in
      then-alike e (try_set n c text s >>= take_rows e.p n rows >>= set_bound e.p text c.node) (try_set n d text t >>= take_rows e.p n rows >>= set_bound e.p text d.node) (settle e.p e.answers) (settle e.p e.answers)
      (then-alike e (try_set n c text s >>= take_rows e.p n rows) (try_set n d text t >>= take_rows e.p n rows) (set_bound e.p text c.node) (set_bound e.p text d.node)
      (then-alike e (try_set n c text s) (try_set n d text t) (take_rows e.p n rows) (take_rows e.p n rows) (try-goes n c text s h) (rows-goes n rows)) (bound-goes text c.node)) settle-goes)

  activate-goes : (n : ℕ) (rows : List ℕ) → Goes e (activate e.p e.answers n rows) (activate e.p e.answers n rows)
  activate-goes n rows s h =
      let t = other e s in
      let last : State → Copy → Result State Refused = λ u c. unless (not c.enabled) disabled u >>= take_rows e.p n rows >>= settle e.p e.answers >>= tell e.p e.answers (plainly (codes "DOMActivate") n c.rows) in
      eval-alike e (renumbered_copy e.f) (copy_named e.p s n rows) (copy_named e.p t n rows) (last s) (last t) (copy-goes n rows s h)
      (λ c. let x = plainly (codes "DOMActivate") n c.rows in
      let one : Run = unless (not c.enabled) disabled in
      then-alike e (one s >>= take_rows e.p n rows >>= settle e.p e.answers) (one t >>= take_rows e.p n rows >>= settle e.p e.answers) (tell e.p e.answers x) (tell e.p e.answers (renumbered_fired e.f x))
      (then-alike e (one s >>= take_rows e.p n rows) (one t >>= take_rows e.p n rows) (settle e.p e.answers) (settle e.p e.answers)
      (then-alike e (one s) (one t) (take_rows e.p n rows) (take_rows e.p n rows) (unless-goes (not c.enabled) disabled s h) (rows-goes n rows)) settle-goes) (tell-goes x))

  index-goes : (r k : ℕ) → Goes e (index e.p e.answers r k) (index e.p e.answers r k)
  index-goes r k s h =
      let t = other e s in
      let model = model_around (interface s) r in
      let found = rows_now (interface s) (quiet e.p s) s.indexes r in
      let last : State → List ℕ → Result State Refused = λ u rows. unless (not (is_row rows k)) bad_index u >>= set_index e.p model r k >>= settle e.p e.answers in
      eval-alike e (map e.f) (or_long s found) (or_long t (rows_now (interface s) (quiet e.p t) t.indexes r)) (last s) (last t)
      (ap (or_long t) (now-goes e.f e.runs.renumbers (interface s) (bindings s h) (quiet e.p s) (quiet e.p t) (quiet-goes s h) s.indexes r) ∙ long-mapped e (map e.f) s found)
      (λ rows. let bad = not (is_row rows k) in
      same-alike e (last s rows) (unless bad bad_index t >>= set_index e.p model r k >>= settle e.p e.answers) (last t (map e.f rows))
      (ap (λ n. unless (not (nat_le 1 k && nat_le k n)) bad_index t >>= set_index e.p model r k >>= settle e.p e.answers) (map-length e.f rows))
      (then-alike e (unless bad bad_index s >>= set_index e.p model r k) (unless bad bad_index t >>= set_index e.p model r k) (settle e.p e.answers) (settle e.p e.answers)
      (then-alike e (unless bad bad_index s) (unless bad bad_index t) (set_index e.p model r k) (set_index e.p model r k) (unless-goes bad bad_index s h) (set-index-alike e model r k)) settle-goes))

  element-goes : (name : List ℕ) (n : ℕ) → Goes e (to_element e.p e.answers name n) (to_element e.p e.answers name n)
  element-goes name n s h =
      let run : List ℕ → Run = λ rows t. tell e.p e.answers (fired name true true [] n rows) t in
      some-alike e (map e.f) (named_copy s n) (named_copy (other e s) n) run run s (named-goes e s n) h (λ rows. tell-goes (fired name true true [] n rows) s h)

  named-alike : (o : Option ℕ) (run : ℕ → Run) → ((n : ℕ) → Goes e (run n) (run n)) → (s : State) → Fits e s
      → Alike e (or_no_target s o >>= λ n. run n s) (or_no_target (other e s) o >>= λ n. run n (other e s))
  named-alike o run k s h =
      kept-alike e (or_no_target s o) (or_no_target (other e s) o) (λ n. run n s) (λ n. run n (other e s)) (target-same s o) (λ n. k n s h)

  pub changed-goes : (event : Event) → Goes e (changed_by e.p e.answers event) (changed_by e.p e.answers event)
  changed-goes (Set id rows text) s h = named-alike (element_named s (by_role s is_entry) id) (λ n. set e.p e.answers n rows text) (λ n. set-goes n rows text) s h
  changed-goes (Activate id rows) s h = named-alike (element_named s (by_role s is_trigger) id) (λ n. activate e.p e.answers n rows) (λ n. activate-goes n rows) s h
  changed-goes (Index id k) s h = named-alike (element_named s (is_repeat_in s) id) (λ r. index e.p e.answers r k) (λ r. index-goes r k) s h
  changed-goes (Send id) s h = named-alike (element_named s (by_role s is_submission) id) (to_element e.p e.answers (codes "xforms-submit")) (element-goes (codes "xforms-submit")) s h
  changed-goes (Dispatch name id) s h = named-alike (element_named s (λ n. true) id) (to_element e.p e.answers name) (element-goes name) s h
  changed-goes (Reset id) s h = named-alike (model_named s id) (to_element e.p e.answers (codes "xforms-reset")) (element-goes (codes "xforms-reset")) s h

  -- ---- the step

  ended-same : (s : State) → IsSame (one_more (at_end e.p s)) (one_more (at_end e.p (other e s)))
  ended-same s = record {
    by = e.f;
    renumbers = e.runs.renumbers;
    keeps_texts = e.runs.keeps_texts;
    form = refl;
    nodes = sym (in_instances-renumbered e.f e.runs.renumbers s.forest.nodes);
    indexes = refl;
    cases = refl;
    models = refl;
    controls = refl;
    accepted = refl;
    notes = refl;
    turns = refl;
    made = refl;
    evaluated = refl;
    calls = refl;
  }

  outcomes : (x : Result State Refused) → AreSameOutcomes (outcome (λ t. one_more (at_end e.p t)) x) (outcome (λ t. one_more (at_end e.p t)) (imaged e.f e.second x))
  outcomes (Ok s) = (ended-same s, refl)
  outcomes (Err refusal) = (refl, refl)

pub steps_go : StepsGo
steps_go p event answers s t h form r =
    let e : Two = record { p = p; answers = answers; f = h.by; first = s.forest.next; second = t.forest.next; runs = r } in
    let begun = fresh p s in
    let plain : s.forest.next ≡ s.forest.next + 0 = omega arith in
    let fits : Fits e begun = record { counts = record { next = plain; within = omega arith }; form = form } in
    let end : State → State = λ u. one_more (at_end p u) in
    let first = changed_by p answers event begun in
    subst (λ x. AreSameOutcomes (outcome end first) (outcome end (changed_by p answers event x))) (sym (changes_go.same p s t h))
    (subst (λ x. AreSameOutcomes (outcome end first) (outcome end x)) (sym (changed-goes e event begun fits).is) (outcomes e first))
