-- A submission over a state and the same one with other numbers.
use Rattle.std.proofs.Common.{◌≡◌, ℕ, ◌==◌, Bool, true, false, not, ◌&&◌, List, [], ◌∷◌, map, length, codes, nat_le, slice_get, unwrap_or, Option, Some, None, option_map, Result, Ok, Err, refl, ap, ◌∙◌, if◌then◌else◌}
use Rattle.std.specs.Prelude.{option_and_then}
use Rattle.std.specs.List.{list_any}
use Rattle.std.specs.Str.{is_utf8}
use Rattle.xf_def_syntax.specs.declared.expr.Expr.{Expr}
use Rattle.xf_def_syntax.specs.declared.form.Method.{Method}
use Rattle.xf_def_syntax.specs.declared.form.Method.TheVariants.{Put, Post, Get}
use Rattle.xf_def_syntax.specs.declared.form.Replace.{Replace}
use Rattle.xf_def_syntax.specs.declared.form.Replace.TheVariants as instead
use Rattle.xf_def_syntax.specs.declared.form.Submission.{Submission}
use Rattle.xf_name.specs.declared.lit.Lit.{Lit}
use Rattle.xf_json.specs.declared.fault.JsonFault.{JsonFault}
use Rattle.xf_json.specs.Element.{lit_in}
use Rattle.xf_json.specs.Printed.{text_of}
use Rattle.xf_store.specs.declared.answers.Answer.{Answer}
use Rattle.xf_store.specs.declared.answers.Answer.TheVariants.{PutDone, Failed, Found, Absent, TooLong}
use Rattle.xf_store.specs.declared.call.Asked.{Asked}
use Rattle.xf_store.specs.declared.call.Asked.TheVariants as store
use Rattle.xf_store.specs.Replay.{fits, answer_at}
use Rattle.xf_def_forest.specs.Forest.{is_element}
use Rattle.xf_def_forest.specs.Plant.{contents_of}
use Rattle.xf_def_forest.specs.Same.{renumbered, renumbered_visit}
use Rattle.xf_def_forest.specs.Shape.{has_elements}
use Rattle.xf_def_forest.specs.Visit.{visits}
use Rattle.xf_def_forest.proofs.RenumberLaws.{any-through, visits-renumbered}
use Rattle.xf_def_xpath.specs.Reads.{trace}
use Rattle.xf_def_model.specs.Same.{renumbered_scope, renumbered_submitted}
use Rattle.xf_def_model.specs.Submitted.{Submitted, left, no_data, invalid, submitted, by_expression}
use Rattle.xf_def_model.proofs.RenumberSubmitted.{submitted-renumbered}
use Rattle.xf_def_machine.specs.declared.note.Note.TheVariants as note
use Rattle.xf_def_machine.specs.State.{State}
use Rattle.xf_def_machine.specs.Refusal.{Refused, or_long}
use Rattle.xf_def_machine.specs.Flow.{Run, ◌>>=◌, where_some}
use Rattle.xf_def_machine.specs.Surround.{scope, all_in, document_at, instance_holding, model_holding}
use Rattle.xf_def_machine.specs.Primitives.{set_text, add_note}
use Rattle.xf_def_machine.specs.Properties.{relevant_in, valid_in, readonly_in}
use Rattle.xf_def_machine.specs.Behave.{rebuild, recalculate, revalidate}
use Rattle.xf_def_machine.specs.Update.{refresh, refresh_cleared, reindex, due_revalidation}
use Rattle.xf_def_machine.specs.Events.{Tell, fired_at, submission_element}
use Rattle.xf_def_machine.specs.Construct.{replace}
use Rattle.xf_def_machine.specs.Submit.{Ended, done, failed, Sending, then_done, target_by, is_element_in, takes_tree, takes_text, behave_all, put_tree, put_text, on_target, has_fault, with_tree, with_text, respond, answered}
use Rattle.xf_def_machine.specs.Exchange.{with_call, unless_many, exchange, sent_bytes, asked_by, is_store_name, selected, attempt, done_told, failed_told, told_end, submit_by, submit}
use Rattle.xf_law_sessions.proofs.SameLemmas.ForestGoes.{holding-goes, model-goes}
use Rattle.xf_law_sessions.proofs.SameLemmas.ScopeGoes.{document-goes, scope-is, rules-go}
use Rattle.xf_law_sessions.proofs.SameLemmas.StateGoes.{tables-of, relevant-goes, readonly-goes, valid-goes}
use Rattle.xf_law_machine.proofs.RestLemmas.Holds.{Held}
use Rattle.xf_law_sessions.proofs.StepLemmas.Alike.{Two, other, Fits, Alike, Goes, mapped, long-mapped, same-alike, then-alike, kept-some}
use Rattle.xf_law_sessions.proofs.StepLemmas.ChangesAlike.{has-form, renumbered_fired, Tells, one-clears, some-ok, text-alike, note-alike, rebuild-alike, recalculate-alike, revalidate-alike, due-revalidation-alike, reindex-alike, refresh-alike}
use Rattle.xf_law_sessions.proofs.StepLemmas.EvalAlike.{fired-is}
use Rattle.xf_law_sessions.proofs.StepLemmas.ActionsAlike.{has-goes}
use Rattle.xf_law_sessions.proofs.StepLemmas.ChoicesAlike.{replace-alike}
use Rattle.xf_law_sessions.proofs.StepLemmas.SentGoes.{lit-goes, expression-goes}

module _ (e : Two) where
  -- ---- how a submission ends

  abbrev other_end : Ended → Ended
  other_end (done s) = done (other e s)
  other_end (failed error s) = failed error (other e s)

  abbrev EndFits : Ended → Type 0
  EndFits (done s) = Fits e s
  EndFits (failed error s) = Fits e s

  pub record Ends (x y : Sending) : Type 0 where
    pub is : y ≡ mapped e other_end x
    pub fits : Held EndFits x

  same-ends : (x y z : Sending) → z ≡ y → Ends x y → Ends x z
  same-ends x y z q h = record { is = q ∙ h.is; fits = h.fits }

  done-ends : (x y : Result State Refused) → Alike e x y → Ends (then_done x) (then_done y)
  done-ends (Err refusal) y h = record { is = ap then_done h.is; fits = tt }
  done-ends (Ok s) y h = record { is = ap then_done h.is; fits = h.fits }

  if-ends : (b c : Bool) (x x_too y y_too : Sending) → c ≡ b → Ends x x_too → Ends y y_too → Ends (if b then x else y) (if c then x_too else y_too)
  if-ends true c x x_too y y_too q h k = record { is = ap (λ d. if d then x_too else y_too) q ∙ h.is; fits = h.fits }
  if-ends false c x x_too y y_too q h k = record { is = ap (λ d. if d then x_too else y_too) q ∙ k.is; fits = k.fits }

  eval-ends : {X Y : Type 0} (g : X → Y) (x : Result X Refused) (y : Result Y Refused) (next : X → Sending) (next_too : Y → Sending) → y ≡ mapped e g x
      → ((a : X) → Ends (next a) (next_too (g a))) → Ends (x >>= next) (y >>= next_too)
  eval-ends g (Err refusal) y next next_too q k = record { is = ap (λ z. z >>= next_too) q; fits = tt }
  eval-ends g (Ok a) y next next_too q k = let m = k a in record { is = ap (λ z. z >>= next_too) q ∙ m.is; fits = m.fits }

  then-ends : (x y : Result State Refused) (next next_too : State → Sending) → Alike e x y → ((t : State) → Fits e t → Ends (next t) (next_too (other e t))) → Ends (x >>= next) (y >>= next_too)
  then-ends (Err refusal) y next next_too h k = record { is = ap (λ z. z >>= next_too) h.is; fits = tt }
  then-ends (Ok t) y next next_too h k = let m = k t h.fits in record { is = ap (λ z. z >>= next_too) h.is ∙ m.is; fits = m.fits }

  end-alike : (x y : Sending) (next : Ended → Result State Refused) → Ends x y → ((a : Ended) → EndFits a → Alike e (next a) (next (other_end a))) → Alike e (x >>= next) (y >>= next)
  end-alike (Err refusal) y next h k = record { is = ap (λ z. z >>= next) h.is; fits = tt }
  end-alike (Ok a) y next h k = let m = k a h.fits in record { is = ap (λ z. z >>= next) h.is ∙ m.is; fits = m.fits }

  -- ---- what is replaced

  behave-alike : (tell : Tell) → Tells e tell → (model : ℕ) → Goes e (behave_all e.p tell model) (behave_all e.p tell model)
  behave-alike tell t model s h =
      let last : Run = λ u. refresh e.p (refresh_cleared model) tell (revalidate e.p model u) in
      then-alike e (rebuild e.p model s >>= recalculate e.p model) (rebuild e.p model (other e s) >>= recalculate e.p model) last last
      (then-alike e (rebuild e.p model s) (rebuild e.p model (other e s)) (recalculate e.p model) (recalculate e.p model) (rebuild-alike e model s h) (recalculate-alike e model))
      (λ u k. let v = revalidate-alike e model u k in
      let after = revalidate e.p model u in
      same-alike e (refresh e.p (refresh_cleared model) tell after) (refresh e.p (refresh_cleared model) tell (other e after)) (last (other e u))
      (ap (refresh e.p (refresh_cleared model) tell) (some-ok e v.is)) (refresh-alike e (refresh_cleared model) (one-clears e model) tell t after v.fits))

  holder-alike : (tell : Tell) → Tells e tell → (s : State) (n : ℕ) (u : State) → Fits e u
      → Alike e (where_some (model_holding s n) (behave_all e.p tell) u) (where_some (model_holding (other e s) (e.f n)) (behave_all e.p tell) (other e u))
  holder-alike tell t s n u h =
      same-alike e (where_some (model_holding s n) (behave_all e.p tell) u) (where_some (model_holding s n) (behave_all e.p tell) (other e u)) (where_some (model_holding (other e s) (e.f n)) (behave_all e.p tell) (other e u))
      (ap (λ o. where_some o (behave_all e.p tell) (other e u)) (model-goes e.f e.runs.renumbers e.second s n))
      (kept-some e (model_holding s n) (behave_all e.p tell) (behave_all e.p tell) u h (λ model. behave-alike tell t model u h))

  put-tree-alike : (tell : Tell) → Tells e tell → (lit : Lit) (n : ℕ) → Goes e (put_tree e.p tell lit n) (put_tree e.p tell lit (e.f n))
  put-tree-alike tell t lit n s h =
      let contents = contents_of s.form.bindings lit 0 0 in
      then-alike e (replace e.p n contents s >>= reindex e.p []) (replace e.p (e.f n) contents (other e s) >>= reindex e.p []) (where_some (model_holding s n) (behave_all e.p tell))
      (where_some (model_holding (other e s) (e.f n)) (behave_all e.p tell))
      (then-alike e (replace e.p n contents s) (replace e.p (e.f n) contents (other e s)) (reindex e.p []) (reindex e.p []) (replace-alike e n contents s h) (reindex-alike e [])) (holder-alike tell t s n)

  put-text-alike : (tell : Tell) → Tells e tell → (text : List ℕ) (n : ℕ) → Goes e (put_text e.p tell text n) (put_text e.p tell text (e.f n))
  put-text-alike tell t text n s h =
      then-alike e (set_text e.p n text s) (set_text e.p (e.f n) text (other e s)) (where_some (model_holding s n) (behave_all e.p tell)) (where_some (model_holding (other e s) (e.f n)) (behave_all e.p tell))
      (text-alike e n text s h) (holder-alike tell t s n)

  -- ---- the target

  target-goes : (sub : Submission) (n : ℕ) (s : State) → Fits e s → (o : Option Expr) (i : Option ℕ)
      → target_by e.p sub (e.f n) (other e s) o i ≡ mapped e (option_map e.f) (target_by e.p sub n s o i)
  target-goes sub n s h (Some expr) i =
      let sc = scope e.p s sub.model in
      ap (λ x. or_long (other e s) (by_expression (Some e.p.bounds.string) x (visits (map (renumbered e.f) s.forest.nodes)) (trace expr))) (scope-is e.f e.runs.renumbers e.second s e.p sub.model)
      ∙ ap (λ all. or_long (other e s) (by_expression (Some e.p.bounds.string) (renumbered_scope e.f sc) all (trace expr))) (visits-renumbered e.f e.runs.renumbers s.forest.nodes)
      ∙ ap (or_long (other e s)) (expression-goes e.f e.runs.renumbers (Some e.p.bounds.string) sc (all_in s) expr)
      ∙ long-mapped e (option_map e.f) s (by_expression (Some e.p.bounds.string) sc (all_in s) (trace expr))
  target-goes sub n s h None (Some place) = ap Ok (document-goes e.f e.runs.renumbers e.second s place)
  target-goes sub n s h None None = ap Ok (ap (option_and_then (document_at (other e s))) (holding-goes e.f e.runs.renumbers e.second s n) ∙ by (instance_holding s n))
    where
      by : (o : Option ℕ) → option_and_then (document_at (other e s)) o ≡ option_map e.f (option_and_then (document_at s) o)
      by None = refl
      by (Some place) = document-goes e.f e.runs.renumbers e.second s place

  tree-goes : (s : State) (n : ℕ) → takes_tree (other e s) (e.f n) ≡ takes_tree s n
  tree-goes s n =
      ap (λ b. b && not (readonly_in (other e s) (e.f n)))
      (ap (λ all. list_any (λ x. (x.number == e.f n) && is_element x.content) all) (visits-renumbered e.f e.runs.renumbers s.forest.nodes)
      ∙ any-through (renumbered_visit e.f) (λ x. (x.number == e.f n) && is_element x.content) (λ x. (x.number == n) && is_element x.content) (λ x. ap (λ b. b && is_element x.content) (e.runs.renumbers x.number n)) (all_in s))
      ∙ ap (λ b. is_element_in s n && not b) (readonly-goes e.f e.runs.renumbers e.second s n)

  text-takes : (s : State) (n : ℕ) → takes_text (other e s) (e.f n) ≡ takes_text s n
  text-takes s n = ap (λ b. not b && not (readonly_in (other e s) (e.f n))) (has-goes e s n) ∙ ap (λ b. not (has_elements (all_in s) n) && not b) (readonly-goes e.f e.runs.renumbers e.second s n)

  target-ends : (takes : State → ℕ → Bool) → ((s : State) (n : ℕ) → takes (other e s) (e.f n) ≡ takes s n) → (put : ℕ → Run) → ((n : ℕ) → Goes e (put n) (put (e.f n)))
      → (o : Option ℕ) (s : State) → Fits e s → Ends (on_target takes put o s) (on_target takes put (option_map e.f o) (other e s))
  target-ends takes q put k None s h = record { is = refl; fits = h }
  target-ends takes q put k (Some n) s h =
      let fail : State → Sending = λ u. Ok (failed (codes "target-error") u) in
      if-ends (takes s n) (takes (other e s) (e.f n)) (then_done (put n s)) (then_done (put (e.f n) (other e s))) (fail s) (fail (other e s)) (q s n)
      (done-ends (put n s) (put (e.f n) (other e s)) (k n s h)) (record { is = refl; fits = h })

  -- ---- the response

  tree-ends : (tell : Tell) → Tells e tell → (sub : Submission) (n : ℕ) (s : State) → Fits e s → (x : Result Lit JsonFault) → Ends (with_tree e.p tell sub n s x) (with_tree e.p tell sub (e.f n) (other e s) x)
  tree-ends tell t sub n s h (Err fault) = record { is = refl; fits = h }
  tree-ends tell t sub n s h (Ok lit) =
      let fail : State → Sending = λ u. Ok (failed (codes "parse-error") u) in
      let put : State → Option ℕ → Sending = λ u o. on_target takes_tree (put_tree e.p tell lit) o u in
      if-ends (has_fault s lit) (has_fault s lit) (fail s) (fail (other e s)) (target_by e.p sub n s sub.target sub.instance >>= put s)
      (target_by e.p sub (e.f n) (other e s) sub.target sub.instance >>= put (other e s)) refl (record { is = refl; fits = h })
      (eval-ends (option_map e.f) (target_by e.p sub n s sub.target sub.instance) (target_by e.p sub (e.f n) (other e s) sub.target sub.instance) (put s) (put (other e s)) (target-goes sub n s h sub.target sub.instance)
      (λ o. target-ends takes_tree tree-goes (put_tree e.p tell lit) (put-tree-alike tell t lit) o s h))

  text-ends : (tell : Tell) → Tells e tell → (sub : Submission) (n : ℕ) (s : State) → Fits e s → (bytes : List ℕ) → Ends (with_text e.p tell sub n s bytes) (with_text e.p tell sub (e.f n) (other e s) bytes)
  text-ends tell t sub n s h bytes =
      let fail : State → Sending = λ u. Ok (failed (codes "parse-error") u) in
      let put : State → Option ℕ → Sending = λ u o. on_target takes_text (put_text e.p tell bytes) o u in
      if-ends (is_utf8 bytes) (is_utf8 bytes) (target_by e.p sub n s sub.target sub.instance >>= put s) (target_by e.p sub (e.f n) (other e s) sub.target sub.instance >>= put (other e s)) (fail s) (fail (other e s)) refl
      (eval-ends (option_map e.f) (target_by e.p sub n s sub.target sub.instance) (target_by e.p sub (e.f n) (other e s) sub.target sub.instance) (put s) (put (other e s)) (target-goes sub n s h sub.target sub.instance)
      (λ o. target-ends takes_text text-takes (put_text e.p tell bytes) (put-text-alike tell t bytes) o s h)) (record { is = refl; fits = h })

  respond-ends : (tell : Tell) → Tells e tell → (sub : Submission) (n : ℕ) (s : State) → Fits e s → (bytes : List ℕ) (how : Replace)
      → Ends (respond e.p tell sub n s bytes how) (respond e.p tell sub (e.f n) (other e s) bytes how)
  respond-ends tell t sub n s h bytes instead.All =
      let one = note.All sub.resource (length bytes) in done-ends (add_note e.p one s) (add_note e.p one (other e s)) (note-alike e one s h)
  respond-ends tell t sub n s h bytes instead.Nothing = record { is = refl; fits = h }
  respond-ends tell t sub n s h [] instead.Instance = record { is = refl; fits = h }
  respond-ends tell t sub n s h [] instead.Text = record { is = refl; fits = h }
  respond-ends tell t sub n s h (b ∷ bs) instead.Instance = tree-ends tell t sub n s h (lit_in (b ∷ bs))
  respond-ends tell t sub n s h (b ∷ bs) instead.Text = text-ends tell t sub n s h (b ∷ bs)

  answered-ends : (tell : Tell) → Tells e tell → (sub : Submission) (n : ℕ) (s : State) → Fits e s → (answer : Answer) → Ends (answered e.p tell sub n s answer) (answered e.p tell sub (e.f n) (other e s) answer)
  answered-ends tell t sub n s h PutDone = respond-ends tell t sub n s h [] sub.replace
  answered-ends tell t sub n s h (Found bytes) = respond-ends tell t sub n s h bytes sub.replace
  answered-ends tell t sub n s h Failed = record { is = refl; fits = h }
  answered-ends tell t sub n s h Absent = record { is = refl; fits = h }
  answered-ends tell t sub n s h TooLong = record { is = refl; fits = h }

  many-alike : (b : Bool) (s : State) → Fits e s → Alike e (unless_many b s) (unless_many b (other e s))
  many-alike true s h = record { is = refl; fits = tt }
  many-alike false s h = record { is = refl; fits = h }

  exchange-ends : (tell : Tell) → Tells e tell → (sub : Submission) (n : ℕ) (asked : Asked) (s : State) → Fits e s → Ends (exchange e.p e.answers tell sub n asked s) (exchange e.p e.answers tell sub (e.f n) asked (other e s))
  exchange-ends tell t sub n asked s h =
      let many = nat_le e.p.sends (length s.calls) in
      let last : ℕ → State → Sending = λ m u. let answer = answer_at (fits asked) e.answers (length u.calls) in answered e.p tell sub m (with_call sub.resource asked answer u) answer in
      then-ends (unless_many many s) (unless_many many (other e s)) (last n) (last (e.f n)) (many-alike many s h)
      (λ u k. let answer = answer_at (fits asked) e.answers (length u.calls) in
      answered-ends tell t sub n (with_call sub.resource asked answer u) (record { counts = record { next = k.counts.next; within = k.counts.within }; form = k.form }) answer)

  asked-goes : (sub : Submission) (n : ℕ) (kept : List ℕ) (s : State) (m : Method) → asked_by sub (e.f n) (map e.f kept) (other e s) m ≡ asked_by sub n kept s m
  asked-goes sub n kept s m = by m (ap (λ o. if sub.is_serialized then unwrap_or (option_map text_of o) [] else []) (lit-goes e.f e.runs.renumbers s.form.bindings kept n s.forest.nodes))
    where
      by : (k : Method) → sent_bytes sub (e.f n) (map e.f kept) (other e s) ≡ sent_bytes sub n kept s → asked_by sub (e.f n) (map e.f kept) (other e s) k ≡ asked_by sub n kept s k
      by Put q = ap store.Put q
      by Post q = ap store.Put q
      by Get q = refl

  selected-ends : (tell : Tell) → Tells e tell → (sub : Submission) (s : State) → Fits e s → (found : Submitted) → Ends (selected e.p e.answers tell sub s found) (selected e.p e.answers tell sub (other e s) (renumbered_submitted e.f found))
  selected-ends tell t sub s h no_data = record { is = refl; fits = h }
  selected-ends tell t sub s h (invalid n) = record { is = refl; fits = h }
  selected-ends tell t sub s h (left n kept) =
      let fail : State → Sending = λ u. Ok (failed (codes "resource-error") u) in
      let asked = asked_by sub n kept s sub.method in
      let asked_too = asked_by sub (e.f n) (map e.f kept) (other e s) sub.method in
      if-ends (is_store_name sub.resource) (is_store_name sub.resource) (exchange e.p e.answers tell sub n asked s) (exchange e.p e.answers tell sub (e.f n) asked_too (other e s)) (fail s) (fail (other e s)) refl
      (same-ends (exchange e.p e.answers tell sub n asked s) (exchange e.p e.answers tell sub (e.f n) asked (other e s)) (exchange e.p e.answers tell sub (e.f n) asked_too (other e s))
      (ap (λ a. exchange e.p e.answers tell sub (e.f n) a (other e s)) (asked-goes sub n kept s sub.method)) (exchange-ends tell t sub n asked s h)) (record { is = refl; fits = h })

  attempt-ends : (tell : Tell) → Tells e tell → (sub : Submission) (s : State) → Fits e s → Ends (attempt e.p e.answers tell sub s) (attempt e.p e.answers tell sub (other e s))
  attempt-ends tell t sub s h =
      let u = other e s in
      let sc = scope e.p s sub.model in
      let found = submitted (Some e.p.bounds.string) sc (relevant_in s) (valid_in s) s.forest.nodes sub in
      eval-ends (renumbered_submitted e.f) (or_long s found) (or_long u (submitted (Some e.p.bounds.string) (scope e.p u sub.model) (relevant_in u) (valid_in u) (map (renumbered e.f) s.forest.nodes) sub))
      (selected e.p e.answers tell sub s) (selected e.p e.answers tell sub u)
      (ap (λ x. or_long u (submitted (Some e.p.bounds.string) x (relevant_in u) (valid_in u) (map (renumbered e.f) s.forest.nodes) sub)) (scope-is e.f e.runs.renumbers e.second s e.p sub.model)
      ∙ ap (or_long u) (submitted-renumbered e.f e.runs.renumbers (Some e.p.bounds.string) sc (rules-go e.p e.f e.runs.renumbers s (tables-of s (has-form s h.form)) sub.model) (relevant_in s) (relevant_in u) (valid_in s) (valid_in u)
      (relevant-goes e.f e.runs.renumbers e.second s) (valid-goes e.f e.runs.renumbers e.second s) s.forest.nodes sub)
      ∙ long-mapped e (renumbered_submitted e.f) s found)
      (selected-ends tell t sub s h)

  told-alike : (tell : Tell) → Tells e tell → (k : ℕ) (sub : Submission) (ended : Ended) → EndFits ended → Alike e (told_end tell k sub ended) (told_end tell k sub (other_end ended))
  told-alike tell t k sub (done s) h =
      let x = fired_at s (codes "xforms-submit-done") (done_told sub) (submission_element s k) in
      same-alike e (tell x s) (tell (renumbered_fired e.f x) (other e s)) (told_end tell k sub (done (other e s)))
      (ap (λ y. tell y (other e s)) (fired-is e s (codes "xforms-submit-done") (done_told sub) (submission_element s k))) (t x s h)
  told-alike tell t k sub (failed error s) h =
      let x = fired_at s (codes "xforms-submit-error") (failed_told sub error) (submission_element s k) in
      same-alike e (tell x s) (tell (renumbered_fired e.f x) (other e s)) (told_end tell k sub (failed error (other e s)))
      (ap (λ y. tell y (other e s)) (fired-is e s (codes "xforms-submit-error") (failed_told sub error) (submission_element s k))) (t x s h)

  submit-by-alike : (tell : Tell) → Tells e tell → (k : ℕ) (sub : Submission) → Goes e (submit_by e.p e.answers tell k sub) (submit_by e.p e.answers tell k sub)
  submit-by-alike tell t k sub s h =
      end-alike (due_revalidation e.p sub.model s >>= attempt e.p e.answers tell sub) (due_revalidation e.p sub.model (other e s) >>= attempt e.p e.answers tell sub) (told_end tell k sub)
      (then-ends (due_revalidation e.p sub.model s) (due_revalidation e.p sub.model (other e s)) (attempt e.p e.answers tell sub) (attempt e.p e.answers tell sub) (due-revalidation-alike e sub.model s h) (attempt-ends tell t sub))
      (told-alike tell t k sub)

  pub submit-alike : (tell : Tell) → Tells e tell → (k : ℕ) → Goes e (submit e.p e.answers tell k) (submit e.p e.answers tell k)
  submit-alike tell t k s h =
      kept-some e (slice_get s.form.submissions k) (submit_by e.p e.answers tell k) (submit_by e.p e.answers tell k) s h (λ sub. submit-by-alike tell t k sub s h)
