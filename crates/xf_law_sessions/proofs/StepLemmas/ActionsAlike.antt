-- Each action over a state and the same one with other numbers.
use Rattle.std.proofs.Common.{◌≡◌, ℕ, suc, Bool, true, false, not, ◌&&◌, List, [], ◌∷◌, map, filter, length, get_or, Option, Some, None, option_map, Result, Ok, Err, refl, ap, ◌∙◌, ℤ}
use Rattle.xf_def_forest.specs.Order.{in_order}
use Rattle.xf_def_forest.specs.Same.{renumbered, renumbered_visit}
use Rattle.xf_def_forest.specs.Shape.{has_elements}
use Rattle.xf_def_forest.specs.Forest.{is_element}
use Rattle.xf_def_forest.specs.Visit.{Visit, visits, is_first}
use Rattle.xf_def_forest.proofs.RenumberLaws.{any-through, filter-through, first-renumbered, visits-renumbered}
use Rattle.xf_def_xpath.specs.declared.value.Value.{Value}
use Rattle.xf_def_xpath.specs.Conversions.{nodes_of}
use Rattle.xf_def_xpath.specs.Setting.{Focus, Meaning}
use Rattle.xf_def_xpath.specs.Same.{renumbered_value, renumbered_focus, renumbered_property}
use Rattle.xf_def_xpath.proofs.RenumberLaws.{in_order-renumbered, nodes-renumbered}
use Rattle.xf_def_ui.specs.Around.{all_bound, first_bound, alone}
use Rattle.xf_def_ui.specs.Context.{Context, moved}
use Rattle.xf_def_ui.specs.Interface as interface_of
use Rattle.xf_def_machine.specs.State.{State}
use Rattle.xf_def_machine.specs.Refusal.{Refused, binding, or_long}
use Rattle.xf_def_machine.specs.Flow.{Run, ◌>>=◌, when, where_some}
use Rattle.xf_def_machine.specs.Surround.{Told, all_in}
use Rattle.xf_def_machine.specs.Primitives.{set_text}
use Rattle.xf_def_machine.specs.Properties.{readonly_in, closed_in}
use Rattle.xf_def_machine.specs.Events.{Tell, fired_at}
use Rattle.xf_def_machine.specs.Acting.{Acting, surroundings, binding_of, value_for, whole_for}
use Rattle.xf_def_machine.specs.SetValue.{unless_parent, set_node, value_asked, set_open, set_value}
use Rattle.xf_def_machine.specs.Insert.{moved_focus, set_asked, last_one, origin_asked, at_asked, place_asked, tell_instance}
use Rattle.xf_def_machine.specs.Delete as delete
use Rattle.xf_law_sessions.proofs.SameLemmas.ForestGoes.{map-length}
use Rattle.xf_law_sessions.proofs.SameLemmas.ScopeGoes.{path-goes}
use Rattle.xf_law_sessions.proofs.SameLemmas.StateGoes.{readonly-goes}
use Rattle.xf_law_sessions.proofs.SameLemmas.AroundGoes.{renumbered_context}
use Rattle.xf_law_sessions.proofs.SameLemmas.AroundGoes as around
use Rattle.xf_law_sessions.proofs.SameLemmas.LabelsGo.{MeaningGoes}
use Rattle.xf_law_sessions.proofs.StepLemmas.Alike.{Two, other, Fits, Alike, Goes, mapped, long-mapped, same-alike, eval-alike, kept-alike, when-alike, some-alike, kept-some}
use Rattle.xf_law_sessions.proofs.StepLemmas.ChangesAlike.{renumbered_fired, Tells, text-alike}
use Rattle.xf_law_sessions.proofs.StepLemmas.EvalAlike.{renumbered_acting, fired-is, seen-goes, own-goes, value-goes, text-goes, whole-goes}

module _ (e : Two) where
  -- ---- setvalue

  pub has-goes : (s : State) (n : ℕ) → has_elements (visits (map (renumbered e.f) s.forest.nodes)) (e.f n) ≡ has_elements (all_in s) n
  has-goes s n =
      ap (λ all. has_elements all (e.f n)) (visits-renumbered e.f e.runs.renumbers s.forest.nodes)
      ∙ any-through (renumbered_visit e.f) (λ y. is_element y.content && is_first (e.f n) y.above) (λ y. is_element y.content && is_first n y.above)
      (λ y. ap (λ b. is_element y.content && b) (first-renumbered e.f e.runs.renumbers n y.above)) (all_in s)

  parent-alike : (b c : Bool) (n : ℕ) (run run_too : Run) (s : State) → c ≡ b → Alike e (run s) (run_too (other e s)) → Alike e (unless_parent b n run s) (unless_parent c (e.f n) run_too (other e s))
  parent-alike false c n run run_too s q k = record { is = ap (λ d. unless_parent d (e.f n) run_too (other e s)) q ∙ k.is; fits = k.fits }
  parent-alike true c n run run_too s q k = record {
    is = ap (λ d. unless_parent d (e.f n) run_too (other e s)) q
        ∙ ap {A = List ℕ} {B = Result State Refused} (λ path. Err (record { why = binding path; calls = s.calls })) (path-goes e.f e.runs.renumbers e.second s n);
    fits = tt;
  }

  pub set-node-alike : (n : ℕ) (text : List ℕ) → Goes e (set_node e.p n text) (set_node e.p (e.f n) text)
  set-node-alike n text s h =
      parent-alike (has_elements (all_in s) n) (has_elements (visits (map (renumbered e.f) s.forest.nodes)) (e.f n)) n (set_text e.p n text) (set_text e.p (e.f n) text) s (has-goes s n)
      (text-alike e n text s h)

  asked-same : (x : Acting) (s : State) → Fits e s → (n : ℕ) (value : Option Meaning) → MeaningGoes e.f value
      → value_asked e.p (renumbered_acting e x) (other e s) (e.f n) value ≡ value_asked e.p x s n value
  asked-same x s h n None r = refl
  asked-same x s h n (Some m) r = text-goes e x s h (alone n) m r

  set-open-alike : (x : Acting) (value : Option Meaning) → MeaningGoes e.f value → (n : ℕ) → Goes e (set_open e.p x value n) (set_open e.p (renumbered_acting e x) value (e.f n))
  set-open-alike x value r n s h =
      parent-alike (has_elements (all_in s) n) (has_elements (visits (map (renumbered e.f) s.forest.nodes)) (e.f n)) n
      (λ t. value_asked e.p x t n value >>= λ text. set_text e.p n text t) (λ t. value_asked e.p (renumbered_acting e x) t (e.f n) value >>= λ text. set_text e.p (e.f n) text t) s (has-goes s n)
      (kept-alike e (value_asked e.p x s n value) (value_asked e.p (renumbered_acting e x) (other e s) (e.f n) value) (λ text. set_text e.p n text s) (λ text. set_text e.p (e.f n) text (other e s))
      (asked-same x s h n value r) (λ text. text-alike e n text s h))

  pub set-value-alike : (x : Acting) (value : Option Meaning) → MeaningGoes e.f value → Goes e (set_value e.p x value) (set_value e.p (renumbered_acting e x) value)
  set-value-alike x value r s h =
      let y = renumbered_acting e x in
      let t = other e s in
      let o = first_bound (surroundings e.p x s) x.model (binding_of x s) (Some x.focus) in
      let one : ℕ → Run = λ n u. when (not (readonly_in u n)) (set_open e.p x value n) u in
      let two : ℕ → Run = λ n u. when (not (readonly_in u n)) (set_open e.p y value n) u in
      eval-alike e (option_map e.f) (or_long s o) (or_long t (first_bound (surroundings e.p y t) x.model (binding_of x s) (Some (renumbered_focus e.f x.focus))))
      (λ bound. where_some bound one s) (λ bound. where_some bound two t)
      (ap (or_long t) (around.first-bound e.f e.runs.renumbers (surroundings e.p x s) (surroundings e.p y t) (seen-goes e x s h) x.model (binding_of x s) (own-goes e x s h) (Some x.focus))
      ∙ long-mapped e (option_map e.f) s o)
      (λ bound. some-alike e e.f bound (option_map e.f bound) one two s refl h
      (λ n. when-alike e (not (readonly_in s n)) (not (readonly_in t (e.f n))) (set_open e.p x value n) (set_open e.p y value (e.f n)) s (ap not (readonly-goes e.f e.runs.renumbers e.second s n)) h
      (set-open-alike x value r n s h)))

  -- ---- what inserts and deletes ask

  moved-goes : (x : Acting) (s : State) → Fits e s → (c : Context) (m : Option Meaning) → MeaningGoes e.f m
      → moved (surroundings e.p (renumbered_acting e x) (other e s)) (renumbered_context e.f c) m ≡ option_map (renumbered_context e.f) (moved (surroundings e.p x s) c m)
  moved-goes x s h c None r = refl
  moved-goes x s h c (Some m) r =
      let a = surroundings e.p x s in
      let b = surroundings e.p (renumbered_acting e x) (other e s) in
      let to : Option ℕ → Context = λ n. record { model = c.model; focus = option_map alone n } in
      ap (option_map to) (around.first-bound e.f e.runs.renumbers a b (seen-goes e x s h) c.model (interface_of.nodes m) r c.focus)
      ∙ by (first_bound a c.model (interface_of.nodes m) c.focus)
    where
      one : (o : Option ℕ) → option_map alone (option_map e.f o) ≡ option_map (renumbered_focus e.f) (option_map alone o)
      one None = refl
      one (Some n) = refl

      by : (o : Option (Option ℕ)) → option_map (λ (n : Option ℕ). record { model = c.model; focus = option_map alone n }) (option_map (option_map e.f) o)
          ≡ option_map (renumbered_context e.f) (option_map (λ (n : Option ℕ). record { model = c.model; focus = option_map alone n }) o)
      by None = refl
      by (Some n) = ap {A = Option Focus} {B = Option Context} (λ z. Some (record { model = c.model; focus = z })) (one n)

  pub focus-goes : (x : Acting) (m : Option Meaning) → MeaningGoes e.f m → (s : State) → Fits e s
      → moved_focus e.p (renumbered_acting e x) m (other e s) ≡ mapped e (option_map (renumbered_focus e.f)) (moved_focus e.p x m s)
  focus-goes x m r s h =
      let c : Context = record { model = x.model; focus = Some x.focus } in
      ap (λ o. or_long (other e s) o >>= λ d. Ok d.focus) (moved-goes x s h c m r) ∙ by (moved (surroundings e.p x s) c m)
    where
      by : (o : Option Context) → (or_long (other e s) (option_map (renumbered_context e.f) o) >>= λ d. Ok d.focus) ≡ mapped e (option_map (renumbered_focus e.f)) (or_long s o >>= λ d. Ok d.focus)
      by None = refl
      by (Some d) = refl

  pub set-goes : (x : Acting) (c : Focus) (s : State) → Fits e s → set_asked e.p (renumbered_acting e x) (renumbered_focus e.f c) (other e s) ≡ mapped e (map e.f) (set_asked e.p x c s)
  set-goes x c s h =
      ap (or_long (other e s)) (around.all-bound e.f e.runs.renumbers (surroundings e.p x s) (surroundings e.p (renumbered_acting e x) (other e s)) (seen-goes e x s h) x.model (binding_of x s) (own-goes e x s h) (Some c))
      ∙ long-mapped e (map e.f) s (all_bound (surroundings e.p x s) x.model (binding_of x s) (Some c))

  last-goes : (ns : List ℕ) → last_one (map e.f ns) ≡ map e.f (last_one ns)
  last-goes [] = refl
  last-goes (n ∷ []) = refl
  last-goes (n ∷ m ∷ ns) = last-goes (m ∷ ns)

  pub origin-goes : (x : Acting) (c : Focus) (o : Option Meaning) → MeaningGoes e.f o → (set : List ℕ) (s : State) → Fits e s
      → origin_asked e.p (renumbered_acting e x) (renumbered_focus e.f c) o (map e.f set) (other e s) ≡ mapped e (map e.f) (origin_asked e.p x c o set s)
  origin-goes x c None r set s h = ap Ok (last-goes set)
  origin-goes x c (Some m) r set s h = ap (λ o. o >>= λ value. Ok (nodes_of value)) (value-goes e x s h c m r) ∙ by (value_for e.p x s c m)
    where
      by : (o : Result Value Refused) → (mapped e (renumbered_value e.f) o >>= λ value. Ok (nodes_of value)) ≡ mapped e (map e.f) (o >>= λ value. Ok (nodes_of value))
      by (Ok v) = ap Ok (nodes-renumbered e.f v)
      by (Err refusal) = refl

  pub at-goes : (x : Acting) (o : Option Meaning) → MeaningGoes e.f o → (set : List ℕ) (s : State) → Fits e s → at_asked e.p (renumbered_acting e x) o (map e.f set) (other e s) ≡ at_asked e.p x o set s
  at-goes x None r set s h = refl
  at-goes x (Some m) r [] s h = refl
  at-goes x (Some m) r (n ∷ ns) s h =
      ap {A = ℕ} {B = Result (Option ℤ) Refused} (λ k. whole_for e.p (renumbered_acting e x) (other e s) (record { node = e.f n; position = 1; size = suc k }) m) (map-length e.f ns)
      ∙ whole-goes e x s h (record { node = n; position = 1; size = length (n ∷ ns) }) m r

  pub place-goes : (x : Acting) (o : Option Meaning) → MeaningGoes e.f o → (origin set : List ℕ) (s : State) → Fits e s
      → place_asked e.p (renumbered_acting e x) o (map e.f origin) (map e.f set) (other e s) ≡ place_asked e.p x o origin set s
  place-goes x o r [] set s h = refl
  place-goes x o r (n ∷ ns) set s h = at-goes x o r set s h

  pub delete-at-goes : (x : Acting) (o : Option Meaning) → MeaningGoes e.f o → (set : List ℕ) (s : State) → Fits e s
      → delete.at_asked e.p (renumbered_acting e x) o (map e.f set) (other e s) ≡ delete.at_asked e.p x o set s
  delete-at-goes x None r set s h = refl
  delete-at-goes x (Some m) r [] s h = refl
  delete-at-goes x (Some m) r (n ∷ ns) s h =
      ap {A = ℕ} {B = Result (Option ℤ) Refused} (λ k. whole_for e.p (renumbered_acting e x) (other e s) (record { node = e.f n; position = 1; size = suc k }) m >>= λ at. Ok (delete.or_last (suc k) at)) (map-length e.f ns)
      ∙ ap (λ o. o >>= λ at. Ok (delete.or_last (suc (length ns)) at)) (whole-goes e x s h (record { node = n; position = 1; size = length (n ∷ ns) }) m r)

  numbers-go : (xs : List Visit) → map (λ (x : Visit). x.number) (map (renumbered_visit e.f) xs) ≡ map e.f (map (λ (x : Visit). x.number) xs)
  numbers-go [] = refl
  numbers-go (x ∷ xs) = ap (λ l. e.f x.number ∷ l) (numbers-go xs)

  pub closed-goes : (s : State) → closed_in (other e s) ≡ map e.f (closed_in s)
  closed-goes s =
      ap (λ all. filter (readonly_in (other e s)) (map (λ (x : Visit). x.number) all)) (visits-renumbered e.f e.runs.renumbers s.forest.nodes)
      ∙ ap (filter (readonly_in (other e s))) (numbers-go (all_in s))
      ∙ filter-through e.f (readonly_in (other e s)) (readonly_in s) (readonly-goes e.f e.runs.renumbers e.second s) (map (λ (x : Visit). x.number) (all_in s))

  pub order-goes : (s : State) (ns : List ℕ) → in_order (visits (map (renumbered e.f) s.forest.nodes)) (map e.f ns) ≡ map e.f (in_order (all_in s) ns)
  order-goes s ns = ap (λ all. in_order all (map e.f ns)) (visits-renumbered e.f e.runs.renumbers s.forest.nodes) ∙ in_order-renumbered e.f e.runs.renumbers (all_in s) ns

  -- ---- what instances are told

  pub tell-alike : (tell : Tell) → Tells e tell → (name : List ℕ) (told told_too : State → Told) → ((s : State) → told_too (other e s) ≡ map (renumbered_property e.f) (told s))
      → (place place_too : Option ℕ) → place_too ≡ place → Goes e (tell_instance tell name told place) (tell_instance tell name told_too place_too)
  tell-alike tell t name told told_too q place place_too w s h =
      let one : (State → Told) → ℕ → Run = λ given i u. tell (fired_at u name (given u) (get_or u.form.instance_elements i 0)) u in
      let target = λ (i : ℕ). get_or s.form.instance_elements i 0 in
      same-alike e (where_some place (one told) s) (where_some place (one told_too) (other e s)) (where_some place_too (one told_too) (other e s)) (ap (λ o. where_some o (one told_too) (other e s)) w)
      (kept-some e place (one told) (one told_too) s h
      (λ i. same-alike e (one told i s) (tell (renumbered_fired e.f (fired_at s name (told s) (target i))) (other e s)) (one told_too i (other e s))
      (ap (λ given. tell (fired_at (other e s) name given (target i)) (other e s)) (q s) ∙ ap (λ x. tell x (other e s)) (fired-is e s name (told s) (target i)))
      (t (fired_at s name (told s) (target i)) s h)))
