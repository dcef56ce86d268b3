-- Inserts, deletes, rows, cases, events and resets over a state and the same one with other numbers.
use Rattle.std.proofs.Common.{◌≡◌, ℕ, suc, ◌<◌, Bool, List, [], ◌∷◌, map, length, zip, codes, get_or, Option, Some, None, option_map, Result, Ok, Err, refl, sym, ap, ◌∙◌, subst, ℤ}
use Rattle.xf_def_forest.specs.declared.content.Content.{Content}
use Rattle.xf_def_forest.specs.Changes.{copied}
use Rattle.xf_def_forest.specs.Forest.{tree_of}
use Rattle.xf_def_forest.specs.Planted.{with_tree}
use Rattle.xf_def_forest.specs.Same.{renumbered}
use Rattle.xf_def_xpath.specs.Binding.{as_list}
use Rattle.xf_def_xpath.specs.Setting.{Focus}
use Rattle.xf_def_xpath.specs.Same.{renumbered_focus, renumbered_property}
use Rattle.xf_def_model.specs.Pertinent.{AllOf}
use Rattle.xf_def_model.specs.Places.{Place, named_by, planned_insert}
use Rattle.xf_def_model.specs.Same.{renumbered_place, renumbered_insert}
use Rattle.xf_def_model.proofs.RenumberInsert.{planned_insert-renumbered}
use Rattle.xf_def_model.proofs.RenumberPlaces.{named-renumbered}
use Rattle.xf_def_machine.specs.Program.{InsertBy}
use Rattle.xf_def_machine.specs.State.{State}
use Rattle.xf_def_machine.specs.Refusal.{Refused}
use Rattle.xf_def_machine.specs.Flow.{Run, ◌>>=◌, where_some, in_turn}
use Rattle.xf_def_machine.specs.Surround.{instance_holding}
use Rattle.xf_def_machine.specs.Primitives.{copy, plant, attach}
use Rattle.xf_def_machine.specs.Update.{reindex}
use Rattle.xf_def_machine.specs.Events.{Tell}
use Rattle.xf_def_machine.specs.Acting.{Acting}
use Rattle.xf_def_machine.specs.Insert.{moved_focus, set_asked, origin_asked, place_asked, asked_with, copies_of, without_one, put_copy, location_of, insert_told, tell_instance, inserted, insert_at, insert}
use Rattle.xf_law_sessions.specs.Same.Going.{imaged_top, CountsTop}
use Rattle.xf_law_sessions.proofs.SameLemmas.ForestGoes.{map-length, holding-goes}
use Rattle.xf_law_sessions.proofs.SameLemmas.GoingLaws.{going_laws}
use Rattle.xf_law_machine.proofs.RestLemmas.Holds.{Held}
use Rattle.xf_law_machine.proofs.RestLemmas.WithinLaws.{grown-by-held}
use Rattle.xf_law_sessions.specs.Step.Steps.{IsOfForm}
use Rattle.xf_law_sessions.proofs.StepLemmas.Alike.{Two, other, Fits, Alike, Goes, mapped, same-alike, then-alike, eval-alike, kept-alike, some-alike}
use Rattle.xf_law_sessions.proofs.StepLemmas.ChangesAlike.{Tells, attach-alike, detach-is, detach-fits, reindex-alike}
use Rattle.xf_law_sessions.proofs.StepLemmas.EvalAlike.{InsertGoes, renumbered_acting}
use Rattle.xf_law_sessions.proofs.StepLemmas.AgainLaws.{AgainIn, planned-again, at-mapped}
use Rattle.xf_law_sessions.proofs.StepLemmas.ActionsAlike.{focus-goes, set-goes, origin-goes, place-goes, closed-goes, order-goes, tell-alike}

abbrev Formed : State → Type 0
Formed s = IsOfForm s.form

module _ (e : Two) where
  -- ---- trees that are made

  pub record Made {X Y : Type 0} (g : X → Y) (P : X → Type 0) (x : Result (X × State) Refused) (y : Result (Y × State) Refused) : Type 0 where
    pub is : y ≡ mapped e (λ q. (g q.0, other e q.1)) x
    pub fits : Held (λ q. Fits e q.1 × P q.0) x

  pub made-then : {X Y : Type 0} (g : X → Y) (P : X → Type 0) (x : Result (X × State) Refused) (y : Result (Y × State) Refused) (next : X × State → Result State Refused) (next_too : Y × State → Result State Refused)
      → Made g P x y → ((q : X × State) → Fits e q.1 → P q.0 → Alike e (next q) (next_too (g q.0, other e q.1))) → Alike e (x >>= next) (y >>= next_too)
  made-then g P (Err refusal) y next next_too h k = record { is = ap (λ z. z >>= next_too) h.is; fits = tt }
  made-then g P (Ok q) y next next_too h k = let m = k q h.fits.0 h.fits.1 in record { is = ap (λ z. z >>= next_too) h.is ∙ m.is; fits = m.fits }

  made-made : {X Y V W : Type 0} (g : X → Y) (P : X → Type 0) (k : V → W) (Q : V → Type 0) (x : Result (X × State) Refused) (y : Result (Y × State) Refused)
      (next : X × State → Result (V × State) Refused) (next_too : Y × State → Result (W × State) Refused)
      → Made g P x y → ((q : X × State) → Fits e q.1 → P q.0 → Made k Q (next q) (next_too (g q.0, other e q.1))) → Made k Q (x >>= next) (y >>= next_too)
  made-made g P k Q (Err refusal) y next next_too h m = record { is = ap (λ z. z >>= next_too) h.is; fits = tt }
  made-made g P k Q (Ok q) y next next_too h m = let n = m q h.fits.0 h.fits.1 in record { is = ap (λ z. z >>= next_too) h.is ∙ n.is; fits = n.fits }

  top-mapped : (x : Result (ℕ × State) Refused) → imaged_top e.f e.second x ≡ mapped e (λ q. (e.f q.0, other e q.1)) x
  top-mapped (Ok q) = refl
  top-mapped (Err refusal) = refl

  top-fits : (x : Result (ℕ × State) Refused) → CountsTop e.p e.first x → Held (λ q. Formed q.1) x → Held (λ (q : ℕ × State). Fits e q.1 × Unit {0}) x
  top-fits (Ok q) c k = (record { counts = c; form = k }, tt)
  top-fits (Err refusal) c k = tt

  abbrev pub Any : ℕ → Type 0
  Any n = Unit {0}

  copy-made : (n : ℕ) (s : State) → Fits e s → Made e.f Any (copy e.p n s) (copy e.p (e.f n) (other e s))
  copy-made n s h =
      let g = (going_laws e.p e.f e.first e.second e.runs).copy n s h.counts in
      record {
        is = g.is ∙ top-mapped (copy e.p n s);
        fits = top-fits (copy e.p n s) g.counts (grown-by-held Formed e.p (length (tree_of n s.forest.nodes)) (copied e.p.bounds.limits n s.forest) s (λ one q. h.form));
      }

  pub plant-made : (contents : List (ℕ × Content)) (s : State) → Fits e s → Made e.f Any (plant e.p contents s) (plant e.p contents (other e s))
  plant-made contents s h =
      let g = (going_laws e.p e.f e.first e.second e.runs).plant contents s h.counts in
      record {
        is = g.is ∙ top-mapped (plant e.p contents s);
        fits = top-fits (plant e.p contents s) g.counts (grown-by-held Formed e.p (length contents) (with_tree e.p.bounds.limits contents s.forest) s (λ one q. h.form));
      }

  abbrev Long : ℕ → List ℕ → Type 0
  Long k tops = length tops ≡ k

  copies-made : (ns : List ℕ) (s : State) → Fits e s → Made (map e.f) (Long (length ns)) (copies_of e.p ns s) (copies_of e.p (map e.f ns) (other e s))
  copies-made [] s h = record { is = refl; fits = (h, refl) }
  copies-made (n ∷ ns) s h =
      made-made e.f Any (map e.f) (Long (suc (length ns))) (copy e.p n s) (copy e.p (e.f n) (other e s))
      (λ one. copies_of e.p ns one.1 >>= λ more. Ok (one.0 ∷ more.0, more.1)) (λ one. copies_of e.p (map e.f ns) one.1 >>= λ more. Ok (one.0 ∷ more.0, more.1)) (copy-made n s h)
      (λ one k u. made-made (map e.f) (Long (length ns)) (map e.f) (Long (suc (length ns))) (copies_of e.p ns one.1) (copies_of e.p (map e.f ns) (other e one.1))
      (λ more. Ok (one.0 ∷ more.0, more.1)) (λ more. Ok (e.f one.0 ∷ more.0, more.1)) (copies-made ns one.1 k) (λ more m l. record { is = refl; fits = (m, ap suc l) }))

  -- ---- inserts

  without-is : (o : Option ℕ) (s : State) → Fits e s → without_one (option_map e.f o) (other e s) ≡ other e (without_one o s)
  without-is None s h = refl
  without-is (Some n) s h = detach-is e n s h

  without-fits : (o : Option ℕ) (s : State) → Fits e s → Fits e (without_one o s)
  without-fits None s h = h
  without-fits (Some n) s h = detach-fits e n s h

  abbrev renumbered_put : Place × ℕ → Place × ℕ
  renumbered_put q = (renumbered_place e.f q.0, e.f q.1)

  put-alike : (tops : List ℕ) (q : Place × ℕ) → ((k : ℕ) → q.0.again ≡ Some k → k < length tops) → Goes e (put_copy e.p tops q) (put_copy e.p (map e.f tops) (renumbered_put q))
  put-alike tops (place, top) less s h =
      let again = option_map (λ k. get_or tops k 0) place.again in
      let one = without_one place.replaces s in
      let two = without_one again one in
      let last : State → Result State Refused = λ t. attach e.p (e.f top) (e.f place.parent) place.place t in
      let fits_one = without-fits place.replaces s h in
      same-alike e (attach e.p top place.parent place.place two) (last (other e two)) (put_copy e.p (map e.f tops) (renumbered_put (place, top)) (other e s))
      (ap (λ o. last (without_one o (without_one (option_map e.f place.replaces) (other e s)))) (at-mapped e.f tops place.again less)
      ∙ ap (λ t. last (without_one (option_map e.f again) t)) (without-is place.replaces s h) ∙ ap last (without-is again one fits_one))
      (attach-alike e top place.parent place.place two (without-fits again one fits_one))

  abbrev Among : ℕ → Place × ℕ → Type 0
  Among bound q = (k : ℕ) → q.0.again ≡ Some k → k < bound

  zipped-among : (bound : ℕ) (ps : List Place) (tops : List ℕ) → AgainIn bound ps → AllOf (Among bound) (zip ps tops)
  zipped-among bound [] tops h = tt
  zipped-among bound (p ∷ ps) [] h = tt
  zipped-among bound (p ∷ ps) (n ∷ ns) h = (h.0, zipped-among bound ps ns h.1)

  zipped-goes : (ps : List Place) (tops : List ℕ) → zip (map (renumbered_place e.f) ps) (map e.f tops) ≡ map renumbered_put (zip ps tops)
  zipped-goes [] tops = refl
  zipped-goes (p ∷ ps) [] = refl
  zipped-goes (p ∷ ps) (n ∷ ns) = ap (λ l. renumbered_put (p, n) ∷ l) (zipped-goes ps ns)

  puts-alike : (tops : List ℕ) (qs : List (Place × ℕ)) → AllOf (Among (length tops)) qs → (s : State) → Fits e s
      → Alike e (in_turn (put_copy e.p tops) qs s) (in_turn (put_copy e.p (map e.f tops)) (map renumbered_put qs) (other e s))
  puts-alike tops [] a s h = record { is = refl; fits = h }
  puts-alike tops (q ∷ qs) a s h =
      then-alike e (put_copy e.p tops q s) (put_copy e.p (map e.f tops) (renumbered_put q) (other e s)) (in_turn (put_copy e.p tops) qs) (in_turn (put_copy e.p (map e.f tops)) (map renumbered_put qs))
      (put-alike tops q a.0 s h) (puts-alike tops qs a.1)

  origins-go : (ps : List Place) → map (λ (q : Place). q.origin) (map (renumbered_place e.f) ps) ≡ map e.f (map (λ (q : Place). q.origin) ps)
  origins-go [] = refl
  origins-go (p ∷ ps) = ap (λ l. e.f p.origin ∷ l) (origins-go ps)

  location-goes : (at : Option ℤ) (c : Focus) (set : List ℕ) → location_of at (renumbered_focus e.f c) (map e.f set) ≡ map e.f (location_of at c set)
  location-goes at c [] = refl
  location-goes at c (n ∷ ns) = ap as_list (named-renumbered e.f at (n ∷ ns)) ∙ by (named_by at (n ∷ ns))
    where
      by : (o : Option ℕ) → as_list (option_map e.f o) ≡ map e.f (as_list o)
      by None = refl
      by (Some m) = refl

  told-goes : (is_before : Bool) (tops origins location : List ℕ) (s : State)
      → insert_told (other e s) is_before (map e.f tops) (map e.f origins) (map e.f location) ≡ map (renumbered_property e.f) (insert_told s is_before tops origins location)
  told-goes is_before tops origins location s = rw (order-goes e s tops, order-goes e s origins) refl

  inserted-alike : (tell : Tell) → Tells e tell → (is_before : Bool) (location : List ℕ) (ps : List Place) → AgainIn (length ps) ps
      → Goes e (inserted e.p tell is_before location ps) (inserted e.p tell is_before (map e.f location) (map (renumbered_place e.f) ps))
  inserted-alike tell t is_before location [] a s h = record { is = refl; fits = h }
  inserted-alike tell t is_before location (p ∷ ps) a s h =
      let origins = map (λ (q : Place). q.origin) (p ∷ ps) in
      let instance = instance_holding s p.parent in
      let last : List ℕ → List ℕ → List ℕ → Option ℕ → Run = λ tops os l i. tell_instance tell (codes "xforms-insert") (λ u. insert_told u is_before tops os l) i in
      let after : List Place → List ℕ → List ℕ → Option ℕ → List ℕ × State → Result State Refused = λ all os l i made.
      in_turn (put_copy e.p made.0) (zip all made.0) made.1 >>= reindex e.p made.0 >>= last made.0 os l i in
      same-alike e (copies_of e.p origins s >>= after (p ∷ ps) origins location instance)
      (copies_of e.p (map e.f origins) (other e s) >>= after (map (renumbered_place e.f) (p ∷ ps)) (map e.f origins) (map e.f location) instance)
      (inserted e.p tell is_before (map e.f location) (map (renumbered_place e.f) (p ∷ ps)) (other e s))
      (ap (λ os. copies_of e.p os (other e s) >>= after (map (renumbered_place e.f) (p ∷ ps)) os (map e.f location) (instance_holding (other e s) (e.f p.parent))) (origins-go (p ∷ ps))
      ∙ ap (λ i. copies_of e.p (map e.f origins) (other e s) >>= after (map (renumbered_place e.f) (p ∷ ps)) (map e.f origins) (map e.f location) i) (holding-goes e.f e.runs.renumbers e.second s p.parent))
      (made-then (map e.f) (Long (length origins)) (copies_of e.p origins s) (copies_of e.p (map e.f origins) (other e s)) (after (p ∷ ps) origins location instance)
      (after (map (renumbered_place e.f) (p ∷ ps)) (map e.f origins) (map e.f location) instance) (copies-made origins s h)
      (λ made k l. let tops = made.0 in
      let size : length (p ∷ ps) ≡ length tops = sym (map-length (λ (q : Place). q.origin) (p ∷ ps)) ∙ sym l in
      let puts = in_turn (put_copy e.p tops) (zip (p ∷ ps) tops) made.1 in
      let puts_too = in_turn (put_copy e.p (map e.f tops)) (zip (map (renumbered_place e.f) (p ∷ ps)) (map e.f tops)) (other e made.1) in
      then-alike e (puts >>= reindex e.p tops) (puts_too >>= reindex e.p (map e.f tops)) (last tops origins location instance) (last (map e.f tops) (map e.f origins) (map e.f location) instance)
      (then-alike e puts puts_too (reindex e.p tops) (reindex e.p (map e.f tops))
      (same-alike e puts (in_turn (put_copy e.p (map e.f tops)) (map renumbered_put (zip (p ∷ ps) tops)) (other e made.1)) puts_too
      (ap (λ qs. in_turn (put_copy e.p (map e.f tops)) qs (other e made.1)) (zipped-goes (p ∷ ps) tops))
      (puts-alike tops (zip (p ∷ ps) tops) (subst (λ n. AllOf (Among n) (zip (p ∷ ps) tops)) size (zipped-among (length (p ∷ ps)) (p ∷ ps) tops a)) made.1 k))
      (reindex-alike e tops))
      (tell-alike e tell t (codes "xforms-insert") (λ u. insert_told u is_before tops origins location) (λ u. insert_told u is_before (map e.f tops) (map e.f origins) (map e.f location))
      (told-goes is_before tops origins location) instance instance refl)))

  insert-at-alike : (tell : Tell) → Tells e tell → (x : Acting) (w : InsertBy) → InsertGoes e.f w → (c : Focus)
      → Goes e (insert_at e.p tell x w c) (insert_at e.p tell (renumbered_acting e x) w (renumbered_focus e.f c))
  insert-at-alike tell t x w r c s h =
      let y = renumbered_acting e x in
      let d = renumbered_focus e.f c in
      let u = other e s in
      let last : State → Focus → List ℕ → List ℕ → Option ℤ → Result State Refused = λ v k set origin at.
      inserted e.p tell w.is_before (location_of at k set) (planned_insert v.forest.nodes (asked_with w v k set origin at)) v in
      eval-alike e (map e.f) (set_asked e.p x c s) (set_asked e.p y d u)
      (λ set. origin_asked e.p x c w.origin set s >>= λ origin. place_asked e.p x w.at origin set s >>= last s c set origin)
      (λ set. origin_asked e.p y d w.origin set u >>= λ origin. place_asked e.p y w.at origin set u >>= last u d set origin) (set-goes e x c s h)
      (λ set. eval-alike e (map e.f) (origin_asked e.p x c w.origin set s) (origin_asked e.p y d w.origin (map e.f set) u) (λ origin. place_asked e.p x w.at origin set s >>= last s c set origin)
      (λ origin. place_asked e.p y w.at origin (map e.f set) u >>= last u d (map e.f set) origin) (origin-goes e x c w.origin r.origin set s h)
      (λ origin. kept-alike e (place_asked e.p x w.at origin set s) (place_asked e.p y w.at (map e.f origin) (map e.f set) u) (last s c set origin) (last u d (map e.f set) (map e.f origin)) (place-goes e x w.at r.at origin set s h)
      (λ at. let asked = asked_with w s c set origin at in
      let ps = planned_insert s.forest.nodes asked in
      same-alike e (last s c set origin at) (inserted e.p tell w.is_before (map e.f (location_of at c set)) (map (renumbered_place e.f) ps) u) (last u d (map e.f set) (map e.f origin) at)
      (ap (λ l. inserted e.p tell w.is_before l (planned_insert (map (renumbered e.f) s.forest.nodes) (asked_with w u d (map e.f set) (map e.f origin) at)) u) (location-goes at c set)
      ∙ ap (λ closed. inserted e.p tell w.is_before (map e.f (location_of at c set)) (planned_insert (map (renumbered e.f) s.forest.nodes) (record (renumbered_insert e.f asked) { closed = closed })) u) (closed-goes e s)
      ∙ ap (λ qs. inserted e.p tell w.is_before (map e.f (location_of at c set)) qs u) (planned_insert-renumbered e.f e.runs.renumbers s.forest.nodes asked))
      (inserted-alike tell t w.is_before (location_of at c set) ps (planned-again s.forest.nodes asked) s h))))

  pub insert-alike : (tell : Tell) → Tells e tell → (x : Acting) (w : InsertBy) → InsertGoes e.f w → Goes e (insert e.p tell x w) (insert e.p tell (renumbered_acting e x) w)
  insert-alike tell t x w r s h =
      let y = renumbered_acting e x in
      eval-alike e (option_map (renumbered_focus e.f)) (moved_focus e.p x w.context s) (moved_focus e.p y w.context (other e s)) (λ c. where_some c (insert_at e.p tell x w) s)
      (λ c. where_some c (insert_at e.p tell y w) (other e s)) (focus-goes e x w.context r.context s h)
      (λ c. some-alike e (renumbered_focus e.f) c (option_map (renumbered_focus e.f) c) (insert_at e.p tell x w) (insert_at e.p tell y w) s refl h (λ k. insert-at-alike tell t x w r k s h))
