-- Each change of a state goes with a renumbering.
use Rattle.std.proofs.Common.{◌≡◌, ℕ, zero, suc, ◌+◌, Bool, true, false, List, [], ◌∷◌, ◌++◌, map, length, nat_lt, Option, Some, None, option_map, Result, Ok, Err, refl, sym, ap, ◌∙◌, subst, if◌then◌else◌, arith}
use Rattle.std.specs.Prelude.{◌≤◌}
use Rattle.std.proofs.lemmas.Bool.Decides.{nat_tests}
use Rattle.std.proofs.lemmas.List.{map-append}
use Rattle.xf_def_forest.specs.declared.content.Node.{Node}
use Rattle.xf_def_forest.specs.declared.content.Content.{Content}
use Rattle.xf_def_forest.specs.declared.fault.TreeFault.{TreeFault}
use Rattle.xf_def_forest.specs.declared.fault.TreeFault.TheVariants.{Depth}
use Rattle.xf_def_forest.specs.Forest.{Forest, content_at, tree_of}
use Rattle.xf_def_forest.specs.Limits.{is_too_deep, passed_by_all, passed_by_text, passed_by_tree, unless}
use Rattle.xf_def_forest.specs.Plant.{numbered_from}
use Rattle.xf_def_forest.specs.Planted.{with_tree}
use Rattle.xf_def_forest.specs.Changes.{shifted, moved_to, contents_in, copied, detached, elements_above, placed, place_of, attached}
use Rattle.xf_def_forest.specs.Texts.{one_text, with_texts, with_attribute_text, is_attribute_at, new_texts, with_text}
use Rattle.xf_def_forest.specs.Same.{renumbered}
use Rattle.xf_def_forest.specs.Visit.{visits, parent_of}
use Rattle.xf_def_forest.proofs.RenumberLaws.{visits-renumbered, parent_of-renumbered}
use Rattle.xf_def_forest.proofs.RenumberChanges.{renumbered_forest, result_map, tree_of-renumbered, detached-renumbered, attached-renumbered}
use Rattle.xf_def_forest.proofs.RenumberTexts.{Continues, numbered-renumbered, contents-renumbered, with_texts-renumbered, attribute_text-renumbered, is_attribute_at-renumbered}
use Rattle.xf_def_machine.specs.declared.limit.LimitWord.{LimitWord}
use Rattle.xf_def_machine.specs.declared.limit.LimitWord.TheVariants.{Made, Notes}
use Rattle.xf_def_machine.specs.declared.note.Note.{Note}
use Rattle.xf_def_machine.specs.NoteLines.{notes_size}
use Rattle.xf_def_machine.specs.Profile.{Profile}
use Rattle.xf_def_machine.specs.State.{Model, State}
use Rattle.xf_def_machine.specs.Refusal.{Refused, unless_passed, if_over}
use Rattle.xf_def_machine.specs.Surround.{all_in, model_holding}
use Rattle.xf_def_machine.specs.Primitives.{spend, spent_from, changed_at, in_model, in_some_model, all_due, texts_due, refresh_due, with_text_mark, with_list_mark, list_changed, over_made, with_forest, grown, grown_to, grown_by, is_other_text, if_other, set_text, copy, plant, attach, detach, add_note}
use Rattle.xf_def_machine.specs.Step.{fresh}
use Rattle.xf_def_machine.specs.Same.{renumbered_model, renumbered_index, renumbered_copy}
use Rattle.xf_law_sessions.specs.Same.Going.{Runs, image, Counts, imaged, CountsAfter, GoesAt, Goes, imaged_top, CountsTop, MakesAt, Makes, ImagesAreSame, SameAreImages, GoingLaws, ChangesGo}
use Rattle.xf_law_sessions.proofs.SameLemmas.Extending.{extends}
use Rattle.xf_law_sessions.proofs.SameLemmas.ForestGoes.{map-length, all-behind, tree-behind, text-passed, model-goes, other-goes}

-- ---- a state and its image

images_same : ImagesAreSame
images_same f second s same texts = record {
  by = f;
  renumbers = same;
  keeps_texts = texts;
  form = refl;
  nodes = refl;
  indexes = refl;
  cases = refl;
  models = refl;
  controls = refl;
  accepted = refl;
  notes = refl;
  turns = refl;
  made = refl;
  evaluated = refl;
  calls = refl;
}

plus-none : (n : ℕ) → n ≡ n + 0
plus-none n = omega arith

same_images : SameAreImages
same_images p s t h =
    let r : State = fresh p t in
    ap (λ x. record r { form = x }) (sym h.form)
    ∙ ap (λ x. record r { form = s.form; forest = record { nodes = x; next = t.forest.next } }) (sym h.nodes)
    ∙ ap (λ x. record r { form = s.form; forest = record { nodes = map (renumbered h.by) s.forest.nodes; next = x } }) (plus-none t.forest.next)
    ∙ ap (λ x. record r { form = s.form; forest = record { nodes = map (renumbered h.by) s.forest.nodes; next = t.forest.next + 0 }; indexes = x }) (sym h.indexes)
    ∙ ap (λ x. record r { form = s.form; forest = record { nodes = map (renumbered h.by) s.forest.nodes; next = t.forest.next + 0 }; indexes = map (renumbered_index h.by) s.indexes; cases = x }) (sym h.cases)
    ∙ ap (λ x. record r { form = s.form; forest = record { nodes = map (renumbered h.by) s.forest.nodes; next = t.forest.next + 0 }; indexes = map (renumbered_index h.by) s.indexes; cases = s.cases; models = x }) (sym h.models)
    ∙ ap (λ x. record r { form = s.form; forest = record { nodes = map (renumbered h.by) s.forest.nodes; next = t.forest.next + 0 }; indexes = map (renumbered_index h.by) s.indexes; cases = s.cases; models = map (renumbered_model h.by) s.models; controls = x }) (sym h.controls)
    ∙ ap (λ x. record r { form = s.form; forest = record { nodes = map (renumbered h.by) s.forest.nodes; next = t.forest.next + 0 }; indexes = map (renumbered_index h.by) s.indexes; cases = s.cases; models = map (renumbered_model h.by) s.models; controls = map (renumbered_copy h.by) s.controls; accepted = x }) (sym h.accepted)

-- ---- models

changed-map : (g change other : Model → Model) → ((m : Model) → other (g m) ≡ g (change m)) → (k : ℕ) (ms : List Model) → changed_at k other (map g ms) ≡ map g (changed_at k change ms)
changed-map g change other e k [] = refl
changed-map g change other e zero (m ∷ ms) = ap (λ x. x ∷ map g ms) (e m)
changed-map g change other e (suc k) (m ∷ ms) = ap (λ xs. g m ∷ xs) (changed-map g change other e k ms)

-- ---- words of limits

abbrev Words : Profile → ℕ → List LimitWord
Words p made = over_made p made

pub within-made : (p : Profile) (made : ℕ) → over_made p made ≡ [] → made ≤ p.made
within-made p made e = by (nat_lt p.made made) refl e
  where
    by : (b : Bool) → nat_lt p.made made ≡ b → if_over b Made ≡ [] → made ≤ p.made
    by true q i = cc
    by false q i = grind (arith, nat_tests, q)

module _ (p : Profile) (f : ℕ → ℕ) (first second : ℕ) (r : Runs p f first second) where
  -- ---- turns, notes, cases, indexes

  spent-goes : (left : ℕ) (s : State) → Counts p first s → GoesAt p f first second (spent_from left) (spent_from left) s
  spent-goes zero s c = record { is = refl; counts = tt }
  spent-goes (suc left) s c = record { is = refl; counts = record { next = c.next; within = c.within } }

  spend-goes : Goes p f first second spend spend
  spend-goes s c = let g = spent-goes s.turns s c in record { is = g.is; counts = g.counts }

  noted-goes : (words : List LimitWord) (notes : List Note) (s : State) → Counts p first s
      → GoesAt p f first second (λ t. unless_passed t words (record t { notes = notes })) (λ t. unless_passed t words (record t { notes = notes })) s
  noted-goes [] notes s c = record { is = refl; counts = record { next = c.next; within = c.within } }
  noted-goes (word ∷ words) notes s c = record { is = refl; counts = tt }

  note-goes : (note : Note) → Goes p f first second (add_note p note) (add_note p note)
  note-goes note s c =
      let notes = s.notes ++ note ∷ [] in
      let g = noted-goes (if_over (nat_lt p.notes (notes_size notes)) Notes) notes s c in
      record { is = g.is; counts = g.counts }

  same-counts : (s t : State) → t.forest.next ≡ s.forest.next → t.made ≡ s.made → Counts p first s → Counts p first t
  same-counts s t e q c = record { next = e ∙ c.next ∙ ap (λ n. first + n) (sym q); within = subst (λ n. n ≤ p.made) (sym q) c.within }

  -- ---- models that are changed

  pub in-model-goes : (change other : Model → Model) (model : ℕ) → ((m : Model) → other (renumbered_model f m) ≡ renumbered_model f (change m)) → (s : State)
      → in_model other model (image f second s) ≡ image f second (in_model change model s)
  in-model-goes change other model e s =
      ap {A = List Model} {B = State} (λ ms. record (image f second s) { models = ms }) (changed-map (renumbered_model f) change other e model s.models)

  model-changed : (change other : Model → Model) (model : ℕ) → ((m : Model) → other (renumbered_model f m) ≡ renumbered_model f (change m))
      → Goes p f first second (λ s. Ok (in_model change model s)) (λ s. Ok (in_model other model s))
  model-changed change other model e s c = record { is = ap Ok (in-model-goes change other model e s); counts = record { next = c.next; within = c.within } }

  some-goes : (change other : Model → Model) (o : Option ℕ) → ((m : Model) → other (renumbered_model f m) ≡ renumbered_model f (change m)) → (s : State)
      → in_some_model other o (image f second s) ≡ image f second (in_some_model change o s)
  some-goes change other None e s = refl
  some-goes change other (Some model) e s = in-model-goes change other model e s

  some-counts : (change : Model → Model) (o : Option ℕ) (s : State) → Counts p first s → Counts p first (in_some_model change o s)
  some-counts change None s c = c
  some-counts change (Some model) s c = record { next = c.next; within = c.within }

  some-made : (change : Model → Model) (o : Option ℕ) (s : State) → (in_some_model change o s).made ≡ s.made
  some-made change None s = refl
  some-made change (Some model) s = refl

  texts-marked : (b : Bool) (n : ℕ) (m : Model)
      → texts_due (if_other b (with_text_mark (f n)) (renumbered_model f m)) ≡ renumbered_model f (texts_due (if_other b (with_text_mark n) m))
  texts-marked true n m =
      ap {A = List ℕ} {B = Model} (λ texts. record (renumbered_model f (texts_due (with_text_mark n m))) { texts = texts }) (sym (map-append f m.texts (n ∷ [])))
  texts-marked false n m = refl

  list-marked : (n : ℕ) (m : Model) → all_due (with_list_mark (f n) (renumbered_model f m)) ≡ renumbered_model f (all_due (with_list_mark n m))
  list-marked n m =
      ap {A = List ℕ} {B = Model} (λ lists. record (renumbered_model f (all_due (with_list_mark n m))) { lists = lists }) (sym (map-append f m.lists (n ∷ [])))

  list-goes : (o : Option ℕ) (s : State) → list_changed (option_map f o) (image f second s) ≡ image f second (list_changed o s)
  list-goes None s = refl
  list-goes (Some parent) s =
      ap (λ o. in_some_model (λ m. all_due (with_list_mark (f parent) m)) o (image f second s)) (model-goes f r.renumbers second s parent)
      ∙ some-goes (λ m. all_due (with_list_mark parent m)) (λ m. all_due (with_list_mark (f parent) m)) (model_holding s parent) (list-marked parent) s

  list-counts : (o : Option ℕ) (s : State) → Counts p first s → Counts p first (list_changed o s)
  list-counts None s c = c
  list-counts (Some parent) s c = some-counts (λ m. all_due (with_list_mark parent m)) (model_holding s parent) s c

  list-made : (o : Option ℕ) (s : State) → (list_changed o s).made ≡ s.made
  list-made None s = refl
  list-made (Some parent) s = some-made (λ m. all_due (with_list_mark parent m)) (model_holding s parent) s

  -- ---- changes that make nodes

  abbrev forest_image : ℕ → Forest → Forest
  forest_image made forest = record { nodes = map (renumbered f) forest.nodes; next = second + made }

  -- what comes of a forest, with so many nodes made then: the other one has its image unless the limit of made nodes is passed
  pub record GrowsTo (made : ℕ) (x y : Result Forest TreeFault) : Type 0 where
    pub faults : (fault : TreeFault) → x ≡ Err fault → y ≡ Err fault
    pub forests : (forest : Forest) → x ≡ Ok forest → (other : Forest) × (y ≡ Ok other) × (made ≤ p.made → (other ≡ forest_image made forest) × (forest.next ≡ first + made))

  grown-goes : (count : ℕ) (x y : Result Forest TreeFault) (s : State) → GrowsTo (s.made + count) x y
      → GoesAt p f first second (λ t. grown_to (grown p count x t)) (λ t. grown_to (grown p count y t)) s
  grown-goes count (Err fault) y s g = record {
    is = ap (λ z. grown_to (grown p count z (image f second s))) (g.faults fault refl);
    counts = tt;
  }
  grown-goes count (Ok forest) y s g = let one = g.forests forest refl in by one.0 one.1 one.2
    where
      passed : (words : List LimitWord) (other : Forest) → over_made p (s.made + count) ≡ words
          → (s.made + count ≤ p.made → (other ≡ forest_image (s.made + count) forest) × (forest.next ≡ first + (s.made + count)))
          → (grown_to (unless_passed (image f second s) words (other, record (image f second s) { made = s.made + count })) ≡ imaged f second (grown_to (unless_passed s words (forest, record s { made = s.made + count }))))
          × CountsAfter p first (grown_to (unless_passed s words (forest, record s { made = s.made + count })))
      passed [] other e h =
          let within : s.made + count ≤ p.made = within-made p (s.made + count) e in
          let k = h within in
          (ap {A = Forest} {B = Result State Refused} (λ z. Ok (with_forest z (record (image f second s) { made = s.made + count }))) k.0, record { next = k.1; within = within })
      passed (word ∷ words) other e h = (refl, tt)

      by : (other : Forest) → y ≡ Ok other → (s.made + count ≤ p.made → (other ≡ forest_image (s.made + count) forest) × (forest.next ≡ first + (s.made + count)))
          → GoesAt p f first second (λ t. grown_to (grown p count (Ok forest) t)) (λ t. grown_to (grown p count y t)) s
      by other e h = let k = passed (over_made p (s.made + count)) other refl h in record { is = ap (λ z. grown_to (grown p count z (image f second s))) e ∙ k.0; counts = k.1 }

  grows-unless : (made : ℕ) (o other_o : Option TreeFault) (forest other : Forest) → other_o ≡ o
      → (made ≤ p.made → (other ≡ forest_image made forest) × (forest.next ≡ first + made)) → GrowsTo made (unless o forest) (unless other_o other)
  grows-unless made None o forest other e h = record {
    faults = λ fault q. cc;
    forests = λ x q. let same : forest ≡ x = cc in
        (other, ap (λ z. unless z other) e, λ w. subst (λ (z : Forest). (other ≡ forest_image made z) × (z.next ≡ first + made)) same (h w));
  }
  grows-unless made (Some fault) o forest other e h = record {
    faults = λ x q. let same : fault ≡ x = cc in ap (λ z. unless z other) e ∙ ap Err same;
    forests = λ x q. cc;
  }

  plus : (a b c : ℕ) → (a + b) + c ≡ a + (b + c)
  plus a b c = omega arith

  next-goes : (s : State) → Counts p first s → f s.forest.next ≡ second + s.made
  next-goes s c = ap f c.next ∙ r.continues s.made c.within

  -- ---- a text

  abbrev other_forest : State → Forest
  other_forest s = record { nodes = map (renumbered f) s.forest.nodes; next = second + s.made }

  one-goes : (a b : ℕ) (text : List ℕ) → f a ≡ b → one_text b text ≡ map (renumbered f) (one_text a text)
  one-goes a b [] e = refl
  one-goes a b (c ∷ cs) e = ap (λ k. one_text k (c ∷ cs)) (sym e)

  new-goes : (n : ℕ) (text : List ℕ) (s : State) → Counts p first s → new_texts (f n) text (other_forest s) ≡ map (renumbered f) (new_texts n text s.forest)
  new-goes n text s c =
      ap (λ b. if b then [] else one_text (second + s.made) text) (is_attribute_at-renumbered f r.renumbers n s.forest.nodes) ∙ by (is_attribute_at n s.forest.nodes)
    where
      by : (b : Bool) → ◌≡◌ {A = List Node} (if b then [] else one_text (second + s.made) text) (map (renumbered f) (if b then [] else one_text s.forest.next text))
      by true = refl
      by false = one-goes s.forest.next (second + s.made) text (next-goes s c)

  text-nodes : (n : ℕ) (text : List ℕ) (s : State) → Counts p first s → (with_text (f n) text (other_forest s)).nodes ≡ map (renumbered f) (with_text n text s.forest).nodes
  text-nodes n text s c =
      let xs = s.forest.nodes in
      ap (λ b. if b then with_attribute_text (f n) text (map (renumbered f) xs) else with_texts (f n) (new_texts (f n) text (other_forest s)) (map (renumbered f) xs)) (is_attribute_at-renumbered f r.renumbers n xs)
      ∙ ap (λ ts. if is_attribute_at n xs then with_attribute_text (f n) text (map (renumbered f) xs) else with_texts (f n) ts (map (renumbered f) xs)) (new-goes n text s c)
      ∙ by (is_attribute_at n xs)
    where
      by : (b : Bool) → ◌≡◌ {A = List Node} (if b then with_attribute_text (f n) text (map (renumbered f) s.forest.nodes) else with_texts (f n) (map (renumbered f) (new_texts n text s.forest)) (map (renumbered f) s.forest.nodes))
          (map (renumbered f) (if b then with_attribute_text n text s.forest.nodes else with_texts n (new_texts n text s.forest) s.forest.nodes))
      by true = attribute_text-renumbered f r.renumbers n text s.forest.nodes
      by false = with_texts-renumbered f r.renumbers n (new_texts n text s.forest) s.forest.nodes

  new-length : (n : ℕ) (text : List ℕ) (s : State) → Counts p first s → length (new_texts (f n) text (other_forest s)) ≡ length (new_texts n text s.forest)
  new-length n text s c = ap length (new-goes n text s c) ∙ map-length (renumbered f) (new_texts n text s.forest)

  text-goes : (n : ℕ) (text : List ℕ) → Goes p f first second (set_text p n text) (set_text p (f n) text)
  text-goes n text s c =
      let l = p.bounds.limits in
      let count = length (new_texts n text s.forest) in
      let after = with_text n text s.forest in
      let after_other = with_text (f n) text (other_forest s) in
      let b = is_other_text s n text in
      let change : Model → Model = λ m. texts_due (if_other b (with_text_mark n) m) in
      let other_change : Bool → Model → Model = λ d m. texts_due (if_other d (with_text_mark (f n)) m) in
      let marked = in_some_model change (model_holding s n) s in
      let x = unless (passed_by_text l (length text) after.nodes) after in
      let y = unless (passed_by_text l (length text) after_other.nodes) after_other in
      let passed : passed_by_text l (length text) after_other.nodes ≡ passed_by_text l (length text) after.nodes =
      ap (passed_by_text l (length text)) (text-nodes n text s c) ∙ text-passed l f r.renumbers (length text) after.nodes in
      let grows : GrowsTo (s.made + count) x y = grows-unless (s.made + count) (passed_by_text l (length text) after.nodes) (passed_by_text l (length text) after_other.nodes) after after_other passed
      (λ w. (
        ap (λ ns. record { nodes = ns; next = (second + s.made) + length (new_texts (f n) text (other_forest s)) }) (text-nodes n text s c)
            ∙ ap (λ k. record { nodes = map (renumbered f) after.nodes; next = k }) (ap (λ k. (second + s.made) + k) (new-length n text s c) ∙ plus second s.made count),
        ap (λ k. k + count) c.next ∙ plus first s.made count,
      )) in
      let made : s.made ≡ marked.made = sym (some-made change (model_holding s n) s) in
      let g = grown-goes count x y marked (subst (λ (k : ℕ). GrowsTo (k + count) x y) made grows) in
      record {
        is = ap (λ k. grown_to (grown p k y (in_some_model (other_change (is_other_text (image f second s) (f n) text)) (model_holding (image f second s) (f n)) (image f second s)))) (new-length n text s c)
            ∙ ap (λ d. grown_to (grown p count y (in_some_model (other_change d) (model_holding (image f second s) (f n)) (image f second s)))) (other-goes f r.renumbers second s n text)
            ∙ ap (λ o. grown_to (grown p count y (in_some_model (other_change b) o (image f second s)))) (model-goes f r.renumbers second s n)
            ∙ ap (λ u. grown_to (grown p count y u)) (some-goes change (other_change b) (model_holding s n) (texts-marked b n) s)
            ∙ g.is;
        counts = g.counts;
      }

  -- ---- trees

  attached-next : (n parent place : ℕ) (s : State) (forest : Forest) → attached p.bounds.limits n parent place s.forest ≡ Ok forest → forest.next ≡ s.forest.next
  attached-next n parent place s forest e =
      let deep = is_too_deep p.bounds.limits.depth (elements_above parent (all_in s)) (tree_of n s.forest.nodes) in
      let at = place_of parent place (all_in s) (content_at n s.forest.nodes) in
      by (if deep then Some Depth else None) (placed n parent at s.forest).nodes e
    where
      by : (o : Option TreeFault) (x : List Node) → unless o (record { nodes = x; next = s.forest.next }) ≡ Ok forest → forest.next ≡ s.forest.next
      by None x q = let same : record { nodes = x; next = s.forest.next } ≡ forest = cc in ap (λ (z : Forest). z.next) (sym same)
      by (Some fault) x q = cc

  attach-goes : (n parent place : ℕ) → Goes p f first second (attach p n parent place) (attach p (f n) (f parent) place)
  attach-goes n parent place s c =
      let l = p.bounds.limits in
      let x = attached l n parent place s.forest in
      let y = attached l (f n) (f parent) place (other_forest s) in
      let marked = list_changed (Some parent) s in
      let is : y ≡ result_map (renumbered_forest f (second + s.made)) x = attached-renumbered f r.renumbers l n parent place (second + s.made) s.forest in
      let grows : GrowsTo (s.made + 0) x y = record {
        faults = λ fault q. is ∙ ap (result_map (renumbered_forest f (second + s.made))) q;
        forests = λ forest q. (
          renumbered_forest f (second + s.made) forest,
          is ∙ ap (result_map (renumbered_forest f (second + s.made))) q,
          λ w. (ap (λ k. record { nodes = map (renumbered f) forest.nodes; next = second + k }) (plus-none s.made), attached-next n parent place s forest q ∙ c.next ∙ ap (λ k. first + k) (plus-none s.made)),
        );
      } in
      let g = grown-goes 0 x y marked (subst (λ (k : ℕ). GrowsTo (k + 0) x y) (sym (list-made (Some parent) s)) grows) in
      record { is = ap (λ u. grown_to (grown p 0 y u)) (list-goes (Some parent) s) ∙ g.is; counts = g.counts }

  detach-goes : (n : ℕ) → Goes p f first second (λ s. Ok (detach n s)) (λ s. Ok (detach (f n) s))
  detach-goes n s c =
      let o = parent_of n (all_in s) in
      let after = detached n s.forest in
      let parents : parent_of (f n) (visits (map (renumbered f) s.forest.nodes)) ≡ option_map f o =
      ap (parent_of (f n)) (visits-renumbered f r.renumbers s.forest.nodes) ∙ parent_of-renumbered f r.renumbers n (all_in s) in
      record {
        is = ap (λ x. Ok (with_forest x (list_changed (parent_of (f n) (visits (map (renumbered f) s.forest.nodes))) (image f second s)))) (detached-renumbered f r.renumbers n (second + s.made) s.forest)
            ∙ ap (λ q. Ok (with_forest (renumbered_forest f (second + s.made) after) (list_changed q (image f second s)))) parents
            ∙ ap (λ u. Ok (with_forest (renumbered_forest f (second + s.made) after) u)) (list-goes o s)
            ∙ ap (λ k. Ok (with_forest (renumbered_forest f (second + k) after) (image f second (list_changed o s)))) (sym (list-made o s));
        counts = record { next = c.next ∙ ap (λ k. first + k) (sym (list-made o s)); within = subst (λ k. k ≤ p.made) (sym (list-made o s)) c.within };
      }

  -- ---- new trees

  record MakesTo (made : ℕ) (x y : Result (ℕ × Forest) TreeFault) : Type 0 where
    pub faults : (fault : TreeFault) → x ≡ Err fault → y ≡ Err fault
    pub forests : (one : ℕ × Forest) → x ≡ Ok one
        → (other : ℕ × Forest) × (y ≡ Ok other) × (made ≤ p.made → (other ≡ (f one.0, forest_image made one.1)) × (one.1.next ≡ first + made))

  abbrev made_by : ℕ → Result (ℕ × Forest) TreeFault → State → Result (ℕ × State) Refused
  made_by count x s = grown_by (grown p count x s)

  made-goes : (count : ℕ) (x y : Result (ℕ × Forest) TreeFault) (s : State) → MakesTo (s.made + count) x y → MakesAt p f first second (made_by count x) (made_by count y) s
  made-goes count (Err fault) y s g = record { is = ap (λ z. made_by count z (image f second s)) (g.faults fault refl); counts = tt }
  made-goes count (Ok one) y s g = let there = g.forests one refl in by there.0 there.1 there.2
    where
      passed : (words : List LimitWord) (other : ℕ × Forest) → over_made p (s.made + count) ≡ words
          → (s.made + count ≤ p.made → (other ≡ (f one.0, forest_image (s.made + count) one.1)) × (one.1.next ≡ first + (s.made + count)))
          → (grown_by (unless_passed (image f second s) words (other, record (image f second s) { made = s.made + count })) ≡ imaged_top f second (grown_by (unless_passed s words (one, record s { made = s.made + count }))))
          × CountsTop p first (grown_by (unless_passed s words (one, record s { made = s.made + count })))
      passed [] other e h =
          let within : s.made + count ≤ p.made = within-made p (s.made + count) e in
          let k = h within in
          (ap {A = ℕ × Forest} {B = Result (ℕ × State) Refused} (λ z. Ok (z.0, with_forest z.1 (record (image f second s) { made = s.made + count }))) k.0, record { next = k.1; within = within })
      passed (word ∷ words) other e h = (refl, tt)

      by : (other : ℕ × Forest) → y ≡ Ok other → (s.made + count ≤ p.made → (other ≡ (f one.0, forest_image (s.made + count) one.1)) × (one.1.next ≡ first + (s.made + count)))
          → MakesAt p f first second (made_by count (Ok one)) (made_by count y) s
      by other e h = let k = passed (over_made p (s.made + count)) other refl h in record { is = ap (λ z. made_by count z (image f second s)) e ∙ k.0; counts = k.1 }

  makes-unless : (made : ℕ) (o other_o : Option TreeFault) (one other : ℕ × Forest) → other_o ≡ o
      → (made ≤ p.made → (other ≡ (f one.0, forest_image made one.1)) × (one.1.next ≡ first + made)) → MakesTo made (unless o one) (unless other_o other)
  makes-unless made None o one other e h = record {
    faults = λ fault q. cc;
    forests = λ x q. let same : one ≡ x = cc in
        (other, ap (λ z. unless z other) e, λ w. subst (λ (z : ℕ × Forest). (other ≡ (f z.0, forest_image made z.1)) × (z.1.next ≡ first + made)) same (h w));
  }
  makes-unless made (Some fault) o one other e h = record {
    faults = λ x q. let same : fault ≡ x = cc in ap (λ z. unless z other) e ∙ ap Err same;
    forests = λ x q. cc;
  }

  -- trees of so many nodes behind all others
  abbrev grown_forest : ℕ → ℕ → List Node → List (ℕ × Content) → ℕ × Forest
  grown_forest next count xs contents = (next, record { nodes = xs ++ numbered_from next contents; next = next + count })

  forest-grown : (s : State) (contents : List (ℕ × Content)) → Counts p first s → s.made + length contents ≤ p.made
      → grown_forest (second + s.made) (length contents) (map (renumbered f) s.forest.nodes) contents
      ≡ (f s.forest.next, forest_image (s.made + length contents) (grown_forest s.forest.next (length contents) s.forest.nodes contents).1)
  forest-grown s contents c w =
      let xs = s.forest.nodes in
      let count = length contents in
      ap (λ ns. (second + s.made, record { nodes = ns; next = (second + s.made) + count }))
      (ap (λ l. map (renumbered f) xs ++ l) (sym (numbered-renumbered f s.forest.next (second + s.made) contents go_on)) ∙ sym (map-append (renumbered f) xs (numbered_from s.forest.next contents)))
      ∙ ap (λ k. (second + s.made, record { nodes = map (renumbered f) (xs ++ numbered_from s.forest.next contents); next = k })) (plus second s.made count)
      ∙ ap (λ k. (k, record { nodes = map (renumbered f) (xs ++ numbered_from s.forest.next contents); next = second + (s.made + count) })) (sym (next-goes s c))
    where
      go_on : Continues f s.forest.next (second + s.made) (length contents)
      go_on k less =
          let within : s.made + k ≤ p.made = omega (arith, less, w) in
          ap (λ n. f (n + k)) c.next ∙ ap f (plus first s.made k) ∙ r.continues (s.made + k) within ∙ sym (plus second s.made k)

  next-grown : (s : State) (count : ℕ) → Counts p first s → s.forest.next + count ≡ first + (s.made + count)
  next-grown s count c = ap (λ k. k + count) c.next ∙ plus first s.made count

  plant-goes : (contents : List (ℕ × Content)) → Makes p f first second (plant p contents) (plant p contents)
  plant-goes contents s c =
      let l = p.bounds.limits in
      let xs = s.forest.nodes in
      let count = length contents in
      let tree = numbered_from s.forest.next contents in
      let other_tree = numbered_from (second + s.made) contents in
      let g = made-goes count (with_tree l contents s.forest) (with_tree l contents (other_forest s)) s
      (makes-unless (s.made + count) (passed_by_tree l tree (xs ++ tree)) (passed_by_tree l other_tree (map (renumbered f) xs ++ other_tree))
      (grown_forest s.forest.next count xs contents) (grown_forest (second + s.made) count (map (renumbered f) xs) contents)
      (tree-behind l f s.forest.next (second + s.made) contents xs) (λ w. (forest-grown s contents c w, next-grown s count c))) in
      record { is = g.is; counts = g.counts }

  entries-length : (xs : List Node) → length (contents_in xs) ≡ length xs
  entries-length [] = refl
  entries-length (x ∷ xs) = map-length (λ (y : Node). (y.depth, y.content)) (moved_to 0 (x ∷ xs)) ∙ map-length (shifted x.depth 0) (x ∷ xs)

  copy-goes : (n : ℕ) → Makes p f first second (copy p n) (copy p (f n))
  copy-goes n s c =
      let l = p.bounds.limits in
      let xs = s.forest.nodes in
      let tree = tree_of n xs in
      let count = length tree in
      let contents = contents_in tree in
      let is_count : length contents ≡ count = entries-length tree in
      let trees : tree_of (f n) (map (renumbered f) xs) ≡ map (renumbered f) tree = tree_of-renumbered f r.renumbers n xs in
      let other_count : length (tree_of (f n) (map (renumbered f) xs)) ≡ count = ap length trees ∙ map-length (renumbered f) tree in
      let other_contents : contents_in (tree_of (f n) (map (renumbered f) xs)) ≡ contents = ap contents_in trees ∙ contents-renumbered f r.renumbers tree in
      let x = copied l n s.forest in
      let y = unless (passed_by_all l (map (renumbered f) xs ++ numbered_from (second + s.made) contents)) (grown_forest (second + s.made) count (map (renumbered f) xs) contents) in
      let is_y : copied l (f n) (other_forest s) ≡ y =
      ap (λ cs. unless (passed_by_all l (map (renumbered f) xs ++ numbered_from (second + s.made) cs)) (grown_forest (second + s.made) (length (tree_of (f n) (map (renumbered f) xs))) (map (renumbered f) xs) cs)) other_contents
      ∙ ap (λ k. unless (passed_by_all l (map (renumbered f) xs ++ numbered_from (second + s.made) contents)) (grown_forest (second + s.made) k (map (renumbered f) xs) contents)) other_count in
      let grows : MakesTo (s.made + count) x y =
      makes-unless (s.made + count) (passed_by_all l (xs ++ numbered_from s.forest.next contents)) (passed_by_all l (map (renumbered f) xs ++ numbered_from (second + s.made) contents))
      (grown_forest s.forest.next count xs contents) (grown_forest (second + s.made) count (map (renumbered f) xs) contents)
      (all-behind l f s.forest.next (second + s.made) contents xs)
      (λ w. (
        subst (λ (k : ℕ). grown_forest (second + s.made) k (map (renumbered f) xs) contents ≡ (f s.forest.next, forest_image (s.made + k) (grown_forest s.forest.next k xs contents).1)) is_count
            (forest-grown s contents c (subst (λ k. s.made + k ≤ p.made) (sym is_count) w)),
        next-grown s count c,
      )) in
      let g = made-goes count x y s grows in
      record {
        is = ap (λ k. made_by k (copied l (f n) (other_forest s)) (image f second s)) other_count ∙ ap (λ z. made_by count z (image f second s)) is_y ∙ g.is;
        counts = g.counts;
      }

  -- ---- all of them

  pub going_laws : GoingLaws p f first second
  going_laws = record {
    spend = spend-goes;
    add_note = note-goes;
    set_case = λ switch place s c. record { is = refl; counts = record { next = c.next; within = c.within } };
    indexes = λ indexes s c. record { is = refl; counts = record { next = c.next; within = c.within } };
    refresh_due = λ model. model-changed refresh_due refresh_due model (λ m. refl);
    texts_due = λ model. model-changed texts_due texts_due model (λ m. refl);
    set_text = text-goes;
    copy = copy-goes;
    plant = plant-goes;
    attach = attach-goes;
    detach = detach-goes;
  }

pub changes_go : ChangesGo
changes_go = record {
  images = images_same;
  same = same_images;
  extends = extends;
  goes = λ p f first second r. going_laws p f first second r;
}
