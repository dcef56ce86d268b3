-- A recalculation goes with a renumbering: settled texts with the numbers that are reserved for them, values, limits, and what is counted.
use Rattle.std.proofs.Common.{◌≡◌, ℕ, zero, suc, ◌+◌, Bool, true, false, ◌&&◌, List, [], ◌∷◌, ◌++◌, map, filter, length, bytes_eq, Option, Some, None, option_map, Result, Ok, refl, sym, ap, ◌∙◌, subst, if◌then◌else◌, arith}
use Rattle.std.specs.Prelude.{◌≤◌}
use Rattle.xf_def_forest.specs.declared.content.Node.{Node}
use Rattle.xf_def_forest.specs.Forest.{is_text, own_text, tree_of}
use Rattle.xf_def_forest.specs.Shape.{shape, as_texts}
use Rattle.xf_def_forest.specs.Same.{IsRenumbering, renumbered, renumbered_visit}
use Rattle.xf_def_forest.specs.Settle.{are_texts, has_text, with_numbered_text, with_settled_text}
use Rattle.xf_def_forest.specs.Texts.{one_text, with_texts, with_attribute_text, is_attribute_at, texts_in, value_in}
use Rattle.xf_def_forest.specs.Visit.{Visit, visits}
use Rattle.xf_def_forest.proofs.RenumberLaws.{filter-through, visits-renumbered}
use Rattle.xf_def_forest.proofs.RenumberChanges.{tree_of-renumbered}
use Rattle.xf_def_forest.proofs.RenumberTexts.{Continues, with_texts-renumbered, attribute_text-renumbered, is_attribute_at-renumbered, shape-renumbered}
use Rattle.xf_def_xpath.specs.declared.value.Value.{Value}
use Rattle.xf_def_xpath.specs.declared.value.Value.TheVariants.{Truth}
use Rattle.xf_def_xpath.specs.Conversions.{truth_of}
use Rattle.xf_def_xpath.specs.Same.{renumbered_value}
use Rattle.xf_def_xpath.proofs.RenumberLaws.{truth-renumbered}
use Rattle.xf_def_model.specs.Applied.{Entry, is_calculate}
use Rattle.xf_def_model.specs.Entries.{is_computed, value_of}
use Rattle.xf_def_model.specs.Pertinent.{Changes, pertinent_count}
use Rattle.xf_def_model.specs.Rules.{Scope}
use Rattle.xf_def_model.specs.Same.{renumbered_entry, renumbered_scope, renumbered_valued, renumbered_contents, renumbered_passed, renumbered_changes}
use Rattle.xf_def_model.specs.Settled.{Bounds, Contents, Valued, Passed, long, text, nodes, all_texts, calculates, content_by, holding, round, rounds, settled_contents, values_over, passed}
use Rattle.xf_def_model.proofs.RenumberEntries.{ScopeGoes, value-renumbered}
use Rattle.xf_def_model.proofs.RenumberPertinent.{count-renumbered}
use Rattle.xf_def_model.proofs.RenumberSettled.{contents-renumbered, passed-renumbered}
use Rattle.xf_def_machine.specs.declared.limit.LimitWord.{LimitWord}
use Rattle.xf_def_machine.specs.Profile.{Profile}
use Rattle.xf_def_machine.specs.State.{Model, State}
use Rattle.xf_def_machine.specs.Refusal.{Refused, word_of, unless_passed}
use Rattle.xf_def_machine.specs.Flow.{◌>>=◌}
use Rattle.xf_def_machine.specs.Surround.{bind_scope, all_in}
use Rattle.xf_def_machine.specs.Primitives.{changed_at, in_model, over_made}
use Rattle.xf_def_machine.specs.Behave.{model_at, changes_of, with_contents, truly, recalculated_with, settled_in, evaluated_more, recalculate}
use Rattle.xf_def_machine.specs.Same.{renumbered_model}
use Rattle.xf_law_sessions.specs.Same.Going.{Runs, image, Counts, imaged, CountsAfter}
use Rattle.xf_law_sessions.specs.Same.Behaving.{HasTables, Behaves}
use Rattle.xf_law_sessions.proofs.SameLemmas.ForestGoes.{map-length}
use Rattle.xf_law_sessions.proofs.SameLemmas.ScopeGoes.{bind_scope-is, rules-go, model-at}
use Rattle.xf_law_sessions.proofs.SameLemmas.GoingLaws.{within-made}

-- ---- texts that are settled

same-texts : (f : ℕ → ℕ) (ts : List (List ℕ)) (xs : List Node) → are_texts ts (map (renumbered f) xs) ≡ are_texts ts xs
same-texts f [] [] = refl
same-texts f [] (x ∷ xs) = refl
same-texts f (t ∷ ts) [] = refl
same-texts f (t ∷ ts) (x ∷ xs) = ap (λ b. bytes_eq (own_text x.content) t && b) (same-texts f ts xs)

same-value : (f : ℕ → ℕ) (xs : List Node) → value_in (map (renumbered f) xs) ≡ value_in xs
same-value f [] = refl
same-value f (x ∷ xs) = refl

module _ (f : ℕ → ℕ) (same : IsRenumbering f) where
  has-goes : (n : ℕ) (t : List ℕ) (xs : List Node) → has_text (f n) t (map (renumbered f) xs) ≡ has_text n t xs
  has-goes n t xs =
      let tree = tree_of n xs in
      rw (
        is_attribute_at-renumbered f same n xs,
        tree_of-renumbered f same n xs,
        same-value f tree,
        filter-through (renumbered f) (λ x. is_text x.content) (λ x. is_text x.content) (λ x. refl) tree,
        same-texts f (as_texts t) (texts_in tree),
      ) refl

  one-goes : (a b : ℕ) (t : List ℕ) → f a ≡ b → one_text b t ≡ map (renumbered f) (one_text a t)
  one-goes a b [] e = refl
  one-goes a b (c ∷ cs) e = ap (λ k. one_text k (c ∷ cs)) (sym e)

  numbered-goes : (a b n : ℕ) (t : List ℕ) (xs : List Node) → f a ≡ b → with_numbered_text b (f n) t (map (renumbered f) xs) ≡ map (renumbered f) (with_numbered_text a n t xs)
  numbered-goes a b n t xs e =
      ap (λ d. if d then with_attribute_text (f n) t (map (renumbered f) xs) else with_texts (f n) (one_text b t) (map (renumbered f) xs)) (is_attribute_at-renumbered f same n xs)
      ∙ by (is_attribute_at n xs)
    where
      by : (d : Bool) → ◌≡◌ {A = List Node} (if d then with_attribute_text (f n) t (map (renumbered f) xs) else with_texts (f n) (one_text b t) (map (renumbered f) xs))
          (map (renumbered f) (if d then with_attribute_text n t xs else with_texts n (one_text a t) xs))
      by true = attribute_text-renumbered f same n t xs
      by false = ap (λ ts. with_texts (f n) ts (map (renumbered f) xs)) (one-goes a b t e) ∙ with_texts-renumbered f same n (one_text a t) xs

  settled-goes : (a b n : ℕ) (t : List ℕ) (xs : List Node) → f a ≡ b → with_settled_text b (f n) t (map (renumbered f) xs) ≡ map (renumbered f) (with_settled_text a n t xs)
  settled-goes a b n t xs e =
      ap (λ d. if d then map (renumbered f) xs else with_numbered_text b (f n) t (map (renumbered f) xs)) (has-goes n t xs) ∙ by (has_text n t xs)
    where
      by : (d : Bool) → ◌≡◌ {A = List Node} (if d then map (renumbered f) xs else with_numbered_text b (f n) t (map (renumbered f) xs)) (map (renumbered f) (if d then xs else with_numbered_text a n t xs))
      by true = refl
      by false = numbered-goes a b n t xs e

  pub written-goes : (a b : ℕ) (contents : Contents) (xs : List Node) → Continues f a b (length contents)
      → with_contents b (renumbered_contents f contents) (map (renumbered f) xs) ≡ map (renumbered f) (with_contents a contents xs)
  written-goes a b [] xs h = refl
  written-goes a b ((n, t) ∷ rest) xs h =
      ap (with_contents (suc b) (renumbered_contents f rest)) (settled-goes a b n t xs (plain a ∙ h 0 (omega arith) ∙ back b))
      ∙ written-goes (suc a) (suc b) rest (with_settled_text a n t xs) (λ k less. ap f (later a k) ∙ h (suc k) (omega (arith, less)) ∙ sym (later b k))
    where
      plain : (m : ℕ) → f m ≡ f (m + 0)
      plain m = let e : m ≡ m + 0 = omega arith in ap f e

      back : (m : ℕ) → m + 0 ≡ m
      back m = omega arith

      later : (m k : ℕ) → suc m + k ≡ m + suc k
      later m k = omega arith

-- ---- how many contents are settled

computed-length : (b : Bounds) (sc : Scope) (all : List Visit) (es : List Entry) → length (map (content_by b sc all) es) ≡ length es
computed-length b sc all es = map-length (content_by b sc all) es

rounds-length : (b : Bounds) (sc : Scope) (entries : List Entry) (all : List Visit) (k : ℕ) (contents : Contents)
    → (k ≡ 0 → length contents ≡ length (calculates entries)) → length (rounds b sc entries all k contents) ≡ length (calculates entries)
rounds-length b sc entries all zero contents h = h refl
rounds-length b sc entries all (suc k) contents h =
    rounds-length b sc entries all k (round b sc entries all contents) (λ e. computed-length b sc (holding all contents) (calculates entries))

contents-length : (b : Bounds) (sc : Scope) (entries : List Entry) (all : List Visit) → length (settled_contents b sc entries all) ≡ length (calculates entries)
contents-length b sc entries all = rounds-length b sc entries all (length (calculates entries)) [] (λ e. sym e)

-- ---- values, changes and words

truly-goes : (f : ℕ → ℕ) (v : Valued) → truly (renumbered_valued f v) ≡ renumbered_valued f (truly v)
truly-goes f v = ap {A = Option Value} {B = Valued} (λ o. record { entry = renumbered_entry f v.entry; value = o }) (by v.value)
  where
    by : (o : Option Value) → option_map (λ value. Truth (truth_of value)) (option_map (renumbered_value f) o) ≡ option_map (renumbered_value f) (option_map (λ value. Truth (truth_of value)) o)
    by None = refl
    by (Some v) = ap (λ b. Some (Truth b)) (truth-renumbered f v)

pub each-truly : (f : ℕ → ℕ) (vs : List Valued) → map truly (map (renumbered_valued f) vs) ≡ map (renumbered_valued f) (map truly vs)
each-truly f [] = refl
each-truly f (v ∷ vs) = ap (λ x. x ∷ map truly (map (renumbered_valued f) vs)) (truly-goes f v) ∙ ap (λ l. renumbered_valued f (truly v) ∷ l) (each-truly f vs)

stood-goes : (f : ℕ → ℕ) (vs : List Valued) → map (λ (v : Valued). v.entry) (map (renumbered_valued f) vs) ≡ map (renumbered_entry f) (map (λ (v : Valued). v.entry) vs)
stood-goes f [] = refl
stood-goes f (v ∷ vs) = ap (λ l. renumbered_entry f v.entry ∷ l) (stood-goes f vs)

word-goes : (f : ℕ → ℕ) (w : Passed) → word_of (renumbered_passed f w) ≡ word_of w
word-goes f (long n) = refl
word-goes f text = refl
word-goes f nodes = refl
word-goes f all_texts = refl

words-go : (f : ℕ → ℕ) (ws : List Passed) → map word_of (map (renumbered_passed f) ws) ≡ map word_of ws
words-go f [] = refl
words-go f (w ∷ ws) = ap (λ x. x ∷ map word_of (map (renumbered_passed f) ws)) (word-goes f w) ∙ ap (λ l. word_of w ∷ l) (words-go f ws)

pub values-go : (f : ℕ → ℕ) (same : IsRenumbering f) (b : Bounds) (sc : Scope) → ScopeGoes f sc → (entries : List Entry) (all : List Visit)
    → values_over b (renumbered_scope f sc) (map (renumbered_entry f) entries) (map (renumbered_visit f) all) ≡ map (renumbered_valued f) (values_over b sc entries all)
values-go f same b sc goes entries all =
    ap (map (λ (e : Entry). record { entry = e; value = value_of (Some b.string) (renumbered_scope f sc) (map (renumbered_visit f) all) e }))
    (filter-through (renumbered_entry f) is_computed is_computed (λ e. refl) entries) ∙ each (filter is_computed entries)
  where
    each : (es : List Entry) → map (λ (e : Entry). record { entry = e; value = value_of (Some b.string) (renumbered_scope f sc) (map (renumbered_visit f) all) e }) (map (renumbered_entry f) es)
        ≡ map (renumbered_valued f) (map (λ (e : Entry). record { entry = e; value = value_of (Some b.string) sc all e }) es)
    each [] = refl
    each (e ∷ es) =
        ap {A = Option Value} {B = List Valued}
        (λ v. record { entry = renumbered_entry f e; value = v } ∷ map (λ (x : Entry). record { entry = x; value = value_of (Some b.string) (renumbered_scope f sc) (map (renumbered_visit f) all) x }) (map (renumbered_entry f) es))
        (value-renumbered f same sc goes all (Some b.string) e)
        ∙ ap {A = List Valued} {B = List Valued} (λ l. record { entry = renumbered_entry f e; value = option_map (renumbered_value f) (value_of (Some b.string) sc all e) } ∷ l) (each es)

no-words : (ws vs : List LimitWord) → ws ++ vs ≡ [] → vs ≡ []
no-words [] vs e = e
no-words (w ∷ ws) vs e = cc

-- ---- the recalculation of a model that is known

abbrev recalculated : Profile → ℕ → Model → State → Result State Refused
recalculated p model m s =
    let made = length (calculates m.entries) in
    let count = pertinent_count (bind_scope p s model) (shape (all_in s)) m.entries (changes_of m) in
    unless_passed s (map word_of (passed p.bounds (bind_scope p s model) m.entries (all_in s)) ++ over_made p (s.made + made)) s
    >>= λ t. Ok (evaluated_more made count (settled_in p model m.entries (settled_contents p.bounds (bind_scope p s model) m.entries (all_in s)) t))

module _ (p : Profile) (f : ℕ → ℕ) (first second : ℕ) (r : Runs p f first second) (model : ℕ) where
  plus : (a b c : ℕ) → (a + b) + c ≡ a + (b + c)
  plus a b c = omega arith

  continued : (s : State) (count : ℕ) → Counts p first s → s.made + count ≤ p.made → Continues f s.forest.next (second + s.made) count
  continued s count c w k less =
      let within : s.made + k ≤ p.made = omega (arith, less, w) in
      ap (λ n. f (n + k)) c.next ∙ ap f (plus first s.made k) ∙ r.continues (s.made + k) within ∙ sym (plus second s.made k)

  -- the state that a recalculation leaves, its parts as they are
  abbrev left_with : State → ℕ → List Node → List Valued → ℕ → ℕ → State
  left_with s next ns values made count =
      evaluated_more made count (in_model (recalculated_with values) model (record s { forest = record { nodes = ns; next = next } }))

  left-goes : (s : State) (next : ℕ) (ns : List Node) (values : List Valued) (made count : ℕ)
      → left_with (image f second s) (second + (s.made + made)) (map (renumbered f) ns) (map (renumbered_valued f) values) made count
      ≡ image f second (left_with s next ns values made count)
  left-goes s next ns values made count =
      ap {A = List Model} {B = State} (λ ms. record (image f second (left_with s next ns values made count)) { models = ms })
      (changed (recalculated_with values) (recalculated_with (map (renumbered_valued f) values)) (λ m. goes m) model s.models)
    where
      goes : (m : Model) → recalculated_with (map (renumbered_valued f) values) (renumbered_model f m) ≡ renumbered_model f (recalculated_with values m)
      goes m = ap {A = List Valued} {B = Model} (λ vs. record (renumbered_model f (recalculated_with values m)) { stood = vs }) (each-truly f values)

      changed : (change other : Model → Model) → ((m : Model) → other (renumbered_model f m) ≡ renumbered_model f (change m)) → (k : ℕ) (ms : List Model)
          → changed_at k other (map (renumbered_model f) ms) ≡ map (renumbered_model f) (changed_at k change ms)
      changed change other e k [] = refl
      changed change other e zero (m ∷ ms) = ap (λ x. x ∷ map (renumbered_model f) ms) (e m)
      changed change other e (suc k) (m ∷ ms) = ap (λ xs. renumbered_model f m ∷ xs) (changed change other e k ms)

  -- where no limit is passed
  settled-state : (s : State) (m : Model) → HasTables s.form → Counts p first s → s.made + length (calculates m.entries) ≤ p.made → (count : ℕ)
      → evaluated_more (length (calculates m.entries)) count
      (settled_in p model (map (renumbered_entry f) m.entries) (renumbered_contents f (settled_contents p.bounds (bind_scope p s model) m.entries (all_in s))) (image f second s))
      ≡ image f second (evaluated_more (length (calculates m.entries)) count (settled_in p model m.entries (settled_contents p.bounds (bind_scope p s model) m.entries (all_in s)) s))
  settled-state s m tables c w count =
      let t = image f second s in
      let sc = bind_scope p s model in
      let made = length (calculates m.entries) in
      let entries = map (renumbered_entry f) m.entries in
      let contents = settled_contents p.bounds sc m.entries (all_in s) in
      let others = renumbered_contents f contents in
      let ns = with_contents s.forest.next contents s.forest.nodes in
      let size : length contents ≡ made = contents-length p.bounds sc m.entries (all_in s) in
      let written : with_contents (second + s.made) others (map (renumbered f) s.forest.nodes) ≡ map (renumbered f) ns =
      written-goes f r.renumbers s.forest.next (second + s.made) contents s.forest.nodes (subst (λ k. Continues f s.forest.next (second + s.made) k) (sym size) (continued s made c w)) in
      let values : values_over p.bounds (bind_scope p t model) entries (visits (map (renumbered f) ns)) ≡ map (renumbered_valued f) (values_over p.bounds sc m.entries (visits ns)) =
      ap (λ x. values_over p.bounds x entries (visits (map (renumbered f) ns))) (bind_scope-is f r.renumbers second s p model)
      ∙ ap (values_over p.bounds (renumbered_scope f sc) entries) (visits-renumbered f r.renumbers ns)
      ∙ values-go f r.renumbers p.bounds sc (rules-go p f r.renumbers s tables model) m.entries (visits ns) in
      let next : (second + s.made) + length others ≡ second + (s.made + made) =
      ap (λ k. (second + s.made) + k) (map-length (λ (x : ℕ × List ℕ). (f x.0, x.1)) contents ∙ size) ∙ plus second s.made made in
      ap (λ xs. left_with t ((second + s.made) + length others) xs (values_over p.bounds (bind_scope p t model) entries (visits xs)) made count) written
      ∙ ap (λ k. left_with t k (map (renumbered f) ns) (values_over p.bounds (bind_scope p t model) entries (visits (map (renumbered f) ns))) made count) next
      ∙ ap (λ vs. left_with t (second + (s.made + made)) (map (renumbered f) ns) vs made count) values
      ∙ left-goes s (s.forest.next + length contents) ns (values_over p.bounds sc m.entries (visits ns)) made count

  known-goes : (s : State) (m : Model) → HasTables s.form → Counts p first s → recalculated p model (renumbered_model f m) (image f second s) ≡ imaged f second (recalculated p model m s)
  known-goes s m tables c =
      let t = image f second s in
      let sc = bind_scope p s model in
      let entries = map (renumbered_entry f) m.entries in
      let all = all_in s in
      let goes = rules-go p f r.renumbers s tables model in
      let made = length (calculates m.entries) in
      let is_made : length (calculates entries) ≡ made =
      ap length (filter-through (renumbered_entry f) is_calculate is_calculate (λ e. refl) m.entries) ∙ map-length (renumbered_entry f) (calculates m.entries) in
      let seen : visits (map (renumbered f) s.forest.nodes) ≡ map (renumbered_visit f) all = visits-renumbered f r.renumbers s.forest.nodes in
      let asked : Scope → List Visit → List Visit → Changes → ℕ → Result State Refused = λ x v w changes k.
      unless_passed t (map word_of (passed p.bounds x entries v) ++ over_made p (s.made + k)) t
      >>= λ u. Ok (evaluated_more k (pertinent_count x w entries changes) (settled_in p model entries (settled_contents p.bounds x entries v) u)) in
      let others = map (renumbered_visit f) all in
      let shapes : shape others ≡ map (renumbered_visit f) (shape all) = shape-renumbered f r.renumbers r.keeps_texts all in
      let changes : changes_of (renumbered_model f m) ≡ renumbered_changes f (changes_of m) =
      ap {A = List Entry} {B = Changes} (λ es. record { texts = map f m.texts; lists = map f m.lists; stood = es }) (stood-goes f m.stood) in
      let count = pertinent_count sc (shape all) m.entries (changes_of m) in
      let contents = settled_contents p.bounds sc m.entries all in
      let last : List LimitWord → ℕ → Contents → Result State Refused = λ ws k cs. unless_passed t ws t >>= λ u. Ok (evaluated_more made k (settled_in p model entries cs u)) in
      let words = map word_of (passed p.bounds (renumbered_scope f sc) entries others) ++ over_made p (s.made + made) in
      ap (λ k. asked (bind_scope p t model) (all_in t) (shape (all_in t)) (changes_of (renumbered_model f m)) k) is_made
      ∙ ap (λ x. asked x (all_in t) (shape (all_in t)) (changes_of (renumbered_model f m)) made) (bind_scope-is f r.renumbers second s p model)
      ∙ ap (λ v. asked (renumbered_scope f sc) v (shape v) (changes_of (renumbered_model f m)) made) seen
      ∙ ap (λ w. asked (renumbered_scope f sc) others w (changes_of (renumbered_model f m)) made) shapes
      ∙ ap (λ x. asked (renumbered_scope f sc) others (map (renumbered_visit f) (shape all)) x made) changes
      ∙ ap (λ k. last words k (settled_contents p.bounds (renumbered_scope f sc) entries others)) (count-renumbered f r.renumbers (shape all) (changes_of m) sc goes m.entries)
      ∙ ap (λ cs. last words count cs) (contents-renumbered f r.renumbers r.keeps_texts p.bounds sc goes m.entries all)
      ∙ ap (λ ws. last (ws ++ over_made p (s.made + made)) count (renumbered_contents f contents))
      (ap (map word_of) (passed-renumbered f r.renumbers r.keeps_texts p.bounds sc goes m.entries all) ∙ words-go f (passed p.bounds sc m.entries all))
      ∙ by (map word_of (passed p.bounds sc m.entries all) ++ over_made p (s.made + made)) refl count
    where
      by : (words : List LimitWord) → map word_of (passed p.bounds (bind_scope p s model) m.entries (all_in s)) ++ over_made p (s.made + length (calculates m.entries)) ≡ words → (count : ℕ)
          → (unless_passed (image f second s) words (image f second s) >>= λ u. Ok (evaluated_more (length (calculates m.entries)) count
          (settled_in p model (map (renumbered_entry f) m.entries) (renumbered_contents f (settled_contents p.bounds (bind_scope p s model) m.entries (all_in s))) u)))
          ≡ imaged f second (unless_passed s words s >>= λ u. Ok (evaluated_more (length (calculates m.entries)) count (settled_in p model m.entries (settled_contents p.bounds (bind_scope p s model) m.entries (all_in s)) u)))
      by [] e count =
          let none : over_made p (s.made + length (calculates m.entries)) ≡ [] = no-words (map word_of (passed p.bounds (bind_scope p s model) m.entries (all_in s))) (over_made p (s.made + length (calculates m.entries))) e in
          ap Ok (settled-state s m tables c (within-made p (s.made + length (calculates m.entries)) none) count)
      by (word ∷ words) e count = refl

  known-counts : (s : State) (m : Model) → Counts p first s → CountsAfter p first (recalculated p model m s)
  known-counts s m c = by (map word_of (passed p.bounds (bind_scope p s model) m.entries (all_in s)) ++ over_made p (s.made + length (calculates m.entries))) refl
    where
      made : ℕ
      made = length (calculates m.entries)

      contents : Contents
      contents = settled_contents p.bounds (bind_scope p s model) m.entries (all_in s)

      by : (words : List LimitWord) → map word_of (passed p.bounds (bind_scope p s model) m.entries (all_in s)) ++ over_made p (s.made + made) ≡ words
          → CountsAfter p first (unless_passed s words s >>= λ t. Ok (evaluated_more made (pertinent_count (bind_scope p s model) (shape (all_in s)) m.entries (changes_of m)) (settled_in p model m.entries contents t)))
      by [] e =
          let none : over_made p (s.made + made) ≡ [] = no-words (map word_of (passed p.bounds (bind_scope p s model) m.entries (all_in s))) (over_made p (s.made + made)) e in
          record {
            next = ap (λ k. s.forest.next + k) (contents-length p.bounds (bind_scope p s model) m.entries (all_in s)) ∙ ap (λ k. k + made) c.next ∙ plus first s.made made;
            within = within-made p (s.made + made) none;
          }
      by (word ∷ words) e = tt

  pub recalculate-goes : Behaves p f first second (recalculate p model)
  recalculate-goes s tables c =
      let m = model_at s model in
      record {
        is = ap (λ x. recalculated p model x (image f second s)) (model-at f model s.models) ∙ known-goes s m tables c;
        counts = known-counts s m c;
      }
