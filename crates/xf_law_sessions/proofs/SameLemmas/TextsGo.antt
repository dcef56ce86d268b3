-- The text of a state, and its data, are the same whatever the numbers of nodes are.
use Rattle.std.proofs.Common.{◌≡◌, ℕ, suc, Bool, ◌&&◌, List, [], ◌∷◌, ◌++◌, map, filter, length, zip, codes, decimal, Option, Some, None, option_map, unwrap_or, refl, sym, ap, ◌∙◌, if◌then◌else◌}
use Rattle.std.specs.List.{flat_map}
use Rattle.std.proofs.lemmas.List.{map-append}
use Rattle.xf_def_forest.specs.declared.content.Content.{Content}
use Rattle.xf_def_forest.specs.declared.content.Content.TheVariants as content
use Rattle.xf_def_forest.specs.Forest.{tree_of, is_element}
use Rattle.xf_def_forest.specs.Changes.{contents_in}
use Rattle.xf_def_forest.specs.Same.{IsRenumbering, renumbered_visit}
use Rattle.xf_def_forest.specs.Shape.{has_elements}
use Rattle.xf_def_forest.specs.StringValue.{string_value}
use Rattle.xf_def_forest.specs.Visit.{Visit, first_of, is_first}
use Rattle.xf_def_forest.proofs.RenumberChanges.{tree_of-renumbered}
use Rattle.xf_def_forest.proofs.RenumberTexts.{contents-renumbered}
use Rattle.xf_def_forest.proofs.RenumberLaws.{filter-through, any-through, flat-through, first-renumbered, visits-renumbered, string_value-renumbered}
use Rattle.xf_def_ui.specs.declared.answers.Item.{Item}
use Rattle.xf_def_ui.specs.Copies.{Copy}
use Rattle.xf_def_ui.specs.Elements.{element_at, repeats_around}
use Rattle.xf_def_ui.specs.Index.{Index, number_of, index_of, rows_now}
use Rattle.xf_def_ui.specs.Interface.{Sort}
use Rattle.xf_def_ui.specs.Interface as sort
use Rattle.xf_def_ui.specs.Rows.{rows_of}
use Rattle.xf_def_machine.specs.Profile.{Profile}
use Rattle.xf_def_machine.specs.State.{State}
use Rattle.xf_def_machine.specs.Same.{renumbered_index, renumbered_copy}
use Rattle.xf_def_machine.specs.Surround.{interface, instances_in, instance_holding, all_in, quiet, document_at}
use Rattle.xf_def_machine.specs.Properties.{marks_in, path_in, pair_at, pair_text}
use Rattle.xf_def_machine.specs.Cycles.{counted_from}
use Rattle.xf_def_machine.specs.Construct.{contents_under}
use Rattle.xf_def_machine.specs.Data.{Data, data_of}
use Rattle.xf_def_machine.specs.Step.{fresh}
use Rattle.xf_def_machine.specs.Examples.{profile}
use Rattle.xf_def_machine.specs.NoteLines.{quoted}
use Rattle.xf_def_machine.specs.StateText.{spaced, line_of, marks_text, own_value, has_elements_in, text_line, node_line_by, is_place, node_lines, instance_lines, name_of, repeat_line, switch_line}
use Rattle.xf_def_machine.specs.ControlText.{number_in, row_numbers, joined, rows_text, marks_of, value_part, sign_if, is_chosen_in, item_line, item_lines, copy_lines, has_line, state_text}
use Rattle.xf_law_sessions.specs.Same.Going.{image}
use Rattle.xf_law_sessions.specs.Same.Controls.{HasForm, GoesAround}
use Rattle.xf_law_sessions.specs.Same.Texts.{TextStays, DataStay, TextLaws}
use Rattle.xf_law_sessions.proofs.SameLemmas.ForestGoes.{holding-goes, map-length}
use Rattle.xf_law_sessions.proofs.SameLemmas.ScopeGoes.{path-goes, document-goes}
use Rattle.xf_law_sessions.proofs.SameLemmas.AroundGoes.{BoundGoes, first-goes, position-goes, rows-go}
use Rattle.xf_law_sessions.proofs.SameLemmas.IndexGoes.{index-at, now-goes}
use Rattle.xf_law_sessions.proofs.SameLemmas.StateGoes.{elements-go, around-goes, marks-go}
use Rattle.xf_law_sessions.proofs.SameLemmas.GoingLaws.{changes_go}

same-lines : {A B : Type 0} (p q : A → List B) → ((x : A) → p x ≡ q x) → (xs : List A) → flat_map p xs ≡ flat_map q xs
same-lines p q e [] = refl
same-lines p q e (x ∷ xs) = ap (λ l. l ++ flat_map p xs) (e x) ∙ ap (λ l. q x ++ l) (same-lines p q e xs)

module _ (p : Profile) (f : ℕ → ℕ) (same : IsRenumbering f) (second : ℕ) (s : State) (h : HasForm s.form) where
  abbrev other : State
  other = image f second s

  -- ---- nodes

  elements-same : (n : ℕ) → has_elements (all_in other) (f n) ≡ has_elements (all_in s) n
  elements-same n =
      ap (λ all. has_elements all (f n)) (visits-renumbered f same s.forest.nodes)
      ∙ any-through (renumbered_visit f) (λ y. is_element y.content && is_first (f n) y.above) (λ y. is_element y.content && is_first n y.above) (λ y. ap (λ b. is_element y.content && b) (first-renumbered f same n y.above)) (all_in s)

  value-same : (n : ℕ) → own_value other (f n) ≡ own_value s n
  value-same n =
      ap (λ b. if b then [] else spaced (quoted (string_value (f n) (all_in other)))) (elements-same n)
      ∙ ap (λ all. if has_elements (all_in s) n then [] else spaced (quoted (string_value (f n) all))) (visits-renumbered f same s.forest.nodes)
      ∙ ap (λ text. if has_elements (all_in s) n then [] else spaced (quoted text)) (string_value-renumbered f same n (all_in s))

  above-same : (o : Option ℕ) → has_elements_in other (option_map f o) ≡ has_elements_in s o
  above-same None = refl
  above-same (Some n) = elements-same n

  text-same : (x : Visit) (text : List ℕ) → text_line other (renumbered_visit f x) text ≡ text_line s x text
  text-same x text =
      ap (λ o. if has_elements_in other o then line_of (path_in other (f x.number) ++ spaced (quoted text)) else []) (first-goes f x.above)
      ∙ ap (λ b. if b then line_of (path_in other (f x.number) ++ spaced (quoted text)) else []) (above-same (first_of x.above))
      ∙ ap (λ path. if has_elements_in s (first_of x.above) then line_of (path ++ spaced (quoted text)) else []) (path-goes f same second s x.number)

  plain-same : (n : ℕ) → line_of (path_in other (f n) ++ spaced (marks_text (marks_in other (f n))) ++ own_value other (f n)) ≡ line_of (path_in s n ++ spaced (marks_text (marks_in s n)) ++ own_value s n)
  plain-same n =
      ap (λ path. line_of (path ++ spaced (marks_text (marks_in other (f n))) ++ own_value other (f n))) (path-goes f same second s n)
      ∙ ap (λ m. line_of (path_in s n ++ spaced (marks_text m) ++ own_value other (f n))) (marks-go f same second s n)
      ∙ ap (λ text. line_of (path_in s n ++ spaced (marks_text (marks_in s n)) ++ text)) (value-same n)

  node-same : (x : Visit) (c : Content) → node_line_by other (renumbered_visit f x) c ≡ node_line_by s x c
  node-same x content.Root = refl
  node-same x (content.Text text) = text-same x text
  node-same x (content.Element name) = plain-same x.number
  node-same x (content.Attribute name text) = plain-same x.number

  nodes-same : (place : ℕ) → node_lines other place ≡ node_lines s place
  nodes-same place =
      let lines = λ (x : Visit). node_line_by other x x.content in
      ap (λ all. flat_map lines (filter (λ x. is_place place (instance_holding other x.number)) all)) (visits-renumbered f same s.forest.nodes)
      ∙ ap (flat_map lines) (filter-through (renumbered_visit f) (λ x. is_place place (instance_holding other x.number)) (λ x. is_place place (instance_holding s x.number)) (λ x. ap (is_place place) (holding-goes f same second s x.number)) (all_in s))
      ∙ flat-through (renumbered_visit f) lines (λ x. node_line_by s x x.content) (λ x. node-same x x.content) (filter (λ x. is_place place (instance_holding s x.number)) (all_in s))

  instance-same : (place : ℕ) → instance_lines other place ≡ instance_lines s place
  instance-same place = ap (λ l. line_of (codes "instance " ++ pair_text (pair_at s place)) ++ l) (nodes-same place)

  -- ---- repeats

  bindings : (n : ℕ) → BoundGoes f (element_at (interface s) n).binding
  bindings n = (elements-go f same s h n).binding

  quiet-goes : GoesAround f (quiet p s) (quiet p other)
  quiet-goes = around-goes p f same second s h None

  many-same : (o : Option (List ℕ)) → length (unwrap_or (option_map (map f) o) []) ≡ length (unwrap_or o [])
  many-same None = refl
  many-same (Some rows) = map-length f rows

  repeat-same : (r : ℕ) → repeat_line p other r ≡ repeat_line p s r
  repeat-same r =
      let line = λ (k count : ℕ). line_of (codes "repeat " ++ name_of s r ++ spaced (decimal k) ++ spaced (decimal count)) in
      let counted = λ (o : Option (List ℕ)). length (unwrap_or o []) in
      ap (λ (i : Index). line i.index (counted (rows_now (interface s) (quiet p other) (map (renumbered_index f) s.indexes) r))) (index-at f (number_of (interface s) r) s.indexes)
      ∙ ap (λ o. line (index_of (interface s) s.indexes r).index (counted o)) (now-goes f same (interface s) bindings (quiet p s) (quiet p other) quiet-goes s.indexes r)
      ∙ ap (line (index_of (interface s) s.indexes r).index) (many-same (rows_now (interface s) (quiet p s) s.indexes r))

  -- ---- copies

  number-same : (n : ℕ) (o : Option (List ℕ)) → number_in (unwrap_or (option_map (map f) o) []) (f n) ≡ number_in (unwrap_or o []) n
  number-same n None = refl
  number-same n (Some rows) = ap suc (position-goes f same n rows)

  numbers-same : (chain rs ns : List ℕ) → row_numbers p other (map f chain) rs (map f ns) ≡ row_numbers p s chain rs ns
  numbers-same chain [] [] = refl
  numbers-same chain [] (n ∷ ns) = refl
  numbers-same chain (r ∷ rs) [] = refl
  numbers-same chain (r ∷ rs) (n ∷ ns) =
      let number = λ (o : Option (List ℕ)). number_in (unwrap_or o []) (f n) in
      ap (λ o. number o ∷ row_numbers p other (map f chain ++ f n ∷ []) rs (map f ns)) (rows-go f same (quiet p s) (quiet p other) quiet-goes (interface s) bindings chain r)
      ∙ ap (λ k. k ∷ row_numbers p other (map f chain ++ f n ∷ []) rs (map f ns)) (number-same n (rows_of (interface s) (quiet p s) chain r))
      ∙ ap (λ l. number_in (unwrap_or (rows_of (interface s) (quiet p s) chain r) []) n ∷ row_numbers p other l rs (map f ns)) (sym (map-append f chain (n ∷ [])))
      ∙ ap (λ ks. number_in (unwrap_or (rows_of (interface s) (quiet p s) chain r) []) n ∷ ks) (numbers-same (chain ++ n ∷ []) rs ns)

  rows-same : (c : Copy) → rows_text p other (renumbered_copy f c) ≡ rows_text p s c
  rows-same c = ap (λ ks. codes "[" ++ joined ks ++ codes "]") (numbers-same [] (repeats_around (interface s) c.element) c.rows)

  item-same : (c : Copy) (many : Bool) (i : Item) → item_line p other (renumbered_copy f c) many i ≡ item_line p s c many i
  item-same c many i =
      ap (λ text. line_of (codes "item " ++ name_of s c.element ++ spaced text ++ spaced (quoted i.label) ++ spaced (quoted i.value) ++ sign_if (is_chosen_in many c.value i))) (rows-same c)

  items-same : (c : Copy) (x : Sort) → item_lines p other (renumbered_copy f c) x ≡ item_lines p s c x
  items-same c (sort.select many is_free) = same-lines (item_line p other (renumbered_copy f c) many) (item_line p s c many) (item-same c many) c.items
  items-same c sort.host = refl
  items-same c sort.other = refl
  items-same c sort.group = refl
  items-same c (sort.switch k) = refl
  items-same c (sort.one_case is_selected) = refl
  items-same c (sort.repeated k start) = refl
  items-same c sort.field = refl
  items-same c (sort.output m) = refl
  items-same c sort.item = refl
  items-same c sort.itemset = refl
  items-same c sort.choices = refl
  items-same c sort.label = refl
  items-same c (sort.item_value m) = refl
  items-same c (sort.inline m) = refl
  items-same c (sort.action handler) = refl

  copy-same : (c : Copy) → copy_lines p other (renumbered_copy f c) ≡ copy_lines p s c
  copy-same c =
      let x = (element_at (interface s) c.element).sort in
      let line = λ (rows : List ℕ). line_of (codes "control " ++ name_of s c.element ++ spaced rows ++ spaced (marks_text (marks_of c)) ++ value_part c.value) in
      ap (λ rows. line rows ++ item_lines p other (renumbered_copy f c) x) (rows-same c) ∙ ap (λ l. line (rows_text p s c) ++ l) (items-same c x)

  copies-same : (cs : List Copy)
      → flat_map (copy_lines p other) (filter (λ c. has_line (element_at (interface s) c.element).sort) (map (renumbered_copy f) cs))
      ≡ flat_map (copy_lines p s) (filter (λ c. has_line (element_at (interface s) c.element).sort) cs)
  copies-same cs =
      let shows = λ (c : Copy). has_line (element_at (interface s) c.element).sort in
      ap (flat_map (copy_lines p other)) (filter-through (renumbered_copy f) shows shows (λ c. refl) cs)
      ∙ flat-through (renumbered_copy f) (copy_lines p other) (copy_lines p s) copy-same (filter shows cs)

  -- ---- the whole

  switch-same : (q : ℕ × ℕ) → switch_line other q ≡ switch_line s q
  switch-same (switch, place) = refl

  pub text-goes : state_text p other ≡ state_text p s
  text-goes =
      let places = counted_from 0 (length (instances_in s)) in
      let repeats = (interface s).repeats in
      let cases = zip (interface s).switches s.cases in
      let shown = filter (λ (c : Copy). has_line (element_at (interface s) c.element).sort) s.controls in
      let shown_too = filter (λ (c : Copy). has_line (element_at (interface s) c.element).sort) (map (renumbered_copy f) s.controls) in
      ap (λ l. l ++ flat_map (repeat_line p other) repeats ++ flat_map (switch_line other) cases ++ flat_map (copy_lines p other) shown_too ++ codes "end\n") (same-lines (instance_lines other) (instance_lines s) instance-same places)
      ∙ ap (λ l. flat_map (instance_lines s) places ++ l ++ flat_map (switch_line other) cases ++ flat_map (copy_lines p other) shown_too ++ codes "end\n") (same-lines (repeat_line p other) (repeat_line p s) repeat-same repeats)
      ∙ ap (λ l. flat_map (instance_lines s) places ++ flat_map (repeat_line p s) repeats ++ l ++ flat_map (copy_lines p other) shown_too ++ codes "end\n") (same-lines (switch_line other) (switch_line s) switch-same cases)
      ∙ ap (λ l. flat_map (instance_lines s) places ++ flat_map (repeat_line p s) repeats ++ flat_map (switch_line s) cases ++ l ++ codes "end\n") (copies-same s.controls)

pub text_stays : TextStays
text_stays p s t h q = ap (state_text p) (changes_go.same p s t q) ∙ text-goes p q.by q.renumbers t.forest.next (fresh p s) h

-- ---- the data

module _ (f : ℕ → ℕ) (same : IsRenumbering f) (second : ℕ) (s : State) where
  under-same : (o : Option ℕ) → contents_under (image f second s) (option_map f o) ≡ contents_under s o
  under-same None = refl
  under-same (Some n) = ap contents_in (tree_of-renumbered f same n s.forest.nodes) ∙ contents-renumbered f same (tree_of n s.forest.nodes)

  document-same : (place : ℕ) → contents_under (image f second s) (document_at (image f second s) place) ≡ contents_under s (document_at s place)
  document-same place = ap (contents_under (image f second s)) (document-goes f same second s place) ∙ under-same (document_at s place)

  documents-same : (places : List ℕ) → map (λ place. contents_under (image f second s) (document_at (image f second s) place)) places ≡ map (λ place. contents_under s (document_at s place)) places
  documents-same [] = refl
  documents-same (place ∷ places) = ap (λ c. c ∷ map (λ k. contents_under (image f second s) (document_at (image f second s) k)) places) (document-same place)
      ∙ ap (λ l. contents_under s (document_at s place) ∷ l) (documents-same places)

  index-same : (is : List Index) → map (λ (i : Index). i.index) (map (renumbered_index f) is) ≡ map (λ (i : Index). i.index) is
  index-same [] = refl
  index-same (i ∷ is) = ap (λ ks. i.index ∷ ks) (index-same is)

  pub data-goes : data_of (image f second s) ≡ data_of s
  data-goes =
      let places = counted_from 0 (length (instances_in s)) in
      ap {B = Data} (λ l. record { accepted = s.accepted; documents = l; indexes = map (λ (i : Index). i.index) (map (renumbered_index f) s.indexes); cases = s.cases }) (documents-same places)
      ∙ ap {B = Data} (λ l. record { accepted = s.accepted; documents = map (λ place. contents_under s (document_at s place)) places; indexes = l; cases = s.cases }) (index-same s.indexes)

-- the budget of an event does not count, so that any profile will do
pub data_stay : DataStay
data_stay s t q = ap data_of (changes_go.same profile s t q) ∙ data-goes q.by q.renumbers t.forest.next (fresh profile s)

pub texts_go : TextLaws
texts_go = record { text = text_stays; kept = data_stay }
