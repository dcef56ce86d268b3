-- The items of a value, one after another, and what they spell.
use Rattle.std.proofs.Common.{◌≡◌, ◌<◌, ◌+◌, ℕ, zero, suc, List, [], ◌∷◌, ◌++◌, length, get_or, Some, None, option_map, refl, sym, ap, ◌∙◌, arith, rules, append_assoc, add-one, Global, Vec, String, string_bytes}
use Rattle.std.specs.Prelude.{option_and_then}
use Rattle.std.specs.declared.option.Option.{Option}
use Rattle.serde_json.specs.Data.{string, array, object, Items, no_items, item, Members, member}
use Rattle.serde_json.specs.Find.{get_item, as_str, as_object}
use Rattle.serde_json.specs.View.{view, items_view, members_view}
use Rattle.serde_json.specs.declared.value.Value.{Value, String as StringOf, Array as ArrayOf, the_lemmas}
use Rattle.serde_json.proofs.Views.{view-Array}
use Rattle.xf_name.specs.declared.lit.Pair.{Pair}
use Rattle.xf_name.specs.declared.lit.Lit.{Lit}
use Rattle.xf_name.specs.declared.lit.Lit.TheVariants.{Element}
use Rattle.xf_name.specs.declared.lit.LitElement.{LitElement}
use Rattle.xf_json.specs.Element.{after_text, attributes_in, element, element_in, children_in}
use Rattle.xf_json.specs.Part.{items_from, FailsPart}
use Rattle.xf_json.specs.declared.fault.JsonFault.{JsonFault}
use Rattle.xf_json.specs.declared.fault.JsonFault.TheVariants.{NotJson, NotElement, Memory}

view-String : (s : String Global) → view (StringOf s) ≡ string (string_bytes s)
view-String s = search (rules, the_lemmas)

-- ---- the items from a place on

pub get_item_past : (vs : List Value) (i : ℕ) → length vs < i + 1 → get_item i (items_view vs) ≡ None
get_item_past [] i h = refl
get_item_past (v ∷ vs) zero h = absurd (omega arith)
get_item_past (v ∷ vs) (suc i) h = get_item_past vs i (omega arith)

step-suc : (vs : List Value) (i : ℕ) (d : Value) → i < length vs → items_from i (items_view vs) ≡ item (view (get_or vs i d)) (items_from (suc i) (items_view vs))
step-suc [] i d h = absurd (omega arith)
step-suc (v ∷ vs) zero d h = refl
step-suc (v ∷ vs) (suc i) d h = step-suc vs i d (omega arith)

items_step : (vs : List Value) (i : ℕ) (d : Value) → i < length vs → items_from i (items_view vs) ≡ item (view (get_or vs i d)) (items_from (i + 1) (items_view vs))
items_step vs i d h = step-suc vs i d h ∙ ap (λ n. item (view (get_or vs i d)) (items_from n (items_view vs))) (sym (add-one i))

pub items_end : (vs : List Value) (i : ℕ) → length vs < i + 1 → items_from i (items_view vs) ≡ no_items
items_end [] zero h = refl
items_end [] (suc i) h = refl
items_end (v ∷ vs) zero h = absurd (omega arith)
items_end (v ∷ vs) (suc i) h = items_end vs i (omega arith)

pub here : (vs : List Value) (i : ℕ) (v : Value) → i < length vs → v ≡ get_or vs i v → items_from i (items_view vs) ≡ item (view v) (items_from (i + 1) (items_view vs))
here vs i v h e = items_step vs i v h ∙ ap (λ x. item (view x) (items_from (i + 1) (items_view vs))) (sym e)

pub here_text : (vs : List Value) (i : ℕ) (v : Value) (s : String Global) → i < length vs → v ≡ get_or vs i v → v ≡ StringOf s → items_from i (items_view vs) ≡ item (string (string_bytes s)) (items_from (i + 1) (items_view vs))
here_text vs i v s h e is = here vs i v h e ∙ ap (λ d. item d (items_from (i + 1) (items_view vs))) (ap view is ∙ view-String s)

pub here_array : (vs : List Value) (i : ℕ) (v : Value) (a : Vec Value Global) → i < length vs → v ≡ get_or vs i v → v ≡ ArrayOf a → items_from i (items_view vs) ≡ item (array (items_view a.items)) (items_from (i + 1) (items_view vs))
here_array vs i v a h e is = here vs i v h e ∙ ap (λ d. item d (items_from (i + 1) (items_view vs))) (ap view is ∙ view-Array a)

-- ---- heads

pub head_object : (items : Items) (name : List ℕ) (ms : Members) (attributes : List Pair) → option_and_then as_str (get_item 0 items) ≡ Some name → option_and_then as_object (get_item 1 items) ≡ Some ms
    → attributes_in ms ≡ Some attributes → element_in items ≡ option_map (element name attributes) (children_in [] (items_from 2 items))
head_object (item (string n) (item (object m) rest)) name ms attributes s o a =
    let is_name : n ≡ name = cc in
    let is_ms : m ≡ ms = cc in
    ap (option_and_then (λ x. option_map (element n x) (children_in [] rest))) (ap attributes_in is_ms ∙ a) ∙ ap (λ k. option_map (element k attributes) (children_in [] rest)) is_name
head_object items name ms attributes s o a = cc

pub head_refused : (items : Items) (name : List ℕ) (ms : Members) → option_and_then as_str (get_item 0 items) ≡ Some name → option_and_then as_object (get_item 1 items) ≡ Some ms
    → attributes_in ms ≡ None → element_in items ≡ None
head_refused (item (string n) (item (object m) rest)) name ms s o a =
    let is_ms : m ≡ ms = cc in
    ap (option_and_then (λ x. option_map (element n x) (children_in [] rest))) (ap attributes_in is_ms ∙ a)
head_refused items name ms s o a = cc

pub head_plain : (items : Items) (name : List ℕ) → option_and_then as_str (get_item 0 items) ≡ Some name → option_and_then as_object (get_item 1 items) ≡ None
    → element_in items ≡ option_map (element name []) (children_in [] (items_from 1 items))
head_plain (item (string n) no_items) name s o = let is_name : n ≡ name = cc in ap (λ k. option_map (element k []) (children_in [] no_items)) is_name
head_plain (item (string n) (item (object m) rest)) name s o = cc
head_plain (item (string n) (item e rest)) name s o = let is_name : n ≡ name = cc in ap (λ k. option_map (element k []) (children_in [] (item e rest))) is_name
head_plain items name s o = cc

pub head_none : (items : Items) → option_and_then as_str (get_item 0 items) ≡ None → element_in items ≡ None
head_none (item (string n) rest) s = cc
head_none items s = refl

-- ---- children, one after another

behind_text : (text : List ℕ) (trees : List Lit) → after_text text trees ≡ after_text text [] ++ trees
behind_text [] trees = refl
behind_text (b ∷ bs) trees = refl

behind_child : (done : List Lit) (text : List ℕ) (child : LitElement) (rest : Option (List Lit))
    → option_map (λ r. done ++ r) (option_map (λ trees. after_text text (Element child ∷ trees)) rest) ≡ option_map (λ r. (done ++ after_text text [] ++ Element child ∷ []) ++ r) rest
behind_child done text child None = refl
behind_child done text child (Some r) =
    ap (λ l. Some (done ++ l)) (behind_text text (Element child ∷ r))
    ∙ ap Some (sym (append_assoc done (after_text text []) (Element child ∷ r)))
    ∙ ap Some (sym (append_assoc (done ++ after_text text []) (Element child ∷ []) r))

pub step_text : (o : Option (List Lit)) (done : List Lit) (text more : List ℕ) (items rest : Items) → o ≡ option_map (λ r. done ++ r) (children_in text items) → items ≡ item (string more) rest
    → o ≡ option_map (λ r. done ++ r) (children_in (text ++ more) rest)
step_text o done text more items rest e i = e ∙ ap (λ x. option_map (λ r. done ++ r) (children_in text x)) i

pub step_element : (o : Option (List Lit)) (done : List Lit) (text : List ℕ) (child : LitElement) (items inner rest : Items)
    → o ≡ option_map (λ r. done ++ r) (children_in text items) → items ≡ item (array inner) rest → element_in inner ≡ Some child
    → o ≡ option_map (λ r. (done ++ after_text text [] ++ Element child ∷ []) ++ r) (children_in [] rest)
step_element o done text child items inner rest e i f =
    e ∙ ap (λ x. option_map (λ r. done ++ r) (children_in text x)) i
    ∙ ap (λ x. option_map (λ r. done ++ r) (option_and_then (λ c. option_map (λ trees. after_text text (Element c ∷ trees)) (children_in [] rest)) x)) f
    ∙ behind_child done text child (children_in [] rest)

pub step_none : (o : Option (List Lit)) (done : List Lit) (text : List ℕ) (items : Items) → o ≡ option_map (λ r. done ++ r) (children_in text items) → children_in text items ≡ None → o ≡ None
step_none o done text items e n = e ∙ ap (option_map (λ r. done ++ r)) n

pub inner_none : (text : List ℕ) (inner rest : Items) → element_in inner ≡ None → children_in text (item (array inner) rest) ≡ None
inner_none text inner rest e = ap (option_and_then (λ c. option_map (λ trees. after_text text (Element c ∷ trees)) (children_in [] rest))) e

pub failed_within : (fault : JsonFault) (f : List Lit → LitElement) (whole inner : Option LitElement) (part : Option (List Lit)) → whole ≡ option_map f part → (inner ≡ None → part ≡ None) → FailsPart fault inner → FailsPart fault whole
failed_within NotJson f whole inner part is none h = absurd h
failed_within NotElement f whole inner part is none h = is ∙ ap (option_map f) (none h)
failed_within Memory f whole inner part is none h = tt

-- ---- attributes

attribute_more : (x : Pair) (done : List Pair) (a : Option (List Pair)) → option_map (λ r. done ++ r) (option_map (λ xs. x ∷ xs) a) ≡ option_map (λ r. (done ++ x ∷ []) ++ r) a
attribute_more x done None = refl
attribute_more x done (Some r) = ap Some (sym (append_assoc done (x ∷ []) r))

pub attributes_more : (es rest : List (String Global × Value)) (o : Option (List Pair)) (done : List Pair) (k t : String Global) (v : Value)
    → o ≡ option_map (λ r. done ++ r) (attributes_in (members_view es)) → es ≡ (k, v) ∷ rest → v ≡ StringOf t
    → o ≡ option_map (λ r. (done ++ record { name = string_bytes k; text = string_bytes t } ∷ []) ++ r) (attributes_in (members_view rest))
attributes_more es rest o done k t v e es_is v_is =
    let shown : members_view es ≡ member (string_bytes k) (string (string_bytes t)) (members_view rest) =
    ap members_view es_is ∙ ap (λ d. member (string_bytes k) d (members_view rest)) (ap view v_is ∙ view-String t) in
    e ∙ ap (λ ms. option_map (λ r. done ++ r) (attributes_in ms)) shown ∙ attribute_more (record { name = string_bytes k; text = string_bytes t }) done (attributes_in (members_view rest))
