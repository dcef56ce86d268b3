-- A plain tree is read back from what is printed.
use Rattle.std.proofs.Common.{◌≡◌, ◌≤◌, ℕ, suc, List, [], ◌∷◌, ◌++◌, map, Bool, true, false, not, ◌&&◌, Some, Ok, option_map, ◌⊎◌, inl, inr, refl, sym, ap, ◌∙◌, subst, arith, append-nil}
use Rattle.std.specs.Prelude.{option_and_then}
use Rattle.std.specs.declared.option.Option.{Option}
use Rattle.std.specs.Str.{IsUtf8}
use Rattle.std.proofs.lemmas.Bool.{and_parts, false≢true}
use Rattle.json.specs.Token.{Token}
use Rattle.json.specs.Lex.{tokens}
use Rattle.json.specs.Json as json
use Rattle.json.specs.Tree as tree
use Rattle.json.proofs.Printed.Trees.{value-json_tokens}
use Rattle.serde_json.specs.Data.{Data, string, array, object, Items, no_items, item, Members, no_members, put}
use Rattle.serde_json.specs.Read.{read, of_json, of_items, of_members}
use Rattle.serde_json.specs.View.{items_of}
use Rattle.serde_json.specs.Written.{outline, items_outline, members_outline}
use Rattle.xf_name.specs.declared.lit.Pair.{Pair}
use Rattle.xf_name.specs.declared.lit.Lit.{Lit}
use Rattle.xf_name.specs.declared.lit.Lit.TheOpen.{Lit-F, LitElement-F}
use Rattle.xf_name.specs.declared.lit.Lit.TheFolds.{fold-roll-Lit, fold-roll-LitElement, map-Lit, ind-Lit}
use Rattle.xf_name.specs.declared.lit.Lit.TheViews.{roll-Lit, roll-LitElement}
use Rattle.xf_name.specs.declared.lit.Lit.TheVariants.{Text, Element, rolls-Text, rolls-Element}
use Rattle.xf_name.specs.declared.lit.LitElement.{LitElement}
use Rattle.xf_json.specs.Element.{after_text, attributes_in, element, element_in, children_in, lit_of, lit_in, lit_or_fault, read_or_fault}
use Rattle.xf_json.specs.Printed.{value_of, value_of_element, lit_value, element_value, with_object, with_pairs, are_rising}
use Rattle.xf_json.specs.Plain.{Shape, IsPlain, shape_of, shape_of_element, lit_shape, element_shape, are_apart, deepest, is_some_text}
use Rattle.xf_json.proofs.Bytes.{value_when}
use Rattle.xf_json.proofs.Sorted.{in_order, with_pairs-in_order}

-- ---- the equations of the folds

value_of-Text : (t : List ℕ) → value_of (Text t) ≡ string t
value_of-Text t = ap value_of (sym (rolls-Text t)) ∙ fold-roll-Lit Data Data lit_value element_value (Lit-F.Text t)

value_of-Element : (e : LitElement) → value_of (Element e) ≡ value_of_element e
value_of-Element e = ap value_of (sym (rolls-Element e)) ∙ fold-roll-Lit Data Data lit_value element_value (Lit-F.Element e)

shape_of-Text : (t : List ℕ) → shape_of (Text t) ≡ record { is_text = true; is_plain = is_some_text t; nesting = 0 }
shape_of-Text t = ap shape_of (sym (rolls-Text t)) ∙ fold-roll-Lit Shape Shape lit_shape element_shape (Lit-F.Text t)

shape_of-Element : (e : LitElement) → shape_of (Element e) ≡ shape_of_element e
shape_of-Element e = ap shape_of (sym (rolls-Element e)) ∙ fold-roll-Lit Shape Shape lit_shape element_shape (Lit-F.Element e)

-- ---- attributes

of_members-in_order : (ms : Members) (ps : List Pair) → of_members (members_outline (in_order ps)) ms ≡ Some (with_pairs ms ps)
of_members-in_order ms [] = refl
of_members-in_order ms (p ∷ ps) = of_members-in_order (put p.name (string p.text) ms) ps

attributes_in-in_order : (ps : List Pair) → attributes_in (in_order ps) ≡ Some ps
attributes_in-in_order [] = refl
attributes_in-in_order (p ∷ ps) = ap (option_map (λ rest. p ∷ rest)) (attributes_in-in_order ps)

depth-in_order : (ps : List Pair) → tree.members_depth (members_outline (in_order ps)) ≡ 0
depth-in_order [] = refl
depth-in_order (p ∷ ps) = omega (arith, depth-in_order ps)

-- ---- an element, where its parts are read back

pub record ReadsElement (e : LitElement) : Type 0 where
  pub items : Items
  pub value : value_of_element e ≡ array items
  pub is_text : (shape_of_element e).is_text ≡ false
  pub back : (shape_of_element e).is_plain ≡ true → element_in items ≡ Some e
  pub json : (shape_of_element e).is_plain ≡ true → of_items (items_outline items) ≡ Some items
  pub depth : (shape_of_element e).is_plain ≡ true → tree.items_depth (items_outline items) ≤ (shape_of_element e).nesting

abbrev pub Reads : Lit → Type 0
Reads x = ((t : List ℕ) × (x ≡ Text t)) ⊎ ((e : LitElement) × (x ≡ Element e) × ReadsElement e)

abbrev Child : Type 0
Child = (x : Lit) × Reads x

abbrev lits : List Child → List Lit
lits ys = map (λ y. y.0) ys

no_text : (text : List ℕ) → not (is_some_text text && true) ≡ true → text ≡ []
no_text [] h = refl
no_text (b ∷ bs) h = cc

some_text : (t : List ℕ) (xs : List Lit) → is_some_text t ≡ true → after_text t xs ≡ Text t ∷ xs
some_text [] xs h = cc
some_text (b ∷ bs) xs h = refl

after_a_text : (text : List ℕ) (x : Lit) (t : List ℕ) (ys : List Child) → x ≡ Text t → are_apart (is_some_text text) (shape_of x ∷ map shape_of (lits ys)) ≡ true
    → (are_apart (is_some_text t) (map shape_of (lits ys)) ≡ true → children_in t (items_of (map value_of (lits ys))) ≡ Some (after_text t (lits ys)))
    → children_in text (item (value_of x) (items_of (map value_of (lits ys)))) ≡ Some (after_text text (x ∷ lits ys))
after_a_text text x t ys is apart later =
    let rest : Items = items_of (map value_of (lits ys)) in
    let shape : shape_of x ≡ record { is_text = true; is_plain = is_some_text t; nesting = 0 } = ap shape_of is ∙ shape_of-Text t in
    let known = sym (ap (λ s. are_apart (is_some_text text) (s ∷ map shape_of (lits ys))) shape) ∙ apart in
    let outer = and_parts (is_some_text t && not (is_some_text text && true)) (are_apart true (map shape_of (lits ys))) known in
    let inner = and_parts (is_some_text t) (not (is_some_text text && true)) outer.0 in
    let none : text ≡ [] = no_text text inner.1 in
    let tail : are_apart (is_some_text t) (map shape_of (lits ys)) ≡ true = ap (λ b. are_apart b (map shape_of (lits ys))) inner.0 ∙ outer.1 in
    ap (λ d. children_in text (item d rest)) (ap value_of is ∙ value_of-Text t) ∙ ap (λ w. children_in (w ++ t) rest) none ∙ later tail
    ∙ ap Some (some_text t (lits ys) inner.0 ∙ ap (λ y. y ∷ lits ys) (sym is) ∙ ap (λ w. after_text w (x ∷ lits ys)) (sym none))

after_an_element : (text : List ℕ) (x : Lit) (e : LitElement) (ys : List Child) → x ≡ Element e → ReadsElement e → are_apart (is_some_text text) (shape_of x ∷ map shape_of (lits ys)) ≡ true
    → (are_apart false (map shape_of (lits ys)) ≡ true → children_in [] (items_of (map value_of (lits ys))) ≡ Some (lits ys))
    → children_in text (item (value_of x) (items_of (map value_of (lits ys)))) ≡ Some (after_text text (x ∷ lits ys))
after_an_element text x e ys is reads apart later =
    let rest : Items = items_of (map value_of (lits ys)) in
    let shape : shape_of x ≡ shape_of_element e = ap shape_of is ∙ shape_of-Element e in
    let known = sym (ap (λ s. are_apart (is_some_text text) (s ∷ map shape_of (lits ys))) shape) ∙ apart in
    let s = shape_of_element e in
    let outer = and_parts (s.is_plain && not (is_some_text text && s.is_text)) (are_apart s.is_text (map shape_of (lits ys))) known in
    let inner = and_parts s.is_plain (not (is_some_text text && s.is_text)) outer.0 in
    let tail : are_apart false (map shape_of (lits ys)) ≡ true = ap (λ b. are_apart b (map shape_of (lits ys))) (sym reads.is_text) ∙ outer.1 in
    ap (λ d. children_in text (item d rest)) (ap value_of is ∙ value_of-Element e ∙ reads.value)
    ∙ ap (option_and_then (λ child. option_map (λ trees. after_text text (Element child ∷ trees)) (children_in [] rest))) (reads.back inner.0)
    ∙ ap (option_map (λ trees. after_text text (Element e ∷ trees))) (later tail) ∙ ap (λ y. Some (after_text text (y ∷ lits ys))) (sym is)

children_back : (text : List ℕ) (ys : List Child) → are_apart (is_some_text text) (map shape_of (lits ys)) ≡ true → children_in text (items_of (map value_of (lits ys))) ≡ Some (after_text text (lits ys))
children_back [] [] apart = refl
children_back (b ∷ bs) [] apart = refl
children_back text (y ∷ ys) apart = elim y.1 [
  | inl h ↦ after_a_text text y.0 h.0 ys h.1 apart (children_back h.0 ys)
  | inr h ↦ after_an_element text y.0 h.0 ys h.1 h.2 apart (children_back [] ys)
]

-- ---- children as JSON

child_json : (x : Lit) → Reads x → (shape_of x).is_plain ≡ true → of_json (outline (value_of x)) ≡ Some (value_of x)
child_json x (inl h) plain = let is : value_of x ≡ string h.0 = ap value_of h.1 ∙ value_of-Text h.0 in ap (λ d. of_json (outline d)) is ∙ ap Some (sym is)
child_json x (inr h) plain =
    let is : value_of x ≡ array h.2.items = ap value_of h.1 ∙ value_of-Element h.0 ∙ h.2.value in
    let kept : (shape_of_element h.0).is_plain ≡ true = sym (ap (λ s. s.is_plain) (ap shape_of h.1 ∙ shape_of-Element h.0)) ∙ plain in
    ap (λ d. of_json (outline d)) is ∙ ap (option_map array) (h.2.json kept) ∙ ap Some (sym is)

children_json : (after : Bool) (ys : List Child) → are_apart after (map shape_of (lits ys)) ≡ true → of_items (items_outline (items_of (map value_of (lits ys)))) ≡ Some (items_of (map value_of (lits ys)))
children_json after [] apart = refl
children_json after (y ∷ ys) apart =
    let s = shape_of y.0 in
    let outer = and_parts (s.is_plain && not (after && s.is_text)) (are_apart s.is_text (map shape_of (lits ys))) apart in
    let inner = and_parts s.is_plain (not (after && s.is_text)) outer.0 in
    ap (option_and_then (λ d. option_map (item d) (of_items (items_outline (items_of (map value_of (lits ys))))))) (child_json y.0 y.1 inner.0)
    ∙ ap (option_map (item (value_of y.0))) (children_json s.is_text ys outer.1)

child_depth : (x : Lit) → Reads x → (shape_of x).is_plain ≡ true → tree.depth (outline (value_of x)) ≤ suc (shape_of x).nesting
child_depth x (inl h) plain = let is : value_of x ≡ string h.0 = ap value_of h.1 ∙ value_of-Text h.0 in omega (arith, ap (λ d. tree.depth (outline d)) is)
child_depth x (inr h) plain =
    let is : value_of x ≡ array h.2.items = ap value_of h.1 ∙ value_of-Element h.0 ∙ h.2.value in
    let same : shape_of x ≡ shape_of_element h.0 = ap shape_of h.1 ∙ shape_of-Element h.0 in
    let kept : (shape_of_element h.0).is_plain ≡ true = sym (ap (λ s. s.is_plain) same) ∙ plain in
    omega (arith, ap (λ d. tree.depth (outline d)) is, h.2.depth kept, ap (λ s. s.nesting) same)

children_depth : (after : Bool) (ys : List Child) → are_apart after (map shape_of (lits ys)) ≡ true → tree.items_depth (items_outline (items_of (map value_of (lits ys)))) ≤ suc (deepest (map shape_of (lits ys)))
children_depth after [] apart = omega arith
children_depth after (y ∷ ys) apart =
    let s = shape_of y.0 in
    let outer = and_parts (s.is_plain && not (after && s.is_text)) (are_apart s.is_text (map shape_of (lits ys))) apart in
    let inner = and_parts s.is_plain (not (after && s.is_text)) outer.0 in
    omega (arith, child_depth y.0 y.1 inner.0, children_depth s.is_text ys outer.1)

-- ---- an element

plain_head : (name : List ℕ) (items : Items) (xs : List Lit) → children_in [] items ≡ Some xs → element_in (item (string name) items) ≡ Some (element name [] xs)
plain_head name no_items xs read = ap (option_map (element name [])) read
plain_head name (item (object ms) rest) xs read = cc
plain_head name (item d rest) xs read = ap (option_map (element name [])) read

head_back : (name : List ℕ) (ps : List Pair) (items : Items) (xs : List Lit) → are_rising ps ≡ true → children_in [] items ≡ Some xs → element_in (item (string name) (with_object ps items)) ≡ Some (element name ps xs)
head_back name [] items xs rises read = plain_head name items xs read
head_back name (p ∷ ps) items xs rises read =
    ap (λ ms. element_in (item (string name) (item (object ms) items))) (with_pairs-in_order (p ∷ ps) rises)
    ∙ ap (option_and_then (λ pairs. option_map (element name pairs) (children_in [] items))) (attributes_in-in_order (p ∷ ps)) ∙ ap (option_map (element name (p ∷ ps))) read

head_json : (name : List ℕ) (ps : List Pair) (items : Items) → are_rising ps ≡ true → of_items (items_outline items) ≡ Some items
    → of_items (items_outline (item (string name) (with_object ps items))) ≡ Some (item (string name) (with_object ps items))
head_json name [] items rises json = ap (option_map (item (string name))) json
head_json name (p ∷ ps) items rises json =
    let ms : Members = with_pairs no_members (p ∷ ps) in
    let sorted : ms ≡ in_order (p ∷ ps) = with_pairs-in_order (p ∷ ps) rises in
    let same : of_members (members_outline ms) no_members ≡ Some ms = ap (λ m. of_members (members_outline m) no_members) sorted ∙ of_members-in_order no_members (p ∷ ps) in
    ap (λ o. option_map (item (string name)) (option_and_then (λ d. option_map (item d) (of_items (items_outline items))) (option_map object o))) same
    ∙ ap (λ o. option_map (item (string name)) (option_map (item (object ms)) o)) json

head_depth : (name : List ℕ) (ps : List Pair) (items : Items) (n : ℕ) → are_rising ps ≡ true → tree.items_depth (items_outline items) ≤ suc n → tree.items_depth (items_outline (item (string name) (with_object ps items))) ≤ suc n
head_depth name [] items n rises h = omega arith
head_depth name (p ∷ ps) items n rises h =
    omega (arith, ap (λ m. tree.members_depth (members_outline m)) (with_pairs-in_order (p ∷ ps) rises), depth-in_order (p ∷ ps))

abbrev Level : Type 0
Level = LitElement-F Child ((e : LitElement) × ReadsElement e)

level_reads : (y : Level) → ReadsElement (roll-LitElement (record { name = y.name; attributes = y.attributes; children = lits y.children }))
level_reads y =
    let xs = lits y.children in
    let e : LitElement = element y.name y.attributes xs in
    let inner : Items = items_of (map value_of xs) in
    let shape : shape_of_element e ≡ element_shape (record { name = y.name; attributes = y.attributes; children = map shape_of xs }) =
    fold-roll-LitElement Shape Shape lit_shape element_shape (record { name = y.name; attributes = y.attributes; children = xs }) in
    let parts = λ (h : (shape_of_element e).is_plain ≡ true). and_parts (are_rising y.attributes) (are_apart false (map shape_of xs)) (sym (ap (λ s. s.is_plain) shape) ∙ h) in
    record {
      items = item (string y.name) (with_object y.attributes inner);
      value = fold-roll-LitElement Data Data lit_value element_value (record { name = y.name; attributes = y.attributes; children = xs });
      is_text = ap (λ s. s.is_text) shape;
      back = λ h. head_back y.name y.attributes inner xs (parts h).0 (children_back [] y.children (parts h).1);
      json = λ h. head_json y.name y.attributes inner (parts h).0 (children_json false y.children (parts h).1);
      depth = λ h. subst (λ s. tree.items_depth (items_outline (item (string y.name) (with_object y.attributes inner))) ≤ s.nesting) (sym shape)
          (head_depth y.name y.attributes inner (deepest (map shape_of xs)) (parts h).0 (children_depth false y.children (parts h).1));
    }

lit_reads : (y : Lit-F Child ((e : LitElement) × ReadsElement e)) → Reads (roll-Lit (map-Lit Child ((e : LitElement) × ReadsElement e) Lit LitElement (λ c. c.0) (λ c. c.0) y))
lit_reads (Lit-F.Text t) = inl (t, rolls-Text t)
lit_reads (Lit-F.Element e) = inr (e.0, rolls-Element e.0, e.1)

reads : (x : Lit) → Reads x
reads = ind-Lit Reads ReadsElement (λ x y is. subst (λ z. Reads (roll-Lit z)) is (lit_reads y)) (λ x y is. subst (λ z. ReadsElement (roll-LitElement z)) is (level_reads y))

-- ---- the whole text

abbrev whole : Option (json.Json × List Token) → Option Data
whole o = option_and_then of_json (option_and_then (λ p. json.if_last p.0 p.1) o)

by_case : (lit : Lit) → Reads lit → IsPlain lit → (bytes : List ℕ) → IsUtf8 bytes → tokens bytes ≡ tree.json_tokens (outline (value_of lit)) → lit_in bytes ≡ Ok lit
by_case lit (inl h) plain bytes utf8 same = absurd (false≢true (sym plain.element ∙ ap (λ s. s.is_text) (ap shape_of h.1 ∙ shape_of-Text h.0)))
by_case lit (inr h) plain bytes utf8 same =
    let j = outline (value_of lit) in
    let is : value_of lit ≡ array h.2.items = ap value_of h.1 ∙ value_of-Element h.0 ∙ h.2.value in
    let kept : (shape_of_element h.0).is_plain ≡ true = sym (ap (λ s. s.is_plain) (ap shape_of h.1 ∙ shape_of-Element h.0)) ∙ plain.plain in
    let parsed : read bytes ≡ Some (value_of lit) =
    ap whole (ap (json.value 127) (same ∙ sym (append-nil (tree.json_tokens j))) ∙ value-json_tokens j 127 [] (omega (arith, child_depth lit (inr h) plain.plain, plain.shallow))) ∙ child_json lit (inr h) plain.plain in
    ap read_or_fault (value_when bytes (value_of lit) utf8 parsed) ∙ ap lit_or_fault (ap lit_of is ∙ ap (option_map Element) (h.2.back kept)) ∙ ap Ok (sym h.1)

-- the text that is printed of a plain tree spells that tree
pub reads_back : (lit : Lit) (bytes : List ℕ) → IsPlain lit → IsUtf8 bytes → tokens bytes ≡ tree.json_tokens (outline (value_of lit)) → lit_in bytes ≡ Ok lit
reads_back lit bytes plain utf8 same = by_case lit (reads lit) plain bytes utf8 same
