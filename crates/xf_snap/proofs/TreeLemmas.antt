-- The folds over a tree, level by level.
use Rattle.std.proofs.Common.{◌≡◌, ℕ, suc, ◌+◌, ◌-◌, List, [], ◌∷◌, ◌++◌, map, length, refl, sym, ◌∙◌, ap}
use Rattle.std.specs.Prelude.{Bool, true, ◌&&◌, nat_le, nat_lt, sum, sum_by}
use Rattle.std.specs.List.{flat_map, list_all}
use Rattle.std.specs.Str.{is_utf8}
use Rattle.xf_def_forest.specs.declared.bare.Bare.{Bare}
use Rattle.xf_def_forest.specs.declared.bare.Bare.TheVariants as bare
use Rattle.xf_def_forest.specs.declared.bare.Bare.TheOpen.{Bare-F, BareElement-F}
use Rattle.xf_def_forest.specs.declared.bare.Bare.TheFolds.{fold-roll-Bare, fold-roll-BareElement, fold_out-BareElement}
use Rattle.xf_def_forest.specs.declared.bare.Bare.TheViews.{roll-BareElement}
use Rattle.xf_def_forest.specs.declared.bare.BareElement.{BareElement}
use Rattle.xf_def_forest.specs.Limits.{limits}
use Rattle.xf_snap.specs.Numbers.{two, four}
use Rattle.xf_snap.specs.Spelling.{text_bytes, name_bytes, attribute_bytes, tree_level, element_level, tree_bytes, element_bytes}
use Rattle.xf_snap.specs.Within.{is_fit_name, is_fit_attribute, fit_level, fit_element, is_fit, is_fit_part, is_typed_name, is_typed_attribute, typed_level, typed_element, is_typed, is_typed_part, node_level, node_element, tree_nodes, element_nodes, attribute_size, size_level, size_element, tree_size, element_size}
use Rattle.xf_snap.proofs.SeveralLemmas.{flat_map-map, list_all-map, sum-map}

-- an element's level, with its children as they are
abbrev pub Level : Type 0
Level = BareElement-F Bare BareElement

-- ---- the bytes

map-length : {X Y : Type 0} (f : X → Y) (xs : List X) → length (map f xs) ≡ length xs
map-length f [] = refl
map-length f (x ∷ xs) = ap suc (map-length f xs)

pub bytes-text : (text : List ℕ) → tree_bytes (bare.Text text) ≡ 1 ∷ text_bytes text
bytes-text text = ap tree_bytes (sym (bare.rolls-Text text)) ∙ fold-roll-Bare (List ℕ) (List ℕ) tree_level element_level (Bare-F.Text text)

pub bytes-element : (e : BareElement) → tree_bytes (bare.Element e) ≡ 0 ∷ element_bytes e
bytes-element e = ap tree_bytes (sym (bare.rolls-Element e)) ∙ fold-roll-Bare (List ℕ) (List ℕ) tree_level element_level (Bare-F.Element e)

pub bytes-level : (e : Level) → element_bytes (roll-BareElement e)
    ≡ name_bytes e.name ++ (two (length e.attributes) ++ (flat_map attribute_bytes e.attributes ++ (four (length e.children) ++ flat_map tree_bytes e.children)))
bytes-level e =
    fold-roll-BareElement (List ℕ) (List ℕ) tree_level element_level e
    ∙ (λ i. name_bytes e.name ++ (two (length e.attributes) ++ (flat_map attribute_bytes e.attributes ++ (four (map-length tree_bytes e.children i) ++ flat_map-map tree_bytes (λ c. c) e.children i))))

-- ---- how deep it may be, and how long its texts and names

pub fit-text : (text : List ℕ) (depth : ℕ) → is_fit (bare.Text text) depth ≡ nat_le (length text) limits.text
fit-text text depth = ap (λ (f : ℕ → Bool). f depth) (ap is_fit (sym (bare.rolls-Text text)) ∙ fold-roll-Bare (ℕ → Bool) (ℕ → Bool) fit_level fit_element (Bare-F.Text text))

pub fit-element : (e : BareElement) (depth : ℕ) → is_fit (bare.Element e) depth ≡ is_fit_part e depth
fit-element e depth = ap (λ (f : ℕ → Bool). f depth) (ap is_fit (sym (bare.rolls-Element e)) ∙ fold-roll-Bare (ℕ → Bool) (ℕ → Bool) fit_level fit_element (Bare-F.Element e))

pub fit-level : (e : Level) (depth : ℕ) → is_fit_part (roll-BareElement e) depth
    ≡ (nat_lt 0 depth && is_fit_name e.name && list_all is_fit_attribute e.attributes && list_all (λ child. is_fit child (depth - 1)) e.children)
fit-level e depth =
    ap (λ (f : ℕ → Bool). f depth) (fold-roll-BareElement (ℕ → Bool) (ℕ → Bool) fit_level fit_element e)
    ∙ ap (λ (b : Bool). nat_lt 0 depth && is_fit_name e.name && list_all is_fit_attribute e.attributes && b) (list_all-map is_fit (λ child. child (depth - 1)) e.children)

-- ---- what the types keep

pub typed-text : (text : List ℕ) → is_typed (bare.Text text) ≡ is_utf8 text
typed-text text = ap is_typed (sym (bare.rolls-Text text)) ∙ fold-roll-Bare Bool Bool typed_level typed_element (Bare-F.Text text)

pub typed-element : (e : BareElement) → is_typed (bare.Element e) ≡ is_typed_part e
typed-element e = ap is_typed (sym (bare.rolls-Element e)) ∙ fold-roll-Bare Bool Bool typed_level typed_element (Bare-F.Element e)

pub typed-level : (e : Level) → is_typed_part (roll-BareElement e) ≡ (is_typed_name e.name && list_all is_typed_attribute e.attributes && list_all is_typed e.children)
typed-level e =
    fold-roll-BareElement Bool Bool typed_level typed_element e
    ∙ ap (λ (b : Bool). is_typed_name e.name && list_all is_typed_attribute e.attributes && b) (list_all-map is_typed (λ child. child) e.children)

-- ---- how much it has

pub nodes-text : (text : List ℕ) → tree_nodes (bare.Text text) ≡ 1
nodes-text text = ap tree_nodes (sym (bare.rolls-Text text)) ∙ fold-roll-Bare ℕ ℕ node_level node_element (Bare-F.Text text)

pub nodes-element : (e : BareElement) → tree_nodes (bare.Element e) ≡ element_nodes e
nodes-element e = ap tree_nodes (sym (bare.rolls-Element e)) ∙ fold-roll-Bare ℕ ℕ node_level node_element (Bare-F.Element e)

pub nodes-level : (e : Level) → element_nodes (roll-BareElement e) ≡ suc (length e.attributes + sum_by tree_nodes e.children)
nodes-level e = fold-roll-BareElement ℕ ℕ node_level node_element e ∙ ap (λ (n : ℕ). suc (length e.attributes + n)) (sum-map tree_nodes e.children)

pub size-text : (text : List ℕ) → tree_size (bare.Text text) ≡ length text
size-text text = ap tree_size (sym (bare.rolls-Text text)) ∙ fold-roll-Bare ℕ ℕ size_level size_element (Bare-F.Text text)

pub size-element : (e : BareElement) → tree_size (bare.Element e) ≡ element_size e
size-element e = ap tree_size (sym (bare.rolls-Element e)) ∙ fold-roll-Bare ℕ ℕ size_level size_element (Bare-F.Element e)

pub size-level : (e : Level) → element_size (roll-BareElement e) ≡ length e.name.local + (sum_by attribute_size e.attributes + sum_by tree_size e.children)
size-level e = fold-roll-BareElement ℕ ℕ size_level size_element e ∙ ap (λ (n : ℕ). length e.name.local + (sum_by attribute_size e.attributes + n)) (sum-map tree_size e.children)

-- ---- the same of any element

pub bytes-out : (e : BareElement) → element_bytes e
    ≡ name_bytes e.name ++ (two (length e.attributes) ++ (flat_map attribute_bytes e.attributes ++ (four (length e.children) ++ flat_map tree_bytes e.children)))
bytes-out e =
    fold_out-BareElement (List ℕ) (List ℕ) tree_level element_level e
    ∙ (λ i. name_bytes e.name ++ (two (length e.attributes) ++ (flat_map attribute_bytes e.attributes ++ (four (map-length tree_bytes e.children i) ++ flat_map-map tree_bytes (λ c. c) e.children i))))

pub fit-out : (e : BareElement) (depth : ℕ) → is_fit_part e depth
    ≡ (nat_lt 0 depth && is_fit_name e.name && list_all is_fit_attribute e.attributes && list_all (λ child. is_fit child (depth - 1)) e.children)
fit-out e depth =
    ap (λ (f : ℕ → Bool). f depth) (fold_out-BareElement (ℕ → Bool) (ℕ → Bool) fit_level fit_element e)
    ∙ ap (λ (b : Bool). nat_lt 0 depth && is_fit_name e.name && list_all is_fit_attribute e.attributes && b) (list_all-map is_fit (λ child. child (depth - 1)) e.children)

pub typed-out : (e : BareElement) → is_typed_part e ≡ (is_typed_name e.name && list_all is_typed_attribute e.attributes && list_all is_typed e.children)
typed-out e =
    fold_out-BareElement Bool Bool typed_level typed_element e
    ∙ ap (λ (b : Bool). is_typed_name e.name && list_all is_typed_attribute e.attributes && b) (list_all-map is_typed (λ child. child) e.children)

pub nodes-out : (e : BareElement) → element_nodes e ≡ suc (length e.attributes + sum_by tree_nodes e.children)
nodes-out e = fold_out-BareElement ℕ ℕ node_level node_element e ∙ ap (λ (n : ℕ). suc (length e.attributes + n)) (sum-map tree_nodes e.children)

pub size-out : (e : BareElement) → element_size e ≡ length e.name.local + (sum_by attribute_size e.attributes + sum_by tree_size e.children)
size-out e = fold_out-BareElement ℕ ℕ size_level size_element e ∙ ap (λ (n : ℕ). length e.name.local + (sum_by attribute_size e.attributes + n)) (sum-map tree_size e.children)
