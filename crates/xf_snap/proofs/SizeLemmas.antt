-- How many bytes a snapshot has at most.
use Rattle.std.proofs.Common.{◌≡◌, ◌≤◌, ◌<◌, ℕ, suc, ◌+◌, ◌*◌, ◌^◌, List, [], ◌∷◌, ◌++◌, map, length, refl, sym, ◌∙◌, ap, subst, arith, length-append}
use Rattle.std.specs.Prelude.{sum_by}
use Rattle.std.specs.List.{flat_map}
use Rattle.std.proofs.lemmas.List.Sums.{sum_by-cons}
use Rattle.xf_name.specs.declared.qname.QName.{QName}
use Rattle.xf_def_forest.specs.declared.bare.Bare.{Bare}
use Rattle.xf_def_forest.specs.declared.bare.Bare.TheVariants as bare
use Rattle.xf_def_forest.specs.declared.bare.Bare.TheOpen.{Bare-F, BareElement-F}
use Rattle.xf_def_forest.specs.declared.bare.Bare.TheFolds.{map-Bare, ind-Bare}
use Rattle.xf_def_forest.specs.declared.bare.Bare.TheViews.{roll-Bare, roll-BareElement}
use Rattle.xf_def_forest.specs.declared.bare.BareElement.{BareElement}
use Rattle.xf_def_forest.specs.declared.bare.BareAttribute.{BareAttribute}
use Rattle.xf_snap.specs.declared.snap.Snap.{Snap}
use Rattle.xf_snap.specs.Numbers.{two, four, eight}
use Rattle.xf_snap.specs.Spelling.{text_bytes, name_bytes, attribute_bytes, tree_bytes, element_bytes, bytes_of}
use Rattle.xf_snap.specs.Within.{attribute_size, tree_nodes, element_nodes, tree_size, element_size, IsWithin}
use Rattle.xf_snap.proofs.NumberLemmas.{wide_two, wide_four, wide_eight}
use Rattle.xf_snap.proofs.TreeLemmas.{Level, bytes-text, bytes-element, bytes-level, nodes-text, nodes-element, nodes-level, size-text, size-element, size-level}

length-text : (text : List ℕ) → length (text_bytes text) ≡ 4 + length text
length-text text = omega (arith, length-append (four (length text)) text, wide_four.len (length text))

length-name : (name : QName) → length (name_bytes name) ≡ 5 + length name.local
length-name name =
    omega (
      arith,
      length-append (two name.space) (two name.prefix ++ (length name.local ∷ name.local)),
      length-append (two name.prefix) (length name.local ∷ name.local),
      wide_two.len name.space,
      wide_two.len name.prefix,
    )

length-attributes : (xs : List BareAttribute) → length (flat_map attribute_bytes xs) ≡ 9 * length xs + sum_by attribute_size xs
length-attributes [] = refl
length-attributes (x ∷ xs) =
    omega (
      arith,
      length-append (attribute_bytes x) (flat_map attribute_bytes xs),
      length-append (name_bytes x.name) (text_bytes x.text),
      length-name x.name,
      length-text x.text,
      length-attributes xs,
      sum_by-cons attribute_size x xs,
    )

abbrev TreeShort : Bare → Type 0
TreeShort t = length (tree_bytes t) ≤ 12 * tree_nodes t + tree_size t

abbrev ElementShort : BareElement → Type 0
ElementShort e = length (element_bytes e) + 1 ≤ 12 * element_nodes e + element_size e

abbrev Below : Type 0
Below = (x : Bare) × TreeShort x

abbrev Part : Type 0
Part = (e : BareElement) × ElementShort e

abbrev trees_of : List Below → List Bare
trees_of ys = map (λ c. c.0) ys

length-children : (ys : List Below) → length (flat_map tree_bytes (trees_of ys)) ≤ 12 * sum_by tree_nodes (trees_of ys) + sum_by tree_size (trees_of ys)
length-children [] = omega arith
length-children (y ∷ ys) =
    omega (
      arith,
      length-append (tree_bytes y.0) (flat_map tree_bytes (trees_of ys)),
      y.1,
      length-children ys,
      sum_by-cons tree_nodes y.0 (trees_of ys),
      sum_by-cons tree_size y.0 (trees_of ys),
    )

text_short : (text : List ℕ) → TreeShort (bare.Text text)
text_short text = omega (arith, ap length (bytes-text text), length-text text, nodes-text text, size-text text)

element_short : (e : BareElement) → ElementShort e → TreeShort (bare.Element e)
element_short e short = omega (arith, ap length (bytes-element e), nodes-element e, size-element e, short)

tree_short : (y : Bare-F Below Part) → TreeShort (roll-Bare (map-Bare Below Part Bare BareElement (λ c. c.0) (λ c. c.0) y))
tree_short (Bare-F.Text text) = subst TreeShort (sym (bare.rolls-Text text)) (text_short text)
tree_short (Bare-F.Element e) = subst TreeShort (sym (bare.rolls-Element e.0)) (element_short e.0 e.1)

part_short : (y : BareElement-F Below Part) → ElementShort (roll-BareElement (record { name = y.name; attributes = y.attributes; children = trees_of y.children }))
part_short y =
    let e : Level = record { name = y.name; attributes = y.attributes; children = trees_of y.children } in
    let attributes = flat_map attribute_bytes e.attributes in
    let children = flat_map tree_bytes e.children in
    omega (
      arith,
      ap length (bytes-level e),
      length-append (name_bytes e.name) (two (length e.attributes) ++ (attributes ++ (four (length e.children) ++ children))),
      length-append (two (length e.attributes)) (attributes ++ (four (length e.children) ++ children)),
      length-append attributes (four (length e.children) ++ children),
      length-append (four (length e.children)) children,
      length-name e.name,
      wide_two.len (length e.attributes),
      length-attributes e.attributes,
      wide_four.len (length e.children),
      length-children y.children,
      nodes-level e,
      size-level e,
    )

pub trees_short : (t : Bare) → TreeShort t
trees_short = ind-Bare TreeShort ElementShort (λ x y is. subst (λ z. TreeShort (roll-Bare z)) is (tree_short y)) (λ x y is. subst (λ z. ElementShort (roll-BareElement z)) is (part_short y))

length-trees : (xs : List Bare) → length (flat_map tree_bytes xs) ≤ 12 * sum_by tree_nodes xs + sum_by tree_size xs
length-trees [] = omega arith
length-trees (x ∷ xs) =
    omega (
      arith,
      length-append (tree_bytes x) (flat_map tree_bytes xs),
      trees_short x,
      length-trees xs,
      sum_by-cons tree_nodes x xs,
      sum_by-cons tree_size x xs,
    )

length-fours : (xs : List ℕ) → length (flat_map four xs) ≡ 4 * length xs
length-fours [] = refl
length-fours (x ∷ xs) = omega (arith, length-append (four x) (flat_map four xs), wide_four.len x, length-fours xs)

length-twos : (xs : List ℕ) → length (flat_map two xs) ≡ 2 * length xs
length-twos [] = refl
length-twos (x ∷ xs) = omega (arith, length-append (two x) (flat_map two xs), wide_two.len x, length-twos xs)

pub bytes_few : (s : Snap) → IsWithin s → length (bytes_of s) ≤ 12 * 2 ^ 20
bytes_few s within =
    let documents = flat_map tree_bytes s.documents in
    let indexes = flat_map four s.indexes in
    let cases = flat_map two s.cases in
    let behind_indexes = two (length s.cases) ++ cases in
    let behind_documents = two (length s.indexes) ++ (indexes ++ behind_indexes) in
    omega (
      arith,
      length-append (eight s.accepted) (two (length s.documents) ++ (documents ++ behind_documents)),
      length-append (two (length s.documents)) (documents ++ behind_documents),
      length-append documents behind_documents,
      length-append (two (length s.indexes)) (indexes ++ behind_indexes),
      length-append indexes behind_indexes,
      length-append (two (length s.cases)) cases,
      wide_eight.len s.accepted,
      wide_two.len (length s.documents),
      wide_two.len (length s.indexes),
      wide_two.len (length s.cases),
      length-trees s.documents,
      length-fours s.indexes,
      length-twos s.cases,
      within.nodes,
      within.size,
      within.few_indexes,
      within.few_cases,
    )
