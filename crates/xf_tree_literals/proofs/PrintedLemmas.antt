-- Trees that wait for the namespace in force above them, and the same trees made where that is known beforehand.
use Rattle.std.proofs.Common.{◌≡◌, ℕ, ◌≤◌, List, [], ◌∷◌, ◌-◌, map, length, take, drop, get_or, Some, refl, sym, ap, ◌∙◌, inl, inr, arith}
use Rattle.std.proofs.lemmas.Bool.{cases_lt, false≢true}
use Rattle.std.proofs.Math.Seq.{take-length}
use Rattle.slab.specs.Slab.{Slab, get}
use Rattle.xf_name.specs.declared.lit.Pair.{Pair}
use Rattle.xf_name.specs.declared.lit.Lit.{Lit}
use Rattle.xf_name.specs.Bindings.{Bindings}
use Rattle.xf_def_forest.specs.declared.content.Node.{Node}
use Rattle.xf_def_forest.specs.declared.content.Content.{Content}
use Rattle.xf_def_forest.specs.declared.content.Content.TheVariants.{Root, Element, Attribute, Text}
use Rattle.xf_def_forest.specs.Forest.{written}
use Rattle.xf_def_forest.specs.Literal.{Part, attribute_part, tree_part, attributes_in, trees_in, inner, outer, gathered, first_tree_in}
use Rattle.xf_def_forest.specs.Printed.{Printing, printing, printed_as, prefixes_in, element, with_default, with_pairs, inside, in_force}
use Rattle.xf_tree_rows.specs.declared.rows.Row.{Row}
use Rattle.xf_tree_rows.proofs.SizedLemmas.{lt-true, lt-false}
use Rattle.xf_tree_contents.specs.Slot.{Slot}
use Rattle.xf_tree_contents.specs.Keys.{content_in}
use Rattle.xf_tree_walks.specs.Nodes.{node_of}
use Rattle.xf_tree_literals.specs.declared.gather.Below.{Below}
use Rattle.xf_tree_literals.specs.declared.spaces.Line.{Line}
use Rattle.xf_tree_literals.specs.declared.gather.Below.TheVariants as below
use Rattle.xf_tree_literals.specs.Print.{IsPrintable, shown, placed, left_at, space_in, force_in, with_spaces, lit_part, lits_in}

-- a part where the namespace above it and the declarations at its top are known
abbrev made : ℕ → List Pair → Part Pair Printing → Part Pair Lit
made space declared (attribute_part a) = attribute_part a
made space declared (tree_part t) = tree_part (t space declared)

-- each part by the nodes around it
abbrev applied : List (ℕ × ℕ) → List (ℕ × Part Pair Printing) → List (ℕ × Part Pair Lit)
applied around [] = []
applied around (p ∷ ps) = (p.0, made (space_in (left_at p.0 around)) [] p.1) ∷ applied around ps

-- no part is deeper than the one before it
abbrev Falls : ℕ → List (ℕ × Part Pair Printing) → Type 0
Falls most [] = Unit {0}
Falls most (p ∷ ps) = (p.0 ≤ most) × Falls p.0 ps

falls-outer : (depth most : ℕ) (ps : List (ℕ × Part Pair Printing)) → Falls most ps → Falls depth (outer depth ps)
falls-outer depth most [] f = tt
falls-outer depth most (p ∷ ps) f = elim (cases_lt depth p.0) [
  | inl h ↦ rw (lt-true depth p.0 h) (falls-outer depth p.0 ps f.1)
  | inr h ↦ rw (lt-false depth p.0 h) (h, f.1)
]

-- some depth bounds the parts of nodes
record Bounded (ps : List (ℕ × Part Pair Printing)) : Type 0 where
  pub most : ℕ
  pub falls : Falls most ps

gathered-falls : (b : Bindings) (xs : List Node) → Bounded (gathered (printing b) xs)
gathered-falls b [] = record { most = 0; falls = tt }
gathered-falls b (x ∷ xs) =
    let i = gathered-falls b xs in
    let here : x.depth ≤ x.depth = omega arith in
    record { most = x.depth; falls = (here, falls-outer x.depth i.most (gathered (printing b) xs) i.falls) }

-- ---- what is around a node

-- what is around a node of this depth is so for one that is less deep
left-less : (depth less : ℕ) (around : List (ℕ × ℕ)) → less ≤ depth → left_at less (left_at depth around) ≡ left_at less around
left-less depth less [] h = refl
left-less depth less (p ∷ ps) h = elim (cases_lt p.0 depth) [
  | inl l ↦ rw (lt-true p.0 depth l) refl
  | inr l ↦
      let past : less ≤ p.0 = omega arith in
      rw (lt-false p.0 depth l, lt-false p.0 less past) (left-less depth less ps h)
]

inner-applied : (depth space : ℕ) (rest : List (ℕ × ℕ)) (ps : List (ℕ × Part Pair Printing))
    → inner depth (applied ((depth, space) ∷ rest) ps) ≡ map (made space []) (inner depth ps)
inner-applied depth space rest [] = refl
inner-applied depth space rest (p ∷ ps) = elim (cases_lt depth p.0) [
  | inl h ↦ rw (lt-true depth p.0 h) (ap (λ l. made space [] p.1 ∷ l) (inner-applied depth space rest ps))
  | inr h ↦ rw (lt-false depth p.0 h) refl
]

applied-less : (depth space most : ℕ) (around : List (ℕ × ℕ)) (ps : List (ℕ × Part Pair Printing)) → most ≤ depth → Falls most ps
    → applied ((depth, space) ∷ left_at depth around) ps ≡ applied around ps
applied-less depth space most around [] h f = refl
applied-less depth space most around (p ∷ ps) h f =
    let low : p.0 ≤ depth = omega (arith, f.0) in
    let here : left_at p.0 ((depth, space) ∷ left_at depth around) ≡ left_at p.0 around = rw (lt-false depth p.0 low) (left-less depth p.0 around low) in
    ap (λ l. (p.0, made (space_in l) [] p.1) ∷ applied ((depth, space) ∷ left_at depth around) ps) here
    ∙ ap (λ l. (p.0, made (space_in (left_at p.0 around)) [] p.1) ∷ l) (applied-less depth space p.0 around ps low f.1)

outer-applied : (depth space : ℕ) (around : List (ℕ × ℕ)) (ps : List (ℕ × Part Pair Printing)) (most : ℕ) → Falls most ps
    → outer depth (applied ((depth, space) ∷ left_at depth around) ps) ≡ applied around (outer depth ps)
outer-applied depth space around [] most f = refl
outer-applied depth space around (p ∷ ps) most f = elim (cases_lt depth p.0) [
  | inl h ↦ rw (lt-true depth p.0 h) (outer-applied depth space around ps p.0 f.1)
  | inr h ↦
      let here : p.0 ≤ p.0 = omega arith in
      let same = applied-less depth space p.0 around (p ∷ ps) h (here, f.1) in
      rw (lt-false depth p.0 h) (rw (lt-false depth p.0 h) at same)
]

-- ---- parts that are made

attributes-made : (space : ℕ) (ps : List (Part Pair Printing)) → attributes_in (map (made space []) ps) ≡ attributes_in ps
attributes-made space [] = refl
attributes-made space (attribute_part a ∷ ps) = ap (λ l. a ∷ l) (attributes-made space ps)
attributes-made space (tree_part t ∷ ps) = attributes-made space ps

trees-made : (space : ℕ) (ps : List (Part Pair Printing)) → trees_in (map (made space []) ps) ≡ map (inside space) (trees_in ps)
trees-made space [] = refl
trees-made space (attribute_part a ∷ ps) = trees-made space ps
trees-made space (tree_part t ∷ ps) = ap (λ l. t space [] ∷ l) (trees-made space ps)

printing-made : (b : Bindings) (above : ℕ) (declared : List Pair) (c : Content) (ps : List (Part Pair Printing))
    → made above declared (printing b c ps) ≡ lit_part b above declared c (map (made (force_in above c) []) ps)
printing-made b above declared Root ps = refl
printing-made b above declared (Text text) ps = refl
printing-made b above declared (Attribute name text) ps = refl
printing-made b above declared (Element name) ps =
    ap (λ l. tree_part (element (written name) (with_default b above name (with_pairs l declared)) (map (inside (in_force above name)) (trees_in ps)))) (sym (attributes-made (in_force above name) ps))
    ∙ ap (λ l. tree_part (element (written name) (with_default b above name (with_pairs (attributes_in (map (made (in_force above name) []) ps)) declared)) l)) (sym (trees-made (in_force above name) ps))

lits-made : (b : Bindings) (around : List (ℕ × ℕ)) (xs : List Node) → applied around (gathered (printing b) xs) ≡ lits_in b (with_spaces around xs)
lits-made b around [] = refl
lits-made b around (x ∷ xs) =
    let rest = left_at x.depth around in
    let above = space_in rest in
    let space = force_in above x.content in
    let after = gathered (printing b) xs in
    let g = gathered-falls b xs in
    let i = lits-made b ((x.depth, space) ∷ rest) xs in
    let here = printing-made b above [] x.content (inner x.depth after) ∙ ap (lit_part b above [] x.content) (sym (inner-applied x.depth space rest after) ∙ ap (inner x.depth) i) in
    let past = sym (outer-applied x.depth space around after g.most g.falls) ∙ ap (outer x.depth) i in
    ap (λ p. (x.depth, p) ∷ applied around (outer x.depth after)) here
    ∙ ap (λ l. (x.depth, lit_part b above [] x.content (inner x.depth (lits_in b (with_spaces ((x.depth, space) ∷ rest) xs)))) ∷ l) past

-- ---- the top

top-made : (b : Bindings) (nodes : List Node) (declared : List Pair) (d : ℕ) (p : Part Pair Printing) (ps : List (ℕ × Part Pair Printing)) (tree : Lit) → declared ≡ prefixes_in b nodes → tree_part tree ≡ made 0 declared p
    → Some tree ≡ printed_as b nodes (first_tree_in ((d, p) ∷ ps))
top-made b nodes declared d (attribute_part a) ps tree is e = cc
top-made b nodes declared d (tree_part t) ps tree is e = let same : tree ≡ t 0 declared = cc in ap Some (same ∙ ap (t 0) is)

printed-top : (b : Bindings) (nodes : List Node) (l : ℕ × Node) (ls : List (ℕ × Node)) (declared : List Pair) (tree : Lit) → l ∷ ls ≡ with_spaces [] nodes → declared ≡ prefixes_in b nodes
    → tree_part tree ≡ lit_part b l.0 declared l.1.content (inner l.1.depth (lits_in b ls)) → Some tree ≡ printed_as b nodes (first_tree_in (gathered (printing b) nodes))
printed-top b [] l ls declared tree lines is e = cc
printed-top b (x ∷ xs) l ls declared tree lines is e =
    let space = force_in 0 x.content in
    let after = gathered (printing b) xs in
    let first : l ≡ (0, x) = cc in
    let rest : ls ≡ with_spaces ((x.depth, space) ∷ []) xs = cc in
    let here = ap (λ (m : ℕ × Node). lit_part b m.0 declared m.1.content (inner m.1.depth (lits_in b ls))) first
    ∙ ap (λ ms. lit_part b 0 declared x.content (inner x.depth (lits_in b ms))) rest
    ∙ ap (λ ps. lit_part b 0 declared x.content (inner x.depth ps)) (sym (lits-made b ((x.depth, space) ∷ []) xs))
    ∙ ap (lit_part b 0 declared x.content) (inner-applied x.depth space [] after)
    ∙ sym (printing-made b 0 declared x.content (inner x.depth after)) in
    top-made b (x ∷ xs) declared x.depth (printing b x.content (inner x.depth after)) (outer x.depth after) tree is (e ∙ here)

-- the same by the lines that were noted
pub printed-lines : (s : Slab Slot) (b : Bindings) (rows : List Row) (lines one : List Line) (l : Line) (declared : List Pair) (stack : List (ℕ × Part Pair Lit)) (part : Below Pair Lit) (tree : Lit)
    → IsPrintable (map (node_of s) rows) → map (placed s) lines ≡ with_spaces [] (map (node_of s) rows) → one ≡ lines → l ≡ get_or lines 0 l → declared ≡ prefixes_in b (map (node_of s) rows)
    → stack ≡ lits_in b (map (placed s) (take (length one - 1) (drop 1 one))) → shown part ≡ lit_part b l.above declared (content_in (get s l.row.key)) (inner l.row.depth stack) → part ≡ below.Tree tree
    → Some tree ≡ printed_as b (map (node_of s) rows) (first_tree_in (gathered (printing b) (map (node_of s) rows)))
printed-lines s b [] [] one l declared stack part tree may noted is first told stacked shows is_tree = absurd (false≢true may)
printed-lines s b (r ∷ rs) [] one l declared stack part tree may noted is first told stacked shows is_tree = cc
printed-lines s b rows (m ∷ ms) one l declared stack part tree may noted is first told stacked shows is_tree =
    let size : length (m ∷ ms) - 1 ≡ length ms = omega arith in
    let rest : take (length one - 1) (drop 1 one) ≡ ms = ap (λ k. take (length k - 1) (drop 1 k)) is ∙ ap (λ n. take n ms) size ∙ take-length ms in
    let here : tree_part tree ≡ lit_part b m.above declared (content_in (get s m.row.key)) (inner m.row.depth (lits_in b (map (placed s) ms))) =
    sym (ap shown is_tree) ∙ shows ∙ ap (λ (k : Line). lit_part b k.above declared (content_in (get s k.row.key)) (inner k.row.depth stack)) first
    ∙ ap (λ st. lit_part b m.above declared (content_in (get s m.row.key)) (inner m.row.depth st)) (stacked ∙ ap (λ k. lits_in b (map (placed s) k)) rest) in
    printed-top b (map (node_of s) rows) (placed s m) (map (placed s) ms) declared tree noted told here
