-- What is sought among the nodes of a walk.
use Rattle.std.proofs.Common.{◌≡◌, ℕ, zero, suc, ◌+◌, ◌-◌, ◌<◌, ◌≤◌, ◌&&◌, Bool, true, false, List, [], ◌∷◌, ◌++◌, map, length, drop, slice_get, Option, Some, None, option_map, append-nil, refl, sym, ap, ◌∙◌, arith, get_or}
use Rattle.std.specs.Prelude.{filter}
use Rattle.std.proofs.Math.ListN.{drop_of_length-le}
use Rattle.slab.specs.Slab.{Slab, get}
use Rattle.xf_name.specs.declared.axis.Axis.{Axis}
use Rattle.xf_name.specs.declared.axis.Axis.TheVariants as axis
use Rattle.xf_def_forest.specs.declared.content.Node.{Node}
use Rattle.xf_def_forest.specs.Axis.{axis_of, axis_from}
use Rattle.xf_def_forest.specs.Forest.{content_at, has_number}
use Rattle.xf_def_forest.specs.Visit.{Visit, numbers, visits}
use Rattle.xf_tree_rows.specs.declared.rows.Row.{Row}
use Rattle.xf_tree_rows.specs.Rows.{AllDeep, parent_row_of, tree_of, no_row}
use Rattle.xf_tree_rows.proofs.RowLemmas.{split-at}
use Rattle.xf_tree_contents.specs.declared.sought.Sought.{Sought}
use Rattle.xf_tree_contents.specs.Slot.{Slot}
use Rattle.xf_tree_contents.specs.Sought.{is_met, is_sought, met_on}
use Rattle.xf_tree_contents.specs.Keys.{content_in, same_kind}
use Rattle.xf_tree_walks.specs.declared.walk.Left.{Left}
use Rattle.xf_tree_walks.specs.declared.walk.Left.TheVariants.{Attributes}
use Rattle.xf_tree_walks.specs.Found.{alone_where, is_met_in, left_met, walk_met, sought_within, is_kin_sought, IsFound}
use Rattle.xf_tree_walks.specs.Nodes.{node_of, is_kin}
use Rattle.xf_tree_walks.specs.Walks.{attributes_ahead, between, chosen, left_of, number_of_row, walk_of, IsStep, AreNodes}
use Rattle.xf_tree_walks.proofs.AxisLemmas.{self-axis, child-axis, attribute-axis, parent-axis}
use Rattle.xf_tree_walks.proofs.PlaceLemmas.{stands}
use Rattle.xf_tree_walks.proofs.NodeLemmas.{parted-node}
use Rattle.xf_tree_walks.proofs.ReadLemmas.{find-none}
use Rattle.xf_tree_walks.proofs.WalkLemmas.{Behind, behind, kin-found, kin-passed, between-first, between-none, chosen-yes, chosen-no}

-- on no axis from a node that is not there
pub met-absent : (axis : Axis) (sought : Sought) (nodes : List Node) (n : ℕ) → has_number n nodes ≡ false → met_on axis sought nodes n ≡ []
met-absent axis sought nodes n h = ap (λ m. filter (λ k. is_met sought (content_at k nodes)) (map (λ (x : Visit). x.number) (axis_from axis (visits nodes) m))) (find-none n [] nodes h)

first-ahead : (d : ℕ) (y : Node) (ys : List Node) → is_kin d true y ≡ true → numbers (attributes_ahead d (y ∷ ys)) ≡ y.number ∷ numbers (attributes_ahead d ys)
first-ahead d y ys e = rw e refl

none-ahead : (d : ℕ) (y : Node) (ys : List Node) → is_kin d true y ≡ false → numbers (attributes_ahead d (y ∷ ys)) ≡ []
none-ahead d y ys e = rw e refl

module _ (s : Slab Slot) (rows : List Row) (sought : Sought) (nodes : AreNodes s rows) where
  -- a node is sought by what it is
  pub met-is : (at : ℕ) → at < length rows → is_met_in s rows sought (number_of_row s rows at) ≡ is_sought sought (content_in (get s (get_or rows at no_row).key))
  met-is at within =
      let n = number_of_row s rows at in
      ap (is_met sought) (ap (option_map (λ (x : Node). x.content)) (parted-node n _ _ _ _ (stands s n at rows (record { within = within; number = refl }) (nodes.apart n))))

  pub kept : (n : ℕ) (ns : List ℕ) → is_met_in s rows sought n ≡ true → filter (is_met_in s rows sought) (n ∷ ns) ≡ n ∷ filter (is_met_in s rows sought) ns
  kept n ns e = rw e refl

  pub passed : (n : ℕ) (ns : List ℕ) → is_met_in s rows sought n ≡ false → filter (is_met_in s rows sought) (n ∷ ns) ≡ filter (is_met_in s rows sought) ns
  passed n ns e = rw e refl

  pub step-found : (old new : Left) (at : ℕ) → IsStep s rows old at new → is_sought sought (content_in (get s (get_or rows at no_row).key)) ≡ true → IsFound s rows sought old at new
  step-found old new at i e = record {
    within = i.within;
    ready = i.ready;
    rest = ap (filter (is_met_in s rows sought)) i.rest ∙ kept (number_of_row s rows at) (left_of s rows new) (met-is at i.within ∙ e);
  }

  pub step-passed : (old new : Left) (at : ℕ) → IsStep s rows old at new → is_sought sought (content_in (get s (get_or rows at no_row).key)) ≡ false
      → left_met s rows sought new ≡ left_met s rows sought old
  step-passed old new at i e = sym (ap (filter (is_met_in s rows sought)) i.rest ∙ passed (number_of_row s rows at) (left_of s rows new) (met-is at i.within ∙ e))

  pub and-first : (a b : Bool) → (a && b) ≡ true → a ≡ true
  and-first true b h = refl
  and-first false b h = h

  pub and-second : (a b : Bool) → (a && b) ≡ true → b ≡ true
  and-second true b h = h
  and-second false b h = cc h

  -- ---- among trees

  pub trees-passed : (d next end stop : ℕ) → Behind s d (same_kind false) rows next end stop → next < length rows → is_kin_sought d sought (node_of s (get_or rows next no_row)) ≡ false
      → sought_within s rows sought (is_kin d false) stop end ≡ sought_within s rows sought (is_kin d false) next end
  trees-passed d next end stop b within e = by (is_kin d false (node_of s (get_or rows next no_row))) refl e
    where
      by : (k : Bool) → is_kin d false (node_of s (get_or rows next no_row)) ≡ k → (k && is_sought sought (content_in (get s (get_or rows next no_row).key))) ≡ false
          → sought_within s rows sought (is_kin d false) stop end ≡ sought_within s rows sought (is_kin d false) next end
      by true h other =
          sym (ap (filter (is_met_in s rows sought)) (kin-found s d (same_kind false) rows next end stop b h)
          ∙ passed (number_of_row s rows next) (chosen s (is_kin d false) (between stop end rows)) (met-is next within ∙ other))
      by false h other = ap (filter (is_met_in s rows sought)) (kin-passed s d (same_kind false) rows next end stop b h)

  pub trees-found : (d next end stop : ℕ) → Behind s d (same_kind false) rows next end stop → next < length rows → is_kin_sought d sought (node_of s (get_or rows next no_row)) ≡ true
      → sought_within s rows sought (is_kin d false) next end ≡ number_of_row s rows next ∷ sought_within s rows sought (is_kin d false) stop end
  trees-found d next end stop b within e =
      let kin = is_kin d false (node_of s (get_or rows next no_row)) in
      let is = is_sought sought (content_in (get s (get_or rows next no_row).key)) in
      ap (filter (is_met_in s rows sought)) (kin-found s d (same_kind false) rows next end stop b (and-first kin is e))
      ∙ kept (number_of_row s rows next) (chosen s (is_kin d false) (between stop end rows)) (met-is next within ∙ and-second kin is e)

  -- where the next that is found stands
  pub trees-next : (d next here end : ℕ) → here < end → end ≤ length rows → AllDeep d (between here end rows)
      → sought_within s rows sought (is_kin d false) here end ≡ sought_within s rows sought (is_kin d false) next end → is_kin_sought d sought (node_of s (get_or rows here no_row)) ≡ true
      → sought_within s rows sought (is_kin d false) next end ≡ number_of_row s rows here ∷ sought_within s rows sought (is_kin d false) (here + length (tree_of (drop here rows))) end
  trees-next d next here end l m deep same e =
      let stop = here + length (tree_of (drop here rows)) in
      sym same ∙ trees-found d here end stop (behind s d (same_kind false) rows here end stop l m deep refl) (omega (arith, l, m)) e

  pub trees-on : (d next end stop : ℕ) (b : Bool) → Behind s d (same_kind false) rows next end stop → next < length rows → b ≡ is_kin_sought d sought (node_of s (get_or rows next no_row))
      → sought_within s rows sought (is_kin d false) next end ≡ alone_where b (number_of_row s rows next) ++ sought_within s rows sought (is_kin d false) stop end
  trees-on d next end stop true b within e = trees-found d next end stop b within (sym e)
  trees-on d next end stop false b within e = sym (trees-passed d next end stop b within (sym e))

  pub within-none : (test : Node → Bool) (next end : ℕ) → end ≤ next → sought_within s rows sought test next end ≡ []
  within-none test next end h = ap (λ l. filter (is_met_in s rows sought) (chosen s test l)) (between-none next end rows h)

  -- ---- among rows

  pub rows-passed : (test : Node → Bool) (next end : ℕ) → next < end → end ≤ length rows → next < length rows
      → (test (node_of s (get_or rows next no_row)) && is_sought sought (content_in (get s (get_or rows next no_row).key))) ≡ false
      → sought_within s rows sought test (next + 1) end ≡ sought_within s rows sought test next end
  rows-passed test next end l m within e = by (test (node_of s (get_or rows next no_row))) refl e
    where
      by : (k : Bool) → test (node_of s (get_or rows next no_row)) ≡ k → (k && is_sought sought (content_in (get s (get_or rows next no_row).key))) ≡ false
          → sought_within s rows sought test (next + 1) end ≡ sought_within s rows sought test next end
      by true h other =
          sym (ap (filter (is_met_in s rows sought)) (ap (chosen s test) (between-first next end rows l m) ∙ chosen-yes s test (get_or rows next no_row) (between (next + 1) end rows) h)
          ∙ passed (number_of_row s rows next) (chosen s test (between (next + 1) end rows)) (met-is next within ∙ other))
      by false h other =
          sym (ap (filter (is_met_in s rows sought)) (ap (chosen s test) (between-first next end rows l m) ∙ chosen-no s test (get_or rows next no_row) (between (next + 1) end rows) h))

  pub rows-found : (test : Node → Bool) (next end : ℕ) → next < end → end ≤ length rows → next < length rows
      → (test (node_of s (get_or rows next no_row)) && is_sought sought (content_in (get s (get_or rows next no_row).key))) ≡ true
      → sought_within s rows sought test next end ≡ number_of_row s rows next ∷ sought_within s rows sought test (next + 1) end
  rows-found test next end l m within e =
      let meets = test (node_of s (get_or rows next no_row)) in
      let is = is_sought sought (content_in (get s (get_or rows next no_row).key)) in
      ap (filter (is_met_in s rows sought)) (ap (chosen s test) (between-first next end rows l m) ∙ chosen-yes s test (get_or rows next no_row) (between (next + 1) end rows) (and-first meets is e))
      ∙ kept (number_of_row s rows next) (chosen s test (between (next + 1) end rows)) (met-is next within ∙ and-second meets is e)

  pub rows-on : (test : Node → Bool) (next end : ℕ) (b : Bool) → next < end → end ≤ length rows → next < length rows
      → b ≡ (test (node_of s (get_or rows next no_row)) && is_sought sought (content_in (get s (get_or rows next no_row).key)))
      → sought_within s rows sought test next end ≡ alone_where b (number_of_row s rows next) ++ sought_within s rows sought test (next + 1) end
  rows-on test next end true l m within e = rows-found test next end l m within (sym e)
  rows-on test next end false l m within e = sym (rows-passed test next end l m within (sym e))

  -- ---- a node that comes first

  one-by : (at : ℕ) (ns : List ℕ) (b : Bool) → at < length rows → is_sought sought (content_in (get s (get_or rows at no_row).key)) ≡ b
      → filter (is_met_in s rows sought) (number_of_row s rows at ∷ ns) ≡ alone_where b (number_of_row s rows at) ++ filter (is_met_in s rows sought) ns
  one-by at ns true within e = kept (number_of_row s rows at) ns (met-is at within ∙ e)
  one-by at ns false within e = passed (number_of_row s rows at) ns (met-is at within ∙ e)

  pub one-on : (at : ℕ) (ns : List ℕ) → at < length rows
      → filter (is_met_in s rows sought) (number_of_row s rows at ∷ ns) ≡ alone_where (is_sought sought (content_in (get s (get_or rows at no_row).key))) (number_of_row s rows at) ++ filter (is_met_in s rows sought) ns
  one-on at ns within = one-by at ns (is_sought sought (content_in (get s (get_or rows at no_row).key))) within refl

  -- ---- among attributes

  pub attributes-on : (d at : ℕ) → at < length rows → is_kin d true (node_of s (get_or rows at no_row)) ≡ true
      → left_met s rows sought (Attributes at d) ≡ alone_where (is_sought sought (content_in (get s (get_or rows at no_row).key))) (number_of_row s rows at) ++ left_met s rows sought (Attributes (at + 1) d)
  attributes-on d at within e =
      ap (filter (is_met_in s rows sought)) (ap (λ l. numbers (attributes_ahead d (map (node_of s) l))) (split-at at rows no_row within) ∙ first-ahead d (node_of s (get_or rows at no_row)) (map (node_of s) (drop (at + 1) rows)) e)
      ∙ one-on at (numbers (attributes_ahead d (map (node_of s) (drop (at + 1) rows)))) within

  pub attributes-stop : (d at : ℕ) → at < length rows → is_kin d true (node_of s (get_or rows at no_row)) ≡ false → left_met s rows sought (Attributes at d) ≡ []
  attributes-stop d at within e =
      ap (filter (is_met_in s rows sought)) (ap (λ l. numbers (attributes_ahead d (map (node_of s) l))) (split-at at rows no_row within) ∙ none-ahead d (node_of s (get_or rows at no_row)) (map (node_of s) (drop (at + 1) rows)) e)

  pub attributes-end : (d at : ℕ) → length rows ≤ at → left_met s rows sought (Attributes at d) ≡ []
  attributes-end d at h = ap (λ l. filter (is_met_in s rows sought) (numbers (attributes_ahead d (map (node_of s) l)))) (drop_of_length-le rows h)

  -- ---- on each axis

  pub child-met : (a : Axis) (at end d : ℕ) → at < length rows → a ≡ axis.Child → end ≡ at + length (tree_of (drop at rows)) → d ≡ (get_or rows at no_row).depth + 1
      → sought_within s rows sought (is_kin d false) (at + 1) end ≡ met_on a sought (map (node_of s) rows) (number_of_row s rows at)
  child-met a at end d within is ends deep = rw (is, ends, deep) (ap (filter (is_met_in s rows sought)) (child-axis s rows at nodes within))

  pub attribute-met : (a : Axis) (at d : ℕ) → at < length rows → a ≡ axis.Attribute → d ≡ (get_or rows at no_row).depth + 1
      → left_met s rows sought (Attributes (at + 1) d) ≡ met_on a sought (map (node_of s) rows) (number_of_row s rows at)
  attribute-met a at d within is deep = rw (is, deep) (ap (filter (is_met_in s rows sought)) (attribute-axis s rows at nodes within))

  pub alone : (at : ℕ) → at < length rows
      → alone_where (is_sought sought (content_in (get s (get_or rows at no_row).key))) (number_of_row s rows at) ≡ filter (is_met_in s rows sought) (number_of_row s rows at ∷ [])
  alone at within = sym (one-on at [] within ∙ append-nil (alone_where (is_sought sought (content_in (get s (get_or rows at no_row).key))) (number_of_row s rows at)))

  pub self-met : (a : Axis) (at : ℕ) → at < length rows → a ≡ axis.Self_
      → alone_where (is_sought sought (content_in (get s (get_or rows at no_row).key))) (number_of_row s rows at) ≡ met_on a sought (map (node_of s) rows) (number_of_row s rows at)
  self-met a at within is = rw is (alone at within ∙ ap (filter (is_met_in s rows sought)) (self-axis s rows at nodes within))

  pub parent-met : (a : Axis) (at above : ℕ) → at < length rows → above < length rows → a ≡ axis.Parent → Some above ≡ parent_row_of rows at
      → alone_where (is_sought sought (content_in (get s (get_or rows above no_row).key))) (number_of_row s rows above) ≡ met_on a sought (map (node_of s) rows) (number_of_row s rows at)
  parent-met a at above within inside is e = rw is (alone above inside ∙ ap (filter (is_met_in s rows sought)) (parent-axis s rows at (Some above) nodes within e))

  pub no_parent-met : (a : Axis) (at : ℕ) → at < length rows → a ≡ axis.Parent → None ≡ parent_row_of rows at → [] ≡ met_on a sought (map (node_of s) rows) (number_of_row s rows at)
  no_parent-met a at within is e = rw is (ap (filter (is_met_in s rows sought)) (parent-axis s rows at None nodes within e))

  pub axis-met : (a : Axis) (at : ℕ) (first : Option ℕ) (left : Left) → walk_of s rows first left ≡ axis_of a (number_of_row s rows at) (visits (map (node_of s) rows))
      → walk_met s rows sought first left ≡ met_on a sought (map (node_of s) rows) (number_of_row s rows at)
  axis-met a at first left e = ap (filter (is_met_in s rows sought)) e

  -- ---- the first node of a walk

  pub first-found : (first : Option ℕ) (at : ℕ) (left : Left) → first ≡ Some at → at < length rows → is_sought sought (content_in (get s (get_or rows at no_row).key)) ≡ true
      → walk_met s rows sought first left ≡ number_of_row s rows at ∷ left_met s rows sought left
  first-found first at left is within e =
      ap (λ f. walk_met s rows sought f left) is ∙ kept (number_of_row s rows at) (left_of s rows left) (met-is at within ∙ e)

  pub first-passed : (first : Option ℕ) (at : ℕ) (left : Left) → first ≡ Some at → at < length rows → is_sought sought (content_in (get s (get_or rows at no_row).key)) ≡ false
      → walk_met s rows sought first left ≡ left_met s rows sought left
  first-passed first at left is within e =
      ap (λ f. walk_met s rows sought f left) is ∙ passed (number_of_row s rows at) (left_of s rows left) (met-is at within ∙ e)

-- behind the first of a list
pub get-behind : (n at : ℕ) (ns : List ℕ) → (at ≡ 0 → ⊥) → slice_get (n ∷ ns) at ≡ slice_get ns (at - 1)
get-behind n zero ns h = absurd (h refl)
get-behind n (suc at) ns h = let e : at ≡ suc at - 1 = omega arith in ap (slice_get ns) e
