-- An attribute with another text: one slot changes, and with it one node.
use Rattle.std.proofs.Common.{◌≡◌, ℕ, ◌+◌, ◌-◌, ◌≤◌, ◌^◌, ◌==◌, ◌||◌, not, cond, if◌then◌else◌, Bool, true, false, List, [], ◌∷◌, ◌++◌, map, length, take, drop, get_or, Option, Some, None, IsSome, refl, sym, ap, ◌∙◌, subst, inl, inr, arith, append-nil}
use Rattle.std.specs.Prelude.{option_map}
use Rattle.std.proofs.lemmas.Bool.{cases_Bool}
use Rattle.slab.specs.Slab.{Slab, get, Updates}
use Rattle.xf_def_forest.specs.declared.content.Node.{Node}
use Rattle.xf_def_forest.specs.declared.content.Content.{Content}
use Rattle.xf_def_forest.specs.declared.content.Content.TheVariants.{Root, Element, Attribute, Text}
use Rattle.xf_def_forest.specs.declared.content.Kind.{Kind}
use Rattle.xf_def_forest.specs.declared.content.Kind.TheVariants as kind
use Rattle.xf_def_forest.specs.Forest.{is_root, is_attribute, is_text, own_text, kind_of, kind_at, has_number, first_tree, tree_of}
use Rattle.xf_def_forest.specs.Limits.{limits, unless, node_count, all_size, size_of}
use Rattle.xf_def_forest.specs.Texts.{KeptText, Keeping, attribute_text, with_value, with_attribute_text, is_attribute_at, value_in, text_set}
use Rattle.xf_def_forest.specs.Settle.{numbered_text_set}
use Rattle.xf_tree_rows.specs.declared.rows.Row.{Row}
use Rattle.xf_tree_rows.specs.Rows.{no_row}
use Rattle.xf_tree_contents.specs.Slot.{Slot}
use Rattle.xf_tree_contents.specs.Keys.{kept_of, number_in, content_in, kept_times}
use Rattle.xf_tree_contents.specs.Slots.{valued_slot}
use Rattle.xf_tree_contents.proofs.AlikeLemmas.{eq-true}
use Rattle.xf_tree_contents.proofs.FreeLemmas.{same-key}
use Rattle.xf_tree_walks.specs.Nodes.{node_of, times, AllLive, AllTops, StandsAt}
use Rattle.xf_tree_walks.specs.Leaves.{is_leaf, parts_in, AreLeaves}
use Rattle.xf_tree_walks.specs.First.{attribute_depth, AreFirst}
use Rattle.xf_tree_walks.proofs.NodeLemmas.{Parted, parted-from, times-append, times-here}
use Rattle.xf_tree_walks.proofs.PlaceLemmas.{stands, times-at, parted-at}
use Rattle.xf_tree_walks.proofs.StackLemmas.{absent-parts}
use Rattle.xf_tree_walks.proofs.LeafLemmas.{parts-append}
use Rattle.xf_tree_walks.proofs.CountLemmas.{nodes-append, sizes-append, nodes-cons, sizes-cons}
use Rattle.xf_tree_walks.proofs.RootLemmas.{tops-parts}
use Rattle.xf_tree_changes.specs.Texts.{passed_by}
use Rattle.xf_tree.specs.State.{AllKept, IsSound, IsState, keeping_of}
use Rattle.xf_tree.proofs.MeansLemmas.{one_of, content-means}
use Rattle.xf_tree.proofs.FirstBelowLemmas.{first-changed}
use Rattle.xf_tree.proofs.ForestLemmas.{tops-append}
use Rattle.xf_tree.proofs.DropLemmas.{kept-where}

-- ---- kinds

pub kind-live : (n : ℕ) (k : Kind) (nodes : List Node) → kind_at n nodes ≡ Some k → has_number n nodes ≡ true
kind-live n k [] h = cc
kind-live n k (x ∷ xs) h = elim (cases_Bool (x.number == n)) [
  | inl e ↦ rw e refl
  | inr e ↦ rw e (kind-live n k xs (rw e at h))
]

pub attribute-kind : (c : Content) → Some (kind_of c) ≡ Some kind.Attribute → is_attribute c ≡ true
attribute-kind Root e = absurd (wrong e)
  where
    wrong : ◌≡◌ {A = Option Kind} (Some kind.Root) (Some kind.Attribute) → ⊥
    wrong e = cc
attribute-kind (Element name) e = absurd (wrong e)
  where
    wrong : ◌≡◌ {A = Option Kind} (Some kind.Element) (Some kind.Attribute) → ⊥
    wrong e = cc
attribute-kind (Attribute name text) e = refl
attribute-kind (Text text) e = absurd (wrong e)
  where
    wrong : ◌≡◌ {A = Option Kind} (Some kind.Text) (Some kind.Attribute) → ⊥
    wrong e = cc

-- of the one node with this number it is told whether it is an attribute
pub attribute-at : (n : ℕ) (nodes us : List Node) (x : Node) (xs : List Node) → Parted n nodes us x xs → is_attribute_at n nodes ≡ is_attribute x.content
attribute-at n nodes us x xs p = ap (is_attribute_at n) p.whole ∙ go us p.before
  where
    none : (zs : List Node) → has_number n zs ≡ false → is_attribute_at n zs ≡ false
    none [] h = refl
    none (z ∷ zs) h = let q = absent-parts n z zs h in rw q.0 (none zs q.1)

    alone : (b : Bool) → (b || false) ≡ b
    alone true = refl
    alone false = refl

    go : (zs : List Node) → has_number n zs ≡ false → is_attribute_at n (zs ++ (x ∷ xs)) ≡ is_attribute x.content
    go [] h = rw (eq-true x.number n p.number, none xs p.after) (alone (is_attribute x.content))
    go (z ∷ zs) h = let q = absent-parts n z zs h in rw q.0 (go zs q.1)

-- ---- the slot with another text

value-number : (text : List ℕ) (o : Option Slot) → number_in (option_map (valued_slot text) o) ≡ number_in o
value-number text None = refl
value-number text (Some v) = refl

value-content : (text : List ℕ) (o : Option Slot) → content_in (option_map (valued_slot text) o) ≡ with_value text (content_in o)
value-content text None = refl
value-content text (Some v) = refl

value-some : (text : List ℕ) (o : Option Slot) → IsSome o → IsSome (option_map (valued_slot text) o)
value-some text None h = h
value-some text (Some v) h = refl

pub value-root : (text : List ℕ) (c : Content) → is_root (with_value text c) ≡ is_root c
value-root text Root = refl
value-root text (Element name) = refl
value-root text (Attribute name old) = refl
value-root text (Text old) = refl

value-leaf : (text : List ℕ) (c : Content) → is_leaf (with_value text c) ≡ is_leaf c
value-leaf text Root = refl
value-leaf text (Element name) = refl
value-leaf text (Attribute name old) = refl
value-leaf text (Text old) = refl

value-attribute : (text : List ℕ) (c : Content) → is_attribute (with_value text c) ≡ is_attribute c
value-attribute text Root = refl
value-attribute text (Element name) = refl
value-attribute text (Attribute name old) = refl
value-attribute text (Text old) = refl

value-behind : (text : List ℕ) (d : ℕ) (c : Content) → attribute_depth d (with_value text c) ≡ attribute_depth d c
value-behind text d Root = refl
value-behind text d (Element name) = refl
value-behind text d (Attribute name old) = refl
value-behind text d (Text old) = refl

-- a content for another, where both are of leaves or neither is
leaves-changed : (us : List (ℕ × Content)) (d : ℕ) (c c2 : Content) (xs : List (ℕ × Content)) → is_leaf c2 ≡ is_leaf c → AreLeaves (us ++ ((d, c) ∷ xs)) → AreLeaves (us ++ ((d, c2) ∷ xs))
leaves-changed [] d c c2 xs h a = (λ e. a.0 (sym h ∙ e), a.1)
leaves-changed (u ∷ []) d c c2 xs h a = (a.0, leaves-changed [] d c c2 xs h a.1)
leaves-changed (u ∷ (v ∷ us)) d c c2 xs h a = (a.0, leaves-changed (v ∷ us) d c c2 xs h a.1)

value-size : (text : List ℕ) (c : Content) → is_attribute c ≡ true → size_of (with_value text c) + length (own_text c) ≡ size_of c + length text
value-size text Root e = cc e
value-size text (Element name) e = cc e
value-size text (Attribute name old) e = omega arith
value-size text (Text old) e = cc e

abbrev one-if : Bool → ℕ
one-if b = if b then 1 else 0

one-true : (a b : ℕ) → a ≡ b → one-if (a == b) ≡ 1
one-true a b e = rw (eq-true a b e) refl

pub kept-live_where : (s s2 : Slab Slot) (keys : List ℕ) → ((key : ℕ) → 1 ≤ kept_times (number_in (get s key)) (map (kept_of s) keys) → get s2 key ≡ get s key) → AllKept s keys → AllKept s2 keys
kept-live_where s s2 [] h live = tt
kept-live_where s s2 (k ∷ ks) h live =
    let one = one-true (number_in (get s k)) (number_in (get s k)) refl in
    (ap (λ o. is_text (content_in o)) (h k (omega arith)) ∙ live.0, kept-live_where s s2 ks (λ key some. h key (omega arith)) live.1)

module _ (s s2 : Slab Slot) (n key : ℕ) (text : List ℕ) (is : number_in (get s key) ≡ n) (up : Updates s s2 key (option_map (valued_slot text) (get s key))) where
  -- rows of other nodes are of what they were
  others-same : (rs : List Row) → times n (map (node_of s) rs) ≡ 0 → map (node_of s2) rs ≡ map (node_of s) rs
  others-same [] none = refl
  others-same (r ∷ rs) none =
      let i = others-same rs (omega arith) in
      elim (same-key r.key key) [
        | inl ne ↦ ap (λ o. record { number = number_in o; depth = r.depth; content = content_in o } ∷ map (node_of s2) rs) (up.others r.key ne) ∙ ap (λ l. node_of s r ∷ l) i
        | inr e ↦ absurd (let one = one-true (number_in (get s r.key)) n (ap (λ k. number_in (get s k)) e ∙ is) in omega arith)
      ]

  live-same : (rs : List Row) → AllLive s rs → AllLive s2 rs
  live-same [] live = tt
  live-same (r ∷ rs) live = (
    elim (same-key r.key key) [
      | inl ne ↦ subst IsSome (sym (up.others r.key ne)) live.0
      | inr e ↦ subst IsSome (sym (ap (get s2) e ∙ up.changed)) (value-some text (get s key) (subst (λ k. IsSome (get s k)) e live.0))
    ],
    live-same rs live.1,
  )

  small-same : ((k : ℕ) → size_of (content_in (get s k)) ≤ 2 ^ 66) → size_of (content_in (get s2 key)) ≤ 2 ^ 66 → (k : ℕ) → size_of (content_in (get s2 k)) ≤ 2 ^ 66
  small-same small one k = elim (same-key k key) [
    | inl ne ↦ omega (arith, small k, ap (λ o. size_of (content_in o)) (up.others k ne))
    | inr e ↦ omega (arith, one, ap (λ j. size_of (content_in (get s2 j))) e)
  ]

valued-others : (n : ℕ) (text : List ℕ) (xs : List Node) → has_number n xs ≡ false → with_attribute_text n text xs ≡ xs
valued-others n text [] h = refl
valued-others n text (x ∷ xs) h = let q = absent-parts n x xs h in rw q.0 (ap (λ l. x ∷ l) (valued-others n text xs q.1))

valued-go : (n : ℕ) (text : List ℕ) (us : List Node) (x : Node) (xs : List Node) → x.number ≡ n → has_number n us ≡ false → has_number n xs ≡ false
    → with_attribute_text n text (us ++ (x ∷ xs)) ≡ us ++ (record { number = x.number; depth = x.depth; content = with_value text x.content } ∷ xs)
valued-go n text [] x xs e h k = rw (eq-true x.number n e) (ap (λ l. record { number = x.number; depth = x.depth; content = with_value text x.content } ∷ l) (valued-others n text xs k))
valued-go n text (u ∷ us) x xs e h k = let q = absent-parts n u us h in rw q.0 (ap (λ l. u ∷ l) (valued-go n text us x xs e q.1 k))

module _ (s : Slab Slot) (n at : ℕ) (text : List ℕ) (rows : List Row) (kept : List ℕ) (next total size room : ℕ) (state : IsState s rows kept next total size room) (here : StandsAt s rows n at)
    (kind : kind_at n (map (node_of s) rows) ≡ Some kind.Attribute) where
  abbrev pub r : Row
  r = get_or rows at no_row

  abbrev pub us : List Node
  us = map (node_of s) (take at rows)

  abbrev pub xs : List Node
  xs = map (node_of s) (drop (at + 1) rows)

  abbrev pub x : Node
  x = node_of s (get_or rows at no_row)

  abbrev pub y : Node
  y = record { number = number_in (get s (get_or rows at no_row).key); depth = (get_or rows at no_row).depth; content = with_value text (content_in (get s (get_or rows at no_row).key)) }

  pub parted : Parted n (map (node_of s) rows) us x xs
  parted = stands s n at rows here (one_of s rows kept next n state.sound)

  pub is-attribute : is_attribute (content_in (get s (get_or rows at no_row).key)) ≡ true
  is-attribute = attribute-kind x.content (sym (ap (option_map kind_of) (content-means s n at rows kept next state.sound here)) ∙ kind)

  pub few : times n us + times n xs ≡ 0
  few =
      let e = ap (times n) parted.whole ∙ times-here n us x xs here.number in
      omega (arith, one_of s rows kept next n state.sound)

  pub set-nodes : with_attribute_text n text (map (node_of s) rows) ≡ us ++ (y ∷ xs)
  set-nodes = ap (with_attribute_text n text) parted.whole ∙ valued-go n text us x xs here.number parted.before parted.after

  pub set-count : node_count (with_attribute_text n text (map (node_of s) rows)) ≡ total
  set-count =
      let root = ap {B = ℕ} (λ b. cond (not b) 1 0) (value-root text x.content) in
      let a = ap node_count set-nodes ∙ nodes-append us (y ∷ xs) in
      let b = ap node_count parted.whole ∙ nodes-append us (x ∷ xs) in
      omega (arith, nodes-cons y xs, nodes-cons x xs, state.counted.count)

  pub set-bytes : all_size (with_attribute_text n text (map (node_of s) rows)) + size_of x.content ≡ size + size_of (with_value text x.content)
  set-bytes =
      let a = ap all_size set-nodes ∙ sizes-append us (y ∷ xs) in
      let b = ap all_size parted.whole ∙ sizes-append us (x ∷ xs) in
      omega (arith, sizes-cons y xs, sizes-cons x xs, state.counted.bytes)

  pub own-least : length (own_text x.content) ≤ size
  own-least =
      let b = ap all_size parted.whole ∙ sizes-append us (x ∷ xs) in
      omega (arith, sizes-cons x xs, state.counted.bytes)

  -- the bytes with another text, by the length of the old one
  pub set-all : all_size (with_attribute_text n text (map (node_of s) rows)) ≡ size - length (own_text x.content) + length text
  set-all = omega (arith, set-bytes, value-size text x.content is-attribute, own-least)

  pub value-there : is_attribute_at n (map (node_of s) rows) ≡ true
  value-there = attribute-at n _ us x xs parted ∙ is-attribute

  pub value-had : value_in (tree_of n (map (node_of s) rows)) ≡ own_text x.content
  value-had = ap (λ l. value_in (first_tree l)) (parted-from n _ us x xs parted)

  -- what is given where the text is set
  pub value-set : text_set limits n text (keeping_of s rows kept next)
      ≡ unless (passed_by total (length text) (size - length (own_text x.content) + length text))
      (attribute_text (own_text x.content), record { forest = record { nodes = with_attribute_text n text (map (node_of s) rows); next = next }; kept = map (kept_of s) kept })
  value-set =
      let plus : next + 0 ≡ next = omega arith in
      let nil = append-nil (map (kept_of s) kept) in
      let had = value-had in
      let count = set-count in
      let bytes = set-all in
      rw value-there (rw (plus, nil, had, count, bytes) refl)

  -- and where it is written, whatever number comes with it
  pub value-written : (number : ℕ) → numbered_text_set number n text (keeping_of s rows kept next)
      ≡ (attribute_text (own_text x.content), record { forest = record { nodes = with_attribute_text n text (map (node_of s) rows); next = next }; kept = map (kept_of s) kept })
  value-written number =
      let nil = append-nil (map (kept_of s) kept) in
      let had = value-had in
      rw value-there (rw (nil, had) refl)

  module _ (s2 : Slab Slot) (up : Updates s s2 (get_or rows at no_row).key (option_map (valued_slot text) (get s (get_or rows at no_row).key))) where
    value-parts : map (node_of s2) rows ≡ us ++ (y ∷ xs)
    value-parts =
        let f = node_of s2 in
        let a = others-same s s2 n r.key text here.number up (take at rows) (omega (arith, few)) in
        let b = others-same s s2 n r.key text here.number up (drop (at + 1) rows) (omega (arith, few)) in
        let m : node_of s2 r ≡ y = ap (λ o. record { number = number_in o; depth = r.depth; content = content_in o }) up.changed
        ∙ ap (λ k. record { number = k; depth = r.depth; content = content_in (option_map (valued_slot text) (get s r.key)) }) (value-number text (get s r.key))
        ∙ ap (λ c. record { number = x.number; depth = r.depth; content = c }) (value-content text (get s r.key)) in
        parted-at f at rows no_row here.within ∙ ap (λ l. l ++ (f r ∷ map f (drop (at + 1) rows))) a ∙ ap (λ l. us ++ (f r ∷ l)) b ∙ ap (λ z. us ++ (z ∷ xs)) m

    value-nodes : map (node_of s2) rows ≡ with_attribute_text n text (map (node_of s) rows)
    value-nodes = value-parts ∙ sym set-nodes

    kept-at : (key : ℕ) → 1 ≤ kept_times (number_in (get s key)) (map (kept_of s) kept) → get s2 key ≡ get s key
    kept-at key some = elim (same-key key r.key) [
      | inl ne ↦ up.others key ne
      | inr e ↦ absurd (
          let same : number_in (get s key) ≡ n = ap (λ k. number_in (get s k)) e ∙ here.number in
          let more = ap (λ m. kept_times m (map (kept_of s) kept)) same in
          omega (arith, state.sound.apart n, times-at s n at rows here.within here.number)
          )
    ]

    value-kept : map (kept_of s2) kept ≡ map (kept_of s) kept
    value-kept = kept-where s s2 kept kept-at

    value-times : (m : ℕ) → times m (map (node_of s2) rows) ≡ times m (map (node_of s) rows)
    value-times m = ap (times m) value-parts ∙ times-append m us (y ∷ xs) ∙ sym (times-append m us (x ∷ xs)) ∙ ap (times m) (sym parted.whole)

    value-tops : AllTops (map (node_of s2) rows)
    value-tops =
        let t = tops-parts us (x ∷ xs) (subst AllTops parted.whole state.sound.tops) in
        subst AllTops (sym value-parts) (tops-append us (y ∷ xs) t.0 (λ e. t.1.0 (sym (value-root text x.content) ∙ e), t.1.1))

    value-leaves : AreLeaves (parts_in (map (node_of s2) rows))
    value-leaves =
        let was = subst AreLeaves (ap parts_in parted.whole ∙ parts-append us (x ∷ xs)) state.sound.leaves in
        subst AreLeaves (sym (ap parts_in value-parts ∙ parts-append us (y ∷ xs))) (leaves-changed (parts_in us) x.depth x.content y.content (parts_in xs) (value-leaf text x.content) was)

    value-first : AreFirst 0 (parts_in (map (node_of s2) rows))
    value-first =
        let was = subst (AreFirst 0) (ap parts_in parted.whole ∙ parts-append us (x ∷ xs)) state.sound.first in
        subst (AreFirst 0) (sym (ap parts_in value-parts ∙ parts-append us (y ∷ xs)))
        (first-changed 0 (parts_in us) x.depth x.content y.content (parts_in xs) (value-attribute text x.content) (value-behind text x.depth x.content) was)

    value-sound : IsSound s2 rows kept next
    value-sound = record {
      sized = state.sound.sized;
      steps = state.sound.steps;
      few = state.sound.few;
      live = live-same s s2 n r.key text here.number up rows state.sound.live;
      kept_live = kept-live_where s s2 kept kept-at state.sound.kept_live;
      tops = value-tops;
      leaves = value-leaves;
      first = value-first;
      apart = λ m. omega (arith, state.sound.apart m, value-times m, ap (kept_times m) value-kept);
      fresh = λ m h. omega (arith, state.sound.fresh m h, value-times m, ap (kept_times m) value-kept);
    }

    pub value-state : (size2 : ℕ) → size2 ≡ size - size_of (content_in (get s r.key)) + size_of (content_in (get s2 r.key)) → size_of (content_in (get s2 r.key)) ≤ 2 ^ 66
        → IsState s2 rows kept next total size2 room
    value-state size2 e one =
        let same : content_in (get s2 r.key) ≡ with_value text x.content = ap content_in up.changed ∙ value-content text (get s r.key) in
        let least = sizes-cons x xs in
        let b = ap all_size parted.whole ∙ sizes-append us (x ∷ xs) in
        record {
          sound = value-sound;
          counted = record {
            count = sym set-count ∙ ap node_count (sym value-nodes);
            bytes = omega (arith, e, set-bytes, ap all_size value-nodes, ap size_of same, state.counted.bytes, least, b);
            small = small-same s s2 n r.key text here.number up state.counted.small one;
          };
          room = state.room;
        }

    pub value-view : keeping_of s2 rows kept next ≡ record { forest = record { nodes = with_attribute_text n text (map (node_of s) rows); next = next }; kept = map (kept_of s) kept }
    value-view =
        let whole : List Node → List KeptText → Keeping = λ l k. record { forest = record { nodes = l; next = next }; kept = k } in
        ap (λ l. whole l (map (kept_of s2) kept)) value-nodes ∙ ap (whole (with_attribute_text n text (map (node_of s) rows))) value-kept
