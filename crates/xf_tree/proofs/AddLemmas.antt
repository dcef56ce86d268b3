-- A tree that came in behind all others.
use Rattle.std.proofs.Common.{◌≡◌, ℕ, suc, ◌+◌, ◌<◌, ◌≤◌, ◌^◌, ◌*◌, ◌==◌, ◌&&◌, ◌||◌, get_or, Bool, true, false, List, [], ◌∷◌, ◌++◌, map, length, take, drop, Option, Some, None, IsSome, refl, sym, ap, ◌∙◌, subst, inl, inr, nat_lt, if◌then◌else◌, arith, length-append}
use Rattle.std.proofs.lemmas.Bool.{cases_lt}
use Rattle.std.specs.List.{list_any}
use Rattle.std.proofs.lemmas.List.{take-append-drop, map-append, length-map}
use Rattle.std.proofs.lemmas.Bool.Decides.{nat_tests}
use Rattle.slab.specs.Slab.{Slab, get}
use Rattle.xf_def_forest.specs.declared.content.Node.{Node}
use Rattle.xf_def_forest.specs.declared.content.Content.{Content}
use Rattle.xf_def_forest.specs.declared.content.Content.TheVariants.{Root, Element, Attribute, Text}
use Rattle.xf_def_forest.specs.declared.content.Kind.{Kind}
use Rattle.xf_def_forest.specs.declared.fault.TreeFault.TheVariants.{Nodes, AllText}
use Rattle.xf_def_forest.specs.declared.content.Kind.TheVariants as kind
use Rattle.xf_def_forest.specs.Forest.{is_text, is_element, kind_of, has_number}
use Rattle.xf_def_forest.specs.Limits.{Limits, node_count, all_size, size_of, passed_by_all}
use Rattle.xf_def_forest.specs.Plant.{numbered_from}
use Rattle.xf_def_forest.specs.Texts.{KeptText, Keeping}
use Rattle.xf_tree_rows.specs.declared.rows.Row.{Row}
use Rattle.xf_tree_rows.specs.Rows.{Sized, deeper, AreSteps, depths, no_row}
use Rattle.xf_tree_rows.proofs.SizedLemmas.{sized-append, lt-true, lt-false}
use Rattle.xf_tree_rows.proofs.CutLemmas.{all-deep-zero}
use Rattle.xf_tree_contents.specs.Slot.{Slot}
use Rattle.xf_tree_contents.specs.Keys.{kept_of, number_in, content_in, kept_times}
use Rattle.xf_tree_contents.proofs.AlikeLemmas.{eq-true}
use Rattle.xf_tree_walks.specs.Leaves.{parts_in, AreLeaves}
use Rattle.xf_tree_walks.specs.First.{AreFirst}
use Rattle.xf_tree_walks.specs.Nodes.{node_of, times, AllLive, AllTops, IsTree, AllPlain, StandsAt}
use Rattle.xf_tree_walks.proofs.NodeLemmas.{Parted, times-append}
use Rattle.xf_tree_walks.proofs.CountLemmas.{nodes-append, sizes-append, sizes-cons}
use Rattle.xf_tree_walks.proofs.StepLemmas.{most_after, steps-append, steps-more}
use Rattle.xf_tree_walks.proofs.LeafLemmas.{leaves-top, parts-append, parts-numbered, steps-not_deeper}
use Rattle.xf_tree_walks.proofs.FirstLemmas.{first-append, first-anywhere}
use Rattle.xf_tree_walks.proofs.StackLemmas.{absent-parts}
use Rattle.xf_tree_changes.specs.Trees.{KeepsLive, size_of_all}
use Rattle.xf_tree_changes.proofs.PushLemmas.{kept-nodes, kept-live}
use Rattle.xf_tree.specs.Calls.{with_contents}
use Rattle.xf_tree.specs.State.{AllKept, IsSound, IsState, keeping_of}
use Rattle.xf_tree.proofs.ForestLemmas.{tops-append}
use Rattle.xf_tree.proofs.NumberLemmas.{low-times, high-times, new-times, new-count, new-size, new-tops}

text-some : (o : Option Slot) → is_text (content_in o) ≡ true → IsSome o
text-some None e = cc e
text-some (Some s) e = refl

pub kept-same : (s s2 : Slab Slot) (keys : List ℕ) → AllKept s keys → KeepsLive s s2 → map (kept_of s2) keys ≡ map (kept_of s) keys
kept-same s s2 [] all keeps = refl
kept-same s s2 (k ∷ ks) all keeps = let a = keeps k (text-some (get s k) all.0) in let b = kept-same s s2 ks all.1 keeps in cc

pub kept-texts : (s s2 : Slab Slot) (keys : List ℕ) → AllKept s keys → KeepsLive s s2 → AllKept s2 keys
kept-texts s s2 [] all keeps = tt
kept-texts s s2 (k ∷ ks) all keeps =
    (subst (λ o. is_text (content_in o) ≡ true) (sym (keeps k (text-some (get s k) all.0))) all.0, kept-texts s s2 ks all.1 keeps)

-- a slab that has the same under each key
pub same-state : (s s2 : Slab Slot) (rows : List Row) (kept : List ℕ) (next total size room room2 : ℕ) → ((key : ℕ) → get s2 key ≡ get s key) → room ≤ room2
    → IsState s rows kept next total size room → IsState s2 rows kept next total size room2
same-state s s2 rows kept next total size room room2 same more state =
    let keeps : KeepsLive s s2 = λ key some. same key in
    let nodes = kept-nodes s s2 rows state.sound.live keeps in
    let texts = kept-same s s2 kept state.sound.kept_live keeps in
    record {
      sound = record {
        sized = state.sound.sized;
        steps = state.sound.steps;
        few = state.sound.few;
        live = kept-live s s2 rows state.sound.live keeps;
        kept_live = kept-texts s s2 kept state.sound.kept_live keeps;
        tops = subst AllTops (sym nodes) state.sound.tops;
        leaves = subst (λ l. AreLeaves (parts_in l)) (sym nodes) state.sound.leaves;
        first = subst (λ l. AreFirst 0 (parts_in l)) (sym nodes) state.sound.first;
        apart = λ n. omega (arith, state.sound.apart n, ap (times n) nodes, ap (kept_times n) texts);
        fresh = λ n h. omega (arith, state.sound.fresh n h, ap (times n) nodes, ap (kept_times n) texts);
      };
      counted = record {
        count = state.counted.count ∙ ap node_count (sym nodes);
        bytes = state.counted.bytes ∙ ap all_size (sym nodes);
        small = λ key. omega (arith, state.counted.small key, ap (λ o. size_of (content_in o)) (same key));
      };
      room = omega (arith, state.room);
    }

pub same-view : (s s2 : Slab Slot) (rows : List Row) (kept : List ℕ) (next : ℕ) → ((key : ℕ) → get s2 key ≡ get s key) → IsSound s rows kept next → keeping_of s2 rows kept next ≡ keeping_of s rows kept next
same-view s s2 rows kept next same sound =
    let keeps : KeepsLive s s2 = λ key some. same key in
    let whole : List Node → List KeptText → Keeping = λ nodes texts. record { forest = record { nodes = nodes; next = next }; kept = texts } in
    ap (λ l. whole l (map (kept_of s2) kept)) (kept-nodes s s2 rows sound.live keeps) ∙ ap (whole (map (node_of s) rows)) (kept-same s s2 kept sound.kept_live keeps)

-- the same where rows and kept texts are the same too
pub moved-state : (s s2 : Slab Slot) (rows rows2 : List Row) (kept kept2 : List ℕ) (next total size room room2 : ℕ) → ((key : ℕ) → get s2 key ≡ get s key) → rows2 ≡ rows → kept2 ≡ kept → room ≤ room2
    → IsState s rows kept next total size room → IsState s2 rows2 kept2 next total size room2
moved-state s s2 rows rows2 kept kept2 next total size room room2 same er ek more state =
    subst (λ r. IsState s2 r kept2 next total size room2) (sym er)
    (subst (λ k. IsState s2 rows k next total size room2) (sym ek) (same-state s s2 rows kept next total size room room2 same more state))

pub moved-view : (s s2 : Slab Slot) (rows rows2 : List Row) (kept kept2 : List ℕ) (next : ℕ) → ((key : ℕ) → get s2 key ≡ get s key) → rows2 ≡ rows → kept2 ≡ kept → IsSound s rows kept next
    → keeping_of s2 rows2 kept2 next ≡ keeping_of s rows kept next
moved-view s s2 rows rows2 kept kept2 next same er ek sound =
    ap (λ r. keeping_of s2 r kept2 next) er ∙ ap (λ k. keeping_of s2 rows k next) ek ∙ same-view s s2 rows kept next same sound

-- the depths of rows are those of their nodes
node-steps : (s : Slab Slot) (rows : List Row) (next : ℕ) (cs : List (ℕ × Content)) → map (node_of s) rows ≡ numbered_from next cs → depths rows ≡ map (λ (p : ℕ × Content). p.0) cs
node-steps s rows next cs e = by_nodes s rows ∙ ap (map (λ (x : Node). x.depth)) e ∙ of_numbered next cs
  where
    by_nodes : (s : Slab Slot) (rows : List Row) → depths rows ≡ map (λ (x : Node). x.depth) (map (node_of s) rows)
    by_nodes s [] = refl
    by_nodes s (r ∷ rs) = ap (λ l. r.depth ∷ l) (by_nodes s rs)

    of_numbered : (next : ℕ) (cs : List (ℕ × Content)) → map (λ (x : Node). x.depth) (numbered_from next cs) ≡ map (λ (p : ℕ × Content). p.0) cs
    of_numbered next [] = refl
    of_numbered next (c ∷ cs) = ap (λ l. c.0 ∷ l) (of_numbered (suc next) cs)

first-top : (rows : List Row) → AreSteps 0 (depths rows) → deeper 0 rows ≡ 0
first-top [] steps = refl
first-top (r ∷ rs) steps = low r.depth (deeper 0 rs) steps.0
  where
    low : (d n : ℕ) → d ≤ 0 → (if nat_lt 0 d then suc n else 0) ≡ 0
    low d n h = rw (lt-false 0 d h) refl

module _ (s s2 : Slab Slot) (old rows : List Row) (kept : List ℕ) (next total size room : ℕ) (contents : List (ℕ × Content)) (state : IsState s old kept next total size room)
    (front : take (length old) rows ≡ old) (nodes : map (node_of s2) (drop (length old) rows) ≡ numbered_from next contents) (keeps : KeepsLive s s2) where
  pub added-rows : rows ≡ old ++ drop (length old) rows
  added-rows = sym (take-append-drop (length old) rows) ∙ ap (λ l. l ++ drop (length old) rows) front

  pub added-nodes : map (node_of s2) rows ≡ map (node_of s) old ++ numbered_from next contents
  added-nodes =
      ap (map (node_of s2)) added-rows ∙ map-append (node_of s2) old (drop (length old) rows)
      ∙ ap (λ l. l ++ map (node_of s2) (drop (length old) rows)) (kept-nodes s s2 old state.sound.live keeps) ∙ ap (λ l. map (node_of s) old ++ l) nodes

  added-parts : parts_in (map (node_of s2) rows) ≡ parts_in (map (node_of s) old) ++ contents
  added-parts = ap parts_in added-nodes ∙ parts-append (map (node_of s) old) (numbered_from next contents) ∙ ap (λ l. parts_in (map (node_of s) old) ++ l) (parts-numbered next contents)

  pub added-length : length rows ≡ length old + length contents
  added-length =
      let a = ap length added-rows ∙ length-append old (drop (length old) rows) in
      let b = sym (length-map (drop (length old) rows) (node_of s2)) ∙ ap length nodes ∙ numbered-length next contents in
      omega arith
    where
      numbered-length : (next : ℕ) (cs : List (ℕ × Content)) → length (numbered_from next cs) ≡ length cs
      numbered-length next [] = refl
      numbered-length next (c ∷ cs) = ap suc (numbered-length (suc next) cs)

  pub added-kept : map (kept_of s2) kept ≡ map (kept_of s) kept
  added-kept = kept-same s s2 kept state.sound.kept_live keeps

  added-sound : IsTree contents → Sized (drop (length old) rows) → AllLive s2 rows → length old + length contents + length kept < 2 ^ 31 → IsSound s2 rows kept (next + length contents)
  added-sound tree sized live few =
      let news = drop (length old) rows in
      let new_depths : depths news ≡ map (λ (p : ℕ × Content). p.0) contents = node-steps s2 news next contents nodes in
      let new_steps : AreSteps 0 (depths news) = subst (AreSteps 0) (sym new_depths) tree.steps in
      let d : Row → ℕ = λ r. r.depth in
      let split : depths rows ≡ depths old ++ depths news = ap (map d) added-rows ∙ map-append d old news in
      let least : 0 ≤ most_after 0 (depths old) = omega arith in
      record {
        sized = subst Sized (sym added-rows) (sized-append 0 old news (all-deep-zero old) (first-top news new_steps) state.sound.sized sized);
        steps = subst (AreSteps 0) (sym split) (steps-append 0 (depths old) (depths news) state.sound.steps (steps-more 0 (most_after 0 (depths old)) (depths news) least new_steps));
        few = omega (arith, added-length);
        live = live;
        kept_live = kept-texts s s2 kept state.sound.kept_live keeps;
        tops = subst AllTops (sym added-nodes) (tops-append (map (node_of s) old) (numbered_from next contents) state.sound.tops (new-tops next contents tree.plain));
        leaves = subst AreLeaves (sym added-parts)
            (leaves-top (parts_in (map (node_of s) old)) contents (steps-not_deeper 0 contents tree.steps) state.sound.leaves tree.leaves);
        first = subst (AreFirst 0) (sym added-parts) (first-append 0 (parts_in (map (node_of s) old)) contents state.sound.first (first-anywhere _ contents tree.first));
        apart = λ n. let a = ap (times n) added-nodes ∙ times-append n (map (node_of s) old) (numbered_from next contents) in
            let k = ap (kept_times n) added-kept in
            elim (cases_lt n next) [
              | inl l ↦ omega (arith, state.sound.apart n, low-times n next contents l)
              | inr l ↦ omega (arith, state.sound.fresh n l, new-times n next contents)
            ];
        fresh = λ n h. let a = ap (times n) added-nodes ∙ times-append n (map (node_of s) old) (numbered_from next contents) in
            let k = ap (kept_times n) added-kept in
            let l : next ≤ n = omega arith in
            omega (arith, state.sound.fresh n l, high-times n next contents h);
      }

  pub added-state : (room2 : ℕ) → IsTree contents → Sized (drop (length old) rows) → AllLive s2 rows → length old + length contents + length kept < 2 ^ 31
      → ((key : ℕ) → size_of (content_in (get s2 key)) ≤ 2 ^ 66) → length old + length contents + length kept ≤ room2
      → IsState s2 rows kept (next + length contents) (total + length contents) (size + size_of_all contents) room2
  added-state room2 tree sized live few small most = record {
    sound = added-sound tree sized live few;
    counted = record {
      count = omega (arith, state.counted.count, ap node_count added-nodes, nodes-append (map (node_of s) old) (numbered_from next contents), new-count next contents tree.plain);
      bytes = omega (arith, state.counted.bytes, ap all_size added-nodes, sizes-append (map (node_of s) old) (numbered_from next contents), new-size next contents);
      small = small;
    };
    room = omega (arith, added-length);
  }

  pub added-view : keeping_of s2 rows kept (next + length contents) ≡ with_contents contents (keeping_of s old kept next)
  added-view =
      let whole : List Node → List KeptText → Keeping = λ l texts. record { forest = record { nodes = l; next = next + length contents }; kept = texts } in
      ap (λ l. whole l (map (kept_of s2) kept)) added-nodes ∙ ap (whole (map (node_of s) old ++ numbered_from next contents)) added-kept

-- ---- the limits with a tree more

pub count-with : (s : Slab Slot) (rows : List Row) (kept : List ℕ) (next total size room : ℕ) (cs : List (ℕ × Content)) → IsState s rows kept next total size room → AllPlain cs
    → node_count (map (node_of s) rows ++ numbered_from next cs) ≡ total + length cs
count-with s rows kept next total size room cs state plain =
    omega (arith, state.counted.count, nodes-append (map (node_of s) rows) (numbered_from next cs), new-count next cs plain)

pub size-with : (s : Slab Slot) (rows : List Row) (kept : List ℕ) (next total size room : ℕ) (cs : List (ℕ × Content)) → IsState s rows kept next total size room
    → all_size (map (node_of s) rows ++ numbered_from next cs) ≡ size + size_of_all cs
size-with s rows kept next total size room cs state =
    omega (arith, state.counted.bytes, sizes-append (map (node_of s) rows) (numbered_from next cs), new-size next cs)

pub passed-nodes : (l : Limits) (nodes : List Node) → l.nodes < node_count nodes → Some Nodes ≡ passed_by_all l nodes
passed-nodes l nodes h = rw (lt-true l.nodes (node_count nodes) h) refl

pub passed-bytes : (l : Limits) (nodes : List Node) → node_count nodes ≤ l.nodes → l.all < all_size nodes → Some AllText ≡ passed_by_all l nodes
passed-bytes l nodes h k = rw (lt-false l.nodes (node_count nodes) h, lt-true l.all (all_size nodes) k) refl

pub passed-none : (l : Limits) (nodes : List Node) → node_count nodes ≤ l.nodes → all_size nodes ≤ l.all → None ≡ passed_by_all l nodes
passed-none l nodes h k = rw (lt-false l.nodes (node_count nodes) h, lt-false l.all (all_size nodes) k) refl

-- the bytes are far from what a number can count
pub bytes-most : (s : Slab Slot) (rows : List Row) → ((key : ℕ) → size_of (content_in (get s key)) ≤ 2 ^ 66) → all_size (map (node_of s) rows) ≤ 2 ^ 66 * length rows
bytes-most s [] small = omega arith
bytes-most s (r ∷ rs) small = omega (arith, sizes-cons (node_of s r) (map (node_of s) rs), small r.key, bytes-most s rs small)

-- ---- what is said of the node with a number

pub named-meets : (n : ℕ) (p : Node → Bool) (nodes us : List Node) (x : Node) (xs : List Node) → Parted n nodes us x xs → list_any (λ (y : Node). (y.number == n) && p y) nodes ≡ true → p x ≡ true
named-meets n p nodes us x xs parted may = go us (subst (λ l. list_any (λ (y : Node). (y.number == n) && p y) l ≡ true) parted.whole may) parted.before
  where
    none : (zs : List Node) → has_number n zs ≡ false → list_any (λ (y : Node). (y.number == n) && p y) zs ≡ false
    none [] h = refl
    none (z ∷ zs) h = let q = absent-parts n z zs h in rw q.0 (none zs q.1)

    alone : (b : Bool) → (b || false) ≡ true → b ≡ true
    alone true e = refl
    alone false e = e

    go : (zs : List Node) → list_any (λ (y : Node). (y.number == n) && p y) (zs ++ (x ∷ xs)) ≡ true → has_number n zs ≡ false → p x ≡ true
    go [] m h = alone (p x) (rw (eq-true x.number n parted.number, none xs parted.after) at m)
    go (z ∷ zs) m h = let q = absent-parts n z zs h in go zs (rw q.0 at m) q.1

pub zero-depth : (d : ℕ) → (d == 0) ≡ true → d ≡ 0
zero-depth d e = grind (arith, nat_tests)

pub element-is : (c : Content) → Some (kind_of c) ≡ Some kind.Element → is_element c ≡ true
element-is Root e = absurd (wrong e)
  where
    wrong : ◌≡◌ {A = Option Kind} (Some kind.Root) (Some kind.Element) → ⊥
    wrong e = cc
element-is (Element name) e = refl
element-is (Attribute name text) e = absurd (wrong e)
  where
    wrong : ◌≡◌ {A = Option Kind} (Some kind.Attribute) (Some kind.Element) → ⊥
    wrong e = cc
element-is (Text text) e = absurd (wrong e)
  where
    wrong : ◌≡◌ {A = Option Kind} (Some kind.Text) (Some kind.Element) → ⊥
    wrong e = cc

-- the same rows and slots with more room
pub stands-same : (s s2 : Slab Slot) (rows rows2 : List Row) (n at : ℕ) → ((key : ℕ) → get s2 key ≡ get s key) → rows2 ≡ rows → StandsAt s rows n at → StandsAt s2 rows2 n at
stands-same s s2 rows rows2 n at same e here = subst (λ r. StandsAt s2 r n at) (sym e) (record { within = here.within; number = ap number_in (same (get_or rows at no_row).key) ∙ here.number })
