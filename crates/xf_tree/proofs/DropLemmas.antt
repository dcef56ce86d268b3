-- Some rows and all kept texts are dropped.
use Rattle.std.proofs.Common.{◌≡◌, ℕ, ◌+◌, ◌-◌, ◌≤◌, if◌then◌else◌, List, [], ◌∷◌, ◌++◌, map, length, take, drop, IsSome, refl, sym, ap, ◌∙◌, subst, arith}
use Rattle.std.proofs.lemmas.List.{take-append-drop, map-append, take_rest}
use Rattle.slab.specs.Slab.{Slab, get}
use Rattle.xf_def_forest.specs.declared.content.Node.{Node}
use Rattle.xf_def_forest.specs.Limits.{node_count, all_size, size_of}
use Rattle.xf_tree_rows.specs.declared.rows.Row.{Row}
use Rattle.xf_tree_rows.specs.Rows.{deeper, Sized, AreSteps, depths}
use Rattle.xf_tree_rows.proofs.SizedLemmas.{sized-front}
use Rattle.xf_tree_rows.proofs.CutLemmas.{all-deep-zero}
use Rattle.xf_tree_contents.specs.Slot.{Slot}
use Rattle.xf_tree_contents.specs.Keys.{kept_of, number_in, content_in, kept_times, KeepsButKept}
use Rattle.xf_tree_contents.proofs.AlikeLemmas.{eq-true}
use Rattle.xf_tree_walks.specs.Leaves.{parts_in, AreLeaves}
use Rattle.xf_tree_walks.specs.First.{AreFirst}
use Rattle.xf_tree_walks.specs.Nodes.{node_of, times, AllLive, AllTops, KeepsBut}
use Rattle.xf_tree_walks.proofs.NodeLemmas.{times-append}
use Rattle.xf_tree_walks.proofs.CountLemmas.{nodes-append, sizes-append}
use Rattle.xf_tree_walks.proofs.StepLemmas.{steps-parts}
use Rattle.xf_tree_walks.proofs.LeafLemmas.{leaves-parts, parts-append}
use Rattle.xf_tree_walks.proofs.FirstLemmas.{first-parts}
use Rattle.xf_tree_walks.proofs.RootLemmas.{tops-parts}
use Rattle.xf_tree_changes.proofs.SameLemmas.{SameAt, nodes-same, same-where}
use Rattle.xf_tree.specs.State.{IsSound, IsState}
use Rattle.xf_tree.proofs.ForestLemmas.{live-parts}

pub live-same : (s s2 : Slab Slot) (rows : List Row) → SameAt s s2 rows → AllLive s rows → AllLive s2 rows
live-same s s2 [] same live = tt
live-same s s2 (r ∷ rs) same live = (subst IsSome (sym same.0) live.0, live-same s s2 rs same.1 live.1)

pub kept-where : (s s2 : Slab Slot) (keys : List ℕ) → ((key : ℕ) → 1 ≤ kept_times (number_in (get s key)) (map (kept_of s) keys) → get s2 key ≡ get s key) → map (kept_of s2) keys ≡ map (kept_of s) keys
kept-where s s2 [] h = refl
kept-where s s2 (k ∷ ks) h =
    let one = ap {B = ℕ} (λ b. if b then 1 else 0) (eq-true (number_in (get s k)) (number_in (get s k)) refl) in
    let here = h k (omega arith) in
    let rest = kept-where s s2 ks (λ key some. h key (omega arith)) in
    cc

pub rest-of : {X : Type 0} (at : ℕ) (xs ys : List X) → xs ≡ ys → take (length xs - at) (drop at xs) ≡ drop at ys
rest-of at xs ys e = take_rest xs at ∙ ap (drop at) e

-- what the invariant says of rows, besides their numbers
pub record IsShaped (s : Slab Slot) (rows : List Row) : Type 0 where
  pub sized : Sized rows
  pub steps : AreSteps 0 (depths rows)
  pub live : AllLive s rows
  pub tops : AllTops (map (node_of s) rows)
  pub leaves : AreLeaves (parts_in (map (node_of s) rows))
  pub first : AreFirst 0 (parts_in (map (node_of s) rows))

-- the nodes are those of the rows that stay and those of the others, whatever is counted
abbrev pub ArePartedTo : Slab Slot → List Row → List Row → List Row → Type 0
ArePartedTo s rows stay gone = (X : List Node → ℕ) → ((xs ys : List Node) → X (xs ++ ys) ≡ X xs + X ys) → X (map (node_of s) rows) ≡ X (map (node_of s) stay) + X (map (node_of s) gone)

module _ (s s1 s2 : Slab Slot) (rows stay gone : List Row) (kept : List ℕ) (next total size room : ℕ) (state : IsState s rows kept next total size room) (parted : ArePartedTo s rows stay gone)
    (rows_rest : KeepsBut s s1 (map (node_of s) gone)) (kept_rest : KeepsButKept s1 s2 (map (kept_of s1) kept)) where
  both : (n : ℕ) → times n (map (node_of s) stay) + times n (map (node_of s) gone) + kept_times n (map (kept_of s) kept) ≤ 1
  both n = omega (arith, state.sound.apart n, parted (times n) (times-append n))

  kept-same : map (kept_of s1) kept ≡ map (kept_of s) kept
  kept-same = kept-where s s1 kept (λ key some. rows_rest key (omega (arith, both (number_in (get s key)))))

  stay-key : (key : ℕ) → 1 ≤ times (number_in (get s key)) (map (node_of s) stay) → get s2 key ≡ get s key
  stay-key key some =
      let n = number_in (get s key) in
      let b = both n in
      let one = rows_rest key (omega arith) in
      let none : kept_times n (map (kept_of s) kept) ≡ 0 = omega arith in
      let none1 : kept_times (number_in (get s1 key)) (map (kept_of s1) kept) ≡ 0 = ap (λ o. kept_times (number_in o) (map (kept_of s1) kept)) one ∙ ap (kept_times n) kept-same ∙ none in
      kept_rest key none1 ∙ one

  stay-same : SameAt s s2 stay
  stay-same = same-where s s2 stay stay-key

  pub dropped-nodes : map (node_of s2) stay ≡ map (node_of s) stay
  dropped-nodes = nodes-same s s2 stay stay-same

  dropped-sound : (next2 : ℕ) → IsShaped s stay → length stay ≤ length rows → ((n : ℕ) → next2 ≤ n → times n (map (node_of s) stay) ≡ 0) → IsSound s2 stay [] next2
  dropped-sound next2 shape less fresh = record {
    sized = shape.sized;
    steps = shape.steps;
    few = omega (arith, state.sound.few);
    kept_live = tt;
    live = live-same s s2 stay stay-same shape.live;
    tops = subst AllTops (sym dropped-nodes) shape.tops;
    leaves = subst (λ l. AreLeaves (parts_in l)) (sym dropped-nodes) shape.leaves;
    first = subst (λ l. AreFirst 0 (parts_in l)) (sym dropped-nodes) shape.first;
    apart = λ n. let e = ap (times n) dropped-nodes in omega (arith, both n);
    fresh = λ n h. let e = ap (times n) dropped-nodes in omega (arith, fresh n h);
  }

  pub dropped-state : (less1 : (key : ℕ) → size_of (content_in (get s1 key)) ≤ size_of (content_in (get s key))) (less2 : (key : ℕ) → size_of (content_in (get s2 key)) ≤ size_of (content_in (get s1 key)))
      (next2 total2 size2 room2 : ℕ) → room ≤ room2 → total2 ≡ total - node_count (map (node_of s) gone) → size2 ≡ size - all_size (map (node_of s) gone)
      → IsShaped s stay → length stay ≤ length rows → ((n : ℕ) → next2 ≤ n → times n (map (node_of s) stay) ≡ 0) → IsState s2 stay [] next2 total2 size2 room2
  dropped-state less1 less2 next2 total2 size2 room2 most et es shape less fresh = record {
    sound = dropped-sound next2 shape less fresh;
    counted = record {
      count = omega (arith, state.counted.count, et, parted node_count nodes-append, ap node_count dropped-nodes);
      bytes = omega (arith, state.counted.bytes, es, parted all_size sizes-append, ap all_size dropped-nodes);
      small = λ key. omega (arith, less1 key, less2 key, state.counted.small key);
    };
    room = omega (arith, state.room);
  }

-- ---- the rows before a place stay

pub front-parted : (s : Slab Slot) (end : ℕ) (rows : List Row) → ArePartedTo s rows (take end rows) (drop end rows)
front-parted s end rows X add = ap X (front-whole s end rows) ∙ add (map (node_of s) (take end rows)) (map (node_of s) (drop end rows))
  where
    front-whole : (s : Slab Slot) (end : ℕ) (rows : List Row) → map (node_of s) rows ≡ map (node_of s) (take end rows) ++ map (node_of s) (drop end rows)
    front-whole s end rows = ap (map (node_of s)) (sym (take-append-drop end rows)) ∙ map-append (node_of s) (take end rows) (drop end rows)

pub front-shaped : (s : Slab Slot) (end next : ℕ) (rows : List Row) (kept : List ℕ) → IsSound s rows kept next → deeper 0 (drop end rows) ≡ 0 → IsShaped s (take end rows)
front-shaped s end next rows kept sound stops =
    let f = node_of s in
    let d : Row → ℕ = λ r. r.depth in
    let split : depths rows ≡ depths (take end rows) ++ depths (drop end rows) = ap (map d) (sym (take-append-drop end rows)) ∙ map-append d (take end rows) (drop end rows) in
    let whole : map f rows ≡ map f (take end rows) ++ map f (drop end rows) = ap (map f) (sym (take-append-drop end rows)) ∙ map-append f (take end rows) (drop end rows) in
    let parts : parts_in (map f rows) ≡ parts_in (map f (take end rows)) ++ parts_in (map f (drop end rows)) = ap parts_in whole ∙ parts-append (map f (take end rows)) (map f (drop end rows)) in
    record {
      sized = (sized-front 0 (take end rows) (drop end rows) (all-deep-zero (take end rows)) stops (subst (λ l. Sized l) (sym (take-append-drop end rows)) sound.sized)).0;
      steps = (steps-parts 0 (depths (take end rows)) (depths (drop end rows)) (subst (AreSteps 0) split sound.steps)).0;
      live = (live-parts s (take end rows) (drop end rows) (subst (AllLive s) (sym (take-append-drop end rows)) sound.live)).0;
      tops = (tops-parts (map f (take end rows)) (map f (drop end rows)) (subst AllTops whole sound.tops)).0;
      leaves = (leaves-parts (parts_in (map f (take end rows))) (parts_in (map f (drop end rows))) (subst AreLeaves parts sound.leaves)).0;
      first = (first-parts 0 (parts_in (map f (take end rows))) (parts_in (map f (drop end rows))) (subst (AreFirst 0) parts sound.first)).0;
    }
