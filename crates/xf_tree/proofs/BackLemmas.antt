-- Kept texts that are given up, and those that come back to their element.
use Rattle.std.proofs.Common.{◌≡◌, ℕ, suc, ◌+◌, ◌-◌, ◌≤◌, ◌==◌, if◌then◌else◌, Bool, true, false, List, [], ◌∷◌, map, length, IsSome, Option, Some, None, refl, sym, ap, ◌∙◌, subst, inl, inr, arith}
use Rattle.std.specs.Prelude.{filter}
use Rattle.std.proofs.lemmas.Bool.{cases_Bool, false≢true}
use Rattle.std.proofs.lemmas.List.{length-map}
use Rattle.slab.specs.Slab.{Slab, get}
use Rattle.xf_def_forest.specs.declared.node.NodeId.{NodeId}
use Rattle.xf_def_forest.specs.declared.content.Node.{Node}
use Rattle.xf_def_forest.specs.declared.content.Content.TheVariants.{Text}
use Rattle.xf_def_forest.specs.declared.content.Kind.TheVariants as kind
use Rattle.xf_def_forest.specs.Forest.{is_text, is_attribute, own_text, kind_at}
use Rattle.xf_def_forest.specs.Visit.{has, visits}
use Rattle.xf_def_forest.specs.Shape.{has_elements}
use Rattle.xf_def_forest.specs.Limits.{node_count, all_size, size_of}
use Rattle.xf_def_forest.specs.Texts.{Keeping, KeptText, at_depth, text_node, with_texts, is_of, back, without, given_up, put_back, element_texts}
use Rattle.xf_def_forest.proofs.RunLemmas.{text-again}
use Rattle.xf_tree_rows.specs.declared.rows.Row.{Row}
use Rattle.xf_tree_rows.specs.Rows.{Sized}
use Rattle.xf_tree_contents.specs.Slot.{Slot}
use Rattle.xf_tree_contents.specs.Keys.{kept_of, number_in, content_in, kept_times, KeepsButKept}
use Rattle.xf_tree_contents.proofs.AlikeLemmas.{eq-true}
use Rattle.xf_tree_walks.specs.Leaves.{parts_in, AreLeaves}
use Rattle.xf_tree_walks.specs.First.{AreFirst}
use Rattle.xf_tree_walks.specs.Nodes.{node_of, times, AllLive, AllTops, StandsAt, KeepsBut}
use Rattle.xf_tree_walks.proofs.NodeLemmas.{times-append}
use Rattle.xf_tree_walks.proofs.CountLemmas.{nodes-append, sizes-append, nodes-cons}
use Rattle.xf_tree_changes.specs.Trees.{unsized}
use Rattle.xf_tree_changes.specs.Texts.{attributes, children, text_row, depth_at, run_of, with_text_rows, places_of, is_wanted, is_left}
use Rattle.xf_tree_changes.proofs.SameLemmas.{SameAt, nodes-same, same-where}
use Rattle.xf_tree.specs.State.{AllKept, IsSound, IsState, keeping_of}
use Rattle.xf_tree.proofs.DropLemmas.{live-same, kept-where}
use Rattle.xf_tree.proofs.ValueLemmas.{kept-live_where}
use Rattle.xf_tree.proofs.UnsizedLemmas.{AreTextNodes}
use Rattle.xf_tree.proofs.SwapLemmas.{stay, stay-parts, with-parts, swap-nodes, swap-length, swap-live, swap-tops, swap-steps, swap-leaves, swap-first}
use Rattle.xf_tree.proofs.SetLemmas.{times-flat, count-flat, size-flat}

one-if : (a b : ℕ) → a ≡ b → (t : ℕ) → 1 ≤ (if a == b then 1 else 0) + t
one-if a b e t = rw (eq-true a b e) (omega arith)

-- ---- parts of the list of kept texts

module _ (s : Slab Slot) (ns : List ℕ) where
  pub parts-times : (m : ℕ) (keys : List ℕ) → kept_times m (map (kept_of s) (filter (is_wanted s ns) keys)) + kept_times m (map (kept_of s) (filter (is_left s ns) keys)) ≡ kept_times m (map (kept_of s) keys)
  parts-times m [] = refl
  parts-times m (k ∷ ks) =
      let i = parts-times m ks in
      elim (cases_Bool (has (number_in (get s k)) ns)) [ inl e ↦ rw e (omega (arith, i)) | inr e ↦ rw e (omega (arith, i)) ]

  pub parts-length : (keys : List ℕ) → length (filter (is_wanted s ns) keys) + length (filter (is_left s ns) keys) ≡ length keys
  parts-length [] = refl
  parts-length (k ∷ ks) =
      let i = parts-length ks in
      elim (cases_Bool (has (number_in (get s k)) ns)) [ inl e ↦ rw e (omega (arith, i)) | inr e ↦ rw e (omega (arith, i)) ]

  pub wanted-texts : (keys : List ℕ) → map (kept_of s) (filter (is_wanted s ns) keys) ≡ filter (is_of ns) (map (kept_of s) keys)
  wanted-texts [] = refl
  wanted-texts (k ∷ ks) = let i = wanted-texts ks in elim (cases_Bool (has (number_in (get s k)) ns)) [ inl e ↦ rw e (ap (λ l. kept_of s k ∷ l) i) | inr e ↦ rw e i ]

  pub left-texts : (keys : List ℕ) → map (kept_of s) (filter (is_left s ns) keys) ≡ without ns (map (kept_of s) keys)
  left-texts [] = refl
  left-texts (k ∷ ks) = let i = left-texts ks in elim (cases_Bool (has (number_in (get s k)) ns)) [ inl e ↦ rw e i | inr e ↦ rw e (ap (λ l. kept_of s k ∷ l) i) ]

pub kept-filter : (s : Slab Slot) (p : ℕ → Bool) (keys : List ℕ) → AllKept s keys → AllKept s (filter p keys)
kept-filter s p [] h = tt
kept-filter s p (k ∷ ks) h = let i = kept-filter s p ks h.1 in elim (cases_Bool (p k)) [ inl e ↦ rw e (h.0, i) | inr e ↦ rw e i ]

pub wanted-long : (s : Slab Slot) (ns keys : List ℕ) (texts : List NodeId) → places_of texts ≡ filter (is_wanted s ns) keys → length texts ≤ length keys
wanted-long s ns keys texts places = omega (arith, ap length places, length-map texts (λ (x : NodeId). x.place), parts-length s ns keys)

-- ---- texts given up

module _ (s s2 : Slab Slot) (rows : List Row) (kept ns : List ℕ) (next total size room : ℕ) (state : IsState s rows kept next total size room)
    (keeps : KeepsButKept s s2 (map (kept_of s) (filter (is_wanted s ns) kept))) (less : (key : ℕ) → size_of (content_in (get s2 key)) ≤ size_of (content_in (get s key))) where
  abbrev left : List ℕ
  left = filter (is_left s ns) kept

  rows-same : SameAt s s2 rows
  rows-same = same-where s s2 rows (λ key some. keeps key (omega (arith, parts-times s ns (number_in (get s key)) kept, state.sound.apart (number_in (get s key)))))

  left-at : (key : ℕ) → 1 ≤ kept_times (number_in (get s key)) (map (kept_of s) left) → get s2 key ≡ get s key
  left-at key some = keeps key (omega (arith, parts-times s ns (number_in (get s key)) kept, state.sound.apart (number_in (get s key))))

  nodes : map (node_of s2) rows ≡ map (node_of s) rows
  nodes = nodes-same s s2 rows rows-same

  texts : map (kept_of s2) left ≡ map (kept_of s) left
  texts = kept-where s s2 left left-at

  pub given-state : (room2 : ℕ) → room ≤ room2 → IsState s2 rows left next total size room2
  given-state room2 most = record {
    sound = record {
      sized = state.sound.sized;
      steps = state.sound.steps;
      few = omega (arith, state.sound.few, parts-length s ns kept);
      live = live-same s s2 rows rows-same state.sound.live;
      kept_live = kept-live_where s s2 left left-at (kept-filter s (is_left s ns) kept state.sound.kept_live);
      tops = subst AllTops (sym nodes) state.sound.tops;
      leaves = subst (λ l. AreLeaves (parts_in l)) (sym nodes) state.sound.leaves;
      first = subst (λ l. AreFirst 0 (parts_in l)) (sym nodes) state.sound.first;
      apart = λ m. omega (arith, state.sound.apart m, ap (times m) nodes, ap (kept_times m) texts, parts-times s ns m kept);
      fresh = λ m h. omega (arith, state.sound.fresh m h, ap (times m) nodes, ap (kept_times m) texts, parts-times s ns m kept);
    };
    counted = record {
      count = state.counted.count ∙ ap node_count (sym nodes);
      bytes = state.counted.bytes ∙ ap all_size (sym nodes);
      small = λ key. omega (arith, less key, state.counted.small key);
    };
    room = omega (arith, state.room, parts-length s ns kept);
  }

  pub given-view : keeping_of s2 rows left next ≡ given_up (element_texts ns) (keeping_of s rows kept next)
  given-view =
      let whole : List Node → List KeptText → Keeping = λ l k. record { forest = record { nodes = l; next = next }; kept = k } in
      ap (λ l. whole l (map (kept_of s2) left)) nodes ∙ ap (whole (map (node_of s) rows)) (texts ∙ left-texts s ns kept)

-- ---- texts put back

-- the rows of kept texts are of the nodes that come back
back-rows : (s t : Slab Slot) (depth : ℕ) (texts : List NodeId) → AllKept s (places_of texts) → ((key : ℕ) → 1 ≤ kept_times (number_in (get s key)) (map (kept_of s) (places_of texts)) → get t key ≡ get s key)
    → map (node_of t) (map (text_row (depth + 1)) texts) ≡ map (at_depth (suc depth)) (back (map (kept_of s) (places_of texts)))
back-rows s t depth [] live same = refl
back-rows s t depth (x ∷ xs) live same =
    let here = same x.place (one-if (number_in (get s x.place)) (number_in (get s x.place)) refl (kept_times (number_in (get s x.place)) (map (kept_of s) (places_of xs)))) in
    let deep : depth + 1 ≡ suc depth = omega arith in
    let first : node_of t (text_row (depth + 1) x) ≡ record { number = number_in (get s x.place); depth = suc depth; content = Text (own_text (content_in (get s x.place))) } =
    ap (λ o. record { number = number_in o; depth = depth + 1; content = content_in o }) here
    ∙ ap (λ d. record { number = number_in (get s x.place); depth = d; content = content_in (get s x.place) }) deep
    ∙ ap (λ c. record { number = number_in (get s x.place); depth = suc depth; content = c }) (sym (text-again (content_in (get s x.place)) live.0)) in
    let rest = back-rows s t depth xs live.1 (λ key some. same key (omega arith)) in
    ap (λ y. y ∷ map (node_of t) (map (text_row (depth + 1)) xs)) first ∙ ap (λ l. record { number = number_in (get s x.place); depth = suc depth; content = Text (own_text (content_in (get s x.place))) } ∷ l) rest

text-some : (o : Option Slot) → is_text (content_in o) ≡ true → IsSome o
text-some None e = absurd (false≢true e)
text-some (Some s) e = refl

back-live : (s t : Slab Slot) (depth : ℕ) (texts : List NodeId) → AllKept s (places_of texts) → ((key : ℕ) → 1 ≤ kept_times (number_in (get s key)) (map (kept_of s) (places_of texts)) → get t key ≡ get s key)
    → AllLive t (map (text_row depth) texts)
back-live s t depth [] live same = tt
back-live s t depth (x ∷ xs) live same =
    let here = same x.place (one-if (number_in (get s x.place)) (number_in (get s x.place)) refl (kept_times (number_in (get s x.place)) (map (kept_of s) (places_of xs)))) in
    (subst IsSome (sym here) (text-some (get s x.place) live.0), back-live s t depth xs live.1 (λ key some. same key (omega arith)))

back-texts : (ts : List KeptText) → AreTextNodes (back ts)
back-texts [] = tt
back-texts (t ∷ ts) = (refl, back-texts ts)

back-times : (m : ℕ) (ts : List KeptText) → times m (back ts) ≡ kept_times m ts
back-times m [] = refl
back-times m (t ∷ ts) = ap (λ k. (if t.number == m then 1 else 0) + k) (back-times m ts)

back-count : (ts : List KeptText) → node_count (back ts) ≡ length ts
back-count [] = refl
back-count (t ∷ ts) = omega (arith, nodes-cons (text_node t.number t.text) (back ts), back-count ts)

attributes-kept : (s t : Slab Slot) (rows : List Row) → ((key : ℕ) → is_attribute (content_in (get t key)) ≡ is_attribute (content_in (get s key))) → attributes t rows ≡ attributes s rows
attributes-kept s t [] same = refl
attributes-kept s t (r ∷ rs) same =
    let i = attributes-kept s t rs same in
    let e = same r.key in
    elim (cases_Bool (is_attribute (content_in (get s r.key)))) [ inl h ↦ rw (e ∙ h, h) (ap (λ l. r ∷ l) i) | inr h ↦ rw (e ∙ h, h) i ]

module _ (s t : Slab Slot) (n at : ℕ) (rows new : List Row) (kept ns : List ℕ) (texts : List NodeId) (next total size room : ℕ) (state : IsState s rows kept next total size room) (here : StandsAt s rows n at)
    (kind : kind_at n (map (node_of s) rows) ≡ Some kind.Element) (childless : has_elements (visits (map (node_of s) rows)) n ≡ false)
    (places : places_of texts ≡ filter (is_wanted s ns) kept)
    (keeps : KeepsBut s t (map (node_of s) (children s (run_of at rows)))) (kinds : (key : ℕ) → is_attribute (content_in (get t key)) ≡ is_attribute (content_in (get s key)))
    (less : (key : ℕ) → size_of (content_in (get t key)) ≤ size_of (content_in (get s key)))
    (rows_are : map unsized new ≡ map unsized (with_text_rows t at texts rows)) where
  abbrev gone : List Row
  gone = children s (run_of at rows)

  abbrev wanted : List ℕ
  wanted = filter (is_wanted s ns) kept

  abbrev others : List ℕ
  others = filter (is_left s ns) kept

  abbrev backs : List Node
  backs = back (map (kept_of s) (filter (is_wanted s ns) kept))

  parts : (m : ℕ) → times m (map (node_of s) (stay s n at rows kept next state.sound here kind childless)) + times m (map (node_of s) gone) ≡ times m (map (node_of s) rows)
  parts m = stay-parts s n at rows kept next state.sound here kind childless (times m) (times-append m)

  same : SameAt s t (stay s n at rows kept next state.sound here kind childless)
  same = same-where s t (stay s n at rows kept next state.sound here kind childless) (λ key some. keeps key (omega (arith, parts (number_in (get s key)), state.sound.apart (number_in (get s key)))))

  kept-at : (key : ℕ) → 1 ≤ kept_times (number_in (get s key)) (map (kept_of s) kept) → get t key ≡ get s key
  kept-at key some = keeps key (omega (arith, parts (number_in (get s key)), state.sound.apart (number_in (get s key))))

  others-at : (key : ℕ) → 1 ≤ kept_times (number_in (get s key)) (map (kept_of s) others) → get t key ≡ get s key
  others-at key some = kept-at key (omega (arith, parts-times s ns (number_in (get s key)) kept))

  wanted-at : (key : ℕ) → 1 ≤ kept_times (number_in (get s key)) (map (kept_of s) (places_of texts)) → get t key ≡ get s key
  wanted-at key some = kept-at key (omega (arith, parts-times s ns (number_in (get s key)) kept, ap (λ l. kept_times (number_in (get s key)) (map (kept_of s) l)) places))

  places-kept : AllKept s (places_of texts)
  places-kept = subst (AllKept s) (sym places) (kept-filter s (is_wanted s ns) kept state.sound.kept_live)

  news : map (node_of t) (map (text_row (depth_at at rows + 1)) texts) ≡ map (at_depth (suc (depth_at at rows))) backs
  news = back-rows s t (depth_at at rows) texts places-kept wanted-at ∙ ap (λ l. map (at_depth (suc (depth_at at rows))) (back (map (kept_of s) l))) places

  news-live : AllLive t (map (text_row (depth_at at rows + 1)) texts)
  news-live = back-live s t (depth_at at rows + 1) texts places-kept wanted-at

  pub backs-size : all_size backs ≡ all_size (map (node_of s) (map (text_row (depth_at at rows + 1)) texts))
  backs-size =
      sym (ap all_size (back-rows s s (depth_at at rows) texts places-kept (λ key some. refl) ∙ ap (λ l. map (at_depth (suc (depth_at at rows))) (back (map (kept_of s) l))) places) ∙ size-flat (suc (depth_at at rows)) backs)

  alike : attributes t (run_of at rows) ≡ attributes s (run_of at rows)
  alike = attributes-kept s t (run_of at rows) kinds

  nodes-back : map (node_of t) new ≡ with_texts n backs (map (node_of s) rows)
  nodes-back = swap-nodes s n at rows kept next state.sound here kind childless t t texts backs new rows_are alike same news (back-texts (map (kept_of s) wanted)) news-live

  others-same : map (kept_of t) others ≡ map (kept_of s) others
  others-same = kept-where s t others others-at

  times-back : (m : ℕ) → times m (map (node_of t) new) + kept_times m (map (kept_of t) others) + times m (map (node_of s) gone) ≡ times m (map (node_of s) rows) + kept_times m (map (kept_of s) kept)
  times-back m =
      let a = ap (times m) nodes-back ∙ with-parts s n at rows kept next state.sound here kind childless (times m) (times-append m) (times-flat m) backs in
      omega (arith, a, parts m, back-times m (map (kept_of s) wanted), parts-times s ns m kept, ap (kept_times m) others-same)

  pub texts-long : length texts + length others ≡ length kept
  texts-long = omega (arith, ap length places, length-map texts (λ (x : NodeId). x.place), parts-length s ns kept)

  length-back : length new + length gone ≡ length rows + length texts
  length-back = swap-length s n at rows kept next state.sound here kind childless t t texts backs new rows_are alike same news (back-texts (map (kept_of s) wanted)) news-live

  sound-back : Sized new → IsSound t new others next
  sound-back sized = record {
    sized = sized;
    steps = swap-steps s n at rows kept next state.sound here kind childless t t texts backs new rows_are alike same news (back-texts (map (kept_of s) wanted)) news-live;
    few = omega (arith, state.sound.few, length-back, texts-long);
    live = swap-live s n at rows kept next state.sound here kind childless t t texts backs new rows_are alike same news (back-texts (map (kept_of s) wanted)) news-live;
    kept_live = kept-live_where s t others others-at (kept-filter s (is_left s ns) kept state.sound.kept_live);
    tops = swap-tops s n at rows kept next state.sound here kind childless t t texts backs new rows_are alike same news (back-texts (map (kept_of s) wanted)) news-live;
    leaves = swap-leaves s n at rows kept next state.sound here kind childless t t texts backs new rows_are alike same news (back-texts (map (kept_of s) wanted)) news-live;
    first = swap-first s n at rows kept next state.sound here kind childless t t texts backs new rows_are alike same news (back-texts (map (kept_of s) wanted)) news-live;
    apart = λ m. omega (arith, times-back m, state.sound.apart m);
    fresh = λ m h. omega (arith, times-back m, state.sound.fresh m h);
  }

  pub state-back : (count2 size2 room2 : ℕ) → Sized new → count2 ≡ total + length texts - node_count (map (node_of s) gone)
      → size2 ≡ size + all_size (map (node_of s) (map (text_row (depth_at at rows + 1)) texts)) - all_size (map (node_of s) gone) → room ≤ room2 → IsState t new others next count2 size2 room2
  state-back count2 size2 room2 sized ec es most =
      let a = ap node_count nodes-back ∙ with-parts s n at rows kept next state.sound here kind childless node_count nodes-append count-flat backs in
      let b = stay-parts s n at rows kept next state.sound here kind childless node_count nodes-append in
      let c = ap all_size nodes-back ∙ with-parts s n at rows kept next state.sound here kind childless all_size sizes-append size-flat backs in
      let d = stay-parts s n at rows kept next state.sound here kind childless all_size sizes-append in
      let e = back-count (map (kept_of s) wanted) in
      let f = length-map wanted (kept_of s) in
      let g = ap length places in
      let h = length-map texts (λ (x : NodeId). x.place) in
      record {
        sound = sound-back sized;
        counted = record {
          count = omega (arith, ec, a, b, e, f, g, h, state.counted.count);
          bytes = omega (arith, es, c, d, backs-size, state.counted.bytes);
          small = λ key. omega (arith, less key, state.counted.small key);
        };
        room = omega (arith, state.room, length-back, texts-long);
      }

  pub view-back : keeping_of t new others next ≡ put_back n (element_texts ns) (keeping_of s rows kept next)
  view-back =
      let whole : List Node → List KeptText → Keeping = λ l k. record { forest = record { nodes = l; next = next }; kept = k } in
      ap (λ l. whole l (map (kept_of t) others)) (nodes-back ∙ ap (λ l. with_texts n (back l) (map (node_of s) rows)) (wanted-texts s ns kept))
      ∙ ap (whole (with_texts n (back (filter (is_of ns) (map (kept_of s) kept))) (map (node_of s) rows))) (others-same ∙ left-texts s ns kept)
