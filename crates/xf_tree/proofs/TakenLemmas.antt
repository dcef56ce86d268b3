-- The state after the text of an element is set.
use Rattle.std.proofs.Common.{◌≡◌, ℕ, suc, ◌+◌, ◌-◌, ◌<◌, ◌≤◌, ◌^◌, if◌then◌else◌, Bool, true, false, List, [], ◌∷◌, ◌++◌, map, length, take, IsSome, Option, Some, None, refl, sym, ap, ◌∙◌, subst, inl, inr, arith, length-append, append_assoc}
use Rattle.std.proofs.lemmas.Bool.{cases_Bool, false≢true}
use Rattle.std.proofs.lemmas.List.{map-append, length-map}
use Rattle.slab.specs.Slab.{Slab, get, Updates}
use Rattle.xf_def_forest.specs.declared.node.NodeId.{NodeId}
use Rattle.xf_def_forest.specs.declared.content.Node.{Node}
use Rattle.xf_def_forest.specs.declared.content.Content.TheVariants.{Text}
use Rattle.xf_def_forest.specs.declared.content.Kind.TheVariants as kind
use Rattle.xf_def_forest.specs.Forest.{is_text, own_text, kind_at}
use Rattle.xf_def_forest.specs.Visit.{visits}
use Rattle.xf_def_forest.specs.Shape.{has_elements}
use Rattle.xf_def_forest.specs.Limits.{node_count, all_size, size_of}
use Rattle.xf_def_forest.specs.Texts.{Keeping, KeptText, at_depth, one_text, with_texts, kept_from}
use Rattle.xf_tree_rows.specs.declared.rows.Row.{Row}
use Rattle.xf_tree_rows.specs.Rows.{Sized}
use Rattle.xf_tree_contents.specs.Slot.{Slot}
use Rattle.xf_tree_contents.specs.Keys.{kept_of, number_in, owner_in, content_in, kept_times}
use Rattle.xf_tree_contents.proofs.AlikeLemmas.{eq-true}
use Rattle.xf_tree_contents.proofs.FreeLemmas.{same-key, kept_times-append}
use Rattle.xf_tree_walks.specs.Nodes.{node_of, times, AllLive, StandsAt}
use Rattle.xf_tree_walks.proofs.NodeLemmas.{times-append}
use Rattle.xf_tree_changes.specs.Trees.{unsized}
use Rattle.xf_tree_changes.specs.Texts.{text_slot, text_count, owned_where, has_key, IsOwned, attributes, children, is_child_row, keys_of, text_row, depth_at, run_of, with_text_rows}
use Rattle.xf_tree_changes.proofs.SameLemmas.{SameAt}
use Rattle.xf_tree_changes.proofs.PackLemmas.{owned-content, owned-number}
use Rattle.xf_tree.specs.State.{AllKept, IsSound, IsState, keeping_of}
use Rattle.xf_tree.proofs.ChildlessLemmas.{AllTexts, run-all_texts}
use Rattle.xf_tree.proofs.SwapLemmas.{stay, live-stay, live-run, stay-parts, with-parts, swap-nodes, swap-length, swap-live, swap-tops, swap-steps, swap-leaves, swap-first}
use Rattle.xf_tree.proofs.SetLemmas.{added-keeps, attributes-alike, children-alike, key-absent, key-there, times-flat, from-times, one-texts, one-other, one-most, one-fresh, count-most, gone, after-count, after-size}

text-some : (o : Option Slot) → is_text (content_in o) ≡ true → IsSome o
text-some None e = absurd (false≢true e)
text-some (Some s) e = refl

owned-some : (b : Bool) (owner : ℕ) (o : Option Slot) → IsSome o → IsSome (owned_where b owner o)
owned-some true owner None h = h
owned-some true owner (Some v) h = refl
owned-some false owner o h = h

owned-kept : (owner : ℕ) (o : Option Slot) → IsSome o
    → ◌≡◌ {A = KeptText} (record { number = number_in (owned_where true owner o); owner = owner_in (owned_where true owner o); text = own_text (content_in (owned_where true owner o)) })
    (record { number = number_in o; owner = owner; text = own_text (content_in o) })
owned-kept owner None h = absurd (false≢true h)
owned-kept owner (Some v) h = refl

least-times : (m : ℕ) (s : Slab Slot) (r : Row) → number_in (get s r.key) ≡ m → (rs : List Row) → 1 ≤ times m (map (node_of s) (r ∷ rs))
least-times m s r e rs = let one = ap {B = ℕ} (λ b. if b then 1 else 0) (eq-true (number_in (get s r.key)) m e) in omega arith

-- rows of numbers that are not among those taken have the slots that they had
stay-same : (s s3 : Slab Slot) (gone rs : List Row) → AllLive s rs → ((key : ℕ) → IsSome (get s key) → has_key key (keys_of gone) ≡ false → get s3 key ≡ get s key)
    → ((m : ℕ) → 1 ≤ times m (map (node_of s) rs) → times m (map (node_of s) gone) ≡ 0) → SameAt s s3 rs
stay-same s s3 gone [] live keeps apart = tt
stay-same s s3 gone (r ∷ rs) live keeps apart = (
  keeps r.key live.0 (key-absent s r.key gone (apart (number_in (get s r.key)) (least-times (number_in (get s r.key)) s r refl rs))),
  stay-same s s3 gone rs live.1 keeps (λ m some. apart m (omega arith)),
)

kept-stay : (s s3 : Slab Slot) (gone : List Row) (keys : List ℕ) → AllKept s keys → ((key : ℕ) → IsSome (get s key) → has_key key (keys_of gone) ≡ false → get s3 key ≡ get s key)
    → ((m : ℕ) → 1 ≤ kept_times m (map (kept_of s) keys) → times m (map (node_of s) gone) ≡ 0) → map (kept_of s3) keys ≡ map (kept_of s) keys
kept-stay s s3 gone [] live keeps apart = refl
kept-stay s s3 gone (k ∷ ks) live keeps apart =
    let one = ap {B = ℕ} (λ b. if b then 1 else 0) (eq-true (number_in (get s k)) (number_in (get s k)) refl) in
    let here = keeps k (text-some (get s k) live.0) (key-absent s k gone (apart (number_in (get s k)) (omega arith))) in
    let rest = kept-stay s s3 gone ks live.1 keeps (λ m some. apart m (omega arith)) in
    cc

-- the texts taken, as kept ones
taken-kept : (s s3 : Slab Slot) (owner : ℕ) (ps rs : List Row) → AllLive s rs → ((key : ℕ) → IsSome (get s key) → get s3 key ≡ owned_where (has_key key (keys_of (ps ++ rs))) owner (get s key))
    → map (kept_of s3) (keys_of rs) ≡ kept_from owner (map (node_of s) rs)
taken-kept s s3 owner ps [] live owned = refl
taken-kept s s3 owner ps (r ∷ rs) live owned =
    let there : has_key r.key (keys_of (ps ++ (r ∷ rs))) ≡ true = ap (has_key r.key) (map-append (λ (x : Row). x.key) ps (r ∷ rs)) ∙ key-there r.key (keys_of ps) (keys_of rs) in
    let slot = owned r.key live.0 ∙ ap (λ b. owned_where b owner (get s r.key)) there in
    let first : kept_of s3 r.key ≡ record { number = number_in (get s r.key); owner = owner; text = own_text (content_in (get s r.key)) } =
    ap (λ o. record { number = number_in o; owner = owner_in o; text = own_text (content_in o) }) slot ∙ owned-kept owner (get s r.key) live.0 in
    let rest = taken-kept s s3 owner (ps ++ (r ∷ [])) rs live.1 (λ key some. owned key some ∙ ap (λ l. owned_where (has_key key (keys_of l)) owner (get s key)) (sym (append_assoc ps (r ∷ []) rs))) in
    ap (λ t. t ∷ map (kept_of s3) (keys_of rs)) first ∙ ap (λ l. record { number = number_in (get s r.key); owner = owner; text = own_text (content_in (get s r.key)) } ∷ l) rest

kept-texts : (s s3 : Slab Slot) (keys : List ℕ) → AllKept s keys → ((key : ℕ) → IsSome (get s key) → content_in (get s3 key) ≡ content_in (get s key)) → AllKept s3 keys
kept-texts s s3 [] live same = tt
kept-texts s s3 (k ∷ ks) live same = (ap is_text (same k (text-some (get s k) live.0)) ∙ live.0, kept-texts s s3 ks live.1 same)

taken-texts : (s s3 : Slab Slot) (rs : List Row) → AllLive s rs → AllTexts s rs → ((key : ℕ) → IsSome (get s key) → content_in (get s3 key) ≡ content_in (get s key)) → AllKept s3 (keys_of rs)
taken-texts s s3 [] live texts same = tt
taken-texts s s3 (r ∷ rs) live texts same = (ap is_text (same r.key live.0) ∙ texts.0, taken-texts s s3 rs live.1 texts.1 same)

all-kept : (s : Slab Slot) (xs ys : List ℕ) → AllKept s xs → AllKept s ys → AllKept s (xs ++ ys)
all-kept s [] ys a b = b
all-kept s (x ∷ xs) ys a b = (a.0, all-kept s xs ys a.1 b)

texts-most : (text : List ℕ) (x : NodeId) → length (take (text_count text) (x ∷ [])) ≤ text_count text
texts-most [] x = omega arith
texts-most (c ∷ cs) x = omega arith

pub live-children : (s : Slab Slot) (rows : List Row) → AllLive s rows → AllLive s (children s rows)
live-children s [] l = tt
live-children s (r ∷ rs) l = let i = live-children s rs l.1 in elim (cases_Bool (is_child_row s r)) [ inl e ↦ rw e (l.0, i) | inr e ↦ rw e i ]

-- the row of the new text, where there is one
new-row : (s3 : Slab Slot) (next place depth : ℕ) (text : List ℕ) (number : number_in (get s3 place) ≡ number_in (text_slot next text)) → content_in (get s3 place) ≡ content_in (text_slot next text)
    → map (node_of s3) (map (text_row (depth + 1)) (take (text_count text) (record { number = next; place = place } ∷ []))) ≡ map (at_depth (suc depth)) (one_text next text)
new-row s3 next place depth [] number content = refl
new-row s3 next place depth (c ∷ cs) number content =
    let deep : depth + 1 ≡ suc depth = omega arith in
    ap (λ k. record { number = k; depth = depth + 1; content = content_in (get s3 place) } ∷ []) number
    ∙ ap (λ k. record { number = next; depth = depth + 1; content = k } ∷ []) content
    ∙ ap (λ k. record { number = next; depth = k; content = Text (c ∷ cs) } ∷ []) deep

new-live : (s3 : Slab Slot) (next place depth : ℕ) (text : List ℕ) → (IsSome (text_slot next text) → IsSome (get s3 place))
    → AllLive s3 (map (text_row depth) (take (text_count text) (record { number = next; place = place } ∷ [])))
new-live s3 next place depth [] h = tt
new-live s3 next place depth (c ∷ cs) h = (h refl, tt)

slot-size : (next : ℕ) (text : List ℕ) → size_of (content_in (text_slot next text)) ≤ length text
slot-size next [] = omega arith
slot-size next (c ∷ cs) = omega arith

module _ (s s1 s2 s3 : Slab Slot) (n at place number : ℕ) (text : List ℕ) (rows new : List Row) (kept : List ℕ) (next total size room : ℕ) (state : IsState s rows kept next total size room) (here : StandsAt s rows n at)
    (kind : kind_at n (map (node_of s) rows) ≡ Some kind.Element) (childless : has_elements (visits (map (node_of s) rows)) n ≡ false)
    (same1 : (key : ℕ) → get s1 key ≡ get s key) (vacant : get s1 place ≡ None) (slot : Updates s1 s2 place (text_slot number text))
    (owned : IsOwned n (keys_of (children s2 (run_of at rows))) s2 s3)
    (rows_are : map unsized new ≡ map unsized (with_text_rows s3 at (take (text_count text) (record { number = number; place = place } ∷ [])) rows)) where
  keeps2 : (key : ℕ) → IsSome (get s key) → get s2 key ≡ get s key
  keeps2 = added-keeps s s1 s2 place number text same1 vacant slot

  content2 : (key : ℕ) → IsSome (get s key) → content_in (get s2 key) ≡ content_in (get s key)
  content2 key some = ap content_in (keeps2 key some)

  content3 : (key : ℕ) → IsSome (get s key) → content_in (get s3 key) ≡ content_in (get s key)
  content3 key some = ap content_in (owned key) ∙ owned-content (has_key key (keys_of (children s2 (run_of at rows)))) n (get s2 key) ∙ content2 key some

  run-live : AllLive s (run_of at rows)
  run-live = live-run s n at rows kept next state.sound here kind childless

  pub gone-is : children s2 (run_of at rows) ≡ gone s n at number text rows kept next total size room state here kind childless
  gone-is = children-alike s s2 (run_of at rows) run-live content2

  abbrev went : List Row
  went = children s (run_of at rows)

  owned3 : (key : ℕ) → IsSome (get s key) → get s3 key ≡ owned_where (has_key key (keys_of went)) n (get s key)
  owned3 key some = owned key ∙ ap (λ l. owned_where (has_key key (keys_of l)) n (get s2 key)) gone-is ∙ ap (owned_where (has_key key (keys_of went)) n) (keeps2 key some)

  keeps3 : (key : ℕ) → IsSome (get s key) → has_key key (keys_of went) ≡ false → get s3 key ≡ get s key
  keeps3 key some absent = owned3 key some ∙ ap (λ b. owned_where b n (get s key)) absent

  parts : (m : ℕ) → times m (map (node_of s) (stay s n at rows kept next state.sound here kind childless)) + times m (map (node_of s) went) ≡ times m (map (node_of s) rows)
  parts m = stay-parts s n at rows kept next state.sound here kind childless (times m) (times-append m)

  same : SameAt s s3 (stay s n at rows kept next state.sound here kind childless)
  same = stay-same s s3 went (stay s n at rows kept next state.sound here kind childless) (live-stay s n at rows kept next state.sound here kind childless) keeps3 (λ m some. omega (arith, parts m, state.sound.apart m))

  went-live : AllLive s went
  went-live = live-children s (run_of at rows) run-live

  kept-old : map (kept_of s3) kept ≡ map (kept_of s) kept
  kept-old = kept-stay s s3 went kept state.sound.kept_live keeps3 (λ m some. omega (arith, parts m, state.sound.apart m))

  pub kept-now : map (kept_of s3) (kept ++ keys_of went) ≡ map (kept_of s) kept ++ kept_from n (map (node_of s) went)
  kept-now = map-append (kept_of s3) kept (keys_of went) ∙ ap (λ l. l ++ map (kept_of s3) (keys_of went)) kept-old ∙ ap (λ l. map (kept_of s) kept ++ l) (taken-kept s s3 n [] went went-live owned3)

  number3 : number_in (get s3 place) ≡ number_in (text_slot number text)
  number3 = ap number_in (owned place) ∙ owned-number (has_key place (keys_of (children s2 (run_of at rows)))) n (get s2 place) ∙ ap number_in slot.changed

  place3 : content_in (get s3 place) ≡ content_in (text_slot number text)
  place3 = ap content_in (owned place) ∙ owned-content (has_key place (keys_of (children s2 (run_of at rows)))) n (get s2 place) ∙ ap content_in slot.changed

  abbrev texts : List NodeId
  texts = take (text_count text) (record { number = number; place = place } ∷ [])

  news : map (node_of s3) (map (text_row (depth_at at rows + 1)) texts) ≡ map (at_depth (suc (depth_at at rows))) (one_text number text)
  news = new-row s3 number place (depth_at at rows) text number3 place3

  news-live : AllLive s3 (map (text_row (depth_at at rows + 1)) texts)
  news-live = new-live s3 number place (depth_at at rows + 1) text (λ some. subst IsSome (sym (owned place)) (owned-some (has_key place (keys_of (children s2 (run_of at rows)))) n (get s2 place) (subst IsSome (sym slot.changed) some)))

  alike : attributes s3 (run_of at rows) ≡ attributes s (run_of at rows)
  alike = attributes-alike s s3 (run_of at rows) run-live content3

  pub nodes-now : map (node_of s3) new ≡ with_texts n (one_text number text) (map (node_of s) rows)
  nodes-now = swap-nodes s n at rows kept next state.sound here kind childless s3 s3 texts (one_text number text) new rows_are alike same news (one-texts number text) news-live

  times-now : (m : ℕ) → times m (map (node_of s3) new) + kept_times m (map (kept_of s3) (kept ++ keys_of went)) ≡ times m (map (node_of s) rows) + kept_times m (map (kept_of s) kept) + times m (one_text number text)
  times-now m =
      let a = ap (times m) nodes-now ∙ with-parts s n at rows kept next state.sound here kind childless (times m) (times-append m) (times-flat m) (one_text number text) in
      let b = ap (kept_times m) kept-now ∙ kept_times-append m (map (kept_of s) kept) (kept_from n (map (node_of s) went)) in
      omega (arith, a, b, parts m, from-times m n (map (node_of s) went))

  pub length-now : length new + length went ≡ length rows + length texts
  length-now = swap-length s n at rows kept next state.sound here kind childless s3 s3 texts (one_text number text) new rows_are alike same news (one-texts number text) news-live

  texts-long : length texts ≤ text_count text
  texts-long = texts-most text (record { number = number; place = place })

  kept-long : length (kept ++ keys_of went) ≡ length kept + length went
  kept-long = omega (arith, length-append kept (keys_of went), length-map went (λ (r : Row). r.key))

  -- with any number that is not there, so that the next one then is behind it
  sound-now : (next2 : ℕ) → times number (map (node_of s) rows) + kept_times number (map (kept_of s) kept) ≡ 0 → next ≤ next2 → number + text_count text ≤ next2
      → Sized new → length rows + length kept + 1 < 2 ^ 31 → IsSound s3 new (kept ++ keys_of went) next2
  sound-now next2 free later below sized few = record {
    sized = sized;
    steps = swap-steps s n at rows kept next state.sound here kind childless s3 s3 texts (one_text number text) new rows_are alike same news (one-texts number text) news-live;
    few = omega (arith, length-now, texts-long, kept-long, few, count-most text);
    live = swap-live s n at rows kept next state.sound here kind childless s3 s3 texts (one_text number text) new rows_are alike same news (one-texts number text) news-live;
    kept_live = all-kept s3 kept (keys_of went) (kept-texts s s3 kept state.sound.kept_live content3)
        (taken-texts s s3 went went-live (run-all_texts s n at rows kept next state.sound here kind childless) content3);
    tops = swap-tops s n at rows kept next state.sound here kind childless s3 s3 texts (one_text number text) new rows_are alike same news (one-texts number text) news-live;
    leaves = swap-leaves s n at rows kept next state.sound here kind childless s3 s3 texts (one_text number text) new rows_are alike same news (one-texts number text) news-live;
    first = swap-first s n at rows kept next state.sound here kind childless s3 s3 texts (one_text number text) new rows_are alike same news (one-texts number text) news-live;
    apart = λ m. elim (same-key number m) [
      | inl ne ↦ omega (arith, times-now m, state.sound.apart m, one-other m number text ne)
      | inr e ↦ omega (arith, times-now m, subst (λ k. times k (map (node_of s) rows) + kept_times k (map (kept_of s) kept) ≡ 0) e free, one-most m number text)
    ];
    fresh = λ m h. omega (arith, times-now m, state.sound.fresh m (omega (arith, later, h)), one-fresh m number text (omega (arith, below, h)));
  }

  small-now : length text ≤ 2 ^ 66 → (key : ℕ) → size_of (content_in (get s3 key)) ≤ 2 ^ 66
  small-now short key =
      let e = ap size_of (ap content_in (owned key) ∙ owned-content (has_key key (keys_of (children s2 (run_of at rows)))) n (get s2 key)) in
      elim (same-key key place) [
        | inl ne ↦ omega (arith, e, ap (λ o. size_of (content_in o)) (slot.others key ne ∙ same1 key), state.counted.small key)
        | inr q ↦ omega (arith, e, ap (λ k. size_of (content_in (get s2 k))) q, ap (λ o. size_of (content_in o)) slot.changed, slot-size number text, short)
      ]

  pub state-now : (next2 room2 : ℕ) → times number (map (node_of s) rows) + kept_times number (map (kept_of s) kept) ≡ 0 → next ≤ next2 → number + text_count text ≤ next2
      → Sized new → length rows + length kept + 1 < 2 ^ 31 → length rows + (length kept + 1) ≤ room2 → length text ≤ 2 ^ 66
      → IsState s3 new (kept ++ keys_of went) next2 (total - length went + text_count text) (size - all_size (map (node_of s) went) + length text) room2
  state-now next2 room2 free later below sized few spare short = record {
    sound = sound-now next2 free later below sized few;
    counted = record {
      count = sym (ap node_count nodes-now ∙ after-count s n at number text rows kept next total size room state here kind childless);
      bytes = sym (ap all_size nodes-now ∙ after-size s n at number text rows kept next total size room state here kind childless);
      small = small-now short;
    };
    room = omega (arith, length-now, texts-long, kept-long, spare, count-most text);
  }

  pub view-now : (next2 : ℕ) → keeping_of s3 new (kept ++ keys_of went) next2
      ≡ record { forest = record { nodes = with_texts n (one_text number text) (map (node_of s) rows); next = next2 }; kept = map (kept_of s) kept ++ kept_from n (map (node_of s) went) }
  view-now next2 =
      let whole : List Node → List KeptText → Keeping = λ l k. record { forest = record { nodes = l; next = next2 }; kept = k } in
      ap (λ l. whole l (map (kept_of s3) (kept ++ keys_of went))) nodes-now ∙ ap (whole (with_texts n (one_text number text) (map (node_of s) rows))) kept-now
