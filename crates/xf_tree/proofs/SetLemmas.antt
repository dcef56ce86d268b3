-- The text of an element is set: its texts go to the kept ones, and one text or none comes in their place.
use Rattle.std.proofs.Common.{◌≡◌, ℕ, ◌+◌, ◌-◌, ◌<◌, ◌≤◌, ◌^◌, ◌==◌, ◌||◌, not, cond, if◌then◌else◌, Bool, true, false, List, [], ◌∷◌, ◌++◌, map, length, get_or, IsSome, Some, None, refl, sym, ap, ◌∙◌, subst, inl, inr, arith}
use Rattle.std.specs.Prelude.{is_some}
use Rattle.std.specs.List.{list_any}
use Rattle.std.proofs.lemmas.Bool.{cases_Bool, false≢true}
use Rattle.std.proofs.lemmas.List.{length-map, get_or-map}
use Rattle.slab.specs.Slab.{Slab, get, Updates}
use Rattle.xf_def_forest.specs.declared.content.Node.{Node}
use Rattle.xf_def_forest.specs.declared.content.Content.{Content}
use Rattle.xf_def_forest.specs.declared.content.Content.TheVariants.{Root, Element, Attribute, Text}
use Rattle.xf_def_forest.specs.declared.content.Kind.TheVariants as kind
use Rattle.xf_def_forest.specs.Forest.{is_root, is_element, is_attribute, is_text, kind_at}
use Rattle.xf_def_forest.specs.Visit.{visits, numbers}
use Rattle.xf_def_forest.specs.Shape.{has_elements}
use Rattle.xf_def_forest.specs.Limits.{limits, unless, node_count, all_size, passed_by_text}
use Rattle.xf_def_forest.specs.Texts.{Keeping, KeptText, at_depth, one_text, with_texts, kept_from, is_attribute_at, with_text, text_set, element_texts}
use Rattle.xf_tree_rows.specs.declared.rows.Row.{Row}
use Rattle.xf_tree_rows.specs.Rows.{AreSteps, depths, no_row}
use Rattle.xf_tree_contents.specs.Slot.{Slot}
use Rattle.xf_tree_contents.specs.Keys.{kept_of, number_in, content_in, kept_times}
use Rattle.xf_tree_contents.proofs.AlikeLemmas.{eq-true}
use Rattle.xf_tree_contents.proofs.FreeLemmas.{same-key}
use Rattle.xf_tree_walks.specs.Nodes.{node_of, times, AllLive, StandsAt}
use Rattle.xf_tree_walks.proofs.NodeLemmas.{eq-false}
use Rattle.xf_tree_walks.proofs.CountLemmas.{nodes-append, sizes-append, nodes-cons, sizes-cons, count-alike, size-alike}
use Rattle.xf_tree_walks.proofs.StepLemmas.{depth-bound}
use Rattle.xf_tree_changes.specs.Texts.{passed_by, text_slot, text_count, has_key, attributes, children, keys_of, numbers_at, depth_at, run_of}
use Rattle.xf_tree.specs.State.{IsState, keeping_of}
use Rattle.xf_tree.specs.Settled.{text_written}
use Rattle.xf_tree.proofs.ValueLemmas.{attribute-at}
use Rattle.xf_tree.proofs.ChildlessLemmas.{AllTexts, element-parted, is-element, run-all_texts, texts-are}
use Rattle.xf_tree.proofs.UnsizedLemmas.{AreTextNodes}
use Rattle.xf_tree.proofs.SwapLemmas.{with-sum, stay-parts}

-- ---- kinds of rows that stay

pub attributes-alike : (s s2 : Slab Slot) (rows : List Row) → AllLive s rows → ((key : ℕ) → IsSome (get s key) → content_in (get s2 key) ≡ content_in (get s key)) → attributes s2 rows ≡ attributes s rows
attributes-alike s s2 [] live same = refl
attributes-alike s s2 (r ∷ rs) live same =
    let i = attributes-alike s s2 rs live.1 same in
    let e = ap is_attribute (same r.key live.0) in
    elim (cases_Bool (is_attribute (content_in (get s r.key)))) [ inl t ↦ rw (e ∙ t, t) (ap (λ l. r ∷ l) i) | inr t ↦ rw (e ∙ t, t) i ]

pub children-alike : (s s2 : Slab Slot) (rows : List Row) → AllLive s rows → ((key : ℕ) → IsSome (get s key) → content_in (get s2 key) ≡ content_in (get s key)) → children s2 rows ≡ children s rows
children-alike s s2 [] live same = refl
children-alike s s2 (r ∷ rs) live same =
    let i = children-alike s s2 rs live.1 same in
    let e = ap is_attribute (same r.key live.0) in
    elim (cases_Bool (is_attribute (content_in (get s r.key)))) [ inl t ↦ rw (e ∙ t, t) i | inr t ↦ rw (e ∙ t, t) (ap (λ l. r ∷ l) i) ]

pub numbers-alike : (s s2 : Slab Slot) (rows : List Row) → AllLive s rows → ((key : ℕ) → IsSome (get s key) → get s2 key ≡ get s key) → numbers_at s2 rows ≡ numbers_at s rows
numbers-alike s s2 [] live same = refl
numbers-alike s s2 (r ∷ rs) live same = ap (λ o. number_in o ∷ numbers_at s2 rs) (same r.key live.0) ∙ ap (λ l. number_in (get s r.key) ∷ l) (numbers-alike s s2 rs live.1 same)

-- what was there is there still when a text has come in
pub added-keeps : (s s1 s2 : Slab Slot) (place next : ℕ) (text : List ℕ) → ((key : ℕ) → get s1 key ≡ get s key) → get s1 place ≡ None → Updates s1 s2 place (text_slot next text)
    → (key : ℕ) → IsSome (get s key) → get s2 key ≡ get s key
added-keeps s s1 s2 place next text same vacant slot key some =
    slot.others key (λ e. false≢true (ap is_some (sym (ap (get s1) e ∙ vacant)) ∙ subst IsSome (sym (same key)) some)) ∙ same key

-- ---- keys

pub key-absent : (s : Slab Slot) (key : ℕ) (rs : List Row) → times (number_in (get s key)) (map (node_of s) rs) ≡ 0 → has_key key (keys_of rs) ≡ false
key-absent s key [] none = refl
key-absent s key (r ∷ rs) none =
    elim (same-key r.key key) [
      | inl ne ↦ rw (eq-false r.key key ne) (key-absent s key rs (omega arith))
      | inr e ↦ absurd (let one = ap {B = ℕ} (λ b. if b then 1 else 0) (eq-true (number_in (get s r.key)) (number_in (get s key)) (ap (λ k. number_in (get s k)) e)) in omega arith)
    ]

pub key-there : (key : ℕ) (ps rs : List ℕ) → has_key key (ps ++ (key ∷ rs)) ≡ true
key-there key [] rs = rw (eq-true key key refl) refl
key-there key (p ∷ ps) rs = ap (λ b. (p == key) || b) (key-there key ps rs) ∙ or-true (p == key)
  where
    or-true : (b : Bool) → (b || true) ≡ true
    or-true true = refl
    or-true false = refl

-- ---- measures

pub times-flat : (m d : ℕ) (xs : List Node) → times m (map (at_depth d) xs) ≡ times m xs
times-flat m d [] = refl
times-flat m d (x ∷ xs) = ap (λ t. (if x.number == m then 1 else 0) + t) (times-flat m d xs)

pub count-flat : (d : ℕ) (xs : List Node) → node_count (map (at_depth d) xs) ≡ node_count xs
count-flat d xs = count-alike (at_depth d) (λ x. refl) xs

pub size-flat : (d : ℕ) (xs : List Node) → all_size (map (at_depth d) xs) ≡ all_size xs
size-flat d xs = size-alike (at_depth d) (λ x. refl) xs

text-no_root : (c : Content) → is_text c ≡ true → not (is_root c) ≡ true
text-no_root Root e = absurd (false≢true e)
text-no_root (Element name) e = refl
text-no_root (Attribute name text) e = refl
text-no_root (Text text) e = refl

pub texts-count : (s : Slab Slot) (rs : List Row) → AllTexts s rs → node_count (map (node_of s) rs) ≡ length rs
texts-count s [] h = refl
texts-count s (r ∷ rs) h =
    let one = ap {B = ℕ} (λ b. cond b 1 0) (text-no_root (content_in (get s r.key)) h.0) in
    omega (arith, nodes-cons (node_of s r) (map (node_of s) rs), texts-count s rs h.1)

pub from-times : (m owner : ℕ) (xs : List Node) → kept_times m (kept_from owner xs) ≡ times m xs
from-times m owner [] = refl
from-times m owner (x ∷ xs) = ap (λ t. (if x.number == m then 1 else 0) + t) (from-times m owner xs)

one-count : (next : ℕ) (text : List ℕ) → node_count (one_text next text) ≡ text_count text
one-count next [] = refl
one-count next (c ∷ cs) = nodes-cons (record { number = next; depth = 0; content = Text (c ∷ cs) }) []

one-size : (next : ℕ) (text : List ℕ) → all_size (one_text next text) ≡ length text
one-size next [] = refl
one-size next (c ∷ cs) = omega (arith, sizes-cons (record { number = next; depth = 0; content = Text (c ∷ cs) }) [])

pub one-length : (next : ℕ) (text : List ℕ) → length (one_text next text) ≡ text_count text
one-length next [] = refl
one-length next (c ∷ cs) = refl

pub one-texts : (next : ℕ) (text : List ℕ) → AreTextNodes (one_text next text)
one-texts next [] = tt
one-texts next (c ∷ cs) = (refl, tt)

pub one-other : (m next : ℕ) (text : List ℕ) → (next ≡ m → ⊥) → times m (one_text next text) ≡ 0
one-other m next [] ne = refl
one-other m next (c ∷ cs) ne = rw (eq-false next m ne) refl

pub one-most : (m next : ℕ) (text : List ℕ) → times m (one_text next text) ≤ 1
one-most m next [] = omega arith
one-most m next (c ∷ cs) = elim (same-key next m) [ inl ne ↦ rw (eq-false next m ne) (omega arith) | inr e ↦ rw (eq-true next m e) (omega arith) ]

pub one-fresh : (m next : ℕ) (text : List ℕ) → next + text_count text ≤ m → times m (one_text next text) ≡ 0
one-fresh m next [] h = refl
one-fresh m next (c ∷ cs) h = one-other m next (c ∷ cs) (λ e. let z : ⊥ = omega arith in z)

pub count-most : (text : List ℕ) → text_count text ≤ 1
count-most [] = omega arith
count-most (c ∷ cs) = omega arith

pub depth-most : (at : ℕ) (rows : List Row) → at < length rows → AreSteps 0 (depths rows) → length rows < 2 ^ 31 → depth_at at rows + 1 < 2 ^ 32
depth-most at rows h steps few =
    let d : Row → ℕ = λ r. r.depth in
    let inside : at < length (depths rows) = omega (arith, length-map rows d) in
    let b = depth-bound 0 at (depths rows) 0 steps inside in
    let e : get_or (depths rows) at 0 ≡ depth_at at rows = get_or-map d rows at no_row 0 h in
    omega (arith, b, e)

element-no_attribute : (c : Content) → is_element c ≡ true → is_attribute c ≡ false
element-no_attribute Root e = refl
element-no_attribute (Element name) e = refl
element-no_attribute (Attribute name text) e = absurd (false≢true e)
element-no_attribute (Text text) e = refl

numbers-at : (s : Slab Slot) (rs : List Row) → numbers (map (node_of s) rs) ≡ numbers_at s rs
numbers-at s [] = refl
numbers-at s (r ∷ rs) = ap (λ l. number_in (get s r.key) ∷ l) (numbers-at s rs)

pub kept-absent : (n : ℕ) (ts : List KeptText) → list_any (λ (t : KeptText). t.number == n) ts ≡ false → kept_times n ts ≡ 0
kept-absent n [] h = refl
kept-absent n (t ∷ ts) h = elim (cases_Bool (t.number == n)) [
  | inl e ↦ absurd (false≢true (sym (rw e at h)))
  | inr e ↦ rw e (omega (arith, kept-absent n ts (rw e at h)))
]

-- an element's text is set as one that has the next number is written
pub set-written : (n : ℕ) (text : List ℕ) (k : Keeping) → is_attribute_at n k.forest.nodes ≡ false
    → text_set limits n text k ≡ unless (passed_by_text limits (length text) (with_text n text k.forest).nodes) (text_written k.forest.next (k.forest.next + text_count text) n text k)
set-written n text k none =
    let more = one-length k.forest.next text in
    rw none (rw more refl)

module _ (s : Slab Slot) (n at number : ℕ) (text : List ℕ) (rows : List Row) (kept : List ℕ) (next total size room : ℕ) (state : IsState s rows kept next total size room) (here : StandsAt s rows n at)
    (kind : kind_at n (map (node_of s) rows) ≡ Some kind.Element) (childless : has_elements (visits (map (node_of s) rows)) n ≡ false) where
  abbrev pub gone : List Row
  gone = children s (run_of at rows)

  abbrev pub after : List Node
  after = with_texts n (one_text number text) (map (node_of s) rows)

  pub after-count : node_count after ≡ total - length gone + text_count text
  after-count =
      let a = with-sum s n at rows kept next state.sound here kind childless node_count nodes-append count-flat (one_text number text) in
      let b = stay-parts s n at rows kept next state.sound here kind childless node_count nodes-append in
      omega (arith, a, b, texts-count s gone (run-all_texts s n at rows kept next state.sound here kind childless), one-count number text, state.counted.count)

  pub after-size : all_size after ≡ size - all_size (map (node_of s) gone) + length text
  after-size =
      let a = with-sum s n at rows kept next state.sound here kind childless all_size sizes-append size-flat (one_text number text) in
      let b = stay-parts s n at rows kept next state.sound here kind childless all_size sizes-append in
      omega (arith, a, b, one-size number text, state.counted.bytes)

  pub no-attribute : is_attribute_at n (map (node_of s) rows) ≡ false
  no-attribute =
      attribute-at n (map (node_of s) rows) _ _ _ (element-parted s n at rows kept next state.sound here kind childless)
      ∙ element-no_attribute (content_in (get s (get_or rows at no_row).key)) (is-element s n at rows kept next state.sound here kind childless)

  -- what is given where the text is written
  pub content-written : (next2 : ℕ) → text_written number next2 n text (keeping_of s rows kept next)
      ≡ (element_texts (numbers_at s gone), record { forest = record { nodes = after; next = next2 }; kept = map (kept_of s) kept ++ kept_from n (map (node_of s) gone) })
  content-written next2 =
      let texts = texts-are s n at rows kept next state.sound here kind childless in
      let had = numbers-at s gone in
      rw no-attribute (rw (texts, had) refl)

module _ (s : Slab Slot) (n at : ℕ) (text : List ℕ) (rows : List Row) (kept : List ℕ) (next total size room : ℕ) (state : IsState s rows kept next total size room) (here : StandsAt s rows n at)
    (kind : kind_at n (map (node_of s) rows) ≡ Some kind.Element) (childless : has_elements (visits (map (node_of s) rows)) n ≡ false) where
  -- the limit that is passed where the text is set
  pub content-passed : passed_by_text limits (length text) (with_text n text (record { nodes = map (node_of s) rows; next = next })).nodes
      ≡ passed_by (total - length (children s (run_of at rows)) + text_count text) (length text) (size - all_size (map (node_of s) (children s (run_of at rows))) + length text)
  content-passed =
      let none = no-attribute s n at next text rows kept next total size room state here kind childless in
      let count = after-count s n at next text rows kept next total size room state here kind childless in
      let bytes = after-size s n at next text rows kept next total size room state here kind childless in
      rw none (rw (count, bytes) refl)
