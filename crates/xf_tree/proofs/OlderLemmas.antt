-- The rows of older nodes, where what is new stands in trees of its own.
use Rattle.std.proofs.Common.{◌≡◌, ℕ, suc, ◌+◌, ◌≤◌, not, Bool, true, false, if◌then◌else◌, List, [], ◌∷◌, map, length, nat_lt, refl, sym, ap, ◌∙◌, subst, inl, inr, arith}
use Rattle.std.specs.Prelude.{filter}
use Rattle.std.proofs.lemmas.Bool.{cases_Bool, cases_lt, true≢false, false≢true}
use Rattle.slab.specs.Slab.{Slab, get}
use Rattle.xf_def_forest.specs.declared.content.Node.{Node}
use Rattle.xf_tree_rows.specs.declared.rows.Row.{Row}
use Rattle.xf_tree_rows.specs.Rows.{Sized, deeper, AreSteps, depths}
use Rattle.xf_tree_rows.proofs.SizedLemmas.{lt-true, lt-false, deeper-less}
use Rattle.xf_tree_contents.specs.Slot.{Slot}
use Rattle.xf_tree_contents.specs.Keys.{number_in, content_in}
use Rattle.xf_tree_walks.specs.Leaves.{parts_in, NotDeeper, AreLeaves}
use Rattle.xf_tree_walks.specs.First.{attribute_depth, AreFirst}
use Rattle.xf_tree_walks.specs.Nodes.{node_of, times, AllLive, AllTops}
use Rattle.xf_tree_walks.proofs.NodeLemmas.{eq-false}
use Rattle.xf_tree_walks.proofs.LeafLemmas.{less-deeper, first-not_deeper}
use Rattle.xf_tree_changes.specs.Older.{is_older}
use Rattle.xf_tree_changes.proofs.OlderLemmas.{olds, WholeRows}
use Rattle.xf_tree.specs.State.{IsSound}
use Rattle.xf_tree.proofs.DropLemmas.{IsShaped}

-- what does not look at where rows stand
pub live-older : (s : Slab Slot) (number : ℕ) (rows : List Row) → AllLive s rows → AllLive s (olds s number rows)
live-older s number [] live = tt
live-older s number (x ∷ xs) live = elim (cases_Bool (is_older s number x)) [
  | inl e ↦ rw e (live.0, live-older s number xs live.1)
  | inr e ↦ rw e (live-older s number xs live.1)
]

pub tops-older : (s : Slab Slot) (number : ℕ) (rows : List Row) → AllTops (map (node_of s) rows) → AllTops (map (node_of s) (olds s number rows))
tops-older s number [] tops = tt
tops-older s number (x ∷ xs) tops = elim (cases_Bool (is_older s number x)) [
  | inl e ↦ rw e (tops.0, tops-older s number xs tops.1)
  | inr e ↦ rw e (tops-older s number xs tops.1)
]

pub length-older : (s : Slab Slot) (number : ℕ) (rows : List Row) → length (olds s number rows) ≤ length rows
length-older s number [] = omega arith
length-older s number (x ∷ xs) = let i = length-older s number xs in elim (cases_Bool (is_older s number x)) [ inl e ↦ rw e (omega arith) | inr e ↦ rw e (omega arith) ]

pub nodes-older : (s : Slab Slot) (number : ℕ) (rows : List Row) → map (node_of s) (olds s number rows) ≡ filter (λ (x : Node). nat_lt x.number number) (map (node_of s) rows)
nodes-older s number [] = refl
nodes-older s number (x ∷ xs) = elim (cases_Bool (is_older s number x)) [
  | inl e ↦ rw e (ap (λ l. node_of s x ∷ l) (nodes-older s number xs))
  | inr e ↦ rw e (nodes-older s number xs)
]

-- none has the number or a later one
pub times-older : (s : Slab Slot) (number n : ℕ) (rows : List Row) → number ≤ n → times n (map (node_of s) (olds s number rows)) ≡ 0
times-older s number n [] h = refl
times-older s number n (x ∷ xs) h = elim (cases_lt (number_in (get s x.key)) number) [
  | inl l ↦
      let e = lt-true (number_in (get s x.key)) number l in
      let no = eq-false (number_in (get s x.key)) n (λ same. let z : ⊥ = omega arith in z) in
      rw (e, no) (omega (arith, times-older s number n xs h))
  | inr l ↦ rw (lt-false (number_in (get s x.key)) number l) (times-older s number n xs h)
]

-- after what is new the next older node is a top
top-older : (s : Slab Slot) (number : ℕ) (rows : List Row) → WholeRows s number true rows → deeper 0 (olds s number rows) ≡ 0
top-older s number [] w = refl
top-older s number (x ∷ xs) w = elim (cases_Bool (is_older s number x)) [
  | inl e ↦ rw e (elim (cases_lt 0 x.depth) [
    | inl l ↦ absurd (false≢true (sym (ap not e) ∙ w.0 l))
    | inr l ↦ rw (lt-false 0 x.depth l) refl
  ])
  | inr e ↦ rw e (top-older s number xs (subst (λ b. WholeRows s number b xs) (ap not e) w.2))
]

-- what is below an older node stays
deeper-older : (s : Slab Slot) (number d : ℕ) (rows : List Row) → WholeRows s number false rows → deeper d (olds s number rows) ≡ deeper d rows
deeper-older s number d [] w = refl
deeper-older s number d (x ∷ xs) w = elim (cases_Bool (is_older s number x)) [
  | inl e ↦ rw e (ap (λ k. if nat_lt d x.depth then suc k else 0) (deeper-older s number d xs (subst (λ b. WholeRows s number b xs) (ap not e) w.2)))
  | inr e ↦ rw e (elim (cases_lt 0 x.depth) [
    | inl l ↦ absurd (true≢false (sym (ap not e) ∙ w.0 l))
    | inr l ↦
        let least : 0 ≤ d = omega arith in
        let low : x.depth ≤ d = omega arith in
        rw (lt-false d x.depth low) (deeper-less 0 d (olds s number xs) least (top-older s number xs (subst (λ b. WholeRows s number b xs) (ap not e) w.2)))
  ])
]

pub sized-older : (s : Slab Slot) (number : ℕ) (before : Bool) (rows : List Row) → WholeRows s number before rows → Sized rows → Sized (olds s number rows)
sized-older s number before [] w sized = tt
sized-older s number before (x ∷ xs) w sized = elim (cases_Bool (is_older s number x)) [
  | inl e ↦
      let later = subst (λ b. WholeRows s number b xs) (ap not e) w.2 in
      rw e (sized.0 ∙ ap (λ k. k + 1) (sym (deeper-older s number x.depth xs later)), sized-older s number false xs later sized.1)
  | inr e ↦ rw e (sized-older s number true xs (subst (λ b. WholeRows s number b xs) (ap not e) w.2) sized.1)
]

pub steps-older : (s : Slab Slot) (number most more : ℕ) (before : Bool) (rows : List Row) → WholeRows s number before rows → (before ≡ false → most ≤ more) → AreSteps most (depths rows)
    → AreSteps more (depths (olds s number rows))
steps-older s number most more before [] w h steps = tt
steps-older s number most more before (x ∷ xs) w h steps =
    let least : suc x.depth ≤ suc x.depth = omega arith in
    elim (cases_Bool (is_older s number x)) [
      | inl e ↦ rw e (
        elim (cases_lt 0 x.depth) [
          | inl l ↦ (let z = h (sym (w.0 l) ∙ ap not e) in omega (arith, steps.0))
          | inr l ↦ omega arith
        ],
        steps-older s number (suc x.depth) (suc x.depth) _ xs w.2 (λ b. least) steps.1,
      )
      | inr e ↦ rw e (steps-older s number (suc x.depth) more _ xs w.2 (λ b. absurd (true≢false (sym (ap not e) ∙ b))) steps.1)
    ]

not_deeper-older : (s : Slab Slot) (number d : ℕ) (rows : List Row) → WholeRows s number false rows → NotDeeper d (parts_in (map (node_of s) rows))
    → NotDeeper d (parts_in (map (node_of s) (olds s number rows)))
not_deeper-older s number d [] w n = tt
not_deeper-older s number d (x ∷ xs) w n = elim (cases_Bool (is_older s number x)) [
  | inl e ↦ rw e n
  | inr e ↦
      let least : 0 ≤ d = omega arith in
      rw e (less-deeper 0 d (parts_in (map (node_of s) (olds s number xs))) least (first-not_deeper s 0 (olds s number xs) (top-older s number xs (subst (λ b. WholeRows s number b xs) (ap not e) w.2))))
]

pub leaves-older : (s : Slab Slot) (number : ℕ) (before : Bool) (rows : List Row) → WholeRows s number before rows → AreLeaves (parts_in (map (node_of s) rows))
    → AreLeaves (parts_in (map (node_of s) (olds s number rows)))
leaves-older s number before [] w leaves = tt
leaves-older s number before (x ∷ xs) w leaves = elim (cases_Bool (is_older s number x)) [
  | inl e ↦
      let later = subst (λ b. WholeRows s number b xs) (ap not e) w.2 in
      rw e (λ leaf. not_deeper-older s number x.depth xs later (leaves.0 leaf), leaves-older s number false xs later leaves.1)
  | inr e ↦ rw e (leaves-older s number true xs (subst (λ b. WholeRows s number b xs) (ap not e) w.2) leaves.1)
]

pub first-older : (s : Slab Slot) (number d more : ℕ) (before : Bool) (rows : List Row) → WholeRows s number before rows → (before ≡ false → d ≡ more) → AreFirst d (parts_in (map (node_of s) rows))
    → AreFirst more (parts_in (map (node_of s) (olds s number rows)))
first-older s number d more before [] w h first = tt
first-older s number d more before (x ∷ xs) w h first =
    let next = attribute_depth x.depth (content_in (get s x.key)) in
    elim (cases_Bool (is_older s number x)) [
      | inl e ↦ rw e ((λ is pos. first.0 is pos ∙ h (sym (w.0 pos) ∙ ap not e)), first-older s number next next _ xs w.2 (λ b. refl) first.1)
      | inr e ↦ rw e (first-older s number next more _ xs w.2 (λ b. absurd (true≢false (sym (ap not e) ∙ b))) first.1)
    ]

pub older-shaped : (s : Slab Slot) (number next : ℕ) (rows : List Row) (kept : List ℕ) → IsSound s rows kept next → WholeRows s number false rows → IsShaped s (filter (is_older s number) rows)
older-shaped s number next rows kept sound w =
    let least : 0 ≤ 0 = omega arith in
    record {
      sized = sized-older s number false rows w sound.sized;
      steps = steps-older s number 0 0 false rows w (λ e. least) sound.steps;
      live = live-older s number rows sound.live;
      tops = tops-older s number rows sound.tops;
      leaves = leaves-older s number false rows w sound.leaves;
      first = first-older s number 0 0 false rows w (λ e. refl) sound.first;
    }
