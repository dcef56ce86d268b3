-- The children and attributes of a node: what is below it and one deeper.
use Rattle.std.proofs.Common.{◌≡◌, ℕ, suc, ◌<◌, ◌≤◌, ◌==◌, ◌||◌, ◌&&◌, Bool, true, false, cond, List, [], ◌∷◌, ◌++◌, map, length, nat_lt, refl, sym, ap, ◌∙◌, subst, inl, inr, arith}
use Rattle.std.specs.Prelude.{filter, count_by}
use Rattle.std.specs.List.{position_or_len}
use Rattle.std.proofs.lemmas.Bool.{cases_Bool, true≢false, false≢true, cases_lt}
use Rattle.std.proofs.lemmas.List.{map-append, length-map}
use Rattle.std.proofs.lemmas.List.Sums.{length-filter}
use Rattle.std.proofs.lemmas.List.Elements.{filter-append}
use Rattle.xf_def_forest.specs.declared.content.Node.{Node}
use Rattle.xf_def_forest.specs.declared.content.Content.{Content}
use Rattle.xf_def_forest.specs.Forest.{has_number, below}
use Rattle.xf_def_forest.specs.Visit.{Visit, still_above, numbers, visit, visits_from, visits, has, is_first}
use Rattle.xf_def_forest.proofs.RunLemmas.{AreDeeper}
use Rattle.xf_tree_rows.specs.Rows.{AreSteps}
use Rattle.xf_tree_rows.proofs.SizedLemmas.{lt-true, lt-false}
use Rattle.xf_tree_contents.proofs.AlikeLemmas.{eq-true}
pub use Rattle.xf_tree_walks.specs.Kids.{is_kid}
use Rattle.xf_tree_walks.proofs.NodeLemmas.{Parted, eq-false, eq-turned, has-append}
use Rattle.xf_tree_walks.proofs.StackLemmas.{stack, visits-append, absent-above, absent-parts, absent-cons, absent-stack, has-numbers, above-inside, above-past, deeper-above, lt-from}

abbrev pub node_depths : List Node → List ℕ
node_depths nodes = map (λ x. x.depth) nodes

-- of the nodes that are open below one of this depth the last is its child; where there is none, the next node can be no deeper than one
abbrev pub Based : ℕ → ℕ → List Node → Type 0
Based d most [] = most ≤ suc d
Based d most (t ∷ []) = t.depth ≡ suc d
Based d most (t ∷ (u ∷ us)) = Based d most (u ∷ us)

based-more : (d most more : ℕ) (t : Node) (ts : List Node) → Based d most (t ∷ ts) → Based d more (t ∷ ts)
based-more d most more t [] b = b
based-more d most more t (u ∷ us) b = based-more d most more u us b

is_first-absent : (n : ℕ) (ns : List ℕ) → has n ns ≡ false → is_first n ns ≡ false
is_first-absent n [] h = refl
is_first-absent n (m ∷ ms) h = elim (cases_Bool (n == m)) [ inl e ↦ absurd (true≢false (rw e at h)) | inr e ↦ e ]

none-above : (d e : ℕ) (ts : List Node) → e ≡ suc d → AreDeeper d ts → still_above e ts ≡ []
none-above d e [] same h = refl
none-above d e (t ∷ ts) same h =
    let l = lt-from d t.depth h.0 in
    let no : nat_lt t.depth e ≡ false = lt-false t.depth e (omega arith) in
    rw no (none-above d e ts same h.1)

-- where the next node is deeper than a child, another node is nearest above it
nearer : (n d e most : ℕ) (ts rest : List Node) → Based d most ts → e ≤ most → suc d < e → has_number n ts ≡ false → is_first n (numbers (still_above e ts ++ rest)) ≡ false
nearer n d e most [] rest b h l none = absurd (omega arith)
nearer n d e most (t ∷ []) rest b h l none =
    let yes : nat_lt t.depth e ≡ true = lt-true t.depth e (omega arith) in
    let p = absent-parts n t [] none in
    rw yes (eq-turned n t.number ∙ p.0)
nearer n d e most (t ∷ (u ∷ us)) rest b h l none =
    let p = absent-parts n t (u ∷ us) none in
    elim (cases_Bool (nat_lt t.depth e)) [
      | inl q ↦ rw q (eq-turned n t.number ∙ p.0)
      | inr q ↦ rw q (nearer n d e most (u ∷ us) rest b h l p.1)
    ]

-- what stays open is based too
based-above : (d e most more : ℕ) (y : Node) (ts : List Node) → Based d most ts → e ≡ y.depth → e ≤ most → d < e → AreDeeper d ts → Based d more (y ∷ still_above e ts)
based-above d e most more y [] b same h l deep = omega arith
based-above d e most more y (t ∷ []) b same h l deep = elim (cases_lt t.depth e) [
  | inl q ↦ rw (lt-true t.depth e q) b
  | inr q ↦ rw (lt-false t.depth e q) (let k : y.depth ≡ suc d = omega arith in k)
]
based-above d e most more y (t ∷ (u ∷ us)) b same h l deep = elim (cases_lt t.depth e) [
  | inl q ↦ rw (lt-true t.depth e q) (based-more d most more u us b)
  | inr q ↦ rw (lt-false t.depth e q) (based-above d e most more y (u ∷ us) b same h l deep.1)
]

-- the numbers of the visits right below a node whose contents meet a test
abbrev pub kids : (Content → Bool) → ℕ → List Visit → List ℕ
kids q n all = map (λ v. v.number) (filter (λ v. is_first n v.above && q v.content) all)

-- what is not there has nothing right below it
pub kids-none : (q : Content → Bool) (n : ℕ) (above us : List Node) → has_number n above ≡ false → has_number n us ≡ false → kids q n (visits_from above us) ≡ []
kids-none q n above [] h k = refl
kids-none q n above (u ∷ us) h k =
    let p = absent-parts n u us k in
    let a = absent-above n u.depth above h in
    let no : is_first n (numbers (still_above u.depth above)) ≡ false = is_first-absent n (numbers (still_above u.depth above)) (has-numbers n (still_above u.depth above) ∙ a) in
    let rest = kids-none q n (u ∷ still_above u.depth above) us (absent-cons n u (still_above u.depth above) p.0 a) p.1 in
    rw no rest

kid-cons : (b c : Bool) (n : ℕ) (ns : List ℕ) (y : Node) (v : Visit) (ys : List Node) (vs : List Visit) → b ≡ c → v.number ≡ y.number
    → map (λ (w : Visit). w.number) vs ≡ numbers ys → map (λ (w : Visit). w.number) (cond b (v ∷ vs) vs) ≡ numbers (cond c (y ∷ ys) ys)
kid-cons true true n ns y v ys vs e same rest = cc
kid-cons false false n ns y v ys vs e same rest = rest
kid-cons true false n ns y v ys vs e same rest = absurd (true≢false e)
kid-cons false true n ns y v ys vs e same rest = absurd (false≢true e)

kids-inside : (q : Content → Bool) (n most : ℕ) (ts : List Node) (x : Node) (stay xs : List Node) → x.number ≡ n → AreDeeper x.depth ts → Based x.depth most ts
    → AreSteps most (node_depths xs) → has_number n ts ≡ false → has_number n stay ≡ false → has_number n xs ≡ false
    → kids q n (visits_from (ts ++ (x ∷ stay)) xs) ≡ numbers (filter (is_kid q (suc x.depth)) (below x.depth xs))
kids-inside q n most ts x stay [] e deep based steps t h k = refl
kids-inside q n most ts x stay (y ∷ ys) e deep based steps t h k =
    let p = absent-parts n y ys k in
    elim (cases_Bool (nat_lt x.depth y.depth)) [
      | inl r ↦
          let l = lt-from x.depth y.depth r in
          let s = above-inside y.depth ts x stay r in
          let more : AreDeeper x.depth (y ∷ still_above y.depth ts) = (r, deeper-above x.depth y.depth ts deep) in
          let a = absent-above n y.depth ts t in
          let rest = kids-inside q n (suc y.depth) (y ∷ still_above y.depth ts) x stay ys e more (based-above x.depth y.depth most (suc y.depth) y ts based refl steps.0 l deep) steps.1
          (absent-cons n y (still_above y.depth ts) p.0 a) h p.1 in
          let test : is_first n (numbers (still_above y.depth (ts ++ (x ∷ stay)))) ≡ (y.depth == suc x.depth) =
          ap (λ z. is_first n (numbers z)) s ∙ first-test l in
          let tests : (is_first n (numbers (still_above y.depth (ts ++ (x ∷ stay)))) && q y.content) ≡ is_kid q (suc x.depth) y = ap (λ b. b && q y.content) test in
          rw r (kid-cons _ _ n [] y (visit (ts ++ (x ∷ stay)) y) _ (filter (λ (v : Visit). is_first n v.above && q v.content) (visits_from (y ∷ still_above y.depth (ts ++ (x ∷ stay))) ys)) tests refl
          (ap (λ z. kids q n (visits_from (y ∷ z) ys)) s ∙ rest))
      | inr r ↦
          let s = above-past y.depth ts x stay r deep in
          let a = absent-above n y.depth stay h in
          let no : is_first n (numbers (still_above y.depth (ts ++ (x ∷ stay)))) ≡ false =
          ap (λ z. is_first n (numbers z)) s ∙ is_first-absent n (numbers (still_above y.depth stay)) (has-numbers n (still_above y.depth stay) ∙ a) in
          let rest = kids-none q n (y ∷ still_above y.depth stay) ys (absent-cons n y (still_above y.depth stay) p.0 a) p.1 in
          rw (r, no) (ap (λ z. kids q n (visits_from (y ∷ z) ys)) s ∙ rest)
    ]
  where
    first-test : x.depth < y.depth → is_first n (numbers (still_above y.depth ts ++ (x ∷ stay))) ≡ (y.depth == suc x.depth)
    first-test l = elim (cases_lt (suc x.depth) y.depth) [
      | inl g ↦ nearer n x.depth y.depth most ts (x ∷ stay) based steps.0 g t ∙ sym (eq-false y.depth (suc x.depth) (λ same. let z : ⊥ = omega arith in z))
      | inr g ↦
          let same : y.depth ≡ suc x.depth = omega arith in
          ap (λ z. is_first n (numbers (z ++ (x ∷ stay)))) (none-above x.depth y.depth ts same deep) ∙ eq-true n x.number (sym e) ∙ sym (eq-true y.depth (suc x.depth) same)
    ]

pub kids-append : (q : Content → Bool) (n : ℕ) (vs ws : List Visit) → kids q n (vs ++ ws) ≡ kids q n vs ++ kids q n ws
kids-append q n vs ws = ap (map (λ (v : Visit). v.number)) (filter-append (λ (v : Visit). is_first n v.above && q v.content) vs ws)
    ∙ map-append (λ (v : Visit). v.number) (filter (λ (v : Visit). is_first n v.above && q v.content) vs) (filter (λ (v : Visit). is_first n v.above && q v.content) ws)

steps-rest : (most : ℕ) (us : List Node) (x : Node) (xs : List Node) → AreSteps most (node_depths (us ++ (x ∷ xs))) → AreSteps (suc x.depth) (node_depths xs)
steps-rest most [] x xs steps = steps.1
steps-rest most (u ∷ us) x xs steps = steps-rest (suc u.depth) us x xs steps.1

-- what is right below a node: the nodes below it that are one deeper
pub parted-kids : (q : Content → Bool) (n most : ℕ) (nodes us : List Node) (x : Node) (xs : List Node) → Parted n nodes us x xs → AreSteps most (node_depths nodes)
    → kids q n (visits nodes) ≡ numbers (filter (is_kid q (suc x.depth)) (below x.depth xs))
parted-kids q n most nodes us x xs p steps =
    let s = stack [] us in
    let stay = still_above x.depth s in
    let none : has_number n [] ≡ false = refl in
    let s_none = absent-stack n [] us none p.before in
    let stay_none = absent-above n x.depth s s_none in
    let all : visits nodes ≡ visits_from [] us ++ (visit s x ∷ visits_from (x ∷ stay) xs) = ap visits p.whole ∙ visits-append [] us (x ∷ xs) in
    let front = kids-none q n [] us none p.before in
    let no : is_first n (numbers stay) ≡ false = is_first-absent n (numbers stay) (has-numbers n stay ∙ stay_none) in
    let least : suc x.depth ≤ suc x.depth = omega arith in
    let back = kids-inside q n (suc x.depth) [] x stay xs p.number tt least (steps-rest most us x xs (subst (λ l. AreSteps most (node_depths l)) p.whole steps)) none stay_none p.after in
    ap (kids q n) all ∙ kids-append q n (visits_from [] us) (visit s x ∷ visits_from (x ∷ stay) xs)
    ∙ ap (λ l. l ++ kids q n (visit s x ∷ visits_from (x ∷ stay) xs)) front
    ∙ rw no back

-- ---- a place among siblings

pub position-seam : (n : ℕ) (us vs : List ℕ) → has n us ≡ false → position_or_len (λ m. m == n) (us ++ (n ∷ vs)) ≡ length us
position-seam n [] vs h = rw (eq-true n n refl) refl
position-seam n (u ∷ us) vs h = elim (cases_Bool (n == u)) [
  | inl e ↦ absurd (true≢false (rw e at h))
  | inr e ↦ rw (eq-turned u n ∙ e) (omega (arith, position-seam n us vs (rw e at h)))
]

pub absent-filter : (n : ℕ) (k : Node → Bool) (bs : List Node) → has_number n bs ≡ false → has_number n (filter k bs) ≡ false
absent-filter n k [] h = refl
absent-filter n k (b ∷ bs) h =
    let p = absent-parts n b bs h in
    elim (cases_Bool (k b)) [
      | inl e ↦ rw e (absent-cons n b (filter k bs) p.0 (absent-filter n k bs p.1))
      | inr e ↦ rw e (absent-filter n k bs p.1)
    ]

numbers-append : (xs ys : List Node) → numbers (xs ++ ys) ≡ numbers xs ++ numbers ys
numbers-append xs ys = map-append (λ (x : Node). x.number) xs ys

pub filtered-length : (k : Node → Bool) (bs : List Node) → length (numbers (filter k bs)) ≡ count_by k bs
filtered-length k bs = length-map (filter k bs) (λ (x : Node). x.number) ∙ length-filter k bs

pub place-of_kin : (n : ℕ) (k : Node → Bool) (bs : List Node) (a : Node) (cs : List Node) → a.number ≡ n → has_number n bs ≡ false → k a ≡ true
    → position_or_len (λ m. m == n) (numbers (filter k (bs ++ (a ∷ cs)))) ≡ count_by k bs
place-of_kin n k bs a cs e none is =
    let f : filter k (bs ++ (a ∷ cs)) ≡ filter k bs ++ (a ∷ filter k cs) = filter-append k bs (a ∷ cs) ∙ rw is refl in
    let g : numbers (filter k (bs ++ (a ∷ cs))) ≡ numbers (filter k bs) ++ (n ∷ numbers (filter k cs)) =
    ap numbers f ∙ numbers-append (filter k bs) (a ∷ filter k cs) ∙ ap (λ m. numbers (filter k bs) ++ (m ∷ numbers (filter k cs))) e in
    ap (position_or_len (λ m. m == n)) g
    ∙ position-seam n (numbers (filter k bs)) (numbers (filter k cs)) (has-numbers n (filter k bs) ∙ absent-filter n k bs none)
    ∙ filtered-length k bs

pub has-kin : (n : ℕ) (k : Node → Bool) (bs : List Node) (a : Node) (cs : List Node) → a.number ≡ n → has_number n bs ≡ false → has_number n cs ≡ false
    → has n (numbers (filter k (bs ++ (a ∷ cs)))) ≡ k a
has-kin n k bs a cs e none later =
    let f = filter-append k bs (a ∷ cs) in
    has-numbers n (filter k (bs ++ (a ∷ cs))) ∙ ap (has_number n) f ∙ has-append n (filter k bs) (filter k (a ∷ cs))
    ∙ ap (λ b. b || has_number n (filter k (a ∷ cs))) (absent-filter n k bs none)
    ∙ elim (cases_Bool (k a)) [
      | inl q ↦ rw q (rw (eq-true a.number n e) refl)
      | inr q ↦ rw q (absent-filter n k cs later)
    ]
