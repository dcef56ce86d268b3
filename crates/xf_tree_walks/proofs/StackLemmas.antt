-- Which nodes are above a visited one: those that are open there.
use Rattle.std.proofs.Common.{◌≡◌, ℕ, ◌<◌, ◌≤◌, ◌==◌, ◌||◌, true, false, List, [], ◌∷◌, ◌++◌, find, nat_lt, Some, None, refl, sym, ap, ◌∙◌, inl, inr, arith, append_assoc}
use Rattle.std.specs.List.{flat_map}
use Rattle.std.proofs.lemmas.Bool.{cases_Bool, true≢false, cases_lt}
use Rattle.std.proofs.lemmas.Bool.Decides.{nat_tests}
use Rattle.xf_def_forest.specs.declared.content.Node.{Node}
use Rattle.xf_def_forest.specs.Forest.{has_number, below, own_text}
use Rattle.xf_def_forest.specs.Visit.{Visit, still_above, numbers, visit, visits_from, visits, has, first_of, ancestors_of, above_in, parent_of}
use Rattle.xf_def_forest.specs.StringValue.{characters, text_below, value_in, string_value}
use Rattle.xf_def_forest.proofs.RunLemmas.{AreDeeper}
use Rattle.xf_tree_rows.proofs.SizedLemmas.{lt-true, lt-false}
use Rattle.xf_tree_contents.proofs.AlikeLemmas.{eq-true}
use Rattle.xf_tree_walks.proofs.NodeLemmas.{Parted, eq-turned}

-- what is open after these nodes, the nearest first
abbrev pub stack : List Node → List Node → List Node
stack above [] = above
stack above (y ∷ ys) = stack (y ∷ still_above y.depth above) ys

pub visits-append : (above us vs : List Node) → visits_from above (us ++ vs) ≡ visits_from above us ++ visits_from (stack above us) vs
visits-append above [] vs = refl
visits-append above (u ∷ us) vs = ap (λ l. visit above u ∷ l) (visits-append (u ∷ still_above u.depth above) us vs)

-- ---- a number that is not there

pub absent-above : (n d : ℕ) (ys : List Node) → has_number n ys ≡ false → has_number n (still_above d ys) ≡ false
absent-above n d [] h = refl
absent-above n d (y ∷ ys) h = elim (cases_Bool (nat_lt y.depth d)) [
  | inl e ↦ rw e h
  | inr e ↦ rw e (elim (cases_Bool (y.number == n)) [
    | inl t ↦ absurd (true≢false (rw t at h))
    | inr t ↦ absent-above n d ys (rw t at h)
  ])
]

pub absent-cons : (n : ℕ) (y : Node) (ys : List Node) → (y.number == n) ≡ false → has_number n ys ≡ false → has_number n (y ∷ ys) ≡ false
absent-cons n y ys e h = rw e h

pub absent-parts : (n : ℕ) (y : Node) (ys : List Node) → has_number n (y ∷ ys) ≡ false → ((y.number == n) ≡ false) × (has_number n ys ≡ false)
absent-parts n y ys h = elim (cases_Bool (y.number == n)) [
  | inl t ↦ absurd (true≢false (rw t at h))
  | inr t ↦ (t, rw t at h)
]

pub absent-stack : (n : ℕ) (above us : List Node) → has_number n above ≡ false → has_number n us ≡ false → has_number n (stack above us) ≡ false
absent-stack n above [] h k = h
absent-stack n above (u ∷ us) h k =
    let p = absent-parts n u us k in
    absent-stack n (u ∷ still_above u.depth above) us (absent-cons n u (still_above u.depth above) p.0 (absent-above n u.depth above h)) p.1

pub has-numbers : (n : ℕ) (ys : List Node) → has n (numbers ys) ≡ has_number n ys
has-numbers n [] = refl
has-numbers n (y ∷ ys) = ap (λ b. b || has n (numbers ys)) (eq-turned n y.number) ∙ ap (λ b. (y.number == n) || b) (has-numbers n ys)

pub has-middle : (n : ℕ) (ts : List Node) (x : Node) (stay : List Node) → x.number ≡ n → has n (numbers (ts ++ (x ∷ stay))) ≡ true
has-middle n [] x stay e = rw (eq-true n x.number (sym e)) refl
has-middle n (t ∷ ts) x stay e = elim (cases_Bool (n == t.number)) [ inl q ↦ rw q refl | inr q ↦ rw q (has-middle n ts x stay e) ]

-- ---- the stack inside and past a tree

pub deeper-above : (d e : ℕ) (ts : List Node) → AreDeeper d ts → AreDeeper d (still_above e ts)
deeper-above d e [] h = tt
deeper-above d e (t ∷ ts) h = elim (cases_Bool (nat_lt t.depth e)) [ inl q ↦ rw q h | inr q ↦ rw q (deeper-above d e ts h.1) ]

pub lt-from : (m n : ℕ) → nat_lt m n ≡ true → m < n
lt-from m n e = grind (arith, nat_tests)

pub le-from : (m n : ℕ) → nat_lt m n ≡ false → n ≤ m
le-from m n e = grind (arith, nat_tests)

pub above-inside : (d : ℕ) (ts : List Node) (x : Node) (stay : List Node) → nat_lt x.depth d ≡ true → still_above d (ts ++ (x ∷ stay)) ≡ still_above d ts ++ (x ∷ stay)
above-inside d [] x stay h = rw h refl
above-inside d (t ∷ ts) x stay h = elim (cases_Bool (nat_lt t.depth d)) [ inl q ↦ rw q refl | inr q ↦ rw q (above-inside d ts x stay h) ]

pub above-past : (d : ℕ) (ts : List Node) (x : Node) (stay : List Node) → nat_lt x.depth d ≡ false → AreDeeper x.depth ts → still_above d (ts ++ (x ∷ stay)) ≡ still_above d stay
above-past d [] x stay h k = rw h refl
above-past d (t ∷ ts) x stay h k =
    let a = lt-from x.depth t.depth k.0 in
    let b = le-from x.depth d h in
    let e : nat_lt t.depth d ≡ false = lt-false t.depth d (omega arith) in
    rw e (above-past d ts x stay h k.1)

pub still-shut : (d e : ℕ) (ys : List Node) → d ≤ e → still_above d (still_above e ys) ≡ still_above d ys
still-shut d e [] h = refl
still-shut d e (y ∷ ys) h = elim (cases_lt y.depth e) [
  | inl l ↦ rw (lt-true y.depth e l) refl
  | inr l ↦ let m : d ≤ y.depth = omega arith in rw (lt-false y.depth e l, lt-false y.depth d m) (still-shut d e ys h)
]

-- ---- finding a visit

find-visit : (n : ℕ) (above us : List Node) (x : Node) (xs : List Node) → x.number ≡ n → has_number n us ≡ false
    → find (λ (v : Visit). v.number == n) (visits_from above (us ++ (x ∷ xs))) ≡ Some (visit (stack above us) x)
find-visit n above [] x xs e h = rw (eq-true x.number n e) refl
find-visit n above (u ∷ us) x xs e h =
    let p = absent-parts n u us h in
    rw p.0 (find-visit n (u ∷ still_above u.depth above) us x xs e p.1)

pub parted-visit : (n : ℕ) (nodes us : List Node) (x : Node) (xs : List Node) → Parted n nodes us x xs
    → find (λ (v : Visit). v.number == n) (visits nodes) ≡ Some (visit (stack [] us) x)
parted-visit n nodes us x xs p = ap (λ l. find (λ (v : Visit). v.number == n) (visits l)) p.whole ∙ find-visit n [] us x xs p.number p.before

pub parted-ancestors : (n : ℕ) (nodes us : List Node) (x : Node) (xs : List Node) → Parted n nodes us x xs
    → ancestors_of n (visits nodes) ≡ numbers (still_above x.depth (stack [] us))
parted-ancestors n nodes us x xs p = ap above_in (parted-visit n nodes us x xs p)

find-none : (n : ℕ) (above us : List Node) → has_number n us ≡ false → find (λ (v : Visit). v.number == n) (visits_from above us) ≡ None
find-none n above [] h = refl
find-none n above (u ∷ us) h = let p = absent-parts n u us h in rw p.0 (find-none n (u ∷ still_above u.depth above) us p.1)

-- what is not there has no parent
pub absent-parent : (n : ℕ) (nodes : List Node) → has_number n nodes ≡ false → parent_of n (visits nodes) ≡ None
absent-parent n nodes h = ap (λ o. first_of (above_in o)) (find-none n [] nodes h)

-- ---- string values

-- where a number is not there, no text is below it
texts-none : (n : ℕ) (above us : List Node) → has_number n above ≡ false → has_number n us ≡ false → flat_map (text_below n) (visits_from above us) ≡ []
texts-none n above [] h k = refl
texts-none n above (u ∷ us) h k =
    let p = absent-parts n u us k in
    let a = absent-above n u.depth above h in
    let no : has n (numbers (still_above u.depth above)) ≡ false = has-numbers n (still_above u.depth above) ∙ a in
    let rest = texts-none n (u ∷ still_above u.depth above) us (absent-cons n u (still_above u.depth above) p.0 a) p.1 in
    rw no rest

texts-inside : (n : ℕ) (ts : List Node) (x : Node) (stay xs : List Node) → x.number ≡ n → AreDeeper x.depth ts → has_number n stay ≡ false → has_number n xs ≡ false
    → flat_map (text_below n) (visits_from (ts ++ (x ∷ stay)) xs) ≡ flat_map (λ (y : Node). characters y.content) (below x.depth xs)
texts-inside n ts x stay [] e deep h k = refl
texts-inside n ts x stay (y ∷ ys) e deep h k =
    let p = absent-parts n y ys k in
    elim (cases_Bool (nat_lt x.depth y.depth)) [
      | inl q ↦
          let s = above-inside y.depth ts x stay q in
          let yes : has n (numbers (still_above y.depth (ts ++ (x ∷ stay)))) ≡ true = ap (λ l. has n (numbers l)) s ∙ has-middle n (still_above y.depth ts) x stay e in
          let more : AreDeeper x.depth (y ∷ still_above y.depth ts) = (q, deeper-above x.depth y.depth ts deep) in
          let rest = texts-inside n (y ∷ still_above y.depth ts) x stay ys e more h p.1 in
          rw (q, yes) (ap (λ l. characters y.content ++ flat_map (text_below n) (visits_from (y ∷ l) ys)) s ∙ ap (λ l. characters y.content ++ l) rest)
      | inr q ↦
          let s = above-past y.depth ts x stay q deep in
          let a = absent-above n y.depth stay h in
          let no : has n (numbers (still_above y.depth (ts ++ (x ∷ stay)))) ≡ false = ap (λ l. has n (numbers l)) s ∙ has-numbers n (still_above y.depth stay) ∙ a in
          let rest = texts-none n (y ∷ still_above y.depth stay) ys (absent-cons n y (still_above y.depth stay) p.0 a) p.1 in
          rw (q, no) (ap (λ l. flat_map (text_below n) (visits_from (y ∷ l) ys)) s ∙ rest)
    ]

flat-append : (n : ℕ) (vs ws : List Visit) → flat_map (text_below n) (vs ++ ws) ≡ flat_map (text_below n) vs ++ flat_map (text_below n) ws
flat-append n [] ws = refl
flat-append n (v ∷ vs) ws = ap (λ l. text_below n v ++ l) (flat-append n vs ws) ∙ sym (append_assoc (text_below n v) (flat_map (text_below n) vs) (flat_map (text_below n) ws))

-- the string value is the node's own text and the texts of the nodes below it
pub parted-value : (n : ℕ) (nodes us : List Node) (x : Node) (xs : List Node) → Parted n nodes us x xs
    → string_value n (visits nodes) ≡ own_text x.content ++ flat_map (λ (y : Node). characters y.content) (below x.depth xs)
parted-value n nodes us x xs p =
    let s = stack [] us in
    let stay = still_above x.depth s in
    let none : has_number n [] ≡ false = refl in
    let s_none = absent-stack n [] us none p.before in
    let stay_none = absent-above n x.depth s s_none in
    let vs = visits_from [] us in
    let ws = visits_from (x ∷ stay) xs in
    let found = parted-visit n nodes us x xs p in
    let all : visits nodes ≡ vs ++ (visit s x ∷ ws) = ap visits p.whole ∙ visits-append [] us (x ∷ xs) in
    let front = texts-none n [] us none p.before in
    let no : has n (numbers stay) ≡ false = has-numbers n stay ∙ stay_none in
    let here : text_below n (visit s x) ≡ [] = rw no refl in
    let back = texts-inside n [] x stay xs p.number tt stay_none p.after in
    let texts : flat_map (text_below n) (visits nodes) ≡ flat_map (λ (y : Node). characters y.content) (below x.depth xs)
    = ap (flat_map (text_below n)) all ∙ flat-append n vs (visit s x ∷ ws) ∙ ap (λ l. l ++ (text_below n (visit s x) ++ flat_map (text_below n) ws)) front ∙ ap (λ l. l ++ flat_map (text_below n) ws) here ∙ back in
    ap (value_in (visits nodes)) found
    ∙ ap (λ m. own_text x.content ++ flat_map (text_below m) (visits nodes)) p.number
    ∙ ap (λ l. own_text x.content ++ l) texts
