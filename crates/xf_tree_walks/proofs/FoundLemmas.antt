-- Which visits a test finds: by their numbers, by what is above them, before a node and after it.
use Rattle.std.proofs.Common.{◌≡◌, ℕ, ◌+◌, ◌≤◌, ◌==◌, ◌||◌, ◌&&◌, Bool, true, false, List, [], ◌∷◌, ◌++◌, map, nat_lt, reverse, refl, sym, ap, ◌∙◌, subst, inl, inr, arith, append_assoc, append-nil}
use Rattle.std.specs.Prelude.{filter}
use Rattle.std.proofs.lemmas.Bool.{cases_Bool, cases_lt}
use Rattle.std.proofs.lemmas.List.{map-append, reverse-append, reverse-reverse}
use Rattle.std.proofs.lemmas.List.Elements.{filter-append}
use Rattle.xf_def_forest.specs.declared.content.Node.{Node}
use Rattle.xf_def_forest.specs.declared.content.Content.{Content}
use Rattle.xf_def_forest.specs.Forest.{has_number, below}
use Rattle.xf_def_forest.specs.Visit.{Visit, still_above, numbers, visit, visits_from, visits, has}
use Rattle.xf_def_forest.specs.Axis.{before, after}
use Rattle.xf_def_forest.proofs.RunLemmas.{AreDeeper}
use Rattle.xf_def_forest.proofs.RenumberLaws.{map-reverse}
use Rattle.xf_tree_rows.proofs.SizedLemmas.{lt-true, lt-false}
use Rattle.xf_tree_contents.proofs.AlikeLemmas.{eq-true}
use Rattle.xf_tree_walks.specs.Nodes.{times}
use Rattle.xf_tree_walks.proofs.NodeLemmas.{Parted, eq-turned, times-append, absent-times}
use Rattle.xf_tree_walks.proofs.StackLemmas.{stack, visits-append, absent-above, absent-parts, absent-cons, absent-stack, has-numbers, has-middle, above-inside, above-past, deeper-above, still-shut}
use Rattle.xf_tree_walks.proofs.ParentLemmas.{opened}

-- the numbers of the visits that meet a test
abbrev pub found : (Visit → Bool) → List Visit → List ℕ
found test vs = map (λ v. v.number) (filter test vs)

pub found-append : (test : Visit → Bool) (vs ws : List Visit) → found test (vs ++ ws) ≡ found test vs ++ found test ws
found-append test vs ws = ap (map (λ (v : Visit). v.number)) (filter-append test vs ws) ∙ map-append (λ (v : Visit). v.number) (filter test vs) (filter test ws)

pub found-alike : (t u : Visit → Bool) (vs : List Visit) → ((v : Visit) → t v ≡ u v) → found t vs ≡ found u vs
found-alike t u [] same = refl
found-alike t u (v ∷ vs) same = elim (cases_Bool (u v)) [
  | inl e ↦ rw (same v ∙ e, e) (ap (λ l. v.number ∷ l) (found-alike t u vs same))
  | inr e ↦ rw (same v ∙ e, e) (found-alike t u vs same)
]

pub found-none : (t : Visit → Bool) (vs : List Visit) → ((v : Visit) → t v ≡ false) → found t vs ≡ []
found-none t [] never = refl
found-none t (v ∷ vs) never = rw (never v) (found-none t vs never)

-- ---- by numbers

pub by-number : (t : ℕ → Bool) (above us : List Node) → found (λ v. t v.number) (visits_from above us) ≡ filter t (numbers us)
by-number t above [] = refl
by-number t above (u ∷ us) = elim (cases_Bool (t u.number)) [
  | inl e ↦ rw e (ap (λ l. u.number ∷ l) (by-number t (u ∷ still_above u.depth above) us))
  | inr e ↦ rw e (by-number t (u ∷ still_above u.depth above) us)
]

none-equal : (n : ℕ) (us : List Node) → has_number n us ≡ false → filter (λ m. n == m) (numbers us) ≡ []
none-equal n [] h = refl
none-equal n (u ∷ us) h = let p = absent-parts n u us h in rw (eq-turned n u.number ∙ p.0) (none-equal n us p.1)

pub one-equal : (n : ℕ) (nodes us : List Node) (x : Node) (xs : List Node) → Parted n nodes us x xs → filter (λ m. n == m) (numbers nodes) ≡ n ∷ []
one-equal n nodes us x xs p =
    ap (λ l. filter (λ m. n == m) (numbers l)) p.whole ∙ ap (filter (λ m. n == m)) (map-append (λ (y : Node). y.number) us (x ∷ xs))
    ∙ filter-append (λ m. n == m) (numbers us) (x.number ∷ numbers xs) ∙ ap (λ l. l ++ filter (λ m. n == m) (x.number ∷ numbers xs)) (none-equal n us p.before)
    ∙ rw (eq-true n x.number (sym p.number)) (ap (λ l. x.number ∷ l) (none-equal n xs p.after) ∙ ap (λ m. m ∷ []) p.number)

pub filter-alike : (t u : ℕ → Bool) (ns : List ℕ) → ((n : ℕ) → t n ≡ u n) → filter t ns ≡ filter u ns
filter-alike t u [] same = refl
filter-alike t u (n ∷ ns) same = elim (cases_Bool (u n)) [
  | inl e ↦ rw (same n ∙ e, e) (ap (λ l. n ∷ l) (filter-alike t u ns same))
  | inr e ↦ rw (same n ∙ e, e) (filter-alike t u ns same)
]

pub filter-none : (t : ℕ → Bool) (ns : List ℕ) → ((n : ℕ) → t n ≡ false) → filter t ns ≡ []
filter-none t [] never = refl
filter-none t (n ∷ ns) never = rw (never n) (filter-none t ns never)

filter-reverse : (t : ℕ → Bool) (ns : List ℕ) → filter t (reverse ns) ≡ reverse (filter t ns)
filter-reverse t [] = refl
filter-reverse t (n ∷ ns) =
    ap (filter t) (reverse-append (n ∷ []) ns) ∙ filter-append t (reverse ns) (n ∷ []) ∙ ap (λ l. l ++ filter t (n ∷ [])) (filter-reverse t ns)
    ∙ elim (cases_Bool (t n)) [
      | inl e ↦ rw e (sym (reverse-append (n ∷ []) (filter t ns)))
      | inr e ↦ rw e (append-nil (reverse (filter t ns)))
    ]

-- ---- the ancestors, by their numbers

absent-opened : (n : ℕ) (ys : List Node) → has_number n ys ≡ false → has_number n (opened ys) ≡ false
absent-opened n [] h = refl
absent-opened n (y ∷ ys) h =
    let p = absent-parts n y ys h in
    absent-cons n y (still_above y.depth (opened ys)) p.0 (absent-above n y.depth (opened ys) (absent-opened n ys p.1))

without-head : (n : ℕ) (ns : List ℕ) (ys : List Node) → has_number n ys ≡ false → filter (λ m. has m (n ∷ ns)) (numbers ys) ≡ filter (λ m. has m ns) (numbers ys)
without-head n ns [] h = refl
without-head n ns (y ∷ ys) h =
    let p = absent-parts n y ys h in
    elim (cases_Bool (has y.number ns)) [
      | inl e ↦ rw (p.0, e) (ap (λ l. y.number ∷ l) (without-head n ns ys p.1))
      | inr e ↦ rw (p.0, e) (without-head n ns ys p.1)
    ]

chain : (d : ℕ) (zs : List Node) → ((n : ℕ) → times n zs ≤ 1) → filter (λ m. has m (numbers (still_above d (opened zs)))) (numbers zs) ≡ numbers (still_above d (opened zs))
chain d [] few = refl
chain d (y ∷ ys) few =
    let one : 1 + times y.number ys ≤ 1 = rw (eq-true y.number y.number refl) at (few y.number) in
    let none : has_number y.number ys ≡ false = absent-times y.number ys (omega arith) in
    let rest = λ (n : ℕ). fewer n in
    let goes = λ (l : List Node). filter (λ m. has m (numbers l)) (numbers (y ∷ ys)) ≡ numbers l in
    elim (cases_lt y.depth d) [
      | inl l ↦
          let e : still_above d (opened (y ∷ ys)) ≡ y ∷ still_above y.depth (opened ys) = rw (lt-true y.depth d l) refl in
          let ns = numbers (still_above y.depth (opened ys)) in
          let inside : filter (λ m. has m (y.number ∷ ns)) (y.number ∷ numbers ys) ≡ y.number ∷ ns =
          rw (eq-true y.number y.number refl) (ap (λ l. y.number ∷ l) (without-head y.number ns ys none ∙ chain y.depth ys rest)) in
          subst goes (sym e) inside
      | inr l ↦
          let e : still_above d (opened (y ∷ ys)) ≡ still_above d (opened ys) = rw (lt-false y.depth d l) (still-shut d y.depth (opened ys) l) in
          let other : has y.number (numbers (still_above d (opened ys))) ≡ false = has-numbers y.number (still_above d (opened ys)) ∙ absent-above y.number d (opened ys) (absent-opened y.number ys none) in
          let inside : filter (λ m. has m (numbers (still_above d (opened ys)))) (y.number ∷ numbers ys) ≡ numbers (still_above d (opened ys)) = rw other (chain d ys rest) in
          subst goes (sym e) inside
    ]
  where
    fewer : (n : ℕ) → times n ys ≤ 1
    fewer n = omega (arith, few n)

outside : (d : ℕ) (zs xs : List Node) → ((n : ℕ) → times n zs + times n xs ≤ 1) → filter (λ m. has m (numbers (still_above d (opened zs)))) (numbers xs) ≡ []
outside d zs [] few = refl
outside d zs (x ∷ xs) few =
    let one : times x.number zs + (1 + times x.number xs) ≤ 1 = rw (eq-true x.number x.number refl) at (few x.number) in
    let none : has_number x.number zs ≡ false = absent-times x.number zs (omega arith) in
    let other : has x.number (numbers (still_above d (opened zs))) ≡ false = has-numbers x.number (still_above d (opened zs)) ∙ absent-above x.number d (opened zs) (absent-opened x.number zs none) in
    rw other (outside d zs xs fewer)
  where
    fewer : (n : ℕ) → times n zs + times n xs ≤ 1
    fewer n = omega (arith, few n)

times-reverse : (n : ℕ) (xs : List Node) → times n (reverse xs) ≡ times n xs
times-reverse n [] = refl
times-reverse n (x ∷ xs) = ap (times n) (reverse-append (x ∷ []) xs) ∙ times-append n (reverse xs) (x ∷ []) ∙ (omega (arith, times-reverse n xs))

-- of all nodes those that are open behind these, found by their numbers
pub open-found : (d : ℕ) (us : List Node) (x : Node) (xs : List Node) → ((n : ℕ) → times n (us ++ (x ∷ xs)) ≤ 1)
    → reverse (filter (λ m. has m (numbers (still_above d (opened (x ∷ reverse us))))) (numbers (us ++ (x ∷ xs)))) ≡ numbers (still_above d (opened (x ∷ reverse us)))
open-found d us x xs few =
    let zs = x ∷ reverse us in
    let t = λ (m : ℕ). has m (numbers (still_above d (opened zs))) in
    let front : us ++ (x ∷ xs) ≡ reverse zs ++ xs = sym (ap (λ l. l ++ xs) (reverse-append (x ∷ []) (reverse us) ∙ ap (λ l. l ++ (x ∷ [])) (reverse-reverse us)) ∙ append_assoc us (x ∷ []) xs) in
    let both = λ (n : ℕ). sum n front in
    let whole : numbers (us ++ (x ∷ xs)) ≡ reverse (numbers zs) ++ numbers xs =
    ap numbers front ∙ map-append (λ (y : Node). y.number) (reverse zs) xs ∙ ap (λ l. l ++ numbers xs) (map-reverse (λ (y : Node). y.number) zs) in
    ap reverse (ap (filter t) whole ∙ filter-append t (reverse (numbers zs)) (numbers xs) ∙ ap (λ l. filter t (reverse (numbers zs)) ++ l) (outside d zs xs both)
    ∙ append-nil (filter t (reverse (numbers zs))) ∙ filter-reverse t (numbers zs))
    ∙ reverse-reverse (filter t (numbers zs)) ∙ chain d zs (λ n. omega (arith, both n))
  where
    sum : (n : ℕ) → us ++ (x ∷ xs) ≡ reverse (x ∷ reverse us) ++ xs → times n (x ∷ reverse us) + times n xs ≤ 1
    sum n front =
        let a = ap (times n) front ∙ times-append n (reverse (x ∷ reverse us)) xs in
        omega (arith, few n, a, times-reverse n (x ∷ reverse us))

-- ---- what is below a node

abbrev pub under : (Content → Bool) → ℕ → List Visit → List ℕ
under q n all = found (λ v. has n v.above && q v.content) all

under-none : (q : Content → Bool) (n : ℕ) (above us : List Node) → has_number n above ≡ false → has_number n us ≡ false → under q n (visits_from above us) ≡ []
under-none q n above [] h k = refl
under-none q n above (u ∷ us) h k =
    let p = absent-parts n u us k in
    let a = absent-above n u.depth above h in
    let other : has n (numbers (still_above u.depth above)) ≡ false = has-numbers n (still_above u.depth above) ∙ a in
    let rest = under-none q n (u ∷ still_above u.depth above) us (absent-cons n u (still_above u.depth above) p.0 a) p.1 in
    rw other rest

under-inside : (q : Content → Bool) (n : ℕ) (ts : List Node) (x : Node) (stay xs : List Node) → x.number ≡ n → AreDeeper x.depth ts → has_number n stay ≡ false → has_number n xs ≡ false
    → under q n (visits_from (ts ++ (x ∷ stay)) xs) ≡ numbers (filter (λ (y : Node). q y.content) (below x.depth xs))
under-inside q n ts x stay [] e deep h k = refl
under-inside q n ts x stay (y ∷ ys) e deep h k =
    let p = absent-parts n y ys k in
    elim (cases_Bool (nat_lt x.depth y.depth)) [
      | inl r ↦
          let s = above-inside y.depth ts x stay r in
          let is : has n (numbers (still_above y.depth (ts ++ (x ∷ stay)))) ≡ true = ap (λ l. has n (numbers l)) s ∙ has-middle n (still_above y.depth ts) x stay e in
          let more : AreDeeper x.depth (y ∷ still_above y.depth ts) = (r, deeper-above x.depth y.depth ts deep) in
          let rest = ap (λ l. under q n (visits_from (y ∷ l) ys)) s ∙ under-inside q n (y ∷ still_above y.depth ts) x stay ys e more h p.1 in
          elim (cases_Bool (q y.content)) [
            | inl t ↦ rw (r, is, t) (ap (λ l. y.number ∷ l) rest)
            | inr t ↦ rw (r, is, t) rest
          ]
      | inr r ↦
          let s = above-past y.depth ts x stay r deep in
          let a = absent-above n y.depth stay h in
          let other : has n (numbers (still_above y.depth (ts ++ (x ∷ stay)))) ≡ false = ap (λ l. has n (numbers l)) s ∙ has-numbers n (still_above y.depth stay) ∙ a in
          let rest = under-none q n (y ∷ still_above y.depth stay) ys (absent-cons n y (still_above y.depth stay) p.0 a) p.1 in
          rw (r, other) (ap (λ l. under q n (visits_from (y ∷ l) ys)) s ∙ rest)
    ]

-- where a number is not there, it makes no difference to ask for it
pub or-self : (t : Visit → Bool) (n : ℕ) (above us : List Node) → has_number n us ≡ false → found (λ v. t v || (n == v.number)) (visits_from above us) ≡ found t (visits_from above us)
or-self t n above [] h = refl
or-self t n above (u ∷ us) h =
    let p = absent-parts n u us h in
    let other : (n == u.number) ≡ false = eq-turned n u.number ∙ p.0 in
    let rest = or-self t n (u ∷ still_above u.depth above) us p.1 in
    elim (cases_Bool (t (visit above u))) [
      | inl e ↦ rw e (ap (λ l. u.number ∷ l) rest)
      | inr e ↦ rw (e, other) rest
    ]

-- the nodes below one, and with it
pub record Under (q : Content → Bool) (n : ℕ) (nodes : List Node) (x : Node) (xs : List Node) : Type 0 where
  pub without : under q n (visits nodes) ≡ numbers (filter (λ (y : Node). q y.content) (below x.depth xs))
  pub with_it : found (λ v. (has n v.above && q v.content) || (n == v.number)) (visits nodes) ≡ n ∷ numbers (filter (λ (y : Node). q y.content) (below x.depth xs))

pub parted-under : (q : Content → Bool) (n : ℕ) (nodes us : List Node) (x : Node) (xs : List Node) → Parted n nodes us x xs → Under q n nodes x xs
parted-under q n nodes us x xs p =
    let s = stack [] us in
    let stay = still_above x.depth s in
    let none : has_number n [] ≡ false = refl in
    let s_none = absent-stack n [] us none p.before in
    let stay_none = absent-above n x.depth s s_none in
    let vs = visits_from [] us in
    let v = visit s x in
    let ws = visits_from (x ∷ stay) xs in
    let t = λ (w : Visit). has n w.above && q w.content in
    let self = λ (w : Visit). t w || (n == w.number) in
    let all : visits nodes ≡ vs ++ (v ∷ ws) = ap visits p.whole ∙ visits-append [] us (x ∷ xs) in
    let front = under-none q n [] us none p.before in
    let other : has n (numbers stay) ≡ false = has-numbers n stay ∙ stay_none in
    let here : t v ≡ false = rw other refl in
    let is : self v ≡ true = rw (here, eq-true n x.number (sym p.number)) refl in
    let back = under-inside q n [] x stay xs p.number tt stay_none p.after in
    record {
      without = ap (found t) all ∙ found-append t vs (v ∷ ws) ∙ ap (λ l. l ++ found t (v ∷ ws)) front ∙ rw here back;
      with_it = ap (found self) all ∙ found-append self vs (v ∷ ws) ∙ ap (λ l. l ++ found self (v ∷ ws)) (or-self t n [] us p.before ∙ front)
          ∙ rw is (ap (λ l. x.number ∷ l) (or-self t n (x ∷ stay) xs p.after ∙ back) ∙ ap (λ m. m ∷ numbers (filter (λ (y : Node). q y.content) (below x.depth xs))) p.number);
    }

-- ---- before a node and after it

pub visits-before : (n : ℕ) (above us : List Node) (x : Node) (xs : List Node) → x.number ≡ n → has_number n us ≡ false → before n (visits_from above (us ++ (x ∷ xs))) ≡ visits_from above us
visits-before n above [] x xs e h = rw (eq-true x.number n e) refl
visits-before n above (u ∷ us) x xs e h =
    let p = absent-parts n u us h in
    rw p.0 (ap (λ l. visit above u ∷ l) (visits-before n (u ∷ still_above u.depth above) us x xs e p.1))

pub visits-after : (n : ℕ) (above us : List Node) (x : Node) (xs : List Node) → x.number ≡ n → has_number n us ≡ false
    → after n (visits_from above (us ++ (x ∷ xs))) ≡ visits_from (x ∷ still_above x.depth (stack above us)) xs
visits-after n above [] x xs e h = rw (eq-true x.number n e) refl
visits-after n above (u ∷ us) x xs e h =
    let p = absent-parts n u us h in
    rw p.0 (visits-after n (u ∷ still_above u.depth above) us x xs e p.1)
