-- New trees that came in, and what is left when they are dropped.
use Rattle.std.proofs.Common.{◌≡◌, ℕ, suc, ◌+◌, ◌==◌, Bool, true, false, not, cond, ◌||◌, List, [], ◌∷◌, ◌++◌, length, nat_lt, refl, sym, ap, ◌∙◌, subst, inl, inr, arith}
use Rattle.std.specs.Prelude.{⊤, ◌≤◌, ◌<◌, nat_le, filter, if◌then◌else◌}
use Rattle.std.specs.List.{list_any, list_all}
use Rattle.std.proofs.lemmas.Bool.{cases_Bool}
use Rattle.std.proofs.lemmas.Bool.Decides.{nat_tests}
use Rattle.xf_def_forest.specs.declared.content.Node.{Node}
use Rattle.xf_def_forest.specs.declared.content.Content.{Content}
use Rattle.xf_def_forest.specs.Forest.{is_root}
use Rattle.xf_def_forest.specs.Visit.{Visit, visits}
use Rattle.xf_def_forest.specs.Plant.{numbered_from}
use Rattle.xf_def_forest.specs.Changes.{in_detached}
use Rattle.xf_def_forest.specs.Texts.{Keeping}
use Rattle.xf_def_forest.specs.Needs.{goes_or_stays, is_new}
use Rattle.xf_def_forest.specs.WellFormed.{AreTrees, reach, are_depths_from, are_depths, are_tops}
use Rattle.xf_def_forest.specs.Undo.{kept_at}
use Rattle.xf_def_forest.proofs.BackLaws.{or-false, and-true}
use Rattle.xf_law_forests.specs.Rollback.Made.{begins_at_top, IsGrowth, with_growth}
use Rattle.xf_law_forests.proofs.RollbackLemmas.Trees.{Trees, none, tree, onto, followed, times, reading, onto-inj, onto-append, onto-followed}
use Rattle.xf_law_forests.proofs.RollbackLemmas.TreeVisits.{seen, visits-seen}
use Rattle.xf_law_forests.proofs.RollbackLemmas.TreeShape.{Sound, sound-trees, sound-followed}
use Rattle.xf_law_forests.proofs.RollbackLemmas.TreeMoved.{Moved, same, swap, under, through}
use Rattle.xf_law_forests.proofs.RollbackLemmas.TreeBlank.{blank, blank-nothing}
use Rattle.xf_law_forests.proofs.RollbackLemmas.KeepingTrees.{Stands, stands}
use Rattle.xf_law_forests.proofs.RollbackLemmas.TreeMoves.{followed-again}
use Rattle.xf_law_forests.proofs.RollbackLemmas.Alike.{Fresh, fresh-less, fresh-followed, Alike, Back}

-- ---- trees that came in

abbrev AreNew : ℕ → List Node → Type 0
AreNew number [] = ⊤
AreNew number (x ∷ xs) = (number ≤ x.number) × (is_root x.content ≡ false) × AreNew number xs

numbered-new : (number next : ℕ) (contents : List (ℕ × Content)) → number ≤ next → list_any (λ (p : ℕ × Content). is_root p.1) contents ≡ false → AreNew number (numbered_from next contents)
numbered-new number next [] le h = tt
numbered-new number next (c ∷ cs) le h =
    let parts = or-false (is_root c.1) (list_any (λ (p : ℕ × Content). is_root p.1) cs) h in
    (le, parts.0, numbered-new number (suc next) cs (omega (arith, le)) parts.1)

new-onto : (number d : ℕ) (t : Trees) (ys : List Node) → AreNew number (onto d t ys) → Fresh number t × AreNew number ys
new-onto number d none ys h = (tt, h)
new-onto number d (tree n c k r) ys h =
    let one = new-onto number (suc d) k (onto d r ys) h.2 in
    let two = new-onto number d r ys one.1 in
    ((h.0, h.1, one.0, two.0), two.1)

-- a later part of the list
depths-append : (most : ℕ) (xs ys : List Node) → are_depths_from most (xs ++ ys) ≡ true → (later : ℕ) × (are_depths_from later ys ≡ true)
depths-append most [] ys h = (most, h)
depths-append most (x ∷ xs) ys h = depths-append (reach x) xs ys (and-true (nat_le x.depth most) (are_depths_from (reach x) (xs ++ ys)) h).1

tops-append : (xs ys : List Node) → are_tops (xs ++ ys) ≡ true → are_tops ys ≡ true
tops-append [] ys h = h
tops-append (x ∷ xs) ys h = tops-append xs ys (and-true (not (is_root x.content) || (x.depth == 0)) (are_tops (xs ++ ys)) h).1

-- what begins at a top is that of trees alone
depths-alone : (most next : ℕ) (contents : List (ℕ × Content)) → begins_at_top contents ≡ true → are_depths_from most (numbered_from next contents) ≡ true → are_depths (numbered_from next contents) ≡ true
depths-alone most next [] top h = refl
depths-alone most next (c ∷ cs) top h =
    let x : Node = record { number = next; depth = c.0; content = c.1 } in
    let parts = and-true (nat_le c.0 most) (are_depths_from (reach x) (numbered_from (suc next) cs)) h in
    let low : nat_le c.0 0 ≡ true = grind (arith, nat_tests, top) in
    rw low parts.1

-- the trees that came in stand behind the others
pub record NewTrees (k : Keeping) (s t : Trees) : Type 0 where
  pub new : Trees
  pub is : t ≡ followed s new
  pub fresh : Fresh k.forest.next new
  pub sound : Sound false new

pub new-trees : (contents : List (ℕ × Content)) (k : Keeping) → IsGrowth contents → AreTrees (with_growth contents k) → (s : Stands k) (t : Trees) → (with_growth contents k).forest.nodes ≡ onto 0 t []
    → NewTrees k s.trees t
new-trees contents k growth after s t nodes =
    let list = numbered_from k.forest.next contents in
    let part = depths-append 0 k.forest.nodes list after.depths in
    let depths : are_depths list ≡ true = depths-alone part.0 k.forest.next contents growth.top part.1 in
    let e = reading list depths in
    let whole : k.forest.nodes ++ list ≡ onto 0 (followed s.trees e.trees) []
    = ap (λ l. l ++ list) s.nodes ∙ onto-append 0 s.trees [] list ∙ ap (onto 0 s.trees) e.whole ∙ sym (onto-followed 0 s.trees e.trees []) in
    record {
      new = e.trees;
      is = (onto-inj 0 t (followed s.trees e.trees) [] [] tt tt (sym nodes ∙ whole)).0;
      fresh = (new-onto k.forest.next 0 e.trees [] (subst (AreNew k.forest.next) e.whole (numbered-new k.forest.next k.forest.next contents (omega arith) growth.rootless))).0;
      sound = sound-trees e.trees (subst (λ l. are_depths l ≡ true) e.whole depths) (subst (λ l. are_tops l ≡ true) e.whole (tops-append k.forest.nodes list after.tops));
    }

pub growth-alike : (contents : List (ℕ × Content)) (k : Keeping) → IsGrowth contents → AreTrees (with_growth contents k) → (s : Stands k) (t : Trees) → (with_growth contents k).forest.nodes ≡ onto 0 t []
    → (ns : List ℕ) (k2 : Keeping) → Alike ns t (with_growth contents k) k2 → Alike ns s.trees k k2
growth-alike contents k growth after s t nodes ns k2 a =
    let e = new-trees contents k growth after s t nodes in
    record {
      later = a.later;
      extra = followed e.new a.extra;
      nodes = a.nodes;
      kept = a.kept;
      next = let h = a.next in omega (arith, h);
      fresh = fresh-followed k.forest.next e.new a.extra e.fresh (fresh-less k.forest.next (k.forest.next + length contents) a.extra (omega arith) a.fresh);
      new_sound = sound-followed false e.new a.extra e.sound a.new_sound;
      sound = a.sound;
      first = a.first;
      once = a.once;
      like = subst (λ x. Moved (blank ns x) (blank ns a.later)) (ap (λ x. followed x a.extra) e.is ∙ followed-again s.trees e.new a.extra) a.like;
    }

-- ---- what is left when they are dropped

abbrev Old : ℕ → Trees → Type 0
Old number none = ⊤
Old number (tree n c k r) = (n < number) × Old number k × Old number r

abbrev pub AllRoots : Trees → Type 0
AllRoots none = ⊤
AllRoots (tree n c k r) = (is_root c ≡ true) × AllRoots r

-- roots have old nodes, the other trees have new ones
abbrev Parted : ℕ → Trees → Type 0
Parted number none = ⊤
Parted number (tree n c k r) = cond (is_root c) ((n < number) × Old number k) ((number ≤ n) × Fresh number k) × Parted number r

abbrev roots : Trees → Trees
roots none = none
roots (tree n c k r) = if is_root c then tree n c k (roots r) else roots r

moved-parted : (number : ℕ) {a b : Trees} → Moved a b → Parted number a → Parted number b
moved-parted number (same t) h = h
moved-parted number (swap e f) h = (h.1.0, (h.0, h.1.1))
moved-parted number (under n c k m) h = (h.0, moved-parted number m h.1)
moved-parted number (through l m) h = moved-parted number m (moved-parted number l h)

moved-roots : {a b : Trees} → Moved a b → roots a ≡ roots b
moved-roots (same t) = refl
moved-roots (swap e f) = rw (e, f) refl
moved-roots (under n c k {r = r} {s = s} m) = ap (λ x. cond (is_root c) (tree n c k x) x) (moved-roots m)
moved-roots (through l m) = moved-roots l ∙ moved-roots m

old-of : (number : ℕ) (t : Trees) → ((n : ℕ) → number ≤ n → times n t ≡ 0) → Old number t
old-of number none h = tt
old-of number (tree n c k r) h = (less, old-of number k (λ m le. let z = h m le in omega (arith, z)), old-of number r (λ m le. let z = h m le in omega (arith, z)))
  where
    same_number : (n == n) ≡ true
    same_number = grind (arith, nat_tests)

    less : n < number
    less = elim (cases_Bool (nat_lt n number)) [
      | inl e ↦ grind (arith, nat_tests, e)
      | inr e ↦ let ge : number ≤ n = grind (arith, nat_tests, e) in
          let z : 1 + (times n k + times n r) ≡ 0 = rw same_number at (h n ge) in let no : ⊥ = omega (arith, z) in absurd no
    ]

parted-old : (number : ℕ) (t s : Trees) → AllRoots t → Old number t → Parted number s → Parted number (followed t s)
parted-old number none s roots_ old h = h
parted-old number (tree n c k r) s roots_ old h = rw roots_.0 ((old.0, old.1), parted-old number r s roots_.1 old.2 h)

parted-fresh : (number : ℕ) (t : Trees) → Fresh number t → Parted number t
parted-fresh number none h = tt
parted-fresh number (tree n c k r) h = rw h.1 ((h.0, h.2), parted-fresh number r h.3)

roots-old : (number : ℕ) (t s : Trees) → AllRoots t → Fresh number s → roots (followed t s) ≡ t
roots-old number none none h f = refl
roots-old number none (tree n c k r) h f = rw f.1 (roots-old number none r h f.3)
roots-old number (tree n c k r) s h f = rw h.0 (ap (tree n c k) (roots-old number r s h.1 f))

abbrev stays : ℕ → Node → Bool
stays number x = nat_lt x.number number

filter-old : (number d : ℕ) (t : Trees) (ys : List Node) → Old number t → filter (stays number) (onto d t ys) ≡ onto d t (filter (stays number) ys)
filter-old number d none ys h = refl
filter-old number d (tree n c k r) ys h =
    let less = h.0 in
    let e : nat_lt n number ≡ true = grind (arith, nat_tests, less) in
    rw e (ap (λ l. record { number = n; depth = d; content = c } ∷ l) (filter-old number (suc d) k (onto d r ys) h.1 ∙ ap (onto (suc d) k) (filter-old number d r ys h.2)))

filter-fresh : (number d : ℕ) (t : Trees) (ys : List Node) → Fresh number t → filter (stays number) (onto d t ys) ≡ filter (stays number) ys
filter-fresh number d none ys h = refl
filter-fresh number d (tree n c k r) ys h =
    let more = h.0 in
    let e : nat_lt n number ≡ false = grind (arith, nat_tests, more) in
    rw e (filter-fresh number (suc d) k (onto d r ys) h.2 ∙ filter-fresh number d r ys h.3)

filter-parted : (number : ℕ) (t : Trees) → Parted number t → filter (stays number) (onto 0 t []) ≡ onto 0 (roots t) []
filter-parted number none h = refl
filter-parted number (tree n c k r) h = by (is_root c) h.0 (filter-parted number r h.1)
  where
    by : (b : Bool) → cond b ((n < number) × Old number k) ((number ≤ n) × Fresh number k) → filter (stays number) (onto 0 r []) ≡ onto 0 (roots r) []
        → filter (stays number) (onto 0 (tree n c k r) []) ≡ onto 0 (cond b (tree n c k (roots r)) (roots r)) []
    by true o e =
        let less = o.0 in
        let f : nat_lt n number ≡ true = grind (arith, nat_tests, less) in
        rw f (ap (λ l. record { number = n; depth = 0; content = c } ∷ l) (filter-old number 1 k (onto 0 r []) o.1 ∙ ap (onto 1 k) e))
    by false o e =
        let more = o.0 in
        let f : nat_lt n number ≡ false = grind (arith, nat_tests, more) in
        rw f (filter-fresh number 1 k (onto 0 r []) o.1 ∙ e)

-- ---- and it may be dropped

abbrev goes : ℕ → Visit → Bool
goes number x = goes_or_stays number x

seen-old : (number : ℕ) (up : List ℕ) (t : Trees) (vs : List Visit) → list_all (λ n. not (is_new number n)) up ≡ true → Old number t → list_all (goes number) vs ≡ true → list_all (goes number) (seen up t vs) ≡ true
seen-old number up none vs h old k = k
seen-old number up (tree n c j r) vs h old k =
    let less = old.0 in
    let e : nat_lt n number ≡ true = grind (arith, nat_tests, less) in
    let here : goes number (record { number = n; above = up; content = c }) ≡ true = rw e h in
    let up_more : list_all (λ n. not (is_new number n)) (n ∷ up) ≡ true = rw e h in
    rw here (seen-old number (n ∷ up) j (seen up r vs) up_more old.1 (seen-old number up r vs h old.2 k))

seen-fresh : (number : ℕ) (up : List ℕ) (t : Trees) (vs : List Visit) → list_all (is_new number) up ≡ true → Fresh number t → list_all (goes number) vs ≡ true → list_all (goes number) (seen up t vs) ≡ true
seen-fresh number up none vs h new k = k
seen-fresh number up (tree n c j r) vs h new k =
    let more = new.0 in
    let e : nat_lt n number ≡ false = grind (arith, nat_tests, more) in
    let here : goes number (record { number = n; above = up; content = c }) ≡ true = rw (e, new.1) h in
    let up_more : list_all (is_new number) (n ∷ up) ≡ true = rw e h in
    rw here (seen-fresh number (n ∷ up) j (seen up r vs) up_more new.2 (seen-fresh number up r vs h new.3 k))

seen-parted : (number : ℕ) (t : Trees) → Parted number t → list_all (goes number) (seen [] t []) ≡ true
seen-parted number none h = refl
seen-parted number (tree n c k r) h =
    elim (cases_Bool (is_root c)) [
      | inl e ↦ old (rw e at h.0) (seen-parted number r h.1)
      | inr e ↦ new e (rw e at h.0) (seen-parted number r h.1)
    ]
  where
    old : (n < number) × Old number k → list_all (goes number) (seen [] r []) ≡ true → list_all (goes number) (seen [] (tree n c k r) []) ≡ true
    old o rest =
        let less = o.0 in
        let f : nat_lt n number ≡ true = grind (arith, nat_tests, less) in
        let here : goes number (record { number = n; above = []; content = c }) ≡ true = rw f refl in
        let up : list_all (λ n. not (is_new number n)) (n ∷ []) ≡ true = rw f refl in
        rw here (seen-old number (n ∷ []) k (seen [] r []) up o.1 rest)

    new : is_root c ≡ false → (number ≤ n) × Fresh number k → list_all (goes number) (seen [] r []) ≡ true → list_all (goes number) (seen [] (tree n c k r) []) ≡ true
    new e o rest =
        let more = o.0 in
        let f : nat_lt n number ≡ false = grind (arith, nat_tests, more) in
        let here : goes number (record { number = n; above = []; content = c }) ≡ true = rw (f, e) refl in
        let up : list_all (is_new number) (n ∷ []) ≡ true = rw f refl in
        rw here (seen-fresh number (n ∷ []) k (seen [] r []) up o.1 rest)

-- ---- a forest that was kept has instances alone

deep-skip : (d : ℕ) (t : Trees) (ys : List Node) → in_detached (onto (suc d) t ys) ≡ in_detached ys
deep-skip d none ys = refl
deep-skip d (tree n c k r) ys =
    let deep : (suc d == 0) ≡ false = grind (arith, nat_tests) in
    rw deep (deep-skip (suc d) k (onto (suc d) r ys) ∙ deep-skip d r ys)

cons-no : (x : Node) (xs : List Node) → ◌≡◌ {A = List Node} (x ∷ xs) [] → ⊥
cons-no x xs e = cc e

pub roots-all : (t : Trees) → in_detached (onto 0 t []) ≡ [] → AllRoots t
roots-all none h = tt
roots-all (tree n c k r) h =
    elim (cases_Bool (is_root c)) [
      | inl e ↦ (e, roots-all r (sym (deep-skip 0 k (onto 0 r [])) ∙ (rw e at h)))
      | inr e ↦ absurd (cons-no (record { number = n; depth = 0; content = c }) (onto 1 k (onto 0 r [])) (rw e at h))
    ]

pub begun-back : (start : Keeping) → AreTrees start → start.kept ≡ [] → in_detached start.forest.nodes ≡ [] → (t : Trees) → start.forest.nodes ≡ onto 0 t [] → (k2 : Keeping) → Alike [] t start k2 → Back start (kept_at start.forest) k2
begun-back start sound empty alone t nodes k2 a =
    let number = start.forest.next in
    let s = stands start sound in
    let is : s.trees ≡ t = (onto-inj 0 s.trees t [] [] tt tt (sym s.nodes ∙ nodes)).0 in
    let like : Moved (followed t a.extra) a.later = subst (λ x. Moved x a.later) (blank-nothing (followed t a.extra)) (subst (Moved (blank [] (followed t a.extra))) (blank-nothing a.later) a.like) in
    let top = roots-all t (subst (λ l. in_detached l ≡ []) nodes alone) in
    let parted = moved-parted number like (parted-old number t a.extra top (old-of number t (λ n le. ap (times n) (sym is) ∙ s.old n le)) (parted-fresh number a.extra a.fresh)) in
    let left : filter (stays number) k2.forest.nodes ≡ start.forest.nodes
    = ap (filter (stays number)) a.nodes ∙ filter-parted number a.later parted ∙ ap (λ x. onto 0 x []) (sym (moved-roots like) ∙ roots-old number t a.extra top a.fresh) ∙ sym nodes in
    record {
      changes = tt;
      rest = record {
        known = let h = a.next in grind (arith, nat_tests, h);
        whole = subst (λ l. list_all (goes number) (visits l) ≡ true) (sym a.nodes) (subst (λ l. list_all (goes number) l ≡ true) (sym (visits-seen a.later)) (seen-parted number a.later parted));
      };
      same = ap (λ l. record { forest = record { nodes = l; next = number }; kept = [] }) left ∙ ap (λ l. record { forest = start.forest; kept = l }) (sym empty);
    }
