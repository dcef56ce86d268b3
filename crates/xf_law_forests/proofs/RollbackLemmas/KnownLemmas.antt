-- The nodes whose texts do not count, since what they had first is noted.
use Rattle.std.proofs.Common.{◌≡◌, ℕ, ◌==◌, Bool, true, false, not, cond, ◌&&◌, ◌||◌, List, [], ◌∷◌, refl, sym, ap, ◌∙◌, subst, inl, inr, arith}
use Rattle.std.specs.Prelude.{◌<◌, Ok, if◌then◌else◌}
use Rattle.std.proofs.lemmas.Bool.{cases_Bool}
use Rattle.std.proofs.lemmas.Bool.Decides.{nat_tests}
use Rattle.xf_def_forest.specs.Forest.{Forest, content_at}
use Rattle.xf_def_forest.specs.Visit.{has, visits, children_of}
use Rattle.xf_def_forest.specs.Changes.{placed, place_of, attached, detached}
use Rattle.xf_def_forest.specs.Limits.{Limits}
use Rattle.xf_def_forest.specs.Texts.{Keeping, Before, is_attribute_at, before_of, given_up}
use Rattle.xf_def_forest.specs.Needs.{IsSettable, MayAttach, MayDetach}
use Rattle.xf_def_forest.specs.WellFormed.{AreTrees}
use Rattle.xf_def_forest.specs.Undo.{Entry, Ledger, with_set, is_known}
use Rattle.xf_def_forest.specs.Undo as undo
use Rattle.xf_def_forest.proofs.BackLaws.{false-true}
use Rattle.xf_law_forests.specs.Rollback.Made.{Made, begun, noted, texts, passed, joined, cut, grown, with_new_text}
use Rattle.xf_law_forests.proofs.RollbackLemmas.TreeFacts.{or-cases}
use Rattle.xf_law_forests.proofs.RollbackLemmas.KeepingTrees.{stands}
use Rattle.xf_law_forests.proofs.RollbackLemmas.JoinSteps.{detach-old}
use Rattle.xf_law_forests.proofs.RollbackLemmas.AttributeSteps.{text-stay, join-stay, cut-stay, growth-stay}
use Rattle.xf_law_forests.proofs.RollbackLemmas.Outcomes.{attached-placed, set-forest}

abbrev pub without_number : ℕ → List ℕ → List ℕ
without_number n [] = []
without_number n (m ∷ ms) = if n == m then without_number n ms else m ∷ without_number n ms

-- a node from which a child was cut off is known no more; an attribute is no child
abbrev pub cut_known : Bool → ℕ → List ℕ → List ℕ
cut_known attribute parent ns = if attribute then ns else without_number parent ns

abbrev pub known : {start : Keeping} {l : Ledger} {k : Keeping} → Made start l k → List ℕ
known (begun sound empty alone) = []
known (noted change m) = known m
known (texts number more n text m sound able) = n ∷ known m
known (passed count m) = known m
known (joined limits n parent place after m sound may e) = known m
known (cut {k = k} n parent place m sound may stood) = cut_known (is_attribute_at n k.forest.nodes) parent (known m)
known (grown contents m sound growth after) = known m

turned : (m n : ℕ) → (m == n) ≡ (n == m)
turned m n = grind (arith, nat_tests)

has-first : (n m : ℕ) (ns : List ℕ) → (m == n) ≡ true → has n (m ∷ ns) ≡ true
has-first n m ns e = rw (turned n m ∙ e) refl

has-later : (n m : ℕ) (ns : List ℕ) → has n ns ≡ true → has n (m ∷ ns) ≡ true
has-later n m ns h = ap (λ b. (n == m) || b) h ∙ or-true (n == m)
  where
    or-true : (b : Bool) → (b || true) ≡ true
    or-true true = refl
    or-true false = refl

set-known : (m n : ℕ) (before : Before) (es : List Entry) (next : ℕ) (k k2 : Keeping) (ns : List ℕ) → (is_known m k2 es ≡ true → has m ns ≡ true)
    → is_known m k2 (with_set n before es next k).0.entries ≡ true → has m (n ∷ ns) ≡ true
set-known m n before es next k k2 ns found h = by (is_known n k es) h
  where
    by : (b : Bool) → is_known m k2 (cond {A = Ledger × Keeping} b (record { entries = es; next = next }, given_up before k) (record { entries = undo.set n before ∷ es; next = next }, k)).0.entries ≡ true → has m (n ∷ ns) ≡ true
    by true h = has-later m n ns (found h)
    by false h = or-cases (n == m) (is_known m k2 es) h (has m (n ∷ ns) ≡ true) (λ e. has-first m n ns e) (λ e. has-later m n ns (found e))

has-other : (n p : ℕ) (ns : List ℕ) → (p == n) ≡ false → has n ns ≡ true → has n (without_number p ns) ≡ true
has-other n p [] e h = h
has-other n p (m ∷ ms) e h = by (p == m) refl (has-other n p ms e)
  where
    apart : (p == m) ≡ true → (n == m) ≡ false
    apart f = grind (arith, nat_tests, e, f)

    by : (b : Bool) → (p == m) ≡ b → (has n ms ≡ true → has n (without_number p ms) ≡ true) → has n (cond b (without_number p ms) (m ∷ without_number p ms)) ≡ true
    by true f next = next (rw (apart f) at h)
    by false f next = or-cases (n == m) (has n ms) h (((n == m) || has n (without_number p ms)) ≡ true) (λ x. rw x refl) (λ x. has-later n m (without_number p ms) (next x))

pub has-not : (p : ℕ) (ns : List ℕ) → has p (without_number p ns) ≡ false
has-not p [] = refl
has-not p (m ∷ ms) = by (p == m) refl (has-not p ms)
  where
    by : (b : Bool) → (p == m) ≡ b → has p (without_number p ms) ≡ false → has p (cond b (without_number p ms) (m ∷ without_number p ms)) ≡ false
    by true e h = h
    by false e h = rw e h

pub has-less : (m p : ℕ) (ns : List ℕ) → has m (without_number p ns) ≡ true → has m ns ≡ true
has-less m p [] h = h
has-less m p (x ∷ xs) h = by (p == x) h (has-less m p xs)
  where
    by : (b : Bool) → has m (cond b (without_number p xs) (x ∷ without_number p xs)) ≡ true → (has m (without_number p xs) ≡ true → has m xs ≡ true) → has m (x ∷ xs) ≡ true
    by true g next = has-later m x xs (next g)
    by false g next = or-cases (m == x) (has m (without_number p xs)) g _ (λ e. rw e refl) (λ e. has-later m x xs (next e))

-- attributes of a later forest are those of this one
abbrev pub Stay : Keeping → Keeping → Type 0
Stay k k2 = (m : ℕ) → m < k.forest.next → is_attribute_at m k2.forest.nodes ≡ true → is_attribute_at m k.forest.nodes ≡ true

stay-text : (number more n : ℕ) (text : List ℕ) (k : Keeping) (es : List Entry) (next : ℕ) (k2 : Keeping) → AreTrees k → IsSettable n k.forest
    → Stay (with_set n (before_of n k.forest.nodes) es next (with_new_text number more n text k)).1 k2 → Stay k k2
stay-text number more n text k es next k2 sound able stay m less h =
    let after = with_new_text number more n text k in
    let before = before_of n k.forest.nodes in
    let same_forest : (with_set n before es next after).1.forest ≡ after.forest = set-forest n before es next after in
    let further : m < after.forest.next = omega (arith, less) in
    text-stay number more n text k sound able (stands k sound) m
    (subst (λ f. is_attribute_at m f.nodes ≡ true) same_forest (stay m (subst (λ f. m < f.next) (sym same_forest) further) h))

stay-join : (limits : Limits) (n parent place : ℕ) (k : Keeping) (after : Forest) (k2 : Keeping) → AreTrees k → MayAttach n parent place k.forest → attached limits n parent place k.forest ≡ Ok after
    → Stay (record k { forest = after }) k2 → Stay k k2
stay-join limits n parent place k after k2 sound may e stay m less h =
    let at = place_of parent place (visits k.forest.nodes) (content_at n k.forest.nodes) in
    let before : Stay (record k { forest = placed n parent at k.forest }) k2 = subst (λ f. Stay (record k { forest = f }) k2) (sym (attached-placed limits n parent place k.forest after e)) stay in
    join-stay n parent place at k may (stands k sound) m (before m less h)

stay-cut : (n : ℕ) (k k2 : Keeping) → AreTrees k → MayDetach n k.forest → Stay (record k { forest = detached n k.forest }) k2 → Stay k k2
stay-cut n k k2 sound may stay m less h = cut-stay n k may (stands k sound) m (stay m less h)

cut-has : (n m : ℕ) (k k2 : Keeping) (es : List Entry) (ns : List ℕ) → (is_attribute_at n k2.forest.nodes ≡ true → is_attribute_at n k.forest.nodes ≡ true)
    → (parent place : ℕ) → (is_known m k2 es ≡ true → has m ns ≡ true) → is_known m k2 (undo.cut n parent place ∷ es) ≡ true → has m (cut_known (is_attribute_at n k.forest.nodes) parent ns) ≡ true
cut-has n m k k2 es ns stay parent place next h = by (is_attribute_at n k.forest.nodes) stay
  where
    any : (b : Bool) → cond b false (is_known m k2 es) ≡ true → has m ns ≡ true
    any true g = absurd (false-true g)
    any false g = next g

    child : (b : Bool) → (parent == m) ≡ b → is_attribute_at n k2.forest.nodes ≡ false → cond (b && not (is_attribute_at n k2.forest.nodes)) false (is_known m k2 es) ≡ true → has m (without_number parent ns) ≡ true
    child true e plain g = absurd (false-true (rw plain at g))
    child false e plain g = has-other m parent ns e (next g)

    plain : (is_attribute_at n k2.forest.nodes ≡ true → false ≡ true) → is_attribute_at n k2.forest.nodes ≡ false
    plain stay = elim (cases_Bool (is_attribute_at n k2.forest.nodes)) [ inl e ↦ absurd (false-true (stay e)) | inr e ↦ e ]

    by : (b : Bool) → (is_attribute_at n k2.forest.nodes ≡ true → b ≡ true) → has m (cut_known b parent ns) ≡ true
    by true stay = any ((parent == m) && not (is_attribute_at n k2.forest.nodes)) h
    by false stay = child (parent == m) refl (plain stay) h

pub known-has : {start : Keeping} {l : Ledger} {k : Keeping} (made : Made start l k) → (n : ℕ) (k2 : Keeping) → Stay k k2 → is_known n k2 l.entries ≡ true → has n (known made) ≡ true
known-has (begun sound empty alone) n k2 stay h = absurd (false-true h)
known-has (noted change m) n k2 stay h = known-has m n k2 stay h
known-has (texts {l = l} {k = k} number more m text made sound able) n k2 stay h =
    set-known n m (before_of m k.forest.nodes) l.entries l.next (with_new_text number more m text k) k2 (known made)
    (λ f. known-has made n k2 (stay-text number more m text k l.entries l.next k2 sound able stay) f) h
known-has (passed count made) n k2 stay h = known-has made n k2 (λ m less g. stay m (omega (arith, less)) g) h
known-has (joined {l = l} {k = k} limits m parent place after made sound may e) n k2 stay h =
    by (has m (children_of n (visits k2.forest.nodes))) h (λ f. known-has made n k2 (stay-join limits m parent place k after k2 sound may e stay) f)
  where
    by : (b : Bool) → cond b false (is_known n k2 l.entries) ≡ true → (is_known n k2 l.entries ≡ true → has n (known made) ≡ true) → has n (known made) ≡ true
    by true h next = absurd (false-true h)
    by false h next = next h
known-has (cut {l = l} {k = k} m parent place made sound may stood_) n k2 stay h =
    let before = stay-cut m k k2 sound may stay in
    cut-has m n k k2 l.entries (known made) (λ g. before m (detach-old m k (stands k sound) may) g) parent place (λ f. known-has made n k2 before f) h
known-has (grown {k = k} contents made sound growth after) n k2 stay h =
    known-has made n k2 (λ x less g. growth-stay contents k x less (stay x (omega (arith, less)) g)) h
