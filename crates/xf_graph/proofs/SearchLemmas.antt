-- What the small loops of the search keep.
use Rattle.std.proofs.Common.{◌≡◌, ℕ, ◌<◌, ◌≤◌, min, Bool, true, false, cond, ◌||◌, ◌&&◌, ◌⊎◌, inl, inr, List, [], ◌∷◌, ◌++◌, Option, Some, None, MatchOption, ◌==◌, refl, sym, ap, ◌∙◌, subst, arith, append_assoc}
use Rattle.std.proofs.lemmas.List.{append-nil}
use Rattle.std.proofs.lemmas.Bool.{cases_lt, cases_eq, eq-eqb, ne_eqb, eqb-false, or_from, or_parts, and_left, and_from, and_parts, cases_Bool, false_from_ne_true}
use Rattle.xf_graph.specs.Edges.{has}
use Rattle.xf_graph.specs.Order.{EachOnce}
use Rattle.xf_graph.specs.Search.{MarksNew, IsLeastWith}
use Rattle.xf_graph.proofs.HasLists.{has-append, has-push_cases, has-push_old, has-push_new}

EachOnce-push : (xs : List ℕ) (x : ℕ) → EachOnce xs → has xs x ≡ false → EachOnce (xs ++ x ∷ [])
EachOnce-push [] x o h = (refl, tt)
EachOnce-push (y ∷ ys) x o h =
    let p = or_parts (y == x) (has ys x) h in (
      (has-append ys (x ∷ []) y ∙ or_from (has ys y) ((x == y) || false) o.0 (or_from (x == y) false (ne_eqb x y (λ e. eqb-false y x p.0 (sym e))) refl)),
      EachOnce-push ys x o.1 p.1,
    )

and_none : (b : Bool) → (b && false) ≡ false
and_none true = refl
and_none false = refl

pub MarksNew-none : (value : ℕ) (mark : ℕ → ℕ) (queue : List ℕ) → MarksNew [] value mark mark queue queue
MarksNew-none value mark queue = record {
  added = [];
  queue = sym (append-nil queue);
  once = tt;
  members = λ v. sym (and_none (mark v == 0));
  marks = λ v. refl;
}

module _ (vertices : List ℕ) (value : ℕ) (old now : ℕ → ℕ) (old_queue queue : List ℕ) (positive : 0 < value) (so : MarksNew vertices value old now old_queue queue) (x : ℕ) where
  -- the vertex has a mark
  pub MarksNew-passed : (now x ≡ 0 → ⊥) → MarksNew (vertices ++ x ∷ []) value old now old_queue queue
  MarksNew-passed some = record {
    added = so.added;
    queue = so.queue;
    once = so.once;
    members = λ v. elim (cases_eq x v) [
      | inl e ↦ subst (λ y. has so.added y ≡ ((old y == 0) && has (vertices ++ x ∷ []) y)) e
          (elim (cases_Bool (has so.added x)) [
            | inl h ↦ h ∙ sym (and_from (old x == 0) (has (vertices ++ x ∷ []) x) (and_parts (old x == 0) (has vertices x) (sym (so.members x) ∙ h)).0 (has-push_new vertices x))
            | inr h ↦ h ∙ sym (and_left (old x == 0) (has (vertices ++ x ∷ []) x) (ne_eqb (old x) 0 (λ z. some (so.marks x ∙ ap (λ b. cond b value (old x)) h ∙ z))))
          ])
      | inr ne ↦ so.members v ∙ ap (λ b. (old v == 0) && b) (sym (has-append vertices (x ∷ []) v ∙ keeps v ne))
    ];
    marks = so.marks;
  } where
    or_none : (b : Bool) → (b || false) ≡ b
    or_none true = refl
    or_none false = refl

    keeps : (v : ℕ) → (x ≡ v → ⊥) → (has vertices v || ((x == v) || false)) ≡ has vertices v
    keeps v ne = ap (λ b. has vertices v || (b || false)) (ne_eqb x v ne) ∙ or_none (has vertices v)

  -- the vertex has none, and gets one
  pub MarksNew-more : (next : ℕ → ℕ) → now x ≡ 0 → ((v : ℕ) → next v ≡ cond (x == v) value (now v)) → MarksNew (vertices ++ x ∷ []) value old next old_queue (queue ++ x ∷ [])
  MarksNew-more next none set = record {
    added = so.added ++ x ∷ [];
    queue = ap (λ q. q ++ x ∷ []) so.queue ∙ append_assoc old_queue so.added (x ∷ []);
    once = EachOnce-push so.added x so.once fresh;
    members = λ v. elim (cases_eq x v) [
      | inl e ↦ subst (λ y. has (so.added ++ x ∷ []) y ≡ ((old y == 0) && has (vertices ++ x ∷ []) y)) e
          (has-push_new so.added x ∙ sym (and_from (old x == 0) (has (vertices ++ x ∷ []) x) (eq-eqb (old x) 0 unmarked) (has-push_new vertices x)))
      | inr ne ↦ has-append so.added (x ∷ []) v ∙ keeps (has so.added v) v ne ∙ so.members v ∙ ap (λ b. (old v == 0) && b) (sym (has-append vertices (x ∷ []) v ∙ keeps (has vertices v) v ne))
    ];
    marks = λ v. elim (cases_eq x v) [
      | inl e ↦ subst (λ y. next y ≡ cond (has (so.added ++ x ∷ []) y) value (old y)) e
          (set x ∙ ap (λ b. cond b value (now x)) (eq-eqb x x refl) ∙ sym (ap (λ b. cond b value (old x)) (has-push_new so.added x)))
      | inr ne ↦ set v ∙ ap (λ b. cond b value (now v)) (ne_eqb x v ne) ∙ so.marks v ∙ ap (λ b. cond b value (old v)) (sym (has-append so.added (x ∷ []) v ∙ keeps (has so.added v) v ne))
    ];
  } where
    or_none : (b : Bool) → (b || false) ≡ b
    or_none true = refl
    or_none false = refl

    keeps : (b : Bool) (v : ℕ) → (x ≡ v → ⊥) → (b || ((x == v) || false)) ≡ b
    keeps b v ne = ap (λ t. b || (t || false)) (ne_eqb x v ne) ∙ or_none b

    fresh : has so.added x ≡ false
    fresh = false_from_ne_true (has so.added x) (λ h. let e = sym (so.marks x ∙ ap (λ b. cond b value (old x)) h) in omega (arith, e, none))

    unmarked : old x ≡ 0
    unmarked = sym (so.marks x ∙ ap (λ b. cond b value (old x)) fresh) ∙ none

-- ---- the least with a mark
module _ (vertices : List ℕ) (mark : ℕ → ℕ) (value : ℕ) (x : ℕ) where
  pub IsLeastWith-passed : (r : Option ℕ) → IsLeastWith vertices mark value r → (mark x ≡ value → ⊥) → IsLeastWith (vertices ++ x ∷ []) mark value r
  IsLeastWith-passed None so ne = λ v h m. elim (has-push_cases vertices x v h) [ inl q ↦ so v q m | inr e ↦ ne (ap mark e ∙ m) ]
  IsLeastWith-passed (Some least) so ne = (
    has-push_old vertices x least so.0,
    so.1,
    λ v h m. elim (has-push_cases vertices x v h) [ inl q ↦ so.2 v q m | inr e ↦ absurd (ne (ap mark e ∙ m)) ],
  )

  pub IsLeastWith-more : (r : Option ℕ) (y : ℕ) → IsLeastWith vertices mark value r → mark x ≡ value → MatchOption r (y ≡ x) (λ other. y ≡ min other x) → IsLeastWith (vertices ++ x ∷ []) mark value (Some y)
  IsLeastWith-more None y so has_mark e = subst (λ z. IsLeastWith (vertices ++ x ∷ []) mark value (Some z)) (sym e)
      (has-push_new vertices x, has_mark, λ v h m. elim (has-push_cases vertices x v h) [ inl q ↦ absurd (so v q m) | inr z ↦ omega arith ])
  IsLeastWith-more (Some least) y so has_mark e =
      subst (λ z. IsLeastWith (vertices ++ x ∷ []) mark value (Some z)) (sym e) (elim (le_cases least x) [
        | inl l ↦ subst (λ z. IsLeastWith (vertices ++ x ∷ []) mark value (Some z)) (min_left l) (has-push_old vertices x least so.0, so.1, λ v h m. elim (has-push_cases vertices x v h) [ inl q ↦ so.2 v q m | inr z ↦ omega arith ])
        | inr l ↦ subst (λ z. IsLeastWith (vertices ++ x ∷ []) mark value (Some z)) (min_right l) (has-push_new vertices x, has_mark, λ v h m. elim (has-push_cases vertices x v h) [ inl q ↦ let b = so.2 v q m in omega arith | inr z ↦ omega arith ])
      ])
    where
      le_cases : (a b : ℕ) → (a ≤ b) ⊎ (b ≤ a)
      le_cases a b = elim (cases_lt a b) [ inl l ↦ inl (omega arith) | inr l ↦ inr l ]

      min_left : least ≤ x → least ≡ min least x
      min_left l = omega arith

      min_right : x ≤ least → x ≡ min least x
      min_right l = omega arith
