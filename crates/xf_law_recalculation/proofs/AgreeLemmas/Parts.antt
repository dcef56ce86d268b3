-- A part of a list of visits: what a step reaches there, where all that it meets is in the part, and where `//` begins.
use Rattle.std.proofs.Common.{◌≡◌, ℕ, ◌==◌, Bool, true, false, cond, ◌&&◌, ◌||◌, List, [], ◌∷◌, ◌++◌, map, reverse, Option, Some, None, refl, sym, ap, ◌∙◌}
use Rattle.std.specs.Prelude.{filter, is_some}
use Rattle.std.specs.List.{flat_map}
use Rattle.xf_name.specs.declared.axis.Axis.{Axis}
use Rattle.xf_name.specs.declared.axis.Axis.TheVariants.{Child, Attribute, Self_, Parent, Ancestor, AncestorOrSelf, Descendant, DescendantOrSelf, FollowingSibling, PrecedingSibling}
use Rattle.xf_def_syntax.specs.declared.expr.Test.{Test}
use Rattle.xf_def_syntax.specs.declared.expr.Test.TheVariants.{Node}
use Rattle.xf_def_forest.specs.Visit.{Visit, has}
use Rattle.xf_def_forest.specs.Axis.{before, after, is_on, in_range, on_axis, is_reverse, axis_from}
use Rattle.xf_def_forest.proofs.OrderLaws.{filter-sub, map-sub, sub-different}
use Rattle.xf_def_forest.proofs.RenumberLaws.{map-reverse}
use Rattle.xf_def_xpath.specs.Setting.{in_order}
use Rattle.xf_def_xpath.specs.Tests.{meets}
use Rattle.xf_def_xpath.specs.Asked.{found}
use Rattle.xf_def_xpath.specs.Steps.{reached, begun_at}
use Rattle.xf_def_xpath.specs.Agree.{numbers_of, are_apart}
use Rattle.xf_def_xpath.proofs.VisitFacts.{self-same, or-left, or-right, no, filter-and, filter-same, filter-reverse, found-number, has-found, kept_if, found-filter, found-in, found-out}
use Rattle.xf_def_xpath.proofs.SameKept.{on, numbers-filter}
use Rattle.xf_def_xpath.proofs.AxisAgree.{filter-after, filter-before}
use Rattle.xf_def_xpath.proofs.ForestVisits.{Each, self-found}

each-after : (P : Visit → Type 0) (n : ℕ) (all : List Visit) → Each P all → Each P (after n all)
each-after P n [] e = tt
each-after P n (y ∷ ys) e = by (y.number == n) (each-after P n ys e.1)
  where
    by : (b : Bool) → Each P (after n ys) → Each P (cond b ys (after n ys))
    by true i = e.1
    by false i = i

each-before : (P : Visit → Type 0) (n : ℕ) (all : List Visit) → Each P all → Each P (before n all)
each-before P n [] e = tt
each-before P n (y ∷ ys) e = by (y.number == n) (each-before P n ys e.1)
  where
    by : (b : Bool) → Each P (before n ys) → Each P (cond b [] (y ∷ before n ys))
    by true i = tt
    by false i = (e.0, i)

pub each-range : (P : Visit → Type 0) (axis : Axis) (n : ℕ) (all : List Visit) → Each P all → Each P (in_range axis n all)
each-range P Child n all e = e
each-range P Attribute n all e = e
each-range P Self_ n all e = e
each-range P Parent n all e = e
each-range P Ancestor n all e = e
each-range P AncestorOrSelf n all e = e
each-range P Descendant n all e = e
each-range P DescendantOrSelf n all e = e
each-range P FollowingSibling n all e = each-after P n all e
each-range P PrecedingSibling n all e = each-before P n all e

-- a test that meets items of the part alone
within-part : (p q : Visit → Bool) (xs : List Visit) → Each (λ y. p y ≡ true → q y ≡ true) xs → filter p (filter q xs) ≡ filter p xs
within-part p q [] e = refl
within-part p q (x ∷ xs) e = by (q x) (p x) refl refl (within-part p q xs e.1)
  where
    by : (b c : Bool) → q x ≡ b → p x ≡ c → filter p (filter q xs) ≡ filter p xs → filter p (cond b (x ∷ filter q xs) (filter q xs)) ≡ cond c (x ∷ filter p xs) (filter p xs)
    by true true i j h = ap (λ d. cond d (x ∷ filter p (filter q xs)) (filter p (filter q xs))) j ∙ ap (λ l. x ∷ l) h
    by true false i j h = ap (λ d. cond d (x ∷ filter p (filter q xs)) (filter p (filter q xs))) j ∙ h
    by false true i j h = no (sym i ∙ e.0 j)
    by false false i j h = h

module _ (q : Visit → Bool) (all : List Visit) (apart : are_apart (numbers_of all) ≡ true) where
  pub part-apart : are_apart (numbers_of (filter q all)) ≡ true
  part-apart = sub-different (map-sub (λ (y : Visit). y.number) (filter-sub q all)) apart

  module _ (n : ℕ) (x : Visit) (e : found n (filter q all) ≡ Some x) where
    whole : (found n all ≡ Some x) × (q x ≡ true)
    whole = found-out q n all x apart e

    ranged : (axis : Axis) → filter q (in_range axis x.number all) ≡ in_range axis x.number (filter q all)
    ranged Child = refl
    ranged Attribute = refl
    ranged Self_ = refl
    ranged Parent = refl
    ranged Ancestor = refl
    ranged AncestorOrSelf = refl
    ranged Descendant = refl
    ranged DescendantOrSelf = refl
    ranged FollowingSibling = filter-after q x.number x all (ap (λ m. found m all) (found-number n (filter q all) x e) ∙ whole.0) whole.1
    ranged PrecedingSibling = filter-before q x.number x all (ap (λ m. found m all) (found-number n (filter q all) x e) ∙ whole.0) whole.1

    in-proximity : (T : Visit → Bool) (r : Bool) (part : List Visit) → map (λ (y : Visit). y.number) (filter T (cond r (reverse part) part)) ≡ cond r (reverse (numbers_of (filter T part))) (numbers_of (filter T part))
    in-proximity T true part = ap numbers_of (filter-reverse T part) ∙ map-reverse (λ (y : Visit). y.number) (filter T part)
    in-proximity T false part = refl

    -- all that the step meets is in the part
    abbrev pub AllMet : Axis → Test → Type 0
    AllMet axis test = (k : ℕ) (y : Visit) → found k all ≡ Some y → (is_on axis x y && meets axis test y.content) ≡ true → q y ≡ true

    selected : (axis : Axis) (test : Test) → AllMet axis test → filter (λ y. meets axis test y.content) (on_axis axis all x) ≡ filter (λ y. meets axis test y.content) (on_axis axis (filter q all) x)
    selected axis test h =
        sym (filter-and (λ y. meets axis test y.content) (is_on axis x) (in_range axis x.number all))
        ∙ sym (within-part (λ y. is_on axis x y && meets axis test y.content) q (in_range axis x.number all)
        (each-range (λ y. (is_on axis x y && meets axis test y.content) ≡ true → q y ≡ true) axis x.number all (met all (self-found all apart) (λ k y i. i))))
        ∙ filter-and (λ y. meets axis test y.content) (is_on axis x) (filter q (in_range axis x.number all))
        ∙ ap (λ l. filter (λ y. meets axis test y.content) (filter (is_on axis x) l)) (ranged axis)
      where
        met : (ys : List Visit) → Each (λ y. found y.number all ≡ Some y) ys → ((k : ℕ) (y : Visit) → found k all ≡ Some y → found k all ≡ Some y) → Each (λ y. (is_on axis x y && meets axis test y.content) ≡ true → q y ≡ true) ys
        met [] i l = tt
        met (y ∷ ys) i l = (λ j. h y.number y i.0 j, met ys i.1 l)

    pub reached-part : (axis : Axis) (test : Test) → AllMet axis test → reached axis test all n ≡ reached axis test (filter q all) n
    reached-part axis test h =
        ap (λ m. numbers_of (filter (λ y. meets axis test y.content) (axis_from axis all m))) whole.0
        ∙ in-proximity (λ y. meets axis test y.content) (is_reverse axis) (on_axis axis all x)
        ∙ ap (λ l. cond (is_reverse axis) (reverse (numbers_of l)) (numbers_of l)) (selected axis test h)
        ∙ sym (in-proximity (λ y. meets axis test y.content) (is_reverse axis) (on_axis axis (filter q all) x))
        ∙ ap (λ m. numbers_of (filter (λ y. meets axis test y.content) (axis_from axis (filter q all) m))) (sym e)

  -- ---- where `//` begins

  abbrev whole_from : ℕ → List ℕ
  whole_from n = reached DescendantOrSelf Node all n

  abbrev part_from : ℕ → List ℕ
  part_from n = reached DescendantOrSelf Node (filter q all) n

  has-both : (k : ℕ) (ns ms : List ℕ) → has k (ns ++ ms) ≡ (has k ns || has k ms)
  has-both k [] ms = refl
  has-both k (n ∷ ns) ms = ap (λ b. (k == n) || b) (has-both k ns ms) ∙ by (k == n)
    where
      by : (b : Bool) → (b || (has k ns || has k ms)) ≡ ((b || has k ns) || has k ms)
      by true = refl
      by false = refl

  has-kept : (p : Visit → Bool) (part : List Visit) → are_apart (numbers_of part) ≡ true → (k : ℕ) → has k (numbers_of (filter p part)) ≡ on p (found k part)
  has-kept p part a k = has-found k (filter p part) ∙ ap is_some (found-filter p k part a) ∙ by (found k part)
    where
      of : (z : Visit) (b : Bool) → is_some (cond b (Some z) None) ≡ b
      of z true = refl
      of z false = refl

      by : (m : Option Visit) → is_some (kept_if p m) ≡ on p m
      by None = refl
      by (Some z) = of z (p z)

  -- of a node of the part it is the same whether the others are there
  part-reached : (k : ℕ) (y : Visit) → found k (filter q all) ≡ Some y → (n : ℕ) (x : Visit) → found n (filter q all) ≡ Some x → has k (whole_from n) ≡ has k (part_from n)
  part-reached k y e n x i =
      ap (λ m. has k (numbers_of (filter (λ z. true) (axis_from DescendantOrSelf all m)))) (found-out q n all x apart i).0
      ∙ ap (λ l. has k (numbers_of l)) (sym (filter-and (λ (z : Visit). true) (is_on DescendantOrSelf x) all))
      ∙ has-kept (λ z. is_on DescendantOrSelf x z && true) all apart k
      ∙ ap (on (λ z. is_on DescendantOrSelf x z && true)) ((found-out q k all y apart e).0 ∙ sym e)
      ∙ sym (has-kept (λ z. is_on DescendantOrSelf x z && true) (filter q all) part-apart k)
      ∙ ap (λ l. has k (numbers_of l)) (filter-and (λ (z : Visit). true) (is_on DescendantOrSelf x) (filter q all))
      ∙ sym (ap (λ m. has k (numbers_of (filter (λ z. true) (axis_from DescendantOrSelf (filter q all) m)))) i)

  part-flat : (k : ℕ) (y : Visit) → found k (filter q all) ≡ Some y → (ns : List ℕ) → ((n : ℕ) → has n ns ≡ true → (x : Visit) × (found n (filter q all) ≡ Some x)) → has k (flat_map whole_from ns) ≡ has k (flat_map part_from ns)
  part-flat k y e [] h = refl
  part-flat k y e (n ∷ ns) h =
      has-both k (whole_from n) (flat_map whole_from ns)
      ∙ ap (λ b. b || has k (flat_map whole_from ns)) (let x = h n (or-left (n == n) (has n ns) (self-same n)) in part-reached k y e n x.0 x.1)
      ∙ ap (λ b. has k (part_from n) || b) (part-flat k y e ns (λ m i. h m (or-right (m == n) (has m ns) i)))
      ∙ sym (has-both k (part_from n) (flat_map part_from ns))

  abbrev pub in_part : ℕ → Bool
  in_part k = is_some (found k (filter q all))

  pub part-starts : (ns : List ℕ) → ((n : ℕ) → has n ns ≡ true → (x : Visit) × (found n (filter q all) ≡ Some x)) →
      filter in_part (begun_at true all ns) ≡ in_order (filter q all) (flat_map (reached DescendantOrSelf Node (filter q all)) ns)
  part-starts ns h =
      ap (filter in_part) (numbers-filter (λ x. has x.number (flat_map whole_from ns)) all apart)
      ∙ sym (filter-and in_part (λ k. on (λ x. has x.number (flat_map whole_from ns)) (found k all)) (numbers_of all))
      ∙ filter-same (λ k. on (λ x. has x.number (flat_map whole_from ns)) (found k all) && in_part k) (λ k. on (λ x. q x && has x.number (flat_map part_from ns)) (found k all)) (λ k. by k (found k all) refl) (numbers_of all)
      ∙ sym (numbers-filter (λ x. q x && has x.number (flat_map part_from ns)) all apart)
      ∙ ap numbers_of (filter-and (λ x. has x.number (flat_map part_from ns)) q all)
    where
      of : (k : ℕ) (y : Visit) (b : Bool) → found k all ≡ Some y → q y ≡ b → (has y.number (flat_map whole_from ns) && is_some (cond b (Some y) None)) ≡ (b && has y.number (flat_map part_from ns))
      of k y true e i =
          ap (λ m. has m (flat_map whole_from ns) && true) (found-number k all y e)
          ∙ ap (λ c. c && true) (part-flat k y (found-in q k all y apart e i) ns h)
          ∙ and-one (has k (flat_map part_from ns))
          ∙ ap (λ m. has m (flat_map part_from ns)) (sym (found-number k all y e))
        where
          and-one : (c : Bool) → (c && true) ≡ c
          and-one true = refl
          and-one false = refl
      of k y false e i = and-none (has y.number (flat_map whole_from ns))
        where
          and-none : (c : Bool) → (c && false) ≡ false
          and-none true = refl
          and-none false = refl

      by : (k : ℕ) (m : Option Visit) → found k all ≡ m → (on (λ x. has x.number (flat_map whole_from ns)) m && in_part k) ≡ on (λ x. q x && has x.number (flat_map part_from ns)) m
      by k None e = refl
      by k (Some y) e =
          ap (λ o. has y.number (flat_map whole_from ns) && is_some o) (found-filter q k all apart ∙ ap (kept_if q) e)
          ∙ of k y (q y) e refl
