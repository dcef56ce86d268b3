-- A renumbering goes on through the numbers that an event may yet give: one number after the other changes places with the one that it is to
-- be, and with both the numbers that stand a whole count above them, as those of texts in shapes.
use Rattle.std.proofs.Common.{◌≡◌, ℕ, zero, suc, ◌+◌, ◌*◌, ◌/◌, ◌%◌, ◌^◌, ◌<◌, ◌==◌, true, false, refl, sym, ap, ◌∙◌, subst, inl, inr, arith}
use Rattle.std.specs.Prelude.{◌≤◌}
use Rattle.std.proofs.lemmas.Bool.{cases_Bool}
use Rattle.std.proofs.lemmas.Bool.Decides.{nat_tests}
use Rattle.std.proofs.lemmas.Nat.{div-mul-add, mod-mul-add, div-add-mod'}
use Rattle.std.proofs.Math.Nat.{mod-lt, mod-eq_of_lt, div-eq_of_lt, add-mod_left, add-div_left}
use Rattle.xf_def_forest.specs.Same.{IsRenumbering}
use Rattle.xf_law_forests.proofs.SettleLemmas.Renamed.{swap, swap-other}
use Rattle.xf_law_sessions.specs.Same.Going.{Extends}

-- ---- two numbers that change places

pub swap-first : (a b : ℕ) → swap a b a ≡ b
swap-first a b = let e : (a == a) ≡ true = grind (arith, nat_tests) in rw e refl

swap-twice : (a b m : ℕ) → swap a b (swap a b m) ≡ m
swap-twice a b m =
    elim (cases_Bool (m == a)) [
      | inl p ↦ elim (cases_Bool (b == a)) [
        | inl q ↦ let e : b ≡ m = grind (arith, nat_tests, p, q) in rw (p, q) e
        | inr q ↦ let k : (b == b) ≡ true = grind (arith, nat_tests) in let e : a ≡ m = grind (arith, nat_tests, p) in rw (p, q, k) e
      ]
      | inr p ↦ elim (cases_Bool (m == b)) [
        | inl q ↦ let k : (a == a) ≡ true = grind (arith, nat_tests) in let e : b ≡ m = grind (arith, nat_tests, q) in rw (p, q, k) e
        | inr q ↦ rw (p, q, p, q) refl
      ]
    ]

pub swap-below : (w a b m : ℕ) → a < w → b < w → m < w → swap a b m < w
swap-below w a b m h k l =
    elim (cases_Bool (m == a)) [
      | inl p ↦ rw p k
      | inr p ↦ elim (cases_Bool (m == b)) [ inl q ↦ rw (p, q) h | inr q ↦ rw (p, q) l ]
    ]

-- ---- with all that stand so many times above them

abbrev pub swapped : ℕ → ℕ → ℕ → ℕ → ℕ
swapped w a b n = n / w * w + swap a b (n % w)

module _ (w a b : ℕ) (some : 0 < w) (first : a < w) (second : b < w) where
  rest-below : (n : ℕ) → swap a b (n % w) < w
  rest-below n = swap-below w a b (n % w) first second (mod-lt n some)

  swapped-twice : (n : ℕ) → swapped w a b (swapped w a b n) ≡ n
  swapped-twice n =
      ap (λ q. q * w + swap a b (swapped w a b n % w)) (div-mul-add (n / w) w (swap a b (n % w)) (rest-below n))
      ∙ ap (λ m. n / w * w + swap a b m) (mod-mul-add (n / w) w (swap a b (n % w)) (rest-below n))
      ∙ ap (λ m. n / w * w + m) (swap-twice a b (n % w)) ∙ div-add-mod' n w

  pub swapped-low : (n : ℕ) → n < w → swapped w a b n ≡ swap a b n
  swapped-low n h =
      ap (λ q. q * w + swap a b (n % w)) (div-eq_of_lt h) ∙ ap (λ m. 0 * w + swap a b m) (mod-eq_of_lt h) ∙ none (swap a b n)
    where
      none : (m : ℕ) → 0 * w + m ≡ m
      none m = omega arith

  pub swapped-above : (n : ℕ) → swapped w a b (w + n) ≡ w + swapped w a b n
  swapped-above n =
      ap (λ q. q * w + swap a b ((w + n) % w)) (add-div_left n some) ∙ ap (λ m. (n / w + 1) * w + swap a b m) (add-mod_left w n)
      ∙ one (n / w * w) ((n / w + 1) * w) (swap a b (n % w)) (more-times (n / w))
    where
      more-times : (q : ℕ) → (q + 1) * w ≡ w + q * w
      more-times q = grind arith

      one : (x y m : ℕ) → y ≡ w + x → y + m ≡ w + (x + m)
      one x y m e = omega (arith, e)

  pub swapped-renumbers : IsRenumbering (swapped w a b)
  swapped-renumbers x y =
      elim (cases_Bool (x == y)) [
        | inl p ↦
            let e : x ≡ y = grind (arith, nat_tests, p) in
            let same : swapped w a b x ≡ swapped w a b y = ap (swapped w a b) e in
            let is : (swapped w a b x == swapped w a b y) ≡ true = equal (swapped w a b x) (swapped w a b y) same in is ∙ sym p
        | inr p ↦ elim (cases_Bool (swapped w a b x == swapped w a b y)) [
          | inl q ↦
              let same : swapped w a b x ≡ swapped w a b y = are-equal (swapped w a b x) (swapped w a b y) q in
              let e : x ≡ y = sym (swapped-twice x) ∙ ap (swapped w a b) same ∙ swapped-twice y in
              let no : ⊥ = grind (arith, nat_tests, p, e) in absurd no
          | inr q ↦ q ∙ sym p
        ]
      ]
    where
      equal : (m n : ℕ) → m ≡ n → (m == n) ≡ true
      equal m n e = grind (arith, nat_tests, e)

      are-equal : (m n : ℕ) → (m == n) ≡ true → m ≡ n
      are-equal m n e = grind (arith, nat_tests, e)

-- ---- one number more

record Goes (w : ℕ) (f : ℕ → ℕ) (first second count : ℕ) : Type 0 where
  pub by : ℕ → ℕ
  pub renumbers : IsRenumbering by
  pub above : (n : ℕ) → by (w + n) ≡ w + by n
  pub low : (n : ℕ) → n < w → by n < w
  pub continues : (k : ℕ) → k < count → by (first + k) ≡ second + k
  pub agrees : (n : ℕ) → n < first → by n ≡ f n

different : (m n : ℕ) → (m ≡ n → ⊥) → (m == n) ≡ false
different m n h = elim (cases_Bool (m == n)) [ inl p ↦ let e : m ≡ n = grind (arith, nat_tests, p) in absurd (h e) | inr p ↦ p ]

-- different numbers go over into different ones
apart : (f : ℕ → ℕ) → IsRenumbering f → (m n : ℕ) → (m ≡ n → ⊥) → (f m == f n) ≡ false
apart f same m n h = same m n ∙ different m n h

more : (w : ℕ) (f : ℕ → ℕ) (first second count : ℕ) → 0 < w → ((n : ℕ) → n < first → f n < second) → first + count < w → second + count < w
    → Goes w f first second count → Goes w f first second (suc count)
more w f first second count some below one two g = record {
  by = λ n. swapped w from to (g.by n);
  renumbers = λ x y. swapped-renumbers w from to some from-low two (g.by x) (g.by y) ∙ g.renumbers x y;
  above = λ n. ap (swapped w from to) (g.above n) ∙ swapped-above w from to some from-low two (g.by n);
  low = λ n h. subst (λ m. m < w) (sym (swapped-low w from to some from-low two (g.by n) (g.low n h))) (swap-below w from to (g.by n) from-low two (g.low n h));
  continues = λ k h. goes k h;
  agrees = λ n h.
      let is = g.agrees n h in
      let less : f n < second = below n h in
      let n-low : g.by n < w = subst (λ m. m < w) (sym is) (under (f n) less) in
      still (g.by n) n-low (apart g.by g.renumbers n (first + count) (λ e. earlier n e h)) (subst (λ m. (m == to) ≡ false) (sym is) (other (f n) less)) ∙ is;
}
  where
    from : ℕ
    from = g.by (first + count)

    to : ℕ
    to = second + count

    from-low : from < w
    from-low = g.low (first + count) one

    still : (m : ℕ) → m < w → (m == from) ≡ false → (m == to) ≡ false → swapped w from to m ≡ m
    still m h p q = swapped-low w from to some from-low two m h ∙ swap-other from to m p q

    under : (m : ℕ) → m < second → m < w
    under m h = omega (arith, h, two)

    other : (m : ℕ) → m < second → (m == to) ≡ false
    other m h = grind (arith, nat_tests, h)

    earlier : (n : ℕ) → n ≡ first + count → n < first → ⊥
    earlier n e h = omega (arith, e, h)

    before : (k : ℕ) → first + k ≡ first + count → k < count → ⊥
    before k e h = omega (arith, e, h)

    goes : (k : ℕ) → k < suc count → swapped w from to (g.by (first + k)) ≡ second + k
    goes k h =
        elim (cases_Bool (k == count)) [
          | inl p ↦
              let e : k ≡ count = grind (arith, nat_tests, p) in
              ap (λ m. swapped w from to (g.by (first + m))) e ∙ swapped-low w from to some from-low two from from-low ∙ swap-first from to ∙ ap (λ m. second + m) (sym e)
          | inr p ↦
              let less : k < count = grind (arith, nat_tests, p, h) in
              let is = g.continues k less in
              let low : second + k < w = omega (arith, less, two) in
              let not_to : (second + k == to) ≡ false = grind (arith, nat_tests, less) in
              let not_from : (second + k == from) ≡ false = subst (λ m. (m == from) ≡ false) is (apart g.by g.renumbers (first + k) (first + count) (λ e. before k e less)) in
              ap (swapped w from to) is ∙ still (second + k) low not_from not_to
        ]

goes-on : (w : ℕ) (f : ℕ → ℕ) (first second count : ℕ) → 0 < w → IsRenumbering f → ((n : ℕ) → f (w + n) ≡ w + f n) → ((n : ℕ) → n < w → f n < w)
    → ((n : ℕ) → n < first → f n < second) → first + count ≤ w → second + count ≤ w → Goes w f first second count
goes-on w f first second zero some same above low below one two =
    record { by = f; renumbers = same; above = above; low = low; continues = λ k h. let no : ⊥ = omega (arith, h) in absurd no; agrees = λ n h. refl }
goes-on w f first second (suc count) some same above low below one two =
    more w f first second count some below (omega (arith, one)) (omega (arith, two)) (goes-on w f first second count some same above low below (omega (arith, one)) (omega (arith, two)))

pub extends : Extends
extends p f first second m =
    let g = goes-on (2 ^ 128) f first second (suc p.made) (omega arith) m.renumbers m.keeps_texts m.low m.below (fits first m.first_fits) (fits second m.second_fits) in
    record {
      by = g.by;
      runs = record { renumbers = g.renumbers; keeps_texts = g.above; continues = λ k h. g.continues k (omega (arith, h)) };
      agrees = g.agrees;
    }
  where
    fits : (n : ℕ) → n + p.made < 2 ^ 128 → n + suc p.made ≤ 2 ^ 128
    fits n h = omega (arith, h)
