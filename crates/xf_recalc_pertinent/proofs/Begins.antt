-- The entries that a change concerns by itself, marked one by one.
use Rattle.std.proofs.Common.{◌≡◌, ℕ, zero, suc, ◌+◌, ◌<◌, ◌≤◌, ◌==◌, nat_lt, Bool, true, false, not, ◌&&◌, ◌||◌, List, [], ◌∷◌, ◌++◌, length, Some, None, slice_get, refl, sym, ap, ◌∙◌, subst, arith}
use Rattle.std.specs.List.{list_any}
use Rattle.std.proofs.lemmas.Bool.{eqb-true, false≢true}
use Rattle.std.proofs.lemmas.Bool.Decides.{nat_tests}
use Rattle.xf_def_model.specs.Rules.{Rule}
use Rattle.xf_def_forest.specs.Visit.{has}
use Rattle.xf_def_model.specs.Applied.{Entry, is_calculate}
use Rattle.xf_def_model.specs.Entries.{is_computed}
use Rattle.xf_def_model.specs.Pertinent.{stands_as}
use Rattle.xf_binds.specs.Kept.{Kept, entries_of}
use Rattle.xf_recalc_pertinent.specs.OfTable.{changes_in}
use Rattle.xf_recalc_pertinent.specs.Places.{asks_at, is_marked}
use Rattle.xf_recalc_pertinent.specs.Begun.{AreBegun, asking_with, is_begun_at, is_begun_by, is_begun_in}

-- those before a place
pub record AreBegunTo (rules : List Rule) (kept : Kept) (marks : List Bool) (place : ℕ) : Type 0 where
  pub size : length marks ≡ place
  pub each : (at : ℕ) → at < place → is_marked marks at ≡ is_begun_at rules kept at

marked-first : (marks : List Bool) (m : Bool) (at : ℕ) → at < length marks → is_marked (marks ++ m ∷ []) at ≡ is_marked marks at
marked-first [] m at l = absurd (omega arith)
marked-first (x ∷ xs) m zero l = refl
marked-first (x ∷ xs) m (suc at) l = marked-first xs m at (omega arith)

marked-last : (marks : List Bool) (m : Bool) → is_marked (marks ++ m ∷ []) (length marks) ≡ m
marked-last [] m = refl
marked-last (x ∷ xs) m = marked-last xs m

longer : (marks : List Bool) (m : Bool) → length (marks ++ m ∷ []) ≡ length marks + 1
longer [] m = omega arith
longer (x ∷ xs) m = (let e = longer xs m in omega (arith, e))

module _ (rules : List Rule) (kept : Kept) where
  pub begun-first : AreBegunTo rules kept [] 0
  begun-first = record { size = refl; each = λ at l. absurd (omega (arith, l)) }

  pub begun-next : (marks new : List Bool) (place : ℕ) (m : Bool) → AreBegunTo rules kept marks place → m ≡ is_begun_at rules kept place → new ≡ marks ++ m ∷ [] → AreBegunTo rules kept new (place + 1)
  begun-next marks new place m so is more = record {
    size = ap length more ∙ longer marks m ∙ ap (λ n. n + 1) so.size;
    each = λ at l. ap (λ ms. is_marked ms at) more ∙ by at (at == place) refl l;
  }
    where
      by : (at : ℕ) (b : Bool) → (at == place) ≡ b → at < place + 1 → is_marked (marks ++ m ∷ []) at ≡ is_begun_at rules kept at
      by at true e l =
          let same : at ≡ place = eqb-true at place e in
          ap (is_marked (marks ++ m ∷ [])) (same ∙ sym so.size) ∙ marked-last marks m ∙ is ∙ ap (is_begun_at rules kept) (sym same)
      by at false e l =
          let less : at < place = grind (arith, nat_tests, e, l) in
          marked-first marks m at (subst (λ n. at < n) (sym so.size) less) ∙ so.each at less

  past : (entries : List Entry) (at : ℕ) → length entries ≤ at → slice_get entries at ≡ None
  past [] at l = refl
  past (e ∷ es) zero l = absurd (omega arith)
  past (e ∷ es) (suc at) l = past es at (omega arith)

  unmarked : (marks : List Bool) (at : ℕ) → length marks ≤ at → is_marked marks at ≡ false
  unmarked [] at l = refl
  unmarked (m ∷ ms) zero l = absurd (omega arith)
  unmarked (m ∷ ms) (suc at) l = unmarked ms at (omega arith)

  pub begun-all : (marks : List Bool) (place : ℕ) → AreBegunTo rules kept marks place → place ≡ length kept.entries → AreBegun rules kept marks
  begun-all marks place so whole = record { size = so.size ∙ whole; each = λ at. by at (nat_lt at place) refl }
    where
      by : (at : ℕ) (b : Bool) → nat_lt at place ≡ b → is_marked marks at ≡ is_begun_at rules kept at
      by at true e = so.each at (let l : at < place = grind (arith, nat_tests, e) in l)
      by at false e =
          let high : place ≤ at = grind (arith, nat_tests, e) in
          unmarked marks at (let s = so.size in omega (arith, s, high))
          ∙ ap (λ o. is_begun_in rules (changes_in kept) o (asks_at kept.asks at)) (sym (past kept.entries at (omega (arith, whole, high))))

-- ---- one entry

module _ (rules : List Rule) (kept : Kept) (place : ℕ) (e : Entry) (here : slice_get kept.entries place ≡ Some e) (computed : is_computed e ≡ true) where
  abbrev stands : Bool
  stands = list_any (stands_as (asking_with rules e (asks_at kept.asks place))) (entries_of kept.stood)

  abbrev looks : Bool
  looks = list_any (λ n. has n kept.lists) (asks_at kept.asks place).looks

  begun-is : is_begun_at rules kept place ≡ ((not stands || (is_calculate e && has e.node kept.texts)) || looks)
  begun-is =
      ap (λ o. is_begun_in rules (changes_in kept) o (asks_at kept.asks place)) here
      ∙ ap (λ b. b && is_begun_by rules (changes_in kept) e (asks_at kept.asks place)) computed

  pub begun-new : stands ≡ false → true ≡ is_begun_at rules kept place
  begun-new s = sym (begun-is ∙ ap (λ b. (not b || (is_calculate e && has e.node kept.texts)) || looks) s)

  pub begun-calculate : is_calculate e ≡ true → has e.node kept.texts ≡ true → true ≡ is_begun_at rules kept place
  begun-calculate c t = sym (begun-is ∙ by (not stands) (is_calculate e) (has e.node kept.texts) looks c t)
    where
      by : (a b c d : Bool) → b ≡ true → c ≡ true → ((a || (b && c)) || d) ≡ true
      by true b c d h k = refl
      by false true true d h k = refl
      by false true false d h k = absurd (false≢true k)
      by false false c d h k = absurd (false≢true h)

  pub begun-looks : stands ≡ true → (is_calculate e && has e.node kept.texts) ≡ false → looks ≡ is_begun_at rules kept place
  begun-looks s c =
      sym (begun-is ∙ ap (λ b. (not b || (is_calculate e && has e.node kept.texts)) || looks) s ∙ ap (λ b. b || looks) c)

pub and-never : (a b : Bool) → b ≡ false → (a && b) ≡ false
and-never true b h = h
and-never false b h = refl

pub or-some : (a b : Bool) → b ≡ true → b ≡ (a || b)
or-some true b h = h
or-some false b h = refl

pub or-never : (a b : Bool) → b ≡ false → a ≡ (a || b)
or-never true b h = refl
or-never false b h = sym h

pub any-none : (lists : List ℕ) → lists ≡ [] → (ns : List ℕ) → false ≡ list_any (λ n. has n lists) ns
any-none lists none [] = refl
any-none lists none (n ∷ ns) = any-none lists none ns ∙ ap (λ l. has n l || list_any (λ m. has m lists) ns) (sym none)
