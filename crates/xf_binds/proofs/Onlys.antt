-- The one entry that is the same attribute of the same bind for the same node.
use Rattle.std.proofs.Common.{◌≡◌, ℕ, zero, suc, Bool, true, false, cond, ◌&&◌, ◌||◌, List, [], ◌∷◌, map, get_or, Option, Some, None, slice_get, ◌==◌, refl, sym, ap, ◌∙◌, subst, arith}
use Rattle.std.specs.Prelude.{filter}
use Rattle.std.specs.List.{list_any}
use Rattle.std.proofs.lemmas.Bool.{eqb-true}
use Rattle.std.proofs.lemmas.Bool.Decides.{nat_tests}
use Rattle.xf_def_model.specs.Applied as applied
use Rattle.xf_def_model.specs.Applied.{is_property}
use Rattle.xf_def_model.specs.Entries.{is_computed}
use Rattle.xf_def_model.specs.Pertinent.{is_same}
use Rattle.xf_def_model.specs.Settled.{Valued}
use Rattle.xf_binds.specs.declared.entry.Item.{Item}
use Rattle.xf_binds.specs.Held.{Held, IsOnly, entries_in, entry_of, held_of, held_on, holds, is_seat, passes}
use Rattle.xf_binds.specs.Kept.{entries_of, valued_in, valued_of}
use Rattle.xf_binds.specs.declared.kept.Since.{Since}
use Rattle.xf_binds.specs.Since.{stood_since}
use Rattle.xf_binds.proofs.Finds.{false-true}
use Rattle.xf_binds.proofs.Items.{item-there, seat-there}
use Rattle.xf_binds.proofs.Places.{and-first, same-on}
use Rattle.xf_binds.proofs.Truths.{computed-held}

any-none : (q : applied.Entry → Bool) (held : List Held) → ((i : ℕ) (x : Held) → slice_get held i ≡ Some x → q x.entry ≡ false) → list_any q (entries_in held) ≡ false
any-none q [] h = refl
any-none q (x ∷ xs) h = ap (λ b. b || list_any q (entries_in xs)) (h 0 x refl) ∙ any-none q xs (λ i y e. h (suc i) y e)

or-none : (b : Bool) → (b || false) ≡ b
or-none true = refl
or-none false = refl

any-one : (q : applied.Entry → Bool) (held : List Held) (j : ℕ) (x : Held) → slice_get held j ≡ Some x → ((i : ℕ) (y : Held) → slice_get held i ≡ Some y → q y.entry ≡ true → j ≡ i)
    → list_any q (entries_in held) ≡ q x.entry
any-one q [] j x e h = cc e
any-one q (y ∷ ys) zero x e h =
    let same : y ≡ x = cc e in
    ap (λ b. q y.entry || b) (any-none q ys (λ i z g. not-later (q z.entry) (h (suc i) z g))) ∙ or-none (q y.entry) ∙ ap (λ (w : Held). q w.entry) same
  where
    not-later : {i : ℕ} (b : Bool) → (b ≡ true → zero ≡ suc i) → b ≡ false
    not-later true g = cc (g refl)
    not-later false g = refl
any-one q (y ∷ ys) (suc j) x e h =
    ap (λ b. b || list_any q (entries_in ys)) (not-first (q y.entry) (h 0 y refl)) ∙ any-one q ys j x e (λ i z g k. suc-same (h (suc i) z g k))
  where
    not-first : (b : Bool) → (b ≡ true → suc j ≡ zero) → b ≡ false
    not-first true g = cc (g refl)
    not-first false g = refl

    suc-same : {a b : ℕ} → suc a ≡ suc b → a ≡ b
    suc-same e = cc e

module _ (e : applied.Entry) (held : List Held) (seat : Option ℕ) (seated : (i : ℕ) → is_seat seat i ≡ passes (held_on e.node e.property) (slice_get held i)) where
  on-same : (test : applied.Entry → Bool) (x : Held) → (is_same e x.entry && test x.entry) ≡ true → held_on e.node e.property x ≡ true
  on-same test x h = and-first (held_on e.node e.property x) (e.bind == x.entry.bind) (sym (same-on e x) ∙ and-first (is_same e x.entry) (test x.entry) h)

  seat-on : (i : ℕ) (x : Held) → slice_get held i ≡ Some x → held_on e.node e.property x ≡ true → is_seat seat i ≡ true
  seat-on i x g h = seated i ∙ ap (passes (held_on e.node e.property)) g ∙ h

  pub only-none : seat ≡ None → IsOnly (entries_in held) e None
  only-none none = λ test. any-none (λ old. is_same e old && test old) held (λ i x g. by test i x g (is_same e x.entry && test x.entry) refl)
    where
      by : (test : applied.Entry → Bool) (i : ℕ) (x : Held) → slice_get held i ≡ Some x → (b : Bool) → (is_same e x.entry && test x.entry) ≡ b → b ≡ false
      by test i x g true h = false-true (ap (λ s. is_seat s i) (sym none) ∙ seat-on i x g (on-same test x h))
      by test i x g false h = refl

  module _ (j : ℕ) (x : Held) (some : seat ≡ Some j) (is : slice_get held j ≡ Some x) where
    one : (test : applied.Entry → Bool) → list_any (λ old. is_same e old && test old) (entries_in held) ≡ (is_same e x.entry && test x.entry)
    one test = any-one (λ old. is_same e old && test old) held j x is (λ i y g h. eqb-true j i (ap (λ s. is_seat s i) (sym some) ∙ seat-on i y g (on-same test y h)))

    self-seat : is_seat seat j ≡ true
    self-seat = ap (λ s. is_seat s j) some ∙ (let s : (j == j) ≡ true = grind (arith, nat_tests) in s)

    same-is : is_same e x.entry ≡ (e.bind == x.entry.bind)
    same-is = same-on e x ∙ ap (λ b. b && (e.bind == x.entry.bind)) (ap (passes (held_on e.node e.property)) (sym is) ∙ sym (seated j) ∙ self-seat)

    pub only-then : (e.bind == x.entry.bind) ≡ true → IsOnly (entries_in held) e (Some x.entry)
    only-then bind = λ test. one test ∙ ap (λ b. b && test x.entry) (same-is ∙ bind)

    pub only-else : (e.bind == x.entry.bind) ≡ false → IsOnly (entries_in held) e None
    only-else bind = λ test. one test ∙ ap (λ b. b && test x.entry) (same-is ∙ bind)

-- ---- of items

pub item-then : (items : List Item) (held : List Held) (e : applied.Entry) (seat : Option ℕ) (j : ℕ) (item : Item) → holds items ≡ held
    → ((i : ℕ) → is_seat seat i ≡ passes (held_on e.node e.property) (slice_get held i)) → seat ≡ Some j → item ≡ get_or items j item → (e.bind == item.entry.bind) ≡ true
    → IsOnly (entries_in held) e (Some (entry_of item.entry))
item-then items held e seat j item view h some is bind =
    only-then e held seat h j (held_of item) some (item-there items held j item view (seat-there items held e.node e.property seat j view h some) is) bind

pub item-else : (items : List Item) (held : List Held) (e : applied.Entry) (seat : Option ℕ) (j : ℕ) (item : Item) → holds items ≡ held
    → ((i : ℕ) → is_seat seat i ≡ passes (held_on e.node e.property) (slice_get held i)) → seat ≡ Some j → item ≡ get_or items j item → (e.bind == item.entry.bind) ≡ false
    → IsOnly (entries_in held) e None
item-else items held e seat j item view h some is bind =
    only-else e held seat h j (held_of item) some (item-there items held j item view (seat-there items held e.node e.property seat j view h some) is) bind

-- ---- those that stood

-- an entry like a computed one is computed
pub stood-any : (e : applied.Entry) (test : applied.Entry → Bool) → is_computed e ≡ true → (held : List Held) → list_any (λ old. is_same e old && test old) (entries_of (valued_in held)) ≡ list_any (λ old. is_same e old && test old) (entries_in held)
stood-any e test c [] = refl
stood-any e test c (x ∷ xs) = by (is_computed x.entry) refl (stood-any e test c xs)
  where
    not-same : (b : Bool) → is_computed x.entry ≡ false → is_same e x.entry ≡ b → (b && test x.entry) ≡ false
    not-same true n s = false-true (sym n ∙ computed-held e x c s)
    not-same false n s = refl

    by : (b : Bool) → is_computed x.entry ≡ b → list_any (λ old. is_same e old && test old) (entries_of (valued_in xs)) ≡ list_any (λ old. is_same e old && test old) (entries_in xs)
        → list_any (λ old. is_same e old && test old) (entries_of (map valued_of (cond b (x ∷ filter (λ h. is_computed h.entry) xs) (filter (λ h. is_computed h.entry) xs))))
        ≡ ((is_same e x.entry && test x.entry) || list_any (λ old. is_same e old && test old) (entries_in xs))
    by true n rest = ap (λ b. (is_same e x.entry && test x.entry) || b) rest
    by false n rest = rest ∙ ap (λ b. b || list_any (λ old. is_same e old && test old) (entries_in xs)) (sym (not-same (is_same e x.entry) n refl))

pub only-stood : (e : applied.Entry) (held : List Held) (found : Option applied.Entry) → is_computed e ≡ true → IsOnly (entries_in held) e found → IsOnly (entries_of (valued_in held)) e found
only-stood e held found c only = λ test. stood-any e test c held ∙ only test

pub only-since : (stood : List Valued) (present : List Held) (old : Option (List Held)) (since : Since) (held : List Held) (e : applied.Entry) (found : Option applied.Entry)
    → valued_in (stood_since present old since) ≡ stood → entries_in (stood_since present old since) ≡ entries_in held → is_computed e ≡ true → IsOnly (entries_in held) e found
    → IsOnly (entries_of stood) e found
only-since stood present old since held e found view same c only =
    subst (λ vs. IsOnly (entries_of vs) e found) view
    (only-stood e (stood_since present old since) found c (subst (λ es. IsOnly es e found) (sym same) only))
