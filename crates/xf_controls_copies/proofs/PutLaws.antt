-- Copies behind others: how what is too long in a part makes the whole too long, and a step of a loop.
use Rattle.std.proofs.Common.{◌≡◌, ◌⊎◌, ℕ, ◌+◌, ◌<◌, ◌≤◌, List, [], ◌∷◌, ◌++◌, length, drop, get_or, map, inl, inr, Bool, true, false, Option, Some, None, Result, Ok, Err, refl, sym, ap, ◌∙◌, subst, append_assoc}
use Rattle.std.proofs.lemmas.List.{append-nil, drop_all, drop_more, map-append}
use Rattle.xf_def_forest.specs.declared.node.NodeId.{NodeId}
use Rattle.xf_def_xpath.specs.declared.fault.EvalFault.{EvalFault}
use Rattle.xf_def_xpath.specs.declared.fault.EvalFault.TheVariants.{Long, Memory}
use Rattle.xf_def_ui.specs.Copies.{Copy}
use Rattle.xf_controls.proofs.OptionLaws.{after}
use Rattle.xf_controls.specs.Seen.{number, seen_copy}
use Rattle.xf_controls.specs.declared.copy.ControlCopy.{ControlCopy}
use Rattle.xf_controls_copies.specs.Made.{Puts, all_of, behind, if_control}

-- ---- faults

-- where a part is too long, so is the whole
pub puts-fault : {A : Type 0} (e : EvalFault) (old new : List Copy) (given : Option A) (whole : Option (List Copy)) → (given ≡ None → whole ≡ None) → (e ≡ Memory) ⊎ ((e ≡ Long) × (given ≡ None))
    → Puts {X = Unit {0}} (Err e) old new whole
puts-fault e old new given whole f (inl h) = subst (λ x. Puts {X = Unit {0}} (Err x) old new whole) (sym h) tt
puts-fault e old new given whole f (inr h) = subst (λ x. Puts {X = Unit {0}} (Err x) old new whole) (sym h.0) (f h.1)

-- memory ran out
pub puts-memory : (e : EvalFault) (old new : List Copy) (whole : Option (List Copy)) → e ≡ Memory → Puts {X = Unit {0}} (Err e) old new whole
puts-memory e old new whole h = subst (λ x. Puts {X = Unit {0}} (Err x) old new whole) (sym h) tt

-- where what is put behind is too long, so is the whole
pub puts-whole : (e : EvalFault) (first mid old new : List Copy) (given whole : Option (List Copy)) → (given ≡ None → whole ≡ None) → Puts {X = Unit {0}} (Err e) first mid given
    → Puts {X = Unit {0}} (Err e) old new whole
puts-whole Memory first mid old new given whole h j = tt
puts-whole Long first mid old new given whole h j = h j

-- the same, as a call that answers copies tells it
pub puts-bounded : (e : EvalFault) (first mid : List Copy) (given whole : Option (List Copy)) → (given ≡ None → whole ≡ None) → Puts {X = Unit {0}} (Err e) first mid given
    → (e ≡ Memory) ⊎ ((e ≡ Long) × (whole ≡ None))
puts-bounded Memory first mid given whole h j = inl refl
puts-bounded Long first mid given whole h j = inr (refl, h j)

-- ---- behind

pub after-none : {B : Type 0} (m : Option (List B)) → after m None ≡ None
after-none None = refl
after-none (Some xs) = refl

pub behind-end : (old : List Copy) → behind old (Some []) ≡ Some old
behind-end old = ap Some (append-nil old)

pub behind-lost : (old : List Copy) (o : Option (List Copy)) → behind old o ≡ None → o ≡ None
behind-lost old None e = refl
behind-lost old (Some more) e = cc e

-- none before it
pub behind-first : (o : Option (List Copy)) (new : List Copy) → behind [] o ≡ Some new → o ≡ Some new
behind-first None new e = e
behind-first (Some more) new e = e

-- a part came behind, and what follows it comes behind that
pub behind-after : (old new : List Copy) (one two : Option (List Copy)) → behind old one ≡ Some new → behind old (after one two) ≡ behind new two
behind-after old new None two e = cc e
behind-after old new (Some own) None e = refl
behind-after old new (Some own) (Some more) e =
    let same : old ++ own ≡ new = cc e in ap Some (sym (append_assoc old own more) ∙ ap (λ l. l ++ more) same)

-- a part came behind, and the rest is put behind that
pub puts-after : {X : Type 0} (r : Result X EvalFault) (old mid new : List Copy) (own more whole : Option (List Copy)) → whole ≡ after own more → behind old own ≡ Some mid → Puts r mid new more → Puts r old new whole
puts-after (Ok x) old mid new own more whole e h j = ap (behind old) e ∙ behind-after old mid own more h ∙ j
puts-after (Err Long) old mid new own more whole e h j = e ∙ ap (after own) j ∙ after-none own
puts-after (Err Memory) old mid new own more whole e h j = tt

pub puts-same : {X : Type 0} (r : Result X EvalFault) (old new : List Copy) (given whole : Option (List Copy)) → given ≡ whole → Puts r old new given → Puts r old new whole
puts-same r old new given whole e h = subst (Puts r old new) e h

-- ---- the copy of one element

pub own-none : (old : List Copy) (b : Bool) (o : Option Copy) → b ≡ false → behind old (if_control b o) ≡ Some old
own-none old b o e = ap (λ c. behind old (if_control c o)) e ∙ behind-end old

pub own-lost : (b : Bool) (o : Option Copy) → b ≡ true → o ≡ None → if_control b o ≡ None
own-lost b o e h = ap (λ c. if_control c o) e ∙ ap (if_control true) h

pub own-put : (old new : List ControlCopy) (copy : ControlCopy) (b : Bool) (o : Option Copy) → b ≡ true → o ≡ Some (seen_copy copy) → new ≡ old ++ copy ∷ []
    → behind (map seen_copy old) (if_control b o) ≡ Some (map seen_copy new)
own-put old new copy b o e h g =
    ap (λ c. behind (map seen_copy old) (if_control c o)) e ∙ ap (λ m. behind (map seen_copy old) (if_control true m)) h
    ∙ ap Some (sym (ap (map seen_copy) g ∙ map-append seen_copy old (copy ∷ [])))

-- ---- a loop

module _ {X : Type 0} (made : X → Option (List Copy)) where
  all-more : (xs : List X) (i : ℕ) (x : X) → i < length xs → x ≡ get_or xs i x → all_of made (drop i xs) ≡ after (made x) (all_of made (drop (i + 1) xs))
  all-more xs i x l is = ap (all_of made) (drop_more xs i x l) ∙ ap (λ y. all_of made (y ∷ drop (i + 1) xs)) (sym is)

  -- one came behind
  pub one-put : (xs : List X) (i : ℕ) (x : X) (now new : List Copy) → i < length xs → x ≡ get_or xs i x → behind now (made x) ≡ Some new
      → behind now (all_of made (drop i xs)) ≡ behind new (all_of made (drop (i + 1) xs))
  one-put xs i x now new l is h = ap (behind now) (all-more xs i x l is) ∙ behind-after now new (made x) (all_of made (drop (i + 1) xs)) h

  -- one is too long
  pub one-lost : (xs : List X) (i : ℕ) (x : X) → i < length xs → x ≡ get_or xs i x → made x ≡ None → all_of made (drop i xs) ≡ None
  one-lost xs i x l is h = all-more xs i x l is ∙ ap (λ m. after m (all_of made (drop (i + 1) xs))) h

  -- so of one that is told by its place
  pub put-at : (xs : List X) (i : ℕ) (d : X) (now new : List Copy) → i < length xs → behind now (made (get_or xs i d)) ≡ Some new
      → behind now (all_of made (drop i xs)) ≡ behind new (all_of made (drop (i + 1) xs))
  put-at xs i d now new l h = ap (λ ys. behind now (all_of made ys)) (drop_more xs i d l) ∙ behind-after now new (made (get_or xs i d)) (all_of made (drop (i + 1) xs)) h

  pub lost-at : (xs : List X) (i : ℕ) (d : X) → i < length xs → made (get_or xs i d) ≡ None → all_of made (drop i xs) ≡ None
  lost-at xs i d l h = ap (all_of made) (drop_more xs i d l) ∙ ap (λ m. after m (all_of made (drop (i + 1) xs))) h

  pub no-more : (xs : List X) (i : ℕ) (now : List Copy) → length xs ≤ i → behind now (all_of made (drop i xs)) ≡ Some now
  no-more xs i now l = ap (λ ys. behind now (all_of made ys)) (drop_all i xs l) ∙ behind-end now

-- by the numbers of nodes, or by the nodes
pub all-numbers : (made : ℕ → Option (List Copy)) (nodes : List NodeId) → all_of made (map number nodes) ≡ all_of (λ m. made m.number) nodes
all-numbers made [] = refl
all-numbers made (m ∷ ms) = ap (after (made m.number)) (all-numbers made ms)
