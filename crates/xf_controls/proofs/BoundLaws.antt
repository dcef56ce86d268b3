-- What is known of each element, one element after the other.
use Rattle.std.proofs.Common.{◌≡◌, ℕ, zero, suc, ◌+◌, ◌<◌, ◌≤◌, true, false, List, [], ◌∷◌, length, get_or, Option, Some, None, refl, sym, ap, ◌∙◌, subst, inl, inr, arith}
use Rattle.std.specs.Prelude.{slice_get, ◌⊎◌}
use Rattle.xf_def_syntax.specs.declared.element.Element as written
use Rattle.xf_def_syntax.specs.declared.form.Form.{Form}
use Rattle.xf_def_ui.specs.Interface.{Element, element_of, interface_of, sort_of}
use Rattle.xf_def_ui.specs.Elements.{element_at, is_control}
use Rattle.xf_controls.specs.declared.known.Known.{Known}
use Rattle.xf_controls.specs.Bound.{AllBound, IsBoundAt, IsShownBy}
use Rattle.xf_controls.specs.Handed.{printed_in}
use Rattle.xf_controls.specs.Known.{known_if}
use Rattle.xf_controls.proofs.CodeLaws.{no-element, this-element}

-- of the elements before this one
abbrev pub BoundBelow : Form → List Known → ℕ → Type 0
BoundBelow form known at = (n : ℕ) → n < at → is_control (element_at (interface_of form) n).sort ≡ true → IsBoundAt (interface_of form) known n

less-or-same : (n at : ℕ) → n < at + 1 → (n < at) ⊎ (n ≡ at)
less-or-same zero zero h = inr refl
less-or-same zero (suc at) h = inl (omega arith)
less-or-same (suc n) zero h = absurd (omega (arith, h))
less-or-same (suc n) (suc at) h = elim (less-or-same n at (omega (arith, h))) [ inl l ↦ inl (omega (arith, l)) | inr e ↦ inr (ap suc e) ]

less-or-past : (n size : ℕ) → (n < size) ⊎ (size ≤ n)
less-or-past n zero = inr (omega arith)
less-or-past zero (suc size) = inl (omega arith)
less-or-past (suc n) (suc size) = elim (less-or-past n size) [ inl l ↦ inl (omega (arith, l)) | inr l ↦ inr (omega (arith, l)) ]

get-this : {X : Type 0} (xs : List X) (i : ℕ) (x : X) → i < length xs → x ≡ get_or xs i x → Some x ≡ slice_get xs i
get-this [] i x l e = absurd (omega (arith, l))
get-this (y ∷ xs) zero x l e = ap Some e
get-this (y ∷ xs) (suc i) x l e = get-this xs i x (omega (arith, l)) e

get-past : {X : Type 0} (xs : List X) (i : ℕ) → length xs ≤ i → None ≡ slice_get xs i
get-past [] i l = refl
get-past (y ∷ xs) zero l = absurd (omega (arith, l))
get-past (y ∷ xs) (suc i) l = get-past xs i (omega (arith, l))

pub bound-more : (form : Form) (known : List Known) (at : ℕ) (es : List written.Element) (e : written.Element) (k : Option Known) → es ≡ form.elements → k ≡ slice_get known at → at < length es → e ≡ get_or es at e
    → (is_control (sort_of e.kind) ≡ true → IsShownBy (sort_of e.kind) k) → BoundBelow form known at → BoundBelow form known (at + 1)
bound-more form known at es e k all asked l is shown below n less control = elim (less-or-same n at less) [ inl l ↦ below n l control | inr same ↦ here same control ]
  where
    here : n ≡ at → is_control (element_at (interface_of form) n).sort ≡ true → IsBoundAt (interface_of form) known n
    here same c =
        let stands : element_at (interface_of form) n ≡ element_of form.tables e = ap (element_at (interface_of form)) same ∙ this-element form at e (get-this es at e l is ∙ ap (λ l. slice_get l at) all) in
        let by = shown (sym (ap (λ (x : Element). is_control x.sort) stands) ∙ c) in
        record { node = by.node; known_so = ap (λ j. known_if (slice_get known j)) same ∙ ap known_if (sym asked) ∙ by.known_so; unprinted = λ none. ap (λ (x : Element). printed_in x.sort) stands ∙ by.unprinted none }

pub bound-all : (form : Form) (known : List Known) (at : ℕ) (es : List written.Element) → es ≡ form.elements → length es ≤ at → BoundBelow form known at → AllBound (interface_of form) known
bound-all form known at es all long below n control = let l : length form.elements ≤ at = subst (λ xs. length xs ≤ at) all long in elim (less-or-past n (length form.elements)) [ inl less ↦ below n (omega (arith, less, l)) control | inr past ↦ none past ]
  where
    none : length form.elements ≤ n → IsBoundAt (interface_of form) known n
    none past = let no : true ≡ false = sym control ∙ ap (λ (x : Element). is_control x.sort) (no-element form n (get-past form.elements n past)) in cc no

pub bound-first : (form : Form) (known : List Known) (at : ℕ) → at ≡ 0 → BoundBelow form known at
bound-first form known at e n less control = absurd (omega (arith, less, e))

-- one element at which it is not so is enough
pub bound-other : (form : Form) (known : List Known) (at : ℕ) (es : List written.Element) (e : written.Element) (k : Option Known) → es ≡ form.elements → k ≡ slice_get known at → at < length es → e ≡ get_or es at e
    → ((is_control (sort_of e.kind) ≡ true → IsShownBy (sort_of e.kind) k) → ⊥) → AllBound (interface_of form) known → ⊥
bound-other form known at es e k all asked l is other bound = other (λ control. here (bound at (ap (λ (x : Element). is_control x.sort) stands ∙ control)))
  where
    stands : element_at (interface_of form) at ≡ element_of form.tables e
    stands = this-element form at e (get-this es at e l is ∙ ap (λ l. slice_get l at) all)

    here : IsBoundAt (interface_of form) known at → IsShownBy (sort_of e.kind) k
    here b = record { node = b.node; known_so = ap known_if asked ∙ b.known_so; unprinted = λ none. sym (ap (λ (x : Element). printed_in x.sort) stands) ∙ b.unprinted none }
