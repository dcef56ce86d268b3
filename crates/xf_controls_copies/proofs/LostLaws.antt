-- Where nothing is shown there is no copy; and where what is around is too long, so is what is shown.
use Rattle.std.proofs.Common.{◌≡◌, ℕ, zero, suc, ◌+◌, ◌≤◌, Bool, true, false, ◌||◌, List, [], ◌∷◌, length, Option, Some, None, option_map, refl, ap, ◌∙◌, arith}
use Rattle.std.specs.List.{flat_map}
use Rattle.xf_def_syntax.specs.declared.element.Part.{Part}
use Rattle.xf_def_syntax.specs.declared.element.Part.TheVariants as part
use Rattle.xf_def_syntax.specs.Ordered.{child_in}
use Rattle.xf_def_xpath.specs.Setting.{◌>>=◌}
use Rattle.xf_def_ui.specs.declared.answers.Item.{Item}
use Rattle.xf_def_ui.specs.declared.marks.Marks.{Marks}
use Rattle.xf_def_ui.specs.Interface.{Interface}
use Rattle.xf_def_ui.specs.Elements.{element_at, ancestors, is_control}
use Rattle.xf_def_ui.specs.Around.{Around}
use Rattle.xf_def_ui.specs.Context.{Context, context_in, enter, inside}
use Rattle.xf_def_ui.specs.Copies.{Copy, copy_with, is_enabled, items_if, marks_if, node_of, own_binding, value_by}
use Rattle.xf_controls.specs.Below.{shows, some_shown}
use Rattle.xf_controls.proofs.BelowLaws.{EachChild, Parents, copy_at, deeper, each-child}
use Rattle.xf_controls.proofs.OptionLaws.{after}
use Rattle.xf_controls.proofs.PathLaws.{ancestors-child, inside-child}
use Rattle.xf_controls_copies.specs.Made.{all_of}
use Rattle.xf_controls_copies.proofs.GatherLaws.{after-lost, below, below-control, below-other, first, inner}

-- ---- where nothing is shown

or-left : (x y : Bool) → (x || y) ≡ false → x ≡ false
or-left true y h = h
or-left false y h = refl

or-right : (x y : Bool) → (x || y) ≡ false → y ≡ false
or-right true y h = cc h
or-right false y h = h

none-among : (further : ℕ → Bool) (copies : ℕ → Option (List Copy)) → ((n : ℕ) → further n ≡ false → copies n ≡ Some []) → (ps : List Part) → some_shown further ps ≡ false → all_of copies (flat_map child_in ps) ≡ Some []
none-among further copies h [] e = refl
none-among further copies h (part.Text text ∷ ps) e = none-among further copies h ps e
none-among further copies h (part.Element n ∷ ps) e =
    ap (λ m. after m (all_of copies (flat_map child_in ps))) (h n (or-left (further n) (some_shown further ps) e))
    ∙ ap (after (Some [])) (none-among further copies h ps (or-right (further n) (some_shown further ps) e))

pub none-shown : (f : Interface) (a : Around) (made : ℕ × List ℕ → Option Copy) (rows : List ℕ) (most n : ℕ) → shows most f n ≡ false → below made f a most rows n ≡ Some []
none-shown f a made rows zero n h = refl
none-shown f a made rows (suc most) n h =
    let e = element_at f n in
    below-other made f a most rows n (or-left (is_control e.sort) (some_shown (shows most f) e.parts) h)
    ∙ none-among (shows most f) (below made f a most rows) (none-shown f a made rows most) e.parts (or-right (is_control e.sort) (some_shown (shows most f) e.parts) h)

-- ---- where what is around is too long

pub or-second : (x y : Bool) → x ≡ false → (x || y) ≡ true → y ≡ true
or-second true y h e = cc h
or-second false y h e = e

pub lost-among : (copies : ℕ → Option (List Copy)) (further : ℕ → Bool) (ps : List Part) → EachChild (λ m. further m ≡ true → copies m ≡ None) ps → some_shown further ps ≡ true
    → all_of copies (flat_map child_in ps) ≡ None
lost-among copies further [] e h = cc h
lost-among copies further (part.Text text ∷ ps) e h = lost-among copies further ps e h
lost-among copies further (part.Element n ∷ ps) e h = by (lost-among copies further ps e.1) (further n) refl
  where
    by : (some_shown further ps ≡ true → all_of copies (flat_map child_in ps) ≡ None) → (b : Bool) → further n ≡ b → after (copies n) (all_of copies (flat_map child_in ps)) ≡ None
    by rest true s = ap (λ m. after m (all_of copies (flat_map child_in ps))) (e.0 s)
    by rest false s = ap (after (copies n)) (rest (or-second (further n) (some_shown further ps) s h)) ∙ after-lost (copies n)

module _ (f : Interface) (a : Around) (marks : ℕ → Marks) (cases : List ℕ) (parents : Parents f) where
  copy-out : (rows : List ℕ) (n : ℕ) → inside f a rows n ≡ None → copy_at f a marks cases (n, rows) ≡ None
  copy-out rows n lost =
      let e = element_at f n in
      let copy : Option ℕ → Option (List ℕ) → Bool → List Item → Copy = λ k text enabled items. copy_with n rows k text enabled (marks_if marks k) items in
      ap (λ s. option_map (λ t. context_in f a t e) s >>= λ (d : Context). node_of f a rows n >>= λ k. value_by a d (own_binding e e.sort) e.sort k >>= λ text. is_enabled f a marks cases rows n >>= λ b. items_if f a rows n e.sort >>= λ items. Some (copy k text b items)) lost

  -- below an element in which nothing can be evaluated
  abbrev Lost : ℕ → Type 0
  Lost most =
      (rows : List ℕ) (n : ℕ) → inside f a rows n ≡ None → length (ancestors f n) + most ≤ length f.elements → shows most f n ≡ true → below (copy_at f a marks cases) f a most rows n ≡ None

  lost-more : (most : ℕ) → Lost most → Lost (suc most)
  lost-more most further rows n lost deep shown = by (is_control (element_at f n).sort) refl
    where
      child : (m : ℕ) → (element_at f m).parent ≡ Some n → shows most f m ≡ true → below (copy_at f a marks cases) f a most rows m ≡ None
      child m e s =
          let way = ancestors-child f n m e (omega (arith, deep)) in
          further rows m (inside-child f a rows n m way ∙ ap (λ t. t >>= λ x. enter f a x (element_at f n)) lost) (deeper f n m most way deep) s

      by : (b : Bool) → is_control (element_at f n).sort ≡ b → below (copy_at f a marks cases) f a (suc most) rows n ≡ None
      by true c =
          below-control (copy_at f a marks cases) f a most rows n c
          ∙ ap (λ own. first (copy_at f a marks cases) own (inner (copy_at f a marks cases) f a most rows n (element_at f n).sort)) (copy-out rows n lost)
      by false c =
          below-other (copy_at f a marks cases) f a most rows n c
          ∙ lost-among (below (copy_at f a marks cases) f a most rows) (shows most f) (element_at f n).parts
          (each-child (λ m. (element_at f m).parent ≡ Some n) (λ m. shows most f m ≡ true → below (copy_at f a marks cases) f a most rows m ≡ None) child (element_at f n).parts (parents n))
          (or-second (is_control (element_at f n).sort) (some_shown (shows most f) (element_at f n).parts) c shown)

  pub lost-below : (most : ℕ) → Lost most
  lost-below zero rows n lost deep shown = cc shown
  lost-below (suc most) rows n lost deep shown = lost-more most (lost-below most) rows n lost deep shown
