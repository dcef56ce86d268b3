-- The copies of all places are those of the places of each, one after the other.
use Rattle.std.proofs.Common.{◌≡◌, ℕ, suc, true, false, List, [], ◌∷◌, ◌++◌, Option, Some, None, option_map, refl, sym, ap, ◌∙◌}
use Rattle.std.specs.List.{flat_map}
use Rattle.xf_def_syntax.specs.declared.element.Part.{Part}
use Rattle.xf_def_syntax.specs.declared.element.Part.TheVariants as part
use Rattle.xf_def_syntax.specs.Ordered.{child_in}
use Rattle.xf_def_xpath.specs.Setting.{◌>>=◌, each}
use Rattle.xf_def_ui.specs.Interface.{Sort, Interface, repeated}
use Rattle.xf_def_ui.specs.Elements.{element_at, children, is_control}
use Rattle.xf_def_ui.specs.Around.{Around}
use Rattle.xf_def_ui.specs.Copies.{Copy}
use Rattle.xf_def_ui.specs.Places.{Places, all_places, if_control, places_at, places_by, places_in}
use Rattle.xf_def_ui.specs.Rows.{rows_of}
use Rattle.xf_controls.proofs.BelowLaws.{EachChild}
use Rattle.xf_controls.proofs.OptionLaws.{after, after-nothing, each-append}
use Rattle.xf_controls_copies.specs.Made.{all_of, of_part, of_parts}

-- ---- lists of what may be too long

pub after-lost : {B : Type 0} (m : Option (List B)) → after m None ≡ None
after-lost None = refl
after-lost (Some xs) = refl

pub all-same : (g k : ℕ → Option (List Copy)) → ((x : ℕ) → g x ≡ k x) → (xs : List ℕ) → all_of g xs ≡ all_of k xs
all-same g k h [] = refl
all-same g k h (x ∷ xs) = ap (λ m. after m (all_of g xs)) (h x) ∙ ap (after (k x)) (all-same g k h xs)

pub parts-are : (further below : ℕ → Option (List Copy)) (ps : List Part) → EachChild (λ m. further m ≡ below m) ps → of_parts further ps ≡ all_of below (flat_map child_in ps)
parts-are further below [] e = refl
parts-are further below (part.Text text ∷ ps) e = after-nothing (all_of (of_part further) ps) ∙ parts-are further below ps e
parts-are further below (part.Element n ∷ ps) e = ap (λ m. after m (all_of (of_part further) ps)) e.0 ∙ ap (after (below n)) (parts-are further below ps e.1)

-- ---- what is made of places

module _ (made : ℕ × List ℕ → Option Copy) where
  pub collect : (g : ℕ → Option Places) (xs : List ℕ) → (option_map all_places (each g xs) >>= each made) ≡ all_of (λ x. g x >>= each made) xs
  collect g [] = refl
  collect g (x ∷ xs) = by (g x) (each g xs) (collect g xs)
    where
      by : (p : Option Places) (ps : Option (List Places)) → (option_map all_places ps >>= each made) ≡ all_of (λ y. g y >>= each made) xs
          → (option_map all_places (p >>= λ y. ps >>= λ ys. Some (y ∷ ys)) >>= each made) ≡ after (p >>= each made) (all_of (λ y. g y >>= each made) xs)
      by None ps h = refl
      by (Some p) None h = sym (after-lost (each made p)) ∙ ap (after (each made p)) h
      by (Some p) (Some ps) h = each-append made p (all_places ps) ∙ ap (after (each made p)) h

  -- those of an element and of those in it
  abbrev pub below : Interface → Around → ℕ → List ℕ → ℕ → Option (List Copy)
  below f a most rows n = places_at most f a rows n >>= each made

  -- those in a control or container
  abbrev pub inner : Interface → Around → ℕ → List ℕ → ℕ → Sort → Option (List Copy)
  inner f a most rows n (repeated k start) = rows_of f a rows n >>= all_of (λ m. all_of (below f a most (rows ++ m ∷ [])) (children f n))
  inner f a most rows n sort = all_of (below f a most rows) (children f n)

  inner-is : (f : Interface) (a : Around) (most : ℕ) (rows : List ℕ) (n : ℕ) (sort : Sort) → (places_by f a (places_at most f a) rows n sort >>= each made) ≡ inner f a most rows n sort
  inner-is f a most rows n (repeated k start) = by (rows_of f a rows n)
    where
      by : (o : Option (List ℕ))
          → ((o >>= λ set. option_map all_places (each (λ m. places_in (places_at most f a) (children f n) (rows ++ m ∷ [])) set)) >>= each made)
          ≡ (o >>= all_of (λ m. all_of (below f a most (rows ++ m ∷ [])) (children f n)))
      by None = refl
      by (Some set) =
          collect (λ m. places_in (places_at most f a) (children f n) (rows ++ m ∷ [])) set
          ∙ all-same (λ m. places_in (places_at most f a) (children f n) (rows ++ m ∷ []) >>= each made) (λ m. all_of (below f a most (rows ++ m ∷ [])) (children f n))
          (λ m. collect (places_at most f a (rows ++ m ∷ [])) (children f n)) set
  inner-is f a most rows n sort = collect (places_at most f a rows) (children f n)

  -- that of the element itself before those in it
  abbrev pub first : Option Copy → Option (List Copy) → Option (List Copy)
  first own more = own >>= λ c. more >>= λ cs. Some (c ∷ cs)

  first-lost : (own : Option Copy) → first own None ≡ None
  first-lost None = refl
  first-lost (Some c) = refl

  pub below-control : (f : Interface) (a : Around) (most : ℕ) (rows : List ℕ) (n : ℕ) → is_control (element_at f n).sort ≡ true
      → below f a (suc most) rows n ≡ first (made (n, rows)) (inner f a most rows n (element_at f n).sort)
  below-control f a most rows n control =
      let sort = (element_at f n).sort in
      ap (λ b. option_map (if_control b n rows) (places_by f a (places_at most f a) rows n sort) >>= each made) control
      ∙ by (places_by f a (places_at most f a) rows n sort) ∙ ap (first (made (n, rows))) (inner-is f a most rows n sort)
    where
      by : (o : Option Places) → (option_map (if_control true n rows) o >>= each made) ≡ first (made (n, rows)) (o >>= each made)
      by None = sym (first-lost (made (n, rows)))
      by (Some ps) = refl

  inner-other : (f : Interface) (a : Around) (most : ℕ) (rows : List ℕ) (n : ℕ) (sort : Sort) → is_control sort ≡ false → inner f a most rows n sort ≡ all_of (below f a most rows) (children f n)
  inner-other f a most rows n (repeated k start) h = cc h
  inner-other f a most rows n sort h = refl

  pub below-other : (f : Interface) (a : Around) (most : ℕ) (rows : List ℕ) (n : ℕ) → is_control (element_at f n).sort ≡ false
      → below f a (suc most) rows n ≡ all_of (below f a most rows) (children f n)
  below-other f a most rows n control =
      let sort = (element_at f n).sort in
      ap (λ b. option_map (if_control b n rows) (places_by f a (places_at most f a) rows n sort) >>= each made) control
      ∙ by (places_by f a (places_at most f a) rows n sort) ∙ inner-is f a most rows n sort ∙ inner-other f a most rows n sort control
    where
      by : (o : Option Places) → (option_map (if_control false n rows) o >>= each made) ≡ (o >>= each made)
      by None = refl
      by (Some ps) = refl
