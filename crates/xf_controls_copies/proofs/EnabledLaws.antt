-- Whether a copy is enabled, container after container.
use Rattle.std.proofs.Common.{◌≡◌, ℕ, suc, Bool, true, false, ◌&&◌, List, [], ◌∷◌, length, Option, Some, None, option_map, refl, sym, ap, ◌∙◌}
use Rattle.std.specs.Prelude.{filter, if◌then◌else◌}
use Rattle.std.specs.List.{list_all}
use Rattle.std.proofs.lemmas.List.{length-map}
use Rattle.xf_def_syntax.specs.declared.form.Form.{Form}
use Rattle.xf_def_xpath.specs.Setting.{◌>>=◌, each}
use Rattle.xf_def_ui.specs.declared.marks.Marks.{Marks}
use Rattle.xf_def_ui.specs.Around.{Around}
use Rattle.xf_def_ui.specs.Cases.{is_in_selected}
use Rattle.xf_def_ui.specs.Copies.{is_enabled, is_open}
use Rattle.xf_def_ui.specs.Elements.{above, ancestors, element_at, is_container}
use Rattle.xf_def_ui.specs.Interface.{Interface, element_of, interface_of}
use Rattle.xf_controls.proofs.OptionLaws.{bind-some}
use Rattle.xf_controls_copies.specs.Made.{are_open, is_passable}

pub ancestors-are : (form : Form) (n most : ℕ) (parent : Option ℕ) → most ≡ length form.elements → parent ≡ (element_at (interface_of form) n).parent → above most (interface_of form) parent ≡ ancestors (interface_of form) n
ancestors-are form n most parent counted e =
    ap (λ k. above k (interface_of form) parent) (counted ∙ sym (length-map form.elements (element_of form.tables)))
    ∙ ap (above (length (interface_of form).elements) (interface_of form)) e

module _ (f : Interface) (a : Around) (marks : ℕ → Marks) (rows : List ℕ) where
  abbrev containers : List ℕ → List ℕ
  containers ns = filter (λ m. is_container (element_at f m).sort) ns

  abbrev all_of : Option (List Bool) → Option Bool
  all_of bs = option_map (λ all. list_all (λ b. b) all) bs

  one-more : (o : Option Bool) (p : Option (List Bool)) (q : Option Bool) → all_of p ≡ q → all_of (o >>= λ y. p >>= λ ys. Some (y ∷ ys)) ≡ (o >>= λ own. q >>= λ outer. Some (own && outer))
  one-more None p q e = refl
  one-more (Some y) None q e = ap (λ m. m >>= λ outer. Some (y && outer)) e
  one-more (Some y) (Some ys) q e = ap (λ m. m >>= λ outer. Some (y && outer)) e

  container-first : (b : Bool) (n : ℕ) (ns : List ℕ) → all_of (each (is_open f a marks rows) (containers ns)) ≡ are_open f a marks rows ns
      → all_of (each (is_open f a marks rows) (if b then n ∷ containers ns else containers ns))
      ≡ ((if b then is_open f a marks rows n else Some true) >>= λ own. are_open f a marks rows ns >>= λ outer. Some (own && outer))
  container-first true n ns e = one-more (is_open f a marks rows n) (each (is_open f a marks rows) (containers ns)) (are_open f a marks rows ns) e
  container-first false n ns e = e ∙ sym (bind-some (are_open f a marks rows ns))

  all-open : (ns : List ℕ) → all_of (each (is_open f a marks rows) (containers ns)) ≡ are_open f a marks rows ns
  all-open [] = refl
  all-open (n ∷ ns) = container-first (is_container (element_at f n).sort) n ns (all-open ns)

  module _ (cases : List ℕ) (n : ℕ) where
    with-selected : (p : Option (List Bool)) → option_map (λ all. list_all (λ b. b) all && is_in_selected f cases n) p ≡ (all_of p >>= λ b. Some (b && is_in_selected f cases n))
    with-selected None = refl
    with-selected (Some bs) = refl

    by-own : (o q : Option Bool) → ((o >>= λ own. q >>= λ outer. Some (own && outer)) >>= λ b. Some (b && is_in_selected f cases n))
        ≡ (o >>= λ own. q >>= λ outer. Some ((own && outer) && is_in_selected f cases n))
    by-own None q = refl
    by-own (Some y) None = refl
    by-own (Some y) (Some z) = refl

    enabled-is : is_enabled f a marks cases rows n ≡ (is_open f a marks rows n >>= λ own. are_open f a marks rows (ancestors f n) >>= λ outer. Some ((own && outer) && is_in_selected f cases n))
    enabled-is =
        with-selected (each (is_open f a marks rows) (n ∷ containers (ancestors f n)))
        ∙ ap (λ m. m >>= λ b. Some (b && is_in_selected f cases n))
        (one-more (is_open f a marks rows n) (each (is_open f a marks rows) (containers (ancestors f n))) (are_open f a marks rows (ancestors f n)) (all-open (ancestors f n)))
        ∙ by-own (is_open f a marks rows n) (are_open f a marks rows (ancestors f n))

    pub own-lost : is_open f a marks rows n ≡ None → is_enabled f a marks cases rows n ≡ None
    own-lost e = enabled-is ∙ ap (λ m. m >>= λ own. are_open f a marks rows (ancestors f n) >>= λ outer. Some ((own && outer) && is_in_selected f cases n)) e

    pub around-lost : (own : Bool) → is_open f a marks rows n ≡ Some own → are_open f a marks rows (ancestors f n) ≡ None → is_enabled f a marks cases rows n ≡ None
    around-lost own e h =
        enabled-is ∙ ap (λ m. m >>= λ own. are_open f a marks rows (ancestors f n) >>= λ outer. Some ((own && outer) && is_in_selected f cases n)) e
        ∙ ap (λ m. m >>= λ outer. Some ((own && outer) && is_in_selected f cases n)) h

    pub enabled-so : (own outer : Bool) → is_open f a marks rows n ≡ Some own → are_open f a marks rows (ancestors f n) ≡ Some outer
        → is_enabled f a marks cases rows n ≡ Some ((own && outer) && is_in_selected f cases n)
    enabled-so own outer e h =
        enabled-is ∙ ap (λ m. m >>= λ own. are_open f a marks rows (ancestors f n) >>= λ outer. Some ((own && outer) && is_in_selected f cases n)) e
        ∙ ap (λ m. m >>= λ outer. Some ((own && outer) && is_in_selected f cases n)) h

  -- an element and those around it
  pub around-first : (most k n : ℕ) (parent outer : Option ℕ) → most ≡ suc k → parent ≡ Some n → outer ≡ (element_at f n).parent
      → are_open f a marks rows (above most f parent) ≡ (is_passable f a marks rows n >>= λ own. are_open f a marks rows (above k f outer) >>= λ more. Some (own && more))
  around-first most k n parent outer e h g =
      ap (λ j. are_open f a marks rows (above j f parent)) e ∙ ap (λ q. are_open f a marks rows (above (suc k) f q)) h
      ∙ ap (λ q. is_passable f a marks rows n >>= λ own. are_open f a marks rows (above k f q) >>= λ more. Some (own && more)) (sym g)

  pub both-told : (o q : Option Bool) (own more : Bool) → o ≡ Some own → q ≡ Some more → (o >>= λ b. q >>= λ c. Some (b && c)) ≡ Some (own && more)
  both-told o q own more e h = ap (λ m. m >>= λ b. q >>= λ c. Some (b && c)) e ∙ ap (λ m. m >>= λ c. Some (own && c)) h

  pub first-lost : (o q : Option Bool) → o ≡ None → (o >>= λ b. q >>= λ c. Some (b && c)) ≡ None
  first-lost o q e = ap (λ m. m >>= λ b. q >>= λ c. Some (b && c)) e

  pub later-lost : (o q : Option Bool) → q ≡ None → (o >>= λ b. q >>= λ c. Some (b && c)) ≡ None
  later-lost None q e = refl
  later-lost (Some b) q e = ap (λ m. m >>= λ c. Some (b && c)) e
