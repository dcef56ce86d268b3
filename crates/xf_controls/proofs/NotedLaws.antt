-- The nodes of copies are those that their elements bind, and what is noted of them is so.
use Rattle.std.proofs.Common.{◌≡◌, ℕ, zero, suc, ◌<◌, Bool, true, false, List, [], ◌∷◌, map, length, get_or, Option, Some, None, option_map, refl, sym, ap, ◌∙◌, subst, inl, inr, arith}
use Rattle.std.specs.Prelude.{replicate, slice_get, slice_set, ◌⊎◌}
use Rattle.xf_def_syntax.specs.declared.form.Form.{Form}
use Rattle.xf_def_forest.specs.declared.content.Node.{Node}
use Rattle.xf_def_forest.specs.declared.node.NodeId.{NodeId}
use Rattle.xf_def_xpath.specs.Given.{Given}
use Rattle.xf_def_xpath.specs.Setting.{◌>>=◌, each}
use Rattle.xf_def_ui.specs.declared.answers.Item.{Item}
use Rattle.xf_def_ui.specs.declared.marks.Marks.{Marks}
use Rattle.xf_def_ui.specs.Interface.{Interface, Sort, interface_of, repeated}
use Rattle.xf_def_ui.specs.Elements.{element_at, ancestors, is_repeat_sort}
use Rattle.xf_def_ui.specs.Around.{Around}
use Rattle.xf_def_ui.specs.Context.{Context, context_of}
use Rattle.xf_def_ui.specs.Copies.{Copy, copies, copy_of, copy_with, is_enabled, items_if, marks_if, node_of, own_binding, value_by}
use Rattle.xf_def_ui.specs.Places.{places}
use Rattle.xf_law_bindings.specs.Fixed.{AllFixed, IsFixed, IsFixedElement}
use Rattle.xf_controls.specs.declared.copy.ControlCopy.{ControlCopy}
use Rattle.xf_controls.specs.declared.known.Known.{Known}
use Rattle.xf_controls.specs.declared.known.Known.TheVariants.{Unknown, Is}
use Rattle.xf_controls.specs.Known.{AreHeld, AreNoted, IsCopied, IsNoted, known_at, known_if}
use Rattle.xf_controls.specs.Plain.{is_plain, is_plain_sort}
use Rattle.xf_controls.specs.Seen.{number, seen_copy}
use Rattle.xf_controls.specs.Surrounded.{IsQuiet, around_in}
use Rattle.xf_controls.proofs.BelowLaws.{copy_at}
use Rattle.xf_controls.proofs.FormLaws.{repeats-none}
use Rattle.xf_controls.proofs.PlaceLaws.{plain-at}
use Rattle.xf_controls.proofs.WholeLaws.{seeing-same}

-- ---- the parts of a copy

pub record HasParts (f : Interface) (a : Around) (rows : List ℕ) (n : ℕ) (c : Copy) : Type 0 where
  pub element : c.element ≡ n
  pub rows_too : c.rows ≡ rows
  pub node : node_of f a rows n ≡ Some c.node

copy-parts : (f : Interface) (a : Around) (marks : ℕ → Marks) (cases rows : List ℕ) (n : ℕ) (c : Copy) → copy_of f a marks cases rows n ≡ Some c → HasParts f a rows n c
copy-parts f a marks cases rows n c e = by (context_of f a rows n) (node_of f a rows n) refl e
  where
    of : (selected : Option ℕ) → node_of f a rows n ≡ Some selected → (x : Option (Option (List ℕ))) (y : Option Bool) (z : Option (List Item))
        → (x >>= λ text. y >>= λ enabled. z >>= λ items. Some (copy_with n rows selected text enabled (marks_if marks selected) items)) ≡ Some c → HasParts f a rows n c
    of selected i None y z j = cc j
    of selected i (Some text) None z j = cc j
    of selected i (Some text) (Some enabled) None j = cc j
    of selected i (Some text) (Some enabled) (Some items) j =
        let same : copy_with n rows selected text enabled (marks_if marks selected) items ≡ c = cc j in
        subst (HasParts f a rows n) same (record { element = refl; rows_too = refl; node = i })

    by : (x : Option Context) (y : Option (Option ℕ)) → node_of f a rows n ≡ y
        → (x >>= λ (d : Context). y >>= λ node. value_by a d (own_binding (element_at f n) (element_at f n).sort) (element_at f n).sort node
        >>= λ text. is_enabled f a marks cases rows n >>= λ enabled. items_if f a rows n (element_at f n).sort >>= λ items. Some (copy_with n rows node text enabled (marks_if marks node) items)) ≡ Some c
        → HasParts f a rows n c
    by None y i j = cc j
    by (Some d) None i j = cc j
    by (Some d) (Some node) i j =
        of node i (value_by a d (own_binding (element_at f n) (element_at f n).sort) (element_at f n).sort node) (is_enabled f a marks cases rows n) (items_if f a rows n (element_at f n).sort) j

-- ---- a copy among all

module _ {A B : Type 0} (made : A → Option B) where
  of-each : (xs : List A) (ys : List B) (i : ℕ) (y : B) → each made xs ≡ Some ys → slice_get ys i ≡ Some y → (x : A) × (made x ≡ Some y)
  of-each [] ys i y e f = let none : ys ≡ [] = cc e in absurd (by i (ap (λ l. slice_get l i) (sym none) ∙ f))
    where
      by : (j : ℕ) → ◌≡◌ {A = Option B} (slice_get [] j) (Some y) → ⊥
      by zero g = cc g
      by (suc j) g = cc g
  of-each (x ∷ xs) ys i y e f = by (made x) (each made xs) refl refl e (λ zs j g h. of-each xs zs j y g h)
    where
      at : (b : B) (zs : List B) (j : ℕ) → made x ≡ Some b → each made xs ≡ Some zs → ((us : List B) (k : ℕ) → each made xs ≡ Some us → slice_get us k ≡ Some y → (v : A) × (made v ≡ Some y))
          → slice_get (b ∷ zs) j ≡ Some y → (v : A) × (made v ≡ Some y)
      at b zs zero m n further g = (x, m ∙ g)
      at b zs (suc j) m n further g = further zs j n g

      by : (m : Option B) (n : Option (List B)) → made x ≡ m → each made xs ≡ n → (m >>= λ b. n >>= λ zs. Some (b ∷ zs)) ≡ Some ys
          → ((us : List B) (k : ℕ) → each made xs ≡ Some us → slice_get us k ≡ Some y → (v : A) × (made v ≡ Some y)) → (v : A) × (made v ≡ Some y)
      by None n g h j further = cc j
      by (Some b) None g h j further = cc j
      by (Some b) (Some zs) g h j further = let same : b ∷ zs ≡ ys = cc j in at b zs i g h further (ap (λ l. slice_get l i) same ∙ f)

bind-parts : {A B : Type 0} (m : Option A) (k : A → Option B) (y : B) → (m >>= k) ≡ Some y → (x : A) × (k x ≡ Some y)
bind-parts None k y e = cc e
bind-parts (Some x) k y e = (x, e)

get-mapped : {A B : Type 0} (g : A → B) (xs : List A) (i : ℕ) (x : A) → slice_get xs i ≡ Some x → slice_get (map g xs) i ≡ Some (g x)
get-mapped g [] zero x e = cc e
get-mapped g [] (suc i) x e = cc e
get-mapped g (y ∷ xs) zero x e = let same : y ≡ x = cc e in ap (λ z. Some (g z)) same
get-mapped g (y ∷ xs) (suc i) x e = get-mapped g xs i x e

-- ---- what was noted

module _ (form : Form) (given : Given) (nodes : List Node) (marks : ℕ → Marks) (list : List ControlCopy) (plain : is_plain (interface_of form) ≡ true) (quiet : IsQuiet given)
    (are : copies (interface_of form) (around_in given form.tables nodes) marks [] [] ≡ Some (map seen_copy list)) where
  abbrev f : Interface
  f = interface_of form

  abbrev a : Around
  a = around_in given form.tables nodes

  all : (places f a >>= each (copy_at f a marks [])) ≡ Some (map seen_copy list)
  all = sym (ap (λ b. places f b >>= each (copy_at f b marks [])) (seeing-same f [] given form.tables nodes (repeats-none f plain) quiet)) ∙ are

  node-copied : (n : ℕ) (k : Option NodeId) → IsCopied f list n k → node_of f a [] n ≡ Some (option_map number k)
  node-copied n k i =
      let found = bind-parts (places f a) (each (copy_at f a marks [])) (map seen_copy list) all in
      let p = of-each (copy_at f a marks []) found.0 (map seen_copy list) i.place (seen_copy i.copy) found.1 (get-mapped seen_copy list i.place i.copy i.found) in
      let parts = copy-parts f a marks [] p.0.1 p.0.0 (seen_copy i.copy) p.1 in
      ap (λ rows. node_of f a rows n) (sym i.rows ∙ parts.rows_too) ∙ ap (node_of f a p.0.1) (sym i.element ∙ parts.element) ∙ parts.node ∙ ap (λ x. Some (option_map number x)) i.node

  pub held-noted : (known : List Known) → AreNoted f list known → AreHeld f a known
  held-noted known noted = record { node = λ n k e. node-copied n k (noted n k e); fixed = λ n k e. (noted n k e).fixed }

-- ---- noting one after the other

get-set : (ks : List Known) (m n : ℕ) (x : Known) (k : Option NodeId) → known_at (slice_set ks m x) n ≡ Some k → ((n ≡ m) × (known_if (Some x) ≡ Some k)) ⊎ (known_at ks n ≡ Some k)
get-set [] m n x k e = inr e
get-set (y ∷ ks) zero zero x k e = inl (refl, e)
get-set (y ∷ ks) zero (suc n) x k e = inr e
get-set (y ∷ ks) (suc m) zero x k e = inr e
get-set (y ∷ ks) (suc m) (suc n) x k e = elim (get-set ks m n x k e) [ inl i ↦ inl (ap suc i.0, i.1) | inr i ↦ inr i ]

get-at : {X : Type 0} (xs : List X) (i : ℕ) (x : X) → i < length xs → x ≡ get_or xs i x → slice_get xs i ≡ Some x
get-at [] i x l e = absurd (omega (arith, l))
get-at (y ∷ xs) zero x l e = ap Some (sym e)
get-at (y ∷ xs) (suc i) x l e = get-at xs i x (omega (arith, l)) e

pub noted-more : (f : Interface) (list : List ControlCopy) (i : ℕ) (copy : ControlCopy) (before after : List Known) → i < length list → copy ≡ get_or list i copy → AreNoted f list before → IsNoted f copy before after → AreNoted f list after
noted-more f list i copy before after l is noted (inl same) = subst (AreNoted f list) (sym same) noted
noted-more f list i copy before after l is noted (inr new) = λ n k e. of n k (get-set before copy.element n (Is copy.node) k (ap (λ ks. known_at ks n) (sym new.2) ∙ e))
  where
    of : (n : ℕ) (k : Option NodeId) → ((n ≡ copy.element) × (known_if (Some (Is copy.node)) ≡ Some k)) ⊎ (known_at before n ≡ Some k) → IsCopied f list n k
    of n k (inr e) = noted n k e
    of n k (inl e) = record {
      place = i;
      copy = copy;
      found = get-at list i copy l is;
      element = sym e.0;
      rows = new.0;
      node = let same : copy.node ≡ k = cc (e.1) in same;
      fixed = subst (λ m. AllFixed f (m ∷ ancestors f m)) (sym e.0) new.1;
    }

set-length : {X : Type 0} (xs : List X) (i : ℕ) (x : X) → length (slice_set xs i x) ≡ length xs
set-length [] i x = refl
set-length (y ∷ xs) zero x = refl
set-length (y ∷ xs) (suc i) x = ap suc (set-length xs i x)

pub noted-length : (f : Interface) (copy : ControlCopy) (before after : List Known) → IsNoted f copy before after → length after ≡ length before
noted-length f copy before after (inl same) = ap length same
noted-length f copy before after (inr new) = ap length new.2 ∙ set-length before copy.element (Is copy.node)

unknown-at : (size n : ℕ) → known_at (replicate size Unknown) n ≡ None
unknown-at zero zero = refl
unknown-at zero (suc n) = refl
unknown-at (suc size) zero = refl
unknown-at (suc size) (suc n) = unknown-at size n

pub none-noted : (f : Interface) (list : List ControlCopy) (known : List Known) (size : ℕ) → known ≡ replicate size Unknown → AreNoted f list known
none-noted f list known size e n k i = let no : ◌≡◌ {A = Option (Option NodeId)} None (Some k) = sym (unknown-at size n) ∙ ap (λ ks. known_at ks n) (sym e) ∙ i in cc no

-- ---- elements that are fixed

once : (sort : Sort) → is_plain_sort sort ≡ true → is_repeat_sort sort ≡ false
once (repeated k start) h = cc h
once sort h = refl

pub fixed-element : (f : Interface) (n : ℕ) → is_plain f ≡ true → IsFixed (element_at f n).binding → IsFixedElement (element_at f n)
fixed-element f n plain bound = record { bound = bound; once = once (element_at f n).sort (plain-at f n plain) }
