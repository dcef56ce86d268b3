-- The repeats of a form in document order have their places as numbers.
use Rattle.std.proofs.Common.{◌≡◌, ℕ, zero, suc, ◌+◌, ◌<◌, ◌==◌, Bool, true, false, ◌&&◌, ◌||◌, List, [], ◌∷◌, ◌++◌, map, filter, length, get_or, slice_get, Option, Some, None, bytes_eq, refl, sym, ap, ◌∙◌, subst, if◌then◌else◌, arith}
use Rattle.std.specs.Prelude.{◌≤◌}
use mathlib.Core.List.{reverse_aux}
use Rattle.std.specs.List.{flat_map, list_any}
use Rattle.std.proofs.lemmas.Bool.Decides.{nat_tests}
use Rattle.std.proofs.lemmas.Slice.Eq.{bytes_eq-Decides}
use Rattle.xf_def_syntax.specs.Ordered.{IsOrdered, numbered_from, repeat_in, count_up, are_in_order, may_follow, still_around}
use Rattle.xf_def_syntax.specs.declared.element.Element as written
use Rattle.xf_def_syntax.specs.declared.element.Control.{Control}
use Rattle.xf_def_syntax.specs.declared.element.Control.TheVariants as control
use Rattle.xf_def_syntax.specs.declared.element.Kind.{Kind}
use Rattle.xf_def_syntax.specs.declared.element.Kind.TheVariants as kind
use Rattle.xf_def_syntax.specs.declared.form.Form.{Form}
use Rattle.xf_def_syntax.specs.declared.form.Tables.{Tables}
use Rattle.xf_def_model.specs.Pertinent.{AllOf}
use Rattle.xf_def_ui.specs.Elements.{no_element, element_at, above, ancestors, is_repeat, is_repeat_sort, repeat_number, path_to}
use Rattle.xf_def_ui.specs.Index.{number_of}
use Rattle.xf_def_ui.specs.Interface.{Interface, Element, element_of, interface_of, sort_of, sort_of_control}
use Rattle.xf_law_sessions.specs.Outcome.Repeats.{StandsInTurn, RepeatsInTurn}

and-true : (a b : Bool) → (a && b) ≡ true → (a ≡ true) × (b ≡ true)
and-true true b h = (refl, h)
and-true false b h = cc

-- ---- numbers of repeats

abbrev Elements : Type 0
Elements = List written.Element

-- the numbers that the elements have as repeats, and the elements that are repeats
abbrev numbers_in : ℕ → Elements → List ℕ
numbers_in n es = flat_map (λ e. repeat_in e.1.kind) (numbered_from n es)

abbrev repeats_in : ℕ → Elements → List ℕ
repeats_in n es = flat_map (λ e. map (λ k. e.0) (repeat_in e.1.kind)) (numbered_from n es)

abbrev Single : List ℕ → Type 0
Single [] = Unit {0}
Single (n ∷ []) = Unit {0}
Single (n ∷ m ∷ ns) = ⊥

single : (k : Kind) → Single (repeat_in k)
single (kind.Control place (control.Repeat k start)) = tt
single k = tt

-- a repeat at a place among the elements
record Stands (es : Elements) (n number repeat : ℕ) : Type 0 where
  place : ℕ
  element : written.Element
  is : repeat ≡ n + place
  at : slice_get es place ≡ Some element
  kind : repeat_in element.kind ≡ number ∷ []

later : (e : written.Element) (es : Elements) (n number repeat : ℕ) → Stands es (suc n) number repeat → Stands (e ∷ es) n number repeat
later e es n number repeat s = let i : repeat ≡ suc n + s.place = s.is in record { place = suc s.place; element = s.element; is = omega (arith, i); at = s.at; kind = s.kind }

same-number : (a b : ℕ) → (a == b) ≡ true → a ≡ b
same-number a b h = grind (arith, nat_tests, h)

stands : (es : Elements) (n from k repeat : ℕ) → count_up from (numbers_in n es) ≡ true → slice_get (repeats_in n es) k ≡ Some repeat → Stands es n (from + k) repeat
stands [] n from k repeat c h = cc h
stands (e ∷ es) n from k repeat c h = by (λ i j. stands es (suc n) i j repeat) (repeat_in e.kind) refl (single e.kind) k c h
  where
    by : ((i j : ℕ) → count_up i (numbers_in (suc n) es) ≡ true → slice_get (repeats_in (suc n) es) j ≡ Some repeat → Stands es (suc n) (i + j) repeat) → (ks : List ℕ) → repeat_in e.kind ≡ ks → Single ks → (k : ℕ) → count_up from (ks ++ numbers_in (suc n) es) ≡ true → slice_get (map (λ i. n) ks ++ repeats_in (suc n) es) k ≡ Some repeat
        → Stands (e ∷ es) n (from + k) repeat
    by more [] is one k c h = later e es n (from + k) repeat (more from k c h)
    by more (j ∷ []) is one zero c h =
        let number : j ≡ from = same-number j from (and-true (j == from) (count_up (suc from) (numbers_in (suc n) es)) c).0 in
        let here_ : n ≡ repeat = cc h in
        record { place = 0; element = e; is = omega (arith, here_); at = refl; kind = is ∙ ap (λ x. x ∷ []) (let w : j ≡ from + 0 = omega (arith, number) in w) }
    by more (j ∷ []) is one (suc k) c h =
        let w : suc from + k ≡ from + suc k = omega arith in
        subst (λ x. Stands (e ∷ es) n x repeat) w (later e es n (suc from + k) repeat (more (suc from) k (and-true (j == from) (count_up (suc from) (numbers_in (suc n) es)) c).1 h))
    by more (j ∷ i ∷ is) q one k c h = absurd one

-- those of later elements are no less than where counting begins
at-least : (es : Elements) (n from place number : ℕ) (x : written.Element) → count_up from (numbers_in n es) ≡ true → slice_get es place ≡ Some x → repeat_in x.kind ≡ number ∷ [] → from ≤ number
at-least [] n from place number x c h q = cc h
at-least (e ∷ es) n from place number x c h q = by (λ i j d k. at-least es (suc n) i j number x d k q) (repeat_in e.kind) refl (single e.kind) place c h
  where
    by : ((i j : ℕ) → count_up i (numbers_in (suc n) es) ≡ true → slice_get es j ≡ Some x → i ≤ number) → (ks : List ℕ) → repeat_in e.kind ≡ ks → Single ks → (place : ℕ) → count_up from (ks ++ numbers_in (suc n) es) ≡ true → slice_get (e ∷ es) place ≡ Some x → from ≤ number
    by more [] is one zero c h = let same : e ≡ x = cc h in let no : ◌≡◌ {A = List ℕ} [] (number ∷ []) = sym is ∙ ap (λ (y : written.Element). repeat_in y.kind) same ∙ q in cc no
    by more [] is one (suc place) c h = more from place c h
    by more (j ∷ []) is one zero c h =
        let same : e ≡ x = cc h in
        let lists : ◌≡◌ {A = List ℕ} (j ∷ []) (number ∷ []) = sym is ∙ ap (λ (y : written.Element). repeat_in y.kind) same ∙ q in
        let j-is : j ≡ number = cc lists in
        let at : j ≡ from = same-number j from (and-true (j == from) (count_up (suc from) (numbers_in (suc n) es)) c).0 in
        omega (arith, j-is, at)
    by more (j ∷ []) is one (suc place) c h =
        let least : suc from ≤ number = more (suc from) place (and-true (j == from) (count_up (suc from) (numbers_in (suc n) es)) c).1 h in
        omega (arith, least)
    by more (j ∷ i ∷ is) r one place c h = absurd one

-- of two repeats the one that stands first has the lesser number
in-order : (es : Elements) (n from first second a b : ℕ) (x y : written.Element) → count_up from (numbers_in n es) ≡ true → slice_get es first ≡ Some x → slice_get es second ≡ Some y → first < second
    → repeat_in x.kind ≡ a ∷ [] → repeat_in y.kind ≡ b ∷ [] → a < b
in-order [] n from first second a b x y c h k less p q = cc h
in-order (e ∷ es) n from first second a b x y c h k less p q = by (λ i j l d r s m. in-order es (suc n) i j l a b x y d r s m p q) (repeat_in e.kind) refl (single e.kind) first second c h k less
  where
    by : ((i j l : ℕ) → count_up i (numbers_in (suc n) es) ≡ true → slice_get es j ≡ Some x → slice_get es l ≡ Some y → j < l → a < b) → (ks : List ℕ) → repeat_in e.kind ≡ ks → Single ks → (first second : ℕ) → count_up from (ks ++ numbers_in (suc n) es) ≡ true → slice_get (e ∷ es) first ≡ Some x → slice_get (e ∷ es) second ≡ Some y → first < second → a < b
    by more ks is one first zero c h k less = let no : ⊥ = omega (arith, less) in absurd no
    by more [] is one zero (suc second) c h k less = let same : e ≡ x = cc h in let no : ◌≡◌ {A = List ℕ} [] (a ∷ []) = sym is ∙ ap (λ (z : written.Element). repeat_in z.kind) same ∙ p in cc no
    by more [] is one (suc first) (suc second) c h k less = more from first second c h k (omega (arith, less))
    by more (j ∷ []) is one zero (suc second) c h k less =
        let parts = and-true (j == from) (count_up (suc from) (numbers_in (suc n) es)) c in
        let same : e ≡ x = cc h in
        let lists : ◌≡◌ {A = List ℕ} (j ∷ []) (a ∷ []) = sym is ∙ ap (λ (z : written.Element). repeat_in z.kind) same ∙ p in
        let j-is : j ≡ a = cc lists in
        let at : j ≡ from = same-number j from parts.0 in
        let least : suc from ≤ b = at-least es (suc n) (suc from) second b y parts.1 k q in
        omega (arith, j-is, at, least)
    by more (j ∷ []) is one (suc first) (suc second) c h k less =
        more (suc from) first second (and-true (j == from) (count_up (suc from) (numbers_in (suc n) es)) c).1 h k (omega (arith, less))
    by more (j ∷ i ∷ is) r one first second c h k less = absurd one

-- ---- what stands around an element stands before it

abbrev AllLess : ℕ → List ℕ → Type 0
AllLess n ns = AllOf (λ m. m < n) ns

more-less : (n m : ℕ) (ns : List ℕ) → n ≤ m → AllLess n ns → AllLess m ns
more-less n m [] l h = tt
more-less n m (k ∷ ns) l h = let one : k < n = h.0 in (omega (arith, l, one), more-less n m ns l h.1)

around-less : (n : ℕ) (around : List ℕ) (parent : Option ℕ) → AllLess n around → AllLess n (still_around around parent)
around-less n around None h = tt
around-less n [] (Some parent) h = tt
around-less n (m ∷ around) (Some parent) h = by (around-less n around (Some parent) h.1) (m == parent)
  where
    by : AllLess n (still_around around (Some parent)) → (b : Bool) → AllLess n (if b then m ∷ around else still_around around (Some parent))
    by rest true = h
    by rest false = rest

one-less : (n parent : ℕ) (around : List ℕ) → AllLess n around → list_any (λ m. m == parent) around ≡ true → parent < n
one-less n parent [] h q = cc q
one-less n parent (m ∷ around) h q = by (one-less n parent around h.1) (m == parent) refl q
  where
    by : (list_any (λ k. k == parent) around ≡ true → parent < n) → (b : Bool) → (m == parent) ≡ b → (b || list_any (λ k. k == parent) around) ≡ true → parent < n
    by rest true e r = let less : m < n = h.0 in let same : m ≡ parent = same-number m parent e in omega (arith, less, same)
    by rest false e r = rest r

parent-before : (es : Elements) (n : ℕ) (around : List ℕ) → AllLess n around → are_in_order around (numbered_from n es) ≡ true → (place parent : ℕ) (x : written.Element)
    → slice_get es place ≡ Some x → x.parent ≡ Some parent → parent < n + place
parent-before [] n around h c place parent x q is = cc q
parent-before (e ∷ es) n around h c zero parent x q is =
    let parts = and-true (may_follow around e.parent) (are_in_order (n ∷ still_around around e.parent) (numbered_from (suc n) es)) c in
    let same : e ≡ x = cc q in
    let its : e.parent ≡ Some parent = ap (λ (y : written.Element). y.parent) same ∙ is in
    let less : parent < n = one-less n parent around h (subst (λ o. may_follow around o ≡ true) its parts.0) in
    omega (arith, less)
parent-before (e ∷ es) n around h c (suc place) parent x q is =
    let parts = and-true (may_follow around e.parent) (are_in_order (n ∷ still_around around e.parent) (numbered_from (suc n) es)) c in
    let own : n < suc n = omega arith in
    let less : parent < suc n + place = parent-before es (suc n) (n ∷ still_around around e.parent) (own, more-less n (suc n) (still_around around e.parent) (omega arith) (around-less n around e.parent h)) parts.1 place parent x q is in
    omega (arith, less)

-- ---- the elements of the interface

module _ (tables : Tables) where
  abbrev in_tables : Elements → ℕ → Element
  in_tables es n = get_or (map (element_of tables) es) n no_element

  -- what has a parent, or is a repeat, stands in the form
  with-parent : (es : Elements) (n parent : ℕ) → (in_tables es n).parent ≡ Some parent → (x : written.Element) × (slice_get es n ≡ Some x) × (x.parent ≡ Some parent)
  with-parent [] zero parent h = cc h
  with-parent [] (suc n) parent h = cc h
  with-parent (e ∷ es) zero parent h = (e, refl, h)
  with-parent (e ∷ es) (suc n) parent h = with-parent es n parent h

  number-is : (k : Kind) → is_repeat_sort (sort_of k) ≡ true → repeat_in k ≡ repeat_number (sort_of k) ∷ []
  number-is kind.Host h = cc h
  number-is (kind.Model k) h = cc h
  number-is (kind.Instance k) h = cc h
  number-is (kind.Bind k) h = cc h
  number-is (kind.Submission k) h = cc h
  number-is (kind.Control place c) h = by c h
    where
      by : (c : Control) → is_repeat_sort (sort_of_control c) ≡ true → repeat_in (kind.Control place c) ≡ repeat_number (sort_of_control c) ∷ []
      by (control.Repeat k start) h = refl
      by control.Group h = cc h
      by (control.Switch k) h = cc h
      by (control.Case is_selected) h = cc h
      by control.Input h = cc h
      by control.Secret h = cc h
      by control.Textarea h = cc h
      by (control.Output expr) h = cc h
      by (control.Select is_free) h = cc h
      by (control.SelectOne is_free) h = cc h
      by control.Trigger h = cc h
      by (control.Submit k) h = cc h
  number-is kind.Item h = cc h
  number-is kind.Itemset h = cc h
  number-is kind.Choices h = cc h
  number-is kind.Label h = cc h
  number-is (kind.Value expr) h = cc h
  number-is (kind.Output expr) h = cc h
  number-is (kind.Action a) h = cc h

  as-repeat : (es : Elements) (n : ℕ) → is_repeat_sort (in_tables es n).sort ≡ true → (x : written.Element) × (slice_get es n ≡ Some x) × (repeat_in x.kind ≡ repeat_number (in_tables es n).sort ∷ [])
  as-repeat [] zero h = cc h
  as-repeat [] (suc n) h = cc h
  as-repeat (e ∷ es) zero h = (e, refl, number-is e.kind h)
  as-repeat (e ∷ es) (suc n) h = as-repeat es n h

  sort-number : (k : Kind) (number : ℕ) → repeat_in k ≡ number ∷ [] → repeat_number (sort_of k) ≡ number
  sort-number kind.Host n h = cc h
  sort-number (kind.Model k) n h = cc h
  sort-number (kind.Instance k) n h = cc h
  sort-number (kind.Bind k) n h = cc h
  sort-number (kind.Submission k) n h = cc h
  sort-number (kind.Control place c) n h = by c h
    where
      by : (c : Control) → repeat_in (kind.Control place c) ≡ n ∷ [] → repeat_number (sort_of_control c) ≡ n
      by (control.Repeat k start) h = cc h
      by control.Group h = cc h
      by (control.Switch k) h = cc h
      by (control.Case is_selected) h = cc h
      by control.Input h = cc h
      by control.Secret h = cc h
      by control.Textarea h = cc h
      by (control.Output expr) h = cc h
      by (control.Select is_free) h = cc h
      by (control.SelectOne is_free) h = cc h
      by control.Trigger h = cc h
      by (control.Submit k) h = cc h
  sort-number kind.Item n h = cc h
  sort-number kind.Itemset n h = cc h
  sort-number kind.Choices n h = cc h
  sort-number kind.Label n h = cc h
  sort-number (kind.Value expr) n h = cc h
  sort-number (kind.Output expr) n h = cc h
  sort-number (kind.Action a) n h = cc h

  at-place : (es : Elements) (n : ℕ) (x : written.Element) → slice_get es n ≡ Some x → (in_tables es n).sort ≡ sort_of x.kind
  at-place [] n x h = cc h
  at-place (e ∷ es) zero x h = let same : e ≡ x = cc h in ap (λ (y : written.Element). sort_of y.kind) same
  at-place (e ∷ es) (suc n) x h = at-place es n x h

-- ---- lists

all-onto : (P : ℕ → Type 0) (xs ys : List ℕ) → AllOf P xs → AllOf P ys → AllOf P (reverse_aux xs ys)
all-onto P [] ys h k = k
all-onto P (x ∷ xs) ys h k = all-onto P xs (x ∷ ys) h.1 (h.0, k)

all-kept : (P Q : ℕ → Type 0) (test : ℕ → Bool) → ((n : ℕ) → test n ≡ true → P n → Q n) → (ns : List ℕ) → AllOf P ns → AllOf Q (filter test ns)
all-kept P Q test f [] h = tt
all-kept P Q test f (n ∷ ns) h = by (test n) refl (all-kept P Q test f ns h.1)
  where
    by : (b : Bool) → test n ≡ b → AllOf Q (filter test ns) → AllOf Q (if b then n ∷ filter test ns else filter test ns)
    by true e rest = (f n e h.0, rest)
    by false e rest = rest

-- ---- the law

module _ (form : Form) (ordered : IsOrdered form) where
  abbrev f : Interface
  f = interface_of form

  abbrev es : Elements
  es = form.elements

  listed : form.repeats ≡ repeats_in 0 es
  listed = (bytes_eq-Decides form.repeats (repeats_in 0 es)).0 (and-true (bytes_eq form.repeats (repeats_in 0 es)) (count_up 0 (numbers_in 0 es)) ordered.repeats).0

  counted : count_up 0 (numbers_in 0 es) ≡ true
  counted = (and-true (bytes_eq form.repeats (repeats_in 0 es)) (count_up 0 (numbers_in 0 es)) ordered.repeats).1

  parent-less : (n parent : ℕ) → (element_at f n).parent ≡ Some parent → parent < n
  parent-less n parent h =
      let x = with-parent form.tables es n parent h in
      let less : parent < 0 + n = parent-before es 0 [] tt ordered.order n parent x.0 x.1 x.2 in
      omega (arith, less)

  above-less : (most bound : ℕ) (o : Option ℕ) → ((parent : ℕ) → o ≡ Some parent → parent < bound) → AllLess bound (above most f o)
  above-less zero bound o h = tt
  above-less (suc most) bound None h = tt
  above-less (suc most) bound (Some n) h =
      let less : n < bound = h n refl in
      (less, above-less most bound (element_at f n).parent (λ parent q. let own : parent < n = parent-less n parent q in omega (arith, own, less)))

  path-less : (n : ℕ) → AllLess n (path_to f n)
  path-less n = all-onto (λ m. m < n) (ancestors f n) [] (above-less (length f.elements) n (element_at f n).parent (parent-less n)) tt

  module _ (number repeat : ℕ) (h : slice_get form.repeats number ≡ Some repeat) where
    own : Stands es 0 (0 + number) repeat
    own = stands es 0 0 number repeat counted (subst (λ l. slice_get l number ≡ Some repeat) listed h)

    own-place : own.place ≡ repeat
    own-place = let i : repeat ≡ 0 + own.place = own.is in omega (arith, i)

    own-at : slice_get es repeat ≡ Some own.element
    own-at = subst (λ k. slice_get es k ≡ Some own.element) own-place own.at

    number-own : number_of f repeat ≡ number
    number-own =
        let plain : 0 + number ≡ number = omega arith in
        ap repeat_number (at-place form.tables es repeat own.element own-at) ∙ sort-number form.tables own.element.kind number (own.kind ∙ ap (λ k. k ∷ []) plain)

    less-number : (r : ℕ) → is_repeat f r ≡ true → r < repeat → number_of f r < number
    less-number r is less =
        let x = as-repeat form.tables es r is in
        let plain : 0 + number ≡ number = omega arith in
        in-order es 0 0 r repeat (number_of f r) number x.0 own.element counted x.1 own-at less x.2 (own.kind ∙ ap (λ k. k ∷ []) plain)

    turn : StandsInTurn f number repeat
    turn = record { is = number-own; around = all-kept (λ r. r < repeat) (λ r. number_of f r < number) (is_repeat f) less-number (path_to f repeat) (path-less repeat) }

pub repeats_in_turn : RepeatsInTurn
repeats_in_turn form ordered number repeat h = turn form ordered number repeat h
