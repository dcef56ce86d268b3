-- What an element gives to what stands in it, and its own copy, by what is handed down to it.
use Rattle.std.proofs.Common.{◌≡◌, ℕ, Bool, true, false, cond, ◌&&◌, List, [], ◌∷◌, Option, Some, None, option_map, refl, sym, ap, ◌∙◌}
use Rattle.std.specs.Prelude.{filter}
use Rattle.std.specs.List.{list_all}
use Rattle.xf_def_ui.specs.declared.answers.Item.{Item}
use Rattle.xf_def_xpath.specs.Setting.{Focus, ◌>>=◌, each}
use Rattle.xf_def_ui.specs.Interface.{Bound, unbound, nodes, by_bind, Sort, Element, Interface, other, one_case, repeated, field, output, select}
use Rattle.xf_def_ui.specs.Elements.{element_at, ancestors, is_container, is_control}
use Rattle.xf_def_ui.specs.Around.{Around, first_bound}
use Rattle.xf_def_ui.specs.Context.{Inside, Place, free, Context, enter, enter_bound, enter_by, enter_sent, focus_in, inside, context_in, context_of, scope_of}
use Rattle.xf_def_ui.specs.Cases.{if_case, is_in_selected}
use Rattle.xf_def_ui.specs.declared.marks.Marks.{Marks}
use Rattle.xf_def_ui.specs.Copies.{Copy, copy_of, copy_with, is_enabled, is_open, is_open_by, items_if, marks_if, node_of, own_binding, value_by}
use Rattle.xf_controls.specs.Plain.{is_plain, is_plain_sort}
use Rattle.xf_controls.specs.Handed.{Handed, inside_of, place_for, node_in, place_below, open_below, handed_by, copy_by}
use Rattle.xf_controls.proofs.PlaceLaws.{plain-at}

-- ---- what stands in it is evaluated there

abbrev below : ℕ → Place → Bound → Option ℕ → Inside
below model place binding selected = record { model = model; place = place_below place binding selected; rows = [] }

bound-is : (a : Around) (outer model : ℕ) (place : Place) (binding : Bound) →
    enter_bound a (record { model = outer; place = place; rows = [] }) model binding ≡ option_map (below model place binding) (first_bound a model binding (focus_in a model place))
bound-is a outer model place unbound = by (focus_in a model place)
  where
    by : (c : Option Focus) → Some (below model place unbound None) ≡ option_map (below model place unbound) (first_bound a model unbound c)
    by None = refl
    by (Some c) = refl
bound-is a outer model place (nodes m) = refl
bound-is a outer model place (by_bind k) = refl

sent-is : (a : Around) (outer model : ℕ) (place : Place) (binding : Bound) →
    enter_sent a (record { model = outer; place = place; rows = [] }) model binding ≡ option_map (below model place binding) (first_bound a model binding (focus_in a model free))
sent-is a outer model place unbound = by (focus_in a model free)
  where
    by : (c : Option Focus) → Some (below model place unbound None) ≡ option_map (below model place unbound) (first_bound a model unbound c)
    by None = refl
    by (Some c) = refl
sent-is a outer model place (nodes m) = refl
sent-is a outer model place (by_bind k) = refl

enter-by : (a : Around) (outer model : ℕ) (place : Place) (binding : Bound) (sort : Sort) → is_plain_sort sort ≡ true →
    enter_by a (record { model = outer; place = place; rows = [] }) model binding sort ≡ option_map (below model place binding) (first_bound a model binding (focus_in a model (place_for sort place)))
enter-by a outer model place binding (repeated k start) h = cc h
enter-by a outer model place binding other h = sent-is a outer model place binding
enter-by a outer model place binding sort h = bound-is a outer model place binding

pub enter-is : (f : Interface) (a : Around) (marks : ℕ → Marks) (h : Handed) (e : Element) → is_plain_sort e.sort ≡ true →
    enter f a (inside_of h) e ≡ option_map (λ selected. inside_of (handed_by f marks h e selected)) (node_in f a h e)
enter-is f a marks h e plain = enter-by a h.model (scope_of f h.model e) h.place e.binding e.sort plain

-- ---- what it binds

own-plain : (e : Element) (sort : Sort) → is_plain_sort sort ≡ true → own_binding e sort ≡ e.binding
own-plain e (repeated k start) h = cc h
own-plain e sort h = refl

control-place : (sort : Sort) (place : Place) → is_control sort ≡ true → place_for sort place ≡ place
control-place other place h = cc h
control-place sort place h = refl

pub container-control : (sort : Sort) → is_container sort ≡ true → is_control sort ≡ true
container-control field h = refl
container-control (output expr) h = refl
container-control (select many is_free) h = refl
container-control sort h = h

pub context-is : (f : Interface) (a : Around) (n : ℕ) (h : Handed) → inside f a [] n ≡ Some (inside_of h) → context_of f a [] n ≡ Some (context_in f a (inside_of h) (element_at f n))
context-is f a n h e = ap (option_map (λ s. context_in f a s (element_at f n))) e

pub node-is : (f : Interface) (a : Around) (n : ℕ) (h : Handed) → is_plain f ≡ true → is_control (element_at f n).sort ≡ true → inside f a [] n ≡ Some (inside_of h) → node_of f a [] n ≡ node_in f a h (element_at f n)
node-is f a n h plain control stands =
    let e = element_at f n in
    let model = scope_of f h.model e in
    ap (λ m. m >>= λ (c : Context). first_bound a c.model (own_binding e e.sort) c.focus) (context-is f a n h stands)
    ∙ ap (λ b. first_bound a model b (focus_in a model h.place)) (own-plain e e.sort (plain-at f n plain))
    ∙ ap (λ p. first_bound a model e.binding (focus_in a model p)) (sym (control-place e.sort h.place control))

pub open-is : (f : Interface) (a : Around) (marks : ℕ → Marks) (n : ℕ) (h : Handed) (selected : Option ℕ) → is_plain f ≡ true → is_control (element_at f n).sort ≡ true → inside f a [] n ≡ Some (inside_of h)
    → node_in f a h (element_at f n) ≡ Some selected → is_open f a marks [] n ≡ Some (is_open_by marks (element_at f n).binding selected)
open-is f a marks n h selected plain control stands bound =
    let e = element_at f n in
    ap (λ b. option_map (is_open_by marks b) (node_of f a [] n)) (own-plain e e.sort (plain-at f n plain))
    ∙ ap (option_map (is_open_by marks e.binding)) (node-is f a n h plain control stands ∙ bound)

-- ---- whether it is enabled

case-plain : (f : Interface) (cases : List ℕ) (m : ℕ) (sort : Sort) → is_plain_sort sort ≡ true → if_case f cases m sort ≡ true
case-plain f cases m (one_case is_written) h = cc h
case-plain f cases m sort h = refl

all-selected : (f : Interface) (cases : List ℕ) → is_plain f ≡ true → (ns : List ℕ) → list_all (λ m. if_case f cases m (element_at f m).sort) ns ≡ true
all-selected f cases plain [] = refl
all-selected f cases plain (n ∷ ns) =
    ap (λ b. b && list_all (λ m. if_case f cases m (element_at f m).sort) ns) (case-plain f cases n (element_at f n).sort (plain-at f n plain)) ∙ all-selected f cases plain ns

pub selected-plain : (f : Interface) (cases : List ℕ) (n : ℕ) → is_plain f ≡ true → is_in_selected f cases n ≡ true
selected-plain f cases n plain = all-selected f cases plain (ancestors f n)

-- the containers among these, each of which binds nothing or a relevant selected
abbrev pub open_all : Interface → Around → (ℕ → Marks) → List ℕ → Option Bool
open_all f a marks ns = option_map (list_all (λ b. b)) (each (is_open f a marks []) (filter (λ m. is_container (element_at f m).sort) ns))

and-true : (b : Bool) → (b && true) ≡ b
and-true true = refl
and-true false = refl

enabled-by : (one b selected : Bool) (bs : Option (List Bool)) → option_map (list_all (λ x. x)) bs ≡ Some b → selected ≡ true →
    option_map (λ all. list_all (λ x. x) all && selected) (bs >>= λ ys. Some (one ∷ ys)) ≡ Some (one && b)
enabled-by one b selected None h s = cc h
enabled-by one b selected (Some bs) h s =
    let is : list_all (λ x. x) bs ≡ b = cc h in
    ap (λ x. Some ((one && list_all (λ y. y) bs) && x)) s ∙ ap Some (and-true (one && list_all (λ y. y) bs)) ∙ ap (λ x. Some (one && x)) is

pub enabled-is : (f : Interface) (a : Around) (marks : ℕ → Marks) (cases : List ℕ) (n : ℕ) (one b : Bool) → is_plain f ≡ true → is_open f a marks [] n ≡ Some one → open_all f a marks (ancestors f n) ≡ Some b
    → is_enabled f a marks cases [] n ≡ Some (one && b)
enabled-is f a marks cases n one b plain own around =
    let rest = each (is_open f a marks []) (filter (λ m. is_container (element_at f m).sort) (ancestors f n)) in
    ap (λ m. option_map (λ all. list_all (λ x. x) all && is_in_selected f cases n) (m >>= λ y. rest >>= λ ys. Some (y ∷ ys))) own
    ∙ enabled-by one b (is_in_selected f cases n) rest around (selected-plain f cases n plain)

-- what is handed to those in it
open-more : (one b : Bool) (bs : Option (List Bool)) → option_map (list_all (λ x. x)) bs ≡ Some b → option_map (list_all (λ x. x)) (bs >>= λ ys. Some (one ∷ ys)) ≡ Some (one && b)
open-more one b None h = cc h
open-more one b (Some bs) h = let is : list_all (λ x. x) bs ≡ b = cc h in ap (λ x. Some (one && x)) is

pub open-below : (f : Interface) (a : Around) (marks : ℕ → Marks) (n : ℕ) (h : Handed) (selected : Option ℕ) → is_plain f ≡ true → inside f a [] n ≡ Some (inside_of h) → node_in f a h (element_at f n) ≡ Some selected
    → open_all f a marks (ancestors f n) ≡ Some h.is_open → open_all f a marks (n ∷ ancestors f n) ≡ Some (open_below marks (is_container (element_at f n).sort) (element_at f n).binding h.is_open selected)
open-below f a marks n h selected plain stands bound around = by (is_container (element_at f n).sort) refl
  where
    by : (b : Bool) → is_container (element_at f n).sort ≡ b →
        option_map (list_all (λ x. x)) (each (is_open f a marks []) (cond b (n ∷ filter (λ m. is_container (element_at f m).sort) (ancestors f n)) (filter (λ m. is_container (element_at f m).sort) (ancestors f n))))
        ≡ Some (open_below marks b (element_at f n).binding h.is_open selected)
    by true c =
        let rest = each (is_open f a marks []) (filter (λ m. is_container (element_at f m).sort) (ancestors f n)) in
        let one = is_open_by marks (element_at f n).binding selected in
        ap (λ m. option_map (list_all (λ x. x)) (m >>= λ y. rest >>= λ ys. Some (y ∷ ys))) (open-is f a marks n h selected plain (container-control (element_at f n).sort c) stands bound)
        ∙ open-more one h.is_open rest around
    by false c = around

-- ---- its copy

pub items-plain : (f : Interface) (a : Around) (n : ℕ) (sort : Sort) → is_plain_sort sort ≡ true → items_if f a [] n sort ≡ Some []
items-plain f a n (select many is_free) h = cc h
items-plain f a n sort h = refl

pub copy-is : (f : Interface) (a : Around) (marks : ℕ → Marks) (cases : List ℕ) (n : ℕ) (h : Handed) (selected : Option ℕ) → is_plain f ≡ true → is_control (element_at f n).sort ≡ true → inside f a [] n ≡ Some (inside_of h)
    → node_in f a h (element_at f n) ≡ Some selected → open_all f a marks (ancestors f n) ≡ Some h.is_open → copy_of f a marks cases [] n ≡ copy_by f a marks h n (element_at f n) selected
copy-is f a marks cases n h selected plain control stands bound around =
    let e = element_at f n in
    let c = context_in f a (inside_of h) e in
    let one = is_open_by marks e.binding selected in
    let copy : Option ℕ → Option (List ℕ) → Bool → List Item → Copy = λ k text enabled items. copy_with n [] k text enabled (marks_if marks k) items in
    ap (λ m. m >>= λ (d : Context). node_of f a [] n >>= λ k. value_by a d (own_binding e e.sort) e.sort k >>= λ text. is_enabled f a marks cases [] n >>= λ b. items_if f a [] n e.sort >>= λ items. Some (copy k text b items)) (context-is f a n h stands)
    ∙ ap (λ m. m >>= λ k. value_by a c (own_binding e e.sort) e.sort k >>= λ text. is_enabled f a marks cases [] n >>= λ b. items_if f a [] n e.sort >>= λ items. Some (copy k text b items)) (node-is f a n h plain control stands ∙ bound)
    ∙ ap (λ x. value_by a c x e.sort selected >>= λ text. is_enabled f a marks cases [] n >>= λ b. items_if f a [] n e.sort >>= λ items. Some (copy selected text b items)) (own-plain e e.sort (plain-at f n plain))
    ∙ ap (λ m. value_by a c e.binding e.sort selected >>= λ text. m >>= λ b. items_if f a [] n e.sort >>= λ items. Some (copy selected text b items)) (enabled-is f a marks cases n one h.is_open plain (open-is f a marks n h selected plain control stands bound) around)
    ∙ ap (λ m. value_by a c e.binding e.sort selected >>= λ text. m >>= λ items. Some (copy selected text (one && h.is_open) items)) (items-plain f a n e.sort (plain-at f n plain))

-- where what it binds is too long, and where what is around is
pub copy-lost : (f : Interface) (a : Around) (marks : ℕ → Marks) (cases : List ℕ) (n : ℕ) (h : Handed) → is_plain f ≡ true → is_control (element_at f n).sort ≡ true → inside f a [] n ≡ Some (inside_of h)
    → node_in f a h (element_at f n) ≡ None → copy_of f a marks cases [] n ≡ None
copy-lost f a marks cases n h plain control stands bound =
    let e = element_at f n in
    let c = context_in f a (inside_of h) e in
    let copy : Option ℕ → Option (List ℕ) → Bool → List Item → Copy = λ k text enabled items. copy_with n [] k text enabled (marks_if marks k) items in
    ap (λ m. m >>= λ (d : Context). node_of f a [] n >>= λ k. value_by a d (own_binding e e.sort) e.sort k >>= λ text. is_enabled f a marks cases [] n >>= λ b. items_if f a [] n e.sort >>= λ items. Some (copy k text b items)) (context-is f a n h stands)
    ∙ ap (λ m. m >>= λ k. value_by a c (own_binding e e.sort) e.sort k >>= λ text. is_enabled f a marks cases [] n >>= λ b. items_if f a [] n e.sort >>= λ items. Some (copy k text b items)) (node-is f a n h plain control stands ∙ bound)

pub copy-out : (f : Interface) (a : Around) (marks : ℕ → Marks) (cases : List ℕ) (n : ℕ) → inside f a [] n ≡ None → copy_of f a marks cases [] n ≡ None
copy-out f a marks cases n lost =
    let e = element_at f n in
    let copy : Option ℕ → Option (List ℕ) → Bool → List Item → Copy = λ k text enabled items. copy_with n [] k text enabled (marks_if marks k) items in
    ap (λ s. option_map (λ t. context_in f a t e) s >>= λ (d : Context). node_of f a [] n >>= λ k. value_by a d (own_binding e e.sort) e.sort k >>= λ text. is_enabled f a marks cases [] n >>= λ b. items_if f a [] n e.sort >>= λ items. Some (copy k text b items)) lost
