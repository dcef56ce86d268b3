-- Copies over data of which texts alone have changed: those that a whole pass makes are the former ones with the values that their nodes have now.
use Rattle.std.proofs.Common.{◌≡◌, ℕ, zero, suc, ◌+◌, Bool, true, false, cond, not, ◌&&◌, List, [], ◌∷◌, ◌++◌, map, length, Option, Some, None, option_map, refl, sym, ap, ◌∙◌, subst}
use Rattle.std.specs.Prelude.{filter, fold, nat_lt, sum_by}
use Rattle.std.specs.List.{flat_map, list_all}
use Rattle.xf_def_syntax.specs.declared.form.Form.{Form}
use Rattle.xf_def_forest.specs.declared.content.Node.{Node}
use Rattle.xf_def_forest.specs.declared.node.NodeId.{NodeId}
use Rattle.xf_def_xpath.specs.Given.{Given}
use Rattle.xf_def_xpath.specs.Setting.{◌>>=◌, each}
use Rattle.xf_def_xpath.specs.Binding.{as_list}
use Rattle.xf_eval.specs.Live.{AllLive}
use Rattle.xf_def_model.specs.Pertinent.{AllOf}
use Rattle.xf_def_ui.specs.declared.marks.Marks.{Marks}
use Rattle.xf_def_ui.specs.Interface.{Bound, unbound, nodes, by_bind, Interface, Sort, interface_of, output}
use Rattle.xf_def_ui.specs.Elements.{element_at, ancestors, children, is_container, is_control}
use Rattle.xf_def_ui.specs.Around.{Around, first_bound}
use Rattle.xf_def_ui.specs.Cases.{is_in_selected}
use Rattle.xf_def_ui.specs.Context.{Context, context_of}
use Rattle.xf_def_ui.specs.Index.{Index}
use Rattle.xf_def_ui.specs.Copies.{Copy, copies, copy_count, copy_of, copy_with, is_enabled, is_open, is_open_by, items_if, marks_if, node_of, own_binding, relevant_if, value_by, with_containers}
use Rattle.xf_def_ui.specs.Places.{Places, if_control, places}
use Rattle.xf_controls.specs.declared.copy.ControlCopy.{ControlCopy}
use Rattle.xf_controls.specs.declared.known.Known.{Known}
use Rattle.xf_controls.specs.Bound.{AllBound}
use Rattle.xf_controls.specs.Handed.{printed_in}
use Rattle.xf_controls.specs.Known.{AreKnown, known_at}
use Rattle.xf_controls.specs.Plain.{is_plain}
use Rattle.xf_controls.specs.Renewed.{AreThere, renewed, renewed_copy, value_over, with_value}
use Rattle.xf_controls.specs.Rising.{is_rising, rises_from}
use Rattle.xf_controls.specs.Seen.{IsThere, number, seen_copy}
use Rattle.xf_controls.specs.Surrounded.{IsQuiet, around_in}
use Rattle.xf_controls.proofs.BelowLaws.{copy_at}
use Rattle.xf_controls.proofs.FormLaws.{repeats-none}
use Rattle.xf_controls.proofs.HandedLaws.{container-control, items-plain, selected-plain}
use Rattle.xf_controls.proofs.PlaceLaws.{places_below, places-plain, plain-at}
use Rattle.xf_controls.proofs.WholeLaws.{seeing-same}

-- ---- copies with other values

-- each copy is the one at its place with a value of its own
abbrev pub AreOver : List ControlCopy → List ControlCopy → Type 0
AreOver [] [] = Unit {0}
AreOver [] (n ∷ ns) = ⊥
AreOver (o ∷ os) [] = ⊥
AreOver (o ∷ os) (n ∷ ns) = (n ≡ with_value o n.value) × AreOver os ns

over-one : (c n : ControlCopy) (m : Option (Option (List ℕ))) → option_map (with_value c) m ≡ Some n → n ≡ with_value c n.value
over-one c n None e = cc e
over-one c n (Some v) e = let same : with_value c v ≡ n = cc e in sym same ∙ ap (λ (x : ControlCopy). with_value c x.value) same

-- the first of them and the others
pub first-and-rest : {A : Type 0} (m : Option A) (ms : Option (List A)) (x : A) (xs : List A) → (m >>= λ y. ms >>= λ ys. Some (y ∷ ys)) ≡ Some (x ∷ xs) → (m ≡ Some x) × (ms ≡ Some xs)
first-and-rest None ms x xs e = cc e
first-and-rest (Some y) None x xs e = cc e
first-and-rest (Some y) (Some ys) x xs e = let same : y ∷ ys ≡ x ∷ xs = cc e in let one : y ≡ x = cc same in let all : ys ≡ xs = cc same in (ap Some one, ap Some all)

none-of-some : {A C : Type 0} (m : Option A) (ms : Option (List A)) → (m >>= λ y. ms >>= λ ys. Some (y ∷ ys)) ≡ Some [] → C
none-of-some None ms e = cc e
none-of-some (Some y) None e = cc e
none-of-some (Some y) (Some ys) e = let no : ◌≡◌ {A = List _} (y ∷ ys) [] = cc e in cc no

pub renewed-over : (all : List Node) (list now : List ControlCopy) → renewed all list ≡ Some now → AreOver list now
renewed-over all [] [] e = tt
renewed-over all [] (n ∷ ns) e = let no : ◌≡◌ {A = List ControlCopy} [] (n ∷ ns) = cc e in cc no
renewed-over all (c ∷ cs) [] e = none-of-some (renewed_copy all c) (renewed all cs) e
renewed-over all (c ∷ cs) (n ∷ ns) e =
    let both = first-and-rest (renewed_copy all c) (renewed all cs) n ns e in
    (over-one c n (value_over all (option_map number c.node)) both.0, renewed-over all cs ns both.1)

over-again : (all : List Node) (list now : List ControlCopy) → AreOver list now → renewed all now ≡ renewed all list
over-again all [] [] h = refl
over-again all [] (n ∷ ns) h = absurd h
over-again all (c ∷ cs) [] h = absurd h
over-again all (c ∷ cs) (n ∷ ns) h =
    ap (λ x. renewed_copy all x >>= λ y. renewed all ns >>= λ ys. Some (y ∷ ys)) h.0
    ∙ ap (λ m. renewed_copy all c >>= λ y. m >>= λ ys. Some (y ∷ ys)) (over-again all cs ns h.1)

over-there : (all : List Node) (list now : List ControlCopy) → AreOver list now → AreThere list all → AreThere now all
over-there all [] [] h t = tt
over-there all [] (n ∷ ns) h t = absurd h
over-there all (c ∷ cs) [] h t = absurd h
over-there all (c ∷ cs) (n ∷ ns) h t = (subst (λ (x : ControlCopy). IsThere x.node all) (sym h.0) t.0, over-there all cs ns h.1 t.1)

over-rising : (least : ℕ) (list now : List ControlCopy) → AreOver list now → rises_from least now ≡ rises_from least list
over-rising least [] [] h = refl
over-rising least [] (n ∷ ns) h = absurd h
over-rising least (c ∷ cs) [] h = absurd h
over-rising least (c ∷ cs) (n ∷ ns) h =
    ap (λ (x : ControlCopy). rises_from least (x ∷ ns)) h.0
    ∙ ap (λ b. not (nat_lt c.element least) && b) (over-rising (suc c.element) cs ns h.1)

-- ---- a list that is renewed

pub renewed-again : (all later : List Node) (list now : List ControlCopy) → renewed all list ≡ Some now → renewed later now ≡ renewed later list
renewed-again all later list now e = over-again later list now (renewed-over all list now e)

pub renewed-there : (all later : List Node) (list now : List ControlCopy) → renewed all list ≡ Some now → AreThere list later → AreThere now later
renewed-there all later list now e t = over-there later list now (renewed-over all list now e) t

pub renewed-rising : (all : List Node) (list now : List ControlCopy) → renewed all list ≡ Some now → is_rising now ≡ is_rising list
renewed-rising all list now e = over-rising 0 list now (renewed-over all list now e)

over-length : (list now : List ControlCopy) → AreOver list now → length (map seen_copy now) ≡ length (map seen_copy list)
over-length [] [] h = refl
over-length [] (n ∷ ns) h = absurd h
over-length (c ∷ cs) [] h = absurd h
over-length (c ∷ cs) (n ∷ ns) h = ap suc (over-length cs ns h.1)

over-items : (k : ℕ) (list now : List ControlCopy) → AreOver list now → fold (λ n (c : Copy). n + length c.items) k (map seen_copy now) ≡ fold (λ n (c : Copy). n + length c.items) k (map seen_copy list)
over-items k [] [] h = refl
over-items k [] (n ∷ ns) h = absurd h
over-items k (c ∷ cs) [] h = absurd h
over-items k (c ∷ cs) (n ∷ ns) h =
    ap (λ (x : ControlCopy). fold (λ m (y : Copy). m + length y.items) (k + length x.items) (map seen_copy ns)) h.0 ∙ over-items (k + length c.items) cs ns h.1

pub renewed-count : (all : List Node) (list now : List ControlCopy) → renewed all list ≡ Some now → copy_count (map seen_copy now) ≡ copy_count (map seen_copy list)
renewed-count all list now e =
    let over = renewed-over all list now e in
    ap (λ k. k + sum_by (λ (c : Copy). length c.items) (map seen_copy now)) (over-length list now over) ∙ ap (λ k. length (map seen_copy list) + k) (over-items 0 list now over)

-- ---- by what is known

abbrev node_if : Option (Option NodeId) → Option ℕ
node_if None = None
node_if (Some k) = option_map number k

-- the node that an element binds, where it is known
abbrev node_by : List Known → ℕ → Option ℕ
node_by known n = node_if (known_at known n)

abbrev open_by : Interface → List Known → (ℕ → Marks) → ℕ → Bool
open_by f known marks n = is_open_by marks (own_binding (element_at f n) (element_at f n).sort) (node_by known n)

abbrev enabled_by : Interface → List Known → (ℕ → Marks) → ℕ → Bool
enabled_by f known marks n = list_all (λ b. b) (map (open_by f known marks) (with_containers f n))

abbrev copy_by : Interface → List Known → List Node → (ℕ → Marks) → ℕ → Option Copy
copy_by f known all marks n = option_map (λ text. copy_with n [] (node_by known n) text (enabled_by f known marks n) (marks_if marks (node_by known n)) []) (value_over all (node_by known n))

-- ---- what is shown without a node

unprinted-none : (a : Around) (c : Context) (binding : Bound) (sort : Sort) → printed_in sort ≡ None → value_by a c binding sort None ≡ Some None
unprinted-none a c unbound (output None) e = refl
unprinted-none a c unbound (output (Some m)) e = cc e
unprinted-none a c unbound sort e = refl
unprinted-none a c (nodes m) sort e = refl
unprinted-none a c (by_bind k) sort e = refl

-- ---- over one list of nodes

module _ (form : Form) (given : Given) (all : List Node) (marks : ℕ → Marks) (known : List Known) (cases : List ℕ) (plain : is_plain (interface_of form) ≡ true)
    (bound : AllBound (interface_of form) known) (are : AreKnown (interface_of form) (around_in given form.tables all) all known) where
  abbrev f : Interface
  f = interface_of form

  abbrev a : Around
  a = around_in given form.tables all

  node-so : (n : ℕ) → is_control (element_at f n).sort ≡ true → node_of f a [] n ≡ Some (node_by known n)
  node-so n c =
      let b = bound n c in
      are.node n b.node b.known_so ∙ ap (λ k. Some (node_if k)) (sym b.known_so)

  node-there : (n : ℕ) → is_control (element_at f n).sort ≡ true → AllLive (as_list (node_by known n)) all
  node-there n c =
      let b = bound n c in
      subst (λ k. AllLive (as_list (node_if k)) all) (sym b.known_so) (are.live n b.node b.known_so)

  open-so : (n : ℕ) → is_control (element_at f n).sort ≡ true → is_open f a marks [] n ≡ Some (open_by f known marks n)
  open-so n c = ap (option_map (is_open_by marks (own_binding (element_at f n) (element_at f n).sort))) (node-so n c)

  each-open : (ns : List ℕ) → each (is_open f a marks []) (filter (λ m. is_container (element_at f m).sort) ns) ≡ Some (map (open_by f known marks) (filter (λ m. is_container (element_at f m).sort) ns))
  each-open [] = refl
  each-open (n ∷ ns) = by (each-open ns) (is_container (element_at f n).sort) refl
    where
      by : each (is_open f a marks []) (filter (λ m. is_container (element_at f m).sort) ns) ≡ Some (map (open_by f known marks) (filter (λ m. is_container (element_at f m).sort) ns)) → (b : Bool) → is_container (element_at f n).sort ≡ b
          → each (is_open f a marks []) (cond b (n ∷ filter (λ m. is_container (element_at f m).sort) ns) (filter (λ m. is_container (element_at f m).sort) ns))
          ≡ Some (map (open_by f known marks) (cond b (n ∷ filter (λ m. is_container (element_at f m).sort) ns) (filter (λ m. is_container (element_at f m).sort) ns)))
      by rest true e =
          ap (λ m. m >>= λ y. each (is_open f a marks []) (filter (λ k. is_container (element_at f k).sort) ns) >>= λ ys. Some (y ∷ ys)) (open-so n (container-control (element_at f n).sort e))
          ∙ ap (λ m. m >>= λ ys. Some (open_by f known marks n ∷ ys)) rest
      by rest false e = rest

  and-true : (b c : Bool) → c ≡ true → (b && c) ≡ b
  and-true true c e = e
  and-true false c e = refl

  enabled-so : (n : ℕ) → is_control (element_at f n).sort ≡ true → is_enabled f a marks cases [] n ≡ Some (enabled_by f known marks n)
  enabled-so n c =
      let rest = filter (λ m. is_container (element_at f m).sort) (ancestors f n) in
      ap (λ m. option_map (λ bs. list_all (λ b. b) bs && is_in_selected f cases n) (m >>= λ y. each (is_open f a marks []) rest >>= λ ys. Some (y ∷ ys))) (open-so n c)
      ∙ ap (λ m. option_map (λ bs. list_all (λ b. b) bs && is_in_selected f cases n) (m >>= λ ys. Some (open_by f known marks n ∷ ys))) (each-open (ancestors f n))
      ∙ ap Some (and-true (enabled_by f known marks n) (is_in_selected f cases n) (selected-plain f cases n plain))

  value-so : (n : ℕ) (c : Context) → is_control (element_at f n).sort ≡ true → value_by a c (own_binding (element_at f n) (element_at f n).sort) (element_at f n).sort (node_by known n) ≡ value_over all (node_by known n)
  value-so n c control = by (bound n control).node (bound n control).unprinted (ap node_if (bound n control).known_so)
    where
      by : (k : Option NodeId) → (k ≡ None → printed_in (element_at f n).sort ≡ None) → node_by known n ≡ option_map number k
          → value_by a c (own_binding (element_at f n) (element_at f n).sort) (element_at f n).sort (node_by known n) ≡ value_over all (node_by known n)
      by None un e =
          ap (value_by a c (own_binding (element_at f n) (element_at f n).sort) (element_at f n).sort) e
          ∙ unprinted-none a c (own_binding (element_at f n) (element_at f n).sort) (element_at f n).sort (un refl) ∙ sym (ap (value_over all) e)
      by (Some k) un e =
          ap (value_by a c (own_binding (element_at f n) (element_at f n).sort) (element_at f n).sort) e ∙ sym (ap (value_over all) e)

  copy-so : (n : ℕ) → is_control (element_at f n).sort ≡ true → copy_of f a marks cases [] n ≡ copy_by f known all marks n
  copy-so n control = by (context_of f a [] n) refl
    where
      last : (m : Option (Option (List ℕ))) → (m >>= λ text. Some (copy_with n [] (node_by known n) text (enabled_by f known marks n) (marks_if marks (node_by known n)) []))
          ≡ option_map (λ text. copy_with n [] (node_by known n) text (enabled_by f known marks n) (marks_if marks (node_by known n)) []) m
      last None = refl
      last (Some v) = refl

      of : (c : Context) → (value_by a c (own_binding (element_at f n) (element_at f n).sort) (element_at f n).sort (node_by known n) >>= λ text. is_enabled f a marks cases [] n >>= λ enabled. items_if f a [] n (element_at f n).sort >>= λ items. Some (copy_with n [] (node_by known n) text enabled (marks_if marks (node_by known n)) items))
          ≡ copy_by f known all marks n
      of c =
          ap (λ m. value_by a c (own_binding (element_at f n) (element_at f n).sort) (element_at f n).sort (node_by known n) >>= λ text. m >>= λ enabled. items_if f a [] n (element_at f n).sort >>= λ items. Some (copy_with n [] (node_by known n) text enabled (marks_if marks (node_by known n)) items)) (enabled-so n control)
          ∙ ap (λ m. value_by a c (own_binding (element_at f n) (element_at f n).sort) (element_at f n).sort (node_by known n) >>= λ text. m >>= λ items. Some (copy_with n [] (node_by known n) text (enabled_by f known marks n) (marks_if marks (node_by known n)) items)) (items-plain f a n (element_at f n).sort (plain-at f n plain))
          ∙ ap (λ m. m >>= λ text. Some (copy_with n [] (node_by known n) text (enabled_by f known marks n) (marks_if marks (node_by known n)) [])) (value-so n c control)
          ∙ last (value_over all (node_by known n))

      by : (c : Option Context) → context_of f a [] n ≡ c
          → (c >>= λ (d : Context). node_of f a [] n >>= λ node. value_by a d (own_binding (element_at f n) (element_at f n).sort) (element_at f n).sort node >>= λ text. is_enabled f a marks cases [] n >>= λ enabled. items_if f a [] n (element_at f n).sort >>= λ items. Some (copy_with n [] node text enabled (marks_if marks node) items))
          ≡ copy_by f known all marks n
      by None i =
          let no : ◌≡◌ {A = Option (Option ℕ)} None (Some (node_by known n)) = sym (ap (λ m. m >>= λ (d : Context). first_bound a d.model (own_binding (element_at f n) (element_at f n).sort) d.focus) i) ∙ node-so n control in cc no
      by (Some d) i =
          ap (λ m. m >>= λ node. value_by a d (own_binding (element_at f n) (element_at f n).sort) (element_at f n).sort node >>= λ text. is_enabled f a marks cases [] n >>= λ enabled. items_if f a [] n (element_at f n).sort >>= λ items. Some (copy_with n [] node text enabled (marks_if marks node) items)) (node-so n control)
          ∙ of d

  -- all of them, over the places of the form
  each-places : (indexes : List Index) → IsQuiet given → copies f a marks cases indexes ≡ each (copy_at f a marks cases) (places_below (length f.elements) f 0)
  each-places indexes quiet =
      ap (λ b. places f b >>= each (copy_at f b marks cases)) (seeing-same f indexes given form.tables all (repeats-none f plain) quiet)
      ∙ ap (λ m. m >>= each (copy_at f a marks cases)) (places-plain f a plain (length f.elements) 0)

-- ---- the places of a form

-- a control or container, in no row
abbrev IsOne : Interface → ℕ × List ℕ → Type 0
IsOne f p = (is_control (element_at f p.0).sort ≡ true) × (p.1 ≡ [])

all-append : {X : Type 0} (P : X → Type 0) (xs ys : List X) → AllOf P xs → AllOf P ys → AllOf P (xs ++ ys)
all-append P [] ys h k = k
all-append P (x ∷ xs) ys h k = (h.0, all-append P xs ys h.1 k)

all-flat : {X Y : Type 0} (P : Y → Type 0) (g : X → List Y) → ((x : X) → AllOf P (g x)) → (xs : List X) → AllOf P (flat_map g xs)
all-flat P g h [] = tt
all-flat P g h (x ∷ xs) = all-append P (g x) (flat_map g xs) (h x) (all-flat P g h xs)

all-one : (f : Interface) (most n : ℕ) → AllOf (IsOne f) (places_below most f n)
all-one f zero n = tt
all-one f (suc most) n = by (all-flat (IsOne f) (places_below most f) (all-one f most) (children f n)) (is_control (element_at f n).sort) refl
  where
    by : AllOf (IsOne f) (flat_map (places_below most f) (children f n)) → (b : Bool) → is_control (element_at f n).sort ≡ b → AllOf (IsOne f) (if_control b n [] (flat_map (places_below most f) (children f n)))
    by rest true e = ((e, refl), rest)
    by rest false e = rest

-- ---- over two lists of nodes

module _ (form : Form) (known : List Known) (m m' : ℕ → Marks) (bound : AllBound (interface_of form) known)
    (same : (n : ℕ) (k : NodeId) → known_at known n ≡ Some (Some k) → m' k.number ≡ m k.number) where
  abbrev g : Interface
  g = interface_of form

  node-known : (n : ℕ) → is_control (element_at g n).sort ≡ true → (k : Option NodeId) × (known_at known n ≡ Some k)
  node-known n c = let b = bound n c in (b.node, b.known_so)

  marks-same : (n : ℕ) → is_control (element_at g n).sort ≡ true → marks_if m' (node_by known n) ≡ marks_if m (node_by known n)
  marks-same n c = let k = node-known n c in by k.0 k.1
    where
      by : (k : Option NodeId) → known_at known n ≡ Some k → marks_if m' (node_by known n) ≡ marks_if m (node_by known n)
      by None e = ap (λ o. marks_if m' (node_if o)) e ∙ sym (ap (λ o. marks_if m (node_if o)) e)
      by (Some k) e = ap (λ o. marks_if m' (node_if o)) e ∙ same n k e ∙ sym (ap (λ o. marks_if m (node_if o)) e)

  relevant-same : (k : Option ℕ) → marks_if m' k ≡ marks_if m k → relevant_if m' k ≡ relevant_if m k
  relevant-same None e = refl
  relevant-same (Some n) e = ap (λ (x : Marks). x.relevant) e

  open-by-same : (b : Bound) (k : Option ℕ) → marks_if m' k ≡ marks_if m k → is_open_by m' b k ≡ is_open_by m b k
  open-by-same unbound k e = refl
  open-by-same (nodes x) k e = relevant-same k e
  open-by-same (by_bind x) k e = relevant-same k e

  open-same : (n : ℕ) → is_control (element_at g n).sort ≡ true → open_by g known m' n ≡ open_by g known m n
  open-same n c = open-by-same (own_binding (element_at g n) (element_at g n).sort) (node_by known n) (marks-same n c)

  opens-same : (ns : List ℕ) → map (open_by g known m') (filter (λ k. is_container (element_at g k).sort) ns) ≡ map (open_by g known m) (filter (λ k. is_container (element_at g k).sort) ns)
  opens-same [] = refl
  opens-same (n ∷ ns) = by (opens-same ns) (is_container (element_at g n).sort) refl
    where
      by : map (open_by g known m') (filter (λ k. is_container (element_at g k).sort) ns) ≡ map (open_by g known m) (filter (λ k. is_container (element_at g k).sort) ns) → (b : Bool) → is_container (element_at g n).sort ≡ b
          → map (open_by g known m') (cond b (n ∷ filter (λ k. is_container (element_at g k).sort) ns) (filter (λ k. is_container (element_at g k).sort) ns))
          ≡ map (open_by g known m) (cond b (n ∷ filter (λ k. is_container (element_at g k).sort) ns) (filter (λ k. is_container (element_at g k).sort) ns))
      by rest true e =
          ap (λ b. b ∷ map (open_by g known m') (filter (λ k. is_container (element_at g k).sort) ns)) (open-same n (container-control (element_at g n).sort e))
          ∙ ap (λ bs. open_by g known m n ∷ bs) rest
      by rest false e = rest

  enabled-same : (n : ℕ) → is_control (element_at g n).sort ≡ true → enabled_by g known m' n ≡ enabled_by g known m n
  enabled-same n c =
      ap (λ b. b && list_all (λ x. x) (map (open_by g known m') (filter (λ k. is_container (element_at g k).sort) (ancestors g n)))) (open-same n c)
      ∙ ap (λ bs. open_by g known m n && list_all (λ x. x) bs) (opens-same (ancestors g n))

  -- what a copy was, with the value that its node has now
  copy-again : (all all' : List Node) (n : ℕ) (c : ControlCopy) → is_control (element_at g n).sort ≡ true → copy_by g known all m n ≡ Some (seen_copy c)
      → (option_map number c.node ≡ node_by known n) × (copy_by g known all' m' n ≡ option_map seen_copy (renewed_copy all' c))
  copy-again all all' n c control e = by (value_over all (node_by known n)) e
    where
      again : (v : Option (List ℕ)) → copy_with n [] (node_by known n) v (enabled_by g known m n) (marks_if m (node_by known n)) [] ≡ seen_copy c → (w : Option (Option (List ℕ)))
          → option_map (λ text. copy_with n [] (node_by known n) text (enabled_by g known m' n) (marks_if m' (node_by known n)) []) w ≡ option_map seen_copy (option_map (with_value c) w)
      again v same-copy None = refl
      again v same-copy (Some w) =
          ap (λ b. Some (copy_with n [] (node_by known n) w b (marks_if m' (node_by known n)) [])) (enabled-same n control)
          ∙ ap (λ x. Some (copy_with n [] (node_by known n) w (enabled_by g known m n) x [])) (marks-same n control)
          ∙ ap (λ (x : Copy). Some (record x { value = w })) same-copy

      by : (o : Option (Option (List ℕ))) → option_map (λ text. copy_with n [] (node_by known n) text (enabled_by g known m n) (marks_if m (node_by known n)) []) o ≡ Some (seen_copy c)
          → (option_map number c.node ≡ node_by known n) × (copy_by g known all' m' n ≡ option_map seen_copy (renewed_copy all' c))
      by None i = cc i
      by (Some v) i =
          let same-copy : copy_with n [] (node_by known n) v (enabled_by g known m n) (marks_if m (node_by known n)) [] ≡ seen_copy c = cc i in
          let node : option_map number c.node ≡ node_by known n = sym (ap (λ (x : Copy). x.node) same-copy) in
          (node, again v same-copy (value_over all' (node_by known n)) ∙ ap (λ k. option_map seen_copy (option_map (with_value c) (value_over all' k))) (sym node))

module _ (form : Form) (given later : Given) (all all' : List Node) (m m' : ℕ → Marks) (known : List Known) (cases cases' : List ℕ) (plain : is_plain (interface_of form) ≡ true)
    (bound : AllBound (interface_of form) known) (are : AreKnown (interface_of form) (around_in given form.tables all) all known) (are' : AreKnown (interface_of form) (around_in later form.tables all') all' known)
    (same : (n : ℕ) (k : NodeId) → known_at known n ≡ Some (Some k) → m' k.number ≡ m k.number) where
  abbrev whole : Interface
  whole = interface_of form

  abbrev before : Around
  before = around_in given form.tables all

  abbrev now : Around
  now = around_in later form.tables all'

  place-again : (p : ℕ × List ℕ) (c : ControlCopy) → IsOne whole p → copy_at whole before m cases p ≡ Some (seen_copy c)
      → (AllLive (as_list (option_map number c.node)) all') × (copy_at whole now m' cases' p ≡ option_map seen_copy (renewed_copy all' c))
  place-again p c one e =
      let n = p.0 in
      let was : copy_by whole known all m n ≡ Some (seen_copy c) = sym (copy-so form given all m known cases plain bound are n one.0) ∙ ap (λ rows. copy_of whole before m cases rows n) (sym one.1) ∙ e in
      let again = copy-again form known m m' bound same all all' n c one.0 was in (
        subst (λ k. AllLive (as_list k) all') (sym again.0) (node-there form later all' m' known cases' plain bound are' n one.0),
        ap (λ rows. copy_of whole now m' cases' rows n) one.1 ∙ copy-so form later all' m' known cases' plain bound are' n one.0 ∙ again.1,
      )

  put-seen : (x : Option ControlCopy) (xs : Option (List ControlCopy)) → (option_map seen_copy x >>= λ y. option_map (map seen_copy) xs >>= λ ys. Some (y ∷ ys)) ≡ option_map (map seen_copy) (x >>= λ y. xs >>= λ ys. Some (y ∷ ys))
  put-seen None xs = refl
  put-seen (Some x) None = refl
  put-seen (Some x) (Some xs) = refl

  places-again : (ps : Places) (list : List ControlCopy) → AllOf (IsOne whole) ps → each (copy_at whole before m cases) ps ≡ Some (map seen_copy list)
      → AreThere list all' × (each (copy_at whole now m' cases') ps ≡ option_map (map seen_copy) (renewed all' list))
  places-again [] [] ones e = (tt, refl)
  places-again [] (c ∷ cs) ones e = let no : ◌≡◌ {A = List Copy} [] (map seen_copy (c ∷ cs)) = cc e in cc no
  places-again (p ∷ ps) [] ones e = none-of-some (copy_at whole before m cases p) (each (copy_at whole before m cases) ps) e
  places-again (p ∷ ps) (c ∷ cs) ones e =
      let both = first-and-rest (copy_at whole before m cases p) (each (copy_at whole before m cases) ps) (seen_copy c) (map seen_copy cs) e in
      let here = place-again p c ones.0 both.0 in
      let rest = places-again ps cs ones.1 both.1 in (
        (here.0, rest.0),
        ap (λ x. x >>= λ y. each (copy_at whole now m' cases') ps >>= λ ys. Some (y ∷ ys)) here.1 ∙ ap (λ xs. option_map seen_copy (renewed_copy all' c) >>= λ y. xs >>= λ ys. Some (y ∷ ys)) rest.1
            ∙ put-seen (renewed_copy all' c) (renewed all' cs),
      )

-- ---- the laws

-- over data that differ in texts, with the same properties of the nodes that are bound, a whole pass makes the former copies with the values that
-- their nodes have now
pub copies-renewed : (form : Form) (given later : Given) (nodes nodes' : List Node) (m m' : ℕ → Marks) (known : List Known) (list : List ControlCopy) (cases cases' : List ℕ) (indexes indexes' : List Index)
    → is_plain (interface_of form) ≡ true → IsQuiet given → IsQuiet later → AllBound (interface_of form) known
    → AreKnown (interface_of form) (around_in given form.tables nodes) nodes known → AreKnown (interface_of form) (around_in later form.tables nodes') nodes' known
    → ((n : ℕ) (k : NodeId) → known_at known n ≡ Some (Some k) → m' k.number ≡ m k.number)
    → copies (interface_of form) (around_in given form.tables nodes) m cases indexes ≡ Some (map seen_copy list)
    → copies (interface_of form) (around_in later form.tables nodes') m' cases' indexes' ≡ option_map (map seen_copy) (renewed nodes' list)
copies-renewed form given later all all' m m' known list cases cases' indexes indexes' plain quiet quiet' bound are are' same e =
    let f = interface_of form in
    let was = sym (each-places form given all m known cases plain bound are indexes quiet) ∙ e in
    each-places form later all' m' known cases' plain bound are' indexes' quiet'
    ∙ (places-again form given later all all' m m' known cases cases' plain bound are are' same (places_below (length f.elements) f 0) list (all-one f (length f.elements) 0) was).1

-- each of them binds a node that stands in the data
pub copies-there : (form : Form) (given later : Given) (nodes nodes' : List Node) (m m' : ℕ → Marks) (known : List Known) (list : List ControlCopy) (cases cases' : List ℕ) (indexes indexes' : List Index)
    → is_plain (interface_of form) ≡ true → IsQuiet given → IsQuiet later → AllBound (interface_of form) known
    → AreKnown (interface_of form) (around_in given form.tables nodes) nodes known → AreKnown (interface_of form) (around_in later form.tables nodes') nodes' known
    → ((n : ℕ) (k : NodeId) → known_at known n ≡ Some (Some k) → m' k.number ≡ m k.number)
    → copies (interface_of form) (around_in given form.tables nodes) m cases indexes ≡ Some (map seen_copy list)
    → AreThere list nodes'
copies-there form given later all all' m m' known list cases cases' indexes indexes' plain quiet quiet' bound are are' same e =
    let f = interface_of form in
    let was = sym (each-places form given all m known cases plain bound are indexes quiet) ∙ e in
    (places-again form given later all all' m m' known cases cases' plain bound are are' same (places_below (length f.elements) f 0) list (all-one f (length f.elements) 0) was).0
