-- Of the places of an insert the one whose copy is replaced again is among them.
use Rattle.std.proofs.Common.{◌≡◌, ℕ, zero, suc, ◌+◌, ◌<◌, Bool, true, false, not, ◌&&◌, List, [], ◌∷◌, ◌++◌, map, filter, length, get_or, length-append, Option, Some, None, option_map, refl, sym, ap, ◌∙◌, subst, if◌then◌else◌, arith}
use Rattle.std.specs.Prelude.{◌≤◌}
use Rattle.xf_def_forest.specs.declared.content.Content.{Content}
use Rattle.xf_def_forest.specs.declared.content.Content.TheVariants.{Root, Element, Attribute, Text}
use Rattle.xf_def_forest.specs.declared.content.Node.{Node}
use Rattle.xf_def_forest.specs.Forest.{is_attribute, is_element, is_root}
use Rattle.xf_def_forest.specs.Changes.{place_among}
use Rattle.xf_def_forest.specs.Visit.{Visit, visits, has, parent_of, children_of}
use Rattle.xf_def_forest.specs.WellFormed.{have_same_name}
use Rattle.xf_def_model.specs.declared.asked.InsertAsked.{InsertAsked}
use Rattle.xf_def_model.specs.Pertinent.{AllOf}
use Rattle.xf_def_model.specs.Places.{Place, content_in, named_by, is_in, name_of, row_place, elements_among, instead, later_one, last_alike, named_place, within, beside, at_node, at_place, places_at, planned_insert}

pub record Below (bound over : ℕ) (p : Place) : Type 0 where
  pub again : (k : ℕ) → p.again ≡ Some k → k < bound
  pub parent : p.parent ≡ over

last-below : (all : List Visit) (n at : ℕ) (ps : List Place) (k : ℕ) → last_alike all n at ps ≡ Some k → k < at + length ps
last-below all n at [] k q = cc
last-below all n at (p ∷ ps) k q =
    by (last_alike all n (suc at) ps) (is_in is_attribute all p.origin && have_same_name (name_of all n) (name_of all p.origin)) (last-below all n (suc at) ps) q
  where
    by : (o : Option ℕ) (b : Bool) → ((j : ℕ) → o ≡ Some j → j < suc at + length ps) → later_one o at b ≡ Some k → k < at + length (p ∷ ps)
    by (Some j) b h w = let same : j ≡ k = cc in let less : j < suc at + length ps = h j refl in omega (arith, same, less)
    by None true h w = let same : at ≡ k = cc in omega (arith, same)
    by None false h w = cc

within-below : (all : List Visit) (parent before : ℕ) (earlier : List Place) (ns : List ℕ) (bound : ℕ)
    → length earlier + length (within all parent before earlier ns) ≤ bound → AllOf (Below bound parent) (within all parent before earlier ns)
within-below all parent before earlier [] bound h = tt
within-below all parent before earlier (n ∷ ns) bound h =
    by (is_in is_element all n) (is_in is_attribute all n)
    (within-below all parent (suc before) (earlier ++ element ∷ []) ns bound) (within-below all parent before (earlier ++ attribute ∷ []) ns bound) (within-below all parent before earlier ns bound) h
  where
    element : Place
    element = row_place parent before n

    attribute : Place
    attribute = named_place all parent earlier n

    one : List Place
    one = within all parent (suc before) (earlier ++ element ∷ []) ns

    two : List Place
    two = within all parent before (earlier ++ attribute ∷ []) ns

    three : List Place
    three = within all parent before earlier ns

    more : (x : Place) (rest : List Place) → length earlier + length (x ∷ rest) ≤ bound → length (earlier ++ x ∷ []) + length rest ≤ bound
    more x rest w = let q : length (earlier ++ x ∷ []) ≡ length earlier + length (x ∷ []) = length-append earlier (x ∷ []) in omega (arith, q, w)

    by : (b c : Bool) → (length (earlier ++ element ∷ []) + length one ≤ bound → AllOf (Below bound parent) one) → (length (earlier ++ attribute ∷ []) + length two ≤ bound → AllOf (Below bound parent) two)
        → (length earlier + length three ≤ bound → AllOf (Below bound parent) three) → length earlier + length (if b then element ∷ one else if c then attribute ∷ two else three) ≤ bound
        → AllOf (Below bound parent) (if b then element ∷ one else if c then attribute ∷ two else three)
    by true c f g k w = (record { again = λ j q. cc; parent = refl }, f (more element one w))
    by false true f g k w =
        (record { again = λ j q. let less : j < 0 + length earlier = last-below all n 0 earlier j q in omega (arith, less, w); parent = refl }, g (more attribute two w))
    by false false f g k w = k w

-- of a list of places with one parent
pub record OneParent (ps : List Place) : Type 0 where
  pub over : ℕ
  pub all : AllOf (Below (length ps) over) ps

within-one : (all : List Visit) (parent before : ℕ) (ns : List ℕ) → OneParent (within all parent before [] ns)
within-one all parent before ns =
    record { over = parent; all = within-below all parent before [] ns (length (within all parent before [] ns)) (omega arith) }

instead-one : (root n : ℕ) (ns : List ℕ) → OneParent (instead root n ns)
instead-one root n [] = record { over = 0; all = tt }
instead-one root n (m ∷ ms) = record { over = root; all = (record { again = λ j q. cc; parent = refl }, tt) }

if-one : (b : Bool) (ps qs : List Place) → OneParent ps → OneParent qs → OneParent (if b then ps else qs)
if-one true ps qs h k = h
if-one false ps qs h k = k

none-one : OneParent []
none-one = record { over = 0; all = tt }

node-one : (all : List Visit) (after : Bool) (origin : List ℕ) (n : ℕ) (c : Option Content) (o : Option ℕ) → OneParent (at_node all after origin n c o)
node-one all after origin n (Some (Element name)) (Some parent) =
    if-one (is_in is_root all parent) (instead parent n (elements_among all origin)) (beside all after parent n origin) (instead-one parent n (elements_among all origin))
    (let before = place_among n (children_of parent all) in within-one all parent (if after then suc before else before) (elements_among all origin))
node-one all after origin n (Some (Attribute name text)) (Some parent) = within-one all parent 0 (filter (is_in is_attribute all) origin)
node-one all after origin n (Some (Element name)) None = none-one
node-one all after origin n (Some (Attribute name text)) None = none-one
node-one all after origin n (Some Root) o = none-one
node-one all after origin n (Some (Text text)) o = none-one
node-one all after origin n None o = none-one

place-one : (all : List Visit) (asked : InsertAsked) (o : Option ℕ) → OneParent (at_place all asked o)
place-one all asked None = none-one
place-one all asked (Some n) = node-one all asked.after asked.origin n (content_in all n) (parent_of n all)

places-one : (all : List Visit) (asked : InsertAsked) (ns : List ℕ) → OneParent (places_at all asked ns)
places-one all asked [] =
    if-one (asked.given && is_in is_element all asked.context.number) (within all asked.context.number 0 [] asked.origin) [] (within-one all asked.context.number 0 asked.origin) none-one
places-one all asked (n ∷ ns) = place-one all asked (named_by asked.at (n ∷ ns))

-- those under a parent that is closed go together
kept-all : (closed : List ℕ) (bound over : ℕ) (ps : List Place) → AllOf (Below bound over) ps → filter (λ (p : Place). not (has p.parent closed)) ps ≡ (if not (has over closed) then ps else [])
kept-all closed bound over [] h = by (not (has over closed))
  where
    by : (b : Bool) → ◌≡◌ {A = List Place} [] (if b then [] else [])
    by true = refl
    by false = refl
kept-all closed bound over (p ∷ ps) h =
    ap (λ m. if not (has m closed) then p ∷ filter (λ (q : Place). not (has q.parent closed)) ps else filter (λ (q : Place). not (has q.parent closed)) ps) h.0.parent
    ∙ ap (λ l. if not (has over closed) then p ∷ l else l) (kept-all closed bound over ps h.1) ∙ by (not (has over closed))
  where
    by : (b : Bool) → ◌≡◌ {A = List Place} (if b then p ∷ (if b then ps else []) else (if b then ps else [])) (if b then p ∷ ps else [])
    by true = refl
    by false = refl

abbrev pub AgainIn : ℕ → List Place → Type 0
AgainIn bound ps = AllOf (λ (p : Place). (k : ℕ) → p.again ≡ Some k → k < bound) ps

forget : (bound over : ℕ) (ps : List Place) → AllOf (Below bound over) ps → AgainIn bound ps
forget bound over [] h = tt
forget bound over (p ∷ ps) h = (h.0.again, forget bound over ps h.1)

pub planned-again : (ns : List Node) (asked : InsertAsked) → AgainIn (length (planned_insert ns asked)) (planned_insert ns asked)
planned-again ns asked =
    let all = visits ns in
    let ps = places_at all asked asked.set in
    let one = places-one all asked asked.set in
    subst (λ (l : List Place). AgainIn (length l) l) (sym (kept-all asked.closed (length ps) one.over ps one.all)) (by (not (has one.over asked.closed)) ps (forget (length ps) one.over ps one.all))
  where
    by : (b : Bool) (ps : List Place) → AgainIn (length ps) ps → AgainIn (length (if b then ps else [])) (if b then ps else [])
    by true ps h = h
    by false ps h = tt

-- what is at a place that there is goes with a function
pub at-mapped : (f : ℕ → ℕ) (tops : List ℕ) (o : Option ℕ) → ((k : ℕ) → o ≡ Some k → k < length tops)
    → option_map (λ k. get_or (map f tops) k 0) o ≡ option_map f (option_map (λ k. get_or tops k 0) o)
at-mapped f tops None h = refl
at-mapped f tops (Some k) h = ap Some (at tops k (h k refl))
  where
    at : (ns : List ℕ) (j : ℕ) → j < length ns → get_or (map f ns) j 0 ≡ f (get_or ns j 0)
    at [] j less = let no : ⊥ = omega (arith, less) in absurd no
    at (n ∷ ns) zero less = refl
    at (n ∷ ns) (suc j) less = at ns j (omega (arith, less))
