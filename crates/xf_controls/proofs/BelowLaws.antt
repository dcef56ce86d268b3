-- The copies of an element and of those in it, by what is handed down, are those of the places below it.
use Rattle.std.proofs.Common.{◌≡◌, ℕ, zero, suc, ◌+◌, ◌≤◌, Bool, true, false, not, ◌&&◌, ◌||◌, List, [], ◌∷◌, ◌++◌, length, Option, Some, None, option_map, refl, sym, ap, ◌∙◌, arith}
use Rattle.std.specs.List.{flat_map}
use Rattle.xf_def_syntax.specs.declared.element.Part.{Part}
use Rattle.xf_def_syntax.specs.declared.element.Part.TheVariants as part
use Rattle.xf_def_syntax.specs.Ordered.{child_in}
use Rattle.xf_def_xpath.specs.Setting.{Focus, ◌>>=◌, each}
use Rattle.xf_def_ui.specs.Interface.{Bound, unbound, nodes, by_bind, Interface}
use Rattle.xf_def_ui.specs.Elements.{element_at, ancestors, children, is_control}
use Rattle.xf_def_ui.specs.Around.{Around, first_bound}
use Rattle.xf_def_ui.specs.Context.{enter, inside, focus_in, scope_of}
use Rattle.xf_def_ui.specs.declared.marks.Marks.{Marks}
use Rattle.xf_def_ui.specs.Copies.{Copy, copy_of}
use Rattle.xf_def_ui.specs.Places.{Places}
use Rattle.xf_def_ui.specs.Places as places
use Rattle.xf_controls.specs.Plain.{is_plain}
use Rattle.xf_controls.specs.Handed.{Handed, inside_of, place_for, node_in, handed_by, copy_by}
use Rattle.xf_controls.specs.Below.{shows, some_shown, is_bound, is_passed, of_parts, if_control, copies_by, unless, copies_from}
use Rattle.xf_controls.proofs.OptionLaws.{after, after-nothing, alone, each-append, each-first}
use Rattle.xf_controls.proofs.PlaceLaws.{plain-at, places_below, none-shown}
use Rattle.xf_controls.proofs.PathLaws.{ancestors-child, inside-child}
use Rattle.xf_controls.proofs.HandedLaws.{enter-is, open_all, open-below, copy-is, copy-lost, copy-out}

-- ---- the children of an element

abbrev pub EachChild : (ℕ → Type 0) → List Part → Type 0
EachChild P [] = Unit {0}
EachChild P (part.Text text ∷ ps) = EachChild P ps
EachChild P (part.Element n ∷ ps) = P n × EachChild P ps

pub each-child : (P Q : ℕ → Type 0) → ((n : ℕ) → P n → Q n) → (ps : List Part) → EachChild P ps → EachChild Q ps
each-child P Q h [] e = tt
each-child P Q h (part.Text text ∷ ps) e = each-child P Q h ps e
each-child P Q h (part.Element n ∷ ps) e = (h n e.0, each-child P Q h ps e.1)

-- each child has its element as parent
abbrev pub Parents : Interface → Type 0
Parents f = (n : ℕ) → EachChild (λ m. (element_at f m).parent ≡ Some n) (element_at f n).parts

-- ---- the copies of places

abbrev pub copy_at : Interface → Around → (ℕ → Marks) → List ℕ → ℕ × List ℕ → Option Copy
copy_at f a marks cases p = copy_of f a marks cases p.1 p.0

parts-are : (made : ℕ × List ℕ → Option Copy) (further : ℕ → Option (List Copy)) (below : ℕ → Places) (ps : List Part) → EachChild (λ m. further m ≡ each made (below m)) ps
    → of_parts further ps ≡ each made (flat_map below (flat_map child_in ps))
parts-are made further below [] e = refl
parts-are made further below (part.Text text ∷ ps) e = after-nothing (of_parts further ps) ∙ parts-are made further below ps e
parts-are made further below (part.Element n ∷ ps) e =
    ap (λ m. after m (of_parts further ps)) e.0
    ∙ ap (after (each made (below n))) (parts-are made further below ps e.1)
    ∙ sym (each-append made (below n) (flat_map below (flat_map child_in ps)))

own-is : (made : ℕ × List ℕ → Option Copy) (n : ℕ) (rest : Places) (copy : Option Copy) (control : Bool) → (control ≡ true → made (n, []) ≡ copy) → after (if_control control copy) (each made rest) ≡ each made (places.if_control control n [] rest)
own-is made n rest copy true h = ap (λ m. after (alone m) (each made rest)) (sym (h refl)) ∙ sym (each-first made (n, []) rest)
own-is made n rest copy false h = after-nothing (each made rest)

-- ---- where what is around is too long

after-lost : {B : Type 0} (m : Option (List B)) → after m None ≡ None
after-lost None = refl
after-lost (Some xs) = refl

or-second : (x y : Bool) → x ≡ false → (x || y) ≡ true → y ≡ true
or-second true y h e = cc h
or-second false y h e = e

lost-among : (made : ℕ × List ℕ → Option Copy) (further : ℕ → Bool) (below : ℕ → Places) (ps : List Part) → EachChild (λ m. further m ≡ true → each made (below m) ≡ None) ps → some_shown further ps ≡ true
    → each made (flat_map below (flat_map child_in ps)) ≡ None
lost-among made further below [] e h = cc h
lost-among made further below (part.Text text ∷ ps) e h = lost-among made further below ps e h
lost-among made further below (part.Element n ∷ ps) e h = each-append made (below n) (flat_map below (flat_map child_in ps)) ∙ by (lost-among made further below ps e.1) (further n) refl
  where
    by : (some_shown further ps ≡ true → each made (flat_map below (flat_map child_in ps)) ≡ None) → (b : Bool) → further n ≡ b → after (each made (below n)) (each made (flat_map below (flat_map child_in ps))) ≡ None
    by rest true s = ap (λ m. after m (each made (flat_map below (flat_map child_in ps)))) (e.0 s)
    by rest false s = ap (after (each made (below n))) (rest (or-second (further n) (some_shown further ps) s h)) ∙ after-lost (each made (below n))

lost-first : (made : ℕ × List ℕ → Option Copy) (n : ℕ) (rest : Places) → made (n, []) ≡ None → each made ((n, []) ∷ rest) ≡ None
lost-first made n rest h = ap (λ m. m >>= λ y. each made rest >>= λ ys. Some (y ∷ ys)) h

-- a child has more above it
pub deeper : (f : Interface) (n m most : ℕ) → ancestors f m ≡ n ∷ ancestors f n → length (ancestors f n) + suc most ≤ length f.elements → length (ancestors f m) + most ≤ length f.elements
deeper f n m most e h = let longer : length (ancestors f m) ≡ suc (length (ancestors f n)) = ap length e in omega (arith, longer, h)

-- below an element in which nothing can be evaluated
abbrev Lost : Interface → Around → (ℕ → Marks) → List ℕ → ℕ → Type 0
Lost f a marks cases most =
    (n : ℕ) → inside f a [] n ≡ None → length (ancestors f n) + most ≤ length f.elements → shows most f n ≡ true → each (copy_at f a marks cases) (places_below most f n) ≡ None

lost-more : (f : Interface) (a : Around) (marks : ℕ → Marks) (cases : List ℕ) → Parents f → (most : ℕ) → Lost f a marks cases most → Lost f a marks cases (suc most)
lost-more f a marks cases parents most further n lost deep shown = by (is_control (element_at f n).sort) refl
  where
    child : (m : ℕ) → (element_at f m).parent ≡ Some n → shows most f m ≡ true → each (copy_at f a marks cases) (places_below most f m) ≡ None
    child m e s =
        let way = ancestors-child f n m e (omega (arith, deep)) in
        further m (inside-child f a [] n m way ∙ ap (λ t. t >>= λ x. enter f a x (element_at f n)) lost) (deeper f n m most way deep) s

    by : (b : Bool) → is_control (element_at f n).sort ≡ b → each (copy_at f a marks cases) (places.if_control b n [] (flat_map (places_below most f) (children f n))) ≡ None
    by true c = lost-first (copy_at f a marks cases) n (flat_map (places_below most f) (children f n)) (copy-out f a marks cases n lost)
    by false c =
        lost-among (copy_at f a marks cases) (shows most f) (places_below most f) (element_at f n).parts
        (each-child (λ m. (element_at f m).parent ≡ Some n) (λ m. shows most f m ≡ true → each (copy_at f a marks cases) (places_below most f m) ≡ None) child (element_at f n).parts (parents n))
        (or-second (is_control (element_at f n).sort) (some_shown (shows most f) (element_at f n).parts) c shown)

lost-below : (f : Interface) (a : Around) (marks : ℕ → Marks) (cases : List ℕ) → Parents f → (most : ℕ) → Lost f a marks cases most
lost-below f a marks cases parents zero n lost deep shown = cc shown
lost-below f a marks cases parents (suc most) n lost deep shown = lost-more f a marks cases parents most (lost-below f a marks cases parents most) n lost deep shown

-- ---- what is handed down

pub record Stands (f : Interface) (a : Around) (marks : ℕ → Marks) (h : Handed) (n : ℕ) : Type 0 where
  pub given : inside f a [] n ≡ Some (inside_of h)
  pub open_around : open_all f a marks (ancestors f n) ≡ Some h.is_open

pub stands-below : (f : Interface) (a : Around) (marks : ℕ → Marks) (n m : ℕ) (h : Handed) (node : Option ℕ) → is_plain f ≡ true → Stands f a marks h n → node_in f a h (element_at f n) ≡ Some node → ancestors f m ≡ n ∷ ancestors f n
    → Stands f a marks (handed_by f marks h (element_at f n) node) m
stands-below f a marks n m h node plain stands bound way =
    let e = element_at f n in record {
      given =
          inside-child f a [] n m way ∙ ap (λ t. t >>= λ s. enter f a s e) stands.given
          ∙ enter-is f a marks h e (plain-at f n plain) ∙ ap (option_map (λ k. inside_of (handed_by f marks h e k))) bound;
      open_around = ap (open_all f a marks) way ∙ open-below f a marks n h node plain stands.given bound stands.open_around;
    }

lost-child : (f : Interface) (a : Around) (n m : ℕ) (h : Handed) (marks : ℕ → Marks) → is_plain f ≡ true → inside f a [] n ≡ Some (inside_of h) → node_in f a h (element_at f n) ≡ None → ancestors f m ≡ n ∷ ancestors f n → inside f a [] m ≡ None
lost-child f a n m h marks plain given bound way =
    let e = element_at f n in
    inside-child f a [] n m way ∙ ap (λ t. t >>= λ s. enter f a s e) given
    ∙ enter-is f a marks h e (plain-at f n plain) ∙ ap (option_map (λ k. inside_of (handed_by f marks h e k))) bound

-- what is not bound selects nothing that is too long
unbound-found : (a : Around) (model : ℕ) (c : Option Focus) (binding : Bound) → first_bound a model binding c ≡ None → is_bound binding ≡ true
unbound-found a model None unbound h = cc h
unbound-found a model (Some c) unbound h = cc h
unbound-found a model c (nodes m) h = refl
unbound-found a model c (by_bind k) h = refl

passed-none : (bound shown : Bool) → (bound && not shown) ≡ true → shown ≡ false
passed-none true true h = cc h
passed-none true false h = refl
passed-none false shown h = cc h

asked-some : (bound control some : Bool) → (bound && not (control || some)) ≡ false → bound ≡ true → control ≡ false → some ≡ true
asked-some true true some h b c = cc c
asked-some true false true h b c = refl
asked-some true false false h b c = cc h
asked-some false control some h b c = cc b

abbrev Comes : Interface → Around → (ℕ → Marks) → List ℕ → ℕ → Type 0
Comes f a marks cases most =
    (n : ℕ) (h : Handed) → Stands f a marks h n → length (ancestors f n) + most ≤ length f.elements → copies_from most f a marks h n ≡ each (copy_at f a marks cases) (places_below most f n)

comes-more : (f : Interface) (a : Around) (marks : ℕ → Marks) (cases : List ℕ) → is_plain f ≡ true → Parents f → (most : ℕ) → Comes f a marks cases most → Comes f a marks cases (suc most)
comes-more f a marks cases plain parents most further n h stands deep = passed (is_passed most f (element_at f n)) refl
  where
    way : (m : ℕ) → (element_at f m).parent ≡ Some n → ancestors f m ≡ n ∷ ancestors f n
    way m e = ancestors-child f n m e (omega (arith, deep))

    child : (node : Option ℕ) → node_in f a h (element_at f n) ≡ Some node → (m : ℕ) → (element_at f m).parent ≡ Some n
        → copies_from most f a marks (handed_by f marks h (element_at f n) node) m ≡ each (copy_at f a marks cases) (places_below most f m)
    child node bound m e = further m (handed_by f marks h (element_at f n) node) (stands-below f a marks n m h node plain stands bound (way m e)) (deeper f n m most (way m e) deep)

    lost : node_in f a h (element_at f n) ≡ None → (m : ℕ) → (element_at f m).parent ≡ Some n → shows most f m ≡ true → each (copy_at f a marks cases) (places_below most f m) ≡ None
    lost bound m e s = lost-below f a marks cases parents most m (lost-child f a n m h marks plain stands.given bound (way m e)) (deeper f n m most (way m e) deep) s

    without : (control : Bool) → is_control (element_at f n).sort ≡ control → is_passed most f (element_at f n) ≡ false → node_in f a h (element_at f n) ≡ None
        → each (copy_at f a marks cases) (places.if_control control n [] (flat_map (places_below most f) (children f n))) ≡ None
    without true c p bound = lost-first (copy_at f a marks cases) n (flat_map (places_below most f) (children f n)) (copy-lost f a marks cases n h plain c stands.given bound)
    without false c p bound =
        let e = element_at f n in
        let model = scope_of f h.model e in
        lost-among (copy_at f a marks cases) (shows most f) (places_below most f) e.parts
        (each-child (λ m. (element_at f m).parent ≡ Some n) (λ m. shows most f m ≡ true → each (copy_at f a marks cases) (places_below most f m) ≡ None) (lost bound) e.parts (parents n))
        (asked-some (is_bound e.binding) (is_control e.sort) (some_shown (shows most f) e.parts) p (unbound-found a model (focus_in a model (place_for e.sort h.place)) e.binding bound) c)

    bound-to : (m : Option (Option ℕ)) → node_in f a h (element_at f n) ≡ m → is_passed most f (element_at f n) ≡ false
        → (m >>= λ node. if_control (is_control (element_at f n).sort) (copy_by f a marks h n (element_at f n) node) >>= λ own. of_parts (copies_from most f a marks (handed_by f marks h (element_at f n) node)) (element_at f n).parts >>= λ more. Some (own ++ more))
        ≡ each (copy_at f a marks cases) (places_below (suc most) f n)
    bound-to None bound p = sym (without (is_control (element_at f n).sort) refl p bound)
    bound-to (Some node) bound p =
        let e = element_at f n in
        let made = copy_at f a marks cases in
        ap (after (if_control (is_control e.sort) (copy_by f a marks h n e node)))
        (parts-are made (copies_from most f a marks (handed_by f marks h e node)) (places_below most f) e.parts
        (each-child (λ m. (element_at f m).parent ≡ Some n) (λ m. copies_from most f a marks (handed_by f marks h e node) m ≡ each made (places_below most f m)) (child node bound) e.parts (parents n)))
        ∙ own-is made n (flat_map (places_below most f) (children f n)) (copy_by f a marks h n e node) (is_control e.sort) (λ c. copy-is f a marks cases n h node plain c stands.given bound stands.open_around)

    passed : (b : Bool) → is_passed most f (element_at f n) ≡ b → unless b (copies_by (copies_from most f a marks) f a marks h n (element_at f n)) ≡ each (copy_at f a marks cases) (places_below (suc most) f n)
    passed true p =
        let e = element_at f n in
        sym (ap (each (copy_at f a marks cases)) (none-shown f (suc most) n (passed-none (is_bound e.binding) (is_control e.sort || some_shown (shows most f) e.parts) p)))
    passed false p = bound-to (node_in f a h (element_at f n)) refl p

pub handed-down : (f : Interface) (a : Around) (marks : ℕ → Marks) (cases : List ℕ) → is_plain f ≡ true → Parents f → (most : ℕ) → Comes f a marks cases most
handed-down f a marks cases plain parents zero n h stands deep = refl
handed-down f a marks cases plain parents (suc most) n h stands deep = comes-more f a marks cases plain parents most (handed-down f a marks cases plain parents most) n h stands deep
