-- The graph of calculated nodes: its vertices are their places, and its edges what each reads.
use Rattle.std.proofs.Common.{◌≡◌, ℕ, zero, suc, ◌+◌, ◌<◌, ◌≤◌, Bool, true, false, cond, ◌==◌, ◌⊎◌, inl, inr, List, [], ◌∷◌, ◌++◌, map, length, slice_index_or, refl, sym, ap, ◌∙◌, subst, arith}
use Rattle.std.specs.Prelude.{filter}
use Rattle.std.proofs.lemmas.List.{length-append}
use Rattle.std.proofs.lemmas.Bool.{cases_Bool, cases_lt, false≢true}
use Rattle.xf_def_forest.specs.Visit.{Visit}
use Rattle.xf_graph.specs.Edges.{has, has_edge, IsWithin}
use Rattle.xf_graph.proofs.HasLists.{has_first, has_later, has_cases}
use Rattle.xf_def_model.specs.Applied.{Entry}
use Rattle.xf_def_model.specs.Entries.{touches}
use Rattle.xf_def_model.specs.Circular.{Reader, by_nodes, places_from, places_of, dependents}
use Rattle.xf_def_model.specs.Pertinent.{AllOf}

-- ---- what stands where in a list

abbrev pub StandsAt : {X : Type 0} → List X → ℕ → X → Type 0
StandsAt [] k x = ⊥
StandsAt (y ∷ ys) zero x = y ≡ x
StandsAt (y ∷ ys) (suc k) x = StandsAt ys k x

pub stands-within : {X : Type 0} (xs : List X) (k : ℕ) (x : X) → StandsAt xs k x → k < length xs
stands-within [] k x h = absurd h
stands-within (y ∷ ys) zero x h = omega arith
stands-within (y ∷ ys) (suc k) x h = let less = stands-within ys k x h in omega (arith, less)

pub within-stands : {X : Type 0} (xs : List X) (k : ℕ) → k < length xs → (x : X) × StandsAt xs k x
within-stands [] k h = absurd (omega (arith, h))
within-stands (y ∷ ys) zero h = (y, refl)
within-stands (y ∷ ys) (suc k) h = within-stands ys k (omega (arith, h))

pub stands-map : {X Y : Type 0} (f : X → Y) (xs : List X) (k : ℕ) (x : X) → StandsAt xs k x → StandsAt (map f xs) k (f x)
stands-map f [] k x h = absurd h
stands-map f (y ∷ ys) zero x h = ap f h
stands-map f (y ∷ ys) (suc k) x h = stands-map f ys k x h

pub stands-got : {X : Type 0} (xs : List X) (k : ℕ) (x d : X) → StandsAt xs k x → slice_index_or xs k d ≡ x
stands-got [] k x d h = absurd h
stands-got (y ∷ ys) zero x d h = h
stands-got (y ∷ ys) (suc k) x d h = stands-got ys k x d h

pub length-mapped : {X Y : Type 0} (f : X → Y) (xs : List X) → length (map f xs) ≡ length xs
length-mapped f [] = refl
length-mapped f (x ∷ xs) = let rest = length-mapped f xs in omega (arith, rest)

got-beyond : {X : Type 0} (xs : List X) (k : ℕ) (d : X) → length xs ≤ k → slice_index_or xs k d ≡ d
got-beyond [] k d h = refl
got-beyond (y ∷ ys) zero d h = absurd (omega (arith, h))
got-beyond (y ∷ ys) (suc k) d h = got-beyond ys k d (omega (arith, h))

-- ---- the places of those that pass

module _ {X : Type 0} (test : X → Bool) where
  kept-at : (b : Bool) (at : ℕ) (xs : List ℕ) (v : ℕ) → has xs v ≡ true → has (cond b (at ∷ xs) xs) v ≡ true
  kept-at true at xs v h = has_later at v xs h
  kept-at false at xs v h = h

  first-at : (b : Bool) (at : ℕ) (xs : List ℕ) (v : ℕ) → b ≡ true → at ≡ v → has (cond b (at ∷ xs) xs) v ≡ true
  first-at true at xs v h e = subst (λ w. has (at ∷ xs) w ≡ true) e (has_first at xs)
  first-at false at xs v h e = absurd (false≢true h)

  pub place-found : (at : ℕ) (xs : List X) (k v : ℕ) (x : X) → StandsAt xs k x → test x ≡ true → v ≡ at + k → has (places_from at test xs) v ≡ true
  place-found at [] k v x h p e = absurd h
  place-found at (y ∷ ys) zero v x h p e =
      first-at (test y) at (places_from (suc at) test ys) v (ap test h ∙ p) (omega (arith, e))
  place-found at (y ∷ ys) (suc k) v x h p e =
      kept-at (test y) at (places_from (suc at) test ys) v (place-found (suc at) ys k v x h p (omega (arith, e)))

  cases-at : (b : Bool) (at : ℕ) (xs : List ℕ) (v : ℕ) → has (cond b (at ∷ xs) xs) v ≡ true → (at ≡ v) ⊎ (has xs v ≡ true)
  cases-at true at xs v h = has_cases at v xs h
  cases-at false at xs v h = inr h

  pub place-within : (at : ℕ) (xs : List X) (v : ℕ) → has (places_from at test xs) v ≡ true → v < at + length xs
  place-within at [] v h = absurd (false≢true h)
  place-within at (y ∷ ys) v h = elim (cases-at (test y) at (places_from (suc at) test ys) v h) [
    | inl e ↦ omega (arith, e)
    | inr later ↦ (let less = place-within (suc at) ys v later in omega (arith, less))
  ]

  means-at : (b : Bool) (at : ℕ) (xs : List ℕ) (v : ℕ) → has (cond b (at ∷ xs) xs) v ≡ true → ((b ≡ true) × (at ≡ v)) ⊎ (has xs v ≡ true)
  means-at true at xs v h = elim (has_cases at v xs h) [ inl e ↦ inl (refl, e) | inr later ↦ inr later ]
  means-at false at xs v h = inr h

  shifted : (ys : List X) (y : X) (at v : ℕ) → (k : ℕ) × (v ≡ suc at + k) × (x : X) × StandsAt ys k x × (test x ≡ true) → (k : ℕ) × (v ≡ at + k) × (x : X) × StandsAt (y ∷ ys) k x × (test x ≡ true)
  shifted ys y at v (k, e, x, h, p) = (suc k, omega (arith, e), x, h, p)

  found-from : (at : ℕ) (xs : List X) (v : ℕ) → has (places_from at test xs) v ≡ true → (k : ℕ) × (v ≡ at + k) × (x : X) × StandsAt xs k x × (test x ≡ true)
  found-from at [] v h = absurd (false≢true h)
  found-from at (y ∷ ys) v h = elim (means-at (test y) at (places_from (suc at) test ys) v h) [
    | inl here ↦ (zero, (let e = here.1 in omega (arith, e)), y, refl, here.0)
    | inr later ↦ shifted ys y at v (found-from (suc at) ys v later)
  ]

  pub place-means : (at : ℕ) (xs : List X) (v : ℕ) → at ≡ 0 → has (places_from at test xs) v ≡ true → (x : X) × StandsAt xs v x × (test x ≡ true)
  place-means at xs v none h =
      let r = found-from at xs v h in
      let same : r.0 ≡ v = (let e = r.1 in omega (arith, e, none)) in
      (r.2, subst (λ k. StandsAt xs k r.2) same r.3, r.4)

-- ---- edges

module _ (all : List Visit) (readers : List Reader) where
  of_source : Reader → List ℕ
  of_source source = places_of (λ reader. touches all reader.reads source.node) readers

  pub edge-found : (s r : ℕ) (source reader : Reader) → StandsAt readers s source → StandsAt readers r reader → touches all reader.reads source.node ≡ true
      → has_edge (dependents all readers) s r ≡ true
  edge-found s r source reader hs hr t =
      ap (λ ps. has ps r) (stands-got (dependents all readers) s _ [] (stands-map (λ (x : Reader). places_of (λ reader. touches all reader.reads x.node) readers) readers s source hs))
      ∙ place-found (λ reader. touches all reader.reads source.node) 0 readers r r reader hr t (omega arith)

  pub size-of_graph : length (dependents all readers) ≡ length readers
  size-of_graph = length-mapped (λ (x : Reader). places_of (λ reader. touches all reader.reads x.node) readers) readers

  within-from : (from to : ℕ) → has_edge (dependents all readers) from to ≡ true → from < length readers → (from < length readers) × (to < length readers)
  within-from from to e less =
      let at = within-stands readers from less in
      let ps = stands-got (dependents all readers) from _ [] (stands-map (λ (x : Reader). places_of (λ reader. touches all reader.reads x.node) readers) readers from at.0 at.1) in
      let bound = place-within (λ reader. touches all reader.reads at.0.node) 0 readers to (sym (ap (λ qs. has qs to) ps) ∙ e) in
      (less, omega (arith, bound))

  pub within-graph : IsWithin (dependents all readers)
  within-graph from to e = elim (cases_lt from (length readers)) [
    | inl less ↦ subst (λ n. (from < n) × (to < n)) (sym size-of_graph) (within-from from to e less)
    | inr more ↦ absurd (false≢true (sym (ap (λ ps. has ps to) (got-beyond (dependents all readers) from [] (let same = size-of_graph in omega (arith, more, same)))) ∙ e))
  ]

  edge-from : (s r : ℕ) (source : Reader) → StandsAt readers s source → has_edge (dependents all readers) s r ≡ true
      → (reader : Reader) × StandsAt readers r reader × (touches all reader.reads source.node ≡ true)
  edge-from s r source hs e =
      place-means (λ reader. touches all reader.reads source.node) 0 readers r refl
      (sym (ap (λ ps. has ps r) (stands-got (dependents all readers) s _ [] (stands-map (λ (x : Reader). places_of (λ reader. touches all reader.reads x.node) readers) readers s source hs))) ∙ e)

  -- an edge means that the one node is read, or an ancestor of it, by the calculate of the other
  pub edge-means : (s r : ℕ) → has_edge (dependents all readers) s r ≡ true
      → (source reader : Reader) × StandsAt readers s source × StandsAt readers r reader × (touches all reader.reads source.node ≡ true)
  edge-means s r e =
      let at = within-stands readers s (let w = within-graph s r e in let same = size-of_graph in omega (arith, w.0, same)) in
      let to = edge-from s r at.0 at.1 e in
      (at.0, to.0, at.1, to.1, to.2)

-- ---- the calculated nodes in document order

-- an element of a list, by its place
pub stands-append_left : {X : Type 0} (xs ys : List X) (x : X) → (k : ℕ) × StandsAt xs k x → (k : ℕ) × StandsAt (xs ++ ys) k x
stands-append_left [] ys x (k, h) = absurd h
stands-append_left (z ∷ zs) ys x (zero, h) = (zero, h)
stands-append_left (z ∷ zs) ys x (suc k, h) = let r = stands-append_left zs ys x (k, h) in (suc r.0, r.1)

pub stands-append_right : {X : Type 0} (xs ys : List X) (x : X) → (k : ℕ) × StandsAt ys k x → (k : ℕ) × StandsAt (xs ++ ys) k x
stands-append_right [] ys x s = s
stands-append_right (z ∷ zs) ys x s = let r = stands-append_right zs ys x s in (suc r.0, r.1)

filtered-at : {X : Type 0} (b : Bool) (y : X) (ys : List X) (x : X) → (k : ℕ) × StandsAt ys k x → (k : ℕ) × StandsAt (cond b (y ∷ ys) ys) k x
filtered-at true y ys x s = (suc s.0, s.1)
filtered-at false y ys x s = s

first-kept : {X : Type 0} (b : Bool) (y : X) (ys : List X) (x : X) → b ≡ true → y ≡ x → (k : ℕ) × StandsAt (cond b (y ∷ ys) ys) k x
first-kept true y ys x h e = (zero, e)
first-kept false y ys x h e = absurd (false≢true h)

pub stands-filter : {X : Type 0} (p : X → Bool) (xs : List X) (x : X) (k : ℕ) → StandsAt xs k x → p x ≡ true → (j : ℕ) × StandsAt (filter p xs) j x
stands-filter p [] x k h e = absurd h
stands-filter p (y ∷ ys) x zero h e = first-kept (p y) y (filter p ys) x (ap p h ∙ e) h
stands-filter p (y ∷ ys) x (suc k) h e = filtered-at (p y) y (filter p ys) x (stands-filter p ys x k h e)

none-here : (x : Visit) (b : Bool) (ys : List Visit) → b ≡ false → length (cond b (x ∷ ys) ys) ≡ 1 → length ys ≡ 1
none-here x true ys e h = absurd (false≢true (sym e))
none-here x false ys e h = h

pub stands-by_nodes : (xs : List Visit) (es : List Entry) (e : Entry) (k : ℕ) → StandsAt es k e → length (filter (λ x. e.node == x.number) xs) ≡ 1
    → (j : ℕ) × StandsAt (by_nodes xs es) j e
stands-by_nodes [] es e k h c = absurd (omega (arith, c))
stands-by_nodes (x ∷ xs) es e k h c = elim (cases_Bool (e.node == x.number)) [
  | inl here ↦ stands-append_left (filter (λ (f : Entry). f.node == x.number) es) (by_nodes xs es) e (stands-filter (λ (f : Entry). f.node == x.number) es e k h here)
  | inr there ↦ stands-append_right (filter (λ (f : Entry). f.node == x.number) es) (by_nodes xs es) e
      (stands-by_nodes xs es e k h (none-here x (e.node == x.number) (filter (λ (y : Visit). e.node == y.number) xs) there c))
]

one-at : (e : Entry) (x : Visit) (b : Bool) (kept later rest : List Entry) (visits : List Visit) → length later ≡ length visits + length rest
    → length (cond b (e ∷ kept) kept ++ later) ≡ length (cond b (x ∷ visits) visits) + length (kept ++ rest)
one-at e x true kept later rest visits h =
    let l = length-append kept later in let r = length-append kept rest in omega (arith, h, l, r)
one-at e x false kept later rest visits h =
    let l = length-append kept later in let r = length-append kept rest in omega (arith, h, l, r)

one-more : (xs : List Visit) (e : Entry) (es : List Entry) → length (by_nodes xs (e ∷ es)) ≡ length (filter (λ x. e.node == x.number) xs) + length (by_nodes xs es)
one-more [] e es = refl
one-more (x ∷ xs) e es =
    one-at e x (e.node == x.number) (filter (λ (f : Entry). f.node == x.number) es) (by_nodes xs (e ∷ es)) (by_nodes xs es) (filter (λ (y : Visit). e.node == y.number) xs) (one-more xs e es)

none-at_all : (xs : List Visit) → by_nodes xs [] ≡ []
none-at_all [] = refl
none-at_all (x ∷ xs) = none-at_all xs

-- each entry comes once, where its node is visited once
pub length-by_nodes : (xs : List Visit) (es : List Entry) → AllOf (λ e. length (filter (λ x. e.node == x.number) xs) ≡ 1) es → length (by_nodes xs es) ≡ length es
length-by_nodes xs [] h = ap length (none-at_all xs)
length-by_nodes xs (e ∷ es) h = let more = one-more xs e es in let once = h.0 in let rest = length-by_nodes xs es h.1 in omega (arith, more, once, rest)
