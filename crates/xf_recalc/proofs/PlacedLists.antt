-- The calculate of a node with its place among the calculates, by the place of its entry; and those of nodes by their places.
use Rattle.std.proofs.Common.{◌≡◌, ℕ, zero, suc, ◌+◌, ◌<◌, ◌≤◌, ◌==◌, Bool, true, false, cond, ◌||◌, ◌&&◌, List, [], ◌∷◌, ◌++◌, map, length, take, Option, Some, None, option_map, slice_get, refl, sym, ap, ◌∙◌, subst, arith}
use Rattle.std.specs.List.{list_any}
use Rattle.std.proofs.lemmas.Bool.{eq-eqb, eqb-true}
use Rattle.std.proofs.lemmas.List.{append-nil, append_assoc}
use Rattle.xf_graph.specs.Edges.{has}
use Rattle.xf_graph.specs.Order.{EachOnce}
use Rattle.xf_graph.proofs.HasLists.{has_first, has_later}
use Rattle.xf_def_xpath.specs.Binding.{as_list}
use Rattle.xf_def_xpath.proofs.VisitFacts.{no, none-some, some-same}
use Rattle.xf_def_model.specs.declared.property.Property.TheVariants.{Calculate}
use Rattle.xf_def_model.specs.Applied.{Entry, is_calculate}
use Rattle.xf_def_model.specs.Settled.{calculates}
use Rattle.xf_def_model.specs.Pertinent.{AllOf}
use Rattle.xf_def_model.specs.Properties.{sets_on}
use Rattle.xf_def_model.proofs.CircularLemmas.{StandsAt, within-stands}
use Rattle.xf_law_recalculation.specs.Agree.InTurn.{AreSingle, AtPlaces}
use Rattle.xf_law_recalculation.proofs.AgreeLemmas.TurnLists.{at-stands, each-at_place, each-none, got-stands, none-any}
use Rattle.xf_binds.specs.Held.{place_on}
use Rattle.xf_binds_rebuild.specs.Links.{nodes_in}
use Rattle.xf_binds.specs.Placed.{Placed, place_after, placed_from, placed_on}
use Rattle.xf_recalc.proofs.ListLemmas.{got-map}

-- ---- the one calculate of a node

-- a calculate is at this place, and it is what is found of the node
pub record IsFound (k : ℕ) (es : List Entry) (n : ℕ) (e : Entry) : Type 0 where
  pub place : ℕ
  pub got : slice_get (calculates es) place ≡ Some e
  pub found : placed_from k es n ≡ record { entry = e; place = k + place } ∷ []

abbrev Only : List Entry → ℕ → Entry → Type 0
Only es n e = AllOf (λ (f : Entry). (f.node == n) ≡ true → f ≡ e) es

pub found-on : (k : ℕ) (es : List Entry) (n : ℕ) (e : Entry) → Only (calculates es) n e → list_any (λ (f : Entry). f.node == n) (calculates es) ≡ true → IsFound k es n e
found-on k [] n e only some = no some
found-on k (x ∷ xs) n e only some = by (is_calculate x) refl only some (found-on (place_after k x) xs n e)
  where
    off : (b : Bool) → (b && false) ≡ false
    off true = refl
    off false = refl

    placed : (b c : Bool) → (x.node == n) ≡ b → is_calculate x ≡ c → placed_from k (x ∷ xs) n ≡ cond (b && c) (record { entry = x; place = k } ∷ []) (placed_from (cond c (suc k) k) xs n)
    placed b c i j =
        ap (λ a. cond (a && is_calculate x) (record { entry = x; place = k } ∷ []) (placed_from (place_after k x) xs n)) i
        ∙ ap (λ a. cond (b && a) (record { entry = x; place = k } ∷ []) (placed_from (cond a (suc k) k) xs n)) j

    at : (c : Bool) → is_calculate x ≡ c → calculates (x ∷ xs) ≡ cond c (x ∷ calculates xs) (calculates xs)
    at c i = ap (λ a. cond a (x ∷ calculates xs) (calculates xs)) i

    by : (c : Bool) → is_calculate x ≡ c → Only (cond c (x ∷ calculates xs) (calculates xs)) n e → list_any (λ (f : Entry). f.node == n) (cond c (x ∷ calculates xs) (calculates xs)) ≡ true →
        (Only (calculates xs) n e → list_any (λ (f : Entry). f.node == n) (calculates xs) ≡ true → IsFound (place_after k x) xs n e) → IsFound k (x ∷ xs) n e
    by false i o s later =
        let rest = later o s in
        let next : place_after k x ≡ k = ap (λ a. cond a (suc k) k) i in
        record {
          place = rest.place;
          got = ap (λ l. slice_get l rest.place) (at false i) ∙ rest.got;
          found = placed (x.node == n) false refl i ∙ ap (λ a. cond a (record { entry = x; place = k } ∷ []) (placed_from k xs n)) (off (x.node == n))
              ∙ ap (λ m. placed_from m xs n) (sym next) ∙ rest.found ∙ ap (λ m. record { entry = e; place = m + rest.place } ∷ []) next;
        }
    by true i o s later = of (x.node == n) refl s
      where
        of : (b : Bool) → (x.node == n) ≡ b → (b || list_any (λ (f : Entry). f.node == n) (calculates xs)) ≡ true → IsFound k (x ∷ xs) n e
        of true j t =
            let same : x ≡ e = o.0 j in
            record {
              place = 0;
              got = ap (λ l. slice_get l 0) (at true i) ∙ ap Some same;
              found = placed true true j i ∙ ap (λ f. record { entry = f; place = k } ∷ []) same ∙ ap (λ m. record { entry = e; place = m } ∷ []) (let plus : k ≡ k + 0 = omega arith in plus);
            }
        of false j t =
            let rest = later o.1 t in
            let next : place_after k x ≡ suc k = ap (λ a. cond a (suc k) k) i in
            record {
              place = suc rest.place;
              got = ap (λ l. slice_get l (suc rest.place)) (at true i) ∙ rest.got;
              found = placed false true j i ∙ ap (λ m. placed_from m xs n) (sym next) ∙ rest.found ∙ ap (λ m. record { entry = e; place = m + rest.place } ∷ []) next
                  ∙ ap (λ m. record { entry = e; place = m } ∷ []) (let p = rest.place in let plus : suc k + rest.place ≡ k + suc rest.place = omega arith in plus);
            }

-- ---- entries at places

at-place : (es : List Entry) → AreSingle es → (j k : ℕ) (e f : Entry) → StandsAt es j e → StandsAt es k f → (f.node == e.node) ≡ true → j ≡ k
at-place [] single j k e f s t h = absurd s
at-place (x ∷ xs) single zero zero e f s t h = refl
at-place (x ∷ xs) single zero (suc k) e f s t h =
    let off = at-stands (λ (y : Entry). (y.node == x.node) ≡ false) xs k f (each-none (λ (y : Entry). y.node == x.node) xs single.0) t in
    no (sym off ∙ ap (λ (y : Entry). f.node == y.node) s ∙ h)
at-place (x ∷ xs) single (suc j) zero e f s t h =
    let off = at-stands (λ (y : Entry). (y.node == x.node) ≡ false) xs j e (each-none (λ (y : Entry). y.node == x.node) xs single.0) s in
    no (sym off ∙ ap (λ (y : Entry). e.node == y.node) t ∙ turned f.node e.node h)
  where
    turned : (m n : ℕ) → (m == n) ≡ true → (n == m) ≡ true
    turned m n i = eq-eqb n m (sym (eqb-true m n i))
at-place (x ∷ xs) single (suc j) (suc k) e f s t h = ap suc (at-place xs single.1 j k e f s t h)

-- at other places stand entries of other nodes
pub single-at : (xs : List Entry) → AreSingle xs → (places : List ℕ) (es : List Entry) → EachOnce places → AtPlaces xs places es → AreSingle es
single-at xs single [] [] once a = tt
single-at xs single [] (e ∷ es) once a = absurd a
single-at xs single (p ∷ ps) [] once a = absurd a
single-at xs single (p ∷ ps) (e ∷ es) once a = (
  none-any (λ (f : Entry). f.node == e.node) es (each-at_place (λ f. (f.node == e.node) ≡ false) xs ps es a.1 (λ k f i s. other k f i s (f.node == e.node) refl)),
  single-at xs single ps es once.1 a.1,
)
  where
    other : (k : ℕ) (f : Entry) → has ps k ≡ true → StandsAt xs k f → (b : Bool) → (f.node == e.node) ≡ b → b ≡ false
    other k f i s false j = refl
    other k f i s true j = no (sym once.0 ∙ ap (has ps) (at-place xs single p k e f (got-stands xs p e a.0) s j) ∙ i)

-- ---- the calculates of nodes at places

abbrev pub IsGot : List Entry → Placed → Type 0
IsGot entries t = slice_get (calculates entries) t.place ≡ Some t.entry

module _ (entries all : List Entry) (found : AllOf (λ e. IsFound 0 entries e.node e) all) where
  abbrev of_places : List ℕ → List Placed
  of_places places = placed_on entries (nodes_in (map (λ (e : Entry). e.node) all) places)

  got-at : (xs : List Entry) (k : ℕ) (x : Entry) → StandsAt xs k x → slice_get xs k ≡ Some x
  got-at [] k x h = absurd h
  got-at (y ∷ ys) zero x h = ap Some h
  got-at (y ∷ ys) (suc k) x h = got-at ys k x h

  pub of-places : (places : List ℕ) → ((p : ℕ) → has places p ≡ true → p < length all) →
      AtPlaces all places (map (λ (t : Placed). t.entry) (of_places places)) × AllOf (IsGot entries) (of_places places)
  of-places [] within = (tt, tt)
  of-places (p ∷ ps) within =
      let at = within-stands all p (within p (has_first p ps)) in
      let e = at.0 in
      let here : slice_get all p ≡ Some e = got-at all p e at.1 in
      let f = at-stands (λ (x : Entry). IsFound 0 entries x.node x) all p e found at.1 in
      let rest = of-places ps (λ q h. within q (has_later p q ps h)) in
      let none : 0 + f.place ≡ f.place = (let q = f.place in omega arith) in
      let is : of_places (p ∷ ps) ≡ record { entry = e; place = f.place } ∷ of_places ps =
      ap (λ o. placed_on entries (as_list o ++ nodes_in (map (λ (x : Entry). x.node) all) ps)) (got-map (λ (x : Entry). x.node) all p e here)
      ∙ ap (λ l. l ++ of_places ps) f.found ∙ ap (λ m. record { entry = e; place = m } ∷ of_places ps) none in
      subst (λ ts. AtPlaces all (p ∷ ps) (map (λ (t : Placed). t.entry) ts) × AllOf (IsGot entries) ts) (sym is) ((here, rest.0), (f.got, rest.1))
