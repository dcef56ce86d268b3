-- An applied bind need not be applied again where each of its node sets gives the same from each node that stands in both forests.
use Rattle.std.proofs.Common.{◌≡◌, ℕ, ◌==◌, true, false, List, [], ◌∷◌, ◌++◌, map, Option, Some, None, unwrap_or, refl, sym, ap, ◌∙◌, subst, inl, inr}
use Rattle.std.specs.List.{list_any, flat_map}
use Rattle.xf_def_syntax.specs.declared.expr.Expr.{Expr}
use Rattle.xf_def_forest.specs.Forest.{Forest}
use Rattle.xf_def_forest.specs.Visit.{Visit, visits, has}
use Rattle.xf_def_forest.specs.Shape.{shape}
use Rattle.xf_def_xpath.specs.Given.{first_document}
use Rattle.xf_def_xpath.specs.Setting.{◌>>=◌, each, in_order, joined}
use Rattle.xf_def_xpath.specs.Binding.{as_list}
use Rattle.xf_def_xpath.specs.Asked.{Trace}
use Rattle.xf_def_xpath.specs.Reads.{trace, set_looks_in}
use Rattle.xf_def_xpath.proofs.VisitFacts.{self-same, or-left, no, some-same, none-some}
use Rattle.xf_def_xpath.proofs.SameKept.{has-append, has-left, has-right}
use Rattle.xf_def_xpath.proofs.BelowAgree.{flat-within}
use Rattle.xf_def_model.specs.Rules.{Rule, Scope, chains, chain_around}
use Rattle.xf_def_model.specs.Nested.{alone, setting_for, set_from, reached_through, begun}
use Rattle.xf_def_model.specs.Applied.{Entry, properties_of, entries_on, entries_by}
use Rattle.xf_def_model.specs.Pertinent.{AllOf}
use Rattle.xf_law_recalculation.specs.Agree.Forests.{InBoth}
use Rattle.xf_law_recalculation.specs.Marks.Binds.{chain_looks, bind_looks, SameStructure, GivesTruths}
use Rattle.xf_law_recalculation.proofs.MarksLemmas.BindLaws.{each-on}
use Rattle.xf_law_recalculation.proofs.MarksLemmas.BindNodes.{order-same, order-both, one-in}
use Rattle.xf_law_recalculation.proofs.MarksLemmas.TextLists.{none-does}

abbrev entries_of : Scope → ℕ → Rule → List Trace → Trace → List Visit → List Entry
entries_of scope bind r ts t all =
    let sets = unwrap_or (reached_through None scope all ts (begun scope) >>= each (set_from None scope all t)) [] in entries_on bind sets (properties_of r) (in_order all (joined sets))

module _ (scope : Scope) (now before : Forest) (lists : List ℕ) (same : SameStructure lists scope now before) (truths : GivesTruths scope) where
  abbrev S : List Visit
  S = shape (visits now.nodes)

  abbrev T : List Visit
  T = shape (visits before.nodes)

  abbrev AllBoth : List ℕ → Type 0
  AllBoth ns = (k : ℕ) → has k ns ≡ true → InBoth now before k

  abbrev Unmarked : List ℕ → Type 0
  Unmarked ns = (k : ℕ) → has k ns ≡ true → has k lists ≡ false

  order_same : (ns : List ℕ) → AllBoth ns → in_order S ns ≡ in_order T ns
  order_same = order-same scope now before lists same truths

  order_both : (ns : List ℕ) → AllBoth ns → AllBoth (in_order S ns)
  order_both = order-both scope now before lists same truths

  abbrev looks_at : Expr → ℕ → List ℕ
  looks_at e n = set_looks_in (trace e) (setting_for None scope S n) (alone n)

  abbrev set_now : Expr → ℕ → Option (List ℕ)
  set_now e n = set_from None scope S (trace e) n

  abbrev set_before : Expr → ℕ → Option (List ℕ)
  set_before e n = set_from None scope T (trace e) n

  -- which node sets give the same nodes, each of which stands in both
  module _ (Fits : Expr → Type 0) (set_same : (e : Expr) → Fits e → (n : ℕ) → InBoth now before n → Unmarked (looks_at e n) → set_now e n ≡ set_before e n)
      (set_both : (e : Expr) → Fits e → (n : ℕ) → InBoth now before n → Unmarked (looks_at e n) → (ms : List ℕ) → set_now e n ≡ Some ms → AllBoth ms) where
    sets-same : (e : Expr) → Fits e → (ns : List ℕ) → AllBoth ns → Unmarked (flat_map (looks_at e) ns) → each (set_now e) ns ≡ each (set_before e) ns
    sets-same e place ns h unmarked = each-on (set_now e) (set_before e) ns (λ k i. set_same e place k (h k i) (λ j l. unmarked j (flat-within (looks_at e) k ns i j l)))

    sets-both : (e : Expr) → Fits e → (ns : List ℕ) → AllBoth ns → Unmarked (flat_map (looks_at e) ns) → (sets : List (List ℕ)) → each (set_now e) ns ≡ Some sets → AllBoth (joined sets)
    sets-both e place [] h unmarked sets i = subst (λ l. AllBoth (joined l)) (some-same i) (λ k j. no j)
    sets-both e place (n ∷ ns) h unmarked sets i =
        by (set_now e n) (each (set_now e) ns) refl refl i
        (sets-both e place ns (λ k j. h k (rest k j)) (λ k j. unmarked k (has-right k (looks_at e n) (flat_map (looks_at e) ns) j)))
      where
        rest : (k : ℕ) → has k ns ≡ true → has k (n ∷ ns) ≡ true
        rest k j = has-right k (n ∷ []) ns j

        by : (m : Option (List ℕ)) (l : Option (List (List ℕ))) → set_now e n ≡ m → each (set_now e) ns ≡ l → (m >>= λ y. l >>= λ ys. Some (y ∷ ys)) ≡ Some sets → ((more : List (List ℕ)) → each (set_now e) ns ≡ Some more → AllBoth (joined more)) → AllBoth (joined sets)
        by None l a b c below = none-some c
        by (Some ms) None a b c below = none-some c
        by (Some ms) (Some more) a b c below = subst (λ q. AllBoth (joined q)) (some-same c) (λ k j. elim (has-append k ms (joined more) j) [
          | inl x ↦ set_both e place n (h n (or-left (n == n) (has n ns) (self-same n))) (λ q g. unmarked q (has-left q (looks_at e n) (flat_map (looks_at e) ns) g)) ms a k x
          | inr y ↦ below more b k y
        ])

    -- ---- node sets in each other

    abbrev through_now : List Expr → List ℕ → Option (List ℕ)
    through_now es ns = reached_through None scope S (map trace es) ns

    abbrev through_before : List Expr → List ℕ → Option (List ℕ)
    through_before es ns = reached_through None scope T (map trace es) ns

    abbrev looks_along : List Expr → List ℕ → List ℕ
    looks_along es ns = chain_looks scope S (map trace es) ns

    through-same : (es : List Expr) → AllOf Fits es → (ns : List ℕ) → AllBoth ns → Unmarked (looks_along es ns) → through_now es ns ≡ through_before es ns
    through-same [] places ns h unmarked = refl
    through-same (e ∷ es) places ns h unmarked =
        by (each (set_now e) ns) refl (through-same es places.1)
      where
        first : Unmarked (flat_map (looks_at e) ns)
        first k i = unmarked k (has-left k (flat_map (looks_at e) ns) _ i)

        by : (m : Option (List (List ℕ))) → each (set_now e) ns ≡ m → ((ms : List ℕ) → AllBoth ms → Unmarked (looks_along es ms) → through_now es ms ≡ through_before es ms) →
            (each (set_now e) ns >>= λ sets. through_now es (in_order S (joined sets))) ≡ (each (set_before e) ns >>= λ sets. through_before es (in_order T (joined sets)))
        by None i later =
            ap (λ m. m >>= λ sets. through_now es (in_order S (joined sets))) i
            ∙ sym (ap (λ m. m >>= λ sets. through_before es (in_order T (joined sets))) (sym (sets-same e places.0 ns h first) ∙ i))
        by (Some sets) i later =
            let all = sets-both e places.0 ns h first sets i in
            ap (λ m. m >>= λ l. through_now es (in_order S (joined l))) i
            ∙ later (in_order S (joined sets)) (order_both (joined sets) all)
            (λ k j. unmarked k (has-right k (flat_map (looks_at e) ns) _ (ap (λ m. has k (looks_along es (in_order S (joined (unwrap_or m []))))) i ∙ j)))
            ∙ ap (through_before es) (order_same (joined sets) all)
            ∙ sym (ap (λ m. m >>= λ l. through_before es (in_order T (joined l))) (sym (sets-same e places.0 ns h first) ∙ i))

    through-both : (es : List Expr) → AllOf Fits es → (ns : List ℕ) → AllBoth ns → Unmarked (looks_along es ns) → (ms : List ℕ) → through_now es ns ≡ Some ms → AllBoth ms
    through-both [] places ns h unmarked ms i = subst AllBoth (some-same i) h
    through-both (e ∷ es) places ns h unmarked ms i = by (each (set_now e) ns) refl i (through-both es places.1)
      where
        first : Unmarked (flat_map (looks_at e) ns)
        first k j = unmarked k (has-left k (flat_map (looks_at e) ns) _ j)

        by : (m : Option (List (List ℕ))) → each (set_now e) ns ≡ m → (m >>= λ sets. through_now es (in_order S (joined sets))) ≡ Some ms →
            ((ks : List ℕ) → AllBoth ks → Unmarked (looks_along es ks) → (ls : List ℕ) → through_now es ks ≡ Some ls → AllBoth ls) → AllBoth ms
        by None j l later = none-some l
        by (Some sets) j l later =
            let all = sets-both e places.0 ns h first sets j in
            later (in_order S (joined sets)) (order_both (joined sets) all)
            (λ k q. unmarked k (has-right k (flat_map (looks_at e) ns) _ (ap (λ m. has k (looks_along es (in_order S (joined (unwrap_or m []))))) j ∙ q))) ms l

    -- the node sets around, then the bind's own
    last-looks : (es : List Expr) (own : Expr) (ns ms : List ℕ) → through_now es ns ≡ Some ms → (k : ℕ) → has k (flat_map (looks_at own) ms) ≡ true → has k (chain_looks scope S (map trace es ++ trace own ∷ []) ns) ≡ true
    last-looks [] own ns ms i k h = has-left k (flat_map (looks_at own) ns) _ (ap (λ l. has k (flat_map (looks_at own) l)) (some-same i) ∙ h)
    last-looks (e ∷ es) own ns ms i k h = by (each (set_now e) ns) refl i (λ ks. last-looks es own ks ms)
      where
        by : (m : Option (List (List ℕ))) → each (set_now e) ns ≡ m → (m >>= λ sets. through_now es (in_order S (joined sets))) ≡ Some ms →
            ((ks : List ℕ) → through_now es ks ≡ Some ms → (j : ℕ) → has j (flat_map (looks_at own) ms) ≡ true → has j (chain_looks scope S (map trace es ++ trace own ∷ []) ks) ≡ true) →
            has k (chain_looks scope S (trace e ∷ map trace es ++ trace own ∷ []) ns) ≡ true
        by None j l later = none-some l
        by (Some sets) j l later =
            has-right k (flat_map (looks_at e) ns) _ (ap (λ m. has k (chain_looks scope S (map trace es ++ trace own ∷ []) (in_order S (joined (unwrap_or m []))))) j ∙ later (in_order S (joined sets)) l k h)

    front-looks : (es : List Expr) (own : Expr) (ns : List ℕ) (k : ℕ) → has k (looks_along es ns) ≡ true → has k (chain_looks scope S (map trace es ++ trace own ∷ []) ns) ≡ true
    front-looks [] own ns k h = no h
    front-looks (e ∷ es) own ns k h = elim (has-append k (flat_map (looks_at e) ns) (looks_along es (next ns)) h) [
      | inl a ↦ has-left k (flat_map (looks_at e) ns) _ a
      | inr b ↦ has-right k (flat_map (looks_at e) ns) _ (front-looks es own (next ns) k b)
    ]
      where
        next : List ℕ → List ℕ
        next ms = in_order S (joined (unwrap_or (each (set_now e) ms) []))

    -- ---- the bind

    begun-both : AllBoth (begun scope)
    begun-both = by (first_document scope.model scope.given.documents) refl
      where
        by : (m : Option ℕ) → first_document scope.model scope.given.documents ≡ m → AllBoth (as_list m)
        by None e k h = no h
        by (Some n) e k h = subst (InBoth now before) (sym (one-in scope now before lists same truths n k h)) (same.documents [] n e)

    module _ (around : List Expr) (own : Expr) (places : AllOf Fits around) (place : Fits own) (unmarked : Unmarked (chain_looks scope S (map trace around ++ trace own ∷ []) (begun scope))) where
      around-free : Unmarked (looks_along around (begun scope))
      around-free k h = unmarked k (front-looks around own (begun scope) k h)

      abbrev all_now : Option (List (List ℕ))
      all_now = through_now around (begun scope) >>= each (set_now own)

      abbrev all_before : Option (List (List ℕ))
      all_before = through_before around (begun scope) >>= each (set_before own)

      all-same : (all_now ≡ all_before) × AllBoth (joined (unwrap_or all_now []))
      all-same = by (through_now around (begun scope)) refl
        where
          joined-both : (sets : Option (List (List ℕ))) → ((l : List (List ℕ)) → sets ≡ Some l → AllBoth (joined l)) → AllBoth (joined (unwrap_or sets []))
          joined-both None h = λ k i. no i
          joined-both (Some l) h = h l refl

          by : (m : Option (List ℕ)) → through_now around (begun scope) ≡ m → (all_now ≡ all_before) × AllBoth (joined (unwrap_or all_now []))
          by None e = (
            ap (λ m. m >>= each (set_now own)) e ∙ sym (ap (λ m. m >>= each (set_before own)) (sym (through-same around places (begun scope) begun-both around-free) ∙ e)),
            subst (λ m. AllBoth (joined (unwrap_or (m >>= each (set_now own)) []))) (sym e) (λ k i. no i),
          )
          by (Some ms) e =
              let reached = through-both around places (begun scope) begun-both around-free ms e in
              let free : Unmarked (flat_map (looks_at own) ms) = λ k h. unmarked k (last-looks around own (begun scope) ms e k h) in (
                ap (λ m. m >>= each (set_now own)) e ∙ sets-same own place ms reached free
                    ∙ sym (ap (λ m. m >>= each (set_before own)) (sym (through-same around places (begun scope) begun-both around-free) ∙ e)),
                subst (λ m. AllBoth (joined (unwrap_or (m >>= each (set_now own)) []))) (sym e) (joined-both (each (set_now own) ms) (sets-both own place ms reached free)),
              )

      entries-same : (bind : ℕ) (r : Rule) →
          entries_on bind (unwrap_or all_now []) (properties_of r) (in_order S (joined (unwrap_or all_now []))) ≡ entries_on bind (unwrap_or all_before []) (properties_of r) (in_order T (joined (unwrap_or all_before [])))
      entries-same bind r =
          ap (entries_on bind (unwrap_or all_now []) (properties_of r)) (order_same (joined (unwrap_or all_now [])) all-same.1)
          ∙ ap (λ m. entries_on bind (unwrap_or m []) (properties_of r) (in_order T (joined (unwrap_or m [])))) all-same.0

    pub chain-stays : (bind : ℕ) (r : Rule) (around : List Expr) (own : Expr) → chain_around (chains scope) r.around ≡ map trace around → r.node_set ≡ trace own → AllOf Fits around → Fits own →
        list_any (λ n. has n lists) (bind_looks scope (shape (visits now.nodes)) r) ≡ false →
        entries_by scope (shape (visits now.nodes)) bind r ≡ entries_by scope (shape (visits before.nodes)) bind r
    chain-stays bind r around own chain set places place unmarked =
        ap (λ ts. entries_of scope bind r ts r.node_set (shape (visits now.nodes))) chain ∙ ap (λ t. entries_of scope bind r (map trace around) t (shape (visits now.nodes))) set
        ∙ entries-same around own places place free bind r
        ∙ sym (ap (λ ts. entries_of scope bind r ts r.node_set (shape (visits before.nodes))) chain ∙ ap (λ t. entries_of scope bind r (map trace around) t (shape (visits before.nodes))) set)
      where
        free : (k : ℕ) → has k (chain_looks scope (shape (visits now.nodes)) (map trace around ++ trace own ∷ []) (begun scope)) ≡ true → has k lists ≡ false
        free k h = none-does (λ n. has n lists) k (bind_looks scope (shape (visits now.nodes)) r) unmarked
            (ap (λ ts. has k (chain_looks scope (shape (visits now.nodes)) (ts ++ r.node_set ∷ []) (begun scope))) chain ∙ ap (λ t. has k (chain_looks scope (shape (visits now.nodes)) (map trace around ++ t ∷ []) (begun scope))) set ∙ h)
