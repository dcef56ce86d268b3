-- The pertinent entries are those that a change concerns, and those that read what a calculate gives that the change reaches.
use Rattle.std.proofs.Common.{◌≡◌, ℕ, zero, suc, Bool, true, false, cond, ◌||◌, inl, inr, List, [], ◌∷◌, ◌++◌, map, Option, Some, None, slice_get, refl, sym, ap, ◌∙◌, subst}
use Rattle.std.specs.Prelude.{filter}
use Rattle.std.specs.List.{list_any, flat_map}
use Rattle.std.proofs.lemmas.Bool.{cases_Bool, false≢true}
use Rattle.xf_def_forest.specs.Visit.{Visit}
use Rattle.xf_graph.specs.Edges.{Adjacency, has, has_edge}
use Rattle.xf_graph.specs.Pertinent as reach
use Rattle.xf_graph.proofs.HasLists.{has_first, has_later, has_cases}
use Rattle.xf_def_xpath.proofs.VisitFacts.{none-some, some-same, or-cases, or-left, or-right}
use Rattle.xf_def_xpath.specs.Binding.{as_list}
use Rattle.xf_def_model.specs.Applied.{is_calculate}
use Rattle.xf_def_model.specs.Entries.{touches}
use Rattle.xf_def_model.specs.Pertinent.{Changes, Asking, AllOf, is_begun, reads_any, calculated_in, follows, pertinent_of, is_pertinent}
use Rattle.xf_def_model.proofs.EachLemmas.{of_each, each_then, each_both}
use Rattle.xf_def_model.proofs.PertinentLaws.{pertinent-stands, pertinent-least, PassesMore}
use Rattle.xf_binds_rebuild.specs.Links.{nodes_in}
use Rattle.xf_binds_rebuild.specs.Reached.{AreCalculates, nodes_of_calculates, is_met, PertinentMet}
use Rattle.xf_binds_rebuild.proofs.Linked.{item-got}

-- ---- nodes at vertices

abbrev NodeAt : (ℕ → Bool) → List ℕ → List ℕ → Type 0
NodeAt test nodes vs = (v : ℕ) × (n : ℕ) × (slice_get nodes v ≡ Some n) × (has vs v ≡ true) × (test n ≡ true)

any-nodes : (test : ℕ → Bool) (nodes vs : List ℕ) → list_any test (nodes_in nodes vs) ≡ true → NodeAt test nodes vs
any-nodes test nodes [] h = absurd (false≢true h)
any-nodes test nodes (v ∷ vs) h = by (slice_get nodes v) refl h (any-nodes test nodes vs)
  where
    later : NodeAt test nodes vs → NodeAt test nodes (v ∷ vs)
    later f = (f.0, f.1, f.2, has_later v f.0 vs f.3, f.4)

    by : (o : Option ℕ) → slice_get nodes v ≡ o → list_any test (as_list o ++ nodes_in nodes vs) ≡ true → (list_any test (nodes_in nodes vs) ≡ true → NodeAt test nodes vs) → NodeAt test nodes (v ∷ vs)
    by None e i rest = later (rest i)
    by (Some n) e i rest = elim (or-cases (test n) (list_any test (nodes_in nodes vs)) i) [ inl t ↦ (v, n, e, has_first v vs, t) | inr j ↦ later (rest j) ]

nodes-any : (test : ℕ → Bool) (nodes vs : List ℕ) (v n : ℕ) → has vs v ≡ true → slice_get nodes v ≡ Some n → test n ≡ true → list_any test (nodes_in nodes vs) ≡ true
nodes-any test nodes [] v n h e t = absurd (false≢true h)
nodes-any test nodes (w ∷ ws) v n h e t = elim (has_cases w v ws h) [
  | inl same ↦ first (slice_get nodes w) (ap (slice_get nodes) same ∙ e)
  | inr there ↦ later (slice_get nodes w) (nodes-any test nodes ws v n there e t)
]
  where
    first : (o : Option ℕ) → o ≡ Some n → list_any test (as_list o ++ nodes_in nodes ws) ≡ true
    first None i = none-some i
    first (Some m) i = or-left (test m) (list_any test (nodes_in nodes ws)) (ap test (some-same i) ∙ t)

    later : (o : Option ℕ) → list_any test (nodes_in nodes ws) ≡ true → list_any test (as_list o ++ nodes_in nodes ws) ≡ true
    later None i = i
    later (Some m) i = or-right (test m) (list_any test (nodes_in nodes ws)) i

-- ---- calculates among entries

abbrev CalculateAt : (Asking → Type 0) → (ℕ → Bool) → (Asking → Bool) → Type 0
CalculateAt P test set = (c : Asking) × P c × (set c ≡ true) × (is_calculate c.entry ≡ true) × (test c.entry.node ≡ true)

any-calculated : (P : Asking → Type 0) (test : ℕ → Bool) (set : Asking → Bool) (xs : List Asking) → AllOf P xs → list_any test (map (λ (a : Asking). a.entry.node) (filter (λ a. is_calculate a.entry) (filter set xs))) ≡ true
    → CalculateAt P test set
any-calculated P test set [] ps h = absurd (false≢true h)
any-calculated P test set (x ∷ xs) ps h = by (set x) refl h (any-calculated P test set xs ps.1)
  where
    of : (b : Bool) → is_calculate x.entry ≡ b → set x ≡ true → list_any test (map (λ (a : Asking). a.entry.node) (cond b (x ∷ filter (λ a. is_calculate a.entry) (filter set xs)) (filter (λ a. is_calculate a.entry) (filter set xs)))) ≡ true
        → (list_any test (map (λ (a : Asking). a.entry.node) (filter (λ a. is_calculate a.entry) (filter set xs))) ≡ true → CalculateAt P test set) → CalculateAt P test set
    of true c s i rest = elim (or-cases (test x.entry.node) (list_any test (map (λ (a : Asking). a.entry.node) (filter (λ a. is_calculate a.entry) (filter set xs)))) i) [ inl t ↦ (x, ps.0, s, c, t) | inr j ↦ rest j ]
    of false c s i rest = rest i

    by : (b : Bool) → set x ≡ b → list_any test (map (λ (a : Asking). a.entry.node) (filter (λ a. is_calculate a.entry) (cond b (x ∷ filter set xs) (filter set xs)))) ≡ true
        → (list_any test (map (λ (a : Asking). a.entry.node) (filter (λ a. is_calculate a.entry) (filter set xs))) ≡ true → CalculateAt P test set) → CalculateAt P test set
    by true s i rest = of (is_calculate x.entry) refl s i rest
    by false s i rest = rest i

calculated-any : (test : ℕ → Bool) (set : Asking → Bool) (xs : List Asking) (k : ℕ) (c : Asking) → slice_get xs k ≡ Some c → set c ≡ true → is_calculate c.entry ≡ true → test c.entry.node ≡ true
    → list_any test (map (λ (a : Asking). a.entry.node) (filter (λ a. is_calculate a.entry) (filter set xs))) ≡ true
calculated-any test set [] k c e s i t = none-some e
calculated-any test set (x ∷ xs) zero c e s i t =
    let same : x ≡ c = some-same e in
    ap (λ b. list_any test (map (λ (a : Asking). a.entry.node) (filter (λ a. is_calculate a.entry) (cond b (x ∷ filter set xs) (filter set xs))))) (ap set same ∙ s)
    ∙ ap (λ b. list_any test (map (λ (a : Asking). a.entry.node) (cond b (x ∷ filter (λ a. is_calculate a.entry) (filter set xs)) (filter (λ a. is_calculate a.entry) (filter set xs))))) (ap (λ (a : Asking). is_calculate a.entry) same ∙ i)
    ∙ or-left (test x.entry.node) (list_any test (map (λ (a : Asking). a.entry.node) (filter (λ a. is_calculate a.entry) (filter set xs)))) (ap (λ (a : Asking). test a.entry.node) same ∙ t)
calculated-any test set (x ∷ xs) (suc k) c e s i t = by (set x) (is_calculate x.entry) refl (calculated-any test set xs k c e s i t)
  where
    by : (b d : Bool) → is_calculate x.entry ≡ d → list_any test (map (λ (a : Asking). a.entry.node) (filter (λ a. is_calculate a.entry) (filter set xs))) ≡ true
        → list_any test (map (λ (a : Asking). a.entry.node) (filter (λ a. is_calculate a.entry) (cond b (x ∷ filter set xs) (filter set xs)))) ≡ true
    by true true d h =
        ap (λ q. list_any test (map (λ (a : Asking). a.entry.node) (cond q (x ∷ filter (λ a. is_calculate a.entry) (filter set xs)) (filter (λ a. is_calculate a.entry) (filter set xs))))) d
        ∙ or-right (test x.entry.node) (list_any test (map (λ (a : Asking). a.entry.node) (filter (λ a. is_calculate a.entry) (filter set xs)))) h
    by true false d h =
        ap (λ q. list_any test (map (λ (a : Asking). a.entry.node) (cond q (x ∷ filter (λ a. is_calculate a.entry) (filter set xs)) (filter (λ a. is_calculate a.entry) (filter set xs))))) d ∙ h
    by false d e h = h

got-mapped : (cs : List Asking) (v n : ℕ) → slice_get (nodes_of_calculates cs) v ≡ Some n → (c : Asking) × (slice_get cs v ≡ Some c) × (c.entry.node ≡ n)
got-mapped [] v n h = none-some h
got-mapped (c ∷ cs) zero n h = (c, refl, some-same h)
got-mapped (c ∷ cs) (suc v) n h = got-mapped cs v n h

filter-equal : (p q : Asking → Bool) (xs : List Asking) → AllOf (λ a. (p a ≡ true → q a ≡ true) × (q a ≡ true → p a ≡ true)) xs → filter p xs ≡ filter q xs
filter-equal p q [] h = refl
filter-equal p q (x ∷ xs) h = ap (λ b. cond b (x ∷ filter p xs) (filter p xs)) (same (p x) (q x) h.0.0 h.0.1) ∙ ap (λ l. cond (q x) (x ∷ l) l) (filter-equal p q xs h.1)
  where
    same : (a b : Bool) → (a ≡ true → b ≡ true) → (b ≡ true → a ≡ true) → a ≡ b
    same true b f g = sym (f refl)
    same false true f g = g refl
    same false false f g = refl

-- ---- the law

module _ (all : List Visit) (changes : Changes) (asked calculates : List Asking) (graph : Adjacency) (changed vertices : List ℕ) (are : AreCalculates all changes asked calculates graph changed)
    (reached : reach.IsPertinent graph changed vertices) where
  abbrev met : Asking → Bool
  met = is_met all changes calculates vertices

  abbrev pertinent : Asking → Bool
  pertinent = is_pertinent all changes asked

  abbrev nodes : List ℕ
  nodes = nodes_of_calculates calculates

  -- what a calculate among the pertinent gives is read
  reads-pertinent : (a c : Asking) (i : ℕ) → slice_get calculates i ≡ Some c → is_pertinent all changes asked c ≡ true → touches all a.reads c.entry.node ≡ true → is_pertinent all changes asked a ≡ true
  reads-pertinent a c i e p t =
      let known = are.among i c e in
      or-right (is_begun all changes a) (reads_any all a (calculated_in (pertinent_of all changes asked)))
      (ap (λ wave. reads_any all a (calculated_in wave)) (pertinent-stands all changes asked)
      ∙ calculated-any (touches all a.reads) (is_pertinent all changes asked) asked known.0.0 c known.0.1 p known.1 t)

  reached-pertinent : (edges v : ℕ) → reach.IsReachedBy graph changed edges v → (a : Asking) → slice_get calculates v ≡ Some a → is_pertinent all changes asked a ≡ true
  reached-pertinent zero v r a e = or-left (is_begun all changes a) (reads_any all a (calculated_in (pertinent_of all changes asked))) (sym (are.begun v a e) ∙ r)
  reached-pertinent (suc k) v r a e =
      let b = are.within r.0 v r.2 in
      reads-pertinent a b.0 r.0 b.1 (reached-pertinent k r.0 r.1 b.0 b.1) (sym (are.edges r.0 v b.0 a b.1 e) ∙ r.2)

  met-pertinent : (a : Asking) → is_met all changes calculates vertices a ≡ true → is_pertinent all changes asked a ≡ true
  met-pertinent a h = elim (or-cases (is_begun all changes a) (reads_any all a (nodes_in (nodes_of_calculates calculates) vertices)) h) [
    | inl b ↦ or-left (is_begun all changes a) (reads_any all a (calculated_in (pertinent_of all changes asked))) b
    | inr r ↦
        let f = any-nodes (touches all a.reads) (nodes_of_calculates calculates) vertices r in
        let c = got-mapped calculates f.0 f.1 f.2 in
        let by = (reached.members f.0).0 f.3 in
        reads-pertinent a c.0 f.0 c.1 (reached-pertinent by.0 f.0 by.1 c.0 c.1) (ap (touches all a.reads) c.2 ∙ f.4)
  ]

  -- a calculate that is met is reached
  calculate-reached : (c : Asking) (i : ℕ) → slice_get calculates i ≡ Some c → is_met all changes calculates vertices c ≡ true → has vertices i ≡ true
  calculate-reached c i e h = elim (or-cases (is_begun all changes c) (reads_any all c (nodes_in (nodes_of_calculates calculates) vertices)) h) [
    | inl b ↦ (reached.members i).1 (0, are.begun i c e ∙ b)
    | inr r ↦
        let f = any-nodes (touches all c.reads) (nodes_of_calculates calculates) vertices r in
        let b = got-mapped calculates f.0 f.1 f.2 in
        let by = (reached.members f.0).0 f.3 in
        (reached.members i).1 (suc by.0, (f.0, by.1, are.edges f.0 i b.0 c b.1 e ∙ ap (touches all c.reads) b.2 ∙ f.4))
  ]

  closed-at : (a : Asking) → follows all changes (filter (is_met all changes calculates vertices) asked) a ≡ true → is_met all changes calculates vertices a ≡ true
  closed-at a h = elim (or-cases (is_begun all changes a) (reads_any all a (calculated_in (filter (is_met all changes calculates vertices) asked))) h) [
    | inl b ↦ or-left (is_begun all changes a) (reads_any all a (nodes_in (nodes_of_calculates calculates) vertices)) b
    | inr r ↦
        let c = any-calculated (λ x. is_calculate x.entry ≡ true → (i : ℕ) × (slice_get calculates i ≡ Some x)) (touches all a.reads) (is_met all changes calculates vertices) asked are.each r in
        let i = c.1 c.3 in
        or-right (is_begun all changes a) (reads_any all a (nodes_in (nodes_of_calculates calculates) vertices))
        (nodes-any (touches all a.reads) (nodes_of_calculates calculates) vertices i.0 c.0.entry.node (calculate-reached c.0 i.0 i.1 c.2) (item-got (λ (x : Asking). x.entry.node) calculates i.0 c.0 i.1) c.4)
  ]

  pub met-law : pertinent_of all changes asked ≡ filter (is_met all changes calculates vertices) asked
  met-law =
      pertinent-stands all changes asked
      ∙ filter-equal (is_pertinent all changes asked) (is_met all changes calculates vertices) asked
      (each_both (PassesMore (is_pertinent all changes asked) (is_met all changes calculates vertices)) (λ a. is_met all changes calculates vertices a ≡ true → is_pertinent all changes asked a ≡ true) asked
      (pertinent-least all changes asked (is_met all changes calculates vertices) (of_each (λ a. follows all changes (filter (is_met all changes calculates vertices) asked) a ≡ true → is_met all changes calculates vertices a ≡ true) closed-at asked))
      (of_each (λ a. is_met all changes calculates vertices a ≡ true → is_pertinent all changes asked a ≡ true) met-pertinent asked))

pub pertinent_met : PertinentMet
pertinent_met all changes asked calculates graph changed vertices are reached = met-law all changes asked calculates graph changed vertices are reached
