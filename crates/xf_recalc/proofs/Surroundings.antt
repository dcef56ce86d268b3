-- What surrounds the expressions of a form stands, whichever texts were written; and so do the nodes of its entries, each once for a property.
use Rattle.std.proofs.Common.{◌≡◌, ℕ, ◌==◌, Bool, true, false, not, cond, ◌&&◌, ◌||◌, List, [], ◌∷◌, map, find, Some, None, option_map, refl, sym, ap, ◌∙◌}
use Rattle.std.specs.Prelude.{unwrap_or}
use Rattle.std.specs.List.{list_any, list_all}
use Rattle.xf_def_syntax.specs.declared.form.Tables.{Tables}
use Rattle.xf_def_forest.specs.declared.content.Node.{Node}
use Rattle.xf_def_forest.specs.declared.content.Content.{Content}
use Rattle.xf_def_forest.specs.declared.content.Content.TheVariants as content
use Rattle.xf_def_forest.specs.Forest.{Forest, has_number, is_text}
use Rattle.xf_def_forest.specs.Visit.{Visit, still_above, visit, visits_from, visits}
use Rattle.xf_def_forest.specs.Shape.{erased, without_text}
use Rattle.xf_funcs.specs.Called.{called}
use Rattle.xf_def_xpath.specs.declared.value.Value.TheVariants.{Nodes}
use Rattle.xf_def_xpath.specs.Asked.{found}
use Rattle.xf_def_xpath.specs.Agree.{untexted}
use Rattle.xf_def_xpath.specs.Binding.{as_list}
use Rattle.xf_def_xpath.specs.Conversions.{nodes_of}
use Rattle.xf_def_xpath.specs.Given.{Document, Given, document_of, property_of}
use Rattle.xf_def_xpath.proofs.VisitFacts.{none-some}
use Rattle.xf_def_model.specs.Applied.{Entry}
use Rattle.xf_def_model.specs.Settled.{Contents, bounds}
use Rattle.xf_def_model.specs.Pertinent.{AllOf}
use Rattle.xf_def_model.proofs.EachLemmas.{each_then}
use Rattle.xf_law_recalculation.specs.Agree.Settles.{IsSolid}
use Rattle.xf_law_recalculation.proofs.AgreeLemmas.FormSettable.{entries_solid}
use Rattle.xf_law_forests.specs.Settle.Written.{written, MayWrite}
use Rattle.xf_law_forests.proofs.SettleLemmas.StillLaws.{solid-still}
use Rattle.xf_eval.specs.Live.{AllLive, AroundStands}
use Rattle.xf_recalc.specs.Settles.{MaySettle}
use Rattle.xf_recalc.specs.Turns.{is_there}

or-right : (a b : Bool) → b ≡ true → (a || b) ≡ true
or-right true b h = refl
or-right false b h = h

-- ---- nodes that are no texts

abbrev is_solid : ℕ → Node → Bool
is_solid n x = (x.number == n) && not (is_text x.content)

text-kept : (c : Content) → is_text (without_text c) ≡ is_text c
text-kept content.Root = refl
text-kept (content.Element name) = refl
text-kept (content.Attribute name old) = refl
text-kept (content.Text old) = refl

solid-there : (n : ℕ) (above nodes : List Node) (x : Visit) → found n (untexted (map erased (visits_from above nodes))) ≡ Some x → list_any (is_solid n) nodes ≡ true
solid-there n above [] x h = none-some h
solid-there n above (z ∷ zs) x h = by (not (is_text (without_text z.content))) refl h (solid-there n (z ∷ still_above z.depth above) zs x)
  where
    rest : List Visit
    rest = untexted (map erased (visits_from (z ∷ still_above z.depth above) zs))

    by : (b : Bool) → not (is_text (without_text z.content)) ≡ b → found n (cond b (erased (visit above z) ∷ rest) rest) ≡ Some x → (found n rest ≡ Some x → list_any (is_solid n) zs ≡ true) → list_any (is_solid n) (z ∷ zs) ≡ true
    by false e i later = or-right (is_solid n z) (list_any (is_solid n) zs) (later i)
    by true e i later = of (z.number == n) refl i
      where
        of : (c : Bool) → (z.number == n) ≡ c → cond c (Some (erased (visit above z))) (found n rest) ≡ Some x → list_any (is_solid n) (z ∷ zs) ≡ true
        of true f j = ap (λ b. (b && not (is_text z.content)) || list_any (is_solid n) zs) f ∙ ap (λ b. b || list_any (is_solid n) zs) (ap not (sym (text-kept z.content)) ∙ e)
        of false f j = or-right (is_solid n z) (list_any (is_solid n) zs) (later j)

solid-live : (n : ℕ) (nodes : List Node) → list_any (is_solid n) nodes ≡ true → has_number n nodes ≡ true
solid-live n [] h = h
solid-live n (z ∷ zs) h = by (z.number == n) h (solid-live n zs)
  where
    by : (b : Bool) → ((b && not (is_text z.content)) || list_any (is_solid n) zs) ≡ true → (list_any (is_solid n) zs ≡ true → has_number n zs ≡ true) → (b || has_number n zs) ≡ true
    by true i later = refl
    by false i later = later i

module _ (done : ℕ → Bool) (number : ℕ) (contents : Contents) (forest : Forest) (may : MayWrite number contents forest) where
  pub still-live : (n : ℕ) → IsSolid (visits forest.nodes) n → has_number n (written done number contents forest.nodes) ≡ true
  still-live n s = solid-live n (written done number contents forest.nodes) (solid-still done number contents forest n may ∙ solid-there n [] forest.nodes s.0 s.1)

-- ---- what surrounds

module _ (nodes : List Node) where
  abbrev Lives : Document → Type 0
  Lives d = has_number d.element nodes ≡ true

  one-live : (p : Document → Bool) (ds : List Document) → AllOf Lives ds → AllLive (as_list (option_map (λ (d : Document). d.element) (find p ds))) nodes
  one-live p [] h = refl
  one-live p (d ∷ ds) h = by (p d) (one-live p ds h.1)
    where
      by : (b : Bool) → AllLive (as_list (option_map (λ (d : Document). d.element) (find p ds))) nodes → AllLive (as_list (option_map (λ (d : Document). d.element) (cond b (Some d) (find p ds)))) nodes
      by true i = ap (λ b. b && true) h.0
      by false i = i

  document-live : (model : ℕ) (id : List ℕ) (ds : List Document) → AllOf Lives ds → AllLive (as_list (document_of model id ds)) nodes
  document-live model [] ds h = one-live _ ds h
  document-live model (c ∷ cs) ds h = one-live _ ds h

  pub around-stands : (given : Given) → AllOf Lives given.documents → given.event ≡ None → AroundStands given nodes
  around-stands given h none = record {
    documents = λ model id. document-live model id given.documents h;
    event = λ name. ap (λ event. list_all (λ n. has_number n nodes) (nodes_of (unwrap_or (property_of name event) (Nodes [])))) none;
  }

-- ---- entries

module _ (given : Given) (tables : Tables) (model : ℕ) (forest : Forest) (entries : List Entry) (may : MaySettle given tables model forest entries) where
  module _ (done : ℕ → Bool) (contents : Contents) (writes : MayWrite forest.next contents forest) where
    abbrev now : List Node
    now = written done forest.next contents forest.nodes

    pub stands-now : AroundStands given now
    stands-now = around-stands now given (each_then (λ (d : Document). IsSolid (visits forest.nodes) d.element) _ (λ d s. still-live done forest.next contents forest writes d.element s) given.documents may.documents) may.no_event

    pub there-now : list_all (is_there now) entries ≡ true
    there-now = all-there entries (each_then (λ (e : Entry). IsSolid (visits forest.nodes) e.node) _ (λ e s. still-live done forest.next contents forest writes e.node s) entries
        (entries_solid bounds called given tables model forest entries may.covered may.around may.applies))
      where
        all-there : (es : List Entry) → AllOf (λ e. has_number e.node now ≡ true) es → list_all (is_there now) es ≡ true
        all-there [] h = refl
        all-there (e ∷ es) h = ap (λ b. b && list_all (is_there now) es) h.0 ∙ all-there es h.1
