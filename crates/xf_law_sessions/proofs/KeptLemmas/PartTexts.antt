-- The texts that stand in a node of the part of a model are told by the part.
use Rattle.std.proofs.Common.{◌≡◌, ℕ, ◌==◌, Bool, true, false, not, cond, ◌&&◌, List, [], ◌∷◌, ◌++◌, map, Option, Some, None, option_map, refl, sym, ap, ◌∙◌}
use Rattle.std.specs.List.{flat_map}
use Rattle.xf_def_syntax.specs.declared.form.Instance.{Instance}
use Rattle.xf_def_forest.specs.declared.content.Content.{Content}
use Rattle.xf_def_forest.specs.declared.content.Content.TheVariants as content
use Rattle.xf_def_forest.specs.declared.content.Node.{Node}
use Rattle.xf_def_forest.specs.Forest.{Forest, content_at, is_text, node_at, own_text}
use Rattle.xf_def_forest.specs.Shape.{erased}
use Rattle.xf_def_forest.specs.Visit.{Visit, has, is_first, still_above, visit, visits, visits_from}
use Rattle.xf_def_forest.specs.WellFormed.{HasTrees}
use Rattle.xf_def_xpath.specs.Agree.{numbers_of}
use Rattle.xf_def_xpath.specs.Asked.{found}
use Rattle.xf_def_xpath.proofs.ForestVisits.{Each, each-map, forest-visits, found-erased}
use Rattle.xf_def_xpath.proofs.VisitFacts.{found-out, no, none-some, or-left, present}
use Rattle.xf_law_recalculation.specs.Agree.Settles.{IsSolid}
use Rattle.xf_law_recalculation.specs.Elsewhere.Parts.{IsPart}
use Rattle.xf_law_recalculation.specs.Within.Within.{Whole, kept}
use Rattle.xf_law_recalculation.proofs.WithinLemmas.Within.{found-kept}
use Rattle.xf_law_recalculation.specs.Held.OwnForest.{AreLow}
use Rattle.xf_law_recalculation.proofs.HeldLemmas.Named.{is_own, kept-is, part_has_trees, tops_of, whole-trees}
use Rattle.xf_law_recalculation.proofs.HeldLemmas.Seats.{own_numbers}
use Rattle.xf_def_machine.specs.AtRest.{text_below, texts_at, texts_by}
use Rattle.xf_def_machine.specs.State.{State}
use Rattle.xf_def_machine.specs.Surround.{all_in}

-- ---- two states in which the same stands in a node

texts-by : (s t : State) (n : ℕ) → flat_map (text_below n) (all_in s) ≡ flat_map (text_below n) (all_in t) → (o : Option Content) → texts_by s n o ≡ texts_by t n o
texts-by s t n e None = e
texts-by s t n e (Some content.Root) = e
texts-by s t n e (Some (content.Element name)) = e
texts-by s t n e (Some (content.Attribute name text)) = refl
texts-by s t n e (Some (content.Text text)) = e

pub texts-same : (s t : State) (n : ℕ) → flat_map (text_below n) (all_in s) ≡ flat_map (text_below n) (all_in t) → content_at n s.forest.nodes ≡ content_at n t.forest.nodes → texts_at s n ≡ texts_at t n
texts-same s t n e c = texts-by s t n e (content_at n s.forest.nodes) ∙ ap (texts_by t n) c

-- ---- contents

content-found : (n : ℕ) (above nodes : List Node) → option_map (λ (w : Visit). w.content) (found n (visits_from above nodes)) ≡ content_at n nodes
content-found n above [] = refl
content-found n above (x ∷ xs) = by (x.number == n) (content-found n (x ∷ still_above x.depth above) xs)
  where
    by : (b : Bool) → option_map (λ (w : Visit). w.content) (found n (visits_from (x ∷ still_above x.depth above) xs)) ≡ content_at n xs →
        option_map (λ (w : Visit). w.content) (cond b (Some (visit above x)) (found n (visits_from (x ∷ still_above x.depth above) xs))) ≡ option_map (λ (y : Node). y.content) (cond b (Some x) (node_at n xs))
    by true h = refl
    by false h = h

first-has : (n : ℕ) (ns : List ℕ) → is_first n ns ≡ true → has n ns ≡ true
first-has n [] h = no h
first-has n (m ∷ ms) h = or-left (n == m) (has n ms) h

-- ---- of the part

text-kept : (p : ℕ → Bool) (n : ℕ) (ys : List Visit) → Each (λ y. is_first n y.above ≡ true → p y.number ≡ true) ys → flat_map (text_below n) (kept p ys) ≡ flat_map (text_below n) ys
text-kept p n [] e = refl
text-kept p n (y ∷ ys) e = by (p y.number) (is_first n y.above) refl refl (text-kept p n ys e.1)
  where
    none : (b : Bool) → cond (b && false) (own_text y.content ∷ []) [] ++ flat_map (text_below n) ys ≡ flat_map (text_below n) ys
    none true = refl
    none false = refl

    by : (a c : Bool) → p y.number ≡ a → is_first n y.above ≡ c → flat_map (text_below n) (kept p ys) ≡ flat_map (text_below n) ys →
        flat_map (text_below n) (cond a (y ∷ kept p ys) (kept p ys)) ≡ text_below n y ++ flat_map (text_below n) ys
    by true c i j g = ap (λ l. text_below n y ++ l) g
    by false true i j g = no (sym i ∙ e.0 j)
    by false false i j g = g ∙ sym (ap (λ b. cond (is_text y.content && b) (own_text y.content ∷ []) [] ++ flat_map (text_below n) ys) j ∙ none (is_text y.content))

module _ (instances : List Instance) (model : ℕ) (part whole : Forest) (is : IsPart instances model part whole) (trees : HasTrees whole) (below : AreLow whole) where
  abbrev pub own : ℕ → Bool
  own k = is_own instances model part whole is trees below k

  pub in-numbers : (n : ℕ) → has n (numbers_of (visits part.nodes)) ≡ true → own n ≡ true
  in-numbers n h = or-left (has n (own_numbers whole trees (tops_of instances model whole.nodes))) _ (ap (λ nodes. has n (numbers_of (visits nodes))) (sym is.nodes) ∙ h)

  solid-number : (n : ℕ) → IsSolid (visits part.nodes) n → has n (numbers_of (visits part.nodes)) ≡ true
  solid-number n h =
      let out = found-out (λ (y : Visit). not (is_text y.content)) n (map erased (visits part.nodes)) h.0 (forest-visits (record part { next = whole.next }) (part_has_trees instances model part whole trees is)).apart h.1 in
      by (found n (visits part.nodes)) refl (sym (found-erased n (visits part.nodes)) ∙ out.0)
    where
      by : (o : Option Visit) → found n (visits part.nodes) ≡ o → option_map erased o ≡ Some h.0 → has n (numbers_of (visits part.nodes)) ≡ true
      by None i j = none-some j
      by (Some x) i j = present n (visits part.nodes) x i

  pub solid-own : (n : ℕ) → IsSolid (visits part.nodes) n → own n ≡ true
  solid-own n h = in-numbers n (solid-number n h)

  pub content-of-part : (n : ℕ) → own n ≡ true → content_at n part.nodes ≡ content_at n whole.nodes
  content-of-part n h =
      sym (content-found n [] part.nodes)
      ∙ ap (option_map (λ (w : Visit). w.content)) (ap (found n) (sym (kept-is instances model part whole is trees below)) ∙ found-kept own n (visits whole.nodes) h)
      ∙ content-found n [] whole.nodes

  pub texts-of-part : (n : ℕ) → own n ≡ true → flat_map (text_below n) (visits part.nodes) ≡ flat_map (text_below n) (visits whole.nodes)
  texts-of-part n h =
      ap (flat_map (text_below n)) (sym (kept-is instances model part whole is trees below))
      ∙ text-kept own n (visits whole.nodes)
      (each-map (Whole own) (λ y. is_first n y.above ≡ true → own y.number ≡ true) (visits whole.nodes) (λ y w i. sym (w n (first-has n y.above i)) ∙ h) (whole-trees instances model part whole is trees below))
