-- A text that is set to what stood there leaves an attribute, and an element without texts, as they are.
use Rattle.std.proofs.Common.{◌≡◌, ℕ, ◌==◌, Bool, true, false, cond, List, [], ◌∷◌, ◌++◌, refl, sym, ap, ◌∙◌, append-nil, inl, inr}
use Rattle.std.specs.Prelude.{filter, bytes_eq}
use Rattle.std.proofs.lemmas.Bool.{cases_Bool}
use Rattle.xf_def_forest.specs.declared.content.Node.{Node}
use Rattle.xf_def_forest.specs.declared.content.Content.{Content}
use Rattle.xf_def_forest.specs.declared.content.Content.TheVariants.{Root, Element, Attribute, Text}
use Rattle.xf_def_forest.specs.Forest.{is_element, is_attribute, own_text, below, past, tree_of}
use Rattle.xf_def_forest.specs.Settle.{with_numbered_text, are_texts}
use Rattle.xf_def_forest.specs.Shape.{as_texts}
use Rattle.xf_def_forest.specs.Texts.{one_text, with_texts, with_attribute_text, with_value, is_attribute_at, value_in}
use Rattle.xf_def_forest.specs.WellFormed.{are_apart}
use Rattle.xf_def_forest.proofs.BackLaws.{and-true, HasText}
use Rattle.xf_def_forest.proofs.MoveLemmas.{gone-after}
use Rattle.xf_def_forest.proofs.RunLemmas.{IsRun, IsLeafAt, below-then-past, tree-here, tree-other}
use Rattle.xf_def_forest.proofs.TextLaws.{has_text as text-there}
use Rattle.xf_def_xpath.proofs.VisitFacts.{no}
use Rattle.xf_law_recalculation.proofs.EditLemmas.TextAgain.{bytes-same, untouched, element-no_text, attribute-no_text, texts_of}
use Rattle.xf_law_recalculation.specs.Change.Steps.{StandsUnchanged}

-- ---- an attribute

value-again : (text : List ℕ) (c : Content) → own_text c ≡ text → with_value text c ≡ c
value-again text Root e = refl
value-again text (Element name) e = refl
value-again text (Attribute name old) e = ap (λ t. Attribute name t) (sym e)
value-again text (Text old) e = refl

attribute-again : (n : ℕ) (text : List ℕ) (nodes : List Node) → are_apart nodes ≡ true → value_in (tree_of n nodes) ≡ text → with_attribute_text n text nodes ≡ nodes
attribute-again n text [] a h = refl
attribute-again n text (x ∷ xs) a h =
    elim (cases_Bool (x.number == n)) [
      | inl e ↦
          ap (λ b. cond b (record x { content = with_value text x.content }) x ∷ with_attribute_text n text xs) e
          ∙ ap (λ c. record x { content = c } ∷ with_attribute_text n text xs) (value-again text x.content (ap value_in (sym (tree-here n x xs e)) ∙ h))
          ∙ ap (λ l. x ∷ l) (untouched n text xs (gone-after n x xs a e))
      | inr e ↦
          ap (λ b. cond b (record x { content = with_value text x.content }) x ∷ with_attribute_text n text xs) e
          ∙ ap (λ l. x ∷ l) (attribute-again n text xs (and-true _ (are_apart xs) a).1 (ap value_in (sym (tree-other n x xs e)) ∙ h))
    ]

-- ---- an element without texts

nothing : (y : Node) (ys : List Node) → [] ≡ y ∷ ys → true ≡ false
nothing y ys h = cc h

run-empty : (d : ℕ) (run : List Node) → IsRun d run → texts_of run ≡ [] → filter (λ x. is_attribute x.content) run ≡ run
run-empty d [] h e = refl
run-empty d (z ∷ zs) (inl h) e =
    ap (λ b. cond b (z ∷ filter (λ x. is_attribute x.content) zs) (filter (λ x. is_attribute x.content) zs)) h.0
    ∙ ap (λ l. z ∷ l) (run-empty d zs h.2 (sym (ap (λ b. cond b (z ∷ texts_of zs) (texts_of zs)) (attribute-no_text z.content h.0)) ∙ e))
run-empty d (z ∷ zs) (inr h) e = no (sym (nothing z (texts_of zs) (sym e ∙ ap (λ b. cond b (z ∷ texts_of zs) (texts_of zs)) h.0)))

empty-again : (n : ℕ) (nodes : List Node) → IsLeafAt n nodes → texts_of (tree_of n nodes) ≡ [] → with_texts n [] nodes ≡ nodes
empty-again n [] h e = refl
empty-again n (x ∷ xs) h e = by (x.number == n) refl h (empty-again n xs)
  where
    by : (b : Bool) → (x.number == n) ≡ b → cond b ((is_element x.content ≡ true) × IsRun x.depth (below x.depth xs)) (IsLeafAt n xs) → (IsLeafAt n xs → texts_of (tree_of n xs) ≡ [] → with_texts n [] xs ≡ xs) →
        cond b (x ∷ ((filter (λ y. is_attribute y.content) (below x.depth xs) ++ []) ++ past x.depth xs)) (x ∷ with_texts n [] xs) ≡ x ∷ xs
    by true q i f =
        let none : texts_of (below x.depth xs) ≡ [] = sym (ap (λ b. cond b (x ∷ texts_of (below x.depth xs)) (texts_of (below x.depth xs))) (element-no_text x.content i.0)) ∙ ap texts_of (sym (tree-here n x xs q)) ∙ e in
        ap (λ l. x ∷ (l ++ past x.depth xs)) (append-nil (filter (λ y. is_attribute y.content) (below x.depth xs)) ∙ run-empty x.depth (below x.depth xs) i.1 none) ∙ ap (λ l. x ∷ l) (below-then-past x.depth xs)
    by false q i f = ap (λ l. x ∷ l) (f i (ap texts_of (sym (tree-other n x xs q)) ∙ e))

none-of : (xs : List Node) → are_texts [] xs ≡ true → xs ≡ []
none-of [] h = refl
none-of (x ∷ xs) h = no h

-- ---- the law

pub stands_unchanged : StandsUnchanged
stands_unchanged number n text forest trees able there kind = by (text-there n forest trees able)
  where
    nodes : List Node
    nodes = forest.nodes

    with_attribute : is_attribute_at n nodes ≡ true → with_numbered_text number n text nodes ≡ nodes
    with_attribute h =
        ap (λ b. cond b (with_attribute_text n text nodes) (with_texts n (one_text number text) nodes)) h
        ∙ attribute-again n text nodes trees.apart (bytes-same (value_in (tree_of n nodes)) text (sym (ap (λ b. cond b (bytes_eq (value_in (tree_of n nodes)) text) (are_texts (as_texts text) (texts_of (tree_of n nodes)))) h) ∙ there))

    without_text : is_attribute_at n nodes ≡ false → IsLeafAt n nodes → text ≡ [] → with_numbered_text number n text nodes ≡ nodes
    without_text h leaf e =
        ap (λ b. cond b (with_attribute_text n text nodes) (with_texts n (one_text number text) nodes)) h
        ∙ ap (λ t. with_texts n (one_text number t) nodes) e
        ∙ empty-again n nodes leaf
        (none-of (texts_of (tree_of n nodes)) (ap (λ t. are_texts (as_texts t) (texts_of (tree_of n nodes))) (sym e)
        ∙ sym (ap (λ b. cond b (bytes_eq (value_in (tree_of n nodes)) text) (are_texts (as_texts text) (texts_of (tree_of n nodes)))) h) ∙ there))

    by : HasText n nodes → with_numbered_text number n text nodes ≡ nodes
    by (inl h) = with_attribute h
    by (inr h) = elim kind [ inl e ↦ with_attribute e | inr e ↦ without_text h.0 h.1 e ]
