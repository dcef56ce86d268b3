-- Whether a text stands at a node, told of the visits; and that what was settled stands.
use Rattle.std.proofs.Common.{◌≡◌, ℕ, suc, ◌==◌, Bool, true, false, not, cond, ◌&&◌, ◌||◌, List, [], ◌∷◌, ◌++◌, map, Option, Some, None, refl, sym, ap, ◌∙◌, subst, inl, inr, arith}
use Rattle.std.specs.Prelude.{◌<◌, filter}
use Rattle.std.specs.Str.{bytes_eq}
use Rattle.std.proofs.lemmas.Bool.{cases_Bool}
use Rattle.std.proofs.lemmas.Bool.Decides.{nat_tests}
use Rattle.std.proofs.lemmas.List.{append-nil}
use Rattle.xf_def_forest.specs.declared.content.Node.{Node}
use Rattle.xf_def_forest.specs.declared.content.Content.{Content}
use Rattle.xf_def_forest.specs.declared.content.Content.TheVariants.{Root, Element, Attribute, Text}
use Rattle.xf_def_forest.specs.Forest.{is_element, is_attribute, is_text, own_text, from_node, first_tree, tree_of}
use Rattle.xf_def_forest.specs.Shape.{as_texts}
use Rattle.xf_def_forest.specs.Texts.{one_text, with_value, texts_in, value_in, is_attribute_at}
use Rattle.xf_def_forest.specs.Settle.{are_texts, has_text}
use Rattle.xf_def_forest.specs.Visit.{Visit, visits, has, is_first}
use Rattle.xf_law_forests.proofs.RollbackLemmas.Trees.{Trees, none, tree, followed, onto, times, StopsAt, stops-onto}
use Rattle.xf_law_forests.proofs.RollbackLemmas.TreeBlank.{AreLeaves}
use Rattle.xf_law_forests.proofs.RollbackLemmas.TreeFacts.{is_at, at-absent}
use Rattle.xf_law_forests.proofs.RollbackLemmas.TreeTexts.{attributes, lone, below-onto, times-split, Where, here, inside, later, where_is}
use Rattle.xf_law_forests.proofs.RollbackLemmas.TreeVisits.{seen, visits-seen}
use Rattle.xf_law_forests.proofs.RollbackLemmas.KeepingTrees.{any-is}
use Rattle.xf_def_xpath.specs.Asked.{found}
use Rattle.xf_def_xpath.proofs.VisitFacts.{turned}
use Rattle.xf_def_model.specs.Pertinent.{AllOf}
use Rattle.xf_law_forests.specs.Settle.Written.{Contents, nodes_of, are_different}
use Rattle.xf_law_forests.proofs.SettleLemmas.KindLemmas.{attribute-no_element, element-no_attribute, element-no_text, leaf-no_element, attribute-no_text, and-none, and-parts, or-parts, not-true}
use Rattle.xf_law_forests.proofs.SettleLemmas.Put.{content, put, put-texts, same_texts, texts_top, put_all}
use Rattle.xf_law_forests.proofs.SettleLemmas.Spots.{Fits, FitsHere, from-skip, texts-same, leaf-texts}
use Rattle.xf_law_forests.proofs.SettleLemmas.Bridge.{AreReady, ready-later, ready-put, fits-put}

-- ---- in the visits

abbrev pub held_texts : ℕ → List Visit → List Visit
held_texts n all = filter (λ y. is_text y.content && is_first n y.above) all

abbrev pub own_texts : List Visit → List (List ℕ)
own_texts ys = map (λ (y : Visit). own_text y.content) ys

abbrev pub told_by : List ℕ → Option Visit → List (List ℕ) → Bool
told_by text None us = false
told_by text (Some y) us = cond (is_element y.content) (same_texts (as_texts text) us) (bytes_eq (own_text y.content) text)

-- the text stands at the node
abbrev pub told : ℕ → List ℕ → List Visit → Bool
told n text all = told_by text (found n all) (own_texts (held_texts n all))

-- ---- in trees

abbrev pub stands_here : List ℕ → Content → Trees → Bool
stands_here text c k = cond (is_element c) (same_texts (as_texts text) (texts_top k)) (bytes_eq (own_text c) text)

abbrev pub says : ℕ → List ℕ → Trees → Bool
says n text none = true
says n text (tree m c k r) = cond (m == n) (stands_here text c k) (says n text k && says n text r)

or-last : (b : Bool) → (b || false) ≡ b
or-last true = refl
or-last false = refl

or-nothing : (b : Bool) → (b || (false || false)) ≡ b
or-nothing true = refl
or-nothing false = refl

and-last : (b : Bool) → (b && true) ≡ b
and-last true = refl
and-last false = refl

says-absent : (n : ℕ) (text : List ℕ) (t : Trees) → times n t ≡ 0 → says n text t ≡ true
says-absent n text none h = refl
says-absent n text (tree m c k r) h =
    let parts = times-split n m c k r h in
    ap (λ b. cond b (stands_here text c k) (says n text k && says n text r)) parts.0 ∙ ap (λ b. b && says n text r) (says-absent n text k parts.1) ∙ says-absent n text r parts.2

found-skip : (n : ℕ) (up : List ℕ) (t : Trees) (vs : List Visit) → times n t ≡ 0 → found n (seen up t vs) ≡ found n vs
found-skip n up none vs h = refl
found-skip n up (tree m c k r) vs h =
    let parts = times-split n m c k r h in
    ap (λ b. cond b (Some (record { number = m; above = up; content = c })) (found n (seen (m ∷ up) k (seen up r vs)))) parts.0
    ∙ found-skip n (m ∷ up) k (seen up r vs) parts.1 ∙ found-skip n up r vs parts.2

held-skip : (n : ℕ) (up : List ℕ) (t : Trees) (vs : List Visit) → times n t ≡ 0 → is_first n up ≡ false → held_texts n (seen up t vs) ≡ held_texts n vs
held-skip n up none vs h u = refl
held-skip n up (tree m c k r) vs h u =
    let parts = times-split n m c k r h in
    ap (λ b. cond (is_text c && b) (record { number = m; above = up; content = c } ∷ held_texts n (seen (m ∷ up) k (seen up r vs))) (held_texts n (seen (m ∷ up) k (seen up r vs)))) u
    ∙ ap (λ b. cond b (record { number = m; above = up; content = c } ∷ held_texts n (seen (m ∷ up) k (seen up r vs))) (held_texts n (seen (m ∷ up) k (seen up r vs)))) (and-none (is_text c))
    ∙ held-skip n (m ∷ up) k (seen up r vs) parts.1 (turned n m ∙ parts.0) ∙ held-skip n up r vs parts.2 u

held-leaves : (n : ℕ) (up : List ℕ) (k : Trees) (vs : List Visit) → AreLeaves k → is_first n up ≡ true → own_texts (held_texts n (seen up k vs)) ≡ texts_top k ++ own_texts (held_texts n vs)
held-leaves n up none vs l u = refl
held-leaves n up (tree m c j r) vs l u =
    subst (λ i. own_texts (held_texts n (seen up (tree m c i r) vs)) ≡ texts_top (tree m c i r) ++ own_texts (held_texts n vs)) (sym l.1)
    (ap (λ b. own_texts (cond (is_text c && b) (record { number = m; above = up; content = c } ∷ held_texts n (seen up r vs)) (held_texts n (seen up r vs)))) u
    ∙ by (is_text c) (held-leaves n up r vs l.2 u))
  where
    by : (b : Bool) → own_texts (held_texts n (seen up r vs)) ≡ texts_top r ++ own_texts (held_texts n vs) →
        own_texts (cond (b && true) (record { number = m; above = up; content = c } ∷ held_texts n (seen up r vs)) (held_texts n (seen up r vs))) ≡ cond b (own_text c ∷ texts_top r) (texts_top r) ++ own_texts (held_texts n vs)
    by true e = ap (λ l. own_text c ∷ l) e
    by false e = e

-- what is said of the node that has this number, which is there once
record Place (n d : ℕ) (up : List ℕ) (t : Trees) (ys : List Node) (vs : List Visit) : Type 0 where
  pub held : Content
  pub below_it : Trees
  pub depth : ℕ
  pub above : List ℕ
  pub stands : first_tree (from_node n (onto d t ys)) ≡ record { number = n; depth = depth; content = held } ∷ onto (suc depth) below_it []
  pub attribute : is_at is_attribute n t ≡ is_attribute held
  pub fits : FitsHere held below_it
  pub seen_it : found n (seen up t vs) ≡ Some (record { number = n; above = above; content = held })
  pub texts : AreLeaves below_it → own_texts (held_texts n (seen up t vs)) ≡ texts_top below_it
  pub said : (text : List ℕ) → says n text t ≡ stands_here text held below_it

place : (n d : ℕ) (up : List ℕ) (t : Trees) (ys : List Node) (vs : List Visit) → times n t ≡ 1 → Fits n t → StopsAt d ys → is_first n up ≡ false → held_texts n vs ≡ [] → Place n d up t ys vs
place n d up none ys vs once fits stops u v = absurd (let no : ⊥ = omega (arith, once) in no)
place n d up (tree m c k r) ys vs once fits stops u v =
    by (where_is n m c k r once) (λ e p q. place n (suc d) (m ∷ up) k (onto d r ys) (seen up r vs) p fits.1 (stops-onto d r ys stops) (turned n m ∙ e) (held-skip n up r vs q u ∙ v))
    (λ q. place n d up r ys vs q fits.2 stops u v)
  where
    V : Visit
    V = record { number = m; above = up; content = c }

    inner : List Visit
    inner = seen (m ∷ up) k (seen up r vs)

    not-mine : held_texts n (V ∷ inner) ≡ held_texts n inner
    not-mine = ap (λ b. cond (is_text c && b) (V ∷ held_texts n inner) (held_texts n inner)) u ∙ ap (λ b. cond b (V ∷ held_texts n inner) (held_texts n inner)) (and-none (is_text c))

    by : Where n m k r → ((m == n) ≡ false → times n k ≡ 1 → times n r ≡ 0 → Place n (suc d) (m ∷ up) k (onto d r ys) (seen up r vs)) → (times n r ≡ 1 → Place n d up r ys vs) → Place n d up (tree m c k r) ys vs
    by (here e p q) _ _ =
        let number : m ≡ n = grind (arith, nat_tests, e) in
        let first : is_first n (m ∷ up) ≡ true = turned n m ∙ e in
        let tree_here : first_tree (record { number = m; depth = d; content = c } ∷ onto (suc d) k (onto d r ys)) ≡ record { number = n; depth = d; content = c } ∷ onto (suc d) k [] =
        ap (λ l. record { number = m; depth = d; content = c } ∷ l) (below-onto d k (onto d r ys) (stops-onto d r ys stops))
        ∙ ap (λ j. record { number = j; depth = d; content = c } ∷ onto (suc d) k []) number in
        let in_k = at-absent is_attribute n k p in
        let in_r = at-absent is_attribute n r q in
        record {
          held = c;
          below_it = k;
          depth = d;
          above = up;
          stands = rw e tree_here;
          attribute = rw (e, in_k, in_r) (or-nothing (is_attribute c));
          fits = fits.0 e;
          seen_it = ap (λ b. cond b (Some V) (found n inner)) e ∙ ap (λ j. Some (record { number = j; above = up; content = c })) number;
          texts = λ l. ap own_texts not-mine ∙ held-leaves n (m ∷ up) k (seen up r vs) l first ∙ ap (λ x. texts_top k ++ own_texts x) (held-skip n up r vs q u ∙ v) ∙ append-nil (texts_top k);
          said = λ text. ap (λ b. cond b (stands_here text c k) (says n text k && says n text r)) e;
        }
    by (inside e p q) first _ =
        let s = first e p q in
        let in_r = at-absent is_attribute n r q in
        record {
          held = s.held;
          below_it = s.below_it;
          depth = s.depth;
          above = s.above;
          stands = rw e s.stands;
          attribute = rw (e, in_r) (or-last (is_at is_attribute n k) ∙ s.attribute);
          fits = s.fits;
          seen_it = ap (λ b. cond b (Some V) (found n inner)) e ∙ s.seen_it;
          texts = λ l. ap own_texts not-mine ∙ s.texts l;
          said = λ text. ap (λ b. cond b (stands_here text c k) (says n text k && says n text r)) e ∙ ap (λ b. says n text k && b) (says-absent n text r q) ∙ and-last (says n text k) ∙ s.said text;
        }
    by (later e p q) _ second =
        let s = second q in
        let in_k = at-absent is_attribute n k p in
        record {
          held = s.held;
          below_it = s.below_it;
          depth = s.depth;
          above = s.above;
          stands = rw e (ap first_tree (from-skip n (suc d) k (onto d r ys) p) ∙ s.stands);
          attribute = rw (e, in_k) s.attribute;
          fits = s.fits;
          seen_it = ap (λ b. cond b (Some V) (found n inner)) e ∙ found-skip n (m ∷ up) k (seen up r vs) p ∙ s.seen_it;
          texts = λ l. ap own_texts not-mine ∙ ap own_texts (held-skip n (m ∷ up) k (seen up r vs) p (turned n m ∙ e)) ∙ s.texts l;
          said = λ text. ap (λ b. cond b (stands_here text c k) (says n text k && says n text r)) e ∙ ap (λ b. b && says n text r) (says-absent n text k p) ∙ s.said text;
        }

-- ---- a text that stands

module _ (n : ℕ) (text : List ℕ) (t : Trees) (once : times n t ≡ 1) (fits : Fits n t) where
  it : Place n 0 [] t [] []
  it = place n 0 [] t [] [] once fits tt refl refl

  abbrev nodes : List Node
  nodes = onto 0 t []

  attribute-is : is_attribute_at n nodes ≡ is_attribute it.held
  attribute-is = any-is is_attribute n t ∙ it.attribute

  by-kind : (h : FitsHere it.held it.below_it) → cond (is_attribute it.held) (bytes_eq (value_in (tree_of n nodes)) text) (are_texts (as_texts text) (texts_in (tree_of n nodes))) ≡ stands_here text it.held it.below_it
  by-kind (inl is) =
      ap (λ b. cond b (bytes_eq (value_in (tree_of n nodes)) text) (are_texts (as_texts text) (texts_in (tree_of n nodes)))) is ∙ ap (λ l. bytes_eq (value_in l) text) it.stands
      ∙ sym (ap (λ b. cond b (same_texts (as_texts text) (texts_top it.below_it)) (bytes_eq (own_text it.held) text)) (attribute-no_element it.held is))
  by-kind (inr is) =
      let plain = element-no_text it.held is.0 in
      let among : texts_in (tree_of n nodes) ≡ texts_in (onto (suc it.depth) it.below_it []) = ap texts_in it.stands ∙ rw plain refl in
      ap (λ b. cond b (bytes_eq (value_in (tree_of n nodes)) text) (are_texts (as_texts text) (texts_in (tree_of n nodes)))) (element-no_attribute it.held is.0)
      ∙ texts-same (as_texts text) (texts_in (tree_of n nodes)) ∙ ap (λ l. same_texts (as_texts text) (map (λ (x : Node). own_text x.content) l)) among
      ∙ ap (same_texts (as_texts text)) (leaf-texts (suc it.depth) it.below_it is.1)
      ∙ sym (ap (λ b. cond b (same_texts (as_texts text) (texts_top it.below_it)) (bytes_eq (own_text it.held) text)) is.0)

  pub text-said : has_text n text nodes ≡ says n text t
  text-said = ap (λ b. cond b (bytes_eq (value_in (tree_of n nodes)) text) (are_texts (as_texts text) (texts_in (tree_of n nodes)))) attribute-is ∙ by-kind it.fits ∙ sym (it.said text)

  told-kind : (h : FitsHere it.held it.below_it) → cond (is_element it.held) (same_texts (as_texts text) (own_texts (held_texts n (seen [] t [])))) (bytes_eq (own_text it.held) text) ≡ stands_here text it.held it.below_it
  told-kind (inl is) =
      ap (λ b. cond b (same_texts (as_texts text) (own_texts (held_texts n (seen [] t [])))) (bytes_eq (own_text it.held) text)) (attribute-no_element it.held is)
      ∙ sym (ap (λ b. cond b (same_texts (as_texts text) (texts_top it.below_it)) (bytes_eq (own_text it.held) text)) (attribute-no_element it.held is))
  told-kind (inr is) = ap (λ l. cond (is_element it.held) (same_texts (as_texts text) l) (bytes_eq (own_text it.held) text)) (it.texts is.1)

  pub text-told : has_text n text nodes ≡ told n text (visits nodes)
  text-told =
      text-said ∙ it.said text ∙ sym (told-kind it.fits)
      ∙ sym (ap (λ o. told_by text o (own_texts (held_texts n (seen [] t [])))) it.seen_it) ∙ ap (told n text) (sym (visits-seen t))

-- ---- what was settled stands

bytes-equal : (us : List ℕ) → bytes_eq us us ≡ true
bytes-equal [] = refl
bytes-equal (u ∷ us) = let e : (u == u) ≡ true = grind (arith, nat_tests) in ap (λ b. b && bytes_eq us us) e ∙ bytes-equal us

texts-equal : (us : List (List ℕ)) → same_texts us us ≡ true
texts-equal [] = refl
texts-equal (u ∷ us) = ap (λ b. b && same_texts us us) (bytes-equal u) ∙ texts-equal us

lone-top : (a : ℕ) (u : List ℕ) → texts_top (lone (one_text a u)) ≡ as_texts u
lone-top a [] = refl
lone-top a (c ∷ cs) = refl

new-top : (a : ℕ) (text : List ℕ) (k : Trees) → texts_top (followed (attributes k) (lone (one_text a text))) ≡ as_texts text
new-top a text none = lone-top a text
new-top a text (tree m c k r) = by (is_attribute c) refl (new-top a text r)
  where
    by : (b : Bool) → is_attribute c ≡ b → texts_top (followed (attributes r) (lone (one_text a text))) ≡ as_texts text → texts_top (followed (cond b (tree m c k (attributes r)) (attributes r)) (lone (one_text a text))) ≡ as_texts text
    by true e f = ap (λ b. cond b (own_text c ∷ texts_top (followed (attributes r) (lone (one_text a text)))) (texts_top (followed (attributes r) (lone (one_text a text))))) (attribute-no_text c e) ∙ f
    by false e f = f

content-top : (a : ℕ) (text : List ℕ) (k : Trees) → same_texts (as_texts text) (texts_top (content a text k)) ≡ true
content-top a text k = by (same_texts (as_texts text) (texts_top k)) refl
  where
    by : (b : Bool) → same_texts (as_texts text) (texts_top k) ≡ b → same_texts (as_texts text) (texts_top (cond b k (followed (attributes k) (lone (one_text a text))))) ≡ true
    by true e = e
    by false e = ap (same_texts (as_texts text)) (new-top a text k) ∙ texts-equal (as_texts text)

pub put-says : (a n : ℕ) (text : List ℕ) (t : Trees) → Fits n t → says n text (put a n text t) ≡ true
put-says a n text none f = refl
put-says a n text (tree m c k r) f = by (m == n) refl (put-says a n text k f.1) (put-says a n text r f.2)
  where
    at_value : (c : Content) → is_attribute c ≡ true → (j : Trees) → stands_here text (with_value text c) j ≡ true
    at_value Root e j = let no : false ≡ true = e in cc
    at_value (Element name) e j = let no : false ≡ true = e in cc
    at_value (Attribute name old) e j = bytes-equal text
    at_value (Text old) e j = let no : false ≡ true = e in cc

    at_element : (c : Content) → is_element c ≡ true → stands_here text (with_value text c) (cond (is_element c) (content a text k) (put a n text k)) ≡ true
    at_element Root e = let no : false ≡ true = e in cc
    at_element (Element name) e = content-top a text k
    at_element (Attribute name old) e = let no : false ≡ true = e in cc
    at_element (Text old) e = let no : false ≡ true = e in cc

    fitted : FitsHere c k → stands_here text (with_value text c) (cond (is_element c) (content a text k) (put a n text k)) ≡ true
    fitted (inl e) = at_value c e (cond (is_element c) (content a text k) (put a n text k))
    fitted (inr e) = at_element c e.0

    by : (b : Bool) → (m == n) ≡ b → says n text (put a n text k) ≡ true → says n text (put a n text r) ≡ true →
        cond b (stands_here text (cond b (with_value text c) c) (cond (b && is_element c) (content a text k) (put a n text k))) (says n text (cond (b && is_element c) (content a text k) (put a n text k)) && says n text (put a n text r)) ≡ true
    by true e below next = fitted (f.0 e)
    by false e below next = ap (λ b. b && says n text (put a n text r)) below ∙ next

-- and stands while others are settled
module _ (n : ℕ) (text : List ℕ) (b m : ℕ) (u : List ℕ) (other : (b == n) ≡ false) (apart : (n == m) ≡ false) where
  still-lone : (us : List ℕ) → says n text (lone (one_text b us)) ≡ true
  still-lone [] = refl
  still-lone (c ∷ cs) = ap (λ q. cond q (stands_here text (Text (c ∷ cs)) none) true) other

  still-leaves : (k : Trees) → AreLeaves k → Fits n k → says n text k ≡ true → says n text (followed (attributes k) (lone (one_text b u))) ≡ true
  still-leaves none l f h = still-lone u
  still-leaves (tree p c j r) l f h = by (is_attribute c) refl (p == n) refl h (still-leaves r l.2 f.2)
    where
      none_there : {A : Type 0} → is_attribute c ≡ false → FitsHere c j → A
      none_there e (inl i) = let wrong : false ≡ true = sym e ∙ i in cc
      none_there e (inr i) = let wrong : false ≡ true = sym (leaf-no_element c l.0) ∙ i.0 in cc

      by : (q : Bool) → is_attribute c ≡ q → (x : Bool) → (p == n) ≡ x → cond x (stands_here text c j) (says n text j && says n text r) ≡ true →
          (says n text r ≡ true → says n text (followed (attributes r) (lone (one_text b u))) ≡ true) → says n text (followed (cond q (tree p c j (attributes r)) (attributes r)) (lone (one_text b u))) ≡ true
      by true k true e i g = ap (λ x. cond x (stands_here text c j) (says n text j && says n text (followed (attributes r) (lone (one_text b u))))) e ∙ i
      by true k false e i g =
          let parts = and-parts (says n text j) (says n text r) i in
          ap (λ x. cond x (stands_here text c j) (says n text j && says n text (followed (attributes r) (lone (one_text b u))))) e
          ∙ ap (λ x. x && says n text (followed (attributes r) (lone (one_text b u)))) parts.0 ∙ g parts.1
      by false k true e i g = none_there k (f.0 e)
      by false k false e i g = g (and-parts (says n text j) (says n text r) i).1

  still-content : (k : Trees) → AreLeaves k → Fits n k → says n text k ≡ true → says n text (content b u k) ≡ true
  still-content k l f h = by (same_texts (as_texts u) (texts_top k))
    where
      by : (q : Bool) → says n text (cond q k (followed (attributes k) (lone (one_text b u)))) ≡ true
      by true = h
      by false = still-leaves k l f h

  pub still-says : (t : Trees) → Fits n t → Fits m t → says n text t ≡ true → says n text (put b m u t) ≡ true
  still-says none f g h = refl
  still-says (tree p c k r) f g h = by (p == n) refl (p == m) refl h (still-says k f.1 g.1) (still-says r f.2 g.2)
    where
      inner : Bool → Trees
      inner y = cond (y && is_element c) (content b u k) (put b m u k)

      leaves : is_element c ≡ true → FitsHere c k → AreLeaves k
      leaves e (inl i) = let wrong : false ≡ true = sym (attribute-no_element c i) ∙ e in cc
      leaves e (inr i) = i.1

      rest : (z : Bool) → is_element c ≡ z → (y : Bool) → (p == m) ≡ y → says n text k ≡ true → (says n text k ≡ true → says n text (put b m u k) ≡ true) → says n text (cond (y && z) (content b u k) (put b m u k)) ≡ true
      rest true z true y i below = still-content k (leaves z (g.0 y)) f.1 i
      rest true z false y i below = below i
      rest false z true y i below = below i
      rest false z false y i below = below i

      here_same : stands_here text c (put b m u k) ≡ stands_here text c k
      here_same = ap (λ l. cond (is_element c) (same_texts (as_texts text) l) (bytes_eq (own_text c) text)) (put-texts b m u k)

      by : (x : Bool) → (p == n) ≡ x → (y : Bool) → (p == m) ≡ y → cond x (stands_here text c k) (says n text k && says n text r) ≡ true →
          (says n text k ≡ true → says n text (put b m u k) ≡ true) → (says n text r ≡ true → says n text (put b m u r) ≡ true) →
          cond x (stands_here text (cond y (with_value u c) c) (inner y)) (says n text (inner y) && says n text (put b m u r)) ≡ true
      by true e true d i below next = let wrong : false ≡ true = grind (arith, nat_tests, e, d, apart) in cc
      by true e false d i below next = here_same ∙ i
      by false e true d i below next =
          let parts = and-parts (says n text k) (says n text r) i in
          ap (λ q. q && says n text (put b m u r)) (rest (is_element c) refl true d parts.0 below) ∙ next parts.1
      by false e false d i below next =
          let parts = and-parts (says n text k) (says n text r) i in
          ap (λ q. q && says n text (put b m u r)) (rest (is_element c) refl false d parts.0 below) ∙ next parts.1

-- a node that is ready fits
still-all : (n : ℕ) (text : List ℕ) (done : ℕ → Bool) (number : ℕ) (contents : Contents) (t : Trees) → AreReady number contents t → Fits n t → n < number → has n (nodes_of contents) ≡ false →
    says n text t ≡ true → says n text (put_all done number contents t) ≡ true
still-all n text done number [] t ready fits less out h = h
still-all n text done number ((m, u) ∷ rest) t ready fits less out h =
    let parts = or-parts (n == m) (has n (nodes_of rest)) out in
    let other : (number == n) ≡ false = grind (arith, nat_tests, less) in
    elim (cases_Bool (done m)) [
      | inl e ↦
          rw e (still-all n text done (suc number) rest (put number m u t) (ready-later number rest (put number m u t) (ready-put number m u rest t ready.0 ready.1 ready.3))
          (fits-put n number m u t other fits) (omega (arith, less)) parts.1 (still-says n text number m u other parts.0 t fits ready.0 h))
      | inr e ↦ rw e (still-all n text done (suc number) rest t (ready-later number rest t ready.3) fits (omega (arith, less)) parts.1 h)
    ]

-- all of them stand in the end
pub all-said : (number : ℕ) (contents : Contents) (t : Trees) → AreReady number contents t → are_different (nodes_of contents) ≡ true →
    AllOf (λ (p : ℕ × List ℕ). says p.0 p.1 (put_all (λ n. true) number contents t) ≡ true) contents
all-said number [] t ready apart = tt
all-said number ((n, text) ∷ rest) t ready apart =
    let parts = and-parts (not (has n (nodes_of rest))) (are_different (nodes_of rest)) apart in
    let later = ready-later number rest (put number n text t) (ready-put number n text rest t ready.0 ready.1 ready.3) in
    let less = ready.2 in
    let other : (number == n) ≡ false = grind (arith, nat_tests, less) in (
      still-all n text (λ n. true) (suc number) rest (put number n text t) later (fits-put n number n text t other ready.0) (omega (arith, less)) (not-true (has n (nodes_of rest)) parts.0) (put-says number n text t ready.0),
      all-said (suc number) rest (put number n text t) later parts.1,
    )
