-- The nodes of a tree without its texts: their names are those that the prefixes give, and attributes stand behind their element in order. So it is
-- with the tree of an element of a form.
use Rattle.std.proofs.Common.{◌≡◌, ◌⊎◌, ℕ, suc, ◌==◌, Bool, true, false, cond, List, [], ◌∷◌, ◌++◌, map, flat_map, refl, sym, ap, ◌∙◌, subst, inl, inr}
use Rattle.std.specs.List.{filter_map, cons_option}
use Rattle.std.specs.Prelude.{Result, Ok, Err}
use Rattle.xf_name.specs.Part.{Kind, no_declaration, kind_of}
use Rattle.xf_name.specs.Bindings.{Bindings, resolved}
use Rattle.xf_name.specs.declared.fault.NameFault.{NameFault}
use Rattle.xf_name.specs.declared.lit.Lit.{Lit}
use Rattle.xf_name.specs.declared.lit.Lit.TheOpen.{Lit-F, LitElement-F}
use Rattle.xf_name.specs.declared.lit.Lit.TheFolds.{fold-roll-Lit, fold-roll-LitElement, map-Lit, ind-Lit}
use Rattle.xf_name.specs.declared.lit.Lit.TheViews.{roll-Lit, roll-LitElement}
use Rattle.xf_name.specs.declared.lit.LitElement.{LitElement, fold-LitElement}
use Rattle.xf_name.specs.declared.lit.Pair.{Pair}
use Rattle.xf_name.specs.declared.qname.QName.{QName}
use Rattle.xf_def_forest.specs.declared.content.Content.{Content}
use Rattle.xf_def_forest.specs.declared.content.Content.TheVariants.{Root, Element, Attribute, Text}
use Rattle.xf_def_forest.specs.Forest.{is_attribute, is_element}
use Rattle.xf_def_forest.specs.Plant.{Contents, at_depth, attribute_by, attribute_in, contents_of, default_below, element_contents, element_name, in_order, in_place, is_less, lit_contents, name_for, text_contents, written_of}
use Rattle.xf_def_xpath.proofs.VisitFacts.{no}
use Rattle.xf_law_machine.proofs.FirstLemmas.Sorted.{IsSorted, order-sorted}

-- ---- contents without texts

abbrev pub boned : List (ℕ × Content) → List Content
boned [] = []
boned ((depth, Root) ∷ cs) = Root ∷ boned cs
boned ((depth, Element name) ∷ cs) = Element name ∷ boned cs
boned ((depth, Attribute name text) ∷ cs) = Attribute name [] ∷ boned cs
boned ((depth, Text text) ∷ cs) = boned cs

pub boned-append : (xs ys : List (ℕ × Content)) → boned (xs ++ ys) ≡ boned xs ++ boned ys
boned-append [] ys = refl
boned-append ((depth, Root) ∷ xs) ys = ap (λ l. Root ∷ l) (boned-append xs ys)
boned-append ((depth, Element name) ∷ xs) ys = ap (λ l. Element name ∷ l) (boned-append xs ys)
boned-append ((depth, Attribute name text) ∷ xs) ys = ap (λ l. Attribute name [] ∷ l) (boned-append xs ys)
boned-append ((depth, Text text) ∷ xs) ys = boned-append xs ys

module _ (b : Bindings) where
  abbrev pub IsNamed : Content → Type 0
  IsNamed Root = Unit {0}
  IsNamed (Element name) = name ≡ name_for b name.meaning
  IsNamed (Attribute name text) = name ≡ name_for b name.meaning
  IsNamed (Text text) = Unit {0}

  abbrev pub MayBear : Content → Content → Type 0
  MayBear c d = (is_element c ≡ true) ⊎ ((is_attribute c ≡ true) × (is_less (written_of d) (written_of c) ≡ false))

  abbrev pub Behind : Content → List Content → Type 0
  Behind c [] = Unit {0}
  Behind c (d ∷ ds) = is_attribute d ≡ true → MayBear c d

  abbrev pub Fine : List Content → Type 0
  Fine [] = Unit {0}
  Fine (c ∷ cs) = IsNamed c × Behind c cs × Fine cs

  -- it does not begin with an attribute
  abbrev pub Begins : List Content → Type 0
  Begins [] = Unit {0}
  Begins (c ∷ cs) = is_attribute c ≡ false

  pub behind-any : (c : Content) (ds : List Content) → Begins ds → Behind c ds
  behind-any c [] h = tt
  behind-any c (d ∷ ds) h = λ e. no (sym h ∙ e)

  behind-append : (c : Content) (cs ds : List Content) → Behind c cs → Begins ds → Behind c (cs ++ ds)
  behind-append c [] ds h k = behind-any c ds k
  behind-append c (e ∷ cs) ds h k = h

  pub fine-append : (cs ds : List Content) → Fine cs → Fine ds → Begins ds → Fine (cs ++ ds)
  fine-append [] ds h k i = k
  fine-append (c ∷ cs) ds h k i = (h.0, behind-append c cs ds h.1 i, fine-append cs ds h.2 k i)

  pub begins-append : (cs ds : List Content) → Begins cs → Begins ds → Begins (cs ++ ds)
  begins-append [] ds h k = k
  begins-append (c ∷ cs) ds h k = h

  prefix-behind : (c : Content) (cs ds : List Content) → Behind c (cs ++ ds) → Behind c cs
  prefix-behind c [] ds h = tt
  prefix-behind c (d ∷ cs) ds h = h

  pub prefix-fine : (cs ds : List Content) → Fine (cs ++ ds) → Fine cs
  prefix-fine [] ds h = tt
  prefix-fine (c ∷ cs) ds h = (h.0, prefix-behind c cs ds h.1, prefix-fine cs ds h.2)

  -- ---- the attributes of an element

  abbrev IsOwn : Content → Type 0
  IsOwn (Attribute name text) = name ≡ name_for b name.meaning
  IsOwn c = ⊥

  abbrev AreOwn : List Content → Type 0
  AreOwn [] = Unit {0}
  AreOwn (c ∷ cs) = IsOwn c × AreOwn cs

  own-place : (c : Content) (cs : List Content) → IsOwn c → AreOwn cs → AreOwn (in_place c cs)
  own-place c [] h k = (h, tt)
  own-place c (x ∷ xs) h k = by (is_less (written_of x) (written_of c)) (own-place c xs h k.1)
    where
      by : (e : Bool) → AreOwn (in_place c xs) → AreOwn (cond e (x ∷ in_place c xs) (c ∷ x ∷ xs))
      by true f = (k.0, f)
      by false f = (h, k)

  own-order : (cs : List Content) → AreOwn cs → AreOwn (in_order cs)
  own-order [] h = tt
  own-order (c ∷ cs) h = own-place c (in_order cs) h.0 (own-order cs h.1)

  own-attributes : (ps : List Pair) → AreOwn (filter_map (attribute_in b) ps)
  own-attributes [] = tt
  own-attributes (p ∷ ps) = by (kind_of p.name) (resolved b p.name 0) (own-attributes ps)
    where
      by : (kind : Kind) (name : Result QName NameFault) → AreOwn (filter_map (attribute_in b) ps) → AreOwn (cons_option (attribute_by b kind p.text name) (filter_map (attribute_in b) ps))
      by no_declaration (Ok name) h = (refl, h)
      by no_declaration (Err fault) h = h
      by kind name h = h

  own-fine : (depth : ℕ) (cs : List Content) → AreOwn cs → IsSorted cs → Fine (boned (at_depth depth cs))
  own-fine depth [] h s = tt
  own-fine depth (Root ∷ cs) h s = absurd h.0
  own-fine depth (Element name ∷ cs) h s = absurd h.0
  own-fine depth (Text text ∷ cs) h s = absurd h.0
  own-fine depth (Attribute name text ∷ []) h s = (h.0, tt, tt)
  own-fine depth (Attribute name text ∷ Root ∷ cs) h s = absurd h.1.0
  own-fine depth (Attribute name text ∷ Element other ∷ cs) h s = absurd h.1.0
  own-fine depth (Attribute name text ∷ Text other ∷ cs) h s = absurd h.1.0
  own-fine depth (Attribute name text ∷ Attribute other value ∷ cs) h s = (h.0, λ e. inr (refl, s.0), own-fine depth (Attribute other value ∷ cs) h.1 s.1)

  -- ---- trees

  abbrev Good : List (ℕ × Content) → Type 0
  Good d = Fine (boned d) × Begins (boned d)

  abbrev AreGood : Contents → Type 0
  AreGood w = (space depth : ℕ) → Good (w space depth)

  text-good : (text : List ℕ) → AreGood (text_contents text)
  text-good [] space depth = by (depth == 0)
    where
      by : (c : Bool) → Good (cond c (at_depth 0 (Text [] ∷ [])) [])
      by true = (tt, tt)
      by false = (tt, tt)
  text-good (c ∷ cs) space depth = (tt, tt)

  element-named : (name : Result QName NameFault) → IsNamed (Element (element_name b name))
  element-named (Ok name) = refl
  element-named (Err fault) = refl

  element-good : (e : LitElement-F Contents Contents) → ((space depth : ℕ) → Good (flat_map (λ child. child space depth) e.children)) → AreGood (element_contents b e)
  element-good e below space depth =
      let own = default_below b space e.attributes in
      let attributes = at_depth (suc depth) (in_order (filter_map (attribute_in b) e.attributes)) in
      let children = flat_map (λ child. child own (suc depth)) e.children in
      let kids : Good (flat_map (λ child. child (default_below b space e.attributes) (suc depth)) e.children) = below (default_below b space e.attributes) (suc depth) in
      let sorted : Fine (boned (at_depth (suc depth) (in_order (filter_map (attribute_in b) e.attributes)))) =
      own-fine (suc depth) (in_order (filter_map (attribute_in b) e.attributes)) (own-order (filter_map (attribute_in b) e.attributes) (own-attributes e.attributes)) (order-sorted (filter_map (attribute_in b) e.attributes)) in (
        (
          element-named (resolved b e.name own),
          subst (Behind (Element (element_name b (resolved b e.name own)))) (sym (boned-append attributes children)) (any (boned attributes ++ boned children)),
          subst Fine (sym (boned-append attributes children)) (fine-append (boned attributes) (boned children) sorted kids.0 kids.1),
        ),
        refl,
      )
    where
      any : (ds : List Content) → Behind (Element (element_name b (resolved b e.name (default_below b space e.attributes)))) ds
      any [] = tt
      any (d ∷ ds) = λ i. inl refl

  abbrev element_of : LitElement → Contents
  element_of = fold-LitElement Contents Contents lit_contents (element_contents b)

  abbrev LitBelow : Type 0
  LitBelow = (x : Lit) × AreGood (contents_of b x)

  abbrev LitPart : Type 0
  LitPart = (e : LitElement) × AreGood (element_of e)

  good-children : (ys : List LitBelow) (space depth : ℕ) → Good (flat_map (λ child. child space depth) (map (contents_of b) (map (λ (y : LitBelow). y.0) ys)))
  good-children [] space depth = (tt, tt)
  good-children (y ∷ ys) space depth =
      let later = good-children ys space depth in
      let one = y.1 space depth in
      let first = contents_of b y.0 space depth in
      let rest = flat_map (λ child. child space depth) (map (contents_of b) (map (λ (z : LitBelow). z.0) ys)) in (
        subst Fine (sym (boned-append first rest)) (fine-append (boned first) (boned rest) one.0 later.0 later.1),
        subst Begins (sym (boned-append first rest)) (begins-append (boned first) (boned rest) one.1 later.1),
      )

  lit-level : (y : Lit-F LitBelow LitPart) → AreGood (contents_of b (roll-Lit (map-Lit LitBelow LitPart Lit LitElement (λ c. c.0) (λ c. c.0) y)))
  lit-level (Lit-F.Text t) = subst AreGood (sym (fold-roll-Lit Contents Contents lit_contents (element_contents b) (Lit-F.Text t))) (text-good t)
  lit-level (Lit-F.Element e) = subst AreGood (sym (fold-roll-Lit Contents Contents lit_contents (element_contents b) (Lit-F.Element e.0))) e.1

  lit-part : (y : LitElement-F LitBelow LitPart) → AreGood (element_of (roll-LitElement (record { name = y.name; attributes = y.attributes; children = map (λ c. c.0) y.children })))
  lit-part y =
      subst AreGood (sym (fold-roll-LitElement Contents Contents lit_contents (element_contents b) (record { name = y.name; attributes = y.attributes; children = map (λ c. c.0) y.children })))
      (element-good (record { name = y.name; attributes = y.attributes; children = map (contents_of b) (map (λ c. c.0) y.children) }) (good-children y.children))

  lits-good : (lit : Lit) → AreGood (contents_of b lit)
  lits-good = ind-Lit (λ x. AreGood (contents_of b x)) (λ e. AreGood (element_of e))
      (λ x y is. subst (λ z. AreGood (contents_of b (roll-Lit z))) is (lit-level y)) (λ x y is. subst (λ z. AreGood (element_of (roll-LitElement z))) is (lit-part y))

  pub lit-fine : (lit : Lit) (space depth : ℕ) → Fine (boned (contents_of b lit space depth)) × Begins (boned (contents_of b lit space depth))
  lit-fine lit space depth = lits-good lit space depth
