-- Lists of marks, of visits and of texts: what the law of marks needs of them.
use Rattle.std.proofs.Common.{◌≡◌, ℕ, ◌==◌, Bool, true, false, not, cond, ◌&&◌, ◌||◌, List, [], ◌∷◌, ◌++◌, map, Option, Some, None, option_map, refl, sym, ap, ◌∙◌, subst, inl, inr}
use Rattle.std.specs.Prelude.{filter, is_some}
use Rattle.std.specs.List.{list_any, flat_map}
use Rattle.std.proofs.lemmas.Bool.{eqb-true}
use Rattle.xf_def_forest.specs.declared.content.Content.{Content}
use Rattle.xf_def_forest.specs.declared.content.Content.TheVariants as content
use Rattle.xf_def_forest.specs.Forest.{is_text, own_text}
use Rattle.xf_def_forest.specs.Visit.{Visit, has, is_first, first_of, above_in}
use Rattle.xf_def_forest.specs.StringValue.{string_value, value_in, text_below, characters}
use Rattle.xf_def_forest.specs.Shape.{erased, without_text}
use Rattle.xf_def_forest.proofs.RenumberLaws.{map-map}
use Rattle.xf_def_xpath.specs.Asked.{found, as_list}
use Rattle.xf_def_xpath.specs.Agree.{numbers_of, are_apart, AreVisits}
use Rattle.xf_def_xpath.proofs.VisitFacts.{self-same, or-cases, or-left, or-right, no, some-same, none-some, found-number, has-found}
use Rattle.xf_def_xpath.proofs.ForestVisits.{Each, self-found, found-erased}
use Rattle.xf_def_model.specs.Pertinent.{AllOf}
use Rattle.xf_law_recalculation.proofs.AgreeLemmas.Known.{above-text}

-- ---- lists

pub any-of : (n : ℕ) (ns reads : List ℕ) → has n ns ≡ true → has n reads ≡ true → list_any (λ m. has m reads) ns ≡ true
any-of n [] reads h k = no h
any-of n (m ∷ ms) reads h k = elim (or-cases (n == m) (has n ms) h) [
  | inl e ↦ or-left (has m reads) (list_any (λ j. has j reads) ms) (subst (λ j. has j reads ≡ true) (eqb-true n m e) k)
  | inr later ↦ or-right (has m reads) (list_any (λ j. has j reads) ms) (any-of n ms reads later k)
]

-- what no item of a list does, one of them does not
pub none-does : (f : ℕ → Bool) (n : ℕ) (ns : List ℕ) → list_any f ns ≡ false → has n ns ≡ true → f n ≡ false
none-does f n [] e h = no h
none-does f n (m ∷ ms) e h = by (f m) refl e (none-does f n ms)
  where
    by : (b : Bool) → f m ≡ b → (b || list_any f ms) ≡ false → (list_any f ms ≡ false → has n ms ≡ true → f n ≡ false) → f n ≡ false
    by true i j below = no (sym j)
    by false i j below = elim (or-cases (n == m) (has n ms) h) [ inl k ↦ ap f (eqb-true n m k) ∙ i | inr later ↦ below j later ]

there : (m : Option Visit) → is_some m ≡ true → (z : Visit) × (m ≡ Some z)
there None h = no h
there (Some z) h = (z, refl)

pub standing-at : (k : ℕ) (all : List Visit) → has k (numbers_of all) ≡ true → (z : Visit) × (found k all ≡ Some z)
standing-at k all h = there (found k all) (sym (has-found k all) ∙ h)

pub opened : (m : Option Visit) (ns : List ℕ) → option_map (λ (z : Visit). z.above) m ≡ Some ns → (z : Visit) × (m ≡ Some z) × (z.above ≡ ns)
opened None ns h = none-some h
opened (Some z) ns h = (z, refl, some-same h)

pub not-of : (b : Bool) → not b ≡ true → b ≡ false
not-of true h = sym h
not-of false h = refl

pub text-kept : (c : Content) → is_text (without_text c) ≡ is_text c
text-kept content.Root = refl
text-kept (content.Element name) = refl
text-kept (content.Attribute name text) = refl
text-kept (content.Text text) = refl

pub original : (k : ℕ) (xs : List Visit) (y : Visit) → found k (map erased xs) ≡ Some y → (x : Visit) × (found k xs ≡ Some x) × (erased x ≡ y)
original k xs y e = by (found k xs) refl (sym (found-erased k xs) ∙ e)
  where
    by : (o : Option Visit) → found k xs ≡ o → option_map erased o ≡ Some y → (x : Visit) × (found k xs ≡ Some x) × (erased x ≡ y)
    by None i j = none-some j
    by (Some x) i j = (x, i, some-same j)

pub above-of : (m : Option Visit) (x : Visit) → option_map erased m ≡ Some x → above_in m ≡ x.above
above-of None x e = none-some e
above-of (Some y) x e = ap (λ (z : Visit). z.above) (some-same e)

pub each-erased : (P : Visit → Type 0) (xs : List Visit) → Each P (map erased xs) → AllOf (λ x. P (erased x)) xs
each-erased P [] h = tt
each-erased P (x ∷ xs) h = (h.0, each-erased P xs h.1)

pub headed : (n : ℕ) (ns : List ℕ) → is_first n ns ≡ true → (ps : List ℕ) × (ns ≡ n ∷ ps)
headed n [] h = no h
headed n (p ∷ ps) h = (ps, ap (λ m. m ∷ ps) (sym (eqb-true n p h)))

pub filled-first : (n : ℕ) (ns : List ℕ) → has n ns ≡ true → (p : ℕ) × (ps : List ℕ) × (ns ≡ p ∷ ps)
filled-first n [] h = no h
filled-first n (p ∷ ps) h = (p, ps, refl)

pub first-itself : (p : ℕ) (ps ns : List ℕ) → ns ≡ p ∷ ps → is_first p ns ≡ true
first-itself p ps ns e = ap (is_first p) e ∙ self-same p

pub around-first : (m : ℕ) (ns : List ℕ) → has m (as_list (first_of ns)) ≡ true → is_first m ns ≡ true
around-first m [] h = no h
around-first m (p ∷ ps) h = elim (or-cases (m == p) false h) [ inl a ↦ a | inr b ↦ no b ]

pub flat-same : (f g : ℕ → List ℕ) (ns : List ℕ) → ((k : ℕ) → has k ns ≡ true → f k ≡ g k) → flat_map f ns ≡ flat_map g ns
flat-same f g [] h = refl
flat-same f g (n ∷ ns) h = ap (λ l. l ++ flat_map f ns) (h n (or-left (n == n) (has n ns) (self-same n))) ∙ ap (λ l. g n ++ l) (flat-same f g ns (λ k i. h k (or-right (k == n) (has k ns) i)))

-- a test that a stronger one implies, of these items
pub within-each : (T K : Visit → Bool) (xs : List Visit) → Each (λ y. T y ≡ true → K y ≡ true) xs → filter T (filter K xs) ≡ filter T xs
within-each T K [] e = refl
within-each T K (y ∷ ys) e = by (K y) (T y) refl refl (within-each T K ys e.1)
  where
    by : (b c : Bool) → K y ≡ b → T y ≡ c → filter T (filter K ys) ≡ filter T ys → filter T (cond b (y ∷ filter K ys) (filter K ys)) ≡ cond c (y ∷ filter T ys) (filter T ys)
    by true c i j h = ap (λ d. cond d (y ∷ filter T (filter K ys)) (filter T (filter K ys))) j ∙ ap (λ l. cond c (y ∷ l) l) h
    by false true i j h = no (sym i ∙ e.0 j)
    by false false i j h = h

-- ---- the texts below a node, by their numbers

abbrev pub is_under : ℕ → Visit → Bool
is_under n y = is_text y.content && has n y.above

abbrev pub characters_of : Option Visit → List ℕ
characters_of None = []
characters_of (Some x) = characters x.content

no-characters : (c : Content) → is_text c ≡ false → characters c ≡ []
no-characters content.Root h = refl
no-characters (content.Element name) h = refl
no-characters (content.Attribute name text) h = refl
no-characters (content.Text text) h = no (sym h)

below-texts : (n : ℕ) (all xs : List Visit) → Each (λ y. found y.number all ≡ Some y) xs →
    flat_map (text_below n) xs ≡ flat_map (λ k. characters_of (found k all)) (numbers_of (filter (is_under n) (map erased xs)))
below-texts n all [] e = refl
below-texts n all (x ∷ xs) e = by (is_text x.content) (has n x.above) refl (text-kept x.content) (below-texts n all xs e.1)
  where
    by : (b c : Bool) → is_text x.content ≡ b → is_text (without_text x.content) ≡ is_text x.content →
        flat_map (text_below n) xs ≡ flat_map (λ k. characters_of (found k all)) (numbers_of (filter (is_under n) (map erased xs))) →
        cond c (characters x.content) [] ++ flat_map (text_below n) xs
        ≡ flat_map (λ k. characters_of (found k all)) (numbers_of (cond (is_text (without_text x.content) && c) (erased x ∷ filter (is_under n) (map erased xs)) (filter (is_under n) (map erased xs))))
    by true true i k l =
        ap (λ m. m ++ flat_map (text_below n) xs) (sym (ap characters_of e.0)) ∙ ap (λ m. characters_of (found x.number all) ++ m) l
        ∙ ap (λ d. flat_map (λ j. characters_of (found j all)) (numbers_of (cond (d && true) (erased x ∷ filter (is_under n) (map erased xs)) (filter (is_under n) (map erased xs))))) (sym (k ∙ i))
    by true false i k l =
        l ∙ ap (λ d. flat_map (λ j. characters_of (found j all)) (numbers_of (cond (d && false) (erased x ∷ filter (is_under n) (map erased xs)) (filter (is_under n) (map erased xs))))) (sym (k ∙ i))
    by false true i k l =
        ap (λ m. m ++ flat_map (text_below n) xs) (no-characters x.content i) ∙ l
        ∙ ap (λ d. flat_map (λ j. characters_of (found j all)) (numbers_of (cond (d && true) (erased x ∷ filter (is_under n) (map erased xs)) (filter (is_under n) (map erased xs))))) (sym (k ∙ i))
    by false false i k l =
        l ∙ ap (λ d. flat_map (λ j. characters_of (found j all)) (numbers_of (cond (d && false) (erased x ∷ filter (is_under n) (map erased xs)) (filter (is_under n) (map erased xs))))) (sym (k ∙ i))

-- of all visits
pub all-below : (n : ℕ) (all : List Visit) → AreVisits (map erased all) → flat_map (text_below n) all ≡ flat_map (λ k. characters_of (found k all)) (numbers_of (filter (is_under n) (map erased all)))
all-below n all v = below-texts n all all (self-found all (ap are_apart (sym (map-map (λ (y : Visit). y.number) erased all)) ∙ v.apart))

-- ---- a text

-- nothing stands below a text
pub text-value : (all : List Visit) → AreVisits (map erased all) → (k : ℕ) (x : Visit) → found k all ≡ Some x → is_text x.content ≡ true → string_value k all ≡ own_text x.content ++ []
text-value all v k x e t =
    ap (value_in all) e ∙ ap (λ l. own_text x.content ++ l) (none all (erased-each all (self-found (map erased all) v.apart)))
  where
    none-at : (y : Visit) → found y.number (map erased all) ≡ Some (erased y) → has x.number y.above ≡ false
    none-at y i = of (has x.number y.above) refl
      where
        of : (b : Bool) → has x.number y.above ≡ b → b ≡ false
        of true h = sym (above-text (map erased all) v y.number (erased y) i x.number (erased x)
            (found-erased x.number all ∙ ap (option_map erased) (ap (λ n. found n all) (found-number k all x e) ∙ e)) h (text-kept x.content ∙ t))
        of false h = refl

    erased-each : (xs : List Visit) → Each (λ y. found y.number (map erased all) ≡ Some y) (map erased xs) → Each (λ y. found y.number (map erased all) ≡ Some (erased y)) xs
    erased-each [] h = tt
    erased-each (y ∷ ys) h = (h.0, erased-each ys h.1)

    none : (xs : List Visit) → Each (λ y. found y.number (map erased all) ≡ Some (erased y)) xs → flat_map (text_below x.number) xs ≡ []
    none [] h = refl
    none (y ∷ ys) h = ap (λ b. cond b (characters y.content) [] ++ flat_map (text_below x.number) ys) (none-at y h.0) ∙ none ys h.1
