-- Texts put among visits, where some of the visits are left out with all that stands in them: what stays is filled with the texts that stay.
use Rattle.std.proofs.Common.{◌≡◌, ℕ, Bool, true, false, not, cond, ◌&&◌, List, [], ◌∷◌, ◌++◌, Option, Some, None, refl, sym, ap, ◌∙◌, subst}
use Rattle.std.specs.Prelude.{filter, ⊤}
use Rattle.std.proofs.lemmas.List.{append-nil}
use Rattle.xf_def_forest.specs.declared.content.Content.{Content}
use Rattle.xf_def_forest.specs.declared.content.Content.TheVariants as content
use Rattle.xf_def_forest.specs.Forest.{is_text, is_attribute}
use Rattle.xf_def_forest.specs.Visit.{Visit, has_parent, is_first}
use Rattle.xf_def_forest.specs.Shape.{Texts, is_borne, is_replaced, is_gone, filled}
use Rattle.xf_def_forest.proofs.BackLaws.{and-true}
use Rattle.xf_def_xpath.proofs.VisitFacts.{no, some-same, none-some, filter-append}
use Rattle.xf_def_xpath.proofs.ForestVisits.{Each}

-- what is left out takes its attributes and its texts with it; whether the last node that is no attribute of another is left out
abbrev pub TakesAll : (Visit → Bool) → (Visit → List Visit) → Bool → List Visit → Type 0
TakesAll p g out [] = ⊤
TakesAll p g out (y ∷ ys) =
    (is_borne y ≡ true → out ≡ true → p y ≡ false) × (is_borne y ≡ false → p y ≡ false → filter p (g y) ≡ []) × TakesAll p g (cond (is_borne y) out (not (p y))) ys

module _ (p : Visit → Bool) (g : Visit → List Visit) where
  abbrev part : Visit → List Visit
  part y = filter p (g y)

  abbrev Stay : List Visit → Type 0
  Stay ys = (ws : List Visit) → TakesAll p g false ys → filter p (filled g ws ys) ≡ filled part (filter p ws) (filter p ys)

  -- where what waits is left out: other texts may have waited before
  abbrev Out : List Visit → Type 0
  Out ys = (ws vs : List Visit) → TakesAll p g true ys → filter p ws ≡ [] → vs ++ filter p (filled g ws ys) ≡ filled part vs (filter p ys)

  parts : (ys : List Visit) → Stay ys × Out ys
  parts [] = (λ ws h. refl, λ ws vs h e. ap (λ l. vs ++ l) e ∙ append-nil vs)
  parts (y ∷ ys) = by (is_borne y) (p y) refl refl (parts ys)
    where
      by : (b c : Bool) → is_borne y ≡ b → p y ≡ c → Stay ys × Out ys → Stay (y ∷ ys) × Out (y ∷ ys)
      by true true e f later = (
        λ ws h.
            ap (λ b. filter p (cond b (y ∷ filled g ws ys) (ws ++ y ∷ filled g (g y) ys))) e
            ∙ ap (λ c. cond c (y ∷ filter p (filled g ws ys)) (filter p (filled g ws ys))) f
            ∙ ap (λ l. y ∷ l) (later.0 ws (subst (λ b. TakesAll p g (cond b false (not (p y))) ys) e h.2))
            ∙ sym (ap (λ c. filled part (filter p ws) (cond c (y ∷ filter p ys) (filter p ys))) f
            ∙ ap (λ b. cond b (y ∷ filled part (filter p ws) (filter p ys)) (filter p ws ++ y ∷ filled part (part y) (filter p ys))) e),
        λ ws vs h i. no (sym (h.0 e refl) ∙ f),
      )
      by true false e f later = (
        λ ws h.
            ap (λ b. filter p (cond b (y ∷ filled g ws ys) (ws ++ y ∷ filled g (g y) ys))) e
            ∙ ap (λ c. cond c (y ∷ filter p (filled g ws ys)) (filter p (filled g ws ys))) f
            ∙ later.0 ws (subst (λ b. TakesAll p g (cond b false (not (p y))) ys) e h.2)
            ∙ sym (ap (λ c. filled part (filter p ws) (cond c (y ∷ filter p ys) (filter p ys))) f),
        λ ws vs h i.
            ap (λ b. vs ++ filter p (cond b (y ∷ filled g ws ys) (ws ++ y ∷ filled g (g y) ys))) e
            ∙ ap (λ c. vs ++ cond c (y ∷ filter p (filled g ws ys)) (filter p (filled g ws ys))) f
            ∙ later.1 ws vs (subst (λ b. TakesAll p g (cond b true (not (p y))) ys) e h.2) i
            ∙ sym (ap (λ c. filled part vs (cond c (y ∷ filter p ys) (filter p ys))) f),
      )
      by false true e f later =
          let next : (out : Bool) → TakesAll p g out (y ∷ ys) → TakesAll p g false ys = (λ out h. subst (λ c. TakesAll p g (not c) ys) f (subst (λ b. TakesAll p g (cond b out (not (p y))) ys) e h.2)) in
          let front : (vs : List Visit) → TakesAll p g false ys → vs ++ filter p (y ∷ filled g (g y) ys) ≡ filled part vs (filter p (y ∷ ys)) = (λ vs h.
          ap (λ c. vs ++ cond c (y ∷ filter p (filled g (g y) ys)) (filter p (filled g (g y) ys))) f
          ∙ ap (λ l. vs ++ y ∷ l) (later.0 (g y) h)
          ∙ sym (ap (λ c. filled part vs (cond c (y ∷ filter p ys) (filter p ys))) f
          ∙ ap (λ b. cond b (y ∷ filled part vs (filter p ys)) (vs ++ y ∷ filled part (part y) (filter p ys))) e)) in (
            λ ws h.
                ap (λ b. filter p (cond b (y ∷ filled g ws ys) (ws ++ y ∷ filled g (g y) ys))) e
                ∙ filter-append p ws (y ∷ filled g (g y) ys)
                ∙ front (filter p ws) (next false h),
            λ ws vs h i.
                ap (λ b. vs ++ filter p (cond b (y ∷ filled g ws ys) (ws ++ y ∷ filled g (g y) ys))) e
                ∙ ap (λ l. vs ++ l) (filter-append p ws (y ∷ filled g (g y) ys) ∙ ap (λ l. l ++ filter p (y ∷ filled g (g y) ys)) i)
                ∙ front vs (next true h),
          )
      by false false e f later =
          let next : (out : Bool) → TakesAll p g out (y ∷ ys) → TakesAll p g true ys = (λ out h. subst (λ c. TakesAll p g (not c) ys) f (subst (λ b. TakesAll p g (cond b out (not (p y))) ys) e h.2)) in
          let front : (vs : List Visit) → TakesAll p g true ys → filter p (g y) ≡ [] → vs ++ filter p (y ∷ filled g (g y) ys) ≡ filled part vs (filter p (y ∷ ys)) = (λ vs h i.
          ap (λ c. vs ++ cond c (y ∷ filter p (filled g (g y) ys)) (filter p (filled g (g y) ys))) f
          ∙ later.1 (g y) vs h i
          ∙ sym (ap (λ c. filled part vs (cond c (y ∷ filter p ys) (filter p ys))) f)) in (
            λ ws h.
                ap (λ b. filter p (cond b (y ∷ filled g ws ys) (ws ++ y ∷ filled g (g y) ys))) e
                ∙ filter-append p ws (y ∷ filled g (g y) ys)
                ∙ front (filter p ws) (next false h) (h.1 e f),
            λ ws vs h i.
                ap (λ b. vs ++ filter p (cond b (y ∷ filled g ws ys) (ws ++ y ∷ filled g (g y) ys))) e
                ∙ ap (λ l. vs ++ l) (filter-append p ws (y ∷ filled g (g y) ys) ∙ ap (λ l. l ++ filter p (y ∷ filled g (g y) ys)) i)
                ∙ front vs (next true h) (h.1 e f),
          )

  pub filled-part : (ys : List Visit) → TakesAll p g false ys → filter p (filled g [] ys) ≡ filled part [] (filter p ys)
  filled-part ys h = (parts ys).0 [] h

-- the same texts for each
pub filled-on : (g h : Visit → List Visit) (ws ys : List Visit) → Each (λ y. g y ≡ h y) ys → filled g ws ys ≡ filled h ws ys
filled-on g h ws [] e = refl
filled-on g h ws (y ∷ ys) e =
    ap (λ l. cond (is_borne y) (y ∷ l) (ws ++ y ∷ filled g (g y) ys)) (filled-on g h ws ys e.1)
    ∙ ap (λ l. cond (is_borne y) (y ∷ filled h ws ys) (ws ++ y ∷ l)) (ap (λ vs. filled g vs ys) e.0 ∙ filled-on g h (h y) ys e.1)

-- ---- attributes after their elements

-- an attribute of an element comes after that element, with attributes alone between them; the last node that is no such attribute, unless it
-- is a text
abbrev pub AreLed : Option ℕ → List Visit → Type 0
AreLed last [] = ⊤
AreLed last (y ∷ ys) =
    (is_borne y ≡ true → (n : ℕ) × (last ≡ Some n) × (is_first n y.above ≡ true)) × AreLed (cond (is_borne y) last (cond (is_text y.content) None (Some y.number))) ys

pub led-none : (last : Option ℕ) (ys : List Visit) → AreLed None ys → AreLed last ys
led-none last [] h = tt
led-none last (y ∷ ys) h = (λ b. none-some (h.0 b).1, by (is_borne y) refl h.1)
  where
    by : (b : Bool) → is_borne y ≡ b → AreLed (cond b None (cond (is_text y.content) None (Some y.number))) ys → AreLed (cond b last (cond (is_text y.content) None (Some y.number))) ys
    by true e i = none-some (h.0 e).1
    by false e i = i

text-borne : (y : Visit) → is_text y.content ≡ true → is_borne y ≡ false
text-borne y h = by y.content h
  where
    by : (c : Content) → is_text c ≡ true → (is_attribute c && has_parent y.above) ≡ false
    by content.Root i = refl
    by (content.Element name) i = refl
    by (content.Attribute name text) i = no i
    by (content.Text text) i = refl

-- without some of the texts
pub led-stays : (texts : Texts) (last : Option ℕ) (ys : List Visit) → AreLed last ys → AreLed last (filter (λ y. not (is_gone texts y)) ys)
led-stays texts last [] h = tt
led-stays texts last (y ∷ ys) h = by (is_gone texts y) refl (λ l. led-stays texts l ys)
  where
    by : (b : Bool) → is_gone texts y ≡ b → ((l : Option ℕ) → AreLed l ys → AreLed l (filter (λ z. not (is_gone texts z)) ys)) →
        AreLed last (cond (not b) (y ∷ filter (λ z. not (is_gone texts z)) ys) (filter (λ z. not (is_gone texts z)) ys))
    by false e later = (h.0, later (cond (is_borne y) last (cond (is_text y.content) None (Some y.number))) h.1)
    by true e later =
        let t = (and-true (is_text y.content) (is_replaced texts y.above) e).0 in
        let rest : AreLed None ys = subst (λ c. AreLed (cond c None (Some y.number)) ys) t (subst (λ b. AreLed (cond b last (cond (is_text y.content) None (Some y.number))) ys) (text-borne y t) h.1) in
        later last (led-none last ys rest)

-- what is left out takes with it what stands in it
pub takes-all : (c : ℕ → Bool) (g : Visit → List Visit) (last : Option ℕ) (out : Bool) (ys : List Visit) → AreLed last ys → (out ≡ true → (n : ℕ) → last ≡ Some n → c n ≡ false) →
    Each (λ y. (n : ℕ) → is_first n y.above ≡ true → c n ≡ false → c y.number ≡ false) ys → Each (λ y. c y.number ≡ false → filter (λ (z : Visit). c z.number) (g y) ≡ []) ys →
    TakesAll (λ y. c y.number) g out ys
takes-all c g last out [] h i j k = tt
takes-all c g last out (y ∷ ys) h i j k = (
  λ b o. let n = h.0 b in j.0 n.0 n.2 (i o n.0 n.1),
  λ b. k.0,
  by (is_borne y) (is_text y.content) (c y.number) refl h.1 (λ l o a b. takes-all c g l o ys a b j.1 k.1),
)
  where
    by : (b t d : Bool) → c y.number ≡ d → AreLed (cond b last (cond t None (Some y.number))) ys → ((l : Option ℕ) (o : Bool) → AreLed l ys → (o ≡ true → (n : ℕ) → l ≡ Some n → c n ≡ false) → TakesAll (λ z. c z.number) g o ys) →
        TakesAll (λ z. c z.number) g (cond b out (not d)) ys
    by true t d e a later = later last out a i
    by false true d e a later = later None (not d) a (λ o n l. none-some l)
    by false false true e a later = later (Some y.number) false a (λ o n l. no o)
    by false false false e a later = later (Some y.number) true a (λ o n l. ap c (sym (some-same l)) ∙ e)
