-- One list of visits with different texts in its elements: but for the texts of elements where these differ it is the same list.
use Rattle.std.proofs.Common.{◌≡◌, ℕ, suc, ◌==◌, Bool, true, false, not, cond, ◌&&◌, ◌||◌, List, [], ◌∷◌, ◌++◌, map, Option, Some, None, refl, sym, ap, ◌∙◌, arith, subst}
use Rattle.std.specs.Prelude.{filter, is_some, ⊤, nat_lt}
use Rattle.std.proofs.lemmas.List.{append_assoc, append-nil}
use Rattle.std.proofs.lemmas.Bool.Decides.{nat_tests}
use Rattle.std.proofs.lemmas.Bool.{eqb-true}
use Rattle.xf_def_forest.specs.declared.content.Content.{Content}
use Rattle.xf_def_forest.specs.declared.content.Content.TheVariants as content
use Rattle.xf_def_forest.specs.declared.content.Node.{Node}
use Rattle.xf_def_forest.specs.Forest.{is_text, is_element, is_attribute}
use Rattle.xf_def_forest.specs.Visit.{Visit, still_above, numbers, visits_from, visits, visit, has_parent}
use Rattle.xf_def_forest.specs.WellFormed.{are_first, stands_first}
use Rattle.xf_def_forest.specs.Shape.{Texts, text_visit, given_visits, visits_in, is_borne, is_replaced, is_gone, filled, retexted, erased, without_text}
use Rattle.xf_def_forest.proofs.BackLaws.{and-true}
use Rattle.xf_def_xpath.proofs.VisitFacts.{no, filter-append, filter-within}
use Rattle.xf_law_recalculation.proofs.AgreeLemmas.Covers.{stays}
use Rattle.xf_law_recalculation.proofs.AgreeLemmas.Meeting.{is_known, keeps, kept}

-- no attribute of an element comes after a text; whether a text was the last one
abbrev pub Late : Bool → List Visit → Type 0
Late after [] = ⊤
Late after (y ∷ ys) = (after ≡ true → is_borne y ≡ false) × Late (is_text y.content) ys

text-element : (c : Content) → is_text c ≡ true → is_element c ≡ false
text-element content.Root h = no h
text-element (content.Element name) h = no h
text-element (content.Attribute name text) h = no h
text-element (content.Text text) h = refl

text-attribute : (c : Content) → is_text c ≡ true → is_attribute c ≡ false
text-attribute content.Root h = no h
text-attribute (content.Element name) h = no h
text-attribute (content.Attribute name text) h = no h
text-attribute (content.Text text) h = refl

abbrev stay : Texts → List Visit → List Visit
stay t ys = filter (stays t) ys

module _ (known : ℕ → Bool) where
  abbrev K : List Visit → List Visit
  K xs = kept known xs

  -- a text takes the place where those that wait stand before it
  flush : (t : Texts) (ws ys : List Visit) → Late true ys → K (filled (visits_in t) ws (stay t ys)) ≡ K ws ++ K (filled (visits_in t) [] (stay t ys))
  flush t ws [] h = sym (append-nil (K ws))
  flush t ws (y ∷ ys) h = by (is_gone t y) refl (λ l. flush t ws ys l)
    where
      by : (b : Bool) → is_gone t y ≡ b → (Late true ys → K (filled (visits_in t) ws (stay t ys)) ≡ K ws ++ K (filled (visits_in t) [] (stay t ys))) → K (filled (visits_in t) ws (cond (not b) (y ∷ stay t ys) (stay t ys))) ≡ K ws ++ K (filled (visits_in t) [] (cond (not b) (y ∷ stay t ys) (stay t ys)))
      by true e later = later (subst (λ b. Late b ys) (and-true (is_text y.content) (is_replaced t y.above) e).0 h.1)
      by false e later =
          ap (λ b. K (cond b (y ∷ filled (visits_in t) ws (stay t ys)) (ws ++ y ∷ filled (visits_in t) (visits_in t y) (stay t ys)))) (h.0 refl)
          ∙ filter-append (keeps known) ws (y ∷ filled (visits_in t) (visits_in t y) (stay t ys))
          ∙ sym (ap (λ b. K ws ++ K (cond b (y ∷ filled (visits_in t) [] (stay t ys)) (y ∷ filled (visits_in t) (visits_in t y) (stay t ys)))) (h.0 refl))

  -- the text itself
  abbrev one_of : Texts → Visit → List Visit
  one_of t y = cond (is_gone t y) [] (K (y ∷ []))

  one-front : (y : Visit) (ls : List Visit) → K (y ∷ ls) ≡ K (y ∷ []) ++ K ls
  one-front y ls = by (keeps known y)
    where
      by : (b : Bool) → cond b (y ∷ K ls) (K ls) ≡ cond b (y ∷ []) [] ++ K ls
      by true = refl
      by false = refl

  text-step : (t : Texts) (ws : List Visit) (y : Visit) (ys : List Visit) → is_text y.content ≡ true → Late true ys → K (filled (visits_in t) ws (stay t (y ∷ ys))) ≡ K ws ++ one_of t y ++ K (filled (visits_in t) [] (stay t ys))
  text-step t ws y ys e h = by (is_gone t y)
    where
      borne : is_borne y ≡ false
      borne = ap (λ b. b && has_parent y.above) (text-attribute y.content e)

      none : visits_in t y ≡ []
      none = ap (λ b. cond b (given_visits y (t y.number)) []) (text-element y.content e)

      by : (b : Bool) → K (filled (visits_in t) ws (cond (not b) (y ∷ stay t ys) (stay t ys))) ≡ K ws ++ cond b [] (K (y ∷ [])) ++ K (filled (visits_in t) [] (stay t ys))
      by true = flush t ws ys h ∙ ap (λ l. l ++ K (filled (visits_in t) [] (stay t ys))) (sym (append-nil (K ws)))
      by false =
          ap (λ b. K (cond b (y ∷ filled (visits_in t) ws (stay t ys)) (ws ++ y ∷ filled (visits_in t) (visits_in t y) (stay t ys)))) borne
          ∙ filter-append (keeps known) ws (y ∷ filled (visits_in t) (visits_in t y) (stay t ys))
          ∙ ap (λ l. K ws ++ l) (one-front y (filled (visits_in t) (visits_in t y) (stay t ys)))
          ∙ ap (λ g. K ws ++ (K (y ∷ []) ++ K (filled (visits_in t) g (stay t ys)))) none
          ∙ sym (append_assoc (K ws) (K (y ∷ [])) (K (filled (visits_in t) [] (stay t ys))))

  -- texts of an element that is not known
  none-kept : (y : Visit) (ts : List (List ℕ)) → known y.number ≡ false → K (map (text_visit y) ts) ≡ []
  none-kept y [] h = refl
  none-kept y (t ∷ ts) h = ap (λ b. cond b (text_visit y t ∷ K (map (text_visit y) ts)) (K (map (text_visit y) ts))) h ∙ none-kept y ts h

  none-given : (y : Visit) (o : Option (List (List ℕ))) → known y.number ≡ false → K (given_visits y o) ≡ []
  none-given y None h = refl
  none-given y (Some ts) h = none-kept y ts h

  module _ (t t' : Texts) (agree : (p : ℕ) → known p ≡ true → t p ≡ t' p) where
    given-same : (y : Visit) → K (visits_in t y) ≡ K (visits_in t' y)
    given-same y = by (is_element y.content) (known y.number) refl
      where
        by : (b c : Bool) → known y.number ≡ c → K (cond b (given_visits y (t y.number)) []) ≡ K (cond b (given_visits y (t' y.number)) [])
        by false c e = refl
        by true true e = ap (λ o. K (given_visits y o)) (agree y.number e)
        by true false e = none-given y (t y.number) e ∙ sym (none-given y (t' y.number) e)

    one-same : (y : Visit) → is_text y.content ≡ true → one_of t y ≡ one_of t' y
    one-same y e = by y.above refl
      where
        same : is_replaced t y.above ≡ is_replaced t' y.above → one_of t y ≡ one_of t' y
        same h = ap (λ b. cond (is_text y.content && b) [] (K (y ∷ []))) h

        gone : (b : Bool) → cond b [] (cond false (y ∷ []) []) ≡ []
        gone true = refl
        gone false = refl

        off : keeps known y ≡ false → one_of t y ≡ one_of t' y
        off h = ap (λ b. cond (is_gone t y) [] (cond b (y ∷ []) [])) h ∙ gone (is_gone t y) ∙ sym (gone (is_gone t' y)) ∙ sym (ap (λ b. cond (is_gone t' y) [] (cond b (y ∷ []) [])) h)

        by : (ns : List ℕ) → y.above ≡ ns → one_of t y ≡ one_of t' y
        by [] i = same (ap (is_replaced t) i ∙ sym (ap (is_replaced t') i))
        by (p ∷ ps) i = of (known p) refl
          where
            of : (b : Bool) → known p ≡ b → one_of t y ≡ one_of t' y
            of true j = same (ap (is_replaced t) i ∙ ap is_some (agree p j) ∙ sym (ap (is_replaced t') i))
            of false j = off (ap (λ b. not b || is_known known y.above) e ∙ ap (is_known known) i ∙ j)

    -- with these texts and with the others
    filled-same : (after : Bool) (ws vs ys : List Visit) → Late after ys → K ws ≡ K vs → K (filled (visits_in t) ws (stay t ys)) ≡ K (filled (visits_in t') vs (stay t' ys))
    filled-same after ws vs [] h e = e
    filled-same after ws vs (y ∷ ys) h e = by (is_text y.content) refl (λ c us zs l i. filled-same c us zs ys l i)
      where
        by : (b : Bool) → is_text y.content ≡ b → ((c : Bool) (us zs : List Visit) → Late c ys → K us ≡ K zs → K (filled (visits_in t) us (stay t ys)) ≡ K (filled (visits_in t') zs (stay t' ys))) → K (filled (visits_in t) ws (stay t (y ∷ ys))) ≡ K (filled (visits_in t') vs (stay t' (y ∷ ys)))
        by true i more =
            let late : Late true ys = subst (λ b. Late b ys) i h.1 in
            text-step t ws y ys i late
            ∙ ap (λ l. l ++ one_of t y ++ K (filled (visits_in t) [] (stay t ys))) e
            ∙ ap (λ l. K vs ++ l ++ K (filled (visits_in t) [] (stay t ys))) (one-same y i)
            ∙ ap (λ l. K vs ++ one_of t' y ++ l) (more true [] [] late refl)
            ∙ sym (text-step t' vs y ys i late)
        by false i more =
            let stay_one : stay t (y ∷ ys) ≡ y ∷ stay t ys = ap (λ b. cond (not (b && is_replaced t y.above)) (y ∷ stay t ys) (stay t ys)) i in
            let stay_two : stay t' (y ∷ ys) ≡ y ∷ stay t' ys = ap (λ b. cond (not (b && is_replaced t' y.above)) (y ∷ stay t' ys) (stay t' ys)) i in
            ap (λ l. K (filled (visits_in t) ws l)) stay_one ∙ of (is_borne y) ∙ sym (ap (λ l. K (filled (visits_in t') vs l)) stay_two)
          where
            of : (c : Bool) → K (cond c (y ∷ filled (visits_in t) ws (stay t ys)) (ws ++ y ∷ filled (visits_in t) (visits_in t y) (stay t ys))) ≡ K (cond c (y ∷ filled (visits_in t') vs (stay t' ys)) (vs ++ y ∷ filled (visits_in t') (visits_in t' y) (stay t' ys)))
            of true = one-front y (filled (visits_in t) ws (stay t ys)) ∙ ap (λ l. K (y ∷ []) ++ l) (more (is_text y.content) ws vs h.1 e) ∙ sym (one-front y (filled (visits_in t') vs (stay t' ys)))
            of false =
                filter-append (keeps known) ws (y ∷ filled (visits_in t) (visits_in t y) (stay t ys))
                ∙ ap (λ l. l ++ K (y ∷ filled (visits_in t) (visits_in t y) (stay t ys))) e
                ∙ ap (λ l. K vs ++ l) (one-front y (filled (visits_in t) (visits_in t y) (stay t ys)) ∙ ap (λ l. K (y ∷ []) ++ l) (more (is_text y.content) (visits_in t y) (visits_in t' y) h.1 (given-same y)) ∙ sym (one-front y (filled (visits_in t') (visits_in t' y) (stay t' ys))))
                ∙ sym (filter-append (keeps known) vs (y ∷ filled (visits_in t') (visits_in t' y) (stay t' ys)))

    pub retexted-same : (ys : List Visit) → Late false ys → kept known (retexted t ys) ≡ kept known (retexted t' ys)
    retexted-same ys h = filled-same false [] [] ys h refl

-- ---- of a forest

no-depth : (d : ℕ) → nat_lt d 0 ≡ false
no-depth d = grind (arith, nat_tests)

none-above : (stack : List Node) → still_above 0 stack ≡ []
none-above [] = refl
none-above (y ∷ ys) = ap (λ b. cond b (y ∷ ys) (still_above 0 ys)) (no-depth y.depth) ∙ none-above ys

attribute-kept : (c : Content) → is_attribute (without_text c) ≡ is_attribute c
attribute-kept content.Root = refl
attribute-kept (content.Element name) = refl
attribute-kept (content.Attribute name text) = refl
attribute-kept (content.Text text) = refl

text-kept : (c : Content) → is_text (without_text c) ≡ is_text c
text-kept content.Root = refl
text-kept (content.Element name) = refl
text-kept (content.Attribute name text) = refl
text-kept (content.Text text) = refl

-- after a text comes no attribute of an element
not-borne : (z x : Node) (stack : List Node) → stands_first z x ≡ true → is_text z.content ≡ true → is_borne (erased (visit stack x)) ≡ false
not-borne z x stack h t =
    ap (λ b. b && has_parent (numbers (still_above x.depth stack))) (attribute-kept x.content)
    ∙ by (is_attribute x.content) (x.depth == 0) refl (ap (λ b. not (is_attribute x.content) || (x.depth == 0) || (b && (suc z.depth == x.depth)) || (is_attribute z.content && (z.depth == x.depth))) (sym (text-element z.content t))
    ∙ ap (λ b. not (is_attribute x.content) || (x.depth == 0) || (is_element z.content && (suc z.depth == x.depth)) || (b && (z.depth == x.depth))) refl ∙ h)
  where
    by : (a b : Bool) → (x.depth == 0) ≡ b → (not a || b || (false && (suc z.depth == x.depth)) || (is_attribute z.content && (z.depth == x.depth))) ≡ true → (a && has_parent (numbers (still_above x.depth stack))) ≡ false
    by false b e i = refl
    by true true e i = ap (λ d. has_parent (numbers (still_above d stack))) (eqb-true x.depth 0 e) ∙ ap (λ l. has_parent (numbers l)) (none-above stack)
    by true false e i = no (sym (ap (λ b. b && (z.depth == x.depth)) (text-attribute z.content t)) ∙ i)

late-from : (z : Node) (stack xs : List Node) → are_first (z ∷ xs) ≡ true → Late (is_text z.content) (map erased (visits_from stack xs))
late-from z stack [] h = tt
late-from z stack (x ∷ xs) h =
    let parts = and-true (stands_first z x) (are_first (x ∷ xs)) h in
    (not-borne z x stack parts.0, subst (λ b. Late b (map erased (visits_from (x ∷ still_above x.depth stack) xs))) (sym (text-kept x.content)) (late-from x (x ∷ still_above x.depth stack) xs parts.1))

pub forest-late : (nodes : List Node) → are_first nodes ≡ true → Late false (map erased (visits nodes))
forest-late [] h = tt
forest-late (x ∷ xs) h =
    ((λ i. no i), subst (λ b. Late b (map erased (visits_from (x ∷ still_above x.depth []) xs))) (sym (text-kept x.content)) (late-from x (x ∷ still_above x.depth []) xs h))

-- ---- what is the same whatever the texts are

-- with other texts in elements whose texts count as replaced
pub stays-retexted : (T t : Texts) → ((p : ℕ) → is_some (t p) ≡ true → is_some (T p) ≡ true) → (ys : List Visit) → filter (stays T) (retexted t ys) ≡ filter (stays T) ys
stays-retexted T t within ys = filled-stays [] (stay t ys) refl ∙ filter-part
  where
    not-true : (b : Bool) → b ≡ true → not b ≡ false
    not-true b h = ap not h

    texts-none : (y : Visit) (ts : List (List ℕ)) → is_some (T y.number) ≡ true → filter (stays T) (map (text_visit y) ts) ≡ []
    texts-none y [] h = refl
    texts-none y (u ∷ us) h = ap (λ b. cond (not b) (text_visit y u ∷ filter (stays T) (map (text_visit y) us)) (filter (stays T) (map (text_visit y) us))) h ∙ texts-none y us h

    given-none : (y : Visit) (o : Option (List (List ℕ))) → t y.number ≡ o → filter (stays T) (given_visits y o) ≡ []
    given-none y None e = refl
    given-none y (Some ts) e = texts-none y ts (within y.number (ap is_some e))

    in-none : (y : Visit) → filter (stays T) (visits_in t y) ≡ []
    in-none y = by (is_element y.content)
      where
        by : (b : Bool) → filter (stays T) (cond b (given_visits y (t y.number)) []) ≡ []
        by true = given-none y (t y.number) refl
        by false = refl

    filled-stays : (ws zs : List Visit) → filter (stays T) ws ≡ [] → filter (stays T) (filled (visits_in t) ws zs) ≡ filter (stays T) zs
    filled-stays ws [] e = e
    filled-stays ws (z ∷ zs) e = by (is_borne z) (filled-stays ws zs e) (filled-stays (visits_in t z) zs (in-none z))
      where
        by : (b : Bool) → filter (stays T) (filled (visits_in t) ws zs) ≡ filter (stays T) zs → filter (stays T) (filled (visits_in t) (visits_in t z) zs) ≡ filter (stays T) zs →
            filter (stays T) (cond b (z ∷ filled (visits_in t) ws zs) (ws ++ z ∷ filled (visits_in t) (visits_in t z) zs)) ≡ filter (stays T) (z ∷ zs)
        by true i j = ap (λ l. cond (stays T z) (z ∷ l) l) i
        by false i j = filter-append (stays T) ws (z ∷ filled (visits_in t) (visits_in t z) zs) ∙ ap (λ l. l ++ filter (stays T) (z ∷ filled (visits_in t) (visits_in t z) zs)) e ∙ ap (λ l. cond (stays T z) (z ∷ l) l) j

    stays-both : (x : Visit) → stays T x ≡ true → stays t x ≡ true
    stays-both x h = by (is_text x.content) x.above h
      where
        by : (b : Bool) (ns : List ℕ) → not (b && is_replaced T ns) ≡ true → not (b && is_replaced t ns) ≡ true
        by false ns i = refl
        by true [] i = refl
        by true (p ∷ ps) i = of (is_some (t p)) refl
          where
            of : (c : Bool) → is_some (t p) ≡ c → not c ≡ true
            of true j = sym (ap not (within p j)) ∙ i
            of false j = refl

    filter-part : filter (stays T) (stay t ys) ≡ filter (stays T) ys
    filter-part = filter-within (stays T) (stays t) stays-both ys
