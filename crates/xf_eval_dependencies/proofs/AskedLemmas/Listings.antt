-- The lists at and below a node of the shape, and what is read for it, by what the calls test in the forest.
use Rattle.std.proofs.Common.{◌≡◌, ℕ, ◌==◌, Bool, true, false, not, cond, ◌&&◌, List, [], ◌∷◌, map, Option, Some, None, option_map, refl, sym, ap, ◌∙◌, inl, inr}
use Rattle.std.specs.Prelude.{filter, unwrap_or}
use Rattle.std.proofs.lemmas.Bool.{eqb-true}
use Rattle.xf_name.specs.declared.axis.Axis.TheVariants.{Descendant}
use Rattle.xf_def_syntax.specs.declared.expr.Test.TheVariants as test
use Rattle.xf_def_forest.specs.declared.content.Content.{Content}
use Rattle.xf_def_forest.specs.declared.content.Content.TheVariants as content
use Rattle.xf_def_forest.specs.Forest.{Forest, is_text, is_attribute, has_number, content_at}
use Rattle.xf_def_forest.specs.Visit.{Visit, visits, has, first_of, above_in, parent_of}
use Rattle.xf_def_forest.specs.Axis.{axis_from, axis_of, is_on}
use Rattle.xf_def_forest.specs.Shape.{erased, without_text, text_number}
use Rattle.xf_def_forest.proofs.BackLaws.{and-true}
use Rattle.xf_def_forest.proofs.RenumberLaws.{filter-through}
use Rattle.xf_def_xpath.specs.Agree.{untexted, AreVisits}
use Rattle.xf_def_xpath.specs.Asked.{as_list, found, has_list, list_around, lists_below, parent_in, read_for, reader_of}
use Rattle.xf_def_xpath.specs.AskedSteps.{if_text}
use Rattle.xf_def_xpath.proofs.VisitFacts.{no, some-same, none-some, or-cases, filter-and, filter-within, found-number, found-in, absent, present}
use Rattle.xf_def_xpath.proofs.ForestVisits.{each-map, self-found, found-erased, list-solid}
use Rattle.xf_def_xpath.proofs.UntextedLaws.{solid-found}
use Rattle.xf_eval.proofs.Erased.{reached-erased}
use Rattle.xf_eval_shape.specs.Spots.{is_leaf, is_text_in, shaped, stands}
use Rattle.xf_eval_shape.specs.Steps.{if_so}
use Rattle.xf_eval_shape.specs.Woven.{is_shown}
use Rattle.xf_eval_shape.proofs.Bounds.{parent-shown}
use Rattle.xf_eval_shape.proofs.Frames.{each-same, opened}
use Rattle.xf_eval_shape.proofs.Filled.{each-kept_none}
use Rattle.xf_eval_shape.proofs.Plain.{content-of, has-list-of, leaf-visit}
use Rattle.xf_eval_shape.proofs.Shapes.{Sound, real, whole, real-visits, whole-visits, same-bare, live-found, found-live, stands-found, text-found, text_in}
use Rattle.xf_eval_dependencies.specs.Asked.Lists.{has_list_of, reader_at}
use Rattle.xf_eval_dependencies.specs.Asked.Tells.{has_list_at, is_list}

both-hold : (a b : Bool) → a ≡ true → b ≡ true → (a && b) ≡ true
both-hold true b h i = i
both-hold false b h i = h

not-so : (b : Bool) → (b ≡ true → false ≡ true) → b ≡ false
not-so true h = sym (h refl)
not-so false h = refl

-- ---- what stands above a node has a list

module _ (all : List Visit) (v : AreVisits all) where
  above-lists : (n : ℕ) (ns : List ℕ) (k : ℕ) (y : Visit) → found k all ≡ Some y → y.above ≡ ns → has n ns ≡ true → has_list_at (found n all) ≡ true
  above-lists n [] k y i h l = no l
  above-lists n (m ∷ ms) k y i h l =
      let z = opened (found m (untexted all)) ms (v.closed k m ms y i h) in
      let there : found m all ≡ Some z.0 = (solid-found all v m z.0 z.1).0 in
      elim (or-cases (n == m) (has n ms) l) [
        | inl a ↦ ap (λ j. has_list_at (found j all)) (eqb-true n m a) ∙ ap has_list_at there ∙ v.parents k m ms y z.0 i h there
        | inr b ↦ above-lists n ms m z.0 there z.2 b
      ]

  -- below a node without a list there is none
  pub none-below : (p : ℕ → Bool) (n : ℕ) → p n ≡ false → has_list_at (found n all) ≡ false → filter p (lists_below all n) ≡ []
  none-below p n e h =
      ap (λ b. cond b (n ∷ filter p (map (λ (y : Visit). y.number) (filter (λ y. has n y.above) all))) (filter p (map (λ (y : Visit). y.number) (filter (λ y. has n y.above) all)))) e
      ∙ ap (λ l. filter p (map (λ (y : Visit). y.number) l)) (each-kept_none (λ y. has n y.above) all
      (each-map (λ y. found y.number all ≡ Some y) (λ y. has n y.above ≡ false) all (λ y i. not-so (has n y.above) (λ l. sym h ∙ above-lists n y.above y.number y i refl l)) (self-found all v.apart)))

  -- the list in which a node stands is one
  pub around-lists : (n : ℕ) → filter (λ k. has_list_at (found k all)) (list_around all n) ≡ list_around all n
  around-lists n = by (found n all) refl
    where
      of : (x : Visit) → found n all ≡ Some x → (ns : List ℕ) → x.above ≡ ns → filter (λ k. has_list_at (found k all)) (as_list (first_of ns)) ≡ as_list (first_of ns)
      of x e [] i = refl
      of x e (p ∷ ps) i =
          let z = opened (found p (untexted all)) ps (v.closed n p ps x e i) in
          let there : found p all ≡ Some z.0 = (solid-found all v p z.0 z.1).0 in
          ap (λ b. cond b (p ∷ []) []) (ap has_list_at there ∙ v.parents n p ps x z.0 e i there)

      by : (m : Option Visit) → found n all ≡ m → filter (λ k. has_list_at (found k all)) (parent_in m) ≡ parent_in m
      by None e = refl
      by (Some x) e = of x e x.above refl

-- ---- the shape

module _ (forest : Forest) (sound : Sound forest) where
  abbrev W : List Visit
  W = whole forest sound

  abbrev R : List Visit
  R = real forest sound

  -- a node that is found has a list by what it is
  list-is : (y : Visit) → found y.number W ≡ Some y → is_list forest.nodes y.number ≡ has_list y.content
  list-is y e = ap has_list_at e

  outside-list : (n : ℕ) → stands forest.nodes n ≡ false → is_list forest.nodes n ≡ false
  outside-list n h = ap has_list_at (absent n W h)

  pub outside-around : (n : ℕ) → stands forest.nodes n ≡ false → list_around (shaped forest.nodes) n ≡ []
  outside-around n h = ap parent_in (absent n W h)

  pub outside-read : (n : ℕ) → stands forest.nodes n ≡ false → read_for (shaped forest.nodes) n ≡ []
  outside-read n h = ap reader_of (absent n W h)

  pub outside-below : (n : ℕ) → stands forest.nodes n ≡ false → filter (is_list forest.nodes) (lists_below (shaped forest.nodes) n) ≡ []
  outside-below n h = none-below W (whole-visits forest sound) (is_list forest.nodes) n (outside-list n h) (outside-list n h)

  pub outside-own : (n : ℕ) → stands forest.nodes n ≡ false → filter (is_list forest.nodes) (n ∷ []) ≡ []
  outside-own n h = ap (λ b. cond b (n ∷ []) []) (outside-list n h)

  pub siblings-lists : (n : ℕ) → filter (is_list forest.nodes) (list_around (shaped forest.nodes) n) ≡ list_around (shaped forest.nodes) n
  siblings-lists n = around-lists W (whole-visits forest sound) n

  -- ---- a node with a list is one of the forest

  pub list-shown : (n : ℕ) → is_list forest.nodes n ≡ true → is_shown forest.nodes n ≡ true
  list-shown n h = by (found n W) refl h
    where
      by : (m : Option Visit) → found n W ≡ m → has_list_at m ≡ true → is_shown forest.nodes n ≡ true
      by None e i = no i
      by (Some x) e i =
          let bare : found n (untexted W) ≡ Some x = found-in (λ y. not (is_text y.content)) n W x (whole-visits forest sound).apart e (list-solid x.content i) in
          let there : found n R ≡ Some x = (solid-found R (real-visits forest sound) n x (ap (found n) (sym (same-bare forest sound)) ∙ bare)).0 in
          both-hold (has_number n forest.nodes) (stands forest.nodes n) (found-live forest sound n x there) (present n W x e)

  -- ---- a node that is live

  module _ (n : ℕ) (live : has_number n forest.nodes ≡ true) where
    abbrev x : Visit
    x = (live-found forest sound n live).0

    at : found n R ≡ Some x
    at = (live-found forest sound n live).1

    named : x.number ≡ n
    named = found-number n R x at

    parent-is : parent_of n (visits forest.nodes) ≡ first_of x.above
    parent-is = by (found n (visits forest.nodes)) (sym (found-erased n (visits forest.nodes)) ∙ at)
      where
        by : (m : Option Visit) → option_map erased m ≡ Some x → first_of (above_in m) ≡ first_of x.above
        by None i = none-some i
        by (Some y) i = ap (λ (v : Visit). first_of v.above) (some-same i)

    -- the one text of an element

    module _ (leaf : is_leaf forest.nodes n ≡ true) where
      text : found (text_number n) W ≡ Some (text_in x)
      text = text-found forest sound n x at (sym (leaf-visit forest.nodes n x at) ∙ leaf)

      text-list : is_list forest.nodes (text_number n) ≡ false
      text-list = ap has_list_at text

      pub text-around : n ∷ [] ≡ list_around (shaped forest.nodes) (text_number n)
      text-around = sym (ap parent_in text ∙ ap (λ k. k ∷ []) named)

      pub text-read : n ∷ [] ≡ read_for (shaped forest.nodes) (text_number n)
      text-read = sym (ap reader_of text ∙ ap (λ k. k ∷ []) named)

      pub text-itself : text_number n ∷ [] ≡ if_text (found (text_number n) (shaped forest.nodes))
      text-itself = sym (ap if_text text ∙ ap (λ k. text_number k ∷ []) named)

      pub text-below : filter (is_list forest.nodes) (lists_below (shaped forest.nodes) (text_number n)) ≡ []
      text-below = none-below W (whole-visits forest sound) (is_list forest.nodes) (text_number n) text-list text-list

      pub text-own : filter (is_list forest.nodes) (text_number n ∷ []) ≡ []
      text-own = ap (λ b. cond b (text_number n ∷ []) []) text-list

    -- a node of the forest that stands in the shape

    module _ (s : stands forest.nodes n ≡ true) where
      here : found n W ≡ Some x
      here = stands-found forest sound n x at s

      list-here : is_list forest.nodes n ≡ has_list_of forest.nodes n
      list-here = ap has_list_at here ∙ sym (has-list-of forest.nodes n x at)

      pub own-own : filter (has_list_of forest.nodes) (n ∷ []) ≡ filter (is_list forest.nodes) (n ∷ [])
      own-own = ap (λ b. cond b (n ∷ []) []) (sym list-here)

      pub own-around : as_list (parent_of n (visits forest.nodes)) ≡ list_around (shaped forest.nodes) n
      own-around = ap as_list parent-is ∙ sym (ap parent_in here)

      text-erased : (c : Content) → is_text (without_text c) ≡ is_text c
      text-erased content.Root = refl
      text-erased (content.Element name) = refl
      text-erased (content.Attribute name value) = refl
      text-erased (content.Text value) = refl

      reader-is : reader_at forest.nodes n ≡ cond (is_text x.content) (unwrap_or (first_of x.above) x.number) x.number
      reader-is =
          let c = content-of forest.nodes n x at in
          ap (λ b. cond b (unwrap_or (parent_of n (visits forest.nodes)) n) n) (ap is_text_in c.1 ∙ sym (text-erased c.0) ∙ ap is_text (sym c.2))
          ∙ ap (λ p. cond (is_text x.content) (unwrap_or p n) n) parent-is
          ∙ ap (λ k. cond (is_text x.content) (unwrap_or (first_of x.above) k) k) (sym named)

      pub own-read : reader_at forest.nodes n ∷ [] ≡ read_for (shaped forest.nodes) n
      own-read = ap (λ k. k ∷ []) reader-is ∙ sym (ap reader_of here)

      pub own-text : if_so (is_text_in (content_at n forest.nodes)) n ≡ if_text (found n (shaped forest.nodes))
      own-text =
          let c = content-of forest.nodes n x at in
          ap (λ b. if_so b n) (ap is_text_in c.1 ∙ sym (text-erased c.0) ∙ ap is_text (sym c.2))
          ∙ ap (λ k. if_so (is_text x.content) k) (sym named)
          ∙ sym (ap if_text here)

      pub reader-shown : is_shown forest.nodes (reader_at forest.nodes n) ≡ true
      reader-shown = by (is_text_in (content_at n forest.nodes))
        where
          itself : is_shown forest.nodes n ≡ true
          itself = both-hold (has_number n forest.nodes) (stands forest.nodes n) live s

          of : (m : Option ℕ) → parent_of n (visits forest.nodes) ≡ m → is_shown forest.nodes (unwrap_or m n) ≡ true
          of None i = itself
          of (Some p) i = parent-shown forest sound n live p i

          by : (b : Bool) → is_shown forest.nodes (cond b (unwrap_or (parent_of n (visits forest.nodes)) n) n) ≡ true
          by true = of (parent_of n (visits forest.nodes)) refl
          by false = itself

      -- all lists from it down

      abbrev Listed : Visit → Bool
      Listed y = has n y.above && has_list y.content

      abbrev number : List Visit → List ℕ
      number = map (λ (y : Visit). y.number)

      whole-listed : filter (is_list forest.nodes) (number (filter (λ y. has n y.above) W)) ≡ number (filter Listed W)
      whole-listed =
          filter-through (λ (y : Visit). y.number) (is_list forest.nodes) (λ y. is_list forest.nodes y.number) (λ y. refl) (filter (λ y. has n y.above) W)
          ∙ ap number (sym (filter-and (λ y. is_list forest.nodes y.number) (λ y. has n y.above) W)
          ∙ each-same (λ y. has n y.above && is_list forest.nodes y.number) Listed W
          (each-map (λ y. found y.number W ≡ Some y) _ W (λ y e. ap (λ b. has n y.above && b) (list-is y e)) (self-found W (whole-visits forest sound).apart)))

      listed-solid : (y : Visit) → Listed y ≡ true → not (is_text y.content) ≡ true
      listed-solid y h = list-solid y.content (and-true (has n y.above) _ h).1

      same-listed : filter Listed W ≡ filter Listed R
      same-listed =
          sym (filter-within Listed (λ y. not (is_text y.content)) listed-solid W)
          ∙ ap (filter Listed) (same-bare forest sound)
          ∙ filter-within Listed (λ y. not (is_text y.content)) listed-solid R

      all-met : (l : List Visit) → filter (λ (y : Visit). true) l ≡ l
      all-met [] = refl
      all-met (y ∷ ys) = ap (λ r. y ∷ r) (all-met ys)

      axis-real : axis_of Descendant n (visits forest.nodes) ≡ number (filter (is_on Descendant x) R)
      axis-real =
          ap number (sym (all-met (axis_from Descendant (visits forest.nodes) (found n (visits forest.nodes)))))
          ∙ sym (reached-erased Descendant test.Node (visits forest.nodes) n)
          ∙ ap number (all-met (axis_from Descendant R (found n R)))
          ∙ ap (λ m. number (axis_from Descendant R m)) at

      no-attribute : (c : Content) → has_list c ≡ true → not (is_attribute c) ≡ true
      no-attribute content.Root h = refl
      no-attribute (content.Element name) h = refl
      no-attribute (content.Attribute name value) h = no h
      no-attribute (content.Text value) h = refl

      both-same : (a b c : Bool) → (c ≡ true → b ≡ true) → ((a && b) && c) ≡ (a && c)
      both-same false b c h = refl
      both-same true b false h = and-none b
        where
          and-none : (b : Bool) → (b && false) ≡ false
          and-none true = refl
          and-none false = refl
      both-same true b true h = ap (λ k. k && true) (h refl)

      real-listed : filter (has_list_of forest.nodes) (number (filter (is_on Descendant x) R)) ≡ number (filter Listed R)
      real-listed =
          filter-through (λ (y : Visit). y.number) (has_list_of forest.nodes) (λ y. has_list_of forest.nodes y.number) (λ y. refl) (filter (is_on Descendant x) R)
          ∙ ap number (sym (filter-and (λ y. has_list_of forest.nodes y.number) (is_on Descendant x) R)
          ∙ each-same (λ y. is_on Descendant x y && has_list_of forest.nodes y.number) Listed R
          (each-map (λ y. found y.number R ≡ Some y) _ R
          (λ y e. ap (λ b. is_on Descendant x y && b) (has-list-of forest.nodes y.number y e)
          ∙ both-same (has x.number y.above) (not (is_attribute y.content)) (has_list y.content) (no-attribute y.content)
          ∙ ap (λ k. has k y.above && has_list y.content) named)
          (self-found R (real-visits forest sound).apart)))

      pub own-below : filter (has_list_of forest.nodes) (n ∷ axis_of Descendant n (visits forest.nodes)) ≡ filter (is_list forest.nodes) (lists_below (shaped forest.nodes) n)
      own-below =
          ap (λ l. cond (has_list_of forest.nodes n) (n ∷ l) l) (ap (filter (has_list_of forest.nodes)) axis-real ∙ real-listed ∙ ap number (sym same-listed) ∙ sym whole-listed)
          ∙ ap (λ b. cond b (n ∷ filter (is_list forest.nodes) (number (filter (λ y. has n y.above) W))) (filter (is_list forest.nodes) (number (filter (λ y. has n y.above) W)))) (sym list-here)
