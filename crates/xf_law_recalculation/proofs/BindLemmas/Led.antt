-- In the visits of a forest each attribute of an element comes after that element, with its attributes alone between them.
use Rattle.std.proofs.Common.{◌≡◌, ℕ, suc, ◌==◌, Bool, true, false, not, cond, ◌&&◌, ◌||◌, List, [], ◌∷◌, map, nat_lt, Option, Some, None, refl, sym, ap, ◌∙◌, arith}
use Rattle.std.proofs.lemmas.Bool.{eqb-true}
use Rattle.std.proofs.lemmas.Bool.Decides.{nat_tests}
use Rattle.xf_def_forest.specs.declared.content.Content.{Content}
use Rattle.xf_def_forest.specs.declared.content.Content.TheVariants as content
use Rattle.xf_def_forest.specs.declared.content.Node.{Node}
use Rattle.xf_def_forest.specs.Forest.{is_text, is_element, is_attribute}
use Rattle.xf_def_forest.specs.Visit.{Visit, still_above, numbers, visit, visits_from, visits, has_parent, is_first}
use Rattle.xf_def_forest.specs.WellFormed.{stands_first, are_first}
use Rattle.xf_def_forest.specs.Shape.{is_borne, erased, without_text}
use Rattle.xf_def_forest.proofs.BackLaws.{and-true}
use Rattle.xf_def_xpath.proofs.VisitFacts.{self-same, no}
use Rattle.xf_law_recalculation.proofs.BindLemmas.Filled.{AreLed}

still-again : (d : ℕ) (stack : List Node) → still_above d (still_above d stack) ≡ still_above d stack
still-again d [] = refl
still-again d (z ∷ zs) = by (nat_lt z.depth d) refl (still-again d zs)
  where
    by : (b : Bool) → nat_lt z.depth d ≡ b → still_above d (still_above d zs) ≡ still_above d zs → still_above d (cond b (z ∷ zs) (still_above d zs)) ≡ cond b (z ∷ zs) (still_above d zs)
    by true e h = ap (λ b. cond b (z ∷ zs) (still_above d zs)) e
    by false e h = h

no-depth : (d : ℕ) → nat_lt d 0 ≡ false
no-depth d = grind (arith, nat_tests)

not-less : (d : ℕ) → nat_lt d d ≡ false
not-less d = grind (arith, nat_tests)

next-less : (d e : ℕ) → (suc d == e) ≡ true → nat_lt d e ≡ true
next-less d e h = grind (arith, nat_tests, h)

none-above : (stack : List Node) → still_above 0 stack ≡ []
none-above [] = refl
none-above (y ∷ ys) = ap (λ b. cond b (y ∷ ys) (still_above 0 ys)) (no-depth y.depth) ∙ none-above ys

attribute-kept : (c : Content) → is_attribute (without_text c) ≡ is_attribute c
attribute-kept content.Root = refl
attribute-kept (content.Element name) = refl
attribute-kept (content.Attribute name text) = refl
attribute-kept (content.Text text) = refl

element-kept : (c : Content) → is_element (without_text c) ≡ is_element c
element-kept content.Root = refl
element-kept (content.Element name) = refl
element-kept (content.Attribute name text) = refl
element-kept (content.Text text) = refl

element-only : (c : Content) → is_element c ≡ true → (is_attribute c ≡ false) × (is_text c ≡ false)
element-only content.Root h = no h
element-only (content.Element name) h = (refl, refl)
element-only (content.Attribute name text) h = no h
element-only (content.Text text) h = no h

and-left : (a b : Bool) → a ≡ true → b ≡ true → (a && b) ≡ true
and-left true b h i = i
and-left false b h i = h

abbrev seen : List Node → Node → Visit
seen stack x = erased (visit stack x)

-- what a visit says of the last node before the next one
abbrev Leads : Visit → Option ℕ → Type 0
Leads v last = (is_element v.content ≡ true → last ≡ Some v.number) × (is_borne v ≡ true → (n : ℕ) × (last ≡ Some n) × (is_first n v.above ≡ true))

module _ (z x : Node) (stack : List Node) (last : Option ℕ) (stands : stands_first z x ≡ true) (leads : Leads (seen stack z) last) where
  abbrev rest : List Node
  rest = still_above z.depth stack

  abbrev above : List ℕ
  above = numbers (still_above x.depth (z ∷ rest))

  abbrev Led : Type 0
  Led = (n : ℕ) × (last ≡ Some n) × (is_first n above ≡ true)

  next : is_borne (seen (z ∷ rest) x) ≡ true → Led
  next h = by (is_attribute x.content) (x.depth == 0) (is_element z.content && (suc z.depth == x.depth)) (is_attribute z.content && (z.depth == x.depth)) refl refl refl refl stands
    where
      parts : (is_attribute (without_text x.content) ≡ true) × (has_parent above ≡ true)
      parts = and-true (is_attribute (without_text x.content)) (has_parent above) h

      by : (a b c d : Bool) → is_attribute x.content ≡ a → (x.depth == 0) ≡ b → (is_element z.content && (suc z.depth == x.depth)) ≡ c → (is_attribute z.content && (z.depth == x.depth)) ≡ d → (not a || b || c || d) ≡ true → Led
      by false b c d i j k l m = no (sym i ∙ sym (attribute-kept x.content) ∙ parts.0)
      by true true c d i j k l m = no (sym (ap (λ e. has_parent (numbers (still_above e (z ∷ rest)))) (eqb-true x.depth 0 j) ∙ ap (λ s. has_parent (numbers s)) (none-above (z ∷ rest))) ∙ parts.1)
      by true false true d i j k l m =
          let both = and-true (is_element z.content) (suc z.depth == x.depth) k in (
            z.number,
            leads.0 (element-kept z.content ∙ both.0),
            ap (λ b. is_first z.number (numbers (cond b (z ∷ rest) (still_above x.depth rest)))) (next-less z.depth x.depth both.1) ∙ self-same z.number,
          )
      by true false false true i j k l m =
          let both = and-true (is_attribute z.content) (z.depth == x.depth) l in
          let same : numbers rest ≡ above =
          ap numbers (sym (ap (λ b. cond b (z ∷ rest) (still_above z.depth rest)) (not-less z.depth) ∙ still-again z.depth stack)) ∙ ap (λ e. numbers (still_above e (z ∷ rest))) (eqb-true z.depth x.depth both.1) in
          let p = leads.1 (and-left (is_attribute (without_text z.content)) (has_parent (numbers rest)) (attribute-kept z.content ∙ both.0) (ap has_parent same ∙ parts.1)) in
          (p.0, p.1, sym (ap (is_first p.0) same) ∙ p.2)
      by true false false false i j k l m = no m

leads-next : (v : Visit) (last : Option ℕ) → (is_borne v ≡ true → (n : ℕ) × (last ≡ Some n) × (is_first n v.above ≡ true)) → Leads v (cond (is_borne v) last (cond (is_text v.content) None (Some v.number)))
leads-next v last h = (
  λ e.
      let only = element-only v.content e in
      ap (λ a. cond (a && has_parent v.above) last (cond (is_text v.content) None (Some v.number))) only.0 ∙ ap (λ t. cond t None (Some v.number)) only.1,
  λ b. let n = h b in (n.0, ap (λ c. cond c last (cond (is_text v.content) None (Some v.number))) b ∙ n.1, n.2),
)

led-from : (z : Node) (stack xs : List Node) (last : Option ℕ) → are_first (z ∷ xs) ≡ true → Leads (seen stack z) last → AreLed last (map erased (visits_from (z ∷ still_above z.depth stack) xs))
led-from z stack [] last h l = tt
led-from z stack (x ∷ xs) last h l =
    let parts = and-true (stands_first z x) (are_first (x ∷ xs)) h in
    let v : Visit = seen (z ∷ still_above z.depth stack) x in (
      next z x stack last parts.0 l,
      led-from x (z ∷ still_above z.depth stack) xs (cond (is_borne v) last (cond (is_text v.content) None (Some v.number))) parts.1 (leads-next v last (next z x stack last parts.0 l)),
    )

not-top : (x : Node) → is_borne (seen [] x) ≡ true → (n : ℕ) × (None ≡ Some n) × (is_first n (seen [] x).above ≡ true)
not-top x b = no (sym (by (is_attribute (without_text x.content))) ∙ b)
  where
    by : (a : Bool) → (a && false) ≡ false
    by true = refl
    by false = refl

pub forest-led : (nodes : List Node) → are_first nodes ≡ true → AreLed None (map erased (visits nodes))
forest-led [] h = tt
forest-led (x ∷ xs) h = (
  not-top x,
  led-from x [] xs (cond (is_borne (seen [] x)) None (cond (is_text (seen [] x).content) None (Some x.number))) h (leads-next (seen [] x) None (not-top x)),
)
