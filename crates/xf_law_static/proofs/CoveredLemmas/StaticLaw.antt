-- Static expressions, as they are read, are covered by the law of two forests.
use Rattle.std.proofs.Common.{◌≡◌, ℕ, ◌==◌, Bool, true, false, not, ◌&&◌, ◌||◌, List, [], ◌∷◌, map, length, Option, Some, None, refl, sym, ap, ◌∙◌}
use Rattle.std.specs.Prelude.{if◌then◌else◌}
use Rattle.std.specs.List.{list_any, list_all}
use Rattle.xf_def_syntax.specs.declared.expr.Expr.{Expr}
use Rattle.xf_def_syntax.specs.declared.expr.Expr.TheOpen.{Expr-F, Step-F}
use Rattle.xf_def_syntax.specs.declared.expr.Expr.TheFolds.{map-Expr, map-Step}
use Rattle.xf_def_syntax.specs.declared.expr.Operator.{Operator}
use Rattle.xf_def_syntax.specs.declared.expr.Operator.TheVariants.{Or, And, Equal, NotEqual, Less, LessOrEqual, Greater, GreaterOrEqual, Add, Subtract, Multiply, Divide, Modulo, Union}
use Rattle.xf_table.specs.Contents.{function_entries}
use Rattle.xf_table.specs.Places.{name_at}
use Rattle.xf_path.specs.StaticParts.{Static, LinkStatic, or_else, place_if, first_of, first_fault, first_in_predicates, first_in_links, first_in_steps, is_literal_call, node_branch, first_of_nodes, call_fault, call_gives_nodes, is_plain_call}
use Rattle.xf_path.specs.Static.{is_union as is_union_link, any_union, link_in_predicate, expr_static, link_static, step_static, static_of}
use Rattle.xf_def_xpath.specs.Table.{Function, function_at}
use Rattle.xf_def_xpath.specs.Table as of
use Rattle.xf_def_xpath.specs.Exact.{Facts, LinkFacts, is_union, all_placed, all_exact, are_filled, branches, call_facts, links_placed, links_plain, links_exact, expr_facts, link_facts}
use Rattle.xf_law_recalculation.specs.Agree.Covered.{is_told, step_facts, facts_of}
use Rattle.xf_law_static.specs.Covered.AsRead.{all_of, has_links, few_arguments, expr_as_read, link_as_read, step_as_read, is_as_read, StaticCovered}
use Rattle.xf_law_static.proofs.CoveredLemmas.TripleKeeps.{triple_keeps}
use Rattle.xf_law_static.proofs.CoveredLemmas.Words.{Word, word_of, fits, word-fits}

no : {A : Type 0} → false ≡ true → A
no h = cc h

and-true : (a b : Bool) → (a && b) ≡ true → (a ≡ true) × (b ≡ true)
and-true true b h = (refl, h)
and-true false b h = no h

both : (a b : Bool) → a ≡ true → b ≡ true → (a && b) ≡ true
both true b h k = k
both false b h k = h

not-of : (b : Bool) → not b ≡ true → b ≡ false
not-of true h = sym h
not-of false h = refl

none-some : {A B : Type 0} {x : A} → Some x ≡ None → B
none-some h = cc h

or-none : (a b : Option ℕ) → or_else a b ≡ None → (a ≡ None) × (b ≡ None)
or-none None b h = (refl, h)
or-none (Some p) b h = none-some h

place-none : (b : Bool) (p : ℕ) → place_if b p ≡ None → b ≡ false
place-none true p h = none-some h
place-none false p h = refl

-- ---- what is known of an expression by both

pub record Known (s : Static) (f : Facts) : Type 0 where
  pub exact : s.fault ≡ None → f.is_exact ≡ true
  pub placed : s.in_predicate ≡ None → f.is_placed ≡ true
  pub plain : s.gives_nodes ≡ false → f.is_plain ≡ true
  pub literal : s.is_literal ≡ true → f.is_placed ≡ true

abbrev IsKnown : Static → Bool → Facts → Type 0
IsKnown s r f = r ≡ true → Known s f

abbrev IsKnownLink : LinkStatic → Bool → LinkFacts → Type 0
IsKnownLink s r f = (s.operator ≡ f.operator) × (r ≡ true → Known s.right f.right)

abbrev IsKnownStep : Option ℕ → Bool → Bool → Type 0
IsKnownStep s r b = r ≡ true → s ≡ None → b ≡ true

abbrev Part : Type 0
Part = (s : Static) × (r : Bool) × (f : Facts) × IsKnown s r f

abbrev LinkPart : Type 0
LinkPart = (s : LinkStatic) × (r : Bool) × (f : LinkFacts) × IsKnownLink s r f

abbrev StepPart : Type 0
StepPart = (s : Option ℕ) × (r : Bool) × (b : Bool) × IsKnownStep s r b

abbrev statics : List Part → List Static
statics ks = map (λ (k : Part). k.0) ks

abbrev reads : List Part → List Bool
reads ks = map (λ (k : Part). k.1) ks

abbrev all_facts : List Part → List Facts
all_facts ks = map (λ (k : Part). k.2) ks

exact-all : (ks : List Part) → all_of (reads ks) ≡ true → first_fault (statics ks) ≡ None → all_exact (all_facts ks) ≡ true
exact-all [] h i = refl
exact-all (k ∷ ks) h i =
    let r = and-true k.1 (all_of (reads ks)) h in let n = or-none k.0.fault (first_fault (statics ks)) i in
    both k.2.is_exact (all_exact (all_facts ks)) ((k.3 r.0).exact n.0) (exact-all ks r.1 n.1)

placed-all : (ks : List Part) → all_of (reads ks) ≡ true → first_in_predicates (statics ks) ≡ None → all_placed (all_facts ks) ≡ true
placed-all [] h i = refl
placed-all (k ∷ ks) h i =
    let r = and-true k.1 (all_of (reads ks)) h in let n = or-none k.0.in_predicate (first_in_predicates (statics ks)) i in
    both k.2.is_placed (all_placed (all_facts ks)) ((k.3 r.0).placed n.0) (placed-all ks r.1 n.1)

plain-all : (ks : List Part) → all_of (reads ks) ≡ true → first_of_nodes (statics ks) ≡ None → list_all (λ (x : Facts). x.is_plain) (all_facts ks) ≡ true
plain-all [] h i = refl
plain-all (k ∷ ks) h i =
    let r = and-true k.1 (all_of (reads ks)) h in let n = or-none (place_if k.0.gives_nodes k.0.place) (first_of_nodes (statics ks)) i in
    both k.2.is_plain (list_all (λ (x : Facts). x.is_plain) (all_facts ks)) ((k.3 r.0).plain (place-none k.0.gives_nodes k.0.place n.0)) (plain-all ks r.1 n.1)

-- ---- calls

module _ (place code : ℕ) (ks : List Part) (read : (few_arguments (function_at code) (reads ks) && all_of (reads ks)) ≡ true) where
  abbrev word : Word
  word = word_of (name_at function_entries code)

  abbrev few : Function → Type 0
  few g = few_arguments g (reads ks) ≡ true

  all_read : all_of (reads ks) ≡ true
  all_read = (and-true (few_arguments (function_at code) (reads ks)) (all_of (reads ks)) read).1

  few_here : few_arguments (function_at code) (reads ks) ≡ true
  few_here = (and-true (few_arguments (function_at code) (reads ks)) (all_of (reads ks)) read).0

  moving-fault : call_fault place code (statics ks) ≡ None → word.moving ≡ true → false ≡ true
  moving-fault h m = none-some (sym (ap (λ b. if b then Some place else if word.instance then place_if (not (is_literal_call (statics ks))) place else if word.choose then node_branch (statics ks) else None) m) ∙ h)

  instance-literal : call_fault place code (statics ks) ≡ None → word.moving ≡ false → word.instance ≡ true → is_literal_call (statics ks) ≡ true
  instance-literal h m i = by (is_literal_call (statics ks)) (place-none (not (is_literal_call (statics ks))) place
      (sym (ap (λ b. if b then Some place else if word.instance then place_if (not (is_literal_call (statics ks))) place else if word.choose then node_branch (statics ks) else None) m
      ∙ ap (λ b. if b then place_if (not (is_literal_call (statics ks))) place else if word.choose then node_branch (statics ks) else None) i) ∙ h))
    where
      by : (b : Bool) → not b ≡ false → b ≡ true
      by true j = refl
      by false j = sym j

  branch-none : call_fault place code (statics ks) ≡ None → word.moving ≡ false → word.instance ≡ false → word.choose ≡ true → node_branch (statics ks) ≡ None
  branch-none h m i c =
      sym (ap (λ b. if b then Some place else if word.instance then place_if (not (is_literal_call (statics ks))) place else if word.choose then node_branch (statics ks) else None) m
      ∙ ap (λ b. if b then place_if (not (is_literal_call (statics ks))) place else if word.choose then node_branch (statics ks) else None) i
      ∙ ap (λ b. if b then node_branch (statics ks) else None) c) ∙ h

  literal-placed : (xs : List Part) → few_arguments of.instance (reads xs) ≡ true → all_of (reads xs) ≡ true → is_literal_call (statics xs) ≡ true → all_placed (all_facts xs) ≡ true
  literal-placed [] f h i = refl
  literal-placed (x ∷ []) f h i = both x.2.is_placed true ((x.3 (and-true x.1 true h).0).literal i) refl
  literal-placed (x ∷ y ∷ xs) f h i = no f

  branches-plain : (xs : List Part) → all_of (reads xs) ≡ true → node_branch (statics xs) ≡ None → list_all (λ (x : Facts). x.is_plain) (branches (all_facts xs)) ≡ true
  branches-plain [] h i = refl
  branches-plain (x ∷ xs) h i = plain-all xs (and-true x.1 (all_of (reads xs)) h).1 i

  call-exact : (g : Function) → fits g word ≡ true → few g → call_fault place code (statics ks) ≡ None → first_fault (statics ks) ≡ None → (call_facts g (all_facts ks)).is_exact ≡ true
  call-exact of.event w f c a = no (moving-fault c (and-true word.moving word.giving (and-true (word.moving && word.giving) word.more w).0).0)
  call-exact of.index w f c a = no (moving-fault c (and-true word.moving word.more w).0)
  call-exact of.instance w f c a =
      let one = and-true (not word.moving && word.instance && word.giving) word.more w in
      let two = and-true (not word.moving && word.instance) word.giving one.0 in
      let three = and-true (not word.moving) word.instance two.0 in
      literal-placed ks f all_read (instance-literal c (not-of word.moving three.0) three.1)
  call-exact of.choosing w f c a =
      let one = and-true (not word.moving && not word.instance && word.choose) (not word.giving) w in
      let two = and-true (not word.moving && not word.instance) word.choose one.0 in
      let three = and-true (not word.moving) (not word.instance) two.0 in
      both (all_exact (all_facts ks)) (list_all (λ (x : Facts). x.is_plain) (branches (all_facts ks))) (exact-all ks all_read a)
      (branches-plain ks all_read (branch-none c (not-of word.moving three.0) (not-of word.instance three.1) two.1))
  call-exact of.asking w f c a = exact-all ks all_read a
  call-exact of.plainly w f c a = exact-all ks all_read a
  call-exact of.owning w f c a = exact-all ks all_read a
  call-exact of.boolean w f c a = exact-all ks all_read a
  call-exact of.not w f c a = exact-all ks all_read a
  call-exact (of.truth b) w f c a = refl
  call-exact of.branching w f c a = exact-all ks all_read a
  call-exact of.counting w f c a = exact-all ks all_read a
  call-exact of.counting_filled w f c a = exact-all ks all_read a
  call-exact of.adding w f c a = exact-all ks all_read a
  call-exact of.averaging w f c a = exact-all ks all_read a
  call-exact of.greatest w f c a = exact-all ks all_read a
  call-exact of.least w f c a = exact-all ks all_read a
  call-exact of.local_name w f c a = exact-all ks all_read a
  call-exact of.name w f c a = exact-all ks all_read a
  call-exact of.namespace w f c a = exact-all ks all_read a
  call-exact of.number w f c a = exact-all ks all_read a
  call-exact of.string w f c a = exact-all ks all_read a
  call-exact of.current w f c a = refl
  call-exact of.last w f c a = refl
  call-exact of.position w f c a = refl

  -- in a predicate
  plain-call : is_plain_call code (length (statics ks)) ≡ true → (word.more ≡ false) × ((word.context && (length (statics ks) == 0)) ≡ false)
  plain-call h = let p = and-true (not word.more) (not (word.context && (length (statics ks) == 0))) h in (not-of word.more p.0, not-of (word.context && (length (statics ks) == 0)) p.1)

  filled : (xs : List Part) → (true && (length (statics xs) == 0)) ≡ false → are_filled (all_facts xs) ≡ true
  filled [] h = sym h
  filled (x ∷ xs) h = refl

  owned : is_plain_call code (length (statics ks)) ≡ true → word.context ≡ true → first_in_predicates (statics ks) ≡ None → (are_filled (all_facts ks) && all_placed (all_facts ks)) ≡ true
  owned h c a = both (are_filled (all_facts ks)) (all_placed (all_facts ks)) (filled ks (sym (ap (λ b. b && (length (statics ks) == 0)) c) ∙ (plain-call h).1)) (placed-all ks all_read a)

  asked-more : {A : Type 0} → is_plain_call code (length (statics ks)) ≡ true → word.more ≡ true → A
  asked-more h m = no (sym (plain-call h).0 ∙ m)

  call-placed : (g : Function) → fits g word ≡ true → is_plain_call code (length (statics ks)) ≡ true → first_in_predicates (statics ks) ≡ None → (call_facts g (all_facts ks)).is_placed ≡ true
  call-placed of.asking w p a = placed-all ks all_read a
  call-placed of.plainly w p a = placed-all ks all_read a
  call-placed of.boolean w p a = placed-all ks all_read a
  call-placed of.not w p a = placed-all ks all_read a
  call-placed (of.truth b) w p a = refl
  call-placed of.choosing w p a = placed-all ks all_read a
  call-placed of.branching w p a = placed-all ks all_read a
  call-placed of.owning w p a = owned p w a
  call-placed of.number w p a = owned p w a
  call-placed of.string w p a = owned p w a
  call-placed of.last w p a = refl
  call-placed of.position w p a = refl
  call-placed of.counting w p a = asked-more p w
  call-placed of.counting_filled w p a = asked-more p w
  call-placed of.adding w p a = asked-more p w
  call-placed of.averaging w p a = asked-more p w
  call-placed of.greatest w p a = asked-more p w
  call-placed of.least w p a = asked-more p w
  call-placed of.local_name w p a = asked-more p w
  call-placed of.name w p a = asked-more p w
  call-placed of.namespace w p a = asked-more p w
  call-placed of.current w p a = asked-more p (and-true word.giving word.more w).1
  call-placed of.instance w p a = asked-more p (and-true (not word.moving && word.instance && word.giving) word.more w).1
  call-placed of.event w p a = asked-more p (and-true (word.moving && word.giving) word.more w).1
  call-placed of.index w p a = asked-more p (and-true word.moving word.more w).1

  -- whether it gives nodes
  giving : {A : Type 0} → call_gives_nodes code (statics ks) ≡ false → word.giving ≡ true → A
  giving h g = no (sym (sym (ap (λ b. if b then true else if word.choose then list_any (λ (e : Static). e.gives_nodes) (statics ks) else false) g) ∙ h))

  call-plain : (g : Function) → fits g word ≡ true → call_gives_nodes code (statics ks) ≡ false → (call_facts g (all_facts ks)).is_plain ≡ true
  call-plain of.current w h = giving h (and-true word.giving word.more w).0
  call-plain of.instance w h = giving h (and-true (not word.moving && word.instance) word.giving (and-true (not word.moving && word.instance && word.giving) word.more w).0).1
  call-plain of.event w h = giving h (and-true word.moving word.giving (and-true (word.moving && word.giving) word.more w).0).1
  call-plain of.index w h = refl
  call-plain of.asking w h = refl
  call-plain of.plainly w h = refl
  call-plain of.owning w h = refl
  call-plain of.boolean w h = refl
  call-plain of.not w h = refl
  call-plain (of.truth b) w h = refl
  call-plain of.choosing w h = refl
  call-plain of.branching w h = refl
  call-plain of.counting w h = refl
  call-plain of.counting_filled w h = refl
  call-plain of.adding w h = refl
  call-plain of.averaging w h = refl
  call-plain of.greatest w h = refl
  call-plain of.least w h = refl
  call-plain of.local_name w h = refl
  call-plain of.name w h = refl
  call-plain of.namespace w h = refl
  call-plain of.number w h = refl
  call-plain of.string w h = refl
  call-plain of.last w h = refl
  call-plain of.position w h = refl

-- ---- chains

abbrev links_static : List LinkPart → List LinkStatic
links_static ls = map (λ (l : LinkPart). l.0) ls

abbrev links_read : List LinkPart → List Bool
links_read ls = map (λ (l : LinkPart). l.1) ls

abbrev links_facts : List LinkPart → List LinkFacts
links_facts ls = map (λ (l : LinkPart). l.2) ls

union-same : (o : Operator) → is_union_link o ≡ is_union o
union-same Or = refl
union-same And = refl
union-same Equal = refl
union-same NotEqual = refl
union-same Less = refl
union-same LessOrEqual = refl
union-same Greater = refl
union-same GreaterOrEqual = refl
union-same Add = refl
union-same Subtract = refl
union-same Multiply = refl
union-same Divide = refl
union-same Modulo = refl
union-same Union = refl

no-union : (l : LinkPart) → is_union_link l.0.operator ≡ false → not (is_union l.2.operator) ≡ true
no-union l h = ap not (ap is_union (sym l.3.0) ∙ sym (union-same l.0.operator) ∙ h)

links-exact : (ls : List LinkPart) → all_of (links_read ls) ≡ true → first_in_links (links_static ls) ≡ None → links_exact (links_facts ls) ≡ true
links-exact [] h i = refl
links-exact (l ∷ ls) h i =
    let r = and-true l.1 (all_of (links_read ls)) h in let n = or-none l.0.right.fault (first_in_links (links_static ls)) i in
    both l.2.right.is_exact (links_exact (links_facts ls)) ((l.3.1 r.0).exact n.0) (links-exact ls r.1 n.1)

links-placed : (ls : List LinkPart) → all_of (links_read ls) ≡ true → first_of link_in_predicate (links_static ls) ≡ None → links_placed (links_facts ls) ≡ true
links-placed [] h i = refl
links-placed (l ∷ ls) h i =
    let r = and-true l.1 (all_of (links_read ls)) h in
    let n = or-none (link_in_predicate l.0) (first_of link_in_predicate (links_static ls)) i in
    let one = or-none (place_if (is_union_link l.0.operator) l.0.place) l.0.right.in_predicate n.0 in
    both (l.2.right.is_placed && not (is_union l.2.operator)) (links_placed (links_facts ls))
    (both l.2.right.is_placed (not (is_union l.2.operator)) ((l.3.1 r.0).placed one.1) (no-union l (place-none (is_union_link l.0.operator) l.0.place one.0))) (links-placed ls r.1 n.1)

or-false : (a b : Bool) → (a || b) ≡ false → (a ≡ false) × (b ≡ false)
or-false true b h = no (sym h)
or-false false b h = (refl, h)

links-plain : (ls : List LinkPart) (b : Bool) → b ≡ true → any_union (links_static ls) ≡ false → links_plain b (links_facts ls) ≡ true
links-plain [] b h i = h
links-plain (l ∷ ls) b h i =
    let n = or-false (is_union_link l.0.operator) (any_union (links_static ls)) i in links-plain ls (not (is_union l.2.operator)) (no-union l n.0) n.1

filled-plain : (ls : List LinkPart) (b : Bool) → has_links (links_read ls) ≡ true → any_union (links_static ls) ≡ false → links_plain b (links_facts ls) ≡ true
filled-plain [] b h i = no h
filled-plain (l ∷ ls) b h i =
    let n = or-false (is_union_link l.0.operator) (any_union (links_static ls)) i in links-plain ls (not (is_union l.2.operator)) (no-union l n.0) n.1

steps-exact : (ks : List StepPart) → all_of (map (λ (k : StepPart). k.1) ks) ≡ true → first_in_steps (map (λ (k : StepPart). k.0) ks) ≡ None → list_all (λ b. b) (map (λ (k : StepPart). k.2) ks) ≡ true
steps-exact [] h i = refl
steps-exact (k ∷ ks) h i =
    let r = and-true k.1 (all_of (map (λ (k : StepPart). k.1) ks)) h in let n = or-none k.0 (first_in_steps (map (λ (k : StepPart). k.0) ks)) i in
    both k.2 (list_all (λ b. b) (map (λ (k : StepPart). k.2) ks)) (k.3 r.0 n.0) (steps-exact ks r.1 n.1)

-- ---- every level

plain-by : (b : Bool) → not b ≡ false → b ≡ true
plain-by true h = refl
plain-by false h = sym h

some-none : {A : Type 0} {p : ℕ} → Some p ≡ None → A
some-none h = none-some h

level : (y : Expr-F Part LinkPart StepPart) →
    IsKnown (expr_static (map-Expr Part LinkPart StepPart Static LinkStatic (Option ℕ) (λ e. e.0) (λ e. e.0) (λ e. e.0) y)) (expr_as_read (map-Expr Part LinkPart StepPart Bool Bool Bool (λ e. e.1) (λ e. e.1) (λ e. e.1) y))
    (expr_facts (map-Expr Part LinkPart StepPart Facts LinkFacts Bool (λ e. e.2) (λ e. e.2) (λ e. e.2) y))
level (Expr-F.Number place k) r = record { exact = λ h. refl; placed = λ h. refl; plain = λ h. refl; literal = λ h. refl }
level (Expr-F.Literal place text) r = record { exact = λ h. refl; placed = λ h. refl; plain = λ h. refl; literal = λ h. refl }
level (Expr-F.Call place code ks) r = record {
  exact = λ h. let n = or-none (call_fault place code (statics ks)) (first_fault (statics ks)) h in call-exact place code ks r (function_at code) (word-fits code) (few_here place code ks r) n.0 n.1;
  placed = λ h. let n = or-none (place_if (not (is_plain_call code (length (statics ks)))) place) (first_in_predicates (statics ks)) h in
      call-placed place code ks r (function_at code) (word-fits code) (plain-by (is_plain_call code (length (statics ks))) (place-none (not (is_plain_call code (length (statics ks)))) place n.0)) n.1;
  plain = λ h. call-plain place code ks r (function_at code) (word-fits code) h;
  literal = λ h. no h;
}
level (Expr-F.Negated place signs k) r = record { exact = (k.3 r).exact; placed = (k.3 r).placed; plain = λ h. refl; literal = λ h. no h }
level (Expr-F.Chain k ls) r =
    let outer = and-true (has_links (links_read ls) && k.1) (all_of (links_read ls)) r in
    let inner = and-true (has_links (links_read ls)) k.1 outer.0 in
    record {
      exact = λ h. let n = or-none k.0.fault (first_in_links (links_static ls)) h in both k.2.is_exact (links_exact (links_facts ls)) ((k.3 inner.1).exact n.0) (links-exact ls outer.1 n.1);
      placed = λ h. let n = or-none k.0.in_predicate (first_of link_in_predicate (links_static ls)) h in both k.2.is_placed (links_placed (links_facts ls)) ((k.3 inner.1).placed n.0) (links-placed ls outer.1 n.1);
      plain = λ h. filled-plain ls k.2.is_plain inner.0 h;
      literal = λ h. no h;
    }
level (Expr-F.Filter k ks) r =
    let both_read = and-true k.1 (all_of (reads ks)) r in
    record {
      exact = λ h. let n = or-none k.0.fault (first_in_predicates (statics ks)) h in both k.2.is_exact (all_placed (all_facts ks)) ((k.3 both_read.0).exact n.0) (placed-all ks both_read.1 n.1);
      placed = λ h. some-none h;
      plain = λ h. no (sym h);
      literal = λ h. no h;
    }
level (Expr-F.Path place start ks) r = record { exact = λ h. steps-exact ks r h; placed = λ h. some-none h; plain = λ h. no (sym h); literal = λ h. no h }
level (Expr-F.From k ks) r =
    let both_read = and-true k.1 (all_of (map (λ (s : StepPart). s.1) ks)) r in
    record {
      exact = λ h. let n = or-none k.0.fault (first_in_steps (map (λ (s : StepPart). s.0) ks)) h in both k.2.is_exact (list_all (λ b. b) (map (λ (s : StepPart). s.2) ks)) ((k.3 both_read.0).exact n.0) (steps-exact ks both_read.1 n.1);
      placed = λ h. some-none h;
      plain = λ h. no (sym h);
      literal = λ h. no h;
    }

step-level : (y : Step-F Part LinkPart StepPart) →
    IsKnownStep (step_static (map-Step Part LinkPart StepPart Static LinkStatic (Option ℕ) (λ e. e.0) (λ e. e.0) (λ e. e.0) y)) (step_as_read (map-Step Part LinkPart StepPart Bool Bool Bool (λ e. e.1) (λ e. e.1) (λ e. e.1) y))
    (step_facts (map-Step Part LinkPart StepPart Facts LinkFacts Bool (λ e. e.2) (λ e. e.2) (λ e. e.2) y))
step-level y r h =
    let p = and-true (is_told y.is_written y.axis y.test) (all_of (reads y.predicates)) r in
    both (is_told y.is_written y.axis y.test) (all_placed (all_facts y.predicates)) p.0 (placed-all y.predicates p.1 h)

pub known : (x : Expr) → IsKnown (static_of x) (is_as_read x) (facts_of x)
known = triple_keeps Static LinkStatic (Option ℕ) expr_static link_static step_static Bool Bool Bool expr_as_read link_as_read step_as_read Facts LinkFacts Bool expr_facts link_facts step_facts IsKnown IsKnownLink IsKnownStep
    level (λ y. (refl, λ r. y.right.3 r)) step-level

pub static_covered : StaticCovered
static_covered x read static = (known x read).exact static
