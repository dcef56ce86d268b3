-- The value of an expression goes with a renumbering of the nodes.
use Rattle.std.proofs.Common.{◌≡◌, ℕ, zero, suc, ◌==◌, Bool, true, false, List, [], ◌∷◌, map, length, find, Option, Some, None, option_map, unwrap_or, refl, sym, ap, ◌∙◌}
use Rattle.std.specs.Prelude.{option_and_then, bytes_eq, ◌&&◌}
use Rattle.std.specs.Prelude as std
use Rattle.std.proofs.lemmas.List.{length-map}
use Rattle.xf_def_syntax.specs.declared.expr.Expr.{Expr}
use Rattle.xf_def_syntax.specs.declared.expr.Expr.TheOpen.{Expr-F, Step-F}
use Rattle.xf_def_syntax.specs.declared.expr.Expr.TheFolds.{map-Expr}
use Rattle.xf_def_syntax.specs.declared.expr.Operator.{Operator}
use Rattle.xf_def_syntax.specs.declared.expr.Operator.TheVariants.{Or, And, Equal, NotEqual, Less, LessOrEqual, Greater, GreaterOrEqual, Add, Subtract, Multiply, Divide, Modulo, Union}
use Rattle.xf_def_syntax.specs.declared.expr.Start.{Start}
use Rattle.xf_def_syntax.specs.declared.expr.Start.TheVariants.{Root, Context}
use Rattle.xf_def_syntax.specs.declared.expr.Test.TheVariants.{Node}
use Rattle.xf_name.specs.declared.axis.Axis.TheVariants.{DescendantOrSelf}
use Rattle.xf_def_forest.specs.declared.content.Name as node_name
use Rattle.xf_def_forest.specs.Forest.{name_in, written_in}
use Rattle.xf_def_forest.specs.Visit.{Visit}
use Rattle.xf_def_forest.specs.Same.{IsRenumbering, renumbered_visit}
use Rattle.xf_def_forest.proofs.RenumberLaws.{find-through, top_of-renumbered}
use Rattle.xf_def_xpath.specs.declared.value.Value.{Value}
use Rattle.xf_def_xpath.specs.declared.value.Value.TheVariants.{Nodes, Text, Number, Truth}
use Rattle.xf_def_xpath.specs.Given.{Document, document_of, beside, property_of}
use Rattle.xf_def_values.specs.declared.plain.Plain.{Plain}
use Rattle.xf_def_values.specs.Conversions.{Decimal, whole}
use Rattle.xf_def_xpath.specs.Setting.{Setting, Focus, Meaning, LinkMeaning, Walk, ◌>>=◌, each, capped, in_order, joined}
use Rattle.xf_def_xpath.specs.Conversions.{nodes_of, truth_of, number_of, string_of, plain_of, value_of_plain, strings_of}
use Rattle.xf_def_xpath.specs.Steps.{reached, is_true_at, with_first, kept_from, kept_by_all, from_one, begun_at, step_walk, walked, begun}
use Rattle.xf_def_xpath.specs.Operators.{or_else, and_then, combined, linked, chained, signed}
use Rattle.xf_def_xpath.specs.Functions.{argument, own_argument, plain_arguments, text_value, count_of, filled_count, of_numbers, total, average, extreme, greater, lesser, first_name, local_part, namespace_of, index_number, branch, branched, set_of, instance_id, called}
use Rattle.xf_def_xpath.specs.Table.{Function, function_at}
use Rattle.xf_def_xpath.specs.Table as of
use Rattle.xf_def_xpath.specs.Meaning.{expr_meaning, link_meaning, meaning}
use Rattle.xf_def_xpath.specs.Same.{renumbered_value, renumbered_document, renumbered_property, renumbered_focus, renumbered_setting, HasStrings}
use Rattle.xf_def_xpath.proofs.Keeps.{fold_keeps}
use Rattle.xf_def_xpath.proofs.Options.{then-through, map-through, map-same, then-kept, each-through, each-kept}
use Rattle.xf_def_xpath.proofs.RenumberLaws.{in_order-renumbered, found-renumbered, reached-renumbered, flat-renumbered, joined-renumbered, nodes-renumbered, truth-renumbered, plain-renumbered, true_at-renumbered, with_first-renumbered, strings-renumbered, plain_of-renumbered, number_of-renumbered, string_of-renumbered, combined-renumbered, or-renumbered, and-renumbered}

abbrev pub Renumbers : (ℕ → ℕ) → Meaning → Type 0
Renumbers f m = (s : Setting) (strings : ℕ → List ℕ) → HasStrings f strings s → (c : Focus) →
    m (renumbered_setting f strings s) (renumbered_focus f c) ≡ option_map (renumbered_value f) (m s c)

abbrev pub WalkRenumbers : (ℕ → ℕ) → Walk → Type 0
WalkRenumbers f w = (s : Setting) (strings : ℕ → List ℕ) → HasStrings f strings s → (ns : List ℕ) →
    w (renumbered_setting f strings s) (map f ns) ≡ option_map (map f) (w s ns)

-- ---- what surrounds the expression

document-renumbered : (f : ℕ → ℕ) (test : Document → Bool) → ((d : Document) → test (renumbered_document f d) ≡ test d) → (ds : List Document) →
    option_map (λ (d : Document). d.element) (find test (map (renumbered_document f) ds)) ≡ option_map f (option_map (λ (d : Document). d.element) (find test ds))
document-renumbered f test e ds =
    ap (option_map (λ (d : Document). d.element)) (find-through (renumbered_document f) test test e ds)
    ∙ map-through (renumbered_document f) f (find test ds) (λ d. d.element) (λ d. d.element) (λ d. refl)

pub document_of-renumbered : (f : ℕ → ℕ) (model : ℕ) (id : List ℕ) (ds : List Document) → document_of model id (map (renumbered_document f) ds) ≡ option_map f (document_of model id ds)
document_of-renumbered f model [] ds = document-renumbered f (λ d. d.model == model) (λ d. refl) ds
document_of-renumbered f model (c ∷ cs) ds = document-renumbered f (λ d. (d.model == model) && bytes_eq d.id (c ∷ cs)) (λ d. refl) ds

property-renumbered : (f : ℕ → ℕ) (name : List ℕ) (e : Option (List (List ℕ × Value))) → property_of name (option_map (map (renumbered_property f)) e) ≡ option_map (renumbered_value f) (property_of name e)
property-renumbered f name None = refl
property-renumbered f name (Some ps) =
    ap (option_map (λ (p : List ℕ × Value). p.1)) (find-through (renumbered_property f) (λ p. bytes_eq p.0 name) (λ p. bytes_eq p.0 name) (λ p. refl) ps)
    ∙ map-through (renumbered_property f) (renumbered_value f) (find (λ p. bytes_eq p.0 name) ps) (λ p. p.1) (λ p. p.1) (λ p. refl)

or_none-renumbered : (f : ℕ → ℕ) (m : Option Value) → unwrap_or (option_map (renumbered_value f) m) (Nodes []) ≡ renumbered_value f (unwrap_or m (Nodes []))
or_none-renumbered f None = refl
or_none-renumbered f (Some v) = refl

set_of-renumbered : (f : ℕ → ℕ) (m : Option ℕ) → set_of (option_map f m) ≡ renumbered_value f (set_of m)
set_of-renumbered f None = refl
set_of-renumbered f (Some n) = refl

name-renumbered : (f : ℕ → ℕ) (x : Option Visit) → option_and_then (λ y. name_in y.content) (option_map (renumbered_visit f) x) ≡ option_and_then (λ y. name_in y.content) x
name-renumbered f None = refl
name-renumbered f (Some x) = refl

pub first_name-renumbered : (f : ℕ → ℕ) → IsRenumbering f → (all : List Visit) (ns : List ℕ) → first_name (map (renumbered_visit f) all) (map f ns) ≡ first_name all ns
first_name-renumbered f same all [] = refl
first_name-renumbered f same all (n ∷ ns) =
    ap (option_and_then (λ (x : Visit). name_in x.content)) (found-renumbered f same n all) ∙ name-renumbered f (find (λ x. x.number == n) all)

-- ---- over a setting

module _ (f : ℕ → ℕ) (same : IsRenumbering f) (s : Setting) (strings : ℕ → List ℕ) (h : HasStrings f strings s) (c : Focus) where
  abbrev t : Setting
  t = renumbered_setting f strings s

  abbrev e : Focus
  e = renumbered_focus f c

  abbrev R : Value → Value
  R = renumbered_value f

  abbrev Known : Type 0
  Known = (m : Meaning) × Renumbers f m

  abbrev meanings : List Known → List Meaning
  meanings ms = map (λ (m : Known). m.0) ms

  -- ---- operators

  strict : (o : Operator) (a : Value) (m : Known) → (m.0 t e >>= combined o t (R a)) ≡ option_map R (m.0 s c >>= combined o s a)
  strict o a m =
      ap (λ r. r >>= combined o t (R a)) (m.1 s strings h c)
      ∙ then-through R R (m.0 s c) (combined o s a) (combined o t (R a)) (combined-renumbered f same s strings h o a)

  linked-renumbered : (o : Operator) (a : Value) (m : Known) → linked o (R a) m.0 t e ≡ option_map R (linked o a m.0 s c)
  linked-renumbered Or a m = ap (λ b. or_else b (m.0 t e)) (truth-renumbered f a) ∙ ap (or_else (truth_of a)) (m.1 s strings h c) ∙ or-renumbered f same s strings h (truth_of a) (m.0 s c)
  linked-renumbered And a m = ap (λ b. and_then b (m.0 t e)) (truth-renumbered f a) ∙ ap (and_then (truth_of a)) (m.1 s strings h c) ∙ and-renumbered f same s strings h (truth_of a) (m.0 s c)
  linked-renumbered Equal a m = strict Equal a m
  linked-renumbered NotEqual a m = strict NotEqual a m
  linked-renumbered Less a m = strict Less a m
  linked-renumbered LessOrEqual a m = strict LessOrEqual a m
  linked-renumbered Greater a m = strict Greater a m
  linked-renumbered GreaterOrEqual a m = strict GreaterOrEqual a m
  linked-renumbered Add a m = strict Add a m
  linked-renumbered Subtract a m = strict Subtract a m
  linked-renumbered Multiply a m = strict Multiply a m
  linked-renumbered Divide a m = strict Divide a m
  linked-renumbered Modulo a m = strict Modulo a m
  linked-renumbered Union a m = strict Union a m

  abbrev KnownLink : Type 0
  KnownLink = (l : LinkMeaning) × Renumbers f l.right

  chained-renumbered : (links : List KnownLink) (a : Value) → chained (map (λ (l : KnownLink). l.0) links) (R a) t e ≡ option_map R (chained (map (λ (l : KnownLink). l.0) links) a s c)
  chained-renumbered [] a = refl
  chained-renumbered (l ∷ ls) a =
      ap (λ r. r >>= λ v. chained (map (λ (l : KnownLink). l.0) ls) v t e) (linked-renumbered l.0.operator a (l.0.right, l.1))
      ∙ then-through R R (linked l.0.operator a l.0.right s c) (λ v. chained (map (λ (l : KnownLink). l.0) ls) v s c) (λ v. chained (map (λ (l : KnownLink). l.0) ls) v t e) (chained-renumbered ls)

  -- ---- arguments

  argument-renumbered : (at : ℕ) (ms : List Known) → argument at (meanings ms) t e ≡ option_map R (argument at (meanings ms) s c)
  argument-renumbered at [] = refl
  argument-renumbered zero (m ∷ ms) = m.1 s strings h c
  argument-renumbered (suc at) (m ∷ ms) = argument-renumbered at ms

  own-renumbered : (ms : List Known) → own_argument (meanings ms) t e ≡ option_map R (own_argument (meanings ms) s c)
  own-renumbered [] = refl
  own-renumbered (m ∷ ms) = m.1 s strings h c

  plains-renumbered : (ms : List Known) → plain_arguments (meanings ms) t e ≡ plain_arguments (meanings ms) s c
  plains-renumbered ms =
      each-kept (λ (m : Known). m.0) (λ m. m.0 s c >>= plain_of s) (λ m. m t e >>= plain_of t) (λ m.
      ap (λ r. r >>= plain_of t) (m.1 s strings h c) ∙ then-kept R (m.0 s c) (plain_of s) (plain_of t) (plain_of-renumbered f same s strings h)) ms
      ∙ sym (each-kept (λ (m : Known). m.0) (λ m. m.0 s c >>= plain_of s) (λ m. m s c >>= plain_of s) (λ m. refl) ms)

  branch-renumbered : (b : Bool) (ms : List Known) → branch b (meanings ms) t e ≡ option_map R (branch b (meanings ms) s c)
  branch-renumbered true ms = argument-renumbered 1 ms
  branch-renumbered false ms = argument-renumbered 2 ms

  branched-renumbered : (ms : List Known) → branched (meanings ms) t e ≡ option_map R (branched (meanings ms) s c)
  branched-renumbered ms =
      ap (λ r. r >>= λ v. branch (truth_of v) (meanings ms) t e) (argument-renumbered 0 ms)
      ∙ then-through R R (argument 0 (meanings ms) s c) (λ v. branch (truth_of v) (meanings ms) s c) (λ v. branch (truth_of v) (meanings ms) t e)
      (λ v. ap (λ b. branch b (meanings ms) t e) (truth-renumbered f v) ∙ branch-renumbered (truth_of v) ms)

  -- ---- what is made of a value

  made-string : (m m' : Option Value) → m' ≡ option_map R m → (m' >>= string_of t) ≡ (m >>= string_of s)
  made-string m m' k = ap (λ r. r >>= string_of t) k ∙ then-kept R m (string_of s) (string_of t) (string_of-renumbered f same s strings h)

  made-number : (m m' : Option Value) → m' ≡ option_map R m → (m' >>= number_of t) ≡ (m >>= number_of s)
  made-number m m' k = ap (λ r. r >>= number_of t) k ∙ then-kept R m (number_of s) (number_of t) (number_of-renumbered f same s strings h)

  texts-renumbered : (m m' : Option (List ℕ)) → m' ≡ m → option_map Text m' ≡ option_map R (option_map Text m)
  texts-renumbered m m' k = ap (option_map Text) k ∙ map-same R m Text Text (λ text. refl)

  plain-values : (m m' : Option Plain) → m' ≡ m → option_map value_of_plain m' ≡ option_map R (option_map value_of_plain m)
  plain-values m m' k = ap (option_map value_of_plain) k ∙ map-same R m value_of_plain value_of_plain (λ p. sym (plain-renumbered f p))

  truths-renumbered : (g : Bool → Bool) (m m' : Option Value) → m' ≡ option_map R m → option_map (λ v. Truth (g (truth_of v))) m' ≡ option_map R (option_map (λ v. Truth (g (truth_of v))) m)
  truths-renumbered g m m' k =
      ap (option_map (λ v. Truth (g (truth_of v)))) k
      ∙ map-through R R m (λ v. Truth (g (truth_of v))) (λ v. Truth (g (truth_of v))) (λ v. ap (λ b. Truth (g b)) (truth-renumbered f v))

  set-renumbered : (made made' : List ℕ → Option Value) → ((ns : List ℕ) → made' (map f ns) ≡ option_map R (made ns)) → (m m' : Option Value) → m' ≡ option_map R m →
      (m' >>= λ v. made' (nodes_of v)) ≡ option_map R (m >>= λ v. made (nodes_of v))
  set-renumbered made made' k m m' j =
      ap (λ r. r >>= λ v. made' (nodes_of v)) j
      ∙ then-through R R m (λ v. made (nodes_of v)) (λ v. made' (nodes_of v)) (λ v. ap made' (nodes-renumbered f v) ∙ k (nodes_of v))

  numbers-renumbered : (made : List Decimal → Decimal) (ns : List ℕ) → of_numbers t made (map f ns) ≡ option_map R (of_numbers s made ns)
  numbers-renumbered made ns = ap (option_map _) (strings-renumbered f same s strings h ns) ∙ map-same R (strings_of s ns) _ _ (λ texts. refl)

  names-renumbered : (part : Option node_name.Name → List ℕ) (ns : List ℕ) → text_value t (part (first_name t.all (map f ns))) ≡ option_map R (text_value s (part (first_name s.all ns)))
  names-renumbered part ns = texts-renumbered (capped s.most (part (first_name s.all ns))) _ (ap (λ name. capped s.most (part name)) (first_name-renumbered f same s.all ns))

  instance_id-renumbered : (ms : List Known) → instance_id (meanings ms) t e ≡ instance_id (meanings ms) s c
  instance_id-renumbered [] = refl
  instance_id-renumbered (m ∷ ms) = made-string (m.0 s c) (m.0 t e) (m.1 s strings h c)

  -- ---- functions

  pub called-renumbered : (g : Function) (code : ℕ) (ms : List Known) → called g code (meanings ms) t e ≡ option_map R (called g code (meanings ms) s c)
  called-renumbered of.asking code ms = plain-values _ _ (ap (λ r. r >>= s.functions code) (plains-renumbered ms))
  called-renumbered of.plainly code ms = plain-values _ _ (ap (λ r. r >>= s.functions code) (plains-renumbered ms))
  called-renumbered of.owning code ms = plain-values _ _ (ap (λ r. r >>= λ p. s.functions code (p ∷ []))
      (ap (λ r. r >>= plain_of t) (own-renumbered ms) ∙ then-kept R (own_argument (meanings ms) s c) (plain_of s) (plain_of t) (plain_of-renumbered f same s strings h)))
  called-renumbered of.boolean code ms = truths-renumbered (λ b. b) _ _ (argument-renumbered 0 ms)
  called-renumbered of.not code ms = truths-renumbered std.not _ _ (argument-renumbered 0 ms)
  called-renumbered (of.truth b) code ms = refl
  called-renumbered of.choosing code ms = branched-renumbered ms
  called-renumbered of.branching code ms = texts-renumbered _ _ (made-string _ _ (branched-renumbered ms))
  called-renumbered of.counting code ms = set-renumbered (λ ns. Some (count_of s ns)) (λ ns. Some (count_of t ns)) (λ ns. ap (λ n. Some (Number (whole s.given.decimals n))) (length-map ns f)) _ _ (argument-renumbered 0 ms)
  called-renumbered of.counting_filled code ms = set-renumbered (filled_count s) (filled_count t)
      (λ ns. ap (option_map _) (strings-renumbered f same s strings h ns) ∙ map-same R (strings_of s ns) _ _ (λ texts. refl)) _ _ (argument-renumbered 0 ms)
  called-renumbered of.adding code ms = set-renumbered (of_numbers s total) (of_numbers t total) (numbers-renumbered total) _ _ (argument-renumbered 0 ms)
  called-renumbered of.averaging code ms = set-renumbered (of_numbers s (average s.given.decimals)) (of_numbers t (average s.given.decimals)) (numbers-renumbered (average s.given.decimals)) _ _ (argument-renumbered 0 ms)
  called-renumbered of.greatest code ms = set-renumbered (of_numbers s (extreme greater)) (of_numbers t (extreme greater)) (numbers-renumbered (extreme greater)) _ _ (argument-renumbered 0 ms)
  called-renumbered of.least code ms = set-renumbered (of_numbers s (extreme lesser)) (of_numbers t (extreme lesser)) (numbers-renumbered (extreme lesser)) _ _ (argument-renumbered 0 ms)
  called-renumbered of.local_name code ms = set-renumbered (λ ns. text_value s (local_part (first_name s.all ns))) (λ ns. text_value t (local_part (first_name t.all ns))) (names-renumbered local_part) _ _ (own-renumbered ms)
  called-renumbered of.name code ms = set-renumbered (λ ns. text_value s (written_in (first_name s.all ns))) (λ ns. text_value t (written_in (first_name t.all ns))) (names-renumbered written_in) _ _ (own-renumbered ms)
  called-renumbered of.namespace code ms = set-renumbered (λ ns. text_value s (namespace_of s.given.bindings (first_name s.all ns))) (λ ns. text_value t (namespace_of s.given.bindings (first_name t.all ns))) (names-renumbered (namespace_of s.given.bindings)) _ _ (own-renumbered ms)
  called-renumbered of.number code ms = ap (option_map Number) (made-number _ _ (own-renumbered ms)) ∙ map-same R _ Number Number (λ k. refl)
  called-renumbered of.string code ms = texts-renumbered _ _ (made-string _ _ (own-renumbered ms))
  called-renumbered of.current code ms = refl
  called-renumbered of.event code ms =
      ap (option_map (λ name. unwrap_or (property_of name t.given.event) (Nodes []))) (made-string _ _ (argument-renumbered 0 ms))
      ∙ map-same R (argument 0 (meanings ms) s c >>= string_of s) (λ name. unwrap_or (property_of name s.given.event) (Nodes [])) (λ name. unwrap_or (property_of name t.given.event) (Nodes []))
      (λ name. ap (λ v. unwrap_or v (Nodes [])) (property-renumbered f name s.given.event) ∙ or_none-renumbered f (property_of name s.given.event))
  called-renumbered of.index code ms =
      ap (option_map (λ id. Number (index_number s.given.decimals (beside id s.given.indexes)))) (made-string _ _ (argument-renumbered 0 ms))
      ∙ map-same R (argument 0 (meanings ms) s c >>= string_of s) (λ id. Number (index_number s.given.decimals (beside id s.given.indexes))) (λ id. Number (index_number s.given.decimals (beside id s.given.indexes))) (λ id. refl)
  called-renumbered of.instance code ms =
      ap (option_map (λ id. set_of (document_of s.model id t.given.documents))) (instance_id-renumbered ms)
      ∙ map-same R (instance_id (meanings ms) s c) (λ id. set_of (document_of s.model id s.given.documents)) (λ id. set_of (document_of s.model id t.given.documents))
      (λ id. ap set_of (document_of-renumbered f s.model id s.given.documents) ∙ set_of-renumbered f (document_of s.model id s.given.documents))
  called-renumbered of.last code ms = refl
  called-renumbered of.position code ms = refl

-- ---- paths

module _ (f : ℕ → ℕ) (same : IsRenumbering f) (s : Setting) (strings : ℕ → List ℕ) (h : HasStrings f strings s) where
  abbrev to : Setting
  to = renumbered_setting f strings s

  abbrev Predicate : Type 0
  Predicate = (m : Meaning) × Renumbers f m

  kept-renumbered : (p : Predicate) (size position : ℕ) (ns : List ℕ) → kept_from to p.0 size position (map f ns) ≡ option_map (map f) (kept_from s p.0 size position ns)
  kept-renumbered p size position [] = refl
  kept-renumbered p size position (n ∷ ns) =
      ap (λ r. r >>= λ v. kept_from to p.0 size (suc position) (map f ns) >>= λ rest. Some (with_first (f n) (is_true_at s.given.decimals position v) rest))
      (p.1 s strings h (record { node = n; position = position; size = size }))
      ∙ then-through (renumbered_value f) (map f) (p.0 s (record { node = n; position = position; size = size }))
      (λ v. kept_from s p.0 size (suc position) ns >>= λ rest. Some (with_first n (is_true_at s.given.decimals position v) rest))
      (λ v. kept_from to p.0 size (suc position) (map f ns) >>= λ rest. Some (with_first (f n) (is_true_at s.given.decimals position v) rest))
      (λ v.
      ap (λ b. kept_from to p.0 size (suc position) (map f ns) >>= λ rest. Some (with_first (f n) b rest)) (true_at-renumbered f s.given.decimals position v)
      ∙ ap (λ r. r >>= λ rest. Some (with_first (f n) (is_true_at s.given.decimals position v) rest)) (kept-renumbered p size (suc position) ns)
      ∙ then-through (map f) (map f) (kept_from s p.0 size (suc position) ns) (λ rest. Some (with_first n (is_true_at s.given.decimals position v) rest)) (λ rest. Some (with_first (f n) (is_true_at s.given.decimals position v) rest))
      (λ rest. ap Some (with_first-renumbered f n (is_true_at s.given.decimals position v) rest)))

  pub kept_all-renumbered : (ps : List Predicate) (ns : List ℕ) → kept_by_all to (map (λ (p : Predicate). p.0) ps) (map f ns) ≡ option_map (map f) (kept_by_all s (map (λ (p : Predicate). p.0) ps) ns)
  kept_all-renumbered [] ns = refl
  kept_all-renumbered (p ∷ ps) ns =
      ap (λ size. kept_from to p.0 size 1 (map f ns) >>= kept_by_all to (map (λ (p : Predicate). p.0) ps)) (length-map ns f)
      ∙ ap (λ r. r >>= kept_by_all to (map (λ (p : Predicate). p.0) ps)) (kept-renumbered p (length ns) 1 ns)
      ∙ then-through (map f) (map f) (kept_from s p.0 (length ns) 1 ns) (kept_by_all s (map (λ (p : Predicate). p.0) ps)) (kept_by_all to (map (λ (p : Predicate). p.0) ps)) (kept_all-renumbered ps)

  pub begun_at-renumbered : (b : Bool) (ns : List ℕ) → begun_at b to.all (map f ns) ≡ map f (begun_at b s.all ns)
  begun_at-renumbered false ns = refl
  begun_at-renumbered true ns =
      ap (in_order to.all) (flat-renumbered f (reached DescendantOrSelf Node s.all) (reached DescendantOrSelf Node to.all) (reached-renumbered f same DescendantOrSelf Node s.all) ns)
      ∙ in_order-renumbered f same s.all _

  from_one-renumbered : (y : Step-F Predicate ((l : LinkMeaning) × Renumbers f l.right) ((w : Walk) × WalkRenumbers f w)) (n : ℕ) →
      from_one y.axis y.test (map (λ (p : Predicate). p.0) y.predicates) to (f n) ≡ option_map (map f) (from_one y.axis y.test (map (λ (p : Predicate). p.0) y.predicates) s n)
  from_one-renumbered y n =
      ap (kept_by_all to (map (λ (p : Predicate). p.0) y.predicates)) (reached-renumbered f same y.axis y.test s.all n)
      ∙ kept_all-renumbered y.predicates (reached y.axis y.test s.all n)

  pub step-renumbered : (y : Step-F Predicate ((l : LinkMeaning) × Renumbers f l.right) ((w : Walk) × WalkRenumbers f w)) (ns : List ℕ) →
      option_map (λ sets. in_order to.all (joined sets)) (each (from_one y.axis y.test (map (λ (p : Predicate). p.0) y.predicates) to) (begun_at y.is_below to.all (map f ns)))
      ≡ option_map (map f) (option_map (λ sets. in_order s.all (joined sets)) (each (from_one y.axis y.test (map (λ (p : Predicate). p.0) y.predicates) s) (begun_at y.is_below s.all ns)))
  step-renumbered y ns =
      ap (λ ms. option_map (λ sets. in_order to.all (joined sets)) (each (from_one y.axis y.test (map (λ (p : Predicate). p.0) y.predicates) to) ms)) (begun_at-renumbered y.is_below ns)
      ∙ ap (option_map (λ sets. in_order to.all (joined sets)))
      (each-through f (map f) (from_one y.axis y.test (map (λ (p : Predicate). p.0) y.predicates) s) (from_one y.axis y.test (map (λ (p : Predicate). p.0) y.predicates) to) (from_one-renumbered y) (begun_at y.is_below s.all ns))
      ∙ map-through (map (map f)) (map f) (each (from_one y.axis y.test (map (λ (p : Predicate). p.0) y.predicates) s) (begun_at y.is_below s.all ns)) (λ sets. in_order s.all (joined sets)) (λ sets. in_order to.all (joined sets))
      (λ sets. ap (in_order to.all) (joined-renumbered f sets) ∙ in_order-renumbered f same s.all (joined sets))

  abbrev Step : Type 0
  Step = (w : Walk) × WalkRenumbers f w

  walked-renumbered : (ws : List Step) (ns : List ℕ) → walked to (map (λ (w : Step). w.0) ws) (map f ns) ≡ option_map (map f) (walked s (map (λ (w : Step). w.0) ws) ns)
  walked-renumbered [] ns = refl
  walked-renumbered (w ∷ ws) ns =
      ap (λ r. r >>= walked to (map (λ (v : Step). v.0) ws)) (w.1 s strings h ns)
      ∙ then-through (map f) (map f) (w.0 s ns) (walked s (map (λ (v : Step). v.0) ws)) (walked to (map (λ (v : Step). v.0) ws)) (walked-renumbered ws)

  pub begun-renumbered : (start : Start) (c : Focus) → begun start to (renumbered_focus f c) ≡ map f (begun start s c)
  begun-renumbered Root c = ap (λ n. n ∷ []) (top_of-renumbered f same c.node s.all)
  begun-renumbered Context c = refl

  sets-renumbered : (m m' : Option (List ℕ)) → m' ≡ option_map (map f) m → option_map Nodes m' ≡ option_map (renumbered_value f) (option_map Nodes m)
  sets-renumbered m m' k = ap (option_map Nodes) k ∙ map-through (map f) (renumbered_value f) m Nodes Nodes (λ ns. refl)

  -- what is made of the nodes of a value
  nodes-then : (k k' : List ℕ → Option (List ℕ)) → ((ns : List ℕ) → k' (map f ns) ≡ option_map (map f) (k ns)) → (m m' : Option Value) → m' ≡ option_map (renumbered_value f) m →
      option_map Nodes (m' >>= λ v. k' (nodes_of v)) ≡ option_map (renumbered_value f) (option_map Nodes (m >>= λ v. k (nodes_of v)))
  nodes-then k k' j m m' i =
      sets-renumbered (m >>= λ v. k (nodes_of v)) (m' >>= λ v. k' (nodes_of v))
      (ap (λ r. r >>= λ v. k' (nodes_of v)) i ∙ then-through (renumbered_value f) (map f) m (λ v. k (nodes_of v)) (λ v. k' (nodes_of v)) (λ v. ap k' (nodes-renumbered f v) ∙ j (nodes_of v)))

-- ---- every expression

module _ (f : ℕ → ℕ) (same : IsRenumbering f) where
  abbrev Level : Type 0
  Level = Expr-F ((m : Meaning) × Renumbers f m) ((l : LinkMeaning) × Renumbers f l.right) ((w : Walk) × WalkRenumbers f w)

  pub level-renumbered : (y : Level) → Renumbers f (expr_meaning (map-Expr _ _ _ Meaning LinkMeaning Walk (λ e. e.0) (λ e. e.0) (λ e. e.0) y))
  level-renumbered (Expr-F.Number place k) = λ s strings h c. refl
  level-renumbered (Expr-F.Literal place text) = λ s strings h c. map-same (renumbered_value f) (capped s.most text) Text Text (λ cs. refl)
  level-renumbered (Expr-F.Call place code ms) = λ s strings h c. called-renumbered f same s strings h c (function_at code) code ms
  level-renumbered (Expr-F.Negated place signs m) = λ s strings h c.
      ap (option_map (λ k. Number (signed signs k))) (made-number f same s strings h c (m.0 s c) (m.0 (renumbered_setting f strings s) (renumbered_focus f c)) (m.1 s strings h c))
      ∙ map-same (renumbered_value f) (m.0 s c >>= number_of s) (λ k. Number (signed signs k)) (λ k. Number (signed signs k)) (λ k. refl)
  level-renumbered (Expr-F.Chain first links) = λ s strings h c.
      ap (λ r. r >>= λ left. chained (map (λ (l : (l : LinkMeaning) × Renumbers f l.right). l.0) links) left (renumbered_setting f strings s) (renumbered_focus f c)) (first.1 s strings h c)
      ∙ then-through (renumbered_value f) (renumbered_value f) (first.0 s c) _ _ (chained-renumbered f same s strings h c links)
  level-renumbered (Expr-F.Filter first ms) = λ s strings h c. nodes-then f same s strings h
      (kept_by_all s (map (λ (m : (m : Meaning) × Renumbers f m). m.0) ms)) (kept_by_all (renumbered_setting f strings s) (map (λ (m : (m : Meaning) × Renumbers f m). m.0) ms))
      (kept_all-renumbered f same s strings h ms) (first.0 s c) (first.0 (renumbered_setting f strings s) (renumbered_focus f c)) (first.1 s strings h c)
  level-renumbered (Expr-F.Path place start ws) = λ s strings h c. sets-renumbered f same s strings h _ _
      (ap (walked (renumbered_setting f strings s) (map (λ (w : (w : Walk) × WalkRenumbers f w). w.0) ws)) (begun-renumbered f same s strings h start c) ∙ walked-renumbered f same s strings h ws (begun start s c))
  level-renumbered (Expr-F.From first ws) = λ s strings h c. nodes-then f same s strings h
      (walked s (map (λ (w : (w : Walk) × WalkRenumbers f w). w.0) ws)) (walked (renumbered_setting f strings s) (map (λ (w : (w : Walk) × WalkRenumbers f w). w.0) ws))
      (walked-renumbered f same s strings h ws) (first.0 s c) (first.0 (renumbered_setting f strings s) (renumbered_focus f c)) (first.1 s strings h c)

  pub meaning-renumbered : (e : Expr) → Renumbers f (meaning e)
  meaning-renumbered = fold_keeps Meaning LinkMeaning Walk expr_meaning link_meaning step_walk (Renumbers f) (λ l. Renumbers f l.right) (WalkRenumbers f)
      level-renumbered (λ y. y.right.1) (λ y s strings h ns. step-renumbered f same s strings h y ns)
