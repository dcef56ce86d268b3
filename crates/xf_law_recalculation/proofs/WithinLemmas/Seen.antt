-- What an expression gives over the part, from a node of it, is what it gives over the whole list: a node of the part, or no node.
use Rattle.std.proofs.Common.{◌≡◌, ℕ, zero, suc, Bool, true, false, List, [], ◌∷◌, ◌++◌, map, Option, Some, None, option_map, refl, ap, ◌∙◌}
use Rattle.std.specs.Prelude.{⊤, option_and_then, unwrap_or}
use Rattle.std.specs.Prelude as std
use Rattle.xf_def_syntax.specs.declared.expr.Expr.TheOpen.{Expr-F, Step-F}
use Rattle.xf_def_syntax.specs.declared.expr.Expr.TheFolds.{map-Expr}
use Rattle.xf_def_syntax.specs.declared.expr.Operator.{Operator}
use Rattle.xf_def_syntax.specs.declared.expr.Operator.TheVariants.{Or, And, Equal, NotEqual, Less, LessOrEqual, Greater, GreaterOrEqual, Add, Subtract, Multiply, Divide, Modulo, Union}
use Rattle.xf_def_syntax.specs.declared.expr.Start.{Start}
use Rattle.xf_def_syntax.specs.declared.expr.Start.TheVariants.{Root, Context}
use Rattle.xf_def_forest.specs.declared.content.Name as node_name
use Rattle.xf_def_forest.specs.Forest.{name_in, written_in}
use Rattle.xf_def_forest.specs.Visit.{Visit}
use Rattle.xf_def_xpath.specs.declared.value.Value.{Value}
use Rattle.xf_def_xpath.specs.declared.value.Value.TheVariants.{Nodes, Text, Number, Truth}
use Rattle.xf_def_xpath.specs.Given.{Document, document_of, property_of}
use Rattle.xf_def_values.specs.declared.plain.Plain.{Plain}
use Rattle.xf_def_values.specs.declared.plain.Plain.TheVariants as plain
use Rattle.xf_def_values.specs.Conversions.{Decimal, number_in, text_in}
use Rattle.xf_def_xpath.specs.Setting.{Setting, Focus, Meaning, LinkMeaning, Walk, ◌>>=◌, each, capped, in_order, joined}
use Rattle.xf_def_xpath.specs.Conversions.{nodes_of, truth_of, number_of, string_of, string_of_node, plain_of, value_of_plain, strings_of}
use Rattle.xf_def_xpath.specs.Comparisons.{holds, some_pair, plains_of, pairs_hold, compared}
use Rattle.xf_def_xpath.specs.Steps.{reached, is_true_at, with_first, kept_from, kept_by_all, from_one, begun_at, walked, begun}
use Rattle.xf_def_xpath.specs.Operators.{or_else, and_then, truly, computed, united, combined, linked, chained, signed}
use Rattle.xf_def_xpath.specs.Functions.{argument, own_argument, plain_arguments, text_value, count_of, filled_count, of_numbers, total, average, extreme, greater, lesser, first_name, local_part, namespace_of, branch, branched, set_of, instance_id, called}
use Rattle.xf_def_xpath.specs.Table.{Function, function_at}
use Rattle.xf_def_xpath.specs.Table as of
use Rattle.xf_def_xpath.specs.Meaning.{expr_meaning}
use Rattle.xf_def_xpath.proofs.ForestVisits.{Each}
use Rattle.xf_law_recalculation.proofs.WithinLemmas.Told.{Agree, agree-then, agree-map, agree-any, agree-each}
use Rattle.xf_law_recalculation.specs.Within.Within.{Whole, over_part}
use Rattle.xf_law_recalculation.proofs.WithinLemmas.Within.{In, in-append, ordered-same, ordered-in, found-kept, reached-same, reached-in, begun-same, begun-in, top-same, top-in}

-- ---- the part and the whole

-- how it stands to the one over the whole, outside an event
pub record Sees (p : ℕ → Bool) (b : Setting) (strings : ℕ → List ℕ) (documents : List Document) : Type 0 where
  pub trees : Each (Whole p) b.all
  pub strings_too : (n : ℕ) → p n ≡ true → strings n ≡ b.strings n
  pub documents_too : (id : List ℕ) → document_of b.model id documents ≡ document_of b.model id b.given.documents
  pub inside : (id : List ℕ) (n : ℕ) → document_of b.model id b.given.documents ≡ Some n → p n ≡ true
  pub current : p b.current ≡ true
  pub quiet : b.given.event ≡ None

abbrev pub Inside : (ℕ → Bool) → Value → Type 0
Inside p v = In p (nodes_of v)

abbrev pub Keeps : (ℕ → Bool) → Meaning → Type 0
Keeps p m = (b : Setting) (strings : ℕ → List ℕ) (documents : List Document) → Sees p b strings documents → (c : Focus) → p c.node ≡ true → Agree (Inside p) (m (over_part p b strings documents) c) (m b c)

abbrev pub WalkKeeps : (ℕ → Bool) → Walk → Type 0
WalkKeeps p w = (b : Setting) (strings : ℕ → List ℕ) (documents : List Document) → Sees p b strings documents → (ns : List ℕ) → In p ns → Agree (In p) (w (over_part p b strings documents) ns) (w b ns)

plain-inside : (p : ℕ → Bool) (x : Plain) → Inside p (value_of_plain x)
plain-inside p (plain.Text text) = tt
plain-inside p (plain.Number k) = tt
plain-inside p (plain.Truth b) = tt

module _ (p : ℕ → Bool) (b : Setting) (strings : ℕ → List ℕ) (documents : List Document) (h : Sees p b strings documents) where
  abbrev s : Setting
  s = over_part p b strings documents

  -- ---- conversions

  node-string : (n : ℕ) → p n ≡ true → string_of_node s n ≡ string_of_node b n
  node-string n i = ap (capped b.most) (h.strings_too n i)

  strings-same : (ns : List ℕ) → In p ns → strings_of s ns ≡ strings_of b ns
  strings-same [] i = refl
  strings-same (n ∷ ns) i =
      ap (λ o. o >>= λ y. each (string_of_node s) ns >>= λ ys. Some (y ∷ ys)) (node-string n i.0) ∙ ap (λ o. string_of_node b n >>= λ y. o >>= λ ys. Some (y ∷ ys)) (strings-same ns i.1)

  pub plain-same : (v : Value) → Inside p v → plain_of s v ≡ plain_of b v
  plain-same (Nodes []) i = refl
  plain-same (Nodes (n ∷ ns)) i = ap (option_map plain.Text) (node-string n i.0)
  plain-same (Text text) i = refl
  plain-same (Number k) i = refl
  plain-same (Truth t) i = refl

  pub number-same : (v : Value) → Inside p v → number_of s v ≡ number_of b v
  number-same v i = ap (option_map (number_in b.given.decimals)) (plain-same v i)

  pub string-same : (v : Value) → Inside p v → string_of s v ≡ string_of b v
  string-same v i = ap (λ o. o >>= λ q. capped b.most (text_in b.given.decimals q)) (plain-same v i)

  -- ---- operators

  plains-same : (v : Value) → Inside p v → plains_of s v ≡ plains_of b v
  plains-same (Nodes ns) i = ap (option_map (map plain.Text)) (strings-same ns i)
  plains-same (Text text) i = refl
  plains-same (Number k) i = refl
  plains-same (Truth t) i = refl

  pairs-same : (o : Operator) (v w : Value) → Inside p v → Inside p w → pairs_hold s o v w ≡ pairs_hold b o v w
  pairs-same o v w i j =
      ap (λ l. l >>= λ lefts. plains_of s w >>= λ rights. Some (some_pair (holds b.given.decimals o) lefts rights)) (plains-same v i)
      ∙ ap (λ r. plains_of b v >>= λ lefts. r >>= λ rights. Some (some_pair (holds b.given.decimals o) lefts rights)) (plains-same w j)

  compared-same : (o : Operator) (v w : Value) → Inside p v → Inside p w → compared s o v w ≡ compared b o v w
  compared-same o (Nodes ns) (Truth t) i j = refl
  compared-same o (Truth t) (Nodes ns) i j = refl
  compared-same o (Nodes ns) (Nodes ms) i j = pairs-same o (Nodes ns) (Nodes ms) i j
  compared-same o (Nodes ns) (Text text) i j = pairs-same o (Nodes ns) (Text text) i j
  compared-same o (Nodes ns) (Number k) i j = pairs-same o (Nodes ns) (Number k) i j
  compared-same o (Text text) w i j = pairs-same o (Text text) w i j
  compared-same o (Number k) w i j = pairs-same o (Number k) w i j
  compared-same o (Truth t) (Text text) i j = pairs-same o (Truth t) (Text text) i j
  compared-same o (Truth t) (Number k) i j = pairs-same o (Truth t) (Number k) i j
  compared-same o (Truth t) (Truth u) i j = pairs-same o (Truth t) (Truth u) i j

  abbrev Ok : Option Value → Option Value → Type 0
  Ok m m' = Agree (Inside p) m m'

  truth-ok : (m m' : Option Bool) → m ≡ m' → Ok (option_map Truth m) (option_map Truth m')
  truth-ok m m' e = agree-map {P = λ _. ⊤} {Q = Inside p} m m' Truth Truth (agree-any m m' e (λ x. tt)) (λ x i. refl) (λ x i. tt)

  computed-ok : (operation : Decimal → Decimal → Decimal) (v w : Value) → Inside p v → Inside p w → Ok (computed s operation v w) (computed b operation v w)
  computed-ok operation v w i j =
      agree-then {P = λ _. ⊤} {Q = Inside p} (number_of s v) (number_of b v) (λ x. number_of s w >>= λ y. Some (Number (operation x y))) (λ x. number_of b w >>= λ y. Some (Number (operation x y)))
      (agree-any (number_of s v) (number_of b v) (number-same v i) (λ x. tt))
      (λ x _. agree-then {P = λ _. ⊤} {Q = Inside p} (number_of s w) (number_of b w) (λ y. Some (Number (operation x y))) (λ y. Some (Number (operation x y)))
      (agree-any (number_of s w) (number_of b w) (number-same w j) (λ y. tt)) (λ y _. record { same = refl; told = tt }))

  united-ok : (v w : Value) → Inside p v → Inside p w → Ok (Some (united s v w)) (Some (united b v w))
  united-ok v w i j =
      let both = in-append p (nodes_of v) (nodes_of w) i j in
      record { same = ap (λ ns. Some (Nodes ns)) (ordered-same p b.all (nodes_of v ++ nodes_of w) both); told = ordered-in p b.all (nodes_of v ++ nodes_of w) both }

  combined-ok : (o : Operator) (v w : Value) → Inside p v → Inside p w → Ok (combined o s v w) (combined o b v w)
  combined-ok Or v w i j = truth-ok _ _ (compared-same Or v w i j)
  combined-ok And v w i j = truth-ok _ _ (compared-same And v w i j)
  combined-ok Equal v w i j = truth-ok _ _ (compared-same Equal v w i j)
  combined-ok NotEqual v w i j = truth-ok _ _ (compared-same NotEqual v w i j)
  combined-ok Less v w i j = truth-ok _ _ (compared-same Less v w i j)
  combined-ok LessOrEqual v w i j = truth-ok _ _ (compared-same LessOrEqual v w i j)
  combined-ok Greater v w i j = truth-ok _ _ (compared-same Greater v w i j)
  combined-ok GreaterOrEqual v w i j = truth-ok _ _ (compared-same GreaterOrEqual v w i j)
  combined-ok Add v w i j = computed-ok _ v w i j
  combined-ok Subtract v w i j = computed-ok _ v w i j
  combined-ok Multiply v w i j = computed-ok _ v w i j
  combined-ok Divide v w i j = computed-ok _ v w i j
  combined-ok Modulo v w i j = computed-ok _ v w i j
  combined-ok Union v w i j = united-ok v w i j

  truly-ok : (m m' : Option Value) → Ok m m' → Ok (truly m) (truly m')
  truly-ok m m' a = agree-map {Q = Inside p} m m' (λ v. Truth (truth_of v)) (λ v. Truth (truth_of v)) a (λ v i. refl) (λ v i. tt)

  or-ok : (t : Bool) (m m' : Option Value) → Ok m m' → Ok (or_else t m) (or_else t m')
  or-ok true m m' a = record { same = refl; told = tt }
  or-ok false m m' a = truly-ok m m' a

  and-ok : (t : Bool) (m m' : Option Value) → Ok m m' → Ok (and_then t m) (and_then t m')
  and-ok true m m' a = truly-ok m m' a
  and-ok false m m' a = record { same = refl; told = tt }

  -- ---- of what is known

  abbrev Known : Type 0
  Known = (m : Meaning) × Keeps p m

  abbrev KnownLink : Type 0
  KnownLink = (l : LinkMeaning) × Keeps p l.right

  abbrev KnownWalk : Type 0
  KnownWalk = (w : Walk) × WalkKeeps p w

  abbrev meanings : List Known → List Meaning
  meanings ms = map (λ (m : Known). m.0) ms

  module _ (c : Focus) (here : p c.node ≡ true) where
    at : (m : Known) → Ok (m.0 s c) (m.0 b c)
    at m = m.1 b strings documents h c here

    strict : (o : Operator) (v : Value) → Inside p v → (m : Known) → Ok (m.0 s c >>= combined o s v) (m.0 b c >>= combined o b v)
    strict o v i m = agree-then {Q = Inside p} (m.0 s c) (m.0 b c) (combined o s v) (combined o b v) (at m) (λ w j. combined-ok o v w i j)

    linked-ok : (o : Operator) (v : Value) → Inside p v → (m : Known) → Ok (linked o v m.0 s c) (linked o v m.0 b c)
    linked-ok Or v i m = or-ok (truth_of v) (m.0 s c) (m.0 b c) (at m)
    linked-ok And v i m = and-ok (truth_of v) (m.0 s c) (m.0 b c) (at m)
    linked-ok Equal v i m = strict Equal v i m
    linked-ok NotEqual v i m = strict NotEqual v i m
    linked-ok Less v i m = strict Less v i m
    linked-ok LessOrEqual v i m = strict LessOrEqual v i m
    linked-ok Greater v i m = strict Greater v i m
    linked-ok GreaterOrEqual v i m = strict GreaterOrEqual v i m
    linked-ok Add v i m = strict Add v i m
    linked-ok Subtract v i m = strict Subtract v i m
    linked-ok Multiply v i m = strict Multiply v i m
    linked-ok Divide v i m = strict Divide v i m
    linked-ok Modulo v i m = strict Modulo v i m
    linked-ok Union v i m = strict Union v i m

    chained-ok : (links : List KnownLink) (v : Value) → Inside p v → Ok (chained (map (λ (l : KnownLink). l.0) links) v s c) (chained (map (λ (l : KnownLink). l.0) links) v b c)
    chained-ok [] v i = record { same = refl; told = i }
    chained-ok (l ∷ ls) v i =
        agree-then {Q = Inside p} (linked l.0.operator v l.0.right s c) (linked l.0.operator v l.0.right b c)
        (λ w. chained (map (λ (k : KnownLink). k.0) ls) w s c) (λ w. chained (map (λ (k : KnownLink). k.0) ls) w b c)
        (linked-ok l.0.operator v i (l.0.right, l.1)) (λ w j. chained-ok ls w j)

    -- ---- arguments

    argument-ok : (place : ℕ) (ms : List Known) → Ok (argument place (meanings ms) s c) (argument place (meanings ms) b c)
    argument-ok place [] = record { same = refl; told = tt }
    argument-ok zero (m ∷ ms) = at m
    argument-ok (suc place) (m ∷ ms) = argument-ok place ms

    own-ok : (ms : List Known) → Ok (own_argument (meanings ms) s c) (own_argument (meanings ms) b c)
    own-ok [] = record { same = refl; told = (here, tt) }
    own-ok (m ∷ ms) = at m

    -- what is made of a value, the same over both
    made-same : {A : Type 0} (m m' : Option Value) (f g : Value → Option A) → Ok m m' → ((v : Value) → Inside p v → f v ≡ g v) → (m >>= f) ≡ (m' >>= g)
    made-same m m' f g a k = (agree-then {Q = λ _. ⊤} m m' f g a (λ v i. agree-any (f v) (g v) (k v i) (λ x. tt))).same

    plains-ok : (ms : List Known) → plain_arguments (meanings ms) s c ≡ plain_arguments (meanings ms) b c
    plains-ok [] = refl
    plains-ok (m ∷ ms) =
        ap (λ o. o >>= λ y. plain_arguments (meanings ms) s c >>= λ ys. Some (y ∷ ys)) (made-same (m.0 s c) (m.0 b c) (plain_of s) (plain_of b) (at m) plain-same)
        ∙ ap (λ o. (m.0 b c >>= plain_of b) >>= λ y. o >>= λ ys. Some (y ∷ ys)) (plains-ok ms)

    branch-ok : (t : Bool) (ms : List Known) → Ok (branch t (meanings ms) s c) (branch t (meanings ms) b c)
    branch-ok true ms = argument-ok 1 ms
    branch-ok false ms = argument-ok 2 ms

    branched-ok : (ms : List Known) → Ok (branched (meanings ms) s c) (branched (meanings ms) b c)
    branched-ok ms =
        agree-then {Q = Inside p} (argument 0 (meanings ms) s c) (argument 0 (meanings ms) b c) (λ v. branch (truth_of v) (meanings ms) s c) (λ v. branch (truth_of v) (meanings ms) b c)
        (argument-ok 0 ms) (λ v i. branch-ok (truth_of v) ms)

    -- ---- what is made of them

    plain-ok : (m m' : Option Plain) → m ≡ m' → Ok (option_map value_of_plain m) (option_map value_of_plain m')
    plain-ok m m' e = agree-map {P = λ _. ⊤} {Q = Inside p} m m' value_of_plain value_of_plain (agree-any m m' e (λ x. tt)) (λ x i. refl) (λ x i. plain-inside p x)

    text-ok : (m m' : Option (List ℕ)) → m ≡ m' → Ok (option_map Text m) (option_map Text m')
    text-ok m m' e = agree-map {P = λ _. ⊤} {Q = Inside p} m m' Text Text (agree-any m m' e (λ x. tt)) (λ x i. refl) (λ x i. tt)

    number-ok : {A : Type 0} (m m' : Option A) (f : A → Decimal) → m ≡ m' → Ok (option_map (λ x. Number (f x)) m) (option_map (λ x. Number (f x)) m')
    number-ok m m' f e = agree-map {P = λ _. ⊤} {Q = Inside p} m m' (λ x. Number (f x)) (λ x. Number (f x)) (agree-any m m' e (λ x. tt)) (λ x i. refl) (λ x i. tt)

    truths-ok : (g : Bool → Bool) (m m' : Option Value) → Ok m m' → Ok (option_map (λ v. Truth (g (truth_of v))) m) (option_map (λ v. Truth (g (truth_of v))) m')
    truths-ok g m m' a = agree-map {Q = Inside p} m m' (λ v. Truth (g (truth_of v))) (λ v. Truth (g (truth_of v))) a (λ v i. refl) (λ v i. tt)

    set-ok : (made made' : List ℕ → Option Value) → ((ns : List ℕ) → In p ns → Ok (made ns) (made' ns)) → (m m' : Option Value) → Ok m m' → Ok (m >>= λ v. made (nodes_of v)) (m' >>= λ v. made' (nodes_of v))
    set-ok made made' k m m' a = agree-then {Q = Inside p} m m' (λ v. made (nodes_of v)) (λ v. made' (nodes_of v)) a (λ v i. k (nodes_of v) i)

    numbers-ok : (made : List Decimal → Decimal) (ns : List ℕ) → In p ns → Ok (of_numbers s made ns) (of_numbers b made ns)
    numbers-ok made ns i = number-ok (strings_of s ns) (strings_of b ns) _ (strings-same ns i)

    name-same : (ns : List ℕ) → In p ns → first_name s.all ns ≡ first_name b.all ns
    name-same [] i = refl
    name-same (n ∷ ns) i = ap (option_and_then (λ (x : Visit). name_in x.content)) (found-kept p n b.all i.0)

    names-ok : (part : Option node_name.Name → List ℕ) (ns : List ℕ) → In p ns → Ok (text_value s (part (first_name s.all ns))) (text_value b (part (first_name b.all ns)))
    names-ok part ns i = text-ok _ _ (ap (λ name. capped b.most (part name)) (name-same ns i))

    id-same : (ms : List Known) → instance_id (meanings ms) s c ≡ instance_id (meanings ms) b c
    id-same [] = refl
    id-same (m ∷ ms) = made-same (m.0 s c) (m.0 b c) (string_of s) (string_of b) (at m) string-same

    document-ok : (id : List ℕ) → (set_of (document_of b.model id documents) ≡ set_of (document_of b.model id b.given.documents)) × Inside p (set_of (document_of b.model id b.given.documents))
    document-ok id = (ap set_of (h.documents_too id), by (document_of b.model id b.given.documents) refl)
      where
        by : (m : Option ℕ) → document_of b.model id b.given.documents ≡ m → Inside p (set_of m)
        by None e = tt
        by (Some n) e = (h.inside id n e, tt)

    pub called-ok : (g : Function) (code : ℕ) (ms : List Known) → Ok (called g code (meanings ms) s c) (called g code (meanings ms) b c)
    called-ok of.asking code ms = plain-ok _ _ (ap (λ o. o >>= b.functions code) (plains-ok ms))
    called-ok of.plainly code ms = plain-ok _ _ (ap (λ o. o >>= b.functions code) (plains-ok ms))
    called-ok of.owning code ms = plain-ok _ _ (ap (λ o. o >>= λ x. b.functions code (x ∷ [])) (made-same (own_argument (meanings ms) s c) (own_argument (meanings ms) b c) (plain_of s) (plain_of b) (own-ok ms) plain-same))
    called-ok of.boolean code ms = truths-ok (λ t. t) _ _ (argument-ok 0 ms)
    called-ok of.not code ms = truths-ok std.not _ _ (argument-ok 0 ms)
    called-ok (of.truth t) code ms = record { same = refl; told = tt }
    called-ok of.choosing code ms = branched-ok ms
    called-ok of.branching code ms = text-ok _ _ (made-same (branched (meanings ms) s c) (branched (meanings ms) b c) (string_of s) (string_of b) (branched-ok ms) string-same)
    called-ok of.counting code ms = set-ok (λ ns. Some (count_of s ns)) (λ ns. Some (count_of b ns)) (λ ns i. record { same = refl; told = tt }) _ _ (argument-ok 0 ms)
    called-ok of.counting_filled code ms = set-ok (filled_count s) (filled_count b) (λ ns i. number-ok (strings_of s ns) (strings_of b ns) _ (strings-same ns i)) _ _ (argument-ok 0 ms)
    called-ok of.adding code ms = set-ok (of_numbers s total) (of_numbers b total) (numbers-ok total) _ _ (argument-ok 0 ms)
    called-ok of.averaging code ms = set-ok (of_numbers s (average b.given.decimals)) (of_numbers b (average b.given.decimals)) (numbers-ok (average b.given.decimals)) _ _ (argument-ok 0 ms)
    called-ok of.greatest code ms = set-ok (of_numbers s (extreme greater)) (of_numbers b (extreme greater)) (numbers-ok (extreme greater)) _ _ (argument-ok 0 ms)
    called-ok of.least code ms = set-ok (of_numbers s (extreme lesser)) (of_numbers b (extreme lesser)) (numbers-ok (extreme lesser)) _ _ (argument-ok 0 ms)
    called-ok of.local_name code ms = set-ok (λ ns. text_value s (local_part (first_name s.all ns))) (λ ns. text_value b (local_part (first_name b.all ns))) (names-ok local_part) _ _ (own-ok ms)
    called-ok of.name code ms = set-ok (λ ns. text_value s (written_in (first_name s.all ns))) (λ ns. text_value b (written_in (first_name b.all ns))) (names-ok written_in) _ _ (own-ok ms)
    called-ok of.namespace code ms = set-ok (λ ns. text_value s (namespace_of b.given.bindings (first_name s.all ns))) (λ ns. text_value b (namespace_of b.given.bindings (first_name b.all ns))) (names-ok (namespace_of b.given.bindings)) _ _ (own-ok ms)
    called-ok of.number code ms = number-ok _ _ (λ k. k) (made-same (own_argument (meanings ms) s c) (own_argument (meanings ms) b c) (number_of s) (number_of b) (own-ok ms) number-same)
    called-ok of.string code ms = text-ok _ _ (made-same (own_argument (meanings ms) s c) (own_argument (meanings ms) b c) (string_of s) (string_of b) (own-ok ms) string-same)
    called-ok of.current code ms = record { same = refl; told = (h.current, tt) }
    called-ok of.event code ms =
        agree-map {P = λ _. ⊤} {Q = Inside p} (argument 0 (meanings ms) s c >>= string_of s) (argument 0 (meanings ms) b c >>= string_of b)
        (λ name. unwrap_or (property_of name b.given.event) (Nodes [])) (λ name. unwrap_or (property_of name b.given.event) (Nodes []))
        (agree-any _ _ (made-same (argument 0 (meanings ms) s c) (argument 0 (meanings ms) b c) (string_of s) (string_of b) (argument-ok 0 ms) string-same) (λ name. tt))
        (λ name i. refl) (λ name i. quiet b.given.event h.quiet name)
      where
        quiet : (e : Option (List (List ℕ × Value))) → e ≡ None → (name : List ℕ) → Inside p (unwrap_or (property_of name e) (Nodes []))
        quiet None k name = tt
        quiet (Some properties) k name = cc k
    called-ok of.index code ms = number-ok _ _ _ (made-same (argument 0 (meanings ms) s c) (argument 0 (meanings ms) b c) (string_of s) (string_of b) (argument-ok 0 ms) string-same)
    called-ok of.instance code ms =
        agree-map {P = λ _. ⊤} {Q = Inside p} (instance_id (meanings ms) s c) (instance_id (meanings ms) b c) (λ id. set_of (document_of b.model id documents)) (λ id. set_of (document_of b.model id b.given.documents))
        (agree-any _ _ (id-same ms) (λ id. tt)) (λ id i. (document-ok id).0) (λ id i. (document-ok id).1)
    called-ok of.last code ms = record { same = refl; told = tt }
    called-ok of.position code ms = record { same = refl; told = tt }

    pub begun-ok : (start : Start) → (begun start s c ≡ begun start b c) × In p (begun start b c)
    begun-ok Root = (ap (λ n. n ∷ []) (top-same p b.all h.trees c.node here), (top-in p b.all h.trees c.node here, tt))
    begun-ok Context = (refl, (here, tt))

  -- ---- steps

  first-in : (n : ℕ) (t : Bool) (rest : List ℕ) → p n ≡ true → In p rest → In p (with_first n t rest)
  first-in n true rest i j = (i, j)
  first-in n false rest i j = j

  kept-from : (m : Known) (size position : ℕ) (ns : List ℕ) → In p ns → Agree (In p) (kept_from s m.0 size position ns) (kept_from b m.0 size position ns)
  kept-from m size position [] i = record { same = refl; told = tt }
  kept-from m size position (n ∷ ns) i =
      let c : Focus = record { node = n; position = position; size = size } in
      agree-then {Q = In p} (m.0 s c) (m.0 b c)
      (λ v. kept_from s m.0 size (suc position) ns >>= λ rest. Some (with_first n (is_true_at b.given.decimals position v) rest))
      (λ v. kept_from b m.0 size (suc position) ns >>= λ rest. Some (with_first n (is_true_at b.given.decimals position v) rest))
      (m.1 b strings documents h c i.0)
      (λ v j. agree-then {Q = In p} (kept_from s m.0 size (suc position) ns) (kept_from b m.0 size (suc position) ns)
      (λ rest. Some (with_first n (is_true_at b.given.decimals position v) rest)) (λ rest. Some (with_first n (is_true_at b.given.decimals position v) rest))
      (kept-from m size (suc position) ns i.1) (λ rest k. record { same = refl; told = first-in n (is_true_at b.given.decimals position v) rest i.0 k }))

  pub kept-all : (ms : List Known) (ns : List ℕ) → In p ns → Agree (In p) (kept_by_all s (meanings ms) ns) (kept_by_all b (meanings ms) ns)
  kept-all [] ns i = record { same = refl; told = i }
  kept-all (m ∷ ms) ns i =
      agree-then {Q = In p} (kept_from s m.0 (std.length ns) 1 ns) (kept_from b m.0 (std.length ns) 1 ns) (kept_by_all s (meanings ms)) (kept_by_all b (meanings ms))
      (kept-from m (std.length ns) 1 ns i) (λ left j. kept-all ms left j)

  abbrev Level : Type 0
  Level = Step-F Known KnownLink KnownWalk

  one-ok : (y : Level) (n : ℕ) → p n ≡ true → Agree (In p) (from_one y.axis y.test (meanings y.predicates) s n) (from_one y.axis y.test (meanings y.predicates) b n)
  one-ok y n i =
      let a = kept-all y.predicates (reached y.axis y.test b.all n) (reached-in p b.all h.trees y.axis y.test n i) in
      record { same = ap (kept_by_all s (meanings y.predicates)) (reached-same p b.all h.trees y.axis y.test n i) ∙ a.same; told = a.told }

  joined-in : (sets : List (List ℕ)) → Each (In p) sets → In p (joined sets)
  joined-in [] e = tt
  joined-in (ns ∷ sets) e = in-append p ns (joined sets) e.0 (joined-in sets e.1)

  pub step-ok : (y : Level) (ns : List ℕ) → In p ns →
      Agree (In p) (option_map (λ sets. in_order s.all (joined sets)) (each (from_one y.axis y.test (meanings y.predicates) s) (begun_at y.is_below s.all ns)))
      (option_map (λ sets. in_order b.all (joined sets)) (each (from_one y.axis y.test (meanings y.predicates) b) (begun_at y.is_below b.all ns)))
  step-ok y ns i =
      let from = begun-in p b.all h.trees y.is_below ns i in
      let a = agree-map {P = Each (In p)} {Q = In p} (each (from_one y.axis y.test (meanings y.predicates) s) (begun_at y.is_below b.all ns)) (each (from_one y.axis y.test (meanings y.predicates) b) (begun_at y.is_below b.all ns))
      (λ sets. in_order s.all (joined sets)) (λ sets. in_order b.all (joined sets))
      (agree-each (from_one y.axis y.test (meanings y.predicates) s) (from_one y.axis y.test (meanings y.predicates) b) (begun_at y.is_below b.all ns) from (λ n j. one-ok y n j))
      (λ sets j. ordered-same p b.all (joined sets) (joined-in sets j)) (λ sets j. ordered-in p b.all (joined sets) (joined-in sets j)) in
      record {
        same = ap (λ ms. option_map (λ sets. in_order s.all (joined sets)) (each (from_one y.axis y.test (meanings y.predicates) s) ms)) (begun-same p b.all h.trees y.is_below ns i) ∙ a.same;
        told = a.told;
      }

  pub walked-ok : (ws : List KnownWalk) (ns : List ℕ) → In p ns → Agree (In p) (walked s (map (λ (w : KnownWalk). w.0) ws) ns) (walked b (map (λ (w : KnownWalk). w.0) ws) ns)
  walked-ok [] ns i = record { same = refl; told = i }
  walked-ok (w ∷ ws) ns i =
      agree-then {Q = In p} (w.0 s ns) (w.0 b ns) (walked s (map (λ (v : KnownWalk). v.0) ws)) (walked b (map (λ (v : KnownWalk). v.0) ws)) (w.1 b strings documents h ns i) (λ ms j. walked-ok ws ms j)

  sets-ok : (m m' : Option (List ℕ)) → Agree (In p) m m' → Ok (option_map Nodes m) (option_map Nodes m')
  sets-ok m m' a = agree-map {Q = Inside p} m m' Nodes Nodes a (λ ns i. refl) (λ ns i. i)

  -- what is made of the nodes of a value
  nodes-then : (k k' : List ℕ → Option (List ℕ)) → ((ns : List ℕ) → In p ns → Agree (In p) (k ns) (k' ns)) → (m m' : Option Value) → Ok m m' →
      Ok (option_map Nodes (m >>= λ v. k (nodes_of v))) (option_map Nodes (m' >>= λ v. k' (nodes_of v)))
  nodes-then k k' j m m' a = sets-ok _ _ (agree-then {Q = In p} m m' (λ v. k (nodes_of v)) (λ v. k' (nodes_of v)) a (λ v i. j (nodes_of v) i))

-- ---- each level

module _ (p : ℕ → Bool) where
  abbrev pub SuchMeaning : Type 0
  SuchMeaning = (m : Meaning) × Keeps p m

  abbrev pub SuchLink : Type 0
  SuchLink = (l : LinkMeaning) × Keeps p l.right

  abbrev pub SuchWalk : Type 0
  SuchWalk = (w : Walk) × WalkKeeps p w

  pub level-keeps : (y : Expr-F SuchMeaning SuchLink SuchWalk) → Keeps p (expr_meaning (map-Expr SuchMeaning SuchLink SuchWalk Meaning LinkMeaning Walk (λ e. e.0) (λ e. e.0) (λ e. e.0) y))
  level-keeps (Expr-F.Number place k) = λ b strings documents h c i. record { same = refl; told = tt }
  level-keeps (Expr-F.Literal place text) = λ b strings documents h c i. text-ok p b strings documents h c i (capped b.most text) (capped b.most text) refl
  level-keeps (Expr-F.Call place code ms) = λ b strings documents h c i. called-ok p b strings documents h c i (function_at code) code ms
  level-keeps (Expr-F.Negated place signs m) = λ b strings documents h c i.
      number-ok p b strings documents h c i (m.0 (over_part p b strings documents) c >>= number_of (over_part p b strings documents)) (m.0 b c >>= number_of b) (signed signs)
      (made-same p b strings documents h c i (m.0 (over_part p b strings documents) c) (m.0 b c) (number_of (over_part p b strings documents)) (number_of b) (m.1 b strings documents h c i) (number-same p b strings documents h))
  level-keeps (Expr-F.Chain first links) = λ b strings documents h c i.
      agree-then {Q = Inside p} (first.0 (over_part p b strings documents) c) (first.0 b c) (λ v. chained (map (λ (l : SuchLink). l.0) links) v (over_part p b strings documents) c) (λ v. chained (map (λ (l : SuchLink). l.0) links) v b c)
      (first.1 b strings documents h c i) (λ v j. chained-ok p b strings documents h c i links v j)
  level-keeps (Expr-F.Filter first ms) = λ b strings documents h c i.
      nodes-then p b strings documents h (kept_by_all (over_part p b strings documents) (map (λ (m : SuchMeaning). m.0) ms)) (kept_by_all b (map (λ (m : SuchMeaning). m.0) ms)) (kept-all p b strings documents h ms)
      (first.0 (over_part p b strings documents) c) (first.0 b c) (first.1 b strings documents h c i)
  level-keeps (Expr-F.Path place start ws) = λ b strings documents h c i.
      let at = begun-ok p b strings documents h c i start in
      let a = walked-ok p b strings documents h ws (begun start b c) at.1 in
      sets-ok p b strings documents h _ _ (record { same = ap (walked (over_part p b strings documents) (map (λ (w : SuchWalk). w.0) ws)) at.0 ∙ a.same; told = a.told })
  level-keeps (Expr-F.From first ws) = λ b strings documents h c i.
      nodes-then p b strings documents h (walked (over_part p b strings documents) (map (λ (w : SuchWalk). w.0) ws)) (walked b (map (λ (w : SuchWalk). w.0) ws)) (walked-ok p b strings documents h ws)
      (first.0 (over_part p b strings documents) c) (first.0 b c) (first.1 b strings documents h c i)
