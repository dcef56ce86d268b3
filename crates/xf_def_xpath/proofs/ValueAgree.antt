-- Values over two forests that agree on what is read and looked at: conversions, comparisons, operators.
use Rattle.std.proofs.Common.{◌≡◌, ℕ, ◌==◌, Bool, true, false, not, cond, List, [], ◌∷◌, ◌++◌, map, Option, Some, option_map, unwrap_or, refl, sym, ap, ◌∙◌, inl, inr}
use Rattle.std.specs.Prelude.{⊤, option_and_then}
use Rattle.std.specs.List.{flat_map}
use Rattle.xf_def_syntax.specs.declared.expr.Operator.{Operator}
use Rattle.xf_def_forest.specs.Forest.{name_in, is_text}
use Rattle.xf_def_forest.specs.Visit.{Visit, has, first_of}
use Rattle.xf_def_xpath.specs.declared.value.Value.{Value}
use Rattle.xf_def_xpath.specs.declared.value.Value.TheVariants.{Nodes, Text, Number, Truth}
use Rattle.xf_def_values.specs.declared.plain.Plain.{Plain}
use Rattle.xf_def_values.specs.Conversions.{Decimal, text_in}
use Rattle.xf_def_values.specs.declared.plain.Plain.TheVariants as plain
use Rattle.xf_def_xpath.specs.Setting.{Setting, ◌>>=◌, capped, in_order}
use Rattle.xf_def_xpath.specs.Conversions.{nodes_of, string_of_node, strings_of, first_string, plain_of, number_of, string_of}
use Rattle.xf_def_xpath.specs.Comparisons.{plains_of, some_pair, holds, pairs_hold, compared}
use Rattle.xf_def_xpath.specs.Operators.{computed, united}
use Rattle.xf_def_xpath.specs.Functions.{first_name}
use Rattle.xf_def_xpath.specs.Asked.{Asked, reader_of, read_for, both, with_read, all_read, first_node, asked_first, converted}
use Rattle.xf_def_xpath.specs.AskedCalls.{beside, asked_by_both, computed as asked_computed, either}
use Rattle.xf_def_xpath.specs.Agree.{AgreeOnStrings, untexted}
use Rattle.xf_def_xpath.proofs.VisitFacts.{self-same, or-left, or-right, or-cases, no, present, found-number}
use Rattle.xf_def_xpath.proofs.SameKept.{has-left, has-right, has-append}
use Rattle.xf_def_xpath.proofs.UntextedLaws.{solid-found}
use Rattle.xf_def_xpath.proofs.Comparison.{Comparison, other, over_shape, Solid, AllSolid, Agree, Within, agree-less, first-order, second-order, order-solid}
use Rattle.xf_def_xpath.proofs.BelowAgree.{flat-within}
use Rattle.xf_def_xpath.proofs.Gives.{Gives, both as gives, gives-map, gives-then, gives-equal, gives-at}

-- ---- what a part needs, and what it gives

abbrev pub IsTruth : Value → Type 0
IsTruth v = (b : Bool) × (v ≡ Truth b)

module _ (w : Comparison) where
  abbrev pub ReadOn : List ℕ → Type 0
  ReadOn reads = AgreeOnStrings reads w.shape w.setting.strings w.strings

  pub read-less : (ns ms : List ℕ) → Within ns ms → ReadOn ms → ReadOn ns
  read-less ns ms h r n i k = r n i (h n k)

pub record Premise (w : Comparison) (a : Asked) : Type 0 where
  pub lists : Agree w a.looks
  pub strings : ReadOn w a.reads

pub less : (w : Comparison) (a b : Asked) → Within a.reads b.reads → Within a.looks b.looks → Premise w b → Premise w a
less w a b r l p = record { lists = agree-less w l p.lists; strings = read-less w a.reads b.reads r p.strings }

-- the value has the nodes asked, and is a truth where it is one by its syntax
abbrev pub Fits : Comparison → Asked → Value → Type 0
Fits w a v = (nodes_of v ≡ a.set) × (a.is_truth ≡ true → IsTruth v) × AllSolid w a.set

pub record Agreed (w : Comparison) (a : Asked) (m m' : Option Value) : Type 0 where
  pub tight : a.is_loose ≡ false
  pub given : Gives (Fits w a) m m'

pub none-solid : (w : Comparison) → AllSolid w []
none-solid w k h = no h

-- ---- parts of what is asked

pub left-both : (w : Comparison) (a b : Asked) → Premise w (both a b) → Premise w a
left-both w a b p = less w a (both a b) (λ n h. has-left n a.reads b.reads h) (λ n h. has-left n a.looks b.looks h) p

pub right-both : (w : Comparison) (a b : Asked) → Premise w (both a b) → Premise w b
right-both w a b p = less w b (both a b) (λ n h. has-right n a.reads b.reads h) (λ n h. has-right n a.looks b.looks h) p

module _ (w : Comparison) where
  abbrev s : Setting
  s = w.setting

  abbrev t : Setting
  t = other w

  abbrev u : Setting
  u = over_shape w

  abbrev pub StringsOn : List ℕ → Type 0
  StringsOn ns = (n : ℕ) → has n ns ≡ true → w.setting.strings n ≡ w.strings n

  pub in-converted : (a : Asked) → Premise w (converted u a) → Premise w a
  in-converted a p = less w a (converted u a) (λ n h. has-left n a.reads _ h) (λ n h. has-left n a.looks _ h) p

  pub in-all_read : (a : Asked) → Premise w (all_read u a) → Premise w a
  in-all_read a p = less w a (all_read u a) (λ n h. has-left n a.reads _ h) (λ n h. has-left n a.looks _ h) p

  -- a node that is no text is read itself
  own-read : (n : ℕ) → Solid w n → has n (read_for w.shape n) ≡ true
  own-read n x =
      let whole = solid-found w.shape w.shape_visits n x.visit x.in_shape in
      ap (λ m. has n (reader_of m)) whole.0 ∙ by (is_text x.visit.content) whole.1
    where
      by : (b : Bool) → not b ≡ true → has n (cond b (unwrap_or (first_of x.visit.above) x.visit.number) x.visit.number ∷ []) ≡ true
      by true i = no i
      by false i = or-left (n == x.visit.number) false (ap (λ m. n == m) (found-number n (untexted w.shape) x.visit x.in_shape) ∙ self-same n)

  read-strings : (a : Asked) (ns : List ℕ) → AllSolid w ns → Premise w (with_read w.shape ns a) → StringsOn ns
  read-strings a ns solid p n h =
      let x : Solid w n = solid n h in
      p.strings n (present n w.shape x.visit (solid-found w.shape w.shape_visits n x.visit x.in_shape).0)
      (has-right n a.reads (flat_map (read_for w.shape) ns) (flat-within (read_for w.shape) n ns h n (own-read n x)))

  first-part : (b : Bool) (ns : List ℕ) → AllSolid w ns → AllSolid w (asked_first b ns)
  first-part true ns h = h
  first-part false [] h = none-solid w
  first-part false (n ∷ ns) h = λ k i. elim (or-cases (k == n) false i) [ inl a ↦ h k (or-left (k == n) (has k ns) a) | inr b ↦ no b ]

  pub strings-first : (a : Asked) → a.is_loose ≡ false → AllSolid w a.set → Premise w (converted u a) → StringsOn (first_node a.set)
  strings-first a e solid p n h = read-strings a (asked_first a.is_loose a.set) (first-part a.is_loose a.set solid) p n (ap (λ b. has n (asked_first b a.set)) e ∙ h)

  pub strings-all : (a : Asked) → AllSolid w a.set → Premise w (all_read u a) → StringsOn a.set
  strings-all a solid p = read-strings a a.set solid p

  -- ---- conversions

  string-same : (n : ℕ) → w.setting.strings n ≡ w.strings n → string_of_node t n ≡ string_of_node s n
  string-same n h = ap (capped s.most) (sym h)

  pub strings-same : (ns : List ℕ) → StringsOn ns → strings_of t ns ≡ strings_of s ns
  strings-same [] h = refl
  strings-same (n ∷ ns) h =
      ap (λ m. m >>= λ y. strings_of t ns >>= λ ys. Some (y ∷ ys)) (string-same n (h n (or-left (n == n) (has n ns) (self-same n))))
      ∙ ap (λ m. string_of_node s n >>= λ y. m >>= λ ys. Some (y ∷ ys)) (strings-same ns (λ k i. h k (or-right (k == n) (has k ns) i)))

  first-same : (ns : List ℕ) → StringsOn (first_node ns) → first_string t ns ≡ first_string s ns
  first-same [] h = refl
  first-same (n ∷ ns) h = string-same n (h n (or-left (n == n) false (self-same n)))

  pub plain-same : (v : Value) → StringsOn (first_node (nodes_of v)) → plain_of t v ≡ plain_of s v
  plain-same (Nodes ns) h = ap (option_map plain.Text) (first-same ns h)
  plain-same (Text text) h = refl
  plain-same (Number k) h = refl
  plain-same (Truth b) h = refl

  pub number-same : (v : Value) → StringsOn (first_node (nodes_of v)) → number_of t v ≡ number_of s v
  number-same v h = ap (option_map _) (plain-same v h)

  pub string-of_same : (v : Value) → StringsOn (first_node (nodes_of v)) → string_of t v ≡ string_of s v
  string-of_same v h = ap (λ m. m >>= λ p. capped s.most (text_in s.given.decimals p)) (plain-same v h)

  -- what is made of a value by its first node
  abbrev Anything : {A : Type 0} → A → Type 0
  Anything a = ⊤

  pub made : {A : Type 0} (k k' : Value → Option A) → ((v : Value) → StringsOn (first_node (nodes_of v)) → k' v ≡ k v) →
      (a : Asked) (m m' : Option Value) → Agreed w a m m' → Premise w (converted u a) → Gives (λ (x : A). ⊤) (m >>= k) (m' >>= k')
  made k k' same a m m' h p =
      gives-then k k' h.given (λ v f. gives-equal (k v) (k' v) (same v (λ n i. strings-first a h.tight f.2 p n (ap (λ ns. has n (first_node ns)) (sym f.0) ∙ i))))

  -- ---- comparisons

  plains-same : (v : Value) → StringsOn (nodes_of v) → plains_of t v ≡ plains_of s v
  plains-same (Nodes ns) h = ap (option_map (map plain.Text)) (strings-same ns h)
  plains-same (Text text) h = refl
  plains-same (Number k) h = refl
  plains-same (Truth b) h = refl

  pairs-same : (o : Operator) (a b : Value) → StringsOn (nodes_of a) → StringsOn (nodes_of b) → pairs_hold t o a b ≡ pairs_hold s o a b
  pairs-same o a b h k =
      ap (λ m. m >>= λ ls. plains_of t b >>= λ rs. Some (some_pair (holds s.given.decimals o) ls rs)) (plains-same a h)
      ∙ ap (λ m. plains_of s a >>= λ ls. m >>= λ rs. Some (some_pair (holds s.given.decimals o) ls rs)) (plains-same b k)

  no-truth : {A : Type 0} (ns : List ℕ) → IsTruth (Nodes ns) → A
  no-truth ns h = cc (h.1)

  no-text : {A : Type 0} (cs : List ℕ) → IsTruth (Text cs) → A
  no-text cs h = cc (h.1)

  no-number : {A : Type 0} (k : Decimal) → IsTruth (Number k) → A
  no-number k h = cc (h.1)

  -- strings of a side count unless the other side is a truth
  asked-unless : (b : Bool) (ns : List ℕ) (x : Value) → (b ≡ false → StringsOn ns) → (b ≡ true → IsTruth x) → (IsTruth x → StringsOn ns) → StringsOn ns
  asked-unless true ns x h k j = j (k refl)
  asked-unless false ns x h k j = h refl

  none-on : StringsOn []
  none-on n h = no h

  pub compared-same : (o : Operator) (a b : Value) (is_truth is_truth_too : Bool) →
      (is_truth_too ≡ false → StringsOn (nodes_of a)) → (is_truth ≡ false → StringsOn (nodes_of b)) → (is_truth ≡ true → IsTruth a) → (is_truth_too ≡ true → IsTruth b) → compared t o a b ≡ compared s o a b
  compared-same o (Nodes ns) (Nodes ms) x y h k i j = pairs-same o (Nodes ns) (Nodes ms) (asked-unless y ns (Nodes ms) h j (no-truth ms)) (asked-unless x ms (Nodes ns) k i (no-truth ns))
  compared-same o (Nodes ns) (Text b) x y h k i j = pairs-same o (Nodes ns) (Text b) (asked-unless y ns (Text b) h j (no-text b)) none-on
  compared-same o (Nodes ns) (Number b) x y h k i j = pairs-same o (Nodes ns) (Number b) (asked-unless y ns (Number b) h j (no-number b)) none-on
  compared-same o (Nodes ns) (Truth b) x y h k i j = refl
  compared-same o (Text a) (Nodes ms) x y h k i j = pairs-same o (Text a) (Nodes ms) none-on (asked-unless x ms (Text a) k i (no-text a))
  compared-same o (Text a) (Text b) x y h k i j = refl
  compared-same o (Text a) (Number b) x y h k i j = refl
  compared-same o (Text a) (Truth b) x y h k i j = refl
  compared-same o (Number a) (Nodes ms) x y h k i j = pairs-same o (Number a) (Nodes ms) none-on (asked-unless x ms (Number a) k i (no-number a))
  compared-same o (Number a) (Text b) x y h k i j = refl
  compared-same o (Number a) (Number b) x y h k i j = refl
  compared-same o (Number a) (Truth b) x y h k i j = refl
  compared-same o (Truth a) (Nodes ms) x y h k i j = refl
  compared-same o (Truth a) (Text b) x y h k i j = refl
  compared-same o (Truth a) (Number b) x y h k i j = refl
  compared-same o (Truth a) (Truth b) x y h k i j = refl

  -- ---- what is asked beside a truth

  pub in-beside : (b : Bool) (a : Asked) → Premise w (beside u b a) → Premise w a
  in-beside true a p = p
  in-beside false a p = in-all_read a p

  strings-beside : (b : Bool) (a : Asked) → AllSolid w a.set → Premise w (beside u b a) → b ≡ false → StringsOn a.set
  strings-beside true a solid p e = no (sym e)
  strings-beside false a solid p e = strings-all a solid p

  -- ---- operators on two values

  module _ (a b : Asked) (v : Value) (fits : Fits w a v) (tight : a.is_loose ≡ false) where
    -- what the right side gives, and then the operator
    abbrev Right : Option Value → Option Value → Type 0
    Right m m' = Agreed w b m m'

    pub judged : (o : Operator) (x : Value) → Fits w b x → Premise w (asked_by_both u a b) → Gives (Fits w (asked_by_both u a b)) (option_map Truth (compared s o v x)) (option_map Truth (compared t o v x))
    judged o x fits_too p =
        let sides : Premise w (both (beside u b.is_truth a) (beside u a.is_truth b)) = record { lists = p.lists; strings = p.strings } in
        let same : compared t o v x ≡ compared s o v x = compared-same o v x a.is_truth b.is_truth
        (λ e n h. strings-beside b.is_truth a fits.2 (left-both w (beside u b.is_truth a) (beside u a.is_truth b) sides) e n (ap (has n) (sym fits.0) ∙ h))
        (λ e n h. strings-beside a.is_truth b fits_too.2 (right-both w (beside u b.is_truth a) (beside u a.is_truth b) sides) e n (ap (has n) (sym fits_too.0) ∙ h))
        fits.1 fits_too.1 in
        gives-map Truth (gives-equal (compared s o v x) (compared t o v x) same) (λ c e. (refl, λ i. (c, refl), none-solid w))

    pub calculated : (operation : Decimal → Decimal → Decimal) (x : Value) → Fits w b x → b.is_loose ≡ false → Premise w (asked_computed u a b) → Gives (Fits w (asked_computed u a b)) (computed s operation v x) (computed t operation v x)
    calculated operation x fits_too tight_too p =
        gives-then (λ j. number_of s x >>= λ k. Some (Number (operation j k))) (λ j. number_of t x >>= λ k. Some (Number (operation j k)))
        (gives-equal (number_of s v) (number_of t v) (number-same v (λ n h. strings-first a tight fits.2 (left-both w (converted u a) (converted u b) p) n (ap (λ ns. has n (first_node ns)) (sym fits.0) ∙ h)))) (λ j e.
        gives-then (λ k. Some (Number (operation j k))) (λ k. Some (Number (operation j k)))
        (gives-equal (number_of s x) (number_of t x) (number-same x (λ n h. strings-first b tight_too fits_too.2 (right-both w (converted u a) (converted u b) p) n (ap (λ ns. has n (first_node ns)) (sym fits_too.0) ∙ h)))) (λ k i.
        gives (refl, λ j. no j, none-solid w)))

    joined-solid : AllSolid w b.set → AllSolid w (a.set ++ b.set)
    joined-solid solid_too k h = elim (has-append k a.set b.set h) [ inl l ↦ fits.2 k l | inr r ↦ solid_too k r ]

    pub unites : (x : Value) → Fits w b x → Gives (Fits w (either u a b)) (Some (united s v x)) (Some (united t v x))
    unites x fits_too =
        let sets : nodes_of v ++ nodes_of x ≡ a.set ++ b.set = ap (λ l. l ++ nodes_of x) fits.0 ∙ ap (λ l. a.set ++ l) fits_too.0 in
        gives-at
        (ap (λ ns. Some (Nodes (in_order s.all ns))) sets ∙ ap (λ ns. Some (Nodes ns)) (first-order w (a.set ++ b.set) (joined-solid fits_too.2)))
        (ap (λ ns. Some (Nodes (in_order t.all ns))) sets ∙ ap (λ ns. Some (Nodes ns)) (second-order w (a.set ++ b.set) (joined-solid fits_too.2)))
        (gives {a = Nodes (in_order w.shape (a.set ++ b.set))} (refl, λ i. no i, order-solid w (a.set ++ b.set) (joined-solid fits_too.2)))

  -- ---- names

  pub name-same : (ns : List ℕ) → AllSolid w ns → first_name t.all ns ≡ first_name s.all ns
  name-same [] h = refl
  name-same (n ∷ ns) h =
      let x : Solid w n = h n (or-left (n == n) (has n ns) (self-same n)) in
      ap (option_and_then (λ (y : Visit). name_in y.content)) ((solid-found w.others w.other_visits n x.visit x.in_second).0 ∙ sym (solid-found w.setting.all w.visits n x.visit x.in_first).0)
