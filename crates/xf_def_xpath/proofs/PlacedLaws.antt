-- Expressions whose value depends on position and size alone, as the predicates of computed expressions.
use Rattle.std.proofs.Common.{◌≡◌, ℕ, zero, suc, Bool, true, false, List, [], ◌∷◌, map, Option, Some, option_map, refl, sym, ap, ◌∙◌}
use Rattle.xf_num.specs.Number.{sum, difference, product, quotient, remainder}
use Rattle.xf_def_syntax.specs.declared.expr.Operator.{Operator}
use Rattle.xf_def_syntax.specs.declared.expr.Operator.TheVariants.{Or, And, Equal, NotEqual, Less, LessOrEqual, Greater, GreaterOrEqual, Add, Subtract, Multiply, Divide, Modulo, Union}
use Rattle.xf_def_xpath.specs.declared.value.Value.{Value}
use Rattle.xf_def_xpath.specs.declared.value.Value.TheVariants.{Nodes, Text, Number, Truth}
use Rattle.xf_def_values.specs.declared.plain.Plain.{Plain}
use Rattle.xf_def_values.specs.Conversions.{Decimal, whole, number_in, text_in}
use Rattle.xf_def_values.specs.declared.plain.Plain.TheVariants as plain
use Rattle.xf_def_xpath.specs.Setting.{Setting, Focus, Meaning, LinkMeaning, ◌>>=◌, capped}
use Rattle.xf_def_xpath.specs.Conversions.{nodes_of, truth_of, is_filled, number_of, string_of, plain_of, value_of_plain}
use Rattle.xf_def_xpath.specs.Comparisons.{plains_of, some_pair, holds, pairs_hold, compared}
use Rattle.xf_def_xpath.specs.Operators.{truly, or_else, and_then, computed, combined, linked, chained}
use Rattle.xf_def_xpath.specs.Functions.{argument, plain_arguments, branch, branched}
use Rattle.xf_def_xpath.specs.Exact.{is_union}
use Rattle.xf_def_xpath.proofs.VisitFacts.{no}
use Rattle.xf_def_xpath.proofs.Comparison.{Comparison, other, over_shape}
use Rattle.xf_def_xpath.proofs.Gives.{Gives, both, gives-map, gives-then, gives-weaker, gives-same, gives-at, capped-gives}

-- ---- values without nodes

abbrev pub WithoutNodes : Value → Type 0
WithoutNodes v = nodes_of v ≡ []

abbrev plain_without : Value → Plain
plain_without (Nodes ns) = plain.Text []
plain_without (Text text) = plain.Text text
plain_without (Number k) = plain.Number k
plain_without (Truth b) = plain.Truth b

pub plain_of-without : (s : Setting) (v : Value) → WithoutNodes v → plain_of s v ≡ Some (plain_without v)
plain_of-without s (Nodes ns) h = ap (λ ms. plain_of s (Nodes ms)) h
plain_of-without s (Text text) h = refl
plain_of-without s (Number k) h = refl
plain_of-without s (Truth b) h = refl

number_of-without : (s : Setting) (v : Value) → WithoutNodes v → number_of s v ≡ Some (number_in s.given.decimals (plain_without v))
number_of-without s v h = ap (option_map (number_in s.given.decimals)) (plain_of-without s v h)

string_of-without : (s : Setting) (v : Value) → WithoutNodes v → string_of s v ≡ capped s.most (text_in s.given.decimals (plain_without v))
string_of-without s v h = ap (λ m. m >>= λ p. capped s.most (text_in s.given.decimals p)) (plain_of-without s v h)

pub plain-without : (p : Plain) → WithoutNodes (value_of_plain p)
plain-without (plain.Text text) = refl
plain-without (plain.Number k) = refl
plain-without (plain.Truth b) = refl

abbrev plains_without : Value → List Plain
plains_without (Nodes ns) = []
plains_without (Text text) = plain.Text text ∷ []
plains_without (Number k) = plain.Number k ∷ []
plains_without (Truth b) = plain.Truth b ∷ []

plains_of-without : (s : Setting) (v : Value) → WithoutNodes v → plains_of s v ≡ Some (plains_without v)
plains_of-without s (Nodes ns) h = ap (λ ms. plains_of s (Nodes ms)) h
plains_of-without s (Text text) h = refl
plains_of-without s (Number k) h = refl
plains_of-without s (Truth b) h = refl

abbrev verdict : ℕ → Operator → Value → Value → Bool
verdict d o (Nodes ns) (Truth b) = holds d o (plain.Truth (is_filled ns)) (plain.Truth b)
verdict d o (Truth a) (Nodes ns) = holds d o (plain.Truth a) (plain.Truth (is_filled ns))
verdict d o a b = some_pair (holds d o) (plains_without a) (plains_without b)

pairs-without : (s : Setting) (o : Operator) (a b : Value) → WithoutNodes a → WithoutNodes b → pairs_hold s o a b ≡ Some (some_pair (holds s.given.decimals o) (plains_without a) (plains_without b))
pairs-without s o a b h k =
    ap (λ m. m >>= λ ls. plains_of s b >>= λ rs. Some (some_pair (holds s.given.decimals o) ls rs)) (plains_of-without s a h)
    ∙ ap (λ m. m >>= λ rs. Some (some_pair (holds s.given.decimals o) (plains_without a) rs)) (plains_of-without s b k)

compared-without : (s : Setting) (o : Operator) (a b : Value) → WithoutNodes a → WithoutNodes b → compared s o a b ≡ Some (verdict s.given.decimals o a b)
compared-without s o (Nodes ns) (Nodes ms) h k = pairs-without s o (Nodes ns) (Nodes ms) h k
compared-without s o (Nodes ns) (Text b) h k = pairs-without s o (Nodes ns) (Text b) h k
compared-without s o (Nodes ns) (Number b) h k = pairs-without s o (Nodes ns) (Number b) h k
compared-without s o (Nodes ns) (Truth b) h k = refl
compared-without s o (Text a) (Nodes ms) h k = pairs-without s o (Text a) (Nodes ms) h k
compared-without s o (Text a) (Text b) h k = refl
compared-without s o (Text a) (Number b) h k = refl
compared-without s o (Text a) (Truth b) h k = refl
compared-without s o (Number a) (Nodes ms) h k = pairs-without s o (Number a) (Nodes ms) h k
compared-without s o (Number a) (Text b) h k = refl
compared-without s o (Number a) (Number b) h k = refl
compared-without s o (Number a) (Truth b) h k = refl
compared-without s o (Truth a) (Nodes ms) h k = refl
compared-without s o (Truth a) (Text b) h k = refl
compared-without s o (Truth a) (Number b) h k = refl
compared-without s o (Truth a) (Truth b) h k = refl

-- ---- placed meanings

abbrev pub at : ℕ → ℕ → ℕ → Focus
at n position size = record { node = n; position = position; size = size }

module _ (w : Comparison) where
  abbrev s : Setting
  s = w.setting

  abbrev t : Setting
  t = other w

  abbrev u : Setting
  u = over_shape w

  -- the value has no nodes, and is the value over the shape, too
  abbrev pub Settled : Option Value → Value → Type 0
  Settled m v = (m ≡ Some v) × WithoutNodes v

  abbrev pub Placed : Meaning → Type 0
  Placed m = (n n' n'' position size : ℕ) → Gives (Settled (m u (at n'' position size))) (m s (at n position size)) (m t (at n' position size))

  abbrev Known : Type 0
  Known = (m : Meaning) × Placed m

  abbrev meanings : List Known → List Meaning
  meanings ms = map (λ (m : Known). m.0) ms

  module _ (n n' n'' position size : ℕ) where
    abbrev c : Focus
    c = at n position size

    abbrev d : Focus
    d = at n' position size

    abbrev e : Focus
    e = at n'' position size

    -- the same in all settings
    everywhere : (x y z : Option Value) (v : Value) → x ≡ Some v → y ≡ Some v → z ≡ Some v → WithoutNodes v → Gives (Settled z) x y
    everywhere x y z v i j k h = gives-at i j (both (k, h))

    -- what is made of what is given
    pub mapped : {A : Type 0} (x y z : Option A) (f : A → Value) → Gives (λ a. z ≡ Some a) x y → ((a : A) → WithoutNodes (f a)) → Gives (Settled (option_map f z)) (option_map f x) (option_map f y)
    mapped x y z f h k = gives-map f h (λ a i. (ap (option_map f) i, k a))

    pub truths : (g : Bool → Bool) (x y z : Option Value) → Gives (Settled z) x y → Gives (Settled (option_map (λ v. Truth (g (truth_of v))) z)) (option_map (λ v. Truth (g (truth_of v))) x) (option_map (λ v. Truth (g (truth_of v))) y)
    truths g x y z h = mapped x y z (λ v. Truth (g (truth_of v))) (gives-weaker h (λ v p. p.0)) (λ v. refl)

    -- a string, over the shape without a limit
    pub strings : (x y z : Option Value) → Gives (Settled z) x y → Gives (λ text. (z >>= string_of u) ≡ Some text) (x >>= string_of s) (y >>= string_of t)
    strings x y z h = gives-then (string_of s) (string_of t) h (λ v p.
        gives-at (string_of-without s v p.1) (string_of-without t v p.1)
        (gives-weaker (capped-gives s.most (text_in s.given.decimals (plain_without v))) (λ text i. ap (λ m. m >>= string_of u) p.0 ∙ string_of-without u v p.1 ∙ ap Some (sym i))))

    pub numbers : (x y z : Option Value) → Gives (Settled z) x y → Gives (λ k. (z >>= number_of u) ≡ Some k) (x >>= number_of s) (y >>= number_of t)
    numbers x y z h = gives-then (number_of s) (number_of t) h (λ v p.
        gives-at (number_of-without s v p.1) (number_of-without t v p.1) (both (ap (λ m. m >>= number_of u) p.0 ∙ number_of-without u v p.1)))

    pub plains : (x y z : Option Value) → Gives (Settled z) x y → Gives (λ p. (z >>= plain_of u) ≡ Some p) (x >>= plain_of s) (y >>= plain_of t)
    plains x y z h = gives-then (plain_of s) (plain_of t) h (λ v p.
        gives-at (plain_of-without s v p.1) (plain_of-without t v p.1) (both (ap (λ m. m >>= plain_of u) p.0 ∙ plain_of-without u v p.1)))

    pub texts : (x y z : Option (List ℕ)) → Gives (λ a. z ≡ Some a) x y → Gives (Settled (option_map Text z)) (option_map Text x) (option_map Text y)
    texts x y z h = mapped x y z Text h (λ a. refl)

    -- ---- operators

    computed-placed : (operation : Decimal → Decimal → Decimal) (a b : Value) → WithoutNodes a → WithoutNodes b → (x : Setting) → x.given.decimals ≡ s.given.decimals →
        computed x operation a b ≡ Some (Number (operation (number_in s.given.decimals (plain_without a)) (number_in s.given.decimals (plain_without b))))
    computed-placed operation a b h k x i =
        ap (λ m. m >>= λ j. number_of x b >>= λ l. Some (Number (operation j l))) (number_of-without x a h)
        ∙ ap (λ m. m >>= λ l. Some (Number (operation (number_in x.given.decimals (plain_without a)) l))) (number_of-without x b k)
        ∙ ap (λ y. Some (Number (operation (number_in y (plain_without a)) (number_in y (plain_without b))))) i

    calculated : (operation : Decimal → Decimal → Decimal) (a b : Value) → WithoutNodes a → WithoutNodes b → Gives (Settled (computed u operation a b)) (computed s operation a b) (computed t operation a b)
    calculated operation a b h k = everywhere _ _ _ _ (computed-placed operation a b h k s refl) (computed-placed operation a b h k t refl) (computed-placed operation a b h k u refl) refl

    judged : (o : Operator) (a b : Value) → WithoutNodes a → WithoutNodes b → Gives (Settled (option_map Truth (compared u o a b))) (option_map Truth (compared s o a b)) (option_map Truth (compared t o a b))
    judged o a b h k = everywhere _ _ _ (Truth (verdict s.given.decimals o a b)) (ap (option_map Truth) (compared-without s o a b h k)) (ap (option_map Truth) (compared-without t o a b h k)) (ap (option_map Truth) (compared-without u o a b h k)) refl

    combined-placed : (o : Operator) → is_union o ≡ false → (a b : Value) → WithoutNodes a → WithoutNodes b → Gives (Settled (combined o u a b)) (combined o s a b) (combined o t a b)
    combined-placed Or i a b h k = judged Or a b h k
    combined-placed And i a b h k = judged And a b h k
    combined-placed Equal i a b h k = judged Equal a b h k
    combined-placed NotEqual i a b h k = judged NotEqual a b h k
    combined-placed Less i a b h k = judged Less a b h k
    combined-placed LessOrEqual i a b h k = judged LessOrEqual a b h k
    combined-placed Greater i a b h k = judged Greater a b h k
    combined-placed GreaterOrEqual i a b h k = judged GreaterOrEqual a b h k
    combined-placed Add i a b h k = calculated sum a b h k
    combined-placed Subtract i a b h k = calculated difference a b h k
    combined-placed Multiply i a b h k = calculated (product s.given.decimals) a b h k
    combined-placed Divide i a b h k = calculated (quotient s.given.decimals) a b h k
    combined-placed Modulo i a b h k = calculated remainder a b h k
    combined-placed Union i a b h k = no (sym i)

    strict : (o : Operator) → is_union o ≡ false → (a : Value) → WithoutNodes a → (m : Known) → Gives (Settled (m.0 u e >>= combined o u a)) (m.0 s c >>= combined o s a) (m.0 t d >>= combined o t a)
    strict o i a h m = gives-then (combined o s a) (combined o t a) (m.1 n n' n'' position size) (λ b p.
        gives-weaker (combined-placed o i a b h p.1) (λ v q. (ap (λ r. r >>= combined o u a) p.0 ∙ q.0, q.1)))

    truly-placed : (x y z : Option Value) → Gives (Settled z) x y → Gives (Settled (truly z)) (truly x) (truly y)
    truly-placed x y z h = truths (λ b. b) x y z h

    or-placed : (b : Bool) (x y z : Option Value) → Gives (Settled z) x y → Gives (Settled (or_else b z)) (or_else b x) (or_else b y)
    or-placed true x y z h = both (refl, refl)
    or-placed false x y z h = truly-placed x y z h

    and-placed : (b : Bool) (x y z : Option Value) → Gives (Settled z) x y → Gives (Settled (and_then b z)) (and_then b x) (and_then b y)
    and-placed true x y z h = truly-placed x y z h
    and-placed false x y z h = both (refl, refl)

    linked-placed : (o : Operator) → is_union o ≡ false → (a : Value) → WithoutNodes a → (m : Known) → Gives (Settled (linked o a m.0 u e)) (linked o a m.0 s c) (linked o a m.0 t d)
    linked-placed Or i a h m = or-placed (truth_of a) (m.0 s c) (m.0 t d) (m.0 u e) (m.1 n n' n'' position size)
    linked-placed And i a h m = and-placed (truth_of a) (m.0 s c) (m.0 t d) (m.0 u e) (m.1 n n' n'' position size)
    linked-placed Equal i a h m = strict Equal i a h m
    linked-placed NotEqual i a h m = strict NotEqual i a h m
    linked-placed Less i a h m = strict Less i a h m
    linked-placed LessOrEqual i a h m = strict LessOrEqual i a h m
    linked-placed Greater i a h m = strict Greater i a h m
    linked-placed GreaterOrEqual i a h m = strict GreaterOrEqual i a h m
    linked-placed Add i a h m = strict Add i a h m
    linked-placed Subtract i a h m = strict Subtract i a h m
    linked-placed Multiply i a h m = strict Multiply i a h m
    linked-placed Divide i a h m = strict Divide i a h m
    linked-placed Modulo i a h m = strict Modulo i a h m
    linked-placed Union i a h m = strict Union i a h m

    abbrev KnownLink : Type 0
    KnownLink = (l : LinkMeaning) × (is_union l.operator ≡ false) × Placed l.right

    pub chained-placed : (links : List KnownLink) (a : Value) → WithoutNodes a →
        Gives (Settled (chained (map (λ (l : KnownLink). l.0) links) a u e)) (chained (map (λ (l : KnownLink). l.0) links) a s c) (chained (map (λ (l : KnownLink). l.0) links) a t d)
    chained-placed [] a h = both (refl, h)
    chained-placed (l ∷ ls) a h = gives-then (λ v. chained (map (λ (l : KnownLink). l.0) ls) v s c) (λ v. chained (map (λ (l : KnownLink). l.0) ls) v t d) (linked-placed l.0.operator l.1 a h (l.0.right, l.2)) (λ b p.
        gives-weaker (chained-placed ls b p.1) (λ v q. (ap (λ r. r >>= λ x. chained (map (λ (l : KnownLink). l.0) ls) x u e) p.0 ∙ q.0, q.1)))

    -- ---- functions

    pub argument-placed : (place : ℕ) (ms : List Known) → Gives (Settled (argument place (meanings ms) u e)) (argument place (meanings ms) s c) (argument place (meanings ms) t d)
    argument-placed place [] = both (refl, refl)
    argument-placed zero (m ∷ ms) = m.1 n n' n'' position size
    argument-placed (suc place) (m ∷ ms) = argument-placed place ms

    pub plains-placed : (ms : List Known) → Gives (λ ps. plain_arguments (meanings ms) u e ≡ Some ps) (plain_arguments (meanings ms) s c) (plain_arguments (meanings ms) t d)
    plains-placed [] = both refl
    plains-placed (m ∷ ms) =
        gives-then (λ p. plain_arguments (meanings ms) s c >>= λ ps. Some (p ∷ ps)) (λ p. plain_arguments (meanings ms) t d >>= λ ps. Some (p ∷ ps)) (plains _ _ _ (m.1 n n' n'' position size)) (λ p i.
        gives-then (λ ps. Some (p ∷ ps)) (λ ps. Some (p ∷ ps)) (plains-placed ms) (λ ps j.
        both (ap (λ r. r >>= λ q. plain_arguments (meanings ms) u e >>= λ qs. Some (q ∷ qs)) i ∙ ap (λ r. r >>= λ qs. Some (p ∷ qs)) j)))

    pub answers : (code : ℕ) (x y z : Option (List Plain)) → Gives (λ ps. z ≡ Some ps) x y → Gives (Settled (option_map value_of_plain (z >>= w.functions code))) (option_map value_of_plain (x >>= s.functions code)) (option_map value_of_plain (y >>= s.functions code))
    answers code x y z h = mapped _ _ _ value_of_plain
        (gives-then (s.functions code) (s.functions code) h (λ ps i. gives-same (s.functions code ps) (s.functions code ps) refl (λ p j. ap (λ m. m >>= w.functions code) i ∙ w.extend code ps p j))) plain-without

    branch-placed : (b : Bool) (ms : List Known) → Gives (Settled (branch b (meanings ms) u e)) (branch b (meanings ms) s c) (branch b (meanings ms) t d)
    branch-placed true ms = argument-placed 1 ms
    branch-placed false ms = argument-placed 2 ms

    pub branched-placed : (ms : List Known) → Gives (Settled (branched (meanings ms) u e)) (branched (meanings ms) s c) (branched (meanings ms) t d)
    branched-placed ms = gives-then (λ v. branch (truth_of v) (meanings ms) s c) (λ v. branch (truth_of v) (meanings ms) t d) (argument-placed 0 ms) (λ v p.
        gives-weaker (branch-placed (truth_of v) ms) (λ x q. (ap (λ r. r >>= λ y. branch (truth_of y) (meanings ms) u e) p.0 ∙ q.0, q.1)))
