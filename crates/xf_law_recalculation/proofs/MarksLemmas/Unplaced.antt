-- An expression that calls neither `position()` nor `last()` has one value at every place of its context.
use Rattle.std.proofs.Common.{◌≡◌, ℕ, zero, suc, Bool, true, false, not, ◌||◌, List, [], ◌∷◌, map, Option, Some, None, option_map, refl, sym, ap, ◌∙◌, subst}
use Rattle.std.specs.Prelude.{unwrap_or}
use Rattle.xf_def_syntax.specs.declared.expr.Expr.{Expr}
use Rattle.xf_def_syntax.specs.declared.expr.Expr.TheOpen.{Expr-F}
use Rattle.xf_def_syntax.specs.declared.expr.Expr.TheFolds.{map-Expr}
use Rattle.xf_def_syntax.specs.declared.expr.Operator.{Operator}
use Rattle.xf_def_syntax.specs.declared.expr.Operator.TheVariants.{Or, And, Equal, NotEqual, Less, LessOrEqual, Greater, GreaterOrEqual, Add, Subtract, Multiply, Divide, Modulo, Union}
use Rattle.xf_def_syntax.specs.declared.expr.Start.{Start}
use Rattle.xf_def_syntax.specs.declared.expr.Start.TheVariants.{Root, Context}
use Rattle.xf_def_forest.specs.Forest.{written_in}
use Rattle.xf_def_forest.proofs.BackLaws.{or-false}
use Rattle.xf_def_xpath.specs.declared.value.Value.{Value}
use Rattle.xf_def_xpath.specs.declared.value.Value.TheVariants.{Nodes, Text, Number, Truth}
use Rattle.xf_def_xpath.specs.Given.{document_of, property_of, beside}
use Rattle.xf_def_xpath.specs.Setting.{Setting, Focus, Meaning, LinkMeaning, Walk, ◌>>=◌, each}
use Rattle.xf_def_xpath.specs.Conversions.{nodes_of, truth_of, number_of, string_of, plain_of, value_of_plain}
use Rattle.xf_def_xpath.specs.Functions as functions
use Rattle.xf_def_xpath.specs.Operators.{or_else, and_then, combined, linked, chained, signed}
use Rattle.xf_def_xpath.specs.Steps.{begun, walked, kept_by_all, step_walk}
use Rattle.xf_def_xpath.specs.Table.{Function, function_at}
use Rattle.xf_def_xpath.specs.Table as of
use Rattle.xf_def_xpath.specs.Meaning.{expr_meaning, link_meaning, meaning}
use Rattle.xf_def_xpath.proofs.PairKeeps.{pair_keeps}
use Rattle.xf_def_xpath.proofs.VisitFacts.{no}
use Rattle.xf_def_model.specs.Rules.{is_place, some, expr_placed, link_placed, step_placed, calls_place}

abbrev at : ℕ → ℕ → ℕ → Focus
at n position size = record { node = n; position = position; size = size }

-- the place does not count
abbrev pub Unplaced : Meaning → Type 0
Unplaced m = (s : Setting) (n p size q other : ℕ) → m s (at n p size) ≡ m s (at n q other)

abbrev Known : Type 0
Known = (m : Meaning) × Unplaced m

abbrev KnownLink : Type 0
KnownLink = (l : LinkMeaning) × Unplaced l.right

abbrev meanings : List Known → List Meaning
meanings ms = map (λ (m : Known). m.0) ms

module _ (s : Setting) (n p size q other : ℕ) where
  abbrev c : Focus
  c = at n p size

  abbrev d : Focus
  d = at n q other

  argument-same : (place : ℕ) (ms : List Known) → functions.argument place (meanings ms) s c ≡ functions.argument place (meanings ms) s d
  argument-same place [] = refl
  argument-same zero (m ∷ ms) = m.1 s n p size q other
  argument-same (suc place) (m ∷ ms) = argument-same place ms

  own-same : (ms : List Known) → functions.own_argument (meanings ms) s c ≡ functions.own_argument (meanings ms) s d
  own-same [] = refl
  own-same (m ∷ ms) = m.1 s n p size q other

  id-same : (ms : List Known) → functions.instance_id (meanings ms) s c ≡ functions.instance_id (meanings ms) s d
  id-same [] = refl
  id-same (m ∷ ms) = ap (λ o. o >>= string_of s) (m.1 s n p size q other)

  plains-same : (ms : List Known) → functions.plain_arguments (meanings ms) s c ≡ functions.plain_arguments (meanings ms) s d
  plains-same [] = refl
  plains-same (m ∷ ms) =
      ap (λ o. (o >>= plain_of s) >>= λ y. each (λ g. g s c >>= plain_of s) (meanings ms) >>= λ ys. Some (y ∷ ys)) (m.1 s n p size q other)
      ∙ ap (λ rest. (m.0 s d >>= plain_of s) >>= λ y. rest >>= λ ys. Some (y ∷ ys)) (plains-same ms)

  branch-same : (b : Bool) (ms : List Known) → functions.branch b (meanings ms) s c ≡ functions.branch b (meanings ms) s d
  branch-same true ms = argument-same 1 ms
  branch-same false ms = argument-same 2 ms

  then-branch : (o : Option Value) (ms : List Known) → (o >>= λ v. functions.branch (truth_of v) (meanings ms) s c) ≡ (o >>= λ v. functions.branch (truth_of v) (meanings ms) s d)
  then-branch None ms = refl
  then-branch (Some v) ms = branch-same (truth_of v) ms

  branched-same : (ms : List Known) → functions.branched (meanings ms) s c ≡ functions.branched (meanings ms) s d
  branched-same ms =
      ap (λ o. o >>= λ v. functions.branch (truth_of v) (meanings ms) s c) (argument-same 0 ms) ∙ then-branch (functions.argument 0 (meanings ms) s d) ms

  call-same : (g : Function) → is_place g ≡ false → (code : ℕ) (ms : List Known) → functions.called g code (meanings ms) s c ≡ functions.called g code (meanings ms) s d
  call-same of.asking h code ms = ap (λ o. option_map value_of_plain (o >>= s.functions code)) (plains-same ms)
  call-same of.plainly h code ms = ap (λ o. option_map value_of_plain (o >>= s.functions code)) (plains-same ms)
  call-same of.owning h code ms = ap (λ o. option_map value_of_plain (o >>= plain_of s >>= λ x. s.functions code (x ∷ []))) (own-same ms)
  call-same of.boolean h code ms = ap (option_map (λ v. Truth (truth_of v))) (argument-same 0 ms)
  call-same of.not h code ms = ap (option_map (λ v. Truth (not (truth_of v)))) (argument-same 0 ms)
  call-same (of.truth b) h code ms = refl
  call-same of.choosing h code ms = branched-same ms
  call-same of.branching h code ms = ap (λ o. option_map Text (o >>= string_of s)) (branched-same ms)
  call-same of.counting h code ms = ap (λ o. o >>= λ v. Some (functions.count_of s (nodes_of v))) (argument-same 0 ms)
  call-same of.counting_filled h code ms = ap (λ o. o >>= λ v. functions.filled_count s (nodes_of v)) (argument-same 0 ms)
  call-same of.adding h code ms = ap (λ o. o >>= λ v. functions.of_numbers s functions.total (nodes_of v)) (argument-same 0 ms)
  call-same of.averaging h code ms = ap (λ o. o >>= λ v. functions.of_numbers s (functions.average s.given.decimals) (nodes_of v)) (argument-same 0 ms)
  call-same of.greatest h code ms = ap (λ o. o >>= λ v. functions.of_numbers s (functions.extreme functions.greater) (nodes_of v)) (argument-same 0 ms)
  call-same of.least h code ms = ap (λ o. o >>= λ v. functions.of_numbers s (functions.extreme functions.lesser) (nodes_of v)) (argument-same 0 ms)
  call-same of.local_name h code ms = ap (λ o. o >>= λ v. functions.text_value s (functions.local_part (functions.first_name s.all (nodes_of v)))) (own-same ms)
  call-same of.name h code ms = ap (λ o. o >>= λ v. functions.text_value s (written_in (functions.first_name s.all (nodes_of v)))) (own-same ms)
  call-same of.namespace h code ms = ap (λ o. o >>= λ v. functions.text_value s (functions.namespace_of s.given.bindings (functions.first_name s.all (nodes_of v)))) (own-same ms)
  call-same of.number h code ms = ap (λ o. option_map Number (o >>= number_of s)) (own-same ms)
  call-same of.string h code ms = ap (λ o. option_map Text (o >>= string_of s)) (own-same ms)
  call-same of.current h code ms = refl
  call-same of.event h code ms = ap (λ o. option_map (λ name. unwrap_or (property_of name s.given.event) (Nodes [])) (o >>= string_of s)) (argument-same 0 ms)
  call-same of.index h code ms = ap (λ o. option_map (λ id. Number (functions.index_number s.given.decimals (beside id s.given.indexes))) (o >>= string_of s)) (argument-same 0 ms)
  call-same of.instance h code ms = ap (option_map (λ id. functions.set_of (document_of s.model id s.given.documents))) (id-same ms)
  call-same of.last h code ms = no (sym h)
  call-same of.position h code ms = no (sym h)

  linked-same : (o : Operator) (left : Value) (m : Meaning) → m s c ≡ m s d → linked o left m s c ≡ linked o left m s d
  linked-same Or left m h = ap (or_else (truth_of left)) h
  linked-same And left m h = ap (and_then (truth_of left)) h
  linked-same Equal left m h = ap (λ r. r >>= combined Equal s left) h
  linked-same NotEqual left m h = ap (λ r. r >>= combined NotEqual s left) h
  linked-same Less left m h = ap (λ r. r >>= combined Less s left) h
  linked-same LessOrEqual left m h = ap (λ r. r >>= combined LessOrEqual s left) h
  linked-same Greater left m h = ap (λ r. r >>= combined Greater s left) h
  linked-same GreaterOrEqual left m h = ap (λ r. r >>= combined GreaterOrEqual s left) h
  linked-same Add left m h = ap (λ r. r >>= combined Add s left) h
  linked-same Subtract left m h = ap (λ r. r >>= combined Subtract s left) h
  linked-same Multiply left m h = ap (λ r. r >>= combined Multiply s left) h
  linked-same Divide left m h = ap (λ r. r >>= combined Divide s left) h
  linked-same Modulo left m h = ap (λ r. r >>= combined Modulo s left) h
  linked-same Union left m h = ap (λ r. r >>= combined Union s left) h

  then-all : (f g : Value → Option Value) → ((v : Value) → f v ≡ g v) → (o : Option Value) → (o >>= f) ≡ (o >>= g)
  then-all f g h None = refl
  then-all f g h (Some v) = h v

  abbrev chain : List KnownLink → List LinkMeaning
  chain ls = map (λ (l : KnownLink). l.0) ls

  chained-same : (ls : List KnownLink) (left : Value) → chained (chain ls) left s c ≡ chained (chain ls) left s d
  chained-same [] left = refl
  chained-same (l ∷ ls) left =
      ap (λ o. o >>= λ v. chained (chain ls) v s c) (linked-same l.0.operator left l.0.right (l.1 s n p size q other))
      ∙ then-all (λ v. chained (chain ls) v s c) (λ v. chained (chain ls) v s d) (chained-same ls) (linked l.0.operator left l.0.right s d)

  begun-same : (start : Start) → begun start s c ≡ begun start s d
  begun-same Root = refl
  begun-same Context = refl

-- ---- every expression

abbrev PairUnplaced : Bool → Meaning → Type 0
PairUnplaced b m = b ≡ false → Unplaced m

abbrev LinkUnplaced : Bool → LinkMeaning → Type 0
LinkUnplaced b l = b ≡ false → Unplaced l.right

abbrev AnyWalk : Bool → Walk → Type 0
AnyWalk b w = Unit {0}

abbrev Pair : Type 0
Pair = (b : Bool) × (m : Meaning) × PairUnplaced b m

abbrev LinkPair : Type 0
LinkPair = (b : Bool) × (l : LinkMeaning) × LinkUnplaced b l

abbrev StepPair : Type 0
StepPair = (b : Bool) × (w : Walk) × AnyWalk b w

such : (ks : List Pair) → some (map (λ (k : Pair). k.0) ks) ≡ false → (ms : List Known) × (meanings ms ≡ map (λ (k : Pair). k.1) ks)
such [] h = ([], refl)
such (k ∷ ks) h = let parts = or-false k.0 (some (map (λ (j : Pair). j.0) ks)) h in let rest = such ks parts.1 in ((k.1, k.2 parts.0) ∷ rest.0, ap (λ l. k.1 ∷ l) rest.1)

such-links : (ks : List LinkPair) → some (map (λ (k : LinkPair). k.0) ks) ≡ false → (ls : List KnownLink) × (map (λ (l : KnownLink). l.0) ls ≡ map (λ (k : LinkPair). k.1) ks)
such-links [] h = ([], refl)
such-links (k ∷ ks) h = let parts = or-false k.0 (some (map (λ (j : LinkPair). j.0) ks)) h in let rest = such-links ks parts.1 in ((k.1, k.2 parts.0) ∷ rest.0, ap (λ l. k.1 ∷ l) rest.1)

abbrev ChainUnplaced : Meaning → List LinkMeaning → Type 0
ChainUnplaced first ls = Unplaced (λ s c. first s c >>= λ left. chained ls left s c)

chain-unplaced : (first : Meaning) → Unplaced first → (ks : List LinkPair) → some (map (λ (k : LinkPair). k.0) ks) ≡ false → ChainUnplaced first (map (λ (k : LinkPair). k.1) ks)
chain-unplaced first h ks i = let ls = such-links ks i in subst (ChainUnplaced first) ls.1
    (λ s n p size q other. ap (λ o. o >>= λ v. chained (map (λ (l : KnownLink). l.0) ls.0) v s (at n p size)) (h s n p size q other) ∙ then-all s n p size q other (λ v. chained (map (λ (l : KnownLink). l.0) ls.0) v s (at n p size)) (λ v. chained (map (λ (l : KnownLink). l.0) ls.0) v s (at n q other)) (chained-same s n p size q other ls.0) (first s (at n q other)))

call-unplaced : (g : Function) (code : ℕ) (ks : List Pair) → (is_place g || some (map (λ (k : Pair). k.0) ks)) ≡ false → Unplaced (functions.called g code (map (λ (k : Pair). k.1) ks))
call-unplaced g code ks h =
    let parts = or-false (is_place g) (some (map (λ (k : Pair). k.0) ks)) h in
    let ms = such ks parts.1 in
    subst (λ l. Unplaced (functions.called g code l)) ms.1 (λ s n p size q other. call-same s n p size q other g parts.0 code ms.0)

level-unplaced : (y : Expr-F Pair LinkPair StepPair) → PairUnplaced (expr_placed (map-Expr Pair LinkPair StepPair Bool Bool Bool (λ k. k.0) (λ k. k.0) (λ k. k.0) y)) (expr_meaning (map-Expr Pair LinkPair StepPair Meaning LinkMeaning Walk (λ k. k.1) (λ k. k.1) (λ k. k.1) y))
level-unplaced (Expr-F.Number place k) h = λ s n p size q other. refl
level-unplaced (Expr-F.Literal place text) h = λ s n p size q other. refl
level-unplaced (Expr-F.Call place code ks) h = call-unplaced (function_at code) code ks h
level-unplaced (Expr-F.Negated place signs k) h = λ s n p size q other. ap (λ o. option_map (λ x. Number (signed signs x)) (o >>= number_of s)) (k.2 h s n p size q other)
level-unplaced (Expr-F.Chain k ls) h = let parts = or-false k.0 (some (map (λ (j : LinkPair). j.0) ls)) h in chain-unplaced k.1 (k.2 parts.0) ls parts.1
level-unplaced (Expr-F.Filter k ks) h = let parts = or-false k.0 (some (map (λ (j : Pair). j.0) ks)) h in
    λ s n p size q other. ap (λ o. option_map Nodes (o >>= λ v. kept_by_all s (map (λ (j : Pair). j.1) ks) (nodes_of v))) (k.2 parts.0 s n p size q other)
level-unplaced (Expr-F.Path place start ks) h = λ s n p size q other. ap (λ ns. option_map Nodes (walked s (map (λ (j : StepPair). j.1) ks) ns)) (begun-same s n p size q other start)
level-unplaced (Expr-F.From k ks) h = let parts = or-false k.0 (some (map (λ (j : StepPair). j.0) ks)) h in
    λ s n p size q other. ap (λ o. option_map Nodes (o >>= λ v. walked s (map (λ (j : StepPair). j.1) ks) (nodes_of v))) (k.2 parts.0 s n p size q other)

pub one-place : (e : Expr) → calls_place e ≡ false → Unplaced (meaning e)
one-place = pair_keeps Bool Bool Bool expr_placed link_placed step_placed Meaning LinkMeaning Walk expr_meaning link_meaning step_walk PairUnplaced LinkUnplaced AnyWalk
    level-unplaced (λ y h. y.right.2 h) (λ y. tt)
