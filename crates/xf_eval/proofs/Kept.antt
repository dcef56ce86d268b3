-- The nodes that a predicate keeps, node by node; and what a step takes, from all its nodes.
use Rattle.std.proofs.Common.{◌≡◌, ℕ, zero, suc, ◌+◌, ◌<◌, ◌≤◌, Bool, true, false, List, [], ◌∷◌, ◌++◌, map, drop, length, get_or, Option, Some, None, option_map, refl, sym, ap, ◌∙◌, add-one, slice_get}
use Rattle.std.proofs.lemmas.List.{at_drop_more, at_drop_all}
use Rattle.xf_def_forest.specs.declared.content.Node.{Node}
use Rattle.xf_def_forest.specs.declared.node.NodeId.{NodeId}
use Rattle.xf_def_forest.specs.Forest.{has_number}
use Rattle.xf_def_forest.specs.Visit.{visits}
use Rattle.xf_def_xpath.specs.declared.value.Value.{Value}
use Rattle.xf_def_xpath.specs.declared.value.Value.TheVariants.{Nodes, Text, Number, Truth}
use Rattle.xf_eval.specs.First.{counted, first_alone}
use Rattle.xf_def_xpath.specs.Setting.{Meaning, Setting, ◌>>=◌, each, in_order, joined}
use Rattle.xf_def_xpath.specs.Steps.{is_true_at, kept_by_all, kept_from, reached}
use Rattle.std.specs.List.{flat_map}
use Rattle.xf_name.specs.declared.axis.Axis.{Axis}
use Rattle.xf_def_syntax.specs.declared.expr.Test.{Test}
use Rattle.xf_eval.specs.Live.{AllLive}
use Rattle.xf_eval.specs.Taken.{taken}
use Rattle.xf_eval.specs.Worth.{seen}
use Rattle.xf_eval.proofs.Erased.{in_order-erased}
use Rattle.xf_eval.proofs.Lists.{append-none, onto}
use Rattle.xf_eval.proofs.Lives.{live-append, live-one}
use Rattle.xf_eval.proofs.Runs.{added, kept-step, kept-stuck}

-- ---- the node at a place

pub get-is : (ns : List ℕ) (at n : ℕ) → slice_get ns at ≡ Some n → get_or ns at n ≡ n
get-is [] at n e = cc
get-is (m ∷ ns) zero n e = cc e
get-is (m ∷ ns) (suc at) n e = get-is ns at n e

-- whether a predicate keeps a node depends on the first node alone
true-first : (d p : ℕ) (v : Value) → is_true_at d p (first_alone v) ≡ is_true_at d p v
true-first d p (Nodes []) = refl
true-first d p (Nodes (n ∷ ns)) = refl
true-first d p (Text text) = refl
true-first d p (Number k) = refl
true-first d p (Truth b) = refl

true-alike : (d p : ℕ) (v w : Value) → first_alone v ≡ first_alone w → is_true_at d p v ≡ is_true_at d p w
true-alike d p v w e = sym (true-first d p v) ∙ ap (is_true_at d p) e ∙ true-first d p w

-- ---- predicates

abbrev left : Setting → Meaning → ℕ → ℕ → List ℕ → List ℕ → Option (List ℕ)
left s m size position kept ns = onto kept (kept_from s m size position ns)

-- of no nodes none is kept
pub none-kept : (s : Setting) (ms : List Meaning) → kept_by_all s ms [] ≡ Some []
none-kept s [] = refl
none-kept s (m ∷ ms) = none-kept s ms

-- at a node where the predicate is too long
pub kept-long : (s : Setting) (m : Meaning) (size at n : ℕ) (kept ns : List ℕ) → left s m size (suc at) kept (drop at ns) ≡ kept_from s m size 1 ns → at < length ns → slice_get ns at ≡ Some n →
    m s (record { node = n; position = at + 1; size = size }) ≡ None → kept_from s m size 1 ns ≡ None
kept-long s m size at n kept ns inv l g h =
    sym inv ∙ at_drop_more (left s m size (suc at) kept) ns at n l
    ∙ kept-stuck s m size (suc at) (get_or ns at n) (drop (at + 1) ns) kept (ap (λ k. m s (record { node = k; position = suc at; size = size })) (get-is ns at n g) ∙ ap (λ p. m s (record { node = n; position = p; size = size })) (sym (add-one at)) ∙ h)

-- at a node where it has a value
pub kept-next : (s : Setting) (m : Meaning) (size at n : ℕ) (kept ns : List ℕ) (v : Value) (b : Bool) → left s m size (suc at) kept (drop at ns) ≡ kept_from s m size 1 ns → at < length ns →
    slice_get ns at ≡ Some n → m s (record { node = n; position = at + 1; size = size }) ≡ Some v → is_true_at s.given.decimals (at + 1) v ≡ b →
    left s m size (suc (at + 1)) (added kept n b) (drop (at + 1) ns) ≡ kept_from s m size 1 ns
kept-next s m size at n kept ns v b inv l g h t =
    let worth : m s (record { node = get_or ns at n; position = suc at; size = size }) ≡ Some v =
    ap (λ k. m s (record { node = k; position = suc at; size = size })) (get-is ns at n g) ∙ ap (λ p. m s (record { node = n; position = p; size = size })) (sym (add-one at)) ∙ h in
    let truth : is_true_at s.given.decimals (suc at) v ≡ b = ap (λ p. is_true_at s.given.decimals p v) (sym (add-one at)) ∙ t in
    let step : left s m size (suc at) kept (drop at ns) ≡ left s m size (suc (suc at)) (added kept (get_or ns at n) (is_true_at s.given.decimals (suc at) v)) (drop (at + 1) ns) =
    at_drop_more (left s m size (suc at) kept) ns at n l ∙ kept-step s m size (suc at) (get_or ns at n) (drop (at + 1) ns) kept v worth in
    ap (λ p. left s m size (suc p) (added kept n b) (drop (at + 1) ns)) (add-one at)
    ∙ ap (λ t'. left s m size (suc (suc at)) (added kept n t') (drop (at + 1) ns)) (sym truth)
    ∙ ap (λ k. left s m size (suc (suc at)) (added kept k (is_true_at s.given.decimals (suc at) v)) (drop (at + 1) ns)) (sym (get-is ns at n g))
    ∙ sym step ∙ inv

-- at a node where it has a value of which the first node counts
pub kept-counted : (s : Setting) (m : Meaning) (size at n : ℕ) (kept ns : List ℕ) (v : Value) (b : Bool) → left s m size (suc at) kept (drop at ns) ≡ kept_from s m size 1 ns → at < length ns →
    slice_get ns at ≡ Some n → option_map (counted true) (m s (record { node = n; position = at + 1; size = size })) ≡ Some (counted true v) → is_true_at s.given.decimals (at + 1) v ≡ b →
    left s m size (suc (at + 1)) (added kept n b) (drop (at + 1) ns) ≡ kept_from s m size 1 ns
kept-counted s m size at n kept ns v b inv l g h t = by (m s (record { node = n; position = at + 1; size = size })) refl h
  where
    by : (x : Option Value) → m s (record { node = n; position = at + 1; size = size }) ≡ x → option_map (counted true) x ≡ Some (counted true v) → left s m size (suc (at + 1)) (added kept n b) (drop (at + 1) ns) ≡ kept_from s m size 1 ns
    by None e i = cc i
    by (Some w) e i =
        let alike : first_alone w ≡ first_alone v = cc i in
        kept-next s m size at n kept ns w b inv l g e (true-alike s.given.decimals (at + 1) w v alike ∙ t)

pub live-added : (kept : List ℕ) (n : ℕ) (b : Bool) (nodes : List Node) → AllLive kept nodes → has_number n nodes ≡ true → AllLive (added kept n b) nodes
live-added kept n true nodes h k = live-append kept (n ∷ []) nodes h (live-one n nodes k)
live-added kept n false nodes h k = h

-- ---- what a step takes

through : (f : List ℕ → List ℕ) (m : Option (List (List ℕ))) → option_map (λ sets. f (joined sets)) m ≡ option_map f (option_map joined m)
through f None = refl
through f (Some sets) = refl

pub taken-done : (nodes : List Node) (one : ℕ → Option (List ℕ)) (found result from : List ℕ) (ids : List NodeId) (i : ℕ) → map (λ (i : NodeId). i.number) ids ≡ from →
    option_map (λ sets. found ++ joined sets) (each one (map (λ (i : NodeId). i.number) (drop i ids))) ≡ option_map joined (each one (map (λ (i : NodeId). i.number) ids)) → length ids ≤ i →
    result ≡ in_order (visits nodes) found → option_map (λ sets. in_order (seen nodes) (joined sets)) (each one from) ≡ Some result
taken-done nodes one found result from ids i e inv l h =
    let all : option_map joined (each one from) ≡ Some found =
    ap (λ ns. option_map joined (each one ns)) (sym e) ∙ sym inv ∙ at_drop_all (λ js. option_map (λ sets. found ++ joined sets) (each one (map (λ (i : NodeId). i.number) js))) ids i l ∙ ap Some (append-none found) in
    through (in_order (seen nodes)) (each one from) ∙ ap (option_map (in_order (seen nodes))) all ∙ ap Some (in_order-erased (visits nodes) found ∙ sym h)

-- ---- what a step without predicates takes

each-some : (f : ℕ → List ℕ) (ns : List ℕ) → each (λ n. Some (f n)) ns ≡ Some (map f ns)
each-some f [] = refl
each-some f (n ∷ ns) = ap (λ m. m >>= λ ys. Some (f n ∷ ys)) (each-some f ns)

joined-map : (f : ℕ → List ℕ) (ns : List ℕ) → joined (map f ns) ≡ flat_map f ns
joined-map f [] = refl
joined-map f (n ∷ ns) = ap (λ l. f n ++ l) (joined-map f ns)

pub plain-taken : (nodes : List Node) (axis : Axis) (t : Test) (ms : List Meaning) (s : Setting) (ns found result : List ℕ) → s.all ≡ seen nodes → ms ≡ [] →
    found ≡ flat_map (reached axis t (seen nodes)) ns → result ≡ in_order (visits nodes) found → taken axis t ms s ns ≡ Some result
plain-taken nodes axis t ms s ns found result all none e h =
    ap (λ l. taken axis t l s ns) none
    ∙ ap (option_map (λ sets. in_order s.all (joined sets))) (each-some (reached axis t s.all) ns)
    ∙ ap (λ l. Some (in_order s.all l)) (joined-map (reached axis t s.all) ns)
    ∙ ap (λ a. Some (in_order a (flat_map (reached axis t a) ns))) all
    ∙ ap (λ l. Some (in_order (seen nodes) l)) (sym e)
    ∙ ap Some (in_order-erased (visits nodes) found ∙ sym h)
