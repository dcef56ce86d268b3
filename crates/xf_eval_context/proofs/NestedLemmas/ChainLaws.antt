-- The node sets of a bind and of those around it are those of the bind around, and then its own.
use Rattle.std.proofs.Common.{◌≡◌, subst, ℕ, zero, suc, ◌+◌, ◌<◌, ◌≤◌, Bool, true, false, cond, List, [], ◌∷◌, ◌++◌, map, length, get_or, Option, Some, None, option_map, refl, sym, ap, ◌∙◌, arith, slice_get, length-append}
use Rattle.std.specs.Prelude.{nat_lt}
use Rattle.std.proofs.lemmas.Bool.Decides.{nat_tests}
use Rattle.std.proofs.Math.ListN.{get_or-append}
use Rattle.std.proofs.Math.Seq.{get_or-append_seam}
use Rattle.xf_base.specs.Limits.{string_limit}
use Rattle.xf_def_syntax.specs.declared.form.Bind.{Bind}
use Rattle.xf_def_forest.specs.Visit.{Visit}
use Rattle.xf_def_xpath.specs.Given.{Given}
use Rattle.xf_def_xpath.specs.Setting.{◌>>=◌, each, in_order, joined}
use Rattle.xf_def_xpath.specs.Asked.{Trace}
use Rattle.xf_def_model.specs.Rules.{Rule, Scope, chain_around, chains, chains_after, model_or, rule_of}
use Rattle.xf_def_model.specs.Nested.{begun, reached_through, set_from}
use Rattle.xf_eval_context.specs.Nested.Chain.{outer_in, scope_in, selected, through}

-- ---- past the end, and in a mapped list

pub past-end : {X : Type 0} (xs : List X) (k : ℕ) (d : X) → length xs ≤ k → get_or xs k d ≡ d
past-end [] k d h = refl
past-end (x ∷ xs) zero d h = absurd (omega arith)
past-end (x ∷ xs) (suc k) d h = past-end xs k d (omega arith)

pub model-found : (bs : List Bind) (k : ℕ) (b : Bind) → k < length bs → get_or bs k b ≡ b → model_or 0 (slice_get (map rule_of bs) k) ≡ b.model
model-found [] k b h e = absurd (omega arith)
model-found (x ∷ bs) zero b h e = ap (λ (y : Bind). y.model) e
model-found (x ∷ bs) (suc k) b h e = model-found bs k b (omega arith) e

pub model-none : (bs : List Bind) (k : ℕ) → length bs ≤ k → model_or 0 (slice_get (map rule_of bs) k) ≡ 0
model-none [] k h = refl
model-none (x ∷ bs) zero h = absurd (omega arith)
model-none (x ∷ bs) (suc k) h = model-none bs k (omega arith)

-- ---- chains

abbrev next : List (List Trace) → Rule → List (List Trace)
next known r = known ++ (chain_around known r.around ++ r.node_set ∷ []) ∷ []

next-long : (known : List (List Trace)) (r : Rule) → length (next known r) ≡ length known + 1
next-long known r = length-append known ((chain_around known r.around ++ r.node_set ∷ []) ∷ [])

kept-after : (known : List (List Trace)) (rs : List Rule) (k : ℕ) → k < length known → get_or (chains_after known rs) k [] ≡ get_or known k []
kept-after known [] k h = refl
kept-after known (r ∷ rs) k h =
    kept-after (next known r) rs k (omega (arith, next-long known r)) ∙ get_or-append known ((chain_around known r.around ++ r.node_set ∷ []) ∷ []) [] k h

chains-long : (known : List (List Trace)) (bs : List Bind) → length (chains_after known (map rule_of bs)) ≡ length known + length bs
chains-long known [] = omega arith
chains-long known (b ∷ bs) = omega (arith, chains-long (next known (rule_of b)) bs, next-long known (rule_of b))

-- the chain of the bind at a place, by those before it
record ChainAt (all : List (List Trace)) (at : ℕ) (r : Rule) : Type 0 where
  before : List (List Trace)
  many : length before ≡ at
  known : (b : ℕ) → b < at → get_or all b [] ≡ get_or before b []
  here : get_or all at [] ≡ chain_around before r.around ++ r.node_set ∷ []

moved : (all : List (List Trace)) (at to : ℕ) (r : Rule) → at ≡ to → ChainAt all at r → ChainAt all to r
moved all at to r e h = subst (λ n. ChainAt all n r) e h

chain-at : (known : List (List Trace)) (bs : List Bind) (k : ℕ) (b : Bind) → k < length bs → get_or bs k b ≡ b → ChainAt (chains_after known (map rule_of bs)) (length known + k) (rule_of b)
chain-at known [] k b h e = absurd (omega arith)
chain-at known (x ∷ bs) zero b h e =
    moved (chains_after known (map rule_of (x ∷ bs))) (length known) (length known + 0) (rule_of b) (omega arith) (record {
      before = known;
      many = refl;
      known = λ i l. kept-after known (map rule_of (x ∷ bs)) i l;
      here =
          kept-after (next known (rule_of x)) (map rule_of bs) (length known) (omega (arith, next-long known (rule_of x)))
          ∙ get_or-append_seam known (chain_around known (rule_of x).around ++ (rule_of x).node_set ∷ []) [] []
          ∙ ap (λ (y : Bind). chain_around known (rule_of y).around ++ (rule_of y).node_set ∷ []) e;
    })
chain-at known (x ∷ bs) (suc k) b h e =
    moved (chains_after known (map rule_of (x ∷ bs))) (length (next known (rule_of x)) + k) (length known + suc k) (rule_of b) (omega (arith, next-long known (rule_of x)))
    (chain-at (next known (rule_of x)) bs k b (omega arith) e)

-- ---- what is reached

some-mapped : {A B : Type 0} (f : A → B) (m : Option A) → (m >>= λ x. Some (f x)) ≡ option_map f m
some-mapped f None = refl
some-mapped f (Some x) = refl

through-append : (scope : Scope) (all : List Visit) (ts : List Trace) (t : Trace) (ns : List ℕ) →
    reached_through (Some string_limit) scope all (ts ++ t ∷ []) ns ≡ (reached_through (Some string_limit) scope all ts ns >>= selected scope all t)
through-append scope all [] t ns = some-mapped (λ sets. in_order all (joined sets)) (each (set_from (Some string_limit) scope all t) ns)
through-append scope all (u ∷ ts) t ns = by (λ sets. through-append scope all ts t (in_order all (joined sets))) (each (set_from (Some string_limit) scope all u) ns)
  where
    by : ((sets : List (List ℕ)) → reached_through (Some string_limit) scope all (ts ++ t ∷ []) (in_order all (joined sets))
        ≡ (reached_through (Some string_limit) scope all ts (in_order all (joined sets)) >>= selected scope all t))
        → (m : Option (List (List ℕ))) → (m >>= λ sets. reached_through (Some string_limit) scope all (ts ++ t ∷ []) (in_order all (joined sets)))
        ≡ ((m >>= λ sets. reached_through (Some string_limit) scope all ts (in_order all (joined sets))) >>= selected scope all t)
    by h None = refl
    by h (Some sets) = h sets

abbrev Around : Given → List Bind → ℕ → List Visit → ℕ → Bind → List (List Trace) → Type 0
Around given bs model all k b before =
    through given bs model all k ≡ (reached_through (Some string_limit) (scope_in given bs model) all (chain_around before b.around) (begun (scope_in given bs model)) >>= selected (scope_in given bs model) all (rule_of b).node_set)

around-is : (given : Given) (bs : List Bind) (model : ℕ) (all : List Visit) (k : ℕ) (b : Bind) (h : ChainAt (chains (scope_in given bs model)) k (rule_of b)) → Around given bs model all k b h.before
around-is given bs model all k b h =
    let scope = scope_in given bs model in
    ap (λ ts. reached_through (Some string_limit) scope all ts (begun scope)) h.here ∙ through-append scope all (chain_around h.before b.around) (rule_of b).node_set (begun scope)

chain-of : (given : Given) (bs : List Bind) (model k : ℕ) (b : Bind) → k < length bs → get_or bs k b ≡ b → ChainAt (chains (scope_in given bs model)) k (rule_of b)
chain-of given bs model k b h e = moved (chains_after [] (map rule_of bs)) (0 + k) k (rule_of b) (omega arith) (chain-at [] bs k b h e)

-- in an earlier bind
pub through-outer : (given : Given) (bs : List Bind) (model : ℕ) (all : List Visit) (k : ℕ) (b : Bind) (outer : ℕ) → k < length bs → get_or bs k b ≡ b → b.around ≡ Some outer → outer < k →
    through given bs model all k ≡ (through given bs model all outer >>= selected (scope_in given bs model) all (rule_of b).node_set)
through-outer given bs model all k b outer h e a l =
    let scope = scope_in given bs model in
    let c = chain-of given bs model k b h e in
    around-is given bs model all k b c
    ∙ ap (λ ts. reached_through (Some string_limit) scope all ts (begun scope) >>= selected scope all (rule_of b).node_set) (ap (chain_around c.before) a ∙ sym (c.known outer l))

-- in none
pub through-first : (given : Given) (bs : List Bind) (model : ℕ) (all : List Visit) (k : ℕ) (b : Bind) → k < length bs → get_or bs k b ≡ b → b.around ≡ None →
    through given bs model all k ≡ selected (scope_in given bs model) all (rule_of b).node_set (begun (scope_in given bs model))
through-first given bs model all k b h e a =
    let scope = scope_in given bs model in
    let c = chain-of given bs model k b h e in
    around-is given bs model all k b c
    ∙ ap (λ ts. reached_through (Some string_limit) scope all ts (begun scope) >>= selected scope all (rule_of b).node_set) (ap (chain_around c.before) a)

-- one that is not earlier counts as none
pub through-late : (given : Given) (bs : List Bind) (model : ℕ) (all : List Visit) (k : ℕ) (b : Bind) (outer : ℕ) → k < length bs → get_or bs k b ≡ b → b.around ≡ Some outer → k ≤ outer →
    through given bs model all k ≡ selected (scope_in given bs model) all (rule_of b).node_set (begun (scope_in given bs model))
through-late given bs model all k b outer h e a l =
    let scope = scope_in given bs model in
    let c = chain-of given bs model k b h e in
    around-is given bs model all k b c
    ∙ ap (λ ts. reached_through (Some string_limit) scope all ts (begun scope) >>= selected scope all (rule_of b).node_set)
    (ap (chain_around c.before) a ∙ past-end c.before outer [] (omega (arith, c.many)))

-- a number that no bind has
pub through-none : (given : Given) (bs : List Bind) (model : ℕ) (all : List Visit) (k : ℕ) → length bs ≤ k → through given bs model all k ≡ Some (begun (scope_in given bs model))
through-none given bs model all k h =
    let scope = scope_in given bs model in
    ap (λ ts. reached_through (Some string_limit) scope all ts (begun scope)) (past-end (chains scope) k [] (omega (arith, chains-long [] bs)))

-- ---- by the bind around that stands before it

pub through-in : (given : Given) (bs : List Bind) (model : ℕ) (all : List Visit) (k : ℕ) (b : Bind) (outer : ℕ) → k < length bs → get_or bs k b ≡ b → outer_in b.around k ≡ Some outer →
    through given bs model all k ≡ (through given bs model all outer >>= selected (scope_in given bs model) all (rule_of b).node_set)
through-in given bs model all k b outer h e o = by b.around refl o
  where
    at : (n : ℕ) (t : Bool) → b.around ≡ Some n → nat_lt n k ≡ t → cond t (Some n) None ≡ Some outer → through given bs model all k ≡ (through given bs model all outer >>= selected (scope_in given bs model) all (rule_of b).node_set)
    at n true a t i = let l : n < k = grind (arith, nat_tests) in let j : n ≡ outer = cc i in through-outer given bs model all k b outer h e (a ∙ ap Some j) (subst (λ m. m < k) j l)
    at n false a t i = cc i

    by : (m : Option ℕ) → b.around ≡ m → outer_in m k ≡ Some outer → through given bs model all k ≡ (through given bs model all outer >>= selected (scope_in given bs model) all (rule_of b).node_set)
    by None a i = cc i
    by (Some n) a i = at n (nat_lt n k) a refl i

pub through-alone : (given : Given) (bs : List Bind) (model : ℕ) (all : List Visit) (k : ℕ) (b : Bind) → k < length bs → get_or bs k b ≡ b → outer_in b.around k ≡ None →
    through given bs model all k ≡ selected (scope_in given bs model) all (rule_of b).node_set (begun (scope_in given bs model))
through-alone given bs model all k b h e o = by b.around refl o
  where
    at : (n : ℕ) (t : Bool) → b.around ≡ Some n → nat_lt n k ≡ t → cond t (Some n) None ≡ None → through given bs model all k ≡ selected (scope_in given bs model) all (rule_of b).node_set (begun (scope_in given bs model))
    at n true a t i = cc i
    at n false a t i = let l : k ≤ n = grind (arith, nat_tests) in through-late given bs model all k b n h e a l

    by : (m : Option ℕ) → b.around ≡ m → outer_in m k ≡ None → through given bs model all k ≡ selected (scope_in given bs model) all (rule_of b).node_set (begun (scope_in given bs model))
    by None a i = through-first given bs model all k b h e a
    by (Some n) a i = at n (nat_lt n k) a refl i
