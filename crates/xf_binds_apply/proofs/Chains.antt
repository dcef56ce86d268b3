-- The node sets of a bind and of those around it are those of the bind around, and then its own: over the shape, without a limit.
use Rattle.std.proofs.Common.{◌≡◌, subst, ℕ, zero, suc, ◌+◌, ◌<◌, ◌≤◌, Bool, true, false, cond, List, [], ◌∷◌, ◌++◌, map, length, get_or, Option, Some, None, option_map, refl, sym, ap, ◌∙◌, arith, length-append, slice_get, ◌⊎◌, inl, inr}
use Rattle.std.specs.Prelude.{nat_lt}
use Rattle.std.specs.List.{list_all}
use Rattle.std.proofs.lemmas.Bool.Decides.{nat_tests}
use Rattle.std.proofs.Math.ListN.{get_or-append}
use Rattle.std.proofs.Math.Seq.{get_or-append_seam}
use Rattle.xf_def_syntax.specs.declared.form.Bind.{Bind}
use Rattle.xf_def_forest.specs.declared.content.Node.{Node}
use Rattle.xf_def_forest.specs.Shape.{shape_of}
use Rattle.xf_def_forest.specs.Visit.{Visit}
use Rattle.xf_def_xpath.specs.Given.{Given}
use Rattle.xf_def_xpath.specs.Setting.{◌>>=◌, each, in_order, joined}
use Rattle.xf_def_xpath.specs.Asked.{Trace}
use Rattle.xf_def_xpath.proofs.VisitFacts.{some-same}
use Rattle.xf_def_forest.proofs.BackLaws.{and-true}
use Rattle.xf_eval.specs.Live.{AllLive}
use Rattle.xf_def_model.specs.Rules.{Rule, Scope, chain_around, chains, chains_after, rule_of}
use Rattle.xf_def_model.specs.Nested.{begun, reached_through, set_from}
use Rattle.xf_binds_apply.specs.Reached.{AreKept, is_regular, kept_if, kept_in, outer_in, scope_in, sets_at, sets_in, through}

past-end : {X : Type 0} (xs : List X) (k : ℕ) (d : X) → length xs ≤ k → get_or xs k d ≡ d
past-end [] k d h = refl
past-end (x ∷ xs) zero d h = absurd (omega arith)
past-end (x ∷ xs) (suc k) d h = past-end xs k d (omega arith)

-- ---- chains

abbrev next : List (List Trace) → Rule → List (List Trace)
next known r = known ++ (chain_around known r.around ++ r.node_set ∷ []) ∷ []

next-long : (known : List (List Trace)) (r : Rule) → length (next known r) ≡ length known + 1
next-long known r = length-append known ((chain_around known r.around ++ r.node_set ∷ []) ∷ [])

kept-after : (known : List (List Trace)) (rs : List Rule) (k : ℕ) → k < length known → get_or (chains_after known rs) k [] ≡ get_or known k []
kept-after known [] k h = refl
kept-after known (r ∷ rs) k h =
    kept-after (next known r) rs k (omega (arith, next-long known r)) ∙ get_or-append known ((chain_around known r.around ++ r.node_set ∷ []) ∷ []) [] k h

chains-long : (known : List (List Trace)) (bs : List Bind) → length (chains_after known (map rule_of bs)) ≡ length known + length bs
chains-long known [] = omega arith
chains-long known (b ∷ bs) = omega (arith, chains-long (next known (rule_of b)) bs, next-long known (rule_of b))

-- the chain of the bind at a place, by those before it
record ChainAt (all : List (List Trace)) (at : ℕ) (r : Rule) : Type 0 where
  before : List (List Trace)
  many : length before ≡ at
  known : (b : ℕ) → b < at → get_or all b [] ≡ get_or before b []
  here : get_or all at [] ≡ chain_around before r.around ++ r.node_set ∷ []

moved : (all : List (List Trace)) (at to : ℕ) (r : Rule) → at ≡ to → ChainAt all at r → ChainAt all to r
moved all at to r e h = subst (λ n. ChainAt all n r) e h

chain-at : (known : List (List Trace)) (bs : List Bind) (k : ℕ) (b : Bind) → k < length bs → get_or bs k b ≡ b → ChainAt (chains_after known (map rule_of bs)) (length known + k) (rule_of b)
chain-at known [] k b h e = absurd (omega arith)
chain-at known (x ∷ bs) zero b h e =
    moved (chains_after known (map rule_of (x ∷ bs))) (length known) (length known + 0) (rule_of b) (omega arith) (record {
      before = known;
      many = refl;
      known = λ i l. kept-after known (map rule_of (x ∷ bs)) i l;
      here =
          kept-after (next known (rule_of x)) (map rule_of bs) (length known) (omega (arith, next-long known (rule_of x)))
          ∙ get_or-append_seam known (chain_around known (rule_of x).around ++ (rule_of x).node_set ∷ []) [] []
          ∙ ap (λ (y : Bind). chain_around known (rule_of y).around ++ (rule_of y).node_set ∷ []) e;
    })
chain-at known (x ∷ bs) (suc k) b h e =
    moved (chains_after known (map rule_of (x ∷ bs))) (length (next known (rule_of x)) + k) (length known + suc k) (rule_of b) (omega (arith, next-long known (rule_of x)))
    (chain-at (next known (rule_of x)) bs k b (omega arith) e)

-- ---- what is reached

-- the nodes of sets
abbrev pub ordered : List Node → Option (List (List ℕ)) → Option (List ℕ)
ordered nodes sets = option_map (λ s. in_order (shape_of nodes) (joined s)) sets

some-mapped : {A B : Type 0} (f : A → B) (m : Option A) → (m >>= λ x. Some (f x)) ≡ option_map f m
some-mapped f None = refl
some-mapped f (Some x) = refl

mapped-through : {A B C : Type 0} (f : B → C) (g : A → Option B) (m : Option A) → (m >>= λ x. option_map f (g x)) ≡ option_map f (m >>= g)
mapped-through f g None = refl
mapped-through f g (Some x) = refl

module _ (given : Given) (bs : List Bind) (model : ℕ) (nodes : List Node) where
  abbrev scope : Scope
  scope = scope_in given bs model

  abbrev all : List Visit
  all = shape_of nodes

  abbrev one : Trace → ℕ → Option (List ℕ)
  one t = set_from None scope all t

  abbrev from : List Trace → List ℕ → Option (List ℕ)
  from ts ns = reached_through None scope all ts ns

  from-append : (ts : List Trace) (t : Trace) (ns : List ℕ) → from (ts ++ t ∷ []) ns ≡ (from ts ns >>= λ ms. ordered nodes (each (one t) ms))
  from-append [] t ns = some-mapped (λ sets. in_order all (joined sets)) (each (one t) ns)
  from-append (u ∷ ts) t ns = by (λ sets. from-append ts t (in_order all (joined sets))) (each (one u) ns)
    where
      by : ((sets : List (List ℕ)) → from (ts ++ t ∷ []) (in_order all (joined sets)) ≡ (from ts (in_order all (joined sets)) >>= λ ms. ordered nodes (each (one t) ms)))
          → (m : Option (List (List ℕ))) → (m >>= λ sets. from (ts ++ t ∷ []) (in_order all (joined sets)))
          ≡ ((m >>= λ sets. from ts (in_order all (joined sets))) >>= λ ms. ordered nodes (each (one t) ms))
      by h None = refl
      by h (Some sets) = h sets

  chain-of : (k : ℕ) (b : Bind) → k < length bs → get_or bs k b ≡ b → ChainAt (chains scope) k (rule_of b)
  chain-of k b h e = moved (chains_after [] (map rule_of bs)) (0 + k) k (rule_of b) (omega arith) (chain-at [] bs k b h e)

  around-is : (k : ℕ) (b : Bind) (h : ChainAt (chains scope) k (rule_of b)) →
      through given bs model nodes k ≡ (from (chain_around h.before b.around) (begun scope) >>= λ ms. ordered nodes (each (one (rule_of b).node_set) ms))
  around-is k b h = ap (λ ts. from ts (begun scope)) h.here ∙ from-append (chain_around h.before b.around) (rule_of b).node_set (begun scope)

  -- ---- the sets of a bind

  pub sets-alone : (b : Bind) → b.around ≡ None → sets_in given bs model nodes b ≡ sets_at given nodes model b.node_set (begun scope)
  sets-alone b a = ap (λ o. from (chain_around (chains scope) o) (begun scope) >>= each (one (rule_of b).node_set)) a

  pub sets-around : (b : Bind) (k : ℕ) (ns : List ℕ) → b.around ≡ Some k → through given bs model nodes k ≡ Some ns → sets_in given bs model nodes b ≡ sets_at given nodes model b.node_set ns
  sets-around b k ns a h =
      ap (λ o. from (chain_around (chains scope) o) (begun scope) >>= each (one (rule_of b).node_set)) a ∙ ap (λ m. m >>= each (one (rule_of b).node_set)) h

  -- ---- the nodes of a bind

  pub through-regular : (k : ℕ) (b : Bind) → k < length bs → get_or bs k b ≡ b → is_regular b.around k ≡ true → through given bs model nodes k ≡ ordered nodes (sets_in given bs model nodes b)
  through-regular k b h e r =
      let c = chain-of k b h e in
      around-is k b c
      ∙ ap (λ ts. from ts (begun scope) >>= λ ms. ordered nodes (each (one (rule_of b).node_set) ms)) (same b.around r c)
      ∙ mapped-through (λ sets. in_order all (joined sets)) (each (one (rule_of b).node_set)) (from (chain_around (chains scope) b.around) (begun scope))
    where
      same : (o : Option ℕ) → is_regular o k ≡ true → (c : ChainAt (chains scope) k (rule_of b)) → chain_around c.before o ≡ chain_around (chains scope) o
      same None i c = refl
      same (Some outer) i c = let l : outer < k = grind (arith, nat_tests) in sym (c.known outer l)

  -- one that is not earlier counts as none
  late : (k : ℕ) (b : Bind) (outer : ℕ) → k < length bs → get_or bs k b ≡ b → b.around ≡ Some outer → k ≤ outer → through given bs model nodes k ≡ ordered nodes (sets_at given nodes model b.node_set (begun scope))
  late k b outer h e a l =
      let c = chain-of k b h e in
      around-is k b c
      ∙ ap (λ ts. from ts (begun scope) >>= λ ms. ordered nodes (each (one (rule_of b).node_set) ms)) (ap (chain_around c.before) a ∙ past-end c.before outer [] (omega (arith, c.many)))

  -- a number that no bind has
  pub through-none : (k : ℕ) → length bs ≤ k → through given bs model nodes k ≡ Some (begun scope)
  through-none k h = ap (λ ts. from ts (begun scope)) (past-end (chains scope) k [] (omega (arith, chains-long [] bs)))

  pub through-in : (k : ℕ) (b : Bind) (outer : ℕ) (ns : List ℕ) → k < length bs → get_or bs k b ≡ b → outer_in b.around k ≡ Some outer → through given bs model nodes outer ≡ Some ns →
      through given bs model nodes k ≡ ordered nodes (sets_at given nodes model b.node_set ns)
  through-in k b outer ns h e o t = by b.around refl o
    where
      at : (n : ℕ) (c : Bool) → b.around ≡ Some n → nat_lt n k ≡ c → cond c (Some n) None ≡ Some outer → through given bs model nodes k ≡ ordered nodes (sets_at given nodes model b.node_set ns)
      at n true a c i =
          let j : n ≡ outer = cc i in
          through-regular k b h e (ap (λ o. is_regular o k) a ∙ c) ∙ ap (ordered nodes) (sets-around b outer ns (a ∙ ap Some j) t)
      at n false a c i = cc i

      by : (m : Option ℕ) → b.around ≡ m → outer_in m k ≡ Some outer → through given bs model nodes k ≡ ordered nodes (sets_at given nodes model b.node_set ns)
      by None a i = cc i
      by (Some n) a i = at n (nat_lt n k) a refl i

  pub through-alone : (k : ℕ) (b : Bind) → k < length bs → get_or bs k b ≡ b → outer_in b.around k ≡ None → through given bs model nodes k ≡ ordered nodes (sets_at given nodes model b.node_set (begun scope))
  through-alone k b h e o = by b.around refl o
    where
      at : (n : ℕ) (c : Bool) → b.around ≡ Some n → nat_lt n k ≡ c → cond c (Some n) None ≡ None → through given bs model nodes k ≡ ordered nodes (sets_at given nodes model b.node_set (begun scope))
      at n true a c i = cc i
      at n false a c i = let l : k ≤ n = grind (arith, nat_tests) in late k b n h e a l

      by : (m : Option ℕ) → b.around ≡ m → outer_in m k ≡ None → through given bs model nodes k ≡ ordered nodes (sets_at given nodes model b.node_set (begun scope))
      by None a i = through-regular k b h e (ap (λ o. is_regular o k) a) ∙ ap (ordered nodes) (sets-alone b a)
      by (Some n) a i = at n (nat_lt n k) a refl i

-- ---- what is kept

pub kept-is : (m : Option (Option (List ℕ))) (ns : List ℕ) → Some ns ≡ kept_in m → m ≡ Some (Some ns)
kept-is None ns h = cc h
kept-is (Some None) ns h = cc h
kept-is (Some (Some ms)) ns h = ap Some (sym h)

pub all-at : {X : Type 0} (p : X → Bool) (xs : List X) (k : ℕ) (x : X) → list_all p xs ≡ true → slice_get xs k ≡ Some x → p x ≡ true
all-at p [] k x h e = cc e
all-at p (y ∷ xs) zero x h e = ap p (sym (some-same e)) ∙ (and-true (p y) (list_all p xs) h).0
all-at p (y ∷ xs) (suc k) x h e = all-at p xs k x (and-true (p y) (list_all p xs) h).1 e

pub within : {X : Type 0} (xs : List X) (k : ℕ) (x : X) → slice_get xs k ≡ Some x → k < length xs
within [] k x e = cc e
within (y ∷ xs) zero x e = omega arith
within (y ∷ xs) (suc k) x e = let l : k < length xs = within xs k x e in omega (arith, l)

pub got : {X : Type 0} (xs : List X) (k : ℕ) (x d : X) → slice_get xs k ≡ Some x → get_or xs k d ≡ x
got [] k x d e = cc e
got (y ∷ xs) zero x d e = some-same e
got (y ∷ xs) (suc k) x d e = got xs k x d e

slice-more : {X : Type 0} (xs : List X) (x : X) (k : ℕ) (y : X) → slice_get (xs ++ x ∷ []) k ≡ Some y → (slice_get xs k ≡ Some y) ⊎ ((k ≡ length xs) × (x ≡ y))
slice-more [] x zero y e = inr (refl, some-same e)
slice-more [] x (suc k) y e = cc e
slice-more (z ∷ zs) x zero y e = inl e
slice-more (z ∷ zs) x (suc k) y e = elim (slice-more zs x k y e) [ inl a ↦ inl a | inr b ↦ inr (ap suc b.0, b.1) ]

module _ (given : Given) (bs : List Bind) (model : ℕ) (nodes : List Node) (old : List (Option (List ℕ))) (kept : AreKept given bs model nodes old) where
  -- nothing is kept of the next bind
  pub kept-none : (ns : List ℕ) → AreKept given bs model nodes (old ++ kept_if false ns ∷ [])
  kept-none ns k ms h = elim (slice-more old None k (Some ms) h) [ inl a ↦ kept k ms a | inr b ↦ cc b.1 ]

  -- or its nodes
  pub kept-more : (b : Bool) (ns : List ℕ) → (b ≡ true → through given bs model nodes (length old) ≡ Some ns) → AllLive ns nodes → AreKept given bs model nodes (old ++ kept_if b ns ∷ [])
  kept-more false ns t l = kept-none ns
  kept-more true ns t l = λ k ms h. elim (slice-more old (Some ns) k (Some ms) h) [
    | inl a ↦ kept k ms a
    | inr b ↦
        let same : ns ≡ ms = some-same b.1 in
        (ap (through given bs model nodes) b.0 ∙ t refl ∙ ap Some same, subst (λ l. AllLive l nodes) same l)
  ]
