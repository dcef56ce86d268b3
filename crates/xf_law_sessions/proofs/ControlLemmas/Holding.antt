-- A node of an instance stands in the part of the model of its root.
use Rattle.std.proofs.Common.{◌≡◌, ℕ, zero, suc, ◌<◌, ◌==◌, Bool, true, false, not, cond, ◌&&◌, ◌||◌, List, [], ◌∷◌, map, length, nat_le, Option, Some, None, option_map, refl, sym, ap, ◌∙◌, subst, inl, inr, arith, if◌then◌else◌}
use Rattle.std.specs.Prelude.{filter, slice_get, option_and_then, ◌≤◌, ◌⊎◌}
use Rattle.std.proofs.lemmas.Bool.Decides.{nat_tests}
use Rattle.xf_def_syntax.specs.declared.form.Instance.{Instance}
use Rattle.xf_def_forest.specs.declared.content.Node.{Node}
use Rattle.xf_def_forest.specs.Changes.{is_detached_top, in_instances}
use Rattle.xf_def_forest.specs.Forest.{Forest, is_root, has_number}
use Rattle.xf_def_forest.specs.Visit.{has}
use Rattle.xf_def_forest.specs.WellFormed.{are_depths_from, reach}
use Rattle.xf_def_forest.proofs.BackLaws.{and-true}
use Rattle.xf_def_xpath.proofs.VisitFacts.{no, self-same, or-left, or-right}
use Rattle.xf_law_forests.specs.Root.Roots.{roots_in}
use Rattle.xf_law_recalculation.specs.Elsewhere.Parts.{own_roots, is_under, trees_from, part_of}
use Rattle.xf_law_recalculation.specs.Held.Held.{is_held}
use Rattle.xf_law_recalculation.proofs.HeldLemmas.Held.{held_in_part}
use Rattle.xf_def_model.specs.Pertinent.{AllOf}
use Rattle.xf_def_machine.specs.Surround.{instances_in, instance_holding, model_of_instance, model_holding}
use Rattle.xf_law_sessions.specs.Control.Holding.{InstancesHold}
use Rattle.xf_law_sessions.specs.Control.Leaves.{IsHeldOrOut}

-- a root is one of those of a model, where there are instances enough
own-some : (n : ℕ) (is : List Instance) (roots : List ℕ) → length roots ≤ length is → has n roots ≡ true → (model : ℕ) × (has n (own_roots model is roots) ≡ true)
own-some n is [] l h = no h
own-some n [] (root ∷ roots) l h = let bad : ⊥ = omega (arith, l) in absurd bad
own-some n (i ∷ is) (root ∷ roots) l h = by (n == root) refl h (own-some n is roots (omega (arith, l)))
  where
    here : (n == root) ≡ true → has n (if i.model == i.model then root ∷ own_roots i.model is roots else own_roots i.model is roots) ≡ true
    here e = ap (λ b. has n (cond b (root ∷ own_roots i.model is roots) (own_roots i.model is roots))) (self-same i.model) ∙ or-left (n == root) (has n (own_roots i.model is roots)) e

    there : (model : ℕ) (b : Bool) → has n (own_roots model is roots) ≡ true → has n (cond b (root ∷ own_roots model is roots) (own_roots model is roots)) ≡ true
    there model true e = or-right (n == root) (has n (own_roots model is roots)) e
    there model false e = e

    by : (b : Bool) → (n == root) ≡ b → (b || has n roots) ≡ true → (has n roots ≡ true → (model : ℕ) × (has n (own_roots model is roots) ≡ true))
        → (model : ℕ) × (has n (own_roots model (i ∷ is) (root ∷ roots)) ≡ true)
    by true e j f = (i.model, here e)
    by false e j f = let r = f j in (r.0, there r.0 (i.model == r.0) r.1)

module _ (instances : List Instance) (roots : List ℕ) (enough : length roots ≤ length instances) (n : ℕ) where
  abbrev tops : ℕ → List ℕ
  tops model = own_roots model instances roots

  -- the node is in the part of the model, whatever came before
  abbrev Found : List Node → ℕ → Type 0
  Found xs model = (b : Bool) → has_number n (trees_from (tops model) b xs) ≡ true

  abbrev led : ℕ → Node → List Node → Bool → List Node
  led model x xs b = cond b (x ∷ trees_from (tops model) b xs) (trees_from (tops model) b xs)

  -- so it is where a node comes before
  behind : (model : ℕ) (x : Node) (xs : List Node) → Found xs model → Found (x ∷ xs) model
  behind model x xs f b = by (is_under (tops model) b x)
    where
      by : (c : Bool) → has_number n (led model x xs c) ≡ true
      by true = or-right (x.number == n) (has_number n (trees_from (tops model) true xs)) (f true)
      by false = f false

  -- under a root of the model
  rooted : (model : ℕ) (x : Node) (xs : List Node) → (x.depth == 0) ≡ true → has x.number (tops model) ≡ true → ((x.number == n) || has_number n (trees_from (tops model) true xs)) ≡ true → Found (x ∷ xs) model
  rooted model x xs top own h b = ap (λ c. has_number n (led model x xs c)) (ap (λ c. cond c (has x.number (tops model)) b) top ∙ own) ∙ h

  abbrev In : List Node → Type 0
  In xs = has_number n (in_instances xs) ≡ true

  -- the roots of these are among the roots
  abbrev AreRoots : List Node → Type 0
  AreRoots xs = (k : ℕ) → has k (roots_in xs) ≡ true → has k roots ≡ true

  -- behind a node of the part of this model the node is in it, or in another part
  abbrev Ends : List Node → ℕ → Type 0
  Ends xs model = (has_number n (trees_from (tops model) true xs) ≡ true) ⊎ ((other : ℕ) × Found xs other)

  rest-roots : (x : Node) (xs : List Node) → AreRoots (x ∷ xs) → AreRoots xs
  rest-roots x xs h k i = h k (by (is_root x.content))
    where
      by : (b : Bool) → has k (map (λ (y : Node). y.number) (cond b (x ∷ filter (λ y. is_root y.content) xs) (filter (λ y. is_root y.content) xs))) ≡ true
      by true = or-right (k == x.number) (has k (roots_in xs)) i
      by false = i

  root-one : (x : Node) (xs : List Node) → AreRoots (x ∷ xs) → is_root x.content ≡ true → has x.number roots ≡ true
  root-one x xs h e =
      h x.number (ap (λ b. has x.number (map (λ (y : Node). y.number) (cond b (x ∷ filter (λ y. is_root y.content) xs) (filter (λ y. is_root y.content) xs)))) e
      ∙ or-left (x.number == x.number) (has x.number (roots_in xs)) (self-same x.number))

  -- a root of an instance
  at-root : (x : Node) (xs : List Node) → AreRoots (x ∷ xs) → (x.depth == 0) ≡ true → is_root x.content ≡ true → ((x.number == n) || has_number n (in_instances xs)) ≡ true
      → ((model : ℕ) → In xs → Ends xs model) → (other : ℕ) × Found (x ∷ xs) other
  at-root x xs h top root i f = by own (x.number == n) refl i
    where
      own : (model : ℕ) × (has x.number (tops model) ≡ true)
      own = own-some x.number instances roots enough (root-one x xs h root)

      of : (o : (model : ℕ) × (has x.number (tops model) ≡ true)) → (x.number == n) ≡ false → Ends xs o.0 → (other : ℕ) × Found (x ∷ xs) other
      of o e (inl j) = (o.0, rooted o.0 x xs top o.1 (or-right (x.number == n) (has_number n (trees_from (tops o.0) true xs)) j))
      of o e (inr j) = (j.0, behind j.0 x xs j.1)

      by : (o : (model : ℕ) × (has x.number (tops model) ≡ true)) → (b : Bool) → (x.number == n) ≡ b → (b || has_number n (in_instances xs)) ≡ true → (other : ℕ) × Found (x ∷ xs) other
      by o true e j = (o.0, rooted o.0 x xs top o.1 (or-left (x.number == n) (has_number n (trees_from (tops o.0) true xs)) e))
      by o false e j = of o e (f o.0 j)

  -- no detached top at the depth of tops is a root
  top-root : (d r : Bool) → (d && not r) ≡ false → d ≡ true → r ≡ true
  top-root true true h e = refl
  top-root true false h e = cc h
  top-root false r h e = cc e

  ends : (xs : List Node) (model : ℕ) → AreRoots xs → In xs → Ends xs model
  ends [] model h i = no i
  ends (x ∷ xs) model h i = by (is_detached_top x) refl i (λ other. ends xs other (rest-roots x xs h))
    where
      under : (x.depth == 0) ≡ false → is_under (tops model) true x ≡ true
      under e = ap (λ c. cond c (has x.number (tops model)) true) e

      deep : (x.depth == 0) ≡ false → ((x.number == n) || has_number n (in_instances xs)) ≡ true → ((other : ℕ) → In xs → Ends xs other) → Ends (x ∷ xs) model
      deep e j f = of (x.number == n) refl j
        where
          here : ((x.number == n) || has_number n (trees_from (tops model) true xs)) ≡ true → has_number n (trees_from (tops model) true (x ∷ xs)) ≡ true
          here k = ap (λ c. has_number n (led model x xs c)) (under e) ∙ k

          later : Ends xs model → Ends (x ∷ xs) model
          later (inl k) = inl (here (or-right (x.number == n) (has_number n (trees_from (tops model) true xs)) k))
          later (inr k) = inr (k.0, behind k.0 x xs k.1)

          of : (b : Bool) → (x.number == n) ≡ b → (b || has_number n (in_instances xs)) ≡ true → Ends (x ∷ xs) model
          of true q k = inl (here (or-left (x.number == n) (has_number n (trees_from (tops model) true xs)) q))
          of false q k = later (f model k)

      by : (b : Bool) → is_detached_top x ≡ b → has_number n (cond b [] (x ∷ in_instances xs)) ≡ true → ((other : ℕ) → In xs → Ends xs other) → Ends (x ∷ xs) model
      by true t j f = no j
      by false t j f = of (x.depth == 0) refl
        where
          of : (d : Bool) → (x.depth == 0) ≡ d → Ends (x ∷ xs) model
          of true e = inr (at-root x xs h e (top-root (x.depth == 0) (is_root x.content) t e) j f)
          of false e = deep e j f

  pub part-some : (xs : List Node) → are_depths_from 0 xs ≡ true → AreRoots xs → In xs → (model : ℕ) × Found xs model
  part-some [] d h i = no i
  part-some (x ∷ xs) d h i = by (is_detached_top x) refl i
    where
      top : (x.depth == 0) ≡ true
      top = let low = (and-true (nat_le x.depth 0) (are_depths_from (reach x) xs) d).0 in grind (arith, nat_tests, low)

      by : (b : Bool) → is_detached_top x ≡ b → has_number n (cond b [] (x ∷ in_instances xs)) ≡ true → (model : ℕ) × Found (x ∷ xs) model
      by true t j = no j
      by false t j = at-root x xs h top (top-root (x.depth == 0) (is_root x.content) t top) j (λ other. ends xs other (rest-roots x xs h))

-- ---- of a state

model-low : (count : ℕ) (is : List Instance) (place model : ℕ) → AllOf (λ (i : Instance). i.model < count) is → option_map (λ (i : Instance). i.model) (slice_get is place) ≡ Some model → model < count
model-low count [] place model h e = cc e
model-low count (i ∷ is) zero model h e = let same : i.model ≡ model = cc e in subst (λ n. n < count) same h.0
model-low count (i ∷ is) (suc place) model h e = model-low count is place model h.1 e

pub instances_hold : InstancesHold
instances_hold s n trees h = by (model_holding s n) refl
  where
    low : (o : Option ℕ) (model : ℕ) → option_and_then (model_of_instance s) o ≡ Some model → model < length s.models
    low None model e = cc e
    low (Some place) model e = model-low (length s.models) (instances_in s) place model h.models e

    out : model_holding s n ≡ None → (b : Bool) → has_number n (in_instances s.forest.nodes) ≡ b → b ≡ false
    out e false i = refl
    out e true i =
        let found = part-some (instances_in s) (roots_in s.forest.nodes) h.roots n s.forest.nodes trees.depths (λ k j. j) i in
        let part : Forest = record { nodes = part_of (instances_in s) found.0 s.forest.nodes; next = 0 } in
        sym (found.1 false) ∙ held_in_part (instances_in s) found.0 n part s.forest (record { nodes = refl }) trees ∙ ap (is_held found.0) e

    by : (o : Option ℕ) → model_holding s n ≡ o → IsHeldOrOut n s o
    by None e = out e (has_number n (in_instances s.forest.nodes)) refl
    by (Some model) e = low (instance_holding s n) model e
