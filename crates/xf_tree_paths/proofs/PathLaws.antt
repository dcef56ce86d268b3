-- The path of a node by the instance in which it stands, where it stands in one, and where it does not stand in the forest.
use Rattle.std.proofs.Common.{◌≡◌, ℕ, zero, suc, ◌<◌, ◌≤◌, ◌==◌, Bool, true, false, cond, ◌||◌, List, [], ◌∷◌, ◌++◌, length, Option, Some, None, option_map, slice_get, Result, Ok, Err, IfOk, refl, sym, ap, ◌∙◌, subst, arith}
use Rattle.std.specs.Prelude.{find, nat_lt, reverse}
use Rattle.std.specs.List.{flat_map, list_any}
use Rattle.std.proofs.lemmas.Bool.Decides.{nat_tests}
use Rattle.xf_def_syntax.specs.declared.form.Instance.{Instance}
use Rattle.xf_def_forest.specs.declared.content.Node.{Node}
use Rattle.xf_def_forest.specs.Forest.{Forest, has_number, is_root}
use Rattle.xf_def_forest.specs.Order.{instance_of}
use Rattle.xf_def_forest.specs.Path.{path_of, or_slash, step_of, step_in}
use Rattle.xf_def_forest.specs.Visit.{Visit, visit, visits, visits_from, still_above, above_in, ancestors_of, last_of, top_of}
use Rattle.xf_def_machine.specs.State.{State}
use Rattle.xf_def_machine.specs.Surround.{all_in, instances_in, instance_holding, model_of_instance}
use Rattle.xf_def_machine.specs.Properties.{before_path, path_in, braced, pair_by}
use Rattle.xf_def_machine.specs.StateText.{is_place}
use Rattle.xf_tree_paths.specs.Holding.{IsAmong, IsPath, pair_among}
use Rattle.xf_tree_paths.proofs.PairLaws.{pair-is, path-is}

-- ---- a node that does not stand in the forest

none-found : (n : ℕ) (above xs : List Node) → has_number n xs ≡ false → find (λ (v : Visit). v.number == n) (visits_from above xs) ≡ None
none-found n above [] h = refl
none-found n above (x ∷ xs) h = by (none-found n (x ∷ still_above x.depth above) xs) (x.number == n) h
  where
    by : (has_number n xs ≡ false → find (λ (v : Visit). v.number == n) (visits_from (x ∷ still_above x.depth above) xs) ≡ None)
        → (b : Bool) → (b || has_number n xs) ≡ false → cond b (Some (visit above x)) (find (λ (v : Visit). v.number == n) (visits_from (x ∷ still_above x.depth above) xs)) ≡ None
    by later true i = cc i
    by later false i = later i

no-instance : (n : ℕ) (xs : List Node) → has_number n xs ≡ false → instance_of n xs ≡ None
no-instance n [] h = refl
no-instance n (x ∷ xs) h = by (no-instance n xs) (x.number == n) (is_root x.content) h
  where
    by : (has_number n xs ≡ false → instance_of n xs ≡ None) → (b r : Bool) → (b || has_number n xs) ≡ false → cond r (cond b (Some 0) (option_map suc (instance_of n xs))) (instance_of n xs) ≡ None
    by later true r i = cc i
    by later false true i = ap (option_map suc) (later i)
    by later false false i = later i

pub path-gone : (s : State) (n : ℕ) → has_number n s.forest.nodes ≡ false → path_in s n ≡ 47 ∷ []
path-gone s n h =
    let none = none-found n [] s.forest.nodes h in
    let top : top_of n (all_in s) ≡ n = ap (λ o. last_of n (above_in o)) none in
    ap (λ k. before_path s (instance_of k s.forest.nodes) ++ path_of n (all_in s)) top
    ∙ ap (λ o. before_path s o ++ path_of n (all_in s)) (no-instance n s.forest.nodes h)
    ∙ path
  where
    path : path_of n (visits s.forest.nodes) ≡ 47 ∷ []
    path =
        ap (λ o. or_slash (flat_map (step_of (visits s.forest.nodes)) (reverse (n ∷ above_in o)))) (none-found n [] s.forest.nodes h)
        ∙ ap (λ o. or_slash (step_in (visits s.forest.nodes) o ++ [])) (none-found n [] s.forest.nodes h)

-- ---- one that does

get-none : {X : Type 0} (xs : List X) (k : ℕ) → length xs ≤ k → slice_get xs k ≡ None
get-none [] k h = refl
get-none (x ∷ xs) zero h = absurd (omega (arith, h))
get-none (x ∷ xs) (suc k) h = get-none xs k (omega (arith, h))

self : (k : ℕ) → is_place k (Some k) ≡ true
self k = grind (arith, nat_tests)

pub path-known : (s : State) (n place : ℕ) (path : List ℕ) → instance_holding s n ≡ Some place → path ≡ braced (pair_among (instances_in s) place) ++ path_of n (all_in s) → path ≡ path_in s n
path-known s n place path h e = e ∙ sym (path-is s n place h ∙ ap (λ p. braced p ++ path_of n (all_in s)) (pair-is s place))

-- that of an instance beyond those of the form has no numbers before it either
pub path-alone : (s : State) (n : ℕ) (path : List ℕ) → IsAmong (length (instances_in s)) None (instance_holding s n) → path ≡ path_of n (all_in s) → path ≡ path_in s n
path-alone s n path h e = e ∙ sym (ap (λ l. l ++ path_of n (all_in s)) (by (instance_holding s n) h))
  where
    beyond : (k : ℕ) → (b : Bool) → nat_lt k (length (instances_in s)) ≡ b → ((place : ℕ) → place < length (instances_in s) → is_place place (Some k) ≡ false) → before_path s (Some k) ≡ []
    beyond k true t i = let l : k < length (instances_in s) = grind (arith, nat_tests, t) in cc (sym (self k) ∙ i k l)
    beyond k false t i =
        let l : length (instances_in s) ≤ k = grind (arith, nat_tests, t) in
        ap (λ o. braced (pair_by s k (option_map (λ (i : Instance). i.model) o))) (get-none (instances_in s) k l)

    by : (o : Option ℕ) → IsAmong (length (instances_in s)) None o → before_path s o ≡ []
    by None i = refl
    by (Some k) i = beyond k (nat_lt k (length (instances_in s))) refl i

pub not-live : (there told : Bool) → (there ≡ true → told ≡ true) → told ≡ false → there ≡ false
not-live true told tells h = sym (tells refl) ∙ h
not-live false told tells h = refl

pub place-some : (place : ℕ) (o : Option ℕ) → is_place place o ≡ true → o ≡ Some place
place-some place None h = cc h
place-some place (Some k) h = let same : place ≡ k = grind (arith, nat_tests, h) in ap Some (sym same)

pub if-ok : {X E : Type 0} {P Q : X → Type 0} (r : Result X E) → ((x : X) → P x → Q x) → IfOk r P → IfOk r Q
if-ok (Ok x) f h = f x h
if-ok (Err e) f h = h

pub gone-path : (instances : List Instance) (forest : Forest) (n : ℕ) (path : List ℕ) → has_number n forest.nodes ≡ false → path ≡ 47 ∷ [] → IsPath instances forest n path
gone-path instances forest n path h e s i f = e ∙ sym (path-gone s n (subst (λ (k : Forest). has_number n k.nodes ≡ false) (sym f) h))

abbrev holding : Forest → ℕ → Option ℕ
holding forest n = instance_of (top_of n (visits forest.nodes)) forest.nodes

pub known-path : (instances : List Instance) (forest : Forest) (n place : ℕ) (path : List ℕ) → holding forest n ≡ Some place
    → path ≡ braced (pair_among instances place) ++ path_of n (visits forest.nodes) → IsPath instances forest n path
known-path instances forest n place path h e s i f =
    path-known s n place path
    (subst (λ (k : Forest). holding k n ≡ Some place) (sym f) h)
    (e ∙ ap (λ is. braced (pair_among is place) ++ path_of n (visits forest.nodes)) (sym i) ∙ ap (λ (k : Forest). braced (pair_among (instances_in s) place) ++ path_of n (visits k.nodes)) (sym f))

pub alone-path : (instances : List Instance) (forest : Forest) (n : ℕ) (path : List ℕ) → IsAmong (length instances) None (holding forest n)
    → path ≡ path_of n (visits forest.nodes) → IsPath instances forest n path
alone-path instances forest n path h e s i f =
    path-alone s n path
    (subst (λ k. IsAmong k None (holding s.forest n)) (ap length (sym i)) (subst (λ (k : Forest). IsAmong (length instances) None (holding k n)) (sym f) h))
    (e ∙ ap (λ (k : Forest). path_of n (visits k.nodes)) (sym f))
