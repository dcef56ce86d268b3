-- Steps of loops over the shape: what is done, and what is left.
use Rattle.std.proofs.Common.{◌≡◌, ℕ, suc, Bool, true, false, List, [], ◌∷◌, ◌++◌, Option, Some, None, option_map, refl, sym, ap, ◌∙◌, append_assoc}
use Rattle.std.specs.Prelude.{length}
use Rattle.xf_def_xpath.specs.declared.value.Value.{Value}
use Rattle.xf_def_xpath.specs.Conversions.{nodes_of}
use Rattle.xf_def_xpath.specs.Operators.{chained, linked}
use Rattle.xf_def_xpath.specs.Setting.{Setting, Focus, Meaning, LinkMeaning, Walk, ◌>>=◌, each, joined}
use Rattle.xf_def_xpath.specs.Steps.{is_true_at, kept_by_all, kept_from, walked, with_first}
use Rattle.xf_def_xpath.proofs.VisitFacts.{some-same, none-some}
use Rattle.xf_eval_shape.specs.Bound.{Gives}
use Rattle.xf_eval_shape.specs.Steps.{if_so}
use Rattle.xf_eval_shape.specs.Told.{IsTold}
use Rattle.xf_eval_shape.proofs.Filled.{append-none}

-- what is left behind what is done
abbrev pub onto : List ℕ → Option (List ℕ) → Option (List ℕ)
onto done left = option_map (λ rest. done ++ rest) left

pub onto-start : (left : Option (List ℕ)) → onto [] left ≡ left
onto-start None = refl
onto-start (Some xs) = refl

pub onto-end : (done : List ℕ) → onto done (Some []) ≡ Some done
onto-end done = ap Some (append-none done)

onto-first : (done : List ℕ) (n : ℕ) (b : Bool) (left : Option (List ℕ)) → onto done (left >>= λ rest. Some (with_first n b rest)) ≡ onto (done ++ if_so b n) left
onto-first done n b None = refl
onto-first done n true (Some rest) = ap Some (sym (append_assoc done (n ∷ []) rest))
onto-first done n false (Some rest) = ap (λ l. Some (l ++ rest)) (sym (append-none done))

-- ---- a predicate at one node

pub kept-more : (s : Setting) (m : Meaning) (size position : ℕ) (b : Bool) (done : List ℕ) (n : ℕ) (ns : List ℕ) → IsTold s m position size b →
    onto done (kept_from s m size position (n ∷ ns)) ≡ onto (done ++ if_so b n) (kept_from s m size (suc position) ns)
kept-more s m size position b done n ns told =
    ap (λ x. onto done (x >>= λ value. kept_from s m size (suc position) ns >>= λ rest. Some (with_first n (is_true_at s.given.decimals position value) rest))) (told.1 n)
    ∙ ap (λ c. onto done (kept_from s m size (suc position) ns >>= λ rest. Some (with_first n c rest))) told.2
    ∙ onto-first done n b (kept_from s m size (suc position) ns)

-- ---- a step from one node after another

abbrev pub gathered : List ℕ → Option (List (List ℕ)) → Option (List ℕ)
gathered done left = option_map (λ sets. done ++ joined sets) left

pub gathered-start : (left : Option (List (List ℕ))) → gathered [] left ≡ option_map joined left
gathered-start None = refl
gathered-start (Some sets) = refl

pub gathered-end : (done : List ℕ) → gathered done (Some []) ≡ Some done
gathered-end done = ap Some (append-none done)

pub gathered-more : (one : ℕ → Option (List ℕ)) (done : List ℕ) (n : ℕ) (ns ks : List ℕ) → one n ≡ Some ks → gathered done (each one (n ∷ ns)) ≡ gathered (done ++ ks) (each one ns)
gathered-more one done n ns ks e = ap (λ m. gathered done (m >>= λ y. each one ns >>= λ ys. Some (y ∷ ys))) e ∙ by (each one ns)
  where
    by : (left : Option (List (List ℕ))) → gathered done (left >>= λ ys. Some (ks ∷ ys)) ≡ gathered (done ++ ks) left
    by None = refl
    by (Some ys) = ap Some (sym (append_assoc done ks (joined ys)))

pub gathered-whole : (made : List ℕ → List ℕ) (left : Option (List (List ℕ))) (done : List ℕ) → option_map joined left ≡ Some done → option_map (λ sets. made (joined sets)) left ≡ Some (made done)
gathered-whole made None done e = none-some e
gathered-whole made (Some sets) done e = ap (λ l. Some (made l)) (some-same e)

-- ---- a chain of steps, of predicates, of operators

pub walked-more : (s : Setting) (walk : Walk) (walks : List Walk) (ns ms : List ℕ) → walk s ns ≡ Some ms → walked s (walk ∷ walks) ns ≡ walked s walks ms
walked-more s walk walks ns ms e = ap (λ m. m >>= λ reached. walked s walks reached) e

pub kept-all_more : (s : Setting) (m : Meaning) (ms : List Meaning) (ns ks : List ℕ) → kept_from s m (length ns) 1 ns ≡ Some ks → kept_by_all s (m ∷ ms) ns ≡ kept_by_all s ms ks
kept-all_more s m ms ns ks e = ap (λ x. x >>= λ left. kept_by_all s ms left) e

-- where the first operator gives a value, and so on
pub chained-more : (s : Setting) (c : Focus) (link : LinkMeaning) (links : List LinkMeaning) (v : Value) (ns ms : List ℕ) → Gives ms (linked link.operator v link.right s c) →
    ((w : Value) → nodes_of w ≡ ms → Gives ns (chained links w s c)) → Gives ns (chained (link ∷ links) v s c)
chained-more s c link links v ns ms g k = by (linked link.operator v link.right s c) g
  where
    by : (m : Option Value) → Gives ms m → Gives ns (m >>= λ value. chained links value s c)
    by None h = λ w e. none-some e
    by (Some w) h = k w (h w refl)
