-- The sets that a node set selects from nodes, node by node.
use Rattle.std.proofs.Common.{◌≡◌, ℕ, ◌+◌, ◌<◌, ◌≤◌, List, ◌∷◌, ◌++◌, map, drop, length, get_or, Option, Some, None, option_map, refl, sym, ap, ◌∙◌}
use Rattle.std.proofs.lemmas.List.{at_drop_more, at_drop_all}
use Rattle.xf_base.specs.Limits.{string_limit}
use Rattle.xf_def_syntax.specs.declared.expr.Expr.{Expr}
use Rattle.xf_def_forest.specs.declared.node.NodeId.{NodeId}
use Rattle.xf_def_forest.specs.Visit.{Visit}
use Rattle.xf_def_xpath.specs.declared.value.Value.{Value}
use Rattle.xf_def_xpath.specs.Setting.{◌>>=◌, each, in_order, joined}
use Rattle.xf_def_xpath.specs.Binding.{bound_nodes}
use Rattle.xf_def_xpath.specs.Conversions.{nodes_of}
use Rattle.xf_def_xpath.specs.Meaning.{meaning}
use Rattle.xf_def_xpath.specs.Reads.{trace}
use Rattle.xf_def_xpath.proofs.TraceKeeps.{meaning-of_trace}
use Rattle.xf_def_model.specs.Rules.{Scope}
use Rattle.xf_def_model.specs.Nested.{alone, set_from, setting_for}
use Rattle.xf_eval.proofs.Lists.{append-none}
use Rattle.xf_eval.proofs.Runs.{joined-more}

-- ---- from one node

pub set-given : (scope : Scope) (all : List Visit) (e : Expr) (n : ℕ) (v : Value) → meaning e (setting_for (Some string_limit) scope all n) (alone n) ≡ Some v →
    set_from (Some string_limit) scope all (trace e) n ≡ Some (bound_nodes all (nodes_of v))
set-given scope all e n v h =
    ap (λ m. option_map (λ v. bound_nodes all (nodes_of v)) (m (setting_for (Some string_limit) scope all n) (alone n))) (meaning-of_trace e) ∙ ap (option_map (λ v. bound_nodes all (nodes_of v))) h

pub set-long : (scope : Scope) (all : List Visit) (e : Expr) (n : ℕ) → meaning e (setting_for (Some string_limit) scope all n) (alone n) ≡ None →
    set_from (Some string_limit) scope all (trace e) n ≡ None
set-long scope all e n h =
    ap (λ m. option_map (λ v. bound_nodes all (nodes_of v)) (m (setting_for (Some string_limit) scope all n) (alone n))) (meaning-of_trace e) ∙ ap (option_map (λ v. bound_nodes all (nodes_of v))) h

-- ---- from all

abbrev numbers : List NodeId → List ℕ
numbers ids = map (λ (i : NodeId). i.number) ids

abbrev pub left : (ℕ → Option (List ℕ)) → List ℕ → List NodeId → Option (List ℕ)
left one found ids = option_map (λ sets. found ++ joined sets) (each one (numbers ids))

each-none : (one : ℕ → Option (List ℕ)) (found : List ℕ) (n : ℕ) (ns : List ℕ) → one n ≡ None → option_map (λ sets. found ++ joined sets) (each one (n ∷ ns)) ≡ None
each-none one found n ns h = ap (λ m. option_map (λ sets. found ++ joined sets) (m >>= λ y. each one ns >>= λ ys. Some (y ∷ ys))) h

through : (f : List ℕ → List ℕ) (m : Option (List (List ℕ))) → option_map (λ sets. f (joined sets)) m ≡ option_map f (option_map joined m)
through f None = refl
through f (Some sets) = refl

-- a set that is too long
pub sets-stuck : (one : ℕ → Option (List ℕ)) (all : List Visit) (found from : List ℕ) (ids : List NodeId) (i : ℕ) (d : NodeId) → numbers ids ≡ from →
    left one found (drop i ids) ≡ option_map joined (each one (numbers ids)) → i < length ids → one (get_or ids i d).number ≡ None →
    option_map (λ sets. in_order all (joined sets)) (each one from) ≡ None
sets-stuck one all found from ids i d e inv l h =
    through (in_order all) (each one from)
    ∙ ap (option_map (in_order all)) (ap (λ ns. option_map joined (each one ns)) (sym e) ∙ sym inv ∙ at_drop_more (left one found) ids i d l ∙ each-none one found (get_or ids i d).number (numbers (drop (i + 1) ids)) h)

pub sets-more : (one : ℕ → Option (List ℕ)) (found set : List ℕ) (ids : List NodeId) (i : ℕ) (d : NodeId) →
    left one found (drop i ids) ≡ option_map joined (each one (numbers ids)) → i < length ids → one (get_or ids i d).number ≡ Some set →
    left one (found ++ set) (drop (i + 1) ids) ≡ option_map joined (each one (numbers ids))
sets-more one found set ids i d inv l h =
    sym (at_drop_more (left one found) ids i d l ∙ joined-more one found (get_or ids i d).number (numbers (drop (i + 1) ids)) set h) ∙ inv

pub sets-done : (one : ℕ → Option (List ℕ)) (all : List Visit) (found result from : List ℕ) (ids : List NodeId) (i : ℕ) → numbers ids ≡ from →
    left one found (drop i ids) ≡ option_map joined (each one (numbers ids)) → length ids ≤ i → result ≡ in_order all found →
    option_map (λ sets. in_order all (joined sets)) (each one from) ≡ Some result
sets-done one all found result from ids i e inv l h =
    through (in_order all) (each one from)
    ∙ ap (option_map (in_order all)) (ap (λ ns. option_map joined (each one ns)) (sym e) ∙ sym inv ∙ at_drop_all (left one found) ids i l ∙ ap Some (append-none found))
    ∙ ap Some (sym h)
