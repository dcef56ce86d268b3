-- The numbers by which an instance is told, and the path of a node in it.
use Rattle.std.proofs.Common.{◌≡◌, ℕ, suc, ◌+◌, ◌==◌, ◌++◌, List, Option, Some, None, option_map, refl, sym, ap, ◌∙◌, arith}
use Rattle.std.specs.Prelude.{take, count_by, slice_get}
use Rattle.xf_def_syntax.specs.declared.form.Instance.{Instance}
use Rattle.xf_def_forest.specs.Path.{path_of}
use Rattle.xf_def_machine.specs.State.{State}
use Rattle.xf_def_machine.specs.Surround.{all_in, instances_in, instance_holding}
use Rattle.xf_def_machine.specs.Properties.{pair_by, pair_at, before_path, path_in, braced}
use Rattle.xf_tree_paths.specs.Holding.{pair_for, pair_among}

-- ---- the numbers of an instance

pair-for : (s : State) (place : ℕ) (o : Option Instance) → pair_by s place (option_map (λ (i : Instance). i.model) o) ≡ pair_for (instances_in s) place o
pair-for s place None = refl
pair-for s place (Some i) = refl

pub pair-is : (s : State) (place : ℕ) → pair_at s place ≡ pair_among (instances_in s) place
pair-is s place = pair-for s place (slice_get (instances_in s) place)

pub path-is : (s : State) (n place : ℕ) → instance_holding s n ≡ Some place → path_in s n ≡ braced (pair_at s place) ++ path_of n (all_in s)
path-is s n place h = ap (λ o. before_path s o ++ path_of n (all_in s)) h

pub pair-found : (instances : List Instance) (place number : ℕ) (i : Instance) → slice_get instances place ≡ Some i → number ≡ suc (count_by (λ (j : Instance). j.model == i.model) (take place instances)) → (i.model + 1, number) ≡ pair_among instances place
pair-found instances place number i h e =
    let model : i.model + 1 ≡ suc i.model = omega arith in
    ap (λ k. (k, number)) model ∙ ap (λ k. (suc i.model, k)) e ∙ sym (ap (pair_for instances place) h)
