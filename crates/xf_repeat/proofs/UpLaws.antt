-- The indexes after a first pass, and after the others.
use Rattle.std.proofs.Common.{◌≡◌, ℕ, ◌⊎◌, inl, inr, suc, Bool, true, false, not, List, Option, Some, None, option_map, Result, Ok, Err, refl, sym, ap, ◌∙◌, subst}
use Rattle.xf_def_xpath.specs.declared.fault.EvalFault.{EvalFault}
use Rattle.xf_def_xpath.specs.declared.fault.EvalFault.TheVariants as fault
use Rattle.xf_def_ui.specs.Around.{Around}
use Rattle.xf_def_ui.specs.Index.{Index, Stop, after_pass, again_unless, brought_up, pass, same_indexes}
use Rattle.xf_def_ui.specs.Interface.{Interface}
use Rattle.xf_repeat.specs.declared.fault.IndexFault.{IndexFault}
use Rattle.xf_repeat.specs.Passes.{BringsUp, moved_from, stopped}

module _ (f : Interface) (a : Around) (added : List ℕ) (most left : ℕ) (deep : most ≡ suc left) (before : List Index) where
  once : brought_up most f a added before ≡ after_pass (brought_up left f a added) before (pass f a added before)
  once = ap (λ k. brought_up k f a added before) deep

  pub up-stopped : (e : EvalFault) (now : List Index) → (e ≡ fault.Memory) ⊎ ((e ≡ fault.Long) × (option_map (moved_from before) (pass f a added before) ≡ None)) → BringsUp {X = Unit {0}} (Err (stopped e)) now (brought_up most f a added before)
  up-stopped fault.Long now (inl i) = cc i
  up-stopped fault.Long now (inr h) = once ∙ ap (after_pass (brought_up left f a added) before) (no-pass (pass f a added before) h.1)
    where
      no-pass : (o : Option (List Index)) → option_map (moved_from before) o ≡ None → o ≡ None
      no-pass None e = refl
      no-pass (Some after) e = cc e
  up-stopped fault.Memory now h = tt

  moves : (o : Option (List Index)) (after : List Index) (is_moved b : Bool) → option_map (moved_from before) o ≡ Some (after, is_moved) → is_moved ≡ b
      → after_pass (brought_up left f a added) before o ≡ again_unless (not b) (brought_up left f a added) after
  moves None after is_moved b h e = cc h
  moves (Some next) after is_moved b h e =
      let pair : moved_from before next ≡ (after, is_moved) = cc h in
      let same : next ≡ after = ap (λ (p : List Index × Bool). p.0) pair in
      let test : not (same_indexes before next) ≡ b = ap (λ (p : List Index × Bool). p.1) pair ∙ e in
      ap (λ t. again_unless t (brought_up left f a added) next) (turned (same_indexes before next) b test) ∙ ap (again_unless (not b) (brought_up left f a added)) same
    where
      turned : (s b : Bool) → not s ≡ b → s ≡ not b
      turned true true i = cc i
      turned true false i = refl
      turned false true i = refl
      turned false false i = cc i

  -- nothing is another
  pub up-still : (is_moved : Bool) (after : List Index) → option_map (moved_from before) (pass f a added before) ≡ Some (after, is_moved) → is_moved ≡ false → brought_up most f a added before ≡ Ok after
  up-still is_moved after h e = once ∙ moves (pass f a added before) after is_moved false h e

  pub up-again : (is_moved : Bool) (after : List Index) → option_map (moved_from before) (pass f a added before) ≡ Some (after, is_moved) → is_moved ≡ true → brought_up most f a added before ≡ brought_up left f a added after
  up-again is_moved after h e = once ∙ moves (pass f a added before) after is_moved true h e

pub up-given : {X : Type 0} (r : Result X IndexFault) (now : List Index) (given whole : Result (List Index) Stop) → whole ≡ given → BringsUp r now given → BringsUp r now whole
up-given r now given whole e h = subst (BringsUp r now) (sym e) h
