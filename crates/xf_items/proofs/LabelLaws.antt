-- The first label or value of an element, and how a part that is too long makes the whole too long.
use Rattle.std.proofs.Common.{◌≡◌, ◌⊎◌, ℕ, Bool, true, false, cond, List, ◌∷◌, inl, inr, Option, Some, None, Err, refl, sym, ap, subst}
use Rattle.std.specs.Prelude.{find}
use Rattle.std.specs.List.{flat_map}
use Rattle.xf_def_syntax.specs.declared.element.Part.{Part}
use Rattle.xf_def_syntax.specs.declared.element.Part.TheVariants as part
use Rattle.xf_def_syntax.specs.Ordered.{child_in}
use Rattle.xf_def_xpath.specs.declared.fault.EvalFault.{EvalFault}
use Rattle.xf_def_xpath.specs.declared.fault.EvalFault.TheVariants.{Long, Memory}
use Rattle.xf_def_ui.specs.declared.answers.Item.{Item}
use Rattle.xf_def_ui.specs.Interface.{host}
use Rattle.xf_items.specs.declared.labels.Sought.{Sought}
use Rattle.xf_items.specs.declared.labels.Sought.TheVariants.{Label, Value}
use Rattle.xf_items.specs.Items.{Adds, is_sought}

-- where a part is too long, so is the whole
pub adds-fault : {A : Type 0} (e : EvalFault) (before after : List Item) (given : Option A) (whole : Option (List Item)) → (given ≡ None → whole ≡ None) → (e ≡ Memory) ⊎ ((e ≡ Long) × (given ≡ None))
    → Adds {X = Unit {0}} (Err e) before after whole
adds-fault e before after given whole f (inl h) = subst (λ x. Adds {X = Unit {0}} (Err x) before after whole) (sym h) tt
adds-fault e before after given whole f (inr h) = subst (λ x. Adds {X = Unit {0}} (Err x) before after whole) (sym h.0) (f h.1)

-- memory ran out
pub adds-memory : (e : EvalFault) (before after : List Item) (whole : Option (List Item)) → e ≡ Memory → Adds {X = Unit {0}} (Err e) before after whole
adds-memory e before after whole h = subst (λ x. Adds {X = Unit {0}} (Err x) before after whole) (sym h) tt

-- where what is put behind is too long, so is the whole
pub adds-whole : (e : EvalFault) (before after first new : List Item) (given whole : Option (List Item)) → (given ≡ None → whole ≡ None) → Adds {X = Unit {0}} (Err e) before after given
    → Adds {X = Unit {0}} (Err e) first new whole
adds-whole Memory before after first new given whole h j = tt
adds-whole Long before after first new given whole h j = h j

-- what is not there is neither
pub none-sought : (s : Sought) → is_sought s host ≡ false
none-sought Label = refl
none-sought Value = refl

pub some-same : {X : Type 0} {x y : X} → Some x ≡ Some y → x ≡ y
some-same e = cc e

-- ---- the first that passes a test

module _ (test : ℕ → Bool) where
  found-by : (n m : ℕ) (rest : List ℕ) (b : Bool) → cond b (Some m) None ≡ Some n → cond b (Some m) (find test rest) ≡ Some n
  found-by n m rest true h = h
  found-by n m rest false h = cc h

  pub find-here : (n : ℕ) (p : Part) (ps : List Part) → find test (child_in p) ≡ Some n → find test (flat_map child_in (p ∷ ps)) ≡ Some n
  find-here n (part.Text t) ps h = cc h
  find-here n (part.Element m) ps h = found-by n m (flat_map child_in ps) (test m) h

  later-by : (m : ℕ) (rest : List ℕ) (b : Bool) → cond b (Some m) None ≡ None → cond b (Some m) (find test rest) ≡ find test rest
  later-by m rest true h = cc h
  later-by m rest false h = refl

  pub find-later : (p : Part) (ps : List Part) → find test (child_in p) ≡ None → find test (flat_map child_in (p ∷ ps)) ≡ find test (flat_map child_in ps)
  find-later (part.Text t) ps h = refl
  find-later (part.Element m) ps h = later-by m (flat_map child_in ps) (test m) h
