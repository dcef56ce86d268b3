-- What the calls on a draft and a forest tell of a text that is set.
use Rattle.std.proofs.Common.{◌≡◌, ℕ, zero, suc, ◌<◌, ◌≤◌, Bool, true, false, List, [], ◌∷◌, length, nat_lt, Option, Some, None, option_map, Result, Ok, Err, refl, sym, ap, ◌∙◌, subst, inl, inr, arith}
use Rattle.std.specs.Prelude.{IsTrue, ◌↔◌, ◌⊎◌, option_and_then, slice_get}
use Rattle.std.proofs.lemmas.Bool.Decides.{nat_tests}
use Rattle.xf_def_syntax.specs.declared.form.Instance.{Instance}
use Rattle.xf_def_forest.specs.declared.content.Kind.TheVariants.{Attribute, Element}
use Rattle.xf_def_forest.specs.declared.fault.TreeFault.{TreeFault}
use Rattle.xf_def_forest.specs.declared.fault.TreeFault.TheVariants as tree
use Rattle.xf_def_forest.specs.Forest.{Forest, kind_at}
use Rattle.xf_def_forest.specs.Limits.{limits, passed_by_text, unless}
use Rattle.xf_def_forest.specs.Needs.{IsSettable}
use Rattle.xf_def_forest.specs.Shape.{has_elements}
use Rattle.xf_def_forest.specs.Texts as texts
use Rattle.xf_def_forest.specs.Texts.{text_set}
use Rattle.xf_def_forest.specs.Visit.{visits}
use Rattle.xf_def_xpath.proofs.VisitFacts.{no}
use Rattle.xf_def_machine.specs.declared.limit.LimitWord.TheVariants as word
use Rattle.xf_def_machine.specs.StateText.{is_place}
use Rattle.xf_undo.specs.Draft.{Draft, alone, changed, with_text}
use Rattle.xf_engine_state.specs.Planting.{fault_of}
use Rattle.xf_engine_state.specs.Setting.{SaysLimit}

-- ---- what may be set

pub has-elements : (n : ℕ) (forest : Forest) (told : Bool) → (IsTrue told ↔ IsSettable n forest) → told ≡ false → (kind_at n forest.nodes ≡ Some Attribute) ⊎ (kind_at n forest.nodes ≡ Some Element)
    → has_elements (visits forest.nodes) n ≡ true
has-elements n forest told tells untold kind = by (has_elements (visits forest.nodes) n) refl
  where
    untrue : IsTrue told → ⊥
    untrue h = no (subst IsTrue untold h)

    by : (b : Bool) → has_elements (visits forest.nodes) n ≡ b → b ≡ true
    by true e = refl
    by false e = absurd (untrue (tells.1 (record { kind = kind; childless = e })))

-- ---- a text over a draft

module _ (d : Draft) (n : ℕ) (text : List ℕ) where
  abbrev after : Forest
  after = texts.with_text n text d.now

  abbrev given : Result Draft TreeFault
  given = with_text d (text_set limits n text (alone d.now))

  ok-same : (a b : Draft) → ◌≡◌ {A = Result Draft TreeFault} (Ok a) (Ok b) → a ≡ b
  ok-same a b e = cc e

  err-same : (a b : TreeFault) → ◌≡◌ {A = Result Draft TreeFault} (Err a) (Err b) → a ≡ b
  err-same a b e = cc e

  pub text-is : (new : Draft) → given ≡ Ok new → (new ≡ changed d after) × (passed_by_text limits (length text) after.nodes ≡ None)
  text-is new e = by (passed_by_text limits (length text) after.nodes) e
    where
      by : (o : Option TreeFault) → with_text d (unless o (texts.before_of n d.now.nodes, record { forest = after; kept = texts.taken_from n d.now.nodes })) ≡ Ok new → (new ≡ changed d after) × (o ≡ None)
      by None i = (sym (ok-same (changed d after) new i), refl)
      by (Some f) i = cc i

  pub text-fault : (f : TreeFault) → given ≡ Err f → passed_by_text limits (length text) after.nodes ≡ Some f
  text-fault f e = by (passed_by_text limits (length text) after.nodes) e
    where
      by : (o : Option TreeFault) → with_text d (unless o (texts.before_of n d.now.nodes, record { forest = after; kept = texts.taken_from n d.now.nodes })) ≡ Err f → o ≡ Some f
      by None i = cc i
      by (Some g) i = ap Some (err-same g f i)

pub says-limit : (f : TreeFault) (o : Option TreeFault) → (f ≡ tree.Memory) ⊎ (o ≡ Some f) → SaysLimit (fault_of f) o
says-limit tree.Nodes o (inl e) = cc e
says-limit tree.NodeText o (inl e) = cc e
says-limit tree.AllText o (inl e) = cc e
says-limit tree.Depth o (inl e) = cc e
says-limit tree.Nodes o (inr e) = subst (SaysLimit (fault_of tree.Nodes)) (sym e) (word.Nodes, refl, refl)
says-limit tree.NodeText o (inr e) = subst (SaysLimit (fault_of tree.NodeText)) (sym e) (word.Text, refl, refl)
says-limit tree.AllText o (inr e) = subst (SaysLimit (fault_of tree.AllText)) (sym e) (word.All, refl, refl)
says-limit tree.Depth o (inr e) = subst (SaysLimit (fault_of tree.Depth)) (sym e) (word.Depth, refl, refl)
says-limit tree.BadName o e = tt
says-limit tree.Prefix o e = tt
says-limit tree.Memory o e = tt

-- ---- the model that holds a node

get-none : {X : Type 0} (xs : List X) (k : ℕ) → length xs ≤ k → slice_get xs k ≡ None
get-none [] k h = refl
get-none (x ∷ xs) zero h = absurd (omega (arith, h))
get-none (x ∷ xs) (suc k) h = get-none xs k (omega (arith, h))

same-place : (k : ℕ) → is_place k (Some k) ≡ true
same-place k = grind (arith, nat_tests)

abbrev pub model_by : List Instance → Option ℕ → Option ℕ
model_by instances o = option_and_then (λ place. option_map (λ (i : Instance). i.model) (slice_get instances place)) o

pub holder-none : (instances : List Instance) (o : Option ℕ) → ((place : ℕ) → place < length instances → is_place place o ≡ false) → model_by instances o ≡ None
holder-none instances None h = refl
holder-none instances (Some k) h = by (nat_lt k (length instances)) refl
  where
    by : (b : Bool) → nat_lt k (length instances) ≡ b → model_by instances (Some k) ≡ None
    by true e = let l : k < length instances = grind (arith, nat_tests, e) in cc (sym (same-place k) ∙ h k l)
    by false e = let l : length instances ≤ k = grind (arith, nat_tests, e) in ap (option_map (λ (i : Instance). i.model)) (get-none instances k l)

-- ---- how many children

pub two-children : (a b : ℕ) (rest children : List ℕ) → children ≡ a ∷ b ∷ rest → nat_lt 1 (length children) ≡ true
two-children a b rest children e = let long : length children ≡ suc (suc (length rest)) = ap length e in grind (arith, nat_tests, long)

pub one-child : (a : ℕ) (children : List ℕ) → children ≡ a ∷ [] → nat_lt 1 (length children) ≡ false
one-child a children e = ap (λ l. nat_lt 1 (length l)) e

pub no-child : (children : List ℕ) → children ≡ [] → nat_lt 1 (length children) ≡ false
no-child children e = ap (λ l. nat_lt 1 (length l)) e
