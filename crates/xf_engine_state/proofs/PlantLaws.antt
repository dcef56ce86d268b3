-- A tree that is planted under a root of its own, as the form machine plants it.
use Rattle.std.proofs.Common.{◌≡◌, ℕ, ◌+◌, Bool, true, false, List, [], ◌∷◌, ◌++◌, length, Option, Some, None, Result, Ok, Err, refl, sym, ap, ◌∙◌, subst, ◌⊎◌, inl, inr, arith}
use Rattle.xf_name.specs.Bindings.{Bindings}
use Rattle.xf_name.specs.Faults.{name_fault}
use Rattle.xf_name.specs.Written.{Written, elements_of}
use Rattle.xf_name.specs.declared.fault.NameFault.{NameFault}
use Rattle.xf_name.specs.declared.fault.NameFault.TheVariants as name
use Rattle.xf_name.specs.declared.lit.Lit.{Lit}
use Rattle.xf_def_syntax.specs.declared.form.Instance.{Instance}
use Rattle.xf_def_forest.specs.declared.content.Content.{Content}
use Rattle.xf_def_forest.specs.declared.fault.TreeFault.{TreeFault}
use Rattle.xf_def_forest.specs.declared.fault.TreeFault.TheVariants as tree
use Rattle.xf_def_forest.specs.declared.content.Kind.TheVariants.{Element}
use Rattle.xf_def_forest.specs.Changes.{in_detached, with_root, without_tree}
use Rattle.xf_def_forest.specs.Forest.{Forest, kind_at}
use Rattle.xf_def_forest.specs.Limits.{limits, passed_by_tree, unless}
use Rattle.xf_def_forest.specs.Plant.{contents_of, numbered_from}
use Rattle.xf_def_forest.specs.Planted.{fault_by, first_fault, is_unknown_space, lit_fault, or_later, planted, tree_fault, unless_fault, with_tree, written_fault}
use Rattle.xf_def_forest.specs.WellFormed.{are_below}
use Rattle.xf_def_forest.proofs.FreeLaws.{fresh-nodes}
use Rattle.xf_law_recalculation.specs.Agree.Hung.{are_hung}
use Rattle.xf_def_machine.specs.declared.limit.LimitWord.{LimitWord}
use Rattle.xf_def_machine.specs.declared.limit.LimitWord.TheVariants as word
use Rattle.xf_def_machine.specs.Construct.{plant_document, rooted}
use Rattle.xf_def_machine.specs.Primitives.{grown, over_made}
use Rattle.xf_def_machine.specs.Refusal.{Refused, limit, words_of}
use Rattle.xf_def_machine.specs.State.{State}
use Rattle.xf_form.specs.Data.{lit_at}
use Rattle.xf_form.specs.declared.loaded.Loaded.{Loaded}
use Rattle.xf_def_machine.specs.declared.refusal.Refusal.TheVariants.{Limit}
use Rattle.xf_engine_state.specs.declared.fault.WorkFault.{WorkFault}
use Rattle.xf_engine_state.specs.declared.fault.WorkFault.TheVariants as work
use Rattle.xf_def_form.specs.Formed.{profile, contents_in}
use Rattle.xf_engine_state.specs.Does.{IsRefused}
use Rattle.xf_engine_state.specs.Planting.{Grows, IsPlanted, document_in, fault_of, growing}
use Rattle.xf_engine_state.proofs.DeepLaws.{none-rooted, planted-apart}
use Rattle.xf_engine_state.proofs.RootedLaws.{rooted-hung}

-- ---- the faults of names are those of no limit

abbrev pub is_name : TreeFault → Bool
is_name tree.BadName = true
is_name tree.Prefix = true
is_name fault = false

name-is : (n : NameFault) → is_name (tree_fault n) ≡ true
name-is name.BadName = refl
name-is n = refl

abbrev names : Option TreeFault → Type 0
names None = Unit {0}
names (Some fault) = is_name fault ≡ true

by-name : (n : Option NameFault) (b : Bool) → names (fault_by n b)
by-name (Some n) b = name-is n
by-name None true = refl
by-name None false = tt

later-names : (o later : Option TreeFault) → names o → names later → names (or_later o later)
later-names None later h i = i
later-names (Some fault) later h i = h

first-names : (b : Bindings) (es : List Written) → names (first_fault (written_fault b) es)
first-names b [] = tt
first-names b (e ∷ es) = later-names (written_fault b e) (first_fault (written_fault b) es) (by-name (name_fault b e.name e.attributes) (is_unknown_space b e.default)) (first-names b es)

-- ---- with or without such a fault

without-fault : (o : Option TreeFault) (w : Result (ℕ × Forest) TreeFault) (x : ℕ × Forest) → unless_fault o w ≡ Ok x → w ≡ Ok x
without-fault None w x e = e
without-fault (Some fault) w x e = cc e

same-fault : (a b : TreeFault) → ◌≡◌ {A = Result (ℕ × Forest) TreeFault} (Err a) (Err b) → a ≡ b
same-fault a b e = cc e

of-tree : (o : Option TreeFault) (w : Result (ℕ × Forest) TreeFault) (fault : TreeFault) → names o → is_name fault ≡ false → unless_fault o w ≡ Err fault → w ≡ Err fault
of-tree None w fault h n e = e
of-tree (Some other) w fault h n e = let same = same-fault other fault e in cc (sym h ∙ ap is_name same ∙ n)

-- what is new stands behind all else, its top first
pub record IsGrown (contents : List (ℕ × Content)) (forest : Forest) (n : ℕ) (f : Forest) : Type 0 where
  pub top : n ≡ forest.next
  pub nodes : f.nodes ≡ forest.nodes ++ numbered_from forest.next contents
  pub next : f.next ≡ forest.next + length contents

grown-tree : (contents : List (ℕ × Content)) (forest : Forest) (n : ℕ) (f : Forest) → with_tree limits contents forest ≡ Ok (n, f) → IsGrown contents forest n f
grown-tree contents forest n f e = by (passed_by_tree limits (numbered_from forest.next contents) (forest.nodes ++ numbered_from forest.next contents)) e
  where
    after : Forest
    after = record { nodes = forest.nodes ++ numbered_from forest.next contents; next = forest.next + length contents }

    same : (p q : ℕ × Forest) → ◌≡◌ {A = Result (ℕ × Forest) TreeFault} (Ok p) (Ok q) → p ≡ q
    same p q i = cc i

    by : (o : Option TreeFault) → unless {X = ℕ × Forest} o (forest.next, after) ≡ Ok (n, f) → IsGrown contents forest n f
    by None i =
        let is = same (forest.next, after) (n, f) i in
        record { top = sym (ap (λ (p : ℕ × Forest). p.0) is); nodes = sym (ap (λ (p : ℕ × Forest). p.1.nodes) is); next = sym (ap (λ (p : ℕ × Forest). p.1.next) is) }
    by (Some fault) i = cc i

-- ---- a step

module _ (loaded : Loaded) (instance : Instance) (forest : Forest) (made : ℕ) (lit : Lit) (at : lit_at instance.place loaded.lit ≡ Some lit) where
  abbrev contents : List (ℕ × Content)
  contents = contents_of loaded.prefixes lit instance.space 0

  abbrev step : Result (ℕ × Forest) TreeFault → Result State Refused
  step w = rooted (grown profile (length contents) w (growing loaded forest made))

  document-is : document_in loaded instance forest made ≡ step (with_tree limits contents forest)
  document-is = ap (λ o. plant_document profile (contents_in loaded.prefixes instance.space o) (growing loaded forest made)) at

  abbrev plant : Result (ℕ × Forest) TreeFault
  plant = planted limits loaded.prefixes instance.space lit forest

  tree-ok : (n : ℕ) (f : Forest) → planted limits loaded.prefixes instance.space lit forest ≡ Ok (n, f) → with_tree limits contents forest ≡ Ok (n, f)
  tree-ok n f e = without-fault (lit_fault loaded.prefixes lit) (with_tree limits contents forest) (n, f) e

  pub step-grown : (n : ℕ) (f : Forest) → planted limits loaded.prefixes instance.space lit forest ≡ Ok (n, f) → IsGrown contents forest n f
  step-grown n f e = grown-tree contents forest n f (tree-ok n f e)

  -- beside the new tree stands what stood before
  pub step-apart : (n : ℕ) (f : Forest) → are_below forest.next forest.nodes ≡ true → planted limits loaded.prefixes instance.space lit forest ≡ Ok (n, f) → without_tree n f.nodes ≡ forest.nodes
  step-apart n f below e =
      let is = step-grown n f e in
      ap (λ k. without_tree k f.nodes) is.top
      ∙ planted-apart loaded.prefixes lit instance.space forest f (fresh-nodes forest.next forest.next forest.nodes (omega arith) below) is.nodes

  pub step-alone : (n root : ℕ) (f after : Forest) → are_below forest.next forest.nodes ≡ true → in_detached forest.nodes ≡ [] → planted limits loaded.prefixes instance.space lit forest ≡ Ok (n, f)
      → (root, after) ≡ with_root n f → in_detached after.nodes ≡ []
  step-alone n root f after below none e r =
      ap (λ (p : ℕ × Forest). in_detached p.1.nodes) r ∙ none-rooted n f (ap in_detached (step-apart n f below e) ∙ none)

  pub step-hung : (n root : ℕ) (f after : Forest) → are_below forest.next forest.nodes ≡ true → in_detached forest.nodes ≡ [] → are_hung forest.nodes ≡ true → kind_at n f.nodes ≡ Some Element
      → planted limits loaded.prefixes instance.space lit forest ≡ Ok (n, f) → (root, after) ≡ with_root n f → are_hung after.nodes ≡ true
  step-hung n root f after below none hung kind e r =
      ap (λ (p : ℕ × Forest). are_hung p.1.nodes) r ∙ rooted-hung n f kind (ap in_detached (step-apart n f below e) ∙ none) (ap are_hung (step-apart n f below e) ∙ hung)

  pub step-fault : (fault : TreeFault) → is_name fault ≡ false → planted limits loaded.prefixes instance.space lit forest ≡ Err fault
      → document_in loaded instance forest made ≡ Err (record { why = limit (words_of fault ++ over_made profile (made + length contents)); calls = [] })
  step-fault fault h e =
      document-is ∙ ap step (of-tree (lit_fault loaded.prefixes lit) (with_tree limits contents forest) fault (first-names loaded.prefixes (elements_of lit)) h e)

  limited : (w : LimitWord) (more : List LimitWord) → document_in loaded instance forest made ≡ Err (record { why = limit (w ∷ more); calls = [] }) → IsRefused (Limit w) (document_in loaded instance forest made)
  limited w more e = subst (IsRefused (Limit w)) (sym e) ((w ∷ more, refl, (0, omega arith, refl)), refl)

  pub told-fault : (fault : TreeFault) (after : Forest) → (fault ≡ tree.Memory) ⊎ (planted limits loaded.prefixes instance.space lit forest ≡ Err fault)
      → Grows (Err (fault_of fault)) loaded after (document_in loaded instance forest made)
  told-fault tree.Nodes after (inl e) = cc e
  told-fault tree.NodeText after (inl e) = cc e
  told-fault tree.AllText after (inl e) = cc e
  told-fault tree.Depth after (inl e) = cc e
  told-fault tree.Nodes after (inr e) = limited word.Nodes (over_made profile (made + length contents)) (step-fault tree.Nodes refl e)
  told-fault tree.NodeText after (inr e) = limited word.Text (over_made profile (made + length contents)) (step-fault tree.NodeText refl e)
  told-fault tree.AllText after (inr e) = limited word.All (over_made profile (made + length contents)) (step-fault tree.AllText refl e)
  told-fault tree.Depth after (inr e) = limited word.Depth (over_made profile (made + length contents)) (step-fault tree.Depth refl e)
  told-fault tree.BadName after e = tt
  told-fault tree.Prefix after e = tt
  told-fault tree.Memory after e = tt

-- ---- one step after the other

-- a refusal tells nothing of the data
pub same-refusal : (fault : WorkFault) (loaded : Loaded) (f : Forest) (given : Result State Refused) → Grows (Err fault) loaded f given → IsPlanted (Err fault) given
same-refusal (work.Refused refusal) loaded f given h = h
same-refusal work.Memory loaded f given h = tt
