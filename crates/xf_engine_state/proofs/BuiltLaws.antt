-- What each change of trees leaves of the data of a form, and built over them.
use Rattle.std.proofs.Common.{◌≡◌, ℕ, suc, ◌<◌, ◌==◌, Bool, true, false, List, [], ◌∷◌, ◌++◌, Option, Some, None, Ok, refl, sym, ap, ◌∙◌, arith}
use Rattle.std.specs.Prelude.{◌^◌}
use Rattle.std.proofs.lemmas.Bool.{eqb-true}
use Rattle.xf_def_syntax.specs.declared.form.Instance.{Instance}
use Rattle.xf_name.specs.Bindings.{Bindings}
use Rattle.xf_def_forest.specs.declared.bare.Bare.TheVariants as bare
use Rattle.xf_def_forest.specs.declared.bare.BareElement.{BareElement}
use Rattle.xf_def_forest.specs.declared.content.Content.{Content}
use Rattle.xf_def_forest.specs.declared.content.Node.{Node}
use Rattle.xf_def_forest.specs.Changes.{attached, copied, detached, in_instances, root_of}
use Rattle.xf_def_forest.specs.Forest.{Forest}
use Rattle.xf_def_forest.specs.Limits.{Limits, limits}
use Rattle.xf_def_forest.specs.Needs.{MayAttach, MayDetach}
use Rattle.xf_def_forest.specs.Planted.{planted_bare, with_tree}
use Rattle.xf_def_forest.specs.Visit.{parent_of, visits}
use Rattle.xf_def_forest.specs.WellFormed.{HasTrees}
use Rattle.xf_law_recalculation.specs.Document.Documents as of
use Rattle.xf_def_machine.specs.Surround.{document_in}
use Rattle.xf_funcs.specs.Called.{called}
use Rattle.xf_law_recalculation.specs.Agree.Hung.{are_hung}
use Rattle.xf_law_forests.specs.Root.Roots.{AreAhead, IsNoRoot}
use Rattle.xf_law_recalculation.specs.Held.Held.{is_held}
use Rattle.xf_law_rebuild.specs.Data.{IsData, Presents}
use Rattle.xf_law_rebuild.specs.Trees.{AfterChange, AfterMove, IsGrown}
use Rattle.xf_law_rebuild.proofs.Trees.{built_attached, built_copied, built_detached, built_dropped, built_planted, built_planted_bare}
use Rattle.xf_form.specs.declared.loaded.Loaded.{Loaded}
use Rattle.xf_engine_state.specs.Around.{document_below, documents_by, documents_from, given_in}

-- ---- what surrounds the binds of a form

same-document : (i : Instance) (place : ℕ) (nodes : List Node) → document_in i (document_below nodes (root_of place nodes)) ≡ of.document_of_instance i (of.element_at nodes place)
same-document i place nodes = below (root_of place nodes)
  where
    in-document : (d : Option ℕ) → document_in i d ≡ of.document_of_instance i d
    in-document None = refl
    in-document (Some n) = refl

    below : (root : Option ℕ) → document_in i (document_below nodes root) ≡ of.document_of_instance i (of.element_under nodes root)
    below None = refl
    below (Some root) = in-document (document_below nodes (Some root))

documents-are : (place : ℕ) (is : List Instance) (nodes : List Node) → documents_by is (documents_from place is nodes) ≡ of.documents_from place is nodes
documents-are place [] nodes = refl
documents-are place (i ∷ is) nodes =
    ap (λ l. l ++ documents_by is (documents_from (suc place) is nodes)) (same-document i place nodes)
    ∙ ap (λ l. of.document_of_instance i (of.element_at nodes place) ++ l) (documents-are (suc place) is nodes)

pub presents : (instances : List Instance) (b : Bindings) (d : ℕ) → Presents instances (given_in instances b d)
presents instances b d = record { same = λ before after. refl; documents = λ forest. documents-are 0 instances forest.nodes; quiet = λ forest. refl }

-- the data before a change
pub are-data : (forest : Forest) → HasTrees forest → are_hung forest.nodes ≡ true → forest.next < 2 ^ 126 → IsData forest
are-data forest trees hung small = record { trees = trees; hung = hung; few = omega (arith, small) }

-- no instance of the model holds the node
pub not-held : (model : ℕ) (held : Option ℕ) → (held ≡ Some model → ⊥) → is_held model held ≡ false
not-held model None h = refl
not-held model (Some other) h = by (model == other) refl
  where
    by : (b : Bool) → (model == other) ≡ b → b ≡ false
    by false e = refl
    by true e = absurd (h (ap Some (sym (eqb-true model other e))))

module _ (l : Loaded) where
  abbrev pub After : Forest → Forest → Type 0
  After forest after = AfterChange called (given_in l.form.tables.instances l.prefixes l.form.decimals) l.form.tables forest after

  -- of models that do not hold the parent
  abbrev pub Moved : ℕ → Forest → Forest → Type 0
  Moved parent forest after = AfterMove called (given_in l.form.tables.instances l.prefixes l.form.decimals) l.form.tables l.form.tables.instances parent forest after

  -- ---- new trees

  pub planted-built : (contents : List (ℕ × Content)) (m : ℕ) (forest after : Forest) → IsData forest → forest.next < 2 ^ 126 → HasTrees after → IsGrown contents → with_tree limits contents forest ≡ Ok (m, after) → After forest after
  planted-built contents m forest after d small trees grown e =
      built_planted called (given_in l.form.tables.instances l.prefixes l.form.decimals) l.form.tables l.form.tables.instances contents m forest after (presents l.form.tables.instances l.prefixes l.form.decimals) d small trees grown e

  pub bare-built : (b : Bindings) (tree : BareElement) (m : ℕ) (forest after : Forest) → IsData forest → forest.next < 2 ^ 126 → HasTrees after → planted_bare limits b (bare.Element tree) forest ≡ Ok (m, after) → After forest after
  bare-built b tree m forest after d small trees e =
      built_planted_bare called (given_in l.form.tables.instances l.prefixes l.form.decimals) l.form.tables l.form.tables.instances b tree m forest after (presents l.form.tables.instances l.prefixes l.form.decimals) d small trees e

  pub copied-built : (n m : ℕ) (forest after : Forest) → IsData forest → forest.next < 2 ^ 126 → HasTrees after → IsNoRoot n forest → copied limits n forest ≡ Ok (m, after) → After forest after
  copied-built n m forest after d small trees kinds e =
      built_copied called (given_in l.form.tables.instances l.prefixes l.form.decimals) l.form.tables l.form.tables.instances n m forest after (presents l.form.tables.instances l.prefixes l.form.decimals) d small trees kinds e

  -- ---- trees that move and go

  pub detached-built : (n parent : ℕ) (forest : Forest) → IsData forest → HasTrees (detached n forest) → MayDetach n forest → parent_of n (visits forest.nodes) ≡ Some parent → Moved parent forest (detached n forest)
  detached-built n parent forest d trees may e =
      built_detached called (given_in l.form.tables.instances l.prefixes l.form.decimals) l.form.tables l.form.tables.instances n parent forest (presents l.form.tables.instances l.prefixes l.form.decimals) d trees may e

  pub attached-built : (most : Limits) (n parent place : ℕ) (forest after : Forest) → IsData forest → HasTrees after → MayAttach n parent place forest → attached most n parent place forest ≡ Ok after → Moved parent forest after
  attached-built most n parent place forest after d trees may e =
      built_attached called (given_in l.form.tables.instances l.prefixes l.form.decimals) l.form.tables l.form.tables.instances most n parent place forest after (presents l.form.tables.instances l.prefixes l.form.decimals) d trees may e

  pub dropped-built : (forest : Forest) → IsData forest → HasTrees (record forest { nodes = in_instances forest.nodes }) → AreAhead forest.nodes → After forest (record forest { nodes = in_instances forest.nodes })
  dropped-built forest d trees ahead =
      built_dropped called (given_in l.form.tables.instances l.prefixes l.form.decimals) l.form.tables l.form.tables.instances forest (presents l.form.tables.instances l.prefixes l.form.decimals) d trees ahead
