-- What an engine works on stays sound while trees come and go: what is built stays so where its part stays, and what does not is flagged before.
use Rattle.std.proofs.Common.{◌≡◌, ℕ, ◌<◌, false, List, Option, Some, Ok, Err, Result, refl, sym, ap, ◌∙◌, subst, inl, inr}
use Rattle.std.specs.Prelude.{◌^◌}
use Rattle.xf_name.specs.Bindings.{Bindings}
use Rattle.xf_name.specs.declared.lit.Lit.TheVariants as lit
use Rattle.xf_name.specs.declared.lit.LitElement.{LitElement}
use Rattle.xf_def_forest.specs.declared.bare.Bare.TheVariants as bare
use Rattle.xf_def_forest.specs.declared.bare.BareElement.{BareElement}
use Rattle.xf_def_forest.specs.declared.content.Content.{Content}
use Rattle.xf_def_forest.specs.declared.fault.TreeFault.{TreeFault}
use Rattle.xf_def_forest.specs.Changes.{attached, copied, detached}
use Rattle.xf_def_forest.specs.Forest.{Forest}
use Rattle.xf_def_forest.specs.Limits.{limits}
use Rattle.xf_def_forest.specs.Needs.{MayAttach, MayDetach}
use Rattle.xf_def_forest.specs.Plant.{contents_of}
use Rattle.xf_def_forest.specs.Planted.{contents_of_bare, with_tree}
use Rattle.xf_def_forest.specs.Visit.{parent_of, visits}
use Rattle.xf_def_forest.specs.WellFormed.{HasTrees}
use Rattle.xf_law_recalculation.specs.Held.Held.{holder}
use Rattle.xf_law_rebuild.specs.Data.{IsData}
use Rattle.xf_law_rebuild.specs.Places.{SameRoots}
use Rattle.xf_law_rebuild.specs.Trees.{IsGrown}
use Rattle.xf_law_rebuild.proofs.Grown.{grown_bare}
use Rattle.xf_law_rebuild.proofs.Places.{roots_attached, roots_copied, roots_detached, roots_planted}
use Rattle.xf_binds.specs.Kept.{Kept}
use Rattle.xf_binds.specs.Table.{all_rolled_back, kept_at}
use Rattle.xf_controls.specs.declared.copy.ControlCopy.{ControlCopy}
use Rattle.xf_form.specs.declared.loaded.Loaded.{Loaded}
use Rattle.xf_undo.specs.Draft.{Draft}
use Rattle.xf_engine_state.specs.declared.flags.Flags.{Flags}
use Rattle.xf_engine_state.specs.declared.knowing.Knowledge.{Knowledge}
use Rattle.xf_engine_state.specs.Built.{IsWhole, is_rebuild_due}
use Rattle.xf_engine_state.specs.Fit.{IsRight}
use Rattle.xf_engine_state.specs.Held.{last_place}
use Rattle.xf_engine_state.specs.Moving.{IsBetween, IsMovable, IsWithin, all_due_of, listed, nothing_known}
use Rattle.xf_engine_state.specs.Parts.{IsSound}
use Rattle.xf_engine_state.specs.Setting.{holder_of}
use Rattle.xf_engine_state.proofs.BuiltLaws.{After, Moved, attached-built, copied-built, detached-built, not-held, planted-built}
use Rattle.xf_engine_state.proofs.LiteralLaws.{grown-literal}
use Rattle.xf_engine_state.proofs.ListedLaws.{all-due-length, listed-back, listed-length, whole-listed}

-- nothing is told
pub right-nothing : (l : Loaded) (forest : Forest) (table : List Kept) (controls : List ControlCopy) (k : Knowledge) → k ≡ nothing_known → IsRight l forest table controls k
right-nothing l forest table controls k is = subst (IsRight l forest table controls) (sym is) (record { known = tt; steady = tt; planted = tt; alone = tt })

-- what was kept is the same where a parent is marked
pub right-listed : (l : Loaded) (forest : Forest) (table after : List Kept) (controls : List ControlCopy) (k : Knowledge) (held : Option ℕ) (n : ℕ) → after ≡ listed held n table
    → IsRight l forest (all_rolled_back table) controls k → IsRight l forest (all_rolled_back after) controls k
right-listed l forest table after controls k held n is h = subst (λ t. IsRight l forest t controls k) (sym (ap all_rolled_back is ∙ listed-back held n table)) h

-- ---- the data

module _ (l : Loaded) (table : List Kept) (flags : List Flags) (built : ℕ) (before after : Forest) (w : IsWhole l before table flags built) where
  pub data-of : HasTrees before → before.next < 2 ^ 128 → IsData before
  data-of trees few = record { trees = trees; hung = w.hung; few = few }

  whole-after : SameRoots before.nodes after.nodes → After l before after → IsWhole l after table flags built
  whole-after roots a = record {
    hung = a.now.hung;
    few = roots last_place ∙ w.few;
    models = λ model less idle. a.built model (kept_at table model) (w.models model less idle);
  }

  whole-moved : (parent : ℕ) (held : Option ℕ) → SameRoots before.nodes after.nodes → Moved l parent before after → held ≡ holder_of l.form.tables.instances before parent
      → ((model : ℕ) → is_rebuild_due flags model ≡ false → held ≡ Some model → ⊥) → IsWhole l after table flags built
  whole-moved parent held roots a is apart = record {
    hung = a.now.hung;
    few = roots last_place ∙ w.few;
    models = λ model less idle.
        a.built model (not-held model (holder l.form.tables.instances parent before.nodes) (λ e. apart model idle (is ∙ e))) (kept_at table model) (w.models model less idle);
  }

module _ (l : Loaded) (table : List Kept) (flags : List Flags) (built : ℕ) (before : Forest) (trees : HasTrees before) (few : before.next < 2 ^ 128) (w : IsWhole l before table flags built) where
  pub whole-copied : (n m : ℕ) (after : Forest) → before.next < 2 ^ 126 → HasTrees after → IsMovable n before → copied limits n before ≡ Ok (m, after) → IsWhole l after table flags built
  whole-copied n m after small later kinds e =
      whole-after l table flags built before after w (roots_copied limits n m before after trees kinds e)
      (copied-built l n m before after (data-of l table flags built before after w trees few) small later kinds e)

  whole-grown : (contents : List (ℕ × Content)) (m : ℕ) (after : Forest) → before.next < 2 ^ 126 → HasTrees after → IsGrown contents → with_tree limits contents before ≡ Ok (m, after) → IsWhole l after table flags built
  whole-grown contents m after small later grown e =
      whole-after l table flags built before after w (roots_planted limits contents m before after grown.growth e)
      (planted-built l contents m before after (data-of l table flags built before after w trees few) small later grown e)

  pub whole-planted : (b : Bindings) (tree : BareElement) (m : ℕ) (after : Forest) → before.next < 2 ^ 126 → HasTrees after → with_tree limits (contents_of_bare b (bare.Element tree) 0 0) before ≡ Ok (m, after)
      → IsWhole l after table flags built
  whole-planted b tree m after small later e = whole-grown (contents_of_bare b (bare.Element tree) 0 0) m after small later (grown_bare b tree 0) e

  pub whole-literal : (b : Bindings) (tree : LitElement) (m : ℕ) (after : Forest) → before.next < 2 ^ 126 → HasTrees after → with_tree limits (contents_of b (lit.Element tree) 0 0) before ≡ Ok (m, after)
      → IsWhole l after table flags built
  whole-literal b tree m after small later e = whole-grown (contents_of b (lit.Element tree) 0 0) m after small later (grown-literal b tree 0) e

  module _ (held : Option ℕ) (parent : ℕ) (is : held ≡ holder_of l.form.tables.instances before parent) (apart : (model : ℕ) → is_rebuild_due flags model ≡ false → held ≡ Some model → ⊥) where
    pub whole-detached : (n : ℕ) → HasTrees (detached n before) → MayDetach n before → parent_of n (visits before.nodes) ≡ Some parent → IsWhole l (detached n before) table flags built
    whole-detached n later may below =
        whole-moved l table flags built before (detached n before) w parent held (roots_detached n before trees may.kind)
        (detached-built l n parent before (data-of l table flags built before (detached n before) w trees few) later may below) is apart

    pub whole-attached : (n place : ℕ) (after : Forest) → HasTrees after → MayAttach n parent place before → attached limits n parent place before ≡ Ok after → IsWhole l after table flags built
    whole-attached n place after later may e =
        whole-moved l table flags built before after w parent held (roots_attached limits n parent place before after trees may e)
        (attached-built l limits n parent place before after (data-of l table flags built before after w trees few) later may e) is apart

-- ---- all that is sound

module _ (l : Loaded) (d : Draft) (table : List Kept) (flags olds : List Flags) (built old_built : ℕ) (s : IsSound l d table flags olds built old_built) where
  pub sound-listed : (held : Option ℕ) (n : ℕ) → IsWithin held flags → IsSound l d (listed held n table) (all_due_of held flags) olds built old_built
  sound-listed held n within = record {
    loaded = s.loaded;
    many = listed-length held n table ∙ s.many ∙ sym (all-due-length held flags);
    kept = s.kept ∙ sym (all-due-length held flags);
    few = subst (λ k. k < 2 ^ 32) (sym (all-due-length held flags)) s.few;
    now = whole-listed l d.now table flags built held n within s.now;
    before = subst (λ t. IsWhole l d.kept t olds old_built) (sym (listed-back held n table)) s.before;
  }

  pub sound-marks : (held : Option ℕ) (n : ℕ) (after : List Kept) (others : List Flags) → IsWithin held flags → after ≡ listed held n table → others ≡ all_due_of held flags → IsSound l d after others olds built old_built
  sound-marks held n after others within marks dues =
      subst (λ t. IsSound l d t others olds built old_built) (sym marks)
      (subst (λ fs. IsSound l d (listed held n table) fs olds built old_built) (sym dues) (sound-listed held n within))

  pub sound-with : (e : Draft) → e.kept ≡ d.kept → IsWhole l e.now table flags built → IsSound l e table flags olds built old_built
  sound-with e kept whole = record {
    loaded = s.loaded;
    many = s.many;
    kept = s.kept;
    few = s.few;
    now = whole;
    before = subst (λ f. IsWhole l f (all_rolled_back table) olds old_built) (sym kept) s.before;
  }

  -- a tree came or did not
  pub sound-between : (e : Draft) (given : Result (ℕ × Forest) TreeFault) → ((m : ℕ) (after : Forest) → d.now.next < 2 ^ 126 → given ≡ Ok (m, after) → after ≡ e.now → IsWhole l after table flags built)
      → IsBetween d e given → IsSound l e table flags olds built old_built
  sound-between e given come b = by given refl b
    where
      by : (r : Result (ℕ × Forest) TreeFault) → given ≡ r → IsBetween d e r → IsSound l e table flags olds built old_built
      by (Err f) is i = subst (λ x. IsSound l x table flags olds built old_built) (sym i) s
      by (Ok p) is (inl i) = subst (λ x. IsSound l x table flags olds built old_built) (sym i) s
      by (Ok p) is (inr i) =
          let now : p.1 ≡ e.now = sym (ap (λ (x : Draft). x.now) i.0) in
          sound-with e (ap (λ (x : Draft). x.kept) i.0) (subst (λ f. IsWhole l f table flags built) now (come p.0 p.1 i.1 is now))

-- the kept data are the same
pub kept-between : (d e : Draft) (given : Result (ℕ × Forest) TreeFault) → IsBetween d e given → e.kept ≡ d.kept
kept-between d e (Err f) i = ap (λ (x : Draft). x.kept) i
kept-between d e (Ok p) (inl i) = ap (λ (x : Draft). x.kept) i
kept-between d e (Ok p) (inr i) = ap (λ (x : Draft). x.kept) i.0
