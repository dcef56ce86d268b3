-- What an engine works on stays sound through the changes of its parts.
use Rattle.std.proofs.Common.{◌≡◌, ℕ, suc, ◌<◌, ◌≤◌, List, length, get_or, max, sym, ◌∙◌, subst}
use Rattle.std.specs.Prelude.{◌^◌}
use Rattle.xf_binds.specs.Kept.{Kept, rolled_back}
use Rattle.xf_binds.specs.Table.{all_rolled_back, kept_at, with_kept}
use Rattle.xf_form.specs.declared.loaded.Loaded.{Loaded}
use Rattle.xf_undo.specs.Draft.{Draft}
use Rattle.xf_engine_state.specs.declared.flags.Flag.TheVariants.{Rebuild}
use Rattle.xf_engine_state.specs.declared.flags.Flags.{Flags}
use Rattle.xf_engine_state.specs.Built.{IsRenewed, IsWhole, scope_at}
use Rattle.xf_engine_state.specs.Calls.{rebuilt_flags}
use Rattle.xf_engine_state.specs.Flags.{none_due, without}
use Rattle.xf_engine_state.specs.Parts.{IsSound, models_of}
use Rattle.xf_engine_state.specs.Settling.{StaysWhole}
use Rattle.xf_engine_state.proofs.Models.{back-same, flags-length, models-length, set-length}
use Rattle.xf_engine_state.proofs.WholeLaws.{IsSame, KeepsDue, whole-flags, whole-kept, whole-renewed}

module _ (l : Loaded) (d : Draft) (table : List Kept) (flags olds : List Flags) (built old_built : ℕ) (s : IsSound l d table flags olds built old_built) where
  -- another draft
  pub sound-draft : (e : Draft) → StaysWhole l d.now e.now → e.kept ≡ d.kept → IsSound l e table flags olds built old_built
  sound-draft e whole kept = record {
    loaded = s.loaded;
    many = s.many;
    kept = s.kept;
    few = s.few;
    now = whole.whole table flags built s.now;
    before = subst (λ f. IsWhole l f (all_rolled_back table) olds old_built) (sym kept) s.before;
  }

  -- other things are due, and each rebuild that is
  pub sound-flags : (others : List Flags) → length others ≡ length flags → KeepsDue flags others → IsSound l d table others olds built old_built
  sound-flags others same keeps = record {
    loaded = s.loaded;
    many = s.many ∙ sym same;
    kept = s.kept ∙ sym same;
    few = subst (λ n. n < 2 ^ 32) (sym same) s.few;
    now = whole-flags l d.now table flags others built keeps s.now;
    before = s.before;
  }

  -- another is kept of a model, with the same entries
  pub sound-kept : (model : ℕ) (k : Kept) → model < length table → IsSame (kept_at table model) k → rolled_back k ≡ rolled_back (kept_at table model) → IsSound l d (with_kept table model k) flags olds built old_built
  sound-kept model k within same back = record {
    loaded = s.loaded;
    many = set-length table model k ∙ s.many;
    kept = s.kept;
    few = s.few;
    now = whole-kept l d.now table flags built model k within same s.now;
    before = subst (λ t. IsWhole l d.kept t olds old_built) (sym (back-same table model k within back)) s.before;
  }

  -- a model is built, and its rebuild is due no more
  pub sound-renewed : (model : ℕ) (after : List Kept) → model ≤ built → length after ≡ length table → all_rolled_back after ≡ all_rolled_back table → IsRenewed (scope_at l d.now model) d.now.nodes table after
      → IsSound l d after (rebuilt_flags flags model) olds (max built (suc model)) old_built
  sound-renewed model after within many back renewed = record {
    loaded = s.loaded;
    many = many ∙ s.many ∙ sym same;
    kept = s.kept ∙ sym same;
    few = subst (λ n. n < 2 ^ 32) (sym same) s.few;
    now = whole-renewed l d.now table after flags built model within renewed s.now;
    before = subst (λ t. IsWhole l d.kept t olds old_built) (sym back) s.before;
  }
    where
      same : length (rebuilt_flags flags model) ≡ length flags
      same = flags-length flags model (without Rebuild (get_or flags model none_due))

-- ---- a model of the state

pub within-table : (table : List Kept) (flags : List Flags) (model : ℕ) → length table ≡ length flags → model < length (models_of table flags) → model < length table
within-table table flags model many h = subst (λ n. model < n) (models-length table flags many ∙ sym many) h
