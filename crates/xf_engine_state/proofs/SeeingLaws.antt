-- Rows and indexes are the same over surroundings that differ in the indexes and in the event that they give: each is evaluated with its own.
use Rattle.std.proofs.Common.{◌≡◌, ℕ, zero, suc, Bool, true, false, List, [], ◌∷◌, map, length, min, Option, Some, None, option_map, refl, ap, ◌∙◌}
use Rattle.xf_def_xpath.specs.Setting.{◌>>=◌}
use Rattle.xf_def_ui.specs.Around.{Around}
use Rattle.xf_def_ui.specs.Elements.{element_at, repeat_start}
use Rattle.xf_def_ui.specs.Index.{Index, Pass, after_pass, again_unless, begins_anew, brought_up, index_at, index_of, indexed_rows, pass, pass_over, passed, rows_now, rows_under, ruled, same_indexes, same_node, seeing, unset, with_index}
use Rattle.xf_def_ui.specs.Interface.{Interface}
use Rattle.xf_def_ui.specs.Rows.{held}
use Rattle.xf_def_ui.specs.Started.{each_takes, index_set, repeats_inside, restarted, started}

module _ (f : Interface) (a b : Around) (same : (indexes : List Index) → seeing f indexes a ≡ seeing f indexes b) where
  rows-same : (indexes : List Index) (r : ℕ) → rows_now f a indexes r ≡ rows_now f b indexes r
  rows-same indexes r = ap (λ c. rows_under f c r (indexed_rows f indexes r)) (same indexes)

  -- ---- how indexes start, and how one is set

  takes-same : (taken : ℕ → List ℕ → ℕ) (rs : List ℕ) (indexes : List Index) → each_takes f a taken indexes rs ≡ each_takes f b taken indexes rs
  takes-same taken [] indexes = refl
  takes-same taken (r ∷ rs) indexes = ap (λ o. o >>= λ rows. each_takes f a taken (next rows) rs) (rows-same indexes r) ∙ by (λ now. takes-same taken rs now) (rows_now f b indexes r)
    where
      next : List ℕ → List Index
      next rows = with_index f r (index_at rows (taken r rows)) indexes

      by : ((now : List Index) → each_takes f a taken now rs ≡ each_takes f b taken now rs)
          → (o : Option (List ℕ)) → (o >>= λ rows. each_takes f a taken (next rows) rs) ≡ (o >>= λ rows. each_takes f b taken (next rows) rs)
      by again None = refl
      by again (Some rows) = again (next rows)

  pub started-same : started f a ≡ started f b
  started-same = takes-same (λ r. held (repeat_start (element_at f r).sort)) f.repeats (map (λ r. unset) f.repeats)

  restarted-same : (r : ℕ) (t : Bool) (indexes : List Index) → restarted f a r t indexes ≡ restarted f b r t indexes
  restarted-same r true indexes = refl
  restarted-same r false indexes = takes-same (λ q rows. min 1 (length rows)) (repeats_inside f r) indexes

  pub set-same : (r n : ℕ) (indexes : List Index) → index_set f a r n indexes ≡ index_set f b r n indexes
  set-same r n indexes = ap (λ o. o >>= after a) (rows-same indexes r) ∙ by (rows_now f b indexes r)
    where
      after : Around → List ℕ → Option (List Index)
      after c rows = restarted f c r (same_node (index_of f indexes r).node (index_at rows (held n rows)).node) (with_index f r (index_at rows (held n rows)) indexes)

      by : (o : Option (List ℕ)) → (o >>= after a) ≡ (o >>= after b)
      by None = refl
      by (Some rows) = restarted-same r (same_node (index_of f indexes r).node (index_at rows (held n rows)).node) (with_index f r (index_at rows (held n rows)) indexes)

  -- ---- how they are brought up to date

  over-same : (added : List ℕ) (rs : List ℕ) (s : Pass) → pass_over f a added s rs ≡ pass_over f b added s rs
  over-same added [] s = refl
  over-same added (r ∷ rs) s = ap (λ o. o >>= λ rows. pass_over f a added (next rows) rs) (rows-same s.indexes r) ∙ by (λ t. over-same added rs t) (rows_now f b s.indexes r)
    where
      next : List ℕ → Pass
      next rows = passed f r rows s (ruled (begins_anew f s r) rows (index_of f s.indexes r) added)

      by : ((t : Pass) → pass_over f a added t rs ≡ pass_over f b added t rs)
          → (o : Option (List ℕ)) → (o >>= λ rows. pass_over f a added (next rows) rs) ≡ (o >>= λ rows. pass_over f b added (next rows) rs)
      by again None = refl
      by again (Some rows) = again (next rows)

  pass-same : (added : List ℕ) (indexes : List Index) → pass f a added indexes ≡ pass f b added indexes
  pass-same added indexes = ap (option_map (λ (s : Pass). s.indexes)) (over-same added f.repeats (record { indexes = indexes; restarted = [] }))

  pub up-same : (most : ℕ) (added : List ℕ) (indexes : List Index) → brought_up most f a added indexes ≡ brought_up most f b added indexes
  up-same zero added indexes = refl
  up-same (suc most) added indexes = ap (after_pass (brought_up most f a added) indexes) (pass-same added indexes) ∙ by (λ now. up-same most added now) (pass f b added indexes)
    where
      Again : Type 0
      Again = (now : List Index) → brought_up most f a added now ≡ brought_up most f b added now

      again-same : Again → (t : Bool) (now : List Index) → again_unless t (brought_up most f a added) now ≡ again_unless t (brought_up most f b added) now
      again-same again true now = refl
      again-same again false now = again now

      by : Again → (o : Option (List Index)) → after_pass (brought_up most f a added) indexes o ≡ after_pass (brought_up most f b added) indexes o
      by again None = refl
      by again (Some next) = again-same again (same_indexes indexes next) next
