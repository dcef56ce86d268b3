-- How indexes start (XForms 1.1, section 9.3.1), and how one is set (section 10.5).
use Rattle.std.specs.Prelude.{ℕ, Bool, true, false, List, [], ◌∷◌, length, map, filter, min, Option, Some}
use Rattle.xf_def_forest.specs.Visit.{has}
use Rattle.xf_def_xpath.specs.Setting.{◌>>=◌}
use Rattle.xf_def_ui.specs.Interface.{Interface}
use Rattle.xf_def_ui.specs.Elements.{element_at, ancestors, repeat_start}
use Rattle.xf_def_ui.specs.Around.{Around}
use Rattle.xf_def_ui.specs.Rows.{held}
use Rattle.xf_def_ui.specs.Index.{Index, unset, index_of, with_index, index_at, rows_now, same_node}

-- repeats one after the other take the index that is made of each and its rows
abbrev pub each_takes : Interface → Around → (ℕ → List ℕ → ℕ) → List Index → List ℕ → Option (List Index)
each_takes f a taken indexes [] = Some indexes
each_takes f a taken indexes (r ∷ rs) = do
  rows ← rows_now f a indexes r
  each_takes f a taken (with_index f r (index_at rows (taken r rows)) indexes) rs

-- at first: in document order at `startindex`, all being 0 before
abbrev pub started : Interface → Around → Option (List Index)
started f a = each_takes f a (λ r. held (repeat_start (element_at f r).sort)) (map (λ r. unset) f.repeats) f.repeats

-- the repeats that stand in a repeat, in document order
abbrev pub repeats_inside : Interface → ℕ → List ℕ
repeats_inside f r = filter (λ q. has r (ancestors f q)) f.repeats

-- where the indexed node is another one, the repeats inside start anew
abbrev pub restarted : Interface → Around → ℕ → Bool → List Index → Option (List Index)
restarted f a r true indexes = Some indexes
restarted f a r false indexes = each_takes f a (λ q rows. min 1 (length rows)) indexes (repeats_inside f r)

-- the index of the repeat is set to this number, held among its rows
abbrev pub index_set : Interface → Around → ℕ → ℕ → List Index → Option (List Index)
index_set f a r n indexes = rows_now f a indexes r >>= λ rows.
    let new = index_at rows (held n rows) in
    restarted f a r (same_node (index_of f indexes r).node new.node) (with_index f r new indexes)
