-- Repeats that start one after the other.
use Rattle.std.proofs.Common.{◌≡◌, ℕ, ◌≤◌, Bool, true, false, cond, List, map, length, take, [], ◌∷◌, ◌++◌, Option, Some, None, refl, sym, ap, ◌∙◌, arith}
use Rattle.std.specs.Prelude.{filter, replicate}
use Rattle.std.proofs.lemmas.List.{take-append-le, take_all}
use Rattle.xf_def_xpath.specs.Setting.{◌>>=◌}
use Rattle.xf_def_ui.specs.Around.{Around}
use Rattle.xf_def_ui.specs.Index.{Index, index_at, index_of, rows_now, same_node, unset, with_index}
use Rattle.xf_def_ui.specs.Interface.{Interface}
use Rattle.xf_def_ui.specs.Rows.{held}
use Rattle.xf_eval_context.specs.Indexes.{seen_index}
use Rattle.xf_def_ui.specs.Started.{each_takes, index_set, restarted}

module _ (f : Interface) (a : Around) (taken : ℕ → List ℕ → ℕ) where
  abbrev all-take : List Index → List ℕ → Option (List Index)
  all-take indexes rs = each_takes f a taken indexes rs

  -- one repeat
  abbrev takes : ℕ → List Index → List ℕ → List Index
  takes r indexes rows = with_index f r (index_at rows (taken r rows)) indexes

  one-takes : (r : ℕ) (rs : List ℕ) (indexes : List Index) → all-take indexes (r ∷ rs) ≡ (all-take indexes (r ∷ []) >>= λ now. all-take now rs)
  one-takes r rs indexes = by (rows_now f a indexes r)
    where
      by : (o : Option (List ℕ)) → (o >>= λ rows. all-take (takes r indexes rows) rs) ≡ ((o >>= λ rows. Some (takes r indexes rows)) >>= λ now. all-take now rs)
      by None = refl
      by (Some rows) = refl

  -- the first, where it starts, and then the others
  pub takes-more : (p : ℕ → Bool) (r : ℕ) (rs : List ℕ) (indexes : List Index) → all-take indexes (filter p (r ∷ rs)) ≡ (all-take indexes (filter p (r ∷ [])) >>= λ now. all-take now (filter p rs))
  takes-more p r rs indexes = by (p r)
    where
      by : (b : Bool) → all-take indexes (cond b (r ∷ filter p rs) (filter p rs)) ≡ (all-take indexes (cond b (r ∷ []) []) >>= λ now. all-take now (filter p rs))
      by true = one-takes r (filter p rs) indexes
      by false = refl

  pub takes-alone : (p : ℕ → Bool) (r : ℕ) (indexes : List Index) (rows : List ℕ) → p r ≡ true → rows_now f a indexes r ≡ Some rows → all-take indexes (filter p (r ∷ [])) ≡ Some (takes r indexes rows)
  takes-alone p r indexes rows h e = ap (λ b. all-take indexes (cond b (r ∷ []) [])) h ∙ ap (λ o. o >>= λ rows. Some (takes r indexes rows)) e

  pub takes-long : (p : ℕ → Bool) (r : ℕ) (indexes : List Index) → p r ≡ true → rows_now f a indexes r ≡ None → all-take indexes (filter p (r ∷ [])) ≡ None
  takes-long p r indexes h e = ap (λ b. all-take indexes (cond b (r ∷ []) [])) h ∙ ap (λ o. o >>= λ rows. Some (takes r indexes rows)) e

  pub takes-none : (p : ℕ → Bool) (r : ℕ) (indexes : List Index) → p r ≡ false → all-take indexes (filter p (r ∷ [])) ≡ Some indexes
  takes-none p r indexes h = ap (λ b. all-take indexes (cond b (r ∷ []) [])) h

pub filter-all : (ns : List ℕ) → filter (λ n. true) ns ≡ ns
filter-all [] = refl
filter-all (n ∷ ns) = ap (λ l. n ∷ l) (filter-all ns)

-- ---- one that is set

-- its rows, the old index and the new one were found
pub set-found : (f : Interface) (a : Around) (r n : ℕ) (indexes : List Index) (rows : List ℕ) (old new : Index) (b : Bool) → rows_now f a indexes r ≡ Some rows → old ≡ index_of f indexes r → new ≡ index_at rows (held n rows) → b ≡ same_node old.node new.node
    → index_set f a r n indexes ≡ restarted f a r b (with_index f r new indexes)
set-found f a r n indexes rows old new b h is at same =
    ap (λ o. o >>= λ rows. restarted f a r (same_node (index_of f indexes r).node (index_at rows (held n rows)).node) (with_index f r (index_at rows (held n rows)) indexes)) h
    ∙ ap (λ (x : Index). restarted f a r (same_node x.node (index_at rows (held n rows)).node) (with_index f r (index_at rows (held n rows)) indexes)) (sym is)
    ∙ ap (λ (x : Index). restarted f a r (same_node old.node x.node) (with_index f r x indexes)) (sym at)
    ∙ ap (λ t. restarted f a r t (with_index f r new indexes)) (sym same)

pub set-long : (f : Interface) (a : Around) (r n : ℕ) (indexes : List Index) → rows_now f a indexes r ≡ None → index_set f a r n indexes ≡ None
set-long f a r n indexes h = ap (λ o. o >>= λ rows. restarted f a r (same_node (index_of f indexes r).node (index_at rows (held n rows)).node) (with_index f r (index_at rows (held n rows)) indexes)) h

-- ---- all at first

pub all-unset : (ns : List ℕ) → map seen_index (replicate (length ns) (record { index = 0; node = None })) ≡ map (λ n. unset) ns
all-unset [] = refl
all-unset (n ∷ ns) = ap (λ l. unset ∷ l) (all-unset ns)

-- what was written through a slice of them
pub written-back : {X : Type 0} (new left : List X) (len : ℕ) → length new ≡ len → take len (new ++ left) ≡ new
written-back new left len e =
    let within : len ≤ length new = omega (arith, e) in
    let whole : length new ≤ len = omega (arith, e) in
    take-append-le len new left within ∙ take_all len new whole
