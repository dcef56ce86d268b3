-- The index of a repeat that is named.
use Rattle.std.proofs.Common.{◌≡◌, ℕ, ◌+◌, ◌<◌, true, false, cond, List, [], ◌∷◌, ◌++◌, length, drop, get_or, Some, option_map, refl, sym, ap, ◌∙◌}
use Rattle.std.specs.Prelude.{bytes_eq, find}
use Rattle.std.proofs.lemmas.List.{drop_more}
use Rattle.xf_def_xpath.specs.Given.{beside}
use Rattle.xf_def_ui.specs.Elements.{element_at}
use Rattle.xf_def_ui.specs.Index.{Index, if_named, index_of}
use Rattle.xf_def_ui.specs.Interface.{Interface}
use Rattle.xf_eval_context.specs.Indexes.{has_id, named_among}

named-here : (own id : List ℕ) (index : ℕ) (rest : List (List ℕ × ℕ)) → has_id own id ≡ true → beside id (if_named own index ++ rest) ≡ Some index
named-here [] id index rest h = cc h
named-here (c ∷ cs) id index rest h = ap (λ b. option_map (λ (p : List ℕ × ℕ). p.1) (cond b (Some (c ∷ cs, index)) (find (λ (p : List ℕ × ℕ). bytes_eq p.0 id) rest))) h

named-later : (own id : List ℕ) (index : ℕ) (rest : List (List ℕ × ℕ)) → has_id own id ≡ false → beside id (if_named own index ++ rest) ≡ beside id rest
named-later [] id index rest h = refl
named-later (c ∷ cs) id index rest h = ap (λ b. option_map (λ (p : List ℕ × ℕ). p.1) (cond b (Some (c ∷ cs, index)) (find (λ (p : List ℕ × ℕ). bytes_eq p.0 id) rest))) h

-- ---- among these repeats

module _ (f : Interface) (indexes : List Index) (id : List ℕ) (rs : List ℕ) (i d : ℕ) where
  from : i < length rs → named_among f indexes (drop i rs) ≡ named_among f indexes (get_or rs i d ∷ drop (i + 1) rs)
  from l = ap (named_among f indexes) (drop_more rs i d l)

  -- the one at this place has the id
  pub among-here : i < length rs → has_id (element_at f (get_or rs i d)).id id ≡ true → beside id (named_among f indexes (drop i rs)) ≡ Some (index_of f indexes (get_or rs i d)).index
  among-here l h =
      ap (beside id) (from l) ∙ named-here (element_at f (get_or rs i d)).id id (index_of f indexes (get_or rs i d)).index (named_among f indexes (drop (i + 1) rs)) h

  pub among-later : i < length rs → has_id (element_at f (get_or rs i d)).id id ≡ false
      → beside id (named_among f indexes (drop i rs)) ≡ beside id (named_among f indexes (drop (i + 1) rs))
  among-later l h =
      ap (beside id) (from l) ∙ named-later (element_at f (get_or rs i d)).id id (index_of f indexes (get_or rs i d)).index (named_among f indexes (drop (i + 1) rs)) h
