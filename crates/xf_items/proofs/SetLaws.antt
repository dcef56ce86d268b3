-- The items at the nodes of a set are that at the first, and then those at the others.
use Rattle.std.proofs.Common.{◌≡◌, ℕ, ◌+◌, ◌<◌, List, [], ◌∷◌, ◌++◌, length, drop, get_or, map, Option, Some, None, refl, sym, ap, ◌∙◌, append_assoc}
use Rattle.std.proofs.lemmas.List.{drop_more}
use Rattle.xf_def_forest.specs.declared.node.NodeId.{NodeId}
use Rattle.xf_def_xpath.specs.Setting as option
use Rattle.xf_def_ui.specs.declared.answers.Item.{Item}
use Rattle.xf_def_ui.specs.Around.{Around}
use Rattle.xf_def_ui.specs.Context.{Inside}
use Rattle.xf_def_ui.specs.Interface.{Interface}
use Rattle.xf_def_ui.specs.Items.{item_in}
use Rattle.xf_items.specs.Items.{alone, behind, placed, placed_items}

abbrev pub numbers : List NodeId → List ℕ
numbers nodes = map (λ n. n.number) nodes

module _ (f : Interface) (a : Around) (s : Inside) (n : ℕ) (set : List ℕ) where
  abbrev pub item_at : ℕ → Option Item
  item_at m = item_in f a n (placed set s m)

  -- the node at a place, where there is one
  abbrev pub node_at : List NodeId → ℕ → ℕ
  node_at ns i = (get_or ns i (record { number = 0; place = 0 })).number

  placed-more : (ns : List NodeId) (i : ℕ) → i < length ns
      → placed_items f a s n set (numbers (drop i ns)) ≡ option.◌>>=◌ (item_at (node_at ns i)) (λ y. option.◌>>=◌ (placed_items f a s n set (numbers (drop (i + 1) ns))) (λ ys. Some (y ∷ ys)))
  placed-more ns i l = ap (λ xs. placed_items f a s n set (numbers xs)) (drop_more ns i (record { number = 0; place = 0 }) l)

  -- one came behind
  pub carried-one : (ns : List NodeId) (i : ℕ) (now new : List Item) → i < length ns → behind now (alone (item_at (node_at ns i))) ≡ Some new
      → behind now (placed_items f a s n set (numbers (drop i ns))) ≡ behind new (placed_items f a s n set (numbers (drop (i + 1) ns)))
  carried-one ns i now new l h =
      ap (behind now) (placed-more ns i l) ∙ by (item_at (node_at ns i)) (placed_items f a s n set (numbers (drop (i + 1) ns))) h
    where
      by : (o : Option Item) (r : Option (List Item)) → behind now (alone o) ≡ Some new → behind now (option.◌>>=◌ o (λ y. option.◌>>=◌ r (λ ys. Some (y ∷ ys)))) ≡ behind new r
      by None r e = cc e
      by (Some y) None e = refl
      by (Some y) (Some ys) e = let same : now ++ y ∷ [] ≡ new = cc e in ap Some (sym (append_assoc now (y ∷ []) ys) ∙ ap (λ l. l ++ ys) same)

  -- one is too long
  pub long-one : (ns : List NodeId) (i : ℕ) → i < length ns → alone (item_at (node_at ns i)) ≡ None → placed_items f a s n set (numbers (drop i ns)) ≡ None
  long-one ns i l h = placed-more ns i l ∙ by (item_at (node_at ns i)) h
    where
      by : (o : Option Item) → alone o ≡ None → option.◌>>=◌ o (λ y. option.◌>>=◌ (placed_items f a s n set (numbers (drop (i + 1) ns))) (λ ys. Some (y ∷ ys))) ≡ None
      by None e = refl
      by (Some y) e = cc e
