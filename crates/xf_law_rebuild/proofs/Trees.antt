-- What each change of trees leaves built.
use Rattle.std.proofs.Common.{◌≡◌, ℕ, suc, ◌+◌, ◌<◌, Bool, true, false, cond, List, [], ◌∷◌, ◌++◌, map, length, nat_lt, Option, Some, None, Ok, refl, sym, ap, ◌∙◌, subst, arith}
use Rattle.std.specs.Prelude.{◌^◌, Result}
use Rattle.std.proofs.lemmas.List.{length-map}
use Rattle.xf_def_syntax.specs.declared.form.Instance.{Instance}
use Rattle.xf_def_syntax.specs.declared.form.Tables.{Tables}
use Rattle.xf_def_forest.specs.declared.bare.Bare.TheVariants as bare
use Rattle.xf_def_forest.specs.declared.content.Content.{Content}
use Rattle.xf_def_forest.specs.declared.content.Node.{Node}
use Rattle.xf_def_forest.specs.declared.fault.TreeFault.{TreeFault}
use Rattle.xf_def_forest.specs.declared.fault.TreeFault.TheVariants as fault
use Rattle.xf_def_forest.specs.Changes.{contents_in, copied, detached, in_instances, place_of, placed, shifted}
use Rattle.xf_def_forest.specs.Forest.{Forest, content_at, has_number, tree_of}
use Rattle.xf_def_forest.specs.Limits.{all_size, has_long_text, is_too_deep, limits, node_count, passed_by_all, passed_by_tree, unless}
use Rattle.xf_def_forest.specs.Plant.{numbered_from}
use Rattle.xf_def_forest.specs.Planted.{contents_of_bare, with_tree, unless_fault}
use Rattle.xf_def_forest.specs.Visit.{visits}
use Rattle.xf_def_forest.specs.WellFormed.{HasTrees}
use Rattle.xf_def_values.specs.Functions.{Functions}
use Rattle.xf_def_xpath.specs.Given.{Given}
use Rattle.xf_law_recalculation.specs.Agree.Hung.{are_hung}
use Rattle.xf_law_recalculation.specs.Agree.Hung as top
use Rattle.xf_law_recalculation.proofs.AgreeLemmas.HungChanges.{hung_detached, hung_grown, hung_instances, hung_placed}
use Rattle.xf_law_forests.specs.Rollback.Made.{begins_at_top}
use Rattle.xf_law_forests.proofs.RollbackLemmas.Outcomes.{attached-placed, unless-ok}
use Rattle.xf_law_forests.specs.Root.Roots.{IsNoRoot}
use Rattle.xf_law_recalculation.specs.Elsewhere.Parts.{IsPart}
use Rattle.xf_law_recalculation.proofs.ElsewhereLemmas.Stays.{part_stays_attached, part_stays_detached, part_stays_dropped, part_stays_grown}
use Rattle.xf_law_recalculation.specs.Held.Held.{holder, is_held}
use Rattle.xf_law_recalculation.proofs.HeldLemmas.Held.{held_in_part}
use Rattle.xf_law_rebuild.specs.Data.{IsData, Presents}
use Rattle.xf_law_rebuild.specs.Trees.{AfterChange, BuiltAttached, BuiltCopied, BuiltDetached, BuiltDropped, BuiltPlanted, BuiltPlantedBare, IsGrown}
use Rattle.xf_law_rebuild.proofs.Elsewhere.{built_where_stays}
use Rattle.xf_law_rebuild.proofs.Grown.{few-come, grown_again, grown_bare}
use Rattle.xf_law_rebuild.proofs.Holders.{held_with_parent}
use Rattle.xf_law_rebuild.proofs.Places.{stand-kinds}

-- ---- limits that are not passed

tree-few : (tree nodes : List Node) → passed_by_tree limits tree nodes ≡ None → nat_lt 65536 (node_count nodes) ≡ false
tree-few tree nodes e = by (nat_lt 65536 (node_count nodes)) e
  where
    rest : Option TreeFault
    rest = cond (has_long_text 65536 tree) (Some fault.NodeText) (cond (nat_lt (2 ^ 22) (all_size nodes)) (Some fault.AllText) (cond (is_too_deep 100 0 tree) (Some fault.Depth) None))

    by : (b : Bool) → cond b (Some fault.Nodes) rest ≡ None → b ≡ false
    by true i = cc i
    by false i = refl

all-few : (nodes : List Node) → passed_by_all limits nodes ≡ None → nat_lt 65536 (node_count nodes) ≡ false
all-few nodes e = by (nat_lt 65536 (node_count nodes)) e
  where
    rest : Option TreeFault
    rest = cond (nat_lt (2 ^ 22) (all_size nodes)) (Some fault.AllText) None

    by : (b : Bool) → cond b (Some fault.Nodes) rest ≡ None → b ≡ false
    by true i = cc i
    by false i = refl

unless-none : {X : Type 0} (fault : Option TreeFault) (v w : X) → unless fault v ≡ Ok w → fault ≡ None
unless-none None v w e = refl
unless-none (Some fault) v w e = cc e

-- ---- new trees

top-numbered : (next : ℕ) (cs : List (ℕ × Content)) → begins_at_top cs ≡ true → top.begins_at_top (numbered_from next cs) ≡ true
top-numbered next [] h = refl
top-numbered next (c ∷ cs) h = h

-- what stands after new trees came
grown-data : (forest : Forest) (contents : List (ℕ × Content)) → IsData forest → forest.next < 2 ^ 126 → IsGrown contents → nat_lt 65536 (node_count (forest.nodes ++ numbered_from forest.next contents)) ≡ false →
    HasTrees (record { nodes = forest.nodes ++ numbered_from forest.next contents; next = forest.next + length contents }) → IsData (record { nodes = forest.nodes ++ numbered_from forest.next contents; next = forest.next + length contents })
grown-data forest contents d small grown few trees =
    let come = few-come 65536 forest.next forest.nodes contents grown.growth.rootless few in
    record {
      trees = trees;
      hung = hung_grown forest.nodes (numbered_from forest.next contents) (top-numbered forest.next contents grown.growth.top) d.hung (grown.hung forest.next);
      few = omega (arith, small, come);
    }

module _ (functions : Functions) (given : Forest → Given) (tables : Tables) (instances : List Instance) (p : Presents instances given) where
  abbrev Left : Forest → Forest → Type 0
  Left forest after = AfterChange functions given tables forest after

  grown-left : (forest : Forest) (contents : List (ℕ × Content)) → IsData forest → forest.next < 2 ^ 126 → IsGrown contents → nat_lt 65536 (node_count (forest.nodes ++ numbered_from forest.next contents)) ≡ false →
      HasTrees (record { nodes = forest.nodes ++ numbered_from forest.next contents; next = forest.next + length contents }) → Left forest (record { nodes = forest.nodes ++ numbered_from forest.next contents; next = forest.next + length contents })
  grown-left forest contents d small grown few trees =
      let after : Forest = record { nodes = forest.nodes ++ numbered_from forest.next contents; next = forest.next + length contents } in
      let now : IsData after = grown-data forest contents d small grown few trees in
      record {
        now = now;
        built = λ model. built_where_stays functions given tables instances model forest after p d now (λ part is. part_stays_grown instances model after.next contents part forest is d.trees grown.growth);
      }

  planted-left : (contents : List (ℕ × Content)) (m : ℕ) (forest after : Forest) → IsData forest → forest.next < 2 ^ 126 → HasTrees after → IsGrown contents → with_tree limits contents forest ≡ Ok (m, after) → Left forest after
  planted-left contents m forest after d small trees grown e =
      let tree = numbered_from forest.next contents in
      let whole : Forest = record { nodes = forest.nodes ++ tree; next = forest.next + length contents } in
      let is : whole ≡ after = ap (λ (w : ℕ × Forest). w.1) (unless-ok _ (forest.next, whole) (m, after) e) in
      subst (Left forest) is (grown-left forest contents d small grown (tree-few tree whole.nodes (unless-none _ (forest.next, whole) (m, after) e)) (subst HasTrees (sym is) trees))

  -- a copy has as many nodes as what is copied
  as-many : (tree : List Node) → length (contents_in tree) ≡ length tree
  as-many [] = refl
  as-many (x ∷ xs) = ap suc (length-map (map (shifted x.depth 0) xs) (λ (y : Node). (y.depth, y.content)) ∙ length-map xs (shifted x.depth 0))

  copied-left : (n m : ℕ) (forest after : Forest) → IsData forest → forest.next < 2 ^ 126 → HasTrees after → IsNoRoot n forest → copied limits n forest ≡ Ok (m, after) → Left forest after
  copied-left n m forest after d small trees kinds e =
      let contents = contents_in (tree_of n forest.nodes) in
      let nodes = forest.nodes ++ numbered_from forest.next contents in
      let whole : Forest = record { nodes = nodes; next = forest.next + length (tree_of n forest.nodes) } in
      let counted : Forest = record { nodes = nodes; next = forest.next + length contents } in
      let same : counted ≡ whole = ap (λ count. record { nodes = nodes; next = forest.next + count }) (as-many (tree_of n forest.nodes)) in
      let is : counted ≡ after = same ∙ ap (λ (w : ℕ × Forest). w.1) (unless-ok _ (forest.next, whole) (m, after) e) in
      subst (Left forest) is
      (grown-left forest contents d small (grown_again n forest d.trees d.hung kinds) (all-few nodes (unless-none _ (forest.next, whole) (m, after) e)) (subst HasTrees (sym is) trees))

pub built_planted : BuiltPlanted
built_planted functions given tables instances contents m forest after p d small trees grown e = planted-left functions given tables instances p contents m forest after d small trees grown e

pub built_planted_bare : BuiltPlantedBare
built_planted_bare functions given tables instances b e m forest after p d small trees made =
    built_planted functions given tables instances (contents_of_bare b (bare.Element e) 0 0) m forest after p d small trees (grown_bare b e 0) (planted-tree _ (with_tree limits (contents_of_bare b (bare.Element e) 0 0) forest) made)
  where
    planted-tree : (fault : Option TreeFault) (v : Result (ℕ × Forest) TreeFault) → unless_fault fault v ≡ Ok (m, after) → v ≡ Ok (m, after)
    planted-tree None v i = i
    planted-tree (Some fault) v i = cc i

pub built_copied : BuiltCopied
built_copied functions given tables instances n m forest after p d small trees kinds e = copied-left functions given tables instances p n m forest after d small trees kinds e

-- ---- trees that move and go

-- what no instance of the model holds is elsewhere
away : (instances : List Instance) (model n : ℕ) (part forest : Forest) → IsPart instances model part forest → HasTrees forest → is_held model (holder instances n forest.nodes) ≡ false → has_number n part.nodes ≡ false
away instances model n part forest is trees held = held_in_part instances model n part forest is trees ∙ held

pub built_detached : BuiltDetached
built_detached functions given tables instances n parent forest p d trees may e = record {
  now = now;
  built = λ model held.
      built_where_stays functions given tables instances model forest (detached n forest) p d now
      (λ part is. part_stays_detached instances model n part forest is d.trees may
      (away instances model n part forest is d.trees (ap (is_held model) (held_with_parent instances n parent forest d.trees e) ∙ held)));
}
  where
    now : IsData (detached n forest)
    now = record { trees = trees; hung = hung_detached forest n may d.hung; few = d.few }

pub built_attached : BuiltAttached
built_attached functions given tables instances l n parent place forest after p d trees may e = record {
  now = now;
  built = λ model held.
      built_where_stays functions given tables instances model forest after p d now
      (λ part is. part_stays_attached instances model l n parent place part forest after is d.trees may (away instances model parent part forest is d.trees held) e);
}
  where
    at : ℕ
    at = place_of parent place (visits forest.nodes) (content_at n forest.nodes)

    is-placed : placed n parent at forest ≡ after
    is-placed = attached-placed l n parent place forest after e

    now : IsData after
    now = record {
      trees = trees;
      hung = ap (λ (f : Forest). are_hung f.nodes) (sym is-placed) ∙ hung_placed forest n parent at (stand-kinds n parent place forest may.stands) d.hung;
      few = subst (λ (f : Forest). f.next < 2 ^ 128) is-placed d.few;
    }

pub built_dropped : BuiltDropped
built_dropped functions given tables instances forest p d trees ahead = record {
  now = now;
  built = λ model. built_where_stays functions given tables instances model forest (record forest { nodes = in_instances forest.nodes }) p d now
      (λ part is. part_stays_dropped instances model forest.next part forest is d.trees ahead);
}
  where
    now : IsData (record forest { nodes = in_instances forest.nodes })
    now = record { trees = trees; hung = hung_instances forest.nodes d.hung; few = d.few }
