-- The trees of documents and what an adoption carries over do not depend on numbers of nodes.
use Rattle.std.proofs.Common.{◌≡◌, ℕ, suc, List, [], ◌∷◌, map, length, slice_get, get_or, Option, Some, None, option_map, refl, sym, ap, ◌∙◌}
use Rattle.std.specs.Prelude.{option_and_then}
use Rattle.std.specs.List.{cons_option, filter_map}
use Rattle.xf_def_syntax.specs.declared.form.Instance.{Instance}
use Rattle.xf_def_forest.specs.declared.content.Node.{Node}
use Rattle.xf_def_forest.specs.Changes.{contents_in}
use Rattle.xf_def_forest.specs.Forest.{tree_of}
use Rattle.xf_def_forest.specs.Literal.{bare_of, bare_part, first_tree_in, gathered, inner, outer}
use Rattle.xf_def_forest.specs.Same.{IsRenumbering, renumbered}
use Rattle.xf_def_forest.proofs.RenumberChanges.{tree_of-renumbered}
use Rattle.xf_def_forest.proofs.RenumberTexts.{contents-renumbered}
use Rattle.xf_def_ui.specs.Index.{Index}
use Rattle.xf_def_machine.specs.Carried.{Document, adopted, adopted_over, carried_from, carried_one, document_of, rank_of, with_rest}
use Rattle.xf_def_machine.specs.Construct.{contents_under, instances_of}
use Rattle.xf_def_machine.specs.Cycles.{counted_from}
use Rattle.xf_def_machine.specs.Examples.{profile}
use Rattle.xf_def_machine.specs.Profile.{Profile}
use Rattle.xf_def_machine.specs.Program.{Program}
use Rattle.xf_def_machine.specs.Same.{renumbered_index}
use Rattle.xf_def_machine.specs.State.{State}
use Rattle.xf_def_machine.specs.Step.{fresh}
use Rattle.xf_def_machine.specs.Surround.{document_at, instances_in}
use Rattle.xf_law_sessions.specs.Same.Going.{image}
use Rattle.xf_law_sessions.proofs.SameLemmas.GoingLaws.{changes_go}
use Rattle.xf_law_sessions.proofs.SameLemmas.ScopeGoes.{document-goes}
use Rattle.xf_law_sessions.specs.Outcome.Contents.{tree_at, trees_of}
use Rattle.xf_law_sessions.specs.Outcome.Snapshot.{SnapshotStays, AdoptedAlike, SnapshotLaws}

module _ (f : ℕ → ℕ) (same : IsRenumbering f) (second : ℕ) (s : State) where
  abbrev other : State
  other = image f second s

  -- ---- trees

  gathered-same : (xs : List Node) → gathered bare_part (map (renumbered f) xs) ≡ gathered bare_part xs
  gathered-same [] = refl
  gathered-same (x ∷ xs) = ap (λ l. (x.depth, bare_part x.content (inner x.depth l)) ∷ outer x.depth l) (gathered-same xs)

  bare-same : (n : ℕ) → bare_of (f n) other.forest.nodes ≡ bare_of n s.forest.nodes
  bare-same n = ap (λ l. first_tree_in (gathered bare_part l)) (tree_of-renumbered f same n s.forest.nodes) ∙ ap first_tree_in (gathered-same (tree_of n s.forest.nodes))

  found-same : (o : Option ℕ) → option_and_then (λ n. bare_of n other.forest.nodes) (option_map f o) ≡ option_and_then (λ n. bare_of n s.forest.nodes) o
  found-same None = refl
  found-same (Some n) = bare-same n

  tree-same : (place : ℕ) → tree_at other place ≡ tree_at s place
  tree-same place = ap (option_and_then (λ n. bare_of n other.forest.nodes)) (document-goes f same second s place) ∙ found-same (document_at s place)

  trees-same : (places : List ℕ) → filter_map (tree_at other) places ≡ filter_map (tree_at s) places
  trees-same [] = refl
  trees-same (place ∷ places) = ap (λ o. cons_option o (filter_map (tree_at other) places)) (tree-same place) ∙ ap (cons_option (tree_at s place)) (trees-same places)

  numbers-same : (is : List Index) → map (λ (i : Index). i.index) (map (renumbered_index f) is) ≡ map (λ (i : Index). i.index) is
  numbers-same [] = refl
  numbers-same (i ∷ is) = ap (λ ks. i.index ∷ ks) (numbers-same is)

  -- ---- what an adoption carries

  under-same : (o : Option ℕ) → contents_under other (option_map f o) ≡ contents_under s o
  under-same None = refl
  under-same (Some n) = ap contents_in (tree_of-renumbered f same n s.forest.nodes) ∙ contents-renumbered f same (tree_of n s.forest.nodes)

  contents-same : (place : ℕ) → contents_under other (document_at other place) ≡ contents_under s (document_at s place)
  contents-same place = ap (contents_under other) (document-goes f same second s place) ∙ under-same (document_at s place)

-- by its place, where there is one
abbrev placed : State → Option ℕ → Document
placed s None = []
placed s (Some place) = contents_under s (document_at s place)

placed-is : (s : State) (model rank : ℕ) → document_of s model rank ≡ placed s (slice_get (instances_of s model) rank)
placed-is s model rank = by (slice_get (instances_of s model) rank) refl
  where
    by : (o : Option ℕ) → slice_get (instances_of s model) rank ≡ o → document_of s model rank ≡ placed s o
    by None e = rw e refl
    by (Some place) e = rw e refl

module _ (f : ℕ → ℕ) (same : IsRenumbering f) (second : ℕ) (s : State) where
  placed-same : (o : Option ℕ) → placed (image f second s) o ≡ placed s o
  placed-same None = refl
  placed-same (Some place) = contents-same f same second s place

  document-same : (model rank : ℕ) → document_of (image f second s) model rank ≡ document_of s model rank
  document-same model rank =
      placed-is (image f second s) model rank ∙ placed-same (slice_get (instances_of s model) rank) ∙ sym (placed-is s model rank)

  carried-same : (form : Program) (place : ℕ) (is : List Instance) → carried_from (image f second s) form place is ≡ carried_from s form place is
  carried-same form place [] = refl
  carried-same form place (i ∷ is) =
      let rank = rank_of form.instances i.model place in
      let own = get_or form.documents place [] in
      ap (λ was. with_rest (carried_one s.form.bindings form.bindings i.model rank was own) (carried_from (image f second s) form (suc place) is)) (document-same i.model rank)
      ∙ ap (with_rest (carried_one s.form.bindings form.bindings i.model rank (document_of s i.model rank) own)) (carried-same form (suc place) is)

  pub adopted-same : (p : Profile) (form : Program) → adopted p (image f second s) form ≡ adopted p s form
  adopted-same p form = ap (adopted_over p s form) (carried-same form 0 form.instances)

pub snapshot_stays : SnapshotStays
snapshot_stays s t q =
    let begun = fresh profile s in
    let is = changes_go.same profile s t q in
    record {
      form = q.form;
      trees = sym (ap trees_of is ∙ trees-same q.by q.renumbers t.forest.next begun (counted_from 0 (length (instances_in s))));
      indexes = sym (ap (λ (x : State). map (λ (i : Index). i.index) x.indexes) is ∙ numbers-same q.by q.renumbers t.forest.next begun s.indexes);
      cases = q.cases;
      accepted = q.accepted;
    }

adopted_alike : AdoptedAlike
adopted_alike p form s t q =
    sym (ap (λ x. adopted p x form) (changes_go.same profile s t q) ∙ adopted-same q.by q.renumbers t.forest.next (fresh profile s) p form)

pub snapshot_laws : SnapshotLaws
snapshot_laws = record { stays = snapshot_stays; adopted = adopted_alike }
