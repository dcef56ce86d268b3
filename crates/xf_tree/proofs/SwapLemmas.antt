-- An element without element children, with other texts.
use Rattle.std.proofs.Common.{◌≡◌, ℕ, suc, ◌+◌, ◌≤◌, false, List, [], ◌∷◌, ◌++◌, map, length, take, drop, get_or, Some, sym, ap, ◌∙◌, subst, arith, append_assoc, length-append}
use Rattle.std.specs.Prelude.{filter}
use Rattle.std.proofs.lemmas.Bool.{false≢true}
use Rattle.std.proofs.lemmas.List.{map-append, take-append-drop, take_more, length-map}
use Rattle.slab.specs.Slab.{Slab, get}
use Rattle.xf_def_forest.specs.declared.node.NodeId.{NodeId}
use Rattle.xf_def_forest.specs.declared.content.Node.{Node}
use Rattle.xf_def_forest.specs.declared.content.Content.{Content}
use Rattle.xf_def_forest.specs.declared.content.Kind.TheVariants as kind
use Rattle.xf_def_forest.specs.Forest.{is_attribute, kind_at, past}
use Rattle.xf_def_forest.specs.Visit.{visits}
use Rattle.xf_def_forest.specs.Shape.{has_elements}
use Rattle.xf_def_forest.specs.Texts.{at_depth, with_content, with_texts}
use Rattle.xf_tree_rows.specs.declared.rows.Row.{Row}
use Rattle.xf_tree_rows.specs.Rows.{deeper, AreSteps, depths, no_row}
use Rattle.xf_tree_rows.proofs.CutLemmas.{stops-after}
use Rattle.xf_tree_rows.proofs.RowLemmas.{split-at}
use Rattle.xf_tree_contents.specs.Slot.{Slot}
use Rattle.xf_tree_contents.specs.Keys.{content_in}
use Rattle.xf_tree_walks.specs.Leaves.{parts_in, AreLeaves}
use Rattle.xf_tree_walks.specs.First.{AreFirst}
use Rattle.xf_tree_walks.specs.Nodes.{node_of, AllLive, AllTops, StandsAt}
use Rattle.xf_tree_walks.proofs.StepLemmas.{most_after, steps-append, steps-parts}
use Rattle.xf_tree_walks.proofs.LeafLemmas.{leaves-parts, leaves-other, parts-append, first-not_deeper}
use Rattle.xf_tree_walks.proofs.RootLemmas.{tops-parts}
use Rattle.xf_tree_walks.proofs.PlaceLemmas.{below-is, past-is}
use Rattle.xf_tree_changes.specs.Trees.{unsized}
use Rattle.xf_tree_changes.specs.Texts.{attributes, children, is_attribute_row, text_row, AreAt, depth_at, run_of, after_run, with_text_rows}
use Rattle.xf_tree_changes.proofs.MapLemmas.{live-append}
use Rattle.xf_tree_changes.proofs.SameLemmas.{SameAt, nodes-same}
use Rattle.xf_tree.specs.State.{IsSound}
use Rattle.xf_tree.proofs.FirstBelowLemmas.{first-below, first-attributes_and, element-behind, element-plain, texts-plain, all-at, from-at}
use Rattle.xf_tree.proofs.ForestLemmas.{live-parts, tops-append, first-low}
use Rattle.xf_tree.proofs.DropLemmas.{live-same}
use Rattle.xf_tree.proofs.ChildlessLemmas.{element-parted, is-element, run-flat}
use Rattle.xf_tree.proofs.UnsizedLemmas.{nodes-unsized, depths-unsized, live-unsized, length-unsized, filter-attributes, live-filter, tops-filter, at-filter, at-append, at-texts, both-length, both-parts, at-steps, at-leaves, element-no_leaf, AreTextNodes, tops-texts, texts-go, same-parts}

module _ (s : Slab Slot) (n at : ℕ) (rows : List Row) (kept : List ℕ) (next : ℕ) (sound : IsSound s rows kept next) (here : StandsAt s rows n at)
    (kind : kind_at n (map (node_of s) rows) ≡ Some kind.Element) (childless : has_elements (visits (map (node_of s) rows)) n ≡ false) where
  abbrev pub front : List Row
  front = take at rows

  abbrev pub row : Row
  row = get_or rows at no_row

  abbrev pub run : List Row
  run = run_of at rows

  abbrev pub behind : List Row
  behind = after_run at rows

  split : rows ≡ front ++ (row ∷ (run ++ behind))
  split = sym (take-append-drop at rows) ∙ ap (λ l. take at rows ++ l) (split-at at rows no_row here.within) ∙ ap (λ l. front ++ (row ∷ l)) (sym (take-append-drop (deeper row.depth (drop (at + 1) rows)) (drop (at + 1) rows)))

  stops : deeper row.depth behind ≡ 0
  stops = stops-after row.depth (drop (at + 1) rows)

  was : map (node_of s) rows ≡ map (node_of s) front ++ (node_of s row ∷ (map (node_of s) run ++ map (node_of s) behind))
  was = ap (map (node_of s)) split ∙ map-append (node_of s) front (row ∷ (run ++ behind)) ∙ ap (λ l. map (node_of s) front ++ (node_of s row ∷ l)) (map-append (node_of s) run behind)

  live-was : AllLive s (front ++ (row ∷ (run ++ behind)))
  live-was = subst (AllLive s) split sound.live

  tops-was : AllTops (map (node_of s) front ++ (node_of s row ∷ (map (node_of s) run ++ map (node_of s) behind)))
  tops-was = subst AllTops was sound.tops

  -- what stays where it is
  abbrev pub stay : List Row
  stay = front ++ (row ∷ (attributes s run ++ behind))

  pub live-stay : AllLive s stay
  live-stay =
      let a = live-parts s front (row ∷ (run ++ behind)) live-was in
      let b = live-parts s run behind a.1.1 in
      live-append s front (row ∷ (attributes s run ++ behind)) a.0 (a.1.0, live-append s (attributes s run) behind (live-filter s (is_attribute_row s) run b.0) b.1)

  pub live-run : AllLive s run
  live-run = (live-parts s run behind (live-parts s front (row ∷ (run ++ behind)) live-was).1.1).0

  module _ (f : List Node → ℕ) (adds : (xs ys : List Node) → f (xs ++ ys) ≡ f xs + f ys) where
    pub stay-parts : f (map (node_of s) stay) + f (map (node_of s) (children s run)) ≡ f (map (node_of s) rows)
    stay-parts =
        let g = node_of s in
        let a = ap f was ∙ adds (map g front) (g row ∷ (map g run ++ map g behind)) in
        let b = adds (g row ∷ []) (map g run ++ map g behind) in
        let c = adds (map g run) (map g behind) in
        let d = ap f (map-append g front (row ∷ (attributes s run ++ behind)) ∙ ap (λ l. map g front ++ (g row ∷ l)) (map-append g (attributes s run) behind)) ∙ adds (map g front) (g row ∷ (map g (attributes s run) ++ map g behind)) in
        let e = adds (g row ∷ []) (map g (attributes s run) ++ map g behind) in
        let h = adds (map g (attributes s run)) (map g behind) in
        omega (arith, a, b, c, d, e, h, both-parts f adds s run)

  -- the nodes with other texts, in parts
  with-shape : (nodes : List Node) → with_texts n nodes (map (node_of s) rows)
      ≡ map (node_of s) front ++ (node_of s row ∷ (map (node_of s) (attributes s run) ++ (map (at_depth (suc row.depth)) nodes ++ map (node_of s) behind)))
  with-shape nodes =
      let g = node_of s in
      let p = element-parted s n at rows kept next sound here kind childless in
      let xs = map g (drop (at + 1) rows) in
      let content : with_content row.depth nodes xs ≡ map g (attributes s run) ++ (map (at_depth (suc row.depth)) nodes ++ map g behind) =
      ap (λ l. (filter (λ (y : Node). is_attribute y.content) l ++ map (at_depth (suc row.depth)) nodes) ++ past row.depth xs) (below-is s row.depth (drop (at + 1) rows))
      ∙ ap (λ l. (l ++ map (at_depth (suc row.depth)) nodes) ++ past row.depth xs) (filter-attributes s run)
      ∙ ap (λ l. (map g (attributes s run) ++ map (at_depth (suc row.depth)) nodes) ++ l) (past-is s row.depth (drop (at + 1) rows))
      ∙ append_assoc (map g (attributes s run)) (map (at_depth (suc row.depth)) nodes) (map g behind) in
      ap (with_texts n nodes) p.whole ∙ texts-go n nodes (map g front) (g row) xs here.number p.before ∙ ap (λ l. map g front ++ (g row ∷ l)) content

  module _ (f : List Node → ℕ) (adds : (xs ys : List Node) → f (xs ++ ys) ≡ f xs + f ys) (flat : (d : ℕ) (xs : List Node) → f (map (at_depth d) xs) ≡ f xs) where
    pub with-parts : (nodes : List Node) → f (with_texts n nodes (map (node_of s) rows)) ≡ f (map (node_of s) stay) + f nodes
    with-parts nodes =
        let g = node_of s in
        let a = ap f (with-shape nodes) ∙ adds (map g front) (g row ∷ (map g (attributes s run) ++ (map (at_depth (suc row.depth)) nodes ++ map g behind))) in
        let b = adds (g row ∷ []) (map g (attributes s run) ++ (map (at_depth (suc row.depth)) nodes ++ map g behind)) in
        let c = adds (map g (attributes s run)) (map (at_depth (suc row.depth)) nodes ++ map g behind) in
        let c2 = adds (map (at_depth (suc row.depth)) nodes) (map g behind) in
        let d = ap f (map-append g front (row ∷ (attributes s run ++ behind)) ∙ ap (λ l. map g front ++ (g row ∷ l)) (map-append g (attributes s run) behind)) ∙ adds (map g front) (g row ∷ (map g (attributes s run) ++ map g behind)) in
        let e = adds (g row ∷ []) (map g (attributes s run) ++ map g behind) in
        let h = adds (map g (attributes s run)) (map g behind) in
        omega (arith, a, b, c, c2, d, e, h, flat (suc row.depth) nodes)

    -- in place of the texts that it had
    pub with-sum : (nodes : List Node) → f (with_texts n nodes (map (node_of s) rows)) + f (map (node_of s) (children s run)) ≡ f (map (node_of s) rows) + f nodes
    with-sum nodes = omega (arith, with-parts nodes, stay-parts f adds)

  module _ (s1 s2 : Slab Slot) (texts : List NodeId) (nodes : List Node) (new : List Row) (rows_are : map unsized new ≡ map unsized (with_text_rows s1 at texts rows))
      (alike : attributes s1 (run_of at rows) ≡ attributes s (run_of at rows)) (same : SameAt s s2 stay)
      (news : map (node_of s2) (map (text_row (depth_at at rows + 1)) texts) ≡ map (at_depth (suc (depth_at at rows))) nodes) (are_texts : AreTextNodes nodes)
      (news_live : AllLive s2 (map (text_row (depth_at at rows + 1)) texts)) where
    abbrev added : List Row
    added = map (text_row (depth_at at rows + 1)) texts

    pub is : map unsized new ≡ map unsized (front ++ (row ∷ (attributes s run ++ (added ++ behind))))
    is =
        rows_are ∙ ap (λ l. map unsized (take (at + 1) rows ++ (l ++ (added ++ behind)))) alike
        ∙ ap (λ l. map unsized (l ++ (attributes s run ++ (added ++ behind)))) (take_more rows at no_row here.within)
        ∙ ap (map unsized) (append_assoc front (row ∷ []) (attributes s run ++ (added ++ behind)))

    same-front : SameAt s s2 front × SameAt s s2 (row ∷ (attributes s run ++ behind))
    same-front = same-parts s s2 front (row ∷ (attributes s run ++ behind)) same

    same-run : SameAt s s2 (attributes s run) × SameAt s s2 behind
    same-run = same-parts s s2 (attributes s run) behind same-front.1.1

    pub now : map (node_of s2) new ≡ map (node_of s) front ++ (node_of s row ∷ (map (node_of s) (attributes s run) ++ (map (at_depth (suc row.depth)) nodes ++ map (node_of s) behind)))
    now =
        let g = node_of s2 in
        nodes-unsized s2 new (front ++ (row ∷ (attributes s run ++ (added ++ behind)))) is
        ∙ map-append g front (row ∷ (attributes s run ++ (added ++ behind)))
        ∙ ap (λ l. map g front ++ (g row ∷ l)) (map-append g (attributes s run) (added ++ behind) ∙ ap (λ l. map g (attributes s run) ++ l) (map-append g added behind))
        ∙ ap (λ l. l ++ (g row ∷ (map g (attributes s run) ++ (map g added ++ map g behind)))) (nodes-same s s2 front same-front.0)
        ∙ ap (λ l. map (node_of s) front ++ (l ++ (map g (attributes s run) ++ (map g added ++ map g behind)))) (nodes-same s s2 (row ∷ []) (same-front.1.0, tt))
        ∙ ap (λ l. map (node_of s) front ++ (node_of s row ∷ (l ++ (map g added ++ map g behind)))) (nodes-same s s2 (attributes s run) same-run.0)
        ∙ ap (λ l. map (node_of s) front ++ (node_of s row ∷ (map (node_of s) (attributes s run) ++ (l ++ map g behind)))) news
        ∙ ap (λ l. map (node_of s) front ++ (node_of s row ∷ (map (node_of s) (attributes s run) ++ (map (at_depth (suc row.depth)) nodes ++ l)))) (nodes-same s s2 behind same-run.1)

    pub swap-nodes : map (node_of s2) new ≡ with_texts n nodes (map (node_of s) rows)
    swap-nodes = now ∙ sym (with-shape nodes)

    pub swap-length : length new + length (children s run) ≡ length rows + length texts
    swap-length =
        let a = length-unsized new (front ++ (row ∷ (attributes s run ++ (added ++ behind)))) is in
        let b = length-append front (row ∷ (attributes s run ++ (added ++ behind))) in
        let c = length-append (attributes s run) (added ++ behind) in
        let d = length-append added behind in
        let e = ap length split ∙ length-append front (row ∷ (run ++ behind)) in
        omega (arith, a, b, c, d, e, length-append run behind, both-length s run, length-map texts (text_row (depth_at at rows + 1)))

    pub swap-live : AllLive s2 new
    swap-live =
        let a = live-parts s front (row ∷ (attributes s run ++ behind)) live-stay in
        let b = live-parts s (attributes s run) behind a.1.1 in
        live-unsized s2 new (front ++ (row ∷ (attributes s run ++ (added ++ behind)))) is
        (live-append s2 front (row ∷ (attributes s run ++ (added ++ behind))) (live-same s s2 front same-front.0 a.0) (
          (live-same s s2 (row ∷ []) (same-front.1.0, tt) (a.1.0, tt)).0,
          live-append s2 (attributes s run) (added ++ behind) (live-same s s2 (attributes s run) same-run.0 b.0)
              (live-append s2 added behind news_live (live-same s s2 behind same-run.1 b.1)),
        ))

    pub swap-tops : AllTops (map (node_of s2) new)
    swap-tops =
        let g = node_of s in
        let a = tops-parts (map g front) (g row ∷ (map g run ++ map g behind)) tops-was in
        let b = tops-parts (map g run) (map g behind) a.1.1 in
        subst AllTops (sym now)
        (tops-append (map g front) (g row ∷ (map g (attributes s run) ++ (map (at_depth (suc row.depth)) nodes ++ map g behind))) a.0 (
          a.1.0,
          tops-append (map g (attributes s run)) (map (at_depth (suc row.depth)) nodes ++ map g behind) (tops-filter s (is_attribute_row s) run b.0)
              (tops-append (map (at_depth (suc row.depth)) nodes) (map g behind) (tops-texts (suc row.depth) nodes are_texts) b.1),
        ))

    at-now : AreAt (row.depth + 1) (attributes s run ++ added)
    at-now = at-append (row.depth + 1) (attributes s run) added (at-filter (row.depth + 1) (is_attribute_row s) run (run-flat s n at rows kept next sound here kind childless)) (at-texts (row.depth + 1) texts)

    pub swap-steps : AreSteps 0 (depths new)
    swap-steps =
        let d : Row → ℕ = λ r. r.depth in
        let old : depths rows ≡ depths front ++ (row.depth ∷ (depths run ++ depths behind)) =
        ap depths split ∙ map-append d front (row ∷ (run ++ behind)) ∙ ap (λ l. depths front ++ (row.depth ∷ l)) (map-append d run behind) in
        let a = steps-parts 0 (depths front) (row.depth ∷ (depths run ++ depths behind)) (subst (AreSteps 0) old sound.steps) in
        let b = steps-parts (suc row.depth) (depths run) (depths behind) a.1.1 in
        let low : (more : ℕ) → row.depth ≤ more → AreSteps more (depths behind) = λ more h. first-low row.depth more behind stops h (most_after (suc row.depth) (depths run)) b.1 in
        let turn : depths new ≡ depths front ++ (row.depth ∷ (depths (attributes s run ++ added) ++ depths behind)) =
        depths-unsized new (front ++ (row ∷ (attributes s run ++ (added ++ behind)))) is ∙ map-append d front (row ∷ (attributes s run ++ (added ++ behind)))
        ∙ ap (λ l. depths front ++ (row.depth ∷ depths l)) (sym (append_assoc (attributes s run) added behind)) ∙ ap (λ l. depths front ++ (row.depth ∷ l)) (map-append d (attributes s run ++ added) behind) in
        subst (AreSteps 0) (sym turn) (steps-append 0 (depths front) (row.depth ∷ (depths (attributes s run ++ added) ++ depths behind)) a.0
        (a.1.0, at-steps row.depth (suc row.depth) (attributes s run ++ added) (depths behind) (omega arith) at-now low))

    pub swap-leaves : AreLeaves (parts_in (map (node_of s2) new))
    swap-leaves =
        let g = node_of s2 in
        let o = node_of s in
        let turn : map g new ≡ map o front ++ (o row ∷ (map g (attributes s run ++ added) ++ map o behind)) =
        now ∙ ap (λ l. map o front ++ (o row ∷ (map o (attributes s run) ++ (l ++ map o behind)))) (sym news)
        ∙ ap (λ l. map o front ++ (o row ∷ (l ++ (map g added ++ map o behind)))) (sym (nodes-same s s2 (attributes s run) same-run.0))
        ∙ ap (λ l. map o front ++ (o row ∷ l)) (sym (append_assoc (map g (attributes s run)) (map g added) (map o behind)) ∙ ap (λ l. l ++ map o behind) (sym (map-append g (attributes s run) added))) in
        let whole : parts_in (map g new) ≡ parts_in (map o front) ++ ((row.depth, content_in (get s row.key)) ∷ (parts_in (map g (attributes s run ++ added)) ++ parts_in (map o behind))) =
        ap parts_in turn ∙ parts-append (map o front) (o row ∷ (map g (attributes s run ++ added) ++ map o behind))
        ∙ ap (λ l. parts_in (map o front) ++ ((row.depth, content_in (get s row.key)) ∷ l)) (parts-append (map g (attributes s run ++ added)) (map o behind)) in
        let old : parts_in (map o rows) ≡ parts_in (map o front) ++ ((row.depth, content_in (get s row.key)) ∷ (parts_in (map o run) ++ parts_in (map o behind))) =
        ap parts_in was ∙ parts-append (map o front) (o row ∷ (map o run ++ map o behind))
        ∙ ap (λ l. parts_in (map o front) ++ ((row.depth, content_in (get s row.key)) ∷ l)) (parts-append (map o run) (map o behind)) in
        let leaves = subst AreLeaves old sound.leaves in
        let one = leaves-parts (parts_in (map o front)) ((row.depth, content_in (get s row.key)) ∷ (parts_in (map o run) ++ parts_in (map o behind))) leaves in
        let two = leaves-parts (parts_in (map o run)) (parts_in (map o behind)) one.1.1 in
        let rest = at-leaves s2 row.depth (attributes s run ++ added) (parts_in (map o behind)) at-now (first-not_deeper s row.depth behind stops) two.1 in
        let no = element-no_leaf (content_in (get s row.key)) (is-element s n at rows kept next sound here kind childless) in
        let least : row.depth ≤ row.depth = omega arith in
        subst AreLeaves (sym whole) (leaves-other (parts_in (map o front)) (row.depth, content_in (get s row.key)) (parts_in (map o run) ++ parts_in (map o behind))
        ((row.depth, content_in (get s row.key)) ∷ (parts_in (map g (attributes s run ++ added)) ++ parts_in (map o behind))) leaves least
        (λ e. absurd (false≢true (sym no ∙ e)), rest))

    pub swap-first : AreFirst 0 (parts_in (map (node_of s2) new))
    swap-first =
        let o = node_of s in
        let p : ℕ × Content = (row.depth, content_in (get s row.key)) in
        let fresh = map (at_depth (suc row.depth)) nodes in
        let own = parts_in (map o (attributes s run)) in
        let old : parts_in (map o rows) ≡ parts_in (map o front) ++ (p ∷ (parts_in (map o run) ++ parts_in (map o behind))) =
        ap parts_in was ∙ parts-append (map o front) (o row ∷ (map o run ++ map o behind)) ∙ ap (λ l. parts_in (map o front) ++ (p ∷ l)) (parts-append (map o run) (map o behind)) in
        let whole : parts_in (map (node_of s2) new) ≡ parts_in (map o front) ++ (p ∷ ((own ++ parts_in fresh) ++ parts_in (map o behind))) =
        ap parts_in now ∙ parts-append (map o front) (o row ∷ (map o (attributes s run) ++ (fresh ++ map o behind)))
        ∙ ap (λ l. parts_in (map o front) ++ (p ∷ l)) (parts-append (map o (attributes s run)) (fresh ++ map o behind))
        ∙ ap (λ l. parts_in (map o front) ++ (p ∷ (own ++ l))) (parts-append fresh (map o behind))
        ∙ ap (λ l. parts_in (map o front) ++ (p ∷ l)) (sym (append_assoc own (parts_in fresh) (parts_in (map o behind)))) in
        let flat = run-flat s n at rows kept next sound here kind childless in
        let element = is-element s n at rows kept next sound here kind childless in
        let below = first-attributes_and s (suc row.depth) run (parts_in fresh) (all-at row.depth run flat) (texts-plain (suc row.depth) nodes are_texts) in
        subst (AreFirst 0) (sym whole) (first-below 0 (parts_in (map o front)) p (parts_in (map o run)) (own ++ parts_in fresh) (parts_in (map o behind)) (element-plain p.1 element)
        (from-at s row.depth run flat) (first-not_deeper s row.depth behind stops) (subst (AreFirst 0) old sound.first)
        (subst (λ d. AreFirst d (own ++ parts_in fresh)) (sym (element-behind row.depth p.1 element)) below))
