use Rattle.std.proofs.Common.{◌≡◌, ◌||◌, [], ◌∷◌, false, None, refl, sym, ap, ◌∙◌}
use Rattle.std.specs.List.{list_any}
use Rattle.std.proofs.lemmas.List.Elements.{All-nil, All-same}
use Rattle.xf_def_forest.specs.Forest.{content_at, is_element}
use Rattle.xf_def_forest.specs.Visit.{visits}
use Rattle.xf_tree_paths.specs.Family.{IsKid, count_in, index_of, index_text, is_named, meets}
use Rattle.xf_tree_paths.proofs.FamilyLemmas.{alone-index, elements-are, kid-element, kid-text, kid-other, kid-parent}
use Rattle.xf_tree_paths.proofs.family.only_child.Goals as goal
use Rattle.xf_tree_paths.proofs.family.only_child.Goals.{in-Element, in-Text, in-Other}

pub returns-clause-kids : goal.returns-clause-kids
returns-clause-kids c =
    let forest = c.args.forest.now.forest in
    let nodes = forest.nodes in
    let all = visits nodes in
    let n = c.args.child.number in
    let p = c.args.node.number in
    let cs = n ∷ [] in
    let here : index_text c.match-sort.index.0 ≡ index_of all n = elim c.match-sort.branch [
      | in-Element w ↦
          ap (λ p. index_text p.0) w.index-is
          ∙ kid-element forest p n 0 _ cs (λ name. count_in (is_named name) nodes cs) (λ name. 0) None c.requires.trees c.requires.children refl w.in-Element.ensures (λ name. refl) (λ name. refl) (alone-index _ nodes cs refl)
      | in-Text w ↦ ap (λ p. index_text p.0) w.index-is ∙ kid-text forest p n 0 _ cs 0 c.requires.trees c.requires.children refl w.in-Text.ensures refl
      | in-Other w ↦ ap (λ p. index_text p.0) w.index-is ∙ kid-other n nodes w.in-Other.ensures.0 w.in-Other.ensures.1
    ] in
    record {
      next = record { sort = c.sort_of-sort.ensures; index = here; below = kid-parent forest p n 0 cs c.requires.trees c.requires.children refl };
      later = All-same (IsKid nodes p) c.new.result.items [] c.new.ensures.items (All-nil (IsKid nodes p));
    }

pub returns-clause-elements : goal.returns-clause-elements
returns-clause-elements c =
    let forest = c.args.forest.now.forest in
    let nodes = forest.nodes in
    let n = c.args.child.number in
    let one : c.match-sort.index.1 ≡ list_any (λ k. meets is_element (content_at k nodes)) (n ∷ []) = elim c.match-sort.branch [
      | in-Element w ↦ ap (λ p. p.1) w.index-is ∙ sym (ap (λ o. meets is_element o || false) w.in-Element.ensures)
      | in-Text w ↦ ap (λ p. p.1) w.index-is ∙ sym (ap (λ o. meets is_element o || false) w.in-Text.ensures)
      | in-Other w ↦ ap (λ p. p.1) w.index-is ∙ sym (ap (λ b. b || false) w.in-Other.ensures.0)
    ] in
    one ∙ ap (list_any (λ k. meets is_element (content_at k nodes))) c.requires.children ∙ sym (elements-are forest c.args.node.number c.requires.trees c.requires.live)
