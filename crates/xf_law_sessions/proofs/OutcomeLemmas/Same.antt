-- The nodes of states at rest with the same data have the same contents; a renumbering of them makes the indexes the same, and all else is fixed by these.
use Rattle.std.proofs.Common.{◌≡◌, ℕ, suc, ◌+◌, List, map, Result, sym, ap, ◌∙◌, subst, arith}
use Rattle.std.specs.List.{flat_map}
use Rattle.xf_def_forest.specs.declared.content.Node.{Node}
use Rattle.xf_def_forest.specs.Same.{renumbered}
use Rattle.xf_def_machine.specs.AtRest.{IsAtRest}
use Rattle.xf_def_machine.specs.Carried.{AdoptFault, adopted}
use Rattle.xf_def_machine.specs.Profile.{Profile}
use Rattle.xf_def_machine.specs.Program.{Program}
use Rattle.xf_def_machine.specs.State.{State}
use Rattle.xf_law_sessions.proofs.SameLemmas.TextsGo.{text_stays}
use Rattle.xf_law_sessions.specs.Step.Fixed.{HaveSameData, without_number}
use Rattle.xf_law_sessions.proofs.StepLemmas.ChangesAlike.{has-form}
use Rattle.xf_law_sessions.proofs.StepLemmas.Found.{Found, found, below-all}
use Rattle.xf_law_sessions.proofs.StepLemmas.RestFixed.{rest_is_fixed, fixed-by}
use Rattle.xf_law_sessions.specs.Outcome.Contents.{trees_of, under_root}
use Rattle.xf_law_sessions.specs.Outcome.Events.{made_by}
use Rattle.xf_law_sessions.specs.Outcome.Snapshot.{HaveSameSnapshot}
use Rattle.xf_law_sessions.specs.Outcome.Same.{SameDataAreSame, SameDataGo, SameDataShow, SameDataAdopt, DataLaws}
use Rattle.xf_law_sessions.proofs.OutcomeLemmas.Contents.{trees_tell}
use Rattle.xf_law_sessions.proofs.OutcomeLemmas.Events.{events_go}
use Rattle.xf_law_sessions.proofs.OutcomeLemmas.Indexes.{indexes_fixed}
use Rattle.xf_law_sessions.proofs.OutcomeLemmas.Numbers.{contents_renumber}
use Rattle.xf_law_sessions.proofs.OutcomeLemmas.Snapshot.{adopted-same}

-- one by one the nodes have the same depth and content
same-contents : (p : Profile) (s t : State) → HaveSameSnapshot s t → IsAtRest p s → IsAtRest p t → map without_number s.forest.nodes ≡ map without_number t.forest.nodes
same-contents p s t q h k =
    trees_tell s h.trees h.documents
    ∙ ap (flat_map (under_root s.form.bindings)) q.trees
    ∙ ap (λ (x : Program). flat_map (under_root x.bindings) (trees_of t)) q.form
    ∙ sym (trees_tell t k.trees k.documents)

pub same_data : SameDataAreSame
same_data p made s t h =
    let g = contents_renumber made s.forest t.forest h.rest.trees h.other_rest.trees h.room h.other_room (same-contents p s t h.snapshot h.rest h.other_rest) in
    let indexes = indexes_fixed p g.by s t h.numbered (record { renumbers = g.renumbers; form = h.snapshot.form; nodes = g.nodes; indexes = h.snapshot.indexes }) h.rest.placed h.other_rest.placed in
    let have : HaveSameData g.by s t = record {
      renumbers = g.renumbers;
      keeps_texts = g.keeps_texts;
      form = h.snapshot.form;
      nodes = g.nodes;
      indexes = indexes;
      cases = h.snapshot.cases;
      accepted = h.snapshot.accepted;
    } in
    let same = rest_is_fixed p g.by s t h.numbered.of_form have h.rest h.other_rest in
    record {
      same = same;
      continues = λ k less. subst (λ f. f (s.forest.next + k) ≡ t.forest.next + k) (fixed-by p g.by s t h.numbered.of_form have h.rest h.other_rest) (g.continues k less);
    }

pub same_data_go : SameDataGo
same_data_go p made lines s t h = events_go p made lines s t h.numbered.of_form (same_data p (made_by p lines + made) s t h)

pub same_data_show : SameDataShow
same_data_show p made s t h = text_stays p s t (has-form s h.numbered.of_form) (same_data p made s t h).same

-- any renumbering of the nodes will do
same_data_adopt : SameDataAdopt
same_data_adopt p form s t q h k =
    let w = suc (s.forest.next + t.forest.next) in
    let g : Found w s.forest.nodes t.forest.nodes =
    found w (omega arith) s.forest.nodes t.forest.nodes (same-contents p s t q h k) h.trees.apart k.trees.apart (below-all s.forest.next s.forest.nodes h.trees.below w (omega arith))
    (below-all t.forest.next t.forest.nodes k.trees.below w (omega arith)) in
    let over : Program → List Node → ℕ → Result State AdoptFault = λ f nodes count. adopted p (record s { form = f; forest = record { nodes = nodes; next = 0 }; accepted = count }) form in
    sym (adopted-same g.by g.renumbers 0 s p form)
    ∙ ap (λ f. over f (map (renumbered g.by) s.forest.nodes) s.accepted) q.form
    ∙ ap (λ nodes. over t.form nodes s.accepted) g.nodes
    ∙ ap (over t.form t.forest.nodes) q.accepted

pub data_laws : DataLaws
data_laws = record { same = same_data; go = same_data_go; show = same_data_show; adopt = same_data_adopt }
