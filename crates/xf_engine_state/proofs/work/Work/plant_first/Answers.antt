use Rattle.std.proofs.Common.{◌≡◌, ◌<◌, ◌^◌, [], length, Ok, Some, sym, ◌∙◌, subst}
use Rattle.xf_def_forest.specs.declared.node.NodeId.{NodeId}
use Rattle.xf_def_forest.specs.Changes.{in_detached}
use Rattle.xf_def_forest.specs.Forest.{Forest}
use Rattle.xf_def_forest.specs.Limits.{limits}
use Rattle.xf_def_forest.specs.Planted.{contents_of_bare, with_tree}
use Rattle.xf_def_forest.specs.WellFormed.{HasTrees}
use Rattle.xf_def_machine.specs.Construct.{construct, first_contents}
use Rattle.xf_def_machine.specs.Primitives.{plant}
use Rattle.xf_binds.specs.Table.{all_rolled_back}
use Rattle.xf_def_form.specs.Formed.{profile, program_in}
use Rattle.xf_engine_state.specs.Does.{Makes, Twin}
use Rattle.xf_engine_state.specs.FirstData.{AreFirst}
use Rattle.xf_engine_state.specs.Fit.{IsRight}
use Rattle.xf_engine_state.specs.Parts.{chosen_of, standing_of}
use Rattle.xf_engine_state.specs.Standing.{state_of}
use Rattle.xf_engine_state.proofs.ComeLaws.{kept-between, right-nothing, sound-between, whole-planted}
use Rattle.xf_engine_state.proofs.MovedLaws.{tree-makes}
use Rattle.xf_engine_state.proofs.work.Work.plant_first.Goals as goal

pub invariant_of-self : goal.invariant_of-self
invariant_of-self c =
    let w = c.self.inside in
    let tree = c.in-Some-get.tree.now in
    let given = with_tree limits (contents_of_bare w.loaded.prefixes c.in-Some-get.tree.now 0 0) w.draft.now in
    let trees : HasTrees w.draft.now = subst HasTrees c.forest.ensures c.are_counted.ensures.trees in
    let few : w.draft.now.next < 2 ^ 128 = subst (λ (f : Forest). f.next < 2 ^ 128) c.forest.ensures c.are_counted.ensures.few in
    let later : HasTrees c.plant_in-planted.new.draft.now = subst HasTrees c.forest-in-Element.ensures c.are_counted-in-Element.ensures.trees in
    let kept : c.plant_in-planted.new.draft.kept ≡ w.draft.kept = kept-between w.draft c.plant_in-planted.new.draft given c.plant_in-planted.ensures.between in
    record {
      sound = sound-between w.loaded w.draft w.table w.flags.items w.old_flags.items w.built w.old_built c.self.invariant.sound c.plant_in-planted.new.draft given
          (λ m after small is now. whole-planted w.loaded w.table w.flags.items w.built w.draft.now trees few c.self.invariant.sound.now w.loaded.prefixes c.in-Element.field-0 m after small (subst HasTrees (sym now) later)
          (subst (λ t. with_tree limits (contents_of_bare w.loaded.prefixes t 0 0) w.draft.now ≡ Ok (m, after)) c.in-Element.is is))
          c.plant_in-planted.ensures.between;
      now = right-nothing w.loaded c.plant_in-planted.new.draft.now w.table w.shown.now c.nothing-self-inside.result c.nothing-self-inside.ensures;
      before = subst (λ f. IsRight w.loaded f (all_rolled_back w.table) w.shown.kept w.old_knowledge) (sym kept) c.self.invariant.before;
      alone = subst (λ (f : Forest). in_detached f.nodes ≡ []) (sym kept) c.self.invariant.alone;
      indexes = c.self.invariant.indexes;
      cases = c.self.invariant.cases;
      plain = c.self.invariant.plain;
      held = c.self.invariant.held;
      bound = c.self.invariant.bound;
      first = c.self.invariant.first;
    }

pub returns-clause-done : goal.returns-clause-done
returns-clause-done c =
    let w = c.self.inside in
    let place = c.args.instance in
    let tree = c.in-Some-get.tree.now in
    let contents = contents_of_bare w.loaded.prefixes c.in-Some-get.tree.now 0 0 in
    let first : AreFirst w.loaded (Some c.in-Some.trees) = subst (AreFirst w.loaded) c.in-Some.is c.self.invariant.first in
    let own : contents_of_bare w.loaded.prefixes c.in-Some-get.tree.now 0 0 ≡ first_contents (construct profile (program_in w.loaded)) c.args.instance = (first place tree (sym c.in-Some-get.ensures.value)).contents in
    let after = standing_of (chosen_of w.indexes.items w.cases.items) w.loaded c.plant_in-planted.new.draft.now w.table w.flags.items w.shown.now c.plant_in-planted.new.tally in
    subst (λ (t : Twin). Makes (λ (n : NodeId). n.number) c.plant_in-planted.result after (plant profile (first_contents (construct profile (state_of t.now).form) place) (state_of t.now))) c.self.view_is
    (subst (λ d. Makes (λ (n : NodeId). n.number) c.plant_in-planted.result after (plant profile d (state_of (standing_of (chosen_of w.indexes.items w.cases.items) w.loaded w.draft.now w.table w.flags.items w.shown.now w.tally)))) own
    (tree-makes (chosen_of w.indexes.items w.cases.items) w.loaded w.draft.now w.table w.flags.items w.shown.now w.tally c.self.invariant.sound.many (length contents) (with_tree limits contents w.draft.now) c.plant_in-planted.new.draft c.plant_in-planted.new.tally
    c.plant_in-planted.result c.plant_in-planted.ensures.done))

pub unreachable-requires : goal.unreachable-requires
unreachable-requires c =
    let w = c.self.inside in
    let first : AreFirst w.loaded (Some c.in-Some.trees) = subst (AreFirst w.loaded) c.in-Some.is c.self.invariant.first in
    let own = first c.args.instance c.in-Some-get.tree.now (sym c.in-Some-get.ensures.value) in
    cc (sym c.in-Text.is ∙ own.is_element)
