use Rattle.std.proofs.Common.{◌≡◌, ◌<◌, ◌^◌, [], sym, subst}
use Rattle.xf_def_forest.specs.Changes.{copied, in_detached}
use Rattle.xf_def_forest.specs.Forest.{Forest}
use Rattle.xf_def_forest.specs.Limits.{limits}
use Rattle.xf_def_forest.specs.WellFormed.{HasTrees}
use Rattle.xf_binds.specs.Table.{all_rolled_back}
use Rattle.xf_engine_state.specs.Fit.{IsRight}
use Rattle.xf_engine_state.specs.Moving.{IsCopyable}
use Rattle.xf_engine_state.proofs.ComeLaws.{kept-between, right-nothing, sound-between, whole-copied}
use Rattle.xf_engine_state.proofs.work.Work.copy.Goals as goal

pub invariant_of-self : goal.invariant_of-self
invariant_of-self c =
    let w = c.self.inside in
    let n = c.args.node.number in
    let e = c.copy_in-copied.new.draft in
    let able : IsCopyable n w.draft.now = subst (IsCopyable n) c.forest-forest.ensures (c.is_copyable.ensures c.if-not-is_copyable.false) in
    let trees : HasTrees w.draft.now = subst HasTrees c.forest-forest.ensures c.are_counted.ensures.trees in
    let few : w.draft.now.next < 2 ^ 128 = subst (λ (f : Forest). f.next < 2 ^ 128) c.forest-forest.ensures c.are_counted.ensures.few in
    let later : HasTrees c.copy_in-copied.new.draft.now = subst HasTrees c.forest.ensures c.are_counted-2.ensures.trees in
    let kept : c.copy_in-copied.new.draft.kept ≡ w.draft.kept = kept-between w.draft c.copy_in-copied.new.draft (copied limits n w.draft.now) c.copy_in-copied.ensures.between in
    record {
      sound = sound-between w.loaded w.draft w.table w.flags.items w.old_flags.items w.built w.old_built c.self.invariant.sound c.copy_in-copied.new.draft (copied limits n w.draft.now)
          (λ m after small is now. whole-copied w.loaded w.table w.flags.items w.built w.draft.now trees few c.self.invariant.sound.now n m after small (subst HasTrees (sym now) later) able.movable is)
          c.copy_in-copied.ensures.between;
      now = right-nothing w.loaded c.copy_in-copied.new.draft.now w.table w.shown.now c.nothing-self-inside.result c.nothing-self-inside.ensures;
      before = subst (λ f. IsRight w.loaded f (all_rolled_back w.table) w.shown.kept w.old_knowledge) (sym kept) c.self.invariant.before;
      alone = subst (λ (f : Forest). in_detached f.nodes ≡ []) (sym kept) c.self.invariant.alone;
      indexes = c.self.invariant.indexes;
      cases = c.self.invariant.cases;
      plain = c.self.invariant.plain;
      held = c.self.invariant.held;
      bound = c.self.invariant.bound;
      first = c.self.invariant.first;
    }
