use Rattle.std.proofs.Common.{refl}
use Rattle.std.proofs.lemmas.Result.{on_ok_weaker}
use Rattle.xf_def_form.specs.Formed.{profile}
use Rattle.xf_engine_state.specs.Parts.{chosen_of, standing_of}
use Rattle.xf_engine_state.specs.Standing.{state_of}
use Rattle.xf_engine_state.proofs.ContextLaws.{quiet-same}
use Rattle.xf_engine_state.proofs.TextLaws.{is-state}
use Rattle.xf_engine_state.proofs.telling.push_text.Goals as goal

pub returns : goal.returns
returns c =
    let t = c.args.telling.now in
    let l = t.loaded.now in
    let forest = t.forest.now.forest in
    let chosen = chosen_of t.indexes.now t.cases.now in
    on_ok_weaker c.push_state.result
    (λ h flags tally many.
    let standing = standing_of chosen l forest t.table.now flags t.controls.now tally in
    h profile (state_of standing) (is-state chosen l forest t.table.now flags t.controls.now tally many _ refl refl (quiet-same standing)))
    c.push_state.ensures
