use Rattle.std.proofs.Common.{◌≡◌, Ok, sym, ap, ◌∙◌, subst}
use Rattle.xf_funcs.specs.Called.{called}
use Rattle.xf_def_model.specs.Rules.{scope_of}
use Rattle.xf_binds_rebuild.specs.Rebuilt.{IsStopped, rebuilt}
use Rattle.xf_engine_state.specs.Around.{given_by, given_in, numbers_of}
use Rattle.xf_engine_state.specs.Built.{scope_at}
use Rattle.xf_engine_state.specs.Told.{IsTold}
use Rattle.xf_engine_state.proofs.AroundLaws.{around-stands}
use Rattle.xf_engine_state.proofs.FixedLaws.{are-fixed}
use Rattle.xf_engine_state.proofs.FoundLaws.{given-found}
use Rattle.xf_engine_state.proofs.KnownLaws.{rebuilt-marks}
use Rattle.xf_engine_state.proofs.RebuildLaws.{after-kept, after-many, after-rebuild, rebuild-done, stopped-does}
use Rattle.xf_engine_state.proofs.WholeLaws.{renewed}
use Rattle.xf_engine_state.proofs.rebuilding.rebuild.Goals.{After-rebuild, In-Ok}
use Rattle.xf_engine_state.proofs.rebuilding.rebuild.Goals as goal

-- what surrounds the binds
given-is : (c : After-rebuild) → given_by c.as_slice-instances.result.now c.args.loaded.now.prefixes c.args.loaded.now.form.decimals (numbers_of c.as_slice.result.now) ≡ given_in c.args.loaded.now.form.tables.instances c.args.loaded.now.prefixes c.args.loaded.now.form.decimals c.args.forest.now.forest
given-is c =
    given-found c.args.loaded.now.form.tables.instances c.as_slice-instances.result.now c.args.loaded.now.prefixes c.args.loaded.now.form.decimals c.args.forest.now.forest (numbers_of c.as_slice.result.now) c.as_slice-instances.ensures
    (ap numbers_of c.as_slice.ensures.value ∙ c.in_ok-documents.ensures.all)

-- the table as it is rebuilt
rebuilt-is : (c : In-Ok) → rebuilt (scope_at c.args.loaded.now c.args.forest.now.forest c.args.model) c.args.forest.now.forest.nodes c.args.table.now ≡ Ok c.rebuild.new.table
rebuilt-is c =
    sym (ap (λ g. rebuilt (scope_of called g c.args.loaded.now.form.tables c.args.model) c.args.forest.now.forest.nodes c.args.table.now) (given-is (goal.at.In-Ok c).After-rebuild)) ∙ c.in-Ok.ensures.answer

pub rebuild-requires-clause-fixed : goal.rebuild-requires-clause-fixed
rebuild-requires-clause-fixed c = are-fixed c.args.loaded.now c.requires.loaded

pub rebuild-requires-clause-stands : goal.rebuild-requires-clause-stands
rebuild-requires-clause-stands c =
    around-stands c.as_slice-instances.result.now c.args.loaded.now.prefixes c.args.loaded.now.form.decimals c.args.forest.now.forest.nodes (numbers_of c.as_slice.result.now) (ap numbers_of c.as_slice.ensures.value ∙ c.in_ok-documents.ensures.all)

pub returns-in-Ok-clause-done : goal.returns-in-Ok-clause-done
returns-in-Ok-clause-done c = λ chosen flags controls tally many.
    rebuild-done chosen c.args.loaded.now c.requires.loaded c.args.forest.now.forest c.args.model c.args.table.now flags controls tally many c.requires.model c.rebuild.new.table (rebuilt-is (goal.at.returns-in-Ok-clause-done c).In-Ok)

pub returns-in-Ok-clause-built : goal.returns-in-Ok-clause-built
returns-in-Ok-clause-built c =
    renewed (scope_at c.args.loaded.now c.args.forest.now.forest c.args.model) c.args.forest.now.forest.nodes c.args.table.now c.rebuild.new.table c.requires.model (rebuilt-is (goal.at.returns-in-Ok-clause-built c).In-Ok)

pub returns-in-Ok-clause-marks : goal.returns-in-Ok-clause-marks
returns-in-Ok-clause-marks c =
    rebuilt-marks c.args.table.now c.args.model c.rebuild.new.table c.requires.model
    (after-rebuild (scope_at c.args.loaded.now c.args.forest.now.forest c.args.model) c.args.forest.now.forest.nodes c.args.table.now c.rebuild.new.table (rebuilt-is (goal.at.returns-in-Ok-clause-marks c).In-Ok))

pub returns-in-Ok-clause-kept : goal.returns-in-Ok-clause-kept
returns-in-Ok-clause-kept c =
    after-kept c.args.table.now c.args.model c.rebuild.new.table c.requires.model
    (after-rebuild (scope_at c.args.loaded.now c.args.forest.now.forest c.args.model) c.args.forest.now.forest.nodes c.args.table.now c.rebuild.new.table (rebuilt-is (goal.at.returns-in-Ok-clause-kept c).In-Ok))

pub returns-in-Ok-clause-models : goal.returns-in-Ok-clause-models
returns-in-Ok-clause-models c =
    after-many c.args.table.now c.args.model c.rebuild.new.table
    (after-rebuild (scope_at c.args.loaded.now c.args.forest.now.forest c.args.model) c.args.forest.now.forest.nodes c.args.table.now c.rebuild.new.table (rebuilt-is (goal.at.returns-in-Ok-clause-models c).In-Ok))

pub returns-clause-done : goal.returns-clause-done
returns-clause-done c = λ chosen flags controls tally many.
    let l = c.args.loaded.now in
    let forest = c.args.forest.now.forest in
    stopped-does chosen l c.requires.loaded forest c.args.model c.args.table.now flags controls tally many c.requires.model _ c.in-Err.fault c.told.result
    (subst (λ g. IsStopped c.in-Err.fault (rebuilt (scope_of called g l.form.tables c.args.model) forest.nodes c.args.table.now)) (given-is (goal.at.returns-clause-done c).After-rebuild) c.in-Err.ensures.answer)
    (subst (λ is. IsTold is forest c.in-Err.fault c.told.result) c.as_slice-instances.ensures c.told.ensures)
