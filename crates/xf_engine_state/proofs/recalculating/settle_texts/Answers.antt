use Rattle.std.proofs.Common.{◌<◌, ◌^◌, length, map, sym, ap, ◌∙◌, subst, arith}
use Rattle.xf_def_forest.specs.Forest.{Forest}
use Rattle.xf_def_forest.specs.Shape.{shape_of}
use Rattle.xf_def_forest.specs.WellFormed.{HasTrees}
use Rattle.xf_def_forest.proofs.TextLaws.{in_forest}
use Rattle.xf_binds.specs.Table.{kept_at}
use Rattle.xf_binds_rebuild.specs.Web.{asks_of}
use Rattle.xf_recalc.specs.Passes.{ArePassed}
use Rattle.xf_recalc.specs.Settles.{IsLeft, IsSettled, IsTold, MaySettle, scope_in, words_of}
use Rattle.xf_engine_state.specs.Around.{documents_from, given_in, numbers_of}
use Rattle.xf_engine_state.specs.Settling.{IsPassed}
use Rattle.xf_engine_state.proofs.FoundLaws.{given-found}
use Rattle.xf_engine_state.proofs.KnownLaws.{are-passed, known-anew}
use Rattle.xf_engine_state.proofs.MaySettleLaws.{may-settle}
use Rattle.xf_engine_state.proofs.RecalculateLaws.{told-passed}
use Rattle.xf_engine_state.proofs.SettleLaws.{left-whole, settled-whole}
use Rattle.xf_engine_state.proofs.recalculating.settle_texts.Goals as goal

pub settle-settled-requires-clause-may : goal.settle-settled-requires-clause-may
settle-settled-requires-clause-may c =
    let l = c.args.loaded.now in
    let d = c.args.draft.now.now in
    let given = given-found l.form.tables.instances c.as_slice-instances.result.now l.prefixes l.form.decimals d (numbers_of c.as_slice.result.now) c.as_slice-instances.ensures
    (ap numbers_of c.as_slice.ensures.value ∙ c.in_ok-documents.ensures.all ∙ ap (λ (f : Forest). documents_from 0 c.as_slice-instances.result.now f.nodes) c.forest.ensures) in
    let trees : HasTrees d = subst HasTrees c.forest-2.ensures (in_forest c.are_trees.ensures) in
    let n = c.next_number.ensures in
    let f = ap (λ (x : Forest). x.next) c.forest-3.ensures in
    let b = c.if-next_number-gt-NUMBERS.false in
    let small : d.next < 2 ^ 126 = omega (arith, n, f, b) in
    let may = may-settle l d c.args.model (kept_at c.args.table.now c.args.model) c.requires.loaded trees c.requires.hung small c.requires.built in
    subst (λ g. MaySettle g l.form.tables c.args.model d (kept_at c.args.table.now c.args.model).entries) (sym given) may

pub settle-settled-requires-clause-asked : goal.settle-settled-requires-clause-asked
settle-settled-requires-clause-asked c =
    let l = c.args.loaded.now in
    let d = c.args.draft.now.now in
    let given = given-found l.form.tables.instances c.as_slice-instances.result.now l.prefixes l.form.decimals d (numbers_of c.as_slice.result.now) c.as_slice-instances.ensures
    (ap numbers_of c.as_slice.ensures.value ∙ c.in_ok-documents.ensures.all ∙ ap (λ (f : Forest). documents_from 0 c.as_slice-instances.result.now f.nodes) c.forest.ensures) in
    c.requires.built.asks
    ∙ sym (ap (λ g. map (asks_of (scope_in g l.form.tables c.args.model) (shape_of d.nodes)) (kept_at c.args.table.now c.args.model).entries) given)

pub settle-settled-requires-clause-passes : goal.settle-settled-requires-clause-passes
settle-settled-requires-clause-passes c =
    let l = c.args.loaded.now in
    let d = c.args.draft.now.now in
    let k = kept_at c.args.table.now c.args.model in
    let given = given-found l.form.tables.instances c.as_slice-instances.result.now l.prefixes l.form.decimals d (numbers_of c.as_slice.result.now) c.as_slice-instances.ensures
    (ap numbers_of c.as_slice.ensures.value ∙ c.in_ok-documents.ensures.all ∙ ap (λ (f : Forest). documents_from 0 c.as_slice-instances.result.now f.nodes) c.forest.ensures) in
    let trees : HasTrees d = subst HasTrees c.forest-2.ensures (in_forest c.are_trees.ensures) in
    let n = c.next_number.ensures in
    let f = ap (λ (x : Forest). x.next) c.forest-3.ensures in
    let b = c.if-next_number-gt-NUMBERS.false in
    let small : d.next < 2 ^ 126 = omega (arith, n, f, b) in
    let many : length k.entries < 2 ^ 64 = let e = c.len.ensures in let t = c.len.type_inv in omega (arith, e, t) in
    subst (λ g. ArePassed g l.form.tables c.args.model d k c.args.marks.now) (sym given)
    (are-passed l d c.args.model k c.requires.loaded trees c.requires.hung small many c.requires.built c.args.marks.now c.requires.passes)

pub returns-in-Ok-clause-known : goal.returns-in-Ok-clause-known
returns-in-Ok-clause-known c = λ alone.
    let l = c.args.loaded.now in
    let d = c.args.draft.now.now in
    let k = kept_at c.args.table.now c.args.model in
    let given = given-found l.form.tables.instances c.as_slice-instances.result.now l.prefixes l.form.decimals d (numbers_of c.as_slice.result.now) c.as_slice-instances.ensures
    (ap numbers_of c.as_slice.ensures.value ∙ c.in_ok-documents.ensures.all ∙ ap (λ (f : Forest). documents_from 0 c.as_slice-instances.result.now f.nodes) c.forest.ensures) in
    let trees : HasTrees d = subst HasTrees c.forest-2.ensures (in_forest c.are_trees.ensures) in
    let n = c.next_number.ensures in
    let f = ap (λ (x : Forest). x.next) c.forest-3.ensures in
    let b = c.if-next_number-gt-NUMBERS.false in
    let small : d.next < 2 ^ 126 = omega (arith, n, f, b) in
    let many : length k.entries < 2 ^ 64 = let e = c.len.ensures in let t = c.len.type_inv in omega (arith, e, t) in
    let may = may-settle l d c.args.model k c.requires.loaded trees c.requires.hung small c.requires.built in
    let e = c.settle-settled.new.draft.now in
    let stands : HasTrees e = subst HasTrees c.forest-4.ensures (in_forest c.are_trees-2.ensures) in
    known-anew l d c.args.model k c.requires.loaded trees c.requires.hung small many c.requires.built alone e c.in-Ok.truths
    (subst (λ g. IsSettled (scope_in g l.form.tables c.args.model) k.entries d e c.in-Ok.truths) given c.in-Ok.ensures.ok) may stands

pub returns-in-Ok-clause-ok : goal.returns-in-Ok-clause-ok
returns-in-Ok-clause-ok c =
    let l = c.args.loaded.now in
    let d = c.args.draft.now.now in
    let given = given-found l.form.tables.instances c.as_slice-instances.result.now l.prefixes l.form.decimals d (numbers_of c.as_slice.result.now) c.as_slice-instances.ensures
    (ap numbers_of c.as_slice.ensures.value ∙ c.in_ok-documents.ensures.all ∙ ap (λ (f : Forest). documents_from 0 c.as_slice-instances.result.now f.nodes) c.forest.ensures) in
    subst (λ g. IsSettled (scope_in g l.form.tables c.args.model) (kept_at c.args.table.now c.args.model).entries d c.settle-settled.new.draft.now c.in-Ok.truths) given c.in-Ok.ensures.ok

pub returns-in-Ok-clause-whole : goal.returns-in-Ok-clause-whole
returns-in-Ok-clause-whole c =
    let l = c.args.loaded.now in
    let d = c.args.draft.now.now in
    let given = given-found l.form.tables.instances c.as_slice-instances.result.now l.prefixes l.form.decimals d (numbers_of c.as_slice.result.now) c.as_slice-instances.ensures
    (ap numbers_of c.as_slice.ensures.value ∙ c.in_ok-documents.ensures.all ∙ ap (λ (f : Forest). documents_from 0 c.as_slice-instances.result.now f.nodes) c.forest.ensures) in
    let trees : HasTrees d = subst HasTrees c.forest-2.ensures (in_forest c.are_trees.ensures) in
    let n = c.next_number.ensures in
    let f = ap (λ (x : Forest). x.next) c.forest-3.ensures in
    let b = c.if-next_number-gt-NUMBERS.false in
    let small : d.next < 2 ^ 126 = omega (arith, n, f, b) in
    let may = may-settle l d c.args.model (kept_at c.args.table.now c.args.model) c.requires.loaded trees c.requires.hung small c.requires.built in
    let e = c.settle-settled.new.draft.now in
    let es = (kept_at c.args.table.now c.args.model).entries in
    let stands : HasTrees e = subst HasTrees c.forest-4.ensures (in_forest c.are_trees-2.ensures) in
    settled-whole _ l.form.tables c.args.model d es may l e stands c.requires.hung (subst (λ g. IsSettled (scope_in g l.form.tables c.args.model) es d e c.in-Ok.truths) given c.in-Ok.ensures.ok).written

pub returns-clause-err : goal.returns-clause-err
returns-clause-err c =
    let l = c.args.loaded.now in
    let d = c.args.draft.now.now in
    let given = given-found l.form.tables.instances c.as_slice-instances.result.now l.prefixes l.form.decimals d (numbers_of c.as_slice.result.now) c.as_slice-instances.ensures
    (ap numbers_of c.as_slice.ensures.value ∙ c.in_ok-documents.ensures.all ∙ ap (λ (f : Forest). documents_from 0 c.as_slice-instances.result.now f.nodes) c.forest.ensures) in
    let es = (kept_at c.args.table.now c.args.model).entries in
    let told = subst (λ g. IsTold c.in-Err.fault (words_of (scope_in g l.form.tables c.args.model) es d)) given c.in-Err.ensures.err in
    subst (λ f. IsPassed f (words_of (scope_in (given_in l.form.tables.instances l.prefixes l.form.decimals d) l.form.tables c.args.model) es d)) (sym c.told.ensures) (told-passed c.in-Err.fault _ told)

pub returns-clause-whole : goal.returns-clause-whole
returns-clause-whole c =
    let l = c.args.loaded.now in
    let d = c.args.draft.now.now in
    let given = given-found l.form.tables.instances c.as_slice-instances.result.now l.prefixes l.form.decimals d (numbers_of c.as_slice.result.now) c.as_slice-instances.ensures
    (ap numbers_of c.as_slice.ensures.value ∙ c.in_ok-documents.ensures.all ∙ ap (λ (f : Forest). documents_from 0 c.as_slice-instances.result.now f.nodes) c.forest.ensures) in
    let trees : HasTrees d = subst HasTrees c.forest-2.ensures (in_forest c.are_trees.ensures) in
    let n = c.next_number.ensures in
    let f = ap (λ (x : Forest). x.next) c.forest-3.ensures in
    let b = c.if-next_number-gt-NUMBERS.false in
    let small : d.next < 2 ^ 126 = omega (arith, n, f, b) in
    let may = may-settle l d c.args.model (kept_at c.args.table.now c.args.model) c.requires.loaded trees c.requires.hung small c.requires.built in
    let e = c.settle-settled.new.draft.now in
    let es = (kept_at c.args.table.now c.args.model).entries in
    let stands : HasTrees e = subst HasTrees c.forest-4.ensures (in_forest c.are_trees-2.ensures) in
    left-whole _ l.form.tables c.args.model d es may l e stands c.requires.hung (subst (λ g. IsLeft (scope_in g l.form.tables c.args.model) es d e) given c.in-Err.ensures.left)
