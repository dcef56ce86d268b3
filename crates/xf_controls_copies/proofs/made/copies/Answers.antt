use Rattle.std.proofs.Common.{◌≡◌, [], length, map, refl, sym, ap, ◌∙◌}
use Rattle.std.proofs.lemmas.List.{length-map}
use Rattle.std.proofs.lemmas.Result.{err_from_is_err_and}
use Rattle.xf_def_ui.specs.Copies.{copies}
use Rattle.xf_def_ui.specs.Index.{seeing}
use Rattle.xf_def_ui.specs.Interface.{Interface, element_of, interface_of}
use Rattle.xf_eval_context.specs.Indexes.{seen_index}
use Rattle.xf_eval_context.specs.Over.{around_over}
use Rattle.xf_controls.specs.Seen.{seen_copy}
use Rattle.xf_controls_copies.specs.Made.{behind, copies_at}
use Rattle.xf_controls_copies.proofs.MadeLaws.{begun}
use Rattle.xf_controls_copies.proofs.PutLaws.{behind-first, puts-bounded}
use Rattle.xf_controls_copies.proofs.made.copies.Goals as goal

pub returns-in_err-push_all : goal.returns-in_err-push_all
returns-in_err-push_all g c =
    let o = c.args.over.now in
    let form = o.form.now in
    let f = interface_of form in
    let a = seeing f (map seen_index c.args.indexes.now) (around_over o) in
    let marks = g.M.NodeMarks.marks_of c.args.marks.now in
    let cases = c.args.cases.now in
    let s = c.seeing.result in
    let most = c.len-most.result in
    let given = copies_at most (interface_of s.form.now) (around_over s) marks cases [] 0 in
    let whole = copies f (around_over o) marks cases (map seen_index c.args.indexes.now) in
    let same : given ≡ whole =
    begun f a marks cases (interface_of s.form.now) (around_over s) (length form.elements) most [] c.seeing.ensures.interface c.seeing.ensures.around c.len-most.ensures (sym (length-map form.elements (element_of form.tables))) refl in
    let p = err_from_is_err_and c.from_residual.result c.from_residual.ensures.1 in
    rw (p.1, p.2) (puts-bounded _ (map seen_copy c.new-all.result) (map seen_copy c.push_all.new.all) given whole (λ h. sym same ∙ h) c.in_err-push_all.ensures)

pub returns : goal.returns
returns g c =
    let o = c.args.over.now in
    let form = o.form.now in
    let f = interface_of form in
    let a = seeing f (map seen_index c.args.indexes.now) (around_over o) in
    let marks = g.M.NodeMarks.marks_of c.args.marks.now in
    let cases = c.args.cases.now in
    let s = c.seeing.result in
    let most = c.len-most.result in
    let given = copies_at most (interface_of s.form.now) (around_over s) marks cases [] 0 in
    let whole = copies f (around_over o) marks cases (map seen_index c.args.indexes.now) in
    let same : given ≡ whole =
    begun f a marks cases (interface_of s.form.now) (around_over s) (length form.elements) most [] c.seeing.ensures.interface c.seeing.ensures.around c.len-most.ensures (sym (length-map form.elements (element_of form.tables))) refl in
    sym same
    ∙ behind-first given (map seen_copy c.push_all.new.all) (ap (λ l. behind (map seen_copy l) given) (sym c.new-all.ensures) ∙ c.in_ok-push_all.ensures)

pub push_all-requires : goal.push_all-requires
push_all-requires g c =
    let form = c.args.over.now.form.now in
    record {
      whole = c.len-most.ensures ∙ sym (length-map form.elements (element_of form.tables)) ∙ sym (ap (λ (f : Interface). length f.elements) c.seeing.ensures.interface);
    }
