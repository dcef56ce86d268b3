use Rattle.std.proofs.Common.{◌≡◌, ◌&&◌, ◌==◌, not, false, Bool, sym, ap, ◌∙◌, subst}
use Rattle.std.specs.List.{list_any}
use Rattle.std.proofs.lemmas.Bool.{false≢true}
use Rattle.slab.specs.Slab.{get}
use Rattle.xf_def_forest.specs.declared.content.Node.{Node}
use Rattle.xf_def_forest.specs.Forest.{is_root}
use Rattle.xf_def_forest.specs.Texts.{Keeping}
use Rattle.xf_tree_rows.specs.declared.rows.Row.{Row}
use Rattle.xf_tree_contents.specs.Keys.{content_in}
use Rattle.xf_tree.proofs.NamedLemmas.{named-at, named-none}
use Rattle.xf_tree.proofs.forest.Forest.may_copy.Goals as goal

pub returns-in-Some : goal.returns-in-Some
returns-in-Some c =
    let n = c.args.node.number in
    let s = c.self.inside.slots in
    let rows = c.self.inside.rows.items in
    let at = c.in-Some.at in
    let here = c.in-Some.ensures in
    let row = c.at.ensures in
    let test : Node → Bool = λ x. not (is_root x.content) in
    let is : not c.is_root_at.result ≡ list_any (λ (x : Node). (x.number == n) && test x) c.args.self.now.forest.nodes =
    ap not (c.is_root_at.ensures ∙ ap (λ (r : Row). is_root (content_in (get s r.key))) row)
    ∙ sym (named-at test s n at rows c.self.inside.kept.items c.self.inside.next c.self.invariant.sound here)
    ∙ ap (λ (k : Keeping). list_any (λ (x : Node). (x.number == n) && test x) k.forest.nodes) c.self.view_is in
    (λ e. sym is ∙ e, λ e. is ∙ e)

pub returns-in-None : goal.returns-in-None
returns-in-None c =
    let n = c.args.node.number in
    let s = c.self.inside.slots in
    let absent = c.in-None.ensures in
    let test : Node → Bool = λ x. not (is_root x.content) in
    let none = subst (λ (k : Keeping). list_any (λ (x : Node). (x.number == n) && test x) k.forest.nodes ≡ false) c.self.view_is (named-none n test _ absent) in
    (λ e. absurd (false≢true e), λ e. sym none ∙ e)
