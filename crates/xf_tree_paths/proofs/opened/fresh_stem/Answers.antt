use Rattle.std.proofs.Common.{◌≡◌, ℕ, List, sym, ◌∙◌, subst}
use Rattle.std.specs.Prelude.{IfOk, string_bytes}
use Rattle.xf_def_forest.proofs.TextLaws.{in_forest}
use Rattle.xf_tree_paths.proofs.StemLemmas.{stem-root-is, stem-path-is}
use Rattle.xf_tree_paths.proofs.opened.fresh_stem.Goals as goal

pub returns-then-is_root : goal.returns-then-is_root
returns-then-is_root c =
    c.new.ensures.bytes ∙ stem-root-is c.args.forest.now.forest c.args.node.number (in_forest c.are_trees.ensures) (sym c.is_root.ensures ∙ c.if-is_root.true)

pub returns : goal.returns
returns c =
    let P : List ℕ → Type 0 = λ l. IfOk c.from_str.result (λ t. string_bytes t ≡ l) in
    subst P (c.as_str.ensures ∙ c.in_ok-path.ensures ∙ stem-path-is c.args.node.number c.args.forest.now.forest.nodes c.requires.live (sym c.is_root.ensures ∙ c.if-is_root.false)) c.from_str.ensures.ok
