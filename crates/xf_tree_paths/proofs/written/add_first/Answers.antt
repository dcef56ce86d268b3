use Rattle.std.proofs.Common.{◌≡◌, ℕ, ◌+◌, cond, refl, ap, sym, ◌∙◌}
use Rattle.std.specs.Prelude.{string_bytes}
use Rattle.std.specs.Str.{bytes_eq}
use Rattle.xf_tree_paths.specs.Family.{tallied}
use Rattle.xf_tree_paths.proofs.TallyLemmas.{tally-more}
use Rattle.xf_tree_paths.proofs.written.add_first.Goals as goal

pub returns : goal.returns
returns c =
    let tally = c.args.tally.now in
    let key = string_bytes c.in_ok-name.name in
    let same : key ≡ c.args.name.now = c.in_ok-name.ensures.ok in
    let one : 1 ≡ tallied tally key + 1 = sym (ap (λ k. tallied tally k + 1) same ∙ ap (λ k. k + 1) c.requires) in
    record {
      count = refl;
      tally = λ w. tally-more key tally c.insert.new.self 1 c.in_ok-insert.ensures.updates one w ∙ ap (λ t. cond {A = ℕ} (bytes_eq w t) 1 0 + tallied tally w) same;
    }
