use Rattle.std.proofs.Common.{◌≡◌, ℕ, List, slice_get, ◌∙◌, arith}
use Rattle.xf_def_forest.specs.Forest.{written_with}
use Rattle.xf_tree_contents.proofs.WrittenLemmas.{byte-bare, byte-before, byte-between, byte-behind}
use Rattle.xf_tree_contents.proofs.written.byte_of.Goals as goal

same : (prefix prefix2 local local2 : List ℕ) (i : ℕ) → prefix ≡ prefix2 → local ≡ local2 → slice_get (written_with prefix local) i ≡ slice_get (written_with prefix2 local2) i
same prefix prefix2 local local2 i e f = cc

pub returns-then-is_empty : goal.returns-then-is_empty
returns-then-is_empty c =
    let prefix = c.as_bytes-prefix.result.now in
    let local = c.as_bytes-local.result.now in
    c.byte_in.ensures ∙ byte-bare prefix local c.args.at c.if-is_empty.ensures ∙ same prefix c.args.name.now.prefix local c.args.name.now.meaning.local c.args.at c.as_bytes-prefix.ensures c.as_bytes-local.ensures

pub returns-then-at-prefix : goal.returns-then-at-prefix
returns-then-at-prefix c =
    let prefix = c.as_bytes-prefix.result.now in
    let local = c.as_bytes-local.result.now in
    c.byte_in-then-at-prefix.ensures ∙ byte-before prefix local c.args.at c.if-at-prefix.true ∙ same prefix c.args.name.now.prefix local c.args.name.now.meaning.local c.args.at c.as_bytes-prefix.ensures c.as_bytes-local.ensures

pub returns-then-at-prefix-2 : goal.returns-then-at-prefix-2
returns-then-at-prefix-2 c =
    let prefix = c.as_bytes-prefix.result.now in
    let local = c.as_bytes-local.result.now in
    byte-between prefix local c.args.at c.if-is_empty.ensures c.if-at-prefix-2.true ∙ same prefix c.args.name.now.prefix local c.args.name.now.meaning.local c.args.at c.as_bytes-prefix.ensures c.as_bytes-local.ensures

pub returns : goal.returns
returns c =
    let prefix = c.as_bytes-prefix.result.now in
    let local = c.as_bytes-local.result.now in
    c.byte_in-2.ensures ∙ byte-behind prefix local c.args.at _ c.if-is_empty.ensures (omega (arith, c.if-at-prefix.false, c.if-at-prefix-2.false)) ∙ same prefix c.args.name.now.prefix local c.args.name.now.meaning.local c.args.at c.as_bytes-prefix.ensures c.as_bytes-local.ensures
