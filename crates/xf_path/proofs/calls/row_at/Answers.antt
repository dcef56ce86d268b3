use Rattle.std.proofs.Common.{◌≡◌, ℕ, ◌<◌, ◌≤◌, List, [], ◌∷◌, length, get_or, Some, None, ap, ◌∙◌, refl, zero, suc, arith, rules, tests}
use Rattle.xf_table.specs.declared.row.Row.{Row}
use Rattle.xf_table.specs.Rows.{Entry, entry_of, entries_of}
use Rattle.xf_table.proofs.RowLemmas.{length-entries_of}
use Rattle.xf_path.specs.Calls.{entry_at}
use Rattle.xf_path.proofs.calls.row_at.Goals as goal

entry_within : (rows : List Row) (place : ℕ) (other : Row) → place < length rows → Some (entry_of (get_or rows place other)) ≡ entry_at (entries_of rows) place
entry_within [] place other h = absurd (omega arith)
entry_within (row ∷ rows) zero other h = refl
entry_within (row ∷ rows) (suc place) other h = entry_within rows place other (omega arith)

entry_past : (rows : List Entry) (at : ℕ) → length rows ≤ at → None ≡ entry_at rows at
entry_past [] at h = refl
entry_past (row ∷ rows) zero h = absurd (omega arith)
entry_past (row ∷ rows) (suc at) h = entry_past rows at (omega arith)

pub returns-in-Some : goal.returns-in-Some
returns-in-Some c =
    let rows = c.rows.result.now in
    let row = c.in-Some.row.now in
    let within : c.args.code < length rows = search (rules, tests) in
    ap (λ r. Some (entry_of r)) c.in-Some.ensures.lookup.1 ∙ entry_within rows c.args.code row within ∙ ap (λ entries. entry_at entries c.args.code) c.rows.ensures.rows

pub returns-in-None : goal.returns-in-None
returns-in-None c =
    entry_past (entries_of c.rows.result.now) c.args.code (omega (arith, length-entries_of c.rows.result.now, c.in-None.ensures.lookup.3))
    ∙ ap (λ rows. entry_at rows c.args.code) c.rows.ensures.rows
