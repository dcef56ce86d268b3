use Rattle.std.proofs.Common.{◌≡◌, ℕ, ◌<◌, ◌≤◌, List, [], ◌∷◌, length, get_or, ap, ◌∙◌, refl, zero, suc, arith, rules, tests}
use Rattle.xf_table.specs.declared.row.Row.{Row}
use Rattle.xf_table.specs.Rows.{Entry, entries_of}
use Rattle.xf_table.specs.Places.{name_at}
use Rattle.xf_table.proofs.RowLemmas.{length-entries_of}
use Rattle.xf_path.proofs.statics.name_of.Goals as goal

name_within : (rows : List Row) (place : ℕ) (other : Row) → place < length rows → (get_or rows place other).name.now ≡ name_at (entries_of rows) place
name_within [] place other h = absurd (omega arith)
name_within (row ∷ rows) zero other h = refl
name_within (row ∷ rows) (suc place) other h = name_within rows place other (omega arith)

name_past : (rows : List Entry) (at : ℕ) → length rows ≤ at → [] ≡ name_at rows at
name_past [] at h = refl
name_past (row ∷ rows) zero h = absurd (omega arith)
name_past (row ∷ rows) (suc at) h = name_past rows at (omega arith)

pub returns-in-Some : goal.returns-in-Some
returns-in-Some c =
    let rows = c.rows.result.now in
    let row = c.in-Some.row.now in
    let within : c.args.code < length rows = search (rules, tests) in
    ap (λ r. r.name.now) c.in-Some.ensures.lookup.1 ∙ name_within rows c.args.code row within ∙ ap (λ entries. name_at entries c.args.code) c.rows.ensures.rows

pub returns-in-None : goal.returns-in-None
returns-in-None c =
    name_past (entries_of c.rows.result.now) c.args.code (omega (arith, length-entries_of c.rows.result.now, c.in-None.ensures.lookup.3))
    ∙ ap (λ rows. name_at rows c.args.code) c.rows.ensures.rows
