-- Details, one element more.
use Rattle.std.proofs.Common.{◌≡◌, ℕ, suc, ◌+◌, ◌<◌, List, ◌∷◌, map, drop, length, get_or, None, sym, ap, ◌∙◌, add-one}
use Rattle.std.specs.declared.option.Option.{Option}
use Rattle.std.proofs.lemmas.List.{drop_more}
use Rattle.xf_name.specs.Bindings.{Bindings}
use Rattle.xf_form_refusals.specs.Rows.{Seen, shown}
use Rattle.xf_form_refusals.specs.declared.rows.Row.{Row}
use Rattle.xf_form_explain.specs.Details.{detail_at, detail_from, or_else}

pub detail_more : (n d : ℕ) (b : Bindings) (all : List Seen) (m : Option ℕ) (rows : List Row) (i : ℕ) (r : Row) → i < length rows → r ≡ get_or rows i r → detail_at n d b all m i (shown r) ≡ None
    → detail_from n d b all m i (map shown (drop i rows)) ≡ detail_from n d b all m (i + 1) (map shown (drop (i + 1) rows))
detail_more n d b all m rows i r h e none =
    ap (λ xs. detail_from n d b all m i (map shown xs)) (drop_more rows i r h ∙ ap (λ x. x ∷ drop (i + 1) rows) (sym e))
    ∙ ap (λ o. or_else o (detail_from n d b all m (suc i) (map shown (drop (i + 1) rows)))) none ∙ ap (λ k. detail_from n d b all m k (map shown (drop (i + 1) rows))) (sym (add-one i))
