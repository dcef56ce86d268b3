-- The types of schemas, one element after the other.
use Rattle.std.proofs.Common.{◌≡◌, ℕ, suc, ◌+◌, ◌<◌, List, [], ◌∷◌, ◌++◌, map, drop, length, get_or, sym, ap, ◌∙◌, append_assoc, add-one}
use Rattle.std.proofs.lemmas.List.{drop_more}
use Rattle.xf_name.specs.Bindings.{Bindings}
use Rattle.xf_schema.specs.declared.written.Restriction.{Restriction}
use Rattle.xf_form_refusals.specs.Rows.{Seen, shown}
use Rattle.xf_form_refusals.specs.Schemas.{type_at, types_from}
use Rattle.xf_form_refusals.specs.declared.rows.Row.{Row}

pub types_more : (b : Bindings) (all : List Seen) (rows : List Row) (i k : ℕ) (r : Row) (old new : List Restriction) → i < length rows → r ≡ get_or rows i r → k ≡ i → new ≡ old ++ type_at b all k (shown r)
    → new ++ types_from b all (i + 1) (map shown (drop (i + 1) rows)) ≡ old ++ types_from b all i (map shown (drop i rows))
types_more b all rows i k r old new h e same added =
    let rest = types_from b all (i + 1) (map shown (drop (i + 1) rows)) in
    ap (λ l. l ++ rest) (added ∙ ap (λ n. old ++ type_at b all n (shown r)) same)
    ∙ append_assoc old (type_at b all i (shown r)) rest
    ∙ ap (λ n. old ++ (type_at b all i (shown r) ++ types_from b all n (map shown (drop (i + 1) rows)))) (add-one i)
    ∙ ap (λ xs. old ++ types_from b all i (map shown xs)) (sym (drop_more rows i r h ∙ ap (λ x. x ∷ drop (i + 1) rows) (sym e)))
