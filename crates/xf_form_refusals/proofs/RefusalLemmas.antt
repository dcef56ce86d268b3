-- Refusals, by the calls that tell them.
use Rattle.std.proofs.Common.{◌≡◌, ℕ, suc, ◌+◌, ◌<◌, List, [], ◌∷◌, ◌++◌, map, drop, length, get_or, false, nat_lt, nat_le, nat_eq, cond, Some, None, sym, ap, ◌∙◌, append_assoc, add-one}
use Rattle.std.specs.declared.option.Option.{Option}
use Rattle.std.specs.Prelude.{codes, count_by}
use Rattle.std.proofs.lemmas.Bool.{lt-leb}
use Rattle.std.proofs.lemmas.List.{drop_more}
use Rattle.xf_def_syntax.specs.declared.element.Part.{Part}
use Rattle.xf_name.specs.Bindings.{Bindings}
use Rattle.xf_name.specs.declared.lit.Pair.{Pair}
use Rattle.xf_form_vocabulary.specs.declared.rules.Wanted.{Wanted}
use Rattle.xf_form_refusals.specs.Classes.{class_of, count_called}
use Rattle.xf_form_refusals.specs.Paths.{name_text, is_like, is_like_up_to, siblings, step, in_brackets, index_among}
use Rattle.xf_form_refusals.specs.Refusals.{shares_id_by, is_missing, first_from, refusal_at, or_later}
use Rattle.xf_form_refusals.specs.Rows.{Seen, shown, id_in}
use Rattle.xf_form_refusals.specs.declared.classes.Class.{Class}
use Rattle.xf_form_refusals.specs.declared.classes.Class.TheVariants as class
use Rattle.xf_form_refusals.specs.declared.rows.Row.{Row}

pub shared_by : (all : List Seen) (ps qs : List Pair) (id : List ℕ) (k : ℕ) → Some id ≡ id_in ps → ps ≡ qs → k ≡ count_called class.Outside all id → nat_lt 1 k ≡ shares_id_by all (id_in qs)
shared_by all ps qs id k told same is = ap (nat_lt 1) is ∙ ap (shares_id_by all) (told ∙ ap id_in same)

pub missing_by : (all : List Seen) (w : Wanted) (o : Option Wanted) (id : List ℕ) (c : Class) (k : ℕ) → Some w ≡ o → c ≡ class_of w → k ≡ count_called c all id → nat_eq k 0 ≡ is_missing all o id
missing_by all w o id c k told is counted = ap (λ n. nat_eq n 0) (counted ∙ ap (λ x. count_called x all id) is) ∙ ap (λ x. is_missing all x id) told

-- one element more without a refusal
pub first_more : (d : ℕ) (b : Bindings) (all : List Seen) (m : Option ℕ) (rows : List Row) (i : ℕ) (r : Row) → i < length rows → r ≡ get_or rows i r → refusal_at d b all m i (shown r) ≡ None
    → first_from d b all m i (map shown (drop i rows)) ≡ first_from d b all m (i + 1) (map shown (drop (i + 1) rows))
first_more d b all m rows i r h e none =
    ap (λ xs. first_from d b all m i (map shown xs)) (drop_more rows i r h ∙ ap (λ x. x ∷ drop (i + 1) rows) (sym e))
    ∙ ap (λ o. or_later i o (first_from d b all m (suc i) (map shown (drop (i + 1) rows)))) none ∙ ap (λ k. first_from d b all m k (map shown (drop (i + 1) rows))) (sym (add-one i))

over_one : (k : ℕ) → 1 < k → nat_le k 1 ≡ false
over_one k h = lt-leb k 1 h

-- a step with a number
pub step_numbered : (all : List Seen) (r : Seen) (place total k : ℕ) (path first second new name : List ℕ) (parts : List Part) → first ≡ path ++ codes "/" → second ≡ first ++ name_text name → new ≡ second ++ in_brackets k → name ≡ r.name
    → parts ≡ siblings all r → total ≡ count_by (is_like all name) parts → k ≡ count_by (is_like_up_to all name place) parts → 1 < total → new ≡ path ++ step all r place
step_numbered all r place total k path first second new name parts one two three named same counted numbered many =
    let index : List ℕ = in_brackets (count_by (is_like_up_to all name place) parts) in
    let told : index_among all parts name place ≡ in_brackets k = ap (λ t. cond t [] index) (ap (λ n. nat_le n 1) (sym counted) ∙ over_one total many) ∙ ap in_brackets (sym numbered) in
    three ∙ ap (λ l. l ++ in_brackets k) (two ∙ ap (λ l. l ++ name_text name) one) ∙ ap (λ l. ((path ++ codes "/") ++ name_text name) ++ l) (sym told)
    ∙ append_assoc (path ++ codes "/") (name_text name) (index_among all parts name place) ∙ append_assoc path (codes "/") (name_text name ++ index_among all parts name place)
    ∙ ap (λ ps. path ++ (codes "/" ++ (name_text name ++ index_among all ps name place))) same ∙ ap (λ x. path ++ (codes "/" ++ (name_text x ++ index_among all (siblings all r) x place))) named
