-- Places in the tree that a form was read from, and the numbers that digits are.
use Rattle.std.proofs.Common.{◌≡◌, ◌≤◌, ℕ, suc, true, not, ◌&&◌, nat_eq, nat_le, rules, List, [], ◌∷◌, ◌++◌, length, slice_get, Some, Result, Ok, Err, ap, sym, ◌∙◌, append_assoc, arith}
use Rattle.std.specs.List.{list_all}
use Rattle.std.specs.Str.Parse.{ParsesUnsigned}
use Rattle.std.proofs.lemmas.Bool.{and_parts, leb-true, cond-true}
use Rattle.std.proofs.lemmas.Str.Parse.{IsNumeralModel, numerals_by_fold, parse_gives, digits_value_short}
use Rattle.xf_form_refusals.specs.Rows.{Seen}
use Rattle.xf_form_vocabulary.specs.Texts.{is_digit, is_count}
use Rattle.xf_form.specs.Elements.{read_on, start_of}
use Rattle.xf_form.specs.Models.{places_to, through, below}

-- the place of an element goes behind those of the element around it
pub places_step : (depth rest place parent : ℕ) (all : List Seen) (r : Seen) (old mid new : List ℕ) → depth ≡ suc rest → slice_get all place ≡ Some r → r.standing.parent ≡ Some parent
    → mid ≡ old ++ places_to rest all parent → new ≡ mid ++ r.at ∷ [] → new ≡ old ++ places_to depth all place
unfolding places_to
places_step depth rest place parent all r old mid new deep here around above last =
    let told : places_to depth all place ≡ places_to rest all parent ++ r.at ∷ [] =
    ap (λ d. places_to d all place) deep ∙ ap (through (places_to rest all)) here ∙ ap (λ p. below (places_to rest all) p r.at) around in
    last ∙ ap (λ l. l ++ r.at ∷ []) above ∙ append_assoc old (places_to rest all parent) (r.at ∷ []) ∙ ap (λ l. old ++ l) (sym told)

-- ---- digits

numerals : IsNumeralModel (λ ds. list_all is_digit ds ≡ true) (read_on 0)
numerals = numerals_by_fold _ (search rules) read_on (search rules)

pub index_is : {E : Type 0} (text : List ℕ) (r : Result ℕ E) → ParsesUnsigned 32 10 text r → is_count text ≡ true → r ≡ Ok (read_on 0 text)
index_is [] r h counts = cc
index_is (d ∷ ds) r h counts =
    let text : List ℕ = d ∷ ds in
    let outer = and_parts (not (nat_eq (length text) 0) && nat_le (length text) 9) (list_all is_digit text) counts in
    let inner = and_parts (not (nat_eq (length text) 0)) (nat_le (length text) 9) outer.0 in
    let short : length text ≤ 9 = leb-true (length text) 9 inner.1 in
    parse_gives numerals 32 text r h outer.1 (omega arith) (omega (arith, digits_value_short numerals text 9 outer.1 short))

start_when : (text : List ℕ) → is_count text ≡ true → start_of text ≡ read_on 0 text
start_when text counts = cond-true (is_count text) (read_on 0 text) 1 counts

pub start_ok : {E : Type 0} (text : List ℕ) (r : Result ℕ E) (index : ℕ) → ParsesUnsigned 32 10 text r → is_count text ≡ true → r ≡ Ok index → index ≡ start_of text
start_ok text r index h counts is =
    let same = index_is text r h counts in
    let start = start_when text counts in
    cc

pub start_err : {E : Type 0} (text : List ℕ) (r : Result ℕ E) (fault : E) (other : ℕ) → ParsesUnsigned 32 10 text r → is_count text ≡ true → r ≡ Err fault → other ≡ start_of text
start_err text r fault other h counts is =
    let same = index_is text r h counts in
    cc
